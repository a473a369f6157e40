-- What fitting answers, in 01's numbers.
use Rattle.std.specs.Prelude.{ℕ, ◌≡◌, Bool, true, ◌&&◌, ◌||◌, eqb, leb, Result}
use Rattle.text.specs.Bytes.{Bytes}
use Rattle.buffer.specs.Numbers.{zeros}
use Rattle.language.specs.Answer.{accepted}
use Rattle.language.specs.Answer as Answer
use Rattle.language.specs.Refusals.{number_of}
use Rattle.language.specs.declared.refusals.Refusal.{Refusal}
use Rattle.language.specs.Register.{Typing}
use Rattle.language.specs.Surface.{Query}
use Rattle.language.specs.Core.{Core}
use Rattle.language.specs.Elaboration.{fit}
use Rattle.query_core.specs.Held.{query_size}
use Rattle.query_core.specs.Form.{query_of}
use Rattle.query_tree_spelling.specs.Spelled.{is_spelled}
use Rattle.query_tree.specs.Nodes.{tree}
use Rattle.query_tree.specs.Form.{nodes_in}

-- 0 or 17 to 19: no other number is answered, whatever the bytes.
abbrev pub is_fit_number : ℕ → Bool
is_fit_number n = eqb n 0 || (leb 17 n && leb n 19)

-- t are the bytes of a tree whose query keeps the rules, h a held query's buffer of zeros, h' the buffer afterwards.
pub record FitsTree (t : Bytes) (Γ : Typing) (h : Bytes) (r : Result Unit Refusal) (h' : Bytes) : Type 0 where
  pub number : (q : Query) → nodes_in t ≡ tree q → is_spelled q ≡ true → h ≡ zeros query_size → number_of r ≡ Answer.number_of (fit Γ q)
  pub bytes : (q : Query) (c : Core) → nodes_in t ≡ tree q → is_spelled q ≡ true → h ≡ zeros query_size → fit Γ q ≡ accepted c → h' ≡ query_of c
  pub among : is_fit_number (number_of r) ≡ true
