-- Working definitions: the stages of the query call.
use Rattle.std.specs.Prelude.{ℕ, ◌≡◌, Bool, true, false, take, Some, None}
use Rattle.text.specs.Bytes.{Bytes}
use Rattle.language.specs.Answer.{Answer, Answered, and_then}
use Rattle.language.specs.Register.{Typing, kinds_of}
use Rattle.language.specs.Surface.{Query}
use Rattle.language.specs.Elaboration.{fit}
use Rattle.register_form.specs.Form.{register_size, register_in, held_register}
use Rattle.query_tree_spelling.specs.Spelled.{has_text}
use Rattle.query_tree.specs.Form.{tree_of}
use Rattle.query_core.specs.Held.{query_size}
use Rattle.query_core.specs.Form.{query_of}
use Rattle.call_answers.specs.Calls.{written_in}

-- Whether bytes hold a register, and which.
abbrev pub TestsRegister : Bytes → Bool → Type 0
TestsRegister h true = held_register h ≡ Some (register_in (take register_size h))
TestsRegister h false = held_register h ≡ None

-- A query fitted to kinds and stored: the lowest of 17 to 20, or the bytes that are left in the buffer b.
unfoldable pub fitted_in : Typing → Query → Bytes → Answer Bytes
fitted_in Γ q b = and_then (fit Γ q) (λ c. written_in 20 query_size (query_of c) b)

-- t is the form of a query that some text has, g a register's form.
unfoldable pub FitsInto : Bytes → Bytes → Bytes → ℕ → Bytes → Type 0
FitsInto t g b r after = (q : Query) → has_text q ≡ true → t ≡ tree_of q → Answered (fitted_in (kinds_of (register_in g)) q b) b r after
