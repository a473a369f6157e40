-- What reading a text answers: the number of the published definition, and the form of the query.
use Rattle.std.specs.Prelude.{◌≡◌, cond, length, Result, Ok, Err}
use Rattle.text.specs.Bytes.{Bytes}
use Rattle.buffer.specs.Numbers.{zeros}
use Rattle.language.specs.Answer.{accepted, number_of as answered}
use Rattle.language.specs.Refusals.{number_of}
use Rattle.language.specs.declared.refusals.Refusal.{Refusal}
use Rattle.language.specs.Surface.{Query}
use Rattle.language.specs.QueryText.{read_text}
use Rattle.query_tree.specs.Form.{tree_size, tree_of}
use Rattle.query_text_heads.specs.declared.Seen.{Seen}

-- The text s, the tree's bytes before and after, and what was answered: an accepted text's form is written over zeros.
pub record ReadsText (s t t' : Bytes) (r : Result Unit Refusal) : Type 0 where
  pub number : number_of r ≡ answered (read_text s)
  pub tree : (q : Query) → read_text s ≡ accepted q → t ≡ zeros tree_size → t' ≡ tree_of q
  pub long : length t' ≡ length t

-- A working definition: the first of 14, 15 and 16 whose condition was met.
unfoldable pub verdict_of : Seen → Result Unit Refusal
verdict_of n = cond n.deep (Err Refusal.TooDeep) (cond n.name (Err Refusal.BadName) (cond n.value (Err Refusal.BadPiece) (Ok tt)))
