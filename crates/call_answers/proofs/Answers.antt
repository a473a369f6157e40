-- What is told of one answer is told of another that is the same.
use Prim.Native.Nat.{ℕ}
use mathlib.Core.Path.{◌≡◌, sym, ap, ◌∙◌}
use Rattle.text.specs.Bytes.{Bytes}
use Rattle.language.specs.Answer.{Answer, number_of, left_in, Answered}

pub as_told : {a d : Answer Bytes} {b after : Bytes} {r : ℕ} → a ≡ d → Answered d b r after → Answered a b r after
as_told {b = b} e w = record { number = w.number ∙ ap number_of (sym e); bytes = w.bytes ∙ ap (left_in b) (sym e) }
