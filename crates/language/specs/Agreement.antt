-- When a query that was fitted to one register may be run on another. The third demand's grant: "each property it names has
-- the same kind in both, or isn't declared in the second".
use Rattle.std.specs.Prelude.{Bool, true, Option, Some, None}
use Rattle.text.specs.Bytes.{Bytes, all}
use Rattle.values.specs.declared.Kind.{Kind}
use Rattle.language.specs.Answer.{Answer, refused, accepted}
use Rattle.language.specs.Register.{Register, Typing, kinds_of, has_kind}
use Rattle.language.specs.Surface.{Query, properties_of}
use Rattle.language.specs.QueryText.{read_text}

-- The kind at fitting, and the kind in the register of the run.
abbrev pub agree : Option Kind → Option Kind → Bool
agree k None = true
agree k (Some l) = has_kind k l

unfoldable pub kinds_agree : Typing → Register → Query → Bool
kinds_agree Γ R q = all (λ x. agree (Γ x) (kinds_of R x)) (properties_of q)

-- The same of a text: nothing is asked of one that has no surface query.
abbrev pub answer_agrees : Typing → Register → Answer Query → Bool
answer_agrees Γ R (refused n) = true
answer_agrees Γ R (accepted q) = kinds_agree Γ R q

unfoldable pub text_agrees : Typing → Register → Bytes → Bool
text_agrees Γ R s = answer_agrees Γ R (read_text s)
