-- The third demand, as far as it is about definitions: texts, registers and marks.
use Rattle.std.specs.Prelude.{Option, Some, None}
use Prim.Native.Nat.{ℕ}
use mathlib.Core.Path.{◌≡◌, refl, ap}
use mathlib.Core.Bool.{Bool, true, false, cond}
use mathlib.Core.List.{List, [], ◌∷◌, map}
use native.Mathlib.Omega.{arith}
use lib.Dec.{ltb}
use Rattle.text.specs.Bytes.{Bytes, any, all}
use Rattle.values.specs.declared.Kind.{Kind}
use Rattle.language.specs.Answer.{Answer, refused, accepted, and_then, found}
use Rattle.language.specs.Register.{Register, Typing, kinds_of, kinds_hold}
use Rattle.language.specs.Surface.{Query, properties_of}
use Rattle.language.specs.QueryText.{read_text}
use Rattle.language.specs.Core.{Core, nodes}
use Rattle.language.specs.Elaboration.{elaborate, is_undeclared, fit}
use Rattle.language.specs.Semantics.{run}
use Rattle.language.specs.Direct.{means_answer, meaning, direct_marks}
use Rattle.language.specs.Agreement.{agree, kinds_agree, answer_agrees, text_agrees}
use Rattle.language.specs.Calls.{core_of}
use Rattle.language.proofs.Members.{both_true}
use Rattle.values.proofs.Sameness.{kind_refl}
use Rattle.language.proofs.Agreement.{agreement}

-- an accepted query was elaborated
pub fitted_is : (Γ : Typing) (q : Query) (c : Core) → fit Γ q ≡ accepted c → elaborate q Γ ≡ Some c
unfolding fit
fitted_is Γ q c h = declared (any (is_undeclared Γ) (properties_of q)) h
  where
    small : (d : Core) (b : Bool) → cond b (refused 19) (accepted d) ≡ accepted c → d ≡ c
    small d true h = absurd (let y : ◌≡◌ {A = ℕ} 0 1 = cc in omega arith)
    small d false h = cc

    fits : (o : Option Core) → found o (λ c. cond (ltb 256 (nodes c)) (refused 19) (accepted c)) (refused 18) ≡ accepted c → o ≡ Some c
    fits None h = absurd (let y : ◌≡◌ {A = ℕ} 0 1 = cc in omega arith)
    fits (Some d) h = ap Some (small d (ltb 256 (nodes d)) h)

    declared : (b : Bool) → cond b (refused 17) (found (elaborate q Γ) (λ c. cond (ltb 256 (nodes c)) (refused 19) (accepted c)) (refused 18)) ≡ accepted c → elaborate q Γ ≡ Some c
    declared true h = absurd (let y : ◌≡◌ {A = ℕ} 0 1 = cc in omega arith)
    declared false h = fits (elaborate q Γ) h

-- a register's kinds agree with themselves
pub own_kinds : (R : Register) (q : Query) → kinds_agree (kinds_of R) R q ≡ true
unfolding kinds_agree all
own_kinds R q = each (properties_of q)
  where
    same_kind_lem : (k : Option Kind) → agree k k ≡ true
    same_kind_lem None = refl
    same_kind_lem (Some k) = kind_refl k

    each : (l : List Bytes) → all (λ x. agree (kinds_of R x) (kinds_of R x)) l ≡ true
    each [] = refl
    each (x ∷ l) = both_true (same_kind_lem (kinds_of R x)) (each l)

-- Any query text accepted against a register, run on a register whose values have their properties' kinds, and whose kinds agree: the
-- run is accepted, and its marks are those of the direct meaning of the text.
pub text_agreement : (s : Bytes) (R : Register) (c : Core) (W : Register) → core_of R s ≡ accepted c → kinds_hold W ≡ true → text_agrees (kinds_of R) W s ≡ true → run c W ≡ accepted (direct_marks s W)
unfolding core_of meaning text_agrees
text_agreement s R c W h e g = go (read_text s) h g
  where
    go : (a : Answer Query) → and_then a (fit (kinds_of R)) ≡ accepted c → answer_agrees (kinds_of R) W a ≡ true → run c W ≡ accepted (map (means_answer a W) W.pages)
    go (refused n) h g = absurd (let y : ◌≡◌ {A = ℕ} 0 1 = cc in omega arith)
    go (accepted q) h g = agreement q (kinds_of R) c W (fitted_is (kinds_of R) q c h) e g
