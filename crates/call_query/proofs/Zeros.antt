-- Reading and fitting refuse by no number 0.
use Rattle.std.specs.Prelude.{Option, Some, None}
use Prim.Native.Nat.{max}
use mathlib.Core.Path.{◌≡◌, refl}
use mathlib.Core.Bool.{Bool, true, false, cond}
use mathlib.Core.List.{[], ◌∷◌}
use native.Mathlib.Omega.{arith}
use lib.Dec.{ltb}
use lib.ListN.{length}
use Rattle.text.specs.Bytes.{Bytes, any}
use Rattle.language.specs.Answer.{Answer, refused, accepted, number_of, judge, ◌if◌, found}
use Rattle.language.specs.Register.{Typing}
use Rattle.language.specs.RawQuery.{RawQuery, read_whole}
use Rattle.language.specs.Surface.{Query, composed_query, properties_of}
use Rattle.language.specs.QueryText.{depth, longest, breaks, breaks_value, surface, checks, read_text}
use Rattle.language.specs.Core.{Core, nodes}
use Rattle.language.specs.Elaboration.{elaborate, is_undeclared, fit}

-- An answer whose number is 0 is accepted.
abbrev pub Zero : {A : Type 0} → Answer A → Type 0
Zero {A} a = number_of a ≡ 0 → (x : A) × (a ≡ accepted x)

pub zero_read : (s : Bytes) → Zero (read_text s)
unfolding read_text judge
zero_read s = long (ltb 1024 (length s))
  where
    judged : (a b c : Bool) (q : Query) → Zero (judge (14 if a ∷ 15 if b ∷ 16 if c ∷ []) q)
    judged true b c q e = absurd (omega arith)
    judged false true c q e = absurd (omega arith)
    judged false false true q e = absurd (omega arith)
    judged false false false q e = (q, refl)

    read : (o : Option RawQuery) → Zero (found o (λ q. judge (checks q) (composed_query (surface q))) (refused 13))
    read None e = absurd (omega arith)
    read (Some q) e = judged (ltb 8 (max (depth q) (longest q))) (breaks q) (breaks_value q) (composed_query (surface q)) e

    long : (b : Bool) → Zero (cond b (refused 12) (found (read_whole s) (λ q. judge (checks q) (composed_query (surface q))) (refused 13)))
    long true e = absurd (omega arith)
    long false e = read (read_whole s) e

pub zero_fit : (Γ : Typing) (q : Query) → Zero (fit Γ q)
unfolding fit
zero_fit Γ q = go (any (is_undeclared Γ) (properties_of q))
  where
    counted : (b : Bool) (c : Core) → Zero (cond b (refused 19) (accepted c))
    counted true c e = absurd (omega arith)
    counted false c e = (c, refl)

    elaborated : (o : Option Core) → Zero (found o (λ c. cond (ltb 256 (nodes c)) (refused 19) (accepted c)) (refused 18))
    elaborated None e = absurd (omega arith)
    elaborated (Some c) e = counted (ltb 256 (nodes c)) c e

    go : (b : Bool) → Zero (cond b (refused 17) (found (elaborate q Γ) (λ c. cond (ltb 256 (nodes c)) (refused 19) (accepted c)) (refused 18)))
    go true e = absurd (omega arith)
    go false e = elaborated (elaborate q Γ) e
