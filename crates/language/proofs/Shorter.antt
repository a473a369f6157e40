-- Every reader of a text leaves less of it.
use Rattle.std.specs.Prelude.{Option, Some, None}
use Prim.Native.Nat.{ℕ, ◌+◌, ◌≤◌, ◌<◌}
use mathlib.Core.Path.{◌≡◌, refl}
use mathlib.Core.Bool.{Bool, true, false, cond}
use native.Mathlib.Omega.{arith}
use lib.ListN.{length, drop, length-drop}
use Rattle.text.specs.Bytes.{Bytes, span, behind, starts, after}
use Rattle.text.proofs.Laws.{starts_fits}
use Rattle.language.specs.Answer.{found}
use Rattle.language.proofs.Options.{OnSome}

-- what was read leaves less than s, or no more than s
abbrev pub Less : {A : Type 0} → Bytes → A × Bytes → Type 0
Less s x = length x.1 < length s

abbrev pub NoMore : {A : Type 0} → Bytes → A × Bytes → Type 0
NoMore s x = length x.1 ≤ length s

-- what is behind a word has that many bytes less
pub after_leaves : (w s : Bytes) → OnSome (λ r. length r + length w ≤ length s) (after w s)
unfolding after
after_leaves w s = go (starts w s) refl
  where
    go : (t : Bool) → starts w s ≡ t → OnSome (λ r. length r + length w ≤ length s) (cond t (Some (drop (length w) s)) None)
    go true e = let h = starts_fits w s e in omega (arith, length-drop (length w) s)
    go false e = tt

pub behind_leaves : (p : ℕ → Bool) (s : Bytes) → length (behind p s) ≤ length s
behind_leaves p s = omega (arith, length-drop (span p s) s)

-- what holds of the one branch or of the other
pub of_found : {A B : Type 0} (P : B → Type 0) (o : Option A) (f : A → B) (y : B) → OnSome (λ a. P (f a)) o → P y → P (found o f y)
of_found P None f y h z = z
of_found P (Some a) f y h z = h
