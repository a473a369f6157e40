-- Laws of all comparators at once.
use Prim.Native.Nat.{ℕ, ◌≤◌}
use mathlib.Core.Path.{◌≡◌, refl}
use mathlib.Core.Bool.{Bool, true, false, cond, ◌||◌}
use mathlib.Core.List.{List, [], ◌∷◌}
use native.Mathlib.Omega.{arith}
use lib.Dec.{eqb}
use lib.ListN.{length}
use Rattle.text.specs.Bytes.{Bytes, starts}
use Rattle.text.proofs.Laws.{starts_fits}
use Rattle.language.specs.Comparators.{word, first_typed, is_equal, strictly, or_equal}
use Rattle.language.specs.Core.{Core}
use Rattle.language.specs.Elaboration.{strict_or_equal, compared}
use Rattle.language.specs.declared.Comparator.{Comparator}
use Rattle.language.specs.declared.SurfaceComparator.{SurfaceComparator}

-- The word of the one that is found stands there.
pub typed_fits : (l : List SurfaceComparator) (s : Bytes) → length (word (first_typed l s)) ≤ length s
unfolding first_typed
typed_fits [] s = omega arith
typed_fits (c ∷ l) s = go (starts (word c) s) refl (typed_fits l s)
  where
    go : (t : Bool) → starts (word c) s ≡ t → length (word (first_typed l s)) ≤ length s → length (word (cond t c (first_typed l s))) ≤ length s
    go true e h = starts_fits (word c) s e
    go false e h = h

-- The ways to find one: it is the first, a later one, none.
module _ (c : SurfaceComparator) (l : List SurfaceComparator) (s : Bytes) (b : Bool) (e : b ≡ starts (word c) s) where
  pub typed_here : b ≡ true → c ≡ first_typed (c ∷ l) s
  unfolding first_typed
  typed_here h = rw (← e, h)

  pub typed_later : (r : SurfaceComparator) → b ≡ false → r ≡ first_typed l s → r ≡ first_typed (c ∷ l) s
  unfolding first_typed
  typed_later r h f = rw (← e, h) f

pub typed_none : (s : Bytes) → SurfaceComparator.Equal ≡ first_typed [] s
unfolding first_typed
typed_none s = refl

pub ruleset typing = (typed_here, typed_later, typed_none)

-- What holds of every comparison with the core's comparators, and of two of them joined by OR, holds of one as written.
pub of_cond : {A : Type 0} (P : A → Type 0) (t : Bool) (a b : A) → P a → P b → P (cond t a b)
of_cond P true a b h k = h
of_cond P false a b h k = k

pub of_compared : (P : Core → Type 0) (f : Comparator → Core) (c : SurfaceComparator) → ((a b : Core) → P a → P b → P (Core.disjunction a b)) → ((d : Comparator) → P (f d)) → P (compared f c)
unfolding compared
of_compared P f c k h = of_cond P (or_equal c) (strict_or_equal f (strictly c)) (f (strictly c)) (k _ _ (h (strictly c)) (h Comparator.Equal)) (h (strictly c))

-- What a comparator says, by what the core's comparators say.
abbrev pub by_core : (Comparator → Bool) → SurfaceComparator → Bool
by_core g c = cond (or_equal c) (g (strictly c) || g Comparator.Equal) (g (strictly c))
