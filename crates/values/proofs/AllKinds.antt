-- Laws of all kinds at once.
use Rattle.std.specs.Prelude.{Option, Some, None}
use Prim.Native.Nat.{ℕ, ◌+◌, ◌^◌, ◌≤◌, ◌<◌}
use mathlib.Core.Path.{◌≡◌, refl}
use mathlib.Core.Bool.{Bool, true, false, cond, ◌&&◌, and-eq-true_iff}
use mathlib.Core.List.{List, [], ◌∷◌}
use native.Mathlib.Omega.{arith}
use lib.Dec.{leb, ltb}
use lib.ListN.{length}
use borrow.Author.Tests.{ltb-true}
use Rattle.text.specs.Bytes.{Bytes, starts}
use Rattle.values.specs.Values.{Value, read_value, kind_word, kinds, lowest, above, in_range}
use Rattle.values.specs.Spelling.{spelling}
use Rattle.values.specs.Answers.{first_kind, kind_at}
use Rattle.values.specs.declared.Kind.{Kind}
use Rattle.values.specs.declared.Scalar.{Scalar}
use Rattle.values.proofs.Spelled.{of_read, spelled_link_le}
use Rattle.values.proofs.EachKind.{spelled_scalar_le, above_small}

-- A kind is read only where its word stands.
first_kind_lem : (l : List Kind) (k : Kind) (s : Bytes) → first_kind l s ≡ Some k → starts (kind_word k) s ≡ true
unfolding first_kind
first_kind_lem [] k s h = cc
first_kind_lem (j ∷ l) k s h = go (starts (kind_word j) s) refl (first_kind_lem l k s) h
  where
    go : (t : Bool) → starts (kind_word j) s ≡ t → (first_kind l s ≡ Some k → starts (kind_word k) s ≡ true) → cond t (Some j) (first_kind l s) ≡ Some k → starts (kind_word k) s ≡ true
    go true e later f = let q : j ≡ k = cc in rw (← q) e
    go false e later f = later f

pub kind_stands : (k : Kind) (s : Bytes) → kind_at s ≡ Some k → starts (kind_word k) s ≡ true
kind_stands k s = first_kind_lem kinds k s

-- The ways to find one: it is the first, a later one, none.
module _ (k : Kind) (l : List Kind) (s : Bytes) (b : Bool) (e : b ≡ starts (kind_word k) s) where
  pub kind_here : b ≡ true → Some k ≡ (first_kind (k ∷ l) s)
  unfolding first_kind
  kind_here h = rw (← e, h)

  pub kind_later : (r : Option Kind) → b ≡ false → r ≡ (first_kind l s) → r ≡ (first_kind (k ∷ l) s)
  unfolding first_kind
  kind_later r h f = rw (← e, h) f

pub kind_none : (s : Bytes) → None ≡ (first_kind [] s)
unfolding first_kind
kind_none s = refl

pub ruleset finding = (kind_here, kind_later, kind_none)

-- Ranges.
pub range_is : (k : Scalar) (c n m : ℕ) → n ≡ lowest k → m ≡ above k → (leb n c && ltb c m) ≡ in_range k c
unfolding in_range
range_is k c n m e f = rw (e, f)

pub range_small : (k : Scalar) (c : ℕ) → in_range k c ≡ true → c < 2 ^ 64
unfolding in_range
range_small k c h = omega (arith, above_small k, ltb-true c (above k) ((and-eq-true_iff (leb (lowest k) c) (ltb c (above k))).0 h).1)

pub spelled_le : (k : Kind) (s : Bytes) (v : Value) → read_value k s ≡ Some v → length (spelling v) ≤ length s + 4
unfolding spelling
spelled_le k s = of_read (λ v. length (spelling v) ≤ length s + 4) s (λ i e. omega (arith, spelled_link_le s i e)) (λ k. spelled_scalar_le k s) (omega arith) k
