-- What is said comparator by comparator.
use Prim.Native.Nat.{ℕ, zero, suc, ◌≤◌}
use mathlib.Core.Path.{◌≡◌, refl}
use mathlib.Core.Bool.{Bool, true, false, cond, false≢true}
use mathlib.Core.List.{◌∷◌, ◌++◌}
use native.Mathlib.Omega.{arith}
use lib.Dec.{eqb, leb}
use Rattle.text.specs.Bytes.{Bytes, bytes, same, all, is_blank, span, starts}
use Rattle.text.specs.Class.{is_other}
use Rattle.std.specs.declared.cmp.Ordering.{Ordering}
use Rattle.language.specs.Comparators.{word, typed, first_typed, is_equal, comparator_code, last_comparator, comparator_from, in_any_namespace}
use Rattle.language.specs.Semantics.{stands}
use Rattle.language.specs.References.{stands_as}
use Rattle.language.specs.declared.SurfaceComparator.{SurfaceComparator}
use Rattle.language.proofs.AllComparators.{by_core}

-- Words: they have no colon and no blank, and are read as themselves.
pub word_no_colon : (c : SurfaceComparator) → all (is_other 58) (word c) ≡ true
unfolding all
word_no_colon SurfaceComparator.Equal = refl
word_no_colon SurfaceComparator.Unequal = refl
word_no_colon SurfaceComparator.Greater = refl
word_no_colon SurfaceComparator.Less = refl
word_no_colon SurfaceComparator.AtLeast = refl
word_no_colon SurfaceComparator.AtMost = refl

pub word_no_blank : (c : SurfaceComparator) (s : Bytes) → span is_blank s ≡ 0 → span is_blank (word c ++ s) ≡ 0
unfolding span
word_no_blank SurfaceComparator.Equal s h = h
word_no_blank SurfaceComparator.Unequal s h = refl
word_no_blank SurfaceComparator.Greater s h = refl
word_no_blank SurfaceComparator.Less s h = refl
word_no_blank SurfaceComparator.AtLeast s h = refl
word_no_blank SurfaceComparator.AtMost s h = refl

pub typed_back : (c : SurfaceComparator) (b : ℕ) (s : Bytes) → eqb b 60 ≡ false → eqb b 62 ≡ false → (is_equal c ≡ true → eqb b 33 ≡ false) → first_typed typed (word c ++ (b ∷ s)) ≡ c
unfolding first_typed starts
typed_back SurfaceComparator.Equal b s l g k = rw (l, g, k refl, starts)
typed_back SurfaceComparator.Unequal b s l g k = refl
typed_back SurfaceComparator.Greater b s l g k = refl
typed_back SurfaceComparator.Less b s l g k = refl
typed_back SurfaceComparator.AtLeast b s l g k = rw (g, starts)
typed_back SurfaceComparator.AtMost b s l g k = rw (l, starts)

-- Where none is written no `!` stands.
pub equal_no_mark : (s : Bytes) → is_equal (first_typed typed s) ≡ true → starts (bytes "!") s ≡ false
unfolding first_typed
equal_no_mark s h = go (starts (bytes "!") s) _ h
  where
    go : (t : Bool) (r : SurfaceComparator) → is_equal (cond t SurfaceComparator.Unequal r) ≡ true → t ≡ false
    go true r h = absurd (false≢true h)
    go false r h = refl

-- A comparator does not make a subquery of what is behind it: `<` before `q` is one.
pub word_no_subquery : (c : SurfaceComparator) (s : Bytes) → starts (bytes "<q>") s ≡ false → starts (bytes "q>") s ≡ false → starts (bytes "<q>") (word c ++ s) ≡ false
unfolding starts
word_no_subquery SurfaceComparator.Equal s h k = h
word_no_subquery SurfaceComparator.Unequal s h k = refl
word_no_subquery SurfaceComparator.Greater s h k = refl
word_no_subquery SurfaceComparator.Less s h k = refl
word_no_subquery SurfaceComparator.AtLeast s h k = refl
word_no_subquery SurfaceComparator.AtMost s h k = k

-- Bytes.
pub comparator_coded : (c : SurfaceComparator) → comparator_from (comparator_code c) ≡ c
unfolding comparator_from
comparator_coded SurfaceComparator.Equal = refl
comparator_coded SurfaceComparator.Unequal = refl
comparator_coded SurfaceComparator.Greater = refl
comparator_coded SurfaceComparator.Less = refl
comparator_coded SurfaceComparator.AtLeast = refl
comparator_coded SurfaceComparator.AtMost = refl

pub comparator_told : (n : ℕ) → n ≤ last_comparator → comparator_code (comparator_from n) ≡ n
unfolding comparator_from
comparator_told zero h = refl
comparator_told (suc zero) h = refl
comparator_told (suc (suc zero)) h = refl
comparator_told (suc (suc (suc zero))) h = refl
comparator_told (suc (suc (suc (suc zero)))) h = refl
comparator_told (suc (suc (suc (suc (suc zero))))) h = refl
comparator_told (suc (suc (suc (suc (suc (suc n)))))) h = absurd (omega (arith, h))

pub comparator_few : (c : SurfaceComparator) → leb (comparator_code c) last_comparator ≡ true
comparator_few SurfaceComparator.Equal = refl
comparator_few SurfaceComparator.Unequal = refl
comparator_few SurfaceComparator.Greater = refl
comparator_few SurfaceComparator.Less = refl
comparator_few SurfaceComparator.AtLeast = refl
comparator_few SurfaceComparator.AtMost = refl

-- What each says: only the word `!` is looked for in any namespace, and the table of the direct meaning is the core's.
pub mark_word : (c : SurfaceComparator) → same (word c) (bytes "!") ≡ in_any_namespace c
unfolding same
mark_word SurfaceComparator.Equal = refl
mark_word SurfaceComparator.Unequal = refl
mark_word SurfaceComparator.Greater = refl
mark_word SurfaceComparator.Less = refl
mark_word SurfaceComparator.AtLeast = refl
mark_word SurfaceComparator.AtMost = refl

pub stands_each : (c : SurfaceComparator) (o : Ordering) → by_core (λ d. stands d o) c ≡ stands_as c o
stands_each SurfaceComparator.Equal Ordering.Less = refl
stands_each SurfaceComparator.Equal Ordering.Equal = refl
stands_each SurfaceComparator.Equal Ordering.Greater = refl
stands_each SurfaceComparator.Unequal Ordering.Less = refl
stands_each SurfaceComparator.Unequal Ordering.Equal = refl
stands_each SurfaceComparator.Unequal Ordering.Greater = refl
stands_each SurfaceComparator.Greater Ordering.Less = refl
stands_each SurfaceComparator.Greater Ordering.Equal = refl
stands_each SurfaceComparator.Greater Ordering.Greater = refl
stands_each SurfaceComparator.Less Ordering.Less = refl
stands_each SurfaceComparator.Less Ordering.Equal = refl
stands_each SurfaceComparator.Less Ordering.Greater = refl
stands_each SurfaceComparator.AtLeast Ordering.Less = refl
stands_each SurfaceComparator.AtLeast Ordering.Equal = refl
stands_each SurfaceComparator.AtLeast Ordering.Greater = refl
stands_each SurfaceComparator.AtMost Ordering.Less = refl
stands_each SurfaceComparator.AtMost Ordering.Equal = refl
stands_each SurfaceComparator.AtMost Ordering.Greater = refl
