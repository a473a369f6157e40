-- The table's theorems: one test over the whole of it, and what it says of each entry.
use Rattle.std.specs.Prelude.{Some}
use Prim.Native.Nat.{ℕ, zero, suc, ◌≤◌, ◌<◌}
use mathlib.Core.Path.{◌≡◌, refl, sym, ap, ◌∙◌}
use mathlib.Core.Bool.{Bool, true, false, not, ◌&&◌, false≢true, and-eq-true_iff, or-true}
use mathlib.Core.List.Memᴰ
use mathlib.Core.List.{List, [], ◌∷◌, Memᴰ}
use native.Mathlib.Omega.{arith}
use lib.Dec.{eqb, leb}
use lib.ListN.{length, get_or}
use borrow.Author.Tests.{eqb-true, eq-eqb, not-true, leb-true}
use Rattle.text.specs.Bytes.{any, all}
use Rattle.names.specs.Table.{Entry, table, find, has_pair, has_composed, composition, decomposition, clash, none_twice}
use Rattle.names.specs.Codes.{is_mark, within}

-- What a test that all entries pass says of one.
pub all_at : (p : Entry → Bool) (t : List Entry) → all p t ≡ true → {e : Entry} → Memᴰ e t → p e ≡ true
unfolding all
all_at p [] h m = absurd (Memᴰ.not-nil m)
all_at p (f ∷ t) h (Memᴰ.head q) = rw q ((and-eq-true_iff (p f) (all p t)).0 h).0
all_at p (f ∷ t) h (Memᴰ.tail m) = all_at p t ((and-eq-true_iff (p f) (all p t)).0 h).1 m

any_at : (p : Entry → Bool) (t : List Entry) {e : Entry} → Memᴰ e t → p e ≡ true → any p t ≡ true
unfolding any
any_at p [] m h = absurd (Memᴰ.not-nil m)
any_at p (f ∷ t) (Memᴰ.head q) h = rw (← q, h)
any_at p (f ∷ t) (Memᴰ.tail m) h = rw (any_at p t m h, or-true (p f))

-- An entry that is found passes the test, and is one of the list's.
pub find_holds : (p : Entry → Bool) (t : List Entry) (e : Entry) → find p t ≡ Some e → (p e ≡ true) × Memᴰ e t
unfolding find
find_holds p [] e h = let z : ◌≡◌ {A = ℕ} 0 1 = cc in absurd (omega arith)
find_holds p (f ∷ t) e h = go (p f) refl (find_holds p t e)
  where
    go : (b : Bool) → p f ≡ b → (find p t ≡ Some e → (p e ≡ true) × Memᴰ e t) → (p e ≡ true) × Memᴰ e (f ∷ t)
    go true k ih = let q : f ≡ e = (let z : Some f ≡ Some e = rw (k, find) at h in cc) in (rw (← q) k, Memᴰ.head (sym q))
    go false k ih = let r = ih (rw (k, find) at h) in (r.0, Memᴰ.tail r.1)

-- Where no entry clashes with another, an entry is what a test finds that only entries which clash with it pass.
pub found : (p : Entry → Bool) (t : List Entry) (e : Entry) → none_twice t ≡ true → Memᴰ e t → p e ≡ true → ((f : Entry) → p f ≡ true → clash f e ≡ true) → find p t ≡ Some e
unfolding find none_twice
found p [] e n m h k = absurd (Memᴰ.not-nil m)
found p (f ∷ t) e n (Memᴰ.head q) h k = rw (rw q at h, find) (ap Some (sym q))
found p (f ∷ t) e n (Memᴰ.tail m) h k = go (p f) refl (found p t e ((and-eq-true_iff (not (any (clash f) t)) (none_twice t)).0 n).1 m h k)
  where
    go : (b : Bool) → p f ≡ b → find p t ≡ Some e → elim b [ true ↦ Some f | false ↦ find p t ] ≡ Some e
    go true g r = absurd (false≢true (sym (not-true (any (clash f) t) ((and-eq-true_iff (not (any (clash f) t)) (none_twice t)).0 n).0) ∙ any_at (clash f) t m (k f g)))
    go false g r = r

-- The one test.
none_twice_lem : none_twice table ≡ true
unfolding none_twice table any
none_twice_lem = refl

pair_clashes : (e f : Entry) → has_pair e.letter e.mark f ≡ true → clash f e ≡ true
pair_clashes e f h = rw h

composed_clashes : (e f : Entry) → has_composed e.composed f ≡ true → clash f e ≡ true
composed_clashes e f h = rw (h, or-true (has_pair e.letter e.mark f))

-- "composing and decomposing undo each other at every entry"
pub composes : (e : Entry) → Memᴰ e table → composition e.letter e.mark ≡ Some e
unfolding composition
composes e m = found (has_pair e.letter e.mark) table e none_twice_lem m (rw (eq-eqb e.letter e.letter refl, eq-eqb e.mark e.mark refl)) (pair_clashes e)

pub decomposes : (e : Entry) → Memᴰ e table → decomposition e.composed ≡ Some e
unfolding decomposition
decomposes e m = found (has_composed e.composed) table e none_twice_lem m (eq-eqb e.composed e.composed refl) (composed_clashes e)

-- What is found is the table's, with the letter and the mark, or the composed letter, that were asked for.
pub composition_is : (l m : ℕ) (e : Entry) → composition l m ≡ Some e → (e.letter ≡ l) × (e.mark ≡ m) × Memᴰ e table
unfolding composition
composition_is l m e h =
    let r = find_holds (has_pair l m) table e h in
    let k = (and-eq-true_iff (eqb e.letter l) (eqb e.mark m)).0 r.0 in
    (eqb-true e.letter l k.0, eqb-true e.mark m k.1, r.1)

pub decomposition_is : (c : ℕ) (e : Entry) → decomposition c ≡ Some e → (e.composed ≡ c) × Memᴰ e table
unfolding decomposition
decomposition_is c e h = let r = find_holds (has_composed c) table e h in (eqb-true e.composed c r.0, r.1)

-- The code points of each entry: an ASCII letter, a mark, a letter of U+00C0 to U+017F.
abbrev ranged : Entry → Bool
ranged e = within 65 122 e.letter && is_mark e.mark && within 192 383 e.composed

ranged_table : all ranged table ≡ true
unfolding all table is_mark
ranged_table = refl

pub record Ranged (e : Entry) : Type 0 where
  pub letter_least : 65 ≤ e.letter
  pub letter_most : e.letter ≤ 122
  pub marks : is_mark e.mark ≡ true
  pub composed_least : 192 ≤ e.composed
  pub composed_most : e.composed ≤ 383

pub ranges : (e : Entry) → Memᴰ e table → Ranged e
ranges e m =
    let a = (and-eq-true_iff (within 65 122 e.letter && is_mark e.mark) (within 192 383 e.composed)).0 (all_at ranged table ranged_table m) in
    let b = (and-eq-true_iff (within 65 122 e.letter) (is_mark e.mark)).0 a.0 in
    let c = (and-eq-true_iff (leb 65 e.letter) (leb e.letter 122)).0 b.0 in
    let d = (and-eq-true_iff (leb 192 e.composed) (leb e.composed 383)).0 a.1 in
    record { letter_least = leb-true 65 e.letter c.0; letter_most = leb-true e.letter 122 c.1; marks = b.1; composed_least = leb-true 192 e.composed d.0; composed_most = leb-true e.composed 383 d.1 }

-- An entry stands at each place below the table's length.
pub at_place : (t : List Entry) (i : ℕ) (d : Entry) → i < length t → Memᴰ (get_or t i d) t
at_place [] i d h = absurd (omega arith)
at_place (e ∷ t) zero d h = Memᴰ.head refl
at_place (e ∷ t) (suc i) d h = Memᴰ.tail (at_place t i d (omega arith))
