-- Laws of the loops that write the rows of a held register: what is still to be written where they stand gives the whole.
use Prim.Native.Nat.{ℕ, ◌+◌, ◌*◌, ◌/◌, ◌%◌, ◌≤◌, ◌<◌}
use mathlib.Core.Path.{◌≡◌, refl, sym, ap, ◌∙◌}
use mathlib.Core.List.{List, [], ◌∷◌, flat_map}
use native.Mathlib.Omega.{arith}
use native.Mathlib.Numerals.{add-one}
use native.Mathlib.Nat.{add-zero}
use lib.ListN.{length, get_or, set, drop, drop_of_length-le}
use lib.Seq.{drop-cons}
use Rattle.text.specs.Bytes.{Bytes}
use Rattle.text.proofs.Tables.{length_tabulate, get_d_tabulate}
use Rattle.sorting.specs.Listing.{listed}
use Rattle.sorting.proofs.Listings.{length_listed, get_d_listed}
use Rattle.buffer.specs.Numbers.{two_bytes, starts_from}
use Rattle.buffer.specs.Writing.{written}
use Rattle.buffer.proofs.Written.{two_is}
use Rattle.buffer.proofs.Looping.{Writing, writing_none, writing_more, writing_done, writing_past, Rowing, rows_none, rows_more, rows_all}
use Rattle.register_form.specs.Form.{property_bytes, number_bytes, joined}
use Rattle.register_form_bytes.specs.Writing.{row_of, picked, first_of, rows_of}

-- The first numbers of a table.
module _ (h₀ : Bytes) (base : ℕ) (table : List ℕ) (n : ℕ) where
  abbrev pub Numbering : Bytes → ℕ → Type 0
  Numbering h i = Rowing two_bytes 2 0 h₀ base (first_of table n) h i

  pub numbers_none : Numbering h₀ 0
  numbers_none = rows_none two_bytes 2 0 h₀ base (first_of table n)

  module _ (h : Bytes) (i : ℕ) (r : Numbering h i) where
    pub numbers_more : (k v : ℕ) (g : Bytes) → i < n → k ≡ i → v ≡ get_or table k 0 → g ≡ written h (base + 2 * k) (two_bytes v) → Numbering g (i + 1)
    unfolding first_of
    numbers_more k v g b d e f =
        rows_more two_bytes 2 0 h₀ base (first_of table n) h i r v g (rw length_tabulate b)
        (e ∙ rw d (sym (get_d_tabulate n (λ j. get_or table j 0) 0 i b))) refl (rw d at f)

    -- The same by its two bytes.
    pub numbers_set : (v : ℕ) (k g : Bytes) → i < n → v ≡ get_or table i 0 → k ≡ set h (base + 2 * i) (v % 256) → g ≡ set k (base + 2 * i + 1) (v / 256 % 256) → Numbering g (i + 1)
    unfolding written
    numbers_set v k g b e f q = numbers_more i v g b refl e (two_is h (base + 2 * i) v k g f q)

    pub numbers_all : (at : ℕ) → base ≡ at → n ≤ i → h ≡ written h₀ at (number_bytes (first_of table n))
    unfolding first_of number_bytes
    numbers_all at e b = rows_all two_bytes 2 0 h₀ base (first_of table n) h i r (rw length_tabulate b) ∙ rw e

pub ruleset numbering = (numbers_none, numbers_more, numbers_all)

-- The numbers of a table that others name.
module _ (h₀ : Bytes) (base : ℕ) (table picks : List ℕ) (n : ℕ) where
  abbrev pub Picking : Bytes → ℕ → Type 0
  Picking h i = Rowing two_bytes 2 0 h₀ base (picked table picks n) h i

  pub picked_none : Picking h₀ 0
  picked_none = rows_none two_bytes 2 0 h₀ base (picked table picks n)

  module _ (h : Bytes) (i : ℕ) (r : Picking h i) where
    pub picked_more : (k v x : ℕ) (g : Bytes) → i < n → k ≡ i → v ≡ get_or picks k 0 → x ≡ get_or table v 0 → g ≡ written h (base + 2 * k) (two_bytes x) → Picking g (i + 1)
    unfolding picked
    picked_more k v x g b d e j f =
        rows_more two_bytes 2 0 h₀ base (picked table picks n) h i r x g (rw length_tabulate b)
        (j ∙ rw (e, d) (sym (get_d_tabulate n (λ q. get_or table (get_or picks q 0) 0) 0 i b))) refl (rw d at f)

    pub picked_all : (at : ℕ) → base ≡ at → n ≤ i → h ≡ written h₀ at (number_bytes (picked table picks n))
    unfolding picked number_bytes
    picked_all at e b = rows_all two_bytes 2 0 h₀ base (picked table picks n) h i r (rw length_tabulate b) ∙ rw e

pub ruleset picking = (picked_none, picked_more, picked_all)

-- Properties.
module _ (h₀ : Bytes) (base : ℕ) (kinds numbers names : List ℕ) (n : ℕ) where
  abbrev pub Declaring : Bytes → ℕ → Type 0
  Declaring h i = Rowing property_bytes 3 (row_of 0 0) h₀ base (rows_of kinds numbers names n) h i

  pub properties_none : Declaring h₀ 0
  properties_none = rows_none property_bytes 3 (row_of 0 0) h₀ base (rows_of kinds numbers names n)

  module _ (h : Bytes) (i : ℕ) (r : Declaring h i) where
    pub properties_more : (k b v x : ℕ) (g : Bytes) → i < n → k ≡ i → b ≡ get_or kinds k 0 → v ≡ get_or names k 0 → x ≡ get_or numbers v 0 → g ≡ written h (base + 3 * k) (property_bytes (row_of b x)) → Declaring g (i + 1)
    unfolding rows_of property_bytes
    properties_more k b v x g l d a e j f =
        rows_more property_bytes 3 (row_of 0 0) h₀ base (rows_of kinds numbers names n) h i r (row_of b x) g (rw length_tabulate l)
        (rw (j, a, e, d) (sym (get_d_tabulate n (λ q. row_of (get_or kinds q 0) (get_or numbers (get_or names q 0) 0)) (row_of 0 0) i l))) refl (rw d at f)

    pub properties_all : (at : ℕ) → base ≡ at → n ≤ i → h ≡ written h₀ at (flat_map property_bytes (rows_of kinds numbers names n))
    unfolding rows_of
    properties_all at e b = rows_all property_bytes 3 (row_of 0 0) h₀ base (rows_of kinds numbers names n) h i r (rw length_tabulate b) ∙ rw e

pub ruleset declaring = (properties_none, properties_more, properties_all)

-- Texts one behind the other, and where each begins.
module _ (h₀ : Bytes) (base : ℕ) (f : ℕ → Bytes) (refs : List ℕ) (n : ℕ) where
  abbrev pub Laying : Bytes → ℕ → ℕ → Type 0
  Laying h to i = Writing h₀ base (joined (listed f refs n)) h to (joined (drop i (listed f refs n)))

  pub texts_none : (to : ℕ) → to ≡ base → Laying h₀ to 0
  texts_none to e = rw e (writing_none h₀ base (joined (listed f refs n)) (joined (listed f refs n)) refl)

  abbrev pub Starting : Bytes → ℕ → ℕ → Type 0
  Starting h sum i = Writing h₀ base (number_bytes (starts_from 0 (listed f refs n))) h (base + 2 * i) (number_bytes (starts_from sum (drop i (listed f refs n))))

  pub starts_none : Starting h₀ 0 0
  starts_none = rw (add-zero base) (writing_none h₀ base (number_bytes (starts_from 0 (listed f refs n))) (number_bytes (starts_from 0 (listed f refs n))) refl)

  module _ (i : ℕ) where
    next_text_lem : i < n → drop i (listed f refs n) ≡ f (get_or refs i 0) ∷ drop (i + 1) (listed f refs n)
    next_text_lem b = drop-cons (listed f refs n) i [] (rw length_listed b) ∙ rw (add-one, get_d_listed f refs n i [] b)

    no_text_lem : n ≤ i → drop i (listed f refs n) ≡ []
    no_text_lem b = drop_of_length-le (listed f refs n) {i = i} (rw length_listed b)

    module _ (h : Bytes) (to : ℕ) (w : Laying h to i) where
      pub texts_more : (k v : ℕ) (t g : Bytes) → i < n → k ≡ i → v ≡ get_or refs k 0 → t ≡ f v → g ≡ written h to t → Laying g (to + length t) (i + 1)
      unfolding flat_map
      texts_more k v t g b d e j q =
          let text : t ≡ f (get_or refs i 0) = j ∙ rw (e, d) in
          writing_more h₀ base (joined (listed f refs n)) h to t (joined (drop (i + 1) (listed f refs n))) g (joined (drop i (listed f refs n))) (to + length t) (ap joined (next_text_lem b) ∙ rw text) q refl w

      pub texts_past : length h ≤ to → h ≡ written h₀ base (joined (listed f refs n))
      texts_past l = writing_past h₀ base (joined (listed f refs n)) h to (joined (drop i (listed f refs n))) l w

      pub texts_all : n ≤ i → h ≡ written h₀ base (joined (listed f refs n))
      unfolding flat_map
      texts_all b = writing_done h₀ base (joined (listed f refs n)) h to (joined (drop i (listed f refs n))) (ap joined (no_text_lem b)) w

    module _ (h : Bytes) (sum : ℕ) (w : Starting h sum i) where
      pub starts_more : (k v t z : ℕ) (g : Bytes) → i < n → k ≡ i → g ≡ written h (base + 2 * k) (two_bytes sum) → v ≡ get_or refs k 0 → t ≡ length (f v) → z ≡ t → Starting g (sum + z) (i + 1)
      unfolding flat_map starts_from number_bytes
      starts_more k v t z g b d q e j y =
          let size : z ≡ length (f (get_or refs i 0)) = y ∙ j ∙ rw (e, d) in
          let to : base + 2 * (i + 1) ≡ base + 2 * i + 2 = omega arith in
          writing_more h₀ base (number_bytes (starts_from 0 (listed f refs n))) h (base + 2 * i) (two_bytes sum) (number_bytes (starts_from (sum + z) (drop (i + 1) (listed f refs n)))) g (number_bytes (starts_from sum (drop i (listed f refs n)))) (base + 2 * (i + 1)) (ap (λ (l : List Bytes). number_bytes (starts_from sum l)) (next_text_lem b) ∙ rw size) (rw d at q) to w

      pub starts_all : (k at : ℕ) (g : Bytes) → n ≤ i → k ≡ i → base ≡ at → g ≡ written h (base + 2 * k) (two_bytes sum) → g ≡ written h₀ at (number_bytes (starts_from 0 (listed f refs n)))
      unfolding flat_map starts_from number_bytes
      starts_all k at g b d e q =
          rw (← e)
          (q ∙ rw d (ap (λ (l : List Bytes). written h (base + 2 * i) (number_bytes (starts_from sum l))) (sym (no_text_lem b)) ∙ w.is))

pub ruleset laying = (texts_none, texts_more, texts_past, texts_all, starts_none, starts_more, starts_all)
