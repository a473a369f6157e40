-- What the functions on pages answer, by what they called.
use Prim.Native.Nat.{ℕ, zero, suc, ◌+◌, ◌*◌, ◌-◌, ◌≤◌, ◌<◌}
use mathlib.Core.Path.{◌≡◌, refl, ap, ap₂, sym, ◌∙◌}
use mathlib.Core.Bool.{Bool, true, false, not, ◌&&◌, ◌||◌, and-false, and-true, true≢false}
use mathlib.Core.List.{List}
use native.Mathlib.Omega.{arith}
use native.Mathlib.Numerals.{add-one}
use lib.Dec.{ltb, eqb}
use lib.ListN.{length, get_or, get_or-eq_default}
use native.Mathlib.Nat.{le_refl}
use borrow.Author.Tests.{lt-ltb, le-ltb, eq-eqb, ne_eqb, not-true, not-false}
use Rattle.text.specs.Bytes.{Bytes}
use Rattle.buffer.specs.Numbers.{two_at}
use Rattle.buffer.proofs.Parts.{length_part, get_d_part}
use Rattle.buffer.proofs.Regions.{all_to_lem}
use Rattle.register_form.specs.Dictionary.{group_of, is_category}
use Rattle.register_form.specs.Form.{page_count, term_count, form_start, form_at, term_at}
use Rattle.register_form.specs.Tests.{is_laid}
use Rattle.register_form.proofs.Laying.{laid_facts, rises_to}
use Rattle.buffer.specs.Tests.{all_to}
use Rattle.register_form_test.specs.Loops.{sum_to, is_set}
use Rattle.register_form_test.specs.Stages.{text_length, form_count, form_bytes, form_in, behind_at, form_ok, last_by, form_test, form_length, FormsTested, PagesTested, identifier_at, last_to, places_to, page_ok, page_test, page_length, used_test}
use Rattle.std.specs.Prelude.{Option, Some, None}
use Rattle.register_form_test.proofs.Loops.{sum_more, length_written, written_length}

all_fails : (f : ℕ → Bool) (n j : ℕ) → j < n → f j ≡ false → false ≡ all_to n f
all_fails f n j l z = go (all_to n f) refl
  where
    go : (b : Bool) → all_to n f ≡ b → false ≡ all_to n f
    go true e = absurd (true≢false (sym (all_to_lem n f e j l) ∙ z))
    go false e = sym e

pub all_none : (f : ℕ → Bool) → all_to 0 f ≡ true
unfolding all_to
all_none f = refl

mid_false : (a b c : Bool) → b ≡ false → (a && b && c) ≡ false
mid_false true b c e = rw e
mid_false false b c e = refl

pub set_here : (t : List ℕ) (i : ℕ) → not (eqb (get_or t i 0) 0) ≡ is_set t i
unfolding is_set
set_here t i = refl

-- nothing is set past the end
pub set_short : (t : List ℕ) (n m k : ℕ) → length t < n → n ≡ m → m ≡ k → false ≡ all_to k (is_set t)
unfolding is_set
set_short t n m k l e f = all_fails (is_set t) k (length t) (omega arith) (ap (λ (v : ℕ). not (eqb v 0)) (get_or-eq_default t 0 {n = length t} (le_refl (length t))))

pub set_end : (t : List ℕ) (i n m k : ℕ) (ok : Bool) → ok ≡ all_to i (is_set t) → i ≤ n → n ≤ i → n ≡ m → m ≡ k → ok ≡ all_to k (is_set t)
set_end t i n m k ok e a b f g = let p : i ≡ k = omega arith in e ∙ rw p

pub used_tested : (used places : List ℕ) (x : ℕ) (a b : Bool) → a ≡ is_set used x → b ≡ is_set places x → (a || b) ≡ used_test used places x
unfolding used_test
used_tested used places x a b e f = rw (e, f)

module _ (h : Bytes) where
  pub behind_none : (i : ℕ) → false ≡ behind_at h i 0
  unfolding behind_at
  behind_none i = refl

  -- The forms of page i lie within bytes that are laid out.
  module _ (i : ℕ) (laid : is_laid h ≡ true) (room : i < page_count h) (s : Bytes) (e : s ≡ form_bytes h i) where
    most : form_start h (suc i) ≤ 2048
    most =
        let forms = (laid_facts h laid).forms in
        omega (arith, forms.last, rises_to (form_start h) (page_count h) forms.up (suc i) room)

    pub forms_count : length s ≡ 2 * form_count h i
    unfolding form_bytes form_count
    forms_count =
        let size : length h ≡ 63628 = (laid_facts h laid).size in
        ap length e ∙ length_part h (1226 + 2 * form_start h i) (2 * form_count h i) (omega (arith, most, (laid_facts h laid).forms.up i room))

    pub forms_few : length s ≤ 4096
    unfolding form_count
    forms_few = omega (arith, forms_count, most)

    module _ (j f : ℕ) (k : f ≡ two_at s (2 * j)) (l : 2 * j + 2 ≤ length s) where
      pub form_in_lem : f ≡ form_in h i j
      unfolding form_in form_at form_bytes two_at
      form_in_lem =
          let n = forms_count in
          let at : 1226 + 2 * form_start h i + 2 * j ≡ 1226 + 2 * (form_start h i + j) = omega arith in
          let to : 1226 + 2 * form_start h i + (2 * j + 1) ≡ 1226 + 2 * (form_start h i + j) + 1 = omega arith in
          k
          ∙ ap (λ (t : Bytes). get_or t (2 * j) 0 + 256 * get_or t (2 * j + 1) 0) e
          ∙ rw (get_d_part h (1226 + 2 * form_start h i) (2 * form_count h i) (2 * j) (omega arith), get_d_part h (1226 + 2 * form_start h i) (2 * form_count h i) (2 * j + 1) (omega arith), at, to)

      pub behind_more : (g : ℕ) → g ≡ group_of (term_at h f) → not (eqb g 0) ≡ behind_at h i (j + 1)
      unfolding behind_at
      behind_more g m = rw (add-one j, behind_at, m, form_in_lem)

      pub form_sum : (shown : List ℕ) (s w v x : ℕ) → s ≡ sum_to j (form_length h shown i) → x ≡ v → v ≡ get_or shown w 0 → w ≡ f → s + x ≡ sum_to (j + 1) (form_length h shown i)
      unfolding form_length
      form_sum shown s w v x p t r q = sum_more (form_length h shown i) j s x p (t ∙ r ∙ rw (q, form_in_lem))

      -- One test of form j, by the table as it was left.
      module _ (shown last u : List ℕ) (mark : ℕ) (p : u ≡ last_by h mark i j last) where
        failed : form_test h mark last i j ≡ false → FormsTested h shown last u mark i None
        failed z =
            record {
              ok = all_fails (form_test h mark last i) (form_count h i) j (omega (arith, forms_count)) z;
              bytes = tt;
              marks = tt;
              size = written_length (form_in h i) (λ j. mark) last j u p;
              most = tt;
            }

        pub form_past : (n : ℕ) → n ≡ term_count h → n ≤ f → FormsTested h shown last u mark i None
        unfolding form_test form_ok
        form_past n a x = failed (rw (← a, ← form_in_lem, le-ltb f n x))

        pub form_again : (w v : ℕ) → w ≡ f → v ≡ get_or u w 0 → v ≡ mark → FormsTested h shown last u mark i None
        unfolding form_test form_ok
        form_again w v b c x =
            failed (mid_false (ltb (form_in h i j) (term_count h)) (not (eqb (get_or (last_by h mark i j last) (form_in h i j) 0) mark)) (not (behind_at h i j && is_category (term_at h (form_in h i j)))) (rw (← p, ← form_in_lem, ← b, ← c, eq-eqb v mark x)))

        pub form_behind : (g : ℕ) (behind : Bool) → behind ≡ behind_at h i j → g ≡ group_of (term_at h f) → (behind && eqb g 0) ≡ true → FormsTested h shown last u mark i None
        unfolding form_test form_ok
        form_behind g behind d m z = failed (rw (← form_in_lem, ← d, ← m, z, and-false))

      pub form_passed : (last u : List ℕ) (mark n w v g : ℕ) (behind : Bool) → u ≡ last_by h mark i j last → n ≡ term_count h → w ≡ f → v ≡ get_or u w 0 → behind ≡ behind_at h i j → g ≡ group_of (term_at h f) → f < n → (v ≡ mark → ⊥) → (behind && eqb g 0) ≡ false → all_to j (form_test h mark last i) ≡ true → all_to (j + 1) (form_test h mark last i) ≡ true
      unfolding all_to form_test form_ok
      form_passed last u mark n w v g behind p a b c d m x y z ok = rw (add-one j, ok, ← p, ← form_in_lem, ← a, ← d, ← m, z, lt-ltb f n x, ← b, ← c, ne_eqb v mark y)

    -- where the loop ends
    pub forms_passed : (j : ℕ) → 2 * j ≤ length s → length s < 2 * j + 2 → (shown last u : List ℕ) (mark b : ℕ) → all_to j (form_test h mark last i) ≡ true → b ≡ sum_to j (form_length h shown i) → u ≡ last_by h mark i j last → b ≤ 65535 * j → FormsTested h shown last u mark i (Some b)
    forms_passed j x y shown last u mark b ok sum p few =
        let n : j ≡ form_count h i = omega (arith, forms_count) in
        record {
          ok = sym ok ∙ rw n;
          bytes = sum ∙ rw n;
          marks = p ∙ rw n;
          size = written_length (form_in h i) (λ j. mark) last j u p;
          most = omega (arith, forms_few);
        }

  module _ (last : List ℕ) where
    pub last_none : last ≡ last_to h 0 last
    unfolding last_to
    last_none = refl

    pub last_end : (i n m : ℕ) (u : List ℕ) → u ≡ last_to h i last → i ≤ n → n ≤ i → n ≡ m → u ≡ last_to h m last
    last_end i n m u e a b k = let p : i ≡ m = omega arith in e ∙ rw p

    pub length_last : (i : ℕ) → length (last_to h i last) ≡ length last
    unfolding last_to
    length_last zero = refl
    length_last (suc i) = length_written (form_in h i) (λ j. i + 1) (last_to h i last) (form_count h i) ∙ length_last i

    pub last_length : (i : ℕ) (u : List ℕ) → u ≡ last_to h i last → length u ≡ length last
    last_length i u e = ap length e ∙ length_last i

    module _ (shown : List ℕ) (i : ℕ) (u w : List ℕ) (e : u ≡ last_to h i last) where
      -- Page i fails by its forms, or by its identifier.
      module _ (classes places v : List ℕ) (x : ℕ) (k : v ≡ places_to h i places) where
        failed_page : page_test h classes last places i ≡ false → length w ≡ length u → (n : ℕ) → i < n → n ≡ page_count h → PagesTested h classes shown last places w v None
        failed_page z q n b m =
            record {
              ok = all_fails (page_test h classes last places) (page_count h) i (omega arith) z;
              bytes = tt;
              marks = tt;
              table = tt;
              size = written_length (identifier_at h) (λ i. i + 1) places i v k;
              most = tt;
            }

        pub forms_failed : FormsTested h shown u w (i + 1) i None → (n : ℕ) → i < n → n ≡ page_count h → PagesTested h classes shown last places w v None
        unfolding page_test
        forms_failed forms = failed_page (rw (← e, ← forms.ok, and-false)) forms.size

        module _ (r : ℕ) (forms : FormsTested h shown u w (i + 1) i (Some r)) (q : x ≡ identifier_at h i) (t : Bool) (l : t ≡ page_ok h classes v x) where
          page_is_test : page_test h classes last places i ≡ t
          unfolding page_test
          page_is_test =
              let a : page_ok h classes (places_to h i places) (identifier_at h i) ≡ t = sym (l ∙ rw (k, q)) in
              rw (← e, ← forms.ok, a, and-true)

          pub page_failed : not t ≡ true → (n : ℕ) → i < n → n ≡ page_count h → PagesTested h classes shown last places w v None
          page_failed z = failed_page (page_is_test ∙ not-true t z) forms.size

          pub page_passed : not t ≡ false → all_to i (page_test h classes last places) ≡ true → all_to (i + 1) (page_test h classes last places) ≡ true
          unfolding all_to
          page_passed z ok = rw (add-one i, ok, page_is_test, not-false t z)

      module _ (r : ℕ) (forms : FormsTested h shown u w (i + 1) i (Some r)) where
        pub last_more : w ≡ last_to h (i + 1) last
        unfolding last_to
        last_more = forms.marks ∙ ap (λ (l : List ℕ). last_by h (i + 1) i (form_count h i) l) e ∙ ap (λ (n : ℕ). last_to h n last) (sym (add-one i))

        pub page_sum : (s x n m : ℕ) → s ≡ sum_to i (page_length h shown) → x ≡ identifier_at h i → n ≡ text_length h x - 1 → m ≡ n → s + (m + r) ≡ sum_to (i + 1) (page_length h shown)
        unfolding page_length
        page_sum s x n m p q k l = sum_more (page_length h shown) i s (m + r) p (ap₂ ◌+◌ (l ∙ k ∙ rw q) forms.bytes)

    pub forms_size : (shown : List ℕ) (i : ℕ) (u w : List ℕ) (r : Option ℕ) → u ≡ last_to h i last → FormsTested h shown u w (i + 1) i r → length w ≡ length last
    forms_size shown i u w r e forms = forms.size ∙ last_length i u e

    -- where the loop ends
    pub pages_passed : (shown classes places u v : List ℕ) (i n b : ℕ) → is_laid h ≡ true → n ≡ page_count h → i ≤ n → n ≤ i → all_to i (page_test h classes last places) ≡ true → b ≡ sum_to i (page_length h shown) → u ≡ last_to h i last → v ≡ places_to h i places → b ≤ 4295032831 * i → PagesTested h classes shown last places u v (Some b)
    pages_passed shown classes places u v i n b laid m x y ok sum p q few =
        let e : i ≡ page_count h = omega arith in
        record {
          ok = sym ok ∙ rw e;
          bytes = sum ∙ rw e;
          marks = p ∙ rw e;
          table = q ∙ rw e;
          size = written_length (identifier_at h) (λ i. i + 1) places i v q;
          most = omega (arith, (laid_facts h laid).counted.pages);
        }

pub ruleset pages = (used_tested, behind_none, last_none, last_end, last_length)
