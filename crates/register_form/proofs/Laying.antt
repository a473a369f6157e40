-- What the test of the layout tells, fact by fact, and the test from the facts.
use Prim.Native.Nat.{ℕ, zero, suc, ◌+◌, ◌-◌, ◌*◌, ◌≤◌, ◌<◌}
use mathlib.Core.Path.{◌≡◌}
use mathlib.Core.Bool.{Bool, true}
use mathlib.Core.List.{List, [], ◌∷◌}
use native.Mathlib.Nat.{le_refl}
use native.Mathlib.Decide.{ℕ_discrete}
use native.Mathlib.Omega.{arith}
use lib.Dec.{ltb, leb, eqb}
use lib.ListN.{length, get_or}
use borrow.Author.Tests.{eqb-true, leb-true, ltb-true, eq-eqb, le-leb, lt-ltb}
use Rattle.text.specs.Bytes.{Bytes}
use Rattle.text.proofs.Laws.{part_length}
use Rattle.buffer.specs.Numbers.{two_at}
use Rattle.register_form.specs.Form.{register_size, text_count, form_start, text_start, text_at}
use Rattle.register_form.specs.Tests.{rises, is_counted, is_padded, is_laid}
use Rattle.buffer.specs.Tests.{all_to, zeros_at}
use Rattle.register_form.proofs.Truths.{each}
use Rattle.buffer.proofs.Regions.{all_to_lem, to_all}

pub record Rises (f : ℕ → ℕ) (n most : ℕ) : Type 0 where
  pub first : f 0 ≡ 0
  pub up : (i : ℕ) → i < n → f i ≤ f (suc i)
  pub last : f n ≤ most

-- no value is past the last
pub rises_to : (f : ℕ → ℕ) (n : ℕ) → ((i : ℕ) → i < n → f i ≤ f (suc i)) → (i : ℕ) → i ≤ n → f i ≤ f n
rises_to f zero up i b = let e : i ≡ 0 = omega arith in rw e (le_refl (f 0))
rises_to f (suc n) up i b = go (ℕ_discrete i (suc n)) (rises_to f n (λ j c. up j (omega arith)) i)
  where
    go : Dec (i ≡ suc n) → (i ≤ n → f i ≤ f n) → f i ≤ f (suc n)
    go (yes e) k = rw e (le_refl (f (suc n)))
    go (no e) k = let c : i ≤ n = omega (arith, e) in omega (arith, k c, up n (le_refl _))

pub record Counted (h : Bytes) : Type 0 where
  pub properties : two_at h 0 ≤ 64
  pub pages : two_at h 2 ≤ 256
  pub terms : two_at h 4 ≤ 2048
  pub texts : two_at h 6 ≤ 2368

-- the zeros behind each region
pub record Padded (h : Bytes) : Type 0 where
  pub properties : zeros_at h (8 + 3 * two_at h 0) (192 - 3 * two_at h 0) ≡ true
  pub identifiers : zeros_at h (200 + 2 * two_at h 2) (512 - 2 * two_at h 2) ≡ true
  pub form_starts : zeros_at h (714 + 2 * two_at h 2) (512 - 2 * two_at h 2) ≡ true
  pub forms : zeros_at h (1226 + 2 * form_start h (two_at h 2)) (4096 - 2 * form_start h (two_at h 2)) ≡ true
  pub terms : zeros_at h (5322 + 9 * two_at h 4) (18432 - 9 * two_at h 4) ≡ true
  pub text_starts : zeros_at h (23756 + 2 * two_at h 6) (4736 - 2 * two_at h 6) ≡ true
  pub texts : zeros_at h (28492 + text_start h (two_at h 6)) (35136 - text_start h (two_at h 6)) ≡ true

pub record Laid (h : Bytes) : Type 0 where
  pub size : length h ≡ register_size
  pub counted : Counted h
  pub kinds : (i : ℕ) → i < two_at h 0 → get_or h (8 + 3 * i) 0 < 4
  pub forms : Rises (form_start h) (two_at h 2) 2048
  pub texts : Rises (text_start h) (two_at h 6) 35136
  pub zeros : Padded h

-- From the tests.
rises_facts : (f : ℕ → ℕ) (n most : ℕ) → rises f n most ≡ true → Rises f n most
unfolding rises
rises_facts f n most t =
    let k = each (eqb (f 0) 0) (all_to n (λ j. leb (f j) (f (suc j))) ∷ leb (f n) most ∷ []) t in
    record {
      first = eqb-true (f 0) 0 (k 0);
      up = λ i l. leb-true (f i) (f (suc i)) (all_to_lem n (λ j. leb (f j) (f (suc j))) (k 1) i l);
      last = leb-true (f n) most (k 2);
    }

counted_facts : (h : Bytes) → is_counted h ≡ true → Counted h
unfolding is_counted
counted_facts h t =
    let k = each (leb (two_at h 0) 64) (leb (two_at h 2) 256 ∷ leb (two_at h 4) 2048 ∷ leb (two_at h 6) 2368 ∷ []) t in
    record {
      properties = leb-true (two_at h 0) 64 (k 0);
      pages = leb-true (two_at h 2) 256 (k 1);
      terms = leb-true (two_at h 4) 2048 (k 2);
      texts = leb-true (two_at h 6) 2368 (k 3);
    }

padded_facts : (h : Bytes) → is_padded h ≡ true → Padded h
unfolding is_padded
padded_facts h t = record { properties = k 0; identifiers = k 1; form_starts = k 2; forms = k 3; terms = k 4; text_starts = k 5; texts = k 6 }
  where
    tests : List Bool
    tests =
        zeros_at h (200 + 2 * two_at h 2) (512 - 2 * two_at h 2)
        ∷ zeros_at h (714 + 2 * two_at h 2) (512 - 2 * two_at h 2)
        ∷ zeros_at h (1226 + 2 * form_start h (two_at h 2)) (4096 - 2 * form_start h (two_at h 2))
        ∷ zeros_at h (5322 + 9 * two_at h 4) (18432 - 9 * two_at h 4)
        ∷ zeros_at h (23756 + 2 * two_at h 6) (4736 - 2 * two_at h 6)
        ∷ zeros_at h (28492 + text_start h (two_at h 6)) (35136 - text_start h (two_at h 6))
        ∷ []

    k : (i : ℕ) → get_or (zeros_at h (8 + 3 * two_at h 0) (192 - 3 * two_at h 0) ∷ tests) i true ≡ true
    k = each (zeros_at h (8 + 3 * two_at h 0) (192 - 3 * two_at h 0)) tests t

pub laid_facts : (h : Bytes) → is_laid h ≡ true → Laid h
unfolding is_laid
laid_facts h t =
    let kinds : ℕ → Bool = λ i. ltb (get_or h (8 + 3 * i) 0) 4 in
    let k = each (eqb (length h) register_size) (is_counted h ∷ all_to (two_at h 0) kinds ∷ rises (form_start h) (two_at h 2) 2048 ∷ rises (text_start h) (two_at h 6) 35136 ∷ is_padded h ∷ []) t in
    record {
      size = eqb-true (length h) register_size (k 0);
      counted = counted_facts h (k 1);
      kinds = λ i l. ltb-true (get_or h (8 + 3 * i) 0) 4 (all_to_lem (two_at h 0) kinds (k 2) i l);
      forms = rises_facts (form_start h) (two_at h 2) 2048 (k 3);
      texts = rises_facts (text_start h) (two_at h 6) 35136 (k 4);
      zeros = padded_facts h (k 5);
    }

-- The tests from the facts.
facts_rise : (f : ℕ → ℕ) (n most : ℕ) → Rises f n most → rises f n most ≡ true
unfolding rises
facts_rise f n most r =
    rw (eq-eqb (f 0) 0 r.first, to_all n (λ j. leb (f j) (f (suc j))) (λ i l. le-leb (f i) (f (suc i)) (r.up i l)), le-leb (f n) most r.last)

facts_counted : (h : Bytes) → Counted h → is_counted h ≡ true
unfolding is_counted
facts_counted h c = rw (le-leb (two_at h 0) 64 c.properties, le-leb (two_at h 2) 256 c.pages, le-leb (two_at h 4) 2048 c.terms, le-leb (two_at h 6) 2368 c.texts)

facts_padded : (h : Bytes) → Padded h → is_padded h ≡ true
unfolding is_padded
facts_padded h p = rw (p.properties, p.identifiers, p.form_starts, p.forms, p.terms, p.text_starts, p.texts)

pub facts_laid : (h : Bytes) → Laid h → is_laid h ≡ true
unfolding is_laid
facts_laid h l =
    rw (
      eq-eqb (length h) register_size l.size,
      facts_counted h l.counted,
      to_all (two_at h 0) (λ j. ltb (get_or h (8 + 3 * j) 0) 4) (λ i b. lt-ltb (get_or h (8 + 3 * i) 0) 4 (l.kinds i b)),
      facts_rise (form_start h) (two_at h 2) 2048 l.forms,
      facts_rise (text_start h) (two_at h 6) 35136 l.texts,
      facts_padded h l.zeros,
    )

-- A text ends within the bytes.
pub text_length_lem : (h : Bytes) → Laid h → (x : ℕ) → x < text_count h → length (text_at h x) ≡ text_start h (suc x) - text_start h x
unfolding text_at
text_length_lem h laid x b =
    let up = laid.texts.up in
    part_length h (28492 + text_start h x) (text_start h (suc x) - text_start h x)
    (omega (arith, laid.size, laid.texts.last, up x b, rises_to (text_start h) (text_count h) up (suc x) (omega arith)))
