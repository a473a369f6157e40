-- Bytes that pass the test of the layout are those of the dictionary that is read from them.
use Prim.Native.Nat.{ℕ, zero, suc, ◌+◌, ◌-◌, ◌*◌, ◌≤◌, ◌<◌}
use mathlib.Core.Path.{◌≡◌, refl, ap, ap₂, sym, ◌∙◌}
use mathlib.Core.Bool.{true}
use mathlib.Core.List.{List, [], ◌∷◌, ◌++◌, map, append_assoc, append-nil}
use native.Mathlib.Nat.{zero-add, add-zero, add_assoc, add-suc}
use native.Mathlib.Omega.{arith}
use lib.ListN.{length, get_or, take}
use lib.Seq.{drop-cons}
use Rattle.text.specs.Bytes.{Bytes, part}
use Rattle.text.specs.Table.{tabulate}
use Rattle.text.proofs.Tables.{length_tabulate, get_d_tabulate}
use Rattle.buffer.specs.Numbers.{two_bytes, two_at, padded, starts_from}
use Rattle.register_form.specs.Form.{forms_of, joined, count_bytes, property_bytes, number_bytes, bytes_of, property_at, form_start, form_at, page_at, term_at, text_start, text_at, dictionary_in}
use Rattle.register_form.specs.Tests.{is_laid, Bounded, Small, term_uses}
use Rattle.buffer.proofs.Parts.{both, length_part, part_add, flat_map_lem, map_tabulate}
use Rattle.buffer.proofs.Numbers.{two_here, two_small}
use Rattle.buffer.proofs.Regions.{region, zeros_one_more}
use Rattle.register_form.proofs.Rows.{region_rows, region_numbers}
use Rattle.values.proofs.EachKind.{code_told}
use Rattle.register_form.proofs.Starts.{starts_tabulate, pieces_joined}
use Rattle.register_form.proofs.Laying.{rises_to, Laid, laid_facts}
use Rattle.register_form.proofs.Holding.{Holds, bytes_held}

-- A table cut in two.
pub tabulate_add : {A : Type 0} (f : ℕ → A) (n m : ℕ) → tabulate (n + m) f ≡ tabulate n f ++ tabulate m (λ j. f (n + j))
unfolding tabulate
tabulate_add f n zero = rw add-zero (sym (append-nil (tabulate n f)))
tabulate_add f n (suc m) = rw (add-suc n m, tabulate_add f n m) (append_assoc (tabulate n f) (tabulate m (λ j. f (n + j))) (f (n + m) ∷ []))

-- A table of numbers of two bytes.
small_table : (n : ℕ) (f : ℕ → ℕ) → ((i : ℕ) → f i < 65536) → Small (tabulate n f)
unfolding Small
small_table n f s i b = rw (get_d_tabulate n f 0 i (rw length_tabulate at b)) (s i)

module _ (h : Bytes) (l : Laid h) (s : (i : ℕ) → get_or h i 0 < 256) where
  counts_held : part h 0 8 ≡ count_bytes (dictionary_in h)
  unfolding count_bytes dictionary_in
  counts_held = part_add h 0 6 2 ∙ both (part_add h 0 4 2 ∙ both (part_add h 0 2 2 ∙ both (count 0 (property_at h) (omega arith)) (count 2 (page_at h) (omega arith))) (count 4 (term_at h) (omega arith))) (count 6 (text_at h) (omega arith))
    where
      count : {A : Type 0} (at : ℕ) (f : ℕ → A) → at ≤ 6 → part h at 2 ≡ two_bytes (length (tabulate (two_at h at) f))
      count at f b = two_here h at (omega (arith, l.size)) s ∙ ap two_bytes (sym (length_tabulate (two_at h at) f))

  property_bytes_lem : (i : ℕ) → i < two_at h 0 → part h (8 + 3 * i) 3 ≡ property_bytes (property_at h i)
  unfolding property_bytes property_at
  property_bytes_lem i b =
      let next : suc (8 + 3 * i) ≡ 9 + 3 * i = omega arith in
      ap (take 3) (drop-cons h (8 + 3 * i) 0 (omega arith))
      ∙ ap₂ (λ (k : ℕ) (r : Bytes). k ∷ r) (sym (code_told (get_or h (8 + 3 * i) 0) (l.kinds i b))) (ap (λ k. part h k 2) next ∙ two_here h (9 + 3 * i) (omega arith) s)

  -- Forms: the pages' are pieces of one table.
  page_forms : map forms_of (dictionary_in h).pages ≡ tabulate (two_at h 2) (λ i. tabulate (form_start h (suc i) - form_start h i) (λ j. form_at h (form_start h i + j)))
  unfolding dictionary_in page_at
  page_forms = map_tabulate forms_of (two_at h 2) (page_at h)

  form_starts_lem : starts_from 0 (map forms_of (dictionary_in h).pages) ≡ tabulate (suc (two_at h 2)) (form_start h)
  form_starts_lem =
      ap (starts_from 0) page_forms
      ∙ starts_tabulate (form_start h) l.forms.first (two_at h 2) (λ i. tabulate (form_start h (suc i) - form_start h i) (λ j. form_at h (form_start h i + j)))
      (λ i b. omega (arith, l.forms.up i b, length_tabulate (form_start h (suc i) - form_start h i) (λ j. form_at h (form_start h i + j))))

  all_forms : term_uses (dictionary_in h) ≡ tabulate (form_start h (two_at h 2)) (form_at h)
  unfolding tabulate
  all_forms =
      sym (flat_map_lem forms_of (dictionary_in h).pages)
      ∙ ap joined page_forms
      ∙ pieces_joined (form_start h) l.forms.first (λ a n. tabulate n (λ j. form_at h (a + j))) (λ a n m. tabulate_add (λ j. form_at h (a + j)) n m ∙ simp add_assoc) refl (two_at h 2) l.forms.up
      ∙ simp zero-add

  -- Texts: they are pieces of one region.
  text_starts_lem : starts_from 0 (dictionary_in h).texts ≡ tabulate (suc (two_at h 6)) (text_start h)
  unfolding dictionary_in text_at
  text_starts_lem =
      starts_tabulate (text_start h) l.texts.first (two_at h 6) (text_at h)
      (λ i b.
      let step = l.texts.up i b in
      let most = rises_to (text_start h) (two_at h 6) l.texts.up (suc i) b in
      omega (arith, length_part h (28492 + text_start h i) (text_start h (suc i) - text_start h i) (omega arith)))

  all_texts : joined (dictionary_in h).texts ≡ part h 28492 (text_start h (two_at h 6))
  unfolding dictionary_in text_at
  all_texts =
      pieces_joined (text_start h) l.texts.first (λ a n. part h (28492 + a) n) (λ a n m. part_add h (28492 + a) n m ∙ rw add_assoc) refl (two_at h 6) l.texts.up

  -- region by region
  identifiers_held : part h 200 512 ≡ padded 512 (number_bytes (map (λ p. p.identifier) (dictionary_in h).pages))
  unfolding dictionary_in page_at
  identifiers_held = region_numbers h 200 512 (two_at h 2) s (omega arith) (omega arith) l.zeros.identifiers ∙ rw map_tabulate

  form_starts_held : part h 712 514 ≡ padded 514 (number_bytes (starts_from 0 (map forms_of (dictionary_in h).pages)))
  unfolding form_start
  form_starts_held =
      region_numbers h 712 514 (suc (two_at h 2)) s (omega arith) (omega arith) (zeros_one_more h 712 514 (two_at h 2) ∙ l.zeros.form_starts)
      ∙ ap (λ (t : List ℕ). padded 514 (number_bytes t)) (sym form_starts_lem)

  forms_held : part h 1226 4096 ≡ padded 4096 (number_bytes (term_uses (dictionary_in h)))
  unfolding form_at
  forms_held =
      region_numbers h 1226 4096 (form_start h (two_at h 2)) s (omega arith) (omega arith) l.zeros.forms
      ∙ ap (λ (t : List ℕ). padded 4096 (number_bytes t)) (sym all_forms)

  terms_held : part h 5322 18432 ≡ padded 18432 (joined (dictionary_in h).terms)
  unfolding dictionary_in term_at
  terms_held = region_rows (λ t. t) 9 h 5322 (term_at h) 18432 (two_at h 4) (λ i b. refl) (omega arith) (omega arith) l.zeros.terms

  text_starts_held : part h 23754 4738 ≡ padded 4738 (number_bytes (starts_from 0 (dictionary_in h).texts))
  unfolding text_start
  text_starts_held =
      region_numbers h 23754 4738 (suc (two_at h 6)) s (omega arith) (omega arith) (zeros_one_more h 23754 4738 (two_at h 6) ∙ l.zeros.text_starts)
      ∙ ap (λ (t : List ℕ). padded 4738 (number_bytes t)) (sym text_starts_lem)

  texts_held : part h 28492 35136 ≡ padded 35136 (joined (dictionary_in h).texts)
  texts_held =
      region h 28492 35136 (text_start h (two_at h 6)) (joined (dictionary_in h).texts) (ap length all_texts ∙ length_part h 28492 (text_start h (two_at h 6)) (omega arith)) l.texts.last (sym all_texts) (omega arith) l.zeros.texts

  holds_itself : Holds h (dictionary_in h)
  unfolding dictionary_in
  holds_itself =
      record {
        counts = counts_held;
        properties = region_rows property_bytes 3 h 8 (property_at h) 192 (two_at h 0) property_bytes_lem (omega arith) (omega arith) l.zeros.properties;
        identifiers = identifiers_held;
        form_starts = form_starts_held;
        forms = forms_held;
        terms = terms_held;
        text_starts = text_starts_held;
        texts = texts_held;
      }

  bounded_itself : Bounded (dictionary_in h)
  unfolding dictionary_in property_at page_at form_at term_at
  bounded_itself =
      record {
        properties = rw length_tabulate l.counted.properties;
        pages = rw length_tabulate l.counted.pages;
        terms = rw length_tabulate l.counted.terms;
        texts = rw length_tabulate l.counted.texts;
        forms = rw (all_forms, length_tabulate) l.forms.last;
        bytes = rw all_texts (omega (arith, length_part h 28492 (text_start h (two_at h 6)) (omega arith)));
        names = rw map_tabulate (small_table (two_at h 0) (λ i. two_at h (9 + 3 * i)) (λ i. two_small h (9 + 3 * i) s));
        identifiers = rw map_tabulate (small_table (two_at h 2) (λ i. two_at h (200 + 2 * i)) (λ i. two_small h (200 + 2 * i) s));
        uses = rw all_forms (small_table (form_start h (two_at h 2)) (form_at h) (λ j. two_small h (1226 + 2 * j) s));
        sized = λ i b.
            let k : i < two_at h 4 = rw length_tabulate at b in
            ap length (get_d_tabulate (two_at h 4) (term_at h) [] i k) ∙ length_part h (5322 + 9 * i) 9 (omega arith);
      }

pub rewritten : (h : Bytes) → is_laid h ≡ true → ((i : ℕ) → get_or h i 0 < 256) → bytes_of (dictionary_in h) ≡ h
rewritten h t s = let l = laid_facts h t in bytes_held h (dictionary_in h) l.size (holds_itself h l s)

pub bounded_in : (h : Bytes) → is_laid h ≡ true → ((i : ℕ) → get_or h i 0 < 256) → Bounded (dictionary_in h)
bounded_in h t s = bounded_itself h (laid_facts h t) s
