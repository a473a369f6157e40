-- A dictionary is read back from bytes that hold it.
use Prim.Native.Nat.{ℕ, suc, ◌+◌, ◌-◌, ◌*◌, ◌≤◌, ◌<◌}
use mathlib.Core.Path.{◌≡◌, refl, ap, sym, ◌∙◌}
use mathlib.Core.List.{List, [], ◌++◌, map}
use native.Mathlib.Nat.{zero-add, add-zero}
use native.Mathlib.Omega.{arith}
use lib.ListN.{length, get_or, length-map, get_or-map}
use Rattle.text.specs.Bytes.{Bytes, part}
use Rattle.text.specs.Table.{tabulate}
use Rattle.text.proofs.Tables.{is_tabulate}
use Rattle.values.specs.Values.{kind_code, kind_from}
use Rattle.buffer.specs.Numbers.{two_bytes, two_at, padded, starts_from}
use Rattle.register_form.specs.Dictionary.{Dictionary, PageRow, no_property, property_in, term_in, text_in}
use Rattle.register_form.specs.Form.{forms_of, joined, count_bytes, property_bytes, number_bytes, bytes_of, property_at, form_start, form_at, page_at, term_at, text_start, text_at, dictionary_in}
use Rattle.register_form.specs.Tests.{Bounded, Small, term_uses}
use Rattle.buffer.proofs.Parts.{get_d_part, part_part, flat_map_lem}
use Rattle.buffer.proofs.Numbers.{two_there}
use Rattle.buffer.proofs.Regions.{part_region}
use Rattle.register_form.proofs.Rows.{row_in, number_in}
use Rattle.values.proofs.EachKind.{kind_coded}
use Rattle.register_form.proofs.Starts.{length_starts, start_most, table_step, table_most, table_piece, table_piece_at}
use Rattle.register_form.proofs.Holding.{Holds, holds_bytes}

-- the starts of lists, in a region
starts_in : (h : Bytes) (base size : ℕ) (l : List Bytes) → part h base size ≡ padded size (number_bytes (starts_from 0 l)) → 2 * suc (length l) ≤ size → length (joined l) < 65536 → (i : ℕ) → i < suc (length l) → two_at h (base + 2 * i) ≡ get_or (starts_from 0 l) i 0
unfolding Small
starts_in h base size l e b s i k =
    number_in h base size (starts_from 0 l) e (omega (arith, length_starts 0 l)) (λ j c. omega (arith, start_most 0 l j c)) i (omega (arith, length_starts 0 l))

abbrev no_page : PageRow
no_page = record { identifier = 0; forms = [] }

module _ (h : Bytes) (d : Dictionary) (e : Holds h d) (b : Bounded d) where
  count_at : (at n : ℕ) → at + 2 ≤ 8 → n < 65536 → part (count_bytes d) at 2 ≡ two_bytes n → two_at h at ≡ n
  count_at at n l s p =
      two_there h at n s (ap (λ i. part h i 2) (sym (zero-add at)) ∙ sym (part_part h 0 8 at 2 l) ∙ ap (λ (r : Bytes). part r at 2) e.counts ∙ p)

  pub count_properties : two_at h 0 ≡ length d.properties
  unfolding count_bytes
  count_properties = count_at 0 (length d.properties) (omega arith) (omega arith) refl

  pub count_pages : two_at h 2 ≡ length d.pages
  unfolding count_bytes
  count_pages = count_at 2 (length d.pages) (omega arith) (omega arith) refl

  pub count_terms : two_at h 4 ≡ length d.terms
  unfolding count_bytes
  count_terms = count_at 4 (length d.terms) (omega arith) (omega arith) refl

  pub count_texts : two_at h 6 ≡ length d.texts
  unfolding count_bytes
  count_texts = count_at 6 (length d.texts) (omega arith) (omega arith) refl

  -- Properties.
  module _ (i : ℕ) (l : i < length d.properties) where
    property_row : part h (8 + 3 * i) 3 ≡ property_bytes (property_in d i)
    unfolding property_bytes
    property_row = row_in property_bytes 3 (no_property d) h 8 192 d.properties e.properties (λ j k. refl) (omega arith) i l

    pub kind_there : get_or h (8 + 3 * i) 0 ≡ kind_code (property_in d i).kind
    unfolding property_bytes
    kind_there = ap (λ k. get_or h k 0) (sym (add-zero (8 + 3 * i))) ∙ sym (get_d_part h (8 + 3 * i) 3 0 (omega arith)) ∙ ap (λ (r : Bytes). get_or r 0 0) property_row

    name_there : two_at h (9 + 3 * i) ≡ (property_in d i).name
    unfolding property_bytes Small
    name_there =
        let at : 9 + 3 * i ≡ 8 + 3 * i + 1 = omega arith in
        let named : get_or (map (λ p. p.name) d.properties) i 0 ≡ (property_in d i).name = get_or-map (λ p. p.name) d.properties i (no_property d) in
        two_there h (9 + 3 * i) (property_in d i).name (rw named at (b.names i (rw length-map l)))
        (ap (λ k. part h k 2) at ∙ sym (part_part h (8 + 3 * i) 3 1 2 (omega arith)) ∙ ap (λ (r : Bytes). part r 1 2) property_row)

    property_back : property_in d i ≡ property_at h i
    unfolding property_at
    property_back = λ j. record { kind = sym (ap kind_from kind_there ∙ kind_coded (property_in d i).kind) j; name = sym name_there j }

  -- Pages.
  pub form_start_lem : (i : ℕ) → i < suc (length (map forms_of d.pages)) → form_start h i ≡ get_or (starts_from 0 (map forms_of d.pages)) i 0
  unfolding form_start
  form_start_lem i l =
      starts_in h 712 514 (map forms_of d.pages) e.form_starts (omega (arith, length-map d.pages forms_of))
      (omega (arith, ap length (flat_map_lem forms_of d.pages)))
      i
      l

  form_there : (j : ℕ) → j < length (term_uses d) → form_at h j ≡ get_or (term_uses d) j 0
  unfolding form_at
  form_there j l = number_in h 1226 4096 (term_uses d) e.forms (omega arith) b.uses j l

  module _ (i : ℕ) (l : i < length d.pages) where
    within : i < length (map forms_of d.pages)
    within = rw length-map l

    identifier_there : two_at h (200 + 2 * i) ≡ (get_or d.pages i no_page).identifier
    identifier_there =
        number_in h 200 512 (map (λ p. p.identifier) d.pages) e.identifiers (rw length-map (omega arith)) b.identifiers i (rw length-map l)
        ∙ get_or-map (λ p. p.identifier) d.pages i no_page

    forms_there : forms_of (get_or d.pages i no_page) ≡ tabulate (form_start h (suc i) - form_start h i) (λ j. form_at h (form_start h i + j))
    forms_there =
        let s = form_start h in
        let f = get_or (map forms_of d.pages) i [] in
        let step = table_step s (map forms_of d.pages) form_start_lem i within in
        let most = table_most s (map forms_of d.pages) form_start_lem i within in
        sym (get_or-map forms_of d.pages i no_page)
        ∙ is_tabulate (s (suc i) - s i) (λ j. form_at h (s i + j)) 0 f (omega arith)
        (λ j k.
        table_piece_at s (map forms_of d.pages) form_start_lem i within j k
        ∙ ap (λ (r : Bytes). get_or r (s i + j) 0) (flat_map_lem forms_of d.pages)
        ∙ sym (form_there (s i + j) (omega (arith, ap length (flat_map_lem forms_of d.pages)))))

    page_back : get_or d.pages i no_page ≡ page_at h i
    unfolding page_at
    page_back = λ j. record { identifier = sym identifier_there j; forms = forms_there j }

  -- Terms and texts.
  term_there : (i : ℕ) → i < length d.terms → term_in d i ≡ term_at h i
  unfolding term_at
  term_there i l = sym (row_in (λ t. t) 9 [] h 5322 18432 d.terms e.terms b.sized (omega arith) i l)

  pub text_start_lem : (i : ℕ) → i < suc (length d.texts) → text_start h i ≡ get_or (starts_from 0 d.texts) i 0
  unfolding text_start
  text_start_lem i l = starts_in h 23754 4738 d.texts e.text_starts (omega arith) (omega arith) i l

  text_there : (i : ℕ) → i < length d.texts → text_in d i ≡ text_at h i
  unfolding text_at
  text_there i l =
      let s = text_start h in
      let step = table_step s d.texts text_start_lem i l in
      let most = table_most s d.texts text_start_lem i l in
      sym (part_region h 28492 35136 (joined d.texts) e.texts b.bytes (s i) (s (suc i) - s i) (omega arith) ∙ table_piece s d.texts text_start_lem i l)

  pub dictionary_there : dictionary_in h ≡ d
  unfolding dictionary_in
  dictionary_there =
      λ j.
      record {
        properties = sym (is_tabulate (two_at h 0) (property_at h) (no_property d) d.properties (sym count_properties) (λ i l. property_back i (rw (← count_properties) l))) j;
        pages = sym (is_tabulate (two_at h 2) (page_at h) no_page d.pages (sym count_pages) (λ i l. page_back i (rw (← count_pages) l))) j;
        terms = sym (is_tabulate (two_at h 4) (term_at h) [] d.terms (sym count_terms) (λ i l. term_there i (rw (← count_terms) l))) j;
        texts = sym (is_tabulate (two_at h 6) (text_at h) [] d.texts (sym count_texts) (λ i l. text_there i (rw (← count_texts) l))) j;
      }

pub read_back_lem : (d : Dictionary) (z : Bytes) → Bounded d → dictionary_in (bytes_of d ++ z) ≡ d
read_back_lem d z b = dictionary_there (bytes_of d ++ z) d (holds_bytes d z b) b
