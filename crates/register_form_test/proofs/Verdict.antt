-- All tests together tell whether bytes that are laid out as those of a dictionary are the form of a register.
use Prim.Native.Nat.{ℕ, ◌+◌, ◌<◌}
use mathlib.Core.Path.{◌≡◌, refl, ap, sym, ◌∙◌}
use mathlib.Core.Bool.{Bool, true, false, ◌&&◌}
use mathlib.Core.List.{List, [], ◌∷◌, map}
use native.Mathlib.Omega.{arith}
use lib.Dec.{leb, eqb}
use lib.ListN.{get_or, replicate, length-replicate}
use Rattle.text.specs.Bytes.{Bytes, order_of, all}
use Rattle.text.proofs.Laws.{all_at}
use Rattle.language.specs.Register.{distinct}
use Rattle.sorting.specs.Ascending.{ascends}
use Rattle.sorting.proofs.Canonical.{same_truth, left_of, right_of}
use Rattle.register_form.specs.Dictionary.{Dictionary}
use Rattle.register_form.specs.Form.{page_count, property_count, term_count, text_count, text_at, dictionary_in}
use Rattle.register_form.specs.Tests.{is_laid, is_labelled, is_plain_number, is_term, is_page_row, is_canonical, keeps_property, keeps_term, keeps_page, counted_bytes, keeps_rules, tested}
use Rattle.buffer.specs.Tests.{all_to}
use Rattle.register_form.specs.Opened.{Places}
use Rattle.register_form.proofs.Laying.{Laid, laid_facts}
use Rattle.register_form.proofs.Truths.{each}
use Rattle.register_form.proofs.Described.{canon}
use Rattle.register_form_test.specs.Loops.{sum_to, is_set}
use Rattle.register_form_test.specs.Stages.{class_of, text_test, classes_to, names_to, property_test, property_length, term_test, named_to, shown_to, last_to, places_to, page_test, page_length, used_test}
use Rattle.register_form_test.proofs.Tabled.{written_fill}
use Rattle.register_form_test.proofs.Known.{text_count_lem, text_in_lem, texts_told, properties_told}
use Rattle.register_form_test.proofs.TermsTold.{terms_told}
use Rattle.register_form_test.proofs.PagesTold.{pages_told, terms_used_lem}
use Rattle.register_form_test.proofs.Placed.{places_right}
use Rattle.register_form_test.proofs.Counting.{texts_used_lem, bytes_counted}

module _ (h : Bytes) where
  abbrev pub classes : List ℕ
  classes = classes_to h (text_count h) (replicate 2368 0)

  abbrev pub marks : List ℕ
  marks = named_to h classes (term_count h) (names_to h (property_count h) (replicate 2368 0))

  abbrev pub places : List ℕ
  places = places_to h (page_count h) (replicate 2368 0)

  abbrev pub bytes : ℕ
  bytes = sum_to (property_count h) (property_length h) + sum_to (page_count h) (page_length h (shown_to h classes (term_count h) (replicate 2048 0)))

  -- The tests, in the order in which they are made.
  abbrev texts : Bool
  texts = all_to (text_count h) (text_test h)

  abbrev properties : Bool
  properties = all_to (property_count h) (property_test h (replicate 2368 0))

  abbrev terms : Bool
  terms = all_to (term_count h) (term_test h classes)

  abbrev pages : Bool
  pages = all_to (page_count h) (page_test h classes (replicate 2048 0) (replicate 2368 0))

  abbrev used_terms : Bool
  used_terms = all_to (term_count h) (is_set (last_to h (page_count h) (replicate 2048 0)))

  abbrev used_texts : Bool
  used_texts = all_to (text_count h) (used_test marks places)

  unfoldable pub verdict : Bool
  verdict = texts && properties && terms && pages && used_terms && used_texts && leb bytes 32768

  pub unverified : pages ≡ false → verdict ≡ false
  unfolding verdict
  unverified e = go (texts && properties && terms) pages e
    where
      go : (a b : Bool) → b ≡ false → (a && b && used_terms && used_texts && leb bytes 32768) ≡ false
      go true b z = rw z
      go false b z = refl

  labelled : all is_labelled (dictionary_in h).texts ≡ true → (x : ℕ) → x < text_count h → is_labelled (text_at h x) ≡ true
  labelled e x b = rw (text_in_lem h x b) at (all_at is_labelled (dictionary_in h).texts x [] e (omega (arith, text_count_lem h)))

  module _ (laid : Laid h) where
    pub classes_right : (x : ℕ) → x < text_count h → get_or classes x 0 ≡ class_of (text_at h x)
    classes_right x b = written_fill (λ x. class_of (text_at h x)) (replicate 2368 0) x (rw (length-replicate {A = ℕ} 2368 0) (omega (arith, laid.counted.texts))) (text_count h) b

    each_passed : verdict ≡ true → (i : ℕ) → get_or (texts ∷ properties ∷ terms ∷ pages ∷ used_terms ∷ used_texts ∷ leb bytes 32768 ∷ []) i true ≡ true
    unfolding verdict
    each_passed e = each texts (properties ∷ terms ∷ pages ∷ used_terms ∷ used_texts ∷ leb bytes 32768 ∷ []) e

    -- The parts of what is to be tested.
    abbrev d : Dictionary
    d = dictionary_in h

    abbrev rules : List Bool
    rules =
        distinct eqb (map (λ p. p.name) d.properties)
        ∷ all (keeps_term d) d.terms
        ∷ all (keeps_page d) d.pages
        ∷ distinct eqb (map (λ r. r.identifier) d.pages)
        ∷ all (λ r. distinct eqb r.forms) d.pages
        ∷ leb (counted_bytes d) 32768
        ∷ []

    kept : keeps_rules d ≡ true → (i : ℕ) → get_or (all (keeps_property d) d.properties ∷ rules) i true ≡ true
    unfolding keeps_rules
    kept e = each (all (keeps_property d) d.properties) rules e

    -- What passes keeps to all.
    forth : verdict ≡ true → (is_canonical d && keeps_rules d) ≡ true
    unfolding is_canonical keeps_rules
    forth e =
        let k = each_passed e in
        let t : (all is_labelled d.texts && ascends order_of d.texts) ≡ true = sym (texts_told h) ∙ k 0 in
        let labels = labelled (left_of (all is_labelled d.texts) (ascends order_of d.texts) t) in
        let p = each (all (λ p. is_plain_number d p.name) d.properties) (all (keeps_property d) d.properties ∷ distinct eqb (map (λ p. p.name) d.properties) ∷ []) (sym (properties_told h laid) ∙ k 1) in
        let m = each (all (is_term d) d.terms) (all (keeps_term d) d.terms ∷ ascends order_of d.terms ∷ []) (sym (terms_told h laid labels classes classes_right) ∙ k 2) in
        let g = each (all (is_page_row d) d.pages) (all (keeps_page d) d.pages ∷ distinct eqb (map (λ r. r.identifier) d.pages) ∷ all (λ r. distinct eqb r.forms) d.pages ∷ []) (sym (pages_told h laid classes classes_right) ∙ k 3) in
        let n : leb (counted_bytes d) 32768 ≡ true = ap (λ (b : ℕ). leb b 32768) (sym (bytes_counted h laid labels classes classes_right (k 2) (k 3) (k 1))) ∙ k 6 in
        rw (
          right_of (all is_labelled d.texts) (ascends order_of d.texts) t,
          left_of (all is_labelled d.texts) (ascends order_of d.texts) t,
          p 0,
          m 2,
          m 0,
          g 0,
          sym (terms_used_lem h laid) ∙ k 4,
          sym (texts_used_lem h laid labels classes classes_right (k 2)) ∙ k 5,
          p 1,
          p 2,
          m 1,
          g 1,
          g 2,
          g 3,
          n,
        )

    back : (is_canonical d && keeps_rules d) ≡ true → verdict ≡ true
    unfolding verdict
    back e =
        let c = canon d (left_of (is_canonical d) (keeps_rules d) e) in
        let k = kept (right_of (is_canonical d) (keeps_rules d) e) in
        let labels = labelled c.labels in
        let t : texts ≡ true = texts_told h ∙ rw (c.labels, c.up) in
        let p : properties ≡ true = properties_told h laid ∙ rw (c.names, k 0, k 1) in
        let m : terms ≡ true = terms_told h laid labels classes classes_right ∙ rw (c.terms, k 2, c.terms_up) in
        let g : pages ≡ true = pages_told h laid classes classes_right ∙ rw (c.pages, k 3, k 4, k 5) in
        let u : used_terms ≡ true = terms_used_lem h laid ∙ c.terms_used in
        let v : used_texts ≡ true = texts_used_lem h laid labels classes classes_right m ∙ c.texts_used in
        let n : leb bytes 32768 ≡ true = ap (λ (b : ℕ). leb b 32768) (bytes_counted h laid labels classes classes_right m g p) ∙ k 6 in
        rw (t, p, m, g, u, v, n)

    told : verdict ≡ (is_canonical d && keeps_rules d)
    told = same_truth verdict (is_canonical d && keeps_rules d) forth back

  pub verdict_is : is_laid h ≡ true → verdict ≡ tested h
  unfolding tested
  verdict_is e = told (laid_facts h e) ∙ rw e

  pub verdict_places : is_laid h ≡ true → verdict ≡ true → Places (dictionary_in h) places
  verdict_places e v = places_right h classes (replicate 2048 0) (each_passed (laid_facts h e) v 3) (laid_facts h e)

  pub not_laid : is_laid h ≡ false → false ≡ tested h
  unfolding tested
  not_laid e = rw e
