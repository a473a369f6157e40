-- Which texts are used, and how many bytes are counted.
use Prim.Native.Nat.{ℕ, ◌+◌, ◌-◌, ◌<◌}
use mathlib.Core.Path.{◌≡◌, refl, ap, ap₂, sym, ◌∙◌}
use mathlib.Core.Bool.{Bool, true, false, not, ◌&&◌, ◌||◌}
use mathlib.Core.List.{List, flat_map}
use native.Mathlib.Omega.{arith}
use lib.Dec.{ltb, leb, eqb}
use lib.ListN.{length, get_or, replicate, length-replicate}
use borrow.Author.Tests.{ltb-true, ne_eqb}
use Rattle.text.specs.Bytes.{Bytes, any}
use Rattle.text.specs.Table.{tabulate}
use Rattle.text.proofs.Laws.{any_append}
use Rattle.names.specs.Names.{is_composed_property_name}
use Rattle.language.specs.Rules.{total}
use Rattle.sorting.proofs.Canonical.{left_of, right_of}
use Rattle.register_form.specs.Dictionary.{PageRow, space_of, name_of, is_category, text_in, term_in}
use Rattle.register_form.specs.Form.{page_count, property_count, term_count, text_count, forms_of, property_at, page_at, term_at, text_at, dictionary_in}
use Rattle.register_form.specs.Tests.{is_labelled, is_plain, term_texts, text_uses, term_uses, every_used, term_bytes, counted_bytes}
use Rattle.buffer.specs.Tests.{all_to}
use Rattle.buffer.proofs.Parts.{map_tabulate}
use Rattle.register_form.proofs.Laying.{Laid}
use Rattle.buffer.proofs.Regions.{all_to_lem}
use Rattle.register_form_test.specs.Loops.{sum_to, is_set}
use Rattle.register_form_test.specs.Stages.{class_of, text_length, name_number, property_ok, names_to, property_test, property_length, judged_term, term_test, named_to, shown_to, form_count, form_in, behind_at, form_ok, last_by, form_test, form_length, identifier_at, last_to, places_to, page_ok, page_test, page_length, used_test}
use Rattle.buffer.proofs.Testing.{all_ext}
use Rattle.register_form_test.proofs.Loops.{length_written}
use Rattle.register_form_test.proofs.Tabled.{sum_ext, sum_plus, total_tabulate, total_joined}
use Rattle.register_form_test.proofs.Classes.{length_names, length_name}
use Rattle.register_form_test.proofs.Known.{text_count_lem, text_in_lem, term_in_lem, properties_are, set_more, set_written, text_length_lem}
use Rattle.register_form_test.proofs.TermsTold.{texts_named, shown_right}
use Rattle.register_form_test.proofs.PagesTold.{pages_are, forms_are}

turned : (t n i : Bool) → ((t || n) || i) ≡ (n || (i || t))
turned true true i = refl
turned true false true = refl
turned true false false = refl
turned false true i = refl
turned false false true = refl
turned false false false = refl

module _
    (h : Bytes)
    (laid : Laid h)
    (labels : (x : ℕ) → x < text_count h → is_labelled (text_at h x) ≡ true)
    (classes : List ℕ)
    (right : (x : ℕ) → x < text_count h → get_or classes x 0 ≡ class_of (text_at h x))
    (terms : all_to (term_count h) (term_test h classes) ≡ true)
  where
    abbrev pub marks : List ℕ
    marks = named_to h classes (term_count h) (names_to h (property_count h) (replicate 2368 0))

    abbrev pub places : List ℕ
    places = places_to h (page_count h) (replicate 2368 0)

    abbrev pub lengths : List ℕ
    lengths = shown_to h classes (term_count h) (replicate 2048 0)

    -- a text is used by a property, a page or a term
    used_told : (x : ℕ) → x < text_count h → used_test marks places x ≡ any (eqb x) (text_uses (dictionary_in h))
    unfolding used_test text_uses
    used_told x b =
        let c : x < 2368 = omega (arith, laid.counted.texts) in
        let names : is_set (names_to h (property_count h) (replicate 2368 0)) x ≡ any (eqb x) (tabulate (property_count h) (name_number h)) =
        set_written 2368 (name_number h) (λ p. 1) (λ i. refl) x c (property_count h) in
        let ids : is_set places x ≡ any (eqb x) (tabulate (page_count h) (identifier_at h)) =
        set_written 2368 (identifier_at h) (λ i. i + 1) (λ i. rw (ne_eqb (i + 1) 0 (λ e. let k : i + 1 ≡ 0 = e in omega arith))) x c (page_count h) in
        let room : x < length (names_to h (property_count h) (replicate 2368 0)) =
        omega (arith, length_written (name_number h) (λ p. 1) (replicate 2368 0) (property_count h), length-replicate {A = ℕ} 2368 0) in
        ap₂ ◌||◌ (set_more (λ f. (judged_term h classes f).text) (λ f. 1) (λ i. refl) (names_to h (property_count h) (replicate 2368 0)) x room (term_count h) ∙ ap₂ ◌||◌ (texts_named h laid labels classes right terms x (omega arith)) names) ids
        ∙ turned (any (eqb x) (flat_map (term_texts (dictionary_in h)) (dictionary_in h).terms)) (any (eqb x) (tabulate (property_count h) (name_number h))) (any (eqb x) (tabulate (page_count h) (identifier_at h)))
        ∙ rw (properties_are h, pages_are h, map_tabulate (λ p. p.name) (property_count h) (property_at h), map_tabulate (λ p. p.identifier) (page_count h) (page_at h), any_append (eqb x), any_append (eqb x))

    pub texts_used_lem : all_to (text_count h) (used_test marks places) ≡ every_used (length (dictionary_in h).texts) (text_uses (dictionary_in h))
    unfolding every_used
    texts_used_lem = all_ext (text_count h) (used_test marks places) (λ x. any (eqb x) (text_uses (dictionary_in h))) used_told ∙ rw (text_count_lem h)

    -- The bytes of properties' names.
    properties_counted : all_to (property_count h) (property_test h (replicate 2368 0)) ≡ true → sum_to (property_count h) (property_length h) ≡ total (λ p. length (name_of (text_in (dictionary_in h) p.name))) (dictionary_in h).properties
    unfolding property_test property_ok property_length
    properties_counted ok =
        sum_ext (property_count h) (property_length h) (λ p. length (name_of (text_in (dictionary_in h) (name_number h p)))) name
        ∙ sym (total_tabulate (λ p. length (name_of (text_in (dictionary_in h) p.name))) (property_count h) (property_at h))
        ∙ rw (properties_are h)
      where
        name : (p : ℕ) → p < property_count h → text_length h (name_number h p) - 1 ≡ length (name_of (text_in (dictionary_in h) (name_number h p)))
        name p b =
            let x = name_number h p in
            let used = names_to h p (replicate 2368 0) in
            let t = text_at h x in
            let e : (ltb x (text_count h) && is_plain t) ≡ true =
            left_of (ltb x (text_count h) && is_plain t) (is_composed_property_name (name_of t))
            (left_of (ltb x (text_count h) && is_plain t && is_composed_property_name (name_of t)) (eqb (get_or used x 0) 0) (all_to_lem (property_count h) (property_test h (replicate 2368 0)) ok p b)) in
            let k : x < text_count h = ltb-true x (text_count h) (left_of (ltb x (text_count h)) (is_plain t) e) in
            rw (text_in_lem h x k, ← text_length_lem h laid x k) (sym (length_name t (labels x k) (right_of (ltb x (text_count h)) (is_plain t) e)))

    module _ (ok : all_to (page_count h) (page_test h classes (replicate 2048 0) (replicate 2368 0)) ≡ true) where
      abbrev lasts : ℕ → List ℕ
      lasts i = last_to h i (replicate 2048 0)

      -- of pages' identifiers
      identifier_length : (i : ℕ) → i < page_count h → text_length h (identifier_at h i) - 1 ≡ length (space_of (text_in (dictionary_in h) (identifier_at h i))) + length (name_of (text_in (dictionary_in h) (identifier_at h i)))
      unfolding page_test page_ok
      identifier_length i b =
          let x = identifier_at h i in
          let table = places_to h i (replicate 2368 0) in
          let k : x < text_count h =
          ltb-true x (text_count h)
          (left_of (ltb x (text_count h)) (leb 2 (get_or classes x 0))
          (left_of (ltb x (text_count h) && leb 2 (get_or classes x 0)) (eqb (get_or table x 0) 0)
          (left_of (ltb x (text_count h) && leb 2 (get_or classes x 0) && eqb (get_or table x 0) 0) (all_to (form_count h i) (form_test h (i + 1) (lasts i) i))
          (all_to_lem (page_count h) (page_test h classes (replicate 2048 0) (replicate 2368 0)) ok i b)))) in
          rw (text_in_lem h x k, ← text_length_lem h laid x k) (sym (length_names (text_at h x) (labels x k)))

      -- of their terms
      form_length_lem : (i : ℕ) → i < page_count h → (j : ℕ) → j < form_count h i → form_length h lengths i j ≡ term_bytes (dictionary_in h) (term_in (dictionary_in h) (form_in h i j))
      unfolding page_test form_test form_ok form_length
      form_length_lem i b j c =
          let f = form_in h i j in
          let seen = not (eqb (get_or (last_by h (i + 1) i j (lasts i)) f 0) (i + 1)) in
          let k : f < term_count h =
          ltb-true f (term_count h)
          (left_of (ltb f (term_count h)) seen
          (left_of (ltb f (term_count h) && seen) (not (behind_at h i j && is_category (term_at h f)))
          (all_to_lem (form_count h i) (form_test h (i + 1) (lasts i) i)
          (right_of (page_ok h classes (places_to h i (replicate 2368 0)) (identifier_at h i)) (all_to (form_count h i) (form_test h (i + 1) (lasts i) i))
          (all_to_lem (page_count h) (page_test h classes (replicate 2048 0) (replicate 2368 0)) ok i b)) j c))) in
          shown_right h laid labels classes right terms f k ∙ rw (term_in_lem h f k)

      pages_counted : sum_to (page_count h) (page_length h lengths) ≡ total (λ r. length (space_of (text_in (dictionary_in h) r.identifier)) + length (name_of (text_in (dictionary_in h) r.identifier))) (dictionary_in h).pages + total (λ f. term_bytes (dictionary_in h) (term_in (dictionary_in h) f)) (term_uses (dictionary_in h))
      unfolding page_length
      pages_counted =
          sum_plus n (λ i. text_length h (identifier_at h i) - 1) (λ i. sum_to (form_count h i) (form_length h lengths i))
          ∙ ap₂ ◌+◌
          (sum_ext n (λ i. text_length h (identifier_at h i) - 1) (λ i. names (page_at h i).identifier) identifier_length ∙ sym (total_tabulate (λ r. names r.identifier) n (page_at h)))
          (sum_ext n (λ i. sum_to (form_count h i) (form_length h lengths i)) (λ i. total bytes (page_at h i).forms) forms ∙ sym (total_joined forms_of (page_at h) bytes n))
          ∙ ap (λ (l : List PageRow). total (λ r. names r.identifier) l + total bytes (flat_map forms_of l)) (sym (pages_are h))
        where
          n : ℕ
          n = page_count h

          names : ℕ → ℕ
          names x = length (space_of (text_in (dictionary_in h) x)) + length (name_of (text_in (dictionary_in h) x))

          bytes : ℕ → ℕ
          bytes f = term_bytes (dictionary_in h) (term_in (dictionary_in h) f)

          forms : (i : ℕ) → i < page_count h → sum_to (form_count h i) (form_length h lengths i) ≡ total bytes (page_at h i).forms
          forms i b =
              sum_ext (form_count h i) (form_length h lengths i) (λ j. bytes (form_in h i j)) (form_length_lem i b)
              ∙ sym (total_tabulate bytes (form_count h i) (form_in h i))
              ∙ rw (forms_are h i)

      pub bytes_counted : all_to (property_count h) (property_test h (replicate 2368 0)) ≡ true → sum_to (property_count h) (property_length h) + sum_to (page_count h) (page_length h lengths) ≡ counted_bytes (dictionary_in h)
      unfolding counted_bytes
      bytes_counted names = omega (arith, properties_counted names, pages_counted)
