-- The tests of pages and their forms, and the terms and texts that are used.
use Prim.Native.Nat.{ℕ, zero, suc, ◌+◌, ◌≤◌, ◌<◌}
use mathlib.Core.Path.{◌≡◌, refl, ap, ap₂, sym, ◌∙◌}
use mathlib.Core.Bool.{Bool, true, false, not, ◌&&◌, ◌||◌, or-false}
use mathlib.Core.List.{List, map, flat_map}
use native.Mathlib.Omega.{arith}
use lib.Dec.{ltb, leb, eqb}
use lib.ListN.{length, get_or, replicate, length-replicate, get_or-replicate}
use borrow.Author.Tests.{ltb-true, eq-eqb, ne_eqb}
use Rattle.text.specs.Bytes.{Bytes, any, all}
use Rattle.text.specs.Table.{tabulate}
use Rattle.language.specs.Register.{distinct}
use Rattle.language.specs.Rules.{is_identifier}
use Rattle.register_form.specs.Dictionary.{identifier_of, is_category, text_in, term_in}
use Rattle.register_form.specs.Form.{page_count, term_count, text_count, forms_of, page_at, term_at, text_at, dictionary_in}
use Rattle.register_form.specs.Tests.{in_order, is_page_row, every_used, term_uses, keeps_page}
use Rattle.buffer.specs.Tests.{all_to}
use Rattle.buffer.proofs.Parts.{map_tabulate}
use Rattle.register_form.proofs.Laying.{Laid}
use Rattle.buffer.proofs.Regions.{all_to_lem}
use Rattle.register_form_test.specs.Loops.{is_set}
use Rattle.register_form_test.specs.Stages.{class_of, form_count, form_in, behind_at, form_ok, last_by, form_test, identifier_at, last_to, places_to, page_ok, page_test}
use Rattle.buffer.proofs.Testing.{all_ext}
use Rattle.register_form_test.proofs.Tabled.{and_assoc, all_and, all_tabulate, any_joined, distinct_tabulate, behind_in, order_tabulate, written_holds, written_most}
use Rattle.register_form_test.proofs.PageWays.{length_last}
use Rattle.register_form_test.proofs.Classes.{class_identifier}
use Rattle.register_form_test.proofs.Known.{text_count_lem, term_count_lem, text_in_lem, term_in_lem, unset_written}

pub under : (a b c : Bool) → (a ≡ true → b ≡ c) → (a && b) ≡ (a && c)
under true b c h = h refl
under false b c h = refl

pub pages_are : (h : Bytes) → (dictionary_in h).pages ≡ tabulate (page_count h) (page_at h)
unfolding dictionary_in
pages_are h = refl

pub forms_are : (h : Bytes) (i : ℕ) → (page_at h i).forms ≡ tabulate (form_count h i) (form_in h i)
unfolding page_at form_count form_in
forms_are h i = refl

-- The table of the last page that has a term.
module _ (h : Bytes) where
  abbrev pub lasts : ℕ → List ℕ
  lasts i = last_to h i (replicate 2048 0)

  lasts_room : (i f : ℕ) → f < 2048 → f < length (lasts i)
  lasts_room i f b = rw (length_last h (replicate 2048 0) i, length-replicate {A = ℕ} 2048 0) b

  lasts_most : (f : ℕ) → f < 2048 → (i : ℕ) → get_or (lasts i) f 0 ≤ i
  unfolding last_to
  lasts_most f b zero = rw (get_or-replicate {A = ℕ} 2048 f 0 0 b) (omega arith)
  lasts_most f b (suc i) =
      let l = lasts_most f b i in
      omega (arith, written_most (form_in h i) (i + 1) (lasts i) f (omega arith) (lasts_room i f b) (form_count h i))

  or_swap : (a b c : Bool) → b ≡ c → (a || b) ≡ (c || a)
  or_swap true true c e = rw (← e)
  or_swap true false c e = rw (← e)
  or_swap false true c e = rw (← e)
  or_swap false false c e = rw (← e)

  lasts_set : (f : ℕ) → f < 2048 → (i : ℕ) → is_set (lasts i) f ≡ any (eqb f) (flat_map forms_of (tabulate i (page_at h)))
  unfolding last_to is_set tabulate flat_map any
  lasts_set f b zero = rw (get_or-replicate {A = ℕ} 2048 f 0 0 b)
  lasts_set f b (suc i) =
      written_holds (λ y. not (eqb y 0)) (form_in h i) (λ j. i + 1) (λ j. rw (ne_eqb (i + 1) 0 (λ e. let k : i + 1 ≡ 0 = e in omega arith))) (lasts i) f (lasts_room i f b) (form_count h i)
      ∙ or_swap (any (eqb f) (tabulate (form_count h i) (form_in h i))) (is_set (lasts i) f) (any (eqb f) (flat_map forms_of (tabulate i (page_at h)))) (lasts_set f b i)
      ∙ rw (← forms_are h i) (sym (any_joined forms_of (page_at h) (eqb f) i))

module _ (h : Bytes) (laid : Laid h) where
  pub terms_used_lem : all_to (term_count h) (is_set (lasts h (page_count h))) ≡ every_used (length (dictionary_in h).terms) (term_uses (dictionary_in h))
  unfolding every_used
  terms_used_lem =
      all_ext (term_count h) (is_set (lasts h (page_count h))) (λ f. any (eqb f) (flat_map forms_of (tabulate (page_count h) (page_at h)))) (λ f b. lasts_set h f (omega (arith, laid.counted.terms)) (page_count h))
      ∙ rw (term_count_lem h, pages_are h)

  -- the forms of page i
  module _ (i : ℕ) where
    abbrev room : Bool
    room = all_to (form_count h i) (λ j. ltb (form_in h i j) (term_count h))

    once_told : room ≡ true → all_to (form_count h i) (λ j. not (eqb (get_or (last_by h (i + 1) i j (lasts h i)) (form_in h i j) 0) (i + 1))) ≡ distinct eqb (page_at h i).forms
    once_told r =
        all_ext (form_count h i) (λ j. not (eqb (get_or (last_by h (i + 1) i j (lasts h i)) (form_in h i j) 0) (i + 1))) (λ j. not (any (eqb (form_in h i j)) (tabulate j (form_in h i)))) step
        ∙ sym (distinct_tabulate (form_count h i) (form_in h i))
        ∙ rw (forms_are h i)
      where
        step : (j : ℕ) → j < form_count h i → not (eqb (get_or (last_by h (i + 1) i j (lasts h i)) (form_in h i j) 0) (i + 1)) ≡ not (any (eqb (form_in h i j)) (tabulate j (form_in h i)))
        step j b =
            let f = form_in h i j in
            let c : f < 2048 = omega (arith, ltb-true f (term_count h) (all_to_lem (form_count h i) (λ j. ltb (form_in h i j) (term_count h)) r j b), laid.counted.terms) in
            let m : get_or (lasts h i) f 0 ≡ i + 1 → ⊥ = λ e. let k : get_or (lasts h i) f 0 ≡ i + 1 = e in omega (arith, lasts_most h f c i) in
            let e : eqb (get_or (last_by h (i + 1) i j (lasts h i)) f 0) (i + 1) ≡ any (eqb f) (tabulate j (form_in h i)) =
            written_holds (λ y. eqb y (i + 1)) (form_in h i) (λ j. i + 1) (λ j. eq-eqb (i + 1) (i + 1) refl) (lasts h i) f (lasts_room h i f c) j
            ∙ rw (ne_eqb (get_or (lasts h i) f 0) (i + 1) m) (or-false (any (eqb f) (tabulate j (form_in h i)))) in
            ap not e

    behind_by : (g : ℕ → Bytes) (j : ℕ) → ((k : ℕ) → suc k ≡ j → term_at h (form_in h i k) ≡ g k) → behind_at h i j ≡ behind_in g j
    unfolding behind_at behind_in
    behind_by g zero e = refl
    behind_by g (suc k) e = rw (e k refl)

    order_told : room ≡ true → all_to (form_count h i) (λ j. not (behind_at h i j && is_category (term_at h (form_in h i j)))) ≡ in_order false (map (term_in (dictionary_in h)) (page_at h i).forms)
    order_told r =
        all_ext (form_count h i) (λ j. not (behind_at h i j && is_category (term_at h (form_in h i j)))) (λ j. not (behind_in terms j && is_category (terms j))) (λ j b. rw (behind_by terms j (λ k e. there k (omega arith)), there j b))
        ∙ sym (order_tabulate (form_count h i) terms)
        ∙ sym (ap (in_order false) (ap (map (term_in (dictionary_in h))) (forms_are h i) ∙ map_tabulate (term_in (dictionary_in h)) (form_count h i) (form_in h i)))
      where
        terms : ℕ → Bytes
        terms j = term_in (dictionary_in h) (form_in h i j)

        there : (j : ℕ) → j < form_count h i → term_at h (form_in h i j) ≡ terms j
        there j b = sym (term_in_lem h (form_in h i j) (ltb-true (form_in h i j) (term_count h) (all_to_lem (form_count h i) (λ j. ltb (form_in h i j) (term_count h)) r j b)))

    pub forms_told : all_to (form_count h i) (form_test h (i + 1) (lasts h i) i) ≡ (all (λ f. ltb f (length (dictionary_in h).terms)) (page_at h i).forms && distinct eqb (page_at h i).forms && in_order false (map (term_in (dictionary_in h)) (page_at h i).forms))
    unfolding form_test form_ok
    forms_told =
        all_and n (λ j. a j && b j) c
        ∙ ap (λ (t : Bool). t && all_to n c) (all_and n a b)
        ∙ sym (and_assoc (all_to n a) (all_to n b) (all_to n c))
        ∙ under (all_to n a) (all_to n b && all_to n c) (distinct eqb (page_at h i).forms && in_order false (map (term_in (dictionary_in h)) (page_at h i).forms)) (λ r. ap₂ ◌&&◌ (once_told r) (order_told r))
        ∙ and_assoc (all_to n a) (distinct eqb (page_at h i).forms) (in_order false (map (term_in (dictionary_in h)) (page_at h i).forms))
        ∙ ap (λ (t : Bool). t && distinct eqb (page_at h i).forms && in_order false (map (term_in (dictionary_in h)) (page_at h i).forms)) within
      where
        n : ℕ
        n = form_count h i

        a : ℕ → Bool
        a j = ltb (form_in h i j) (term_count h)

        b : ℕ → Bool
        b j = not (eqb (get_or (last_by h (i + 1) i j (lasts h i)) (form_in h i j) 0) (i + 1))

        c : ℕ → Bool
        c j = not (behind_at h i j && is_category (term_at h (form_in h i j)))

        within : all_to n a ≡ all (λ f. ltb f (length (dictionary_in h).terms)) (page_at h i).forms
        within = rw (term_count_lem h, forms_are h i) (sym (all_tabulate (λ f. ltb f (term_count h)) n (form_in h i)))

-- The tests of a page in another order.
regroup : (u k n a b c : Bool) → ((u && k && n) && (a && b && c)) ≡ ((u && a && c) && k && n && b)
regroup false k n a b c = refl
regroup true false n false b c = refl
regroup true false n true b false = refl
regroup true false n true b true = refl
regroup true true false false b c = refl
regroup true true false true b false = refl
regroup true true false true b true = refl
regroup true true true false b c = refl
regroup true true true true true false = refl
regroup true true true true false false = refl
regroup true true true true true true = refl
regroup true true true true false true = refl

module _ (h : Bytes) (laid : Laid h) (classes : List ℕ) (right : (x : ℕ) → x < text_count h → get_or classes x 0 ≡ class_of (text_at h x)) where
  identifier_told : (i : ℕ) → page_ok h classes (places_to h i (replicate 2368 0)) (identifier_at h i) ≡ (ltb (identifier_at h i) (length (dictionary_in h).texts) && keeps_page (dictionary_in h) (page_at h i) && not (any (eqb (identifier_at h i)) (tabulate i (identifier_at h))))
  unfolding page_ok keeps_page
  identifier_told i = rw (text_count_lem h) (go (ltb x (text_count h)) refl)
    where
      x : ℕ
      x = identifier_at h i

      go : (b : Bool) → ltb x (text_count h) ≡ b → (ltb x (text_count h) && leb 2 (get_or classes x 0) && eqb (get_or (places_to h i (replicate 2368 0)) x 0) 0) ≡ (ltb x (text_count h) && is_identifier (identifier_of (text_in (dictionary_in h) x)) && not (any (eqb x) (tabulate i (identifier_at h))))
      go true e =
          let k : x < text_count h = ltb-true x (text_count h) e in
          rw (text_in_lem h x k, right x k, class_identifier (text_at h x), unset_written 2368 (identifier_at h) (λ i. i + 1) (λ i. rw (ne_eqb (i + 1) 0 (λ e. let k : i + 1 ≡ 0 = e in omega arith))) x (omega (arith, laid.counted.texts)) i)
      go false e = rw e

  page_told : (i : ℕ) → page_test h classes (replicate 2048 0) (replicate 2368 0) i ≡ (is_page_row (dictionary_in h) (page_at h i) && keeps_page (dictionary_in h) (page_at h i) && not (any (eqb (identifier_at h i)) (tabulate i (identifier_at h))) && distinct eqb (page_at h i).forms)
  unfolding page_test is_page_row
  page_told i =
      ap₂ ◌&&◌ (identifier_told i) (forms_told h laid i)
      ∙ regroup (ltb (identifier_at h i) (length (dictionary_in h).texts)) (keeps_page (dictionary_in h) (page_at h i)) (not (any (eqb (identifier_at h i)) (tabulate i (identifier_at h)))) (all (λ f. ltb f (length (dictionary_in h).terms)) (page_at h i).forms) (distinct eqb (page_at h i).forms) (in_order false (map (term_in (dictionary_in h)) (page_at h i).forms))

  pub pages_told : all_to (page_count h) (page_test h classes (replicate 2048 0) (replicate 2368 0)) ≡ (all (is_page_row (dictionary_in h)) (dictionary_in h).pages && all (keeps_page (dictionary_in h)) (dictionary_in h).pages && distinct eqb (map (λ r. r.identifier) (dictionary_in h).pages) && all (λ r. distinct eqb r.forms) (dictionary_in h).pages)
  pages_told =
      all_ext n (page_test h classes (replicate 2048 0) (replicate 2368 0)) (λ i. ((rows i && keeps i) && fresh i) && once i) (λ i b. page_told i)
      ∙ all_and n (λ i. (rows i && keeps i) && fresh i) once
      ∙ ap (λ (t : Bool). t && all_to n once) (all_and n (λ i. rows i && keeps i) fresh ∙ ap (λ (t : Bool). t && all_to n fresh) (all_and n rows keeps))
      ∙ sym (ap₂ ◌&&◌ (ap₂ ◌&&◌ (ap₂ ◌&&◌ (all_tabulate (is_page_row (dictionary_in h)) n (page_at h)) (all_tabulate (keeps_page (dictionary_in h)) n (page_at h))) (ap (distinct eqb) (map_tabulate (λ r. r.identifier) n (page_at h)) ∙ distinct_tabulate n (identifier_at h))) (all_tabulate (λ r. distinct eqb r.forms) n (page_at h)))
      ∙ rw (pages_are h)
    where
      n : ℕ
      n = page_count h

      rows : ℕ → Bool
      rows i = is_page_row (dictionary_in h) (page_at h i)

      keeps : ℕ → Bool
      keeps i = keeps_page (dictionary_in h) (page_at h i)

      fresh : ℕ → Bool
      fresh i = not (any (eqb (identifier_at h i)) (tabulate i (identifier_at h)))

      once : ℕ → Bool
      once i = distinct eqb (page_at h i).forms
