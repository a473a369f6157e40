-- The tests of terms, the texts that they name and the bytes that they count for.
use Prim.Native.Nat.{ℕ, zero, suc, ◌≤◌, ◌<◌}
use mathlib.Core.Path.{◌≡◌, refl, ap₂, sym, ◌∙◌}
use mathlib.Core.Bool.{Bool, true, ◌&&◌, ◌||◌}
use mathlib.Core.List.{List, flat_map}
use native.Mathlib.Nat.{le_refl}
use native.Mathlib.Omega.{arith}
use lib.Dec.{eqb}
use lib.ListN.{get_or, replicate, length-replicate}
use Rattle.text.specs.Bytes.{Bytes, order_of, any, all}
use Rattle.text.specs.Table.{tabulate}
use Rattle.sorting.specs.Ascending.{ascends}
use Rattle.sorting.proofs.Canonical.{left_of}
use Rattle.register_form.specs.Form.{term_count, text_count, term_at, text_at, dictionary_in}
use Rattle.register_form.specs.Tests.{is_labelled, is_term, term_texts, keeps_term, term_bytes}
use Rattle.buffer.specs.Tests.{all_to}
use Rattle.register_form.proofs.Laying.{Laid}
use Rattle.buffer.proofs.Regions.{all_to_lem}
use Rattle.register_form_test.specs.Loops.{climbs}
use Rattle.register_form_test.specs.Stages.{class_of, judged_term, term_test, shown_to}
use Rattle.buffer.proofs.Testing.{all_ext}
use Rattle.register_form_test.proofs.Tabled.{all_and, all_tabulate, any_snoc, any_joined, ascends_tabulate, written_fill}
use Rattle.register_form_test.proofs.Judging.{right_term}

pub terms_are : (h : Bytes) → (dictionary_in h).terms ≡ tabulate (term_count h) (term_at h)
unfolding dictionary_in
terms_are h = refl

module _
    (h : Bytes)
    (laid : Laid h)
    (labels : (x : ℕ) → x < text_count h → is_labelled (text_at h x) ≡ true)
    (classes : List ℕ)
    (right : (x : ℕ) → x < text_count h → get_or classes x 0 ≡ class_of (text_at h x))
  where
    pub terms_told : all_to (term_count h) (term_test h classes) ≡ (all (is_term (dictionary_in h)) (dictionary_in h).terms && all (keeps_term (dictionary_in h)) (dictionary_in h).terms && ascends order_of (dictionary_in h).terms)
    unfolding term_test
    terms_told =
        all_and n (λ f. (judged_term h classes f).ok) (climbs (term_at h))
        ∙ ap₂ ◌&&◌
        (all_ext n (λ f. (judged_term h classes f).ok) (λ f. is f && keeps f) (λ f b. (right_term h laid labels classes right f).is) ∙ all_and n is keeps ∙ sym (ap₂ ◌&&◌ (all_tabulate (is_term (dictionary_in h)) n (term_at h)) (all_tabulate (keeps_term (dictionary_in h)) n (term_at h))))
        (sym (ascends_tabulate n (term_at h)))
        ∙ rw (terms_are h)
      where
        n : ℕ
        n = term_count h

        is : ℕ → Bool
        is f = is_term (dictionary_in h) (term_at h f)

        keeps : ℕ → Bool
        keeps f = keeps_term (dictionary_in h) (term_at h f)

    module _ (ok : all_to (term_count h) (term_test h classes) ≡ true) where
      kept : (f : ℕ) → f < term_count h → (is_term (dictionary_in h) (term_at h f) && keeps_term (dictionary_in h) (term_at h f)) ≡ true
      unfolding term_test
      kept f b = sym (right_term h laid labels classes right f).is ∙ left_of (judged_term h classes f).ok (climbs (term_at h) f) (all_to_lem (term_count h) (term_test h classes) ok f b)

      -- the texts that the first n terms name
      named : (x : ℕ) → x < 65535 → (n : ℕ) → n ≤ term_count h → any (eqb x) (tabulate n (λ f. (judged_term h classes f).text)) ≡ any (eqb x) (flat_map (term_texts (dictionary_in h)) (tabulate n (term_at h)))
      unfolding tabulate any flat_map
      named x b zero l = refl
      named x b (suc n) l =
          any_snoc (eqb x) n (λ f. (judged_term h classes f).text)
          ∙ ap₂ ◌||◌ (named x b n (omega arith)) ((right_term h laid labels classes right n).names (kept n (omega arith)) x b)
          ∙ sym (any_joined (term_texts (dictionary_in h)) (term_at h) (eqb x) n)

      pub texts_named : (x : ℕ) → x < 65535 → any (eqb x) (tabulate (term_count h) (λ f. (judged_term h classes f).text)) ≡ any (eqb x) (flat_map (term_texts (dictionary_in h)) (dictionary_in h).terms)
      texts_named x b = named x b (term_count h) (le_refl (term_count h)) ∙ rw (terms_are h)

      pub shown_right : (f : ℕ) → f < term_count h → get_or (shown_to h classes (term_count h) (replicate 2048 0)) f 0 ≡ term_bytes (dictionary_in h) (term_at h f)
      shown_right f b =
          written_fill (λ f. (judged_term h classes f).bytes) (replicate 2048 0) f (rw (length-replicate {A = ℕ} 2048 0) (omega (arith, laid.counted.terms))) (term_count h) b
          ∙ (right_term h laid labels classes right f).bytes (kept f b)
