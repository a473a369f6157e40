-- What opening answers, by what it called.
use Prim.Native.Nat.{ℕ, ◌+◌, ◌<◌}
use mathlib.Core.Path.{◌≡◌, refl, ap, sym, ◌∙◌}
use mathlib.Core.Bool.{Bool, true, false, not, ◌&&◌, and-false, true≢false}
use mathlib.Core.List.{List}
use lib.Dec.{leb}
use lib.ListN.{length, get_or, replicate, length-replicate}
use borrow.Author.Tests.{not-true, not-false}
use Rattle.text.specs.Bytes.{Bytes}
use Rattle.register_form.specs.Form.{term_count, text_count}
use Rattle.register_form.specs.Tests.{is_laid}
use Rattle.buffer.specs.Tests.{all_to}
use Rattle.register_form.proofs.Forms.{tested_is}
use Rattle.register_form.proofs.Laying.{laid_facts}
use Rattle.register_form_test.specs.Loops.{is_set}
use Rattle.register_form_test.specs.Stages.{text_test, classes_to, Classed, PropertiesTested, TermsTested, PagesTested, used_test, term_test}
use Rattle.register_form_test.specs.Opening.{Opens, Tries}
use Rattle.std.specs.Prelude.{Option, Some, None}
use Rattle.register_form_test.proofs.Verdict.{classes_right, verdict, verdict_is, verdict_places, not_laid}

pub laid_known : (h : Bytes) (r : Bool) → r ≡ is_laid h → not r ≡ false → is_laid h ≡ true
laid_known h r e f = sym e ∙ not-false r f

pub classed : (h : Bytes) (r texts : Bool) (classes : List ℕ) → r ≡ is_laid h → not r ≡ false → (texts ≡ all_to (text_count h) (text_test h)) × (classes ≡ classes_to h (text_count h) (replicate 2368 0)) → Classed h classes
classed h r texts classes e f t x b = rw t.1 (classes_right h (laid_facts h (laid_known h r e f)) x b)

pub try_not : (h : Bytes) (places : List ℕ) (r : Bool) → r ≡ is_laid h → not r ≡ true → Tries h places places false
try_not h places r e f =
    record {
      is = λ z. not_laid h (sym e ∙ not-true r f);
      places = λ z k. absurd (true≢false (sym k));
      size = refl;
    }

-- The tests one after the other, where each before was passed.
module _ (h : Bytes) (places : List ℕ) (r : Bool) (e : r ≡ is_laid h) (f : not r ≡ false) where
  laid : is_laid h ≡ true
  laid = laid_known h r e f

  failed : (places' : List ℕ) → length places' ≡ length places → (places ≡ replicate 2368 0 → verdict h ≡ false) → Tries h places places' false
  failed places' size v =
      record {
        is = λ z. sym (v z) ∙ verdict_is h laid;
        places = λ z k. absurd (true≢false (sym k));
        size = size;
      }

  module _ (texts : Bool) (classes : List ℕ) (t : (texts ≡ all_to (text_count h) (text_test h)) × (classes ≡ classes_to h (text_count h) (replicate 2368 0))) where
    pub texts_not : not texts ≡ true → Tries h places places false
    unfolding verdict
    texts_not z = failed places refl (λ q. rw (← t.0, not-true texts z))

    module _ (used : List ℕ) where
      pub names_not : (o : Option ℕ) → ((n : ℕ) → o ≡ Some n → ⊥) → PropertiesTested h (replicate 2368 0) used o → Tries h places places false
      unfolding verdict
      names_not None n p = failed places refl (λ q. rw (← p.ok, and-false))
      names_not (Some x) n p = absurd (n x refl)

      module _ (names : ℕ) (p : PropertiesTested h (replicate 2368 0) used (Some names)) (used' shown : List ℕ) (terms : Bool) (m : TermsTested h classes used (replicate 2048 0) used' shown terms) where
        pub terms_not : not terms ≡ true → Tries h places places false
        unfolding verdict
        terms_not z = failed places refl (λ q. rw (← t.1, ← m.is, not-true terms z, and-false))

        module _ (last places' : List ℕ) where
          pub pages_not : (o : Option ℕ) → ((n : ℕ) → o ≡ Some n → ⊥) → PagesTested h classes shown (replicate 2048 0) places last places' o → Tries h places places' false
          unfolding verdict
          pages_not None n g = failed places' g.size (λ q. rw (← t.1, ← q, ← g.ok, and-false))
          pages_not (Some x) n g = absurd (n x refl)

          module _ (held : ℕ) (g : PagesTested h classes shown (replicate 2048 0) places last places' (Some held)) where
            pub try_is : not texts ≡ false → not terms ≡ false → (ut ux : Bool) → ut ≡ all_to (term_count h) (is_set last) → ux ≡ all_to (text_count h) (used_test used' places') → Tries h places places' (ut && ux && leb (names + held) 32768)
            unfolding verdict
            try_is a b ut ux u v =
                record {
                  is = λ z. told z ∙ verdict_is h laid;
                  places = λ z k. rw (g.table, z) (verdict_places h laid (sym (told z) ∙ k));
                  size = g.size;
                }
              where
                told : places ≡ replicate 2368 0 → (ut && ux && leb (names + held) 32768) ≡ verdict h
                told z =
                    let x : all_to (text_count h) (text_test h) ≡ true = sym t.0 ∙ not-false texts a in
                    let y : all_to (term_count h) (term_test h classes) ≡ true = sym m.is ∙ not-false terms b in
                    let y = rw t.1 at y in
                    let k = rw (t.1, z) at g.ok in
                    rw (u, v, g.bytes, g.marks, g.table, p.bytes, m.lengths, m.marks, p.marks, t.1, z, x, ← p.ok, y, ← k) refl

pub open_other : (h : Bytes) (places after : List ℕ) (r : Bool)
    → ((i : ℕ) → get_or h i 0 < 256)
    → (length places ≡ 2368 → ⊥)
    → Tries h (replicate 2368 0) after r
    → Opens h places places r
open_other h places after r s n t = record { is = t.is refl ∙ tested_is h s; places = λ k. absurd (n k); size = refl }

pub open_is : (h : Bytes) (places clear after : List ℕ) (r : Bool)
    → ((i : ℕ) → get_or h i 0 < 256)
    → length places ≡ 2368
    → clear ≡ replicate (length places) 0
    → Tries h clear after r
    → Opens h places after r
open_is h places clear after r s n e t =
    let z : clear ≡ replicate 2368 0 = e ∙ rw n in
    record { is = t.is z ∙ tested_is h s; places = λ k. t.places z; size = t.size ∙ ap length e ∙ length-replicate {A = ℕ} (length places) 0 }
