-- What is known of bytes that are laid out as those of a dictionary; the tests of texts and properties.
use Prim.Native.Nat.{ℕ, ◌<◌}
use mathlib.Core.Path.{◌≡◌, refl, ap, ap₂, sym, ◌∙◌}
use mathlib.Core.Bool.{Bool, true, false, not, ◌&&◌, ◌||◌, or-false}
use mathlib.Core.List.{List, [], map}
use native.Mathlib.Omega.{arith}
use lib.Dec.{ltb, eqb}
use lib.ListN.{length, get_or, replicate, length-replicate, get_or-replicate}
use borrow.Author.Tests.{ltb-true}
use Rattle.text.specs.Bytes.{Bytes, order_of, any, all}
use Rattle.text.specs.Table.{tabulate}
use Rattle.text.proofs.Tables.{length_tabulate, get_d_tabulate}
use Rattle.names.specs.Names.{is_composed_property_name}
use Rattle.language.specs.Register.{distinct}
use Rattle.sorting.specs.Ascending.{ascends}
use Rattle.register_form.specs.Dictionary.{PropertyRow, name_of, text_in, term_in, property_in, no_property}
use Rattle.register_form.specs.Form.{property_count, term_count, text_count, property_at, term_at, text_at, dictionary_in}
use Rattle.register_form.specs.Tests.{is_labelled, is_plain, is_plain_number, keeps_property}
use Rattle.buffer.specs.Tests.{all_to}
use Rattle.buffer.proofs.Parts.{map_tabulate}
use Rattle.register_form.proofs.Laying.{Laid, text_length_lem as text-ends}
use Rattle.register_form_test.specs.Loops.{written, is_set, climbs}
use Rattle.register_form_test.specs.Stages.{text_test, text_length, name_number, property_ok, names_to, property_test}
use Rattle.buffer.proofs.Testing.{all_ext}
use Rattle.register_form_test.proofs.Tabled.{all_and, all_tabulate, ascends_tabulate, distinct_tabulate, written_holds}

not_not : (b : Bool) → b ≡ not (not b)
not_not true = refl
not_not false = refl

-- A table after numbers other than 0 were written: which places have one.
pub set_more : (at v : ℕ → ℕ) → ((i : ℕ) → not (eqb (v i) 0) ≡ true) → (t : List ℕ) (x : ℕ) → x < length t → (n : ℕ) → is_set (written at v n t) x ≡ (any (eqb x) (tabulate n at) || is_set t x)
unfolding is_set
set_more at v some t x b n = written_holds (λ y. not (eqb y 0)) at v some t x b n

-- A table of zeros after numbers other than 0 were written: the places where.
module _ (size : ℕ) (at v : ℕ → ℕ) (some : (i : ℕ) → not (eqb (v i) 0) ≡ true) (x : ℕ) (b : x < size) (n : ℕ) where
  pub set_written : is_set (written at v n (replicate size 0)) x ≡ any (eqb x) (tabulate n at)
  unfolding is_set
  set_written =
      set_more at v some (replicate size 0) x (rw (length-replicate {A = ℕ} size 0) b) n
      ∙ rw (get_or-replicate {A = ℕ} size x 0 0 b) (or-false (any (eqb x) (tabulate n at)))

  pub unset_written : eqb (get_or (written at v n (replicate size 0)) x 0) 0 ≡ not (any (eqb x) (tabulate n at))
  unfolding is_set
  unset_written = not_not (eqb (get_or (written at v n (replicate size 0)) x 0) 0) ∙ ap not set_written

module _ (h : Bytes) where
  -- The rows of the dictionary.
  pub text_count_lem : length (dictionary_in h).texts ≡ text_count h
  unfolding dictionary_in
  text_count_lem = length_tabulate (text_count h) (text_at h)

  pub term_count_lem : length (dictionary_in h).terms ≡ term_count h
  unfolding dictionary_in
  term_count_lem = length_tabulate (term_count h) (term_at h)

  pub property_count_lem : length (dictionary_in h).properties ≡ property_count h
  unfolding dictionary_in
  property_count_lem = length_tabulate (property_count h) (property_at h)

  pub text_in_lem : (x : ℕ) → x < text_count h → text_in (dictionary_in h) x ≡ text_at h x
  unfolding dictionary_in
  text_in_lem x b = get_d_tabulate (text_count h) (text_at h) [] x b

  pub term_in_lem : (f : ℕ) → f < term_count h → term_in (dictionary_in h) f ≡ term_at h f
  unfolding dictionary_in
  term_in_lem f b = get_d_tabulate (term_count h) (term_at h) [] f b

  pub property_in_lem : (p : ℕ) → p < property_count h → property_in (dictionary_in h) p ≡ property_at h p
  unfolding dictionary_in
  property_in_lem p b = get_d_tabulate (property_count h) (property_at h) (no_property (dictionary_in h)) p b

  pub properties_are : (dictionary_in h).properties ≡ tabulate (property_count h) (property_at h)
  unfolding dictionary_in
  properties_are = refl

  -- Texts.
  pub texts_told : all_to (text_count h) (text_test h) ≡ (all is_labelled (dictionary_in h).texts && ascends order_of (dictionary_in h).texts)
  unfolding text_test dictionary_in
  texts_told =
      all_and (text_count h) (λ x. is_labelled (text_at h x)) (climbs (text_at h))
      ∙ sym (ap₂ ◌&&◌ (all_tabulate is_labelled (text_count h) (text_at h)) (ascends_tabulate (text_count h) (text_at h)))

  pub plain_number : (x : ℕ) → is_plain_number (dictionary_in h) x ≡ (ltb x (text_count h) && is_plain (text_at h x))
  unfolding is_plain_number
  plain_number x = rw text_count_lem (go (ltb x (text_count h)) refl)
    where
      go : (b : Bool) → ltb x (text_count h) ≡ b → (ltb x (text_count h) && is_plain (text_in (dictionary_in h) x)) ≡ (ltb x (text_count h) && is_plain (text_at h x))
      go true e = rw (text_in_lem x (ltb-true x (text_count h) e))
      go false e = rw e

module _ (h : Bytes) (laid : Laid h) where
  pub text_length_lem : (x : ℕ) → x < text_count h → length (text_at h x) ≡ text_length h x
  unfolding text_length
  text_length_lem x b = text-ends h laid x b

  -- Properties.
  property_told : (p : ℕ) → property_test h (replicate 2368 0) p ≡ (is_plain_number (dictionary_in h) (name_number h p) && keeps_property (dictionary_in h) (property_at h p) && not (any (eqb (name_number h p)) (tabulate p (name_number h))))
  unfolding property_test property_ok keeps_property
  property_told p = rw (plain_number h x) (go (ltb x (text_count h)) refl)
    where
      x : ℕ
      x = name_number h p

      go : (b : Bool) → ltb x (text_count h) ≡ b → (ltb x (text_count h) && is_plain (text_at h x) && is_composed_property_name (name_of (text_at h x)) && eqb (get_or (names_to h p (replicate 2368 0)) x 0) 0) ≡ (ltb x (text_count h) && is_plain (text_at h x) && is_composed_property_name (name_of (text_in (dictionary_in h) x)) && not (any (eqb x) (tabulate p (name_number h))))
      go true e =
          let k : x < text_count h = ltb-true x (text_count h) e in
          rw (text_in_lem h x k, unset_written 2368 (name_number h) (λ p. 1) (λ i. refl) x (omega (arith, laid.counted.texts)) p)
      go false e = rw e

  pub properties_told : all_to (property_count h) (property_test h (replicate 2368 0)) ≡ (all (λ p. is_plain_number (dictionary_in h) p.name) (dictionary_in h).properties && all (keeps_property (dictionary_in h)) (dictionary_in h).properties && distinct eqb (map (λ p. p.name) (dictionary_in h).properties))
  properties_told =
      all_ext n (property_test h (replicate 2368 0)) (λ p. (plain p && keeps p) && once p) (λ p b. property_told p)
      ∙ all_and n (λ p. plain p && keeps p) once
      ∙ ap (λ (b : Bool). b && all_to n once) (all_and n plain keeps)
      ∙ sym (ap₂ ◌&&◌ (ap₂ ◌&&◌ names rules) single)
    where
      n : ℕ
      n = property_count h

      plain : ℕ → Bool
      plain p = is_plain_number (dictionary_in h) (name_number h p)

      keeps : ℕ → Bool
      keeps p = keeps_property (dictionary_in h) (property_at h p)

      once : ℕ → Bool
      once p = not (any (eqb (name_number h p)) (tabulate p (name_number h)))

      rows : (dictionary_in h).properties ≡ tabulate n (property_at h)
      rows = properties_are h

      names : all (λ p. is_plain_number (dictionary_in h) p.name) (dictionary_in h).properties ≡ all_to n plain
      names = ap (all (λ p. is_plain_number (dictionary_in h) p.name)) rows ∙ all_tabulate (λ p. is_plain_number (dictionary_in h) p.name) n (property_at h)

      rules : all (keeps_property (dictionary_in h)) (dictionary_in h).properties ≡ all_to n keeps
      rules = ap (all (keeps_property (dictionary_in h))) rows ∙ all_tabulate (keeps_property (dictionary_in h)) n (property_at h)

      single : distinct eqb (map (λ p. p.name) (dictionary_in h).properties) ≡ all_to n once
      single = ap (λ (l : List PropertyRow). distinct eqb (map (λ p. p.name) l)) rows ∙ ap (distinct eqb) (map_tabulate (λ p. p.name) n (property_at h)) ∙ distinct_tabulate n (name_number h)
