-- The terms that the code makes are those of the draft.
use Prim.Native.Nat.{ℕ, zero, suc, ◌-◌, ◌%◌, ◌≤◌, ◌<◌}
use mathlib.Core.Path.{◌≡◌, sym, ap, ap₂, ◌∙◌, subst}
use mathlib.Core.Bool.{Bool, true, false, cond}
use mathlib.Core.List.{List, [], ◌∷◌, map, Memᴰ}
use native.Mathlib.Nat.{mod-eq_of_lt}
use native.Mathlib.Omega.{arith}
use lib.Dec.{eqb}
use lib.ListN.{length, get_or}
use borrow.Author.Tests.{eqb-false}
use Rattle.text.specs.Bytes.{Bytes}
use Rattle.values.specs.declared.Kind.{Kind}
use Rattle.text.specs.Table.{tabulate}
use Rattle.text.proofs.Tables.{length_tabulate, tabulate_ext}
use Rattle.language.proofs.Members.{by_test}
use Rattle.register_form.specs.Dictionary.{PropertyRow, Dictionary, term_of, group_of, term_code, is_category, term_in, property_in}
use Rattle.register_form.specs.Opened.{next}
use Rattle.register_form.specs.Form.{property_count, term_count, property_at, term_at, dictionary_in}
use Rattle.register_form.proofs.Lists.{mem_at}
use Rattle.buffer.proofs.Parts.{map_tabulate}
use Rattle.register_form.proofs.Described.{value_group_fits}
use Rattle.register_form.specs.Formed.{Formed}
use Rattle.register_join_draft.specs.Joined.{place_in, code_by, moved_term}
use Rattle.register_join_draft.specs.Drafting.{items_in, new_group, new_code, new_term}
use Rattle.register_join_draft.proofs.Held.{held_canon, count_properties, property_is, term_is, name_below}

pub place_most : (l : List ℕ) (x : ℕ) → place_in l x ≤ length l
unfolding place_in
place_most [] x = omega arith
place_most (k ∷ l) x = go (eqb k x) (place_in l x) (place_most l x)
  where
    go : (c : Bool) (n : ℕ) → n ≤ length l → cond c 1 (next n) ≤ suc (length l)
    go true n h = omega arith
    go false zero h = omega arith
    go false (suc n) h = omega arith

module _ (h : Bytes) (f : Formed h) (items table names : List ℕ)
    (there : (x : ℕ) → x < length table → get_or table x 0 ≡ place_in names x) (few : length names < 256)
    (below : (x : ℕ) → x < length (dictionary_in h).texts → items_in items x < length table) where
  abbrev d : Dictionary
  d = dictionary_in h

  -- A group, where it is that of a property.
  group_is : (g : ℕ) → (g ≡ 0 → ⊥) → g ≤ length d.properties → get_or table (items_in items (property_at h (g - 1)).name) 0 % 256 ≡ place_in names (items_in items (property_in d (g - 1)).name)
  group_is g some most =
      let b : g - 1 < property_count h = omega (arith, some, count_properties h f) in
      let x = items_in items (property_at h (g - 1)).name in
      let at : get_or table x 0 ≡ place_in names x = there x (below (property_at h (g - 1)).name (name_below h f (g - 1) b)) in
      ap (λ (y : ℕ). y % 256) at
      ∙ mod-eq_of_lt (let z : place_in names x < 256 = omega (arith, place_most names x) in z)
      ∙ ap (λ (r : PropertyRow). place_in names (items_in items r.name)) (sym (property_is h f (g - 1) b))

  kind_is : (g : ℕ) → (g ≡ 0 → ⊥) → g ≤ length d.properties → (property_at h (g - 1)).kind ≡ (property_in d (g - 1)).kind
  kind_is g some most = ap (λ (r : PropertyRow). r.kind) (sym (property_is h f (g - 1) (omega (arith, some, count_properties h f))))

  term_moved : (q : ℕ) → q < length d.terms → new_term h items table q ≡ moved_term d (items_in items) names (term_in d q)
  unfolding new_term new_group new_code moved_term
  term_moved q b = rw (term_is h f q b) (go (subst (λ (t : Bytes). Memᴰ t d.terms) (term_is h f q b) (mem_at d.terms q [] b)))
    where
      go : Memᴰ (term_at h q) d.terms → term_of (cond (eqb (group_of (term_at h q)) 0) 0 (get_or table (items_in items (property_at h (group_of (term_at h q) - 1)).name) 0 % 256)) (cond (eqb (group_of (term_at h q)) 0) (items_in items (term_code (term_at h q))) (code_by (items_in items) (property_at h (group_of (term_at h q) - 1)).kind (term_code (term_at h q))))
          ≡ cond (is_category (term_at h q)) (term_of 0 (items_in items (term_code (term_at h q)))) (term_of (place_in names (items_in items (property_in d (group_of (term_at h q) - 1)).name)) (code_by (items_in items) (property_in d (group_of (term_at h q) - 1)).kind (term_code (term_at h q))))
      go m =
          by_test (is_category (term_at h q))
          (λ e. rw e)
          (λ e.
          let some = eqb-false (group_of (term_at h q)) 0 e in
          let most = value_group_fits d (held_canon h f).terms m e in
          rw e (ap₂ term_of (group_is (group_of (term_at h q)) some most) (ap (λ (k : Kind). code_by (items_in items) k (term_code (term_at h q))) (kind_is (group_of (term_at h q)) some most))))

  pub terms_moved : tabulate (term_count h) (new_term h items table) ≡ map (moved_term d (items_in items) names) d.terms
  unfolding dictionary_in
  terms_moved =
      tabulate_ext (term_count h) (new_term h items table) (λ q. moved_term d (items_in items) names (term_at h q)) (λ q b. let k : q < length d.terms = rw length_tabulate b in term_moved q k ∙ ap (moved_term d (items_in items) names) (term_is h f q k))
      ∙ sym (map_tabulate (moved_term d (items_in items) names) (term_count h) (term_at h))
