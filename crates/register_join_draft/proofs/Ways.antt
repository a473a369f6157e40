-- What the functions answer, by what they called.
use Prim.Native.Nat.{ℕ, ◌+◌, ◌-◌, ◌%◌, ◌≤◌, ◌<◌}
use mathlib.Core.Path.{◌≡◌, refl, sym, ap, ◌∙◌, subst}
use mathlib.Core.List.{List}
use native.Mathlib.Omega.{arith}
use lib.Dec.{eqb}
use lib.ListN.{length, get_or, set, length-set, length-map}
use borrow.Author.Tests.{eq-eqb, ne_eqb}
use Rattle.text.specs.Bytes.{Bytes}
use Rattle.text.specs.Table.{tabulate}
use Rattle.values.specs.Values.{kind_from}
use Rattle.values.specs.declared.Kind.{Kind}
use Rattle.values.specs.declared.Scalar.{Scalar}
use Rattle.register_form.specs.Dictionary.{PropertyRow}
use Rattle.register_form.specs.Form.{kind_byte, page_count, property_count, property_at, page_at}
use Rattle.register_form.specs.Draft.{once_behind}
use Rattle.register_join_draft.specs.Joined.{same_row, name_in, code_by}
use Rattle.register_join_draft.specs.Drafting.{items_in, Entering, PropertiesPut, IdentifiersPut, new_group, new_code}
use Rattle.register_join_draft.proofs.Listing.{behind_more, behind_most, enter_there, enter_new, rowed_more}
use Rattle.register_join_draft.proofs.Writing.{put_term, page_none, page_past, page_put}

module _ (h : Bytes) (items : List ℕ) where
  -- Groups and codes.
  pub group_none : (table : List ℕ) (g : ℕ) → g ≡ 0 → 0 ≡ new_group h items table g
  unfolding new_group
  group_none table g e = rw (eq-eqb g 0 e)

  pub group_is : (table : List ℕ) (g p n w x v r : ℕ) → (g ≡ 0 → ⊥) → p ≡ g - 1 → n ≡ (property_at h p).name → w ≡ n → x ≡ get_or items w 0 → v ≡ get_or table x 0 → r ≡ v % 256 → r ≡ new_group h items table g
  unfolding new_group
  group_is table g p n w x v r s e f j k l m =
      rw (ne_eqb g 0 s)
      (m ∙ ap (λ (y : ℕ). y % 256) (l ∙ ap (λ (y : ℕ). get_or table y 0) (k ∙ ap (λ (y : ℕ). get_or items y 0) (j ∙ f ∙ ap (λ (y : ℕ). (property_at h y).name) e))))

  pub code_category : (g c r : ℕ) → g ≡ 0 → r ≡ get_or items c 0 → r ≡ new_code h items g c
  unfolding new_code
  code_category g c r e f = rw (eq-eqb g 0 e) f

  value : (g c p : ℕ) (k l : Kind) → (g ≡ 0 → ⊥) → p ≡ g - 1 → k ≡ (property_at h p).kind → k ≡ l → code_by (items_in items) l c ≡ new_code h items g c
  unfolding new_code
  value g c p k l s e f q = rw (ne_eqb g 0 s) (ap (λ (y : Kind). code_by (items_in items) y c) (sym q ∙ f ∙ ap (λ (y : ℕ). (property_at h y).kind) e))

  pub code_page : (g c p r : ℕ) (k : Kind) → (g ≡ 0 → ⊥) → p ≡ g - 1 → k ≡ (property_at h p).kind → k ≡ Kind.Page → r ≡ get_or items c 0 → r ≡ new_code h items g c
  unfolding code_by
  code_page g c p r k s e f q i = i ∙ value g c p k Kind.Page s e f q

  pub code_scalar : (g c p : ℕ) (k : Kind) (j : Scalar) → (g ≡ 0 → ⊥) → p ≡ g - 1 → k ≡ (property_at h p).kind → k ≡ Kind.Scalar j → c ≡ new_code h items g c
  unfolding code_by
  code_scalar g c p k j s e f q = value g c p k (Kind.Scalar j) s e f q

  pub code_string : (g c p r : ℕ) (k : Kind) → (g ≡ 0 → ⊥) → p ≡ g - 1 → k ≡ (property_at h p).kind → k ≡ Kind.String → r ≡ get_or items c 0 → r ≡ new_code h items g c
  unfolding code_by
  code_string g c p r k s e f q i = i ∙ value g c p k Kind.String s e f q

  -- Identifiers: none, one more, all.
  module _ (list table : List ℕ) (from : ℕ) where
    pub identifiers_none : IdentifiersPut h items list table from 0 list table from
    unfolding once_behind tabulate
    identifiers_none = record { list_size = refl; table_size = refl; listed = λ keys o a b c. o }

    pub identifiers_next : (i n v w x : ℕ) (l t m u : List ℕ) (r : ℕ) → IdentifiersPut h items list table from i l t n → i < page_count h → v ≡ (page_at h i).identifier → w ≡ v → x ≡ get_or items w 0 → Entering t l n x u m r → IdentifiersPut h items list table from (i + 1) m u r
    identifiers_next i n v w x l t m u r p b e f g q =
        record {
          list_size = q.list_size ∙ p.list_size;
          table_size = q.table_size ∙ p.table_size;
          listed = λ keys o a c d.
              let done = p.listed keys o a c d in
              let most : n ≤ from + i = omega (arith, done.count, o.count, behind_most eqb keys i (λ q. items_in items (page_at h q).identifier)) in
              let at : x ≡ items_in items (page_at h i).identifier = g ∙ ap (λ (y : ℕ). get_or items y 0) (f ∙ e) in
              rw (behind_more eqb keys i (λ q. items_in items (page_at h q).identifier))
              (rw at at (q.listed (once_behind eqb keys (tabulate i (λ q. items_in items (page_at h q).identifier))) done (omega (arith, d i b, at, p.table_size)) (omega (arith, p.list_size)) (omega arith)));
        }

  pub identifiers_all : (list table : List ℕ) (from i m : ℕ) (l t : List ℕ) (n : ℕ) → IdentifiersPut h items list table from i l t n → m ≡ page_count h → i ≤ m → m ≤ i → IdentifiersPut h items list table from (page_count h) l t n
  identifiers_all list table from i m l t n p e a b = subst (λ (k : ℕ). IdentifiersPut h items list table from k l t n) (let z : i ≡ page_count h = omega arith in z) p

  -- Properties: none, one more, all.
  kind_is : (i k : ℕ) → k ≡ kind_byte h i → kind_from k ≡ (property_at h i).kind
  unfolding property_at
  kind_is i k e = ap kind_from e

  abbrev row : ℕ → PropertyRow
  row q = record { kind = (property_at h q).kind; name = items_in items (property_at h q).name }

  module _ (kinds names table : List ℕ) (from : ℕ) where
    pub properties_none : PropertiesPut h items kinds names table from 0 kinds names table from
    unfolding once_behind tabulate
    properties_none = record { kinds_size = refl; names_size = refl; table_size = refl; rowed = λ rows o a b c d. o }

    pub properties_next : (i n k v w x y : ℕ) (ks ns t ls ms u : List ℕ) (r : ℕ) → PropertiesPut h items kinds names table from i ks ns t n → i < property_count h → w ≡ n → k ≡ kind_byte h i → ls ≡ set ks w k → v ≡ (property_at h i).name → y ≡ v → x ≡ get_or items y 0 → Entering t ns n x u ms r → PropertiesPut h items kinds names table from (i + 1) ls ms u r
    properties_next i n k v w x y ks ns t ls ms u r p b we ke lse ve ye xe q =
        record {
          kinds_size = ap length lse ∙ length-set ks w k ∙ p.kinds_size;
          names_size = q.list_size ∙ p.names_size;
          table_size = q.table_size ∙ p.table_size;
          rowed = λ rows o a c d g.
              let done = p.rowed rows o a c d g in
              let most : n ≤ from + i = omega (arith, done.listed.count, length-map (once_behind same_row rows (tabulate i row)) name_in, o.listed.count, length-map rows name_in, behind_most same_row rows i row) in
              let at : x ≡ items_in items (property_at h i).name = xe ∙ ap (λ (z : ℕ). get_or items z 0) (ye ∙ ve) in
              rw (behind_more same_row rows i row)
              (rowed_more ks ns t ls ms u n r w k (once_behind same_row rows (tabulate i row)) (row i) done we lse (kind_is i k ke) (rw at at q) (omega (arith, g i b, p.table_size)) (omega (arith, p.kinds_size)) (omega (arith, p.names_size)) (omega arith));
        }

  pub properties_all : (kinds names table : List ℕ) (from i m : ℕ) (ks ns t : List ℕ) (n : ℕ) → PropertiesPut h items kinds names table from i ks ns t n → m ≡ property_count h → i ≤ m → m ≤ i → PropertiesPut h items kinds names table from (property_count h) ks ns t n
  properties_all kinds names table from i m ks ns t n p e a b = subst (λ (k : ℕ). PropertiesPut h items kinds names table from k ks ns t n) (let z : i ≡ property_count h = omega arith in z) p

pub ruleset drafting =
    (group_none, group_is, code_category, code_page, code_scalar, code_string, enter_there, enter_new, put_term, page_none, page_past, page_put)
