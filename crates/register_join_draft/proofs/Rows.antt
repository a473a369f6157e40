-- The properties of a draft of a join are those of the join, and each property of either register stands among them.
use Rattle.std.specs.Prelude.{Some}
use Rattle.language.proofs.Rules.{Ruled}
use Prim.Native.Nat.{ℕ, ◌<◌}
use mathlib.Core.Path.{◌≡◌, refl, sym, ap, ap₂, ◌∙◌, subst}
use mathlib.Core.Bool.{Bool, true, false, cond, not}
use mathlib.Core.Logic.{◌⊎◌, inl, inr}
use mathlib.Core.List.Memᴰ
use mathlib.Core.List.{List, [], ◌∷◌, ◌++◌, map, map-map, map-append, Memᴰ}
use native.Mathlib.Omega.{arith}
use lib.ListN.{length}
use borrow.Author.Tests.{not-true, not-false, eqb-true, eq-eqb}
use Rattle.text.specs.Bytes.{Bytes, same, any}
use Rattle.text.proofs.Laws.{same_refl, same_eq}
use Rattle.language.specs.Register.{Property, Register, kind_among, distinct, same_property}
use Rattle.language.specs.Joining.{only_in, union, join, is_other_kind, kinds_clash}
use Rattle.language.proofs.Members.{and_true, all_at, any_at, any_found, any_same, map_same, by_test}
use Rattle.values.proofs.Sameness.{kind_eq}
use Rattle.language.proofs.Unions.{Likeness, by_key, only_member, union_distinct}
use Rattle.language.proofs.Sameness.{same_property_likeness}
use Rattle.register_form.specs.Dictionary.{PropertyRow, Dictionary, name_of, text_in, decode_property, decode}
use Rattle.register_form.specs.Tests.{is_plain_number}
use Rattle.register_form.proofs.Described.{Canon, Shaped, plain_below}
use Rattle.register_join_merge.specs.Merged.{Itemed, Merged}
use Rattle.register_join_draft.specs.Joined.{same_row, name_in, row_of, rows_of, join_rows, join_draft}
use Rattle.register_join_draft.proofs.Once.{once_append, any_map, map_only, distinct_of}
use Rattle.register_join_draft.proofs.Places.{Stands, stands}
use Rattle.register_join_draft.proofs.Texts.{same_name}
use Rattle.register_join_draft.proofs.Moved.{Source, item_plain}

-- What is known of two dictionaries of registers whose kinds do not clash, and of their texts as one list.
pub record Proper (d : Dictionary) : Type 0 where
  pub canon : Canon d
  pub shaped : Shaped d
  pub keeps : Ruled (decode d)

pub record Joint (d e : Dictionary) (item1 item2 : ℕ → ℕ) (texts : List Bytes) : Type 0 where
  pub first : Proper d
  pub second : Proper e
  pub merged : Merged d e texts item1 item2
  pub clear : kinds_clash (decode d) (decode e) ≡ false

pub same_row_likeness : Likeness same_row
same_row_likeness = by_key (record { equal = eqb-true; itself = λ a. eq-eqb a a refl }) name_in

-- What is like none of the first list is among those only in the second.
pub only_there : {A : Type 0} (alike : A → A → Bool) (l m : List A) {b : A} → Memᴰ b m → any (alike b) l ≡ false → Memᴰ b (only_in alike l m)
unfolding only_in
only_there {A = A} alike l [] {b = b} x' h = elim x' [ ]
only_there alike l (x ∷ m) {b} (Memᴰ.head e) h = rw (ap (λ y. any (alike y) l) (sym e) ∙ h) (Memᴰ.head e)
only_there {A} alike l (x ∷ m) {b} (Memᴰ.tail n) h = go (any (alike x) l) (only_there alike l m n h)
  where
    go : (c : Bool) → Memᴰ b (only_in alike l m) → Memᴰ b (cond c (only_in alike l m) (x ∷ only_in alike l m))
    go true k = k
    go false k = Memᴰ.tail k

-- A declared property has the kind of its row.
kind_there : (l : List Property) → distinct same_property l ≡ true → {p : Property} → Memᴰ p l → kind_among l p.name ≡ Some p.kind
unfolding kind_among distinct
kind_there [] h {p = p} x' = elim x' [ ]
kind_there (x ∷ l) h {p} (Memᴰ.head e) = rw (e, same_refl x.name)
kind_there (x ∷ l) h {p} (Memᴰ.tail m) =
    let t = and_true (not (any (same_property x) l)) (distinct same_property l) h in
    rw (any_at (same_property x) (not-true _ t.0) m) (kind_there l t.1 m)

-- Properties that two registers share have one kind, where the kinds do not clash.
kinds_agree_lem : (R S : Register) → distinct same_property S.properties ≡ true → kinds_clash R S ≡ false → {p q : Property} → Memᴰ p R.properties → Memᴰ q S.properties → p.name ≡ q.name → p.kind ≡ q.kind
unfolding kinds_clash
kinds_agree_lem R S once clear {p} {q} m n e =
    let no = any_at (λ p. is_other_kind p.kind (kind_among S.properties p.name)) clear m in
    let at : kind_among S.properties p.name ≡ Some q.kind = ap (kind_among S.properties) e ∙ kind_there S.properties once n in
    kind_eq p.kind q.kind (not-false _ (ap (is_other_kind p.kind) (sym at) ∙ no))

-- One dictionary's rows in a draft.
module _ (d D : Dictionary) (item : ℕ → ℕ) (p : Proper d) (i : Itemed d D.texts item) where
  row_plain : (r : PropertyRow) → Memᴰ r (rows_of d item) → is_plain_number D r.name ≡ true
  unfolding rows_of
  row_plain r m =
      let q = Memᴰ.of_map (row_of d item) d.properties m in
      ap (λ (r : PropertyRow). is_plain_number D r.name) (sym q.2) ∙ item_plain d D item i q.0.name (all_at (λ p. is_plain_number d p.name) p.canon.names q.1)

  row_told : {r : PropertyRow} → Memᴰ r d.properties → decode_property D (row_of d item r) ≡ decode_property d r
  unfolding decode_property
  row_told {r} m =
      λ k.
      record { name = ap name_of (i.text r.name (plain_below d r.name (all_at (λ p. is_plain_number d p.name) p.canon.names m))) k; kind = r.kind }

  rows_told : map (decode_property D) (rows_of d item) ≡ (decode d).properties
  unfolding rows_of decode
  rows_told = map-map (decode_property D) (row_of d item) d.properties ∙ map_same _ (decode_property d) d.properties (λ r m. row_told m)

decoded_same : (D : Dictionary) (a b : PropertyRow) → same_property (decode_property D a) (decode_property D b) ≡ same (name_of (text_in D a.name)) (name_of (text_in D b.name))
unfolding decode_property
decoded_same D a b = refl

-- Rows of which no two have one name, where the texts of two dictionaries are one list.
module _ (d e D : Dictionary) (item1 item2 : ℕ → ℕ) (c1 : Canon d) (c2 : Canon e) (m : Merged d e D.texts item1 item2) where
  same_rows : (a b : PropertyRow) → is_plain_number D a.name ≡ true → is_plain_number D b.name ≡ true → same_property (decode_property D a) (decode_property D b) ≡ same_row a b
  same_rows a b g h = decoded_same D a b ∙ same_name d e D item1 item2 c1 c2 m a.name b.name g h

  pub rows_distinct : (x : Dictionary) (item : ℕ → ℕ) → Proper x → Itemed x D.texts item → distinct same_row (rows_of x item) ≡ true
  rows_distinct x item p i =
      sym (distinct_of (decode_property D) same_row same_property (rows_of x item) (λ a b k n. same_rows a b (row_plain x D item p i a k) (row_plain x D item p i b n)))
      ∙ ap (distinct same_property) (rows_told x D item p i)
      ∙ p.keeps.properties_once

decoded_kind : (D : Dictionary) (r s : PropertyRow) → (decode_property D s).kind ≡ (decode_property D r).kind → r.kind ≡ s.kind
unfolding decode_property
decoded_kind D r s e = sym e

decoded_properties : (D : Dictionary) → (decode D).properties ≡ map (decode_property D) D.properties
unfolding decode
decoded_properties D = refl

module _ (d e : Dictionary) (item1 item2 : ℕ → ℕ) (texts : List Bytes) (j : Joint d e item1 item2 texts) where
  abbrev D : Dictionary
  D = join_draft d e item1 item2 texts

  pub items : Merged d e D.texts item1 item2
  unfolding join_draft
  items = j.merged

  pub draft_rows : D.properties ≡ join_rows d e item1 item2
  unfolding join_draft
  draft_rows = refl

  same_row_lem : (a b : PropertyRow) → is_plain_number D a.name ≡ true → is_plain_number D b.name ≡ true → same_property (decode_property D a) (decode_property D b) ≡ same_row a b
  same_row_lem = same_rows d e D item1 item2 j.first.canon j.second.canon items

  plain1 : (r : PropertyRow) → Memᴰ r (rows_of d item1) → is_plain_number D r.name ≡ true
  plain1 = row_plain d D item1 j.first items.first

  plain2 : (r : PropertyRow) → Memᴰ r (rows_of e item2) → is_plain_number D r.name ≡ true
  plain2 = row_plain e D item2 j.second items.second

  told1 : map (decode_property D) (rows_of d item1) ≡ (decode d).properties
  told1 = rows_told d D item1 j.first items.first

  told2 : map (decode_property D) (rows_of e item2) ≡ (decode e).properties
  told2 = rows_told e D item2 j.second items.second

  once1 : distinct same_row (rows_of d item1) ≡ true
  once1 = rows_distinct d e D item1 item2 j.first.canon j.second.canon items d item1 j.first items.first

  once2 : distinct same_row (rows_of e item2) ≡ true
  once2 = rows_distinct d e D item1 item2 j.first.canon j.second.canon items e item2 j.second items.second

  pub rows_union : join_rows d e item1 item2 ≡ union same_row (rows_of d item1) (rows_of e item2)
  unfolding join_rows
  rows_union = once_append same_row_likeness (rows_of d item1) (rows_of e item2) once1 once2

  rows_once : distinct same_row (join_rows d e item1 item2) ≡ true
  rows_once = ap (distinct same_row) rows_union ∙ union_distinct same_row_likeness (rows_of d item1) (rows_of e item2) once1 once2

  pub row_plain_there : (r : PropertyRow) → Memᴰ r (join_rows d e item1 item2) → is_plain_number D r.name ≡ true
  row_plain_there r m = go (Memᴰ.append_cases (rows_of d item1) (subst (λ l. Memᴰ r l) rows_union m))
    where
      go : Memᴰ r (rows_of d item1) ⊎ Memᴰ r (only_in same_row (rows_of d item1) (rows_of e item2)) → is_plain_number D r.name ≡ true
      go (inl n) = plain1 r n
      go (inr n) = plain2 r (only_member same_row (rows_of d item1) (rows_of e item2) n).0

  -- Each row is among them.
  row1_there : {r : PropertyRow} → Memᴰ r (rows_of d item1) → Memᴰ r (join_rows d e item1 item2)
  row1_there {r} m = subst (λ l. Memᴰ r l) (sym rows_union) (Memᴰ.append_left (only_in same_row (rows_of d item1) (rows_of e item2)) m)

  row_shared : {r s : PropertyRow} → Memᴰ r (rows_of e item2) → Memᴰ s (rows_of d item1) → same_row r s ≡ true → r ≡ s
  row_shared {r} {s} m n h =
      let kinds =
      kinds_agree_lem (decode d) (decode e) j.second.keeps.properties_once j.clear
      (subst (λ l. Memᴰ (decode_property D s) l) told1 (Memᴰ.map (decode_property D) n))
      (subst (λ l. Memᴰ (decode_property D r) l) told2 (Memᴰ.map (decode_property D) m))
      (sym (same_eq _ _ (same_row_lem r s (plain2 r m) (plain1 s n) ∙ h))) in
      λ i. record { kind = decoded_kind D r s kinds i; name = eqb-true r.name s.name h i }

  row2_there : {r : PropertyRow} → Memᴰ r (rows_of e item2) → Memᴰ r (join_rows d e item1 item2)
  row2_there {r} m =
      by_test (any (same_row r) (rows_of d item1))
      (λ h. let q = any_found (same_row r) (rows_of d item1) h in Memᴰ.cast (row_shared m q.1 q.2) (row1_there q.1))
      (λ h. subst (λ l. Memᴰ r l) (sym rows_union) (Memᴰ.append_right (rows_of d item1) (only_there same_row (rows_of d item1) (rows_of e item2) m h)))

  standing : {r : PropertyRow} → Memᴰ r (join_rows d e item1 item2) → Stands D.properties r
  standing {r} m = subst (λ l. Stands l r) (sym draft_rows) (stands (join_rows d e item1 item2) rows_once m)

  few : length D.texts < 65536
  few = omega (arith, items.few)

  pub source1 : Source d D item1
  unfolding rows_of
  source1 =
      record {
        canon = j.first.canon;
        shaped = j.first.shaped;
        items = items.first;
        few = few;
        rows = λ m. standing (row1_there (Memᴰ.map (row_of d item1) m));
      }

  pub source2 : Source e D item2
  unfolding rows_of
  source2 =
      record {
        canon = j.second.canon;
        shaped = j.second.shaped;
        items = items.second;
        few = few;
        rows = λ m. standing (row2_there (Memᴰ.map (row_of e item2) m));
      }

  pub name1_there : {r : PropertyRow} → Memᴰ r d.properties → Memᴰ (item1 r.name) (map name_in D.properties)
  unfolding rows_of
  name1_there {r} m = subst (λ l. Memᴰ (item1 r.name) (map name_in l)) (sym draft_rows) (Memᴰ.map name_in (row1_there (Memᴰ.map (row_of d item1) m)))

  pub name2_there : {r : PropertyRow} → Memᴰ r e.properties → Memᴰ (item2 r.name) (map name_in D.properties)
  unfolding rows_of
  name2_there {r} m = subst (λ l. Memᴰ (item2 r.name) (map name_in l)) (sym draft_rows) (Memᴰ.map name_in (row2_there (Memᴰ.map (row_of e item2) m)))

  -- The properties are those of the join.
  pub join_properties : (decode D).properties ≡ (join (decode d) (decode e)).properties
  unfolding join
  join_properties = decoded_properties D ∙ ap (map (decode_property D)) (draft_rows ∙ rows_union) ∙ map-append (decode_property D) (rows_of d item1) (only_in same_row (rows_of d item1) (rows_of e item2)) ∙ ap₂ ◌++◌ told1 (map_only (decode_property D) same_row same_property (rows_of d item1) (rows_of e item2) (decode d).properties beside ∙ ap (only_in same_property (decode d).properties) told2)
    where
      beside : (a : PropertyRow) → Memᴰ a (rows_of e item2) → any (same_property (decode_property D a)) (decode d).properties ≡ any (same_row a) (rows_of d item1)
      beside a m =
          ap (any (same_property (decode_property D a))) (sym told1)
          ∙ any_map (decode_property D) (same_property (decode_property D a)) (rows_of d item1)
          ∙ any_same _ (same_row a) (rows_of d item1) (λ b n. same_row_lem a b (plain2 a m) (plain1 b n))

  pub properties_once_lem : distinct same_property (decode D).properties ≡ true
  unfolding join
  properties_once_lem =
      ap (distinct same_property) join_properties
      ∙ union_distinct same_property_likeness (decode d).properties (decode e).properties j.first.keeps.properties_once j.second.keeps.properties_once
