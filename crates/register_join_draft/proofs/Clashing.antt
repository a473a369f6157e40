-- Whether kinds clash, as it is tested.
use Rattle.std.specs.Prelude.{Option, Some, None}
use Prim.Native.Nat.{ℕ, zero, suc, ◌+◌, ◌-◌, ◌≤◌, ◌<◌}
use mathlib.Core.Path.{◌≡◌, refl, sym, ap, ap₂, ◌∙◌, subst}
use mathlib.Core.Bool.{Bool, true, false, cond, not}
use mathlib.Core.List.{List, [], ◌∷◌, map, map-map, Memᴰ}
use native.Mathlib.Numerals.{add-one}
use native.Mathlib.Omega.{arith}
use lib.Dec.{eqb}
use lib.ListN.{length, get_or, length-map}
use borrow.Author.Tests.{ne_eqb}
use Rattle.text.specs.Bytes.{Bytes, same, any}
use Rattle.text.specs.Table.{tabulate}
use Rattle.text.proofs.Laws.{any_append}
use Rattle.text.proofs.Tables.{length_tabulate, get_d_tabulate}
use Rattle.values.specs.Values.{same_kind, kind_code, kind_from, kind_count}
use Rattle.values.specs.declared.Kind.{Kind}
use Rattle.language.specs.Register.{Property, kind_among}
use Rattle.language.specs.Joining.{is_other_kind, kinds_clash}
use Rattle.language.proofs.Members.{any_mem, any_same, both_false, all_at}
use Rattle.values.proofs.EachKind.{code_told}
use Rattle.values.proofs.Sameness.{kind_eq, kind_refl}
use Rattle.register_form.specs.Dictionary.{PropertyRow, Dictionary, name_of, no_property, decode_property, decode}
use Rattle.register_form.specs.Opened.{next}
use Rattle.register_form.specs.Form.{kind_byte, property_count, property_at, dictionary_in, register_in}
use Rattle.register_form.specs.Tests.{is_plain_number}
use Rattle.register_form.specs.Draft.{once_behind}
use Rattle.register_form.proofs.Lists.{mem_at, mem_place}
use Rattle.buffer.proofs.Parts.{map_tabulate}
use Rattle.register_form.proofs.Laying.{laid_facts}
use Rattle.register_form.proofs.Described.{plain_below}
use Rattle.register_form.specs.Formed.{Formed}
use Rattle.register_join_merge.specs.Merged.{Merged}
use Rattle.register_join_draft.specs.Joined.{same_row, name_in, place_in, row_of, rows_of}
use Rattle.register_join_draft.specs.Drafting.{items_in, no_row, Rowed, PropertiesPut, clashes_at, some_clash, Clashed}
use Rattle.register_join_draft.proofs.Once.{any_map, once_distinct}
use Rattle.register_join_draft.proofs.Texts.{decided, same_name}
use Rattle.register_join_draft.proofs.Moved.{item_plain}
use Rattle.register_join_draft.proofs.Rows.{same_row_likeness, rows_distinct}
use Rattle.register_join_draft.proofs.Listing.{zeros, length_zeros, empty_table, rowed_none}
use Rattle.register_join_draft.proofs.Held.{held_canon, proper, properties_few, property_is, count_properties, name_below}
use Rattle.register_join_draft.proofs.Terms.{place_most}
use Rattle.register_join_draft.proofs.Tabled.{rows_in, below1, below2}

-- One property, and those of a register.
module _ (h g : Bytes) (items table : List ℕ) (p : ℕ) where
  pub clash_none : (n w x v : ℕ) → n ≡ (property_at h p).name → w ≡ n → x ≡ get_or items w 0 → v ≡ get_or table x 0 → v ≡ 0 → false ≡ clashes_at h g items table p
  unfolding clashes_at
  clash_none n w x v e f k l z =
      let place : get_or table (items_in items (property_at h p).name) 0 ≡ 0 = ap (λ (y : ℕ). get_or table (items_in items y) 0) (sym (f ∙ e)) ∙ ap (λ (y : ℕ). get_or table y 0) (sym k) ∙ sym l ∙ z in
      rw place

  pub clash_is : (n w x v a b : ℕ) (r : Bool) → n ≡ (property_at h p).name → w ≡ n → x ≡ get_or items w 0 → v ≡ get_or table x 0 → (v ≡ 0 → ⊥) → a ≡ kind_byte g (v - 1) → b ≡ kind_byte h p → r ≡ not (eqb a b) → r ≡ clashes_at h g items table p
  unfolding clashes_at
  clash_is n w x v a b r e f k l z ae be re =
      let place : v ≡ get_or table (items_in items (property_at h p).name) 0 = l ∙ ap (λ (y : ℕ). get_or table y 0) k ∙ ap (λ (y : ℕ). get_or table (items_in items y) 0) (f ∙ e) in
      rw (← place, ne_eqb v 0 z) (re ∙ ap₂ (λ (y z : ℕ). not (eqb y z)) ae be)

module _ (h g : Bytes) (items table : List ℕ) where
  pub clash_start : some_clash h g items table 0 ≡ false
  unfolding some_clash tabulate any
  clash_start = refl

  pub clash_more : (p : ℕ) (b : Bool) → some_clash h g items table p ≡ false → b ≡ clashes_at h g items table p → b ≡ false → some_clash h g items table (p + 1) ≡ false
  unfolding some_clash tabulate any
  clash_more p b o e f = rw (add-one p) (any_append (clashes_at h g items table) (tabulate p (λ p. p)) (p ∷ []) ∙ both_false o (both_false (sym e ∙ f) refl))

  pub clash_found : (p n : ℕ) (b : Bool) → n ≡ property_count h → p < n → b ≡ clashes_at h g items table p → b ≡ true → true ≡ some_clash h g items table (property_count h)
  unfolding some_clash
  clash_found p n b k l e f =
      sym (any_mem (clashes_at h g items table)
      (subst (λ (q : ℕ). Memᴰ q (tabulate (property_count h) (λ p. p))) (get_d_tabulate (property_count h) (λ p. p) 0 p (omega arith)) (mem_at (tabulate (property_count h) (λ p. p)) p 0 (rw length_tabulate (omega arith))))
      (sym e ∙ f))

  pub clash_all : (p n : ℕ) → some_clash h g items table p ≡ false → n ≡ property_count h → p ≤ n → n ≤ p → false ≡ some_clash h g items table (property_count h)
  clash_all p n o e a b = sym (ap (some_clash h g items table) (let z : property_count h ≡ p = omega arith in z) ∙ o)

-- The kind that properties give a name, by the place of its item.
abbrev kind_placed : List PropertyRow → ℕ → Option Kind
kind_placed l zero = None
kind_placed l (suc i) = Some (get_or l i no_row).kind

kind_behind : (r : PropertyRow) (l : List PropertyRow) (n : ℕ) → kind_placed l n ≡ kind_placed (r ∷ l) (next n)
kind_behind r l zero = refl
kind_behind r l (suc n) = refl

kind_placed_lem : (e : Dictionary) (item : ℕ → ℕ) (x : ℕ) (y : Bytes) (l : List PropertyRow) → ((r : PropertyRow) → Memᴰ r l → same (decode_property e r).name y ≡ eqb (item r.name) x) → kind_among (map (decode_property e) l) y ≡ kind_placed l (place_in (map (λ r. item r.name) l) x)
unfolding kind_among place_in decode_property
kind_placed_lem e item x y [] h = refl
kind_placed_lem e item x y (r ∷ l) h = rw (h r (Memᴰ.head refl)) (go (eqb (item r.name) x) (kind_placed_lem e item x y l (λ s n. h s (Memᴰ.tail n))))
  where
    go : (c : Bool) → kind_among (map (decode_property e) l) y ≡ kind_placed l (place_in (map (λ r. item r.name) l) x) → cond c (Some r.kind) (kind_among (map (decode_property e) l) y) ≡ kind_placed (r ∷ l) (cond c 1 (next (place_in (map (λ r. item r.name) l) x)))
    go true i = refl
    go false i = i ∙ kind_behind r l (place_in (map (λ r. item r.name) l) x)

-- Kinds are the same where their bytes are.
kinds_by_byte : (a b : ℕ) → a < kind_count → b < kind_count → same_kind (kind_from b) (kind_from a) ≡ eqb a b
kinds_by_byte a b s t =
    decided (same_kind (kind_from b) (kind_from a)) a b
    (λ e. sym (code_told a s) ∙ ap kind_code (sym (kind_eq (kind_from b) (kind_from a) e)) ∙ code_told b t)
    (λ e. ap (λ (n : ℕ). same_kind (kind_from b) (kind_from n)) e ∙ kind_refl (kind_from b))

kind_byte_lem : (h : Bytes) (p : ℕ) → (property_at h p).kind ≡ kind_from (kind_byte h p)
unfolding property_at
kind_byte_lem h p = refl

first_listed : (h : Bytes) (f : Property → Bool) → any f (decode (dictionary_in h)).properties ≡ any (λ p. f (decode_property (dictionary_in h) (property_at h p))) (tabulate (property_count h) (λ p. p))
unfolding decode dictionary_in
first_listed h f =
    any_map (decode_property (dictionary_in h)) f (tabulate (property_count h) (property_at h))
    ∙ ap (any (λ q. f (decode_property (dictionary_in h) q))) (sym (map_tabulate (property_at h) (property_count h) (λ p. p)))
    ∙ any_map (property_at h) (λ q. f (decode_property (dictionary_in h) q)) (tabulate (property_count h) (λ p. p))

module _ (h g : Bytes) (items1 items2 : List ℕ) (fh : Formed h) (fg : Formed g) (texts : List Bytes) (mg : Merged (dictionary_in h) (dictionary_in g) texts (items_in items1) (items_in items2))
    (kinds names ks ns t : List ℕ) (r : ℕ) (rk : 64 ≤ length kinds) (rn : 64 ≤ length names) (put : PropertiesPut g items2 kinds names (zeros 4736) 0 (property_count g) ks ns t r) where
  abbrev d : Dictionary
  d = dictionary_in h

  abbrev e : Dictionary
  e = dictionary_in g

  abbrev item1 : ℕ → ℕ
  item1 = items_in items1

  abbrev item2 : ℕ → ℕ
  item2 = items_in items2

  abbrev D : Dictionary
  D = record { properties = []; pages = []; terms = []; texts = texts }

  rowed : Rowed ks ns t r (rows_of e item2)
  rowed =
      let few = properties_few g fg in
      subst (Rowed ks ns t r)
      (ap (once_behind same_row []) (sym (rows_in g item2)) ∙ once_distinct same_row_likeness (rows_of e item2) (rows_distinct d e D item1 item2 (held_canon h fh) (held_canon g fg) mg e item2 (proper g fg) mg.second))
      (put.rowed [] (rowed_none kinds names (zeros 4736) (empty_table 4736)) (omega arith) (omega arith) (omega arith) (λ q b. rw length_zeros (below2 h g items1 items2 fh fg texts mg (property_at g q).name (name_below g fg q b))))

  size : length t ≡ 4736
  size = put.table_size ∙ length_zeros 4736

  -- The place of a property of the first among those of the second.
  module _ (p : ℕ) (b : p < property_count h) where
    x : ℕ
    x = item1 (property_at h p).name

    name_at : Memᴰ (property_at h p) d.properties
    name_at = subst (λ (q : PropertyRow). Memᴰ q d.properties) (property_is h fh p b) (mem_at d.properties p (no_property d) (omega (arith, count_properties h fh)))

    plain1 : is_plain_number D x ≡ true
    unfolding x
    plain1 = item_plain d D item1 mg.first (property_at h p).name (all_at (λ p. is_plain_number d p.name) (held_canon h fh).names name_at)

    place : get_or t x 0 ≡ place_in (map (λ r. item2 r.name) e.properties) x
    unfolding x rows_of
    place = rowed.listed.table_is (item1 (property_at h p).name) (rw size (below1 h g items1 items2 fh fg texts mg (property_at h p).name (name_below h fh p b))) ∙ ap (λ (l : List ℕ). place_in l (item1 (property_at h p).name)) (map-map name_in (row_of e item2) e.properties)

    same_at : (q : PropertyRow) → Memᴰ q e.properties → same (decode_property e q).name (decode_property d (property_at h p)).name ≡ eqb (item2 q.name) x
    unfolding x decode_property
    same_at q m =
        let plain2 : is_plain_number e q.name ≡ true = all_at (λ p. is_plain_number e p.name) (held_canon g fg).names m in
        let text1 = mg.first.text (property_at h p).name (name_below h fh p b) in
        let text2 = mg.second.text q.name (plain_below e q.name plain2) in
        sym (ap₂ (λ (u v : Bytes). same (name_of u) (name_of v)) text2 text1)
        ∙ same_name d e D item1 item2 (held_canon h fh) (held_canon g fg) mg (item2 q.name) (item1 (property_at h p).name) (item_plain e D item2 mg.second q.name plain2) plain1

    other : is_other_kind (property_at h p).kind (kind_among (decode e).properties (decode_property d (property_at h p)).name) ≡ is_other_kind (property_at h p).kind (kind_placed e.properties (get_or t x 0))
    unfolding decode
    other = ap (is_other_kind (property_at h p).kind) (kind_placed_lem e item2 x (decode_property d (property_at h p)).name e.properties same_at ∙ ap (kind_placed e.properties) (sym place))

    place_below : (i : ℕ) → get_or t x 0 ≡ suc i → i < property_count g
    place_below i z = omega (arith, place, place_most (map (λ r. item2 r.name) e.properties) x, length-map e.properties (λ r. item2 r.name), count_properties g fg)

    by_place : (n : ℕ) → get_or t x 0 ≡ n → is_other_kind (property_at h p).kind (kind_placed e.properties n) ≡ cond (eqb n 0) false (not (eqb (kind_byte g (n - 1)) (kind_byte h p)))
    by_place zero z = refl
    by_place (suc i) z =
        let k : i < property_count g = place_below i z in
        let at : (get_or e.properties i no_row).kind ≡ kind_from (kind_byte g i) = ap (λ (q : PropertyRow). q.kind) (property_is g fg i k) ∙ kind_byte_lem g i in
        let one : suc i - 1 ≡ i = omega arith in
        rw (ne_eqb (suc i) 0 (λ u. omega arith), one)
        (ap not (ap₂ same_kind (kind_byte_lem h p) at ∙ kinds_by_byte (kind_byte g i) (kind_byte h p) ((laid_facts g fg.laid).kinds i k) ((laid_facts h fh.laid).kinds p b)))

    pub clash_at : clashes_at h g items1 t p ≡ is_other_kind (decode_property d (property_at h p)).kind (kind_among (decode e).properties (decode_property d (property_at h p)).name)
    unfolding clashes_at x decode_property
    clash_at = sym (other ∙ by_place (get_or t x 0) refl)

  pub clash_told : some_clash h g items1 t (property_count h) ≡ kinds_clash (register_in h) (register_in g)
  unfolding some_clash kinds_clash register_in
  clash_told =
      any_same (clashes_at h g items1 t) (λ p. is_other_kind (decode_property d (property_at h p)).kind (kind_among (decode e).properties (decode_property d (property_at h p)).name)) (tabulate (property_count h) (λ p. p)) each
      ∙ sym listed
    where
      each : (p : ℕ) → Memᴰ p (tabulate (property_count h) (λ p. p)) → clashes_at h g items1 t p ≡ is_other_kind (decode_property d (property_at h p)).kind (kind_among (decode e).properties (decode_property d (property_at h p)).name)
      each p m =
          let q = mem_place 0 m in
          let k : q.0 < property_count h = rw length_tabulate at q.1 in
          clash_at p (subst (λ (n : ℕ). n < property_count h) (sym (get_d_tabulate (property_count h) (λ p. p) 0 q.0 k) ∙ q.2) k)

      listed : any (λ q. is_other_kind q.kind (kind_among (decode e).properties q.name)) (decode d).properties ≡ any (λ p. is_other_kind (decode_property d (property_at h p)).kind (kind_among (decode e).properties (decode_property d (property_at h p)).name)) (tabulate (property_count h) (λ p. p))
      listed = first_listed h (λ q. is_other_kind q.kind (kind_among (decode e).properties q.name))

pub clash_put : (h g : Bytes) (items1 items2 ks ns t : List ℕ) (n : ℕ) (r : Bool) → PropertiesPut g items2 (zeros 64) (zeros 64) (zeros 4736) 0 (property_count g) ks ns t n → r ≡ some_clash h g items1 t (property_count h) → Clashed h g items1 items2 r
clash_put h g items1 items2 ks ns t n r put e =
    record { is = λ fh fg texts mg. e ∙ clash_told h g items1 items2 fh fg texts mg (zeros 64) (zeros 64) ks ns t n (omega (arith, length_zeros 64)) (omega (arith, length_zeros 64)) put }

pub ruleset clashing = (clash_none, clash_is, clash_found, clash_put)
