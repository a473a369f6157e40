-- A property looked up among rows.
use Rattle.std.specs.Prelude.{Option, Some, None}
use Prim.Native.Nat.{ℕ, zero, suc, ◌+◌, ◌%◌, ◌≤◌, ◌<◌}
use mathlib.Core.Path.{◌≡◌, refl, sym, ap, ap₂, ◌∙◌}
use mathlib.Core.Bool.{Bool, true, false, cond, ◌&&◌, false≢true}
use mathlib.Core.List.{List, [], ◌∷◌, ◌++◌, map, map-append}
use native.Mathlib.Nat.{zero-add}
use native.Mathlib.Numerals.{add-one}
use native.Mathlib.Omega.{arith}
use lib.ListN.{length, get_or, take, drop, length-take, drop_of_length-le}
use lib.Seq.{drop-cons, get_or-take}
use Rattle.text.specs.Bytes.{Bytes, same, part, all}
use Rattle.text.specs.Table.{tabulate}
use Rattle.text.proofs.Laws.{all_append}
use Rattle.values.specs.declared.Kind.{Kind}
use Rattle.language.specs.Answer.{found, ◌>>=◌}
use Rattle.language.specs.Register.{Property, kind_among}
use Rattle.language.specs.RegisterText.{Entry, prop, page, cat, val, close, properties}
use Rattle.language.proofs.Members.{and_true, both_true}
use Rattle.register_text_entries.specs.Items.{entry_in}
use Rattle.register_text_entries.specs.Table.{entry_at, entries_in}
use Rattle.register_text_entries.specs.declared.Item.{Item}
use Rattle.register_text_verdict.specs.Rows.{places_to, is_prop, declared_kind}
use Rattle.register_text_verdict.specs.Checks.{declares_tag, rows_that}
use Rattle.register_text_verdict.specs.declared.Declared.{Declared}
use Rattle.register_text_verdict.proofs.Ways.{kind_by}
use Rattle.register_text_verdict.proofs.Verdict.{rows_that_lem}
use Rattle.register_form.specs.Encoding.{place_among}
use Rattle.register_text_draft.specs.Lookup.{found_from, found_in, property_found, Lists}

-- The ways through the loop.
pub found_start : (s : Bytes) (t rows : List ℕ) (m : ℕ) (x : Bytes) → found_in s t rows m x ≡ found_from (λ i. declared_kind x (entry_at s t i)) 0 (drop 0 (take m rows))
unfolding found_in
found_start s t rows m x = refl

module _ (s : Bytes) (t rows : List ℕ) (m : ℕ) (x : Bytes) (k : ℕ) (inv : found_in s t rows m x ≡ found_from (λ i. declared_kind x (entry_at s t i)) k (drop k (take m rows))) where
  none_left : length (take m rows) ≤ k → None ≡ property_found (found_in s t rows m x)
  unfolding found_from
  none_left h =
      ap property_found (sym (inv ∙ ap (found_from (λ i. declared_kind x (entry_at s t i)) k) (drop_of_length-le (take m rows) h)))

  pub found_past : length rows ≤ k → None ≡ property_found (found_in s t rows m x)
  found_past h = none_left (simp length-take (omega arith))

  pub found_none : m ≤ k → None ≡ property_found (found_in s t rows m x)
  found_none h = none_left (simp length-take (omega arith))

  module _ (below : k < m) (within : k < length rows) (n : ℕ) (e : n ≡ get_or rows k 0) (i : Item) (f : (u : Bytes) → entry_in u i ≡ entry_at u t n)
      (b : Bool) (hb : b ≡ declares_tag Declared.Property i.tag) (y : Bytes) (hy : y ≡ part s i.first.start i.first.len) (r : Bool) (hr : r ≡ same y x) where
    row : declared_kind x (entry_at s t (get_or rows k 0)) ≡ cond (b && r) (Some i.kind) None
    row = ap (declared_kind x) (ap (entry_at s t) (sym e) ∙ sym (f s)) ∙ kind_by x i.tag i.kind _ _ ∙ rw (hb, hr, hy)

    step : found_in s t rows m x ≡ found (cond (b && r) (Some i.kind) None) (λ j. Some (j, k)) (found_from (λ j. declared_kind x (entry_at s t j)) (k + 1) (drop (k + 1) (take m rows)))
    unfolding found_from
    step =
        let l : k < length (take m rows) = simp length-take (omega arith) in
        inv ∙ rw (add-one k, drop-cons (take m rows) k 0 l, get_or-take m rows k 0 below, row)

    pub found_here : b && r ≡ true → (p : ℕ) → p ≡ k % 65536 → Some (i.kind, p) ≡ property_found (found_in s t rows m x)
    found_here h p q = let z : found_in s t rows m x ≡ Some (i.kind, k) = step ∙ rw h in rw q (ap property_found (sym z))

    pub found_later : b && r ≡ false → found_in s t rows m x ≡ found_from (λ j. declared_kind x (entry_at s t j)) (k + 1) (drop (k + 1) (take m rows))
    found_later h = step ∙ rw h

-- The property that an entry declares.
abbrev property_of : Entry → Property
property_of (prop x k) = record { name = x; kind = k }
property_of (page n x) = record { name = []; kind = Kind.Page }
property_of (cat x) = record { name = []; kind = Kind.Page }
property_of (val x v) = record { name = []; kind = Kind.Page }
property_of close = record { name = []; kind = Kind.Page }

properties_append : (l m : List Entry) → properties (l ++ m) ≡ properties l ++ properties m
unfolding properties
properties_append [] m = refl
properties_append (prop x k ∷ l) m = ap (λ (z : List Property). record { name = x; kind = k } ∷ z) (properties_append l m)
properties_append (page n x ∷ l) m = properties_append l m
properties_append (cat x ∷ l) m = properties_append l m
properties_append (val x v ∷ l) m = properties_append l m
properties_append (close ∷ l) m = properties_append l m

module _ (f : ℕ → Entry) where
  abbrev prop_rows : ℕ → List ℕ
  prop_rows n = places_to n (λ i. is_prop (f i))

  properties_rows : (n : ℕ) → properties (tabulate n f) ≡ map (λ i. property_of (f i)) (prop_rows n)
  unfolding tabulate places_to properties
  properties_rows zero = refl
  properties_rows (suc n) =
      properties_append (tabulate n f) (f n ∷ [])
      ∙ ap₂ (λ (a b : List Property). a ++ b) (properties_rows n) (one (f n) refl)
      ∙ sym (map-append (λ i. property_of (f i)) (prop_rows n) (cond (is_prop (f n)) (n ∷ []) []))
    where
      one : (e : Entry) → f n ≡ e → properties (e ∷ []) ≡ map (λ i. property_of (f i)) (cond (is_prop e) (n ∷ []) [])
      one (prop x k) q = rw q
      one (page m x) q = refl
      one (cat x) q = refl
      one (val x v) q = refl
      one close q = refl

  all_props : (n : ℕ) → all (λ i. is_prop (f i)) (prop_rows n) ≡ true
  unfolding places_to all
  all_props zero = refl
  all_props (suc n) = all_append (λ i. is_prop (f i)) (prop_rows n) (cond (is_prop (f n)) (n ∷ []) []) ∙ both_true (all_props n) (one (is_prop (f n)) refl)
    where
      one : (b : Bool) → is_prop (f n) ≡ b → all (λ i. is_prop (f i)) (cond b (n ∷ []) []) ≡ true
      one true e = both_true e refl
      one false e = refl

  declared_by : (x : Bytes) (e : Entry) → is_prop e ≡ true → declared_kind x e ≡ cond (same (property_of e).name x) (Some (property_of e).kind) None
  declared_by x (prop y k) h = refl
  declared_by x (page n y) h = absurd (false≢true h)
  declared_by x (cat y) h = absurd (false≢true h)
  declared_by x (val y v) h = absurd (false≢true h)
  declared_by x close h = absurd (false≢true h)

  -- among rows that declare properties
  found_rows : (x : Bytes) (l : List ℕ) (k : ℕ) → all (λ i. is_prop (f i)) l ≡ true
      → found_from (λ i. declared_kind x (f i)) k l ≡ (kind_among (map (λ i. property_of (f i)) l) x >>= λ j. Some (j, k + place_among (map (λ i. property_of (f i)) l) x))
  unfolding found_from kind_among place_among all
  found_rows x [] k h = refl
  found_rows x (i ∷ l) k h =
      let t = and_true (is_prop (f i)) (all (λ i. is_prop (f i)) l) h in
      rw (declared_by x (f i) t.0) (go (same (property_of (f i)).name x) (found_rows x l (suc k) t.1))
    where
      ps : List Property
      ps = map (λ i. property_of (f i)) l

      at : ℕ → Kind → Option (Kind × ℕ)
      at p j = Some (j, p)

      shift : (o : Option Kind) (p : ℕ) → (o >>= at (suc k + p)) ≡ (o >>= at (k + suc p))
      shift o p = let e : suc k + p ≡ k + suc p = omega arith in ap (λ (z : ℕ). o >>= at z) e

      go : (b : Bool) → found_from (λ i. declared_kind x (f i)) (suc k) l ≡ (kind_among ps x >>= λ j. Some (j, suc k + place_among ps x))
          → found (cond b (Some (property_of (f i)).kind) None) (λ j. Some (j, k)) (found_from (λ i. declared_kind x (f i)) (suc k) l)
          ≡ (cond b (Some (property_of (f i)).kind) (kind_among ps x) >>= λ j. Some (j, k + cond b 0 (suc (place_among ps x))))
      go true r = let e : k ≡ k + 0 = omega arith in ap (λ (z : ℕ). at z (property_of (f i)).kind) e
      go false r = r ∙ shift (kind_among ps x) (place_among ps x)

-- The list of rows that are properties is that of the text's properties.
pub lists_rows : (s : Bytes) (t props : List ℕ) (n np : ℕ) → take np props ≡ rows_that Declared.Property t n → length (properties (entries_in s t n)) ≤ 64 → Lists s t props np (properties (entries_in s t n))
unfolding found_in entries_in
lists_rows s t props n np e few =
    record {
      few = few;
      found = λ x.
          ap (found_from (λ i. declared_kind x (entry_at s t i)) 0) (e ∙ rows_that_lem Declared.Property s t n)
          ∙ found_rows (entry_at s t) x (prop_rows (entry_at s t) n) 0 (all_props (entry_at s t) n)
          ∙ rw (zero-add, properties_rows (entry_at s t) n);
    }
