-- What an accepted text gives is a register.
use Rattle.std.specs.Prelude.{Option, Some, None}
use Prim.Native.Nat.{ℕ, ◌+◌, ◌≤◌}
use mathlib.Core.Path.{◌≡◌, refl, subst}
use mathlib.Core.Bool.{Bool, true, false, cond, not, ◌&&◌, ◌||◌}
use mathlib.Core.List.{List, [], ◌∷◌}
use native.Mathlib.Omega.{arith}
use lib.Dec.{ltb}
use lib.ListN.{length}
use borrow.Author.Tests.{ltb-false, le-leb, not-false}
use Rattle.text.specs.Bytes.{Bytes, same, any, all}
use Rattle.text.proofs.Laws.{same_eq, same_refl}
use Rattle.values.specs.declared.Kind.{Kind}
use Rattle.names.specs.Names.{is_name, is_property_name, is_namespace, is_composed_name, is_composed_property_name, is_composed_namespace}
use Rattle.names.proofs.Composed.{composed_le, composed_is_name, composed_is_property, composed_is_namespace}
use Rattle.values.specs.Names.{Identifier, is_value, reference}
use Rattle.values.specs.Values.{Value, link, read_link, read_value}
use Rattle.values.specs.Spelling.{spelling}
use Rattle.values.proofs.EachKind.{read_in_range}
use Rattle.values.proofs.AllKinds.{spelled_le}
use Rattle.values.proofs.Spelled.{of_read, link_read, reference_keeps, value_short, spelled_link_le, spelled_is_value}
use Rattle.language.specs.Answer.{accepted, ◌>>=◌, found}
use Rattle.language.specs.Register.{Property, Held, Page, Register, kind_among, distinct, Sound}
use Rattle.language.specs.RegisterText.{Entry, prop, page, cat, val, close, line, breaks_rule, composed_entry, composed_entries, properties, value_of, is_page as is_page_entry, is_inner, count_of, over_limits, same_held, with_category, with_value, empty_page, filled, pages_of, register_of, read_register}
use Rattle.language.specs.Rules.{is_identifier, is_storable, is_page, total, forms_on, bytes_on, bytes_in, is_within_limits, is_register}
use Rattle.language.proofs.Options.{OnSome}
use Rattle.language.proofs.Members.{and_true, or_false, both_true}
use Rattle.language.proofs.Shorter.{of_found}
use Rattle.language.proofs.Entries.{weight, entries_weigh}
use Rattle.language.proofs.Registers.{entries_sound, Passed, of_accepted}
use Rattle.language.proofs.Adding.{category_added, held_added, all_added, total_added, length_added, distinct_added}
use Rattle.language.proofs.Sameness.{held_eq, held_refl}
use Rattle.language.proofs.Rules.{RuledPage, rules_page}

-- A value that was read from a text that keeps the rule for values keeps its own.
link_storable : (s : Bytes) (i : Identifier) → is_value s ≡ true → read_link s ≡ Some i → is_storable (link i) ≡ true
unfolding is_storable is_identifier spelling
link_storable s i h e =
    let r = link_read s i e in
    let k = subst (λ i. is_composed_namespace i.namespace && is_composed_name i.article ≡ true) r.1 (reference_keeps (reference s) r.0) in
    both_true k (spelled_is_value i k (omega (arith, spelled_link_le s i e, value_short s h)))

pub read_storable : (k : Kind) (s : Bytes) (v : Value) → is_value s ≡ true → read_value k s ≡ Some v → is_storable v ≡ true
unfolding is_storable
read_storable k s v h =
    of_read (λ v. is_storable v ≡ true) s (λ i. link_storable s i h) (λ k. read_in_range k s) h k v

-- What holds of whatever a text writes in any kind holds of a val's value.
pub on_value : (P : Value → Type 0) (ps : List Property) (x s : Bytes) → ((k : Kind) (v : Value) → read_value k s ≡ Some v → P v) → OnSome P (value_of ps x s)
unfolding value_of
on_value P ps x s f = go (kind_among ps x)
  where
    read : (k : Kind) (o : Option Value) → read_value k s ≡ o → OnSome P o
    read k None e = tt
    read k (Some v) e = f k v e

    go : (o : Option Kind) → OnSome P (o >>= λ k. read_value k s)
    go None = tt
    go (Some k) = read k (read_value k s) refl

pub empty_ruled : (n x : Bytes) → is_composed_namespace n && is_composed_name x ≡ true → RuledPage (empty_page n x)
unfolding is_identifier all distinct
empty_ruled n x h = record { identifier = h; categories = refl; categories_once = refl; values = refl; values_once = refl }

module _ (x : Bytes) (p : Page) (r : RuledPage p) where
  pub category_ruled : is_composed_name x ≡ true → RuledPage (with_category x p)
  category_ruled h =
      record {
        identifier = r.identifier;
        categories = rw (category_added x p.categories) (all_added same x p.categories is_composed_name h r.categories);
        categories_once = rw (category_added x p.categories) (distinct_added same same_eq same_refl x p.categories r.categories_once);
        values = r.values;
        values_once = r.values_once;
      }

  pub value_ruled : (v : Value) → is_storable v ≡ true → RuledPage (with_value x v p)
  value_ruled v h =
      let g : Held = record { property = x; value = v } in
      record {
        identifier = r.identifier;
        categories = r.categories;
        categories_once = r.categories_once;
        values = rw (held_added g p.values) (all_added same_held g p.values (λ h. is_storable h.value) h r.values);
        values_once = rw (held_added g p.values) (distinct_added same_held held_eq held_refl g p.values r.values_once);
      }

-- Entries whose names keep the rule, composed.
abbrev pub breaks_composed : Entry → Bool
breaks_composed (prop x k) = not (is_composed_property_name x)
breaks_composed (page n x) = not (is_composed_namespace n && is_composed_name x)
breaks_composed (cat x) = not (is_composed_name x)
breaks_composed (val x v) = not (is_composed_property_name x && is_value v)
breaks_composed close = false

entry_composed : (e : Entry) → breaks_rule e ≡ false → breaks_composed (composed_entry e) ≡ false
entry_composed (prop x k) h = rw (composed_is_property x (not-false (is_property_name x) h))
entry_composed (page n x) h =
    let t = and_true (is_namespace n) (is_name x) (not-false (is_namespace n && is_name x) h) in
    rw (composed_is_namespace n t.0, composed_is_name x t.1)
entry_composed (cat x) h = rw (composed_is_name x (not-false (is_name x) h))
entry_composed (val x v) h =
    let t = and_true (is_property_name x) (is_value v) (not-false (is_property_name x && is_value v) h) in
    rw (composed_is_property x t.0, t.1)
entry_composed close h = refl

pub rule_composed : (l : List Entry) → any breaks_rule l ≡ false → any breaks_composed (composed_entries l) ≡ false
unfolding any composed_entries
rule_composed [] h = refl
rule_composed (e ∷ l) h = let t = or_false (breaks_rule e) (any breaks_rule l) h in rw (entry_composed e t.0) (rule_composed l t.1)

weight_composed : (e : Entry) → weight (composed_entry e) ≤ weight e
weight_composed (prop x k) = omega (arith, composed_le x)
weight_composed (page n x) = omega (arith, composed_le n, composed_le x)
weight_composed (cat x) = composed_le x
weight_composed (val x v) = omega (arith, composed_le x)
weight_composed close = omega arith

pub weigh_composed : (l : List Entry) → total weight (composed_entries l) ≤ total weight l
unfolding total composed_entries
weigh_composed [] = omega arith
weigh_composed (e ∷ l) = omega (arith, weight_composed e, weigh_composed l)

ruled_step : (e : Entry) (l : List Entry) → any breaks_composed (e ∷ l) ≡ false → (breaks_composed e ≡ false) × (any breaks_composed l ≡ false)
unfolding any
ruled_step e l h = or_false (breaks_composed e) (any breaks_composed l) h

module _ (ps : List Property) where
  filled_ruled : (p : Page) (l : List Entry) → any breaks_composed l ≡ false → RuledPage p → RuledPage (filled ps p l)
  unfolding filled
  filled_ruled p [] h r = r
  filled_ruled p (prop x k ∷ l) h r = r
  filled_ruled p (page n x ∷ l) h r = r
  filled_ruled p (cat x ∷ l) h r =
      let t = ruled_step (cat x) l h in
      filled_ruled (with_category x p) l t.1 (category_ruled x p r (not-false (is_composed_name x) t.0))
  filled_ruled p (val x v ∷ l) h r =
      let t = ruled_step (val x v) l h in
      let u = and_true (is_composed_property_name x) (is_value v) (not-false (is_composed_property_name x && is_value v) t.0) in
      let w = on_value (λ w. RuledPage (with_value x w p)) ps x v (λ k w e. value_ruled x p r w (read_storable k v w u.1 e)) in
      filled_ruled _ l t.1 (of_found RuledPage (value_of ps x v) (λ w. with_value x w p) p w r)
  filled_ruled p (close ∷ l) h r = r

  pub pages_ruled : (l : List Entry) → any breaks_composed l ≡ false → all is_page (pages_of ps l) ≡ true
  unfolding pages_of all
  pages_ruled [] h = refl
  pages_ruled (prop x k ∷ l) h = pages_ruled l (ruled_step (prop x k) l h).1
  pages_ruled (page n x ∷ l) h =
      let t = ruled_step (page n x) l h in
      both_true
      (rules_page _ (filled_ruled (empty_page n x) l t.1 (empty_ruled n x (not-false (is_composed_namespace n && is_composed_name x) t.0))))
      (pages_ruled l t.1)
  pages_ruled (cat x ∷ l) h = pages_ruled l (ruled_step (cat x) l h).1
  pages_ruled (val x v ∷ l) h = pages_ruled l (ruled_step (val x v) l h).1
  pages_ruled (close ∷ l) h = pages_ruled l (ruled_step close l h).1

pub properties_ruled : (l : List Entry) → any breaks_composed l ≡ false → all (λ p. is_composed_property_name p.name) (properties l) ≡ true
unfolding properties all
properties_ruled [] h = refl
properties_ruled (prop x k ∷ l) h =
    let t = ruled_step (prop x k) l h in both_true (not-false (is_composed_property_name x) t.0) (properties_ruled l t.1)
properties_ruled (page n x ∷ l) h = properties_ruled l (ruled_step (page n x) l h).1
properties_ruled (cat x ∷ l) h = properties_ruled l (ruled_step (cat x) l h).1
properties_ruled (val x v ∷ l) h = properties_ruled l (ruled_step (val x v) l h).1
properties_ruled (close ∷ l) h = properties_ruled l (ruled_step close l h).1

-- The sum of a number for each property and one for each page of a list of entries.
abbrev pub sum_of : List Property → (Property → ℕ) → (Page → ℕ) → List Entry → ℕ
sum_of ps declared on_page l = total declared (properties l) + total on_page (pages_of ps l)

-- It is no more than the sum of a number for each entry, where each entry adds no more than its own.
module _
    (ps : List Property)
    (declared : Property → ℕ)
    (on_page : Page → ℕ)
    (own : Entry → ℕ)
    (for-prop : (x : Bytes) (k : Kind) → declared (record { name = x; kind = k }) ≤ own (prop x k))
    (for-page : (n x : Bytes) → on_page (empty_page n x) ≤ own (page n x))
    (for-cat : (x : Bytes) (p : Page) → on_page (with_category x p) ≤ on_page p + own (cat x))
    (for-val : (x v : Bytes) (p : Page) → OnSome (λ w. on_page (with_value x w p) ≤ on_page p + own (val x v)) (value_of ps x v))
  where
    with_val : (x v : Bytes) (p : Page) → on_page (found (value_of ps x v) (λ w. with_value x w p) p) ≤ on_page p + own (val x v)
    with_val x v p = of_found (λ q. on_page q ≤ on_page p + own (val x v)) (value_of ps x v) (λ w. with_value x w p) p (for-val x v p) (omega arith)

    -- the second part is of entries behind a page p: the inner forms at their front add to p
    sum_both : (l : List Entry) → (sum_of ps declared on_page l ≤ total own l) × ((p : Page) → on_page (filled ps p l) + sum_of ps declared on_page l ≤ on_page p + total own l)
    unfolding total properties pages_of filled
    sum_both [] = (omega arith, λ p. omega arith)
    sum_both (prop x k ∷ l) = let t = (sum_both l).0 in (omega (arith, for-prop x k), λ p. omega (arith, for-prop x k))
    sum_both (page n x ∷ l) = let t = (sum_both l).1 (empty_page n x) in (omega (arith, for-page n x), λ p. omega (arith, for-page n x))
    sum_both (cat x ∷ l) = let t = sum_both l in (omega arith, λ p. omega (arith, t.1 (with_category x p), for-cat x p))
    sum_both (val x v ∷ l) = let t = sum_both l in (omega arith, λ p. omega (arith, t.1 (found (value_of ps x v) (λ w. with_value x w p) p), with_val x v p))
    sum_both (close ∷ l) = let t = (sum_both l).0 in (omega arith, λ p. omega arith)

    pub sum_le : (l : List Entry) → sum_of ps declared on_page l ≤ total own l
    sum_le l = (sum_both l).0

count_total : (p : Entry → Bool) (l : List Entry) → count_of p l ≡ total (λ e. cond (p e) 1 0) l
unfolding count_of total
count_total p [] = refl
count_total p (e ∷ l) = rw (count_total p l)

-- cat and val forms, repeats left out
pub forms_few : (ps : List Property) (l : List Entry) → total forms_on (pages_of ps l) ≤ count_of is_inner l
forms_few ps l =
    let t = sum_le ps (λ q. 0) forms_on (λ e. cond (is_inner e) 1 0) (λ x k. omega arith) (λ n x. omega arith) with_cat with_val l in
    omega (arith, count_total is_inner l)
  where
    with_cat : (x : Bytes) (p : Page) → forms_on (with_category x p) ≤ forms_on p + 1
    with_cat x p = rw (category_added x p.categories) (omega (arith, length_added same x p.categories))

    with_val : (x v : Bytes) (p : Page) → OnSome (λ w. forms_on (with_value x w p) ≤ forms_on p + 1) (value_of ps x v)
    with_val x v p =
        on_value _ ps x v λ k w e.
        let g : Held = record { property = x; value = w } in
        rw (held_added g p.values) (omega (arith, length_added same_held g p.values))

-- names, and values at their shortest
pub bytes_few : (l : List Entry) → bytes_in (register_of l) ≤ total weight l
unfolding bytes_in register_of total
bytes_few l = sum_le (properties l) (λ q. length q.name) bytes_on weight (λ x k. omega arith) (λ n x. omega arith) with_cat with_val l
  where
    with_cat : (x : Bytes) (p : Page) → bytes_on (with_category x p) ≤ bytes_on p + length x
    with_cat x p = rw (category_added x p.categories) (omega (arith, total_added same x p.categories length))

    with_val : (x v : Bytes) (p : Page) → OnSome (λ w. bytes_on (with_value x w p) ≤ bytes_on p + (length x + length v + 4)) (value_of (properties l) x v)
    with_val x v p =
        on_value _ (properties l) x v λ k w e.
        let g : Held = record { property = x; value = w } in
        let t = total_added same_held g p.values (λ h. length (spelling h.value)) in
        rw (held_added g p.values) (omega (arith, spelled_le k v w e))

-- the rules of 3 to 6 from the checks, and the limits from 7 and from 1
entries_register : (s : Bytes) (k l : List Entry) → Passed s k l → Sound (register_of l) → is_register (register_of l) ≡ true
unfolding is_register is_within_limits register_of over_limits
entries_register s k l t u =
    let r = rw t.composed at (rule_composed k t.ruled) in
    let i = or_false (ltb 64 (length (properties l)) || ltb 256 (count_of is_page_entry l)) (ltb 2048 (count_of is_inner l)) t.few in
    let v : total weight k ≤ length s = subst (OnSome (λ l. total weight l ≤ length s)) t.read (entries_weigh line s) in
    let w : total weight l ≤ total weight k = rw t.composed at (weigh_composed k) in
    let f = le-leb (total forms_on (pages_of (properties l) l)) 2048 (omega (arith, ltb-false 2048 (count_of is_inner l) i.1, forms_few (properties l) l)) in
    let b = le-leb (bytes_in (register_of l)) 32768 (omega (arith, t.short, bytes_few l)) in
    let p = le-leb (length (properties l)) 64 u.few_properties in
    let q = le-leb (length (pages_of (properties l) l)) 256 u.few_pages in
    rw (properties_ruled l r, pages_ruled (properties l) l r, u.properties_once, u.pages_once, u.kinds, p, q, f, b)

pub accepted_register : (s : Bytes) (R : Register) → read_register s ≡ accepted R → is_register R ≡ true
accepted_register s R h = of_accepted (λ R. is_register R ≡ true) s R h (λ k l t. entries_register s k l t (entries_sound l t.once t.few))
