-- Accepted register texts give sound registers.
use Rattle.std.specs.Prelude.{Option, Some, None}
use Prim.Native.Nat.{ℕ, ◌≤◌}
use mathlib.Core.Path.{◌≡◌, refl, sym, ap, ◌∙◌, subst}
use mathlib.Core.Bool.{Bool, true, false, cond, not, ◌||◌}
use mathlib.Core.List.{List, [], ◌∷◌}
use native.Mathlib.Omega.{arith}
use borrow.Author.Tests.{ltb-false}
use lib.Dec.{ltb}
use lib.ListN.{length}
use Rattle.text.specs.Bytes.{Bytes, same, any, all}
use Rattle.values.specs.declared.Kind.{Kind}
use Rattle.values.specs.Values.{Value, kind_of, read_value, same_kind}
use Rattle.values.proofs.Laws.{read_kind}
use Rattle.values.proofs.Sameness.{kind_refl}
use Rattle.language.specs.Answer.{refused, accepted, Check, ◌if◌, judge, ◌>>=◌, found}
use Rattle.language.specs.Register.{Property, Held, Page, Register, kind_among, has_kind, kinds_hold, distinct, same_property, same_page, Sound}
use Rattle.language.specs.RegisterText.{Entry, prop, page, cat, val, close, entries, breaks_rule, composed_entries, same_declared, some_twice, properties, is_undeclared, value_of, is_unfit, is_page, is_inner, count_of, over_limits, same_held, with_category, with_value, empty_page, filled, pages_of, register_of, checks, read_register}
use Rattle.language.proofs.Options.{OnSome}
use Rattle.language.proofs.Members.{or_false, both_true}
use Rattle.language.proofs.Adding.{held_added, all_added}

-- a check that was passed, and the verdict behind it
pub judge_passed : {A : Type 0} (n : ℕ) (b : Bool) (l : List Check) (a r : A) → judge (n if b ∷ l) a ≡ accepted r → (b ≡ false) × (judge l a ≡ accepted r)
unfolding judge
judge_passed n true l a r h = absurd (let y : ◌≡◌ {A = ℕ} 0 1 = cc in omega arith)
judge_passed n false l a r h = (refl, h)

pub judge_all : {A : Type 0} (a r : A) → judge [] a ≡ accepted r → a ≡ r
unfolding judge
judge_all a r h = cc

module _ (ps : List Property) where
  abbrev rightly : Held → Bool
  rightly h = has_kind (kind_among ps h.property) (kind_of h.value)

  -- a value by its property's kind
  value_rightly : (x v : Bytes) → OnSome (λ w. has_kind (kind_among ps x) (kind_of w) ≡ true) (value_of ps x v)
  unfolding value_of
  value_rightly x v = go (kind_among ps x)
    where
      read : (k : Kind) (o : Option Value) → read_value k v ≡ o → OnSome (λ w. same_kind k (kind_of w) ≡ true) o
      read k None e = tt
      read k (Some w) e = rw (read_kind k v w e) (kind_refl k)

      go : (o : Option Kind) → OnSome (λ w. has_kind o (kind_of w) ≡ true) (o >>= λ k. read_value k v)
      go None = tt
      go (Some k) = read k (read_value k v) refl

  -- what the inner forms leave as it was
  pub filled_identifier : (p : Page) (l : List Entry) → (filled ps p l).identifier ≡ p.identifier
  unfolding filled
  filled_identifier p [] = refl
  filled_identifier p (prop x k ∷ l) = refl
  filled_identifier p (page n x ∷ l) = refl
  filled_identifier p (cat x ∷ l) = filled_identifier (with_category x p) l
  filled_identifier p (val x v ∷ l) = filled_identifier _ l ∙ go (value_of ps x v)
    where
      go : (o : Option Value) → (found o (λ w. with_value x w p) p).identifier ≡ p.identifier
      go None = refl
      go (Some w) = refl
  filled_identifier p (close ∷ l) = refl

  filled_rightly : (p : Page) (l : List Entry) → all rightly p.values ≡ true → all rightly (filled ps p l).values ≡ true
  unfolding filled
  filled_rightly p [] h = h
  filled_rightly p (prop x k ∷ l) h = h
  filled_rightly p (page n x ∷ l) h = h
  filled_rightly p (cat x ∷ l) h = filled_rightly (with_category x p) l h
  filled_rightly p (val x v ∷ l) h = filled_rightly _ l (go (value_of ps x v) (value_rightly x v))
    where
      go : (o : Option Value) → OnSome (λ w. has_kind (kind_among ps x) (kind_of w) ≡ true) o → all rightly (found o (λ w. with_value x w p) p).values ≡ true
      go None r = h
      go (Some w) r =
          let g : Held = record { property = x; value = w } in
          rw (held_added g p.values) (all_added same_held g p.values rightly r h)
  filled_rightly p (close ∷ l) h = h

  pages_rightly : (l : List Entry) → all (λ p. all rightly p.values) (pages_of ps l) ≡ true
  unfolding all pages_of
  pages_rightly [] = refl
  pages_rightly (prop x k ∷ l) = pages_rightly l
  pages_rightly (page n x ∷ l) = both_true (filled_rightly (empty_page n x) l refl) (pages_rightly l)
  pages_rightly (cat x ∷ l) = pages_rightly l
  pages_rightly (val x v ∷ l) = pages_rightly l
  pages_rightly (close ∷ l) = pages_rightly l

  -- the pages are those of the page entries, in their order
  pages_count : (l : List Entry) → length (pages_of ps l) ≡ count_of is_page l
  unfolding pages_of count_of
  pages_count [] = refl
  pages_count (prop x k ∷ l) = omega (arith, pages_count l)
  pages_count (page n x ∷ l) = omega (arith, pages_count l)
  pages_count (cat x ∷ l) = omega (arith, pages_count l)
  pages_count (val x v ∷ l) = omega (arith, pages_count l)
  pages_count (close ∷ l) = omega (arith, pages_count l)

  some_page : (n x : Bytes) (l : List Entry) → any (same_declared (page n x)) l ≡ any (same_page (empty_page n x)) (pages_of ps l)
  unfolding any pages_of
  some_page n x [] = refl
  some_page n x (prop y k ∷ l) = some_page n x l
  some_page n x (page m y ∷ l) = rw (filled_identifier (empty_page m y) l, some_page n x l)
  some_page n x (cat y ∷ l) = some_page n x l
  some_page n x (val y v ∷ l) = some_page n x l
  some_page n x (close ∷ l) = some_page n x l

  pages_once_lem : (l : List Entry) → some_twice l ≡ false → distinct same_page (pages_of ps l) ≡ true
  unfolding distinct pages_of some_twice
  pages_once_lem [] h = refl
  pages_once_lem (prop x k ∷ l) h = pages_once_lem l (or_false (any (same_declared (prop x k)) l) (some_twice l) h).1
  pages_once_lem (page n x ∷ l) h =
      let t = or_false (any (same_declared (page n x)) l) (some_twice l) h in
      rw (filled_identifier (empty_page n x) l) (both_true (ap not (sym (some_page n x l) ∙ t.0)) (pages_once_lem l t.1))
  pages_once_lem (cat x ∷ l) h = pages_once_lem l (or_false (any (same_declared (cat x)) l) (some_twice l) h).1
  pages_once_lem (val x v ∷ l) h = pages_once_lem l (or_false (any (same_declared (val x v)) l) (some_twice l) h).1
  pages_once_lem (close ∷ l) h = pages_once_lem l (or_false (any (same_declared close) l) (some_twice l) h).1

some_property : (x : Bytes) (k : Kind) (l : List Entry) → any (same_declared (prop x k)) l ≡ any (λ q. same x q.name) (properties l)
unfolding any properties
some_property x k [] = refl
some_property x k (prop y j ∷ l) = ap (λ b. same x y || b) (some_property x k l)
some_property x k (page m y ∷ l) = some_property x k l
some_property x k (cat y ∷ l) = some_property x k l
some_property x k (val y v ∷ l) = some_property x k l
some_property x k (close ∷ l) = some_property x k l

properties_once_lem : (l : List Entry) → some_twice l ≡ false → distinct same_property (properties l) ≡ true
unfolding distinct properties some_twice
properties_once_lem [] h = refl
properties_once_lem (prop x k ∷ l) h =
    let t = or_false (any (same_declared (prop x k)) l) (some_twice l) h in
    both_true (ap not (sym (some_property x k l) ∙ t.0)) (properties_once_lem l t.1)
properties_once_lem (page n x ∷ l) h = properties_once_lem l (or_false (any (same_declared (page n x)) l) (some_twice l) h).1
properties_once_lem (cat x ∷ l) h = properties_once_lem l (or_false (any (same_declared (cat x)) l) (some_twice l) h).1
properties_once_lem (val x v ∷ l) h = properties_once_lem l (or_false (any (same_declared (val x v)) l) (some_twice l) h).1
properties_once_lem (close ∷ l) h = properties_once_lem l (or_false (any (same_declared close) l) (some_twice l) h).1

pub entries_sound : (l : List Entry) → some_twice l ≡ false → over_limits l ≡ false → Sound (register_of l)
unfolding register_of over_limits kinds_hold
entries_sound l once few =
    let t = or_false (ltb 64 (length (properties l)) || ltb 256 (count_of is_page l)) (ltb 2048 (count_of is_inner l)) few in
    let u = or_false (ltb 64 (length (properties l))) (ltb 256 (count_of is_page l)) t.0 in
    record {
      kinds = pages_rightly (properties l) l;
      properties_once = properties_once_lem l once;
      pages_once = pages_once_lem (properties l) l once;
      few_properties = ltb-false 64 _ u.0;
      few_pages = rw (pages_count (properties l) l) (ltb-false 256 _ u.1);
    }

-- What the checks of an accepted text found: k are its entries as typed, l those with names composed.
pub record Passed (s : Bytes) (k l : List Entry) : Type 0 where
  pub short : length s ≤ 32768
  pub read : entries s ≡ Some k
  pub ruled : any breaks_rule k ≡ false
  pub composed : composed_entries k ≡ l
  pub once : some_twice l ≡ false
  pub declared : any (is_undeclared (properties l)) l ≡ false
  pub fit : any (is_unfit (properties l)) l ≡ false
  pub few : over_limits l ≡ false

-- What holds of the register of every text that passes holds of an accepted one.
pub of_accepted : (P : Register → Type 0) (s : Bytes) (R : Register) → read_register s ≡ accepted R → ((k l : List Entry) → Passed s k l → P (register_of l)) → P R
unfolding read_register
of_accepted P s R h f = long (ltb 32768 (length s)) refl h
  where
    judged : (k : List Entry) → length s ≤ 32768 → entries s ≡ Some k → judge (checks k) (register_of (composed_entries k)) ≡ accepted R → P R
    judged k short read h =
        let l = composed_entries k in
        let t3 = judge_passed 3 (any breaks_rule k) _ (register_of l) R h in
        let t4 = judge_passed 4 (some_twice l) _ (register_of l) R t3.1 in
        let t5 = judge_passed 5 (any (is_undeclared (properties l)) l) _ (register_of l) R t4.1 in
        let t6 = judge_passed 6 (any (is_unfit (properties l)) l) _ (register_of l) R t5.1 in
        let t7 = judge_passed 7 (over_limits l) [] (register_of l) R t6.1 in
        subst P (judge_all (register_of l) R t7.1)
        (f k l (record { short = short; read = read; ruled = t3.0; composed = refl; once = t4.0; declared = t5.0; fit = t6.0; few = t7.0 }))

    taken : (o : Option (List Entry)) → length s ≤ 32768 → entries s ≡ o → found o (λ l. judge (checks l) (register_of (composed_entries l))) (refused 2) ≡ accepted R → P R
    taken None short read h = absurd (let y : ◌≡◌ {A = ℕ} 0 1 = cc in omega arith)
    taken (Some l) short read h = judged l short read h

    long : (b : Bool) → ltb 32768 (length s) ≡ b → cond b (refused 1) (found (entries s) (λ l. judge (checks l) (register_of (composed_entries l))) (refused 2)) ≡ accepted R → P R
    long true e h = absurd (let y : ◌≡◌ {A = ℕ} 0 1 = cc in omega arith)
    long false e h = taken (entries s) (ltb-false 32768 (length s) e) refl h

-- with no page and no property twice, and every value of its property's kind
pub accepted_sound : (s : Bytes) (R : Register) → read_register s ≡ accepted R → Sound R
accepted_sound s R h = of_accepted Sound s R h (λ k l t. entries_sound l t.once t.few)
