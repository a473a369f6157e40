-- Which terms a range has: the one of a category, those of a property.
use Rattle.language.proofs.Rules.{Ruled}
use Prim.Native.Nat.{ℕ, suc, ◌+◌, ◌≤◌, ◌<◌}
use mathlib.Core.Path.{◌≡◌, refl, sym, ap, ◌∙◌}
use mathlib.Core.Bool.{Bool, true, false, cond, not, ◌&&◌, false≢true}
use mathlib.Core.List.Memᴰ
use mathlib.Core.List.{List, [], ◌∷◌, map, flat_map, Memᴰ}
use native.Mathlib.Omega.{arith}
use borrow.Author.Tests.{lt-ltb, le-ltb, le-leb, eq-eqb, ne_eqb, ltb-true, ltb-false, leb-true, eqb-true}
use lib.Dec.{ltb, leb, eqb}
use lib.ListN.{length, get_or}
use Rattle.text.specs.Bytes.{Bytes, order_of, same, any}
use Rattle.std.specs.declared.cmp.Ordering.TheVariants.{Less, Greater}
use Rattle.text.proofs.Laws.{same_eq, same_refl}
use Rattle.values.specs.declared.Kind.{Kind}
use Rattle.values.specs.Values.{kind_of, same_kind}
use Rattle.language.specs.Register.{Property, Held, Page, Register, holds}
use Rattle.language.specs.Semantics.{some_other}
use Rattle.language.proofs.Members.{and_true, both_true, any_found, any_mem}
use Rattle.sorting.specs.Ascending.{is_less, rank}
use Rattle.sorting.proofs.Canonical.{same_truth}
use Rattle.sorting.proofs.Orders.{bytes_total}
use Rattle.sorting.proofs.Ranks.{rank_most, rank_above, rank_below}
use Rattle.register_form.specs.Dictionary.{name_of, group_of, term_code, term_of}
use Rattle.register_form.specs.Encoding.{plain_text, texts_of, place_among, category_term, value_term, page_terms, terms_of}
use Rattle.register_form.proofs.Lists.{mem_at, of_flat, of_sorted, number_at, number_back, number_small}
use Rattle.register_form.proofs.Numbers.{code_back}
use Rattle.register_form.proofs.Codes.{name_back}
use Rattle.register_form.proofs.Rules.{Limits, value_kind, place_known, texts_few}
use Rattle.register_form.proofs.Decoded.{category_text, page_term, texts_up, terms_up_lem, category_code}
use Rattle.register_form.proofs.Canonical.{TermFrom, term_from_lem}
use Rattle.register_form_view.specs.Ranges.{term_number, within, CategoryRange, PropertyRange}
use Rattle.register_form_view.specs.declared.TermRange.{TermRange}

-- Truth values.
untrue : (b : Bool) → (b ≡ true → ⊥) → b ≡ false
untrue true h = absurd (h refl)
untrue false h = refl

-- A term is less than a group alone where its group is less.
below_group : (t : Bytes) (g : ℕ) → 0 < length t → is_less (order_of t (g ∷ [])) ≡ ltb (group_of t) g
unfolding order_of
below_group [] g b = absurd (omega arith)
below_group (a ∷ s) g b = go (ltb a g)
  where
    behind : (s : Bytes) → is_less (order_of s []) ≡ false
    behind [] = refl
    behind (c ∷ s) = refl

    rest : (v : Bool) → is_less (cond v Greater (order_of s [])) ≡ false
    rest true = refl
    rest false = behind s

    go : (u : Bool) → is_less (cond u Less (cond (ltb g a) Greater (order_of s []))) ≡ u
    go true = refl
    go false = rest (ltb g a)

-- Where a property stands it has its name.
place_named : (l : List Property) (x : Bytes) (d : Property) → place_among l x < length l → (get_or l (place_among l x) d).name ≡ x
unfolding place_among
place_named [] x d b = absurd (omega arith)
place_named (p ∷ l) x d b = go (same p.name x) refl b (place_named l x d)
  where
    go : (s : Bool) → same p.name x ≡ s → cond s 0 (suc (place_among l x)) < suc (length l) → (place_among l x < length l → (get_or l (place_among l x) d).name ≡ x) → (get_or (p ∷ l) (cond s 0 (suc (place_among l x))) d).name ≡ x
    go true e b ih = same_eq p.name x e
    go false e b ih = ih (omega arith)

abbrev pub property_place : Register → Bytes → ℕ
property_place R x = place_among R.properties x

pub undeclared : Property
undeclared = record { name = []; kind = Kind.Page }

-- An empty range has no terms, and one of one term has that one.
empty_range : (r : TermRange) (f : ℕ) → r.low ≡ 0 → r.high ≡ 0 → within r f ≡ false
empty_range r f l h = rw (l, h, le-ltb f 0 (omega arith)) (never (leb 0 f))
  where
    never : (b : Bool) → (b && false) ≡ false
    never true = refl
    never false = refl

single_range : (r : TermRange) (n f : ℕ) → r.low ≡ n → r.high ≡ n + 1 → within r f ≡ eqb f n
single_range r n f l h =
    same_truth (within r f) (eqb f n)
    (λ e. let t = and_true (leb r.low f) (ltb f r.high) e in eq-eqb f n (omega (arith, leb-true r.low f t.0, ltb-true f r.high t.1)))
    (λ e. both_true (le-leb r.low f (omega (arith, eqb-true f n e))) (lt-ltb f r.high (omega (arith, eqb-true f n e))))

module _ (R : Register) where
  category_in : {p : Page} {y : Bytes} → Memᴰ p R.pages → Memᴰ y p.categories → Memᴰ (category_term R y) (terms_of R)
  unfolding page_terms
  category_in {p} m n = page_term R m (Memᴰ.append_left (map (value_term R) p.values) (Memᴰ.map (category_term R) n))

  pub value_in : {p : Page} {v : Held} → Memᴰ p R.pages → Memᴰ v p.values → Memᴰ (value_term R v) (terms_of R)
  unfolding page_terms
  value_in {p} m n = page_term R m (Memᴰ.append_right (map (category_term R) p.categories) (Memᴰ.map (value_term R) n))

  value_group : (v : Held) → group_of (value_term R v) ≡ suc (property_place R v.property)
  unfolding value_term
  value_group v = refl

  category_group : (y : Bytes) → group_of (category_term R y) ≡ 0
  unfolding category_term
  category_group y = refl

  -- The terms of a group are those from the rank of the group to that of the next.
  module _ (g : ℕ) (r : TermRange) (low : r.low ≡ term_number R (g ∷ [])) (high : r.high ≡ term_number R (suc g ∷ [])) where
    within_group : (t : Bytes) → 0 < length t → Memᴰ t (terms_of R) → within r (term_number R t) ≡ eqb (group_of t) g
    within_group t some m =
        same_truth (within r (term_number R t)) (eqb (group_of t) g)
        (λ e. let b = and_true (leb r.low (term_number R t)) (ltb (term_number R t) r.high) e in eq-eqb (group_of t) g (inside (leb-true r.low (term_number R t) b.0) (ltb-true (term_number R t) r.high b.1) (ltb (group_of t) g) refl (ltb (group_of t) (suc g)) refl))
        (λ e. let z = eqb-true (group_of t) g e in both_true (le-leb r.low (term_number R t) (omega (arith, upper g (le-ltb (group_of t) g (omega arith))))) (lt-ltb (term_number R t) r.high (omega (arith, lower (suc g) (lt-ltb (group_of t) (suc g) (omega arith))))))
      where
        there : (c : ℕ) (b : Bool) → ltb (group_of t) c ≡ b → is_less (order_of (get_or (terms_of R) (term_number R t) []) (c ∷ [])) ≡ b
        there c b e = rw (number_back (terms_of R) (terms_up_lem R) t m) (below_group t c some ∙ e)

        lower : (c : ℕ) → ltb (group_of t) c ≡ true → term_number R t < term_number R (c ∷ [])
        lower c e = rank_above order_of bytes_total (c ∷ []) (terms_of R) (term_number R t) [] (terms_up_lem R) (number_small (terms_of R) (terms_up_lem R) t m) (there c true e)

        upper : (c : ℕ) → ltb (group_of t) c ≡ false → term_number R (c ∷ []) ≤ term_number R t
        upper c e = rank_below order_of bytes_total (c ∷ []) (terms_of R) (term_number R t) [] (terms_up_lem R) (number_small (terms_of R) (terms_up_lem R) t m) (there c false e)

        inside : r.low ≤ term_number R t → term_number R t < r.high → (a : Bool) → ltb (group_of t) g ≡ a → (b : Bool) → ltb (group_of t) (suc g) ≡ b → group_of t ≡ g
        inside l u true e b f = absurd (omega (arith, lower g e))
        inside l u false e true f = omega (arith, ltb-false (group_of t) g e, ltb-true (group_of t) (suc g) f)
        inside l u false e false f = absurd (omega (arith, upper (suc g) f))

  module _ (k : Ruled R) (w : Limits R) where
    module _ {p : Page} {v : Held} (m : Memᴰ p R.pages) (n : Memᴰ v p.values) where
      there : (property_place R v.property < length R.properties) × ((get_or R.properties (property_place R v.property) undeclared).name ≡ v.property) × ((get_or R.properties (property_place R v.property) undeclared).kind ≡ kind_of v.value)
      there = place_known R.properties v.property (kind_of v.value) undeclared (value_kind R k m n)

      same_group : (x : Bytes) → property_place R x < length R.properties → eqb (group_of (value_term R v)) (suc (property_place R x)) ≡ same v.property x
      same_group x b =
          let g = suc (property_place R x) in
          same_truth (eqb (group_of (value_term R v)) g) (same v.property x)
          (λ e. let z : property_place R v.property ≡ property_place R x = omega (arith, eqb-true (group_of (value_term R v)) g e, value_group v) in
          let y : v.property ≡ x = sym there.1 ∙ ap (λ (j : ℕ). (get_or R.properties j undeclared).name) z ∙ place_named R.properties x undeclared b in
          ap (same v.property) (sym y) ∙ same_refl v.property)
          (λ e. eq-eqb (group_of (value_term R v)) g (value_group v ∙ ap (λ (y : Bytes). suc (property_place R y)) (same_eq v.property x e)))

      other_name : (x : Bytes) → length R.properties ≤ property_place R x → same v.property x ≡ false
      other_name x b = untrue (same v.property x) (λ e. omega (arith, there.0, ap (property_place R) (same_eq v.property x e)))

    -- The terms of a property that is not declared.
    pub none_declared : (x : Bytes) (r : TermRange) → length R.properties ≤ property_place R x → r.low ≡ 0 → r.high ≡ 0 → PropertyRange R x r
    none_declared x r b l h =
        record {
          categories = λ p y m n. empty_range r (term_number R (category_term R y)) l h;
          values = λ p v m n. empty_range r (term_number R (value_term R v)) l h ∙ sym (other_name m n x b);
          kinds = λ p v m n e. absurd (false≢true (sym (other_name m n x b) ∙ e));
          most = omega arith;
        }

    pub property_terms : (x : Bytes) (r : TermRange) → property_place R x < length R.properties → r.low ≡ rank order_of (suc (property_place R x) ∷ []) (terms_of R) → r.high ≡ rank order_of (suc (suc (property_place R x)) ∷ []) (terms_of R) → r.kind ≡ (get_or R.properties (property_place R x) undeclared).kind → PropertyRange R x r
    unfolding category_term value_term
    property_terms x r b low high kind =
        let g = suc (property_place R x) in
        record {
          categories = λ p y m n. within_group g r low high (category_term R y) (omega arith) (category_in m n) ∙ ne_eqb 0 g (λ e. omega arith);
          values = λ p v m n. within_group g r low high (value_term R v) (omega arith) (value_in m n) ∙ same_group m n x b;
          kinds = λ p v m n e. kind ∙ ap (λ (y : Bytes). (get_or R.properties (property_place R y) undeclared).kind) (sym (same_eq v.property x e)) ∙ (there m n).2;
          most = omega (arith, rank_most order_of bytes_total (suc g ∷ []) (terms_of R));
        }

    -- No page is in a category whose name is no text, or which has no term.
    none_in : (x : Bytes) (r : TermRange) → ((p : Page) (y : Bytes) → Memᴰ p R.pages → Memᴰ y p.categories → x ≡ y → ⊥) → r.low ≡ 0 → r.high ≡ 0 → CategoryRange R x r
    none_in x r other l h =
        record {
          categories = λ p y m n. empty_range r (term_number R (category_term R y)) l h ∙ sym (untrue (same x y) (λ e. other p y m n (same_eq x y e)));
          values = λ p v m n. empty_range r (term_number R (value_term R v)) l h;
          kinds = λ p v m n e. absurd (false≢true e);
          most = omega arith;
        }

    pub no_text_lem : (x : Bytes) (r : TermRange) → (Memᴰ (plain_text x) (texts_of R) → ⊥) → r.low ≡ 0 → r.high ≡ 0 → CategoryRange R x r
    no_text_lem x r absent l h = none_in x r (λ p y m n e. absent (Memᴰ.cast (ap plain_text e) (category_text R m n))) l h

    module _ (x : Bytes) (c : ℕ) (small : c < length (texts_of R)) (name : get_or (texts_of R) c [] ≡ plain_text x) where
      number_is : rank order_of (plain_text x) (texts_of R) ≡ c
      number_is = ap (λ (t : Bytes). rank order_of t (texts_of R)) (sym name) ∙ number_at (texts_of R) (texts_up R) c small

      term_is : category_term R x ≡ term_of 0 c
      unfolding category_term
      term_is = ap (term_of 0) number_is

      pub no_term : (r : TermRange) → (Memᴰ (term_of 0 c) (terms_of R) → ⊥) → r.low ≡ 0 → r.high ≡ 0 → CategoryRange R x r
      no_term r absent l h = none_in x r (λ p y m n e. absent (Memᴰ.cast (sym term_is ∙ ap (category_term R) e) (category_in m n))) l h

      module _ (f : ℕ) (below : f < length (terms_of R)) (term : get_or (terms_of R) f [] ≡ term_of 0 c) where
        rank_is : (t : Bytes) → Memᴰ t (terms_of R) → term_number R t ≡ f → t ≡ term_of 0 c
        rank_is t m e = sym (number_back (terms_of R) (terms_up_lem R) t m) ∙ ap (λ (j : ℕ). get_or (terms_of R) j []) e ∙ term

        same_name : (p : Page) (y : Bytes) → Memᴰ p R.pages → Memᴰ y p.categories → term_number R (category_term R y) ≡ f → x ≡ y
        same_name p y m n e =
            let number : rank order_of (plain_text y) (texts_of R) ≡ c = sym (category_code R k w m n) ∙ ap term_code (rank_is (category_term R y) (category_in m n) e) ∙ code_back 0 c (omega (arith, texts_few R w)) in
            let text : plain_text x ≡ plain_text y = sym name ∙ ap (λ (j : ℕ). get_or (texts_of R) j []) (sym number) ∙ number_back (texts_of R) (texts_up R) (plain_text y) (category_text R m n) in
            sym (name_back [] x) ∙ ap name_of text ∙ name_back [] y

        pub category_found : (r : TermRange) → r.low ≡ f → r.high ≡ f + 1 → CategoryRange R x r
        category_found r l h =
            record {
              categories = λ p y m n.
                  single_range r f (term_number R (category_term R y)) l h
                  ∙ same_truth (eqb (term_number R (category_term R y)) f) (same x y)
                  (λ e. ap (same x) (sym (same_name p y m n (eqb-true (term_number R (category_term R y)) f e))) ∙ same_refl x)
                  (λ e. eq-eqb (term_number R (category_term R y)) f (ap (λ (t : Bytes). term_number R t) (ap (category_term R) (sym (same_eq x y e)) ∙ term_is ∙ sym term) ∙ number_at (terms_of R) (terms_up_lem R) f below));
              values = λ p v m n.
                  single_range r f (term_number R (value_term R v)) l h
                  ∙ ne_eqb (term_number R (value_term R v)) f (λ e. let z : suc (property_place R v.property) ≡ 0 = sym (value_group v) ∙ ap group_of (rank_is (value_term R v) (value_in m n) e) in omega arith);
              kinds = λ p v m n e. absurd (false≢true e);
              most = omega arith;
            }

    -- Some page holds another kind: the property's is another, and it has a term.
    module _ (x : Bytes) (kind : Kind) (r : TermRange) (c : PropertyRange R x r) where
      abbrev other_than : Held → Bool
      other_than v = same v.property x && not (same_kind (kind_of v.value) kind)

      held_other : some_other R x kind ≡ true → (not (same_kind r.kind kind) && ltb r.low r.high) ≡ true
      unfolding some_other holds
      held_other h =
          let a = any_found (holds x (λ v. not (same_kind (kind_of v) kind))) R.pages h in
          let b = any_found other_than a.0.values a.2 in
          let t = and_true (same b.0.property x) (not (same_kind (kind_of b.0.value) kind)) b.2 in
          let i = term_number R (value_term R b.0) in
          let u = and_true (leb r.low i) (ltb i r.high) (c.values a.0 b.0 a.1 b.1 ∙ t.0) in
          both_true (ap (λ (l : Kind). not (same_kind l kind)) (c.kinds a.0 b.0 a.1 b.1 t.0) ∙ t.1)
          (lt-ltb r.low r.high (omega (arith, leb-true r.low i u.0, ltb-true i r.high u.1)))

      term_held : r.low < r.high → {p : Page} → Memᴰ p R.pages → TermFrom R p (get_or (terms_of R) r.low []) → not (same_kind r.kind kind) ≡ true → holds x (λ v. not (same_kind (kind_of v) kind)) p ≡ true
      unfolding holds
      term_held l {p} m from other = go from
        where
          first : within r (rank order_of (get_or (terms_of R) r.low []) (terms_of R)) ≡ true
          first =
              rw (number_at (terms_of R) (terms_up_lem R) r.low (omega (arith, c.most)))
              (both_true (le-leb r.low r.low (omega arith)) (lt-ltb r.low r.high l))

          go : TermFrom R p (get_or (terms_of R) r.low []) → any other_than p.values ≡ true
          go (TermFrom.category {x = y} n e) = absurd (false≢true (sym (c.categories p y m n) ∙ ap (λ (t : Bytes). within r (term_number R t)) (sym e) ∙ first))
          go (TermFrom.value {h = v} n e) =
              let named : same v.property x ≡ true = sym (c.values p v m n) ∙ ap (λ (t : Bytes). within r (term_number R t)) (sym e) ∙ first in
              any_mem other_than n (both_true named (ap (λ (l : Kind). not (same_kind l kind)) (sym (c.kinds p v m n named)) ∙ other))

      other_held : (not (same_kind r.kind kind) && ltb r.low r.high) ≡ true → some_other R x kind ≡ true
      unfolding some_other terms_of
      other_held h =
          let t = and_true (not (same_kind r.kind kind)) (ltb r.low r.high) h in
          let l = ltb-true r.low r.high t.1 in
          let q = of_flat (page_terms R) R.pages (of_sorted (flat_map (page_terms R) R.pages) (mem_at (terms_of R) r.low [] (omega (arith, c.most)))) in
          any_mem (holds x (λ v. not (same_kind (kind_of v) kind))) q.1 (term_held l q.1 (term_from_lem R q.0 q.2) t.0)

      pub other_is : (not (same_kind r.kind kind) && ltb r.low r.high) ≡ some_other R x kind
      other_is = same_truth (not (same_kind r.kind kind) && ltb r.low r.high) (some_other R x kind) other_held held_other
