-- The join of two registers is a register, and what it holds. Request 9, "Two regions join".
use Rattle.std.specs.Prelude.{Option, Some, None}
use Prim.Native.Nat.{ℕ, ◌+◌, ◌≤◌, ◌<◌}
use mathlib.Core.Path.{◌≡◌, refl, sym, ap, ap₂, ◌∙◌}
use mathlib.Core.Bool.{Bool, true, false, cond, ◌&&◌, ◌||◌, false≢true}
use mathlib.Core.List.{List, [], ◌∷◌, ◌++◌, map, append-nil, Memᴰ}
use native.Mathlib.Omega.{arith}
use borrow.Author.Tests.{not-false}
use lib.ListN.{length, get_or, length-append, length-map, get_or-append}
use lib.Seq.{get_or-append-add}
use Rattle.text.specs.Bytes.{Bytes, same, any, all}
use Rattle.text.proofs.Laws.{same_eq, all_append}
use Rattle.values.specs.declared.Kind.{Kind}
use Rattle.names.specs.Names.{is_composed_name, is_composed_property_name}
use Rattle.values.specs.Names.{same_identifier}
use Rattle.values.specs.Values.{Value, kind_of, map_option}
use Rattle.language.specs.Answer.{found}
use Rattle.language.specs.Register.{Property, Held, Page, Register, kind_among, kinds_of, has_kind, holds, kinds_hold, distinct, same_property, same_page}
use Rattle.language.specs.RegisterText.{same_held}
use Rattle.language.specs.Rules.{is_storable, is_page, is_within_limits, is_register}
use Rattle.language.specs.Joining.{only_in, union, like_in, join_page, joined_with, join, empty_register, is_other_kind, kinds_clash}
use Rattle.language.proofs.Options.{OnSome}
use Rattle.language.proofs.Members.{or_false, both_true, all_at, all_of, all_map, map_itself, get_d_mapped}
use Rattle.language.proofs.Rules.{page_rules, rules_page, register_rules, rules_register}
use Rattle.values.proofs.Sameness.{kind_eq}
use Rattle.language.proofs.Unions.{only_all, union_all, union_distinct, only_beside_none, only_self, union_self, like_found, like_self, any_union, like_union, like_likewise, only_kept, like_kept, distinct_kept}
use Rattle.language.proofs.Sameness.{same_decides, same_held_decides, same_likeness, same_held_likeness, same_property_likeness, same_page_likeness}

-- What a page in both holds: what either page does.
module _ (p q : Page) where
  pub joined_categories : (test : Bytes → Bool) → any test (join_page p q).categories ≡ any test p.categories || any test q.categories
  joined_categories test = any_union same test (λ a b e. ap test (same_decides.equal a b e)) p.categories q.categories

  pub joined_values : (test : Held → Bool) → any test (join_page p q).values ≡ any test p.values || any test q.values
  joined_values test = any_union same_held test (λ a b e. ap test (same_held_decides.equal a b e)) p.values q.values

  pub joined_holds : (x : Bytes) (test : Value → Bool) → holds x test (join_page p q) ≡ holds x test p || holds x test q
  unfolding holds
  joined_holds x test = joined_values (λ h. same h.property x && test h.value)

  pub joined_page : is_page p ≡ true → is_page q ≡ true → is_page (join_page p q) ≡ true
  joined_page g h =
      let r = page_rules p g in
      let s = page_rules q h in
      rules_page (join_page p q)
      (record {
        identifier = r.identifier;
        categories = union_all same is_composed_name p.categories q.categories r.categories s.categories;
        categories_once = union_distinct same_likeness p.categories q.categories r.categories_once s.categories_once;
        values = union_all same_held (λ h. is_storable h.value) p.values q.values r.values s.values;
        values_once = union_distinct same_held_likeness p.values q.values r.values_once s.values_once;
      })

-- A page with what the pages m have of it is that page, or the join of it and one of m.
joined_with_lem : (P : Page → Type 0) (m : List Page) (p : Page) → P p → ((q : Page) → Memᴰ q m → P (join_page p q)) → P (joined_with m p)
unfolding joined_with
joined_with_lem P m p a b = go (like_in same_page p m) (like_found same_page p m)
  where
    go : (o : Option Page) → OnSome (λ q. Memᴰ q m × (same_page p q ≡ true)) o → P (found o (join_page p) p)
    go None h = a
    go (Some q) h = b q h.0

pub joined_identifier : (m : List Page) (p : Page) → (joined_with m p).identifier ≡ p.identifier
joined_identifier m p = joined_with_lem (λ r. r.identifier ≡ p.identifier) m p refl (λ q i. refl)

joined_like : (m : List Page) (p q : Page) → same_page p (joined_with m q) ≡ same_page p q
joined_like m p q = ap (same_identifier p.identifier) (joined_identifier m q)

-- A property's kind is that of the property found by its name. The kind of the sought one does not matter.
abbrev named : Bytes → Property
named x = record { name = x; kind = Kind.Page }

abbrev kind_in : Option Property → Option Kind
kind_in o = map_option (λ p. p.kind) o

kind_found : (x : Bytes) (l : List Property) → kind_among l x ≡ kind_in (like_in same_property (named x) l)
unfolding kind_among like_in
kind_found x [] = refl
kind_found x (p ∷ l) = rw (same_property_likeness.turned p (named x)) (go (same x p.name) (kind_found x l))
  where
    go : (c : Bool) → kind_among l x ≡ kind_in (like_in same_property (named x) l) → cond c (Some p.kind) (kind_among l x) ≡ kind_in (cond c (Some p) (like_in same_property (named x) l))
    go true h = refl
    go false h = h

-- What is in one of two places, or what f makes of both.
abbrev pub in_either : {A : Type 0} → (A → A → A) → Option A → Option A → Option A
in_either f None o = o
in_either f (Some a) None = Some a
in_either f (Some a) (Some b) = Some (f a b)

module _ (R S : Register) where
  -- The kind that the first register gives a property, else that of the second.
  pub kinds_joined : (x : Bytes) → kinds_of (join R S) x ≡ found (kinds_of R x) Some (kinds_of S x)
  unfolding join
  kinds_joined x =
      kind_found x (union same_property R.properties S.properties)
      ∙ ap kind_in (like_union same_property_likeness (named x) R.properties S.properties)
      ∙ go (like_in same_property (named x) R.properties) (like_in same_property (named x) S.properties)
      ∙ sym (ap₂ (λ k l. found k Some l) (kind_found x R.properties) (kind_found x S.properties))
    where
      go : (o w : Option Property) → kind_in (found o Some w) ≡ found (kind_in o) Some (kind_in w)
      go None w = refl
      go (Some p) w = refl

  -- Where the kinds do not clash, the second register gives no other kind than the first.
  pub no_clash : kinds_clash R S ≡ false → (x : Bytes) → OnSome (λ k. is_other_kind k (kinds_of S x) ≡ false) (kinds_of R x)
  unfolding kinds_clash kind_among any
  no_clash clear x = among R.properties clear
    where
      among : (l : List Property) → any (λ p. is_other_kind p.kind (kinds_of S p.name)) l ≡ false → OnSome (λ k. is_other_kind k (kinds_of S x) ≡ false) (kind_among l x)
      among [] h = tt
      among (p ∷ l) h =
          let t = or_false (is_other_kind p.kind (kinds_of S p.name)) (any (λ p. is_other_kind p.kind (kinds_of S p.name)) l) h in
          go (same p.name x) refl t.0 (among l t.1)
        where
          go : (c : Bool) → same p.name x ≡ c → is_other_kind p.kind (kinds_of S p.name) ≡ false → OnSome (λ k. is_other_kind k (kinds_of S x) ≡ false) (kind_among l x)
              → OnSome (λ k. is_other_kind k (kinds_of S x) ≡ false) (cond c (Some p.kind) (kind_among l x))
          go true e n i = ap (λ y. is_other_kind p.kind (kinds_of S y)) (sym (same_eq p.name x e)) ∙ n
          go false e n i = i

  -- A kind in either register is that in the join.
  kind_first : (x : Bytes) (k : Kind) → has_kind (kinds_of R x) k ≡ true → has_kind (kinds_of (join R S) x) k ≡ true
  kind_first x k h = rw (kinds_joined x) (go (kinds_of R x) h)
    where
      go : (o : Option Kind) → has_kind o k ≡ true → has_kind (found o Some (kinds_of S x)) k ≡ true
      go None h = absurd (false≢true h)
      go (Some j) h = h

  kind_second : kinds_clash R S ≡ false → (x : Bytes) (k : Kind) → has_kind (kinds_of S x) k ≡ true → has_kind (kinds_of (join R S) x) k ≡ true
  kind_second clear x k h = rw (kinds_joined x) (go (kinds_of R x) (kinds_of S x) (no_clash clear x) h)
    where
      go : (o w : Option Kind) → OnSome (λ j. is_other_kind j w ≡ false) o → has_kind w k ≡ true → has_kind (found o Some w) k ≡ true
      go None w n h = h
      go (Some j) None n h = absurd (false≢true h)
      go (Some j) (Some l) n h = rw (kind_eq j l (not-false _ n)) h

  -- A test that each page of both passes, and the join of two that pass it, is passed by each page of the join.
  pub joined_all : (test : Page → Bool) → all test R.pages ≡ true → all test S.pages ≡ true
      → ((p q : Page) → test p ≡ true → test q ≡ true → test (join_page p q) ≡ true) → all test (join R S).pages ≡ true
  unfolding join
  joined_all test g h both =
      all_append test (map (joined_with S.pages) R.pages) (only_in same_page R.pages S.pages)
      ∙ both_true
      (all_map test (joined_with S.pages) R.pages (λ p i. joined_with_lem (λ r. test r ≡ true) S.pages p (all_at test g i) (λ q j. both p q (all_at test g i) (all_at test h j))))
      (only_all same_page test R.pages S.pages h)

  kinds_hold_lem : kinds_hold R ≡ true → kinds_hold S ≡ true → kinds_clash R S ≡ false → kinds_hold (join R S) ≡ true
  unfolding kinds_hold
  kinds_hold_lem g h clear =
      joined_all (λ p. all right p.values)
      (all_of _ R.pages (λ p i. all_of right p.values (λ v j. kind_first v.property (kind_of v.value) (all_at _ (all_at _ g i) j))))
      (all_of _ S.pages (λ p i. all_of right p.values (λ v j. kind_second clear v.property (kind_of v.value) (all_at _ (all_at _ h i) j))))
      (λ p q a b. union_all same_held right p.values q.values a b)
    where
      right : Held → Bool
      right v = has_kind (kinds_of (join R S) v.property) (kind_of v.value)

  -- The pages are a union, as the properties are.
  pub join_pages_lem : (join R S).pages ≡ union same_page (map (joined_with S.pages) R.pages) S.pages
  unfolding join
  join_pages_lem =
      ap (λ m. map (joined_with S.pages) R.pages ++ m) (sym (only_kept same_page_likeness (joined_with S.pages) (joined_like S.pages) R.pages S.pages))

  pages_once_lem : distinct same_page R.pages ≡ true → distinct same_page S.pages ≡ true → distinct same_page (join R S).pages ≡ true
  pages_once_lem g h =
      rw join_pages_lem
      (union_distinct same_page_likeness (map (joined_with S.pages) R.pages) S.pages (distinct_kept same_page_likeness (joined_with S.pages) (joined_like S.pages) R.pages ∙ g) h)

  -- The page like a given one: the join of those of both, or the page of the one register that has it.
  pub pages_joined : (a : Page) → like_in same_page a (join R S).pages ≡ in_either join_page (like_in same_page a R.pages) (like_in same_page a S.pages)
  unfolding joined_with
  pages_joined a =
      ap (like_in same_page a) join_pages_lem
      ∙ like_union same_page_likeness a (map (joined_with S.pages) R.pages) S.pages
      ∙ ap (λ o. found o Some (like_in same_page a S.pages)) (like_kept same_page_likeness (joined_with S.pages) (joined_like S.pages) a R.pages)
      ∙ first (like_in same_page a R.pages) (like_found same_page a R.pages)
    where
      second : (p : Page) (o : Option Page) → Some (found o (join_page p) p) ≡ in_either join_page (Some p) o
      second p None = refl
      second p (Some q) = refl

      first : (o : Option Page) → OnSome (λ p. Memᴰ p R.pages × (same_page a p ≡ true)) o
          → found (map_option (joined_with S.pages) o) Some (like_in same_page a S.pages) ≡ in_either join_page o (like_in same_page a S.pages)
      first None h = refl
      first (Some p) h = rw (like_likewise same_page_likeness a p S.pages h.1) (second p (like_in same_page p S.pages))

  -- Two registers whose kinds do not clash join to a register, if that is within the limits.
  pub join_register : is_register R ≡ true → is_register S ≡ true → kinds_clash R S ≡ false → is_within_limits (join R S) ≡ true → is_register (join R S) ≡ true
  unfolding join
  join_register g h clear fits =
      let r = register_rules R g in
      let s = register_rules S h in
      rules_register (join R S)
      (record {
        properties = union_all same_property (λ p. is_composed_property_name p.name) R.properties S.properties r.properties s.properties;
        pages = joined_all is_page r.pages s.pages joined_page;
        properties_once = union_distinct same_property_likeness R.properties S.properties r.properties_once s.properties_once;
        pages_once = pages_once_lem r.pages_once s.pages_once;
        kinds = kinds_hold_lem r.kinds s.kinds clear;
        limits = fits;
      })

  -- "Pages of the first keep their places".
  pub join_longer : length R.pages ≤ length (join R S).pages
  unfolding join
  join_longer = simp (length-append, length-map) (omega arith)

  module _ (i : ℕ) (d : Page) where
    -- In a place of the first is its page, with what the second has of it; behind them are those only in the second.
    pub join_first : i < length R.pages → get_or (join R S).pages i d ≡ joined_with S.pages (get_or R.pages i d)
    unfolding join
    join_first h =
        get_or-append (map (joined_with S.pages) R.pages) (only_in same_page R.pages S.pages) d i (rw (length-map R.pages (joined_with S.pages)) h)
        ∙ get_d_mapped (joined_with S.pages) R.pages i d d h

    pub join_second : get_or (join R S).pages (length R.pages + i) d ≡ get_or (only_in same_page R.pages S.pages) i d
    unfolding join
    join_second =
        ap (λ n. get_or (join R S).pages (n + i) d) (sym (length-map R.pages (joined_with S.pages)))
        ∙ get_or-append-add (map (joined_with S.pages) R.pages) (only_in same_page R.pages S.pages) i d

    pub join_places : i < length R.pages → (get_or (join R S).pages i d).identifier ≡ (get_or R.pages i d).identifier
    join_places h = ap (λ (p : Page). p.identifier) (join_first h) ∙ joined_identifier S.pages (get_or R.pages i d)

-- The empty register changes nothing, and neither does the same register.
pub join_empty_right : (R : Register) → join R empty_register ≡ R
unfolding join only_in joined_with like_in
join_empty_right R =
    λ k. record { properties = append-nil R.properties k; pages = (append-nil (map (joined_with []) R.pages) ∙ map_itself (joined_with []) R.pages (λ p i. refl)) k }

pub join_empty_left : (R : Register) → join empty_register R ≡ R
unfolding join
join_empty_left R = λ k. record { properties = only_beside_none same_property R.properties k; pages = only_beside_none same_page R.pages k }

pub join_self : (R : Register) → is_register R ≡ true → join R R ≡ R
unfolding join joined_with
join_self R h = λ k. record { properties = union_self same_property_likeness R.properties k; pages = pages k }
  where
    page : (p : Page) → join_page p p ≡ p
    page p = λ k. record { identifier = p.identifier; categories = union_self same_likeness p.categories k; values = union_self same_held_likeness p.values k }

    kept : (p : Page) → Memᴰ p R.pages → joined_with R.pages p ≡ p
    kept p i = rw (like_self same_page_likeness R.pages (register_rules R h).pages_once i) (page p)

    pages : map (joined_with R.pages) R.pages ++ only_in same_page R.pages R.pages ≡ R.pages
    pages = ap₂ ◌++◌ (map_itself (joined_with R.pages) R.pages kept) (only_self same_page_likeness R.pages) ∙ append-nil R.pages
