-- The meaning of core queries on sets, as the thesis writes it: 4.3.1, 4.3.2 and 4.5.1 to 4.5.3. That the meaning page by page
-- (Semantics.antt) is membership in these sets is proved: `page_set_lem` and `page_set_known`.
use Rattle.std.specs.Prelude.{◌≡◌, true, cond, ◌⊎◌, ◌≢◌, Some, None}
use mathlib.Core.List.{List, [], ◌∷◌, Memᴰ}
use Rattle.std.proofs.Math.Option.{Option, some, none, IsSome}
use Rattle.text.specs.Bytes.{Bytes, order_of}
use Rattle.std.specs.declared.cmp.Ordering.{Ordering}
use Rattle.values.specs.Names.{Identifier, Reference, same_identifier}
use Rattle.values.specs.Values.{Constant, Value, plain, link, order_constants}
use Rattle.language.specs.Register as Registers
use Rattle.language.specs.Register.{Register}
use Rattle.language.specs.Core.{Selector, Core}
use Rattle.language.specs.Comparators.{strictly, or_equal}
use Rattle.language.specs.References.{namespace_meant, article_meant}
use Rattle.language.specs.declared.Comparator.{Comparator}
use Rattle.language.specs.declared.SurfaceComparator.{SurfaceComparator}

-- A set is a predicate: of each thing, that it is an element.
abbrev pub 𝒫 : Type 0 → Type 1
𝒫 A = A → Type 0

module _ {A : Type 0} where
  infix 4 ◌∈◌
  abbrev pub ◌∈◌ : A → 𝒫 A → Type 0
  a ∈ X = X a

  infixl 20 ◌∪◌ ◌∩◌
  abbrev pub ◌∪◌ : 𝒫 A → 𝒫 A → 𝒫 A
  ◌∪◌ X Y a = (a ∈ X) ⊎ (a ∈ Y)

  abbrev pub ◌∩◌ : 𝒫 A → 𝒫 A → 𝒫 A
  ◌∩◌ X Y a = (a ∈ X) × (a ∈ Y)

  -- { a ∈ X | P a }
  infix 10 ◌∣◌
  abbrev pub ◌∣◌ : 𝒫 A → (A → Type 0) → 𝒫 A
  ◌∣◌ X P a = (a ∈ X) × P a

  -- X ≠ ∅: there is an element.
  infix 4 ◌≠∅
  abbrev pub ◌≠∅ : 𝒫 A → Type 0
  X ≠∅ = (a : A) × (a ∈ X)

-- 4.3.1. CVal + CIdent is `Value`.
pub record Page : Type 1 where
  pub cats : 𝒫 Bytes
  pub props : Bytes → 𝒫 Value

-- 4.3.2, a partial function: none is ⊥. The Option is that of proofs: a page's sets are too large for Rust's.
abbrev pub Database : Type 1
Database = Identifier → Option Page

abbrev pub dom : Database → 𝒫 Identifier
dom D i = IsSome (D i)

-- cats and props of `D i`. Of ⊥ they are empty; 4.5.3 asks only for i in dom D.
abbrev pub cats : Option Page → 𝒫 Bytes
cats none x = ⊥
cats (some p) x = x ∈ p.cats

abbrev pub props : Option Page → Bytes → 𝒫 Value
props none x v = ⊥
props (some p) x v = v ∈ p.props x

-- A set of values, as the set of the identifiers in it.
abbrev pub idents : 𝒫 Value → 𝒫 Identifier
idents X i = link i ∈ X

-- The four lines of 4.5.1, which are those of 4.5.2, of two things whose order is o.
abbrev pub compares : {A : Type 0} → Comparator → A → A → Ordering → Type 0
compares Comparator.Equal x y o = x ≡ y
compares Comparator.Unequal x y o = x ≢ y
compares Comparator.Greater x y o = o ≡ Ordering.Greater
compares Comparator.Less x y o = o ≡ Ordering.Less

-- 4.5.1.
abbrev pub Ca : Comparator → Bytes → Bytes → Type 0
Ca ω x y = compares ω x y (order_of x y)

-- 4.5.2, that C_v is defined and true: the two have an order where they are of one kind.
abbrev pub Cv : Comparator → Constant → Constant → Type 0
Cv ω v w = (o : Ordering) × (order_constants v w ≡ Some o) × compares ω v w o

-- 5.3.1, a comparator as written: as it says strictly, or equal where it adds that.
abbrev pub compares_as : {A : Type 0} → SurfaceComparator → A → A → Ordering → Type 0
compares_as ω x y o = compares (strictly ω) x y o ⊎ ((or_equal ω ≡ true) × (x ≡ y))

-- The identifiers that a reference means.
abbrev pub meant : SurfaceComparator → Reference → 𝒫 Identifier
meant ω r i =
    ((n : Bytes) → namespace_meant ω r ≡ Some n → i.namespace ≡ n)
    × compares_as ω i.article (article_meant r) (order_of i.article (article_meant r))

-- 4.5.3: S, that the identifier matches the selector, and Q, the page set.
unfoldable mutual
  pub matches : Selector → Identifier → Database → Type 0
  matches (Selector.category x) i D = x ∈ cats (D i)
  matches (Selector.namespace x) i D = i.namespace ≡ x
  matches (Selector.existence x) i D = props (D i) x ≠∅
  matches (Selector.subquery x q) i D = idents (props (D i) x) ∩ page_set q D ≠∅
  matches (Selector.article ω x) i D = Ca ω i.article x
  matches (Selector.link x ω r) i D = idents (props (D i) x) ∩ meant ω r ≠∅
  matches (Selector.value x ω w) i D = (v : Constant) × (plain v ∈ props (D i) x) × Cv ω v w

  pub page_set : Core → Database → 𝒫 Identifier
  page_set (Core.conjunction a b) D = page_set a D ∩ page_set b D
  page_set (Core.disjunction a b) D = page_set a D ∪ page_set b D
  page_set (Core.select s) D = dom D ∣ λ i. matches s i D

-- A page of a register, as the thesis has it.
abbrev pub page_of : Registers.Page → Page
page_of p = record { cats = λ x. Memᴰ x p.categories; props = λ x v. Memᴰ (record { property = x; value = v }) p.values }

-- The page that has the identifier; in a register there are no two.
unfoldable pub page_named : List Registers.Page → Database
page_named [] i = none
page_named (p ∷ l) i = cond (same_identifier p.identifier i) (some (page_of p)) (page_named l i)

-- The database of a register.
abbrev pub database_of : Register → Database
database_of R = page_named R.pages
