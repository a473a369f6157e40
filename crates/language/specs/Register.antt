-- Registers: properties with their kinds, and pages. Thesis 4.3.1, 4.3.2, 4.4.2; document 01, "The register text".
use Rattle.std.specs.Prelude.{◌≤◌, ◌≡◌, Bool, true, false, cond, not, ◌&&◌, List, [], ◌∷◌, length, Option, Some, None}
use Rattle.text.specs.Bytes.{Bytes, same, any, all}
use Rattle.values.specs.declared.Kind.{Kind}
use Rattle.values.specs.Names.{Identifier, same_identifier}
use Rattle.values.specs.Values.{Value, plain, link, kind_of, same_kind}

-- A declared property.
pub record Property : Type 0 where
  pub name : Bytes
  pub kind : Kind

-- A value that a page holds, and the property that it holds it under.
pub record Held : Type 0 where
  pub property : Bytes
  pub value : Value

-- A page: its categories and values are sets, each once, in the order first written.
pub record Page : Type 0 where
  pub identifier : Identifier
  pub categories : List Bytes
  pub values : List Held

-- Properties and pages in line order: "Page places count from 0 in line order."
pub record Register : Type 0 where
  pub properties : List Property
  pub pages : List Page

-- Which kind a property has, if it is declared (thesis 4.4.2, where every property is).
abbrev pub Typing : Type 0
Typing = Bytes → Option Kind

unfoldable pub kind_among : List Property → Typing
kind_among [] x = None
kind_among (p ∷ l) x = cond (same p.name x) (Some p.kind) (kind_among l x)

abbrev pub kinds_of : Register → Typing
kinds_of R = kind_among R.properties

-- The kind is declared, and is k.
abbrev pub has_kind : Option Kind → Kind → Bool
has_kind None k = false
has_kind (Some l) k = same_kind l k

-- The page holds, under the property x, a value that passes the test.
unfoldable pub holds : Bytes → (Value → Bool) → Page → Bool
holds x test page = any (λ h. same h.property x && test h.value) page.values

-- The value is a link, and leads to a page of the register that passes the test.
unfoldable pub leads : Register → (Page → Bool) → Value → Bool
leads R test (plain c) = false
leads R test (link i) = any (λ page. same_identifier page.identifier i && test page) R.pages

-- Every value has its property's kind.
unfoldable pub kinds_hold : Register → Bool
kinds_hold R = all (λ page. all (λ h. has_kind (kinds_of R h.property) (kind_of h.value)) page.values) R.pages

-- No two elements are alike.
unfoldable pub distinct : {A : Type 0} → (A → A → Bool) → List A → Bool
distinct alike [] = true
distinct alike (a ∷ l) = not (any (alike a) l) && distinct alike l

abbrev pub same_property : Property → Property → Bool
same_property p q = same p.name q.name

abbrev pub same_page : Page → Page → Bool
same_page p q = same_identifier p.identifier q.identifier

-- What accepted texts give: see `accepted_sound`.
pub record Sound (R : Register) : Type 0 where
  pub kinds : kinds_hold R ≡ true
  pub properties_once : distinct same_property R.properties ≡ true
  pub pages_once : distinct same_page R.pages ≡ true
  pub few_properties : length R.properties ≤ 64
  pub few_pages : length R.pages ≤ 256
