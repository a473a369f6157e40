-- The direct meaning of a query, page by page, with no core query in it. Document 01, "Text to core", its last paragraph.
use Rattle.std.specs.Prelude.{Bool, true, false, cond, ◌&&◌, ◌||◌, List, map, Option, Some, None}
use Rattle.text.specs.Bytes.{Bytes, same, any}
use Rattle.values.specs.declared.Kind.{Kind}
use Rattle.values.specs.Names.{Reference, reference, is_reference, composed_reference}
use Rattle.values.specs.Values.{Constant, Value, plain, link, order_constants, read_constant}
use Rattle.language.specs.Answer.{Answer, refused, accepted, found}
use Rattle.language.specs.References.{stands_as, is_meant}
use Rattle.language.specs.Register.{Page, Register, kinds_of, holds, leads}
use Rattle.language.specs.Surface.{Chain, single, chain, Categories, Identifiers, Alternatives, Query}
use Rattle.language.specs.QueryText.{read_text}
use Rattle.language.specs.declared.SurfaceComparator.{SurfaceComparator}

-- A reference, of the page's own identifier.
abbrev pub means_reference : SurfaceComparator → Reference → Page → Bool
means_reference c r p = is_meant c r p.identifier

unfoldable pub means_identifiers : Identifiers → Page → Bool
means_identifiers (Identifiers.namespace n) p = same p.identifier.namespace n
means_identifiers (Identifiers.reference c r) p = means_reference c r p
means_identifiers (Identifiers.either a b) p = means_identifiers a p || means_identifiers b p

-- "A category wants the page in it"
unfoldable pub means_categories : Categories → Page → Bool
means_categories (Categories.one x) p = any (same x) p.categories
means_categories (Categories.either a b) p = means_categories a p || means_categories b p

-- "a value that stands to it as its comparator says, both read by the property's kind"
unfoldable pub stands_to : SurfaceComparator → Constant → Value → Bool
stands_to c v (plain w) = found (order_constants w v) (stands_as c) false
stands_to c v (link i) = false

-- A link that the reference means, "page or no page".
unfoldable pub means_link : SurfaceComparator → Reference → Value → Bool
means_link c r (plain w) = false
means_link c r (link i) = is_meant c r i

unfoldable pub means_value : Bytes → SurfaceComparator → Bytes → Option Kind → Page → Bool
means_value x c v None p = false
means_value x c v (Some Kind.Page) p =
    cond (is_reference (reference v)) (holds x (means_link c (composed_reference (reference v))) p) false
means_value x c v (Some (Kind.Scalar k)) p = found (read_constant (Kind.Scalar k) v) (λ w. holds x (stands_to c w) p) false
means_value x c v (Some Kind.String) p = found (read_constant Kind.String v) (λ w. holds x (stands_to c w) p) false

-- "a chain `a.p` wants a link under `a` to one that the rest selects"
unfoldable pub means_chain : Register → Chain → (Bytes → Page → Bool) → Page → Bool
means_chain R (single x) f p = f x p
means_chain R (chain x c) f p = holds x (leads R (means_chain R c f)) p

unfoldable mutual
  pub means_in : Alternatives → Register → Bytes → Page → Bool
  means_in Alternatives.existence R x p = holds x (λ v. true) p
  means_in (Alternatives.value c v) R x p = means_value x c v (kinds_of R x) p
  means_in (Alternatives.subquery q) R x p = holds x (leads R (λ p. means q R p)) p
  means_in (Alternatives.either a b) R x p = means_in a R x p || means_in b R x p

  -- "OR and `||` want one side, a conjunction all its terms, `<q>` its query."
  pub means : Query → Register → Page → Bool
  means (Query.category c) R p = means_categories c p
  means (Query.identifier i) R p = means_identifiers i p
  means (Query.property c a) R p = means_chain R c (λ x p. means_in a R x p) p
  means (Query.disjunction a b) R p = means a R p || means b R p
  means (Query.conjunction a b) R p = means a R p && means b R p

-- "The direct meaning takes the query text and the register of the run."
abbrev pub means_answer : Answer Query → Register → Page → Bool
means_answer (refused n) R p = false
means_answer (accepted q) R p = means q R p

unfoldable pub meaning : Bytes → Register → Page → Bool
meaning s R p = means_answer (read_text s) R p

-- A truth value a page, in place order.
abbrev pub direct_marks : Bytes → Register → List Bool
direct_marks s R = map (meaning s R) R.pages
