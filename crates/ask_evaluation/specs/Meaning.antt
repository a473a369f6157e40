-- Working definitions: what evaluating the nodes of a held query answers.
use Rattle.std.specs.Prelude.{ℕ, ◌≤◌, ◌<◌, ◌≡◌, Bool, true, false, ◌&&◌, ◌||◌, List, [], ◌∷◌, ltb, length, get_or, Option, Some, None}
use Rattle.text.specs.Bytes.{Bytes, same, any}
use Rattle.text.specs.Parts.{part_of}
use Rattle.text.specs.Table.{tabulate}
use Rattle.text.specs.declared.Span.{Span}
use Rattle.values.specs.Answers.{split_of}
use Rattle.pageset.specs.Marks.{marks_from}
use Rattle.language.specs.Answer.{◌>>=◌}
use Rattle.language.specs.Core.{Core}
use Rattle.language.specs.Register.{Page, Register, holds}
use Rattle.language.specs.Semantics.{Ca, Cv, Cl, follows, no_mixed, selects}
use Rattle.query_core.specs.Stack.{stack_at}
use Rattle.query_core.specs.Held.{heap_in}
use Rattle.query_core.specs.Postfix.{stepped}
use Rattle.query_core.specs.Reading.{constant_by, selector_by}
use Rattle.query_core.specs.declared.Selector.{Selector}
use Rattle.query_core.specs.declared.Connective.{Connective}
use Rattle.register_form.specs.Opened.{page_in, Opened}
use Rattle.register_form_view.specs.View.{marks_in, Agrees}
use Rattle.ask_evaluation.specs.declared.Evaluated.{Evaluated}

-- A number of pages, as far as a page set has places.
pub record Capped (n r : ℕ) : Type 0 where
  pub places : r ≤ 256
  pub below : r ≤ n
  pub is : n ≤ 256 → r ≡ n

-- The name that a selector carries.
abbrev pub name_span : Selector → Span
name_span (Selector.Category p) = p
name_span (Selector.Namespace p) = p
name_span (Selector.Existence p) = p
name_span (Selector.Subquery p) = p
name_span (Selector.Article c p) = p
name_span (Selector.Value p c v) = p
name_span (Selector.Link p c r) = p

abbrev pub is_subquery : Selector → Bool
is_subquery (Selector.Category p) = false
is_subquery (Selector.Namespace p) = false
is_subquery (Selector.Existence p) = false
is_subquery (Selector.Subquery p) = true
is_subquery (Selector.Article c p) = false
is_subquery (Selector.Value p c v) = false
is_subquery (Selector.Link p c r) = false

abbrev pub is_selection : Connective → Bool
is_selection Connective.And = false
is_selection Connective.Or = false
is_selection Connective.Select = true

-- A page matches a selector with the name x, whose string lies in q; inner is what its subquery asks.
abbrev pub matches : Bytes → Bytes → Register → (Page → Bool) → Selector → Page → Bool
matches q x R inner (Selector.Category p) page = any (same x) page.categories
matches q x R inner (Selector.Namespace p) page = same page.identifier.namespace x
matches q x R inner (Selector.Existence p) page = holds x (λ v. true) page
matches q x R inner (Selector.Subquery p) page = holds x (follows no_mixed R inner) page
matches q x R inner (Selector.Article c p) page = Ca c page.identifier.article x
matches q x R inner (Selector.Value p c v) page = holds x (Cv no_mixed c (constant_by q v)) page
matches q x R inner (Selector.Link p c r) page = holds x (Cl no_mixed c (split_of q r)) page

-- How many pages a register has.
abbrev pub pages_of : Register → ℕ
pages_of R = length R.pages

-- The marks of the pages that match, where the set's marks are what the subquery selects.
unfoldable pub Selects : Bytes → List ℕ → Bytes → Selector → List Bool → List Bool → Type 0
Selects h places q selector set marks =
    (R : Register) → Opened h places R → (inner : Page → Bool) → Agrees R set inner → marks ≡ marks_in R (matches q (part_of q (name_span selector)) R inner selector)

-- Two sets joined by a connective.
abbrev pub Joined : Connective → List Bool → List Bool → List Bool → Type 0
Joined Connective.And a b r = r ≡ tabulate 256 (λ i. get_or a i false && get_or b i false)
Joined Connective.Or a b r = r ≡ tabulate 256 (λ i. get_or a i false || get_or b i false)
Joined Connective.Select a b r = Unit {0}

-- The pages that a core query selects, of the first n.
unfoldable pub marks_of : Register → ℕ → Core → List Bool
marks_of R n c = tabulate 256 (λ i. ltb i n && selects c R (page_in R i))

-- The last query on the stack, where there is one, means the set; the stack without it is the one in the place next, before at.
unfoldable pub Means : Register → ℕ → Bytes → ℕ → Option (List Core) → Evaluated → Type 0
Means R n q at None r = Unit {0}
Means R n q at (Some []) r = Unit {0}
Means R n q at (Some (c ∷ st)) r = (marks_from r.set.words ≡ marks_of R n c) × (stack_at q r.next ≡ Some st) × (r.next < at)

unfoldable pub Evaluates : Bytes → List ℕ → Bytes → ℕ → Option (List Core) → Evaluated → Type 0
Evaluates h places q at o r = (R : Register) → Opened h places R → Means R (length R.pages) q at o r

-- The stack behind a selector, before which it is the one in the place at.
abbrev pub stack_with : Bytes → ℕ → Selector → Option (List Core)
stack_with q at selector = stack_at q at >>= stepped (selector_by (heap_in q) selector)
