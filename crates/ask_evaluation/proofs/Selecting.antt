-- The ways through `select`, by the selector.
use Prim.Native.Nat.{ℕ}
use mathlib.Core.Path.{◌≡◌}
use mathlib.Core.Bool.{Bool, true}
use mathlib.Core.List.{List}
use Rattle.text.specs.Bytes.{Bytes, same, any}
use Rattle.text.specs.Parts.{part_of}
use Rattle.text.specs.declared.Span.{Span}
use Rattle.language.specs.Register.{Page, Register, holds}
use Rattle.language.specs.Semantics.{follows, no_mixed}
use Rattle.language.specs.declared.Comparator.{Comparator}
use Rattle.language.specs.declared.SurfaceComparator.{SurfaceComparator}
use Rattle.values.specs.declared.Split.{Split}
use Rattle.query_core.specs.declared.Selector.{Selector}
use Rattle.query_core.specs.declared.Constant.{Constant}
use Rattle.register_form.specs.Opened.{Opened}
use Rattle.register_form_view.specs.View.{passes, name_passes, marks_in, Agrees}
use Rattle.register_form_view.specs.declared.NameTest.{NameTest}
use Rattle.register_form_view.specs.declared.ValueTest.{ValueTest}
use Rattle.ask_evaluation.specs.Meaning.{name_span, Selects}

module _ (h : Bytes) (places : List ℕ) (q : Bytes) (selector : Selector) (set marks : List Bool) (y x : Bytes) (s : Span) (text : y ≡ q) (name : s ≡ name_span selector) (lies : x ≡ part_of y s) where
  -- the marks are those of the pages that pass
  abbrev Marks : (Page → Bool) → Type 0
  Marks test = (places : List ℕ) (R : Register) → Opened h places R → marks ≡ marks_in R test

  -- its name in the query's text
  there : x ≡ part_of q (name_span selector)
  there = rw (← text, ← name) lies

  pub select_category : (p : Span) → selector ≡ Selector.Category p → Marks (λ page. any (same x) page.categories) → Selects h places q selector set marks
  unfolding Selects
  select_category p e f R o inner a = rw (← there, e) (f places R o)

  pub select_namespace : (p : Span) → selector ≡ Selector.Namespace p → Marks (name_passes x NameTest.Namespace) → Selects h places q selector set marks
  unfolding Selects
  select_namespace p e f R o inner a = rw (← there, e) (f places R o)

  pub select_existence : (p : Span) → selector ≡ Selector.Existence p → Marks (holds x (λ v. true)) → Selects h places q selector set marks
  unfolding Selects
  select_existence p e f R o inner a = rw (← there, e) (f places R o)

  pub select_subquery : (p : Span) → selector ≡ Selector.Subquery p
      → ((R : Register) → Opened h places R → (inner : Page → Bool) → Agrees R set inner → marks ≡ marks_in R (holds x (follows no_mixed R inner)))
      → Selects h places q selector set marks
  unfolding Selects
  select_subquery p e f R o inner a = rw (← there, e) (f R o inner a)

  pub select_article : (c : Comparator) (p : Span) → selector ≡ Selector.Article c p → Marks (name_passes x (NameTest.Article c)) → Selects h places q selector set marks
  unfolding Selects
  select_article c p e f R o inner a = rw (← there, e) (f places R o)

  pub select_value : (p : Span) (c : Comparator) (w : Constant) → selector ≡ Selector.Value p c w → Marks (holds x (passes y (ValueTest.Constant c w))) → Selects h places q selector set marks
  unfolding Selects
  select_value p c w e f R o inner a = rw (← there, e, ← text) (f places R o)

  pub select_link : (p : Span) (c : SurfaceComparator) (r : Split) → selector ≡ Selector.Link p c r → Marks (holds x (passes y (ValueTest.Reference c r))) → Selects h places q selector set marks
  unfolding Selects
  select_link p c r e f R o inner a = rw (← there, e, ← text) (f places R o)

pub ruleset selecting = (select_category, select_namespace, select_article, select_existence, select_subquery, select_value, select_link)
