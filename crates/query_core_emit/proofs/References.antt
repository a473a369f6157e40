-- The core queries of comparisons, references and values, put.
use Rattle.std.specs.Prelude.{Option, Some, None}
use mathlib.Core.Path.{◌≡◌, refl, sym, ap, ◌∙◌}
use mathlib.Core.Bool.{Bool, true, false, cond, not}
use mathlib.Core.List.{[], ◌∷◌}
use borrow.Author.Tests.{not-true, not-false}
use Rattle.text.specs.Bytes.{Bytes}
use Rattle.text.specs.Parts.{part_of}
use Rattle.text.specs.declared.Span.{Span}
use Rattle.values.specs.declared.Kind.{Kind}
use Rattle.values.specs.declared.Scalar.{Scalar}
use Rattle.values.specs.declared.Split.{Split}
use Rattle.values.specs.Names.{reference, is_reference, composed_reference}
use Rattle.values.specs.Values.{map_option, read_constant}
use Rattle.values.specs.Answers.{reference_at, split_of}
use Rattle.language.specs.Comparators.{is_equal, strictly, or_equal, in_any_namespace}
use Rattle.language.specs.Core.{Core}
use Rattle.language.specs.Core as Core
use Rattle.language.specs.Elaboration.{strict_or_equal, compared, article_stands, within, elaborate_reference, elaborate_constant, elaborate_value}
use Rattle.language.specs.declared.Comparator.{Comparator}
use Rattle.language.specs.declared.SurfaceComparator.{SurfaceComparator}
use Rattle.query_text_pieces.specs.Places.{SplitsAt}
use Rattle.query_core.specs.declared.Selector.{Selector}
use Rattle.query_core.specs.declared.Constant.{Constant}
use Rattle.query_core.specs.declared.Place.{Place}
use Rattle.query_core.specs.Postfix.{Node, post}
use Rattle.query_core.specs.Form.{no_span}
use Rattle.query_core.specs.Reading.{selector_by}
use Rattle.query_core_emit.specs.Emission.{Adds, Emits, connective_node, comparing, scope_in, scope_of, constant_in}
use Rattle.query_core_emit.specs.declared.Comparison.{Comparison}
use Rattle.query_core_emit.proofs.Adding.{conjunction_adds, one_adds, either_adds}
use Rattle.query_core_emit.proofs.Constants.{constant_is}

-- A comparison as written, by its comparator.
module _ (s : Bytes) (w : Comparison) (c : SurfaceComparator) (h h' : Bytes) (p p' : Place) where
  abbrev Compared : Type 0
  Compared = Adds (post (compared (comparing s w) c)) h p h' p'

  module _ (t : Bool) (d : Comparator) (e : t ≡ or_equal c) (f : d ≡ strictly c) where
    pub either_is : t ≡ true → Adds (post (strict_or_equal (comparing s w) d)) h p h' p' → Compared
    unfolding compared
    either_is g a = rw (← e, g, ← f) a

    pub one_is : t ≡ false → Adds (post (comparing s w d)) h p h' p' → Compared
    unfolding compared
    one_is g a = rw (← e, g, ← f) a

pub ruleset comparisons = (either_is, one_is)

-- The same of an article name.
module _ (s : Bytes) (a : Span) (c : SurfaceComparator) (t : Bool) (d : Comparator) (e : t ≡ or_equal c) (f : d ≡ strictly c) (h h₁ : Bytes) (p p₁ : Place) (one : Adds (selector_by s (Selector.Article d a) ∷ []) h p h₁ p₁) where
  article_one : Adds (post (comparing s (Comparison.Article a) d)) h p h₁ p₁
  article_one = one_adds s h h₁ p p₁ (Comparison.Article a) d (Selector.Article d a) refl one

  pub article_strict : t ≡ false → Adds (post (compared (comparing s (Comparison.Article a)) c)) h p h₁ p₁
  article_strict g = one_is s (Comparison.Article a) c h h₁ p p₁ t d e f g article_one

  pub article_either : (h₂ h₃ : Bytes) (p₂ p₃ : Place) → t ≡ true → Adds (selector_by s (Selector.Article Comparator.Equal a) ∷ []) h₁ p₁ h₂ p₂ → Adds (connective_node true ∷ []) h₂ p₂ h₃ p₃ → Adds (post (compared (comparing s (Comparison.Article a)) c)) h p h₃ p₃
  article_either h₂ h₃ p₂ p₃ g two d₃ =
      either_is s (Comparison.Article a) c h h₃ p p₃ t d e f g
      (either_adds s (Comparison.Article a) d h h₁ h₂ h₃ p p₁ p₂ p₃ article_one (one_adds s h₁ h₂ p₁ p₂ (Comparison.Article a) Comparator.Equal (Selector.Article Comparator.Equal a) refl two) d₃)

-- Definition 5.3.1, by the scope of a reference.
module _ (s : Bytes) where
  abbrev scoped : Option Span → Core → Core
  scoped None q = q
  scoped (Some n) q = Core.conjunction (Core.select (Core.namespace (part_of s n))) q

  reference_says : (c : SurfaceComparator) (o : Option Span) (a : Span) → elaborate_reference c (reference_at s o a) ≡ scoped (scope_in c o) (compared (comparing s (Comparison.Article a)) c)
  unfolding elaborate_reference
  reference_says c (Some n) a = go (in_any_namespace c)
    where
      go : (t : Bool) → cond t (article_stands (part_of s a) c) (within (part_of s n) (article_stands (part_of s a) c)) ≡ scoped (cond t None (Some n)) (compared (comparing s (Comparison.Article a)) c)
      go true = refl
      go false = refl
  reference_says c None a = go (is_equal c)
    where
      go : (t : Bool) → cond t (within [] (article_stands (part_of s a) c)) (article_stands (part_of s a) c) ≡ scoped (cond t (Some no_span) None) (compared (comparing s (Comparison.Article a)) c)
      go true = refl
      go false = refl

  module _ (c : SurfaceComparator) (r : Split) (k : Option Span) (is : k ≡ scope_of c r) (h : Bytes) (p : Place) where
    reference_is : elaborate_reference c (split_of s r) ≡ scoped k (compared (comparing s (Comparison.Article r.article)) c)
    reference_is = reference_says c r.namespace r.article ∙ ap (λ (x : Option Span). scoped x (compared (comparing s (Comparison.Article r.article)) c)) (sym is)

    pub any_adds : (h' : Bytes) (p' : Place) → k ≡ None → Adds (post (compared (comparing s (Comparison.Article r.article)) c)) h p h' p' → Adds (post (elaborate_reference c (split_of s r))) h p h' p'
    any_adds h' p' e d = rw (reference_is, e) d

    pub within_adds : (n : Span) (h₁ h₂ h₃ : Bytes) (p₁ p₂ p₃ : Place) → k ≡ Some n → Adds (selector_by s (Selector.Namespace n) ∷ []) h p h₁ p₁ → Adds (post (compared (comparing s (Comparison.Article r.article)) c)) h₁ p₁ h₂ p₂ → Adds (connective_node false ∷ []) h₂ p₂ h₃ p₃ → Adds (post (elaborate_reference c (split_of s r))) h p h₃ p₃
    unfolding post
    within_adds n h₁ h₂ h₃ p₁ p₂ p₃ e f g d = rw (reference_is, e) (conjunction_adds (Core.select (Core.namespace (part_of s n))) (compared (comparing s (Comparison.Article r.article)) c) f g d)

pub ruleset references = (any_adds, within_adds)

-- A property's piece.
module _ (s : Bytes) (x p : Span) (c : SurfaceComparator) (h : Bytes) (at : Place) where
  abbrev Valued : Kind → Option Place → Bytes → Type 0
  Valued k r h' = Emits (elaborate_value (part_of s x) c (part_of s p) k) h at r h'

  abbrev Read : Kind → Option Place → Bytes → Type 0
  Read k r h' = Emits (map_option (elaborate_constant (part_of s x) c) (read_constant k (part_of s p))) h at r h'

  module _ (t : Bytes) (q : Bool) (e : t ≡ part_of s p) (f : q ≡ is_reference (reference t)) where
    pub link_unfit : not q ≡ true → Valued Kind.Page None h
    unfolding Emits elaborate_value
    link_unfit g = rw (← e, ← f, not-true q g)

    pub link_emits : (r : Split) (h₁ : Bytes) (p₁ : Place) → not q ≡ false → SplitsAt s p r → (is_reference (split_of s r) ≡ true → Adds (Node.link (part_of s x) c (composed_reference (split_of s r)) ∷ []) h at h₁ p₁) → Valued Kind.Page (Some p₁) h₁
    unfolding Emits elaborate_value post
    link_emits r h₁ p₁ g d a =
        let yes : is_reference (reference (part_of s p)) ≡ true = rw (← e, ← f) (not-false q g) in
        let there : Adds (Node.link (part_of s x) c (composed_reference (reference (part_of s p))) ∷ []) h at h₁ p₁ = rw (← d.is) (a (ap is_reference d.is ∙ yes)) in
        (Core.select (Core.link (part_of s x) c (composed_reference (reference (part_of s p)))), rw yes, there)

  -- a constant of a kind
  module _ (kind : Kind) (r : Option Constant) (e : r ≡ constant_in s p kind) where
    pub constant_unfit : r ≡ None → Read kind None h
    unfolding Emits
    constant_unfit f = rw (constant_is s p kind, ← e, f)

    pub constant_emits : (k : Constant) (h' : Bytes) (p' : Place) → r ≡ Some k → Adds (post (compared (comparing s (Comparison.Value x k)) c)) h at h' p' → Read kind (Some p') h'
    unfolding Emits elaborate_constant
    constant_emits k h' p' f a = (compared (comparing s (Comparison.Value x k)) c, rw (constant_is s p kind, ← e, f), a)

  -- by the kind
  module _ (k : Kind) (r : Option Place) (h' : Bytes) where
    pub page_value : k ≡ Kind.Page → Valued Kind.Page r h' → Valued k r h'
    page_value e d = rw e d

    module _ (d : Read k r h') where
      pub scalar_value : (j : Scalar) → k ≡ Kind.Scalar j → Valued k r h'
      unfolding elaborate_value
      scalar_value j e = rw e (rw e at d)

      pub string_value : k ≡ Kind.String → Valued k r h'
      unfolding elaborate_value
      string_value e = rw e (rw e at d)

pub ruleset emission = (link_unfit, link_emits, constant_unfit, constant_emits, page_value, scalar_value, string_value)
