-- What a single node puts.
use Rattle.std.specs.Prelude.{Option, Some, None}
use mathlib.Core.Logic.{◌⊎◌, ⊎_elim}
use mathlib.Core.Path.{◌≡◌, refl}
use mathlib.Core.List.{[], ◌∷◌}
use Rattle.text.specs.Bytes.{Bytes}
use Rattle.text.specs.Parts.{part_of}
use Rattle.text.specs.declared.Span.{Span}
use Rattle.values.specs.declared.Kind.{Kind}
use Rattle.values.specs.declared.Scalar.{Scalar}
use Rattle.values.specs.Answers.{split_of}
use Rattle.language.specs.Core.{Core}
use Rattle.language.specs.Core as Core
use Rattle.language.specs.Elaboration.{elaborate_reference, inside}
use Rattle.language.specs.declared.SurfaceComparator.{SurfaceComparator}
use Rattle.query_core.specs.declared.Place.{Place}
use Rattle.query_core.specs.declared.Selector.{Selector}
use Rattle.query_core.specs.Postfix.{post}
use Rattle.query_core.specs.Reading.{selector_by}
use Rattle.query_core_emit.specs.Emission.{Adds, Emits}
use Rattle.query_tree.specs.declared.TreeNode.{TreeNode}
use Rattle.query_tree.specs.Reading.{node_by}
use Rattle.query_core_fit.specs.Fitting.{piece_core, LeafAt, LeafIn, Wraps}

-- A subquery's node.
module _ (x : Bytes) (kind : Option Kind) (h : Bytes) (p : Place) where
  pub wraps_nothing : kind ≡ None → Wraps x kind h p None h
  unfolding inside
  wraps_nothing e o = rw e

  pub wraps_page : (k : Kind) (h' : Bytes) (p' : Place) → kind ≡ Some k → k ≡ Kind.Page → Adds (Rattle.query_core.specs.Postfix.subquery x ∷ []) h p h' p' → Wraps x kind h p (Some p') h'
  wraps_page k h' p' e f a = (rw (e, f), a)

  pub wraps_other : (k : Kind) → kind ≡ Some k → ((j : Scalar) × (k ≡ Kind.Scalar j)) ⊎ (k ≡ Kind.String) → Wraps x kind h p None h
  unfolding inside
  wraps_other k e f o = ⊎_elim (λ (s : (j : Scalar) × (k ≡ Kind.Scalar j)). rw (e, s.1)) (λ (s : k ≡ Kind.String). rw (e, s)) f

pub ruleset wrapping = (wraps_nothing, wraps_page)

-- A piece of a property that has no kind.
pub piece_none : (x v : Bytes) (c : SurfaceComparator) (kind : Option Kind) (h : Bytes) (p : Place) → kind ≡ None → Emits (piece_core x c v kind) h p None h
unfolding Emits
piece_none x v c kind h p e = rw e

-- A node alone.
module _ (s : Bytes) (node : TreeNode) (h : Bytes) (p : Place) where
  module _ (h' : Bytes) (p' : Place) where
    pub leaf_category : (x : Span) → node ≡ TreeNode.Category x → Adds (selector_by s (Selector.Category x) ∷ []) h p h' p' → LeafAt (node_by s node) h p (Some p') h'
    unfolding Emits post
    leaf_category x e a = rw e (Core.select (Core.category (part_of s x)), refl, a)

    pub leaf_namespace : (x : Span) → node ≡ TreeNode.Namespace x → Adds (selector_by s (Selector.Namespace x) ∷ []) h p h' p' → LeafAt (node_by s node) h p (Some p') h'
    unfolding Emits post
    leaf_namespace x e a = rw e (Core.select (Core.namespace (part_of s x)), refl, a)

    pub leaf_bare : (c : SurfaceComparator) (x : Span) → node ≡ TreeNode.Bare c x → Adds (post (elaborate_reference c (split_of s (record { namespace = None; article = x })))) h p h' p' → LeafAt (node_by s node) h p (Some p') h'
    unfolding Emits
    leaf_bare c x e a = rw e (elaborate_reference c (split_of s (record { namespace = None; article = x })), refl, a)

    pub leaf_qualified : (c : SurfaceComparator) (n x : Span) → node ≡ TreeNode.Qualified c n x → Adds (post (elaborate_reference c (split_of s (record { namespace = Some n; article = x })))) h p h' p' → LeafAt (node_by s node) h p (Some p') h'
    unfolding Emits
    leaf_qualified c n x e a = rw e (elaborate_reference c (split_of s (record { namespace = Some n; article = x })), refl, a)

    pub in_existence : (x : Span) (k : Option Kind) → node ≡ TreeNode.Existence → Adds (selector_by s (Selector.Existence x) ∷ []) h p h' p' → LeafIn (part_of s x) k (node_by s node) h p (Some p') h'
    unfolding Emits post
    in_existence x k e a = rw e (Core.select (Core.existence (part_of s x)), refl, a)

pub ruleset leaves = (leaf_category, leaf_namespace, leaf_bare, leaf_qualified, in_existence)
