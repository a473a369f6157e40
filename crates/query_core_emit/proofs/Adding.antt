-- Nodes put one behind the other.
use mathlib.Core.Path.{◌≡◌, subst}
use mathlib.Core.Bool.{Bool, true, false}
use mathlib.Core.List.{List, [], ◌∷◌, ◌++◌, append_assoc}
use Rattle.text.specs.Bytes.{Bytes}
use Rattle.language.specs.Core.{Core}
use Rattle.language.specs.Elaboration.{strict_or_equal}
use Rattle.language.specs.declared.Comparator.{Comparator}
use Rattle.query_core.specs.declared.Connective.{Connective}
use Rattle.query_core.specs.declared.Selector.{Selector}
use Rattle.query_core.specs.declared.Place.{Place}
use Rattle.query_core.specs.Postfix.{Node, post}
use Rattle.query_core.specs.Reading.{selector_by, selector_over}
use Rattle.query_core.specs.Writing.{joint, Laid, PutsNode, Puts}
use Rattle.query_core_emit.specs.Emission.{Adds, connective_node, selector_of, comparing}
use Rattle.query_core_emit.specs.declared.Comparison.{Comparison}

pub adds_then : (k m : List Node) {h h' h'' : Bytes} {p p' p'' : Place} → Adds k h p h' p' → Adds m h' p' h'' p'' → Adds (k ++ m) h p h'' p''
adds_then k m {h'' = h''} {p'' = p''} a b =
    record { laid = λ l d. subst (λ (x : List Node). Laid h'' p'' x) (append_assoc l k m) (b.laid (l ++ k) (a.laid l d)) }

module _ (s h h' : Bytes) (p p' : Place) where
  -- a selector
  pub select_adds : (t : Bytes) (x : Selector) → Puts s t (record { connective = Connective.Select; selector = x }) h p h' p' → Adds (selector_over s t x ∷ []) h p h' p'
  unfolding Puts PutsNode
  select_adds t x d = record { laid = d }

  -- one comparison
  pub one_adds : (w : Comparison) (c : Comparator) (x : Selector) → x ≡ selector_of w c → Adds (selector_by s x ∷ []) h p h' p' → Adds (post (comparing s w c)) h p h' p'
  unfolding post
  one_adds (Comparison.Article q) c x e d = rw e at d
  one_adds (Comparison.Value q k) c x e d = rw e at d

-- a connective
pub joint_adds : (h h' : Bytes) (p p' : Place) (or : Bool) → Puts [] [] (joint or) h p h' p' → Adds (connective_node or ∷ []) h p h' p'
unfolding Puts PutsNode
joint_adds h h' p p' true d = record { laid = d }
joint_adds h h' p p' false d = record { laid = d }

-- two sides and what joins them
module _ (a b : Core) {h h₁ h₂ h₃ : Bytes} {p p₁ p₂ p₃ : Place} (f : Adds (post a) h p h₁ p₁) (g : Adds (post b) h₁ p₁ h₂ p₂) where
  pub disjunction_adds : Adds (connective_node true ∷ []) h₂ p₂ h₃ p₃ → Adds (post (Core.disjunction a b)) h p h₃ p₃
  unfolding post
  disjunction_adds d = adds_then (post a ++ post b) (Node.disjunction ∷ []) (adds_then (post a) (post b) f g) d

  pub conjunction_adds : Adds (connective_node false ∷ []) h₂ p₂ h₃ p₃ → Adds (post (Core.conjunction a b)) h p h₃ p₃
  unfolding post
  conjunction_adds d = adds_then (post a ++ post b) (Node.conjunction ∷ []) (adds_then (post a) (post b) f g) d

pub either_adds : (s : Bytes) (w : Comparison) (c : Comparator) (h h₁ h₂ h₃ : Bytes) (p p₁ p₂ p₃ : Place) → Adds (post (comparing s w c)) h p h₁ p₁ → Adds (post (comparing s w Comparator.Equal)) h₁ p₁ h₂ p₂ → Adds (connective_node true ∷ []) h₂ p₂ h₃ p₃ → Adds (post (strict_or_equal (comparing s w) c)) h p h₃ p₃
either_adds s w c h h₁ h₂ h₃ p p₁ p₂ p₃ f g d = disjunction_adds (comparing s w c) (comparing s w Comparator.Equal) f g d

pub ruleset adding = (select_adds, joint_adds, one_adds, either_adds)
