-- The effects of trees from the effects of their parts.
use Prim.Native.Nat.{ℕ, suc, ◌+◌, max}
use mathlib.Core.Path.{◌≡◌, refl, sym, ◌∙◌}
use mathlib.Core.Bool.{false, ◌||◌, or-false}
use mathlib.Core.List.{List, [], ◌∷◌, ◌++◌, append_assoc}
use native.Mathlib.Omega.{arith}
use lib.Dec.{ltb}
use lib.ListN.{length}
use Rattle.language.specs.Surface.{Chain, single, chain}
use Rattle.language.specs.RawQuery.{RawQuery, RawAlternatives}
use Rattle.language.specs.QueryText.{names_in, depth, depth_in, longest, longest_in, breaks, breaks_in, breaks_value, breaks_value_in, breaks_names, surface, surface_in}
use Rattle.query_tree.specs.Nodes.{Node, tree, tree_in, tree_chain}
use Rattle.query_text_heads.specs.Effects.{one, ◌then◌}
use Rattle.query_text_heads.specs.Trees.{deeper, effect, effect_in, chain_nodes, chain_effect}
use Rattle.query_text_heads.proofs.Readings.{same_effect, or_comm, deep_max, one_deeper}

-- The depth and the chains of two sides.
two_deep : (d a b l m : ℕ) → ltb 8 (max (d + max a b) (max l m)) ≡ (ltb 8 (max (d + a) l) || ltb 8 (max (d + b) m) || false)
two_deep d a b l m =
    deep_max (max (d + a) l) (max (d + b) m) (max (d + max a b) (max l m)) (omega arith, omega arith, omega arith) ∙ sym (or-false _)

-- One level more.
one_level : (d k l : ℕ) → ltb 8 (max (d + suc k) l) ≡ ltb 8 (max (deeper d + k) l)
one_level d k l =
    deep_max (d + suc k) l (max (d + suc k) l) (omega arith, omega arith, omega arith) ∙ rw (one_deeper d k)
    (sym (deep_max (deeper d + k) l (max (deeper d + k) l) (omega arith, omega arith, omega arith)))

module _ (d : ℕ) where
  pub effect_or : (a b : RawQuery) → effect d (RawQuery.disjunction a b) ≡ effect d a then effect d b then one (Node.or (length (effect d b).nodes))
  unfolding effect surface tree depth longest breaks breaks_value one ◌then◌
  effect_or a b = same_effect refl (two_deep d (depth a) (depth b) (longest a) (longest b)) (sym (or-false _)) (sym (or-false _))

  pub effect_and : (a b : RawQuery) → effect d (RawQuery.conjunction a b) ≡ effect d a then effect d b then one (Node.and (length (effect d b).nodes))
  unfolding effect surface tree depth longest breaks breaks_value one ◌then◌
  effect_and a b = same_effect refl (two_deep d (depth a) (depth b) (longest a) (longest b)) (sym (or-false _)) (sym (or-false _))

  pub effect_group : (q : RawQuery) → effect d (RawQuery.group q) ≡ effect (deeper d) q
  unfolding effect surface depth longest breaks breaks_value
  effect_group q = same_effect refl (one_level d (depth q) (longest q)) refl refl

  pub effect_either : (a b : RawAlternatives) → effect_in d (RawAlternatives.either a b) ≡ effect_in d a then effect_in d b then one (Node.bar (length (effect_in d b).nodes))
  unfolding effect_in surface_in tree_in depth_in longest_in breaks_in breaks_value_in one ◌then◌
  effect_either a b = same_effect refl (two_deep d (depth_in a) (depth_in b) (longest_in a) (longest_in b)) (sym (or-false _)) (sym (or-false _))

  pub effect_inner : (q : RawQuery) → effect_in d (RawAlternatives.subquery q) ≡ effect (deeper d) q then one Node.subquery
  unfolding effect effect_in surface_in tree_in depth_in longest_in breaks_in breaks_value_in one ◌then◌
  effect_inner q = same_effect refl (one_level d (depth q) (longest q) ∙ sym (or-false _)) (sym (or-false _)) (sym (or-false _))

chain_tree_lem : (c : Chain) (l : List Node) → tree_chain c l ≡ l ++ chain_nodes c
unfolding tree_chain chain_nodes
chain_tree_lem (single x) l = refl
chain_tree_lem (chain x p) l = rw (chain_tree_lem p l) (append_assoc l (chain_nodes p) (Node.link x ∷ []))

pub effect_property : (d : ℕ) (c : Chain) (a : RawAlternatives) → effect d (RawQuery.property c a) ≡ effect_in d a then chain_effect 0 c
unfolding effect effect_in chain_effect surface tree depth longest breaks breaks_value ◌then◌
effect_property d c a =
    let l = names_in c in
    same_effect (chain_tree_lem c (tree_in (surface_in a)))
    (deep_max (max (d + depth_in a) (longest_in a)) (0 + l) (max (d + depth_in a) (max l (longest_in a))) (omega arith, omega arith, omega arith))
    (or_comm (breaks_names c) (breaks_in a)) (sym (or-false _))
