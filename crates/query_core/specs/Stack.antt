-- Working definitions: the stack after the first nodes, and its height.
use Rattle.std.specs.Prelude.{ℕ, ◌+◌, ◌-◌, ◌≤◌, ◌≡◌, List, [], ◌∷◌, leb, length, Option, Some}
use Rattle.text.specs.Bytes.{Bytes}
use Rattle.values.specs.Values.{map_option}
use Rattle.language.specs.Answer.{◌>>=◌, only_if}
use Rattle.language.specs.Core.{Core}
use Rattle.query_core.specs.declared.Selector.{Selector}
use Rattle.query_core.specs.declared.Connective.{Connective}
use Rattle.query_core.specs.declared.Node.{Node}
use Rattle.query_core.specs.Postfix.{runs}
use Rattle.query_core.specs.Postfix as Postfix
use Rattle.query_core.specs.Held.{query_size, count_in, nodes_to}

-- The queries on the stack after the first i nodes, and how many they are.
unfoldable pub stack_at : Bytes → ℕ → Option (List Core)
stack_at h i = nodes_to h i >>= λ l. runs l []

unfoldable pub height_at : Bytes → ℕ → Option ℕ
height_at h i = map_option length (stack_at h i)

-- The bytes hold the query q: they are of the right size, and q alone is left on the stack.
pub record HoldsCore (h : Bytes) (q : Core) : Type 0 where
  pub long : query_size ≤ length h
  pub some_node : 1 ≤ count_in h
  pub few : count_in h ≤ 256
  pub stack : stack_at h (count_in h) ≡ Some (q ∷ [])

-- How many queries a node takes; it leaves one.
abbrev pub arity : Postfix.Node → ℕ
arity Postfix.conjunction = 2
arity Postfix.disjunction = 2
arity (Postfix.category x) = 0
arity (Postfix.namespace x) = 0
arity (Postfix.existence x) = 0
arity (Postfix.subquery x) = 1
arity (Postfix.article c x) = 0
arity (Postfix.value x c v) = 0
arity (Postfix.link x c r) = 0

unfoldable pub risen : Postfix.Node → ℕ → Option ℕ
risen m k = only_if (leb (arity m) k) (Some ((k - arity m) + 1))

-- The same of a declared node.
abbrev pub selector_arity : Selector → ℕ
selector_arity (Selector.Category p) = 0
selector_arity (Selector.Namespace p) = 0
selector_arity (Selector.Existence p) = 0
selector_arity (Selector.Subquery p) = 1
selector_arity (Selector.Article c p) = 0
selector_arity (Selector.Value p c k) = 0
selector_arity (Selector.Link p c r) = 0

abbrev pub joined_arity : Connective → Selector → ℕ
joined_arity Connective.And x = 2
joined_arity Connective.Or x = 2
joined_arity Connective.Select x = selector_arity x

abbrev pub arity_by : Node → ℕ
arity_by n = joined_arity n.connective n.selector
