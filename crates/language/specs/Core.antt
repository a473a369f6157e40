-- Core queries: thesis 4.2.1, with comparators equal, unequal, greater, less. Document 01, "Text to core".
use Rattle.std.specs.Prelude.{ℕ, suc, ◌+◌}
use Rattle.text.specs.Bytes.{Bytes}
use Rattle.values.specs.Names.{Reference}
use Rattle.values.specs.Values.{Constant}
use Rattle.language.specs.declared.Comparator.{Comparator}
use Rattle.language.specs.declared.SurfaceComparator.{SurfaceComparator}

mutual
  -- CSel.
  pub data Selector : Type 0 where
    category : Bytes → Selector
    namespace : Bytes → Selector
    existence : Bytes → Selector
    subquery : Bytes → Core → Selector
    article : Comparator → Bytes → Selector
    value : Bytes → Comparator → Constant → Selector
    -- Document 02, "Pledges from bakeries with no page yet": "one link node with any of the six comparators, in place of the subquery".
    link : Bytes → SurfaceComparator → Reference → Selector

  -- CQuery.
  pub data Core : Type 0 where
    select : Selector → Core
    disjunction : Core → Core → Core
    conjunction : Core → Core → Core

-- "Each selector, AND and OR is one node."
unfoldable mutual
  pub nodes_in : Selector → ℕ
  nodes_in (Selector.category x) = 1
  nodes_in (Selector.namespace x) = 1
  nodes_in (Selector.existence x) = 1
  nodes_in (Selector.subquery x q) = suc (nodes q)
  nodes_in (Selector.article c x) = 1
  nodes_in (Selector.value x c v) = 1
  nodes_in (Selector.link x c r) = 1

  pub nodes : Core → ℕ
  nodes (Core.select s) = nodes_in s
  nodes (Core.disjunction a b) = suc (nodes a + nodes b)
  nodes (Core.conjunction a b) = suc (nodes a + nodes b)
