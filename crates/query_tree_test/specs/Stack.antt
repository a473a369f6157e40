-- Working definitions: the stack of the pass in a table, and what a node makes of the parts at its top.
use Rattle.std.specs.Prelude.{ℕ, zero, suc, ◌+◌, true, false, ◌&&◌, List, [], ◌∷◌, length, get_or, Option, Some}
use Rattle.text.specs.Bytes.{Bytes, bytes, same}
use Rattle.text.specs.Table.{tabulate}
use Rattle.names.specs.Names.{is_composed_name, is_composed_namespace}
use Rattle.values.specs.Names.{is_composed_reference}
use Rattle.language.specs.QueryText.{is_category_of}
use Rattle.language.specs.Comparators.{word, is_equal}
use Rattle.query_tree_spelling.specs.Spelled.{spelled_value, cost_reference}
use Rattle.query_tree.specs.Nodes.{Node}
use Rattle.query_tree.specs.declared.Shape.{Shape}
use Rattle.query_tree.specs.declared.Item.{Item}
use Rattle.query_tree.specs.Form.{node_in}
use Rattle.query_tree.specs.Pass.{leaf_item, subquery_item, property_item, link_item, bar_item, or_item, and_item, item_run}

-- How many parts a node is made of.
abbrev pub arity : Node → ℕ
arity (Node.and n) = 2
arity (Node.or n) = 2
arity (Node.bar n) = 2
arity (Node.category x) = 0
arity (Node.namespace n) = 0
arity (Node.reference c r) = 0
arity Node.existence = 0
arity (Node.value c v) = 0
arity Node.subquery = 1
arity (Node.property x) = 1
arity (Node.link x) = 1

-- What node `at` makes of the last two parts, i before j, as far as it takes them.
abbrev pub made_of : ℕ → Node → Item → Item → Option Item
made_of at (Node.and n) i j = and_item at n i j
made_of at (Node.or n) i j = or_item at n i j
made_of at (Node.bar n) i j = bar_item at n i j
made_of at (Node.category x) i j = Some (leaf_item Shape.Categories at false (is_composed_name x) (length x))
made_of at (Node.namespace n) i j = Some (leaf_item Shape.Identifiers at (same n (bytes "Category")) (is_composed_namespace n) (length n + 2))
made_of at (Node.reference c r) i j = Some (leaf_item Shape.Identifiers at (is_equal c && is_category_of r) (is_composed_reference r) (length (word c) + cost_reference r))
made_of at Node.existence i j = Some (leaf_item Shape.Alternatives at false true 1)
made_of at (Node.value c v) i j = Some (leaf_item Shape.Alternatives at false (spelled_value c v) (length (word c) + length v))
made_of at Node.subquery i j = subquery_item j
made_of at (Node.property x) i j = property_item x j
made_of at (Node.link x) i j = link_item x j

-- What stands where no part was put.
abbrev pub blank : Item
blank = record { shape = Shape.Categories; from = 0; names = 0; one = false; leads = false; kept = false; bytes = 0; depth = 0 }

-- The first n parts of a table as a stack, the last of them first; two places before them hold no part.
unfoldable pub stack_of : List Item → ℕ → List Item
stack_of t zero = []
stack_of t (suc n) = get_or t (suc (suc n)) blank ∷ stack_of t n

-- The pass over the first n nodes of the bytes.
unfoldable pub run_to : Bytes → ℕ → Option (List Item)
run_to h n = item_run 0 (tabulate n (node_in h)) (Some [])
