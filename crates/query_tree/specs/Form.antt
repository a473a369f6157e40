-- The held tree: a surface query in 5,112 bytes. docs/LAYOUT.md has the table.
use Rattle.std.specs.Prelude.{ℕ, ◌+◌, ◌*◌, cond, ◌&&◌, List, [], ◌∷◌, ◌++◌, eqb, length, get_or, take, Option, Some}
use Rattle.text.specs.Bytes.{Bytes, part, same}
use Rattle.text.specs.Table.{tabulate}
use Rattle.buffer.specs.Numbers.{two_bytes, two_at, padded}
use Rattle.values.specs.Names.{Reference, bare, qualified}
use Rattle.language.specs.Answer.{◌>>=◌, only_if}
use Rattle.language.specs.Comparators.{comparator_code, comparator_from}
use Rattle.language.specs.Surface.{Query}
use Rattle.language.specs.declared.SurfaceComparator.{SurfaceComparator}
use Rattle.query_tree_spelling.specs.Spelled.{has_text}
use Rattle.query_tree.specs.Nodes.{Node, tree, string_of, strings}
use Rattle.query_tree.specs.Building.{built}
use Rattle.query_tree.specs.declared.Row.{Row}

abbrev pub tree_size : ℕ
tree_size = 5112

-- A node in six bytes: a tag, a comparator, a number of two bytes (how many nodes the second of two has, or where a string begins), the
-- lengths of a namespace and of a name or value.
abbrev pub row_of : ℕ → ℕ → ℕ → ℕ → ℕ → Row
row_of t c n a b = record { tag = t; comparator = c; number = n; first = a; second = b }

-- The row of a node whose string begins at a place.
abbrev pub reference_row : ℕ → SurfaceComparator → Reference → Row
reference_row at c (bare x) = row_of 5 (comparator_code c) at 0 (length x)
reference_row at c (qualified n x) = row_of 6 (comparator_code c) at (length n) (length x)

abbrev pub row_at : ℕ → Node → Row
row_at at (Node.and n) = row_of 0 0 n 0 0
row_at at (Node.or n) = row_of 1 0 n 0 0
row_at at (Node.bar n) = row_of 2 0 n 0 0
row_at at (Node.category x) = row_of 3 0 at 0 (length x)
row_at at (Node.namespace n) = row_of 4 0 at (length n) 0
row_at at (Node.reference c r) = reference_row at c r
row_at at Node.existence = row_of 7 0 0 0 0
row_at at (Node.value c v) = row_of 8 (comparator_code c) at 0 (length v)
row_at at Node.subquery = row_of 9 0 0 0 0
row_at at (Node.property x) = row_of 10 0 at 0 (length x)
row_at at (Node.link x) = row_of 11 0 at 0 (length x)

unfoldable pub row_bytes : Row → Bytes
row_bytes r = r.tag ∷ r.comparator ∷ two_bytes r.number ++ (r.first ∷ r.second ∷ [])

-- The rows of nodes whose strings begin at a place, one behind the other.
unfoldable pub rows_from : ℕ → List Node → Bytes
rows_from at [] = []
rows_from at (x ∷ l) = row_bytes (row_at at x) ++ rows_from (at + length (string_of x)) l

-- How many nodes, the nodes, their strings.
unfoldable pub node_bytes : List Node → Bytes
node_bytes l = two_bytes (length l) ++ (padded 4086 (rows_from 0 l) ++ padded 1024 (strings l))

-- The form of a surface query.
unfoldable pub tree_of : Query → Bytes
tree_of q = node_bytes (tree q)

-- What bytes hold, whatever they are. A tag above 11 is read as 11.
module _ (s : Bytes) where
  -- The two strings of a row, in the bytes of all strings.
  abbrev pub first_string : Row → Bytes
  first_string r = part s r.number r.first

  abbrev pub second_string : Row → Bytes
  second_string r = part s (r.number + r.first) r.second

  unfoldable pub node_from : Row → Node
  node_from r =
      cond (eqb r.tag 0) (Node.and r.number)
      (cond (eqb r.tag 1) (Node.or r.number)
      (cond (eqb r.tag 2) (Node.bar r.number)
      (cond (eqb r.tag 3) (Node.category (second_string r))
      (cond (eqb r.tag 4) (Node.namespace (first_string r))
      (cond (eqb r.tag 5) (Node.reference (comparator_from r.comparator) (bare (second_string r)))
      (cond (eqb r.tag 6) (Node.reference (comparator_from r.comparator) (qualified (first_string r) (second_string r)))
      (cond (eqb r.tag 7) Node.existence
      (cond (eqb r.tag 8) (Node.value (comparator_from r.comparator) (second_string r))
      (cond (eqb r.tag 9) Node.subquery
      (cond (eqb r.tag 10) (Node.property (second_string r)) (Node.link (second_string r))))))))))))

module _ (h : Bytes) where
  abbrev pub node_count : ℕ
  node_count = two_at h 0

  unfoldable pub row_in : ℕ → Row
  row_in i = row_of (get_or h (2 + 6 * i) 0) (get_or h (3 + 6 * i) 0) (two_at h (4 + 6 * i)) (get_or h (6 + 6 * i) 0) (get_or h (7 + 6 * i) 0)

  abbrev pub strings_in : Bytes
  strings_in = part h 4088 1024

  unfoldable pub node_in : ℕ → Node
  node_in i = node_from strings_in (row_in i)

  unfoldable pub nodes_in : List Node
  nodes_in = tabulate node_count node_in

-- "A held input is its first bytes of that size, and a shorter one is a form of nothing": the query whose form they are, where some text
-- is read as it.
unfoldable pub held_tree : Bytes → Option Query
held_tree h = built (nodes_in (take tree_size h)) >>= λ q. only_if (has_text q && same (take tree_size h) (tree_of q)) (Some q)
