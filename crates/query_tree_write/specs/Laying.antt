-- Working definitions: nodes laid into a tree's bytes, one behind the other.
use Rattle.std.specs.Prelude.{ℕ, ◌≤◌, ◌≡◌, Bool, true, cond, ◌&&◌, List, [], ◌∷◌, ◌++◌, ltb, leb, length}
use Rattle.text.specs.Bytes.{Bytes, all}
use Rattle.text.specs.declared.Span.{Span}
use Rattle.buffer.specs.Numbers.{zeros, padded}
use Rattle.names.specs.Names.{composed_name}
use Rattle.language.specs.declared.SurfaceComparator.{SurfaceComparator}
use Rattle.query_tree.specs.Nodes.{Node, strings}
use Rattle.query_tree.specs.Form.{row_at, rows_from}
use Rattle.query_tree.specs.declared.TreeNode.{TreeNode}
use Rattle.query_tree_write.specs.declared.Place.{Place}
use Rattle.query_tree_write.specs.declared.Entry.{Entry}

-- No place.
abbrev pub nowhere : Span
nowhere = record { start = 0; len = 0 }

abbrev pub entry_with : ℕ → SurfaceComparator → ℕ → Span → Span → Entry
entry_with t c n p q = record { tag = t; comparator = c; number = n; first = p; second = q }

-- What is put of a node whose string begins at a place. The code of `Equal` is 0.
abbrev pub entry_of : ℕ → TreeNode → Entry
entry_of end (TreeNode.And n) = entry_with 0 SurfaceComparator.Equal n nowhere nowhere
entry_of end (TreeNode.Or n) = entry_with 1 SurfaceComparator.Equal n nowhere nowhere
entry_of end (TreeNode.Bar n) = entry_with 2 SurfaceComparator.Equal n nowhere nowhere
entry_of end (TreeNode.Category p) = entry_with 3 SurfaceComparator.Equal end nowhere p
entry_of end (TreeNode.Namespace p) = entry_with 4 SurfaceComparator.Equal end p nowhere
entry_of end (TreeNode.Bare c p) = entry_with 5 c end nowhere p
entry_of end (TreeNode.Qualified c p q) = entry_with 6 c end p q
entry_of end TreeNode.Existence = entry_with 7 SurfaceComparator.Equal 0 nowhere nowhere
entry_of end (TreeNode.Value c p) = entry_with 8 c end nowhere p
entry_of end TreeNode.Subquery = entry_with 9 SurfaceComparator.Equal 0 nowhere nowhere
entry_of end (TreeNode.Property p) = entry_with 10 SurfaceComparator.Equal end nowhere p
entry_of end (TreeNode.Link p) = entry_with 11 SurfaceComparator.Equal end nowhere p

-- A string as it is put: a value as typed, a name composed.
unfoldable pub string_as : Bool → Bytes → Bytes
string_as typed s = cond typed s (composed_name s)

-- There is room for a node behind those that are there.
unfoldable pub has_room : Place → Bool
has_room p = ltb p.count 681 && leb p.end 1024

-- The strings of a node have at most 64 bytes each.
abbrev pub has_short : Node → Bool
has_short x = leb (row_at 0 x).first 64 && leb (row_at 0 x).second 64

-- Nodes that 5,112 bytes can hold.
pub record Fits (l : List Node) : Type 0 where
  pub few : length l ≤ 681
  pub short : length (strings l) ≤ 1024
  pub small : all has_short l ≡ true

-- The bytes hold the nodes, but for their count.
pub record Laid (t : Bytes) (p : Place) (l : List Node) : Type 0 where
  pub bytes : t ≡ zeros 2 ++ (padded 4086 (rows_from 0 l) ++ padded 1024 (strings l))
  pub count : p.count ≡ length l
  pub end : p.end ≡ length (strings l)

-- Nodes are laid behind those that are there, where all fit.
pub record Adds (k : List Node) (t : Bytes) (p : Place) (t' : Bytes) (p' : Place) : Type 0 where
  pub long : length t' ≡ length t
  pub laid : (l : List Node) → Fits (l ++ k) → Laid t p l → Laid t' p' (l ++ k)

abbrev pub Puts : Node → Bytes → Place → Bytes → Place → Type 0
Puts x t p t' p' = Adds (x ∷ []) t p t' p'
