-- Working definitions: nodes whose strings are places in the bytes of all strings.
use Rattle.text.specs.Bytes.{Bytes}
use Rattle.text.specs.Parts.{part_of}
use Rattle.values.specs.Names.{bare, qualified}
use Rattle.query_tree.specs.Nodes.{Node}
use Rattle.query_tree.specs.declared.TreeNode.{TreeNode}

-- The node, by those bytes.
abbrev pub node_by : Bytes → TreeNode → Node
node_by s (TreeNode.And n) = Node.and n
node_by s (TreeNode.Or n) = Node.or n
node_by s (TreeNode.Bar n) = Node.bar n
node_by s (TreeNode.Category p) = Node.category (part_of s p)
node_by s (TreeNode.Namespace p) = Node.namespace (part_of s p)
node_by s (TreeNode.Bare c p) = Node.reference c (bare (part_of s p))
node_by s (TreeNode.Qualified c p q) = Node.reference c (qualified (part_of s p) (part_of s q))
node_by s TreeNode.Existence = Node.existence
node_by s (TreeNode.Value c p) = Node.value c (part_of s p)
node_by s TreeNode.Subquery = Node.subquery
node_by s (TreeNode.Property p) = Node.property (part_of s p)
node_by s (TreeNode.Link p) = Node.link (part_of s p)
