-- Working definitions: what a declared node says of a text, whether it keeps the rules, and what reading one answers.
use Rattle.std.specs.Prelude.{◌≡◌, Bool, true, false, ◌&&◌, Option, Some, None}
use Rattle.std.specs.Bool.{then_some}
use Rattle.std.specs.Option.{option_map}
use Rattle.text.specs.Bytes.{Bytes}
use Rattle.text.specs.Parts.{part_of}
use Rattle.text.specs.declared.Span.{Span}
use Rattle.names.specs.Names.{is_composed_name, is_composed_property_name, is_composed_namespace}
use Rattle.values.specs.Names.{is_composed_reference, is_value}
use Rattle.values.specs.Answers.{split_of}
use Rattle.values.specs.Values.{scalar, string, in_range, Constant as CoreConstant}
use Rattle.language.specs.Answer.{found}
use Rattle.query_core.specs.declared.Constant.{Constant}
use Rattle.query_core.specs.declared.Selector.{Selector}
use Rattle.query_core.specs.declared.Connective.{Connective}
use Rattle.query_core.specs.declared.Node.{Node}
use Rattle.query_core.specs.declared.Slot.{Slot}
use Rattle.query_core.specs.Postfix as Postfix
use Rattle.query_core.specs.Held.{constant_of}

-- The constant, and the postfix node, that a declared one is; their strings lie in s.
abbrev pub constant_by : Bytes → Constant → CoreConstant
constant_by s (Constant.Scalar k n) = scalar k n
constant_by s (Constant.String p) = string (part_of s p)

-- The same of a selector and of a node: names lie in s, what a name is compared with in t.
abbrev pub selector_over : Bytes → Bytes → Selector → Postfix.Node
selector_over s t (Selector.Category p) = Postfix.category (part_of s p)
selector_over s t (Selector.Namespace p) = Postfix.namespace (part_of s p)
selector_over s t (Selector.Existence p) = Postfix.existence (part_of s p)
selector_over s t (Selector.Subquery p) = Postfix.subquery (part_of s p)
selector_over s t (Selector.Article c p) = Postfix.article c (part_of t p)
selector_over s t (Selector.Value p c k) = Postfix.value (part_of s p) c (constant_by t k)
selector_over s t (Selector.Link p c r) = Postfix.link (part_of s p) c (split_of t r)

abbrev pub joined_over : Bytes → Bytes → Connective → Selector → Postfix.Node
joined_over s t Connective.And x = Postfix.conjunction
joined_over s t Connective.Or x = Postfix.disjunction
joined_over s t Connective.Select x = selector_over s t x

abbrev pub node_over : Bytes → Bytes → Node → Postfix.Node
node_over s t n = joined_over s t n.connective n.selector

-- The same where all lies in one text.
abbrev pub selector_by : Bytes → Selector → Postfix.Node
selector_by s x = selector_over s s x

abbrev pub joined_by : Bytes → Connective → Selector → Postfix.Node
joined_by s k x = joined_over s s k x

abbrev pub node_by : Bytes → Node → Postfix.Node
node_by s n = node_over s s n

-- Names and constants keep their rules.
abbrev pub keeps_constant : Bytes → Constant → Bool
keeps_constant s (Constant.Scalar k n) = in_range k n
keeps_constant s (Constant.String p) = is_value (part_of s p)

abbrev pub keeps_selector : Bytes → Selector → Bool
keeps_selector s (Selector.Category p) = is_composed_name (part_of s p)
keeps_selector s (Selector.Namespace p) = is_composed_namespace (part_of s p)
keeps_selector s (Selector.Existence p) = is_composed_property_name (part_of s p)
keeps_selector s (Selector.Subquery p) = is_composed_property_name (part_of s p)
keeps_selector s (Selector.Article c p) = is_composed_name (part_of s p)
keeps_selector s (Selector.Value p c k) = is_composed_property_name (part_of s p) && keeps_constant s k
keeps_selector s (Selector.Link p c r) = is_composed_property_name (part_of s p) && is_composed_reference (split_of s r)

abbrev pub keeps_joined : Bytes → Connective → Selector → Bool
keeps_joined s Connective.And x = true
keeps_joined s Connective.Or x = true
keeps_joined s Connective.Select x = keeps_selector s x

abbrev pub keeps : Bytes → Node → Bool
keeps s n = keeps_joined s n.connective n.selector

-- What the reading functions answer.
-- r is the slot's constant, where it has one, and keeps its rule.
pub record ConstantReads (s : Bytes) (x : Slot) (r : Option Constant) : Type 0 where
  pub is : constant_of s x ≡ option_map (constant_by s) r
  pub keeps : found r (keeps_constant s) true ≡ true

abbrev pub selected : Bool → Selector → Option Node
selected fit x = then_some fit (record { connective = Connective.Select; selector = x })

abbrev pub joining : Connective → Option Node
joining c = Some (record { connective = c; selector = Selector.Category (record { start = 0; len = 0 }) })

-- r is the node o, where there is one, and keeps the rules.
pub record ReadsNode (s : Bytes) (o : Option Postfix.Node) (r : Option Node) : Type 0 where
  pub is : o ≡ option_map (node_by s) r
  pub keeps : found r (keeps s) true ≡ true

-- A node that expects values of one kind.
abbrev pub expects_kind : Postfix.Node → Bool
expects_kind (Postfix.subquery x) = true
expects_kind Postfix.conjunction = false
expects_kind Postfix.disjunction = false
expects_kind (Postfix.category x) = false
expects_kind (Postfix.namespace x) = false
expects_kind (Postfix.existence x) = false
expects_kind (Postfix.article c x) = false
expects_kind (Postfix.value x c v) = true
expects_kind (Postfix.link x c r) = true

-- What is told of a node, where there is one.
unfoldable pub TestsNode : (Postfix.Node → Bool) → Option Postfix.Node → Bool → Type 0
TestsNode f o r = (m : Postfix.Node) → o ≡ Some m → r ≡ f m

-- Whether a namespace, if one is written, keeps the rule.
abbrev pub is_spaced : Bytes → Option Span → Bool
is_spaced s None = true
is_spaced s (Some n) = is_composed_namespace (part_of s n)
