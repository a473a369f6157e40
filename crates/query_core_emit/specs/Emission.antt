-- Working definitions: nodes put behind those that a held query has, and the core queries of references and values.
use Rattle.std.specs.Prelude.{◌≡◌, Bool, true, false, cond, List, ◌++◌, Option, Some, None}
use Rattle.std.specs.Option.{option_map}
use Rattle.text.specs.Bytes.{Bytes}
use Rattle.text.specs.Parts.{part_of}
use Rattle.text.specs.declared.Span.{Span}
use Rattle.values.specs.declared.Kind.{Kind}
use Rattle.values.specs.declared.Split.{Split}
use Rattle.values.specs.Values.{read_scalar}
use Rattle.language.specs.Comparators.{is_equal, in_any_namespace}
use Rattle.language.specs.Core.{Core}
use Rattle.language.specs.Core as Core
use Rattle.language.specs.declared.Comparator.{Comparator}
use Rattle.language.specs.declared.SurfaceComparator.{SurfaceComparator}
use Rattle.query_core.specs.declared.Selector.{Selector}
use Rattle.query_core.specs.declared.Constant.{Constant}
use Rattle.query_core.specs.declared.Place.{Place}
use Rattle.query_core.specs.Postfix.{Node, post}
use Rattle.query_core.specs.Form.{no_span}
use Rattle.query_core.specs.Reading.{constant_by}
use Rattle.query_core.specs.Writing.{Laid}
use Rattle.query_core_emit.specs.declared.Comparison.{Comparison}

-- A held query's buffer and the place behind its nodes, the same after nodes were put.
pub record Adds (k : List Node) (h : Bytes) (p : Place) (h' : Bytes) (p' : Place) : Type 0 where
  pub laid : (l : List Node) → Laid h p l → Laid h' p' (l ++ k)

-- What emission answers, where o is the core query that is meant, if there is one.
unfoldable pub Emits : Option Core → Bytes → Place → Option Place → Bytes → Type 0
Emits o h p None h' = o ≡ None
Emits o h p (Some p') h' = (c : Core) × (o ≡ Some c) × Adds (post c) h p h' p'

-- The node of OR, and of AND.
abbrev pub connective_node : Bool → Node
connective_node true = Node.disjunction
connective_node false = Node.conjunction

-- The selector of a comparison, and the core query that it is; s is the text.
abbrev pub selector_of : Comparison → Comparator → Selector
selector_of (Comparison.Article p) c = Selector.Article c p
selector_of (Comparison.Value p k) c = Selector.Value p c k

abbrev pub comparing : Bytes → Comparison → Comparator → Core
comparing s (Comparison.Article p) c = Core.select (Core.article c (part_of s p))
comparing s (Comparison.Value p k) c = Core.select (Core.value (part_of s p) c (constant_by s k))

-- The namespace that a reference is looked for in, if not in any: definition 5.3.1.
abbrev pub scope_in : SurfaceComparator → Option Span → Option Span
scope_in c None = cond (is_equal c) (Some no_span) None
scope_in c (Some n) = cond (in_any_namespace c) None (Some n)

abbrev pub scope_of : SurfaceComparator → Split → Option Span
scope_of c r = scope_in c r.namespace

-- The constant that the piece at p writes in a kind.
unfoldable pub constant_in : Bytes → Span → Kind → Option Constant
constant_in s p Kind.Page = None
constant_in s p (Kind.Scalar k) = option_map (Constant.Scalar k) (read_scalar k (part_of s p))
constant_in s p Kind.String = Some (Constant.String p)
