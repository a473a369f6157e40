-- Working definitions: the nodes whose values may be of two kinds.
use Rattle.std.specs.Prelude.{ℕ, zero, suc, ◌≡◌, Bool, false, ◌||◌, List, Option, Some, None}
use Rattle.text.specs.Bytes.{Bytes}
use Rattle.text.specs.declared.Span.{Span}
use Rattle.values.specs.Values.{kind_of_constant}
use Rattle.values.specs.declared.Kind.{Kind}
use Rattle.language.specs.Answer.{found}
use Rattle.language.specs.Core.{Core}
use Rattle.language.specs.Register.{Register}
use Rattle.language.specs.Semantics.{some_other, mismatch}
use Rattle.query_core.specs.Held.{node_in}
use Rattle.query_core.specs.Postfix.{Node}
use Rattle.query_core.specs.Stack.{HoldsCore}
use Rattle.query_core.specs.declared.Constant.{Constant}
use Rattle.query_core.specs.declared.Selector.{Selector}
use Rattle.query_core.specs.declared.Connective.{Connective}
use Rattle.register_form.specs.Opened.{Opened}

-- The test holds of some number below n.
unfoldable pub any_to : ℕ → (ℕ → Bool) → Bool
any_to zero g = false
any_to (suc n) g = any_to n g || g n

-- The kind that a node expects of the values under a property.
abbrev pub wanted_by : Selector → Option (Span × Kind)
wanted_by (Selector.Category p) = None
wanted_by (Selector.Namespace p) = None
wanted_by (Selector.Existence p) = None
wanted_by (Selector.Subquery p) = Some (p, Kind.Page)
wanted_by (Selector.Article c p) = None
wanted_by (Selector.Value p c (Constant.Scalar k n)) = Some (p, Kind.Scalar k)
wanted_by (Selector.Value p c (Constant.String t)) = Some (p, Kind.String)
wanted_by (Selector.Link p c r) = Some (p, Kind.Page)

abbrev pub expected_in : Connective → Selector → Option (Span × Kind)
expected_in Connective.And y = None
expected_in Connective.Or y = None
expected_in Connective.Select y = wanted_by y

-- Some page holds a value of another kind than the node expects.
abbrev pub mixes : Register → Node → Bool
mixes R Node.conjunction = false
mixes R Node.disjunction = false
mixes R (Node.category x) = false
mixes R (Node.namespace x) = false
mixes R (Node.existence x) = false
mixes R (Node.subquery x) = some_other R x Kind.Page
mixes R (Node.article c x) = false
mixes R (Node.value x c v) = some_other R x (kind_of_constant v)
mixes R (Node.link x c r) = some_other R x Kind.Page

unfoldable pub mixes_in : Register → Bytes → ℕ → Bool
mixes_in R q i = found (node_in q i) (mixes R) false

-- The same of the node in place i, of the first i, and of the query that the nodes hold; the bytes h are those of a register.
unfoldable pub Mixes : Bytes → Bytes → ℕ → Bool → Type 0
Mixes h q i r = (places : List ℕ) (R : Register) → Opened h places R → r ≡ mixes_in R q i

unfoldable pub SomeMixes : Bytes → Bytes → ℕ → Bool → Type 0
SomeMixes h q i r = (places : List ℕ) (R : Register) → Opened h places R → r ≡ any_to i (mixes_in R q)

unfoldable pub Mismatches : Bytes → Bytes → Bool → Type 0
Mismatches h q r = (places : List ℕ) (R : Register) → Opened h places R → (c : Core) → HoldsCore q c → r ≡ mismatch c R
