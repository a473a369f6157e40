-- What the rules keep of a surface query, elaboration keeps of its core query: it has a form.
use Rattle.std.specs.Prelude.{Option, Some, None}
use Prim.Native.Nat.{ℕ, ◌≤◌}
use mathlib.Core.Path.{◌≡◌, refl, subst, ◌∙◌}
use mathlib.Core.Bool.{Bool, true, false, cond, not, ◌&&◌}
use mathlib.Core.List.{List, [], ◌∷◌, ◌++◌}
use native.Mathlib.Omega.{arith}
use borrow.Author.Tests.{ltb-false, le-leb}
use lib.Dec.{ltb}
use Rattle.text.specs.Bytes.{Bytes, all, any}
use Rattle.text.proofs.Laws.{all_append}
use Rattle.values.specs.declared.Kind.{Kind}
use Rattle.names.specs.Names.{is_composed_name, is_composed_namespace, is_composed_property_name}
use Rattle.values.specs.Names.{Reference, bare, qualified, reference, is_reference, composed_reference, is_composed_reference, is_value}
use Rattle.values.proofs.Spelled.{composed_is_reference}
use Rattle.values.specs.Values.{Constant, scalar, map_option, read_scalar, read_constant}
use Rattle.values.proofs.EachKind.{read_in_range}
use Rattle.language.specs.Answer.{refused, accepted, found, ◌>>=◌}
use Rattle.language.specs.Comparators.{is_equal, in_any_namespace}
use Rattle.language.specs.Register.{Typing}
use Rattle.language.specs.Surface.{Chain, single, chain, Categories, Identifiers, Alternatives, Query, properties_of}
use Rattle.language.specs.Core.{Core, nodes}
use Rattle.language.specs.Core as Core
use Rattle.language.specs.Elaboration.{compared, article_stands, within, elaborate_reference, elaborate_identifiers, elaborate_categories, elaborate_constant, elaborate_value, inside, joined, along, elaborate_in, elaborate, is_undeclared, fit}
use Rattle.language.specs.declared.Comparator.{Comparator}
use Rattle.language.specs.declared.SurfaceComparator.{SurfaceComparator}
use Rattle.language.proofs.AllComparators.{of_cond, of_compared}
use Rattle.language.proofs.Members.{and_true, both_true}
use Rattle.query_core.specs.Postfix.{Node, post}
use Rattle.query_core.specs.Form.{is_constant, is_node, is_core}
use Rattle.query_tree_spelling.specs.Spelled.{is_one_category, is_one_identifier, is_one_alternative, spelled_categories, spelled_identifiers, reads_as_category, spelled_value, spelled_names, spelled_chain, spelled_in, is_spelled}

-- A core query whose names and constants keep the rules.
unfoldable pub Keeps : Core → Type 0
Keeps c = all is_node (post c) ≡ true

abbrev KeepsSome : Option Core → Type 0
KeepsSome None = Unit {0}
KeepsSome (Some c) = Keeps c

one_keeps : (n : Node) → is_node n ≡ true → all is_node (n ∷ []) ≡ true
unfolding all
one_keeps n h = both_true h refl

behind_keeps : (l : List Node) (n : Node) → all is_node l ≡ true → is_node n ≡ true → all is_node (l ++ (n ∷ [])) ≡ true
behind_keeps l n h k = all_append is_node l (n ∷ []) ∙ both_true h (one_keeps n k)

or_keeps : (a b : Core) → Keeps a → Keeps b → Keeps (Core.disjunction a b)
unfolding Keeps post is_node
or_keeps a b h k = behind_keeps (post a ++ post b) Node.disjunction (all_append is_node (post a) (post b) ∙ both_true h k) refl

and_keeps : (a b : Core) → Keeps a → Keeps b → Keeps (Core.conjunction a b)
unfolding Keeps post is_node
and_keeps a b h k = behind_keeps (post a ++ post b) Node.conjunction (all_append is_node (post a) (post b) ∙ both_true h k) refl

subquery_keeps : (x : Bytes) (c : Core) → is_composed_property_name x ≡ true → Keeps c → Keeps (Core.select (Core.subquery x c))
unfolding Keeps post is_node
subquery_keeps x c h k = behind_keeps (post c) (Node.subquery x) k h

compared_keeps : (f : Comparator → Core) (c : SurfaceComparator) → ((d : Comparator) → Keeps (f d)) → Keeps (compared f c)
compared_keeps f c h = of_compared Keeps f c or_keeps h

-- One selector.
article_keeps : (x : Bytes) (d : Comparator) → is_composed_name x ≡ true → Keeps (Core.select (Core.article d x))
unfolding Keeps post is_node
article_keeps x d h = one_keeps (Node.article d x) h

namespace_keeps : (n : Bytes) → is_composed_namespace n ≡ true → Keeps (Core.select (Core.namespace n))
unfolding Keeps post is_node
namespace_keeps n h = one_keeps (Node.namespace n) h

category_keeps : (x : Bytes) → is_composed_name x ≡ true → Keeps (Core.select (Core.category x))
unfolding Keeps post is_node
category_keeps x h = one_keeps (Node.category x) h

existence_keeps : (x : Bytes) → is_composed_property_name x ≡ true → Keeps (Core.select (Core.existence x))
unfolding Keeps post is_node
existence_keeps x h = one_keeps (Node.existence x) h

value_keeps : (x : Bytes) (d : Comparator) (v : Constant) → is_composed_property_name x ≡ true → is_constant v ≡ true → Keeps (Core.select (Core.value x d v))
unfolding Keeps post is_node
value_keeps x d v h k = one_keeps (Node.value x d v) (both_true h k)

link_keeps : (x : Bytes) (c : SurfaceComparator) (r : Reference) → is_composed_property_name x ≡ true → is_composed_reference r ≡ true → Keeps (Core.select (Core.link x c r))
unfolding Keeps post is_node
link_keeps x c r h k = one_keeps (Node.link x c r) (both_true h k)

-- References.
stands_keeps : (x : Bytes) (c : SurfaceComparator) → is_composed_name x ≡ true → Keeps (compared (λ d. Core.select (Core.article d x)) c)
stands_keeps x c h = compared_keeps (λ d. Core.select (Core.article d x)) c (λ d. article_keeps x d h)

within_keeps : (n x : Bytes) (c : SurfaceComparator) → is_composed_namespace n ≡ true → is_composed_name x ≡ true → Keeps (Core.conjunction (Core.select (Core.namespace n)) (compared (λ d. Core.select (Core.article d x)) c))
within_keeps n x c h k = and_keeps (Core.select (Core.namespace n)) (compared (λ d. Core.select (Core.article d x)) c) (namespace_keeps n h) (stands_keeps x c k)

main_name : is_composed_namespace [] ≡ true
unfolding is_composed_namespace
main_name = refl

reference_keeps : (c : SurfaceComparator) (r : Reference) → is_composed_reference r ≡ true → Keeps (elaborate_reference c r)
unfolding elaborate_reference
reference_keeps c (bare x) h = of_cond Keeps (is_equal c) (within [] (article_stands x c)) (article_stands x c) (within_keeps [] x c main_name h) (stands_keeps x c h)
reference_keeps c (qualified n x) h =
    let k = and_true (is_composed_namespace n) (is_composed_name x) h in
    of_cond Keeps (in_any_namespace c) (article_stands x c) (within n (article_stands x c)) (stands_keeps x c k.1) (within_keeps n x c k.0 k.1)

-- Constants that are read.
abbrev ReadKeeps : Option Constant → Type 0
ReadKeeps None = Unit {0}
ReadKeeps (Some v) = is_constant v ≡ true

read_keeps : (k : Kind) (v : Bytes) → is_value v ≡ true → ReadKeeps (read_constant k v)
read_keeps Kind.Page v h = tt
read_keeps (Kind.Scalar k) v h = go (read_scalar k v) refl
  where
    go : (o : Option ℕ) → read_scalar k v ≡ o → ReadKeeps (map_option (scalar k) o)
    go None e = tt
    go (Some n) e = read_in_range k v n e
read_keeps Kind.String v h = h

constant_keeps : (x : Bytes) (c : SurfaceComparator) (o : Option Constant) → is_composed_property_name x ≡ true → ReadKeeps o → KeepsSome (map_option (elaborate_constant x c) o)
unfolding elaborate_constant
constant_keeps x c None h k = tt
constant_keeps x c (Some v) h k = compared_keeps (λ d. Core.select (Core.value x d v)) c (λ d. value_keeps x d v h k)

piece_keeps : (x : Bytes) (c : SurfaceComparator) (v : Bytes) (k : Kind) → is_composed_property_name x ≡ true → is_value v ≡ true → KeepsSome (elaborate_value x c v k)
unfolding elaborate_value
piece_keeps x c v Kind.Page h j = go (is_reference (reference v)) refl
  where
    r : Reference
    r = composed_reference (reference v)

    go : (b : Bool) → is_reference (reference v) ≡ b → KeepsSome (cond b (Some (Core.select (Core.link x c r))) None)
    go false e = tt
    go true e = link_keeps x c r h (composed_is_reference (reference v) e)
piece_keeps x c v (Kind.Scalar k) h j = constant_keeps x c (read_constant (Kind.Scalar k) v) h (read_keeps (Kind.Scalar k) v j)
piece_keeps x c v Kind.String h j = constant_keeps x c (read_constant Kind.String v) h (read_keeps Kind.String v j)

-- Options.
joined_keeps : (f : Core → Core → Core) → ((a b : Core) → Keeps a → Keeps b → Keeps (f a b)) → (a b : Option Core) → KeepsSome a → KeepsSome b → KeepsSome (joined f a b)
unfolding joined
joined_keeps f law None b h k = tt
joined_keeps f law (Some a) None h k = tt
joined_keeps f law (Some a) (Some b) h k = law a b h k

inside_keeps : (x : Bytes) (k : Option Kind) (o : Option Core) → is_composed_property_name x ≡ true → KeepsSome o → KeepsSome (inside x k o)
unfolding inside
inside_keeps x None o h j = tt
inside_keeps x (Some Kind.Page) None h j = tt
inside_keeps x (Some Kind.Page) (Some c) h j = subquery_keeps x c h j
inside_keeps x (Some (Kind.Scalar k)) o h j = tt
inside_keeps x (Some Kind.String) o h j = tt

kind_keeps : (k : Option Kind) (f : Kind → Option Core) → ((a : Kind) → KeepsSome (f a)) → KeepsSome (k >>= f)
kind_keeps None f h = tt
kind_keeps (Some a) f h = h a

-- Queries.
categories_keep : (c : Categories) → spelled_categories c ≡ true → Keeps (elaborate_categories c)
unfolding spelled_categories elaborate_categories
categories_keep (Categories.one x) h = category_keeps x h
categories_keep (Categories.either a b) h =
    let k = and_true (spelled_categories a) (is_one_category b && spelled_categories b) h in
    or_keeps (elaborate_categories a) (elaborate_categories b) (categories_keep a k.0) (categories_keep b (and_true (is_one_category b) (spelled_categories b) k.1).1)

identifiers_keep : (i : Identifiers) → spelled_identifiers i ≡ true → Keeps (elaborate_identifiers i)
unfolding spelled_identifiers elaborate_identifiers
identifiers_keep (Identifiers.namespace n) h = namespace_keeps n h
identifiers_keep (Identifiers.reference c r) h = reference_keeps c r h
identifiers_keep (Identifiers.either a b) h =
    let k = and_true (spelled_identifiers a) (is_one_identifier b && spelled_identifiers b) h in
    or_keeps (elaborate_identifiers a) (elaborate_identifiers b) (identifiers_keep a k.0) (identifiers_keep b (and_true (is_one_identifier b) (spelled_identifiers b) k.1).1)

along_keeps : (Γ : Typing) (p : Chain) (f : Bytes → Option Core) → spelled_names p ≡ true → ((x : Bytes) → is_composed_property_name x ≡ true → KeepsSome (f x)) → KeepsSome (along Γ p f)
unfolding along spelled_names
along_keeps Γ (single x) f h k = k x h
along_keeps Γ (chain x p) f h k =
    let e = and_true (is_composed_property_name x) (spelled_names p) h in
    inside_keeps x (Γ x) (along Γ p f) e.0 (along_keeps Γ p f e.1 k)

module _ (Γ : Typing) where
  mutual
    unfolding elaborate is_spelled spelled_value spelled_chain

    in_keeps : (a : Alternatives) (x : Bytes) → is_composed_property_name x ≡ true → spelled_in a ≡ true → KeepsSome (elaborate_in a Γ x)
    in_keeps Alternatives.existence x n h = existence_keeps x n
    in_keeps (Alternatives.value c v) x n h = kind_keeps (Γ x) (elaborate_value x c v) (λ k. piece_keeps x c v k n (and_true (is_value v) _ h).0)
    in_keeps (Alternatives.subquery q) x n h = inside_keeps x (Γ x) (elaborate q Γ) n (query_keeps q h)
    in_keeps (Alternatives.either a b) x n h =
        let k = and_true (spelled_in a) (is_one_alternative b && spelled_in b) h in
        joined_keeps Core.disjunction or_keeps (elaborate_in a Γ x) (elaborate_in b Γ x) (in_keeps a x n k.0) (in_keeps b x n (and_true (is_one_alternative b) (spelled_in b) k.1).1)

    query_keeps : (q : Query) → is_spelled q ≡ true → KeepsSome (elaborate q Γ)
    query_keeps (Query.category c) h = categories_keep c h
    query_keeps (Query.identifier i) h = identifiers_keep i (and_true (spelled_identifiers i) (not (reads_as_category i)) h).0
    query_keeps (Query.property p a) h =
        let k = and_true (spelled_chain p) (spelled_in a) h in
        along_keeps Γ p (λ x. elaborate_in a Γ x) (and_true (spelled_names p) _ k.0).0 (λ x n. in_keeps a x n k.1)
    query_keeps (Query.disjunction a b) h =
        let k = and_true (is_spelled a) (is_spelled b) h in
        joined_keeps Core.disjunction or_keeps (elaborate a Γ) (elaborate b Γ) (query_keeps a k.0) (query_keeps b k.1)
    query_keeps (Query.conjunction a b) h =
        let k = and_true (is_spelled a) (is_spelled b) h in
        joined_keeps Core.conjunction and_keeps (elaborate a Γ) (elaborate b Γ) (query_keeps a k.0) (query_keeps b k.1)

  pub elaborated_keeps : (q : Query) (c : Core) → is_spelled q ≡ true → elaborate q Γ ≡ Some c → all is_node (post c) ≡ true
  unfolding Keeps
  elaborated_keeps q c h e = subst KeepsSome e (query_keeps q h)

-- A core query has a node.
some_node : (c : Core) → 1 ≤ nodes c
unfolding nodes
some_node (Core.select (Core.category x)) = omega arith
some_node (Core.select (Core.namespace x)) = omega arith
some_node (Core.select (Core.existence x)) = omega arith
some_node (Core.select (Core.subquery x q)) = omega arith
some_node (Core.select (Core.article c x)) = omega arith
some_node (Core.select (Core.value x c v)) = omega arith
some_node (Core.select (Core.link x c r)) = omega arith
some_node (Core.disjunction a b) = omega arith
some_node (Core.conjunction a b) = omega arith

-- What fitting accepts is a core query that has a form.
pub fitted_core : (Γ : Typing) (q : Query) (c : Core) → is_spelled q ≡ true → fit Γ q ≡ accepted c → is_core c ≡ true
unfolding fit is_core
fitted_core Γ q c h e = go (any (is_undeclared Γ) (properties_of q)) (elaborate q Γ) refl e
  where
    go : (u : Bool) (o : Option Core) → elaborate q Γ ≡ o → cond u (refused 17) (found o (λ d. cond (ltb 256 (nodes d)) (refused 19) (accepted d)) (refused 18)) ≡ accepted c → is_core c ≡ true
    go true o f g = absurd (let y : ◌≡◌ {A = ℕ} 0 1 = cc in omega arith)
    go false None f g = absurd (let y : ◌≡◌ {A = ℕ} 0 1 = cc in omega arith)
    go false (Some d) f g = few (ltb 256 (nodes d)) refl g
      where
        few : (m : Bool) → ltb 256 (nodes d) ≡ m → cond m (refused 19) (accepted d) ≡ accepted c → is_core c ≡ true
        few true i j = absurd (let y : ◌≡◌ {A = ℕ} 0 1 = cc in omega arith)
        few false i j =
            let same : d ≡ c = cc in
            rw (← same) (both_true (both_true (le-leb 1 (nodes d) (some_node d)) (le-leb (nodes d) 256 (ltb-false 256 (nodes d) i))) (elaborated_keeps Γ q d h f))
