-- What bytes hold keeps the rules for core queries.
use Rattle.std.specs.Prelude.{Some}
use Prim.Native.Nat.{ℕ, zero, suc}
use mathlib.Core.Path.{◌≡◌, refl, sym, ap, subst, ◌∙◌}
use mathlib.Core.Bool.{true, ◌&&◌}
use mathlib.Core.List.{List, [], ◌∷◌, ◌++◌, append_assoc, append-nil}
use native.Mathlib.Omega.{arith}
use lib.Dec.{eqb, leb, ltb}
use lib.ListN.{length, length-append}
use lib.Seq.{append_snoc}
use Rattle.text.specs.Bytes.{Bytes, all}
use Rattle.text.specs.Parts.{part_of}
use Rattle.text.proofs.Laws.{all_append}
use Rattle.names.specs.Names.{is_composed_property_name}
use Rattle.values.specs.Names.{Reference, is_composed_reference, is_value}
use Rattle.values.specs.Values.{Constant, scalar, string, kind_count, kind_from, in_range}
use Rattle.values.specs.declared.Kind.{Kind}
use Rattle.language.specs.Answer.{◌>>=◌}
use Rattle.language.specs.declared.SurfaceComparator.{SurfaceComparator}
use Rattle.language.specs.Core.{Core, nodes}
use Rattle.language.proofs.Members.{and_true, both_true}
use Rattle.language.proofs.Options.{OnSome, on_bind, on_weaker}
use Rattle.query_core.specs.declared.Slot.{Slot}
use Rattle.query_core.specs.Postfix.{Node, post, stepped, runs, only, read_back}
use Rattle.query_core.specs.Held.{query_size, count_in, heap_in, constant_of_kind, constant_from, constant_of, surface_from, link_from, link_by, node_of, slot_in, node_in, nodes_to, has_sizes, held_query}
use Rattle.query_core.specs.Form.{is_constant, is_node, is_core}
use Rattle.query_core.proofs.Nodewise.{on_cond, on_only, on_any, on_node}
use Rattle.query_core.proofs.Postfix.{length_post}

-- Constants.
abbrev KeptConstant : Constant → Type 0
KeptConstant v = is_constant v ≡ true

kind_kept : (k : Kind) (n : ℕ) (s : Bytes) → OnSome KeptConstant (constant_of_kind k n s)
kind_kept Kind.Page n s = tt
kind_kept (Kind.Scalar k) n s = on_only KeptConstant (in_range k n) (Some (scalar k n)) (λ h. h)
kind_kept Kind.String n s = on_only KeptConstant (is_value s) (Some (string s)) (λ h. h)

constant_kept : (s : Bytes) (x : Slot) → OnSome KeptConstant (constant_of s x)
unfolding constant_of constant_from
constant_kept s x = on_only KeptConstant (ltb x.kind kind_count) _ (λ e. kind_kept (kind_from x.kind) x.number (part_of s x.second))

-- Nodes.
abbrev KeptNode : Node → Type 0
KeptNode m = is_node m ≡ true

Any : SurfaceComparator → Type 0
Any d = Unit {0}

link_kept : (c : ℕ) (y : Bytes) (r : Reference) → OnSome KeptNode (link_from c y r)
unfolding link_from is_node Any
link_kept c y r =
    on_only KeptNode (is_composed_property_name y && is_composed_reference r) (surface_from c >>= λ d. Some (Node.link y d r))
    (λ h. on_bind Any KeptNode (surface_from c) (λ d. Some (Node.link y d r)) (on_any Any (surface_from c) (λ d. tt)) (λ d u. h))

links_kept : (s : Bytes) (k : ℕ) (x : Slot) → OnSome KeptNode (link_by s k x)
unfolding link_by
links_kept s zero x = link_kept _ _ _
links_kept s (suc n) x = link_kept _ _ _

node_kept : (s : Bytes) (tag : ℕ) (x : Slot) → OnSome KeptNode (node_of s tag x)
unfolding node_of is_node
node_kept s tag x =
    on_cond KeptNode (eqb tag 8) _ _ (λ e. links_kept s x.kind x)
    (on_node KeptNode KeptConstant tag x.comparator (constant_of s x) (part_of s x.first) (part_of s x.second) (constant_kept s x)
    (λ e. refl) (λ e. refl) (λ e h. h) (λ e h. h) (λ e h. h) (λ e h. h) (λ e h d. h) (λ e h d w k. both_true h k))

-- The nodes that were read.
pub record NodesRead (n : ℕ) (l : List Node) : Type 0 where
  pub count : length l ≡ n
  pub rules : all is_node l ≡ true

nodes_kept : (h : Bytes) (n : ℕ) → OnSome (NodesRead n) (nodes_to h n)
unfolding nodes_to all node_in
nodes_kept h zero = record { count = refl; rules = refl }
nodes_kept h (suc n) =
    on_bind (NodesRead n) (NodesRead (suc n)) (nodes_to h n) (λ l. node_in h n >>= λ m. Some (l ++ (m ∷ []))) (nodes_kept h n)
    (λ l k. on_bind KeptNode (NodesRead (suc n)) (node_in h n) (λ m. Some (l ++ (m ∷ []))) (node_kept (heap_in h) (slot_in h n).tag (slot_in h n))
    (λ m j. record { count = omega (arith, length-append l (m ∷ []), k.count); rules = all_append is_node l (m ∷ []) ∙ both_true k.rules (both_true j refl) }))

-- The nodes of the queries on a stack, the last one first.
unfoldable codes : List Core → List Node
codes [] = []
codes (q ∷ st) = codes st ++ post q

-- A node goes behind them.
abbrev Codes : List Node → List Core → Type 0
Codes l st = codes st ≡ l

joined_codes : (k a b : List Node) (x : Node) → k ++ (a ++ b ++ (x ∷ [])) ≡ k ++ a ++ b ++ (x ∷ [])
joined_codes k a b x = sym (append_assoc k (a ++ b) (x ∷ [])) ∙ ap (λ (r : List Node). r ++ (x ∷ [])) (sym (append_assoc k a b))

stepped_codes : (m : Node) (st : List Core) → OnSome (Codes (codes st ++ (m ∷ []))) (stepped m st)
unfolding stepped codes post
stepped_codes Node.conjunction [] = tt
stepped_codes Node.conjunction (b ∷ []) = tt
stepped_codes Node.conjunction (b ∷ a ∷ st) = joined_codes (codes st) (post a) (post b) Node.conjunction
stepped_codes Node.disjunction [] = tt
stepped_codes Node.disjunction (b ∷ []) = tt
stepped_codes Node.disjunction (b ∷ a ∷ st) = joined_codes (codes st) (post a) (post b) Node.disjunction
stepped_codes (Node.category x) st = refl
stepped_codes (Node.namespace x) st = refl
stepped_codes (Node.existence x) st = refl
stepped_codes (Node.subquery x) [] = tt
stepped_codes (Node.subquery x) (a ∷ st) = sym (append_assoc (codes st) (post a) (Node.subquery x ∷ []))
stepped_codes (Node.article c x) st = refl
stepped_codes (Node.value x c v) st = refl
stepped_codes (Node.link x c r) st = refl

runs_codes : (l : List Node) (st : List Core) → OnSome (Codes (codes st ++ l)) (runs l st)
unfolding runs
runs_codes [] st = sym (append-nil (codes st))
runs_codes (m ∷ l) st =
    on_bind (Codes (codes st ++ (m ∷ []))) (Codes (codes st ++ (m ∷ l))) (stepped m st) (runs l) (stepped_codes m st)
    (λ t e. on_weaker (Codes (codes t ++ l)) (Codes (codes st ++ (m ∷ l))) (runs l t) (runs_codes l t) (λ u f. f ∙ ap (λ (r : List Node). r ++ l) e ∙ append_snoc (codes st) m l))

-- Code that reads back as a query is the code of that query.
pub post_back : (l : List Node) → OnSome (λ c. post c ≡ l) (read_back l)
unfolding read_back codes
post_back l = on_bind (Codes l) (λ c. post c ≡ l) (runs l []) only (runs_codes l []) one
  where
    one : (st : List Core) → Codes l st → OnSome (λ c. post c ≡ l) (only st)
    one [] e = tt
    one (q ∷ []) e = e
    one (q ∷ r ∷ st) e = tt

-- What bytes hold has 1 to 256 nodes, which keep their rules.
on_held : (h : Bytes) → OnSome (λ c. is_core c ≡ true) (held_query h)
unfolding held_query is_core
on_held h =
    on_only (λ c. is_core c ≡ true) (has_sizes h) (nodes_to h (count_in h) >>= read_back)
    (λ s.
    let a = and_true (leb query_size (length h) && leb 1 (count_in h)) (leb (count_in h) 256) s in
    let b = and_true (leb query_size (length h)) (leb 1 (count_in h)) a.0 in
    on_bind (NodesRead (count_in h)) (λ c. is_core c ≡ true) (nodes_to h (count_in h)) read_back (nodes_kept h (count_in h))
    (λ l k. on_weaker (λ c. post c ≡ l) (λ c. is_core c ≡ true) (read_back l) (post_back l)
    (λ c e.
    let n : nodes c ≡ count_in h = sym (length_post c) ∙ ap length e ∙ k.count in
    rw (n, e, b.1, a.1, k.rules))))

pub held_core : (h : Bytes) (c : Core) → held_query h ≡ Some c → is_core c ≡ true
held_core h c e = subst (OnSome (λ c. is_core c ≡ true)) e (on_held h)
