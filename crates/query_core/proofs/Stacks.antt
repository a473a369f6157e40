-- Laws of the stack: one node more, its height, and the test for a query.
use Rattle.std.specs.Prelude.{Option, Some, None}
use Rattle.std.specs.Option.{is_some}
use Prim.Native.Nat.{ℕ, zero, suc, ◌+◌, ◌-◌, ◌≤◌, ◌<◌}
use mathlib.Core.Path.{◌≡◌, refl, sym, ◌∙◌}
use mathlib.Core.List.{List, [], ◌∷◌, ◌++◌}
use mathlib.Core.Bool.{Bool, true, false, not, ◌&&◌, and-eq-true_iff}
use native.Mathlib.Omega.{arith}
use native.Mathlib.Numerals.{add-one}
use lib.Dec.{leb, eqb}
use lib.ListN.{length}
use borrow.Author.Tests.{le-leb, lt-leb, leb-true, leb-false, ne_eqb, not-true, not-false}
use Rattle.text.specs.Bytes.{Bytes}
use Rattle.buffer.specs.Numbers.{two_at}
use Rattle.values.specs.Values.{map_option}
use Rattle.language.specs.Answer.{◌>>=◌, only_if}
use Rattle.language.specs.Core.{Core}
use Rattle.query_core.specs.declared.Selector.{Selector}
use Rattle.query_core.specs.declared.Connective.{Connective}
use Rattle.query_core.specs.declared.Node.{Node as DeclaredNode}
use Rattle.query_core.specs.Postfix.{Node, post, stepped, runs, only, read_back}
use Rattle.query_core.specs.Held.{query_size, count_in, heap_in, node_in, nodes_to, has_sizes, held_query}
use Rattle.query_core.specs.Reading.{joined_by, node_by, ReadsNode}
use Rattle.query_core.specs.Stack.{stack_at, height_at, HoldsCore, arity, risen, joined_arity, arity_by}
use Rattle.query_core.proofs.Postfix.{runs_append, runs_post}

-- One node more on the stack.
module _ (h : Bytes) (i : ℕ) where
  pub stack_suc : stack_at h (suc i) ≡ (stack_at h i >>= λ st. node_in h i >>= λ m. stepped m st)
  unfolding stack_at nodes_to runs
  stack_suc = go (nodes_to h i) (node_in h i)
    where
      last : (o : Option (List Core)) (m : Node) → (o >>= runs (m ∷ [])) ≡ (o >>= λ st. stepped m st)
      last None m = refl
      last (Some st) m = one (stepped m st)
        where
          one : (o : Option (List Core)) → (o >>= λ st. Some st) ≡ o
          one None = refl
          one (Some st) = refl

      nothing : (o : Option (List Core)) → ◌≡◌ {A = Option (List Core)} None (o >>= λ st. None)
      nothing None = refl
      nothing (Some st) = refl

      go : (l : Option (List Node)) (n : Option Node) → ((l >>= λ k. n >>= λ m. Some (k ++ (m ∷ []))) >>= λ k. runs k []) ≡ ((l >>= λ k. runs k []) >>= λ st. n >>= λ m. stepped m st)
      go None n = refl
      go (Some k) None = nothing (runs k [])
      go (Some k) (Some m) = runs_append k (m ∷ []) [] ∙ last (runs k []) m

  pub stack_step : (m : Node) → node_in h i ≡ Some m → stack_at h (suc i) ≡ (stack_at h i >>= stepped m)
  stack_step m e = stack_suc ∙ rw e

pub stack_zero : (h : Bytes) → stack_at h 0 ≡ Some []
unfolding stack_at nodes_to runs
stack_zero h = refl

-- A node takes what it takes, and leaves one.
module _ (m : Node) (k : ℕ) where
  pub risen_some : (j : ℕ) → arity m ≤ k → j + arity m ≡ suc k → risen m k ≡ Some j
  unfolding risen
  risen_some j l e =
      let q : (k - arity m) + 1 ≡ j = omega arith in
      rw (le-leb (arity m) k l, q)

  pub risen_none : k < arity m → risen m k ≡ None
  unfolding risen
  risen_none l = rw (lt-leb (arity m) k l)

pub stepped_height : (m : Node) (st : List Core) → map_option length (stepped m st) ≡ risen m (length st)
unfolding stepped
stepped_height Node.conjunction [] = sym (risen_none Node.conjunction 0 (omega arith))
stepped_height Node.conjunction (b ∷ []) = sym (risen_none Node.conjunction 1 (omega arith))
stepped_height Node.conjunction (b ∷ a ∷ st) = sym (risen_some Node.conjunction _ _ (omega arith) (omega arith))
stepped_height Node.disjunction [] = sym (risen_none Node.disjunction 0 (omega arith))
stepped_height Node.disjunction (b ∷ []) = sym (risen_none Node.disjunction 1 (omega arith))
stepped_height Node.disjunction (b ∷ a ∷ st) = sym (risen_some Node.disjunction _ _ (omega arith) (omega arith))
stepped_height (Node.category x) st = sym (risen_some (Node.category x) _ _ (omega arith) (omega arith))
stepped_height (Node.namespace x) st = sym (risen_some (Node.namespace x) _ _ (omega arith) (omega arith))
stepped_height (Node.existence x) st = sym (risen_some (Node.existence x) _ _ (omega arith) (omega arith))
stepped_height (Node.subquery x) [] = sym (risen_none (Node.subquery x) 0 (omega arith))
stepped_height (Node.subquery x) (a ∷ st) = sym (risen_some (Node.subquery x) _ _ (omega arith) (omega arith))
stepped_height (Node.article c x) st = sym (risen_some (Node.article c x) _ _ (omega arith) (omega arith))
stepped_height (Node.value x c v) st = sym (risen_some (Node.value x c v) _ _ (omega arith) (omega arith))
stepped_height (Node.link x c r) st = sym (risen_some (Node.link x c r) _ _ (omega arith) (omega arith))

-- The height after one node more; what does not run does not run on.
pub height_suc : (h : Bytes) (i : ℕ) → height_at h (suc i) ≡ (height_at h i >>= λ k. node_in h i >>= λ m. risen m k)
unfolding height_at
height_suc h i = rw (stack_suc h i) (go (stack_at h i) (node_in h i))
  where
    go : (o : Option (List Core)) (n : Option Node) → map_option length (o >>= λ st. n >>= λ m. stepped m st) ≡ (map_option length o >>= λ k. n >>= λ m. risen m k)
    go None n = refl
    go (Some st) None = refl
    go (Some st) (Some m) = stepped_height m st

pub height_zero : (h : Bytes) → height_at h 0 ≡ Some 0
unfolding height_at
height_zero h = rw (stack_zero h)

pub height_stays : (h : Bytes) (i n : ℕ) → height_at h i ≡ None → i ≤ n → height_at h n ≡ None
height_stays h i zero e l = let q : i ≡ 0 = omega arith in rw q at e
height_stays h i (suc n) e l = go (leb i n) refl (height_stays h i n e)
  where
    go : (b : Bool) → leb i n ≡ b → (i ≤ n → height_at h n ≡ None) → height_at h (suc n) ≡ None
    go true q ih = height_suc h n ∙ rw (ih (leb-true i n q))
    go false q ih = let w : i ≡ suc n = omega (arith, leb-false i n q) in rw w at e

-- One query is left.
left_one : (o : Option (List Core)) (k : ℕ) → map_option length o ≡ Some k → eqb k 1 ≡ is_some (o >>= only)
left_one None k e = cc
left_one (Some []) k e = let q : 0 ≡ k = cc in rw (← q)
left_one (Some (a ∷ [])) k e = let q : 1 ≡ k = cc in rw (← q)
left_one (Some (a ∷ b ∷ st)) k e = let q : suc (suc (length st)) ≡ k = cc in ne_eqb k 1 (omega arith)

left_none : (o : Option (List Core)) → map_option length o ≡ None → false ≡ is_some (o >>= only)
left_none None e = refl
left_none (Some st) e = cc

-- A declared node takes as many as what it stands for.
arity_is : (s : Bytes) (c : Connective) (y : Selector) → arity (joined_by s c y) ≡ joined_arity c y
arity_is s Connective.And y = refl
arity_is s Connective.Or y = refl
arity_is s Connective.Select (Selector.Category p) = refl
arity_is s Connective.Select (Selector.Namespace p) = refl
arity_is s Connective.Select (Selector.Existence p) = refl
arity_is s Connective.Select (Selector.Subquery p) = refl
arity_is s Connective.Select (Selector.Article c p) = refl
arity_is s Connective.Select (Selector.Value p c k) = refl
arity_is s Connective.Select (Selector.Link p c r) = refl

-- What the form asks, and what is on the stack.
only_some : (o : Option (List Core)) (q : Core) → (o >>= only) ≡ Some q → o ≡ Some (q ∷ [])
only_some None q e = cc
only_some (Some []) q e = cc
only_some (Some (a ∷ [])) q e = let w : a ≡ q = cc in rw w
only_some (Some (a ∷ b ∷ st)) q e = cc

reads_stack : (h : Bytes) (n : ℕ) → (nodes_to h n >>= read_back) ≡ (stack_at h n >>= only)
unfolding stack_at read_back
reads_stack h n = go (nodes_to h n)
  where
    go : (o : Option (List Node)) → (o >>= λ l. runs l [] >>= only) ≡ ((o >>= λ l. runs l []) >>= only)
    go None = refl
    go (Some l) = refl

pub held_holds : (h : Bytes) (q : Core) → held_query h ≡ Some q → HoldsCore h q
unfolding held_query
held_holds h q e = go (has_sizes h) refl e
  where
    go : (b : Bool) → has_sizes h ≡ b → only_if b (nodes_to h (count_in h) >>= read_back) ≡ Some q → HoldsCore h q
    go false f g = let z : ◌≡◌ {A = ℕ} 0 1 = cc in absurd (omega arith)
    go true f g =
        let a = (and-eq-true_iff (leb query_size (length h) && leb 1 (count_in h)) (leb (count_in h) 256)).0 f in
        let b = (and-eq-true_iff (leb query_size (length h)) (leb 1 (count_in h))).0 a.0 in
        record {
          long = leb-true query_size (length h) b.0;
          some_node = leb-true 1 (count_in h) b.1;
          few = leb-true (count_in h) 256 a.1;
          stack = only_some (stack_at h (count_in h)) q (sym (reads_stack h (count_in h)) ∙ g);
        }

pub holds_held : (h : Bytes) (q : Core) → HoldsCore h q → held_query h ≡ Some q
unfolding held_query
holds_held h q k =
    rw (le-leb query_size (length h) k.long, le-leb 1 (count_in h) k.some_node, le-leb (count_in h) 256 k.few, reads_stack h (count_in h), k.stack)

-- The code of a query leaves that query.
pub stack_post : (h : Bytes) (n : ℕ) (q : Core) → nodes_to h n ≡ Some (post q) → stack_at h n ≡ Some (q ∷ [])
unfolding stack_at
stack_post h n q e = rw e (runs_post q [])

-- The ways of the loop: no node, a node that lacks what it takes, a node more.
module _ (h : Bytes) (i k : ℕ) (e : height_at h i ≡ Some k) (r : Option DeclaredNode) (u : ReadsNode (heap_in h) (node_in h i) r) where
  pub height_unread : r ≡ None → height_at h (suc i) ≡ None
  height_unread f = height_suc h i ∙ rw (e, u.is, f)

  module _ (x : DeclaredNode) (f : r ≡ Some x) (a : ℕ) (g : a ≡ arity_by x) where
    height_read : height_at h (suc i) ≡ risen (node_by (heap_in h) x) k
    height_read = height_suc h i ∙ rw (e, u.is, f)

    same : arity (node_by (heap_in h) x) ≡ a
    same = arity_is (heap_in h) x.connective x.selector ∙ sym g

    pub height_lacks : k < a → height_at h (suc i) ≡ None
    height_lacks l = height_read ∙ risen_none (node_by (heap_in h) x) k (omega (arith, same))

    pub height_step : a ≤ k → height_at h (i + 1) ≡ Some ((k - a) + 1)
    height_step l = rw (add-one i) (height_read ∙ risen_some (node_by (heap_in h) x) k ((k - a) + 1) (omega (arith, same)) (omega (arith, same)))

-- The ways of the test.
module _ (h : Bytes) (n m : ℕ) (f : m ≡ two_at h 0) (e : n ≡ m) where
  pub query_unsized : not (leb query_size (length h) && leb 1 n && leb n 256) ≡ true → false ≡ is_some (held_query h)
  unfolding held_query
  query_unsized g =
      let w : (leb query_size (length h) && leb 1 n && leb n 256) ≡ false = not-true _ g in
      rw (← f, ← e, w)

  module _ (g : not (leb query_size (length h) && leb 1 n && leb n 256) ≡ false) where
    query_is : is_some (held_query h) ≡ is_some (stack_at h n >>= only)
    unfolding held_query
    query_is =
        let w : (leb query_size (length h) && leb 1 n && leb n 256) ≡ true = not-false _ g in
        rw (← f, ← e, w, reads_stack h n)

    pub query_broken : (i : ℕ) → i < n → height_at h (suc i) ≡ None → false ≡ is_some (held_query h)
    unfolding height_at
    query_broken i l q = left_none (stack_at h n) (height_stays h (suc i) n q l) ∙ sym query_is

    pub query_done : (i k : ℕ) → n ≤ i → i ≤ n → height_at h i ≡ Some k → eqb k 1 ≡ is_some (held_query h)
    unfolding height_at
    query_done i k l j q =
        let w : i ≡ n = omega arith in
        left_one (stack_at h n) k (rw w at q) ∙ sym query_is
