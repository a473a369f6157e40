-- The stack in a table: what a node makes of it, and the pass over all nodes.
use Rattle.std.specs.Prelude.{Option, Some, None}
use Prim.Native.Nat.{ℕ, zero, suc, ◌+◌, ◌-◌, ◌≤◌, ◌<◌}
use mathlib.Core.Path.{◌≡◌, refl, sym, ap, ap₂, ◌∙◌}
use mathlib.Core.Bool.{Bool, false, ◌&&◌}
use mathlib.Core.List.{List, [], ◌∷◌, ◌++◌}
use native.Mathlib.Decide.{ℕ_discrete}
use native.Mathlib.Numerals.{add-one}
use native.Mathlib.Omega.{arith}
use lib.Dec.{leb}
use lib.ListN.{length, get_or, set, length-set}
use lib.Seq.{get_or-set_same, get_or-set_other}
use borrow.Author.Tests.{le-leb, lt-leb}
use Rattle.text.specs.Bytes.{Bytes}
use Rattle.text.specs.Table.{tabulate}
use Rattle.text.proofs.Tables.{length_tabulate}
use Rattle.buffer.specs.Numbers.{two_at}
use Rattle.language.specs.Answer.{◌>>=◌, found, only_if}
use Rattle.query_tree.specs.Nodes.{Node}
use Rattle.query_tree.specs.declared.Item.{Item}
use Rattle.query_tree.specs.declared.TreeNode.{TreeNode}
use Rattle.query_tree.specs.Form.{strings_in, node_in, nodes_in}
use Rattle.query_tree.specs.Reading.{node_by}
use Rattle.query_tree.specs.Pass.{is_query, is_good, full_bytes, on_one, on_two, item_step, within, item_run, is_whole, is_tree}
use Rattle.query_tree_test.specs.Stack.{arity, made_of, blank, stack_of, run_to}

-- The stack keeps what lies below a place that is written.
below_set : (t : List Item) (m : ℕ) (v : Item) (n : ℕ) → suc n < m → stack_of (set t m v) n ≡ stack_of t n
unfolding stack_of
below_set t m v zero l = refl
below_set t m v (suc n) l = ap₂ (λ (i : Item) (st : List Item). i ∷ st) (get_or-set_other t m (suc (suc n)) v blank (λ e. omega (arith, e))) (below_set t m v n (omega arith))

top_set : (t : List Item) (v : Item) (n : ℕ) → suc (suc n) < length t → stack_of (set t (suc (suc n)) v) (suc n) ≡ v ∷ stack_of t n
unfolding stack_of
top_set t v n l = ap₂ (λ (i : Item) (st : List Item). i ∷ st) (get_or-set_same t (suc (suc n)) v blank l) (below_set t (suc (suc n)) v n (omega arith))

length_stack : (t : List Item) (n : ℕ) → length (stack_of t n) ≡ n
unfolding stack_of
length_stack t zero = refl
length_stack t (suc n) = ap suc (length_stack t n)

-- What is made of the last one or two of the first c parts.
on_one_lem : (f : Item → Option Item) (t : List Item) (c m : ℕ) → c ≡ m + 1 → on_one f (stack_of t c) ≡ (f (get_or t (suc c) blank) >>= λ k. Some (k ∷ stack_of t m))
unfolding stack_of
on_one_lem f t c m e = let z : c ≡ suc m = omega (arith, e) in rw z

on_two_lem : (f : Item → Item → Option Item) (t : List Item) (c m : ℕ) → c ≡ m + 2 → on_two f (stack_of t c) ≡ (f (get_or t c blank) (get_or t (suc c) blank) >>= λ k. Some (k ∷ stack_of t m))
unfolding stack_of
on_two_lem f t c m e = let z : c ≡ suc (suc m) = omega (arith, e) in rw z

on_none : (f : Item → Option Item) (t : List Item) (c : ℕ) → c < 1 → on_one f (stack_of t c) ≡ None
unfolding stack_of
on_none f t zero l = refl
on_none f t (suc n) l = absurd (omega arith)

on_few : (f : Item → Item → Option Item) (t : List Item) (c : ℕ) → c < 2 → on_two f (stack_of t c) ≡ None
unfolding stack_of
on_few f t zero l = refl
on_few f t (suc zero) l = refl
on_few f t (suc (suc n)) l = absurd (omega arith)

module _ (at : ℕ) (t : List Item) (c : ℕ) where
  pushed : (v : Item) (m : ℕ) → c ≡ m + 0 → Some (v ∷ stack_of t c) ≡ Some (v ∷ stack_of t m)
  pushed v m e = ap (λ (n : ℕ). Some (v ∷ stack_of t n)) (let z : c ≡ m = omega (arith, e) in z)

  step_lacks : (x : Node) → c < arity x → item_step at x (stack_of t c) ≡ None
  step_lacks (Node.and n) l = on_few _ t c l
  step_lacks (Node.or n) l = on_few _ t c l
  step_lacks (Node.bar n) l = on_few _ t c l
  step_lacks (Node.category x) l = absurd (omega arith)
  step_lacks (Node.namespace n) l = absurd (omega arith)
  step_lacks (Node.reference d r) l = absurd (omega arith)
  step_lacks Node.existence l = absurd (omega arith)
  step_lacks (Node.value d v) l = absurd (omega arith)
  step_lacks Node.subquery l = on_none _ t c l
  step_lacks (Node.property x) l = on_none _ t c l
  step_lacks (Node.link x) l = on_none _ t c l

  step_makes : (x : Node) (m : ℕ) → c ≡ m + arity x → item_step at x (stack_of t c) ≡ (made_of at x (get_or t c blank) (get_or t (suc c) blank) >>= λ k. Some (k ∷ stack_of t m))
  step_makes (Node.and n) m e = on_two_lem _ t c m e
  step_makes (Node.or n) m e = on_two_lem _ t c m e
  step_makes (Node.bar n) m e = on_two_lem _ t c m e
  step_makes (Node.category x) m e = pushed _ m e
  step_makes (Node.namespace n) m e = pushed _ m e
  step_makes (Node.reference d r) m e = pushed _ m e
  step_makes Node.existence m e = pushed _ m e
  step_makes (Node.value d v) m e = pushed _ m e
  step_makes Node.subquery m e = on_one_lem _ t c m e
  step_makes (Node.property x) m e = on_one_lem _ t c m e
  step_makes (Node.link x) m e = on_one_lem _ t c m e

-- One node more.
run_more : (at : ℕ) (l : List Node) (x : Node) (o : Option (List Item)) → item_run at (l ++ (x ∷ [])) o ≡ (item_run at l o >>= λ st. within 28 (item_step (at + length l) x st))
unfolding item_run
run_more at [] x o = ap (λ (n : ℕ). o >>= λ st. within 28 (item_step n x st)) (let z : at ≡ at + 0 = omega arith in z)
run_more at (y ∷ l) x o =
    run_more (suc at) l x (o >>= λ st. within 28 (item_step at y st))
    ∙ ap (λ (n : ℕ). item_run (suc at) l (o >>= λ st. within 28 (item_step at y st)) >>= λ st. within 28 (item_step n x st)) (let z : suc at + length l ≡ at + suc (length l) = omega arith in z)

module _ (h : Bytes) where
  run_suc : (i : ℕ) → run_to h (suc i) ≡ (run_to h i >>= λ st. within 28 (item_step i (node_in h i) st))
  unfolding run_to tabulate
  run_suc i =
      run_more 0 (tabulate i (node_in h)) (node_in h i) (Some [])
      ∙ ap (λ (n : ℕ). item_run 0 (tabulate i (node_in h)) (Some []) >>= λ st. within 28 (item_step n (node_in h i) st)) (let e = length_tabulate i (node_in h) in let z : 0 + length (tabulate i (node_in h)) ≡ i = omega (arith, e) in z)

  -- Where nothing is left, nothing comes back.
  run_none : (i n : ℕ) → run_to h i ≡ None → i ≤ n → run_to h n ≡ None
  run_none i zero e l = ap (run_to h) (let z : 0 ≡ i = omega arith in z) ∙ e
  run_none i (suc n) e l = go (ℕ_discrete i (suc n)) (run_none i n e)
    where
      go : Dec (i ≡ suc n) → (i ≤ n → run_to h n ≡ None) → run_to h (suc n) ≡ None
      go (yes p) k = ap (run_to h) (sym p) ∙ e
      go (no p) k = run_suc n ∙ ap (λ (o : Option (List Item)). o >>= λ st. within 28 (item_step n (node_in h n) st)) (k (omega (arith, p)))

  -- The table holds the stack behind the first i nodes.
  pub record Stacked (i : ℕ) (t : List Item) (c : ℕ) : Type 0 where
    pub is : run_to h i ≡ Some (stack_of t c)
    pub room : c ≤ 28
    pub long : length t ≡ 30

  pub stack_none : (t : List Item) → length t ≡ 30 → Stacked 0 t 0
  unfolding run_to tabulate item_run stack_of
  stack_none t e = record { is = refl; room = omega arith; long = e }

  -- The tree's test, where the pass stops.
  pub stops : (i n : ℕ) → n ≡ two_at h 0 → i < n → run_to h (suc i) ≡ None → false ≡ is_tree (nodes_in h)
  unfolding is_tree nodes_in run_to
  stops i n e l k = sym (ap (λ (o : Option (List Item)). found o is_whole false) (ap (run_to h) (sym e) ∙ run_none (suc i) n k l))

  module _ (i : ℕ) (t : List Item) (c : ℕ) (st : Stacked i t c) (node : TreeNode) (ex : node_by (strings_in h) node ≡ node_in h i) (k : ℕ) (arities : (s : Bytes) → k ≡ arity (node_by s node)) where
    abbrev x : Node
    x = node_by (strings_in h) node

    ek : k ≡ arity x
    ek = arities (strings_in h)

    run_here : run_to h (suc i) ≡ within 28 (item_step i x (stack_of t c))
    run_here = run_suc i ∙ ap (λ (o : Option (List Item)). o >>= λ st. within 28 (item_step i (node_in h i) st)) st.is ∙ ap (λ (n : Node). within 28 (item_step i n (stack_of t c))) (sym ex)

    pub run_lacks : c < k → run_to h (suc i) ≡ None
    run_lacks l = run_here ∙ ap (within 28) (step_lacks i t c x (omega (arith, ek)))

    module _ (l : k ≤ c) (a b : Item) (ea : a ≡ get_or t c blank) (eb : b ≡ get_or t (c + 1) blank) (s : Bytes) (es : s ≡ strings_in h) (r : Option Item) (makes : r ≡ made_of i (node_by s node) a b) where
      er : r ≡ made_of i x a b
      er = makes ∙ ap (λ (u : Bytes). made_of i (node_by u node) a b) es

      run_makes : run_to h (suc i) ≡ within 28 (r >>= λ v. Some (v ∷ stack_of t (c - k)))
      run_makes =
          run_here ∙ ap (within 28)
          (step_makes i t c x (c - k) (let z : c ≡ c - k + arity x = omega (arith, ek, l) in z) ∙ ap (λ (o : Option Item). o >>= λ v. Some (v ∷ stack_of t (c - k))) (sym (er ∙ ap₂ (λ (y z : Item). made_of i x y z) ea (eb ∙ ap (λ (n : ℕ). get_or t n blank) (add-one c)))))

      pub run_unmade : r ≡ None → run_to h (suc i) ≡ None
      run_unmade e = run_makes ∙ ap (λ (m : Option Item). within 28 (m >>= λ v. Some (v ∷ stack_of t (c - k)))) e

      module _ (v : Item) (e : r ≡ Some v) where
        run_top : run_to h (suc i) ≡ only_if (leb (suc (c - k)) 28) (Some (v ∷ stack_of t (c - k)))
        run_top = run_makes ∙ ap (λ (m : Option Item). within 28 (m >>= λ v. Some (v ∷ stack_of t (c - k)))) e ∙ ap (λ (n : ℕ). only_if (leb (suc n) 28) (Some (v ∷ stack_of t (c - k)))) (length_stack t (c - k))

        pub run_high : 28 < c - k + 1 → run_to h (suc i) ≡ None
        run_high g = run_top ∙ ap (λ (q : Bool). only_if q (Some (v ∷ stack_of t (c - k)))) (lt-leb (suc (c - k)) 28 (omega arith))

        pub stack_more : c - k + 1 ≤ 28 → Stacked (i + 1) (set t (c - k + 1 + 1) v) (c - k + 1)
        stack_more g =
            let long = st.long in
            rw (add-one i, add-one (c - k), add-one (suc (c - k)))
            (record {
              is = run_top ∙ ap (λ (q : Bool). only_if q (Some (v ∷ stack_of t (c - k)))) (le-leb (suc (c - k)) 28 (omega arith)) ∙ ap (λ (z : List Item). Some z) (sym (top_set t v (c - k) (omega arith)));
              room = omega (arith, g);
              long = length-set t (suc (suc (c - k))) v ∙ st.long;
            })

  -- All nodes are passed.
  module _ (i n : ℕ) (t : List Item) (c : ℕ) (st : Stacked i t c) (e : n ≡ two_at h 0) (l : i ≤ n) (g : n ≤ i) where
    run_all : is_tree (nodes_in h) ≡ is_whole (stack_of t c)
    unfolding is_tree nodes_in run_to
    run_all = ap (λ (o : Option (List Item)). found o is_whole false) (ap (run_to h) (let z : two_at h 0 ≡ i = omega (arith, e) in z) ∙ st.is)

    pub not_one : (c ≡ 1 → ⊥) → false ≡ is_tree (nodes_in h)
    unfolding stack_of
    not_one f = sym (run_all ∙ go c f)
      where
        go : (m : ℕ) → (m ≡ 1 → ⊥) → is_whole (stack_of t m) ≡ false
        go zero f = refl
        go (suc zero) f = absurd (f refl)
        go (suc (suc m)) f = refl

    pub is_one : c ≡ 1 → (a : Item) → a ≡ get_or t 2 blank → (r : Bool) → r ≡ (is_query a.shape && (is_good a && (leb (full_bytes a) 1024 && leb a.depth 8))) → r ≡ is_tree (nodes_in h)
    unfolding stack_of
    is_one f a ea r er = er ∙ ap (λ (i : Item). is_whole (i ∷ [])) ea ∙ sym (run_all ∙ ap (λ (m : ℕ). is_whole (stack_of t m)) f)
