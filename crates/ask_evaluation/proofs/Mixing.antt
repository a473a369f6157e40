-- Mismatches: what a node expects, and that the nodes of a query mix kinds where the query does.
use Rattle.std.specs.Prelude.{Option, Some, None}
use Prim.Native.Nat.{ℕ, zero, suc, ◌+◌, ◌≤◌}
use mathlib.Core.Path.{◌≡◌, refl, sym, ap₂, ◌∙◌}
use mathlib.Core.Bool.{Bool, true, false, not, ◌||◌, or-true, or-false, or_comm, true≢false}
use mathlib.Core.List.{List, [], ◌∷◌}
use native.Mathlib.Numerals.{add-one}
use native.Mathlib.Omega.{arith}
use borrow.Author.Tests.{not-true}
use Rattle.text.specs.Bytes.{Bytes, any}
use Rattle.text.specs.Parts.{part_of}
use Rattle.text.specs.declared.Span.{Span}
use Rattle.values.specs.Values.{kind_of_constant}
use Rattle.values.specs.declared.Kind.{Kind}
use Rattle.language.specs.Answer.{◌>>=◌, found}
use Rattle.language.specs.Core.{Core}
use Rattle.language.specs.Core as Selectors
use Rattle.language.specs.Register.{Register}
use Rattle.language.specs.Semantics.{some_other, mismatch, mismatch_in}
use Rattle.query_core.specs.Held.{count_in, heap_in, node_in}
use Rattle.query_core.specs.Postfix.{Node, stepped}
use Rattle.query_core.specs.Reading.{joined_by, ReadsNode, expects_kind, TestsNode}
use Rattle.query_core.specs.Stack.{stack_at}
use Rattle.query_core.specs.declared.Constant.{Constant}
use Rattle.query_core.specs.declared.Selector.{Selector}
use Rattle.query_core.specs.declared.Connective.{Connective}
use Rattle.query_core.specs.declared.Node.{Node as DeclaredNode}
use Rattle.query_core.proofs.Stacks.{stack_zero, stack_suc}
use Rattle.register_form.specs.Opened.{Opened}
use Rattle.ask_evaluation.specs.Mixing.{any_to, expected_in, mixes, mixes_in, Mixes, SomeMixes, Mismatches}

-- the kind that is expected of a property is not that of some page's value
abbrev other_than : Register → Bytes → Option (Span × Kind) → Bool
other_than R q (Some (p, k)) = some_other R (part_of q p) k
other_than R q None = false

mixes_expected : (R : Register) (q : Bytes) (k : Connective) (y : Selector) → mixes R (joined_by q k y) ≡ other_than R q (expected_in k y)
mixes_expected R q Connective.And y = refl
mixes_expected R q Connective.Or y = refl
mixes_expected R q Connective.Select (Selector.Category p) = refl
mixes_expected R q Connective.Select (Selector.Namespace p) = refl
mixes_expected R q Connective.Select (Selector.Existence p) = refl
mixes_expected R q Connective.Select (Selector.Subquery p) = refl
mixes_expected R q Connective.Select (Selector.Article c p) = refl
mixes_expected R q Connective.Select (Selector.Value p c (Constant.Scalar k n)) = refl
mixes_expected R q Connective.Select (Selector.Value p c (Constant.String s)) = refl
mixes_expected R q Connective.Select (Selector.Link p c r) = refl

-- some node so far mixes kinds where some query on the stack has a mismatch
module _ (R : Register) where
  abbrev mixed : List Core → Bool
  mixed st = any (λ q. mismatch q R) st

  both_mix : (a b c : Bool) → (a || b || c) ≡ (b || (a || c) || false)
  both_mix true true c = refl
  both_mix true false c = refl
  both_mix false true c = refl
  both_mix false false c = sym (or-false c)

  both_sides : (c a b : Bool) → (c || (a || b)) ≡ (b || c || a)
  both_sides true a true = refl
  both_sides true a false = refl
  both_sides false true b = sym (or-true (b || false))
  both_sides false false true = refl
  both_sides false false false = refl

  leaf_mixes : (k : Selectors.Selector) (st after : List Core) (x : Bool) → Some (Core.select k ∷ st) ≡ Some after → mismatch_in k R ≡ x → mixed after ≡ (mixed st || x)
  unfolding any mismatch
  leaf_mixes k st after x e f =
      let w : Core.select k ∷ st ≡ after = cc in
      rw (← w, f) (or_comm x (mixed st))

  step_mixes : (m : Node) (st after : List Core) → stepped m st ≡ Some after → mixed after ≡ (mixed st || mixes R m)
  unfolding stepped any mismatch
  step_mixes Node.conjunction [] after e = cc
  step_mixes Node.conjunction (b ∷ []) after e = cc
  step_mixes Node.conjunction (b ∷ a ∷ st) after e =
      let w : Core.conjunction a b ∷ st ≡ after = cc in
      rw (← w) (both_mix (mismatch a R) (mismatch b R) (mixed st))
  step_mixes Node.disjunction [] after e = cc
  step_mixes Node.disjunction (b ∷ []) after e = cc
  step_mixes Node.disjunction (b ∷ a ∷ st) after e =
      let w : Core.disjunction a b ∷ st ≡ after = cc in
      rw (← w) (both_mix (mismatch a R) (mismatch b R) (mixed st))
  step_mixes (Node.category x) st after e = leaf_mixes (Selectors.Selector.category x) st after false e refl
  step_mixes (Node.namespace x) st after e = leaf_mixes (Selectors.Selector.namespace x) st after false e refl
  step_mixes (Node.existence x) st after e = leaf_mixes (Selectors.Selector.existence x) st after false e refl
  step_mixes (Node.subquery x) [] after e = cc
  step_mixes (Node.subquery x) (a ∷ st) after e =
      leaf_mixes (Selectors.Selector.subquery x a) st after (some_other R x Kind.Page || mismatch a R) e refl
      ∙ both_sides (mixed st) (some_other R x Kind.Page) (mismatch a R)
  step_mixes (Node.article c x) st after e = leaf_mixes (Selectors.Selector.article c x) st after false e refl
  step_mixes (Node.value x c v) st after e = leaf_mixes (Selectors.Selector.value x c v) st after (some_other R x (kind_of_constant v)) e refl
  step_mixes (Node.link x c r) st after e = leaf_mixes (Selectors.Selector.link x c r) st after (some_other R x Kind.Page) e refl

  stack_mixes : (h : Bytes) (i : ℕ) (st : List Core) → stack_at h i ≡ Some st → any_to i (mixes_in R h) ≡ mixed st
  unfolding any_to any mixes_in
  stack_mixes h zero st e =
      let w : [] ≡ st = cc (stack_zero h) in
      rw (← w)
  stack_mixes h (suc i) st e = go (stack_at h i) (node_in h i) (λ k f. stack_mixes h i k f) (sym (stack_suc h i) ∙ e)
    where
      go : (o : Option (List Core)) (n : Option Node) → ((k : List Core) → o ≡ Some k → any_to i (mixes_in R h) ≡ mixed k)
          → (o >>= λ st. n >>= λ m. stepped m st) ≡ Some st → (any_to i (mixes_in R h) || found n (mixes R) false) ≡ mixed st
      go None n f g = cc
      go (Some k) None f g = cc
      go (Some k) (Some m) f g = rw (f k refl) (sym (step_mixes m k st g))

-- a node that expects no kind mixes none
mixes_quiet : (R : Register) (m : Node) → expects_kind m ≡ false → mixes R m ≡ false
mixes_quiet R Node.conjunction e = refl
mixes_quiet R Node.disjunction e = refl
mixes_quiet R (Node.category x) e = refl
mixes_quiet R (Node.namespace x) e = refl
mixes_quiet R (Node.existence x) e = refl
mixes_quiet R (Node.subquery x) e = absurd (true≢false e)
mixes_quiet R (Node.article c x) e = refl
mixes_quiet R (Node.value x c v) e = absurd (true≢false e)
mixes_quiet R (Node.link x c r) e = absurd (true≢false e)

module _ (h q : Bytes) where
  -- mixes_at
  pub mixes_plain : (i : ℕ) (b : Bool) → TestsNode expects_kind (node_in q i) b → not b ≡ true → Mixes h q i false
  unfolding Mixes mixes_in TestsNode
  mixes_plain i b f e places R o = go (node_in q i) f
    where
      go : (o : Option Node) → ((m : Node) → o ≡ Some m → b ≡ expects_kind m) → false ≡ found o (mixes R) false
      go None f = refl
      go (Some m) f = sym (mixes_quiet R m (sym (f m refl) ∙ not-true b e))

  module _ (i : ℕ) (read : Option DeclaredNode) (u : ReadsNode (heap_in q) (node_in q i) read) where
    pub mixes_unread : read ≡ None → Mixes h q i false
    unfolding Mixes mixes_in
    mixes_unread e places R o = rw (u.is, e)

    module _ (node : DeclaredNode) (e : read ≡ Some node) (w : Option (Span × Kind)) (f : w ≡ expected_in node.connective node.selector) where
      mixes_is : (R : Register) → other_than R (heap_in q) w ≡ mixes_in R q i
      unfolding mixes_in
      mixes_is R = rw (u.is, e, f) (sym (mixes_expected R (heap_in q) node.connective node.selector))

      pub mixes_none : w ≡ None → Mixes h q i false
      unfolding Mixes
      mixes_none g places R o = rw (← mixes_is R, g)

      pub mixes_kind : (p : Span) (kind : Kind) (t x : Bytes) (r : Bool) → w ≡ Some (p, kind) → t ≡ heap_in q → x ≡ part_of t p
          → ((places : List ℕ) (R : Register) → Opened h places R → r ≡ some_other R x kind) → Mixes h q i r
      unfolding Mixes
      mixes_kind p kind t x r g k l f places R o =
          let z : r ≡ some_other R x kind = f places R o in
          rw (← mixes_is R, g, ← k, ← l) z

  -- has_mismatch: no node yet, one more, all of them
  pub some_none : SomeMixes h q 0 false
  unfolding SomeMixes any_to
  some_none places R o = refl

  module _ (i : ℕ) (b : Bool) (so_far : SomeMixes h q i b) where
    pub some_more : (r : Bool) → Mixes h q i r → SomeMixes h q (i + 1) (b || r)
    unfolding SomeMixes Mixes any_to
    some_more r e places R o = rw (add-one i) (ap₂ ◌||◌ (so_far places R o) (e places R o))

    pub some_all : (n : ℕ) → n ≡ count_in q → i ≤ n → n ≤ i → Mismatches h q b
    unfolding SomeMixes Mismatches any
    some_all n e l m places R o c k =
        let w : i ≡ count_in q = omega arith in
        so_far places R o ∙ rw w (stack_mixes R q (count_in q) (c ∷ []) k.stack) ∙ or-false (mismatch c R)

pub ruleset mixing = (mixes_plain, mixes_unread, mixes_none, mixes_kind)
