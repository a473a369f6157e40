-- The ways through `eval` and `eval_selector`.
use Rattle.std.specs.Option.{option_map}
use Rattle.std.specs.Prelude.{Option, Some, None}
use Prim.Native.Nat.{ℕ, zero, suc, ◌-◌, ◌≤◌, ◌<◌}
use mathlib.Core.Path.{◌≡◌, refl, sym, ap, ◌∙◌}
use mathlib.Core.Bool.{Bool, true, false, ◌&&◌, ◌||◌, true≢false, false≢true}
use mathlib.Core.List.{List, [], ◌∷◌}
use native.Mathlib.Omega.{arith}
use borrow.Author.Tests.{lt-ltb}
use lib.Dec.{ltb}
use lib.ListN.{get_or, replicate}
use Rattle.text.specs.Bytes.{Bytes}
use Rattle.text.specs.Parts.{part_of}
use Rattle.text.specs.Table.{tabulate}
use Rattle.text.specs.declared.Span.{Span}
use Rattle.text.proofs.Tables.{get_d_tabulate, tabulate_ext}
use Rattle.values.specs.Answers.{split_of}
use Rattle.pageset.specs.declared.PageSet.{PageSet}
use Rattle.pageset.specs.Marks.{marks_from}
use Rattle.pageset.proofs.Laws.{tabulate_both}
use Rattle.language.specs.Answer.{◌>>=◌}
use Rattle.language.specs.Core.{Core}
use Rattle.language.specs.Core as Core
use Rattle.language.specs.Register.{Page, Register, holds}
use Rattle.language.specs.Semantics.{S, Q, follows, no_mixed}
use Rattle.query_core.specs.Held.{heap_in, node_in}
use Rattle.query_core.specs.Postfix.{Node, stepped}
use Rattle.query_core.specs.Reading.{constant_by, joined_by, node_by, ReadsNode}
use Rattle.query_core.specs.Stack.{stack_at}
use Rattle.query_core.specs.declared.Selector.{Selector}
use Rattle.query_core.specs.declared.Connective.{Connective}
use Rattle.query_core.specs.declared.Node.{Node as DeclaredNode}
use Rattle.query_core.proofs.Stacks.{stack_zero, stack_suc, stack_step}
use Rattle.register_form.specs.Opened.{page_in}
use Rattle.register_form_view.specs.View.{Agrees}
use Rattle.register_form_view.proofs.Opening.{known}
use Rattle.ask_evaluation.specs.Meaning.{name_span, is_subquery, is_selection, matches, Selects, pages_of, Joined, marks_of, Means, Evaluates, stack_with}
use Rattle.ask_evaluation.specs.declared.Evaluated.{Evaluated}

-- The node m joins the last two queries on the stack by k, which means op.
record Joins (R : Register) (m : Node) (k : Core → Core → Core) (op : Bool → Bool → Bool) : Type 0 where
  empty : stepped m [] ≡ None
  single : (b : Core) → stepped m (b ∷ []) ≡ None
  pair : (b a : Core) (st : List Core) → stepped m (b ∷ a ∷ st) ≡ Some (k a b ∷ st)
  no_page_lem : op false false ≡ false
  means : (a b : Core) (p : Page) → Q (k a b) no_mixed R p ≡ op (Q a no_mixed R p) (Q b no_mixed R p)

module _ (R : Register) (q : Bytes) where
  -- the marks of a query agree with what it selects
  marks_agree : (c : Core) (marks : List Bool) → pages_of R ≤ 256 → marks ≡ marks_of R (pages_of R) c → Agrees R marks (λ p. Q c no_mixed R p)
  unfolding marks_of Agrees
  marks_agree c marks few e j l = rw (e, get_d_tabulate 256 (λ i. ltb i (pages_of R) && Q c no_mixed R (page_in R i)) false j (omega arith), lt-ltb j (pages_of R) l)

  -- a selector that takes nothing from the stack
  means_leaf : (at : ℕ) (m : Node) (k : Core.Selector) (r : Evaluated) → ((st : List Core) → stepped m st ≡ Some (Core.select k ∷ st))
      → marks_from r.set.words ≡ tabulate 256 (λ j. ltb j (pages_of R) && S k no_mixed R (page_in R j)) → r.next ≡ at → Means R (pages_of R) q (suc at) (stack_at q at >>= stepped m) r
  unfolding Means marks_of Q
  means_leaf at m k r f e g = go (stack_at q at) refl
    where
      go : (o : Option (List Core)) → stack_at q at ≡ o → Means R (pages_of R) q (suc at) (o >>= stepped m) r
      go None p = tt
      go (Some st) p = rw (f st) (e, rw g p, omega arith)

  -- a subquery, by what its query means
  means_within : (at : ℕ) (x : Bytes) (o : Option (List Core)) (inner r : Evaluated) → pages_of R ≤ 256 → Means R (pages_of R) q at o inner
      → ((test : Page → Bool) → Agrees R (marks_from inner.set.words) test → marks_from r.set.words ≡ tabulate 256 (λ j. ltb j (pages_of R) && holds x (follows no_mixed R test) (page_in R j)))
      → r.next ≡ inner.next → Means R (pages_of R) q (suc at) (o >>= stepped (Node.subquery x)) r
  unfolding Means marks_of Q stepped
  means_within at x None inner r few i f g = tt
  means_within at x (Some []) inner r few i f g = tt
  means_within at x (Some (c ∷ st)) inner r few i f g =
      (f (λ p. Q c no_mixed R p) (marks_agree c (marks_from inner.set.words) few i.0), rw g i.1, omega (arith, i.2))

  -- a node that joins two queries by k, which means op
  module _ (m : Node) (k : Core → Core → Core) (op : Bool → Bool → Bool) (j : Joins R m k op) where
    marks_both : (a b : Core) (l r : List Bool) → l ≡ marks_of R (pages_of R) a → r ≡ marks_of R (pages_of R) b → tabulate 256 (λ i. op (get_or l i false) (get_or r i false)) ≡ marks_of R (pages_of R) (k a b)
    unfolding marks_of
    marks_both a b l r e f =
        tabulate_both op 256 _ _ l r e f
        ∙ tabulate_ext 256 _ _ (λ i z. rw (j.means a b (page_in R i)) (go (ltb i (pages_of R)) (Q a no_mixed R (page_in R i)) (Q b no_mixed R (page_in R i))))
      where
        go : (c x y : Bool) → op (c && x) (c && y) ≡ (c && op x y)
        go true x y = refl
        go false x y = j.no_page_lem

    means_cut : (at last : ℕ) (o : Option (List Core)) (right r : Evaluated) → Means R (pages_of R) q last o right → last ≤ right.next → Means R (pages_of R) q at (o >>= stepped m) r
    unfolding Means
    means_cut at last None right r i l = tt
    means_cut at last (Some []) right r i l = rw j.empty tt
    means_cut at last (Some (b ∷ [])) right r i l = rw (j.single b) tt
    means_cut at last (Some (b ∷ a ∷ st)) right r i l = absurd (omega (arith, i.2))

    means_both : (at last : ℕ) (o : Option (List Core)) (right left r : Evaluated) → last < at → Means R (pages_of R) q last o right → Means R (pages_of R) q right.next (stack_at q right.next) left
        → marks_from r.set.words ≡ tabulate 256 (λ i. op (get_or (marks_from left.set.words) i false) (get_or (marks_from right.set.words) i false)) → r.next ≡ left.next → Means R (pages_of R) q at (o >>= stepped m) r
    unfolding Means
    means_both at last None right left r l i w e g = tt
    means_both at last (Some []) right left r l i w e g = rw j.empty tt
    means_both at last (Some (b ∷ [])) right left r l i w e g = rw (j.single b) tt
    means_both at last (Some (b ∷ a ∷ st)) right left r l i w e g =
        let z : Means R (pages_of R) q right.next (Some (a ∷ st)) left = rw i.1 at w in
        rw (j.pair b a st) (e ∙ marks_both a b (marks_from left.set.words) (marks_from right.set.words) z.0 i.0, rw g z.1, omega (arith, i.2, z.2))

and_joins : (R : Register) → Joins R Node.conjunction Core.conjunction ◌&&◌
unfolding stepped Q
and_joins R = record { empty = refl; single = λ b. refl; pair = λ b a st. refl; no_page_lem = refl; means = λ a b p. refl }

or_joins : (R : Register) → Joins R Node.disjunction Core.disjunction ◌||◌
unfolding stepped Q
or_joins R = record { empty = refl; single = λ b. refl; pair = λ b a st. refl; no_page_lem = refl; means = λ a b p. refl }

-- the set of no pages is what no page passes
no_pages : (R : Register) (marks : List Bool) → marks ≡ replicate 256 false → Agrees R marks (λ p. false)
unfolding Agrees
no_pages R marks e j l = rw e (get_d_none 256 j)
  where
    get_d_none : (n j : ℕ) → get_or (replicate n false) j false ≡ false
    get_d_none zero j = refl
    get_d_none (suc n) zero = refl
    get_d_none (suc n) (suc j) = get_d_none n j

abbrev named : Bytes → Span → Bytes
named q p = part_of (heap_in q) p

module _ (h : Bytes) (places : List ℕ) (q : Bytes) where
  -- eval_selector
  module _ (at : ℕ) (selector : Selector) (b : Bool) (is : b ≡ is_subquery selector) where
    pub eval_leaf : (inner set : PageSet) → b ≡ false → marks_from inner.words ≡ replicate 256 false
        → Selects h places (heap_in q) selector (marks_from inner.words) (marks_from set.words)
        → Evaluates h places q (suc at) (stack_with q at selector) (record { set = set; next = at })
    unfolding Evaluates Selects S stepped
    eval_leaf inner set e f g R o =
        go selector (sym is ∙ e) (g R o (λ p. false) (no_pages R (marks_from inner.words) f))
      where
        leaf : (m : Node) (k : Core.Selector) → ((st : List Core) → stepped m st ≡ Some (Core.select k ∷ st))
            → marks_from set.words ≡ tabulate 256 (λ j. ltb j (pages_of R) && S k no_mixed R (page_in R j)) → Means R (pages_of R) q (suc at) (stack_at q at >>= stepped m) (record { set = set; next = at })
        leaf m k p z = means_leaf R q at m k (record { set = set; next = at }) p z refl

        go : (y : Selector) → is_subquery y ≡ false → marks_from set.words ≡ tabulate 256 (λ j. ltb j (pages_of R) && matches (heap_in q) (named q (name_span y)) R (λ p. false) y (page_in R j))
            → Means R (pages_of R) q (suc at) (stack_with q at y) (record { set = set; next = at })
        go (Selector.Category p) w z = leaf (Node.category (named q p)) (Core.Selector.category (named q p)) (λ st. refl) z
        go (Selector.Namespace p) w z = leaf (Node.namespace (named q p)) (Core.Selector.namespace (named q p)) (λ st. refl) z
        go (Selector.Existence p) w z = leaf (Node.existence (named q p)) (Core.Selector.existence (named q p)) (λ st. refl) z
        go (Selector.Subquery p) w z = absurd (true≢false w)
        go (Selector.Article o p) w z = leaf (Node.article o (named q p)) (Core.Selector.article o (named q p)) (λ st. refl) z
        go (Selector.Value p o k) w z =
            leaf (Node.value (named q p) o (constant_by (heap_in q) k)) (Core.Selector.value (named q p) o (constant_by (heap_in q) k)) (λ st. refl) z
        go (Selector.Link p o r) w z =
            leaf (Node.link (named q p) o (split_of (heap_in q) r)) (Core.Selector.link (named q p) o (split_of (heap_in q) r)) (λ st. refl) z

    pub eval_within : (inner : Evaluated) (set : PageSet) → b ≡ true → Evaluates h places q at (stack_at q at) inner
        → Selects h places (heap_in q) selector (marks_from inner.set.words) (marks_from set.words)
        → Evaluates h places q (suc at) (stack_with q at selector) (record { set = set; next = inner.next })
    unfolding Evaluates Selects
    eval_within inner set e i g R o = go selector (sym is ∙ e) (g R o)
      where
        go : (y : Selector) → is_subquery y ≡ true
            → ((test : Page → Bool) → Agrees R (marks_from inner.set.words) test → marks_from set.words ≡ tabulate 256 (λ j. ltb j (pages_of R) && matches (heap_in q) (part_of (heap_in q) (name_span y)) R test y (page_in R j)))
            → Means R (pages_of R) q (suc at) (stack_with q at y) (record { set = set; next = inner.next })
        go (Selector.Category p) w f = absurd (false≢true w)
        go (Selector.Namespace p) w f = absurd (false≢true w)
        go (Selector.Existence p) w f = absurd (false≢true w)
        go (Selector.Subquery p) w f =
            means_within R q at (part_of (heap_in q) p) (stack_at q at) inner (record { set = set; next = inner.next }) (known o).limits.pages (i R o) f refl
        go (Selector.Article o p) w f = absurd (false≢true w)
        go (Selector.Value p o k) w f = absurd (false≢true w)
        go (Selector.Link p o r) w f = absurd (false≢true w)

  -- eval: no node, a node that does not read
  pub eval_zero : (at : ℕ) (r : Evaluated) → at ≡ 0 → Evaluates h places q at (stack_at q at) r
  unfolding Evaluates Means
  eval_zero at r e R o = rw (e, stack_zero q) tt

  module _ (at : ℕ) (some_node : at ≡ 0 → ⊥) (read : Option DeclaredNode) (u : ReadsNode (heap_in q) (node_in q (at - 1)) read) where
    back : suc (at - 1) ≡ at
    back = omega arith

    pub eval_unread : (r : Evaluated) → read ≡ None → Evaluates h places q at (stack_at q at) r
    unfolding Evaluates Means
    eval_unread r f R o = rw (← back, stack_suc q (at - 1), u.is, f) (go (stack_at q (at - 1)))
      where
        go : (o : Option (List Core)) → Means R (pages_of R) q (suc (at - 1)) (o >>= λ st. None) r
        go None = tt
        go (Some st) = tt

    -- a selector, or two queries
    module _ (node : DeclaredNode) (f : read ≡ Some node) (b : Bool) (is : b ≡ is_selection node.connective) where
      stack_here : stack_at q at ≡ (stack_at q (at - 1) >>= stepped (node_by (heap_in q) node))
      stack_here = sym (ap (stack_at q) back) ∙ stack_step q (at - 1) (node_by (heap_in q) node) (u.is ∙ ap (option_map (node_by (heap_in q))) f)

      pub eval_selection : (r : Evaluated) → b ≡ true → Evaluates h places q (suc (at - 1)) (stack_with q (at - 1) node.selector) r → Evaluates h places q at (stack_at q at) r
      unfolding Evaluates
      eval_selection r e g R o = rw stack_here (go node.connective (sym is ∙ e) (rw back at (g R o)))
        where
          go : (k : Connective) → is_selection k ≡ true → Means R (pages_of R) q at (stack_with q (at - 1) node.selector) r → Means R (pages_of R) q at (stack_at q (at - 1) >>= stepped (joined_by (heap_in q) k node.selector)) r
          go Connective.And w z = absurd (false≢true w)
          go Connective.Or w z = absurd (false≢true w)
          go Connective.Select w z = z

      module _ (e : b ≡ false) (right : Evaluated) (i : Evaluates h places q (at - 1) (stack_at q (at - 1)) right) where
        pub eval_cut : (r : Evaluated) → at - 1 ≤ right.next → Evaluates h places q at (stack_at q at) r
        unfolding Evaluates
        eval_cut r l R o = rw stack_here (go node.connective (sym is ∙ e))
          where
            go : (k : Connective) → is_selection k ≡ false → Means R (pages_of R) q at (stack_at q (at - 1) >>= stepped (joined_by (heap_in q) k node.selector)) r
            go Connective.And w = means_cut R q _ _ _ (and_joins R) at (at - 1) (stack_at q (at - 1)) right r (i R o) l
            go Connective.Or w = means_cut R q _ _ _ (or_joins R) at (at - 1) (stack_at q (at - 1)) right r (i R o) l
            go Connective.Select w = absurd (true≢false w)

        pub eval_join : (left : Evaluated) (set : PageSet) → Evaluates h places q right.next (stack_at q right.next) left
            → Joined node.connective (marks_from left.set.words) (marks_from right.set.words) (marks_from set.words)
            → Evaluates h places q at (stack_at q at) (record { set = set; next = left.next })
        unfolding Evaluates
        eval_join left set g w R o = rw stack_here (go node.connective (sym is ∙ e) w)
          where
            go : (k : Connective) → is_selection k ≡ false → Joined k (marks_from left.set.words) (marks_from right.set.words) (marks_from set.words)
                → Means R (pages_of R) q at (stack_at q (at - 1) >>= stepped (joined_by (heap_in q) k node.selector)) (record { set = set; next = left.next })
            go Connective.And w z =
                means_both R q _ _ _ (and_joins R) at (at - 1) (stack_at q (at - 1)) right left (record { set = set; next = left.next }) (omega arith) (i R o) (g R o) z refl
            go Connective.Or w z =
                means_both R q _ _ _ (or_joins R) at (at - 1) (stack_at q (at - 1)) right left (record { set = set; next = left.next }) (omega arith) (i R o) (g R o) z refl
            go Connective.Select w z = absurd (true≢false w)

pub ruleset evaluating = (eval_leaf, eval_within, eval_zero, eval_unread, eval_selection, eval_cut, eval_join)
