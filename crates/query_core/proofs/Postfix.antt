-- Postfix code reads back as the query that it is the code of.
use Rattle.std.specs.Prelude.{Option, Some, None}
use mathlib.Core.Path.{◌≡◌, refl, ◌∙◌}
use mathlib.Core.List.{List, [], ◌∷◌, ◌++◌}
use native.Mathlib.Omega.{arith}
use lib.ListN.{length, length-append}
use Rattle.language.specs.Answer.{◌>>=◌}
use Rattle.language.specs.Core.{Selector, Core, nodes, nodes_in}
use Rattle.query_core.specs.Postfix.{Node, post, post_in, stepped, runs, read_back}

pub runs_append : (l k : List Node) (st : List Core) → runs (l ++ k) st ≡ (runs l st >>= runs k)
unfolding runs
runs_append [] k st = refl
runs_append (n ∷ l) k st = go (stepped n st) (λ t. runs_append l k t)
  where
    go : (o : Option (List Core)) → ((t : List Core) → runs (l ++ k) t ≡ (runs l t >>= runs k)) → (o >>= runs (l ++ k)) ≡ ((o >>= runs l) >>= runs k)
    go None h = refl
    go (Some t) h = h t

mutual
  unfolding post runs stepped

  runs_in : (s : Selector) (st : List Core) → runs (post_in s) st ≡ Some (Core.select s ∷ st)
  runs_in (Selector.category x) st = refl
  runs_in (Selector.namespace x) st = refl
  runs_in (Selector.existence x) st = refl
  runs_in (Selector.subquery x q) st = runs_append (post q) (Node.subquery x ∷ []) st ∙ rw (runs_post q st)
  runs_in (Selector.article c x) st = refl
  runs_in (Selector.value x c v) st = refl
  runs_in (Selector.link x c r) st = refl

  -- a query's code puts it on the stack
  pub runs_post : (q : Core) (st : List Core) → runs (post q) st ≡ Some (q ∷ st)
  runs_post (Core.select s) st = runs_in s st
  runs_post (Core.disjunction a b) st =
      runs_append (post a ++ post b) (Node.disjunction ∷ []) st ∙ rw (runs_append (post a) (post b) st, runs_post a st, runs_post b (a ∷ st))
  runs_post (Core.conjunction a b) st =
      runs_append (post a ++ post b) (Node.conjunction ∷ []) st ∙ rw (runs_append (post a) (post b) st, runs_post a st, runs_post b (a ∷ st))

pub read_back_lem : (q : Core) → read_back (post q) ≡ Some q
unfolding read_back
read_back_lem q = rw (runs_post q [])

mutual
  unfolding post nodes

  length_in : (s : Selector) → length (post_in s) ≡ nodes_in s
  length_in (Selector.category x) = refl
  length_in (Selector.namespace x) = refl
  length_in (Selector.existence x) = refl
  length_in (Selector.subquery x q) = length-append (post q) (Node.subquery x ∷ []) ∙ rw (length_post q) (omega arith)
  length_in (Selector.article c x) = refl
  length_in (Selector.value x c v) = refl
  length_in (Selector.link x c r) = refl

  -- "Each selector, AND and OR is one node."
  pub length_post : (q : Core) → length (post q) ≡ nodes q
  length_post (Core.select s) = length_in s
  length_post (Core.disjunction a b) =
      omega (arith, length-append (post a ++ post b) (Node.disjunction ∷ []), length-append (post a) (post b), length_post a, length_post b)
  length_post (Core.conjunction a b) =
      omega (arith, length-append (post a ++ post b) (Node.conjunction ∷ []), length-append (post a) (post b), length_post a, length_post b)
