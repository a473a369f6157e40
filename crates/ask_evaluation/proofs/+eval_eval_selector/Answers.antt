use native.Mathlib.Omega.{arith}
use borrow.Author.Rules.{rules}
use Rattle.ask_evaluation.proofs.Evaluating.{evaluating}
use Rattle.ask_evaluation.proofs.+eval_eval_selector.Goals as goal

pub eval-returns-then-at-eq0 : goal.eval-returns-then-at-eq0
eval-returns-then-at-eq0 t c = search (evaluating, rules)

pub eval-returns-in_default : goal.eval-returns-in_default
eval-returns-in_default t c = search (evaluating, rules)

pub eval-eval_selector-requires : goal.eval-eval_selector-requires
eval-eval_selector-requires t c = (omega arith, tt)

pub eval-returns-then-is_selection : goal.eval-returns-then-is_selection
eval-returns-then-is_selection t c = search (evaluating, rules)

pub eval-eval-right-requires : goal.eval-eval-right-requires
eval-eval-right-requires t c = (omega arith, tt)

pub eval-returns-then-last-middle : goal.eval-returns-then-last-middle
eval-returns-then-last-middle t c = search (evaluating, rules)

pub eval-eval-left-requires : goal.eval-eval-left-requires
eval-eval-left-requires t c = (omega arith, tt)

pub eval-returns : goal.eval-returns
eval-returns t c = search (evaluating, rules)

pub eval_selector-eval-inner-requires : goal.eval_selector-eval-inner-requires
eval_selector-eval-inner-requires t c = (omega arith, tt)

pub eval_selector-returns-then-is_subquery : goal.eval_selector-returns-then-is_subquery
eval_selector-returns-then-is_subquery t c = search (evaluating, rules)

pub eval_selector-returns : goal.eval_selector-returns
eval_selector-returns t c = search (evaluating, rules)
