use Prim.Native.Nat.{◌+◌}
use Rattle.ask_evaluation.proofs.+eval_eval_selector.Given as goal

abbrev pub decreases-eval : goal.decreases-eval
decreases-eval l = l.at + l.at

abbrev pub decreases-eval_selector : goal.decreases-eval_selector
decreases-eval_selector l = l.at + l.at + 1
