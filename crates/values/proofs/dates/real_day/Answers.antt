use mathlib.Core.Path.{sym, ◌∙◌}
use native.Mathlib.Omega.{arith}
use Rattle.values.specs.Dates.{date}
use Rattle.values.proofs.Days.{day_small}
use Rattle.values.proofs.dates.real_day.Goals as goal

pub overflow_mul-result : goal.overflow_mul-result
overflow_mul-result c = omega (arith, day_small (date _ _ _) (sym c.is_day.ensures ∙ c.if-is_day.true))

pub overflow_mul-result-then-is_day : goal.overflow_mul-result-then-is_day
overflow_mul-result-then-is_day c = omega (arith, day_small (date _ _ _) (sym c.is_day.ensures ∙ c.if-is_day.true))

pub overflow_add-result : goal.overflow_add-result
overflow_add-result c = omega (arith, day_small (date _ _ _) (sym c.is_day.ensures ∙ c.if-is_day.true))

pub overflow_add-result-then-is_day : goal.overflow_add-result-then-is_day
overflow_add-result-then-is_day c = omega (arith, day_small (date _ _ _) (sym c.is_day.ensures ∙ c.if-is_day.true))
