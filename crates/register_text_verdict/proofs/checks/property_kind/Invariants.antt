use mathlib.Core.Path.{◌≡◌}
use lib.ListN.{take, drop}
use Rattle.register_text_entries.specs.Table.{entry_at}
use Rattle.register_text_verdict.specs.Rows.{declared_kind, first_in}
use Rattle.register_text_verdict.specs.Checks.{kinds_in}
use Rattle.register_text_verdict.proofs.checks.property_kind.Given as goal

abbrev pub invariant-loop-k : goal.invariant-loop-k
invariant-loop-k l = kinds_in l.s l.t l.rows l.m l.x ≡ first_in (λ i. declared_kind l.x (entry_at l.s l.t i)) (drop l.k (take l.m l.rows))
