use mathlib.Core.Path.{◌≡◌}
use lib.ListN.{take, drop}
use Rattle.register_text_entries.specs.Table.{entry_at}
use Rattle.register_text_verdict.specs.Rows.{declared_kind}
use Rattle.register_text_draft.specs.Lookup.{found_from, found_in}
use Rattle.register_text_draft.proofs.lookup.property_place.Given as goal

abbrev pub invariant-loop-k : goal.invariant-loop-k
invariant-loop-k l = found_in l.s l.t l.rows l.m l.x ≡ found_from (λ i. declared_kind l.x (entry_at l.s l.t i)) l.k (drop l.k (take l.m l.rows))
