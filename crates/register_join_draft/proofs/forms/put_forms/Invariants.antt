use Prim.Native.Nat.{◌+◌, ◌*◌, ◌≤◌, ◌<◌}
use mathlib.Core.Path.{◌≡◌}
use lib.ListN.{length}
use Rattle.register_join_draft.proofs.Writing.{FormsPut}
use Rattle.register_join_draft.proofs.forms.put_forms.Given as goal

abbrev pub invariant-loop-i : goal.invariant-loop-i
invariant-loop-i l = (l.at + 2 * l.k ≤ length l.h) × (l.to + l.k ≤ length l.initial.uses) × (l.to + l.k < 65536) × (length l.uses ≡ length l.initial.uses) × FormsPut l.h l.base l.first l.end (l.first + l.i) l.initial.uses l.from l.uses (l.from + l.i)
