use Prim.Native.Nat.{◌+◌, ◌-◌, ◌*◌, ◌≤◌}
use Rattle.register_form_assembly.proofs.Counts.{Sized}
use Rattle.register_form_assembly.proofs.counting.add_sizes.Given as goal

abbrev pub invariant-loop-i : goal.invariant-loop-i
invariant-loop-i l = (l.sum ≤ 65535 * (l.i + 1)) × Sized l.sizes l.most l.table l.n l.before l.all l.sum l.i
