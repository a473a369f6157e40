use Rattle.register_text_entries.proofs.Copying.{Going}
use Rattle.register_text_entries.proofs.composing.compose.Given as goal

abbrev pub invariant-loop-i : goal.invariant-loop-i
invariant-loop-i l = Going l.s l.t l.initial.copy l.initial.u l.copy l.u l.broken l.end l.i
