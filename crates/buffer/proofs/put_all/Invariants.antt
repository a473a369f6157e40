use Rattle.buffer.proofs.Looping.{Stored}
use Rattle.buffer.proofs.put_all.Given as goal

abbrev pub invariant-loop-i : goal.invariant-loop-i
invariant-loop-i l = Stored l.initial.h l.at l.v l.h l.i
