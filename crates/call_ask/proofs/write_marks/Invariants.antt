use Rattle.pageset.specs.Marks.{marks_from}
use Rattle.call_ask.proofs.Writing.{Writing}
use Rattle.call_ask.proofs.write_marks.Given as goal

abbrev pub invariant-loop-i : goal.invariant-loop-i
invariant-loop-i l = Writing (marks_from l.words) l.end l.initial.out l.out l.i
