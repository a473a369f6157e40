use Rattle.names.proofs.OwnForm.{PairedTo}
use Rattle.names.proofs.own_form.all_paired.Given as goal

abbrev pub invariant-loop-i : goal.invariant-loop-i
invariant-loop-i l = PairedTo l.s l.fits l.i
