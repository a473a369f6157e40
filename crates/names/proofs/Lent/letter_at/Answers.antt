use Rattle.names.proofs.Walking.{told_past, told_here}
use Rattle.names.proofs.Lent.letter_at.Goals as goal

-- src/lib.rt:95:9
pub returns-then-s-i : goal.returns-then-s-i
returns-then-s-i c = told_past _ c.args.s.now c.args.i c.if-s-i.true

-- src/lib.rt:83:1
pub returns : goal.returns
returns c = told_here _ c.args.s.now c.args.i _ _ _ _ c.get_or.ensures c.get_or-2.ensures c.get_or-3.ensures c.letter_of.ensures
