use native.Mathlib.Omega.{arith}
use Rattle.values.proofs.Ruling.{ruled_none, ruled_more, ruled_all}
use Rattle.values.proofs.rules.ruled_out.Goals as goal

pub loop-b-init : goal.loop-b-init
loop-b-init c = ruled_none c.args.rules.now c.args.s.now

pub loop-b-preserved : goal.loop-b-preserved
loop-b-preserved c = ruled_more c.args.rules.now c.args.s.now c.loop-b.b-index c.loop-b.out _ _ c.loop-b-test.true c.from.ensures c.get_or-out.ensures c.loop-b.invariant

pub returns : goal.returns
returns c = ruled_all c.args.rules.now c.args.s.now c.loop-b.b-index c.loop-b.out (omega (arith, c.loop-b-test.false)) c.loop-b.invariant
