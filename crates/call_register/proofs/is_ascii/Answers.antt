use Rattle.call_register.proofs.Preparing.{ascii_none, ascii_more, ascii_all}
use Rattle.call_register.proofs.is_ascii.Goals as goal

pub loop-b-init : goal.loop-b-init
loop-b-init c = ascii_none c.args.s.now

pub loop-b-preserved : goal.loop-b-preserved
loop-b-preserved c = ascii_more c.args.s.now c.loop-b.ascii c.loop-b.b-index c.loop-b-test.true c.loop-b.invariant

pub returns : goal.returns
returns c = ascii_all c.args.s.now _ _ c.loop-b-test.false c.loop-b.invariant
