use Rattle.buffer.proofs.Copied.{zeros_placed}
use Rattle.buffer.proofs.clear.Goals as goal

pub returns : goal.returns
returns c = zeros_placed c.args.h.now _ c.args.n c.min-end.result c.min-end.ensures (c.fill.ensures.after (λ y h. h))
