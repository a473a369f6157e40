use mathlib.Core.Path.{◌∙◌}
use native.Mathlib.Omega.{arith}
use Rattle.buffer.proofs.Written.{written_past}
use Rattle.buffer.proofs.Copied.{written_cut}
use Rattle.buffer.proofs.put_bytes.Goals as goal

pub returns-then-h-at : goal.returns-then-h-at
returns-then-h-at c = written_past _ _ _ (omega arith)

pub returns : goal.returns
returns c = c.put_all.ensures ∙ written_cut c.args.h.now c.args.v.now c.args.at c.min-n.result (omega arith) c.min-n.ensures
