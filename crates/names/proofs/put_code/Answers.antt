use Rattle.buffer.proofs.Written.{written_past}
use Rattle.names.proofs.Walking.{put_one, put_two}
use Rattle.names.proofs.put_code.Goals as goal

pub returns-then-code-lt128 : goal.returns-then-code-lt128
returns-then-code-lt128 c = put_one c.args.h.now c.args.at c.args.code _ c.if-code-lt128.true c.put_byte.ensures

pub returns-then-h-at : goal.returns-then-h-at
returns-then-h-at c = written_past _ _ _ c.if-h-at.true

pub returns : goal.returns
returns c = put_two c.args.h.now c.args.at c.args.code _ _ c.if-code-lt128.false c.put_byte-2.ensures c.put_byte-3.ensures
