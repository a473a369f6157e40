use borrow.Author.Rules.{rules}
use Rattle.buffer.proofs.Blocks.{bits_none, bits_more, bits_end}
use Rattle.buffer.proofs.are_zeros.Goals as goal

pub loop-b-init : goal.loop-b-init
loop-b-init c = search (bits_none, rules)

pub loop-b-preserved : goal.loop-b-preserved
loop-b-preserved c = search (bits_more, rules)

pub returns : goal.returns
returns c = search (bits_end, rules)
