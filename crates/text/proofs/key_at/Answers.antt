use Rattle.text.proofs.Keys.{key_part}
use Rattle.text.proofs.key_at.Goals as goal

pub returns : goal.returns
returns c = key_part c.args.s.now _ c.args.at _ c.part.ensures c.key_of_eight.ensures
