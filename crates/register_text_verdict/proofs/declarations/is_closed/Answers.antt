use Rattle.register_text_verdict.proofs.Naming.{closed_is}
use Rattle.register_text_verdict.proofs.declarations.is_closed.Goals as goal

pub returns : goal.returns
returns c = search closed_is
