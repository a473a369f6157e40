use Rattle.query_core_emit.proofs.Adding.{adding}
use borrow.Author.Rules.{rules}
use Rattle.query_core_emit.proofs.writing.put_either.Goals as goal

pub returns : goal.returns
returns c = search (adding, rules)
