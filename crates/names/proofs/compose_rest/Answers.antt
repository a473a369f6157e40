use Rattle.names.proofs.compose_rest.Goals as goal

pub returns : goal.returns
returns c = c.compose_from.ensures c.lent.ensures
