use Rattle.names.proofs.table.Table.put_name.Goals as goal

pub returns : goal.returns
returns c = c.put_name.ensures c.lent-lent.ensures
