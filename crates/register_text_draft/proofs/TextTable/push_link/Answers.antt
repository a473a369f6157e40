use Rattle.register_text_draft.proofs.Filling.{link_bare}
use Rattle.register_text_draft.proofs.TextTable.push_link.Goals as goal

pub returns-in-None-clause-pushed : goal.returns-in-None-clause-pushed
returns-in-None-clause-pushed c = link_bare _ _ c.args.v.now c.split_reference-split.result c.split_reference-split.ensures _ c.part-name.ensures c.in-None.is _ c.part-in-None.ensures c.push_names-in-None.ensures.pushed
