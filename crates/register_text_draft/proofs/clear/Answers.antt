use Rattle.register_text_draft.specs.Lent.{together}
use Rattle.register_text_draft.proofs.Loop.{holding_none}
use Rattle.register_text_draft.proofs.Lent.{tables_cleared}
use Rattle.register_text_draft.proofs.clear.Goals as goal

pub returns-clause-cleared : goal.returns-clause-cleared
returns-clause-cleared c = λ r. holding_none (together c.args.texts.now c.args.properties.now c.args.pages.now c.args.terms.now) r _ c.put.ensures

pub returns-clause-same_slices : goal.returns-clause-same_slices
returns-clause-same_slices c = tables_cleared (together c.args.texts.now c.args.properties.now c.args.pages.now c.args.terms.now) _ _ _ c.put.ensures _ _ _ _ _
