use Rattle.register_text_draft.proofs.Held.{val_added}
use Rattle.register_text_draft.proofs.adding.draft_val.Goals as goal

pub returns-clause-added : goal.returns-clause-added
returns-clause-added c = λ ps p i l q. val_added c.args.s.now c.args.t.now c.args.props.now c.args.np c.args.x.now c.args.v.now ps l q _ c.property_place.ensures _ _ c.in-Some.is _ _ c.from.ensures c.byte.ensures _ _ (λ w e short. c.draft_value.ensures.added w p i e short)
