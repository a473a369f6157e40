use mathlib.Core.Path.{refl}
use Rattle.register_text_draft.proofs.Steps.{entry_prop, entry_cat, entry_page, entry_val, entry_close}
use Rattle.register_text_draft.proofs.Lent.{own_identifiers, same_tables}
use Rattle.register_text_draft.proofs.draft_entry.Goals as goal

pub returns-in-Prop-clause-added : goal.returns-in-Prop-clause-added
returns-in-Prop-clause-added c = λ ps i. entry_prop c.args.s.now c.args.item ps _ _ _ c.part-x.ensures c.in-Prop.is (c.draft_prop.ensures.added ps _ _)

pub returns-in-Page-clause-added : goal.returns-in-Page-clause-added
returns-in-Page-clause-added c = λ ps i. entry_page c.args.s.now c.args.item ps _ _ _ c.part-x.ensures _ c.part-y.ensures c.in-Page.is (c.draft_page.ensures.added ps _ _ refl)

pub returns-in-Cat-clause-added : goal.returns-in-Cat-clause-added
returns-in-Cat-clause-added c = λ ps i. entry_cat c.args.s.now c.args.item ps _ _ _ c.part-x.ensures c.in-Cat.is (λ w e short. own_identifiers _ _ c.draft_value.ensures.kept.0 _ _ _ _ _ _ (λ x. c.draft_value.ensures.added w c.args.properties.now x e short))

pub returns-in-Val-clause-added : goal.returns-in-Val-clause-added
returns-in-Val-clause-added c = λ ps l. entry_val c.args.s.now c.args.item ps _ _ _ c.part-x.ensures _ c.part-y.ensures c.in-Val.is (λ q. own_identifiers _ _ c.draft_val.ensures.kept.0 _ _ _ _ _ _ (λ x. c.draft_val.ensures.added ps c.args.properties.now x l q))

pub returns-in-Close-clause-added : goal.returns-in-Close-clause-added
returns-in-Close-clause-added c = λ ps i g. entry_close c.args.s.now c.args.item ps _ c.in-Close.is

pub returns-in-Close-clause-same_slices : goal.returns-in-Close-clause-same_slices
returns-in-Close-clause-same_slices c = same_tables _
