use mathlib.Core.Path.{refl}
use Rattle.register_text_draft.proofs.Held.{page_added}
use Rattle.register_text_draft.proofs.adding.draft_page.Goals as goal

pub returns-clause-added : goal.returns-clause-added
returns-clause-added c = λ ps p v e short. page_added c.args.texts.now _ _ (c.push_text.ensures.pushed short) p c.args.pages.now v c.args.space.now c.args.name.now refl _ (rw e c.push.ensures.pushed) ps
