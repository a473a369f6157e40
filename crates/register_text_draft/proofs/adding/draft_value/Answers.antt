use mathlib.Core.Path.{refl}
use Rattle.register_text_draft.specs.Lent.{identified}
use Rattle.register_text_draft.proofs.Held.{value_added}
use Rattle.register_text_draft.proofs.adding.draft_value.Goals as goal

pub returns-clause-added : goal.returns-clause-added
returns-clause-added c = λ w p i e short. value_added c.args.texts.now _ _ (c.push_value.ensures.pushed w e short) p (identified i c.args.pages.now) c.args.terms.now _ _ c.args.group _ (c.push_form.ensures.beside i) w refl (c.value_code-code.ensures w e)
