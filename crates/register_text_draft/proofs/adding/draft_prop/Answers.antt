use mathlib.Core.Path.{ap}
use mathlib.Core.List.{[], ◌∷◌}
use native.Mathlib.Omega.{arith}
use lib.ListN.{length}
use Rattle.text.specs.Bytes.{Bytes}
use Rattle.register_form.specs.Dictionary.{labelled}
use Rattle.register_text_draft.proofs.Held.{property_added}
use Rattle.register_text_draft.proofs.adding.draft_prop.Goals as goal

pub returns-clause-added : goal.returns-clause-added
returns-clause-added c = λ ps g v. property_added c.args.texts.now _ _ (c.push_text.ensures.pushed (omega (arith, ap length c.part.ensures))) c.args.properties.now g v c.args.kind c.args.name.now (ap (λ (z : Bytes). labelled z c.args.name.now ∷ []) c.part.ensures) _ c.push.ensures.pushed ps
