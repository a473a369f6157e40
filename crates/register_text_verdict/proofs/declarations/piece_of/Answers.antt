use Rattle.register_text_verdict.proofs.Naming.{piece}
use Rattle.register_text_verdict.proofs.declarations.piece_of.Goals as goal

-- lost: slice-aggregate-is-closed : tie.Need-slice-aggregate-is-closed
-- slice-aggregate-is-closed c = search rules

pub returns-then-is_closed : goal.returns-then-is_closed
returns-then-is_closed c = search piece

pub returns-in-Page : goal.returns-in-Page
returns-in-Page c = search piece
