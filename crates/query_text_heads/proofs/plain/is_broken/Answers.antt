use mathlib.Core.Path.{ap, ◌∙◌}
use Rattle.std.specs.Result.{is_err}
use Rattle.query_text_heads.proofs.Bodies.{broken_is}
use Rattle.query_text_heads.proofs.plain.is_broken.Goals as goal

pub returns : goal.returns
returns c = broken_is c.args.s.now _ _ _ _ (c.read_piece.ensures c.requires) (c.is_err.ensures.value ∙ ap is_err c.refuse_piece.ensures.refusal)
