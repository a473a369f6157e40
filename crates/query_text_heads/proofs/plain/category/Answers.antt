use Rattle.query_text_heads.proofs.Bodies.{category_is}
use Rattle.query_text_heads.proofs.plain.category.Goals as goal

pub returns : goal.returns
returns c = category_is c.args.s.now c.args.name _ _ _ _ _ c.args.bare _ _ c.add-added.ensures c.part.ensures c.is_name.ensures c.flag.ensures
