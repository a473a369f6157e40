use Rattle.query_core_emit.proofs.References.{article_strict, article_either}
use Rattle.query_core_emit.proofs.writing.put_article.Goals as goal

pub returns-then-or_equal : goal.returns-then-or_equal
returns-then-or_equal c = article_either c.args.s.now c.args.p c.args.c _ _ c.or_equal.ensures c.strict-d.ensures _ _ _ _ c.put_select-one.ensures _ _ _ _ c.if-or_equal.true c.put_select-two.ensures c.put_join.ensures

pub returns : goal.returns
returns c = article_strict c.args.s.now c.args.p c.args.c _ _ c.or_equal.ensures c.strict-d.ensures _ _ _ _ c.put_select-one.ensures c.if-or_equal.false
