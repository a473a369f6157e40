use mathlib.Core.Path.{refl}
use Rattle.query_core.proofs.Ways.{bare_link, qualified_link}
use Rattle.query_core.proofs.links.link_from.Goals as goal

pub returns-then-mark-eq0 : goal.returns-then-mark-eq0
returns-then-mark-eq0 c = bare_link _ _ _ c.get_or-mark.ensures _ c.get_or-code.ensures _ c.second_of-article.ensures _ c.if-mark-eq0.true _ c.first_of.ensures c.link_at.ensures

pub returns : goal.returns
returns c = qualified_link _ _ _ c.get_or-mark.ensures _ c.get_or-code.ensures _ c.second_of-article.ensures _ c.if-mark-eq0.false _ refl _ _ c.link_name.ensures c.link_namespace.ensures c.link_at-2.ensures
