use Rattle.program_listing.proofs.Lines.{page_unmarked, page_marked}
use Rattle.program_listing.proofs.pagelist.put_page.Goals as goal

pub returns-then-mark-ne1 : goal.returns-then-mark-ne1
returns-then-mark-ne1 c = page_unmarked _ _ _ _ _ c.if-mark-ne1.true

pub returns : goal.returns
returns c = page_marked _ _ _ _ _ _ _ _ _ _ c.if-mark-ne1.false c.namespace_at-namespace.ensures c.article_at-article.ensures c.from.ensures c.put_line.ensures
