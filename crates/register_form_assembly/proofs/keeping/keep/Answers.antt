use borrow.Author.Tests.{not-false}
use Rattle.register_form_assembly.proofs.Keepings.{kept_there, kept_new}
use Rattle.register_form_assembly.proofs.keeping.keep.Goals as goal

pub returns-then-get_or-page : goal.returns-then-get_or-page
returns-then-get_or-page c = kept_there _ _ _ _ _ _ _ _ (not-false _ c.if-not-wanted.false-raw) c.from-k.ensures c.get_or.ensures c.if-get_or-page.true

pub returns : goal.returns
returns c = kept_new _ _ _ _ _ _ _ _ (not-false _ c.if-not-wanted.false-raw) c.from-k.ensures c.get_or.ensures _ _ _ _ c.if-get_or-page.false c.put.ensures c.from.ensures c.put-2.ensures c.bump.ensures
