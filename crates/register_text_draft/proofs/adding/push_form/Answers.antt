use Rattle.register_text_draft.specs.Lent.{identified}
use Rattle.register_text_draft.proofs.Rows.{form_pushed}
use Rattle.register_text_draft.proofs.Lent.{firsts_written, terms_written}
use Rattle.register_text_draft.proofs.adding.push_form.Goals as goal

pub returns-clause-pushed : goal.returns-clause-pushed
returns-clause-pushed c = form_pushed c.args.pages.now c.args.terms.now c.args.group c.args.code _ c.from-f.ensures _ c.next-behind.ensures _ c.put.ensures _ c.put-2.ensures _ c.from.ensures _ c.put-3.ensures

pub returns-clause-beside : goal.returns-clause-beside
returns-clause-beside c = λ i. form_pushed (identified i c.args.pages.now) c.args.terms.now c.args.group c.args.code _ c.from-f.ensures _ c.next-behind.ensures _ c.put.ensures _ c.put-2.ensures _ c.from.ensures _ c.put-3.ensures

pub returns-clause-same_pages : goal.returns-clause-same_pages
returns-clause-same_pages c = firsts_written _ _ _ _ c.put-3.ensures _

pub returns-clause-same_terms : goal.returns-clause-same_terms
returns-clause-same_terms c = terms_written _ _ _ _ c.put.ensures _ _ _ c.put-2.ensures _
