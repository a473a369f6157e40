use borrow.Author.Rules.{rules}
use Rattle.register_text_verdict.proofs.Ways.{fits_page}
use Rattle.register_text_verdict.proofs.checks.value_fits.Goals as goal

pub returns-in-Page : goal.returns-in-Page
returns-in-Page c = search (fits_page, rules)
