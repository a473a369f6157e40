use Rattle.register_form_test.proofs.Trying.{classed, try_not, texts_not, names_not, terms_not, pages_not, try_is}
use borrow.Author.Rules.{rules}
use Rattle.register_form_test.proofs.try_open.Goals as goal

pub returns-then-not-is_laid : goal.returns-then-not-is_laid
returns-then-not-is_laid c = search (try_not, rules)

pub returns-then-not-texts_ok : goal.returns-then-not-texts_ok
returns-then-not-texts_ok c = texts_not _ _ _ c.is_laid.ensures c.if-not-is_laid.false-raw _ _ c.texts_ok.ensures c.if-not-texts_ok.true-raw

pub properties_ok-requires : goal.properties_ok-requires
properties_ok-requires c = classed _ _ _ _ c.is_laid.ensures c.if-not-is_laid.false-raw c.texts_ok.ensures

pub returns-in_default : goal.returns-in_default
returns-in_default c = names_not _ _ _ c.is_laid.ensures c.if-not-is_laid.false-raw _ _ c.texts_ok.ensures _ _ (λ n e. c.in_default.not-Some n e) c.properties_ok.ensures

pub returns-then-not-terms_ok : goal.returns-then-not-terms_ok
returns-then-not-terms_ok c = terms_not _ _ _ c.is_laid.ensures c.if-not-is_laid.false-raw _ _ c.texts_ok.ensures _ _ c.in-Some.ensures _ _ _ c.terms_ok.ensures c.if-not-terms_ok.true-raw

pub returns-in_default-pages_ok : goal.returns-in_default-pages_ok
returns-in_default-pages_ok c = pages_not _ _ _ c.is_laid.ensures c.if-not-is_laid.false-raw _ _ c.texts_ok.ensures _ _ c.in-Some.ensures _ _ _ c.terms_ok.ensures _ _ _ (λ n e. c.in_default-pages_ok.not-Some n e) c.pages_ok.ensures

pub returns : goal.returns
returns c = try_is _ _ _ c.is_laid.ensures c.if-not-is_laid.false-raw _ _ c.texts_ok.ensures _ _ c.in-Some.ensures _ _ _ c.terms_ok.ensures _ _ _ c.in-Some-pages_ok.ensures c.if-not-texts_ok.false-raw c.if-not-terms_ok.false-raw _ _ c.terms_used.ensures c.texts_used.ensures
