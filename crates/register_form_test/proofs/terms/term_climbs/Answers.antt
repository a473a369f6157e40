use native.Mathlib.Omega.{arith}
use Rattle.register_form_test.proofs.TextWays.{texts}
use Rattle.register_form_test.proofs.TermWays.{term_keyed}
use borrow.Author.Rules.{rules}
use Rattle.register_form_test.proofs.terms.term_climbs.Goals as goal

pub returns-then-f-eq0 : goal.returns-then-f-eq0
returns-then-f-eq0 c = search (texts, rules)

pub returns-then-x-y : goal.returns-then-x-y
returns-then-x-y c = term_keyed c.args.h.now (λ i. omega (arith, c.shared_slice_known-1.given i)) c.args.f _ _ _ c.if-f-eq0.false (omega arith) c.key_at-x.ensures c.key_at-y.ensures c.if-x-y.true

pub returns : goal.returns
returns c = search (texts, rules)
