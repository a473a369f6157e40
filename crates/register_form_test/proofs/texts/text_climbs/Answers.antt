use native.Mathlib.Omega.{arith}
use Rattle.register_form_test.proofs.TextWays.{texts}
use Rattle.register_form_test.proofs.TextKeys.{some_byte, text_keyed}
use borrow.Author.Rules.{rules}
use Rattle.register_form_test.proofs.texts.text_climbs.Goals as goal

pub returns-then-x-eq0 : goal.returns-then-x-eq0
returns-then-x-eq0 c = search (texts, rules)

pub key_to-a-requires : goal.key_to-a-requires
key_to-a-requires c = (some_byte _ _ _ c.if-n-at.true, c.common-n.ensures.2)

pub key_to-b-requires : goal.key_to-b-requires
key_to-b-requires c = (some_byte _ _ _ c.if-n-at.true, c.common-n.ensures.2)

pub returns-then-a-b : goal.returns-then-a-b
returns-then-a-b c = text_keyed c.args.h.now (λ i. omega (arith, c.shared_slice_known-1.given i)) c.args.x _ _ _ _ _ _ _ _ _ c.if-x-eq0.false c.text_at-s.ensures c.requires c.common-n.ensures.0 c.common-n.ensures.1 c.text_start.ensures (omega arith) c.text_start-2.ensures (omega arith) c.key_to-a.ensures c.key_to-b.ensures c.if-a-b.true

pub returns : goal.returns
returns c = search (texts, rules)
