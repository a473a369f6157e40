use mathlib.Core.Path.{sym, ◌∙◌}
use native.Mathlib.Omega.{arith}
use borrow.Author.Tests.{not-false}
use Rattle.names.proofs.Fronts.{plain_none, plain_run}
use Rattle.names.proofs.own_form.plain_blocks.Goals as goal

-- src/own_form.rt:64:5
pub loop-i-init : goal.loop-i-init
loop-i-init c = plain_none _

-- src/own_form.rt:64:17
pub overflow_sub-s : goal.overflow_sub-s
overflow_sub-s c = c.loop-i.invariant.most

-- src/own_form.rt:65:13
pub is_plain_block-plain-requires : goal.is_plain_block-plain-requires
is_plain_block-plain-requires c = omega (arith, c.loop-i-test.true, c.loop-i.invariant.most)

-- src/own_form.rt:67:13
pub returns-then-not-plain : goal.returns-then-not-plain
returns-then-not-plain c = c.loop-i.invariant

-- src/own_form.rt:69:9
pub overflow_add-i : goal.overflow_add-i
overflow_add-i c = omega (arith, c.loop-i-test.true, c.loop-i.invariant.most, c.well_formed)

-- src/own_form.rt:64:5
pub loop-i-smaller : goal.loop-i-smaller
loop-i-smaller c = omega (arith, c.loop-i-test.true, c.loop-i.invariant.most)

-- src/own_form.rt:64:5
pub loop-i-preserved : goal.loop-i-preserved
loop-i-preserved c = plain_run _ 16 _ c.loop-i.invariant (omega (arith, c.loop-i-test.true, c.loop-i.invariant.most)) (sym c.is_plain_block-plain.ensures ∙ not-false _ c.if-not-plain.false-raw)

-- src/own_form.rt:60:1
pub returns : goal.returns
returns c = c.loop-i.invariant
