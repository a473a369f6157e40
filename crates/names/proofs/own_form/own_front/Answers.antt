use mathlib.Core.Path.{◌≡◌, subst}
use native.Mathlib.Omega.{arith}
use lib.ListN.{length}
use Rattle.names.specs.Steps.{OwnFront}
use Rattle.names.proofs.Fronts.{plain_more, plain_whole}
use Rattle.names.proofs.own_form.own_front.Goals as goal

pub loop-i-init : goal.loop-i-init
loop-i-init c = c.plain_blocks-i.ensures

pub front_from-requires : goal.front_from-requires
front_from-requires c = rw c.saturating_sub.ensures c.loop-i.invariant.front

pub loop-i-preserved : goal.loop-i-preserved
loop-i-preserved c = plain_more _ _ c.loop-i.invariant _ c.is_plain.ensures c.if-not-is_plain.false-raw c.loop-i-test.true

pub returns : goal.returns
returns c =
    let end : c.loop-i.i ≡ length c.args.s.now = omega (arith, c.loop-i.invariant.most, c.loop-i-test.false) in
    subst (OwnFront c.args.s.now) end (plain_whole _ _ c.loop-i.invariant (omega (arith, end)))
