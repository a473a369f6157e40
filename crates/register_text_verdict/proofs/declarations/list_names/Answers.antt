use mathlib.Core.Path.{◌∙◌}
use mathlib.Core.Bool.{false≢true}
use Rattle.register_text_verdict.proofs.Naming.{listing_none, listing_more, listing_all}
use Rattle.register_text_verdict.proofs.declarations.list_names.Goals as goal

pub returns-then-s-starts : goal.returns-then-s-starts
returns-then-s-starts c = λ e. absurd (false≢true e)

pub loop-k-init : goal.loop-k-init
loop-k-init c = listing_none _ _ _ _ _ _

pub shape_of-starts-in_default : goal.shape_of-starts-in_default
shape_of-starts-in_default c = c.loop-k.invariant.sizes.0

pub shape_of-lens-in_default : goal.shape_of-lens-in_default
shape_of-lens-in_default c = c.loop-k.invariant.sizes.1

pub returns-in_default : goal.returns-in_default
returns-in_default c = λ e. absurd (false≢true e)

pub loop-k-preserved : goal.loop-k-preserved
loop-k-preserved c = listing_more _ _ _ _ _ _ _ _ _ c.loop-k.invariant c.if-s-starts.false c.loop-k-test.true _ (c.from.ensures ∙ c.get_or.ensures) c.item_at.result c.item_at.ensures _ c.piece_of.ensures _ c.in-Some.is _ _ (rw (c.from-in-loop-k.ensures, c.narrow.ensures) at c.put.ensures) c.put-in-loop-k.ensures

pub shape_of-starts : goal.shape_of-starts
shape_of-starts c = c.loop-k.invariant.sizes.0

pub shape_of-lens : goal.shape_of-lens
shape_of-lens c = c.loop-k.invariant.sizes.1

pub returns : goal.returns
returns c = λ e. listing_all _ _ _ _ _ _ _ _ _ c.loop-k.invariant c.loop-k-test.false
