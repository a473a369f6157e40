use Rattle.names.proofs.Naming.{shape_empty, shape_is}
use Rattle.names.proofs.has_name_shape.Goals as goal

-- lost: slice-aggregate-one-of : tie.Need-slice-aggregate-one-of
-- slice-aggregate-one-of c = search rules

pub returns-then-s-eq0 : goal.returns-then-s-eq0
returns-then-s-eq0 c = shape_empty c.args.s.now c.if-s-eq0.true

pub returns : goal.returns
returns c = shape_is c.args.s.now _ _ _ _ _ c.get_or-first.ensures c.get_or-last.ensures c.one_of.ensures c.in_class.ensures c.in_class-2.ensures
