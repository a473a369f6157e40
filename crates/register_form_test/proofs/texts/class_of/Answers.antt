use Rattle.register_form_test.proofs.TextWays.{class_plain, class_spaced, class_other}
use Rattle.register_form_test.proofs.texts.class_of.Goals as goal

pub returns-then-get_or-eq0 : goal.returns-then-get_or-eq0
returns-then-get_or-eq0 c = class_plain c.args.t.now _ _ _ c.name_of.ensures c.get_or.ensures (c.name_class-class.ensures c.requires) c.if-get_or-eq0.true

pub returns-then-spaced-class : goal.returns-then-spaced-class
returns-then-spaced-class c = class_spaced c.args.t.now _ _ _ c.name_of.ensures c.get_or.ensures (c.name_class-class.ensures c.requires) _ _ c.if-get_or-eq0.false c.space_of-space.ensures (c.name_class.ensures c.requires) c.if-spaced-class.true

pub returns-else-spaced-class : goal.returns-else-spaced-class
returns-else-spaced-class c = class_other c.args.t.now _ _ _ c.name_of.ensures c.get_or.ensures (c.name_class-class.ensures c.requires) _ _ c.if-get_or-eq0.false c.space_of-space.ensures (c.name_class.ensures c.requires) c.if-spaced-class.false
