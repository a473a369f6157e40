use native.Mathlib.Omega.{arith}
use Rattle.register_text_entries.proofs.Copying.{copied_way, gap_size}
use Rattle.register_text_entries.proofs.composing.copy_entry.Goals as goal

-- lost: -- src/composing.rt:186:19
-- add-t31 : tie.Need-overflow-add-t31
-- add-t31 c = search rules

-- src/composing.rt:169:15
pub overflow_add-end : goal.overflow_add-end
overflow_add-end c = omega (arith, c.from-start.ensures, c.from-n.ensures, c.narrow.ensures, c.ranges)

-- src/composing.rt:171:25
pub overflow_add-end-2 : goal.overflow_add-end-2
overflow_add-end-2 c = omega (arith, c.from-start.ensures, c.from-n.ensures, c.narrow.ensures, c.from.ensures, c.gap_size.ensures, gap_size c.args.item.tag, c.ranges)

-- src/composing.rt:148:1
pub returns : goal.returns
returns c = copied_way c.args.s.now c.args.item _ _ _ _ c.args.at _ _ c.kept-first.result c.kept-second.result _ _ _ _ _ _ _ _ _ _ _ _ _ _ c.has_first.ensures c.kept-first.ensures c.has_second.ensures c.kept-second.ensures c.part-a.ensures c.part-b.ensures c.from-start.ensures c.put_name-first_size.ensures c.narrow.ensures c.from-n.ensures c.put_gap.ensures c.gap_size.ensures c.from.ensures c.narrow-behind.ensures c.from-begin.ensures c.put_second-second_size.ensures c.narrow-2.ensures c.from-m.ensures c.is_broken-broken.ensures
