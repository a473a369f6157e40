use Prim.Native.Nat.{ℕ, ◌<◌}
use native.Mathlib.Omega.{arith}
use lib.ListN.{get_or}
use Rattle.register_form_test.proofs.Held.{held_none, held_some, held_form}
use Rattle.call_join.proofs.Calls.{join_no_first, join_no_second, join_both}
use Rattle.call_join.proofs.join.Goals as goal

pub returns-then-not-open : goal.returns-then-not-open
returns-then-not-open c = join_no_first _ _ _ (held_none _ _ c.part-h.ensures _ _ _ c.before.before.«open».ensures c.if-not-open.true-raw)

pub returns-then-not-open-2 : goal.returns-then-not-open-2
returns-then-not-open-2 c = join_no_second _ _ _ _ (held_some _ _ c.part-h.ensures _ _ _ c.before.before.before.before.before.before.«open».ensures c.if-not-open.false-raw) (held_none _ _ c.part-g.ensures _ _ _ c.open-2.ensures c.if-not-open-2.true-raw)

pub returns : goal.returns
returns c =
    let one : (i : ℕ) → get_or c.args.first.now i 0 < 256 = λ i. omega (arith, c.shared_slice_known-1.given i) in
    let two : (i : ℕ) → get_or c.args.second.now i 0 < 256 = λ i. omega (arith, c.shared_slice_known-2-1.given i) in
    join_both _ _ _ _ _ 63628 _ _
    (held_some _ _ c.part-h.ensures _ _ _ c.before.before.before.before.before.before.before.before.before.before.«open».ensures c.if-not-open.false-raw)
    (held_some _ _ c.part-g.ensures _ _ _ c.open-2.ensures c.if-not-open-2.false-raw)
    (held_form c.args.first.now _ c.part-h.ensures _ _ _ c.before.before.before.before.before.before.before.before.before.before.«open».ensures c.if-not-open.false-raw)
    (held_form c.args.second.now _ c.part-g.ensures _ _ _ c.open-2.ensures c.if-not-open-2.false-raw)
    c.part-h.ensures
    c.part-g.ensures
    one
    two
    c.join_forms.ensures
