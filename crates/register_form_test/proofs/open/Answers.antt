use Prim.Native.Nat.{ℕ, ◌<◌}
use native.Mathlib.Omega.{arith}
use lib.ListN.{get_or}
use Rattle.register_form_test.proofs.Trying.{open_other, open_is}
use Rattle.register_form_test.proofs.open.Goals as goal

pub returns-then-places-ne-TEXT_ROOM : goal.returns-then-places-ne-TEXT_ROOM
returns-then-places-ne-TEXT_ROOM c =
    let bytes : (i : ℕ) → get_or c.args.h.now i 0 < 256 = λ i. omega (arith, c.shared_slice_known-1.given i) in
    open_other _ _ _ _ bytes c.if-places-ne-TEXT_ROOM.true c.try_open.ensures

pub returns : goal.returns
returns c =
    let bytes : (i : ℕ) → get_or c.args.h.now i 0 < 256 = λ i. omega (arith, c.shared_slice_known-1.given i) in
    open_is _ _ _ _ _ bytes c.if-places-ne-TEXT_ROOM.false (c.fill.ensures.after (λ y e. e)) c.try_open-2.ensures
