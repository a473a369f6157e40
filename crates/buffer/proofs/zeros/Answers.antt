use Prim.Native.Nat.{◌+◌, ◌*◌, ◌-◌, ◌/◌, ◌%◌}
use mathlib.Core.Path.{◌≡◌}
use native.Mathlib.Omega.{arith}
use lib.ListN.{length}
use Rattle.text.specs.Bytes.{part}
use Rattle.buffer.proofs.Blocks.{zeros_none, block_zero, block_other, block_last}
use Rattle.buffer.proofs.zeros.Goals as goal

pub loop-k-init : goal.loop-k-init
loop-k-init c = zeros_none _

pub returns-then-not-are_zeros : goal.returns-then-not-are_zeros
returns-then-not-are_zeros c = block_other c.args.h.now c.args.from c.args.n c.part-s.result.now c.part-s.ensures (256 * c.loop-k.k) 256 _ _ c.block.ensures c.are_zeros.ensures c.loop-k.invariant c.if-not-are_zeros.true (omega arith) (omega arith)

pub loop-k-preserved : goal.loop-k-preserved
loop-k-preserved c =
    let e : 256 * c.loop-k.k + 256 ≡ 256 * (c.loop-k.k + 1) = omega arith in
    rw (← e) (block_zero c.args.h.now c.args.from c.args.n c.part-s.result.now c.part-s.ensures (256 * c.loop-k.k) 256 _ _ c.block.ensures c.are_zeros.ensures c.loop-k.invariant c.if-not-are_zeros.false)

pub returns : goal.returns
returns c =
    let s = c.part-s.result.now in
    let e : 256 * c.loop-k.k ≡ 256 * (length s / 256) = omega arith in
    let n : length s % 256 ≡ length s - 256 * c.loop-k.k = omega arith in
    let p : c.part.result.now ≡ part s (256 * c.loop-k.k) (length s - 256 * c.loop-k.k) = rw (← n, e) c.part.ensures in
    block_last c.args.h.now c.args.from c.args.n s c.part-s.ensures (256 * c.loop-k.k) _ _ p c.are_zeros-2.ensures c.loop-k.invariant (omega arith)
