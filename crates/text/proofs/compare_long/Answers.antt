use Prim.Native.Nat.{ℕ, ◌+◌, ◌*◌}
use mathlib.Core.Path.{◌≡◌, sym, ◌∙◌}
use mathlib.Core.List.{List}
use native.Mathlib.Omega.{arith}
use Rattle.std.proofs.Math.Nat.{min-le_left, min-le_right}
use lib.ListN.{length}
use Rattle.text.proofs.Keys.{Small, keys_differ, keys_same}
use Rattle.text.proofs.Laws.{numbers_cmp}
use Rattle.text.proofs.compare_long.Goals as goal

pub returns-then-x-y : goal.returns-then-x-y
returns-then-x-y c =
    let a : List ℕ = c.args.a.now in
    let b : List ℕ = c.args.b.now in
    let s : Small a = λ j. omega (arith, c.type_inv.a j) in
    let t : Small b = λ j. omega (arith, c.type_inv.b j) in
    (c.cmp.ensures ∙ numbers_cmp _ _) ∙ sym (c.loop-k.invariant ∙ keys_differ a b s t (8 * c.loop-k.k) _ _ c.key_in-x.ensures c.key_in-y.ensures c.if-x-y.true)

pub loop-k-preserved : goal.loop-k-preserved
loop-k-preserved c =
    let a : List ℕ = c.args.a.now in
    let b : List ℕ = c.args.b.now in
    let s : Small a = λ j. omega (arith, c.type_inv.a j) in
    let t : Small b = λ j. omega (arith, c.type_inv.b j) in
    let e : 8 * c.loop-k.k + 8 ≡ 8 * (c.loop-k.k + 1) = omega arith in
    let h = c.loop-k.invariant ∙ keys_same a b s t (8 * c.loop-k.k) _ _ c.key_in-x.ensures c.key_in-y.ensures c.if-x-y.false (omega (arith, c.min-blocks.ensures, min-le_left (length a) (length b))) (omega (arith, c.min-blocks.ensures, min-le_right (length a) (length b))) in
    rw e at h
