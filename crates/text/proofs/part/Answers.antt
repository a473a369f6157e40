use Prim.Native.Nat.{ℕ, ◌+◌, ◌-◌, ◌≤◌, ◌<◌}
use mathlib.Core.Path.{◌≡◌, sym, ap, ◌∙◌}
use mathlib.Core.List.{List, []}
use native.Mathlib.Omega.{arith}
use lib.ListN.{length, take, drop, drop_of_length-le, length-drop}
use lib.Seq.{take-nil, take_all}
use Rattle.text.proofs.part.Goals as goal

module _ (l : List ℕ) (start len : ℕ) where
  past : length l ≤ start → [] ≡ take len (drop start l)
  past h = rw (drop_of_length-le l h, take-nil)

  inside : (start + len) - start ≡ len → take ((start + len) - start) (drop start l) ≡ take len (drop start l)
  inside e = ap (λ (n : ℕ). take n (drop start l)) e

  to_end : length l - start < len → take (length l - start) (drop start l) ≡ take len (drop start l)
  to_end h = take_all (length l - start) (drop start l) (omega (arith, length-drop start l)) ∙ sym (take_all len (drop start l) (omega (arith, length-drop start l)))

pub returns-then-s-start : goal.returns-then-s-start
returns-then-s-start c = past c.args.s.now c.args.start c.args.len c.if-s-start.true

pub returns-then-len-s : goal.returns-then-len-s
returns-then-len-s c = inside c.args.s.now c.args.start c.args.len (omega arith)

pub returns : goal.returns
returns c = to_end c.args.s.now c.args.start c.args.len c.if-len-s.false
