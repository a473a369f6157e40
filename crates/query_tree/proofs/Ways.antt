-- What the readers of nodes answer, by what they called.
use Prim.Native.Nat.{ℕ, ◌+◌, ◌*◌, ◌/◌, ◌≤◌, ◌<◌}
use mathlib.Core.Path.{◌≡◌, sym}
use native.Mathlib.Omega.{arith}
use lib.ListN.{length, get_or, get_or-eq_default}
use Rattle.text.specs.Bytes.{Bytes}
use Rattle.buffer.specs.Numbers.{two_at}
use Rattle.query_tree.specs.Form.{row_of, row_in}
use Rattle.query_tree.proofs.Rows.{same_row_lem}

-- A row behind the end.
pub row_past : (h : Bytes) (i : ℕ) → length h / 6 < i → row_of 0 0 0 0 0 ≡ row_in h i
unfolding row_in two_at
row_past h i l =
    same_row_lem (sym (past (2 + 6 * i) (omega arith))) (sym (past (3 + 6 * i) (omega arith)))
    (let a = past (4 + 6 * i) (omega arith) in let b = past (4 + 6 * i + 1) (omega arith) in omega (arith, a, b))
    (sym (past (6 + 6 * i) (omega arith))) (sym (past (7 + 6 * i) (omega arith)))
  where
    past : (n : ℕ) → length h ≤ n → get_or h n 0 ≡ 0
    past n b = get_or-eq_default h 0 {n = n} b
