-- Laws of bytes written into a tree's front, its rows and its strings.
use Prim.Native.Nat.{ℕ, ◌+◌, ◌≤◌}
use mathlib.Core.Path.{◌≡◌, ap, ◌∙◌}
use mathlib.Core.List.{◌++◌}
use native.Mathlib.Omega.{arith}
use lib.ListN.{length}
use Rattle.text.specs.Bytes.{Bytes}
use Rattle.buffer.specs.Numbers.{zeros, padded, two_bytes}
use Rattle.buffer.proofs.Padding.{padded_more}
use Rattle.buffer.proofs.Regions.{length_zeros, length_padded}
use Rattle.buffer.specs.Writing.{written}
use Rattle.buffer.proofs.Written.{written_here, written_skip, written_over}

-- Bytes in front of two regions, and what is written into each.
abbrev pub regions : Bytes → Bytes → Bytes → Bytes
regions front rows texts = front ++ (padded 4086 rows ++ padded 1024 texts)

pub written_rows : (rows texts v : Bytes) (at : ℕ) → at ≡ 2 + length rows → length rows + length v ≤ 4086 → written (regions (zeros 2) rows texts) at v ≡ regions (zeros 2) (rows ++ v) texts
written_rows rows texts v at e h =
    ap (λ (n : ℕ). written (regions (zeros 2) rows texts) n v) e
    ∙ written_skip (zeros 2) (padded 4086 rows ++ padded 1024 texts) v 2 (length rows) (length_zeros 2)
    ∙ ap (λ (r : Bytes). zeros 2 ++ r) (written_here v (padded 4086 rows) (padded 1024 texts) (length rows) (omega (arith, length_padded 4086 rows (let z : length rows ≤ 4086 = omega arith in z))))
    ∙ ap (λ (r : Bytes). zeros 2 ++ (r ++ padded 1024 texts)) (padded_more 4086 rows v h)

pub written_texts : (rows texts v : Bytes) (at : ℕ) → at ≡ 4088 + length texts → length rows ≤ 4086 → length texts + length v ≤ 1024 → written (regions (zeros 2) rows texts) at v ≡ regions (zeros 2) rows (texts ++ v)
written_texts rows texts v at e b h =
    let place : at ≡ 2 + (4086 + length texts) = omega (arith, e) in
    ap (λ (n : ℕ). written (regions (zeros 2) rows texts) n v) place
    ∙ written_skip (zeros 2) (padded 4086 rows ++ padded 1024 texts) v 2 (4086 + length texts) (length_zeros 2)
    ∙ ap (λ (r : Bytes). zeros 2 ++ r) (written_skip (padded 4086 rows) (padded 1024 texts) v 4086 (length texts) (length_padded 4086 rows b))
    ∙ ap (λ (r : Bytes). zeros 2 ++ (padded 4086 rows ++ r)) (padded_more 1024 texts v h)

pub written_front : (rows texts : Bytes) (n : ℕ) → written (regions (zeros 2) rows texts) 0 (two_bytes n) ≡ regions (two_bytes n) rows texts
written_front rows texts n =
    written_here (two_bytes n) (zeros 2) (padded 4086 rows ++ padded 1024 texts) 0 (omega (arith, length_zeros 2))
    ∙ ap (λ (r : Bytes). r ++ (padded 4086 rows ++ padded 1024 texts)) (written_over (two_bytes n) (zeros 2) (length_zeros 2))
