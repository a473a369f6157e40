-- Laws of numbers in bytes: they come back, and bytes are those of the number that they tell.
use Prim.Native.Nat.{ℕ, ◌+◌, ◌*◌, ◌/◌, ◌%◌, ◌≤◌, ◌<◌, ◌^◌}
use mathlib.Core.Path.{◌≡◌, refl, ap, ap₂, sym, ◌∙◌}
use mathlib.Core.List.{[], ◌∷◌, ◌++◌}
use native.Mathlib.Nat.{mod-add-div, add-mul-mod_self_left}
use native.Mathlib.Omega.{arith}
use lib.ListN.{length, get_or, drop, length-drop}
use lib.Seq.{drop-cons, take_all}
use Rattle.text.specs.Bytes.{Bytes, part}
use Rattle.buffer.specs.Numbers.{two_bytes, eight_bytes, two_at, eight_at}
use Rattle.register_form.specs.Dictionary.{term_of, group_of, term_code}
use Rattle.buffer.proofs.Numbers.{two_low, two_back, two_here, two_small}
use Rattle.buffer.proofs.Parts.{both, part_add}

-- Eight bytes behind one.
pub code_back : (g c : ℕ) → c < 2 ^ 64 → term_code (term_of g c) ≡ c
unfolding eight_at two_at
code_back g n h =
    let b = n / 65536 in
    let c = n / 65536 / 65536 in
    let d = n / 65536 / 65536 / 65536 in
    let small : d < 65536 = omega arith in
    rw (two_low n, two_low b, two_low c, two_back d small, mod-add-div c 65536, mod-add-div b 65536, mod-add-div n 65536)

-- the lowest two bytes, and what is left above them
two_first : (p n : ℕ) → p < 65536 → two_bytes (p + 65536 * n) ≡ two_bytes p
two_first p n l =
    let low : (p + 65536 * n) % 256 ≡ p % 256 = omega arith in
    let above : (p + 65536 * n) / 256 ≡ p / 256 + 256 * n = omega arith in
    let high : (p + 65536 * n) / 256 % 256 ≡ p / 256 % 256 = rw above (add-mul-mod_self_left (p / 256) 256 n) in
    ap₂ (λ (x y : ℕ). x ∷ y ∷ []) low high

two_above : (p n : ℕ) → p < 65536 → (p + 65536 * n) / 65536 ≡ n
two_above p n l = omega arith

-- the bytes of a number are those of its four parts
eight_of : (p q r s : ℕ) → p < 65536 → q < 65536 → r < 65536 → eight_bytes (p + 65536 * (q + 65536 * (r + 65536 * s))) ≡ two_bytes p ++ two_bytes q ++ two_bytes r ++ two_bytes s
eight_of p q r s a b c =
    rw (two_above p (q + 65536 * (r + 65536 * s)), two_above q (r + 65536 * s), two_above r s)
    (both (both (both (two_first p (q + 65536 * (r + 65536 * s)) a) (two_first q (r + 65536 * s) b)) (two_first r s c)) refl)

-- a term is told by its group and its code
pub term_back : (t : Bytes) → length t ≡ 9 → ((i : ℕ) → get_or t i 0 < 256) → term_of (group_of t) (term_code t) ≡ t
unfolding eight_at
term_back t e b =
    let pair : (i : ℕ) → i + 2 ≤ 9 → two_bytes (two_at t i) ≡ part t i 2 = λ i l. sym (two_here t i (omega arith) b) in
    let four : two_bytes (two_at t 1) ++ two_bytes (two_at t 3) ≡ part t 1 4 = both (pair 1 (omega arith)) (pair 3 (omega arith)) ∙ sym (part_add t 1 2 2) in
    let six : two_bytes (two_at t 1) ++ two_bytes (two_at t 3) ++ two_bytes (two_at t 5) ≡ part t 1 6 = both four (pair 5 (omega arith)) ∙ sym (part_add t 1 4 2) in
    let eight : eight_bytes (eight_at t 1) ≡ part t 1 8 =
    eight_of (two_at t 1) (two_at t 3) (two_at t 5) (two_at t 7) (two_small t 1 b) (two_small t 3 b) (two_small t 5 b) ∙ both six (pair 7 (omega arith)) ∙ sym (part_add t 1 6 2) in
    ap (λ (r : Bytes). get_or t 0 0 ∷ r) (eight ∙ take_all 8 (drop 1 t) (omega (arith, length-drop 1 t))) ∙ sym (drop-cons t 0 0 (omega arith))
