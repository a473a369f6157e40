-- Laws of numbers in two bytes: they come back, and bytes are those of the number that they tell.
use Prim.Native.Nat.{ℕ, suc, ◌+◌, ◌*◌, ◌/◌, ◌%◌, ◌≤◌, ◌<◌}
use mathlib.Core.Path.{◌≡◌, ap, ap₂, sym, ◌∙◌}
use mathlib.Core.List.{[], ◌∷◌}
use native.Mathlib.Nat.{mod-eq_of_lt}
use native.Mathlib.Numerals.{add-one}
use native.Mathlib.Omega.{arith}
use lib.ListN.{length, get_or, take}
use lib.Seq.{drop-cons}
use Rattle.text.specs.Bytes.{Bytes, part}
use Rattle.buffer.specs.Numbers.{two_bytes, two_at}
use Rattle.buffer.proofs.Parts.{get_d_part}

-- Two bytes.
pub two_low : (n : ℕ) → n % 256 + 256 * (n / 256 % 256) ≡ n % 65536
two_low n = omega arith

pub two_back : (n : ℕ) → n < 65536 → n % 256 + 256 * (n / 256 % 256) ≡ n
two_back n h = omega (arith, two_low n)

-- the number whose bytes stand at a place
pub two_there : (h : Bytes) (at n : ℕ) → n < 65536 → part h at 2 ≡ two_bytes n → two_at h at ≡ n
unfolding two_at
two_there h at n b e =
    let low : get_or h at 0 ≡ n % 256 = ap (λ i. get_or h i 0) (let z : at ≡ at + 0 = omega arith in z) ∙ sym (get_d_part h at 2 0 (omega arith)) ∙ ap (λ (r : Bytes). get_or r 0 0) e in
    let high : get_or h (at + 1) 0 ≡ n / 256 % 256 = sym (get_d_part h at 2 1 (omega arith)) ∙ ap (λ (r : Bytes). get_or r 1 0) e in
    rw (low, high) (two_back n b)

-- the bytes of the number that two bytes tell
pub two_of : (a b : ℕ) → a < 256 → b < 256 → two_bytes (a + 256 * b) ≡ a ∷ b ∷ []
two_of a b p q =
    let low : (a + 256 * b) % 256 ≡ a = omega arith in
    let above : (a + 256 * b) / 256 ≡ b = omega arith in
    let high : (a + 256 * b) / 256 % 256 ≡ b = rw above (mod-eq_of_lt q) in
    ap₂ (λ (x y : ℕ). x ∷ y ∷ []) low high

-- what stands at a place is the bytes of the number there
pub two_here : (h : Bytes) (at : ℕ) → at + 2 ≤ length h → ((i : ℕ) → get_or h i 0 < 256) → part h at 2 ≡ two_bytes (two_at h at)
unfolding two_at
two_here h at l b =
    ap (take 2) (drop-cons h at 0 (omega arith) ∙ ap (λ (r : Bytes). get_or h at 0 ∷ r) (drop-cons h (suc at) 0 (omega arith)))
    ∙ rw (← add-one at) (sym (two_of (get_or h at 0) (get_or h (at + 1) 0) (b at) (b (at + 1))))

pub two_small : (h : Bytes) (at : ℕ) → ((i : ℕ) → get_or h i 0 < 256) → two_at h at < 65536
unfolding two_at
two_small h at b = omega (arith, b at, b (at + 1))
