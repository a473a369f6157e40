-- The code of a term among the bytes of all terms.
use Prim.Native.Nat.{ℕ, ◌+◌, ◌*◌, ◌<◌}
use mathlib.Core.Path.{◌≡◌, ap, ◌∙◌}
use native.Mathlib.Omega.{arith}
use lib.ListN.{get_or}
use Rattle.text.specs.Bytes.{Bytes, part}
use Rattle.buffer.specs.Numbers.{two_at, eight_at}
use Rattle.register_form.specs.Dictionary.{term_code}
use Rattle.register_form.specs.Form.{term_at}
use Rattle.buffer.proofs.Parts.{get_d_part}

module _ (h : Bytes) where
  two_in : (a i : ℕ) → i < 8 → two_at (part h a 9) i ≡ two_at h (a + i)
  unfolding two_at
  two_in a i l = rw (get_d_part h a 9 i (omega arith), get_d_part h a 9 (i + 1) (omega arith)) (ap (λ (k : ℕ). get_or h (a + i) 0 + 256 * get_or h k 0) (let y : a + (i + 1) ≡ a + i + 1 = omega arith in y))

  eight_in : (a : ℕ) → eight_at h (a + 1) ≡ eight_at (part h a 9) 1
  unfolding eight_at
  eight_in a =
      let q : a + 1 + 2 ≡ a + 3 = omega arith in
      let s : a + 1 + 4 ≡ a + 5 = omega arith in
      let t : a + 1 + 6 ≡ a + 7 = omega arith in
      rw (q, s, t, two_in a 1 (omega arith), two_in a 3 (omega arith), two_in a 5 (omega arith), two_in a 7 (omega arith))

  pub code_is : (f w r : ℕ) → w ≡ 5323 + 9 * f → r ≡ eight_at h w → r ≡ term_code (term_at h f)
  unfolding term_at
  code_is f w r e g =
      g ∙ ap (eight_at h) (let y : w ≡ 5322 + 9 * f + 1 = omega (arith, e) in y) ∙ eight_in (5322 + 9 * f)
