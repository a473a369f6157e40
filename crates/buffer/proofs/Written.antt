-- Laws of bytes written into a buffer.
use Prim.Native.Nat.{ℕ, suc, ◌+◌, ◌/◌, ◌%◌, ◌≤◌, ◌<◌}
use mathlib.Core.Path.{◌≡◌, refl, ap, ◌∙◌}
use mathlib.Core.List.{[], ◌∷◌, ◌++◌}
use native.Mathlib.Omega.{arith}
use native.Mathlib.Nat.{add-zero, zero-add, suc-add}
use lib.ListN.{length, set, length-set}
use lib.Seq.{sets, length-sets, set_out, set-set, set_comm, set-append_left}
use Rattle.text.specs.Bytes.{Bytes}
use Rattle.buffer.specs.Numbers.{two_bytes, eight_bytes}
use Rattle.buffer.specs.Writing.{written}

-- What is written past the end, and after other bytes.
pub written_past : (v h : Bytes) (at : ℕ) → length h ≤ at → h ≡ written h at v
unfolding written
written_past [] h at l = refl
written_past (b ∷ v) h at l = rw (set_out h at b l) (written_past v h (suc at) (omega arith))

pub written_then : (a b h : Bytes) (at : ℕ) → written (written h at a) (at + length a) b ≡ written h at (a ++ b)
unfolding written
written_then [] b h at = rw add-zero
written_then (x ∷ a) b h at =
    let e : at + suc (length a) ≡ suc at + length a = omega arith in
    rw e (written_then a b (set h at x) (suc at))

pub written_none : (h : Bytes) (at : ℕ) → written h at [] ≡ h
unfolding written
written_none h at = refl

pub length_written : (h : Bytes) (at : ℕ) (v : Bytes) → length (written h at v) ≡ length h
unfolding written
length_written h at v = length-sets h at v

-- Bytes written over others that are no more.
set_before : (v h : Bytes) (i j y : ℕ) → j < i → set (sets h i v) j y ≡ sets (set h j y) i v
set_before [] h i j y l = refl
set_before (x ∷ v) h i j y l = set_before v (set h i x) (suc i) j y (omega arith) ∙ ap (λ (k : Bytes). sets k (suc i) v) (set_comm h i j x y (λ e. omega arith))

pub byte_before : (v h : Bytes) (i j y : ℕ) → j < i → set (written h i v) j y ≡ written (set h j y) i v
unfolding written
byte_before v h i j y l = set_before v h i j y l

pub written_longer : (v w h : Bytes) (at : ℕ) → length v ≤ length w → written (written h at v) at w ≡ written h at w
unfolding written
written_longer [] w h at l = refl
written_longer (x ∷ v) [] h at l = absurd (omega arith)
written_longer (x ∷ v) (y ∷ w) h at l =
    ap (λ (k : Bytes). sets k (suc at) w) (set_before v (set h at x) (suc at) at y (omega arith) ∙ ap (λ (k : Bytes). sets k (suc at) v) (set-set h at x y))
    ∙ written_longer v w (set h at y) (suc at) (omega arith)

-- A part of a buffer is written into as if it stood alone.
pub written_here : (v a s : Bytes) (at : ℕ) → at + length v ≤ length a → written (a ++ s) at v ≡ written a at v ++ s
unfolding written
written_here [] a s at l = refl
written_here (b ∷ v) a s at l =
    rw (set-append_left a s at b (omega arith)) (written_here v (set a at b) s (suc at) (omega (arith, length-set a at b)))

written_cons : (v s : Bytes) (x at : ℕ) → written (x ∷ s) (suc at) v ≡ x ∷ written s at v
unfolding written
written_cons [] s x at = refl
written_cons (b ∷ v) s x at = written_cons v (set s at b) x (suc at)

written_behind : (a s v : Bytes) (at : ℕ) → written (a ++ s) (length a + at) v ≡ a ++ written s at v
written_behind [] s v at = rw zero-add
written_behind (x ∷ a) s v at = rw (suc-add (length a) at, written_cons v (a ++ s) x (length a + at), written_behind a s v at)

pub written_skip : (a s v : Bytes) (n at : ℕ) → length a ≡ n → written (a ++ s) (n + at) v ≡ a ++ written s at v
written_skip a s v n at e = rw (← e) (written_behind a s v at)

-- Bytes over as many others.
pub written_over : (v a : Bytes) → length a ≡ length v → written a 0 v ≡ v
unfolding written
written_over [] [] e = refl
written_over [] (x ∷ a) e = absurd (omega arith)
written_over (b ∷ v) [] e = absurd (omega arith)
written_over (b ∷ v) (x ∷ a) e = written_cons v a b 0 ∙ ap (λ (r : Bytes). b ∷ r) (written_over v a (omega arith))

-- The ways to write numbers, part by part.
module _ (h : Bytes) (at : ℕ) where
  pub byte_there : (b : ℕ) → at < length h → set h at b ≡ written h at (b ∷ [])
  unfolding written
  byte_there b l = refl

  pub next : (v w : Bytes) {k l : Bytes} → k ≡ written h at v → l ≡ written k (at + length v) w → l ≡ written h at (v ++ w)
  next v w e f = f ∙ rw e (written_then v w h at)

  pub two_is : (n : ℕ) (k l : Bytes) → k ≡ written h at (n % 256 ∷ []) → l ≡ written k (at + 1) (n / 256 % 256 ∷ []) → l ≡ written h at (two_bytes n)
  two_is n k l e f = next _ _ e f

  pub eight_is : (n : ℕ) (k l m o : Bytes)
      → k ≡ written h at (two_bytes n)
      → l ≡ written k (at + 2) (two_bytes (n / 65536))
      → m ≡ written l (at + 4) (two_bytes (n / 65536 / 65536))
      → o ≡ written m (at + 6) (two_bytes (n / 65536 / 65536 / 65536))
      → o ≡ written h at (eight_bytes n)
  eight_is n k l m o e f g i = next _ _ (next _ _ (next _ _ e f) g) i

pub ruleset puts = (written_past, byte_there, two_is, eight_is)
