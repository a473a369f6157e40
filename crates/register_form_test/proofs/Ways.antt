-- Where no bytes of a region are left, they are 0.
use Prim.Native.Nat.{ℕ, ◌+◌, ◌-◌, ◌≤◌}
use mathlib.Core.Path.{◌≡◌}
use mathlib.Core.Bool.{true}
use native.Mathlib.Omega.{arith}
use Rattle.text.specs.Bytes.{Bytes}
use Rattle.buffer.specs.Tests.{all_to, zeros_at}

pub zeros_none : (h : Bytes) (base size n room : ℕ) → room ≡ size → room ≤ n → true ≡ zeros_at h (base + n) (size - n)
unfolding zeros_at all_to
zeros_none h base size n room e l = let m : size - n ≡ 0 = omega arith in rw m
