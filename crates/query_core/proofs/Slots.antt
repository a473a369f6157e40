-- Laws of a slot's 20 bytes: how they are written, and that the slot comes back.
use Prim.Native.Nat.{ℕ, suc, ◌+◌, ◌/◌, ◌%◌, ◌<◌, ◌^◌}
use mathlib.Core.Path.{◌≡◌}
use native.Mathlib.Omega.{arith}
use native.Mathlib.Nat.{mod-add-div}
use lib.ListN.{set}
use Rattle.text.specs.Bytes.{Bytes}
use Rattle.text.specs.declared.Span.{Span}
use Rattle.buffer.specs.Numbers.{two_bytes, eight_bytes, two_at, eight_at}
use Rattle.buffer.specs.Writing.{written}
use Rattle.buffer.proofs.Numbers.{two_low, two_back}
use Rattle.buffer.proofs.Written.{next, eight_is}
use Rattle.query_core.specs.declared.Slot.{Slot}
use Rattle.query_core.specs.Held.{slot_from}
use Rattle.query_core.specs.Form.{head_bytes, span_bytes, slot_bytes}

-- Eight bytes tell their number, and a slot's bytes the slot.
eight_back : (n : ℕ) → n < 2 ^ 64 → eight_at (eight_bytes n) 0 ≡ n
unfolding eight_at two_at
eight_back n h =
    let b = n / 65536 in
    let c = n / 65536 / 65536 in
    let d = n / 65536 / 65536 / 65536 in
    let small : d < 65536 = omega arith in
    rw (two_low n, two_low b, two_low c, two_back d small, mod-add-div c 65536, mod-add-div b 65536, mod-add-div n 65536)

-- A place whose numbers two bytes hold.
abbrev pub Short : Span → Type 0
Short p = (p.start < 65536) × (p.len < 65536)

pub slot_back : (x : Slot) → Short x.first → Short x.second → x.number < 2 ^ 64 → slot_from (slot_bytes x) ≡ x
unfolding slot_from slot_bytes eight_at two_at
slot_back x p q n =
    rw (two_back x.first.start p.0, two_back x.first.len p.1, two_back x.second.start q.0, two_back x.second.len q.1, eight_back x.number n)

-- The ways to write a slot, part by part.
module _ (h : Bytes) (at : ℕ) where
  pub head_is : (x : Slot) → set (set (set (set h at x.tag) (at + 1) x.comparator) (at + 2) x.kind) (at + 3) 0 ≡ written h at (head_bytes x)
  unfolding written
  head_is x =
      let one : at + 1 ≡ suc at = omega arith in
      let two : at + 2 ≡ suc (suc at) = omega arith in
      let three : at + 3 ≡ suc (suc (suc at)) = omega arith in
      rw (one, two, three)

  pub pair_is : (n : ℕ) → set (set h at (n % 256)) (at + 1) (n / 256 % 256) ≡ written h at (two_bytes n)
  unfolding written
  pair_is n = let one : at + 1 ≡ suc at = omega arith in rw one

  pub span_is : (p : Span) (a b : Bytes) → a ≡ written h at (two_bytes p.start) → b ≡ written a (at + 2) (two_bytes p.len) → b ≡ written h at (span_bytes p)
  span_is p a b e f = next h at _ _ e f

  pub slot_is : (x : Slot) (a b c d : Bytes)
      → a ≡ written h at (head_bytes x)
      → b ≡ written a (at + 4) (span_bytes x.first)
      → c ≡ written b (at + 8) (span_bytes x.second)
      → d ≡ written c (at + 12) (eight_bytes x.number)
      → d ≡ written h at (slot_bytes x)
  unfolding slot_bytes
  slot_is x a b c d p q r s = next h at _ _ (next h at _ _ (next h at _ _ p q) r) s

pub ruleset puts = (head_is, pair_is, span_is, eight_is, slot_is)
