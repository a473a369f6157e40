-- Texts in a heap, one behind the other: a text added is there, and those before it stay.
use Prim.Native.Nat.{ℕ, ◌+◌, ◌%◌, ◌≤◌, ◌<◌}
use mathlib.Core.Path.{◌≡◌, refl, sym, ap, ◌∙◌}
use mathlib.Core.List.{List, ◌++◌, append_assoc}
use native.Mathlib.Nat.{mod-eq_of_lt}
use native.Mathlib.Omega.{arith}
use native.Mathlib.Decide.{ℕ_discrete}
use lib.ListN.{length, get_or, take, drop, set, take-append-drop}
use lib.Seq.{paste, length-take-le, take-length, take_at, drop_at, get_or-set_same, get_or-set_other}
use Rattle.text.specs.Bytes.{Bytes, part}
use Rattle.dictionary.specs.Items.{text_at}
use Rattle.buffer.proofs.Parts.{part_before}
use Rattle.register_join_merge.specs.Merging.{Added}

-- What is pasted is there, and what lies before it stays.
module _ (d t : Bytes) (at : ℕ) (fits : at + length t ≤ length d) where
  abbrev tail : Bytes
  tail = drop (at + length t) d

  pub pasted_is : paste d at t (length t) ≡ take at d ++ (t ++ drop (at + length t) d)
  pasted_is = append_assoc (take at d) (take (length t) t) tail ∙ ap (λ (r : Bytes). take at d ++ (r ++ tail)) (take-length t)

  front : length (take at d) ≡ at
  front = length-take-le at d (omega arith)

  pub pasted_there : part (paste d at t (length t)) at (length t) ≡ t
  pasted_there = ap (λ (r : Bytes). part r at (length t)) pasted_is ∙ ap (take (length t)) (drop_at (take at d) (t ++ tail) at front) ∙ take_at t tail (length t) refl

  pub pasted_before : (a n : ℕ) → a + n ≤ at → part (paste d at t (length t)) a n ≡ part d a n
  pasted_before a n b =
      ap (λ (r : Bytes). part r a n) pasted_is
      ∙ part_before (take at d) (t ++ tail) a n (omega (arith, front))
      ∙ sym (part_before (take at d) (drop at d) a n (omega (arith, front)))
      ∙ ap (λ (r : Bytes). part r a n) (take-append-drop at d)

-- A number written into a table that has room for it.
put_there : (l u : List ℕ) (k v w m : ℕ) → u ≡ set l k (v % m) → v < m → k < length l → get_or u k 0 ≡ v
put_there l u k v w m e b s = ap (λ (r : List ℕ). get_or r k 0) e ∙ get_or-set_same l k (v % m) 0 s ∙ mod-eq_of_lt b

pub put_other : (l u : List ℕ) (k v x : ℕ) → u ≡ set l k v → (x ≡ k → ⊥) → get_or u x 0 ≡ get_or l x 0
put_other l u k v x e n = ap (λ (r : List ℕ). get_or r x 0) e ∙ get_or-set_other l k x v 0 n

module _ (heap : Bytes) (starts lens : List ℕ) (k end : ℕ) (t u : Bytes) (ss ls : List ℕ) (r : ℕ) (a : Added heap starts lens k end t u ss ls r)
    (fits : end + length t ≤ length heap) (low : end < 4294967296) (short : length t < 65536) (rs : k < length starts) (rl : k < length lens) where
  start_new : get_or ss k 0 ≡ end
  start_new = put_there starts ss k end 0 4294967296 a.starts_are low rs

  len_new : get_or ls k 0 ≡ length t
  len_new = put_there lens ls k (length t) 0 65536 a.lens_are short rl

  pub text_new : text_at u ss ls k ≡ t
  unfolding text_at
  text_new = rw (start_new, len_new) (ap (λ (h : Bytes). part h end (length t)) (a.pasted.is fits) ∙ pasted_there heap t end fits)

  module _ (x : ℕ) (b : x < k) where
    other : x ≡ k → ⊥
    other e = omega arith

    start_old : get_or ss x 0 ≡ get_or starts x 0
    start_old = put_other starts ss k (end % 4294967296) x a.starts_are other

    len_old : get_or ls x 0 ≡ get_or lens x 0
    len_old = put_other lens ls k (length t % 65536) x a.lens_are other

    pub text_old : get_or starts x 0 + get_or lens x 0 ≤ end → text_at u ss ls x ≡ text_at heap starts lens x
    unfolding text_at
    text_old w = rw (start_old, len_old) (ap (λ (h : Bytes). part h (get_or starts x 0) (get_or lens x 0)) (a.pasted.is fits) ∙ pasted_before heap t end fits (get_or starts x 0) (get_or lens x 0) w)

  pub within_more : ((x : ℕ) → x < k → get_or starts x 0 + get_or lens x 0 ≤ end) → (x : ℕ) → x < k + 1 → get_or ss x 0 + get_or ls x 0 ≤ r
  within_more w x b = go (ℕ_discrete x k)
    where
      e : r ≡ end + length t
      e = a.pasted.end fits

      go : Dec (x ≡ k) → get_or ss x 0 + get_or ls x 0 ≤ r
      go (yes p) = rw p (omega (arith, start_new, len_new, e))
      go (no p) = let l : x < k = omega (arith, p) in omega (arith, start_old x l, len_old x l, w x l, e)
