-- Laws of UTF-8: what is written reads back, and what reads is what is written of it.
use Rattle.std.specs.Prelude.{Option, Some, None}
use Prim.Native.Nat.{ℕ, ◌+◌, ◌*◌, ◌/◌, ◌%◌, ◌≤◌}
use mathlib.Core.Path.{◌≡◌, refl, sym, ap, ◌∙◌}
use mathlib.Core.Bool.{Bool, true, false, cond, ◌&&◌, ◌||◌, and-eq-true_iff, and-false, or-true, or-false}
use mathlib.Core.List.{List, [], ◌∷◌, ◌++◌}
use native.Mathlib.Omega.{arith}
use lib.Dec.{leb}
use lib.ListN.{get_or}
use borrow.Author.Tests.{leb-true, le-leb, lt-leb, lt-ltb, le-ltb}
use Rattle.text.specs.Bytes.{Bytes, all}
use Rattle.text.specs.Class.{is_name_byte}
use Rattle.names.specs.Codes.{within, is_mark, is_plain, is_wide, is_allowed, pair_code, is_pair, before, read, encode, write}

pub within_true : (a b c : ℕ) → within a b c ≡ true → (a ≤ c) × (c ≤ b)
within_true a b c h =
    let k = (and-eq-true_iff (leb a c) (leb c b)).0 h in
    (leb-true a c k.0, leb-true c b k.1)

pub true_within : (a b c : ℕ) → a ≤ c → c ≤ b → within a b c ≡ true
true_within a b c h k = rw (le-leb a c h, le-leb c b k)

-- The ranges of one byte and of two.
pub plain_range : (c : ℕ) → is_plain c ≡ true → (32 ≤ c) × (c ≤ 126)
unfolding is_plain
plain_range c h = within_true 32 126 c ((and-eq-true_iff (within 32 126 c) (is_name_byte c)).0 h).0

pub mark_range : (c : ℕ) → is_mark c ≡ true → (768 ≤ c) × (c ≤ 808)
unfolding is_mark
mark_range c h = go (within 768 772 c) (within 774 776 c) (within 778 780 c) refl refl refl
  where
    go : (p q r : Bool) → within 768 772 c ≡ p → within 774 776 c ≡ q → within 778 780 c ≡ r → (768 ≤ c) × (c ≤ 808)
    go true q r e f g = let k = within_true 768 772 c e in (omega arith, omega arith)
    go false true r e f g = let k = within_true 774 776 c f in (omega arith, omega arith)
    go false false true e f g = let k = within_true 778 780 c g in (omega arith, omega arith)
    go false false false e f g = let k = within_true 807 808 c (rw (e, f, g) at h) in (omega arith, omega arith)

pub wide_range : (c : ℕ) → is_wide c ≡ true → (160 ≤ c) × (c ≤ 808)
unfolding is_wide
wide_range c h = go (within 160 383 c) refl
  where
    go : (p : Bool) → within 160 383 c ≡ p → (160 ≤ c) × (c ≤ 808)
    go true e = let k = within_true 160 383 c e in (omega arith, omega arith)
    go false e = let k = mark_range c (rw e at h) in (omega arith, omega arith)

pub wide_letter_lem : (c : ℕ) → 160 ≤ c → c ≤ 383 → is_wide c ≡ true
unfolding is_wide
wide_letter_lem c h k = rw (true_within 160 383 c h k)

pub letter_range : (c : ℕ) → is_wide c ≡ true → is_mark c ≡ false → (160 ≤ c) × (c ≤ 383)
unfolding is_wide
letter_range c w m = within_true 160 383 c (sym (or-false (within 160 383 c)) ∙ (rw m at w))

pub not_plain : (c : ℕ) → 127 ≤ c → is_plain c ≡ false
unfolding is_plain
not_plain c h = rw (lt-leb c 126 (omega arith), and-false (leb 32 c))

-- What two bytes tell of their code point.
pub record Paired (a b : ℕ) : Type 0 where
  pub lead : 192 ≤ a
  pub most : a ≤ 223
  pub behind : 128 ≤ b
  pub behind_most : b ≤ 191
  pub wide : is_wide (pair_code a b) ≡ true

pub paired : (a b : ℕ) → is_pair a b ≡ true → Paired a b
unfolding is_pair
paired a b h =
    let k = (and-eq-true_iff (within 192 223 a && within 128 191 b) (is_wide (pair_code a b))).0 h in
    let l = (and-eq-true_iff (within 192 223 a) (within 128 191 b)).0 k.0 in
    let p = within_true 192 223 a l.0 in
    let q = within_true 128 191 b l.1 in
    record { lead = p.0; most = p.1; behind = q.0; behind_most = q.1; wide = k.1 }

-- One code point at the front.
read_step : (a b : ℕ) (s : Bytes) → read (a ∷ b ∷ s) ≡ cond (is_plain a) (before a (read (b ∷ s))) (cond (is_pair a b) (before (pair_code a b) (read s)) None)
unfolding read
read_step a b s = go (is_plain a) (is_pair a b) (before a (read (b ∷ s))) (before (pair_code a b) (read s))
  where
    go : (p q : Bool) (x y : Option (List ℕ)) → elim p [ true ↦ x | false ↦ elim q [ true ↦ y | false ↦ None ] ] ≡ cond p x (cond q y None)
    go true q x y = refl
    go false true x y = refl
    go false false x y = refl

pub read_plain : (a : ℕ) (s : Bytes) → is_plain a ≡ true → read (a ∷ s) ≡ before a (read s)
unfolding read
read_plain a [] h = rw h
read_plain a (b ∷ s) h = read_step a b s ∙ rw h

pub read_pair : (a b : ℕ) (s : Bytes) → is_pair a b ≡ true → read (a ∷ b ∷ s) ≡ before (pair_code a b) (read s)
read_pair a b s h = let p = paired a b h in read_step a b s ∙ rw (not_plain a (omega (arith, p.lead)), h)

pub read_none : (a : ℕ) (s : Bytes) → is_plain a ≡ false → is_pair a (get_or s 0 0) ≡ false → read (a ∷ s) ≡ None
unfolding read
read_none a [] h k = rw h
read_none a (x ∷ s) h k = read_step a x s ∙ rw (h, k)

-- The bytes of a code point.
pub encode_plain : (c : ℕ) → is_plain c ≡ true → encode c ≡ c ∷ []
unfolding encode
encode_plain c h = rw (lt-ltb c 128 (omega (arith, plain_range c h)))

pub encode_pair : (a b : ℕ) → is_pair a b ≡ true → encode (pair_code a b) ≡ a ∷ b ∷ []
unfolding encode pair_code
encode_pair a b h =
    let p = paired a b h in
    let w = wide_range (pair_code a b) p.wide in
    let x : 192 + (64 * (a % 32) + b % 64) / 64 % 32 ≡ a = omega (arith, p.lead, p.most) in
    let y : 128 + (64 * (a % 32) + b % 64) % 64 ≡ b = omega (arith, p.behind, p.behind_most) in
    rw (le-ltb (64 * (a % 32) + b % 64) 128 (omega (arith, w.0)), x, y)

module _ (c : ℕ) (h : is_wide c ≡ true) where
  pub encode_wide : encode c ≡ (192 + c / 64 % 32) ∷ (128 + c % 64) ∷ []
  unfolding encode
  encode_wide = rw (le-ltb c 128 (omega (arith, wide_range c h)))

  code_wide : pair_code (192 + c / 64 % 32) (128 + c % 64) ≡ c
  unfolding pair_code
  code_wide = omega (arith, wide_range c h)

  wide_pairs : is_pair (192 + c / 64 % 32) (128 + c % 64) ≡ true
  unfolding is_pair
  wide_pairs =
      rw (true_within 192 223 (192 + c / 64 % 32) (omega arith) (omega arith), true_within 128 191 (128 + c % 64) (omega arith) (omega arith), code_wide, h)

-- What is written reads back.
pub written_reads : (l : List ℕ) → all is_allowed l ≡ true → read (write l) ≡ Some l
unfolding all write read
written_reads [] h = refl
written_reads (c ∷ l) h =
    let k = (and-eq-true_iff (is_allowed c) (all is_allowed l)).0 h in
    go (is_plain c) refl k.0 (written_reads l k.1)
  where
    go : (p : Bool) → is_plain c ≡ p → (p || is_wide c) ≡ true → read (write l) ≡ Some l → read (encode c ++ write l) ≡ Some (c ∷ l)
    go true e w r = ap (λ (x : Bytes). read (x ++ write l)) (encode_plain c e) ∙ read_plain c (write l) e ∙ ap (before c) r
    go false e w r =
        ap (λ (x : Bytes). read (x ++ write l)) (encode_wide c w)
        ∙ read_pair (192 + c / 64 % 32) (128 + c % 64) (write l) (wide_pairs c w)
        ∙ rw (code_wide c w, r)

-- How a text reads: one code point after the other.
pub data Reading : Bytes → List ℕ → Type 0 where
  end : Reading [] []
  plain : {s : Bytes} {l : List ℕ} (a : ℕ) → is_plain a ≡ true → Reading s l → Reading (a ∷ s) (a ∷ l)
  pair : {s : Bytes} {l : List ℕ} (a b : ℕ) → is_pair a b ≡ true → Reading s l → Reading (a ∷ b ∷ s) (pair_code a b ∷ l)

from_some : (P : List ℕ → Type 0) (k l : List ℕ) → Some k ≡ Some l → P k → P l
from_some P k l h x = let e : k ≡ l = cc in rw (← e) x

from_before : (c : ℕ) (o : Option (List ℕ)) (P : List ℕ → Type 0) (l : List ℕ) → before c o ≡ Some l → ((k : List ℕ) → o ≡ Some k → P (c ∷ k)) → P l
from_before c None P l h f = let z : ◌≡◌ {A = ℕ} 0 1 = cc in absurd (omega arith)
from_before c (Some k) P l h f = from_some P (c ∷ k) l h (f k refl)

pub reading : (s : Bytes) (l : List ℕ) → read s ≡ Some l → Reading s l
unfolding read
reading [] l h = from_some (Reading []) [] l h end
reading (a ∷ []) l h = go (is_plain a) refl h
  where
    go : (p : Bool) → is_plain a ≡ p → cond p (Some (a ∷ [])) None ≡ Some l → Reading (a ∷ []) l
    go true e k = from_some (Reading (a ∷ [])) (a ∷ []) l k (plain a e end)
    go false e k = let z : ◌≡◌ {A = ℕ} 0 1 = cc in absurd (omega arith)
reading (a ∷ b ∷ s) l h = go (is_plain a) (is_pair a b) refl refl (sym (read_step a b s) ∙ h) (reading (b ∷ s)) (reading s)
  where
    go : (p q : Bool) → is_plain a ≡ p → is_pair a b ≡ q → cond p (before a (read (b ∷ s))) (cond q (before (pair_code a b) (read s)) None) ≡ Some l
        → ((k : List ℕ) → read (b ∷ s) ≡ Some k → Reading (b ∷ s) k) → ((k : List ℕ) → read s ≡ Some k → Reading s k) → Reading (a ∷ b ∷ s) l
    go true q e f k more rest = from_before a (read (b ∷ s)) (Reading (a ∷ b ∷ s)) l k (λ m x. plain a e (more m x))
    go false true e f k more rest = from_before (pair_code a b) (read s) (Reading (a ∷ b ∷ s)) l k (λ m x. pair a b f (rest m x))
    go false false e f k more rest = let z : ◌≡◌ {A = ℕ} 0 1 = cc in absurd (omega arith)

-- What reads has only allowed code points, and is what is written of them, so that no two texts read alike.
pub reads_allowed : {s : Bytes} {l : List ℕ} → Reading s l → all is_allowed l ≡ true
unfolding all
reads_allowed end = refl
reads_allowed (plain a h r) = rw h (reads_allowed r)
reads_allowed (pair a b h r) = rw ((paired a b h).wide, or-true (is_plain (pair_code a b))) (reads_allowed r)

pub reads_written : {s : Bytes} {l : List ℕ} → Reading s l → write l ≡ s
unfolding write
reads_written end = refl
reads_written (plain {s} {l} a h r) = ap (λ (x : Bytes). x ++ write l) (encode_plain a h) ∙ ap (λ (x : Bytes). a ∷ x) (reads_written r)
reads_written (pair {s} {l} a b h r) = ap (λ (x : Bytes). x ++ write l) (encode_pair a b h) ∙ ap (λ (x : Bytes). a ∷ b ∷ x) (reads_written r)

pub read_once : (s t : Bytes) (l : List ℕ) → read s ≡ Some l → read t ≡ Some l → s ≡ t
read_once s t l h k = sym (reads_written (reading s l h)) ∙ reads_written (reading t l k)

-- A mark that reads first is two bytes at the front.
pub mark_first : {s : Bytes} {l : List ℕ} → Reading s l → is_mark (get_or l 0 0) ≡ true → (is_pair (get_or s 0 0) (get_or s 1 0) ≡ true) × (pair_code (get_or s 0 0) (get_or s 1 0) ≡ get_or l 0 0)
mark_first end m = absurd (omega (arith, mark_range 0 m))
mark_first (plain a h r) m = absurd (omega (arith, mark_range a m, plain_range a h))
mark_first (pair a b h r) m = (h, refl)
