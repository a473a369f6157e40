-- Writing part after part.
use Prim.Native.Nat.{ℕ, zero, suc, ◌+◌, ◌≤◌, ◌<◌, ◌/◌, ◌%◌}
use mathlib.Core.Path.{◌≡◌, refl, sym, ap, ap₂, ◌∙◌, subst}
use mathlib.Core.Bool.{Bool, true, false}
use mathlib.Core.List.{[], ◌∷◌, ◌++◌}
use native.Mathlib.Omega.{arith}
use lib.Dec.{leb}
use borrow.Author.Tests.{leb-true, leb-false, lt-ltb, le-ltb}
use lib.ListN.{length, get_or, set, take, length-append}
use lib.Seq.{take_all}
use Rattle.text.specs.Bytes.{Bytes}
use Rattle.buffer.specs.Writing.{written}
use Rattle.buffer.proofs.Written.{written_past, written_then, length_written}
use Rattle.program_listing.specs.Listing.{decimal, name_line}
use Rattle.program_listing.specs.Appends.{least, Appends}

-- a part behind another, where the first may have met the end of the buffer
written_on : (h a b : Bytes) (at : ℕ) → at ≤ length h → written (written h at a) (least (at + length a) (length h)) b ≡ written h at (a ++ b)
written_on h a b at l = go (leb (at + length a) (length h)) refl
  where
    go : (f : Bool) → leb (at + length a) (length h) ≡ f → written (written h at a) (least (at + length a) (length h)) b ≡ written h at (a ++ b)
    go true e =
        let y : least (at + length a) (length h) ≡ at + length a = let z = leb-true (at + length a) (length h) e in omega (arith, z) in
        ap (λ m. written (written h at a) m b) y ∙ written_then a b h at
    go false e =
        let z = leb-false (at + length a) (length h) e in
        let y : least (at + length a) (length h) ≡ length h = omega (arith, z) in
        let long = length_written h at a in
        ap (λ m. written (written h at a) m b) y
        ∙ sym (written_past b (written h at a) (length h) (omega (arith, long)))
        ∙ written_past b (written h at a) (at + length a) (omega (arith, long, z))
        ∙ written_then a b h at

pub appends_none : (h : Bytes) (at : ℕ) → Appends h at [] h at
unfolding written
appends_none h at = record { bytes = λ l. refl; place = λ l. omega (arith, l) }

pub appends_then : (h g k a b : Bytes) (at m n : ℕ) → Appends h at a g m → Appends g m b k n → Appends h at (a ++ b) k n
appends_then h g k a b at m n p q =
    record {
      bytes = λ l. q.bytes (within l) ∙ ap₂ (λ x y. written x y b) (p.bytes l) (p.place l) ∙ written_on h a b at l;
      place = λ l. let z = q.place (within l) in let y = p.place l in let s = size l in let t = length-append a b in omega (arith, l, z, y, s, t);
    }
  where
    size : at ≤ length h → length g ≡ length h
    size l = ap length (p.bytes l) ∙ length_written h at a

    within : at ≤ length h → m ≤ length g
    within l = let y = p.place l in let s = size l in omega (arith, y, s)

-- one byte
pub appends_past : (h : Bytes) (at b : ℕ) → length h ≤ at → Appends h at (b ∷ []) h at
appends_past h at b e = record { bytes = λ l. written_past (b ∷ []) h at e; place = λ l. omega (arith, l, e) }

pub appends_there : (h : Bytes) (at b : ℕ) → at < length h → Appends h at (b ∷ []) (set h at b) (at + 1)
unfolding written
appends_there h at b e = record { bytes = λ l. refl; place = λ l. omega (arith, e) }

pub ruleset byte-ways = (appends_past, appends_there)

-- part of a text, and one byte more
take_suc : (x : Bytes) (i : ℕ) → i < length x → take (suc i) x ≡ take i x ++ (get_or x i 0 ∷ [])
take_suc [] i h = absurd (omega (arith, h))
take_suc (b ∷ x) zero h = refl
take_suc (b ∷ x) (suc i) h = ap (λ l. b ∷ l) (take_suc x i (omega (arith, h)))

take_more : (x : Bytes) (i : ℕ) → i < length x → take (i + 1) x ≡ take i x ++ (get_or x i 0 ∷ [])
take_more x i h = ap (λ j. take j x) (let y : i + 1 ≡ suc i = omega arith in y) ∙ take_suc x i h

pub appends_more : (h g k x : Bytes) (at m n i : ℕ) → Appends h at (take i x) g m → i < length x → Appends g m (get_or x i 0 ∷ []) k n → Appends h at (take (i + 1) x) k n
appends_more h g k x at m n i p l q = rw (take_more x i l) (appends_then h g k (take i x) (get_or x i 0 ∷ []) at m n p q)

pub appends_all : (h g x : Bytes) (at m i : ℕ) → Appends h at (take i x) g m → length x ≤ i → Appends h at x g m
appends_all h g x at m i p l = subst (λ y. Appends h at y g m) (take_all i x l) p

-- numbers
module _ (h : Bytes) (at n : ℕ) (g k : Bytes) (m r a b : ℕ) where
  pub one_digit : n < 10 → (n < 10 → a ≡ 48 + n) → Appends h at (a ∷ []) k r → n < 1000 → Appends h at (decimal n) k r
  unfolding decimal
  one_digit l e p few = rw (lt-ltb n 10 l, ← e l) p

  pub two_digits_lem : 10 ≤ n → n < 100 → (n / 10 < 10 → a ≡ 48 + n / 10) → Appends h at (a ∷ []) g m → (n % 10 < 10 → b ≡ 48 + n % 10) → Appends g m (b ∷ []) k r → n < 1000 → Appends h at (decimal n) k r
  unfolding decimal
  two_digits_lem s l e p f q few =
      rw (le-ltb n 10 s, lt-ltb n 100 l, ← e (omega (arith, l)), ← f (omega arith)) (appends_then h g k (a ∷ []) (b ∷ []) at m r p q)

module _ (h : Bytes) (at n : ℕ) (g j k : Bytes) (m o r a b c : ℕ) where
  pub three_digits : 100 ≤ n → (n / 100 % 10 < 10 → a ≡ 48 + n / 100 % 10) → Appends h at (a ∷ []) g m → (n / 10 % 10 < 10 → b ≡ 48 + n / 10 % 10) → Appends g m (b ∷ []) j o → (n % 10 < 10 → c ≡ 48 + n % 10) → Appends j o (c ∷ []) k r → n < 1000 → Appends h at (decimal n) k r
  unfolding decimal
  three_digits s e p f q i t few =
      let d : n / 100 % 10 ≡ n / 100 = omega (arith, few) in
      let y : a ≡ 48 + n / 100 = e (omega arith) ∙ ap (λ z. 48 + z) d in
      rw (le-ltb n 10 (omega (arith, s)), le-ltb n 100 s, ← y, ← f (omega arith), ← i (omega arith)) (appends_then h j k (a ∷ b ∷ []) (c ∷ []) at o r (appends_then h g j (a ∷ []) (b ∷ []) at m o p q) t)

pub ruleset digits = (one_digit, two_digits_lem, three_digits)

-- a line
pub appends_line : (h a b c d e k x y : Bytes) (at i m n o p q r : ℕ)
    → (i < 1000 → Appends h at (decimal i) a m) → Appends a m (32 ∷ []) b n → Appends b n x c o → Appends c o (58 ∷ []) d p → Appends d p y e q → Appends e q (10 ∷ []) k r
    → i < 1000 → Appends h at (name_line i x y) k r
unfolding name_line
appends_line h a b c d e k x y at i m n o p q r one two three four five six few =
    appends_then h e k _ (10 ∷ []) at q r
    (appends_then h d e _ y at p q
    (appends_then h c d _ (58 ∷ []) at o p
    (appends_then h b c _ x at n o
    (appends_then h a b (decimal i) (32 ∷ []) at m n (one few) two) three) four) five) six

pub ruleset append-ways = (appends_none, appends_more, appends_all)
