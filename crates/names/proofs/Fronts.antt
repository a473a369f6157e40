-- The front of a text that is composed as it is typed.
use Rattle.std.specs.Prelude.{Option, Some, None}
use Prim.Native.Nat.{ℕ, zero, suc, ◌+◌, ◌-◌, ◌≤◌, ◌<◌}
use mathlib.Core.Path.{◌≡◌, refl, sym, ap, ◌∙◌}
use mathlib.Core.Bool.{Bool, true, false, not, ◌&&◌, false≢true, and-eq-true_iff, and_assoc, and-true}
use mathlib.Core.List.{[], ◌∷◌, ◌++◌, append_assoc, append-nil}
use native.Mathlib.Nat.{add-zero, zero-add, suc-add}
use native.Mathlib.Numerals.{add-one}
use native.Mathlib.Omega.{arith}
use lib.Dec.{eqb}
use lib.ListN.{length, get_or, take, drop, length-drop, drop_of_length-le, get_or-eq_default}
use lib.Seq.{drop-drop, drop-cons, get_or-drop, take_all}
use borrow.Author.Tests.{eqb-false, ne_eqb, eq-eqb, not-false}
use Rattle.text.specs.Bytes.{Bytes, all, part}
use Rattle.names.specs.Codes.{is_plain, is_pair, is_mark}
use Rattle.names.specs.Names.{composed}
use Rattle.names.specs.Steps.{is_letter_byte, pair_of, letter, lone_letter, letter_at, prepend, Front, OwnFront, PlainTo}
use Rattle.names.specs.declared.Letter.{Letter}
use Rattle.names.proofs.Reading.{encode_plain, encode_pair, paired}
use Rattle.names.proofs.Letters.{pair_is, is_pair_lem, plain_alone, wide_front, mark_lead, told_alone}
use Rattle.names.proofs.Walking.{composed_nothing, composed_none}
use Rattle.names.proofs.OwnForm.{own_letters, own, not_own}

-- Letters at the front of a text that nothing composes.
prepend_none : (o : Option Bytes) → o ≡ prepend [] o
prepend_none None = refl
prepend_none (Some t) = refl

pub prepend_then : (v w : Bytes) (o : Option Bytes) → prepend v (prepend w o) ≡ prepend (v ++ w) o
prepend_then v w None = refl
prepend_then v w (Some t) = ap Some (sym (append_assoc v w t))

take_then : (i w : ℕ) (s : Bytes) → take (i + w) s ≡ take i s ++ take w (drop i s)
take_then zero w s = rw (zero-add w)
take_then (suc i) w [] = rw (suc-add i w) (go w)
  where
    go : (w : ℕ) → ◌≡◌ {A = Bytes} [] (take w [])
    go zero = refl
    go (suc w) = refl
take_then (suc i) w (a ∷ s) = rw (suc-add i w) (ap (λ (t : Bytes). a ∷ t) (take_then i w s))

-- The letter at the front of a text, where no mark stands behind it.
record Alone (u : Bytes) (w : ℕ) : Type 0 where
  most : w ≤ length u
  is : composed u ≡ prepend (take w u) (composed (drop w u))

alone : (u : Bytes) → 0 < length u → (get_or u 1 0 ≡ 204 → ⊥) → (x : Letter) → x ≡ lone_letter (get_or u 0 0) (get_or u 1 0) → (x.width ≡ 0 → ⊥) → Alone u x.width
unfolding lone_letter
alone [] l n x e z = absurd (omega arith)
alone (a ∷ t) l n x e z = rw e (go (is_plain a) (eqb (pair_of a (get_or t 0 0)) 0) (is_mark (pair_of a (get_or t 0 0))) refl refl refl (rw e at z))
  where
    wide : (t : Bytes) → is_pair a (get_or t 0 0) ≡ true → is_mark (pair_of a (get_or t 0 0)) ≡ false → Alone (a ∷ t) 2
    wide [] i m = absurd (omega (arith, (paired a 0 i).behind))
    wide (b ∷ t) i m = record { most = omega arith; is = wide_front a (b ∷ t) i m ∙ rw (pair_is a b i, encode_pair a b i) }

    go : (p q r : Bool) → is_plain a ≡ p → eqb (pair_of a (get_or t 0 0)) 0 ≡ q → is_mark (pair_of a (get_or t 0 0)) ≡ r → ((lone_letter a (get_or t 0 0)).width ≡ 0 → ⊥) → Alone (a ∷ t) (lone_letter a (get_or t 0 0)).width
    go true q r f g h z = rw f (record { most = omega arith; is = plain_alone a t f (mark_lead a (get_or t 0 0) (get_or t 1 0) n) ∙ rw (encode_plain a f) })
    go false true r f g h z = absurd (z (rw (f, g)))
    go false false true f g h z = absurd (z (rw (f, g, h)))
    go false false false f g h z = rw (f, g, h) (wide t (is_pair_lem a (get_or t 0 0) (eqb-false (pair_of a (get_or t 0 0)) 0 g)) h)

no_204 : (s : Bytes) (k : ℕ) → get_or s k 0 ≡ 204 → all is_letter_byte s ≡ true → ⊥
unfolding all is_letter_byte is_plain
no_204 [] k e h = omega arith
no_204 (b ∷ s) zero e h = false≢true (rw e at ((and-eq-true_iff (is_letter_byte b) (all is_letter_byte s)).0 h).0)
no_204 (b ∷ s) (suc k) e h = no_204 s k e ((and-eq-true_iff (is_letter_byte b) (all is_letter_byte s)).0 h).1

none_some : (v s : Bytes) → prepend v None ≡ Some s → ⊥
none_some v s h = let z : ◌≡◌ {A = ℕ} 0 1 = cc in omega arith

pub front_none : (s : Bytes) → Front s 0
front_none s = record { most = omega arith; is = prepend_none (composed s) }

module _ (s : Bytes) (i : ℕ) (r : Front s i) where
  pub front_more : i < length s → (b : ℕ) → b ≡ get_or s (i + 1) 0 → (b ≡ 204 → ⊥) → (x : Letter) → x ≡ lone_letter (get_or s i 0) b → (x.width ≡ 0 → ⊥) → Front s (i + x.width)
  front_more l b d n x e z =
      let f : get_or (drop i s) 0 0 ≡ get_or s i 0 = get_or-drop i s 0 0 ∙ rw (add-zero i) in
      let g : get_or (drop i s) 1 0 ≡ b = get_or-drop i s 1 0 ∙ sym d in
      let k = alone (drop i s) (omega (arith, length-drop i s)) (λ y. n (sym g ∙ y)) x (e ∙ rw (f, g)) z in
      record {
        most = omega (arith, k.most, length-drop i s);
        is = r.is ∙ rw (k.is, drop-drop x.width i s, take_then i x.width s) (prepend_then (take i s) (take x.width (drop i s)) (composed (drop (i + x.width) s)));
      }

  -- The end, and what ends it before.
  pub front_whole : length s ≤ i → OwnFront s i
  front_whole l =
      let e : i ≡ length s = omega (arith, r.most) in
      record { front = r; whole = eq-eqb i (length s) e ∙ own s (r.is ∙ rw (drop_of_length-le s l, composed_nothing, take_all i s l) (ap Some (append-nil s))) }

  short_of : i < length s → (composed s ≡ Some s → ⊥) → OwnFront s i
  short_of l n = record { front = r; whole = ne_eqb i (length s) (λ e. omega arith) ∙ not_own s n }

  pub front_marked : i < length s → (b : ℕ) → b ≡ get_or s (i + 1) 0 → b ≡ 204 → OwnFront s i
  front_marked l b d e = short_of l (λ h. no_204 s (i + 1) (sym d ∙ e) (own_letters s h))

  pub front_ends : i < length s → (b : ℕ) → b ≡ get_or s (i + 1) 0 → (b ≡ 204 → ⊥) → (x : Letter) → x ≡ lone_letter (get_or s i 0) b → x.width ≡ 0 → OwnFront s i
  front_ends l b d n x e z =
      let f : get_or (drop i s) 0 0 ≡ get_or s i 0 = get_or-drop i s 0 0 ∙ rw (add-zero i) in
      let g : get_or (drop i s) 1 0 ≡ b = get_or-drop i s 1 0 ∙ sym d in
      let k : x ≡ letter_at (drop i s) = rw (f, g) ((told_alone (get_or s i 0) b (get_or (drop i s) 2 0) (◌≡◌ {A = ℕ} 0 0) x e n).is refl) in
      short_of l (λ h. none_some (take i s) s (sym (ap (prepend (take i s)) (composed_none (drop i s) (omega (arith, length-drop i s)) (rw k at z))) ∙ sym r.is ∙ h))

-- A run of bytes that are code points by themselves.
pub plain_none : (s : Bytes) → PlainTo s 0
plain_none s = record { most = omega arith; front = front_none s; last = λ l. absurd (omega arith) }

module _ (s : Bytes) where
  -- No mark stands behind it.
  plain_on : (i : ℕ) → PlainTo s i → (get_or s i 0 ≡ 204 → ⊥) → Front s i
  unfolding lone_letter
  plain_on zero r n = front_none s
  plain_on (suc i) r n =
      let e : suc i - 1 ≡ i = omega arith in
      let f : i + 1 ≡ suc i = omega arith in
      let p : is_plain (get_or s i 0) ≡ true = rw e at (r.last (omega arith)) in
      rw (← f) (front_more s i (rw e at r.front) (omega (arith, r.most)) (get_or s (suc i) 0) (rw f) n (letter (get_or s i 0) 1) (rw p) (λ z. omega arith))

  module _ (i : ℕ) (r : PlainTo s i) where
    pub plain_more : (p : Bool) → p ≡ is_plain (get_or s i 0) → not p ≡ false → i < length s → PlainTo s (i + 1)
    unfolding is_plain
    plain_more p f t l =
        let e : i + 1 - 1 ≡ i = omega arith in
        let h : is_plain (get_or s i 0) ≡ true = sym f ∙ not-false p t in
        record { most = omega arith; front = rw e (plain_on i r (λ z. false≢true (rw z at h))); last = λ k. rw e h }

    pub plain_whole : length s ≤ i → OwnFront s i
    plain_whole l = front_whole s i (plain_on i r (λ z. omega (arith, sym (get_or-eq_default s 0 l) ∙ z))) l

  pub plain_run : (k i : ℕ) → PlainTo s i → i + k ≤ length s → all is_plain (part s i k) ≡ true → PlainTo s (i + k)
  unfolding all
  plain_run zero i r l h = rw (add-zero i) r
  plain_run (suc k) i r l h =
      let e : i + suc k ≡ i + 1 + k = omega arith in
      let d : part s i (suc k) ≡ get_or s i 0 ∷ part s (i + 1) k = rw (drop-cons s i 0 (omega arith), ← add-one i) in
      let g = (and-eq-true_iff (is_plain (get_or s i 0)) (all is_plain (part s (i + 1) k))).0 (rw d at h) in
      rw e (plain_run k (i + 1) (plain_more i r true (sym g.0) refl (omega arith)) (omega arith) g.1)

-- Sixteen bytes, tested up to a place.
module _ (s : Bytes) (at : ℕ) where
  abbrev pub BlockTo : Bool → ℕ → Type 0
  BlockTo ok i = (ok && all is_plain (part s (at + i) (16 - i))) ≡ all is_plain (part s at 16)

  pub block_none : BlockTo true 0
  block_none = rw (add-zero at)

  pub block_more : (ok b : Bool) (i : ℕ) → BlockTo ok i → i < 16 → at + 16 ≤ length s → b ≡ is_plain (get_or s (at + i) 0) → BlockTo (ok && b) (i + 1)
  unfolding all
  block_more ok b i r l m e =
      let n : 16 - i ≡ suc (16 - (i + 1)) = omega arith in
      let f : at + (i + 1) ≡ at + i + 1 = omega arith in
      let d : part s (at + i) (16 - i) ≡ get_or s (at + i) 0 ∷ part s (at + (i + 1)) (16 - (i + 1)) = rw (n, drop-cons s (at + i) 0 (omega arith), f, ← add-one (at + i)) in
      and_assoc ok b (all is_plain (part s (at + (i + 1)) (16 - (i + 1)))) ∙ ap (λ (x : Bool). ok && x) (let q : (b && all is_plain (part s (at + (i + 1)) (16 - (i + 1)))) ≡ all is_plain (part s (at + i) (16 - i)) = rw (d, e) in q) ∙ r

  pub block_all : (ok : Bool) (i : ℕ) → BlockTo ok i → 16 ≤ i → ok ≡ all is_plain (part s at 16)
  unfolding all
  block_all ok i r l = let n : 16 - i ≡ 0 = omega arith in sym (and-true ok) ∙ ap (λ (x : Bool). ok && x) (let q : true ≡ all is_plain (part s (at + i) (16 - i)) = rw n in q) ∙ r
