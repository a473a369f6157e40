-- A text that is its own composed form, and its bytes.
use Rattle.std.specs.Prelude.{Option, Some, None}
use Prim.Native.Nat.{ℕ, ◌+◌, ◌-◌, ◌≤◌, ◌<◌}
use mathlib.Core.Path.{◌≡◌, refl, sym, ap, ◌∙◌}
use mathlib.Core.Bool.{Bool, true, false, cond, not, ◌&&◌, ◌||◌, false≢true, and-eq-true_iff, and_assoc, and-false}
use mathlib.Core.List.{[], ◌∷◌, ◌++◌}
use native.Mathlib.Numerals.{add-one}
use native.Mathlib.Omega.{arith}
use lib.Dec.{eqb, leb}
use lib.ListN.{length, get_or, drop, drop_of_length-le}
use lib.Seq.{drop-cons}
use borrow.Author.Tests.{eqb-true, eqb-false, ne_eqb, leb-true, lt-leb, le-leb, le-ltb, not-true}
use Rattle.text.specs.Bytes.{Bytes, all, same}
use Rattle.text.proofs.Laws.{same_refl, same_eq}
use Rattle.names.specs.Codes.{is_plain, is_pair, is_mark, pair_code, encode}
use Rattle.names.specs.Names.{composed, is_form}
use Rattle.names.specs.Steps.{is_lead, is_tail, is_letter_byte, follows, paired_from, pair_of, letter, letter_of, composed_letter, prepend}
use Rattle.names.proofs.Entries.{composition_is, ranges}
use Rattle.names.proofs.Reading.{within_true, true_within, plain_range, letter_range, wide_letter_lem, encode_plain, encode_pair, paired}
use Rattle.names.proofs.Composing.{no_mark_lem}
use Rattle.names.proofs.Letters.{onward, code_parts, pair_is, is_pair_lem, plain_alone, wide_front, mark_lead, composed_letter_lem, composed_step}
use Rattle.names.proofs.Walking.{by_letters, composed_nothing}
use Rattle.names.proofs.Ascii.{plain_composed}

-- Behind a byte that is no first one.
paired_alone : (p : ℕ) (s : Bytes) → is_lead p ≡ false → paired_from p s ≡ paired_from 0 s
unfolding paired_from follows
paired_alone p [] h = rw h
paired_alone p (b ∷ s) h = rw (h, ne_eqb p 194 (λ e. false≢true (sym h ∙ rw e)))

no_lead : (b : ℕ) → b ≤ 191 → is_lead b ≡ false
no_lead b l = rw (lt-leb 194 b (omega arith))

first_no_tail : (a : ℕ) → follows 0 a ≡ true → is_tail a ≡ false
unfolding follows
first_no_tail a h = not-true (is_tail a) ((and-eq-true_iff (not (is_tail a)) true).0 h).0

pub plain_letter_lem : (b : ℕ) → is_plain b ≡ true → is_letter_byte b ≡ true
unfolding is_letter_byte
plain_letter_lem b h = rw h

-- A byte of a composed text is plain or from 128 up.
pub letter_high : (b : ℕ) → is_letter_byte b ≡ true → is_plain b ≡ false → 128 ≤ b
unfolding is_letter_byte
letter_high b h e = go (is_tail b) refl (rw e at h)
  where
    go : (t : Bool) → is_tail b ≡ t → (false || t || is_lead b) ≡ true → 128 ≤ b
    go true f k = (within_true 128 191 b f).0
    go false f k = omega (arith, (within_true 194 197 b k).0)

no_letter_byte : is_letter_byte 204 ≡ false
unfolding is_letter_byte is_plain
no_letter_byte = refl

no_mark_byte : (s : Bytes) → all is_letter_byte s ≡ true → get_or s 0 0 ≡ 204 → ⊥
unfolding all
no_mark_byte [] h e = omega arith
no_mark_byte (b ∷ s) h e = false≢true (sym no_letter_byte ∙ sym (ap is_letter_byte e) ∙ ((and-eq-true_iff (is_letter_byte b) (all is_letter_byte s)).0 h).0)

lead_is : (a : ℕ) → is_tail a ≡ false → is_plain a ≡ false → is_letter_byte a ≡ true → is_lead a ≡ true
unfolding is_letter_byte
lead_is a t e l = rw (e, t) at l

-- What stands behind a first byte.
pub record Behind (a b : ℕ) : Type 0 where
  pub pair : is_pair a b ≡ true
  pub unmarked : is_mark (pair_of a b) ≡ false
  pub tail : b ≤ 191

code_least : (a b : ℕ) → 194 ≤ a → a ≤ 197 → 128 ≤ b → b ≤ 191 → (e : Bool) → eqb a 194 ≡ e → (not e || leb 160 b) ≡ true → 160 ≤ pair_code a b
code_least a b l m u v true e h = omega (arith, code_parts a b, eqb-true a 194 e, leb-true 160 b h)
code_least a b l m u v false e h = omega (arith, code_parts a b, eqb-false a 194 e)

tail_is : (t : Bool) → (t || false) ≡ true → t ≡ true
tail_is true h = refl
tail_is false h = absurd (false≢true h)

behind : (a b : ℕ) → is_lead a ≡ true → follows a b ≡ true → Behind a b
unfolding follows is_pair
behind a b l f =
    let k = (and-eq-true_iff (is_tail b || false) (not (eqb a 194) || leb 160 b)).0 (rw l at f) in
    let p = within_true 194 197 a l in
    let t = tail_is (is_tail b) k.0 in
    let q = within_true 128 191 b t in
    let c = code_parts a b in
    let w = wide_letter_lem (pair_code a b) (code_least a b p.0 p.1 q.0 q.1 (eqb a 194) refl k.1) (omega (arith, c)) in
    let i : is_pair a b ≡ true = rw (true_within 192 223 a (omega arith) (omega arith), t, w) in
    record { pair = i; unmarked = rw (pair_is a b i) (no_mark_lem (pair_code a b) (λ x y. omega (arith, c))); tail = q.1 }

-- Bytes that may all stand where they do are their own composed form.
own_here : (a : ℕ) (s : Bytes) → ((w : ℕ) → all is_letter_byte (drop w s) ≡ true → paired_from 0 (drop w s) ≡ true → composed (drop w s) ≡ Some (drop w s))
    → is_letter_byte a ≡ true → all is_letter_byte s ≡ true → follows 0 a ≡ true → paired_from a s ≡ true → (p : Bool) → is_plain a ≡ p → composed (a ∷ s) ≡ Some (a ∷ s)
unfolding paired_from all
own_here a s ih l m f q true e =
    let r = plain_range a e in
    plain_alone a s e (mark_lead a (get_or s 0 0) (get_or s 1 0) (no_mark_byte s m)) ∙ rw (encode_plain a e, ih 0 m (sym (paired_alone a s (no_lead a (omega arith))) ∙ q))
own_here a [] ih l m f q false e = absurd (false≢true (rw (lead_is a (first_no_tail a f) e l) at q))
own_here a (b ∷ s) ih l m f q false e =
    let k = (and-eq-true_iff (follows a b) (paired_from b s)).0 q in
    let n = (and-eq-true_iff (is_letter_byte b) (all is_letter_byte s)).0 m in
    let r = behind a b (lead_is a (first_no_tail a f) e l) k.0 in
    wide_front a (b ∷ s) r.pair r.unmarked ∙ rw (pair_is a b r.pair, encode_pair a b r.pair, ih 1 n.1 (sym (paired_alone b s (no_lead b r.tail)) ∙ k.1))

paired_own : (s : Bytes) → all is_letter_byte s ≡ true → paired_from 0 s ≡ true → composed s ≡ Some s
unfolding all paired_from
paired_own s = by_letters (λ s. all is_letter_byte s ≡ true → paired_from 0 s ≡ true → composed s ≡ Some s) (λ h k. composed_nothing) step s
  where
    step : (a : ℕ) (s : Bytes) → ((w : ℕ) → all is_letter_byte (drop w s) ≡ true → paired_from 0 (drop w s) ≡ true → composed (drop w s) ≡ Some (drop w s)) → all is_letter_byte (a ∷ s) ≡ true
        → paired_from 0 (a ∷ s) ≡ true → composed (a ∷ s) ≡ Some (a ∷ s)
    step a s ih h k =
        let l = (and-eq-true_iff (is_letter_byte a) (all is_letter_byte s)).0 h in
        let f = (and-eq-true_iff (follows 0 a) (paired_from a s)).0 k in
        own_here a s ih l.0 l.1 f.0 f.1 (is_plain a) refl

-- A text that is its own composed form has such bytes.
abbrev Fits : Bytes → Type 0
Fits s = (all is_letter_byte s ≡ true) × (paired_from 0 s ≡ true)

prepended : (v : Bytes) (o : Option Bytes) (t : Bytes) (P : Type 0) → prepend v o ≡ Some t → ((u : Bytes) → o ≡ Some u → v ++ u ≡ t → P) → P
prepended v None t P h f = let z : ◌≡◌ {A = ℕ} 0 1 = cc in absurd (omega arith)
prepended v (Some u) t P h f = f u refl (let e : v ++ u ≡ t = cc in e)

fits_plain : (a : ℕ) (s : Bytes) → is_plain a ≡ true → Fits s → Fits (a ∷ s)
unfolding all paired_from is_letter_byte follows
fits_plain a s e f =
    let r = plain_range a e in
    let n : is_tail a ≡ false = rw (lt-leb 128 a (omega arith)) in
    (rw e f.0, rw n (paired_alone a s (no_lead a (omega arith)) ∙ f.1))

or_last : (p t : Bool) → (p || t || true) ≡ true
or_last true true = refl
or_last true false = refl
or_last false true = refl
or_last false false = refl

or_middle : (p l : Bool) → (p || true || l) ≡ true
or_middle true true = refl
or_middle true false = refl
or_middle false true = refl
or_middle false false = refl

high_behind : (a b : ℕ) → 128 ≤ b → 160 ≤ pair_code a b → (e : Bool) → eqb a 194 ≡ e → (not e || leb 160 b) ≡ true
high_behind a b t r true e = le-leb 160 b (omega (arith, code_parts a b, eqb-true a 194 e))
high_behind a b t r false e = refl

fits_pair : (a b : ℕ) (s : Bytes) → is_pair a b ≡ true → is_mark (pair_of a b) ≡ false → Fits s → Fits (a ∷ b ∷ s)
unfolding all paired_from is_letter_byte follows
fits_pair a b s i m f =
    let q = paired a b i in
    let r = letter_range (pair_code a b) q.wide (rw (pair_is a b i) at m) in
    let c = code_parts a b in
    let l : is_lead a ≡ true = true_within 194 197 a (omega (arith, q.lead, q.most, q.behind_most, c, r.0)) (omega (arith, q.lead, q.most, c, r.1)) in
    let t : is_tail b ≡ true = true_within 128 191 b q.behind q.behind_most in
    let n : is_tail a ≡ false = rw (lt-leb a 191 (omega (arith, within_true 194 197 a l))) (and-false (leb 128 a)) in
    (rw (l, t, or_last (is_plain a) (is_tail a), or_middle (is_plain b) (is_lead b)) f.0, rw (l, t, n, high_behind a b q.behind r.0 (eqb a 194) refl) (paired_alone b s (no_lead b q.behind_most) ∙ f.1))

first_high : (x : ℕ) (u : Bytes) → 128 ≤ x → 192 ≤ get_or (encode x ++ u) 0 0
unfolding encode
first_high x u l = rw (le-ltb x 128 l) (omega arith)

fits_wide : (a : ℕ) (s : Bytes) → is_pair a (get_or s 0 0) ≡ true → is_mark (pair_of a (get_or s 0 0)) ≡ false → (u : Bytes) → composed (drop 1 s) ≡ Some u → encode (pair_of a (get_or s 0 0)) ++ u ≡ a ∷ s
    → (composed (drop 1 s) ≡ Some (drop 1 s) → Fits (drop 1 s)) → Fits (a ∷ s)
fits_wide a [] i m u c t ih = absurd (omega (arith, (paired a 0 i).behind))
fits_wide a (b ∷ s) i m u c t ih =
    let e : a ∷ b ∷ u ≡ a ∷ b ∷ s = rw (pair_is a b i, encode_pair a b i) at t in
    let w : u ≡ s = cc in
    fits_pair a b s i m (ih (c ∙ ap Some w))

own_fits : (s : Bytes) → composed s ≡ Some s → Fits s
unfolding all paired_from letter_of
own_fits s = by_letters (λ s. composed s ≡ Some s → Fits s) (λ h. (refl, refl)) step s
  where
    step : (a : ℕ) (s : Bytes) → ((w : ℕ) → composed (drop w s) ≡ Some (drop w s) → Fits (drop w s)) → composed (a ∷ s) ≡ Some (a ∷ s) → Fits (a ∷ s)
    step a s ih h = go (is_plain a) (eqb x 0) (eqb (pair_of a b) 0) (is_mark (pair_of a b)) refl refl refl refl (sym (composed_step a s) ∙ h)
      where
        b : ℕ
        b = get_or s 0 0

        x : ℕ
        x = composed_letter a (pair_of b (get_or s 1 0))

        high : (x ≡ 0 → ⊥) → 192 ≤ x
        high z = composed_letter_lem a (pair_of b (get_or s 1 0)) z (λ c. 192 ≤ c) (λ e f. (ranges e (composition_is a (pair_of b (get_or s 1 0)) e f).2).composed_least)

        go : (p q r t : Bool) → is_plain a ≡ p → eqb x 0 ≡ q → eqb (pair_of a b) 0 ≡ r → is_mark (pair_of a b) ≡ t
            → onward (cond p (cond q (letter a 1) (letter x 3)) (cond (r || t) (letter 0 0) (letter (pair_of a b) 2))) s ≡ Some (a ∷ s) → Fits (a ∷ s)
        go true true r t e f g m k =
            prepended (encode a) (composed s) (a ∷ s) (Fits (a ∷ s)) k
            (λ u c t. let z : a ∷ u ≡ a ∷ s = rw (encode_plain a e) at t in let w : u ≡ s = cc in fits_plain a s e (ih 0 (c ∙ ap Some w)))
        go true false r t e f g m k =
            prepended (encode x) (composed (drop 2 s)) (a ∷ s) (Fits (a ∷ s)) k
            (λ u c t. absurd (omega (arith, first_high x u (omega (arith, high (eqb-false x 0 f))), ap (λ (v : Bytes). get_or v 0 0) t, plain_range a e)))
        go false q true t e f g m k = let z : ◌≡◌ {A = ℕ} 0 1 = cc in absurd (omega arith)
        go false q false true e f g m k = let z : ◌≡◌ {A = ℕ} 0 1 = cc in absurd (omega arith)
        go false q false false e f g m k =
            prepended (encode (pair_of a b)) (composed (drop 1 s)) (a ∷ s) (Fits (a ∷ s)) k (λ u c t. fits_wide a s (is_pair_lem a b (eqb-false (pair_of a b) 0 g)) m u c t (ih 1))

pub own_letters : (s : Bytes) → composed s ≡ Some s → all is_letter_byte s ≡ true
own_letters s h = (own_fits s h).0

-- Whether a text is its own composed form.
module _ (s : Bytes) where
  pub not_own : (composed s ≡ Some s → ⊥) → false ≡ is_form s (composed s)
  not_own n = go (composed s) refl
    where
      same_not : (t : Bytes) → composed s ≡ Some t → (b : Bool) → same s t ≡ b → false ≡ b
      same_not t c true e = absurd (n (c ∙ ap Some (sym (same_eq s t e))))
      same_not t c false e = refl

      go : (o : Option Bytes) → composed s ≡ o → false ≡ is_form s o
      go None c = refl
      go (Some t) c = same_not t c (same s t) refl

  pub own : composed s ≡ Some s → true ≡ is_form s (composed s)
  own h = rw h (sym (same_refl s))

  pub own_plain : (p : Bool) → p ≡ all is_plain s → p ≡ true → true ≡ is_form s (composed s)
  own_plain p h t = own (plain_composed s (sym h ∙ t))

  pub own_told : (p q : Bool) → p ≡ all is_letter_byte s → q ≡ paired_from 0 s → (p && q) ≡ is_form s (composed s)
  own_told true true h k = own (paired_own s (sym h) (sym k))
  own_told true false h k = not_own (λ c. false≢true (k ∙ (own_fits s c).1))
  own_told false q h k = not_own (λ c. false≢true (h ∙ (own_fits s c).0))

-- The pass over the bytes, up to a place.
pub record PairedTo (s : Bytes) (ok : Bool) (i : ℕ) : Type 0 where
  pub least : 1 ≤ i
  pub most : i ≤ length s
  pub is : (ok && paired_from (get_or s (i - 1) 0) (drop i s)) ≡ paired_from 0 s

pub paired_none : (s : Bytes) → length s ≡ 0 → true ≡ paired_from 0 s
unfolding paired_from
paired_none [] h = refl
paired_none (a ∷ s) h = absurd (omega arith)

pub paired_first : (s : Bytes) (b : Bool) → (length s ≡ 0 → ⊥) → b ≡ follows 0 (get_or s 0 0) → PairedTo s b 1
unfolding paired_from
paired_first [] b z h = absurd (z refl)
paired_first (a ∷ s) b z h = record { least = omega arith; most = omega arith; is = rw h }

module _ (s : Bytes) (ok : Bool) (i : ℕ) (r : PairedTo s ok i) where
  pub paired_more : (b : Bool) → i < length s → b ≡ follows (get_or s (i - 1) 0) (get_or s i 0) → PairedTo s (ok && b) (i + 1)
  unfolding paired_from
  paired_more b l e =
      let k : i + 1 - 1 ≡ i = omega arith in
      record {
        least = omega arith;
        most = omega arith;
        is =
            rw k
            (and_assoc ok b (paired_from (get_or s i 0) (drop (i + 1) s))
            ∙ ap (λ (x : Bool). ok && x) (let q : (b && paired_from (get_or s i 0) (drop (i + 1) s)) ≡ paired_from (get_or s (i - 1) 0) (drop i s) = rw (e, add-one i, drop-cons s i 0 l) in q)
            ∙ r.is);
      }

  pub paired_all : (m : Bool) → length s ≤ i → m ≡ is_lead (get_or s (length s - 1) 0) → (ok && not m) ≡ paired_from 0 s
  unfolding paired_from
  paired_all m l e =
      let k : i ≡ length s = omega (arith, r.most) in
      ap (λ (x : Bool). ok && x) (let q : not m ≡ paired_from (get_or s (i - 1) 0) (drop i s) = rw (e, drop_of_length-le s l, k) in q) ∙ r.is
