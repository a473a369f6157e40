-- What composing keeps: a composed name keeps the name rule and is no longer than the typed one.
use Rattle.std.specs.Prelude.{Some}
use Prim.Native.Nat.{ℕ, suc, ◌+◌, ◌-◌, ◌/◌, ◌%◌, ◌≤◌}
use mathlib.Core.Path.{◌≡◌, refl, sym, ap, ◌∙◌}
use mathlib.Core.Bool.{Bool, true, not, ◌&&◌, and-eq-true_iff}
use mathlib.Core.List.{List, [], ◌∷◌, ◌++◌}
use native.Mathlib.Omega.{arith}
use lib.ListN.{length, get_or}
use borrow.Author.Tests.{ne_eqb}
use Rattle.text.specs.Bytes.{Bytes, any, all, is_blank}
use Rattle.text.specs.Class.{one_of, is_other}
use Rattle.names.specs.Codes.{pair_code, encode, write}
use Rattle.names.specs.Names.{composed, is_some, has_name_shape, is_name, is_property_name, first, last}
use Rattle.names.proofs.Entries.{composition_is, ranges}
use Rattle.names.proofs.Reading.{Reading, end, plain, pair, reading, plain_range, mark_range, wide_range, paired, wide_letter_lem, encode_plain, encode_pair, encode_wide}
use Rattle.names.proofs.Composing.{Composing, composing, form, composed_twice}
use Rattle.names.proofs.Naming.{Shaped, shaped, shape, composed_long}

-- Every byte is kept but a letter's and its mark's, for which there are bytes from 128 up.
pub data Kept : Bytes → Bytes → Type 0 where
  nothing : Kept [] []
  same : {s t : Bytes} (a : ℕ) → Kept s t → Kept (a ∷ s) (a ∷ t)
  fewer : {s t : Bytes} (a b c x y : ℕ) → 128 ≤ x → 128 ≤ y → Kept s t → Kept (a ∷ b ∷ c ∷ s) (x ∷ y ∷ t)

kept_cast : {s : Bytes} (t u v : Bytes) → t ≡ u → Kept s (t ++ v) → Kept s (u ++ v)
kept_cast t u v e k = rw (← e) k

keeps : {s : Bytes} {l k : List ℕ} → Reading s l → Composing l k → Kept s (write k)
unfolding write
keeps end Composing.end = nothing
keeps (plain a h r) (Composing.kept {l} {k} c q) = kept_cast (a ∷ []) (encode a) (write k) (sym (encode_plain a h)) (same a (keeps r q))
keeps (plain a h (plain b g r)) (Composing.marked c d e f q) =
    let i = composition_is c d e f in
    absurd (omega (arith, plain_range b g, i.1, mark_range e.mark (ranges e i.2).marks))
keeps (plain a h (pair b d g r)) (Composing.marked {l} {k} c m e f q) =
    let i = ranges e (composition_is c m e f).2 in
    kept_cast _ (encode e.composed) (write k) (sym (encode_wide e.composed (wide_letter_lem e.composed (omega (arith, i.composed_least)) i.composed_most)))
    (fewer c b d (192 + e.composed / 64 % 32) (128 + e.composed % 64) (omega arith) (omega arith) (keeps r q))
keeps (pair a b h r) (Composing.kept {l} {k} c q) = kept_cast (a ∷ b ∷ []) (encode (pair_code a b)) (write k) (sym (encode_pair a b h)) (same a (same b (keeps r q)))
keeps (pair a b h r) (Composing.marked c d e f q) =
    let i = composition_is c d e f in
    absurd (omega (arith, wide_range (pair_code a b) (paired a b h).wide, i.0, (ranges e i.2).letter_most))

pub composed_keeps : (s t : Bytes) → composed s ≡ Some t → Kept s t
composed_keeps s t h =
    let f = form s t h in
    rw (← f.is) (keeps (reading s f.codes f.typed) (composing f.codes))

-- The last byte, by the one before it.
abbrev last_or : ℕ → Bytes → ℕ
last_or a [] = a
last_or a (b ∷ s) = last_or b s

last_at : (a : ℕ) (s : Bytes) → get_or (a ∷ s) (length s) 0 ≡ last_or a s
last_at a [] = refl
last_at a (b ∷ s) = last_at b s

last_is : (s : Bytes) → last s ≡ last_or 0 s
last_is [] = refl
last_is (a ∷ s) = ap (λ (n : ℕ). get_or (a ∷ s) n 0) (let e : suc (length s) - 1 ≡ length s = omega arith in e) ∙ last_at a s

pub kept_length : {s t : Bytes} → Kept s t → length t ≤ length s
kept_length nothing = omega arith
kept_length (same a k) = let h = kept_length k in omega arith
kept_length (fewer a b c x y p q k) = let h = kept_length k in omega arith

kept_equal : {s t : Bytes} → Kept s t → length t ≡ length s → s ≡ t
kept_equal nothing h = refl
kept_equal (same a k) h = ap (λ (x : Bytes). a ∷ x) (kept_equal k (omega arith))
kept_equal (fewer a b c x y p q k) h = absurd (omega (arith, kept_length k))

-- A rule that bytes from 128 up keep.
module _ (p : ℕ → Bool) (high : (b : ℕ) → 128 ≤ b → p b ≡ true) where
  kept_all_lem : {s t : Bytes} → Kept s t → all p s ≡ true → all p t ≡ true
  unfolding all
  kept_all_lem nothing h = refl
  kept_all_lem (same {s} {t} a k) h =
      let e = (and-eq-true_iff (p a) (all p s)).0 h in
      rw e.0 (kept_all_lem k e.1)
  kept_all_lem (fewer {s} {t} a b c x y m n k) h =
      let e = (and-eq-true_iff (p a) (p b && (p c && all p s))).0 h in
      let f = (and-eq-true_iff (p b) (p c && all p s)).0 e.1 in
      rw (high x m, high y n) (kept_all_lem k ((and-eq-true_iff (p c) (all p s)).0 f.1).1)

  kept_first : {s t : Bytes} → Kept s t → p (first s) ≡ true → p (first t) ≡ true
  kept_first nothing h = h
  kept_first (same a k) h = h
  kept_first (fewer a b c x y m n k) h = high x m

  kept_last_or : {s t : Bytes} → Kept s t → (a b : ℕ) → (p a ≡ true → p b ≡ true) → p (last_or a s) ≡ true → p (last_or b t) ≡ true
  kept_last_or nothing a b f h = f h
  kept_last_or (same c k) a b f h = kept_last_or k c c (λ x. x) h
  kept_last_or (fewer d e c x y m n k) a b f h = kept_last_or k c y (λ z. high y n) h

  kept_last : {s t : Bytes} → Kept s t → p (last s) ≡ true → p (last t) ≡ true
  kept_last {s} {t} k h = rw (last_is t) (kept_last_or k 0 0 (λ x. x) (rw (last_is s) at h))

high_start : (b : ℕ) → 128 ≤ b → not (one_of "!~+" b) ≡ true
unfolding any
high_start b l = rw (ne_eqb b 33 (λ e. omega arith), ne_eqb b 126 (λ e. omega arith), ne_eqb b 43 (λ e. omega arith))

high_bare : (b : ℕ) → 128 ≤ b → not (is_blank b) ≡ true
high_bare b l = rw (ne_eqb b 32 (λ e. omega arith), ne_eqb b 10 (λ e. omega arith))

high_other : (b : ℕ) → 128 ≤ b → is_other 46 b ≡ true
high_other b l = rw (ne_eqb b 46 (λ e. omega arith))

-- The laws of the composed form of a name.
module _ (s t : Bytes) (h : composed s ≡ Some t) where
  pub composed_shorter : length t ≤ length s
  composed_shorter = kept_length (composed_keeps s t h)

  pub composed_name_lem : is_name s ≡ true → is_name t ≡ true
  unfolding is_name
  composed_name_lem n =
      let a = shaped s ((and-eq-true_iff (has_name_shape s) (is_some (composed s))).0 n).0 in
      let k = composed_keeps s t h in
      let b : Shaped t = record {
        least = composed_long s t h a.least;
        most = omega (arith, composed_shorter, a.most);
        begins = kept_first (λ b. not (one_of "!~+" b)) high_start k a.begins;
        bare_first = kept_first (λ b. not (is_blank b)) high_bare k a.bare_first;
        bare_last = kept_last (λ b. not (is_blank b)) high_bare k a.bare_last;
      } in
      rw (shape t b, composed_twice s t h)

  pub composed_property_name : is_property_name s ≡ true → is_property_name t ≡ true
  unfolding is_property_name
  composed_property_name n =
      let e = (and-eq-true_iff (is_name s) (all (is_other 46) s)).0 n in
      rw (composed_name_lem e.0, kept_all_lem (is_other 46) high_other (composed_keeps s t h) e.1)
