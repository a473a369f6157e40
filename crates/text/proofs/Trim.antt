-- Laws of trimming.
use Prim.Native.Nat.{ℕ, suc, ◌+◌, ◌-◌, ◌≤◌, ◌<◌}
use mathlib.Core.Path.{◌≡◌, refl, ap, sym, ◌∙◌}
use mathlib.Core.List.{[], ◌∷◌, ◌++◌}
use mathlib.Core.Bool.{Bool, true, false, cond}
use native.Mathlib.Omega.{arith}
use lib.ListN.{length, take, drop, get_or, length-drop, length-take, take-append-drop, drop_of_length-le}
use lib.Seq.{take-nil, take_all, drop-drop, take-suc, take-append-le, drop-append-le, length-take-le}
use Rattle.text.specs.Parts.{Trimmed}
use Rattle.text.specs.Bytes.{Bytes, part, is_blank, span, trim_end, unless_last, trim}
use Rattle.text.proofs.Laws.{span_le}

-- What trimming leaves is the text's front.
pub trim_end_front : (s : Bytes) → take (length (trim_end s)) s ≡ trim_end s
unfolding trim_end
trim_end_front [] = refl
trim_end_front (b ∷ s) = go (trim_end s) (trim_end_front s)
  where
    last_one : (t : Bool) → take (length (cond t [] (b ∷ []))) (b ∷ s) ≡ cond t [] (b ∷ [])
    last_one true = refl
    last_one false = refl

    go : (t : Bytes) → take (length t) s ≡ t → take (length (unless_last b t)) (b ∷ s) ≡ unless_last b t
    go [] ih = last_one (is_blank b)
    go (c ∷ t) ih = ap (λ (l : Bytes). b ∷ l) ih

-- A blank at the end goes, and any other byte ends it.
module _ (b : ℕ) where
  pub trim_end_blank : (s : Bytes) → is_blank b ≡ true → trim_end (s ++ (b ∷ [])) ≡ trim_end s
  unfolding trim_end
  trim_end_blank [] h = rw h
  trim_end_blank (x ∷ s) h = rw (trim_end_blank s h)

  pub trim_end_stop : (s : Bytes) → is_blank b ≡ false → trim_end (s ++ (b ∷ [])) ≡ s ++ (b ∷ [])
  unfolding trim_end
  trim_end_stop [] h = rw h
  trim_end_stop (x ∷ []) h = rw (trim_end_stop [] h)
  trim_end_stop (x ∷ y ∷ s) h = rw (trim_end_stop (y ∷ s) h)

-- Trimming makes no text longer.
pub trim_end_le : (s : Bytes) → length (trim_end s) ≤ length s
trim_end_le s = omega (arith, ap length (trim_end_front s), length-take (length (trim_end s)) s)

pub trim_le : (s : Bytes) → length (trim s) ≤ length s
unfolding trim
trim_le s = omega (arith, trim_end_le (drop (span is_blank s) s), length-drop (span is_blank s) s)

-- From the end, one byte at a time.
module _ (s : Bytes) (e : ℕ) (h : 0 < e) (k : e ≤ length s) where
  split : take e s ≡ take (e - 1) s ++ (get_or s (e - 1) 0 ∷ [])
  split =
      let q : e ≡ suc (e - 1) = omega arith in
      ap (λ (n : ℕ). take n s) q ∙ take-suc s (e - 1) 0 (omega arith)

  pub end_blank : is_blank (get_or s (e - 1) 0) ≡ true → trim_end (take e s) ≡ trim_end (take (e - 1) s)
  end_blank p = ap trim_end split ∙ trim_end_blank (get_or s (e - 1) 0) (take (e - 1) s) p

  pub end_stop : is_blank (get_or s (e - 1) 0) ≡ false → length (trim_end (take e s)) ≡ e
  end_stop p = ap (λ (l : Bytes). length (trim_end l)) split ∙ ap length (trim_end_stop (get_or s (e - 1) 0) (take (e - 1) s) p ∙ sym split) ∙ length-take-le e s k

pub end_none : (s : Bytes) (e : ℕ) → e ≤ 0 → length (trim_end (take e s)) ≡ 0
end_none s e h = omega (arith, trim_end_le (take e s), length-take e s)

-- A part of a part.
inner : (l : Bytes) (n a len : ℕ) → a ≤ length (take len l) → n ≤ length (drop a (take len l)) → take n (drop a l) ≡ take n (drop a (take len l))
inner l n a len h k =
    ap (λ (x : Bytes). take n (drop a x)) (sym (take-append-drop len l))
    ∙ ap (take n) (drop-append-le a (take len l) (drop len l) h)
    ∙ take-append-le n (drop a (take len l)) (drop len l) k

-- Trimming the first len bytes of a text.
trim_take : (l : Bytes) (len : ℕ) → let a = span is_blank (take len l) in take (length (trim_end (drop a (take len l)))) (drop a l) ≡ trim (take len l)
unfolding trim
trim_take l len =
    let t = take len l in
    let a = span is_blank t in
    inner l (length (trim_end (drop a t))) a len (span_le is_blank t) (trim_end_le (drop a t)) ∙ trim_end_front (drop a t)

pub trimmed_past : (s : Bytes) (start len : ℕ) → length s < start → Trimmed s start len (record { start = 0; len = 0 })
unfolding trim trim_end span
trimmed_past s start len h =
    let k : length s ≤ start = omega arith in
    record { is = rw (drop_of_length-le s k, take-nil); within = omega arith }

module _ (s t : Bytes) (start len a : ℕ) (h : start ≤ length s) (p : t ≡ part s start len) (q : a ≡ 0 + span is_blank t) where
  pub blanks_fit : start + a ≤ length s
  blanks_fit = omega (arith, span_le is_blank t, ap length p, length-take len (drop start s), length-drop start s)

  pub trimmed_is : (u : Bytes) (n : ℕ) → u ≡ part t a (length t) → n ≡ length (trim_end u) → Trimmed s start len (record { start = start + a; len = n })
  trimmed_is u n k l =
      let e : a ≡ span is_blank t = omega arith in
      let f = k ∙ take_all (length t) (drop a t) (omega (arith, length-drop a t)) in
      let g : n ≡ length (trim_end (drop a t)) = rw (← f) l in
      record {
        is = rw (← drop-drop a start s, g, e, ← p) (rw (← p) at (trim_take (drop start s) len));
        within = omega (arith, trim_end_le u, ap length f, length-drop a t, blanks_fit, span_le is_blank t, ap length p, length-take len (drop start s), length-drop start s);
      }
