-- Laws of texts that are written together: byte classes, scans, trimming, comparators, heads.
use Rattle.std.specs.Prelude.{Option, Some, None}
use Prim.Native.Nat.{ℕ, suc, ◌-◌}
use mathlib.Core.Path.{◌≡◌, refl, sym, ap, ◌∙◌}
use mathlib.Core.Bool.{Bool, true, false, not, ◌&&◌, false≢true}
use mathlib.Core.List.{[], ◌∷◌, ◌++◌}
use native.Mathlib.Omega.{arith}
use lib.Dec.{eqb, leb}
use lib.ListN.{length, take, drop, get_or}
use lib.Seq.{take-append_seam, drop-append_seam}
use Rattle.text.specs.Bytes.{Bytes, bytes, any, all, is_blank, span, front, behind, trim_end, trim, starts}
use Rattle.text.specs.Class.{is_free, is_name_byte, is_value_byte, is_other}
use Rattle.text.proofs.Laws.{any_append}
use Rattle.names.specs.Names.{last}
use Rattle.values.specs.Values.{map_option}
use Rattle.language.specs.Comparators.{word, is_equal}
use Rattle.language.specs.RawQuery.{comparator, head_length, ends_head}
use Rattle.language.proofs.EachComparator.{typed_back}
use Rattle.language.proofs.Members.{and_true, or_false, both_true}
use Rattle.language.specs.declared.SurfaceComparator.{SurfaceComparator}

-- One class of bytes lies in another.
pub all_in : {p q : ℕ → Bool} (f : (b : ℕ) → p b ≡ true → q b ≡ true) (s : Bytes) → all p s ≡ true → all q s ≡ true
unfolding all
all_in f [] h = refl
all_in {p = p} f (b ∷ s) h = let t = and_true (p b) (all p s) h in both_true (f b t.0) (all_in f s t.1)

pub not_not : (a : Bool) → not a ≡ true → a ≡ false
not_not true h = absurd (false≢true h)
not_not false h = refl

fewer : (p : ℕ → Bool) (s t : Bytes) → not (any p (s ++ t)) ≡ true → not (any p s) ≡ true
fewer p s t h = let e = or_false (any p s) (any p t) (sym (any_append p s t) ∙ not_not (any p (s ++ t)) h) in rw e.0

fewer_more : (p : ℕ → Bool) (s t : Bytes) → not (any p (s ++ t)) ≡ true → not (any p t) ≡ true
fewer_more p s t h = let e = or_false (any p s) (any p t) (sym (any_append p s t) ∙ not_not (any p (s ++ t)) h) in rw e.1

pub name_free : (b : ℕ) → is_name_byte b ≡ true → is_free b ≡ true
unfolding is_name_byte is_free
name_free b h = fewer (eqb b) (bytes "[]|<>") (bytes ":#{}_\"") (and_true (leb 32 b && not (eqb b 127)) _ h).1

pub value_free : (b : ℕ) → is_value_byte b ≡ true → is_free b ≡ true
unfolding is_value_byte is_free
value_free b h = fewer (eqb b) (bytes "[]|<>") (bytes "\"") (and_true (leb 32 b && not (eqb b 127)) _ h).1

pub name_colon : (b : ℕ) → is_name_byte b ≡ true → is_other 58 b ≡ true
unfolding is_name_byte any
name_colon b h =
    let e = fewer_more (eqb b) (bytes "[]|<>") (bytes ":#{}_\"") (and_true (leb 32 b && not (eqb b 127)) _ h).1 in
    rw (or_false (eqb b 58) _ (not_not _ e)).0

-- What a free byte is not.
pub free_not : (b : ℕ) → is_free b ≡ true → (eqb b 91 ≡ false) × (eqb b 93 ≡ false) × (eqb b 124 ≡ false) × (eqb b 60 ≡ false) × (eqb b 62 ≡ false)
unfolding is_free any
free_not b h =
    let e0 = or_false (eqb b 91) _ (not_not _ h) in
    let e1 = or_false (eqb b 93) _ e0.1 in
    let e2 = or_false (eqb b 124) _ e1.1 in
    let e3 = or_false (eqb b 60) _ e2.1 in
    let e4 = or_false (eqb b 62) _ e3.1 in
    (e0.0, e1.0, e2.0, e3.0, e4.0)

-- A scan to the end of a part.
pub span_part : (p : ℕ → Bool) (t s : Bytes) → all p t ≡ true → span p s ≡ 0 → span p (t ++ s) ≡ length t
unfolding span all
span_part p [] s h e = e
span_part p (b ∷ t) s h e = let k = and_true (p b) (all p t) h in rw (k.0, span) (ap suc (span_part p t s k.1 e))

pub front_part : (p : ℕ → Bool) (t s : Bytes) → all p t ≡ true → span p s ≡ 0 → front p (t ++ s) ≡ t
front_part p t s h e = ap (λ (n : ℕ). take n (t ++ s)) (span_part p t s h e) ∙ take-append_seam t s

pub behind_part : (p : ℕ → Bool) (t s : Bytes) → all p t ≡ true → span p s ≡ 0 → behind p (t ++ s) ≡ s
behind_part p t s h e = ap (λ (n : ℕ). drop n (t ++ s)) (span_part p t s h e) ∙ drop-append_seam t s

pub behind_none : (p : ℕ → Bool) (s : Bytes) → span p s ≡ 0 → behind p s ≡ s
behind_none p s e = ap (λ (n : ℕ). drop n s) e

pub span_not : (p : ℕ → Bool) (b : ℕ) (s : Bytes) → p b ≡ false → span p (b ∷ s) ≡ 0
unfolding span
span_not p b s e = rw (e, span)

-- No blank at the end.
last_cons : (b c : ℕ) (s : Bytes) → last (b ∷ c ∷ s) ≡ last (c ∷ s)
last_cons b c s = let e : suc (suc (length s)) - 1 ≡ suc (suc (length s) - 1) = omega arith in ap (λ (n : ℕ). get_or (b ∷ c ∷ s) n 0) e

pub trim_end_none : (s : Bytes) → is_blank (last s) ≡ false → trim_end s ≡ s
unfolding trim_end
trim_end_none [] h = refl
trim_end_none (b ∷ []) h = rw h
trim_end_none (b ∷ c ∷ s) h = rw (trim_end_none (c ∷ s) (rw (last_cons b c s) at h))

pub trim_end_behind : (a : Bytes) (c : ℕ) (s : Bytes) → trim_end (c ∷ s) ≡ c ∷ s → trim_end (a ++ (c ∷ s)) ≡ a ++ (c ∷ s)
unfolding trim_end
trim_end_behind [] c s h = h
trim_end_behind (x ∷ []) c s h = rw h
trim_end_behind (x ∷ y ∷ a) c s h = rw (trim_end_behind (y ∷ a) c s h)

pub trim_none : (b : ℕ) (s : Bytes) → is_blank b ≡ false → trim_end (b ∷ s) ≡ b ∷ s → trim (b ∷ s) ≡ b ∷ s
unfolding trim
trim_none b s h e = ap trim_end (behind_none is_blank (b ∷ s) (span_not is_blank b s h)) ∙ e

-- A comparator before a free byte is read as itself.
pub comparator_reads : (c : SurfaceComparator) (b : ℕ) (s : Bytes) → is_free b ≡ true → (is_equal c ≡ true → eqb b 33 ≡ false) → comparator (word c ++ (b ∷ s)) ≡ (c, b ∷ s)
unfolding comparator
comparator_reads c b s h k =
    let e = free_not b h in
    rw (typed_back c b s e.3 e.4 k, drop-append_seam (word c) (b ∷ s))

-- Heads: where `::` is not met before the end, and where it is.
no_pair : (b : ℕ) (s : Bytes) → eqb b 58 ≡ false → starts (bytes "::") (b ∷ s) ≡ false
unfolding starts
no_pair b s e = rw (e, starts)

-- One step of the search for `::`.
abbrev stepped : Bool → Bool → Option ℕ → Option ℕ
stepped true u o = Some 0
stepped false true o = None
stepped false false o = map_option suc o

head_step : (b : ℕ) (s : Bytes) → head_length (b ∷ s) ≡ stepped (starts (bytes "::") (b ∷ s)) (ends_head (b ∷ s)) (head_length s)
unfolding head_length
head_step b s = go (starts (bytes "::") (b ∷ s)) (ends_head (b ∷ s))
  where
    go : (t u : Bool) → ◌≡◌ {A = Option ℕ} (elim t [ true ↦ Some 0 | false ↦ elim u [ true ↦ None | false ↦ map_option suc (head_length s) ] ]) (stepped t u (head_length s))
    go true u = refl
    go false true = refl
    go false false = refl

no_head_step : (b : ℕ) (s : Bytes) → starts (bytes "::") (b ∷ s) ≡ false → head_length s ≡ None → head_length (b ∷ s) ≡ None
no_head_step b s e h = head_step b s ∙ rw (e, h) (go (ends_head (b ∷ s)))
  where
    go : (t : Bool) → stepped false t None ≡ None
    go true = refl
    go false = refl

pub no_head : (u s : Bytes) → all (is_other 58) u ≡ true → head_length s ≡ None → head_length (u ++ s) ≡ None
unfolding all
no_head [] s h e = e
no_head (b ∷ u) s h e =
    let k = and_true (is_other 58 b) (all (is_other 58) u) h in
    no_head_step b (u ++ s) (no_pair b (u ++ s) (not_not (eqb b 58) k.0)) (no_head u s k.1 e)

-- A single colon.
pub no_head_colon : (b : ℕ) (s : Bytes) → eqb b 58 ≡ false → head_length (b ∷ s) ≡ None → head_length (58 ∷ b ∷ s) ≡ None
unfolding starts
no_head_colon b s e h = no_head_step 58 (b ∷ s) (rw (e, starts)) h

free_goes_on : (b : ℕ) (s : Bytes) → is_free b ≡ true → ends_head (b ∷ s) ≡ false
unfolding starts
free_goes_on b s h = let e = free_not b h in rw (e.2, e.3, e.1, starts)

pub head_reads : (u s : Bytes) → all is_free u ≡ true → all (is_other 58) u ≡ true → head_length (u ++ (bytes "::" ++ s)) ≡ Some (length u)
unfolding all starts
head_reads [] s h k = head_step 58 (58 ∷ s)
head_reads (b ∷ u) s h k =
    let f = and_true (is_free b) (all is_free u) h in
    let g = and_true (is_other 58 b) (all (is_other 58) u) k in
    let r = u ++ (bytes "::" ++ s) in
    let e = no_pair b r (not_not (eqb b 58) g.0) in
    let i = free_goes_on b r f.0 in
    head_step b r ∙ rw (e, i, head_reads u s f.1 g.1)
