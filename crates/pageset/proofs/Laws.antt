-- What each method makes of the marks.
use Prim.Native.Nat.{ℕ, ◌*◌, ◌/◌, ◌%◌, ◌^◌, ◌<◌}
use mathlib.Core.Path.{◌≡◌, refl, sym, ap, ◌∙◌}
use mathlib.Core.Bool.{Bool, true, false, cond, ◌&&◌, ◌||◌, or-false, or-true, true≢false, and-eq-true_iff}
use mathlib.Core.List.{List, [], ◌∷◌}
use native.Mathlib.Nat.{one-mul}
use native.Mathlib.Omega.{arith}
use lib.Bits.{bit_and, bit_or}
use lib.Dec.{eqb, ltb}
use lib.Pow.{shl_exact}
use lib.ListN.{length, get_or, set, replicate, length-set, length-replicate, get_or-replicate, get_or-eq_default}
use lib.Seq.{get_or-set_same, get_or-set_other}
use borrow.Author.Tests.{eq-eqb, ne_eqb, eqb-true, eqb-false, ltb-true, ltb-false}
use Rattle.text.specs.Table.{tabulate, count_to}
use Rattle.text.proofs.Tables.{length_tabulate, get_d_tabulate, tabulate_ext, is_tabulate, count_ext}
use Rattle.pageset.specs.Marks.{is_set, mark_in, marks_from}
use Rattle.pageset.proofs.Bits.{or_set, and_set, none_set, one_set, four}

pub tabulate_none : (n : ℕ) → replicate n false ≡ tabulate n (λ i. false)
tabulate_none n = is_tabulate n _ false _ (length-replicate n false) (λ i h. get_or-replicate n i false false h)

pub tabulate_both : (op : Bool → Bool → Bool) (n : ℕ) (f g : ℕ → Bool) (a b : List Bool) → a ≡ tabulate n f → b ≡ tabulate n g → tabulate n (λ i. op (get_or a i false) (get_or b i false)) ≡ tabulate n (λ i. op (f i) (g i))
tabulate_both op n f g a b p q = tabulate_ext n _ _ (λ i h. rw (p, q, get_d_tabulate n f false i h, get_d_tabulate n g false i h))

pub count_tabulate : (n : ℕ) (f : ℕ → Bool) (l : List Bool) → l ≡ tabulate n f → count_to n (λ i. get_or l i false) ≡ count_to n f
count_tabulate n f l e = count_ext n _ f (λ i h. rw e (get_d_tabulate n f false i h))

-- The mark at a place, past the marks and past the words.
pub word_there : (w : List ℕ) (page : ℕ) → (ltb page 256 && ltb (page / 64) (length w)) ≡ true → page / 64 < length w
word_there w page h = ltb-true _ _ ((and-eq-true_iff (ltb page 256) (ltb (page / 64) (length w))).0 h).1

pub mark_there : (w : List ℕ) (page : ℕ) → (ltb page 256 && ltb (page / 64) (length w)) ≡ true → eqb (get_or w (page / 64) 0 / 2 ^ (page % 64) % 2) 1 ≡ get_or (marks_from w) page false
unfolding mark_in is_set
mark_there w page h =
    sym (get_d_tabulate 256 (mark_in w) false page (ltb-true page 256 ((and-eq-true_iff (ltb page 256) (ltb (page / 64) (length w))).0 h).0))

pub mark_out : (w : List ℕ) (page : ℕ) → (ltb page 256 && ltb (page / 64) (length w)) ≡ false → false ≡ get_or (marks_from w) page false
unfolding mark_in
mark_out w page h = go (ltb page 256) refl (ltb (page / 64) (length w)) refl h
  where
    go : (s : Bool) → ltb page 256 ≡ s → (t : Bool) → ltb (page / 64) (length w) ≡ t → (s && t) ≡ false → false ≡ get_or (marks_from w) page false
    go false e t f n = sym (get_or-eq_default (marks_from w) false (omega (arith, ltb-false page 256 e, length_tabulate 256 (mark_in w))))
    go true e true f n = absurd (true≢false n)
    go true e false f n =
        sym (get_d_tabulate 256 (mark_in w) false page (ltb-true page 256 e) ∙ ap (λ (n : ℕ). is_set n (page % 64)) (get_or-eq_default w 0 (ltb-false (page / 64) (length w) f)) ∙ none_set (page % 64))

-- The marks of four words that are the values of a function.
words_marked : (f : ℕ → ℕ) (g : ℕ → Bool) → ((i : ℕ) → i < 256 → is_set (f (i / 64)) (i % 64) ≡ g i) → marks_from (f 0 ∷ f 1 ∷ f 2 ∷ f 3 ∷ []) ≡ tabulate 256 g
unfolding mark_in
words_marked f g h = tabulate_ext 256 _ _ (λ i l. ap (λ (n : ℕ). is_set n (i % 64)) (four f (i / 64) (omega arith)) ∙ h i l)

pub marks_none : marks_from (0 ∷ 0 ∷ 0 ∷ 0 ∷ []) ≡ replicate 256 false
marks_none = words_marked (λ q. 0) (λ i. false) (λ i l. none_set (i % 64)) ∙ sym (tabulate_none 256)

module _ (a b : List ℕ) where
  pub marks_either : marks_from (bit_or (get_or a 0 0) (get_or b 0 0) ∷ bit_or (get_or a 1 0) (get_or b 1 0) ∷ bit_or (get_or a 2 0) (get_or b 2 0) ∷ bit_or (get_or a 3 0) (get_or b 3 0) ∷ []) ≡ tabulate 256 (λ i. get_or (marks_from a) i false || get_or (marks_from b) i false)
  unfolding mark_in
  marks_either =
      words_marked (λ q. bit_or (get_or a q 0) (get_or b q 0)) _
      (λ i l. or_set (get_or a (i / 64) 0) (get_or b (i / 64) 0) (i % 64) ∙ rw (get_d_tabulate 256 (mark_in a) false i l, get_d_tabulate 256 (mark_in b) false i l))

  pub marks_both : marks_from (bit_and (get_or a 0 0) (get_or b 0 0) ∷ bit_and (get_or a 1 0) (get_or b 1 0) ∷ bit_and (get_or a 2 0) (get_or b 2 0) ∷ bit_and (get_or a 3 0) (get_or b 3 0) ∷ []) ≡ tabulate 256 (λ i. get_or (marks_from a) i false && get_or (marks_from b) i false)
  unfolding mark_in
  marks_both =
      words_marked (λ q. bit_and (get_or a q 0) (get_or b q 0)) _
      (λ i l. and_set (get_or a (i / 64) 0) (get_or b (i / 64) 0) (i % 64) ∙ rw (get_d_tabulate 256 (mark_in a) false i l, get_d_tabulate 256 (mark_in b) false i l))

-- One page more.
module _ (a : List ℕ) (page : ℕ) where
  abbrev bit_in : ℕ → ℕ
  bit_in q = cond (eqb (page / 64) q) (2 ^ (page % 64)) 0

  bit_set : (i : ℕ) → is_set (bit_in (i / 64)) (i % 64) ≡ eqb i page
  bit_set i = go (eqb (page / 64) (i / 64)) refl (eqb i page) refl
    where
      go : (s : Bool) → eqb (page / 64) (i / 64) ≡ s → (t : Bool) → eqb i page ≡ t → is_set (cond s (2 ^ (page % 64)) 0) (i % 64) ≡ t
      go true e true f = one_set (page % 64) (i % 64) ∙ eq-eqb (i % 64) (page % 64) (ap (λ (n : ℕ). n % 64) (eqb-true i page f))
      go true e false f =
          let q = eqb-true (page / 64) (i / 64) e in
          let n = eqb-false i page f in
          one_set (page % 64) (i % 64) ∙ ne_eqb (i % 64) (page % 64) (λ r. n (let z : i ≡ page = omega arith in z))
      go false e true f = absurd (eqb-false (page / 64) (i / 64) e (ap (λ (n : ℕ). n / 64) (sym (eqb-true i page f))))
      go false e false f = none_set (i % 64)

  marked_at : (i : ℕ) → i < 256 → (get_or (marks_from a) i false || eqb i page) ≡ get_or (set (marks_from a) page true) i false
  marked_at i l = go (eqb i page) refl
    where
      go : (t : Bool) → eqb i page ≡ t → (get_or (marks_from a) i false || t) ≡ get_or (set (marks_from a) page true) i false
      go true e =
          let q = eqb-true i page e in
          or-true (get_or (marks_from a) i false) ∙ sym (rw q (get_or-set_same (marks_from a) page true false (omega (arith, length_tabulate 256 (mark_in a)))))
      go false e = or-false (get_or (marks_from a) i false) ∙ sym (get_or-set_other (marks_from a) page i true false (eqb-false i page e))

  with_bit : marks_from (bit_or (get_or a 0 0) (bit_in 0) ∷ bit_or (get_or a 1 0) (bit_in 1) ∷ bit_or (get_or a 2 0) (bit_in 2) ∷ bit_or (get_or a 3 0) (bit_in 3) ∷ []) ≡ set (marks_from a) page true
  unfolding mark_in
  with_bit =
      words_marked (λ q. bit_or (get_or a q 0) (bit_in q)) (λ i. get_or (set (marks_from a) page true) i false)
      (λ i l. or_set (get_or a (i / 64) 0) (bit_in (i / 64)) (i % 64) ∙ rw (bit_set i, ← get_d_tabulate 256 (mark_in a) false i l) (marked_at i l))
      ∙ sym (is_tabulate 256 _ false (set (marks_from a) page true) (length-set (marks_from a) page true ∙ length_tabulate 256 (mark_in a)) (λ i l. refl))

  pub marks_with : (b x y z w : ℕ) → b ≡ 2 ^ (page % 64) → x ≡ cond (eqb (page / 64) 0) b 0 → y ≡ cond (eqb (page / 64) 1) b 0 → z ≡ cond (eqb (page / 64) 2) b 0 → w ≡ cond (eqb (page / 64) 3) b 0
      → marks_from (bit_or (get_or a 0 0) x ∷ bit_or (get_or a 1 0) y ∷ bit_or (get_or a 2 0) z ∷ bit_or (get_or a 3 0) w ∷ []) ≡ set (marks_from a) page true
  marks_with b x y z w e f g h k = rw (f, g, h, k, e) with_bit

pub bit_fits : (page : ℕ) → 1 * 2 ^ (page % 64) % 2 ^ 64 ≡ 2 ^ (page % 64)
bit_fits page = shl_exact {a = 1} 1 (page % 64) 64 (omega arith) (omega arith) ∙ one-mul (2 ^ (page % 64))
