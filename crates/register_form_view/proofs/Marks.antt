-- Tables of marks that are filled from one place on, up to another or to the table's end.
use Prim.Native.Nat.{ℕ, suc, ◌+◌, ◌≤◌, ◌<◌, min}
use mathlib.Core.Path.{◌≡◌, refl, sym, ap, ◌∙◌}
use mathlib.Core.Bool.{Bool, true, false, ◌&&◌}
use mathlib.Core.List.{List}
use native.Mathlib.Omega.{arith}
use borrow.Author.Tests.{lt-ltb, le-ltb, ltb-true, ltb-false, eqb-true, eqb-false}
use lib.Dec.{leb, ltb, eqb}
use lib.ListN.{length, get_or, set, replicate, length-set}
use lib.Seq.{get_or-set_same, get_or-set_other}
use Rattle.text.specs.Bytes.{Bytes, any}
use Rattle.text.specs.Table.{tabulate}
use Rattle.text.proofs.Tables.{length_tabulate, get_d_tabulate, tabulate_ext, is_tabulate}
use Rattle.pageset.specs.declared.PageSet.{PageSet}
use Rattle.pageset.specs.Marks.{marks_from}
use Rattle.pageset.proofs.Laws.{tabulate_none}
use Rattle.register_form.specs.Form.{form_start}
use Rattle.register_form_view.specs.View.{form_bytes, numbers_in, form_passes}
use Rattle.register_form_view.proofs.Looking.{range_below, range_above, range_at}

-- another place is below i where it is below i + 1
ltb_next : (j i : ℕ) → (j ≡ i → ⊥) → ltb j (i + 1) ≡ ltb j i
ltb_next j i f = go (ltb j i) refl
  where
    go : (b : Bool) → ltb j i ≡ b → ltb j (i + 1) ≡ b
    go true e = lt-ltb j (i + 1) (omega (arith, ltb-true j i e))
    go false e = le-ltb j (i + 1) (omega (arith, ltb-false j i e, f))

module _ (m : ℕ) (f : ℕ → Bool) (l : List Bool) where
  pub marks_none : (low : ℕ) → ((j : ℕ) → j < low → f j ≡ false) → l ≡ replicate m false → l ≡ tabulate m (λ j. ltb j low && f j)
  marks_none low below e = e ∙ tabulate_none m ∙ tabulate_ext m _ _ (λ j h. go j (ltb j low) refl)
    where
      go : (j : ℕ) (b : Bool) → ltb j low ≡ b → false ≡ (b && f j)
      go j true p = sym (below j (ltb-true j low p))
      go j false p = refl

  pub marks_more : (i : ℕ) (b : Bool) → i < m → b ≡ f i → l ≡ tabulate m (λ j. ltb j i && f j) → set l i b ≡ tabulate m (λ j. ltb j (i + 1) && f j)
  marks_more i b h q e = is_tabulate m _ false _ (length-set l i b ∙ long) (λ j k. at j k (eqb j i) refl)
    where
      long : length l ≡ m
      long = ap length e ∙ length_tabulate m _

      at : (j : ℕ) → j < m → (c : Bool) → eqb j i ≡ c → get_or (set l i b) j false ≡ (ltb j (i + 1) && f j)
      at j k true p = rw (eqb-true j i p, lt-ltb i (i + 1) (omega arith)) (get_or-set_same l i b false (rw long h) ∙ q)
      at j k false p =
          rw (get_or-set_other l i j b false (eqb-false j i p), ltb_next j i (eqb-false j i p), e) (get_d_tabulate m _ false j k)

  marks_skip : (i : ℕ) → f i ≡ false → l ≡ tabulate m (λ j. ltb j i && f j) → l ≡ tabulate m (λ j. ltb j (i + 1) && f j)
  marks_skip i q e = e ∙ tabulate_ext m _ _ (λ j h. at j (eqb j i) refl)
    where
      at : (j : ℕ) (c : Bool) → eqb j i ≡ c → (ltb j i && f j) ≡ (ltb j (i + 1) && f j)
      at j true p = rw (eqb-true j i p, le-ltb i i (omega arith), lt-ltb i (i + 1) (omega arith)) (sym q)
      at j false p = rw (ltb_next j i (eqb-false j i p))

  pub marks_all : (i n : ℕ) → ((j : ℕ) → n ≤ j → j < m → f j ≡ false) → n ≤ i → l ≡ tabulate m (λ j. ltb j i && f j) → l ≡ tabulate m f
  marks_all i n above stop e = e ∙ tabulate_ext m _ _ (λ j h. go j h (ltb j i) refl)
    where
      go : (j : ℕ) → j < m → (b : Bool) → ltb j i ≡ b → (b && f j) ≡ f j
      go j h true p = refl
      go j h false p = sym (above j (omega (arith, ltb-false j i p)) h)

-- A loop that takes into a set each of the first n pages that passes: at its start, after a turn, and at its end.
abbrev pub Taken : ℕ → (ℕ → Bool) → ℕ → PageSet → Type 0
Taken n f i set = marks_from set.words ≡ tabulate 256 (λ j. ltb j i && (ltb j n && f j))

pub taken_none : (n : ℕ) (f : ℕ → Bool) (s : PageSet) → marks_from s.words ≡ replicate 256 false → Taken n f 0 s
taken_none n f s e = marks_none 256 _ (marks_from s.words) 0 (λ j l. absurd (omega arith)) e

module _ (n : ℕ) (f : ℕ → Bool) (s : PageSet) (i : ℕ) (so_far : Taken n f i s) where
  -- the page in place i passes, or not
  module _ (below : i < min n 256) (b : Bool) (is : b ≡ f i) (u : PageSet) where
    here : (ltb i n && f i) ≡ b
    here = rw (lt-ltb i n (omega arith)) (sym is)

    pub taken_with : (r : PageSet) (at : ℕ) → b ≡ true → at ≡ i → marks_from r.words ≡ set (marks_from s.words) at true → u ≡ r → Taken n f (i + 1) u
    taken_with r at y w g q =
        ap (λ (v : PageSet). marks_from v.words) q ∙ g ∙ rw w (marks_more 256 _ (marks_from s.words) i true (omega arith) (sym (here ∙ y)) so_far)

    pub taken_same : b ≡ false → u ≡ s → Taken n f (i + 1) u
    taken_same y q = ap (λ (v : PageSet). marks_from v.words) q ∙ marks_skip 256 _ (marks_from s.words) i (here ∙ y) so_far

  pub taken_all : min n 256 ≤ i → marks_from s.words ≡ tabulate 256 (λ j. ltb j n && f j)
  taken_all stop = (marks_all 256 _ (marks_from s.words) i (min n 256) (λ j k b. rw (le-ltb j n (omega arith))) stop so_far)

-- A loop that marks each term of a range that passes, of the first 2,048: after a turn, and at its end.
abbrev pub Marked : ℕ → ℕ → (ℕ → Bool) → ℕ → List Bool → Type 0
Marked low high p i marks = marks ≡ tabulate 2048 (λ j. ltb j i && ((leb low j && ltb j high) && p j))

module _ (low high : ℕ) (p : ℕ → Bool) where
  pub marked_none : (l : List Bool) → l ≡ replicate 2048 false → Marked low high p low l
  marked_none l e = marks_none 2048 _ l low (range_below low high p) e

  module _ (l : List Bool) (i : ℕ) (so_far : Marked low high p i l) where
    pub marked_more : (at : ℕ) (b : Bool) → low ≤ i → i < min high 2048 → at ≡ i → b ≡ p i → Marked low high p (i + 1) (set l at b)
    marked_more at b k h w is = rw w (marks_more 2048 _ l i b (omega arith) (range_at low high p i b k (omega arith) is) so_far)

    pub marked_all : min high 2048 ≤ i → l ≡ tabulate 2048 (λ j. (leb low j && ltb j high) && p j)
    marked_all stop = marks_all 2048 _ l i (min high 2048) (λ j k b. range_above low high p j (omega arith)) stop so_far

-- One of the numbers in the bytes of page i's forms passes.
pub form_passes_lem : (h : Bytes) (p : ℕ → Bool) (i start end : ℕ) (forms : Bytes) (b : Bool) → start ≡ form_start h i → end ≡ form_start h (suc i) → forms ≡ form_bytes h start end → b ≡ any p (numbers_in forms) → b ≡ form_passes h p i
form_passes_lem h p i start end forms b s e f g = g ∙ rw (f, s, e)
