-- Laws of starts: where lists begin that stand one behind the other, and the lists read by that table.
use Prim.Native.Nat.{ℕ, zero, suc, ◌+◌, ◌-◌, ◌≤◌, ◌<◌}
use mathlib.Core.Path.{◌≡◌, refl, ap, sym, ◌∙◌}
use mathlib.Core.List.{List, [], ◌∷◌, ◌++◌, flat_map, append_assoc}
use native.Mathlib.Nat.{le_refl, add-zero, zero-add}
use native.Mathlib.Omega.{arith}
use lib.ListN.{length, get_or, take, length-append}
use lib.Seq.{take-append_seam, drop-append_seam}
use Rattle.text.specs.Bytes.{Bytes, part}
use Rattle.text.specs.Table.{tabulate}
use Rattle.text.proofs.Tables.{length_tabulate, get_d_tabulate, is_tabulate}
use Rattle.buffer.specs.Numbers.{starts_from}
use Rattle.register_form.specs.Form.{joined}
use Rattle.register_form.proofs.Laying.{Rises}
use Rattle.buffer.proofs.Parts.{both, get_d_part, part_before, flat_more}

-- The table of starts: its length, its first and last entry, a step.
pub length_starts : (at : ℕ) (l : List Bytes) → length (starts_from at l) ≡ suc (length l)
unfolding starts_from
length_starts at [] = refl
length_starts at (x ∷ l) = ap suc (length_starts (at + length x) l)

pub start_first : (at : ℕ) (l : List Bytes) → get_or (starts_from at l) 0 0 ≡ at
unfolding starts_from
start_first at [] = refl
start_first at (x ∷ l) = refl

pub start_last : (at : ℕ) (l : List Bytes) → get_or (starts_from at l) (length l) 0 ≡ at + length (joined l)
unfolding starts_from flat_map
start_last at [] = sym (add-zero at)
start_last at (x ∷ l) = omega (arith, start_last (at + length x) l, length-append x (joined l))

pub start_step : (at : ℕ) (l : List Bytes) (i : ℕ) → i < length l → get_or (starts_from at l) (suc i) 0 ≡ get_or (starts_from at l) i 0 + length (get_or l i [])
unfolding starts_from
start_step at [] i b = absurd (omega arith)
start_step at (x ∷ l) zero b = start_first (at + length x) l
start_step at (x ∷ l) (suc i) b = start_step (at + length x) l i (omega arith)

-- no start is past the end
pub start_most : (at : ℕ) (l : List Bytes) (i : ℕ) → i < length (starts_from at l) → get_or (starts_from at l) i 0 ≤ at + length (joined l)
unfolding starts_from flat_map
start_most at [] zero b = omega arith
start_most at [] (suc i) b = absurd (omega arith)
start_most at (x ∷ l) zero b = omega arith
start_most at (x ∷ l) (suc i) b = omega (arith, start_most (at + length x) l i (omega arith), length-append x (joined l))

-- The list that begins at a start.
piece_behind : (p : Bytes) (l : List Bytes) (i : ℕ) → i < length l → part (p ++ joined l) (get_or (starts_from (length p) l) i 0) (length (get_or l i [])) ≡ get_or l i []
unfolding starts_from flat_map
piece_behind p [] i b = absurd (omega arith)
piece_behind p (x ∷ l) zero b = ap (take (length x)) (drop-append_seam p (x ++ joined l)) ∙ take-append_seam x (joined l)
piece_behind p (x ∷ l) (suc i) b = rw (← append_assoc p x (joined l), ← length-append p x) (piece_behind (p ++ x) l i (omega arith))

module _ (l : List Bytes) (i : ℕ) (b : i < length l) where
  pub piece : part (joined l) (get_or (starts_from 0 l) i 0) (length (get_or l i [])) ≡ get_or l i []
  piece = piece_behind [] l i b

  -- where other bytes stand behind them all
  pub piece_before : (z : Bytes) → part (joined l ++ z) (get_or (starts_from 0 l) i 0) (length (get_or l i [])) ≡ get_or l i []
  piece_before z =
      part_before (joined l) z (get_or (starts_from 0 l) i 0) (length (get_or l i []))
      (omega (arith, start_step 0 l i b, start_most 0 l (suc i) (omega (arith, length_starts 0 l))))
      ∙ piece

-- A function that gives the starts of some lists: its last value, its steps, and the lists by its values.
module _ (s : ℕ → ℕ) (l : List Bytes) (e : (i : ℕ) → i < suc (length l) → s i ≡ get_or (starts_from 0 l) i 0) where
  pub table_last : s (length l) ≡ length (joined l)
  table_last = e (length l) (omega arith) ∙ start_last 0 l ∙ zero-add (length (joined l))

  module _ (i : ℕ) (b : i < length l) where
    pub table_step : s (suc i) ≡ s i + length (get_or l i [])
    table_step = e (suc i) (omega arith) ∙ start_step 0 l i b ∙ rw (e i (omega arith))

    pub table_most : s (suc i) ≤ length (joined l)
    table_most = omega (arith, e (suc i) (omega arith), start_most 0 l (suc i) (omega (arith, length_starts 0 l)))

    pub table_piece : part (joined l) (s i) (s (suc i) - s i) ≡ get_or l i []
    table_piece = let len : s (suc i) - s i ≡ length (get_or l i []) = omega (arith, table_step) in rw (len, e i (omega arith)) (piece l i b)

    pub table_piece_at : (j : ℕ) → j < s (suc i) - s i → get_or (get_or l i []) j 0 ≡ get_or (joined l) (s i + j) 0
    table_piece_at j c = ap (λ (r : Bytes). get_or r j 0) (sym table_piece) ∙ get_d_part (joined l) (s i) (s (suc i) - s i) j c

  pub table_rises : (n most : ℕ) → length l ≡ n → length (joined l) ≤ most → Rises s n most
  table_rises n most k b =
      record {
        first = e 0 (omega arith) ∙ start_first 0 l;
        up = λ i c. omega (arith, table_step i (omega arith));
        last = rw (← k) (omega (arith, table_last));
      }

-- A table that begins at 0 and does not fall is that of the pieces between its entries, and they joined are all up to its last.
module _ (s : ℕ → ℕ) (first : s 0 ≡ 0) where
  pub starts_tabulate : (n : ℕ) (p : ℕ → Bytes) → ((i : ℕ) → i < n → s (suc i) ≡ s i + length (p i)) → starts_from 0 (tabulate n p) ≡ tabulate (suc n) s
  starts_tabulate n p e =
      is_tabulate (suc n) s 0 (starts_from 0 (tabulate n p)) (length_starts 0 (tabulate n p) ∙ ap suc (length_tabulate n p)) go
    where
      go : (i : ℕ) → i < suc n → get_or (starts_from 0 (tabulate n p)) i 0 ≡ s i
      go zero b = start_first 0 (tabulate n p) ∙ sym first
      go (suc i) b =
          let k : i < n = omega arith in
          start_step 0 (tabulate n p) i (omega (arith, length_tabulate n p)) ∙ rw (get_d_tabulate n p [] i k, go i (omega arith)) (sym (e i k))

  -- whatever is cut into pieces there
  pub pieces_joined : (cut : ℕ → ℕ → Bytes) → ((a n m : ℕ) → cut a (n + m) ≡ cut a n ++ cut (a + n) m) → cut 0 0 ≡ [] → (n : ℕ) → ((i : ℕ) → i < n → s i ≤ s (suc i)) → joined (tabulate n (λ i. cut (s i) (s (suc i) - s i))) ≡ cut 0 (s n)
  unfolding tabulate flat_map
  pieces_joined cut more none zero up = sym (ap (cut 0) first ∙ none)
  pieces_joined cut more none (suc n) up =
      let step : s n ≤ s (suc n) = up n (le_refl _) in
      let sum : s (suc n) ≡ s n + (s (suc n) - s n) = omega arith in
      let here : cut (s n) (s (suc n) - s n) ≡ cut (0 + s n) (s (suc n) - s n) = rw zero-add in
      flat_more (λ t. t) n (λ i. cut (s i) (s (suc i) - s i))
      ∙ both (pieces_joined cut more none n (λ i b. up i (omega arith))) here
      ∙ sym (ap (cut 0) sum ∙ more 0 (s n) (s (suc n) - s n))
