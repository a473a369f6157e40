-- The marks of a run: as bytes, and how many there are.
use Prim.Native.Nat.{ℕ, zero, suc, ◌+◌, ◌≤◌, ◌<◌}
use mathlib.Core.Path.{◌≡◌, refl, sym, ap, ◌∙◌}
use mathlib.Core.Bool.{Bool, true, false, ◌&&◌}
use mathlib.Core.List.{List, [], ◌∷◌, ◌++◌, map, append_assoc}
use native.Mathlib.Nat.{add-zero}
use native.Mathlib.Numerals.{add-one}
use native.Mathlib.Omega.{arith}
use borrow.Author.Tests.{lt-ltb, le-ltb, leb-true, leb-false}
use lib.Dec.{ltb, leb}
use lib.ListN.{length, get_or, drop, set, length-set, length-map, get_or-map}
use lib.Seq.{set_at, drop-cons}
use mir.Val.{bool_byte}
use Rattle.text.specs.Bytes.{Bytes}
use Rattle.text.specs.Table.{tabulate, bit, count_to}
use Rattle.text.proofs.Tables.{length_tabulate, get_d_tabulate, is_tabulate, count_ext}
use Rattle.pageset.proofs.Laws.{count_tabulate}
use Rattle.language.specs.Core.{Core}
use Rattle.language.specs.Register.{Register}
use Rattle.language.specs.RegisterText.{empty_page}
use Rattle.language.specs.Semantics.{selects}
use Rattle.register_form.specs.Opened.{page_in}
use Rattle.ask_evaluation.specs.Meaning.{Capped, marks_of}
use Rattle.call_answers.specs.Calls.{marked}
use Rattle.call_ask.specs.Running.{MarksWritten}

-- A mark's byte, by the library's word for it.
byte_is : (m : Bool) → bool_byte m ≡ bit m
byte_is true = refl
byte_is false = refl

-- After i bytes: out is the buffer, and b what it was.
pub record Writing (marks : List Bool) (end : ℕ) (b out : Bytes) (i : ℕ) : Type 0 where
  pub below : i ≤ end
  pub size : length out ≡ length b
  pub bytes : out ≡ tabulate i (λ k. bit (get_or marks k false)) ++ drop i b

pub writing_none : (marks : List Bool) (end : ℕ) (b : Bytes) → Writing marks end b b 0
unfolding tabulate
writing_none marks end b = record { below = omega arith; size = refl; bytes = refl }

module _ (marks : List Bool) (end : ℕ) (b out : Bytes) (i : ℕ) (w : Writing marks end b out i) where
  pub writing_more : (m : Bool) (x : ℕ) → end ≤ length b → i < end → m ≡ get_or marks i false → x ≡ bool_byte m → Writing marks end b (set out i x) (i + 1)
  unfolding tabulate
  writing_more m x room l f g =
      let e : x ≡ bit (get_or marks i false) = g ∙ byte_is m ∙ ap bit f in
      record {
        below = omega arith;
        size = length-set out i x ∙ w.size;
        bytes =
            rw (w.bytes, e, drop-cons b i 0 (omega arith), set_at (tabulate i (λ k. bit (get_or marks k false))) (get_or b i 0) (drop (suc i) b) (bit (get_or marks i false)) i (length_tabulate i _), add-one i, append_assoc);
      }

  pub writing_all : (n c : ℕ) → Capped n c → end ≡ c → end ≤ i → MarksWritten marks n b out
  unfolding MarksWritten
  writing_all n c few k l small room =
      let e : i ≡ n = omega (arith, w.below, few.is small) in
      rw e at w.bytes

pub no_room : (marks : List Bool) (n end c : ℕ) (b : Bytes) → Capped n c → end ≡ c → length b < end → MarksWritten marks n b b
unfolding MarksWritten
no_room marks n end c b few k l small room = absurd (omega (arith, few.below))

-- how many are marked
marked_more : (l : List Bool) (m : Bool) → marked (l ++ (m ∷ [])) ≡ marked l + bit m
unfolding marked
marked_more [] m = omega arith
marked_more (a ∷ l) m = omega (arith, marked_more l m)

marked_tabulate : (n : ℕ) (f : ℕ → Bool) → marked (tabulate n f) ≡ count_to n f
unfolding marked tabulate count_to
marked_tabulate zero f = refl
marked_tabulate (suc n) f = marked_more (tabulate n f) (f n) ∙ rw (marked_tabulate n f)

count_below : (m n : ℕ) (f : ℕ → Bool) → n ≤ m → count_to m (λ i. ltb i n && f i) ≡ count_to n f
unfolding count_to
count_below zero n f l =
    let e : n ≡ 0 = omega arith in
    rw e
count_below (suc m) n f l = go (leb n m) refl (count_below m n f)
  where
    go : (b : Bool) → leb n m ≡ b → (n ≤ m → count_to m (λ i. ltb i n && f i) ≡ count_to n f) → count_to (suc m) (λ i. ltb i n && f i) ≡ count_to n f
    go true e ih = rw (le-ltb m n (leb-true n m e), ih (leb-true n m e), add-zero)
    go false e ih =
        let w : n ≡ suc m = omega (arith, leb-false n m e) in
        rw w (count_ext (suc m) _ f (λ i h. rw (lt-ltb i (suc m) h)))

-- the marks of a core query
module _ (R : Register) (q : Core) (n : ℕ) (all : n ≡ length R.pages) (few : n ≤ 256) (marks : List Bool) (are : marks ≡ marks_of R n q) where
  pub marks_bytes : tabulate n (λ i. bit (get_or marks i false)) ≡ map bit (map (selects q R) R.pages)
  unfolding marks_of page_in
  marks_bytes =
      sym (is_tabulate n _ (bit (selects q R (empty_page [] []))) _ (length-map (map (selects q R) R.pages) bit ∙ length-map R.pages (selects q R) ∙ sym all) (λ i h. at i h))
    where
      at : (i : ℕ) → i < n → get_or (map bit (map (selects q R) R.pages)) i (bit (selects q R (empty_page [] []))) ≡ bit (get_or marks i false)
      at i h =
          let w : get_or marks i false ≡ selects q R (get_or R.pages i (empty_page [] [])) = rw (are, get_d_tabulate 256 (λ i. ltb i n && selects q R (page_in R i)) false i (omega arith), lt-ltb i n h) in
          get_or-map bit (map (selects q R) R.pages) i (selects q R (empty_page [] []))
          ∙ ap bit (get_or-map (selects q R) R.pages i (empty_page [] []) ∙ sym w)

  pub marks_count : count_to 256 (λ i. get_or marks i false) ≡ marked (map (selects q R) R.pages)
  unfolding marks_of page_in
  marks_count =
      count_tabulate 256 (λ i. ltb i n && selects q R (page_in R i)) marks are
      ∙ count_below 256 n (λ i. selects q R (page_in R i)) few
      ∙ sym (marked_tabulate n (λ i. selects q R (page_in R i)))
      ∙ ap marked (sym (is_tabulate n _ (selects q R (empty_page [] [])) _ (length-map R.pages (selects q R) ∙ sym all) (λ i h. get_or-map (selects q R) R.pages i (empty_page [] []))))
