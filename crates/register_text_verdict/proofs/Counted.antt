-- Sorting leaves fewer exactly where two are alike.
use Prim.Native.Nat.{ℕ, zero, suc, ◌≤◌}
use mathlib.Core.Path.{◌≡◌, refl, sym, ap, ap₂, ◌∙◌}
use mathlib.Core.Bool.{Bool, true, false, ◌||◌, true≢false, or_comm, or-true, or-false}
use mathlib.Core.List.{List, [], ◌∷◌}
use native.Mathlib.Omega.{arith}
use borrow.Author.Tests.{lt-ltb, ltb-true}
use lib.Dec.{ltb}
use lib.ListN.{length, get_or}
use Rattle.text.specs.Bytes.{Bytes, order_of}
use Rattle.text.specs.Table.{tabulate}
use Rattle.std.specs.declared.cmp.Ordering.{Ordering}
use Rattle.std.specs.declared.cmp.Ordering.TheVariants.{Less, Equal, Greater}
use Rattle.sorting.specs.Ascending.{is_equal, Total, placed, member, insert_sorted, sorted}
use Rattle.sorting.specs.Listing.{Built}
use Rattle.sorting.proofs.Canonical.{same_truth, insert_there, sorted_ascends, sorted_snoc, member_sorted, member_snoc}
use Rattle.sorting.proofs.Listings.{length_listed}
use Rattle.sorting.proofs.Orders.{bytes_total}
use Rattle.dictionary.specs.Items.{text_at}
use Rattle.register_text_entries.specs.Table.{entry_at}
use Rattle.register_text_verdict.specs.Rows.{any_to, twice_to}
use Rattle.register_text_verdict.specs.Checks.{twice_in}
use Rattle.register_text_verdict.specs.Names.{Names}
use Rattle.register_text_verdict.proofs.Rows.{twice_to_ext}
use Rattle.register_text_verdict.proofs.Naming.{alike_text}

module _ {A : Type 0} (o : A → A → Ordering) (w : Total o) where
  insert_length : (x : A) (l : List A) → member o x l ≡ false → length (insert_sorted o x l) ≡ suc (length l)
  unfolding member insert_sorted
  insert_length x [] h = refl
  insert_length x (y ∷ l) h = go (o x y) refl h (insert_length x l)
    where
      go : (r : Ordering) → o x y ≡ r → (is_equal (o x y) || member o x l) ≡ false → (member o x l ≡ false → length (insert_sorted o x l) ≡ suc (length l)) → length (placed (o x y) x y l (insert_sorted o x l)) ≡ suc (suc (length l))
      go Less e k ih = rw e
      go Equal e k ih = absurd (true≢false (rw e at k))
      go Greater e k ih = rw e (ap suc (ih (rw e at k)))

  module _ (f : ℕ → A) where
    member_any : (n : ℕ) (z : A) → member o z (tabulate n f) ≡ any_to n (λ i. is_equal (o z (f i)))
    unfolding tabulate member any_to
    member_any zero z = refl
    member_any (suc n) z = member_snoc o w z (tabulate n f) (f n) ∙ rw (member_any n z) (or_comm (is_equal (o z (f n))) (any_to n (λ i. is_equal (o z (f i)))))

    -- How many remain of the first n, and whether two of them are alike.
    fewer : (n : ℕ) → (length (sorted o (tabulate n f)) ≤ n) × (ltb (length (sorted o (tabulate n f))) n ≡ twice_to n (λ a b. is_equal (o (f b) (f a))))
    unfolding tabulate sorted twice_to
    fewer zero = (omega arith, refl)
    fewer (suc n) = go (member o (f n) (sorted o (tabulate n f))) refl (fewer n)
      where
        k : ℕ
        k = length (sorted o (tabulate n f))

        found : member o (f n) (sorted o (tabulate n f)) ≡ any_to n (λ i. is_equal (o (f n) (f i)))
        found = member_sorted o w (f n) (tabulate n f) ∙ member_any n (f n)

        next : length (sorted o (tabulate (suc n) f)) ≡ length (insert_sorted o (f n) (sorted o (tabulate n f)))
        next = ap length (sorted_snoc o w (tabulate n f) (f n))

        step : (a b : ℕ) → ltb (suc a) (suc b) ≡ ltb a b
        step a b = same_truth (ltb (suc a) (suc b)) (ltb a b) (λ h. lt-ltb a b (omega (arith, ltb-true (suc a) (suc b) h))) (λ h. lt-ltb (suc a) (suc b) (omega (arith, ltb-true a b h)))

        go : (b : Bool) → member o (f n) (sorted o (tabulate n f)) ≡ b → (k ≤ n) × (ltb k n ≡ twice_to n (λ a b. is_equal (o (f b) (f a))))
            → (length (sorted o (tabulate (suc n) f)) ≤ suc n) × (ltb (length (sorted o (tabulate (suc n) f))) (suc n) ≡ twice_to n (λ a b. is_equal (o (f b) (f a))) || any_to n (λ i. is_equal (o (f n) (f i))))
        go true e ih =
            let same : length (sorted o (tabulate (suc n) f)) ≡ k = next ∙ ap length (insert_there o w (f n) (sorted o (tabulate n f)) (sorted_ascends o w (tabulate n f)) e) in
            let most = ih.0 in
            (omega arith, rw (← found, e, same) (lt-ltb k (suc n) (omega arith) ∙ sym (or-true (twice_to n (λ a b. is_equal (o (f b) (f a)))))))
        go false e ih =
            let more : length (sorted o (tabulate (suc n) f)) ≡ suc k = next ∙ insert_length (f n) (sorted o (tabulate n f)) e in
            let most = ih.0 in
            (omega arith, rw (← found, e, more) (step k n ∙ ih.1 ∙ sym (or-false (twice_to n (λ a b. is_equal (o (f b) (f a)))))))

-- Two of the first m of a list of rows are alike where sorting what they declare leaves fewer than m.
pub twice_sorted : (s : Bytes) (t rows : List ℕ) (m : ℕ) (starts lens l rs refs reps : List ℕ) (n : ℕ) → Names s t rows m starts lens → Built order_of (text_at s starts lens) l rs m m refs n reps
    → m ≤ length l → m ≤ length rs → ltb n m ≡ twice_in s t rows m
twice_sorted s t rows m starts lens l rs refs reps n a b p q =
    ap (λ k. ltb k m) (sym (length_listed text refs n) ∙ ap length (b.good p q).is)
    ∙ (fewer order_of bytes_total text m).1
    ∙ twice_to_ext m _ _ (λ i j c d. ap₂ (λ x y. is_equal (order_of x y)) (a.is j d) (a.is i c) ∙ sym (alike_text (entry_at s t (get_or rows i 0)) (entry_at s t (get_or rows j 0)) (a.plain i c) (a.plain j d)))
  where
    text : ℕ → Bytes
    text = text_at s starts lens
