-- What the functions answer, by what they called.
use Prim.Native.Nat.{ℕ, ◌+◌, ◌-◌, ◌%◌, ◌≤◌, ◌<◌}
use mathlib.Core.Path.{◌≡◌, refl, sym, ap, ap₂, ◌∙◌}
use mathlib.Core.Bool.{Bool, true, false}
use mathlib.Core.List.{List, append_assoc}
use native.Mathlib.Nat.{mod-eq_of_lt}
use native.Mathlib.Omega.{arith}
use borrow.Rule.Slice.PartMut.{put_mid}
use Rattle.std.proofs.Math.Nat.{min-eq_left}
use Rattle.buffer.specs.Writing.{written}
use Rattle.buffer.proofs.Written.{length_written}
use Rattle.buffer.proofs.Copied.{placed}
use Rattle.register_join_merge.proofs.Stored.{pasted_is}
use lib.ListN.{length, set, take, drop}
use lib.Seq.{sets-eq, take-length}
use borrow.Author.Tests.{le-leb, lt-leb}
use Rattle.text.specs.Bytes.{Bytes, order_of}
use Rattle.std.specs.declared.cmp.Ordering.{Ordering}
use Rattle.std.specs.declared.cmp.Ordering.TheVariants.{Less, Equal, Greater}
use Rattle.register_form.specs.Form.{text_count, text_at}
use Rattle.register_join_merge.specs.declared.Heap.{Heap}
use Rattle.register_join_merge.specs.Merging.{next_order, next_text, Pasted, Added, Noted, SameSlices}

module _ (h g : Bytes) (i j : ℕ) where
  pub order_first : (m : ℕ) → m ≡ text_count g → m ≤ j → Less ≡ next_order h g i j
  unfolding next_order
  order_first m e b = rw (le-leb (text_count g) j (omega arith))

  pub order_second : (m n : ℕ) → m ≡ text_count g → j < m → n ≡ text_count h → n ≤ i → Greater ≡ next_order h g i j
  unfolding next_order
  order_second m n e b f c = rw (lt-leb (text_count g) j (omega arith), le-leb (text_count h) i (omega arith))

  pub order_both : (m n : ℕ) (a b : Bytes) (r : Ordering) → m ≡ text_count g → j < m → n ≡ text_count h → i < n → a ≡ text_at h i → b ≡ text_at g j → r ≡ order_of a b → r ≡ next_order h g i j
  unfolding next_order
  order_both m n a b r e k f l s t q = q ∙ ap₂ order_of s t ∙ sym (rw (lt-leb (text_count g) j (omega arith), lt-leb (text_count h) i (omega arith)))

pub text_less : (o : Ordering) (a b c : Bytes) → o ≡ Less → c ≡ a → c ≡ next_text o a b
text_less o a b c e f = rw e f

pub text_equal : (o : Ordering) (a b c : Bytes) → o ≡ Equal → c ≡ a → c ≡ next_text o a b
text_equal o a b c e f = rw e f

pub text_greater : (o : Ordering) (a b c : Bytes) → o ≡ Greater → c ≡ b → c ≡ next_text o a b
text_greater o a b c e f = rw e f

-- Copying: where there is no room, and where there is.
pub pasted_past : (d t : Bytes) (at : ℕ) → length d < at → Pasted d at t d at
pasted_past d t at b = record { size = refl; end = λ l. absurd (omega arith); is = λ l. absurd (omega arith) }

pub pasted_full : (d t : Bytes) (at : ℕ) → at ≤ length d → length d - at < length t → Pasted d at t d at
pasted_full d t at a b = record { size = refl; end = λ l. absurd (omega arith); is = λ l. absurd (omega arith) }

pub pasted : (d t x : Bytes) (at k : ℕ) → at ≤ length d → length t ≤ length d - at → x ≡ t → k ≡ length t → Pasted d at t (put_mid at k d x) (at + length t)
unfolding written
pasted d t x at k a b f g =
    let room : at + length t ≤ length d = omega arith in
    let w : put_mid at k d x ≡ written d at t = placed d t at (length t) a (sym (min-eq_left b)) x k (f ∙ sym (take-length t)) g in
    record {
      size = ap length w ∙ length_written d at t;
      end = λ l. refl;
      is = λ l. w ∙ sets-eq t d at room ∙ append_assoc (take at d) t (drop (at + length t) d) ∙ sym (pasted_is d t at room);
    }

pub added_is : (heap : Bytes) (starts lens : List ℕ) (k end : ℕ) (t u : Bytes) (ss ls : List ℕ) (w x v b r : ℕ) → w ≡ k → x ≡ end % 4294967296 → ss ≡ set starts w x → v ≡ k → b ≡ length t % 65536 → ls ≡ set lens v b → Pasted heap end t u r → Added heap starts lens k end t u ss ls r
added_is heap starts lens k end t u ss ls w x v b r e d f g c m p =
    record { pasted = p; starts_are = f ∙ ap₂ (λ (y z : ℕ). set starts y z) e d; lens_are = m ∙ ap₂ (λ (x y : ℕ). set lens x y) g c }

pub note_taken : (l u : List ℕ) (i k w r : ℕ) (taken : Bool) → taken ≡ true → w ≡ i → u ≡ set l w k → r ≡ (i + 1) % 65536 → Noted l i k taken u r
note_taken l u i k w r taken t e f g = rw t (record { is = f ∙ ap (λ (x : ℕ). set l x k) e; next = λ b. g ∙ mod-eq_of_lt b })

pub note_left : (l : List ℕ) (i k : ℕ) (taken : Bool) → taken ≡ false → Noted l i k taken l i
note_left l i k taken t = rw t (record { is = refl; next = λ b. omega arith })

-- The slices that are lent stay the same from step to step.
pub same_start : (a : Heap) → SameSlices a a
same_start a = record { bytes = refl; starts = refl; lens = refl }

pub same_more : (a b c : Heap) → SameSlices a b → SameSlices b c → SameSlices a c
same_more a b c s t = record { bytes = t.bytes ∙ s.bytes; starts = t.starts ∙ s.starts; lens = t.lens ∙ s.lens }

pub ruleset merging = (order_first, order_second, order_both, text_less, text_equal, text_greater, added_is, note_taken, note_left)
