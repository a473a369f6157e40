-- The texts of a held register: they ascend, and lie one behind the other.
use Prim.Native.Nat.{ℕ, zero, suc, ◌+◌, ◌≤◌, ◌<◌}
use mathlib.Core.Path.{◌≡◌, refl, sym, ap, ap₂, ◌∙◌}
use mathlib.Core.Bool.{Bool, true, false, false≢true}
use mathlib.Core.List.{List, [], ◌∷◌, append_assoc}
use native.Mathlib.Omega.{arith}
use native.Mathlib.Numerals.{add-one}
use lib.ListN.{length, get_or}
use Rattle.text.specs.Bytes.{Bytes, order_of}
use Rattle.text.specs.Table.{tabulate, bit}
use Rattle.text.proofs.Tables.{length_tabulate, get_d_tabulate}
use Rattle.std.specs.declared.cmp.Ordering.{Ordering}
use Rattle.std.specs.declared.cmp.Ordering.TheVariants.{Less, Equal, Greater}
use Rattle.language.proofs.Members.{and_true, both_true}
use Rattle.sorting.specs.Ascending.{is_less, Total, below, ascends}
use Rattle.sorting.proofs.Canonical.{ascends_snoc}
use Rattle.register_form.specs.Form.{text_count, text_start, text_at, dictionary_in}
use Rattle.register_form.proofs.Laying.{Laid, laid_facts, rises_to, text_length_lem as text-ends}
use Rattle.register_form.proofs.Described.{canon}
use Rattle.register_form.specs.Formed.{Formed}

is_less_lem : (r : Ordering) → is_less r ≡ true → r ≡ Less
is_less_lem Less h = refl
is_less_lem Equal h = absurd (false≢true h)
is_less_lem Greater h = absurd (false≢true h)

module _ {A : Type 0} (o : A → A → Ordering) where
  -- In an ascending list each is less than the next.
  ascends_step : (l : List A) (d : A) (x : ℕ) → ascends o l ≡ true → suc x < length l → o (get_or l x d) (get_or l (suc x) d) ≡ Less
  unfolding ascends below
  ascends_step [] d x h b = absurd (omega arith)
  ascends_step (a ∷ []) d x h b = absurd (omega arith)
  ascends_step (a ∷ c ∷ l) d zero h b = is_less_lem (o a c) (and_true (is_less (o a c)) (ascends o (c ∷ l)) h).0
  ascends_step (a ∷ c ∷ l) d (suc x) h b = ascends_step (c ∷ l) d x (and_true (is_less (o a c)) (ascends o (c ∷ l)) h).1 (omega arith)

  -- A table ascends where each is less than the next.
  pub ascends_table : Total o → (k : ℕ) (f : ℕ → A) → ((a b : ℕ) → a < b → b < k → o (f a) (f b) ≡ Less) → ascends o (tabulate k f) ≡ true
  unfolding tabulate ascends below
  ascends_table t zero f h = refl
  ascends_table t (suc zero) f h = refl
  ascends_table t (suc (suc k)) f h =
      ap (ascends o) (append_assoc (tabulate k f) (f k ∷ []) (f (suc k) ∷ []))
      ∙ ascends_snoc o t (tabulate k f) (f k) (f (suc k))
      ∙ both_true (ascends_table t (suc k) f (λ a b l m. h a b l (omega arith))) (ap is_less (h k (suc k) (omega arith) (omega arith)))

module _ (h : Bytes) (f : Formed h) where
  laid : Laid h
  laid = laid_facts h f.laid

  pub texts_few : text_count h ≤ 2368
  texts_few = laid.counted.texts

  pub texts_up : (x : ℕ) → suc x < text_count h → order_of (text_at h x) (text_at h (suc x)) ≡ Less
  unfolding dictionary_in
  texts_up x b =
      sym (ap₂ order_of (get_d_tabulate (text_count h) (text_at h) [] x (omega arith)) (get_d_tabulate (text_count h) (text_at h) [] (suc x) b))
      ∙ ascends_step order_of (tabulate (text_count h) (text_at h)) [] x (canon (dictionary_in h) f.canonical).up (rw length_tabulate b)

  pub start_most : (i : ℕ) → i ≤ text_count h → text_start h i ≤ 35136
  start_most i b = omega (arith, rises_to (text_start h) (text_count h) laid.texts.up i b, laid.texts.last)

  -- The start behind a text.
  pub text_length_lem : (i : ℕ) → i < text_count h → text_start h (i + 1) ≡ text_start h i + length (text_at h i)
  text_length_lem i b =
      let step = laid.texts.up i b in
      rw add-one (omega (arith, text-ends h laid i b))

  -- The next start does not lie before this one.
  pub start_next : (i p : ℕ) (t : Bool) → (t ≡ true → i < text_count h) → p ≡ i + bit t → text_start h i ≤ text_start h p
  start_next i p true b e = rw e (let z = text_length_lem i (b refl) in omega arith)
  start_next i p false b e = let z : p ≡ i = omega arith in rw z (omega arith)
