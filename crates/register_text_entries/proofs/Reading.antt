-- The loop over the entries of a text: what holds at its start, after an entry, where one is broken, and at its end.
use Rattle.std.specs.Prelude.{Option, Some, None}
use Prim.Native.Nat.{ℕ, ◌+◌, ◌-◌, ◌*◌, ◌≤◌, ◌<◌}
use mathlib.Core.Path.{◌≡◌, refl, sym, ap, ◌∙◌}
use mathlib.Core.Bool.{Bool, true, false, ◌||◌, true≢false}
use mathlib.Core.List.{List, [], ◌∷◌, ◌++◌, append-nil}
use native.Mathlib.Omega.{arith}
use lib.Dec.{ltb}
use lib.ListN.{length, drop, length-drop, length-append, drop_of_length-le}
use lib.Seq.{drop-cons, append_snoc}
use borrow.Author.Tests.{ltb-true, ltb-false}
use Rattle.text.specs.Bytes.{Bytes}
use Rattle.text.specs.Parts.{Within}
use Rattle.text.specs.Table.{tabulate}
use Rattle.values.specs.Values.{map_option}
use Rattle.language.specs.Answer.{◌>>=◌}
use Rattle.language.specs.RegisterText.{Entry, line, next_entry, entries_from, entries}
use Rattle.language.proofs.Options.{OnSome}
use Rattle.language.proofs.Entries.{owed, Six, six_next, entries_end, entries_line, entries_inner, with_rest}
use Rattle.register_text_entries.specs.declared.Item.{Item}
use Rattle.register_text_entries.specs.Items.{place_of, entry_in, ReadsEntry}
use Rattle.register_text_entries.specs.Table.{entries_in, with_row, rows_of, HoldsEntries, Filled}
use Rattle.register_text_entries.proofs.Cells.{row_size, rows_more}
use Rattle.register_text_entries.proofs.Counting.{Few, few}

-- After n entries: those read so far, before what the rest reads, are the whole; and the table holds them.
pub record Going (s : Bytes) (t u : List ℕ) (at n : ℕ) (inside : Bool) : Type 0 where
  pub past : List Entry
  pub ahead : map_option (λ l. past ++ l) (entries_from (place_of inside) (drop at s)) ≡ entries s
  pub count : length past ≡ n
  pub held : length s ≤ 65535 → 5 * n ≤ length u → entries_in s u n ≡ past
  pub size : length u ≡ length t
  pub left : 6 * n + (length s - at) + owed (place_of inside) ≤ length s

map_all : {A : Type 0} (o : Option (List A)) → map_option (λ l. [] ++ l) o ≡ o
map_all None = refl
map_all (Some l) = refl

map_more : {A : Type 0} (past : List A) (a : A) (o : Option (List A)) → map_option (λ l. (past ++ (a ∷ [])) ++ l) o ≡ map_option (λ l. past ++ l) (o >>= λ l. Some (a ∷ l))
map_more past a None = refl
map_more past a (Some l) = ap Some (append_snoc past a l)

pub going_start : (s : Bytes) (t : List ℕ) → Going s t t 0 0 false
unfolding entries_in tabulate
going_start s t =
    record { past = []; ahead = map_all (entries s); count = refl; held = λ h k. refl; size = refl; left = omega arith }

module _ (s : Bytes) (t u : List ℕ) (at n : ℕ) (inside : Bool) (g : Going s t u at n inside) where
  module _ (more : (inside || ltb at (length s)) ≡ true) (r : Option Item) (k : ReadsEntry s (next_entry (place_of inside) (drop at s)) r) where
    step : entries_from (place_of inside) (drop at s) ≡ (next_entry (place_of inside) (drop at s) >>= with_rest entries_from)
    step = go inside more
      where
        go : (b : Bool) → (b || ltb at (length s)) ≡ true → entries_from (place_of b) (drop at s) ≡ (next_entry (place_of b) (drop at s) >>= with_rest entries_from)
        go true h = entries_inner (drop at s)
        go false h = rw (drop-cons s at 0 (ltb-true at (length s) h)) (entries_line _ _)

    pub going_broken : r ≡ None → Filled s t u None
    going_broken h =
        let e : next_entry (place_of inside) (drop at s) ≡ None = sym k.is ∙ rw h in
        let o : None ≡ entries s = rw (step, e) at g.ahead in
        record { is = ap rows_of o; rows = rw (← o) tt; size = g.size }

    module _ (x : Item) (h : r ≡ Some x) where
      next_is : next_entry (place_of inside) (drop at s) ≡ Some (record { entry = entry_in s x; place = place_of x.inner; rest = drop x.next s })
      next_is = sym k.is ∙ rw h

      lies : Within s x.first × Within s x.second
      lies = rw h at k.within

      six : Six (place_of inside) (drop at s) (record { entry = entry_in s x; place = place_of x.inner; rest = drop x.next s })
      six = rw next_is at (six_next (drop at s) (place_of inside))

      pub going_less : length s - x.next < length s - at
      going_less = omega (arith, six.shorter, length-drop x.next s, length-drop at s)

      pub going_on : (v : List ℕ) → v ≡ with_row u n x → Going s t v x.next (n + 1) x.inner
      going_on v e =
          let z : length v ≡ length u = rw e (row_size u n x) in
          record {
            past = g.past ++ (entry_in s x ∷ []);
            ahead = map_more g.past (entry_in s x) (entries_from (place_of x.inner) (drop x.next s)) ∙ (rw (step, next_is) at g.ahead);
            count = length-append g.past (entry_in s x ∷ []) ∙ rw g.count;
            held = λ short room. rw e (rows_more u n x s (omega arith) short lies.0 lies.1 ∙ ap (λ l. l ++ (entry_in s x ∷ [])) (g.held short (omega arith)));
            size = z ∙ g.size;
            left = omega (arith, six.spent, length-drop x.next s, length-drop at s, g.left);
          }

  pub going_end : (inside || ltb at (length s)) ≡ false → Filled s t u (Some n)
  going_end h = go inside refl h
    where
      go : (b : Bool) → inside ≡ b → (b || ltb at (length s)) ≡ false → Filled s t u (Some n)
      go true e h = absurd (true≢false h)
      go false e h =
          let d : drop at s ≡ [] = drop_of_length-le s (ltb-false at (length s) h) in
          let o : Some (g.past ++ []) ≡ entries s = rw (e, d, entries_end) at g.ahead in
          let o' : Some g.past ≡ entries s = rw append-nil at o in
          record {
            is = rw (← g.count) (ap rows_of o');
            rows = rw (← o') (λ short room. rw g.count (g.held short (omega (arith, g.count))));
            size = g.size;
          }

pub ruleset goings = (going_broken, going_less, going_on, going_end)

-- What the answer tells, of a text within its limit and a table of 5,500 rows.
module _ (s : Bytes) (t u : List ℕ) (r : Option ℕ) (f : Filled s t u r) where
  pub filled_none : r ≡ None → entries s ≡ None
  filled_none e = go (entries s) (sym e ∙ f.is)
    where
      go : (o : Option (List Entry)) → None ≡ rows_of o → o ≡ None
      go None h = refl
      go (Some l) h = cc

  module _ (n : ℕ) (e : r ≡ Some n) (short : length s ≤ 32768) where
    whole : (o : Option (List Entry)) → Some n ≡ rows_of o → HoldsEntries s u o → OnSome (Few line s) o → (n ≤ 5500) × (27500 ≤ length t → o ≡ Some (entries_in s u n))
    whole None h k m = cc
    whole (Some l) h k m =
        let c : n ≡ length l = cc in
        (omega arith, λ room. rw c (ap Some (sym (k (omega arith) (omega (arith, f.size))))))

    pub filled_few : n ≤ 5500
    filled_few = (whole (entries s) (sym e ∙ f.is) f.rows (few line s)).0

    pub filled_some : 27500 ≤ length t → entries s ≡ Some (entries_in s u n)
    filled_some = (whole (entries s) (sym e ∙ f.is) f.rows (few line s)).1
