-- The second and the third demand, from the calls' contracts, and that reading then fitting is the query call. Registers and queries
-- are held in any buffers, however they were made.
use Rattle.std.specs.Prelude.{Option, Some, None}
use Prim.Native.Nat.{ℕ, ◌≤◌, ◌<◌}
use mathlib.Core.Path.{◌≡◌, refl, ap, ◌∙◌}
use mathlib.Core.Bool.{Bool, true, false, cond, false≢true}
use mathlib.Core.List.{List, [], ◌++◌, map}
use mathlib.Core.Logic.{◌↔◌}
use native.Mathlib.Omega.{arith}
use borrow.Author.Tests.{le-ltb}
use lib.Dec.{ltb}
use lib.IntN.{ℤ, pos}
use lib.ListN.{length, get_or, drop, length-map, length-append, length-drop, get_or-append}
use lib.Seq.{drop_at}
use Rattle.text.specs.Bytes.{Bytes}
use Rattle.text.specs.Table.{bit}
use Rattle.language.specs.Answer.{Answer, refused, accepted, accepted_of, or_refuse, and_then}
use Rattle.language.specs.Register.{Page, Register, kinds_of}
use Rattle.language.specs.RegisterText.{empty_page}
use Rattle.language.specs.Joining.{join}
use Rattle.language.specs.Surface.{Query}
use Rattle.language.specs.QueryText.{read_text}
use Rattle.language.specs.Core.{Core}
use Rattle.language.specs.Elaboration.{elaborate, fit}
use Rattle.language.specs.Semantics.{selects, run}
use Rattle.language.specs.Direct.{meaning, direct_marks}
use Rattle.language.specs.Agreement.{answer_agrees, text_agrees}
use Rattle.language.specs.Calls.{core_of}
use Rattle.language.proofs.Demand.{fitted_is, own_kinds, text_agreement}
use Rattle.language.proofs.Mixing.{mixed_free}
use Rattle.language.proofs.Members.{get_d_mapped}
use Rattle.language.proofs.Sets.{page_set_lem, page_set_known}
use Rattle.language.proofs.Rules.{register_rules}
use Rattle.register_form.specs.Form.{held_register}
use Rattle.register_form.proofs.Lists.{mem_at, mem_place}
use Rattle.register_form.proofs.Forms.{held_is}
use Rattle.query_tree_spelling.proofs.Some.{accepted_has_text}
use Rattle.query_tree.specs.Form.{tree_size, tree_of, held_tree}
use Rattle.query_tree.proofs.Held.{form_held as tree-held}
use Rattle.query_core.specs.Held.{query_size, held_query}
use Rattle.query_core.specs.Form.{query_of}
use Rattle.call_answers.specs.Calls.{written_in, query_call, read_call, fit_call, ask_call, marked, marks_in, returned, JoinCall, QueryCall, AskCall}
use Rattle.call_answers.specs.Demands.{ask_table, IsMark, page_at, SecondDemand, ThirdDemand, ReadThenFit}
use Rattle.call_answers.proofs.Tables.{ask_refuses, ask_rises}
use Rattle.call_answers.proofs.First.{run_is, ran, query_stores, join_stores, taken, by_table, marks_bytes}

-- an ask of a held query on a held register
pub asked_is : (q h b : Bytes) (c : Core) (W : Register) → held_query q ≡ Some c → held_register h ≡ Some W
    → ask_call q h b ≡ and_then (run c W) (λ m. cond (ltb (length b) (length W.pages)) (refused 24) (accepted m))
unfolding ask_call
asked_is q h b c W e p = rw (e, p)

-- an accepted query text has a surface query, which is elaborated
core_is : (s : Bytes) (R : Register) (c : Core) → core_of R s ≡ accepted c → (q : Query) × (accepted_of (read_text s) ≡ Some q) × (elaborate q (kinds_of R) ≡ Some c)
unfolding core_of
core_is s R c e = go (read_text s) e
  where
    go : (a : Answer Query) → and_then a (fit (kinds_of R)) ≡ accepted c → (q : Query) × (accepted_of a ≡ Some q) × (elaborate q (kinds_of R) ≡ Some c)
    go (refused n) e = absurd (let y : ◌≡◌ {A = ℕ} 0 1 = cc in omega arith)
    go (accepted q) e = (q, refl, fitted_is (kinds_of R) q c e)

one_held : {A : Type 0} (o : Option A) (a b : A) → o ≡ Some a → o ≡ Some b → a ≡ b
one_held o a b e p = cc

module _ (g : Page → Bool) (l : List Page) where
  many : length (map bit (map g l)) ≡ length l
  many = length-map (map g l) bit ∙ length-map l g

  -- a mark in front of other bytes
  mark_at : (after rest : Bytes) → after ≡ map bit (map g l) ++ rest → (i : ℕ) → i < length l → get_or after i 0 ≡ bit (g (get_or l i (empty_page [] [])))
  mark_at after rest e i h =
      ap (λ a. get_or a i 0) e
      ∙ get_or-append (map bit (map g l)) rest 0 i (rw many h)
      ∙ get_d_mapped bit (map g l) i false 0 (rw (length-map l g) h)
      ∙ ap bit (get_d_mapped g l i (empty_page [] []) false h)

mark_is : (b : Bool) (fact : Type 0) → (b ≡ true) ↔ fact → IsMark (bit b) fact
mark_is true fact e = record { one = (λ h. e.0 refl, λ x. refl); zero = (λ h. absurd (omega (arith, h)), λ n. absurd (n (e.0 refl))) }
mark_is false fact e =
    record { one = (λ h. absurd (omega (arith, h)), λ x. absurd (false≢true (e.1 x))); zero = (λ h x. false≢true (e.1 x), λ n. refl) }

-- The second demand: a query that was stored for the register R, held in q as well, and asked of the register W.
pub second : (h k s b stored q m after : Bytes) (n : ℕ) (R W : Register)
    → held_register h ≡ Some R → held_register k ≡ Some W → QueryCall h s b stored (pos 0) → held_query q ≡ held_query stored → AskCall q k m after (pos n)
    → SecondDemand s R W m after (pos n)
second h k s b stored q m after n R W e p fits same asks =
    let c = query_stores h s b stored fits in
    let own : c.register ≡ R = one_held (held_register h) c.register R c.holds e in
    let core : core_of R s ≡ accepted c.core = rw (← own) c.fits in
    let f = core_is s R c.core core in
    let x = taken marked (ask_call q k m) n (by_table (ask_table q k m) (ask_call q k m) (ask_rises q k m) (ask_refuses q k m)) asks.number in
    let r = ran q k m x.0 x.1 in
    let one : r.core ≡ c.core = one_held (held_query q) r.core c.core r.asks (same ∙ c.left.held) in
    let two : r.register ≡ W = one_held (held_register k) r.register W r.holds p in
    let runs : run c.core W ≡ accepted x.0 = rw (← one, ← two) r.runs in
    let is = run_is c.core W x.0 runs in
    let bytes = marks_bytes c.core W x.0 m after is.1 (asks.buffer ∙ ap (marks_in m) x.1) in
    record {
      surface = f.0;
      core = c.core;
      reads = f.1;
      elaborates = f.2;
      bytes = bytes;
      count = asks.number ∙ ap (returned marked) x.1 ∙ ap (λ l. pos (marked l)) is.1;
      page = λ i h.
          rw (mark_at (selects c.core W) W.pages after _ bytes i h)
          (mark_is (selects c.core W (page_at W i)) _ (page_set_lem c.core W (held_is k W p).0 (page_at W i) (mem_at W.pages i (empty_page [] []) h)));
      placed = λ j h.
          let q = page_set_known c.core W (held_is k W p).0 j h in
          let i = mem_place (empty_page [] []) q.1 in
          (i.0, i.1, ap (λ p. p.identifier) i.2 ∙ q.2);
      unmixed = is.0;
      free = mixed_free c.core W is.0;
    }

-- marks in a buffer that has a byte for every page
module _ (g : Page → Bool) (l : List Page) (b after : Bytes) (long : length l ≤ length b) (e : after ≡ map bit (map g l) ++ drop (length (map g l)) b) where
  marks_later : drop (length l) after ≡ drop (length l) b
  marks_later = ap (drop (length l)) e ∙ drop_at (map bit (map g l)) (drop (length (map g l)) b) (length l) (many g l) ∙ ap (λ k. drop k b) (length-map l g)

  marks_size : length after ≡ length b
  marks_size =
      ap length e
      ∙ length-append (map bit (map g l)) (drop (length (map g l)) b)
      ∙ (let d = length-drop (length (map g l)) b in omega (arith, d, many g l, long, length-map l g))

-- The third demand. s is a query text accepted against the register R, which is held in h; q holds the query so stored; k holds the
-- register of the run, W. "each property it names has the same kind in both, or isn't declared in the second, and the answer
-- buffer has a byte for every page"
pub third : (s h k stored store q b after : Bytes) (r : ℤ) (R W : Register)
    → held_register h ≡ Some R → held_register k ≡ Some W → QueryCall h s store stored (pos 0) → held_query q ≡ held_query stored
    → text_agrees (kinds_of R) W s ≡ true → length W.pages ≤ length b
    → AskCall q k b after r → ThirdDemand q s W b after r
third s h k stored store q b after r R W e p fits same agrees long asks =
    let c = query_stores h s store stored fits in
    let own : c.register ≡ R = one_held (held_register h) c.register R c.holds e in
    let core : core_of R s ≡ accepted c.core = rw (← own) c.fits in
    let kinds = (register_rules W (held_is k W p).0).kinds in
    let runs : run c.core W ≡ accepted (direct_marks s W) = text_agreement s R c.core W core kinds agrees in
    let room : ltb (length b) (length W.pages) ≡ false = le-ltb (length b) (length W.pages) long in
    let held : held_query q ≡ Some c.core = same ∙ c.left.held in
    let is : ask_call q k b ≡ accepted (direct_marks s W) = asked_is q k b c.core W held p ∙ rw (runs, room) in
    let left : after ≡ map bit (direct_marks s W) ++ drop (length (direct_marks s W)) b = asks.buffer ∙ ap (marks_in b) is in
    let unmixed = (run_is c.core W (direct_marks s W) runs).0 in
    record {
      count = asks.number ∙ ap (returned marked) is;
      page = mark_at (meaning s W) W.pages after _ left;
      later = marks_later (meaning s W) W.pages b after long left;
      size = marks_size (meaning s W) W.pages b after long left;
      core = c.core;
      holds = held;
      unmixed = unmixed;
      free = mixed_free c.core W unmixed;
    }

-- the register that a text was fitted to agrees with itself
own_text : (R : Register) (s : Bytes) → text_agrees (kinds_of R) R s ≡ true
unfolding text_agrees
own_text R s = go (read_text s)
  where
    go : (a : Answer Query) → answer_agrees (kinds_of R) R a ≡ true
    go (refused n) = refl
    go (accepted q) = own_kinds R q

-- The third demand on the register that the text was fitted to: nothing is asked of its kinds.
pub third_own : (s h stored store q b after : Bytes) (r : ℤ) (R : Register)
    → held_register h ≡ Some R → QueryCall h s store stored (pos 0) → held_query q ≡ held_query stored
    → length R.pages ≤ length b → AskCall q h b after r → ThirdDemand q s R b after r
third_own s h stored store q b after r R e fits same long asks =
    third s h h stored store q b after r R R e e fits same (own_text R s) long asks

-- "Marked pages of a query are those of the joined pages": the third demand with a join as the register of the run.
pub third_joined : (s h k l room j stored store q b after : Bytes) (r : ℤ) (R S T : Register)
    → held_register h ≡ Some R → held_register k ≡ Some S → held_register l ≡ Some T → JoinCall k l room j (pos 0)
    → QueryCall h s store stored (pos 0) → held_query q ≡ held_query stored
    → text_agrees (kinds_of R) (join S T) s ≡ true → length (join S T).pages ≤ length b
    → AskCall q j b after r → ThirdDemand q s (join S T) b after r
third_joined s h k l room j stored store q b after r R S T e f g makes fits same agrees long asks =
    let m = join_stores k l room j makes in
    let one : m.first ≡ S = one_held (held_register k) m.first S m.holds_first f in
    let two : m.second ≡ T = one_held (held_register l) m.second T m.holds_second g in
    let held : held_register j ≡ Some (join S T) = m.left.held ∙ ap Some (ap (λ x. join x m.second) one ∙ ap (join S) two) in
    third s h j stored store q b after r R (join S T) e held fits same agrees long asks

-- Reading then fitting is the old call.
pub read_then_fit : (h s u b : Bytes) → tree_size ≤ length u → ReadThenFit h s u b
unfolding query_call read_call fit_call written_in core_of
read_then_fit h s u b long = record { is = go (held_register h) refl }
  where
    stored : Core → Answer Bytes
    stored c = written_in 20 query_size (query_of c) b

    read : (R : Register) (o : Option Register) → held_register h ≡ o → o ≡ Some R → (a : Answer Query) → read_text s ≡ a → and_then (and_then a (fit (kinds_of R))) stored ≡ and_then (and_then a (λ q. written_in 33 tree_size (tree_of q) u)) (λ t. fit_call t h b)
    read R o e f (refused n) g = refl
    read R o e f (accepted q) g =
        let room : ltb (length u) tree_size ≡ false = le-ltb (length u) tree_size long in
        let tree : held_tree (tree_of q ++ drop tree_size u) ≡ Some q = tree-held q (drop tree_size u) (accepted_has_text s q g) in
        rw (room, e ∙ f, tree)

    go : (o : Option Register) → held_register h ≡ o → and_then (or_refuse 11 o) (λ R. and_then (core_of R s) stored) ≡ and_then (or_refuse 11 o) (λ R. and_then (read_call s u) (λ t. fit_call t h b))
    go None e = refl
    go (Some R) e = read R (Some R) e refl (read_text s) refl
