-- The first demand of the calls, from their contracts: what is refused, and what is left.
use Rattle.std.specs.Prelude.{Option, Some, None}
use Prim.Native.Nat.{ℕ, zero, suc, ◌<◌}
use mathlib.Core.Path.{◌≡◌, refl, sym, ap, ◌∙◌, subst}
use mathlib.Core.Bool.{Bool, true, false, cond, not}
use mathlib.Core.List.{List, ◌++◌, map}
use native.Mathlib.Omega.{arith}
use lib.Dec.{ltb}
use lib.IntN.{ℤ, pos, pos-ne-negsuc}
use lib.ListN.{length, drop, length-map}
use Rattle.text.specs.Bytes.{Bytes}
use Rattle.text.specs.Table.{bit}
use Rattle.language.specs.Answer.{Answer, refused, accepted, or_refuse, left_in, Check, and_then}
use Rattle.language.specs.Register.{Register, Typing, kinds_of}
use Rattle.language.specs.RegisterText.{read_register}
use Rattle.language.specs.Surface.{Query}
use Rattle.language.specs.QueryText.{read_text}
use Rattle.language.specs.Core.{Core}
use Rattle.language.specs.Elaboration.{fit}
use Rattle.language.specs.Semantics.{mismatch, selects, run}
use Rattle.language.specs.Calls.{core_of}
use Rattle.language.specs.Rules.{is_within_limits, is_register}
use Rattle.language.specs.Joining.{join, kinds_clash}
use Rattle.language.proofs.Accepted.{accepted_register}
use Rattle.language.proofs.Joined.{join_register}
use Rattle.register_form.specs.Form.{register_size, form_of, placed, stored, held_register}
use Rattle.register_form.proofs.Forms.{reads_back, held_is}
use Rattle.query_tree_spelling.specs.Spelled.{is_spelled, has_text}
use Rattle.query_tree_spelling.proofs.Some.{accepted_has_text}
use Rattle.query_tree.specs.Form.{tree_size, tree_of, held_tree}
use Rattle.query_tree.proofs.Held.{held_tree_lem, form_held as tree-held}
use Rattle.query_core.specs.Held.{query_size, held_query}
use Rattle.query_core.specs.Form.{query_of}
use Rattle.query_core.proofs.Forms.{form_held}
use Rattle.query_core.proofs.Elaborated.{fitted_core}
use Rattle.language.proofs.Members.{and_true}
use Rattle.call_answers.specs.Calls.{register_call, joined, join_call, written_in, query_call, read_call, fit_call, ask_call, marked, marks_in, returned, RegisterCall, JoinCall, QueryCall, ReadCall, FitCall, AskCall}
use Rattle.call_answers.specs.Demands.{lowest, rises, register_table, join_table, query_table, read_table, fit_call_table, ask_table, Judged, FirstDemand, LeftForm, LeftRegister, LeftJoin, LeftCore, LeftQuery, LeftTree, LeftFit, LeftMarks}
use Rattle.call_answers.proofs.Tables.{refusal_of, register_refuses, join_refuses, query_refuses, read_refuses, fit_refuses, ask_refuses, register_rises, query_rises, lowest_between, join_few, fit_few}

-- the first demand, by what a call answers
module _ {A : Type 0} (f : A → ℕ) (table : List Check) (Left : ℕ → Bytes → Type 0) where
  first : (a : Answer A) (b after : Bytes) (r : ℤ) → refusal_of a ≡ lowest table → r ≡ returned f a → ((n : ℕ) → a ≡ refused n → after ≡ b) → ((x : A) → a ≡ accepted x → Left (f x) after) → FirstDemand table Left b after r
  first a b after r e h same left = record { judged = subst (λ o. Judged o Left b after r) e (go a h same left) }
    where
      go : (a : Answer A) → r ≡ returned f a → ((n : ℕ) → a ≡ refused n → after ≡ b) → ((x : A) → a ≡ accepted x → Left (f x) after) → Judged (refusal_of a) Left b after r
      go (refused n) h same left = (h, same n refl)
      go (accepted x) h same left = (f x, h, left x refl)

-- a number that is not negative means accepted
pub taken : {A : Type 0} (f : A → ℕ) (a : Answer A) (k : ℕ) → ((n : ℕ) → a ≡ refused n → 0 < n) → pos k ≡ returned f a → (x : A) × (a ≡ accepted x)
taken f (refused zero) k e h = absurd (let m = e 0 refl in omega (arith, m))
taken f (refused (suc n)) k e h = absurd (pos-ne-negsuc k n h)
taken f (accepted x) k e h = (x, refl)

-- by tables whose numbers rise
pub by_table : {A : Type 0} (table : List Check) (a : Answer A) → rises 0 25 table ≡ true → refusal_of a ≡ lowest table → (n : ℕ) → a ≡ refused n → 0 < n
by_table table a o e n p = (lowest_between 0 25 n table o (sym e ∙ ap refusal_of p)).0

left_same : (h after : Bytes) (a : Answer Bytes) → after ≡ left_in h a → (n : ℕ) → a ≡ refused n → after ≡ h
left_same h after a e n p = e ∙ ap (left_in h) p

marks_same : (b after : Bytes) (a : Answer (List Bool)) → after ≡ marks_in b a → (n : ℕ) → a ≡ refused n → after ≡ b
marks_same b after a e n p = e ∙ ap (marks_in b) p

-- a register that is stored
stored_is : (R : Register) (b x : Bytes) → stored R b ≡ accepted x → x ≡ form_of R ++ drop register_size b
unfolding stored placed
stored_is R b x e = go (ltb (length b) register_size) e
  where
    go : (t : Bool) → cond t (refused 8) (accepted (form_of R ++ drop register_size b)) ≡ accepted x → x ≡ form_of R ++ drop register_size b
    go true e = absurd (let y : ◌≡◌ {A = ℕ} 0 1 = cc in omega arith)
    go false e = let i : form_of R ++ drop register_size b ≡ x = cc in sym i

left_form : (R : Register) (b after x : Bytes) → is_register R ≡ true → stored R b ≡ accepted x → after ≡ x → LeftForm R b 0 after
left_form R b after x r e p =
    let i = p ∙ stored_is R b x e in
    record { zero = refl; bytes = i; held = ap held_register i ∙ reads_back R r (drop register_size b) }

-- an accepted answer that was answered on
then_accepted : {A B : Type 0} (a : Answer A) (f : A → Answer B) (x : B) → and_then a f ≡ accepted x → (y : A) × (a ≡ accepted y) × (f y ≡ accepted x)
then_accepted (refused n) f x e = absurd (let y : ◌≡◌ {A = ℕ} 0 1 = cc in omega arith)
then_accepted (accepted y) f x e = (y, refl, e)

or_accepted : {A : Type 0} (n : ℕ) (o : Option A) (x : A) → or_refuse n o ≡ accepted x → o ≡ Some x
or_accepted n None x e = absurd (let y : ◌≡◌ {A = ℕ} 0 1 = cc in omega arith)
or_accepted n (Some y) x e = let i : y ≡ x = cc in ap Some i

register_left : (t b after x : Bytes) → register_call t b ≡ accepted x → after ≡ x → LeftRegister t b 0 after
unfolding register_call
register_left t b after x e p =
    let q = then_accepted (read_register t) (λ R. stored R b) x e in
    record { register = q.0; reads = q.1; left = left_form q.0 b after x (accepted_register t q.0 q.1) q.2 p }

-- what an accepted join is
joined_is : (R S : Register) (b x : Bytes) → is_register R ≡ true → is_register S ≡ true → joined R S b ≡ accepted x → (is_register (join R S) ≡ true) × (stored (join R S) b ≡ accepted x)
unfolding joined
joined_is R S b x r s e = go (kinds_clash R S) refl (is_within_limits (join R S)) refl e
  where
    go : (c : Bool) → kinds_clash R S ≡ c → (l : Bool) → is_within_limits (join R S) ≡ l → cond c (refused 32) (cond (not l) (refused 7) (stored (join R S) b)) ≡ accepted x → (is_register (join R S) ≡ true) × (stored (join R S) b ≡ accepted x)
    go true p l q e = absurd (let y : ◌≡◌ {A = ℕ} 0 1 = cc in omega arith)
    go false p false q e = absurd (let y : ◌≡◌ {A = ℕ} 0 1 = cc in omega arith)
    go false p true q e = (join_register R S r s p q, e)

join_left : (h k b after x : Bytes) → join_call h k b ≡ accepted x → after ≡ x → LeftJoin h k b 0 after
unfolding join_call
join_left h k b after x e p =
    let q = then_accepted (or_refuse 22 (held_register h)) (λ R. and_then (or_refuse 22 (held_register k)) (λ S. joined R S b)) x e in
    let w = then_accepted (or_refuse 22 (held_register k)) (λ S. joined q.0 S b) x q.2 in
    let R = or_accepted 22 (held_register h) q.0 q.1 in
    let S = or_accepted 22 (held_register k) w.0 w.1 in
    let j = joined_is q.0 w.0 b x (held_is h q.0 R).0 (held_is k w.0 S).0 w.2 in
    record { first = q.0; second = w.0; holds_first = R; holds_second = S; left = left_form (join q.0 w.0) b after x j.0 j.1 p }

-- a form that is written
written_is : (n size : ℕ) (form b x : Bytes) → written_in n size form b ≡ accepted x → x ≡ form ++ drop size b
unfolding written_in
written_is n size form b x e = go (ltb (length b) size) e
  where
    go : (t : Bool) → cond t (refused n) (accepted (form ++ drop size b)) ≡ accepted x → x ≡ form ++ drop size b
    go true e = absurd (let y : ◌≡◌ {A = ℕ} 0 1 = cc in omega arith)
    go false e = let i : form ++ drop size b ≡ x = cc in sym i

-- the core query of a query that some text has
left_core : (Γ : Typing) (q : Query) (c : Core) (b after x : Bytes) → has_text q ≡ true → fit Γ q ≡ accepted c → written_in 20 query_size (query_of c) b ≡ accepted x → after ≡ x → LeftCore c b 0 after
unfolding has_text
left_core Γ q c b after x h f e p =
    let i = p ∙ written_is 20 query_size (query_of c) b x e in
    record { zero = refl; bytes = i; held = ap held_query i ∙ form_held c (drop query_size b) (fitted_core Γ q c (and_true (is_spelled q) _ h).0 f) }

query_left : (h s b after x : Bytes) → query_call h s b ≡ accepted x → after ≡ x → LeftQuery h s b 0 after
unfolding query_call core_of
query_left h s b after x e p =
    let q = then_accepted (or_refuse 11 (held_register h)) (λ R. and_then (core_of R s) (λ c. written_in 20 query_size (query_of c) b)) x e in
    let w = then_accepted (core_of q.0 s) (λ c. written_in 20 query_size (query_of c) b) x q.2 in
    let r = then_accepted (read_text s) (fit (kinds_of q.0)) w.0 w.1 in
    record {
      register = q.0;
      core = w.0;
      holds = or_accepted 11 (held_register h) q.0 q.1;
      fits = w.1;
      left = left_core (kinds_of q.0) r.0 w.0 b after x (accepted_has_text s r.0 r.1) r.2 w.2 p;
    }

read_left : (s b after x : Bytes) → read_call s b ≡ accepted x → after ≡ x → LeftTree s b 0 after
unfolding read_call
read_left s b after x e p =
    let q = then_accepted (read_text s) (λ q. written_in 33 tree_size (tree_of q) b) x e in
    let i = p ∙ written_is 33 tree_size (tree_of q.0) b x q.2 in
    record { zero = refl; query = q.0; reads = q.1; bytes = i; held = ap held_tree i ∙ tree-held q.0 (drop tree_size b) (accepted_has_text s q.0 q.1) }

fit_left : (t h b after x : Bytes) → fit_call t h b ≡ accepted x → after ≡ x → LeftFit t h b 0 after
unfolding fit_call
fit_left t h b after x e p =
    let r = then_accepted (or_refuse 11 (held_register h)) (λ R. and_then (or_refuse 34 (held_tree t)) (λ q. and_then (fit (kinds_of R) q) (λ c. written_in 20 query_size (query_of c) b))) x e in
    let q = then_accepted (or_refuse 34 (held_tree t)) (λ q. and_then (fit (kinds_of r.0) q) (λ c. written_in 20 query_size (query_of c) b)) x r.2 in
    let c = then_accepted (fit (kinds_of r.0) q.0) (λ c. written_in 20 query_size (query_of c) b) x q.2 in
    let tree = or_accepted 34 (held_tree t) q.0 q.1 in
    record {
      register = r.0;
      query = q.0;
      core = c.0;
      holds = or_accepted 11 (held_register h) r.0 r.1;
      tree = tree;
      fits = c.1;
      left = left_core (kinds_of r.0) q.0 c.0 b after x ((held_tree_lem t q.0).0 tree).has c.1 c.2 p;
    }

-- a run that is accepted has no mismatch, and marks what the core query selects
pub run_is : (c : Core) (W : Register) (m : List Bool) → run c W ≡ accepted m → (mismatch c W ≡ false) × (m ≡ map (selects c W) W.pages)
unfolding run
run_is c W m e = go (mismatch c W) e
  where
    go : (b : Bool) → cond b (refused 23) (accepted (map (selects c W) W.pages)) ≡ accepted m → (b ≡ false) × (m ≡ map (selects c W) W.pages)
    go true e = absurd (let y : ◌≡◌ {A = ℕ} 0 1 = cc in omega arith)
    go false e = (refl, let i : map (selects c W) W.pages ≡ m = cc in sym i)

-- an accepted ask: the query and the register that are held, and the marks of the run
pub record Ran (q h : Bytes) (m : List Bool) : Type 0 where
  pub core : Core
  pub register : Register
  pub asks : held_query q ≡ Some core
  pub holds : held_register h ≡ Some register
  pub runs : run core register ≡ accepted m

pub ran : (q h b : Bytes) (m : List Bool) → ask_call q h b ≡ accepted m → Ran q h m
unfolding ask_call
ran q h b m e =
    let x = then_accepted (or_refuse 21 (held_query q)) (λ c. and_then (or_refuse 22 (held_register h)) (λ R. and_then (run c R) (λ l. cond (ltb (length b) (length R.pages)) (refused 24) (accepted l)))) m e in
    let y = then_accepted (or_refuse 22 (held_register h)) (λ R. and_then (run x.0 R) (λ l. cond (ltb (length b) (length R.pages)) (refused 24) (accepted l))) m x.2 in
    let z = then_accepted (run x.0 y.0) (λ l. cond (ltb (length b) (length y.0.pages)) (refused 24) (accepted l)) m y.2 in
    record {
      core = x.0;
      register = y.0;
      asks = or_accepted 21 (held_query q) x.0 x.1;
      holds = or_accepted 22 (held_register h) y.0 y.1;
      runs = z.1 ∙ room (ltb (length b) (length y.0.pages)) z.0 z.2;
    }
  where
    room : (g : Bool) (l : List Bool) → cond g (refused 24) (accepted l) ≡ accepted m → accepted l ≡ accepted m
    room true l e = absurd (let y : ◌≡◌ {A = ℕ} 0 1 = cc in omega arith)
    room false l e = e

-- marks in a buffer
pub marks_bytes : (c : Core) (W : Register) (m : List Bool) (b after : Bytes) → m ≡ map (selects c W) W.pages → after ≡ map bit m ++ drop (length m) b → after ≡ map bit (map (selects c W) W.pages) ++ drop (length W.pages) b
marks_bytes c W m b after is e =
    e ∙ ap (λ l. map bit l ++ drop (length l) b) is ∙ ap (λ k. map bit (map (selects c W) W.pages) ++ drop k b) (length-map W.pages (selects c W))

ask_left : (q h b after : Bytes) (m : List Bool) → ask_call q h b ≡ accepted m → after ≡ map bit m ++ drop (length m) b → LeftMarks q h b (marked m) after
ask_left q h b after m e p =
    let r = ran q h b m e in
    let is = (run_is r.core r.register m r.runs).1 in
    record {
      register = r.register;
      core = r.core;
      holds = r.holds;
      asks = r.asks;
      count = ap marked is;
      bytes = marks_bytes r.core r.register m b after is p;
    }

-- The first demand, of each call.
pub register_first : (t b after : Bytes) (r : ℤ) → RegisterCall t b after r → FirstDemand (register_table t b) (LeftRegister t b) b after r
register_first t b after r c =
    first (λ a. 0) (register_table t b) (LeftRegister t b) (register_call t b) b after r (register_refuses t b) c.number (left_same b after (register_call t b) c.buffer) (λ x e. register_left t b after x e (c.buffer ∙ ap (left_in b) e))

pub join_first : (h k b after : Bytes) (r : ℤ) → JoinCall h k b after r → FirstDemand (join_table h k b) (LeftJoin h k b) b after r
join_first h k b after r c =
    first (λ a. 0) (join_table h k b) (LeftJoin h k b) (join_call h k b) b after r (join_refuses h k b) c.number (left_same b after (join_call h k b) c.buffer) (λ x e. join_left h k b after x e (c.buffer ∙ ap (left_in b) e))

pub query_first : (h s b after : Bytes) (r : ℤ) → QueryCall h s b after r → FirstDemand (query_table h s b) (LeftQuery h s b) b after r
query_first h s b after r c =
    first (λ a. 0) (query_table h s b) (LeftQuery h s b) (query_call h s b) b after r (query_refuses h s b) c.number (left_same b after (query_call h s b) c.buffer) (λ x e. query_left h s b after x e (c.buffer ∙ ap (left_in b) e))

pub read_first : (s b after : Bytes) (r : ℤ) → ReadCall s b after r → FirstDemand (read_table s b) (LeftTree s b) b after r
read_first s b after r c =
    first (λ a. 0) (read_table s b) (LeftTree s b) (read_call s b) b after r (read_refuses s b) c.number (left_same b after (read_call s b) c.buffer) (λ x e. read_left s b after x e (c.buffer ∙ ap (left_in b) e))

pub fit_first : (t h b after : Bytes) (r : ℤ) → FitCall t h b after r → FirstDemand (fit_call_table t h b) (LeftFit t h b) b after r
fit_first t h b after r c =
    first (λ a. 0) (fit_call_table t h b) (LeftFit t h b) (fit_call t h b) b after r (fit_refuses t h b) c.number (left_same b after (fit_call t h b) c.buffer) (λ x e. fit_left t h b after x e (c.buffer ∙ ap (left_in b) e))

pub ask_first : (q h b after : Bytes) (r : ℤ) → AskCall q h b after r → FirstDemand (ask_table q h b) (LeftMarks q h b) b after r
ask_first q h b after r c =
    first marked (ask_table q h b) (LeftMarks q h b) (ask_call q h b) b after r (ask_refuses q h b) c.number (marks_same b after (ask_call q h b) c.buffer) (λ m e. ask_left q h b after m e (c.buffer ∙ ap (marks_in b) e))

-- what each call stores where it returns 0
pub register_stores : (t b after : Bytes) → RegisterCall t b after (pos 0) → LeftRegister t b 0 after
register_stores t b after c =
    let x = taken (λ a. 0) (register_call t b) 0 (by_table (register_table t b) (register_call t b) (register_rises t b) (register_refuses t b)) c.number in
    register_left t b after x.0 x.1 (c.buffer ∙ ap (left_in b) x.1)

pub join_stores : (h k b after : Bytes) → JoinCall h k b after (pos 0) → LeftJoin h k b 0 after
join_stores h k b after c =
    let x = taken (λ a. 0) (join_call h k b) 0 (λ n e. (join_few h k b n e).0) c.number in
    join_left h k b after x.0 x.1 (c.buffer ∙ ap (left_in b) x.1)

pub query_stores : (h s b after : Bytes) → QueryCall h s b after (pos 0) → LeftQuery h s b 0 after
query_stores h s b after c =
    let x = taken (λ a. 0) (query_call h s b) 0 (by_table (query_table h s b) (query_call h s b) (query_rises h s b) (query_refuses h s b)) c.number in
    query_left h s b after x.0 x.1 (c.buffer ∙ ap (left_in b) x.1)

pub fit_stores : (t h b after : Bytes) → FitCall t h b after (pos 0) → LeftFit t h b 0 after
fit_stores t h b after c =
    let x = taken (λ a. 0) (fit_call t h b) 0 (λ n e. (fit_few t h b n e).0) c.number in
    fit_left t h b after x.0 x.1 (c.buffer ∙ ap (left_in b) x.1)
