-- Each call refuses by the first of its table whose condition holds; of the three calls of document 01 the tables are in the order of
-- their numbers.
use Rattle.std.specs.Prelude.{Option, Some, None}
use Prim.Native.Nat.{ℕ, ◌≤◌, ◌<◌}
use mathlib.Core.Path.{◌≡◌, refl, sym, ap, ◌∙◌}
use mathlib.Core.Bool.{Bool, true, false, cond, not}
use mathlib.Core.List.{List, [], ◌∷◌, ◌++◌, map}
use native.Mathlib.Omega.{arith}
use borrow.Author.Tests.{ltb-true}
use lib.Dec.{ltb}
use lib.ListN.{length, drop}
use Rattle.text.specs.Bytes.{Bytes, any}
use Rattle.language.specs.Answer.{Answer, refused, accepted, accepted_of, or_refuse, Check, ◌if◌, judge, found, and_then}
use Rattle.language.specs.Register.{Register, kinds_of}
use Rattle.language.specs.RegisterText.{Entry, entries, composed_entries, register_of, read_register}
use Rattle.language.specs.RegisterText as RegisterText
use Rattle.language.specs.Surface.{Query, properties_of, composed_query}
use Rattle.language.specs.RawQuery.{RawQuery, read_whole}
use Rattle.language.specs.QueryText.{surface, read_text}
use Rattle.language.specs.QueryText as QueryText
use Rattle.language.specs.Core.{Core, nodes}
use Rattle.language.specs.Elaboration.{elaborate, is_undeclared, fit}
use Rattle.language.specs.Semantics.{mismatch, selects, run}
use Rattle.language.specs.Calls.{core_of}
use Rattle.language.proofs.Members.{and_true}
use Rattle.language.specs.Rules.{is_within_limits}
use Rattle.language.specs.Joining.{join, kinds_clash}
use Rattle.register_form.specs.Form.{register_size, placed, stored, held_register}
use Rattle.query_tree.specs.Form.{tree_size, held_tree}
use Rattle.query_core.specs.Held.{query_size, held_query}
use Rattle.query_core.specs.Form.{query_of}
use Rattle.call_answers.specs.Calls.{register_call, joined, join_call, written_in, query_call, read_call, fit_call, ask_call}
use Rattle.call_answers.specs.Demands.{lacks, lowest, rises, register_table, join_table, fit_table, query_table, read_table, fit_call_table, ask_table}

abbrev pub refusal_of : {A : Type 0} → Answer A → Option ℕ
refusal_of (refused n) = Some n
refusal_of (accepted a) = None

-- one check
last : {B : Type 0} (n : ℕ) (b : Bool) (c : B) → refusal_of (cond b (refused n) (accepted c)) ≡ lowest (n if b ∷ [])
unfolding lowest
last n true c = refl
last n false c = refl

module _ {A B : Type 0} where
  -- a judged answer, answered on by f; what f refuses by is in F and k
  judge_then : (l k : List Check) (F : A → List Check) (a : A) (f : A → Answer B) → refusal_of (f a) ≡ lowest (F a ++ k) → refusal_of (and_then (judge l a) f) ≡ lowest (l ++ (found (accepted_of (judge l a)) F [] ++ k))
  unfolding judge lowest
  judge_then [] k F a f e = e
  judge_then (n if true ∷ l) k F a f e = refl
  judge_then (n if false ∷ l) k F a f e = judge_then l k F a f e

module _ {A B C : Type 0} where
  -- a text that is within its limit (n), is read (m), judged, and answered on
  read_then : (n m : ℕ) (b : Bool) (o : Option C) (checks : C → List Check) (made : C → A) (F : A → List Check) (k : List Check) (f : A → Answer B)
      → ((a : A) → refusal_of (f a) ≡ lowest (F a ++ k))
      → refusal_of (and_then (cond b (refused n) (found o (λ c. judge (checks c) (made c)) (refused m))) f) ≡ lowest (n if b ∷ m if lacks o ∷ (found o checks [] ++ (found (accepted_of (cond b (refused n) (found o (λ c. judge (checks c) (made c)) (refused m)))) F [] ++ k)))
  unfolding lowest
  read_then n m true o checks made F k f e = refl
  read_then n m false None checks made F k f e = refl
  read_then n m false (Some c) checks made F k f e = judge_then (checks c) k F (made c) f (e (made c))

nothing : {A : Type 0} (o : Option A) (k : List Check) → found o (λ a. []) [] ++ k ≡ k
nothing None k = refl
nothing (Some a) k = refl

pub register_refuses : (t h : Bytes) → refusal_of (register_call t h) ≡ lowest (register_table t h)
unfolding register_call stored placed read_register register_table
register_refuses t h =
    read_then 1 2 (ltb 32768 (length t)) (entries t) RegisterText.checks (λ l. register_of (composed_entries l)) (λ R. []) (8 if ltb (length h) register_size ∷ []) _ (λ R. last 8 (ltb (length h) register_size) _)
    ∙ ap (λ l. lowest (1 if ltb 32768 (length t) ∷ 2 if lacks (entries t) ∷ (found (entries t) RegisterText.checks [] ++ l))) (nothing (accepted_of (read_register t)) (8 if ltb (length h) register_size ∷ []))

pub join_refuses : (h k b : Bytes) → refusal_of (join_call h k b) ≡ lowest (join_table h k b)
unfolding join_call joined stored placed join_table lowest
join_refuses h k b = go (held_register h) (held_register k)
  where
    both : (c l : Bool) (R S : Register) → refusal_of (cond c (refused 32) (cond l (refused 7) (stored (join R S) b))) ≡ cond c (Some 32) (cond l (Some 7) (cond (ltb (length b) register_size) (Some 8) None))
    both true l R S = refl
    both false true R S = refl
    both false false R S = last 8 (ltb (length b) register_size) _

    go : (o w : Option Register) → refusal_of (and_then (or_refuse 22 o) (λ R. and_then (or_refuse 22 w) (λ S. joined R S b))) ≡ lowest (22 if lacks o ∷ 22 if lacks w ∷ found o (λ R. found w (λ S. 32 if kinds_clash R S ∷ 7 if not (is_within_limits (join R S)) ∷ 8 if ltb (length b) register_size ∷ []) []) [])
    go None w = refl
    go (Some R) None = refl
    go (Some R) (Some S) = both (kinds_clash R S) (not (is_within_limits (join R S))) R S

-- fitting, answered on
fit_then : {B : Type 0} (b : Bool) (o : Option Core) (g : Core → Bool) (k : List Check) (f : Core → Answer B) → ((c : Core) → refusal_of (f c) ≡ lowest k)
    → refusal_of (and_then (cond b (refused 17) (found o (λ c. cond (g c) (refused 19) (accepted c)) (refused 18))) f) ≡ lowest (17 if b ∷ 18 if lacks o ∷ 19 if found o g false ∷ k)
unfolding lowest
fit_then true o g k f e = refl
fit_then false None g k f e = refl
fit_then {B} false (Some c) g k f e = go (g c)
  where
    go : (b : Bool) → refusal_of (and_then (cond b (refused 19) (accepted c)) f) ≡ cond b (Some 19) (lowest k)
    go true = refl
    go false = e c

then_assoc : {A B C : Type 0} (a : Answer A) (f : A → Answer B) (g : B → Answer C) → and_then (and_then a f) g ≡ and_then a (λ x. and_then (f x) g)
then_assoc (refused n) f g = refl
then_assoc (accepted a) f g = refl

-- a query text, answered on
core_then : {B : Type 0} (s : Bytes) (R : Register) (k : List Check) (f : Core → Answer B) → ((c : Core) → refusal_of (f c) ≡ lowest k)
    → refusal_of (and_then (core_of R s) f) ≡ lowest (12 if ltb 1024 (length s) ∷ 13 if lacks (read_whole s) ∷ (found (read_whole s) QueryText.checks [] ++ (found (accepted_of (read_text s)) (fit_table (kinds_of R)) [] ++ k)))
unfolding core_of read_text fit fit_table
core_then s R k f e =
    ap refusal_of (then_assoc (read_text s) (fit (kinds_of R)) f)
    ∙ read_then 12 13 (ltb 1024 (length s)) (read_whole s) QueryText.checks (λ q. composed_query (surface q)) (fit_table (kinds_of R)) k (λ q. and_then (fit (kinds_of R) q) f) (λ q. fit_then (any (is_undeclared (kinds_of R)) (properties_of q)) (elaborate q (kinds_of R)) (λ c. ltb 256 (nodes c)) k f e)

pub query_refuses : (h s b : Bytes) → refusal_of (query_call h s b) ≡ lowest (query_table h s b)
unfolding query_call written_in query_table lowest
query_refuses h s b = go (held_register h)
  where
    go : (o : Option Register) → refusal_of (and_then (or_refuse 11 o) (λ R. and_then (core_of R s) (λ c. written_in 20 query_size (query_of c) b))) ≡ lowest (11 if lacks o ∷ 12 if ltb 1024 (length s) ∷ 13 if lacks (read_whole s) ∷ (found (read_whole s) QueryText.checks [] ++ (found o (λ R. found (accepted_of (read_text s)) (fit_table (kinds_of R)) []) [] ++ (20 if ltb (length b) query_size ∷ []))))
    go None = refl
    go (Some R) = core_then s R (20 if ltb (length b) query_size ∷ []) (λ c. written_in 20 query_size (query_of c) b) (λ c. last 20 (ltb (length b) query_size) (query_of c ++ drop query_size b))

pub read_refuses : (s b : Bytes) → refusal_of (read_call s b) ≡ lowest (read_table s b)
unfolding read_call written_in read_text read_table
read_refuses s b =
    read_then 12 13 (ltb 1024 (length s)) (read_whole s) QueryText.checks (λ q. composed_query (surface q)) (λ q. []) (33 if ltb (length b) tree_size ∷ []) _ (λ q. last 33 (ltb (length b) tree_size) _)
    ∙ ap (λ l. lowest (12 if ltb 1024 (length s) ∷ 13 if lacks (read_whole s) ∷ (found (read_whole s) QueryText.checks [] ++ l))) (nothing (accepted_of (read_text s)) (33 if ltb (length b) tree_size ∷ []))

pub fit_refuses : (t h b : Bytes) → refusal_of (fit_call t h b) ≡ lowest (fit_call_table t h b)
unfolding fit_call written_in fit fit_call_table fit_table lowest
fit_refuses t h b = go (held_register h) (held_tree t)
  where
    go : (o : Option Register) (w : Option Query) → refusal_of (and_then (or_refuse 11 o) (λ R. and_then (or_refuse 34 w) (λ q. and_then (fit (kinds_of R) q) (λ c. written_in 20 query_size (query_of c) b)))) ≡ lowest (11 if lacks o ∷ 34 if lacks w ∷ (found o (λ R. found w (fit_table (kinds_of R)) []) [] ++ (20 if ltb (length b) query_size ∷ [])))
    go None w = refl
    go (Some R) None = refl
    go (Some R) (Some q) = fit_then (any (is_undeclared (kinds_of R)) (properties_of q)) (elaborate q (kinds_of R)) (λ c. ltb 256 (nodes c)) (20 if ltb (length b) query_size ∷ []) (λ c. written_in 20 query_size (query_of c) b) (λ c. last 20 (ltb (length b) query_size) (query_of c ++ drop query_size b))

ask_then : {A : Type 0} (o : Option Core) (w : Option Register) (m : Core → Register → Bool) (g : Register → Bool) (a : Core → Register → A)
    → refusal_of (and_then (or_refuse 21 o) (λ c. and_then (or_refuse 22 w) (λ R. and_then (cond (m c R) (refused 23) (accepted (a c R))) (λ x. cond (g R) (refused 24) (accepted x))))) ≡ lowest (21 if lacks o ∷ 22 if lacks w ∷ found w (λ R. 23 if found o (λ c. m c R) false ∷ 24 if g R ∷ []) [])
unfolding lowest
ask_then None w m g a = refl
ask_then (Some c) None m g a = refl
ask_then {A} (Some c) (Some R) m g a = go (m c R)
  where
    go : (b : Bool) → refusal_of (and_then (cond b (refused 23) (accepted (a c R))) (λ x. cond (g R) (refused 24) (accepted x))) ≡ cond b (Some 23) (lowest (24 if g R ∷ []))
    go true = refl
    go false = last 24 (g R) (a c R)

pub ask_refuses : (q h b : Bytes) → refusal_of (ask_call q h b) ≡ lowest (ask_table q h b)
unfolding ask_call ask_table run
ask_refuses q h b = ask_then (held_query q) (held_register h) (λ c R. mismatch c R) (λ R. ltb (length b) (length R.pages)) (λ c R. map (selects c R) R.pages)

-- The numbers rise.
pub register_rises : (t h : Bytes) → rises 0 25 (register_table t h) ≡ true
unfolding register_table rises
register_rises t h = go (entries t)
  where
    go : (o : Option (List Entry)) → rises 2 25 (found o RegisterText.checks [] ++ (8 if ltb (length h) register_size ∷ [])) ≡ true
    go None = refl
    go (Some l) = refl

pub query_rises : (h s b : Bytes) → rises 0 25 (query_table h s b) ≡ true
unfolding query_table fit_table rises
query_rises h s b = go (read_whole s) (held_register h) (accepted_of (read_text s))
  where
    go : (o : Option RawQuery) (w : Option Register) (q : Option Query) → rises 13 25 (found o QueryText.checks [] ++ (found w (λ R. found q (fit_table (kinds_of R)) []) [] ++ (20 if ltb (length b) query_size ∷ []))) ≡ true
    go None None q = refl
    go None (Some R) None = refl
    go None (Some R) (Some q) = refl
    go (Some o) None q = refl
    go (Some o) (Some R) None = refl
    go (Some o) (Some R) (Some q) = refl

pub read_rises : (s b : Bytes) → rises 0 34 (read_table s b) ≡ true
unfolding read_table rises
read_rises s b = go (read_whole s)
  where
    go : (o : Option RawQuery) → rises 13 34 (found o QueryText.checks [] ++ (33 if ltb (length b) tree_size ∷ [])) ≡ true
    go None = refl
    go (Some q) = refl

pub ask_rises : (q h b : Bytes) → rises 0 25 (ask_table q h b) ≡ true
unfolding ask_table rises
ask_rises q h b = go (held_register h)
  where
    go : (w : Option Register) → rises 22 25 (found w (λ R. 23 if found (held_query q) (λ c. mismatch c R) false ∷ 24 if ltb (length b) (length R.pages) ∷ []) []) ≡ true
    go None = refl
    go (Some R) = refl

rises_far : (low high : ℕ) (l : List Check) → rises low high l ≡ true → low < high
unfolding rises
rises_far low high [] h = ltb-true low high h
rises_far low high (n if b ∷ l) h =
    let t = and_true (ltb low n) (rises n high l) h in
    omega (arith, ltb-true low n t.0, rises_far n high l t.1)

-- A refusal's number is one of the table's.
pub lowest_between : (low high n : ℕ) (l : List Check) → rises low high l ≡ true → lowest l ≡ Some n → (low < n) × (n < high)
unfolding rises lowest
lowest_between low high n [] h e = absurd (let y : ◌≡◌ {A = ℕ} 0 1 = cc in omega arith)
lowest_between low high n (m if true ∷ l) h e =
    let t = and_true (ltb low m) (rises m high l) h in
    let i : m ≡ n = cc in
    (rw (← i) (ltb-true low m t.0), rw (← i) (rises_far m high l t.1))
lowest_between low high n (m if false ∷ l) h e =
    let t = and_true (ltb low m) (rises m high l) h in
    let k = lowest_between m high n l t.1 e in
    (omega (arith, ltb-true low m t.0, k.0), k.1)

-- A refusal by the join has one of its numbers.
pub join_few : (h k b : Bytes) (n : ℕ) → join_call h k b ≡ refused n → (0 < n) × (n ≤ 32)
unfolding join_call joined stored placed
join_few h k b n e = go (held_register h) (held_register k) e
  where
    is : (m : ℕ) → 0 < m → m ≤ 32 → ◌≡◌ {A = Answer Bytes} (refused m) (refused n) → (0 < n) × (n ≤ 32)
    is m l u e = let i : m ≡ n = cc in (omega arith, omega arith)

    short : (s : Bool) (x : Bytes) → cond s (refused 8) (accepted x) ≡ refused n → (0 < n) × (n ≤ 32)
    short true x e = is 8 (omega arith) (omega arith) e
    short false x e = absurd (let y : ◌≡◌ {A = ℕ} 0 1 = cc in omega arith)

    both : (c l : Bool) (a : Answer Bytes) → (a ≡ refused n → (0 < n) × (n ≤ 32)) → cond c (refused 32) (cond l (refused 7) a) ≡ refused n → (0 < n) × (n ≤ 32)
    both true l a f e = is 32 (omega arith) (omega arith) e
    both false true a f e = is 7 (omega arith) (omega arith) e
    both false false a f e = f e

    go : (o w : Option Register) → and_then (or_refuse 22 o) (λ R. and_then (or_refuse 22 w) (λ S. joined R S b)) ≡ refused n → (0 < n) × (n ≤ 32)
    go None w e = is 22 (omega arith) (omega arith) e
    go (Some R) None e = is 22 (omega arith) (omega arith) e
    go (Some R) (Some S) e = both (kinds_clash R S) (not (is_within_limits (join R S))) _ (λ f. short (ltb (length b) register_size) _ f) e

-- A refusal by fitting has one of its numbers.
pub fit_few : (t h b : Bytes) (n : ℕ) → fit_call t h b ≡ refused n → (0 < n) × (n ≤ 34)
unfolding fit_call_table fit_table rises lowest
fit_few t h b n e = go (held_register h) (held_tree t) (sym (fit_refuses t h b) ∙ ap refusal_of e)
  where
    is : (m : ℕ) → 0 < m → m ≤ 34 → ◌≡◌ {A = Option ℕ} (Some m) (Some n) → (0 < n) × (n ≤ 34)
    is m l u e = let i : m ≡ n = cc in (omega arith, omega arith)

    behind : (l : List Check) → rises 11 34 l ≡ true → lowest l ≡ Some n → (0 < n) × (n ≤ 34)
    behind l r f = let k = lowest_between 11 34 n l r f in (omega (arith, k.0), omega (arith, k.1))

    go : (o : Option Register) (w : Option Query) → lowest (11 if lacks o ∷ 34 if lacks w ∷ (found o (λ R. found w (fit_table (kinds_of R)) []) [] ++ (20 if ltb (length b) query_size ∷ []))) ≡ Some n → (0 < n) × (n ≤ 34)
    go None w f = is 11 (omega arith) (omega arith) f
    go (Some R) None f = is 34 (omega arith) (omega arith) f
    go (Some R) (Some q) f = behind (fit_table (kinds_of R) q ++ (20 if ltb (length b) query_size ∷ [])) refl f
