-- One letter of a name after the other: composing bytes goes by the letter at their front.
use Rattle.std.specs.Prelude.{Option, Some, None}
use Prim.Native.Nat.{ℕ, zero, suc, ◌+◌, ◌*◌, ◌/◌, ◌%◌, ◌≤◌}
use mathlib.Core.Path.{◌≡◌, refl, sym, ap, ◌∙◌}
use mathlib.Core.Bool.{Bool, true, false, cond, ◌&&◌, ◌||◌, false≢true, and-eq-true_iff, or-true}
use mathlib.Core.List.{List, [], ◌∷◌, ◌++◌}
use native.Mathlib.Omega.{arith}
use lib.Dec.{eqb, ltb, leb}
use lib.ListN.{length, get_or, drop}
use borrow.Author.Tests.{eqb-true, eqb-false, ne_eqb, leb-true, le-leb}
use Rattle.text.specs.Bytes.{Bytes, all, any}
use Rattle.text.specs.Class.{is_name_byte}
use Rattle.names.specs.Table.{Entry, table, composition}
use Rattle.names.specs.Codes.{within, is_mark, is_plain, is_wide, is_pair, pair_code, before, read, encode, write}
use Rattle.names.specs.Names.{compose, is_markless, composed, composed_codes}
use Rattle.names.specs.Steps.{letter_or0, composed_letter, pair_of, letter_pair, letter, plain_letter, wide_letter, lone_letter, letter_of, letter_at, prepend, LetterTold}
use Rattle.names.proofs.Entries.{all_at, composition_is, ranges}
use Rattle.names.proofs.Reading.{within_true, true_within, paired, plain_range, wide_range, wide_letter_lem, letter_range, mark_range, encode_plain, read_plain, read_pair, read_none, reading, mark_first}
use Rattle.names.proofs.Composing.{no_composition, no_mark_lem, compose_on, compose_marked}
use Rattle.names.specs.declared.Letter.{Letter}

-- A letter before other code points: kept, composed with a mark, or a mark itself.
front_kept : (c : ℕ) (o : Option (List ℕ)) → is_mark c ≡ false → ((l : List ℕ) → o ≡ Some l → compose (c ∷ l) ≡ c ∷ compose l) → composed_codes (before c o) ≡ prepend (encode c) (composed_codes o)
unfolding all write
front_kept c None h k = refl
front_kept c (Some l) h k = rw (k l refl, h) (go (is_markless (compose l)))
  where
    go : (b : Bool) → cond b (Some (encode c ++ write (compose l))) None ≡ prepend (encode c) (cond b (Some (write (compose l))) None)
    go true = refl
    go false = refl

front_marked : (c d : ℕ) (e : Entry) (o : Option (List ℕ)) → composition c d ≡ Some e → composed_codes (before c (before d o)) ≡ prepend (encode e.composed) (composed_codes o)
unfolding all write
front_marked c d e None h = refl
front_marked c d e (Some l) h =
    rw (compose_marked c d l e h, no_mark_lem e.composed (λ x y. omega (arith, (ranges e (composition_is c d e h).2).composed_most))) (go (is_markless (compose l)))
  where
    go : (b : Bool) → cond b (Some (encode e.composed ++ write (compose l))) None ≡ prepend (encode e.composed) (cond b (Some (write (compose l))) None)
    go true = refl
    go false = refl

front_mark : (c : ℕ) (o : Option (List ℕ)) → is_mark c ≡ true → composed_codes (before c o) ≡ None
unfolding all
front_mark c None h = refl
front_mark c (Some l) h = rw (compose_on c l (no_composition c (get_or l 0 0) (λ m x. omega (arith, mark_range c h))), h)

-- The code point of a pair is 160 at least, so that 0 says that there is none.
pub pair_is : (a b : ℕ) → is_pair a b ≡ true → pair_of a b ≡ pair_code a b
unfolding pair_of
pair_is a b h = rw h

pub is_pair_lem : (a b : ℕ) → (pair_of a b ≡ 0 → ⊥) → is_pair a b ≡ true
unfolding pair_of
is_pair_lem a b h = go (is_pair a b) refl
  where
    go : (p : Bool) → is_pair a b ≡ p → p ≡ true
    go true k = refl
    go false k = absurd (h (rw k))

no_pair : (a b : ℕ) → pair_of a b ≡ 0 → is_pair a b ≡ false
no_pair a b h = go (is_pair a b) refl
  where
    go : (p : Bool) → is_pair a b ≡ p → p ≡ false
    go true k = absurd (omega (arith, pair_is a b k, wide_range (pair_code a b) (paired a b k).wide))
    go false k = refl

-- What a composed letter that is not 0 tells.
pub composed_letter_lem : (l m : ℕ) → (composed_letter l m ≡ 0 → ⊥) → (P : ℕ → Type 0) → ((e : Entry) → composition l m ≡ Some e → P e.composed) → P (composed_letter l m)
unfolding composed_letter
composed_letter_lem l m h P f = go (composition l m) refl
  where
    go : (o : Option Entry) → composition l m ≡ o → P (letter_or0 o)
    go None k = absurd (h (rw k))
    go (Some e) k = f e k

pub zero_letter : (l m : ℕ) → composition l m ≡ None → composed_letter l m ≡ 0
unfolding composed_letter
zero_letter l m h = rw h

no_letter : (l m : ℕ) → composed_letter l m ≡ 0 → composition l m ≡ None
unfolding composed_letter
no_letter l m h = go (composition l m) refl
  where
    go : (o : Option Entry) → composition l m ≡ o → o ≡ None
    go None k = refl
    go (Some e) k = absurd (omega (arith, sym (ap letter_or0 k) ∙ h, (ranges e (composition_is l m e k).2).composed_least))

-- What is behind a letter.
abbrev pub onward : Letter → Bytes → Option Bytes
onward x s = elim x.width [ zero ↦ None | suc w ↦ prepend (encode x.code) (composed (drop w s)) ]

-- A plain letter alone.
pub plain_alone : (a : ℕ) (s : Bytes) → is_plain a ≡ true → composed_letter a (pair_of (get_or s 0 0) (get_or s 1 0)) ≡ 0 → composed (a ∷ s) ≡ prepend (encode a) (composed s)
unfolding composed
plain_alone a s h k =
    ap composed_codes (read_plain a s h)
    ∙ front_kept a (read s) (no_mark_lem a (λ x y. omega (arith, plain_range a h))) (λ l r. compose_on a l (unmarked l r))
  where
    unmarked : (l : List ℕ) → read s ≡ Some l → composition a (get_or l 0 0) ≡ None
    unmarked l r = no_letter a (get_or l 0 0) (go (is_mark (get_or l 0 0)) refl)
      where
        go : (b : Bool) → is_mark (get_or l 0 0) ≡ b → composed_letter a (get_or l 0 0) ≡ 0
        go true m = let f = mark_first (reading s l r) m in rw (← f.1, ← pair_is (get_or s 0 0) (get_or s 1 0) f.0) k
        go false m = zero_letter a (get_or l 0 0) (no_composition a (get_or l 0 0) (λ x y. false≢true (sym m ∙ x)))

-- A plain letter with a mark behind it.
plain_marked : (a : ℕ) (s : Bytes) (e : Entry) → is_plain a ≡ true → composition a (pair_of (get_or s 0 0) (get_or s 1 0)) ≡ Some e → composed (a ∷ s) ≡ prepend (encode e.composed) (composed (drop 2 s))
unfolding composed
plain_marked a s e h k = go s (is_pair_lem (get_or s 0 0) (get_or s 1 0) (λ z. omega (arith, mark))) k
  where
    mark : 768 ≤ pair_of (get_or s 0 0) (get_or s 1 0)
    mark = let i = composition_is a (pair_of (get_or s 0 0) (get_or s 1 0)) e k in omega (arith, i.1, mark_range e.mark (ranges e i.2).marks)

    go : (s : Bytes) → is_pair (get_or s 0 0) (get_or s 1 0) ≡ true → composition a (pair_of (get_or s 0 0) (get_or s 1 0)) ≡ Some e → composed_codes (read (a ∷ s)) ≡ prepend (encode e.composed) (composed_codes (read (drop 2 s)))
    go [] p k = absurd (omega (arith, (paired 0 0 p).lead))
    go (b ∷ []) p k = absurd (omega (arith, (paired b 0 p).behind))
    go (b ∷ c ∷ s) p k =
        ap composed_codes (read_plain a (b ∷ c ∷ s) h ∙ ap (before a) (read_pair b c s p))
        ∙ front_marked a (pair_code b c) e (read s) (rw (pair_is b c p) at k)

-- Two bytes.
wide_first : (a : ℕ) (s : Bytes) → is_pair a (get_or s 0 0) ≡ true → read (a ∷ s) ≡ before (pair_code a (get_or s 0 0)) (read (drop 1 s))
wide_first a [] h = absurd (omega (arith, (paired a 0 h).behind))
wide_first a (b ∷ s) h = read_pair a b s h

pub wide_front : (a : ℕ) (s : Bytes) → is_pair a (get_or s 0 0) ≡ true → is_mark (pair_of a (get_or s 0 0)) ≡ false → composed (a ∷ s) ≡ prepend (encode (pair_of a (get_or s 0 0))) (composed (drop 1 s))
unfolding composed
wide_front a s h m =
    let b = get_or s 0 0 in
    let w = wide_range (pair_code a b) (paired a b h).wide in
    rw (pair_is a b h)
    (ap composed_codes (wide_first a s h)
    ∙ front_kept (pair_code a b) (read (drop 1 s)) (rw (pair_is a b h) at m) (λ l r. compose_on (pair_code a b) l (no_composition (pair_code a b) (get_or l 0 0) (λ x y. omega arith))))

-- Composing goes by the letter at the front.
pub composed_step : (a : ℕ) (s : Bytes) → composed (a ∷ s) ≡ onward (letter_at (a ∷ s)) s
unfolding letter_of composed
composed_step a s = go (is_plain a) refl
  where
    b : ℕ
    b = get_or s 0 0

    x : ℕ
    x = composed_letter a (pair_of b (get_or s 1 0))

    plain : is_plain a ≡ true → (p : Bool) → eqb x 0 ≡ p → composed (a ∷ s) ≡ onward (cond p (letter a 1) (letter x 3)) s
    plain h true e = plain_alone a s h (eqb-true x 0 e)
    plain h false e = composed_letter_lem a (pair_of b (get_or s 1 0)) (eqb-false x 0 e) (λ n. composed (a ∷ s) ≡ onward (letter n 3) s) (λ n k. plain_marked a s n h k)

    wide : is_plain a ≡ false → (p q : Bool) → eqb (pair_of a b) 0 ≡ p → is_mark (pair_of a b) ≡ q → composed (a ∷ s) ≡ onward (cond (p || q) (letter 0 0) (letter (pair_of a b) 2)) s
    wide h true q e f = ap composed_codes (read_none a s h (no_pair a b (eqb-true (pair_of a b) 0 e)))
    wide h false true e f =
        let p = is_pair_lem a b (eqb-false (pair_of a b) 0 e) in
        ap composed_codes (wide_first a s p) ∙ front_mark (pair_code a b) (read (drop 1 s)) (rw (pair_is a b p) at f)
    wide h false false e f = wide_front a s (is_pair_lem a b (eqb-false (pair_of a b) 0 e)) f

    go : (p : Bool) → is_plain a ≡ p → composed (a ∷ s) ≡ onward (cond p (plain_letter a x) (wide_letter (pair_of a b))) s
    go true h = plain h (eqb x 0) refl
    go false h = wide h (eqb (pair_of a b) 0) (is_mark (pair_of a b)) refl refl

-- Marks begin with 204.
pub code_parts : (a b : ℕ) → pair_code a b ≡ 64 * (a % 32) + b % 64
unfolding pair_code
code_parts a b = refl

pub mark_lead : (a b c : ℕ) → (b ≡ 204 → ⊥) → composed_letter a (pair_of b c) ≡ 0
mark_lead a b c h = zero_letter a (pair_of b c) (no_composition a (pair_of b c) (λ m x. h (lead m)))
  where
    lead : is_mark (pair_of b c) ≡ true → b ≡ 204
    lead m =
        let r = mark_range (pair_of b c) m in
        let p = is_pair_lem b c (λ z. omega arith) in
        let q = paired b c p in
        omega (arith, q.lead, q.most, pair_is b c p, code_parts b c)

-- The byte behind 204 tells the mark.
mark_code : (c : ℕ) → is_mark (640 + c) ≡ true → pair_of 204 c ≡ 640 + c
unfolding is_pair is_wide
mark_code c m =
    let r = mark_range (640 + c) m in
    let e : pair_code 204 c ≡ 640 + c = omega (arith, code_parts 204 c) in
    let p : is_pair 204 c ≡ true = rw (true_within 128 191 c (omega arith) (omega arith), e, m, or-true (within 160 383 (640 + c))) in
    pair_is 204 c p ∙ e

code_mark : (c : ℕ) → is_mark (pair_of 204 c) ≡ true → pair_of 204 c ≡ 640 + c
code_mark c m =
    let r = mark_range (pair_of 204 c) m in
    let p = is_pair_lem 204 c (λ z. omega arith) in
    let q = paired 204 c p in
    omega (arith, q.behind, q.behind_most, pair_is 204 c p, code_parts 204 c)

lettered_table : all (λ e. is_plain e.letter) table ≡ true
unfolding all table is_plain is_name_byte any
lettered_table = refl

-- A letter and a mark that compose.
parts_are : (l m : ℕ) → (composed_letter l m ≡ 0 → ⊥) → (is_plain l ≡ true) × (is_mark m ≡ true)
parts_are l m h = composed_letter_lem l m h (λ c. (is_plain l ≡ true) × (is_mark m ≡ true)) (λ e f. let g = composition_is l m e f in (rw (← g.0) (all_at (λ e. is_plain e.letter) table lettered_table g.2), rw (← g.1) (ranges e g.2).marks))

no_marked : (a c : ℕ) → composed_letter a (640 + c) ≡ 0 → composed_letter a (pair_of 204 c) ≡ 0
no_marked a c h = go (is_mark (pair_of 204 c)) refl
  where
    go : (b : Bool) → is_mark (pair_of 204 c) ≡ b → composed_letter a (pair_of 204 c) ≡ 0
    go true m = rw (code_mark c m) h
    go false m = zero_letter a (pair_of 204 c) (no_composition a (pair_of 204 c) (λ x y. false≢true (sym m ∙ x)))

-- The letter of two bytes.
module _ (a b x y : ℕ) (u : x ≡ a % 32) (v : y ≡ b % 64) where
  code_is : pair_code a b ≡ 64 * x + y
  code_is = rw (u, v) (code_parts a b)

  pub pair_there : (within 194 197 a && within 128 191 b && leb 160 (64 * x + y)) ≡ true → 64 * x + y ≡ letter_pair a b
  unfolding letter_pair is_pair
  pair_there t =
      let k = (and-eq-true_iff (within 194 197 a && within 128 191 b) (leb 160 (64 * x + y))).0 t in
      let l = (and-eq-true_iff (within 194 197 a) (within 128 191 b)).0 k.0 in
      let p = within_true 194 197 a l.0 in
      let q = within_true 128 191 b l.1 in
      let r = leb-true 160 (64 * x + y) k.1 in
      let w : is_wide (64 * x + y) ≡ true = wide_letter_lem (64 * x + y) r (omega (arith, u, v)) in
      let i : is_pair a b ≡ true = rw (true_within 192 223 a (omega arith) (omega arith), l.1, code_is, w) in
      let e : pair_of a b ≡ 64 * x + y = pair_is a b i ∙ code_is in
      rw (e, ne_eqb (64 * x + y) 0 (λ z. omega arith), no_mark_lem (64 * x + y) (λ f g. omega (arith, u, v)))

  pub pair_missing : (within 194 197 a && within 128 191 b && leb 160 (64 * x + y)) ≡ false → 0 ≡ letter_pair a b
  unfolding letter_pair
  pair_missing t = go (eqb (pair_of a b) 0) (is_mark (pair_of a b)) refl refl
    where
      there : eqb (pair_of a b) 0 ≡ false → is_mark (pair_of a b) ≡ false → (within 194 197 a && within 128 191 b && leb 160 (64 * x + y)) ≡ true
      there z m =
          let p = is_pair_lem a b (eqb-false (pair_of a b) 0 z) in
          let q = paired a b p in
          let n : is_mark (pair_code a b) ≡ false = rw (← pair_is a b p) m in
          let r = letter_range (pair_code a b) q.wide n in
          let c = code_parts a b in
          rw
          (true_within 194 197 a (omega (arith, q.lead, q.most, c, r.0)) (omega (arith, q.lead, q.most, c, r.1)), true_within 128 191 b q.behind q.behind_most, le-leb 160 (64 * x + y) (omega (arith, code_is, r.0)))

      go : (p q : Bool) → eqb (pair_of a b) 0 ≡ p → is_mark (pair_of a b) ≡ q → 0 ≡ cond (p || q) 0 (pair_of a b)
      go true q h k = refl
      go false true h k = refl
      go false false h k = absurd (false≢true (sym t ∙ there h k))

-- The ways to a letter with no mark.
module _ (a b : ℕ) (p : Bool) (f : p ≡ is_plain a) where
  pub lone_plain : p ≡ true → (x : ℕ) → x ≡ a → letter x 1 ≡ lone_letter a b
  unfolding lone_letter
  lone_plain t x e = rw (← f, t, e)

  module _ (t : p ≡ false) (x : ℕ) (g : x ≡ letter_pair a b) where
    code_told : (q r : Bool) → eqb (pair_of a b) 0 ≡ q → is_mark (pair_of a b) ≡ r → x ≡ cond (q || r) 0 (pair_of a b)
    unfolding letter_pair
    code_told q r h k = g ∙ rw (h, k)

    pub lone_missing : x ≡ 0 → letter 0 0 ≡ lone_letter a b
    unfolding lone_letter
    lone_missing z = rw (← f, t) (go (eqb (pair_of a b) 0) (is_mark (pair_of a b)) refl refl)
      where
        go : (q r : Bool) → eqb (pair_of a b) 0 ≡ q → is_mark (pair_of a b) ≡ r → letter 0 0 ≡ cond (q || r) (letter 0 0) (letter (pair_of a b) 2)
        go true r h k = refl
        go false true h k = refl
        go false false h k = absurd (eqb-false (pair_of a b) 0 h (sym (code_told false false h k) ∙ z))

    pub lone_wide : (x ≡ 0 → ⊥) → letter x 2 ≡ lone_letter a b
    unfolding lone_letter
    lone_wide z = rw (← f, t) (go (eqb (pair_of a b) 0) (is_mark (pair_of a b)) refl refl)
      where
        go : (q r : Bool) → eqb (pair_of a b) 0 ≡ q → is_mark (pair_of a b) ≡ r → letter x 2 ≡ cond (q || r) (letter 0 0) (letter (pair_of a b) 2)
        go true r h k = absurd (z (code_told true r h k))
        go false true h k = absurd (z (code_told false true h k))
        go false false h k = ap (λ (y : ℕ). letter y 2) (code_told false false h k)

-- How many bytes a letter has composed, and as typed.
pub encode_size : (c : ℕ) → (1 ≤ length (encode c)) × (length (encode c) ≤ 2)
unfolding encode
encode_size c = go (ltb c 128)
  where
    go : (b : Bool) → let v = cond b (c ∷ []) ((192 + c / 64 % 32) ∷ (128 + c % 64) ∷ []) in (1 ≤ length v) × (length v ≤ 2)
    go true = (omega arith, omega arith)
    go false = (omega arith, omega arith)

-- A letter is at most three bytes wide, and has no more when it is composed.
pub record Sizes (x : Letter) : Type 0 where
  pub most : x.width ≤ 3
  pub shorter : (x.width ≡ 0 → ⊥) → length (encode x.code) ≤ x.width

lone_sizes : (a b : ℕ) → Sizes (lone_letter a b)
unfolding lone_letter
lone_sizes a b = go (is_plain a) (eqb (pair_of a b) 0 || is_mark (pair_of a b)) refl
  where
    go : (p q : Bool) → is_plain a ≡ p → Sizes (cond p (letter a 1) (cond q (letter 0 0) (letter (pair_of a b) 2)))
    go true q h = record { most = omega arith; shorter = λ k. omega (arith, ap length (encode_plain a h)) }
    go false true h = record { most = omega arith; shorter = λ k. absurd (k refl) }
    go false false h = record { most = omega arith; shorter = λ k. (encode_size (pair_of a b)).1 }

pub of_sizes : (a b c : ℕ) → Sizes (letter_of a b c)
unfolding letter_of lone_letter
of_sizes a b c = go (composed_letter a (pair_of b c)) (eqb (composed_letter a (pair_of b c)) 0) (is_plain a) refl
  where
    lone : Sizes (lone_letter a b)
    lone = lone_sizes a b

    go : (x : ℕ) (z p : Bool) → is_plain a ≡ p → Sizes (cond p (cond z (letter a 1) (letter x 3)) (wide_letter (pair_of a b)))
    go x z false h = rw h at lone
    go x true true h = rw h at lone
    go x false true h = record { most = omega arith; shorter = λ k. omega (arith, (encode_size x).1) }

-- The ways to a letter, by the table T.
module _ (a b c : ℕ) (T : Type 0) where
  told_lone : (x : Letter) → x ≡ lone_letter a b → (T → composed_letter a (pair_of b c) ≡ 0) → LetterTold T x (letter_of a b c)
  unfolding letter_of lone_letter
  told_lone x e h = record { most = rw e (lone_sizes a b).most; shorter = rw e (lone_sizes a b).shorter; is = λ t. e ∙ rw (h t) }

  pub told_alone : (x : Letter) → x ≡ lone_letter a b → (b ≡ 204 → ⊥) → LetterTold T x (letter_of a b c)
  told_alone x e h = told_lone x e (λ t. mark_lead a b c h)

  module _ (y m z : ℕ) (g : y ≡ a) (h : m ≡ c) (t : b ≡ 204) (k : T → z ≡ composed_letter y (640 + m)) where
    pub told_unmarked : (x : Letter) → x ≡ lone_letter a b → z ≡ 0 → LetterTold T x (letter_of a b c)
    told_unmarked x e q = told_lone x e (λ s. rw t (no_marked a c (rw (g, h) at (sym (k s) ∙ q))))

    pub told_marked : (z ≡ 0 → ⊥) → LetterTold T (letter z 3) (letter_of a b c)
    unfolding letter_of
    told_marked q = record { most = omega arith; shorter = λ w. omega (arith, (encode_size z).1); is = there }
      where
        there : T → letter z 3 ≡ letter_of a b c
        there s =
            let e : z ≡ composed_letter a (640 + c) = rw (← g, ← h) (k s) in
            let r = parts_are a (640 + c) (λ n. q (e ∙ n)) in
            let o : composed_letter a (pair_of 204 c) ≡ z = rw (mark_code c r.1) (sym e) in
            rw (t, r.0, o, ne_eqb z 0 q)
