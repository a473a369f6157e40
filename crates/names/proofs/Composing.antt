-- Laws of composing code points: it ends in one step, and it keeps apart what decomposing keeps apart.
use Rattle.std.specs.Prelude.{Option, Some, None}
use Prim.Native.Nat.{ℕ, ◌≤◌}
use mathlib.Core.Path.{◌≡◌, refl, sym, ap, ◌∙◌}
use mathlib.Core.Bool.{Bool, true, false, cond, not, ◌&&◌, false≢true, and-eq-true_iff, or-true}
use mathlib.Core.List.{List, [], ◌∷◌, ◌++◌, Memᴰ}
use native.Mathlib.Omega.{arith}
use lib.ListN.{get_or}
use borrow.Author.Tests.{not-true}
use Rattle.text.specs.Bytes.{Bytes, all}
use Rattle.names.specs.Table.{Entry, table, composition, decomposition}
use Rattle.names.specs.Codes.{is_mark, is_plain, is_allowed, read, write}
use Rattle.names.specs.Names.{compose, decompose, parts, is_markless, composed, composed_codes, Equivalent}
use Rattle.names.proofs.Entries.{composes, decomposes, composition_is, decomposition_is, ranges}
use Rattle.names.proofs.Reading.{mark_range, wide_letter_lem, reading, reads_allowed, written_reads}

absurd_none : {A : Type 0} {B : Type 0} {a : A} → None ≡ Some a → B
absurd_none h = let z : ◌≡◌ {A = ℕ} 0 1 = cc in absurd (omega arith)

-- What the table has nothing for.
pub no_composition : (c d : ℕ) → (is_mark d ≡ true → c ≤ 122 → ⊥) → composition c d ≡ None
no_composition c d h = go (composition c d) refl
  where
    go : (o : Option Entry) → composition c d ≡ o → o ≡ None
    go None k = refl
    go (Some e) k =
        let i = composition_is c d e k in
        let r = ranges e i.2 in
        absurd (h (rw i.1 at r.marks) (omega (arith, i.0, r.letter_most)))

no_decomposition : (c : ℕ) → (192 ≤ c → c ≤ 383 → ⊥) → decomposition c ≡ None
no_decomposition c h = go (decomposition c) refl
  where
    go : (o : Option Entry) → decomposition c ≡ o → o ≡ None
    go None k = refl
    go (Some e) k =
        let i = decomposition_is c e k in
        let r = ranges e i.1 in
        absurd (h (omega (arith, i.0, r.composed_least)) (omega (arith, i.0, r.composed_most)))

pub no_mark_lem : (c : ℕ) → (768 ≤ c → c ≤ 808 → ⊥) → is_mark c ≡ false
no_mark_lem c h = go (is_mark c) refl
  where
    go : (b : Bool) → is_mark c ≡ b → b ≡ false
    go true k = let r = mark_range c k in absurd (h r.0 r.1)
    go false k = refl

-- One letter at the front.
pub compose_on : (c : ℕ) (l : List ℕ) → composition c (get_or l 0 0) ≡ None → compose (c ∷ l) ≡ c ∷ compose l
unfolding compose
compose_on c [] h = refl
compose_on c (d ∷ l) h = ap (λ (o : Option Entry). elim o [ Some e ↦ e.composed ∷ compose l | None ↦ c ∷ compose (d ∷ l) ]) h

pub compose_marked : (c d : ℕ) (l : List ℕ) (e : Entry) → composition c d ≡ Some e → compose (c ∷ d ∷ l) ≡ e.composed ∷ compose l
unfolding compose
compose_marked c d l e h = ap (λ (o : Option Entry). elim o [ Some e ↦ e.composed ∷ compose l | None ↦ c ∷ compose (d ∷ l) ]) h

-- How a text composes: one letter after the other.
pub data Composing : List ℕ → List ℕ → Type 0 where
  end : Composing [] []
  kept : {l k : List ℕ} (c : ℕ) → Composing l k → Composing (c ∷ l) (c ∷ k)
  marked : {l k : List ℕ} (c d : ℕ) (e : Entry) → composition c d ≡ Some e → Composing l k → Composing (c ∷ d ∷ l) (e.composed ∷ k)

pub composing : (l : List ℕ) → Composing l (compose l)
unfolding compose
composing [] = end
composing (c ∷ []) = kept c end
composing (c ∷ d ∷ l) = go (composition c d) refl (composing l) (composing (d ∷ l))
  where
    go : (o : Option Entry) → composition c d ≡ o → Composing l (compose l) → Composing (d ∷ l) (compose (d ∷ l))
        → Composing (c ∷ d ∷ l) (elim o [ Some e ↦ e.composed ∷ compose l | None ↦ c ∷ compose (d ∷ l) ])
    go None h rest more = kept c more
    go (Some e) h rest more = marked c d e h rest

-- Composing leaves allowed code points.
letter_allowed : (e : Entry) → Memᴰ e table → is_allowed e.composed ≡ true
letter_allowed e m = let r = ranges e m in rw (wide_letter_lem e.composed (omega (arith, r.composed_least)) r.composed_most, or-true (is_plain e.composed))

pub composed_allowed : {l k : List ℕ} → Composing l k → all is_allowed l ≡ true → all is_allowed k ≡ true
unfolding all
composed_allowed end h = refl
composed_allowed (kept {l} {k} c r) h =
    let x = (and-eq-true_iff (is_allowed c) (all is_allowed l)).0 h in
    rw x.0 (composed_allowed r x.1)
composed_allowed (marked {l} {k} c d e g r) h =
    let x = (and-eq-true_iff (is_allowed c) (is_allowed d && all is_allowed l)).0 h in
    let y = (and-eq-true_iff (is_allowed d) (all is_allowed l)).0 x.1 in
    rw (letter_allowed e (composition_is c d e g).2) (composed_allowed r y.1)

-- A text with no marks is composed.
markless_first : (l : List ℕ) → is_markless l ≡ true → is_mark (get_or l 0 0) ≡ false
unfolding all is_mark
markless_first [] h = refl
markless_first (c ∷ l) h = not-true (is_mark c) ((and-eq-true_iff (not (is_mark c)) (is_markless l)).0 h).0

pub markless_composed : (l : List ℕ) → is_markless l ≡ true → compose l ≡ l
unfolding all compose
markless_composed [] h = refl
markless_composed (c ∷ l) h =
    let k = ((and-eq-true_iff (not (is_mark c)) (is_markless l)).0 h).1 in
    compose_on c l (no_composition c (get_or l 0 0) (λ m x. false≢true (sym (markless_first l k) ∙ m)))
    ∙ ap (λ (x : List ℕ). c ∷ x) (markless_composed l k)

-- Composing changes no decomposition.
decompose_one : (c : ℕ) (l : List ℕ) (o : Option Entry) → decomposition c ≡ o → decompose (c ∷ l) ≡ parts c o ++ decompose l
unfolding decompose
decompose_one c l o h = rw h

pub composed_decomposes : {l k : List ℕ} → Composing l k → decompose k ≡ decompose l
composed_decomposes end = refl
composed_decomposes (kept {l} {k} c r) =
    decompose_one c k (decomposition c) refl
    ∙ ap (λ (x : List ℕ). parts c (decomposition c) ++ x) (composed_decomposes r)
    ∙ sym (decompose_one c l (decomposition c) refl)
composed_decomposes (marked {l} {k} c d e h r) =
    let i = composition_is c d e h in
    let g = ranges e i.2 in
    let m = mark_range e.mark g.marks in
    let x = decompose_one e.composed k (Some e) (decomposes e i.2) in
    let y = decompose_one c (d ∷ l) None (no_decomposition c (λ p q. omega (arith, i.0, g.letter_most))) in
    let z = decompose_one d l None (no_decomposition d (λ p q. omega (arith, i.1, m.0))) in
    rw (x, y, z, i.0, i.1, composed_decomposes r)

-- Composing undoes decomposing.
decomposed_first : (l : List ℕ) → is_markless l ≡ true → is_mark (get_or (decompose l) 0 0) ≡ false
unfolding all is_mark decompose
decomposed_first [] h = refl
decomposed_first (c ∷ l) h = go (decomposition c) refl
  where
    go : (o : Option Entry) → decomposition c ≡ o → is_mark (get_or (parts c o ++ decompose l) 0 0) ≡ false
    go None k = not-true (is_mark c) ((and-eq-true_iff (not (is_mark c)) (is_markless l)).0 h).0
    go (Some e) k = no_mark_lem e.letter (λ x y. omega (arith, (ranges e (decomposition_is c e k).1).letter_most))

pub decomposed_composes : (l : List ℕ) → is_markless l ≡ true → compose (decompose l) ≡ l
unfolding all compose decompose
decomposed_composes [] h = refl
decomposed_composes (c ∷ l) h = go (decomposition c) refl ((and-eq-true_iff (not (is_mark c)) (is_markless l)).0 h).1 (decomposed_composes l)
  where
    go : (o : Option Entry) → decomposition c ≡ o → is_markless l ≡ true → (is_markless l ≡ true → compose (decompose l) ≡ l) → compose (parts c o ++ decompose l) ≡ c ∷ l
    go None k t ih =
        compose_on c (decompose l) (no_composition c (get_or (decompose l) 0 0) (λ m x. false≢true (sym (decomposed_first l t) ∙ m)))
        ∙ ap (λ (x : List ℕ). c ∷ x) (ih t)
    go (Some e) k t ih =
        let i = decomposition_is c e k in
        compose_marked e.letter e.mark (decompose l) e (composes e i.1) ∙ rw (i.0, ih t)

-- What a composed form is made of.
pub record Form (s t : Bytes) : Type 0 where
  pub codes : List ℕ
  pub typed : read s ≡ Some codes
  pub markless : is_markless (compose codes) ≡ true
  pub is : write (compose codes) ≡ t

pub form : (s t : Bytes) → composed s ≡ Some t → Form s t
unfolding composed
form s t h = go (read s) refl h
  where
    codes_of : (l : List ℕ) → read s ≡ Some l → (b : Bool) → is_markless (compose l) ≡ b → cond b (Some (write (compose l))) None ≡ Some t → Form s t
    codes_of l e true f k = record { codes = l; typed = e; markless = f; is = cc }
    codes_of l e false f k = absurd_none k

    go : (o : Option (List ℕ)) → read s ≡ o → composed_codes o ≡ Some t → Form s t
    go None e k = absurd_none k
    go (Some l) e k = codes_of l e (is_markless (compose l)) refl k

-- A composed form reads as its composed code points.
form_reads : (s t : Bytes) (f : Form s t) → read t ≡ Some (compose f.codes)
form_reads s t f =
    rw (← f.is) (written_reads (compose f.codes) (composed_allowed (composing f.codes) (reads_allowed (reading s f.codes f.typed))))

-- "Composing twice is composing once."
pub composed_twice : (s t : Bytes) → composed s ≡ Some t → composed t ≡ Some t
unfolding composed
composed_twice s t h =
    let f = form s t h in
    rw (form_reads s t f, markless_composed (compose f.codes) f.markless, f.markless, f.is)

-- "Two names are equal exactly when their composed forms are"
module _ (s t u v : Bytes) (h : composed s ≡ Some u) (k : composed t ≡ Some v) where
  pub equivalent_composed : Equivalent s t → u ≡ v
  equivalent_composed e =
      let f = form s u h in
      let g = form t v k in
      let d : decompose f.codes ≡ decompose g.codes = (let z : Some (decompose f.codes) ≡ Some (decompose g.codes) = rw (f.typed, g.typed) at e in cc) in
      let c : compose f.codes ≡ compose g.codes =
      sym (decomposed_composes (compose f.codes) f.markless)
      ∙ ap compose (composed_decomposes (composing f.codes) ∙ d ∙ sym (composed_decomposes (composing g.codes)))
      ∙ decomposed_composes (compose g.codes) g.markless in
      sym f.is ∙ ap write c ∙ g.is

  pub composed_equivalent : u ≡ v → Equivalent s t
  composed_equivalent e =
      let f = form s u h in
      let g = form t v k in
      let c : compose f.codes ≡ compose g.codes = (let z : Some (compose f.codes) ≡ Some (compose g.codes) = sym (form_reads s u f) ∙ ap read e ∙ form_reads t v g in cc) in
      rw (f.typed, g.typed) (ap Some (sym (composed_decomposes (composing f.codes)) ∙ ap decompose c ∙ composed_decomposes (composing g.codes)))
