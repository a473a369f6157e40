-- The lines of the marked pages, the list and a refusal.
use Rattle.std.specs.Prelude.{Some}
use Prim.Native.Nat.{ℕ, zero, suc, ◌+◌, ◌≤◌, ◌<◌}
use mathlib.Core.Path.{◌≡◌, refl, sym, ap, ap₂, ◌∙◌, subst}
use mathlib.Core.Bool.{Bool, true, false, cond}
use mathlib.Core.List.{[], ◌∷◌, ◌++◌}
use native.Mathlib.Omega.{arith}
use borrow.Author.Tests.{eq-eqb, ne_eqb}
use lib.Dec.{eqb}
use lib.ListN.{length, get_or, take, length-map}
use Rattle.text.specs.Bytes.{Bytes, bytes, part}
use Rattle.text.specs.Table.{tabulate}
use Rattle.text.proofs.Tables.{length_tabulate}
use Rattle.language.specs.Answer.{only_if}
use Rattle.language.specs.Register.{Page, Register}
use Rattle.language.proofs.Rules.{register_rules}
use Rattle.register_form.specs.Dictionary.{decode_page, decode}
use Rattle.register_form.specs.Form.{page_count, register_size, page_at, dictionary_in, register_in, is_form, held_register}
use Rattle.register_form.specs.Opened.{page_in}
use Rattle.register_form.proofs.Forms.{held_is}
use Rattle.register_form.proofs.Rules.{within}
use Rattle.program_listing.specs.Listing.{decimal, name_line, line_of, lines_to}
use Rattle.program_listing.specs.Appends.{Appends}
use Rattle.program_listing.specs.Answering.{is_marked, AppendsPage, AppendsLines, AppendsList, AppendsRefusal}
use Rattle.program_listing.proofs.Appending.{appends_none, appends_then}

pub lines_same : (n : ℕ) (f g : ℕ → Bool) (page : ℕ → Page) → ((i : ℕ) → i < n → f i ≡ g i) → lines_to n f page ≡ lines_to n g page
unfolding lines_to
lines_same zero f g page h = refl
lines_same (suc n) f g page h =
    ap₂ (λ x b. x ++ cond b (line_of n (page n)) []) (lines_same n f g page (λ i l. h i (omega (arith, l)))) (h n (omega arith))

-- put_page
module _ (h : Bytes) (i mark : ℕ) (b : Bytes) (at : ℕ) where
  pub page_unmarked : (mark ≡ 1 → ⊥) → AppendsPage h i mark b at b at
  unfolding AppendsPage
  page_unmarked f l = rw (ne_eqb mark 1 f) (appends_none b at)

  pub page_marked : (x y after : Bytes) (w r : ℕ) → mark ≡ 1 → x ≡ (page_in (register_in h) i).identifier.namespace → y ≡ (page_in (register_in h) i).identifier.article → w ≡ i → (w < 1000 → Appends b at (name_line w x y) after r) → AppendsPage h i mark b at after r
  unfolding AppendsPage
  page_marked x y after w r e f g j p l = rw (eq-eqb mark 1 e, ← f, ← g, ← j) (p (omega arith))

-- put_lines
module _ (h marks : Bytes) (b : Bytes) (at : ℕ) where
  pub lines_none : AppendsLines h marks 0 b at b at
  unfolding AppendsLines lines_to
  lines_none l = appends_none b at

  pub lines_more : (i w x m n : ℕ) (g k : Bytes) → AppendsLines h marks i b at g m → w ≡ i → x ≡ get_or marks w 0 → AppendsPage h i x g m k n → AppendsLines h marks (i + 1) b at k n
  unfolding AppendsLines AppendsPage lines_to
  lines_more i w x m n g k p j e q l =
      let next : i + 1 ≡ suc i = omega arith in
      let byte : x ≡ get_or marks i 0 = e ∙ ap (λ (y : ℕ). get_or marks y 0) j in
      let line : Appends g m (cond (is_marked marks i) (line_of i (page_in (register_in h) i)) []) k n = subst (λ y. Appends g m (cond (eqb y 1) (line_of i (page_in (register_in h) i)) []) k n) byte (q (omega arith)) in
      subst (λ j. Appends b at (lines_to j (is_marked marks) (page_in (register_in h))) k n) (sym next) (appends_then b g k (lines_to i (is_marked marks) (page_in (register_in h))) (cond (is_marked marks i) (line_of i (page_in (register_in h) i)) []) at m n (p (omega arith)) line)

  pub lines_all : (i m n : ℕ) (g : Bytes) → AppendsLines h marks i b at g m → i ≤ n → n ≤ i → AppendsLines h marks n b at g m
  lines_all i m n g p l f =
      let e : i ≡ n = omega (arith, l, f) in
      subst (λ j. AppendsLines h marks j b at g m) e p

pub ruleset line-ways = (lines_none, lines_more, lines_all)

-- how many pages the bytes describe
pages_count : (h : Bytes) → length (register_in h).pages ≡ page_count h
unfolding register_in decode dictionary_in
pages_count h = length-map (tabulate (page_count h) (page_at h)) (decode_page (dictionary_in h)) ∙ length_tabulate (page_count h) (page_at h)

-- what is held is what the first bytes describe
held_reads : (h : Bytes) (R : Register) → held_register h ≡ Some R → register_in (take register_size h) ≡ R
unfolding held_register
held_reads h R e = go (is_form (take register_size h)) e
  where
    go : (b : Bool) → only_if b (Some (register_in (take register_size h))) ≡ Some R → register_in (take register_size h) ≡ R
    go true e = cc
    go false e = absurd (let y : ◌≡◌ {A = ℕ} 0 1 = cc in omega arith)

-- put_list
pub list_done : (held h marks out a b c after : Bytes) (count k m n p r : ℕ)
    → h ≡ part held 0 register_size → p ≡ page_count h
    → Appends out 0 (bytes "pages ") a k → (count < 1000 → Appends a k (decimal count) b m) → Appends b m (10 ∷ []) c n → AppendsLines h marks p c n after r
    → AppendsList held count marks out after r
unfolding AppendsList AppendsLines
list_done held h marks out a b c after count k m n p r is pages one two three four R e few =
    let reads : register_in h ≡ R = ap register_in is ∙ held_reads held R e in
    let size : p ≡ length R.pages = pages ∙ sym (pages_count h) ∙ ap (λ (x : Register). length x.pages) reads in
    let most = (within R (register_rules R (held_is held R e).0).limits).pages in
    let lines : Appends c n (lines_to (length R.pages) (is_marked marks) (page_in R)) after r = subst (λ j. Appends c n (lines_to j (is_marked marks) (page_in R)) after r) size (subst (λ (x : Register). Appends c n (lines_to p (is_marked marks) (page_in x)) after r) reads (four (omega arith))) in
    appends_then out c after _ (lines_to (length R.pages) (is_marked marks) (page_in R)) 0 n r
    (appends_then out b c _ (10 ∷ []) 0 m n
    (appends_then out a b (bytes "pages ") (decimal count) 0 k m one (two few)) three) lines

-- put_refusal
pub refusal_done : (n : ℕ) (out a b after : Bytes) (k m r : ℕ) → Appends out 0 (bytes "refused ") a k → (n < 1000 → Appends a k (decimal n) b m) → Appends b m (10 ∷ []) after r → AppendsRefusal n out after r
unfolding AppendsRefusal
refusal_done n out a b after k m r one two three few =
    appends_then out b after _ (10 ∷ []) 0 m r (appends_then out a b (bytes "refused ") (decimal n) 0 k m one (two few)) three
