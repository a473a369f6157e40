-- Terms with new codes.
use Prim.Native.Nat.{ℕ, ◌+◌, ◌-◌, ◌*◌, ◌≤◌, ◌<◌}
use mathlib.Core.Path.{◌≡◌, refl, sym, ap, ◌∙◌}
use mathlib.Core.List.{List, [], ◌∷◌}
use native.Mathlib.Decide.{ℕ_discrete}
use native.Mathlib.Omega.{arith}
use lib.ListN.{length, get_or, set, length-set}
use lib.Seq.{get_or-set_same, get_or-set_other}
use borrow.Author.Tests.{eq-eqb, ne_eqb}
use Rattle.text.specs.Bytes.{Bytes}
use Rattle.text.proofs.Tables.{length_tabulate, get_d_tabulate}
use Rattle.values.specs.Values.{kind_from}
use Rattle.values.specs.declared.Kind.{Kind}
use Rattle.values.specs.declared.Scalar.{Scalar}
use Rattle.buffer.specs.Numbers.{eight_bytes}
use Rattle.register_form.specs.Dictionary.{term_of}
use Rattle.register_form.specs.Form.{joined}
use Rattle.buffer.specs.Writing.{written}
use Rattle.buffer.proofs.Written.{written_past, next}
use Rattle.buffer.proofs.Looping.{Rowing, rows_more, rows_all}
use Rattle.register_form_assembly.specs.Terms.{code_for, code_by, term_by, terms_by, Filling}

-- The new code of a form.
module _ (numbers : List ℕ) (c r : ℕ) where
  pub code_page : (k : Kind) → k ≡ Kind.Page → r ≡ get_or numbers c 0 → r ≡ code_for k numbers c
  code_page k e f = rw e f

  pub code_scalar : (k : Kind) (j : Scalar) → k ≡ Kind.Scalar j → c ≡ code_for k numbers c
  code_scalar k j e = rw e

  pub code_string : (k : Kind) → k ≡ Kind.String → r ≡ get_or numbers c 0 → r ≡ code_for k numbers c
  code_string k e f = rw e f

  module _ (kinds : List ℕ) (g : ℕ) where
    pub coded_category : g ≡ 0 → r ≡ get_or numbers c 0 → r ≡ code_by kinds numbers g c
    unfolding code_by
    coded_category e f = rw (eq-eqb g 0 e) f

    pub coded_value : (b : ℕ) (k : Kind) → (g ≡ 0 → ⊥) → b ≡ get_or kinds (g - 1) 0 → k ≡ kind_from b → r ≡ code_for k numbers c → r ≡ code_by kinds numbers g c
    unfolding code_by
    coded_value b k n d e f = rw (ne_eqb g 0 n, ← d, ← e) f

-- A term's bytes.
pub term_is : (h : Bytes) (at g c : ℕ) (k l : Bytes) → k ≡ written h at (g ∷ []) → l ≡ written k (at + 1) (eight_bytes c) → l ≡ written h at (term_of g c)
term_is h at g c k l e f = next h at (g ∷ []) (eight_bytes c) e f

pub ruleset coding = (code_page, code_scalar, code_string, coded_category, coded_value, term_is, written_past)

-- Terms one behind the other.
module _ (kinds numbers groups codes : List ℕ) (n : ℕ) (h₀ : Bytes) where
  abbrev pub Terming : Bytes → ℕ → Type 0
  Terming h i = Rowing (λ (t : Bytes). t) 9 [] h₀ 0 (terms_by kinds numbers groups codes n) h i

  module _ (h : Bytes) (i : ℕ) (r : Terming h i) where
    pub terms_more : (k g c x : ℕ) (l : Bytes) → i < n → k ≡ i → g ≡ get_or groups k 0 → c ≡ get_or codes k 0 → x ≡ code_by kinds numbers g c → l ≡ written h (9 * k) (term_of g x) → Terming l (i + 1)
    unfolding terms_by term_by
    terms_more k g c x l b d e f j q =
        let term : term_of g x ≡ term_by kinds numbers groups codes i = rw (j, f, e, d) in
        let place : 9 * k ≡ 0 + 9 * i = omega arith in
        rows_more (λ (t : Bytes). t) 9 [] h₀ 0 (terms_by kinds numbers groups codes n) h i r (term_of g x) l (rw length_tabulate b)
        (term ∙ sym (get_d_tabulate n (term_by kinds numbers groups codes) [] i b)) refl (rw place at q)

    pub terms_all : n ≤ i → h ≡ written h₀ 0 (joined (terms_by kinds numbers groups codes n))
    unfolding terms_by
    terms_all b = rows_all (λ (t : Bytes). t) 9 [] h₀ 0 (terms_by kinds numbers groups codes n) h i r (rw length_tabulate b)

module _ (f : ℕ → ℕ) (l₀ : List ℕ) where
  pub filling_more : (i : ℕ) (l u : List ℕ) (k v : ℕ) → Filling f l₀ i l → k ≡ i → v ≡ f i → u ≡ set l k v → Filling f l₀ (i + 1) u
  filling_more i l u k v a d e g = record { size = sized ∙ a.size; tabled = record { at = λ j h b. go j (ℕ_discrete j i) h b } }
    where
      sized : length u ≡ length l
      sized = ap length g ∙ length-set l k v

      u_is : u ≡ set l i v
      u_is = g ∙ rw d

      go : (j : ℕ) → Dec (j ≡ i) → j < i + 1 → j < length u → get_or u j 0 ≡ f j
      go j (yes p) h b =
          ap (λ (w : List ℕ). get_or w j 0) u_is ∙ ap (λ (x : ℕ). get_or (set l i v) x 0) p ∙ get_or-set_same l i v 0 (omega (arith, sized)) ∙ e ∙ ap f (sym p)
      go j (no p) h b = ap (λ (w : List ℕ). get_or w j 0) u_is ∙ get_or-set_other l i j v 0 p ∙ a.tabled.at j (omega (arith, p)) (omega (arith, sized))
