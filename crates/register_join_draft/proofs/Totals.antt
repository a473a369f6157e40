-- A join has at most the forms of both.
use Rattle.register_form.proofs.Totals.{length_flat, total_most, total_same}
use Prim.Native.Nat.{ℕ, ◌+◌, ◌≤◌}
use mathlib.Core.Path.{◌≡◌, refl, ap, ◌∙◌}
use mathlib.Core.Bool.{Bool, true, false, cond, not}
use mathlib.Core.List.{List, [], ◌∷◌, ◌++◌, map, flat_map}
use native.Mathlib.Omega.{arith}
use lib.Dec.{eqb}
use lib.ListN.{length, length-append, length-map}
use borrow.Author.Tests.{not-true, eqb-true}
use Rattle.text.specs.Bytes.{any}
use Rattle.language.specs.Register.{distinct}
use Rattle.language.specs.Rules.{total}
use Rattle.language.specs.Joining.{only_in}
use Rattle.language.proofs.Members.{and_true, or_false}
use Rattle.language.proofs.Unions.{union_distinct}
use Rattle.register_form.specs.Dictionary.{PageRow, Dictionary}
use Rattle.register_form.specs.Opened.{next}
use Rattle.register_form.specs.Form.{forms_of}
use Rattle.register_form.specs.Tests.{term_uses}
use Rattle.register_join_draft.specs.Joined.{place_in, forms_in, key_of, keys_of, second_forms, row_both, row_second, join_pages}
use Rattle.register_join_draft.proofs.Texts.{eqb_likeness}
use Rattle.register_join_draft.proofs.Pages.{forms_behind}

module _ {A : Type 0} where
  total_append : (f : A → ℕ) (l m : List A) → total f (l ++ m) ≡ total f l + total f m
  unfolding total
  total_append f [] m = omega arith
  total_append f (x ∷ l) m = omega (arith, total_append f l m)

  total_add : (f g : A → ℕ) (l : List A) → total (λ a. f a + g a) l ≡ total f l + total g l
  unfolding total
  total_add f g [] = refl
  total_add f g (x ∷ l) = omega (arith, total_add f g l)

  total_map : {B : Type 0} (f : B → ℕ) (g : A → B) (l : List A) → total f (map g l) ≡ total (λ a. f (g a)) l
  unfolding total
  total_map f g [] = refl
  total_map f g (x ∷ l) = omega (arith, total_map f g l)

total_zero : {A : Type 0} (l : List A) → total (λ (x : A). 0) l ≡ 0
unfolding total
total_zero [] = refl
total_zero (x ∷ l) = omega (arith, total_zero l)

total_step : {A : Type 0} (f : A → ℕ) (x : A) (l : List A) → total f (x ∷ l) ≡ f x + total f l
unfolding total
total_step f x l = refl

-- Among numbers of which no two are the same, one is k at most.
none_more : (k a : ℕ) (l : List ℕ) → any (eqb k) l ≡ false → total (λ x. cond (eqb k x) a 0) l ≡ 0
unfolding total any
none_more k a [] h = refl
none_more k a (x ∷ l) h = let t = or_false (eqb k x) (any (eqb k) l) h in rw t.0 (omega (arith, none_more k a l t.1))

one_most : (k a : ℕ) (l : List ℕ) → distinct eqb l ≡ true → total (λ x. cond (eqb k x) a 0) l ≤ a
unfolding total distinct
one_most k a [] h = omega arith
one_most k a (x ∷ l) h =
    let t = and_true (not (any (eqb x) l)) (distinct eqb l) h in
    go (eqb k x) refl (not-true _ t.0) (one_most k a l t.1)
  where
    go : (c : Bool) → eqb k x ≡ c → any (eqb x) l ≡ false → total (λ x. cond (eqb k x) a 0) l ≤ a → cond c a 0 + total (λ x. cond (eqb k x) a 0) l ≤ a
    go true e n i = omega (arith, none_more k a l (ap (λ (y : ℕ). any (eqb y) l) (eqb-true k x e) ∙ n))
    go false e n i = omega arith

-- What pages have by keys of which no two are the same is at most what all have.
by_keys : (key : PageRow → ℕ) (l : List PageRow) (keys : List ℕ) → distinct eqb keys ≡ true → total (λ x. length (forms_in l (place_in (map key l) x))) keys ≤ total (λ r. length r.forms) l
unfolding place_in
by_keys key [] keys h = omega (arith, total_zero keys)
by_keys key (r ∷ l) keys h =
    omega (
      arith,
      total_most (λ x. length (forms_in (r ∷ l) (cond (eqb (key r) x) 1 (next (place_in (map key l) x))))) (λ x. cond (eqb (key r) x) (length r.forms) 0 + length (forms_in l (place_in (map key l) x))) keys (λ x. at x (eqb (key r) x)),
      total_add (λ x. cond (eqb (key r) x) (length r.forms) 0) (λ x. length (forms_in l (place_in (map key l) x))) keys,
      one_most (key r) (length r.forms) keys h,
      by_keys key l keys h,
      total_step (λ r. length r.forms) r l,
    )
  where
    at : (x : ℕ) (c : Bool) → length (forms_in (r ∷ l) (cond c 1 (next (place_in (map key l) x)))) ≤ cond c (length r.forms) 0 + length (forms_in l (place_in (map key l) x))
    at x true = omega arith
    at x false = omega (arith, ap length (forms_behind r l (place_in (map key l) x)))

module _ (d e : Dictionary) (item1 item2 : ℕ → ℕ) (once1 : distinct eqb (keys_of d item1) ≡ true) (once2 : distinct eqb (keys_of e item2) ≡ true) where
  abbrev second : ℕ → ℕ
  second x = length (forms_in e.pages (place_in (keys_of e item2) x))

  second_length : (x : ℕ) → length (second_forms d e item1 item2 x) ≡ second x
  unfolding second_forms
  second_length x = length-map (forms_in e.pages (place_in (keys_of e item2) x)) (λ f. length d.terms + f)

  pub pages_few : length (flat_map forms_of (join_pages d e item1 item2)) ≤ length (term_uses d) + length (term_uses e)
  unfolding join_pages keys_of
  pages_few =
      let only = only_in eqb (keys_of d item1) (keys_of e item2) in
      omega (
        arith,
        length_flat forms_of (map (row_both d e item1 item2) d.pages ++ map (row_second d e item1 item2) only),
        total_append (λ r. length (forms_of r)) (map (row_both d e item1 item2) d.pages) (map (row_second d e item1 item2) only),
        total_map (λ r. length (forms_of r)) (row_both d e item1 item2) d.pages,
        total_map (λ r. length (forms_of r)) (row_second d e item1 item2) only,
        total_same (λ r. length (row_both d e item1 item2 r).forms) (λ r. length r.forms + second (key_of d item1 r)) d.pages both,
        total_add (λ r. length r.forms) (λ r. second (key_of d item1 r)) d.pages,
        total_map second (key_of d item1) d.pages,
        total_same (λ x. length (second_forms d e item1 item2 x)) second only second_length,
        total_append second (map (key_of d item1) d.pages) only,
        by_keys (key_of e item2) e.pages (map (key_of d item1) d.pages ++ only) (union_distinct eqb_likeness (keys_of d item1) (keys_of e item2) once1 once2),
        length_flat forms_of d.pages,
        length_flat forms_of e.pages,
      )
    where
      both : (r : PageRow) → length (row_both d e item1 item2 r).forms ≡ length r.forms + second (key_of d item1 r)
      both r = length-append r.forms (second_forms d e item1 item2 (key_of d item1 r)) ∙ ap (λ (n : ℕ). length r.forms + n) (second_length (key_of d item1 r))
