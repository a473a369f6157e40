-- Pages of a draft with their terms in place of numbers. A sheet is the identifier and the terms of a page.
use Prim.Native.Nat.{ℕ, zero, suc}
use mathlib.Core.Path.{refl}
use mathlib.Core.List.Memᴰ
use mathlib.Core.List.{List, [], ◌∷◌, ◌++◌, map, Memᴰ}
use Rattle.text.specs.Bytes.{Bytes}
use Rattle.language.specs.Register.{Page}
use Rattle.register_form.specs.Dictionary.{PageRow, Dictionary, identifier_of, text_in, term_in, categories_in, values_in}
use Rattle.register_join_draft.specs.Joined.{place_in, forms_in, key_of, keys_of, moved_term, join_names}

pub record Sheet : Type 0 where
  pub identifier : ℕ
  pub terms : List Bytes

-- The page that a sheet describes.
abbrev pub page_from : Dictionary → Sheet → Page
page_from D s = record { identifier = identifier_of (text_in D s.identifier); categories = categories_in D s.terms; values = values_in D s.terms }

-- The terms that forms are, moved.
unfoldable pub moved_terms : Dictionary → (ℕ → ℕ) → List ℕ → List ℕ → List Bytes
moved_terms d item names forms = map (λ f. moved_term d item names (term_in d f)) forms

module _ (d e : Dictionary) (item1 item2 : ℕ → ℕ) where
  -- What the second has of a page.
  unfoldable pub second_terms : ℕ → List Bytes
  second_terms x = moved_terms e item2 (join_names d e item1 item2) (forms_in e.pages (place_in (keys_of e item2) x))

  abbrev pub sheet_both : PageRow → Sheet
  sheet_both r = record { identifier = key_of d item1 r; terms = moved_terms d item1 (join_names d e item1 item2) r.forms ++ second_terms (key_of d item1 r) }

  abbrev pub sheet_second : ℕ → Sheet
  sheet_second x = record { identifier = x; terms = second_terms x }

-- Forms in a place are those of a row.
pub forms_row : (l : List PageRow) (n : ℕ) {f : ℕ} → Memᴰ f (forms_in l n) → (r : PageRow) × Memᴰ r l × Memᴰ f r.forms
forms_row l zero m = absurd (Memᴰ.not-nil m)
forms_row [] (suc i) m = absurd (Memᴰ.not-nil m)
forms_row (x ∷ l) (suc zero) m = (x, Memᴰ.head refl, m)
forms_row (x ∷ l) (suc (suc i)) m = let r = forms_row l (suc i) m in (r.0, Memᴰ.tail r.1, r.2)
