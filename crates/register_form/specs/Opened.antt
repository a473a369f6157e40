-- Working definitions: what is known of a held register that was opened.
use Rattle.std.specs.Prelude.{ℕ, zero, suc, ◌<◌, ◌≡◌, true, cond, List, [], ◌∷◌, eqb, length, get_or}
use Rattle.text.specs.Bytes.{Bytes}
use Rattle.language.specs.Register.{Page, Register}
use Rattle.language.specs.RegisterText.{empty_page}
use Rattle.register_form.specs.Dictionary.{PageRow, Dictionary}
use Rattle.register_form.specs.Form.{dictionary_in, register_in, is_form}

-- The page in a place; past the last one, a page of nothing.
unfoldable pub page_in : Register → ℕ → Page
page_in R i = get_or R.pages i (empty_page [] [])

-- One more, where there is something.
abbrev pub next : ℕ → ℕ
next zero = zero
next (suc n) = suc (suc n)

-- The place of the page whose identifier is text x, and 1 more; 0 where there is none.
unfoldable pub place_of : List PageRow → ℕ → ℕ
place_of [] x = 0
place_of (r ∷ l) x = cond (eqb r.identifier x) 1 (next (place_of l x))

-- The table has the place of each text that is a page's identifier.
unfoldable pub Places : Dictionary → List ℕ → Type 0
Places d places = (x : ℕ) → x < length d.texts → get_or places x 0 ≡ place_of d.pages x

-- The bytes are the form of R, and the table has the places of its pages.
pub record Opened (h : Bytes) (places : List ℕ) (R : Register) : Type 0 where
  pub form : is_form h ≡ true
  pub register : register_in h ≡ R
  pub pages : Places (dictionary_in h) places
