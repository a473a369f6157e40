-- Working definitions: a draft, which every call that makes a register hands to the one writer. It is a dictionary whose texts and
-- terms stand as they came, repeats too, and whose pages have their forms as they came.
use Rattle.std.specs.Prelude.{ℕ, ◌-◌, ◌<◌, ◌^◌, ◌≡◌, Bool, true, cond, not, List, [], ◌∷◌, ◌++◌, map, ltb, eqb, length}
use Rattle.text.specs.Bytes.{Bytes, order_of, same, any, all}
use Rattle.values.specs.declared.Kind.{Kind}
use Rattle.language.specs.Answer.{Answer, refused}
use Rattle.language.specs.Register.{Page, Register, distinct, same_property}
use Rattle.language.specs.RegisterText.{same_held}
use Rattle.language.specs.Rules.{is_within_limits}
use Rattle.sorting.specs.Ascending.{sorted, rank}
use Rattle.register_form.specs.Dictionary.{PropertyRow, PageRow, Dictionary, term_of, group_of, term_code, is_category, text_in, term_in, property_in, decode}
use Rattle.register_form.specs.Form.{stored}
use Rattle.register_form.specs.Tests.{is_labelled, is_plain_number, is_term, text_uses, term_uses, every_used}

-- The elements of a list behind those seen, each once: of those alike, the first stays.
unfoldable pub once_behind : {A : Type 0} → (A → A → Bool) → List A → List A → List A
once_behind alike seen [] = seen
once_behind alike seen (x ∷ l) = once_behind alike (cond (any (alike x) seen) seen (seen ++ (x ∷ []))) l

abbrev pub once : {A : Type 0} → (A → A → Bool) → List A → List A
once alike l = once_behind alike [] l

-- "Categories and values of a page are sets"
abbrev pub page_once : Page → Page
page_once p = record { identifier = p.identifier; categories = once same p.categories; values = once same_held p.values }

-- The register that a draft describes.
unfoldable pub drafted : Dictionary → Register
drafted d = record { properties = (decode d).properties; pages = map page_once (decode d).pages }

-- What a draft must keep: numbers name what is there, everything is used, no property is there twice.
pub record Draft (d : Dictionary) : Type 0 where
  pub labels : all is_labelled d.texts ≡ true
  pub names : all (λ p. is_plain_number d p.name) d.properties ≡ true
  pub identifiers : all (λ r. ltb r.identifier (length d.texts)) d.pages ≡ true
  pub terms : all (is_term d) d.terms ≡ true
  pub forms : all (λ f. ltb f (length d.terms)) (term_uses d) ≡ true
  pub terms_used : every_used (length d.terms) (term_uses d) ≡ true
  pub texts_used : every_used (length d.texts) (text_uses d) ≡ true
  pub properties_once : distinct same_property (decode d).properties ≡ true
  pub shaped : (i : ℕ) → i < length d.terms → term_of (group_of (term_in d i)) (term_code (term_in d i)) ≡ term_in d i
  -- the new number of a text is a code
  pub few : length d.texts < 2 ^ 64

-- The elements that pass a test.
unfoldable pub filtered : {A : Type 0} → (A → Bool) → List A → List A
filtered p [] = []
filtered p (x ∷ l) = cond (p x) (x ∷ filtered p l) (filtered p l)

module _ (d : Dictionary) where
  abbrev pub sorted_texts : List Bytes
  sorted_texts = sorted order_of d.texts

  -- The number that a text of the draft has among the sorted ones.
  unfoldable pub new_number : ℕ → ℕ
  new_number x = rank order_of (text_in d x) sorted_texts

  unfoldable pub new_code : Kind → ℕ → ℕ
  new_code Kind.Page c = new_number c
  new_code (Kind.Scalar k) c = c
  new_code Kind.String c = new_number c

  -- A term of the draft with the new number of its text.
  unfoldable pub new_term : Bytes → Bytes
  new_term t = term_of (group_of t) (cond (is_category t) (new_number (term_code t)) (new_code (property_in d (group_of t - 1)).kind (term_code t)))

  unfoldable pub sorted_terms : List Bytes
  sorted_terms = sorted order_of (map new_term d.terms)

  unfoldable pub new_form : ℕ → ℕ
  new_form f = rank order_of (new_term (term_in d f)) sorted_terms

  -- A page's forms: categories first, each once.
  abbrev pub categories_first : List ℕ → List ℕ
  categories_first l = filtered (λ f. is_category (term_in d f)) l ++ filtered (λ f. not (is_category (term_in d f))) l

  unfoldable pub new_forms : List ℕ → List ℕ
  new_forms l = once eqb (map new_form (categories_first l))

  abbrev pub new_property : PropertyRow → PropertyRow
  new_property p = record { kind = p.kind; name = new_number p.name }

  abbrev pub new_page : PageRow → PageRow
  new_page r = record { identifier = new_number r.identifier; forms = new_forms r.forms }

  -- The dictionary that the writer makes of a draft. By `assembled_is` it is that of the register that the draft describes.
  unfoldable pub assembled : Dictionary
  assembled =
      record {
        properties = map new_property d.properties;
        pages = map new_page d.pages;
        terms = sorted_terms;
        texts = sorted_texts;
      }

-- What writing a register into a buffer answers: 7 where it is over a limit, else what storing it does.
unfoldable pub write_into : Register → Bytes → Answer Bytes
write_into R b = cond (is_within_limits R) (stored R b) (refused 7)
