-- The dictionary of a register.
use Rattle.std.specs.Prelude.{ℕ, suc, cond}
use mathlib.Core.List.{List, [], ◌∷◌, ◌++◌, map, flat_map}
use Rattle.text.specs.Bytes.{Bytes, order_of, same}
use Rattle.values.specs.Names.{Identifier}
use Rattle.values.specs.Values.{scalar, string, Value, plain, link}
use Rattle.language.specs.Register.{Property, Held, Page, Register}
use Rattle.sorting.specs.Ascending.{sorted, rank}
use Rattle.register_form.specs.Dictionary.{PropertyRow, PageRow, Dictionary, labelled, term_of}

abbrev pub plain_text : Bytes → Bytes
plain_text x = labelled [] x

abbrev pub identifier_text : Identifier → Bytes
identifier_text i = labelled i.namespace i.article

-- The texts of a value, of a page and of a register, as often as they occur.
unfoldable pub value_texts : Value → List Bytes
value_texts (plain (scalar k c)) = []
value_texts (plain (string s)) = plain_text s ∷ []
value_texts (link i) = identifier_text i ∷ []

unfoldable pub page_texts : Page → List Bytes
page_texts p = identifier_text p.identifier ∷ (map plain_text p.categories ++ flat_map (λ h. value_texts h.value) p.values)

unfoldable pub texts_in : Register → List Bytes
texts_in R = map (λ p. plain_text p.name) R.properties ++ flat_map page_texts R.pages

-- Each once, in ascending order.
unfoldable pub texts_of : Register → List Bytes
texts_of R = sorted order_of (texts_in R)

-- Where x stands among the properties.
unfoldable pub place_among : List Property → Bytes → ℕ
place_among [] x = 0
place_among (p ∷ l) x = cond (same p.name x) 0 (suc (place_among l x))

-- The code of a value, by the texts of a dictionary.
unfoldable pub value_code : List Bytes → Value → ℕ
value_code texts (plain (scalar k c)) = c
value_code texts (plain (string s)) = rank order_of (plain_text s) texts
value_code texts (link i) = rank order_of (identifier_text i) texts

module _ (R : Register) where
  unfoldable pub category_term : Bytes → Bytes
  category_term x = term_of 0 (rank order_of (plain_text x) (texts_of R))

  unfoldable pub value_term : Held → Bytes
  value_term h = term_of (suc (place_among R.properties h.property)) (value_code (texts_of R) h.value)

  -- The terms of a page: categories, then values, "in first-written order".
  unfoldable pub page_terms : Page → List Bytes
  page_terms p = map category_term p.categories ++ map value_term p.values

  unfoldable pub terms_of : List Bytes
  terms_of = sorted order_of (flat_map page_terms R.pages)

  unfoldable pub encode_property : Property → PropertyRow
  encode_property p = record { kind = p.kind; name = rank order_of (plain_text p.name) (texts_of R) }

  unfoldable pub encode_page : Page → PageRow
  encode_page p =
      record {
        identifier = rank order_of (identifier_text p.identifier) (texts_of R);
        forms = map (λ t. rank order_of t terms_of) (page_terms p);
      }

  unfoldable pub encode : Dictionary
  encode =
      record {
        properties = map encode_property R.properties;
        pages = map encode_page R.pages;
        terms = terms_of;
        texts = texts_of R;
      }
