-- Working definitions: what is tested of bytes to know that they are the form of a register.
use Rattle.std.specs.Prelude.{ℕ, suc, ◌+◌, ◌*◌, ◌-◌, ◌≤◌, ◌<◌, ◌≡◌, Bool, true, false, cond, not, ◌&&◌, ltb, leb, eqb, length, get_or}
use mathlib.Core.List.{List, [], ◌∷◌, ◌++◌, map, flat_map}
use Rattle.text.specs.Bytes.{Bytes, order_of, any, all}
use Rattle.values.specs.declared.Kind.{Kind}
use Rattle.names.specs.Names.{is_composed_name, is_composed_property_name}
use Rattle.values.specs.Spelling.{spelling}
use Rattle.language.specs.Register.{distinct}
use Rattle.language.specs.Rules.{is_identifier, is_storable, total}
use Rattle.sorting.specs.Ascending.{ascends}
use Rattle.buffer.specs.Tests.{all_to, zeros_at}
use Rattle.register_form.specs.Dictionary.{PropertyRow, PageRow, Dictionary, space_of, name_of, identifier_of, group_of, term_code, is_category, text_in, term_in, property_in, category_of, held_of}
use Rattle.register_form.specs.Form.{page_count, property_count, term_count, text_count, register_size, forms_of, joined, form_start, text_start, dictionary_in}

-- A table of n numbers and one more begins with 0, does not fall, and ends at most at a number.
unfoldable pub rises : (ℕ → ℕ) → ℕ → ℕ → Bool
rises f n most = eqb (f 0) 0 && all_to n (λ i. leb (f i) (f (suc i))) && leb (f n) most

unfoldable pub is_counted : Bytes → Bool
is_counted h = leb (property_count h) 64 && leb (page_count h) 256 && leb (term_count h) 2048 && leb (text_count h) 2368

unfoldable pub is_padded : Bytes → Bool
is_padded h =
    zeros_at h (8 + 3 * property_count h) (192 - 3 * property_count h)
    && zeros_at h (200 + 2 * page_count h) (512 - 2 * page_count h)
    && zeros_at h (714 + 2 * page_count h) (512 - 2 * page_count h)
    && zeros_at h (1226 + 2 * form_start h (page_count h)) (4096 - 2 * form_start h (page_count h))
    && zeros_at h (5322 + 9 * term_count h) (18432 - 9 * term_count h)
    && zeros_at h (23756 + 2 * text_count h) (4736 - 2 * text_count h)
    && zeros_at h (28492 + text_start h (text_count h)) (35136 - text_start h (text_count h))

-- The bytes are laid out as those of a dictionary.
unfoldable pub is_laid : Bytes → Bool
is_laid h =
    eqb (length h) register_size
    && is_counted h
    && all_to (property_count h) (λ i. ltb (get_or h (8 + 3 * i) 0) 4)
    && rises (form_start h) (page_count h) 2048
    && rises (text_start h) (text_count h) 35136
    && is_padded h

-- Of the dictionary. A text's namespace ends within it; is empty.
unfoldable pub is_labelled : Bytes → Bool
is_labelled t = ltb (get_or t 0 0) (length t)

abbrev pub is_plain : Bytes → Bool
is_plain t = eqb (get_or t 0 0) 0

-- Of a page's terms: categories stand before values. The flag says that a value stands before them.
unfoldable pub in_order : Bool → List Bytes → Bool
in_order behind [] = true
in_order behind (t ∷ l) = not (behind && is_category t) && in_order (not (is_category t)) l

module _ (d : Dictionary) where
  unfoldable pub is_plain_number : ℕ → Bool
  is_plain_number x = ltb x (length d.texts) && is_plain (text_in d x)

  -- A code that some value of the kind has.
  unfoldable pub is_code : Kind → ℕ → Bool
  is_code Kind.Page c = ltb c (length d.texts)
  is_code (Kind.Scalar k) c = true
  is_code Kind.String c = is_plain_number c

  unfoldable pub is_term : Bytes → Bool
  is_term t = cond (is_category t) (is_plain_number (term_code t)) (leb (group_of t) (length d.properties) && is_code (property_in d (group_of t - 1)).kind (term_code t))

  unfoldable pub is_page_row : PageRow → Bool
  is_page_row p = ltb p.identifier (length d.texts) && all (λ f. ltb f (length d.terms)) p.forms && in_order false (map (term_in d) p.forms)

  -- The number of the text that a term names, if it names one.
  unfoldable pub code_texts : Kind → ℕ → List ℕ
  code_texts Kind.Page c = c ∷ []
  code_texts (Kind.Scalar k) c = []
  code_texts Kind.String c = c ∷ []

  unfoldable pub term_texts : Bytes → List ℕ
  term_texts t = cond (is_category t) (term_code t ∷ []) (code_texts (property_in d (group_of t - 1)).kind (term_code t))

  unfoldable pub text_uses : List ℕ
  text_uses = map (λ p. p.name) d.properties ++ (map (λ p. p.identifier) d.pages ++ flat_map term_texts d.terms)

  abbrev pub term_uses : List ℕ
  term_uses = flat_map forms_of d.pages

-- Each number below n is in the list.
unfoldable pub every_used : ℕ → List ℕ → Bool
every_used n uses = all_to n (λ i. any (eqb i) uses)

-- The dictionary is the one that encoding what it describes gives, where that is a register.
unfoldable pub is_canonical : Dictionary → Bool
is_canonical d =
    ascends order_of d.texts
    && all is_labelled d.texts
    && all (λ p. is_plain_number d p.name) d.properties
    && ascends order_of d.terms
    && all (is_term d) d.terms
    && all (is_page_row d) d.pages
    && every_used (length d.terms) (term_uses d)
    && every_used (length d.texts) (text_uses d)

-- The rules of what a canonical dictionary describes, told once for each row, term and text.
module _ (d : Dictionary) where
  unfoldable pub keeps_term : Bytes → Bool
  keeps_term t = cond (is_category t) (is_composed_name (category_of d t)) (is_storable (held_of d t).value)

  unfoldable pub keeps_property : PropertyRow → Bool
  keeps_property p = is_composed_property_name (name_of (text_in d p.name))

  unfoldable pub keeps_page : PageRow → Bool
  keeps_page r = is_identifier (identifier_of (text_in d r.identifier))

  -- The bytes that a term, a page's identifier and a property's name count for.
  unfoldable pub term_bytes : Bytes → ℕ
  term_bytes t = cond (is_category t) (length (category_of d t)) (length (spelling (held_of d t).value))

  unfoldable pub counted_bytes : ℕ
  counted_bytes =
      total (λ p. length (name_of (text_in d p.name))) d.properties
      + total (λ r. length (space_of (text_in d r.identifier)) + length (name_of (text_in d r.identifier))) d.pages
      + total (λ f. term_bytes (term_in d f)) (term_uses d)

  unfoldable pub keeps_rules : Bool
  keeps_rules =
      all keeps_property d.properties
      && distinct eqb (map (λ p. p.name) d.properties)
      && all keeps_term d.terms
      && all keeps_page d.pages
      && distinct eqb (map (λ r. r.identifier) d.pages)
      && all (λ r. distinct eqb r.forms) d.pages
      && leb counted_bytes 32768

-- What is tested of bytes. By `tested_is` it is that they are the form of a register.
unfoldable pub tested : Bytes → Bool
tested h = is_laid h && is_canonical (dictionary_in h) && keeps_rules (dictionary_in h)

-- Each number of the list has two bytes.
unfoldable pub Small : List ℕ → Type 0
Small l = (i : ℕ) → i < length l → get_or l i 0 < 65536

-- The dictionary fits the form: each region has room for what it holds, each number has two bytes, and each term has nine.
pub record Bounded (d : Dictionary) : Type 0 where
  pub properties : length d.properties ≤ 64
  pub pages : length d.pages ≤ 256
  pub terms : length d.terms ≤ 2048
  pub texts : length d.texts ≤ 2368
  pub forms : length (term_uses d) ≤ 2048
  pub bytes : length (joined d.texts) ≤ 35136
  pub names : Small (map (λ p. p.name) d.properties)
  pub identifiers : Small (map (λ p. p.identifier) d.pages)
  pub uses : Small (term_uses d)
  pub sized : (i : ℕ) → i < length d.terms → length (term_in d i) ≡ 9
