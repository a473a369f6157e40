-- Working definitions: what each function tests and writes, over tables of numbers.
use Rattle.std.specs.Prelude.{ℕ, zero, suc, ◌+◌, ◌*◌, ◌-◌, ◌≤◌, ◌<◌, ◌≡◌, Bool, false, cond, not, ◌&&◌, ◌||◌, List, ltb, leb, eqb, length, get_or, Option, is_some, IfSome, OnSome}
use Rattle.text.specs.Bytes.{Bytes, part}
use Rattle.values.specs.Values.{in_range, kind_count}
use Rattle.values.specs.declared.Kind.{Kind}
use Rattle.names.specs.Names.{is_composed_property_name}
use Rattle.values.specs.ByteRules.{name_class}
use Rattle.values.specs.Spelling.{spell_scalar}
use Rattle.language.specs.Rules.{is_identifier}
use Rattle.buffer.specs.Numbers.{two_at}
use Rattle.register_form.specs.Dictionary.{name_of, identifier_of, group_of, term_code, is_category}
use Rattle.register_form.specs.Form.{page_count, property_count, term_count, text_count, property_at, page_at, form_start, form_at, term_at, text_start, text_at}
use Rattle.register_form.specs.Tests.{is_labelled, is_plain}
use Rattle.buffer.specs.Tests.{all_to, zeros_at}
use Rattle.register_form_test.specs.Loops.{written, sum_to, climbs, is_set}
use Rattle.register_form_test.specs.declared.Judged.{Judged}

-- What a text may be: 3 an identifier with a namespace, 2 a name, 1 a value that is no name, 0 none of these.
unfoldable pub class_of : Bytes → ℕ
class_of t =
    cond (is_plain t)
    (name_class (name_of t))
    (cond (is_identifier (identifier_of t)) 3 0)

-- Of a term that names no text: whether it keeps the rules, the number 65,535, past every table, for that of a text, and how many
-- bytes it counts for.
unfoldable pub no_text : Bool → ℕ → Judged
no_text ok n = record { ok = ok; text = 65535; bytes = n }

-- Of a text, over the tables of the texts used and of places: it is used.
unfoldable pub used_test : List ℕ → List ℕ → ℕ → Bool
used_test used places x = is_set used x || is_set places x

module _ (h : Bytes) where
  -- Of the layout.
  unfoldable pub are_rows_padded : Bool
  are_rows_padded =
      zeros_at h (8 + 3 * property_count h) (192 - 3 * property_count h)
      && zeros_at h (200 + 2 * page_count h) (512 - 2 * page_count h)
      && zeros_at h (714 + 2 * page_count h) (512 - 2 * page_count h)
      && zeros_at h (1226 + 2 * form_start h (page_count h)) (4096 - 2 * form_start h (page_count h))

  unfoldable pub kind_test : ℕ → Bool
  kind_test p = ltb (get_or h (8 + 3 * p) 0) kind_count

  unfoldable pub start_at : ℕ → ℕ → ℕ
  start_at table i = two_at h (table + 2 * i)

  unfoldable pub rise_test : ℕ → ℕ → Bool
  rise_test table i = leb (start_at table i) (start_at table (suc i))

  -- Of the texts.
  unfoldable pub text_test : ℕ → Bool
  text_test x = is_labelled (text_at h x) && climbs (text_at h) x

  abbrev pub classes_to : ℕ → List ℕ → List ℕ
  classes_to n classes = written (λ x. x) (λ x. class_of (text_at h x)) n classes

  -- The table has the class of each text.
  abbrev pub Classed : List ℕ → Type 0
  Classed classes = (x : ℕ) → x < text_count h → get_or classes x 0 ≡ class_of (text_at h x)

  unfoldable pub text_length : ℕ → ℕ
  text_length x = text_start h (suc x) - text_start h x

  -- Of the properties, over a table of the texts used.
  abbrev pub name_number : ℕ → ℕ
  name_number p = (property_at h p).name

  unfoldable pub property_ok : List ℕ → ℕ → Bool
  property_ok used x = ltb x (text_count h) && is_plain (text_at h x) && is_composed_property_name (name_of (text_at h x)) && eqb (get_or used x 0) 0

  abbrev pub names_to : ℕ → List ℕ → List ℕ
  names_to n used = written name_number (λ p. 1) n used

  unfoldable pub property_test : List ℕ → ℕ → Bool
  property_test used p = property_ok (names_to p used) (name_number p)

  unfoldable pub property_length : ℕ → ℕ
  property_length p = text_length (name_number p) - 1

  pub record PropertiesTested (used used' : List ℕ) (r : Option ℕ) : Type 0 where
    pub ok : is_some r ≡ all_to (property_count h) (property_test used)
    pub bytes : IfSome r (λ b. b ≡ sum_to (property_count h) property_length)
    pub marks : used' ≡ names_to (property_count h) used
    pub most : IfSome r (λ b. b ≤ 4294967296)

  -- Of a term, over the table of classes.
  unfoldable pub spelled_length : ℕ → ℕ → ℕ
  spelled_length class x = cond (eqb class 3) (text_length x) (text_length x - 1)

  -- A text whose class is of a range.
  unfoldable pub judged_in : ℕ → ℕ → ℕ → ℕ → Judged
  judged_in low high class x =
      record {
        ok = leb low class && leb class high && leb (spelled_length class x) 64;
        text = x;
        bytes = spelled_length class x;
      }

  module _ (classes : List ℕ) where
    unfoldable pub judged_text : ℕ → ℕ → ℕ → Judged
    judged_text low high c = cond (ltb c (text_count h)) (judged_in low high (get_or classes c 0) c) (no_text false 0)

    unfoldable pub judged_value : Kind → ℕ → Judged
    judged_value Kind.Page c = judged_text 2 3 c
    judged_value (Kind.Scalar k) c = no_text (in_range k c) (length (spell_scalar k c))
    judged_value Kind.String c = judged_text 1 2 c

    unfoldable pub judged_group : ℕ → ℕ → Judged
    judged_group g c = cond (eqb g 0) (judged_text 2 2 c) (cond (leb g (property_count h)) (judged_value (property_at h (g - 1)).kind c) (no_text false 0))

    unfoldable pub judged_term : ℕ → Judged
    judged_term f = judged_group (group_of (term_at h f)) (term_code (term_at h f))

    unfoldable pub term_test : ℕ → Bool
    term_test f = (judged_term f).ok && climbs (term_at h) f

    abbrev pub named_to : ℕ → List ℕ → List ℕ
    named_to n used = written (λ f. (judged_term f).text) (λ f. 1) n used

    abbrev pub shown_to : ℕ → List ℕ → List ℕ
    shown_to n shown = written (λ f. f) (λ f. (judged_term f).bytes) n shown

  pub record TermsTested (classes used shown used' shown' : List ℕ) (ok : Bool) : Type 0 where
    pub is : ok ≡ all_to (term_count h) (term_test classes)
    pub marks : used' ≡ named_to classes (term_count h) used
    pub lengths : shown' ≡ shown_to classes (term_count h) shown

  -- Of the forms of page i, over a table of the last page, told by its mark, that has a term.
  unfoldable pub form_count : ℕ → ℕ
  form_count i = form_start h (suc i) - form_start h i

  unfoldable pub form_in : ℕ → ℕ → ℕ
  form_in i j = form_at h (form_start h i + j)

  -- The bytes of the forms of page i.
  unfoldable pub form_bytes : ℕ → Bytes
  form_bytes i = part h (1226 + 2 * form_start h i) (2 * form_count i)

  -- The form before is a value.
  unfoldable pub behind_at : ℕ → ℕ → Bool
  behind_at i zero = false
  behind_at i (suc j) = not (is_category (term_at h (form_in i j)))

  unfoldable pub form_ok : List ℕ → ℕ → Bool → ℕ → Bool
  form_ok last mark behind f = ltb f (term_count h) && not (eqb (get_or last f 0) mark) && not (behind && is_category (term_at h f))

  abbrev pub last_by : ℕ → ℕ → ℕ → List ℕ → List ℕ
  last_by mark i n last = written (form_in i) (λ j. mark) n last

  unfoldable pub form_test : ℕ → List ℕ → ℕ → ℕ → Bool
  form_test mark last i j = form_ok (last_by mark i j last) mark (behind_at i j) (form_in i j)

  unfoldable pub form_length : List ℕ → ℕ → ℕ → ℕ
  form_length shown i j = get_or shown (form_in i j) 0

  -- What is counted and written is told only where the tests hold: they end with the first that does not.
  pub record FormsTested (shown last last' : List ℕ) (mark i : ℕ) (r : Option ℕ) : Type 0 where
    pub ok : is_some r ≡ all_to (form_count i) (form_test mark last i)
    pub bytes : IfSome r (λ b. b ≡ sum_to (form_count i) (form_length shown i))
    pub marks : OnSome r (last' ≡ last_by mark i (form_count i) last)
    pub size : length last' ≡ length last
    pub most : IfSome r (λ b. b ≤ 4294967296)

  -- Of the pages, over that table and the table of places.
  abbrev pub identifier_at : ℕ → ℕ
  identifier_at i = (page_at h i).identifier

  unfoldable pub last_to : ℕ → List ℕ → List ℕ
  last_to zero last = last
  last_to (suc i) last = last_by (i + 1) i (form_count i) (last_to i last)

  abbrev pub places_to : ℕ → List ℕ → List ℕ
  places_to n places = written identifier_at (λ i. i + 1) n places

  unfoldable pub page_ok : List ℕ → List ℕ → ℕ → Bool
  page_ok classes places x = ltb x (text_count h) && leb 2 (get_or classes x 0) && eqb (get_or places x 0) 0

  unfoldable pub page_test : List ℕ → List ℕ → List ℕ → ℕ → Bool
  page_test classes last places i = page_ok classes (places_to i places) (identifier_at i) && all_to (form_count i) (form_test (i + 1) (last_to i last) i)

  unfoldable pub page_length : List ℕ → ℕ → ℕ
  page_length shown i = (text_length (identifier_at i) - 1) + sum_to (form_count i) (form_length shown i)

  pub record PagesTested (classes shown last places last' places' : List ℕ) (r : Option ℕ) : Type 0 where
    pub ok : is_some r ≡ all_to (page_count h) (page_test classes last places)
    pub bytes : IfSome r (λ b. b ≡ sum_to (page_count h) (page_length shown))
    pub marks : OnSome r (last' ≡ last_to (page_count h) last)
    pub table : OnSome r (places' ≡ places_to (page_count h) places)
    pub size : length places' ≡ length places
    pub most : IfSome r (λ b. b ≤ 562949953421312)
