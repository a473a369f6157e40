-- The draft of the join of two registers, by their dictionaries, a list of the texts of both, and the items that their numbers have
-- in it. By `join_drafted` it describes their join.
use Rattle.std.specs.Prelude.{ℕ, zero, suc, ◌+◌, ◌-◌, Bool, cond, List, [], ◌∷◌, ◌++◌, map, eqb, length, get_or}
use Rattle.text.specs.Bytes.{Bytes}
use Rattle.values.specs.declared.Kind.{Kind}
use Rattle.language.specs.Joining.{only_in}
use Rattle.register_form.specs.Dictionary.{PropertyRow, PageRow, Dictionary, term_of, group_of, term_code, is_category, property_in}
use Rattle.register_form.specs.Opened.{next}
use Rattle.register_form.specs.Draft.{once}

abbrev pub same_row : PropertyRow → PropertyRow → Bool
same_row p q = eqb p.name q.name

abbrev pub name_in : PropertyRow → ℕ
name_in p = p.name

-- The place of x in a list, and 1 more; 0 where it is not there.
unfoldable pub place_in : List ℕ → ℕ → ℕ
place_in [] x = 0
place_in (k ∷ l) x = cond (eqb k x) 1 (next (place_in l x))

abbrev pub no_page : PageRow
no_page = record { identifier = 0; forms = [] }

-- The forms of the page in a place, which is given 1 more; none for 0.
abbrev pub forms_in : List PageRow → ℕ → List ℕ
forms_in l zero = []
forms_in l (suc i) = (get_or l i no_page).forms

-- The code of a value of a kind, with the item of its text.
unfoldable pub code_by : (ℕ → ℕ) → Kind → ℕ → ℕ
code_by item Kind.Page c = item c
code_by item (Kind.Scalar k) c = c
code_by item Kind.String c = item c

-- A dictionary's rows and terms with items for the numbers of texts.
module _ (d : Dictionary) (item : ℕ → ℕ) where
  abbrev pub row_of : PropertyRow → PropertyRow
  row_of p = record { kind = p.kind; name = item p.name }

  unfoldable pub rows_of : List PropertyRow
  rows_of = map row_of d.properties

  abbrev pub key_of : PageRow → ℕ
  key_of r = item r.identifier

  unfoldable pub keys_of : List ℕ
  keys_of = map key_of d.pages

  -- A value's group is the place of its property's name among the names.
  unfoldable pub moved_term : List ℕ → Bytes → Bytes
  moved_term names t =
      cond (is_category t) (term_of 0 (item (term_code t)))
      (term_of (place_in names (item (property_in d (group_of t - 1)).name)) (code_by item (property_in d (group_of t - 1)).kind (term_code t)))

module _ (d e : Dictionary) (item1 item2 : ℕ → ℕ) where
  -- The properties of the first, then those only in the second.
  unfoldable pub join_rows : List PropertyRow
  join_rows = once same_row (rows_of d item1 ++ rows_of e item2)

  unfoldable pub join_names : List ℕ
  join_names = map name_in join_rows

  -- What the second has of a page. Its terms stand behind those of the first.
  unfoldable pub second_forms : ℕ → List ℕ
  second_forms x = map (λ f. length d.terms + f) (forms_in e.pages (place_in (keys_of e item2) x))

  abbrev pub row_both : PageRow → PageRow
  row_both r = record { identifier = key_of d item1 r; forms = r.forms ++ second_forms (key_of d item1 r) }

  abbrev pub row_second : ℕ → PageRow
  row_second x = record { identifier = x; forms = second_forms x }

  -- The pages of the first, each with what the second has of it, then those only in the second.
  unfoldable pub join_pages : List PageRow
  join_pages = map row_both d.pages ++ map row_second (only_in eqb (keys_of d item1) (keys_of e item2))

  -- The terms of both.
  unfoldable pub join_terms : List Bytes
  join_terms = map (moved_term d item1 join_names) d.terms ++ map (moved_term e item2 join_names) e.terms

  unfoldable pub join_draft : List Bytes → Dictionary
  join_draft texts = record { properties = join_rows; pages = join_pages; terms = join_terms; texts = texts }
