-- Working definitions: tables that a draft of a join is made in.
use Rattle.std.specs.Prelude.{ℕ, suc, ◌+◌, ◌-◌, ◌%◌, ◌≤◌, ◌<◌, ◌≡◌, Bool, false, cond, not, eqb, length, get_or}
use mathlib.Core.List.{List, [], ◌∷◌, ◌++◌, map, flat_map}
use Rattle.text.specs.Bytes.{Bytes, any}
use Rattle.text.specs.Table.{tabulate}
use Rattle.values.specs.Values.{kind_from}
use Rattle.values.specs.declared.Kind.{Kind}
use Rattle.language.specs.Joining.{kinds_clash}
use Rattle.dictionary.specs.Items.{text_at as item_at}
use Rattle.register_form.specs.Dictionary.{PropertyRow, PageRow, term_of, group_of, term_code}
use Rattle.register_form.specs.Form.{kind_byte, page_count, property_count, property_at, page_at, forms_of, term_at, dictionary_in, register_in}
use Rattle.register_form.specs.Draft.{once_behind}
use Rattle.register_form.specs.Tables.{tables_of, draft_in}
use Rattle.register_form.specs.Formed.{Formed}
use Rattle.register_join_merge.specs.Merged.{Merged}
use Rattle.register_join_draft.specs.declared.DraftTables.{DraftTables}
use Rattle.register_join_draft.specs.Joined.{same_row, name_in, place_in, forms_in, code_by, join_draft}

-- The items of numbers, by a table.
abbrev pub items_in : List ℕ → ℕ → ℕ
items_in items x = get_or items x 0

-- The first n of a list are the keys; a table has of each its place, and 1 more, and 0 at what is no key.
pub record Listed (table list : List ℕ) (n : ℕ) (keys : List ℕ) : Type 0 where
  pub count : n ≡ length keys
  pub list_is : (i : ℕ) → i < length keys → get_or list i 0 ≡ get_or keys i 0
  pub table_is : (x : ℕ) → x < length table → get_or table x 0 ≡ place_in keys x

-- The keys with x behind them, unless it is one.
abbrev pub entered : List ℕ → ℕ → List ℕ
entered keys x = cond (any (eqb x) keys) keys (keys ++ (x ∷ []))

pub record Entering (table list : List ℕ) (n x : ℕ) (t l : List ℕ) (r : ℕ) : Type 0 where
  pub table_size : length t ≡ length table
  pub list_size : length l ≡ length list
  pub listed : (keys : List ℕ) → Listed table list n keys → x < length table → n < length list → n < 65535 → Listed t l r (entered keys x)

-- Rows in tables: their kinds, their names.
abbrev pub no_row : PropertyRow
no_row = record { kind = Kind.Page; name = 0 }

pub record Rowed (kinds names table : List ℕ) (n : ℕ) (rows : List PropertyRow) : Type 0 where
  pub listed : Listed table names n (map name_in rows)
  pub kinds_are : (i : ℕ) → i < length rows → kind_from (get_or kinds i 0) ≡ (get_or rows i no_row).kind

pub record PropertiesPut (h : Bytes) (items kinds names table : List ℕ) (n p : ℕ) (ks ns t : List ℕ) (r : ℕ) : Type 0 where
  pub kinds_size : length ks ≡ length kinds
  pub names_size : length ns ≡ length names
  pub table_size : length t ≡ length table
  pub rowed : (rows : List PropertyRow) → Rowed kinds names table n rows → n + property_count h ≤ length kinds → n + property_count h ≤ length names → n + property_count h < 65536
      → ((q : ℕ) → q < property_count h → items_in items (property_at h q).name < length table)
      → Rowed ks ns t r (once_behind same_row rows (tabulate p (λ q. record { kind = (property_at h q).kind; name = items_in items (property_at h q).name })))

pub record IdentifiersPut (h : Bytes) (items list table : List ℕ) (n p : ℕ) (l t : List ℕ) (r : ℕ) : Type 0 where
  pub list_size : length l ≡ length list
  pub table_size : length t ≡ length table
  pub listed : (keys : List ℕ) → Listed table list n keys → n + page_count h ≤ length list → n + page_count h < 65536
      → ((q : ℕ) → q < page_count h → items_in items (page_at h q).identifier < length table)
      → Listed t l r (once_behind eqb keys (tabulate p (λ q. items_in items (page_at h q).identifier)))

-- A term of a held register with items and places; the group's place is that of its property's name in a table.
unfoldable pub new_group : Bytes → List ℕ → List ℕ → ℕ → ℕ
new_group h items table g = cond (eqb g 0) 0 (get_or table (items_in items (property_at h (g - 1)).name) 0 % 256)

unfoldable pub new_code : Bytes → List ℕ → ℕ → ℕ → ℕ
new_code h items g c = cond (eqb g 0) (items_in items c) (code_by (items_in items) (property_at h (g - 1)).kind c)

unfoldable pub new_term : Bytes → List ℕ → List ℕ → ℕ → Bytes
new_term h items table f = term_of (new_group h items table (group_of (term_at h f))) (new_code h items (group_of (term_at h f)) (term_code (term_at h f)))

-- The first n terms in tables of groups and codes.
pub record TermsListed (groups codes : List ℕ) (n : ℕ) (l : List Bytes) : Type 0 where
  pub count : n ≡ length l
  pub is : (i : ℕ) → i < length l → term_of (get_or groups i 0) (get_or codes i 0) ≡ get_or l i []

-- Terms put behind those.
pub record TermsPut (groups codes : List ℕ) (n : ℕ) (more : List Bytes) (gs cs : List ℕ) (r : ℕ) : Type 0 where
  pub groups_size : length gs ≡ length groups
  pub codes_size : length cs ≡ length codes
  pub written : (l : List Bytes) → TermsListed groups codes n l → n + length more ≤ length groups → n + length more ≤ length codes → n + length more < 65536 → TermsListed gs cs r (l ++ more)

-- The first n numbers of a table, and numbers put behind them.
pub record Holds (table : List ℕ) (n : ℕ) (l : List ℕ) : Type 0 where
  pub count : n ≡ length l
  pub is : (i : ℕ) → i < length l → get_or table i 0 ≡ get_or l i 0

pub record NumbersPut (table : List ℕ) (n : ℕ) (more u : List ℕ) (r : ℕ) : Type 0 where
  pub size : length u ≡ length table
  pub written : (l : List ℕ) → Holds table n l → n + length more ≤ length table → n + length more < 65536 → Holds u r (l ++ more)

-- The places of terms that stand behind so many others.
unfoldable pub behind : ℕ → List ℕ → List ℕ
behind base l = map (λ f. (base + f) % 65536) l

-- Page i of the draft: its forms in the first register, and those of the page of the second that a table tells.
abbrev pub new_row : Bytes → Bytes → ℕ → List ℕ → List ℕ → ℕ → PageRow
new_row h g base pages identifiers i =
    record {
      identifier = get_or identifiers i 0;
      forms = behind 0 (forms_in (dictionary_in h).pages (suc i)) ++ behind base (forms_in (dictionary_in g).pages (get_or pages (get_or identifiers i 0) 0));
    }

-- The forms of the first i of some pages.
unfoldable pub forms_to : (ℕ → PageRow) → ℕ → List ℕ
forms_to rows i = flat_map forms_of (tabulate i rows)

-- They are put, with where the forms of each page begin.
pub record Paged (rows : ℕ → PageRow) (i : ℕ) (firsts uses : List ℕ) (n : ℕ) : Type 0 where
  pub written : Holds uses n (forms_to rows i)
  pub starts : (k : ℕ) → k < i → get_or firsts k 0 ≡ length (forms_to rows k)

-- Those of all m are, and firsts has where the last ends, where there was room.
pub record Ended (rows : ℕ → PageRow) (m : ℕ) (firsts uses : List ℕ) : Type 0 where
  pub written : Holds uses (length (forms_to rows m)) (forms_to rows m)
  pub starts : (k : ℕ) → k ≤ m → get_or firsts k 0 ≡ length (forms_to rows k)

pub record PagesPut (rows : ℕ → PageRow) (m : ℕ) (firsts uses fs us : List ℕ) : Type 0 where
  pub firsts_size : length fs ≡ length firsts
  pub uses_size : length us ≡ length uses
  pub paged : m < length firsts → length (forms_to rows m) ≤ length uses → length (forms_to rows m) < 65536 → Ended rows m fs us

-- Room for the draft of a join.
pub record TableRoom (kinds names identifiers firsts uses groups codes : List ℕ) : Type 0 where
  pub kinds_size : 128 ≤ length kinds
  pub names_size : 128 ≤ length names
  pub identifiers_size : 512 ≤ length identifiers
  pub firsts_size : 513 ≤ length firsts
  pub uses_size : 4096 ≤ length uses
  pub groups_size : 4096 ≤ length groups
  pub codes_size : 4096 ≤ length codes

-- The tables hold the draft of the join, whatever texts the items name, where there was room.
pub record JoinPut (h g : Bytes) (items1 items2 kinds names identifiers firsts uses groups codes ks ns is fs us gs cs : List ℕ) (np ng nt : ℕ) : Type 0 where
  pub sizes : (length ks ≡ length kinds) × (length ns ≡ length names) × (length is ≡ length identifiers) × (length fs ≡ length firsts) × (length us ≡ length uses) × (length gs ≡ length groups) × (length cs ≡ length codes)
  pub draft : Formed h → Formed g → (texts : List Bytes) → Merged (dictionary_in h) (dictionary_in g) texts (items_in items1) (items_in items2) → TableRoom kinds names identifiers firsts uses groups codes
      → (s : Bytes) (starts lens : List ℕ) (m : ℕ)
      → draft_in (tables_of s starts lens m ks ns np is fs ng us gs cs nt) ≡ join_draft (dictionary_in h) (dictionary_in g) (items_in items1) (items_in items2) (tabulate m (item_at s starts lens))

-- The same slices are lent: whoever lent them knows what they hold by what the tables show.
pub record SameSlices (a b : DraftTables) : Type 0 where
  pub kinds : b.kinds.ghost_name ≡ a.kinds.ghost_name
  pub names : b.names.ghost_name ≡ a.names.ghost_name
  pub identifiers : b.identifiers.ghost_name ≡ a.identifiers.ghost_name
  pub firsts : b.firsts.ghost_name ≡ a.firsts.ghost_name
  pub uses : b.uses.ghost_name ≡ a.uses.ghost_name
  pub groups : b.groups.ghost_name ≡ a.groups.ghost_name
  pub codes : b.codes.ghost_name ≡ a.codes.ghost_name

-- Whether property p of the first register and the like one of the second, if there is one, have different kinds; a table has the places
-- of the second's names.
unfoldable pub clashes_at : Bytes → Bytes → List ℕ → List ℕ → ℕ → Bool
clashes_at h g items table p =
    cond (eqb (get_or table (items_in items (property_at h p).name) 0) 0) false
    (not (eqb (kind_byte g (get_or table (items_in items (property_at h p).name) 0 - 1)) (kind_byte h p)))

unfoldable pub some_clash : Bytes → Bytes → List ℕ → List ℕ → ℕ → Bool
some_clash h g items table n = any (clashes_at h g items table) (tabulate n (λ p. p))

-- The answer tells whether the kinds of two registers clash.
pub record Clashed (h g : Bytes) (items1 items2 : List ℕ) (r : Bool) : Type 0 where
  pub is : Formed h → Formed g → (texts : List Bytes) → Merged (dictionary_in h) (dictionary_in g) texts (items_in items1) (items_in items2) → r ≡ kinds_clash (register_in h) (register_in g)
