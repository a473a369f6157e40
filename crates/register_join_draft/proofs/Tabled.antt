-- The tables hold the draft of the join.
use Prim.Native.Nat.{ℕ, zero, suc, ◌+◌, ◌-◌, ◌≤◌, ◌<◌}
use mathlib.Core.Path.{◌≡◌, sym, ap, ◌∙◌, subst}
use mathlib.Core.Bool.{true}
use mathlib.Core.List.{List, [], ◌++◌, append-nil, append_assoc}
use native.Mathlib.Nat.{add-zero}
use native.Mathlib.Numerals.{add-one}
use native.Mathlib.Omega.{arith}
use lib.Dec.{eqb}
use lib.ListN.{length, get_or, length-append, length-map, get_or-append}
use lib.Seq.{get_or-append-add}
use Rattle.text.specs.Bytes.{Bytes}
use Rattle.text.specs.Table.{tabulate}
use Rattle.text.proofs.Tables.{length_tabulate, tabulate_ext, is_tabulate}
use Rattle.values.specs.Values.{kind_from}
use Rattle.language.specs.Register.{distinct}
use Rattle.language.specs.Joining.{only_in}
use Rattle.language.proofs.Members.{get_d_mapped}
use Rattle.register_form.specs.Dictionary.{PropertyRow, PageRow, Dictionary, term_of}
use Rattle.register_form.specs.Form.{page_count, property_count, property_at, page_at, dictionary_in}
use Rattle.register_form.specs.Draft.{once_behind}
use Rattle.register_form.specs.Tables.{between, forms_at}
use Rattle.buffer.proofs.Parts.{map_tabulate}
use Rattle.register_form.specs.Formed.{Formed}
use Rattle.register_join_merge.specs.Merged.{Merged}
use Rattle.register_join_draft.specs.Joined.{same_row, name_in, row_of, rows_of, key_of, keys_of, join_rows, join_names}
use Rattle.register_join_draft.specs.Drafting.{items_in, Listed, no_row, Rowed, PropertiesPut, IdentifiersPut, TermsListed, forms_to, Ended}
use Rattle.register_join_draft.proofs.Once.{behind_append, once_append, once_distinct}
use Rattle.register_join_draft.proofs.Texts.{eqb_likeness, keys_distinct}
use Rattle.register_join_draft.proofs.Listing.{behind_most, listed_none, rowed_none}
use Rattle.register_join_draft.proofs.Writing.{forms_to_more, forms_to_length}
use Rattle.register_join_draft.proofs.Held.{held_canon, properties_few, pages_few, name_below, identifier_below, proper}

-- The forms of pages in a table.
module _ (rows : ℕ → PageRow) (m : ℕ) (firsts uses : List ℕ) (o : Ended rows m firsts uses) where
  -- Behind those of the first i pages.
  forms_split : (i k : ℕ) → (rest : List ℕ) × (forms_to rows (i + k) ≡ forms_to rows i ++ rest)
  forms_split i zero = ([], rw (add-zero i) (sym (append-nil (forms_to rows i))))
  forms_split i (suc k) =
      let q = forms_split i k in
      let z : i + suc k ≡ i + k + 1 = omega arith in
      (q.0 ++ (rows (i + k)).forms, ap (forms_to rows) z ∙ forms_to_more rows (i + k) ∙ ap (λ (l : List ℕ). l ++ (rows (i + k)).forms) q.1 ∙ append_assoc (forms_to rows i) q.0 (rows (i + k)).forms)

  form_at_lem : (i j : ℕ) → i < m → j < length (rows i).forms → get_or (rows i).forms j 0 ≡ get_or uses (get_or firsts i 0 + j) 0
  form_at_lem i j b c =
      let q = forms_split (i + 1) (m - (i + 1)) in
      let all : forms_to rows m ≡ forms_to rows (i + 1) ++ q.0 = ap (forms_to rows) (let z : m ≡ i + 1 + (m - (i + 1)) = omega arith in z) ∙ q.1 in
      let size = forms_to_length rows i in
      let at = length (forms_to rows i) + j in
      let start = o.starts i (omega arith) in
      let short : at < length (forms_to rows (i + 1)) = omega arith in
      let long : at < length (forms_to rows m) = omega (arith, ap length all, length-append (forms_to rows (i + 1)) q.0) in
      sym (ap (λ (n : ℕ). get_or uses (n + j) 0) start
      ∙ o.written.is at long
      ∙ ap (λ (l : List ℕ). get_or l at 0) all
      ∙ get_or-append (forms_to rows (i + 1)) q.0 0 at short
      ∙ ap (λ (l : List ℕ). get_or l at 0) (forms_to_more rows i)
      ∙ get_or-append-add (forms_to rows i) (rows i).forms j 0)

  forms_are : (i : ℕ) → i < m → forms_at uses firsts i ≡ (rows i).forms
  unfolding between
  forms_are i b =
      let start = o.starts i (omega arith) in
      let next = o.starts (suc i) (omega arith) in
      let size : length (rows i).forms ≡ get_or firsts (suc i) 0 - get_or firsts i 0 = omega (arith, forms_to_length rows i, ap (λ (k : ℕ). length (forms_to rows k)) (add-one i)) in
      sym (is_tabulate (get_or firsts (suc i) 0 - get_or firsts i 0) (λ j. get_or uses (get_or firsts i 0 + j) 0) 0 (rows i).forms size (λ j k. form_at_lem i j b (omega arith)))

  pub pages_are : (identifiers : List ℕ) → ((i : ℕ) → i < m → (rows i).identifier ≡ get_or identifiers i 0) → tabulate m (λ i. record { identifier = get_or identifiers i 0; forms = forms_at uses firsts i }) ≡ tabulate m rows
  pages_are identifiers h = tabulate_ext m (λ i. record { identifier = get_or identifiers i 0; forms = forms_at uses firsts i }) rows (λ i b k. record { identifier = sym (h i b) k; forms = forms_are i b k })

pub terms_are : (groups codes : List ℕ) (n : ℕ) (l : List Bytes) → TermsListed groups codes n l → tabulate n (λ f. term_of (get_or groups f 0) (get_or codes f 0)) ≡ l
terms_are groups codes n l o = sym (is_tabulate n (λ f. term_of (get_or groups f 0) (get_or codes f 0)) [] l (sym o.count) (λ i b. sym (o.is i (omega (arith, o.count)))))

pub rows_table : (kinds names table : List ℕ) (n : ℕ) (rows : List PropertyRow) → Rowed kinds names table n rows → tabulate n (λ p. record { kind = kind_from (get_or kinds p 0); name = get_or names p 0 }) ≡ rows
rows_table kinds names table n rows o =
    let size : n ≡ length rows = o.listed.count ∙ length-map rows name_in in
    sym (is_tabulate n (λ p. record { kind = kind_from (get_or kinds p 0); name = get_or names p 0 }) no_row rows (sym size)
    (λ i b.
    let k : i < length rows = omega arith in
    let name : get_or names i 0 ≡ (get_or rows i no_row).name = o.listed.list_is i (rw length-map k) ∙ get_d_mapped name_in rows i no_row 0 k in
    λ j. record { kind = sym (o.kinds_are i k) j; name = sym name j }))

-- One dictionary's rows and keys, by its bytes.
module _ (h : Bytes) (item : ℕ → ℕ) where
  pub rows_in : rows_of (dictionary_in h) item ≡ tabulate (property_count h) (λ q. record { kind = (property_at h q).kind; name = item (property_at h q).name })
  unfolding rows_of dictionary_in
  rows_in = map_tabulate (row_of (dictionary_in h) item) (property_count h) (property_at h)

  keys_in : keys_of (dictionary_in h) item ≡ tabulate (page_count h) (λ q. item (page_at h q).identifier)
  unfolding keys_of dictionary_in
  keys_in = map_tabulate (key_of (dictionary_in h) item) (page_count h) (page_at h)

module _ (h g : Bytes) (items1 items2 : List ℕ) (fh : Formed h) (fg : Formed g) (texts : List Bytes) (mg : Merged (dictionary_in h) (dictionary_in g) texts (items_in items1) (items_in items2)) where
  abbrev d : Dictionary
  d = dictionary_in h

  abbrev e : Dictionary
  e = dictionary_in g

  abbrev item1 : ℕ → ℕ
  item1 = items_in items1

  abbrev item2 : ℕ → ℕ
  item2 = items_in items2

  abbrev D : Dictionary
  D = record { properties = []; pages = []; terms = []; texts = texts }

  pub below1 : (x : ℕ) → x < length d.texts → item1 x < 4736
  below1 x b = omega (arith, mg.first.below x b, mg.few)

  pub below2 : (x : ℕ) → x < length e.texts → item2 x < 4736
  below2 x b = omega (arith, mg.second.below x b, mg.few)

  pub once1 : distinct eqb (keys_of d item1) ≡ true
  once1 = keys_distinct d e D item1 item2 (held_canon h fh) (held_canon g fg) mg d item1 mg.first (held_canon h fh) (proper h fh).keeps.pages_once

  pub once2 : distinct eqb (keys_of e item2) ≡ true
  once2 = keys_distinct d e D item1 item2 (held_canon h fh) (held_canon g fg) mg e item2 mg.second (held_canon g fg) (proper g fg).keeps.pages_once

  abbrev only : List ℕ
  only = only_in eqb (keys_of d item1) (keys_of e item2)

  -- The rows of both.
  module _ (kinds names table k1 n1 p1 ks ns p2 : List ℕ) (r1 np : ℕ) (zero-there : (x : ℕ) → x < length table → get_or table x 0 ≡ 0) (size : length table ≡ 4736)
      (a1 : PropertiesPut h items1 kinds names table 0 (property_count h) k1 n1 p1 r1) (a2 : PropertiesPut g items2 k1 n1 p1 r1 (property_count g) ks ns p2 np)
      (rk : 128 ≤ length kinds) (rn : 128 ≤ length names) where
    rowed1 : Rowed k1 n1 p1 r1 (once_behind same_row [] (rows_of d item1))
    rowed1 =
        let few = properties_few h fh in
        rw (rows_in h item1) (a1.rowed [] (rowed_none kinds names table zero-there) (omega arith) (omega arith) (omega arith) (λ q b. rw size (below1 (property_at h q).name (name_below h fh q b))))

    first_few : r1 ≤ 64
    first_few =
        omega (
          arith,
          properties_few h fh,
          rowed1.listed.count,
          length-map (once_behind same_row [] (rows_of d item1)) name_in,
          ap (λ (l : List PropertyRow). length (once_behind same_row [] l)) (rows_in h item1),
          behind_most same_row [] (property_count h) (λ q. record { kind = (property_at h q).kind; name = item1 (property_at h q).name }),
        )

    rowed2 : Rowed ks ns p2 np (once_behind same_row (once_behind same_row [] (rows_of d item1)) (rows_of e item2))
    rowed2 =
        let few = properties_few g fg in
        let low = first_few in
        rw (rows_in g item2) (a2.rowed (once_behind same_row [] (rows_of d item1)) rowed1 (omega (arith, a1.kinds_size)) (omega (arith, a1.names_size)) (omega arith) (λ q b. rw (a1.table_size, size) (below2 (property_at g q).name (name_below g fg q b))))

    pub rowed : Rowed ks ns p2 np (join_rows d e item1 item2)
    unfolding join_rows
    rowed = rw (behind_append same_row [] (rows_of d item1) (rows_of e item2)) rowed2

    pub names_few : length (join_names d e item1 item2) < 256
    unfolding join_names
    names_few =
        omega (
          arith,
          rowed.listed.count,
          rowed2.listed.count,
          length-map (once_behind same_row (once_behind same_row [] (rows_of d item1)) (rows_of e item2)) name_in,
          rowed1.listed.count,
          length-map (once_behind same_row [] (rows_of d item1)) name_in,
          first_few,
          properties_few g fg,
          ap (λ (l : List PropertyRow). length (once_behind same_row (once_behind same_row [] (rows_of d item1)) l)) (rows_in g item2),
          behind_most same_row (once_behind same_row [] (rows_of d item1)) (property_count g) (λ q. record { kind = (property_at g q).kind; name = item2 (property_at g q).name }),
        )

  -- The keys of one register, and of both.
  module _ (list table l1 t1 : List ℕ) (r1 : ℕ) (zero-there : (x : ℕ) → x < length table → get_or table x 0 ≡ 0) (size : length table ≡ 4736) where
    pub second_listed : 256 ≤ length list → IdentifiersPut g items2 list table 0 (page_count g) l1 t1 r1 → Listed t1 l1 r1 (keys_of e item2)
    second_listed room b =
        let few = pages_few g fg in
        subst (Listed t1 l1 r1) (ap (once_behind eqb []) (sym (keys_in g item2)) ∙ once_distinct eqb_likeness (keys_of e item2) once2)
        (b.listed [] (listed_none table list zero-there) (omega arith) (omega arith) (λ q k. rw size (below2 (page_at g q).identifier (identifier_below g fg q k))))

    first_listed : 512 ≤ length list → IdentifiersPut h items1 list table 0 (page_count h) l1 t1 r1 → Listed t1 l1 r1 (keys_of d item1)
    first_listed room b =
        let few = pages_few h fh in
        subst (Listed t1 l1 r1) (ap (once_behind eqb []) (sym (keys_in h item1)) ∙ once_distinct eqb_likeness (keys_of d item1) once1)
        (b.listed [] (listed_none table list zero-there) (omega arith) (omega arith) (λ q k. rw size (below1 (page_at h q).identifier (identifier_below h fh q k))))

    pub both_listed : (is t2 : List ℕ) (ng : ℕ) → 512 ≤ length list → IdentifiersPut h items1 list table 0 (page_count h) l1 t1 r1 → IdentifiersPut g items2 l1 t1 r1 (page_count g) is t2 ng → Listed t2 is ng (keys_of d item1 ++ only)
    both_listed is t2 ng room b c =
        let own = first_listed room b in
        let low = pages_few h fh in
        let few = pages_few g fg in
        let count : length (keys_of d item1) ≡ page_count h = ap length (keys_in h item1) ∙ length_tabulate (page_count h) (λ q. item1 (page_at h q).identifier) in
        subst (Listed t2 is ng) (ap (once_behind eqb (keys_of d item1)) (sym (keys_in g item2)) ∙ ap (λ (l : List ℕ). once_behind eqb l (keys_of e item2)) (sym (once_distinct eqb_likeness (keys_of d item1) once1)) ∙ sym (behind_append eqb [] (keys_of d item1) (keys_of e item2)) ∙ once_append eqb_likeness (keys_of d item1) (keys_of e item2) once1 once2)
        (c.listed (keys_of d item1) own (omega (arith, own.count, b.list_size)) (omega (arith, own.count)) (λ q k. rw (b.table_size, size) (below2 (page_at g q).identifier (identifier_below g fg q k))))
