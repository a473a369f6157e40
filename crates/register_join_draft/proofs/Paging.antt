-- The tables hold the pages and terms of the join.
use Prim.Native.Nat.{ℕ, suc, ◌+◌, ◌-◌, ◌%◌, ◌≤◌, ◌<◌}
use mathlib.Core.Path.{◌≡◌, refl, sym, ap, ap₂, ◌∙◌, subst}
use mathlib.Core.Bool.{Bool, true, false, cond}
use mathlib.Core.List.Memᴰ
use mathlib.Core.List.{List, [], ◌∷◌, ◌++◌, map, flat_map, Memᴰ}
use native.Mathlib.Nat.{mod-eq_of_lt}
use native.Mathlib.Omega.{arith}
use lib.Dec.{ltb, eqb}
use lib.ListN.{length, get_or, length-append, length-map, get_or-append, get_or-eq_default}
use lib.Seq.{get_or-append-add}
use borrow.Author.Tests.{ltb-true, ltb-false}
use Rattle.text.specs.Bytes.{Bytes, any}
use Rattle.text.specs.Table.{tabulate}
use Rattle.text.proofs.Tables.{length_tabulate, is_tabulate}
use Rattle.language.specs.Joining.{only_in}
use Rattle.language.proofs.Members.{by_test, map_same, map_itself, get_d_mapped}
use Rattle.language.proofs.Unions.{only_member}
use Rattle.dictionary.specs.Items.{text_at as item_at}
use Rattle.register_form.specs.Dictionary.{PageRow, Dictionary, term_of}
use Rattle.register_form.specs.Form.{page_count, property_count, term_count, forms_of, dictionary_in}
use Rattle.register_form.specs.Tables.{draft_in}
use Rattle.register_form.proofs.Lists.{mem_at}
use Rattle.register_form.proofs.Described.{form_below}
use Rattle.register_form.specs.Formed.{Formed}
use Rattle.register_join_merge.specs.Merged.{Merged}
use Rattle.register_join_draft.specs.Joined.{place_in, no_page, forms_in, key_of, keys_of, join_rows, join_names, second_forms, row_both, row_second, join_pages, join_terms, join_draft}
use Rattle.register_join_draft.specs.Drafting.{items_in, Listed, Rowed, PropertiesPut, IdentifiersPut, new_term, TermsListed, TermsPut, behind, new_row, forms_to, PagesPut, JoinPut}
use Rattle.register_join_draft.proofs.Sheets.{forms_row}
use Rattle.register_join_draft.proofs.Texts.{key_below}
use Rattle.register_join_draft.proofs.Listing.{zeros, length_zeros, empty_table}
use Rattle.register_join_draft.proofs.Writing.{put_both}
use Rattle.register_join_draft.proofs.Totals.{pages_few as joined_few}
use Rattle.register_join_draft.proofs.Held.{held_canon, count_pages, count_terms, pages_few, terms_few, forms_few}
use Rattle.register_join_draft.proofs.Terms.{terms_moved}
use Rattle.register_join_draft.proofs.Tabled.{pages_are, terms_are, rows_table, below1, below2, once1, once2, rowed, names_few, second_listed, both_listed}

only_most : (l m : List ℕ) → length (only_in eqb l m) ≤ length m
unfolding only_in
only_most l [] = omega arith
only_most l (x ∷ m) = go (any (eqb x) l) (only_most l m)
  where
    go : (c : Bool) → length (only_in eqb l m) ≤ length m → length (cond c (only_in eqb l m) (x ∷ only_in eqb l m)) ≤ suc (length m)
    go true h = omega arith
    go false h = omega arith

row_same : (a b : PageRow) → a.identifier ≡ b.identifier → a.forms ≡ b.forms → a ≡ b
row_same a b p q = λ k. record { identifier = p k; forms = q k }

-- Places behind so many terms, where they are small.
behind_none : (l : List ℕ) → ((f : ℕ) → Memᴰ f l → f < 65536) → behind 0 l ≡ l
unfolding behind
behind_none l h = map_itself (λ f. (0 + f) % 65536) l (λ f m. let b : 0 + f < 65536 = omega (arith, h f m) in mod-eq_of_lt b ∙ omega arith)

behind_some : (base n : ℕ) (l : List ℕ) → base ≡ n → ((f : ℕ) → Memᴰ f l → n + f < 65536) → behind base l ≡ map (λ f. n + f) l
unfolding behind
behind_some base n l e h = map_same (λ f. (base + f) % 65536) (λ f. n + f) l (λ f m. ap (λ (b : ℕ). (b + f) % 65536) e ∙ mod-eq_of_lt (h f m))

module _ (h g : Bytes) (items1 items2 : List ℕ) (fh : Formed h) (fg : Formed g) (texts : List Bytes) (mg : Merged (dictionary_in h) (dictionary_in g) texts (items_in items1) (items_in items2)) where
  abbrev d : Dictionary
  d = dictionary_in h

  abbrev e : Dictionary
  e = dictionary_in g

  abbrev item1 : ℕ → ℕ
  item1 = items_in items1

  abbrev item2 : ℕ → ℕ
  item2 = items_in items2

  abbrev D : Dictionary
  D = record { properties = []; pages = []; terms = []; texts = texts }

  abbrev only : List ℕ
  only = only_in eqb (keys_of d item1) (keys_of e item2)

  -- Pages, by the tables of their identifiers and of the places of the second's.
  module _ (base : ℕ) (identifiers both pages list : List ℕ) (ng r : ℕ) (pages-size : length pages ≡ 4736) (base-is : base ≡ length d.terms)
      (keys : Listed both identifiers ng (keys_of d item1 ++ only)) (second : Listed pages list r (keys_of e item2)) where
    abbrev rows : ℕ → PageRow
    rows = new_row h g base pages identifiers

    first_forms : (i : ℕ) → i < length d.pages → behind 0 (forms_in d.pages (suc i)) ≡ (get_or d.pages i no_page).forms
    first_forms i b = behind_none (get_or d.pages i no_page).forms (λ f m. omega (arith, form_below d (held_canon h fh) (mem_at d.pages i no_page b) m, terms_few h fh))

    second_forms_lem : (x : ℕ) → x < length pages → behind base (forms_in e.pages (get_or pages x 0)) ≡ second_forms d e item1 item2 x
    unfolding second_forms
    second_forms_lem x b =
        ap (λ (p : ℕ). behind base (forms_in e.pages p)) (second.table_is x b)
        ∙ behind_some base (length d.terms) (forms_in e.pages (place_in (keys_of e item2) x)) base-is
        (λ f m. let q = forms_row e.pages (place_in (keys_of e item2) x) m in omega (arith, form_below e (held_canon g fg) q.1 q.2, terms_few h fh, terms_few g fg))

    own : ℕ
    own = length d.pages

    keys_own : length (keys_of d item1) ≡ own
    unfolding own keys_of
    keys_own = length-map d.pages (key_of d item1)

    -- A page of the first register.
    first_key : (i : ℕ) → i < own → i < ng → get_or identifiers i 0 ≡ key_of d item1 (get_or d.pages i no_page)
    unfolding own keys_of
    first_key i b c =
        keys.list_is i (omega (arith, keys.count))
        ∙ get_or-append (keys_of d item1) only 0 i (omega (arith, keys_own))
        ∙ get_d_mapped (key_of d item1) d.pages i no_page 0 b

    first_row : (i : ℕ) → i < own → i < ng → row_both d e item1 item2 (get_or d.pages i no_page) ≡ rows i
    unfolding own
    first_row i b c =
        let key = first_key i b c in
        let page = get_or d.pages i no_page in
        let small : get_or identifiers i 0 < length pages = omega (arith, key, key_below d D item1 mg.first (held_canon h fh) (mem_at d.pages i no_page b), mg.few) in
        row_same (row_both d e item1 item2 page) (rows i) (sym key)
        (ap₂ ◌++◌ (sym (first_forms i b)) (ap (second_forms d e item1 item2) (sym key) ∙ sym (second_forms_lem (get_or identifiers i 0) small)))

    -- A page that is only in the second.
    second_key : (k : ℕ) → k < length only → own + k < ng → get_or identifiers (own + k) 0 ≡ get_or only k 0
    second_key k b c =
        keys.list_is (own + k) (omega (arith, keys.count))
        ∙ ap (λ (n : ℕ). get_or (keys_of d item1 ++ only) (n + k) 0) (sym keys_own)
        ∙ get_or-append-add (keys_of d item1) only k 0

    only_below : (k : ℕ) → k < length only → get_or only k 0 < length texts
    unfolding keys_of
    only_below k b =
        let m = (only_member eqb (keys_of d item1) (keys_of e item2) (mem_at only k 0 b)).0 in
        let q = Memᴰ.of_map (key_of e item2) e.pages m in
        subst (λ (x : ℕ). x < length texts) q.2 (key_below e D item2 mg.second (held_canon g fg) q.1)

    no_forms : (i : ℕ) → own ≤ i → behind 0 (forms_in d.pages (suc i)) ≡ []
    unfolding behind own
    no_forms i b = ap (λ (r : PageRow). map (λ f. (0 + f) % 65536) r.forms) (get_or-eq_default d.pages no_page b)

    second_row : (k : ℕ) → k < length only → own + k < ng → row_second d e item1 item2 (get_or only k 0) ≡ rows (own + k)
    second_row k b c =
        let key = second_key k b c in
        let small : get_or identifiers (own + k) 0 < length pages = omega (arith, key, only_below k b, mg.few) in
        row_same (row_second d e item1 item2 (get_or only k 0)) (rows (own + k)) (sym key)
        (ap (second_forms d e item1 item2) (sym key) ∙ sym (ap₂ ◌++◌ (no_forms (own + k) (omega arith)) (second_forms_lem (get_or identifiers (own + k) 0) small)))

    -- All of them.
    count : length (join_pages d e item1 item2) ≡ ng
    unfolding join_pages own
    count =
        length-append (map (row_both d e item1 item2) d.pages) (map (row_second d e item1 item2) only)
        ∙ omega (arith, length-map d.pages (row_both d e item1 item2), length-map only (row_second d e item1 item2), keys.count, length-append (keys_of d item1) only, keys_own)

    at : (i : ℕ) → i < ng → get_or (join_pages d e item1 item2) i no_page ≡ rows i
    unfolding join_pages own
    at i b = by_test (ltb i (length d.pages)) first further
      where
        size1 : length (map (row_both d e item1 item2) d.pages) ≡ length d.pages
        size1 = length-map d.pages (row_both d e item1 item2)

        first : ltb i (length d.pages) ≡ true → get_or (join_pages d e item1 item2) i no_page ≡ rows i
        first t =
            let l = ltb-true i (length d.pages) t in
            get_or-append (map (row_both d e item1 item2) d.pages) (map (row_second d e item1 item2) only) no_page i (omega (arith, size1))
            ∙ get_d_mapped (row_both d e item1 item2) d.pages i no_page no_page l
            ∙ first_row i l b

        further : ltb i (length d.pages) ≡ false → get_or (join_pages d e item1 item2) i no_page ≡ rows i
        further t =
            let l = ltb-false i (length d.pages) t in
            let k = i - length d.pages in
            let z : length d.pages + k ≡ i = omega arith in
            let kb : k < length only = omega (arith, keys.count, length-append (keys_of d item1) only, keys_own) in
            ap (λ (n : ℕ). get_or (join_pages d e item1 item2) n no_page) (sym z)
            ∙ ap (λ (n : ℕ). get_or (map (row_both d e item1 item2) d.pages ++ map (row_second d e item1 item2) only) (n + k) no_page) (sym size1)
            ∙ get_or-append-add (map (row_both d e item1 item2) d.pages) (map (row_second d e item1 item2) only) k no_page
            ∙ get_d_mapped (row_second d e item1 item2) only k 0 no_page kb
            ∙ second_row k kb (omega arith)
            ∙ ap rows z

    pub pages_joined : tabulate ng rows ≡ join_pages d e item1 item2
    pages_joined = sym (is_tabulate ng rows no_page (join_pages d e item1 item2) count at)

    -- There is room for them.
    only_few : length only ≤ length e.pages
    unfolding keys_of
    only_few = omega (arith, only_most (keys_of d item1) (keys_of e item2), length-map e.pages (key_of e item2))

    pub pages_most : ng ≤ 512
    unfolding own
    pages_most = omega (arith, keys.count, length-append (keys_of d item1) only, keys_own, only_few, count_pages h fh, count_pages g fg, pages_few h fh, pages_few g fg)

    pub forms_most : length (forms_to rows ng) ≤ 4096
    unfolding forms_to
    forms_most =
        omega (
          arith,
          ap (λ (l : List PageRow). length (flat_map forms_of l)) pages_joined,
          joined_few d e item1 item2 (once1 h g items1 items2 fh fg texts mg) (once2 h g items1 items2 fh fg texts mg),
          forms_few h fh,
          forms_few g fg,
        )

  -- Terms, by the table of the places of names.
  module _ (kinds names places : List ℕ) (np : ℕ) (size : length places ≡ 4736) (rows : Rowed kinds names places np (join_rows d e item1 item2)) (few : length (join_names d e item1 item2) < 256)
      (groups codes g1 c1 gs cs : List ℕ) (base nt : ℕ) (room : 4096 ≤ length groups) (space : 4096 ≤ length codes)
      (a : TermsPut groups codes 0 (tabulate (term_count h) (new_term h items1 places)) g1 c1 base) (b : TermsPut g1 c1 base (tabulate (term_count g) (new_term g items2 places)) gs cs nt) where
    abbrev made1 : List Bytes
    made1 = tabulate (term_count h) (new_term h items1 places)

    abbrev made2 : List Bytes
    made2 = tabulate (term_count g) (new_term g items2 places)

    size1 : length made1 ≡ length d.terms
    size1 = length_tabulate (term_count h) (new_term h items1 places) ∙ sym (count_terms h fh)

    size2 : length made2 ≡ length e.terms
    size2 = length_tabulate (term_count g) (new_term g items2 places) ∙ sym (count_terms g fg)

    nothing : TermsListed groups codes 0 []
    nothing = record { count = refl; is = λ i k. absurd (omega arith) }

    pub first_many : base ≡ length d.terms
    first_many = let few1 = terms_few h fh in (a.written [] nothing (omega (arith, size1)) (omega (arith, size1)) (omega (arith, size1))).count ∙ size1

    all_listed : TermsListed gs cs nt (made1 ++ made2)
    all_listed =
        let few1 = terms_few h fh in
        let few2 = terms_few g fg in
        let many : length (made1 ++ made2) ≤ 4096 = omega (arith, length-append made1 made2, size1, size2) in
        (put_both groups codes 0 made1 made2 g1 c1 gs cs base nt a b).written [] nothing (omega arith) (omega arith) (omega arith)

    places_are : (x : ℕ) → x < length places → get_or places x 0 ≡ place_in (join_names d e item1 item2) x
    unfolding join_names
    places_are x b = rows.listed.table_is x b

    pub terms_joined : tabulate nt (λ f. term_of (get_or gs f 0) (get_or cs f 0)) ≡ join_terms d e item1 item2
    unfolding join_terms
    terms_joined =
        terms_are gs cs nt (made1 ++ made2) all_listed
        ∙ ap₂ ◌++◌
        (terms_moved h fh items1 places (join_names d e item1 item2) places_are few (λ x k. rw size (below1 h g items1 items2 fh fg texts mg x k)))
        (terms_moved g fg items2 places (join_names d e item1 item2) places_are few (λ x k. rw size (below2 h g items1 items2 fh fg texts mg x k)))

-- What the calls gave: the rows of both, the keys of both, those of the second, the terms of both, and the pages.
pub join_put : (h g : Bytes) (items1 items2 kinds names identifiers firsts uses groups codes k1 n1 p1 ks ns p2 i1 t1 is t2 l3 t3 g1 c1 gs cs fs us : List ℕ) (r1 np r2 ng r3 base nt : ℕ)
    → PropertiesPut h items1 kinds names (zeros 4736) 0 (property_count h) k1 n1 p1 r1 → PropertiesPut g items2 k1 n1 p1 r1 (property_count g) ks ns p2 np
    → IdentifiersPut h items1 identifiers (zeros 4736) 0 (page_count h) i1 t1 r2 → IdentifiersPut g items2 i1 t1 r2 (page_count g) is t2 ng
    → IdentifiersPut g items2 (zeros 256) (zeros 4736) 0 (page_count g) l3 t3 r3
    → TermsPut groups codes 0 (tabulate (term_count h) (new_term h items1 p2)) g1 c1 base → TermsPut g1 c1 base (tabulate (term_count g) (new_term g items2 p2)) gs cs nt
    → PagesPut (new_row h g base t3 is) ng firsts uses fs us
    → JoinPut h g items1 items2 kinds names identifiers firsts uses groups codes ks ns is fs us gs cs np ng nt
unfolding draft_in join_draft
join_put h g items1 items2 kinds names identifiers firsts uses groups codes k1 n1 p1 ks ns p2 i1 t1 is t2 l3 t3 g1 c1 gs cs fs us r1 np r2 ng r3 base nt a1 a2 b1 b2 b3 e1 e2 q =
    record {
      sizes = (a2.kinds_size ∙ a1.kinds_size, a2.names_size ∙ a1.names_size, b2.list_size ∙ b1.list_size, q.firsts_size, q.uses_size, e2.groups_size ∙ e1.groups_size, e2.codes_size ∙ e1.codes_size);
      draft = λ fh fg texts mg room s starts lens m.
          let zs = length_zeros 4736 in
          let size : length p2 ≡ 4736 = a2.table_size ∙ a1.table_size ∙ zs in
          let pages-size : length t3 ≡ 4736 = b3.table_size ∙ zs in
          let rows = rowed h g items1 items2 fh fg texts mg kinds names (zeros 4736) k1 n1 p1 ks ns p2 r1 np (empty_table 4736) zs a1 a2 room.kinds_size room.names_size in
          let few = names_few h g items1 items2 fh fg texts mg kinds names (zeros 4736) k1 n1 p1 ks ns p2 r1 np (empty_table 4736) zs a1 a2 room.kinds_size room.names_size in
          let keys = both_listed h g items1 items2 fh fg texts mg identifiers (zeros 4736) i1 t1 r2 (empty_table 4736) zs is t2 ng room.identifiers_size b1 b2 in
          let second = second_listed h g items1 items2 fh fg texts mg (zeros 256) (zeros 4736) l3 t3 r3 (empty_table 4736) zs (omega (arith, length_zeros 256)) b3 in
          let base-is = first_many h g items1 items2 fh fg texts mg ks ns p2 np size rows few groups codes g1 c1 gs cs base nt room.groups_size room.codes_size e1 e2 in
          let terms = terms_joined h g items1 items2 fh fg texts mg ks ns p2 np size rows few groups codes g1 c1 gs cs base nt room.groups_size room.codes_size e1 e2 in
          let pages = pages_joined h g items1 items2 fh fg texts mg base is t2 t3 l3 ng r3 pages-size base-is keys second in
          let few-pages = pages_most h g items1 items2 fh fg texts mg base is t2 t3 l3 ng r3 pages-size base-is keys second in
          let few-forms = forms_most h g items1 items2 fh fg texts mg base is t2 t3 l3 ng r3 pages-size base-is keys second in
          let ended = q.paged (omega (arith, room.firsts_size)) (omega (arith, room.uses_size)) (omega arith) in
          λ k.
          record {
            properties = rows_table ks ns p2 np (join_rows (dictionary_in h) (dictionary_in g) (items_in items1) (items_in items2)) rows k;
            pages = (pages_are (new_row h g base t3 is) ng fs us ended is (λ i b. refl) ∙ pages) k;
            terms = terms k;
            texts = tabulate m (item_at s starts lens);
          };
    }
