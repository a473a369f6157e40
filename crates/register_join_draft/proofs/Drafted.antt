-- The draft of a join keeps what a draft must, and describes the join.
use Prim.Native.Nat.{ℕ, ◌+◌, ◌-◌, ◌<◌, ◌^◌}
use mathlib.Core.Path.{◌≡◌, refl, sym, ap, ap₂, ◌∙◌, subst}
use mathlib.Core.Bool.{true, false}
use mathlib.Core.Logic.{◌⊎◌, inl, inr}
use mathlib.Core.List.Memᴰ
use mathlib.Core.List.{List, [], ◌++◌, map, flat_map, Memᴰ}
use native.Mathlib.Omega.{arith}
use lib.Dec.{ltb, eqb}
use lib.ListN.{length, length-append, length-map}
use borrow.Author.Tests.{lt-ltb, ltb-true, ltb-false, eqb-true}
use Rattle.text.specs.Bytes.{Bytes, any}
use Rattle.language.specs.Joining.{only_in, join}
use Rattle.language.proofs.Members.{by_test, any_found, all_of}
use Rattle.language.proofs.Unions.{only_member}
use Rattle.register_form.specs.Dictionary.{PageRow, Dictionary, term_of, group_of, term_code, decode}
use Rattle.register_form.specs.Form.{forms_of}
use Rattle.register_form.specs.Tests.{is_plain_number, is_term, term_texts, text_uses, term_uses}
use Rattle.register_form.specs.Draft.{Draft, drafted}
use Rattle.register_form.proofs.Lists.{mem_at, mem_flat, of_flat, used_mem, mem_used}
use Rattle.register_form.proofs.Described.{form_below, Use, use_of}
use Rattle.register_join_merge.specs.Merged.{Names}
use Rattle.register_join_draft.specs.Joined.{name_in, place_in, forms_in, key_of, keys_of, moved_term, join_names, second_forms, row_both, row_second, join_pages, join_terms, join_draft}
use Rattle.register_join_draft.proofs.Sheets.{forms_row}
use Rattle.register_join_draft.proofs.Texts.{labels, key_below}
use Rattle.register_join_draft.proofs.Moved.{Source, term_fits, term_shaped, term_texts_lem}
use Rattle.register_join_draft.proofs.Rows.{Joint, only_there, items, draft_rows, row_plain_there, source1, source2, name1_there, name2_there, join_properties, properties_once_lem}
use Rattle.register_join_draft.proofs.Pages.{second_forms_lem, join_pages_lem}

-- What is used of a draft's texts.
module _ (D : Dictionary) where
  by_name : {i : ℕ} → Memᴰ i (map name_in D.properties) → Memᴰ i (text_uses D)
  unfolding text_uses
  by_name m = Memᴰ.append_left (map (λ p. p.identifier) D.pages ++ flat_map (term_texts D) D.terms) m

  by_page : {i : ℕ} → Memᴰ i (map (λ p. p.identifier) D.pages) → Memᴰ i (text_uses D)
  unfolding text_uses
  by_page m = Memᴰ.append_right (map (λ p. p.name) D.properties) (Memᴰ.append_left (flat_map (term_texts D) D.terms) m)

  by_term : {i : ℕ} {t : Bytes} → Memᴰ t D.terms → Memᴰ i (term_texts D t) → Memᴰ i (text_uses D)
  unfolding text_uses
  by_term m n = Memᴰ.append_right (map (λ p. p.name) D.properties) (Memᴰ.append_right (map (λ p. p.identifier) D.pages) (mem_flat (term_texts D) m n))

module _ (d e : Dictionary) (item1 item2 : ℕ → ℕ) (texts : List Bytes) (j : Joint d e item1 item2 texts) where
  abbrev D : Dictionary
  D = join_draft d e item1 item2 texts

  s1 : Source d D item1
  s1 = source1 d e item1 item2 texts j

  s2 : Source e D item2
  s2 = source2 d e item1 item2 texts j

  -- Where a page comes from.
  data RowFrom (r : PageRow) : Type 0 where
    both : {q : PageRow} → Memᴰ q d.pages → row_both d e item1 item2 q ≡ r → RowFrom r
    second : {q : PageRow} → Memᴰ q e.pages → row_second d e item1 item2 (key_of e item2 q) ≡ r → RowFrom r

  row_from : {r : PageRow} → Memᴰ r D.pages → RowFrom r
  unfolding join_draft join_pages keys_of
  row_from {r} m = go (Memᴰ.append_cases (map (row_both d e item1 item2) d.pages) m)
    where
      go : Memᴰ r (map (row_both d e item1 item2) d.pages) ⊎ Memᴰ r (map (row_second d e item1 item2) (only_in eqb (keys_of d item1) (keys_of e item2))) → RowFrom r
      go (inl n) = let q = Memᴰ.of_map (row_both d e item1 item2) d.pages n in RowFrom.both q.1 q.2
      go (inr n) =
          let q = Memᴰ.of_map (row_second d e item1 item2) (only_in eqb (keys_of d item1) (keys_of e item2)) n in
          let k = Memᴰ.of_map (key_of e item2) e.pages (only_member eqb (keys_of d item1) (keys_of e item2) q.1).0 in
          RowFrom.second k.1 (ap (row_second d e item1 item2) k.2 ∙ q.2)

  -- A page for each page, which has its forms.
  row1 : {r : PageRow} → Memᴰ r d.pages → Memᴰ (row_both d e item1 item2 r) D.pages
  unfolding join_draft join_pages
  row1 m = Memᴰ.append_left (map (row_second d e item1 item2) (only_in eqb (keys_of d item1) (keys_of e item2))) (Memᴰ.map (row_both d e item1 item2) m)

  record Has (x : ℕ) : Type 0 where
    row : PageRow
    there : Memᴰ row D.pages
    is : row.identifier ≡ x
    has : {f : ℕ} → Memᴰ f (second_forms d e item1 item2 x) → Memᴰ f row.forms

  row2 : {r : PageRow} → Memᴰ r e.pages → Has (key_of e item2 r)
  unfolding join_draft join_pages keys_of
  row2 {r} m = by_test (any (eqb x) (keys_of d item1)) shared only
    where
      x : ℕ
      x = key_of e item2 r

      shared : any (eqb x) (keys_of d item1) ≡ true → Has x
      shared h =
          let q = any_found (eqb x) (keys_of d item1) h in
          let k = Memᴰ.of_map (key_of d item1) d.pages q.1 in
          let key : key_of d item1 k.0 ≡ x = k.2 ∙ sym (eqb-true x q.0 q.2) in
          record {
            row = row_both d e item1 item2 k.0;
            there = row1 k.1;
            is = key;
            has = λ {f} n. Memᴰ.append_right k.0.forms (subst (λ (y : ℕ). Memᴰ f (second_forms d e item1 item2 y)) (sym key) n);
          }

      only : any (eqb x) (keys_of d item1) ≡ false → Has x
      only h =
          record {
            row = row_second d e item1 item2 x;
            there = Memᴰ.append_right (map (row_both d e item1 item2) d.pages) (Memᴰ.map (row_second d e item1 item2) (only_there eqb (keys_of d item1) (keys_of e item2) (Memᴰ.map (key_of e item2) m) h));
            is = refl;
            has = λ n. n;
          }

  -- Terms: each is one of either dictionary's, and each of theirs is there.
  data TermFrom (t : Bytes) : Type 0 where
    first : {u : Bytes} → Memᴰ u d.terms → t ≡ moved_term d item1 (map name_in D.properties) u → TermFrom t
    second : {u : Bytes} → Memᴰ u e.terms → t ≡ moved_term e item2 (map name_in D.properties) u → TermFrom t

  term_from_lem : {t : Bytes} → Memᴰ t D.terms → TermFrom t
  unfolding join_draft join_terms join_names
  term_from_lem {t} m = go (Memᴰ.append_cases (map (moved_term d item1 (join_names d e item1 item2)) d.terms) m)
    where
      go : Memᴰ t (map (moved_term d item1 (join_names d e item1 item2)) d.terms) ⊎ Memᴰ t (map (moved_term e item2 (join_names d e item1 item2)) e.terms) → TermFrom t
      go (inl n) = let q = Memᴰ.of_map (moved_term d item1 (join_names d e item1 item2)) d.terms n in TermFrom.first q.1 (sym q.2)
      go (inr n) = let q = Memᴰ.of_map (moved_term e item2 (join_names d e item1 item2)) e.terms n in TermFrom.second q.1 (sym q.2)

  term1 : {u : Bytes} → Memᴰ u d.terms → Memᴰ (moved_term d item1 (map name_in D.properties) u) D.terms
  unfolding join_draft join_terms join_names
  term1 m = Memᴰ.append_left (map (moved_term e item2 (join_names d e item1 item2)) e.terms) (Memᴰ.map (moved_term d item1 (join_names d e item1 item2)) m)

  term2 : {u : Bytes} → Memᴰ u e.terms → Memᴰ (moved_term e item2 (map name_in D.properties) u) D.terms
  unfolding join_draft join_terms join_names
  term2 m = Memᴰ.append_right (map (moved_term d item1 (join_names d e item1 item2)) d.terms) (Memᴰ.map (moved_term e item2 (join_names d e item1 item2)) m)

  pub terms_many : length D.terms ≡ length d.terms + length e.terms
  unfolding join_draft join_terms
  terms_many =
      length-append (map (moved_term d item1 (join_names d e item1 item2)) d.terms) (map (moved_term e item2 (join_names d e item1 item2)) e.terms)
      ∙ ap₂ ◌+◌ (length-map d.terms (moved_term d item1 (join_names d e item1 item2))) (length-map e.terms (moved_term e item2 (join_names d e item1 item2)))

  -- Every text is used.
  used1 : {i : ℕ} → Use d i → Memᴰ (item1 i) (text_uses D)
  used1 (Use.property m f) = by_name D (Memᴰ.cast (ap item1 (sym f)) (name1_there d e item1 item2 texts j m))
  used1 (Use.page m f) = by_page D (Memᴰ.cast (ap item1 (sym f)) (Memᴰ.map (λ r. r.identifier) (row1 m)))
  used1 (Use.term m n) = by_term D (term1 m) (term_texts_lem d D item1 s1 m n)

  used2 : {i : ℕ} → Use e i → Memᴰ (item2 i) (text_uses D)
  used2 (Use.property m f) = by_name D (Memᴰ.cast (ap item2 (sym f)) (name2_there d e item1 item2 texts j m))
  used2 (Use.page m f) = let s = row2 m in by_page D (Memᴰ.cast (ap item2 (sym f) ∙ sym s.is) (Memᴰ.map (λ r. r.identifier) s.there))
  used2 (Use.term m n) = by_term D (term2 m) (term_texts_lem e D item2 s2 m n)

  text_used : (i : ℕ) → i < length D.texts → Memᴰ i (text_uses D)
  text_used i b = go ((items d e item1 item2 texts j).each i b)
    where
      go : Names d item1 i ⊎ Names e item2 i → Memᴰ i (text_uses D)
      go (inl n) = Memᴰ.cast (sym n.is) (used1 (use_of d (used_mem (length d.texts) (text_uses d) j.first.canon.texts_used n.number n.below)))
      go (inr n) = Memᴰ.cast (sym n.is) (used2 (use_of e (used_mem (length e.texts) (text_uses e) j.second.canon.texts_used n.number n.below)))

  -- Identifiers are texts.
  identifier_below : {r : PageRow} → RowFrom r → r.identifier < length D.texts
  identifier_below (RowFrom.both m f) = subst (λ (r : PageRow). r.identifier < length D.texts) f (key_below d D item1 s1.items s1.canon m)
  identifier_below (RowFrom.second m f) = subst (λ (r : PageRow). r.identifier < length D.texts) f (key_below e D item2 s2.items s2.canon m)

  -- Forms are numbers of terms, and each term is a form.
  second_there : {r : PageRow} {f : ℕ} → Memᴰ r e.pages → Memᴰ f r.forms → Memᴰ (length d.terms + f) (second_forms d e item1 item2 (key_of e item2 r))
  unfolding second_forms
  second_there {r} {f} m n = Memᴰ.map (λ f. length d.terms + f) (subst (λ (l : List ℕ). Memᴰ f l) (sym (second_forms_lem d e item1 item2 texts j m)) n)

  form_used : (i : ℕ) → i < length D.terms → Memᴰ i (term_uses D)
  form_used i b = by_test (ltb i (length d.terms)) first behind
    where
      first : ltb i (length d.terms) ≡ true → Memᴰ i (term_uses D)
      first t =
          let q = of_flat forms_of d.pages (used_mem (length d.terms) (term_uses d) j.first.canon.terms_used i (ltb-true i (length d.terms) t)) in
          mem_flat forms_of (row1 q.1) (Memᴰ.append_left (second_forms d e item1 item2 (key_of d item1 q.0)) q.2)

      behind : ltb i (length d.terms) ≡ false → Memᴰ i (term_uses D)
      behind t =
          let l = ltb-false i (length d.terms) t in
          let k = i - length d.terms in
          let z : i ≡ length d.terms + k = omega arith in
          let q = of_flat forms_of e.pages (used_mem (length e.terms) (term_uses e) j.second.canon.terms_used k (omega (arith, terms_many))) in
          let s = row2 q.1 in
          mem_flat forms_of s.there (s.has (Memᴰ.cast z (second_there q.1 q.2)))

  second_small : (x : ℕ) {f : ℕ} → Memᴰ f (second_forms d e item1 item2 x) → f < length D.terms
  unfolding second_forms
  second_small x m =
      let place = place_in (keys_of e item2) x in
      let q = Memᴰ.of_map (λ f. length d.terms + f) (forms_in e.pages place) m in
      let r = forms_row e.pages place q.1 in
      let b = form_below e j.second.canon r.1 r.2 in
      omega (arith, q.2, terms_many)

  form_small : (f : ℕ) → Memᴰ f (term_uses D) → f < length D.terms
  form_small f m = let q = of_flat forms_of D.pages m in by_row (row_from q.1) q.2
    where
      either : {q : PageRow} → Memᴰ q d.pages → Memᴰ f q.forms ⊎ Memᴰ f (second_forms d e item1 item2 (key_of d item1 q)) → f < length D.terms
      either k (inl n) = let b = form_below d j.first.canon k n in omega (arith, terms_many)
      either {q} k (inr n) = second_small (key_of d item1 q) n

      by_row : {r : PageRow} → RowFrom r → Memᴰ f r.forms → f < length D.terms
      by_row (RowFrom.both {q = q} k g) n = either k (Memᴰ.append_cases q.forms (subst (λ (r : PageRow). Memᴰ f r.forms) (sym g) n))
      by_row (RowFrom.second {q = q} k g) n = second_small (key_of e item2 q) (subst (λ (r : PageRow). Memᴰ f r.forms) (sym g) n)

  fits : {t : Bytes} → TermFrom t → is_term D t ≡ true
  fits (TermFrom.first m f) = ap (is_term D) f ∙ term_fits d D item1 s1 m
  fits (TermFrom.second m f) = ap (is_term D) f ∙ term_fits e D item2 s2 m

  shaped : {t : Bytes} → TermFrom t → term_of (group_of t) (term_code t) ≡ t
  shaped (TermFrom.first m f) = ap (λ (t : Bytes). term_of (group_of t) (term_code t)) f ∙ term_shaped d D item1 s1 m ∙ sym f
  shaped (TermFrom.second m f) = ap (λ (t : Bytes). term_of (group_of t) (term_code t)) f ∙ term_shaped e D item2 s2 m ∙ sym f

  few : length D.texts < 2 ^ 64
  unfolding join_draft
  few = omega (arith, j.merged.few)

  -- What a draft must keep.
  pub join_draft_lem : Draft D
  join_draft_lem =
      record {
        labels = labels d e D item1 item2 j.first.canon j.second.canon (items d e item1 item2 texts j);
        names = all_of (λ p. is_plain_number D p.name) D.properties (λ r m. row_plain_there d e item1 item2 texts j r (subst (λ l. Memᴰ r l) (draft_rows d e item1 item2 texts j) m));
        identifiers = all_of (λ r. ltb r.identifier (length D.texts)) D.pages (λ r m. lt-ltb r.identifier (length D.texts) (identifier_below (row_from m)));
        terms = all_of (is_term D) D.terms (λ t m. fits (term_from_lem m));
        forms = all_of (λ f. ltb f (length D.terms)) (term_uses D) (λ f m. lt-ltb f (length D.terms) (form_small f m));
        terms_used = mem_used (length D.terms) (term_uses D) form_used;
        texts_used = mem_used (length D.texts) (text_uses D) text_used;
        properties_once = properties_once_lem d e item1 item2 texts j;
        shaped = λ i b. shaped (term_from_lem (mem_at D.terms i [] b));
        few = few;
      }

  -- The draft describes the join.
  pub join_drafted : drafted D ≡ join (decode d) (decode e)
  unfolding drafted
  join_drafted = λ k. record { properties = join_properties d e item1 item2 texts j k; pages = join_pages_lem d e item1 item2 texts j k }
