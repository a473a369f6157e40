-- What the tables hold after an entry.
use Rattle.std.specs.Prelude.{Option, Some}
use Prim.Native.Nat.{ℕ, suc, ◌+◌, ◌%◌, ◌≤◌, ◌<◌}
use mathlib.Core.Path.{◌≡◌, sym, ap, ◌∙◌, subst}
use mathlib.Core.Bool.{true, ◌&&◌}
use mathlib.Core.List.{List, [], ◌∷◌, ◌++◌}
use native.Mathlib.Nat.{mod-eq_of_lt}
use native.Mathlib.Omega.{arith}
use lib.ListN.{length, length-append}
use Rattle.text.specs.Bytes.{Bytes}
use Rattle.text.specs.Table.{tabulate}
use Rattle.text.proofs.Tables.{length_tabulate}
use Rattle.values.specs.declared.Kind.{Kind}
use Rattle.names.specs.Names.{is_composed_name, is_composed_namespace}
use Rattle.names.proofs.Composed.{composed_named}
use Rattle.values.specs.Names.{is_value}
use Rattle.values.specs.Values.{Value, plain, link, kind_of, read_value}
use Rattle.values.specs.Spelling.{spelling}
use Rattle.language.specs.Answer.{◌>>=◌}
use Rattle.language.specs.Register.{Property, kind_among}
use Rattle.language.specs.RegisterText.{prop, page, val, value_of}
use Rattle.language.specs.Rules.{is_identifier, is_storable}
use Rattle.language.proofs.Members.{and_true}
use Rattle.register_form.specs.Dictionary.{PropertyRow, PageRow, Dictionary, labelled, term_of}
use Rattle.register_form.specs.Encoding.{plain_text, value_texts, place_among}
use Rattle.register_form.specs.Form.{joined}
use Rattle.register_text_draft.specs.declared.TextTable.{TextTable}
use Rattle.register_text_draft.specs.declared.PropertyTable.{PropertyTable}
use Rattle.register_text_draft.specs.declared.PageTable.{PageTable}
use Rattle.register_text_draft.specs.declared.TermTable.{TermTable}
use Rattle.register_text_draft.specs.declared.DraftTables.{DraftTables}
use Rattle.register_text_draft.specs.Drafting.{code_in, with_value, added}
use Rattle.register_text_draft.specs.Sizes.{Fits, Valued, Spaced}
use Rattle.register_text_draft.specs.Lookup.{found_in, property_found, Lists}
use Rattle.register_text_draft.specs.Tables.{Texts, property_in, Properties, page_in, Pages, term_in, Holding, Pushed, FormsPushed, Extends}
use Rattle.register_text_draft.proofs.Bounds.{length_last}
use Rattle.register_text_draft.proofs.Entries.{namespace_short}
use Rattle.register_text_draft.proofs.Terms.{stands}

counted : {A : Type 0} (n : ℕ) (f : ℕ → A) (l : List A) → tabulate n f ≡ l → n ≡ length l
counted n f l e = sym (length_tabulate n f) ∙ ap length e

module _ (t u : TextTable) (l : List Bytes) (p : Pushed t l u) (R : PropertyTable) (P : PageTable) (V : TermTable) where
  abbrev A : DraftTables
  A = record { texts = t; properties = R; pages = P; terms = V }

  -- The texts of a draft that fits.
  texts_held : (k m : List Bytes) → l ≡ m → Texts t.heap.now t.starts.now t.lens.now t.count t.end k → length (k ++ m) ≤ 2368 → length (joined (k ++ m)) ≤ 32768 + length (k ++ m) → Texts u.heap.now u.starts.now u.lens.now u.count u.end (k ++ m)
  texts_held k m e x few fit = subst (λ (n : List Bytes). Texts u.heap.now u.starts.now u.lens.now u.count u.end (k ++ n)) e (p.texts k x (rw e few) (rw e (omega arith)))

  -- A value.
  module _ (P' : PageTable) (V' : TermTable) (g n : ℕ) (q : FormsPushed P V g n P' V') where
    pub value_added : (w : Value) → l ≡ value_texts w → n ≡ code_in t.count w → Extends A (record { texts = u; properties = R; pages = P'; terms = V' }) (with_value g w)
    value_added w el en = record { held = go }
      where
        go : (d : Dictionary) → Fits (with_value g w d) → Holding A d → Holding (record { texts = u; properties = R; pages = P'; terms = V' }) (with_value g w d)
        go d fit h =
            let forms : V.count ≡ length d.terms = counted V.count (term_in V.groups.now V.codes.now) d.terms h.terms.rows in
            let pages : P.count ≡ length d.pages = counted P.count (page_in P.identifiers.now P.firsts.now) d.pages h.pages.rows in
            let more = length-append d.terms (term_of g (code_in (length d.texts) w) ∷ []) in
            let below : V.count < 2048 = omega (arith, fit.terms) in
            let code : n ≡ code_in (length d.texts) w = en ∙ ap (λ (m : ℕ). code_in m w) h.texts.count in
            record {
              texts = texts_held d.texts (value_texts w) el h.texts (omega (arith, fit.texts)) fit.bytes;
              properties = h.properties;
              pages = rw (← forms) (q.pages d.pages h.pages (omega (arith, fit.pages, length_last (length d.terms) d.pages)) below);
              terms = rw (← code) (q.terms d.terms h.terms below);
            }

  -- A property.
  module _ (k : Kind) (x : Bytes) (el : l ≡ plain_text x ∷ []) (R' : PropertyTable)
      (q : (m : List PropertyRow) → Properties R.kinds.now R.names.now R.count m → R.count < 64 → Properties R'.kinds.now R'.names.now R'.count (m ++ (record { kind = k; name = t.count } ∷ [])))
    where
      pub property_added : (ps : List Property) → Extends A (record { texts = u; properties = R'; pages = P; terms = V }) (λ d. added ps d (prop x k))
      unfolding added
      property_added ps = record { held = go }
        where
          go : (d : Dictionary) → Fits (added ps d (prop x k)) → Holding A d → Holding (record { texts = u; properties = R'; pages = P; terms = V }) (added ps d (prop x k))
          go d fit h =
              let count : R.count ≡ length d.properties = counted R.count (property_in R.kinds.now R.names.now) d.properties h.properties.rows in
              let more = length-append d.properties (record { kind = k; name = length d.texts } ∷ []) in
              let below : R.count < 64 = omega (arith, fit.properties) in
              record {
                texts = texts_held d.texts (plain_text x ∷ []) el h.texts (omega (arith, fit.texts)) fit.bytes;
                properties = rw (← h.texts.count) (q d.properties h.properties below);
                pages = h.pages;
                terms = h.terms;
              }

  -- A page.
  module _ (n x : Bytes) (el : l ≡ labelled n x ∷ []) (P' : PageTable)
      (q : (m : List PageRow) → Pages P.identifiers.now P.firsts.now P.count V.count m → P.count < 256 → Pages P'.identifiers.now P'.firsts.now P'.count V.count (m ++ (record { identifier = t.count; forms = [] } ∷ [])))
    where
      pub page_added : (ps : List Property) → Extends A (record { texts = u; properties = R; pages = P'; terms = V }) (λ d. added ps d (page n x))
      unfolding added
      page_added ps = record { held = go }
        where
          go : (d : Dictionary) → Fits (added ps d (page n x)) → Holding A d → Holding (record { texts = u; properties = R; pages = P'; terms = V }) (added ps d (page n x))
          go d fit h =
              let count : P.count ≡ length d.pages = counted P.count (page_in P.identifiers.now P.firsts.now) d.pages h.pages.rows in
              let more = length-append d.pages (record { identifier = length d.texts; forms = [] } ∷ []) in
              let below : P.count < 256 = omega (arith, fit.pages) in
              record {
                texts = texts_held d.texts (labelled n x ∷ []) el h.texts (omega (arith, fit.texts)) fit.bytes;
                properties = h.properties;
                pages = rw (← h.texts.count) (q d.pages h.pages below);
                terms = h.terms;
              }

-- A value under a property.
spaced : (w : Value) → is_storable w ≡ true → Spaced w
unfolding is_storable is_identifier
spaced (plain c) h = tt
spaced (link i) h =
    let t = and_true (is_composed_namespace i.namespace) (is_composed_name i.article) (and_true (is_composed_namespace i.namespace && is_composed_name i.article) (is_value (spelling (link i))) h).0 in
    (namespace_short i.namespace t.0, (composed_named i.article t.1).short)

module _ (s : Bytes) (t props : List ℕ) (np : ℕ) (x v : Bytes) (ps : List Property) (i : Lists s t props np ps) (q : Valued ps x v) (r : Option (Kind × ℕ)) (er : r ≡ property_found (found_in s t props np x)) where
  -- the property is found
  found_at : r ≡ Some (kind_of q.value, place_among ps x % 65536)
  found_at = er ∙ ap property_found (i.found x ∙ ap (λ (o : Option Kind). o >>= λ k. Some (k, place_among ps x)) q.kind)

  module _ (k : Kind) (p : ℕ) (e : r ≡ Some (k, p)) (p' g : ℕ) (ep : p' ≡ p) (eg : g ≡ (p' + 1) % 256) where
    found_is : ◌≡◌ {A = Kind × ℕ} (kind_of q.value, place_among ps x % 65536) (k, p)
    found_is = let f = found_at in cc

    kind_is : kind_of q.value ≡ k
    kind_is = ap (λ y. y.0) found_is

    place_is : place_among ps x % 65536 ≡ p
    place_is = ap (λ y. y.1) found_is

    group_is : g ≡ suc (place_among ps x)
    group_is =
        let none : Property = record { name = []; kind = Kind.Page } in
        let b = (stands ps x (kind_of q.value) none q.kind).below in
        let few = i.few in
        let a : p' ≡ place_among ps x = ep ∙ sym place_is ∙ mod-eq_of_lt (omega arith) in
        let z : p' + 1 ≡ suc (place_among ps x) = omega arith in
        eg ∙ ap (λ (n : ℕ). n % 256) z ∙ mod-eq_of_lt (omega arith)

    reads : read_value k v ≡ Some q.value
    unfolding value_of
    reads = let f : (kind_among ps x >>= λ k. read_value k v) ≡ Some q.value = q.read in let g : read_value (kind_of q.value) v ≡ Some q.value = rw q.kind at f in rw kind_is at g

    pub val_added : (B C : DraftTables) → ((w : Value) → read_value k v ≡ Some w → Spaced w → Extends B C (with_value g w)) → Extends B C (λ b. added ps b (val x v))
    unfolding added
    val_added B C f =
        let a = f q.value reads (spaced q.value q.storable) in
        record {
          held = λ b fit h.
              let same : added ps b (val x v) ≡ with_value g q.value b = rw (q.read, group_is) in
              subst (Holding C) (sym same) (a.held b (subst Fits same fit) h);
        }
