-- The bytes that the writer counts are those of the dictionary.
use Prim.Native.Nat.{ℕ, ◌+◌, ◌-◌, ◌%◌, ◌<◌, ◌^◌}
use mathlib.Core.Path.{◌≡◌, refl, sym, ap, ap₂, ◌∙◌, subst}
use mathlib.Core.Bool.{Bool, true, false, cond}
use mathlib.Core.List.Memᴰ
use mathlib.Core.List.{List, [], ◌∷◌, ◌++◌, map, Memᴰ}
use mathlib.Core.Logic.{◌⊎◌, inl, inr}
use native.Mathlib.Nat.{mod-eq_of_lt}
use native.Mathlib.Omega.{arith}
use lib.Dec.{eqb}
use lib.ListN.{length, get_or}
use Rattle.text.specs.Bytes.{order_of, any}
use Rattle.text.specs.Table.{tabulate}
use Rattle.text.proofs.Tables.{length_tabulate, get_d_tabulate}
use Rattle.values.specs.Values.{kind_from}
use Rattle.values.specs.declared.Kind.{Kind}
use Rattle.values.specs.Spelling.{spelling}
use Rattle.language.specs.Rules.{total}
use Rattle.language.proofs.Members.{all_at}
use Rattle.sorting.proofs.Listings.{get_d_listed}
use Rattle.sorting.proofs.Numbers.{numbered_below, numbered_names}
use Rattle.sorting.proofs.Orders.{bytes_total}
use Rattle.dictionary.specs.Items.{text_at}
use Rattle.register_form.specs.Dictionary.{PropertyRow, space_of, name_of, term_of, term_code, value_from, text_in, term_in, property_in, no_property, category_of, held_of}
use Rattle.register_form.specs.Form.{forms_of, joined}
use Rattle.register_form.specs.Tests.{is_labelled, is_plain, is_code, term_uses, term_bytes, counted_bytes}
use Rattle.register_form.specs.Draft.{once_behind}
use Rattle.register_form.proofs.Lists.{mem_at, mem_place, of_flat}
use Rattle.register_form.proofs.Numbers.{code_back}
use Rattle.buffer.proofs.Parts.{flat_map_lem, map_tabulate}
use Rattle.register_form_bytes.specs.Writing.{row_of, rows_of, first_of}
use Rattle.register_form.specs.Tables.{Tables, forms_at, draft_in}
use Rattle.register_form_assembly.specs.Terms.{code_for, code_by, term_by}
use Rattle.register_form_assembly.specs.Keeping.{of_pass, passed, kept_by, kept_on, kept_up_to}
use Rattle.register_form_assembly.specs.Counting.{text_bytes, link_bytes, value_bytes, form_bytes, term_bytes_by}
use Rattle.register_form_write.specs.Writer.{Capacity, Found, page_by, tabled, kept_all, counted_by}
use Rattle.register_form_write.proofs.Renumbered.{text_count_lem, text_in_lem, page_below, string_below, category_text, value_property, value_code_lem}
use Rattle.register_form_write.proofs.Tabling.{Renumbering, filtered_mem, name_text, identifier_below, form_below, number_below}
use Rattle.register_form_write.proofs.Lengths.{plain_length, identifier_length, link_length, total_each, total_members}

-- A number that is kept came from before or from the list.
once_mem : (l seen : List ℕ) {u : ℕ} → Memᴰ u (once_behind eqb seen l) → Memᴰ u seen ⊎ Memᴰ u l
unfolding once_behind
once_mem [] seen m = inl m
once_mem (x ∷ l) seen {u} m = go (any (eqb x) seen) (once_mem l (cond (any (eqb x) seen) seen (seen ++ (x ∷ []))) m)
  where
    new : Memᴰ u seen ⊎ Memᴰ u (x ∷ []) → Memᴰ u seen ⊎ Memᴰ u (x ∷ l)
    new (inl n) = inl n
    new (inr n) = inr (Memᴰ.head (Memᴰ.eq_of_singleton n))

    go : (b : Bool) → Memᴰ u (cond b seen (seen ++ (x ∷ []))) ⊎ Memᴰ u l → Memᴰ u seen ⊎ Memᴰ u (x ∷ l)
    go b (inr n) = inr (Memᴰ.tail n)
    go true (inl n) = inl n
    go false (inl n) = new (Memᴰ.append_cases seen n)

pub uses_are : (t : Tables) (v : Found) → term_uses (tabled t v) ≡ kept_all t v
unfolding tabled kept_up_to
uses_are t v = sym (flat_map_lem forms_of (tabulate t.ng (page_by t v))) ∙ ap joined (map_tabulate forms_of t.ng (page_by t v))

module _ (t : Tables) (v : Found) (r : Renumbering t v) (c : Capacity t) where
  -- The texts and terms of the dictionary, by the draft's.
  labelled_text : (x : ℕ) → x < t.m → is_labelled (text_at t.s t.starts t.lens x) ≡ true
  labelled_text x b = all_at is_labelled r.draft.labels (Memᴰ.cast (sym (text_in_lem t x b)) (mem_at (draft_in t).texts x [] (omega (arith, text_count_lem t))))

  new_text : (x : ℕ) → x < t.m → text_in (tabled t v) (get_or v.numbers x 0) ≡ text_at t.s t.starts t.lens x
  unfolding tabled
  new_text x b =
      get_d_listed (text_at t.s t.starts t.lens) v.refs v.nx (get_or v.numbers x 0) []
      (numbered_below order_of bytes_total (text_at t.s t.starts t.lens) t.m v.refs v.nx v.numbers r.texts x b)
      ∙ numbered_names order_of bytes_total (text_at t.s t.starts t.lens) t.m v.refs v.nx v.numbers r.texts x b

  number_small : (x : ℕ) → x < t.m → get_or v.numbers x 0 < 2 ^ 64
  number_small x b =
      omega (arith, numbered_below order_of bytes_total (text_at t.s t.starts t.lens) t.m v.refs v.nx v.numbers r.texts x b, r.texts.most, c.texts)

  item_low : (x : ℕ) → x < t.m → x % 65536 ≡ x
  item_low x b = mod-eq_of_lt (omega (arith, c.texts))

  -- A name, an identifier, a link.
  plain_bytes : (x : ℕ) → x < t.m → is_plain (text_at t.s t.starts t.lens x) ≡ true → length (name_of (text_in (tabled t v) (get_or v.numbers x 0))) ≡ text_bytes t.s t.starts t.lens x
  unfolding text_bytes
  plain_bytes x b p = rw (new_text x b) (plain_length (text_at t.s t.starts t.lens x) (labelled_text x b) p)

  identifier_bytes_lem : (x : ℕ) → x < t.m → length (space_of (text_in (tabled t v) (get_or v.numbers x 0))) + length (name_of (text_in (tabled t v) (get_or v.numbers x 0))) ≡ text_bytes t.s t.starts t.lens x
  unfolding text_bytes
  identifier_bytes_lem x b = rw (new_text x b) (identifier_length (text_at t.s t.starts t.lens x) (labelled_text x b))

  -- The code of a value, and its bytes.
  code_small : (k : Kind) (x : ℕ) → is_code (draft_in t) k x ≡ true → x < 2 ^ 64 → code_for k v.numbers x < 2 ^ 64
  code_small Kind.Page x h s = number_small x (page_below t x h)
  code_small (Kind.Scalar k) x h s = s
  code_small Kind.String x h s = number_small x (string_below t x h).0

  value_length : (k : Kind) (x : ℕ) → is_code (draft_in t) k x ≡ true → length (spelling (value_from (tabled t v).texts k (code_for k v.numbers x))) ≡ value_bytes t.s t.starts t.lens k x
  unfolding spelling link_bytes text_bytes
  value_length Kind.Page x h =
      let b = page_below t x h in
      rw (new_text x b, item_low x b) (link_length (text_at t.s t.starts t.lens x) (labelled_text x b))
  value_length (Kind.Scalar k) x h = refl
  value_length Kind.String x h =
      let b = string_below t x h in
      rw (item_low x b.0) (plain_bytes x b.0 b.1)

  -- A form.
  module _ (f : ℕ) (b : f < t.nt) where
    kind_in_lem : get_or t.groups f 0 - 1 < t.np → (property_in (tabled t v) (get_or t.groups f 0 - 1)).kind ≡ kind_from (get_or t.kinds (get_or t.groups f 0 - 1) 0)
    unfolding tabled rows_of
    kind_in_lem k =
        ap (λ (q : PropertyRow). q.kind) (get_d_tabulate t.np (λ p. row_of (get_or t.kinds p 0) (get_or v.numbers (get_or t.names p 0) 0)) (no_property (tabled t v)) (get_or t.groups f 0 - 1) k)

    form_length_lem : term_bytes (tabled t v) (term_by t.kinds v.numbers t.groups t.codes f) ≡ form_bytes t.s t.starts t.lens t.kinds (get_or t.groups f 0) (get_or t.codes f 0)
    unfolding term_bytes term_by code_by form_bytes category_of held_of
    form_length_lem = go (eqb (get_or t.groups f 0) 0) refl
      where
        go : (y : Bool)
            → eqb (get_or t.groups f 0) 0 ≡ y
            → cond y
            (length (name_of (text_in (tabled t v) (term_code (term_of (get_or t.groups f 0) (cond y (get_or v.numbers (get_or t.codes f 0) 0) (code_for (kind_from (get_or t.kinds (get_or t.groups f 0 - 1) 0)) v.numbers (get_or t.codes f 0))))))))
            (length (spelling (value_from (tabled t v).texts (property_in (tabled t v) (get_or t.groups f 0 - 1)).kind (term_code (term_of (get_or t.groups f 0) (cond y (get_or v.numbers (get_or t.codes f 0) 0) (code_for (kind_from (get_or t.kinds (get_or t.groups f 0 - 1) 0)) v.numbers (get_or t.codes f 0))))))))
            ≡ cond y (text_bytes t.s t.starts t.lens (get_or t.codes f 0 % 65536)) (value_bytes t.s t.starts t.lens (kind_from (get_or t.kinds (get_or t.groups f 0 - 1) 0)) (get_or t.codes f 0))
        go true e =
            let x = get_or t.codes f 0 in
            let p = category_text t r.draft r.small f b e in
            rw (code_back (get_or t.groups f 0) (get_or v.numbers x 0) (number_small x p.0), item_low x p.0) (plain_bytes x p.0 p.1)
        go false e =
            let x = get_or t.codes f 0 in
            let k = kind_from (get_or t.kinds (get_or t.groups f 0 - 1) 0) in
            let h = value_code_lem t r.draft r.small f b e in
            rw (kind_in_lem (value_property t r.draft r.small f b e), code_back (get_or t.groups f 0) (code_for k v.numbers x) (code_small k x h (r.small f))) (value_length k x h)

  term_length : (u : ℕ) → u < v.nt → term_bytes (tabled t v) (term_in (tabled t v) u) ≡ term_bytes_by t.s t.starts t.lens t.kinds t.groups t.codes v.term_refs u
  unfolding tabled term_bytes_by
  term_length u b =
      let f = get_or v.term_refs u 0 in
      let below = r.terms.within u b in
      ap (term_bytes (tabled t v)) (get_d_listed (text_at v.table v.term_starts v.term_lens) v.term_refs v.nt u [] b ∙ r.same f below) ∙ form_length_lem f below

  -- The forms of all pages.
  passed_below : (first : Bool) (i u : ℕ) → i < t.ng → Memᴰ u (map (λ f. get_or v.term_numbers f 0) (passed first t.groups (forms_at t.uses t.firsts i))) → u < v.nt
  unfolding passed
  passed_below first i u b m =
      let q = Memᴰ.of_map (λ f. get_or v.term_numbers f 0) (passed first t.groups (forms_at t.uses t.firsts i)) m in
      let k = number_below t v r q.0 (form_below t v r i q.0 b (filtered_mem (λ f. of_pass first (get_or t.groups f 0)) (forms_at t.uses t.firsts i) q.1)) in
      omega (arith, q.2)

  kept_below : (i u : ℕ) → i < t.ng → Memᴰ u (kept_on t.groups v.term_numbers t.uses t.firsts i) → u < v.nt
  unfolding kept_on kept_by
  kept_below i u b m = second (once_mem two (once_behind eqb [] one) m)
    where
      one : List ℕ
      one = map (λ f. get_or v.term_numbers f 0) (passed true t.groups (forms_at t.uses t.firsts i))

      two : List ℕ
      two = map (λ f. get_or v.term_numbers f 0) (passed false t.groups (forms_at t.uses t.firsts i))

      first : Memᴰ u [] ⊎ Memᴰ u one → u < v.nt
      first (inl n) = absurd (Memᴰ.not-nil n)
      first (inr n) = passed_below true i u b n

      second : Memᴰ u (once_behind eqb [] one) ⊎ Memᴰ u two → u < v.nt
      second (inl n) = first (once_mem one [] n)
      second (inr n) = passed_below false i u b n

  all_below_lem : (u : ℕ) → Memᴰ u (kept_all t v) → u < v.nt
  unfolding kept_up_to
  all_below_lem u m =
      let q = of_flat (λ (l : List ℕ). l) (tabulate t.ng (kept_on t.groups v.term_numbers t.uses t.firsts)) m in
      let p = mem_place [] q.1 in
      let b : p.0 < t.ng = omega (arith, p.1, length_tabulate t.ng (kept_on t.groups v.term_numbers t.uses t.firsts)) in
      kept_below p.0 u b (subst (λ (l : List ℕ). Memᴰ u l) (sym p.2 ∙ get_d_tabulate t.ng (kept_on t.groups v.term_numbers t.uses t.firsts) [] p.0 b) q.2)

  names_are : total (λ p. length (name_of (text_in (tabled t v) p.name))) (tabled t v).properties ≡ total (text_bytes t.s t.starts t.lens) (first_of t.names t.np)
  unfolding tabled rows_of first_of
  names_are =
      total_each t.np (λ p. length (name_of (text_in (tabled t v) p.name))) (λ p. row_of (get_or t.kinds p 0) (get_or v.numbers (get_or t.names p 0) 0)) (text_bytes t.s t.starts t.lens) (λ p. get_or t.names p 0)
      (λ p b. let q = name_text t v r p b in plain_bytes (get_or t.names p 0) q.0 q.1)

  identifiers_are : total (λ p. length (space_of (text_in (tabled t v) p.identifier)) + length (name_of (text_in (tabled t v) p.identifier))) (tabled t v).pages ≡ total (text_bytes t.s t.starts t.lens) (first_of t.identifiers t.ng)
  unfolding tabled first_of
  identifiers_are =
      total_each t.ng (λ p. length (space_of (text_in (tabled t v) p.identifier)) + length (name_of (text_in (tabled t v) p.identifier))) (page_by t v) (text_bytes t.s t.starts t.lens) (λ i. get_or t.identifiers i 0)
      (λ i b. identifier_bytes_lem (get_or t.identifiers i 0) (identifier_below t v r i b))

  forms_are : total (λ f. term_bytes (tabled t v) (term_in (tabled t v) f)) (term_uses (tabled t v)) ≡ total (term_bytes_by t.s t.starts t.lens t.kinds t.groups t.codes v.term_refs) (kept_all t v)
  forms_are =
      ap (total (λ f. term_bytes (tabled t v) (term_in (tabled t v) f))) (uses_are t v)
      ∙ total_members (λ f. term_bytes (tabled t v) (term_in (tabled t v) f)) (term_bytes_by t.s t.starts t.lens t.kinds t.groups t.codes v.term_refs) (kept_all t v) (λ u m. term_length u (all_below_lem u m))

  pub counted_are : counted_bytes (tabled t v) ≡ counted_by t v
  unfolding counted_bytes counted_by
  counted_are = ap₂ (λ (x y : ℕ). x + y) (ap₂ (λ (x y : ℕ). x + y) names_are identifiers_are) forms_are
