-- What writing a draft answers: through the numbering of terms and of texts, to the register that the draft describes.
use Prim.Native.Nat.{ℕ, ◌+◌, ◌*◌, ◌≤◌, ◌<◌, ◌^◌}
use mathlib.Core.Path.{◌≡◌, refl, sym, ap, ap₂, ◌∙◌, subst}
use mathlib.Core.Bool.{Bool, true, false, cond}
use mathlib.Core.List.{List, []}
use native.Mathlib.Omega.{arith}
use lib.ListN.{length, get_or, replicate, length-replicate, get_or-replicate, length-map}
use lib.Seq.{take_all}
use borrow.Author.Tests.{le-leb, lt-leb}
use Rattle.text.specs.Bytes.{Bytes, order_of, part}
use Rattle.text.specs.Table.{tabulate}
use Rattle.text.proofs.Tables.{length_tabulate, get_d_tabulate, tabulate_ext}
use Rattle.language.specs.Answer.{Answer, refused, Answered}
use Rattle.language.specs.Rules.{is_within_limits}
use Rattle.sorting.specs.Ascending.{ascends, sorted, rank}
use Rattle.sorting.specs.Listing.{listed, Numbered, Numbering}
use Rattle.sorting.proofs.Canonical.{canonical}
use Rattle.sorting.proofs.Ranks.{rank_at}
use Rattle.sorting.proofs.Orders.{bytes_total}
use Rattle.dictionary.specs.Items.{text_at}
use Rattle.buffer.specs.Numbers.{zeros, padded}
use Rattle.register_form.specs.Dictionary.{Dictionary}
use Rattle.register_form.specs.Form.{joined, form_of, stored}
use Rattle.register_form.specs.Tests.{Bounded}
use Rattle.register_form.specs.Draft.{Draft, assembled, drafted, write_into}
use Rattle.buffer.proofs.Regions.{length_padded}
use Rattle.register_form.proofs.Rows.{length_rows, row_in}
use Rattle.register_form.proofs.Rules.{within}
use Rattle.register_form.proofs.Renumbered.{properties_many, pages_many}
use Rattle.register_form.proofs.Assembled.{assembled_is}
use Rattle.register_form.proofs.Drafting.{drafted_limits}
use Rattle.buffer.specs.Writing.{written}
use Rattle.register_form_bytes.specs.Writing.{rows_of}
use Rattle.register_form_bytes.proofs.Filled.{region_filled}
use Rattle.register_form.specs.Tables.{Tables, draft_in}
use Rattle.register_form_assembly.specs.Terms.{term_by, terms_by, Filling}
use Rattle.register_form_write.specs.Writer.{fits_limits, fitted, write_dictionary, Capacity, Found, page_by, tabled, fits_counted, write_counted, found_of, Writable, KeptWritten, TermsWritten, NumberedWritten, DraftWritten, OrderedWritten}
use Rattle.register_form_write.proofs.Renumbered.{property_count_lem, page_count_lem}
use Rattle.register_form_write.proofs.Tabling.{Renumbering, tabled_assembled, within as within-numbers}
use Rattle.register_form_write.proofs.Counted.{uses_are, counted_are}
use Rattle.register_form_write.proofs.Limited.{bounded_encoded}

-- Items in ascending order have their own numbers.
own_numbered : (f : ℕ → Bytes) (m : ℕ) (own : List ℕ) → ((i : ℕ) → i < m → get_or own i 0 ≡ i) → ascends order_of (tabulate m f) ≡ true → Numbered order_of f m own m own
unfolding listed
own_numbered f m own at up =
    let same : tabulate m f ≡ sorted order_of (tabulate m f) = canonical order_of bytes_total (tabulate m f) (tabulate m f) up (λ z. refl) in
    let size = length_tabulate m f in
    record {
      is = tabulate_ext m (λ i. f (get_or own i 0)) f (λ i b. ap f (at i b)) ∙ same;
      within = λ j b. rw (at j b) b;
      at = λ i b. at i b ∙ sym (ap₂ (rank order_of) (sym (get_d_tabulate m f [] i b)) (sym same) ∙ rank_at order_of bytes_total (tabulate m f) i [] up (omega (arith, size)));
      count = ap length (sym same) ∙ size;
      most = omega arith;
    }

-- The table of terms: term f lies at 9 f.
module _ (kinds numbers groups codes : List ℕ) (n : ℕ) (b : n ≤ 4096) where
  term_nine : (i : ℕ) → i < length (terms_by kinds numbers groups codes n) → length (get_or (terms_by kinds numbers groups codes n) i []) ≡ 9
  unfolding terms_by term_by
  term_nine i k = ap length (get_d_tabulate n (term_by kinds numbers groups codes) [] i (rw length_tabulate at k))

  terms_count : length (terms_by kinds numbers groups codes n) ≡ n
  unfolding terms_by
  terms_count = length_tabulate n (term_by kinds numbers groups codes)

  terms_room : length (joined (terms_by kinds numbers groups codes n)) ≤ 36864
  terms_room = omega (arith, length_rows (λ (t : Bytes). t) 9 [] (terms_by kinds numbers groups codes n) term_nine, terms_count)

  module _ (table : Bytes) (starts : List ℕ) (e : table ≡ written (replicate 36864 0) 0 (joined (terms_by kinds numbers groups codes n))) (s : Filling (λ i. 9 * i) (replicate 4096 0) n starts) where
    table_is : table ≡ padded 36864 (joined (terms_by kinds numbers groups codes n))
    unfolding zeros
    table_is = e ∙ region_filled 36864 (joined (terms_by kinds numbers groups codes n)) terms_room

    whole : part table 0 36864 ≡ padded 36864 (joined (terms_by kinds numbers groups codes n))
    whole = take_all 36864 table (omega (arith, ap length table_is, length_padded 36864 (joined (terms_by kinds numbers groups codes n)) terms_room)) ∙ table_is

    pub term_there : (f : ℕ) → f < n → text_at table starts (replicate 4096 9) f ≡ term_by kinds numbers groups codes f
    unfolding text_at terms_by
    term_there f c =
        let start : get_or starts f 0 ≡ 0 + 9 * f = omega (arith, s.tabled.at f c (omega (arith, s.size, length-replicate {A = ℕ} 4096 0))) in
        let size : ◌≡◌ {A = ℕ} (get_or (replicate 4096 9) f 0) 9 = get_or-replicate 4096 f 9 0 (omega arith) in
        ap₂ (λ (x y : ℕ). part table x y) start size
        ∙ row_in (λ (t : Bytes). t) 9 [] table 0 36864 (terms_by kinds numbers groups codes n) whole term_nine (omega (arith, terms_count)) f (omega (arith, terms_count))
        ∙ get_d_tabulate n (term_by kinds numbers groups codes) [] f c

-- The limits, told by the tables.
rows_count : (t : Tables) (v : Found) → length (tabled t v).properties ≡ t.np
unfolding tabled rows_of
rows_count t v = rw length_tabulate

pages_count : (t : Tables) (v : Found) → length (tabled t v).pages ≡ t.ng
unfolding tabled
pages_count t v = length_tabulate t.ng (page_by t v)

module _ (t : Tables) (v : Found) (r : Renumbering t v) (c : Capacity t) (p : t.np ≤ 64) (g : t.ng ≤ 256) where
  limits_same : fits_limits (tabled t v) ≡ fits_counted t v
  unfolding fits_limits fits_counted
  limits_same =
      rw (
        le-leb (length (tabled t v).properties) 64 (omega (arith, rows_count t v)),
        le-leb (length (tabled t v).pages) 256 (omega (arith, pages_count t v)),
        uses_are t v,
        counted_are t v r c,
      )

  written_same : (h : Bytes) → write_counted t v h ≡ write_dictionary (assembled (draft_in t)) h
  unfolding write_counted write_dictionary
  written_same h =
      ap (λ (b : Bool). cond b (fitted (tabled t v) h) (refused 7)) (sym limits_same)
      ∙ ap (λ (e : Dictionary). cond (fits_limits e) (fitted e h) (refused 7)) (tabled_assembled t v r)

  counted_fits : fits_counted t v ≡ true → fits_limits (assembled (draft_in t)) ≡ true
  counted_fits e = sym (ap fits_limits (tabled_assembled t v r)) ∙ limits_same ∙ e

  -- The answer about the tables is one about what is assembled of the draft.
  tables_answered : (h : Bytes) (y : ℕ) (o : Bytes) → (fits_limits (assembled (draft_in t)) ≡ true → Bounded (assembled (draft_in t))) → KeptWritten t v h y o → v.nt ≤ 4096 → Answered (write_dictionary (assembled (draft_in t)) h) h y o
  tables_answered h y o b k n =
      let answer = k.is (within-numbers t v r 4096 n) g (λ e. rw (tabled_assembled t v r) (b (counted_fits e))) in
      subst (λ (a : Answer Bytes). Answered a h y o) (written_same h) answer

-- Numbering the terms.
pub terms_written : (t : Tables) (refs : List ℕ) (nx : ℕ) (numbers : List ℕ) (table : Bytes) (starts term_refs term_numbers scratch : List ℕ) (n nt : ℕ) (h : Bytes) (y : ℕ) (o : Bytes)
    → ((i : ℕ) → get_or t.codes i 0 < 2 ^ 64)
    → table ≡ written (replicate 36864 0) 0 (joined (terms_by t.kinds numbers t.groups t.codes t.nt))
    → Filling (λ i. 9 * i) (replicate 4096 0) t.nt starts
    → Numbering order_of (text_at table starts (replicate 4096 9)) t.nt (replicate 4096 0) (replicate 4096 0) (replicate 4096 0) term_refs term_numbers scratch n
    → nt ≡ n
    → KeptWritten t (found_of refs nx numbers table starts (replicate 4096 9) term_refs nt term_numbers) h y o
    → TermsWritten t refs nx numbers h y o
terms_written t refs nx numbers table starts term_refs term_numbers scratch n nt h y o small e s q d k =
    record {
      is = λ w x p g.
          let b = w.capacity.terms in
          let room : t.nt ≤ length (replicate {A = ℕ} 4096 0) = omega (arith, length-replicate {A = ℕ} 4096 0) in
          let r : Renumbering t (found_of refs nx numbers table starts (replicate 4096 9) term_refs nt term_numbers) = record {
            draft = w.draft;
            small = small;
            texts = x;
            same = term_there t.kinds numbers t.groups t.codes t.nt b table starts e s;
            terms = rw d (q.good room room room);
          } in
          tables_answered t (found_of refs nx numbers table starts (replicate 4096 9) term_refs nt term_numbers) r w.capacity p g h y o w.bounded k (omega (arith, q.most));
    }

-- Texts that are numbered, where properties and pages are few; and where they are not.
module _ (t : Tables) (refs : List ℕ) (nx : ℕ) (numbers : List ℕ) (h : Bytes) where
  assembled_properties : length (assembled (draft_in t)).properties ≡ t.np
  unfolding assembled
  assembled_properties = rw length-map (property_count_lem t)

  assembled_pages : length (assembled (draft_in t)).pages ≡ t.ng
  unfolding assembled
  assembled_pages = rw length-map (page_count_lem t)

  over : fits_limits (assembled (draft_in t)) ≡ false → NumberedWritten t refs nx numbers h 7 h
  unfolding write_dictionary
  over e = record { is = λ w x. record { number = rw e; bytes = rw e } }

  pub many_properties : 64 < t.np → NumberedWritten t refs nx numbers h 7 h
  unfolding fits_limits
  many_properties b = over (rw (lt-leb (length (assembled (draft_in t)).properties) 64 (omega (arith, assembled_properties))))

  pub many_pages : t.np ≤ 64 → 256 < t.ng → NumberedWritten t refs nx numbers h 7 h
  unfolding fits_limits
  many_pages p b =
      over (rw (le-leb (length (assembled (draft_in t)).properties) 64 (omega (arith, assembled_properties)), lt-leb (length (assembled (draft_in t)).pages) 256 (omega (arith, assembled_pages))))

-- The register that a draft describes is the dictionary that is assembled of it, written.
described : (t : Tables) (h : Bytes) (y : ℕ) (o : Bytes) → Draft (draft_in t) → Capacity t → (Writable t → Answered (write_dictionary (assembled (draft_in t)) h) h y o) → Answered (write_into (drafted (draft_in t)) h) h y o
unfolding write_dictionary fitted write_into stored form_of fits_limits
described t h y o d c a =
    let D = draft_in t in
    let R = drafted D in
    let e = assembled_is D d in
    let f : is_within_limits R ≡ fits_limits (assembled D) = drafted_limits D d ∙ sym (rw (properties_many D d, pages_many D d)) in
    let bounded : fits_limits (assembled (draft_in t)) ≡ true → Bounded (assembled (draft_in t)) = λ i. rw e (bounded_encoded R (within R (f ∙ i))) in
    let same : write_dictionary (assembled (draft_in t)) h ≡ write_into R h = rw (f, ← e) in
    subst (λ (z : Answer Bytes). Answered z h y o) same (a (record { draft = d; capacity = c; bounded = bounded }))

module _ (t : Tables) (h : Bytes) (y : ℕ) (o : Bytes) where
  -- Texts in any order.
  pub draft_written : (refs numbers scratch : List ℕ) (n nx : ℕ)
      → Numbering order_of (text_at t.s t.starts t.lens) t.m (replicate 4736 0) (replicate 4736 0) (replicate 4736 0) refs numbers scratch n
      → nx ≡ n
      → NumberedWritten t refs nx numbers h y o
      → DraftWritten t h y o
  draft_written refs numbers scratch n nx q d k =
      record {
        is = λ z c.
            let b = c.texts in
            let room : t.m ≤ length (replicate {A = ℕ} 4736 0) = omega (arith, length-replicate {A = ℕ} 4736 0) in
            described t h y o z c (λ w. k.is w (rw d (q.good room room room)));
      }

  -- Texts in ascending order.
  pub ordered_written : (own : List ℕ) → Filling (λ i. i) (replicate 4736 0) t.m own → NumberedWritten t own t.m own h y o → OrderedWritten t h y o
  ordered_written own l k =
      record {
        is = λ z c up.
            let b = c.texts in
            let at : (i : ℕ) → i < t.m → get_or own i 0 ≡ i = λ i j. l.tabled.at i j (omega (arith, l.size, length-replicate {A = ℕ} 4736 0)) in
            described t h y o z c (λ w. k.is w (own_numbered (text_at t.s t.starts t.lens) t.m own at up));
      }
