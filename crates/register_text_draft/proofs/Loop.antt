-- The loop over the rows of an accepted text.
use Rattle.std.specs.Prelude.{Result}
use Prim.Native.Nat.{ℕ, suc, ◌+◌, ◌-◌, ◌<◌}
use mathlib.Core.Path.{◌≡◌, refl, sym, ap, ◌∙◌, subst}
use mathlib.Core.Bool.{Bool, true, false}
use mathlib.Core.List.Memᴰ
use mathlib.Core.List.{List, [], ◌++◌, flat_map, Memᴰ}
use native.Mathlib.Omega.{arith}
use lib.Dec.{ltb}
use lib.ListN.{length, get_or, take, drop, set, length-set, take-append-drop}
use lib.Seq.{length-take-le, get_or-take, get_or-set_same}
use borrow.Author.Tests.{le-ltb}
use Rattle.text.specs.Bytes.{Bytes, part, any}
use Rattle.text.specs.Table.{tabulate}
use Rattle.text.proofs.Tables.{length_tabulate, get_d_tabulate, tabulate_ext, is_tabulate}
use Rattle.language.specs.Answer.{accepted, judge}
use Rattle.language.specs.Refusals.{number_of as number_of_result}
use Rattle.language.specs.declared.refusals.Refusal.{Refusal}
use Rattle.language.specs.Register.{Property}
use Rattle.language.specs.RegisterText.{Entry, close, some_twice, properties, is_undeclared, is_unfit, over_limits, register_of, read_register}
use Rattle.language.proofs.Registers.{entries_sound, Passed}
use Rattle.dictionary.specs.Items.{text_at}
use Rattle.register_text_entries.specs.Items.{entry_in}
use Rattle.register_text_entries.specs.Table.{entry_at, entries_in}
use Rattle.register_text_entries.specs.declared.Item.{Item}
use Rattle.register_text_entries.proofs.Cells.{rows_length, rows_at, rows_last}
use Rattle.register_text_verdict.specs.Checks.{lowest, Prepared, Judges}
use Rattle.register_text_verdict.specs.declared.Judged.{Judged}
use Rattle.register_text_verdict.proofs.Verdict.{verdict}
use Rattle.register_form.specs.Dictionary.{PageRow, Dictionary}
use Rattle.register_form.specs.Form.{joined}
use Rattle.register_form.specs.Draft.{drafted, Draft}
use Rattle.register_form.specs.Tables.{between, forms_at, draft_in}
use Rattle.register_form.proofs.Lists.{mem_at}
use Rattle.buffer.proofs.Parts.{part_before}
use Rattle.register_text_draft.specs.declared.DraftTables.{DraftTables}
use Rattle.register_text_draft.specs.Drafting.{no_draft, added, draft_from, draft_of}
use Rattle.register_text_draft.specs.Sizes.{Fits, Good}
use Rattle.register_text_draft.specs.Lookup.{Lists}
use Rattle.register_text_draft.specs.Tables.{Texts, page_in, Pages, Holding, Extends, Roomy, Accepted, Own, tables_in}
use denote.MutBor.{at_last}
use Rattle.register_text_draft.proofs.Growing.{draft_more}
use Rattle.register_text_draft.proofs.Entries.{passed_good}
use Rattle.register_text_draft.proofs.Bounds.{passed_fits}
use Rattle.register_text_draft.proofs.Kept.{draft_kept, draft_describes}
use Rattle.register_text_draft.proofs.Looking.{lists_rows}

-- The checks of a text that is not refused.
lowest_none : (b c d e : Bool) → lowest b c d e ≡ 0 → (b ≡ false) × (c ≡ false) × (d ≡ false) × (e ≡ false)
lowest_none true c d e h = absurd (omega arith)
lowest_none false true d e h = absurd (omega arith)
lowest_none false false true e h = absurd (omega arith)
lowest_none false false false true h = absurd (omega arith)
lowest_none false false false false h = (refl, refl, refl, refl)

-- s is the text as typed, c the one that the rows are over.
module _ (s c : Bytes) (t props : List ℕ) (n np : ℕ) (a : Accepted s c t props n np) where
  abbrev K : List Entry
  K = a.rows.typed

  abbrev L : List Entry
  L = entries_in c t n

  short : ltb 32768 (length s) ≡ false
  short = le-ltb 32768 (length s) a.rows.short

  pub accepted_passed : Passed s K L
  accepted_passed =
      let p = a.rows in
      let f = lowest_none (some_twice L) (any (is_undeclared (properties L)) L) (any (is_unfit (properties L)) L) (over_limits L) (verdict s K short p.read p.ruled L p.rows ∙ a.answer) in
      record { short = p.short; read = p.read; ruled = p.ruled; composed = sym p.rows; once = f.0; declared = f.1; fit = f.2; few = f.3 }

  -- What the text gives, and that its draft is one that describes it.
  pub accepted_reads : read_register s ≡ accepted (register_of L)
  unfolding read_register judge
  accepted_reads = let p = accepted_passed in rw (short, a.rows.read, p.ruled, p.composed, p.once, p.declared, p.fit, p.few)

  pub accepted_kept : Draft (draft_of (properties L) L)
  accepted_kept = draft_kept s K L accepted_passed

  pub accepted_describes : drafted (draft_of (properties L) L) ≡ register_of L
  accepted_describes = draft_describes s K L accepted_passed

  accepted_lists : Lists c t props np (properties L)
  unfolding register_of
  accepted_lists = lists_rows c t props n np a.properties (entries_sound L accepted_passed.once accepted_passed.few).few_properties

  module _ (i : ℕ) (below : i < n) where
    first_rows : take (i + 1) L ≡ entries_in c t (i + 1)
    unfolding entries_in
    first_rows =
        is_tabulate (i + 1) (entry_at c t) close (take (i + 1) (tabulate n (entry_at c t)))
        (length-take-le (i + 1) (tabulate n (entry_at c t)) (omega (arith, length_tabulate n (entry_at c t))))
        (λ j b. get_or-take (i + 1) (tabulate n (entry_at c t)) j close b ∙ get_d_tabulate n (entry_at c t) close j (omega arith))

    -- the draft of one row more
    next_draft : draft_of (properties L) (entries_in c t (i + 1)) ≡ added (properties L) (draft_of (properties L) (entries_in c t i)) (entry_at c t i)
    unfolding draft_of
    next_draft = ap (draft_from (properties L) no_draft) (rows_last c t i) ∙ draft_more (properties L) no_draft (entries_in c t i) (entry_at c t i)

    next_fits : Fits (draft_of (properties L) (entries_in c t (i + 1)))
    next_fits =
        let whole : L ≡ entries_in c t (i + 1) ++ drop (i + 1) L = sym (take-append-drop (i + 1) L) ∙ ap (λ (z : List Entry). z ++ drop (i + 1) L) first_rows in
        passed_fits s K (entries_in c t (i + 1)) (drop (i + 1) L) (subst (Passed s K) whole accepted_passed) (properties L)

    here : Memᴰ (entry_at c t i) L
    here = Memᴰ.cast (sym (rows_at c t n i close below)) (mem_at L i close (omega (arith, rows_length c t n)))

    pub row_added : (A B : DraftTables) (x : Item) → ((u : Bytes) → entry_in u x ≡ entry_at u t i)
        → ((ps : List Property) → Lists c t props np ps → Good ps (entry_in c x) → Extends A B (λ d. added ps d (entry_in c x)))
        → Holding A (draft_of (properties L) (entries_in c t i)) → Holding B (draft_of (properties L) (entries_in c t (i + 1)))
    row_added A B x e f h =
        let good : Good (properties L) (entry_in c x) = subst (Good (properties L)) (sym (e c)) (passed_good s K L accepted_passed here) in
        let same : draft_of (properties L) (entries_in c t (i + 1)) ≡ added (properties L) (draft_of (properties L) (entries_in c t i)) (entry_in c x) = next_draft ∙ ap (added (properties L) (draft_of (properties L) (entries_in c t i))) (sym (e c)) in
        subst (Holding B) (sym same) ((f (properties L) accepted_lists good).held (draft_of (properties L) (entries_in c t i)) (subst Fits same next_fits) h)

-- From what judging rows answers.
pub judged_accepted : (s c : Bytes) (t : List ℕ) (n : ℕ) (props pages : List ℕ) (q : Judged) (r : Result (Unit {0}) Refusal) → Prepared s c t n → Judges s t n props pages q r → number_of_result r ≡ 0 → Accepted s c t props n q.props
judged_accepted s c t n props pages q r p j e = record { answer = sym j.number ∙ e; rows = p; properties = j.index.properties }

-- The tables at the start and at the end.
module _ (t : DraftTables) (r : Roomy t) (v : List ℕ) (e : v ≡ set t.pages.firsts.now 0 0) where
  abbrev empty : DraftTables
  empty =
      record {
        texts = record { heap = t.texts.heap; starts = t.texts.starts; lens = t.texts.lens; count = 0; end = 0 };
        properties = record { kinds = t.properties.kinds; names = t.properties.names; count = 0 };
        pages = record { identifiers = t.pages.identifiers; firsts = at_last t.pages.firsts v; count = 0 };
        terms = record { groups = t.terms.groups; codes = t.terms.codes; count = 0 };
      }

  pub holding_none : Holding empty no_draft
  unfolding tabulate flat_map
  holding_none =
      let many : length v ≡ length t.pages.firsts.now = ap length e ∙ length-set t.pages.firsts.now 0 0 in
      let zero-first : get_or v 0 0 ≡ 0 = ap (λ z. get_or z 0 0) e ∙ get_or-set_same t.pages.firsts.now 0 0 0 (omega (arith, r.firsts_room)) in
      record {
        texts = record { count = refl; end = refl; bytes = refl; lies = λ i b. absurd (omega arith); heap_room = r.heap_room; starts_room = r.starts_room; lens_room = r.lens_room };
        properties = record { rows = refl; kinds_room = r.kinds_room; names_room = r.names_room };
        pages =
            record {
              rows = refl;
              last = zero-first;
              most = λ i b. let q : i ≡ 0 = omega arith in rw (q, zero-first) (omega arith);
              identifiers_room = r.identifiers_room;
              firsts_room = omega (arith, r.firsts_room);
            };
        terms = record { rows = refl; groups_room = r.groups_room; codes_room = r.codes_room };
      }

pub none_drafted : (ps : List Property) (s : Bytes) (t : List ℕ) → draft_of ps (entries_in s t 0) ≡ no_draft
unfolding draft_of draft_from entries_in tabulate
none_drafted ps s t = refl

module _ (heap starts lens identifiers firsts : List ℕ) where
  texts_are : (m at : ℕ) (l : List Bytes) → Texts heap starts lens m at l → tabulate m (text_at heap starts lens) ≡ l
  unfolding text_at
  texts_are m at l t =
      sym (is_tabulate m (λ i. part heap (get_or starts i 0) (get_or lens i 0)) [] l (sym t.count)
      (λ i b.
      let k : i < length l = omega (arith, t.count) in
      let whole : heap ≡ joined l ++ drop at heap = sym (take-append-drop at heap) ∙ ap (λ (z : List ℕ). z ++ drop at heap) t.bytes in
      sym (ap (λ (z : List ℕ). part z (get_or starts i 0) (get_or lens i 0)) whole ∙ part_before (joined l) (drop at heap) (get_or starts i 0) (get_or lens i 0) (t.lies i k).within ∙ (t.lies i k).is)))

  -- A page's forms are terms of their own.
  pages_are : (n f : ℕ) (l : List PageRow) → Pages identifiers firsts n f l → (uses : List ℕ) → Own f uses → tabulate n (λ i. record { identifier = get_or identifiers i 0; forms = forms_at uses firsts i }) ≡ l
  unfolding between
  pages_are n f l p uses own = tabulate_ext n (λ i. record { identifier = get_or identifiers i 0; forms = forms_at uses firsts i }) (page_in identifiers firsts) (λ i b k. record { identifier = get_or identifiers i 0; forms = forms i b k }) ∙ p.rows
    where
      forms : (i : ℕ) → i < n → forms_at uses firsts i ≡ tabulate (get_or firsts (suc i) 0 - get_or firsts i 0) (λ j. get_or firsts i 0 + j)
      forms i b =
          tabulate_ext (get_or firsts (suc i) 0 - get_or firsts i 0) (λ j. get_or uses (get_or firsts i 0 + j) 0) (λ j. get_or firsts i 0 + j)
          (λ j c. own (get_or firsts i 0 + j) (omega (arith, p.most (suc i) (omega arith))))

pub holding_is : (t : DraftTables) (d : Dictionary) → Holding t d → (uses : List ℕ) → Own t.terms.count uses → draft_in (tables_in t uses) ≡ d
unfolding draft_in
holding_is t d h uses own =
    let texts = texts_are t.texts.heap.now t.texts.starts.now t.texts.lens.now t.pages.identifiers.now t.pages.firsts.now t.texts.count t.texts.end d.texts h.texts in
    let pages = pages_are t.texts.heap.now t.texts.starts.now t.texts.lens.now t.pages.identifiers.now t.pages.firsts.now t.pages.count t.terms.count d.pages h.pages uses own in
    λ i. record { properties = h.properties.rows i; pages = pages i; terms = h.terms.rows i; texts = texts i }
