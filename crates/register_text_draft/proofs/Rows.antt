-- One property, page or form more in the tables.
use Prim.Native.Nat.{ℕ, zero, suc, ◌+◌, ◌-◌, ◌%◌, ◌≤◌, ◌<◌}
use mathlib.Core.Path.{◌≡◌, sym, ap, ap₂, ◌∙◌, subst}
use mathlib.Core.List.{List, [], ◌∷◌, ◌++◌}
use native.Mathlib.Nat.{mod-eq_of_lt}
use native.Mathlib.Decide.{ℕ_discrete}
use native.Mathlib.Numerals.{add-one}
use native.Mathlib.Omega.{arith}
use lib.ListN.{get_or, set, length-set}
use lib.Seq.{get_or-set_same, get_or-set_other}
use Rattle.text.specs.Bytes.{Bytes}
use Rattle.text.specs.Table.{tabulate}
use Rattle.text.proofs.Tables.{tabulate_ext}
use Rattle.values.specs.Values.{kind_code}
use Rattle.values.proofs.EachKind.{kind_coded}
use Rattle.values.specs.declared.Kind.{Kind}
use Rattle.register_form.specs.Dictionary.{PropertyRow, PageRow, term_of}
use denote.MutBor.{at_last}
use Rattle.register_text_draft.specs.Drafting.{with_form, on_last}
use Rattle.register_text_draft.specs.Tables.{property_in, Properties, page_in, Pages, term_in, Terms, FormsPushed}
use Rattle.register_text_draft.specs.declared.PageTable.{PageTable}
use Rattle.register_text_draft.specs.declared.TermTable.{TermTable}
use Rattle.register_text_draft.proofs.Pages.{on_last_lem}

-- A table of n rows with one more behind them.
table_more : {A : Type 0} (n : ℕ) (f g : ℕ → A) (l : List A) (a : A) → tabulate n f ≡ l → ((i : ℕ) → i < n → g i ≡ f i) → g n ≡ a → tabulate (n + 1) g ≡ l ++ (a ∷ [])
unfolding tabulate
table_more {A} n f g l a e h k = rw (add-one n) (ap₂ (λ (x : List A) (y : A). x ++ (y ∷ [])) (tabulate_ext n g f h ∙ e) k)

-- Stores that leave other places as they were.
other : (t : List ℕ) (n v i : ℕ) → i < n → get_or (set t n v) i 0 ≡ get_or t i 0
other t n v i b = get_or-set_other t n i v 0 (λ e. omega arith)

module _ (kinds names : List ℕ) (n : ℕ) (k : Kind) (x : ℕ) (i v : ℕ) (ei : i ≡ n) (ev : v ≡ kind_code k) (kinds' : List ℕ) (ek : kinds' ≡ set kinds i v) (names' : List ℕ) (en : names' ≡ set names i x) (m : ℕ) (em : m ≡ (n + 1) % 65536) where
  pub property_pushed : (l : List PropertyRow) → Properties kinds names n l → n < 64 → Properties kinds' names' m (l ++ (record { kind = k; name = x } ∷ []))
  property_pushed l t b =
      let next : m ≡ n + 1 = em ∙ mod-eq_of_lt (omega arith) in
      rw (next, ek, en, ei, ev) (record {
        rows =
            table_more n (property_in kinds names) (property_in (set kinds n (kind_code k)) (set names n x)) l (record { kind = k; name = x }) t.rows
            (λ p c. rw (other kinds n (kind_code k) p c, other names n x p c))
            (rw (get_or-set_same kinds n (kind_code k) 0 (omega (arith, t.kinds_room)), get_or-set_same names n x 0 (omega (arith, t.names_room)), kind_coded k));
        kinds_room = omega (arith, t.kinds_room, length-set kinds n (kind_code k));
        names_room = omega (arith, t.names_room, length-set names n x);
      })

-- A page.
no_forms : (n : ℕ) (f : ℕ → ℕ) → tabulate (n - n) f ≡ []
unfolding tabulate
no_forms n f = let z : n - n ≡ 0 = omega arith in rw z

module _ (identifiers firsts : List ℕ) (n f x : ℕ) (i : ℕ) (ei : i ≡ n) (identifiers' : List ℕ) (en : identifiers' ≡ set identifiers i x) (firsts' : List ℕ) (ef : firsts' ≡ set firsts (i + 1) f) (m : ℕ) (em : m ≡ (n + 1) % 65536) where
  pub page_pushed : (l : List PageRow) → Pages identifiers firsts n f l → n < 256 → Pages identifiers' firsts' m f (l ++ (record { identifier = x; forms = [] } ∷ []))
  page_pushed l t b = let next : m ≡ n + 1 = em ∙ mod-eq_of_lt (omega arith) in rw (next, en, ef, ei) done
    where
      old : (i : ℕ) → i < n + 1 → get_or (set firsts (n + 1) f) i 0 ≡ get_or firsts i 0
      old i c = other firsts (n + 1) f i c

      last : get_or (set firsts (n + 1) f) (n + 1) 0 ≡ f
      last = get_or-set_same firsts (n + 1) f 0 (omega (arith, t.firsts_room))

      here : get_or (set firsts (n + 1) f) n 0 ≡ f
      here = old n (omega arith) ∙ t.last

      behind : get_or (set firsts (n + 1) f) (suc n) 0 ≡ f
      behind = ap (λ (i : ℕ). get_or (set firsts (n + 1) f) i 0) (sym (add-one n)) ∙ last

      most : (i : ℕ) → Dec (i ≡ n + 1) → i ≤ n + 1 → get_or (set firsts (n + 1) f) i 0 ≤ f
      most i (yes e) c = rw (e, last) (omega arith)
      most i (no e) c = rw (old i (omega (arith, e))) (t.most i (omega (arith, e)))

      done : Pages (set identifiers n x) (set firsts (n + 1) f) (n + 1) f (l ++ (record { identifier = x; forms = [] } ∷ []))
      done =
          record {
            rows =
                table_more n (page_in identifiers firsts) (page_in (set identifiers n x) (set firsts (n + 1) f)) l (record { identifier = x; forms = [] }) t.rows
                (λ p c. rw (other identifiers n x p c, old p (omega arith), old (suc p) (omega arith)))
                (rw (get_or-set_same identifiers n x 0 (omega (arith, t.identifiers_room)), here, behind, no_forms f (λ j. f + j)));
            last = last;
            most = λ i c. most i (ℕ_discrete i (n + 1)) c;
            identifiers_room = omega (arith, t.identifiers_room, length-set identifiers n x);
            firsts_room = omega (arith, t.firsts_room, length-set firsts (n + 1) f);
          }

-- A form: the last page ends one later.
forms_more : (f a : ℕ) → a ≤ f → tabulate (f + 1 - a) (λ j. a + j) ≡ tabulate (f - a) (λ j. a + j) ++ (f ∷ [])
unfolding tabulate
forms_more f a l =
    let n : f + 1 - a ≡ suc (f - a) = omega arith in
    let e : a + (f - a) ≡ f = omega arith in
    ap (λ (k : ℕ). tabulate k (λ j. a + j)) n ∙ ap (λ (z : ℕ). tabulate (f - a) (λ j. a + j) ++ (z ∷ [])) e

form_rows : (n : ℕ) (identifiers firsts : List ℕ) (f : ℕ) (l : List PageRow) → Pages identifiers firsts n f l → n ≤ 256 → tabulate n (page_in identifiers (set firsts n (f + 1))) ≡ on_last f l
unfolding tabulate on_last
form_rows zero identifiers firsts f l t b = ap (on_last f) t.rows
form_rows (suc n) identifiers firsts f l t b =
    ap₂ (λ (x : List PageRow) (y : PageRow). x ++ (y ∷ []))
    (tabulate_ext n (page_in identifiers (set firsts (suc n) (f + 1))) (page_in identifiers firsts) (λ i c. rw (other firsts (suc n) (f + 1) i (omega arith), other firsts (suc n) (f + 1) (suc i) (omega arith))))
    grown
    ∙ sym (on_last_lem f (tabulate n (page_in identifiers firsts)) (page_in identifiers firsts n))
    ∙ ap (on_last f) t.rows
  where
    grown : page_in identifiers (set firsts (suc n) (f + 1)) n ≡ with_form f (page_in identifiers firsts n)
    grown =
        rw (other firsts (suc n) (f + 1) n (omega arith), get_or-set_same firsts (suc n) (f + 1) 0 (omega (arith, t.firsts_room)), t.last, forms_more f (get_or firsts n 0) (t.most n (omega arith)))

module _ (firsts groups codes : List ℕ) (n f g c : ℕ) (i : ℕ) (ei : i ≡ f) (groups' : List ℕ) (eg : groups' ≡ set groups i g) (j : ℕ) (ej : j ≡ f) (codes' : List ℕ) (ec : codes' ≡ set codes j c) (k : ℕ) (ek : k ≡ n) (v : ℕ) (ev : v ≡ (f + 1) % 65536) (firsts' : List ℕ) (ef : firsts' ≡ set firsts k v) where
  on_pages : (identifiers : List ℕ) (l : List PageRow) → Pages identifiers firsts n f l → n ≤ 256 → f < 2048 → Pages identifiers firsts' n (f + 1) (on_last f l)
  on_pages identifiers l t b few =
      let q : v ≡ f + 1 = ev ∙ mod-eq_of_lt (omega arith) in
      rw (ef, ek, q) (record {
        rows = form_rows n identifiers firsts f l t b;
        last = get_or-set_same firsts n (f + 1) 0 (omega (arith, t.firsts_room));
        most = λ i b. most i (ℕ_discrete i n) b;
        identifiers_room = t.identifiers_room;
        firsts_room = omega (arith, t.firsts_room, length-set firsts n (f + 1));
      })
    where
      most : (i : ℕ) → Dec (i ≡ n) → i ≤ n → get_or (set firsts n (f + 1)) i 0 ≤ f + 1
      most i (yes e) c = rw (e, get_or-set_same firsts n (f + 1) 0 (omega (arith, t.firsts_room))) (omega arith)
      most i (no e) c = rw (other firsts n (f + 1) i (omega (arith, e))) (omega (arith, t.most i c))

  on_terms : (l : List Bytes) → Terms groups codes f l → f < 2048 → Terms groups' codes' (f + 1) (l ++ (term_of g c ∷ []))
  on_terms l t few =
      rw (eg, ec, ei, ej) (record {
        rows =
            table_more f (term_in groups codes) (term_in (set groups f g) (set codes f c)) l (term_of g c) t.rows
            (λ p b. rw (other groups f g p b, other codes f c p b))
            (rw (get_or-set_same groups f g 0 (omega (arith, t.groups_room)), get_or-set_same codes f c 0 (omega (arith, t.codes_room))));
        groups_room = omega (arith, t.groups_room, length-set groups f g);
        codes_room = omega (arith, t.codes_room, length-set codes f c);
      })

-- The same of the structs.
module _ (p : PageTable) (t : TermTable) (g c : ℕ) (i : ℕ) (ei : i ≡ t.count) (v : ℕ) (ev : v ≡ (t.count + 1) % 65536) (groups' : List ℕ) (eg : groups' ≡ set t.groups.now i g) (codes' : List ℕ) (ec : codes' ≡ set t.codes.now i c)
    (k : ℕ) (ek : k ≡ p.count) (firsts' : List ℕ) (ef : firsts' ≡ set p.firsts.now k v)
  where
    pub form_pushed : FormsPushed p t g c (record { identifiers = p.identifiers; firsts = at_last p.firsts firsts'; count = p.count }) (record { groups = at_last t.groups groups'; codes = at_last t.codes codes'; count = v })
    form_pushed =
        record {
          pages = λ l h b few.
              let q : v ≡ t.count + 1 = ev ∙ mod-eq_of_lt (omega arith) in
              subst (λ (n : ℕ). Pages p.identifiers.now firsts' p.count n (on_last t.count l)) (sym q) (on_pages p.firsts.now t.groups.now t.codes.now p.count t.count g c i ei groups' eg i ei codes' ec k ek v ev firsts' ef p.identifiers.now l h b few);
          terms = λ l h few.
              let q : v ≡ t.count + 1 = ev ∙ mod-eq_of_lt (omega arith) in
              subst (λ (n : ℕ). Terms groups' codes' n (l ++ (term_of g c ∷ []))) (sym q) (on_terms p.firsts.now t.groups.now t.codes.now p.count t.count g c i ei groups' eg i ei codes' ec k ek v ev firsts' ef l h few);
        }
