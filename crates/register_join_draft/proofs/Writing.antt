-- Terms and forms in tables: what one more gives, and what lists of them give.
use Prim.Native.Nat.{ℕ, zero, suc, ◌+◌, ◌-◌, ◌*◌, ◌%◌, ◌≤◌, ◌<◌}
use mathlib.Core.Path.{◌≡◌, refl, sym, ap, ap₂, ◌∙◌, subst}
use mathlib.Core.Bool.{Bool, true, false, not, true≢false}
use mathlib.Core.List.{List, [], ◌∷◌, ◌++◌, map, flat_map, map-append, append-nil, append_assoc}
use mathlib.Core.Logic.{⊎_elim}
use native.Mathlib.Nat.{add-zero, mod-eq_of_lt}
use native.Mathlib.Omega.{arith}
use native.Mathlib.Numerals.{add-one}
use native.Mathlib.Decide.{ℕ_discrete}
use lib.ListN.{length, get_or, set, length-append, length-set, get_or-eq_default}
use lib.Seq.{get_or-set_same, get_or-set_other}
use Rattle.text.specs.Bytes.{Bytes}
use Rattle.text.specs.Table.{tabulate}
use Rattle.text.proofs.Tables.{length_tabulate, get_d_tabulate}
use Rattle.register_form.specs.Dictionary.{PageRow, term_of, group_of, term_code}
use Rattle.register_form.specs.Form.{page_count, term_count, page_at, form_start, form_at, forms_of, term_at, dictionary_in}
use Rattle.buffer.specs.Numbers.{two_at}
use Rattle.buffer.proofs.Parts.{flat_more}
use Rattle.register_join_draft.specs.Joined.{no_page, forms_in}
use Rattle.register_join_draft.specs.Drafting.{new_group, new_code, new_term, TermsPut, NumbersPut, behind, new_row, forms_to, Paged, PagesPut}
use Rattle.register_join_draft.proofs.Listing.{snoc_at}

-- What is read in a table that has one more: at and new read it before and after.
more_at : {A : Type 0} (at new : ℕ → A) (l : List A) (x z : A) (n : ℕ) → n ≡ length l → ((i : ℕ) → (i ≡ n → ⊥) → new i ≡ at i) → new n ≡ x → ((i : ℕ) → i < length l → at i ≡ get_or l i z) → (i : ℕ) → i < length (l ++ (x ∷ [])) → new i ≡ get_or (l ++ (x ∷ [])) i z
more_at at new l x z n count other here is i k =
    ⊎_elim
    (λ u. ap new (u.0 ∙ sym count) ∙ here ∙ sym u.1)
    (λ u. other i (λ e. omega (arith, u.0)) ∙ is i u.0 ∙ sym u.1)
    (snoc_at l x z i (omega (arith, length-append l (x ∷ []))) (ℕ_discrete i (length l)))

more_count : {A : Type 0} (l : List A) (x : A) (n r : ℕ) → n ≡ length l → r ≡ (n + 1) % 65536 → n + 1 < 65536 → r ≡ length (l ++ (x ∷ []))
more_count l x n r count step s = step ∙ mod-eq_of_lt s ∙ omega (arith, length-append l (x ∷ []))

set_at : (l u : List ℕ) (w n x : ℕ) → w ≡ n → u ≡ set l w x → (i : ℕ) → get_or u i 0 ≡ get_or (set l n x) i 0
set_at l u w n x e p i = ap (λ (v : List ℕ). get_or v i 0) (p ∙ ap (λ (y : ℕ). set l y x) e)

module _ (groups codes : List ℕ) (n : ℕ) where
  pub put_none : TermsPut groups codes n [] groups codes n
  put_none = record { groups_size = refl; codes_size = refl; written = λ l w a b s. rw append-nil w }

  -- One term.
  pub put_one : (gs cs : List ℕ) (r w v g c : ℕ) → w ≡ n → gs ≡ set groups w g → v ≡ n → cs ≡ set codes v c → r ≡ (n + 1) % 65536 → TermsPut groups codes n (term_of g c ∷ []) gs cs r
  put_one gs cs r w v g c e p f q step =
      let group = set_at groups gs w n g e p in
      let code = set_at codes cs v n c f q in
      record {
        groups_size = ap length p ∙ length-set groups w g;
        codes_size = ap length q ∙ length-set codes v c;
        written = λ l o a b s.
            record {
              count = more_count l (term_of g c) n r o.count step s;
              is =
                  more_at (λ i. term_of (get_or groups i 0) (get_or codes i 0)) (λ i. term_of (get_or gs i 0) (get_or cs i 0)) l (term_of g c) [] n o.count
                  (λ i no. ap₂ term_of (group i ∙ get_or-set_other groups n i g 0 no) (code i ∙ get_or-set_other codes n i c 0 no))
                  (ap₂ term_of (group n ∙ get_or-set_same groups n g 0 (omega arith)) (code n ∙ get_or-set_same codes n c 0 (omega arith)))
                  o.is;
            };
      }

  -- Some, and then some.
  pub put_both : (a b : List Bytes) (gs cs fs ds : List ℕ) (r s : ℕ) → TermsPut groups codes n a gs cs r → TermsPut gs cs r b fs ds s → TermsPut groups codes n (a ++ b) fs ds s
  put_both a b gs cs fs ds r s p q =
      record {
        groups_size = q.groups_size ∙ p.groups_size;
        codes_size = q.codes_size ∙ p.codes_size;
        written = λ l w x y z.
            let size = length-append a b in
            let first = p.written l w (omega arith) (omega arith) (omega arith) in
            let r-is : r ≡ n + length a = first.count ∙ omega (arith, length-append l a, w.count) in
            rw (← append_assoc l a b) (q.written (l ++ a) first (omega (arith, p.groups_size)) (omega (arith, p.codes_size)) (omega arith));
      }

-- A term of a register, and all of them.
module _ (h : Bytes) (items table : List ℕ) where
  pub put_term : (groups codes : List ℕ) (n f g : ℕ) (gs cs : List ℕ) (r w v x c y : ℕ) → g ≡ group_of (term_at h f) → w ≡ n → x ≡ new_group h items table g → gs ≡ set groups w x → v ≡ n → c ≡ term_code (term_at h f) → y ≡ new_code h items g c → cs ≡ set codes v y → r ≡ (n + 1) % 65536 → TermsPut groups codes n (new_term h items table f ∷ []) gs cs r
  unfolding new_term
  put_term groups codes n f g gs cs r w v x c y ge we xe gse ve ce ye cse step =
      let xx : x ≡ new_group h items table (group_of (term_at h f)) = xe ∙ ap (new_group h items table) ge in
      let yy : y ≡ new_code h items (group_of (term_at h f)) (term_code (term_at h f)) = ye ∙ ap₂ (new_code h items) ge ce in
      put_one groups codes n gs cs r w v _ _ we (gse ∙ ap (set groups w) xx) ve (cse ∙ ap (set codes v) yy) step

  module _ (groups codes : List ℕ) (from : ℕ) where
    pub terms_none : TermsPut groups codes from (tabulate 0 (new_term h items table)) groups codes from
    unfolding tabulate
    terms_none = put_none groups codes from

    pub terms_next : (f n : ℕ) (gs cs fs ds : List ℕ) (r : ℕ) → TermsPut groups codes from (tabulate f (new_term h items table)) gs cs n → TermsPut gs cs n (new_term h items table f ∷ []) fs ds r → TermsPut groups codes from (tabulate (f + 1) (new_term h items table)) fs ds r
    unfolding tabulate
    terms_next f n gs cs fs ds r o p = rw (add-one f) (put_both groups codes from (tabulate f (new_term h items table)) (new_term h items table f ∷ []) gs cs fs ds n r o p)

    pub terms_all : (f m : ℕ) (gs cs : List ℕ) (n : ℕ) → TermsPut groups codes from (tabulate f (new_term h items table)) gs cs n → m ≡ term_count h → f ≤ m → m ≤ f → TermsPut groups codes from (tabulate (term_count h) (new_term h items table)) gs cs n
    terms_all f m gs cs n o e a b = subst (λ (k : ℕ). TermsPut groups codes from (tabulate k (new_term h items table)) gs cs n) (let z : f ≡ term_count h = omega arith in z) o

-- Numbers in a table: none, one, some and then some.
module _ (table : List ℕ) (n : ℕ) where
  pub numbers_none : NumbersPut table n [] table n
  numbers_none = record { size = refl; written = λ l w a s. rw append-nil w }

  pub numbers_one : (u : List ℕ) (w r x : ℕ) → w ≡ n → u ≡ set table w x → r ≡ (n + 1) % 65536 → NumbersPut table n (x ∷ []) u r
  numbers_one u w r x e p step =
      let there = set_at table u w n x e p in
      record {
        size = ap length p ∙ length-set table w x;
        written = λ l o a s.
            record {
              count = more_count l x n r o.count step s;
              is = more_at (λ i. get_or table i 0) (λ i. get_or u i 0) l x 0 n o.count (λ i no. there i ∙ get_or-set_other table n i x 0 no) (there n ∙ get_or-set_same table n x 0 (omega arith)) o.is;
            };
      }

  pub numbers_both : (a b u v : List ℕ) (r s : ℕ) → NumbersPut table n a u r → NumbersPut u r b v s → NumbersPut table n (a ++ b) v s
  numbers_both a b u v r s p q =
      record {
        size = q.size ∙ p.size;
        written = λ l w x z.
            let size = length-append a b in
            let first = p.written l w (omega arith) (omega arith) in
            let r-is : r ≡ n + length a = first.count ∙ omega (arith, length-append l a, w.count) in
            rw (← append_assoc l a b) (q.written (l ++ a) first (omega (arith, p.size)) (omega arith));
      }

-- What was not refused.
pub not_refused : (b : Bool) → not b ≡ false → b ≡ true
not_refused true e = refl
not_refused false e = absurd (true≢false e)

-- Forms of a register whose terms stand behind others.
module _ (h : Bytes) (base : ℕ) where
  abbrev forms_from : ℕ → ℕ → List ℕ
  forms_from first n = behind base (tabulate n (λ i. form_at h (first + i)))

  forms_more : (first j k x : ℕ) → first ≤ j → k ≡ form_at h j → x ≡ (base + k) % 65536 → forms_from first (j + 1 - first) ≡ forms_from first (j - first) ++ (x ∷ [])
  unfolding behind tabulate
  forms_more first j k x b e f =
      let s : j + 1 - first ≡ suc (j - first) = omega arith in
      let at : first + (j - first) ≡ j = omega arith in
      rw s (map-append (λ i. (base + i) % 65536) (tabulate (j - first) (λ i. form_at h (first + i))) (form_at h (first + (j - first)) ∷ [])
      ∙ ap (λ (y : ℕ). forms_from first (j - first) ++ (y ∷ [])) (ap (λ (y : ℕ). (base + form_at h y) % 65536) at ∙ ap (λ (y : ℕ). (base + y) % 65536) (sym e) ∙ sym f))

  -- The forms from first up to j are put.
  pub record FormsPut (first end j : ℕ) (uses : List ℕ) (n : ℕ) (us : List ℕ) (r : ℕ) : Type 0 where
    pub from : first ≤ j
    pub most : j - first ≤ end - first
    pub forms : NumbersPut uses n (forms_from first (j - first)) us r

  module _ (first end : ℕ) (uses : List ℕ) (n : ℕ) where
    pub forms_none : FormsPut first end first uses n uses n
    unfolding behind tabulate
    forms_none = let z : first - first ≡ 0 = omega arith in record { from = omega arith; most = omega arith; forms = rw z (numbers_none uses n) }

    pub forms_next : (j k x w : ℕ) (us vs : List ℕ) (r s : ℕ) → FormsPut first end j uses n us r → j < end → w ≡ r → k ≡ form_at h j → x ≡ (base + k) % 65536 → vs ≡ set us w x → s ≡ (r + 1) % 65536 → FormsPut first end (j + 1) uses n vs s
    forms_next j k x w us vs r s o b we e f p step =
        let from = o.from in
        let most = o.most in
        record { from = omega arith; most = omega arith; forms = rw (forms_more first j k x from e f) (numbers_both uses n (forms_from first (j - first)) (x ∷ []) us vs r s o.forms (numbers_one us r vs w s x we p step)) }

    pub forms_all : (j : ℕ) (us : List ℕ) (r : ℕ) → FormsPut first end j uses n us r → end ≤ j → NumbersPut uses n (forms_from first (end - first)) us r
    forms_all j us r o b =
        let from = o.from in
        let most = o.most in
        let z : j - first ≡ end - first = omega arith in
        subst (λ (k : ℕ). NumbersPut uses n (forms_from first k) us r) z o.forms

    -- A block: none, one more, all. Its bytes lie behind a place of the first.
    pub forms_start : FormsPut first end (first + 0) uses n uses (n + 0)
    forms_start = rw (add-zero first, add-zero n) forms_none

    pub forms_block : (i at to w k x : ℕ) (us vs : List ℕ) → FormsPut first end (first + i) uses n us (n + i) → i < end - first → n + (end - first) < 65536 → w ≡ first → at ≡ 1226 + 2 * w → to ≡ n → k ≡ get_or h (at + 2 * i) 0 + 256 * get_or h (at + 2 * i + 1) 0 → x ≡ (base + k) % 65536 → vs ≡ set us (to + i) x → FormsPut first end (first + (i + 1)) uses n vs (n + (i + 1))
    unfolding form_at two_at
    forms_block i at to w k x us vs o b z we ae te e f p =
        let place : at + 2 * i ≡ 1226 + 2 * (first + i) = omega arith in
        let next : first + (i + 1) ≡ first + i + 1 = omega arith in
        rw next (forms_next (first + i) k x (to + i) us vs (n + i) (n + (i + 1)) o (omega arith) (omega arith) (e ∙ rw place) f p (omega arith))

    pub forms_ended : (i k m to r : ℕ) (us : List ℕ) → FormsPut first end (first + i) uses n us (n + i) → k ≡ m → m ≡ end - first → k ≤ i → i ≤ k → to ≡ n → n + i < 65536 → r ≡ (to + k) % 65536 → NumbersPut uses n (forms_from first (end - first)) us r
    forms_ended i k m to r us o ke me b c te z e =
        let whole : r ≡ n + i = omega arith in
        rw whole (forms_all (first + i) us (n + i) o (omega arith))

  -- A page.
  module _ (uses : List ℕ) (n place : ℕ) where
    pub page_none : place ≡ 0 → NumbersPut uses n (behind base (forms_in (dictionary_in h).pages place)) uses n
    unfolding behind
    page_none e = rw e (numbers_none uses n)

    pub page_past : (i c : ℕ) → (place ≡ 0 → ⊥) → i ≡ place - 1 → c ≡ page_count h → c ≤ i → NumbersPut uses n (behind base (forms_in (dictionary_in h).pages place)) uses n
    unfolding behind dictionary_in
    page_past i c some e f b =
        let s : place ≡ suc i = omega (arith, some) in
        let none : get_or (tabulate (page_count h) (page_at h)) i no_page ≡ no_page = get_or-eq_default (tabulate (page_count h) (page_at h)) no_page (rw length_tabulate (omega arith)) in
        let empty : forms_in (tabulate (page_count h) (page_at h)) place ≡ [] = ap (forms_in (tabulate (page_count h) (page_at h))) s ∙ ap (λ (q : PageRow). q.forms) none in
        subst (λ (l : List ℕ). NumbersPut uses n (map (λ f. (base + f) % 65536) l) uses n) (sym empty) (numbers_none uses n)

    pub page_put : (i c a b : ℕ) (us : List ℕ) (r : ℕ) → (place ≡ 0 → ⊥) → i ≡ place - 1 → c ≡ page_count h → i < c → a ≡ form_start h i → b ≡ form_start h (suc i) → NumbersPut uses n (behind base (tabulate (b - a) (λ j. form_at h (a + j)))) us r → NumbersPut uses n (behind base (forms_in (dictionary_in h).pages place)) us r
    unfolding dictionary_in page_at
    page_put i c a b us r some e f k ae be p =
        let s : place ≡ suc i = omega (arith, some) in
        let at : (get_or (tabulate (page_count h) (page_at h)) i no_page).forms ≡ tabulate (form_start h (suc i) - form_start h i) (λ j. form_at h (form_start h i + j)) = ap (λ (q : PageRow). q.forms) (get_d_tabulate (page_count h) (page_at h) no_page i (omega arith)) in
        rw (s, at) (rw (be, ae) at p)

-- Pages.
module _ (rows : ℕ → PageRow) where
  pub forms_to_more : (i : ℕ) → forms_to rows (i + 1) ≡ forms_to rows i ++ (rows i).forms
  unfolding forms_to
  forms_to_more i = ap (λ (k : ℕ). flat_map forms_of (tabulate k rows)) (add-one i) ∙ flat_more forms_of i rows

  pub forms_to_length : (i : ℕ) → length (forms_to rows (i + 1)) ≡ length (forms_to rows i) + length (rows i).forms
  forms_to_length i = ap length (forms_to_more i) ∙ length-append (forms_to rows i) (rows i).forms

  forms_to_most : (i m : ℕ) → i ≤ m → length (forms_to rows i) ≤ length (forms_to rows m)
  forms_to_most i m b = subst (λ (j : ℕ). length (forms_to rows i) ≤ length (forms_to rows j)) (let z : i + (m - i) ≡ m = omega arith in z) (up (m - i))
    where
      up : (k : ℕ) → length (forms_to rows i) ≤ length (forms_to rows (i + k))
      up zero = rw add-zero (omega arith)
      up (suc k) = let z : i + suc k ≡ i + k + 1 = omega arith in rw z (omega (arith, up k, forms_to_length (i + k)))

  -- A start noted behind those before it.
  starts_more : (i : ℕ) (fs us : List ℕ) (w n : ℕ) → w ≡ i → us ≡ set fs w n → i < length fs → n ≡ length (forms_to rows i) → ((k : ℕ) → k < i → get_or fs k 0 ≡ length (forms_to rows k)) → (k : ℕ) → k < i + 1 → get_or us k 0 ≡ length (forms_to rows k)
  starts_more i fs us w n e p b c h k l = go (ℕ_discrete k i)
    where
      at : get_or us k 0 ≡ get_or (set fs i n) k 0
      at = set_at fs us w i n e p k

      go : Dec (k ≡ i) → get_or us k 0 ≡ length (forms_to rows k)
      go (yes z) = at ∙ ap (λ (u : ℕ). get_or (set fs i n) u 0) z ∙ get_or-set_same fs i n 0 b ∙ c ∙ ap (λ (u : ℕ). length (forms_to rows u)) (sym z)
      go (no z) = at ∙ get_or-set_other fs i k n 0 z ∙ h k (omega (arith, z))

module _ (rows : ℕ → PageRow) (m : ℕ) (firsts uses : List ℕ) where
  -- The first i pages are put, where there is room for all.
  pub record PagesSo (i : ℕ) (fs us : List ℕ) (n : ℕ) : Type 0 where
    pub most : i ≤ m
    pub firsts_size : length fs ≡ length firsts
    pub uses_size : length us ≡ length uses
    pub paged : m < length firsts → length (forms_to rows m) ≤ length uses → length (forms_to rows m) < 65536 → Paged rows i fs us n

  pub pages_none : PagesSo 0 firsts uses 0
  unfolding forms_to tabulate flat_map
  pages_none =
      record {
        most = omega arith;
        firsts_size = refl;
        uses_size = refl;
        paged = λ a b c. record { written = record { count = refl; is = λ i k. absurd (omega arith) }; starts = λ k l. absurd (omega arith) };
      }

  pub pages_next : (i : ℕ) (fs us gs : List ℕ) (n w : ℕ) (u2 u3 : List ℕ) (r s : ℕ) (a b : List ℕ) → PagesSo i fs us n → i < m → w ≡ i → gs ≡ set fs w n → NumbersPut us n a u2 r → NumbersPut u2 r b u3 s → (rows i).forms ≡ a ++ b → PagesSo (i + 1) gs u3 s
  pages_next i fs us gs n w u2 u3 r s a b o l e p q t f =
      record {
        most = omega arith;
        firsts_size = ap length p ∙ length-set fs w n ∙ o.firsts_size;
        uses_size = t.size ∙ q.size ∙ o.uses_size;
        paged = λ x y v.
            let d = o.paged x y v in
            let count = d.written.count in
            let all = forms_to_most rows (i + 1) m (omega arith) in
            let size = forms_to_length rows i in
            let both : NumbersPut us n (rows i).forms u3 s = rw f (numbers_both us n a b u2 u3 r s q t) in
            record {
              written = rw (forms_to_more rows i) (both.written (forms_to rows i) d.written (omega (arith, o.uses_size)) (omega arith));
              starts = starts_more rows i fs gs w n e p (omega (arith, o.firsts_size)) count d.starts;
            };
      }

  pub pages_all : (i : ℕ) (fs us gs : List ℕ) (n w : ℕ) → PagesSo i fs us n → m ≤ i → w ≡ m → gs ≡ set fs w n → PagesPut rows m firsts uses gs us
  pages_all i fs us gs n w o l e p =
      record {
        firsts_size = ap length p ∙ length-set fs w n ∙ o.firsts_size;
        uses_size = o.uses_size;
        paged = λ x y v.
            let most = o.most in
            let d : Paged rows m fs us n = subst (λ (k : ℕ). Paged rows k fs us n) (let q : i ≡ m = omega arith in q) (o.paged x y v) in
            record {
              written = record { count = refl; is = d.written.is };
              starts = λ k b. starts_more rows m fs gs w n e p (omega (arith, o.firsts_size)) d.written.count d.starts k (omega arith);
            };
      }

-- The forms of a page of the draft, by the places that were read.
pub row_is : (h g : Bytes) (base : ℕ) (pages identifiers : List ℕ) (i w x place : ℕ) → w ≡ i → x ≡ get_or identifiers w 0 → place ≡ get_or pages x 0 → (new_row h g base pages identifiers i).forms ≡ behind 0 (forms_in (dictionary_in h).pages (i + 1)) ++ behind base (forms_in (dictionary_in g).pages place)
row_is h g base pages identifiers i w x place e f k =
    ap₂ (λ (p q : ℕ). behind 0 (forms_in (dictionary_in h).pages p) ++ behind base (forms_in (dictionary_in g).pages q))
    (sym (add-one i))
    (sym (k ∙ ap (λ (y : ℕ). get_or pages y 0) (f ∙ ap (λ (y : ℕ). get_or identifiers y 0) e)))
