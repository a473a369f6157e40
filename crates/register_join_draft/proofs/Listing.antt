-- Lists without repeats, with a table of places: what one more entry gives.
use Prim.Native.Nat.{ℕ, zero, suc, ◌+◌, ◌%◌, ◌≤◌, ◌<◌}
use mathlib.Core.Path.{◌≡◌, refl, sym, ap, ◌∙◌, subst}
use mathlib.Core.Bool.{Bool, true, false, cond, not, ◌||◌}
use mathlib.Core.List.{List, [], ◌∷◌, ◌++◌, map, map-append}
use mathlib.Core.Logic.{◌⊎◌, inl, inr, ⊎_elim}
use native.Mathlib.Nat.{mod-eq_of_lt}
use native.Mathlib.Omega.{arith}
use native.Mathlib.Numerals.{add-one}
use native.Mathlib.Decide.{ℕ_discrete}
use lib.Dec.{eqb}
use lib.ListN.{length, get_or, set, length-append, length-map, length-set, get_or-append, replicate, length-replicate, get_or-replicate}
use lib.Seq.{get_or-append_seam, get_or-set_same, get_or-set_other}
use borrow.Author.Tests.{eqb-true, eq-eqb, ne_eqb}
use Rattle.text.specs.Bytes.{any}
use Rattle.text.specs.Table.{tabulate}
use Rattle.values.specs.Values.{kind_from}
use Rattle.language.proofs.Members.{or_false}
use Rattle.register_form.specs.Dictionary.{PropertyRow}
use Rattle.register_form.specs.Opened.{next}
use Rattle.register_form.specs.Draft.{once_behind}
use Rattle.register_join_draft.specs.Joined.{same_row, name_in, place_in}
use Rattle.register_join_draft.specs.Drafting.{Listed, entered, Entering, no_row, Rowed}
use Rattle.register_join_draft.proofs.Once.{behind_append, any_map}
use Rattle.register_join_draft.proofs.Texts.{eqb_likeness}

turn : (x y : ℕ) → eqb x y ≡ eqb y x
turn x y = eqb_likeness.turned x y

next_zero : (n : ℕ) → eqb (next n) 0 ≡ eqb n 0
next_zero zero = refl
next_zero (suc n) = ne_eqb (suc (suc n)) 0 (λ e. omega arith) ∙ sym (ne_eqb (suc n) 0 (λ e. omega arith))

-- A number has a place where it is in the list.
place_any : (l : List ℕ) (x : ℕ) → any (eqb x) l ≡ not (eqb (place_in l x) 0)
unfolding any place_in
place_any [] x = refl
place_any (k ∷ l) x = rw (turn x k) (go (eqb k x) (place_any l x))
  where
    go : (c : Bool) → any (eqb x) l ≡ not (eqb (place_in l x) 0) → (c || any (eqb x) l) ≡ not (eqb (cond c 1 (next (place_in l x))) 0)
    go true h = refl
    go false h = h ∙ ap not (sym (next_zero (place_in l x)))

place_append : (l : List ℕ) (k x : ℕ) → any (eqb k) l ≡ false → place_in (l ++ (k ∷ [])) x ≡ cond (eqb x k) (suc (length l)) (place_in l x)
unfolding any place_in
place_append [] k x h = rw (turn k x)
place_append (y ∷ l) k x h =
    let t = or_false (eqb k y) (any (eqb k) l) h in
    rw (place_append l k x t.1) (go (eqb x k) refl t.0)
  where
    go : (c : Bool) → eqb x k ≡ c → eqb k y ≡ false → cond (eqb y x) 1 (next (cond c (suc (length l)) (place_in l x))) ≡ cond c (suc (suc (length l))) (cond (eqb y x) 1 (next (place_in l x)))
    go true e f = rw (ap (eqb y) (eqb-true x k e) ∙ turn y k ∙ f)
    go false e f = refl

-- One more behind a list without repeats.
pub behind_more : {A : Type 0} (alike : A → A → Bool) (seen : List A) (n : ℕ) (f : ℕ → A) → once_behind alike seen (tabulate (n + 1) f) ≡ cond (any (alike (f n)) (once_behind alike seen (tabulate n f))) (once_behind alike seen (tabulate n f)) (once_behind alike seen (tabulate n f) ++ (f n ∷ []))
unfolding once_behind tabulate
behind_more alike seen n f = rw (add-one n) (behind_append alike seen (tabulate n f) (f n ∷ []))

pub behind_most : {A : Type 0} (alike : A → A → Bool) (seen : List A) (n : ℕ) (f : ℕ → A) → length (once_behind alike seen (tabulate n f)) ≤ length seen + n
unfolding once_behind tabulate
behind_most alike seen zero f = omega arith
behind_most {A} alike seen (suc n) f = rw (behind_append alike seen (tabulate n f) (f n ∷ [])) (go (any (alike (f n)) (once_behind alike seen (tabulate n f))) (behind_most alike seen n f))
  where
    go : (c : Bool) → length (once_behind alike seen (tabulate n f)) ≤ length seen + n → length (cond c (once_behind alike seen (tabulate n f)) (once_behind alike seen (tabulate n f) ++ (f n ∷ []))) ≤ length seen + suc n
    go true h = omega arith
    go false h = omega (arith, length-append (once_behind alike seen (tabulate n f)) (f n ∷ []))

-- What is at a place of a list with one more, and of a table with a number set.
pub snoc_at : {A : Type 0} (l : List A) (a d : A) (i : ℕ) → i < length l + 1 → Dec (i ≡ length l) → ((i ≡ length l) × (get_or (l ++ (a ∷ [])) i d ≡ a)) ⊎ ((i < length l) × (get_or (l ++ (a ∷ [])) i d ≡ get_or l i d))
snoc_at l a d i b (yes e) = inl (e, ap (λ k. get_or (l ++ (a ∷ [])) k d) e ∙ get_or-append_seam l a [] d)
snoc_at l a d i b (no e) = let k : i < length l = omega (arith, e) in inr (k, get_or-append l (a ∷ []) d i k)

-- A table of zeros has no places.
abbrev pub zeros : ℕ → List ℕ
zeros n = replicate n 0

pub length_zeros : (n : ℕ) → length (zeros n) ≡ n
length_zeros n = length-replicate n 0

pub empty_table : (n : ℕ) (x : ℕ) → x < length (zeros n) → get_or (zeros n) x 0 ≡ 0
empty_table n x b = get_or-replicate n x 0 0 (omega (arith, length_zeros n))

-- Listing: none, and one more.
pub listed_none : (table list : List ℕ) → ((x : ℕ) → x < length table → get_or table x 0 ≡ 0) → Listed table list 0 []
unfolding place_in
listed_none table list h = record { count = refl; list_is = λ i b. absurd (omega arith); table_is = h }

pub enter_there : (table list : List ℕ) (n x k v : ℕ) → k ≡ x → v ≡ get_or table k 0 → (v ≡ 0 → ⊥) → Entering table list n x table list n
enter_there table list n x k v e f g = record { table_size = refl; list_size = refl; listed = there }
  where
    there : (keys : List ℕ) → Listed table list n keys → x < length table → n < length list → n < 65535 → Listed table list n (entered keys x)
    there keys l b c s =
        let some : any (eqb x) keys ≡ true = place_any keys x ∙ ap not (ne_eqb (place_in keys x) 0 (λ z. g (f ∙ ap (λ (y : ℕ). get_or table y 0) e ∙ l.table_is x b ∙ z))) in
        rw some l

pub enter_new : (table list t l : List ℕ) (n x k v m w : ℕ) → k ≡ x → v ≡ get_or table k 0 → v ≡ 0 → m ≡ (n + 1) % 65536 → t ≡ set table k m → w ≡ n → l ≡ set list w x → Entering table list n x t l m
enter_new table list t l n x k v m w e f z step p q r = record { table_size = ap length p ∙ length-set table k m; list_size = ap length r ∙ length-set list w x; listed = new }
  where
    new : (keys : List ℕ) → Listed table list n keys → x < length table → n < length list → n < 65535 → Listed t l m (entered keys x)
    new keys o b c s = rw none (record { count = mm ∙ omega (arith, o.count, length-append keys (x ∷ [])); list_is = λ i a. at i a; table_is = λ y a. places y a (ℕ_discrete y x) })
      where
        mm : m ≡ n + 1
        mm = step ∙ mod-eq_of_lt (omega arith)

        none : any (eqb x) keys ≡ false
        none = place_any keys x ∙ ap not (eq-eqb (place_in keys x) 0 (sym (o.table_is x b) ∙ ap (λ (y : ℕ). get_or table y 0) (sym e) ∙ sym f ∙ z))

        list_at : (i : ℕ) → get_or l i 0 ≡ get_or (set list n x) i 0
        list_at i = ap (λ (y : List ℕ). get_or y i 0) (r ∙ ap (λ (y : ℕ). set list y x) q)

        at : (i : ℕ) → i < length (keys ++ (x ∷ [])) → get_or l i 0 ≡ get_or (keys ++ (x ∷ [])) i 0
        at i a =
            ⊎_elim
            (λ u. let g : i ≡ n = u.0 ∙ sym o.count in list_at i ∙ ap (λ (y : ℕ). get_or (set list n x) y 0) g ∙ get_or-set_same list n x 0 c ∙ sym u.1)
            (λ u. let h : (i ≡ n → ⊥) = (λ g. omega (arith, u.0, o.count)) in list_at i ∙ get_or-set_other list n i x 0 h ∙ o.list_is i u.0 ∙ sym u.1)
            (snoc_at keys x 0 i (omega (arith, length-append keys (x ∷ []))) (ℕ_discrete i (length keys)))

        table_at : (y : ℕ) → get_or t y 0 ≡ get_or (set table x m) y 0
        table_at y = ap (λ (u : List ℕ). get_or u y 0) (p ∙ ap (λ (u : ℕ). set table u m) e)

        places : (y : ℕ) → y < length t → Dec (y ≡ x) → get_or t y 0 ≡ place_in (keys ++ (x ∷ [])) y
        places y a (yes g) =
            let at : place_in (keys ++ (x ∷ [])) y ≡ suc (length keys) = place_append keys x y none ∙ ap (λ (c : Bool). cond c (suc (length keys)) (place_in keys y)) (eq-eqb y x g) in
            let here : get_or t y 0 ≡ m = table_at y ∙ ap (λ (u : ℕ). get_or (set table x m) u 0) g ∙ get_or-set_same table x m 0 b in
            omega (arith, o.count, mm)
        places y a (no g) =
            table_at y ∙ get_or-set_other table x y m 0 g ∙ o.table_is y (omega (arith, ap length p ∙ length-set table k m)) ∙ sym (place_append keys x y none ∙ ap (λ (c : Bool). cond c (suc (length keys)) (place_in keys y)) (ne_eqb y x g))

-- Rows.
pub rowed_none : (kinds names table : List ℕ) → ((x : ℕ) → x < length table → get_or table x 0 ≡ 0) → Rowed kinds names table 0 []
rowed_none kinds names table h = record { listed = listed_none table names h; kinds_are = λ i b. absurd (omega arith) }

pub rowed_more : (kinds names table ks ns t : List ℕ) (n r w k : ℕ) (rows : List PropertyRow) (row : PropertyRow) → Rowed kinds names table n rows → w ≡ n → ks ≡ set kinds w k → kind_from k ≡ row.kind → Entering table names n row.name t ns r → row.name < length table → n < length kinds → n < length names → n < 65535
    → Rowed ks ns t r (cond (any (same_row row) rows) rows (rows ++ (row ∷ [])))
rowed_more kinds names table ks ns t n r w k rows row o e f g enter b ck cn s = go (any (same_row row) rows) refl
  where
    named : any (eqb row.name) (map name_in rows) ≡ any (same_row row) rows
    named = any_map name_in (eqb row.name) rows

    listed : Listed t ns r (entered (map name_in rows) row.name)
    listed = enter.listed (map name_in rows) o.listed b cn s

    size : n ≡ length rows
    size = o.listed.count ∙ length-map rows name_in

    kind_at : (i : ℕ) → get_or ks i 0 ≡ get_or (set kinds n k) i 0
    kind_at i = ap (λ (u : List ℕ). get_or u i 0) (f ∙ ap (λ (u : ℕ). set kinds u k) e)

    kind_old : (i : ℕ) → i < length rows → kind_from (get_or ks i 0) ≡ (get_or rows i no_row).kind
    kind_old i a = let no : (i ≡ n → ⊥) = (λ z. omega (arith, size)) in ap kind_from (kind_at i ∙ get_or-set_other kinds n i k 0 no) ∙ o.kinds_are i a

    kind_new : (i : ℕ) → i < length (rows ++ (row ∷ [])) → kind_from (get_or ks i 0) ≡ (get_or (rows ++ (row ∷ [])) i no_row).kind
    kind_new i a =
        ⊎_elim
        (λ u. let z : i ≡ n = u.0 ∙ sym size in ap kind_from (kind_at i ∙ ap (λ (y : ℕ). get_or (set kinds n k) y 0) z ∙ get_or-set_same kinds n k 0 ck) ∙ g ∙ ap (λ (p : PropertyRow). p.kind) (sym u.1))
        (λ u. kind_old i u.0 ∙ ap (λ (p : PropertyRow). p.kind) (sym u.1))
        (snoc_at rows row no_row i (omega (arith, length-append rows (row ∷ []))) (ℕ_discrete i (length rows)))

    go : (c : Bool) → any (same_row row) rows ≡ c → Rowed ks ns t r (cond c rows (rows ++ (row ∷ [])))
    go true h = record { listed = subst (λ (b : Bool). Listed t ns r (cond b (map name_in rows) (map name_in rows ++ (row.name ∷ [])))) (named ∙ h) listed; kinds_are = kind_old }
    go false h =
        record {
          listed = rw (map-append name_in rows (row ∷ [])) (subst (λ (b : Bool). Listed t ns r (cond b (map name_in rows) (map name_in rows ++ (row.name ∷ [])))) (named ∙ h) listed);
          kinds_are = kind_new;
        }
