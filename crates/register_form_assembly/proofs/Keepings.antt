-- The forms that pages keep: keeping one, a pass over a page's, page after page.
use Prim.Native.Nat.{ℕ, zero, suc, ◌+◌, ◌-◌, ◌≤◌, ◌<◌, min}
use mathlib.Core.Path.{◌≡◌, refl, sym, ap, ap₂, ◌∙◌}
use mathlib.Core.Bool.{Bool, true, false, cond, ◌||◌}
use mathlib.Core.List.{List, [], ◌∷◌, ◌++◌, map, flat_map, append_assoc, append-nil, map-append}
use native.Mathlib.Nat.{le_refl}
use native.Mathlib.Numerals.{add-one}
use native.Mathlib.Decide.{ℕ_discrete}
use native.Mathlib.Omega.{arith}
use lib.Dec.{eqb}
use lib.ListN.{length, get_or, set, replicate, length-replicate, length-set, length-append, get_or-append}
use lib.Seq.{get_or-set_same, get_or-set_other, get_or_at}
use borrow.Author.Tests.{eq-eqb, ne_eqb}
use Rattle.text.specs.Bytes.{Bytes, any}
use Rattle.text.specs.Table.{tabulate}
use Rattle.text.proofs.Laws.{any_append}
use Rattle.register_form.specs.Draft.{once_behind, filtered}
use Rattle.buffer.proofs.Parts.{flat_more}
use Rattle.register_form.specs.Tables.{between, forms_at}
use Rattle.register_form_assembly.specs.Keeping.{of_pass, passed, added, kept_by, kept_on, kept_up_to, Listed, Keeping, Kept, PassKept, Ready, PagesKept, Fresh, Within}

-- One more in a table.
module _ (l table : List ℕ) (n x : ℕ) (a : Listed l table n) (b : 2048 ≤ length table) where
  listed_more : Listed (l ++ (x ∷ [])) (set table n x) (min (n + 1) 2049)
  listed_more = record { count = count; at = λ j h k. go j (ℕ_discrete j (length l)) h k }
    where
      count : min (n + 1) 2049 ≡ min (length (l ++ (x ∷ []))) 2049
      count = omega (arith, a.count, length-append l (x ∷ []))

      go : (j : ℕ) → Dec (j ≡ length l) → j < length (l ++ (x ∷ [])) → j < 2048 → get_or (set table n x) j 0 ≡ get_or (l ++ (x ∷ [])) j 0
      go j (yes e) h k =
          let here : n ≡ j = omega (arith, a.count) in
          rw here (get_or-set_same table j x 0 (omega arith) ∙ sym (get_or_at l x [] 0 j (sym e)))
      go j (no e) h k =
          let below : j < length l = omega (arith, e, length-append l (x ∷ [])) in
          get_or-set_other table n j x 0 (λ p. omega (arith, a.count)) ∙ a.at j below k ∙ sym (get_or-append l (x ∷ []) 0 j below)

or_true : (b : Bool) → (b || true) ≡ true
or_true true = refl
or_true false = refl

or_false : (b : Bool) → (b || false) ≡ b
or_false true = refl
or_false false = refl

any_snoc : (y x : ℕ) (l : List ℕ) → any (eqb y) (l ++ (x ∷ [])) ≡ (any (eqb y) l || eqb y x)
unfolding any
any_snoc y x l = any_append (eqb y) l (x ∷ []) ∙ ap (λ b. any (eqb y) l || b) (or_false (eqb y x))

module _ (page x : ℕ) (wanted : Bool) (used table : List ℕ) (n : ℕ) where
  module _ (k v : ℕ) (w : wanted ≡ true) (d : k ≡ x) (e : v ≡ get_or used k 0) where
    there : v ≡ get_or used x 0
    there = e ∙ rw d

    pub kept_there : v ≡ page → Kept page x wanted used table n used table n
    unfolding added
    kept_there f =
        record {
          used_size = refl;
          table_size = refl;
          good = λ before kept b s.
              let seen : any (eqb x) kept ≡ true = sym (s.marks x b) ∙ eq-eqb (get_or used x 0) page (sym there ∙ f) in
              rw (w, seen) s;
        }

    pub kept_new : (z r : ℕ) (used' table' : List ℕ) → (v ≡ page → ⊥) → used' ≡ set used k page → z ≡ n → table' ≡ set table z x → r ≡ min (n + 1) 2049 → Kept page x wanted used table n used' table' r
    unfolding added
    kept_new z r used' table' f g i h q =
        record {
          used_size = ap length g ∙ length-set used k page;
          table_size = ap length h ∙ length-set table z x;
          good = λ before kept b s.
              let new : any (eqb x) kept ≡ false = sym (s.marks x b) ∙ ne_eqb (get_or used x 0) page (λ y. f (there ∙ y)) in
              let u : used' ≡ set used x page = g ∙ rw d in
              let t : table' ≡ set table n x = h ∙ rw i in
              rw (w, new, u, t, q)
              (record {
                listed = rw (← append_assoc before kept (x ∷ [])) (listed_more (before ++ kept) table n x s.listed s.room);
                room = rw (length-set table n x) s.room;
                marks = λ y c. mark before kept b s y (ℕ_discrete y x) (rw (length-set used x page) at c);
                most = λ y. bound before kept b s y (ℕ_discrete y x);
              });
        }
      where
        mark : (before kept : List ℕ) → x < length used → Keeping page before kept used table n → (y : ℕ) → Dec (y ≡ x) → y < length used → eqb (get_or (set used x page) y 0) page ≡ any (eqb y) (kept ++ (x ∷ []))
        mark before kept b s y (yes p) c =
            rw (p, any_snoc x x kept, eq-eqb x x refl, or_true, get_or-set_same used x page 0 b) (eq-eqb page page refl)
        mark before kept b s y (no p) c = rw (any_snoc y x kept, ne_eqb y x p, or_false, get_or-set_other used x y page 0 p) (s.marks y c)

        bound : (before kept : List ℕ) → x < length used → Keeping page before kept used table n → (y : ℕ) → Dec (y ≡ x) → get_or (set used x page) y 0 ≤ page
        bound before kept b s y (yes p) = rw (p, get_or-set_same used x page 0 b) (le_refl page)
        bound before kept b s y (no p) = rw (get_or-set_other used x y page 0 p) (s.most y)

-- Passes: lists grow at their ends.
between_none : (uses : List ℕ) (from : ℕ) → between uses from from ≡ []
unfolding between tabulate
between_none uses from = ap (λ (k : ℕ). tabulate k (λ j. get_or uses (from + j) 0)) (let e : from - from ≡ 0 = omega arith in e)

between_more : (uses : List ℕ) (from f : ℕ) → from ≤ f → between uses from (f + 1) ≡ between uses from f ++ (get_or uses f 0 ∷ [])
unfolding between tabulate
between_more uses from f h =
    let e : f + 1 - from ≡ suc (f - from) = omega arith in
    let g : from + (f - from) ≡ f = omega arith in
    ap (λ (k : ℕ). tabulate k (λ j. get_or uses (from + j) 0)) e ∙ ap (λ (k : ℕ). tabulate (f - from) (λ j. get_or uses (from + j) 0) ++ (get_or uses k 0 ∷ [])) g

filtered_append : {A : Type 0} (p : A → Bool) (l m : List A) → filtered p (l ++ m) ≡ filtered p l ++ filtered p m
unfolding filtered
filtered_append p [] m = refl
filtered_append p (x ∷ l) m = go (p x) (filtered_append p l m)
  where
    go : (b : Bool) → filtered p (l ++ m) ≡ filtered p l ++ filtered p m → cond b (x ∷ filtered p (l ++ m)) (filtered p (l ++ m)) ≡ cond b (x ∷ filtered p l) (filtered p l) ++ filtered p m
    go true e = rw e
    go false e = e

pub once_append : {A : Type 0} (alike : A → A → Bool) (seen l m : List A) → once_behind alike seen (l ++ m) ≡ once_behind alike (once_behind alike seen l) m
unfolding once_behind
once_append alike seen [] m = refl
once_append alike seen (x ∷ l) m = once_append alike (cond (any (alike x) seen) seen (seen ++ (x ∷ []))) l m

module _ (first : Bool) (groups numbers : List ℕ) where
  kept_none : (kept : List ℕ) → kept_by first groups numbers kept [] ≡ kept
  unfolding kept_by passed filtered once_behind
  kept_none kept = refl

  kept_more : (kept l : List ℕ) (f : ℕ) → kept_by first groups numbers kept (l ++ (f ∷ [])) ≡ cond (of_pass first (get_or groups f 0)) (added (kept_by first groups numbers kept l) (get_or numbers f 0)) (kept_by first groups numbers kept l)
  unfolding kept_by passed filtered once_behind added
  kept_more kept l f =
      ap (λ (t : List ℕ). once_behind eqb kept (map (λ q. get_or numbers q 0) t)) (filtered_append (λ q. of_pass first (get_or groups q 0)) l (f ∷ []))
      ∙ go (of_pass first (get_or groups f 0))
    where
      go : (b : Bool) → once_behind eqb kept (map (λ q. get_or numbers q 0) (passed first groups l ++ cond b (f ∷ []) [])) ≡ cond b (added (kept_by first groups numbers kept l) (get_or numbers f 0)) (kept_by first groups numbers kept l)
      go true =
          ap (once_behind eqb kept) (map-append (λ q. get_or numbers q 0) (passed first groups l) (f ∷ []))
          ∙ once_append eqb kept (map (λ q. get_or numbers q 0) (passed first groups l)) (get_or numbers f 0 ∷ [])
      go false = rw append-nil

  module _ (uses : List ℕ) (page from : ℕ) (used₀ table₀ : List ℕ) (n : ℕ) where
    pub pass_none : PassKept page first groups numbers uses from from used₀ table₀ n used₀ table₀ n
    pass_none = record { used_size = refl; table_size = refl; good = λ b before kept k. rw (between_none uses from, kept_none kept) k }

    module _ (f : ℕ) (used table : List ℕ) (count : ℕ) (a : PassKept page first groups numbers uses from f used₀ table₀ n used table count) where
      pub pass_more : (k y g x : ℕ) (w : Bool) (used' table' : List ℕ) (r : ℕ) → from ≤ f → k ≡ f → y ≡ get_or uses k 0 → g ≡ get_or groups y 0 → w ≡ of_pass first g → x ≡ get_or numbers y 0 → Kept page x w used table count used' table' r → PassKept page first groups numbers uses from (f + 1) used₀ table₀ n used' table' r
      pass_more k y g x w used' table' r h d u e i j q =
          record {
            used_size = q.used_size ∙ a.used_size;
            table_size = q.table_size ∙ a.table_size;
            good = λ b before kept s.
                let term : y ≡ get_or uses f 0 = u ∙ rw d in
                let number : x ≡ get_or numbers (get_or uses f 0) 0 = j ∙ rw term in
                let wanted : w ≡ of_pass first (get_or groups (get_or uses f 0) 0) = i ∙ rw (e, term) in
                let below : x < length used = rw (number, a.used_size) (b f h (omega arith)) in
                rw (between_more uses from f h, kept_more kept (between uses from f) (get_or uses f 0), ← wanted, ← number)
                (q.good before (kept_by first groups numbers kept (between uses from f)) below (a.good (λ y c z. b y c (omega arith)) before kept s));
          }

      pub pass_all : (to : ℕ) → from ≤ f → f - from ≤ to - from → to ≤ f → PassKept page first groups numbers uses from to used₀ table₀ n used table count
      unfolding between
      pass_all to h b c =
          let e : f - from ≡ to - from = omega arith in
          record {
            used_size = a.used_size;
            table_size = a.table_size;
            good = λ k before kept s. rw (← e) (a.good (λ y z q. k y z (omega arith)) before kept s);
          }

-- A table of zeros.
pub zeros_at_lem : (n x : ℕ) → ◌≡◌ {A = ℕ} (get_or (replicate n 0) x 0) 0
zeros_at_lem zero x = refl
zeros_at_lem (suc n) zero = refl
zeros_at_lem (suc n) (suc x) = zeros_at_lem n x

-- Page after page.
module _ (groups numbers uses firsts : List ℕ) where
  kept_up_to_lem : (i : ℕ) → kept_up_to groups numbers uses firsts (i + 1) ≡ kept_up_to groups numbers uses firsts i ++ kept_on groups numbers uses firsts i
  unfolding kept_up_to
  kept_up_to_lem i = rw add-one (flat_more (λ (t : Bytes). t) i (kept_on groups numbers uses firsts))

  module _ (n : ℕ) (table₀ starts₀ : List ℕ) where
    -- What holds when some pages are done.
    pub record Paging (page : ℕ) (used table starts : List ℕ) (count : ℕ) : Type 0 where
      pub used_size : length used ≡ 4096
      pub table_size : length table ≡ length table₀
      pub starts_size : length starts ≡ length starts₀
      pub ready : Fresh n table₀ starts₀ → Within numbers uses firsts n 4096 → Ready page (kept_up_to groups numbers uses firsts page) used table count
      pub begins : Fresh n table₀ starts₀ → Within numbers uses firsts n 4096 → (j : ℕ) → j ≤ page → get_or starts j 0 ≡ min (length (kept_up_to groups numbers uses firsts j)) 2049

    pub paging_none : Paging 0 (replicate 4096 0) table₀ starts₀ 0
    unfolding kept_up_to tabulate flat_map
    paging_none =
        record {
          used_size = length-replicate {A = ℕ} 4096 0;
          table_size = refl;
          starts_size = refl;
          ready = λ f w. record { listed = record { count = omega arith; at = λ j h k. absurd (omega arith) }; room = f.room; most = λ x. rw (zeros_at_lem 4096 x) (le_refl 0) };
          begins = λ f w j h. let e : j ≡ 0 = omega arith in rw (e, f.first) (omega arith);
        }

    ready_page : (page : ℕ) (before used table : List ℕ) (count : ℕ) → Ready page before used table count → Keeping (page + 1) before [] used table count
    unfolding any
    ready_page page before used table count r =
        record {
          listed = rw append-nil r.listed;
          room = r.room;
          marks = λ x b. ne_eqb (get_or used x 0) (page + 1) (λ e. omega (arith, r.most x));
          most = λ x. omega (arith, r.most x);
        }

    module _ (page : ℕ) (used table starts : List ℕ) (count : ℕ) (a : Paging page used table starts count) where
      pub paging_more : (p q k from to some : ℕ) (used' table' used'' table'' starts' : List ℕ) (r : ℕ)
          → page < n
          → p ≡ page
          → from ≡ get_or firsts p 0
          → q ≡ page + 1
          → to ≡ get_or firsts q 0
          → PassKept (page + 1) true groups numbers uses from to used table count used' table' some
          → PassKept (page + 1) false groups numbers uses from to used' table' some used'' table'' r
          → k ≡ page + 1
          → starts' ≡ set starts k r
          → Paging (page + 1) used'' table'' starts' r
      unfolding kept_on
      paging_more p q k from to some used' table' used'' table'' starts' r h d e f g x y z v =
          record {
            used_size = y.used_size ∙ x.used_size ∙ a.used_size;
            table_size = y.table_size ∙ x.table_size ∙ a.table_size;
            starts_size = ap length v ∙ length-set starts k r ∙ a.starts_size;
            ready = next;
            begins = λ s w j b. go s w j (ℕ_discrete j (page + 1)) b;
          }
        where
          from_is : from ≡ get_or firsts page 0
          from_is = e ∙ rw d

          to_is : to ≡ get_or firsts (suc page) 0
          to_is = g ∙ rw (f, add-one)

          forms : between uses from to ≡ forms_at uses firsts page
          forms = ap₂ (between uses) from_is to_is

          next : Fresh n table₀ starts₀ → Within numbers uses firsts n 4096 → Ready (page + 1) (kept_up_to groups numbers uses firsts (page + 1)) used'' table'' r
          next s w =
              let before = kept_up_to groups numbers uses firsts page in
              let one = x.good (λ i b c. rw a.used_size (w page i h (omega (arith, from_is)) (omega (arith, to_is)))) before [] (ready_page page before used table count (a.ready s w)) in
              let two = y.good (λ i b c. rw (x.used_size, a.used_size) (w page i h (omega (arith, from_is)) (omega (arith, to_is)))) before (kept_by true groups numbers [] (between uses from to)) one in
              let same : kept_by false groups numbers (kept_by true groups numbers [] (between uses from to)) (between uses from to) ≡ kept_on groups numbers uses firsts page = rw forms in
              record { listed = rw (kept_up_to_lem page, ← same) two.listed; room = two.room; most = two.most }

          go : Fresh n table₀ starts₀ → Within numbers uses firsts n 4096 → (j : ℕ) → Dec (j ≡ page + 1) → j ≤ page + 1 → get_or starts' j 0 ≡ min (length (kept_up_to groups numbers uses firsts j)) 2049
          go s w j (yes i) b =
              let room : page + 1 < length starts = omega (arith, s.starts_room_lem, a.starts_size) in
              rw (v, z, i) (get_or-set_same starts (page + 1) r 0 room ∙ (next s w).listed.count)
          go s w j (no i) b = rw (v, z) (get_or-set_other starts (page + 1) j r 0 i ∙ a.begins s w j (omega (arith, i)))

      pub paging_all : page ≤ n → n ≤ page → Fresh n table₀ starts₀ → Within numbers uses firsts n 4096 → PagesKept groups numbers uses firsts n table starts count
      paging_all b c s w =
          let e : n ≡ page = omega arith in
          record { listed = rw e (a.ready s w).listed; begins = λ j h. a.begins s w j (omega arith) }
