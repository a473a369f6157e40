-- The published definitions over the rows of a table.
use Rattle.std.specs.Prelude.{Option, Some, None}
use Prim.Native.Nat.{ℕ, zero, suc, ◌+◌, ◌<◌}
use mathlib.Core.Path.{◌≡◌, refl, sym, ap, ap₂, ◌∙◌}
use mathlib.Core.Bool.{Bool, true, false, cond, ◌&&◌, ◌||◌, or-false}
use mathlib.Core.List.{List, [], ◌∷◌, ◌++◌, append-nil}
use native.Mathlib.Omega.{arith}
use native.Mathlib.Numerals.{add-one}
use lib.ListN.{length, get_or, length-append, get_or-append}
use lib.Seq.{get_or-append_seam}
use Rattle.text.specs.Bytes.{Bytes, same, any}
use Rattle.text.specs.Table.{tabulate, bit, count_to}
use Rattle.text.proofs.Laws.{any_append}
use Rattle.text.proofs.Tables.{is_tabulate}
use Rattle.values.specs.declared.Kind.{Kind}
use Rattle.language.specs.Answer.{found}
use Rattle.language.specs.Register.{kind_among}
use Rattle.language.specs.RegisterText.{Entry, prop, page, cat, val, close, same_declared, some_twice, properties, is_page, count_of}
use Rattle.register_text_verdict.specs.Rows.{any_to, places_to, twice_to, twice_at, is_prop, declared_kind, first_in}

-- tests and counts

pub any_rows : {A : Type 0} (p : A → Bool) (n : ℕ) (f : ℕ → A) → any p (tabulate n f) ≡ any_to n (λ i. p (f i))
unfolding tabulate any_to any
any_rows p zero f = refl
any_rows p (suc n) f = any_append p (tabulate n f) (f n ∷ []) ∙ rw (any_rows p n f, or-false (p (f n)))

count_append : (p : Entry → Bool) (l : List Entry) (e : Entry) → count_of p (l ++ (e ∷ [])) ≡ count_of p l + cond (p e) 1 0
unfolding count_of
count_append p [] e = omega arith
count_append p (d ∷ l) e = omega (arith, count_append p l e)

pub count_rows : (p : Entry → Bool) (n : ℕ) (f : ℕ → Entry) → count_of p (tabulate n f) ≡ count_to n (λ i. p (f i))
unfolding tabulate count_to count_of
count_rows p zero f = refl
count_rows p (suc n) f = count_append p (tabulate n f) (f n) ∙ ap₂ ◌+◌ (count_rows p n f) (one (p (f n)))
  where
    one : (b : Bool) → cond b 1 0 ≡ bit b
    one true = refl
    one false = refl

pub places_count : (n : ℕ) (g : ℕ → Bool) → length (places_to n g) ≡ count_to n g
unfolding places_to count_to
places_count zero g = refl
places_count (suc n) g = length-append (places_to n g) (cond (g n) (n ∷ []) []) ∙ ap₂ ◌+◌ (places_count n g) (one (g n))
  where
    one : (b : Bool) → length (cond b (n ∷ []) []) ≡ bit b
    one true = refl
    one false = refl

-- the kind of a property

kind_append : (x : Bytes) (l : List Entry) (e : Entry) → kind_among (properties (l ++ (e ∷ []))) x ≡ found (kind_among (properties l) x) Some (declared_kind x e)
unfolding properties kind_among
kind_append x [] (prop y k) = refl
kind_append x [] (page n y) = refl
kind_append x [] (cat y) = refl
kind_append x [] (val y v) = refl
kind_append x [] close = refl
kind_append x (prop y k ∷ l) e = go (same y x) (kind_append x l e)
  where
    go : (b : Bool) → kind_among (properties (l ++ (e ∷ []))) x ≡ found (kind_among (properties l) x) Some (declared_kind x e)
        → cond b (Some k) (kind_among (properties (l ++ (e ∷ []))) x) ≡ found (cond b (Some k) (kind_among (properties l) x)) Some (declared_kind x e)
    go true h = refl
    go false h = h
kind_append x (page n y ∷ l) e = kind_append x l e
kind_append x (cat y ∷ l) e = kind_append x l e
kind_append x (val y v ∷ l) e = kind_append x l e
kind_append x (close ∷ l) e = kind_append x l e

first_append : (g : ℕ → Option Kind) (l k : List ℕ) → first_in g (l ++ k) ≡ found (first_in g l) Some (first_in g k)
unfolding first_in
first_append g [] k = refl
first_append g (i ∷ l) k = go (g i) (first_append g l k)
  where
    go : (o : Option Kind) → first_in g (l ++ k) ≡ found (first_in g l) Some (first_in g k) → found o Some (first_in g (l ++ k)) ≡ found (found o Some (first_in g l)) Some (first_in g k)
    go None h = h
    go (Some j) h = refl

pub kind_rows : (x : Bytes) (n : ℕ) (f : ℕ → Entry) → kind_among (properties (tabulate n f)) x ≡ first_in (λ i. declared_kind x (f i)) (places_to n (λ i. is_prop (f i)))
unfolding tabulate places_to properties kind_among first_in
kind_rows x zero f = refl
kind_rows x (suc n) f =
    kind_append x (tabulate n f) (f n)
    ∙ ap₂ (λ a b. found a Some b) (kind_rows x n f) (one (f n) refl)
    ∙ sym (first_append g (places_to n (λ i. is_prop (f i))) (cond (is_prop (f n)) (n ∷ []) []))
  where
    g : ℕ → Option Kind
    g i = declared_kind x (f i)

    last : (o : Option Kind) → o ≡ found o Some None
    last None = refl
    last (Some k) = refl

    one : (e : Entry) → f n ≡ e → declared_kind x e ≡ first_in g (cond (is_prop e) (n ∷ []) [])
    one (prop y k) q = last (declared_kind x (prop y k)) ∙ rw q
    one (page m y) q = refl
    one (cat y) q = refl
    one (val y v) q = refl
    one close q = refl

-- no two alike

twice_append : (l : List Entry) (e : Entry) → some_twice (l ++ (e ∷ [])) ≡ some_twice l || any (λ d. same_declared d e) l
unfolding some_twice any
twice_append [] e = refl
twice_append (d ∷ l) e = rw (any_append (same_declared d) l (e ∷ []), twice_append l e) (shuffle (any (same_declared d) l) (same_declared d e) (some_twice l) (any (λ c. same_declared c e) l))
  where
    shuffle : (a b c d : Bool) → a || (b || false) || (c || d) ≡ a || c || (b || d)
    shuffle true b c d = refl
    shuffle false true true d = refl
    shuffle false true false d = refl
    shuffle false false c d = refl

pub any_to_ext : (n : ℕ) (g h : ℕ → Bool) → ((i : ℕ) → i < n → g i ≡ h i) → any_to n g ≡ any_to n h
unfolding any_to
any_to_ext zero g h e = refl
any_to_ext (suc n) g h e = ap₂ ◌||◌ (any_to_ext n g h (λ i l. e i (omega arith))) (e n (omega arith))

pub twice_to_ext : (n : ℕ) (q r : ℕ → ℕ → Bool) → ((i j : ℕ) → i < n → j < n → q i j ≡ r i j) → twice_to n q ≡ twice_to n r
unfolding twice_to
twice_to_ext zero q r e = refl
twice_to_ext (suc n) q r e =
    ap₂ ◌||◌ (twice_to_ext n q r (λ i j l m. e i j (omega arith) (omega arith))) (any_to_ext n _ _ (λ i l. e i n (omega arith) (omega arith)))

-- a test of the elements of a list, by their places
pub any_list : (h : ℕ → Bool) (l : List ℕ) → any h l ≡ any_to (length l) (λ a. h (get_or l a 0))
any_list h l = ap (any h) (is_tabulate (length l) (λ a. get_or l a 0) 0 l refl (λ i k. refl)) ∙ any_rows h (length l) (λ a. get_or l a 0)

twice_at_append : (r : ℕ → ℕ → Bool) (l : List ℕ) (n : ℕ) → twice_at r (l ++ (n ∷ [])) ≡ twice_at r l || any (λ i. r i n) l
unfolding twice_to
twice_at_append r l n =
    ap (λ k. twice_to k (λ a b. r (get_or (l ++ (n ∷ [])) a 0) (get_or (l ++ (n ∷ [])) b 0))) (length-append l (n ∷ []) ∙ add-one (length l))
    ∙ ap₂ ◌||◌
    (twice_to_ext (length l) _ _ (λ i j p q. rw (get_or-append l (n ∷ []) 0 i p, get_or-append l (n ∷ []) 0 j q)))
    (any_to_ext (length l) _ _ (λ i p. rw (get_or-append l (n ∷ []) 0 i p, get_or-append_seam l n [] 0)) ∙ sym (any_list (λ i. r i n) l))

pub any_places : (g h : ℕ → Bool) (n : ℕ) → any h (places_to n g) ≡ any_to n (λ i. g i && h i)
unfolding places_to any_to any
any_places g h zero = refl
any_places g h (suc n) = any_append h (places_to n g) (cond (g n) (n ∷ []) []) ∙ ap₂ ◌||◌ (any_places g h n) (one (g n))
  where
    one : (b : Bool) → any h (cond b (n ∷ []) []) ≡ b && h n
    one true = or-false (h n)
    one false = refl

-- which entries can be alike
prop_alike : (x : Bytes) (k : Kind) (d : Entry) → same_declared d (prop x k) ≡ is_prop d && same_declared d (prop x k)
prop_alike x k (prop y j) = refl
prop_alike x k (page n y) = refl
prop_alike x k (cat y) = refl
prop_alike x k (val y v) = refl
prop_alike x k close = refl

page_alike : (n x : Bytes) (d : Entry) → same_declared d (page n x) ≡ is_page d && same_declared d (page n x)
page_alike n x (prop y j) = refl
page_alike n x (page m y) = refl
page_alike n x (cat y) = refl
page_alike n x (val y v) = refl
page_alike n x close = refl

cat_alike : (x : Bytes) (d : Entry) → same_declared d (cat x) ≡ false
cat_alike x (prop y j) = refl
cat_alike x (page m y) = refl
cat_alike x (cat y) = refl
cat_alike x (val y v) = refl
cat_alike x close = refl

val_alike : (x v : Bytes) (d : Entry) → same_declared d (val x v) ≡ false
val_alike x v (prop y j) = refl
val_alike x v (page m y) = refl
val_alike x v (cat y) = refl
val_alike x v (val y w) = refl
val_alike x v close = refl

close_alike : (d : Entry) → same_declared d close ≡ false
close_alike (prop y j) = refl
close_alike (page m y) = refl
close_alike (cat y) = refl
close_alike (val y v) = refl
close_alike close = refl

none_alike : (e : Entry) → ((d : Entry) → same_declared d e ≡ false) → (l : List Entry) → any (λ d. same_declared d e) l ≡ false
unfolding any
none_alike e h [] = refl
none_alike e h (d ∷ l) = rw (h d, none_alike e h l)

-- 4, by the rows of the properties and the rows of the pages
pub twice_rows : (n : ℕ) (f : ℕ → Entry)
    → some_twice (tabulate n f) ≡ twice_at (λ i j. same_declared (f i) (f j)) (places_to n (λ i. is_prop (f i))) || twice_at (λ i j. same_declared (f i) (f j)) (places_to n (λ i. is_page (f i)))
unfolding tabulate places_to some_twice twice_to
twice_rows zero f = refl
twice_rows (suc n) f = twice_append (tabulate n f) (f n) ∙ ap (λ b. b || any (λ d. same_declared d (f n)) (tabulate n f)) (twice_rows n f) ∙ go (f n) refl
  where
    r : ℕ → ℕ → Bool
    r i j = same_declared (f i) (f j)

    P : List ℕ
    P = places_to n (λ i. is_prop (f i))

    G : List ℕ
    G = places_to n (λ i. is_page (f i))

    alike : (p : Entry → Bool) (e : Entry) → f n ≡ e → ((d : Entry) → same_declared d e ≡ p d && same_declared d e)
        → any (λ d. same_declared d e) (tabulate n f) ≡ any (λ i. r i n) (places_to n (λ i. p (f i)))
    alike p e q h =
        any_rows (λ d. same_declared d e) n f ∙ any_to_ext n _ _ (λ i l. h (f i) ∙ rw q) ∙ sym (any_places (λ i. p (f i)) (λ i. r i n) n)

    first : (a b c : Bool) → a || b || c ≡ a || c || b
    first true b c = refl
    first false true true = refl
    first false true false = refl
    first false false true = refl
    first false false false = refl

    last : (a b c : Bool) → a || b || c ≡ a || (b || c)
    last true b c = refl
    last false b c = refl

    neither : (e : Entry) → ((d : Entry) → same_declared d e ≡ false) → twice_at r P || twice_at r G || any (λ d. same_declared d e) (tabulate n f) ≡ twice_at r (P ++ []) || twice_at r (G ++ [])
    neither e h = rw (append-nil P, append-nil G, none_alike e h (tabulate n f)) (or-false (twice_at r P || twice_at r G))

    go : (e : Entry) → f n ≡ e → twice_at r P || twice_at r G || any (λ d. same_declared d e) (tabulate n f) ≡ twice_at r (P ++ cond (is_prop e) (n ∷ []) []) || twice_at r (G ++ cond (is_page e) (n ∷ []) [])
    go (prop x k) q =
        rw (append-nil G, twice_at_append r P n, ← alike is_prop (prop x k) q (prop_alike x k)) (first (twice_at r P) (twice_at r G) _)
    go (page m x) q =
        rw (append-nil P, twice_at_append r G n, ← alike is_page (page m x) q (page_alike m x)) (last (twice_at r P) (twice_at r G) _)
    go (cat x) q = neither (cat x) (cat_alike x)
    go (val x v) q = neither (val x v) (val_alike x v)
    go close q = neither close close_alike
