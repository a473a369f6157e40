-- Lists joined by a test of likeness: laws of `only_in`, `union`, `like_in` and `distinct`.
use Rattle.std.specs.Prelude.{Option, Some, None}
use mathlib.Core.Path.{◌≡◌, refl, sym, ap, ap₂, ◌∙◌}
use mathlib.Core.Bool.{Bool, true, false, cond, not, ◌&&◌, ◌||◌, true≢false, false≢true}
use mathlib.Core.List.Memᴰ
use mathlib.Core.List.{List, [], ◌∷◌, ◌++◌, map, append-nil, Memᴰ}
use borrow.Author.Tests.{not-true}
use Rattle.text.specs.Bytes.{any, all}
use Rattle.text.proofs.Laws.{all_append, any_append}
use Rattle.values.specs.Values.{map_option}
use Rattle.language.specs.Answer.{found}
use Rattle.language.specs.Register.{distinct}
use Rattle.language.specs.Joining.{only_in, union, like_in}
use Rattle.language.proofs.Options.{OnSome}
use Rattle.language.proofs.Members.{and_true, both_true, both_false, by_test, any_at, any_found, any_mem, all_at, all_of, any_same, any_none}

-- The test tells whether two things are equal.
pub record Decides {K : Type 0} (same : K → K → Bool) : Type 0 where
  pub equal : (a b : K) → same a b ≡ true → a ≡ b
  pub itself : (a : K) → same a a ≡ true

-- The test is an equivalence: all are like themselves, the order of the two does not matter, and like things are like the same things.
pub record Likeness {A : Type 0} (alike : A → A → Bool) : Type 0 where
  pub itself : (a : A) → alike a a ≡ true
  pub turned : (a b : A) → alike a b ≡ alike b a
  pub likewise : (a b : A) → alike a b ≡ true → (c : A) → alike a c ≡ alike b c

-- Things are alike where they have one key.
module _ {K : Type 0} {same : K → K → Bool} (d : Decides same) where
  decides_turned : (a b : K) → same a b ≡ same b a
  decides_turned a b =
      by_test (same a b)
      (λ e. ap₂ same (d.equal a b e) (sym (d.equal a b e)))
      (λ e. by_test (same b a) (λ f. ap₂ same (sym (d.equal b a f)) (d.equal b a f)) (λ f. e ∙ sym f))

  pub by_key : {A : Type 0} (key : A → K) → Likeness (λ a b. same (key a) (key b))
  by_key key =
      record {
        itself = λ a. d.itself (key a);
        turned = λ a b. decides_turned (key a) (key b);
        likewise = λ a b e c. ap (λ k. same k (key c)) (d.equal (key a) (key b) e);
      }

module _ {A : Type 0} (alike : A → A → Bool) where
  -- What is only in the second list: each of them is there, and like none of the first.
  pub only_member : (l m : List A) {a : A} → Memᴰ a (only_in alike l m) → Memᴰ a m × (any (alike a) l ≡ false)
  unfolding only_in
  only_member l [] i = absurd (Memᴰ.not-nil i)
  only_member l (b ∷ m) {a} i = go (any (alike b) l) refl i (λ j. let t = only_member l m j in (Memᴰ.tail t.0, t.1))
    where
      Is : Type 0
      Is = Memᴰ a (b ∷ m) × (any (alike a) l ≡ false)

      go : (c : Bool) → any (alike b) l ≡ c → Memᴰ a (cond c (only_in alike l m) (b ∷ only_in alike l m)) → (Memᴰ a (only_in alike l m) → Is) → Is
      go true e i later = later i
      go false e (Memᴰ.head f) later = (Memᴰ.head f, ap (λ x. any (alike x) l) f ∙ e)
      go false e (Memᴰ.tail i) later = later i

  pub only_all : (p : A → Bool) (l m : List A) → all p m ≡ true → all p (only_in alike l m) ≡ true
  only_all p l m h = all_of p (only_in alike l m) (λ a i. all_at p h (only_member l m i).0)

  pub union_all : (p : A → Bool) (l m : List A) → all p l ≡ true → all p m ≡ true → all p (union alike l m) ≡ true
  union_all p l m g h = all_append p l (only_in alike l m) ∙ both_true g (only_all p l m h)

  -- Beside the empty list all is only in the second.
  pub only_beside_none : (m : List A) → only_in alike [] m ≡ m
  unfolding only_in any
  only_beside_none [] = refl
  only_beside_none (b ∷ m) = ap (λ r. b ∷ r) (only_beside_none m)

  -- Nothing is only in the second where all there is like something in the first.
  only_none : (l m : List A) → ((b : A) → Memᴰ b m → any (alike b) l ≡ true) → only_in alike l m ≡ []
  unfolding only_in
  only_none l [] h = refl
  only_none l (b ∷ m) h = rw (h b (Memᴰ.head refl)) (only_none l m (λ a i. h a (Memᴰ.tail i)))

  -- What is found is there, and like what was sought.
  pub like_found : (a : A) (l : List A) → OnSome (λ b. Memᴰ b l × (alike a b ≡ true)) (like_in alike a l)
  unfolding like_in
  like_found a [] = tt
  like_found a (b ∷ l) = go (alike a b) refl (like_in alike a l) (like_found a l)
    where
      go : (c : Bool) → alike a b ≡ c → (o : Option A) → OnSome (λ x. Memᴰ x l × (alike a x ≡ true)) o → OnSome (λ x. Memᴰ x (b ∷ l) × (alike a x ≡ true)) (cond c (Some b) o)
      go true e o h = (Memᴰ.head refl, e)
      go false e None h = tt
      go false e (Some x) h = (Memᴰ.tail h.0, h.1)

  -- Something is like a where one is found.
  like_any : (a : A) (l : List A) → any (alike a) l ≡ found (like_in alike a l) (λ b. true) false
  unfolding any like_in
  like_any a [] = refl
  like_any a (b ∷ l) = go (alike a b) (like_any a l)
    where
      go : (c : Bool) → any (alike a) l ≡ found (like_in alike a l) (λ x. true) false → c || any (alike a) l ≡ found (cond c (Some b) (like_in alike a l)) (λ x. true) false
      go true h = refl
      go false h = h

  like_append : (a : A) (l m : List A) → like_in alike a (l ++ m) ≡ found (like_in alike a l) Some (like_in alike a m)
  unfolding like_in
  like_append a [] m = refl
  like_append a (b ∷ l) m = go (alike a b) (like_append a l m)
    where
      go : (c : Bool) → like_in alike a (l ++ m) ≡ found (like_in alike a l) Some (like_in alike a m) → cond c (Some b) (like_in alike a (l ++ m)) ≡ found (cond c (Some b) (like_in alike a l)) Some (like_in alike a m)
      go true h = refl
      go false h = h

  -- No two are alike in two lists that share nothing, nor in a part of a list.
  distinct_append : (l m : List A) → distinct alike l ≡ true → distinct alike m ≡ true → ((a : A) → Memᴰ a l → any (alike a) m ≡ false) → distinct alike (l ++ m) ≡ true
  unfolding distinct
  distinct_append [] m g h r = h
  distinct_append (a ∷ l) m g h r =
      let t = and_true (not (any (alike a) l)) (distinct alike l) g in
      both_true
      (ap not (any_append (alike a) l m ∙ both_false (not-true (any (alike a) l) t.0) (r a (Memᴰ.head refl))))
      (distinct_append l m t.1 h (λ b i. r b (Memᴰ.tail i)))

  distinct_only : (l m : List A) → distinct alike m ≡ true → distinct alike (only_in alike l m) ≡ true
  unfolding distinct only_in
  distinct_only l [] h = refl
  distinct_only l (b ∷ m) h =
      let t = and_true (not (any (alike b) m)) (distinct alike m) h in
      go (any (alike b) l) (not-true _ t.0) (distinct_only l m t.1)
    where
      go : (c : Bool) → any (alike b) m ≡ false → distinct alike (only_in alike l m) ≡ true → distinct alike (cond c (only_in alike l m) (b ∷ only_in alike l m)) ≡ true
      go true e h = h
      go false e h = both_true (ap not (any_none (alike b) (only_in alike l m) (λ a i. any_at (alike b) e (only_member l m i).0))) h

-- A test that answers alike on like things passes somewhere in the union where it does in either list.
module _ {A : Type 0} (alike : A → A → Bool) (test : A → Bool) (respects : (a b : A) → alike a b ≡ true → test a ≡ test b) where
  -- Where something in l is like b, a test that b passes is passed in l.
  like_passes : (b : A) (l : List A) → any (alike b) l ≡ true → test b ≡ true → any test l ≡ true
  like_passes b l h e = let a = any_found (alike b) l h in any_mem test a.1 (sym (respects b a.0 a.2) ∙ e)

  pub any_union : (l m : List A) → any test (union alike l m) ≡ any test l || any test m
  unfolding any only_in
  any_union l m = any_append test l (only_in alike l m) ∙ both m
    where
      absorbed : (x y z : Bool) → (y ≡ true → x ≡ true) → x || z ≡ x || (y || z)
      absorbed true y z h = refl
      absorbed false true z h = absurd (false≢true (h refl))
      absorbed false false z h = refl

      swapped : (x y z : Bool) → x || (y || z) ≡ y || (x || z)
      swapped true true z = refl
      swapped true false z = refl
      swapped false y z = refl

      both : (m : List A) → any test l || any test (only_in alike l m) ≡ any test l || any test m
      both [] = refl
      both (b ∷ m) = go (any (alike b) l) refl (both m)
        where
          go : (c : Bool) → any (alike b) l ≡ c → any test l || any test (only_in alike l m) ≡ any test l || any test m
              → any test l || any test (cond c (only_in alike l m) (b ∷ only_in alike l m)) ≡ any test l || (test b || any test m)
          go true e h = h ∙ absorbed (any test l) (test b) (any test m) (like_passes b l e)
          go false e h =
              swapped (any test l) (test b) (any test (only_in alike l m)) ∙ ap (λ x. test b || x) h ∙ swapped (test b) (any test l) (any test m)

module _ {A : Type 0} {alike : A → A → Bool} (s : Likeness alike) where
  pub union_distinct : (l m : List A) → distinct alike l ≡ true → distinct alike m ≡ true → distinct alike (union alike l m) ≡ true
  union_distinct l m g h =
      distinct_append alike l (only_in alike l m) g (distinct_only alike l m h)
      (λ a i. any_none (alike a) (only_in alike l m) (λ b j. s.turned a b ∙ any_at (alike b) (only_member alike l m j).1 i))

  like_itself : (a : A) (l : List A) → Memᴰ a l → any (alike a) l ≡ true
  like_itself a l i = any_mem (alike a) i (s.itself a)

  -- A list with itself is that list.
  pub only_self : (l : List A) → only_in alike l l ≡ []
  only_self l = only_none alike l l (λ b i. like_itself b l i)

  pub union_self : (l : List A) → union alike l l ≡ l
  union_self l = ap (λ m. l ++ m) (only_self l) ∙ append-nil l

  -- Where no two are alike, each is the one that is found like it.
  pub like_self : (l : List A) → distinct alike l ≡ true → {a : A} → Memᴰ a l → like_in alike a l ≡ Some a
  unfolding distinct like_in
  like_self [] h {a = a} x' = elim x' [ ]
  like_self (x ∷ l) h {a} (Memᴰ.head e) = rw (e, s.itself x)
  like_self (x ∷ l) h {a} (Memᴰ.tail i) =
      let t = and_true (not (any (alike x) l)) (distinct alike l) h in
      rw (s.turned a x, any_at (alike x) (not-true _ t.0) i) (like_self l t.1 i)

  -- What is like something in the union: that of the first list, else that of the second.
  pub like_union : (a : A) (l m : List A) → like_in alike a (union alike l m) ≡ found (like_in alike a l) Some (like_in alike a m)
  unfolding like_in only_in
  like_union a l m = like_append alike a l (only_in alike l m) ∙ first (like_in alike a l) refl
    where
      only : any (alike a) l ≡ false → (m : List A) → like_in alike a (only_in alike l m) ≡ like_in alike a m
      only h [] = refl
      only h (b ∷ m) = go (any (alike b) l) (alike a b) refl refl (only h m)
        where
          go : (c d : Bool) → any (alike b) l ≡ c → alike a b ≡ d → like_in alike a (only_in alike l m) ≡ like_in alike a m
              → like_in alike a (cond c (only_in alike l m) (b ∷ only_in alike l m)) ≡ cond d (Some b) (like_in alike a m)
          go true true e f i = absurd (true≢false (sym e ∙ sym (any_same (alike a) (alike b) l (λ x j. s.likewise a b f x)) ∙ h))
          go true false e f i = i
          go false true e f i = rw f
          go false false e f i = rw f i

      first : (o : Option A) → like_in alike a l ≡ o → found o Some (like_in alike a (only_in alike l m)) ≡ found o Some (like_in alike a m)
      first None e = only (like_any alike a l ∙ ap (λ o. found o (λ b. true) false) e) m
      first (Some b) e = refl

  -- What is found like a thing is found like those like it.
  pub like_likewise : (a b : A) (l : List A) → alike a b ≡ true → like_in alike a l ≡ like_in alike b l
  unfolding like_in
  like_likewise a b [] e = refl
  like_likewise a b (x ∷ l) e = rw (s.likewise a b e x, like_likewise a b l e)

  -- Each element changed to one like it.
  module _ (f : A → A) (keeps : (a b : A) → alike a (f b) ≡ alike a b) where
    any_kept : (a : A) (l : List A) → any (alike a) (map f l) ≡ any (alike a) l
    unfolding any
    any_kept a [] = refl
    any_kept a (b ∷ l) = ap₂ ◌||◌ (keeps a b) (any_kept a l)

    pub only_kept : (l m : List A) → only_in alike (map f l) m ≡ only_in alike l m
    unfolding only_in
    only_kept l [] = refl
    only_kept l (b ∷ m) = rw (any_kept b l, only_kept l m)

    pub like_kept : (a : A) (l : List A) → like_in alike a (map f l) ≡ map_option f (like_in alike a l)
    unfolding like_in
    like_kept a [] = refl
    like_kept a (b ∷ l) = rw (keeps a b) (go (alike a b) (like_kept a l))
      where
        go : (c : Bool) → like_in alike a (map f l) ≡ map_option f (like_in alike a l) → cond c (Some (f b)) (like_in alike a (map f l)) ≡ map_option f (cond c (Some b) (like_in alike a l))
        go true h = refl
        go false h = h

    pub distinct_kept : (l : List A) → distinct alike (map f l) ≡ distinct alike l
    unfolding distinct
    distinct_kept [] = refl
    distinct_kept (a ∷ l) =
        ap₂ (λ b c. not b && c)
        (any_same (alike (f a)) (alike a) (map f l) (λ b j. s.turned (f a) b ∙ keeps b a ∙ s.turned b a) ∙ any_kept a l)
        (distinct_kept l)
