-- Lists whose elements are there once: laws of `once`.
use mathlib.Core.Path.{◌≡◌, refl, sym, ap, ap₂, ◌∙◌}
use mathlib.Core.Bool.{Bool, true, false, cond, not, ◌||◌, true≢false}
use mathlib.Core.Logic.{◌⊎◌, inl, inr}
use mathlib.Core.List.Memᴰ
use mathlib.Core.List.{List, [], ◌∷◌, ◌++◌, map, append_assoc, append-nil, Memᴰ}
use lib.Dec.{eqb}
use borrow.Author.Tests.{eqb-true, eq-eqb, not-true}
use Rattle.text.specs.Bytes.{Bytes, same, any}
use Rattle.text.proofs.Laws.{any_append}
use Rattle.language.specs.Register.{Held, distinct}
use Rattle.language.specs.RegisterText.{add_category, add_held, same_held}
use Rattle.language.specs.Joining.{only_in, union}
use Rattle.language.proofs.Members.{and_true, by_test, any_at, any_same}
use Rattle.language.proofs.Unions.{Decides, Likeness, by_key, only_member, union_distinct}
use Rattle.language.proofs.Adding.{added, category_added, held_added}
use Rattle.register_form.specs.Draft.{once_behind, once, filtered}
use Rattle.register_form.proofs.Filtered.{of_filtered}

pub eqb_decides : Decides eqb
eqb_decides = record { equal = eqb-true; itself = λ n. eq-eqb n n refl }

pub likeness : {A : Type 0} {alike : A → A → Bool} → Decides alike → Likeness alike
likeness s = by_key s (λ a. a)

-- Tests of equality answer alike before and behind a map that takes no two things to one.
pub test_kept : {A B : Type 0} {alike : A → A → Bool} {like : B → B → Bool} → Decides alike → Decides like → (f : A → B) (a b : A) → (f a ≡ f b → a ≡ b) → like (f a) (f b) ≡ alike a b
test_kept {alike = alike} {like = like} s t f a b one =
    by_test (alike a b)
    (λ e. ap (λ v. like (f a) (f v)) (sym (s.equal a b e)) ∙ t.itself (f a) ∙ sym e)
    (λ e. by_test (like (f a) (f b)) (λ g. absurd (true≢false (sym (s.itself a) ∙ ap (alike a) (one (t.equal (f a) (f b) g)) ∙ e))) (λ g. g ∙ sym e))

module _ {A : Type 0} (alike : A → A → Bool) where
  -- Each element is added behind those seen, one by one.
  pub behind_step : (seen : List A) (x : A) (l : List A) → once_behind alike seen (x ∷ l) ≡ once_behind alike (added alike x seen) l
  unfolding once_behind added
  behind_step seen x l = refl

  pub behind_append : (seen l m : List A) → once_behind alike seen (l ++ m) ≡ once_behind alike (once_behind alike seen l) m
  unfolding once_behind
  behind_append seen [] m = refl
  behind_append seen (x ∷ l) m = behind_append (cond (any (alike x) seen) seen (seen ++ (x ∷ []))) l m

  pub behind_last : (seen l : List A) (x : A) → once_behind alike seen (l ++ (x ∷ [])) ≡ added alike x (once_behind alike seen l)
  unfolding once_behind added
  behind_last seen l x = behind_append seen l (x ∷ [])

  -- Two lists that keep things out do so as one.
  only_twice : (l k m : List A) → only_in alike l (only_in alike k m) ≡ only_in alike (l ++ k) m
  unfolding only_in
  only_twice l k [] = refl
  only_twice l k (b ∷ m) = rw (any_append (alike b) l k) (go (any (alike b) k) (any (alike b) l) refl (only_twice l k m))
    where
      go : (c e : Bool) → any (alike b) l ≡ e → only_in alike l (only_in alike k m) ≡ only_in alike (l ++ k) m → only_in alike l (cond c (only_in alike k m) (b ∷ only_in alike k m)) ≡ cond (e || c) (only_in alike (l ++ k) m) (b ∷ only_in alike (l ++ k) m)
      go true true f h = h
      go true false f h = h
      go false true f h = rw f h
      go false false f h = rw f (ap (λ r. b ∷ r) h)

  -- All of the second list is only there where none is like one of the first.
  only_all_new : (l m : List A) → ((b : A) → Memᴰ b m → any (alike b) l ≡ false) → only_in alike l m ≡ m
  unfolding only_in
  only_all_new l [] h = refl
  only_all_new l (b ∷ m) h = rw (h b (Memᴰ.head refl)) (ap (λ r. b ∷ r) (only_all_new l m (λ a i. h a (Memᴰ.tail i))))

  mem_only : (l : List A) {b : A} {m : List A} → Memᴰ b m → any (alike b) l ≡ false → Memᴰ b (only_in alike l m)
  unfolding only_in
  mem_only l {b} (Memᴰ.head {x = x} {xs = m} e) h = rw (ap (λ v. any (alike v) l) (sym e) ∙ h) (Memᴰ.head e)
  mem_only l {b} (Memᴰ.tail {x = x} {xs = m} n) h = go (any (alike x) l) (mem_only l n h)
    where
      go : (c : Bool) → Memᴰ b (only_in alike l m) → Memᴰ b (cond c (only_in alike l m) (x ∷ only_in alike l m))
      go true n = n
      go false n = Memᴰ.tail n

module _ {A : Type 0} {alike : A → A → Bool} (s : Likeness alike) where
  -- What is like a thing of the list keeps nothing more out.
  only_known : (l : List A) (x : A) (m : List A) → any (alike x) l ≡ true → only_in alike (l ++ (x ∷ [])) m ≡ only_in alike l m
  unfolding only_in any
  only_known l x [] h = refl
  only_known l x (b ∷ m) h = rw (any_append (alike b) l (x ∷ [])) (go (any (alike b) l) (alike b x) refl refl (only_known l x m h))
    where
      go : (c e : Bool) → any (alike b) l ≡ c → alike b x ≡ e → only_in alike (l ++ (x ∷ [])) m ≡ only_in alike l m → cond (c || (e || false)) (only_in alike (l ++ (x ∷ [])) m) (b ∷ only_in alike (l ++ (x ∷ [])) m) ≡ cond c (only_in alike l m) (b ∷ only_in alike l m)
      go true e f g k = k
      go false true f g k = absurd (true≢false (sym h ∙ sym (any_same (alike b) (alike x) l (λ a i. s.likewise b x g a)) ∙ f))
      go false false f g k = ap (λ r. b ∷ r) k

  -- The elements behind those seen are those only in the rest, each once.
  pub behind_union : (seen l : List A) → once_behind alike seen l ≡ union alike seen (once alike l)
  unfolding once_behind only_in any
  behind_union seen [] = sym (append-nil seen)
  behind_union seen (x ∷ l) = go (any (alike x) seen) refl (λ k. behind_union k l)
    where
      go : (c : Bool) → any (alike x) seen ≡ c → ((k : List A) → once_behind alike k l ≡ union alike k (once alike l)) → once_behind alike (cond c seen (seen ++ (x ∷ []))) l ≡ seen ++ only_in alike seen (once_behind alike (x ∷ []) l)
      go true e ih =
          ih seen
          ∙ ap (λ r. seen ++ r) (sym (only_known seen x (once alike l) e) ∙ sym (only_twice alike seen (x ∷ []) (once alike l)) ∙ rw (ih (x ∷ []), e))
      go false e ih =
          ih (seen ++ (x ∷ []))
          ∙ append_assoc seen (x ∷ []) (only_in alike (seen ++ (x ∷ [])) (once alike l))
          ∙ ap (λ r. seen ++ r) (ap (λ r. x ∷ r) (sym (only_twice alike seen (x ∷ []) (once alike l))) ∙ rw (ih (x ∷ []), e))

  -- The first stays, and of the rest, each once, those unlike it.
  pub once_first : (x : A) (l : List A) → once alike (x ∷ l) ≡ x ∷ only_in alike (x ∷ []) (once alike l)
  unfolding once_behind any
  once_first x l = behind_union (x ∷ []) l

  -- Of the second list, each once, only what is not in the first.
  pub once_append : (l m : List A) → once alike (l ++ m) ≡ union alike (once alike l) (once alike m)
  once_append l m = behind_append alike [] l m ∙ behind_union (once alike l) m

  -- A list in which no two are alike is as it was.
  pub once_distinct : (l : List A) → distinct alike l ≡ true → once alike l ≡ l
  unfolding distinct once_behind any
  once_distinct [] h = refl
  once_distinct (x ∷ l) h =
      let t = and_true (not (any (alike x) l)) (distinct alike l) h in
      once_first x l
      ∙ ap (λ r. x ∷ r) (ap (only_in alike (x ∷ [])) (once_distinct l t.1) ∙ only_all_new alike (x ∷ []) l (λ b i. rw (s.turned b x, any_at (alike x) (not-true _ t.0) i)))

  -- Once, no two are alike.
  pub distinct_once : (l : List A) → distinct alike (once alike l) ≡ true
  unfolding distinct once_behind any
  distinct_once [] = refl
  distinct_once (x ∷ l) = rw (once_first x l) (union_distinct s (x ∷ []) (once alike l) refl (distinct_once l))

  -- One list behind another, no two alike in either.
  pub once_union : (l m : List A) → distinct alike l ≡ true → distinct alike m ≡ true → once alike (l ++ m) ≡ union alike l m
  once_union l m g h = once_append l m ∙ ap₂ (union alike) (once_distinct l g) (once_distinct m h)

  -- Only what is in a list is in it once.
  pub of_once : (l : List A) {a : A} → Memᴰ a (once alike l) → Memᴰ a l
  unfolding once_behind
  of_once [] i = absurd (Memᴰ.not-nil i)
  of_once (x ∷ l) {a} i = go (Memᴰ.cases_cons (rw (once_first x l) at i)) (λ j. of_once l j)
    where
      go : (a ≡ x) ⊎ Memᴰ a (only_in alike (x ∷ []) (once alike l)) → (Memᴰ a (once alike l) → Memᴰ a l) → Memᴰ a (x ∷ l)
      go (inl e) ih = Memᴰ.head e
      go (inr j) ih = Memᴰ.tail (ih (only_member alike (x ∷ []) (once alike l) j).0)

  -- A test that answers alike on like things passes the same of them, once or not.
  module _ (p : A → Bool) (respects : (a b : A) → alike a b ≡ true → p a ≡ p b) where
    filtered_only : (k m : List A) → filtered p (only_in alike k m) ≡ only_in alike k (filtered p m)
    unfolding filtered only_in
    filtered_only k [] = refl
    filtered_only k (b ∷ m) = go (any (alike b) k) (p b) refl refl (filtered_only k m)
      where
        go : (c e : Bool) → any (alike b) k ≡ c → p b ≡ e → filtered p (only_in alike k m) ≡ only_in alike k (filtered p m) → filtered p (cond c (only_in alike k m) (b ∷ only_in alike k m)) ≡ only_in alike k (cond e (b ∷ filtered p m) (filtered p m))
        go true true f g h = rw f h
        go true false f g h = h
        go false true f g h = rw (f, g) (ap (λ r. b ∷ r) h)
        go false false f g h = rw g h

    filtered_fails : (x : A) (m : List A) → p x ≡ false → filtered p (only_in alike (x ∷ []) m) ≡ filtered p m
    unfolding any
    filtered_fails x m e = filtered_only (x ∷ []) m ∙ only_all_new alike (x ∷ []) (filtered p m) unlike
      where
        unlike : (b : A) → Memᴰ b (filtered p m) → any (alike b) (x ∷ []) ≡ false
        unlike b i = by_test (alike b x) (λ g. absurd (true≢false (sym (of_filtered p m i).1 ∙ respects b x g ∙ e))) (λ g. rw g)

    pub once_filtered : (l : List A) → once alike (filtered p l) ≡ filtered p (once alike l)
    unfolding filtered once_behind
    once_filtered [] = refl
    once_filtered (x ∷ l) = go (p x) refl (once_filtered l)
      where
        go : (b : Bool) → p x ≡ b → once alike (filtered p l) ≡ filtered p (once alike l) → once alike (cond b (x ∷ filtered p l) (filtered p l)) ≡ filtered p (once alike (x ∷ l))
        go true e h = once_first x (filtered p l) ∙ rw (h, once_first x l, e) (ap (λ r. x ∷ r) (sym (filtered_only (x ∷ []) (once alike l))))
        go false e h = h ∙ rw (once_first x l, e) (sym (filtered_fails x (once alike l) e))

-- A map that keeps likeness.
module _ {A B : Type 0} {alike : A → A → Bool} {like : B → B → Bool} (s : Likeness alike) (t : Likeness like) (f : A → B) where
  any_map : (b : A) (k : List A) → ((a : A) → Memᴰ a k → like (f b) (f a) ≡ alike b a) → any (like (f b)) (map f k) ≡ any (alike b) k
  unfolding any
  any_map b [] g = refl
  any_map b (a ∷ k) g = ap₂ ◌||◌ (g a (Memᴰ.head refl)) (any_map b k (λ c i. g c (Memᴰ.tail i)))

  only_map : (k m : List A) → ((a b : A) → Memᴰ a m → Memᴰ b k → like (f a) (f b) ≡ alike a b) → only_in like (map f k) (map f m) ≡ map f (only_in alike k m)
  unfolding only_in
  only_map k [] h = refl
  only_map k (b ∷ m) h = rw (any_map b k (λ a i. h b a (Memᴰ.head refl) i)) (go (any (alike b) k) (only_map k m (λ a c i j. h a c (Memᴰ.tail i) j)))
    where
      go : (c : Bool) → only_in like (map f k) (map f m) ≡ map f (only_in alike k m) → cond c (only_in like (map f k) (map f m)) (f b ∷ only_in like (map f k) (map f m)) ≡ map f (cond c (only_in alike k m) (b ∷ only_in alike k m))
      go true e = e
      go false e = ap (λ r. f b ∷ r) e

  -- Mapped and then once is once and then mapped.
  pub once_map : (l : List A) → ((a b : A) → Memᴰ a l → Memᴰ b l → like (f a) (f b) ≡ alike a b) → once like (map f l) ≡ map f (once alike l)
  unfolding once_behind
  once_map [] h = refl
  once_map (x ∷ l) h =
      once_first t (f x) (map f l)
      ∙ ap (λ r. f x ∷ r)
      (ap (only_in like (f x ∷ [])) (once_map l (λ a b i j. h a b (Memᴰ.tail i) (Memᴰ.tail j)))
      ∙ only_map (x ∷ []) (once alike l) (λ a b i j. h a b (Memᴰ.tail (of_once s l i)) (Memᴰ.head (Memᴰ.eq_of_singleton j))))
      ∙ ap (map f) (sym (once_first s x l))

-- Where the test is of equality, a list has the same members once.
pub mem_once : {A : Type 0} {alike : A → A → Bool} (s : Decides alike) {a : A} {l : List A} → Memᴰ a l → Memᴰ a (once alike l)
unfolding any
mem_once {alike = alike} s {a} (Memᴰ.head {x = x} {xs = l} e) = rw (once_first (likeness s) x l) (Memᴰ.head e)
mem_once {alike = alike} s {a} (Memᴰ.tail {x = x} {xs = l} i) =
    rw (once_first (likeness s) x l)
    (by_test (alike a x) (λ e. Memᴰ.head (s.equal a x e)) (λ e. Memᴰ.tail (mem_only alike (x ∷ []) (mem_once s i) (any_one e))))
  where
    any_one : alike a x ≡ false → any (alike a) (x ∷ []) ≡ false
    any_one e = rw e

-- Categories and values added one by one.
pub once_category : (l : List Bytes) (x : Bytes) → once same (l ++ (x ∷ [])) ≡ add_category x (once same l)
once_category l x = behind_last same [] l x ∙ sym (category_added x (once same l))

pub once_held : (l : List Held) (h : Held) → once same_held (l ++ (h ∷ [])) ≡ add_held h (once same_held l)
once_held l h = behind_last same_held [] l h ∙ sym (held_added h (once same_held l))

pub behind_category : (seen : List Bytes) (x : Bytes) (l : List Bytes) → once_behind same seen (x ∷ l) ≡ once_behind same (add_category x seen) l
behind_category seen x l = behind_step same seen x l ∙ ap (λ k. once_behind same k l) (sym (category_added x seen))

pub behind_held : (seen : List Held) (h : Held) (l : List Held) → once_behind same_held seen (h ∷ l) ≡ once_behind same_held (add_held h seen) l
behind_held seen h l = behind_step same_held seen h l ∙ ap (λ k. once_behind same_held k l) (sym (held_added h seen))
