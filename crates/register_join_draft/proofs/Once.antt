-- Laws of lists without repeats.
use mathlib.Core.Path.{◌≡◌, refl, sym, ap, ap₂, ◌∙◌}
use mathlib.Core.Bool.{Bool, true, false, cond, not, ◌&&◌, ◌||◌}
use mathlib.Core.List.{List, [], ◌∷◌, ◌++◌, map, append-nil, append_assoc, Memᴰ}
use borrow.Author.Tests.{not-true}
use Rattle.text.specs.Bytes.{any}
use Rattle.text.proofs.Laws.{any_append}
use Rattle.language.specs.Register.{distinct}
use Rattle.language.specs.Joining.{only_in, union}
use Rattle.language.proofs.Members.{and_true, or_false, any_same}
use Rattle.language.proofs.Unions.{Likeness, only_beside_none}
use Rattle.register_form.specs.Draft.{once_behind, once}

-- What is behind two lists: the second behind what the first leaves.
pub behind_append : {A : Type 0} (alike : A → A → Bool) (seen l m : List A) → once_behind alike seen (l ++ m) ≡ once_behind alike (once_behind alike seen l) m
unfolding once_behind
behind_append alike seen [] m = refl
behind_append alike seen (x ∷ l) m = behind_append alike (cond (any (alike x) seen) seen (seen ++ (x ∷ []))) l m

module _ {A : Type 0} {alike : A → A → Bool} (s : Likeness alike) where
  only_more : (seen : List A) (x : A) (m : List A) → any (alike x) m ≡ false → only_in alike (seen ++ (x ∷ [])) m ≡ only_in alike seen m
  unfolding only_in any
  only_more seen x [] h = refl
  only_more seen x (b ∷ m) h =
      let t = or_false (alike x b) (any (alike x) m) h in
      rw (any_append (alike b) seen (x ∷ []), s.turned b x, t.0, plain (any (alike b) seen), only_more seen x m t.1)
    where
      plain : (c : Bool) → c || (false || false) ≡ c
      plain true = refl
      plain false = refl

  -- Behind elements seen is what is not among them, where no two behind are alike.
  behind_only : (seen l : List A) → distinct alike l ≡ true → once_behind alike seen l ≡ seen ++ only_in alike seen l
  unfolding once_behind only_in distinct
  behind_only seen [] h = sym (append-nil seen)
  behind_only seen (x ∷ l) h =
      let t = and_true (not (any (alike x) l)) (distinct alike l) h in
      go (any (alike x) seen) (behind_only seen l t.1) (behind_only (seen ++ (x ∷ [])) l t.1) (not-true _ t.0)
    where
      go : (c : Bool) → once_behind alike seen l ≡ seen ++ only_in alike seen l → once_behind alike (seen ++ (x ∷ [])) l ≡ seen ++ (x ∷ []) ++ only_in alike (seen ++ (x ∷ [])) l → any (alike x) l ≡ false
          → once_behind alike (cond c seen (seen ++ (x ∷ []))) l ≡ seen ++ cond c (only_in alike seen l) (x ∷ only_in alike seen l)
      go true i j n = i
      go false i j n = j ∙ append_assoc seen (x ∷ []) (only_in alike (seen ++ (x ∷ [])) l) ∙ ap (λ r. seen ++ (x ∷ r)) (only_more seen x l n)

  pub once_distinct : (l : List A) → distinct alike l ≡ true → once alike l ≡ l
  once_distinct l h = behind_only [] l h ∙ only_beside_none alike l

  pub once_append : (l m : List A) → distinct alike l ≡ true → distinct alike m ≡ true → once alike (l ++ m) ≡ union alike l m
  once_append l m g h = behind_append alike [] l m ∙ ap (λ r. once_behind alike r m) (once_distinct l g) ∙ behind_only l m h

module _ {A B : Type 0} (f : A → B) where
  pub any_map : (p : B → Bool) (l : List A) → any p (map f l) ≡ any (λ a. p (f a)) l
  unfolding any
  any_map p [] = refl
  any_map p (x ∷ l) = ap (λ b. p (f x) || b) (any_map p l)

  -- What is only in the second list, mapped.
  pub map_only : (alike : A → A → Bool) (beside : B → B → Bool) (l m : List A) (k : List B) → ((a : A) → Memᴰ a m → any (beside (f a)) k ≡ any (alike a) l) → map f (only_in alike l m) ≡ only_in beside k (map f m)
  unfolding only_in
  map_only alike beside l [] k h = refl
  map_only alike beside l (x ∷ m) k h = rw (h x (Memᴰ.head refl)) (go (any (alike x) l) (map_only alike beside l m k (λ a n. h a (Memᴰ.tail n))))
    where
      go : (c : Bool) → map f (only_in alike l m) ≡ only_in beside k (map f m) → map f (cond c (only_in alike l m) (x ∷ only_in alike l m)) ≡ cond c (only_in beside k (map f m)) (f x ∷ only_in beside k (map f m))
      go true e = e
      go false e = ap (λ r. f x ∷ r) e

  -- No two are alike where their images are not.
  pub distinct_of : (alike : A → A → Bool) (beside : B → B → Bool) (l : List A) → ((a b : A) → Memᴰ a l → Memᴰ b l → beside (f a) (f b) ≡ alike a b) → distinct beside (map f l) ≡ distinct alike l
  unfolding distinct
  distinct_of alike beside [] h = refl
  distinct_of alike beside (x ∷ l) h =
      ap₂ (λ b c. not b && c)
      (any_map (beside (f x)) l ∙ any_same (λ a. beside (f x) (f a)) (alike x) l (λ a n. h x a (Memᴰ.head refl) (Memᴰ.tail n)))
      (distinct_of alike beside l (λ a b m n. h a b (Memᴰ.tail m) (Memᴰ.tail n)))
