-- Laws of references, booleans and kinds.
use Rattle.std.specs.Prelude.{Option, Some, None}
use Prim.Native.Nat.{ℕ, ◌+◌, ◌≤◌, ◌<◌}
use mathlib.Core.Path.{◌≡◌, refl, sym, ◌∙◌}
use mathlib.Core.List.{[], ◌∷◌, map}
use mathlib.Core.Bool.{Bool, true, false, cond, not, ◌&&◌, ◌||◌, and_assoc}
use native.Mathlib.Omega.{arith}
use native.Mathlib.Numerals.{add-one}
use lib.Dec.{eqb}
use lib.ListN.{length, get_or, drop, length-map, length-drop, get_or-map}
use lib.Seq.{take_all}
use borrow.Author.Tests.{lt-ltb, le-ltb}
use Rattle.text.specs.Bytes.{Bytes, bytes, same, any, all, is_blank, span}
use Rattle.text.specs.Table.{bit}
use Rattle.text.specs.Class.{is_value_byte, is_other}
use Rattle.text.specs.Parts.{part_of, Trimmed}
use Rattle.text.specs.declared.Span.{Span}
use Rattle.text.proofs.Laws.{same_eq, same_refl, same_unlike, any_three}
use Rattle.std.specs.Bool.{Decides}
use Rattle.std.proofs.lemmas.Bool.Decides.{same_from_decides}
use Rattle.names.specs.Names.{is_sized, first, last, is_name, is_namespace}
use Rattle.values.specs.Names.{is_value, is_reference, reference}
use Rattle.values.specs.Values.{lower, read_boolean, read_scalar, read_link, read_value, map_option, plain, link, scalar, string, kind_of_constant, kind_of, Constant, Value}
use Rattle.values.specs.Answers.{has_bare_ends, Splits}
use Rattle.values.specs.declared.Kind.{Kind}
use Rattle.values.specs.declared.Split.{Split}

-- A value that is read in a kind has that kind.
module _ {A : Type 0} (f : A → Value) (k : Kind) (h : (a : A) → kind_of (f a) ≡ k) (v : Value) where
  mapped_kind : (o : Option A) → map_option f o ≡ Some v → kind_of v ≡ k
  mapped_kind None e = cc
  mapped_kind (Some a) e = let q : f a ≡ v = cc in rw (← q) (h a)

plain_kind : {A : Type 0} (f : A → Constant) (k : Kind) → ((a : A) → kind_of_constant (f a) ≡ k) → (o : Option A) (v : Value) → map_option plain (map_option f o) ≡ Some v → kind_of v ≡ k
plain_kind f k h None v e = cc
plain_kind f k h (Some a) v e = mapped_kind (λ x. plain (f x)) k h v (Some a) e

pub read_kind : (k : Kind) (s : Bytes) (v : Value) → read_value k s ≡ Some v → kind_of v ≡ k
read_kind Kind.Page s v e = mapped_kind link Kind.Page (λ i. refl) v (read_link s) e
read_kind (Kind.Scalar k) s v e = plain_kind (scalar k) (Kind.Scalar k) (λ c. refl) (read_scalar k s) v e
read_kind Kind.String s v e = plain_kind string Kind.String (λ x. refl) (Some s) v e

-- The rule for values, from what its parts answer.
module _ (s : Bytes) (a d : Bool) (x : ℕ) (e : a ≡ is_sized s) (f : x ≡ first s) (g : d ≡ has_bare_ends s) where
  ends : (y : Bool) → (y && d) ≡ (y && not (is_blank (first s)) && not (is_blank (last s)))
  ends y = rw g (sym (and_assoc y (not (is_blank (first s))) (not (is_blank (last s)))))

  pub value_is : (b : Bool) → b ≡ all is_value_byte s → (a && b && not (eqb x 126) && d) ≡ is_value s
  unfolding is_value
  value_is b h = ends (a && b && not (eqb x 126)) ∙ rw (e, h, f)

-- The two ways to split a text.
module _ (s : Bytes) (colon : ℕ) (q : colon ≡ 0 + span (is_other 58) s) where
  pub split_qualified : (n x : Span) → colon < length s → Trimmed s 0 colon n → Trimmed s (colon + 1) (length s) x → Splits s (record { namespace = Some n; article = x })
  unfolding reference
  split_qualified n x h t u =
      let e : span (is_other 58) s ≡ colon = omega arith in
      let k = take_all (length s) (drop (colon + 1) s) (omega (arith, length-drop (colon + 1) s)) in
      record { is = rw (e, lt-ltb colon (length s) h, t.is, u.is, k, add-one); namespace = t.within; article = u.within }

  pub split_bare : (x : Span) → length s ≤ colon → Trimmed s 0 (length s) x → Splits s (record { namespace = None; article = x })
  unfolding reference
  split_bare x h u =
      let e : span (is_other 58) s ≡ colon = omega arith in
      record { is = rw (e, le-ltb colon (length s) h, u.is, take_all (length s) s (omega arith)); namespace = tt; article = u.within }

-- The two ways to judge a reference.
module _ (s x : Bytes) (r : Split) (n : Bool) (p : Splits s r) (e : x ≡ part_of s r.article) (f : n ≡ is_name x) where
  pub reference_qualified : (k : Span) (y : Bytes) (m : Bool) → r.namespace ≡ Some k → y ≡ part_of s k → m ≡ is_namespace y → (m && n) ≡ is_reference (reference s)
  reference_qualified k y m h g i = rw (← p.is, h, i, f, e, g)

  pub reference_bare : r.namespace ≡ None → n ≡ is_reference (reference s)
  reference_bare h = rw (← p.is, h, f, e)

-- Whether bytes, letters small, are a word.
pub word_told : (s w : Bytes) (r : Bool) → Decides r (map lower s ≡ w) → r ≡ same (map lower s) w
word_told s w r h = same_from_decides r (same (map lower s) w) h (same_eq (map lower s) w, λ e. rw e (same_refl w))

pub word_unlike : (s w : Bytes) → (length s ≡ length w → ⊥) → same (map lower s) w ≡ false
word_unlike s w n = same_unlike (map lower s) w (λ e. n (sym (length-map s lower) ∙ e))

-- The three ways to read a boolean.
module _ (s : Bytes) where
  any_is : (x y z : Bytes) (a b c t : Bool) → a ≡ same (map lower s) x → b ≡ same (map lower s) y → c ≡ same (map lower s) z → (a || b || c) ≡ t → any (same (map lower s)) (x ∷ y ∷ z ∷ []) ≡ t
  any_is x y z a b c t e f g h = any_three (same (map lower s)) x y z ∙ rw (← e, ← f, ← g) h

  module _ (a b c : Bool) (e : a ≡ same (map lower s) (bytes "true")) (f : b ≡ same (map lower s) (bytes "yes")) (g : c ≡ same (map lower s) (bytes "1")) where
    pub boolean_true : (a || b || c) ≡ true → Some 1 ≡ (map_option bit (read_boolean s))
    unfolding read_boolean
    boolean_true h = rw (any_is (bytes "true") (bytes "yes") (bytes "1") a b c true e f g h)

    module _ (n : (a || b || c) ≡ false) (a' b' c' : Bool) (e' : a' ≡ same (map lower s) (bytes "false")) (f' : b' ≡ same (map lower s) (bytes "no")) (g' : c' ≡ same (map lower s) (bytes "0")) where
      other : (t : Bool) → (a' || b' || c') ≡ t → (map_option bit (read_boolean s)) ≡ (map_option bit (cond t (Some false) None))
      unfolding read_boolean
      other t h = rw (any_is (bytes "true") (bytes "yes") (bytes "1") a b c false e f g n, any_is (bytes "false") (bytes "no") (bytes "0") a' b' c' t e' f' g' h)

      pub boolean_false : (a' || b' || c') ≡ true → Some 0 ≡ (map_option bit (read_boolean s))
      boolean_false h = sym (other true h)

      pub boolean_unfit : (a' || b' || c') ≡ false → None ≡ (map_option bit (read_boolean s))
      boolean_unfit h = sym (other false h)

pub ruleset booleans = (boolean_true, boolean_false, boolean_unfit)

pub ruleset names = (value_is, split_qualified, split_bare, reference_qualified, reference_bare)
