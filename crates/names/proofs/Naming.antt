-- Laws of the name rule: what the functions answer.
use Rattle.std.specs.Prelude.{Option, Some, None}
use Prim.Native.Nat.{ℕ, ◌+◌, ◌-◌, ◌≤◌}
use mathlib.Core.Path.{◌≡◌, refl, sym, ◌∙◌}
use mathlib.Core.Bool.{Bool, true, false, cond, not, ◌&&◌, false≢true, and-eq-true_iff}
use mathlib.Core.List.{[], ◌∷◌}
use native.Mathlib.Omega.{arith}
use lib.Dec.{ltb, leb}
use lib.ListN.{length, get_or, length-append}
use borrow.Author.Tests.{leb-true, le-leb, lt-leb, lt-ltb, not-true, not-false}
use Rattle.text.specs.Bytes.{Bytes, same, is_blank}
use Rattle.text.specs.Class.{one_of}
use Rattle.names.specs.Codes.{encode}
use Rattle.names.specs.Names.{composed, is_some, is_form, has_name_shape, is_name, is_composed_name, is_sized, first, last}
use Rattle.names.specs.Steps.{letter_at, length_after, name_length}
use Rattle.names.proofs.Letters.{encode_size}
use Rattle.names.proofs.Walking.{composed_nothing, composed_split}

-- What the test of the shape answers.
pub shape_empty : (s : Bytes) → length s ≡ 0 → false ≡ has_name_shape s
unfolding has_name_shape
shape_empty s h = rw (lt-leb 1 (length s) (omega arith))

pub shape_is : (s : Bytes) (a b : ℕ) (p q r : Bool) → a ≡ get_or s 0 0 → b ≡ get_or s (length s - 1) 0 → p ≡ one_of "!~+" a → q ≡ is_blank a → r ≡ is_blank b
    → (leb 1 (length s) && leb (length s) 64 && not p && not q && not r) ≡ has_name_shape s
unfolding has_name_shape
shape_is s a b p q r e f g h k = rw (g, h, k, e, f)

-- What a shape has.
pub record Shaped (s : Bytes) : Type 0 where
  pub least : 1 ≤ length s
  pub most : length s ≤ 64
  pub begins : not (one_of "!~+" (first s)) ≡ true
  pub bare_first : not (is_blank (first s)) ≡ true
  pub bare_last : not (is_blank (last s)) ≡ true

pub shaped : (s : Bytes) → has_name_shape s ≡ true → Shaped s
unfolding has_name_shape
shaped s h =
    let a = (and-eq-true_iff (is_sized s && not (one_of "!~+" (first s)) && not (is_blank (first s))) (not (is_blank (last s)))).0 h in
    let b = (and-eq-true_iff (is_sized s && not (one_of "!~+" (first s))) (not (is_blank (first s)))).0 a.0 in
    let c = (and-eq-true_iff (is_sized s) (not (one_of "!~+" (first s)))).0 b.0 in
    let d = (and-eq-true_iff (leb 1 (length s)) (leb (length s) 64)).0 c.0 in
    record { least = leb-true 1 (length s) d.0; most = leb-true (length s) 64 d.1; begins = c.1; bare_first = b.1; bare_last = a.1 }

pub shape : (s : Bytes) → Shaped s → has_name_shape s ≡ true
unfolding has_name_shape
shape s h = rw (le-leb 1 (length s) h.least, le-leb (length s) 64 h.most, h.begins, h.bare_first, h.bare_last)

-- A composed form has a byte where the text has one.
pub composed_long : (s t : Bytes) → composed s ≡ Some t → 1 ≤ length s → 1 ≤ length t
composed_long [] t h l = absurd (omega arith)
composed_long (a ∷ s) t h l = composed_split a s t h (λ t. 1 ≤ length t) (λ w u e k. omega (arith, length-append (encode (letter_at (a ∷ s)).code) u, (encode_size (letter_at (a ∷ s)).code).0))

-- What the length answers.
module _ (s : Bytes) (p : Bool) (f : p ≡ has_name_shape s) where
  pub name_long : not p ≡ false → (n : ℕ) → n ≡ length_after 0 (composed s) → n ≡ name_length s
  unfolding name_length is_name
  name_long t n e = e ∙ rw (← f, not-false p t) (go (composed s))
    where
      go : (o : Option Bytes) → length_after 0 o ≡ cond (is_some o) (length_after 0 o) 0
      go None = refl
      go (Some t) = refl

  pub name_none : not p ≡ true → 0 ≡ name_length s
  unfolding name_length is_name
  name_none t = rw (← f, not-true p t)

  pub unshaped : not p ≡ true → false ≡ is_name s
  unfolding is_name
  unshaped t = rw (← f, not-true p t)

  pub shaped_name : not p ≡ false → (r : Bool) → r ≡ is_some (composed s) → r ≡ is_name s
  unfolding is_name
  shaped_name t r e = e ∙ rw (← f, not-false p t)

  pub composed_told : (q : Bool) → q ≡ is_form s (composed s) → (p && q) ≡ is_composed_name s
  unfolding is_composed_name is_name
  composed_told q e = rw (e, ← f) (go p (composed s))
    where
      go : (p : Bool) (o : Option Bytes) → (p && is_form s o) ≡ ((p && is_some o) && is_form s o)
      go true None = refl
      go true (Some t) = refl
      go false o = refl

-- Whether there is a composed form: the text itself, or what is gone over letter by letter has a length.
module _ (s : Bytes) (q : Bool) (f : q ≡ is_form s (composed s)) where
  pub own_has : q ≡ true → true ≡ is_some (composed s)
  own_has t = go (composed s) (sym f ∙ t)
    where
      go : (o : Option Bytes) → is_form s o ≡ true → true ≡ is_some o
      go None h = absurd (false≢true h)
      go (Some t) h = refl

  pub walked_has : q ≡ false → (n : ℕ) → n ≡ length_after 0 (composed s) → ltb 0 n ≡ is_some (composed s)
  unfolding same
  walked_has t n e = rw e (go s (composed s) refl (sym f ∙ t))
    where
      go : (s : Bytes) (o : Option Bytes) → composed s ≡ o → is_form s o ≡ false → ltb 0 (length_after 0 o) ≡ is_some o
      go s None k h = refl
      go [] (Some t) k h = absurd (false≢true (sym h ∙ let e : t ≡ [] = (let z : Some t ≡ Some [] = sym k ∙ composed_nothing in cc) in rw e))
      go (b ∷ s) (Some t) k h = lt-ltb 0 (0 + length t) (omega (arith, composed_long (b ∷ s) t k (omega arith)))
