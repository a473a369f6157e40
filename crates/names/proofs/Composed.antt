-- The composed form of a name, as readers and writers of names use it.
use Rattle.std.specs.Prelude.{Option, Some, None}
use Prim.Native.Nat.{ℕ, suc, ◌≤◌, ◌<◌}
use mathlib.Core.Path.{◌≡◌, refl, sym, ap, ◌∙◌}
use mathlib.Core.Bool.{Bool, true, false, cond, ◌||◌, false≢true, and-eq-true_iff}
use mathlib.Core.List.{List, [], ◌∷◌}
use native.Mathlib.Nat.{zero-add}
use native.Mathlib.Omega.{arith}
use lib.Dec.{eqb, ltb}
use lib.ListN.{length}
use borrow.Author.Tests.{ltb-true, le-leb, ne_eqb, not-true}
use Rattle.text.specs.Bytes.{Bytes, any, all, is_blank}
use Rattle.text.proofs.Laws.{same_eq, same_refl}
use Rattle.text.specs.Class.{one_of, is_name_byte, is_other}
use Rattle.names.specs.Codes.{within, is_plain}
use Rattle.names.specs.Names.{composed, composed_name, form_or, is_some, has_name_shape, is_name, is_property_name, is_namespace, is_form, is_composed_name, is_composed_property_name, is_composed_namespace, Equivalent, first, last}
use Rattle.names.proofs.OwnForm.{letter_high}
use Rattle.names.specs.Steps.{is_letter_byte, length_after}
use Rattle.names.proofs.Reading.{Reading, end, plain, pair, reading, paired}
use Rattle.names.proofs.Composing.{composed_twice, equivalent_composed, form}
use Rattle.names.proofs.Naming.{shaped, composed_long}
use Rattle.names.proofs.Keeping.{Kept, nothing, same, fewer, composed_keeps, kept_length, composed_name_lem, composed_property_name}
use Rattle.names.proofs.Ascii.{is_ascii, plain_composed, ascii_composed}

absurd_some : {A : Type 0} {B : Type 0} {a : A} → None ≡ Some a → B
absurd_some h = let z : ◌≡◌ {A = ℕ} 0 1 = cc in absurd (omega arith)

-- By cases on whether there is a composed form.
module _ (P : Bytes → Type 0) (s : Bytes) where
  pub on_form : (composed s ≡ None → P s) → ((t : Bytes) → composed s ≡ Some t → P t) → P (composed_name s)
  unfolding composed_name
  on_form f g = go (composed s) refl
    where
      go : (o : Option Bytes) → composed s ≡ o → P (form_or s o)
      go None e = f e
      go (Some t) e = g t e

-- A name has one.
pub name_composed : (s : Bytes) → is_name s ≡ true → composed s ≡ Some (composed_name s)
unfolding is_name composed_name
name_composed s h = go (composed s) ((and-eq-true_iff (has_name_shape s) (is_some (composed s))).0 h).1
  where
    go : (o : Option Bytes) → is_some o ≡ true → o ≡ Some (form_or s o)
    go None e = absurd (false≢true e)
    go (Some t) e = refl

pub composed_empty : composed_name [] ≡ []
unfolding composed_name all
composed_empty = rw (plain_composed [] refl)

pub filled : (b : ℕ) (s : Bytes) → eqb (length (b ∷ s)) 0 ≡ false
filled b s = ne_eqb (suc (length s)) 0 (λ e. omega arith)

pub namespace_composed : (s : Bytes) → is_namespace s ≡ true → composed s ≡ Some (composed_name s)
unfolding is_namespace all
namespace_composed [] h = rw composed_empty (plain_composed [] refl)
namespace_composed (b ∷ s) h = name_composed (b ∷ s) (rw (filled b s) at h)

pub composed_le : (s : Bytes) → length (composed_name s) ≤ length s
composed_le s = on_form (λ t. length t ≤ length s) s (λ e. omega arith) (λ t e. kept_length (composed_keeps s t e))

form_of : (s : Bytes) (o : Option Bytes) → o ≡ Some s → is_form s o ≡ true
form_of s None h = absurd_some h
form_of s (Some t) h = let e : t ≡ s = cc in rw e (same_refl s)

-- "Held forms keep names composed": the composed form of a name keeps the rule and is its own composed form.
pub composed_is_name : (s : Bytes) → is_name s ≡ true → is_composed_name (composed_name s) ≡ true
unfolding is_composed_name
composed_is_name s h =
    let e = name_composed s h in
    rw (composed_name_lem s (composed_name s) e h) (form_of (composed_name s) (composed (composed_name s)) (composed_twice s (composed_name s) e))

pub composed_is_property : (s : Bytes) → is_property_name s ≡ true → is_composed_property_name (composed_name s) ≡ true
unfolding is_composed_property_name is_property_name
composed_is_property s h =
    let n = ((and-eq-true_iff (is_name s) (all (is_other 46) s)).0 h).0 in
    let p = composed_property_name s (composed_name s) (name_composed s n) h in
    rw (composed_is_name s n) ((and-eq-true_iff (is_name (composed_name s)) (all (is_other 46) (composed_name s))).0 p).1

pub composed_is_namespace : (s : Bytes) → is_namespace s ≡ true → is_composed_namespace (composed_name s) ≡ true
unfolding is_composed_namespace is_namespace
composed_is_namespace [] h = rw composed_empty
composed_is_namespace (b ∷ s) h = rw (composed_is_name (b ∷ s) (rw (filled b s) at h)) (right (eqb (length (composed_name (b ∷ s))) 0))
  where
    right : (t : Bool) → t || true ≡ true
    right true = refl
    right false = refl

-- It is what it was.
pub form_fixed : (s : Bytes) (o : Option Bytes) → is_form s o ≡ true → form_or s o ≡ s
form_fixed s None h = absurd (false≢true h)
form_fixed s (Some t) h = sym (same_eq s t h)

pub composed_fixed : (s : Bytes) → is_composed_name s ≡ true → composed_name s ≡ s
unfolding is_composed_name composed_name
composed_fixed s h = form_fixed s (composed s) ((and-eq-true_iff (is_name s) (is_form s (composed s))).0 h).1

pub namespace_fixed : (s : Bytes) → is_composed_namespace s ≡ true → composed_name s ≡ s
unfolding is_composed_namespace
namespace_fixed [] h = composed_empty
namespace_fixed (b ∷ s) h = composed_fixed (b ∷ s) (rw (filled b s) at h)

pub property_composed : (s : Bytes) → is_composed_property_name s ≡ true → is_composed_name s ≡ true
unfolding is_composed_property_name
property_composed s h = ((and-eq-true_iff (is_composed_name s) (all (is_other 46) s)).0 h).0

pub property_fixed : (s : Bytes) → is_composed_property_name s ≡ true → composed_name s ≡ s
property_fixed s h = composed_fixed s (property_composed s h)

-- It keeps the rule of names as typed.
pub composed_typed : (s : Bytes) → is_composed_name s ≡ true → is_name s ≡ true
unfolding is_composed_name
composed_typed s h = ((and-eq-true_iff (is_name s) (is_form s (composed s))).0 h).0

pub property_typed : (s : Bytes) → is_composed_property_name s ≡ true → is_property_name s ≡ true
unfolding is_composed_property_name is_property_name
property_typed s h = let e = (and-eq-true_iff (is_composed_name s) (all (is_other 46) s)).0 h in rw (composed_typed s e.0, e.1)

pub namespace_typed : (s : Bytes) → is_composed_namespace s ≡ true → is_namespace s ≡ true
unfolding is_composed_namespace is_namespace
namespace_typed [] h = refl
namespace_typed (b ∷ s) h = rw (filled b s) (composed_typed (b ∷ s) (rw (filled b s) at h))

-- Bytes below 128 have nothing to compose, and nothing composes to them.
pub ascii_fixed : (s : Bytes) → is_ascii s ≡ true → composed_name s ≡ s
unfolding composed_name
ascii_fixed s h = rw (ascii_composed s h) (go (all is_name_byte s))
  where
    go : (t : Bool) → form_or s (cond t (Some s) None) ≡ s
    go true = refl
    go false = refl

kept_ascii : {s t : Bytes} → Kept s t → is_ascii t ≡ true → t ≡ s
unfolding all
kept_ascii nothing h = refl
kept_ascii (same {s} {t} a k) h = ap (λ (x : Bytes). a ∷ x) (kept_ascii k ((and-eq-true_iff (ltb a 128) (is_ascii t)).0 h).1)
kept_ascii (fewer {s} {t} a b c x y p q k) h = absurd (omega (arith, ltb-true x 128 ((and-eq-true_iff (ltb x 128) _).0 h).0))

pub composed_ascii : (s : Bytes) → is_ascii (composed_name s) ≡ true → composed_name s ≡ s
composed_ascii s = on_form (λ t. is_ascii t ≡ true → t ≡ s) s (λ e h. refl) (λ t e h. kept_ascii (composed_keeps s t e) h)

-- The bytes of a text that composes are bytes of names.
high_name : (b : ℕ) → 128 ≤ b → is_name_byte b ≡ true
unfolding is_name_byte any
high_name b l =
    rw (
      le-leb 32 b (omega arith),
      far 127 (omega arith),
      far 91 (omega arith),
      far 93 (omega arith),
      far 124 (omega arith),
      far 60 (omega arith),
      far 62 (omega arith),
      far 58 (omega arith),
      far 35 (omega arith),
      far 123 (omega arith),
      far 125 (omega arith),
      far 95 (omega arith),
      far 34 (omega arith),
    )
  where
    far : (c : ℕ) → c < 128 → eqb b c ≡ false
    far c k = ne_eqb b c (λ e. omega arith)

pub plain_name : (b : ℕ) → is_plain b ≡ true → is_name_byte b ≡ true
unfolding is_plain
plain_name b h = ((and-eq-true_iff (within 32 126 b) (is_name_byte b)).0 h).1

pub letter_name : (b : ℕ) → is_letter_byte b ≡ true → is_name_byte b ≡ true
letter_name b h = go (is_plain b) refl
  where
    go : (p : Bool) → is_plain b ≡ p → is_name_byte b ≡ true
    go true e = plain_name b e
    go false e = high_name b (letter_high b h e)

reading_bytes : {s : Bytes} {l : List ℕ} → Reading s l → all is_name_byte s ≡ true
unfolding all
reading_bytes end = refl
reading_bytes (plain a h r) = rw (plain_name a h) (reading_bytes r)
reading_bytes (pair a b h r) = let p = paired a b h in rw (high_name a (omega (arith, p.lead)), high_name b p.behind) (reading_bytes r)

-- What the rule for names says.
pub record Named (s : Bytes) : Type 0 where
  pub filled : 1 ≤ length s
  pub short : length s ≤ 64
  pub among : all is_name_byte s ≡ true
  pub unmarked : one_of "!~+" (first s) ≡ false
  pub begun : is_blank (first s) ≡ false
  pub ended : is_blank (last s) ≡ false

pub name_keeps : (s : Bytes) → is_name s ≡ true → Named s
unfolding is_name
name_keeps s h =
    let a = shaped s ((and-eq-true_iff (has_name_shape s) (is_some (composed s))).0 h).0 in
    record {
      filled = a.least;
      short = a.most;
      among = let f = form s (composed_name s) (name_composed s h) in reading_bytes (reading s f.codes f.typed);
      unmarked = not-true _ a.begins;
      begun = not-true _ a.bare_first;
      ended = not-true _ a.bare_last;
    }

pub namespace_short : (s : Bytes) → is_namespace s ≡ true → length s ≤ 64
unfolding is_namespace
namespace_short [] h = omega arith
namespace_short (b ∷ s) h = (name_keeps (b ∷ s) (rw (filled b s) at h)).short

-- "Two names are equal exactly when their composed forms are"
pub two_spellings : (s t : Bytes) → is_namespace s ≡ true → is_namespace t ≡ true → Equivalent s t → composed_name s ≡ composed_name t
two_spellings s t h k e = equivalent_composed s t (composed_name s) (composed_name t) (namespace_composed s h) (namespace_composed t k) e

pub composed_named : (s : Bytes) → is_composed_name s ≡ true → Named s
composed_named s h = name_keeps s (composed_typed s h)

-- How long the composed form is.
module _ (s : Bytes) where
  pub own_fixed : (q : Bool) → q ≡ is_form s (composed s) → q ≡ true → composed_name s ≡ s
  unfolding composed_name
  own_fixed q f e = form_fixed s (composed s) (sym f ∙ e)

  pub own_length : (q : Bool) → q ≡ is_form s (composed s) → q ≡ true → length s ≡ length_after 0 (composed s)
  own_length q f e = go (composed s) (sym f ∙ e)
    where
      go : (o : Option Bytes) → is_form s o ≡ true → length s ≡ length_after 0 o
      go None h = absurd (false≢true h)
      go (Some t) h = rw (same_eq s t h) (sym (zero-add (length t)))

  pub none_fixed : (n : ℕ) → n ≡ length_after 0 (composed s) → n ≡ 0 → composed_name s ≡ s
  none_fixed n h z = on_form (λ t. t ≡ s) s (λ e. refl) (λ t e. empty s t (omega (arith, h, ap (length_after 0) e)) e)
    where
      empty : (s t : Bytes) → length t ≡ 0 → composed s ≡ Some t → t ≡ s
      empty [] [] l k = refl
      empty [] (b ∷ t) l k = absurd (omega arith)
      empty (b ∷ s) t l k = absurd (omega (arith, composed_long (b ∷ s) t k (omega arith)))
