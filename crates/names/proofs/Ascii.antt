-- A text of plain code points is its own composed form, and names of bytes below 128 keep the rule of document 01.
use Rattle.std.specs.Prelude.{Option, Some, None}
use Prim.Native.Nat.{ℕ, ◌<◌}
use mathlib.Core.Path.{◌≡◌, refl, sym, ap, ◌∙◌}
use mathlib.Core.Bool.{Bool, true, false, cond, not, ◌&&◌, false≢true, and-eq-true_iff, and-false, and-true}
use mathlib.Core.List.{[], ◌∷◌}
use native.Mathlib.Omega.{arith}
use lib.Dec.{eqb, ltb, leb}
use lib.ListN.{get_or}
use borrow.Author.Tests.{ltb-true, le-leb, eqb-false}
use Rattle.text.specs.Bytes.{Bytes, all, is_blank}
use Rattle.text.specs.Class.{one_of, is_name_byte}
use Rattle.text.proofs.Laws.{same_refl}
use Rattle.names.specs.Codes.{is_plain, is_pair, before, read}
use Rattle.names.specs.Names.{is_markless, composed, composed_codes, is_some, has_name_shape, is_name, is_form, is_composed_name, is_sized, first, last}
use Rattle.names.proofs.Reading.{plain_range, reading, reads_written, paired, read_plain, read_none}
use Rattle.names.proofs.Composing.{no_mark_lem, markless_composed}

abbrev pub is_ascii : Bytes → Bool
is_ascii s = all (λ b. ltb b 128) s

-- Document 01's rule: "1 to 64 bytes, none below 32, not 127, none of `[ ] | < > : # { } _ "`. It does not begin with `!`, `~`, `+` or
-- a blank and does not end with a blank."
unfoldable pub is_name_before : Bytes → Bool
is_name_before s = is_sized s && all is_name_byte s && not (one_of "!~+" (first s)) && not (is_blank (first s)) && not (is_blank (last s))

-- A text of plain code points.
plain_read : (s : Bytes) → all is_plain s ≡ true → read s ≡ Some s
unfolding all read
plain_read [] h = refl
plain_read (a ∷ s) h =
    let e = (and-eq-true_iff (is_plain a) (all is_plain s)).0 h in
    read_plain a s e.0 ∙ ap (before a) (plain_read s e.1)

plain_markless : (s : Bytes) → all is_plain s ≡ true → is_markless s ≡ true
unfolding all
plain_markless [] h = refl
plain_markless (a ∷ s) h =
    let e = (and-eq-true_iff (is_plain a) (all is_plain s)).0 h in
    rw (no_mark_lem a (λ x y. omega (arith, plain_range a e.0))) (plain_markless s e.1)

pub plain_composed : (s : Bytes) → all is_plain s ≡ true → composed s ≡ Some s
unfolding composed
plain_composed s h =
    let m = plain_markless s h in
    let r = plain_read s h in
    ap composed_codes r ∙ rw (markless_composed s m, m, reads_written (reading s s r))

unread : (s : Bytes) → read s ≡ None → composed s ≡ None
unfolding composed
unread s h = rw h

-- A byte below 128 is a code point of names where it is a byte of names.
ascii_plain : (b : ℕ) → b < 128 → is_plain b ≡ is_name_byte b
unfolding is_plain is_name_byte
ascii_plain b l = go (leb 32 b) (eqb b 127) refl refl
  where
    marks : Bool
    marks = not (one_of "[]|<>:#{}_\"" b)

    go : (p q : Bool) → leb 32 b ≡ p → eqb b 127 ≡ q → (p && leb b 126 && (p && not q && marks)) ≡ (p && not q && marks)
    go true true e f = rw (and-false (leb b 126))
    go true false e f = rw (le-leb b 126 (omega (arith, eqb-false b 127 f)))
    go false q e f = refl

no_pair : (a b : ℕ) → a < 128 → is_pair a b ≡ false
no_pair a b l = go (is_pair a b) refl
  where
    go : (p : Bool) → is_pair a b ≡ p → p ≡ false
    go true h = absurd (omega (arith, (paired a b h).lead))
    go false h = refl

ascii_bytes : (s : Bytes) → is_ascii s ≡ true → all is_plain s ≡ all is_name_byte s
unfolding all
ascii_bytes [] h = refl
ascii_bytes (a ∷ s) h =
    let e = (and-eq-true_iff (ltb a 128) (is_ascii s)).0 h in
    rw (ascii_plain a (ltb-true a 128 e.0), ascii_bytes s e.1)

ascii_none : (s : Bytes) → is_ascii s ≡ true → all is_plain s ≡ false → read s ≡ None
unfolding all
ascii_none [] h k = absurd (false≢true (sym k))
ascii_none (a ∷ s) h k =
    let e = (and-eq-true_iff (ltb a 128) (is_ascii s)).0 h in
    go (is_plain a) refl (ltb-true a 128 e.0) k (ascii_none s e.1)
  where
    go : (p : Bool) → is_plain a ≡ p → a < 128 → (p && all is_plain s) ≡ false → (all is_plain s ≡ false → read s ≡ None) → read (a ∷ s) ≡ None
    go true e l k ih = read_plain a s e ∙ ap (before a) (ih k)
    go false e l k ih = read_none a s e (no_pair a (get_or s 0 0) l)

-- It composes where all its bytes are bytes of names, to itself.
pub ascii_composed : (s : Bytes) → is_ascii s ≡ true → composed s ≡ cond (all is_name_byte s) (Some s) None
ascii_composed s h = rw (← ascii_bytes s h) (go (all is_plain s) refl)
  where
    go : (p : Bool) → all is_plain s ≡ p → composed s ≡ cond p (Some s) None
    go true e = plain_composed s e
    go false e = unread s (ascii_none s h e)

sorted : (z n o p q : Bool) → ((z && o && p && q) && n) ≡ (z && n && o && p && q)
sorted true true o p q = and-true (o && p && q)
sorted true false o p q = and-false (o && p && q)
sorted false n o p q = refl

pub ascii_name : (s : Bytes) → is_ascii s ≡ true → is_name s ≡ is_name_before s
unfolding is_name has_name_shape is_name_before
ascii_name s h =
    ap (λ (c : Option Bytes). has_name_shape s && is_some c) (ascii_composed s h)
    ∙ ap (λ (b : Bool). has_name_shape s && b) (go (all is_name_byte s))
    ∙ sorted (is_sized s) (all is_name_byte s) (not (one_of "!~+" (first s))) (not (is_blank (first s))) (not (is_blank (last s)))
  where
    go : (p : Bool) → is_some (cond p (Some s) None) ≡ p
    go true = refl
    go false = refl

pub ascii_composed_name : (s : Bytes) → is_ascii s ≡ true → is_composed_name s ≡ (has_name_shape s && all is_plain s)
unfolding is_composed_name is_name
ascii_composed_name s h = rw (ascii_composed s h, ← ascii_bytes s h) (go (all is_plain s))
  where
    go : (p : Bool) → (has_name_shape s && is_some (cond p (Some s) None) && is_form s (cond p (Some s) None)) ≡ (has_name_shape s && p)
    go true = rw (same_refl s) (and-true (has_name_shape s && true))
    go false = and-false (has_name_shape s && false) ∙ sym (and-false (has_name_shape s))
