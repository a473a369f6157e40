-- The shortest spelling: it is no longer than the text that was read, but for booleans, and a link keeps the rule for values at it.
use Rattle.std.specs.Prelude.{Option, Some, None}
use Prim.Native.Nat.{ℕ, zero, suc, ◌+◌, ◌-◌, ◌*◌, ◌/◌, ◌%◌, ◌^◌, ◌≤◌, ◌<◌}
use mathlib.Core.Path.{◌≡◌, refl, ap, ap₂, sym, ◌∙◌, subst}
use mathlib.Core.List.{[], ◌∷◌, ◌++◌}
use mathlib.Core.Bool.{Bool, true, false, cond, not, ◌&&◌, ◌||◌, true≢false, and-eq-true_iff, and-true}
use native.Mathlib.Omega.{arith}
use native.Mathlib.Nat.{pow-succ', zero-add, div-lt_iff_lt-mul}
use lib.Dec.{leb, ltb, eqb}
use lib.IntN.{ℤ, pos, neg_ℤ}
use lib.ListN.{length, get_or, take, drop, length-append, length-take, length-drop, get_or-append}
use lib.Seq.{get_or-append-add}
use borrow.Author.Tests.{leb-true, ltb-true, lt-ltb, le-leb, not-true}
use Rattle.text.specs.Bytes.{Bytes, bytes, same, any, all, is_blank, span, trim}
use Rattle.text.specs.Class.{one_of, is_digit, is_name_byte, is_value_byte, is_other}
use Rattle.text.proofs.Laws.{any_append, all_append}
use Rattle.text.proofs.Trim.{trim_le}
use Rattle.names.specs.Names.{composed_name, first, last, is_name, is_namespace, is_composed_name, is_composed_namespace}
use Rattle.names.proofs.Composed.{name_keeps, composed_le, composed_is_name, composed_is_namespace, composed_typed, namespace_typed, composed_fixed, namespace_fixed}
use Rattle.values.specs.Names.{is_value, Reference, bare, qualified, reference, is_reference, composed_reference, is_composed_reference, Identifier, identifier}
use Rattle.values.specs.Values.{scalar, string, Value, plain, link, map_option, decimal, read_digits, read_fraction, in_thousandths, read_thousandths, read_number, read_boolean, read_link, read_scalar, read_constant, read_value}
use Rattle.values.specs.Spelling.{digits_within, digits, spell_fraction, spell_thousandths, spell_number, spell_boolean, spell_identifier}
use Rattle.values.specs.declared.Kind.{Kind}
use Rattle.values.specs.declared.Scalar.{Scalar}
use Rattle.values.proofs.Decimal.{decimal_lt, decimal_short, fraction_small}
use Rattle.values.proofs.Digits.{fraction_empty, fraction_most, tenths_most, hundredths_most, thousandths_long}

-- What was read where a test had to pass, and what was read through a function.
passed : {A : Type 0} (t : Bool) (a b : A) → cond t (Some a) None ≡ Some b → (t ≡ true) × (a ≡ b)
passed true a b h = (refl, cc)
passed false a b h = absurd (let l : ◌≡◌ {A = ℕ} 0 1 = cc in omega arith)

pub on_mapped : {A B : Type 0} (P : B → Type 0) (f : A → B) (o : Option A) (b : B) → ((a : A) → o ≡ Some a → P (f a)) → map_option f o ≡ Some b → P b
on_mapped P f None b h e = absurd (let l : ◌≡◌ {A = ℕ} 0 1 = cc in omega arith)
on_mapped P f (Some a) b h e = let q : f a ≡ b = cc in subst P q (h a refl)

-- What holds of what a text writes in each kind holds of the value that is read.
module _
    (P : Value → Type 0)
    (s : Bytes)
    (for-link : (i : Identifier) → read_link s ≡ Some i → P (link i))
    (for-scalar : (k : Scalar) (c : ℕ) → read_scalar k s ≡ Some c → P (plain (scalar k c)))
    (for-string : P (plain (string s)))
  where
    pub of_read : (k : Kind) (v : Value) → read_value k s ≡ Some v → P v
    of_read Kind.Page v h = on_mapped P link (read_link s) v for-link h
    of_read (Kind.Scalar k) v h = on_mapped P plain (read_constant (Kind.Scalar k) s) v (λ c. on_mapped (λ c. P (plain c)) (scalar k) (read_scalar k s) c (for-scalar k)) h
    of_read Kind.String v h = let e : plain (string s) ≡ v = cc in subst P e for-string

-- A number below 10^k has no more than k digits, but for 0, which has one.
digits_within_le : (f n k : ℕ) → n < 10 ^ suc k → length (digits_within f n) ≤ suc k
unfolding digits_within
digits_within_le zero n k h = omega arith
digits_within_le (suc f) n zero h = rw (lt-ltb n 10 h, digits_within) (omega arith)
digits_within_le (suc f) n (suc k) h =
    let d : n < 10 ^ suc k * 10 = omega (arith, pow-succ' 10 (suc k)) in
    go (ltb n 10) refl (digits_within_le f (n / 10) k ((div-lt_iff_lt-mul {k = 10} {x = n} {y = 10 ^ suc k} (omega arith)).1 d))
  where
    go : (t : Bool) → ltb n 10 ≡ t → length (digits_within f (n / 10)) ≤ suc k → length (digits_within (suc f) n) ≤ suc (suc k)
    go true e l = rw (e, digits_within) (omega arith)
    go false e l = rw (e, digits_within, length-append) (omega arith)

-- Digits with and without zeros at the front.
pub digits_le : (s : Bytes) (n : ℕ) → read_digits s ≡ Some n → length (digits n) ≤ length s
unfolding read_digits digits
digits_le [] n h = absurd (let l : ◌≡◌ {A = ℕ} 0 1 = cc in omega arith)
digits_le (b ∷ s) n h =
    let fit = leb 1 (length (b ∷ s)) && leb (length (b ∷ s)) 15 in
    let t = passed (fit && all is_digit (b ∷ s)) (decimal 0 (b ∷ s)) n h in
    let d = ((and-eq-true_iff fit (all is_digit (b ∷ s))).0 t.0).1 in
    digits_within_le (suc n) n (length s) (rw (zero-add, t.1) at (decimal_lt (b ∷ s) 0 0 d (omega arith)))

-- Where a test had to pass and what was read is changed.
passed_mapped : (t : Bool) (f : ℕ → ℕ) (o : Option ℕ) (m : ℕ) → cond t (map_option f o) None ≡ Some m → (n : ℕ) × (t ≡ true) × (o ≡ Some n) × (f n ≡ m)
passed_mapped true f None m h = absurd (let l : ◌≡◌ {A = ℕ} 0 1 = cc in omega arith)
passed_mapped true f (Some n) m h = (n, refl, refl, cc)
passed_mapped false f o m h = absurd (let l : ◌≡◌ {A = ℕ} 0 1 = cc in omega arith)

digits_filled : (s : Bytes) (n : ℕ) → read_digits s ≡ Some n → 1 ≤ length s
unfolding read_digits
digits_filled [] n h = absurd (let l : ◌≡◌ {A = ℕ} 0 1 = cc in omega arith)
digits_filled (b ∷ s) n h = omega arith

-- Behind the point no digit is needed that was not typed.
scaled_le : (k n : ℕ) → 1 ≤ k → k ≤ 3 → n < 10 ^ k → length (spell_fraction (n * 10 ^ (3 - k))) ≤ suc k
scaled_le zero n a b h = absurd (omega arith)
scaled_le (suc zero) n a b h = tenths_most (n * 100) (omega arith)
scaled_le (suc (suc zero)) n a b h = hundredths_most (n * 10) (omega arith)
scaled_le (suc (suc (suc zero))) n a b h = fraction_most (n * 1)
scaled_le (suc (suc (suc (suc k)))) n a b h = absurd (omega arith)

fraction_le : (s : Bytes) (m : ℕ) → read_fraction s ≡ Some m → length (spell_fraction m) ≤ length s
unfolding read_fraction
fraction_le [] m h = let q : ◌≡◌ {A = ℕ} 0 m = cc in rw (← q) (omega (arith, fraction_empty 0 refl))
fraction_le (b ∷ s) m h =
    let t = passed_mapped (eqb b 46 && leb (length s) 3) (λ n. n * 10 ^ (3 - length s)) (read_digits s) m h in
    rw (← t.3) (scaled_le (length s) t.0 (digits_filled s t.0 t.2) (leb-true (length s) 3 ((and-eq-true_iff (eqb b 46) (leb (length s) 3)).0 t.1).1) (decimal_short s t.0 t.2))

thousandths_le : (s : Bytes) (n : ℕ) → read_thousandths s ≡ Some n → length (spell_thousandths n) ≤ length s
unfolding read_thousandths
thousandths_le s n h = go (read_digits (take (span is_digit s) s)) (read_fraction (drop (span is_digit s) s)) refl refl h
  where
    go : (a b : Option ℕ) → read_digits (take (span is_digit s) s) ≡ a → read_fraction (drop (span is_digit s) s) ≡ b → in_thousandths a b ≡ Some n → length (spell_thousandths n) ≤ length s
    go None b d e f = absurd (let l : ◌≡◌ {A = ℕ} 0 1 = cc in omega arith)
    go (Some w) None d e f = absurd (let l : ◌≡◌ {A = ℕ} 0 1 = cc in omega arith)
    go (Some w) (Some m) d e f =
        let q : 1000 * w + m ≡ n = cc in
        let small = fraction_small _ m e in
        let whole : n / 1000 ≡ w = omega (arith, q, small) in
        let rest : n % 1000 ≡ m = omega (arith, q, small) in
        omega (
          arith,
          thousandths_long n _ _ refl refl,
          ap (λ (k : ℕ). length (digits k)) whole,
          ap (λ (k : ℕ). length (spell_fraction k)) rest,
          digits_le _ w d,
          fraction_le _ m e,
          length-take (span is_digit s) s,
          length-drop (span is_digit s) s,
        )

pub spelled_number_le : (s : Bytes) (z : ℤ) → read_number s ≡ Some z → length (spell_number z) ≤ length s
unfolding read_number spell_number
spelled_number_le [] z h = absurd (let l : ◌≡◌ {A = ℕ} 0 1 = cc in omega arith)
spelled_number_le (b ∷ s) z h = go (eqb b 45) h
  where
    minus : (n : ℕ) → length (spell_thousandths n) ≤ length s → length (spell_number (neg_ℤ (pos n))) ≤ suc (length s)
    minus zero l = omega arith
    minus (suc n) l = omega arith

    go : (t : Bool) → cond t (map_option (λ n. neg_ℤ (pos n)) (read_thousandths s)) (map_option pos (read_thousandths (b ∷ s))) ≡ Some z → length (spell_number z) ≤ suc (length s)
    go true e = on_mapped (λ z. length (spell_number z) ≤ suc (length s)) (λ n. neg_ℤ (pos n)) (read_thousandths s) z (λ n r. minus n (thousandths_le s n r)) e
    go false e = on_mapped (λ z. length (spell_number z) ≤ suc (length s)) pos (read_thousandths (b ∷ s)) z (thousandths_le (b ∷ s)) e

-- `0` is four bytes shorter than `false`.
pub spelled_boolean_le : (s : Bytes) (b : Bool) → read_boolean s ≡ Some b → length (spell_boolean b) ≤ length s + 4
unfolding read_boolean any same
spelled_boolean_le [] b h = absurd (let l : ◌≡◌ {A = ℕ} 0 1 = cc in omega arith)
spelled_boolean_le (x ∷ s) true h = omega arith
spelled_boolean_le (x ∷ s) false h = omega arith

-- The reference that a link was read from.
pub link_read : (s : Bytes) (i : Identifier) → read_link s ≡ Some i → (is_reference (reference s) ≡ true) × (identifier (composed_reference (reference s)) ≡ i)
unfolding read_link
link_read s i h = passed _ (identifier (composed_reference (reference s))) i h

-- A link has no more bytes than its namespace, a colon and its name.
pub spelled_identifier_le : (i : Identifier) → length (spell_identifier i) ≤ suc (length i.namespace + length i.article)
unfolding spell_identifier
spelled_identifier_le i = go (eqb (length i.namespace) 0)
  where
    go : (t : Bool) → length (cond t i.article (i.namespace ++ (58 ∷ i.article))) ≤ suc (length i.namespace + length i.article)
    go true = omega arith
    go false = omega (arith, length-append i.namespace (58 ∷ i.article))

-- Both sides trimmed and composed.
reference_le : (s : Bytes) → length (spell_identifier (identifier (composed_reference (reference s)))) ≤ length s
unfolding reference spell_identifier
reference_le s = go (ltb (span (is_other 58) s) (length s)) refl
  where
    n : Bytes
    n = trim (take (span (is_other 58) s) s)

    x : Bytes
    x = trim (drop (suc (span (is_other 58) s)) s)

    go : (t : Bool) → ltb (span (is_other 58) s) (length s) ≡ t → length (spell_identifier (identifier (composed_reference (cond t (qualified n x) (bare (trim s)))))) ≤ length s
    go true e =
        omega (
          arith,
          ltb-true (span (is_other 58) s) (length s) e,
          spelled_identifier_le (identifier (qualified (composed_name n) (composed_name x))),
          composed_le n,
          composed_le x,
          trim_le (take (span (is_other 58) s) s),
          length-take (span (is_other 58) s) s,
          trim_le (drop (suc (span (is_other 58) s)) s),
          length-drop (suc (span (is_other 58) s)) s,
        )
    go false e = omega (arith, trim_le s, composed_le (trim s))

pub spelled_link_le : (s : Bytes) (i : Identifier) → read_link s ≡ Some i → length (spell_identifier i) ≤ length s
spelled_link_le s i h = subst (λ i. length (spell_identifier i) ≤ length s) (link_read s i h).1 (reference_le s)

-- The rule for values, from its parts, and its length.
module _ (s : Bytes) (filled : 1 ≤ length s) (short : length s ≤ 64) where
  pub value_made : all is_value_byte s ≡ true → eqb (first s) 126 ≡ false → is_blank (first s) ≡ false → is_blank (last s) ≡ false → is_value s ≡ true
  unfolding is_value
  value_made b t f e = rw (le-leb 1 (length s) filled, le-leb (length s) 64 short, b, t, f, e)

pub value_short : (s : Bytes) → is_value s ≡ true → length s ≤ 64
unfolding is_value
value_short s h =
    let e = (and-eq-true_iff _ (not (is_blank (last s)))).0 h in
    let f = (and-eq-true_iff _ (not (is_blank (first s)))).0 e.0 in
    let t = (and-eq-true_iff _ (not (eqb (first s) 126))).0 f.0 in
    let b = (and-eq-true_iff _ (all is_value_byte s)).0 t.0 in
    leb-true (length s) 64 ((and-eq-true_iff (leb 1 (length s)) (leb (length s) 64)).0 b.0).1

-- A name's bytes may stand in a value.
neither : (a b : Bool) → a || b ≡ false → (a ≡ false) × (b ≡ false)
neither true b h = absurd (true≢false h)
neither false b h = (refl, h)

pub name_byte : (b : ℕ) → is_name_byte b ≡ true → is_value_byte b ≡ true
unfolding is_name_byte is_value_byte
name_byte b h =
    let t = (and-eq-true_iff (leb 32 b && not (eqb b 127)) (not (one_of "[]|<>:#{}_\"" b))).0 h in
    let u : any (eqb b) (bytes "[]|<>" ++ (bytes ":#{}_" ++ bytes "\"")) ≡ false = not-true _ t.1 in
    let v = neither (any (eqb b) (bytes "[]|<>")) _ (sym (any_append (eqb b) (bytes "[]|<>") (bytes ":#{}_" ++ bytes "\"")) ∙ u) in
    let w = neither (any (eqb b) (bytes ":#{}_")) (any (eqb b) (bytes "\"")) (sym (any_append (eqb b) (bytes ":#{}_") (bytes "\"")) ∙ v.1) in
    let n : one_of "[]|<>\"" b ≡ false = any_append (eqb b) (bytes "[]|<>") (bytes "\"") ∙ rw (v.0, w.1) in
    rw (t.0, n)

all_name_bytes : (s : Bytes) → all is_name_byte s ≡ true → all is_value_byte s ≡ true
unfolding all
all_name_bytes [] h = refl
all_name_bytes (b ∷ s) h =
    let t = (and-eq-true_iff (is_name_byte b) (all is_name_byte s)).0 h in rw (name_byte b t.0, all_name_bytes s t.1)

no_tilde : (b : ℕ) → one_of "!~+" b ≡ false → eqb b 126 ≡ false
unfolding any
no_tilde b h = (neither (eqb b 126) _ (neither (eqb b 33) _ h).1).0

pub name_is_value : (s : Bytes) → is_name s ≡ true → is_value s ≡ true
name_is_value s h =
    let n = name_keeps s h in
    value_made s n.filled n.short (all_name_bytes s n.among) (no_tilde (first s) n.unmarked) n.begun n.ended

pub composed_is_value : (s : Bytes) → is_composed_name s ≡ true → is_value s ≡ true
composed_is_value s h = name_is_value s (composed_typed s h)

-- A namespace, a colon and a name.
qualified_is_value : (n x : Bytes) → is_name n ≡ true → is_name x ≡ true → length (n ++ (58 ∷ x)) ≤ 64 → is_value (n ++ (58 ∷ x)) ≡ true
unfolding all any is_value_byte
qualified_is_value n x h k l =
    let a = name_keeps n h in
    let b = name_keeps x k in
    let p = length-append n (58 ∷ x) in
    let f : first (n ++ (58 ∷ x)) ≡ first n = get_or-append n (58 ∷ x) 0 0 a.filled in
    let q : length (n ++ (58 ∷ x)) - 1 ≡ length n + suc (length x - 1) = omega (arith, b.filled) in
    let e : last (n ++ (58 ∷ x)) ≡ last x = ap (λ i. get_or (n ++ (58 ∷ x)) i 0) q ∙ get_or-append-add n (58 ∷ x) (suc (length x - 1)) 0 in
    value_made (n ++ (58 ∷ x)) (omega arith) l
    (all_append is_value_byte n (58 ∷ x) ∙ rw (all_name_bytes n a.among, all_name_bytes x b.among))
    (ap (λ b. eqb b 126) f ∙ no_tilde (first n) a.unmarked)
    (ap is_blank f ∙ a.begun)
    (ap is_blank e ∙ b.ended)

pub spelled_is_value : (i : Identifier) → is_composed_namespace i.namespace && is_composed_name i.article ≡ true → length (spell_identifier i) ≤ 64 → is_value (spell_identifier i) ≡ true
unfolding spell_identifier is_namespace
spelled_is_value i h l =
    let t = (and-eq-true_iff (is_composed_namespace i.namespace) (is_composed_name i.article)).0 h in
    go (eqb (length i.namespace) 0) (namespace_typed i.namespace t.0) (composed_typed i.article t.1) l
  where
    spelled : Bool → Bytes
    spelled t = cond t i.article (i.namespace ++ (58 ∷ i.article))

    go : (t : Bool) → t || is_name i.namespace ≡ true → is_name i.article ≡ true → length (spelled t) ≤ 64 → is_value (spelled t) ≡ true
    go true n x l = name_is_value i.article x
    go false n x l = qualified_is_value i.namespace i.article n x l

-- The parts of a reference that is one keep their rules, composed.
pub reference_keeps : (r : Reference) → is_reference r ≡ true → is_composed_namespace (identifier (composed_reference r)).namespace && is_composed_name (identifier (composed_reference r)).article ≡ true
unfolding is_composed_namespace
reference_keeps (bare x) h = composed_is_name x h
reference_keeps (qualified n x) h =
    let t = (and-eq-true_iff (is_namespace n) (is_name x)).0 h in
    rw (composed_is_name x t.1, and-true) (composed_is_namespace n t.0)

-- A reference that is one, composed; and one that is composed.
pub composed_is_reference : (r : Reference) → is_reference r ≡ true → is_composed_reference (composed_reference r) ≡ true
composed_is_reference (bare x) h = composed_is_name x h
composed_is_reference (qualified n x) h = reference_keeps (qualified n x) h

pub reference_typed : (r : Reference) → is_composed_reference r ≡ true → is_reference r ≡ true
reference_typed (bare x) h = composed_typed x h
reference_typed (qualified n x) h =
    let t = (and-eq-true_iff (is_composed_namespace n) (is_composed_name x)).0 h in
    rw (namespace_typed n t.0, composed_typed x t.1)

pub reference_fixed : (r : Reference) → is_composed_reference r ≡ true → composed_reference r ≡ r
reference_fixed (bare x) h = ap bare (composed_fixed x h)
reference_fixed (qualified n x) h =
    let t = (and-eq-true_iff (is_composed_namespace n) (is_composed_name x)).0 h in
    ap₂ qualified (namespace_fixed n t.0) (composed_fixed x t.1)
