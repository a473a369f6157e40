-- Laws of words, heads and pieces by their places, and the ways through the functions.
use Rattle.std.specs.Prelude.{Option, Some, None}
use Rattle.std.specs.Option.{is_some}
use Prim.Native.Nat.{ℕ, zero, suc, ◌+◌, ◌-◌, ◌≤◌, ◌<◌}
use mathlib.Core.Path.{◌≡◌, refl, ap, sym, ◌∙◌}
use mathlib.Core.Bool.{Bool, true, false, cond, not, ◌&&◌, ◌||◌, false≢true}
use mathlib.Core.List.{List, [], ◌∷◌}
use native.Mathlib.Omega.{arith}
use native.Mathlib.Numerals.{add-one}
use lib.Dec.{eqb}
use lib.ListN.{length, take, drop, length-take, length-drop, drop_of_length-le}
use lib.Seq.{drop-drop, drop-cons, take-take, take-nil}
use Rattle.std.specs.Bool.{then_some}
use Rattle.text.specs.Bytes.{Bytes, bytes, same, is_blank, span, starts, after, trim, part}
use Rattle.text.specs.Class.{is_free, is_other}
use Rattle.text.specs.Parts.{part_of, Within, Trimmed}
use Rattle.text.specs.declared.Span.{Span}
use Rattle.text.proofs.Laws.{starts_fits}
use Rattle.names.specs.Names.{is_name, is_namespace}
use Rattle.values.specs.Names.{Reference, reference, qualified, bare, is_reference}
use Rattle.values.specs.Values.{map_option}
use Rattle.values.specs.Answers.{reference_at, split_of, Splits}
use Rattle.values.specs.declared.Split.{Split}
use Rattle.language.specs.Answer.{only_if}
use Rattle.language.specs.Comparators.{word, typed, first_typed, is_equal}
use Rattle.language.specs.Surface.{single, chain, Identifiers}
use Rattle.language.specs.RawQuery.{token, next_term, comparator, piece_at, ends_head, head_length, split_dots, trim_names}
use Rattle.language.specs.QueryText.{is_category, is_category_of, article_of, is_namespace_piece, is_plus_of, namespace_of, breaks_reference, identifier_of}
use Rattle.language.specs.declared.SurfaceComparator.{SurfaceComparator}
use Rattle.language.proofs.AllComparators.{typed_fits}
use Rattle.query_text_pieces.specs.Places.{from, text_at, rest_of, inner_end, head_at, head_of, last_of, piece_of, moved, SplitsAt, category_told, read_told}
use Rattle.query_text_pieces.specs.declared.Placed.{Placed}
use Rattle.query_text_pieces.specs.declared.Read.{Read}

-- A part of a part.
pub drop_take : {A : Type 0} (m n : ℕ) (l : List A) → drop m (take n l) ≡ take (n - m) (drop m l)
drop_take zero n l = let e : n ≡ n - 0 = omega arith in ap (λ k. take k l) e
drop_take (suc m) zero l = let e : 0 ≡ 0 - suc m = omega arith in ap (λ k. take k (drop (suc m) l)) e
drop_take (suc m) (suc n) [] = sym (take-nil (suc n - suc m))
drop_take (suc m) (suc n) (x ∷ l) = let e : n - m ≡ suc n - suc m = omega arith in drop_take m n l ∙ ap (λ k. take k (drop m l)) e

pub part_part : (s : Bytes) (start len a n : ℕ) → a + n ≤ length (part s start len) → part (part s start len) a n ≡ part s (start + a) n
part_part s start len a n h =
    ap (take n) (drop_take a len (drop start s))
    ∙ take-take n (len - a) (drop a (drop start s)) (omega (arith, length-take len (drop start s)))
    ∙ ap (take n) (drop-drop a start s)

pub part_fits : (s : Bytes) (start len a n : ℕ) → a + n ≤ length (part s start len) → a ≤ length s - start
part_fits s start len a n h = omega (arith, length-take len (drop start s), length-drop start s)

-- Words.
module _ (s w : Bytes) (at : ℕ) where
  module _ (t : Bool) (e : t ≡ starts w (drop at s)) where
    pub after_yes : t ≡ true → rest_of s (Some (at + length w)) ≡ after w (from s at)
    unfolding after from rest_of
    after_yes h = rw (← e, h, drop-drop)

    pub after_no : t ≡ false → rest_of s None ≡ after w (from s at)
    unfolding after from rest_of
    after_no h = rw (← e, h)

    pub after_ends : t ≡ true → length w ≤ length s - at
    after_ends h = omega (arith, starts_fits w (drop at s) (sym e ∙ h), length-drop at s)

  pub token_is : (r : Option ℕ) (i : ℕ) → i ≡ at + span is_blank (drop at s) → rest_of s r ≡ after w (from s i) → rest_of s r ≡ token w (from s at)
  unfolding token from
  token_is r i e h = h ∙ ap (after w) (ap (λ n. drop n s) e ∙ sym (drop-drop (span is_blank (drop at s)) at s))

module _ (s : Bytes) (at i : ℕ) (a : Option ℕ) (p : rest_of s a ≡ token (bytes "AND") (from s at)) where
  pub next_and : a ≡ Some i → rest_of s (Some i) ≡ next_term (from s at)
  unfolding next_term rest_of
  next_and g = rw (← p, g)

  module _ (g : a ≡ None) where
    pub next_bracket : (b : Option ℕ) → rest_of s b ≡ token (bytes "[[") (from s at) → is_some b ≡ true → rest_of s (Some at) ≡ next_term (from s at)
    unfolding next_term rest_of
    next_bracket (Some i) q h = rw (← p, g, ← q)
    next_bracket None q h = absurd (false≢true h)

    pub next_group : (b c : Option ℕ) → rest_of s b ≡ token (bytes "[[") (from s at) → is_some b ≡ false → rest_of s c ≡ token (bytes "<q>") (from s at) → rest_of s (cond (is_some c) (Some at) None) ≡ next_term (from s at)
    unfolding next_term rest_of
    next_group (Some i) c q h r = absurd (false≢true (sym h))
    next_group None (Some i) q h r = rw (← p, g, ← q, ← r)
    next_group None None q h r = rw (← p, g, ← q, ← r)

module _ (s : Bytes) (at : ℕ) (a : Option ℕ) (p : rest_of s a ≡ token (bytes "</q>") (from s at)) where
  pub inner_yes : (i k : ℕ) → a ≡ Some i → k ≡ i + span is_blank (drop i s) → rest_of s (Some k) ≡ inner_end (from s at)
  unfolding inner_end rest_of from
  inner_yes i k g e = rw (← p, g, e, drop-drop)

  pub inner_no : a ≡ None → rest_of s None ≡ inner_end (from s at)
  unfolding inner_end rest_of
  inner_no g = rw (← p, g)

pub ruleset ways = (token_is, inner_yes, inner_no, next_and, next_bracket, next_group)

-- A piece.
module _ (s : Bytes) (i n : ℕ) (c : SurfaceComparator) (e : c ≡ first_typed typed (drop i s)) (f : n ≡ length (word c)) where
  pub comparator_ends : n ≤ length s - i
  comparator_ends = omega (arith, f, ap (λ c. length (word c)) e, typed_fits typed (drop i s), length-drop i s)

  comparator_is : comparator (drop i s) ≡ (c, drop (i + n) s)
  unfolding comparator
  comparator_is = rw (← e, ← f, drop-drop)

  pub piece_is : (at end : ℕ) (t : Span) → i ≡ at + span is_blank (drop at s) → end ≡ i + n + span is_free (drop (i + n) s) → Trimmed s (i + n) (end - (i + n)) t → piece_at (from s at) ≡ (piece_of s (record { comparator = c; text = t }), from s end)
  unfolding piece_at from
  piece_is at end t p q h =
      let k : end - (i + n) ≡ span is_free (drop (i + n) s) = omega arith in
      rw (drop-drop (span is_blank (drop at s)) at s, ← p, comparator_is, h.is, k, q, drop-drop)

-- The `::` of a property body.
head_colon : (s : Bytes) → starts (bytes "::") s ≡ true → head_length s ≡ Some 0
unfolding head_length starts
head_colon [] h = absurd (false≢true h)
head_colon (b ∷ s) h = rw (h, head_length)

head_stops : (s : Bytes) → starts (bytes "::") s ≡ false → ends_head s ≡ true → head_length s ≡ None
unfolding head_length
head_stops [] h e = refl
head_stops (b ∷ s) h e = rw (h, head_length) (rw e)

head_goes : (b : ℕ) (s : Bytes) → starts (bytes "::") (b ∷ s) ≡ false → ends_head (b ∷ s) ≡ false → head_length (b ∷ s) ≡ map_option suc (head_length s)
unfolding head_length
head_goes b s h e = rw (h, head_length) (rw e)

-- The same for its place.
module _ (s : Bytes) (i : ℕ) where
  module _ (w : Bool) (p : w ≡ starts (bytes "::") (drop i s)) where
    pub head_here : w ≡ true → Some i ≡ head_at s i
    unfolding head_at from
    head_here h = rw (head_colon (drop i s) (sym p ∙ h)) (ap Some (omega arith))

    module _ (e : Bool) (q : e ≡ ends_head (from s i)) (n : w ≡ false) where
      pub head_none : e ≡ true → None ≡ head_at s i
      unfolding head_at from
      head_none h = rw (head_stops (drop i s) (sym p ∙ n) (sym q ∙ h))

      pub head_step : i < length s → e ≡ false → head_at s i ≡ head_at s (i + 1)
      unfolding head_at from
      head_step l h =
          let k = drop-cons s i 0 l in
          rw (k, head_goes _ _ (rw k at (sym p ∙ n)) (rw k at (sym q ∙ h)), add-one) (moved (head_length (drop (suc i) s)))
        where
          moved : (o : Option ℕ) → map_option (λ k. i + k) (map_option suc o) ≡ map_option (λ k. suc i + k) o
          moved None = refl
          moved (Some k) = ap Some (omega arith)

  pub head_over : length s ≤ i → None ≡ head_at s i
  unfolding head_at from head_length
  head_over h = rw (drop_of_length-le s h)

-- The names of a head.
split_last : (h : Bytes) → length h ≤ span (is_other 46) h → split_dots h ≡ single h
unfolding split_dots span
split_last [] l = refl
split_last (b ∷ s) l = go (eqb b 46) refl (split_last s)
  where
    go : (t : Bool) → eqb b 46 ≡ t → (length s ≤ span (is_other 46) s → split_dots s ≡ single s) → split_dots (b ∷ s) ≡ single (b ∷ s)
    go true e ih = absurd (let k : suc (length s) ≤ 0 = rw (e, span) at l in omega arith)
    go false e ih = rw (e, ih (let k : suc (length s) ≤ suc (span (is_other 46) s) = rw (e, span) at l in omega arith))

split_dot : (h : Bytes) → span (is_other 46) h < length h → split_dots h ≡ chain (take (span (is_other 46) h) h) (split_dots (drop (suc (span (is_other 46) h)) h))
unfolding split_dots span
split_dot [] l = absurd (omega arith)
split_dot (b ∷ s) l = go (eqb b 46) refl (split_dot s)
  where
    go : (t : Bool) → eqb b 46 ≡ t → (span (is_other 46) s < length s → split_dots s ≡ chain (take (span (is_other 46) s) s) (split_dots (drop (suc (span (is_other 46) s)) s)))
        → split_dots (b ∷ s) ≡ chain (take (span (is_other 46) (b ∷ s)) (b ∷ s)) (split_dots (drop (span (is_other 46) (b ∷ s)) s))
    go true e ih = rw (e, span)
    go false e ih = rw (e, span, ih (let k : suc (span (is_other 46) s) < suc (length s) = rw (e, span) at l in omega arith))

module _ (s h : Bytes) (at len i : ℕ) (p : h ≡ part s at len) (q : i ≡ 0 + span (is_other 46) h) where
  dot : span (is_other 46) (part s at len) ≡ i
  dot = ap (span (is_other 46)) (sym p) ∙ omega arith

  pub head_last : length h ≤ i → head_of s at len ≡ single (trim (part s at len))
  unfolding head_of trim_names
  head_last l = rw (split_last (part s at len) (rw (dot, ← p) l))

  pub dot_fits : i < length h → (i < len) × (at + i < length s)
  dot_fits l = omega (arith, ap length p, length-take len (drop at s), length-drop at s)

  pub head_dot : i < length h → head_of s at len ≡ chain (trim (part s at i)) (head_of s (at + i + 1) (len - i - 1))
  unfolding head_of trim_names
  head_dot l =
      let f = dot_fits l in
      let k : len - suc i ≡ len - i - 1 = omega arith in
      let m : at + suc i ≡ at + i + 1 = omega arith in
      rw (split_dot (part s at len) (rw (dot, ← p) l), dot, take-take i len (drop at s) (omega arith), drop_take (suc i) len (drop at s), k, drop-drop (suc i) at s, m)

pub last_is : (s h : Bytes) (at len i : ℕ) (r : Span) → h ≡ part s at len → i ≡ 0 + span (is_other 46) h → length h ≤ i → Trimmed s at len r → text_at s r ≡ last_of (head_of s at len)
unfolding last_of text_at
last_is s h at len i r p q l t = t.is ∙ sym (ap last_of (head_last s h at len i p q l))

pub last_on : (s h : Bytes) (at len i : ℕ) (r : Span) → h ≡ part s at len → i ≡ 0 + span (is_other 46) h → i < length h → text_at s r ≡ last_of (head_of s (at + i + 1) (len - i - 1)) → text_at s r ≡ last_of (head_of s at len)
unfolding last_of
last_on s h at len i r p q l e = e ∙ sym (ap last_of (head_dot s h at len i p q l))

-- References by their places.
module _ (s t : Bytes) (text : Span) (r : Split) (e : t ≡ part_of s text) (h : Splits t r) where
  moved_part : (p : Span) → Within t p → part_of s (moved text.start p) ≡ part_of t p
  moved_part p w = let u = rw e at w in rw e (sym (part_part s text.start text.len p.start p.len u))

  ends_by : (p : Span) → Within t p → text.start + p.start + p.len ≤ text.start + length (part_of s text)
  ends_by p w = let u = rw e at w in omega (arith, u)

  split_is : (o : Option Span) → r.namespace ≡ o → reference_at t o r.article ≡ reference (part_of s text)
  split_is o q = rw (← q, ← e) h.is

  pub split_qualified : (n : Span) → r.namespace ≡ Some n → SplitsAt s text (record { namespace = Some (moved text.start n); article = moved text.start r.article })
  split_qualified n q =
      let w : Within t n = rw q at h.namespace in
      record { is = rw (moved_part n w, moved_part r.article h.article) (split_is (Some n) q); namespace = ends_by n w; article = ends_by r.article h.article }

  pub split_bare : r.namespace ≡ None → SplitsAt s text (record { namespace = None; article = moved text.start r.article })
  split_bare q = record { is = rw (moved_part r.article h.article) (split_is None q); namespace = tt; article = ends_by r.article h.article }

module _ (s : Bytes) (p : Placed) (r : Split) (e : split_of s r ≡ reference (part_of s p.text)) where
  split_as : (o : Option Span) → r.namespace ≡ o → reference (part_of s p.text) ≡ reference_at s o r.article
  split_as o q = sym e ∙ ap (λ (o : Option Span). reference_at s o r.article) q

  -- The category name that an answer is to tell.
  abbrev Category : Option Span → Type 0
  Category x = category_told s x ≡ only_if (is_category (piece_of s p)) (Some (article_of (reference (part_of s p.text))))

  pub category_bare : r.namespace ≡ None → Category None
  unfolding category_told
  category_bare q = rw (split_as None q) (go (is_equal p.comparator))
    where
      go : (b : Bool) → None ≡ only_if (b && false) (Some (part_of s r.article))
      go true = refl
      go false = refl

  module _ (n : Span) (q : r.namespace ≡ Some n) (b m : Bool) (f : b ≡ is_equal p.comparator) (y : Bytes) (k : y ≡ part_of s n) (g : m ≡ same y (bytes "Category")) where
    pub category_yes : (b && m) ≡ true → Category (Some r.article)
    unfolding category_told
    category_yes h = rw (split_as (Some n) q, ← f, ← k, ← g, h) refl

    pub category_no : (b && m) ≡ false → Category None
    unfolding category_told
    category_no h = rw (split_as (Some n) q, ← f, ← k, ← g, h) refl

  -- What an answer is to tell of a piece.
  abbrev Reads : Option Read → Type 0
  Reads x = read_told s x ≡ only_if (not (breaks_reference (piece_of s p))) (Some (identifier_of (piece_of s p)))

  -- A reference that keeps the rule, or none.
  abbrev reference_if : Bool → Option Read
  reference_if fit = then_some fit (Read.Reference p.comparator p.text)

  module _ (y : Bytes) (k : y ≡ part_of s r.article) (u : Bool) (v : u ≡ is_name y) where
    pub reads_bare : r.namespace ≡ None → (x : Option Read) → x ≡ reference_if u → Reads x
    unfolding read_told
    reads_bare q x i = rw (i, split_as None q, ← k, ← v) (go (is_equal p.comparator) u)
      where
        go : (b u : Bool) → read_told s (reference_if u) ≡ only_if (not (cond (b && false) (not (is_namespace [])) (not u))) (Some (cond (b && false) (Identifiers.namespace []) (Identifiers.reference p.comparator (bare y))))
        go true true = ap (λ (z : Reference). Some (Identifiers.reference p.comparator z)) (rw k (split_as None q))
        go true false = refl
        go false true = ap (λ (z : Reference). Some (Identifiers.reference p.comparator z)) (rw k (split_as None q))
        go false false = refl

    module _ (n : Span) (q : r.namespace ≡ Some n) (b m w : Bool) (f : b ≡ is_equal p.comparator) (g : m ≡ same y (bytes "+")) (z : Bytes) (i : z ≡ part_of s n) (j : w ≡ is_namespace z) where
      pub reads_namespace : (b && m) ≡ true → (x : Option Read) → x ≡ then_some w (Read.Namespace n) → Reads x
      unfolding read_told
      reads_namespace h x o = rw (o, split_as (Some n) q, ← f, ← k, ← g, h, ← i, ← j) (go w)
        where
          go : (w : Bool) → read_told s (then_some w (Read.Namespace n)) ≡ only_if (not (not w)) (Some (Identifiers.namespace z))
          go true = ap (λ (z : Bytes). Some (Identifiers.namespace z)) (sym i)
          go false = refl

      pub reads_reference : (b && m) ≡ false → (x : Option Read) → x ≡ reference_if (w && u) → Reads x
      unfolding read_told
      reads_reference h x o = rw (o, split_as (Some n) q, ← f, ← k, ← g, h, ← i, ← j, ← v) (go (w && u))
        where
          go : (t : Bool) → read_told s (reference_if t) ≡ only_if (not (not t)) (Some (Identifiers.reference p.comparator (qualified z y)))
          go true = ap (λ (z : Reference). Some (Identifiers.reference p.comparator z)) (rw (i, k) (split_as (Some n) q))
          go false = refl
