-- The rows of a text with their names composed: as they are where all bytes are ASCII, or copied.
use Prim.Native.Nat.{ℕ, zero, suc, ◌+◌, ◌*◌, ◌≤◌, ◌<◌}
use mathlib.Core.Path.{◌≡◌, refl, sym, ap, ◌∙◌, subst}
use mathlib.Core.Bool.{Bool, true, false, ◌&&◌, and-eq-true_iff, and_assoc, and-true}
use mathlib.Core.List.{List, [], ◌∷◌}
use native.Mathlib.Numerals.{add-one}
use native.Mathlib.Omega.{arith}
use lib.Dec.{ltb}
use lib.ListN.{length, get_or, take, drop, replicate, length-replicate, drop_of_length-le}
use lib.Seq.{drop-cons}
use Rattle.text.specs.Bytes.{Bytes, all, part}
use Rattle.text.proofs.Tables.{tabulate_ext}
use Rattle.names.specs.Names.{composed_name}
use Rattle.names.proofs.Ascii.{is_ascii}
use Rattle.names.proofs.Composed.{ascii_fixed}
use Rattle.values.specs.declared.Kind.{Kind}
use Rattle.language.specs.RegisterText.{Entry, prop, page, cat, val, close, line, composed_entry, composed_entries}
use Rattle.language.specs.Rules.{total}
use Rattle.language.proofs.Options.{OnSome}
use Rattle.language.proofs.Entries.{weight, entries_weigh}
use Rattle.buffer.proofs.Parts.{map_tabulate}
use Rattle.register_text_entries.specs.Items.{entry_by}
use Rattle.register_text_entries.specs.Table.{tag_from, kind_of_code, entry_from, entry_at, entries_in}
use Rattle.register_text_entries.specs.Composing.{room, Composes}
use Rattle.register_text_entries.specs.declared.Tag.{Tag}
use Rattle.register_text_verdict.specs.Checks.{RowsRead, Typed, Prepared}

-- A part of ASCII is ASCII.
ascii_take : (n : ℕ) (s : Bytes) → is_ascii s ≡ true → is_ascii (take n s) ≡ true
unfolding all
ascii_take zero s h = refl
ascii_take (suc n) [] h = refl
ascii_take (suc n) (b ∷ s) h = let e = (and-eq-true_iff (ltb b 128) (is_ascii s)).0 h in rw e.0 (ascii_take n s e.1)

ascii_drop : (n : ℕ) (s : Bytes) → is_ascii s ≡ true → is_ascii (drop n s) ≡ true
unfolding all
ascii_drop zero s h = h
ascii_drop (suc n) [] h = refl
ascii_drop (suc n) (b ∷ s) h = ascii_drop n s ((and-eq-true_iff (ltb b 128) (is_ascii s)).0 h).1

part_fixed : (s : Bytes) (at n : ℕ) → is_ascii s ≡ true → composed_name (part s at n) ≡ part s at n
part_fixed s at n h = ascii_fixed (part s at n) (ascii_take n (drop at s) (ascii_drop at s h))

entry_fixed : (t : Tag) (k : Kind) (a b : Bytes) → composed_name a ≡ a → composed_name b ≡ b → composed_entry (entry_by t k a b) ≡ entry_by t k a b
entry_fixed Tag.Prop k a b e f = rw e
entry_fixed Tag.Page k a b e f = rw (e, f)
entry_fixed Tag.Cat k a b e f = rw e
entry_fixed Tag.Val k a b e f = rw e
entry_fixed Tag.Close k a b e f = refl

row_fixed : (s : Bytes) (t : List ℕ) (i : ℕ) → is_ascii s ≡ true → composed_entry (entry_at s t i) ≡ entry_at s t i
unfolding entry_at entry_from
row_fixed s t i h =
    entry_fixed (tag_from (get_or t (5 * i) 0)) (kind_of_code (get_or t (5 * i) 0)) _ _
    (part_fixed s (get_or t (5 * i + 1) 0) (get_or t (5 * i + 2) 0) h)
    (part_fixed s (get_or t (5 * i + 3) 0) (get_or t (5 * i + 4) 0) h)

rows_fixed : (s : Bytes) (t : List ℕ) (n : ℕ) → is_ascii s ≡ true → entries_in s t n ≡ composed_entries (entries_in s t n)
unfolding entries_in composed_entries
rows_fixed s t n h = sym (map_tabulate composed_entry n (entry_at s t) ∙ tabulate_ext n (λ i. composed_entry (entry_at s t i)) (entry_at s t) (λ i l. row_fixed s t i h))

pub ascii_prepared : (s : Bytes) (t : List ℕ) (n : ℕ) → Typed s t n → is_ascii s ≡ true → Prepared s s t n
ascii_prepared s t n y h = record { typed = entries_in s t n; short = y.short; read = y.read; ruled = y.ruled; rows = rows_fixed s t n h; few = y.few }

-- A copy has room in as many bytes as the text has.
room_weight : (e : Entry) → room e ≤ weight e
room_weight (prop x k) = omega arith
room_weight (page n x) = omega arith
room_weight (cat x) = omega arith
room_weight (val x v) = omega arith
room_weight close = omega arith

rooms_weigh : (l : List Entry) → total room l ≤ total weight l
unfolding total
rooms_weigh [] = omega arith
rooms_weigh (e ∷ l) = omega (arith, room_weight e, rooms_weigh l)

pub composed_prepared : (s : Bytes) (t : List ℕ) (n : ℕ) (c : Bytes) (u : List ℕ) (p : Bool) → RowsRead s t n → Composes s t n (replicate 32768 0) (replicate 27500 0) c u p → p ≡ false → Prepared s c u n
composed_prepared s t n c u p y k h =
    let ruled = sym k.broken ∙ h in
    let w : total weight (entries_in s t n) ≤ length s = subst (OnSome (λ l. total weight l ≤ length s)) y.read (entries_weigh line s) in
    let fits = k.rows ruled (omega (arith, w, y.short, rooms_weigh (entries_in s t n), length-replicate {A = ℕ} 32768 0)) (omega (arith, length-replicate {A = ℕ} 32768 0)) (omega (arith, y.few, length-replicate {A = ℕ} 27500 0)) in
    record { typed = entries_in s t n; short = y.short; read = y.read; ruled = ruled; rows = fits; few = y.few }

-- A test of all bytes, up to a place.
module _ (s : Bytes) where
  abbrev pub Testing : Bool → ℕ → Type 0
  Testing ok i = (ok && is_ascii (drop i s)) ≡ is_ascii s

  pub ascii_none : Testing true 0
  ascii_none = refl

  pub ascii_more : (ok : Bool) (i : ℕ) → i < length s → Testing ok i → Testing (ok && ltb (get_or s i 0) 128) (i + 1)
  unfolding all
  ascii_more ok i l h =
      and_assoc ok (ltb (get_or s i 0) 128) (is_ascii (drop (i + 1) s))
      ∙ ap (λ (x : Bool). ok && x) (let q : (ltb (get_or s i 0) 128 && is_ascii (drop (i + 1) s)) ≡ is_ascii (drop i s) = rw (add-one i, drop-cons s i 0 l) in q)
      ∙ h

  pub ascii_all : (ok : Bool) (i : ℕ) → length s ≤ i → Testing ok i → ok ≡ is_ascii s
  unfolding all
  ascii_all ok i l h = sym (and-true ok) ∙ ap (λ (x : Bool). ok && x) (let q : true ≡ is_ascii (drop i s) = rw (drop_of_length-le s l) in q) ∙ h
