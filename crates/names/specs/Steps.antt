-- Working definitions: the table as the code has it, and one letter of a name after the other.
use Rattle.std.specs.Prelude.{ℕ, suc, ◌+◌, ◌*◌, ◌-◌, ◌%◌, ◌≤◌, ◌<◌, ◌≡◌, Bool, true, false, cond, not, ◌&&◌, ◌||◌, List, [], ◌∷◌, ◌++◌, map, eqb, leb, length, get_or, take, drop, Option, Some, None}
use Rattle.text.specs.Bytes.{Bytes}
use Rattle.text.specs.Table.{tabulate}
use Rattle.names.specs.Table.{Entry, table, composition}
use Rattle.buffer.specs.Writing.{written}
use Rattle.names.specs.Codes.{within, is_mark, is_plain, is_pair, pair_code, encode}
use Rattle.names.specs.Names.{composed, composed_name, is_form, is_name, is_namespace}
use Rattle.names.specs.declared.Letter.{Letter}
use Rattle.names.specs.declared.Lent.{Lent}

unfoldable pub letters : List ℕ
letters = map (λ e. e.letter) table

unfoldable pub marks : List ℕ
marks = map (λ e. e.mark) table

unfoldable pub composed_letters : List ℕ
composed_letters = map (λ e. e.composed) table

-- A number of a letter and a mark; no two entries have the same.
abbrev pub slot : ℕ → ℕ → ℕ
slot l m = (233 * l + m) % 644

-- The place of the first entry with this number, the list's length where there is none.
unfoldable pub place : ℕ → List Entry → ℕ
place k [] = 0
place k (e ∷ t) = elim (eqb (slot e.letter e.mark) k) [ true ↦ 0 | false ↦ suc (place k t) ]

unfoldable pub places : List ℕ
places = tabulate 644 (λ k. place k table)

-- The table as it is lent.
abbrev pub IsTable : List ℕ → List ℕ → List ℕ → List ℕ → Type 0
IsTable p l m c = (p ≡ places) × (l ≡ letters) × (m ≡ marks) × (c ≡ composed_letters)

-- The four arrays that are lent are those of the table.
abbrev pub IsLent : Lent → Type 0
IsLent t = IsTable t.places.now t.letters.now t.marks.now t.codes.now

-- 0 for none.
abbrev pub letter_or0 : Option Entry → ℕ
letter_or0 None = 0
letter_or0 (Some e) = e.composed

unfoldable pub composed_letter : ℕ → ℕ → ℕ
composed_letter l m = letter_or0 (composition l m)

-- The code point of two bytes; 0 where they are no pair.
unfoldable pub pair_of : ℕ → ℕ → ℕ
pair_of a b = cond (is_pair a b) (pair_code a b) 0

-- The letter that two bytes write by themselves; 0 where they write none.
unfoldable pub letter_pair : ℕ → ℕ → ℕ
letter_pair a b = cond (eqb (pair_of a b) 0 || is_mark (pair_of a b)) 0 (pair_of a b)

-- The composed letter that three bytes begin with, and how many of them it has.
abbrev pub letter : ℕ → ℕ → Letter
letter c w = record { code = c; width = w }

abbrev pub plain_letter : ℕ → ℕ → Letter
plain_letter a x = cond (eqb x 0) (letter a 1) (letter x 3)

abbrev pub wide_letter : ℕ → Letter
wide_letter x = cond (eqb x 0 || is_mark x) (letter 0 0) (letter x 2)

unfoldable pub lone_letter : ℕ → ℕ → Letter
lone_letter a b = cond (is_plain a) (letter a 1) (wide_letter (pair_of a b))

unfoldable pub letter_of : ℕ → ℕ → ℕ → Letter
letter_of a b c = cond (is_plain a) (plain_letter a (composed_letter a (pair_of b c))) (wide_letter (pair_of a b))

-- The letter at the front of a text; zeros stand behind its end.
abbrev pub letter_at : Bytes → Letter
letter_at s = letter_of (get_or s 0 0) (get_or s 1 0) (get_or s 2 0)

-- Bytes before a composed form.
abbrev pub prepend : Bytes → Option Bytes → Option Bytes
prepend v None = None
prepend v (Some t) = Some (v ++ t)

-- The first i bytes of a text are composed as they are typed, and the rest by itself.
pub record Front (s : Bytes) (i : ℕ) : Type 0 where
  pub most : i ≤ length s
  pub is : composed s ≡ prepend (take i s) (composed (drop i s))

-- They are all of it exactly where the text is its own composed form.
pub record OwnFront (s : Bytes) (i : ℕ) : Type 0 where
  pub front : Front s i
  pub whole : eqb i (length s) ≡ is_form s (composed s)

-- The first i bytes are code points by themselves; a mark may stand behind the last.
pub record PlainTo (s : Bytes) (i : ℕ) : Type 0 where
  pub most : i ≤ length s
  pub front : Front s (i - 1)
  pub last : 0 < i → is_plain (get_or s (i - 1) 0) ≡ true

-- n more than the length, 0 for none.
abbrev pub length_after : ℕ → Option Bytes → ℕ
length_after n None = 0
length_after n (Some t) = n + length t

-- How long the composed form of a name is; 0 for what is none.
unfoldable pub name_length : Bytes → ℕ
name_length s = cond (is_name s) (length_after 0 (composed s)) 0

-- A letter x that a function answers, where T says that it was lent the table: it is y. Its width, and that it has no more bytes when
-- it is composed, hold without that.
pub record LetterTold (T : Type 0) (x y : Letter) : Type 0 where
  pub most : x.width ≤ 3
  pub shorter : (x.width ≡ 0 → ⊥) → length (encode x.code) ≤ x.width
  pub is : T → x ≡ y

-- What writing the composed form of s over b answers: how long it is, 0 for none. The text itself may then be written in its place.
pub record FormPut (s b : Bytes) (at : ℕ) (c : Bytes) (r : ℕ) : Type 0 where
  pub size : length c ≡ length b
  pub count : r ≡ length_after 0 (composed s)
  pub bytes : (t : Bytes) → composed s ≡ Some t → c ≡ written b at t
  pub over : r ≡ 0 → written c at s ≡ written b at s

-- What judging a name and writing its composed form answers; the empty text stays empty.
pub record NamePut (s b : Bytes) (at : ℕ) (c : Bytes) (r : ℕ) : Type 0 where
  pub size : length c ≡ length b
  pub count : r ≡ name_length s
  pub bytes : is_namespace s ≡ true → c ≡ written b at (composed_name s)

-- The bytes of a composed text: those of one byte, and the first and the second of the two of a letter.
abbrev pub is_lead : ℕ → Bool
is_lead b = within 194 197 b

abbrev pub is_tail : ℕ → Bool
is_tail b = within 128 191 b

unfoldable pub is_letter_byte : ℕ → Bool
is_letter_byte b = is_plain b || is_tail b || is_lead b

-- Whether b may stand behind p: a second byte behind a first one and nowhere else, and none below U+00A0.
unfoldable pub follows : ℕ → ℕ → Bool
follows p b = (is_lead p && is_tail b || not (is_lead p) && not (is_tail b)) && (not (eqb p 194) || leb 160 b)

-- Whether each byte may stand where it does, the first behind p.
unfoldable pub paired_from : ℕ → Bytes → Bool
paired_from p [] = not (is_lead p)
paired_from p (b ∷ s) = follows p b && paired_from b s
