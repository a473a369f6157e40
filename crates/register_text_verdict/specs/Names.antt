-- Working definitions: what rows declare, each in one part of the text. Entries are alike exactly where these parts are equal.
use Rattle.std.specs.Prelude.{ℕ, ◌+◌, ◌≤◌, ◌<◌, ◌≡◌, Bool, true, false, List, [], ◌++◌, length, drop, get_or, Option, Some, None}
use Rattle.text.specs.Bytes.{Bytes, bytes, all, starts}
use Rattle.text.specs.Class.{is_quotable}
use Rattle.text.specs.Parts.{part_of, Within}
use Rattle.text.specs.declared.Span.{Span}
use Rattle.language.specs.RegisterText.{Entry, prop, page, cat, val, close}
use Rattle.dictionary.specs.Items.{text_at}
use Rattle.register_text_entries.specs.Table.{entry_at}

-- A part without a quotation mark, and the word w behind it.
pub record Closed (s : Bytes) (p : Span) (w : Bytes) : Type 0 where
  pub plain : all is_quotable (part_of s p) ≡ true
  pub behind : starts w (drop (p.start + p.len) s) ≡ true

-- What an entry declares, as one text; `" "` stands between the two names of a page.
abbrev pub declared : Entry → Bytes
declared (prop x k) = x
declared (page n x) = n ++ (bytes "\" \"" ++ x)
declared (cat x) = []
declared (val x v) = []
declared close = []

-- The entry declares something, by a name that has no quotation mark.
abbrev pub is_plain : Entry → Bool
is_plain (prop x k) = all is_quotable x
is_plain (page n x) = all is_quotable n
is_plain (cat x) = false
is_plain (val x v) = false
is_plain close = false

pub record Joined (s : Bytes) (a b p : Span) : Type 0 where
  pub plain : all is_quotable (part_of s a) ≡ true
  pub is : part_of s p ≡ part_of s a ++ (bytes "\" \"" ++ part_of s b)
  pub within : Within s p

abbrev pub Joins : Bytes → Span → Span → Option Span → Type 0
Joins s a b (Some p) = Joined s a b p
Joins s a b None = Unit {0}

-- The part p says what an entry declares.
pub record TellsName (s : Bytes) (e : Entry) (p : Span) : Type 0 where
  pub plain : is_plain e ≡ true
  pub is : part_of s p ≡ declared e
  pub within : Within s p

abbrev pub Pieces : Bytes → Entry → Option Span → Type 0
Pieces s e (Some p) = TellsName s e p
Pieces s e None = Unit {0}

-- The tables have for each of the first m of a list of rows the part that says what it declares.
pub record Names (s : Bytes) (t rows : List ℕ) (m : ℕ) (starts lens : List ℕ) : Type 0 where
  pub room : m ≤ length starts
  pub plain : (j : ℕ) → j < m → is_plain (entry_at s t (get_or rows j 0)) ≡ true
  pub is : (j : ℕ) → j < m → text_at s starts lens j ≡ declared (entry_at s t (get_or rows j 0))
