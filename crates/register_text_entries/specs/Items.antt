-- Working definitions: what the readers of the register text answer, as places in the text.
use Rattle.std.specs.Prelude.{ℕ, ◌≤◌, ◌≡◌, Bool, true, false, length, drop, Option, Some, None}
use Rattle.text.specs.Bytes.{Bytes, after}
use Rattle.text.specs.Parts.{part_of, Within}
use Rattle.text.specs.declared.Span.{Span}
use Rattle.values.specs.declared.Kind.{Kind}
use Rattle.language.specs.Answer.{◌>>=◌}
use Rattle.language.specs.RegisterText.{Entry, prop, page, cat, val, close, Place, line, inner, Read, quoted}
use Rattle.register_text_entries.specs.declared.Tag.{Tag}
use Rattle.register_text_entries.specs.declared.Item.{Item}

-- A place that was found, as the text from there on; and that it lies within the text.
abbrev pub found_in : Bytes → Option ℕ → Option Bytes
found_in s (Some i) = Some (drop i s)
found_in s None = None

abbrev pub Ends : Bytes → Option ℕ → Type 0
Ends s (Some i) = i ≤ length s
Ends s None = Unit {0}

-- What looking for the word w at a place answers.
pub record Finds (s : Bytes) (at : ℕ) (w : Bytes) (r : Option ℕ) : Type 0 where
  pub is : found_in s r ≡ after w (drop at s)
  pub within : Ends s r

-- A quoted text and what is behind it; and that it lies within the text.
abbrev pub quoted_in : Bytes → Option (Span × ℕ) → Option (Bytes × Bytes)
quoted_in s (Some x) = Some (part_of s x.0, drop x.1 s)
quoted_in s None = None

abbrev pub Lies : Bytes → Option (Span × ℕ) → Type 0
Lies s (Some x) = Within s x.0
Lies s None = Unit {0}

-- What reading a quoted text answers, where o is what the definition reads.
pub record Quotes (s : Bytes) (o : Option (Bytes × Bytes)) (r : Option (Span × ℕ)) : Type 0 where
  pub is : quoted_in s r ≡ o
  pub within : Lies s r

-- A quoted text between the words w and v, and what is behind.
unfoldable pub framed : Bytes → Bytes → Bytes → Option (Bytes × Bytes)
framed w v s = do
  r ← after w s
  (x, r) ← quoted r
  r ← after v r
  Some (x, r)

abbrev pub kind_in : Bytes → Option (Kind × ℕ) → Option (Kind × Bytes)
kind_in s (Some x) = Some (x.0, drop x.1 s)
kind_in s None = None

abbrev pub place_of : Bool → Place
place_of true = inner
place_of false = line

-- The entry that an item stands for.
abbrev pub entry_by : Tag → Kind → Bytes → Bytes → Entry
entry_by Tag.Prop k a b = prop a k
entry_by Tag.Page k a b = page a b
entry_by Tag.Cat k a b = cat a
entry_by Tag.Val k a b = val a b
entry_by Tag.Close k a b = close

abbrev pub entry_in : Bytes → Item → Entry
entry_in s i = entry_by i.tag i.kind (part_of s i.first) (part_of s i.second)

-- What an item says was read, and that its texts lie within the text.
abbrev pub read_in : Bytes → Option Item → Option Read
read_in s (Some i) = Some (record { entry = entry_in s i; place = place_of i.inner; rest = drop i.next s })
read_in s None = None

abbrev pub LiesItem : Bytes → Option Item → Type 0
LiesItem s (Some i) = Within s i.first × Within s i.second
LiesItem s None = Unit {0}

-- What reading an entry answers, where o is what the definition reads.
pub record ReadsEntry (s : Bytes) (o : Option Read) (r : Option Item) : Type 0 where
  pub is : read_in s r ≡ o
  pub within : LiesItem s r

abbrev pub nowhere : Span
nowhere = record { start = 0; len = 0 }
