-- Working definitions: entries with their names composed, as rows over a text of their own.
use Rattle.std.specs.Prelude.{ℕ, ◌+◌, ◌*◌, ◌≤◌, ◌≡◌, Bool, true, false, cond, not, ◌&&◌, ◌||◌, List, [], ◌++◌, eqb, ltb, length}
use Rattle.text.specs.Bytes.{Bytes, bytes, all, any}
use Rattle.text.specs.Class.{is_other}
use Rattle.text.specs.Parts.{part_of}
use Rattle.names.specs.Names.{composed_name, is_namespace}
use Rattle.names.specs.Steps.{name_length}
use Rattle.values.specs.Names.{is_value}
use Rattle.buffer.specs.Writing.{written}
use Rattle.language.specs.RegisterText.{Entry, prop, page, cat, val, close, breaks_rule, composed_entries}
use Rattle.language.specs.Rules.{total}
use Rattle.register_text_entries.specs.Items.{entry_in}
use Rattle.register_text_entries.specs.Table.{entries_in}
use Rattle.register_text_entries.specs.declared.Tag.{Tag}
use Rattle.register_text_entries.specs.declared.Item.{Item}
use Rattle.register_text_entries.specs.declared.composing.Copied.{Copied}

-- Whether an entry has a first part, and a second.
abbrev pub has_first : Tag → Bool
has_first Tag.Prop = true
has_first Tag.Page = true
has_first Tag.Cat = true
has_first Tag.Val = true
has_first Tag.Close = false

abbrev pub has_second : Tag → Bool
has_second Tag.Prop = false
has_second Tag.Page = true
has_second Tag.Cat = false
has_second Tag.Val = true
has_second Tag.Close = false

-- An entry that declares something has `" "` behind its first part, as in a register text.
abbrev pub has_gap : Tag → Bool
has_gap Tag.Prop = true
has_gap Tag.Page = true
has_gap Tag.Cat = false
has_gap Tag.Val = false
has_gap Tag.Close = false

abbrev pub gap : Tag → Bytes
gap t = cond (has_gap t) (bytes "\" \"") []

-- The second part of an entry is a name, which is composed, or stays as typed.
abbrev pub is_named : Tag → Bool
is_named Tag.Prop = false
is_named Tag.Page = true
is_named Tag.Cat = false
is_named Tag.Val = false
is_named Tag.Close = false

abbrev pub name_or : Tag → Bytes → Bytes
name_or t b = cond (is_named t) (composed_name b) b

-- The parts of an entry in the copy, its bytes there, and where the parts then lie.
abbrev pub first_part : Bytes → Item → Bytes
first_part s x = composed_name (cond (has_first x.tag) (part_of s x.first) [])

abbrev pub second_part : Bytes → Item → Bytes
second_part s x = name_or x.tag (cond (has_second x.tag) (part_of s x.second) [])

abbrev pub item_text : Bytes → Item → Bytes
item_text s x = first_part s x ++ (gap x.tag ++ second_part s x)

unfoldable pub copied_item : Bytes → Item → ℕ → Item
copied_item s x at =
    record {
      tag = x.tag;
      kind = x.kind;
      first = record { start = at; len = length (first_part s x) };
      second = record { start = at + length (first_part s x) + length (gap x.tag); len = length (second_part s x) };
      inner = false;
      next = at + length (first_part s x) + length (gap x.tag) + length (second_part s x);
    }

-- Whether an entry of these parts breaks a rule, n and m being the lengths of its names.
abbrev pub broken_by : Tag → ℕ → ℕ → Bytes → Bytes → Bool
broken_by Tag.Prop n m a b = not (ltb 0 n && all (is_other 46) a)
broken_by Tag.Page n m a b = not ((eqb (length a) 0 || ltb 0 n) && ltb 0 m)
broken_by Tag.Cat n m a b = not (ltb 0 n)
broken_by Tag.Val n m a b = not (ltb 0 n && all (is_other 46) a && is_value b)
broken_by Tag.Close n m a b = false

-- What writing the second part of an entry to a place answers; c is the copy before, d behind it.
pub record SecondPut (t : Tag) (b c : Bytes) (at : ℕ) (d : Bytes) (r : ℕ) : Type 0 where
  pub size : length d ≡ length c
  pub named : is_named t ≡ true → r ≡ name_length b
  pub typed : is_named t ≡ false → r ≡ length b
  pub bytes : (is_named t ≡ true → is_namespace b ≡ true) → d ≡ written c at (name_or t b)

-- What copying an entry to a place answers; b is the copy before, c behind it.
pub record Copies (s : Bytes) (x : Item) (b : Bytes) (at : ℕ) (c : Bytes) (r : Copied) : Type 0 where
  pub size : length c ≡ length b
  pub broken : r.broken ≡ breaks_rule (entry_in s x)
  pub bytes : breaks_rule (entry_in s x) ≡ false → at + length (item_text s x) ≤ 65535 → c ≡ written b at (item_text s x)
  pub item : breaks_rule (entry_in s x) ≡ false → at + length (item_text s x) ≤ 65535 → r.item ≡ copied_item s x at

-- The bytes that an entry has in the copy, at most.
abbrev pub room : Entry → ℕ
room (prop x k) = length x + 3
room (page n x) = length n + length x + 3
room (cat x) = length x
room (val x v) = length x + length v
room close = 0

-- What copying the first n entries answers: whether one breaks a rule, and else, where there is room for them, their rows.
pub record Composes (s : Bytes) (t : List ℕ) (n : ℕ) (b : Bytes) (v : List ℕ) (c : Bytes) (u : List ℕ) (r : Bool) : Type 0 where
  pub broken : r ≡ any breaks_rule (entries_in s t n)
  pub rows : any breaks_rule (entries_in s t n) ≡ false → total room (entries_in s t n) ≤ length b → length b ≤ 65535 → 5 * n ≤ length v → entries_in c u n ≡ composed_entries (entries_in s t n)
  pub size : length u ≡ length v
