-- Working definitions: entries by their numbers, and which terms a range has.
use Rattle.std.specs.Prelude.{ℕ, ◌+◌, ◌*◌, ◌≤◌, ◌<◌, ◌≡◌, Bool, true, false, cond, ◌&&◌, leb, ltb, length, get_or, Option, Some, None}
use mathlib.Core.List.{List, [], Memᴰ}
use Rattle.text.specs.Bytes.{Bytes, numbers, order_of, same}
use Rattle.text.specs.Parts.{part_of}
use Rattle.std.specs.declared.cmp.Ordering.{Ordering}
use Rattle.values.specs.Values.{kind_of}
use Rattle.language.specs.Register.{Held, Page, Register}
use Rattle.query_core.specs.declared.Constant.{Constant}
use Rattle.sorting.specs.Ascending.{ascends, rank}
use Rattle.register_form.specs.Dictionary.{labelled, name_of}
use Rattle.register_form.specs.Encoding.{plain_text, category_term, value_term, terms_of}
use Rattle.register_form.specs.Form.{term_at, text_at, dictionary_in}
use Rattle.register_form_view.specs.declared.Index.{Index}
use Rattle.register_form_view.specs.declared.Rank.{Rank}
use Rattle.register_form_view.specs.declared.TermRange.{TermRange}
use Rattle.register_form_view.specs.declared.ValueTest.{ValueTest}

-- The entries of a list, the one in a place, and the one that a key stands for: a text by its name or its bytes, a term by its
-- bytes.
abbrev pub entries_in : Bytes → Index → List Bytes
entries_in h Index.Names = (dictionary_in h).texts
entries_in h Index.Texts = (dictionary_in h).texts
entries_in h Index.Terms = (dictionary_in h).terms

abbrev pub entry_at : Bytes → Index → ℕ → Bytes
entry_at h Index.Names m = text_at h m
entry_at h Index.Texts m = text_at h m
entry_at h Index.Terms m = term_at h m

abbrev pub key_of : Index → Bytes → Bytes
key_of Index.Names x = plain_text x
key_of Index.Texts x = x
key_of Index.Terms x = x

-- r is how many entries are less than the key, where they ascend.
unfoldable pub Ranked : Bytes → Index → Bytes → ℕ → Type 0
Ranked h index key r = ascends order_of (entries_in h index) ≡ true → r ≡ rank order_of (key_of index key) (entries_in h index)

-- The entry in the place r is the key; where there is none, no entry of a list that ascends is.
unfoldable pub Located : Bytes → Index → Bytes → Option ℕ → Type 0
Located h index key (Some r) = (r < length (entries_in h index)) × (get_or (entries_in h index) r [] ≡ key_of index key)
Located h index key None = ascends order_of (entries_in h index) ≡ true → Memᴰ (key_of index key) (entries_in h index) → ⊥

-- Where the texts ascend, each stands to that of the name x as 1 + 2 n stands to k, n being its number.
unfoldable pub Keyed : Bytes → Bytes → ℕ → Type 0
Keyed h x k = ascends order_of (dictionary_in h).texts ≡ true → (n : ℕ) → n < length (dictionary_in h).texts → numbers (1 + 2 * n) k ≡ order_of (get_or (dictionary_in h).texts n []) (plain_text x)

-- The same of the names of the first texts, so many as the rank says.
unfoldable pub RankOf : Bytes → Bytes → Rank → Type 0
RankOf h x r =
    ascends order_of (dictionary_in h).texts ≡ true → (n : ℕ) → n < length (dictionary_in h).texts → n < r.plain
    → (s y : Bytes) → get_or (dictionary_in h).texts n [] ≡ labelled s y → numbers (1 + 2 * n) r.key ≡ order_of y x

-- The rank is that of the constant's string, if it is one.
unfoldable pub ConstantRank : Bytes → Bytes → Constant → Rank → Type 0
ConstantRank h q (Constant.Scalar k n) r = Unit {0}
ConstantRank h q (Constant.String p) r = RankOf h (part_of q p) r

-- The rank is that of a test's string, if it has one, or of its article name.
unfoldable pub TestRank : Bytes → Bytes → ValueTest → Rank → Type 0
TestRank h q (ValueTest.Constant c w) r = ConstantRank h q w r
TestRank h q (ValueTest.Reference c s) r = RankOf h (part_of q s.article) r

-- How the name of text n stands to x: by x's rank, where it tells.
unfoldable pub name_order : Bytes → Bytes → Rank → ℕ → Ordering
name_order h x r n = cond (ltb n r.plain) (numbers (1 + 2 * n) r.key) (order_of (name_of (text_at h n)) x)

-- How many terms of R are less than t: of a term, its number.
abbrev pub term_number : Register → Bytes → ℕ
term_number R t = rank order_of t (terms_of R)

abbrev pub within : TermRange → ℕ → Bool
within r f = leb r.low f && ltb f r.high

-- The range has the terms of the categories and of the properties that are wanted; they have its kind.
pub record Covers (R : Register) (category property : Bytes → Bool) (r : TermRange) : Type 0 where
  pub categories : (p : Page) (y : Bytes) → Memᴰ p R.pages → Memᴰ y p.categories → within r (term_number R (category_term R y)) ≡ category y
  pub values : (p : Page) (v : Held) → Memᴰ p R.pages → Memᴰ v p.values → within r (term_number R (value_term R v)) ≡ property v.property
  pub kinds : (p : Page) (v : Held) → Memᴰ p R.pages → Memᴰ v p.values → property v.property ≡ true → r.kind ≡ kind_of v.value
  pub most : r.high ≤ length (terms_of R)

-- The range has the term of the category x; the terms of the values under x.
abbrev pub CategoryRange : Register → Bytes → TermRange → Type 0
CategoryRange R x r = Covers R (same x) (λ y. false) r

abbrev pub PropertyRange : Register → Bytes → TermRange → Type 0
PropertyRange R x r = Covers R (λ y. false) (λ y. same y x) r
