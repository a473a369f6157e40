-- Working definitions: what the functions over the terms of a page answer.
use Rattle.std.specs.Prelude.{ℕ, zero, suc, ◌+◌, ◌*◌, ◌-◌, ◌/◌, ◌<◌, ◌≡◌, Bool, true, false, ◌&&◌, List, ltb, length, get_or}
use Rattle.text.specs.Bytes.{Bytes, part, same, any}
use Rattle.text.specs.Parts.{part_of}
use Rattle.text.specs.Table.{tabulate}
use Rattle.values.specs.declared.Kind.{Kind}
use Rattle.values.specs.declared.Split.{Split}
use Rattle.values.specs.Answers.{split_of}
use Rattle.values.specs.Names.{Reference}
use Rattle.values.specs.Values.{scalar, string, Value, plain, link}
use Rattle.language.specs.Register.{Page, Register}
use Rattle.language.specs.Answer.{found}
use Rattle.language.specs.References.{stands_as, namespace_meant}
use Rattle.language.specs.Semantics.{stands, Ca, Cv, Cl, no_mixed}
use Rattle.language.specs.declared.Comparator.{Comparator}
use Rattle.language.specs.declared.SurfaceComparator.{SurfaceComparator}
use Rattle.query_core.specs.Reading.{constant_by}
use Rattle.query_core.specs.declared.Constant.{Constant}
use Rattle.buffer.specs.Numbers.{two_at}
use Rattle.register_form.specs.Dictionary.{space_of, name_of, identifier_of, term_code}
use Rattle.register_form.specs.Form.{page_count, form_start, register_in, page_at, term_at, text_at}
use Rattle.register_form.specs.Opened.{page_in}
use Rattle.register_form_view.specs.Ranges.{name_order}
use Rattle.register_form_view.specs.declared.NameTest.{NameTest}
use Rattle.register_form_view.specs.declared.Rank.{Rank}
use Rattle.register_form_view.specs.declared.ValueTest.{ValueTest}

module _ (h : Bytes) where
  -- The number of the text that term f names.
  unfoldable pub text_number : ℕ → ℕ
  text_number f = two_at (term_at h f) 1

  -- The value of a kind that term f is.
  abbrev pub value_at : Kind → ℕ → Value
  value_at Kind.Page f = link (identifier_of (text_at h (text_number f)))
  value_at (Kind.Scalar k) f = plain (scalar k (term_code (term_at h f)))
  value_at Kind.String f = plain (string (name_of (text_at h (text_number f))))

-- The value of a kind that term f is stands to a constant; a string by the rank of the constant's.
abbrev pub stands_at : Bytes → Bytes → Rank → Comparator → Constant → Kind → ℕ → Bool
stands_at h q r c (Constant.String p) Kind.String f = stands c (name_order h (part_of q p) r (text_number h f))
stands_at h q r c (Constant.String p) Kind.Page f = false
stands_at h q r c (Constant.String p) (Kind.Scalar k) f = false
stands_at h q r c (Constant.Scalar j b) k f = Cv no_mixed c (constant_by q (Constant.Scalar j b)) (value_at h k f)

-- A namespace is the one that a reference asks for, if it asks for one.
abbrev pub namespace_fits : SurfaceComparator → Reference → Bytes → Bool
namespace_fits c x n = found (namespace_meant c x) (λ m. same n m) true

-- The value of a kind that term f is, is a link that a reference means; by the rank of its article name.
abbrev pub meant_at : Bytes → Bytes → Rank → SurfaceComparator → Split → Kind → ℕ → Bool
meant_at h q r c s Kind.Page f =
    namespace_fits c (split_of q s) (space_of (text_at h (text_number h f)))
    && stands_as c (name_order h (part_of q s.article) r (text_number h f))
meant_at h q r c s (Kind.Scalar k) f = false
meant_at h q r c s Kind.String f = false

-- A value passes a test.
abbrev pub passes : Bytes → ValueTest → Value → Bool
passes q (ValueTest.Constant c w) = Cv no_mixed c (constant_by q w)
passes q (ValueTest.Reference c s) = Cl no_mixed c (split_of q s)

-- The same of the value of a kind that term f is, by the rank of the test.
abbrev pub passes_at : Bytes → Bytes → Rank → ValueTest → Kind → ℕ → Bool
passes_at h q r (ValueTest.Constant c w) k f = stands_at h q r c w k f
passes_at h q r (ValueTest.Reference c s) k f = meant_at h q r c s k f

-- The mark of a place that is one more than a page's; 0 is that of no page.
abbrev pub marked : List Bool → ℕ → Bool
marked marks zero = false
marked marks (suc k) = get_or marks k false

-- The value of term f leads to a page of the set, by the table of the pages' places.
abbrev pub leads_into : Bytes → List ℕ → List Bool → Kind → ℕ → Bool
leads_into h places marks Kind.Page f = marked marks (get_or places (text_number h f) 0)
leads_into h places marks (Kind.Scalar k) f = false
leads_into h places marks Kind.String f = false

-- The bytes of the forms from one place among all forms up to another; the numbers in bytes.
unfoldable pub form_bytes : Bytes → ℕ → ℕ → Bytes
form_bytes h start end = part h (1226 + 2 * start) (2 * (end - start))

unfoldable pub numbers_in : Bytes → List ℕ
numbers_in b = tabulate (length b / 2) (λ k. two_at b (2 * k))

-- A test whose calls answer what p says, of numbers of 16 bits.
unfoldable pub Tells : (ℕ → Bool → Type 0) → (ℕ → Bool) → Type 0
Tells post p = (f : ℕ) (r : Bool) → f < 65536 → post f r → r ≡ p f

-- One of page i's forms passes a test.
abbrev pub form_passes : Bytes → (ℕ → Bool) → ℕ → Bool
form_passes h p i = any p (numbers_in (form_bytes h (form_start h i) (form_start h (suc i))))

-- The marks of the pages one of whose forms does.
abbrev pub marks_by : Bytes → (ℕ → Bool) → List Bool
marks_by h p = tabulate 256 (λ j. ltb j (page_count h) && form_passes h p j)

-- What a test asks of a page's identifier.
abbrev pub name_passes : Bytes → NameTest → Page → Bool
name_passes x NameTest.Namespace p = same p.identifier.namespace x
name_passes x (NameTest.Article c) p = Ca c p.identifier.article x

-- The same of page i, x having a rank.
abbrev pub name_passes_at : Bytes → Bytes → Rank → NameTest → ℕ → Bool
name_passes_at h x r NameTest.Namespace i = same (page_in (register_in h) i).identifier.namespace x
name_passes_at h x r (NameTest.Article c) i = stands c (name_order h x r (page_at h i).identifier)

-- The marks of the pages that pass a test.
abbrev pub marks_in : Register → (Page → Bool) → List Bool
marks_in R test = tabulate 256 (λ j. ltb j (length R.pages) && test (page_in R j))

-- The marks are what the test says of the pages in their places.
unfoldable pub Agrees : Register → List Bool → (Page → Bool) → Type 0
Agrees R marks test = (j : ℕ) → j < length R.pages → get_or marks j false ≡ test (page_in R j)
