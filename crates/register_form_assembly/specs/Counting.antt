-- Working definitions: the bytes of names and values, counted by a draft's tables. A count stops at 32,769.
use Rattle.std.specs.Prelude.{ℕ, ◌+◌, ◌-◌, ◌%◌, min, ◌≡◌, cond, not, List, eqb, length, get_or, Option, Some}
use Rattle.text.specs.Bytes.{Bytes}
use Rattle.text.specs.Table.{bit, Tabled}
use Rattle.values.specs.Values.{kind_from}
use Rattle.values.specs.declared.Kind.{Kind}
use Rattle.values.specs.Spelling.{spell_scalar}
use Rattle.language.specs.Rules.{total}
use Rattle.dictionary.specs.Items.{text_at}
use Rattle.register_form_bytes.specs.Writing.{first_of}

module _ (s : Bytes) (starts lens : List ℕ) where
  -- Of an item: its text without the byte that tells the namespace's length.
  unfoldable pub text_bytes : ℕ → ℕ
  text_bytes i = length (text_at s starts lens i) - 1

  -- Of a link: a colon too, where there is a namespace.
  unfoldable pub link_bytes : ℕ → ℕ
  link_bytes i = text_bytes i + bit (not (eqb (get_or (text_at s starts lens i) 0 0) 0))

  abbrev pub value_bytes : Kind → ℕ → ℕ
  value_bytes Kind.Page c = link_bytes (c % 65536)
  value_bytes (Kind.Scalar k) c = length (spell_scalar k c)
  value_bytes Kind.String c = text_bytes (c % 65536)

  unfoldable pub form_bytes : List ℕ → ℕ → ℕ → ℕ
  form_bytes kinds g c = cond (eqb g 0) (text_bytes (c % 65536)) (value_bytes (kind_from (get_or kinds (g - 1) 0)) c)

  -- Of the form that a term's number stands for.
  unfoldable pub term_bytes_by : List ℕ → List ℕ → List ℕ → List ℕ → ℕ → ℕ
  term_bytes_by kinds groups codes refs t = form_bytes kinds (get_or groups (get_or refs t 0) 0) (get_or codes (get_or refs t 0) 0)

-- As many bytes, up to 32,769.
unfoldable pub capped : (ℕ → ℕ) → ℕ → ℕ
capped f t = min (f t) 32769

-- A sum of the sizes that the first n of a table of terms name, if none is missing, where sizes has those of the first so many terms.
pub record SizesAdded (sizes : List ℕ) (most : ℕ) (table : List ℕ) (n before : ℕ) (r : Option ℕ) : Type 0 where
  pub is : (sum : ℕ) → r ≡ Some sum → (f : ℕ → ℕ) → Tabled (capped f) most sizes → min sum 32769 ≡ min (before + total f (first_of table n)) 32769
