-- Working definitions: whether bytes are those of the nodes that they hold, row by row.
use Rattle.std.specs.Prelude.{ℕ, zero, suc, ◌+◌, ◌*◌, ◌-◌, Bool, true, cond, ◌&&◌, ◌||◌, eqb, leb, ltb}
use Rattle.text.specs.Bytes.{Bytes}
use Rattle.buffer.specs.Tests.{zeros_at}
use Rattle.language.specs.Comparators.{last_comparator}
use Rattle.query_tree.specs.declared.Row.{Row}
use Rattle.query_tree.specs.Form.{row_in, node_count}

-- What a tag uses.
abbrev pub uses_comparator : ℕ → Bool
uses_comparator t = eqb t 5 || eqb t 6 || eqb t 8

abbrev pub uses_first : ℕ → Bool
uses_first t = eqb t 4 || eqb t 6

abbrev pub uses_second : ℕ → Bool
uses_second t = eqb t 3 || eqb t 5 || eqb t 6 || eqb t 8 || eqb t 10 || eqb t 11

abbrev pub uses_nothing : ℕ → Bool
uses_nothing t = eqb t 7 || eqb t 9

-- The number of a row whose string begins at a place; a connective's may be any.
abbrev pub number_fits : ℕ → ℕ → ℕ → Bool
number_fits t at n = ltb t 3 || eqb n (cond (uses_nothing t) 0 at)

-- The numbers of a row are those of its node, whose string begins at a place.
abbrev pub numbers_fit : ℕ → Row → Bool
numbers_fit at r =
    leb r.tag 11 && leb r.comparator (cond (uses_comparator r.tag) last_comparator 0) && number_fits r.tag at r.number
    && (uses_first r.tag || eqb r.first 0) && (uses_second r.tag || eqb r.second 0)

-- A row is that of its node, whose string begins at a place and ends within 1,024 bytes.
unfoldable pub row_fits : ℕ → Row → Bool
row_fits at r = numbers_fit at r && leb (at + r.first + r.second) 1024

module _ (h : Bytes) where
  -- Where the string of node i begins: behind those before it.
  unfoldable pub string_at : ℕ → ℕ
  string_at zero = 0
  string_at (suc i) = string_at i + (row_in h i).first + (row_in h i).second

  unfoldable pub rows_fit : ℕ → Bool
  rows_fit zero = true
  rows_fit (suc i) = rows_fit i && row_fits (string_at i) (row_in h i)

  -- The bytes are those of the nodes that they hold, where there are 5,112.
  unfoldable pub is_exact : Bool
  is_exact =
      leb (node_count h) 681 && rows_fit (node_count h) && zeros_at h (2 + 6 * node_count h) (4086 - 6 * node_count h)
      && zeros_at h (4088 + string_at (node_count h)) (1024 - string_at (node_count h))
