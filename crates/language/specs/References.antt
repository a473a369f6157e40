-- How an identifier stands to a reference with a comparator: thesis 5.3.1, with document 01's decisions. It is asked of a page's own
-- identifier and of the links that a page holds.
use Rattle.std.specs.Prelude.{Bool, true, false, not, ◌&&◌, [], Option, Some}
use Rattle.text.specs.Bytes.{Bytes, bytes, order_of, same}
use Rattle.std.specs.declared.cmp.Ordering.{Ordering}
use Rattle.values.specs.Names.{Identifier, Reference, bare, qualified}
use Rattle.language.specs.Answer.{found, only_if}
use Rattle.language.specs.Comparators.{word, is_equal}
use Rattle.language.specs.declared.SurfaceComparator.{SurfaceComparator}

-- "`>` means greater or equal, `>>` strictly greater, `<` and `<<` likewise, `!` unequal, none equal"
abbrev pub stands_as : SurfaceComparator → Ordering → Bool
stands_as SurfaceComparator.Equal Ordering.Less = false
stands_as SurfaceComparator.Equal Ordering.Equal = true
stands_as SurfaceComparator.Equal Ordering.Greater = false
stands_as SurfaceComparator.Unequal Ordering.Less = true
stands_as SurfaceComparator.Unequal Ordering.Equal = false
stands_as SurfaceComparator.Unequal Ordering.Greater = true
stands_as SurfaceComparator.Greater Ordering.Less = false
stands_as SurfaceComparator.Greater Ordering.Equal = false
stands_as SurfaceComparator.Greater Ordering.Greater = true
stands_as SurfaceComparator.Less Ordering.Less = true
stands_as SurfaceComparator.Less Ordering.Equal = false
stands_as SurfaceComparator.Less Ordering.Greater = false
stands_as SurfaceComparator.AtLeast Ordering.Less = false
stands_as SurfaceComparator.AtLeast Ordering.Equal = true
stands_as SurfaceComparator.AtLeast Ordering.Greater = true
stands_as SurfaceComparator.AtMost Ordering.Less = true
stands_as SurfaceComparator.AtMost Ordering.Equal = true
stands_as SurfaceComparator.AtMost Ordering.Greater = false

-- "any written namespace save with `!`; with neither colon nor comparator, main"
unfoldable pub namespace_meant : SurfaceComparator → Reference → Option Bytes
namespace_meant c (bare x) = only_if (is_equal c) (Some [])
namespace_meant c (qualified n x) = only_if (not (same (word c) (bytes "!"))) (Some n)

abbrev pub article_meant : Reference → Bytes
article_meant (bare x) = x
article_meant (qualified n x) = x

-- "A reference wants the page's article name to stand to its own as the comparator says, and any written namespace save with `!`;
-- with neither colon nor comparator, main."
unfoldable pub is_meant : SurfaceComparator → Reference → Identifier → Bool
is_meant c r i =
    found (namespace_meant c r) (λ n. same i.namespace n) true && stands_as c (order_of i.article (article_meant r))
