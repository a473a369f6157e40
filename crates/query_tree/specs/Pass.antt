-- Working definitions: one pass over nodes that says whether they are the tree of a text that reading accepts (34). By `is_tree_lem` it says so
-- exactly. It keeps of each part a few numbers and truth values: what its shortest spelling costs, how deep that is, whether the rules are
-- kept.
use Rattle.std.specs.Prelude.{ℕ, suc, ◌+◌, ◌-◌, max, min, Bool, true, false, not, ◌&&◌, List, [], ◌∷◌, leb, eqb, length, Option, Some, None}
use Rattle.text.specs.Bytes.{Bytes, bytes, same}
use Rattle.names.specs.Names.{is_composed_name, is_composed_property_name, is_composed_namespace}
use Rattle.values.specs.Names.{is_composed_reference}
use Rattle.language.specs.Comparators.{word, is_equal}
use Rattle.language.specs.Answer.{◌>>=◌, found, only_if}
use Rattle.language.specs.QueryText.{is_category_of}
use Rattle.query_tree_spelling.specs.Spelled.{spelled_value, cost_reference, wrapped, under}
use Rattle.query_tree.specs.Nodes.{Node}
use Rattle.query_tree.specs.declared.Shape.{Shape}
use Rattle.query_tree.specs.declared.Item.{Item}

-- What may stand on both sides of `||`.
abbrev pub alike : Shape → Shape → Bool
alike Shape.Categories Shape.Categories = true
alike Shape.Categories Shape.Identifiers = false
alike Shape.Categories Shape.Alternatives = false
alike Shape.Categories Shape.Property = false
alike Shape.Categories Shape.Disjunction = false
alike Shape.Categories Shape.Conjunction = false
alike Shape.Identifiers Shape.Categories = false
alike Shape.Identifiers Shape.Identifiers = true
alike Shape.Identifiers Shape.Alternatives = false
alike Shape.Identifiers Shape.Property = false
alike Shape.Identifiers Shape.Disjunction = false
alike Shape.Identifiers Shape.Conjunction = false
alike Shape.Alternatives Shape.Categories = false
alike Shape.Alternatives Shape.Identifiers = false
alike Shape.Alternatives Shape.Alternatives = true
alike Shape.Alternatives Shape.Property = false
alike Shape.Alternatives Shape.Disjunction = false
alike Shape.Alternatives Shape.Conjunction = false
alike Shape.Property s = false
alike Shape.Disjunction s = false
alike Shape.Conjunction s = false

abbrev pub is_query : Shape → Bool
is_query Shape.Categories = true
is_query Shape.Identifiers = true
is_query Shape.Alternatives = false
is_query Shape.Property = true
is_query Shape.Disjunction = true
is_query Shape.Conjunction = true

abbrev pub is_or : Shape → Bool
is_or Shape.Categories = false
is_or Shape.Identifiers = false
is_or Shape.Alternatives = false
is_or Shape.Property = false
is_or Shape.Disjunction = true
is_or Shape.Conjunction = false

abbrev pub is_two : Shape → Bool
is_two Shape.Categories = false
is_two Shape.Identifiers = false
is_two Shape.Alternatives = false
is_two Shape.Property = false
is_two Shape.Disjunction = true
is_two Shape.Conjunction = true

abbrev pub is_property : Shape → Bool
is_property Shape.Categories = false
is_property Shape.Identifiers = false
is_property Shape.Alternatives = false
is_property Shape.Property = true
is_property Shape.Disjunction = false
is_property Shape.Conjunction = false

abbrev pub is_alternatives : Shape → Bool
is_alternatives Shape.Categories = false
is_alternatives Shape.Identifiers = false
is_alternatives Shape.Alternatives = true
is_alternatives Shape.Property = false
is_alternatives Shape.Disjunction = false
is_alternatives Shape.Conjunction = false

-- The bytes of brackets, which `||` has once for all its alternatives: `[[Category:` and `]]`, `[[` and `]]`.
abbrev pub bracket : Shape → ℕ
bracket Shape.Categories = 13
bracket Shape.Identifiers = 4
bracket Shape.Alternatives = 0
bracket Shape.Property = 0
bracket Shape.Disjunction = 0
bracket Shape.Conjunction = 0

abbrev pub full_bytes : Item → ℕ
full_bytes i = bracket i.shape + i.bytes

-- Rules kept, as an operand or as a whole.
abbrev pub is_good : Item → Bool
is_good i = i.kept && not i.leads

-- A count of bytes, of levels or of names, up to the first that is too large.
abbrev pub up_to_bytes : ℕ → ℕ
up_to_bytes n = min n 1025

abbrev pub up_to_levels : ℕ → ℕ
up_to_levels n = min n 9

abbrev pub item_of : Shape → ℕ → ℕ → Bool → Bool → Bool → ℕ → ℕ → Item
item_of s at m o l k b d = record { shape = s; from = at; names = up_to_levels m; one = o; leads = l; kept = k; bytes = up_to_bytes b; depth = up_to_levels d }

-- Node `at` begins a part.
unfoldable pub leaf_item : Shape → ℕ → Bool → Bool → ℕ → Item
leaf_item s at leads kept n = item_of s at 0 true leads kept n 0

unfoldable pub subquery_item : Item → Option Item
subquery_item i = only_if (is_query i.shape) (Some (item_of Shape.Alternatives i.from 0 true false (is_good i) (7 + full_bytes i) (suc i.depth)))

unfoldable pub property_item : Bytes → Item → Option Item
property_item x i = only_if (is_alternatives i.shape) (Some (item_of Shape.Property i.from 1 true false (is_composed_property_name x && i.kept) (6 + length x + i.bytes) i.depth))

unfoldable pub link_item : Bytes → Item → Option Item
link_item x i = only_if (is_property i.shape) (Some (item_of Shape.Property i.from (suc i.names) true false (is_composed_property_name x && (leb (suc i.names) 8 && i.kept)) (i.bytes + suc (length x)) i.depth))

-- Two with what joins them, node `at`, which tells how many nodes the second has.
unfoldable pub bar_item : ℕ → ℕ → Item → Item → Option Item
bar_item at n i j =
    only_if (alike i.shape j.shape && eqb n (at - j.from))
    (Some (item_of i.shape i.from 0 false i.leads (i.kept && (j.one && j.kept)) (i.bytes + (2 + j.bytes)) (max i.depth j.depth)))

unfoldable pub or_item : ℕ → ℕ → Item → Item → Option Item
or_item at n i j =
    only_if (is_query i.shape && (is_query j.shape && eqb n (at - j.from)))
    (Some (item_of Shape.Disjunction i.from 0 false false (is_good i && is_good j) (full_bytes i + (2 + wrapped (is_or j.shape) (full_bytes j))) (max i.depth (under (is_or j.shape) j.depth))))

unfoldable pub and_item : ℕ → ℕ → Item → Item → Option Item
and_item at n i j =
    only_if (is_query i.shape && (is_query j.shape && eqb n (at - j.from)))
    (Some (item_of Shape.Conjunction i.from 0 false false (is_good i && is_good j) (wrapped (is_or i.shape) (full_bytes i) + wrapped (is_two j.shape) (full_bytes j)) (max (under (is_or i.shape) i.depth) (under (is_two j.shape) j.depth))))

-- What a node does with the last part, or the last two, of a stack.
abbrev pub on_one : {A : Type 0} → (A → Option A) → List A → Option (List A)
on_one f [] = None
on_one f (i ∷ st) = f i >>= λ k. Some (k ∷ st)

abbrev pub on_two : {A : Type 0} → (A → A → Option A) → List A → Option (List A)
on_two f [] = None
on_two f (j ∷ []) = None
on_two f (j ∷ i ∷ st) = f i j >>= λ k. Some (k ∷ st)

-- Node `at`.
abbrev pub item_step : ℕ → Node → List Item → Option (List Item)
item_step at (Node.and n) st = on_two (and_item at n) st
item_step at (Node.or n) st = on_two (or_item at n) st
item_step at (Node.bar n) st = on_two (bar_item at n) st
item_step at (Node.category x) st = Some (leaf_item Shape.Categories at false (is_composed_name x) (length x) ∷ st)
item_step at (Node.namespace n) st = Some (leaf_item Shape.Identifiers at (same n (bytes "Category")) (is_composed_namespace n) (length n + 2) ∷ st)
item_step at (Node.reference c r) st = Some (leaf_item Shape.Identifiers at (is_equal c && is_category_of r) (is_composed_reference r) (length (word c) + cost_reference r) ∷ st)
item_step at Node.existence st = Some (leaf_item Shape.Alternatives at false true 1 ∷ st)
item_step at (Node.value c v) st = Some (leaf_item Shape.Alternatives at false (spelled_value c v) (length (word c) + length v) ∷ st)
item_step at Node.subquery st = on_one subquery_item st
item_step at (Node.property x) st = on_one (property_item x) st
item_step at (Node.link x) st = on_one (link_item x) st

-- A stack of at most n entries.
abbrev pub within : {A : Type 0} → ℕ → Option (List A) → Option (List A)
within n None = None
within n (Some st) = only_if (leb (length st) n) (Some st)

-- The pass from node `at` on; no tree of an accepted text needs more than 28 entries.
unfoldable pub item_run : ℕ → List Node → Option (List Item) → Option (List Item)
item_run at [] o = o
item_run at (x ∷ l) o = item_run (suc at) l (o >>= λ st. within 28 (item_step at x st))

-- One query is left, which keeps the rules and whose shortest spelling has at most 1,024 bytes and a depth of at most 8.
abbrev pub is_whole : List Item → Bool
is_whole [] = false
is_whole (i ∷ []) = is_query i.shape && (is_good i && (leb (full_bytes i) 1024 && leb i.depth 8))
is_whole (j ∷ i ∷ st) = false

unfoldable pub is_tree : List Node → Bool
is_tree l = found (item_run 0 l (Some [])) is_whole false
