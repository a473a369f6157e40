-- The definitions on samples: texts with their shortest spellings, and nodes that are no tree.
use mathlib.Core.Path.{◌≡◌, refl}
use mathlib.Core.Bool.{Bool, true, false, ◌&&◌}
use mathlib.Core.List.{List, [], ◌∷◌}
use Rattle.text.specs.Bytes.{Bytes, bytes, any, all, same, span, trim_end, trim, starts, after}
use Rattle.text.specs.Class.{is_free, is_name_byte, is_value_byte}
use Rattle.names.specs.Table.{table, find, composition}
use Rattle.names.specs.Codes.{is_mark, is_plain, is_wide, pair_code, is_pair, read, encode, write}
use Rattle.names.specs.Names.{compose, composed, composed_name, has_name_shape, is_name, is_property_name, is_namespace, is_composed_name, is_composed_property_name, is_composed_namespace}
use Rattle.values.specs.Names.{bare, qualified, is_value, reference}
use Rattle.language.specs.Answer.{Answer, refused, accepted, judge}
use Rattle.language.specs.Surface.{Query, composed_chain, composed_categories, composed_identifiers, composed_query}
use Rattle.language.specs.Comparators.{first_typed}
use Rattle.language.specs.RawQuery.{token, comparator, piece_at, head_length, split_dots, trim_names, pieces_within, read_pieces, plain_body, closed_inner, closed_group, closed_body, next_term, query_within, read_query, read_whole}
use Rattle.language.specs.QueryText.{names_in, depth, longest, breaks_names, breaks, breaks_value, categories_from, identifiers_from, surface, read_text}
use Rattle.language.specs.declared.SurfaceComparator.{SurfaceComparator}
use Rattle.query_tree_spelling.specs.Spelled.{spelled_categories, spelled_identifiers, reads_as_category, spelled_value, spelled_names, spelled_chain, is_spelled, cost_categories, cost_reference, cost_identifiers, cost_chain, cost, deep, has_text}
use Rattle.query_tree_spelling.specs.Spelling.{plain, compared, reference_text, raw_categories, raw_identifiers, raw, unread_piece, unread_pieces, unread_chain, unread, spell}
use Rattle.query_tree.specs.Nodes.{Node, tree_categories, tree_identifiers, tree_chain, tree}
use Rattle.query_tree.specs.Pass.{leaf_item, subquery_item, property_item, link_item, bar_item, or_item, and_item, item_run, is_tree}

-- The text is read as a query with that shortest spelling, and its tree passes.
abbrev spelled_as : Answer Query → Bytes → Bool
spelled_as (refused n) t = false
spelled_as (accepted q) t = same (spell q) t && is_tree (tree q)

abbrev texts : List (Bytes × Bytes)
texts =
    (bytes " [[ a ]] AND [[b]] [[c]] ", bytes "[[a]][[b]][[c]]")
    ∷ (bytes "<q>[[a]] OR [[b]]</q> OR [[c]]", bytes "[[a]]OR[[b]]OR[[c]]")
    ∷ (bytes "[[a]] OR <q>[[b]] OR [[c]]</q>", bytes "[[a]]OR<q>[[b]]OR[[c]]</q>")
    ∷ (bytes "<q>[[a]] OR [[b]]</q> [[c]]", bytes "<q>[[a]]OR[[b]]</q>[[c]]")
    ∷ (bytes "[[a]] <q>[[b]] [[c]]</q>", bytes "[[a]]<q>[[b]][[c]]</q>")
    ∷ (bytes "<q><q><q><q><q><q><q><q>[[a]]</q></q></q></q></q></q></q></q>", bytes "[[a]]")
    ∷ (bytes "[[Category: A || B||C d]]", bytes "[[Category:A||B||C d]]")
    ∷ (bytes "[[!Talk : D1||Category:+|| : x]]", bytes "[[!Talk:D1||Category:+||:x]]")
    ∷ (bytes "[[<q||Category:x]]", bytes "[[<q||Category:x]]")
    ∷ (bytes "[[Lot . P q :: :a::b || + || !+ || !!x]]", bytes "[[Lot.P q:::a::b||+||!+||!!x]]")
    ∷ (bytes "[[L::<q> [[a]] OR [[b]] </q> || <q><q>[[a]]</q> AND [[b]]</q>]]", bytes "[[L::<q>[[a]]OR[[b]]</q>||<q>[[a]][[b]]</q>]]")
    ∷ []

abbrev Each : Type 0
Each = all (λ p. spelled_as (read_text p.0) p.1) texts ≡ true

pub spelled : Each
unfolding any all same span trim_end trim starts after is_free is_name_byte is_value_byte table find composition is_mark is_plain is_wide pair_code is_pair read encode write compose composed composed_name has_name_shape is_name is_property_name is_namespace is_composed_name is_composed_property_name is_composed_namespace is_value reference judge token first_typed comparator piece_at head_length split_dots trim_names pieces_within read_pieces plain_body closed_inner closed_group closed_body next_term query_within read_query read_whole names_in depth longest breaks_names breaks breaks_value categories_from identifiers_from surface composed_chain composed_categories composed_identifiers composed_query read_text spelled_categories spelled_identifiers reads_as_category spelled_value spelled_names spelled_chain is_spelled cost_categories cost_reference cost_identifiers cost_chain cost deep has_text plain compared reference_text raw_categories raw_identifiers raw unread_piece unread_pieces unread_chain unread spell tree_categories tree_identifiers tree_chain tree leaf_item subquery_item property_item link_item bar_item or_item and_item item_run is_tree
spelled = refl

-- No tree: nothing; alternatives without a property; a `||` on its right; two shapes; a count that is wrong; `Category:x` that would be
-- read as a category; `+` and `!x` that would be read otherwise; a name that ends with a blank; a subquery of alternatives.
abbrev article : Node
article = Node.reference SurfaceComparator.Equal (bare (bytes "a"))

abbrev others : List (List Node)
others =
    []
    ∷ (Node.existence ∷ [])
    ∷ (article ∷ article ∷ article ∷ Node.bar 1 ∷ Node.bar 3 ∷ [])
    ∷ (article ∷ Node.category (bytes "a") ∷ Node.bar 1 ∷ [])
    ∷ (article ∷ article ∷ Node.and 2 ∷ [])
    ∷ (Node.reference SurfaceComparator.Equal (qualified (bytes "Category") (bytes "x")) ∷ [])
    ∷ (Node.value SurfaceComparator.Equal (bytes "+") ∷ Node.property (bytes "P") ∷ [])
    ∷ (Node.value SurfaceComparator.Equal (bytes "!x") ∷ Node.property (bytes "P") ∷ [])
    ∷ (Node.category (bytes "a ") ∷ [])
    ∷ (Node.existence ∷ Node.subquery ∷ Node.property (bytes "P") ∷ [])
    ∷ []

pub no_tree : any is_tree others ≡ false
unfolding any all same span trim_end trim starts after is_free is_name_byte is_value_byte table find composition is_mark is_plain is_wide pair_code is_pair read encode write compose composed composed_name has_name_shape is_name is_property_name is_namespace is_composed_name is_composed_property_name is_composed_namespace is_value spelled_value cost_reference leaf_item subquery_item property_item link_item bar_item or_item and_item item_run is_tree
no_tree = refl
