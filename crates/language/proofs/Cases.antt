-- Cases a to n of document 01, as one table under one claim.
use mathlib.Core.Path.{◌≡◌, refl, ap, ap₂}
use mathlib.Core.Bool.{Bool, true, false, beq, ◌&&◌, false≢true}
use mathlib.Core.List.{List, [], ◌∷◌, Memᴰ}
use Rattle.text.specs.Bytes.{any, all, same, order_of, numbers, span, trim_end, trim, starts, after}
use Rattle.text.specs.Class.{is_free, is_quotable, is_name_byte, is_value_byte, is_digit}
use Rattle.names.specs.Table.{table, find, composition}
use Rattle.names.specs.Codes.{is_mark, is_plain, is_wide, pair_code, is_pair, read, encode, write}
use Rattle.names.specs.Names.{compose, composed, composed_name, has_name_shape, is_name, is_property_name, is_namespace}
use Rattle.values.specs.Names.{is_value, reference}
use Rattle.values.specs.Answers.{first_kind}
use Rattle.values.specs.Values.{decimal, read_digits, read_fraction, read_thousandths, read_number, read_boolean, read_link}
use Rattle.language.specs.Answer.{Answer, refused, accepted, judge}
use Rattle.language.specs.Register.{kind_among, holds, leads}
use Rattle.language.specs.RegisterText.{quoted, kind_word_at, prop_form, page_form, cat_form, val_form, closing, next_entry, entries_within, entries_from, some_twice, properties, value_of, count_of, over_limits, add_category, add_held, filled, pages_of, register_of, composed_entries, read_register}
use Rattle.language.specs.Surface.{composed_chain, composed_categories, composed_identifiers, composed_query, names_of, properties_of}
use Rattle.language.specs.Comparators.{first_typed}
use Rattle.language.specs.RawQuery.{token, comparator, piece_at, head_length, split_dots, trim_names, pieces_within, read_pieces, plain_body, closed_inner, closed_group, closed_body, next_term, query_within, read_query, read_whole}
use Rattle.language.specs.QueryText.{names_in, depth, longest, breaks_names, breaks, breaks_value, categories_from, identifiers_from, surface, read_text}
use Rattle.language.specs.Core.{nodes}
use Rattle.language.specs.Elaboration.{compared, elaborate_reference, elaborate_identifiers, elaborate_categories, elaborate_constant, elaborate_value, inside, joined, along, elaborate, fit}
use Rattle.language.specs.References.{namespace_meant, is_meant}
use Rattle.language.specs.Semantics.{Ca, Cv, Cl, follows, Q, some_other, mismatch, run}
use Rattle.language.specs.Direct.{means_identifiers, means_categories, stands_to, means_link, means_value, means_chain, means, meaning}
use Rattle.language.specs.Calls.{core_of, run_text}
use Rattle.language.specs.Sample.{sample_text, Case, cases, marks_at, core_answer, direct_answer, CaseHolds}
use Rattle.language.proofs.Members.{and_true, all_at}

-- two lists of marks, and an answer beside marks, compared by a test that computes
pub same_marks : List Bool → List Bool → Bool
same_marks [] [] = true
same_marks [] (b ∷ l) = false
same_marks (a ∷ k) [] = false
same_marks (a ∷ k) (b ∷ l) = beq a b && same_marks k l

pub answers : Answer (List Bool) → List Bool → Bool
answers (refused n) l = false
answers (accepted k) l = same_marks k l

same_bit : (a b : Bool) → beq a b ≡ true → a ≡ b
same_bit true true h = refl
same_bit true false h = absurd (false≢true h)
same_bit false true h = absurd (false≢true h)
same_bit false false h = refl

same_marks_lem : (k l : List Bool) → same_marks k l ≡ true → k ≡ l
unfolding same_marks
same_marks_lem [] [] h = refl
same_marks_lem [] (b ∷ l) h = absurd (false≢true h)
same_marks_lem (a ∷ k) [] h = absurd (false≢true h)
same_marks_lem (a ∷ k) (b ∷ l) h = let t = and_true (beq a b) (same_marks k l) h in ap₂ ◌∷◌ (same_bit a b t.0) (same_marks_lem k l t.1)

answered : (a : Answer (List Bool)) (l : List Bool) → answers a l ≡ true → a ≡ accepted l
unfolding answers
answered (refused n) l h = absurd (false≢true h)
answered (accepted k) l h = ap accepted (same_marks_lem k l h)

pub holds_test : Case → Bool
holds_test c = answers (core_answer c.query) (marks_at 6 c.places) && answers (direct_answer c.query) (marks_at 6 c.places)

-- The claim: every case holds, for the core semantics and for the direct meaning.
pub claim : all holds_test cases ≡ true
unfolding holds_test answers same_marks core_answer direct_answer marks_at cases sample_text core_of run_text any all same order_of numbers span trim_end trim starts after is_free is_quotable is_name_byte is_value_byte is_digit table find composition is_mark is_plain is_wide pair_code is_pair read encode write compose composed composed_name has_name_shape is_name is_property_name is_namespace is_value reference decimal read_digits read_fraction read_thousandths read_number read_boolean read_link judge kind_among holds leads quoted first_kind kind_word_at prop_form page_form cat_form val_form closing next_entry entries_within entries_from some_twice properties value_of count_of over_limits add_category add_held filled pages_of register_of composed_entries read_register composed_chain composed_categories composed_identifiers composed_query names_of properties_of token first_typed comparator piece_at head_length split_dots trim_names pieces_within read_pieces plain_body closed_inner closed_group closed_body next_term query_within read_query read_whole names_in depth longest breaks_names breaks breaks_value categories_from identifiers_from surface read_text nodes compared elaborate_reference elaborate_identifiers elaborate_categories elaborate_constant elaborate_value inside joined along elaborate fit Ca Cv Cl follows Q some_other mismatch run namespace_meant is_meant means_identifiers means_categories stands_to means_link means_value means_chain means meaning
claim = refl

-- The law that turns the claim into each entry.
pub each : (c : Case) → Memᴰ c cases → CaseHolds c
unfolding holds_test
each c m =
    let t = and_true (answers (core_answer c.query) (marks_at 6 c.places)) (answers (direct_answer c.query) (marks_at 6 c.places)) (all_at holds_test claim m) in
    record { core = answered _ _ t.0; direct = answered _ _ t.1 }
