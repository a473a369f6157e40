use Prim.Native.Nat.{◌+◌, ◌*◌}
use lib.ListN.{length}
use Rattle.query_text_pieces.specs.Places.{from}
use Rattle.query_text_read.proofs.readers.+alternative_alternatives_bracket_conjunction_more_alternatives_more_conjunctions_more_terms_query_term.Given as goal

abbrev pub decreases-alternative : goal.decreases-alternative
decreases-alternative l = 4 * length (from l.s.now l.at)

abbrev pub decreases-alternatives : goal.decreases-alternatives
decreases-alternatives l = 4 * length (from l.s.now l.at) + 1

abbrev pub decreases-bracket : goal.decreases-bracket
decreases-bracket l = 4 * length (from l.s.now l.at) + 1

abbrev pub decreases-conjunction : goal.decreases-conjunction
decreases-conjunction l = 4 * length (from l.s.now l.at) + 2

abbrev pub decreases-more_alternatives : goal.decreases-more_alternatives
decreases-more_alternatives l = 4 * length (from l.s.now l.at)

abbrev pub decreases-more_conjunctions : goal.decreases-more_conjunctions
decreases-more_conjunctions l = 4 * length (from l.s.now l.at)

abbrev pub decreases-more_terms : goal.decreases-more_terms
decreases-more_terms l = 4 * length (from l.s.now l.at) + 1

abbrev pub decreases-query : goal.decreases-query
decreases-query l = 4 * length (from l.s.now l.at) + 3

abbrev pub decreases-term : goal.decreases-term
decreases-term l = 4 * length (from l.s.now l.at)
