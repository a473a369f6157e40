use borrow.Author.Rules.{rules}
use Rattle.query_text_heads.specs.Trees.{effect, effect_in}
use Rattle.query_text_read.proofs.Ways.{cycle, bracket_got, alternative_group, or_joined, and_joined, more_joined}
use Rattle.query_text_read.proofs.Falls.{fall, fall_more, fall_or, fall_and, head_fits}
use Rattle.query_text_read.proofs.readers.+alternative_alternatives_bracket_conjunction_more_alternatives_more_conjunctions_more_terms_query_term.Goals as goal

pub alternative-query-requires : goal.alternative-query-requires
alternative-query-requires t c = search (fall, rules)

pub alternative-returns-in_err-next : goal.alternative-returns-in_err-next
alternative-returns-in_err-next t c = let n = c.in_err-next.was in rw c.from_residual.ensures (search cycle)

pub alternative-returns-in_err-end : goal.alternative-returns-in_err-end
alternative-returns-in_err-end t c = let n = c.in_ok-next.was in let m = c.in_err-end.was in rw c.from_residual-in_err-end.ensures (search cycle)

pub alternative-returns-in-Some : goal.alternative-returns-in-Some
alternative-returns-in-Some t c = alternative_group _ c.args.depth _ _ _ _ _ c.token.ensures _ c.in-Some.is _ c.one_deeper.ensures _ c.query.ensures _ _ c.in_ok-next.was _ c.inner_end.ensures _ _ _ c.in_ok-end.was c.add-wrapped.ensures

pub alternative-returns : goal.alternative-returns
alternative-returns t c = search cycle

pub alternatives-returns-in_err-next : goal.alternatives-returns-in_err-next
alternatives-returns-in_err-next t c = let n = c.in_err-next.was in rw c.from_residual.ensures (search cycle)

pub alternatives-more_alternatives-requires : goal.alternatives-more_alternatives-requires
alternatives-more_alternatives-requires t c = let n = c.in_ok-next.was in search (fall, rules)

pub alternatives-returns : goal.alternatives-returns
alternatives-returns t c = let n = c.in_ok-next.was in rw c.again.ensures (search cycle)

pub conjunction-returns-in_err-next : goal.conjunction-returns-in_err-next
conjunction-returns-in_err-next t c = let n = c.in_err-next.was in rw c.from_residual.ensures (search cycle)

pub conjunction-more_terms-requires : goal.conjunction-more_terms-requires
conjunction-more_terms-requires t c = let n = c.in_ok-next.was in search (fall, rules)

pub conjunction-returns : goal.conjunction-returns
conjunction-returns t c = let n = c.in_ok-next.was in rw c.again.ensures (search cycle)

pub query-returns-in_err-next : goal.query-returns-in_err-next
query-returns-in_err-next t c = let n = c.in_err-next.was in rw c.from_residual.ensures (search cycle)

pub query-more_conjunctions-requires : goal.query-more_conjunctions-requires
query-more_conjunctions-requires t c = let n = c.in_ok-next.was in search (fall, rules)

pub query-returns : goal.query-returns
query-returns t c = let n = c.in_ok-next.was in rw c.again.ensures (search cycle)

pub bracket-returns-in_default : goal.bracket-returns-in_default
bracket-returns-in_default t c = rw c.again.ensures (search cycle)

pub bracket-overflow_sub-len : goal.bracket-overflow_sub-len
bracket-overflow_sub-len t c = search (fall, rules)

pub bracket-returns-then-not-all_in : goal.bracket-returns-then-not-all_in
bracket-returns-then-not-all_in t c = search cycle

pub bracket-overflow_add-end : goal.bracket-overflow_add-end
bracket-overflow_add-end t c = search (rules, head_fits _ _ _ _ c.head_end.ensures c.in-Some.is)

pub bracket-alternatives-requires : goal.bracket-alternatives-requires
bracket-alternatives-requires t c = search (fall, rules)

pub bracket-returns-in_err-next : goal.bracket-returns-in_err-next
bracket-returns-in_err-next t c = let n = c.in_err-next.was in rw c.from_residual.ensures (search cycle)

pub bracket-returns-in_err-close : goal.bracket-returns-in_err-close
bracket-returns-in_err-close t c = let n = c.in_ok-next.was in let m = c.in_err-close.was in rw c.from_residual-in_err-close.ensures (search cycle)

pub bracket-returns : goal.bracket-returns
bracket-returns t c = bracket_got _ _ _ _ _ _ _ _ _ c.head_end.ensures c.in-Some.is c.part.ensures c.all_in.ensures c.if-not-all_in.false-raw _ _ c.alternatives.ensures _ _ c.in_ok-next.was _ c.after.ensures _ _ _ c.in_ok-close.was c.chain-named.ensures

pub more_alternatives-returns-in_default : goal.more_alternatives-returns-in_default
more_alternatives-returns-in_default t c = search cycle

pub more_alternatives-alternative-requires : goal.more_alternatives-alternative-requires
more_alternatives-alternative-requires t c = search (fall, rules)

pub more_alternatives-returns-in_err-next : goal.more_alternatives-returns-in_err-next
more_alternatives-returns-in_err-next t c = let n = c.in_err-next.was in rw c.from_residual.ensures (search cycle)

pub more_alternatives-more_alternatives-requires : goal.more_alternatives-more_alternatives-requires
more_alternatives-more_alternatives-requires t c = (fall_more c.args.s.now c.args.at _ _ _ _ _ c.after.ensures c.in-Some.is (effect_in c.args.depth) _ _ _ _ _ _ c.alternative.ensures c.in_ok-next.was c.decreases, tt)

pub more_alternatives-returns : goal.more_alternatives-returns
more_alternatives-returns t c = rw c.again.ensures (more_joined _ _ _ _ _ _ _ _ _ _ _ _ _ _ _ c.after.ensures c.in-Some.is c.alternative.ensures c.in_ok-next.was c.join-joined.ensures c.more_alternatives.ensures)

pub more_conjunctions-returns-in_default : goal.more_conjunctions-returns-in_default
more_conjunctions-returns-in_default t c = search cycle

pub more_conjunctions-conjunction-requires : goal.more_conjunctions-conjunction-requires
more_conjunctions-conjunction-requires t c = search (fall, rules)

pub more_conjunctions-returns-in_err-next : goal.more_conjunctions-returns-in_err-next
more_conjunctions-returns-in_err-next t c = let n = c.in_err-next.was in rw c.from_residual.ensures (search cycle)

pub more_conjunctions-more_conjunctions-requires : goal.more_conjunctions-more_conjunctions-requires
more_conjunctions-more_conjunctions-requires t c = (fall_or c.args.s.now c.args.at _ _ _ _ _ c.token.ensures c.in-Some.is (effect c.args.depth) _ _ _ _ _ _ c.conjunction.ensures c.in_ok-next.was c.decreases, tt)

pub more_conjunctions-returns : goal.more_conjunctions-returns
more_conjunctions-returns t c = rw c.again.ensures (or_joined _ _ _ _ _ _ _ _ _ _ _ _ _ _ _ c.token.ensures c.in-Some.is c.conjunction.ensures c.in_ok-next.was c.join-joined.ensures c.more_conjunctions.ensures)

pub more_terms-returns-in_default : goal.more_terms-returns-in_default
more_terms-returns-in_default t c = search cycle

pub more_terms-term-requires : goal.more_terms-term-requires
more_terms-term-requires t c = search (fall, rules)

pub more_terms-returns-in_err-next : goal.more_terms-returns-in_err-next
more_terms-returns-in_err-next t c = let n = c.in_err-next.was in rw c.from_residual.ensures (search cycle)

pub more_terms-more_terms-requires : goal.more_terms-more_terms-requires
more_terms-more_terms-requires t c = (fall_and c.args.s.now c.args.at _ _ _ c.next_term.ensures c.in-Some.is (effect c.args.depth) _ _ _ _ _ _ c.term.ensures c.in_ok-next.was c.decreases, tt)

pub more_terms-returns : goal.more_terms-returns
more_terms-returns t c = rw c.again.ensures (and_joined _ _ _ _ _ _ _ _ _ _ _ _ _ _ _ c.next_term.ensures c.in-Some.is c.term.ensures c.in_ok-next.was c.join-joined.ensures c.more_terms.ensures)

pub term-query-requires : goal.term-query-requires
term-query-requires t c = search (fall, rules)

pub term-returns-in_err-next : goal.term-returns-in_err-next
term-returns-in_err-next t c = let n = c.in_err-next.was in rw c.from_residual.ensures (search cycle)

pub term-returns-in_err-end : goal.term-returns-in_err-end
term-returns-in_err-end t c = let n = c.in_ok-next.was in let m = c.in_err-end.was in rw c.from_residual-in_err-end.ensures (search cycle)

pub term-returns-in-Some : goal.term-returns-in-Some
term-returns-in-Some t c = let n = c.in_ok-next.was in let m = c.in_ok-end.was in search cycle

pub term-returns-in_err-i : goal.term-returns-in_err-i
term-returns-in_err-i t c = let n = c.in_err-i.was in rw c.from_residual-in_err-i.ensures (search cycle)

pub term-bracket-requires : goal.term-bracket-requires
term-bracket-requires t c = let n = c.in_ok-i.was in search (fall, rules)

pub term-returns : goal.term-returns
term-returns t c = let n = c.in_ok-i.was in rw c.again.ensures (search cycle)
