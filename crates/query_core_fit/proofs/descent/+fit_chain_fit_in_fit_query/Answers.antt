use borrow.Author.Rules.{rules}
use native.Mathlib.Omega.{arith}
use Rattle.query_core_fit.proofs.Ways.{descends}
use Rattle.query_core_fit.proofs.descent.+fit_chain_fit_in_fit_query.Goals as goal

pub fit_chain-returns-then-i-eq0 : goal.fit_chain-returns-then-i-eq0
fit_chain-returns-then-i-eq0 t c = search (descends, rules)

pub fit_chain-fit_in-requires : goal.fit_chain-fit_in-requires
fit_chain-fit_in-requires t c = (omega arith, tt)

pub fit_chain-fit_chain-requires : goal.fit_chain-fit_chain-requires
fit_chain-fit_chain-requires t c = (omega arith, tt)

pub fit_chain-returns-in-Two : goal.fit_chain-returns-in-Two
fit_chain-returns-in-Two t c = search (descends, rules)

pub fit_chain-returns-in-Subquery : goal.fit_chain-returns-in-Subquery
fit_chain-returns-in-Subquery t c = search (descends, rules)

pub fit_chain-returns-in-Property : goal.fit_chain-returns-in-Property
fit_chain-returns-in-Property t c = search (descends, rules)

pub fit_chain-returns-in-Leaf : goal.fit_chain-returns-in-Leaf
fit_chain-returns-in-Leaf t c = search (descends, rules)

pub fit_in-returns-then-i-eq0 : goal.fit_in-returns-then-i-eq0
fit_in-returns-then-i-eq0 t c = search (descends, rules)

pub fit_in-returns-then-last-n : goal.fit_in-returns-then-last-n
fit_in-returns-then-last-n t c = search (descends, rules)

pub fit_in-fit_in-requires : goal.fit_in-fit_in-requires
fit_in-fit_in-requires t c = (omega arith, tt)

pub fit_in-fit_query-requires : goal.fit_in-fit_query-requires
fit_in-fit_query-requires t c = (omega arith, tt)

pub fit_in-returns-in-Property : goal.fit_in-returns-in-Property
fit_in-returns-in-Property t c = search (descends, rules)

pub fit_in-returns-in-Link : goal.fit_in-returns-in-Link
fit_in-returns-in-Link t c = search (descends, rules)

pub fit_in-returns-in-Leaf : goal.fit_in-returns-in-Leaf
fit_in-returns-in-Leaf t c = search (descends, rules)

pub fit_query-returns-then-i-eq0 : goal.fit_query-returns-then-i-eq0
fit_query-returns-then-i-eq0 t c = search (descends, rules)

pub fit_query-returns-then-last-n : goal.fit_query-returns-then-last-n
fit_query-returns-then-last-n t c = search (descends, rules)

pub fit_query-fit_query-requires : goal.fit_query-fit_query-requires
fit_query-fit_query-requires t c = (omega arith, tt)

pub fit_query-fit_chain-requires : goal.fit_query-fit_chain-requires
fit_query-fit_chain-requires t c = (omega arith, tt)

pub fit_query-fit_chain-requires-in-Link : goal.fit_query-fit_chain-requires-in-Link
fit_query-fit_chain-requires-in-Link t c = (omega arith, tt)

pub fit_query-returns-in-Subquery : goal.fit_query-returns-in-Subquery
fit_query-returns-in-Subquery t c = search (descends, rules)

pub fit_query-returns-in-Property : goal.fit_query-returns-in-Property
fit_query-returns-in-Property t c = rw c.again.ensures (search (descends, rules))

pub fit_query-returns-in-Link : goal.fit_query-returns-in-Link
fit_query-returns-in-Link t c = rw c.again-in-Link.ensures (search (descends, rules))

pub fit_query-returns-in-Leaf : goal.fit_query-returns-in-Leaf
fit_query-returns-in-Leaf t c = rw c.again-in-Leaf.ensures (search (descends, rules))

pub fit_chain-returns-in_err-rest-in-Link : goal.fit_chain-returns-in_err-rest-in-Link
fit_chain-returns-in_err-rest-in-Link t c = let n = c.in_err-rest-in-Link.was in rw c.from_residual.ensures (search (descends, rules))

pub fit_in-returns-in_err-first-in-Two : goal.fit_in-returns-in_err-first-in-Two
fit_in-returns-in_err-first-in-Two t c = let n = c.in_err-first-in-Two.was in rw c.from_residual.ensures (search (descends, rules))

pub fit_in-returns-in_err-inner-in-Subquery : goal.fit_in-returns-in_err-inner-in-Subquery
fit_in-returns-in_err-inner-in-Subquery t c = let n = c.in_err-inner-in-Subquery.was in rw c.from_residual-in_err-inner-in-Subquery.ensures (search (descends, rules))

pub fit_query-returns-in_err-first-in-Two : goal.fit_query-returns-in_err-first-in-Two
fit_query-returns-in_err-first-in-Two t c = let n = c.in_err-first-in-Two.was in rw c.from_residual.ensures (search (descends, rules))

pub fit_in-returns-in_err-second-in-Two : goal.fit_in-returns-in_err-second-in-Two
fit_in-returns-in_err-second-in-Two t c = let m = c.in_ok-first-in-Two.was in let n = c.in_err-second-in-Two.was in rw c.from_residual-in_err-second-in-Two.ensures (search (descends, rules))

pub fit_query-returns-in_err-second-in-Two : goal.fit_query-returns-in_err-second-in-Two
fit_query-returns-in_err-second-in-Two t c = let m = c.in_ok-first-in-Two.was in let n = c.in_err-second-in-Two.was in rw c.from_residual-in_err-second-in-Two.ensures (search (descends, rules))

pub fit_chain-returns-in_ok-rest-in-Link : goal.fit_chain-returns-in_ok-rest-in-Link
fit_chain-returns-in_ok-rest-in-Link t c = let n = c.in_ok-rest-in-Link.was in search (descends, rules)

pub fit_in-returns-in_ok-inner-in-Subquery : goal.fit_in-returns-in_ok-inner-in-Subquery
fit_in-returns-in_ok-inner-in-Subquery t c = let n = c.in_ok-inner-in-Subquery.was in search (descends, rules)

pub fit_in-returns-in_ok-second-in-Two : goal.fit_in-returns-in_ok-second-in-Two
fit_in-returns-in_ok-second-in-Two t c = let m = c.in_ok-first-in-Two.was in let n = c.in_ok-second-in-Two.was in search (descends, rules)

pub fit_query-returns-in_ok-second-in-Two : goal.fit_query-returns-in_ok-second-in-Two
fit_query-returns-in_ok-second-in-Two t c = let m = c.in_ok-first-in-Two.was in let n = c.in_ok-second-in-Two.was in search (descends, rules)
