use Rattle.language.specs.Comparators.{comparator_from}
use borrow.Author.Tests.{ne_eqb}
use Rattle.language.proofs.comparators.comparator_from.Goals as goal

pub returns-in-0 : goal.returns-in-0
unfolding comparator_from
returns-in-0 c = rw c.in-0.is

pub returns-in-1 : goal.returns-in-1
unfolding comparator_from
returns-in-1 c = rw c.in-1.is

pub returns-in-2 : goal.returns-in-2
unfolding comparator_from
returns-in-2 c = rw c.in-2.is

pub returns-in-3 : goal.returns-in-3
unfolding comparator_from
returns-in-3 c = rw c.in-3.is

pub returns-in-4 : goal.returns-in-4
unfolding comparator_from
returns-in-4 c = rw c.in-4.is

pub returns-in_default : goal.returns-in_default
unfolding comparator_from
returns-in_default c = rw (ne_eqb _ 0 c.in_default.in_default-own.rest.0.0.0.0.1, ne_eqb _ 1 c.in_default.in_default-own.rest.0.0.0.1, ne_eqb _ 2 c.in_default.in_default-own.rest.0.0.1, ne_eqb _ 3 c.in_default.in_default-own.rest.0.1, ne_eqb _ 4 c.in_default.in_default-own.rest.1)
