use Rattle.call_query.proofs.Ways.{fits}
use borrow.Author.Rules.{rules}
use Rattle.call_query.proofs.fit.Goals as goal

pub returns-then-not-is_register : goal.returns-then-not-is_register
returns-then-not-is_register c = search (fits, rules)

pub returns-then-not-is_tree : goal.returns-then-not-is_tree
returns-then-not-is_tree c = search (fits, rules)

pub returns : goal.returns
returns c = search (fits, rules)
