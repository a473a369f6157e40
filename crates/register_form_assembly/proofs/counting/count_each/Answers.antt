use borrow.Author.Rules.{rules}
use Rattle.register_form_assembly.proofs.Counts.{summing, summing_more}
use Rattle.register_form_assembly.proofs.counting.count_each.Goals as goal

pub loop-i-preserved : goal.loop-i-preserved
loop-i-preserved c = summing_more _ _ _ _ _ _ _ _ _ _ c.loop-i.invariant c.loop-i-test.true c.from.ensures c.get_or-t.ensures c.term_bytes.ensures c.add_capped-sum-in-loop-i.ensures

pub returns : goal.returns
returns c = search (summing, rules)
