use borrow.Author.Rules.{rules}
use Rattle.register_form_assembly.proofs.Counts.{summing}
use Rattle.register_form_assembly.proofs.counting.count_texts.Goals as goal

pub loop-i-preserved : goal.loop-i-preserved
loop-i-preserved c = search (summing, rules)

pub returns : goal.returns
returns c = search (summing, rules)
