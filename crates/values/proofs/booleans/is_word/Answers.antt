use mathlib.Core.Path.{◌∙◌}
use mathlib.Core.List.{map}
use lib.ListN.{length-map}
use borrow.Author.Rules.{rules}
use borrow.Author.Tests.{tests, ne_eqb}
use Rattle.std.proofs.lemmas.Iterator.Consumers.{YieldsList-at}
use Rattle.std.proofs.lemmas.Iterator.{YieldsList-from_slice, YieldsList-from_map, YieldsList-from_zip, same_from_all}
use Rattle.values.specs.Values.{lower}
use Rattle.values.proofs.Laws.{word_told, word_unlike}
use Rattle.values.proofs.booleans.is_word.Goals as goal

pub returns-then-s-w : goal.returns-then-s-w
returns-then-s-w c =
    word_told _ _ _
    (same_from_all c.all.new.self _ _ (map lower c.args.s.now) c.args.w.now c.all.ensures.ran
    (YieldsList-from_zip
    (YieldsList-at c.zip.ensures.first (YieldsList-from_map _ lower (YieldsList-at c.map.ensures.source (YieldsList-from_slice c.args.s.now c.iter.ensures.rest)) c.map.ensures.closure (λ x r q k. search rules)))
    (YieldsList-at c.zip.ensures.second (YieldsList-from_slice c.args.w.now c.iter-then-s-w.ensures.rest)))
    (length-map c.args.s.now lower ∙ c.if-s-w.true) (λ x q k. search (rules, tests)) (λ x q k. search (rules, tests)))

pub returns-else-s-w : goal.returns-else-s-w
returns-else-s-w c = rw (word_unlike _ _ c.if-s-w.false) (ne_eqb _ _ c.if-s-w.false)
