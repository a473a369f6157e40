use mathlib.Core.Path.{refl}
use native.Mathlib.Omega.{arith}
use lib.ListN.{length-set}
use borrow.Author.Rules.{rules}
use Rattle.register_join_draft.proofs.Writing.{forms_start, forms_block, forms_ended, not_refused}
use Rattle.register_join_draft.proofs.forms.put_forms.Goals as goal

pub loop-i-init : goal.loop-i-init
loop-i-init c = let w = c.lies_within.ensures (not_refused _ c.if-not-lies_within.false-raw) in (w.0, w.1, w.2, refl, forms_start _ _ _ _ _ _)

pub loop-i-preserved : goal.loop-i-preserved
loop-i-preserved c = (search rules, search rules, search rules, simp length-set (omega arith), forms_block _ _ _ _ _ _ _ _ _ _ _ _ _ _ c.loop-i.invariant.4 (omega arith) (omega arith) refl (omega arith) c.from-to.ensures c.pair.ensures c.place_behind.ensures refl)

pub returns : goal.returns
returns c = forms_ended _ _ _ _ _ _ _ _ _ _ _ _ c.loop-i.invariant.4 c.from-k.ensures c.saturating_sub.ensures (omega arith) (omega arith) c.from-to.ensures (omega arith) c.narrow.ensures
