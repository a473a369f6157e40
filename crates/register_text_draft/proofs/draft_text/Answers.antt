use mathlib.Core.Path.{◌≡◌, subst}
use native.Mathlib.Omega.{arith}
use Rattle.language.specs.RegisterText.{properties}
use Rattle.register_text_entries.specs.Table.{entries_in}
use Rattle.register_text_draft.specs.Drafting.{draft_of}
use Rattle.register_text_draft.specs.Tables.{Holding}
use Rattle.register_text_draft.specs.Lent.{together}
use Rattle.register_text_draft.proofs.Loop.{row_added, none_drafted, holding_is}
use Rattle.register_text_draft.proofs.Lent.{tables_then}
use Rattle.register_text_draft.proofs.draft_text.Goals as goal

pub loop-i-init : goal.loop-i-init
loop-i-init c = ((λ q a r. rw none_drafted (c.clear.ensures.cleared r)), c.clear.ensures.same_slices)

pub loop-i-preserved : goal.loop-i-preserved
loop-i-preserved c = ((λ q a r. row_added q c.args.s.now c.args.t.now c.args.props.now c.args.n c.args.np a c.loop-i.i c.loop-i-test.true (together c.loop-i.texts c.loop-i.properties c.loop-i.pages c.loop-i.terms) (together c.draft_entry.new.texts c.draft_entry.new.properties c.draft_entry.new.pages c.draft_entry.new.terms) c.item_at.result c.item_at.ensures c.draft_entry.ensures.added (c.loop-i.invariant.0 q a r)), tables_then _ _ _ c.loop-i.invariant.1 c.draft_entry.ensures.same_slices)

pub returns-clause-drafted : goal.returns-clause-drafted
returns-clause-drafted c = λ q a r uses own.
    let s = c.args.s.now in
    let t = c.args.t.now in
    let e : c.loop-i.i ≡ c.args.n = omega (arith, c.loop-i-test.false) in
    holding_is _ _ (subst (λ k. Holding (together c.loop-i.texts c.loop-i.properties c.loop-i.pages c.loop-i.terms) (draft_of (properties (entries_in s t c.args.n)) (entries_in s t k))) e (c.loop-i.invariant.0 q a r)) uses own

pub returns-clause-same_slices : goal.returns-clause-same_slices
returns-clause-same_slices c = c.loop-i.invariant.1
