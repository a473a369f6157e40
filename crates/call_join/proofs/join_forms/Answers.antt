use Rattle.call_join.proofs.Calls.{forms_clash, forms_joined}
use Rattle.call_join.proofs.join_forms.Goals as goal

pub returns-then-kinds_clash : goal.returns-then-kinds_clash
returns-then-kinds_clash c = forms_clash _ _ _ _ _ _ _ _ _ _ c.merge-m.ensures.merged c.kinds_clash.ensures c.if-kinds_clash.true

pub returns : goal.returns
returns c =
    let t = c.texts.ensures in
    let w = rw (t.bytes, t.starts, t.lens) at c.write_join.ensures in
    forms_joined _ _ _ _ _ _ _ _ _ _ c.merge-m.ensures.merged c.kinds_clash.ensures _ _ c.if-kinds_clash.false w
