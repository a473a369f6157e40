use Rattle.register_form_bytes.proofs.Looping.{Laying}
use Rattle.dictionary.specs.Items.{texts_in}
use Rattle.register_form_bytes.proofs.regions.put_texts.Given as goal

abbrev pub invariant-loop-i : goal.invariant-loop-i
invariant-loop-i l = Laying l.initial.h l.at (texts_in l.list.texts) l.list.refs.now l.list.count l.h l.to l.i
