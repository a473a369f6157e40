use Prim.Native.Nat.{◌*◌, ◌≤◌}
use Rattle.register_form_bytes.proofs.Looping.{Starting}
use Rattle.dictionary.specs.Items.{texts_in}
use Rattle.register_form_bytes.proofs.regions.put_starts.Given as goal

abbrev pub invariant-loop-i : goal.invariant-loop-i
invariant-loop-i l = (l.i ≤ l.list.count) × (l.sum ≤ 65535 * l.i) × Starting l.initial.h l.base (texts_in l.list.texts) l.list.refs.now l.list.count l.h l.sum l.i
