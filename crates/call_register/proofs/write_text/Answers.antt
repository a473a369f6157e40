use native.Mathlib.Omega.{arith}
use Rattle.call_register.proofs.Calls.{zeros_many, text_written}
use Rattle.call_register.proofs.write_text.Goals as goal

pub returns : goal.returns
returns c =
    let w = rw c.draft_of.ensures at c.write_draft.ensures in
    text_written _ _ _ _ _ _ c.draft_text.new.self (λ s a. c.draft_text.ensures.drafted s a (record {
      heap_room = omega (arith, zeros_many 35136);
      starts_room = omega (arith, zeros_many 2368);
      lens_room = omega (arith, zeros_many 2368);
      kinds_room = omega (arith, zeros_many 64);
      names_room = omega (arith, zeros_many 64);
      identifiers_room = omega (arith, zeros_many 256);
      firsts_room = omega (arith, zeros_many 257);
      groups_room = omega (arith, zeros_many 2048);
      codes_room = omega (arith, zeros_many 2048);
    })) _ _ _ c.put_own.ensures w
