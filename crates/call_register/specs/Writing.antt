-- Working definitions: the register call on rows that a text gave.
use Rattle.std.specs.Prelude.{ℕ, List, Result}
use Rattle.text.specs.Bytes.{Bytes}
use Rattle.language.specs.Answer.{Answered}
use Rattle.language.specs.Refusals.{number_of}
use Rattle.language.specs.declared.refusals.Refusal.{Refusal}
use Rattle.call_answers.specs.Calls.{register_call}
use Rattle.register_text_verdict.specs.Checks.{RowsRead, Prepared}
use Rattle.register_text_draft.specs.Tables.{Accepted}

-- What writing the register of an accepted text answers, whose entries, over the text c, and properties are in tables.
pub record Writes (c : Bytes) (t props : List ℕ) (n np : ℕ) (b : Bytes) (r : Result (Unit {0}) Refusal) (after : Bytes) : Type 0 where
  pub is : (s : Bytes) → Accepted s c t props n np → Answered (register_call s b) b (number_of r) after

-- What judging and writing prepared rows answers, of whichever text they are.
pub record Registers (c : Bytes) (t : List ℕ) (n : ℕ) (b : Bytes) (r : Result (Unit {0}) Refusal) (after : Bytes) : Type 0 where
  pub is : (s : Bytes) → Prepared s c t n → Answered (register_call s b) b (number_of r) after

-- The same of rows as typed.
pub record RegistersTyped (s : Bytes) (t : List ℕ) (n : ℕ) (b : Bytes) (r : Result (Unit {0}) Refusal) (after : Bytes) : Type 0 where
  pub is : RowsRead s t n → Answered (register_call s b) b (number_of r) after
