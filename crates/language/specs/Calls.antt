-- What the query call and a run answer, as definitions: text to core query, and core query to marks.
use Rattle.std.specs.Prelude.{Bool, List}
use Rattle.text.specs.Bytes.{Bytes}
use Rattle.language.specs.Answer.{Answer, and_then}
use Rattle.language.specs.Register.{Register, kinds_of}
use Rattle.language.specs.QueryText.{read_text}
use Rattle.language.specs.Core.{Core}
use Rattle.language.specs.Elaboration.{fit}
use Rattle.language.specs.Semantics.{run}

-- The core query of a text by a register's kinds, or the lowest of 12 to 19.
unfoldable pub core_of : Register → Bytes → Answer Core
core_of R s = and_then (read_text s) (fit (kinds_of R))

-- The marks of a text's run on the register that it was fitted to.
unfoldable pub run_text : Bytes → Register → Answer (List Bool)
run_text s R = and_then (core_of R s) (λ c. run c R)
