use Rattle.text.specs.Bytes.{Bytes}
use Rattle.language.specs.RegisterText.{properties}
use Rattle.register_text_entries.specs.Table.{entries_in}
use Rattle.register_text_draft.specs.Drafting.{draft_of}
use Rattle.register_text_draft.specs.Tables.{Holding, Roomy, Accepted}
use Rattle.register_text_draft.specs.Lent.{SameTables, together}
use Rattle.register_text_draft.proofs.draft_text.Given as goal

abbrev pub invariant-loop-i : goal.invariant-loop-i
invariant-loop-i l =
    ((typed : Bytes) → Accepted typed l.s l.t l.props l.n l.np → Roomy (together l.fn.texts l.fn.properties l.fn.pages l.fn.terms) → Holding (together l.texts l.properties l.pages l.terms) (draft_of (properties (entries_in l.s l.t l.n)) (entries_in l.s l.t l.i))) × SameTables (together l.fn.texts l.fn.properties l.fn.pages l.fn.terms) (together l.texts l.properties l.pages l.terms)
