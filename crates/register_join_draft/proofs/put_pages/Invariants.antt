use Rattle.register_join_draft.specs.Drafting.{new_row}
use Rattle.register_join_draft.proofs.Writing.{PagesSo}
use Rattle.register_join_draft.proofs.put_pages.Given as goal

abbrev pub invariant-loop-i : goal.invariant-loop-i
invariant-loop-i l = PagesSo (new_row l.h l.g l.base l.pages l.identifiers) l.m l.initial.firsts l.initial.uses l.i l.firsts l.uses l.n
