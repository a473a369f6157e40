use mathlib.Core.Path.{sym, ◌∙◌}
use Rattle.query_text_pieces.proofs.Laws.{ways, next_bracket, next_group}
use Rattle.query_text_pieces.proofs.next_term.Goals as goal

pub returns-in-Some : goal.returns-in-Some
returns-in-Some c = search ways

pub returns-then-is_some : goal.returns-then-is_some
returns-then-is_some c = next_bracket _ _ 0 _ c.token.ensures c.in_default.is _ c.token-2.ensures (sym c.is_some.ensures ∙ c.if-is_some.true)

pub returns-then-is_some-2 : goal.returns-then-is_some-2
returns-then-is_some-2 c = rw (← c.is_some-2.ensures, c.if-is_some-2.true) at (next_group _ _ 0 _ c.token.ensures c.in_default.is _ _ c.token-2.ensures (sym c.is_some.ensures ∙ c.if-is_some.false) c.token-3.ensures)

pub returns-else-is_some-2 : goal.returns-else-is_some-2
returns-else-is_some-2 c = rw (← c.is_some-2.ensures, c.if-is_some-2.false) at (next_group _ _ 0 _ c.token.ensures c.in_default.is _ _ c.token-2.ensures (sym c.is_some.ensures ∙ c.if-is_some.false) c.token-3.ensures)
