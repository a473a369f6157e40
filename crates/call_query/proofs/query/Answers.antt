use borrow.Author.Rules.{rules}
use Rattle.call_query.proofs.Ways.{handed, reading, query_unread, query_fits}
use Rattle.call_query.proofs.query.Goals as goal

pub returns-then-not-is_register : goal.returns-then-not-is_register
returns-then-not-is_register c = search (reading, rules)

pub returns-in_err-read_text : goal.returns-in_err-read_text
returns-in_err-read_text c = rw (handed _ _ c.from_residual.ensures) (query_unread _ _ _ c.read_text.ensures _ _ _ c.is_register.ensures c.if-not-is_register.false-raw _ c.in_err-read_text.was)

pub returns : goal.returns
returns c = query_fits _ _ _ c.read_text.ensures _ _ _ c.is_register.ensures c.if-not-is_register.false-raw _ _ _ _ c.in_ok-read_text.was c.part-h.ensures c.fit_into.ensures
