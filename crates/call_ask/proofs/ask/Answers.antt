use Rattle.call_ask.proofs.Calls.{ask_unqueried, ask_unopened, ask_run}
use Rattle.call_ask.proofs.ask.Goals as goal

pub returns-then-not-is_query : goal.returns-then-not-is_query
returns-then-not-is_query c = ask_unqueried _ _ _ _ c.is_query.ensures c.if-not-is_query.true-raw

pub returns-then-not-open : goal.returns-then-not-open
returns-then-not-open c = ask_unopened _ _ _ _ c.is_query.ensures c.if-not-is_query.false-raw _ _ _ c.part-h.ensures c.before.before.«open».ensures c.if-not-open.true-raw

pub returns : goal.returns
returns c = ask_run _ _ _ _ c.is_query.ensures c.if-not-is_query.false-raw _ _ _ c.part-h.ensures c.before.before.before.before.before.before.before.«open».ensures _ _ c.if-not-open.false-raw c.run.ensures
