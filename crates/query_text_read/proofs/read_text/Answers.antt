use Rattle.query_text_read.proofs.Texts.{text_long, text_none, text_tail, text_read}
use Rattle.query_text_read.proofs.read_text.Goals as goal

pub returns-then-s-gt1024 : goal.returns-then-s-gt1024
returns-then-s-gt1024 c = text_long _ _ c.if-s-gt1024.true

pub returns-in_default : goal.returns-in_default
returns-in_default c = text_none c.args.s.now c.if-s-gt1024.false _ _ _ c.query.ensures c.in_default.is

pub returns-then-scan-s : goal.returns-then-scan-s
returns-then-scan-s c = text_tail c.args.s.now c.if-s-gt1024.false _ _ _ c.query.ensures _ _ _ c.in-Some.is c.scan.ensures c.if-scan-s.true

pub returns : goal.returns
returns c = text_read c.args.s.now c.if-s-gt1024.false _ _ _ c.query.ensures _ _ _ c.in-Some.is c.scan.ensures _ _ c.if-scan-s.false c.finish.ensures c.verdict.ensures
