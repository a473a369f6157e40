use Rattle.register_text_draft.proofs.Ways.{code_page, code_scalar, code_string}
use Rattle.register_text_draft.proofs.texts.value_code.Goals as goal

pub returns-in-Page : goal.returns-in-Page
returns-in-Page c = λ w h. code_page c.args.kind c.args.v.now c.args.n w h c.in-Page.is _ c.from.ensures

pub returns-in-Scalar : goal.returns-in-Scalar
returns-in-Scalar c = λ w h. code_scalar c.args.kind c.args.v.now c.args.n w h _ c.in-Scalar.is _ c.read_scalar.ensures _ c.unwrap_or.ensures

pub returns-in-String : goal.returns-in-String
returns-in-String c = λ w h. code_string c.args.kind c.args.v.now c.args.n w h c.in-String.is _ c.from-in-String.ensures
