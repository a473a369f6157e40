use Rattle.register_text_draft.proofs.Filling.{value_page, value_scalar, value_string}
use Rattle.register_text_draft.proofs.Lent.{same_texts}
use Rattle.register_text_draft.proofs.TextTable.push_value.Goals as goal

pub returns-in-Page-clause-pushed : goal.returns-in-Page-clause-pushed
returns-in-Page-clause-pushed c = λ w e short. value_page _ _ c.args.kind c.args.v.now w e short c.in-Page.is c.push_link.ensures.pushed

pub returns-in-Scalar-clause-pushed : goal.returns-in-Scalar-clause-pushed
returns-in-Scalar-clause-pushed c = λ w e short. value_scalar _ c.args.kind c.args.v.now w e _ c.in-Scalar.is

pub returns-in-String-clause-pushed : goal.returns-in-String-clause-pushed
returns-in-String-clause-pushed c = λ w e short. value_string _ _ c.args.kind c.args.v.now w e short c.in-String.is _ c.part.ensures c.push_text.ensures.pushed

pub returns-in-Scalar-clause-same_slices : goal.returns-in-Scalar-clause-same_slices
returns-in-Scalar-clause-same_slices c = same_texts _
