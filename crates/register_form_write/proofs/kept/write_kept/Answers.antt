use Rattle.register_form_write.proofs.Answering.{zeros_fresh, kept_many, kept_long, kept_written}
use Rattle.register_form_write.proofs.kept.write_kept.Goals as goal

pub returns-then-n-gt-MOST_FORMS : goal.returns-then-n-gt-MOST_FORMS
returns-then-n-gt-MOST_FORMS c = kept_many _ _ _ _ _ _ _ _ (zeros_fresh _) c.keep_forms-n.ensures c.if-n-gt-MOST_FORMS.true

pub returns-then-bytes-gt-MOST_COUNTED : goal.returns-then-bytes-gt-MOST_COUNTED
returns-then-bytes-gt-MOST_COUNTED c = kept_long _ _ _ _ _ _ _ _ (zeros_fresh _) c.keep_forms-n.ensures c.if-n-gt-MOST_FORMS.false _ c.count_all-bytes.ensures c.if-bytes-gt-MOST_COUNTED.true

pub returns : goal.returns
returns c = kept_written _ _ _ _ _ _ _ _ (zeros_fresh _) c.keep_forms-n.ensures c.if-n-gt-MOST_FORMS.false _ c.count_all-bytes.ensures _ _ _ c.if-bytes-gt-MOST_COUNTED.false c.next.ensures c.write_fitting.ensures
