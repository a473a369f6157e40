use Rattle.register_text_entries.proofs.Ways.{next_cat, next_val, next_close, next_prop, next_page}
use Rattle.register_text_entries.proofs.forms.next_entry.Goals as goal

pub returns-in-Some : goal.returns-in-Some
returns-in-Some c = search next_cat

pub returns-in-Some-val_form : goal.returns-in-Some-val_form
returns-in-Some-val_form c = search next_val

pub returns-then-inner : goal.returns-then-inner
returns-then-inner c = search next_close

pub returns-in-Some-prop_form : goal.returns-in-Some-prop_form
returns-in-Some-prop_form c = search next_prop

pub returns : goal.returns
returns c = search next_page
