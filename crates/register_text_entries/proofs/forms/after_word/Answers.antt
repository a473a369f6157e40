use Rattle.register_text_entries.proofs.Ways.{words}
use Rattle.register_text_entries.proofs.forms.after_word.Goals as goal

pub returns-then-not-word_at : goal.returns-then-not-word_at
returns-then-not-word_at c = search words

pub returns-then-at-s : goal.returns-then-at-s
returns-then-at-s c = search words

pub returns-else-at-s : goal.returns-else-at-s
returns-else-at-s c = search words
