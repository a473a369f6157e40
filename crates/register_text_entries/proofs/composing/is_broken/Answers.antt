use Rattle.register_text_entries.proofs.Copying.{broken}
use borrow.Author.Rules.{rules}
use Rattle.register_text_entries.proofs.composing.is_broken.Goals as goal

-- src/composing.rt:113:1
pub returns-in-Prop : goal.returns-in-Prop
returns-in-Prop c = search (broken, rules)

-- src/composing.rt:113:1
pub returns-in-Page : goal.returns-in-Page
returns-in-Page c = search (broken, rules)

-- src/composing.rt:113:1
pub returns-in-Cat : goal.returns-in-Cat
returns-in-Cat c = search (broken, rules)

-- src/composing.rt:113:1
pub returns-in-Val : goal.returns-in-Val
returns-in-Val c = search (broken, rules)
