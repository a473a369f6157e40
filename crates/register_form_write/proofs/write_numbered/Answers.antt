use Rattle.register_form_write.proofs.Closing.{many_properties, many_pages}
use Rattle.register_form_write.proofs.write_numbered.Goals as goal

pub returns-then-draft-gt-MOST_PROPERTIES : goal.returns-then-draft-gt-MOST_PROPERTIES
returns-then-draft-gt-MOST_PROPERTIES c = many_properties _ _ _ _ _ c.if-draft-gt-MOST_PROPERTIES.true

pub returns-then-draft-gt-MOST_PAGES : goal.returns-then-draft-gt-MOST_PAGES
returns-then-draft-gt-MOST_PAGES c = many_pages _ _ _ _ _ c.if-draft-gt-MOST_PROPERTIES.false c.if-draft-gt-MOST_PAGES.true
