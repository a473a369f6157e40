use Rattle.values.proofs.has_bare_ends.Goals as goal

pub returns : goal.returns
returns c = rw (c.in_class.ensures, c.in_class-2.ensures, c.get_or.ensures, c.last_byte.ensures)
