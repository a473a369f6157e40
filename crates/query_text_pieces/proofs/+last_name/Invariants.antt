use Rattle.query_text_pieces.proofs.+last_name.Given as goal

abbrev pub decreases-last_name : goal.decreases-last_name
decreases-last_name l = l.len
