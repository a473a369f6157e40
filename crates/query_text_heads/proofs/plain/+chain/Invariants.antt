use Rattle.query_text_heads.proofs.plain.+chain.Given as goal

abbrev pub decreases-chain : goal.decreases-chain
decreases-chain l = l.len
