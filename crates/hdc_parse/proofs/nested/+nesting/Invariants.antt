use Rattle.hdc_parse.proofs.nested.+nesting.Given as goal

abbrev pub decreases-nested_exp : goal.decreases-nested_exp
decreases-nested_exp l = l.depth

abbrev pub decreases-nested_block : goal.decreases-nested_block
decreases-nested_block l = l.depth

abbrev pub decreases-nested_alts : goal.decreases-nested_alts
decreases-nested_alts l = l.depth
