use Rattle.jskw_text.proofs.number.+at_most.Given as goal

abbrev pub decreases-at_most : goal.decreases-at_most
decreases-at_most l = l.scale
