use Rattle.expression_rules.proofs.checker.Checker.+traversed_fits.Given as goal

abbrev pub decreases-traversed_fits : goal.decreases-traversed_fits
decreases-traversed_fits l = l.e
