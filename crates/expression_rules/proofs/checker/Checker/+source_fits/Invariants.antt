use Rattle.expression_rules.proofs.checker.Checker.+source_fits.Given as goal

abbrev pub decreases-source_fits : goal.decreases-source_fits
decreases-source_fits l = l.e
