use Rattle.expression_types.proofs.reader.Reader.+fits.Given as goal

abbrev pub decreases-fits : goal.decreases-fits
decreases-fits l = l.e
