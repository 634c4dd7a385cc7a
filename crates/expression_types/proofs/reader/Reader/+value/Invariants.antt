use Rattle.expression_types.proofs.reader.Reader.+value.Given as goal

abbrev pub decreases-value : goal.decreases-value
decreases-value l = l.e
