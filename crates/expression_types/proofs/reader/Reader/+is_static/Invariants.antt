use Rattle.expression_types.proofs.reader.Reader.+is_static.Given as goal

abbrev pub decreases-is_static : goal.decreases-is_static
decreases-is_static l = l.e
