use Rattle.expression_types.proofs.reader.Reader.+own_type.Given as goal

abbrev pub decreases-own_type : goal.decreases-own_type
decreases-own_type l = l.e
