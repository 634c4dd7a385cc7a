use Rattle.std.proofs.Common.{rules}
use Rattle.run_values.proofs.Division.{quotient_law}
use Rattle.run_values.proofs.arithmetic.div.Goals as goal

pub returns-clause-law : goal.returns-clause-law
returns-clause-law c = search (rules, quotient_law)
