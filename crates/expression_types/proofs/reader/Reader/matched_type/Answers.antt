use Rattle.std.proofs.Common.{◌∙◌}
use Rattle.expression_types.specs.Here.{here}
use Rattle.expression_types.proofs.Occurrences.{type_number}
use Rattle.expression_types.proofs.reader.Reader.matched_type.Goals as goal

pub returns-in-Some : goal.returns-in-Some
returns-in-Some c =
    let context = here c.args.self.now in
    let found = rw c.in-Some.is at c.argument_number.ensures in
    c.role_type.ensures ∙ type_number context c.args.role c.args.i _ c.args.name.now (found c.args.i)
