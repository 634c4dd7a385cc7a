use Rattle.type_definitions.specs.Types.{fields}
use Rattle.expression_types.proofs.ComponentNames.{argument_found}
use Rattle.expression_types.proofs.reader.Reader.argument_number.Goals as goal

pub returns-in-Parts : goal.returns-in-Parts
returns-in-Parts c =
    let components = fields c.args.self.now.known.now.table c.in-Parts.of in
    rw c.in-Parts.is (rw c.in-Some.is (argument_found c.in-Some.word components c.indexed_component.result c.indexed_component.ensures))

pub returns-in-Actuals : goal.returns-in-Actuals
returns-in-Actuals c = rw c.in-Actuals.is (rw c.in-Some.is c.indexed_formal.ensures)
