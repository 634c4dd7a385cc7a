use Rattle.std.proofs.Common.{◌∙◌, length, slice_get, refl, sym, ap}
use Rattle.std.proofs.lemmas.Option.{slice_get_past, slice_get_read}
use Rattle.type_definitions.specs.Types.{fields}
use Rattle.expression_types.proofs.ComponentNames.{component_there, component_missing}
use Rattle.expression_types.proofs.reader.Reader.component.Goals as goal

pub returns-in-Some : goal.returns-in-Some
returns-in-Some c =
    let components = fields c.args.self.now.known.now.table c.args.t in
    let number = c.component_number.result in
    let at = c.in-Some.ensures.lookup in
    let there = slice_get_read c.fields.result.now (length c.fields.result.now) number c.in-Some.component.now refl at.3.0 at.1 in
    component_there c.args.word.now components number c.in-Some.component.now c.component_number.ensures
    (ap (λ cs. slice_get cs number) (sym c.fields.ensures) ∙ there)

pub returns-in-None : goal.returns-in-None
returns-in-None c =
    let components = fields c.args.self.now.known.now.table c.args.t in
    let number = c.component_number.result in
    component_missing c.args.word.now components number c.component_number.ensures
    (ap (λ cs. slice_get cs number) (sym c.fields.ensures) ∙ slice_get_past c.fields.result.now number c.in-None.ensures.lookup.3)
