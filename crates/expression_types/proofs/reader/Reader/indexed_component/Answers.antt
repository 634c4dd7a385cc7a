use Rattle.std.proofs.Common.{◌∙◌, length, Some, None, refl, sym, ap}
use Rattle.std.proofs.lemmas.Option.{slice_get_read}
use Rattle.expression_types.proofs.ComponentNames.{first_found}
use Rattle.expression_types.proofs.reader.Reader.indexed_component.Goals as goal

pub returns-in-Ok-Some : goal.returns-in-Ok-Some
returns-in-Ok-Some c =
    let reader = c.args.self.now in
    let indexes = reader.components.now in
    let at = c.in-Some-Some.ensures.lookup in
    let there =
    slice_get_read indexes (length indexes) c.meant_type.result c.in-Some-Some.field-0.now refl at.3.0 at.1 ∙ ap Some c.in-Some-Some.field-0-is in
    first_found reader.known.now.table indexes c.args.t c.meant_type.result c.in-Some-Some.index c.args.word.now (Some c.in-Ok-Some.found) reader.found
    c.meant_type.ensures there (sym c.in-Ok-Some.field-0-is ∙ c.in-Ok-Some.ensures)

pub returns-in-Ok-None : goal.returns-in-Ok-None
returns-in-Ok-None c =
    let reader = c.args.self.now in
    let indexes = reader.components.now in
    let at = c.in-Some-Some.ensures.lookup in
    let there =
    slice_get_read indexes (length indexes) c.meant_type.result c.in-Some-Some.field-0.now refl at.3.0 at.1 ∙ ap Some c.in-Some-Some.field-0-is in
    ap length c.fields.ensures
    ∙ first_found reader.known.now.table indexes c.args.t c.meant_type.result c.in-Some-Some.index c.args.word.now None reader.found c.meant_type.ensures there
    (sym c.in-Ok-None.field-0-is ∙ c.in-Ok-None.ensures)
