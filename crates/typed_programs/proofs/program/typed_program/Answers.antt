use Rattle.std.proofs.Common.{sym, subst}
use Rattle.expression_types.specs.ComponentNames.{FindAllComponents}
use Rattle.expression_types.specs.FormalNames.{FindAllFormals}
use Rattle.typed_programs.proofs.program.typed_program.Goals as goal

pub writer_outside-writer-requires-clause-components : goal.writer_outside-writer-requires-clause-components
writer_outside-writer-requires-clause-components c =
    subst (λ indexes. FindAllComponents indexes c.args.known.now.table) (sym c.as_slice-3.ensures.value)
    (subst (FindAllComponents c.component_indexes-components.result.items) c.as_slice.ensures c.component_indexes-components.ensures)

pub writer_outside-writer-requires-clause-formals : goal.writer_outside-writer-requires-clause-formals
writer_outside-writer-requires-clause-formals c =
    subst (λ indexes. FindAllFormals indexes c.args.known.now.entries) (sym c.as_slice-4.ensures.value)
    (subst (FindAllFormals c.formal_indexes-formals.result.items) c.as_slice-2.ensures c.formal_indexes-formals.ensures)
