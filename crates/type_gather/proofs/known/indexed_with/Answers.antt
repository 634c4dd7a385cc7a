use Rattle.std.proofs.Common.{◌≤◌, ◌<◌, length, set, sym, subst, arith}
use Rattle.std.proofs.lemmas.List.{set_past}
use Rattle.expression_types.specs.ComponentNames.{FindAllComponents}
use Rattle.type_gather.proofs.ComponentIndexes.{set_same_but, set_components}
use Rattle.type_gather.proofs.known.indexed_with.Goals as goal
use Rattle.type_gather.proofs.known.indexed_with.Goals.{then-t-len, else-t-len}

pub returns-clause-found : goal.returns-clause-found
returns-clause-found c finds =
    let table = c.args.table in
    let info = c.args.info in
    let after = set table c.args.t info in
    let found : FindAllComponents c.if-t-len.indexes.items after = elim c.if-t-len.branch [
      | then-t-len w ↦
          let within : c.args.t < length table = omega (arith, c.len.ensures, w.if-t-len.true) in
          subst (λ v. FindAllComponents v.items after) (sym w.indexes-is)
          (w.index_type.ensures table after (set_same_but table c.args.t info) (set_components table c.args.t info within) finds)
      | else-t-len w ↦
          let past : length table ≤ c.args.t = omega (arith, c.len.ensures, w.if-t-len.false) in
          subst (λ v. FindAllComponents v.items after) (sym w.indexes-is)
          (subst (FindAllComponents c.args.indexes.now.items) (sym (set_past table c.args.t info past)) finds)
    ] in
    subst (FindAllComponents c.if-t-len.indexes.items) (sym c.with_element.ensures) found
