use Rattle.std.proofs.Common.{◌≡◌, ◌≤◌, true, length, set, None, sym, ap, subst, refl, arith, ◌∙◌}
use Rattle.std.proofs.lemmas.List.{set_past}
use Rattle.type_definitions.specs.declared.table.Info.{Info}
use Rattle.type_definitions.specs.declared.table.Shape.{Shape}
use Rattle.type_definitions.specs.Types.{info}
use Rattle.expression_types.specs.ComponentNames.{own_components}
use Rattle.expression_types.specs.Occurrences.{Indexes, component_names}
use Rattle.type_gather.proofs.ComponentIndexes.{kept_components, set_awaited}
use Rattle.type_gather.proofs.known.with_awaited.Goals as goal
use Rattle.type_gather.proofs.known.with_awaited.Goals.{then-t-len, else-t-len}

pub returns-clause-table : goal.returns-clause-table
returns-clause-table c =
    let table = c.args.table in
    let t = c.args.number in
    let awaited : Shape → Info = λ shape. record {
      shape = shape;
      base = t;
      parent = None;
      seen_in = c.args.seen_in;
      completed = c.args.completed;
      bounded = true;
    } in
    let items = c.into_vec-types.result.items in
    let here : c.if-t-len.types.items ≡ set table t (awaited (info table t).shape) = elim c.if-t-len.branch [
      | then-t-len w ↦
          ap (λ v. v.items) w.types-is
          ∙ ap (λ i. set items t i) w.await_full.ensures
          ∙ set_awaited items t w.index_mut.result.now awaited w.index_mut.ensures.value
          ∙ ap (λ all. set all t (awaited (info all t).shape)) c.into_vec-types.ensures
      | else-t-len w ↦
          let past : length table ≤ t = omega (arith, c.len.ensures, w.if-t-len.false, ap length c.into_vec-types.ensures) in
          ap (λ v. v.items) w.types-is
          ∙ c.into_vec-types.ensures
          ∙ sym (set_past table t (awaited (info table t).shape) past)
    ] in
    c.from_vec.ensures ∙ here

pub returns-clause-found : goal.returns-clause-found
returns-clause-found c indexes finds t index at =
    let same : own_components c.from_vec.result t ≡ own_components c.args.table t =
    ap (λ table. own_components table t) (returns-clause-table c) ∙ kept_components c.args.table c.args.number _ refl t in
    subst (λ components. Indexes index (component_names components)) (sym same) (finds t index at)
