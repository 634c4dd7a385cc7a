use Rattle.std.proofs.Common.{◌≡◌, ◌∙◌, ap, set, subst, sym, true}
use Rattle.type_settled.specs.Rings.{AreInRings}
use Rattle.type_settled.proofs.rings.in_both.Goals as goal
use Rattle.type_settled.proofs.rings.in_both.Goals.{then-info-t+then-is_marked+then-is_marked-2, else-info-t}
use Rattle.type_settled.proofs.Inside.{rings_step}

pub types-preserved : goal.types-preserved
types-preserved c =
    let made = c.types.made.items in
    elim c.if-info-t.branch [
      | then-info-t+then-is_marked+then-is_marked-2 w ↦
          let same : c.if-info-t.made.items ≡ set made c.types.t true = ap (λ v. v.items) w.made-is ∙ w.mark.ensures in
          rings_step c.args.table.now made c.args.roots.now c.args.up.now c.args.down.now _ c.types.t c.index-table-t.result
          c.requires.up c.requires.down c.types.invariant c.types-test.true c.index-table-t.is w.if-info-t.true
          (sym w.is_marked.ensures ∙ w.if-is_marked.true) (sym w.is_marked-then-is_marked.ensures ∙ w.if-is_marked-2.true) same
      | else-info-t w ↦ subst (λ ms. AreInRings c.args.table.now ms) (sym (ap (λ v. v.items) w.made-is)) c.types.invariant
    ]
