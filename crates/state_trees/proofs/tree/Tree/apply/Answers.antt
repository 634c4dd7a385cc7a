use Rattle.std.proofs.Common.{◌≡◌, sym, subst}
use Rattle.state_trees.specs.FactStates.{FactState, state_behind, IsKept}
use Rattle.state_trees.proofs.Kept.{kept_behind}
use Rattle.state_trees.proofs.Left.{state_left}
use Rattle.state_trees.proofs.tree.Tree.apply.Goals as goal

pub invariant_of-self : goal.invariant_of-self
invariant_of-self c =
    let facts = c.self.inside.facts.now in
    let old : FactState = record { facts = facts; may = c.self.inside.may.items; lacks = c.self.inside.lacks.items } in
    let new : FactState = record { facts = facts; may = c.pass.new.may.items; lacks = c.pass.new.lacks.items } in
    let is : new ≡ state_behind c.args.act.now old =
    λ t. record { facts = facts; may = c.pass.ensures.may t; lacks = c.pass.ensures.lacks t } in
    (subst IsKept (sym is) (kept_behind c.args.act.now old c.self.invariant.0), c.self.invariant.1)

pub returns-else-changes-clause-ok : goal.returns-else-changes-clause-ok
returns-else-changes-clause-ok c =
    state_left c.args.act.now c.args.self.now (c.changes.ensures c.if-changes.false) (subst IsKept c.self.view_is c.self.invariant.0)
