use Rattle.std.proofs.Common.{◌≡◌, sym, subst, arith}
use Rattle.state_trees.specs.FactStates.{FactState, none_hold, IsKept}
use Rattle.state_trees.proofs.Kept.{kept_none}
use Rattle.state_trees.proofs.tree.Tree.start.Goals as goal

pub invariant_of-result : goal.invariant_of-result
invariant_of-result c =
    let facts = c.args.facts.now in
    let may = c.in_ok-vec.ensures.items_if_clones_equal (λ y h. h) in
    let lacks = c.in_ok-vec-2.ensures.items_if_clones_equal (λ y h. h) in
    let new : FactState = record { facts = facts; may = c.in_ok-vec.field-0.items; lacks = c.in_ok-vec-2.field-0.items } in
    let is : new ≡ none_hold facts = λ t. record { facts = facts; may = may t; lacks = lacks t } in
    (subst IsKept (sym is) (kept_none facts (omega (arith, c.if-facts.false))), c.index_of.ensures)
