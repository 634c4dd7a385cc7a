use Rattle.std.proofs.Common.{◌≡◌, sym, ap, ◌∙◌, subst}
use Rattle.state_trees.specs.FactStates.{FactState, either_mark, joined, IsKept}
use Rattle.state_trees.proofs.Kept.{kept_joined}
use Rattle.state_trees.proofs.tree.Tree.join.Goals as goal

pub invariant_of-self : goal.invariant_of-self
invariant_of-self c =
    let facts = c.self.inside.facts.now in
    let old : FactState = record { facts = facts; may = c.self.inside.may.items; lacks = c.self.inside.lacks.items } in
    let other : FactState = record { facts = c.other.inside.facts.now; may = c.other.inside.may.items; lacks = c.other.inside.lacks.items } in
    let new : FactState = record { facts = facts; may = c.raise.new.mine.items; lacks = c.raise-2.new.mine.items } in
    let may = c.raise.ensures ∙ ap (either_mark old.may) c.deref-3.ensures.value in
    let lacks = c.raise-2.ensures ∙ ap (either_mark old.lacks) c.deref-4.ensures.value in
    let is : new ≡ joined old other = λ t. record { facts = facts; may = may t; lacks = lacks t } in
    let same = ap (λ (s : FactState). s.facts) c.other.view_is ∙ c.requires ∙ sym (ap (λ (s : FactState). s.facts) c.self.view_is) in
    (subst IsKept (sym is) (kept_joined old other c.self.invariant.0 c.other.invariant.0 same), c.self.invariant.1)
