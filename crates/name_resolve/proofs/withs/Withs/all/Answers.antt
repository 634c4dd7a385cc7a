use Rattle.std.proofs.Common.{subst, ◌∙◌, [], ◌++◌}
use Rattle.name_resolve.specs.Stands.{NumbersStand}
use Rattle.name_resolve.proofs.withs.Withs.all.Goals as goal

pub returns : goal.returns
returns c withs s =
    subst (NumbersStand c.add_all-2.new.self)
    ((λ j. c.given_list.ensures j ++ (c.deref.ensures.value ∙ s.own.listed) j) ∙ s.listed)
    (c.in_ok-add_all-2.ensures _ (c.in_ok-add_all.ensures [] c.new-made.ensures))
