use Rattle.std.proofs.Common.{sym, subst, if◌then◌else◌, [], ◌∷◌, ◌++◌}
use Rattle.name_events.specs.declared.event.Clause.TheVariants as clause
use Rattle.name_events.specs.KnownBehind.{named_in_use}
use Rattle.name_resolve.specs.Stands.{RegionsAre}
use Rattle.name_resolve.proofs.learn.use_found.Goals as goal

pub returns-in_ok-use_package : goal.returns-in_ok-use_package
returns-in_ok-use_package c count enclosing clauses packages s =
    subst (λ o. RegionsAre c.use_package.new.self count enclosing clauses (packages ++ named_in_use clause.Use o)) (sym c.in-Some.is)
    (subst (λ b. RegionsAre c.use_package.new.self count enclosing clauses (packages ++ (if b then c.in-Some.declaration.number ∷ [] else [])))
    c.if-is_package.ensures (c.in_ok-use_package.ensures _ _ _ _ s))
