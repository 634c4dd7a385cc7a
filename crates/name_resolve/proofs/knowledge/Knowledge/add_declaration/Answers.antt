use Rattle.std.proofs.Common.{subst}
use Rattle.name_events.specs.KnownBehind.{behind_declaration}
use Rattle.name_resolve.specs.Stands.{Stands}
use Rattle.name_resolve.proofs.knowledge.Knowledge.add_declaration.Goals as goal

pub returns-in_ok-complete-in-Some : goal.returns-in_ok-complete-in-Some
returns-in_ok-complete-in-Some c now s =
    subst (λ o. Stands c.complete.new.self (behind_declaration now c.args.form c.args.id.now o)) (c.in-Some.ensures now s) (c.in_ok-complete-in-Some.ensures now s)
