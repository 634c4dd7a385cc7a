use Rattle.std.proofs.Common.{sym, subst, length, None}
use Rattle.name_events.specs.KnownBehind.{begin_package, behind_declaration}
use Rattle.name_resolve.specs.Stands.{Stands}
use Rattle.name_resolve.proofs.knowledge.Knowledge.enter.Goals as goal

pub returns-in_ok-declare-in-Package : goal.returns-in_ok-declare-in-Package
returns-in_ok-declare-in-Package c now s =
    subst (λ f. Stands c.declare.new.self (behind_declaration now f c.args.id.now None)) (sym c.in-Package.is)
    (c.in_ok-declare-in-Package.ensures (begin_package now (length now.declared)) (c.in_ok-begin_package-in-Package.ensures now s))
