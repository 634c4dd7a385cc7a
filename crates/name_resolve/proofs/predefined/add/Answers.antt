use Rattle.std.proofs.Common.{[], ◌∷◌, ◌++◌, subst}
use Rattle.name_events.specs.Predefined.{predefined_entry}
use Rattle.name_resolve.specs.Stands.{EntriesStand}
use Rattle.name_resolve.proofs.predefined.add.Goals as goal

pub returns : goal.returns
returns c declared ended s =
    subst (λ w. EntriesStand c.predefine.new.self (declared ++ predefined_entry c.args.number c.args.form c.args.regions.0 c.args.regions.1 w ∷ []) []
    (ended ++ predefined_entry c.args.number c.args.form c.args.regions.0 c.args.regions.1 w ∷ []) [])
    c.in_ok-word.ensures (c.in_ok-predefine.ensures declared [] ended [] s)
