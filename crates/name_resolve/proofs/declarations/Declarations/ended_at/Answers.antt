use Rattle.std.proofs.Common.{ap, ◌∙◌, None}
use Rattle.std.specs.Option.{option_map_or}
use Rattle.name_resolve.specs.Tables.{entry_at}
use Rattle.name_resolve.proofs.declarations.Declarations.ended_at.Goals as goal

pub returns : goal.returns
returns c now w s has =
    c.found.ensures
    ∙ ap (λ symbol. option_map_or (entry_at c.args.self.now.ended.last c.args.region) symbol None) has
    ∙ s.ended.last c.args.region w
