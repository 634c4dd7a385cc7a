use Rattle.deep_names.specs.Turns.{code, site, tree}
use Rattle.deep_names.proofs.Shared.{found_first}
use Rattle.deep_names.proofs.reader.NameReader.is_shared.Goals as goal

pub returns-in-Declare : goal.returns-in-Declare
returns-in-Declare c told r =
    let w = c.args.self.now in
    found_first (site w) r c.in-Declare.pos c.in-Declare.object (tree w c.in-Declare.value) (code w c.args.first) (code w c.args.rest)
    c.in-Declare.ensures.code (c.begins_alike.ensures told r)
