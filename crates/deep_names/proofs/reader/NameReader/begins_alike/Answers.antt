use Rattle.deep_names.specs.Statements.{declared_deep}
use Rattle.deep_names.specs.Turns.{code, site, tree}
use Rattle.deep_names.proofs.Shared.{found_again}
use Rattle.deep_names.proofs.reader.NameReader.begins_alike.Goals as goal

pub returns-in-More : goal.returns-in-More
returns-in-More c told r =
    let w = c.args.self.now in
    found_again (site w) r (code w c.in-More.first) (code w c.in-More.rest) (code w c.args.list)
    (declared_deep (site w) c.args.x (tree w c.args.value)) c.in-More.ensures.code (c.declares.ensures told r)
