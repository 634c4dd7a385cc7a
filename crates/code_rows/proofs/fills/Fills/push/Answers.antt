use Rattle.std.proofs.Common.{◌≡◌, [], ◌∷◌, ◌++◌, sym, subst, arith}
use Rattle.std.proofs.lemmas.Grind.{common_steps}
use Rattle.code_rows.specs.Values.{AllGrew}
use Rattle.code_rows.proofs.Filled.{grew_fill}
use Rattle.code_rows.proofs.fills.Fills.push.Goals as goal

pub returns-clause-grew : goal.returns-clause-grew
returns-clause-grew c =
    let is : c.push.new.self.items ≡ c.args.self.now ++ c.args.fill ∷ [] = grind (arith, common_steps) in
    subst (λ fills. AllGrew c.args.nodes.now c.args.self.now c.args.nodes.now fills) (sym is)
    (grew_fill c.args.nodes.now c.args.self.now c.args.fill)
