use Rattle.std.proofs.Common.{sym, ap, ◌∙◌}
use Rattle.deep_names.specs.Turns.{code, site, tree}
use Rattle.deep_names.proofs.Shared.{declared_alike, one_truth}
use Rattle.deep_names.proofs.reader.NameReader.declares.Goals as goal

pub returns-then-own-value : goal.returns-then-own-value
returns-then-own-value c told r =
    let w = c.args.self.now in
    declared_alike (site w) r c.in-Declare.pos c.in-Declare.object c.args.x (tree w c.in-Declare.own) (tree w c.args.value) (code w c.args.c)
    c.in-Declare.ensures.code (ap (tree w) c.if-own-value.true)
    (sym c.holds_loans.ensures ∙ one_truth c.holds_loans.result c.holds_loans-then-own-value.result told ∙ c.holds_loans-then-own-value.ensures)
