use Rattle.std.proofs.Common.{◌∙◌, ap, sym}
use Rattle.place_names.specs.declared.act.Act.TheVariants.{Actual}
use Rattle.place_names.specs.declared.rule.Rule.TheVariants.{O10}
use Rattle.place_names.specs.Rules.{forbidden_if}
use Rattle.move_rules.specs.MoveRules.{moves_forbid}
use Rattle.move_rules.proofs.rule.breaks_actual.Goals as goal

pub returns-in-InOut : goal.returns-in-InOut
returns-in-InOut c = λ access.
    let name = c.args.name.now in
    let fact = c.args.fact.now in
    ap (λ mode. moves_forbid (Actual name mode c.args.owning access) fact) c.in-InOut.is
    ∙ ap (λ b. forbidden_if b O10 name fact) (sym (c.breaks_in_out.ensures access))
