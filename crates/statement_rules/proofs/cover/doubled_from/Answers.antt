use Rattle.std.proofs.Common.{sym, ap, ◌∙◌, ◌+◌}
use Rattle.std.proofs.lemmas.List.{take_rest}
use Rattle.statement_rules.specs.Sweep.{is_first}
use Rattle.statement_rules.proofs.Doubled.{first_doubled}
use Rattle.statement_rules.proofs.cover.doubled_from.Goals as goal

pub returns-then-is_first : goal.returns-then-is_first
returns-then-is_first c =
    let all = c.args.covers.now in
    first_doubled c.args.found c.demand-first.result c.args.count all _ c.any_meets.result c.requires.within c.requires.apart
    c.any_meets.ensures c.demand-first.ensures
    (ap (is_first c.demand-first.result) (sym (take_rest all (c.args.count + 1))) ∙ sym c.is_first.ensures ∙ c.if-is_first.true)
