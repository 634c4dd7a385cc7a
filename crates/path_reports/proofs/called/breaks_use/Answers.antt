use Rattle.std.proofs.Common.{◌∙◌, ap, sym}
use Rattle.place_names.specs.declared.fact.Fact.{Fact}
use Rattle.place_names.specs.declared.fact.Fact.TheVariants.{Lent}
use Rattle.place_names.specs.declared.rule.Loan.{Loan}
use Rattle.place_names.specs.Facts.{place}
use Rattle.place_names.specs.Rules.{breaks_O11}
use Rattle.path_reports.proofs.RootUses.{moved_breaks, borrowed_breaks, observed_breaks}
use Rattle.path_reports.proofs.called.breaks_use.Goals as goal

pub returns-in-Moved : goal.returns-in-Moved
returns-in-Moved c =
    sym (ap (λ (f : Fact). breaks_O11 (place f).root c.args.written f) c.in-Moved.is ∙ moved_breaks c.in-Moved.field-0 c.args.written)

pub returns-in-Borrowed : goal.returns-in-Borrowed
returns-in-Borrowed c =
    let w = c.in-Lent in
    sym (ap (λ (f : Fact). breaks_O11 (place f).root c.args.written f) (w.is ∙ ap (λ (l : Loan). Lent l w.holder w.name) c.in-Borrowed.is)
    ∙ borrowed_breaks w.holder w.name c.args.written)

pub returns-in-Observed : goal.returns-in-Observed
returns-in-Observed c =
    let w = c.in-Lent in
    sym (ap (λ (f : Fact). breaks_O11 (place f).root c.args.written f) (w.is ∙ ap (λ (l : Loan). Lent l w.holder w.name) c.in-Observed.is)
    ∙ observed_breaks w.holder w.name c.args.written)
