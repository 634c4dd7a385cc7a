use Rattle.std.proofs.Common.{◌∙◌}
use Rattle.path_reports.proofs.Ascending.{in_by_halves}
use Rattle.path_reports.proofs.called.is_in.Goals as goal

pub returns : goal.returns
returns c = c.is_ok.ensures.value ∙ in_by_halves c.args.list.now c.args.object _ c.requires c.binary_search.ensures.position
