use Rattle.std.proofs.Common.{◌+◌, ◌≤◌, drop}
use Rattle.flow_paths.specs.Printing.{printed_name}
use Rattle.path_check.specs.Verdicts.{all_steps}
use Rattle.path_check.proofs.Putting.{Putting}
use Rattle.path_check.proofs.check.put_paths.Given as goal

abbrev pub invariant-subs : goal.invariant-subs
invariant-subs g l =
    Putting (printed_name l.laid.table l.laid.objects) l.laid.objects l.effects l.laid.subs l.sub-index l.initial.set l.set
    × (l.steps + all_steps (drop l.sub-index l.laid.subs) ≤ l.initial.steps + all_steps l.laid.subs)
