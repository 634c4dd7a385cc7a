use Rattle.std.proofs.Common.{◌+◌, ◌≤◌, drop}
use Rattle.path_check.specs.Verdicts.{all_steps}
use Rattle.leak_checks.proofs.Telling.{Telling}
use Rattle.leak_checks.proofs.lines.all_lines.Given as goal

abbrev pub invariant-subs : goal.invariant-subs
invariant-subs g l =
    Telling l.laid l.sub-index l.lines.items
    × (l.steps + all_steps (drop l.sub-index l.laid.subs) ≤ l.initial.steps + all_steps l.laid.subs)
