-- How many states are carried over the control paths of a program, at most (docs/RULES.md,
-- "Facts").
use Rattle.std.specs.Prelude.{ℕ, ◌+◌, ◌*◌, List, length, sum_by}
use Rattle.flow_paths.specs.Points.{FlowPoint}
use Rattle.flow_paths.specs.Laid.{FlowSub, FlowProgram}

-- How many successors some points have, all together.
abbrev pub successors_of : List FlowPoint → ℕ
successors_of points = sum_by (λ (p : FlowPoint). length p.next) points

-- E * (2 F + 2), for a subprogram with E successors and F facts.
abbrev pub sub_steps : FlowSub → ℕ
sub_steps sub = successors_of sub.points * (2 * length sub.facts + 2)

abbrev pub program_steps : FlowProgram → ℕ
program_steps program = sum_by sub_steps program.subs
