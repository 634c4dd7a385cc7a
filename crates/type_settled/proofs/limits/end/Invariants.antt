use Rattle.std.proofs.Common.{◌<◌, ℕ, get_or}
use Rattle.type_definitions.specs.declared.table.Made.{Made}
use Rattle.type_settled.proofs.limits.end.Given as goal

abbrev pub invariant-made : goal.invariant-made
invariant-made l = (k : ℕ) (d : Made) → k < l.m-index → (get_or l.made k d).number < l.end
