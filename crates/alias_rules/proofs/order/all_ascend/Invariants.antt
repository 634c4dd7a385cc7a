use Rattle.std.proofs.Common.{ℕ, ◌<◌, [], get_or}
use Rattle.flow_paths.specs.Effects.{Ascends}
use Rattle.alias_rules.proofs.order.all_ascend.Given as goal

abbrev pub invariant-lists : goal.invariant-lists
invariant-lists l = (p : ℕ) → p < l.list-index → Ascends (get_or l.lists p [])
