use Rattle.std.proofs.Common.{◌+◌, vec_len}
use Rattle.flow_paths.specs.Effects.{is_in}
use Rattle.call_effects.specs.Spreads.{SearchedFor, Spreading, lacking}
use Rattle.call_effects.proofs.spread.spread.Given as goal

abbrev pub invariant-turns : goal.invariant-turns
invariant-turns l =
    SearchedFor l.callers (λ a. is_in a l.users) l.g l.lists.items l.work.items
    × Spreading l.g l.initial.lists.items l.lists.items l.work.items

-- what lacks the object, and the work
abbrev pub decreases-turns : goal.decreases-turns
decreases-turns l = lacking l.g l.lists.items + vec_len l.work
