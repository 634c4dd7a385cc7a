use Rattle.std.proofs.Common.{◌≡◌, ◌+◌, ℕ, Bool, ◌∷◌, drop, vec_len}
use Rattle.label_flow.specs.Searches.{Turning}
use Rattle.call_effects.specs.Spreads.{flow_of, found, SearchedFor, Spreading, lacking}
use Rattle.call_effects.proofs.spread.turn.Given as goal

abbrev pub invariant-callers : goal.invariant-callers
invariant-callers l =
    Spreading l.g l.initial.lists.items l.lists.items l.work.items
    × (lacking l.g l.lists.items + vec_len l.work ≡ lacking l.g l.initial.lists.items + vec_len l.initial.work)
    × ((uses : ℕ → Bool) → SearchedFor l.callers uses l.g l.initial.lists.items (l.q ∷ l.initial.work.items)
    → Turning (flow_of l.callers uses) l.q (found l.g l.initial.lists.items l.q) (drop l.p-index l.row) (found l.g l.lists.items) l.work.items)
