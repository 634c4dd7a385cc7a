use Rattle.std.proofs.Common.{◌≡◌, ◌<◌, ℕ, true, slice_get}
use Rattle.settled_types.specs.TableLaws.Ranks.{fits}
use Rattle.run_ready.proofs.types.all_fit.Given as goal

abbrev pub invariant-types : goal.invariant-types
invariant-types l = (k : ℕ) → k < l.t → fits l.table l.ranks k (slice_get l.table k) ≡ true
