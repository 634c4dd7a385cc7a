use Rattle.std.proofs.Common.{◌≡◌, ◌<◌, ℕ, true, get_or}
use Rattle.type_sorts.proofs.looked.Looked.is_whole.Given as goal

abbrev pub invariant-types : goal.invariant-types
invariant-types l = (k : ℕ) → k < l.done-index → get_or l.self.done.items k true ≡ true
