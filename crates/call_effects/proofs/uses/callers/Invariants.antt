use Rattle.std.proofs.Common.{length}
use Rattle.std.specs.List.{list_any}
use Rattle.call_effects.specs.Uses.{points_at, laid_calls}
use Rattle.call_effects.specs.Rows.{AreMarked}
use Rattle.call_effects.proofs.uses.callers.Given as goal

abbrev pub invariant-subs : goal.invariant-subs
invariant-subs l = AreMarked (length l.subs) l.p (λ p q. list_any (laid_calls q) (points_at l.subs p)) l.callers.items
