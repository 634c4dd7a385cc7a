use Rattle.std.specs.List.{list_any}
use Rattle.call_effects.specs.Uses.{points_at, laid_uses}
use Rattle.call_effects.specs.Rows.{AreMarked}
use Rattle.call_effects.proofs.uses.users.Given as goal

abbrev pub invariant-subs : goal.invariant-subs
invariant-subs l = AreMarked l.size l.p (λ p g. list_any (laid_uses l.writes l.rows g) (points_at l.subs p)) l.users.items
