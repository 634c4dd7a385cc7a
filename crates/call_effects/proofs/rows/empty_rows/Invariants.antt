use Rattle.call_effects.specs.Rows.{AreEmpty}
use Rattle.call_effects.proofs.rows.empty_rows.Given as goal

abbrev pub invariant-rows : goal.invariant-rows
invariant-rows l = AreEmpty l._row l.rows.items
