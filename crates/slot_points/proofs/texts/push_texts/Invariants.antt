use Rattle.slot_points.proofs.Strings.{AreLeft}
use Rattle.slot_points.proofs.texts.push_texts.Given as goal

abbrev pub invariant-texts : goal.invariant-texts
invariant-texts g l = AreLeft g.R.Store.Means l.memory l.table l.rows l.texts l.text-index l.initial.out.items l.out.items
