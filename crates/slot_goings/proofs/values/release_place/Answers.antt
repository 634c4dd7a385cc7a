use Rattle.std.proofs.Common.{ap}
use Rattle.run_results.specs.Results.{leaks_of}
use Rattle.slot_goings.proofs.Left.{release_can, release_goes, release_stops}
use Rattle.slot_goings.proofs.values.release_place.Goals as goal

pub release-requires-clause-whole : goal.release-requires-clause-whole
release-requires-clause-whole g c =
    release_can g.R.Store.Means c.args.memory.now c.args.table.now c.args.rows.now c.args.point c.args.place c.args.of c.args.pos c.args.next c.requires.whole

pub returns-in-Ok-clause-left : goal.returns-in-Ok-clause-left
returns-in-Ok-clause-left g c =
    release_goes g.R.Store.Means c.args.memory.now c.args.table.now c.args.rows.now c.args.point c.args.place c.args.of c.args.pos c.args.next c.in-Ok.field-0 (leaks_of c.args.found.now.items)
    (leaks_of c.release.new.leaks.items) c.release.new.memory (ap leaks_of c.requires.none) c.in-Ok.ensures.released

pub returns-in-Err-clause-left : goal.returns-in-Err-clause-left
returns-in-Err-clause-left g c =
    release_stops g.R.Store.Means c.args.memory.now c.args.table.now c.args.rows.now c.args.point c.args.place c.args.of c.args.pos c.args.next c.in-Err.stop (leaks_of c.args.found.now.items)
    (leaks_of c.release.new.leaks.items) c.release.new.memory c.in-Err.ensures.released
