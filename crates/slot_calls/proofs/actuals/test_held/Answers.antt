use Rattle.std.proofs.Common.{rules, ◌≡◌}
use Rattle.std.proofs.Common.{true, false, length, take, drop, ◌-◌}
use Rattle.run_codes.specs.Flat.{kinds}
use Rattle.run_codes.specs.Points.{fits}
use Rattle.slot_memory.specs.Spots.{spot_of}
use Rattle.slot_calls.proofs.Fitting.{test_there, test_fits, test_unfit}
use Rattle.slot_calls.proofs.actuals.test_held.Goals as goal

pub push_held-requires : goal.push_held-requires
push_held-requires g c =
    test_there g.R.Store.Means c.args.memory.now c.args.table.now c.args.formal (spot_of c.args.spot) (kinds c.args.table.now c.args.of) c.requires

pub returns-then-fit-clause-tests : goal.returns-then-fit-clause-tests
returns-then-fit-clause-tests g c =
    let fit : fits c.args.table.now c.args.formal (take (length c.push_held.new.self - length c.args.hand.now) (drop (length c.args.hand.now) c.push_held.new.self)) ≡ true = search rules in
    test_fits g.R.Store.Means c.args.memory.now c.args.table.now c.args.formal (spot_of c.args.spot) (kinds c.args.table.now c.args.of) tt c.args.hand.now c.push_held.new.self c.in_ok-push_held.ensures fit

pub returns-else-fit-clause-tests : goal.returns-else-fit-clause-tests
returns-else-fit-clause-tests g c =
    let unfit : fits c.args.table.now c.args.formal (take (length c.push_held.new.self - length c.args.hand.now) (drop (length c.args.hand.now) c.push_held.new.self)) ≡ false = search rules in
    test_unfit g.R.Store.Means c.args.memory.now c.args.table.now c.args.formal (spot_of c.args.spot) (kinds c.args.table.now c.args.of) c.args.hand.now c.push_held.new.self c.in_ok-push_held.ensures unfit
