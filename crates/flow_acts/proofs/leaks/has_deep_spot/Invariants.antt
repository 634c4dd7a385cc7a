use Rattle.std.proofs.Common.{◌≡◌, drop}
use Rattle.flow_acts.specs.Depths.{deep_spots}
use Rattle.flow_acts.proofs.leaks.has_deep_spot.Given as goal

abbrev pub invariant-spots : goal.invariant-spots
invariant-spots l = deep_spots (drop l.spot-index l.spots) ≡ deep_spots l.spots
