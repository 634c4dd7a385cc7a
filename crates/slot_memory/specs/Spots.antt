-- What spots of the code stand for, and what is answered with one.
use Rattle.std.specs.Prelude.{Result, Ok, Err}
use Rattle.run_codes.specs.Flat as flat
use Rattle.run_codes.specs.Flat.{Got, Given, Stops}
use Rattle.code_rows.specs.declared.stop.Stop.{Stop}
use Rattle.code_rows.specs.Stops.{stop_of}
use Rattle.slot_memory.specs.declared.spot.Spot.{Spot}
use Rattle.slot_memory.specs.declared.spot.Spot.TheVariants as spot

abbrev pub spot_of : Spot → flat.Spot
spot_of (spot.Stack n) = flat.InStack n
spot_of (spot.Cell h at) = flat.InCell h at

abbrev pub shown_spot : Result Spot Stop → Got flat.Spot
shown_spot (Ok s) = Given (spot_of s)
shown_spot (Err s) = Stops (stop_of s)
