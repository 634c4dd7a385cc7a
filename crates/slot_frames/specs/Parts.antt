-- The parts of the frame that runs, and the frames that wait.
use Rattle.std.specs.Prelude.{◌-◌, List, map, length, take, drop, reverse, ℤ}
use Rattle.run_codes.specs.Points.{Held}
use Rattle.run_codes.specs.Points as points
use Rattle.slot_frames.specs.Stacks.{Stacked}
use Rattle.slot_frames.specs.Frames.{held, return_of, frames_in}

-- The values that wait in all frames, the latest first.
abbrev pub all_held : Stacked → List ℤ → List Held
all_held s zs = held (reverse s.waits) zs

-- Those of the frame that runs, and what it copies back.
unfoldable pub own : Stacked → List ℤ → List Held
own s zs = take (length (all_held s zs) - s.frame.waits) (all_held s zs)

unfoldable pub own_returns : Stacked → List points.Return
own_returns s = drop s.frame.returns (map return_of s.returns)

-- The frames that wait, the innermost first.
unfoldable pub outside : Stacked → List ℤ → List points.Frame
outside s zs =
    frames_in (drop (length (all_held s zs) - s.frame.waits) (all_held s zs)) (take s.frame.returns (map return_of s.returns)) (reverse s.outer)
