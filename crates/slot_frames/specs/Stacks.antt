-- The frames of a run in rows.
use Rattle.std.specs.Prelude.{List}
use Rattle.slot_frames.specs.declared.rows.Frame.{Frame}
use Rattle.slot_frames.specs.declared.rows.Wait.{Wait}
use Rattle.slot_frames.specs.declared.rows.Return.{Return}

-- The frame that runs, those that wait, the innermost one last, the values that wait, the latest one last,
-- and what is copied back, the innermost frame's last.
pub record Stacked : Type 0 where
  pub frame : Frame
  pub outer : List Frame
  pub waits : List Wait
  pub returns : List Return
