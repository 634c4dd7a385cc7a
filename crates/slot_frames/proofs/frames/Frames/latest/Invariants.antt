use Rattle.std.proofs.Common.{◌≡◌, map, take, drop}
use Rattle.slot_frames.specs.declared.rows.Wait.{Wait}
use Rattle.slot_frames.proofs.frames.Frames.latest.Given as goal

abbrev pub invariant-types : goal.invariant-types
invariant-types l = map (λ (w : Wait). w.of) (take l.i (drop l.first l.self.waits)) ≡ take l.i l.types
