-- A leak check doesn't fail at a place that a fact without an element calls moved.
use Rattle.std.proofs.Common.{◌≡◌, refl, Bool, true, false, List, [], ◌∷◌}
use Rattle.std.proofs.lemmas.Bool.{false≢true}
use Rattle.machine.specs.spark_base.declared.position.Pos.{Pos}
use Rattle.machine.specs.flow_paths.declared.point.LeakSpot.{LeakSpot}
use Rattle.machine.specs.Words as machine
use Rattle.machine.specs.Calls.{failed_at}
use Rattle.soundness.specs.OwnedWays.Ways.{Gone}
use Rattle.soundness.specs.Seen.{owner_at}
use Rattle.soundness.specs.ExactFacts.Exact.{NoneFails}

-- no check fails where none is made
pub none_made : (Excused : LeakSpot → Type 0) (spots : List LeakSpot) → NoneFails Excused spots []
none_made Excused [] = tt
none_made Excused (spot ∷ spots) = tt

pub failed_gone : (p : Pos) (w : machine.Word) (g : Bool) → g ≡ true → failed_at p w g ≡ []
failed_gone p (machine.Cell n) true e = refl
failed_gone p (machine.Cell n) false e = absurd (false≢true e)
failed_gone p (machine.Int v) g e = refl
failed_gone p (machine.Enumerated v) g e = refl
failed_gone p machine.Null g e = refl

pub is_gone : (w : machine.Word) (g : Bool) → owner_at w g ≡ Gone → g ≡ true
is_gone w true e = refl
is_gone (machine.Cell n) false e = cc
is_gone (machine.Int v) false e = cc
is_gone (machine.Enumerated v) false e = cc
is_gone machine.Null false e = cc
