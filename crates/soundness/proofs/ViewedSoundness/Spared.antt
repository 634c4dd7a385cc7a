-- Nothing that is gone for others meets what a name stands for that may be changed through.
use Rattle.std.proofs.Common.{◌≡◌, inl, inr, ℕ, false, List, Bool}
use Rattle.machine.specs.place_names.declared.fact.Fact.{Fact}
use Rattle.machine.specs.flow_paths.Objects.{Typing}
use Rattle.soundness.specs.OwnedWays.Ways.{Way, View, Named, number_of}
use Rattle.soundness.specs.Seen.{IsNear, home}
use Rattle.soundness.proofs.Near.{named_near, near_under, under_near}
use Rattle.soundness.specs.OwnedLoans.Views.{Around, Views, expand, Viewed}
use Rattle.soundness.proofs.OwnedLoans.Ways.{Meet, meets_front}
use Rattle.soundness.proofs.OwnedLoans.Meeting.{stands}

module _ (s : Typing) (sees : ℕ → Bool) (frame : ℕ) (other : Around (home s frame)) (v : Views) (view : View) (facts : List Fact)
    (viewed : Viewed (home s frame) sees other v view facts) (alone : (w : Way) → IsNear frame w → other.gone w → ⊥) where
  near_met : (w z : Way) → Named (home s frame) w → Meet z w → IsNear frame z
  near_met w z named (inl above) = under_near frame z w above (named_near s frame w named)
  near_met w z named (inr below) = near_under frame w z below (named_near s frame w named)

  pub gone_off : (u z : Way) → Named (home s frame) u → sees (number_of u) ≡ false → Meet z (expand v u) → other.gone z → ⊥
  gone_off u z named plain meets gone = elim (stands (home s frame) sees v view facts viewed.views u (named, plain)) [
    | inl own ↦ alone z (near_met (expand v u) z own.named meets) gone
    | inr held ↦ viewed.whole held.object held.way z held.has (inr held.passed.given) gone (meets_front held.way (expand v u) z held.under meets)
  ]
