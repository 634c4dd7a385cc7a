-- The laws: steps and runs over the heap keep the slots as the greatest counts.
use Rattle.std.proofs.Common.{sym, subst, ℕ, zero, suc, List}
use Rattle.handled_runs.specs.type_definitions.Types.{Table}
use Rattle.handled_runs.proofs.slot_heap.Greatest.{enough-written, enough-released, enough-allocated}
use Rattle.handled_runs.specs.numbered_cells.Peaks.{ArePeaks}
use Rattle.handled_runs.proofs.numbered_cells.Peaks.{peaks-allocated}
use Rattle.handled_runs.specs.run_codes.Points.{Frame}
use Rattle.handled_runs.specs.run_codes.Programs.{Program}
use Rattle.handled_runs.specs.Slots.{Slots}
use Rattle.handled_steps.specs.States.{State, Outcome, Goes, Ends, Wants, Fails}
use Rattle.handled_steps.specs.Steps.{Stepped, Then, Within}
use Rattle.handled_steps.specs.Greatest.{IsEnough, KeepsPeaks, EndsWithPeaks}
use Rattle.handled_steps.proofs.Keeping.{Keeping, EndsKept}
use Rattle.handled_steps.proofs.KeepSteps.{step_kept}

-- Whatever was before.
peaks_kept : (before : Slots) → Keeping before
peaks_kept before = record {
  still = λ m p x. IsEnough m × ArePeaks p m;
  mid = λ m p x. IsEnough m × ArePeaks p m;
  after = λ m p x. IsEnough m × ArePeaks p m;
  end = λ m p x. ArePeaks p m;
  still_written = λ m p x h o v is. (enough-written m h o v is.0, is.1);
  mid_written = λ m p x h o v is. (enough-written m h o v is.0, is.1);
  begins = λ m p x is. is;
  makes = λ m p x h ws is. (enough-allocated m h ws is.0, peaks-allocated p m h ws is.0 is.1);
  frees = λ m p x h is. (enough-released m h is.0, is.1);
  goes = λ m p x is. is;
  ends = λ m p x is. is.1;
  gives_up = λ m p x is. is.1;
}

-- ---- steps and runs

module _ (table : Table) (program : Program) (input : List ℕ) where
  pub step_keeps : (s : State) (frames : List Frame) (r : Outcome) → KeepsPeaks s.memory → Stepped table program input s frames r → EndsWithPeaks r
  unfolding peaks_kept
  step_keeps s frames r keeps so = by r (step_kept table program input s (peaks_kept s.memory) keeps frames r so)
    where
      by : (r : Outcome) → EndsKept (peaks_kept s.memory) r → EndsWithPeaks r
      by (Goes t) is = is
      by (Ends e t) is = is
      by Wants is = tt
      by Fails is = tt

  -- The law on runs.
  pub within_keeps : (n : ℕ) (s : State) (r : Outcome) → KeepsPeaks s.memory → Within n table program input s r → EndsWithPeaks r
  unfolding Within
  within_keeps zero s r keeps so = subst EndsWithPeaks (sym so) keeps.1
  within_keeps (suc n) s r keeps (g, stepped, so) = by g (step_keeps s s.frames g keeps stepped) so (λ t q kept run. within_keeps n t q kept run)
    where
      by : (g : Outcome) → EndsWithPeaks g → Then (Within n table program input) g r → ((t : State) (q : Outcome) → KeepsPeaks t.memory → Within n table program input t q → EndsWithPeaks q) → EndsWithPeaks r
      by (Goes t) kept so on = on t r kept so
      by (Ends e t) kept so on = subst EndsWithPeaks (sym so) kept
      by Wants kept so on = subst EndsWithPeaks (sym so) tt
      by Fails kept so on = subst EndsWithPeaks (sym so) tt
