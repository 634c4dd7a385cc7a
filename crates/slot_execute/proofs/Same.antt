-- Whatever may come of the runs of an accepted program gives what the machine's run gives.
use Rattle.std.proofs.Common.{◌≡◌, inl, inr, ℕ, List, false, refl, sym, ap, ◌∙◌, Option, Some, None, IsSome}
use Rattle.std.proofs.Math.Logic.{∥∥₁_elim}
use Rattle.std.specs.Coded.{Coded-set, coded_bool, coded_ℕ}
use Rattle.laid_program.specs.Programs.{program_of}
use Rattle.path_check.specs.declared.accepted.AcceptedProgram.{AcceptedProgram}
use Rattle.machine.specs.Run.{Run, run}
use Rattle.run_codes.specs.Points.{Ran, ran_of}
use Rattle.numbered_cells.specs.Peaks.{peak_of}
use Rattle.slot_heap.specs.Heaps.{slot_count}
use Rattle.handled_steps.specs.States.{Outcome, Goes, Ends, Wants, Fails}
use Rattle.handled_steps.specs.Runs.{given}
use Rattle.slot_runs.specs.Turns.{is_failing}
use Rattle.accepted_runs.specs.AcceptedRecycled.Runs.{IsRunOf}
use Rattle.accepted_runs.proofs.AcceptedRecycled.Kept.{accepted_same}
use Rattle.slot_executor.specs.Executes.{EndsWithSlots, IsSame, AreSame}
use Rattle.slot_execute.proofs.Codes.{ran_code}

ran_or : Option Ran → Ran → Ran
ran_or (Some x) y = x
ran_or None y = y

there : (x : Run) (r : Outcome) → IsRunOf x r → is_failing r ≡ false
there x (Goes s) same = refl
there x (Ends e s) same = refl
there x Wants same = refl
there x Fails (inl same) = nothing same.0
  where
    nothing : None ≡ Some (ran_of x) → is_failing Fails ≡ false
    nothing same = cc
there x Fails (inr same) = cc

gives : (x : Run) (r : Outcome) → IsRunOf x r → (ran : Ran) → given r ≡ Some ran → ran ≡ ran_of x
unfolding ran_or
gives x r (inl same) ran is = ap (λ o. ran_or o ran) (sym is ∙ same.0)
gives x r (inr wants) ran is = nothing (ap given (sym wants) ∙ is)
  where
    nothing : None ≡ Some ran → ran ≡ ran_of x
    nothing same = cc

slots : (x : Run) (r : Outcome) → IsRunOf x r → EndsWithSlots x r
slots x (Goes s) is = tt
slots x (Ends e s) (inl same) = same.1
slots x (Ends e s) (inr wants) = λ size. cc
slots x Wants is = tt
slots x Fails is = tt

same_of : (x : Run) (r : Outcome) → IsRunOf x r → IsSame x r
same_of x r is = record { there = there x r is; gives = gives x r is; slots = slots x r is }

slots_prop : (x : Run) (r : Outcome) (a b : EndsWithSlots x r) → a ≡ b
slots_prop x (Goes s) a b = refl
slots_prop x (Ends e s) a b = λ i. λ size. Coded-set coded_ℕ (slot_count size s.memory.heap.slots) (peak_of size x.peaks) (a size) (b size) i
slots_prop x Wants a b = refl
slots_prop x Fails a b = refl

-- All are equations.
same_prop : (x : Run) (r : Outcome) (a b : IsSame x r) → a ≡ b
same_prop x r a b = λ i. record {
  there = Coded-set coded_bool (is_failing r) false a.there b.there i;
  gives = λ ran is. Coded-set ran_code ran (ran_of x) (a.gives ran is) (b.gives ran is) i;
  slots = slots_prop x r a.slots b.slots i;
}

pub accepted_are_same : (a : AcceptedProgram) → IsSome a.laid.main → (input : List ℕ) → AreSame (program_of a.laid) input
accepted_are_same a some input p lowered main has n r so =
    ∥∥₁_elim (accepted_same a some) (same_prop (run (program_of a.laid) input n) r)
    (λ recycled. same_of (run (program_of a.laid) input n) r (recycled p lowered main has input n r so))
