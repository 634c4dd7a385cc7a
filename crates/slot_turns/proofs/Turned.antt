-- What a step needs, and the turn that it is.
use Rattle.std.proofs.Common.{◌≡◌, ◌<◌, ◌≤◌, ◌⊎◌, inl, inr, ℕ, zero, suc, true, false, List, [], ◌∷◌, map, length, refl, sym, ap, subst, ◌∙◌, arith, Option, Some, None, ℤ}
use Rattle.std.specs.Prelude.{slice_get, reverse}
use Rattle.run_codes.specs.Codes.{Point}
use Rattle.run_results.specs.Results.{ending_of}
use Rattle.slot_heap.specs.Heaps.{Heap}
use Rattle.handled_steps.specs.States.{Goes, Ends, Fails}
use Rattle.handled_steps.specs.Steps.{SteppedAt, Stepped}
use Rattle.slot_memory.specs.Memory.{Ghosts, slots}
use Rattle.slot_frames.specs.Stacks.{Stacked}
use Rattle.slot_frames.specs.Frames.{word_at, IsStacked, AreLatest}
use Rattle.slot_frames.specs.Parts.{outside}
use Rattle.slot_frames.proofs.Waits.{first_at, first_within}
use Rattle.slot_runs.specs.Turns.{Setting, Inside, IsRunning, OneStep, NeverFails, Turns}
use Rattle.slot_runs.specs.Turns as runs
use Rattle.slot_stages.specs.Stages.{Stage, state_of, running}
use Rattle.slot_stages.proofs.Sights.{frames_are}
use Rattle.slot_stages.proofs.Turns.{step_is, done_fine, turns_on}
use Rattle.slot_turns.specs.declared.overs.Over.{Over}
use Rattle.slot_turns.specs.Betweens.{Between, stage_of, untold_of, IsBetween, StandAt, taking}
use Rattle.slot_turns.specs.Steps.{DoneAt, CanDo}
use Rattle.slot_turns.specs.Overs.{TurnsTo}
use Rattle.slot_turns.specs.Runs.{IsInside, IsCountedAs, StandsWith, turned}

-- ---- the next point

there_or_past : {A B : Type 0} (f : A → B) (xs : List A) (n : ℕ) → (n < length xs) ⊎ (slice_get (map f xs) n ≡ None)
there_or_past f [] n = inr refl
there_or_past f (x ∷ xs) zero = inl (omega arith)
there_or_past f (x ∷ xs) (suc n) = elim (there_or_past f xs n) [ inl lt ↦ inl (omega (arith, lt)) | inr past ↦ inr past ]

fails_past : {R : Type 0} (c : Setting) (r : Stage R) → slice_get c.program.points r.stacked.frame.next ≡ None → OneStep c (state_of r) Fails
fails_past c r past =
    let S : Option Point → Type 0 = λ o. SteppedAt c.table c.program c.input (state_of r) (running r) (outside r.stacked r.kept.waits) o Fails in
    subst (λ fs. Stepped c.table c.program c.input (state_of r) fs Fails) (sym (frames_are r)) (subst S (sym past) refl)

-- The frame is at a point, where the step never fails.
pub point_there : {R A : Type 0} (c : Setting) (r : Stage R) (f : A → Point) (rows : List A) → c.program.points ≡ map f rows → NeverFails (OneStep c (state_of r))
    → r.stacked.frame.next < length rows
point_there c r f rows are fine = by (there_or_past f rows r.stacked.frame.next)
  where
    by : (r.stacked.frame.next < length rows) ⊎ (slice_get (map f rows) r.stacked.frame.next ≡ None) → r.stacked.frame.next < length rows
    by (inl lt) = lt
    by (inr past) =
        let never : true ≡ false = fine Fails (fails_past c r (ap (λ (ps : List Point). slice_get ps r.stacked.frame.next) are ∙ past)) in
        absurd (cc)

-- The words that are taken lie within those that wait.
pub first_below : (s : Stacked) (zs : List ℤ) (types : List ℕ) (k : ℕ) → IsStacked s zs → AreLatest s types k → word_at s.waits k (length zs) ≤ length zs
first_below s zs types k stacked latest =
    subst (λ n. n ≤ length zs) (first_at s.waits k (length types) (length zs) latest.count)
    (first_within (length types) (reverse s.waits) (length zs) stacked.laid)

-- ---- what is kept

-- Which values are taken says nothing of the cells.
pub taking_stands : {R : Type 0} (Means : R → Heap → Type 0) (b : Between R) (k : ℕ) (g : Ghosts) → StandAt Means b g → StandAt Means (taking b k) g
taking_stands Means b k g is = record { memory = record { cells = is.memory.cells; moves = is.memory.moves }; settled = is.settled }

pub taking_left : {R : Type 0} (Means : R → Heap → Type 0) (b : Between R) (k : ℕ) (g : Ghosts) → StandAt Means (taking b k) g → StandAt Means b g
taking_left Means b k g is = record { memory = record { cells = is.memory.cells; moves = is.memory.moves }; settled = is.settled }

pub taking_between : {R : Type 0} (b : Between R) (k : ℕ) → IsBetween b → IsBetween (taking b k)
taking_between b k is = record { stacked = record { laid = is.stacked.laid; nested = is.stacked.nested }; base = is.base; read = is.read }

-- ---- turns

module _ {R : Type 0} (Means : R → Heap → Type 0) (c : Setting) (p : Point) (k : ℕ) (old : Between R)
    (there : slice_get c.program.points old.stacked.frame.next ≡ Some p) (latest : AreLatest old.stacked p.takes k) where
  -- From some slots the point can be done, where the step can.
  pub can_do : (x : Inside) → IsInside Means old c.input x → NeverFails (OneStep c (runs.state_of (untold_of old) x)) → CanDo Means c p (taking old k)
  can_do x at fine =
      let r = stage_of old at.ghosts in
      let here : NeverFails (OneStep c (state_of r)) = subst (λ y. NeverFails (OneStep c (runs.state_of (untold_of old) y))) at.is fine in
      record { ghosts = at.ghosts; stands = taking_stands Means old k at.ghosts at.stands; fine = done_fine c r p k there at.bytes latest here }

  -- What it comes to is a turn of the run.
  pub turns_to : (over : Option Over) (new : Between R) → IsBetween new → new.kept.input ≡ c.input
      → ((g : Ghosts) → StandAt Means (taking old k) g → NeverFails (DoneAt c p (taking old k) g) → TurnsTo Means (DoneAt c p (taking old k) g) over new)
      → Turns c (untold_of old) (IsInside Means old c.input) (turned over) (untold_of new) (StandsWith Means over c.input new)
  turns_to over new between input comes x at runs_on fine =
      let r = stage_of old at.ghosts in
      let P : Inside → Type 0 = λ y. runs.IsTurned (OneStep c (runs.state_of (untold_of old) y)) (turned over) (untold_of new) (StandsWith Means over c.input new) in
      let here : NeverFails (OneStep c (state_of r)) = subst (λ y. NeverFails (OneStep c (runs.state_of (untold_of old) y))) at.is fine in
      let done : NeverFails (DoneAt c p (taking old k) at.ghosts) = done_fine c r p k there at.bytes latest here in
      subst P (sym at.is) (by at.ghosts at.bytes over (comes at.ghosts (taking_stands Means old k at.ghosts at.stands) done))
    where
      by : (g : Ghosts) → old.kept.input ≡ c.input → (o : Option Over) → TurnsTo Means (DoneAt c p (taking old k) g) o new
          → runs.IsTurned (OneStep c (state_of (stage_of old g))) (turned o) (untold_of new) (StandsWith Means o c.input new)
      by g same None is =
          let s = stage_of new is.ghosts in
          turns_on c (stage_of old g) s is.state (IsInside Means new c.input) (step_is c (stage_of old g) p k (Goes is.state) there same latest is.comes) is.same
          (record { ghosts = is.ghosts; between = between; stands = is.stands; bytes = input; is = refl })
      by g same (Some over) is =
          let m = record (slots old.kept g) { heap = is.state.memory.heap; made = over.made; freed = over.freed } in
          record {
            state = is.state;
            comes = step_is c (stage_of old g) p k (Ends (ending_of over.ending) is.state) there same latest is.comes;
            inside = record { memory = m; frames = []; at = 0 };
            stands = record { frames = refl; made = refl; freed = refl; means = is.means };
            seen = record { output = is.output; leaks = is.leaks; made = is.made; freed = is.freed; heap = refl };
          }

-- A run that is over runs no more.
pub over_rests : {R : Type 0} (Means : R → Heap → Type 0) (over : Over) (b : Between R) (x : Inside) → IsCountedAs Means over b x → IsRunning x → ⊥
over_rests Means over b x is runs_on = let never : [] ≡ runs_on.0 ∷ runs_on.1 = sym is.frames ∙ runs_on.2 in absurd (cc)
