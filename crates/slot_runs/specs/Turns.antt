-- What a run between two steps stands for, and what a step of code comes to.
use Rattle.std.specs.Prelude.{◌≡◌, ℕ, Bool, true, false, List, ◌∷◌}
use Rattle.type_definitions.specs.Types.{Table}
use Rattle.machine.specs.States.{Leak}
use Rattle.run_codes.specs.Programs.{Program}
use Rattle.run_codes.specs.Points.{Frame}
use Rattle.handled_runs.specs.Slots.{Slots}
use Rattle.handled_steps.specs.States.{State, Outcome, Goes, Ends, Fails}
use Rattle.handled_steps.specs.Steps.{Stepped, Within}
use Rattle.run_results.specs.declared.ran.Ending.{Ending}
use Rattle.run_results.specs.Results.{ending_of}
use Rattle.slot_runs.specs.declared.stepping.Turn.{Turn}
use Rattle.slot_runs.specs.declared.stepping.Turn.TheVariants as turn
use Rattle.slot_runs.specs.Pasts.{plain}

-- What is run: its types, its points, and its input.
pub record Setting : Type 0 where
  pub table : Table
  pub program : Program
  pub input : List ℕ

-- ---- states

-- The output and the leaks that weren't taken yet.
pub record Untold : Type 0 where
  pub output : List ℕ
  pub leaks : List Leak

-- The rest of a state without its steps. No code keeps all of it, so a run stands for some of them.
pub record Inside : Type 0 where
  pub memory : Slots
  pub frames : List Frame
  pub at : ℕ

abbrev pub state_of : Untold → Inside → State
state_of u x = record { memory = x.memory; frames = x.frames; at = x.at; output = u.output; leaks = u.leaks; steps = 0 }

-- Some frame runs.
abbrev pub IsRunning : Inside → Type 0
IsRunning x = (f : Frame) × (outer : List Frame) × (x.frames ≡ f ∷ outer)

-- Whatever the one stands for, the other one does.
abbrev pub Still : (old new : Inside → Type 0) → Type 0
Still old new = (x : Inside) → old x → new x

-- ---- steps

-- Which outcomes a step may have.
abbrev pub OneStep : Setting → State → Outcome → Type 0
OneStep c s r = Stepped c.table c.program c.input s s.frames r

-- Those of at most so many steps.
abbrev pub SomeSteps : ℕ → Setting → State → Outcome → Type 0
SomeSteps n c s r = Within n c.table c.program c.input s r

abbrev pub is_failing : Outcome → Bool
is_failing Fails = true
is_failing _ = false

-- No outcome fails of those that may come.
abbrev pub NeverFails : (Outcome → Type 0) → Type 0
NeverFails Comes = (r : Outcome) → Comes r → is_failing r ≡ false

-- ---- what a step of code comes to

-- A state without its steps, and without what its last step left in the memory.
abbrev pub bare : State → State
bare s = record (plain s) { steps = 0 }

-- What is seen of a run that ends: its output, its leaks, the counts of its cells and its heap.
pub record IsSeen (s g : State) : Type 0 where
  pub output : s.output ≡ g.output
  pub leaks : s.leaks ≡ g.leaks
  pub made : s.memory.made ≡ g.memory.made
  pub freed : s.memory.freed ≡ g.memory.freed
  pub heap : s.memory.heap ≡ g.memory.heap

-- It may go on with a state, which the run stands for then.
pub record GoesOn (Comes : Outcome → Type 0) (u : Untold) (Stands : Inside → Type 0) : Type 0 where
  pub state : State
  pub comes : Comes (Goes state)
  pub inside : Inside
  pub stands : Stands inside
  pub same : bare state ≡ bare (state_of u inside)
  pub running : IsRunning inside

-- It may end the run, and no more of the state is seen than that.
pub record IsEnded (Comes : Outcome → Type 0) (e : Ending) (u : Untold) (Stands : Inside → Type 0) : Type 0 where
  pub state : State
  pub comes : Comes (Ends (ending_of e) state)
  pub inside : Inside
  pub stands : Stands inside
  pub seen : IsSeen state (state_of u inside)

abbrev pub IsTurned : (Outcome → Type 0) → Turn → Untold → (Inside → Type 0) → Type 0
IsTurned Comes turn.On u Stands = GoesOn Comes u Stands
IsTurned Comes (turn.Ends e) u Stands = IsEnded Comes e u Stands

-- A step can be made from some state that the run stands for.
pub record CanStep (c : Setting) (u : Untold) (Stands : Inside → Type 0) : Type 0 where
  pub inside : Inside
  pub stands : Stands inside
  pub running : IsRunning inside
  pub there : NeverFails (OneStep c (state_of u inside))

-- So it comes to from each such state.
abbrev pub Turns : Setting → Untold → (Inside → Type 0) → Turn → Untold → (Inside → Type 0) → Type 0
Turns c u Old turn v New =
    (x : Inside) → Old x → IsRunning x → NeverFails (OneStep c (state_of u x)) → IsTurned (OneStep c (state_of u x)) turn v New
