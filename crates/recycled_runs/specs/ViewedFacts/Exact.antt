-- What excused leak checks rest on where there are borrowers and observers: what a fact without an element calls
-- moved, perhaps through a view, is gone.
use Rattle.std.specs.Prelude.{◌≡◌, ◌⊎◌, ℕ, false, List, [], ◌∷◌, get_or}
use Rattle.machine.specs.spark_base.Lists.{Has}
use Rattle.machine.specs.place_names.declared.fact.Fact.{Fact}
use Rattle.machine.specs.place_names.Names.{has_elem}
use Rattle.machine.specs.type_definitions.Types.{Table}
use Rattle.machine.specs.typed_tree.Programs.{TypedProgram}
use Rattle.machine.specs.flow_paths.declared.report.Effects.{Effects}
use Rattle.machine.specs.flow_paths.Objects.{Typing}
use Rattle.machine.specs.flow_paths.Laid.{FlowProgram, flow_typing, flow_program}
use Rattle.machine.specs.flow_paths.Effects.{path_points}
use Rattle.machine.specs.flow_paths.LeakPlan.{IsExcused}
use Rattle.machine.specs.Memory.{Memory}
use Rattle.machine.specs.States.{State, Outcome, Goes, Ends, sub_of}
use Rattle.machine.specs.Run.{no_point, step}
use Rattle.soundness.specs.OwnedWays.Ways.{Way, Told, IsMoved, sels_of}
use Rattle.soundness.specs.OwnedLoans.Views.{Views, expand}
use Rattle.soundness.specs.Seen.{seen, home}
use Rattle.soundness.specs.Sound.{facts_of}
use Rattle.viewed_steps.specs.Sound.{ViewStage, IsSound}
use Rattle.soundness.specs.ExactFacts.Exact.{IsOfVariable, NoneFails, checks_of}

-- A fact of the frame says so of a name without an element, which stands for a way. (The way may go through elements
-- that a view was taken from.)
abbrev pub IsDefiniteBy : (ℕ → ℕ) → Views → List Fact → Way → Type 0
IsDefiniteBy home v facts w = (u : Way) × IsMoved home facts u × (has_elem (sels_of u) ≡ false) × (expand v u ≡ w)

-- So does one of the frame, or the way was moved elsewhere.
abbrev pub IsDefinite : (ℕ → ℕ) → Views → (Way → Type 0) → List Fact → Way → Type 0
IsDefinite home v elsewhere facts w = IsDefiniteBy home v facts w ⊎ (IsOfVariable w × elsewhere w)

-- What is called so is gone in a memory. (What is in hand has no name, and leak checks change no word.)
abbrev pub IsExact : Typing → (ℕ → ℕ) → Views → (Way → Type 0) → Memory → List Fact → Type 0
IsExact s home v elsewhere m facts = Told (seen s m [] []) (IsDefinite home v elsewhere facts)

-- ---- the frames of a state

-- A fact without an element of one of some frames says so.
abbrev pub IsDefiniteOf : FlowProgram → Effects → List ViewStage → Way → Type 0
IsDefiniteOf program effects stages w =
    (g : ViewStage) × Has stages g × IsDefiniteBy (home (flow_typing program) g.stage.depth) g.views (facts_of program effects g.stage) w

-- What such facts call moved is gone.
abbrev pub AreExact : (table : Table) (typed : TypedProgram) (effects : Effects) (state : State) → IsSound table typed effects state → Type 0
AreExact table typed effects state sound =
    Told (seen (flow_typing (flow_program table typed)) state.memory [] [])
    (IsDefiniteOf (flow_program table typed) effects (record { stage = sound.top; views = sound.views; cells = [] } ∷ sound.older))

-- ---- the law

-- At each sound state whose facts are exact: of the leak checks of the step, none fails that the
-- leak plan excuses.
abbrev pub ExcusedHold : Table → TypedProgram → Effects → List ℕ → Type 0
ExcusedHold table typed effects input =
    (state : State) (sound : IsSound table typed effects state) → AreExact table typed effects state sound
    → NoneFails (IsExcused (path_points (flow_program table typed) effects (sub_of (flow_program table typed) sound.top.frame.sub)) sound.top.frame.next)
    (get_or (sub_of (flow_program table typed) sound.top.frame.sub).points sound.top.frame.next no_point).leaks
    (checks_of (step (flow_program table typed) input state))

-- A sound state whose facts are exact, and that each step of one leads to one.
abbrev pub IsExactly : Table → TypedProgram → Effects → State → Type 0
IsExactly table typed effects state =
    (sound : IsSound table typed effects state) × AreExact table typed effects state sound

abbrev pub LeadsExactly : Table → TypedProgram → Effects → Outcome → Type 0
LeadsExactly table typed effects (Goes state) = IsExactly table typed effects state
LeadsExactly table typed effects (Ends e state) = Unit {0}

abbrev pub StepsLeadExactly : Table → TypedProgram → Effects → List ℕ → Type 0
StepsLeadExactly table typed effects input =
    (state : State) → IsExactly table typed effects state → LeadsExactly table typed effects (step (flow_program table typed) input state)
