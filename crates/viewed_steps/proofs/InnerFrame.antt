-- The frame that runs, above others: the state, the moment of this frame and those of the frames below, its point,
-- and what holds of them.
use Rattle.std.proofs.Common.{◌≡◌, ℕ, suc, Bool, List, [], ◌∷◌, length, None}
use Rattle.machine.specs.type_definitions.Types.{Table}
use Rattle.machine.specs.typed_tree.Programs.{TypedProgram}
use Rattle.machine.specs.flow_paths.declared.report.Effects.{Effects}
use Rattle.machine.specs.flow_paths.Objects.{Typing}
use Rattle.machine.specs.flow_paths.Points.{NamedPoint}
use Rattle.machine.specs.flow_paths.Laid.{FlowProgram, NamedSub, flow_typing, flow_program, flow_named}
use Rattle.machine.specs.flow_paths.Paths.{ControlPath}
use Rattle.machine.specs.flow_paths.Effects.{path_points}
use Rattle.machine.specs.States.{Frame, State, sub_of}
use Rattle.machine.specs.Owners.{waiting_in}
use Rattle.soundness.specs.Seen.{home}
use Rattle.soundness.specs.Typed.{Kept}
use Rattle.soundness.specs.Sound.{Stage, facts_of, AreStages, IsRunnable, InScope, IsNamedSub, IsAtPoint, view_of as view_here}
use Rattle.soundness.specs.OwnedLoans.Views.{known_gone, Views, ViewedAlone}
use Rattle.viewed_steps.specs.Awaited.{lasting_of, AreAwaited}
use Rattle.viewed_steps.specs.Sound.{IsBeyond, HoldsAt, ArePlaced, NoneAbove, ViewStage, stages_of, GoneElsewhere, AreWaiting, IsResting, HasTraversals}
use Rattle.viewed_steps.specs.Seeing.{sees_in}

module _ (table : Table) (typed : TypedProgram) (effects : Effects) where
  abbrev program : FlowProgram
  program = flow_program table typed

  abbrev s : Typing
  s = flow_typing program

  abbrev sees : ℕ → Bool
  sees = sees_in program

  pub record InnerFrame : Type 0 where
    pub state : State
    pub top : Stage
    pub below : ViewStage
    pub more_frames : List ViewStage
    pub rest : List Frame
    pub named : NamedSub
    pub p : NamedPoint
    pub frames : state.frames ≡ top.frame ∷ (below.stage.frame ∷ rest)
    pub deep : top.depth ≡ suc (length rest)
    pub stages : AreStages (stages_of (below ∷ more_frames)) (below.stage.frame ∷ rest)
    pub running : IsRunnable table typed top.frame.sub × IsResting s top × AreWaiting table typed effects state top.frame.sub top.frame.returns (below ∷ more_frames)
    pub awaiting : AreAwaited table typed None (top ∷ stages_of (below ∷ more_frames))
    pub of_sub : IsNamedSub (flow_named table typed) top.frame.sub named
    pub at_point : IsAtPoint named.points top.frame.next p
    pub path : ControlPath (path_points program effects (sub_of program top.frame.sub)) top.before top.frame.next
    pub views : Views
    pub viewed_before : ViewedAlone (home s (suc (length rest))) sees (known_gone (home s (suc (length rest))) (GoneElsewhere program effects (below ∷ more_frames))) views (view_here s state) (facts_of program effects top)
    pub kept : Kept s state.memory (waiting_in state)
    pub scope : InScope s state.memory (suc (length rest)) (lasting_of s p.scope)
    pub holds : HoldsAt s sees (suc (length rest)) views state.memory p
    pub placed_before : ArePlaced program (suc (length rest)) (facts_of program effects top) views p.scope × IsBeyond program effects (suc (length rest)) views (below ∷ more_frames)
    pub above : NoneAbove s (suc (length rest)) state.memory × HasTraversals table typed (view_here s state) (record { stage = top; views = views; cells = [] } ∷ (below ∷ more_frames))
