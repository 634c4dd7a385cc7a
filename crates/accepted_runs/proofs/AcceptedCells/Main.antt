-- The runs of what `check` accepts leave the cells of the machine's last state.
use Rattle.std.proofs.Common.{◌≡◌, List, ℕ, sym, subst, IsSome}
use Rattle.std.proofs.Math.Logic.{∥∥₁_map}
use Rattle.machine.specs.spark_base.declared.limits.TheConstants.{TOKENS}
use Rattle.ada_tree.specs.declared.unit.SourceUnit.{SourceUnit}
use Rattle.machine.specs.type_definitions.Whole.{known_of}
use Rattle.typing_steps.specs.Programs.{program_of}
use Rattle.machine.specs.flow_paths.declared.report.Effects.{Effects}
use Rattle.machine.specs.flow_paths.Laid.{FlowProgram}
use Rattle.laid_program.specs.declared.laid.Laid.{Laid}
use Rattle.laid_program.specs.Programs.{program_of as laid_out}
use Rattle.path_check.specs.declared.accepted.AcceptedProgram.{AcceptedProgram}
use Rattle.program_check.specs.Sources.{flow_of}
use Rattle.settled_types.specs.OrderLaws.Orderly.{typed_of}
use Rattle.sound_files.proofs.TypedFiles.Main.{parsed_steps}
use Rattle.recycled_runs.proofs.ViewedFacts.NullPlaces.Typed.{typed_compared}
use Rattle.run_points.specs.Turns.{HasTypes}
use Rattle.run_points.specs.Frames.{HasFrames}
use Rattle.run_points.proofs.Lowering.{is_lowered}
use Rattle.run_ready.proofs.Tables.{types_are}
use Rattle.run_ready.proofs.Entering.{frames_are}
use Rattle.accepted_runs.specs.Passed.{IsPassed, Passes}
use Rattle.accepted_runs.specs.Mains.{HasMain}
use Rattle.accepted_runs.proofs.Parsed.{are_parsed}
use Rattle.accepted_runs.proofs.Views.{passed_ready}
use Rattle.accepted_runs.proofs.Kept.{accepted_passed, has_main}
use Rattle.accepted_runs.specs.AcceptedLowered.Runs.{IsRunnable}
use Rattle.accepted_runs.proofs.AcceptedLowered.Runnable.{passed_runnable}
use Rattle.recycled_runs.specs.RecycledCells.Cells.{RunsLeaveCells}
use Rattle.recycled_runs.proofs.RecycledCells.Ready.{ready_leaves}

-- However the program is laid out in rows.
pub passed_leaves : (texts : List (List ℕ)) (trees : List (List SourceUnit)) (effects : Effects) → Passes texts trees effects → HasMain trees
    → (laid : Laid) → flow_of trees ≡ laid_out laid → RunsLeaveCells (flow_of trees)
passed_leaves texts trees effects passes has_main laid is p lowers main is_main input n r so =
    let program : FlowProgram = flow_of trees in
    let runnable : IsRunnable laid = passed_runnable texts trees effects passes laid is in
    let has : HasTypes program = subst HasTypes (sym is) (types_are laid runnable.tested.types) in
    let frames : HasFrames program = subst HasFrames (sym is) (frames_are laid runnable.tested.frames) in
    ready_leaves (known_of (program_of trees)).table (typed_of (program_of trees)) effects input (passed_ready texts trees effects passes has_main)
    (typed_compared program (parsed_steps trees passes.cuts (are_parsed texts 0 TOKENS passes.cuts trees passes.cut passes.parsed) passes.named passes.typed))
    p has (is_lowered program p lowers) frames main n is_main r so

kept_leaves : (a : AcceptedProgram) → IsSome a.laid.main → IsPassed (laid_out a.laid) a.effects → RunsLeaveCells (laid_out a.laid)
kept_leaves a some p =
    subst RunsLeaveCells p.is
    (passed_leaves p.texts p.trees a.effects p.passes (has_main (laid_out a.laid) p.trees p.is some) a.laid p.is)

-- The law of accepted programs, by what their type keeps.
pub accepted_leaves : (a : AcceptedProgram) → IsSome a.laid.main → ∥ RunsLeaveCells (laid_out a.laid) ∥₁
accepted_leaves a some = ∥∥₁_map (accepted_passed a) (kept_leaves a some)
