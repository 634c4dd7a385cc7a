-- The runs of programs that `check` accepts give the same over a heap that uses its slots again.
use Rattle.std.proofs.Common.{◌≡◌, ◌∙◌, inl, inr, ℕ, List, sym, subst}
use Rattle.machine.specs.spark_base.declared.limits.TheConstants.{TOKENS}
use Rattle.ada_tree.specs.declared.unit.SourceUnit.{SourceUnit}
use Rattle.machine.specs.type_definitions.Whole.{known_of}
use Rattle.typing_steps.specs.Programs.{program_of}
use Rattle.machine.specs.flow_paths.declared.report.Effects.{Effects}
use Rattle.machine.specs.flow_paths.Laid.{FlowProgram, flow_typing}
use Rattle.laid_program.specs.declared.laid.Laid.{Laid}
use Rattle.laid_program.specs.Programs.{program_of as laid_out}
use Rattle.program_check.specs.Sources.{flow_of}
use Rattle.settled_types.specs.OrderLaws.Orderly.{typed_of}
use Rattle.sound_files.proofs.TypedFiles.Main.{parsed_steps}
use Rattle.machine.specs.States.{sub_of}
use Rattle.machine.specs.Run.{Run, run}
use Rattle.handled_steps.specs.States.{Outcome, Goes, Ends, Wants, Fails}
use Rattle.handled_steps.specs.Greatest.{EndsWithPeaks}
use Rattle.recycled_runs.proofs.ViewedFacts.NullPlaces.Typed.{typed_compared}
use Rattle.run_codes.specs.Points.{is_declaring}
use Rattle.run_points.specs.Turns.{HasTypes}
use Rattle.run_points.specs.Frames.{HasFrames}
use Rattle.run_points.proofs.Lowering.{is_lowered}
use Rattle.run_ready.proofs.Tables.{types_are}
use Rattle.run_ready.proofs.Entering.{frames_are}
use Rattle.handled_steps.proofs.Runs.{run_keeps}
use Rattle.recycled_runs.proofs.Runs.{GivesSame}
use Rattle.recycled_runs.proofs.Ready.{ready_recycled}
use Rattle.accepted_runs.specs.Passed.{Passes}
use Rattle.accepted_runs.specs.Mains.{HasMain}
use Rattle.accepted_runs.proofs.Parsed.{are_parsed}
use Rattle.accepted_runs.proofs.Views.{passed_ready}
use Rattle.accepted_runs.specs.AcceptedLowered.Runs.{IsRunnable}
use Rattle.accepted_runs.proofs.AcceptedLowered.Runnable.{passed_runnable}
use Rattle.accepted_runs.specs.AcceptedRecycled.Runs.{IsRunOf, RunsAreRecycled}

-- The slots are counted by the greatest counts over the heap, which are those of the machine.
with_slots : (x : Run) (r : Outcome) → EndsWithPeaks r → GivesSame x r → IsRunOf x r
with_slots x (Goes b) slots (inl same) = inl (same.0, tt)
with_slots x (Ends e b) slots (inl same) = inl (same.0, λ size. slots size ∙ sym (same.1 size))
with_slots x Wants slots (inl same) = inl (same.0, tt)
with_slots x Fails slots (inl same) = inl (same.0, tt)
with_slots x r slots (inr out) = inr out

-- However the program is laid out in rows.
pub passed_recycled : (texts : List (List ℕ)) (trees : List (List SourceUnit)) (effects : Effects) → Passes texts trees effects → HasMain trees
    → (laid : Laid) → flow_of trees ≡ laid_out laid → RunsAreRecycled (flow_of trees)
passed_recycled texts trees effects passes has_main laid is p lowers main is_main input n r so =
    let program : FlowProgram = flow_of trees in
    let runnable : IsRunnable laid = passed_runnable texts trees effects passes laid is in
    let has : HasTypes program = subst HasTypes (sym is) (types_are laid runnable.tested.types) in
    let frames : HasFrames program = subst HasFrames (sym is) (frames_are laid runnable.tested.frames) in
    with_slots (run program input n) r (run_keeps (flow_typing program).table p (is_declaring program) (sub_of program main).pos main input n r so)
    (ready_recycled (known_of (program_of trees)).table (typed_of (program_of trees)) effects input (passed_ready texts trees effects passes has_main)
    (typed_compared program (parsed_steps trees passes.cuts (are_parsed texts 0 TOKENS passes.cuts trees passes.cut passes.parsed) passes.named passes.typed))
    p has (is_lowered program p lowers) frames main n is_main r so)
