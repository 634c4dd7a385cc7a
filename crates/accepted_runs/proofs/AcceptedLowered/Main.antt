-- Programs that `check` accepts are lowered.
use Rattle.std.proofs.Common.{◌≡◌, ◌≤◌, ℕ, List, None, arith}
use Rattle.machine.specs.spark_base.declared.limits.TheConstants.{TOKENS}
use Rattle.ada_tree.specs.declared.unit.SourceUnit.{SourceUnit}
use Rattle.machine.specs.flow_paths.declared.report.Effects.{Effects}
use Rattle.program_check.specs.Sources.{flow_of}
use Rattle.run_codes.specs.Programs.{lowered_program}
use Rattle.sound_files.specs.TypedFiles.LoweredSources.Tokens.{token_count}
use Rattle.sound_files.proofs.TypedFiles.LoweredSources.Main.{parsed_lowered}
use Rattle.accepted_runs.specs.Passed.{Passes}
use Rattle.accepted_runs.proofs.Parsed.{are_parsed}
use Rattle.accepted_runs.proofs.AcceptedLowered.Rooms.{texts_short}

-- Their texts have at most 1,000,000 tokens.
pub passed_lowered : (texts : List (List ℕ)) (trees : List (List SourceUnit)) (effects : Effects) → Passes texts trees effects
    → lowered_program (flow_of trees) ≡ None → ⊥
passed_lowered texts trees effects passes =
    let short : token_count passes.cuts ≤ 1000000 = texts_short texts 0 TOKENS passes.cuts passes.cut in
    parsed_lowered trees passes.cuts (are_parsed texts 0 TOKENS passes.cuts trees passes.cut passes.parsed) (omega (arith, short)) passes.named passes.typed
