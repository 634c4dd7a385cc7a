-- The law on files holds of a text, so its premises don't contradict each other.
use Rattle.std.proofs.Common.{◌≡◌, ℕ, true, List, [], ◌∷◌, refl, Ok, Err}
use Rattle.std.specs.Prelude.{codes}
use Rattle.ada_grammar.proofs.SmallSources.{computes}
use Rattle.ada_lexer.specs.Tokens.{Cut, CutResult, tokens}
use Rattle.machine.specs.flow_paths.Effects.{asks_for_end, path_points}
use Rattle.machine.specs.flow_paths.Aliases.{alias_reports}
use Rattle.machine.specs.flow_paths.Laid.{FlowSub}
use Rattle.program_check.specs.Sources.{flow_of}
use Rattle.settled_types.specs.FilePositions.Texts.{AreParsed}
use Rattle.settled_types.proofs.FilePositions.Cuts.{cut_in_order}
use Rattle.accepted_runs.proofs.ViewedFiles.Files.{parsed_called_sound}
use Rattle.accepted_runs.proofs.Runs.{RunsAreSound}
use Rattle.accepted_examples.proofs.Naming.{naming}
use Rattle.accepted_examples.proofs.Typing.{typing}
use Rattle.accepted_examples.proofs.Quiet.{is_quiet_sub, all_pass, no_acts, each, nothing, no_reports, no_effects}
use Rattle.accepted_examples.proofs.Small.{files, spelled, named, typed, is_main}

abbrev text : List ℕ
text = codes "procedure P is begin null; end;"

abbrev found : CutResult → List Cut
found (Ok cuts) = cuts
found (Err fault) = []

abbrev cuts : List Cut
cuts = found (tokens 0 text 1000)

is_cut : tokens 0 text 1000 ≡ Ok cuts
unfolding computes
is_cut = refl

parsed : AreParsed 0 (cuts ∷ []) files
unfolding computes
parsed = (cut_in_order 0 text 1000 cuts is_cut, spelled, tt)

quiet : all_pass is_quiet_sub (flow_of files).subs ≡ true
unfolding computes naming typing asks_for_end
quiet = refl

no_aliases : alias_reports (flow_of files) (nothing (flow_of files) quiet) ≡ []
unfolding computes naming typing
no_aliases = refl

still : all_pass (λ (sub : FlowSub). all_pass no_acts (path_points (flow_of files) (nothing (flow_of files) quiet) sub)) (flow_of files).subs ≡ true
unfolding computes naming typing
still = refl

pub small_sound : RunsAreSound files
small_sound input =
    parsed_called_sound files (cuts ∷ []) parsed named typed 1 is_main (nothing (flow_of files) quiet) (no_effects (flow_of files) quiet)
    (no_reports (flow_of files) quiet no_aliases (each (λ (sub : FlowSub). all_pass no_acts (path_points (flow_of files) (nothing (flow_of files) quiet) sub)) (flow_of files).subs still))
    input
