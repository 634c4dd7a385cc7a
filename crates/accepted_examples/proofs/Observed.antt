-- A text with an observer, and the law on runs of it.
use Rattle.std.proofs.Common.{◌≡◌, ℕ, true, List, [], ◌∷◌, refl, Some, None, Ok, Err}
use Rattle.std.specs.Prelude.{codes}
use Rattle.ada_lexer.specs.Tokens.{Cut, CutResult, tokens}
use Rattle.ada_tree.specs.declared.declaration.Item.TheVariants as item
use Rattle.ada_tree.specs.declared.declaration.Indication.TheVariants as indication
use Rattle.ada_tree.specs.declared.unit.SourceUnit.{SourceUnit}
use Rattle.ada_grammar.proofs.SmallSources.{IsTextOf, computes, source_of, at, id, mark, expr_of, object, null_at, procedure_of}
use Rattle.name_events.specs.Faults.{name_fault}
use Rattle.machine.specs.type_definitions.Whole.{type_fault}
use Rattle.typing_steps.specs.Programs.{program_of}
use Rattle.settled_types.specs.OrderLaws.Orderly.{typed_of}
use Rattle.machine.specs.flow_paths.Laid.{FlowSub}
use Rattle.machine.specs.flow_paths.Effects.{asks_for_end, path_points}
use Rattle.machine.specs.flow_paths.Aliases.{alias_reports}
use Rattle.machine.specs.flow_paths.Views.{encloses_within}
use Rattle.program_check.specs.Sources.{flow_of}
use Rattle.settled_types.specs.FilePositions.Texts.{AreParsed}
use Rattle.settled_types.proofs.FilePositions.Cuts.{cut_in_order}
use Rattle.accepted_runs.proofs.ViewedFiles.Files.{parsed_called_sound}
use Rattle.accepted_runs.proofs.Runs.{RunsAreSound}
use Rattle.accepted_examples.proofs.Naming.{naming}
use Rattle.accepted_examples.proofs.Typing.{typing}
use Rattle.accepted_examples.proofs.Lowering.{lowering}
use Rattle.accepted_examples.proofs.Quiet.{all_pass, each}
use Rattle.accepted_examples.proofs.Unreported.{path_passes, sub_passes, nothing, no_reports, no_effects}

abbrev pub units : List SourceUnit
units =
    procedure_of
    (item.AccessType (at 16) (id 21 "T") (at 23) (at 26) (mark 33 "Integer") (at 40)
    ∷ item.Objects (at 42) (id 42 "X") [] (at 44) None (indication.Mark (at 46) (mark 46 "T")) (at 47)
    ∷ item.InitializedObjects (at 49) (id 49 "Y") [] (at 51) None (indication.Anonymous (at 53) (Some (at 60)) (mark 69 "Integer")) (at 77) (expr_of 80 (object 80 "X")) (at 81)
    ∷ []) 83 (null_at 89) 95

abbrev pub files : List (List SourceUnit)
files = units ∷ []

pub spelled : IsTextOf "procedure P is type T is access Integer; X : T; Y : access constant Integer := X; begin null; end;" units
unfolding computes
spelled = source_of (search) (search) refl

pub named : name_fault files ≡ None
unfolding computes naming
named = refl

pub typed : type_fault (program_of files) ≡ None
unfolding computes naming typing lowering
typed = refl

pub is_main : (typed_of (program_of files)).main ≡ Some 1
unfolding computes naming typing lowering
is_main = refl

-- ---- nothing is reported of it

passes : all_pass (sub_passes (flow_of files)) (flow_of files).subs ≡ true
unfolding computes naming typing lowering asks_for_end encloses_within
passes = refl

no_aliases : alias_reports (flow_of files) (nothing (flow_of files) passes) ≡ []
unfolding computes naming typing lowering
no_aliases = refl

paths : all_pass (λ (sub : FlowSub). path_passes 9 (path_points (flow_of files) (nothing (flow_of files) passes) sub) [] 0) (flow_of files).subs ≡ true
unfolding computes naming typing lowering
paths = refl

-- ---- so its runs are sound

abbrev found : CutResult → List Cut
found (Ok cuts) = cuts
found (Err fault) = []

abbrev text : List ℕ
text = codes "procedure P is type T is access Integer; X : T; Y : access constant Integer := X; begin null; end;"

abbrev cuts : List Cut
cuts = found (tokens 0 text 1000)

is_cut : tokens 0 text 1000 ≡ Ok cuts
unfolding computes
is_cut = refl

parsed : AreParsed 0 (cuts ∷ []) files
unfolding computes
parsed = (cut_in_order 0 text 1000 cuts is_cut, spelled, tt)

pub observed_sound : RunsAreSound files
observed_sound input =
    parsed_called_sound files (cuts ∷ []) parsed named typed 1 is_main (nothing (flow_of files) passes) (no_effects (flow_of files) passes)
    (no_reports (flow_of files) passes no_aliases 9
    (each (λ (sub : FlowSub). path_passes 9 (path_points (flow_of files) (nothing (flow_of files) passes) sub) [] 0) (flow_of files).subs paths))
    input
