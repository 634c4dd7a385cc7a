-- A text with a procedure that is called and lends to an observer, and the law on runs of it.
use Rattle.std.specs.Prelude.{codes}
use Rattle.std.proofs.Common.{◌≡◌, ℕ, ◌+◌, true, List, [], ◌∷◌, refl, Some, None, Ok, Err}
use Rattle.ada_lexer.specs.Tokens.{Cut, CutResult, tokens}
use Rattle.ada_tree.specs.declared.declaration.Item.TheVariants as item
use Rattle.ada_tree.specs.declared.declaration.Indication.TheVariants as indication
use Rattle.ada_tree.specs.declared.expression.Arg.TheVariants as arg
use Rattle.ada_tree.specs.declared.expression.Name.TheVariants as name
use Rattle.ada_tree.specs.declared.expression.Primary.TheVariants as primary
use Rattle.ada_tree.specs.declared.expression.Suffix.TheVariants as suffix
use Rattle.ada_tree.specs.declared.statement.Stmt.TheVariants as stmt
use Rattle.ada_tree.specs.declared.subprogram.Decl.TheVariants as decl
use Rattle.ada_tree.specs.declared.subprogram.Formal.TheVariants as formal
use Rattle.ada_tree.specs.declared.subprogram.Subspec.{Subspec}
use Rattle.ada_tree.specs.declared.subprogram.Subspec.TheVariants as subspec
use Rattle.ada_tree.specs.declared.unit.BodyPart.TheVariants as part
use Rattle.ada_tree.specs.declared.unit.Context.TheVariants as context
use Rattle.ada_tree.specs.declared.unit.SourceUnit.{SourceUnit}
use Rattle.ada_tree.specs.declared.unit.SourceUnit.TheVariants as unit
use Rattle.ada_grammar.proofs.SmallSources.{IsTextOf, computes, source_of, at, id, mark, expr_of, object, null_at, sole, formals_of, package_of, package_body_of, subprogram_of}
use Rattle.name_events.specs.Faults.{name_fault}
use Rattle.machine.specs.type_definitions.Whole.{type_fault}
use Rattle.typing_steps.specs.Programs.{program_of}
use Rattle.machine.specs.flow_paths.Laid.{FlowSub}
use Rattle.machine.specs.flow_paths.Effects.{asks_for_end, path_points}
use Rattle.machine.specs.flow_paths.Aliases.{alias_reports}
use Rattle.machine.specs.flow_paths.Views.{encloses_within}
use Rattle.program_check.specs.Sources.{flow_of}
use Rattle.settled_types.specs.FilePositions.Texts.{AreParsed}
use Rattle.settled_types.proofs.FilePositions.Cuts.{cut_in_order}
use Rattle.settled_types.specs.OrderLaws.Orderly.{typed_of}
use Rattle.accepted_runs.proofs.ViewedFiles.Files.{parsed_called_sound}
use Rattle.accepted_runs.proofs.Runs.{RunsAreSound}
use Rattle.accepted_examples.proofs.Naming.{naming}
use Rattle.accepted_examples.proofs.Typing.{typing}
use Rattle.accepted_examples.proofs.Lowering.{lowering}
use Rattle.accepted_examples.proofs.Quiet.{all_pass, each}
use Rattle.accepted_examples.proofs.Unreported.{path_passes, sub_passes, nothing, no_reports, no_effects}

-- "procedure Q (N : Integer)", from its column on
abbrev front : ℕ → Subspec
front column =
    subspec.Procedure (at column) (id (column + 10) "Q")
    (Some (formals_of (column + 12) (formal.Moded (at (column + 13)) (id (column + 13) "N") [] (at (column + 15)) None None (mark (column + 17) "Integer")) [] (column + 24)))

abbrev pub units : List SourceUnit
units =
    unit.OfPackage (at 1) [] (package_of 1 (id 9 "A") None 11 (decl.Subprogram (at 14) (front 14) None (at 39) ∷ []) None 41 None 44)
    ∷ unit.OfBody (at 46) [] (package_body_of 46 54 (id 59 "A") None 61 (part.Completed (at 64) (subprogram_of 64 (front 64) None 90
    (item.AccessType (at 93) (id 98 "T") (at 100) (at 103) (mark 110 "Integer") (at 117)
    ∷ item.Objects (at 119) (id 119 "X") [] (at 121) None (indication.Mark (at 123) (mark 123 "T")) (at 124)
    ∷ item.InitializedObjects (at 126) (id 126 "Y") [] (at 128) None (indication.Anonymous (at 130) (Some (at 137)) (mark 146 "Integer")) (at 154) (expr_of 157 (object 157 "X")) (at 158)
    ∷ []) 160 (null_at 166) 172 None 175) ∷ []) 177 None 180)
    ∷ unit.OfSubprogram (at 182) (context.With (at 182) (mark 187 "A") [] (at 188) ∷ []) (subprogram_of 190 (subspec.Procedure (at 190) (id 200 "P") None) None 202 [] 205
    (sole 211 (stmt.Call (at 211) (name.Prefixed (at 211) (id 211 "A") (suffix.Selected (at 212) (id 213 "Q")
    ∷ suffix.Applied (at 215) (arg.Positional (at 216) (expr_of 216 (primary.Number (at 216) 1))) [] (at 217) ∷ [])) (at 218))) 220 None 223)
    ∷ []

abbrev pub files : List (List SourceUnit)
files = units ∷ []

pub spelled : IsTextOf "package A is procedure Q (N : Integer); end; package body A is procedure Q (N : Integer) is type T is access Integer; X : T; Y : access constant Integer := X; begin null; end; end; with A; procedure P is begin A.Q (1); end;" units
unfolding computes
spelled = source_of (search) (search) refl

pub named : name_fault files ≡ None
unfolding computes naming
named = refl

pub typed : type_fault (program_of files) ≡ None
unfolding computes naming typing lowering
typed = refl

-- ---- it has a main procedure

pub is_main : (typed_of (program_of files)).main ≡ Some 2
unfolding computes naming typing lowering
is_main = refl

-- ---- nothing is reported of it

pub passes : all_pass (sub_passes (flow_of files)) (flow_of files).subs ≡ true
unfolding computes naming typing lowering asks_for_end encloses_within
passes = refl

no_aliases : alias_reports (flow_of files) (nothing (flow_of files) passes) ≡ []
unfolding computes naming typing lowering
no_aliases = refl

paths : all_pass (λ (sub : FlowSub). path_passes 9 (path_points (flow_of files) (nothing (flow_of files) passes) sub) [] 0) (flow_of files).subs ≡ true
unfolding computes naming typing lowering
paths = refl

-- ---- so its runs are sound

abbrev found : CutResult → List Cut
found (Ok cuts) = cuts
found (Err fault) = []

abbrev text : List ℕ
text = codes "package A is procedure Q (N : Integer); end; package body A is procedure Q (N : Integer) is type T is access Integer; X : T; Y : access constant Integer := X; begin null; end; end; with A; procedure P is begin A.Q (1); end;"

abbrev cuts : List Cut
cuts = found (tokens 0 text 1000)

is_cut : tokens 0 text 1000 ≡ Ok cuts
unfolding computes
is_cut = refl

parsed : AreParsed 0 (cuts ∷ []) files
unfolding computes
parsed = (cut_in_order 0 text 1000 cuts is_cut, spelled, tt)

pub lent_sound : RunsAreSound files
lent_sound input =
    parsed_called_sound files (cuts ∷ []) parsed named typed 2 is_main (nothing (flow_of files) passes) (no_effects (flow_of files) passes)
    (no_reports (flow_of files) passes no_aliases 9
    (each (λ (sub : FlowSub). path_passes 9 (path_points (flow_of files) (nothing (flow_of files) passes) sub) [] 0) (flow_of files).subs paths))
    input
