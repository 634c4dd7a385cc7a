-- A text with a function that gives an access value, which becomes a part of a record, and the law on runs of it.
use Rattle.std.specs.Prelude.{codes}
use Rattle.ada_tree.specs.declared.expression.Primary.TheVariants as primary
use Rattle.std.proofs.Common.{◌≡◌, ℕ, ◌+◌, true, List, [], ◌∷◌, refl, Some, None, Ok, Err}
use Rattle.ada_lexer.specs.Tokens.{Cut, CutResult, tokens}
use Rattle.ada_tree.specs.declared.declaration.Item.TheVariants as item
use Rattle.ada_tree.specs.declared.declaration.Component.TheVariants as component
use Rattle.ada_tree.specs.declared.declaration.Indication.TheVariants as indication
use Rattle.ada_tree.specs.declared.expression.Aggregate.TheVariants as aggregate
use Rattle.ada_tree.specs.declared.expression.Name.TheVariants as name
use Rattle.ada_tree.specs.declared.expression.Suffix.TheVariants as suffix
use Rattle.ada_tree.specs.declared.statement.Stmt.TheVariants as stmt
use Rattle.ada_tree.specs.declared.subprogram.Decl.TheVariants as decl
use Rattle.ada_tree.specs.declared.subprogram.Subspec.{Subspec}
use Rattle.ada_tree.specs.declared.subprogram.Subspec.TheVariants as subspec
use Rattle.ada_tree.specs.declared.unit.BodyPart.TheVariants as part
use Rattle.ada_tree.specs.declared.unit.Context.TheVariants as context
use Rattle.ada_tree.specs.declared.unit.SourceUnit.{SourceUnit}
use Rattle.ada_tree.specs.declared.unit.SourceUnit.TheVariants as unit
use Rattle.ada_grammar.proofs.SmallSources.{IsTextOf, computes, source_of, at, id, mark, selected, expr_of, null_at, sole, package_of, package_body_of, subprogram_of}
use Rattle.name_events.specs.Faults.{name_fault}
use Rattle.machine.specs.type_definitions.Whole.{type_fault}
use Rattle.typing_steps.specs.Programs.{program_of}
use Rattle.machine.specs.flow_paths.Laid.{FlowSub}
use Rattle.machine.specs.flow_paths.Effects.{asks_for_end, path_points}
use Rattle.machine.specs.flow_paths.Aliases.{alias_reports}
use Rattle.machine.specs.flow_paths.Views.{encloses_within}
use Rattle.program_check.specs.Sources.{flow_of}
use Rattle.settled_types.specs.FilePositions.Texts.{AreParsed}
use Rattle.settled_types.proofs.FilePositions.Cuts.{cut_in_order}
use Rattle.settled_types.specs.OrderLaws.Orderly.{typed_of}
use Rattle.accepted_runs.proofs.ViewedFiles.Files.{parsed_called_sound}
use Rattle.accepted_runs.proofs.Runs.{RunsAreSound}
use Rattle.accepted_examples.proofs.Naming.{naming}
use Rattle.accepted_examples.proofs.Typing.{typing}
use Rattle.accepted_examples.proofs.Lowering.{lowering}
use Rattle.accepted_examples.proofs.Quiet.{all_pass, each}
use Rattle.accepted_examples.proofs.Unreported.{path_passes, sub_passes, nothing, no_reports, no_effects}

-- "function F return T", from its column on
abbrev front : ℕ → Subspec
front column = subspec.Function (at column) (id (column + 9) "F") None (at (column + 11)) (indication.Mark (at (column + 18)) (mark (column + 18) "T"))

abbrev pub units : List SourceUnit
units =
    unit.OfPackage (at 1) []
    (package_of 1 (id 9 "A") None 11 (decl.OfItem (at 14) (item.AccessType (at 14) (id 19 "T") (at 21) (at 24) (mark 31 "Integer") (at 38))
    ∷ decl.OfItem (at 40) (item.RecordType (at 40) (id 45 "R") (at 47) (at 50) (component.Fields (at 57) (id 57 "N") [] (at 59) (mark 61 "T") (at 62)) [] (at 64) (at 68) (at 74))
    ∷ decl.Subprogram (at 76) (front 76) None (at 95) ∷ []) None 97 None 100)
    ∷ unit.OfBody (at 102) []
    (package_body_of 102 110 (id 115 "A") None 117 (part.Completed (at 120) (subprogram_of 120 (front 120) None 140 [] 143
    (sole 149 (stmt.ReturnValue (at 149) (expr_of 156 (primary.Null (at 156))) (at 160))) 162 None 165) ∷ []) 167 None 170)
    ∷ unit.OfSubprogram (at 172) (context.With (at 172) (mark 177 "A") [] (at 178) ∷ [])
    (subprogram_of 180 (subspec.Procedure (at 180) (id 190 "P") None) None 192
    (item.InitializedObjects (at 195) (id 195 "X") [] (at 197) None (indication.Mark (at 199) (selected 199 "A" 200 201 "R")) (at 203)
    (expr_of 206 (primary.Aggregated (at 206) (aggregate.Single (at 206) (id 207 "N") (at 209) (expr_of 212 (primary.Named (at 212)
    (name.Prefixed (at 212) (id 212 "A") (suffix.Selected (at 213) (id 214 "F") ∷ [])))) (at 215)))) (at 216)
    ∷ []) 218 (null_at 224) 230 None 233)
    ∷ []

abbrev pub files : List (List SourceUnit)
files = units ∷ []

pub spelled : IsTextOf "package A is type T is access Integer; type R is record N : T; end record; function F return T; end; package body A is function F return T is begin return null; end; end; with A; procedure P is X : A.R := (N => A.F); begin null; end;" units
unfolding computes
spelled = source_of (search) (search) refl

pub named : name_fault files ≡ None
unfolding computes naming
named = refl

pub typed : type_fault (program_of files) ≡ None
unfolding computes naming typing lowering
typed = refl

-- ---- it has a main procedure

pub is_main : (typed_of (program_of files)).main ≡ Some 2
unfolding computes naming typing lowering
is_main = refl

-- ---- nothing is reported of it

passes : all_pass (sub_passes (flow_of files)) (flow_of files).subs ≡ true
unfolding computes naming typing lowering asks_for_end encloses_within
passes = refl

no_aliases : alias_reports (flow_of files) (nothing (flow_of files) passes) ≡ []
unfolding computes naming typing lowering
no_aliases = refl

paths : all_pass (λ (sub : FlowSub). path_passes 9 (path_points (flow_of files) (nothing (flow_of files) passes) sub) [] 0) (flow_of files).subs ≡ true
unfolding computes naming typing lowering
paths = refl

-- ---- so its runs are sound

abbrev found : CutResult → List Cut
found (Ok cuts) = cuts
found (Err fault) = []

abbrev text : List ℕ
text = codes "package A is type T is access Integer; type R is record N : T; end record; function F return T; end; package body A is function F return T is begin return null; end; end; with A; procedure P is X : A.R := (N => A.F); begin null; end;"

abbrev cuts : List Cut
cuts = found (tokens 0 text 1000)

is_cut : tokens 0 text 1000 ≡ Ok cuts
unfolding computes
is_cut = refl

parsed : AreParsed 0 (cuts ∷ []) files
unfolding computes
parsed = (cut_in_order 0 text 1000 cuts is_cut, spelled, tt)

pub filled_sound : RunsAreSound files
filled_sound input =
    parsed_called_sound files (cuts ∷ []) parsed named typed 2 is_main (nothing (flow_of files) passes) (no_effects (flow_of files) passes)
    (no_reports (flow_of files) passes no_aliases 9
    (each (λ (sub : FlowSub). path_passes 9 (path_points (flow_of files) (nothing (flow_of files) passes) sub) [] 0) (flow_of files).subs paths))
    input
