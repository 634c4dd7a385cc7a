-- A text with a procedure that gets a copy of a record in a formal of mode `in`, or an aggregate, and the law on runs of it.
use Rattle.std.specs.Prelude.{codes}
use Rattle.std.proofs.Common.{◌≡◌, ℕ, ◌+◌, true, List, [], ◌∷◌, refl, Some, None, Ok, Err}
use Rattle.ada_lexer.specs.Tokens.{Cut, CutResult, tokens}
use Rattle.ada_tree.specs.declared.declaration.Item.TheVariants as item
use Rattle.ada_tree.specs.declared.declaration.Component.TheVariants as component
use Rattle.ada_tree.specs.declared.declaration.Indication.TheVariants as indication
use Rattle.ada_tree.specs.declared.expression.Arg.TheVariants as arg
use Rattle.ada_tree.specs.declared.expression.Aggregate.TheVariants as aggregate
use Rattle.ada_tree.specs.declared.expression.Name.TheVariants as name
use Rattle.ada_tree.specs.declared.expression.Primary.TheVariants as primary
use Rattle.ada_tree.specs.declared.expression.Suffix.TheVariants as suffix
use Rattle.ada_tree.specs.declared.statement.Stmt.TheVariants as stmt
use Rattle.ada_tree.specs.declared.statement.Stmts.TheVariants as stmts
use Rattle.ada_tree.specs.declared.subprogram.Decl.TheVariants as decl
use Rattle.ada_tree.specs.declared.subprogram.Formal.TheVariants as formal
use Rattle.ada_tree.specs.declared.subprogram.Subspec.{Subspec}
use Rattle.ada_tree.specs.declared.subprogram.Subspec.TheVariants as subspec
use Rattle.ada_tree.specs.declared.unit.BodyPart.TheVariants as part
use Rattle.ada_tree.specs.declared.unit.Context.TheVariants as context
use Rattle.ada_tree.specs.declared.unit.SourceUnit.{SourceUnit}
use Rattle.ada_tree.specs.declared.unit.SourceUnit.TheVariants as unit
use Rattle.ada_grammar.proofs.SmallSources.{IsTextOf, computes, source_of, at, id, mark, selected, expr_of, object, null_at, formals_of, package_of, package_body_of, subprogram_of}
use Rattle.name_events.specs.Faults.{name_fault}
use Rattle.machine.specs.type_definitions.Whole.{type_fault}
use Rattle.typing_steps.specs.Programs.{program_of}
use Rattle.machine.specs.flow_paths.Laid.{FlowSub}
use Rattle.machine.specs.flow_paths.Effects.{asks_for_end, path_points}
use Rattle.machine.specs.flow_paths.Aliases.{alias_reports}
use Rattle.machine.specs.flow_paths.Views.{encloses_within}
use Rattle.program_check.specs.Sources.{flow_of}
use Rattle.settled_types.specs.FilePositions.Texts.{AreParsed}
use Rattle.settled_types.proofs.FilePositions.Cuts.{cut_in_order}
use Rattle.settled_types.specs.OrderLaws.Orderly.{typed_of}
use Rattle.accepted_runs.proofs.ViewedFiles.Files.{parsed_called_sound}
use Rattle.accepted_runs.proofs.Runs.{RunsAreSound}
use Rattle.accepted_examples.proofs.Naming.{naming}
use Rattle.accepted_examples.proofs.Typing.{typing}
use Rattle.accepted_examples.proofs.Lowering.{lowering}
use Rattle.accepted_examples.proofs.Quiet.{all_pass, each}
use Rattle.accepted_examples.proofs.Unreported.{path_passes, sub_passes, nothing, no_reports, no_effects}

-- "procedure Q (X : in T)", from its column on
abbrev front : ℕ → Subspec
front column =
    subspec.Procedure (at column) (id (column + 10) "Q")
    (Some (formals_of (column + 12) (formal.Moded (at (column + 13)) (id (column + 13) "X") [] (at (column + 15)) (Some (at (column + 17))) None (mark (column + 20) "T")) [] (column + 21)))

abbrev pub units : List SourceUnit
units =
    unit.OfPackage (at 1) []
    (package_of 1 (id 9 "A") None 11 (decl.OfItem (at 14) (item.RecordType (at 14) (id 19 "T") (at 21) (at 24)
    (component.Fields (at 31) (id 31 "I") [] (at 33) (mark 35 "Integer") (at 42)) [] (at 44) (at 48) (at 54))
    ∷ decl.Subprogram (at 56) (front 56) None (at 78) ∷ []) None 80 None 83)
    ∷ unit.OfBody (at 85) []
    (package_body_of 85 93 (id 98 "A") None 100 (part.Completed (at 103) (subprogram_of 103 (front 103) None 126 [] 129 (null_at 135) 141 None 144) ∷ []) 146 None 149)
    ∷ unit.OfSubprogram (at 151) (context.With (at 151) (mark 156 "A") [] (at 157) ∷ [])
    (subprogram_of 159 (subspec.Procedure (at 159) (id 169 "P") None) None 171
    (item.Objects (at 174) (id 174 "Y") [] (at 176) None (indication.Mark (at 178) (selected 178 "A" 179 180 "T")) (at 181) ∷ []) 183
    (stmts.Sequence (at 189)
    (stmt.Call (at 189) (name.Prefixed (at 189) (id 189 "A") (suffix.Selected (at 190) (id 191 "Q")
    ∷ suffix.Applied (at 193) (arg.Positional (at 194) (expr_of 194 (object 194 "Y"))) [] (at 195) ∷ [])) (at 196))
    (stmt.Call (at 198) (name.Prefixed (at 198) (id 198 "A") (suffix.Selected (at 199) (id 200 "Q")
    ∷ suffix.Applied (at 202) (arg.Positional (at 203) (expr_of 203 (primary.Aggregated (at 203)
    (aggregate.Single (at 203) (id 204 "I") (at 206) (expr_of 209 (primary.Number (at 209) 1)) (at 210))))) [] (at 211) ∷ [])) (at 212) ∷ [])) 214 None 217)
    ∷ []

abbrev pub files : List (List SourceUnit)
files = units ∷ []

pub spelled : IsTextOf "package A is type T is record I : Integer; end record; procedure Q (X : in T); end; package body A is procedure Q (X : in T) is begin null; end; end; with A; procedure P is Y : A.T; begin A.Q (Y); A.Q ((I => 1)); end;" units
unfolding computes
spelled = source_of (search) (search) refl

pub named : name_fault files ≡ None
unfolding computes naming
named = refl

pub typed : type_fault (program_of files) ≡ None
unfolding computes naming typing lowering
typed = refl

-- ---- it has a main procedure

pub is_main : (typed_of (program_of files)).main ≡ Some 2
unfolding computes naming typing lowering
is_main = refl

-- ---- nothing is reported of it

passes : all_pass (sub_passes (flow_of files)) (flow_of files).subs ≡ true
unfolding computes naming typing lowering asks_for_end encloses_within
passes = refl

no_aliases : alias_reports (flow_of files) (nothing (flow_of files) passes) ≡ []
unfolding computes naming typing lowering
no_aliases = refl

paths : all_pass (λ (sub : FlowSub). path_passes 9 (path_points (flow_of files) (nothing (flow_of files) passes) sub) [] 0) (flow_of files).subs ≡ true
unfolding computes naming typing lowering
paths = refl

-- ---- so its runs are sound

abbrev found : CutResult → List Cut
found (Ok cuts) = cuts
found (Err fault) = []

abbrev text : List ℕ
text = codes "package A is type T is record I : Integer; end record; procedure Q (X : in T); end; package body A is procedure Q (X : in T) is begin null; end; end; with A; procedure P is Y : A.T; begin A.Q (Y); A.Q ((I => 1)); end;"

abbrev cuts : List Cut
cuts = found (tokens 0 text 1000)

is_cut : tokens 0 text 1000 ≡ Ok cuts
unfolding computes
is_cut = refl

parsed : AreParsed 0 (cuts ∷ []) files
unfolding computes
parsed = (cut_in_order 0 text 1000 cuts is_cut, spelled, tt)

pub copied_sound : RunsAreSound files
copied_sound input =
    parsed_called_sound files (cuts ∷ []) parsed named typed 2 is_main (nothing (flow_of files) passes) (no_effects (flow_of files) passes)
    (no_reports (flow_of files) passes no_aliases 9
    (each (λ (sub : FlowSub). path_passes 9 (path_points (flow_of files) (nothing (flow_of files) passes) sub) [] 0) (flow_of files).subs paths))
    input
