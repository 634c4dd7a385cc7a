-- A text with a procedure that writes through a formal of mode `in` of an access type, and the law on runs of it.
use Rattle.std.specs.Prelude.{codes}
use Rattle.ada_tree.specs.declared.expression.Primary.TheVariants as primary
use Rattle.std.proofs.Common.{◌≡◌, ℕ, ◌+◌, true, List, [], ◌∷◌, refl, Some, None, Ok, Err}
use Rattle.ada_lexer.specs.Tokens.{Cut, CutResult, tokens}
use Rattle.ada_tree.specs.declared.declaration.Item.TheVariants as item
use Rattle.ada_tree.specs.declared.declaration.Indication.TheVariants as indication
use Rattle.ada_tree.specs.declared.expression.Arg.TheVariants as arg
use Rattle.ada_tree.specs.declared.expression.Name.TheVariants as name
use Rattle.ada_tree.specs.declared.expression.Suffix.TheVariants as suffix
use Rattle.ada_tree.specs.declared.statement.Stmt.TheVariants as stmt
use Rattle.ada_tree.specs.declared.subprogram.Decl.TheVariants as decl
use Rattle.ada_tree.specs.declared.subprogram.Formal.TheVariants as formal
use Rattle.ada_tree.specs.declared.subprogram.Subspec.{Subspec}
use Rattle.ada_tree.specs.declared.subprogram.Subspec.TheVariants as subspec
use Rattle.ada_tree.specs.declared.unit.BodyPart.TheVariants as part
use Rattle.ada_tree.specs.declared.unit.Context.TheVariants as context
use Rattle.ada_tree.specs.declared.unit.SourceUnit.{SourceUnit}
use Rattle.ada_tree.specs.declared.unit.SourceUnit.TheVariants as unit
use Rattle.ada_grammar.proofs.SmallSources.{IsTextOf, computes, source_of, at, id, mark, selected, expr_of, object, sole, formals_of, package_of, package_body_of, subprogram_of}
use Rattle.name_events.specs.Faults.{name_fault}
use Rattle.machine.specs.type_definitions.Whole.{type_fault}
use Rattle.typing_steps.specs.Programs.{program_of}
use Rattle.machine.specs.flow_paths.Laid.{FlowSub}
use Rattle.machine.specs.flow_paths.Effects.{asks_for_end, path_points}
use Rattle.machine.specs.flow_paths.Aliases.{alias_reports}
use Rattle.machine.specs.flow_paths.Views.{encloses_within}
use Rattle.program_check.specs.Sources.{flow_of}
use Rattle.settled_types.specs.FilePositions.Texts.{AreParsed}
use Rattle.settled_types.proofs.FilePositions.Cuts.{cut_in_order}
use Rattle.settled_types.specs.OrderLaws.Orderly.{typed_of}
use Rattle.accepted_runs.proofs.ViewedFiles.Files.{parsed_called_sound}
use Rattle.accepted_runs.proofs.Runs.{RunsAreSound}
use Rattle.accepted_examples.proofs.Naming.{naming}
use Rattle.accepted_examples.proofs.Typing.{typing}
use Rattle.accepted_examples.proofs.Lowering.{lowering}
use Rattle.accepted_examples.proofs.Quiet.{all_pass, each}
use Rattle.accepted_examples.proofs.Unreported.{path_passes, sub_passes, nothing, no_reports, no_effects}

-- "procedure Q (X : in T)", from its column on
abbrev front : ℕ → Subspec
front column =
    subspec.Procedure (at column) (id (column + 10) "Q")
    (Some (formals_of (column + 12) (formal.Moded (at (column + 13)) (id (column + 13) "X") [] (at (column + 15)) (Some (at (column + 17))) None (mark (column + 20) "T")) []
    (column + 21)))

abbrev pub units : List SourceUnit
units =
    unit.OfPackage (at 1) []
    (package_of 1 (id 9 "A") None 11 (decl.OfItem (at 14) (item.AccessType (at 14) (id 19 "T") (at 21) (at 24) (mark 31 "Integer") (at 38))
    ∷ decl.Subprogram (at 40) (front 40) None (at 62) ∷ []) None 64 None 67)
    ∷ unit.OfBody (at 69) []
    (package_body_of 69 77 (id 82 "A") None 84 (part.Completed (at 87) (subprogram_of 87 (front 87) None 110 [] 113
    (sole 119 (stmt.Assign (at 119) (name.Prefixed (at 119) (id 119 "X") (suffix.Dereferenced (at 120) (at 121) ∷ [])) (at 125)
    (expr_of 128 (primary.Number (at 128) 1)) (at 129))) 131 None 134) ∷ []) 136 None 139)
    ∷ unit.OfSubprogram (at 141) (context.With (at 141) (mark 146 "A") [] (at 147) ∷ [])
    (subprogram_of 149 (subspec.Procedure (at 149) (id 159 "P") None) None 161
    (item.Objects (at 164) (id 164 "Y") [] (at 166) None (indication.Mark (at 168) (selected 168 "A" 169 170 "T")) (at 171) ∷ []) 173
    (sole 179 (stmt.Call (at 179) (name.Prefixed (at 179) (id 179 "A") (suffix.Selected (at 180) (id 181 "Q")
    ∷ suffix.Applied (at 183) (arg.Positional (at 184) (expr_of 184 (object 184 "Y"))) [] (at 185) ∷ [])) (at 186))) 188 None 191)
    ∷ []

abbrev pub files : List (List SourceUnit)
files = units ∷ []

pub spelled : IsTextOf "package A is type T is access Integer; procedure Q (X : in T); end; package body A is procedure Q (X : in T) is begin X.all := 1; end; end; with A; procedure P is Y : A.T; begin A.Q (Y); end;" units
unfolding computes
spelled = source_of (search) (search) refl

pub named : name_fault files ≡ None
unfolding computes naming
named = refl

pub typed : type_fault (program_of files) ≡ None
unfolding computes naming typing lowering
typed = refl

-- ---- it has a main procedure

pub is_main : (typed_of (program_of files)).main ≡ Some 2
unfolding computes naming typing lowering
is_main = refl

-- ---- nothing is reported of it

passes : all_pass (sub_passes (flow_of files)) (flow_of files).subs ≡ true
unfolding computes naming typing lowering asks_for_end encloses_within
passes = refl

no_aliases : alias_reports (flow_of files) (nothing (flow_of files) passes) ≡ []
unfolding computes naming typing lowering
no_aliases = refl

paths : all_pass (λ (sub : FlowSub). path_passes 9 (path_points (flow_of files) (nothing (flow_of files) passes) sub) [] 0) (flow_of files).subs ≡ true
unfolding computes naming typing lowering
paths = refl

-- ---- so its runs are sound

abbrev found : CutResult → List Cut
found (Ok cuts) = cuts
found (Err fault) = []

abbrev text : List ℕ
text = codes "package A is type T is access Integer; procedure Q (X : in T); end; package body A is procedure Q (X : in T) is begin X.all := 1; end; end; with A; procedure P is Y : A.T; begin A.Q (Y); end;"

abbrev cuts : List Cut
cuts = found (tokens 0 text 1000)

is_cut : tokens 0 text 1000 ≡ Ok cuts
unfolding computes
is_cut = refl

parsed : AreParsed 0 (cuts ∷ []) files
unfolding computes
parsed = (cut_in_order 0 text 1000 cuts is_cut, spelled, tt)

pub shown_sound : RunsAreSound files
shown_sound input =
    parsed_called_sound files (cuts ∷ []) parsed named typed 2 is_main (nothing (flow_of files) passes) (no_effects (flow_of files) passes)
    (no_reports (flow_of files) passes no_aliases 9
    (each (λ (sub : FlowSub). path_passes 9 (path_points (flow_of files) (nothing (flow_of files) passes) sub) [] 0) (flow_of files).subs paths))
    input
