-- A text with a traversal function whose result a borrower takes, and the law on runs of it.
use Rattle.std.specs.Prelude.{codes}
use Rattle.ada_tree.specs.declared.expression.Primary.TheVariants as primary
use Rattle.std.proofs.Common.{◌≡◌, ℕ, ◌+◌, true, List, [], ◌∷◌, refl, Some, None, Ok, Err}
use Rattle.ada_lexer.specs.Tokens.{Cut, CutResult, tokens}
use Rattle.ada_tree.specs.declared.declaration.Item.TheVariants as item
use Rattle.ada_tree.specs.declared.declaration.Indication.TheVariants as indication
use Rattle.ada_tree.specs.declared.expression.Arg.TheVariants as arg
use Rattle.ada_tree.specs.declared.expression.Name.TheVariants as name
use Rattle.ada_tree.specs.declared.expression.Suffix.TheVariants as suffix
use Rattle.ada_tree.specs.declared.statement.Stmt.TheVariants as stmt
use Rattle.ada_tree.specs.declared.subprogram.Decl.TheVariants as decl
use Rattle.ada_tree.specs.declared.subprogram.Formal.TheVariants as formal
use Rattle.ada_tree.specs.declared.subprogram.Subspec.{Subspec}
use Rattle.ada_tree.specs.declared.subprogram.Subspec.TheVariants as subspec
use Rattle.ada_tree.specs.declared.unit.BodyPart.TheVariants as part
use Rattle.ada_tree.specs.declared.unit.Context.TheVariants as context
use Rattle.ada_tree.specs.declared.unit.SourceUnit.{SourceUnit}
use Rattle.ada_tree.specs.declared.unit.SourceUnit.TheVariants as unit
use Rattle.ada_grammar.proofs.SmallSources.{IsTextOf, computes, source_of, at, id, mark, selected, expr_of, object, sole, formals_of, package_of, package_body_of, subprogram_of}
use Rattle.name_events.specs.Faults.{name_fault}
use Rattle.machine.specs.type_definitions.Whole.{type_fault}
use Rattle.typing_steps.specs.Programs.{program_of}
use Rattle.machine.specs.flow_paths.Laid.{FlowSub}
use Rattle.machine.specs.flow_paths.Effects.{asks_for_end, path_points}
use Rattle.machine.specs.flow_paths.Aliases.{alias_reports}
use Rattle.machine.specs.flow_paths.Views.{encloses_within}
use Rattle.program_check.specs.Sources.{flow_of}
use Rattle.settled_types.specs.FilePositions.Texts.{AreParsed}
use Rattle.settled_types.proofs.FilePositions.Cuts.{cut_in_order}
use Rattle.settled_types.specs.OrderLaws.Orderly.{typed_of}
use Rattle.accepted_runs.proofs.ViewedFiles.Files.{parsed_called_sound}
use Rattle.accepted_runs.proofs.Runs.{RunsAreSound}
use Rattle.accepted_examples.proofs.Naming.{naming}
use Rattle.accepted_examples.proofs.Typing.{typing}
use Rattle.accepted_examples.proofs.Lowering.{lowering}
use Rattle.accepted_examples.proofs.Quiet.{all_pass, each}
use Rattle.accepted_examples.proofs.Unreported.{path_passes, sub_passes, nothing, no_reports, no_effects}

-- "function F (L : access Integer) return access Integer", from its column on
abbrev front : ℕ → Subspec
front column =
    subspec.Function (at column) (id (column + 9) "F")
    (Some (formals_of (column + 11) (formal.Anonymous (at (column + 12)) (id (column + 12) "L") [] (at (column + 14)) (at (column + 16)) None (mark (column + 23) "Integer")) []
    (column + 30))) (at (column + 32)) (indication.Anonymous (at (column + 39)) None (mark (column + 46) "Integer"))

abbrev pub units : List SourceUnit
units =
    unit.OfPackage (at 1) []
    (package_of 1 (id 9 "A") None 11 (decl.OfItem (at 14) (item.AccessType (at 14) (id 19 "T") (at 21) (at 24) (mark 31 "Integer") (at 38))
    ∷ decl.Subprogram (at 40) (front 40) None (at 93) ∷ []) None 95 None 98)
    ∷ unit.OfBody (at 100) []
    (package_body_of 100 108 (id 113 "A") None 115 (part.Completed (at 118) (subprogram_of 118 (front 118) None 172 [] 175
    (sole 181 (stmt.ReturnValue (at 181) (expr_of 188 (object 188 "L")) (at 189))) 191 None 194) ∷ []) 196 None 199)
    ∷ unit.OfSubprogram (at 201) (context.With (at 201) (mark 206 "A") [] (at 207) ∷ [])
    (subprogram_of 209 (subspec.Procedure (at 209) (id 219 "P") None) None 221
    (item.Objects (at 224) (id 224 "Y") [] (at 226) None (indication.Mark (at 228) (selected 228 "A" 229 230 "T")) (at 231)
    ∷ item.InitializedObjects (at 233) (id 233 "Z") [] (at 235) None (indication.Anonymous (at 237) None (mark 244 "Integer")) (at 252)
    (expr_of 255 (primary.Named (at 255) (name.Prefixed (at 255) (id 255 "A") (suffix.Selected (at 256) (id 257 "F")
    ∷ suffix.Applied (at 259) (arg.Positional (at 260) (expr_of 260 (object 260 "Y"))) [] (at 261) ∷ [])))) (at 262)
    ∷ []) 264
    (sole 270 (stmt.Assign (at 270) (name.Prefixed (at 270) (id 270 "Z") (suffix.Dereferenced (at 271) (at 272) ∷ [])) (at 276)
    (expr_of 279 (primary.Number (at 279) 1)) (at 280))) 282 None 285)
    ∷ []

abbrev pub files : List (List SourceUnit)
files = units ∷ []

pub spelled : IsTextOf "package A is type T is access Integer; function F (L : access Integer) return access Integer; end; package body A is function F (L : access Integer) return access Integer is begin return L; end; end; with A; procedure P is Y : A.T; Z : access Integer := A.F (Y); begin Z.all := 1; end;" units
unfolding computes
spelled = source_of (search) (search) refl

pub named : name_fault files ≡ None
unfolding computes naming
named = refl

pub typed : type_fault (program_of files) ≡ None
unfolding computes naming typing lowering
typed = refl

-- ---- it has a main procedure

pub is_main : (typed_of (program_of files)).main ≡ Some 2
unfolding computes naming typing lowering
is_main = refl

-- ---- nothing is reported of it

passes : all_pass (sub_passes (flow_of files)) (flow_of files).subs ≡ true
unfolding computes naming typing lowering asks_for_end encloses_within
passes = refl

no_aliases : alias_reports (flow_of files) (nothing (flow_of files) passes) ≡ []
unfolding computes naming typing lowering
no_aliases = refl

paths : all_pass (λ (sub : FlowSub). path_passes 9 (path_points (flow_of files) (nothing (flow_of files) passes) sub) [] 0) (flow_of files).subs ≡ true
unfolding computes naming typing lowering
paths = refl

-- ---- so its runs are sound

abbrev found : CutResult → List Cut
found (Ok cuts) = cuts
found (Err fault) = []

abbrev text : List ℕ
text = codes "package A is type T is access Integer; function F (L : access Integer) return access Integer; end; package body A is function F (L : access Integer) return access Integer is begin return L; end; end; with A; procedure P is Y : A.T; Z : access Integer := A.F (Y); begin Z.all := 1; end;"

abbrev cuts : List Cut
cuts = found (tokens 0 text 1000)

is_cut : tokens 0 text 1000 ≡ Ok cuts
unfolding computes
is_cut = refl

parsed : AreParsed 0 (cuts ∷ []) files
unfolding computes
parsed = (cut_in_order 0 text 1000 cuts is_cut, spelled, tt)

pub traversed_sound : RunsAreSound files
traversed_sound input =
    parsed_called_sound files (cuts ∷ []) parsed named typed 2 is_main (nothing (flow_of files) passes) (no_effects (flow_of files) passes)
    (no_reports (flow_of files) passes no_aliases 9
    (each (λ (sub : FlowSub). path_passes 9 (path_points (flow_of files) (nothing (flow_of files) passes) sub) [] 0) (flow_of files).subs paths))
    input
