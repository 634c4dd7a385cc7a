-- A text with a function that gives a borrower, which an observer takes, and the law on runs of it.
use Rattle.std.specs.Prelude.{codes}
use Rattle.std.proofs.Common.{◌≡◌, ℕ, true, List, [], ◌∷◌, refl, Some, None, Ok, Err}
use Rattle.ada_lexer.specs.Tokens.{Cut, CutResult, tokens}
use Rattle.ada_tree.specs.declared.expression.Primary.TheVariants as primary
use Rattle.ada_tree.specs.declared.declaration.Item.TheVariants as item
use Rattle.ada_tree.specs.declared.declaration.Indication.TheVariants as indication
use Rattle.ada_tree.specs.declared.expression.Arg.TheVariants as arg
use Rattle.ada_tree.specs.declared.expression.Name.TheVariants as name
use Rattle.ada_tree.specs.declared.expression.Suffix.TheVariants as suffix
use Rattle.ada_tree.specs.declared.statement.Stmt.TheVariants as stmt
use Rattle.ada_tree.specs.declared.subprogram.Decl.TheVariants as decl
use Rattle.ada_tree.specs.declared.subprogram.Formal.TheVariants as formal
use Rattle.ada_tree.specs.declared.subprogram.Subspec.TheVariants as subspec
use Rattle.ada_tree.specs.declared.unit.BodyPart.TheVariants as part
use Rattle.ada_tree.specs.declared.unit.Context.TheVariants as context
use Rattle.ada_tree.specs.declared.unit.SourceUnit.{SourceUnit}
use Rattle.ada_tree.specs.declared.unit.SourceUnit.TheVariants as unit
use Rattle.ada_grammar.proofs.SmallSources.{IsTextOf, computes, source_of, at, id, selected, mark, name_of, object, expr_of, sole, formals_of, package_of, package_body_of, subprogram_of}
use Rattle.name_events.specs.Faults.{name_fault}
use Rattle.machine.specs.type_definitions.Whole.{type_fault}
use Rattle.typing_steps.specs.Programs.{program_of}
use Rattle.machine.specs.flow_paths.Laid.{FlowSub}
use Rattle.machine.specs.flow_paths.Effects.{asks_for_end, path_points}
use Rattle.machine.specs.flow_paths.Aliases.{alias_reports}
use Rattle.machine.specs.flow_paths.Views.{encloses_within}
use Rattle.program_check.specs.Sources.{flow_of}
use Rattle.settled_types.specs.FilePositions.Texts.{AreParsed}
use Rattle.settled_types.proofs.FilePositions.Cuts.{cut_in_order}
use Rattle.settled_types.specs.OrderLaws.Orderly.{typed_of}
use Rattle.accepted_runs.proofs.ViewedFiles.Files.{parsed_called_sound}
use Rattle.accepted_runs.proofs.Runs.{RunsAreSound}
use Rattle.accepted_examples.proofs.Naming.{naming}
use Rattle.accepted_examples.proofs.Typing.{typing}
use Rattle.accepted_examples.proofs.Lowering.{lowering}
use Rattle.accepted_examples.proofs.Quiet.{all_pass, each}
use Rattle.accepted_examples.proofs.Unreported.{path_passes, sub_passes, nothing, no_reports, no_effects}

abbrev pub units : List SourceUnit
units =
    unit.OfPackage (at 1) []
    (package_of 1 (id 9 "A") None 11 (decl.OfItem (at 14) (item.AccessType (at 14) (id 19 "T") (at 21) (at 24) (mark 31 "Integer") (at 38))
    ∷ decl.Subprogram (at 40) (subspec.Function (at 40) (id 49 "F") (Some (formals_of 51 (formal.Anonymous (at 52) (id 52 "L") [] (at 54) (at 56) None (mark 63 "Integer")) [] 70)) (at 72) (indication.Anonymous (at 79) None (mark 86 "Integer"))) None (at 93)
    ∷ []) None 95 None 98)
    ∷ unit.OfBody (at 100) []
    (package_body_of 100 108 (id 113 "A") None 115 (part.Completed (at 118) (subprogram_of 118 (subspec.Function (at 118) (id 127 "F") (Some (formals_of 129 (formal.Anonymous (at 130) (id 130 "L") [] (at 132) (at 134) None (mark 141 "Integer")) [] 148)) (at 150) (indication.Anonymous (at 157) None (mark 164 "Integer"))) None 172 [] 175
    (sole 181 (stmt.ReturnValue (at 181) (expr_of 188 (object 188 "L")) (at 189))) 191 None 194)
    ∷ []) 196 None 199)
    ∷ unit.OfSubprogram (at 201) (context.With (at 201) (mark 206 "A") [] (at 207) ∷ [])
    (subprogram_of 209 (subspec.Procedure (at 209) (id 219 "P") None) None 221 ((item.Objects (at 224) (id 224 "Y") [] (at 226) None (indication.Mark (at 228) (selected 228 "A" 229 230 "T")) (at 231))
    ∷ (item.InitializedObjects (at 233) (id 233 "Z") [] (at 235) None (indication.Anonymous (at 237) (Some (at 244)) (mark 253 "Integer")) (at 261) (expr_of 264 (primary.Named (at 264) (name.Prefixed (at 264) (id 264 "A") (suffix.Selected (at 265) (id 266 "F") ∷ suffix.Applied (at 268) (arg.Positional (at 269) (expr_of 269 (object 269 "Y"))) [] (at 270) ∷ [])))) (at 271))
    ∷ (item.Objects (at 273) (id 273 "N") [] (at 275) None (indication.Mark (at 277) (mark 277 "Integer")) (at 284))
    ∷ []) 286
    (sole 292 (stmt.Assign (at 292) (name_of 292 "N") (at 294) (expr_of 297 (primary.Named (at 297) (name.Prefixed (at 297) (id 297 "Z") (suffix.Dereferenced (at 298) (at 299) ∷ [])))) (at 302))) 304 None 307)
    ∷ []

abbrev pub files : List (List SourceUnit)
files = units ∷ []

pub spelled : IsTextOf "package A is type T is access Integer; function F (L : access Integer) return access Integer; end; package body A is function F (L : access Integer) return access Integer is begin return L; end; end; with A; procedure P is Y : A.T; Z : access constant Integer := A.F (Y); N : Integer; begin N := Z.all; end;" units
unfolding computes
spelled = source_of (search) (search) refl

pub named : name_fault files ≡ None
unfolding computes naming
named = refl

pub typed : type_fault (program_of files) ≡ None
unfolding computes naming typing lowering
typed = refl

-- ---- it has a main procedure

pub is_main : (typed_of (program_of files)).main ≡ Some 2
unfolding computes naming typing lowering
is_main = refl

-- ---- nothing is reported of it

passes : all_pass (sub_passes (flow_of files)) (flow_of files).subs ≡ true
unfolding computes naming typing lowering asks_for_end encloses_within
passes = refl

no_aliases : alias_reports (flow_of files) (nothing (flow_of files) passes) ≡ []
unfolding computes naming typing lowering
no_aliases = refl

paths : all_pass (λ (sub : FlowSub). path_passes 9 (path_points (flow_of files) (nothing (flow_of files) passes) sub) [] 0) (flow_of files).subs ≡ true
unfolding computes naming typing lowering
paths = refl

-- ---- so its runs are sound

abbrev found : CutResult → List Cut
found (Ok cuts) = cuts
found (Err fault) = []

abbrev text : List ℕ
text = codes "package A is type T is access Integer; function F (L : access Integer) return access Integer; end; package body A is function F (L : access Integer) return access Integer is begin return L; end; end; with A; procedure P is Y : A.T; Z : access constant Integer := A.F (Y); N : Integer; begin N := Z.all; end;"

abbrev cuts : List Cut
cuts = found (tokens 0 text 1000)

is_cut : tokens 0 text 1000 ≡ Ok cuts
unfolding computes
is_cut = refl

parsed : AreParsed 0 (cuts ∷ []) files
unfolding computes
parsed = (cut_in_order 0 text 1000 cuts is_cut, spelled, tt)

pub watched_sound : RunsAreSound files
watched_sound input =
    parsed_called_sound files (cuts ∷ []) parsed named typed 2 is_main (nothing (flow_of files) passes) (no_effects (flow_of files) passes)
    (no_reports (flow_of files) passes no_aliases 9
    (each (λ (sub : FlowSub). path_passes 9 (path_points (flow_of files) (nothing (flow_of files) passes) sub) [] 0) (flow_of files).subs paths))
    input
