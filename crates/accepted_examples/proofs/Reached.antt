-- A text with a function that gives a borrower and looks at the package object that it goes through, and the law on runs of
-- it.
use Rattle.std.specs.Prelude.{codes}
use Rattle.std.proofs.Common.{◌≡◌, ℕ, true, List, [], ◌∷◌, refl, Some, None, Ok, Err}
use Rattle.ada_lexer.specs.Tokens.{Cut, CutResult, tokens}
use Rattle.ada_tree.specs.declared.expression.Primary.TheVariants as primary
use Rattle.ada_tree.specs.declared.declaration.Item.TheVariants as item
use Rattle.ada_tree.specs.declared.declaration.Indication.TheVariants as indication
use Rattle.ada_tree.specs.declared.expression.Expr.TheVariants as expr
use Rattle.ada_tree.specs.declared.expression.Rel.TheVariants as rel
use Rattle.ada_tree.specs.declared.operator.RelationalOperator.TheVariants as relational
use Rattle.ada_tree.specs.declared.expression.Arg.TheVariants as arg
use Rattle.ada_tree.specs.declared.expression.Name.TheVariants as name
use Rattle.ada_tree.specs.declared.expression.Suffix.TheVariants as suffix
use Rattle.ada_tree.specs.declared.statement.Stmt.TheVariants as stmt
use Rattle.ada_tree.specs.declared.statement.Stmts.TheVariants as stmts
use Rattle.ada_tree.specs.declared.subprogram.Decl.TheVariants as decl
use Rattle.ada_tree.specs.declared.subprogram.Formal.TheVariants as formal
use Rattle.ada_tree.specs.declared.subprogram.Subspec.TheVariants as subspec
use Rattle.ada_tree.specs.declared.unit.BodyPart.TheVariants as part
use Rattle.ada_tree.specs.declared.unit.Context.TheVariants as context
use Rattle.ada_tree.specs.declared.unit.SourceUnit.{SourceUnit}
use Rattle.ada_tree.specs.declared.unit.SourceUnit.TheVariants as unit
use Rattle.ada_grammar.proofs.SmallSources.{IsTextOf, computes, source_of, at, id, mark, object, sum_of, expr_of, sole, formals_of, package_of, package_body_of, subprogram_of}
use Rattle.name_events.specs.Faults.{name_fault}
use Rattle.machine.specs.type_definitions.Whole.{type_fault}
use Rattle.typing_steps.specs.Programs.{program_of}
use Rattle.machine.specs.flow_paths.Laid.{FlowSub}
use Rattle.machine.specs.flow_paths.Effects.{AreEffects, asks_for_end, path_points}
use Rattle.machine.specs.flow_paths.Aliases.{alias_reports}
use Rattle.machine.specs.flow_paths.Views.{encloses_within}
use Rattle.program_check.specs.Sources.{flow_of}
use Rattle.settled_types.specs.FilePositions.Texts.{AreParsed}
use Rattle.settled_types.proofs.FilePositions.Cuts.{cut_in_order}
use Rattle.settled_types.specs.OrderLaws.Orderly.{typed_of}
use Rattle.accepted_runs.proofs.ViewedFiles.Files.{parsed_called_sound}
use Rattle.accepted_runs.proofs.Runs.{RunsAreSound}
use Rattle.accepted_examples.proofs.Naming.{naming}
use Rattle.accepted_examples.proofs.Typing.{typing}
use Rattle.accepted_examples.proofs.Lowering.{lowering}
use Rattle.accepted_examples.proofs.Quiet.{all_pass, each}
use Rattle.accepted_examples.proofs.Unreported.{path_passes, keeps_rules, is_silent, reports_silent}
use Rattle.accepted_examples.proofs.Affected.{affected, effects_are}

abbrev pub units : List SourceUnit
units =
    unit.OfPackage (at 1) []
    (package_of 1 (id 9 "A") None 11 (decl.OfItem (at 14) (item.AccessType (at 14) (id 19 "T") (at 21) (at 24) (mark 31 "Integer") (at 38))
    ∷ decl.OfItem (at 40) (item.Objects (at 40) (id 40 "G") [] (at 42) None (indication.Mark (at 44) (mark 44 "T")) (at 45))
    ∷ decl.Subprogram (at 47) (subspec.Function (at 47) (id 56 "F") (Some (formals_of 58 (formal.Anonymous (at 59) (id 59 "L") [] (at 61) (at 63) None (mark 70 "Integer")) [] 77)) (at 79) (indication.Anonymous (at 86) None (mark 93 "Integer"))) None (at 100)
    ∷ []) None 102 None 105)
    ∷ unit.OfBody (at 107) []
    (package_body_of 107 115 (id 120 "A") None 122 (part.Completed (at 125) (subprogram_of 125 (subspec.Function (at 125) (id 134 "F") (Some (formals_of 136 (formal.Anonymous (at 137) (id 137 "L") [] (at 139) (at 141) None (mark 148 "Integer")) [] 155)) (at 157) (indication.Anonymous (at 164) None (mark 171 "Integer"))) None 179 [] 182
    (stmts.Sequence (at 188) (stmt.If (at 188) (expr.LoneRelation (at 191) (rel.Compared (at 191) (sum_of 191 (object 191 "G")) relational.Equal (at 193) (sum_of 195 (primary.Null (at 195))))) (at 200) (sole 205 (stmt.ReturnValue (at 205) (expr_of 212 (primary.Null (at 212))) (at 216))) [] (at 218) (at 222) (at 224)) (stmt.ReturnValue (at 226) (expr_of 233 (object 233 "L")) (at 234) ∷ [])) 236 None 239)
    ∷ []) 241 None 244)
    ∷ unit.OfSubprogram (at 246) (context.With (at 246) (mark 251 "A") [] (at 252) ∷ [])
    (subprogram_of 254 (subspec.Procedure (at 254) (id 264 "P") None) None 266 ((item.InitializedObjects (at 269) (id 269 "Z") [] (at 271) None (indication.Anonymous (at 273) None (mark 280 "Integer")) (at 288) (expr_of 291 (primary.Named (at 291) (name.Prefixed (at 291) (id 291 "A") (suffix.Selected (at 292) (id 293 "F") ∷ suffix.Applied (at 295) (arg.Positional (at 296) (expr_of 296 (primary.Named (at 296) (name.Prefixed (at 296) (id 296 "A") (suffix.Selected (at 297) (id 298 "G") ∷ []))))) [] (at 299) ∷ [])))) (at 300))
    ∷ []) 302
    (sole 308 (stmt.Assign (at 308) (name.Prefixed (at 308) (id 308 "Z") (suffix.Dereferenced (at 309) (at 310) ∷ [])) (at 314) (expr_of 317 (primary.Number (at 317) 1)) (at 318))) 320 None 323)
    ∷ []

abbrev pub files : List (List SourceUnit)
files = units ∷ []

pub spelled : IsTextOf "package A is type T is access Integer; G : T; function F (L : access Integer) return access Integer; end; package body A is function F (L : access Integer) return access Integer is begin if G = null then return null; end if; return L; end; end; with A; procedure P is Z : access Integer := A.F (A.G); begin Z.all := 1; end;" units
unfolding computes
spelled = source_of (search) (search) refl

pub named : name_fault files ≡ None
unfolding computes naming
named = refl

pub typed : type_fault (program_of files) ≡ None
unfolding computes naming typing lowering
typed = refl

-- ---- it has a main procedure

pub is_main : (typed_of (program_of files)).main ≡ Some 2
unfolding computes naming typing lowering
is_main = refl

-- ---- nothing is reported of it

passes : all_pass (keeps_rules (flow_of files)) (flow_of files).subs ≡ true
unfolding computes naming typing lowering encloses_within
passes = refl

silent : all_pass is_silent (flow_of files).subs ≡ true
unfolding computes naming typing lowering
silent = refl

effects : AreEffects (flow_of files) (affected (flow_of files))
unfolding computes naming typing lowering asks_for_end
effects = effects_are (flow_of files) refl refl refl

no_aliases : alias_reports (flow_of files) (affected (flow_of files)) ≡ []
unfolding computes naming typing lowering asks_for_end
no_aliases = refl

paths : all_pass (λ (sub : FlowSub). path_passes 9 (path_points (flow_of files) (affected (flow_of files)) sub) [] 0) (flow_of files).subs ≡ true
unfolding computes naming typing lowering asks_for_end
paths = refl

-- ---- so its runs are sound

abbrev found : CutResult → List Cut
found (Ok cuts) = cuts
found (Err fault) = []

abbrev text : List ℕ
text = codes "package A is type T is access Integer; G : T; function F (L : access Integer) return access Integer; end; package body A is function F (L : access Integer) return access Integer is begin if G = null then return null; end if; return L; end; end; with A; procedure P is Z : access Integer := A.F (A.G); begin Z.all := 1; end;"

abbrev cuts : List Cut
cuts = found (tokens 0 text 1000)

is_cut : tokens 0 text 1000 ≡ Ok cuts
unfolding computes
is_cut = refl

parsed : AreParsed 0 (cuts ∷ []) files
unfolding computes
parsed = (cut_in_order 0 text 1000 cuts is_cut, spelled, tt)

pub reached_sound : RunsAreSound files
reached_sound input =
    parsed_called_sound files (cuts ∷ []) parsed named typed 2 is_main (affected (flow_of files)) effects
    (reports_silent (flow_of files) (affected (flow_of files)) passes silent no_aliases 9
    (each (λ (sub : FlowSub). path_passes 9 (path_points (flow_of files) (affected (flow_of files)) sub) [] 0) (flow_of files).subs paths))
    input
