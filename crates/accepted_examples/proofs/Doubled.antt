-- A text with a function that gives a borrower and looks at what it goes through by another formal, too, and the law on runs
-- of it.
use Rattle.std.specs.Prelude.{codes}
use Rattle.std.proofs.Common.{◌≡◌, ℕ, true, List, [], ◌∷◌, refl, Some, None, Ok, Err}
use Rattle.ada_lexer.specs.Tokens.{Cut, CutResult, tokens}
use Rattle.ada_tree.specs.declared.expression.Primary.TheVariants as primary
use Rattle.ada_tree.specs.declared.declaration.Item.TheVariants as item
use Rattle.ada_tree.specs.declared.declaration.Indication.TheVariants as indication
use Rattle.ada_tree.specs.declared.expression.Expr.TheVariants as expr
use Rattle.ada_tree.specs.declared.expression.Rel.TheVariants as rel
use Rattle.ada_tree.specs.declared.operator.RelationalOperator.TheVariants as relational
use Rattle.ada_tree.specs.declared.expression.Arg.TheVariants as arg
use Rattle.ada_tree.specs.declared.expression.NextArg.TheVariants as next_arg
use Rattle.ada_tree.specs.declared.expression.Name.TheVariants as name
use Rattle.ada_tree.specs.declared.expression.Suffix.TheVariants as suffix
use Rattle.ada_tree.specs.declared.statement.Stmt.TheVariants as stmt
use Rattle.ada_tree.specs.declared.statement.Stmts.TheVariants as stmts
use Rattle.ada_tree.specs.declared.subprogram.Decl.TheVariants as decl
use Rattle.ada_tree.specs.declared.subprogram.Formal.TheVariants as formal
use Rattle.ada_tree.specs.declared.subprogram.NextFormal.TheVariants as next_formal
use Rattle.ada_tree.specs.declared.subprogram.Subspec.TheVariants as subspec
use Rattle.ada_tree.specs.declared.unit.BodyPart.TheVariants as part
use Rattle.ada_tree.specs.declared.unit.Context.TheVariants as context
use Rattle.ada_tree.specs.declared.unit.SourceUnit.{SourceUnit}
use Rattle.ada_tree.specs.declared.unit.SourceUnit.TheVariants as unit
use Rattle.ada_grammar.proofs.SmallSources.{IsTextOf, computes, source_of, at, id, selected, mark, object, sum_of, expr_of, sole, formals_of, package_of, package_body_of, subprogram_of}
use Rattle.name_events.specs.Faults.{name_fault}
use Rattle.machine.specs.type_definitions.Whole.{type_fault}
use Rattle.typing_steps.specs.Programs.{program_of}
use Rattle.machine.specs.flow_paths.Laid.{FlowSub}
use Rattle.machine.specs.flow_paths.Effects.{asks_for_end, path_points}
use Rattle.machine.specs.flow_paths.Aliases.{alias_reports}
use Rattle.machine.specs.flow_paths.Views.{encloses_within}
use Rattle.program_check.specs.Sources.{flow_of}
use Rattle.settled_types.specs.FilePositions.Texts.{AreParsed}
use Rattle.settled_types.proofs.FilePositions.Cuts.{cut_in_order}
use Rattle.settled_types.specs.OrderLaws.Orderly.{typed_of}
use Rattle.accepted_runs.proofs.ViewedFiles.Files.{parsed_called_sound}
use Rattle.accepted_runs.proofs.Runs.{RunsAreSound}
use Rattle.accepted_examples.proofs.Naming.{naming}
use Rattle.accepted_examples.proofs.Typing.{typing}
use Rattle.accepted_examples.proofs.Lowering.{lowering}
use Rattle.accepted_examples.proofs.Quiet.{all_pass, each}
use Rattle.accepted_examples.proofs.Unreported.{path_passes, sub_passes, nothing, no_reports, no_effects}

abbrev pub units : List SourceUnit
units =
    unit.OfPackage (at 1) []
    (package_of 1 (id 9 "A") None 11 (decl.OfItem (at 14) (item.AccessType (at 14) (id 19 "T") (at 21) (at 24) (mark 31 "Integer") (at 38))
    ∷ decl.Subprogram (at 40) (subspec.Function (at 40) (id 49 "F") (Some (formals_of 51 (formal.Anonymous (at 52) (id 52 "L") [] (at 54) (at 56) None (mark 63 "Integer")) (next_formal.Semicolon (at 70) (formal.Moded (at 72) (id 72 "M") [] (at 74) None None (mark 76 "T")) ∷ []) 77)) (at 79) (indication.Anonymous (at 86) None (mark 93 "Integer"))) None (at 100)
    ∷ []) None 102 None 105)
    ∷ unit.OfBody (at 107) []
    (package_body_of 107 115 (id 120 "A") None 122 (part.Completed (at 125) (subprogram_of 125 (subspec.Function (at 125) (id 134 "F") (Some (formals_of 136 (formal.Anonymous (at 137) (id 137 "L") [] (at 139) (at 141) None (mark 148 "Integer")) (next_formal.Semicolon (at 155) (formal.Moded (at 157) (id 157 "M") [] (at 159) None None (mark 161 "T")) ∷ []) 162)) (at 164) (indication.Anonymous (at 171) None (mark 178 "Integer"))) None 186 [] 189
    (stmts.Sequence (at 195) (stmt.If (at 195) (expr.LoneRelation (at 198) (rel.Compared (at 198) (sum_of 198 (object 198 "M")) relational.Equal (at 200) (sum_of 202 (primary.Null (at 202))))) (at 207) (sole 212 (stmt.ReturnValue (at 212) (expr_of 219 (primary.Null (at 219))) (at 223))) [] (at 225) (at 229) (at 231)) (stmt.ReturnValue (at 233) (expr_of 240 (object 240 "L")) (at 241) ∷ [])) 243 None 246)
    ∷ []) 248 None 251)
    ∷ unit.OfSubprogram (at 253) (context.With (at 253) (mark 258 "A") [] (at 259) ∷ [])
    (subprogram_of 261 (subspec.Procedure (at 261) (id 271 "P") None) None 273 ((item.Objects (at 276) (id 276 "Y") [] (at 278) None (indication.Mark (at 280) (selected 280 "A" 281 282 "T")) (at 283))
    ∷ (item.InitializedObjects (at 285) (id 285 "Z") [] (at 287) None (indication.Anonymous (at 289) None (mark 296 "Integer")) (at 304) (expr_of 307 (primary.Named (at 307) (name.Prefixed (at 307) (id 307 "A") (suffix.Selected (at 308) (id 309 "F") ∷ suffix.Applied (at 311) (arg.Positional (at 312) (expr_of 312 (object 312 "Y"))) (next_arg.FurtherArg (at 313) (arg.Positional (at 315) (expr_of 315 (object 315 "Y"))) ∷ []) (at 316) ∷ [])))) (at 317))
    ∷ []) 319
    (sole 325 (stmt.Assign (at 325) (name.Prefixed (at 325) (id 325 "Z") (suffix.Dereferenced (at 326) (at 327) ∷ [])) (at 331) (expr_of 334 (primary.Number (at 334) 1)) (at 335))) 337 None 340)
    ∷ []

abbrev pub files : List (List SourceUnit)
files = units ∷ []

pub spelled : IsTextOf "package A is type T is access Integer; function F (L : access Integer; M : T) return access Integer; end; package body A is function F (L : access Integer; M : T) return access Integer is begin if M = null then return null; end if; return L; end; end; with A; procedure P is Y : A.T; Z : access Integer := A.F (Y, Y); begin Z.all := 1; end;" units
unfolding computes
spelled = source_of (search) (search) refl

pub named : name_fault files ≡ None
unfolding computes naming
named = refl

pub typed : type_fault (program_of files) ≡ None
unfolding computes naming typing lowering
typed = refl

-- ---- it has a main procedure

pub is_main : (typed_of (program_of files)).main ≡ Some 2
unfolding computes naming typing lowering
is_main = refl

-- ---- nothing is reported of it

passes : all_pass (sub_passes (flow_of files)) (flow_of files).subs ≡ true
unfolding computes naming typing lowering asks_for_end encloses_within
passes = refl

no_aliases : alias_reports (flow_of files) (nothing (flow_of files) passes) ≡ []
unfolding computes naming typing lowering
no_aliases = refl

paths : all_pass (λ (sub : FlowSub). path_passes 9 (path_points (flow_of files) (nothing (flow_of files) passes) sub) [] 0) (flow_of files).subs ≡ true
unfolding computes naming typing lowering
paths = refl

-- ---- so its runs are sound

abbrev found : CutResult → List Cut
found (Ok cuts) = cuts
found (Err fault) = []

abbrev text : List ℕ
text = codes "package A is type T is access Integer; function F (L : access Integer; M : T) return access Integer; end; package body A is function F (L : access Integer; M : T) return access Integer is begin if M = null then return null; end if; return L; end; end; with A; procedure P is Y : A.T; Z : access Integer := A.F (Y, Y); begin Z.all := 1; end;"

abbrev cuts : List Cut
cuts = found (tokens 0 text 1000)

is_cut : tokens 0 text 1000 ≡ Ok cuts
unfolding computes
is_cut = refl

parsed : AreParsed 0 (cuts ∷ []) files
unfolding computes
parsed = (cut_in_order 0 text 1000 cuts is_cut, spelled, tt)

pub doubled_sound : RunsAreSound files
doubled_sound input =
    parsed_called_sound files (cuts ∷ []) parsed named typed 2 is_main (nothing (flow_of files) passes) (no_effects (flow_of files) passes)
    (no_reports (flow_of files) passes no_aliases 9
    (each (λ (sub : FlowSub). path_passes 9 (path_points (flow_of files) (nothing (flow_of files) passes) sub) [] 0) (flow_of files).subs paths))
    input
