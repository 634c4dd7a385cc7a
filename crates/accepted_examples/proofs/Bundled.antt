-- A text with a record that owns, passed for formals of mode `in` of a function and a procedure: from a variable, from a formal
-- and from a package object; and the law on runs of it.
use Rattle.std.specs.Prelude.{codes}
use Rattle.std.proofs.Common.{◌≡◌, ℕ, true, List, [], ◌∷◌, refl, Some, None, Ok, Err}
use Rattle.ada_lexer.specs.Tokens.{Cut, CutResult, tokens}
use Rattle.ada_tree.specs.declared.expression.Primary.TheVariants as primary
use Rattle.ada_tree.specs.declared.declaration.Item.TheVariants as item
use Rattle.ada_tree.specs.declared.declaration.Component.TheVariants as component
use Rattle.ada_tree.specs.declared.declaration.Indication.TheVariants as indication
use Rattle.ada_tree.specs.declared.expression.Arg.TheVariants as arg
use Rattle.ada_tree.specs.declared.expression.Name.TheVariants as name
use Rattle.ada_tree.specs.declared.expression.Suffix.TheVariants as suffix
use Rattle.ada_tree.specs.declared.statement.Stmt.TheVariants as stmt
use Rattle.ada_tree.specs.declared.statement.Stmts.TheVariants as stmts
use Rattle.ada_tree.specs.declared.subprogram.Decl.TheVariants as decl
use Rattle.ada_tree.specs.declared.subprogram.Formal.TheVariants as formal
use Rattle.ada_tree.specs.declared.subprogram.Subspec.TheVariants as subspec
use Rattle.ada_tree.specs.declared.unit.BodyPart.TheVariants as part
use Rattle.ada_tree.specs.declared.unit.Context.TheVariants as context
use Rattle.ada_tree.specs.declared.unit.SourceUnit.{SourceUnit}
use Rattle.ada_tree.specs.declared.unit.SourceUnit.TheVariants as unit
use Rattle.ada_grammar.proofs.SmallSources.{IsTextOf, computes, source_of, at, id, selected, mark, name_of, object, expr_of, sole, formals_of, package_of, package_body_of, subprogram_of}
use Rattle.name_events.specs.Faults.{name_fault}
use Rattle.machine.specs.type_definitions.Whole.{type_fault}
use Rattle.typing_steps.specs.Programs.{program_of}
use Rattle.machine.specs.flow_paths.Laid.{FlowSub}
use Rattle.machine.specs.flow_paths.Effects.{AreEffects, asks_for_end, path_points}
use Rattle.machine.specs.flow_paths.Aliases.{alias_reports}
use Rattle.machine.specs.flow_paths.Views.{encloses_within}
use Rattle.program_check.specs.Sources.{flow_of}
use Rattle.settled_types.specs.FilePositions.Texts.{AreParsed}
use Rattle.settled_types.proofs.FilePositions.Cuts.{cut_in_order}
use Rattle.settled_types.specs.OrderLaws.Orderly.{typed_of}
use Rattle.accepted_runs.proofs.ViewedFiles.Files.{parsed_called_sound}
use Rattle.accepted_runs.proofs.Runs.{RunsAreSound}
use Rattle.accepted_examples.proofs.Naming.{naming}
use Rattle.accepted_examples.proofs.Typing.{typing}
use Rattle.accepted_examples.proofs.Lowering.{lowering}
use Rattle.accepted_examples.proofs.Quiet.{all_pass, each}
use Rattle.accepted_examples.proofs.Unreported.{path_passes, keeps_rules, is_silent, reports_silent}
use Rattle.accepted_examples.proofs.Affected.{affected, effects_are}

abbrev pub units : List SourceUnit
units =
    unit.OfPackage (at 1) []
    (package_of 1 (id 9 "A") None 11 (decl.OfItem (at 14) (item.AccessType (at 14) (id 19 "T") (at 21) (at 24) (mark 31 "Integer") (at 38))
    ∷ decl.OfItem (at 40) (item.RecordType (at 40) (id 45 "R") (at 47) (at 50) (component.Fields (at 57) (id 57 "C") [] (at 59) (mark 61 "T") (at 62)) [] (at 64) (at 68) (at 74))
    ∷ decl.OfItem (at 76) (item.Objects (at 76) (id 76 "G") [] (at 78) None (indication.Mark (at 80) (mark 80 "R")) (at 81))
    ∷ decl.Subprogram (at 83) (subspec.Function (at 83) (id 92 "F") (Some (formals_of 94 (formal.Moded (at 95) (id 95 "X") [] (at 97) (Some (at 99)) None (mark 102 "R")) [] 103)) (at 105) (indication.Mark (at 112) (mark 112 "Integer"))) None (at 119)
    ∷ decl.Subprogram (at 121) (subspec.Procedure (at 121) (id 131 "Q") (Some (formals_of 133 (formal.Moded (at 134) (id 134 "X") [] (at 136) (Some (at 138)) None (mark 141 "R")) [] 142))) None (at 143)
    ∷ []) None 145 None 148)
    ∷ unit.OfBody (at 150) []
    (package_body_of 150 158 (id 163 "A") None 165 (part.Completed (at 168) (subprogram_of 168 (subspec.Function (at 168) (id 177 "F") (Some (formals_of 179 (formal.Moded (at 180) (id 180 "X") [] (at 182) (Some (at 184)) None (mark 187 "R")) [] 188)) (at 190) (indication.Mark (at 197) (mark 197 "Integer"))) None 205 [] 208
    (sole 214 (stmt.ReturnValue (at 214) (expr_of 221 (primary.Named (at 221) (name.Prefixed (at 221) (id 221 "X") (suffix.Selected (at 222) (id 223 "C") ∷ suffix.Dereferenced (at 224) (at 225) ∷ [])))) (at 228))) 230 None 233)
    ∷ part.Completed (at 235) (subprogram_of 235 (subspec.Procedure (at 235) (id 245 "Q") (Some (formals_of 247 (formal.Moded (at 248) (id 248 "X") [] (at 250) (Some (at 252)) None (mark 255 "R")) [] 256))) None 258 ((item.Objects (at 261) (id 261 "N") [] (at 263) None (indication.Mark (at 265) (mark 265 "Integer")) (at 272))
    ∷ []) 274
    (sole 280 (stmt.Assign (at 280) (name_of 280 "N") (at 282) (expr_of 285 (primary.Named (at 285) (name.Prefixed (at 285) (id 285 "F") (suffix.Applied (at 287) (arg.Positional (at 288) (expr_of 288 (object 288 "X"))) [] (at 289) ∷ [])))) (at 290))) 292 None 295)
    ∷ []) 297 None 300)
    ∷ unit.OfSubprogram (at 302) (context.With (at 302) (mark 307 "A") [] (at 308) ∷ [])
    (subprogram_of 310 (subspec.Procedure (at 310) (id 320 "P") None) None 322 ((item.Objects (at 325) (id 325 "X") [] (at 327) None (indication.Mark (at 329) (selected 329 "A" 330 331 "R")) (at 332))
    ∷ []) 334
    (stmts.Sequence (at 340) (stmt.Call (at 340) (name.Prefixed (at 340) (id 340 "A") (suffix.Selected (at 341) (id 342 "Q") ∷ suffix.Applied (at 344) (arg.Positional (at 345) (expr_of 345 (object 345 "X"))) [] (at 346) ∷ [])) (at 347)) (stmt.Call (at 349) (name.Prefixed (at 349) (id 349 "A") (suffix.Selected (at 350) (id 351 "Q") ∷ suffix.Applied (at 353) (arg.Positional (at 354) (expr_of 354 (primary.Named (at 354) (name.Prefixed (at 354) (id 354 "A") (suffix.Selected (at 355) (id 356 "G") ∷ []))))) [] (at 357) ∷ [])) (at 358) ∷ [])) 360 None 363)
    ∷ []

abbrev pub files : List (List SourceUnit)
files = units ∷ []

pub spelled : IsTextOf "package A is type T is access Integer; type R is record C : T; end record; G : R; function F (X : in R) return Integer; procedure Q (X : in R); end; package body A is function F (X : in R) return Integer is begin return X.C.all; end; procedure Q (X : in R) is N : Integer; begin N := F (X); end; end; with A; procedure P is X : A.R; begin A.Q (X); A.Q (A.G); end;" units
unfolding computes
spelled = source_of (search) (search) refl

pub named : name_fault files ≡ None
unfolding computes naming
named = refl

pub typed : type_fault (program_of files) ≡ None
unfolding computes naming typing lowering
typed = refl

-- ---- it has a main procedure

pub is_main : (typed_of (program_of files)).main ≡ Some 3
unfolding computes naming typing lowering
is_main = refl

-- ---- nothing is reported of it

passes : all_pass (keeps_rules (flow_of files)) (flow_of files).subs ≡ true
unfolding computes naming typing lowering encloses_within
passes = refl

silent : all_pass is_silent (flow_of files).subs ≡ true
unfolding computes naming typing lowering
silent = refl

effects : AreEffects (flow_of files) (affected (flow_of files))
unfolding computes naming typing lowering asks_for_end
effects = effects_are (flow_of files) refl refl refl

no_aliases : alias_reports (flow_of files) (affected (flow_of files)) ≡ []
unfolding computes naming typing lowering asks_for_end
no_aliases = refl

paths : all_pass (λ (sub : FlowSub). path_passes 9 (path_points (flow_of files) (affected (flow_of files)) sub) [] 0) (flow_of files).subs ≡ true
unfolding computes naming typing lowering asks_for_end
paths = refl

-- ---- so its runs are sound

abbrev found : CutResult → List Cut
found (Ok cuts) = cuts
found (Err fault) = []

abbrev text : List ℕ
text = codes "package A is type T is access Integer; type R is record C : T; end record; G : R; function F (X : in R) return Integer; procedure Q (X : in R); end; package body A is function F (X : in R) return Integer is begin return X.C.all; end; procedure Q (X : in R) is N : Integer; begin N := F (X); end; end; with A; procedure P is X : A.R; begin A.Q (X); A.Q (A.G); end;"

abbrev cuts : List Cut
cuts = found (tokens 0 text 1000)

is_cut : tokens 0 text 1000 ≡ Ok cuts
unfolding computes
is_cut = refl

parsed : AreParsed 0 (cuts ∷ []) files
unfolding computes
parsed = (cut_in_order 0 text 1000 cuts is_cut, spelled, tt)

pub bundled_sound : RunsAreSound files
bundled_sound input =
    parsed_called_sound files (cuts ∷ []) parsed named typed 3 is_main (affected (flow_of files)) effects
    (reports_silent (flow_of files) (affected (flow_of files)) passes silent no_aliases 9
    (each (λ (sub : FlowSub). path_passes 9 (path_points (flow_of files) (affected (flow_of files)) sub) [] 0) (flow_of files).subs paths))
    input
