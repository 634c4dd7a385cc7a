-- A text with a call that copies back to a place behind a borrower of what a formal of mode `in` designates, and the law on
-- runs of it.
use Rattle.std.specs.Prelude.{codes}
use Rattle.ada_tree.specs.declared.expression.Primary.TheVariants as primary
use Rattle.std.proofs.Common.{◌≡◌, ℕ, ◌+◌, true, List, [], ◌∷◌, refl, Some, None, Ok, Err}
use Rattle.ada_lexer.specs.Tokens.{Cut, CutResult, tokens}
use Rattle.ada_tree.specs.declared.declaration.Item.{Item}
use Rattle.ada_tree.specs.declared.declaration.Item.TheVariants as item
use Rattle.ada_tree.specs.declared.statement.Stmts.{Stmts}
use Rattle.ada_tree.specs.declared.declaration.Indication.TheVariants as indication
use Rattle.ada_tree.specs.declared.expression.Arg.TheVariants as arg
use Rattle.ada_tree.specs.declared.expression.Name.TheVariants as name
use Rattle.ada_tree.specs.declared.expression.Suffix.TheVariants as suffix
use Rattle.ada_tree.specs.declared.statement.Stmt.TheVariants as stmt
use Rattle.ada_tree.specs.declared.subprogram.Decl.TheVariants as decl
use Rattle.ada_tree.specs.declared.subprogram.Formal.TheVariants as formal
use Rattle.ada_tree.specs.declared.subprogram.Subspec.{Subspec}
use Rattle.ada_tree.specs.declared.subprogram.Subspec.TheVariants as subspec
use Rattle.ada_tree.specs.declared.unit.BodyPart.TheVariants as part
use Rattle.ada_tree.specs.declared.unit.Context.TheVariants as context
use Rattle.ada_tree.specs.declared.unit.SourceUnit.{SourceUnit}
use Rattle.ada_tree.specs.declared.unit.SourceUnit.TheVariants as unit
use Rattle.ada_grammar.proofs.SmallSources.{IsTextOf, computes, source_of, at, id, mark, selected, expr_of, object, sole, null_at, formals_of, package_of, package_body_of, subprogram_of}
use Rattle.name_events.specs.Faults.{name_fault}
use Rattle.machine.specs.type_definitions.Whole.{type_fault}
use Rattle.typing_steps.specs.Programs.{program_of}
use Rattle.machine.specs.flow_paths.Laid.{FlowSub}
use Rattle.machine.specs.flow_paths.Effects.{asks_for_end, path_points}
use Rattle.machine.specs.flow_paths.Aliases.{alias_reports}
use Rattle.machine.specs.flow_paths.Views.{encloses_within}
use Rattle.program_check.specs.Sources.{flow_of}
use Rattle.settled_types.specs.FilePositions.Texts.{AreParsed}
use Rattle.settled_types.proofs.FilePositions.Cuts.{cut_in_order}
use Rattle.settled_types.specs.OrderLaws.Orderly.{typed_of}
use Rattle.accepted_runs.proofs.ViewedFiles.Files.{parsed_called_sound}
use Rattle.accepted_runs.proofs.Runs.{RunsAreSound}
use Rattle.accepted_examples.proofs.Naming.{naming}
use Rattle.accepted_examples.proofs.Typing.{typing}
use Rattle.accepted_examples.proofs.Lowering.{lowering}
use Rattle.accepted_examples.proofs.Quiet.{all_pass, each}
use Rattle.accepted_examples.proofs.Unreported.{path_passes, sub_passes, nothing, no_reports, no_effects}

-- "procedure Q (X : in out U)", from its column on
abbrev taker : ℕ → Subspec
taker column =
    subspec.Procedure (at column) (id (column + 10) "Q")
    (Some (formals_of (column + 12) (formal.Moded (at (column + 13)) (id (column + 13) "X") [] (at (column + 15)) (Some (at (column + 17))) (Some (at (column + 20))) (mark (column + 24) "U")) []
    (column + 25)))

-- "procedure S (X : in T)"
abbrev passer : ℕ → Subspec
passer column =
    subspec.Procedure (at column) (id (column + 10) "S")
    (Some (formals_of (column + 12) (formal.Moded (at (column + 13)) (id (column + 13) "X") [] (at (column + 15)) (Some (at (column + 17))) None (mark (column + 20) "T")) []
    (column + 21)))

-- "B : access U := X; begin Q (B.all); end;"
abbrev borrows : List Item
borrows = item.InitializedObjects (at 208) (id 208 "B") [] (at 210) None (indication.Anonymous (at 212) None (mark 219 "U")) (at 221) (expr_of 224 (object 224 "X")) (at 225) ∷ []

abbrev passes_on : Stmts
passes_on =
    sole 233 (stmt.Call (at 233) (name.Prefixed (at 233) (id 233 "Q")
    (suffix.Applied (at 235) (arg.Positional (at 236) (expr_of 236 (primary.Named (at 236) (name.Prefixed (at 236) (id 236 "B") (suffix.Dereferenced (at 237) (at 238) ∷ []))))) [] (at 241) ∷ [])) (at 242))

abbrev pub units : List SourceUnit
units =
    unit.OfPackage (at 1) []
    (package_of 1 (id 9 "A") None 11 (decl.OfItem (at 14) (item.AccessType (at 14) (id 19 "U") (at 21) (at 24) (mark 31 "Integer") (at 38))
    ∷ decl.OfItem (at 40) (item.AccessType (at 40) (id 45 "T") (at 47) (at 50) (mark 57 "U") (at 58))
    ∷ decl.Subprogram (at 60) (taker 60) None (at 86) ∷ decl.Subprogram (at 88) (passer 88) None (at 110) ∷ []) None 112 None 115)
    ∷ unit.OfBody (at 117) []
    (package_body_of 117 125 (id 130 "A") None 132 (part.Completed (at 135) (subprogram_of 135 (taker 135) None 162 [] 165 (null_at 171) 177 None 180)
    ∷ part.Completed (at 182) (subprogram_of 182 (passer 182) None 205 borrows 227 passes_on 244 None 247) ∷ []) 249 None 252)
    ∷ unit.OfSubprogram (at 254) (context.With (at 254) (mark 259 "A") [] (at 260) ∷ [])
    (subprogram_of 262 (subspec.Procedure (at 262) (id 272 "P") None) None 274
    (item.Objects (at 277) (id 277 "Y") [] (at 279) None (indication.Mark (at 281) (selected 281 "A" 282 283 "T")) (at 284) ∷ []) 286
    (sole 292 (stmt.Call (at 292) (name.Prefixed (at 292) (id 292 "A") (suffix.Selected (at 293) (id 294 "S")
    ∷ suffix.Applied (at 296) (arg.Positional (at 297) (expr_of 297 (object 297 "Y"))) [] (at 298) ∷ [])) (at 299))) 301 None 304)
    ∷ []

abbrev pub files : List (List SourceUnit)
files = units ∷ []

pub spelled : IsTextOf "package A is type U is access Integer; type T is access U; procedure Q (X : in out U); procedure S (X : in T); end; package body A is procedure Q (X : in out U) is begin null; end; procedure S (X : in T) is B : access U := X; begin Q (B.all); end; end; with A; procedure P is Y : A.T; begin A.S (Y); end;" units
unfolding computes
spelled = source_of (search) (search) refl

pub named : name_fault files ≡ None
unfolding computes naming
named = refl

pub typed : type_fault (program_of files) ≡ None
unfolding computes naming typing lowering
typed = refl

-- ---- it has a main procedure

pub is_main : (typed_of (program_of files)).main ≡ Some 3
unfolding computes naming typing lowering
is_main = refl

-- ---- nothing is reported of it

passes : all_pass (sub_passes (flow_of files)) (flow_of files).subs ≡ true
unfolding computes naming typing lowering asks_for_end encloses_within
passes = refl

no_aliases : alias_reports (flow_of files) (nothing (flow_of files) passes) ≡ []
unfolding computes naming typing lowering
no_aliases = refl

paths : all_pass (λ (sub : FlowSub). path_passes 9 (path_points (flow_of files) (nothing (flow_of files) passes) sub) [] 0) (flow_of files).subs ≡ true
unfolding computes naming typing lowering
paths = refl

-- ---- so its runs are sound

abbrev found : CutResult → List Cut
found (Ok cuts) = cuts
found (Err fault) = []

abbrev text : List ℕ
text = codes "package A is type U is access Integer; type T is access U; procedure Q (X : in out U); procedure S (X : in T); end; package body A is procedure Q (X : in out U) is begin null; end; procedure S (X : in T) is B : access U := X; begin Q (B.all); end; end; with A; procedure P is Y : A.T; begin A.S (Y); end;"

abbrev cuts : List Cut
cuts = found (tokens 0 text 1000)

is_cut : tokens 0 text 1000 ≡ Ok cuts
unfolding computes
is_cut = refl

parsed : AreParsed 0 (cuts ∷ []) files
unfolding computes
parsed = (cut_in_order 0 text 1000 cuts is_cut, spelled, tt)

pub behind_sound : RunsAreSound files
behind_sound input =
    parsed_called_sound files (cuts ∷ []) parsed named typed 3 is_main (nothing (flow_of files) passes) (no_effects (flow_of files) passes)
    (no_reports (flow_of files) passes no_aliases 9
    (each (λ (sub : FlowSub). path_passes 9 (path_points (flow_of files) (nothing (flow_of files) passes) sub) [] 0) (flow_of files).subs paths))
    input
