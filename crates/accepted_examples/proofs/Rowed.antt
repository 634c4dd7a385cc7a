-- A text with an array that owns, passed for a formal of mode `in`, and the law on runs of it.
use Rattle.std.specs.Prelude.{codes}
use Rattle.std.proofs.Common.{◌≡◌, ℕ, true, List, [], ◌∷◌, refl, Some, None, Ok, Err}
use Rattle.ada_lexer.specs.Tokens.{Cut, CutResult, tokens}
use Rattle.ada_tree.specs.declared.expression.Primary.TheVariants as primary
use Rattle.ada_tree.specs.declared.declaration.Item.TheVariants as item
use Rattle.ada_tree.specs.declared.declaration.Indication.TheVariants as indication
use Rattle.ada_tree.specs.declared.expression.Arg.TheVariants as arg
use Rattle.ada_tree.specs.declared.expression.Name.TheVariants as name
use Rattle.ada_tree.specs.declared.expression.Suffix.TheVariants as suffix
use Rattle.ada_tree.specs.declared.range.Range.TheVariants as range
use Rattle.ada_tree.specs.declared.statement.Stmt.TheVariants as stmt
use Rattle.ada_tree.specs.declared.subprogram.Decl.TheVariants as decl
use Rattle.ada_tree.specs.declared.subprogram.Formal.TheVariants as formal
use Rattle.ada_tree.specs.declared.subprogram.Subspec.TheVariants as subspec
use Rattle.ada_tree.specs.declared.unit.BodyPart.TheVariants as part
use Rattle.ada_tree.specs.declared.unit.Context.TheVariants as context
use Rattle.ada_tree.specs.declared.unit.SourceUnit.{SourceUnit}
use Rattle.ada_tree.specs.declared.unit.SourceUnit.TheVariants as unit
use Rattle.ada_grammar.proofs.SmallSources.{IsTextOf, computes, source_of, at, id, selected, mark, name_of, object, expr_of, sole, formals_of, package_of, package_body_of, subprogram_of}
use Rattle.name_events.specs.Faults.{name_fault}
use Rattle.machine.specs.type_definitions.Whole.{type_fault}
use Rattle.typing_steps.specs.Programs.{program_of}
use Rattle.machine.specs.flow_paths.Laid.{FlowSub}
use Rattle.machine.specs.flow_paths.Effects.{asks_for_end, path_points}
use Rattle.machine.specs.flow_paths.Aliases.{alias_reports}
use Rattle.machine.specs.flow_paths.Views.{encloses_within}
use Rattle.program_check.specs.Sources.{flow_of}
use Rattle.settled_types.specs.FilePositions.Texts.{AreParsed}
use Rattle.settled_types.proofs.FilePositions.Cuts.{cut_in_order}
use Rattle.settled_types.specs.OrderLaws.Orderly.{typed_of}
use Rattle.accepted_runs.proofs.ViewedFiles.Files.{parsed_called_sound}
use Rattle.accepted_runs.proofs.Runs.{RunsAreSound}
use Rattle.accepted_examples.proofs.Naming.{naming}
use Rattle.accepted_examples.proofs.Typing.{typing}
use Rattle.accepted_examples.proofs.Lowering.{lowering}
use Rattle.accepted_examples.proofs.Quiet.{all_pass, each}
use Rattle.accepted_examples.proofs.Unreported.{path_passes, sub_passes, nothing, no_reports, no_effects}

abbrev pub units : List SourceUnit
units =
    unit.OfPackage (at 1) []
    (package_of 1 (id 9 "A") None 11 (decl.OfItem (at 14) (item.AccessType (at 14) (id 19 "T") (at 21) (at 24) (mark 31 "Integer") (at 38))
    ∷ decl.OfItem (at 40) (item.ArrayType (at 40) (id 45 "V") (at 47) (at 50) (at 56) (range.Bounds (at 57) (expr_of 57 (primary.Number (at 57) 1)) (at 59) (expr_of 62 (primary.Number (at 62) 2))) (at 63) (at 65) (mark 68 "T") (at 69))
    ∷ decl.Subprogram (at 71) (subspec.Procedure (at 71) (id 81 "Q") (Some (formals_of 83 (formal.Moded (at 84) (id 84 "X") [] (at 86) (Some (at 88)) None (mark 91 "V")) [] 92))) None (at 93)
    ∷ []) None 95 None 98)
    ∷ unit.OfBody (at 100) []
    (package_body_of 100 108 (id 113 "A") None 115 (part.Completed (at 118) (subprogram_of 118 (subspec.Procedure (at 118) (id 128 "Q") (Some (formals_of 130 (formal.Moded (at 131) (id 131 "X") [] (at 133) (Some (at 135)) None (mark 138 "V")) [] 139))) None 141 ((item.Objects (at 144) (id 144 "N") [] (at 146) None (indication.Mark (at 148) (mark 148 "Integer")) (at 155))
    ∷ []) 157
    (sole 163 (stmt.Assign (at 163) (name_of 163 "N") (at 165) (expr_of 168 (primary.Named (at 168) (name.Prefixed (at 168) (id 168 "X") (suffix.Applied (at 170) (arg.Positional (at 171) (expr_of 171 (primary.Number (at 171) 1))) [] (at 172) ∷ suffix.Dereferenced (at 173) (at 174) ∷ [])))) (at 177))) 179 None 182)
    ∷ []) 184 None 187)
    ∷ unit.OfSubprogram (at 189) (context.With (at 189) (mark 194 "A") [] (at 195) ∷ [])
    (subprogram_of 197 (subspec.Procedure (at 197) (id 207 "P") None) None 209 ((item.Objects (at 212) (id 212 "Y") [] (at 214) None (indication.Mark (at 216) (selected 216 "A" 217 218 "V")) (at 219))
    ∷ []) 221
    (sole 227 (stmt.Call (at 227) (name.Prefixed (at 227) (id 227 "A") (suffix.Selected (at 228) (id 229 "Q") ∷ suffix.Applied (at 231) (arg.Positional (at 232) (expr_of 232 (object 232 "Y"))) [] (at 233) ∷ [])) (at 234))) 236 None 239)
    ∷ []

abbrev pub files : List (List SourceUnit)
files = units ∷ []

pub spelled : IsTextOf "package A is type T is access Integer; type V is array (1 .. 2) of T; procedure Q (X : in V); end; package body A is procedure Q (X : in V) is N : Integer; begin N := X (1).all; end; end; with A; procedure P is Y : A.V; begin A.Q (Y); end;" units
unfolding computes
spelled = source_of (search) (search) refl

pub named : name_fault files ≡ None
unfolding computes naming
named = refl

pub typed : type_fault (program_of files) ≡ None
unfolding computes naming typing lowering
typed = refl

-- ---- it has a main procedure

pub is_main : (typed_of (program_of files)).main ≡ Some 2
unfolding computes naming typing lowering
is_main = refl

-- ---- nothing is reported of it

passes : all_pass (sub_passes (flow_of files)) (flow_of files).subs ≡ true
unfolding computes naming typing lowering asks_for_end encloses_within
passes = refl

no_aliases : alias_reports (flow_of files) (nothing (flow_of files) passes) ≡ []
unfolding computes naming typing lowering
no_aliases = refl

paths : all_pass (λ (sub : FlowSub). path_passes 9 (path_points (flow_of files) (nothing (flow_of files) passes) sub) [] 0) (flow_of files).subs ≡ true
unfolding computes naming typing lowering
paths = refl

-- ---- so its runs are sound

abbrev found : CutResult → List Cut
found (Ok cuts) = cuts
found (Err fault) = []

abbrev text : List ℕ
text = codes "package A is type T is access Integer; type V is array (1 .. 2) of T; procedure Q (X : in V); end; package body A is procedure Q (X : in V) is N : Integer; begin N := X (1).all; end; end; with A; procedure P is Y : A.V; begin A.Q (Y); end;"

abbrev cuts : List Cut
cuts = found (tokens 0 text 1000)

is_cut : tokens 0 text 1000 ≡ Ok cuts
unfolding computes
is_cut = refl

parsed : AreParsed 0 (cuts ∷ []) files
unfolding computes
parsed = (cut_in_order 0 text 1000 cuts is_cut, spelled, tt)

pub rowed_sound : RunsAreSound files
rowed_sound input =
    parsed_called_sound files (cuts ∷ []) parsed named typed 2 is_main (nothing (flow_of files) passes) (no_effects (flow_of files) passes)
    (no_reports (flow_of files) passes no_aliases 9
    (each (λ (sub : FlowSub). path_passes 9 (path_points (flow_of files) (nothing (flow_of files) passes) sub) [] 0) (flow_of files).subs paths))
    input
