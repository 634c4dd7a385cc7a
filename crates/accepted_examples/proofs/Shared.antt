-- A text with a procedure that writes through a formal of mode `in` of an access type what a package object designates, and
-- the law on runs of it.
use Rattle.std.specs.Prelude.{codes}
use Rattle.ada_tree.specs.declared.expression.Primary.TheVariants as primary
use Rattle.std.proofs.Common.{◌≡◌, ℕ, ◌+◌, true, List, [], ◌∷◌, refl, Some, None, Ok, Err}
use Rattle.ada_lexer.specs.Tokens.{Cut, CutResult, tokens}
use Rattle.ada_tree.specs.declared.declaration.Item.TheVariants as item
use Rattle.ada_tree.specs.declared.declaration.Indication.TheVariants as indication
use Rattle.ada_tree.specs.declared.expression.Arg.TheVariants as arg
use Rattle.ada_tree.specs.declared.expression.Name.TheVariants as name
use Rattle.ada_tree.specs.declared.expression.Suffix.TheVariants as suffix
use Rattle.ada_tree.specs.declared.statement.Stmt.TheVariants as stmt
use Rattle.ada_tree.specs.declared.subprogram.Decl.TheVariants as decl
use Rattle.ada_tree.specs.declared.subprogram.Formal.TheVariants as formal
use Rattle.ada_tree.specs.declared.subprogram.Subspec.{Subspec}
use Rattle.ada_tree.specs.declared.subprogram.Subspec.TheVariants as subspec
use Rattle.ada_tree.specs.declared.unit.BodyPart.TheVariants as part
use Rattle.ada_tree.specs.declared.unit.Context.TheVariants as context
use Rattle.ada_tree.specs.declared.unit.SourceUnit.{SourceUnit}
use Rattle.ada_tree.specs.declared.unit.SourceUnit.TheVariants as unit
use Rattle.ada_grammar.proofs.SmallSources.{IsTextOf, computes, source_of, at, id, mark, expr_of, sole, formals_of, package_of, package_body_of, subprogram_of}
use Rattle.name_events.specs.Faults.{name_fault}
use Rattle.machine.specs.type_definitions.Whole.{type_fault}
use Rattle.typing_steps.specs.Programs.{program_of}
use Rattle.machine.specs.flow_paths.Laid.{FlowSub}
use Rattle.machine.specs.flow_paths.Effects.{AreEffects, asks_for_end, path_points}
use Rattle.machine.specs.flow_paths.Aliases.{alias_reports}
use Rattle.machine.specs.flow_paths.Views.{encloses_within}
use Rattle.program_check.specs.Sources.{flow_of}
use Rattle.settled_types.specs.FilePositions.Texts.{AreParsed}
use Rattle.settled_types.proofs.FilePositions.Cuts.{cut_in_order}
use Rattle.settled_types.specs.OrderLaws.Orderly.{typed_of}
use Rattle.accepted_runs.proofs.ViewedFiles.Files.{parsed_called_sound}
use Rattle.accepted_runs.proofs.Runs.{RunsAreSound}
use Rattle.accepted_examples.proofs.Naming.{naming}
use Rattle.accepted_examples.proofs.Typing.{typing}
use Rattle.accepted_examples.proofs.Lowering.{lowering}
use Rattle.accepted_examples.proofs.Quiet.{all_pass, each}
use Rattle.accepted_examples.proofs.Unreported.{path_passes, keeps_rules, is_silent, reports_silent}
use Rattle.accepted_examples.proofs.Affected.{affected, effects_are}

-- "procedure Q (X : in T)", from its column on
abbrev front : ℕ → Subspec
front column =
    subspec.Procedure (at column) (id (column + 10) "Q")
    (Some (formals_of (column + 12) (formal.Moded (at (column + 13)) (id (column + 13) "X") [] (at (column + 15)) (Some (at (column + 17))) None (mark (column + 20) "T")) []
    (column + 21)))

abbrev pub units : List SourceUnit
units =
    unit.OfPackage (at 1) []
    (package_of 1 (id 9 "A") None 11 (decl.OfItem (at 14) (item.AccessType (at 14) (id 19 "T") (at 21) (at 24) (mark 31 "Integer") (at 38))
    ∷ decl.OfItem (at 40) (item.Objects (at 40) (id 40 "G") [] (at 42) None (indication.Mark (at 44) (mark 44 "T")) (at 45)) ∷ decl.Subprogram (at 47) (front 47) None (at 69) ∷ []) None 71 None 74)
    ∷ unit.OfBody (at 76) []
    (package_body_of 76 84 (id 89 "A") None 91 (part.Completed (at 94) (subprogram_of 94 (front 94) None 117 [] 120
    (sole 126 (stmt.Assign (at 126) (name.Prefixed (at 126) (id 126 "X") (suffix.Dereferenced (at 127) (at 128) ∷ [])) (at 132)
    (expr_of 135 (primary.Number (at 135) 1)) (at 136))) 138 None 141) ∷ []) 143 None 146)
    ∷ unit.OfSubprogram (at 148) (context.With (at 148) (mark 153 "A") [] (at 154) ∷ [])
    (subprogram_of 156 (subspec.Procedure (at 156) (id 166 "P") None) None 168
    [] 171
    (sole 177 (stmt.Call (at 177) (name.Prefixed (at 177) (id 177 "A") (suffix.Selected (at 178) (id 179 "Q")
    ∷ suffix.Applied (at 181) (arg.Positional (at 182) (expr_of 182 (primary.Named (at 182) (name.Prefixed (at 182) (id 182 "A") (suffix.Selected (at 183) (id 184 "G") ∷ [])))))
    [] (at 185) ∷ [])) (at 186))) 188 None 191)
    ∷ []

abbrev pub files : List (List SourceUnit)
files = units ∷ []

pub spelled : IsTextOf "package A is type T is access Integer; G : T; procedure Q (X : in T); end; package body A is procedure Q (X : in T) is begin X.all := 1; end; end; with A; procedure P is begin A.Q (A.G); end;" units
unfolding computes
spelled = source_of (search) (search) refl

pub named : name_fault files ≡ None
unfolding computes naming
named = refl

pub typed : type_fault (program_of files) ≡ None
unfolding computes naming typing lowering
typed = refl

-- ---- it has a main procedure

pub is_main : (typed_of (program_of files)).main ≡ Some 2
unfolding computes naming typing lowering
is_main = refl

-- ---- nothing is reported of it

passes : all_pass (keeps_rules (flow_of files)) (flow_of files).subs ≡ true
unfolding computes naming typing lowering encloses_within
passes = refl

silent : all_pass is_silent (flow_of files).subs ≡ true
unfolding computes naming typing lowering
silent = refl

effects : AreEffects (flow_of files) (affected (flow_of files))
unfolding computes naming typing lowering asks_for_end
effects = effects_are (flow_of files) refl refl refl

no_aliases : alias_reports (flow_of files) (affected (flow_of files)) ≡ []
unfolding computes naming typing lowering asks_for_end
no_aliases = refl

paths : all_pass (λ (sub : FlowSub). path_passes 9 (path_points (flow_of files) (affected (flow_of files)) sub) [] 0) (flow_of files).subs ≡ true
unfolding computes naming typing lowering asks_for_end
paths = refl

-- ---- so its runs are sound

abbrev found : CutResult → List Cut
found (Ok cuts) = cuts
found (Err fault) = []

abbrev text : List ℕ
text = codes "package A is type T is access Integer; G : T; procedure Q (X : in T); end; package body A is procedure Q (X : in T) is begin X.all := 1; end; end; with A; procedure P is begin A.Q (A.G); end;"

abbrev cuts : List Cut
cuts = found (tokens 0 text 1000)

is_cut : tokens 0 text 1000 ≡ Ok cuts
unfolding computes
is_cut = refl

parsed : AreParsed 0 (cuts ∷ []) files
unfolding computes
parsed = (cut_in_order 0 text 1000 cuts is_cut, spelled, tt)

pub shared_sound : RunsAreSound files
shared_sound input =
    parsed_called_sound files (cuts ∷ []) parsed named typed 2 is_main (affected (flow_of files)) effects
    (reports_silent (flow_of files) (affected (flow_of files)) passes silent no_aliases 9
    (each (λ (sub : FlowSub). path_passes 9 (path_points (flow_of files) (affected (flow_of files)) sub) [] 0) (flow_of files).subs paths))
    input
