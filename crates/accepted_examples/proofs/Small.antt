-- A small text.
use Rattle.std.proofs.Common.{◌≡◌, List, [], ◌∷◌, refl, Some, None}
use Rattle.ada_tree.specs.declared.subprogram.Subspec.TheVariants as subspec
use Rattle.ada_tree.specs.declared.unit.SourceUnit.{SourceUnit}
use Rattle.ada_tree.specs.declared.unit.SourceUnit.TheVariants as unit
use Rattle.ada_grammar.proofs.SmallSources.{IsTextOf, computes, source_of, at, id, null_at, subprogram_of}
use Rattle.name_events.specs.Faults.{name_fault}
use Rattle.machine.specs.type_definitions.Whole.{type_fault}
use Rattle.typing_steps.specs.Programs.{program_of}
use Rattle.settled_types.specs.OrderLaws.Orderly.{typed_of}
use Rattle.accepted_examples.proofs.Naming.{naming}
use Rattle.accepted_examples.proofs.Typing.{typing}

abbrev pub units : List SourceUnit
units = unit.OfSubprogram (at 1) [] (subprogram_of 1 (subspec.Procedure (at 1) (id 11 "P") None) None 13 [] 16 (null_at 22) 28 None 31) ∷ []

abbrev pub files : List (List SourceUnit)
files = units ∷ []

pub spelled : IsTextOf "procedure P is begin null; end;" units
unfolding computes
spelled = source_of (search) (search) refl

pub named : name_fault files ≡ None
unfolding computes naming
named = refl

pub typed : type_fault (program_of files) ≡ None
unfolding computes naming typing
typed = refl

pub is_main : (typed_of (program_of files)).main ≡ Some 1
unfolding computes naming typing
is_main = refl
