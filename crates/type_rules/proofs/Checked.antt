-- What is known of files that break no sentence on types.
use Rattle.std.proofs.Common.{◌≡◌, true, refl, sym, ap, ◌∙◌, subst, ℕ, List, length, Option, None, Result, Ok, Err}
use Rattle.ada_tree.specs.declared.unit.SourceUnit.{SourceUnit}
use Rattle.name_events.specs.Denotes.{decl_infos}
use Rattle.name_events.specs.Identified.{identified}
use Rattle.resolved_tree.specs.Trees.{Code, Program}
use Rattle.type_definitions.specs.declared.table.Known.{Known}
use Rattle.type_definitions.specs.declared.refusal.TypeRefusal.{TypeRefusal}
use Rattle.type_definitions.specs.Refusals.{Judges}
use Rattle.type_definitions.specs.Types.{Table}
use Rattle.type_definitions.specs.Whole.{TypeFault, fault_known, known_of, known_with, told, type_fault}
use Rattle.typing_steps.specs.Programs.{program_of}
use Rattle.typing_steps.proofs.Faults.{with_units, program_is}
use Rattle.type_sizes.specs.Limits.{AreWithin}
use Rattle.type_sizes.proofs.Limits.{within_limits}
use Rattle.typed_tree.specs.Programs.{typed_program}
use Rattle.typed_programs.specs.declared.parts.ProgramParts.{ProgramParts}
use Rattle.typed_programs.specs.Parts.{HoldsProgram}
use Rattle.type_rules.specs.Typed.{IsTyped}
use Rattle.type_rules.proofs.Formed.{files_formed}

-- What is judged to break nothing breaks nothing.
pub passed : {A : Type 0} (r : Result A TypeRefusal) (a : A) (found : Option TypeFault) → Judges r found → r ≡ Ok a → found ≡ None
passed (Ok b) a found judged is = judged
passed (Err e) a found judged is = cc

module _ (files : List (List SourceUnit)) (known : Known) (units : List Code) (count : ℕ) (lowered : units ≡ (program_of files).units)
    (counted : count ≡ length (decl_infos files)) (gathered : known ≡ known_of (with_units count units))
    (judged : fault_known known units ≡ None) where
  known_is : known ≡ known_of (program_of files)
  known_is = gathered ∙ ap known_of (program_is files units count (identified files) lowered counted refl)

  pub no_fault : type_fault (program_of files) ≡ None
  unfolding type_fault
  no_fault =
      let program : Program = program_of files in
      sym (λ j. told (fault_known (known_is j) (lowered j)) (fault_known (known_with true program) program.units))
      ∙ ap (λ (f : Option TypeFault). told f (fault_known (known_with true program) program.units)) judged

  pub within : AreWithin known.table
  within =
      subst (λ (k : Known). AreWithin k.table) (sym known_is)
      (within_limits (program_of files) (files_formed (identified files) files) no_fault)

  pub typed : (table : Table) (parts : ProgramParts) → table ≡ known.table → HoldsProgram parts (typed_program known units)
      → IsTyped files table parts
  typed table parts types holds =
      let program : typed_program known units ≡ typed_program (known_of (program_of files)) (program_of files).units =
      λ j. typed_program (known_is j) (lowered j) in
      record {
        no_fault = no_fault;
        types = types ∙ ap (λ (k : Known). k.table) known_is;
        program = subst (HoldsProgram parts) program holds;
      }
