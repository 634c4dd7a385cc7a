use Rattle.std.proofs.Common.{◌≡◌, refl, sym, ap, ◌∙◌, subst, List, length, map, None}
use Rattle.std.proofs.Math.Logic.{∥∥₁_elim, ∥∥₁_map}
use Rattle.std.specs.Coded.{Coded-set, coded_ℕ}
use Rattle.ada_tree.specs.declared.unit.SourceUnit.{SourceUnit}
use Rattle.name_events.specs.Denotes.{decl_infos}
use Rattle.name_events.specs.Identified.{identified}
use Rattle.name_resolve.specs.Inputs.{trees_of}
use Rattle.resolved_tree.specs.Nodes.{code_at}
use Rattle.resolved_tree.specs.Trees.{Code}
use Rattle.type_definitions.specs.declared.table.Known.{Known}
use Rattle.type_definitions.specs.Types.{Table}
use Rattle.type_definitions.specs.Whole.{fault_known}
use Rattle.typing_steps.specs.Programs.{program_of}
use Rattle.typing_steps.proofs.Faults.{files_told, said_of}
use Rattle.type_sizes.specs.Limits.{AreWithin}
use Rattle.typed_tree.specs.Programs.{typed_program}
use Rattle.typed_programs.specs.Parts.{HoldsProgram}
use Rattle.type_rules.proofs.Checked.{passed, no_fault, within, typed}
use Rattle.type_rules.proofs.check.type_check.Goals as goal

pub told-requires-clause-said : goal.told-requires-clause-said
told-requires-clause-said c =
    said_of c.in-Err.refusal c.in_ok-settled.settled.known (map (code_at c.lowered.new.rows) c.as_slice-units.result.now) _ c.in-Err.ensures c.in_ok-settled.ensures

pub returns-in-Err-clause-judges : goal.returns-in-Err-clause-judges
returns-in-Err-clause-judges c =
    let files : List (List SourceUnit) = trees_of c.args.resolved.files.items in
    let units : List Code = map (code_at c.lowered.new.rows) c.as_slice-units.result.now in
    let lowered : units ≡ (program_of files).units =
    ap (map (code_at c.lowered.new.rows)) c.as_slice-units.ensures.value ∙ c.in_ok-lowered.ensures.1 in
    let counted : length c.as_slice-decls.result.now ≡ length (decl_infos files) =
    ∥∥₁_elim c.args.resolved.decls_are (Coded-set coded_ℕ _ _) (λ is. ap length (c.as_slice-decls.ensures.value ∙ is)) in
    files_told c.told.result files units _ (identified files) c.told.ensures lowered counted refl

pub sized_table-requires : goal.sized_table-requires
sized_table-requires c =
    let files : List (List SourceUnit) = trees_of c.args.resolved.files.items in
    let known : Known = c.in_ok-settled.settled.known in
    let units : List Code = map (code_at c.lowered.new.rows) c.as_slice-units.result.now in
    let lowered : units ≡ (program_of files).units =
    ap (map (code_at c.lowered.new.rows)) c.as_slice-units.ensures.value ∙ c.in_ok-lowered.ensures.1 in
    let counted : length c.as_slice-decls.result.now ≡ length (decl_infos files) =
    ∥∥₁_elim c.args.resolved.decls_are (Coded-set coded_ℕ _ _) (λ is. ap length (c.as_slice-decls.ensures.value ∙ is)) in
    let judged : fault_known known units ≡ None =
    passed c.check_units.result c.in_default.field-0 (fault_known known units) c.check_units.ensures c.in_default.is in
    within files known units _ lowered counted c.in_ok-settled.ensures judged

pub invariant_of-result : goal.invariant_of-result
invariant_of-result c =
    let files : List (List SourceUnit) = trees_of c.args.resolved.files.items in
    let known : Known = c.in_ok-settled.settled.known in
    let units : List Code = map (code_at c.lowered.new.rows) c.as_slice-units.result.now in
    let lowered : units ≡ (program_of files).units =
    ap (map (code_at c.lowered.new.rows)) c.as_slice-units.ensures.value ∙ c.in_ok-lowered.ensures.1 in
    let counted : length c.as_slice-decls.result.now ≡ length (decl_infos files) =
    ∥∥₁_elim c.args.resolved.decls_are (Coded-set coded_ℕ _ _) (λ is. ap length (c.as_slice-decls.ensures.value ∙ is)) in
    let judged : fault_known known units ≡ None =
    passed c.check_units.result c.in_default.field-0 (fault_known known units) c.check_units.ensures c.in_default.is in
    let holds : HoldsProgram c.in_ok-parts.parts (typed_program known units) =
    subst (λ (k : Known). HoldsProgram c.in_ok-parts.parts (typed_program k units)) c.known.ensures c.in_ok-parts.ensures in
    record {
      bodies = c.in_ok-parts.ensures.0;
      within = subst (λ (t : Table). AreWithin t) (sym c.in_ok-table.ensures) (within files known units _ lowered counted c.in_ok-settled.ensures judged);
      typed = ∥∥₁_map c.args.resolved.named (λ read. (
        files,
        typed files known units _ lowered counted c.in_ok-settled.ensures judged c.in_ok-table.table c.in_ok-parts.parts
            c.in_ok-table.ensures holds,
        read,
      ));
    }

pub returns-clause-judges : goal.returns-clause-judges
returns-clause-judges c =
    let files : List (List SourceUnit) = trees_of c.args.resolved.files.items in
    let known : Known = c.in_ok-settled.settled.known in
    let units : List Code = map (code_at c.lowered.new.rows) c.as_slice-units.result.now in
    let lowered : units ≡ (program_of files).units =
    ap (map (code_at c.lowered.new.rows)) c.as_slice-units.ensures.value ∙ c.in_ok-lowered.ensures.1 in
    let counted : length c.as_slice-decls.result.now ≡ length (decl_infos files) =
    ∥∥₁_elim c.args.resolved.decls_are (Coded-set coded_ℕ _ _) (λ is. ap length (c.as_slice-decls.ensures.value ∙ is)) in
    let judged : fault_known known units ≡ None =
    passed c.check_units.result c.in_default.field-0 (fault_known known units) c.check_units.ensures c.in_default.is in
    no_fault files known units _ lowered counted c.in_ok-settled.ensures judged

pub returns-clause-typed : goal.returns-clause-typed
returns-clause-typed c =
    let files : List (List SourceUnit) = trees_of c.args.resolved.files.items in
    let known : Known = c.in_ok-settled.settled.known in
    let units : List Code = map (code_at c.lowered.new.rows) c.as_slice-units.result.now in
    let lowered : units ≡ (program_of files).units =
    ap (map (code_at c.lowered.new.rows)) c.as_slice-units.ensures.value ∙ c.in_ok-lowered.ensures.1 in
    let counted : length c.as_slice-decls.result.now ≡ length (decl_infos files) =
    ∥∥₁_elim c.args.resolved.decls_are (Coded-set coded_ℕ _ _) (λ is. ap length (c.as_slice-decls.ensures.value ∙ is)) in
    let judged : fault_known known units ≡ None =
    passed c.check_units.result c.in_default.field-0 (fault_known known units) c.check_units.ensures c.in_default.is in
    let holds : HoldsProgram c.in_ok-parts.parts (typed_program known units) =
    subst (λ (k : Known). HoldsProgram c.in_ok-parts.parts (typed_program k units)) c.known.ensures c.in_ok-parts.ensures in
    typed files known units _ lowered counted c.in_ok-settled.ensures judged c.in_ok-table.table c.in_ok-parts.parts c.in_ok-table.ensures holds
