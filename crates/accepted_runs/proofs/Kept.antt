-- What the type of an accepted program keeps: it is that of texts that pass, so it runs soundly.
use Rattle.std.proofs.Common.{◌≡◌, ◌∙◌, ℕ, List, [], Option, None, Some, IsSome, refl, ap, sym, subst}
use Rattle.std.proofs.Math.Logic.{∥∥₁_map, ∥∥₁_map₂}
use Rattle.ada_tree.specs.declared.unit.SourceUnit.{SourceUnit}
use Rattle.machine.specs.flow_paths.declared.report.Effects.{Effects}
use Rattle.machine.specs.flow_paths.Effects.{AreEffects}
use Rattle.machine.specs.flow_paths.Laid.{FlowProgram, flow_program}
use Rattle.machine.specs.flow_paths.Limits.{lay_fault}
use Rattle.machine.specs.flow_paths.Reports.{AreReports}
use Rattle.machine.specs.type_definitions.Types.{Table}
use Rattle.machine.specs.type_definitions.Whole.{known_of, type_fault}
use Rattle.typing_steps.specs.Programs.{program_of as text_program}
use Rattle.machine.specs.typed_tree.Programs.{TypedProgram}
use Rattle.settled_types.specs.OrderLaws.Orderly.{typed_of}
use Rattle.laid_program.specs.Layouts.{IsLayout}
use Rattle.laid_program.specs.Programs.{program_of}
use Rattle.path_check.specs.declared.accepted.AcceptedProgram.{AcceptedProgram}
use Rattle.program_check.specs.Sources.{laid_code, flow_of}
use Rattle.accepted_runs.specs.Mains.{HasMain}
use Rattle.accepted_runs.specs.Headline.{IsSoundRun}
use Rattle.accepted_runs.specs.Passed.{IsPassed}
use Rattle.accepted_runs.proofs.Headline.{passed_run}

-- Of what is laid out and has no reports, the texts are those that its type keeps.
laid_passed : (program : FlowProgram) (effects : Effects) → IsLayout program → AreEffects program effects → AreReports program effects []
    → IsPassed program effects
laid_passed program effects l are none =
    let of_code : program ≡ laid_code l.code =
    l.laid ∙ ap (λ (t : Table). flow_program t l.source) l.types ∙ ap (λ (s : TypedProgram). flow_program (known_of l.code).table s) l.typed in
    let is : program ≡ flow_of l.trees = of_code ∙ ap laid_code l.meant in
    record {
      texts = l.named.texts;
      trees = l.trees;
      passes = record {
        cuts = l.named.read.cuts;
        cut = l.named.read.cut;
        parsed = l.named.read.parsed;
        named = l.named.named;
        typed = sym (ap type_fault l.meant) ∙ l.no_fault;
        within = sym (ap lay_fault is) ∙ l.within;
        effects_are = subst (λ (p : FlowProgram). AreEffects p effects) is are;
        none = subst (λ (p : FlowProgram). AreReports p effects []) is none;
      };
      is = sym is;
    }

pub accepted_passed : (a : AcceptedProgram) → ∥ IsPassed (program_of a.laid) a.effects ∥₁
accepted_passed a =
    let both : ∥ IsLayout (program_of a.laid) × AreEffects (program_of a.laid) a.effects ∥₁ = ∥∥₁_map₂ a.laid.right a.are_effects (λ right are. (right, are)) in
    ∥∥₁_map₂ both a.accepted (λ kept none. laid_passed (program_of a.laid) a.effects kept.0 kept.1 none)

-- ---- so it runs soundly

there : (o : Option ℕ) → IsSome o → (n : ℕ) × (o ≡ Some n)
there None some = cc
there (Some n) some = (n, refl)

main_same : (trees : List (List SourceUnit)) → (flow_of trees).main ≡ (typed_of (text_program trees)).main
unfolding flow_program
main_same trees = refl

-- There is a main procedure in the text where the program has one.
pub has_main : (program : FlowProgram) (trees : List (List SourceUnit)) → flow_of trees ≡ program → IsSome program.main → HasMain trees
has_main program trees is some =
    let main = there program.main some in
    (main.0, sym (main_same trees) ∙ ap (λ (p : FlowProgram). p.main) is ∙ main.1)

passed_soundly : (program : FlowProgram) (effects : Effects) (input : List ℕ) → IsSome program.main → IsPassed program effects → IsSoundRun program input
passed_soundly program effects input some p =
    subst (λ (q : FlowProgram). IsSoundRun q input) p.is
    (passed_run p.texts p.trees effects p.passes (has_main program p.trees p.is some) input)

-- What is accepted and has a main procedure runs soundly.
pub accepted_soundly : (a : AcceptedProgram) (input : List ℕ) → IsSome a.laid.main → ∥ IsSoundRun (program_of a.laid) input ∥₁
accepted_soundly a input some = ∥∥₁_map (accepted_passed a) (passed_soundly (program_of a.laid) a.effects input some)
