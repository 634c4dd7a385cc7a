-- Texts that `check` accepts.
use Rattle.std.specs.Prelude.{◌≡◌, ℕ, List, [], None, Ok}
use Rattle.machine.specs.spark_base.declared.limits.TheConstants.{TOKENS}
use Rattle.ada_lexer.specs.Tokens.{Cut}
use Rattle.ada_tree.specs.declared.unit.SourceUnit.{SourceUnit}
use Rattle.name_events.specs.Faults.{name_fault}
use Rattle.machine.specs.type_definitions.Whole.{type_fault}
use Rattle.typing_steps.specs.Programs.{program_of}
use Rattle.machine.specs.flow_paths.declared.report.Effects.{Effects}
use Rattle.machine.specs.flow_paths.Effects.{AreEffects}
use Rattle.machine.specs.flow_paths.Laid.{FlowProgram}
use Rattle.machine.specs.flow_paths.Limits.{lay_fault}
use Rattle.machine.specs.flow_paths.Reports.{AreReports}
use Rattle.program_check.specs.Sources.{flow_of}
use Rattle.source_trees.specs.Cuts.{all_tokens}
use Rattle.source_trees.specs.Trees.{AreTreesOf}

-- The texts are of a program that breaks no rule and no limit, and nothing is reported of it.
pub record Passes (texts : List (List ℕ)) (trees : List (List SourceUnit)) (effects : Effects) : Type 0 where
  pub cuts : List (List Cut)
  pub cut : all_tokens 0 TOKENS texts ≡ Ok cuts
  pub parsed : AreTreesOf cuts trees
  pub named : name_fault trees ≡ None
  pub typed : type_fault (program_of trees) ≡ None
  pub within : lay_fault (flow_of trees) ≡ None
  pub effects_are : AreEffects (flow_of trees) effects
  pub none : AreReports (flow_of trees) effects []

-- The program is that of such texts.
pub record IsPassed (program : FlowProgram) (effects : Effects) : Type 0 where
  pub texts : List (List ℕ)
  pub trees : List (List SourceUnit)
  pub passes : Passes texts trees effects
  pub is : flow_of trees ≡ program
