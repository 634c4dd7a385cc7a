-- What the refusal of a name answers.
use Rattle.std.proofs.Common.{◌≡◌, ℕ, List, sym, subst, Some}
use Rattle.spark_base.specs.declared.position.Pos.{Pos}
use Rattle.ada_tree.specs.declared.unit.SourceUnit.{SourceUnit}
use Rattle.name_events.specs.declared.declaration.NameRule.{NameRule}
use Rattle.name_events.specs.declared.declaration.NameRule.TheVariants as rule
use Rattle.name_events.specs.Faults.{name_fault}
use Rattle.name_resolve.specs.declared.refusal.NameRefusal.{NameRefusal}
use Rattle.name_resolve.specs.declared.refusal.NameRefusal.TheVariants as refusal
use Rattle.name_resolve.specs.Judges.{Says}
use Rattle.source_trees.specs.Trees.{AreRead}
use Rattle.answered_runs.specs.tool_answers.Product.{Finding, Checks, unresolved, name_code, stops}
use Rattle.answered_runs.specs.tool_answers.Reading.{Texts}
use Rattle.spark_tool.specs.Refusals.{IsRefused, naming_code}

broken_answers : (names texts : List (List ℕ)) (trees : List (List SourceUnit)) (broken : NameRule) (pos : Pos) (answer : Finding) → AreRead texts trees
    → name_fault trees ≡ Some (broken, pos) → answer ≡ stops names pos (name_code broken) → Checks names (Texts texts) answer
broken_answers names texts trees broken pos answer read fault line =
    subst (λ (a : Finding). Checks names (Texts texts) a) (sym line) (unresolved texts read.cuts trees broken pos read.cut read.parsed fault)

pub names_answer : (names texts : List (List ℕ)) (trees : List (List SourceUnit)) (found : NameRefusal) (answer : Finding) → AreRead texts trees
    → Says found (name_fault trees) → IsRefused names (naming_code found) answer → Checks names (Texts texts) answer
names_answer names texts trees (refusal.Unknown pos) answer read fault line = broken_answers names texts trees rule.Unknown pos answer read fault line
names_answer names texts trees (refusal.Twice pos) answer read fault line = broken_answers names texts trees rule.Twice pos answer read fault line
names_answer names texts trees (refusal.NotVisible pos) answer read fault line = broken_answers names texts trees rule.NotVisible pos answer read fault line
names_answer names texts trees (refusal.TooEarly pos) answer read fault line = broken_answers names texts trees rule.TooEarly pos answer read fault line
names_answer names texts trees (refusal.NoBody pos) answer read fault line = broken_answers names texts trees rule.NoBody pos answer read fault line
names_answer names texts trees (refusal.WrongEnd pos) answer read fault line = broken_answers names texts trees rule.WrongEnd pos answer read fault line
names_answer names texts trees refusal.Memory answer read fault line = absurd line
