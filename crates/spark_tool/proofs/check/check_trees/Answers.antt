use Rattle.std.proofs.Common.{Option, List, ℕ, ap, sym, ◌∙◌, subst, map, string_bytes}
use Rattle.spark_base.specs.declared.position.Pos.{Pos}
use Rattle.ada_tree.specs.declared.unit.SourceUnit.{SourceUnit}
use Rattle.name_events.specs.Faults.{name_fault}
use Rattle.name_resolve.specs.Inputs.{trees_of}
use Rattle.rule_reports.specs.declared.code.Code.{Code}
use Rattle.spark_tool.specs.Answers.{finding_of}
use Rattle.source_trees.specs.Trees.{AreRead}
use Rattle.spark_tool.specs.Refusals.{IsRefused}
use Rattle.spark_tool.proofs.Resolved.{names_answer}
use Rattle.spark_tool.proofs.check.check_trees.Goals as goal

pub check_resolved-requires-clause-fine : goal.check_resolved-requires-clause-fine
check_resolved-requires-clause-fine c = ap name_fault c.in-Ok.ensures.files ∙ c.in-Ok.ensures.fault

pub returns-in_ok-check_resolved-in-Ok-clause-finding : goal.returns-in_ok-check_resolved-in-Ok-clause-finding
returns-in_ok-check_resolved-in-Ok-clause-finding c texts read =
    c.in_ok-check_resolved-in-Ok.ensures.finding texts
    (subst (λ (trees : List (List SourceUnit)). AreRead texts trees) (sym c.in-Ok.ensures.files) read)

pub returns-in_ok-refused-in-Err-clause-finding : goal.returns-in_ok-refused-in-Err-clause-finding
returns-in_ok-refused-in-Err-clause-finding c texts read =
    let names : List (List ℕ) = map string_bytes c.args.names.now in
    names_answer names texts (trees_of c.args.trees.items) c.in-Err.refusal (finding_of c.in_ok-refused-in-Err.field-0) read c.in-Err.ensures.fault
    (subst (λ (found : Option (Pos × Code)). IsRefused names found (finding_of c.in_ok-refused-in-Err.field-0)) c.naming_code.ensures
    c.in_ok-refused-in-Err.ensures.line)
