use Rattle.std.proofs.Common.{Option, List, ℕ, subst, map, string_bytes}
use Rattle.spark_base.specs.declared.position.Pos.{Pos}
use Rattle.name_resolve.specs.Inputs.{trees_of}
use Rattle.program_check.specs.Answers.{KeepsNames}
use Rattle.rule_reports.specs.declared.code.Code.{Code}
use Rattle.spark_tool.specs.Answers.{finding_of}
use Rattle.spark_tool.specs.Refusals.{IsRefused}
use Rattle.spark_tool.proofs.Judged.{verdict_answers, refusal_answers}
use Rattle.spark_tool.proofs.check.check_resolved.Goals as goal

pub judged-requires : goal.judged-requires
judged-requires c = subst (λ (names : List (List ℕ)). KeepsNames names c.in-Ok.checked.verdict) c.requires.named c.in-Ok.ensures.names

pub returns-in_ok-judged-in-Ok-clause-finding : goal.returns-in_ok-judged-in-Ok-clause-finding
returns-in_ok-judged-in-Ok-clause-finding c texts read =
    verdict_answers (map string_bytes c.args.names.now) texts (trees_of c.args.program.files.items) c.in-Ok.checked.has_main c.in-Ok.checked.verdict _
    read c.requires.fine c.in-Ok.ensures.main c.in-Ok.ensures.answers c.in_ok-judged-in-Ok.ensures.told

pub returns-in_ok-refused-in-Err-clause-finding : goal.returns-in_ok-refused-in-Err-clause-finding
returns-in_ok-refused-in-Err-clause-finding c texts read =
    let names : List (List ℕ) = map string_bytes c.args.names.now in
    refusal_answers names texts (trees_of c.args.program.files.items) c.in-Err.refusal (finding_of c.in_ok-refused-in-Err.field-0) read c.requires.fine
    c.in-Err.ensures.answers
    (subst (λ (found : Option (Pos × Code)). IsRefused names found (finding_of c.in_ok-refused-in-Err.field-0)) c.program_code.ensures
    c.in_ok-refused-in-Err.ensures.line)
