use Rattle.std.proofs.Common.{Option, List, ℕ, subst, map, string_bytes}
use Rattle.spark_base.specs.declared.position.Pos.{Pos}
use Rattle.rule_reports.specs.declared.code.Code.{Code}
use Rattle.spark_tool.specs.Answers.{finding_of}
use Rattle.spark_tool.specs.Lexing.{texts_of}
use Rattle.spark_tool.specs.Refusals.{IsRefused}
use Rattle.spark_tool.proofs.Read.{texts_answer}
use Rattle.spark_tool.proofs.check.check_texts.Goals as goal

pub returns-in_ok-refused-in-Err-clause-finding : goal.returns-in_ok-refused-in-Err-clause-finding
returns-in_ok-refused-in-Err-clause-finding c =
    let names : List (List ℕ) = map string_bytes c.args.names.now in
    texts_answer names (texts_of c.args.texts.items) c.in-Err.refusal (finding_of c.in_ok-refused-in-Err.field-0) c.in-Err.ensures.refused
    (subst (λ (found : Option (Pos × Code)). IsRefused names found (finding_of c.in_ok-refused-in-Err.field-0)) c.source_code.ensures
    c.in_ok-refused-in-Err.ensures.line)
