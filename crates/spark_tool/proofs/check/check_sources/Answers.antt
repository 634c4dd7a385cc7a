use Rattle.std.proofs.Common.{List, ℕ, ap, sym, subst, map, string_bytes}
use Rattle.answered_runs.specs.run_command.Answers.{Answer}
use Rattle.spark_tool.specs.Answers.{answer_of}
use Rattle.answered_runs.specs.tool_answers.Product.{Ends, Checks, too_large}
use Rattle.answered_runs.specs.tool_answers.Reading.{Sources, TooLarge}
use Rattle.spark_tool.specs.Reading.{sources_of}
use Rattle.spark_tool.proofs.check.check_sources.Goals as goal

pub returns-in_ok-file_refusal_answer-in-TooLarge-clause-finding : goal.returns-in_ok-file_refusal_answer-in-TooLarge-clause-finding
returns-in_ok-file_refusal_answer-in-TooLarge-clause-finding c =
    let names : List (List ℕ) = map string_bytes c.args.names.now in
    subst (λ (s : Sources). Checks names s (Ends (answer_of c.in_ok-file_refusal_answer-in-TooLarge.field-0))) (sym (ap sources_of c.in-TooLarge.is))
    (subst (λ (a : Answer). Checks names (TooLarge c.in-TooLarge.file) (Ends a)) (sym c.in_ok-file_refusal_answer-in-TooLarge.ensures) (too_large c.in-TooLarge.file))
