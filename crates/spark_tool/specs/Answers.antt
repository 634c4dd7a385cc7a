-- Answers, findings and outcomes that a program holds.
use Rattle.std.specs.Prelude.{ℕ, List, [], Option, None, map, string_bytes}
use Rattle.laid_program.specs.Programs as laid
use Rattle.path_check.specs.declared.accepted.AcceptedProgram.{AcceptedProgram}
use Rattle.answered_runs.specs.run_command.Answers.{Answer}
use Rattle.answered_runs.specs.run_command.Runs.{run_answer}
use Rattle.answered_runs.specs.run_command.Stores.{Running, run_made}
use Rattle.spark_base.specs.declared.limits.TheConstants.{STEPS}
use Rattle.spark_tool.specs.declared.answer.Stream.{Stream}
use Rattle.spark_tool.specs.declared.answer.Stream.TheVariants as stream
use Rattle.spark_tool.specs.declared.answer.Answer as held
use Rattle.spark_tool.specs.declared.finding.Finding as held_finding
use Rattle.spark_tool.specs.declared.finding.Finding.TheVariants as found
use Rattle.spark_tool.specs.declared.finding.Outcome.{Outcome}
use Rattle.spark_tool.specs.declared.finding.Outcome.TheVariants as outcome
use Rattle.answered_runs.specs.self_test.Summaries.{test_line}
use Rattle.answered_runs.specs.tool_answers.Product.{Finding, Ends, Rejects, Passes, tested}

abbrev pub answer_to : Stream → List ℕ → ℕ → Answer
answer_to stream.Out text status = record { out = text; err = []; status = status }
answer_to stream.Err text status = record { out = []; err = text; status = status }

abbrev pub answer_of : held.Answer → Answer
answer_of answer = answer_to answer.stream answer.text.items answer.status

abbrev pub finding_of : held_finding.Finding → Finding
finding_of (found.Ends answer) = Ends (answer_of answer)
finding_of (found.Rejects main lines) = Rejects main lines.items
finding_of (found.Passes program) = Passes (laid.program_of program.laid)

-- The names of the files of a program.
abbrev pub names_of : AcceptedProgram → List (List ℕ)
names_of program = map string_bytes program.laid.names.items

-- What it writes and answers for an input.
abbrev pub answer_for : List ℕ → Outcome → Answer
answer_for input (outcome.Answers answer) = answer_of answer
answer_for input (outcome.Runs program budget stats) = run_answer (names_of program) (laid.program_of program.laid) input budget stats
answer_for input (outcome.Tests program n) = tested (test_line n (laid.program_of program.laid))

-- The run that it makes then.
abbrev pub run_for : List ℕ → Outcome → Option Running
run_for input (outcome.Answers answer) = None
run_for input (outcome.Runs program budget stats) = run_made (laid.program_of program.laid) input budget
run_for input (outcome.Tests program n) = run_made (laid.program_of program.laid) [] STEPS
