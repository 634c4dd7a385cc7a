-- Refusals, findings and outcomes, as functions promise them to each other.
use Rattle.std.specs.Prelude.{◌≡◌, ◌≢◌, ◌≤◌, ℕ, Bool, true, false, List, [], ◌∷◌, Option, None, Some, Ok, Err, IsSome}
use Rattle.spark_base.specs.declared.position.Pos.{Pos}
use Rattle.spark_base.specs.declared.limits.TheConstants.{STEPS, TOKENS}
use Rattle.spark_base.specs.Lists.{Has}
use Rattle.ada_lexer.specs.declared.refusal.LexRefusal.TheVariants as lexical
use Rattle.ada_lexer.specs.Tokens.{Cut}
use Rattle.ada_tree.specs.Refusals as grammar
use Rattle.ada_parser.specs.declared.refusal.ParseRefusal.{ParseRefusal}
use Rattle.ada_parser.specs.declared.refusal.ParseRefusal.TheVariants as parse
use Rattle.name_events.specs.declared.declaration.NameRule.TheVariants as rule
use Rattle.name_resolve.specs.declared.refusal.NameRefusal.{NameRefusal}
use Rattle.name_resolve.specs.declared.refusal.NameRefusal.TheVariants as unresolved
use Rattle.flow_paths.specs.declared.refusal.LayFault.TheVariants as limit
use Rattle.flow_paths.specs.Printing.{printed_name}
use Rattle.lay_out.specs.declared.refusal.LayRefusal.{LayRefusal}
use Rattle.lay_out.specs.declared.refusal.LayRefusal.TheVariants as lay
use Rattle.command_words.specs.Words.{Command}
use Rattle.laid_program.specs.Programs.{program_of}
use Rattle.answered_runs.specs.run_command.Answers.{Answer}
use Rattle.path_check.specs.Told.{reports_in}
use Rattle.path_check.specs.declared.verdict.Verdict.{Verdict}
use Rattle.path_check.specs.declared.verdict.Verdict.TheVariants as verdict
use Rattle.program_check.specs.declared.refusal.ProgramRefusal.{ProgramRefusal}
use Rattle.program_check.specs.declared.refusal.ProgramRefusal.TheVariants as unchecked
use Rattle.rule_reports.specs.declared.code.Code.{Code}
use Rattle.rule_reports.specs.Lines.{report_lines}
use Rattle.spark_tool.specs.declared.parsing.SourceRefusal.{SourceRefusal}
use Rattle.spark_tool.specs.declared.parsing.SourceRefusal.TheVariants as source
use Rattle.source_trees.specs.Cuts.{all_tokens}
use Rattle.answered_runs.specs.tool_answers.Parsing.{FirstRefused}
use Rattle.answered_runs.specs.tool_answers.Product as product
use Rattle.answered_runs.specs.tool_answers.Product.{Finding, Ends, Rejects, Passes}
use Rattle.spark_tool.specs.declared.finding.Finding as held
use Rattle.spark_tool.specs.declared.finding.Finding.TheVariants as found
use Rattle.spark_tool.specs.declared.finding.Outcome.{Outcome}
use Rattle.spark_tool.specs.declared.finding.Outcome.TheVariants as outcome
use Rattle.spark_tool.specs.Answers.{answer_of, answer_for, names_of, run_for}
use Rattle.answered_runs.specs.tool_answers.Runs.{Makes}
use Rattle.answered_runs.specs.tool_answers.Commands.{runs, uses_store}

-- The refusal is that of the first of the files that isn't that of a source; out of memory has no
-- cause in them.
abbrev pub IsFirstRefusal : List (List Cut) → ParseRefusal → Type 0
IsFirstRefusal files (parse.Syntax pos) = FirstRefused grammar.Syntax pos files
IsFirstRefusal files (parse.TooDeep pos) = FirstRefused grammar.TooDeep pos files
IsFirstRefusal files (parse.LeftOut pos) = FirstRefused grammar.LeftOut pos files
IsFirstRefusal files parse.Memory = Unit {0}

-- The refusal is that of the first lexical fault, or of the first file that the grammar refuses.
abbrev pub RefusesTexts : List (List ℕ) → SourceRefusal → Type 0
RefusesTexts texts (source.Lexical fault) = fault ≢ lexical.Memory → all_tokens 0 TOKENS texts ≡ Err fault
RefusesTexts texts (source.Syntactic refusal) =
    (cuts : List (List Cut)) × ((all_tokens 0 TOKENS texts ≡ Ok cuts) × IsFirstRefusal cuts refusal)

-- ---- the position and the code of each refusal; out of memory has none

abbrev pub parse_code : ParseRefusal → Option (Pos × Code)
parse_code (parse.Syntax pos) = Some (pos, product.syntactic_code grammar.Syntax)
parse_code (parse.TooDeep pos) = Some (pos, product.syntactic_code grammar.TooDeep)
parse_code (parse.LeftOut pos) = Some (pos, product.syntactic_code grammar.LeftOut)
parse_code parse.Memory = None

abbrev pub source_code : SourceRefusal → Option (Pos × Code)
source_code (source.Lexical fault) = product.lexical_code fault
source_code (source.Syntactic refusal) = parse_code refusal

abbrev pub naming_code : NameRefusal → Option (Pos × Code)
naming_code (unresolved.Unknown pos) = Some (pos, product.name_code rule.Unknown)
naming_code (unresolved.Twice pos) = Some (pos, product.name_code rule.Twice)
naming_code (unresolved.NotVisible pos) = Some (pos, product.name_code rule.NotVisible)
naming_code (unresolved.TooEarly pos) = Some (pos, product.name_code rule.TooEarly)
naming_code (unresolved.NoBody pos) = Some (pos, product.name_code rule.NoBody)
naming_code (unresolved.WrongEnd pos) = Some (pos, product.name_code rule.WrongEnd)
naming_code unresolved.Memory = None

abbrev pub layout_code : LayRefusal → Option (Pos × Code)
layout_code (lay.NameTooDeep pos) = Some (product.limit_code (limit.NameTooDeep pos))
layout_code (lay.TooManyPoints pos) = Some (product.limit_code (limit.TooManyPoints pos))
layout_code (lay.TooManyFacts pos) = Some (product.limit_code (limit.TooManyFacts pos))
layout_code lay.Memory = None

abbrev pub program_code : ProgramRefusal → Option (Pos × Code)
program_code (unchecked.Mistyped refusal) = product.type_code refusal
program_code (unchecked.Beyond refusal) = layout_code refusal
program_code unchecked.Memory = None

-- What is found is a refusal with this position and this code.
abbrev pub IsRefused : List (List ℕ) → Option (Pos × Code) → Finding → Type 0
IsRefused names None finding = ⊥
IsRefused names (Some found) finding = finding ≡ product.stops names found.0 found.1

-- ---- findings

-- There is no report, or these are the lines of all.
abbrev pub Tells : List (List ℕ) → Bool → Verdict → Finding → Type 0
Tells names main (verdict.Accepted program) finding = finding ≡ Passes (program_of program.laid)
Tells names main (verdict.Rejected those reports) finding =
    finding ≡ Rejects main (report_lines names (printed_name those.table those.objects) (reports_in reports))

-- An answer that ends each command refuses the sources, and nothing goes to the first output.
abbrev pub IsChecked : Finding → Type 0
IsChecked (Ends answer) = (answer.out ≡ []) × (answer.status ≡ 2)
IsChecked (Rejects main lines) = Unit {0}
IsChecked (Passes program) = Unit {0}

-- A program that passes has these names of files.
abbrev pub IsNamed : List (List ℕ) → held.Finding → Type 0
IsNamed names (found.Ends answer) = Unit {0}
IsNamed names (found.Rejects main lines) = Unit {0}
IsNamed names (found.Passes program) = names_of program ≡ names

-- ---- outcomes

-- Whatever the input holds, this is what is answered to the command.
abbrev pub Gives : List (List ℕ × List ℕ) → Option Command → Outcome → Type 0
Gives stored command made = (input : List ℕ) → product.Answers stored input command (answer_for input made)

-- And this is the run that is made for it.
abbrev pub MakesFor : List (List ℕ × List ℕ) → Option Command → Outcome → Type 0
MakesFor stored command made = (input : List ℕ) → Makes stored input command (run_for input made)

-- An answer is made without the input, and nothing goes to the first output but with status 0; or
-- a program can be run.
abbrev pub IsReady : Outcome → Type 0
IsReady (outcome.Answers answer) = Has (0 ∷ 1 ∷ 2 ∷ 6 ∷ []) answer.status × (answer.status ≢ 0 → (answer_of answer).out ≡ [])
IsReady (outcome.Runs program budget stats) = IsSome program.laid.main × (budget ≤ STEPS)
IsReady (outcome.Tests program n) = IsSome program.laid.main

-- This answer is made, and it needs no input.
abbrev pub IsMade : Answer → Outcome → Type 0
IsMade told (outcome.Answers answer) = answer_of answer ≡ told
IsMade told (outcome.Runs program budget stats) = ⊥
IsMade told (outcome.Tests program n) = ⊥

-- The usage line is for words without a command. A program is run only for a command that runs one,
-- which has no other end with status 0.
abbrev pub IsFor : Option Command → Outcome → Type 0
IsFor command (outcome.Answers answer) = (answer.status ≡ 6 → command ≡ None) × (runs command ≡ true → answer.status ≢ 0)
IsFor command (outcome.Runs program budget stats) = runs command ≡ true
IsFor command (outcome.Tests program n) = (runs command ≡ false) × (uses_store command ≡ true)
