-- What a command writes and answers (docs/TOOL.md, "Order of work").
use Rattle.std.specs.Prelude.{◌≡◌, ℕ, Bool, true, List, [], ◌∷◌, length, nat_le, codes, Option, None, Some, is_some, Ok, Err, if◌then◌else◌}
use Rattle.spark_base.specs.declared.position.Pos.{Pos}
use Rattle.spark_base.specs.declared.limits.TheConstants.{SOURCE_BYTES, TOKENS}
use Rattle.ada_lexer.specs.declared.refusal.LexRefusal.{LexRefusal}
use Rattle.ada_lexer.specs.declared.refusal.LexRefusal.TheVariants.{BadByte, BadIdentifier, BadNumber, OpenString, TooMany, Memory}
use Rattle.ada_lexer.specs.Positions.{first_position}
use Rattle.ada_lexer.specs.Tokens.{Cut}
use Rattle.ada_tree.specs.declared.unit.SourceUnit.{SourceUnit}
use Rattle.ada_tree.specs.Refusals as grammar
use Rattle.name_events.specs.declared.declaration.NameRule.{NameRule}
use Rattle.name_events.specs.declared.declaration.NameRule.TheVariants as rule
use Rattle.name_events.specs.Faults.{name_fault}
use Rattle.type_definitions.specs.declared.refusal.TypeRefusal.{TypeRefusal}
use Rattle.type_definitions.specs.declared.refusal.TypeRefusal.TheVariants as untyped
use Rattle.type_definitions.specs.Whole.{TypeFault, type_fault}
use Rattle.type_definitions.specs.Refusals.{refusal_of}
use Rattle.typing_steps.specs.Programs.{program_of}
use Rattle.place_names.specs.Reports.{Report}
use Rattle.flow_paths.specs.declared.refusal.LayFault.{LayFault}
use Rattle.flow_paths.specs.declared.refusal.LayFault.TheVariants as limit
use Rattle.flow_paths.specs.declared.report.Effects.{Effects}
use Rattle.flow_paths.specs.declared.report.LeakLine.{LeakLine}
use Rattle.flow_paths.specs.Effects.{AreEffects}
use Rattle.flow_paths.specs.Laid.{FlowProgram}
use Rattle.flow_paths.specs.Limits.{lay_fault}
use Rattle.flow_paths.specs.Reports.{AreReports}
use Rattle.leak_checks.specs.Plan.{LeakPlan}
use Rattle.program_check.specs.Sources.{flow_of, printed_in}
use Rattle.rule_reports.specs.declared.code.Code.{Code}
use Rattle.rule_reports.specs.declared.code.Code.TheVariants.{S1, L1, L2, L3, L4, L5, P1, P2, P3, N1, N2, N3, N4, N5, N6, Y1, Y2, Y3, K1, K2, K3, K4, K5, K6, K7, K8, M1, G1, G2}
use Rattle.rule_reports.specs.Lines.{refusal_line, report_lines, leak_plan_lines, accepted_line, usage_line}
use Rattle.prog_maker.specs.Texts.{program_text}
use Rattle.command_words.specs.Words.{Command, Check, Run, Leaks, Make, Selftest}
use Rattle.machine.specs.Run.{run as run_of}
use Rattle.soundness.specs.Sound.{IsTrap}
use Rattle.self_test.specs.run_command.Answers.{Answer}
use Rattle.self_test.specs.run_command.Runs.{run_answer}
use Rattle.self_test.specs.Summaries.{test_line}
use Rattle.tool_answers.specs.Commands.{command_of}
use Rattle.tool_answers.specs.Reading.{Sources, Texts, TooLarge, Missing, sources}
use Rattle.source_trees.specs.Cuts.{all_tokens}
use Rattle.source_trees.specs.Trees.{AreTreesOf}
use Rattle.tool_answers.specs.Parsing.{FirstRefused}

-- One refusal line.
abbrev pub refused : List (List ℕ) → Pos → Code → Answer
refused names pos code = record { out = []; err = refusal_line names pos code; status = 2 }

-- The usage line.
abbrev pub misused : Answer
misused = record { out = []; err = usage_line; status = 6 }

-- The line that says that there is no report.
abbrev pub accepted : Answer
accepted = record { out = accepted_line; err = []; status = 0 }

-- The lines of reports.
abbrev pub rejected : List ℕ → Answer
rejected lines = record { out = []; err = lines; status = 1 }

-- The lines of leak checks.
abbrev pub listed : List ℕ → Answer
listed lines = record { out = lines; err = []; status = 0 }

-- A named file isn't there, and nothing is written.
abbrev pub unread : Answer
unread = record { out = []; err = []; status = 7 }

-- The program that is made for a number.
abbrev pub made : ℕ → Answer
made n = record { out = program_text n; err = []; status = 0 }

-- The line of a self test.
abbrev pub tested : List ℕ → Answer
tested line = record { out = line; err = []; status = 0 }

-- The position and the code of a lexical fault. Out of memory is none.
abbrev pub lexical_code : LexRefusal → Option (Pos × Code)
lexical_code (BadByte pos) = Some (pos, L1)
lexical_code (BadIdentifier pos) = Some (pos, L2)
lexical_code (BadNumber pos) = Some (pos, L3)
lexical_code (OpenString pos) = Some (pos, L4)
lexical_code (TooMany pos) = Some (pos, L5)
lexical_code Memory = None

-- The code of a token that the grammar refuses.
abbrev pub syntactic_code : grammar.Code → Code
syntactic_code grammar.Syntax = P1
syntactic_code grammar.TooDeep = P2
syntactic_code grammar.LeftOut = P3

-- The code of a broken rule of names.
abbrev pub name_code : NameRule → Code
name_code rule.Unknown = N1
name_code rule.Twice = N2
name_code rule.NotVisible = N3
name_code rule.TooEarly = N4
name_code rule.NoBody = N5
name_code rule.WrongEnd = N6

-- The position and the code of a broken sentence on types. Out of memory is none.
abbrev pub type_code : TypeRefusal → Option (Pos × Code)
type_code (untyped.TooLarge pos) = Some (pos, Y1)
type_code (untyped.TooManyParts pos) = Some (pos, Y2)
type_code (untyped.NoElements pos) = Some (pos, Y3)
type_code (untyped.WrongType pos) = Some (pos, K1)
type_code (untyped.NotVariable pos) = Some (pos, K2)
type_code (untyped.WrongProfile pos) = Some (pos, K3)
type_code (untyped.BadChoices pos) = Some (pos, K4)
type_code (untyped.OwningPlace pos) = Some (pos, K5)
type_code (untyped.AnonymousPlace pos) = Some (pos, K6)
type_code (untyped.NotStatic pos) = Some (pos, K7)
type_code (untyped.PackageValue pos) = Some (pos, K8)
type_code untyped.Memory = None

-- The position and the code of a limit that a program is beyond.
abbrev pub limit_code : LayFault → Pos × Code
limit_code (limit.NameTooDeep pos) = (pos, M1)
limit_code (limit.TooManyPoints pos) = (pos, G1)
limit_code (limit.TooManyFacts pos) = (pos, G2)

-- What is found of the sources: an answer that ends each command; the lines of reports, and whether
-- the program has a main procedure; or a program of which nothing is reported.
pub data Finding : Type 0 where
  Ends : Answer → Finding
  Rejects : Bool → List ℕ → Finding
  Passes : FlowProgram → Finding

-- A refusal ends each command.
abbrev pub stops : List (List ℕ) → Pos → Code → Finding
stops names pos code = Ends (refused names pos code)

-- What the reports of a program say.
abbrev pub judged : List (List ℕ) → FlowProgram → List Report → Finding
judged names program [] = Passes program
judged names program (report ∷ more) = Rejects (is_some program.main) (report_lines names (printed_in program) (report ∷ more))

-- What is found of the sources of the named files. The first row that applies decides.
pub data Checks (names : List (List ℕ)) : Sources → Finding → Type 0 where
  -- a named file isn't there
  missing : Checks names Missing (Ends unread)
  -- a file has the first byte past the limit
  too_large : (file : ℕ) → Checks names (TooLarge file) (stops names (first_position file) S1)
  -- the first lexical fault over all files in order
  lexical : (texts : List (List ℕ)) (fault : LexRefusal) (pos : Pos) (code : Code) → all_tokens 0 TOKENS texts ≡ Err fault
      → lexical_code fault ≡ Some (pos, code) → Checks names (Texts texts) (stops names pos code)
  -- the first file in order that the grammar refuses
  syntactic : (texts : List (List ℕ)) (cuts : List (List Cut)) (code : grammar.Code) (pos : Pos) → all_tokens 0 TOKENS texts ≡ Ok cuts
      → FirstRefused code pos cuts → Checks names (Texts texts) (stops names pos (syntactic_code code))
  -- the first broken rule of names over the trees of all files in order
  unresolved : (texts : List (List ℕ)) (cuts : List (List Cut)) (trees : List (List SourceUnit)) (broken : NameRule) (pos : Pos)
      → all_tokens 0 TOKENS texts ≡ Ok cuts → AreTreesOf cuts trees → name_fault trees ≡ Some (broken, pos)
      → Checks names (Texts texts) (stops names pos (name_code broken))
  -- the first broken sentence on types
  mistyped : (texts : List (List ℕ)) (cuts : List (List Cut)) (trees : List (List SourceUnit)) (broken : TypeFault) (pos : Pos) (code : Code)
      → all_tokens 0 TOKENS texts ≡ Ok cuts → AreTreesOf cuts trees → name_fault trees ≡ None → type_fault (program_of trees) ≡ Some broken
      → type_code (refusal_of broken) ≡ Some (pos, code) → Checks names (Texts texts) (stops names pos code)
  -- a name, the points or the facts of the program are beyond a limit
  beyond : (texts : List (List ℕ)) (cuts : List (List Cut)) (trees : List (List SourceUnit)) (fault : LayFault)
      → all_tokens 0 TOKENS texts ≡ Ok cuts → AreTreesOf cuts trees → name_fault trees ≡ None → type_fault (program_of trees) ≡ None
      → lay_fault (flow_of trees) ≡ Some fault
      → Checks names (Texts texts) (stops names (limit_code fault).0 (limit_code fault).1)
  -- the reports of the program
  checked : (texts : List (List ℕ)) (cuts : List (List Cut)) (trees : List (List SourceUnit)) (effects : Effects) (reports : List Report)
      → all_tokens 0 TOKENS texts ≡ Ok cuts → AreTreesOf cuts trees → name_fault trees ≡ None → type_fault (program_of trees) ≡ None
      → lay_fault (flow_of trees) ≡ None → AreEffects (flow_of trees) effects → AreReports (flow_of trees) effects reports
      → Checks names (Texts texts) (judged names (flow_of trees) reports)

-- What `check` answers.
abbrev pub check_answer : Finding → Answer
check_answer (Ends answer) = answer
check_answer (Rejects main lines) = rejected lines
check_answer (Passes program) = accepted

-- A program without a main procedure isn't run, whatever is reported of it.
abbrev pub with_main : List (List ℕ) → Bool → Answer → Answer
with_main names main answer = if main then answer else refused names (first_position 0) N5

-- What `run` answers.
abbrev pub run_answer_of : List (List ℕ) → ℕ → Bool → List ℕ → Finding → Answer
run_answer_of names budget stats input (Ends answer) = answer
run_answer_of names budget stats input (Rejects main lines) = with_main names main (rejected lines)
run_answer_of names budget stats input (Passes program) = with_main names (is_some program.main) (run_answer names program input budget stats)

-- The run of the program that is found doesn't end in a trap.
abbrev pub IsUntrapped : ℕ → List ℕ → Finding → Type 0
IsUntrapped budget input (Ends answer) = Unit {0}
IsUntrapped budget input (Rejects main lines) = Unit {0}
IsUntrapped budget input (Passes program) = is_some program.main ≡ true → IsTrap (run_of program input budget).ending → ⊥

-- What `leaks` answers. The plan is the same whatever subprograms read and write.
pub data Lists (names : List (List ℕ)) : Finding → Answer → Type 0 where
  ends : (answer : Answer) → Lists names (Ends answer) answer
  rejects : (main : Bool) (lines : List ℕ) → Lists names (Rejects main lines) (rejected lines)
  planned : (program : FlowProgram) (plan : List LeakLine) → ((effects : Effects) → LeakPlan program effects plan)
      → Lists names (Passes program) (listed (leak_plan_lines names (printed_in program) plan))

-- ---- the program that is made, as the one source

abbrev pub made_names : List (List ℕ)
made_names = codes "selftest.adb" ∷ []

abbrev pub made_source : ℕ → Sources
made_source n = if nat_le (length (program_text n)) SOURCE_BYTES then Texts (program_text n ∷ []) else TooLarge 0

-- What `selftest` answers: the line of its run, however it ends; or what `run` answers where nothing
-- is run.
abbrev pub test_answer : ℕ → Finding → Answer
test_answer n (Ends answer) = answer
test_answer n (Rejects main lines) = with_main made_names main (rejected lines)
test_answer n (Passes program) = with_main made_names (is_some program.main) (tested (test_line n program))

-- What the tool answers to a command, or to words that give none, over the files of a store and an
-- input.
pub data Answers (stored : List (List ℕ × List ℕ)) (input : List ℕ) : Option Command → Answer → Type 0 where
  -- the words give no command
  usage : Answers stored input None misused
  -- check FILE..
  check : (names : List (List ℕ)) (finding : Finding) → Checks names (sources stored 0 SOURCE_BYTES names) finding
      → Answers stored input (Some (Check names)) (check_answer finding)
  -- run FILE..
  run : (names : List (List ℕ)) (budget : ℕ) (stats : Bool) (finding : Finding) → Checks names (sources stored 0 SOURCE_BYTES names) finding
      → IsUntrapped budget input finding → Answers stored input (Some (Run names budget stats)) (run_answer_of names budget stats input finding)
  -- leaks FILE..
  leaks : (names : List (List ℕ)) (finding : Finding) (answer : Answer) → Checks names (sources stored 0 SOURCE_BYTES names) finding
      → Lists names finding answer → Answers stored input (Some (Leaks names)) answer
  -- make N
  make : (n : ℕ) → Answers stored input (Some (Make n)) (made n)
  -- selftest N
  selftest : (n : ℕ) (finding : Finding) → Checks made_names (made_source n) finding → Answers stored input (Some (Selftest n)) (test_answer n finding)

-- What it answers to words.
abbrev pub Product : List (List ℕ × List ℕ) → List ℕ → List (List ℕ) → Answer → Type 0
Product stored input words answer = Answers stored input (command_of words) answer

-- What it answers where no source is looked at.
abbrev pub fixed_answer : Option Command → Option Answer
fixed_answer None = Some misused
fixed_answer (Some (Make n)) = Some (made n)
fixed_answer _ = None
