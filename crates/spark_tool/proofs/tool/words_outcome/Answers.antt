use Rattle.std.proofs.Common.{◌≡◌, refl, None, ap, subst, map, string_bytes, Err}
use Rattle.std.specs.Prelude.{option_and_then}
use Rattle.command_words.specs.Words as grammar
use Rattle.command_words.specs.declared.command.WordFault.{WordFault}
use Rattle.spark_tool.specs.declared.finding.Outcome.TheVariants as outcome
use Rattle.spark_tool.specs.Answers.{answer_of}
use Rattle.answered_runs.specs.tool_answers.Commands.{command_of, there, uses_store}
use Rattle.spark_tool.proofs.CommandWords.{usage_gives, none_makes}
use Rattle.spark_tool.proofs.tool.words_outcome.Goals as goal

pub returns-in_ok-usage_answer-in-Err-Usage-clause-gives : goal.returns-in_ok-usage_answer-in-Err-Usage-clause-gives
returns-in_ok-usage_answer-in-Err-Usage-clause-gives g c =
    let none : grammar.command_of (map string_bytes c.args.words.now) ≡ None =
    subst (λ (fault : WordFault). grammar.IsReadAs (map string_bytes c.args.words.now) (Err fault)) c.in-Err-Usage.field-0-is c.in-Err-Usage.ensures.read in
    usage_gives (g.F.FileStore.stored c.args.files.now) (command_of (map string_bytes c.args.words.now)) (answer_of c.in_ok-usage_answer-in-Err-Usage.field-0)
    (ap (option_and_then there) none) c.in_ok-usage_answer-in-Err-Usage.ensures

pub returns-in_ok-usage_answer-in-Err-Usage-clause-makes : goal.returns-in_ok-usage_answer-in-Err-Usage-clause-makes
returns-in_ok-usage_answer-in-Err-Usage-clause-makes g c =
    let none : grammar.command_of (map string_bytes c.args.words.now) ≡ None =
    subst (λ (fault : WordFault). grammar.IsReadAs (map string_bytes c.args.words.now) (Err fault)) c.in-Err-Usage.field-0-is c.in-Err-Usage.ensures.read in
    none_makes (g.F.FileStore.stored c.args.files.now) (command_of (map string_bytes c.args.words.now))
    (outcome.Answers c.in_ok-usage_answer-in-Err-Usage.field-0)
    (ap uses_store (ap (option_and_then there) none)) (λ input. refl)
