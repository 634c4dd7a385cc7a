use Rattle.std.proofs.Common.{◌≡◌, Ok, rules}
use Rattle.spark_base.specs.declared.limits.TheConstants.{TOKENS}
use Rattle.spark_tool.specs.declared.parsing.SourceRefusal.TheVariants as source
use Rattle.source_trees.specs.Cuts.{all_tokens}
use Rattle.spark_tool.specs.Lexing.{cuts_of, texts_of}
use Rattle.spark_tool.specs.Refusals.{IsFirstRefusal, RefusesTexts}
use Rattle.spark_tool.proofs.parsing.read_trees.Goals as goal

pub returns-in_err-parse_all-clause-refused : goal.returns-in_err-parse_all-clause-refused
returns-in_err-parse_all-clause-refused c =
    let cut : all_tokens 0 TOKENS (texts_of c.args.texts.items) ≡ Ok (cuts_of c.in_ok-files.files.items) = search rules in
    let refused : IsFirstRefusal (cuts_of c.in_ok-files.files.items) c.in_err-parse_all.field-0.0 = search rules in
    let first : RefusesTexts (texts_of c.args.texts.items) (source.Syntactic c.in_err-parse_all.field-0.0) =
    (cuts_of c.in_ok-files.files.items, (cut, refused)) in
    search rules
