use Rattle.std.proofs.Common.{◌≡◌, ◌<◌, ◌≤◌, All, IfSome, length, drop}
use Rattle.std.specs.List.{slice_get}
use Rattle.spark_base.specs.declared.limits.TheConstants.{TOKENS}
use Rattle.ada_lexer.specs.Tokens.{EndsOnce, kinds_of}
use Rattle.source_trees.specs.Cuts.{all_tokens}
use Rattle.spark_tool.specs.Lexing.{texts_of, cuts_of}
use Rattle.spark_tool.proofs.AllTokens.{with_files}
use Rattle.spark_tool.proofs.lexing.lex_all.Given as goal

abbrev pub invariant-files : goal.invariant-files
invariant-files l = record {
  found : all_tokens 0 TOKENS (texts_of l.texts) ≡ with_files (cuts_of l.found.items) (all_tokens l.file l.room (texts_of (drop l.text-index l.texts)));
  count : length l.found.items ≡ l.text-index;
  first : IfSome (slice_get l.found.items 0) (λ tokens. All (λ token. token.pos.file ≡ 0) tokens.items);
  within : All (λ file. All (λ token. token.pos.file < length l.texts) file.items) l.found.items;
  ends : All (λ file. EndsOnce (kinds_of file.items)) l.found.items;
  room : l.room ≤ TOKENS;
  file : l.file ≡ l.text-index;
}
