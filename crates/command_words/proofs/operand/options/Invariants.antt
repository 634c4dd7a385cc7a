use Rattle.std.proofs.Common.{◌≡◌, ◌++◌, drop, map, string_bytes}
use Rattle.std.specs.Prelude.{filter}
use Rattle.spark_base.specs.Words.{is_option}
use Rattle.command_words.proofs.operand.options.Given as goal

abbrev pub invariant-words : goal.invariant-words
invariant-words l =
    map string_bytes l.made.items ++ filter is_option (map string_bytes (drop l.word-index l.words)) ≡ filter is_option (map string_bytes l.words)
