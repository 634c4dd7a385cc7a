use Rattle.std.proofs.Common.{◌≡◌, ◌++◌, drop, map, string_bytes, not}
use Rattle.std.specs.Prelude.{filter}
use Rattle.spark_base.specs.Words.{is_option}
use Rattle.command_words.proofs.operand.operands.Given as goal

abbrev pub invariant-words : goal.invariant-words
invariant-words l =
    map string_bytes l.made.items ++ filter (λ word. not (is_option word)) (map string_bytes (drop l.word-index l.words)) ≡ filter (λ word. not (is_option word)) (map string_bytes l.words)
