use Rattle.std.proofs.Common.{◌≡◌, take, map}
use Rattle.std.specs.Prelude.{string_bytes}
use Rattle.spark_examples.proofs.response.copy_words.Given as goal

abbrev pub invariant-words : goal.invariant-words
invariant-words l = map string_bytes l.copy.items ≡ map string_bytes (take l.word-index l.words)
