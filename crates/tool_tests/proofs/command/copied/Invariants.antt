use Rattle.std.proofs.Common.{◌≡◌, map, take, string_bytes}
use Rattle.tool_tests.proofs.command.copied.Given as goal

abbrev pub invariant-words : goal.invariant-words
invariant-words l = map string_bytes l.copies.items ≡ map string_bytes (take l.word-index l.words)
