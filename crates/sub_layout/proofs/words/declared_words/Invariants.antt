use Rattle.std.proofs.Common.{◌≡◌, length}
use Rattle.program_typing.specs.Typings.{typing}
use Rattle.sub_layout.specs.Words.{AreWords}
use Rattle.sub_layout.proofs.words.declared_words.Given as goal

abbrev pub invariant-nodes : goal.invariant-nodes
invariant-nodes l = (length l.words.items ≡ l.c) × AreWords (typing l.program) l.rows l.c l.words.items
