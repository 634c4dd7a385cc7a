use Rattle.std.proofs.Common.{◌≡◌, ◌≤◌, ◌+◌, length, map}
use Rattle.ada_lexer.specs.Tokens.{tokens, cut_of, cut_from}
use Rattle.ada_lexer.proofs.Cuts.{continued}
use Rattle.ada_lexer.proofs.Found.{Found}
use Rattle.ada_lexer.proofs.cut.lex.Given as goal

abbrev pub invariant-pieces : goal.invariant-pieces
invariant-pieces l = record {
  cut : continued (map cut_of l.found.items) (cut_from 0 l.pos l.left l.rest) ≡ tokens l.file l.text l.room;
  found : Found l.file l.text l.rest l.pos l.found.items;
  count : length l.found.items + l.left ≡ l.room;
  line : l.pos.line + length l.rest ≤ 4194305;
  column : l.pos.column + length l.rest ≤ 4194305;
}

abbrev pub decreases-pieces : goal.decreases-pieces
decreases-pieces l = length l.rest
