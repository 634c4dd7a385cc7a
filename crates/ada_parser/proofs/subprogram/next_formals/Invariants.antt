use Rattle.std.proofs.Common.{◌≡◌, [], ◌∷◌, length}
use Rattle.ada_lexer.specs.declared.token.Symbol.TheVariants as s
use Rattle.token_reading.specs.Reading.{at, many, of_symbol}
use Rattle.token_reading.proofs.Loop.{with_front}
use Rattle.ada_grammar.specs.Units.{next_formal}
use Rattle.ada_parser.proofs.subprogram.next_formals.Given as goal

abbrev pub invariant-turns : goal.invariant-turns
invariant-turns l = with_front l.all (at (many (of_symbol s.Semicolon ∷ []) next_formal) l.tokens) ≡ at (many (of_symbol s.Semicolon ∷ []) next_formal) l.initial.tokens

abbrev pub decreases-turns : goal.decreases-turns
decreases-turns l = length l.tokens.tokens
