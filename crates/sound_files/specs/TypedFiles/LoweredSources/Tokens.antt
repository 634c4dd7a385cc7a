-- How many tokens texts have. The end of a file isn't counted.
use Rattle.std.specs.Prelude.{ℕ, ◌+◌, ◌-◌, List, [], ◌∷◌, length}
use Rattle.ada_lexer.specs.Tokens.{Cut}

abbrev pub token_count : List (List Cut) → ℕ
token_count [] = 0
token_count (cuts ∷ texts) = (length cuts - 1) + token_count texts
