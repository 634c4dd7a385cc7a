-- Positions in a file (docs/LANGUAGE.md, "Lexical elements"). Lines and columns count from 1, a
-- column is a byte.
use Rattle.std.specs.Prelude.{ℕ, ◌+◌, ◌==◌, if◌then◌else◌}
use Rattle.std.specs.List.{fold}
use Rattle.spark_base.specs.declared.position.Pos.{Pos}
use Rattle.ada_lexer.specs.Characters.{Text, line_feed}

-- Where the first byte of a file stands.
abbrev pub first_position : ℕ → Pos
first_position file = record { file = file; line = 1; column = 1 }

-- A line ends at its line feed.
abbrev pub next_position : Pos → ℕ → Pos
next_position pos b =
    if b == line_feed then record pos { line = pos.line + 1; column = 1 } else record pos { column = pos.column + 1 }

-- The position after bytes that begin at a position.
unfoldable pub behind : Pos → Text → Pos
behind = fold next_position
