-- Delimiters (docs/LANGUAGE.md, "Lexical elements"; Ada 2012, 2.2).
use Rattle.std.specs.Prelude.{ℕ, ◌&&◌, ◌==◌, if◌then◌else◌, Option, Some, None}
use Rattle.ada_lexer.specs.declared.token.Symbol.{Symbol}
use Rattle.ada_lexer.specs.declared.token.Symbol.TheVariants.{Ampersand, Apostrophe, LeftParenthesis, RightParenthesis, Star, Plus, Comma, Minus, Dot, Slash, Colon, Semicolon, Less, Equal, Greater, Bar, Arrow, DoubleDot, Becomes, NotEqual, GreaterEqual, LessEqual}
use Rattle.ada_lexer.specs.declared.token.TokenKind.TheVariants as kind
use Rattle.ada_lexer.specs.declared.piece.Fault.TheVariants.{BadByte}
use Rattle.ada_lexer.specs.declared.piece.Piece.{Piece}
use Rattle.ada_lexer.specs.declared.piece.Piece.TheVariants.{Lexeme, Broken}

-- `=>` `..` `:=` `/=` `>=` `<=`
abbrev pub compound : ℕ → ℕ → Option Symbol
compound b next =
    if b == 61 && next == 62 then Some Arrow
    else (if b == 46 && next == 46 then Some DoubleDot
    else (if b == 58 && next == 61 then Some Becomes
    else (if b == 47 && next == 61 then Some NotEqual
    else (if b == 62 && next == 61 then Some GreaterEqual
    else (if b == 60 && next == 61 then Some LessEqual
    else None)))))

-- `&` `'` `(` `)` `*` `+` `,` `-` `.` `/` `:` `;` `<` `=` `>` `|`
abbrev pub single : ℕ → Option Symbol
single b =
    if b == 38 then Some Ampersand
    else (if b == 39 then Some Apostrophe
    else (if b == 40 then Some LeftParenthesis
    else (if b == 41 then Some RightParenthesis
    else (if b == 42 then Some Star
    else (if b == 43 then Some Plus
    else (if b == 44 then Some Comma
    else (if b == 45 then Some Minus
    else (if b == 46 then Some Dot
    else (if b == 47 then Some Slash
    else (if b == 58 then Some Colon
    else (if b == 59 then Some Semicolon
    else (if b == 60 then Some Less
    else (if b == 61 then Some Equal
    else (if b == 62 then Some Greater
    else (if b == 124 then Some Bar
    else None)))))))))))))))

-- One byte that is a delimiter; another byte begins no token.
abbrev pub single_piece : Option Symbol → Piece
single_piece (Some symbol) = Lexeme (kind.Symbol symbol) 1
single_piece None = Broken BadByte 0

-- Two bytes that are one delimiter go before the first alone.
abbrev pub delimiter_by : Option Symbol → Option Symbol → Piece
delimiter_by (Some symbol) alone = Lexeme (kind.Symbol symbol) 2
delimiter_by None alone = single_piece alone

-- What stands at the front of a text whose first two bytes these are, where nothing else begins
-- there.
unfoldable pub delimiter : ℕ → ℕ → Piece
delimiter b next = delimiter_by (compound b next) (single b)
