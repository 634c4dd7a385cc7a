-- The end of the file after tokens that aren't.
use Rattle.std.proofs.Common.{◌≡◌, ◌≢◌, suc, List, [], ◌∷◌, ◌++◌, refl, arith}
use Rattle.std.specs.List.{All}
use Rattle.ada_lexer.specs.declared.token.Token.{Token}
use Rattle.ada_lexer.specs.declared.token.TokenKind.{TokenKind}
use Rattle.ada_lexer.specs.declared.token.TokenKind.TheVariants.{Word, Ident, Number, Str, Symbol, EndOfFile}
use Rattle.ada_lexer.specs.Tokens.{EndsOnce, kinds_of}

-- Another token in front.
pub EndsOnce-cons : (kind : TokenKind) (rest : List TokenKind) → kind ≢ EndOfFile → EndsOnce rest → EndsOnce (kind ∷ rest)
EndsOnce-cons EndOfFile rest inner ends = absurd (inner refl)
EndsOnce-cons (Word word) rest inner ends = ends
EndsOnce-cons Ident rest inner ends = ends
EndsOnce-cons (Number value) rest inner ends = ends
EndsOnce-cons Str rest inner ends = ends
EndsOnce-cons (Symbol symbol) rest inner ends = ends

-- The rest after a token that isn't the end.
pub EndsOnce-rest : (kind : TokenKind) (rest : List TokenKind) → kind ≢ EndOfFile → EndsOnce (kind ∷ rest) → EndsOnce rest
EndsOnce-rest EndOfFile rest inner ends = absurd (inner refl)
EndsOnce-rest (Word word) rest inner ends = ends
EndsOnce-rest Ident rest inner ends = ends
EndsOnce-rest (Number value) rest inner ends = ends
EndsOnce-rest Str rest inner ends = ends
EndsOnce-rest (Symbol symbol) rest inner ends = ends

pub EndsOnce-append : (front : List Token) (end : Token) → All (λ token. token.kind ≢ EndOfFile) front → end.kind ≡ EndOfFile
    → EndsOnce (kinds_of (front ++ end ∷ []))
EndsOnce-append [] end inner is = rw is refl
EndsOnce-append (token ∷ front) end inner is =
    EndsOnce-cons token.kind _ (inner 0 token (omega arith))
    (EndsOnce-append front end (λ k d within. inner (suc k) d (omega arith)) is)
