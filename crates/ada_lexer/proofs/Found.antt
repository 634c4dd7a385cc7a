-- What the tokens found so far are, as tokens of the text.
use Rattle.std.proofs.Common.{Bool, true, false, if◌then◌else◌, ◌==◌, ◌≡◌, ◌≢◌, ℕ, ◌+◌, ◌<◌, ◌≤◌, List, [], ◌∷◌, ◌++◌, length, take, drop, get_or, refl, sym, ◌∙◌, ap, arith, append_assoc}
use Rattle.std.specs.List.{All, AllPairs}
use Rattle.std.proofs.lemmas.List.{take-append-drop, length-take-le, nil_from_length}
use Rattle.std.proofs.lemmas.List.Elements.{All-push}
use Rattle.std.proofs.lemmas.List.Quantifiers.{all_pairs_push}
use Rattle.std.proofs.lemmas.List.Sums.{fold-append}
use Rattle.spark_base.specs.declared.position.Pos.{Pos}
use Rattle.spark_base.specs.Positions.{Precedes}
use Rattle.spark_base.proofs.Positions.{line-Precedes, column-Precedes, Precedes-trans}
use Rattle.ada_lexer.specs.declared.token.Token.{Token}
use Rattle.ada_lexer.specs.declared.token.TokenKind.TheVariants.{EndOfFile}
use Rattle.ada_lexer.specs.declared.piece.Fault.{Fault}
use Rattle.ada_lexer.specs.declared.piece.Fault.TheVariants.{BadByte, BadIdentifier, BadNumber, OpenString}
use Rattle.ada_lexer.specs.Characters.{Text, line_feed}
use Rattle.ada_lexer.specs.Positions.{first_position, next_position, behind}
use Rattle.ada_lexer.specs.Tokens.{StandsIn, NamesFile, refusal_at, cut_of}

-- Positions go on from byte to byte.
step_before : (is_feed : Bool) (pos : Pos)
    → Precedes pos (if is_feed then record pos { line = pos.line + 1; column = 1 } else record pos { column = pos.column + 1 })
step_before true pos = line-Precedes pos (record pos { line = pos.line + 1; column = 1 }) refl (omega arith)
step_before false pos = column-Precedes pos (record pos { column = pos.column + 1 }) refl refl (omega arith)

next_position-before : (pos : Pos) (b : ℕ) → Precedes pos (next_position pos b)
next_position-before pos b = step_before (b == line_feed) pos

behind-before : (pos : Pos) (bytes : Text) → 0 < length bytes → Precedes pos (behind pos bytes)
unfolding behind
behind-before pos [] some = absurd (omega arith)
behind-before pos (b ∷ []) some = next_position-before pos b
behind-before pos (b ∷ c ∷ rest) some =
    Precedes-trans pos (next_position pos b) (behind (next_position pos b) (c ∷ rest)) (next_position-before pos b)
    (behind-before (next_position pos b) (c ∷ rest) (omega arith))

step_file : (is_feed : Bool) (pos : Pos)
    → (if is_feed then record pos { line = pos.line + 1; column = 1 } else record pos { column = pos.column + 1 }).file ≡ pos.file
step_file true pos = refl
step_file false pos = refl

next_position-file : (pos : Pos) (b : ℕ) → (next_position pos b).file ≡ pos.file
next_position-file pos b = step_file (b == line_feed) pos

pub behind-file : (pos : Pos) (bytes : Text) → (behind pos bytes).file ≡ pos.file
unfolding behind
behind-file pos [] = refl
behind-file pos (b ∷ rest) = behind-file (next_position pos b) rest ∙ next_position-file pos b

behind-append : (pos : Pos) (a b : Text) → behind (behind pos a) b ≡ behind pos (a ++ b)
unfolding behind
behind-append pos a b = sym (fold-append next_position pos a b)

-- The tokens found before a rest of the text whose first byte stands at a position.
pub record Found (file : ℕ) (text rest : Text) (pos : Pos) (found : List Token) : Type 0 where
  pub before : Text
  pub splits : text ≡ before ++ rest
  pub position : pos ≡ behind (first_position file) before
  pub inner : All (λ token. token.kind ≢ EndOfFile) found
  pub stands : All (λ token. StandsIn file text (cut_of token)) found
  pub ordered : AllPairs (λ a b. Precedes a.pos b.pos) found
  pub earlier : All (λ token. Precedes token.pos pos) found

pub found_none : (file : ℕ) (text : Text) → Found file text text (first_position file) []
unfolding behind
found_none file text = record {
  before = [];
  splits = refl;
  position = refl;
  inner = λ k d within. absurd (omega arith);
  stands = λ k d within. absurd (omega arith);
  ordered = λ i j d below within. absurd (omega arith);
  earlier = λ k d within. absurd (omega arith);
}

-- Some bytes are passed.
pub found_behind : (file : ℕ) (text rest : Text) (pos : Pos) (found : List Token) (len : ℕ) → 1 ≤ len → len ≤ length rest
    → Found file text rest pos found → Found file text (drop len rest) (behind pos (take len rest)) found
found_behind file text rest pos found len some within so_far =
    let on : Precedes pos (behind pos (take len rest)) = behind-before pos (take len rest) (omega (arith, length-take-le len rest within)) in
    record {
      before = so_far.before ++ take len rest;
      splits = so_far.splits ∙ ap (λ (end : Text). so_far.before ++ end) (sym (take-append-drop len rest)) ∙ sym (append_assoc so_far.before (take len rest) (drop len rest));
      position = ap (λ (p : Pos). behind p (take len rest)) so_far.position ∙ behind-append (first_position file) so_far.before (take len rest);
      inner = so_far.inner;
      stands = so_far.stands;
      ordered = so_far.ordered;
      earlier = λ k d below. Precedes-trans (get_or found k d).pos pos (behind pos (take len rest)) (so_far.earlier k d below) on;
    }

-- A token that stands at the front of the rest.
pub stands_here : (file : ℕ) (text rest : Text) (pos : Pos) (found : List Token) (token : Token) (len : ℕ) → Found file text rest pos found
    → token.text.now ≡ take len rest → token.pos ≡ pos → StandsIn file text (cut_of token)
stands_here file text rest pos found token len so_far bytes at =
    let splits : text ≡ so_far.before ++ (token.text.now ++ drop len rest)
    = so_far.splits ∙ ap (λ (end : Text). so_far.before ++ end) (sym (take-append-drop len rest) ∙ ap (λ (front : Text). front ++ drop len rest) (sym bytes)) in
    record {
      before = so_far.before;
      rest = drop len rest;
      splits = splits ∙ sym (append_assoc so_far.before token.text.now (drop len rest));
      position = at ∙ so_far.position;
    }

-- A token is found, and passed.
pub found_token : (file : ℕ) (text rest : Text) (pos : Pos) (found : List Token) (token : Token) (len : ℕ) → 1 ≤ len → len ≤ length rest
    → token.kind ≢ EndOfFile → token.text.now ≡ take len rest → token.pos ≡ pos
    → Found file text rest pos found → Found file text (drop len rest) (behind pos (take len rest)) (found ++ token ∷ [])
found_token file text rest pos found token len some within inner bytes at so_far =
    let on = found_behind file text rest pos found len some within so_far in
    let passes : Precedes pos (behind pos (take len rest)) = behind-before pos (take len rest) (omega (arith, length-take-le len rest within)) in
    record {
      before = on.before;
      splits = on.splits;
      position = on.position;
      inner = All-push (λ (t : Token). t.kind ≢ EndOfFile) found token so_far.inner inner;
      stands = All-push (λ (t : Token). StandsIn file text (cut_of t)) found token so_far.stands (stands_here file text rest pos found token len so_far bytes at);
      ordered = all_pairs_push (λ (a b : Token). Precedes a.pos b.pos) found token so_far.ordered (λ k d below. rw at (so_far.earlier k d below));
      earlier = All-push (λ (t : Token). Precedes t.pos (behind pos (take len rest))) found token on.earlier (rw at passes);
    }

-- The end of the file is found.
pub found_end : (file : ℕ) (text rest : Text) (pos : Pos) (found : List Token) (token : Token) → length rest ≡ 0
    → token.text.now ≡ rest → token.pos ≡ pos → Found file text rest pos found
    → All (λ t. StandsIn file text (cut_of t)) (found ++ token ∷ []) × AllPairs (λ a b. Precedes a.pos b.pos) (found ++ token ∷ [])
found_end file text rest pos found token none bytes at so_far =
    let all_of_it : token.text.now ≡ take 0 rest = bytes ∙ nil_from_length rest none in (
      All-push (λ (t : Token). StandsIn file text (cut_of t)) found token so_far.stands (stands_here file text rest pos found token 0 so_far all_of_it at),
      all_pairs_push (λ (a b : Token). Precedes a.pos b.pos) found token so_far.ordered (λ k d below. rw at (so_far.earlier k d below)),
    )

-- Positions after the first one of a file are in that file.
pub position-file : (file : ℕ) (text rest : Text) (pos : Pos) (found : List Token) → Found file text rest pos found → pos.file ≡ file
position-file file text rest pos found so_far = ap (λ (p : Pos). p.file) so_far.position ∙ behind-file (first_position file) so_far.before

pub stand-file : (file : ℕ) (text : Text) (found : List Token) → All (λ token. StandsIn file text (cut_of token)) found
    → All (λ token. token.pos.file ≡ file) found
stand-file file text found stand = λ k d within.
    let here = stand k d within in
    ap (λ (p : Pos). p.file) here.position ∙ behind-file (first_position file) here.before

pub refusal_at-file : (file : ℕ) (fault : Fault) (pos : Pos) → pos.file ≡ file → NamesFile file (refusal_at fault pos)
refusal_at-file file BadByte pos is = is
refusal_at-file file BadIdentifier pos is = is
refusal_at-file file BadNumber pos is = is
refusal_at-file file OpenString pos is = is
