-- How the cut of a text goes on after its first piece.
use Rattle.std.proofs.lemmas.Bool.Decides.{nat_tests}
use Rattle.std.proofs.Common.{false, ◌≡◌, ℕ, zero, suc, ◌-◌, ◌<◌, ◌≤◌, ◌==◌, List, [], ◌∷◌, ◌++◌, length, take, drop, refl, sym, ◌∙◌, ap, arith, Ok, Err, append_assoc}
use Rattle.spark_base.specs.declared.position.Pos.{Pos}
use Rattle.ada_lexer.specs.declared.token.TokenKind.{TokenKind}
use Rattle.ada_lexer.specs.declared.refusal.LexRefusal.{LexRefusal}
use Rattle.ada_lexer.specs.declared.refusal.LexRefusal.TheVariants as refused
use Rattle.ada_lexer.specs.declared.piece.Fault.{Fault}
use Rattle.ada_lexer.specs.declared.piece.Piece.TheVariants.{Gap, Lexeme, Broken}
use Rattle.ada_lexer.specs.Characters.{Text}
use Rattle.ada_lexer.specs.Pieces.{first_piece}
use Rattle.ada_lexer.specs.Positions.{behind, next_position}
use Rattle.ada_lexer.specs.Tokens.{Cut, CutResult, cut_from, then_cut, refusal_at}

-- The bytes that are still to be passed may be passed at once.
pub cut_from-passed : (left : ℕ) (pos : Pos) (room : ℕ) (text : Text)
    → cut_from left pos room text ≡ cut_from 0 (behind pos (take left text)) room (drop left text)
unfolding behind
cut_from-passed zero pos room text = refl
cut_from-passed (suc left) pos room [] = refl
cut_from-passed (suc left) pos room (b ∷ rest) = cut_from-passed left (next_position pos b) room rest

-- The outcome after a first piece of so many bytes.
rest_from : (len : ℕ) (pos : Pos) (room : ℕ) (b : ℕ) (rest : Text) → 1 ≤ len
    → cut_from (len - 1) (next_position pos b) room rest
    ≡ cut_from 0 (behind pos (take len (b ∷ rest))) room (drop len (b ∷ rest))
unfolding behind
rest_from zero pos room b rest some = absurd (omega arith)
rest_from (suc len) pos room b rest some =
    let e : suc len - 1 ≡ len = omega arith in rw e (cut_from-passed len (next_position pos b) room rest)

pub cut_from-gap : (len : ℕ) (pos : Pos) (room : ℕ) (text : Text) → first_piece text ≡ Gap len → 0 < length text → 1 ≤ len
    → cut_from 0 pos room text ≡ cut_from 0 (behind pos (take len text)) room (drop len text)
cut_from-gap len pos room [] is some moves = absurd (omega arith)
cut_from-gap len pos room (b ∷ rest) is some moves = rw is (rest_from len pos room b rest moves)

pub cut_from-lexeme : (kind : TokenKind) (len : ℕ) (pos : Pos) (room : ℕ) (text : Text) → first_piece text ≡ Lexeme kind len
    → 0 < length text → 1 ≤ len → 0 < room
    → cut_from 0 pos room text
    ≡ then_cut (record { kind = kind; text = take len text; pos = pos })
    (cut_from 0 (behind pos (take len text)) (room - 1) (drop len text))
cut_from-lexeme kind len pos room [] is some moves has_room = absurd (omega arith)
cut_from-lexeme kind len pos room (b ∷ rest) is some moves has_room =
    let full : (room == 0) ≡ false = grind (arith, nat_tests) in
    let token : Cut = record { kind = kind; text = take len (b ∷ rest); pos = pos } in
    rw (is, full) (ap (then_cut token) (rest_from len pos (room - 1) b rest moves))

pub cut_from-full : (kind : TokenKind) (len : ℕ) (pos : Pos) (text : Text) → first_piece text ≡ Lexeme kind len
    → 0 < length text → cut_from 0 pos 0 text ≡ Err (refused.TooMany pos)
cut_from-full kind len pos [] is some = absurd (omega arith)
cut_from-full kind len pos (b ∷ rest) is some = rw is refl

pub cut_from-broken : (fault : Fault) (before : ℕ) (pos : Pos) (room : ℕ) (text : Text) → first_piece text ≡ Broken fault before
    → 0 < length text → cut_from 0 pos room text ≡ Err (refusal_at fault (behind pos (take before text)))
cut_from-broken fault before pos room [] is some = absurd (omega arith)
cut_from-broken fault before pos room (b ∷ rest) is some = rw is refl

-- The tokens found, and then those of an outcome; its fault stays.
abbrev pub continued : List Cut → CutResult → CutResult
continued found (Ok tokens) = Ok (found ++ tokens)
continued found (Err fault) = Err fault

pub continued_push : (found : List Cut) (token : Cut) (outcome : CutResult)
    → continued (found ++ token ∷ []) outcome ≡ continued found (then_cut token outcome)
continued_push found token (Ok tokens) = simp append_assoc
continued_push found token (Err fault) = refl

pub continued_none : (outcome : CutResult) → continued [] outcome ≡ outcome
continued_none (Ok tokens) = refl
continued_none (Err fault) = refl

-- A fault of what comes after the tokens found is the fault of the whole.
pub continued_fault : (found : List Cut) (outcome whole : CutResult) (fault : LexRefusal)
    → continued found outcome ≡ whole → outcome ≡ Err fault → whole ≡ Err fault
continued_fault found outcome whole fault joins is = sym joins ∙ ap (continued found) is

-- One iteration over a separator or a comment.
pub passes_gap : (found : List Cut) (len : ℕ) (pos : Pos) (room : ℕ) (text : Text) (whole : CutResult)
    → first_piece text ≡ Gap len → 0 < length text → 1 ≤ len
    → continued found (cut_from 0 pos room text) ≡ whole
    → continued found (cut_from 0 (behind pos (take len text)) room (drop len text)) ≡ whole
passes_gap found len pos room text whole is some moves joins =
    ap (continued found) (sym (cut_from-gap len pos room text is some moves)) ∙ joins

-- One iteration over a token.
pub passes_lexeme : (found : List Cut) (kind : TokenKind) (len : ℕ) (pos : Pos) (room : ℕ) (text : Text) (whole : CutResult)
    → first_piece text ≡ Lexeme kind len → 0 < length text → 1 ≤ len → 0 < room
    → continued found (cut_from 0 pos room text) ≡ whole
    → continued (found ++ (record { kind = kind; text = take len text; pos = pos } ∷ []))
    (cut_from 0 (behind pos (take len text)) (room - 1) (drop len text)) ≡ whole
passes_lexeme found kind len pos room text whole is some moves has_room joins =
    let token : Cut = record { kind = kind; text = take len text; pos = pos } in
    let behind_it = cut_from 0 (behind pos (take len text)) (room - 1) (drop len text) in
    continued_push found token behind_it
    ∙ ap (continued found) (sym (cut_from-lexeme kind len pos room text is some moves has_room)) ∙ joins
