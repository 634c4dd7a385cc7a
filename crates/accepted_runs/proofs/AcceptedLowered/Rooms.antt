-- Texts have no more tokens than there is room for.
use Rattle.std.proofs.Common.{◌≡◌, ◌≤◌, ℕ, zero, suc, ◌+◌, ◌-◌, ◌==◌, Bool, true, false, if◌then◌else◌, List, [], ◌∷◌, length, take, Ok, Err, refl, subst, arith}
use Rattle.std.proofs.lemmas.Bool.{true≢false}
use Rattle.machine.specs.spark_base.declared.position.Pos.{Pos}
use Rattle.ada_lexer.specs.declared.token.TokenKind.TheVariants.{EndOfFile}
use Rattle.ada_lexer.specs.declared.refusal.LexRefusal.TheVariants as refused
use Rattle.ada_lexer.specs.declared.piece.Piece.{Piece}
use Rattle.ada_lexer.specs.declared.piece.Piece.TheVariants.{Gap, Lexeme, Broken}
use Rattle.ada_lexer.specs.Characters.{Text}
use Rattle.ada_lexer.specs.Pieces.{first_piece}
use Rattle.ada_lexer.specs.Positions.{first_position, next_position}
use Rattle.ada_lexer.specs.Tokens.{Cut, CutResult, then_cut, with_piece, cut_from, tokens}
use Rattle.source_trees.specs.Cuts.{AllTokens, with_tokens, then_files, all_tokens}
use Rattle.sound_files.specs.TypedFiles.LoweredSources.Tokens.{token_count}

end_short : (pos : Pos) (room : ℕ) (cuts : List Cut) → cut_from 0 pos 0 [] ≡ Ok cuts → length cuts ≤ suc room
end_short pos room cuts e = subst (λ (cs : List Cut). length cs ≤ suc room) (same cuts e) (omega arith)
  where
    same : (cuts : List Cut) → cut_from 0 pos 0 [] ≡ Ok cuts → record { kind = EndOfFile; text = []; pos = pos } ∷ [] ≡ cuts
    same cuts e = cc

some : (room : ℕ) → (room == 0) ≡ false → 1 ≤ room
some zero e = absurd (true≢false e)
some (suc room) e = omega arith

cut_short : (text : Text) (left : ℕ) (pos : Pos) (room : ℕ) (cuts : List Cut) → cut_from left pos room text ≡ Ok cuts → length cuts ≤ suc room
cut_short [] zero pos room cuts e = end_short pos room cuts e
cut_short [] (suc left) pos room cuts e = end_short pos room cuts e
cut_short (b ∷ rest) (suc left) pos room cuts e = cut_short rest left (next_position pos b) room cuts e
cut_short (b ∷ rest) zero pos room cuts e = by (λ left room cuts e. cut_short rest left (next_position pos b) room cuts e) (first_piece (b ∷ rest)) e
  where
    by : ((left room : ℕ) (cuts : List Cut) → cut_from left (next_position pos b) room rest ≡ Ok cuts → length cuts ≤ suc room) → (p : Piece)
        → with_piece p pos room (b ∷ rest) (λ len room_behind. cut_from (len - 1) (next_position pos b) room_behind rest) ≡ Ok cuts → length cuts ≤ suc room
    by on (Gap len) e = on (len - 1) room cuts e
    by on (Lexeme kind len) e = lexeme (room == 0) refl e
      where
        joined : (room == 0) ≡ false → (o : CutResult) → cut_from (len - 1) (next_position pos b) (room - 1) rest ≡ o
            → then_cut (record { kind = kind; text = take len (b ∷ rest); pos = pos }) o ≡ Ok cuts → length cuts ≤ suc room
        joined more_room (Ok more) is e =
            let same : record { kind = kind; text = take len (b ∷ rest); pos = pos } ∷ more ≡ cuts = cc in
            let one = some room more_room in
            let less = on (len - 1) (room - 1) more is in
            subst (λ (cs : List Cut). length cs ≤ suc room) same (omega (arith, one, less))
        joined more_room (Err fault) is e = cc

        lexeme : (none : Bool) → (room == 0) ≡ none
            → (if none then Err (refused.TooMany pos)
            else then_cut (record { kind = kind; text = take len (b ∷ rest); pos = pos }) (cut_from (len - 1) (next_position pos b) (room - 1) rest)) ≡ Ok cuts
            → length cuts ≤ suc room
        lexeme true is e = cc
        lexeme false is e = joined is (cut_from (len - 1) (next_position pos b) (room - 1) rest) refl e
    by on (Broken fault before) e = cc

text_short : (file : ℕ) (text : Text) (room : ℕ) (cuts : List Cut) → tokens file text room ≡ Ok cuts → length cuts ≤ suc room
unfolding tokens
text_short file text room cuts e = cut_short text 0 (first_position file) room cuts e

-- Those of all files share the room.
pub texts_short : (texts : List (List ℕ)) (file room : ℕ) (cuts : List (List Cut)) → all_tokens file room texts ≡ Ok cuts → token_count cuts ≤ room
texts_short [] file room cuts e = empty cuts e
  where
    empty : (cuts : List (List Cut)) → all_tokens file room [] ≡ Ok cuts → token_count cuts ≤ room
    empty [] e = omega arith
    empty (one ∷ cuts) e = cc
texts_short (text ∷ texts) file room cuts e = by (λ left more e. texts_short texts (file + 1) left more e) (tokens file text room) refl e
  where
    by : ((left : ℕ) (more : List (List Cut)) → all_tokens (file + 1) left texts ≡ Ok more → token_count more ≤ left) → (o : CutResult) → tokens file text room ≡ o
        → then_files o room (λ left. all_tokens (file + 1) left texts) ≡ Ok cuts → token_count cuts ≤ room
    by on (Err fault) is e = cc
    by on (Ok found) is e = joined (all_tokens (file + 1) (room - (length found - 1)) texts) refl e
      where
        joined : (o : AllTokens) → all_tokens (file + 1) (room - (length found - 1)) texts ≡ o → with_tokens found o ≡ Ok cuts → token_count cuts ≤ room
        joined (Err fault) rest e = cc
        joined (Ok more) rest e =
            let same : found ∷ more ≡ cuts = cc in
            let here = text_short file text room found is in
            let less = on (room - (length found - 1)) more rest in
            subst (λ (cs : List (List Cut)). token_count cs ≤ room) same (omega (arith, here, less))
