-- The tokens of a text, as the definition cuts it, stand in its order.
use Rattle.std.proofs.Common.{◌≡◌, ◌⊎◌, inl, inr, ℕ, zero, suc, ◌-◌, ◌+◌, ◌==◌, Bool, true, false, if◌then◌else◌, List, [], ◌∷◌, take, Ok, Err, refl, sym, ap, ◌∙◌, subst, arith}
use Rattle.machine.specs.spark_base.declared.position.Pos.{Pos}
use Rattle.machine.specs.spark_base.Lists.{Has}
use Rattle.machine.specs.spark_base.Positions.{Precedes}
use Rattle.spark_base.proofs.Positions.{line-Precedes, column-Precedes, Precedes-trans}
use Rattle.ada_lexer.specs.declared.token.TokenKind.{TokenKind}
use Rattle.ada_lexer.specs.declared.token.TokenKind.TheVariants.{EndOfFile}
use Rattle.ada_lexer.specs.declared.refusal.LexRefusal.TheVariants as refused
use Rattle.ada_lexer.specs.declared.piece.Piece.{Piece}
use Rattle.ada_lexer.specs.declared.piece.Piece.TheVariants.{Gap, Lexeme, Broken}
use Rattle.ada_lexer.specs.Characters.{Text, line_feed}
use Rattle.ada_lexer.specs.Pieces.{first_piece}
use Rattle.ada_lexer.specs.Positions.{first_position, next_position}
use Rattle.ada_lexer.specs.Tokens.{Cut, CutResult, then_cut, with_piece, cut_from, tokens}
use Rattle.settled_types.specs.FilePositions.Texts.{AreInOrder, IsText}

-- the tokens of what stands at this position
record From (pos : Pos) (cuts : List Cut) : Type 0 where
  pub ordered : AreInOrder cuts
  pub later : (x : Cut) → Has cuts x → (pos ≡ x.pos) ⊎ Precedes pos x.pos
  pub in_file : (x : Cut) → Has cuts x → x.pos.file ≡ pos.file

step_after : (is_feed : Bool) (pos : Pos)
    → Precedes pos (if is_feed then record pos { line = pos.line + 1; column = 1 } else record pos { column = pos.column + 1 })
step_after true pos = line-Precedes pos (record pos { line = pos.line + 1; column = 1 }) refl (omega arith)
step_after false pos = column-Precedes pos (record pos { column = pos.column + 1 }) refl refl (omega arith)

step_file : (is_feed : Bool) (pos : Pos)
    → (if is_feed then record pos { line = pos.line + 1; column = 1 } else record pos { column = pos.column + 1 }).file ≡ pos.file
step_file true pos = refl
step_file false pos = refl

next_after : (pos : Pos) (b : ℕ) → Precedes pos (next_position pos b)
next_after pos b = step_after (b == line_feed) pos

next_file : (pos : Pos) (b : ℕ) → (next_position pos b).file ≡ pos.file
next_file pos b = step_file (b == line_feed) pos

after_next : (pos : Pos) (b : ℕ) (q : Pos) → (next_position pos b ≡ q) ⊎ Precedes (next_position pos b) q → Precedes pos q
after_next pos b q (inl same) = subst (Precedes pos) same (next_after pos b)
after_next pos b q (inr after) = Precedes-trans pos (next_position pos b) q (next_after pos b) after

passed : (pos : Pos) (b : ℕ) (cuts : List Cut) → From (next_position pos b) cuts → From pos cuts
passed pos b cuts from = record {
  ordered = from.ordered;
  later = λ x has. inr (after_next pos b x.pos (from.later x has));
  in_file = λ x has. from.in_file x has ∙ next_file pos b;
}

token_then : (pos : Pos) (b : ℕ) (kind : TokenKind) (text : Text) (cuts : List Cut) → From (next_position pos b) cuts
    → From pos (record { kind = kind; text = text; pos = pos } ∷ cuts)
token_then pos b kind text cuts from = record {
  ordered = ((λ x has. after_next pos b x.pos (from.later x has)), from.ordered);
  later = λ x has. elim has [
    | inl same ↦ inl (ap (λ (c : Cut). c.pos) same)
    | inr has ↦ inr (after_next pos b x.pos (from.later x has))
  ];
  in_file = λ x has. elim has [
    | inl same ↦ sym (ap (λ (c : Cut). c.pos.file) same)
    | inr has ↦ from.in_file x has ∙ next_file pos b
  ];
}

end_alone : (pos : Pos) (cuts : List Cut) → cut_from 0 pos 0 [] ≡ Ok cuts → From pos cuts
end_alone pos cuts e = subst (From pos) (same cuts e) (record {
  ordered = ((λ x has. absurd has), tt);
  later = λ x has. elim has [ inl same ↦ inl (ap (λ (c : Cut). c.pos) same) | inr none ↦ absurd none ];
  in_file = λ x has. elim has [ inl same ↦ sym (ap (λ (c : Cut). c.pos.file) same) | inr none ↦ absurd none ];
})
  where
    same : (cuts : List Cut) → cut_from 0 pos 0 [] ≡ Ok cuts → record { kind = EndOfFile; text = []; pos = pos } ∷ [] ≡ cuts
    same cuts e = cc

cut_ordered : (text : Text) (left : ℕ) (pos : Pos) (room : ℕ) (cuts : List Cut) → cut_from left pos room text ≡ Ok cuts → From pos cuts
cut_ordered [] zero pos room cuts e = end_alone pos cuts e
cut_ordered [] (suc left) pos room cuts e = end_alone pos cuts e
cut_ordered (b ∷ rest) (suc left) pos room cuts e = passed pos b cuts (cut_ordered rest left (next_position pos b) room cuts e)
cut_ordered (b ∷ rest) zero pos room cuts e = by (λ left room cuts e. cut_ordered rest left (next_position pos b) room cuts e) (first_piece (b ∷ rest)) e
  where
    by : ((left room : ℕ) (cuts : List Cut) → cut_from left (next_position pos b) room rest ≡ Ok cuts → From (next_position pos b) cuts) → (p : Piece)
        → with_piece p pos room (b ∷ rest) (λ len room_behind. cut_from (len - 1) (next_position pos b) room_behind rest) ≡ Ok cuts → From pos cuts
    by on (Gap len) e = passed pos b cuts (on (len - 1) room cuts e)
    by on (Lexeme kind len) e = lexeme (room == 0) e
      where
        joined : (o : CutResult) → cut_from (len - 1) (next_position pos b) (room - 1) rest ≡ o
            → then_cut (record { kind = kind; text = take len (b ∷ rest); pos = pos }) o ≡ Ok cuts → From pos cuts
        joined (Ok more) is e =
            let same : record { kind = kind; text = take len (b ∷ rest); pos = pos } ∷ more ≡ cuts = cc in
            subst (From pos) same (token_then pos b kind (take len (b ∷ rest)) more (on (len - 1) (room - 1) more is))
        joined (Err fault) is e = cc

        lexeme : (none : Bool)
            → (if none then Err (refused.TooMany pos)
            else then_cut (record { kind = kind; text = take len (b ∷ rest); pos = pos }) (cut_from (len - 1) (next_position pos b) (room - 1) rest)) ≡ Ok cuts
            → From pos cuts
        lexeme true e = cc
        lexeme false e = joined (cut_from (len - 1) (next_position pos b) (room - 1) rest) refl e
    by on (Broken fault before) e = cc

-- The tokens of a text stand in its order, in its file.
pub cut_in_order : (file : ℕ) (text : Text) (room : ℕ) (cuts : List Cut) → tokens file text room ≡ Ok cuts → IsText file cuts
unfolding tokens
cut_in_order file text room cuts e =
    let from = cut_ordered text 0 (first_position file) room cuts e in
    record { ordered = from.ordered; in_file = from.in_file }
