use Rattle.std.proofs.Common.{◌≡◌, ◌<◌, length, arith, sym, ◌∙◌, refl}
use Rattle.std.proofs.lemmas.Bool.Decides.{nat_tests}
use Rattle.std.proofs.lemmas.List.{take_rest, map-append}
use Rattle.ada_lexer.specs.declared.piece.Piece.TheVariants.{Gap, Lexeme, Broken}
use Rattle.ada_lexer.specs.Pieces.{first_piece}
use Rattle.ada_lexer.specs.Tokens.{tokens}
use Rattle.ada_lexer.proofs.Cuts.{continued_none, continued_fault, cut_from-full, cut_from-broken, passes_gap, passes_lexeme}
use Rattle.ada_lexer.proofs.Bounds.{still_fits}
use Rattle.ada_lexer.proofs.Found.{found_none, found_behind, found_token, found_end, position-file, stand-file, refusal_at-file, behind-file}
use Rattle.ada_lexer.proofs.TokenLists.{EndsOnce-append}
use Rattle.ada_lexer.proofs.cut.lex.Goals as goal
use Rattle.ada_lexer.proofs.cut.lex.Goals.{in-Gap, in-Lexeme+else-left-eq0+in_ok-push-in-Lexeme}

pub pieces-init : goal.pieces-init
unfolding tokens
pieces-init c = record {
  cut = rw (c.new-found.ensures.items, c.first_position-pos.ensures) (continued_none _);
  found = rw (c.new-found.ensures.items, c.first_position-pos.ensures) (found_none c.args.file c.args.text.now);
  count = rw c.new-found.ensures.items (omega arith);
  line = rw c.first_position-pos.ensures (omega arith);
  column = rw c.first_position-pos.ensures (omega arith);
}

pub returns-then-left-eq0-clause-fault : goal.returns-then-left-eq0-clause-fault
returns-then-left-eq0-clause-fault c = λ _.
    let kind = c.in-Lexeme.kind in
    let len = c.in-Lexeme.len in
    let rest = c.pieces.rest.now in
    let some : 0 < length rest = grind (arith, nat_tests) in
    let is : first_piece rest ≡ Lexeme kind len = sym c.first_piece.ensures.value ∙ c.in-Lexeme.is in
    let joins = rw c.if-left-eq0.true at c.pieces.invariant.cut in
    continued_fault _ _ _ _ joins (cut_from-full kind len c.pieces.pos rest is some)

pub returns-in-Broken-clause-fault : goal.returns-in-Broken-clause-fault
returns-in-Broken-clause-fault c = λ _.
    let fault = c.in-Broken.fault in
    let before = c.in-Broken.before in
    let rest = c.pieces.rest.now in
    let some : 0 < length rest = grind (arith, nat_tests) in
    let is : first_piece rest ≡ Broken fault before = sym c.first_piece.ensures.value ∙ c.in-Broken.is in
    rw (c.refusal_at.ensures, c.behind.ensures.value)
    (continued_fault _ _ _ _ c.pieces.invariant.cut (cut_from-broken fault before c.pieces.pos c.pieces.left rest is some))

pub pieces-preserved : goal.pieces-preserved
pieces-preserved c =
    let rest = c.pieces.rest.now in
    let some : 0 < length rest = grind (arith, nat_tests) in
    elim c.match-first_piece.branch [
      | in-Gap w ↦
          let len = w.in-Gap.len in
          let is : first_piece rest ≡ Gap len = sym c.first_piece.ensures.value ∙ w.in-Gap.is in
          let within = w.in-Gap.ensures.within in
          let passed = passes_gap _ len c.pieces.pos c.pieces.left rest _ is some within.0 c.pieces.invariant.cut in
          record {
            cut = rw (c.behind-pos.ensures.value, take_rest, w.found-is, w.left-is, w.len-is) passed;
            found = rw (c.behind-pos.ensures.value, take_rest, w.found-is, w.len-is)
                (found_behind _ _ rest c.pieces.pos _ len within.0 within.1 c.pieces.invariant.found);
            count = rw (w.found-is, w.left-is) c.pieces.invariant.count;
            line = still_fits _ _ _ _ rest (rw w.len-is within.1) c.behind-pos.ensures.line c.pieces.invariant.line;
            column = still_fits _ _ _ _ rest (rw w.len-is within.1) c.behind-pos.ensures.column c.pieces.invariant.column;
          }
      | in-Lexeme+else-left-eq0+in_ok-push-in-Lexeme w ↦
          let kind = w.in-Lexeme.kind in
          let len = w.in-Lexeme.len in
          let is : first_piece rest ≡ Lexeme kind len = sym c.first_piece.ensures.value ∙ w.in-Lexeme.is in
          let within = w.in-Lexeme.ensures.within in
          let has_room : 0 < c.pieces.left = grind arith in
          let passed = passes_lexeme _ kind len c.pieces.pos c.pieces.left rest _ is some within.0 has_room c.pieces.invariant.cut in
          record {
            cut = rw (c.behind-pos.ensures.value, take_rest, w.found-is, w.left-is, w.len-is, w.in_ok-push-in-Lexeme.ensures.items) (simp map-append passed);
            found = rw (c.behind-pos.ensures.value, take_rest, w.found-is, w.len-is, w.in_ok-push-in-Lexeme.ensures.items)
                (found_token _ _ rest c.pieces.pos _ _ len within.0 within.1 within.2 refl refl c.pieces.invariant.found);
            count = rw (w.found-is, w.left-is) (omega (arith, w.in_ok-push-in-Lexeme.ensures.len, c.pieces.invariant.count));
            line = still_fits _ _ _ _ rest (rw w.len-is within.1) c.behind-pos.ensures.line c.pieces.invariant.line;
            column = still_fits _ _ _ _ rest (rw w.len-is within.1) c.behind-pos.ensures.column c.pieces.invariant.column;
          }
    ]

pub returns-clause-ends : goal.returns-clause-ends
returns-clause-ends c =
    rw c.in_ok-push.ensures.items (EndsOnce-append _ _ c.pieces.invariant.found.inner refl)

pub returns-then-left-eq0-clause-names_file : goal.returns-then-left-eq0-clause-names_file
returns-then-left-eq0-clause-names_file c = position-file _ _ _ c.pieces.pos _ c.pieces.invariant.found

pub returns-in-Broken-clause-names_file : goal.returns-in-Broken-clause-names_file
returns-in-Broken-clause-names_file c =
    let here = position-file _ _ _ c.pieces.pos _ c.pieces.invariant.found in
    rw (c.refusal_at.ensures, c.behind.ensures.value) (refusal_at-file c.args.file c.in-Broken.fault _ (behind-file c.pieces.pos _ ∙ here))

pub returns-clause-stands : goal.returns-clause-stands
returns-clause-stands c = rw c.in_ok-push.ensures.items (found_end _ _ c.pieces.rest.now c.pieces.pos _ _ (grind (arith, nat_tests)) refl refl c.pieces.invariant.found).0

pub returns-clause-ordered : goal.returns-clause-ordered
returns-clause-ordered c = rw c.in_ok-push.ensures.items (found_end _ _ c.pieces.rest.now c.pieces.pos _ _ (grind (arith, nat_tests)) refl refl c.pieces.invariant.found).1

pub returns-clause-in_file : goal.returns-clause-in_file
returns-clause-in_file c =
    rw c.in_ok-push.ensures.items
    (stand-file _ c.args.text.now _ (found_end _ _ c.pieces.rest.now c.pieces.pos _ _ (grind (arith, nat_tests)) refl refl c.pieces.invariant.found).0)
