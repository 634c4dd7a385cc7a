use Rattle.std.proofs.Common.{sym, ℕ, suc, [], ◌∷◌}
use Rattle.ada_lexer.specs.declared.token.Reserved.TheVariants as w
use Rattle.token_reading.specs.Reading.{Reader, of_word}
use Rattle.token_reading.proofs.Loop.{goes_on, ends, breaks_off, handed_on}
use Rattle.ada_tree.specs.declared.statement.When.{When}
use Rattle.ada_grammar.specs.Statements.{when_in, inner_stmts, next_whens_in}
use Rattle.ada_grammar.proofs.StatementLoops.{when_shortens}
use Rattle.statement_parser.proofs.parser.StatementParser.next_whens.Goals as goal

abbrev part : ℕ → Reader When
part d = when_in (suc d) (inner_stmts d)

pub returns-in_err-when : goal.returns-in_err-when
unfolding next_whens_in
returns-in_err-when g c =
    let read = breaks_off (of_word w.KwWhen ∷ []) (part c.args.self.now.depth) (when_shortens c.args.self.now.depth c.requires.room) _
    c.turns.all c.turns.tokens c.when.new.tokens _ (sym c.turns-test.ensures) c.in_err-when.ensures c.turns.invariant in
    handed_on _ _ c.from_residual.result c.when.new.tokens read c.from_residual.ensures.1

pub turns-smaller : goal.turns-smaller
turns-smaller g c = when_shortens c.args.self.now.depth c.requires.room _ _ _ _ _ c.in_ok-when.ensures

pub turns-preserved : goal.turns-preserved
turns-preserved g c =
    rw c.in_ok-push.ensures.ok
    (goes_on (of_word w.KwWhen ∷ []) (part c.args.self.now.depth) (when_shortens c.args.self.now.depth c.requires.room)
    c.turns.all c.turns.tokens c.when.new.tokens _ _ (sym c.turns-test.ensures) c.in_ok-when.ensures c.turns.invariant)

pub returns : goal.returns
unfolding next_whens_in
returns g c =
    ends (of_word w.KwWhen ∷ []) (part c.args.self.now.depth) (when_shortens c.args.self.now.depth c.requires.room)
    c.turns.all c.turns.tokens _ (sym c.turns-test.ensures) c.turns.invariant
