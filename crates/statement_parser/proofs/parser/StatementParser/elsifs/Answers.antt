use Rattle.std.proofs.Common.{sym, ℕ, suc, [], ◌∷◌}
use Rattle.ada_lexer.specs.declared.token.Reserved.TheVariants as w
use Rattle.token_reading.specs.Reading.{Reader, of_word}
use Rattle.token_reading.proofs.Loop.{goes_on, ends, breaks_off, handed_on}
use Rattle.ada_tree.specs.declared.statement.Elsif.{Elsif}
use Rattle.ada_grammar.specs.Statements.{elsif_in, inner_stmts, elsifs_in}
use Rattle.ada_grammar.proofs.StatementLoops.{elsif_shortens}
use Rattle.statement_parser.proofs.parser.StatementParser.elsifs.Goals as goal

abbrev part : ℕ → Reader Elsif
part d = elsif_in (suc d) (inner_stmts d)

pub returns-in_err-elsif : goal.returns-in_err-elsif
unfolding elsifs_in
returns-in_err-elsif g c =
    let read = breaks_off (of_word w.KwElsif ∷ []) (part c.args.self.now.depth) (elsif_shortens c.args.self.now.depth c.requires.room) _
    c.turns.all c.turns.tokens c.elsif.new.tokens _ (sym c.turns-test.ensures) c.in_err-elsif.ensures c.turns.invariant in
    handed_on _ _ c.from_residual.result c.elsif.new.tokens read c.from_residual.ensures.1

pub turns-smaller : goal.turns-smaller
turns-smaller g c = elsif_shortens c.args.self.now.depth c.requires.room _ _ _ _ _ c.in_ok-elsif.ensures

pub turns-preserved : goal.turns-preserved
turns-preserved g c =
    rw c.in_ok-push.ensures.ok
    (goes_on (of_word w.KwElsif ∷ []) (part c.args.self.now.depth) (elsif_shortens c.args.self.now.depth c.requires.room)
    c.turns.all c.turns.tokens c.elsif.new.tokens _ _ (sym c.turns-test.ensures) c.in_ok-elsif.ensures c.turns.invariant)

pub returns : goal.returns
unfolding elsifs_in
returns g c =
    ends (of_word w.KwElsif ∷ []) (part c.args.self.now.depth) (elsif_shortens c.args.self.now.depth c.requires.room)
    c.turns.all c.turns.tokens _ (sym c.turns-test.ensures) c.turns.invariant
