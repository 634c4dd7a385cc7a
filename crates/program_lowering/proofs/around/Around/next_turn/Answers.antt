use Rattle.std.proofs.Common.{◌≡◌, ◌+◌, [], ◌∷◌, Some, sym, ap, ◌∙◌, arith}
use Rattle.std.proofs.lemmas.Grind.{common_steps}
use Rattle.type_definitions.specs.Types.{shape_of}
use Rattle.run_codes.specs.Codes as codes
use Rattle.run_codes.specs.Flat.{default_words}
use Rattle.run_codes.specs.Lowered.{scalar_of}
use Rattle.run_codes.specs.Programs.{type_of}
use Rattle.run_lowering.specs.Sorts.{scalar_in}
use Rattle.code_rows.specs.Points.{next_of}
use Rattle.program_lowering.specs.Arounds.{around, known, point_in}
use Rattle.program_lowering.proofs.Defaults.{default_is}
use Rattle.program_lowering.proofs.Turns.{turn_is}
use Rattle.program_lowering.proofs.around.Around.next_turn.Goals as goal

pub returns-clause-does : goal.returns-clause-does
returns-clause-does c = λ rows.
    let is : scalar_of (shape_of (known c.args.self.now).table (type_of (around c.args.self.now) c.args.x)) ≡ Some (scalar_in c.in_ok-scalar.scalar) =
    rw c.type_of-of.ensures at c.in_ok-scalar.ensures in
    let word : default_words (known c.args.self.now).table (type_of (around c.args.self.now) c.args.x) ≡ c.default_word-without.result.word ∷ [] =
    default_is (known c.args.self.now).table (type_of (around c.args.self.now) c.args.x) (scalar_in c.in_ok-scalar.scalar) is
    ∙ ap (λ w. w ∷ []) (sym (rw c.type_of-of.ensures at c.default_word-without.ensures)) in
    let counter : c.in_ok-at.at + 1 ≡ c.in_ok-counter.counter = grind (arith, common_steps) in
    turn_is (around c.args.self.now) (point_in c.args.self.now c.args.p.now) c.args.x c.in_ok-at.at c.args.reversed (scalar_in c.in_ok-scalar.scalar)
    c.default_word-without.result.word (next_of c.in_ok-turn.turn) (next_of c.in_ok-leave.leave) c.in_ok-at.ensures is word c.in_ok-turn.ensures c.in_ok-leave.ensures
    ∙ ap (λ d. Some d) (ap (λ n. codes.Next c.in_ok-at.at n c.args.reversed c.default_word-without.result.word (next_of c.in_ok-turn.turn) (next_of c.in_ok-leave.leave)) counter
    ∙ sym (c.next_row.ensures.does rows))
