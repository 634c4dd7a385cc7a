use Rattle.std.proofs.Common.{subst, sym, ap, ◌∙◌, take, ◌++◌, arith}
use Rattle.std.proofs.lemmas.List.{append_assoc, take_more}
use Rattle.name_resolve.specs.Stands.{NumbersStand}
use Rattle.name_resolve.proofs.Lists.{take_whole}
use Rattle.name_resolve.proofs.numbers.Numbers.add_all.Goals as goal

pub turns-preserved : goal.turns-preserved
turns-preserved c listed s =
    subst (NumbersStand c.add.new.self)
    (append_assoc listed (take c.turns.number-index c.args.numbers.now) _
    ∙ ap (λ xs. listed ++ xs) (sym (take_more c.args.numbers.now c.turns.number-index _ c.turns-test.true)))
    (c.in_ok-add.ensures (listed ++ take c.turns.number-index c.args.numbers.now) (c.turns.invariant listed s))

pub returns : goal.returns
returns c listed s =
    subst (λ xs. NumbersStand c.turns.self (listed ++ xs))
    (take_whole c.args.numbers.now c.turns.number-index (omega (arith, c.turns-test.false)))
    (c.turns.invariant listed s)
