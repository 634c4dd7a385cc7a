use Rattle.std.proofs.Common.{◌≡◌, ◌+◌, ◌-◌, ◌++◌, List, ℤ, pos, OnOk, get_or, ap, subst, ◌∙◌, arith, rules}
use Rattle.std.proofs.lemmas.Int.{to_z-of_z}
use mir.Syntax.{w64}
use mir.Val.{SFits}
use Rattle.run_codes.specs.Flat.{repeated}
use Rattle.slot_hand.proofs.Appended.{repeated_next, repeated_alone}
use Rattle.slot_hand.proofs.words.push_repeated.Goals as goal

pub returns-then-block-eq1-clause-pushed : goal.returns-then-block-eq1-clause-pushed
returns-then-block-eq1-clause-pushed c =
    let word = get_or c.args.block.now 0 (pos 0) in
    let fits : SFits w64 word = search rules in
    let pushed = rw (to_z-of_z w64 word fits) at c.push_times.ensures.pushed in
    let P : List ℤ → Type 0 = λ l. OnOk c.push_times.result (c.push_times.new.words.items ≡ c.args.words.now.items ++ l) in
    subst P (repeated_alone c.args.count c.args.block.now (omega (arith, c.if-block-eq1.true))) pushed

pub times-preserved : goal.times-preserved
times-preserved c =
    ap (λ l. l ++ repeated (c.args.count - (c.times._time + 1)) c.args.block.now) c.in_ok-extend_from_slice.ensures.items
    ∙ repeated_next c.args.count c.times._time c.args.block.now c.times.words.items (omega (arith, c.times-test.true))
    ∙ c.times.invariant
