use Rattle.std.proofs.Common.{◌∙◌}
use Rattle.prog_maker.specs.Texts.{call}
use Rattle.prog_maker.proofs.Numbered.{none_yet, one_more}
use Rattle.prog_maker.proofs.program.add_calls.Goals as goal

pub numbers-init : goal.numbers-init
numbers-init c = none_yet call c.args.text.now.items

pub numbers-preserved : goal.numbers-preserved
numbers-preserved c =
    one_more call c.numbers.k c.args.text.now.items c.numbers.text.items c.as_bytes.result.now _ c.numbers.invariant
    c.in_ok-extend_from_slice.ensures.items (c.as_bytes.ensures.value ∙ c.in_ok-made.ensures.ok)
