use Rattle.std.proofs.Common.{◌∙◌}
use Rattle.prog_maker.specs.Texts.{body}
use Rattle.prog_maker.proofs.Numbered.{none_yet, one_more}
use Rattle.prog_maker.proofs.program.add_bodies.Goals as goal

pub numbers-init : goal.numbers-init
numbers-init c = none_yet body c.args.text.now.items

pub numbers-preserved : goal.numbers-preserved
numbers-preserved c =
    one_more body c.numbers.k c.args.text.now.items c.numbers.text.items c.deref.result.now _ c.numbers.invariant
    c.in_ok-extend_from_slice.ensures.items (c.deref.ensures.value ∙ c.in_ok-made.ensures)
