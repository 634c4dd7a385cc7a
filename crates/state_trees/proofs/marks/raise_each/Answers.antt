use Rattle.std.proofs.Common.{◌∙◌, ◌||◌, false, get_or, refl, arith}
use Rattle.state_trees.proofs.Passes.{passed_next, passed_either}
use Rattle.state_trees.proofs.marks.raise_each.Goals as goal

pub marks-preserved : goal.marks-preserved
marks-preserved c =
    passed_next (λ o m. m || o) c.marks.i c.args.other.now c.args.mine.now c.marks.mine c.marks.invariant
    (omega (arith, c.requires, c.marks-test.true)) (omega (arith, c.requires, c.marks-test.true))
    (get_or c.args.other.now c.marks.i false) false (get_or c.marks.mine c.marks.i false) false c.either.result
    refl refl c.either.ensures

pub returns : goal.returns
returns c =
    c.marks.invariant
    ∙ passed_either c.marks.i c.args.other.now c.args.mine.now (omega (arith, c.requires)) (omega (arith, c.marks-test.false))
