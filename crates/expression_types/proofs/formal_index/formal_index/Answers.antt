use Rattle.std.proofs.Common.{◌+◌, refl, arith}
use Rattle.expression_types.specs.Occurrences.{occurs}
use Rattle.expression_types.proofs.Occurrences.{formal_end, formal_step}
use Rattle.expression_types.proofs.formal_index.formal_index.Goals as goal

pub formals-preserved : goal.formals-preserved
formals-preserved c = (
  omega (arith, c.formals-test.true),
  λ w. formal_step c.formals.made c.add.new.self c.args.formals.now c.formals.i (c.formals.i + 1) c.index-formals-i.result _ w c.formals-test.true refl
      (c.in_ok-add.ensures w) (c.formals.invariant.1 w),
)

pub returns : goal.returns
returns c w = formal_end c.args.formals.now c.formals.i (occurs c.formals.made w) _ w (omega (arith, c.formals-test.false)) (c.formals.invariant.1 w)
