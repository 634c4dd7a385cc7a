use Rattle.std.proofs.Common.{◌+◌, refl, arith}
use Rattle.expression_types.specs.Occurrences.{occurs}
use Rattle.expression_types.proofs.Occurrences.{component_end, component_step}
use Rattle.expression_types.proofs.component_index.component_index.Goals as goal

pub components-preserved : goal.components-preserved
components-preserved c = (
  omega (arith, c.components-test.true),
  λ w. component_step c.components.made c.add.new.self c.args.components.now c.components.i (c.components.i + 1) c.index-components-i.result _ w c.components-test.true refl
      (c.in_ok-add.ensures w) (c.components.invariant.1 w),
)

pub returns : goal.returns
returns c w = component_end c.args.components.now c.components.i (occurs c.components.made w) _ w (omega (arith, c.components-test.false)) (c.components.invariant.1 w)
