use Rattle.std.proofs.Common.{◌∙◌, sym, ap, ◌-◌, arith}
use Rattle.flow_paths.specs.Views.{encloses_within}
use Rattle.traversal_funcs.proofs.Outwards.{outermost, goes_outwards, differ, ends_found, ends_far}
use Rattle.traversal_funcs.proofs.scopes.encloses.Goals.{then-outwards-test+else-steps-gt0, else-outwards-test}
use Rattle.traversal_funcs.proofs.scopes.encloses.Goals as goal

pub returns-then-outer-at : goal.returns-then-outer-at
returns-then-outer-at c =
    sym (outermost c.outwards.steps c.args.scopes.now c.args.a c.outwards.at (differ c.args.a c.outwards.at c.outwards-test.true)
    (sym c.around-outer.ensures ∙ c.if-outer-at.true))
    ∙ c.outwards.invariant

pub outwards-preserved : goal.outwards-preserved
outwards-preserved c =
    ap (encloses_within (c.outwards.steps - 1) c.args.scopes.now c.args.a) c.around-outer.ensures
    ∙ goes_outwards c.outwards.steps (c.outwards.steps - 1) c.args.scopes.now c.args.a c.outwards.at (omega (arith, c.if-steps-gt0.true))
    (differ c.args.a c.outwards.at c.outwards-test.true)
    ∙ c.outwards.invariant

pub returns : goal.returns
returns c =
    elim c.outwards-test.branch [
      | then-outwards-test+else-steps-gt0 w ↦
          ends_far c.outwards.steps c.args.scopes.now c.args.a c.outwards.at (omega (arith, w.if-steps-gt0.false))
      | else-outwards-test w ↦ ends_found c.outwards.steps c.args.scopes.now c.args.a c.outwards.at w.outwards-test.false
    ] ∙ c.outwards.invariant
