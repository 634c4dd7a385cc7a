use Rattle.std.proofs.Common.{refl, ap}
use Rattle.spark_base.specs.declared.position.Pos.{Pos}
use Rattle.machine.specs.Evaluate.{StorageError}
use Rattle.machine.specs.States.{Raised}
use Rattle.slot_executor.proofs.Runs.{unfit_ran, unfit_output, unfit_leaks, unfit_ends}
use Rattle.slot_executor.proofs.unfit.run_unfit.Goals as goal

pub returns-in_default-clause-output : goal.returns-in_default-clause-output
returns-in_default-clause-output c = unfit_output c.args.laid.now c.args.main c.requires.unfit c.args.input.now c.requires.same c.args.steps

pub returns-in_default-clause-leaks : goal.returns-in_default-clause-leaks
returns-in_default-clause-leaks c = unfit_leaks c.args.laid.now c.args.main c.requires.unfit c.args.input.now c.requires.same c.args.steps

pub returns-clause-ran : goal.returns-clause-ran
returns-clause-ran c = unfit_ran c.args.laid.now c.args.main c.requires.unfit c.args.input.now c.requires.same c.args.steps _ (ap (λ (p : Pos). Raised StorageError p) c.in-Some.ensures) refl refl refl refl

pub returns-clause-output : goal.returns-clause-output
returns-clause-output c = unfit_output c.args.laid.now c.args.main c.requires.unfit c.args.input.now c.requires.same c.args.steps

pub returns-clause-leaks : goal.returns-clause-leaks
returns-clause-leaks c = unfit_leaks c.args.laid.now c.args.main c.requires.unfit c.args.input.now c.requires.same c.args.steps

pub returns-in_default-clause-ends : goal.returns-in_default-clause-ends
returns-in_default-clause-ends c = unfit_ends c.args.laid.now c.args.main c.requires.unfit c.args.input.now c.requires.same c.args.steps

pub returns-clause-ends : goal.returns-clause-ends
returns-clause-ends c = unfit_ends c.args.laid.now c.args.main c.requires.unfit c.args.input.now c.requires.same c.args.steps
