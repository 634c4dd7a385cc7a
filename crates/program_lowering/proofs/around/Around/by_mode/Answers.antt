use Rattle.program_lowering.proofs.around.Around.by_mode.Goals as goal

pub returns-in-Out-clause-actual : goal.returns-in-Out-clause-actual
returns-in-Out-clause-actual c = λ p owning access. rw c.in-Out.is (c.given.ensures.actual p owning access)

pub returns-in-InOut-clause-actual : goal.returns-in-InOut-clause-actual
returns-in-InOut-clause-actual c = λ p owning access. rw c.in-InOut.is (c.lent.ensures.actual p owning access)
