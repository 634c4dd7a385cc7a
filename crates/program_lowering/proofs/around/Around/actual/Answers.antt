use Rattle.program_lowering.proofs.around.Around.actual.Goals as goal

pub returns-in-ByValue-clause-actual : goal.returns-in-ByValue-clause-actual
returns-in-ByValue-clause-actual c = λ p. rw c.in-ByValue.is (c.valued.ensures.actual p)

pub returns-in-Place-clause-actual : goal.returns-in-Place-clause-actual
returns-in-Place-clause-actual c = λ p. rw c.in-Place.is (c.by_mode.ensures.actual p _ _)
