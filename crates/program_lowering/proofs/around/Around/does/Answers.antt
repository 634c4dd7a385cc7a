use Rattle.program_lowering.proofs.around.Around.does.Goals as goal

pub returns-in-Output-clause-does : goal.returns-in-Output-clause-does
returns-in-Output-clause-does c = rw c.in-Output.is c.output.ensures.does
