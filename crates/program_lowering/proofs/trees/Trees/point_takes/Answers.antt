use Rattle.program_lowering.proofs.trees.Trees.point_takes.Goals as goal

pub point_taken-requires : goal.point_taken-requires
point_taken-requires c = c.new-found.ensures.takes _
