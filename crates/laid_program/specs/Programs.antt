-- The programs that code keeps, as those of the definitions.
use Rattle.flow_paths.specs.Laid.{FlowProgram}
use Rattle.laid_program.specs.declared.laid.Laid.{Laid}
use Rattle.laid_program.specs.Layouts.{program_with}

-- The program that a value stands for.
abbrev pub program_of : Laid → FlowProgram
program_of laid = program_with laid.table laid.rows laid.objects laid.scopes laid.subs laid.main
