use Rattle.std.proofs.Common.{◌≡◌, map, arith}
use Rattle.std.proofs.lemmas.Grind.{common_steps}
use Rattle.flow_paths.specs.Laid.{flow_typing}
use Rattle.laid_program.specs.Programs as laid_programs
use Rattle.program_lowering.specs.Subs.{signature_of}
use Rattle.program_lowering.proofs.Subs.{typing_is}
use Rattle.program_lowering.proofs.program.lowered.Goals as goal

pub whole-requires-clause-typing : goal.whole-requires-clause-typing
whole-requires-clause-typing c =
    let subs : c.in_ok-subs.subs.items ≡ map signature_of c.args.laid.now.subs = grind (arith, common_steps) in
    let is : flow_typing (laid_programs.program_of c.args.laid.now)
    ≡ record { table = c.args.laid.now.table; objects = c.args.laid.now.objects; subs = map signature_of c.args.laid.now.subs } =
    typing_is c.args.laid.now.table c.args.laid.now.objects c.args.laid.now.scopes c.args.laid.now.rows c.args.laid.now.subs c.args.laid.now.main in
    grind (arith, common_steps, subs, is)
