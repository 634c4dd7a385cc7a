use Rattle.std.proofs.Common.{◌≡◌, true, Some, sym, ap, ◌∙◌, arith}
use Rattle.std.proofs.lemmas.Grind.{common_steps}
use Rattle.laid_program.specs.Programs as laid_programs
use Rattle.machine.specs.States.{sub_of}
use Rattle.program_typing.specs.Typings.{typing}
use Rattle.run_codes.specs.Programs.{objects_of, points_from, sub_rows}
use Rattle.code_rows.specs.Points.{program_of}
use Rattle.program_lowering.proofs.Subs.{lowered_is}
use Rattle.program_lowering.proofs.trees.Trees.whole.Goals as goal

pub returns-clause-program : goal.returns-clause-program
returns-clause-program c =
    let points : points_from (typing c.args.self.now.typing) (objects_of (sub_of (laid_programs.program_of c.args.laid.now) 0)) 0 true
    (laid_programs.program_of c.args.laid.now).subs ≡ Some (program_of c.add_subs.new.codes).points = grind (arith, common_steps) in
    let subs : sub_rows (typing c.args.self.now.typing) 0 (laid_programs.program_of c.args.laid.now).subs ≡ (program_of c.add_subs.new.codes).subs =
    grind (arith, common_steps) in
    let main : c.add_subs.new.codes.main ≡ c.args.laid.now.main = grind (arith, common_steps) in
    lowered_is (laid_programs.program_of c.args.laid.now) (typing c.args.self.now.typing) (program_of c.add_subs.new.codes).points
    (program_of c.add_subs.new.codes).subs (sym c.requires.typing) points subs
    ∙ ap (λ m. Some (record { points = (program_of c.add_subs.new.codes).points; subs = (program_of c.add_subs.new.codes).subs; main = m })) (sym main)
