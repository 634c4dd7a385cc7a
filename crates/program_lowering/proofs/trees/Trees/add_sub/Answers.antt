use Rattle.std.proofs.Common.{◌≡◌, ◌+◌, length, arith}
use Rattle.std.proofs.lemmas.Grind.{common_steps}
use Rattle.flow_paths.specs.Stands.{flow_sub_of}
use Rattle.program_typing.specs.Typings.{typing}
use Rattle.code_rows.specs.Points.{program_of}
use Rattle.program_lowering.proofs.Subs.{sub_on}
use Rattle.program_lowering.proofs.trees.Trees.add_sub.Goals as goal

pub returns-clause-subs : goal.returns-clause-subs
returns-clause-subs c = λ rest.
    let first : c.in_ok-first.first ≡ length (program_of c.args.codes.now).points = grind (arith, common_steps) in
    let more : length (program_of c.add_row.new.codes).points
    ≡ length (program_of c.args.codes.now).points + length (flow_sub_of c.args.self.now.rows.now c.args.sub.now).points = grind (arith, common_steps) in
    sub_on (typing c.args.self.now.typing) (program_of c.args.codes.now).subs (program_of c.add_points.new.codes).subs (program_of c.add_row.new.codes).subs
    (length (program_of c.args.codes.now).points) c.in_ok-first.first (length (program_of c.add_row.new.codes).points)
    (flow_sub_of c.args.self.now.rows.now c.args.sub.now) rest c.in_ok-add_points.ensures.subs (c.in_ok-add_row.ensures.sub c.args.self.now.rows.now) first more
