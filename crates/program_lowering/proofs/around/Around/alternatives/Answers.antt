use Rattle.std.proofs.Common.{◌≡◌, length, map, arith}
use Rattle.std.proofs.lemmas.Grind.{common_steps}
use Rattle.typed_tree.specs.Nodes.{typed_code_at}
use Rattle.run_codes.specs.Programs.{alternatives}
use Rattle.code_rows.specs.Points.{choice_of}
use Rattle.program_lowering.specs.Arounds.{around, point_in, choices_in}
use Rattle.program_lowering.proofs.Lists.{since_range}
use Rattle.program_lowering.proofs.around.Around.alternatives.Goals as goal

pub returns-clause-choices : goal.returns-clause-choices
returns-clause-choices c =
    let begins : c.len-first.result ≡ length (choices_in c.args.rows.now) = grind (arith, common_steps) in
    let ends : c.len.result ≡ length c.all_led.new.rows.choices.items = grind (arith, common_steps) in
    since_range choice_of c.all_led.new.rows.choices.items (choices_in c.args.rows.now)
    (alternatives (around c.args.self.now) (point_in c.args.self.now c.args.p.now) 0 (map (typed_code_at c.args.self.now.code.now) c.args.lists.now))
    c.since.result c.len-first.result c.len.result
    c.in_ok-all_led.ensures.choices begins ends c.since.ensures.first c.since.ensures.end
