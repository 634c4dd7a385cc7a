use Rattle.std.proofs.Common.{◌≡◌, Some, length, arith}
use Rattle.std.proofs.lemmas.Grind.{common_steps}
use Rattle.flow_paths.specs.Objects.{passings, sub_at}
use Rattle.run_codes.specs.Programs.{actuals, append_all}
use Rattle.run_lowering.specs.Sites.{site}
use Rattle.code_rows.specs.Points.{actual_of}
use Rattle.program_lowering.specs.Arounds.{known, tree, actuals_in}
use Rattle.program_lowering.proofs.Lists.{since_range}
use Rattle.program_lowering.proofs.around.Around.actuals.Goals as goal

pub returns-clause-actuals : goal.returns-clause-actuals
returns-clause-actuals c = λ p.
    let begins : c.len-first.result ≡ length (actuals_in c.args.rows.now) = grind (arith, common_steps) in
    let ends : c.len.result ≡ length c.all_passed.new.rows.actuals.items = grind (arith, common_steps) in
    let all : append_all (Some (actuals_in c.args.rows.now)) (actuals (site c.args.self.now.site) p 0
    (passings (known c.args.self.now) (sub_at (known c.args.self.now) c.args.sub)) (sub_at (known c.args.self.now) c.args.sub).formals
    (tree c.args.self.now c.args.list)) ≡ Some (actuals_in c.all_passed.new.rows) =
    grind (arith, common_steps, c.in_ok-all_passed.ensures.actuals p) in
    since_range (actual_of c.all_passed.new.rows) c.all_passed.new.rows.actuals.items (actuals_in c.args.rows.now)
    (actuals (site c.args.self.now.site) p 0 (passings (known c.args.self.now) (sub_at (known c.args.self.now) c.args.sub))
    (sub_at (known c.args.self.now) c.args.sub).formals (tree c.args.self.now c.args.list)) c.since.result c.len-first.result c.len.result
    all begins ends c.since.ensures.first c.since.ensures.end
