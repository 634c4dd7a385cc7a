use Rattle.std.proofs.Common.{◌≡◌, length, arith}
use Rattle.std.proofs.lemmas.Grind.{common_steps}
use Rattle.run_codes.specs.Programs.{text_pieces}
use Rattle.run_lowering.specs.Sites.{site}
use Rattle.code_rows.specs.Points.{text_of}
use Rattle.program_lowering.specs.Arounds.{tree, texts_in}
use Rattle.program_lowering.proofs.Lists.{since_range}
use Rattle.program_lowering.proofs.around.Around.texts.Goals as goal

pub returns-clause-texts : goal.returns-clause-texts
returns-clause-texts c =
    let begins : c.len-first.result ≡ length (texts_in c.args.rows.now) = grind (arith, common_steps) in
    let ends : c.len.result ≡ length c.listed.new.rows.texts.items = grind (arith, common_steps) in
    since_range (text_of c.listed.new.rows) c.listed.new.rows.texts.items (texts_in c.args.rows.now)
    (text_pieces (site c.args.self.now.site) (tree c.args.self.now c.args.list)) c.since.result c.len-first.result c.len.result
    c.in_ok-listed.ensures.texts begins ends c.since.ensures.first c.since.ensures.end
