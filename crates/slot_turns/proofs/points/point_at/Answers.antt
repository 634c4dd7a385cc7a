use Rattle.code_rows.specs.Points.{is_point_there}
use Rattle.code_rows.proofs.Kept.{all_at, whole_points}
use Rattle.slot_turns.proofs.points.point_at.Goals as goal

pub returns-clause-there : goal.returns-clause-there
returns-clause-there c =
    all_at (is_point_there c.args.codes.now) c.args.codes.now.points.items c.args.n c.index.result.now c.index.result.now
    c.index.ensures c.requires.there (whole_points c.args.codes.now c.requires.whole)
