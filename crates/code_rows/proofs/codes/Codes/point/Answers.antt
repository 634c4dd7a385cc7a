use Rattle.code_rows.specs.Points.{is_point_there}
use Rattle.code_rows.proofs.codes.Codes.point.Goals as goal
use Rattle.code_rows.proofs.Kept.{all_at, whole_points}

pub returns-clause-there : goal.returns-clause-there
returns-clause-there c =
    all_at (is_point_there c.args.self.now) c.args.self.now.points.items c.args.n c.index.result.now c.index.result.now
    c.index.ensures c.requires.there (whole_points c.args.self.now c.requires.whole)
