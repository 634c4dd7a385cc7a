-- Programs whose rows grow.
use Rattle.std.proofs.Common.{◌≡◌}
use Rattle.code_rows.specs.declared.rows.Rows.{Rows}
use Rattle.code_rows.specs.declared.codes.Codes.{Codes}
use Rattle.code_rows.specs.Points.{program_of, AreSound, IsWhole, RowsGrew}
use Rattle.code_rows.proofs.Kept.{longer_none, points_kept, subs_kept, whole_rows}

pub whole_more : (c : Codes) (rows : Rows) → IsWhole c → RowsGrew c.rows rows → AreSound rows → IsWhole (record c { rows = rows })
whole_more c rows whole grew sound = whole_rows c rows whole grew sound

pub same_points : (c : Codes) (rows : Rows) → IsWhole c → RowsGrew c.rows rows
    → (program_of (record c { rows = rows })).points ≡ (program_of c).points
same_points c rows whole grew =
    points_kept c (record c { rows = rows }) whole grew (longer_none c.types.items) (longer_none c.rooms.items)

pub same_subs : (c : Codes) (rows : Rows) → IsWhole c → RowsGrew c.rows rows
    → (program_of (record c { rows = rows })).subs ≡ (program_of c).subs
same_subs c rows whole grew =
    subs_kept c (record c { rows = rows }) whole grew (longer_none c.types.items) (longer_none c.rooms.items)
