-- The points of a subprogram as control paths have them: after the acts of a call come those on the
-- package objects that its callee reads or writes (docs/FLOW.md, "Effects").
use Rattle.std.specs.Prelude.{ℕ, List, [], ◌++◌, map, drop}
use Rattle.spark_base.specs.Lists.{Has}
use Rattle.spark_base.specs.declared.position.Pos.{Pos}
use Rattle.place_names.specs.declared.act.Act.{Act}
use Rattle.place_names.specs.declared.act.Placed.{Placed}
use Rattle.place_names.specs.declared.fact.Fact.{Fact}
use Rattle.place_names.specs.Facts.{adds}
use Rattle.typed_tree.specs.declared.object.Object.{Object}
use Rattle.flow_paths.specs.declared.instr.Instr.{Instr}
use Rattle.flow_paths.specs.declared.instr.Instr.TheVariants as instr
use Rattle.flow_paths.specs.declared.point.Point.{Point}
use Rattle.flow_paths.specs.declared.report.Effects.{Effects}
use Rattle.flow_paths.specs.Acts.{placed}
use Rattle.flow_paths.specs.Effects.{Ascends, read_by, written_by, globals_from}
use Rattle.flow_paths.specs.Paths.{PathPoint, acts_at}

-- The acts on package objects of an instruction, in the order of the objects. Only a call has some.
abbrev pub called_by : List Object → Effects → Pos → Instr → List Placed
called_by objects effects p (instr.Call sub actuals result) =
    map (placed p) (globals_from 1 (drop 1 objects) (read_by effects sub) (written_by effects sub))
called_by objects effects p _ = []

abbrev pub called_point : List Object → Effects → Point → PathPoint
called_point objects effects p = record { acts = p.acts ++ called_by objects effects p.pos p.instr; next = p.next }

abbrev pub called_points : List Object → Effects → List Point → List PathPoint
called_points objects effects points = map (called_point objects effects) points

-- What each subprogram reads and writes is in ascending order.
pub record AreAscending (effects : Effects) : Type 0 where
  pub read : (p : ℕ) → Ascends (read_by effects p)
  pub written : (p : ℕ) → Ascends (written_by effects p)

-- A list has each fact that an act of some points adds.
abbrev pub AreListed : List Fact → List PathPoint → Type 0
AreListed facts points = (p : ℕ) (a : Act) (f : Fact) → Has (acts_at points p) a → Has (adds a) f → Has facts f
