-- Where values are stored.
use Rattle.std.specs.Prelude.{ℕ, Bool, true, false, ◌&&◌, Option, Some, None, is_some, not, if◌then◌else◌}
use Rattle.spark_base.specs.declared.position.Pos.{Pos}
use Rattle.type_definitions.specs.Types.{Table, is_owning}
use Rattle.run_lowering.specs.declared.found.Base.{Base}
use Rattle.run_lowering.specs.declared.found.Base.TheVariants as base
use Rattle.run_lowering.specs.declared.found.Found.{Found}

abbrev pub is_frame : Base → Bool
is_frame base.Frame = true
is_frame _ = false

-- A whole object of the frame.
abbrev pub is_local : Found → Bool
is_local f = is_frame f.base && not (is_some f.index)

-- Places of owning types have leak checks.
abbrev pub checks_of : Table → ℕ → Pos → Option Pos
checks_of table of p = if is_owning table of then Some p else None
