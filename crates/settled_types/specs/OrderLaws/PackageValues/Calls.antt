-- Code that declares objects with values that call no function.
use Rattle.std.specs.Prelude.{Bool, true, not, ◌&&◌}
use Rattle.machine.specs.typed_tree.Trees.{TypedCode, Declare, More}
use Rattle.machine.specs.flow_paths.Names.{has_call}

-- No initial value calls a function of the program.
unfoldable pub calls_nothing : TypedCode → Bool
calls_nothing (Declare p x v) = not (has_call v)
calls_nothing (More a rest) = calls_nothing a && calls_nothing rest
calls_nothing _ = true
