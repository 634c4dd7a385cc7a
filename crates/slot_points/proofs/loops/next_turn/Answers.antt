use Rattle.std.proofs.Common.{rules, w32, w64, to_z, of_z}
use Rattle.slot_points.proofs.Looping.{value_there, low_there, high_there, first_there, turn_there, turn_done}
use Rattle.slot_points.proofs.loops.next_turn.Goals as goal

pub local-value-requires : goal.local-value-requires
local-value-requires g c = value_there _ _ _ _ _ _ c.requires

pub local_at-low-requires : goal.local_at-low-requires
local_at-low-requires g c = low_there _ _ _ _ _ _ c.requires _ c.local-value.ensures

pub local_at-high-requires : goal.local_at-high-requires
local_at-high-requires g c = high_there _ _ _ _ _ _ c.requires _ c.local-value.ensures _ c.local_at-low.ensures

pub local_at-first-requires : goal.local_at-first-requires
local_at-first-requires g c = first_there _ _ _ _ _ _ c.requires _ c.local-value.ensures _ c.local_at-low.ensures _ c.local_at-high.ensures

pub put_turn-requires : goal.put_turn-requires
put_turn-requires g c = turn_there _ _ _ _ _ _ c.requires _ c.local-value.ensures _ c.local_at-low.ensures _ c.local_at-high.ensures _ c.local_at-first.ensures c.next_value-next.result (to_z w64 (of_z w64 c.local_at-low.result)) (to_z w64 (of_z w64 c.local_at-high.result)) (to_z w32 (of_z w32 c.args.without)) (search rules) (search rules) (search rules) (search rules)

pub returns-clause-put : goal.returns-clause-put
returns-clause-put g c = turn_done _ _ _ _ _ _ c.requires _ c.local-value.ensures _ c.local_at-low.ensures _ c.local_at-high.ensures _ c.local_at-first.ensures c.next_value-next.result (to_z w64 (of_z w64 c.local_at-low.result)) (to_z w64 (of_z w64 c.local_at-high.result)) (to_z w32 (of_z w32 c.args.without)) _ _ c.put_turn.ensures.put (search rules) (search rules) (search rules) (search rules)
