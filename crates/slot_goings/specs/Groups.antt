-- Which points are of which group.
use Rattle.code_rows.specs.declared.point.Does.{Does}
use Rattle.code_rows.specs.declared.point.Does.TheVariants as does
use Rattle.slot_goings.specs.declared.groups.Group.{Group}
use Rattle.slot_goings.specs.declared.groups.Group.TheVariants as group

abbrev pub group_of : Does → Group
group_of (does.Go n) = group.Words
group_of (does.Put at v low high n) = group.Words
group_of (does.PutPointer at v n) = group.Words
group_of (does.Store p v low high k n) = group.Words
group_of (does.Test c holds fails) = group.Words
group_of (does.Choose c r) = group.Words
group_of (does.Start at counter low high first last n) = group.Words
group_of (does.Next at counter reversed without turn leave) = group.Words
group_of (does.Assign p v of checks n) = group.Values
group_of (does.Release p of at n) = group.Values
group_of (does.EndPointer at n) = group.Values
group_of (does.EndScope at of n) = group.Values
group_of _ = group.Others
