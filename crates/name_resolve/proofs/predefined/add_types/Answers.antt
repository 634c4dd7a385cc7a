use Rattle.std.proofs.Common.{[], take}
use Rattle.name_events.specs.Predefined.{predefined_entries}
use Rattle.name_resolve.proofs.predefined.add_types.Goals as goal

pub returns : goal.returns
returns c s =
    let s1 = c.in_ok-add.ensures [] [] s in
    let s2 = c.in_ok-add-2.ensures (take 1 predefined_entries) (take 1 predefined_entries) s1 in
    let s3 = c.in_ok-add-3.ensures (take 2 predefined_entries) (take 2 predefined_entries) s2 in
    let s4 = c.in_ok-add-4.ensures (take 3 predefined_entries) (take 3 predefined_entries) s3 in
    let s5 = c.in_ok-add-5.ensures (take 4 predefined_entries) (take 4 predefined_entries) s4 in
    s5
