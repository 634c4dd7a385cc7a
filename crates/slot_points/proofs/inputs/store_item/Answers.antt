use Rattle.std.proofs.Common.{rules, refl, ◌≡◌, true, false}
use Rattle.std.proofs.lemmas.Int.{to_z-of_z}
use mir.Syntax.{w32, w64}
use mir.Val.{SFits}
use Rattle.run_codes.specs.Flat.{is_between}
use Rattle.slot_memory.specs.Spots.{spot_of}
use Rattle.slot_points.proofs.Items.{missing_stops, bad_stops, number_stops, number_known, number_done}
use Rattle.slot_points.proofs.inputs.store_item.Goals as goal

pub returns-in-Missing-clause-stored : goal.returns-in-Missing-clause-stored
returns-in-Missing-clause-stored g c = missing_stops _ _ _ _ _ _ _ c.in-Missing.is refl

pub returns-in-Bad-clause-stored : goal.returns-in-Bad-clause-stored
returns-in-Bad-clause-stored g c = bad_stops _ _ _ _ _ _ _ c.in-Bad.is refl

pub returns-then-not-is_between-clause-stored : goal.returns-then-not-is_between-clause-stored
returns-then-not-is_between-clause-stored g c =
    let h : is_between c.args.low c.args.high c.in-Number.value ≡ false = search rules in
    number_stops _ _ _ _ _ _ _ _ c.in-Number.is _ h refl

pub put_at-requires : goal.put_at-requires
put_at-requires g c =
    let h : is_between c.args.low c.args.high c.in-Number.value ≡ true = search rules in
    let short : SFits w32 c.in-Number.value = search rules in
    let long : SFits w64 c.in-Number.value = search rules in
    rw (to_z-of_z w32 c.in-Number.value short, to_z-of_z w64 c.in-Number.value long)
    (number_known g.R.Store.Means c.args.memory.now c.args.low c.args.high c.args.item (spot_of c.args.spot) c.in-Number.value c.in-Number.end c.in-Number.is h c.requires)

pub returns-else-not-is_between-clause-stored : goal.returns-else-not-is_between-clause-stored
returns-else-not-is_between-clause-stored g c =
    let h : is_between c.args.low c.args.high c.in-Number.value ≡ true = search rules in
    let short : SFits w32 c.in-Number.value = search rules in
    let long : SFits w64 c.in-Number.value = search rules in
    let put = rw (to_z-of_z w32 c.in-Number.value short, to_z-of_z w64 c.in-Number.value long) at c.put_at.ensures.stored in
    number_done g.R.Store.Means c.args.memory.now c.args.low c.args.high c.args.item (spot_of c.args.spot) c.in-Number.value c.in-Number.end c.in-Number.is
    c.put_at.new.self c.in-Number.end h put refl
