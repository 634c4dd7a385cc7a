use Rattle.std.proofs.Common.{subst, sym, true, false}
use Rattle.call_effects.specs.Spreads.{AreWhole}
use Rattle.call_effects.proofs.Whole.{are_effects}
use Rattle.call_effects.proofs.lists.effects.Goals as goal

pub returns : goal.returns
returns c =
    let laid = c.args.laid.now in
    are_effects laid (record { read = c.from_vec.result; written = c.from_vec-2.result })
    (subst (AreWhole false laid) (sym c.from_vec.ensures) c.in_ok-read.ensures)
    (subst (AreWhole true laid) (sym c.from_vec-2.ensures) c.in_ok-written.ensures)
