use Rattle.std.proofs.Common.{◌≡◌, List, ℕ, subst, ◌∙◌}
use Rattle.run_values.specs.declared.value.Kind.{Kind}
use Rattle.machine.specs.Words.{access_offsets}
use Rattle.run_codes.specs.Flat.{Given, kinds}
use Rattle.handled_runs.specs.Changes.{moving}
use Rattle.slot_memory.specs.Memory.{Changes}
use Rattle.slot_memory.specs.Spots.{spot_of}
use Rattle.slot_hand.proofs.Checks.{on_ok}
use Rattle.slot_hand.proofs.hand.Hand.move_out.Goals as goal

pub returns-in-Some-clause-moved : goal.returns-in-Some-clause-moved
returns-in-Some-clause-moved g c =
    let P : List ℕ → Type 0 =
    λ os. Changes g.R.Store.Means c.args.memory.now (λ s. Given (moving s (spot_of c.args.spot) (kinds c.args.table.now c.args.of) os)) c.move_out.new.self in
    on_ok c.move_out.result ((ks : List Kind) → Changes g.R.Store.Means c.args.memory.now (λ s. Given (moving s (spot_of c.args.spot) ks c.in-Some.offsets.now)) c.move_out.new.self)
    (P (access_offsets c.args.table.now c.args.of)) (λ moved. subst P c.in-Some.ensures.offsets (moved (kinds c.args.table.now c.args.of))) c.move_out.ensures.moved

pub returns-clause-moved : goal.returns-clause-moved
returns-clause-moved g c =
    let at : c.deref.result.now ≡ access_offsets c.args.table.now c.args.of = c.deref.ensures.value ∙ c.in_ok-take_offsets.ensures.offsets in
    let P : List ℕ → Type 0 =
    λ os. Changes g.R.Store.Means c.args.memory.now (λ s. Given (moving s (spot_of c.args.spot) (kinds c.args.table.now c.args.of) os)) c.move_out-2.new.self in
    on_ok c.move_out-2.result ((ks : List Kind) → Changes g.R.Store.Means c.args.memory.now (λ s. Given (moving s (spot_of c.args.spot) ks c.deref.result.now)) c.move_out-2.new.self)
    (P (access_offsets c.args.table.now c.args.of)) (λ moved. subst P at (moved (kinds c.args.table.now c.args.of))) c.move_out-2.ensures.moved
