use Rattle.std.proofs.Common.{rules, ◌≡◌, List, ℕ, length}
use Rattle.std.proofs.lemmas.List.{nil_from_length}
use Rattle.run_results.specs.Results.{leaks_of}
use Rattle.slot_memory.specs.Memory.{slots}
use Rattle.slot_memory.specs.Spots.{spot_of}
use Rattle.slot_hand.proofs.Checks.{nothing_found}
use Rattle.slot_hand.proofs.hand.Hand.search_leaks.Goals as goal

pub returns-then-is_empty-clause-leaks : goal.returns-then-is_empty-clause-leaks
returns-then-is_empty-clause-leaks g c =
    let os : List ℕ = c.take_offsets.new.offsets.items in
    let long : length c.take_offsets.new.offsets.items ≡ 0 = search rules in
    λ ghosts stands whole.
    nothing_found c.args.table.now (slots c.args.memory.now ghosts) (spot_of c.args.spot) c.args.of c.args.pos os (leaks_of c.args.leaks.now.items)
    c.in_ok-take_offsets.ensures.offsets (nil_from_length os long) whole
