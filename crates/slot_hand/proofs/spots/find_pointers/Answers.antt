use Rattle.std.proofs.Common.{rules, ◌≡◌, ◌<◌, ◌++◌, ℕ, length, refl, arith, ◌∙◌, slice_index_or}
use Rattle.std.proofs.lemmas.Int.{to_z-of_z}
use mir.Syntax.{w64}
use mir.Val.{SFits}
use Rattle.run_results.specs.Results.{leaks_of}
use Rattle.handled_runs.specs.Leaks.{leak}
use Rattle.slot_memory.specs.Memory.{slots}
use Rattle.slot_memory.specs.Spots.{spot_of}
use Rattle.slot_hand.proofs.Pointers.{pointer_held, pointers_next, pointers_found}
use Rattle.slot_hand.proofs.spots.find_pointers.Goals as goal

pub access_at-word-requires : goal.access_at-word-requires
access_at-word-requires g c =
    let known = c.requires in
    let lt : c.offsets.i < length c.args.offsets.now = omega (arith, c.offsets-test.true) in
    rw c.same.ensures (
      known.0,
      (
        known.1.0,
        pointer_held (slots c.args.memory.now known.0) (spot_of c.args.spot) c.args.offsets.now c.offsets.i (slice_index_or c.args.offsets.now c.offsets.i 0) known.1.1 lt
            refl,
      ),
    )

pub offsets-preserved : goal.offsets-preserved
offsets-preserved g c = λ s stands ks zs are given.
    let o : ℕ = slice_index_or c.args.offsets.now c.offsets.i 0 in
    let w = c.access_at-word.result in
    let lt : c.offsets.i < length c.args.offsets.now = omega (arith, c.offsets-test.true) in
    let read = rw c.same.ensures at (c.access_at-word.ensures s stands) in
    let fits : SFits w64 w = search rules in
    let pushed : leaks_of c.push_leak.new.leaks.items ≡ leaks_of c.offsets.leaks.items ++ leak s.numbers c.args.pos w =
    rw (to_z-of_z w64 w fits) at (c.in_ok-push_leak.ensures.pushed s stands) in
    pointers_next (slots c.args.memory.now s) (spot_of c.args.spot) ks zs c.args.offsets.now c.offsets.i o c.args.pos w (leaks_of c.offsets.leaks.items)
    (leaks_of c.push_leak.new.leaks.items) are given lt refl read pushed
    ∙ c.offsets.invariant s stands ks zs are given

pub returns : goal.returns
returns g c = λ ks are s stands whole.
    pointers_found (slots c.args.memory.now s) (spot_of c.args.spot) ks c.args.pos c.args.offsets.now c.offsets.i (leaks_of c.args.leaks.now.items)
    (leaks_of c.offsets.leaks.items) (omega (arith, c.offsets-test.false)) whole (λ zs given. c.offsets.invariant s stands ks zs are given)
