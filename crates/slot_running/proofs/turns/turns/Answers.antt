use Rattle.std.proofs.Common.{◌≡◌, ◌<◌, length, refl, sym, subst, ◌∙◌, arith, Some, None}
use Rattle.std.specs.Prelude.{slice_get}
use Rattle.code_rows.specs.Points.{point_of, program_of}
use Rattle.slot_frames.specs.declared.rows.Frame.{Frame}
use Rattle.slot_steps.specs.slot_parts.Stages.{IsAt}
use Rattle.slot_running.specs.Points.{IsPointTurn}
use Rattle.slot_running.proofs.Points.{known_at, on_turn, halt_gives, halt_turn}
use Rattle.slot_running.proofs.Turned.{point_here, takes_here, at_point, turn_is}
use Rattle.slot_running.proofs.Made.{none_made, can_now, one_more, last_made}
use Rattle.slot_running.proofs.turns.turns.Goals as goal

pub steps-init : goal.steps-init
steps-init g c =
    (none_made g.R.Store.Means c.args.codes.now c.args.table.now c.args.limit c.args.parts.now c.requires.can, c.requires.kept, refl, omega arith)

pub point_at-point-requires-clause-there : goal.point_at-point-requires-clause-there
point_at-point-requires-clause-there g c =
    subst (λ (f : Frame). f.next < length c.args.codes.now.points.items) (sym c.frame.ensures)
    (point_here g.R.Store.Means c.args.codes.now c.args.table.now c.steps.parts
    (can_now g.R.Store.Means c.args.codes.now c.args.table.now c.args.limit c.args.parts.now c.requires.can c.steps.made c.steps.parts c.steps-test.true c.steps.invariant.0))

pub take-requires-clause-range : goal.take-requires-clause-range
take-requires-clause-range g c =
    let can = can_now g.R.Store.Means c.args.codes.now c.args.table.now c.args.limit c.args.parts.now c.requires.can c.steps.made c.steps.parts c.steps-test.true c.steps.invariant.0 in
    let at : slice_get (program_of c.args.codes.now).points c.steps.parts.frames.frame.next ≡ Some (point_of c.args.codes.now c.point_at-point.result.now) =
    subst (λ (f : Frame). slice_get (program_of c.args.codes.now).points f.next ≡ Some (point_of c.args.codes.now c.point_at-point.result.now)) c.frame.ensures c.point_at-point.ensures.point in
    takes_here g.R.Store.Means c.args.codes.now c.args.table.now c.steps.parts can c.requires.whole c.steps.invariant.1.1 c.point_at-point.result.now at c.point_at-point.ensures.there

pub take-requires-clause-stacked : goal.take-requires-clause-stacked
take-requires-clause-stacked g c =
    (can_now g.R.Store.Means c.args.codes.now c.args.table.now c.args.limit c.args.parts.now c.requires.can c.steps.made c.steps.parts c.steps-test.true c.steps.invariant.0).stands.between.stacked

pub free_point-requires-clause-at : goal.free_point-requires-clause-at
free_point-requires-clause-at g c =
    let can = can_now g.R.Store.Means c.args.codes.now c.args.table.now c.args.limit c.args.parts.now c.requires.can c.steps.made c.steps.parts c.steps-test.true c.steps.invariant.0 in
    let at : slice_get (program_of c.args.codes.now).points c.steps.parts.frames.frame.next ≡ Some (point_of c.args.codes.now c.point_at-point.result.now) =
    subst (λ (f : Frame). slice_get (program_of c.args.codes.now).points f.next ≡ Some (point_of c.args.codes.now c.point_at-point.result.now)) c.frame.ensures c.point_at-point.ensures.point in
    at_point g.R.Store.Means c.args.codes.now c.args.table.now c.steps.parts can c.requires.whole c.steps.invariant.1.1 c.point_at-point.result.now at c.point_at-point.ensures.there
    c.in-Some.k c.in-Some.ensures.latest c.take.new.memory c.in-Some.ensures.taken

pub steps-preserved-in-Goes : goal.steps-preserved-in-Goes
steps-preserved-in-Goes g c =
    let can = can_now g.R.Store.Means c.args.codes.now c.args.table.now c.args.limit c.args.parts.now c.requires.can c.steps.made c.steps.parts c.steps-test.true c.steps.invariant.0 in
    let at : slice_get (program_of c.args.codes.now).points c.steps.parts.frames.frame.next ≡ Some (point_of c.args.codes.now c.point_at-point.result.now) =
    subst (λ (f : Frame). slice_get (program_of c.args.codes.now).points f.next ≡ Some (point_of c.args.codes.now c.point_at-point.result.now)) c.frame.ensures c.point_at-point.ensures.point in
    let t =
    turn_is g.R.Store.Means c.args.codes.now c.args.table.now c.steps.parts can c.requires.whole c.steps.invariant.1.1 c.point_at-point.result.now at c.point_at-point.ensures.there
    c.in-Some.k c.in-Some.ensures.latest c.take.new.memory
    c.free_point.new.parts None c.in-Some.ensures.taken (c.in-Goes.ensures.goes refl) in
    let below = c.steps-test.true in (
      one_more g.R.Store.Means c.args.codes.now c.args.table.now c.args.limit c.args.parts.now c.requires.can c.steps.made c.steps.parts c.steps-test.true c.steps.invariant.0 None c.free_point.new.parts t,
      t.kept,
      t.lent ∙ c.steps.invariant.2,
      omega (arith, below),
    )

pub step_values-requires-clause-at : goal.step_values-requires-clause-at
step_values-requires-clause-at g c =
    let can = can_now g.R.Store.Means c.args.codes.now c.args.table.now c.args.limit c.args.parts.now c.requires.can c.steps.made c.steps.parts c.steps-test.true c.steps.invariant.0 in
    let at : slice_get (program_of c.args.codes.now).points c.steps.parts.frames.frame.next ≡ Some (point_of c.args.codes.now c.point_at-point.result.now) =
    subst (λ (f : Frame). slice_get (program_of c.args.codes.now).points f.next ≡ Some (point_of c.args.codes.now c.point_at-point.result.now)) c.frame.ensures c.point_at-point.ensures.point in
    subst (λ q. IsAt g.R.Store.Means c.args.codes.now c.args.table.now c.point_at-point.result.now c.in-Some.k q) (sym (c.in-Values.ensures.values refl).1)
    (at_point g.R.Store.Means c.args.codes.now c.args.table.now c.steps.parts can c.requires.whole c.steps.invariant.1.1 c.point_at-point.result.now at c.point_at-point.ensures.there
    c.in-Some.k c.in-Some.ensures.latest c.take.new.memory c.in-Some.ensures.taken)

pub step_values-requires-clause-group : goal.step_values-requires-clause-group
step_values-requires-clause-group g c = (c.in-Values.ensures.values refl).0.1

pub freed_with-freed-requires : goal.freed_with-freed-requires
freed_with-freed-requires g c =
    let can = can_now g.R.Store.Means c.args.codes.now c.args.table.now c.args.limit c.args.parts.now c.requires.can c.steps.made c.steps.parts c.steps-test.true c.steps.invariant.0 in
    let at : slice_get (program_of c.args.codes.now).points c.steps.parts.frames.frame.next ≡ Some (point_of c.args.codes.now c.point_at-point.result.now) =
    subst (λ (f : Frame). slice_get (program_of c.args.codes.now).points f.next ≡ Some (point_of c.args.codes.now c.point_at-point.result.now)) c.frame.ensures c.point_at-point.ensures.point in
    let here : IsAt g.R.Store.Means c.args.codes.now c.args.table.now c.point_at-point.result.now c.in-Some.k c.free_point.new.parts =
    subst (λ q. IsAt g.R.Store.Means c.args.codes.now c.args.table.now c.point_at-point.result.now c.in-Some.k q) (sym (c.in-Values.ensures.values refl).1)
    (at_point g.R.Store.Means c.args.codes.now c.args.table.now c.steps.parts can c.requires.whole c.steps.invariant.1.1 c.point_at-point.result.now at c.point_at-point.ensures.there
    c.in-Some.k c.in-Some.ensures.latest c.take.new.memory c.in-Some.ensures.taken) in
    known_at g.R.Store.Means c.args.codes.now c.args.table.now c.point_at-point.result.now c.in-Some.k c.free_point.new.parts c.free_point.new.parts here

pub halted-requires : goal.halted-requires
halted-requires g c =
    let can = can_now g.R.Store.Means c.args.codes.now c.args.table.now c.args.limit c.args.parts.now c.requires.can c.steps.made c.steps.parts c.steps-test.true c.steps.invariant.0 in
    let at : slice_get (program_of c.args.codes.now).points c.steps.parts.frames.frame.next ≡ Some (point_of c.args.codes.now c.point_at-point.result.now) =
    subst (λ (f : Frame). slice_get (program_of c.args.codes.now).points f.next ≡ Some (point_of c.args.codes.now c.point_at-point.result.now)) c.frame.ensures c.point_at-point.ensures.point in
    let here : IsAt g.R.Store.Means c.args.codes.now c.args.table.now c.point_at-point.result.now c.in-Some.k c.free_point.new.parts =
    subst (λ q. IsAt g.R.Store.Means c.args.codes.now c.args.table.now c.point_at-point.result.now c.in-Some.k q) (sym (c.in-Values.ensures.values refl).1)
    (at_point g.R.Store.Means c.args.codes.now c.args.table.now c.steps.parts can c.requires.whole c.steps.invariant.1.1 c.point_at-point.result.now at c.point_at-point.ensures.there
    c.in-Some.k c.in-Some.ensures.latest c.take.new.memory c.in-Some.ensures.taken) in
    halt_gives g.R.Store.Means c.args.codes.now c.args.table.now c.point_at-point.result.now c.in-Some.k c.free_point.new.parts c.step_values.new.parts here c.in-Err.halt c.made-cells.result c.in-Err.ensures c.made-cells.ensures

pub returns-in-Err : goal.returns-in-Err
returns-in-Err g c =
    let can = can_now g.R.Store.Means c.args.codes.now c.args.table.now c.args.limit c.args.parts.now c.requires.can c.steps.made c.steps.parts c.steps-test.true c.steps.invariant.0 in
    let at : slice_get (program_of c.args.codes.now).points c.steps.parts.frames.frame.next ≡ Some (point_of c.args.codes.now c.point_at-point.result.now) =
    subst (λ (f : Frame). slice_get (program_of c.args.codes.now).points f.next ≡ Some (point_of c.args.codes.now c.point_at-point.result.now)) c.frame.ensures c.point_at-point.ensures.point in
    let here : IsAt g.R.Store.Means c.args.codes.now c.args.table.now c.point_at-point.result.now c.in-Some.k c.free_point.new.parts =
    subst (λ q. IsAt g.R.Store.Means c.args.codes.now c.args.table.now c.point_at-point.result.now c.in-Some.k q) (sym (c.in-Values.ensures.values refl).1)
    (at_point g.R.Store.Means c.args.codes.now c.args.table.now c.steps.parts can c.requires.whole c.steps.invariant.1.1 c.point_at-point.result.now at c.point_at-point.ensures.there
    c.in-Some.k c.in-Some.ensures.latest c.take.new.memory c.in-Some.ensures.taken) in
    let t =
    turn_is g.R.Store.Means c.args.codes.now c.args.table.now c.steps.parts can c.requires.whole c.steps.invariant.1.1 c.point_at-point.result.now at c.point_at-point.ensures.there
    c.in-Some.k c.in-Some.ensures.latest c.take.new.memory
    c.halted.new.parts (Some c.in_ok-over-in-Err.over) c.in-Some.ensures.taken
    (subst (λ q. IsPointTurn g.R.Store.Means c.args.codes.now c.args.table.now c.point_at-point.result.now (Some c.in_ok-over-in-Err.over) q c.halted.new.parts) (c.in-Values.ensures.values refl).1
    (halt_turn g.R.Store.Means c.args.codes.now c.args.table.now c.point_at-point.result.now c.in-Some.k c.free_point.new.parts c.step_values.new.parts here c.in-Err.halt c.made-cells.result c.freed_with-freed.result c.in_ok-over-in-Err.over
    c.halted.new.parts c.in-Err.ensures c.made-cells.ensures c.freed_with-freed.ensures c.in_ok-over-in-Err.ensures)) in
    last_made g.R.Store.Means c.args.codes.now c.args.table.now c.args.limit c.args.parts.now c.requires.can c.steps.made c.steps.parts c.steps-test.true c.steps.invariant.0 (Some c.in_ok-over-in-Err.over) c.halted.new.parts c.steps.invariant.2 t

pub returns-then-not-is_empty : goal.returns-then-not-is_empty
returns-then-not-is_empty g c =
    let can = can_now g.R.Store.Means c.args.codes.now c.args.table.now c.args.limit c.args.parts.now c.requires.can c.steps.made c.steps.parts c.steps-test.true c.steps.invariant.0 in
    let at : slice_get (program_of c.args.codes.now).points c.steps.parts.frames.frame.next ≡ Some (point_of c.args.codes.now c.point_at-point.result.now) =
    subst (λ (f : Frame). slice_get (program_of c.args.codes.now).points f.next ≡ Some (point_of c.args.codes.now c.point_at-point.result.now)) c.frame.ensures c.point_at-point.ensures.point in
    let here : IsAt g.R.Store.Means c.args.codes.now c.args.table.now c.point_at-point.result.now c.in-Some.k c.free_point.new.parts =
    subst (λ q. IsAt g.R.Store.Means c.args.codes.now c.args.table.now c.point_at-point.result.now c.in-Some.k q) (sym (c.in-Values.ensures.values refl).1)
    (at_point g.R.Store.Means c.args.codes.now c.args.table.now c.steps.parts can c.requires.whole c.steps.invariant.1.1 c.point_at-point.result.now at c.point_at-point.ensures.there
    c.in-Some.k c.in-Some.ensures.latest c.take.new.memory c.in-Some.ensures.taken) in
    let t =
    turn_is g.R.Store.Means c.args.codes.now c.args.table.now c.steps.parts can c.requires.whole c.steps.invariant.1.1 c.point_at-point.result.now at c.point_at-point.ensures.there
    c.in-Some.k c.in-Some.ensures.latest c.take.new.memory
    c.step_values.new.parts None c.in-Some.ensures.taken
    (subst (λ q. IsPointTurn g.R.Store.Means c.args.codes.now c.args.table.now c.point_at-point.result.now None q c.step_values.new.parts) (c.in-Values.ensures.values refl).1
    (on_turn g.R.Store.Means c.args.codes.now c.args.table.now c.point_at-point.result.now c.in-Some.k c.free_point.new.parts c.step_values.new.parts here c.in-Ok.ensures)) in
    last_made g.R.Store.Means c.args.codes.now c.args.table.now c.args.limit c.args.parts.now c.requires.can c.steps.made c.steps.parts c.steps-test.true c.steps.invariant.0 None c.step_values.new.parts c.steps.invariant.2 t

pub steps-preserved : goal.steps-preserved
steps-preserved g c =
    let can = can_now g.R.Store.Means c.args.codes.now c.args.table.now c.args.limit c.args.parts.now c.requires.can c.steps.made c.steps.parts c.steps-test.true c.steps.invariant.0 in
    let at : slice_get (program_of c.args.codes.now).points c.steps.parts.frames.frame.next ≡ Some (point_of c.args.codes.now c.point_at-point.result.now) =
    subst (λ (f : Frame). slice_get (program_of c.args.codes.now).points f.next ≡ Some (point_of c.args.codes.now c.point_at-point.result.now)) c.frame.ensures c.point_at-point.ensures.point in
    let here : IsAt g.R.Store.Means c.args.codes.now c.args.table.now c.point_at-point.result.now c.in-Some.k c.free_point.new.parts =
    subst (λ q. IsAt g.R.Store.Means c.args.codes.now c.args.table.now c.point_at-point.result.now c.in-Some.k q) (sym (c.in-Values.ensures.values refl).1)
    (at_point g.R.Store.Means c.args.codes.now c.args.table.now c.steps.parts can c.requires.whole c.steps.invariant.1.1 c.point_at-point.result.now at c.point_at-point.ensures.there
    c.in-Some.k c.in-Some.ensures.latest c.take.new.memory c.in-Some.ensures.taken) in
    let t =
    turn_is g.R.Store.Means c.args.codes.now c.args.table.now c.steps.parts can c.requires.whole c.steps.invariant.1.1 c.point_at-point.result.now at c.point_at-point.ensures.there
    c.in-Some.k c.in-Some.ensures.latest c.take.new.memory
    c.step_values.new.parts None c.in-Some.ensures.taken
    (subst (λ q. IsPointTurn g.R.Store.Means c.args.codes.now c.args.table.now c.point_at-point.result.now None q c.step_values.new.parts) (c.in-Values.ensures.values refl).1
    (on_turn g.R.Store.Means c.args.codes.now c.args.table.now c.point_at-point.result.now c.in-Some.k c.free_point.new.parts c.step_values.new.parts here c.in-Ok.ensures)) in
    let below = c.steps-test.true in (
      one_more g.R.Store.Means c.args.codes.now c.args.table.now c.args.limit c.args.parts.now c.requires.can c.steps.made c.steps.parts c.steps-test.true c.steps.invariant.0 None c.step_values.new.parts t,
      t.kept,
      t.lent ∙ c.steps.invariant.2,
      omega (arith, below),
    )

pub turn_point-requires : goal.turn_point-requires
turn_point-requires g c =
    let can = can_now g.R.Store.Means c.args.codes.now c.args.table.now c.args.limit c.args.parts.now c.requires.can c.steps.made c.steps.parts c.steps-test.true c.steps.invariant.0 in
    let at : slice_get (program_of c.args.codes.now).points c.steps.parts.frames.frame.next ≡ Some (point_of c.args.codes.now c.point_at-point.result.now) =
    subst (λ (f : Frame). slice_get (program_of c.args.codes.now).points f.next ≡ Some (point_of c.args.codes.now c.point_at-point.result.now)) c.frame.ensures c.point_at-point.ensures.point in
    subst (λ q. IsAt g.R.Store.Means c.args.codes.now c.args.table.now c.point_at-point.result.now c.in-Some.k q) (sym (c.in-Stays.ensures.stays refl))
    (at_point g.R.Store.Means c.args.codes.now c.args.table.now c.steps.parts can c.requires.whole c.steps.invariant.1.1 c.point_at-point.result.now at c.point_at-point.ensures.there
    c.in-Some.k c.in-Some.ensures.latest c.take.new.memory c.in-Some.ensures.taken)

pub returns-in-Stays : goal.returns-in-Stays
returns-in-Stays g c =
    let can = can_now g.R.Store.Means c.args.codes.now c.args.table.now c.args.limit c.args.parts.now c.requires.can c.steps.made c.steps.parts c.steps-test.true c.steps.invariant.0 in
    let at : slice_get (program_of c.args.codes.now).points c.steps.parts.frames.frame.next ≡ Some (point_of c.args.codes.now c.point_at-point.result.now) =
    subst (λ (f : Frame). slice_get (program_of c.args.codes.now).points f.next ≡ Some (point_of c.args.codes.now c.point_at-point.result.now)) c.frame.ensures c.point_at-point.ensures.point in
    let t =
    turn_is g.R.Store.Means c.args.codes.now c.args.table.now c.steps.parts can c.requires.whole c.steps.invariant.1.1 c.point_at-point.result.now at c.point_at-point.ensures.there
    c.in-Some.k c.in-Some.ensures.latest c.take.new.memory
    c.turn_point.new.parts c.in_ok-over-in-Stays.over c.in-Some.ensures.taken
    (subst (λ q. IsPointTurn g.R.Store.Means c.args.codes.now c.args.table.now c.point_at-point.result.now c.in_ok-over-in-Stays.over q c.turn_point.new.parts)
    (c.in-Stays.ensures.stays refl) c.in_ok-over-in-Stays.ensures) in
    last_made g.R.Store.Means c.args.codes.now c.args.table.now c.args.limit c.args.parts.now c.requires.can c.steps.made c.steps.parts c.steps-test.true c.steps.invariant.0 c.in_ok-over-in-Stays.over c.turn_point.new.parts c.steps.invariant.2 t
