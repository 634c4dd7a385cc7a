use Rattle.std.proofs.Common.{◌≤◌, length, List, ℕ, refl, sym, ap, subst}
use Rattle.std.proofs.lemmas.Int.{to_z-of_z}
use mir.Syntax.{w32}
use Rattle.code_rows.specs.Points.{next_of, program_of}
use Rattle.slot_memory.specs.Memory.{Elsewhere, Kept}
use Rattle.slot_frames.specs.Frames.{word_at}
use Rattle.slot_parts.specs.Goes.{IsLed}
use Rattle.slot_parts.proofs.Sights.{taken_below, below_by}
use Rattle.slot_parts.proofs.Leads.{leads_by}
use Rattle.slot_tells.proofs.Inputs.{input_place, input_whole, input_within, input_goes, input_halts}
use Rattle.slot_tells.proofs.tells.step_input.Goals as goal

pub input-requires-clause-place : goal.input-requires-clause-place
input-requires-clause-place g c =
    input_place g.R.Store.Means c.args.codes.now c.args.table.now c.args.point c.args.k c.args.parts.now c.requires.at c.args.place c.args.low c.args.high c.args.next c.requires.does

pub input-requires-clause-read : goal.input-requires-clause-read
input-requires-clause-read g c = c.requires.at.between.read

pub input-requires-clause-whole : goal.input-requires-clause-whole
input-requires-clause-whole g c =
    rw (to_z-of_z w32 c.args.low c.ranges.low, to_z-of_z w32 c.args.high c.ranges.high)
    (input_whole g.R.Store.Means c.args.codes.now c.args.table.now c.args.point c.args.k c.args.parts.now c.requires.at c.args.place c.args.low c.args.high c.args.next c.requires.does)

pub read_to-requires : goal.read_to-requires
read_to-requires g c =
    let stored = rw (to_z-of_z w32 c.args.low c.ranges.low, to_z-of_z w32 c.args.high c.ranges.high) at c.in-Ok.ensures.stored in
    subst (λ (is : List ℕ). c.in-Ok.end ≤ length is) (sym (ap (λ (e : Elsewhere). e.input) c.input.ensures.elsewhere))
    (input_within g.R.Store.Means c.args.codes.now c.args.table.now c.args.point c.args.k c.args.parts.now c.requires.at c.args.place c.args.low c.args.high c.args.next c.requires.does
    c.input.new.memory c.in-Ok.end stored)

pub go-requires-clause-waits : goal.go-requires-clause-waits
go-requires-clause-waits g c =
    subst (λ (m : Kept _). word_at c.args.parts.now.frames.waits c.args.k (length m.waits) ≤ length m.waits) (sym c.read_to.ensures)
    (below_by c.args.parts.now.frames c.args.k c.args.parts.now.memory c.input.new.memory c.input.ensures.elsewhere
    (taken_below g.R.Store.Means c.args.codes.now c.args.table.now c.args.point c.args.k c.args.parts.now c.requires.at))

pub returns-in-Ok : goal.returns-in-Ok
returns-in-Ok g c =
    let stored = rw (to_z-of_z w32 c.args.low c.ranges.low, to_z-of_z w32 c.args.high c.ranges.high) at c.in-Ok.ensures.stored in
    leads_by g.R.Store.Means c.args.codes.now c.args.table.now c.args.point c.args.k c.args.parts.now c.requires.at c.go.result c.go.new.parts
    (IsLed c.args.table.now (program_of c.args.codes.now) c.args.k (next_of c.args.next) (record c.args.parts.now { memory = c.read_to.new.self }) c.go.new.parts)
    c.go.ensures.led c.go.ensures.memory
    (λ led. input_goes g.R.Store.Means c.args.codes.now c.args.table.now c.args.point c.args.k c.args.parts.now c.requires.at c.args.place c.args.low c.args.high c.args.next c.requires.does
    c.input.new.memory c.in-Ok.end stored c.input.ensures.elsewhere (record c.args.parts.now { memory = c.read_to.new.self }) c.go.new.parts c.read_to.ensures refl refl refl led)

pub returns-in-Err : goal.returns-in-Err
returns-in-Err g c =
    let stored = rw (to_z-of_z w32 c.args.low c.ranges.low, to_z-of_z w32 c.args.high c.ranges.high) at c.in-Err.ensures.stored in
    input_halts g.R.Store.Means c.args.codes.now c.args.table.now c.args.point c.args.k c.args.parts.now c.requires.at c.args.place c.args.low c.args.high c.args.next c.requires.does
    c.in-Err.stop c.made-made.result c.input.new.memory (record c.args.parts.now { memory = c.input.new.memory }) stored c.made-made.ensures refl refl refl
