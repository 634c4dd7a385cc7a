use Rattle.std.proofs.Common.{refl, sym, subst, Ok, Err}
use Rattle.type_definitions.specs.Types.{Table}
use Rattle.code_rows.specs.Points.{next_of, program_of, texts_of}
use Rattle.slot_points.specs.Changing.{Whole, Added}
use Rattle.slot_points.specs.Steps.{text_in, written}
use Rattle.slot_parts.specs.Goes.{IsLed}
use Rattle.slot_parts.proofs.Sights.{sound_at, taken_below}
use Rattle.slot_parts.proofs.Leads.{leads_by}
use Rattle.slot_tells.proofs.Told.{output_range, output_whole, output_goes, output_halts}
use Rattle.slot_tells.proofs.tells.step_output.Goals as goal

pub output-requires-clause-sound : goal.output-requires-clause-sound
output-requires-clause-sound g c = sound_at g.R.Store.Means c.args.codes.now c.args.table.now c.args.point c.args.k c.args.parts.now c.requires.at

pub output-requires-clause-range : goal.output-requires-clause-range
output-requires-clause-range g c = output_range g.R.Store.Means c.args.codes.now c.args.table.now c.args.point c.args.k c.args.parts.now c.requires.at c.args.texts c.args.line c.args.next c.requires.does

pub output-requires-clause-whole : goal.output-requires-clause-whole
output-requires-clause-whole g c =
    let P : Table → Type 0 = λ t. Whole g.R.Store.Means c.args.parts.now.memory (text_in t (texts_of c.args.codes.now.rows c.args.texts)) in
    subst P (sym c.table.ensures)
    (output_whole g.R.Store.Means c.args.codes.now c.args.table.now c.args.point c.args.k c.args.parts.now c.requires.at c.args.texts c.args.line c.args.next c.requires.does)

pub go-requires-clause-waits : goal.go-requires-clause-waits
go-requires-clause-waits g c = taken_below g.R.Store.Means c.args.codes.now c.args.table.now c.args.point c.args.k c.args.parts.now c.requires.at

pub returns-in-Ok : goal.returns-in-Ok
returns-in-Ok g c =
    let P : Table → Type 0 =
    λ t. Added g.R.Store.Means c.args.parts.now.memory (written t (texts_of c.args.codes.now.rows c.args.texts) c.args.line) (Ok c.in-Ok.field-0)
    c.args.parts.now.output.items c.output.new.out.items in
    leads_by g.R.Store.Means c.args.codes.now c.args.table.now c.args.point c.args.k c.args.parts.now c.requires.at c.go.result c.go.new.parts
    (IsLed c.args.table.now (program_of c.args.codes.now) c.args.k (next_of c.args.next) (record c.args.parts.now { output = c.output.new.out }) c.go.new.parts)
    c.go.ensures.led c.go.ensures.memory
    (λ led. output_goes g.R.Store.Means c.args.codes.now c.args.table.now c.args.point c.args.k c.args.parts.now c.requires.at c.args.texts c.args.line c.args.next c.requires.does
    (record c.args.parts.now { output = c.output.new.out }) c.go.new.parts refl refl refl led c.in-Ok.field-0 (subst P c.table.ensures c.in-Ok.ensures.written))

pub returns-in-Err : goal.returns-in-Err
returns-in-Err g c =
    let P : Table → Type 0 =
    λ t. Added {U = Unit {0}} g.R.Store.Means c.args.parts.now.memory (written t (texts_of c.args.codes.now.rows c.args.texts) c.args.line) (Err c.in-Err.stop)
    c.args.parts.now.output.items c.output.new.out.items in
    output_halts g.R.Store.Means c.args.codes.now c.args.table.now c.args.point c.args.k c.args.parts.now c.requires.at c.args.texts c.args.line c.args.next c.requires.does c.in-Err.stop c.made-made.result
    (record c.args.parts.now { output = c.output.new.out }) (subst P c.table.ensures c.in-Err.ensures.written) c.made-made.ensures refl c.in-Err.ensures.unchanged refl
