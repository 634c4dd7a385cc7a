use Rattle.std.proofs.Common.{refl}
use Rattle.code_rows.specs.declared.stop.Stop.TheVariants as stop
use Rattle.code_rows.specs.declared.stop.Exception.TheVariants as exception
use Rattle.slot_tells.proofs.slot_parts.Leads.{halts_by}
use Rattle.slot_steps.proofs.Falls.{fall_halts}
use Rattle.slot_steps.proofs.calls.step_fall.Goals as goal

pub returns : goal.returns
returns g c =
    halts_by g.R.Store.Means c.args.codes.now c.args.table.now c.args.point c.args.k c.args.parts.now c.requires.at
    (record { stop = stop.Raises exception.ProgramError; made = c.made.result }) c.args.parts.now (λ other. refl) refl refl
    (λ other h stands fine. fall_halts g.R.Store.Means c.args.codes.now c.args.table.now c.args.point c.args.k c.args.parts.now c.requires.at c.requires.does h stands
    c.made.result c.made.ensures)
