use Rattle.std.proofs.Common.{rules, refl}
use Rattle.std.proofs.lemmas.Int.{to_z-of_z}
use mir.Syntax.{w64}
use mir.Val.{SFits}
use Rattle.code_rows.specs.Points.{some}
use Rattle.slot_held.proofs.Rights.{before_below}
use Rattle.slot_parts.proofs.Leads.{leads_by}
use Rattle.slot_tells.specs.Truths.{WaitsTruth}
use Rattle.slot_tells.proofs.Truths.{right_reads, right_goes, right_halts}
use Rattle.slot_tells.proofs.waits.step_right.Goals as goal

pub word-requires-clause-whole : goal.word-requires-clause-whole
word-requires-clause-whole g c = right_reads g.R.Store.Means c.args.codes.now c.args.table.now c.args.point c.args.k c.args.parts.now c.requires.at c.args.operand c.args.next c.requires.does

pub wait_truth-requires-clause-waits : goal.wait_truth-requires-clause-waits
wait_truth-requires-clause-waits g c =
    before_below c.args.parts.now.frames c.args.parts.now.memory.waits (some c.args.codes.now.types.items c.args.point.takes) c.args.k c.before-left.result c.requires.at.latest c.before-left.ensures
    c.requires.at.between.stacked

pub returns-in-Ok : goal.returns-in-Ok
returns-in-Ok g c =
    let fits : SFits w64 c.in-Ok.truth = search rules in
    let same = to_z-of_z w64 c.in-Ok.truth fits in
    leads_by g.R.Store.Means c.args.codes.now c.args.table.now c.args.point c.args.k c.args.parts.now c.requires.at c.wait_truth.result c.wait_truth.new.parts
    (WaitsTruth c.before-left.result c.in-Ok.truth c.args.next c.args.parts.now c.wait_truth.new.parts)
    (rw same at c.wait_truth.ensures.waits) c.wait_truth.ensures.memory
    (λ waits. right_goes g.R.Store.Means c.args.codes.now c.args.table.now c.args.point c.args.k c.args.parts.now c.requires.at c.args.operand c.args.next c.requires.does
    c.before-left.result c.in-Ok.truth c.wait_truth.new.parts c.before-left.ensures c.in-Ok.ensures waits)

pub returns-in-Err : goal.returns-in-Err
returns-in-Err g c =
    right_halts g.R.Store.Means c.args.codes.now c.args.table.now c.args.point c.args.k c.args.parts.now c.requires.at c.args.operand c.args.next c.requires.does
    c.in-Err.stop c.made-made.result c.args.parts.now c.in-Err.ensures c.made-made.ensures refl refl refl
