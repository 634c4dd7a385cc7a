use Rattle.std.proofs.Common.{rules, refl, subst}
use Rattle.std.proofs.lemmas.Int.{to_z-of_z}
use mir.Syntax.{w64}
use mir.Val.{SFits}
use Rattle.slot_parts.proofs.Sights.{taken_below}
use Rattle.slot_parts.proofs.Leads.{leads_by}
use Rattle.slot_tells.specs.Truths.{WaitsTruth}
use Rattle.slot_tells.proofs.Truths.{left_reads, left_goes, left_halts}
use Rattle.slot_tells.proofs.waits.step_left.Goals as goal

pub word-requires-clause-whole : goal.word-requires-clause-whole
word-requires-clause-whole g c =
    left_reads g.R.Store.Means c.args.codes.now c.args.table.now c.args.point c.args.k c.args.parts.now c.requires.at c.args.operand c.args.or_else c.args.next c.args.other c.requires.does

pub wait_truth-requires-clause-waits : goal.wait_truth-requires-clause-waits
wait_truth-requires-clause-waits g c = taken_below g.R.Store.Means c.args.codes.now c.args.table.now c.args.point c.args.k c.args.parts.now c.requires.at

pub returns-in-Ok : goal.returns-in-Ok
returns-in-Ok g c =
    let fits : SFits w64 c.in-Ok.truth = search rules in
    let same = to_z-of_z w64 c.in-Ok.truth fits in
    leads_by g.R.Store.Means c.args.codes.now c.args.table.now c.args.point c.args.k c.args.parts.now c.requires.at c.wait_truth.result c.wait_truth.new.parts
    (WaitsTruth c.args.k c.in-Ok.truth c.decided.result c.args.parts.now c.wait_truth.new.parts)
    (rw same at c.wait_truth.ensures.waits) c.wait_truth.ensures.memory
    (λ waits. left_goes g.R.Store.Means c.args.codes.now c.args.table.now c.args.point c.args.k c.args.parts.now c.requires.at c.args.operand c.args.or_else c.args.next c.args.other c.requires.does
    c.in-Ok.truth c.wait_truth.new.parts c.in-Ok.ensures
    (subst (λ n. WaitsTruth c.args.k c.in-Ok.truth n c.args.parts.now c.wait_truth.new.parts) (rw same at c.decided.ensures) waits))

pub returns-in-Err : goal.returns-in-Err
returns-in-Err g c =
    left_halts g.R.Store.Means c.args.codes.now c.args.table.now c.args.point c.args.k c.args.parts.now c.requires.at c.args.operand c.args.or_else c.args.next c.args.other c.requires.does
    c.in-Err.stop c.made-made.result c.args.parts.now c.in-Err.ensures c.made-made.ensures refl refl refl
