use Rattle.std.proofs.Common.{map, ◌∙◌}
use Rattle.resolved_tree.specs.Nodes.{code_at}
use Rattle.typing_steps.proofs.Faults.{size_said, sentence_judged}
use Rattle.typing_steps.proofs.check.check_code.Goals as goal

pub returns-in-Some : goal.returns-in-Some
returns-in-Some c =
    size_said c.args.checker.now.settled.now.known (map (code_at c.args.checker.now.rows.now) c.args.units.now) c.as_slice.result.now _ c.in-Some.fault _
    (c.as_slice.ensures ∙ c.in_ok-made.ensures) c.in_ok-fault.ensures c.in-Some.is c.size_refusal.ensures

pub returns : goal.returns
returns c =
    sentence_judged c.args.checker.now.settled.now.known (map (code_at c.args.checker.now.rows.now) c.args.units.now) c.as_slice.result.now _ _
    (c.as_slice.ensures ∙ c.in_ok-made.ensures) c.in_ok-fault.ensures c.in-None.is c.check_sentences.ensures
