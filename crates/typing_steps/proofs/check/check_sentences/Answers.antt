use Rattle.std.proofs.Common.{map}
use Rattle.resolved_tree.specs.Nodes.{code_at}
use Rattle.typing_steps.proofs.Faults.{sentence_said, no_sentence}
use Rattle.typing_steps.proofs.check.check_sentences.Goals as goal

pub returns-in-Some : goal.returns-in-Some
returns-in-Some c =
    sentence_said c.args.checker.now.settled.now.known (map (code_at c.args.checker.now.rows.now) c.args.units.now) _ c.in-Some.fault _
    c.in_ok-fault.ensures c.in-Some.is c.sentence_refusal.ensures

pub returns-in-None : goal.returns-in-None
returns-in-None c =
    no_sentence c.args.checker.now.settled.now.known (map (code_at c.args.checker.now.rows.now) c.args.units.now) _ c.in_ok-fault.ensures c.in-None.is
