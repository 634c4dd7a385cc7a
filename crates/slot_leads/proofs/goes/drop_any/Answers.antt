use Rattle.std.proofs.Common.{ap, ◌∙◌}
use Rattle.slot_leads.proofs.Idle.{none_goes, all_wait}
use Rattle.slot_leads.proofs.goes.drop_any.Goals as goal

pub returns-then-k-waiting-clause-memory : goal.returns-then-k-waiting-clause-memory
returns-then-k-waiting-clause-memory g c =
    c.take_from.ensures ∙ ap (λ n. record c.args.memory.now { taken = n }) c.waiting_words.ensures
    ∙ none_goes c.args.frames.now c.args.k c.args.memory.now (c.if-k-waiting.true ∙ c.waiting.ensures)

pub returns-then-k-waiting-clause-frames : goal.returns-then-k-waiting-clause-frames
returns-then-k-waiting-clause-frames g c = all_wait c.args.frames.now c.args.k (c.if-k-waiting.true ∙ c.waiting.ensures)
