use Rattle.std.proofs.Common.{◌≤◌, length, sym, ap, ◌∙◌, subst}
use Rattle.slot_frames.specs.Frames.{word_at}
use Rattle.slot_turns.proofs.Turned.{first_below}
use Rattle.slot_turns.proofs.takes.take.Goals as goal

pub take_from-requires : goal.take_from-requires
take_from-requires g c =
    subst (λ n. n ≤ length c.args.memory.now.waits) (sym (c.first_word-index.ensures ∙ ap (word_at c.args.frames.now.waits c.in_ok-k.k) c.waiting_words.ensures))
    (first_below c.args.frames.now c.args.memory.now.waits _ c.in_ok-k.k c.requires.stacked c.in_ok-k.ensures)
