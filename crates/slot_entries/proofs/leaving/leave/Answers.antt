use Rattle.std.proofs.Common.{◌≡◌, rules}
use Rattle.slot_entries.proofs.Entries.{below_kept}
use Rattle.slot_entries.proofs.leaving.leave.Goals as goal

pub cut_waits-requires : goal.cut_waits-requires
cut_waits-requires g c =
    let kept : c.cut_frames.new.self.waits ≡ c.args.memory.now.waits = search rules in
    below_kept c.args.frames.now c.args.memory.now.waits c.cut_frames.new.self.waits c.frame-frame.result c.waiting_words.result c.first_word-first.result
    c.requires.stacked c.frame-frame.ensures c.waiting_words.ensures c.first_word-first.ensures kept
