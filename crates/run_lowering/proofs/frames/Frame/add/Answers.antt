use Rattle.std.proofs.Common.{◌≡◌, ◌<◌, ◌+◌, ◌∷◌, ◌++◌, [], length, refl, sym, ◌∙◌, arith}
use Rattle.std.proofs.lemmas.Grind.{common_steps}
use Rattle.program_typing.specs.Typings.{typing}
use Rattle.run_lowering.proofs.Rooms.{next_frame}
use Rattle.run_lowering.proofs.frames.Frame.add.Goals as goal

pub returns-clause-frame : goal.returns-clause-frame
returns-clause-frame c =
    let within : c.args.kept.object < length c.args.self.now.offsets.items = grind (arith, common_steps) in
    let kept : c.push.new.self.items ≡ c.args.self.now.kept.items ++ c.args.kept ∷ [] = grind (arith, common_steps) in
    let more : c.in_ok-end.end ≡ c.args.self.now.words + c.in_ok-words.words = grind (arith, common_steps) in
    next_frame (typing c.args.typing.now) c.args.self.now _ c.args.kept c.in_ok-words.words c.requires (sym c.has_room.ensures ∙ c.if-has_room.false)
    within c.in_ok-words.ensures kept refl more
