use Rattle.std.proofs.Common.{rules, ◌≡◌, pos}
use Rattle.std.proofs.lemmas.Int.{to_z-of_z}
use mir.Syntax.{w64}
use mir.Val.{SFits}
use Rattle.slot_hand.proofs.Checks.{pointer_known}
use Rattle.slot_places.proofs.Framed.{word_finds, null_finds}
use Rattle.slot_places.proofs.pointers.check_word.Goals as goal

pub word_at-word-requires : goal.word_at-word-requires
word_at-word-requires g c = pointer_known _ _ _ _ _ c.args.pos c.requires.pointer c.requires.whole

pub returns-then-word-eq0 : goal.returns-then-word-eq0
returns-then-word-eq0 g c =
    let null : c.word_at-word.result ≡ pos 0 = search rules in
    null_finds _ _ _ _ _ _ _ _ c.requires.pointer c.word_at-word.ensures null

pub returns : goal.returns
returns g c =
    let fits : SFits w64 c.word_at-word.result = search rules in
    let pushed = rw (to_z-of_z w64 c.word_at-word.result fits) at c.push_leak.ensures.pushed in
    word_finds _ _ _ _ _ _ _ _ _ _ c.requires.pointer c.word_at-word.ensures pushed c.push_leak.ensures.memory
