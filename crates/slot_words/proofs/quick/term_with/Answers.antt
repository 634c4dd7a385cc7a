use Rattle.std.proofs.Common.{rules, ◌≡◌, false, IfSome}
use Rattle.run_codes.specs.Flat.{Given, is_broken, operated}
use Rattle.slot_words.proofs.Leaves.{number_gives}
use Rattle.slot_words.proofs.Operands.{binary_there, binary_some}
use Rattle.slot_words.proofs.quick.term_with.Goals as goal

pub operate-requires : goal.operate-requires
operate-requires g c =
    let h : is_broken (operated c.args.operator c.in_ok-left.left c.args.right) ≡ false
    = binary_there _ _ _ _ _ _ c.args.right c.requires.whole c.in_ok-left.ensures (number_gives _ _ c.args.right) in
    search rules

pub returns : goal.returns
returns g c =
    let h : IfSome c.operate.result (λ w. operated c.args.operator c.in_ok-left.left c.args.right ≡ Given w) = search rules in
    binary_some _ _ _ _ _ _ c.args.right _ c.in_ok-left.ensures (number_gives _ _ c.args.right) h
