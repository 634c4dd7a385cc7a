use Rattle.std.proofs.Common.{rules, ◌≡◌, false}
use Rattle.run_codes.specs.Flat.{is_broken, operated}
use Rattle.slot_words.proofs.Operands.{binary_there}
use Rattle.slot_words.proofs.quick.leaves.Goals as goal

pub operate_quick-requires : goal.operate_quick-requires
operate_quick-requires g c =
    let h : is_broken (operated c.args.operator c.in_ok-left.left c.in_ok-right.right) ≡ false = binary_there _ _ _ _ _ _ _ c.requires.whole c.in_ok-left.ensures c.in_ok-right.ensures in
    search rules
