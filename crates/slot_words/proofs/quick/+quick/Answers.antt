use Rattle.std.proofs.Common.{rules, ◌≡◌, ◌+◌, false, slice_get, unsigned_abs, IfSome}
use Rattle.run_codes.specs.Flat.{Given, found, is_broken, operated, scaled}
use Rattle.slot_words.proofs.Leaves.{number_gives}
use Rattle.slot_words.proofs.Indexed.{local_there}
use Rattle.slot_words.proofs.Operands.{binary_there, binary_some}
use Rattle.slot_words.proofs.Operators.{element_there, element_some}
use Rattle.slot_words.proofs.quick.+quick.Goals as goal

pub binary-operate-requires : goal.binary-operate-requires
binary-operate-requires g t c =
    let h : is_broken (operated c.args.operator c.in_ok-left.left c.in_ok-right.right) ≡ false = binary_there _ _ _ _ _ _ _ c.requires.whole c.in_ok-left.ensures c.in_ok-right.ensures in
    search rules

pub with_number-operate-requires : goal.with_number-operate-requires
with_number-operate-requires g t c =
    let h : is_broken (operated c.args.operator c.in_ok-left.left c.args.right) ≡ false
    = binary_there _ _ _ _ _ _ c.args.right c.requires.whole c.in_ok-left.ensures (number_gives _ _ c.args.right) in
    search rules

pub with_number-returns : goal.with_number-returns
with_number-returns g t c =
    let h : IfSome c.operate.result (λ w. operated c.args.operator c.in_ok-left.left c.args.right ≡ Given w) = search rules in
    binary_some _ _ _ _ _ _ c.args.right _ c.in_ok-left.ensures (number_gives _ _ c.args.right) h

pub element-scale-requires : goal.element-scale-requires
element-scale-requires g t c =
    let h : is_broken (scaled c.args.low c.args.high c.args.size c.in_ok-index.index) ≡ false = element_there _ _ _ _ _ _ _ c.requires.whole c.in_ok-index.ensures in
    search rules

pub element-returns : goal.element-returns
element-returns g t c =
    let h : IfSome c.scale.result (λ w. scaled c.args.low c.args.high c.args.size c.in_ok-index.index ≡ Given w) = search rules in
    element_some _ _ _ _ _ _ _ _ c.in_ok-index.ensures h

pub local_at-local_at-requires : goal.local_at-local_at-requires
local_at-local_at-requires g t c =
    let h : is_broken (found (slice_get c.args.memory.now.stack (c.args.memory.now.base + c.args.at + unsigned_abs c.in_ok-index.index))) ≡ false = local_there _ _ _ _ _ c.requires.whole c.in_ok-index.ensures in
    search rules
