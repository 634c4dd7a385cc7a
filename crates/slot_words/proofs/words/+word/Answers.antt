use Rattle.std.proofs.Common.{rules, ◌≡◌, ◌+◌, false, slice_get, unsigned_abs}
use Rattle.run_codes.specs.Flat.{found, is_broken, operated, operated_alone, scaled, offset}
use Rattle.code_rows.specs.Stops.{shown}
use Rattle.slot_words.proofs.Leaves.{number_gives, number_as}
use Rattle.slot_words.proofs.Indexed.{local_there, global_there}
use Rattle.slot_words.proofs.Operands.{binary_there, binary_gives, sum_there}
use Rattle.slot_words.proofs.Operators.{unary_there, element_there, element_gives}
use Rattle.slot_words.proofs.Behind.{via_as, via_names, via_at_as}
use Rattle.slot_words.proofs.Indexes.{local_reads_of, global_reads_of, names_index_of, no_names_of}
use Rattle.slot_words.proofs.words.+word.Goals as goal

pub local_at-local_at-requires : goal.local_at-local_at-requires
local_at-local_at-requires g t c =
    let h : is_broken (found (slice_get c.args.memory.now.stack (c.args.memory.now.base + c.args.at + unsigned_abs c.in_ok-index.index))) ≡ false = local_there _ _ _ _ _ c.requires.whole c.in_ok-index.ensures in
    search rules

pub global_at-global_at-requires : goal.global_at-global_at-requires
global_at-global_at-requires g t c =
    let h : is_broken (found (slice_get c.args.memory.now.stack (c.args.at + unsigned_abs c.in_ok-index.index))) ≡ false = global_there _ _ _ _ _ c.requires.whole c.in_ok-index.ensures in
    search rules

pub via-behind-requires : goal.via-behind-requires
via-behind-requires g t c = via_as _ _ _ _ _ _ _ _ c.requires.whole c.in_ok-pointer.ensures (search rules) (search rules)

pub via_at-names-requires : goal.via_at-names-requires
via_at-names-requires g t c κs within = (search rules, (search rules, (c.requires.there, via_names _ _ _ _ _ _ c.requires.whole)))

pub via_at-behind-requires : goal.via_at-behind-requires
via_at-behind-requires g t c = via_at_as _ _ _ _ _ _ _ _ _ _ _ c.requires.whole c.in_ok-_named.ensures c.in_ok-index.ensures c.in_ok-pointer.ensures (search rules) (search rules)

pub binary-operated-requires : goal.binary-operated-requires
binary-operated-requires g t c =
    let h : is_broken (operated c.args.operator c.in_ok-left.left c.in_ok-right.right) ≡ false = binary_there _ _ _ _ _ _ _ c.requires.whole c.in_ok-left.ensures c.in_ok-right.ensures in
    search rules

pub binary-returns : goal.binary-returns
binary-returns g t c =
    let h : operated c.args.operator c.in_ok-left.left c.in_ok-right.right ≡ shown c.operated.result = search rules in
    binary_gives _ _ _ _ _ _ _ _ c.in_ok-left.ensures c.in_ok-right.ensures h

pub with_number-operated-requires : goal.with_number-operated-requires
with_number-operated-requires g t c =
    let h : is_broken (operated c.args.operator c.in_ok-left.left c.args.right) ≡ false
    = binary_there _ _ _ _ _ _ c.args.right c.requires.whole c.in_ok-left.ensures (number_gives _ _ c.args.right) in
    search rules

pub with_number-returns : goal.with_number-returns
with_number-returns g t c =
    let h : operated c.args.operator c.in_ok-left.left c.args.right ≡ shown c.operated.result = search rules in
    binary_gives _ _ _ _ _ _ c.args.right _ c.in_ok-left.ensures (number_gives _ _ c.args.right) h

pub unary-operated_alone-requires : goal.unary-operated_alone-requires
unary-operated_alone-requires g t c =
    let h : is_broken (operated_alone c.args.operator c.in_ok-operand.operand) ≡ false = unary_there _ _ _ _ _ c.requires.whole c.in_ok-operand.ensures in
    search rules

pub element-scaled-requires : goal.element-scaled-requires
element-scaled-requires g t c =
    let h : is_broken (scaled c.args.low c.args.high c.args.size c.in_ok-index.index) ≡ false = element_there _ _ _ _ _ _ _ c.requires.whole c.in_ok-index.ensures in
    search rules

pub element-returns : goal.element-returns
element-returns g t c =
    let h : scaled c.args.low c.args.high c.args.size c.in_ok-index.index ≡ shown c.scaled.result = search rules in
    element_gives _ _ _ _ _ _ _ _ c.in_ok-index.ensures h

pub sum-plus-requires : goal.sum-plus-requires
sum-plus-requires g t c =
    let h : is_broken (offset (unsigned_abs c.in_ok-left.left + unsigned_abs c.in_ok-right.right)) ≡ false = sum_there _ _ _ _ _ _ c.requires.whole c.in_ok-left.ensures c.in_ok-right.ensures in
    search rules

pub word-returns-in-Number : goal.word-returns-in-Number
word-returns-in-Number g t c = rw c.in-Number.ensures.code (number_as _ _ _ _ (search rules))

pub operand-returns-in-Number : goal.operand-returns-in-Number
operand-returns-in-Number g t c = rw c.in-Number.ensures.code (number_as _ _ _ _ (search rules))

pub names-word-requires : goal.names-word-requires
names-word-requires g t c κs within =
    (search rules, (search rules, (search rules, local_reads_of _ _ _ _ _ c.in-LocalAt.ensures.code c.requires.whole)))

pub names-word-requires-in-GlobalAt : goal.names-word-requires-in-GlobalAt
names-word-requires-in-GlobalAt g t c κs within =
    (search rules, (search rules, (search rules, global_reads_of _ _ _ _ _ c.in-GlobalAt.ensures.code c.requires.whole)))

pub names-word-requires-in-ViaAt : goal.names-word-requires-in-ViaAt
names-word-requires-in-ViaAt g t c κs within =
    (search rules, (search rules, (search rules, names_index_of _ _ _ _ _ _ _ _ c.in-ViaAt.ensures.code c.requires.whole c.in_ok-names-in-ViaAt.ensures)))

pub names-returns-in_default : goal.names-returns-in_default
names-returns-in_default g t c =
    no_names_of _ _ _ _ c.node.result _ c.node.ensures.code c.in_default.not-LocalAt c.in_default.not-GlobalAt c.in_default.not-Via c.in_default.not-ViaAt (search rules)
