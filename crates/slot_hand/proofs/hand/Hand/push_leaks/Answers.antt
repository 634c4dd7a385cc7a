use Rattle.std.proofs.Common.{refl, sym, ◌∙◌}
use Rattle.slot_hand.proofs.Checks.{pointer_known, pointer_told}
use Rattle.slot_hand.proofs.Pointers.{pointers_known, pointers_told}
use Rattle.slot_hand.proofs.hand.Hand.push_leaks.Goals as goal

pub find_leak-requires : goal.find_leak-requires
find_leak-requires g c = pointer_known _ _ c.args.table.now _ c.args.of c.args.pos (sym c.is_pointer.ensures ∙ c.if-is_pointer.true) c.requires

pub returns-then-is_pointer-clause-leaks : goal.returns-then-is_pointer-clause-leaks
returns-then-is_pointer-clause-leaks g c =
    pointer_told _ _ c.args.table.now _ c.args.of c.args.pos c.find_leak.result _ _ (sym c.is_pointer.ensures ∙ c.if-is_pointer.true) c.find_leak.ensures

pub find_pointers-requires : goal.find_pointers-requires
find_pointers-requires g c =
    pointers_known _ _ c.args.table.now _ c.args.of c.args.pos c.in-Some.offsets.now c.in-Some.ensures.offsets (c.in-Some.ensures.pointers refl) c.requires

pub returns-in-Some-clause-leaks : goal.returns-in-Some-clause-leaks
returns-in-Some-clause-leaks g c =
    pointers_told _ _ c.args.table.now _ c.args.of c.args.pos c.in-Some.offsets.now c.find_pointers.result _ _ c.in-Some.ensures.offsets
    (c.in-Some.ensures.pointers refl) c.find_pointers.ensures
