use Rattle.std.proofs.Common.{rules, refl, pos}
use Rattle.slot_places.proofs.Framed.{one_leaves}
use Rattle.slot_places.proofs.assigns.place_words.Goals as goal

pub returns-then-is_pointer-clause-stored : goal.returns-then-is_pointer-clause-stored
returns-then-is_pointer-clause-stored g c =
    rw c.in-Local.is (one_leaves _ _ _ _ _ _ _ _ (pos 0) _ _ _ _ _ refl (search rules) (search rules) c.put_settled.ensures.stored)
