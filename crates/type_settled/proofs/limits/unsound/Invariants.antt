use Rattle.std.proofs.Common.{◌≡◌, ◌<◌, ◌||◌, ℕ, drop, length, get_or}
use Rattle.type_definitions.specs.declared.table.Made.{Made}
use Rattle.type_definitions.specs.Whole.{is_unsound}
use Rattle.type_settled.specs.Measures.{marked}
use Rattle.type_settled.proofs.limits.unsound.Given as goal

abbrev pub invariant-made : goal.invariant-made
invariant-made l =
    ((k : ℕ) (d : Made) → k < length l.made → (get_or l.made k d).number < length l.marks.items)
    × ((t : ℕ) → marked l.marks.items t || is_unsound (drop l.m-index l.made) t ≡ is_unsound l.made t)
