use Rattle.std.proofs.Common.{rules, ◌≡◌, suc, ◌-◌, unsigned_abs, arith}
use Rattle.std.proofs.lemmas.Int.{ints}
use Rattle.slot_places.proofs.Frees.{null_leaves, number_small, number_whole, number_leaves}
use Rattle.slot_places.proofs.releases.release_word.Goals as goal

pub returns-then-word-eq0-clause-released : goal.returns-then-word-eq0-clause-released
returns-then-word-eq0-clause-released g c =
    let none : unsigned_abs c.args.word ≡ 0 = search rules in
    null_leaves _ _ _ _ _ _ _ _ _ none

pub new-cell-requires : goal.new-cell-requires
new-cell-requires g c =
    let some : unsigned_abs c.args.word ≡ suc (c.unsigned_abs.result - 1) = omega (arith, ints) in
    number_small _ _ _ _ _ _ _ _ some c.requires

pub release_cell-requires : goal.release_cell-requires
release_cell-requires g c =
    let some : unsigned_abs c.args.word ≡ suc c.new-cell.result = omega (arith, ints) in
    number_whole _ _ _ _ _ _ _ _ some c.requires

pub returns-clause-released : goal.returns-clause-released
returns-clause-released g c =
    let some : unsigned_abs c.args.word ≡ suc c.new-cell.result = omega (arith, ints) in
    number_leaves _ _ _ _ _ _ _ _ _ _ _ _ some c.release_cell.ensures.released
