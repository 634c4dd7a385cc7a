use Rattle.std.proofs.Common.{◌≡◌, ap, ◌∙◌, arith, unsigned_abs}
use Rattle.std.proofs.lemmas.Int.{to_z-of_z}
use mir.Syntax.{w64}
use mir.Val.{of_z}
use Rattle.slot_memory.proofs.Seen.{abs_zero, spot_small}
use Rattle.slot_memory.proofs.memory.Memory.spot_behind.Goals as goal

pub new-cell-requires : goal.new-cell-requires
new-cell-requires g c =
    let known = c.requires in
    let some : unsigned_abs c.args.pointer ≡ 0 → ⊥ = λ z. c.if-pointer-eq0.false (ap (of_z w64) (abs_zero c.args.pointer z)) in
    let value : c.unsigned_abs.result ≡ unsigned_abs c.args.pointer = c.unsigned_abs.ensures.value ∙ ap unsigned_abs (to_z-of_z w64 c.args.pointer c.ranges.pointer) in
    omega (arith, value, spot_small g.R.Store.Means c.args.self.now known.0 c.args.pointer c.args.at known.1.0 some known.1.1)
