use Rattle.std.proofs.Common.{◌≡◌, ◌-◌, ap, sym, subst, ◌∙◌, arith, rules, unsigned_abs}
use Rattle.std.proofs.lemmas.Int.{to_z-of_z}
use mir.Syntax.{w64}
use mir.Val.{SFits, of_z}
use Rattle.slot_memory.specs.Memory.{Kept}
use Rattle.slot_memory.proofs.Seen.{abs_zero, seen_behind, read_behind}
use Rattle.slot_memory.proofs.memory.Memory.behind.Goals as goal

pub new-cell-requires : goal.new-cell-requires
new-cell-requires g c =
    let known = c.requires in
    let some : unsigned_abs c.args.pointer ≡ 0 → ⊥ = λ z. c.if-pointer-eq0.false (ap (of_z w64) (abs_zero c.args.pointer z)) in
    let value : c.unsigned_abs.result ≡ unsigned_abs c.args.pointer = c.unsigned_abs.ensures.value ∙ ap unsigned_abs (to_z-of_z w64 c.args.pointer c.ranges.pointer) in
    omega (arith, value, (seen_behind g.R.Store.Means c.args.self.now known.0 c.args.pointer c.args.at c.args.kind known.1.0 some known.1.1).small)

pub overflow_cast-at : goal.overflow_cast-at
overflow_cast-at g c =
    let known = c.requires in
    let some : unsigned_abs c.args.pointer ≡ 0 → ⊥ = λ z. c.if-pointer-eq0.false (ap (of_z w64) (abs_zero c.args.pointer z)) in
    omega (arith, (seen_behind g.R.Store.Means c.args.self.now known.0 c.args.pointer c.args.at c.args.kind known.1.0 some known.1.1).offset)

pub returns : goal.returns
returns g c = λ s stands is.
    let some : unsigned_abs c.args.pointer ≡ 0 → ⊥ = λ z. c.if-pointer-eq0.false (ap (of_z w64) (abs_zero c.args.pointer z)) in
    let value : c.unsigned_abs.result ≡ unsigned_abs c.args.pointer = c.unsigned_abs.ensures.value ∙ ap unsigned_abs (to_z-of_z w64 c.args.pointer c.ranges.pointer) in
    let fits : SFits w64 c.word.result = search rules in
    let means : g.R.Store.Means c.self.inside.heap.store s.heap =
    (let P : Kept g.row.R.Denot → Type 0 = λ m. g.R.Store.Means m.heap.store s.heap in subst P (sym c.self.view_is) stands.cells.means) in
    rw (to_z-of_z w64 c.word.result fits)
    (read_behind g.R.Store.Means c.args.self.now s c.args.pointer c.args.at c.args.kind c.word.result c.new-cell.result (c.new-cell.ensures ∙ ap (λ n. n - 1) value) stands some is
    (c.word.ensures s.heap means))
