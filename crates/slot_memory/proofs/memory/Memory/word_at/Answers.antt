use Rattle.std.proofs.Common.{◌≡◌, false, [], ◌∷◌, sym, subst, rules}
use Rattle.std.proofs.lemmas.Int.{to_z-of_z}
use mir.Syntax.{w64}
use mir.Val.{SFits}
use Rattle.run_codes.specs.Flat.{InCell, is_broken}
use Rattle.handled_runs.specs.Slots.{held}
use Rattle.slot_memory.specs.Memory.{Kept, slots}
use Rattle.slot_memory.proofs.Seen.{one_holds, one_read}
use Rattle.slot_memory.proofs.memory.Memory.word_at.Goals as goal

pub word-requires : goal.word-requires
word-requires g c =
    let known = rw c.in-Cell.is at c.requires in
    let means : g.R.Store.Means c.self.inside.heap.store known.0.heap =
    (let P : Kept g.row.R.Denot → Type 0 = λ m. g.R.Store.Means m.heap.store known.0.heap in subst P (sym c.self.view_is) known.1.0.cells.means) in
    (known.0.heap, (means, one_holds c.args.self.now known.0 c.in-Cell.cell c.in-Cell.at c.args.kind known.1.1))

pub returns-in-Cell : goal.returns-in-Cell
returns-in-Cell g c = λ s stands.
    let fits : SFits w64 c.word.result = search rules in
    let means : g.R.Store.Means c.self.inside.heap.store s.heap =
    (let P : Kept g.row.R.Denot → Type 0 = λ m. g.R.Store.Means m.heap.store s.heap in subst P (sym c.self.view_is) stands.cells.means) in
    rw (c.in-Cell.is, to_z-of_z w64 c.word.result fits)
    (λ (is : is_broken (held (slots c.args.self.now s) (InCell c.in-Cell.cell c.in-Cell.at) (c.args.kind ∷ [])) ≡ false).
    one_read c.args.self.now s c.in-Cell.cell c.in-Cell.at c.args.kind c.word.result is (c.word.ensures s.heap means))
