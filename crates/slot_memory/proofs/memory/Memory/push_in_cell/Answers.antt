use Rattle.std.proofs.Common.{◌<◌, sym, subst, arith}
use Rattle.run_codes.specs.Flat.{most_offsets}
use Rattle.slot_memory.specs.Memory.{Kept}
use Rattle.slot_memory.proofs.Seen.{reads_in, have_read, offsets_in, appends_in}
use Rattle.slot_memory.proofs.memory.Memory.push_in_cell.Goals as goal

pub push_words-requires-clause-offsets : goal.push_words-requires-clause-offsets
push_words-requires-clause-offsets g c =
    let known = c.requires in
    let r = reads_in c.args.self.now known.0 c.args.cell c.args.at c.args.kinds.now known.1.1 in
    let fits : c.args.at < most_offsets = omega (arith, c.ranges.at) in
    offsets_in g.R.Store.Means c.args.self.now known.0 c.args.cell c.args.at c.args.kinds.now fits known.1.0 (have_read c.args.self.now known.0 c.args.cell c.args.at c.args.kinds.now r)

pub returns : goal.returns
returns g c = λ s stands is.
    let means : g.R.Store.Means c.self.inside.heap.store s.heap =
    (let P : Kept g.row.R.Denot → Type 0 = λ m. g.R.Store.Means m.heap.store s.heap in subst P (sym c.self.view_is) stands.cells.means) in
    appends_in c.args.self.now s c.args.cell c.args.at c.args.kinds.now c.args.words.now.items _ is (c.in_ok-push_words.ensures.pushed s.heap means)
