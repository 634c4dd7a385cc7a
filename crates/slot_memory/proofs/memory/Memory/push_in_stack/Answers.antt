use Rattle.std.proofs.Common.{◌++◌, length, take, drop, sym, ap, ◌∙◌, arith}
use Rattle.run_codes.specs.Flat.{Given, and_then}
use Rattle.slot_memory.specs.Memory.{Kept, slots}
use Rattle.slot_memory.proofs.Stacks.{reads_out}
use Rattle.slot_memory.proofs.memory.Memory.push_in_stack.Goals as goal

pub push_range-requires-clause-room : goal.push_range-requires-clause-room
push_range-requires-clause-room g c =
    let known = c.requires in
    let r = reads_out (slots c.args.self.now known.0) c.args.index c.args.kinds.now known.1.1 in
    omega (arith, r.1, ap length c.as_slice.ensures.value, ap (λ (m : Kept g.row.R.Denot). length m.stack) c.self.view_is)

pub returns : goal.returns
returns g c = λ s stands is.
    let r = reads_out (slots c.args.self.now s) c.args.index c.args.kinds.now is in
    ap (λ x. and_then x (λ zs. Given (c.args.words.now.items ++ zs))) r.0
    ∙ ap (λ l. Given (c.args.words.now.items ++ take (length c.args.kinds.now) (drop c.args.index l))) (sym (c.as_slice.ensures.value ∙ ap (λ (m : Kept g.row.R.Denot). m.stack) c.self.view_is))
    ∙ ap (λ l. Given l) (sym c.in_ok-push_range.ensures.pushed)
