use Rattle.std.proofs.Common.{◌+◌, length, refl, sym, ap, subst, ◌∙◌, arith}
use Rattle.slot_memory.specs.Cells.{Cells, Keep}
use Rattle.slot_memory.proofs.Given.{left_below}
use Rattle.slot_memory.proofs.Giving.{first_keep, small_live, can_free, given_step, kept_step, last_keep}
use Rattle.slot_memory.proofs.heap.Heap.give_up.Goals as goal
use Rattle.slot_memory.proofs.heap.Heap.give_up.Goals.{then-number_at-made, else-number_at-made}

pub handles-init : goal.handles-init
handles-init g c = record {
  keep = λ heap numbers keep live. first_keep g.R.Store.Means c.args.made heap numbers c.args.self.now keep;
  made = refl;
  lent = refl;
}

pub new-requires : goal.new-requires
new-requires g c =
    let known = c.requires in
    let now : Keep g.R.Store.Means c.handles.self (record known.heap { cells = left_below c.args.made known.numbers c.handles.i known.heap.cells }) known.numbers =
    c.handles.invariant.keep known.heap known.numbers known.keep known.live in
    small_live g.R.Store.Means c.args.made known.heap known.numbers c.args.self.now c.handles.i known.keep known.live
    (omega (arith, c.if-number_at-made.true, c.number_at.ensures, now.numbered c.handles.i))

pub free-requires : goal.free-requires
free-requires g c =
    let known = c.requires in
    let now : Keep g.R.Store.Means c.handles.self (record known.heap { cells = left_below c.args.made known.numbers c.handles.i known.heap.cells }) known.numbers =
    c.handles.invariant.keep known.heap known.numbers known.keep known.live in
    can_free g.R.Store.Means c.args.made known.heap known.numbers c.handles.self c.handles.i c.new.result c.new.ensures now known.live
    (omega (arith, c.if-number_at-made.true, c.number_at.ensures, now.numbered c.handles.i))

pub handles-preserved : goal.handles-preserved
handles-preserved g c = elim c.if-number_at-made.branch [
  | then-number_at-made w ↦ record {
    keep = λ heap numbers keep live.
        let now : Keep g.R.Store.Means c.handles.self (record heap { cells = left_below c.args.made numbers c.handles.i heap.cells }) numbers = c.handles.invariant.keep heap numbers keep live in
        subst (λ (k : Cells g.row.R.Denot). Keep g.R.Store.Means k (record heap { cells = left_below c.args.made numbers (c.handles.i + 1) heap.cells }) numbers) (sym w.self-is)
        (given_step g.R.Store.Means c.args.made heap numbers c.handles.self w.free.new.self c.handles.i w.new.result w.new.ensures keep.once now live
        (omega (arith, w.if-number_at-made.true, c.number_at.ensures, now.numbered c.handles.i)) w.free.ensures.freed);
    made = ap (λ (k : Cells g.row.R.Denot). k.made) w.self-is ∙ (w.free.ensures.freed.made ∙ c.handles.invariant.made);
    lent = ap (λ (k : Cells g.row.R.Denot). k.lent) w.self-is ∙ (w.free.ensures.lent ∙ c.handles.invariant.lent);
  }
  | else-number_at-made w ↦ record {
    keep = λ heap numbers keep live.
        let now : Keep g.R.Store.Means c.handles.self (record heap { cells = left_below c.args.made numbers c.handles.i heap.cells }) numbers = c.handles.invariant.keep heap numbers keep live in
        subst (λ (k : Cells g.row.R.Denot). Keep g.R.Store.Means k (record heap { cells = left_below c.args.made numbers (c.handles.i + 1) heap.cells }) numbers) (sym w.self-is)
        (kept_step g.R.Store.Means c.args.made heap numbers c.handles.self c.handles.i now (omega (arith, w.if-number_at-made.false, c.number_at.ensures, now.numbered c.handles.i)));
    made = ap (λ (k : Cells g.row.R.Denot). k.made) w.self-is ∙ c.handles.invariant.made;
    lent = ap (λ (k : Cells g.row.R.Denot). k.lent) w.self-is ∙ c.handles.invariant.lent;
  }
]

pub returns : goal.returns
returns g c = record {
  keep = λ heap numbers keep live.
      last_keep g.R.Store.Means c.args.made heap numbers c.args.self.now c.handles.self c.handles.i keep
      (omega (arith, c.handles-test.false, c.len-handles.ensures, ap (λ (h : Cells g.row.R.Denot). length h.numbers) c.self.view_is))
      (c.handles.invariant.keep heap numbers keep live);
  made = c.handles.invariant.made;
  lent = c.handles.invariant.lent;
}
