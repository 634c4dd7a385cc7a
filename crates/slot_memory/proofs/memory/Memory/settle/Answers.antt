use Rattle.std.proofs.Common.{◌≡◌, ◌+◌, ◌<◌, ◌≤◌, List, [], length, drop, refl, sym, subst, ap, ◌∙◌, arith}
use Rattle.std.proofs.lemmas.List.{drop_all}
use Rattle.run_codes.specs.Flat.{Spot}
use Rattle.slot_memory.specs.declared.spot.Move.{Move}
use Rattle.slot_memory.specs.Memory.{Kept, Shows, slots, beyond, single}
use Rattle.slot_memory.specs.Moves.{moved_spots}
use Rattle.slot_memory.specs.Spots.{spot_of}
use Rattle.slot_memory.proofs.Settled.{settled_given}
use Rattle.slot_memory.proofs.Settling.{Settling, settling_first, settling_there, settling_next, settling_end, moved_at, moved_long}
use Rattle.slot_memory.proofs.memory.Memory.settle.Goals as goal

pub moves-init : goal.moves-init
moves-init g c = record {
  settling = λ s stands t is. settling_first g.R.Store.Means c.args.self.now s t stands is;
  moves = refl;
  elsewhere = refl;
}

pub clear-requires : goal.clear-requires
clear-requires g c =
    let known = c.requires in
    let s = known.0 in
    let t = settled_given (slots c.args.self.now s) known.1.1 in
    let q : Spot = beyond (spot_of c.same-spot.result) c.index-moved.result.now.offset in
    let items : List Move = c.self-in-moves.inside.moves.items in
    let now : c.args.self.now.moves ≡ moved_spots items = sym c.moves.invariant.moves ∙ sym (ap (λ (m : Kept g.row.R.Denot). m.moves) c.self-in-moves.view_is) in
    let long : length (moved_spots c.self.inside.moves.items) ≡ length c.args.self.now.moves = ap (λ (m : Kept g.row.R.Denot). length m.moves) c.self.view_is in
    let lt : c.moves.i < length items =
    omega (arith, c.moves-test.true, c.len-i-end.ensures, moved_long c.self.inside.moves.items, long, ap length now, moved_long items) in
    let next = moved_at items c.moves.i c.index-moved.result.now c.same-spot.result (single s.moves) (sym known.1.0.moves ∙ now) lt c.index-moved.ensures c.same-spot.ensures in
    let P : List Spot → Type 0 = λ l. Settling g.R.Store.Means c.moves.self s t.0 l in
    let here = subst P next (c.moves.invariant.settling s known.1.0 t.0 t.1) in
    (here.ghosts, (here.stands, settling_there g.R.Store.Means c.moves.self s t.0 q (drop (c.moves.i + 1) (single s.moves)) here))

pub moves-preserved : goal.moves-preserved
moves-preserved g c = record {
  settling = λ s stands t is.
      let q : Spot = beyond (spot_of c.same-spot.result) c.index-moved.result.now.offset in
      let items : List Move = c.self-in-moves.inside.moves.items in
      let now : c.args.self.now.moves ≡ moved_spots items = sym c.moves.invariant.moves ∙ sym (ap (λ (m : Kept g.row.R.Denot). m.moves) c.self-in-moves.view_is) in
      let long : length (moved_spots c.self.inside.moves.items) ≡ length c.args.self.now.moves = ap (λ (m : Kept g.row.R.Denot). length m.moves) c.self.view_is in
      let lt : c.moves.i < length items =
      omega (arith, c.moves-test.true, c.len-i-end.ensures, moved_long c.self.inside.moves.items, long, ap length now, moved_long items) in
      let next = moved_at items c.moves.i c.index-moved.result.now c.same-spot.result (single s.moves) (sym stands.moves ∙ now) lt c.index-moved.ensures c.same-spot.ensures in
      let P : List Spot → Type 0 = λ l. Settling g.R.Store.Means c.moves.self s t l in
      let here = subst P next (c.moves.invariant.settling s stands t is) in
      let left = drop (c.moves.i + 1) (single s.moves) in
      settling_next g.R.Store.Means c.moves.self c.clear.new.self s t q left here
      (c.clear.ensures.cleared here.ghosts here.stands (settling_there g.R.Store.Means c.moves.self s t q left here));
  moves = c.clear.ensures.moves ∙ c.moves.invariant.moves;
  elsewhere = c.clear.ensures.elsewhere ∙ c.moves.invariant.elsewhere;
}

pub returns-clause-settled : goal.returns-clause-settled
returns-clause-settled g c = λ s stands t is.
    let n : List Move → Kept g.row.R.Denot = λ l. record {
      stack = c.self-2.inside.stack.items;
      base = c.self-2.inside.base;
      waits = c.self-2.inside.waits.items;
      taken = c.self-2.inside.taken;
      heap = c.self-2.inside.heap;
      moves = moved_spots l;
      input = c.self-2.inside.input.now;
      read = c.self-2.inside.read;
    } in
    let same : n c.clear-2.new.self.items ≡ record c.moves.self { moves = [] } =
    ap n c.clear-2.ensures.items ∙ ap (λ (m : Kept g.row.R.Denot). record m { moves = [] }) c.self-2.view_is in
    let long : length (moved_spots c.self.inside.moves.items) ≡ length c.args.self.now.moves = ap (λ (m : Kept g.row.R.Denot). length m.moves) c.self.view_is in
    let le : length (single s.moves) ≤ c.moves.i =
    omega (arith, c.moves-test.false, c.len-i-end.ensures, moved_long c.self.inside.moves.items, long, ap length stands.moves) in
    let P : List Spot → Type 0 = λ l. Settling g.R.Store.Means c.moves.self s t l in
    let here = subst P (drop_all c.moves.i (single s.moves) le) (c.moves.invariant.settling s stands t is) in
    let Q : Kept g.row.R.Denot → Type 0 = λ m. Shows g.R.Store.Means m t in
    subst Q (sym same) (settling_end g.R.Store.Means c.moves.self s t here)
