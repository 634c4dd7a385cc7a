use Rattle.std.proofs.Common.{◌≡◌, ◌+◌, ◌≤◌, ◌<◌, ◌++◌, List, get_or, length, map, min, refl, sym, subst, ◌∙◌, arith, ℤ}
use Rattle.slot_memory.specs.Memory.{Changes}
use Rattle.slot_calls.specs.Calls.{AreWithin, passed_of}
use Rattle.slot_formals.specs.Formals.{placed, placed_one, returned}
use Rattle.slot_formals.specs.Leads.{Gives}
use Rattle.slot_formals.proofs.Placing.{same_or, row_within, row_gives, row_leads, returns_on, returns_all, placed_all}
use Rattle.slot_formals.proofs.Moving.{placed_first}
use Rattle.slot_formals.proofs.formals.pass_formals.Goals as goal

pub formals-init : goal.formals-init
formals-init g c =
    let start : c.args.base + 0 ≡ c.args.base = omega arith in
    record {
      leads = placed_first g.R.Store.Means c.args.memory.now c.args.table.now c.args.base (c.args.base + 0) c.args.formals.now c.args.passes.now c.args.hand.now start;
      returns = (refl, refl);
      hand = refl;
      elsewhere = refl;
    }

pub formals-preserved : goal.formals-preserved
formals-preserved g c =
    let end = c.min-i-end.ensures in
    let test = c.formals-test.true in
    let some_formal : c.formals.i < length c.args.formals.now = omega (arith, end, test) in
    let some_pass : c.formals.i < length c.args.passes.now = omega (arith, end, test) in
    record {
      leads =
          row_leads c.args.table.now c.args.base c.formals.at c.args.formals.now c.args.passes.now c.formals.i (get_or c.args.formals.now c.formals.i 0) c.index-passes-i.result c.args.hand.now
          some_formal (same_or c.args.formals.now c.formals.i (get_or c.args.formals.now c.formals.i 0) 0 some_formal) some_pass (sym c.index-passes-i.is) g.R.Store.Means c.args.memory.now c.formals.memory
          (placed c.args.table.now c.args.base c.args.formals.now (map (passed_of c.args.hand.now) c.args.passes.now)) c.formals.invariant.leads
          c.pass_formal.new.memory _ c.in_ok-at.ensures.offset
          (subst (λ (zs : List ℤ). Changes g.R.Store.Means c.formals.memory (placed_one c.args.table.now (c.args.base + c.formals.at) (passed_of zs c.index-passes-i.result)) c.pass_formal.new.memory)
          c.formals.invariant.hand c.in_ok-at.ensures.placed);
      returns =
          returns_on c.args.table.now c.args.base c.formals.at c.args.formals.now c.args.passes.now c.formals.i (get_or c.args.formals.now c.formals.i 0) c.index-passes-i.result c.args.hand.now
          some_formal (same_or c.args.formals.now c.formals.i (get_or c.args.formals.now c.formals.i 0) 0 some_formal) some_pass (sym c.index-passes-i.is) c.args.frames.now c.formals.frames c.pass_formal.new.frames _
          (c.args.frames.now.returns ++ returned c.args.table.now 0 c.args.formals.now c.args.passes.now) c.in_ok-at.ensures.offset c.formals.invariant.returns
          c.in_ok-at.ensures.returns;
      hand = c.in_ok-at.ensures.hand ∙ c.formals.invariant.hand;
      elsewhere = c.pass_formal.ensures.elsewhere ∙ c.formals.invariant.elsewhere;
    }

pub pass_formal-requires-clause-within : goal.pass_formal-requires-clause-within
pass_formal-requires-clause-within g c =
    let end = c.min-i-end.ensures in
    let test = c.formals-test.true in
    let below : c.formals.i < length c.args.passes.now = omega (arith, end, test) in
    let are : AreWithin (length c.formals.hand) c.args.passes.now = subst (λ (zs : List ℤ). AreWithin (length zs) c.args.passes.now) (sym c.formals.invariant.hand) c.requires.within in
    row_within (length c.formals.hand) c.args.passes.now c.formals.i c.index-passes-i.result are below (sym c.index-passes-i.is)

pub pass_formal-requires-clause-whole : goal.pass_formal-requires-clause-whole
pass_formal-requires-clause-whole g c =
    let end = c.min-i-end.ensures in
    let test = c.formals-test.true in
    let some_formal : c.formals.i < length c.args.formals.now = omega (arith, end, test) in
    let some_pass : c.formals.i < length c.args.passes.now = omega (arith, end, test) in
    subst (λ (zs : List ℤ). Gives g.R.Store.Means c.formals.memory (placed_one c.args.table.now (c.args.base + c.formals.at) (passed_of zs c.index-passes-i.result))) (sym c.formals.invariant.hand)
    (row_gives c.args.table.now c.args.base c.formals.at c.args.formals.now c.args.passes.now c.formals.i (get_or c.args.formals.now c.formals.i 0) c.index-passes-i.result c.args.hand.now
    some_formal (same_or c.args.formals.now c.formals.i (get_or c.args.formals.now c.formals.i 0) 0 some_formal) some_pass (sym c.index-passes-i.is) g.R.Store.Means c.args.memory.now c.formals.memory
    (placed c.args.table.now c.args.base c.args.formals.now (map (passed_of c.args.hand.now) c.args.passes.now)) c.formals.invariant.leads c.requires.whole)

pub returns-clause-placed : goal.returns-clause-placed
returns-clause-placed g c =
    let end = c.min-i-end.ensures in
    let test = c.formals-test.false in
    let all : min (length c.args.formals.now) (length c.args.passes.now) ≤ c.formals.i = omega (arith, end, test) in
    placed_all g.R.Store.Means c.args.memory.now c.formals.memory c.args.table.now c.args.base c.formals.at c.args.formals.now c.args.passes.now c.formals.i c.args.hand.now
    (placed c.args.table.now c.args.base c.args.formals.now (map (passed_of c.args.hand.now) c.args.passes.now)) all c.formals.invariant.leads

pub returns-clause-returns : goal.returns-clause-returns
returns-clause-returns g c =
    let end = c.min-i-end.ensures in
    let test = c.formals-test.false in
    let all : min (length c.args.formals.now) (length c.args.passes.now) ≤ c.formals.i = omega (arith, end, test) in
    returns_all c.args.table.now c.formals.at c.args.formals.now c.args.passes.now c.formals.i c.args.frames.now c.formals.frames
    (c.args.frames.now.returns ++ returned c.args.table.now 0 c.args.formals.now c.args.passes.now) all c.formals.invariant.returns
