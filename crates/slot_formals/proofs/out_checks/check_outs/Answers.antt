use Rattle.std.proofs.Common.{◌≤◌, ◌<◌, ◌∷◌, [], List, length, sym, subst, ◌∙◌, arith, ℤ}
use Rattle.run_results.specs.Results.{leaks_of}
use Rattle.handled_steps.specs.Steps.{out_leaks}
use Rattle.slot_calls.specs.Calls.{passed_of}
use Rattle.slot_formals.specs.Formals.{Tells}
use Rattle.slot_formals.specs.Leads.{Gives}
use Rattle.slot_formals.proofs.Moving.{tells_next, tells_all, one_gives}
use Rattle.slot_formals.proofs.out_checks.check_outs.Goals as goal

pub check_out-requires : goal.check_out-requires
check_out-requires g c =
    let test = c.passes-test.true in
    let below : c.passes.i < length c.args.passes.now = omega (arith, test) in
    subst (λ (zs : List ℤ). Gives g.R.Store.Means c.args.memory.now (λ s. out_leaks c.args.table.now s (passed_of zs c.index-passes-i.result ∷ []))) (sym c.passes.invariant.hand)
    (one_gives g.R.Store.Means c.args.memory.now c.args.table.now c.args.hand.now c.args.passes.now (leaks_of c.args.leaks.now.items) c.passes.i c.index-passes-i.result below (sym c.index-passes-i.is)
    (leaks_of c.passes.leaks.items) c.passes.invariant.tells c.requires)

pub passes-preserved : goal.passes-preserved
passes-preserved g c =
    let test = c.passes-test.true in
    let below : c.passes.i < length c.args.passes.now = omega (arith, test) in
    record {
      tells =
          tells_next g.R.Store.Means c.args.memory.now c.args.table.now c.args.hand.now c.args.passes.now (leaks_of c.args.leaks.now.items) c.passes.i c.index-passes-i.result below (sym c.index-passes-i.is)
          (leaks_of c.passes.leaks.items) c.passes.invariant.tells (leaks_of c.check_out.new.leaks.items)
          (subst (λ (zs : List ℤ). Tells g.R.Store.Means c.args.memory.now c.args.table.now (passed_of zs c.index-passes-i.result ∷ []) (leaks_of c.passes.leaks.items) (leaks_of c.check_out.new.leaks.items))
          c.passes.invariant.hand c.in_ok-check_out.ensures.leaks);
      hand = c.check_out.ensures.hand ∙ c.passes.invariant.hand;
    }

pub returns-clause-leaks : goal.returns-clause-leaks
returns-clause-leaks g c =
    let test = c.passes-test.false in
    let all : length c.args.passes.now ≤ c.passes.i = omega (arith, test) in
    tells_all g.R.Store.Means c.args.memory.now c.args.table.now c.args.hand.now c.args.passes.now (leaks_of c.args.leaks.now.items) c.passes.i (leaks_of c.passes.leaks.items) all c.passes.invariant.tells
