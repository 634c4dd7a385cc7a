use Rattle.std.proofs.Common.{◌≡◌, map, drop}
use Rattle.run_results.specs.Results.{leaks_of}
use Rattle.slot_calls.specs.Calls.{passed_of}
use Rattle.slot_formals.proofs.Moving.{TellsOn}
use Rattle.slot_formals.proofs.out_checks.check_outs.Given as goal

abbrev pub invariant-passes : goal.invariant-passes
invariant-passes g l = record {
  tells : TellsOn g.R.Store.Means l.memory l.table (map (passed_of l.initial.hand) l.passes) (map (passed_of l.initial.hand) (drop l.i l.passes)) (leaks_of l.initial.leaks.items) (leaks_of l.leaks.items);
  hand : l.hand ≡ l.initial.hand;
}
