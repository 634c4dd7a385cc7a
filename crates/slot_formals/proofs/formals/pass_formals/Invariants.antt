use Rattle.std.proofs.Common.{◌≡◌, ◌+◌, ◌++◌, map, drop}
use Rattle.slot_memory.specs.Memory.{elsewhere}
use Rattle.slot_calls.specs.Calls.{passed_of}
use Rattle.slot_formals.specs.Formals.{placed, returned}
use Rattle.slot_formals.specs.Leads.{Leads}
use Rattle.slot_formals.proofs.formals.pass_formals.Given as goal

abbrev pub invariant-formals : goal.invariant-formals
invariant-formals g l = record {
  leads : Leads g.R.Store.Means l.initial.memory (placed l.table l.base l.formals (map (passed_of l.initial.hand) l.passes)) l.memory
      (λ s. placed l.table (l.base + l.at) (drop l.i l.formals) (map (passed_of l.initial.hand) (drop l.i l.passes)) s);
  returns : (l.frames ≡ record l.initial.frames { returns = l.frames.returns })
      × (l.frames.returns ++ returned l.table l.at (drop l.i l.formals) (drop l.i l.passes) ≡ l.initial.frames.returns ++ returned l.table 0 l.formals l.passes);
  hand : l.hand ≡ l.initial.hand;
  elsewhere : elsewhere l.memory ≡ elsewhere l.initial.memory;
}
