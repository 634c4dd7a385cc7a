use Rattle.std.proofs.Common.{◌≡◌, ◌<◌, length, Some, IsTrue}
use Rattle.run_codes.specs.Codes.{Empty}
use Rattle.code_rows.specs.Values.{fill_at, are_within, AllGrew}
use Rattle.run_lowering.specs.Aggregates.{AllBelow, prepended}
use Rattle.run_lowering.proofs.fills.in_order.Given as goal

abbrev pub invariant-values : goal.invariant-values
invariant-values l = record {
  is : prepended (fill_at l.nodes l.fills) l.values.items (Some (fill_at l.nodes l.fills l.fill))
      ≡ prepended (fill_at l.nodes l.fn.fills) l.fn.values.items (Some Empty);
  below : AllBelow (length l.fills) l.values.items;
  there : l.fill < length l.fills;
  grew : AllGrew l.nodes l.fn.fills l.nodes l.fills;
  all : IsTrue (are_within l.nodes l.fills);
}

abbrev pub decreases-values : goal.decreases-values
decreases-values l = length l.values.items
