use Rattle.std.proofs.Common.{◌≡◌, take}
use Rattle.place_names.specs.Names as names
use Rattle.sub_summary.proofs.facts.part_of.Given as goal

abbrev pub invariant-sels : goal.invariant-sels
invariant-sels l = l.made ≡ names.extend l.name (take l.sel-index l.sel-items)
