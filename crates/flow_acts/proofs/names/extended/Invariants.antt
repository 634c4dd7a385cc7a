use Rattle.std.proofs.Common.{◌≡◌, drop}
use Rattle.place_names.specs.Names.{extend}
use Rattle.flow_acts.proofs.names.extended.Given as goal

abbrev pub invariant-sels : goal.invariant-sels
invariant-sels l = extend l.name (drop l.sel-index l.sels) ≡ extend l.initial.name l.sels
