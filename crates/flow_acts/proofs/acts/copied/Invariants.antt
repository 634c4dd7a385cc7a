use Rattle.std.proofs.Common.{◌≡◌, take}
use Rattle.flow_acts.proofs.acts.copied.Given as goal

abbrev pub invariant-numbers : goal.invariant-numbers
invariant-numbers l = l.copy ≡ take l.number-index l.numbers
