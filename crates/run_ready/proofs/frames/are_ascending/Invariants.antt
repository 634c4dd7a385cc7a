use Rattle.std.proofs.Common.{◌≡◌, ◌≤◌, drop}
use Rattle.run_ready.specs.Tests.{ascend}
use Rattle.run_ready.proofs.frames.are_ascending.Given as goal

abbrev pub invariant-numbers : goal.invariant-numbers
invariant-numbers l = (ascend l.low (drop l.number-index l.numbers) ≡ ascend 0 l.numbers) × (l.low ≤ 4294967296)
