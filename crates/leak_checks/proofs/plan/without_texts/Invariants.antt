use Rattle.std.proofs.Common.{◌≡◌, map, take}
use Rattle.leak_checks.specs.PrintedLines.{Printed}
use Rattle.leak_checks.proofs.plan.without_texts.Given as goal

abbrev pub invariant-printed : goal.invariant-printed
invariant-printed l = l.lines.items ≡ map (λ (p : Printed). p.line) (take l.one-index l.printed)
