use Rattle.std.proofs.Common.{◌≡◌, map, take}
use Rattle.flow_paths.specs.Printing.{printed_name}
use Rattle.leak_checks.specs.PrintedLines.{told}
use Rattle.leak_checks.proofs.plan.with_texts.Given as goal

abbrev pub invariant-lines : goal.invariant-lines
invariant-lines l = l.printed.items ≡ map (told (printed_name l.table l.objects)) (take l.line-index l.lines)
