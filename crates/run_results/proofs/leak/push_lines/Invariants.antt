use Rattle.std.proofs.Common.{◌≡◌, ◌++◌, map, string_bytes, take}
use Rattle.run_results.specs.Results.{leaks_of}
use Rattle.run_results.specs.Lines as spec
use Rattle.run_results.proofs.leak.push_lines.Given as goal

abbrev pub invariant-leaks : goal.invariant-leaks
invariant-leaks l = l.text.items ≡ l.initial.text.items ++ spec.leak_lines (map string_bytes l.files) (leaks_of (take l.leak-index l.leaks))
