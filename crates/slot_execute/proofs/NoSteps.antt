-- A run that makes no step.
use Rattle.std.proofs.Common.{◌≡◌, ℕ, List, [], sym, subst, append-nil, Option, Some, None}
use Rattle.std.specs.Io.KnownBytes.{Appends}
use Rattle.machine.specs.Run.{Run}
use Rattle.run_codes.specs.Points.{ran_of}
use Rattle.run_results.specs.declared.ran.Ran.{Ran}
use Rattle.run_results.specs.Results.{IsRun}
use Rattle.run_results.specs.Lines.{leak_lines}
use Rattle.slot_runs.specs.Tellings.{Sinks}
use Rattle.slot_executor.specs.Executes.{IsExecuted}

none_written : (old : Option (List ℕ)) → Appends old old []
none_written None = tt
none_written (Some xs) = sym (append-nil xs)

-- Nothing is written.
pub none_executed : (files : List (List ℕ)) (r : Run) (ran : Ran) (s : Sinks) → r.output ≡ [] → r.leaks ≡ [] → IsRun (ran_of r) ran → IsExecuted files r ran s s
none_executed files r ran s output leaks is = record {
  is = is;
  output = subst (λ bytes. Appends s.output s.output bytes) (sym output) (none_written s.output);
  lines = subst (λ ls. Appends s.lines s.lines (leak_lines files ls)) (sym leaks) (none_written s.lines);
}
