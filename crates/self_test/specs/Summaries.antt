-- What a self test tells (docs/TOOL.md, "Lines").
use Rattle.std.specs.Prelude.{ℕ, List, [], length}
use Rattle.spark_base.specs.declared.limits.TheConstants.{STEPS}
use Rattle.flow_paths.specs.Laid.{FlowProgram}
use Rattle.machine.specs.Run.{Run, run}
use Rattle.rule_reports.specs.declared.summary.Summary.{Summary}
use Rattle.rule_reports.specs.Lines.{summary_line}

-- The number of a made program, and the counts of its run.
abbrev pub summary_of : ℕ → Run → Summary
summary_of n r = record {
  number = n;
  bytes = length r.output;
  steps = r.steps;
  made = r.made;
  freed = r.freed;
  leaked = r.leaked;
}

-- The line of its run without input, in as many steps as any run may take.
abbrev pub test_line : ℕ → FlowProgram → List ℕ
test_line n program = summary_line (summary_of n (run program [] STEPS))
