use Rattle.std.proofs.Common.{◌∙◌, ap, map, string_bytes}
use Rattle.spark_tool.specs.Answers.{finding_of}
use Rattle.spark_tool.specs.Reading.{sources_of}
use Rattle.spark_tool.proofs.CommandWords.{test_found}
use Rattle.spark_tool.proofs.selftest.selftest.Goals as goal

pub returns-clause-gives : goal.returns-clause-gives
returns-clause-gives c =
    test_found c.args.n (map string_bytes c.as_slice.result.now) (sources_of c.in_ok-gathered.gathered) (finding_of c.in_ok-finding.finding)
    c.in_ok-test_outcome.field-0 (ap (map string_bytes) c.as_slice.ensures.value ∙ c.in_ok-names.ensures.names) c.in_ok-gathered.ensures.source
    c.in_ok-finding.ensures.finding c.in_ok-test_outcome.ensures.answer c.in_ok-test_outcome.ensures.run
