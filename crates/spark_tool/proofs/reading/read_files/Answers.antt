use Rattle.std.proofs.Common.{List, ℕ, subst, sym, string_bytes}
use Rattle.spark_base.specs.Lists.{Has}
use Rattle.spark_base.specs.Words.{operands}
use Rattle.spark_tool.proofs.Names.{All-map_at}
use Rattle.spark_tool.proofs.reading.read_files.Goals as goal

pub read_file-requires-clause-operand : goal.read_file-requires-clause-operand
read_file-requires-clause-operand g c =
    let name : List ℕ = string_bytes c.name-item.result in
    let before : List (List ℕ) = g.F.FileStore.words c.args.files.now in
    let now : List (List ℕ) = g.F.FileStore.words c.files.files in
    let named : Has (operands before) name =
    All-map_at (Has (operands before)) c.args.names.now c.files.name-index c.name-item.result c.files-test.true c.name-item.is c.requires.operands in
    let kept : Has (operands now) name = subst (λ (ws : List (List ℕ)). Has (operands ws) name) (sym c.files.invariant.words) named in
    subst (λ (text : List ℕ). Has (operands now) text) (sym c.as_str.ensures.value) kept
