use Rattle.std.proofs.Common.{◌∙◌, sym, ap}
use Rattle.std.specs.Str.{bytes_eq}
use Rattle.spark_base.proofs.NamedFiles.{found_there}
use Rattle.spark_base.proofs.memory_files.index_of.Goals as goal

pub returns-then-eq : goal.returns-then-eq
returns-then-eq c =
    found_there c.args.files.now c.args.name.now c.files.index c.index-files-index.result c.files-test.true c.index-files-index.is
    (ap (λ text. bytes_eq text c.args.name.now) (sym c.as_str.ensures.value) ∙ sym c.eq.ensures ∙ c.if-eq.true) c.files.invariant
