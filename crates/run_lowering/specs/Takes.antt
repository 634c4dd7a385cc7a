-- What is known of the values that a point takes.
use Rattle.std.specs.Prelude.{◌≡◌, length, map, sum}
use Rattle.type_definitions.specs.Types.{Table, words}
use Rattle.run_lowering.specs.Offsets.{AreStarts}
use Rattle.run_lowering.specs.declared.takes.Takes.{Takes}

pub record IsTakes (table : Table) (t : Takes) : Type 0 where
  pub starts : AreStarts table t.types.items t.starts.items
  pub long : length t.starts.items ≡ length t.types.items
  pub all : t.words ≡ sum (map (words table) t.types.items)
