-- What a scalar object has without a value.
use Rattle.std.specs.Prelude.{ℕ, nat_eq, ℤ, pos, if◌then◌else◌}
use Rattle.type_definitions.specs.Types.{Table, meant_type}
use Rattle.type_definitions.specs.Entries.{integer}
use Rattle.machine.specs.Typed.{Sort, Whole}
use Rattle.run_codes.specs.Lowered.{Scalar}

-- 0 of Integer, else the first value of the type.
abbrev pub first_word : ℕ → Sort → ℤ → ℤ
first_word t Whole low = if nat_eq t integer then pos 0 else low
first_word t _ low = low

abbrev pub default_scalar : Table → ℕ → Scalar → ℤ
default_scalar table t s = first_word (meant_type table t) s.sort s.low
