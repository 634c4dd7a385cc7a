-- What a formal demands of its actual, and what stands before an argument.
use Rattle.std.specs.Prelude.{ℕ, List, Bool, false, Some, None}
use Rattle.type_definitions.specs.declared.table.FormalInfo.{FormalInfo}
use Rattle.type_definitions.specs.Entries.{same_word}
use Rattle.type_definitions.specs.Expressions.{Given}
use Rattle.expression_types.specs.declared.formal.Formal.{Formal}

abbrev pub demanded : FormalInfo → Formal
demanded f = record { mode = f.mode; of = f.of; traversed = f.traversed }

-- An identifier stands before the `=>` of an argument.
abbrev pub is_given : List ℕ → Given → Bool
is_given w None = false
is_given w (Some v) = same_word w v
