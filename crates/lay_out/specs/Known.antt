-- The parts of a typed program, by number.
use Rattle.std.specs.Prelude.{ℕ, Bool, ◌||◌}
use Rattle.type_definitions.specs.Types.{full, is_owning}
use Rattle.typed_statements.specs.declared.subs.Subprogram.{Subprogram}
use Rattle.flow_paths.specs.Objects.{Typing, Signature, is_anonymous}

abbrev pub signature_of : Subprogram → Signature
signature_of b = record { formals = b.formals; result = b.result }

-- The scope of an object of this type ends at a point of its own.
abbrev pub has_end : Typing → ℕ → Bool
has_end s t = is_owning s.table t || is_anonymous (full s.table t)
