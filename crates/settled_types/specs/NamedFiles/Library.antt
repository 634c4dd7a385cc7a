-- Library subprograms that are procedures.
use Rattle.std.specs.Prelude.{◌≡◌, Bool, true, false, List}
use Rattle.std.specs.List.{AllByRecursion}
use Rattle.ada_tree.specs.declared.subprogram.Subspec.{Subspec}
use Rattle.ada_tree.specs.declared.subprogram.Subspec.TheVariants as subspec
use Rattle.ada_tree.specs.declared.unit.SourceUnit.{SourceUnit}
use Rattle.ada_tree.specs.declared.unit.SourceUnit.TheVariants as unit

abbrev pub is_procedure_spec : Subspec → Bool
is_procedure_spec (subspec.Procedure pos id formals) = true
is_procedure_spec (subspec.Function pos id formals return_word result) = false

-- It is no library function.
abbrev pub is_no_function : SourceUnit → Bool
is_no_function (unit.OfSubprogram pos clauses body) = is_procedure_spec body.spec
is_no_function _ = true

abbrev pub AreProcedures : List (List SourceUnit) → Type 0
AreProcedures files = AllByRecursion (AllByRecursion (λ (u : SourceUnit). is_no_function u ≡ true)) files
