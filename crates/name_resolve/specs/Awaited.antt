-- What one pass over the events tells before it knows which declarations are completed.
use Rattle.std.specs.Prelude.{◌≡◌, Bool, true, List}
use Rattle.std.specs.List.{list_all}
use Rattle.name_events.specs.Declarations.{has_number}
use Rattle.name_events.specs.Known.{Known}
use Rattle.name_resolve.specs.declared.knowledge.Knowledge.{Knowledge}
use Rattle.name_resolve.specs.declared.one_pass.Awaited.{Awaited}
use Rattle.name_resolve.specs.Stands.{Stands}

-- Whether each of these declarations is completed.
abbrev pub are_completed : List Awaited → Known → Bool
are_completed awaited behind = list_all (λ declaration. has_number declaration.number behind.completed) awaited

-- The first are among the second: where each of the second is completed, each of the first is.
abbrev pub IsPartOf : List Awaited → List Awaited → Type 0
IsPartOf some all = (behind : Known) → are_completed all behind ≡ true → are_completed some behind ≡ true

-- For all that may follow, if these declarations are completed in it.
abbrev pub IfCompleted : List Awaited → Knowledge → (Known → Known → Type 0) → Type 0
IfCompleted awaited k P = (behind now : Known) → are_completed awaited behind ≡ true → Stands k now → P behind now
