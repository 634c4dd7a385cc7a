-- Steps of names, cells of lists, and actuals that are names, among the nodes of rows.
use Rattle.std.specs.Prelude.{◌≤◌, ℕ, List, [], ◌∷◌, ◌++◌, length, Option, Some, None}
use Rattle.spark_base.specs.Lists.{Has}
use Rattle.spark_base.specs.declared.limits.TheConstants.{SELECTORS}
use Rattle.place_names.specs.declared.selector.Sel.{Sel}
use Rattle.typed_tree.specs.Nodes.{TypedNodes, typed_at}
use Rattle.flow_paths.specs.Names.{selectors, written}
use Rattle.flow_paths.specs.Aliases.{Passed, passed_as, passed}
use Rattle.alias_rules.specs.declared.places.Step.{Step}
use Rattle.alias_rules.specs.declared.places.Cell.{Cell}

-- The selectors that begin with a step.
abbrev pub steps_from : TypedNodes → Option Step → List Sel
steps_from rows None = []
steps_from rows (Some s) = s.sel ∷ selectors (typed_at rows s.rest)

-- The actuals that begin with a cell.
abbrev pub passed_from : TypedNodes → ℕ → List ℕ → Option Cell → List Passed
passed_from rows x formals None = []
passed_from rows x formals (Some c) = passed_as x (written (typed_at rows c.first)) ++ passed formals (typed_at rows c.rest)

-- A name is within the limit of selectors.
abbrev pub AreShallow : List Passed → Type 0
AreShallow actuals = (a : Passed) → Has actuals a → length a.actual.name.sels ≤ SELECTORS
