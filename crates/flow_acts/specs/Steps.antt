-- Steps of names, one after another.
use Rattle.std.specs.Prelude.{List, [], ◌∷◌, Option, Some, None}
use Rattle.place_names.specs.declared.selector.Sel.{Sel}
use Rattle.flow_paths.specs.Names.{selectors}
use Rattle.flow_acts.specs.declared.names.Step.{Step}
use Rattle.flow_acts.specs.declared.writer.ActWriter.{ActWriter}
use Rattle.flow_acts.specs.Plans.{tree}

-- The steps from one that is found.
abbrev pub steps_from : ActWriter → Option Step → List Sel
steps_from w None = []
steps_from w (Some s) = s.sel ∷ selectors (tree w s.rest)
