-- What the acts of a tree are made of.
use Rattle.std.specs.Prelude.{◌<◌, ℕ, List, [], ◌∷◌, ◌++◌}
use Rattle.place_names.specs.declared.act.Placed.{Placed}
use Rattle.flow_paths.specs.Acts.{acts_in}
use Rattle.flow_acts.specs.declared.values.Turn.{Turn}
use Rattle.flow_acts.specs.declared.values.Turn.TheVariants as turn
use Rattle.flow_acts.specs.declared.writer.ActWriter.{ActWriter}
use Rattle.flow_acts.specs.Frames.{site}
use Rattle.flow_acts.specs.Plans.{tree, placed_by}

-- No acts, those of a part, those of two parts, or those of the steps of a name and then its own.
abbrev pub turn_acts : ActWriter → Turn → List Placed
turn_acts w turn.Ends = []
turn_acts w (turn.Goes rest) = acts_in (site w) (tree w rest)
turn_acts w (turn.Both head rest) = acts_in (site w) (tree w head) ++ acts_in (site w) (tree w rest)
turn_acts w (turn.Names p) = acts_in (site w) (tree w p.steps) ++ placed_by w p ∷ []

-- The parts have lower numbers.
abbrev pub IsTurnBelow : ℕ → Turn → Type 0
IsTurnBelow e turn.Ends = Unit {0}
IsTurnBelow e (turn.Goes rest) = rest < e
IsTurnBelow e (turn.Both head rest) = (head < e) × (rest < e)
IsTurnBelow e (turn.Names p) = p.steps < e
