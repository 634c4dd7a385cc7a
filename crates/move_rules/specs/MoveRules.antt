-- The rules of moves (docs/RULES.md, "Rules").
use Rattle.std.specs.Prelude.{Bool, true, false, List, Option, None, if◌then◌else◌}
use Rattle.place_names.specs.declared.act.Mode.TheVariants.{In, Out, InOut}
use Rattle.place_names.specs.declared.act.Act.{Act}
use Rattle.place_names.specs.declared.act.Act.TheVariants.{Read, Look, Write, Move, Borrow, Observe, Reborrow, EndScope, Return, Actual, Global, Free, Give}
use Rattle.place_names.specs.declared.fact.Fact.{Fact}
use Rattle.place_names.specs.Rules.{Forbidden, forbids}
use Rattle.fact_questions.specs.Findings.{found_among}
use Rattle.state_trees.specs.FactStates.{FactState, may_hold}

-- The acts that O1 to O4, O9 and O14 look at, and those of O10 for the modes `out` and `in out`.
abbrev pub is_for_moves : Act → Bool
is_for_moves (Read m) = true
is_for_moves (Look m) = true
is_for_moves (Write k) = true
is_for_moves (Move m parts) = true
is_for_moves (Borrow h m) = false
is_for_moves (Observe h m from_observer) = false
is_for_moves (Reborrow b m) = false
is_for_moves (EndScope x borrower) = false
is_for_moves (Return roots) = true
is_for_moves (Actual m In owning access) = false
is_for_moves (Actual m Out owning access) = true
is_for_moves (Actual m InOut owning access) = true
is_for_moves (Global g written) = false
is_for_moves (Free k) = true
is_for_moves (Give m borrows) = false

-- What a fact forbids at an act by these rules.
abbrev pub moves_forbid : Act → Fact → Option Forbidden
moves_forbid a f = if is_for_moves a then forbids a f else None

-- What the facts that may hold forbid.
abbrev pub moves_found : Act → FactState → List Forbidden
moves_found a s = found_among (moves_forbid a) (may_hold s)
