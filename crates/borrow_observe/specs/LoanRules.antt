-- The rules of loans (docs/RULES.md, "Rules").
use Rattle.std.specs.Prelude.{Bool, true, false, List, Option, None, if◌then◌else◌}
use Rattle.place_names.specs.declared.act.Mode.TheVariants.{In, Out, InOut}
use Rattle.place_names.specs.declared.act.Act.{Act}
use Rattle.place_names.specs.declared.act.Act.TheVariants.{Read, Look, Write, Move, Borrow, Observe, Reborrow, EndScope, Return, Actual, Global, Free, Give}
use Rattle.place_names.specs.declared.fact.Fact.{Fact}
use Rattle.place_names.specs.Rules.{Forbidden, forbids}
use Rattle.fact_questions.specs.Findings.{found_among}
use Rattle.state_trees.specs.FactStates.{FactState, may_hold}

-- The acts that O5 to O8 and O11 look at, and those of O10 for the mode `in`.
abbrev pub is_for_loans : Act → Bool
is_for_loans (Read m) = false
is_for_loans (Look m) = false
is_for_loans (Write k) = false
is_for_loans (Move m parts) = false
is_for_loans (Borrow h m) = true
is_for_loans (Observe h m from_observer) = true
is_for_loans (Reborrow b m) = true
is_for_loans (EndScope x borrower) = true
is_for_loans (Return roots) = false
is_for_loans (Actual m In owning access) = true
is_for_loans (Actual m Out owning access) = false
is_for_loans (Actual m InOut owning access) = false
is_for_loans (Global g written) = true
is_for_loans (Free k) = false
is_for_loans (Give m borrows) = true

-- What a fact forbids at an act by these rules.
abbrev pub loans_forbid : Act → Fact → Option Forbidden
loans_forbid a f = if is_for_loans a then forbids a f else None

-- What the facts that may hold forbid.
abbrev pub loans_found : Act → FactState → List Forbidden
loans_found a s = found_among (loans_forbid a) (may_hold s)
