use Rattle.std.proofs.Common.{◌≡◌, ◌≤◌}
use Rattle.deep_names.specs.Found.{earlier_of}
use Rattle.deep_names.specs.Statements.{code_deep, branches_deep, whens_deep}
use Rattle.deep_names.specs.Turns.{code, site}
use Rattle.deep_names.proofs.reader.NameReader.+statements.Given as goal

abbrev pub decreases-code : goal.decreases-code
decreases-code l = l.c

abbrev pub decreases-branches : goal.decreases-branches
decreases-branches l = l.c

abbrev pub decreases-branch : goal.decreases-branch
decreases-branch l = l.c

abbrev pub decreases-whens : goal.decreases-whens
decreases-whens l = l.c

abbrev pub decreases-when : goal.decreases-when
decreases-when l = l.c

abbrev pub invariant-code-parts : goal.invariant-code-parts
invariant-code-parts l =
    (l.at ≤ l.c)
    × (earlier_of l.found (code_deep (site l.self) l.given (code l.self l.at)) ≡ code_deep (site l.self) l.given (code l.self l.c))

abbrev pub decreases-code-parts : goal.decreases-code-parts
decreases-code-parts l = l.at

abbrev pub invariant-branches-branches : goal.invariant-branches-branches
invariant-branches-branches l =
    (l.at ≤ l.c)
    × (earlier_of l.found (branches_deep (site l.self) l.given (code l.self l.at)) ≡ branches_deep (site l.self) l.given (code l.self l.c))

abbrev pub decreases-branches-branches : goal.decreases-branches-branches
decreases-branches-branches l = l.at

abbrev pub invariant-whens-whens : goal.invariant-whens-whens
invariant-whens-whens l =
    (l.at ≤ l.c)
    × (earlier_of l.found (whens_deep (site l.self) l.given (code l.self l.at)) ≡ whens_deep (site l.self) l.given (code l.self l.c))

abbrev pub decreases-whens-whens : goal.decreases-whens-whens
decreases-whens-whens l = l.at
