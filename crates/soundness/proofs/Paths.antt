-- On the control paths of an accepted program, the acts of each point are allowed one after the
-- other.
use Rattle.std.proofs.Common.{◌≡◌, refl, sym, ap, ◌∙◌, subst, ℕ, List, [], ◌∷◌, ◌++◌, None}
use Rattle.machine.specs.spark_base.Lists.{Has}
use Rattle.machine.specs.place_names.declared.act.Act.{Act}
use Rattle.machine.specs.place_names.declared.act.Placed.{Placed}
use Rattle.machine.specs.place_names.declared.fact.Fact.{Fact}
use Rattle.machine.specs.place_names.Facts.{effect, facts_behind}
use Rattle.machine.specs.place_names.Rules.{forbids}
use Rattle.place_names.proofs.Facts.{facts_behind-append}
use Rattle.machine.specs.flow_paths.declared.report.Effects.{Effects}
use Rattle.machine.specs.flow_paths.Laid.{FlowSub, FlowProgram}
use Rattle.machine.specs.flow_paths.Effects.{path_points}
use Rattle.machine.specs.flow_paths.Reports.{AreReports}
use Rattle.machine.specs.flow_paths.Paths.{PathPoint, path_point, ControlPath, acts_at, acts_along, facts_before, facts_within}
use Rattle.soundness.specs.FactLaws.Allowed.{ArePathsAllowed}
use Rattle.soundness.proofs.FactLaws.Accepted.{accepted_allows}
use Rattle.soundness.specs.OwnedWays.Ways.{after, AllowsAll}
use Rattle.soundness.proofs.Scalars.{acts}

-- the facts after acts, in the words of ways
after_behind : (more : List Act) (facts : List Fact) → after more facts ≡ facts_behind facts more
after_behind [] facts = refl
after_behind (a ∷ more) facts = after_behind more (effect a facts)

all_allowed : (facts : List Fact) (placed : List Placed)
    → ((front : List Placed) (p : Placed) (rest : List Placed) → placed ≡ front ++ p ∷ rest
    → (f : Fact) → Has (facts_behind facts (acts front)) f → forbids p.act f ≡ None)
    → AllowsAll facts (acts placed)
all_allowed facts [] allowed = tt
all_allowed facts (a ∷ rest) allowed = (
  allowed [] a rest refl,
  all_allowed (effect a.act facts) rest (λ front p more split. allowed (a ∷ front) p more (ap (λ z. a ∷ z) split)),
)

-- the facts before some acts of a point, by those before the point
within : (points : List PathPoint) (before : List ℕ) (front : List Placed)
    → facts_within points before front ≡ facts_behind (facts_before points before) (acts front)
within points before front = facts_behind-append [] (acts_along points before) (acts front)

-- the facts before the acts of a point allow them
pub point_allowed : (points : List PathPoint) → ArePathsAllowed points → (before : List ℕ) (last : ℕ) → ControlPath points before last
    → AllowsAll (facts_before points before) (acts_at points last)
point_allowed points allowed before last path =
    all_allowed (facts_before points before) (path_point points last).acts
    (λ front p rest split f has.
    allowed before last path front p rest split f (subst (λ facts. Has facts f) (sym (within points before front)) has))

-- and those after them are the facts before each point that follows
pub facts_next : (points : List PathPoint) (before : List ℕ) (last : ℕ)
    → facts_before points (last ∷ before) ≡ after (acts_at points last) (facts_before points before)
facts_next points before last =
    facts_behind-append [] (acts_along points before) (acts_at points last)
    ∙ sym (after_behind (acts_at points last) (facts_before points before))

pub accepted_point : (program : FlowProgram) (effects : Effects) → AreReports program effects []
    → (sub : FlowSub) → Has program.subs sub → (before : List ℕ) (last : ℕ) → ControlPath (path_points program effects sub) before last
    → AllowsAll (facts_before (path_points program effects sub) before) (acts_at (path_points program effects sub) last)
accepted_point program effects accepted sub has before last path =
    point_allowed (path_points program effects sub) (accepted_allows program effects accepted sub has) before last path
