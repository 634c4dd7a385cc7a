-- On the control paths of accepted programs, facts are apart.
use Rattle.std.proofs.Common.{◌≡◌, refl, sym, ap, ◌∙◌, subst, ℕ, List, [], ◌∷◌, ◌++◌, map, None, append_assoc, append-nil}
use Rattle.machine.specs.spark_base.Lists.{Has}
use Rattle.machine.specs.place_names.declared.act.Act.{Act}
use Rattle.machine.specs.place_names.declared.act.Placed.{Placed}
use Rattle.machine.specs.place_names.declared.fact.Fact.{Fact}
use Rattle.machine.specs.place_names.Facts.{effect, facts_behind}
use Rattle.machine.specs.place_names.Rules.{forbids}
use Rattle.place_names.proofs.Facts.{facts_behind-append}
use Rattle.machine.specs.flow_paths.declared.report.Effects.{Effects}
use Rattle.machine.specs.flow_paths.Laid.{FlowSub, FlowProgram}
use Rattle.machine.specs.flow_paths.Effects.{path_points}
use Rattle.machine.specs.flow_paths.Reports.{AreReports}
use Rattle.machine.specs.flow_paths.Paths.{PathPoint, path_point, ControlPath, begins, goes_on, acts_along, facts_before, facts_within}
use Rattle.soundness.specs.FactLaws.Allowed.{ArePathsAllowed}
use Rattle.soundness.specs.FactLaws.Apart.{AreApart}
use Rattle.soundness.proofs.FactLaws.Accepted.{accepted_allows}
use Rattle.soundness.proofs.FactLaws.Apart.{effect_apart}

abbrev acts_of : List Placed → List Act
acts_of placed = map (λ (p : Placed). p.act) placed

placed_apart : (facts : List Fact) (acts : List Placed) → AreApart facts
    → ((front : List Placed) (p : Placed) (rest : List Placed) → acts ≡ front ++ p ∷ rest
    → (f : Fact) → Has (facts_behind facts (acts_of front)) f → forbids p.act f ≡ None)
    → AreApart (facts_behind facts (acts_of acts))
placed_apart facts [] apart allowed = apart
placed_apart facts (a ∷ acts) apart allowed =
    placed_apart (effect a.act facts) acts (effect_apart a.act facts apart (allowed [] a acts refl))
    (λ front b rest split. allowed (a ∷ front) b rest (ap (λ more. a ∷ more) split))

-- the facts before some acts of a point, by those before the point
within : (points : List PathPoint) (before : List ℕ) (front : List Placed)
    → facts_within points before front ≡ facts_behind (facts_before points before) (acts_of front)
within points before front = facts_behind-append [] (acts_along points before) (acts_of front)

-- where the facts before a point are apart, they are so before each of its acts and after them
front_apart : (points : List PathPoint) → ArePathsAllowed points → (before : List ℕ) (last : ℕ) → ControlPath points before last
    → AreApart (facts_before points before) → (front rest : List Placed) → (path_point points last).acts ≡ front ++ rest
    → AreApart (facts_within points before front)
front_apart points allowed before last path apart front rest split =
    subst AreApart (sym (within points before front))
    (placed_apart (facts_before points before) front apart
    (λ some p more cut f has.
    allowed before last path some p (more ++ rest)
    (split ∙ ap (λ acts. acts ++ rest) cut ∙ append_assoc some (p ∷ more) rest)
    f (subst (λ facts. Has facts f) (sym (within points before some)) has)))

before_apart : (points : List PathPoint) → ArePathsAllowed points → (before : List ℕ) (last : ℕ) → ControlPath points before last
    → AreApart (facts_before points before)
before_apart points allowed before' last' (begins some) = λ f g none. absurd none
before_apart points allowed before' last' (goes_on before a b path edge) =
    front_apart points allowed before a path (before_apart points allowed before a path) (path_point points a).acts [] (sym (append-nil _))

-- the facts before each act of a path, and after the last one
pub paths_apart : (points : List PathPoint) → ArePathsAllowed points → (before : List ℕ) (last : ℕ) → ControlPath points before last
    → (front rest : List Placed) → (path_point points last).acts ≡ front ++ rest → AreApart (facts_within points before front)
paths_apart points allowed before last path front rest split =
    front_apart points allowed before last path (before_apart points allowed before last path) front rest split

pub accepted_apart : (program : FlowProgram) (effects : Effects) → AreReports program effects []
    → (sub : FlowSub) → Has program.subs sub → (before : List ℕ) (last : ℕ)
    → ControlPath (path_points program effects sub) before last
    → (front rest : List Placed) → (path_point (path_points program effects sub) last).acts ≡ front ++ rest
    → AreApart (facts_within (path_points program effects sub) before front)
accepted_apart program effects accepted sub has before last path front rest split =
    paths_apart (path_points program effects sub) (accepted_allows program effects accepted sub has) before last path front rest split
