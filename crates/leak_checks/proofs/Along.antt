-- What each path has after some acts of a point, by what its tree says before them.
use Rattle.std.proofs.Common.{◌≡◌, refl, sym, ap, ◌∙◌, subst, ℕ, ◌<◌, Bool, true, false, not, List, [], ◌∷◌, length}
use Rattle.std.specs.Bool.{Decides}
use Rattle.spark_base.specs.Lists.{Has}
use Rattle.place_names.specs.declared.act.Act.{Act}
use Rattle.place_names.specs.declared.act.Placed.{Placed}
use Rattle.place_names.specs.declared.fact.Fact.{Fact}
use Rattle.place_names.specs.Facts.{adds, holds_behind, holds_along}
use Rattle.place_names.proofs.Facts.{holds_along-decides, facts_behind-append}
use Rattle.state_trees.specs.FactStates.{FactState, says, at, state_behind, IsKept}
use Rattle.state_trees.proofs.Kept.{kept_behind}
use Rattle.state_trees.proofs.Left.{twice}
use Rattle.state_trees.proofs.FactByFact.{at-lacks_behind}
use Rattle.flow_paths.specs.Paths.{PathPoint, ControlPath, acts_along, facts_before, facts_within, IsReached, MayLack}
use Rattle.point_states.specs.PointTrees.{fact_at, IsExactAt}
use Rattle.point_states.specs.Carries.{state_along, acts_of}
use Rattle.point_states.proofs.Moves.{along_facts}
use Rattle.point_states.proofs.Numbers.{has_number}
use Rattle.point_states.proofs.Listed.{behind_listed, path_listed}
use Rattle.path_reports.specs.CalledPoints.{AreListed}
use Rattle.path_reports.proofs.ToldExact.{grows}
use Rattle.leak_checks.specs.Lines.{none_lacks}
use Rattle.leak_checks.proofs.Lacks.{IsAlways, none_lacks-decides}

-- what some acts make of a mark that a fact may not hold
lacks_along : (acts : List Act) (s : FactState) (i : ℕ) → IsKept s → i < length s.facts
    → says (state_along acts s) i false ≡ not (holds_along acts (fact_at s.facts i) (not (says s i false)))
lacks_along [] s i k h = sym (twice (says s i false))
lacks_along (a ∷ acts) s i k h =
    let f : Fact = fact_at s.facts i in
    lacks_along acts (state_behind a s) i (kept_behind a s k) h
    ∙ ap (λ l. not (holds_along acts f (not l))) (at-lacks_behind a s.facts s.lacks i _ k.lacks h)
    ∙ ap (λ b. not (holds_along acts f b)) (twice (holds_behind a f (not (at s.lacks i))))

-- no path lacks a fact after them where it follows from no path's lacking it before
always_along : (acts : List Act) (s : FactState) (i : ℕ) → IsKept s → i < length s.facts
    → not (says (state_along acts s) i false) ≡ holds_along acts (fact_at s.facts i) (not (says s i false))
always_along acts s i k h = ap not (lacks_along acts s i k h) ∙ twice (holds_along acts (fact_at s.facts i) (not (says s i false)))

either_held : (acts : List Act) (f : Fact) (held b : Bool) → (held ≡ true → b ≡ true) → holds_along acts f held ≡ true → holds_along acts f b ≡ true
either_held acts f true b more e = ap (holds_along acts f) (more refl) ∙ e
either_held acts f false b more e = grows acts f b e

within-decides : (points : List PathPoint) (before : List ℕ) (front : List Placed) (f : Fact) (held : Bool) → Decides held (Has (facts_before points before) f)
    → Decides (holds_along (acts_of front) f held) (Has (facts_within points before front) f)
within-decides points before front f held d =
    let all = holds_along-decides (acts_of front) f (facts_before points before) held d in
    let same = facts_behind-append [] (acts_along points before) (acts_of front) in
    (λ e. subst (λ l. Has l f) (sym same) (all.0 e), λ h. all.1 (subst (λ l. Has l f) same h))

before-decides : (points : List PathPoint) (before : List ℕ) (f : Fact)
    → Decides (holds_along (acts_along points before) f false) (Has (facts_before points before) f)
before-decides points before f = holds_along-decides (acts_along points before) f [] false (λ e. cc, λ h. absurd h)

-- ---- one point

-- what is known of a point with a tree
pub record IsKnown (points : List PathPoint) (facts : List Fact) (p : ℕ) (s : FactState) : Type 0 where
  pub exact : IsExactAt points facts p s
  pub kept : IsKept s
  pub reached : IsReached points p
  pub listed : AreListed facts points

-- each path to a point has a fact after some acts
abbrev pub AllHave : List PathPoint → ℕ → List Placed → Fact → Type 0
AllHave points p front f = (before : List ℕ) → ControlPath points before p → Has (facts_within points before front) f

-- a path has a fact before the point where no path lacks it
held_before : (points : List PathPoint) (facts : List Fact) (p : ℕ) (s : FactState) (f : Fact) (i : ℕ) → IsKnown points facts p s
    → i < length facts → fact_at facts i ≡ f → says s i false ≡ false → (before : List ℕ) → ControlPath points before p
    → holds_along (acts_along points before) f false ≡ true
held_before points facts p s f i k within is always before path = from (holds_along (acts_along points before) f false) refl
  where
    lacks : holds_along (acts_along points before) f false ≡ false → MayLack points p (fact_at facts i)
    lacks e = record {
      before = before;
      path = path;
      lacks = λ has. (let held = (before-decides points before f).1 (subst (Has (facts_before points before)) is has) in cc);
    }

    from : (b : Bool) → holds_along (acts_along points before) f false ≡ b → holds_along (acts_along points before) f false ≡ true
    from true e = e
    from false e = (let never : says s i false ≡ true = (k.exact.lacks_at i within).1 (lacks e) in cc)

-- what the tree says after the acts, each path has
have_from : (points : List PathPoint) (facts : List Fact) (p : ℕ) (s : FactState) (front : List Placed) (f : Fact) → IsKnown points facts p s
    → IsAlways (state_along (acts_of front) s).facts (state_along (acts_of front) s).lacks f → AllHave points p front f
have_from points facts p s front f k a before path =
    let acts = acts_of front in
    let i : ℕ = a.number in
    let same : (state_along acts s).facts ≡ s.facts = along_facts acts s in
    let within : i < length s.facts = subst (λ l. i < length l) same a.within in
    let named : fact_at s.facts i ≡ f = ap (λ l. fact_at l i) (sym same) ∙ a.is in
    let among : i < length facts = subst (λ l. i < length l) k.exact.listed within in
    let is : fact_at facts i ≡ f = ap (λ l. fact_at l i) (sym k.exact.listed) ∙ named in
    let along : holds_along acts (fact_at s.facts i) (not (says s i false)) ≡ true = sym (always_along acts s i k.kept within) ∙ ap not a.always in
    let here : holds_along acts f (not (says s i false)) ≡ true = subst (λ g. holds_along acts g (not (says s i false)) ≡ true) named along in
    let held : Bool = holds_along (acts_along points before) f false in
    (within-decides points before front f held (before-decides points before f)).0
    (either_held acts f (not (says s i false)) held (λ e. held_before points facts p s f i k among is (not_true (says s i false) e) before path) here)
  where
    not_true : (b : Bool) → not b ≡ true → b ≡ false
    not_true true e = cc
    not_true false e = refl

-- what each path has after the acts, is in the list
listed_within : (points : List PathPoint) (facts : List Fact) (front : List Placed) (f : Fact) → AreListed facts points
    → ((a : Act) (g : Fact) → Has (acts_of front) a → Has (adds a) g → Has facts g) → (before : List ℕ) → Has (facts_within points before front) f → Has facts f
listed_within points facts front f listed added before h =
    behind_listed facts (acts_of front) (facts_before points before) (λ a g has new. added a g has new)
    (path_listed points facts (λ q a g has new. listed q a g has new) before) f
    (subst (λ l. Has l f) (facts_behind-append [] (acts_along points before) (acts_of front)) h)

-- and the tree says so
have_to : (points : List PathPoint) (facts : List Fact) (p : ℕ) (s : FactState) (front : List Placed) (f : Fact) → IsKnown points facts p s
    → ((a : Act) (g : Fact) → Has (acts_of front) a → Has (adds a) g → Has facts g) → AllHave points p front f
    → IsAlways (state_along (acts_of front) s).facts (state_along (acts_of front) s).lacks f
have_to points facts p s front f k added all =
    let r = k.reached in
    let n = has_number facts f (listed_within points facts front f k.listed added r.before (all r.before r.path)) in
    found n.0 n.1.within n.1.is
  where
    acts : List Act
    acts = acts_of front

    not_false : (b : Bool) → not b ≡ true → b ≡ false
    not_false true e = cc
    not_false false e = refl

    lacks_on : (i : ℕ) → i < length facts → fact_at facts i ≡ f → (b : Bool) → says s i false ≡ b → holds_along acts f (not b) ≡ true
    lacks_on i among is false e =
        let r = k.reached in
        let held : holds_along (acts_along points r.before) f false ≡ true = held_before points facts p s f i k among is e r.before r.path in
        subst (λ b. holds_along acts f b ≡ true) held
        ((within-decides points r.before front f (holds_along (acts_along points r.before) f false) (before-decides points r.before f)).1 (all r.before r.path))
    lacks_on i among is true e =
        let m = (k.exact.lacks_at i among).0 e in
        (within-decides points m.before front f false
        (λ never. cc, λ has. absurd (m.lacks (subst (Has (facts_before points m.before)) (sym is) has)))).1 (all m.before m.path)

    found : (i : ℕ) → i < length facts → fact_at facts i ≡ f → IsAlways (state_along acts s).facts (state_along acts s).lacks f
    found i among is =
        let same : (state_along acts s).facts ≡ s.facts = along_facts acts s in
        let within : i < length s.facts = subst (λ l. i < length l) (sym k.exact.listed) among in
        let named : fact_at s.facts i ≡ f = ap (λ l. fact_at l i) k.exact.listed ∙ is in
        let along : holds_along acts (fact_at s.facts i) (not (says s i false)) ≡ true =
        subst (λ g. holds_along acts g (not (says s i false)) ≡ true) (sym named) (lacks_on i among is (says s i false) refl) in
        record {
          number = i;
          within = subst (λ l. i < length l) (sym same) within;
          is = ap (λ l. fact_at l i) same ∙ named;
          always = not_false (says (state_along acts s) i false) (always_along acts s i k.kept within ∙ along);
        }

-- a tree says that no path lacks a fact exactly where each path has it
pub have-decides : (points : List PathPoint) (facts : List Fact) (p : ℕ) (s : FactState) (front : List Placed) (f : Fact) → IsKnown points facts p s
    → ((a : Act) (g : Fact) → Has (acts_of front) a → Has (adds a) g → Has facts g)
    → Decides (none_lacks (state_along (acts_of front) s).facts (state_along (acts_of front) s).lacks f) (AllHave points p front f)
have-decides points facts p s front f k added =
    let u : FactState = state_along (acts_of front) s in
    let d = none_lacks-decides u.facts u.lacks f in
    (λ e. have_from points facts p s front f k (d.0 e), λ all. d.1 (have_to points facts p s front f k added all))
