-- Where the trees of some points are exact, the reports that they give are those of control paths.
use Rattle.std.proofs.Common.{◌≡◌, inl, inr, refl, sym, ap, ◌∙◌, subst, ℕ, zero, suc, ◌<◌, Bool, true, false, not, ◌&&◌, ◌||◌, List, [], ◌∷◌, ◌++◌, map, length, Option, Some, None, arith}
use Rattle.std.specs.Bool.{Decides}
use Rattle.std.proofs.lemmas.List.{append_assoc, map-append}
use Rattle.spark_base.specs.Lists.{Has}
use Rattle.spark_base.proofs.Lists.{Has-append_left, Has-append_right, Has-append_cases, Has-map, Has-map_from}
use Rattle.place_names.specs.declared.act.Act.{Act}
use Rattle.place_names.specs.declared.act.Placed.{Placed}
use Rattle.place_names.specs.declared.fact.Fact.{Fact}
use Rattle.place_names.specs.Facts.{removes, is_added, holds_behind, holds_along, facts_behind}
use Rattle.place_names.specs.Reports.{Report, report_at}
use Rattle.place_names.proofs.Facts.{holds_along-decides, facts_behind-append}
use Rattle.state_trees.specs.FactStates.{FactState, may_hold, marked, says, state_behind, IsKept}
use Rattle.state_trees.proofs.Kept.{kept_behind}
use Rattle.state_trees.proofs.FactByFact.{at-may_behind}
use Rattle.flow_paths.specs.Paths.{PathPoint, path_point, ControlPath, acts_at, acts_along, facts_before, facts_within, IsReached, PathReport}
use Rattle.point_states.specs.PointTrees.{fact_at, tree_at, IsExactAt, IsExact}
use Rattle.point_states.specs.Carries.{state_along, acts_of}
use Rattle.point_states.proofs.Moves.{along_facts}
use Rattle.point_states.proofs.Numbers.{has_number, marked_number, number_marked}
use Rattle.point_states.proofs.Listed.{behind_listed, path_listed}
use Rattle.path_reports.specs.CalledPoints.{AreListed}
use Rattle.path_reports.specs.Told.{found_at, told_along, told_where, told_all, IsKeptWhere, AreKept}
use Rattle.path_reports.proofs.FoundAmong.{found_from, found_to}
use Rattle.path_reports.proofs.Putting.{told_along-append}

-- ---- one fact along some acts

-- what some acts make of a mark that a fact may hold
says_along : (acts : List Act) (s : FactState) (i : ℕ) → IsKept s → i < length s.facts
    → says (state_along acts s) i true ≡ holds_along acts (fact_at s.facts i) (says s i true)
says_along [] s i k h = refl
says_along (a ∷ acts) s i k h =
    says_along acts (state_behind a s) i (kept_behind a s k) h
    ∙ ap (holds_along acts (fact_at s.facts i)) (at-may_behind a s.facts s.may i _ k.may h)

behind_grows : (added removed b : Bool) → (added || (false && not removed)) ≡ true → (added || (b && not removed)) ≡ true
behind_grows true removed b e = refl
behind_grows false removed b e = cc

-- what acts add, they add to each path
pub grows : (acts : List Act) (f : Fact) (b : Bool) → holds_along acts f false ≡ true → holds_along acts f b ≡ true
grows [] f b e = cc
grows (a ∷ acts) f b e = from (holds_behind a f false) refl (grows acts f (holds_behind a f b)) e
  where
    from : (v : Bool) → holds_behind a f false ≡ v → (holds_along acts f false ≡ true → holds_along acts f (holds_behind a f b) ≡ true)
        → holds_along acts f v ≡ true → holds_along acts f (holds_behind a f b) ≡ true
    from true is rest e = ap (holds_along acts f) (behind_grows (is_added a f) (removes a f) b is) ∙ e
    from false is rest e = rest e

either_held : (acts : List Act) (f : Fact) (held b : Bool) → (held ≡ true → b ≡ true) → holds_along acts f held ≡ true → holds_along acts f b ≡ true
either_held acts f true b more e = ap (holds_along acts f) (more refl) ∙ e
either_held acts f false b more e = grows acts f b e

-- the facts of a path before an act, by whether a fact holds before the point
within-decides : (points : List PathPoint) (before : List ℕ) (front : List Placed) (f : Fact) (held : Bool) → Decides held (Has (facts_before points before) f)
    → Decides (holds_along (acts_of front) f held) (Has (facts_within points before front) f)
within-decides points before front f held d =
    let all = holds_along-decides (acts_of front) f (facts_before points before) held d in
    let same = facts_behind-append [] (acts_along points before) (acts_of front) in
    (λ e. subst (λ l. Has l f) (sym same) (all.0 e), λ h. all.1 (subst (λ l. Has l f) same h))

before-decides : (points : List PathPoint) (before : List ℕ) (f : Fact)
    → Decides (holds_along (acts_along points before) f false) (Has (facts_before points before) f)
before-decides points before f = holds_along-decides (acts_along points before) f [] false (λ e. cc, λ h. absurd h)

-- ---- one point

-- what is known of a point with a tree
record IsTold (points : List PathPoint) (facts : List Fact) (p : ℕ) (s : FactState) : Type 0 where
  pub exact : IsExactAt points facts p s
  pub kept : IsKept s
  pub reached : IsReached points p
  pub listed : AreListed facts points

-- a fact may hold before an act exactly where some path has it there
record HoldsWithin (points : List PathPoint) (p : ℕ) (front : List Placed) (f : Fact) : Type 0 where
  pub before : List ℕ
  pub path : ControlPath points before p
  pub holds : Has (facts_within points before front) f

within_from : (points : List PathPoint) (facts : List Fact) (p : ℕ) (s : FactState) (front : List Placed) (f : Fact) → IsTold points facts p s
    → Has (may_hold (state_along (acts_of front) s)) f → HoldsWithin points p front f
within_from points facts p s front f t h =
    let u : FactState = state_along (acts_of front) s in
    let same : u.facts ≡ s.facts = along_facts (acts_of front) s in
    let n = marked_number s.facts u.may f (subst (λ l. Has (marked l u.may) f) same h) in
    let within : n.0 < length s.facts = n.1.within in
    let along : holds_along (acts_of front) (fact_at s.facts n.0) (says s n.0 true) ≡ true = sym (says_along (acts_of front) s n.0 t.kept within) ∙ n.2 in
    let is : holds_along (acts_of front) f (says s n.0 true) ≡ true = subst (λ g. holds_along (acts_of front) g (says s n.0 true) ≡ true) n.1.is along in
    from n.0 (subst (λ l. n.0 < length l) t.exact.listed within) (ap (λ l. fact_at l n.0) (sym t.exact.listed) ∙ n.1.is) (says s n.0 true) refl is
  where
    on : (before : List ℕ) → ControlPath points before p → (b : Bool) → (b ≡ true → Has (facts_before points before) f)
        → holds_along (acts_of front) f b ≡ true → HoldsWithin points p front f
    on before path b more e =
        let d = before-decides points before f in
        record {
          before = before;
          path = path;
          holds = (within-decides points before front f (holds_along (acts_along points before) f false) d).0
              (either_held (acts_of front) f b (holds_along (acts_along points before) f false) (λ held. d.1 (more held)) e);
        }

    from : (i : ℕ) → i < length facts → fact_at facts i ≡ f → (b : Bool) → says s i true ≡ b → holds_along (acts_of front) f b ≡ true
        → HoldsWithin points p front f
    from i within is true marked e =
        let m = (t.exact.may_at i within).0 marked in
        on m.before m.path true (λ held. subst (Has (facts_before points m.before)) is m.holds) e
    from i within is false marked e = on t.reached.before t.reached.path false (λ held. cc) e

own_listed : (points : List PathPoint) (facts : List Fact) (p : ℕ) (front rest : List Placed) → AreListed facts points
    → (path_point points p).acts ≡ front ++ rest → (a : Act) → Has (acts_of front) a → Has (acts_at points p) a
own_listed points facts p front rest listed split a h =
    subst (λ l. Has l a) (sym (ap acts_of split ∙ map-append (λ (placed : Placed). placed.act) front rest))
    (Has-append_left (acts_of front) (acts_of rest) a h)

within_to : (points : List PathPoint) (facts : List Fact) (p : ℕ) (s : FactState) (front rest : List Placed) (f : Fact) → IsTold points facts p s
    → (path_point points p).acts ≡ front ++ rest → HoldsWithin points p front f → Has (may_hold (state_along (acts_of front) s)) f
within_to points facts p s front rest f t split h =
    let u : FactState = state_along (acts_of front) s in
    let same : u.facts ≡ s.facts = along_facts (acts_of front) s in
    let before = facts_before points h.before in
    let all : Has (facts_behind before (acts_of front)) f = subst (λ l. Has l f) (facts_behind-append [] (acts_along points h.before) (acts_of front)) h.holds in
    let has : Has facts f =
    behind_listed facts (acts_of front) before (λ a g h new. t.listed p a g (own_listed points facts p front rest t.listed split a h) new)
    (path_listed points facts (λ q a g h new. t.listed q a g h new) h.before) f all in
    let n = has_number s.facts f (subst (λ l. Has l f) (sym t.exact.listed) has) in
    let within : n.0 < length s.facts = n.1.within in
    let among : n.0 < length facts = subst (λ l. n.0 < length l) t.exact.listed within in
    let named : fact_at facts n.0 ≡ f = ap (λ l. fact_at l n.0) (sym t.exact.listed) ∙ n.1.is in
    let d = before-decides points h.before f in
    let held = holds_along (acts_along points h.before) f false in
    let mark : held ≡ true → says s n.0 true ≡ true =
    λ e. (t.exact.may_at n.0 among).1 (record {
      before = h.before;
      path = h.path;
      holds = subst (Has (facts_before points h.before)) (sym named) (d.0 e);
    }) in
    let along : holds_along (acts_of front) f (says s n.0 true) ≡ true =
    either_held (acts_of front) f held (says s n.0 true) mark ((within-decides points h.before front f held d).1 h.holds) in
    let marked_so : says u n.0 true ≡ true =
    says_along (acts_of front) s n.0 t.kept within ∙ ap (λ g. holds_along (acts_of front) g (says s n.0 true)) n.1.is ∙ along in
    subst (λ l. Has (marked l u.may) f) (sym same) (subst (Has (marked s.facts u.may)) n.1.is (number_marked s.facts u.may n.0 within marked_so))

-- ---- the reports of a point

one_more : (front rest : List Placed) (a : Placed) (s : FactState)
    → state_along (acts_of (front ++ a ∷ [])) s ≡ state_behind a.act (state_along (acts_of front) s)
one_more [] rest a s = refl
one_more (b ∷ front) rest a s = one_more front rest a (state_behind b.act s)

told_from : (points : List PathPoint) (facts : List Fact) (p : ℕ) (s : FactState) (r : Report) (front rest : List Placed) → IsTold points facts p s
    → (path_point points p).acts ≡ front ++ rest → Has (told_along rest (state_along (acts_of front) s)) r → PathReport points r
told_from points facts p s r front [] t split h = absurd h
told_from points facts p s r front (a ∷ rest) t split h =
    let u : FactState = state_along (acts_of front) s in
    elim (Has-append_cases (map (report_at a.pos) (found_at a.act u)) (told_along rest (state_behind a.act u)) r h) [
      | inl here ↦
          let x = Has-map_from (report_at a.pos) (found_at a.act u) r here in
          let f = found_from a.act u x.0 x.1 in
          let w = within_from points facts p s front f.fact t f.has in
          record {
            before = w.before;
            last = p;
            path = w.path;
            front = front;
            placed = a;
            rest = rest;
            split = split;
            fact = f.fact;
            holds = w.holds;
            found = x.0;
            forbidden = f.is;
            reported = sym x.2;
          }
      | inr later ↦
          told_from points facts p s r (front ++ a ∷ []) rest t (split ∙ sym (append_assoc front (a ∷ []) rest))
          (subst (λ v. Has (told_along rest v) r) (sym (one_more front rest a s)) later)
    ]

told_to : (points : List PathPoint) (facts : List Fact) (s : FactState) (r : Report) (q : PathReport points r) → IsTold points facts q.last s
    → Has (told_along (path_point points q.last).acts s) r
told_to points facts s r q t =
    let u : FactState = state_along (acts_of q.front) s in
    let has = within_to points facts q.last s q.front (q.placed ∷ q.rest) q.fact t q.split
    (record { before = q.before; path = q.path; holds = q.holds }) in
    let found : Has (found_at q.placed.act u) q.found = found_to q.placed.act u q.found (record { fact = q.fact; has = has; is = q.forbidden }) in
    let here : Has (map (report_at q.placed.pos) (found_at q.placed.act u)) r =
    subst (Has (map (report_at q.placed.pos) (found_at q.placed.act u))) (sym q.reported) (Has-map (report_at q.placed.pos) (found_at q.placed.act u) q.found found) in
    subst (λ l. Has l r) (sym (ap (λ l. told_along l s) q.split ∙ told_along-append q.front (q.placed ∷ q.rest) s))
    (Has-append_right (told_along q.front s) (told_along (q.placed ∷ q.rest) u) r
    (Has-append_left (map (report_at q.placed.pos) (found_at q.placed.act u)) (told_along q.rest (state_behind q.placed.act u)) r here))

-- ---- the reports of all points

record ToldAt (points : List PathPoint) (trees : List (Option FactState)) (r : Report) : Type 0 where
  pub point : ℕ
  pub has : Has (told_where (path_point points point).acts (tree_at trees point)) r

all_from : (points : List PathPoint) (trees : List (Option FactState)) (r : Report) → Has (told_all points trees) r → ToldAt points trees r
all_from [] trees r h = absurd h
all_from (p ∷ points) [] r h = absurd h
all_from (p ∷ points) (t ∷ trees) r h = elim (Has-append_cases (told_where p.acts t) (told_all points trees) r h) [
  | inl here ↦ record { point = 0; has = here }
  | inr later ↦ (let at = all_from points trees r later in record { point = suc at.point; has = at.has })
]

none_told : (acts : List Placed) (r : Report) → Has (told_where acts None) r → ⊥
none_told acts r h = h

all_to : (points : List PathPoint) (trees : List (Option FactState)) (r : Report) (p : ℕ) → length trees ≡ length points
    → Has (told_where (path_point points p).acts (tree_at trees p)) r → Has (told_all points trees) r
all_to [] [] r p e h = absurd h
all_to [] (t ∷ trees) r p e h = absurd (omega arith)
all_to (x ∷ points) [] r p e h = absurd (omega arith)
all_to (x ∷ points) (t ∷ trees) r zero e h = Has-append_left (told_where x.acts t) (told_all points trees) r h
all_to (x ∷ points) (t ∷ trees) r (suc p) e h =
    Has-append_right (told_where x.acts t) (told_all points trees) r (all_to points trees r p (omega arith) h)

is_told : (points : List PathPoint) (facts : List Fact) (trees : List (Option FactState)) (p : ℕ) (s : FactState) → IsExact points facts trees
    → AreKept trees → AreListed facts points → tree_at trees p ≡ Some s → IsTold points facts p s
is_told points facts trees p s exact kept listed is = record {
  exact = exact.some p s is;
  kept = subst IsKeptWhere is (kept p);
  reached = exact.reached p s is;
  listed = listed;
}

pub path_from : (points : List PathPoint) (facts : List Fact) (trees : List (Option FactState)) (r : Report) → IsExact points facts trees
    → AreKept trees → AreListed facts points → Has (told_all points trees) r → PathReport points r
path_from points facts trees r exact kept listed h =
    let at = all_from points trees r h in
    from at.point (tree_at trees at.point) refl at.has
  where
    from : (p : ℕ) (t : Option FactState) → tree_at trees p ≡ t → Has (told_where (path_point points p).acts t) r → PathReport points r
    from p None is h = absurd h
    from p (Some s) is h = told_from points facts p s r [] (path_point points p).acts (is_told points facts trees p s exact kept listed is) refl h

pub path_to : (points : List PathPoint) (facts : List Fact) (trees : List (Option FactState)) (r : Report) → IsExact points facts trees
    → AreKept trees → AreListed facts points → PathReport points r → Has (told_all points trees) r
path_to points facts trees r exact kept listed q =
    all_to points trees r q.last exact.count (from (tree_at trees q.last) refl)
  where
    from : (t : Option FactState) → tree_at trees q.last ≡ t → Has (told_where (path_point points q.last).acts (tree_at trees q.last)) r
    from None is = absurd (exact.none q.last is (record { before = q.before; path = q.path }))
    from (Some s) is =
        subst (λ t. Has (told_where (path_point points q.last).acts t) r) (sym is)
        (told_to points facts s r q (is_told points facts trees q.last s exact kept listed is))
