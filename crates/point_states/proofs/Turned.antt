-- The iteration for a point, one carry after the other.
use Rattle.std.proofs.Common.{◌≡◌, ◌∙◌, refl, inl, inr, sym, ap, subst, add-one, ℕ, zero, suc, ◌+◌, ◌<◌, List, [], ◌∷◌, ◌++◌, drop, get_or, length, Option, Some, None, arith}
use Rattle.spark_base.specs.Lists.{Has}
use Rattle.place_names.specs.declared.act.Placed.{Placed}
use Rattle.place_names.specs.declared.fact.Fact.{Fact}
use Rattle.label_flow.specs.Searches.{Turning, Carried}
use Rattle.label_flow.proofs.Worklist.{turn_begins, turn_goes_on, turn_ends}
use Rattle.flow_paths.specs.declared.point.Point.{Point}
use Rattle.flow_paths.specs.Paths.{PathPoint, path_point, acts_at}
use Rattle.state_trees.specs.FactStates.{FactState, IsKept}
use Rattle.point_states.specs.PointTrees.{tree_at, path_points_of, AreWithin}
use Rattle.point_states.specs.Labels.{carried, flow_of, Shows, labels_of, SearchedOn}
use Rattle.point_states.specs.Carries.{state_along, acts_of, IsOver, CarriedTo, CarriedAlong, AreOver}
use Rattle.point_states.specs.Debts.{Pays, most}
use Rattle.point_states.specs.Turns.{IsTurned}
use Rattle.point_states.proofs.Moves.{IsMoved, turned}
use Rattle.point_states.proofs.Carried.{carry_carries, carried_over, carried_count, carried_places, same_default, acts_is, next_within, dropped}
use Rattle.point_states.proofs.Debt.{carry_pays}

-- the state after the acts of point p
pub record IsBehind (points : List PathPoint) (facts : List Fact) (p : ℕ) (begun : List (Option FactState)) (s : FactState) : Type 0 where
  pub listed : s.facts ≡ facts
  pub kept : IsKept s
  pub moved : (now : FactState) × ((tree_at begun p ≡ Some now) × IsMoved (carried facts (acts_at points p)) now s)

-- what is known within the iteration for point p, where `rest` are the successors still to come
pub record IsTurning (points : List PathPoint) (facts : List Fact) (p count : ℕ) (begun : List (Option FactState)) (first : List ℕ)
    (rest : List ℕ) (trees : List (Option FactState)) (work : List ℕ) : Type 0 where
  pub turning : Turning (flow_of points facts) p (Shows (tree_at begun p)) rest (labels_of trees) work
  pub edges : (q : ℕ) → Has rest q → q < count
  pub over : AreOver facts trees
  pub sized : length trees ≡ count
  pub pays : Pays (most (length facts)) count begun first trees work
  pub places : (a : ℕ) → Has work a → a < count

pub behind : (points : List Point) (facts : List Fact) (p : ℕ) (d : Point) (acts : List Placed) (begun : List (Option FactState))
    (x : Option FactState) (t now s : FactState) → p < length points → p < length begun → AreOver facts begun → x ≡ get_or begun p x
    → x ≡ Some t → now ≡ t → acts ≡ (get_or points p d).acts → s ≡ state_along (acts_of acts) now
    → IsBehind (path_points_of points) facts p begun s
behind points facts p d acts begun x t now s place within over here some same is done =
    let was : tree_at begun p ≡ Some now = sym (same_default begun p x None within) ∙ sym here ∙ some ∙ ap Some (sym same) in
    let moved = turned facts (acts_at (path_points_of points) p) now s (done ∙ ap (λ l. state_along l now) (acts_is points p d acts place is))
    (subst (IsOver facts) was (over p)) in
    record { listed = moved.1.0; kept = moved.1.1; moved = (now, (was, moved.0)) }

pub turn_starts : (points : List Point) (facts : List Fact) (p : ℕ) (trees : List (Option FactState)) (work next : List ℕ)
    → AreWithin (path_points_of points) → SearchedOn (path_points_of points) facts trees (p ∷ work) → AreOver facts trees
    → length trees ≡ length points → ((a : ℕ) → Has work a → a < length points)
    → next ≡ (path_point (path_points_of points) p).next
    → IsTurning (path_points_of points) facts p (length points) trees work next trees work
turn_starts points facts p trees work next within searched over sized places is = record {
  turning = subst (λ xs. Turning (flow_of (path_points_of points) facts) p (Shows (tree_at trees p)) xs (labels_of trees) work) (sym is)
      (turn_begins (flow_of (path_points_of points) facts) p (labels_of trees) work searched);
  edges = next_within points p next within is;
  over = over;
  sized = sized;
  pays = λ costs e. omega arith;
  places = places;
}

-- the next of the successors before the last one
pub one_of_front : (front : List ℕ) (last i : ℕ) → i < length front
    → drop i front ++ last ∷ [] ≡ get_or front i 0 ∷ (drop (i + 1) front ++ last ∷ [])
one_of_front front last i h =
    ap (λ l. l ++ last ∷ []) (dropped front i 0 h) ∙ ap (λ n. get_or front i 0 ∷ (drop n front ++ last ∷ [])) (sym (add-one i))

has_front : (front : List ℕ) (last i : ℕ) → i < length front → Has (front ++ last ∷ []) (get_or front i 0)
has_front [] last i h = absurd (omega arith)
has_front (q ∷ front) last zero h = inl refl
has_front (q ∷ front) last (suc i) h = inr (has_front front last i (omega arith))

has_last : (front : List ℕ) (last : ℕ) → Has (front ++ last ∷ []) last
has_last [] last = inl refl
has_last (q ∷ front) last = inr (has_last front last)

pub front_within : (n : ℕ) (next front : List ℕ) (last i : ℕ) → next ≡ front ++ last ∷ [] → ((q : ℕ) → Has next q → q < n)
    → i < length front → get_or front i 0 < n
front_within n next front last i is within h = within (get_or front i 0) (subst (λ l. Has l (get_or front i 0)) (sym is) (has_front front last i h))

pub last_within : (n : ℕ) (next front : List ℕ) (last : ℕ) → next ≡ front ++ last ∷ [] → ((q : ℕ) → Has next q → q < n) → last < n
last_within n next front last is within = within last (subst (λ l. Has l last) (sym is) (has_last front last))

pub turns_on : (points : List PathPoint) (facts : List Fact) (p q count : ℕ) (begun : List (Option FactState)) (first rest : List ℕ)
    (s : FactState) (old new : List (Option FactState)) (work work' : List ℕ) → IsBehind points facts p begun s
    → IsTurning points facts p count begun first (q ∷ rest) old work → CarriedTo q s old work new work'
    → IsTurning points facts p count begun first rest new work'
turns_on points facts p q count begun first rest s old new work work' b t carry =
    let below : q < count = t.edges q (inl refl) in
    let over : AreOver s.facts old = subst (λ l. AreOver l old) (sym b.listed) t.over in
    let within : q < length old = subst (λ n. q < n) (sym t.sized) below in
    let carries : Carried (flow_of points facts) p q (Shows (tree_at begun p)) (labels_of old) (labels_of new) work work' =
    subst (λ (x : Option FactState). Carried (flow_of points facts) p q (Shows x) (labels_of old) (labels_of new) work work') (sym b.moved.1.0)
    (carry_carries points facts p q b.moved.0 s old new work work' within b.kept over b.moved.1.1 carry) in
    record {
      turning = turn_goes_on (flow_of points facts) p q (Shows (tree_at begun p)) rest (labels_of old) (labels_of new) work work' t.turning carries;
      edges = λ r h. t.edges r (inr h);
      over = subst (λ l. AreOver l new) b.listed (carried_over q s old new work work' within b.kept over carry);
      sized = carried_count q s old new work work' carry ∙ t.sized;
      pays = λ costs e. (
          let before = t.pays costs e in
          let few = ap length b.listed in
          let step = carry_pays (most (length facts)) costs q s old new work work' within b.kept (omega (arith, few)) carry in
          omega arith);
      places = carried_places count q s old new work work' below carry t.places;
    }

pub turned_along : (points : List PathPoint) (facts : List Fact) (p count : ℕ) (begun : List (Option FactState)) (first next : List ℕ)
    (s : FactState) (old new : List (Option FactState)) (work work' : List ℕ) → IsBehind points facts p begun s
    → IsTurning points facts p count begun first next old work → CarriedAlong next s old work new work'
    → IsTurning points facts p count begun first [] new work'
turned_along points facts p count begun first [] s old new work work' b t carries =
    subst (λ l. IsTurning points facts p count begun first [] l work') (sym carries.0)
    (subst (IsTurning points facts p count begun first [] old) (sym carries.1) t)
turned_along points facts p count begun first (q ∷ next) s old new work work' b t carries =
    turned_along points facts p count begun first next s carries.0 new carries.1 work' b
    (turns_on points facts p q count begun first next s old carries.0 work carries.1 b t carries.2) carries.3

pub turn_done : (points : List PathPoint) (facts : List Fact) (p count : ℕ) (begun : List (Option FactState)) (first : List ℕ)
    (new : List (Option FactState)) (work : List ℕ) → IsTurning points facts p count begun first [] new work
    → IsTurned points facts count begun first new work
turn_done points facts p count begun first new work t = record {
  searched = turn_ends (flow_of points facts) p (Shows (tree_at begun p)) (labels_of new) work t.turning;
  over = t.over;
  sized = t.sized;
  places = t.places;
  pays = t.pays;
}
