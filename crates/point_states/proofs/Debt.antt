-- At most so many carries.
use Rattle.std.proofs.Common.{◌≡◌, ◌≢◌, refl, sym, ap, ◌∙◌, inl, inr, ℕ, zero, suc, ◌<◌, ◌+◌, ◌*◌, ◌≤◌, List, [], ◌∷◌, length, get_or, set, Option, Some, None, arith}
use Rattle.std.specs.BTreeSet.{insert_key}
use Rattle.std.specs.Ordering.{nat_cmp}
use Rattle.flow_paths.specs.Paths.{PathPoint, path_point}
use Rattle.state_trees.specs.FactStates.{FactState, IsKept}
use Rattle.state_trees.proofs.FactByFact.{missing_few, joined_fewer}
use Rattle.point_states.specs.PointTrees.{successors, tree_at}
use Rattle.point_states.specs.Carries.{come_to, CarriedTo}
use Rattle.point_states.specs.Debts.{room, costs_of, total, debt, owed}
use Rattle.point_states.proofs.Work.{more_owed}

pub times_more : (n a b : ℕ) → a + 1 ≤ b → n * a + n ≤ n * b
times_more n a b h = grind arith

-- a tree that can change once less costs its point once less
less_debt : (full : ℕ) (costs : List ℕ) (trees : List (Option FactState)) (q : ℕ) (t : Option FactState) → q < length trees
    → room full t + 1 ≤ room full (tree_at trees q) → debt full costs (set trees q t) + get_or costs q 0 ≤ debt full costs trees
less_debt full costs [] q t h fewer = absurd (omega arith)
less_debt full [] (u ∷ trees) zero t h fewer = omega arith
less_debt full [] (u ∷ trees) (suc q) t h fewer = omega arith
less_debt full (n ∷ costs) (u ∷ trees) zero t h fewer = (let less = times_more n (room full t) (room full u) fewer in omega arith)
less_debt full (n ∷ costs) (u ∷ trees) (suc q) t h fewer = (let rest = less_debt full costs trees q t (omega arith) fewer in omega arith)

set_same : (trees : List (Option FactState)) (q : ℕ) → q < length trees → set trees q (tree_at trees q) ≡ trees
set_same [] q h = refl
set_same (t ∷ trees) zero h = refl
set_same (t ∷ trees) (suc q) h = ap (λ l. t ∷ l) (set_same trees q (omega arith))

-- a tree that changes gets a mark, or is the first one
fewer : (full : ℕ) (s : FactState) (t : Option FactState) → IsKept s → 2 * length s.facts + 1 ≤ full → t ≢ Some (come_to s t)
    → room full (Some (come_to s t)) + 1 ≤ room full t
fewer full s None k few changed = (let h = missing_few s k in omega arith)
fewer full s (Some t) k few changed = (let h = joined_fewer t s (λ e. changed (sym (ap Some e))) in omega arith)

-- a carry pays for what it puts into the work
pub carry_pays : (full : ℕ) (costs : List ℕ) (q : ℕ) (s : FactState) (old new : List (Option FactState)) (work work' : List ℕ)
    → q < length old → IsKept s → 2 * length s.facts + 1 ≤ full → CarriedTo q s old work new work'
    → debt full costs new + owed costs work' ≤ debt full costs old + owed costs work
carry_pays full costs q s old new work work' h k few c = elim c.works [
  | inl same ↦
      let trees : new ≡ old = c.trees ∙ ap (set old q) (sym same.1) ∙ set_same old q h in
      let d = ap (debt full costs) trees in
      let o = ap (owed costs) same.0 in
      omega arith
  | inr more ↦
      let t : Option FactState = Some (come_to s (tree_at old q)) in
      let less = less_debt full costs old q t h (fewer full s (tree_at old q) k few more.1) in
      let d : debt full costs new ≡ debt full costs (set old q t) = ap (debt full costs) c.trees in
      let o : owed costs work' ≡ owed costs (insert_key nat_cmp work q) = ap (owed costs) more.0 in
      let put = more_owed costs work q in
      omega arith
]

-- the point that was taken is owed no more
pub owed_taken : (costs work rest : List ℕ) (p : ℕ) → work ≡ p ∷ rest → owed costs work ≡ owed costs rest + get_or costs p 0
owed_taken costs work rest p e = (let both = ap (owed costs) e in omega arith)

-- what carrying from a point once costs
pub cost_is : (points : List PathPoint) (p : ℕ) → get_or (costs_of points) p 0 ≡ length (path_point points p).next
cost_is [] p = refl
cost_is (x ∷ points) zero = refl
cost_is (x ∷ points) (suc p) = cost_is points p

-- and all of them
pub total_is : (points : List PathPoint) → total (costs_of points) ≡ successors points
total_is [] = refl
total_is (x ∷ points) = ap (λ n. length x.next + n) (total_is points)

pub costs_counted : (points : List PathPoint) → length (costs_of points) ≡ length points
costs_counted [] = refl
costs_counted (x ∷ points) = ap suc (costs_counted points)

-- where each iteration costs one
abbrev pub ones : {A : Type 0} → List A → List ℕ
ones [] = []
ones (x ∷ xs) = 1 ∷ ones xs

pub one_each : {A : Type 0} (xs : List A) (p : ℕ) → p < length xs → get_or (ones xs) p 0 ≡ 1
one_each [] p h = absurd (omega arith)
one_each (x ∷ xs) zero h = refl
one_each (x ∷ xs) (suc p) h = one_each xs p (omega arith)

pub ones_counted : {A : Type 0} (xs : List A) → length (ones xs) ≡ length xs
ones_counted [] = refl
ones_counted (x ∷ xs) = ap suc (ones_counted xs)
