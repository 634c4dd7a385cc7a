-- What acts make of a state, they make of each of its labels.
use Rattle.std.proofs.Common.{◌≡◌, refl, sym, ap, ◌∙◌, subst, ℕ, zero, suc, ◌+◌, ◌<◌, ◌≤◌, add-one, Bool, true, false, List, [], ◌∷◌, length, get_or, drop, Some, arith}
use Rattle.place_names.specs.Names.{object}
use Rattle.place_names.specs.declared.act.Act.{Act}
use Rattle.place_names.specs.declared.act.Placed.{Placed}
use Rattle.place_names.specs.declared.fact.Fact.{Fact}
use Rattle.place_names.specs.declared.fact.Fact.TheVariants.{Moved}
use Rattle.place_names.specs.Facts.{holds_behind}
use Rattle.state_trees.specs.FactStates.{FactState, says, at, state_behind, IsKept}
use Rattle.state_trees.proofs.FactByFact.{behind_comes, behind_only}
use Rattle.state_trees.proofs.Kept.{kept_behind}
use Rattle.point_states.specs.PointTrees.{fact_at}
use Rattle.point_states.specs.Labels.{Label, Here, Says, carried, Shows}
use Rattle.point_states.specs.Carries.{acts_of, state_along, IsOver}

pub record IsMoved (move : Label → Label) (now s : FactState) : Type 0 where
  pub comes : (k : Label) → Shows (Some now) k → Shows (Some s) (move k)
  pub only : (k : Label) → Shows (Some s) k → (k0 : Label) × Shows (Some now) k0 × (move k0 ≡ k)

past : (marks : List Bool) (i : ℕ) → at marks i ≡ true → i < length marks
past [] i e = cc
past (m ∷ marks) zero e = omega arith
past (m ∷ marks) (suc i) e = (let h = past marks i e in omega arith)

-- what a state says is of a fact of its list
pub within : (s : FactState) (i : ℕ) (b : Bool) → IsKept s → says s i b ≡ true → i < length s.facts
within s i true k e = subst (λ n. i < n) k.may (past s.may i e)
within s i false k e = subst (λ n. i < n) k.lacks (past s.lacks i e)

act_comes : (a : Act) (s : FactState) → IsKept s → (k : Label) → Shows (Some s) k → Shows (Some (state_behind a s)) (carried s.facts (a ∷ []) k)
act_comes a s k Here m = tt
act_comes a s k (Says i b) m =
    behind_comes a s i (Moved (object 0)) b (holds_behind a (fact_at s.facts i) b) k (within s i b k m) refl m

act_only : (a : Act) (s : FactState) → IsKept s → (k : Label) → Shows (Some (state_behind a s)) k
    → (k0 : Label) × Shows (Some s) k0 × (carried s.facts (a ∷ []) k0 ≡ k)
act_only a s k Here m = (Here, tt, refl)
act_only a s k (Says i v) m =
    let from = behind_only a s i (Moved (object 0)) v k (within (state_behind a s) i v (kept_behind a s k) m) m in
    (Says i from.0, from.1, ap (Says i) from.2)

-- an act more in front
moved_on : (facts : List Fact) (a : Act) (acts : List Act) (k : Label) → carried facts (a ∷ acts) k ≡ carried facts acts (carried facts (a ∷ []) k)
moved_on facts a acts Here = refl
moved_on facts a acts (Says i b) = refl

none_comes : (s : FactState) (k : Label) → Shows (Some s) k → Shows (Some s) (carried s.facts [] k)
none_comes s Here m = tt
none_comes s (Says i b) m = m

none_only : (s : FactState) (k : Label) → Shows (Some s) k → (k0 : Label) × Shows (Some s) k0 × (carried s.facts [] k0 ≡ k)
none_only s Here m = (Here, tt, refl)
none_only s (Says i b) m = (Says i b, m, refl)

pub along_moves : (acts : List Act) (s : FactState) → IsKept s → IsMoved (carried s.facts acts) s (state_along acts s)
along_moves [] s k = record { comes = none_comes s; only = none_only s }
along_moves (a ∷ acts) s k =
    let rest = along_moves acts (state_behind a s) (kept_behind a s k) in
    record {
      comes = λ l m. subst (Shows (Some (state_along acts (state_behind a s)))) (sym (moved_on s.facts a acts l))
          (rest.comes (carried s.facts (a ∷ []) l) (act_comes a s k l m));
      only = λ l m. (
          let second = rest.only l m in
          let first = act_only a s k second.0 second.1 in
          (first.0, first.1, moved_on s.facts a acts first.0 ∙ ap (carried s.facts acts) first.2 ∙ second.2));
    }

pub along_facts : (acts : List Act) (s : FactState) → (state_along acts s).facts ≡ s.facts
along_facts [] s = refl
along_facts (a ∷ acts) s = along_facts acts (state_behind a s)

pub along_kept : (acts : List Act) (s : FactState) → IsKept s → IsKept (state_along acts s)
along_kept [] s k = k
along_kept (a ∷ acts) s k = along_kept acts (state_behind a s) (kept_behind a s k)

-- the state after the acts of a point, whose tree is over the list
pub turned : (facts : List Fact) (acts : List Act) (s u : FactState) → u ≡ state_along acts s → IsOver facts (Some s)
    → IsMoved (carried facts acts) s u × ((u.facts ≡ facts) × IsKept u)
turned facts acts s u is o = (
  subst (λ l. IsMoved (carried l acts) s u) o.0 (subst (IsMoved (carried s.facts acts) s) (sym is) (along_moves acts s o.1)),
  (ap (λ (x : FactState). x.facts) is ∙ along_facts acts s ∙ o.0, subst IsKept (sym is) (along_kept acts s o.1)),
)

-- one act more is done
next_act : (acts : List Placed) (i : ℕ) (d : Placed) (s : FactState) → i < length acts
    → state_along (acts_of (drop (suc i) acts)) (state_behind (get_or acts i d).act s) ≡ state_along (acts_of (drop i acts)) s
next_act [] i d s h = absurd (omega arith)
next_act (a ∷ acts) zero d s h = refl
next_act (a ∷ acts) (suc i) d s h = next_act acts i d s (omega arith)

pub along_next : (acts : List Placed) (i : ℕ) (x d : Placed) (s u t : FactState) → i < length acts → x ≡ get_or acts i d
    → u ≡ state_behind x.act s → state_along (acts_of (drop i acts)) s ≡ t → state_along (acts_of (drop (i + 1) acts)) u ≡ t
along_next acts i x d s u t h is done before =
    ap (λ n. state_along (acts_of (drop n acts)) u) (add-one i)
    ∙ ap (state_along (acts_of (drop (suc i) acts))) (done ∙ ap (λ (y : Placed). state_behind y.act s) is)
    ∙ next_act acts i d s h ∙ before

-- all acts are done
pub drop_past : {A : Type 0} (xs : List A) (i : ℕ) → length xs ≤ i → drop i xs ≡ []
drop_past [] zero h = refl
drop_past [] (suc i) h = refl
drop_past (x ∷ xs) zero h = absurd (omega arith)
drop_past (x ∷ xs) (suc i) h = drop_past xs i (omega arith)

pub along_done : (acts : List Placed) (i : ℕ) (s t : FactState) → length acts ≤ i → state_along (acts_of (drop i acts)) s ≡ t → s ≡ t
along_done acts i s t h before = sym (ap (λ l. state_along (acts_of l) s) (drop_past acts i h)) ∙ before
