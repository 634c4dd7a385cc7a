-- What a state says of each fact by its number.
use Rattle.std.proofs.Common.{◌≡◌, refl, sym, ap, ◌∙◌, subst, ◌⊎◌, inl, inr, ℕ, zero, suc, ◌*◌, ◌<◌, ◌≤◌, Bool, true, false, not, ◌&&◌, ◌||◌, List, [], ◌∷◌, length, get_or, arith}
use Rattle.std.proofs.lemmas.List.{get_or-replicate}
use Rattle.place_names.specs.declared.act.Act.{Act}
use Rattle.place_names.specs.declared.fact.Fact.{Fact}
use Rattle.place_names.specs.Facts.{is_added, removes, holds_behind}
use Rattle.state_trees.specs.FactStates.{FactState, at, says, unmarked, missing, may_behind, lacks_behind, state_behind, either_mark, joined, none_hold, AreEither, IsKept}

-- ---- at the start

pub says-none : (facts : List Fact) (i : ℕ) (b : Bool) → i < length facts → says (none_hold facts) i b ≡ not b
says-none facts i true h = get_or-replicate (length facts) i false false h
says-none facts i false h = get_or-replicate (length facts) i true false h

-- ---- an act

pub at-may_behind : (a : Act) (facts : List Fact) (may : List Bool) (i : ℕ) (d : Fact) → length may ≡ length facts → i < length facts
    → at (may_behind a facts may) i ≡ holds_behind a (get_or facts i d) (at may i)
at-may_behind a [] may i d e h = absurd (omega arith)
at-may_behind a (f ∷ facts) [] i d e h = absurd (omega arith)
at-may_behind a (f ∷ facts) (m ∷ may) zero d e h = refl
at-may_behind a (f ∷ facts) (m ∷ may) (suc i) d e h = at-may_behind a facts may i d (omega arith) (omega arith)

pub at-lacks_behind : (a : Act) (facts : List Fact) (lacks : List Bool) (i : ℕ) (d : Fact) → length lacks ≡ length facts → i < length facts
    → at (lacks_behind a facts lacks) i ≡ not (holds_behind a (get_or facts i d) (not (at lacks i)))
at-lacks_behind a [] lacks i d e h = absurd (omega arith)
at-lacks_behind a (f ∷ facts) [] i d e h = absurd (omega arith)
at-lacks_behind a (f ∷ facts) (l ∷ lacks) zero d e h = refl
at-lacks_behind a (f ∷ facts) (l ∷ lacks) (suc i) d e h = at-lacks_behind a facts lacks i d (omega arith) (omega arith)

either_at : (may lacks : List Bool) (i : ℕ) → AreEither may lacks → i < length may → (at may i || at lacks i) ≡ true
either_at [] lacks i e h = absurd (omega arith)
either_at (m ∷ may) [] i e h = absurd e
either_at (m ∷ may) (l ∷ lacks) zero e h = e.0
either_at (m ∷ may) (l ∷ lacks) (suc i) e h = either_at may lacks i e.1 (omega arith)

-- a path that has a fact or lacks it before an act has it or lacks it after the act as
-- `holds_behind` says
comes_may : (added removed m : Bool) → m ≡ true → (added || (true && not removed)) ≡ true → (added || (m && not removed)) ≡ true
comes_may added removed m e h = ap (λ b. added || (b && not removed)) e ∙ h

comes_lacks : (added removed l : Bool) → (added || not removed) ≡ false → not (added || (not l && not removed)) ≡ true
comes_lacks true removed l h = cc
comes_lacks false true true h = refl
comes_lacks false true false h = refl
comes_lacks false false l h = cc

pub behind_comes : (a : Act) (s : FactState) (i : ℕ) (d : Fact) (b v : Bool) → IsKept s → i < length s.facts
    → holds_behind a (get_or s.facts i d) b ≡ v → says s i b ≡ true → says (state_behind a s) i v ≡ true
behind_comes a s i d b v k h is old = from b v is old
  where
    f : Fact
    f = get_or s.facts i d

    may : says (state_behind a s) i true ≡ holds_behind a f (at s.may i)
    may = at-may_behind a s.facts s.may i d k.may h

    lacks : says (state_behind a s) i false ≡ not (holds_behind a f (not (at s.lacks i)))
    lacks = at-lacks_behind a s.facts s.lacks i d k.lacks h

    added_stays : (added rest : Bool) → added || false ≡ true → (added || rest) ≡ true
    added_stays true rest e = refl
    added_stays false rest e = cc

    from : (b v : Bool) → holds_behind a f b ≡ v → says s i b ≡ true → says (state_behind a s) i v ≡ true
    from true true is old = may ∙ ap (holds_behind a f) old ∙ is
    from true false is old = lacks ∙ comes_lacks (is_added a f) (removes a f) (at s.lacks i) is
    from false false is old = lacks ∙ ap (λ l. not (holds_behind a f (not l))) old ∙ ap not is
    from false true is old = may ∙ added_stays (is_added a f) (at s.may i && not (removes a f)) is

-- and each path after the act is such a one
pub behind_only : (a : Act) (s : FactState) (i : ℕ) (d : Fact) (v : Bool) → IsKept s → i < length s.facts
    → says (state_behind a s) i v ≡ true → (b : Bool) × (says s i b ≡ true) × (holds_behind a (get_or s.facts i d) b ≡ v)
behind_only a s i d v k h new = from v (at s.may i) (at s.lacks i) refl refl new
  where
    f : Fact
    f = get_or s.facts i d

    either : (at s.may i || at s.lacks i) ≡ true
    either = either_at s.may s.lacks i k.either (subst (λ n. i < n) (sym k.may) h)

    not_true : (b : Bool) → not b ≡ true → b ≡ false
    not_true true e = cc
    not_true false e = refl

    other : (m l : Bool) → (at s.may i ≡ m) → (at s.lacks i ≡ l) → (m || l) ≡ true
    other m l p q = (λ t. sym p t || sym q t) ∙ either

    from : (v m l : Bool) → at s.may i ≡ m → at s.lacks i ≡ l → says (state_behind a s) i v ≡ true
        → (b : Bool) × (says s i b ≡ true) × (holds_behind a f b ≡ v)
    from true true l p q new = (true, p, sym (ap (holds_behind a f) p) ∙ sym (at-may_behind a s.facts s.may i d k.may h) ∙ new)
    from true false l p q new =
        (false, q ∙ other false l p q, sym (ap (holds_behind a f) p) ∙ sym (at-may_behind a s.facts s.may i d k.may h) ∙ new)
    from false m true p q new =
        (false, q, not_true _ (sym (ap (λ l. not (holds_behind a f (not l))) q) ∙ sym (at-lacks_behind a s.facts s.lacks i d k.lacks h) ∙ new))
    from false true false p q new =
        (true, p, not_true _ (sym (ap (λ l. not (holds_behind a f (not l))) q) ∙ sym (at-lacks_behind a s.facts s.lacks i d k.lacks h) ∙ new))
    from false false false p q new = absurd (never (other false false p q))
      where
        never : false ≡ true → ⊥
        never e = cc

-- ---- two states

pub at-either_mark : (mine other : List Bool) (i : ℕ) → length mine ≡ length other → at (either_mark mine other) i ≡ (at mine i || at other i)
at-either_mark [] [] i e = refl
at-either_mark [] (o ∷ other) i e = absurd (omega arith)
at-either_mark (m ∷ mine) [] i e = absurd (omega arith)
at-either_mark (m ∷ mine) (o ∷ other) zero e = refl
at-either_mark (m ∷ mine) (o ∷ other) (suc i) e = at-either_mark mine other i (omega arith)

pub says-joined : (s t : FactState) (i : ℕ) (b : Bool) → IsKept s → IsKept t → t.facts ≡ s.facts
    → says (joined s t) i b ≡ (says s i b || says t i b)
says-joined s t i true k j same = at-either_mark s.may t.may i (k.may ∙ sym (ap length same) ∙ sym j.may)
says-joined s t i false k j same = at-either_mark s.lacks t.lacks i (k.lacks ∙ sym (ap length same) ∙ sym j.lacks)

-- ---- how many marks can still come

pub unmarked_few : (marks : List Bool) → unmarked marks ≤ length marks
unmarked_few [] = omega arith
unmarked_few (true ∷ marks) = (let h = unmarked_few marks in omega arith)
unmarked_few (false ∷ marks) = (let h = unmarked_few marks in omega arith)

pub missing_few : (s : FactState) → IsKept s → missing s ≤ 2 * length s.facts
missing_few s k =
    let may = unmarked_few s.may in
    let lacks = unmarked_few s.lacks in
    let one = k.may in
    let two = k.lacks in
    omega arith

fewer_or_same : (mine other : List Bool) → (either_mark mine other ≡ mine) ⊎ (unmarked (either_mark mine other) < unmarked mine)
fewer_or_same [] other = inl refl
fewer_or_same (m ∷ mine) [] = inl refl
fewer_or_same (true ∷ mine) (o ∷ other) = elim (fewer_or_same mine other) [
  | inl e ↦ inl (ap (λ l. true ∷ l) e)
  | inr h ↦ inr h
]
fewer_or_same (false ∷ mine) (false ∷ other) = elim (fewer_or_same mine other) [
  | inl e ↦ inl (ap (λ l. false ∷ l) e)
  | inr h ↦ inr (omega arith)
]
fewer_or_same (false ∷ mine) (true ∷ other) = elim (fewer_or_same mine other) [
  | inl e ↦ (let h = ap unmarked e in inr (omega arith))
  | inr h ↦ inr (omega arith)
]

-- a join that changes a state leaves fewer that can come
pub joined_fewer : (s t : FactState) → (joined s t ≡ s → ⊥) → missing (joined s t) < missing s
joined_fewer s t changed = from (fewer_or_same s.may t.may) (fewer_or_same s.lacks t.lacks)
  where
    from : (either_mark s.may t.may ≡ s.may) ⊎ (unmarked (either_mark s.may t.may) < unmarked s.may)
        → (either_mark s.lacks t.lacks ≡ s.lacks) ⊎ (unmarked (either_mark s.lacks t.lacks) < unmarked s.lacks)
        → missing (joined s t) < missing s
    from (inl p) (inl q) = absurd (changed (λ i. record { facts = s.facts; may = p i; lacks = q i }))
    from (inl p) (inr q) = (let h = ap unmarked p in omega arith)
    from (inr p) (inl q) = (let h = ap unmarked q in omega arith)
    from (inr p) (inr q) = omega arith
