-- What a tree keeps holds of each state that its calls make.
use Rattle.std.proofs.Common.{◌≡◌, refl, sym, ap, ◌∙◌, ℕ, zero, suc, ◌≤◌, Bool, true, false, not, ◌&&◌, ◌||◌, List, [], ◌∷◌, length, arith}
use Rattle.std.specs.Prelude.{replicate}
use Rattle.std.proofs.lemmas.List.{length-replicate}
use Rattle.place_names.specs.declared.act.Act.{Act}
use Rattle.place_names.specs.declared.fact.Fact.{Fact}
use Rattle.place_names.specs.Facts.{is_added, removes}
use Rattle.state_trees.specs.FactStates.{FactState, may_behind, lacks_behind, state_behind, either_mark, joined, none_hold, AreEither, IsKept}

none_either : (n : ℕ) → AreEither (replicate n false) (replicate n true)
none_either zero = tt
none_either (suc n) = (refl, none_either n)

pub kept_none : (facts : List Fact) → length facts ≤ 4294967295 → IsKept (none_hold facts)
kept_none facts few = record {
  may = length-replicate (length facts) false;
  lacks = length-replicate (length facts) true;
  either = none_either (length facts);
  count = few;
}

pub length-may_behind : (a : Act) (facts : List Fact) (may : List Bool) → length may ≡ length facts → length (may_behind a facts may) ≡ length facts
length-may_behind a [] may e = refl
length-may_behind a (f ∷ facts) [] e = absurd (omega arith)
length-may_behind a (f ∷ facts) (m ∷ may) e = ap suc (length-may_behind a facts may (omega arith))

pub length-lacks_behind : (a : Act) (facts : List Fact) (lacks : List Bool) → length lacks ≡ length facts → length (lacks_behind a facts lacks) ≡ length facts
length-lacks_behind a [] lacks e = refl
length-lacks_behind a (f ∷ facts) [] e = absurd (omega arith)
length-lacks_behind a (f ∷ facts) (l ∷ lacks) e = ap suc (length-lacks_behind a facts lacks (omega arith))

-- a fact that may hold or may not before an act does so after it
one_behind : (added removed m l : Bool) → (m || l) ≡ true
    → ((added || (m && not removed)) || not (added || (not l && not removed))) ≡ true
one_behind true removed m l e = refl
one_behind false true true true e = refl
one_behind false true true false e = refl
one_behind false true false true e = refl
one_behind false true false false e = refl
one_behind false false true l e = refl
one_behind false false false true e = refl
one_behind false false false false e = e

either_behind : (a : Act) (facts : List Fact) (may lacks : List Bool) → AreEither may lacks → AreEither (may_behind a facts may) (lacks_behind a facts lacks)
either_behind a [] may lacks e = tt
either_behind a (f ∷ facts) [] [] e = tt
either_behind a (f ∷ facts) [] (l ∷ lacks) e = absurd e
either_behind a (f ∷ facts) (m ∷ may) [] e = absurd e
either_behind a (f ∷ facts) (m ∷ may) (l ∷ lacks) e =
    (one_behind (is_added a f) (removes a f) m l e.0, either_behind a facts may lacks e.1)

pub kept_behind : (a : Act) (s : FactState) → IsKept s → IsKept (state_behind a s)
kept_behind a s k = record {
  may = length-may_behind a s.facts s.may k.may;
  lacks = length-lacks_behind a s.facts s.lacks k.lacks;
  either = either_behind a s.facts s.may s.lacks k.either;
  count = k.count;
}

pub length-either_mark : (mine other : List Bool) → length (either_mark mine other) ≡ length mine
length-either_mark [] other = refl
length-either_mark (m ∷ mine) [] = refl
length-either_mark (m ∷ mine) (o ∷ other) = ap suc (length-either_mark mine other)

one_joined : (m l o p : Bool) → (m || l) ≡ true → ((m || o) || (l || p)) ≡ true
one_joined true l o p e = refl
one_joined false true true p e = refl
one_joined false true false p e = refl
one_joined false false o p e = cc

either_joined : (may lacks other more : List Bool) → AreEither may lacks → length other ≡ length may → length more ≡ length lacks
    → AreEither (either_mark may other) (either_mark lacks more)
either_joined [] [] other more e p q = tt
either_joined [] (l ∷ lacks) other more e p q = absurd e
either_joined (m ∷ may) [] other more e p q = absurd e
either_joined (m ∷ may) (l ∷ lacks) [] more e p q = absurd (omega arith)
either_joined (m ∷ may) (l ∷ lacks) (o ∷ other) [] e p q = absurd (omega arith)
either_joined (m ∷ may) (l ∷ lacks) (o ∷ other) (r ∷ more) e p q =
    (one_joined m l o r e.0, either_joined may lacks other more e.1 (omega arith) (omega arith))

pub kept_joined : (s t : FactState) → IsKept s → IsKept t → t.facts ≡ s.facts → IsKept (joined s t)
kept_joined s t k j same =
    let counts : length t.facts ≡ length s.facts = ap length same in
    record {
      may = length-either_mark s.may t.may ∙ k.may;
      lacks = length-either_mark s.lacks t.lacks ∙ k.lacks;
      either = either_joined s.may s.lacks t.may t.lacks k.either (j.may ∙ counts ∙ sym k.may) (j.lacks ∙ counts ∙ sym k.lacks);
      count = k.count;
    }
