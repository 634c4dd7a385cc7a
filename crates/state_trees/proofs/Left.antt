-- An act that leaves each fact leaves the state.
use Rattle.std.proofs.Common.{◌≡◌, refl, sym, ap, ◌∙◌, Bool, not, true, false, List, [], ◌∷◌, length, arith}
use Rattle.place_names.specs.declared.act.Act.{Act}
use Rattle.place_names.specs.declared.fact.Fact.{Fact}
use Rattle.place_names.specs.Facts.{holds_behind}
use Rattle.state_trees.specs.FactStates.{FactState, may_behind, lacks_behind, state_behind, LeavesAll, IsKept}

pub twice : (b : Bool) → not (not b) ≡ b
twice true = refl
twice false = refl

may_left : (a : Act) (facts : List Fact) (may : List Bool) → LeavesAll a → length may ≡ length facts → may ≡ may_behind a facts may
may_left a [] [] same e = refl
may_left a [] (m ∷ may) same e = absurd (omega arith)
may_left a (f ∷ facts) [] same e = refl
may_left a (f ∷ facts) (m ∷ may) same e = λ t. sym (same f m) t ∷ may_left a facts may same (omega arith) t

lacks_left : (a : Act) (facts : List Fact) (lacks : List Bool) → LeavesAll a → length lacks ≡ length facts → lacks ≡ lacks_behind a facts lacks
lacks_left a [] [] same e = refl
lacks_left a [] (l ∷ lacks) same e = absurd (omega arith)
lacks_left a (f ∷ facts) [] same e = refl
lacks_left a (f ∷ facts) (l ∷ lacks) same e =
    let here : l ≡ not (holds_behind a f (not l)) = sym (ap not (same f (not l)) ∙ twice l) in
    λ t. here t ∷ lacks_left a facts lacks same (omega arith) t

pub state_left : (a : Act) (s : FactState) → LeavesAll a → IsKept s → s ≡ state_behind a s
state_left a s same k =
    let may = may_left a s.facts s.may same k.may in
    let lacks = lacks_left a s.facts s.lacks same k.lacks in
    λ t. record { facts = s.facts; may = may t; lacks = lacks t }
