-- What may hold and what may not hold of the facts of a list, over some control paths
-- (docs/RULES.md, "Facts").
use Rattle.std.specs.Prelude.{◌≡◌, ◌≤◌, ℕ, suc, ◌+◌, Bool, true, false, not, ◌||◌, List, [], ◌∷◌, map, length, replicate, get_or}
use Rattle.std.specs.List.{list_any}
use Rattle.place_names.specs.declared.fact.Fact.{Fact}
use Rattle.place_names.specs.declared.act.Act.{Act}
use Rattle.place_names.specs.declared.rule.State.{State}
use Rattle.place_names.specs.Names.{Name}
use Rattle.place_names.specs.Facts.{holds_behind}
use Rattle.fact_questions.specs.Questions.{is_overlapping}

-- The list of facts. For each one a mark whether it may hold, as some path has it, and one whether
-- it may not, as some path lacks it.
pub record FactState : Type 0 where
  pub facts : List Fact
  pub may : List Bool
  pub lacks : List Bool

-- The facts that are marked, in order.
abbrev pub marked : List Fact → List Bool → List Fact
marked [] marks = []
marked (f ∷ facts) [] = []
marked (f ∷ facts) (true ∷ marks) = f ∷ marked facts marks
marked (f ∷ facts) (false ∷ marks) = marked facts marks

-- The two lists that a state stands for: the facts that may hold, and those that may not hold.
abbrev pub may_hold : FactState → List Fact
may_hold s = marked s.facts s.may

abbrev pub may_lack : FactState → List Fact
may_lack s = marked s.facts s.lacks

-- The facts that hold on all paths, as they aren't among those that may not hold.
abbrev pub always_hold : FactState → List Fact
always_hold s = marked s.facts (map not s.lacks)

-- The mark with a number.
abbrev pub at : List Bool → ℕ → Bool
at marks i = get_or marks i false

-- Whether the fact with a number may hold, whether it may not, and whether it always holds.
abbrev pub may_at : FactState → ℕ → Bool
may_at s i = at s.may i

abbrev pub lacks_at : FactState → ℕ → Bool
lacks_at s i = at s.lacks i

abbrev pub always_at : FactState → ℕ → Bool
always_at s i = not (lacks_at s i)

-- The same as one: that the fact may hold (true) or may not (false).
abbrev pub says : FactState → ℕ → Bool → Bool
says s i true = may_at s i
says s i false = lacks_at s i

-- How many marks aren't there.
abbrev pub unmarked : List Bool → ℕ
unmarked [] = 0
unmarked (true ∷ marks) = unmarked marks
unmarked (false ∷ marks) = suc (unmarked marks)

abbrev pub missing : FactState → ℕ
missing s = unmarked s.may + unmarked s.lacks

-- Where there is one path and no fact holds there.
abbrev pub none_hold : List Fact → FactState
none_hold facts = record { facts = facts; may = replicate (length facts) false; lacks = replicate (length facts) true }

-- ---- an act

-- Some paths have a fact after an act where some have it before and the act leaves it, or where the
-- act adds it.
abbrev pub may_behind : Act → List Fact → List Bool → List Bool
may_behind a [] may = []
may_behind a (f ∷ facts) [] = []
may_behind a (f ∷ facts) (m ∷ may) = holds_behind a f m ∷ may_behind a facts may

-- All paths have a fact after an act where that follows from their all having it before, or not.
abbrev pub lacks_behind : Act → List Fact → List Bool → List Bool
lacks_behind a [] lacks = []
lacks_behind a (f ∷ facts) [] = []
lacks_behind a (f ∷ facts) (l ∷ lacks) = not (holds_behind a f (not l)) ∷ lacks_behind a facts lacks

-- Each fact changes by itself.
abbrev pub state_behind : Act → FactState → FactState
state_behind a s = record { facts = s.facts; may = may_behind a s.facts s.may; lacks = lacks_behind a s.facts s.lacks }

-- Some acts leave each fact as it was, whether it held before them or not.
abbrev pub LeavesAll : Act → Type 0
LeavesAll a = (f : Fact) (held : Bool) → holds_behind a f held ≡ held

-- ---- two states

-- A mark is there where it is in one of two lists.
abbrev pub either_mark : List Bool → List Bool → List Bool
either_mark [] other = []
either_mark (m ∷ mine) [] = m ∷ mine
either_mark (m ∷ mine) (o ∷ other) = (m || o) ∷ either_mark mine other

-- The paths of both: what may hold on the one or the other, and what may not.
abbrev pub joined : FactState → FactState → FactState
joined s t = record { facts = s.facts; may = either_mark s.may t.may; lacks = either_mark s.lacks t.lacks }

-- ---- what a tree keeps

-- Each fact may hold or may not hold; the two lists are equally long.
abbrev pub AreEither : List Bool → List Bool → Type 0
AreEither [] [] = Unit {0}
AreEither [] (l ∷ lacks) = ⊥
AreEither (m ∷ may) [] = ⊥
AreEither (m ∷ may) (l ∷ lacks) = ((m || l) ≡ true) × AreEither may lacks

-- Both lists have a mark for each fact, each fact may hold or may not, and a `u32` has a number for
-- each.
pub record IsKept (s : FactState) : Type 0 where
  pub may : length s.may ≡ length s.facts
  pub lacks : length s.lacks ≡ length s.facts
  pub either : AreEither s.may s.lacks
  pub count : length s.facts ≤ 4294967295

-- ---- a search

-- A fact that may hold, and that a report names by a word, overlaps a name.
abbrev pub any_overlapping : FactState → Name → State → Bool
any_overlapping s m w = list_any (is_overlapping m w) (may_hold s)
