-- What holds of places along one path, and how each act changes it (docs/RULES.md, "Facts" and
-- "Acts").
use Rattle.std.specs.Prelude.{ℕ, Bool, true, false, not, ◌&&◌, ◌||◌, ◌==◌, List, [], ◌∷◌, ◌++◌, map, filter, fold, if◌then◌else◌}
use Rattle.std.specs.List.{list_any}
use Rattle.place_names.specs.declared.act.Mode.TheVariants.{In, Out, InOut}
use Rattle.place_names.specs.declared.rule.Loan.{Loan}
use Rattle.place_names.specs.declared.rule.Loan.TheVariants.{Borrowed, Observed}
use Rattle.place_names.specs.declared.fact.Fact.{Fact}
use Rattle.place_names.specs.declared.fact.Fact.TheVariants.{Moved, Lent}
use Rattle.place_names.specs.Names.{Name, is_same, extend, covers}
use Rattle.place_names.specs.declared.act.Act.{Act}
use Rattle.place_names.specs.declared.act.Act.TheVariants.{Read, Look, Write, Move, Borrow, Observe, Reborrow, EndScope, Return, Actual, Global, Free, Give}

-- The place that a fact speaks of.
abbrev pub place : Fact → Name
place (Moved n) = n
place (Lent l h n) = n

-- A name was moved, and another one covers it.
abbrev pub is_moved_under : Name → Fact → Bool
is_moved_under k (Moved n) = covers k n
is_moved_under k (Lent l h n) = false

-- An object holds a loan, or the name of what was moved is rooted in it.
abbrev pub belongs_to : ℕ → Fact → Bool
belongs_to x (Moved n) = n.root == x
belongs_to x (Lent l h n) = h == x

-- The new facts of an act, whatever held before it.
abbrev pub adds : Act → List Fact
adds (Read m) = []
adds (Look m) = []
adds (Write k) = []
-- one for each access part of the name's type
adds (Move m parts) = map (λ q. Moved (extend m q)) parts
adds (Borrow h m) = Lent Borrowed h m ∷ []
-- an observer of what another observer sees takes no loan
adds (Observe h m from_observer) = if from_observer then [] else Lent Observed h m ∷ []
adds (Reborrow b m) = []
adds (EndScope x borrower) = []
adds (Return roots) = []
adds (Actual m mode owning access) = []
adds (Global g written) = []
adds (Free k) = []
adds (Give m borrows) = []

-- A fact ends at an act, whatever else holds: a moved place where it gets a value as a whole, and
-- at the end of a scope what belongs to its object.
abbrev pub removes : Act → Fact → Bool
removes (Read m) f = false
removes (Look m) f = false
removes (Write k) f = is_moved_under k f
removes (Move m parts) f = false
removes (Borrow h m) f = false
removes (Observe h m from_observer) f = false
removes (Reborrow b m) f = false
removes (EndScope x borrower) f = belongs_to x f
removes (Return roots) f = false
removes (Actual m In owning access) f = false
removes (Actual m Out owning access) f = is_moved_under m f
removes (Actual m InOut owning access) f = false
removes (Global g written) f = false
removes (Free k) f = is_moved_under k f
removes (Give m borrows) f = false

-- The facts after an act. No act both adds and removes, so the order of the two says nothing.
abbrev pub effect : Act → List Fact → List Fact
effect a facts = filter (λ f. not (removes a f)) facts ++ adds a

-- The facts after some acts in order, from those that are given.
abbrev pub facts_behind : List Fact → List Act → List Fact
facts_behind facts acts = fold (λ facts a. effect a facts) facts acts

-- A subprogram begins without facts.
abbrev pub facts_after : List Act → List Fact
facts_after acts = facts_behind [] acts

-- ---- one fact at a time

abbrev pub is_same_loan : Loan → Loan → Bool
is_same_loan Borrowed Borrowed = true
is_same_loan Borrowed Observed = false
is_same_loan Observed Borrowed = false
is_same_loan Observed Observed = true

abbrev pub is_same_fact : Fact → Fact → Bool
is_same_fact (Moved n) (Moved m) = is_same n m
is_same_fact (Moved n) (Lent l h m) = false
is_same_fact (Lent l h n) (Moved m) = false
is_same_fact (Lent l h n) (Lent k g m) = is_same_loan l k && ((h == g) && is_same n m)

-- A fact is one of the new facts of an act.
abbrev pub is_added : Act → Fact → Bool
is_added a f = list_any (λ g. is_same_fact g f) (adds a)

-- Whether a fact holds after an act goes by the act, the fact, and whether it held before: it is
-- added, or it held and isn't removed.
abbrev pub holds_behind : Act → Fact → Bool → Bool
holds_behind a f held = is_added a f || (held && not (removes a f))

-- The same along some acts.
abbrev pub holds_along : List Act → Fact → Bool → Bool
holds_along acts f held = fold (λ held a. holds_behind a f held) held acts
