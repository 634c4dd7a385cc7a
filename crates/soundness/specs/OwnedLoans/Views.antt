-- Borrowers and observers of a frame, the ways of owners that their names stand for, and what holds
-- of them between two acts.
use Rattle.std.specs.Prelude.{◌≡◌, ◌⊎◌, ◌<◌, ℕ, ◌==◌, Bool, true, false, List, [], ◌∷◌, Option, Some, None, if◌then◌else◌, ◌++◌}
use Rattle.machine.specs.spark_base.Lists.{Has}
use Rattle.machine.specs.place_names.declared.fact.Fact.{Fact}
use Rattle.machine.specs.place_names.declared.fact.Fact.TheVariants.{Moved, Lent}
use Rattle.machine.specs.place_names.declared.rule.Loan.{Loan}
use Rattle.machine.specs.place_names.declared.rule.Loan.TheVariants.{Borrowed, Observed}
use Rattle.machine.specs.place_names.Names.{Name, overlaps}
use Rattle.soundness.specs.OwnedWays.Ways.{Step, Loc, Root, OfVariable, OfHand, OfRoot, OfCell, Way, Object, Lost, Into, All, View, Reaches, Under, Past, Owned, Covered, Known, Named, IsMoved, name_of, number_of, base_of, Held, part, along}

-- ---- how a way goes on

pub data Go : Type 0 where
  Part : Step → Go
  Down : Go

abbrev pub go : Go → Way → Way
go (Part i) w = Into w i
go Down w = All w

-- The last step first.
abbrev pub on : Way → List Go → Way
on w [] = w
on w (g ∷ r) = go g (on w r)

-- ---- views

-- The borrowers and observers of a frame, by their objects. One with a value has a way: a name of
-- the cell that it holds, rooted in an owner. `up` names that cell by an owner or an older
-- borrower, and goes through the place of the loan. A formal that owns nothing may have parts that
-- designate cells, each with a way and a cell of its own; the steps to a part come last one first.
pub record Views : Type 0 where
  pub way : ℕ → Option Way
  pub loan : ℕ → Way
  pub up : ℕ → Way
  pub cell : ℕ → ℕ
  pub part_way : ℕ → List Step → Option Way
  pub part_cell : ℕ → List Step → ℕ

-- What a view designates is named by its way; what another object designates, by the object.
abbrev pub expand_root : Option Way → Root → Way
expand_root None r = All (Object r)
expand_root (Some w) r = w

abbrev pub way_at : Views → Root → Option Way
way_at v (OfVariable f x) = v.way x
way_at v (OfHand h) = None

-- What a part designates is named by its way, if it has one.
abbrev pub expand_part : Option Way → Way → Way
expand_part None w = All w
expand_part (Some w) other = w

-- The way of a part of a variable: the steps of a name that goes through no number.
abbrev pub inner_steps : Way → List Step
inner_steps (Into w i) = i ∷ inner_steps w
inner_steps _ = []

abbrev pub part_from : Views → Way → List Step → Option Way
part_from v (Object (OfVariable f x)) p = v.part_way x p
part_from v (Object (OfHand h)) p = None
part_from v (Lost n) p = None
part_from v (Into w i) p = part_from v w p
part_from v (All w) p = None

abbrev pub part_at : Views → Way → Option Way
part_at v w = part_from v w (inner_steps w)

-- The name of an owner for a name that may be rooted in a view.
abbrev pub expand : Views → Way → Way
expand v (Object r) = Object r
expand v (Lost n) = Lost n
expand v (Into w i) = Into (expand v w) i
expand v (All (Object r)) = expand_root (way_at v r) r
expand v (All (Lost n)) = All (Lost n)
expand v (All (Into w i)) = expand_part (part_at v (Into w i)) (expand v (Into w i))
expand v (All (All w)) = All (expand v (All w))

abbrev pub IsObject : Way → Type 0
IsObject (Object r) = Unit {0}
IsObject _ = ⊥

-- ---- facts

-- A fact says that a name was moved that stands for a way.
abbrev pub IsMovedBy : (ℕ → ℕ) → Views → List Fact → Way → Type 0
IsMovedBy home v facts w = (u : Way) × IsMoved home facts u × (expand v u ≡ w)

-- A way is, or goes on from, a place that is lent.
abbrev pub IsThrough : (ℕ → ℕ) → (Loan → Name → Type 0) → Loan → Way → Type 0
IsThrough home lent l w = (k : Way) × Named home k × Under k w × lent l (name_of k)

-- What concerns a frame of others: which places that it may name are lent to them, which ways are
-- gone for them, and those of them that go on from a place that they have borrowed, and the ways of
-- their views with the cells that they lead to. These begin at variables of others, or go on from a
-- place that is lent. Parts of those cells, and of variables, are bare: what they had was taken.
pub record Around (home : ℕ → ℕ) : Type 1 where
  pub lent : Loan → Name → Type 0
  pub gone : Way → Type 0
  pub away : Way → Type 0
  pub through : (w : Way) → away w → IsThrough home lent Borrowed w
  pub kept : Way → ℕ → Type 0
  pub begins : (w : Way) (n : ℕ) → kept w n
      → (f : ℕ) × (x : ℕ) × (base_of w ≡ OfRoot (OfVariable f x)) × ((f ≡ home x → ⊥) ⊎ ((l : Loan) × IsThrough home lent l w))
  pub bare : Way → Loc → List Step → Type 0
  pub rests : (w : Way) (l : Loc) (p : List Step) → bare w l p → ((n : ℕ) × kept w n × (l ≡ OfCell n)) ⊎ ((r : Root) × (w ≡ Object r) × (l ≡ OfRoot r))
  pub bares : (w : Way) (l : Loc) (p : List Step) → bare w l p
      → (f : ℕ) × (x : ℕ) × (base_of w ≡ OfRoot (OfVariable f x)) × ((f ≡ home x → ⊥) ⊎ ((k : Loan) × IsThrough home lent k (along w p)))
  pub emptied : (w : Way) (l : Loc) (p : List Step) → bare w l p → (q : List Step) → gone (along w (q ++ p)) ⊎ away (along w (q ++ p))

-- Others have no views.
abbrev pub known_gone : (home : ℕ → ℕ) → (Way → Type 0) → Around home
known_gone home gone = record {
  lent = λ l n. ⊥;
  gone = gone;
  away = λ w. ⊥;
  through = λ w none. absurd none;
  kept = λ w n. ⊥;
  begins = λ w n none. absurd none;
  bare = λ w l p. ⊥;
  rests = λ w l p none. absurd none;
  bares = λ w l p none. absurd none;
  emptied = λ w l p none q. absurd none;
}

-- A way is moved by a fact, or is gone for others that have borrowed the place that it goes on from.
abbrev pub IsAway : (home : ℕ → ℕ) → Views → Around home → List Fact → Way → Type 0
IsAway home v other facts w = IsMovedBy home v facts w ⊎ other.away w

abbrev pub ExcusedBy : (home : ℕ → ℕ) → Views → Around home → List Fact → Way → Type 0
ExcusedBy home v other facts w = IsAway home v other facts w ⊎ other.gone w

-- What was moved isn't lent, what one object has borrowed is lent to no other one, and nothing is
-- moved through an observer.
pub record AreClear (observer : ℕ → Bool) (facts : List Fact) : Type 0 where
  pub moved : (l : Loan) (h : ℕ) (n m : Name) → Has facts (Moved n) → Has facts (Lent l h m) → overlaps n m ≡ true → ⊥
  pub lent : (b h : ℕ) (n m : Name) → Has facts (Lent Borrowed b n) → Has facts (Lent Borrowed h m) → (b ≡ h → ⊥) → overlaps n m ≡ true → ⊥
  pub seen : (b h : ℕ) (n m : Name) → Has facts (Lent Borrowed b n) → Has facts (Lent Observed h m) → overlaps n m ≡ true → ⊥
  pub owned : (n : Name) → Has facts (Moved n) → observer n.root ≡ false

-- ---- what holds of a view

-- A borrower holds a loan of its own. An observer that observes what another one sees goes by a
-- loan of that one.
abbrev pub HasLoan : (ℕ → Bool) → Bool → ℕ → List Fact → Name → Type 0
HasLoan observer true x facts n = (h : ℕ) × Has facts (Lent Observed h n) × (observer h ≡ true)
HasLoan observer false x facts n = Has facts (Lent Borrowed x n)

-- A view with a value and its way.
pub record IsView (home : ℕ → ℕ) (observer : ℕ → Bool) (v : Views) (s : View) (facts : List Fact) (x : ℕ) (w : Way) : Type 0 where
  pub named : Named home (v.up x)
  pub leads : expand v (v.up x) ≡ w
  pub begins : Under (v.loan x) (v.up x)
  pub deep : IsObject (v.up x) → ⊥
  pub plain : observer (number_of (v.up x)) ≡ false
  pub older : observer x ≡ false → number_of (v.up x) < x
  pub lent : HasLoan observer (observer x) x facts (name_of (v.loan x))
  pub reaches : Reaches s w (OfCell (v.cell x))

-- A way begins at a variable of another frame.
abbrev pub IsForeign : (ℕ → ℕ) → Way → Type 0
IsForeign home w = (f : ℕ) × (y : ℕ) × (base_of w ≡ OfRoot (OfVariable f y)) × (f ≡ home y → ⊥)

-- A view that the frame was given, of what belongs to another frame, or to a package: a formal that owns
-- nothing, or what was observed through one. It needs no loan of its own frame. What it designates is
-- changed through it alone, and no other view that was given meets its way; or nothing is changed through it.
pub record IsPassed (home : ℕ → ℕ) (observer : ℕ → Bool) (v : Views) (s : View) (x : ℕ) (w : Way) : Type 0 where
  pub begins : (f : ℕ) × (y : ℕ) × (base_of w ≡ OfRoot (OfVariable f y))
  pub given : Named home (v.up x) → ⊥
  pub alone : observer x ≡ false
      → (y : ℕ) (u : Way) → v.way y ≡ Some u → (y ≡ x → ⊥) → (Named home (v.up y) → ⊥) → Under w u ⊎ Under u w → ⊥
  pub reaches : Reaches s w (OfCell (v.cell x))

-- A view leads to what belongs to another frame, or was given.
abbrev pub IsOuter : (ℕ → ℕ) → Views → ℕ → Way → Type 0
IsOuter home v x w = IsForeign home w ⊎ (Named home (v.up x) → ⊥)

-- A way goes on from a place that others have lent; they have borrowed it, if it may be changed through.
abbrev pub IsShared : (ℕ → ℕ) → (Loan → Name → Type 0) → Bool → Way → Type 0
IsShared home lent sees w = (l : Loan) × IsThrough home lent l w × (sees ≡ false → l ≡ Borrowed)

-- So it is of the views that were given and lead to what the frame has names for, and of the parts of formals that do.
abbrev pub AreShared : (ℕ → ℕ) → (ℕ → Bool) → (Loan → Name → Type 0) → Views → Type 0
AreShared home observer lent v =
    ((x : ℕ) (w : Way) → v.way x ≡ Some w → (Named home (v.up x) → ⊥) → Named home w → IsShared home lent (observer x) w)
    × ((x : ℕ) (p : List Step) (w : Way) → v.part_way x p ≡ Some w → Named home w → IsShared home lent true w)

-- A part of a formal that owns nothing, which designates what belongs to another frame, or to a package. Nothing
-- is changed through it, and what is changed through another view that was given doesn't meet its way.
pub record IsPartSeen (home : ℕ → ℕ) (observer : ℕ → Bool) (v : Views) (s : View) (x : ℕ) (p : List Step) (w : Way) : Type 0 where
  pub begins : (f : ℕ) × (y : ℕ) × (base_of w ≡ OfRoot (OfVariable f y))
  pub sees : observer x ≡ true
  pub apart : (y : ℕ) (u : Way) → v.way y ≡ Some u → (Named home (v.up y) → ⊥) → observer y ≡ false → Under u w ⊎ Under w u → ⊥
  pub reaches : Reaches s w (OfCell (v.part_cell x p))

abbrev pub ArePartsSeen : (ℕ → ℕ) → (ℕ → Bool) → Views → View → Type 0
ArePartsSeen home observer v s = (x : ℕ) (p : List Step) (w : Way) → v.part_way x p ≡ Some w → IsPartSeen home observer v s x p w

abbrev pub AreViews : (ℕ → ℕ) → (ℕ → Bool) → Views → View → List Fact → Type 0
AreViews home observer v s facts =
    ((x : ℕ) (w : Way) → v.way x ≡ Some w → IsView home observer v s facts x w ⊎ IsPassed home observer v s x w) × ArePartsSeen home observer v s

-- A place that is lent to others is a part of an object that is no view. The facts know the loan as
-- one of that object.
pub record IsLentToOthers (observer : ℕ → Bool) (v : Views) (facts : List Fact) (l : Loan) (n : Name) : Type 0 where
  pub has : Has facts (Lent l n.root n)
  pub none : v.way n.root ≡ None
  pub plain : observer n.root ≡ false

-- The state is well owned, what ways find gone is known as moved or as lent to others, and each view
-- with a value has one way of owners to the cell that it holds. So have the views of others.
pub record Viewed (home : ℕ → ℕ) (observer : ℕ → Bool) (other : Around home) (v : Views) (s : View) (facts : List Fact) : Type 0 where
  pub owned : Owned s
  pub covered : Covered s
  pub known : Known s (ExcusedBy home v other facts)
  pub clear : AreClear observer facts
  pub views : AreViews home observer v s facts
  -- nothing that is gone for others meets what a view of theirs sees
  pub whole : (x : ℕ) (w z : Way) → v.way x ≡ Some w → IsOuter home v x w → other.gone z → Under z w ⊎ Under w z → ⊥
  pub whole_away : (x : ℕ) (w z : Way) → v.way x ≡ Some w → (Named home (v.up x) → ⊥) → other.away z → Under z w ⊎ Under w z → ⊥
  -- what a view that was given sees, or a part of a formal, and the frame has names for, is lent
  pub shown : AreShared home observer other.lent v
  pub whole_parts : (x : ℕ) (p : List Step) (w z : Way) → v.part_way x p ≡ Some w → other.gone z → Under z w ⊎ Under w z → ⊥
  pub parts_away : (x : ℕ) (p : List Step) (w z : Way) → v.part_way x p ≡ Some w → other.away z → Under z w ⊎ Under w z → ⊥
  -- no view of others goes by what is changed through a view that was given
  pub past : (x : ℕ) (w : Way) → v.way x ≡ Some w → (Named home (v.up x) → ⊥) → observer x ≡ false
      → (k : Way) (n : ℕ) → other.kept k n → Past w k → ⊥
  pub lends : (l : Loan) (n : Name) → other.lent l n → IsLentToOthers observer v facts l n
  pub far : (w : Way) (n : ℕ) → other.kept w n → Reaches s w (OfCell n)
  -- no number stands in what is bare
  pub bare : (w : Way) (l : Loc) (p : List Step) → other.bare w l p → (q : List Step) (c : ℕ) → s.word (part l (q ++ p)) ≡ Held c → ⊥

-- So it is of a frame alone: what is lent to others isn't among its facts.
pub record ViewedAlone (home : ℕ → ℕ) (observer : ℕ → Bool) (other : Around home) (v : Views) (s : View) (facts : List Fact) : Type 0 where
  pub owned : Owned s
  pub covered : Covered s
  pub known : Known s (ExcusedBy home v other facts)
  pub clear : AreClear observer facts
  pub views : AreViews home observer v s facts
  pub whole : (x : ℕ) (w z : Way) → v.way x ≡ Some w → IsOuter home v x w → other.gone z → Under z w ⊎ Under w z → ⊥
  pub whole_parts : (x : ℕ) (p : List Step) (w z : Way) → v.part_way x p ≡ Some w → other.gone z → Under z w ⊎ Under w z → ⊥

-- ---- a view gets a value

-- Another way, or none, for one view.
pub record Becomes (v t : Views) (b : ℕ) (way : Option Way) (loan up : Way) (cell : ℕ) : Type 0 where
  pub way_is : t.way b ≡ way
  pub loan_is : t.loan b ≡ loan
  pub up_is : t.up b ≡ up
  pub cell_is : t.cell b ≡ cell
  pub ways : (y : ℕ) → (y ≡ b → ⊥) → t.way y ≡ v.way y
  pub loans : (y : ℕ) → (y ≡ b → ⊥) → t.loan y ≡ v.loan y
  pub ups : (y : ℕ) → (y ≡ b → ⊥) → t.up y ≡ v.up y
  pub cells : (y : ℕ) → (y ≡ b → ⊥) → t.cell y ≡ v.cell y
  pub part_ways : (y : ℕ) (p : List Step) → t.part_way y p ≡ v.part_way y p
  pub part_cells : (y : ℕ) (p : List Step) → t.part_cell y p ≡ v.part_cell y p

abbrev pub with_view : Views → ℕ → Option Way → Way → Way → ℕ → Views
with_view v b way loan up cell = record {
  way = λ y. if y == b then way else v.way y;
  loan = λ y. if y == b then loan else v.loan y;
  up = λ y. if y == b then up else v.up y;
  cell = λ y. if y == b then cell else v.cell y;
  part_way = v.part_way;
  part_cell = v.part_cell;
}

-- No name of a moved place is rooted in an object, nor is a place that is lent to others, and no
-- other view was taken from it.
pub record Unused (home : ℕ → ℕ) (lent : Loan → Name → Type 0) (v : Views) (facts : List Fact) (b : ℕ) : Type 0 where
  pub unmoved : (n : Name) → Has facts (Moved n) → n.root ≡ b → ⊥
  pub unlent : (l : Loan) (n : Name) → lent l n → n.root ≡ b → ⊥
  pub untaken : (x : ℕ) (w : Way) → v.way x ≡ Some w → Named home (v.up x) → (x ≡ b → ⊥) → number_of (v.up x) ≡ b → ⊥

-- ---- names that go through views

-- A name rooted in a view with a value.
pub record Lifted (v : Views) (x : Way) : Type 0 where
  pub frame : ℕ
  pub object : ℕ
  pub rest : List Go
  pub way : Way
  pub is : x ≡ on (All (Object (OfVariable frame object))) rest
  pub has : v.way object ≡ Some way

-- A name that goes through a part of a formal.
pub record InPart (v : Views) (x : Way) : Type 0 where
  pub frame : ℕ
  pub object : ℕ
  pub steps : List Step
  pub rest : List Go
  pub way : Way
  pub is : x ≡ on (All (along (Object (OfVariable frame object)) steps)) rest
  pub has : v.part_way object steps ≡ Some way
  pub deep : steps ≡ [] → ⊥
