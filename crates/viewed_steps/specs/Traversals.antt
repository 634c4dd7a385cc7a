-- What traversal functions give: where the views of one come from, and what its caller keeps of the call.
--
-- A result is looked at where it stands, as what its first actual designates is. So a name of the
-- caller leads to its cell, which goes on from the first actual.
use Rattle.std.specs.Prelude.{◌≡◌, ◌⊎◌, ℕ, Bool, true, false, List, [], ◌∷◌, Some, Option}
use Rattle.machine.specs.spark_base.Lists.{Has}
use Rattle.machine.specs.spark_base.declared.position.Pos.{Pos}
use Rattle.machine.specs.place_names.Names.{Name as PlaceName}
use Rattle.machine.specs.place_names.declared.act.Act.{Act}
use Rattle.machine.specs.place_names.declared.act.Act.TheVariants.{Borrow, Observe}
use Rattle.machine.specs.type_definitions.declared.table.Shape.TheVariants as shape
use Rattle.machine.specs.type_definitions.Types.{shape_of, full}
use Rattle.machine.specs.typed_tree.Trees.{TypedTree, Name, NoMore, Call as CallIn, More}
use Rattle.machine.specs.flow_paths.Instructions.{Instruction, Declare, Assign, Hold}
use Rattle.machine.specs.flow_paths.Objects.{Typing, sub_at, object_at, is_variable, is_observer, view_of, traverses, is_anonymous}
use Rattle.machine.specs.flow_paths.Names.{name_of}
use Rattle.machine.specs.flow_paths.Views.{Roots}
use Rattle.machine.specs.Words as machine
use Rattle.machine.specs.States.{Waiting}
use Rattle.soundness.specs.OwnedWays.Ways.{OfCell, Way, All, View, Reaches, Under, Named}
use Rattle.soundness.specs.OwnedWays.Ways as ways
use Rattle.soundness.specs.OwnedLoans.Views.{Go, on, Views, expand}
use Rattle.soundness.specs.Seen.{home}
use Rattle.soundness.specs.TypedLaws.Needed.{Matches}
use Rattle.soundness.specs.ViewedSoundness.Holds.{GoesBy}
use Rattle.viewed_steps.specs.Awaited.{IsTakenBy}

-- ---- sources

-- What a function gives, for a place of an anonymous access type: both types designate one type.
pub record GivesView (s : Typing) (n of : ℕ) : Type 0 where
  pub result : ℕ
  pub result_is : (sub_at s n).result ≡ Some result
  pub anonymous : is_anonymous (full s.table result) ≡ true
  pub d : ℕ
  pub c : Bool
  pub m : Bool
  pub gives : shape_of s.table result ≡ shape.Access d c m
  pub k : ℕ
  pub e : Bool
  pub o : Bool
  pub want : shape_of s.table of ≡ shape.Access k e o
  pub fits : Matches s.table d k

-- A source for such a place is a name, or a call whose first actual it is.
abbrev pub IsSourceName : Typing → ℕ → TypedTree → Pos → ℕ → TypedTree → ℕ → Type 0
IsSourceName s of e q y path u =
    (e ≡ Name q y path u) ⊎ ((r : Pos) × (n : ℕ) × (more : TypedTree) × (e ≡ CallIn r n (More (Name q y path u) more)) × GivesView s n of)

-- ---- where the views of a frame come from

-- A view got its way from itself, or from the root of a name that it borrows from or observes.
abbrev pub IsSourceIn : List Act → ℕ → ℕ → Type 0
IsSourceIn acts x y = (y ≡ x) ⊎ ((m : PlaceName) × (m.root ≡ y) × (Has acts (Borrow x m) ⊎ ((b : Bool) × Has acts (Observe x m b))))

-- A view has a root; where that is the first formal, the view's way goes on from what that sees, if it sees
-- anything.
abbrev pub IsRootedIn : Typing → List Act → ℕ → Option Way → ℕ → Way → Type 0
IsRootedIn s acts f first x w = (r : ℕ) × Roots s acts x r × (r ≡ f → (k : Way) × (first ≡ Some k) × Under k w)

abbrev pub AreRooted : Typing → List Act → ℕ → Option Way → Views → Type 0
AreRooted s acts f first v = (x : ℕ) (w : Way) → v.way x ≡ Some w → IsRootedIn s acts f first x w

-- ---- a call in progress, or one whose result waits

-- A traversal call with a name as its first actual.
pub record TraversalCall : Type 0 where
  pub pos : Pos
  pub name_pos : Pos
  pub root : ℕ
  pub path : TypedTree
  pub of : ℕ
  pub others : TypedTree

abbrev pub call_in : ℕ → TraversalCall → TypedTree
call_in n c = CallIn c.pos n (More (Name c.name_pos c.root c.path c.of) c.others)

abbrev pub traversed_name : TraversalCall → PlaceName
traversed_name c = name_of c.root c.path

-- An object that sees.
abbrev pub IsSeer : Typing → ℕ → Type 0
IsSeer s x = (is_variable (object_at s x).kind ≡ true) × (is_anonymous (view_of s x) ≡ true)

-- What takes the result: such an object is declared with it or assigned, a borrower from a name that is rooted
-- in it; or a traversal function returns it.
abbrev pub IsViewTaker : Typing → ℕ → TraversalCall → Option ℕ → Instruction → Type 0
IsViewTaker s n c result i =
    ((x : ℕ) × (i ≡ Declare x (More (call_in n c) NoMore)) × IsSeer s x)
    ⊎ (((p : Pos) × (x : ℕ) × (u : ℕ) × (i ≡ Assign (Name p x NoMore u) (call_in n c)) × IsSeer s x × (is_observer s x ≡ false → c.root ≡ x))
    ⊎ ((i ≡ Hold (More (call_in n c) NoMore)) × (traverses s.table result ≡ true)))

-- The first actual as a way of its frame.
pub record Traverses (s : Typing) (depth : ℕ) (i : Instruction) (n : ℕ) : Type 0 where
  pub call : TraversalCall
  pub taken : IsTakenBy i (call_in n call)
  pub place : Way
  pub named : Named (home s depth) place
  pub called : ways.name_of place ≡ traversed_name call

-- What the first formal sees is what the first actual designates.
pub record SeesFirst (s : Typing) (depth : ℕ) (i : Instruction) (n : ℕ) (around : Views) (first : Option Way) : Type 0 where
  pub traverses : Traverses s depth i n
  pub goes : (w : Way) → first ≡ Some w → GoesBy s around traverses.call.root (All traverses.place)
  pub leads : (w : Way) → first ≡ Some w → expand around (All traverses.place) ≡ w

-- ---- what waits

-- What a traversal function gave: null, or the number of a cell that a name leads to which goes on from
-- what the first actual designates.
pub record IsGivenTo (s : Typing) (view : View) (depth : ℕ) (i : Instruction) (v : Views) (w : Waiting) : Type 0 where
  pub sub : ℕ
  pub traverses : Traverses s depth i sub
  pub rest : List Go
  pub word : machine.Word
  pub is : w.words ≡ word ∷ []
  pub reached : (k : ℕ) → word ≡ machine.Cell k → Reaches view (expand v (on (All traverses.place) rest)) (OfCell k)
  pub goes : (k : ℕ) → word ≡ machine.Cell k → GoesBy s v traverses.call.root (All traverses.place)

-- So is the latest value that waits, if it is of an anonymous access type.
abbrev pub AreGiven : Typing → View → ℕ → Instruction → Views → List Waiting → Type 0
AreGiven s view depth i v waits =
    (w : Waiting) (others : List Waiting) → waits ≡ w ∷ others → is_anonymous (full s.table w.of) ≡ true → IsGivenTo s view depth i v w
