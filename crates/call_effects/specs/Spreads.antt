-- How an object spreads from the subprograms that use it in their own text to their callers.
use Rattle.std.specs.Prelude.{◌≡◌, ◌<◌, ◌≤◌, ◌⊎◌, ℕ, ◌+◌, Bool, true, List, [], ◌∷◌, ◌++◌, length, set, if◌then◌else◌}
use Rattle.spark_base.specs.Lists.{Has}
use Rattle.std.specs.List.{list_any}
use Rattle.typed_tree.specs.Nodes.{TypedNodes}
use Rattle.flow_paths.specs.declared.point.LaidSub.{LaidSub}
use Rattle.label_flow.specs.Flows.{Flow}
use Rattle.label_flow.specs.Searches.{Searched}
use Rattle.flow_paths.specs.Laid.{FlowProgram}
use Rattle.flow_paths.specs.Effects.{is_in, Ascends}
use Rattle.laid_program.specs.declared.laid.Laid.{Laid}
use Rattle.laid_program.specs.Programs.{program_of}
use Rattle.call_effects.specs.Uses.{points_at, laid_uses, laid_calls, Uses}
use Rattle.call_effects.specs.Rows.{row, AreMarked}

-- An object is carried from each subprogram to its callers.
abbrev pub flow_of : List (List ℕ) → (ℕ → Bool) → Flow (Unit {0})
flow_of callers uses = record { next = row callers; move = λ a k. k; first = λ a k. uses a }

-- The object is in the list of a subprogram.
abbrev pub found : ℕ → List (List ℕ) → ℕ → Unit {0} → Type 0
found g lists a k = Has (row lists a) g

abbrev pub SearchedFor : List (List ℕ) → (ℕ → Bool) → ℕ → List (List ℕ) → List ℕ → Type 0
SearchedFor callers uses g lists work = Searched (flow_of callers uses) (found g lists) work

-- Each list ascends and has no object after g.
pub record AreUpTo (g : ℕ) (lists : List (List ℕ)) : Type 0 where
  pub order : (a : ℕ) → Ascends (row lists a)
  pub upto : (a x : ℕ) → Has (row lists a) x → x ≤ g

-- The object was put into the list of p and p into the work, unless it was there.
abbrev pub ReachedBy : ℕ → ℕ → List (List ℕ) → List ℕ → List (List ℕ) → List ℕ → Type 0
ReachedBy g p old work new work' =
    (Has (row old p) g × (new ≡ old) × (work' ≡ work))
    ⊎ ((Has (row old p) g → ⊥) × (new ≡ set old p (row old p ++ g ∷ [])) × (work' ≡ work ++ p ∷ []))

-- Nothing but the object was put into the lists.
pub record Adds (g : ℕ) (old new : List (List ℕ)) : Type 0 where
  pub count : length new ≡ length old
  pub keeps : (a x : ℕ) → Has (row old a) x → Has (row new a) x
  pub only : (a x : ℕ) → Has (row new a) x → Has (row old a) x ⊎ (x ≡ g)

-- Each subprogram in the work has the object.
abbrev pub AreFound : ℕ → List (List ℕ) → List ℕ → Type 0
AreFound g lists work = (a : ℕ) → Has work a → Has (row lists a) g

-- What each step keeps.
pub record Spreading (g : ℕ) (old new : List (List ℕ)) (work : List ℕ) : Type 0 where
  pub adds : Adds g old new
  pub upto : AreUpTo g new
  pub works : AreFound g new work

-- The numbers in the rows are below n.
abbrev pub AreBelow : ℕ → List (List ℕ) → Type 0
AreBelow n rows = (a b : ℕ) → Has (row rows a) b → b < n

-- The first subprograms have the object, which no other one has, and are in the work.
pub record AreStarted (g : ℕ) (users : List ℕ) (lists : List (List ℕ)) (work : List ℕ) : Type 0 where
  pub all : (a : ℕ) → Has users a → Has (row lists a) g
  pub only : (a : ℕ) → Has (row lists a) g → Has users a × Has work a

-- In how many lists the object is not.
abbrev pub lacking : ℕ → List (List ℕ) → ℕ
lacking g [] = 0
lacking g (xs ∷ lists) = (if is_in g xs then 0 else 1) + lacking g lists

-- The subprograms whose own text uses an object.
pub record AreUsers (w : Bool) (rows : TypedNodes) (subs : List LaidSub) (g : ℕ) (users : List ℕ) : Type 0 where
  pub all : (p : ℕ) → p < length subs → list_any (laid_uses w rows g) (points_at subs p) ≡ true → Has users p
  pub only : (p : ℕ) → Has users p → list_any (laid_uses w rows g) (points_at subs p) ≡ true

-- For each of so many objects, the subprograms whose own text uses it.
abbrev pub AreUsersOf : Bool → TypedNodes → ℕ → List LaidSub → List (List ℕ) → Type 0
AreUsersOf w rows size subs users =
    AreMarked size (length subs) (λ p g. list_any (laid_uses w rows g) (points_at subs p)) users

-- For each subprogram, those that call it.
abbrev pub AreCallers : List LaidSub → List (List ℕ) → Type 0
AreCallers subs callers =
    AreMarked (length subs) (length subs) (λ p q. list_any (laid_calls q) (points_at subs p)) callers

-- Each list ascends, and its objects are below g.
pub record AreOrdered (count g : ℕ) (lists : List (List ℕ)) : Type 0 where
  pub sized : length lists ≡ count
  pub order : (a : ℕ) → Ascends (row lists a)
  pub below : (a x : ℕ) → Has (row lists a) x → x < g

-- The lists have, of the objects below g, exactly those that each subprogram uses.
pub record AreListed (w : Bool) (program : FlowProgram) (g : ℕ) (lists : List (List ℕ)) : Type 0 where
  pub only : (a x : ℕ) → Has (row lists a) x → Uses w program a x
  pub all : (a x : ℕ) → x < g → Uses w program a x → Has (row lists a) x

-- The lists got one object more: g, whose own users these are.
abbrev pub ListsMore : Laid → ℕ → List ℕ → List (List ℕ) → List (List ℕ) → Type 0
ListsMore laid g users old new =
    (w : Bool) → AreUsers w laid.rows laid.subs g users → AreListed w (program_of laid) g old → AreListed w (program_of laid) (g + 1) new

-- The lists have exactly the objects that each subprogram uses.
pub record AreWhole (w : Bool) (laid : Laid) (lists : List (List ℕ)) : Type 0 where
  pub behind : ℕ
  pub some : 0 < behind
  pub objects : length laid.objects ≤ behind
  pub ordered : AreOrdered (length laid.subs) behind lists
  pub listed : AreListed w (program_of laid) behind lists
