-- What is known of names and expressions in a memory, so that they give the same in one that agrees
-- with it. Classes of programs differ in what they ask of the text and in how a name leads: each
-- class says so in these records, and what follows is proved once.
use Rattle.std.proofs.Common.{◌≡◌, ℕ, Bool, true, false, ◌||◌, List, [], ◌∷◌, ◌++◌, length, if◌then◌else◌}
use Rattle.machine.specs.place_names.declared.act.Act.{Act}
use Rattle.machine.specs.place_names.declared.act.Act.TheVariants as act
use Rattle.machine.specs.place_names.declared.act.Placed.{Placed}
use Rattle.machine.specs.place_names.declared.fact.Fact.{Fact}
use Rattle.machine.specs.type_definitions.declared.table.Shape.TheVariants as shape
use Rattle.machine.specs.type_definitions.Types.{shape_of, is_owning, words, parts}
use Rattle.machine.specs.typed_tree.Trees.{TypedTree, Parens, Aggregate, Alike, New, More}
use Rattle.machine.specs.flow_paths.Objects.{object_at}
use Rattle.machine.specs.flow_paths.Names.{has_call, waiting, name_of}
use Rattle.machine.specs.flow_paths.Acts.{acts_in}
use Rattle.machine.specs.Words.{element_type, fits_type}
use Rattle.machine.specs.Words as machine
use Rattle.machine.specs.Memory.{Memory, Place, slots_of, OfVariable}
use Rattle.machine.specs.Evaluate.{Here, Now, Use, AsValue, part_type, Evaluated, Done, Raises, Traps, followed_by, evaluate, steps_of, checked, variable_place, walked}
use Rattle.machine.specs.Evaluate as run
use Rattle.machine.specs.Typed.{is_record, is_array}
use Rattle.machine.specs.States.{Waiting}
use Rattle.soundness.specs.OwnedWays.Ways.{Loc, Allows, after, AllowsAll}
use Rattle.soundness.specs.Typed.{Matches, Kept, Spot}
use Rattle.soundness.specs.Sound.{goes_through_none}
use Rattle.soundness.specs.TypedLaws.Needed.{Stays, Leads, Gives}
use Rattle.soundness.proofs.Scalars.{acts}
use Rattle.soundness.proofs.Taking.{Takes}
use Rattle.soundness.proofs.Stays.{Quiet, One}
use Rattle.recycled_runs.proofs.ViewedFacts.NullPlaces.Memories.{NoneGone}
use Rattle.recycled_runs.proofs.ViewedFacts.NullPlaces.Only.{OnlyOwners}
use Rattle.recycled_runs.proofs.ViewedFacts.NullPlaces.Walks.{SameNow, SameTo}
use Rattle.soundness.specs.Seen.{is_view_formal}

module _ (h : Here) where
  -- What is asked of the text.
  pub record Premises : Type 1 where
    -- whether there are calls in it
    pub calls : Bool → Type 0
    pub both_calls : (a b : Bool) → calls (a || b) → calls a × calls b
    -- what it takes of the results of calls, where it gives a value that may own
    pub gives : TypedTree → Type 0
    pub held : (e : TypedTree) → gives (Parens e) → gives e
    pub filled : (t : ℕ) (es : TypedTree) → gives (Aggregate t es) → gives es
    pub alike : (t : ℕ) (e : TypedTree) → gives (Alike t e) → gives e
    pub made : (t : ℕ) (e : TypedTree) → gives (New t e) → gives e
    pub both_give : (e rest : TypedTree) → gives (More e rest) → gives e × gives rest
    -- its acts
    pub keeps : List Act → Type 0
    pub both_keep : (a b : List Act) → keeps (a ++ b) → keeps a × keeps b
    -- the types of values that are taken
    pub takes : ℕ → Type 0
    pub part : (t i : ℕ) → is_record (shape_of h.typing.table t) || is_array (shape_of h.typing.table t) ≡ true
        → takes (part_type (shape_of h.typing.table t) i)
    pub element : (t : ℕ) → takes (element_type h.typing.table t)
    pub new : (want t d : ℕ) (c n : Bool) → shape_of h.typing.table want ≡ shape.Access d c n → Matches h.typing.table d t → takes t
    -- the steps of a name, with its indexes evaluated
    pub goes : ℕ → ℕ → TypedTree → List run.Step → Type 0

  module _ (asks : Premises) (m : Memory) (hands : List Waiting) (facts : List Fact) where
    -- The place of a name is in a location,
    abbrev pub IsAt : ℕ → Place → Type 0
    IsAt t k = (l : Loc) × Spot h.typing m hands k l × (k.of ≡ t)

    -- and nothing that it has is gone.
    abbrev pub IsWholeAt : ℕ → Place → Type 0
    IsWholeAt t k = (l : Loc) × Spot h.typing m hands k l × (k.of ≡ t) × NoneGone (slots_of h.typing m k)

    -- and it isn't in a formal that owns nothing.
    abbrev pub IsMovableAt : ℕ → Place → Type 0
    IsMovableAt t k = IsWholeAt t k × ((f x : ℕ) → k.base ≡ OfVariable f x → is_view_formal h.typing x ≡ false)

    -- This is known of the place where a name leads; and it leads to the same in memories that agree.
    abbrev pub Finds : List (List machine.Word) → ℕ → List run.Step → (Place → Type 0) → Type 0
    Finds on x way known =
        Quiet (record { memory = m; waits = on }) known (walked h.typing way (variable_place h x) (record { memory = m; waits = on }))
        × ((n' : Now) → SameNow h.typing (record { memory = m; waits = on }) n'
        → SameTo h.typing (walked h.typing way (variable_place h x) (record { memory = m; waits = on })) (walked h.typing way (variable_place h x) n'))

    abbrev pub LeadsSame : List (List machine.Word) → ℕ → ℕ → List run.Step → Type 0
    LeadsSame on x t way = Finds on x way (IsAt t)

    abbrev pub LeadsWhole : List (List machine.Word) → ℕ → ℕ → List run.Step → Type 0
    LeadsWhole on x t way = Finds on x way (IsWholeAt t)

    abbrev pub Stay : List Placed → Type 0
    Stay ps = after (acts ps) facts ≡ facts

    -- How names and scalar expressions behave, under acts that the facts allow.
    pub record Behaves : Type 0 where
      pub kept : Kept h.typing m hands
      pub only : OnlyOwners h.typing m
      pub quiet : (u : Use) (e : TypedTree) → Stays h.typing e → (before on : List (List machine.Word)) → Takes (waiting e) before on
          → asks.calls (has_call e) → AllowsAll facts (acts (acts_in h.typing e))
          → Quiet (record { memory = m; waits = on }) One (evaluate h u e (record { memory = m; waits = before })) × Stay (acts_in h.typing e)
      pub steps : (t u : ℕ) (steps : TypedTree) → Leads h.typing t steps u → (before on : List (List machine.Word)) → Takes (waiting steps) before on
          → asks.calls (has_call steps) → AllowsAll facts (acts (acts_in h.typing steps))
          → Quiet (record { memory = m; waits = on }) (λ way. asks.goes t u steps way) (steps_of h steps (record { memory = m; waits = before }))
          × Stay (acts_in h.typing steps)
      -- a name that is read, written or stored at
      pub read : (on : List (List machine.Word)) (x t : ℕ) (steps : TypedTree) (way : List run.Step) → asks.goes (object_at h.typing x).of t steps way
          → Allows facts (act.Read (name_of x steps)) → LeadsSame on x t way
      pub write : (on : List (List machine.Word)) (x t : ℕ) (steps : TypedTree) (way : List run.Step) → asks.goes (object_at h.typing x).of t steps way
          → Allows facts (act.Write (name_of x steps)) → LeadsSame on x t way
      pub direct : (on : List (List machine.Word)) (x t : ℕ) (steps : TypedTree) (way : List run.Step) → asks.goes (object_at h.typing x).of t steps way
          → goes_through_none steps ≡ true → LeadsSame on x t way
      -- one that is looked at, moved or freed
      pub look : (on : List (List machine.Word)) (x t : ℕ) (steps : TypedTree) (way : List run.Step) → asks.goes (object_at h.typing x).of t steps way
          → (d : ℕ) (c n : Bool) → shape_of h.typing.table t ≡ shape.Access d c n → Allows facts (act.Look (name_of x steps)) → LeadsWhole on x t way
      pub move : (on : List (List machine.Word)) (x t : ℕ) (steps : TypedTree) (way : List run.Step) → asks.goes (object_at h.typing x).of t steps way
          → is_owning h.typing.table t ≡ true → Allows facts (act.Move (name_of x steps) (parts h.typing.table t))
          → asks.keeps (act.Move (name_of x steps) (parts h.typing.table t) ∷ []) → Finds on x way (IsMovableAt t)
      pub free : (on : List (List machine.Word)) (x t : ℕ) (steps : TypedTree) (way : List run.Step) → asks.goes (object_at h.typing x).of t steps way
          → (d : ℕ) → shape_of h.typing.table t ≡ shape.Access d false true → Allows facts (act.Free (name_of x steps))
          → asks.keeps (act.Free (name_of x steps) ∷ []) → LeadsWhole on x t way

  -- ---- values

  -- What an expression comes to, with the values that wait then: a value in hand, or an exception.
  abbrev pub GivenBy : (Memory → List Waiting → List Fact → Type 0) → List (List machine.Word) → ℕ → List Waiting → List Fact
      → Evaluated (List machine.Word) → Type 0
  GivenBy ready on want hands facts (Done ws n) =
      ready n.memory (record { of = want; words = ws } ∷ hands) facts × (length ws ≡ words h.typing.table want) × (n.waits ≡ on)
  GivenBy ready on want hands facts (Raises e n) = Unit {0}
  GivenBy ready on want hands facts (Traps e n) = ⊥

  -- one that is checked against a subtype
  pub checked_by : (ready : Memory → List Waiting → List Fact → Type 0) (on : List (List machine.Word)) (t want : ℕ) (hands : List Waiting) (facts : List Fact)
      (x : Evaluated (List machine.Word)) → GivenBy ready on want hands facts x → GivenBy ready on want hands facts (followed_by x (checked h t))
  checked_by ready on t want hands facts (Done ws n) given = by_test (fits_type h.typing.table t ws)
    where
      by_test : (b : Bool) → GivenBy ready on want hands facts (if b then Done ws n else Raises run.ConstraintError n)
      by_test true = given
      by_test false = tt
  checked_by ready on t want hands facts (Raises e n) given = tt
  checked_by ready on t want hands facts (Traps e n) none = none

  -- In memories of which this is known, names and scalar expressions behave, and what may own gives a
  -- value, in a memory of which it is known.
  pub record Values (asks : Premises) (ready : Memory → List Waiting → List Fact → Type 0) : Type 0 where
    pub behaves : (m : Memory) (hands : List Waiting) (facts : List Fact) → ready m hands facts → OnlyOwners h.typing m → Behaves asks m hands facts
    pub given : (e : TypedTree) (want : ℕ) → Gives h.typing want e → asks.calls (has_call e) → asks.gives e → (before on : List (List machine.Word)) → Takes (waiting e) before on
        → (m : Memory) (hands : List Waiting) (facts : List Fact) → ready m hands facts → AllowsAll facts (acts (acts_in h.typing e))
        → asks.takes want → asks.keeps (acts (acts_in h.typing e))
        → GivenBy ready on want hands (after (acts (acts_in h.typing e)) facts) (evaluate h AsValue e (record { memory = m; waits = before }))
