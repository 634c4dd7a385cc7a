-- What the definitions say at their edges, some of which no typed program comes to.
use Rattle.std.proofs.Common.{◌≡◌, refl, sym, ◌∙◌, inl, inr, ℕ, [], ◌∷◌, true, false, arith}
use Rattle.std.specs.Prelude.{ℤ, pos, negsuc, None}
use Rattle.type_definitions.specs.declared.table.Info.{Info}
use Rattle.type_definitions.specs.declared.table.Shape.{Shape}
use Rattle.type_definitions.specs.declared.table.Shape.TheVariants as shape
use Rattle.typed_tree.specs.Trees.{TypedTree, Number, Null, Name, Element, Alike, New, NoMore, Interval, More}
use Rattle.flow_paths.specs.Objects.{Typing}
use Rattle.flow_paths.specs.Laid.{flow_typing}
use Rattle.flow_tests.proofs.Flow.{flow}
use Rattle.flow_tests.proofs.ResolvedTrees.{at}
use Rattle.machine.specs.Words.{Int, Cell}
use Rattle.machine.specs.Memory.{fresh}
use Rattle.machine.specs.Evaluate.{ConstraintError}
use Rattle.machine.specs.States.{Waiting, State, frame_at_start}
use Rattle.machine.specs.Step.{Turn, raised, choose}
use Rattle.machine.specs.Run.{moment}
use Rattle.machine.specs.Owners.{InWaiting, Owns, WellOwned}
use Rattle.machine.specs.Typed.{Whole, Pointer, gives}
use Rattle.machine_tests.proofs.Running.{running, leak}
use Rattle.machine_tests.proofs.Sources.{images, inner_leak}

-- ---- steps

-- A choice without an alternative that fits raises Constraint_Error.
none_fits : (t : Turn) → choose t (Number (pos 3)) (More (Interval (pos 1) (pos 2)) NoMore ∷ []) ≡ raised t ConstraintError t.state.memory
unfolding running
none_fits t = refl

-- The cell that is freed has one access part. Its check is the one that fails.
which_failed : (moment (flow inner_leak) [] 2).checks ≡ (leak 1 (at 16 7) ∷ []) ∷ []
unfolding running
which_failed = refl

-- The next step has checks of its own.
none_failed : (moment (flow inner_leak) [] 3).checks ≡ []
unfolding running
none_failed = refl

-- ---- typed expressions

abbrev images_typing : Typing
images_typing = flow_typing (flow images)

-- A number is a value of Integer.
largest : gives images_typing (Whole ∷ []) (Number (pos 2147483647)) ≡ true
unfolding running
largest = refl

too_large : gives images_typing (Whole ∷ []) (Number (pos 2147483648)) ≡ false
unfolding running
too_large = refl

-- R (0), where R is an array with the bounds -1 .. 1 of elements of Integer, with these bounds and
-- type.
abbrev element : ℤ → ℤ → ℕ → TypedTree
element low high kept = Name (at 11 1) 3 (Element (Number (pos 0)) low high NoMore) kept

own_bounds : gives images_typing (Whole ∷ []) (element (negsuc 0) (pos 1) 0) ≡ true
unfolding running
own_bounds = refl

other_bounds : gives images_typing (Whole ∷ []) (element (negsuc 0) (pos 2) 0) ≡ false
unfolding running
other_bounds = refl

-- Positive, which is number 2, has words of the same sort, but isn't the type that is reached.
other_type : gives images_typing (Whole ∷ []) (element (negsuc 0) (pos 1) 2) ≡ false
unfolding running
other_type = refl

-- Type 1 designates Integer; type 2 is an array of two of type 1.
abbrev info : Shape → Info
info s = record { shape = s; base = 0; parent = None; seen_in = None; completed = None; bounded = true }

abbrev pointers : Typing
pointers = record {
  table = info (shape.Whole (negsuc 2147483647) (pos 2147483647)) ∷ info (shape.Access 0 false true) ∷ info (shape.Elements (pos 1) (pos 2) 1) ∷ [];
  objects = [];
  subs = [];
}

all_null : gives pointers (Pointer 0 ∷ Pointer 0 ∷ []) (Alike 2 Null) ≡ true
unfolding running
all_null = refl

-- One cell would have two owners.
all_one : gives pointers (Pointer 0 ∷ Pointer 0 ∷ []) (Alike 2 (New 0 NoMore)) ≡ false
unfolding running
all_one = refl

-- ---- owners

-- Two values wait, and both are the access value of cell 1.
abbrev value : Waiting
value = record { of = 1; words = Cell 1 ∷ [] }

abbrev both_wait : State
both_wait = record {
  frames = record (frame_at_start 0 []) { waits = value ∷ value ∷ [] } ∷ [];
  memory = record { variables = []; cells = record { of = 0; slots = fresh (Int (pos 7) ∷ []); freed = false } ∷ []; peaks = [] };
  at = 0;
  output = [];
  leaks = [];
  checks = [];
  steps = 0;
}

first_owns : Owns pointers both_wait (InWaiting 0) 0 1
unfolding running
first_owns = record { may = refl; access = inl refl; holds = refl }

second_owns : Owns pointers both_wait (InWaiting 1) 0 1
unfolding running
second_owns = record { may = refl; access = inl refl; holds = refl }

-- Such a state isn't well owned.
two_owners : WellOwned pointers both_wait → ⊥
two_owners well = elim (well.each 1 (omega arith) (omega arith)) [
  | inl freed ↦ (let wrong : false ≡ true = freed in cc)
  | inr rest ↦ elim rest [
    | inl leaked ↦ absurd leaked.1
    | inr one ↦ (
        let first = (one.only (InWaiting 0) 0 first_owns).0 in
        let second = (one.only (InWaiting 1) 0 second_owns).0 in
        let same : InWaiting 0 ≡ InWaiting 1 = first ∙ sym second in cc)
  ]
]
