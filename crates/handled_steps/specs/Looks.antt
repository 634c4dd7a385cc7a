-- What is asked of a step, so that both heaps take it alike.
--
-- Words have the kinds that the code is of, and none is gone as the step begins. What a leak check names is there.
use Rattle.std.specs.Prelude.{◌≡◌, ◌≤◌, ℕ, ◌+◌, true, List, [], ◌∷◌, ◌++◌, drop, length, flat_map, slice_get, Option, Some, None, ℤ}
use Rattle.handled_runs.specs.type_definitions.Types.{Table, full}
use Rattle.handled_runs.specs.type_definitions.Entries.{boolean}
use Rattle.handled_runs.specs.run_values.declared.value.Kind.{Kind}
use Rattle.handled_runs.specs.run_values.declared.value.Kind.TheVariants as sort
use Rattle.handled_runs.specs.machine.Words.{access_offsets}
use Rattle.handled_runs.specs.run_codes.Codes.{Code, Actual, ByValue, From, To, Piece, Bytes, NumberImage, LiteralImage, Does, Go, Put, Store, Assign, Call, Output, Input, Release, Test, Choose, Start, Next, EvaluateLeft, EvaluateRight, Hold, EndPointer, EndScope, Finish, Fall, Point}
use Rattle.handled_runs.specs.run_codes.Flat.{Flat, Given, Spot, InStack, Done, kinds, are_pointers, words_at, filled}
use Rattle.handled_runs.specs.run_codes.Points.{Held, Return, Frame, Passed, ToSpot, all_passed, sub_at, taken, start, are_taken}
use Rattle.handled_runs.specs.run_codes.Points as points
use Rattle.handled_runs.specs.run_codes.Programs.{Program}
use Rattle.handled_runs.specs.Looks.{IsData, Looks, IsFront, IsClear}
use Rattle.handled_runs.specs.Marks.{Stands}
use Rattle.handled_runs.specs.Leaks.{IsLeaked, AreLeaked}
use Rattle.handled_runs.specs.Alike.{LooksThere, LooksFill}
use Rattle.handled_runs.specs.Assigned.{LooksTo}
use Rattle.handled_runs.specs.Released.{LooksFor}
use Rattle.handled_steps.specs.Backs.{IsOneData, FitsOf}
use Rattle.handled_steps.specs.Alike.{frame_kinds, kinds_after}

-- Where access parts of a type stand, its words are access values.
abbrev pub HavePointers : Table → Type 0
HavePointers table = (t : ℕ) → are_pointers (kinds table t) (access_offsets table t) ≡ true

-- A word that names no cell.
abbrev pub LooksData : Flat → List Kind → List Kind → Code → Type 0
LooksData m here taken c = (k : Kind) × IsData k × Looks m here taken c k

-- The word at an index is of such a kind.
abbrev pub HasData : List Kind → ℕ → Type 0
HasData here n = (k : Kind) × IsData k × (slice_get here n ≡ Some k)

-- What isn't gone of the words of a type at a spot names a cell that is there.
abbrev pub LeaksAt : Table → Flat → Spot → ℕ → Type 0
LeaksAt table m q of = (zs : List ℤ) → words_at m q (kinds table of) ≡ Given zs → AreLeaked m.cells zs (access_offsets table of)

-- ---- calls

-- The kinds of words alone are asked of actuals and formals; and of leak checks, that what they tell of is there.
abbrev pub LooksActual : Table → ℕ → List Kind → List Kind → ℕ → Actual → Type 0
LooksActual table base here taken formal (ByValue v) = LooksFill table base here taken v (kinds table formal)
LooksActual table base here taken formal (From p of within) =
    LooksThere base here taken p (kinds table of) × FitsOf (full table within) (kinds table of)
    × (kinds table of ≡ kinds table formal) × FitsOf (full table of) (kinds table of)
LooksActual table base here taken formal (To p of at) =
    LooksThere base here taken p (kinds table of) × (kinds table of ≡ kinds table formal) × FitsOf (full table of) (kinds table of)

-- The formals are of these types.
abbrev pub LooksActuals : Table → ℕ → List Kind → List Kind → List ℕ → List Actual → Type 0
LooksActuals table base here taken formals [] = Unit {0}
LooksActuals table base here taken [] (a ∷ rest) = ⊥
LooksActuals table base here taken (f ∷ formals) (a ∷ rest) = LooksActual table base here taken f a × LooksActuals table base here taken formals rest

abbrev pub LooksOut : Table → Flat → List Passed → Type 0
LooksOut table m [] = Unit {0}
LooksOut table m (ToSpot q of p ∷ rest) = LeaksAt table m q of × LooksOut table m rest
LooksOut table m (_ ∷ rest) = LooksOut table m rest

-- Formals from an index of the stack on.
abbrev pub LooksFormals : Table → ℕ → List ℕ → List Kind → Type 0
LooksFormals table at [] here = Unit {0}
LooksFormals table at (f ∷ formals) here =
    IsFront (kinds table f) (drop at here) × (at ≤ length here) × LooksFormals table (at + length (kinds table f)) formals here

-- A point follows.
abbrev pub IsGoing : Option ℕ → Type 0
IsGoing (Some n) = Unit {0}
IsGoing None = ⊥

abbrev pub LooksCall : points.Turn → List Kind → List Kind → ℕ → List Actual → Type 0
LooksCall t here taken sub actuals =
    LooksActuals t.table t.frame.base here taken (sub_at t.program sub).formals actuals
    × LooksFormals t.table (length here) (sub_at t.program sub).formals (here ++ frame_kinds t.table (sub_at t.program sub))
    × ((passed : List Passed) (m : Flat) → all_passed t.table actuals (start t) ≡ Done passed m → LooksOut t.table m passed)

-- ---- points

abbrev pub LooksPiece : Flat → List Kind → List Kind → Piece → Type 0
LooksPiece m here taken (Bytes bytes) = Unit {0}
LooksPiece m here taken (NumberImage c) = LooksData m here taken c
LooksPiece m here taken (LiteralImage c of) = LooksData m here taken c

abbrev pub LooksPieces : Flat → List Kind → List Kind → List Piece → Type 0
LooksPieces m here taken [] = Unit {0}
LooksPieces m here taken (p ∷ rest) = LooksPiece m here taken p × LooksPieces m here taken rest

-- The bounds of a loop, and whether the first turn is to come.
abbrev pub HasLoop : List Kind → ℕ → Type 0
HasLoop here n = IsFront (sort.Int ∷ sort.Int ∷ sort.Int ∷ []) (drop n here)

abbrev pub LooksDoes : points.Turn → List Kind → List Kind → Does → Type 0
LooksDoes t here taken (Go n) = Unit {0}
LooksDoes t here taken (Put at v n) =
    (ks : List Kind) × LooksFill t.table t.frame.base here taken v ks × IsFront ks (drop (t.frame.base + at) here)
LooksDoes t here taken (Store p v k n) = LooksFill t.table t.frame.base here taken v (k ∷ []) × LooksThere t.frame.base here taken p (k ∷ [])
LooksDoes t here taken (Assign p v of checks n) =
    LooksFill t.table t.frame.base here taken v (kinds t.table of)
    × ((zs : List ℤ) (m : Flat) → filled t.table v (start t) ≡ Done zs m → LooksTo t.table t.frame.base m here taken p of checks)
LooksDoes t here taken (Call sub actuals n) = IsGoing n × LooksCall t here taken sub actuals
LooksDoes t here taken (Output pieces line n) = LooksPieces (start t) here taken pieces
LooksDoes t here taken (Input p low high n) = LooksThere t.frame.base here taken p (sort.Int ∷ [])
LooksDoes t here taken (Release p of at n) = LooksFor t.table (start t) here taken p of
LooksDoes t here taken (Test c holds fails) = LooksData (start t) here taken c
LooksDoes t here taken (Choose c choices) = LooksData (start t) here taken c
LooksDoes t here taken (Start at counter low high first last n) =
    LooksData (start t) here taken low × LooksData (start t) here taken high
    × HasData here (t.frame.base + at) × HasLoop here (t.frame.base + counter)
LooksDoes t here taken (Next at counter reversed default turn leave) =
    HasData here (t.frame.base + at) × HasLoop here (t.frame.base + counter)
LooksDoes t here taken (EvaluateLeft c or_else n decided) = LooksData (start t) here taken c × IsOneData (kinds t.table boolean)
LooksDoes t here taken (EvaluateRight c n) = LooksData (start t) here taken c × IsOneData (kinds t.table boolean)
LooksDoes t here taken (Hold v of n) = LooksFill t.table t.frame.base here taken v (kinds t.table of)
LooksDoes t here taken (EndPointer at n) =
    (slice_get here (t.frame.base + at) ≡ Some sort.Access)
    × ((z : ℤ) → slice_get (start t).stack (t.frame.base + at) ≡ Some z → IsLeaked (start t).cells z)
LooksDoes t here taken (EndScope at of n) =
    Stands here (InStack (t.frame.base + at)) (kinds t.table of) × LeaksAt t.table (start t) (InStack (t.frame.base + at)) of
LooksDoes t here taken Finish = Unit {0}
LooksDoes t here taken Fall = Unit {0}

-- ---- steps and runs

-- The kinds of the values that a point takes.
abbrev pub taken_kinds : points.Turn → List Kind
taken_kinds t = flat_map (λ (h : Held). kinds t.table h.of) (taken t)

-- A step begins without anything that is gone.
abbrev pub LooksTurn : points.Turn → List Kind → Type 0
LooksTurn t here = IsClear here (taken_kinds t) (start t) × (are_taken t ≡ true → LooksDoes t here (taken_kinds t) t.point.does)

abbrev pub turn_of : Table → Program → List ℕ → points.State → Frame → List Frame → Point → points.Turn
turn_of table program input s f outer p = record { table = table; program = program; input = input; point = p; state = s; frame = f; outer = outer }

abbrev pub LooksPoint : Table → Program → List ℕ → points.State → List Kind → Frame → List Frame → Option Point → Type 0
LooksPoint table program input s here f outer None = Unit {0}
LooksPoint table program input s here f outer (Some p) = LooksTurn (turn_of table program input s f outer p) here

abbrev pub LooksStep : Table → Program → List ℕ → points.State → List Kind → List Frame → Type 0
LooksStep table program input s here [] = Unit {0}
LooksStep table program input s here (f ∷ outer) = LooksPoint table program input s here f outer (slice_get program.points f.next)

-- The kinds of the stack after a step.
abbrev pub point_kinds : Table → Program → List ℕ → points.State → List Kind → Frame → List Frame → Option Point → List Kind
point_kinds table program input s here f outer None = here
point_kinds table program input s here f outer (Some p) = kinds_after (turn_of table program input s f outer p) here p.does

abbrev pub step_kinds : Table → Program → List ℕ → points.State → List Kind → List Frame → List Kind
step_kinds table program input s here [] = here
step_kinds table program input s here (f ∷ outer) = point_kinds table program input s here f outer (slice_get program.points f.next)
