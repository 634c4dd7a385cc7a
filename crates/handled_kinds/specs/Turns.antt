-- What is asked of points beyond the kinds of words: what a leak check tells of is there.
use Rattle.std.specs.Prelude.{◌≡◌, ◌+◌, List, [], ◌∷◌, slice_get, Some, ℤ}
use Rattle.run_values.specs.declared.value.Kind.TheVariants as sort
use Rattle.machine.specs.Words.{access_offsets}
use Rattle.run_codes.specs.Codes.{Does, Assign, Call, Release, EndPointer, EndScope}
use Rattle.run_codes.specs.Flat.{Flat, Given, Done, Spot, InStack, kinds, spot, words_at, filled}
use Rattle.run_codes.specs.Points.{Passed, all_passed, start}
use Rattle.run_codes.specs.Points as points
use Rattle.handled_runs.specs.Leaks.{IsLeaked, AreLeaked}
use Rattle.handled_runs.specs.Assigned.{WhereChecked}
use Rattle.handled_runs.specs.Released.{IsOwner}
use Rattle.handled_steps.specs.Looks.{LeaksAt, LooksOut}

abbrev pub LeaksThere : points.Turn → Does → Type 0
LeaksThere t (Assign p v of checks n) =
    (zs : List ℤ) (m : Flat) → filled t.table v (start t) ≡ Done zs m
    → WhereChecked checks ((q : Spot) → spot m p ≡ Given q → (us : List ℤ) → words_at m q (kinds t.table of) ≡ Given us
    → AreLeaked m.cells us (access_offsets t.table of))
LeaksThere t (Call sub actuals n) = (passed : List Passed) (m : Flat) → all_passed t.table actuals (start t) ≡ Done passed m → LooksOut t.table m passed
LeaksThere t (Release p of at n) =
    (q : Spot) → spot (start t) p ≡ Given q → (z : ℤ) → words_at (start t) q (sort.Access ∷ []) ≡ Given (z ∷ []) → IsOwner t.table (start t) of z
LeaksThere t (EndPointer at n) = (z : ℤ) → slice_get (start t).stack (t.frame.base + at) ≡ Some z → IsLeaked (start t).cells z
LeaksThere t (EndScope at of n) = LeaksAt t.table (start t) (InStack (t.frame.base + at)) of
LeaksThere t _ = Unit {0}
