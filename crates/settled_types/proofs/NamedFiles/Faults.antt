-- Where a list of events breaks no rule of names, its parts break none.
use Rattle.std.proofs.Common.{◌≡◌, List, [], ◌∷◌, ◌++◌, Option, Some, None, refl, ap}
use Rattle.std.proofs.lemmas.Bool.{true≢false}
use Rattle.std.specs.Prelude.{is_some}
use Rattle.name_events.specs.declared.event.Event.{Event}
use Rattle.name_events.specs.Known.{Known}
use Rattle.name_events.specs.KnownBehind.{known_behind, known_behind_all}
use Rattle.name_events.specs.Declarations.{or_else}
use Rattle.name_events.specs.Faults.{fault, first_fault}

-- ---- one after the other

or_first : {A : Type 0} (a b : Option A) → or_else a b ≡ None → a ≡ None
or_first None b e = refl
or_first (Some x) b e = absurd (true≢false (ap is_some e))

or_second : {A : Type 0} (a b : Option A) → or_else a b ≡ None → b ≡ None
or_second None b e = e
or_second (Some x) b e = absurd (true≢false (ap is_some e))

or_both : {A : Type 0} (a b : Option A) → a ≡ None → b ≡ None → or_else a b ≡ None
or_both None b e f = f
or_both (Some x) b e f = cc

module _ (whole : Known) where
  abbrev pub BreaksNone : Known → List Event → Type 0
  BreaksNone now events = first_fault whole now events ≡ None

  pub one_none : (x : Event) (rest : List Event) (now : Known) → BreaksNone now (x ∷ rest) → fault whole now x ≡ None
  unfolding first_fault
  one_none x rest now none = or_first (fault whole now x) (first_fault whole (known_behind now x) rest) none

  pub rest_none : (x : Event) (rest : List Event) (now : Known) → BreaksNone now (x ∷ rest) → BreaksNone (known_behind now x) rest
  unfolding first_fault
  rest_none x rest now none = or_second (fault whole now x) (first_fault whole (known_behind now x) rest) none

  pub first_none : (xs ys : List Event) (now : Known) → BreaksNone now (xs ++ ys) → BreaksNone now xs
  unfolding first_fault
  first_none [] ys now none = refl
  first_none (x ∷ xs) ys now none =
      or_both (fault whole now x) (first_fault whole (known_behind now x) xs) (one_none x (xs ++ ys) now none)
      (first_none xs ys (known_behind now x) (rest_none x (xs ++ ys) now none))

  pub second_none : (xs ys : List Event) (now : Known) → BreaksNone now (xs ++ ys) → BreaksNone (known_behind_all now xs) ys
  unfolding first_fault
  second_none [] ys now none = none
  second_none (x ∷ xs) ys now none = second_none xs ys (known_behind now x) (rest_none x (xs ++ ys) now none)
