-- Points that release a cell, and the ends of scopes, over both heaps.
use Rattle.std.proofs.Common.{◌≡◌, refl, sym, ap, ◌∙◌, subst, ℕ, zero, suc, ◌+◌, Bool, true, false, nat_lt, append-nil, List, [], ◌∷◌, ◌++◌, drop, length, slice_get, Option, Some, None, ℤ, pos, if◌then◌else◌}
use Rattle.std.specs.Prelude.{unsigned_abs}
use Rattle.handled_runs.specs.spark_base.declared.position.Pos.{Pos}
use Rattle.handled_runs.specs.run_values.declared.value.Kind.{Kind}
use Rattle.handled_runs.specs.run_values.declared.value.Kind.TheVariants as sort
use Rattle.handled_runs.specs.machine.Evaluate.{Twice}
use Rattle.handled_runs.specs.machine.States.{Leak}
use Rattle.handled_runs.specs.kept_cells.Cells.{Cell}
use Rattle.handled_runs.specs.run_codes.Codes.{Place}
use Rattle.handled_runs.specs.run_codes.Flat.{Flat, Got, Given, Stops, Broken, Traps, and_then, found, kinds, most_cells, default_words, Spot, InStack, InCell}
use Rattle.handled_runs.specs.run_codes.Flat as flat
use Rattle.handled_runs.specs.run_codes.Points as points
use Rattle.handled_runs.specs.Slots.{Slots}
use Rattle.handled_runs.specs.Leaks.{leak, leaks_at, IsLeaked}
use Rattle.handled_runs.specs.Assigned.{Left, AreLeft}
use Rattle.handled_runs.specs.Released.{flat_freed, flat_cell, flat_named, flat_at, flat_released, released, LooksFor}
use Rattle.handled_runs.specs.Beside.{handle_word, all_renamed, Beside}
use Rattle.handled_runs.specs.Looks.{IsFront}
use Rattle.handled_runs.specs.Alike.{AreNumbers}
use Rattle.handled_runs.specs.Marks.{Stands}
use Rattle.handled_runs.proofs.Marking.{stands_at}
use Rattle.handled_runs.proofs.Filled.{numbers_renamed, numbers_long, numbers_named}
use Rattle.handled_runs.proofs.Leaks.{leak_same, leaks_gots}
use Rattle.handled_runs.proofs.Released.{released_alike}
use Rattle.handled_steps.specs.States.{Outcome, Turn, start, on_got, leaking_goes}
use Rattle.handled_steps.specs.Steps.{release, end_pointer, end_scope, put_words, left_goes}
use Rattle.handled_steps.specs.Alike.{OutcomesAlike, led_kinds}
use Rattle.handled_steps.specs.Looks.{HavePointers, LeaksAt, taken_kinds}
use Rattle.handled_steps.proofs.Turns.{Both, flat_turn, slot_turn, start_more, got_on, leaking_goes_alike}
use Rattle.handled_steps.proofs.Gots.{stack_gots, put_gots}
use Rattle.handled_steps.proofs.Stores.{left_alike}
use Rattle.handled_steps.proofs.Tables.{defaults_numbers}

pub front_one : (ks : List Kind) (n : ℕ) (k : Kind) → slice_get ks n ≡ Some k → IsFront (k ∷ []) (drop n ks)
front_one [] n k is = cc
front_one (j ∷ ks) zero k is = ((let same : j ≡ k = cc in sym same), tt)
front_one (j ∷ ks) (suc n) k is = front_one ks n k is

-- ---- a release, in one piece

module _ (t : points.Turn) (of : ℕ) (at : Pos) (n : Option ℕ) where
  abbrev m : Flat
  m = points.start t

  abbrev to : Left Flat → points.Outcome
  to l = points.leaking_goes t l.leaks l.memory n

  abbrev freeing : Spot → ℕ → Cell → points.Outcome
  freeing s k c =
      if c.freed then points.halted t (Traps Twice) m
      else points.on_got t m (points.leaks_at t.table m (InCell k 0) of at)
      (λ leaks. points.on_got t m (flat.stored m s (sort.Access ∷ []) (pos 0 ∷ []))
      (λ i. points.leaking_goes t leaks (flat.without_cell i k (length c.words)) n))

  abbrev of_cell : Spot → ℕ → Option Cell → points.Outcome
  of_cell s k None = points.Fails
  of_cell s k (Some c) = if nat_lt k most_cells then freeing s k c else points.Fails

  abbrev named : Spot → ℕ → points.Outcome
  named s zero = points.goes t m n
  named s (suc k) = of_cell s k (slice_get m.cells k)

  abbrev by_words : Spot → List ℤ → points.Outcome
  by_words s (w ∷ []) = named s (unsigned_abs w)
  by_words s _ = points.Fails

  none_leaks : (x : points.State) → points.Goes x ≡ points.Goes (points.leaking [] x)
  none_leaks x = ap (λ ls. points.Goes (record x { leaks = ls })) (sym (append-nil x.leaks))

  freed_is : (s : Spot) (k : ℕ) (c : Cell) → freeing s k c ≡ points.on_got t m (flat_freed t.table of at s m k c) to
  freed_is s k c = by c.freed
    where
      kept : (leaks : List Leak) (x : Got Flat) → points.on_got t m x (λ i. points.leaking_goes t leaks (flat.without_cell i k (length c.words)) n)
          ≡ points.on_got t m (and_then x (λ i. Given (record { leaks = leaks; memory = flat.without_cell i k (length c.words) }))) to
      kept leaks (Given i) = refl
      kept leaks (Stops x) = refl
      kept leaks Broken = refl

      checked : (g : Got (List Leak))
          → points.on_got t m g (λ leaks. points.on_got t m (flat.stored m s (sort.Access ∷ []) (pos 0 ∷ [])) (λ i. points.leaking_goes t leaks (flat.without_cell i k (length c.words)) n))
          ≡ points.on_got t m (and_then g (λ leaks. and_then (flat.stored m s (sort.Access ∷ []) (pos 0 ∷ [])) (λ i. Given (record { leaks = leaks; memory = flat.without_cell i k (length c.words) })))) to
      checked (Given leaks) = kept leaks (flat.stored m s (sort.Access ∷ []) (pos 0 ∷ []))
      checked (Stops x) = refl
      checked Broken = refl

      by : (b : Bool)
          → (if b then points.halted t (Traps Twice) m
          else points.on_got t m (points.leaks_at t.table m (InCell k 0) of at)
          (λ leaks. points.on_got t m (flat.stored m s (sort.Access ∷ []) (pos 0 ∷ [])) (λ i. points.leaking_goes t leaks (flat.without_cell i k (length c.words)) n)))
          ≡ points.on_got t m (if b then Stops (Traps Twice)
          else and_then (points.leaks_at t.table m (InCell k 0) of at)
          (λ leaks. and_then (flat.stored m s (sort.Access ∷ []) (pos 0 ∷ [])) (λ i. Given (record { leaks = leaks; memory = flat.without_cell i k (length c.words) })))) to
      by true = refl
      by false = checked (points.leaks_at t.table m (InCell k 0) of at)

  cell_is : (s : Spot) (k : ℕ) (x : Option Cell) → of_cell s k x ≡ points.on_got t m (flat_cell t.table of at s m k x) to
  cell_is s k None = refl
  cell_is s k (Some c) = by (nat_lt k most_cells)
    where
      by : (b : Bool) → (if b then freeing s k c else points.Fails) ≡ points.on_got t m (if b then flat_freed t.table of at s m k c else Broken) to
      by true = freed_is s k c
      by false = refl

  named_is : (s : Spot) (k : ℕ) → named s k ≡ points.on_got t m (flat_named t.table of at s m k) to
  named_is s zero = none_leaks (points.after t (points.waiting t) m n)
  named_is s (suc k) = cell_is s k (slice_get m.cells k)

  words_are : (s : Spot) (g : Got (List ℤ)) → points.on_got t m g (by_words s) ≡ points.on_got t m (and_then g (flat_at t.table of at s m)) to
  words_are s (Given []) = refl
  words_are s (Given (w ∷ [])) = named_is s (unsigned_abs w)
  words_are s (Given (w ∷ v ∷ rest)) = refl
  words_are s (Stops x) = refl
  words_are s Broken = refl

  pub release_is : (p : Place) → points.release t p of at n ≡ points.on_got t m (flat_released t.table p of at m) to
  release_is p = by (flat.spot m p)
    where
      by : (g : Got Spot) → points.on_got t m g (λ s. points.on_got t m (flat.words_at m s (sort.Access ∷ [])) (by_words s))
          ≡ points.on_got t m (and_then g (λ q. and_then (flat.words_at m q (sort.Access ∷ [])) (flat_at t.table of at q m))) to
      by (Given s) = words_are s (flat.words_at m s (sort.Access ∷ []))
      by (Stops x) = refl
      by Broken = refl

-- ---- the laws

module _ (handles : List ℕ) (here : List Kind) (z : Both handles here) where
  abbrev turn : points.Turn
  turn = flat_turn handles here z

  abbrev u : Turn
  u = slot_turn handles here z

  abbrev takes : List Kind
  takes = taken_kinds turn

  abbrev first : Flat
  first = points.start turn

  abbrev s : Slots
  s = start u

  abbrev hs : List ℕ
  hs = handles ++ []

  abbrev Same : List Kind → points.Outcome → Outcome → Type 0
  Same = OutcomesAlike z.table handles

  beside : Beside hs here takes first s
  beside = start_more handles here z

  pub release_alike : HavePointers z.table → (p : Place) (of : ℕ) (at : Pos) (n : Option ℕ) → LooksFor z.table first here takes p of
      → Same (led_kinds turn here n) (points.release turn p of at n) (release u p of at n)
  release_alike pointers p of at n looks =
      subst (λ x. Same (led_kinds turn here n) x (release u p of at n)) (sym (release_is turn of at n p))
      (got_on handles here z [] here takes first s beside (AreLeft hs here takes) (led_kinds turn here n) (flat_released z.table p of at first) (released z.table p of at s)
      (λ l. points.leaking_goes turn l.leaks l.memory n) (left_goes u n)
      (released_alike hs here takes first s beside z.clear z.table of at (pointers of) p looks)
      (λ a b found both. left_alike handles here z [] first s n a b both))

  -- words of the stack that are put, after leak checks
  put_leaking : (at : ℕ) (ks : List Kind) (zs : List ℤ) (leaks ls : List Leak) (n : Option ℕ) → IsFront ks (drop (first.base + at) here) → AreNumbers ks zs → ls ≡ leaks
      → Same (led_kinds turn here n) (points.on_got turn first (points.put_words first at zs) (λ i. points.leaking_goes turn leaks i n)) (on_got u s (put_words s at zs) (λ i. leaking_goes u ls i n))
  put_leaking at ks zs leaks ls n is are same =
      subst (λ ws. Same (led_kinds turn here n) (points.on_got turn first (points.put_words first at zs) (λ i. points.leaking_goes turn leaks i n)) (on_got u s (put_words s at ws) (λ i. leaking_goes u ls i n)))
      (sym (numbers_renamed hs ks zs are))
      (got_on handles here z [] here takes first s beside (Beside hs here takes) (led_kinds turn here n) (points.put_words first at zs) (put_words s at (all_renamed hs ks zs))
      (λ i. points.leaking_goes turn leaks i n) (λ i. leaking_goes u ls i n)
      (put_gots hs here takes first s beside at ks zs is (numbers_long ks zs are) (numbers_named (length hs) ks zs are))
      (λ i j found both.
      subst (λ xs. Same (led_kinds turn here n) (points.leaking_goes turn leaks i n) (leaking_goes u xs j n)) (sym same)
      (leaking_goes_alike handles here z [] takes i j both leaks n)))

  pub pointer_alike : (at : ℕ) (n : Option ℕ) → slice_get here (z.f.base + at) ≡ Some sort.Access → ((w : ℤ) → slice_get first.stack (z.f.base + at) ≡ Some w → IsLeaked first.cells w)
      → Same (led_kinds turn here n) (points.end_pointer turn at n) (end_pointer u at n)
  pointer_alike at n is leaked =
      subst (λ i. Same (led_kinds turn here n) (points.end_pointer turn at n)
      (on_got u s (found (slice_get s.stack (i + at))) (λ w. on_got u s (put_words s at (pos 0 ∷ [])) (λ j. leaking_goes u (leak s.numbers z.point.pos w) j n)))) (sym z.frame.base)
      (got_on handles here z [] here takes first s beside (λ a b. b ≡ handle_word hs a) (led_kinds turn here n) (found (slice_get first.stack (z.f.base + at))) (found (slice_get s.stack (z.f.base + at)))
      (λ w. points.on_got turn first (points.put_words first at (pos 0 ∷ [])) (λ i. points.leaking_goes turn (points.leak z.point.pos w) i n))
      (λ w. on_got u s (put_words s at (pos 0 ∷ [])) (λ j. leaking_goes u (leak s.numbers z.point.pos w) j n))
      (stack_gots hs here takes first s beside (z.f.base + at) sort.Access is)
      (λ w v at_word same.
      put_leaking at (sort.Access ∷ []) (pos 0 ∷ []) (points.leak z.point.pos w) (leak s.numbers z.point.pos v) n (front_one here (z.f.base + at) sort.Access is) (refl, tt)
      (ap (leak s.numbers z.point.pos) same ∙ leak_same hs here takes first s beside z.point.pos w (leaked w (some_found (slice_get first.stack (z.f.base + at)) w at_word)))))
    where
      some_found : (x : Option ℤ) (w : ℤ) → found x ≡ Given w → x ≡ Some w
      some_found (Some v) w e = let same : v ≡ w = cc in ap Some same
      some_found None w e = cc

  pub scope_alike : HavePointers z.table → (at of : ℕ) (n : Option ℕ) → Stands here (InStack (z.f.base + at)) (kinds z.table of) × LeaksAt z.table first (InStack (z.f.base + at)) of
      → Same (led_kinds turn here n) (points.end_scope turn at of n) (end_scope u at of n)
  scope_alike pointers at of n looks =
      subst (λ i. Same (led_kinds turn here n) (points.end_scope turn at of n)
      (on_got u s (leaks_at z.table s (InStack (i + at)) of z.point.pos) (λ leaks. on_got u s (put_words s at (default_words z.table of)) (λ j. leaking_goes u leaks j n)))) (sym z.frame.base)
      (got_on handles here z [] here takes first s beside (λ a b. b ≡ a) (led_kinds turn here n) (points.leaks_at z.table first (InStack (z.f.base + at)) of z.point.pos)
      (leaks_at z.table s (InStack (z.f.base + at)) of z.point.pos)
      (λ leaks. points.on_got turn first (points.put_words first at (default_words z.table of)) (λ i. points.leaking_goes turn leaks i n))
      (λ leaks. on_got u s (put_words s at (default_words z.table of)) (λ j. leaking_goes u leaks j n))
      (leaks_gots hs here takes first s beside z.table (InStack (z.f.base + at)) of z.point.pos (stands_at hs here takes first beside.known (InStack (z.f.base + at)) (kinds z.table of) looks.0) (pointers of) looks.1)
      (λ leaks ls found same. put_leaking at (kinds z.table of) (default_words z.table of) leaks ls n looks.0.0 (defaults_numbers z.table of) same))
