-- The spot of a place that is lowered is that of the machine's place.
use Rattle.std.proofs.Common.{◌≡◌, ℕ, zero, suc, ◌+◌, ◌≤◌, true, false, Bool, ◌&&◌, length, drop, refl, sym, ap, subst, ◌∙◌, arith, Some, None, slice_get, ℤ, pos, nat_lt, if◌then◌else◌}
use Rattle.std.specs.Prelude.{nat_le, option_and_then, unsigned_abs, ◌==◌}
use Rattle.machine.specs.typed_tree.Trees.{TypedTree, Name}
use Rattle.machine.specs.flow_paths.Names.{waiting}
use Rattle.machine.specs.flow_paths.Objects.{object_at}
use Rattle.machine.specs.Typed.{sorts}
use Rattle.machine.specs.Memory.{Place}
use Rattle.machine.specs.Evaluate.{Evaluated, Done, followed_by, Touched, steps_of, walked, variable_place, place_of}
use Rattle.run_codes.specs.Codes.{InFrame, InPackages, Behind}
use Rattle.run_codes.specs.Codes as codes
use Rattle.run_codes.specs.Flat.{Flat, Got, Given, Stops, Broken, Stop, Traps, and_then, is_broken, touched, most_cells, most_offsets, InStack, InCell, cell_spot, stack_spot, spot, word, words_in, indexes}
use Rattle.run_codes.specs.Lowered.{Site, Placed, object_place, led, place}
use Rattle.run_codes.specs.Related.{Seen, table, here, now, IsSeen, IsTouch, InCell as Cellwise, IsDesignated, IsBehind, Leads, InObject, SpotSame}
use Rattle.run_codes.proofs.Parts.{split_inside}
use Rattle.run_codes.proofs.Places.{impossible, some_same, given_on, if_some, stopped_on, in_bounds, place_indexes}
use Rattle.run_codes.proofs.Expressions.{and_then_some, begins, Walked, walks}

-- ---- cells

cell_same : (e : Seen) → length e.memory.cells ≤ most_cells → (k t n o : ℕ) (ev : Evaluated Place) → Cellwise e k t n o ev → SpotSame e k t ev (cell_spot e.flat o (suc n))
cell_same e few k t n o ev is =
    let bounds : (nat_lt n most_cells && nat_lt o most_offsets) ≡ true = in_bounds n o (omega (arith, few, is.within)) (omega (arith, is.small, is.inside)) in
    let there : cell_spot e.flat o (suc n) ≡ (if is.c.freed then Stops (Traps Touched) else Given (InCell n o)) =
    ap (λ b. if b then touched (slice_get e.flat.cells n) (λ c. Given (InCell n o)) else Broken) bounds
    ∙ ap (λ g. touched g (λ c. Given (InCell n o))) is.there in
    subst (λ g. SpotSame e k t ev g) (sym there) (by is.c.freed refl is.leads)
  where
    by : (freed : Bool) → is.c.freed ≡ freed → IsTouch e freed k t (InCell n o) (drop o (words_in is.c.words)) ev
        → SpotSame e k t ev (if freed then Stops (Traps Touched) else Given (InCell n o))
    by true freed leads = leads
    by false freed leads = (
      drop o (words_in is.c.words),
      leads,
      record { c = is.c; there = is.there; live = freed; small = is.small; inside = is.inside; kinds = is.kinds; words = refl },
    )

designated_same : (e : Seen) → length e.memory.cells ≤ most_cells → (n k t o : ℕ) (ev : Evaluated Place) → IsDesignated e n k t o ev → SpotSame e k t ev (cell_spot e.flat o n)
designated_same e few zero k t o ev is = is
designated_same e few (suc n) k t o ev is = cell_same e few k t n o ev is

behind_same : (e : Seen) → length e.memory.cells ≤ most_cells → (got : Got ℤ) (k t o : ℕ) (ev : Evaluated Place) → IsBehind e got k t o ev
    → SpotSame e k t ev (and_then got (λ w. cell_spot e.flat o (unsigned_abs w)))
behind_same e few (Given z) k t o ev is = designated_same e few (unsigned_abs z) k t o ev is
behind_same e few (Stops s) k t o ev is = is
behind_same e few Broken k t o ev is = absurd is

-- ---- places

within : (a b : ℕ) → a ≤ b → nat_le a b ≡ true
within a b le = grind arith

in_stack : (e : Seen) → IsSeen e → (p : Place) (t n : ℕ) → InObject e p t n → stack_spot e.flat n ≡ Given (InStack n)
in_stack e seen p t n is =
    let room = seen.room is.frame is.object is.start is.lies in
    let inside = split_inside (sorts (table e) (object_at e.site.typing is.object).of) (sorts (table e) t) p.at is.split in
    ap (λ b. if b then Given (InStack n) else Broken) (within n (length e.flat.stack) (omega (arith, room, inside, is.at)))

pub leads_same : (e : Seen) → IsSeen e → (p : codes.Place) (o k t : ℕ) (ev : Evaluated Place) → place_indexes e.flat p ≡ Given (pos o) → Leads e p o k t ev
    → SpotSame e k t ev (spot e.flat p)
leads_same e seen (InFrame at i) o k t ev index is =
    subst (λ g. SpotSame e k t ev g)
    (sym (ap (λ g. and_then g (λ o. stack_spot e.flat (e.flat.base + at + unsigned_abs o))) index ∙ in_stack e seen is.p t (e.flat.base + at + o) is.from))
    (drop (e.flat.base + at + o) e.flat.stack, is, refl)
leads_same e seen (InPackages at i) o k t ev index is =
    subst (λ g. SpotSame e k t ev g)
    (sym (ap (λ g. and_then g (λ o. stack_spot e.flat (at + unsigned_abs o))) index ∙ in_stack e seen is.p t (at + o) is.from))
    (drop (at + o) e.flat.stack, is, refl)
leads_same e seen (Behind p at i) o k t ev index is =
    let last = given_on (indexes e.flat p) (λ x. word e.flat i) (pos o) index in
    let there : spot e.flat (Behind p at i) ≡ and_then (word e.flat p) (λ w. cell_spot e.flat (at + o) (unsigned_abs w)) =
    ap (λ g. and_then g (λ x. and_then (word e.flat i) (λ o. and_then (word e.flat p) (λ w. cell_spot e.flat (at + unsigned_abs o) (unsigned_abs w))))) last.1
    ∙ ap (λ g. and_then g (λ o. and_then (word e.flat p) (λ w. cell_spot e.flat (at + unsigned_abs o) (unsigned_abs w)))) last.2 in
    subst (λ g. SpotSame e k t ev g) (sym there) (behind_same e seen.few (word e.flat p) k t (at + o) ev is)

stop_at : {A B : Type 0} (got : Got A) (f : A → Got B) (s : Stop) → got ≡ Stops s → and_then got f ≡ Stops s
stop_at got f s is = ap (λ g. and_then g f) is

-- What comes last stops where indexes do.
stop_last : {A B C : Type 0} (got : Got A) (x : Got B) (y : Got C) (s : Stop) → (x ≡ Stops s → y ≡ Stops s) → and_then got (λ a. x) ≡ Stops s → and_then got (λ a. y) ≡ Stops s
stop_last (Given a) x y s on is = on is
stop_last (Stops t) x y s on is = ap (λ k. Stops k) (ap (λ g. stop_of g t) is)
  where
    stop_of : {A : Type 0} → Got A → Stop → Stop
    stop_of (Stops r) d = r
    stop_of _ d = d
stop_last Broken x y s on is = absurd (never (ap (λ g. is_broken g) is))
  where
    never : true ≡ false → ⊥
    never x = cc

pub spot_stops : (m : Flat) (s : Stop) (p : codes.Place) → place_indexes m p ≡ Stops s → spot m p ≡ Stops s
spot_stops m s (InFrame at i) x = stop_at (word m i) (λ o. stack_spot m (m.base + at + unsigned_abs o)) s x
spot_stops m s (InPackages at i) x = stop_at (word m i) (λ o. stack_spot m (at + unsigned_abs o)) s x
spot_stops m s (Behind a at i) x =
    stop_last (indexes m a) (word m i) (and_then (word m i) (λ o. and_then (word m a) (λ w. cell_spot m (at + unsigned_abs o) (unsigned_abs w)))) s
    (λ y. stop_at (word m i) (λ o. and_then (word m a) (λ w. cell_spot m (at + unsigned_abs o) (unsigned_abs w))) s y) x

-- ---- names

same_number : (a b : ℕ) → (a == b) ≡ true → a ≡ b
same_number a b is = grind arith

name_spot : (e : Seen) → IsSeen e → (k x : ℕ) (steps : TypedTree) (q : Placed) (got : Got ℤ) → place_indexes e.flat q.place ≡ got
    → Walked e k (k + waiting steps) steps q (Done (variable_place (here e) x) (now e (k + waiting steps))) got
    → SpotSame e (k + waiting steps) q.of (followed_by (steps_of (here e) steps (now e k)) (λ way n. walked e.site.typing way (variable_place (here e) x) n)) (spot e.flat q.place)
name_spot e seen k x steps q (Given y) index w =
    let j : ℕ = k + waiting steps in
    let ends = ap (λ g. followed_by g (λ way n. walked e.site.typing way (variable_place (here e) x) n)) w.1 in
    subst (λ v. SpotSame e j q.of v (spot e.flat q.place)) (sym ends)
    (leads_same e seen q.place w.2 j q.of (walked e.site.typing w.0 (variable_place (here e) x) (now e j)) (index ∙ ap (λ z. Given z) w.3) w.4)
name_spot e seen k x steps q (Stops s) index w =
    subst (λ g. SpotSame e (k + waiting steps) q.of (followed_by (steps_of (here e) steps (now e k)) (λ way n. walked e.site.typing way (variable_place (here e) x) n)) g)
    (sym (spot_stops e.flat s q.place index))
    (stopped_on e.memory s (steps_of (here e) steps (now e k)) (λ way n. walked e.site.typing way (variable_place (here e) x) n) w)
name_spot e seen k x steps q Broken index w = absurd w

-- The place of a name.
pub place_same : (e : Seen) → IsSeen e → (t : TypedTree) (k : ℕ) (q : Placed) → place e.site k t ≡ Some q
    → SpotSame e (k + waiting t) q.of (place_of (here e) t (now e k)) (spot e.flat q.place)
unfolding waiting
place_same e seen (Name p x steps t) k q is =
    let c : Site = e.site in
    let r = and_then_some (λ r. if r.of == t then Some r else None) (option_and_then (λ r. led c k r steps) (object_place c x)) q is in
    let from = and_then_some (λ r. led c k r steps) (object_place c x) r.0 r.1 in
    let sure = if_some (r.0.of == t) (Some r.0) q r.2 in
    let start = begins e seen x (k + waiting steps) from.0 from.1 in
    subst (λ z. SpotSame e (k + waiting steps) z.of (followed_by (steps_of (here e) steps (now e k)) (λ way n. walked e.site.typing way (variable_place (here e) x) n)) (spot e.flat z.place))
    (some_same r.0 q sure.1)
    (name_spot e seen k x steps r.0 (place_indexes e.flat r.0.place) refl
    (walks e seen steps k (k + waiting steps) from.0 r.0 0 (Done (variable_place (here e) x) (now e (k + waiting steps))) from.2 start.first start.small start.leads))
place_same e seen _ k q is = impossible q is
