-- What a name has, as a value: looked at, or copied.
use Rattle.std.proofs.Common.{◌≡◌, ℕ, ◌+◌, true, false, Bool, List, [], ◌∷◌, length, take, refl, sym, ap, subst, ◌∙◌, Some, None, ℤ, if◌then◌else◌}
use Rattle.std.specs.Prelude.{option_and_then, ◌==◌}
use Rattle.type_definitions.specs.declared.table.Shape.{Shape}
use Rattle.type_definitions.specs.declared.table.Shape.TheVariants as shape
use Rattle.type_definitions.specs.Types.{Table, shape_of, view_of}
use Rattle.typed_tree.specs.Trees.{TypedTree, Name}
use Rattle.flow_paths.specs.Names.{waiting}
use Rattle.machine.specs.Words.{Word, are_within, fits_type}
use Rattle.machine.specs.Typed.{Sort, sorts, same_sorts}
use Rattle.machine.specs.Memory.{Memory, Place, words_of}
use Rattle.machine.specs.Evaluate.{Here, Now, Evaluated, Done, followed_by, Step, steps_of, walked, variable_place, place_of, Use, held_or_taken, evaluate, checked}
use Rattle.machine.specs.Evaluate as machine
use Rattle.run_codes.specs.Codes as codes
use Rattle.run_codes.specs.Flat.{Flat, Got, Given, Stops, Broken, Stop, Raises, Traps, kind_of, kinds, reads, all_fresh, Spot, spot, held, word}
use Rattle.run_codes.specs.Flat as flat
use Rattle.run_codes.specs.Lowered.{Site, Placed, object_place, led, place, load, is_composite}
use Rattle.run_codes.specs.Related.{Seen, table, here, now, types, IsSeen, Stopped, Same, IsPlace, SpotSame, Lying}
use Rattle.run_codes.proofs.Places.{impossible, some_same, if_some, stopped_on, same_by, place_indexes, loads, holds, OfType}
use Rattle.run_codes.proofs.Indexes.{load_stops}
use Rattle.run_codes.proofs.Expressions.{and_then_some, begins, Walked, walks}
use Rattle.run_codes.proofs.Held.{is_held}
use Rattle.run_fills.specs.Filled.{IsWhole, Filled}
use Rattle.run_fills.proofs.Wholes.{seen, stopped_halts, filled_by, filled_given}
use Rattle.run_fills.proofs.Single.{checked_fits}
use Rattle.run_fills.proofs.Values.{value_as}

-- ---- the place of a name, and its word

of_stopped : (t : ℕ) (m : Memory) (stop : Stop) (ev : Evaluated Place) → Stopped m stop ev → OfType t ev
of_stopped t m (Raises x) ev is = subst (λ x. OfType t x) (sym is.1) tt
of_stopped t m (Traps x) ev is = subst (λ x. OfType t x) (sym is.1) tt
of_stopped t m flat.Memory ev is = absurd is

pub of_spot : (e : Seen) (k t : ℕ) (ev : Evaluated Place) (got : Got Spot) → SpotSame e k t ev got → OfType t ev
of_spot e k t ev (Given w) is = subst (λ x. OfType t x) (sym is.1.gives) is.1.of
of_spot e k t ev (Stops s) is = of_stopped t e.memory s ev is
of_spot e k t ev Broken is = absurd is

name_word : (e : Seen) → IsSeen e → (k x : ℕ) (st : Sort) (steps : TypedTree) (q : Placed) → sorts (table e) q.of ≡ st ∷ [] → (got : Got ℤ) → place_indexes e.flat q.place ≡ got
    → Walked e k (k + waiting steps) steps q (Done (variable_place (here e) x) (now e (k + waiting steps))) got
    → Same e st (k + waiting steps) (followed_by (followed_by (steps_of (here e) steps (now e k)) (λ way n. walked e.site.typing way (variable_place (here e) x) n)) (holds e.site.typing))
    (word e.flat (load (kind_of st) q.place))
name_word e seen k x st steps q sort (Given y) index w =
    let j : ℕ = k + waiting steps in
    let on : List Step → Now → Evaluated Place = λ way n. walked e.site.typing way (variable_place (here e) x) n in
    same_by e st j (followed_by (followed_by (steps_of (here e) steps (now e k)) on) (holds e.site.typing))
    (followed_by (walked e.site.typing w.0 (variable_place (here e) x) (now e j)) (holds e.site.typing)) (word e.flat (load (kind_of st) q.place))
    (ap (λ g. followed_by (followed_by g on) (holds e.site.typing)) w.1)
    (loads e seen.few j q.of w.2 st q.place (walked e.site.typing w.0 (variable_place (here e) x) (now e j)) sort (index ∙ ap (λ z. Given z) w.3) w.4)
name_word e seen k x st steps q sort (Stops s) index w =
    let on : List Step → Now → Evaluated Place = λ way n. walked e.site.typing way (variable_place (here e) x) n in
    subst (λ g. Same e st (k + waiting steps) (followed_by (followed_by (steps_of (here e) steps (now e k)) on) (holds e.site.typing)) g)
    (sym (load_stops e.flat (kind_of st) s q.place index))
    (stopped_on e.memory s (followed_by (steps_of (here e) steps (now e k)) on) (holds e.site.typing) (stopped_on e.memory s (steps_of (here e) steps (now e k)) on w))
name_word e seen k x st steps q sort Broken index w = absurd w

pub place_word : (e : Seen) → IsSeen e → (t : TypedTree) (k : ℕ) (q : Placed) (st : Sort) → place e.site k t ≡ Some q → sorts (table e) q.of ≡ st ∷ []
    → Same e st (k + waiting t) (followed_by (place_of (here e) t (now e k)) (holds e.site.typing)) (word e.flat (load (kind_of st) q.place))
unfolding waiting
place_word e seen (Name p x steps t) k q st is sort =
    let c : Site = e.site in
    let r = and_then_some (λ r. if r.of == t then Some r else None) (option_and_then (λ r. led c k r steps) (object_place c x)) q is in
    let from = and_then_some (λ r. led c k r steps) (object_place c x) r.0 r.1 in
    let sure = if_some (r.0.of == t) (Some r.0) q r.2 in
    let same : r.0 ≡ q = some_same r.0 q sure.1 in
    let start = begins e seen x (k + waiting steps) from.0 from.1 in
    subst (λ z. Same e st (k + waiting steps) (followed_by (followed_by (steps_of (here e) steps (now e k)) (λ way n. walked e.site.typing way (variable_place (here e) x) n)) (holds e.site.typing))
    (word e.flat (load (kind_of st) z.place))) same
    (name_word e seen k x st steps r.0 (ap (λ z. sorts (table e) z.of) same ∙ sort) (place_indexes e.flat r.0.place) refl
    (walks e seen steps k (k + waiting steps) from.0 r.0 0 (Done (variable_place (here e) x) (now e (k + waiting steps))) from.2 start.first start.small start.leads))
place_word e seen _ k q st is sort = impossible q is

-- ---- types that aren't scalar

abbrev pub scalar_shape : Shape → Bool
scalar_shape (shape.Whole low high) = true
scalar_shape (shape.Listed literals low high) = true
scalar_shape _ = false

-- No bounds are checked of their values.
loose : (sh : Shape) (ws : List Word) → scalar_shape sh ≡ false → are_within (view_of sh) ws ≡ true
loose sh [] lacks = refl
loose (shape.Whole low high) (w ∷ []) lacks = absurd (never lacks)
  where
    never : true ≡ false → ⊥
    never x = cc
loose (shape.Listed literals low high) (w ∷ []) lacks = absurd (never lacks)
  where
    never : true ≡ false → ⊥
    never x = cc
loose (shape.Access d constant named) (w ∷ []) lacks = refl
loose (shape.Fields components) (w ∷ []) lacks = refl
loose (shape.Elements low high element) (w ∷ []) lacks = refl
loose (shape.Same of) (w ∷ []) lacks = refl
loose sh (w ∷ v ∷ ws) lacks = refl

pub loose_fits : (table : Table) (want : ℕ) (sh : Shape) (ws : List Word) → shape_of table want ≡ sh → scalar_shape sh ≡ false → fits_type table want ws ≡ true
loose_fits table want sh ws is lacks = ap (λ s. are_within (view_of s) ws) is ∙ loose sh ws lacks

composite_shape : (sh : Shape) → is_composite sh ≡ true → scalar_shape sh ≡ false
composite_shape (shape.Fields components) is = refl
composite_shape (shape.Elements low high element) is = refl
composite_shape (shape.Access d constant named) is = refl
composite_shape (shape.Same of) is = refl
composite_shape (shape.Whole low high) is = absurd (never is)
  where
    never : false ≡ true → ⊥
    never x = cc
composite_shape (shape.Listed literals low high) is = absurd (never is)
  where
    never : false ≡ true → ⊥
    never x = cc

unchecked : (h : Here) (want : ℕ) (sh : Shape) (ev : Evaluated (List Word)) → shape_of h.typing.table want ≡ sh → scalar_shape sh ≡ false → followed_by ev (checked h want) ≡ ev
unchecked h want sh (Done ws n) is lacks = checked_fits h want ws n (loose_fits h.typing.table want sh ws is lacks)
unchecked h want sh (machine.Raises x n) is lacks = refl
unchecked h want sh (machine.Traps t n) is lacks = refl

pub composite_kept : (h : Here) (want : ℕ) (ev : Evaluated (List Word)) → is_composite (shape_of h.typing.table want) ≡ true → followed_by ev (checked h want) ≡ ev
composite_kept h want ev is = unchecked h want (shape_of h.typing.table want) ev refl (composite_shape (shape_of h.typing.table want) is)

-- ---- copies

pub copied_filled : (e : Seen) (all : List Lying) → IsWhole e all → (k t want : ℕ) (p : codes.Place) (ev : Evaluated Place) → same_sorts (table e) (sorts (table e) t) (sorts (table e) want) ≡ true
    → (sh : Shape) → shape_of (table e) want ≡ sh → scalar_shape sh ≡ false → SpotSame e k t ev (spot e.flat p)
    → Filled e all k (sorts (table e) want) (followed_by (followed_by ev (holds e.site.typing)) (checked (here e) want))
    (reads e.flat (spot e.flat p) (λ s. reads e.flat (held e.flat s (kinds (table e) t)) (λ zs. flat.Done zs e.flat)))
copied_filled e all is k t want p ev same sh shape_is lacks spots = by (spot e.flat p) spots
  where
    by : (got : Got Spot) → SpotSame e k t ev got
        → Filled e all k (sorts (table e) want) (followed_by (followed_by ev (holds e.site.typing)) (checked (here e) want))
        (reads e.flat got (λ s. reads e.flat (held e.flat s (kinds (table e) t)) (λ zs. flat.Done zs e.flat)))
    by (Given w) s =
        let place : IsPlace e k t w s.0 ev = s.1 in
        let value = is_held e is.related.counted.few k t w s.0 ev place s.2 in
        let ws : List Word = words_of e.site.typing e.memory place.p in
        let zs : List ℤ = all_fresh (kinds (table e) t) (take (length (sorts (table e) t)) s.0) in
        subst (λ g. Filled e all k (sorts (table e) want) (followed_by (followed_by ev (holds e.site.typing)) (checked (here e) want)) (reads e.flat g (λ zs. flat.Done zs e.flat)))
        (sym value.value)
        (filled_by e all k (sorts (table e) want) (followed_by (followed_by ev (holds e.site.typing)) (checked (here e) want)) (Done ws (now e k)) (flat.Done zs e.flat)
        (unchecked (here e) want sh (followed_by ev (holds e.site.typing)) shape_is lacks ∙ ap (λ x. followed_by x (holds e.site.typing)) place.gives)
        (filled_given e all k (sorts (table e) want) ws zs is (value_as (table e) (types e.memory) (sorts (table e) t) (sorts (table e) want) ws zs is.laws same value.is)))
    by (Stops stop) s =
        stopped_halts e all stop (followed_by (followed_by ev (holds e.site.typing)) (checked (here e) want)) is
        (stopped_on e.memory stop (followed_by ev (holds e.site.typing)) (checked (here e) want) (stopped_on e.memory stop ev (holds e.site.typing) s))
    by Broken s = absurd s
