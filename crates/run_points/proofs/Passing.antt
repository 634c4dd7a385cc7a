-- Actuals are passed on both sides alike: values of formals, and places.
use Rattle.std.proofs.Common.{◌≡◌, inl, inr, ℕ, suc, ◌+◌, ◌<◌, true, false, Bool, List, [], ◌∷◌, ◌++◌, length, take, drop, get_or, refl, sym, ap, subst, ◌∙◌, arith, Some, None, ℤ, append-nil, if◌then◌else◌}
use Rattle.std.proofs.lemmas.List.{length-map}
use Rattle.spark_base.specs.declared.position.Pos.{Pos}
use Rattle.place_names.specs.declared.act.Mode.TheVariants as mode
use Rattle.kept_cells.specs.Cells.{Cell as StoredCell}
use Rattle.type_definitions.specs.declared.table.Shape.{Shape}
use Rattle.type_definitions.specs.declared.table.Shape.TheVariants as shape
use Rattle.type_definitions.specs.declared.judgement.View.TheVariants as view
use Rattle.type_definitions.specs.Types.{Table, shape_of, view_of, full}
use Rattle.type_definitions.specs.Entries.{integer}
use Rattle.typed_tree.specs.Trees.{TypedTree, More}
use Rattle.flow_paths.specs.Objects.{object_at, is_anonymous, Passing, ByValue, Traversed}
use Rattle.flow_paths.specs.Objects as objects
use Rattle.flow_paths.specs.Names.{waiting, written}
use Rattle.machine.specs.Words.{Word, fits_type}
use Rattle.machine.specs.Typed.{Sort, Whole, Position, sorts}
use Rattle.machine.specs.Memory.{Memory, HeapCell, Place, OfCell, words_of}
use Rattle.machine.specs.Evaluate.{Here, Now, Evaluated, Done, ConstraintError, followed_by, Use, AsValue, AsView, evaluate, checked, place_of, value, viewed}
use Rattle.machine.specs.Evaluate as evaluation
use Rattle.machine.specs.Calls.{written_pos, value_passed, passed_value, passed_place, passed, all_passed}
use Rattle.machine.specs.Calls as machine
use Rattle.run_codes.specs.Codes.{Fill, Actual}
use Rattle.run_codes.specs.Codes as codes
use Rattle.run_codes.specs.Flat.{Flat, Got, Given, Stops, Broken, Stop, Raises, Traps, Made, Failed, made_then, reads, kinds, all_fresh, constraint, Spot, InStack, InCell, spot, held, filled}
use Rattle.run_codes.specs.Flat as flat
use Rattle.run_codes.specs.Lowered.{Site, Placed, place, one_type, option_map}
use Rattle.run_codes.specs.Lowered as lowering
use Rattle.run_codes.specs.Programs.{use_for, name_pos, is_scalar_shape, viewed_value, actual_place, actual}
use Rattle.run_codes.specs.Points.{Passed, Value, FromSpot, ToSpot, within_bounds, fits}
use Rattle.run_codes.specs.Points as points
use Rattle.run_codes.specs.Related.{Stands, IsValue, IsTable, Seen, table, here, now, types, Stopped, LiesIn, IsSplit, InObject, IsPlace, IsThere, SpotSame, Lying}
use Rattle.run_codes.proofs.Places.{some_same, if_some, if_none, twice, stopped_on, type_at}
use Rattle.run_codes.proofs.Expressions.{and_then_some, map_some}
use Rattle.run_codes.proofs.Held.{is_held}
use Rattle.run_codes.proofs.Spots.{place_same}
use Rattle.run_fills.specs.Filled.{at, Later, Halts, Filled}
use Rattle.run_fills.proofs.Wholes.{value_more, unchanged, later_on, here_later}
use Rattle.run_fills.proofs.Wholes as wholes
use Rattle.run_fills.proofs.Values.{value_as}
use Rattle.run_fills.proofs.Single.{whole_fits, listed_fits, checked_fits}
use Rattle.run_fills.proofs.Names.{scalar_shape, loose_fits}
use Rattle.run_fills.proofs.Fills.{fills}
use Rattle.run_points.proofs.Spotted.{pos_is}
use Rattle.run_points.proofs.Flags.{was_freed, FreesNone}

-- ---- what was passed

-- A place that was found: it is a part of an object, or of a cell that isn't freed.
abbrev pub IsFound : Seen → List ℕ → Place → ℕ → Spot → Type 0
IsFound e made p t (InStack n) = InObject e p t n
IsFound e made p t (InCell n o) =
    (p.base ≡ OfCell (suc n)) × (o ≡ p.at) × (n < length made) × IsSplit (sorts (table e) (get_or made n integer)) p.at (sorts (table e) t) × (was_freed e.memory n ≡ false)

-- The type of a formal.
abbrev pub formal_type : Seen → ℕ → ℕ
formal_type e x = (object_at e.site.typing x).of

abbrev pub PassedStands : Seen → Pos → List ℕ → ℕ → TypedTree → machine.Passed → Passed → Type 0
PassedStands e at made x arg (machine.Value ws) (Value zs) = IsValue (table e) made (sorts (table e) (formal_type e x)) ws zs
PassedStands e at made x arg (machine.From p) (FromSpot w of) = (p.of ≡ of) × IsFound e made p of w × (one_type (table e) of (formal_type e x) ≡ true)
PassedStands e at made x arg (machine.To p) (ToSpot w of q) = (p.of ≡ of) × IsFound e made p of w × (one_type (table e) of (formal_type e x) ≡ true) × (q ≡ written_pos at (written arg))
PassedStands e at made x arg _ _ = ⊥

abbrev pub AllStandPassed : Seen → Pos → List ℕ → List ℕ → TypedTree → List machine.Passed → List Passed → Type 0
AllStandPassed e at made [] tree [] [] = Unit {0}
AllStandPassed e at made (x ∷ formals) (More arg rest) (a ∷ ps) (q ∷ qs) = PassedStands e at made x arg a q × AllStandPassed e at made formals rest ps qs
AllStandPassed e at made _ _ _ _ = ⊥

-- Cells were made in between.
abbrev pub Grew : List ℕ → List ℕ → Type 0
Grew made later = (more : List ℕ) × (later ≡ made ++ more)

-- Both stop alike, with memories that stand for each other.
abbrev pub Stopping : {A : Type 0} → Seen → List Lying → Stop → Flat → Evaluated A → Type 0
Stopping e all (Raises x) f ev = (n : Now) × (ev ≡ evaluation.Raises x n) × Later e all n.memory f
Stopping e all (Traps t) f ev = (n : Now) × (ev ≡ evaluation.Traps t n) × Later e all n.memory f
Stopping e all flat.Memory f ev = Unit {0}

abbrev pub Passes : Seen → List Lying → Pos → Memory → ℕ → ℕ → TypedTree → Evaluated machine.Passed → Made Passed → Type 0
Passes e all at m j x arg ev (flat.Done q g) =
    (a : machine.Passed) × (n : Memory) × (ev ≡ Done a (record { memory = n; waits = drop j e.waits })) × Later e all n g × Grew (types m) (types n) × PassedStands e at (types n) x arg a q
Passes e all at m j x arg ev (flat.Halted stop g) = Stopping e all stop g ev
Passes e all at m j x arg ev Failed = ⊥

abbrev pub AllPass : Seen → List Lying → Pos → Memory → ℕ → List ℕ → TypedTree → Evaluated (List machine.Passed) → Made (List Passed) → Type 0
AllPass e all at m j formals tree ev (flat.Done qs g) =
    (ps : List machine.Passed) × (n : Memory) × (ev ≡ Done ps (record { memory = n; waits = drop j e.waits })) × Later e all n g × Grew (types m) (types n) × AllStandPassed e at (types n) formals tree ps qs
AllPass e all at m j formals tree ev (flat.Halted stop g) = Stopping e all stop g ev
AllPass e all at m j formals tree ev Failed = ⊥

-- ---- stops

pub stopping_on : {A B : Type 0} (e : Seen) (all : List Lying) (stop : Stop) (f : Flat) (ev : Evaluated A) (g : A → Now → Evaluated B) → Stopping e all stop f ev → Stopping e all stop f (followed_by ev g)
stopping_on e all (Raises x) f ev g s = (s.0, ap (λ y. followed_by y g) s.1, s.2)
stopping_on e all (Traps t) f ev g s = (s.0, ap (λ y. followed_by y g) s.1, s.2)
stopping_on e all flat.Memory f ev g s = tt

halts_stopping : (e : Seen) (all : List Lying) (m : Memory) (f : Flat) (stop : Stop) (g : Flat) (ev : Evaluated (List Word)) → Later e all m f → Halts (at e m f) all stop g ev → Stopping e all stop g ev
halts_stopping e all m f (Raises x) g ev later s = (s.0, s.1, later_on e all m s.0.memory f g later s.2)
halts_stopping e all m f (Traps t) g ev later s = (s.0, s.1, later_on e all m s.0.memory f g later s.2)
halts_stopping e all m f flat.Memory g ev later s = tt

stopped_stopping : {A : Type 0} (e : Seen) (all : List Lying) (m : Memory) (f : Flat) (stop : Stop) (ev : Evaluated A) → Later e all m f → Stopped m stop ev → Stopping e all stop f ev
stopped_stopping e all m f (Raises x) ev later s = (s.0, s.1, subst (λ n. Later e all n f) (sym s.2) later)
stopped_stopping e all m f (Traps t) ev later s = (s.0, s.1, subst (λ n. Later e all n f) (sym s.2) later)
stopped_stopping e all m f flat.Memory ev later s = absurd s

-- ---- values

pub value_passes : (e : Seen) (all : List Lying) (p : Pos) (m : Memory) (f : Flat) → Later e all m f → (j x : ℕ) (arg : TypedTree) (ev : Evaluated (List Word)) (made : Made (List ℤ))
    → Filled (at e m f) all j (sorts (table e) (formal_type e x)) ev made
    → Passes e all p m j x arg (followed_by ev value_passed) (made_then made (λ zs. flat.Done (Value zs)))
value_passes e all p m f later j x arg ev (flat.Done zs g) is =
    (machine.Value is.0, is.1, ap (λ y. followed_by y value_passed) is.2, later_on e all m is.1 f g later is.3, (is.3.more, is.3.grown), is.4)
value_passes e all p m f later j x arg ev (flat.Halted stop g) is = stopping_on e all stop g ev value_passed (halts_stopping e all m f stop g ev later is)
value_passes e all p m f later j x arg ev Failed is = absurd is

-- What is filled where the machine goes by the same.
filled_here : (e : Seen) (all : List Lying) (m : Memory) (f : Flat) → Later e all m f → (arg : TypedTree) (k t : ℕ) (u : Use) (v : Fill) → lowering.value e.site k u t arg ≡ Some v
    → Filled (at e m f) all (k + waiting arg) (sorts (table e) t) (followed_by (evaluate (here e) u arg (now (at e m f) k)) (checked (here e) t)) (filled (table e) v f)
filled_here e all m f later arg k t u v lowers =
    subst (λ h. Filled (at e m f) all (k + waiting arg) (sorts (table e) t) (followed_by (evaluate h u arg (now (at e m f) k)) (checked h t)) (filled (table e) v f)) (here_later e all m f later)
    (fills (at e m f) all later.whole arg k t u v lowers)

by_use : (h : Here) (b : Bool) (arg : TypedTree) (n : Now) → (if b then viewed h arg n else value h arg n) ≡ evaluate h (if b then AsView else AsValue) arg n
by_use h true arg n = refl
by_use h false arg n = refl

by_value : (e : Seen) (all : List Lying) (p : Pos) (m : Memory) (f : Flat) → Later e all m f → (k x : ℕ) (arg : TypedTree) (v : Fill)
    → lowering.value e.site k (use_for (table e) (formal_type e x)) (formal_type e x) arg ≡ Some v
    → Passes e all p m (k + waiting arg) x arg (passed_value (here e) x arg (now (at e m f) k)) (points.passed (table e) (codes.ByValue v) f)
by_value e all p m f later k x arg v lowers =
    let t : ℕ = formal_type e x in
    let u : Use = use_for (table e) t in
    let n : Now = now (at e m f) k in
    subst (λ ev. Passes e all p m (k + waiting arg) x arg ev (points.passed (table e) (codes.ByValue v) f))
    (twice (evaluate (here e) u arg n) (checked (here e) t) value_passed
    ∙ ap (λ ev. followed_by ev (λ ws now. followed_by (checked (here e) t ws now) value_passed)) (sym (by_use (here e) (is_anonymous (full (table e) t)) arg n)))
    (value_passes e all p m f later (k + waiting arg) x arg (followed_by (evaluate (here e) u arg n) (checked (here e) t)) (filled (table e) v f) (filled_here e all m f later arg k t u v lowers))

-- ---- values that are looked at

loose_shape : (sh : Shape) → is_scalar_shape sh ≡ false → scalar_shape sh ≡ false
loose_shape (shape.Whole low high) is = absurd (never is)
  where
    never : true ≡ false → ⊥
    never x = cc
loose_shape (shape.Listed literals low high) is = absurd (never is)
  where
    never : true ≡ false → ⊥
    never x = cc
loose_shape (shape.Access d constant named) is = refl
loose_shape (shape.Fields components) is = refl
loose_shape (shape.Elements low high element) is = refl
loose_shape (shape.Same of) is = refl

unchecked : (h : Here) (t : ℕ) → is_scalar_shape (shape_of h.typing.table t) ≡ false → (ev : Evaluated (List Word)) → followed_by ev (checked h t) ≡ ev
unchecked h t loose (Done ws n) = checked_fits h t ws n (loose_fits h.typing.table t (shape_of h.typing.table t) ws refl (loose_shape (shape_of h.typing.table t) loose))
unchecked h t loose (evaluation.Raises x n) = refl
unchecked h t loose (evaluation.Traps x n) = refl

by_view : (e : Seen) (all : List Lying) (p : Pos) (m : Memory) (f : Flat) → Later e all m f → (k x : ℕ) (arg : TypedTree) (a : Actual) → viewed_value e.site k (formal_type e x) arg ≡ Some a
    → Passes e all p m (k + waiting arg) x arg (followed_by (viewed (here e) arg (now (at e m f) k)) value_passed) (points.passed (table e) a f)
by_view e all p m f later k x arg a lowers =
    let t : ℕ = formal_type e x in
    let n : Now = now (at e m f) k in
    let sure = if_none (is_scalar_shape (shape_of (table e) t)) (option_map codes.ByValue (lowering.value e.site k AsView t arg)) a lowers in
    let v = map_some codes.ByValue (lowering.value e.site k AsView t arg) a sure.1 in
    subst (λ a. Passes e all p m (k + waiting arg) x arg (followed_by (viewed (here e) arg n) value_passed) (points.passed (table e) a f)) v.2
    (subst (λ ev. Passes e all p m (k + waiting arg) x arg (followed_by ev value_passed) (points.passed (table e) (codes.ByValue v.0) f))
    (unchecked (here e) t sure.0 (evaluate (here e) AsView arg n))
    (value_passes e all p m f later (k + waiting arg) x arg (followed_by (evaluate (here e) AsView arg n) (checked (here e) t)) (filled (table e) v.0 f) (filled_here e all m f later arg k t AsView v.0 v.1)))

-- ---- places

-- Where a place lies, it lay at the start of the step.
lies_before : (e : Seen) (m : Memory) (f : Flat) (frame x start : ℕ) → f.base ≡ e.flat.base → LiesIn (at e m f) frame x start → LiesIn e frame x start
lies_before e m f frame x start base lies = elim lies [
  | inl own ↦ inl (record { at = own.at; there = own.there; own = own.own; runs = own.runs; begins = own.begins ∙ ap (λ n. n + own.at) base })
  | inr first ↦ inr (record { there = first.there; packages = first.packages; first = first.first })
]

is_found : (e : Seen) (all : List Lying) (m : Memory) (f : Flat) → Later e all m f → FreesNone e.memory m → (k t : ℕ) (w : Spot) (zs : List ℤ) (ev : Evaluated Place) (is : IsPlace (at e m f) k t w zs ev)
    → IsThere (at e m f) t w zs → IsFound e (types m) is.p t w
is_found e all m f later flags k t (InStack n) zs ev is there = record {
  frame = is.from.frame;
  object = is.from.object;
  start = is.from.start;
  lies = lies_before e m f is.from.frame is.from.object is.from.start later.base is.from.lies;
  base = is.from.base;
  at = is.from.at;
  split = is.from.split;
}
is_found e all m f later flags k t (InCell n o) zs ev is there =
    let have = later.whole.related.cells n is.from.within in
    let same = some_same have.0 there.c (sym have.1 ∙ there.there) in (
      is.from.base,
      is.from.at,
      subst (λ j. n < j) (sym (length-map m.cells (λ (c : HeapCell). c.of))) is.from.within,
      subst (λ t'. IsSplit (sorts (table e) t') is.p.at (sorts (table e) t)) (sym (type_at m.cells n)) is.from.split,
      sym (flags.same n is.from.within) ∙ have.2.freed ∙ ap (λ c. is_freed c) same ∙ there.live,
    )
  where
    is_freed : StoredCell → Bool
    is_freed c = c.freed

-- An `out` actual.
to_passes : (e : Seen) (all : List Lying) (at_call : Pos) (m : Memory) (f : Flat) → Later e all m f → FreesNone e.memory m → (k x : ℕ) (arg : TypedTree) (q : Placed) → place e.site k arg ≡ Some q
    → one_type (table e) q.of (formal_type e x) ≡ true
    → Passes e all at_call m (k + waiting arg) x arg (followed_by (place_of (here e) arg (now (at e m f) k)) (λ k now. Done (machine.To k) now))
    (points.passed (table e) (codes.To q.place q.of (name_pos at_call arg)) f)
to_passes e all at_call m f later flags k x arg q lowers same =
    by (place_of (here e) arg (now (at e m f) k)) (spot f q.place)
    (subst (λ h. SpotSame (at e m f) (k + waiting arg) q.of (place_of h arg (now (at e m f) k)) (spot f q.place)) (here_later e all m f later)
    (place_same (at e m f) (wholes.seen (at e m f) all later.whole) arg k q lowers))
  where
    by : (ev : Evaluated Place) (got : Got Spot) → SpotSame (at e m f) (k + waiting arg) q.of ev got
        → Passes e all at_call m (k + waiting arg) x arg (followed_by ev (λ k now. Done (machine.To k) now)) (reads f got (λ s. flat.Done (ToSpot s q.of (name_pos at_call arg)) f))
    by ev (Given w) is = (
      machine.To is.1.p,
      m,
      ap (λ y. followed_by y (λ k now. Done (machine.To k) now)) is.1.gives,
      later,
      ([], sym (append-nil (types m))),
      (is.1.of, is_found e all m f later flags (k + waiting arg) q.of w is.0 ev is.1 is.2, same, pos_is e.site k arg q lowers at_call),
    )
    by ev (Stops stop) is = stopped_stopping e all m f stop (followed_by ev (λ k now. Done (machine.To k) now)) later (stopped_on m stop ev (λ k now. Done (machine.To k) now) is)
    by ev Broken is = absurd is

-- A value within bounds is so on both sides.
pub fits_same : (table : Table) → IsTable table → (made : List ℕ) (t : ℕ) (ws : List Word) (zs : List ℤ) → IsValue table made (sorts table t) ws zs → fits table t zs ≡ fits_type table t ws
fits_same table laws made t ws zs value = by (shape_of table t) refl
  where
    one : (st : Sort) (ws : List Word) (zs : List ℤ) → IsValue table made (st ∷ []) ws zs → (w : Word) × (z : ℤ) × (ws ≡ w ∷ []) × (zs ≡ z ∷ []) × Stands table made st w z
    one st [] zs is = absurd is.stand
    one st (w ∷ ws) [] is = absurd is.stand
    one st (w ∷ []) (z ∷ []) is = (w, z, refl, refl, is.stand.0.0)
    one st (w ∷ u ∷ ws) (z ∷ zs) is = absurd (omega (arith, is.words))
    one st (w ∷ []) (z ∷ y ∷ zs) is = absurd (omega (arith, is.numbers))

    loose : (sh : Shape) (zs : List ℤ) → is_scalar_shape sh ≡ false → within_bounds (view_of sh) zs ≡ true
    loose (shape.Whole low high) zs is = absurd (never is)
      where
        never : true ≡ false → ⊥
        never x = cc
    loose (shape.Listed literals low high) zs is = absurd (never is)
      where
        never : true ≡ false → ⊥
        never x = cc
    loose (shape.Access d constant named) zs is = refl
    loose (shape.Fields components) zs is = refl
    loose (shape.Elements low high element) zs is = refl
    loose (shape.Same of) zs is = refl

    free : (sh : Shape) → shape_of table t ≡ sh → is_scalar_shape sh ≡ false → fits table t zs ≡ fits_type table t ws
    free sh is lacks = ap (λ s. within_bounds (view_of s) zs) is ∙ loose sh zs lacks ∙ sym (loose_fits table t sh ws is (loose_shape sh lacks))

    by : (sh : Shape) → shape_of table t ≡ sh → fits table t zs ≡ fits_type table t ws
    by (shape.Whole low high) is =
        let v = one Whole ws zs (subst (λ l. IsValue table made l ws zs) (laws.whole t low high is) value) in
        ap (λ s. within_bounds (view_of s) zs) is ∙ ap (λ l. within_bounds (view.Whole low high) l) v.3 ∙ sym (whole_fits table made t low high v.1 v.0 is v.4)
        ∙ ap (λ l. fits_type table t l) (sym v.2)
    by (shape.Listed literals low high) is =
        let v = one Position ws zs (subst (λ l. IsValue table made l ws zs) (laws.listed t low high literals is) value) in
        ap (λ s. within_bounds (view_of s) zs) is ∙ ap (λ l. within_bounds (view.Listed low high) l) v.3 ∙ sym (listed_fits table made t low high v.1 v.0 literals is v.4)
        ∙ ap (λ l. fits_type table t l) (sym v.2)
    by (shape.Access d constant named) is = free (shape.Access d constant named) is refl
    by (shape.Fields components) is = free (shape.Fields components) is refl
    by (shape.Elements low high element) is = free (shape.Elements low high element) is refl
    by (shape.Same of) is = free (shape.Same of) is refl

-- An `in out` actual.
from_passes : (e : Seen) (all : List Lying) (at_call : Pos) (m : Memory) (f : Flat) → Later e all m f → FreesNone e.memory m → (k x : ℕ) (arg : TypedTree) (q : Placed) → place e.site k arg ≡ Some q
    → one_type (table e) q.of (formal_type e x) ≡ true
    → Passes e all at_call m (k + waiting arg) x arg (passed_place (here e) x arg (now (at e m f) k)) (points.passed (table e) (codes.From q.place q.of (formal_type e x)) f)
from_passes e all at_call m f later flags k x arg q lowers same =
    by (place_of (here e) arg (now (at e m f) k)) (spot f q.place)
    (subst (λ h. SpotSame (at e m f) (k + waiting arg) q.of (place_of h arg (now (at e m f) k)) (spot f q.place)) (here_later e all m f later)
    (place_same (at e m f) (wholes.seen (at e m f) all later.whole) arg k q lowers))
  where
    t : ℕ
    t = formal_type e x

    goes : Place → Now → Evaluated machine.Passed
    goes k now = followed_by (checked (here e) t (words_of e.site.typing now.memory k) now) (λ ws now. Done (machine.From k) now)

    further : Spot → List ℤ → Made Passed
    further s zs = if fits (table e) t zs then flat.Done (FromSpot s q.of) f else flat.Halted constraint f

    checks : (w : Spot) (zs : List ℤ) (p : Place) (b : Bool) → b ≡ fits_type (table e) t (words_of e.site.typing m p) → p.of ≡ q.of → IsFound e (types m) p q.of w
        → Passes e all at_call m (k + waiting arg) x arg (goes p (now (at e m f) (k + waiting arg))) (if b then flat.Done (FromSpot w q.of) f else flat.Halted constraint f)
    checks w zs p true fit of found = (
      machine.From p,
      m,
      ap (λ b. followed_by (if b then Done (words_of e.site.typing m p) (now (at e m f) (k + waiting arg)) else evaluation.Raises ConstraintError (now (at e m f) (k + waiting arg))) (λ ws now. Done (machine.From p) now)) (sym fit),
      later,
      ([], sym (append-nil (types m))),
      (of, found, same),
    )
    checks w zs p false fit of found = (
      now (at e m f) (k + waiting arg),
      ap (λ b. followed_by (if b then Done (words_of e.site.typing m p) (now (at e m f) (k + waiting arg)) else evaluation.Raises ConstraintError (now (at e m f) (k + waiting arg))) (λ ws now. Done (machine.From p) now)) (sym fit),
      later,
    )

    by : (ev : Evaluated Place) (got : Got Spot) → SpotSame (at e m f) (k + waiting arg) q.of ev got
        → Passes e all at_call m (k + waiting arg) x arg (followed_by ev goes) (reads f got (λ s. reads f (held f s (kinds (table e) q.of)) (further s)))
    by ev (Given w) is =
        let j : ℕ = k + waiting arg in
        let place : IsPlace (at e m f) j q.of w is.0 ev = is.1 in
        let value = is_held (at e m f) later.whole.related.counted.few j q.of w is.0 ev place is.2 in
        let ws : List Word = words_of e.site.typing m place.p in
        let zs : List ℤ = all_fresh (kinds (table e) q.of) (take (length (sorts (table e) q.of)) is.0) in
        let as_formal = value_as (table e) (types m) (sorts (table e) q.of) (sorts (table e) t) ws zs later.whole.laws same value.is in
        subst (λ g. Passes e all at_call m j x arg (followed_by ev goes) (reads f g (further w))) (sym value.value)
        (subst (λ v. Passes e all at_call m j x arg (followed_by v goes) (further w zs)) (sym place.gives)
        (checks w zs place.p (fits (table e) t zs) (fits_same (table e) later.whole.laws (types m) t ws zs as_formal) place.of (is_found e all m f later flags j q.of w is.0 ev place is.2)))
    by ev (Stops stop) is = stopped_stopping e all m f stop (followed_by ev goes) later (stopped_on m stop ev goes is)
    by ev Broken is = absurd is

-- ---- one actual

placed_as : (c : Site) (k t : ℕ) (arg : TypedTree) (g : Placed → Actual) (a : Actual) → actual_place c k t arg g ≡ Some a
    → (q : Placed) × (place c k arg ≡ Some q) × (one_type c.typing.table q.of t ≡ true) × (g q ≡ a)
placed_as c k t arg g a is =
    let q = and_then_some (λ q. if one_type c.typing.table q.of t then Some (g q) else None) (place c k arg) a is in
    let sure = if_some (one_type c.typing.table q.0.of t) (Some (g q.0)) a q.2 in
    (q.0, q.1, sure.0, some_same (g q.0) a sure.1)

pub passes : (e : Seen) (all : List Lying) (at_call : Pos) (m : Memory) (f : Flat) → Later e all m f → FreesNone e.memory m → (way : Passing) (k x : ℕ) (arg : TypedTree) (a : Actual)
    → actual e.site at_call k way x arg ≡ Some a
    → Passes e all at_call m (k + waiting arg) x arg (passed (here e) way x arg (now (at e m f) k)) (points.passed (table e) a f)
passes e all at_call m f later flags ByValue k x arg a lowers =
    let v = map_some codes.ByValue (lowering.value e.site k (use_for (table e) (formal_type e x)) (formal_type e x) arg) a lowers in
    subst (λ a. Passes e all at_call m (k + waiting arg) x arg (passed_value (here e) x arg (now (at e m f) k)) (points.passed (table e) a f)) v.2
    (by_value e all at_call m f later k x arg v.0 v.1)
passes e all at_call m f later flags Traversed k x arg a lowers = by_view e all at_call m f later k x arg a lowers
passes e all at_call m f later flags (objects.Place mode.In owning access) k x arg a lowers = by_view e all at_call m f later k x arg a lowers
passes e all at_call m f later flags (objects.Place mode.Out owning access) k x arg a lowers =
    let q = placed_as e.site k (formal_type e x) arg (λ q. codes.To q.place q.of (name_pos at_call arg)) a lowers in
    subst (λ a. Passes e all at_call m (k + waiting arg) x arg (followed_by (place_of (here e) arg (now (at e m f) k)) (λ k now. Done (machine.To k) now)) (points.passed (table e) a f)) q.3
    (to_passes e all at_call m f later flags k x arg q.0 q.1 q.2)
passes e all at_call m f later flags (objects.Place mode.InOut owning access) k x arg a lowers =
    let q = placed_as e.site k (formal_type e x) arg (λ q. codes.From q.place q.of (formal_type e x)) a lowers in
    subst (λ a. Passes e all at_call m (k + waiting arg) x arg (passed_place (here e) x arg (now (at e m f) k)) (points.passed (table e) a f)) q.3
    (from_passes e all at_call m f later flags k x arg q.0 q.1 q.2)
