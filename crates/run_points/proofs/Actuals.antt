-- All actuals of a call are passed on both sides alike; and what that keeps.
use Rattle.std.proofs.Common.{◌≡◌, ℕ, ◌+◌, ◌<◌, true, false, Bool, List, [], ◌∷◌, ◌++◌, length, refl, sym, ap, subst, ◌∙◌, arith, Option, Some, None, append-nil, append_assoc, length-append, if◌then◌else◌}
use Rattle.spark_base.specs.declared.position.Pos.{Pos}
use Rattle.place_names.specs.declared.act.Mode.TheVariants as mode
use Rattle.type_definitions.specs.Entries.{integer}
use Rattle.typed_tree.specs.Trees.{TypedTree, More, NoMore}
use Rattle.flow_paths.specs.Objects.{is_anonymous, view_of, Passing, ByValue, Traversed}
use Rattle.flow_paths.specs.Objects as objects
use Rattle.flow_paths.specs.Names.{waiting}
use Rattle.machine.specs.Typed.{sorts}
use Rattle.machine.specs.Memory.{Memory, Base, Place, words_of}
use Rattle.machine.specs.Evaluate.{Here, Now, Evaluated, Done, followed_by, AsValue, AsView, checked, place_of, value, viewed}
use Rattle.machine.specs.Calls.{type_of, value_passed, passed_value, passed_place, passed, all_passed}
use Rattle.machine.specs.Calls as machine
use Rattle.run_codes.specs.Codes.{Actual}
use Rattle.run_codes.specs.Flat.{Flat, Stop, Made, Failed, made_then, Spot, InStack, InCell}
use Rattle.run_codes.specs.Flat as flat
use Rattle.run_codes.specs.Programs.{actual, actuals, with_first}
use Rattle.run_codes.specs.Points.{Passed, Value, FromSpot, ToSpot}
use Rattle.run_codes.specs.Points as points
use Rattle.run_codes.specs.Related.{Seen, table, here, now, types, IsSplit, Lying}
use Rattle.run_codes.proofs.Places.{impossible, some_same}
use Rattle.run_codes.proofs.News.{get_before}
use Rattle.run_fills.specs.Filled.{at, Later}
use Rattle.run_fills.proofs.Wholes.{value_more}
use Rattle.run_points.proofs.Keeping.{IsKeeping, Keeps, keeps_on, place_on, evaluate_keeps, checked_keeps, place_keeps}
use Rattle.run_points.proofs.Flags.{FreesNone, Anywhere, keeps_flags}
use Rattle.run_points.proofs.Passing.{IsFound, formal_type, PassedStands, Passes, AllPass, stopping_on, passes}

-- ---- what is kept

value_keeps : (h : Here) (L : Base → Type 0) (Q : Memory → Type 0) → IsKeeping h L Q → (x : ℕ) (arg : TypedTree) (n : Now) → Q n.memory → Keeps Q (passed_value h x arg n)
value_keeps h L Q keeps x arg n is =
    keeps_on Q (if is_anonymous (view_of h.typing x) then viewed h arg n else value h arg n) (λ ws now. followed_by (checked h (type_of h x) ws now) value_passed) (by (is_anonymous (view_of h.typing x)))
    (λ ws now is. keeps_on Q (checked h (type_of h x) ws now) value_passed (checked_keeps h Q (type_of h x) ws now is) (λ ws now is. is))
  where
    by : (b : Bool) → Keeps Q (if b then viewed h arg n else value h arg n)
    by true = evaluate_keeps h L Q keeps AsView arg n is
    by false = evaluate_keeps h L Q keeps AsValue arg n is

view_keeps : (h : Here) (L : Base → Type 0) (Q : Memory → Type 0) → IsKeeping h L Q → (arg : TypedTree) (n : Now) → Q n.memory → Keeps Q (followed_by (viewed h arg n) value_passed)
view_keeps h L Q keeps arg n is = keeps_on Q (viewed h arg n) value_passed (evaluate_keeps h L Q keeps AsView arg n is) (λ ws now is. is)

pub passed_keeps : (h : Here) (L : Base → Type 0) (Q : Memory → Type 0) → IsKeeping h L Q → (way : Passing) (x : ℕ) (arg : TypedTree) (n : Now) → Q n.memory → Keeps Q (passed h way x arg n)
passed_keeps h L Q keeps ByValue x arg n is = value_keeps h L Q keeps x arg n is
passed_keeps h L Q keeps Traversed x arg n is = view_keeps h L Q keeps arg n is
passed_keeps h L Q keeps (objects.Place mode.In owning access) x arg n is = view_keeps h L Q keeps arg n is
passed_keeps h L Q keeps (objects.Place mode.Out owning access) x arg n is =
    place_on L Q (place_of h arg n) (λ k now. Done (machine.To k) now) (place_keeps h L Q keeps arg n is) (λ k now low is. is)
passed_keeps h L Q keeps (objects.Place mode.InOut owning access) x arg n is =
    place_on L Q (place_of h arg n) (λ k now. followed_by (checked h (type_of h x) (words_of h.typing now.memory k) now) (λ ws now. Done (machine.From k) now)) (place_keeps h L Q keeps arg n is)
    (λ k now low is. keeps_on Q (checked h (type_of h x) (words_of h.typing now.memory k) now) (λ ws now. Done (machine.From k) now)
    (checked_keeps h Q (type_of h x) (words_of h.typing now.memory k) now is) (λ ws now is. is))

pub all_keep : (h : Here) (L : Base → Type 0) (Q : Memory → Type 0) → IsKeeping h L Q → (ways : List Passing) (formals : List ℕ) (tree : TypedTree) (n : Now) → Q n.memory
    → Keeps Q (all_passed h ways formals tree n)
all_keep h L Q keeps (way ∷ ways) (x ∷ formals) (More arg rest) n is =
    keeps_on Q (passed h way x arg n) (λ a now. followed_by (all_passed h ways formals rest now) (λ more now. Done (a ∷ more) now)) (passed_keeps h L Q keeps way x arg n is)
    (λ a now is. keeps_on Q (all_passed h ways formals rest now) (λ more now. Done (a ∷ more) now) (all_keep h L Q keeps ways formals rest now is) (λ more now is. is))
all_keep h L Q keeps [] formals tree n is = is
all_keep h L Q keeps (way ∷ ways) [] tree n is = is
all_keep h L Q keeps (way ∷ ways) (x ∷ formals) _ n is = is

-- ---- where more cells were made

found_more : (e : Seen) (made more : List ℕ) (p : Place) (t : ℕ) (w : Spot) → IsFound e made p t w → IsFound e (made ++ more) p t w
found_more e made more p t (InStack n) is = is
found_more e made more p t (InCell n o) is = (
  is.0,
  is.1,
  within n (length made) (length more) (length (made ++ more)) is.2 (length-append made more),
  subst (λ u. IsSplit (sorts (table e) u) p.at (sorts (table e) t)) (sym (get_before made more n integer is.2)) is.3,
  is.4,
)
  where
    within : (n a b c : ℕ) → n < a → c ≡ a + b → n < c
    within n a b c low is = omega (arith, low, is)

pub passed_more : (e : Seen) (at_call : Pos) (made more : List ℕ) (x : ℕ) (arg : TypedTree) (a : machine.Passed) (q : Passed) → PassedStands e at_call made x arg a q → PassedStands e at_call (made ++ more) x arg a q
passed_more e at_call made more x arg (machine.Value ws) (Value zs) is = value_more (table e) made more (sorts (table e) (formal_type e x)) ws zs is
passed_more e at_call made more x arg (machine.From p) (FromSpot w of) is = (is.0, found_more e made more p of w is.1, is.2)
passed_more e at_call made more x arg (machine.To p) (ToSpot w of q) is = (is.0, found_more e made more p of w is.1, is.2, is.3)
passed_more e at_call made more x arg (machine.Value ws) (FromSpot w of) is = absurd is
passed_more e at_call made more x arg (machine.Value ws) (ToSpot w of q) is = absurd is
passed_more e at_call made more x arg (machine.From p) (Value zs) is = absurd is
passed_more e at_call made more x arg (machine.From p) (ToSpot w of q) is = absurd is
passed_more e at_call made more x arg (machine.To p) (Value zs) is = absurd is
passed_more e at_call made more x arg (machine.To p) (FromSpot w of) is = absurd is

-- ---- all of them

with_first_is : {A : Type 0} (x : Option A) (y : Option (List A)) (all : List A) → with_first x y ≡ Some all → (a : A) × (rest : List A) × (x ≡ Some a) × (y ≡ Some rest) × (a ∷ rest ≡ all)
with_first_is (Some a) (Some rest) all is = (a, rest, refl, refl, some_same (a ∷ rest) all is)
with_first_is None y all is = impossible all is
with_first_is (Some a) None all is = impossible all is

-- After the first one, the others.
pass_on : (e : Seen) (all : List Lying) (at_call : Pos) (m : Memory) (j l x : ℕ) (formals : List ℕ) (arg rest : TypedTree) (ev : Evaluated machine.Passed) (made : Made Passed)
    (on : Now → Evaluated (List machine.Passed)) (further : Flat → Made (List Passed)) → Passes e all at_call m j x arg ev made → Keeps (FreesNone e.memory) ev
    → ((n : Memory) (g : Flat) → Later e all n g → FreesNone e.memory n → AllPass e all at_call n l formals rest (on (now (at e n g) j)) (further g))
    → AllPass e all at_call m l (x ∷ formals) (More arg rest) (followed_by ev (λ a now. followed_by (on now) (λ more now. Done (a ∷ more) now))) (made_then made (λ p n. made_then (further n) (λ more. flat.Done (p ∷ more))))
pass_on e all at_call m j l x formals arg rest ev (flat.Done q g) on further is flags next =
    let n : Memory = is.1 in
    let kept : FreesNone e.memory n = subst (λ v. Keeps (FreesNone e.memory) v) is.2 flags in
    subst (λ v. AllPass e all at_call m l (x ∷ formals) (More arg rest) (followed_by v (λ a now. followed_by (on now) (λ more now. Done (a ∷ more) now))) (made_then (further g) (λ more. flat.Done (q ∷ more)))) (sym is.2)
    (by (on (now (at e n g) j)) (further g) (next n g is.3 kept))
  where
    by : (ev : Evaluated (List machine.Passed)) (made : Made (List Passed)) → AllPass e all at_call is.1 l formals rest ev made
        → AllPass e all at_call m l (x ∷ formals) (More arg rest) (followed_by ev (λ more now. Done (is.0 ∷ more) now)) (made_then made (λ more. flat.Done (q ∷ more)))
    by ev (flat.Done qs h) more = (
      is.0 ∷ more.0,
      more.1,
      ap (λ v. followed_by v (λ more now. Done (is.0 ∷ more) now)) more.2,
      more.3,
      (is.4.0 ++ more.4.0, more.4.1 ∙ ap (λ l. l ++ more.4.0) is.4.1 ∙ append_assoc (types m) is.4.0 more.4.0),
      (
        subst (λ made. PassedStands e at_call made x arg is.0 q) (sym more.4.1) (passed_more e at_call (types is.1) more.4.0 x arg is.0 q is.5),
        more.5,
      ),
    )
    by ev (flat.Halted stop h) more = stopping_on e all stop h ev (λ more now. Done (is.0 ∷ more) now) more
    by ev Failed more = absurd more
pass_on e all at_call m j l x formals arg rest ev (flat.Halted stop g) on further is flags next =
    stopping_on e all stop g ev (λ a now. followed_by (on now) (λ more now. Done (a ∷ more) now)) is
pass_on e all at_call m j l x formals arg rest ev Failed on further is flags next = absurd is

pub all_pass : (e : Seen) (all : List Lying) (at_call : Pos) (m : Memory) (f : Flat) → Later e all m f → FreesNone e.memory m → (ways : List Passing) (formals : List ℕ) (tree : TypedTree) (k : ℕ) (ps : List Actual)
    → actuals e.site at_call k ways formals tree ≡ Some ps
    → AllPass e all at_call m (k + waiting tree) formals tree (all_passed (here e) ways formals tree (now (at e m f) k)) (points.all_passed (table e) ps f)
unfolding waiting
all_pass e all at_call m f later flags [] [] NoMore k ps lowers =
    subst (λ ps. AllPass e all at_call m (k + 0) [] NoMore (Done [] (now (at e m f) k)) (points.all_passed (table e) ps f)) (some_same [] ps lowers)
    ([], m, ap (λ n. Done [] (now (at e m f) n)) (none k), later, ([], sym (append-nil (types m))), tt)
  where
    none : (k : ℕ) → k ≡ k + 0
    none k = omega arith
all_pass e all at_call m f later flags (way ∷ ways) (x ∷ formals) (More arg rest) k ps lowers =
    let some = with_first_is (actual e.site at_call k way x arg) (actuals e.site at_call (k + waiting arg) ways formals rest) ps lowers in
    let h : Here = here e in
    let last : ℕ = k + (waiting arg + waiting rest) in
    subst (λ ps. AllPass e all at_call m last (x ∷ formals) (More arg rest) (all_passed h (way ∷ ways) (x ∷ formals) (More arg rest) (now (at e m f) k)) (points.all_passed (table e) ps f)) some.4
    (subst (λ j. AllPass e all at_call m j (x ∷ formals) (More arg rest) (all_passed h (way ∷ ways) (x ∷ formals) (More arg rest) (now (at e m f) k)) (points.all_passed (table e) (some.0 ∷ some.1) f)) (sums k (waiting arg) (waiting rest))
    (pass_on e all at_call m (k + waiting arg) (k + waiting arg + waiting rest) x formals arg rest (passed h way x arg (now (at e m f) k)) (points.passed (table e) some.0 f)
    (all_passed h ways formals rest) (points.all_passed (table e) some.1)
    (passes e all at_call m f later flags way k x arg some.0 some.2)
    (passed_keeps h Anywhere (FreesNone e.memory) (keeps_flags h e.memory) way x arg (now (at e m f) k) flags)
    (λ n g later flags. all_pass e all at_call n g later flags ways formals rest (k + waiting arg) some.1 some.3)))
  where
    sums : (k a b : ℕ) → k + a + b ≡ k + (a + b)
    sums k a b = omega arith
all_pass e all at_call m f later flags [] (x ∷ formals) tree k ps lowers = impossible ps lowers
all_pass e all at_call m f later flags (way ∷ ways) [] tree k ps lowers = impossible ps lowers
all_pass e all at_call m f later flags [] [] _ k ps lowers = impossible ps lowers
all_pass e all at_call m f later flags (way ∷ ways) (x ∷ formals) _ k ps lowers = impossible ps lowers
