-- A call enters a frame on both sides alike.
use Rattle.std.proofs.Common.{◌≡◌, inl, inr, ℕ, ◌+◌, ◌<◌, false, List, [], ◌∷◌, ◌++◌, map, get_or, refl, sym, ap, subst, ◌∙◌, append_assoc}
use Rattle.std.specs.Prelude.{flat_map}
use Rattle.spark_base.specs.Lists.{Has}
use Rattle.spark_base.specs.declared.position.Pos.{Pos}
use Rattle.type_definitions.specs.Entries.{integer}
use Rattle.typed_tree.specs.Trees.{TypedTree, More}
use Rattle.flow_paths.specs.Objects.{object_at, is_package_object}
use Rattle.machine.specs.Memory.{Memory, Place}
use Rattle.machine.specs.Evaluate.{Evaluated, Done}
use Rattle.machine.specs.Calls.{all_passed, out_checks}
use Rattle.machine.specs.Calls as machine_calls
use Rattle.machine.specs.States.{Waiting, Leak, sub_of, stack_words, frame_words, frame_at_start}
use Rattle.machine.specs.States as machine
use Rattle.machine.specs.Step as machine_step
use Rattle.machine.specs.Step.{successor}
use Rattle.run_codes.specs.Codes.{Does}
use Rattle.run_codes.specs.Flat.{Flat, Stop, Raises, Traps, Got, Given, and_then, Made, Failed, Spot, InStack, InCell}
use Rattle.run_codes.specs.Flat as flat
use Rattle.run_codes.specs.Lowered.{Kept, Site, one_type}
use Rattle.run_codes.specs.Points.{Passed, Value, FromSpot, ToSpot, halted, leaks_at, out_leaks, returns_of}
use Rattle.run_codes.specs.Related.{Seen, table, types, now, IsSplit, IsSited, Lying}
use Rattle.run_codes.proofs.Seeing.{lies_there}
use Rattle.machine.specs.Typed.{sorts}
use Rattle.run_fills.specs.Filled.{IsWhole, at}
use Rattle.run_fills.proofs.Leaks.{leaks_same}
use Rattle.run_points.specs.Outcomes.{IsAlike}
use Rattle.run_points.specs.States.{PlaceStands, ReturnsStand, Laid, StateStands}
use Rattle.run_points.specs.Turns.{Turns, turn, flat_turn, seen, TurnStands}
use Rattle.run_points.proofs.Halts.{raised_later, trapped_later}
use Rattle.run_points.proofs.Flags.{FreesNone}
use Rattle.run_points.proofs.Entered.{in_right}
use Rattle.run_points.proofs.Offsets.{formal_words, AreFormals}
use Rattle.run_points.proofs.Passing.{IsFound, formal_type, AllStandPassed, Stopping}
use Rattle.run_points.proofs.Reaching.{reached}
use Rattle.run_points.proofs.Formals.{found_low}

-- ---- stops

pub stopping_alike : {A : Type 0} (b : Turns) (laid : Laid) → TurnStands b laid → (d : Does) (stop : Stop) (f : Flat) (ev : Evaluated A) (go : A → Memory → machine.Outcome) → Stopping (seen b) laid.objects stop f ev
    → IsAlike (StateStands b.program) (machine_step.evaluated (turn b) ev go) (halted (flat_turn b d) stop f)
stopping_alike b laid is d (Raises x) f ev go stops =
    subst (λ v. IsAlike (StateStands b.program) (machine_step.evaluated (turn b) v go) (halted (flat_turn b d) (Raises x) f)) (sym stops.1) (raised_later b laid is d x stops.0.memory f stops.2)
stopping_alike b laid is d (Traps x) f ev go stops =
    subst (λ v. IsAlike (StateStands b.program) (machine_step.evaluated (turn b) v go) (halted (flat_turn b d) (Traps x) f)) (sym stops.1) (trapped_later b laid is d x stops.0.memory f stops.2)
stopping_alike b laid is d flat.Memory f ev go stops = tt

-- ---- leak checks of `out` actuals

flat_joined : (xs ys : List (List Leak)) → flat_map (λ (l : List Leak). l) (xs ++ ys) ≡ flat_map (λ (l : List Leak). l) xs ++ flat_map (λ (l : List Leak). l) ys
flat_joined [] ys = refl
flat_joined (x ∷ xs) ys = ap (λ l. x ++ l) (flat_joined xs ys) ∙ sym (append_assoc x (flat_map (λ (l : List Leak). l) xs) (flat_map (λ (l : List Leak). l) ys))

pub out_same : (e : Seen) (all : List Lying) (m : Memory) (f : Flat) → f.base ≡ e.flat.base → IsWhole (at e m f) all → FreesNone e.memory m → (p : Pos) (formals : List ℕ) (tree : TypedTree) (ps : List machine_calls.Passed) (qs : List Passed)
    → AllStandPassed e p (types m) formals tree ps qs → out_leaks (table e) f qs ≡ Given (flat_map (λ (l : List Leak). l) (out_checks e.site.typing p m ps tree))
out_same e all m f base whole flags p [] tree [] [] is = refl
out_same e all m f base whole flags p (x ∷ formals) (More arg rest) (machine_calls.Value ws ∷ ps) (Value zs ∷ qs) is = out_same e all m f base whole flags p formals rest ps qs is.1
out_same e all m f base whole flags p (x ∷ formals) (More arg rest) (machine_calls.From k ∷ ps) (FromSpot w of ∷ qs) is = out_same e all m f base whole flags p formals rest ps qs is.1
out_same e all m f base whole flags p (x ∷ formals) (More arg rest) (machine_calls.To k ∷ ps) (ToSpot w of q ∷ qs) is =
    let place = reached e all m f base whole flags k of w is.0.0 is.0.1 in
    let checks = machine_calls.checks_at e.site.typing q m k in
    let first : leaks_at (table e) f w of q ≡ Given (flat_map (λ (l : List Leak). l) checks) =
    leaks_same (at e m f) all whole 0 of w place.zs (Done k (now (at e m f) 0)) place.place place.there q
    ∙ ap (λ y. Given (flat_map (λ (l : List Leak). l) (machine_calls.checks_at e.site.typing q m y))) place.same in
    ap (λ y. and_then y (λ leaks. and_then (out_leaks (table e) f qs) (λ more. Given (leaks ++ more)))) first
    ∙ ap (λ y. and_then y (λ more. Given (flat_map (λ (l : List Leak). l) checks ++ more))) (out_same e all m f base whole flags p formals rest ps qs is.1)
    ∙ ap (λ l. Given l) (sym (flat_joined checks (out_checks e.site.typing p m ps rest)))
    ∙ ap (λ y. Given (flat_map (λ (l : List Leak). l) (machine_calls.checks_at e.site.typing y m k ++ out_checks e.site.typing p m ps rest))) is.0.3
out_same e all m f base whole flags p [] tree (a ∷ ps) qs is = absurd is
out_same e all m f base whole flags p [] tree [] (q ∷ qs) is = absurd is
out_same e all m f base whole flags p (x ∷ formals) (More arg rest) [] qs is = absurd is
out_same e all m f base whole flags p (x ∷ formals) (More arg rest) (a ∷ ps) [] is = absurd is
out_same e all m f base whole flags p (x ∷ formals) (More arg rest) (machine_calls.Value ws ∷ ps) (FromSpot w of ∷ qs) is = absurd is.0
out_same e all m f base whole flags p (x ∷ formals) (More arg rest) (machine_calls.Value ws ∷ ps) (ToSpot w of q ∷ qs) is = absurd is.0
out_same e all m f base whole flags p (x ∷ formals) (More arg rest) (machine_calls.From k ∷ ps) (Value zs ∷ qs) is = absurd is.0
out_same e all m f base whole flags p (x ∷ formals) (More arg rest) (machine_calls.From k ∷ ps) (ToSpot w of q ∷ qs) is = absurd is.0
out_same e all m f base whole flags p (x ∷ formals) (More arg rest) (machine_calls.To k ∷ ps) (Value zs ∷ qs) is = absurd is.0
out_same e all m f base whole flags p (x ∷ formals) (More arg rest) (machine_calls.To k ∷ ps) (FromSpot w of ∷ qs) is = absurd is.0
out_same e all m f base whole flags p (x ∷ formals) _ ps qs is = absurd is

-- ---- what is copied back

found_stands : (e : Seen) (all new : List Lying) → IsSited e.site e.frame e.flat.base all → (made : List ℕ) (p : Place) (t : ℕ) (w : Spot) → p.of ≡ t → IsFound e made p t w → PlaceStands e.site.typing (new ++ all) made p w
found_stands e all new sited made p t (InStack n) of is = (
  record { frame = is.frame; object = is.object; at = is.start },
  in_right new all (record { frame = is.frame; object = is.object; at = is.start }) (lies_there e all is.frame is.object is.start sited is.lies),
  is.base,
  is.at,
  subst (λ u. IsSplit (sorts e.site.typing.table (object_at e.site.typing is.object).of) p.at (sorts e.site.typing.table u)) (sym of) is.split,
)
found_stands e all new sited made p t (InCell n o) of is =
    (is.0, is.1, is.2, subst (λ u. IsSplit (sorts e.site.typing.table (get_or made n integer)) p.at (sorts e.site.typing.table u)) (sym of) is.3)

abbrev pub callee_site : Seen → List Kept → List Kept → Site
callee_site e own packages = record { typing = e.site.typing; own = own; package_objects = packages; takes = [] }

pub returns_stand : (e : Seen) (kept packages : List Kept) (all new : List Lying) (d : ℕ) → e.frame < d → IsSited e.site e.frame e.flat.base all → (made : List ℕ) (at_call : Pos) (formals : List ℕ) (tree : TypedTree)
    (ps : List machine_calls.Passed) (qs : List Passed) → ((x : ℕ) → Has formals x → is_package_object e.site.typing x ≡ false) → (o : ℕ) → AreFormals e.site.typing kept o formals
    → AllStandPassed e at_call made formals tree ps qs
    → ReturnsStand (callee_site e kept packages) (new ++ all) d made (machine_calls.returns_of formals ps) (returns_of (table e) o (map (λ x. formal_type e x) formals) qs)
returns_stand e kept packages all new d low sited made at_call [] tree [] [] own o offsets is = tt
returns_stand e kept packages all new d low sited made at_call (x ∷ formals) (More arg rest) (machine_calls.Value ws ∷ ps) (Value zs ∷ qs) own o offsets is =
    returns_stand e kept packages all new d low sited made at_call formals rest ps qs (λ y has. own y (inr has)) (o + formal_words e.site.typing x) offsets.1 is.1
returns_stand e kept packages all new d low sited made at_call (x ∷ formals) (More arg rest) (machine_calls.From k ∷ ps) (FromSpot w of ∷ qs) own o offsets is = (
  record {
    own = own x (inl refl);
    at = offsets.0;
    from = refl;
    of = sym is.0.0;
    to = found_stands e all new sited made k of w is.0.0 is.0.1;
    low = found_low e made k of w d low is.0.1;
    fits = ap (λ u. one_type e.site.typing.table u (formal_type e x)) is.0.0 ∙ is.0.2;
  },
  returns_stand e kept packages all new d low sited made at_call formals rest ps qs (λ y has. own y (inr has)) (o + formal_words e.site.typing x) offsets.1 is.1,
)
returns_stand e kept packages all new d low sited made at_call (x ∷ formals) (More arg rest) (machine_calls.To k ∷ ps) (ToSpot w of q ∷ qs) own o offsets is = (
  record {
    own = own x (inl refl);
    at = offsets.0;
    from = refl;
    of = sym is.0.0;
    to = found_stands e all new sited made k of w is.0.0 is.0.1;
    low = found_low e made k of w d low is.0.1;
    fits = ap (λ u. one_type e.site.typing.table u (formal_type e x)) is.0.0 ∙ is.0.2;
  },
  returns_stand e kept packages all new d low sited made at_call formals rest ps qs (λ y has. own y (inr has)) (o + formal_words e.site.typing x) offsets.1 is.1,
)
returns_stand e kept packages all new d low sited made at_call [] tree (a ∷ ps) qs own o offsets is = absurd is
returns_stand e kept packages all new d low sited made at_call [] tree [] (q ∷ qs) own o offsets is = absurd is
returns_stand e kept packages all new d low sited made at_call (x ∷ formals) (More arg rest) [] qs own o offsets is = absurd is
returns_stand e kept packages all new d low sited made at_call (x ∷ formals) (More arg rest) (a ∷ ps) [] own o offsets is = absurd is
returns_stand e kept packages all new d low sited made at_call (x ∷ formals) (More arg rest) (machine_calls.Value ws ∷ ps) (FromSpot w of ∷ qs) own o offsets is = absurd is.0
returns_stand e kept packages all new d low sited made at_call (x ∷ formals) (More arg rest) (machine_calls.Value ws ∷ ps) (ToSpot w of q ∷ qs) own o offsets is = absurd is.0
returns_stand e kept packages all new d low sited made at_call (x ∷ formals) (More arg rest) (machine_calls.From k ∷ ps) (Value zs ∷ qs) own o offsets is = absurd is.0
returns_stand e kept packages all new d low sited made at_call (x ∷ formals) (More arg rest) (machine_calls.From k ∷ ps) (ToSpot w of q ∷ qs) own o offsets is = absurd is.0
returns_stand e kept packages all new d low sited made at_call (x ∷ formals) (More arg rest) (machine_calls.To k ∷ ps) (Value zs ∷ qs) own o offsets is = absurd is.0
returns_stand e kept packages all new d low sited made at_call (x ∷ formals) (More arg rest) (machine_calls.To k ∷ ps) (FromSpot w of ∷ qs) own o offsets is = absurd is.0
returns_stand e kept packages all new d low sited made at_call (x ∷ formals) _ ps qs own o offsets is = absurd is
