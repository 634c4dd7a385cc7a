-- An assignment is the machine's: of one word, or of a value of any type, moved and made ones too.
use Rattle.std.proofs.Common.{◌≡◌, ℕ, zero, suc, ◌+◌, true, false, Bool, List, [], ◌∷◌, ◌++◌, length, refl, sym, ap, subst, ◌∙◌, arith, Option, Some, None, ℤ, pos, if◌then◌else◌, append-nil}
use Rattle.std.specs.Prelude.{option_and_then, flat_map}
use Rattle.spark_base.specs.declared.position.Pos.{Pos}
use Rattle.run_values.specs.declared.value.Kind.{Kind}
use Rattle.type_definitions.specs.Types.{Table, shape_of, is_owning}
use Rattle.typed_tree.specs.Trees.{TypedTree}
use Rattle.flow_paths.specs.Instructions.{Assign}
use Rattle.flow_paths.specs.Names.{waiting}
use Rattle.flow_paths.specs.Laid.{FlowProgram, flow_typing}
use Rattle.machine.specs.Words.{Word, access_offsets}
use Rattle.machine.specs.Typed.{sorts}
use Rattle.machine.specs.Memory.{Memory, Place, stored}
use Rattle.machine.specs.Evaluate.{Now, Evaluated, Done, followed_by, place_of}
use Rattle.machine.specs.Calls.{checks_at}
use Rattle.machine.specs.States.{Leak}
use Rattle.machine.specs.States as machine
use Rattle.machine.specs.Step as machine_step
use Rattle.machine.specs.Step.{Stored, taken_by, type_named, target_pos}
use Rattle.run_codes.specs.Codes.{Code, Number, Does, Fill, InFrame, Checked, Pointer as LookedAt}
use Rattle.run_codes.specs.Codes as codes
use Rattle.run_codes.specs.Flat.{Flat, Given, kinds, Spot, InStack, spot, filled}
use Rattle.run_codes.specs.Flat as flat
use Rattle.run_codes.specs.Lowered.{no_index, Placed, place, value}
use Rattle.run_codes.specs.Programs.{going, on_going, use_for, name_pos, kind_at, put_at}
use Rattle.run_codes.specs.Points.{State, Outcome, on_made, on_got, put_words, goes, leaking_goes, checked_at, done}
use Rattle.run_codes.specs.Points as points
use Rattle.run_codes.specs.Related.{IsValue, types, now, IsPlace, IsThere}
use Rattle.run_codes.proofs.Places.{some_same}
use Rattle.run_codes.proofs.Expressions.{and_then_some}
use Rattle.run_fills.specs.Filled.{at, Later}
use Rattle.run_fills.proofs.Leaks.{leaks_same}
use Rattle.run_points.specs.Outcomes.{IsAlike}
use Rattle.run_points.specs.States.{Laid, AreUndeclared, StateStands, MainBegins}
use Rattle.run_points.specs.Turns.{Turns, turn, flat_turn, around, seen, TurnStands, DoesAlike}
use Rattle.run_points.proofs.Ends.{goes_alike}
use Rattle.run_points.proofs.Leaking.{leaking_stands}
use Rattle.run_points.proofs.Halts.{filled_alike}
use Rattle.run_points.proofs.Taken.{taken_filled, taken_low}
use Rattle.run_points.proofs.Spotted.{type_is, pos_is, spot_later, place_alike, frame_spot}
use Rattle.run_points.proofs.Owning.{unowned, no_checks}
use Rattle.run_points.proofs.Scalars.{value_scalar, scalar_type}
use Rattle.run_points.proofs.Storing.{AreKinds, are_kinds, is_stored}

-- ---- leaks

abbrev all_failed : List (List Leak) → List Leak
all_failed checks = flat_map (λ (leaks : List Leak). leaks) checks

quiet_stands : (program : FlowProgram) (s : machine.State) (g : State) (checks : List (List Leak)) → all_failed checks ≡ [] → StateStands program s g
    → StateStands program (machine_step.leaking checks s) g
quiet_stands program s g checks none is = record {
  laid = is.laid;
  memory = is.memory;
  frames = is.frames;
  runs = is.runs;
  at = is.at;
  output = is.output;
  leaks = is.leaks ∙ sym (append-nil s.leaks) ∙ ap (λ l. s.leaks ++ l) (sym none);
  steps = is.steps;
}

-- ---- the machine's assignment

abbrev with_place : Turns → TypedTree → List Word → Now → Evaluated Stored
with_place b target ws n = followed_by (place_of (machine_step.here (turn b)) target n) (λ p n. Done (record { words = ws; place = p }) n)

abbrev ends : Turns → TypedTree → Stored → Memory → machine.Outcome
ends b target s m =
    machine_step.leaking_goes (checks_at (flow_typing b.program) (target_pos (turn b) target) m s.place)
    (machine_step.goes (turn b) (stored (flow_typing b.program) s.place s.words m) 0)

-- What goes on after the value.
abbrev PlacedAlike : Turns → Laid → ℕ → ℕ → TypedTree → (List ℤ → Flat → Outcome) → Type 0
PlacedAlike b laid k of target further =
    (ws : List Word) (zs : List ℤ) (m : Memory) (f : Flat) → Later (seen b) laid.objects m f → AreUndeclared (flow_typing b.program) (suc (length b.outer)) m
    → IsValue (flow_typing b.program).table (types m) (sorts (flow_typing b.program).table of) ws zs
    → IsAlike (StateStands b.program) (machine_step.evaluated (turn b) (with_place b target ws (now (at (seen b) m f) k)) (ends b target)) (further zs f)

value_first : (b : Turns) (laid : Laid) → TurnStands b laid → (d : Does) (target e : TypedTree) (q : Placed) (v : Fill) (further : List ℤ → Flat → Outcome) → type_named target ≡ q.of
    → value (around b).site 0 (use_for (flow_typing b.program).table q.of) q.of e ≡ Some v → PlacedAlike b laid (0 + waiting e) q.of target further
    → IsAlike (StateStands b.program) (machine_step.assign (turn b) target e) (on_made (flat_turn b d) (filled (flow_typing b.program).table v (seen b).flat) further)
value_first b laid is d target e q v further of lowers next =
    subst (λ t. IsAlike (StateStands b.program)
    (machine_step.evaluated (turn b) (followed_by (taken_by (turn b) t e (machine_step.start (turn b))) (with_place b target)) (ends b target))
    (on_made (flat_turn b d) (filled (flow_typing b.program).table v (seen b).flat) further)) (sym of)
    (filled_alike b laid is d (0 + waiting e) (sorts (flow_typing b.program).table q.of) (taken_by (turn b) q.of e (machine_step.start (turn b)))
    (filled (flow_typing b.program).table v (seen b).flat) (with_place b target) (ends b target) further (taken_low b laid is q.of e) (taken_filled b laid is q.of e v lowers) next)

-- ---- the store

-- With leak checks, and where they find nothing.
leaking_alike : (b : Turns) (laid : Laid) → TurnStands b laid → MainBegins b.program b.lowered → (d : Does) (n : Option ℕ) → going (around b) b.point 0 ≡ Some n → (target : TypedTree)
    → (m : Memory) (f : Flat) → Later (seen b) laid.objects m f → AreUndeclared (flow_typing b.program) (suc (length b.outer)) m
    → (k t : ℕ) (w : Spot) (us : List ℤ) (ev : Evaluated Place) (is : IsPlace (at (seen b) m f) k t w us ev) → IsThere (at (seen b) m f) t w us
    → (ws : List Word) (zs : List ℤ) → IsValue (flow_typing b.program).table (types m) (sorts (flow_typing b.program).table t) ws zs
    → (ks : List Kind) → AreKinds w ks (kinds (flow_typing b.program).table t) → (leaks : List Leak)
    → leaks ≡ all_failed (checks_at (flow_typing b.program) (target_pos (turn b) target) m is.p)
    → IsAlike (StateStands b.program) (ends b target (record { words = ws; place = is.p }) m)
    (on_got (flat_turn b d) f (flat.stored f w ks zs) (λ g. leaking_goes (flat_turn b d) leaks g n))
leaking_alike b laid is begins d n leads target m f later undeclared k t w us ev place there ws zs value ks same leaks found =
    let kept = is_stored b laid is m f later undeclared k t w us ev place there ws zs value ks same in
    let new : Memory = stored (flow_typing b.program) place.p ws m in
    subst (λ g. IsAlike (StateStands b.program) (ends b target (record { words = ws; place = place.p }) m) (on_got (flat_turn b d) f g (λ g. leaking_goes (flat_turn b d) leaks g n))) (sym kept.gives)
    (leaking_stands b.program (machine_step.behind (turn b) (machine_step.waiting (turn b)) new 0) (points.after (flat_turn b d) (points.waiting (flat_turn b d)) kept.after n)
    (checks_at (flow_typing b.program) (target_pos (turn b) target) m place.p) leaks found
    (goes_alike b laid is begins d 0 n leads new kept.after kept.kept kept.turning))

quiet_alike : (b : Turns) (laid : Laid) → TurnStands b laid → MainBegins b.program b.lowered → (d : Does) (n : Option ℕ) → going (around b) b.point 0 ≡ Some n → (target : TypedTree)
    → (m : Memory) (f : Flat) → Later (seen b) laid.objects m f → AreUndeclared (flow_typing b.program) (suc (length b.outer)) m
    → (k t : ℕ) (w : Spot) (us : List ℤ) (ev : Evaluated Place) (is : IsPlace (at (seen b) m f) k t w us ev) → IsThere (at (seen b) m f) t w us
    → (ws : List Word) (zs : List ℤ) → IsValue (flow_typing b.program).table (types m) (sorts (flow_typing b.program).table t) ws zs
    → (ks : List Kind) → AreKinds w ks (kinds (flow_typing b.program).table t) → access_offsets (flow_typing b.program).table t ≡ []
    → IsAlike (StateStands b.program) (ends b target (record { words = ws; place = is.p }) m)
    (on_got (flat_turn b d) f (flat.stored f w ks zs) (λ g. goes (flat_turn b d) g n))
quiet_alike b laid is begins d n leads target m f later undeclared k t w us ev place there ws zs value ks same none =
    let kept = is_stored b laid is m f later undeclared k t w us ev place there ws zs value ks same in
    let new : Memory = stored (flow_typing b.program) place.p ws m in
    subst (λ g. IsAlike (StateStands b.program) (ends b target (record { words = ws; place = place.p }) m) (on_got (flat_turn b d) f g (λ g. goes (flat_turn b d) g n))) (sym kept.gives)
    (quiet_stands b.program (machine_step.behind (turn b) (machine_step.waiting (turn b)) new 0) (points.after (flat_turn b d) (points.waiting (flat_turn b d)) kept.after n)
    (checks_at (flow_typing b.program) (target_pos (turn b) target) m place.p)
    (no_checks (at (seen b) m f) laid.objects later.whole k t w us ev place there (target_pos (turn b) target) none)
    (goes_alike b laid is begins d 0 n leads new kept.after kept.kept kept.turning))

-- ---- the three rows

abbrev checks_of : Turns → TypedTree → Bool → Option Pos
checks_of b target owns = if owns then Some (name_pos b.point.pos target) else None

-- What the checks find on both sides.
checks_same : (b : Turns) (laid : Laid) (m : Memory) (f : Flat) → Later (seen b) laid.objects m f → (target : TypedTree) → name_pos b.point.pos target ≡ target_pos (turn b) target
    → (k t : ℕ) (w : Spot) (us : List ℤ) (ev : Evaluated Place) (is : IsPlace (at (seen b) m f) k t w us ev) → IsThere (at (seen b) m f) t w us
    → (owns : Bool) → is_owning (flow_typing b.program).table t ≡ owns
    → (leaks : List Leak) × (checked_at (flow_typing b.program).table f w t (checks_of b target owns) ≡ Given leaks)
    × (leaks ≡ all_failed (checks_at (flow_typing b.program) (target_pos (turn b) target) m is.p))
checks_same b laid m f later target at_pos k t w us ev place there true owning = (
  all_failed (checks_at (flow_typing b.program) (target_pos (turn b) target) m place.p),
  ap (λ p. points.leaks_at (flow_typing b.program).table f w t p) at_pos ∙ leaks_same (at (seen b) m f) laid.objects later.whole k t w us ev place there (target_pos (turn b) target),
  refl,
)
checks_same b laid m f later target at_pos k t w us ev place there false owning = (
  [],
  refl,
  sym (no_checks (at (seen b) m f) laid.objects later.whole k t w us ev place there (target_pos (turn b) target) (unowned (flow_typing b.program).table t owning)),
)

-- A value of any type.
assign_row : (b : Turns) (laid : Laid) → TurnStands b laid → MainBegins b.program b.lowered → (d : Does) (n : Option ℕ) → going (around b) b.point 0 ≡ Some n
    → (target e : TypedTree) (q : Placed) (v : Fill) → place (around b).site (0 + waiting e) target ≡ Some q → value (around b).site 0 (use_for (flow_typing b.program).table q.of) q.of e ≡ Some v
    → (owns : Bool) → is_owning (flow_typing b.program).table q.of ≡ owns
    → IsAlike (StateStands b.program) (machine_step.assign (turn b) target e) (points.assign (flat_turn b d) q.place v q.of (checks_of b target owns) n)
assign_row b laid is begins d n leads target e q v there lowers owns owning =
    value_first b laid is d target e q v
    (λ zs f. on_got (flat_turn b d) f (spot f q.place) (on zs f)) (type_is (around b).site (0 + waiting e) target q there) lowers
    (λ ws zs m f later undeclared value.
    place_alike b laid is d m f later (0 + waiting e + waiting target) q.of (place_of (machine_step.here (turn b)) target (now (at (seen b) m f) (0 + waiting e))) (spot f q.place)
    (λ p n. Done (record { words = ws; place = p }) n) (ends b target) (on zs f) (spot_later b laid m f later (0 + waiting e) target q there)
    (λ w us place found. by ws zs m f later undeclared value w us place found))
  where
    on : List ℤ → Flat → Spot → Outcome
    on zs f w =
        on_got (flat_turn b d) f (checked_at (flow_typing b.program).table f w q.of (checks_of b target owns))
        (λ leaks. on_got (flat_turn b d) f (flat.stored f w (kinds (flow_typing b.program).table q.of) zs) (λ g. leaking_goes (flat_turn b d) leaks g n))

    by : (ws : List Word) (zs : List ℤ) (m : Memory) (f : Flat) → Later (seen b) laid.objects m f → AreUndeclared (flow_typing b.program) (suc (length b.outer)) m
        → IsValue (flow_typing b.program).table (types m) (sorts (flow_typing b.program).table q.of) ws zs → (w : Spot) (us : List ℤ)
        → (place : IsPlace (at (seen b) m f) (0 + waiting e + waiting target) q.of w us (place_of (machine_step.here (turn b)) target (now (at (seen b) m f) (0 + waiting e))))
        → IsThere (at (seen b) m f) q.of w us
        → IsAlike (StateStands b.program) (ends b target (record { words = ws; place = place.p }) m) (on zs f w)
    by ws zs m f later undeclared value w us place found =
        let checks = checks_same b laid m f later target (pos_is (around b).site (0 + waiting e) target q there b.point.pos) (0 + waiting e + waiting target) q.of w us
        (place_of (machine_step.here (turn b)) target (now (at (seen b) m f) (0 + waiting e))) place found owns owning in
        subst (λ g. IsAlike (StateStands b.program) (ends b target (record { words = ws; place = place.p }) m)
        (on_got (flat_turn b d) f g (λ leaks. on_got (flat_turn b d) f (flat.stored f w (kinds (flow_typing b.program).table q.of) zs) (λ g. leaking_goes (flat_turn b d) leaks g n))))
        (sym checks.1)
        (leaking_alike b laid is begins d n leads target m f later undeclared (0 + waiting e + waiting target) q.of w us
        (place_of (machine_step.here (turn b)) target (now (at (seen b) m f) (0 + waiting e))) place found ws zs value (kinds (flow_typing b.program).table q.of)
        (are_kinds w (kinds (flow_typing b.program).table q.of) (kinds (flow_typing b.program).table q.of) refl) checks.0 checks.2)

-- One word, at any place.
store_row : (b : Turns) (laid : Laid) → TurnStands b laid → MainBegins b.program b.lowered → (d : Does) (n : Option ℕ) → going (around b) b.point 0 ≡ Some n
    → (target e : TypedTree) (q : Placed) (v : Fill) → place (around b).site (0 + waiting e) target ≡ Some q → value (around b).site 0 (use_for (flow_typing b.program).table q.of) q.of e ≡ Some v
    → (k : Kind) → k ∷ [] ≡ kinds (flow_typing b.program).table q.of → access_offsets (flow_typing b.program).table q.of ≡ []
    → IsAlike (StateStands b.program) (machine_step.assign (turn b) target e) (points.store (flat_turn b d) q.place v k n)
store_row b laid is begins d n leads target e q v there lowers kind one none =
    value_first b laid is d target e q v
    (λ zs f. on_got (flat_turn b d) f (spot f q.place) (on zs f)) (type_is (around b).site (0 + waiting e) target q there) lowers
    (λ ws zs m f later undeclared value.
    place_alike b laid is d m f later (0 + waiting e + waiting target) q.of (place_of (machine_step.here (turn b)) target (now (at (seen b) m f) (0 + waiting e))) (spot f q.place)
    (λ p n. Done (record { words = ws; place = p }) n) (ends b target) (on zs f) (spot_later b laid m f later (0 + waiting e) target q there)
    (λ w us place found. quiet_alike b laid is begins d n leads target m f later undeclared (0 + waiting e + waiting target) q.of w us
    (place_of (machine_step.here (turn b)) target (now (at (seen b) m f) (0 + waiting e))) place found ws zs value (kind ∷ [])
    (are_kinds w (kind ∷ []) (kinds (flow_typing b.program).table q.of) one) none))
  where
    on : List ℤ → Flat → Spot → Outcome
    on zs f w = on_got (flat_turn b d) f (flat.stored f w (kind ∷ []) zs) (λ g. goes (flat_turn b d) g n)

-- One word, at an offset in the frame.
put_row : (b : Turns) (laid : Laid) → TurnStands b laid → MainBegins b.program b.lowered → (d : Does) (n : Option ℕ) → going (around b) b.point 0 ≡ Some n
    → (target e : TypedTree) (of offset : ℕ) (v : Fill) → place (around b).site (0 + waiting e) target ≡ Some (record { place = InFrame offset no_index; of = of })
    → value (around b).site 0 (use_for (flow_typing b.program).table of) of e ≡ Some v → access_offsets (flow_typing b.program).table of ≡ []
    → IsAlike (StateStands b.program) (machine_step.assign (turn b) target e) (points.put (flat_turn b d) offset v n)
put_row b laid is begins d n leads target e of offset v there lowers none =
    value_first b laid is d target e q v
    (λ zs f. on_got (flat_turn b d) f (put_words f offset zs) (λ g. goes (flat_turn b d) g n)) (type_is (around b).site (0 + waiting e) target q there) lowers
    (λ ws zs m f later undeclared value. by ws zs m f later undeclared value)
  where
    q : Placed
    q = record { place = InFrame offset no_index; of = of }

    by : PlacedAlike b laid (0 + waiting e) of target (λ zs f. on_got (flat_turn b d) f (put_words f offset zs) (λ g. goes (flat_turn b d) g n))
    by ws zs m f later undeclared value =
        let ev : Evaluated Place = place_of (machine_step.here (turn b)) target (now (at (seen b) m f) (0 + waiting e)) in
        let found = frame_spot (at (seen b) m f) (0 + waiting e + waiting target) of offset ev (spot_later b laid m f later (0 + waiting e) target q there) in
        subst (λ x. IsAlike (StateStands b.program) (machine_step.evaluated (turn b) (followed_by x (λ p n. Done (record { words = ws; place = p }) n)) (ends b target))
        (on_got (flat_turn b d) f (put_words f offset zs) (λ g. goes (flat_turn b d) g n))) (sym found.place.gives)
        (quiet_alike b laid is begins d n leads target m f later undeclared (0 + waiting e + waiting target) of (InStack (f.base + offset)) found.us ev found.place found.there ws zs value [] tt none)

-- ---- the instruction

abbrev row_of : Turns → TypedTree → Placed → Bool → Option ℕ → Fill → Does
row_of b target q owns n v = put_at (shape_of (flow_typing b.program).table q.of) q v (checks_of b target owns) n

abbrev IsRow : Turns → TypedTree → TypedTree → Does → Type 0
IsRow b target e d = IsAlike (StateStands b.program) (machine_step.assign (turn b) target e) (done (flat_turn b d) d)

checked_row : (b : Turns) (laid : Laid) → TurnStands b laid → MainBegins b.program b.lowered → (n : Option ℕ) → going (around b) b.point 0 ≡ Some n
    → (target e : TypedTree) (of : ℕ) (c : Code) (low high : ℤ) → value (around b).site 0 (use_for (flow_typing b.program).table of) of e ≡ Some (Checked c low high)
    → (owns : Bool) (p : codes.Place) → place (around b).site (0 + waiting e) target ≡ Some (record { place = p; of = of })
    → IsRow b target e (row_of b target (record { place = p; of = of }) owns n (Checked c low high))
checked_row b laid is begins n leads target e of c low high lowers owns (InFrame offset (Number (pos zero))) there =
    let single = scalar_type (flow_typing b.program).table is.laws of (value_scalar (around b).site 0 (use_for (flow_typing b.program).table of) of e (Checked c low high) refl lowers) in
    put_row b laid is begins (codes.Put offset (Checked c low high) n) n leads target e of offset (Checked c low high) there lowers single.unowned
checked_row b laid is begins n leads target e of c low high lowers owns p there =
    let single = scalar_type (flow_typing b.program).table is.laws of (value_scalar (around b).site 0 (use_for (flow_typing b.program).table of) of e (Checked c low high) refl lowers) in
    let k : Kind = kind_at (shape_of (flow_typing b.program).table of) in
    store_row b laid is begins (codes.Store p (Checked c low high) k n) n leads target e (record { place = p; of = of }) (Checked c low high) there lowers k single.kinds single.unowned

pointer_row : (b : Turns) (laid : Laid) → TurnStands b laid → MainBegins b.program b.lowered → (n : Option ℕ) → going (around b) b.point 0 ≡ Some n
    → (target e : TypedTree) (of : ℕ) (c : Code) → value (around b).site 0 (use_for (flow_typing b.program).table of) of e ≡ Some (LookedAt c)
    → (owns : Bool) → is_owning (flow_typing b.program).table of ≡ owns → (p : codes.Place) → place (around b).site (0 + waiting e) target ≡ Some (record { place = p; of = of })
    → IsRow b target e (row_of b target (record { place = p; of = of }) owns n (LookedAt c))
pointer_row b laid is begins n leads target e of c lowers true owning p there =
    assign_row b laid is begins (codes.Assign p (LookedAt c) of (checks_of b target true) n) n leads target e (record { place = p; of = of }) (LookedAt c) there lowers true owning
pointer_row b laid is begins n leads target e of c lowers false owning (InFrame offset (Number (pos zero))) there =
    put_row b laid is begins (codes.Put offset (LookedAt c) n) n leads target e of offset (LookedAt c) there lowers (unowned (flow_typing b.program).table of owning)
pointer_row b laid is begins n leads target e of c lowers false owning p there =
    assign_row b laid is begins (codes.Assign p (LookedAt c) of None n) n leads target e (record { place = p; of = of }) (LookedAt c) there lowers false owning

any_row : (b : Turns) (laid : Laid) → TurnStands b laid → MainBegins b.program b.lowered → (n : Option ℕ) → going (around b) b.point 0 ≡ Some n
    → (target e : TypedTree) (q : Placed) → place (around b).site (0 + waiting e) target ≡ Some q → (owns : Bool) → is_owning (flow_typing b.program).table q.of ≡ owns
    → (v : Fill) → value (around b).site 0 (use_for (flow_typing b.program).table q.of) q.of e ≡ Some v → IsRow b target e (row_of b target q owns n v)
any_row b laid is begins n leads target e q there owns owning (Checked c low high) lowers = checked_row b laid is begins n leads target e q.of c low high lowers owns q.place there
any_row b laid is begins n leads target e q there owns owning (LookedAt c) lowers = pointer_row b laid is begins n leads target e q.of c lowers owns owning q.place there
any_row b laid is begins n leads target e q there owns owning v lowers =
    assign_row b laid is begins (codes.Assign q.place v q.of (checks_of b target owns) n) n leads target e q v there lowers owns owning

pub assign_alike : (b : Turns) (laid : Laid) → TurnStands b laid → MainBegins b.program b.lowered → (target e : TypedTree) → DoesAlike b (Assign target e)
assign_alike b laid is begins target e d lowers =
    let table : Table = (flow_typing b.program).table in
    let q = and_then_some (λ q. option_and_then (λ v. on_going (around b) b.point (λ n. Some (row_of b target q (is_owning table q.of) n v))) (value (around b).site 0 (use_for table q.of) q.of e))
    (place (around b).site (waiting e) target) d lowers in
    let v = and_then_some (λ v. on_going (around b) b.point (λ n. Some (row_of b target q.0 (is_owning table q.0.of) n v))) (value (around b).site 0 (use_for table q.0.of) q.0.of e) d q.2 in
    let n = and_then_some (λ n. Some (row_of b target q.0 (is_owning table q.0.of) n v.0)) (going (around b) b.point 0) d v.2 in
    subst (λ x. IsRow b target e x) (some_same (row_of b target q.0 (is_owning table q.0.of) n.0 v.0) d n.2)
    (any_row b laid is begins n.0 n.1 target e q.0 (subst (λ k. place (around b).site k target ≡ Some q.0) (none (waiting e)) q.1) (is_owning table q.0.of) refl v.0 v.1)
  where
    none : (n : ℕ) → n ≡ 0 + n
    none n = omega arith
