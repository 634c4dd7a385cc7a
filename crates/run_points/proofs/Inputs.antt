-- An input is the machine's: a number within bounds goes to a place.
use Rattle.std.proofs.Common.{◌≡◌, ℕ, ◌+◌, true, false, Bool, ◌&&◌, List, [], ◌∷◌, length, map, refl, sym, ap, subst, ◌∙◌, Option, Some, None, ℤ, nat_lt, drop, take, if◌then◌else◌}
use Rattle.std.specs.List.{list_all}
use Rattle.std.specs.Str.{all_ascii_digits}
use Rattle.std.specs.Str.Parse.{without_leading_sign, signed_digits_value}
use Rattle.run_values.specs.declared.value.Kind.TheVariants as sort
use Rattle.run_values.specs.declared.items.Item.{Item}
use Rattle.run_values.specs.declared.items.Item.TheVariants as item
use Rattle.run_values.specs.Arithmetic.{is_integer}
use Rattle.run_values.specs.Items.{is_separator, separator_length, item_length, number, item_of, next_item}
use Rattle.type_definitions.specs.declared.table.Shape.{Shape}
use Rattle.type_definitions.specs.declared.table.Shape.TheVariants as shape
use Rattle.type_definitions.specs.Types.{Table, shape_of}
use Rattle.typed_tree.specs.Trees.{TypedTree}
use Rattle.flow_paths.specs.Instructions.{Input}
use Rattle.flow_paths.specs.Names.{waiting}
use Rattle.flow_paths.specs.Laid.{FlowProgram, flow_typing}
use Rattle.machine.specs.Words.{Int, fits_type}
use Rattle.machine.specs.Typed.{Whole, sorts}
use Rattle.machine.specs.Memory.{Memory, Place, stored}
use Rattle.machine.specs.Evaluate.{Evaluated, Done, ConstraintError, DataError, EndError, place_of}
use Rattle.machine.specs.States as machine
use Rattle.machine.specs.Step as machine_step
use Rattle.run_codes.specs.Codes.{Does}
use Rattle.run_codes.specs.Codes as codes
use Rattle.run_codes.specs.Flat.{Raises, kind_of, kinds, constraint, is_between, Spot, spot}
use Rattle.run_codes.specs.Flat as flat
use Rattle.run_codes.specs.Lowered.{Placed, place}
use Rattle.run_codes.specs.Programs.{going, on_going, input_to}
use Rattle.run_codes.specs.Points.{State, Outcome, Goes, halted, on_got, after}
use Rattle.run_codes.specs.Points as points
use Rattle.run_codes.specs.Related.{IsValue, types, now, IsPlace, IsThere}
use Rattle.run_codes.proofs.Places.{impossible, some_same, if_some}
use Rattle.run_codes.proofs.Expressions.{and_then_some}
use Rattle.run_fills.specs.Filled.{at, Later}
use Rattle.run_fills.proofs.Single.{one_value, whole_fits}
use Rattle.run_fills.proofs.Wholes.{unchanged}
use Rattle.run_points.specs.Outcomes.{IsAlike}
use Rattle.run_points.specs.States.{Laid, StateStands, MainBegins}
use Rattle.run_points.specs.Turns.{Turns, turn, flat_turn, around, seen, TurnStands, DoesAlike}
use Rattle.run_points.proofs.Ends.{start_is, raised_alike, goes_alike}
use Rattle.run_points.proofs.Tests.{DoneAlike}
use Rattle.run_points.proofs.Halts.{is_whole, done_after}
use Rattle.run_points.proofs.Spotted.{spot_later, place_alike}
use Rattle.run_points.proofs.Storing.{are_kinds, is_stored}

-- ---- a number of the input is a value of Integer

number_fits : (text : List ℕ) (v : ℤ) → number text ≡ Some v → is_integer v ≡ true
number_fits text v is =
    let found : ℤ = signed_digits_value 10 text in
    let sure = if_some (nat_lt 0 (length (without_leading_sign text)) && all_ascii_digits (without_leading_sign text)) (if is_integer found then Some found else None) v is in
    let fits = if_some (is_integer found) (Some found) v sure.1 in
    subst (λ z. is_integer z ≡ true) (some_same found v fits.1) fits.0

item_fits : (o : Option ℤ) (n : ℕ) (v : ℤ) (k : ℕ) → ((z : ℤ) → o ≡ Some z → is_integer z ≡ true) → item_of o n ≡ item.Number v k → is_integer v ≡ true
item_fits None n v k each is = absurd (never is)
  where
    never : item.Bad ≡ item.Number v k → ⊥
    never is = cc
item_fits (Some z) n v k each is = subst (λ x. is_integer x ≡ true) (same is) (each z refl)
  where
    same : item.Number z n ≡ item.Number v k → z ≡ v
    same is = cc

next_fits : (input : List ℕ) (start : ℕ) (v : ℤ) (k : ℕ) → next_item input start ≡ item.Number v k → is_integer v ≡ true
next_fits input start v k is = by (list_all is_separator (drop start input)) is
  where
    from : ℕ
    from = start + separator_length (drop start input)

    len : ℕ
    len = item_length (drop from input)

    never : item.Missing ≡ item.Number v k → ⊥
    never is = cc

    by : (b : Bool) → (if b then item.Missing else item_of (number (take len (drop from input))) (from + len)) ≡ item.Number v k → is_integer v ≡ true
    by true is = absurd (never is)
    by false is = item_fits (number (take len (drop from input))) (from + len) v k (number_fits (take len (drop from input))) is

-- ---- the item goes to its place

with_at : (program : FlowProgram) (s : machine.State) (g : State) (n : ℕ) → StateStands program s g → StateStands program (record s { at = n }) (record g { at = n })
with_at program s g n is = record {
  laid = is.laid;
  memory = is.memory;
  frames = is.frames;
  runs = is.runs;
  at = refl;
  output = is.output;
  leaks = is.leaks;
  steps = is.steps;
}

abbrev got : Turns → Place → Item → Memory → machine.Outcome
got b p item.Missing m = machine_step.raised (turn b) EndError m
got b p item.Bad m = machine_step.raised (turn b) DataError m
got b p (item.Number v end) m =
    if fits_type (flow_typing b.program).table p.of (Int v ∷ [])
    then machine.Goes (record (machine_step.behind (turn b) (machine_step.waiting (turn b)) (stored (flow_typing b.program) p (Int v ∷ []) m) 0) { at = end })
    else machine_step.raised (turn b) ConstraintError m

abbrev read : Turns → Does → ℤ → ℤ → Option ℕ → Spot → Item → Outcome
read b d low high n w item.Missing = halted (flat_turn b d) (Raises EndError) (seen b).flat
read b d low high n w item.Bad = halted (flat_turn b d) (Raises DataError) (seen b).flat
read b d low high n w (item.Number v end) =
    if is_between low high v
    then on_got (flat_turn b d) (seen b).flat (flat.stored (seen b).flat w (sort.Int ∷ []) (v ∷ []))
    (λ m. Goes (record (after (flat_turn b d) (points.waiting (flat_turn b d)) m n) { at = end }))
    else halted (flat_turn b d) constraint (seen b).flat

item_alike : (b : Turns) (laid : Laid) → TurnStands b laid → MainBegins b.program b.lowered → (d : Does) (n : Option ℕ) → going (around b) b.point 0 ≡ Some n
    → (t : ℕ) (low high : ℤ) → shape_of (flow_typing b.program).table t ≡ shape.Whole low high
    → (k : ℕ) (w : Spot) (us : List ℤ) (ev : Evaluated Place) (is : IsPlace (at (seen b) b.memory (seen b).flat) k t w us ev) → IsThere (at (seen b) b.memory (seen b).flat) t w us
    → (i : Item) → ((v : ℤ) (end : ℕ) → i ≡ item.Number v end → is_integer v ≡ true)
    → IsAlike (StateStands b.program) (got b is.p i b.memory) (read b d low high n w i)
item_alike b laid is begins d n leads t low high shape k w us ev place there item.Missing integers = raised_alike b laid is d EndError
item_alike b laid is begins d n leads t low high shape k w us ev place there item.Bad integers = raised_alike b laid is d DataError
item_alike b laid is begins d n leads t low high shape k w us ev place there (item.Number v end) integers =
    subst (λ c. IsAlike (StateStands b.program) (if c then stores else machine_step.raised (turn b) ConstraintError b.memory) (read b d low high n w (item.Number v end))) (sym same)
    (by (is_between low high v))
  where
    table : Table
    table = (flow_typing b.program).table

    new : Memory
    new = stored (flow_typing b.program) place.p (Int v ∷ []) b.memory

    stores : machine.Outcome
    stores = machine.Goes (record (machine_step.behind (turn b) (machine_step.waiting (turn b)) new 0) { at = end })

    same : fits_type table place.p.of (Int v ∷ []) ≡ is_between low high v
    same = ap (λ u. fits_type table u (Int v ∷ [])) place.of ∙ whole_fits table (types b.memory) t low high v (Int v) shape (refl, integers v end refl)

    one : sorts table t ≡ Whole ∷ []
    one = is.laws.whole t low high shape

    value : IsValue table (types b.memory) (sorts table t) (Int v ∷ []) (v ∷ [])
    value = subst (λ l. IsValue table (types b.memory) l (Int v ∷ []) (v ∷ [])) (sym one) (one_value table (types b.memory) Whole (Int v) v (refl, integers v end refl) tt)

    by : (c : Bool) → IsAlike (StateStands b.program) (if c then stores else machine_step.raised (turn b) ConstraintError b.memory)
        (if c then on_got (flat_turn b d) (seen b).flat (flat.stored (seen b).flat w (sort.Int ∷ []) (v ∷ []))
        (λ m. Goes (record (after (flat_turn b d) (points.waiting (flat_turn b d)) m n) { at = end }))
        else halted (flat_turn b d) constraint (seen b).flat)
    by false = raised_alike b laid is d ConstraintError
    by true =
        let kept = is_stored b laid is b.memory (seen b).flat (unchanged (seen b) laid.objects (is_whole b laid is)) is.memory.undeclared k t w us ev place there (Int v ∷ []) (v ∷ []) value
        (sort.Int ∷ []) (are_kinds w (sort.Int ∷ []) (kinds table t) (ap (λ l. map kind_of l) (sym one))) in
        subst (λ g. IsAlike (StateStands b.program) stores
        (on_got (flat_turn b d) (seen b).flat g (λ m. Goes (record (after (flat_turn b d) (points.waiting (flat_turn b d)) m n) { at = end })))) (sym kept.gives)
        (with_at b.program (machine_step.behind (turn b) (machine_step.waiting (turn b)) new 0) (after (flat_turn b d) (points.waiting (flat_turn b d)) kept.after n) end
        (goes_alike b laid is begins d 0 n leads new kept.after kept.kept kept.turning))

-- ---- the instruction

place_first : (b : Turns) (laid : Laid) → TurnStands b laid → MainBegins b.program b.lowered → (d : Does) (n : Option ℕ) → going (around b) b.point 0 ≡ Some n
    → (target : TypedTree) (q : Placed) → place (around b).site 0 target ≡ Some q → (low high : ℤ) → shape_of (flow_typing b.program).table q.of ≡ shape.Whole low high
    → IsAlike (StateStands b.program) (machine_step.input (turn b) target) (points.input (flat_turn b d) q.place low high n)
place_first b laid is begins d n leads target q there low high shape =
    subst (λ s. IsAlike (StateStands b.program) (machine_step.evaluated (turn b) (place_of (machine_step.here (turn b)) target s) go) (on_got (flat_turn b d) (seen b).flat (spot (seen b).flat q.place) on))
    (sym (start_is b laid is))
    (subst (λ v. IsAlike (StateStands b.program) (machine_step.evaluated (turn b) v go) (on_got (flat_turn b d) (seen b).flat (spot (seen b).flat q.place) on)) (done_after ev)
    (place_alike b laid is d b.memory (seen b).flat later (0 + waiting target) q.of ev (spot (seen b).flat q.place) (λ p n. Done p n) go on
    (spot_later b laid b.memory (seen b).flat later 0 target q there)
    (λ w us place found. item_alike b laid is begins d n leads q.of low high shape (0 + waiting target) w us ev place found (next_item b.input b.at) (λ v end same. next_fits b.input b.at v end same))))
  where
    later : Later (seen b) laid.objects b.memory (seen b).flat
    later = unchanged (seen b) laid.objects (is_whole b laid is)

    ev : Evaluated Place
    ev = place_of (machine_step.here (turn b)) target (now (seen b) 0)

    go : Place → Memory → machine.Outcome
    go p m = got b p (next_item b.input b.at) m

    on : Spot → Outcome
    on w = read b d low high n w (next_item b.input b.at)

pub input_alike : (b : Turns) (laid : Laid) → TurnStands b laid → MainBegins b.program b.lowered → (target : TypedTree) → DoesAlike b (Input target)
input_alike b laid is begins target d lowers =
    let q = and_then_some (input_to (around b) b.point) (place (around b).site 0 target) d lowers in
    by q.0 q.1 (shape_of (flow_typing b.program).table q.0.of) refl q.2
  where
    by_shape : Placed → Shape → Option Does
    by_shape q (shape.Whole low high) = on_going (around b) b.point (λ n. Some (codes.Input q.place low high n))
    by_shape q _ = None

    by : (q : Placed) → place (around b).site 0 target ≡ Some q → (sh : Shape) → shape_of (flow_typing b.program).table q.of ≡ sh → by_shape q sh ≡ Some d
        → DoneAlike b (machine_step.input (turn b) target) d
    by q there (shape.Whole low high) is_shape lowers =
        let n = and_then_some (λ n. Some (codes.Input q.place low high n)) (going (around b) b.point 0) d lowers in
        subst (λ x. DoneAlike b (machine_step.input (turn b) target) x) (some_same (codes.Input q.place low high n.0) d n.2)
        (place_first b laid is begins (codes.Input q.place low high n.0) n.0 n.1 target q there low high is_shape)
    by q there (shape.Listed literals low high) is_shape lowers = impossible d lowers
    by q there (shape.Access designated constant named) is_shape lowers = impossible d lowers
    by q there (shape.Fields components) is_shape lowers = impossible d lowers
    by q there (shape.Elements low high element) is_shape lowers = impossible d lowers
    by q there (shape.Same of) is_shape lowers = impossible d lowers
