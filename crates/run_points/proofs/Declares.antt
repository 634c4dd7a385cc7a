-- A declaration is the machine's: with a value of any type, or without one.
use Rattle.std.proofs.Common.{◌≡◌, ℕ, suc, ◌+◌, ◌<◌, ◌≤◌, true, List, [], length, sym, ap, subst, ◌∙◌, arith, Option, Some, None, ℤ, if◌then◌else◌, append-nil}
use Rattle.std.specs.Prelude.{option_and_then, nat_le}
use Rattle.type_definitions.specs.Types.{shape_of}
use Rattle.typed_tree.specs.Trees.{TypedTree, NoMore, More}
use Rattle.flow_paths.specs.Objects.{Typing, object_at}
use Rattle.flow_paths.specs.Instructions.{Declare}
use Rattle.flow_paths.specs.Names.{waiting}
use Rattle.flow_paths.specs.Laid.{FlowProgram, flow_typing}
use Rattle.machine.specs.Words.{Word, default}
use Rattle.machine.specs.Typed.{sorts}
use Rattle.machine.specs.Memory.{Memory, fresh, declared}
use Rattle.machine.specs.Evaluate.{Evaluated, Done, initial}
use Rattle.machine.specs.States as machine
use Rattle.machine.specs.Step as machine_step
use Rattle.machine.specs.Step.{first_value}
use Rattle.run_codes.specs.Codes.{Does, Put, Fill, InFrame, Checked, Pointer as LookedAt, Default}
use Rattle.run_codes.specs.Codes as codes
use Rattle.run_codes.specs.Flat.{Flat, Given, Broken, kinds, word, Spot, InStack, spot, filled, default_words, spliced, with_stack}
use Rattle.run_codes.specs.Flat as flat
use Rattle.run_codes.specs.Lowered.{no_index, value}
use Rattle.run_codes.specs.Programs.{going, on_going, use_for, own_offset, put_at}
use Rattle.run_codes.specs.Points.{State, Outcome, on_made, on_got, put_words, goes, leaking_goes, done}
use Rattle.run_codes.specs.Points as points
use Rattle.run_codes.specs.Related.{IsValue, types, Lying, lying_sorts}
use Rattle.run_codes.proofs.Places.{impossible, some_same}
use Rattle.run_codes.proofs.Expressions.{and_then_some}
use Rattle.run_codes.proofs.Seeing.{stack_stored, declared_in_stack}
use Rattle.run_fills.specs.Filled.{Later, Filled}
use Rattle.run_fills.proofs.Wholes.{filled_given}
use Rattle.run_fills.proofs.Values.{default_value}
use Rattle.run_points.specs.Outcomes.{IsAlike}
use Rattle.run_points.specs.States.{Laid, LoopsStand, AreUndeclared, StateStands, MainBegins}
use Rattle.run_points.specs.Turns.{Turns, turn, flat_turn, around, seen, TurnStands, IsKept, DoesAlike}
use Rattle.run_points.proofs.Ends.{start_is, goes_alike}
use Rattle.run_points.proofs.Stacks.{undeclared_on, own_object, own_there, spliced_long}
use Rattle.run_points.proofs.Undeclared.{Keeps}
use Rattle.run_points.proofs.Halts.{is_whole, filled_alike, done_after}
use Rattle.run_points.proofs.Taken.{taken_filled, taken_low}
use Rattle.run_points.proofs.Storing.{loops_stored}

-- ---- the object has a value

pub record IsDeclared (b : Turns) (laid : Laid) (x offset : ℕ) (ws : List Word) (zs : List ℤ) (m : Memory) (f : Flat) : Type 0 where
  pub kept : IsKept b laid (declared (length b.outer) x ws m) (with_stack f (spliced (b.flat_frame.base + offset) zs f.stack))
  pub turning : LoopsStand laid.loops (length b.outer) (spliced (b.flat_frame.base + offset) zs f.stack) b.frame.loops
  pub fits : b.flat_frame.base + offset + length zs ≤ length f.stack

abbrev type_at : Turns → ℕ → ℕ
type_at b x = (object_at (flow_typing b.program) x).of

pub is_declared : (b : Turns) (laid : Laid) → TurnStands b laid → (x offset : ℕ) → own_offset (around b) x ≡ Some offset → (ws : List Word) (zs : List ℤ) (m : Memory) (f : Flat)
    → Later (seen b) laid.objects m f → AreUndeclared (flow_typing b.program) (suc (length b.outer)) m
    → IsValue (flow_typing b.program).table (types m) (sorts (flow_typing b.program).table (type_at b x)) ws zs → IsDeclared b laid x offset ws zs m f
is_declared b laid is x offset there ws zs m f later undeclared value =
    let s : Typing = flow_typing b.program in
    let l : Lying = own_object b x offset in
    let has = own_there b laid is x offset there in
    let within = later.whole.apart.within l has in
    let fits : l.at + length zs ≤ length f.stack = omega (arith, within, value.numbers) in
    let inside : 0 + length zs ≤ length (lying_sorts s l) = omega (arith, value.numbers) in
    record {
      kept = record {
        related = declared_in_stack s laid.objects m f l ws zs later.whole.related later.whole.apart has value;
        more = later.more;
        made = later.grown;
        long = spliced_long l.at zs f.stack fits ∙ later.long;
        undeclared = undeclared_on s (suc (length b.outer)) (length b.outer) x (fresh ws) m (last (length b.outer)) undeclared;
        loops = λ c counts other. loops_stored b laid is m f later l l.at 0 zs has (none l.at) inside c counts;
      };
      turning = λ c counts of. loops_stored b laid is m f later l l.at 0 zs has (none l.at) inside c counts ∙ is.frame.loops c counts of;
      fits = fits;
    }
  where
    last : (n : ℕ) → n < suc n
    last n = omega arith

    none : (n : ℕ) → n ≡ n + 0
    none n = omega arith

-- ---- the value

abbrev declared_value : Turns → ℕ → TypedTree → Option Fill
declared_value b x (More e rest) = value (around b).site 0 (use_for (flow_typing b.program).table (type_at b x)) (type_at b x) e
declared_value b x NoMore = Some (Default (type_at b x))
declared_value b x _ = None

-- It is evaluated alike, and leaves frames that aren't there as they are.
pub record IsFirst (b : Turns) (laid : Laid) (x : ℕ) (v : TypedTree) (w : Fill) : Type 0 where
  pub taken : ℕ
  pub keeps : Keeps (flow_typing b.program) (suc (length b.outer)) (first_value (turn b) (type_at b x) v (machine_step.start (turn b)))
  pub same : Filled (seen b) laid.objects taken (sorts (flow_typing b.program).table (type_at b x)) (first_value (turn b) (type_at b x) v (machine_step.start (turn b)))
      (filled (flow_typing b.program).table w (seen b).flat)

is_first : (b : Turns) (laid : Laid) → TurnStands b laid → (x : ℕ) (v : TypedTree) (w : Fill) → declared_value b x v ≡ Some w → IsFirst b laid x v w
unfolding initial filled
is_first b laid is x (More e rest) w lowers = record {
  taken = 0 + waiting e;
  keeps = taken_low b laid is (type_at b x) e;
  same = taken_filled b laid is (type_at b x) e w lowers;
}
is_first b laid is x NoMore w lowers = record {
  taken = 0;
  keeps = is.memory.undeclared;
  same =
      subst (λ w. Filled (seen b) laid.objects 0 (sorts (flow_typing b.program).table (type_at b x)) (Done (default (flow_typing b.program).table (type_at b x)) (machine_step.start (turn b)))
      (filled (flow_typing b.program).table w (seen b).flat)) (some_same (Default (type_at b x)) w lowers)
      (subst (λ n. Filled (seen b) laid.objects 0 (sorts (flow_typing b.program).table (type_at b x)) (Done (default (flow_typing b.program).table (type_at b x)) n)
      (flat.Done (default_words (flow_typing b.program).table (type_at b x)) (seen b).flat)) (sym (start_is b laid is))
      (filled_given (seen b) laid.objects 0 (sorts (flow_typing b.program).table (type_at b x)) (default (flow_typing b.program).table (type_at b x))
      (default_words (flow_typing b.program).table (type_at b x)) (is_whole b laid is) (default_value (flow_typing b.program).table (types b.memory) is.parts (type_at b x))));
}
is_first b laid is x _ w lowers = impossible w lowers

abbrev with_value : Turns → ℕ → List Word → Memory → machine.Outcome
with_value b x ws m = machine_step.goes (turn b) (declared (length b.outer) x ws m) 0

-- The step goes on with it.
value_first : (b : Turns) (laid : Laid) → TurnStands b laid → (d : Does) (x : ℕ) (v : TypedTree) (w : Fill) (further : List ℤ → Flat → Outcome) → declared_value b x v ≡ Some w
    → ((ws : List Word) (zs : List ℤ) (m : Memory) (f : Flat) → Later (seen b) laid.objects m f → AreUndeclared (flow_typing b.program) (suc (length b.outer)) m
    → IsValue (flow_typing b.program).table (types m) (sorts (flow_typing b.program).table (type_at b x)) ws zs
    → IsAlike (StateStands b.program) (with_value b x ws m) (further zs f))
    → IsAlike (StateStands b.program) (machine_step.declare (turn b) x v) (on_made (flat_turn b d) (filled (flow_typing b.program).table w (seen b).flat) further)
value_first b laid is d x v w further lowers next =
    let first = is_first b laid is x v w lowers in
    let ev : Evaluated (List Word) = first_value (turn b) (type_at b x) v (machine_step.start (turn b)) in
    subst (λ y. IsAlike (StateStands b.program) (machine_step.evaluated (turn b) y (with_value b x)) (on_made (flat_turn b d) (filled (flow_typing b.program).table w (seen b).flat) further))
    (done_after ev)
    (filled_alike b laid is d first.taken (sorts (flow_typing b.program).table (type_at b x)) ev (filled (flow_typing b.program).table w (seen b).flat) (λ ws n. Done ws n) (with_value b x) further
    first.keeps first.same next)

-- ---- the two rows

-- At its offset.
put_row : (b : Turns) (laid : Laid) → TurnStands b laid → MainBegins b.program b.lowered → (d : Does) (n : Option ℕ) → going (around b) b.point 0 ≡ Some n
    → (x offset : ℕ) → own_offset (around b) x ≡ Some offset → (v : TypedTree) (w : Fill) → declared_value b x v ≡ Some w
    → IsAlike (StateStands b.program) (machine_step.declare (turn b) x v) (points.put (flat_turn b d) offset w n)
put_row b laid is begins d n leads x offset there v w lowers =
    value_first b laid is d x v w (λ zs f. on_got (flat_turn b d) f (put_words f offset zs) (λ g. goes (flat_turn b d) g n)) lowers
    (λ ws zs m f later undeclared value.
    let done = is_declared b laid is x offset there ws zs m f later undeclared value in
    subst (λ g. IsAlike (StateStands b.program) (with_value b x ws m) (on_got (flat_turn b d) f g (λ g. goes (flat_turn b d) g n)))
    (sym (ap (λ k. flat.stored f (InStack (k + offset)) [] zs) later.base ∙ stack_stored f (b.flat_frame.base + offset) [] zs done.fits))
    (goes_alike b laid is begins d 0 n leads (declared (length b.outer) x ws m) (with_stack f (spliced (b.flat_frame.base + offset) zs f.stack)) done.kept done.turning))

-- Nothing is checked for leaks.
no_leaks : (program : FlowProgram) (s : machine.State) (g : State) → StateStands program s g → StateStands program s (points.leaking [] g)
no_leaks program s g is = record {
  laid = is.laid;
  memory = is.memory;
  frames = is.frames;
  runs = is.runs;
  at = is.at;
  output = is.output;
  leaks = append-nil g.leaks ∙ is.leaks;
  steps = is.steps;
}

-- The place of the object.
frame_place : (f : Flat) (offset n : ℕ) → f.base + offset ≡ n → n ≤ length f.stack → spot f (InFrame offset no_index) ≡ Given (InStack n)
unfolding word
frame_place f offset n is within =
    ap (λ k. if nat_le k (length f.stack) then Given (InStack k) else Broken) (none (f.base + offset) ∙ is) ∙ ap (λ b. if b then Given (InStack n) else Broken) (fits n (length f.stack) within)
  where
    none : (n : ℕ) → n + 0 ≡ n
    none n = omega arith

    fits : (a b : ℕ) → a ≤ b → nat_le a b ≡ true
    fits a b le = grind arith

assign_row : (b : Turns) (laid : Laid) → TurnStands b laid → MainBegins b.program b.lowered → (d : Does) (n : Option ℕ) → going (around b) b.point 0 ≡ Some n
    → (x offset : ℕ) → own_offset (around b) x ≡ Some offset → (v : TypedTree) (w : Fill) → declared_value b x v ≡ Some w
    → IsAlike (StateStands b.program) (machine_step.declare (turn b) x v) (points.assign (flat_turn b d) (InFrame offset no_index) w (type_at b x) None n)
assign_row b laid is begins d n leads x offset there v w lowers =
    value_first b laid is d x v w (λ zs f. on_got (flat_turn b d) f (spot f (InFrame offset no_index)) (on zs f)) lowers
    (λ ws zs m f later undeclared value.
    let done = is_declared b laid is x offset there ws zs m f later undeclared value in
    let at_offset : ℕ = b.flat_frame.base + offset in
    let new : Flat = with_stack f (spliced at_offset zs f.stack) in
    subst (λ g. IsAlike (StateStands b.program) (with_value b x ws m) (on_got (flat_turn b d) f g (on zs f)))
    (sym (frame_place f offset at_offset (ap (λ k. k + offset) later.base) (less at_offset (length zs) (length f.stack) done.fits)))
    (subst (λ g. IsAlike (StateStands b.program) (with_value b x ws m) (on_got (flat_turn b d) f g (λ g. leaking_goes (flat_turn b d) [] g n)))
    (sym (stack_stored f at_offset (kinds (flow_typing b.program).table (type_at b x)) zs done.fits))
    (no_leaks b.program (machine_step.behind (turn b) (machine_step.waiting (turn b)) (declared (length b.outer) x ws m) 0) (points.after (flat_turn b d) (points.waiting (flat_turn b d)) new n)
    (goes_alike b laid is begins d 0 n leads (declared (length b.outer) x ws m) new done.kept done.turning))))
  where
    on : List ℤ → Flat → Spot → Outcome
    on zs f w =
        on_got (flat_turn b d) f (points.checked_at (flow_typing b.program).table f w (type_at b x) None)
        (λ leaks. on_got (flat_turn b d) f (flat.stored f w (kinds (flow_typing b.program).table (type_at b x)) zs) (λ g. leaking_goes (flat_turn b d) leaks g n))

    less : (a c n : ℕ) → a + c ≤ n → a ≤ n
    less a c n le = omega (arith, le)

-- ---- the instruction

abbrev row_of : Turns → ℕ → ℕ → Option ℕ → Fill → Does
row_of b x offset n w = put_at (shape_of (flow_typing b.program).table (type_at b x)) (record { place = InFrame offset no_index; of = type_at b x }) w None n

any_row : (b : Turns) (laid : Laid) → TurnStands b laid → MainBegins b.program b.lowered → (n : Option ℕ) → going (around b) b.point 0 ≡ Some n
    → (x offset : ℕ) → own_offset (around b) x ≡ Some offset → (v : TypedTree) (w : Fill) → declared_value b x v ≡ Some w
    → IsAlike (StateStands b.program) (machine_step.declare (turn b) x v) (done (flat_turn b (row_of b x offset n w)) (row_of b x offset n w))
any_row b laid is begins n leads x offset there v (Checked c low high) lowers = put_row b laid is begins (Put offset (Checked c low high) n) n leads x offset there v (Checked c low high) lowers
any_row b laid is begins n leads x offset there v (LookedAt c) lowers = put_row b laid is begins (Put offset (LookedAt c) n) n leads x offset there v (LookedAt c) lowers
any_row b laid is begins n leads x offset there v w lowers =
    assign_row b laid is begins (codes.Assign (InFrame offset no_index) w (type_at b x) None n) n leads x offset there v w lowers

pub declare_alike : (b : Turns) (laid : Laid) → TurnStands b laid → MainBegins b.program b.lowered → (x : ℕ) (v : TypedTree) → DoesAlike b (Declare x v)
declare_alike b laid is begins x v d lowers =
    let offset = and_then_some (λ at. option_and_then (λ w. on_going (around b) b.point (λ n. Some (row_of b x at n w))) (declared_value b x v)) (own_offset (around b) x) d lowers in
    let w = and_then_some (λ w. on_going (around b) b.point (λ n. Some (row_of b x offset.0 n w))) (declared_value b x v) d offset.2 in
    let n = and_then_some (λ n. Some (row_of b x offset.0 n w.0)) (going (around b) b.point 0) d w.2 in
    subst (λ y. IsAlike (StateStands b.program) (machine_step.declare (turn b) x v) (done (flat_turn b y) y)) (some_same (row_of b x offset.0 n.0 w.0) d n.2)
    (any_row b laid is begins n.0 n.1 x offset.0 offset.1 v w.0 w.1)
