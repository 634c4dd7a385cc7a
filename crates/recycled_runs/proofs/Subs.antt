-- After a step the stack has the words of the frames that there are then.
use Rattle.std.proofs.Common.{◌≡◌, refl, sym, ap, ◌∙◌, subst, inl, inr, ◌⊎◌, ℕ, suc, ◌+◌, arith, Bool, true, false, List, [], ◌∷◌, length, get_or, slice_get, Option, Some, None, if◌then◌else◌}
use Rattle.std.specs.Prelude.{option_and_then}
use Rattle.machine.specs.typed_tree.Trees.{TypedTree}
use Rattle.machine.specs.type_definitions.Types.{Table}
use Rattle.kept_cells.specs.run_values.declared.value.Kind.{Kind}
use Rattle.machine.specs.flow_paths.Instructions.{Instruction, Skip, Declare, Assign, Call, Output, Input, Release, Test, Choose, Start, Next, Evaluate, LeaveLoop, Hold, EndScope, Finish, Fall}
use Rattle.machine.specs.flow_paths.Objects.{passings, sub_at}
use Rattle.machine.specs.flow_paths.Points.{FlowPoint}
use Rattle.machine.specs.flow_paths.Laid.{FlowProgram, flow_typing}
use Rattle.machine.specs.States.{sub_of}
use Rattle.machine.specs.States as machine
use Rattle.machine.specs.Step as machine_step
use Rattle.machine.specs.Run.{no_point}
use Rattle.machine.specs.Run as machine_run
use Rattle.run_codes.specs.Codes.{Actual, Does, Point}
use Rattle.run_codes.specs.Codes as codes
use Rattle.run_codes.specs.Flat.{Got, Given, Stops, Broken, and_then, word}
use Rattle.run_codes.specs.Points.{Frame, State, Outcome, Goes, next_value}
use Rattle.run_codes.specs.Points as points
use Rattle.run_codes.specs.Programs.{Program, Around, typing, actuals, going, on_next, does, point, point_takes, with_takes}
use Rattle.run_codes.specs.Related.{types}
use Rattle.run_points.specs.States.{StateStands, FramesStand, FirstRuns}
use Rattle.run_points.specs.Turns.{IsLowered, around_sub}
use Rattle.run_points.proofs.Tests.{mapped}
use Rattle.handled_steps.specs.Alike.{stack_word, turn_next, tested, decided_by, kinds_after}
use Rattle.handled_steps.specs.Looks.{turn_of, point_kinds, step_kinds}
use Rattle.handled_kinds.specs.Stacks.{stack_kinds, EndsWithPackages, subs_of, AreBased, IsStacked, begun_subs, left_subs, led_subs, got_subs, subs_after}
use Rattle.handled_kinds.proofs.After.{after_same}
use Rattle.recycled_runs.proofs.Plain.{IsPlain, IsAlone, plain}
use Rattle.recycled_runs.proofs.Machine.{all_subs, AreSame, StaysIn, CallsIn, LeavesTo, alone_stays, call_stays, finish_leaves}
use Rattle.recycled_runs.proofs.Frames.{plain_based, call_based, finish_based}
use Rattle.soundness.proofs.Parted.{some_same}
use Rattle.std.proofs.lemmas.Bool.{false≢true}
use Rattle.recycled_runs.proofs.Parted.{is_going}

-- ---- what an instruction is

is_one : (i : Instruction) → IsAlone i ⊎ (((sub : ℕ) × (e : TypedTree) × (result : Option ℕ) × (i ≡ Call sub e result)) ⊎ (i ≡ Finish))
is_one Skip = inl tt
is_one (Declare x v) = inl tt
is_one (Assign target e) = inl tt
is_one (Call sub e result) = inr (inl (sub, e, result, refl))
is_one (Output text line) = inl tt
is_one (Input target) = inl tt
is_one (Release e) = inl tt
is_one (Test e) = inl tt
is_one (Choose e choices) = inl tt
is_one (Start x reversed low high) = inl tt
is_one (Next x reversed low high) = inl tt
is_one (Evaluate t e left) = inl tt
is_one (LeaveLoop e) = inl tt
is_one (Hold v) = inl tt
is_one (EndScope x) = inl tt
is_one Finish = inr (inr refl)
is_one Fall = inl tt

-- ---- what a call is lowered to

abbrev CallsOf : ℕ → Option Does → Type 0
CallsOf sub None = Unit {0}
CallsOf sub (Some d) = (all : List Actual) × (n : ℕ) × (d ≡ codes.Call sub all (Some n))

module _ (a : Around) (q : FlowPoint) where
  next_calls : (sub : ℕ) (all : List Actual) → CallsOf sub (on_next a q (λ n. Some (codes.Call sub all n)))
  next_calls sub all = by (going a q 0)
    where
      to : Option ℕ → Option Does
      to None = None
      to (Some n) = Some (codes.Call sub all (Some n))

      by : (x : Option (Option ℕ)) → CallsOf sub (option_and_then to x)
      by None = tt
      by (Some None) = tt
      by (Some (Some n)) = (all, n, refl)

  calls_of : (sub : ℕ) (e : TypedTree) (result : Option ℕ) (d : Does) → does a q (Call sub e result) ≡ Some d → (all : List Actual) × (n : ℕ) × (d ≡ codes.Call sub all (Some n))
  calls_of sub e result d is = subst (CallsOf sub) is (by (actuals a.site q.pos 0 (passings (typing a) (sub_at (typing a) sub)) (sub_at (typing a) sub).formals e))
    where
      by : (x : Option (List Actual)) → CallsOf sub (option_and_then (λ all. on_next a q (λ n. Some (codes.Call sub all n))) x)
      by None = tt
      by (Some all) = next_calls sub all

-- ---- the frames after a point

module _ (t : points.Turn) (ns : List ℕ) where
  abbrev IsOf : List ℕ → Type 0
  IsOf ks = (ks ≡ ns) ⊎ ((m : ℕ) × (t.program.main ≡ Some m) × (ks ≡ m ∷ ns))

  begun_of : (main : Option ℕ) → t.program.main ≡ main → IsOf (begun_subs ns main)
  begun_of None is = inl refl
  begun_of (Some m) is = inr (m, is, refl)

  left_of : (outer : List Frame) → IsOf (left_subs t ns outer)
  left_of [] = begun_of t.program.main refl
  left_of (g ∷ outer) = inl refl

  led_of : (n : Option ℕ) → IsOf (led_subs t ns n)
  led_of (Some n) = inl refl
  led_of None = left_of t.outer

  got_of : (g : Got (Option ℕ)) → IsOf (got_subs t ns g)
  got_of (Given n) = led_of n
  got_of (Stops x) = inl refl
  got_of Broken = inl refl

  plain_of : (d : Does) → IsPlain d → IsOf (subs_after t ns d)
  plain_of (codes.Go n) plain = led_of n
  plain_of (codes.Put at v n) plain = led_of n
  plain_of (codes.Store p v k n) plain = led_of n
  plain_of (codes.Assign p v of checks n) plain = led_of n
  plain_of (codes.Call sub all n) plain = absurd plain
  plain_of (codes.Output pieces line n) plain = led_of n
  plain_of (codes.Input p low high n) plain = led_of n
  plain_of (codes.Release p of at n) plain = led_of n
  plain_of (codes.Test c holds fails) plain = got_of (and_then (word (points.start t) c) (λ w. Given (tested holds fails w)))
  plain_of (codes.Choose c choices) plain = inl refl
  plain_of (codes.Start at counter low high first last n) plain = led_of n
  plain_of (codes.Next at counter reversed default turn leave) plain =
      got_of (and_then (stack_word t at) (λ v. and_then (stack_word t counter) (λ low. and_then (stack_word t (counter + 1))
      (λ high. and_then (stack_word t (counter + 2)) (λ first. Given (turn_next turn leave (next_value reversed low high first v)))))))
  plain_of (codes.EvaluateLeft c or_else n decided) plain = got_of (and_then (word (points.start t) c) (λ w. Given (decided_by or_else n decided w)))
  plain_of (codes.EvaluateRight c n) plain = led_of n
  plain_of (codes.Hold v of n) plain = inl refl
  plain_of (codes.EndPointer at n) plain = led_of n
  plain_of (codes.EndScope at of n) plain = led_of n
  plain_of codes.Finish plain = absurd plain
  plain_of codes.Fall plain = inl refl

-- ---- lists of the same length

some_main : (x : Option ℕ) (a b : ℕ) → x ≡ Some a → x ≡ Some b → a ≡ b
some_main x a b e f = some_same (sym e ∙ f)

never : (n : ℕ) → n ≡ suc n → ⊥
never n e = omega (arith, e)

module _ (program : FlowProgram) (p : Program) (main : p.main ≡ program.main) (ns : List ℕ) where
  abbrev Begun : Option ℕ → List ℕ → Type 0
  Begun x ks = (ks ≡ ns) ⊎ ((m : ℕ) × (x ≡ Some m) × (ks ≡ m ∷ ns))

  same_subs : (ks js : List ℕ) → Begun program.main ks → Begun p.main js → length ks ≡ length js → ks ≡ js
  same_subs ks js (inl a) (inl b) long = a ∙ sym b
  same_subs ks js (inl a) (inr b) long = let e : length ns ≡ suc (length ns) = sym (ap length a) ∙ long ∙ ap length b.2 in absurd (never (length ns) e)
  same_subs ks js (inr a) (inl b) long = let e : suc (length ns) ≡ length ns = sym (ap length a.2) ∙ long ∙ ap length b in absurd (never (length ns) (sym e))
  same_subs ks js (inr a) (inr b) long = a.2 ∙ ap (λ m. m ∷ ns) (some_main program.main a.0 b.0 a.1 (sym main ∙ b.1)) ∙ sym b.2

kept_ends : (n : ℕ) (rest : List ℕ) (x : Option ℕ) (ks : List ℕ) → (ks ≡ n ∷ rest) ⊎ ((m : ℕ) × (x ≡ Some m) × (ks ≡ m ∷ n ∷ rest)) → EndsWithPackages (n ∷ rest) → EndsWithPackages ks
kept_ends n rest x ks (inl a) ends = subst EndsWithPackages (sym a) ends
kept_ends n rest x ks (inr a) ends = subst EndsWithPackages (sym a.2) ends

-- as many frames on both sides
frames_long : (program : FlowProgram) (laid : _) (made : List ℕ) (stack : _) (fs : List machine.Frame) (gs : List Frame) → FramesStand program laid made stack fs gs → length (all_subs fs) ≡ length gs
frames_long program laid made stack [] [] stand = refl
frames_long program laid made stack [] (g ∷ gs) stand = absurd stand
frames_long program laid made stack (f ∷ fs) [] stand = absurd stand
frames_long program laid made stack (f ∷ fs) (g ∷ gs) stand = ap suc (frames_long program laid made stack fs gs stand.1)

based_long : (table : Table) (p : Program) (ns : List ℕ) (gs : List Frame) → AreBased table p ns gs → length ns ≡ length gs
based_long table p [] [] based = refl
based_long table p [] (g ∷ gs) based = absurd based
based_long table p (n ∷ ns) [] based = absurd based
based_long table p (n ∷ ns) (g ∷ gs) based = ap suc (based_long table p ns gs based.1)

then_turned : (t : points.Turn) (b : Bool) (x : Outcome) (next : State) → points.are_taken t ≡ b → (if b then x else points.Wants) ≡ Goes next → (points.are_taken t ≡ true) × (x ≡ Goes next)
then_turned t true x next is e = (is, e)
then_turned t false x next is e = absurd (false≢true (ap is_going e))

-- ---- the law

module _ (program : FlowProgram) (p : Program) (lowered : IsLowered program p) (input : List ℕ) where
  abbrev table : Table
  table = (flow_typing program).table

  abbrev all : List ℕ → List Kind
  all ns = stack_kinds table p ns

  -- at a point of a frame
  module _ (s : machine.State) (g : State) (f : machine.Frame) (fs : List machine.Frame) (h : Frame) (gs : List Frame) (q : Point)
      (stacked : IsStacked table p (all_subs (f ∷ fs)) (h ∷ gs) (all (all_subs (f ∷ fs)))) where
    abbrev t : points.Turn
    t = turn_of table p input g h gs q

    abbrev ns : List ℕ
    ns = all_subs (f ∷ fs)

    abbrev fp : FlowPoint
    fp = get_or (sub_of program f.sub).points f.next no_point

    abbrev u : machine_step.Turn
    u = record { program = program; input = input; point = fp; state = s; frame = f; outer = fs }

    abbrev After : Does → machine.State → State → Type 0
    After d x y = length (kinds_after t (all ns) d) ≡ length y.memory.stack → length (subs_of x) ≡ length y.frames → IsStacked table p (subs_of x) y.frames (kinds_after t (all ns) d)

    -- from the frames that there are
    is_stacked : (d : Does) (x : machine.State) (y : State) → subs_of x ≡ subs_after t ns d → EndsWithPackages (subs_of x) → AreBased table p (subs_after t ns d) y.frames
        → IsStacked table p (subs_of x) y.frames (kinds_after t (all ns) d)
    is_stacked d x y same ends based = record {
      ends = ends;
      kinds = after_same t f.sub (all_subs fs) d stacked.based.0 ∙ ap all (sym same);
      based = subst (λ ks. AreBased table p ks y.frames) (sym same) based;
    }

    plain_stacked : (d : Does) → IsPlain d → (x : machine.State) (y : State) → AreSame program ns (subs_of x) → points.done t d ≡ Goes y → After d x y
    plain_stacked d plain x y stays e long frames =
        let based = plain_based table p input q g h gs f.sub (all_subs fs) stacked.based d plain y e long in
        is_stacked d x y (same_subs program p lowered.main ns (subs_of x) (subs_after t ns d) stays (plain_of t ns d plain) (frames ∙ sym (based_long table p (subs_after t ns d) y.frames based)))
        (kept_ends f.sub (all_subs fs) program.main (subs_of x) stays stacked.ends) based

    call_stacked : (sub : ℕ) (actuals : List Actual) (n : ℕ) → length (all ns) ≡ length g.memory.stack → (x : machine.State) (y : State)
        → (rest : List ℕ) → subs_of x ≡ sub ∷ rest → AreSame program ns rest → points.done t (codes.Call sub actuals (Some n)) ≡ Goes y → After (codes.Call sub actuals (Some n)) x y
    call_stacked sub actuals n before x y rest is stays e long frames =
        let based = call_based table p input q g h gs f.sub (all_subs fs) stacked.based sub actuals (Some n) tt before y e long in
        let count : length (sub ∷ rest) ≡ length (sub ∷ ns) = ap length (sym is) ∙ (frames ∙ sym (based_long table p (sub ∷ ns) y.frames based)) in
        let same : rest ≡ ns = same_subs program p lowered.main ns rest ns stays (inl refl) (omega (arith, count)) in
        let now : subs_of x ≡ sub ∷ ns = is ∙ ap (λ ks. sub ∷ ks) same in
        is_stacked (codes.Call sub actuals (Some n)) x y now (subst EndsWithPackages (sym now) stacked.ends) based

    finish_stacked : (x : machine.State) (y : State) → subs_of x ≡ all_subs fs → points.done t codes.Finish ≡ Goes y → After codes.Finish x y
    finish_stacked x y is e long frames =
        is_stacked codes.Finish x y is (subst EndsWithPackages (sym is) (by (all_subs fs) stacked.ends)) (finish_based table p input q g h gs f.sub (all_subs fs) stacked.based y e long)
      where
        by : (rest : List ℕ) → EndsWithPackages (f.sub ∷ rest) → EndsWithPackages rest
        by [] ends = tt
        by (n ∷ rest) ends = ends

    module _ (before : length (all ns) ≡ length g.memory.stack) (x : machine.State) (y : State) where
      by_instr : (a : Around) (i : Instruction) (d : Does) → does a fp i ≡ Some d → machine_step.turn u i ≡ machine.Goes x → points.done t d ≡ Goes y → After d x y
      by_instr a i d is went e = by (is_one i)
        where
          by : IsAlone i ⊎ (((sub : ℕ) × (e : TypedTree) × (result : Option ℕ) × (i ≡ Call sub e result)) ⊎ (i ≡ Finish)) → After d x y
          by (inl alone) = plain_stacked d (plain a fp i d alone is) x y (subst (StaysIn program ns) went (alone_stays u i alone)) e
          by (inr (inl (sub, actuals, result, same))) =
              let calls = calls_of a fp sub actuals result d (subst (λ j. does a fp j ≡ Some d) same is) in
              let to = subst (CallsIn program sub ns) (ap (machine_step.turn u) (sym same) ∙ went) (call_stays u sub actuals result) in
              subst (λ k. After k x y) (sym calls.2)
              (call_stacked sub calls.0 calls.1 before x y to.0 to.1 to.2 (ap (points.done t) (sym calls.2) ∙ e))
          by (inr (inr same)) =
              let done : codes.Finish ≡ d = some_same (subst (λ j. does a fp j ≡ Some d) same is) in
              subst (λ k. After k x y) done
              (finish_stacked x y (subst (LeavesTo (all_subs fs)) (ap (machine_step.turn u) (sym same) ∙ went) (finish_leaves u)) (ap (points.done t) done ∙ e))

  abbrev of_point : State → Frame → List Frame → Option Point → Outcome
  of_point g h gs None = points.Fails
  of_point g h gs (Some q) = points.turned (turn_of table p input g h gs q)

  pub step_stacked : (s : machine.State) (g : State) (here : List Kind) → StateStands program s g → IsStacked table p (subs_of s) g.frames here → length here ≡ length g.memory.stack
      → (x : machine.State) (y : State) → machine_run.step program input s ≡ machine.Goes x → points.step table p input g ≡ Goes y → StateStands program x y
      → length (step_kinds table p input g here g.frames) ≡ length y.memory.stack → IsStacked table p (subs_of x) y.frames (step_kinds table p input g here g.frames)
  step_stacked s g here stands stacked before x y went goes after =
      by s.frames g.frames stands.frames stands.runs stacked.ends stacked.kinds stacked.based went goes
    where
      long : length (subs_of x) ≡ length y.frames
      long = frames_long program after.laid (types x.memory) y.memory.stack x.frames y.frames after.frames

      by : (fs : List machine.Frame) (gs : List Frame) → FramesStand program stands.laid (types s.memory) g.memory.stack fs gs → FirstRuns program fs → EndsWithPackages (all_subs fs) → here ≡ all (all_subs fs)
          → AreBased table p (all_subs fs) gs → machine_run.stepped program input s fs ≡ machine.Goes x → points.stepped table p input g gs ≡ Goes y
          → length (step_kinds table p input g here gs) ≡ length y.memory.stack → IsStacked table p (subs_of x) y.frames (step_kinds table p input g here gs)
      by [] gs stand runs ends kinds based went goes known = cc
      by (f ∷ fs) [] stand runs ends kinds based went goes known = absurd stand
      by (f ∷ fs) (h ∷ gs) stand runs ends kinds based went goes known =
          let there = lowered.points f.sub f.next runs stand.0.few in
          let next : slice_get p.points h.next ≡ Some there.0 = ap (slice_get p.points) stand.0.next ∙ there.1 in
          subst (λ o. To here o) (sym next) (subst (λ ks. To ks (Some there.0)) (sym kinds) (at there.0 there.2 (sym (ap length kinds) ∙ before))) goes known
        where
          To : List Kind → Option Point → Type 0
          To ks o = of_point g h gs o ≡ Goes y → length (point_kinds table p input g ks h gs o) ≡ length y.memory.stack → IsStacked table p (subs_of x) y.frames (point_kinds table p input g ks h gs o)

          at : (q : Point) → point (around_sub program f.sub) (get_or (sub_of program f.sub).points f.next no_point) ≡ Some q → length (all (all_subs (f ∷ fs))) ≡ length g.memory.stack
              → To (all (all_subs (f ∷ fs))) (Some q)
          at q is before goes known =
              let fp : FlowPoint = get_or (sub_of program f.sub).points f.next no_point in
              let takes : List ℕ = point_takes (flow_typing program) fp.instr in
              let on = mapped (λ d. record { takes = takes; does = d; pos = fp.pos }) (does (with_takes (around_sub program f.sub) takes) fp fp.instr) q is in
              let d_is : on.0 ≡ q.does = ap (λ (r : Point). r.does) on.2 in
              let turned = then_turned (turn_of table p input g h gs q) (points.are_taken (turn_of table p input g h gs q)) (points.done (turn_of table p input g h gs q) q.does) y refl goes in
              by_instr s g f fs h gs q (record { ends = ends; kinds = refl; based = based }) before x y (with_takes (around_sub program f.sub) takes) fp.instr q.does (on.1 ∙ ap Some d_is) went turned.1 known long
