-- Where the machine stores: what was made until then has the sizes of its types.
use Rattle.std.proofs.Common.{◌≡◌, refl, sym, ap, ◌∙◌, subst, ℕ, zero, ◌+◌, ◌≤◌, arith, List, Option, Some, None, ℤ, pos, if◌then◌else◌}
use Rattle.std.specs.Prelude.{option_and_then}
use Rattle.machine.specs.spark_base.declared.position.Pos.{Pos}
use Rattle.machine.specs.type_definitions.declared.table.Shape.{Shape}
use Rattle.machine.specs.type_definitions.Types.{Table, shape_of, is_owning}
use Rattle.machine.specs.typed_tree.Trees.{TypedTree}
use Rattle.machine.specs.flow_paths.Instructions.{Instruction, Skip, Declare, Assign, Call, Output, Input, Release, Test, Choose, Start, Next, Evaluate, LeaveLoop, Hold, EndScope, Finish, Fall}
use Rattle.machine.specs.flow_paths.Names.{waiting}
use Rattle.machine.specs.flow_paths.Laid.{flow_typing}
use Rattle.machine.specs.Words.{Word}
use Rattle.machine.specs.Typed.{sorts}
use Rattle.machine.specs.Memory.{Memory, Place}
use Rattle.machine.specs.Evaluate.{Now, Evaluated, Done, Raises, Traps, followed_by, place_of}
use Rattle.machine.specs.Step as machine_step
use Rattle.machine.specs.Step.{Stored, taken_by, type_named}
use Rattle.run_codes.specs.Codes.{Does, Fill, Checked, Pointer as LookedAt, InFrame, InPackages, Behind, Number}
use Rattle.run_codes.specs.Codes as codes
use Rattle.run_codes.specs.Flat.{Flat, Got, Given, Stops, Broken, Made, Halted, Failed, Spot, Stop, spot, filled}
use Rattle.run_codes.specs.Flat as flat
use Rattle.run_codes.specs.Lowered.{Placed, place, value}
use Rattle.run_codes.specs.Programs.{going, on_going, use_for, name_pos, put_at, stored_at, input_to, release_at, does}
use Rattle.run_codes.specs.Points.{Turn, Outcome, Wants, start, on_made, done}
use Rattle.run_codes.specs.Related.{now, SpotSame, Stopped}
use Rattle.run_codes.proofs.Expressions.{and_then_some}
use Rattle.run_codes.proofs.Places.{some_same}
use Rattle.run_codes.proofs.Spots.{place_same}
use Rattle.run_fills.specs.Filled.{at, Filled}
use Rattle.run_points.specs.States.{Laid}
use Rattle.run_points.specs.Turns.{Turns, turn, flat_turn, around, seen, TurnStands}
use Rattle.run_points.proofs.Ends.{start_is}
use Rattle.run_points.proofs.Waits.{is_seen}
use Rattle.run_points.proofs.Taken.{taken_filled}
use Rattle.run_points.proofs.Spotted.{type_is, spot_later}
use Rattle.recycled_runs.proofs.Tops.{marks, count, AreTyped, have_typed}
use Rattle.numbered_cells.specs.Peaks.{peak_of}
use Rattle.recycled_runs.proofs.TopSteps.{StoresAt}
use Rattle.recycled_runs.proofs.Parted.{evaluated_nows}

-- ---- evaluations that stop

done_memory : {A : Type 0} (a b : A) (n k : Now) → Done a n ≡ Done b k → n.memory ≡ k.memory
done_memory a b n k e = ap (λ x. memory_of x n) e
  where
    memory_of : {A : Type 0} → Evaluated A → Now → Memory
    memory_of (Done a n) d = n.memory
    memory_of _ d = d.memory

no_raise : {A : Type 0} (a : A) (n k : Now) (e : _) → Raises e k ≡ Done a n → ⊥
no_raise a n k e same = cc

no_trap : {A : Type 0} (a : A) (n k : Now) (e : _) → Traps e k ≡ Done a n → ⊥
no_trap a n k e same = cc

stopped_never : {A : Type 0} (m : Memory) (stop : Stop) (ev : Evaluated A) (a : A) (n : Now) → Stopped m stop ev → ev ≡ Done a n → ⊥
stopped_never m (flat.Raises x) ev a n is e = no_raise a n is.0 x (sym is.1 ∙ e)
stopped_never m (flat.Traps x) ev a n is e = no_trap a n is.0 x (sym is.1 ∙ e)
stopped_never m flat.Memory ev a n is e = is

-- A place leaves the memory as it is.
spot_memory : (e : _) (k t : ℕ) (ev : Evaluated Place) (got : Got Spot) → SpotSame e k t ev got → (p : Place) (n : Now) → ev ≡ Done p n → n.memory ≡ (now e k).memory
spot_memory e k t ev (Given w) same p n is = done_memory p same.1.p n (now e k) (sym is ∙ same.1.gives)
spot_memory e k t ev (Stops stop) same p n is = absurd (stopped_never (now e k).memory stop ev p n same is)
spot_memory e k t ev Broken same p n is = absurd same

-- ---- values for which memory is out

wants_made : (t : Turn) (g : Made (List ℤ)) (f : Flat) (further : List ℤ → Flat → Outcome) → g ≡ Halted flat.Memory f → on_made t g further ≡ Wants
wants_made t g f further e = ap (λ x. on_made t x further) e

put_wants : (t : Turn) (sh : Shape) (q : Placed) (v : Fill) (checks : Option Pos) (n : Option ℕ) (f : Flat) → filled t.table v (start t) ≡ Halted flat.Memory f → done t (put_at sh q v checks n) ≡ Wants
put_wants t sh q (Checked c low high) checks n f e = by q.place
  where
    by : (p : codes.Place) → done t (put_at sh (record { place = p; of = q.of }) (Checked c low high) checks n) ≡ Wants
    by (InFrame o (Number (pos zero))) = wants_made t _ f _ e
    by (InFrame o i) = wants_made t _ f _ e
    by (InPackages o i) = wants_made t _ f _ e
    by (Behind a o i) = wants_made t _ f _ e
put_wants t sh q (LookedAt c) None n f e = by q.place
  where
    by : (p : codes.Place) → done t (put_at sh (record { place = p; of = q.of }) (LookedAt c) None n) ≡ Wants
    by (InFrame o (Number (pos zero))) = wants_made t _ f _ e
    by (InFrame o i) = wants_made t _ f _ e
    by (InPackages o i) = wants_made t _ f _ e
    by (Behind a o i) = wants_made t _ f _ e
put_wants t sh q (LookedAt c) (Some p) n f e = wants_made t _ f _ e
put_wants t sh q v checks n f e = wants_made t _ f _ e

none_first : (n : ℕ) → 0 + n ≡ n
none_first n = omega arith

-- ---- points

module _ (b : Turns) (laid : Laid) (is : TurnStands b laid) where
  abbrev table : Table
  table = (flow_typing b.program).table

  place_stays : (target : TypedTree) (q : Placed) → place (around b).site 0 target ≡ Some q → (p : Place) (n : Now) → place_of (machine_step.here (turn b)) target (machine_step.start (turn b)) ≡ Done p n → n.memory ≡ b.memory
  place_stays target q lowers p n e =
      spot_memory (seen b) (0 + waiting target) q.of (place_of (machine_step.here (turn b)) target (now (seen b) 0)) (spot (seen b).flat q.place) (place_same (seen b) (is_seen b laid is) target 0 q lowers) p n
      (ap (place_of (machine_step.here (turn b)) target) (sym (start_is b laid is)) ∙ e)

  abbrev with_place : TypedTree → List Word → Now → Evaluated Stored
  with_place target ws n = followed_by (place_of (machine_step.here (turn b)) target n) (λ k n. Done (record { words = ws; place = k }) n)

  -- The place is found after the value.
  then_place : (target : TypedTree) (ws : List Word) (n : Now) (s : Stored) (k : Now) → with_place target ws n ≡ Done s k → (p : Place) × (place_of (machine_step.here (turn b)) target n ≡ Done p k)
  then_place target ws n s k e = by (place_of (machine_step.here (turn b)) target n) e
    where
      by : (x : Evaluated Place) → followed_by x (λ k n. Done (record { words = ws; place = k }) n) ≡ Done s k → (p : Place) × (x ≡ Done p k)
      by (Done p m) same = (p, ap (λ n. Done p n) (now_same (record { words = ws; place = p }) s m k same))
        where
          now_same : (a b : Stored) (m k : Now) → Done a m ≡ Done b k → m ≡ k
          now_same a b m k same = evaluated_nows same
      by (Raises x m) same = absurd (no_raise s k m x same)
      by (Traps x m) same = absurd (no_trap s k m x same)

  assign_typed : (target e : TypedTree) (q : Placed) (v : Fill) → place (around b).site (waiting e) target ≡ Some q → value (around b).site 0 (use_for table q.of) q.of e ≡ Some v
      → ((f : Flat) → filled table v (seen b).flat ≡ Halted flat.Memory f → ⊥)
      → (s : Stored) (n : Now) → followed_by (taken_by (turn b) (type_named target) e (machine_step.start (turn b))) (with_place target) ≡ Done s n → AreTyped table n.memory
  assign_typed target e q v there lowers room s n gives =
      by (filled table v (seen b).flat) refl (taken_filled b laid is q.of e v lowers)
      (subst (λ t. followed_by (taken_by (turn b) t e (machine_step.start (turn b))) (with_place target) ≡ Done s n) (type_is (around b).site (waiting e) target q there) gives)
    where
      ev : Evaluated (List Word)
      ev = taken_by (turn b) q.of e (machine_step.start (turn b))

      by : (g : Made (List ℤ)) → filled table v (seen b).flat ≡ g → Filled (seen b) laid.objects (0 + waiting e) (sorts table q.of) ev g → followed_by ev (with_place target) ≡ Done s n → AreTyped table n.memory
      by (flat.Done zs f) same found given =
          let p = then_place target found.0 (now (at (seen b) found.1 f) (0 + waiting e)) s n (ap (λ x. followed_by x (with_place target)) (sym found.2) ∙ given) in
          let stays = spot_memory (at (seen b) found.1 f) (0 + waiting e + waiting target) q.of (place_of (machine_step.here (turn b)) target (now (at (seen b) found.1 f) (0 + waiting e))) (spot f q.place)
          (spot_later b laid found.1 f found.3 (0 + waiting e) target q (subst (λ k. place (around b).site k target ≡ Some q) (sym (none_first (waiting e))) there)) p.0 n p.1 in
          subst (AreTyped table) (sym stays) (have_typed table found.1 f found.3.whole.related.cells)
      by (Halted (flat.Raises x) f) same found given = absurd (no_raise s n found.0 x (ap (λ y. followed_by y (with_place target)) (sym found.1) ∙ given))
      by (Halted (flat.Traps x) f) same found given = absurd (no_trap s n found.0 x (ap (λ y. followed_by y (with_place target)) (sym found.1) ∙ given))
      by (Halted flat.Memory f) same found given = absurd (room f same)
      by Failed same found given = absurd found

  -- Where the step over numbers doesn't want memory.
  pub stores_at : (under : (n : ℕ) → count n (marks b.memory.cells) ≤ peak_of n b.memory.peaks) (typed : AreTyped table b.memory) (i : Instruction) (d : Does) → does (around b) b.point i ≡ Some d → (done (flat_turn b d) d ≡ Wants → ⊥)
      → StoresAt (turn b) under typed i
  stores_at under typed (Assign target e) d lowers room =
      let checks : Placed → Option Pos = (λ q. if is_owning table q.of then Some (name_pos b.point.pos target) else None) in
      let stored : Placed → Fill → Option Does = (λ q v. on_going (around b) b.point (λ n. Some (stored_at table q v (checks q) n))) in
      let q = and_then_some (λ q. option_and_then (stored q) (value (around b).site 0 (use_for table q.of) q.of e)) (place (around b).site (waiting e) target) d lowers in
      let v = and_then_some (stored q.0) (value (around b).site 0 (use_for table q.0.of) q.0.of e) d q.2 in
      let n = and_then_some (λ n. Some (stored_at table q.0 v.0 (checks q.0) n)) (going (around b) b.point 0) d v.2 in
      assign_typed target e q.0 v.0 q.1 v.1
      (λ f out. room (subst (λ x. done (flat_turn b d) x ≡ Wants) (some_same (stored_at table q.0 v.0 (checks q.0) n.0) d n.2) (put_wants (flat_turn b d) (shape_of table q.0.of) q.0 v.0 (checks q.0) n.0 f out)))
  stores_at under typed (Input target) d lowers room =
      let q = and_then_some (input_to (around b) b.point) (place (around b).site 0 target) d lowers in place_stays target q.0 q.1
  stores_at under typed (Release e) d lowers room =
      let q = and_then_some (release_at (around b) b.point e) (place (around b).site 0 e) d lowers in place_stays e q.0 q.1
  stores_at under typed Skip d lowers room = tt
  stores_at under typed (Declare x v) d lowers room = tt
  stores_at under typed (Call sub e result) d lowers room = tt
  stores_at under typed (Output text line) d lowers room = tt
  stores_at under typed (Test e) d lowers room = tt
  stores_at under typed (Choose e choices) d lowers room = tt
  stores_at under typed (Start x reversed low high) d lowers room = tt
  stores_at under typed (Next x reversed low high) d lowers room = tt
  stores_at under typed (Evaluate u e op) d lowers room = tt
  stores_at under typed (LeaveLoop e) d lowers room = tt
  stores_at under typed (Hold v) d lowers room = tt
  stores_at under typed (EndScope x) d lowers room = tt
  stores_at under typed Finish d lowers room = tt
  stores_at under typed Fall d lowers room = tt
