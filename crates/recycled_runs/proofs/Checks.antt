-- What leak checks tell of is there: at the ends of scopes, and where no check is made.
use Rattle.std.proofs.Common.{◌≡◌, refl, sym, ap, ◌∙◌, subst, inl, inr, ℕ, zero, suc, ◌+◌, ◌<◌, arith, Bool, true, false, not, ◌==◌, List, [], ◌∷◌, map, drop, length, get_or, slice_get, Option, Some, None, ℤ, pos, if◌then◌else◌}
use Rattle.std.specs.Prelude.{option_and_then, is_some}
use Rattle.std.proofs.lemmas.Bool.{false≢true}
use Rattle.machine.specs.spark_base.Lists.{Has}
use Rattle.machine.specs.type_definitions.declared.table.Shape.{Shape}
use Rattle.machine.specs.type_definitions.declared.table.Shape.TheVariants as shape
use Rattle.machine.specs.type_definitions.Types.{Table, shape_of}
use Rattle.machine.specs.flow_paths.Instructions.{Instruction, Skip, Declare, Assign, Call, Output, Input, Release, Test, Choose, Start, Next, Evaluate, LeaveLoop, Hold, EndScope, Finish, Fall}
use Rattle.machine.specs.flow_paths.Objects.{Typing, object_at, sub_at, passings, is_package_object}
use Rattle.machine.specs.flow_paths.Points.{FlowPoint}
use Rattle.machine.specs.flow_paths.Laid.{FlowProgram, flow_typing}
use Rattle.soundness.specs.PartOffsets.Parts.{owns_one, IsSettled}
use Rattle.soundness.proofs.PartOffsets.Leaves.{leaf_at}
use Rattle.soundness.specs.OwnedWays.Ways.{Owned}
use Rattle.soundness.specs.Seen.{is_view_formal}
use Rattle.soundness.specs.Typed.{Kept}
use Rattle.machine.specs.Owners.{waiting_in}
use Rattle.machine.specs.typed_tree.Trees.{Name}
use Rattle.kept_cells.specs.run_values.declared.value.Kind.{Kind}
use Rattle.soundness.specs.Sound.{view_of}
use Rattle.machine.specs.Words.{access_offsets}
use Rattle.machine.specs.Typed.{Sort, sorts}
use Rattle.machine.specs.Memory.{Slot, OfVariable, slots_at}
use Rattle.machine.specs.States.{sub_of}
use Rattle.machine.specs.States as machine
use Rattle.machine.specs.Run.{no_point}
use Rattle.recycled_runs.specs.ViewedFacts.NullPlaces.Agrees.{SameState}
use Rattle.run_codes.specs.Codes.{Does, Point}
use Rattle.run_codes.specs.Codes as codes
use Rattle.run_codes.specs.Flat.{Got, Given, Stops, Broken, and_then, front, is_word, kind_of}
use Rattle.run_codes.specs.Lowered.{offset_of}
use Rattle.run_codes.specs.Points.{Frame, State}
use Rattle.run_codes.specs.Points as points
use Rattle.run_codes.specs.Programs.{Program, Around, own_offset, going, on_going, scope_end, does, point_takes, with_takes}
use Rattle.run_codes.specs.Related.{types, AllStand, IsTable}
use Rattle.run_codes.proofs.Places.{if_some, some_same}
use Rattle.run_points.specs.States.{site_of, StateStands, FramesStand, FrameStands, Runs, FirstRuns}
use Rattle.run_points.specs.Turns.{IsLowered, HasTypes, around_sub}
use Rattle.run_points.proofs.Tests.{mapped}
use Rattle.handled_runs.specs.Leaks.{IsLeaked}
use Rattle.handled_steps.specs.Looks.{turn_of, taken_kinds}
use Rattle.handled_kinds.specs.Turns.{LeaksThere}
use Rattle.recycled_runs.proofs.Quiet.{IsQuiet, quiet}
use Rattle.recycled_runs.proofs.Leaked.{owned_leaked}
use Rattle.recycled_runs.proofs.Clear.{NoneGone}
use Rattle.recycled_runs.proofs.Keeps.{IsNull}
use Rattle.recycled_runs.proofs.Targets.{IsOwnName, IsNameOf, AreOwnActuals, assign_there, call_there, release_there}
use Rattle.recycled_runs.proofs.Runs.{LeaksLive}
use Rattle.handled_kinds.specs.Kinds.{HasKinds}
use Rattle.handled_kinds.specs.Stacks.{stack_kinds, EndsWithPackages, AreBased}
use Rattle.handled_kinds.proofs.Stacks.{stack_has, taken_has}
use Rattle.recycled_runs.proofs.Parted.{is_given}
use Rattle.soundness.proofs.Parted.{not_empty}

-- ---- instructions

quiet_there : (t : points.Turn) (d : Does) → IsQuiet d → LeaksThere t d
quiet_there t (codes.Go n) is = tt
quiet_there t (codes.Put at v n) is = tt
quiet_there t (codes.Store p v k n) is = tt
quiet_there t (codes.Assign p v of None n) is = λ zs m e. tt
quiet_there t (codes.Assign p v of (Some at) n) is = absurd is
quiet_there t (codes.Call sub actuals n) is = absurd is
quiet_there t (codes.Output pieces line n) is = tt
quiet_there t (codes.Input p low high n) is = tt
quiet_there t (codes.Release p of at n) is = absurd is
quiet_there t (codes.Test c holds fails) is = tt
quiet_there t (codes.Choose c choices) is = tt
quiet_there t (codes.Start at counter low high first last n) is = tt
quiet_there t (codes.Next at counter reversed default turn leave) is = tt
quiet_there t (codes.EvaluateLeft c or_else n decided) is = tt
quiet_there t (codes.EvaluateRight c n) is = tt
quiet_there t (codes.Hold v of n) is = tt
quiet_there t (codes.EndPointer at n) is = absurd is
quiet_there t (codes.EndScope at of n) is = absurd is
quiet_there t codes.Finish is = absurd is
quiet_there t codes.Fall is = tt

-- ---- words of the stack

given_same : {A : Type 0} (a b : A) → Given a ≡ Given b → a ≡ b
given_same a b e = cc

front_stands : (table : Table) (made : List ℕ) (all : List Sort) (xs : List Slot) (ws zs : List ℤ) → AllStand table made all xs ws → front (map kind_of all) ws ≡ Given zs → AllStand table made all xs zs
front_stands table made [] xs ws zs stand is = tt
front_stands table made (s ∷ all) [] ws zs stand is = absurd stand
front_stands table made (s ∷ all) (x ∷ xs) [] zs stand is = absurd stand
front_stands table made (s ∷ all) (x ∷ xs) (w ∷ ws) zs stand is = by (is_word (kind_of s) w) is (λ more e. front_stands table made all xs ws more stand.1 e)
  where
    then_more : (g : Got (List ℤ)) → and_then g (λ more. Given (w ∷ more)) ≡ Given zs → (more : List ℤ) × (g ≡ Given more) × (w ∷ more ≡ zs)
    then_more (Given more) e = (more, refl, given_same (w ∷ more) zs e)
    then_more (Stops x) e = absurd (false≢true (ap is_given e))
    then_more Broken e = absurd (false≢true (ap is_given e))

    by : (b : Bool) → (if b then and_then (front (map kind_of all) ws) (λ more. Given (w ∷ more)) else Broken) ≡ Given zs
        → ((more : List ℤ) → front (map kind_of all) ws ≡ Given more → AllStand table made all xs more) → AllStand table made (s ∷ all) (x ∷ xs) zs
    by true e on = let more = then_more (front (map kind_of all) ws) e in subst (AllStand table made (s ∷ all) (x ∷ xs)) more.2 (stand.0, on more.0 more.1)
    by false e on = cc

first_word : (n : ℕ) (zs : List ℤ) (z : ℤ) → slice_get zs n ≡ Some z → get_or (drop n zs) 0 (pos 0) ≡ z
first_word zero [] z is = absurd (false≢true (ap is_some is))
first_word zero (w ∷ zs) z is = cc
first_word (suc n) [] z is = absurd (false≢true (ap is_some is))
first_word (suc n) (w ∷ zs) z is = first_word n zs z is

-- ---- the ends of scopes

is_zero : (n : ℕ) → (n == 0) ≡ true → n ≡ 0
is_zero n e = grind arith

module _ (program : FlowProgram) (p : Program) (input : List ℕ) (lowered : IsLowered program p) (laws : IsTable (flow_typing program).table) (settled : IsSettled (flow_typing program).table) where
  abbrev typed : Typing
  typed = flow_typing program

  abbrev table : Table
  table = typed.table

  module _ (s t : machine.State) (g : State) (owned : Owned (view_of typed s)) (same : SameState s t) (stands : StateStands program t g) where
    module _ (m : machine.Frame) (d : ℕ) (f : Frame) (stand : FrameStands program stands.laid (types t.memory) g.memory.stack d m f) (outer : List Frame) (q : Point) (takes : List ℕ) where
      abbrev turn : points.Turn
      turn = turn_of table p input g f outer q

      abbrev a : Around
      a = with_takes (around_sub program m.sub) takes

      abbrev ObjectStands : ℕ → ℕ → Type 0
      ObjectStands x at = (frame : ℕ) × AllStand table (types t.memory) (sorts table (object_at typed x).of) (slots_at typed t.memory (OfVariable frame x)) (drop (f.base + at) g.memory.stack)

      object_stands : (x at : ℕ) → own_offset a x ≡ Some at → ObjectStands x at
      object_stands x at e = by (is_package_object typed x) refl e
        where
          by : (b : Bool) → is_package_object typed x ≡ b → (if (if b then a.is_first else not a.is_first) then offset_of a.site x else None) ≡ Some at → ObjectStands x at
          by true of_package e =
              let sure = if_some a.is_first (offset_of a.site x) at e in
              let zero : m.sub ≡ 0 = is_zero m.sub sure.0 in
              let base = (stand.first zero).1 in
              let there = ap (λ k. offset_of (site_of program k []) x) (sym zero) ∙ sure.1 in
              let place : at ≡ f.base + at = omega (arith, base) in (
                0,
                subst (λ n. AllStand table (types t.memory) (sorts table (object_at typed x).of) (slots_at typed t.memory (OfVariable 0 x)) (drop n g.memory.stack)) place
                    (stands.memory.related.objects (record { frame = 0; object = x; at = at }) (stand.sited.packages x at there of_package)),
              )
          by false own e =
              let sure = if_some (not a.is_first) (offset_of a.site x) at e in
              (d, stands.memory.related.objects (record { frame = d; object = x; at = f.base + at }) (stand.sited.own x at sure.1 own))

      abbrev AllThere : Option Does → Type 0
      AllThere None = Unit {0}
      AllThere (Some d) = LeaksThere turn d

      then_there : {A : Type 0} (x : Option A) (g : A → Option Does) → ((a : A) → x ≡ Some a → AllThere (g a)) → AllThere (option_and_then g x)
      then_there None g on = tt
      then_there (Some a) g on = on a refl

      abbrev scope_by : ℕ → Shape → ℕ → Option ℕ → Does
      scope_by of (shape.Access designated constant true) at n = codes.EndPointer at n
      scope_by of _ at n = codes.EndScope at of n

      scope_there : (fp : FlowPoint) (x : ℕ) → is_view_formal typed x ≡ false → AllThere (scope_end a fp x)
      scope_there fp x own =
          then_there (own_offset a x) (λ at. on_going a fp (ended at))
          (λ at is. then_there (going a fp 0) (ended at) (λ n any. by at n (object_stands x at is) (shape_of table of) refl))
        where
          of : ℕ
          of = (object_at typed x).of

          ended : ℕ → Option ℕ → Option Does
          ended at n = Some (scope_by of (shape_of table of) at n)

          whole : (at : ℕ) (n : Option ℕ) → ObjectStands x at → LeaksThere turn (codes.EndScope at of n)
          whole at n stand zs is =
              owned_leaked program laws settled s t g owned same stands (OfVariable stand.0 x) (ap not own) zs
              (front_stands table (types t.memory) (sorts table of) (slots_at typed t.memory (OfVariable stand.0 x)) (drop (f.base + at) g.memory.stack) zs stand.1 is) (access_offsets table of) (λ o has. has)

          by : (at : ℕ) (n : Option ℕ) → ObjectStands x at → (sh : Shape) → shape_of table of ≡ sh → LeaksThere turn (scope_by of sh at n)
          by at n stand (shape.Access u constant true) shape_is =
              λ z is. (let zs : List ℤ = drop (f.base + at) g.memory.stack in
              let first : Has (access_offsets table of) 0 = leaf_at table settled of [] (ap owns_one shape_is) in
              let there = owned_leaked program laws settled s t g owned same stands (OfVariable stand.0 x) (ap not own) zs stand.1 (0 ∷ [])
              (λ o has. elim has [
                | inl same ↦ subst (Has (access_offsets table of)) same first
                | inr none ↦ absurd none
              ]) in
              subst (IsLeaked g.memory.cells) (first_word (f.base + at) g.memory.stack z is) there.0)
          by at n stand (shape.Access u constant false) shape_is = whole at n stand
          by at n stand (shape.Whole low high) shape_is = whole at n stand
          by at n stand (shape.Listed literals low high) shape_is = whole at n stand
          by at n stand (shape.Fields cs) shape_is = whole at n stand
          by at n stand (shape.Elements low high element) shape_is = whole at n stand
          by at n stand (shape.Same u) shape_is = whole at n stand

-- ---- the law

-- What is asked of an instruction's names: its target and its `out` actuals own what is checked there, and so does an
-- object whose scope ends.
abbrev pub IsOwnIn : Typing → Instruction → Type 0
IsOwnIn s (Assign target e) = IsOwnName s target
IsOwnIn s (Call sub e result) = AreOwnActuals s (passings s (sub_at s sub)) e
IsOwnIn s (Release e) = IsNameOf s e
IsOwnIn s (EndScope x) = is_view_formal s x ≡ false
IsOwnIn s _ = Unit {0}

abbrev pub OwnsNames : FlowProgram → Type 0
OwnsNames program = (n k : ℕ) → k < length (sub_of program n).points → IsOwnIn (flow_typing program) (get_or (sub_of program n).points k no_point).instr

module _ (program : FlowProgram) (p : Program) (input : List ℕ) (lowered : IsLowered program p) (has : HasTypes program) (settled : IsSettled (flow_typing program).table) where
  abbrev all : Table
  all = (flow_typing program).table

  module _ (s t : machine.State) (g : State) (owned : Owned (view_of (flow_typing program) s)) (kept : Kept (flow_typing program) s.memory (waiting_in s)) (same : SameState s t)
      (null : IsNull (flow_typing program) t.memory) (stands : StateStands program t g)
      (m : machine.Frame) (fs : List machine.Frame) (f : Frame) (outer : List Frame) (frames : t.frames ≡ m ∷ fs)
      (stand : FramesStand program stands.laid (types t.memory) g.memory.stack (m ∷ fs) (f ∷ outer)) (runs : Runs program m)
      (fp : FlowPoint) (q : Point) (taken : points.are_taken (turn_of (flow_typing program).table p input g f outer q) ≡ true)
      (here : List Kind) (known : length here ≡ length g.memory.stack) (none : NoneGone here g.memory)
      (kinds_there : HasKinds (site_of program m.sub q.takes) f.base here (taken_kinds (turn_of (flow_typing program).table p input g f outer q))) where
    abbrev There : Does → Type 0
    There d = LeaksThere (turn_of all p input g f outer q) d

    abbrev here_around : Around
    here_around = with_takes (around_sub program m.sub) q.takes

    some_there : (x : Option Does) (d : Does) → x ≡ Some d → AllThere program p input lowered has.laws settled s t g owned same stands m (length fs) f stand.0 outer q q.takes x → There d
    some_there x d is there = subst (AllThere program p input lowered has.laws settled s t g owned same stands m (length fs) f stand.0 outer q q.takes) is there

    -- each instruction
    each : (i : Instruction) (d : Does) → IsOwnIn (flow_typing program) i → does here_around fp i ≡ Some d → There d
    each (Assign (Name name y path u) e) d own is =
        assign_there program has settled p input s t g owned kept same null stands m fs f outer frames stand runs fp q taken here known none kinds_there y u path e name d own is
    each (Assign target e) d own is = absurd own
    each (Call sub e result) d own is = call_there program has settled p input s t g owned kept same null stands m fs f outer frames stand runs fp q taken here known none kinds_there sub e d own is
    each (Release (Name name y path u)) d own is =
        release_there program has settled p input s t g owned kept same null stands m fs f outer frames stand runs fp q taken here known none kinds_there y u path name d own is
    each (Release e) d own is = absurd own
    each (EndScope x) d own is = some_there (scope_end here_around fp x) d is (scope_there program p input lowered has.laws settled s t g owned same stands m (length fs) f stand.0 outer q q.takes fp x own)
    each Finish d own is = subst There (some_same codes.Finish d is) tt
    each Skip d own is = quiet_there (turn_of all p input g f outer q) d (quiet here_around fp Skip d tt is)
    each (Declare x v) d own is = quiet_there (turn_of all p input g f outer q) d (quiet here_around fp (Declare x v) d tt is)
    each (Output text line) d own is = quiet_there (turn_of all p input g f outer q) d (quiet here_around fp (Output text line) d tt is)
    each (Input target) d own is = quiet_there (turn_of all p input g f outer q) d (quiet here_around fp (Input target) d tt is)
    each (Test e) d own is = quiet_there (turn_of all p input g f outer q) d (quiet here_around fp (Test e) d tt is)
    each (Choose e choices) d own is = quiet_there (turn_of all p input g f outer q) d (quiet here_around fp (Choose e choices) d tt is)
    each (Start x reversed low high) d own is = quiet_there (turn_of all p input g f outer q) d (quiet here_around fp (Start x reversed low high) d tt is)
    each (Next x reversed low high) d own is = quiet_there (turn_of all p input g f outer q) d (quiet here_around fp (Next x reversed low high) d tt is)
    each (Evaluate temporary e left) d own is = quiet_there (turn_of all p input g f outer q) d (quiet here_around fp (Evaluate temporary e left) d tt is)
    each (LeaveLoop e) d own is = quiet_there (turn_of all p input g f outer q) d (quiet here_around fp (LeaveLoop e) d tt is)
    each (Hold v) d own is = quiet_there (turn_of all p input g f outer q) d (quiet here_around fp (Hold v) d tt is)
    each Fall d own is = quiet_there (turn_of all p input g f outer q) d (quiet here_around fp Fall d tt is)

  -- What leak checks of steps from sound states tell of is there, where names own what is checked.
  pub leaks_live : (sound : machine.State → Type 0) → ((s : machine.State) → sound s → Owned (view_of (flow_typing program) s)) → ((s : machine.State) → sound s → Kept (flow_typing program) s.memory (waiting_in s))
      → OwnsNames program → LeaksLive program p input sound
  leaks_live sound owned kept own s t g good same null stands here stacked none known f outer q frames next taken =
      by t.frames g.frames refl stands.frames stands.runs stacked.ends stacked.kinds stacked.based frames
    where
      by : (fs : List machine.Frame) (gs : List Frame) → t.frames ≡ fs → FramesStand program stands.laid (types t.memory) g.memory.stack fs gs → FirstRuns program fs
          → EndsWithPackages (map (λ (f : machine.Frame). f.sub) fs) → here ≡ stack_kinds all p (map (λ (f : machine.Frame). f.sub) fs) → AreBased all p (map (λ (f : machine.Frame). f.sub) fs) gs
          → gs ≡ f ∷ outer → LeaksThere (turn_of all p input g f outer q) q.does
      by [] [] these stand runs ends kinds based is = absurd (not_empty (sym is))
      by [] (h ∷ gs) these stand runs ends kinds based is = absurd stand
      by (m ∷ fs) [] these stand runs ends kinds based is = absurd stand
      by (m ∷ fs) (h ∷ gs) these stand runs ends kinds based is =
          let frame = subst (FramesStand program stands.laid (types t.memory) g.memory.stack (m ∷ fs)) is stand in
          let base = subst (AreBased all p (m.sub ∷ map (λ (f : machine.Frame). f.sub) fs)) is based in
          let there = lowered.points m.sub m.next runs frame.0.few in
          let one = some_same there.0 q (sym (ap (slice_get p.points) frame.0.next ∙ there.1) ∙ next) in
          let fp : FlowPoint = get_or (sub_of program m.sub).points m.next no_point in
          let takes : List ℕ = point_takes (flow_typing program) fp.instr in
          let on = mapped (λ d. record { takes = takes; does = d; pos = fp.pos }) (does (with_takes (around_sub program m.sub) takes) fp fp.instr) q (there.2 ∙ ap Some one) in
          let lowers : does (with_takes (around_sub program m.sub) q.takes) fp fp.instr ≡ Some q.does
          = ap (λ (r : Point). does (with_takes (around_sub program m.sub) r.takes) fp fp.instr) (sym on.2) ∙ (on.1 ∙ ap (λ (r : Point). Some r.does) on.2) in
          let turn = turn_of all p input g f outer q in
          let kinds_there : HasKinds (site_of program m.sub q.takes) f.base here (taken_kinds turn)
          = subst (λ b. HasKinds (site_of program m.sub q.takes) b here (taken_kinds turn)) (sym base.0)
          (subst (λ ks. HasKinds (site_of program m.sub q.takes) (length (stack_kinds all p (map (λ (f : machine.Frame). f.sub) fs))) ks (taken_kinds turn)) (sym kinds)
          (stack_has program p lowered.subs m.sub (map (λ (f : machine.Frame). f.sub) fs) q.takes (taken_kinds turn) ends (taken_has turn (site_of program m.sub q.takes) refl refl taken))) in
          each s t g (owned s good) (kept s good) same null stands m fs f outer these frame runs fp q taken here known none kinds_there fp.instr q.does (own m.sub m.next runs) lowers
