-- How steps begin, go on and end, over both heaps.
use Rattle.std.proofs.Common.{◌≡◌, refl, sym, ap, subst, ℕ, zero, suc, ◌==◌, List, [], ◌∷◌, ◌++◌, append-nil, take, drop, length, Option, Some, None, ℤ}
use Rattle.std.specs.Cmp.Lexicographic.{pointwise}
use mathlib.Core.Logic.{inl, inr}
use Rattle.handled_runs.specs.type_definitions.Types.{Table}
use Rattle.handled_runs.specs.run_values.declared.value.Kind.{Kind}
use Rattle.handled_runs.specs.machine.States.{Leak, Normal, Raised, Spent, Trapped}
use Rattle.handled_runs.specs.run_codes.Codes.{Point}
use Rattle.handled_runs.specs.run_codes.Flat.{Flat, Got, Given, Stops, Broken, Stop, Raises, Traps, Memory, Made, Done, Halted, Failed}
use Rattle.handled_runs.specs.run_codes.Points.{Held, Frame, sub_at}
use Rattle.handled_runs.specs.run_codes.Points as points
use Rattle.handled_runs.specs.run_codes.Programs.{Program}
use Rattle.handled_runs.specs.Slots.{Slots}
use Rattle.handled_runs.specs.Values as values
use Rattle.handled_runs.specs.Beside.{IsSilent, GotsAlike, Beside}
use Rattle.handled_runs.specs.Alike.{Alike, AreAlike}
use Rattle.handled_runs.proofs.Places.{as_long}
use Rattle.handled_steps.specs.States.{State, Outcome, Wants, Fails, Turn, taken, waiting, are_taken, start, counted, given_up, halted, on_got, on_made, begun, led, after, goes, leaking, leaking_goes}
use Rattle.handled_runs.specs.Looks.{IsClear}
use Rattle.handled_runs.specs.Marks.{During}
use Rattle.handled_runs.proofs.Marking.{during_first, settled_beside}
use Rattle.handled_steps.specs.Steps.{on_settled}
use Rattle.handled_steps.specs.Backs.{LookBack}
use Rattle.handled_steps.specs.Alike.{Paired, HeldAlike, FrameAlike, StatesAlike, OutcomesAlike, begun_kinds, led_kinds, frame_kinds}
use Rattle.handled_steps.specs.Looks.{taken_kinds}
use Rattle.handled_steps.proofs.Pairs.{paired_take, paired_drop, paired_reverse, paired_map, paired_on, held_on, frame_on, frames_on, held_words, held_names}
use Rattle.handled_steps.proofs.GivenUp.{IsMade, beside_made, during_made, given_beside}
use Rattle.handled_steps.proofs.Frames.{frame_pushed}

-- Over the heap memory may be out at any time.
pub wants_alike : (table : Table) (handles : List ℕ) (here : List Kind) (r : points.Outcome) → OutcomesAlike table handles here r Wants
wants_alike table handles here (points.Goes a) = tt
wants_alike table handles here (points.Ends Normal a) = tt
wants_alike table handles here (points.Ends (Raised x p) a) = tt
wants_alike table handles here (points.Ends Spent a) = tt
wants_alike table handles here (points.Ends (Trapped x p) a) = tt
wants_alike table handles here points.Wants = refl
wants_alike table handles here points.Fails = tt

-- ---- a step of both

abbrev pub flat_turn_of : Table → Program → List ℕ → Point → points.State → Frame → List Frame → points.Turn
flat_turn_of table program input point a f fs = record { table = table; program = program; input = input; point = point; state = a; frame = f; outer = fs }

abbrev pub slot_turn_of : Table → Program → List ℕ → Point → State → Frame → List Frame → Turn
slot_turn_of table program input point b g gs = record { table = table; program = program; input = input; point = point; state = b; frame = g; outer = gs }

-- The turns of both, and what both begin with: nothing is gone.
pub record Both (handles : List ℕ) (here : List Kind) : Type 0 where
  pub table : Table
  pub program : Program
  pub input : List ℕ
  pub point : Point
  pub a : points.State
  pub f : Frame
  pub fs : List Frame
  pub b : State
  pub g : Frame
  pub gs : List Frame
  pub states : StatesAlike table handles here a b
  pub frame : FrameAlike table handles f g
  pub outer : Paired (FrameAlike table handles) fs gs
  pub back : LookBack table here (f ∷ fs)
  pub clear : IsClear here (taken_kinds (flat_turn_of table program input point a f fs)) (points.start (flat_turn_of table program input point a f fs))

-- ---- how it goes on

pub counted_alike : (table : Table) (hs : List ℕ) (here : List Kind) (a : points.State) (b : State) → StatesAlike table hs here a b → StatesAlike table hs here (points.counted a) (counted b)
counted_alike table hs here a b is = record {
  taken = is.taken;
  memory = is.memory;
  frames = is.frames;
  at = is.at;
  output = is.output;
  leaks = is.leaks;
  steps = ap suc is.steps;
}

leaking_alike : (table : Table) (hs : List ℕ) (here : List Kind) (leaks : List Leak) (a : points.State) (b : State)
    → StatesAlike table hs here a b → StatesAlike table hs here (points.leaking leaks a) (leaking leaks b)
leaking_alike table hs here leaks a b is = record {
  taken = is.taken;
  memory = is.memory;
  frames = is.frames;
  at = is.at;
  output = is.output;
  leaks = ap (λ ls. ls ++ leaks) is.leaks;
  steps = is.steps;
}

-- Two states but for memory and frames.
pub record SameRest (a : points.State) (b : State) : Type 0 where
  pub at : b.at ≡ a.at
  pub output : b.output ≡ a.output
  pub leaks : b.leaks ≡ a.leaks
  pub steps : b.steps ≡ a.steps

module _ (table : Table) (program : Program) (input : List ℕ) (point : Point) (a : points.State) (f : Frame) (b : State) (g : Frame) (rest : SameRest a b)
    (hs : List ℕ) (here ks : List Kind) (m : Flat) (s : Slots) (beside : Beside hs here ks m s) where
  with_frames : (all others : List Frame) → Paired (FrameAlike table hs) all others
      → StatesAlike table hs here (record a { memory = m; frames = all }) (record b { memory = s; frames = others })
  with_frames all others frames = record {
    taken = ks;
    memory = beside;
    frames = frames;
    at = rest.at;
    output = rest.output;
    leaks = rest.leaks;
    steps = rest.steps;
  }

  begun_alike : (fs gs : List Frame) (x y : Frame) (main : Option ℕ) → FrameAlike table hs x y
      → StatesAlike table hs (begun_kinds (flat_turn_of table program input point a f fs) here main)
      (points.begun (flat_turn_of table program input point a f fs) x m main) (begun (slot_turn_of table program input point b g gs) y s main)
  begun_alike fs gs x y None alike = with_frames (x ∷ []) (y ∷ []) (alike, tt)
  begun_alike fs gs x y (Some main) alike = record {
    taken = ks;
    memory = frame_pushed hs here ks m s beside table (sub_at program main);
    frames = (record { base = as_long hs here ks m s beside; next = refl; words = refl; waits = tt; returns = tt }, (alike, tt));
    at = rest.at;
    output = rest.output;
    leaks = rest.leaks;
    steps = rest.steps;
  }

  led_alike : (fs gs : List Frame) → Paired (FrameAlike table hs) fs gs → (x y : Frame) → FrameAlike table hs x y → (n : Option ℕ)
      → StatesAlike table hs (led_kinds (flat_turn_of table program input point a f fs) here n)
      (points.led (flat_turn_of table program input point a f fs) x m n) (led (slot_turn_of table program input point b g gs) y s n)
  led_alike fs gs outer x y alike (Some n) =
      with_frames (record x { next = n } ∷ fs) (record y { next = n } ∷ gs) (record { base = alike.base; next = refl; words = alike.words; waits = alike.waits; returns = alike.returns }, outer)
  led_alike [] [] outer x y alike None = begun_alike [] [] x y program.main alike
  led_alike [] (k ∷ gs) outer x y alike None = absurd outer
  led_alike (h ∷ fs) [] outer x y alike None = absurd outer
  led_alike (h ∷ fs) (k ∷ gs) outer x y alike None = with_frames (x ∷ h ∷ fs) (y ∷ k ∷ gs) (alike, outer)

-- ---- what is copied back

pub take_known : (here more : List Kind) (n : ℕ) → length here ≡ n → take n (here ++ more) ≡ here
take_known [] more n e = ap (λ k. take k more) (sym e)
take_known (k ∷ here) more zero e = cc
take_known (k ∷ here) more (suc n) e = ap (λ rest. k ∷ rest) (take_known here more n (let same : length here ≡ n = cc in same))

module _ (table : Table) (program : Program) (input : List ℕ) (point : Point) (a : points.State) (f : Frame) (here : List Kind) (m : Flat) (known : length here ≡ length m.stack) (ws : List Held) where
  back_begun : (fs : List Frame) (main : Option ℕ) → LookBack table here (f ∷ [])
      → LookBack table (begun_kinds (flat_turn_of table program input point a f fs) here main) (points.begun (flat_turn_of table program input point a f fs) (record f { waits = ws }) m main).frames
  back_begun fs None back = back
  back_begun fs (Some main) back =
      (tt, subst (λ ks. LookBack table ks (record f { waits = ws } ∷ [])) (sym (take_known here (frame_kinds table (sub_at program main)) (length m.stack) known)) back)

  pub back_left : (fs : List Frame) → LookBack table here (f ∷ fs)
      → LookBack table (led_kinds (flat_turn_of table program input point a f fs) here None) (points.led (flat_turn_of table program input point a f fs) (record f { waits = ws }) m None).frames
  back_left [] back = back_begun [] program.main back
  back_left (g ∷ outer) back = back

module _ (handles : List ℕ) (here : List Kind) (z : Both handles here) where
  abbrev pub flat_turn : points.Turn
  flat_turn = flat_turn_of z.table z.program z.input z.point z.a z.f z.fs

  abbrev pub slot_turn : Turn
  slot_turn = slot_turn_of z.table z.program z.input z.point z.b z.g z.gs

  pub same_rest : SameRest z.a z.b
  same_rest = record { at = z.states.at; output = z.states.output; leaks = z.states.leaks; steps = z.states.steps }

  -- ---- how it begins

  taken_alike : Paired (HeldAlike z.table handles) (points.taken flat_turn) (taken slot_turn)
  taken_alike =
      paired_reverse (HeldAlike z.table handles) (take (length z.point.takes) z.f.waits) (take (length z.point.takes) z.g.waits)
      (paired_take (HeldAlike z.table handles) (length z.point.takes) z.f.waits z.g.waits z.frame.waits)

  pub waiting_alike : Paired (HeldAlike z.table handles) (points.waiting flat_turn) (waiting slot_turn)
  waiting_alike = paired_drop (HeldAlike z.table handles) (length z.point.takes) z.f.waits z.g.waits z.frame.waits

  pub taken_same : are_taken slot_turn ≡ points.are_taken flat_turn
  taken_same =
      ap (pointwise (λ x y. x == y) z.point.takes)
      (paired_map (HeldAlike z.table handles) (λ (h : Held). h.of) (λ (h : Held). h.of) (λ x y is. is.of) (points.taken flat_turn) (taken slot_turn) taken_alike)

  pub start_beside : Beside handles here (taken_kinds flat_turn) (points.start flat_turn) (start slot_turn)
  start_beside =
      let is = z.states.memory in record {
        stack = is.stack;
        known = is.known;
        waits = held_words z.table handles (points.taken flat_turn) (taken slot_turn) taken_alike;
        base = z.frame.base;
        live = is.live;
        made = is.made;
        freed = is.freed;
        rest = ap (λ n. drop n z.input) z.states.at;
        cells = is.cells;
        numbered = is.numbered;
        small = is.small;
        names = is.names;
        waiting_names = held_names z.table handles (points.taken flat_turn) (taken slot_turn) taken_alike;
      }

  pub start_more : Beside (handles ++ []) here (taken_kinds flat_turn) (points.start flat_turn) (start slot_turn)
  start_more = subst (λ hs. Beside hs here (taken_kinds flat_turn) (points.start flat_turn) (start slot_turn)) (sym (append-nil handles)) start_beside

  pub start_during : During handles here (taken_kinds flat_turn) (points.start flat_turn) (start slot_turn)
  start_during = during_first handles here (taken_kinds flat_turn) (points.start flat_turn) (start slot_turn) start_beside z.clear refl

  -- ---- how it ends

  module _ (more : List ℕ) (m : Flat) (s : Slots) (made : IsMade (handles ++ more) m s) where
    ended_alike : StatesAlike z.table (handles ++ more) here (points.counted (record z.a { memory = points.given_up z.a.memory m })) (counted (record z.b { memory = given_up z.b.memory s }))
    ended_alike = record {
      taken = z.states.taken;
      memory = given_beside handles more here z.states.taken z.a.memory z.b.memory z.states.memory m s made;
      frames = frames_on handles more z.table z.a.frames z.b.frames z.states.frames;
      at = z.states.at;
      output = z.states.output;
      leaks = z.states.leaks;
      steps = ap suc z.states.steps;
    }

    pub stops_alike : (there : List Kind) (x : Stop) → OutcomesAlike z.table handles there (points.halted flat_turn x m) (halted slot_turn x s)
    stops_alike there (Raises e) = (refl, (here, (more, ended_alike)))
    stops_alike there (Traps e) = tt
    stops_alike there Memory = refl

    -- after what is only read
    pub read_on : {A B : Type 0} (R : A → B → Type 0) (there : List Kind) (x : Got A) (y : Got B) (F : A → points.Outcome) (G : B → Outcome) → GotsAlike R x y
        → ((p : A) (q : B) → x ≡ Given p → R p q → OutcomesAlike z.table handles there (F p) (G q))
        → OutcomesAlike z.table handles there (points.on_got flat_turn m x F) (on_got slot_turn s y G)
    read_on R there (Given p) (Given q) F G alike on = on p q refl alike
    read_on R there (Given p) (Stops y) F G alike on = absurd alike
    read_on R there (Given p) Broken F G alike on = absurd alike
    read_on R there (Stops (Raises e)) y F G alike on =
        subst (λ v. OutcomesAlike z.table handles there (points.halted flat_turn (Raises e) m) (on_got slot_turn s v G)) (sym alike) (stops_alike there (Raises e))
    read_on R there (Stops (Traps e)) y F G alike on = tt
    read_on R there (Stops Memory) y F G alike on = subst (λ v. OutcomesAlike z.table handles there points.Wants (on_got slot_turn s v G)) (sym alike) refl
    read_on R there Broken y F G alike on = tt

  -- In the course of the point.
  module _ (more : List ℕ) (now ks : List Kind) (m : Flat) (s : Slots) (during : During (handles ++ more) now ks m s) where
    pub stops_during : (there : List Kind) (x : Stop) → OutcomesAlike z.table handles there (points.halted flat_turn x m) (halted slot_turn x s)
    stops_during = stops_alike more m s (during_made (handles ++ more) now ks m s during)

    pub read_during : {A B : Type 0} (R : A → B → Type 0) (there : List Kind) (x : Got A) (y : Got B) (F : A → points.Outcome) (G : B → Outcome) → GotsAlike R x y
        → ((p : A) (q : B) → x ≡ Given p → R p q → OutcomesAlike z.table handles there (F p) (G q))
        → OutcomesAlike z.table handles there (points.on_got flat_turn m x F) (on_got slot_turn s y G)
    read_during = read_on more m s (during_made (handles ++ more) now ks m s during)

    -- Its last check was made.
    pub settled_on : (there : List Kind) (x : points.Outcome) (G : Slots → Outcome) → ((t : Slots) → Beside (handles ++ more) now ks m t → OutcomesAlike z.table handles there x (G t))
        → OutcomesAlike z.table handles there x (on_settled slot_turn s G)
    settled_on there x G on =
        let done = settled_beside (handles ++ more) now ks m s during in
        subst (λ g. OutcomesAlike z.table handles there x (on_got slot_turn s g G)) (sym done.1) (on done.0 done.2)

  module _ (more : List ℕ) (now ks : List Kind) (m : Flat) (s : Slots) (beside : Beside (handles ++ more) now ks m s) where
    pub halted_alike : (there : List Kind) (x : Stop) → OutcomesAlike z.table handles there (points.halted flat_turn x m) (halted slot_turn x s)
    halted_alike = stops_alike more m s (beside_made (handles ++ more) now ks m s beside)

    pub got_on : {A B : Type 0} (R : A → B → Type 0) (there : List Kind) (x : Got A) (y : Got B) (F : A → points.Outcome) (G : B → Outcome) → GotsAlike R x y
        → ((p : A) (q : B) → x ≡ Given p → R p q → OutcomesAlike z.table handles there (F p) (G q))
        → OutcomesAlike z.table handles there (points.on_got flat_turn m x F) (on_got slot_turn s y G)
    got_on = read_on more m s (beside_made (handles ++ more) now ks m s beside)

    -- ---- how it goes on

    pub after_alike : (ws vs : List Held) → Paired (HeldAlike z.table (handles ++ more)) ws vs → (n : Option ℕ)
        → StatesAlike z.table (handles ++ more) (led_kinds flat_turn now n) (points.after flat_turn ws m n) (after slot_turn vs s n)
    after_alike ws vs waits n =
        let frame = frame_on handles more z.table z.f z.g z.frame in
        counted_alike z.table (handles ++ more) (led_kinds flat_turn now n) (points.led flat_turn (record z.f { waits = ws }) m n) (led slot_turn (record z.g { waits = vs }) s n)
        (led_alike z.table z.program z.input z.point z.a z.f z.b z.g same_rest (handles ++ more) now ks m s beside z.fs z.gs (frames_on handles more z.table z.fs z.gs z.outer)
        (record z.f { waits = ws }) (record z.g { waits = vs }) (record { base = frame.base; next = frame.next; words = frame.words; waits = waits; returns = frame.returns }) n)

    pub waiting_on : Paired (HeldAlike z.table (handles ++ more)) (points.waiting flat_turn) (waiting slot_turn)
    waiting_on =
        paired_on (HeldAlike z.table handles) (HeldAlike z.table (handles ++ more)) (held_on handles more z.table) (points.waiting flat_turn) (waiting slot_turn) waiting_alike

  -- what is copied back, after the point
  pub back_on : (m : Flat) → length here ≡ length m.stack → (ws : List Held) (n : Option ℕ) → LookBack z.table (led_kinds flat_turn here n) (points.after flat_turn ws m n).frames
  back_on m known ws (Some n) = z.back
  back_on m known ws None = back_left z.table z.program z.input z.point z.a z.f here m known ws z.fs z.back

  module _ (more : List ℕ) (ks : List Kind) (m : Flat) (s : Slots) (beside : Beside (handles ++ more) here ks m s) where
    pub goes_alike : (n : Option ℕ) → OutcomesAlike z.table handles (led_kinds flat_turn here n) (points.goes flat_turn m n) (goes slot_turn s n)
    goes_alike n =
        (more, after_alike more here ks m s beside (points.waiting flat_turn) (waiting slot_turn) (waiting_on more here ks m s beside) n, back_on m beside.known (points.waiting flat_turn) n)

    pub leaking_goes_alike : (leaks : List Leak) (n : Option ℕ)
        → OutcomesAlike z.table handles (led_kinds flat_turn here n) (points.leaking_goes flat_turn leaks m n) (leaking_goes slot_turn leaks s n)
    leaking_goes_alike leaks n = (
      more,
      leaking_alike z.table (handles ++ more) (led_kinds flat_turn here n) leaks (points.after flat_turn (points.waiting flat_turn) m n) (after slot_turn (waiting slot_turn) s n)
          (after_alike more here ks m s beside (points.waiting flat_turn) (waiting slot_turn) (waiting_on more here ks m s beside) n),
      back_on m beside.known (points.waiting flat_turn) n,
    )

  -- ---- after a value

  pub silent_halts : (m : Flat) (there : List Kind) (x : Stop) (r : Outcome) → IsSilent x → OutcomesAlike z.table handles there (points.halted flat_turn x m) r
  silent_halts m there (Raises e) r silent = absurd silent
  silent_halts m there (Traps e) r silent = tt
  silent_halts m there Memory r silent = absurd silent

  pub made_on : (ks taken there : List Kind) (x : Made (List ℤ)) (y : values.Outcome) (F : List ℤ → Flat → points.Outcome) (G : List ℤ → Slots → Outcome) → AreAlike handles here taken ks x y
      → ((zs : List ℤ) (m : Flat) (us : List ℤ) (s : Slots) → x ≡ Done zs m → Alike handles here taken ks zs m us s → OutcomesAlike z.table handles there (F zs m) (G us s))
      → OutcomesAlike z.table handles there (points.on_made flat_turn x F) (on_made slot_turn y G)
  made_on ks taken there (Done zs m) (values.Gives us s) F G alike on = on zs m us s refl alike
  made_on ks taken there (Done zs m) (values.Ends x s) F G alike on =
      subst (λ e. OutcomesAlike z.table handles there (F zs m) (halted slot_turn e s)) (sym alike) (wants_alike z.table handles there (F zs m))
  made_on ks taken there (Done zs m) values.Fails F G alike on = absurd alike
  made_on ks taken there (Halted x m) (values.Gives us s) F G alike on = silent_halts m there x (G us s) alike
  made_on ks taken there (Halted x m) (values.Ends y s) F G (inl e) on = silent_halts m there x (halted slot_turn y s) e
  made_on ks taken there (Halted x m) (values.Ends y s) F G (inr (inl e)) on =
      subst (λ w. OutcomesAlike z.table handles there (points.halted flat_turn x m) (halted slot_turn w s)) (sym e) (wants_alike z.table handles there (points.halted flat_turn x m))
  made_on ks taken there (Halted x m) (values.Ends y s) F G (inr (inr both)) on =
      subst (λ w. OutcomesAlike z.table handles there (points.halted flat_turn x m) (halted slot_turn w s)) both.0 (stops_during both.1.0 here taken m s both.1.1 there x)
  made_on ks taken there (Halted x m) values.Fails F G alike on = silent_halts m there x Fails alike
  made_on ks taken there Failed y F G alike on = tt
