-- The step of a result that waits is one that its definition allows.
use Rattle.std.proofs.Common.{◌≡◌, ◌≢◌, ◌≤◌, ℕ, ◌-◌, Bool, true, false, ◌==◌, ◌&&◌, List, [], ◌∷◌, length, take, drop, refl, sym, ◌∙◌, ap, subst, arith, Option, Some, None, Ok, Err, ℤ, if◌then◌else◌}
use Rattle.std.specs.Prelude.{reverse}
use Rattle.std.proofs.lemmas.List.{length-take-le}
use Rattle.type_definitions.specs.Types.{Table}
use Rattle.run_values.specs.declared.value.Value.{Value}
use Rattle.machine.specs.States.{Leak}
use Rattle.slot_heap.specs.Heaps.{Heap, words_at}
use Rattle.run_codes.specs.Codes.{Point, Fill}
use Rattle.run_codes.specs.Flat.{Got, Given, Stops, Broken, Stop as Reason, Spot, InStack, InCell, and_then, is_broken, spliced, have_kinds, are_pointers}
use Rattle.run_codes.specs.Programs.{Program}
use Rattle.run_codes.specs.Points.{Held, given_to}
use Rattle.run_codes.specs.Points as points
use Rattle.code_rows.specs.declared.stop.Stop.{Stop}
use Rattle.code_rows.specs.declared.stop.Stop.TheVariants as stop
use Rattle.code_rows.specs.Stops.{stop_of}
use Rattle.code_rows.specs.Points.{next_of}
use Rattle.handled_runs.specs.Slots.{Move, Slots, front}
use Rattle.handled_runs.specs.Changes.{with_stack, with_heap, all_null, nulled, emptied, cell_emptied, all_emptied, settled}
use Rattle.handled_runs.specs.Values as values
use Rattle.handled_runs.specs.Values.{Gives, Ends, Fills}
use Rattle.handled_steps.specs.States.{State, Outcome, Goes, Fails, Turn, start, waiting, counted, halted, on_got}
use Rattle.handled_steps.specs.Steps as steps
use Rattle.handled_steps.specs.Steps.{After, on_settled}
use Rattle.made_cells.specs.Since.{Since}
use Rattle.made_cells.proofs.Values.{none_since, fill_since}
use Rattle.slot_memory.specs.Memory.{Kept, Ghosts, Stands, Shows, Elsewhere, slots, ghosts_of}
use Rattle.slot_frames.specs.Stacks.{Stacked}
use Rattle.slot_frames.specs.Frames.{word_at, IsStacked, AreLatest}
use Rattle.slot_frames.specs.Parts.{own, own_returns, outside, all_held}
use Rattle.slot_frames.proofs.Waits.{first_within, first_at, held_length, reversed_length}
use Rattle.slot_runs.specs.Turns.{NeverFails, is_failing, bare}
use Rattle.slot_stages.specs.Stages.{Stage, state_of, IsStage, running, turn_of, without, at_point, with_wait, leaving_waits}
use Rattle.slot_stages.proofs.Sights.{start_is, frames_are}
use Rattle.slot_stages.proofs.Goes.{cut_is, cut_runs, at_is}
use Rattle.slot_stages.proofs.Waits.{held_on}
use Rattle.slot_held.specs.Holds.{Holdable, Holding, with_words, with_value}

-- ---- what is asked for

-- The words that are taken lie within those that wait.
pub first_below : (s : Stacked) (zs : List ℤ) (types : List ℕ) (k : ℕ) → IsStacked s zs → AreLatest s types k
    → word_at s.waits k (length zs) ≤ length zs
first_below s zs types k stacked latest =
    subst (λ n. n ≤ length zs) (first_at s.waits k (length types) (length zs) latest.count)
    (first_within (length types) (reverse s.waits) (length zs) stacked.laid)

-- The memory, where the point takes the values from the number k on.
abbrev pub taking : {R : Type 0} → Stage R → ℕ → Kept R
taking r k = record r.kept { taken = word_at r.stacked.waits k (length r.kept.waits) }

fails_never : {A : Type 0} → is_failing Fails ≡ false → A
fails_never is = absurd (never is)
  where
    never : true ≡ false → ⊥
    never is = cc

whole_of : {A : Type 0} (t : Turn) (s : Slots) (g : Got A) (f : A → Outcome) → is_failing (on_got t s g f) ≡ false → is_broken g ≡ false
whole_of t s (Given a) f is = refl
whole_of t s (Stops x) f is = refl
whole_of t s Broken f is = fails_never is

module _ (t : Turn) (v : Fill) (of n : ℕ) (fine : NeverFails (steps.Holds t v of (next_of n))) where
  -- The point that follows is there.
  pub hold_next : next_of n ≡ Some n
  hold_next = by (n == 4294967295) fine
    where
      by : (b : Bool) → NeverFails (steps.Holds t v of (if b then None else Some n)) → (if b then None else Some n) ≡ Some n
      by true fine = fails_never (fine Fails refl)
      by false fine = refl

  hold_is : (r : Outcome) → After t v (steps.holding t of n) r → steps.Holds t v of (next_of n) r
  hold_is r is = subst (λ o. steps.Holds t v of o r) (sym hold_next) is

  -- What it asks for is there.
  pub hold_fills : Fills t.table v (start t) values.Fails → ⊥
  hold_fills is = fails_never (fine Fails (hold_is Fails (values.Fails, is, refl)))

  pub hold_settles : (zs : List ℤ) (s : Slots) → Fills t.table v (start t) (Gives zs s) → is_broken (settled s) ≡ false
  hold_settles zs s is =
      whole_of t s (settled s) (λ s. Goes (counted (record t.state {
        memory = s;
        frames = record t.frame { waits = waiting t; next = n } ∷ given_to (record { of = of; words = zs }) t.outer;
      }))) (fine (steps.holding t of n zs s) (hold_is (steps.holding t of n zs s) (Gives zs s, is, refl)))

  -- It stops.
  pub hold_halts : (x : Stop) (s : Slots) → Fills t.table v (start t) (Ends (stop_of x) s) → steps.Holds t v of (next_of n) (halted t (stop_of x) s)
  hold_halts x s is = hold_is (halted t (stop_of x) s) (Ends (stop_of x) s, is, refl)

  -- It goes on.
  pub hold_goes : (zs : List ℤ) (s after : Slots) → Fills t.table v (start t) (Gives zs s) → settled s ≡ Given after
      → steps.Holds t v of (next_of n) (Goes (counted (record t.state {
        memory = after;
        frames = record t.frame { waits = waiting t; next = n } ∷ given_to (record { of = of; words = zs }) t.outer;
      })))
  hold_goes zs s after is gone =
      let f : Slots → Outcome = λ s. Goes (counted (record t.state {
        memory = s;
        frames = record t.frame { waits = waiting t; next = n } ∷ given_to (record { of = of; words = zs }) t.outer;
      })) in
      hold_is (f after) (Gives zs s, is, sym (ap (λ g. on_got t s g f) gone))

module _ {R : Type 0} (Means : R → Heap → Type 0) (table : Table) (program : Program) (p : Point) (r : Stage R) (k of n : ℕ) (v : Fill)
    (is : IsStage r) (latest : AreLatest r.stacked p.takes k) (stands : Stands Means (taking r k) r.ghosts)
    (fine : NeverFails (steps.Holds (turn_of table program p r) v of (next_of n))) where
  start_here : start (turn_of table program p r) ≡ slots (taking r k) r.ghosts
  start_here = start_is table program p r k is latest

  fills_here : Fills table v (slots (taking r k) r.ghosts) values.Fails → ⊥
  fills_here = subst (λ s. Fills table v s values.Fails → ⊥) start_here (hold_fills (turn_of table program p r) v of n fine)

  settles_here : (zs : List ℤ) (t : Slots) → Fills table v (slots (taking r k) r.ghosts) (Gives zs t) → is_broken (settled t) ≡ false
  settles_here =
      subst (λ s. (zs : List ℤ) (t : Slots) → Fills table v s (Gives zs t) → is_broken (settled t) ≡ false) start_here
      (hold_settles (turn_of table program p r) v of n fine)

  pub can_hold : Holdable Means (taking r k) table v
  can_hold = record { ghosts = r.ghosts; stands = stands; fills = fills_here; settles = settles_here }

  -- Until it stops, the cells of before are there.
  held_since : (x : Reason) (s : Slots) → Fills table v (slots (taking r k) r.ghosts) (Ends x s) → Since (turn_of table program p r).state.memory s
  held_since x s may =
      let before : Slots = (turn_of table program p r).state.memory in
      fill_since before table v (slots (taking r k) r.ghosts) (Ends x s) (none_since before (slots (taking r k) r.ghosts) refl refl refl stands.cells.within) may

  -- What stops it.
  pub held_halts : {U : Type 0} (x : Stop) (kept : Kept R) (stacked : Stacked) → x ≢ stop.Memory → Holding {U = U} Means (taking r k) table v (Err x) r.stacked k of n kept stacked
      → (s : Slots) × steps.Holds (turn_of table program p r) v of (next_of n) (halted (turn_of table program p r) (stop_of x) s) × Shows Means kept s × Since (turn_of table program p r).state.memory s
  held_halts x kept stacked other holds =
      let ended = holds.holds r.ghosts stands fills_here settles_here other in (
        ended.after,
        hold_halts (turn_of table program p r) v of n fine x ended.after (subst (λ s. Fills table v s (Ends (stop_of x) ended.after)) (sym start_here) ended.may),
        ended.shows,
        held_since (stop_of x) ended.after ended.may,
      )

-- ---- what was moved is gone

given_both : {A B : Type 0} (g : Got A) (f : A → Got B) (b : B) → and_then g f ≡ Given b → (a : A) × (g ≡ Given a) × (f a ≡ Given b)
given_both (Given a) f b is = (a, refl, is)
given_both (Stops s) f b is = cc
given_both Broken f b is = cc

if_then : {A : Type 0} (b : Bool) (g : Got A) (t : A) → (if b then g else Broken) ≡ Given t → g ≡ Given t
if_then true g t is = is
if_then false g t is = cc

same_moves : (s t : Slots) → Given s ≡ Given t → t.moves ≡ s.moves
same_moves s t is = ap (λ (x : Slots). x.moves) (sym (given_is is))
  where
    given_is : Given s ≡ Given t → s ≡ t
    given_is is = cc

emptied_moves : (s t : Slots) (q : Move) → emptied s q.at q.kinds q.offsets ≡ Given t → t.moves ≡ s.moves
emptied_moves s t q is = by q.at is
  where
    cell : (h o : ℕ) (x : Option (List Value)) → cell_emptied s h o q.kinds q.offsets x ≡ Given t → t.moves ≡ s.moves
    cell h o None is = absurd (let e : ◌≡◌ {A = Got Slots} Broken (Given t) = is in cc)
    cell h o (Some ws) is = same_moves (with_heap s (nulled s.heap h o q.offsets)) t (if_then (are_pointers q.kinds q.offsets && have_kinds q.kinds (drop o ws)) (Given (with_heap s (nulled s.heap h o q.offsets))) t is)

    by : (at : Spot) → emptied s at q.kinds q.offsets ≡ Given t → t.moves ≡ s.moves
    by (InStack m) is =
        let put : List ℤ → Got Slots = λ zs. Given (with_stack s (spliced m (all_null q.offsets zs) s.stack)) in
        let there = given_both (front q.kinds (drop m s.stack)) put t (if_then (are_pointers q.kinds q.offsets) (and_then (front q.kinds (drop m s.stack)) put) t is) in
        same_moves (with_stack s (spliced m (all_null q.offsets there.0) s.stack)) t there.2
    by (InCell h o) is = cell h o (words_at s.heap.cells h) is

moves_on : (s u t : Slots) → t.moves ≡ u.moves → u.moves ≡ s.moves → t.moves ≡ s.moves
moves_on s u t rest first = rest ∙ first

all_moves : (qs : List Move) (s t : Slots) → all_emptied qs s ≡ Given t → t.moves ≡ s.moves
all_moves [] s t is = same_moves s t is
all_moves (q ∷ qs) s t is =
    let there = given_both (emptied s q.at q.kinds q.offsets) (all_emptied qs) t is in
    moves_on s there.0 t (all_moves qs there.0 t there.2) (emptied_moves s there.0 q there.1)

-- Nothing is moved then.
pub settled_moves : (s t : Slots) → settled s ≡ Given t → t.moves ≡ []
settled_moves s t is = all_moves s.moves (record s { moves = [] }) t is

-- ---- stages

abbrev pub stage : {R : Type 0} → Kept R → Ghosts → Stacked → List ℕ → List Leak → Stage R
stage kept g stacked output leaks = record { kept = kept; ghosts = g; stacked = stacked; output = output; leaks = leaks }

-- The stage without the values that wait from the number k on, where a value of a type waits for the caller, and the
-- point n is the next one.
abbrev pub holding : {R : Type 0} → Stage R → ℕ → Kept R → Ghosts → ℕ → List ℤ → ℕ → Stage R
holding r k m g of words n = at_point (leaving_waits (with_wait (without r k m g) of words)) n

pub holding_parts : {R : Type 0} (r : Stage R) (k : ℕ) (m : Kept R) (g : Ghosts) (of : ℕ) (words : List ℤ) (n : ℕ)
    → holding r k m g of words n ≡ stage (with_words r.stacked k m words) g (with_value r.stacked k m of n) r.output r.leaks
holding_parts r k m g of words n = refl

take_none : {A : Type 0} (n : ℕ) (xs : List A) → n ≡ 0 → take n xs ≡ []
take_none n xs is = ap (λ n. take n xs) is

-- No value waits in the frame that runs.
own_none : (s : Stacked) (zs : List ℤ) → s.frame.waits ≡ length s.waits → own s zs ≡ []
unfolding own
own_none s zs none =
    take_none (length (all_held s zs) - s.frame.waits) (all_held s zs)
    (omega (arith, none, held_length (reverse s.waits) zs, reversed_length s.waits))

first_is : (f g : points.Frame) (fs gs : List points.Frame) → f ∷ fs ≡ g ∷ gs → (f ≡ g) × (fs ≡ gs)
first_is f g fs gs is = ((let e : f ∷ fs ≡ g ∷ gs = is in cc), (let e : f ∷ fs ≡ g ∷ gs = is in cc))

returns_same : (s : Stacked) (k : ℕ) → own_returns (record s { waits = take k s.waits }) ≡ own_returns s
unfolding own_returns
returns_same s k = refl

module _ {R : Type 0} (table : Table) (program : Program) (p : Point) (r : Stage R) (k : ℕ) (m : Kept R) (g : Ghosts) (is : IsStage r) (latest : AreLatest r.stacked p.takes k)
    (waits : m.waits ≡ r.kept.waits) (read : m.read ≡ r.kept.read) (base : m.base ≡ r.kept.base) (settled : g.moves ≡ []) (none : r.stacked.frame.waits ≡ k) where
  long : length (take k r.stacked.waits) ≡ k
  long = length-take-le k r.stacked.waits (omega (arith, latest.count))

  empty : (without r k m g).stacked.frame.waits ≡ length (without r k m g).stacked.waits
  empty = none ∙ sym long

  same : (running (without r k m g) ≡ record (running r) { waits = waiting (turn_of table program p r) })
      × (outside (without r k m g).stacked (without r k m g).kept.waits ≡ outside r.stacked r.kept.waits)
  same =
      first_is (running (without r k m g)) (record (running r) { waits = waiting (turn_of table program p r) })
      (outside (without r k m g).stacked (without r k m g).kept.waits) (outside r.stacked r.kept.waits)
      (sym (frames_are (without r k m g)) ∙ cut_runs r p.takes k m g is latest waits)

  -- No other value waits in the frame that runs.
  waits_none : waiting (turn_of table program p r) ≡ []
  waits_none = sym (ap (λ (f : points.Frame). f.waits) same.0) ∙ own_none (without r k m g).stacked (without r k m g).kept.waits empty

  frames_held : (of n : ℕ) (words : List ℤ)
      → record (running r) { waits = waiting (turn_of table program p r); next = n } ∷ given_to (record { of = of; words = words }) (outside r.stacked r.kept.waits)
      ≡ (state_of (holding r k m g of words n)).frames
  frames_held of n words =
      let value : Held = record { of = of; words = words } in
      ap (λ hs. record (running r) { waits = hs; next = n } ∷ given_to value (outside r.stacked r.kept.waits)) waits_none
      ∙ ap (λ fs. record (running r) { waits = []; next = n } ∷ given_to value fs) (sym same.1)
      ∙ ap (λ rs. record (running r) { waits = []; next = n; returns = rs } ∷ given_to value (outside (without r k m g).stacked (without r k m g).kept.waits)) (sym (returns_same r.stacked k))
      ∙ (held_on (without r k m g) n of words (cut_is r p.takes k m g is latest waits base settled) empty).0

  pub holding_is : (of n : ℕ) (words : List ℤ) → IsStage (holding r k m g of words n)
  holding_is of n words =
      at_is (leaving_waits (with_wait (without r k m g) of words)) n (held_on (without r k m g) n of words (cut_is r p.takes k m g is latest waits base settled) empty).1

  -- The state after it.
  pub state_held : (of n : ℕ) (words : List ℤ)
      → bare (counted (record (state_of r) {
        memory = slots m g;
        frames = record (running r) { waits = waiting (turn_of table program p r); next = n } ∷ given_to (record { of = of; words = words }) (outside r.stacked r.kept.waits);
      })) ≡ state_of (holding r k m g of words n)
  state_held of n words =
      ap (λ at. bare (counted (record (state_of r) {
        memory = slots m g;
        at = at;
        frames = record (running r) { waits = waiting (turn_of table program p r); next = n } ∷ given_to (record { of = of; words = words }) (outside r.stacked r.kept.waits);
      }))) (sym read)
      ∙ ap (λ fs. bare (counted (record (state_of r) { memory = slots m g; at = m.read; frames = fs }))) (frames_held of n words)

module _ {R : Type 0} (Means : R → Heap → Type 0) (table : Table) (program : Program) (p : Point) (r : Stage R) (k of n : ℕ) (v : Fill)
    (is : IsStage r) (latest : AreLatest r.stacked p.takes k) (stands : Stands Means (taking r k) r.ghosts)
    (fine : NeverFails (steps.Holds (turn_of table program p r) v of (next_of n))) where
  -- What the code leaves of a stage is a state that the definition allows, and nothing is moved.
  pub held_goes : {U : Type 0} (u : U) (kept : Kept R) (stacked : Stacked) → Holding Means (taking r k) table v (Ok u) r.stacked k of n kept stacked
      → (s : State) × (g : Ghosts) × steps.Holds (turn_of table program p r) v of (next_of n) (Goes s) × (bare s ≡ state_of (stage kept g stacked r.output r.leaks))
      × IsStage (stage kept g stacked r.output r.leaks) × Stands Means kept g
  held_goes u kept stacked holds =
      let t : Turn = turn_of table program p r in
      let here : start t ≡ slots (taking r k) r.ghosts = start_is table program p r k is latest in
      let h = holds.holds r.ghosts stands (fills_here Means table program p r k of n v is latest stands fine) (settles_here Means table program p r k of n v is latest stands fine) in
      let m : Kept R = h.kept in
      let g : Ghosts = ghosts_of h.after in
      let w = h.waits in
      let waits : m.waits ≡ r.kept.waits = ap (λ (e : Elsewhere). e.waits) h.same in
      let read : m.read ≡ r.kept.read = ap (λ (e : Elsewhere). e.read) h.same in
      let base : m.base ≡ r.kept.base = ap (λ (e : Elsewhere). e.base) h.same in
      let gone : g.moves ≡ [] = settled_moves h.made h.after h.settles in
      let may : Fills table v (start t) (Gives h.words h.made) = subst (λ s. Fills table v s (Gives h.words h.made)) (sym here) h.may in
      let frames : List points.Frame = record t.frame { waits = waiting t; next = n } ∷ given_to (record { of = of; words = h.words }) t.outer in
      let there : stage kept g stacked r.output r.leaks ≡ holding r k m g of h.words n =
      ap (λ c. stage c g stacked r.output r.leaks) w.kept_is ∙ ap (λ s. stage (with_words r.stacked k m h.words) g s r.output r.leaks) w.stacked_is in
      let P : Kept R → Type 0 = λ c. Stands Means c g in (
        counted (record t.state { memory = h.after; frames = frames }),
        g,
        hold_goes t v of n fine h.words h.made h.after may h.settles,
        ap (λ s. bare (counted (record t.state { memory = s; frames = frames }))) (sym h.shows.1)
            ∙ state_held table program p r k m g is latest waits read base gone w.none of n h.words ∙ sym (ap state_of there),
        subst IsStage (sym there) (holding_is table program p r k m g is latest waits read base gone w.none of n h.words),
        subst P (sym w.kept_is) (record { cells = h.shows.0.cells; moves = h.shows.0.moves }),
      )
