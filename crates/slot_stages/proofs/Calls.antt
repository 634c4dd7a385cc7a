-- What is kept where a call begins, and where it ends.
use Rattle.std.proofs.Common.{◌≡◌, ℕ, List, [], ◌∷◌, ◌++◌, map, length, take, refl, sym, ◌∙◌, ap, subst, Some}
use Rattle.std.specs.Prelude.{reverse}
use Rattle.type_definitions.specs.Types.{Table}
use Rattle.machine.specs.States.{Leak}
use Rattle.run_codes.specs.Codes.{Point, Sub}
use Rattle.run_codes.specs.Programs.{Program}
use Rattle.run_codes.specs.Points as points
use Rattle.handled_runs.specs.Slots.{Slots}
use Rattle.handled_runs.specs.Changes.{with_stack}
use Rattle.handled_steps.specs.States.{State, Outcome, Goes, Turn, start, counted, leaking, after, waiting, frame_of}
use Rattle.handled_steps.specs.Steps.{copied_back, returned, finish}
use Rattle.slot_memory.specs.Memory.{Kept, Ghosts, slots}
use Rattle.slot_frames.specs.declared.rows.Frame.{Frame}
use Rattle.slot_frames.specs.declared.rows.Return.{Return}
use Rattle.slot_frames.specs.Frames.{held, return_of, frames_in, AreLatest}
use Rattle.slot_frames.specs.Parts.{own_returns, outside}
use Rattle.slot_frames.proofs.Waits.{last_first}
use Rattle.slot_runs.specs.Turns.{bare}
use Rattle.slot_stages.specs.Stages.{Stage, state_of, IsStage, turn_of, without, at_point, with_frame, without_frame}
use Rattle.slot_stages.proofs.Goes.{goes_on, cut_is, at_is}
use Rattle.slot_stages.proofs.Frames.{enters, leaves}

-- ---- calls

-- The frame of a call begins, above the memory m, with another memory, q, that has it.
abbrev pub called : {R : Type 0} → Stage R → ℕ → ℕ → Kept R → Kept R → Ghosts → Sub → List Return → List Leak → Stage R
called r k n m q g sub returns leaks =
    let s : Stage _ = at_point (without r k q g) n in
    let f : Frame = record { base = length m.stack; next = sub.first; words = sub.words; waits = length s.stacked.waits; returns = length s.stacked.returns } in
    record (with_frame s f returns) { leaks = r.leaks ++ leaks }

-- The state that a call leads to.
abbrev pub entering : Turn → Sub → List points.Return → List Leak → Slots → Slots → ℕ → State
entering t sub returns leaks m q n =
    let s : State = leaking leaks (after t (waiting t) q (Some n)) in
    record s { frames = frame_of m sub returns ∷ s.frames }

pub called_on : {R : Type 0} (table : Table) (program : Program) (p : Point) (r : Stage R) (k n : ℕ) (m q : Kept R) (h g : Ghosts) (sub : Sub) (returns : List Return) (leaks : List Leak) (all : List points.Return)
    → IsStage r → AreLatest r.stacked p.takes k → q.waits ≡ r.kept.waits → q.read ≡ r.kept.read → q.base ≡ r.kept.base → g.moves ≡ [] → map return_of returns ≡ all
    → bare (entering (turn_of table program p r) sub all leaks (slots m h) (slots q g) n) ≡ state_of (called r k n m q g sub returns leaks)
called_on table program p r k n m q h g sub returns leaks all is latest waits read base settled same =
    let s = at_point (without r k q g) n in
    let f : Frame = record { base = length m.stack; next = sub.first; words = sub.words; waits = length s.stacked.waits; returns = length s.stacked.returns } in
    let on = goes_on table program p r k n q g is latest waits read in
    let grown : State → State = λ x. record x { frames = frame_of (slots m h) sub all ∷ x.frames; leaks = x.leaks ++ leaks } in
    let with_returns : List points.Return → State = λ rs. record (state_of s) { frames = record { base = length m.stack; next = sub.first; words = sub.words; waits = []; returns = rs } ∷ (state_of s).frames; leaks = r.leaks ++ leaks } in
    ap grown on
    ∙ ap with_returns (sym same)
    ∙ ap (λ fs. record (state_of s) { frames = fs; leaks = r.leaks ++ leaks })
    (sym (enters s f returns (at_is (without r k q g) n (cut_is r p.takes k q g is latest waits base settled)) refl refl).0)

-- ---- the ends of calls

abbrev pub cut : ℕ → Slots → Slots
cut base m = with_stack m (take base m.stack)

pub finish_is : {R : Type 0} (table : Table) (program : Program) (p : Point) (r : Stage R) (q : Slots)
    → ((f : Slots → Outcome) → copied_back (turn_of table program p r) (own_returns r.stacked) (start (turn_of table program p r)) f ≡ f q)
    → finish (turn_of table program p r) ≡ returned (turn_of table program p r) (outside r.stacked r.kept.waits) (cut r.stacked.frame.base q)
finish_is table program p r q copied = copied (λ f. returned (turn_of table program p r) (outside r.stacked r.kept.waits) (cut r.stacked.frame.base f))

-- The memory without the frame.
abbrev pub cut_kept : {R : Type 0} → ℕ → Kept R → Kept R
cut_kept base q = record q { stack = take base q.stack }

-- Where two frames wait at least, the run goes on.
two_wait : {R : Type 0} (t : Turn) (s : Stage R) (g : Frame) (rest : List Frame) (m : Slots) → s.stacked.outer ≡ rest ++ g ∷ []
    → returned t (state_of s).frames m ≡ Goes (counted (record t.state { memory = m; frames = (state_of s).frames }))
two_wait t s g rest m outer =
    let back = ap reverse outer ∙ last_first rest g in
    let P : List Frame → Type 0 =
    λ fs. returned t (frames_in (held (reverse s.stacked.waits) s.kept.waits) (map return_of s.stacked.returns) (s.stacked.frame ∷ fs)) m
    ≡ Goes (counted (record t.state { memory = m; frames = frames_in (held (reverse s.stacked.waits) s.kept.waits) (map return_of s.stacked.returns) (s.stacked.frame ∷ fs) })) in
    subst P (sym back) refl

-- Two frames wait at least: the run goes on in the inner one.
pub finishes_on : {R : Type 0} (table : Table) (program : Program) (p : Point) (r : Stage R) (q : Kept R) (h : Ghosts) (f g : Frame) (rest : List Frame) → IsStage r
    → r.stacked.outer ≡ (rest ++ g ∷ []) ++ f ∷ [] → q.waits ≡ r.kept.waits → q.read ≡ r.kept.read → h.moves ≡ []
    → ((k : Slots → Outcome) → copied_back (turn_of table program p r) (own_returns r.stacked) (start (turn_of table program p r)) k ≡ k (slots q h))
    → (t : State) × (finish (turn_of table program p r) ≡ Goes t) × (bare t ≡ state_of (without_frame r f (rest ++ g ∷ []) (cut_kept r.stacked.frame.base q) h))
finishes_on table program p r q h f g rest is outer waits read settled copied =
    let s = without_frame r f (rest ++ g ∷ []) (cut_kept r.stacked.frame.base q) h in
    let l = leaves r f (rest ++ g ∷ []) (cut_kept r.stacked.frame.base q) h is outer waits settled in
    let m : Slots = cut r.stacked.frame.base (slots q h) in (
      counted (record (state_of r) { memory = m; frames = (state_of s).frames }),
      finish_is table program p r (slots q h) copied
          ∙ ap (λ fs. returned (turn_of table program p r) fs m) (sym l.0)
          ∙ two_wait (turn_of table program p r) s g rest m refl,
      ap (λ at. record (bare (record (state_of r) { memory = m; frames = (state_of s).frames })) { at = at }) (sym read),
    )
