-- Points that hand a result to the caller, over both heaps.
use Rattle.std.proofs.Common.{refl, ap, ℕ, suc, List, [], ◌∷◌, ◌++◌, take, Option, Some, None, ℤ}
use Rattle.handled_runs.specs.run_values.declared.value.Kind.{Kind}
use Rattle.handled_runs.specs.run_codes.Codes.{Fill}
use Rattle.handled_runs.specs.run_codes.Flat.{Flat, kinds}
use Rattle.handled_runs.specs.run_codes.Points.{Held, Frame, given_to}
use Rattle.handled_runs.specs.run_codes.Points as points
use Rattle.handled_runs.specs.Slots.{Slots}
use Rattle.handled_runs.specs.Beside.{all_renamed, Beside}
use Rattle.handled_runs.specs.Alike.{LooksFill}
use Rattle.handled_steps.specs.States.{State, Outcome, Goes, Turn, counted, waiting}
use Rattle.handled_steps.specs.Steps.{Holds, holding}
use Rattle.handled_steps.specs.Backs.{LookBack}
use Rattle.handled_steps.specs.Alike.{Paired, HeldAlike, FrameAlike, StatesAlike, OutcomesAlike}
use Rattle.handled_steps.specs.Looks.{taken_kinds}
use Rattle.handled_steps.proofs.Pairs.{frame_on, frames_on}
use Rattle.handled_steps.proofs.Turns.{Both, flat_turn, slot_turn, waiting_on, settled_on}
use Rattle.handled_steps.proofs.Stores.{after_value}

module _ (handles : List ℕ) (here : List Kind) (z : Both handles here) where
  abbrev t : points.Turn
  t = flat_turn handles here z

  abbrev u : Turn
  u = slot_turn handles here z

  abbrev takes : List Kind
  takes = taken_kinds t

  given_alike : (hs : List ℕ) (v w : Held) (fs gs : List Frame) → HeldAlike z.table hs v w → Paired (FrameAlike z.table hs) fs gs → Paired (FrameAlike z.table hs) (given_to v fs) (given_to w gs)
  given_alike hs v w [] [] is all = tt
  given_alike hs v w [] (g ∷ gs) is all = absurd all
  given_alike hs v w (f ∷ fs) [] is all = absurd all
  given_alike hs v w (f ∷ fs) (g ∷ gs) is all =
      (record { base = all.0.base; next = all.0.next; words = all.0.words; waits = (is, all.0.waits); returns = all.0.returns }, all.1)

  module _ (more : List ℕ) (m : Flat) (s : Slots) (beside : Beside (handles ++ more) here takes m s) (of n : ℕ) (zs us : List ℤ)
      (is : HeldAlike z.table (handles ++ more) (record { of = of; words = zs }) (record { of = of; words = us })) where
    abbrev hs : List ℕ
    hs = handles ++ more

    abbrev flat_state : points.State
    flat_state = points.counted (record z.a { memory = m; frames = record z.f { waits = points.waiting t; next = n } ∷ given_to (record { of = of; words = zs }) z.fs })

    abbrev slot_state : State
    slot_state = counted (record z.b { memory = s; frames = record z.g { waits = waiting u; next = n } ∷ given_to (record { of = of; words = us }) z.gs })

    held_states : StatesAlike z.table hs here flat_state slot_state
    held_states =
        let frame = frame_on handles more z.table z.f z.g z.frame in record {
          taken = takes;
          memory = beside;
          frames = (
            record { base = frame.base; next = refl; words = frame.words; waits = waiting_on handles here z more here takes m s beside; returns = frame.returns },
            given_alike hs (record { of = of; words = zs }) (record { of = of; words = us }) z.fs z.gs is (frames_on handles more z.table z.fs z.gs z.outer),
          );
          at = z.states.at;
          output = z.states.output;
          leaks = z.states.leaks;
          steps = ap suc z.states.steps;
        }

  -- what is copied back isn't in what waits
  back_given : (n : ℕ) (v : Held) → LookBack z.table here (record z.f { waits = points.waiting t; next = n } ∷ given_to v z.fs)
  back_given n v = (z.back.0, by z.fs z.back.1)
    where
      by : (fs : List Frame) → LookBack z.table (take z.f.base here) fs → LookBack z.table (take z.f.base here) (given_to v fs)
      by [] back = back
      by (f ∷ fs) back = back

  pub hold_alike : (v : Fill) (of : ℕ) (n : Option ℕ) (r : Outcome) → LooksFill z.table z.f.base here takes v (kinds z.table of) → Holds u v of n r
      → OutcomesAlike z.table handles here (points.hold t v of n) r
  hold_alike v of None r looks so = tt
  hold_alike v of (Some n) r looks so =
      after_value handles here z v (kinds z.table of) here
      (λ zs m. points.Goes (points.counted (record z.a { memory = m; frames = record z.f { waits = points.waiting t; next = n } ∷ given_to (record { of = of; words = zs }) z.fs })))
      (holding u of n) r looks so
      (λ zs m s found us alike.
      settled_on handles here z alike.more here takes m s alike.during here
      (points.Goes (points.counted (record z.a { memory = m; frames = record z.f { waits = points.waiting t; next = n } ∷ given_to (record { of = of; words = zs }) z.fs })))
      (λ s. Goes (counted (record z.b { memory = s; frames = record z.g { waits = waiting u; next = n } ∷ given_to (record { of = of; words = all_renamed (handles ++ alike.more) (kinds z.table of) zs }) z.gs })))
      (λ s beside.
      (alike.more, held_states alike.more m s beside of n zs (all_renamed (handles ++ alike.more) (kinds z.table of) zs) (record { of = refl; words = refl; known = alike.known; names = alike.names }), back_given n (record { of = of; words = zs }))))
