-- The place of a name is found after a value was evaluated.
use Rattle.std.proofs.Common.{◌≡◌, ℕ, ◌+◌, true, false, Bool, List, length, refl, sym, ap, subst, ◌∙◌, arith, Some, None, ℤ, if◌then◌else◌}
use Rattle.std.specs.Prelude.{nat_le, ◌==◌, option_and_then}
use Rattle.spark_base.specs.declared.position.Pos.{Pos}
use Rattle.typed_tree.specs.Trees.{TypedTree, Name}
use Rattle.flow_paths.specs.Names.{waiting, written}
use Rattle.machine.specs.Memory.{Memory, Place}
use Rattle.machine.specs.Evaluate.{Now, Evaluated, followed_by, place_of}
use Rattle.machine.specs.Calls.{written_pos}
use Rattle.machine.specs.States as machine
use Rattle.machine.specs.Step as machine_step
use Rattle.machine.specs.Step.{type_named}
use Rattle.run_codes.specs.Codes.{Does, InFrame}
use Rattle.run_codes.specs.Flat.{Flat, Got, Given, Stops, Broken, word, Spot, InStack, spot}
use Rattle.run_codes.specs.Lowered.{Site, no_index, Placed, object_place, led, place}
use Rattle.run_codes.specs.Programs.{name_pos}
use Rattle.run_codes.specs.Points.{Outcome, on_got}
use Rattle.run_codes.specs.Related.{Seen, now, IsPlace, IsThere, SpotSame}
use Rattle.run_codes.proofs.Places.{impossible, some_same, if_some, stopped_on}
use Rattle.run_codes.proofs.Expressions.{and_then_some}
use Rattle.run_codes.proofs.Spots.{place_same}
use Rattle.run_fills.specs.Filled.{at, Later}
use Rattle.run_fills.proofs.Wholes.{here_later}
use Rattle.run_fills.proofs.Wholes as wholes
use Rattle.run_points.specs.Outcomes.{IsAlike}
use Rattle.run_points.specs.States.{Laid, StateStands}
use Rattle.run_points.specs.Turns.{Turns, turn, flat_turn, around, seen, TurnStands}
use Rattle.run_points.proofs.Halts.{stops_later}

-- ---- what is written of a place

same_number : (a b : ℕ) → (a == b) ≡ true → a ≡ b
same_number a b is = grind arith

-- The type that is kept of it is that of the place.
pub type_is : (c : Site) (k : ℕ) (t : TypedTree) (q : Placed) → place c k t ≡ Some q → type_named t ≡ q.of
type_is c k (Name p x steps t) q is =
    let r = and_then_some (λ r. if r.of == t then Some r else None) (option_and_then (λ r. led c k r steps) (object_place c x)) q is in
    let sure = if_some (r.0.of == t) (Some r.0) q r.2 in
    sym (same_number r.0.of t sure.0) ∙ ap (λ (z : Placed). z.of) (some_same r.0 q sure.1)
type_is c k _ q is = impossible q is

pub pos_is : (c : Site) (k : ℕ) (t : TypedTree) (q : Placed) → place c k t ≡ Some q → (p : Pos) → name_pos p t ≡ written_pos p (written t)
pos_is c k (Name q x steps t) r is p = refl
pos_is c k _ q is p = impossible q is

-- ---- the place

pub spot_later : (b : Turns) (laid : Laid) (m : Memory) (f : Flat) → Later (seen b) laid.objects m f → (k : ℕ) (t : TypedTree) (q : Placed) → place (around b).site k t ≡ Some q
    → SpotSame (at (seen b) m f) (k + waiting t) q.of (place_of (machine_step.here (turn b)) t (now (at (seen b) m f) k)) (spot f q.place)
spot_later b laid m f later k t q lowers =
    subst (λ h. SpotSame (at (seen b) m f) (k + waiting t) q.of (place_of h t (now (at (seen b) m f) k)) (spot f q.place)) (here_later (seen b) laid.objects m f later)
    (place_same (at (seen b) m f) (wholes.seen (at (seen b) m f) laid.objects later.whole) t k q lowers)

-- Both go on with it, or stop alike.
pub place_alike : {A : Type 0} (b : Turns) (laid : Laid) → TurnStands b laid → (d : Does) (m : Memory) (f : Flat) → Later (seen b) laid.objects m f → (k t : ℕ) (ev : Evaluated Place) (got : Got Spot)
    → (on : Place → Now → Evaluated A) (go : A → Memory → machine.Outcome) (further : Spot → Outcome) → SpotSame (at (seen b) m f) k t ev got
    → ((w : Spot) (us : List ℤ) (is : IsPlace (at (seen b) m f) k t w us ev) → IsThere (at (seen b) m f) t w us
    → IsAlike (StateStands b.program) (machine_step.evaluated (turn b) (on is.p (now (at (seen b) m f) k)) go) (further w))
    → IsAlike (StateStands b.program) (machine_step.evaluated (turn b) (followed_by ev on) go) (on_got (flat_turn b d) f got further)
place_alike b laid is d m f later k t ev (Given w) on go further same next =
    subst (λ v. IsAlike (StateStands b.program) (machine_step.evaluated (turn b) (followed_by v on) go) (further w)) (sym same.1.gives) (next w same.0 same.1 same.2)
place_alike b laid is d m f later k t ev (Stops stop) on go further same next =
    stops_later b laid is d stop m f (followed_by ev on) go later (stopped_on m stop ev on same)
place_alike b laid is d m f later k t ev Broken on go further same next = absurd same

-- ---- at an offset in the frame

pub record IsInFrame (e : Seen) (k t at : ℕ) (ev : Evaluated Place) : Type 0 where
  pub us : List ℤ
  pub place : IsPlace e k t (InStack (e.flat.base + at)) us ev
  pub there : IsThere e t (InStack (e.flat.base + at)) us

pub frame_spot : (e : Seen) (k t offset : ℕ) (ev : Evaluated Place) → SpotSame e k t ev (spot e.flat (InFrame offset no_index)) → IsInFrame e k t offset ev
unfolding word
frame_spot e k t offset ev same = by (nat_le (e.flat.base + offset + 0) (length e.flat.stack)) same
  where
    none : (n : ℕ) → n + 0 ≡ n
    none n = omega arith

    moved : (n : ℕ) → n ≡ e.flat.base + offset → (us : List ℤ) → IsPlace e k t (InStack n) us ev → IsThere e t (InStack n) us → IsInFrame e k t offset ev
    moved n is us place there = record {
      us = us;
      place = subst (λ j. IsPlace e k t (InStack j) us ev) is place;
      there = subst (λ j. IsThere e t (InStack j) us) is there;
    }

    by : (b : Bool) → SpotSame e k t ev (if b then Given (InStack (e.flat.base + offset + 0)) else Broken) → IsInFrame e k t offset ev
    by false same = absurd same
    by true same = moved (e.flat.base + offset + 0) (none (e.flat.base + offset)) same.0 same.1 same.2
