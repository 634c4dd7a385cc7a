-- A step that evaluates what moves and makes: it goes on with what stands for the machine's memory, or stops as
-- the machine does, with the memory before it.
use Rattle.std.proofs.Common.{◌≡◌, ℕ, suc, List, length, refl, sym, subst, ℤ}
use Rattle.flow_paths.specs.Laid.{flow_typing}
use Rattle.machine.specs.Words.{Word}
use Rattle.machine.specs.Typed.{Sort}
use Rattle.machine.specs.Memory.{Memory}
use Rattle.machine.specs.Evaluate.{Now, Evaluated, Done, followed_by, Exception, Trap}
use Rattle.machine.specs.Evaluate as evaluation
use Rattle.machine.specs.States as machine
use Rattle.machine.specs.Step as machine_step
use Rattle.run_codes.specs.Codes.{Does}
use Rattle.run_codes.specs.Flat.{Flat, Stop, Raises, Traps, Made, Failed, Spot, Got, Given, Stops, Broken}
use Rattle.run_codes.specs.Flat as flat
use Rattle.run_codes.specs.Points.{Outcome, halted, on_made}
use Rattle.run_codes.specs.Related.{IsValue, types, now, Stopped}
use Rattle.run_fills.specs.Filled.{IsWhole, at, Later, Halts, Filled}
use Rattle.run_fills.proofs.GivenUp.{given_up_later}
use Rattle.run_points.specs.Outcomes.{IsAlike}
use Rattle.run_points.specs.States.{Laid, AreUndeclared, StateStands}
use Rattle.run_points.specs.Turns.{Turns, turn, flat_turn, seen, TurnStands}
use Rattle.run_points.proofs.Sizes.{sizes_same}
use Rattle.run_points.proofs.Waits.{at_start, sited, seen_waits}
use Rattle.run_points.proofs.Undeclared.{Keeps}

pub is_whole : (b : Turns) (laid : Laid) → TurnStands b laid → IsWhole (seen b) laid.objects
is_whole b laid is = record {
  laws = is.laws;
  parts = is.parts;
  related = at_start b laid is;
  apart = is.memory.apart;
  sited = sited b laid is;
  waits = seen_waits b laid is;
}

-- ---- stops

-- The cells that were made count as freed.
pub raised_later : (b : Turns) (laid : Laid) → TurnStands b laid → (d : Does) (e : Exception) (m : Memory) (f : Flat) → Later (seen b) laid.objects m f
    → IsAlike (StateStands b.program) (machine_step.raised (turn b) e m) (halted (flat_turn b d) (Raises e) f)
raised_later b laid is d e m f later =
    let related = given_up_later (seen b) laid.objects m f (is_whole b laid is) later in
    (refl, record { output = refl; leaks = refl; steps = refl; made = related.counted.made; freed = related.counted.freed; sizes = sizes_same (flow_typing b.program) laid.objects _ _ related })

pub trapped_later : (b : Turns) (laid : Laid) → TurnStands b laid → (d : Does) (t : Trap) (m : Memory) (f : Flat) → Later (seen b) laid.objects m f
    → IsAlike (StateStands b.program) (machine_step.trapped (turn b) t m) (halted (flat_turn b d) (Traps t) f)
trapped_later b laid is d t m f later =
    let related = given_up_later (seen b) laid.objects m f (is_whole b laid is) later in
    (refl, record { output = refl; leaks = refl; steps = refl; made = related.counted.made; freed = related.counted.freed; sizes = sizes_same (flow_typing b.program) laid.objects _ _ related })

-- An evaluation that stops with the memory that it had.
pub stops_later : {A : Type 0} (b : Turns) (laid : Laid) → TurnStands b laid → (d : Does) (stop : Stop) (m : Memory) (f : Flat) (ev : Evaluated A) (go : A → Memory → machine.Outcome)
    → Later (seen b) laid.objects m f → Stopped m stop ev → IsAlike (StateStands b.program) (machine_step.evaluated (turn b) ev go) (halted (flat_turn b d) stop f)
stops_later b laid is d (Raises e) m f ev go later stops =
    subst (λ v. IsAlike (StateStands b.program) (machine_step.evaluated (turn b) v go) (halted (flat_turn b d) (Raises e) f)) (sym stops.1)
    (subst (λ n. IsAlike (StateStands b.program) (machine_step.raised (turn b) e n) (halted (flat_turn b d) (Raises e) f)) (sym stops.2) (raised_later b laid is d e m f later))
stops_later b laid is d (Traps t) m f ev go later stops =
    subst (λ v. IsAlike (StateStands b.program) (machine_step.evaluated (turn b) v go) (halted (flat_turn b d) (Traps t) f)) (sym stops.1)
    (subst (λ n. IsAlike (StateStands b.program) (machine_step.trapped (turn b) t n) (halted (flat_turn b d) (Traps t) f)) (sym stops.2) (trapped_later b laid is d t m f later))
stops_later b laid is d flat.Memory m f ev go later stops = absurd stops

-- One that moves and makes.
pub halts_alike : {A : Type 0} (b : Turns) (laid : Laid) → TurnStands b laid → (d : Does) (stop : Stop) (f : Flat) (ev : Evaluated (List Word))
    → (on : List Word → Now → Evaluated A) (go : A → Memory → machine.Outcome) → Halts (seen b) laid.objects stop f ev
    → IsAlike (StateStands b.program) (machine_step.evaluated (turn b) (followed_by ev on) go) (halted (flat_turn b d) stop f)
halts_alike b laid is d (Raises e) f ev on go stops =
    subst (λ v. IsAlike (StateStands b.program) (machine_step.evaluated (turn b) (followed_by v on) go) (halted (flat_turn b d) (Raises e) f)) (sym stops.1)
    (raised_later b laid is d e stops.0.memory f stops.2)
halts_alike b laid is d (Traps t) f ev on go stops =
    subst (λ v. IsAlike (StateStands b.program) (machine_step.evaluated (turn b) (followed_by v on) go) (halted (flat_turn b d) (Traps t) f)) (sym stops.1)
    (trapped_later b laid is d t stops.0.memory f stops.2)
halts_alike b laid is d flat.Memory f ev on go stops = tt

-- ---- values

-- A value is evaluated, and the step goes on with it.
pub filled_alike : {A : Type 0} (b : Turns) (laid : Laid) → TurnStands b laid → (d : Does) (k : ℕ) (want : List Sort) (ev : Evaluated (List Word)) (made : Made (List ℤ))
    → (on : List Word → Now → Evaluated A) (go : A → Memory → machine.Outcome) (further : List ℤ → Flat → Outcome)
    → Keeps (flow_typing b.program) (suc (length b.outer)) ev → Filled (seen b) laid.objects k want ev made
    → ((ws : List Word) (zs : List ℤ) (m : Memory) (f : Flat) → Later (seen b) laid.objects m f → AreUndeclared (flow_typing b.program) (suc (length b.outer)) m
    → IsValue (flow_typing b.program).table (types m) want ws zs
    → IsAlike (StateStands b.program) (machine_step.evaluated (turn b) (on ws (now (at (seen b) m f) k)) go) (further zs f))
    → IsAlike (StateStands b.program) (machine_step.evaluated (turn b) (followed_by ev on) go) (on_made (flat_turn b d) made further)
filled_alike b laid is d k want ev (flat.Done zs f) on go further keeps has next =
    let undeclared : AreUndeclared (flow_typing b.program) (suc (length b.outer)) has.1 = subst (λ v. Keeps (flow_typing b.program) (suc (length b.outer)) v) has.2 keeps in
    subst (λ v. IsAlike (StateStands b.program) (machine_step.evaluated (turn b) (followed_by v on) go) (further zs f)) (sym has.2)
    (next has.0 zs has.1 f has.3 undeclared has.4)
filled_alike b laid is d k want ev (flat.Halted stop f) on go further keeps has next = halts_alike b laid is d stop f ev on go has
filled_alike b laid is d k want ev Failed on go further keeps has next = absurd has

pub done_after : {A : Type 0} (ev : Evaluated A) → followed_by ev (λ a n. Done a n) ≡ ev
done_after (Done a n) = refl
done_after (evaluation.Raises e n) = refl
done_after (evaluation.Traps t n) = refl
