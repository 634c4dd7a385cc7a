-- Turns one after the other.
use Rattle.std.proofs.Common.{◌≡◌, ◌<◌, ◌+◌, ℕ, List, sym, subst, ◌∙◌, arith, Option, Some, None}
use Rattle.type_definitions.specs.Types.{Table}
use Rattle.code_rows.specs.declared.codes.Codes.{Codes}
use Rattle.slot_heap.specs.Heaps.{Heap}
use Rattle.slot_runs.specs.Turns.{Setting, Inside, CanStep, Turns}
use Rattle.slot_runs.proofs.Gone.{stays, one_on, one_ends, can_step}
use Rattle.slot_turns.specs.declared.overs.Over.{Over}
use Rattle.slot_turns.specs.Betweens.{untold_of}
use Rattle.slot_turns.specs.Runs.{IsInside, StandsWith, turned}
use Rattle.slot_steps.specs.slot_parts.declared.parts.Parts.{Parts}
use Rattle.slot_steps.specs.slot_parts.Stages.{between_of, setting_of}
use Rattle.slot_running.specs.Runs.{CanTurn, IsTurn, CanTurns, LeadsTo, AreTurns}

module _ {R : Type 0} (Means : R → Heap → Type 0) (codes : Codes) (table : Table) (limit : ℕ) (first : Parts R) (can : CanTurns Means codes table limit first) where
  abbrev c : Setting
  c = setting_of codes table first.memory.input

  abbrev Here : Parts R → Inside → Type 0
  Here p = IsInside Means (between_of p) first.memory.input

  pub none_made : LeadsTo Means codes table limit 0 None first first
  none_made = stays c limit (untold_of (between_of first)) (Here first)

  module _ (made : ℕ) (p : Parts R) (below : made < limit) (led : LeadsTo Means codes table limit made None first p) where
    can_here : CanStep c (untold_of (between_of p)) (Here p)
    can_here = can_step c limit made (untold_of (between_of first)) (untold_of (between_of p)) (Here first) (Here p) below can led

    -- The next step can be made.
    pub can_now : CanTurn Means codes table p
    can_now =
        let P : List ℕ → Type 0 = λ i. CanStep (setting_of codes table i) (untold_of (between_of p)) (IsInside Means (between_of p) i) in
        subst P (sym can_here.stands.bytes) can_here

    turns_here : (over : Option Over) (q : Parts R) → IsTurn Means codes table over p q
        → Turns c (untold_of (between_of p)) (Here p) (turned over) (untold_of (between_of q)) (StandsWith Means over first.memory.input (between_of q))
    turns_here over q is =
        let P : List ℕ → Type 0 =
        λ i. Turns (setting_of codes table i) (untold_of (between_of p)) (IsInside Means (between_of p) i) (turned over) (untold_of (between_of q)) (StandsWith Means over i (between_of q)) in
        subst P can_here.stands.bytes is.turns

    pub one_more : (over : Option Over) (q : Parts R) → IsTurn Means codes table over p q → LeadsTo Means codes table limit (made + 1) over first q
    one_more None q is =
        one_on c limit made (untold_of (between_of first)) (untold_of (between_of p)) (untold_of (between_of q)) (Here first) (Here p) (Here q) below led (turns_here None q is)
    one_more (Some last) q is =
        one_ends c limit made (untold_of (between_of first)) (untold_of (between_of p)) (untold_of (between_of q)) (Here first) (Here p)
        (StandsWith Means (Some last) first.memory.input (between_of q)) last.ending below led (turns_here (Some last) q is)

    -- The last one is made.
    pub last_made : (over : Option Over) (q : Parts R) → p.memory.heap.lent ≡ first.memory.heap.lent → IsTurn Means codes table over p q
        → AreTurns Means codes table limit (made + 1) over first q
    last_made over q lent is =
        record { some = omega arith; few = omega (arith, below); led = one_more over q is; kept = is.kept; lent = is.lent ∙ lent }
