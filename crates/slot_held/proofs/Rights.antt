-- Where the right operand of a short circuit is evaluated, its value waits in place of the left one's.
use Rattle.std.proofs.Common.{◌≡◌, ℕ, ◌+◌, ◌-◌, ◌<◌, ◌≤◌, Bool, true, false, List, [], ◌∷◌, map, length, drop, refl, sym, ◌∙◌, ap, arith, Some, ℤ, nat_lt, if◌then◌else◌}
use Rattle.std.specs.Prelude.{reverse}
use Rattle.std.proofs.lemmas.List.{length-map, length-drop, length-take-le, drop-drop, drop_all}
use Rattle.type_definitions.specs.Types.{Table}
use Rattle.type_definitions.specs.Entries.{boolean}
use Rattle.run_codes.specs.Codes.{Point}
use Rattle.run_codes.specs.Programs.{Program}
use Rattle.run_codes.specs.Points.{truth_held}
use Rattle.handled_steps.specs.States.{after, waiting}
use Rattle.slot_memory.specs.Memory.{Kept, Ghosts, slots}
use Rattle.slot_frames.specs.declared.rows.Wait.{Wait}
use Rattle.slot_frames.specs.Stacks.{Stacked}
use Rattle.slot_frames.specs.Frames.{word_at, IsStacked, AreLatest}
use Rattle.slot_frames.specs.Parts.{own, all_held}
use Rattle.slot_frames.proofs.Waits.{held_length, reversed_length}
use Rattle.slot_runs.specs.Turns.{bare}
use Rattle.slot_stages.specs.Stages.{Stage, state_of, IsStage, turn_of, without, at_point, with_wait}
use Rattle.slot_stages.proofs.Goes.{cut_is, at_is}
use Rattle.slot_stages.proofs.Waits.{wait_is, waits_on}
use Rattle.slot_held.specs.Holds.{number_before}
use Rattle.slot_held.proofs.Laws.{first_below}

-- The value before lies in the frame that runs, or there is none.
record IsNear (waits k j : ℕ) (b : Bool) : Type 0 where
  own : waits ≤ j
  below : j ≤ k
  one : b ≡ true → j + 1 ≡ k
  none : b ≡ false → (j ≡ k) × (waits ≡ k)

near : (waits k j : ℕ) → waits ≤ k → j ≡ number_before waits k → IsNear waits k j (nat_lt waits k)
near waits k j le is = by (nat_lt waits k) refl is
  where
    by : (b : Bool) → nat_lt waits k ≡ b → j ≡ (if b then k - 1 else k) → IsNear waits k j b
    by true e is =
        let lt : waits < k = less waits k e in
        record { own = omega (arith, lt, is); below = omega (arith, is); one = λ p. omega (arith, lt, is); none = λ p. absurd (let never : true ≡ false = p in cc) }
      where
        less : (a b : ℕ) → nat_lt a b ≡ true → a < b
        less a b is = grind arith
    by false e is =
        let more : k ≤ waits = least waits k e in
        record { own = omega (arith, le, is); below = omega (arith, is); one = λ p. absurd (let never : false ≡ true = p in cc); none = λ p. (is, omega (arith, le, more)) }
      where
        least : (a b : ℕ) → nat_lt a b ≡ false → b ≤ a
        least a b is = grind arith

module _ (s : Stacked) (zs : List ℤ) (types : List ℕ) (k j : ℕ) (latest : AreLatest s types k) (is : j ≡ number_before s.frame.waits k) where
  types_from : List ℕ
  types_from = map (λ (w : Wait). w.of) (drop j s.waits)

  by_near : IsNear s.frame.waits k j (nat_lt s.frame.waits k)
  by_near = near s.frame.waits k j latest.own is

  from_long : length (map (λ (w : Wait). w.of) (drop j s.waits)) ≡ length s.waits - j
  from_long = length-map (drop j s.waits) (λ (w : Wait). w.of) ∙ length-drop j s.waits

  -- The values from there on.
  latest_before : AreLatest s (map (λ (w : Wait). w.of) (drop j s.waits)) j
  latest_before = record { count = omega (arith, from_long, latest.count, by_near.below); own = by_near.own; types = refl }

  pub before_below : IsStacked s zs → word_at s.waits j (length zs) ≤ length zs
  before_below stacked = first_below s zs (map (λ (w : Wait). w.of) (drop j s.waits)) j stacked latest_before

  unfolded : length (own s zs) ≡ length (all_held s zs) - s.frame.waits
  unfolding own
  unfolded = length-take-le (length (all_held s zs) - s.frame.waits) (all_held s zs) (less (length (all_held s zs)) s.frame.waits)
    where
      less : (a b : ℕ) → a - b ≤ a
      less a b = omega arith

  held_here : length (own s zs) ≡ length s.waits - s.frame.waits
  held_here = unfolded ∙ ap (λ n. n - s.frame.waits) (held_length (reverse s.waits) zs ∙ reversed_length s.waits)

  dropped : drop (length (map (λ (w : Wait). w.of) (drop j s.waits))) (own s zs) ≡ drop 1 (drop (length types) (own s zs))
  dropped = by (nat_lt s.frame.waits k) by_near
    where
      by : (b : Bool) → IsNear s.frame.waits k j b
          → drop (length (map (λ (w : Wait). w.of) (drop j s.waits))) (own s zs) ≡ drop 1 (drop (length types) (own s zs))
      by true n =
          let one : j + 1 ≡ k = n.one refl in
          let more : length (map (λ (w : Wait). w.of) (drop j s.waits)) ≡ length types + 1 = omega (arith, from_long, latest.count, one) in
          ap (λ n. drop n (own s zs)) more ∙ sym (drop-drop 1 (length types) (own s zs))
      by false n =
          let all : length (own s zs) ≤ length types = omega (arith, held_here, latest.count, (n.none refl).1) in
          let same : length (map (λ (w : Wait). w.of) (drop j s.waits)) ≡ length types = omega (arith, from_long, latest.count, (n.none refl).0) in
          ap (λ n. drop n (own s zs)) same ∙ drop_all (length types) (own s zs) all
          ∙ sym (ap (λ l. drop 1 l) (drop_all (length types) (own s zs) all))

module _ {R : Type 0} (table : Table) (program : Program) (p : Point) (r : Stage R) (k j : ℕ) (m : Kept R) (g : Ghosts) (is : IsStage r) (latest : AreLatest r.stacked p.takes k)
    (b : j ≡ number_before r.stacked.frame.waits k) (waits : m.waits ≡ r.kept.waits) (base : m.base ≡ r.kept.base) (settled : g.moves ≡ []) (w : ℤ) (n : ℕ) where
  -- The state after it.
  pub right_on : m.read ≡ r.kept.read
      → bare (after (turn_of table program p r) (truth_held w ∷ drop 1 (waiting (turn_of table program p r))) (slots m g) (Some n))
      ≡ state_of (at_point (with_wait (without r j m g) boolean (w ∷ [])) n)
  right_on read =
      ap (λ hs. bare (after (turn_of table program p r) (truth_held w ∷ hs) (slots m g) (Some n))) (sym (dropped r.stacked r.kept.waits p.takes k j latest b))
      ∙ waits_on table program p r (map (λ (w : Wait). w.of) (drop j r.stacked.waits)) j n boolean (w ∷ []) m g is
      (latest_before r.stacked r.kept.waits p.takes k j latest b) waits read base settled

  pub right_is : IsStage (at_point (with_wait (without r j m g) boolean (w ∷ [])) n)
  right_is =
      at_is (with_wait (without r j m g) boolean (w ∷ [])) n
      (wait_is (without r j m g) boolean (w ∷ [])
      (cut_is r (map (λ (w : Wait). w.of) (drop j r.stacked.waits)) j m g is (latest_before r.stacked r.kept.waits p.takes k j latest b) waits base settled))
