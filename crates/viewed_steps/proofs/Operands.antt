-- The operand of a short circuit, whose value waits: it leads on where views are, too.
use Rattle.std.proofs.Common.{◌≡◌, refl, sym, ap, ◌∙◌, subst, ℕ, true, List, [], ◌∷◌, ◌++◌, flat_map, drop, length, if◌then◌else◌, Bool}
use Rattle.machine.specs.place_names.declared.fact.Fact.{Fact}
use Rattle.machine.specs.type_definitions.Entries.{boolean}
use Rattle.machine.specs.type_definitions.Types.{is_scalar, full}
use Rattle.machine.specs.typed_tree.declared.node.ShortCircuit.{ShortCircuit}
use Rattle.machine.specs.typed_tree.Trees.{TypedTree}
use Rattle.machine.specs.flow_paths.Objects.{Typing}
use Rattle.machine.specs.flow_paths.Names.{waiting as waits_in}
use Rattle.machine.specs.flow_paths.Scopes.{taken}
use Rattle.machine.specs.flow_paths.Acts.{acts_in}
use Rattle.machine.specs.Words as machine
use Rattle.machine.specs.Memory.{Memory}
use Rattle.machine.specs.Evaluate.{Now, Evaluated, Done, Raises, Traps, value}
use Rattle.machine.specs.Evaluate as run
use Rattle.machine.specs.States.{Waiting, Outcome, Goes}
use Rattle.machine.specs.Step.{Turn, typing, here, waiting, behind, successor}
use Rattle.machine.specs.Step as steps
use Rattle.machine.specs.Owners.{waiting_in}
use Rattle.soundness.specs.OwnedWays.Ways.{Way, after, AllowsAll}
use Rattle.soundness.specs.OwnedWays.Ways as ways
use Rattle.soundness.specs.PartOffsets.Parts.{IsSettled}
use Rattle.soundness.specs.Seen.{in_hand, word_in, seen, home, IsNear}
use Rattle.soundness.specs.Typed.{OwnsByShape, Kept}
use Rattle.soundness.specs.TypedLaws.Needed.{Stays}
use Rattle.soundness.proofs.Contents.{word_no}
use Rattle.soundness.proofs.Steps.{no_leaf}
use Rattle.soundness.proofs.Scalars.{acts}
use Rattle.soundness.proofs.Taking.{Takes}
use Rattle.soundness.proofs.Stays.{Quiet, One}
use Rattle.soundness.proofs.Numbers.{index_law}
use Rattle.soundness.proofs.Keeping.{scalar}
use Rattle.soundness.proofs.Lasting.{keeps, less_kept}
use Rattle.soundness.proofs.Evaluated.{changed_hand}
use Rattle.soundness.proofs.Waits.{waits_of, led_waits, drop_none}
use Rattle.soundness.specs.OwnedLoans.Views.{Around, Views, Viewed}
use Rattle.soundness.proofs.OwnedLoans.Moves.{same_viewed}
use Rattle.soundness.specs.ViewedSoundness.Holds.{PartsAreNamed, Holds, Seeing}
use Rattle.soundness.proofs.ViewedSoundness.Evaluated.{scalar_given}
use Rattle.viewed_steps.proofs.Views.{AreAccess}
use Rattle.soundness.proofs.ViewedSoundness.Outcomes.{IsGood, Leads_on, raises, unturned, scalar_taken}

module _ (t : Turn) (sees : ℕ → Bool) (seeing : Seeing (typing t) sees) (settled : IsSettled (typing t).table) (own_law : OwnsByShape (typing t).table) (other : Around (home (typing t) (length t.outer)))
    (alone : (w : Way) → IsNear (length t.outer) w → other.gone w → ⊥) (in_formals : AreAccess (typing t))
    (v : Views) (parts_named : PartsAreNamed (typing t).table) (may : ℕ → ℕ → Type 0)
    (frames : t.state.frames ≡ t.frame ∷ t.outer) (none : taken t.point.instr ≡ 0)
    (truth : is_scalar (full (typing t).table boolean) ≡ true) where
  abbrev s : Typing
  s = typing t

  abbrev depth : ℕ
  depth = length t.outer

  abbrev hands : List Waiting
  hands = waiting_in t.state

  abbrev Good : List Fact → Type 0
  Good facts = IsGood t sees seeing settled own_law other alone v parts_named may frames none v facts t.state

  abbrev LeadsHere : List Fact → Outcome → Type 0
  LeadsHere facts outcome = Leads_on t sees seeing settled own_law other alone v parts_named may frames none facts outcome

  abbrev now : Now
  now = record { memory = t.state.memory; waits = [] }

  -- ---- an operand

  -- what waits after the step
  abbrev Waits : List Waiting → List Waiting → Type 0
  Waits waits behind = waits ++ flat_map waits_of t.outer ≡ behind

  waits_on : (waits hands' : List Waiting) → Waits waits hands' → (m : Memory) (k : ℕ) (facts : List Fact)
      → Viewed (home s depth) sees other v (seen s m hands' t.state.leaks) facts → Kept s m hands' → Holds s sees depth v m → LeadsHere facts (Goes (behind t waits m k))
  waits_on waits hands' same m k facts viewed kept holds =
      let waits_behind = led_waits t (record t.frame { waits = waits }) (successor t k) ∙ same in (
        v,
        unturned t sees seeing settled own_law other alone v parts_named may frames none facts,
        record {
          viewed = subst (λ z. Viewed (home s depth) sees other v (seen s m z t.state.leaks) facts) (sym waits_behind) viewed;
          kept = subst (Kept s m) (sym waits_behind) kept;
          holds = record {
            held = holds.held;
            only = holds.only;
            owners = holds.owners;
            access = holds.access;
            own = holds.own;
            taken = holds.taken;
            parts = record { held = holds.parts.held; only = holds.parts.only; owners = holds.parts.owners; looks = holds.parts.looks };
          };
        },
      )

  all_wait : waiting t ++ flat_map waits_of t.outer ≡ hands
  all_wait =
      ap (λ n. drop n t.frame.waits ++ flat_map waits_of t.outer) none ∙ ap (λ z. z ++ flat_map waits_of t.outer) (drop_none t.frame.waits)
      ∙ sym (ap (flat_map waits_of) frames)

  -- the left operand: one value more waits
  then_waits : (facts : List Fact) → Good facts → (k : List machine.Word → ℕ) (y : Evaluated (List machine.Word)) → Quiet now One y
      → LeadsHere facts (steps.evaluated t y (λ ws m. Goes (behind t (steps.truth_waiting ws ∷ waiting t) m (k ws))))
  then_waits facts good k (Done ws n) (same, one) =
      let given = scalar_given (here t) sees seeing settled t.state.leaks [] other alone (keeps s settled own_law) index_law own_law v parts_named
      t.state.memory hands facts facts boolean (record { viewed = good.viewed; kept = good.kept; holds = good.holds }) refl truth (Done ws now) (refl, one) in
      subst (λ (z : Now). LeadsHere facts (Goes (behind t (steps.truth_waiting ws ∷ waiting t) z.memory (k ws)))) (sym same)
      (waits_on (steps.truth_waiting ws ∷ waiting t) (steps.truth_waiting ws ∷ hands) (ap (λ z. steps.truth_waiting ws ∷ z) all_wait)
      t.state.memory (k ws) facts given.0.viewed given.0.kept given.0.holds)
  then_waits facts good k (Raises e n) is =
      ((λ trap. trap), raises t sees seeing settled own_law other alone v parts_named may frames none facts good n.memory)
  then_waits facts good k (Traps e n) never = absurd never

  -- the right operand: its value waits in place of that of the left one
  then_replaced : (left : Waiting) (rest : List Waiting) → t.frame.waits ≡ left ∷ rest → is_scalar (full s.table left.of) ≡ true
      → (facts : List Fact) → Good facts → (y : Evaluated (List machine.Word)) → Quiet now One y
      → LeadsHere facts (steps.evaluated t y (λ ws m. Goes (behind t (steps.truth_waiting ws ∷ drop 1 (waiting t)) m 0)))
  then_replaced left rest waits plain facts good (Done ws n) (same, one) =
      let m : Memory = t.state.memory in
      let right : Waiting = steps.truth_waiting ws in
      let below : List Waiting = rest ++ flat_map waits_of t.outer in
      let before : hands ≡ left ∷ below = ap (flat_map waits_of) frames ∙ ap (λ z. z ++ flat_map waits_of t.outer) waits in
      let others : drop 1 (waiting t) ≡ rest =
      ap (λ i. drop 1 (drop i t.frame.waits)) none ∙ ap (drop 1) (drop_none t.frame.waits) ∙ ap (drop 1) waits ∙ drop_none rest in
      let shows : (p : List ways.Step) → word_in s.table (in_hand right) p ≡ word_in s.table (in_hand left) p =
      (λ p. word_no s.table (in_hand right) p (no_leaf s.table settled boolean truth p)
      ∙ sym (word_no s.table (in_hand left) p (no_leaf s.table settled left.of plain p))) in
      let viewed_before = subst (λ z. Viewed (home s depth) sees other v (seen s m z t.state.leaks) facts) before good.viewed in
      let kept_before = subst (Kept s m) before good.kept in
      subst (λ (z : Now). LeadsHere facts (Goes (behind t (right ∷ drop 1 (waiting t)) z.memory 0))) (sym same)
      (waits_on (right ∷ drop 1 (waiting t)) (right ∷ below) (ap (λ z. right ∷ (z ++ flat_map waits_of t.outer)) others) m 0 facts
      (same_viewed (home s depth) sees other v (seen s m (left ∷ below) t.state.leaks) (seen s m (right ∷ below) t.state.leaks) facts
      (changed_hand s m t.state.leaks left right below shows) viewed_before)
      (scalar s settled m right below truth (less_kept s settled m left below kept_before)) good.holds)
  then_replaced left rest waits plain facts good (Raises e n) is =
      ((λ trap. trap), raises t sees seeing settled own_law other alone v parts_named may frames none facts good n.memory)
  then_replaced left rest waits plain facts good (Traps e n) never = absurd never

  -- a left operand, which takes these values
  pub left_operand_on : (ws : List (List machine.Word)) (e : TypedTree) (op : ShortCircuit) → Stays s e → Takes (waits_in e) ws [] → (facts : List Fact)
      → Good facts → AllowsAll facts (acts (acts_in s e))
      → LeadsHere (after (acts (acts_in s e)) facts) (steps.evaluated t (value (here t) e (record { memory = t.state.memory; waits = ws }))
      (λ vs m. Goes (behind t (steps.truth_waiting vs ∷ waiting t) m (if run.decides op vs then 1 else 0))))
  left_operand_on ws e op stays takes facts good allowed =
      let before : Now = record { memory = t.state.memory; waits = ws } in
      let q = scalar_taken t sees seeing settled own_law other alone v parts_named may frames none ws e stays takes facts good allowed in
      subst (λ z. LeadsHere z (steps.evaluated t (value (here t) e before) (λ vs m. Goes (behind t (steps.truth_waiting vs ∷ waiting t) m (if run.decides op vs then 1 else 0))))) (sym q.1)
      (then_waits facts good (λ vs. if run.decides op vs then 1 else 0) (value (here t) e before) q.0)

  -- The value of the left operand waits, and is a truth value.
  pub right_operand_on : (ws : List (List machine.Word)) (e : TypedTree) (left : Waiting) (rest : List Waiting) → t.frame.waits ≡ left ∷ rest
      → is_scalar (full s.table left.of) ≡ true → Stays s e → Takes (waits_in e) ws [] → (facts : List Fact) → Good facts
      → AllowsAll facts (acts (acts_in s e))
      → LeadsHere (after (acts (acts_in s e)) facts) (steps.evaluated t (value (here t) e (record { memory = t.state.memory; waits = ws }))
      (λ vs m. Goes (behind t (steps.truth_waiting vs ∷ drop 1 (waiting t)) m 0)))
  right_operand_on ws e left rest waits plain stays takes facts good allowed =
      let before : Now = record { memory = t.state.memory; waits = ws } in
      let q = scalar_taken t sees seeing settled own_law other alone v parts_named may frames none ws e stays takes facts good allowed in
      subst (λ z. LeadsHere z (steps.evaluated t (value (here t) e before) (λ vs m. Goes (behind t (steps.truth_waiting vs ∷ drop 1 (waiting t)) m 0)))) (sym q.1)
      (then_replaced left rest waits plain facts good (value (here t) e before) q.0)
