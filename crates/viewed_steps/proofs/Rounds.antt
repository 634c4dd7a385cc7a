-- Loops, output, and instructions that change nothing.
use Rattle.std.proofs.Common.{◌≡◌, refl, sym, ap, ◌∙◌, subst, inl, inr, ℕ, ◌+◌, Bool, true, false, List, [], ◌∷◌, ◌++◌, flat_map, take, drop, length, get_or, append-nil, ℤ, Option, Some, None, if◌then◌else◌}
use Rattle.machine.specs.place_names.declared.fact.Fact.{Fact}
use Rattle.machine.specs.type_definitions.Types.{shape_of, words, is_scalar, full}
use Rattle.machine.specs.typed_tree.Trees.{TypedTree, Text, Parens, Image, Binary, NoMore, More}
use Rattle.machine.specs.flow_paths.Instructions.{Skip}
use Rattle.machine.specs.flow_paths.Objects.{Typing, object_at}
use Rattle.machine.specs.flow_paths.Names.{waiting as waits_in}
use Rattle.machine.specs.flow_paths.Scopes.{taken}
use Rattle.machine.specs.flow_paths.Acts.{acts_in}
use Rattle.machine.specs.Words as machine
use Rattle.machine.specs.Memory.{Memory, Slot, Place, fresh, no_slot, variable_slots, words_of, stored, declared, undeclared}
use Rattle.machine.specs.Evaluate.{Now, AsValue, Evaluated, Done, Raises, Traps, followed_by, value, variable_place, text_of}
use Rattle.machine.specs.Evaluate as run
use Rattle.machine.specs.States.{Waiting, Loop, Frame, State, Outcome, Goes}
use Rattle.machine.specs.Step.{Turn, typing, here, start, waiting, behind, led, successor}
use Rattle.machine.specs.Step as steps
use Rattle.machine.specs.Owners.{waiting_in}
use Rattle.soundness.specs.OwnedWays.Ways.{OfVariable, Loc, OfRoot, Way, Reaches, after, AllowsAll}
use Rattle.soundness.specs.PartOffsets.Parts.{offset_in, IsSettled}
use Rattle.soundness.specs.Seen.{IsNear, content, trunk, seen, home}
use Rattle.soundness.specs.Typed.{OwnsByShape, Kept, Spot}
use Rattle.soundness.specs.TypedLaws.Needed.{Stays, Writes}
use Rattle.soundness.proofs.Contents.{bool_cases}
use Rattle.soundness.proofs.Memories.{put_other, removed_other}
use Rattle.soundness.proofs.Steps.{plain_shape}
use Rattle.soundness.proofs.Keeping.{cell_has}
use Rattle.soundness.proofs.Scalars.{acts, acts_append, after_append, allows_both}
use Rattle.soundness.proofs.Stays.{Quiet, Any, One, quiet_then, quiet_from}
use Rattle.soundness.proofs.Numbers.{index_law}
use Rattle.soundness.proofs.Lasting.{keeps, stored_kept, declared_kept, removed_kept}
use Rattle.soundness.proofs.Loops.{scalar_same, value_plain}
use Rattle.soundness.proofs.Taking.{Takes, takes_as, takes_both, takes_zero, nothing_more}
use Rattle.soundness.proofs.Waits.{waits_of, led_waits}
use Rattle.soundness.specs.OwnedLoans.Views.{Around, Views, Viewed}
use Rattle.soundness.proofs.OwnedLoans.Moves.{same_viewed}
use Rattle.soundness.proofs.ViewedSoundness.Names.{parts_same}
use Rattle.soundness.proofs.ViewedSoundness.ViewKinds.{bundle_view}
use Rattle.soundness.specs.ViewedSoundness.Holds.{PartsAreNamed, Holds, IsOwners, is_view, Seeing}
use Rattle.soundness.proofs.ViewedSoundness.Stays.{taking}
use Rattle.soundness.proofs.ViewedSoundness.Evaluated.{scalar_given}
use Rattle.soundness.proofs.ViewedSoundness.Outcomes.{IsGood, Leads_on, raises, start_is, hands_behind, unturned, goes_to, live}
use Rattle.viewed_steps.proofs.Declared.{same_root}
use Rattle.viewed_steps.proofs.Views.{AreAccess, scalar_no_view}

value_long : (ws : List machine.Word) (v : ℤ) → length (steps.parameter_words ws v) ≡ 1
value_long [] v = refl
value_long (machine.Enumerated n ∷ []) v = refl
value_long (machine.Enumerated n ∷ (w ∷ ws)) v = refl
value_long (machine.Int n ∷ ws) v = refl
value_long (machine.Null ∷ ws) v = refl
value_long (machine.Cell n ∷ ws) v = refl

module _ (t : Turn) (sees : ℕ → Bool) (seeing : Seeing (typing t) sees) (settled : IsSettled (typing t).table) (own_law : OwnsByShape (typing t).table) (other : Around (home (typing t) (length t.outer)))
    (alone : (w : Way) → IsNear (length t.outer) w → other.gone w → ⊥) (in_formals : AreAccess (typing t))
    (v : Views) (parts_named : PartsAreNamed (typing t).table) (may : ℕ → ℕ → Type 0)
    (frames : t.state.frames ≡ t.frame ∷ t.outer) (none : taken t.point.instr ≡ 0) where
  abbrev s : Typing
  s = typing t

  abbrev depth : ℕ
  depth = length t.outer

  abbrev hands : List Waiting
  hands = waiting_in t.state

  abbrev m : Memory
  m = t.state.memory

  abbrev now : Now
  now = record { memory = t.state.memory; waits = [] }

  -- with these values, which the instruction takes
  abbrev at : List (List machine.Word) → Now
  at ws = record { memory = m; waits = ws }

  abbrev GoodState : List Fact → State → Type 0
  GoodState facts state = IsGood t sees seeing settled own_law other alone v parts_named may frames none v facts state

  abbrev Good : List Fact → Type 0
  Good facts = GoodState facts t.state

  abbrev LeadsHere : List Fact → Outcome → Type 0
  LeadsHere facts outcome = Leads_on t sees seeing settled own_law other alone v parts_named may frames none facts outcome

  raised_here : (facts : List Fact) → Good facts → (e : run.Exception) (m : Memory) → LeadsHere facts (steps.raised t e m)
  raised_here facts good e m = (λ trap. trap, raises t sees seeing settled own_law other alone v parts_named may frames none facts good m)

  stays_here : (facts : List Fact) → Good facts → (k : ℕ) → LeadsHere facts (steps.goes t m k)
  stays_here facts good k =
      goes_to t sees seeing settled own_law other alone v parts_named may frames none m k v facts
      (unturned t sees seeing settled own_law other alone v parts_named may frames none facts) good.viewed good.kept good.holds

  started_is : start t ≡ now
  started_is = start_is t sees seeing settled own_law other alone v parts_named may frames none

  alive_trunk : (facts : List Fact) → Good facts → (w : Way) (l : Loc) → IsOwners s w → Reaches (seen s m hands t.state.leaks) w l → (content s m hands (trunk l)).owns ≡ true
  alive_trunk facts good = live t sees seeing settled own_law other alone v parts_named may frames none facts good

  pub skip_leads : (facts : List Fact) → Good facts → LeadsHere facts (steps.turn t Skip)
  skip_leads facts good = stays_here facts good 0

  -- ---- output

  pub text_quiet : (before on : List (List machine.Word)) (e : TypedTree) → Writes s e → Takes (waits_in e) before on → (facts : List Fact) → Good facts
      → AllowsAll facts (acts (acts_in s e))
      → Quiet (at on) (Any {A = List ℕ}) (text_of (here t) e (at before)) × (after (acts (acts_in s e)) facts ≡ facts)
  unfolding Writes text_of acts_in waits_in
  text_quiet before on (Text b) writes takes facts good allowed = ((ap at (takes_zero before on takes), tt), refl)
  text_quiet before on (Image u e) stays takes facts good allowed =
      let q = taking (here t) sees seeing settled hands t.state.leaks m [] other facts v good.kept good.viewed good.holds alone (alive_trunk facts good)
      index_law own_law parts_named AsValue e stays before on takes allowed in
      (quiet_then (at on) One (Any {A = List ℕ}) (value (here t) e (at before)) (λ ws n. Done (run.image_of s.table u ws) n) q.0 (λ ws one. (refl, tt)), q.1)
  text_quiet before on (Parens e) writes takes facts good allowed = text_quiet before on e writes takes facts good allowed
  text_quiet before on (Binary op a b) (wa, wb) takes facts good allowed =
      let two = takes_both (waits_in a) (waits_in b) before on takes in
      let each = allows_both facts (acts (acts_in s a)) (acts (acts_in s b)) (subst (AllowsAll facts) (acts_append (acts_in s a) (acts_in s b)) allowed) in
      let left = text_quiet before two.0 a wa two.1 facts good each.0 in
      let right = text_quiet two.0 on b wb two.2 facts good (subst (λ z. AllowsAll z (acts (acts_in s b))) left.1 each.1) in (
        quiet_from (at two.0) (at on) (Any {A = List ℕ}) (Any {A = List ℕ}) refl (text_of (here t) a (at before)) (λ x n. followed_by (text_of (here t) b n) (λ y n. Done (x ++ y) n)) left.0
            (λ x any. quiet_then (at on) (Any {A = List ℕ}) (Any {A = List ℕ}) (text_of (here t) b (at two.0)) (λ y n. Done (x ++ y) n) right.0 (λ y any. (refl, tt))),
        ap (λ z. after z facts) (acts_append (acts_in s a) (acts_in s b)) ∙ after_append (acts (acts_in s a)) (acts (acts_in s b)) facts
            ∙ ap (after (acts (acts_in s b))) left.1 ∙ right.1,
      )
  text_quiet before on e writes takes facts good allowed = absurd writes

  then_written : (facts : List Fact) → Good facts → (line : Bool) (y : Evaluated (List ℕ)) → Quiet now (Any {A = List ℕ}) y
      → LeadsHere facts (steps.evaluated t y (λ bytes m. Goes (record (behind t (waiting t) m 0) {
        output = t.state.output ++ bytes ++ (if line then 10 ∷ [] else []);
      })))
  then_written facts good line (Done a n) (same, p) =
      let on = stays_here facts good 0 in
      subst (λ (z : Now). LeadsHere facts (Goes (record (behind t (waiting t) z.memory 0) {
        output = t.state.output ++ a ++ (if line then 10 ∷ [] else []);
      }))) (sym same) (on.0, on.1, record { viewed = on.2.viewed; kept = on.2.kept; holds = record { held = on.2.holds.held; only = on.2.holds.only; owners = on.2.holds.owners; access = on.2.holds.access; own = on.2.holds.own; taken = on.2.holds.taken; parts = record { held = on.2.holds.parts.held; only = on.2.holds.parts.only; owners = on.2.holds.parts.owners; looks = on.2.holds.parts.looks } } })
  then_written facts good line (Raises e n) is = raised_here facts good e n.memory
  then_written facts good line (Traps e n) never = absurd never

  pub output_on : (ws : List (List machine.Word)) (e rest : TypedTree) (line : Bool) → rest ≡ NoMore → Writes s e → Takes (waits_in (More e rest)) ws []
      → (facts : List Fact) → Good facts → AllowsAll facts (acts (acts_in s (More e rest)))
      → LeadsHere (after (acts (acts_in s (More e rest))) facts) (steps.evaluated t (text_of (here t) e (at ws)) (λ bytes m. Goes (record (behind t (waiting t) m 0) {
        output = t.state.output ++ bytes ++ (if line then 10 ∷ [] else []);
      })))
  unfolding acts_in waits_in
  output_on ws e rest line last writes takes facts good allowed =
      let same : acts_in s e ++ acts_in s rest ≡ acts_in s e = ap (λ z. acts_in s e ++ acts_in s z) last ∙ append-nil (acts_in s e) in
      let alone_there : waits_in e + waits_in rest ≡ waits_in e = ap (λ z. waits_in e + waits_in z) last ∙ nothing_more (waits_in e) in
      let q = text_quiet ws [] e writes (takes_as (waits_in e + waits_in rest) (waits_in e) ws [] alone_there takes) facts good
      (subst (λ z. AllowsAll facts (acts z)) same allowed) in
      subst (λ z. LeadsHere z (steps.evaluated t (text_of (here t) e (at ws)) (λ bytes m. Goes (record (behind t (waiting t) m 0) {
        output = t.state.output ++ bytes ++ (if line then 10 ∷ [] else []);
      })))) (sym (ap (λ z. after (acts z) facts) same ∙ q.1)) (then_written facts good line (text_of (here t) e (at ws)) q.0)

  -- a line that ends without a text
  pub line_leads : (line : Bool) (facts : List Fact) → Good facts → LeadsHere facts (steps.output t NoMore line)
  unfolding text_of
  line_leads line facts good = then_written facts good line (Done [] (start t)) (started_is, tt)

  -- ---- iterations

  -- what waits doesn't go by the loops that have started
  turn_waits : (loops : List Loop) (k : ℕ) → flat_map waits_of (led t (record t.frame { loops = loops }) (successor t k)) ≡ hands
  turn_waits loops k = led_waits t (record t.frame { loops = loops }) (successor t k) ∙ sym (ap (flat_map waits_of) frames)

  turned_there : (loops : List Loop) (n : Memory) (k : ℕ) (facts : List Fact)
      → Viewed (home s depth) sees other v (seen s n hands t.state.leaks) facts
      → Kept s n hands → Holds s sees depth v n → LeadsHere facts (steps.with_turn t loops n k)
  turned_there loops n k facts viewed kept holds = (
    v,
    unturned t sees seeing settled own_law other alone v parts_named may frames none facts,
    record {
      viewed = subst (λ z. Viewed (home s depth) sees other v (seen s n z t.state.leaks) facts) (sym (turn_waits loops k)) viewed;
      kept = subst (Kept s n) (sym (turn_waits loops k)) kept;
      holds = record {
        held = holds.held;
        only = holds.only;
        owners = holds.owners;
        access = holds.access;
        own = holds.own;
        taken = holds.taken;
        parts = record { held = holds.parts.held; only = holds.parts.only; owners = holds.parts.owners; looks = holds.parts.looks };
      };
    },
  )

  -- the variables of views aren't that of a scalar object
  apart : (f x : ℕ) → is_scalar (full s.table (object_at s x).of) ≡ true → (y : ℕ) → is_view s y ≡ true → OfVariable f x ≡ OfVariable (home s depth y) y → ⊥
  apart f x scalar y view e =
      let same = same_root f x (home s depth y) y e in
      scalar_no_view s sees in_formals x scalar (subst (λ z. is_view s z ≡ true) (sym same.1) view)

  next_by : (x : ℕ) → is_scalar (full s.table (object_at s x).of) ≡ true → (facts : List Fact) → Good facts
      → (ws : List machine.Word) (i : Option ℤ) → LeadsHere facts (steps.turned_to t x (variable_place (here t) x) ws i)
  next_by x scalar facts good ws (Some i) =
      let k : Place = variable_place (here t) x in
      let u : ℕ = (object_at s x).of in
      let f : ℕ = home s depth x in
      let value : List machine.Word = steps.parameter_words ws i in
      let spot : Spot s m hands k (OfRoot (OfVariable f x)) = record { base = refl; made = tt; at = refl; there = refl; of = inl refl } in
      let long : length value ≡ words s.table u =
      value_long ws i ∙ sym (settled.word_law u ∙ (plain_shape (shape_of s.table u) scalar).3 (words s.table)) in
      let all : List Slot = variable_slots s f x m.variables in
      let slots : List Slot = take 0 all ++ fresh value ++ drop (0 + length (fresh value)) all in
      let next : Memory = stored s k value m in
      turned_there (steps.turned x t.frame.loops) next 0 facts
      (same_viewed (home s depth) sees other v (seen s m hands t.state.leaks) (seen s next hands t.state.leaks) facts
      (scalar_same s settled m hands t.state.leaks f x scalar next.variables (λ g y ne. put_other s f x g y ne slots m.variables)) good.viewed)
      (stored_kept s settled m hands k (OfRoot (OfVariable f x)) u value good.kept spot long (inl refl)
      (λ p d c n j has is at. absurd (value_plain ws i j (cell_has value (offset_in s.table u p) j at))))
      (record {
        held = λ y n view bare e. good.holds.held y n view bare
            (sym (ap (λ z. (get_or z 0 no_slot).word) (put_other s f x (home s depth y) y (apart f x scalar y view) slots m.variables)) ∙ e);
        only = good.holds.only;
        owners = good.holds.owners;
        access = good.holds.access;
        own = good.holds.own;
        taken = good.holds.taken;
        parts = parts_same s sees depth v m next
            (λ y p bundle. ap (λ z. (get_or z (offset_in s.table (object_at s y).of p) no_slot).word)
            (put_other s f x (home s depth y) y (apart f x scalar y (bundle_view s y bundle)) slots m.variables)) good.holds.parts;
      })
  next_by x scalar facts good ws None =
      let next : Memory = undeclared depth x m in
      turned_there (steps.without_loop x t.frame.loops) next 1 facts
      (same_viewed (home s depth) sees other v (seen s m hands t.state.leaks) (seen s next hands t.state.leaks) facts
      (scalar_same s settled m hands t.state.leaks depth x scalar next.variables (λ g y ne. removed_other s depth x g y ne m.variables)) good.viewed)
      (removed_kept s settled m depth x hands good.kept)
      (record {
        held = λ y n view bare e. good.holds.held y n view bare
            (sym (ap (λ z. (get_or z 0 no_slot).word) (removed_other s depth x (home s depth y) y (apart depth x scalar y view) m.variables)) ∙ e);
        only = good.holds.only;
        owners = good.holds.owners;
        access = good.holds.access;
        own = good.holds.own;
        taken = good.holds.taken;
        parts = parts_same s sees depth v m next
            (λ y p bundle. ap (λ z. (get_or z (offset_in s.table (object_at s y).of p) no_slot).word)
            (removed_other s depth x (home s depth y) y (apart depth x scalar y (bundle_view s y bundle)) m.variables)) good.holds.parts;
      })

  -- the parameter of a loop gets its next value, or leaves scope
  pub next_leads : (x : ℕ) (reversed : Bool) → is_scalar (full s.table (object_at s x).of) ≡ true → (facts : List Fact) → Good facts
      → LeadsHere facts (steps.next_turn t x reversed)
  next_leads x reversed scalar facts good =
      let k : Place = variable_place (here t) x in
      let ws : List machine.Word = words_of s m k in
      next_by x scalar facts good ws (steps.next_value reversed (steps.loop_of x t.frame.loops) (steps.number ws))

  -- ---- the start

  -- what waits doesn't go by the loops that have started
  loop_waits : (l : Loop) (state : State) → waiting_in (steps.with_loop l state) ≡ waiting_in state
  loop_waits l state = by_frames state.frames
    where
      by_frames : (fs : List Frame) → waiting_in (steps.with_loop l (record state { frames = fs })) ≡ flat_map waits_of fs
      by_frames [] = refl
      by_frames (f ∷ rest) = refl

  abbrev Both : steps.Bounds → Type 0
  Both b = One b.low × One b.high

  -- what a start does with its bounds: it raises, or the parameter is declared
  pub record Starts (x : ℕ) (f : steps.Bounds → Memory → Outcome) : Type 0 where
    pub fails : steps.Bounds → Bool
    pub loop : steps.Bounds → Loop
    pub at_fault : (b : steps.Bounds) (m : Memory) → fails b ≡ true → f b m ≡ steps.raised t run.ConstraintError m
    pub at_turn : (b : steps.Bounds) (m : Memory) → fails b ≡ false
        → f b m ≡ Goes (steps.with_loop (loop b) (behind t (waiting t) (declared depth x b.low m) 0))

  module _ (x : ℕ) (f : steps.Bounds → Memory → Outcome) (starts : Starts x f) (scalar : is_scalar (full s.table (object_at s x).of) ≡ true)
      (facts : List Fact) (good : Good facts) where
    begun_there : (b : steps.Bounds) → Both b
        → LeadsHere facts (Goes (steps.with_loop (starts.loop b) (behind t (waiting t) (declared depth x b.low m) 0)))
    begun_there b both =
        let u : ℕ = (object_at s x).of in
        let value_of : Waiting = record { of = u; words = b.low } in
        let given = scalar_given (here t) sees seeing settled t.state.leaks [] other alone (keeps s settled own_law) index_law own_law v parts_named
        m hands facts facts u (record { viewed = good.viewed; kept = good.kept; holds = good.holds }) refl scalar (Done b.low now) (refl, both.0) in
        let next : Memory = declared depth x b.low m in
        let waits = loop_waits (starts.loop b) (behind t (waiting t) next 0) ∙ hands_behind t sees seeing settled own_law other alone v parts_named may frames none next 0 in (
          v,
          unturned t sees seeing settled own_law other alone v parts_named may frames none facts,
          record {
            viewed = subst (λ z. Viewed (home s depth) sees other v (seen s next z t.state.leaks) facts) (sym waits)
                (same_viewed (home s depth) sees other v (seen s m hands t.state.leaks) (seen s next hands t.state.leaks) facts
                (scalar_same s settled m hands t.state.leaks depth x scalar next.variables (λ g y ne. put_other s depth x g y ne (fresh b.low) m.variables)) good.viewed);
            kept = subst (Kept s next) (sym waits) (declared_kept s settled m depth x value_of hands given.0.kept given.1 (inl refl));
            holds = record {
              held = λ y n view bare e. good.holds.held y n view bare
                  (sym (ap (λ z. (get_or z 0 no_slot).word) (put_other s depth x (home s depth y) y (apart depth x scalar y view) (fresh b.low) m.variables)) ∙ e);
              only = good.holds.only;
              owners = good.holds.owners;
              access = good.holds.access;
              own = good.holds.own;
              taken = good.holds.taken;
              parts = parts_same s sees depth v m next
                  (λ y p bundle. ap (λ z. (get_or z (offset_in s.table (object_at s y).of p) no_slot).word)
                  (put_other s depth x (home s depth y) y (apart depth x scalar y (bundle_view s y bundle)) (fresh b.low) m.variables)) good.holds.parts;
            };
          },
        )

    then_started : (y : Evaluated steps.Bounds) → Quiet now Both y → LeadsHere facts (steps.evaluated t y f)
    then_started (Done b n) (same, both) =
        subst (λ (z : Now). LeadsHere facts (f b z.memory)) (sym same) (elim (bool_cases (starts.fails b)) [
          | inl e ↦ subst (LeadsHere facts) (sym (starts.at_fault b m e)) (raised_here facts good run.ConstraintError m)
          | inr e ↦ subst (LeadsHere facts) (sym (starts.at_turn b m e)) (begun_there b both)
        ])
    then_started (Raises e n) is = raised_here facts good e n.memory
    then_started (Traps e n) never = absurd never

  pub started_on : (ws mid : List (List machine.Word)) (x : ℕ) (f : steps.Bounds → Memory → Outcome) (low high : TypedTree) → Starts x f → is_scalar (full s.table (object_at s x).of) ≡ true
      → Stays s low → Stays s high → Takes (waits_in low) ws mid → Takes (waits_in high) mid [] → (facts : List Fact) → Good facts
      → AllowsAll facts (acts (acts_in s low ++ acts_in s high))
      → LeadsHere (after (acts (acts_in s low ++ acts_in s high)) facts) (steps.evaluated t (steps.bounds t low high (at ws)) f)
  started_on ws mid x f low high starts scalar stays stays' takes takes' facts good allowed =
      let each = allows_both facts (acts (acts_in s low)) (acts (acts_in s high)) (subst (AllowsAll facts) (acts_append (acts_in s low) (acts_in s high)) allowed) in
      let first_bound = taking (here t) sees seeing settled hands t.state.leaks m [] other facts v good.kept good.viewed good.holds alone (alive_trunk facts good) index_law own_law parts_named AsValue low stays ws mid takes each.0 in
      let second_bound = taking (here t) sees seeing settled hands t.state.leaks m [] other facts v good.kept good.viewed good.holds alone (alive_trunk facts good) index_law own_law parts_named AsValue high stays' mid [] takes'
      (subst (λ z. AllowsAll z (acts (acts_in s high))) first_bound.1 each.1) in
      let all : after (acts (acts_in s low ++ acts_in s high)) facts ≡ facts =
      ap (λ z. after z facts) (acts_append (acts_in s low) (acts_in s high)) ∙ after_append (acts (acts_in s low)) (acts (acts_in s high)) facts
      ∙ ap (after (acts (acts_in s high))) first_bound.1 ∙ second_bound.1 in
      let q : Quiet now Both (steps.bounds t low high (at ws)) =
      quiet_from (at mid) now One Both refl (value (here t) low (at ws)) (λ a n. followed_by (value (here t) high n) (λ b n. Done (record { low = a; high = b }) n)) first_bound.0
      (λ a one. quiet_then now One Both (value (here t) high (at mid)) (λ b n. Done (record { low = a; high = b }) n) second_bound.0 (λ b other_one. (refl, (one, other_one)))) in
      subst (λ z. LeadsHere z (steps.evaluated t (steps.bounds t low high (at ws)) f)) (sym all)
      (then_started x f starts scalar facts good (steps.bounds t low high (at ws)) q)
