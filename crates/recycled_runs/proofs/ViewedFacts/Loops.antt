-- Facts without an element stay exact in output, input and the iterations of loops, which change scalar places at most.
use Rattle.std.proofs.Common.{◌≡◌, refl, sym, ap, ◌∙◌, subst, inl, inr, ℕ, ◌+◌, Bool, true, false, List, [], ◌∷◌, ◌++◌, take, drop, length, append-nil, ℤ, Option, Some, None, if◌then◌else◌}
use Rattle.recycled_runs.proofs.ViewedFacts.Steps.{IsAway, IsOthers, of_others}
use Rattle.std.specs.Prelude as int
use Rattle.machine.specs.spark_base.declared.position.Pos.{Pos}
use Rattle.machine.specs.place_names.declared.act.Act.{Act}
use Rattle.machine.specs.place_names.declared.act.Act.TheVariants as act
use Rattle.machine.specs.place_names.declared.act.Mode.TheVariants as mode
use Rattle.machine.specs.place_names.declared.fact.Fact.{Fact}
use Rattle.machine.specs.place_names.Names.{Name as PlaceName}
use Rattle.machine.specs.place_names.Rules.{breaks_O3}
use Rattle.machine.specs.place_names.Facts.{effect}
use Rattle.machine.specs.type_definitions.Types.{shape_of, words, is_scalar, full}
use Rattle.machine.specs.typed_tree.Trees.{TypedTree, Name, NoMore, More}
use Rattle.machine.specs.flow_paths.declared.point.LeakSpot.{LeakSpot}
use Rattle.machine.specs.flow_paths.Objects.{Typing, object_at}
use Rattle.machine.specs.flow_paths.Names.{name_of, waiting as waits_in}
use Rattle.machine.specs.flow_paths.Scopes.{taken}
use Rattle.machine.specs.flow_paths.Acts.{acts_in, source_acts}
use Rattle.kept_cells.specs.run_values.declared.items.Item.{Item}
use Rattle.kept_cells.specs.run_values.declared.items.Item.TheVariants as item
use Rattle.kept_cells.specs.run_values.Items.{next_item}
use Rattle.machine.specs.Words.{fits_type}
use Rattle.machine.specs.Words as machine
use Rattle.machine.specs.Memory.{Memory, Place, Slot, fresh, variable_slots, words_of, declared, undeclared, stored}
use Rattle.machine.specs.Evaluate.{Now, AsValue, Evaluated, Done, Raises, Traps, followed_by, value, place_of, variable_place, walked, steps_of, text_of}
use Rattle.machine.specs.Evaluate as run
use Rattle.machine.specs.States.{Waiting, Outcome, Goes}
use Rattle.machine.specs.Step.{Turn, typing, here, waiting, behind}
use Rattle.machine.specs.Step as steps
use Rattle.machine.specs.Owners.{waiting_in}
use Rattle.soundness.specs.OwnedWays.Ways.{OfVariable, Way, Object, Named, Allows, after, AllowsAll, number_of, Reaches}
use Rattle.soundness.specs.OwnedWays.Ways as ways
use Rattle.soundness.specs.PartOffsets.Parts.{IsSettled}
use Rattle.soundness.specs.Seen.{seen, home, IsNear, is_view_formal}
use Rattle.soundness.specs.Typed.{OwnsByShape}
use Rattle.soundness.specs.TypedLaws.Needed.{Stays, Leads, Writes}
use Rattle.soundness.proofs.Contents.{bool_cases}
use Rattle.soundness.proofs.Memories.{put_other, removed_other}
use Rattle.soundness.proofs.Walks.{way_along, Walked}
use Rattle.soundness.proofs.Steps.{plain_shape}
use Rattle.soundness.proofs.Scalars.{acts, acts_append, after_append, allows_both, number_along, named_along}
use Rattle.soundness.proofs.Taking.{Takes}
use Rattle.soundness.proofs.Stays.{Quiet, Any, One, quiet_then, quiet_from}
use Rattle.soundness.proofs.Numbers.{index_law}
use Rattle.soundness.proofs.Lasting.{keeps}
use Rattle.soundness.proofs.Freeing.{switched}
use Rattle.soundness.proofs.Loops.{scalar_same}
use Rattle.soundness.specs.OwnedLoans.Views.{Around, Views, expand}
use Rattle.soundness.proofs.OwnedLoans.Allowed.{write_open}
use Rattle.soundness.specs.OwnedWays.Ways.{Loc}
use Rattle.soundness.specs.ViewedSoundness.Holds.{PartsAreNamed, IsOwners, Seeing}
use Rattle.soundness.proofs.ViewedSoundness.Names.{Starts as StartsAt, changed_owners}
use Rattle.soundness.proofs.ViewedSoundness.Stays.{Goes as GoesAlong, name_quiet, taking, steps_taking}
use Rattle.soundness.proofs.ViewedSoundness.Evaluated.{Ready, live_trunk, blank_ready}
use Rattle.soundness.proofs.ViewedSoundness.Outcomes.{IsGood, start_is, live}
use Rattle.viewed_steps.proofs.Rounds.{Starts, text_quiet}
use Rattle.viewed_steps.proofs.Read.{Gets}
use Rattle.recycled_runs.specs.ViewedFacts.Exact.{IsExact}
use Rattle.recycled_runs.proofs.ViewedFacts.Memories.{stored_exact}
use Rattle.recycled_runs.proofs.ViewedFacts.Instructions.{ExactOn, same_exact}
use Rattle.viewed_steps.proofs.Views.{AreAccess, scalar_no_view, formal_view}
use Rattle.soundness.proofs.Parted.{int_cell}

module _ (t : Turn) (sees : ℕ → Bool) (seeing : Seeing (typing t) sees) (settled : IsSettled (typing t).table) (own_law : OwnsByShape (typing t).table) (other : Around (home (typing t) (length t.outer)))
    (alone : (w : Way) → IsNear (length t.outer) w → other.gone w → ⊥) (in_formals : AreAccess (typing t))
    (v : Views) (parts_named : PartsAreNamed (typing t).table) (may : ℕ → ℕ → Type 0)
    (frames : t.state.frames ≡ t.frame ∷ t.outer) (none : taken t.point.instr ≡ 0)
    (elsewhere : Way → Type 0) (away : (w : Way) → elsewhere w → IsAway (typing t) (length t.outer) other w) (Excused : LeakSpot → Type 0) where
  abbrev s : Typing
  s = typing t

  abbrev depth : ℕ
  depth = length t.outer

  abbrev hands : List Waiting
  hands = waiting_in t.state

  abbrev m : Memory
  m = t.state.memory

  abbrev now : Now
  now = record { memory = t.state.memory; waits = [] }

  abbrev Good : List Fact → Type 0
  Good facts = IsGood t sees seeing settled own_law other alone v parts_named may frames none v facts t.state

  abbrev Exact : Memory → List Fact → Type 0
  Exact n facts = IsExact s (home s depth) v elsewhere n facts

  abbrev ExactHere : List Fact → Outcome → Type 0
  ExactHere facts outcome = ExactOn t sees seeing settled own_law other alone in_formals v parts_named may frames none elsewhere away Excused facts [] outcome

  away_from : (w : Way) → elsewhere w → IsOthers (home s depth) other w
  away_from w e = of_others s depth other w (away w e)

  -- before these values are taken
  abbrev at : List (List machine.Word) → Now
  at ws = record { memory = t.state.memory; waits = ws }

  -- ---- iterations

  next_by : (x : ℕ) → is_scalar (full s.table (object_at s x).of) ≡ true → (facts : List Fact) → Good facts → Exact m facts
      → (ws : List machine.Word) (i : Option ℤ) → ExactHere facts (steps.turned_to t x (variable_place (here t) x) ws i)
  next_by x scalar facts good exact ws (Some i) =
      let k : Place = variable_place (here t) x in
      let f : ℕ = home s depth x in
      let value : List machine.Word = steps.parameter_words ws i in
      let all : List Slot = variable_slots s f x m.variables in
      let slots : List Slot = take 0 all ++ fresh value ++ drop (0 + length (fresh value)) all in
      let next : Memory = stored s k value m in (
        same_exact t sees seeing settled own_law other alone in_formals v parts_named may frames none elsewhere away Excused next facts good
            (scalar_same s settled m hands t.state.leaks f x scalar next.variables (λ g y ne. put_other s f x g y ne slots m.variables)) exact,
        tt,
      )
  next_by x scalar facts good exact ws None =
      let next : Memory = undeclared depth x m in (
        same_exact t sees seeing settled own_law other alone in_formals v parts_named may frames none elsewhere away Excused next facts good
            (scalar_same s settled m hands t.state.leaks depth x scalar next.variables (λ g y ne. removed_other s depth x g y ne m.variables)) exact,
        tt,
      )

  pub next_exact : (x : ℕ) (reversed : Bool) → is_scalar (full s.table (object_at s x).of) ≡ true → (facts : List Fact) → Good facts → Exact m facts
      → ExactHere facts (steps.next_turn t x reversed)
  next_exact x reversed scalar facts good exact =
      let ws : List machine.Word = words_of s m (variable_place (here t) x) in
      next_by x scalar facts good exact ws (steps.next_value reversed (steps.loop_of x t.frame.loops) (steps.number ws))

  -- ---- the start

  abbrev Both : steps.Bounds → Type 0
  Both b = One b.low × One b.high

  then_started : (x : ℕ) (f : steps.Bounds → Memory → Outcome) → Starts t sees seeing settled own_law other alone in_formals v parts_named may frames none x f
      → is_scalar (full s.table (object_at s x).of) ≡ true → (facts : List Fact) → Good facts → Exact m facts
      → (y : Evaluated steps.Bounds) → Quiet now Both y → ExactHere facts (steps.evaluated t y f)
  then_started x f starts scalar facts good exact (Done b n) (same, both) =
      let next : Memory = declared depth x b.low m in
      subst (λ (z : Now). ExactHere facts (f b z.memory)) (sym same) (elim (bool_cases (starts.fails b)) [
        | inl e ↦ subst (ExactHere facts) (sym (starts.at_fault b m e)) tt
        | inr e ↦ subst (ExactHere facts) (sym (starts.at_turn b m e)) (
          same_exact t sees seeing settled own_law other alone in_formals v parts_named may frames none elsewhere away Excused next facts good
              (scalar_same s settled m hands t.state.leaks depth x scalar next.variables (λ g y ne. put_other s depth x g y ne (fresh b.low) m.variables)) exact,
          tt,
        )
      ])
  then_started x f starts scalar facts good exact (Raises e n) is = tt
  then_started x f starts scalar facts good exact (Traps e n) never = tt

  pub started_on : (ws mid : List (List machine.Word)) (x : ℕ) (f : steps.Bounds → Memory → Outcome) (low high : TypedTree)
      → Starts t sees seeing settled own_law other alone in_formals v parts_named may frames none x f
      → is_scalar (full s.table (object_at s x).of) ≡ true
      → Stays s low → Stays s high → Takes (waits_in low) ws mid → Takes (waits_in high) mid [] → (facts : List Fact) → Good facts
      → AllowsAll facts (acts (acts_in s low ++ acts_in s high)) → Exact m facts
      → ExactHere (after (acts (acts_in s low ++ acts_in s high)) facts) (steps.evaluated t (steps.bounds t low high (at ws)) f)
  started_on ws mid x f low high starts scalar stays stays' takes takes' facts good allowed exact =
      let each = allows_both facts (acts (acts_in s low)) (acts (acts_in s high)) (subst (AllowsAll facts) (acts_append (acts_in s low) (acts_in s high)) allowed) in
      let alive = live t sees seeing settled own_law other alone v parts_named may frames none facts good in
      let first_bound = taking (here t) sees seeing settled hands t.state.leaks m [] other facts v good.kept good.viewed good.holds alone alive index_law own_law parts_named AsValue low stays ws mid takes each.0 in
      let second_bound = taking (here t) sees seeing settled hands t.state.leaks m [] other facts v good.kept good.viewed good.holds alone alive index_law own_law parts_named AsValue high stays' mid [] takes'
      (subst (λ z. AllowsAll z (acts (acts_in s high))) first_bound.1 each.1) in
      let all : after (acts (acts_in s low ++ acts_in s high)) facts ≡ facts =
      ap (λ z. after z facts) (acts_append (acts_in s low) (acts_in s high)) ∙ after_append (acts (acts_in s low)) (acts (acts_in s high)) facts
      ∙ ap (after (acts (acts_in s high))) first_bound.1 ∙ second_bound.1 in
      let q : Quiet now Both (steps.bounds t low high (at ws)) =
      quiet_from (at mid) now One Both refl (value (here t) low (at ws)) (λ a n. followed_by (value (here t) high n) (λ b n. Done (record { low = a; high = b }) n)) first_bound.0
      (λ a one. quiet_then now One Both (value (here t) high (at mid)) (λ b n. Done (record { low = a; high = b }) n) second_bound.0 (λ b other_one. (refl, (one, other_one)))) in
      subst (λ z. ExactHere z (steps.evaluated t (steps.bounds t low high (at ws)) f)) (sym all)
      (then_started x f starts scalar facts good exact (steps.bounds t low high (at ws)) q)

  -- ---- output, of a text that changes nothing

  written_exact : (facts : List Fact) → Exact m facts → (line : Bool) (y : Evaluated (List ℕ)) → Quiet now (Any {A = List ℕ}) y
      → ExactHere facts (steps.evaluated t y (λ bytes m. Goes (record (behind t (waiting t) m 0) {
        output = t.state.output ++ bytes ++ (if line then 10 ∷ [] else []);
      })))
  written_exact facts exact line (Done a n) (same, p) = (subst (λ (z : Now). Exact z.memory facts) (sym same) exact, tt)
  written_exact facts exact line (Raises e n) is = tt
  written_exact facts exact line (Traps e n) never = tt

  pub output_on : (ws : List (List machine.Word)) (e rest : TypedTree) (line : Bool) → rest ≡ NoMore → Writes s e → Takes (waits_in e) ws [] → (facts : List Fact)
      → Good facts → AllowsAll facts (acts (acts_in s (More e rest))) → Exact m facts
      → ExactHere (after (acts (acts_in s (More e rest))) facts) (steps.evaluated t (text_of (here t) e (at ws)) (λ bytes m. Goes (record (behind t (waiting t) m 0) {
        output = t.state.output ++ bytes ++ (if line then 10 ∷ [] else []);
      })))
  unfolding acts_in
  output_on ws e rest line last writes takes facts good allowed exact =
      let same : acts_in s e ++ acts_in s rest ≡ acts_in s e = ap (λ z. acts_in s e ++ acts_in s z) last ∙ append-nil (acts_in s e) in
      let q = text_quiet t sees seeing settled own_law other alone in_formals v parts_named may frames none ws [] e writes takes facts good (subst (λ z. AllowsAll facts (acts z)) same allowed) in
      subst (λ z. ExactHere z (steps.evaluated t (text_of (here t) e (at ws)) (λ bytes m. Goes (record (behind t (waiting t) m 0) {
        output = t.state.output ++ bytes ++ (if line then 10 ∷ [] else []);
      })))) (sym (ap (λ z. after (acts z) facts) same ∙ q.1)) (written_exact facts exact line (text_of (here t) e (at ws)) q.0)

  -- a line that ends without a text
  pub line_exact : (line : Bool) (facts : List Fact) → Exact m facts → ExactHere facts (steps.output t NoMore line)
  unfolding text_of
  line_exact line facts exact =
      subst (λ z. ExactHere facts (steps.evaluated t (Done [] z) (λ bytes m. Goes (record (behind t (waiting t) m 0) {
        output = t.state.output ++ bytes ++ (if line then 10 ∷ [] else []);
      })))) (sym (start_is t sees seeing settled own_law other alone v parts_named may frames none)) (written_exact facts exact line (Done [] now) (refl, tt))

  -- ---- input

  module _ (f : Place → Memory → Outcome) (gets : Gets t sees seeing settled own_law other alone in_formals v parts_named may frames none f) (facts : List Fact)
      (good : Good facts) (exact : Exact m facts) (u : ℕ) (scalar : is_scalar (full s.table u) ≡ true) (i : ℤ) where
    abbrev value_in : Waiting
    value_in = record { of = u; words = machine.Int i ∷ [] }

    ready_in : Ready (here t) sees seeing settled t.state.leaks [] other alone (keeps s settled own_law) index_law own_law v parts_named m (value_in ∷ hands) facts
    ready_in = blank_ready (here t) sees seeing settled t.state.leaks [] other alone (keeps s settled own_law) index_law own_law v parts_named
        m hands facts u (machine.Int i ∷ []) (λ k has. elim has [ inl e ↦ int_cell e | inr e ↦ e ])
        (record { viewed = good.viewed; kept = good.kept; holds = good.holds })

    module _ (w : Way) (named : Named (home s depth) w) (plain : sees (number_of w) ≡ false) (allowed : Allows facts (act.Write (ways.name_of w)))
        (owners : (l : Loc) → Reaches (seen s m (value_in ∷ hands) t.state.leaks) (expand v w) l → IsOwners s (expand v w)) where
      abbrev behind_it : List Fact
      behind_it = effect (act.Write (ways.name_of w)) facts

      got_at : (y : Evaluated Place) → Walked s settled (value_in ∷ hands) t.state.leaks m [] (expand v w) u y
          → (end : ℕ) → next_item t.input t.state.at ≡ item.Number i end → ExactHere behind_it (steps.evaluated t y f)
      got_at (Raises e n) is end next = tt
      got_at (Traps e n) never end next = tt
      got_at (Done k n) (l, same, place, reaches, of) end next =
          subst (λ (z : Now). ExactHere behind_it (f k z.memory)) (sym same)
          (elim (bool_cases (fits_type s.table k.of (machine.Int i ∷ []))) [
            | inr out ↦ subst (ExactHere behind_it) (sym (gets.at_outside k m i end next out)) tt
            | inl fits ↦ (
                let long : 1 ≡ words s.table k.of = sym (ap (words s.table) of ∙ settled.word_law u ∙ (plain_shape (shape_of s.table u) scalar).3 (words s.table)) in
                let owns = live_trunk (here t) sees seeing settled t.state.leaks [] other alone (keeps s settled own_law) index_law own_law v parts_named m (value_in ∷ hands)
                ready_in.viewed.owned (expand v w) l (owners l reaches) reaches in
                subst (ExactHere behind_it) (sym (gets.at_number k m i end next fits)) (
                  stored_exact s settled (home s depth) sees other v elsewhere away_from m value_in hands t.state.leaks facts k l w t.point.pos ready_in.viewed ready_in.kept
                      place named plain reaches owns allowed long (inl (ap (shape_of s.table) (sym of))) exact,
                  tt,
                ))
          ])

      -- where there is no number
      got_none : ((k : Place) (memory : Memory) → (e : run.Exception) × (f k memory ≡ steps.raised t e memory)) → (y : Evaluated Place)
          → ExactHere behind_it (steps.evaluated t y f)
      got_none next (Raises e n) = tt
      got_none next (Traps e n) = tt
      got_none next (Done k n) = subst (ExactHere behind_it) (sym (next k n.memory).1) tt

      by_item : (it : Item) → next_item t.input t.state.at ≡ it → ((j : ℤ) (end : ℕ) → it ≡ item.Number j end → j ≡ i) → (y : Evaluated Place)
          → Walked s settled (value_in ∷ hands) t.state.leaks m [] (expand v w) u y → ExactHere behind_it (steps.evaluated t y f)
      by_item item.Missing e mine y is = got_none (λ k memory. (run.EndError, gets.at_missing k memory e)) y
      by_item item.Bad e mine y is = got_none (λ k memory. (run.DataError, gets.at_bad k memory e)) y
      by_item (item.Number j end) e mine y is = got_at y is end (e ∙ ap (λ z. item.Number z end) (mine j end refl))

    -- a formal that owns nothing isn't of a scalar type
    whole : (x : ℕ) (path : TypedTree) (way : List run.Step) → GoesAlong s.table (object_at s x).of u path way → is_view_formal s x ≡ true → way ≡ [] → ⊥
    whole x path way along formal none =
        scalar_no_view s sees in_formals x
        (subst (λ z. is_scalar (full s.table z) ≡ true) (sym (subst (λ z. StartsAt s.table (object_at s x).of z u) none along.lead)) scalar) (formal_view s x formal)

    -- the steps of the name are evaluated
    then_got : (x : ℕ) (path : TypedTree) → sees x ≡ false → Allows facts (act.Write (name_of x path)) → (it : Item) → next_item t.input t.state.at ≡ it
        → ((j : ℤ) (end : ℕ) → it ≡ item.Number j end → j ≡ i) → (y : Evaluated (List run.Step)) → Quiet now (λ way. GoesAlong s.table (object_at s x).of u path way) y
        → ExactHere (effect (act.Write (name_of x path)) facts) (steps.evaluated t (followed_by y (λ way now. walked s way (variable_place (here t) x) now)) f)
    then_got x path plain allowed it next mine (Done way n) (same, goes) =
        let w : Way = way_along way (Object (OfVariable (home s depth x) x)) in
        let named : Named (home s depth) w = named_along (home s depth) way (Object (OfVariable (home s depth x) x)) refl in
        let called : ways.name_of w ≡ name_of x path = (λ j. record {
          root = number_along way (Object (OfVariable (home s depth x) x)) j;
          sels = goes.sels (Object (OfVariable (home s depth x) x)) j;
        }) in
        subst (λ (z : Now). ExactHere (effect (act.Write (name_of x path)) facts) (steps.evaluated t (walked s way (variable_place (here t) x) z) f)) (sym same)
        (subst (λ z. ExactHere (effect (act.Write z) facts) (steps.evaluated t (walked s way (variable_place (here t) x) now) f)) called
        (by_item w named (ap sees (number_along way (Object (OfVariable (home s depth x) x))) ∙ plain)
        (subst (λ z. Allows facts (act.Write z)) (sym called) allowed)
        (λ l reaches. changed_owners (here t) sees seeing settled (value_in ∷ hands) t.state.leaks m [] other facts v ready_in.kept ready_in.viewed ready_in.holds alone
        (live_trunk (here t) sees seeing settled t.state.leaks [] other alone (keeps s settled own_law) index_law own_law v parts_named m (value_in ∷ hands) ready_in.viewed.owned)
        x u way plain (whole x path way goes) goes.lead l reaches) it next mine
        (walked s way (variable_place (here t) x) now)
        (name_quiet (here t) sees seeing settled (value_in ∷ hands) t.state.leaks m [] other facts v ready_in.kept ready_in.viewed ready_in.holds alone
        (live_trunk (here t) sees seeing settled t.state.leaks [] other alone (keeps s settled own_law) index_law own_law v parts_named m (value_in ∷ hands) ready_in.viewed.owned)
        index_law own_law parts_named x path u way goes (λ q q_named q_called. write_open facts q (subst (λ z. Allows facts (act.Write z)) (sym q_called) allowed)))))
    then_got x path plain allowed it next mine (Raises e n) is = tt
    then_got x path plain allowed it next mine (Traps e n) never = tt

  abbrev out_act : PlaceName → Act
  out_act name = act.Actual name mode.Out false false

  pub got_on : (ws : List (List machine.Word)) (f : Place → Memory → Outcome) (p : Pos) (x u : ℕ) (path : TypedTree)
      → Gets t sees seeing settled own_law other alone in_formals v parts_named may frames none f
      → is_scalar (full s.table u) ≡ true → Leads s (object_at s x).of path u → Takes (waits_in path) ws [] → sees x ≡ false → (facts : List Fact) → Good facts
      → AllowsAll facts (acts (source_acts s (Name p x path u) out_act)) → Exact m facts
      → ExactHere (after (acts (source_acts s (Name p x path u) out_act)) facts) (steps.evaluated t (place_of (here t) (Name p x path u) (at ws)) f)
  got_on ws f p x u path gets scalar lead takes plain facts good allowed exact =
      let b : List Act = acts (acts_in s path) in
      let whole_acts : acts (source_acts s (Name p x path u) out_act) ≡ b ++ (out_act (name_of x path) ∷ []) =
      acts_append (acts_in s path) (record { pos = p; act = out_act (name_of x path) } ∷ []) in
      let each = allows_both facts b (out_act (name_of x path) ∷ []) (subst (AllowsAll facts) whole_acts allowed) in
      let inner = steps_taking (here t) sees seeing settled hands t.state.leaks m [] other facts v good.kept good.viewed good.holds alone
      (live t sees seeing settled own_law other alone v parts_named may frames none facts good) index_law own_law parts_named (object_at s x).of u path lead ws [] takes each.0 in
      let actual : Allows facts (out_act (name_of x path)) = subst (λ z. Allows z (out_act (name_of x path))) inner.1 each.1.0 in
      let writes : Allows facts (act.Write (name_of x path)) = (λ g has. switched (breaks_O3 (name_of x path) g) _ _ (actual g has)) in
      let behind_acts : after (acts (source_acts s (Name p x path u) out_act)) facts ≡ effect (act.Write (name_of x path)) facts =
      ap (λ z. after z facts) whole_acts ∙ after_append b (out_act (name_of x path) ∷ []) facts ∙ ap (effect (act.Write (name_of x path))) inner.1 in
      subst (λ z. ExactHere z (steps.evaluated t (place_of (here t) (Name p x path u) (at ws)) f)) (sym behind_acts)
      (by_number writes inner.0 (next_item t.input t.state.at) refl)
    where
      by_number : Allows facts (act.Write (name_of x path))
          → Quiet now (λ way. GoesAlong s.table (object_at s x).of u path way) (steps_of (here t) path (at ws))
          → (it : Item) → next_item t.input t.state.at ≡ it
          → ExactHere (effect (act.Write (name_of x path)) facts) (steps.evaluated t (place_of (here t) (Name p x path u) (at ws)) f)
      by_number writes q item.Missing e =
          then_got f gets facts good exact u scalar (int.pos 0) x path plain writes item.Missing e (λ j end is. cc) (steps_of (here t) path (at ws)) q
      by_number writes q item.Bad e =
          then_got f gets facts good exact u scalar (int.pos 0) x path plain writes item.Bad e (λ j end is. cc) (steps_of (here t) path (at ws)) q
      by_number writes q (item.Number i end) e =
          then_got f gets facts good exact u scalar i x path plain writes (item.Number i end) e (λ j last is. cc) (steps_of (here t) path (at ws)) q
