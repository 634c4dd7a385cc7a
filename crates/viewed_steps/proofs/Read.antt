-- Input: a number is stored at a scalar place.
use Rattle.std.proofs.Common.{◌≡◌, refl, sym, ap, ◌∙◌, subst, ◌⊎◌, inl, inr, ℕ, Bool, true, false, List, [], ◌∷◌, ◌++◌, flat_map, length, append-nil, ℤ}
use Rattle.std.specs.Prelude as int
use Rattle.std.proofs.lemmas.Bool.{false≢true}
use Rattle.machine.specs.spark_base.declared.position.Pos.{Pos}
use Rattle.machine.specs.place_names.declared.act.Act.{Act}
use Rattle.machine.specs.place_names.declared.act.Act.TheVariants as act
use Rattle.machine.specs.place_names.declared.act.Mode.TheVariants as mode
use Rattle.machine.specs.place_names.declared.fact.Fact.{Fact}
use Rattle.machine.specs.place_names.Names.{Name as PlaceName}
use Rattle.machine.specs.place_names.Rules.{breaks_O3}
use Rattle.machine.specs.place_names.Facts.{effect}
use Rattle.machine.specs.type_definitions.declared.table.Shape.TheVariants as shape
use Rattle.machine.specs.type_definitions.Types.{Table, shape_of, words, parts, is_scalar, full, view_of as view_of_shape}
use Rattle.machine.specs.typed_tree.Trees.{TypedTree, Name}
use Rattle.machine.specs.flow_paths.Objects.{Typing, object_at}
use Rattle.machine.specs.flow_paths.Names.{waiting as waits_in, name_of}
use Rattle.machine.specs.flow_paths.Scopes.{taken}
use Rattle.machine.specs.flow_paths.Acts.{acts_in, source_acts}
use Rattle.soundness.specs.run_values.declared.items.Item.{Item}
use Rattle.soundness.specs.run_values.declared.items.Item.TheVariants as item
use Rattle.soundness.specs.run_values.Items.{next_item}
use Rattle.machine.specs.Words.{fits_type}
use Rattle.machine.specs.Words as machine
use Rattle.machine.specs.Memory.{Memory, Place, slots_at, stored}
use Rattle.machine.specs.Evaluate.{Now, Evaluated, Done, Raises, Traps, followed_by, place_of, variable_place, walked, steps_of}
use Rattle.machine.specs.Evaluate as run
use Rattle.machine.specs.Calls.{checked_at}
use Rattle.machine.specs.States.{Waiting, Outcome, Goes}
use Rattle.machine.specs.Step.{Turn, typing, here, waiting, goes, behind}
use Rattle.machine.specs.Step as steps
use Rattle.machine.specs.Owners.{waiting_in}
use Rattle.soundness.specs.OwnedWays.Ways.{OfVariable, OfHand, Loc, Way, Object, Reaches, Named, Allows, after, AllowsAll, number_of}
use Rattle.soundness.specs.OwnedWays.Ways as ways
use Rattle.soundness.specs.PartOffsets.Parts.{IsSettled}
use Rattle.soundness.specs.Seen.{IsNear, is_view_formal, content, trunk, seen, home}
use Rattle.soundness.specs.Changes.{leaks_at}
use Rattle.soundness.specs.Typed.{Matches, OwnsByShape, Spot}
use Rattle.soundness.specs.TypedLaws.Needed.{Leads}
use Rattle.soundness.proofs.Near.{near_under}
use Rattle.soundness.proofs.Contents.{bool_cases}
use Rattle.soundness.proofs.Walks.{way_along, Walked}
use Rattle.soundness.proofs.Steps.{plain_shape}
use Rattle.soundness.proofs.Scalars.{acts, acts_append, after_append, allows_both, number_along, named_along}
use Rattle.soundness.proofs.Stays.{Quiet}
use Rattle.soundness.proofs.Taking.{Takes}
use Rattle.soundness.proofs.Numbers.{index_law}
use Rattle.soundness.proofs.Lasting.{keeps, put_away}
use Rattle.soundness.proofs.Freeing.{plain_parts, switched}
use Rattle.soundness.specs.OwnedLoans.Views.{Around, Views, expand, Viewed}
use Rattle.soundness.proofs.OwnedLoans.Allowed.{write_open}
use Rattle.soundness.specs.ViewedSoundness.Holds.{IsNamed, PartsAreNamed, IsOwners, Seeing}
use Rattle.soundness.proofs.ViewedSoundness.Names.{Starts, is_place, changed_owners}
use Rattle.soundness.proofs.ViewedSoundness.Stays.{Goes as GoesAlong, steps_taking, name_quiet}
use Rattle.soundness.proofs.ViewedSoundness.Moments.{stored_viewed}
use Rattle.soundness.proofs.ViewedSoundness.Evaluated.{Ready, blank_ready, live_trunk}
use Rattle.soundness.proofs.ViewedSoundness.Stored.{holds_stored, no_view_place}
use Rattle.soundness.proofs.ViewedSoundness.Outcomes.{IsGood, Leads_on, raises, unturned, goes_to, live}
use Rattle.viewed_steps.proofs.Views.{AreAccess, scalar_no_view, formal_view}
use Rattle.soundness.proofs.Parted.{int_cell}

-- a scalar type isn't anonymous
pub scalar_named : (table : Table) (u : ℕ) → is_scalar (full table u) ≡ true → IsNamed table u
scalar_named table u scalar d c n is = absurd (not_scalar d c n (sym (ap (λ z. is_scalar (view_of_shape z)) is) ∙ scalar))
  where
    not_scalar : (d : ℕ) (c n : Bool) → is_scalar (view_of_shape (shape.Access d c n)) ≡ true → ⊥
    not_scalar d c n e = absurd (false≢true e)

module _ (t : Turn) (sees : ℕ → Bool) (seeing : Seeing (typing t) sees) (settled : IsSettled (typing t).table) (own_law : OwnsByShape (typing t).table) (other : Around (home (typing t) (length t.outer)))
    (alone : (w : Way) → IsNear (length t.outer) w → other.gone w → ⊥) (in_formals : AreAccess (typing t))
    (v : Views) (parts_named : PartsAreNamed (typing t).table) (may : ℕ → ℕ → Type 0)
    (frames : t.state.frames ≡ t.frame ∷ t.outer) (none : taken t.point.instr ≡ 0) where
  abbrev s : Typing
  s = typing t

  abbrev depth : ℕ
  depth = length t.outer

  abbrev hands : List Waiting
  hands = waiting_in t.state

  abbrev m : Memory
  m = t.state.memory

  abbrev now : Now
  now = record { memory = t.state.memory; waits = [] }

  -- with these values, which the instruction takes
  abbrev at : List (List machine.Word) → Now
  at ws = record { memory = m; waits = ws }

  abbrev Good : List Fact → Type 0
  Good facts = IsGood t sees seeing settled own_law other alone v parts_named may frames none v facts t.state

  abbrev LeadsHere : List Fact → Outcome → Type 0
  LeadsHere facts outcome = Leads_on t sees seeing settled own_law other alone v parts_named may frames none facts outcome

  -- what an input does at the place, by the next item
  pub record Gets (f : Place → Memory → Outcome) : Type 0 where
    pub at_missing : (k : Place) (m : Memory) → next_item t.input t.state.at ≡ item.Missing → f k m ≡ steps.raised t run.EndError m
    pub at_bad : (k : Place) (m : Memory) → next_item t.input t.state.at ≡ item.Bad → f k m ≡ steps.raised t run.DataError m
    pub at_number : (k : Place) (m : Memory) (i : ℤ) (end : ℕ) → next_item t.input t.state.at ≡ item.Number i end
        → fits_type s.table k.of (machine.Int i ∷ []) ≡ true
        → f k m ≡ Goes (record (behind t (waiting t) (stored s k (machine.Int i ∷ []) m) 0) { at = end })
    pub at_outside : (k : Place) (m : Memory) (i : ℤ) (end : ℕ) → next_item t.input t.state.at ≡ item.Number i end
        → fits_type s.table k.of (machine.Int i ∷ []) ≡ false → f k m ≡ steps.raised t run.ConstraintError m

  raised_here : (facts : List Fact) → Good facts → (e : run.Exception) (m : Memory) → LeadsHere facts (steps.raised t e m)
  raised_here facts good e m = (λ trap. trap, raises t sees seeing settled own_law other alone v parts_named may frames none facts good m)

  module _ (f : Place → Memory → Outcome) (gets : Gets f) (facts : List Fact) (good : Good facts) (u : ℕ)
      (scalar : is_scalar (full s.table u) ≡ true) (i : ℤ) where
    abbrev value_in : Waiting
    value_in = record { of = u; words = machine.Int i ∷ [] }

    abbrev ReadyIn : Type 0
    ReadyIn = Ready (here t) sees seeing settled t.state.leaks [] other alone (keeps s settled own_law) index_law own_law v parts_named m (value_in ∷ hands) facts

    ready_in : ReadyIn
    ready_in = blank_ready (here t) sees seeing settled t.state.leaks [] other alone (keeps s settled own_law) index_law own_law v parts_named
        m hands facts u (machine.Int i ∷ []) (λ k has. elim has [ inl e ↦ int_cell e | inr e ↦ e ])
        (record { viewed = good.viewed; kept = good.kept; holds = good.holds })

    alive_trunk : (w : Way) (l : Loc) → IsOwners s w → Reaches (seen s m (value_in ∷ hands) t.state.leaks) w l → (content s m (value_in ∷ hands) (trunk l)).owns ≡ true
    alive_trunk = live_trunk (here t) sees seeing settled t.state.leaks [] other alone (keeps s settled own_law) index_law own_law v parts_named m (value_in ∷ hands)
        ready_in.viewed.owned

    -- a scalar place has no leak checks
    no_leaks : (pos : Pos) (k : Place) → k.of ≡ u → leaks_at s pos m k ≡ []
    no_leaks pos k of =
        let none : parts s.table k.of ≡ [] = ap (parts s.table) of ∙ settled.part_law u ∙ plain_parts (parts s.table) (shape_of s.table u) scalar in
        ap (λ z. checked_at pos k.at (slots_at s m k.base) (flat_map (machine.offsets s.table k.of) z)) none

    module _ (x : ℕ) (path : TypedTree) (way : List run.Step) (along : GoesAlong s.table (object_at s x).of u path way) (plain : sees x ≡ false)
        (allowed : Allows facts (act.Write (name_of x path))) where
      abbrev w : Way
      w = way_along way (Object (OfVariable (home s depth x) x))

      abbrev fs : List Fact
      fs = effect (act.Write (name_of x path)) facts

      named : Named (home s depth) w
      named = named_along (home s depth) way (Object (OfVariable (home s depth x) x)) refl

      called : ways.name_of w ≡ name_of x path
      called = (λ j. record {
        root = number_along way (Object (OfVariable (home s depth x) x)) j;
        sels = along.sels (Object (OfVariable (home s depth x) x)) j;
      })

      -- a formal that owns nothing isn't of a scalar type
      whole : is_view_formal s x ≡ true → way ≡ [] → ⊥
      whole formal none =
          scalar_no_view s sees in_formals x
          (subst (λ z. is_scalar (full s.table z) ≡ true) (sym (subst (λ z. Starts s.table (object_at s x).of z u) none along.lead)) scalar) (formal_view s x formal)

      seen_not : sees (number_of w) ≡ false
      seen_not = ap sees (number_along way (Object (OfVariable (home s depth x) x))) ∙ plain

      stores : (k : Place) (l : Loc) → Spot s m (value_in ∷ hands) k l → Reaches (seen s m (value_in ∷ hands) t.state.leaks) (expand v w) l → k.of ≡ u
          → LeadsHere fs (goes t (stored s k (machine.Int i ∷ []) m) 0)
      stores k l spot reaches of =
          let long : 1 ≡ words s.table k.of = sym (ap (words s.table) of ∙ settled.word_law u ∙ (plain_shape (shape_of s.table u) scalar).3 (words s.table)) in
          let like : Matches s.table u k.of = inl (ap (shape_of s.table) (sym of)) in
          let rooted = changed_owners (here t) sees seeing settled (value_in ∷ hands) t.state.leaks m [] other facts v ready_in.kept ready_in.viewed ready_in.holds alone alive_trunk
          x u way plain whole along.lead l reaches in
          let viewed = stored_viewed s settled (home s depth) sees other v m value_in hands t.state.leaks facts k l w t.point.pos ready_in.viewed
          (λ z b q o. alone b (near_under depth (Object (OfHand z)) b q tt) o) ready_in.kept spot named seen_not
          (is_place s v (home s depth x) x u way along.lead (scalar_named s.table u scalar) whole good.holds.only) reaches (alive_trunk (expand v w) l rooted reaches)
          (subst (λ z. Allows facts (act.Write z)) (sym called) allowed) long like in
          goes_to t sees seeing settled own_law other alone v parts_named may frames none (stored s k (machine.Int i ∷ []) m) 0 v fs
          (unturned t sees seeing settled own_law other alone v parts_named may frames none fs)
          (subst (λ z. Viewed (home s depth) sees other v (seen s (stored s k (machine.Int i ∷ []) m) hands t.state.leaks) (effect (act.Write z) facts)) called
          (subst (λ z. Viewed (home s depth) sees other v (seen s (stored s k (machine.Int i ∷ []) m) hands z) (effect (act.Write (ways.name_of w)) facts))
          (ap (λ z. t.state.leaks ++ z) (no_leaks t.point.pos k of) ∙ append-nil t.state.leaks) viewed))
          (put_away s settled m value_in hands k l ready_in.kept spot long like)
          (holds_stored (here t) sees seeing settled t.state.leaks [] other alone (keeps s settled own_law) index_law own_law v parts_named m k (machine.Int i ∷ [])
          (no_view_place (here t) sees seeing settled t.state.leaks [] other alone (keeps s settled own_law) index_law own_law v parts_named m (value_in ∷ hands) u k l
          (scalar_named s.table u scalar) of spot (alive_trunk (expand v w) l rooted reaches)) good.holds)

      got_at : (y : Evaluated Place) → Walked s settled (value_in ∷ hands) t.state.leaks m [] (expand v w) u y
          → (end : ℕ) → next_item t.input t.state.at ≡ item.Number i end → LeadsHere fs (steps.evaluated t y f)
      got_at (Raises e n) is end next = raised_here facts good e n.memory
      got_at (Traps e n) never end next = absurd never
      got_at (Done k n) (l, same, spot, reaches, of) end next =
          subst (λ (z : Now). LeadsHere fs (f k z.memory)) (sym same)
          (elim (bool_cases (fits_type s.table k.of (machine.Int i ∷ []))) [
            | inr out ↦ subst (LeadsHere fs) (sym (gets.at_outside k m i end next out)) (raised_here facts good run.ConstraintError m)
            | inl fits ↦ (
                let on = stores k l spot reaches of in
                subst (LeadsHere fs) (sym (gets.at_number k m i end next fits))
                (on.0, on.1, record { viewed = on.2.viewed; kept = on.2.kept; holds = record { held = on.2.holds.held; only = on.2.holds.only; owners = on.2.holds.owners; access = on.2.holds.access; own = on.2.holds.own; taken = on.2.holds.taken; parts = record { held = on.2.holds.parts.held; only = on.2.holds.parts.only; owners = on.2.holds.parts.owners; looks = on.2.holds.parts.looks } } }))
          ])

      -- where there is no number
      got_none : (next : ((k : Place) (m : Memory) → f k m ≡ steps.raised t run.EndError m) ⊎ ((k : Place) (m : Memory) → f k m ≡ steps.raised t run.DataError m))
          → (y : Evaluated Place) → Walked s settled (value_in ∷ hands) t.state.leaks m [] (expand v w) u y → LeadsHere fs (steps.evaluated t y f)
      got_none next (Raises e n) is = raised_here facts good e n.memory
      got_none next (Traps e n) never = absurd never
      got_none next (Done k n) is = elim next [
        | inl missing ↦ subst (LeadsHere fs) (sym (missing k n.memory)) (raised_here facts good run.EndError n.memory)
        | inr bad ↦ subst (LeadsHere fs) (sym (bad k n.memory)) (raised_here facts good run.DataError n.memory)
      ]

      by_item : (it : Item) → next_item t.input t.state.at ≡ it → (y : Evaluated Place) → Walked s settled (value_in ∷ hands) t.state.leaks m [] (expand v w) u y
          → ((j : ℤ) (end : ℕ) → it ≡ item.Number j end → j ≡ i) → LeadsHere fs (steps.evaluated t y f)
      by_item item.Missing e y is mine = got_none (inl (λ k m. gets.at_missing k m e)) y is
      by_item item.Bad e y is mine = got_none (inr (λ k m. gets.at_bad k m e)) y is
      by_item (item.Number j end) e y is mine = got_at y is end (e ∙ ap (λ z. item.Number z end) (mine j end refl))

    -- the steps of the name are evaluated
    then_got : (x : ℕ) (path : TypedTree) → sees x ≡ false → Allows facts (act.Write (name_of x path)) → (it : Item) → next_item t.input t.state.at ≡ it
        → ((j : ℤ) (end : ℕ) → it ≡ item.Number j end → j ≡ i) → (y : Evaluated (List run.Step)) → Quiet now (λ way. GoesAlong s.table (object_at s x).of u path way) y
        → LeadsHere (effect (act.Write (name_of x path)) facts) (steps.evaluated t (followed_by y (λ way now. walked s way (variable_place (here t) x) now)) f)
    then_got x path plain allowed it next mine (Done way n) (same, goes) =
        subst (λ (z : Now). LeadsHere (effect (act.Write (name_of x path)) facts) (steps.evaluated t (walked s way (variable_place (here t) x) z) f)) (sym same)
        (by_item x path way goes plain allowed it next (walked s way (variable_place (here t) x) now)
        (name_quiet (here t) sees seeing settled (value_in ∷ hands) t.state.leaks m [] other facts v ready_in.kept ready_in.viewed ready_in.holds alone alive_trunk index_law own_law parts_named
        x path u way goes (λ q q_named q_called. write_open facts q (subst (λ z. Allows facts (act.Write z)) (sym q_called) allowed))) mine)
    then_got x path plain allowed it next mine (Raises e n) is = raised_here facts good e n.memory
    then_got x path plain allowed it next mine (Traps e n) never = absurd never

  abbrev out_act : PlaceName → Act
  out_act name = act.Actual name mode.Out false false

  pub got_on : (ws : List (List machine.Word)) (f : Place → Memory → Outcome) (p : Pos) (x u : ℕ) (path : TypedTree) → Gets f → is_scalar (full s.table u) ≡ true
      → Leads s (object_at s x).of path u → Takes (waits_in path) ws [] → sees x ≡ false → (facts : List Fact) (good : Good facts)
      → AllowsAll facts (acts (source_acts s (Name p x path u) out_act))
      → LeadsHere (after (acts (source_acts s (Name p x path u) out_act)) facts) (steps.evaluated t (place_of (here t) (Name p x path u) (at ws)) f)
  got_on ws f p x u path gets scalar lead takes plain facts good allowed =
      let b : List Act = acts (acts_in s path) in
      let whole_acts : acts (source_acts s (Name p x path u) out_act) ≡ b ++ (out_act (name_of x path) ∷ []) =
      acts_append (acts_in s path) (record { pos = p; act = out_act (name_of x path) } ∷ []) in
      let each = allows_both facts b (out_act (name_of x path) ∷ []) (subst (AllowsAll facts) whole_acts allowed) in
      let inner = steps_taking (here t) sees seeing settled hands t.state.leaks m [] other facts v good.kept good.viewed good.holds alone
      (live t sees seeing settled own_law other alone v parts_named may frames none facts good) index_law own_law parts_named (object_at s x).of u path lead ws [] takes each.0 in
      let actual : Allows facts (out_act (name_of x path)) = subst (λ z. Allows z (out_act (name_of x path))) inner.1 each.1.0 in
      let writes : Allows facts (act.Write (name_of x path)) = (λ g has. switched (breaks_O3 (name_of x path) g) _ _ (actual g has)) in
      let behind_acts : after (acts (source_acts s (Name p x path u) out_act)) facts ≡ effect (act.Write (name_of x path)) facts =
      ap (λ z. after z facts) whole_acts ∙ after_append b (out_act (name_of x path) ∷ []) facts ∙ ap (effect (act.Write (name_of x path))) inner.1 in
      subst (λ z. LeadsHere z (steps.evaluated t (place_of (here t) (Name p x path u) (at ws)) f)) (sym behind_acts)
      (by_item writes inner.0 (next_item t.input t.state.at) refl)
    where
      no_number : (i : ℤ) (it : Item) → ((j : ℤ) (end : ℕ) → it ≡ item.Number j end → ⊥) → (j : ℤ) (end : ℕ) → it ≡ item.Number j end → j ≡ i
      no_number i it not j end e = absurd (not j end e)

      by_item : Allows facts (act.Write (name_of x path))
          → Quiet now (λ way. GoesAlong s.table (object_at s x).of u path way) (steps_of (here t) path (at ws))
          → (it : Item) → next_item t.input t.state.at ≡ it
          → LeadsHere (effect (act.Write (name_of x path)) facts) (steps.evaluated t (place_of (here t) (Name p x path u) (at ws)) f)
      by_item writes q item.Missing e =
          then_got f gets facts good u scalar (int.pos 0) x path plain writes item.Missing e (λ j end is. cc) (steps_of (here t) path (at ws)) q
      by_item writes q item.Bad e =
          then_got f gets facts good u scalar (int.pos 0) x path plain writes item.Bad e (λ j end is. cc) (steps_of (here t) path (at ws)) q
      by_item writes q (item.Number i end) e =
          then_got f gets facts good u scalar i x path plain writes (item.Number i end) e (λ j last is. cc) (steps_of (here t) path (at ws)) q
