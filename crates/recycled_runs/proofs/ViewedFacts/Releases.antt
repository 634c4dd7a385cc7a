-- Facts without an element stay exact in releases, and their excused leak checks don't fail.
use Rattle.std.proofs.Common.{◌≡◌, refl, sym, ap, ◌∙◌, subst, inl, inr, ℕ, suc, Bool, true, false, not, List, [], ◌∷◌, ◌++◌, map, length, arith}
use Rattle.machine.specs.spark_base.Lists.{Has}
use Rattle.machine.specs.spark_base.declared.position.Pos.{Pos}
use Rattle.machine.specs.place_names.declared.selector.Sel.TheVariants as sel
use Rattle.machine.specs.place_names.declared.act.Act.{Act}
use Rattle.machine.specs.place_names.declared.act.Act.TheVariants as act
use Rattle.machine.specs.place_names.declared.fact.Fact.{Fact}
use Rattle.machine.specs.place_names.declared.fact.Fact.TheVariants.{Moved}
use Rattle.machine.specs.place_names.Names.{Name as PlaceName, extend}
use Rattle.machine.specs.place_names.Facts.{effect}
use Rattle.machine.specs.type_definitions.declared.table.Shape.TheVariants as shape
use Rattle.machine.specs.type_definitions.Types.{Table, shape_of, parts, view_of as view_of_shape}
use Rattle.machine.specs.typed_tree.Trees.{TypedTree, Name}
use Rattle.machine.specs.flow_paths.declared.point.LeakSpot.{LeakSpot}
use Rattle.machine.specs.flow_paths.Objects.{Typing, object_at, designated, designated_of}
use Rattle.machine.specs.flow_paths.Names.{name_of, waiting as waits_in}
use Rattle.machine.specs.flow_paths.Scopes.{taken}
use Rattle.machine.specs.flow_paths.Acts.{acts_in, source_acts, spot}
use Rattle.machine.specs.Words as machine
use Rattle.machine.specs.Memory.{Memory, Place, Slot, cell, freed, words_of, stored}
use Rattle.machine.specs.Evaluate.{Now, Evaluated, Done, Raises, Traps, followed_by, place_of, cell_place, variable_place, walked, steps_of}
use Rattle.machine.specs.Evaluate as run
use Rattle.machine.specs.States.{Waiting, Leak, Outcome}
use Rattle.machine.specs.Step.{Turn, typing, here}
use Rattle.machine.specs.Step as steps
use Rattle.machine.specs.Owners.{waiting_in}
use Rattle.soundness.specs.OwnedWays.Ways.{OfVariable, Loc, OfCell, Way, Object, All, Held, View, Reaches, Named, Allows, after, AllowsAll, number_of}
use Rattle.soundness.specs.OwnedWays.Ways as ways
use Rattle.soundness.proofs.OwnedWays.Locations.{depth as depth_of, under_itself}
use Rattle.soundness.proofs.OwnedWays.Unique.{one_way}
use Rattle.soundness.specs.PartOffsets.Parts.{owns_one, is_leaf, IsSettled}
use Rattle.soundness.specs.Seen.{IsNear, is_view_formal, content, trunk, steps_in, seen, home}
use Rattle.soundness.specs.Changes.{Alike as AlikeTypes, Checks, leaks_at}
use Rattle.soundness.specs.Typed.{OwnsByShape, Spot}
use Rattle.soundness.specs.TypedLaws.Needed.{Leads}
use Rattle.soundness.proofs.Contents.{checks_made}
use Rattle.soundness.proofs.Joined.{below_cell}
use Rattle.soundness.proofs.Walks.{both_true, way_along, Walked}
use Rattle.soundness.proofs.Frees.{releases}
use Rattle.soundness.proofs.Owners.{strip}
use Rattle.soundness.proofs.Steps.{alike}
use Rattle.soundness.proofs.Scalars.{acts, acts_append, after_append, allows_both, number_along, named_along}
use Rattle.soundness.proofs.Taking.{Takes}
use Rattle.soundness.proofs.Stays.{Quiet}
use Rattle.soundness.proofs.Numbers.{index_law}
use Rattle.soundness.specs.OwnedLoans.Views.{Around, Views, expand, ExcusedBy}
use Rattle.soundness.proofs.OwnedLoans.Allowed.{free_open}
use Rattle.soundness.proofs.OwnedLoans.Moves.{IsPlace}
use Rattle.soundness.specs.ViewedSoundness.Holds.{IsNamed, PartsAreNamed, is_fixed, IsOwners, Seeing}
use Rattle.soundness.proofs.ViewedSoundness.Names.{is_place, changed_owners}
use Rattle.soundness.proofs.ViewedSoundness.ViewKinds.{free_sees, free_formal}
use Rattle.soundness.proofs.ViewedSoundness.Spared.{gone_off}
use Rattle.soundness.proofs.ViewedSoundness.Stays.{Goes, no_selectors, name_quiet, steps_taking}
use Rattle.soundness.proofs.ViewedSoundness.Viewing.{expand_down}
use Rattle.soundness.proofs.ViewedSoundness.Outcomes.{IsGood, live}
use Rattle.viewed_steps.proofs.Released.{free_clean, Releases}
use Rattle.soundness.specs.ExactFacts.Exact.{Knows}
use Rattle.soundness.proofs.ExactFacts.Steps.{fact_before}
use Rattle.soundness.proofs.ExactFacts.Checks.{none_made}
use Rattle.recycled_runs.specs.ViewedFacts.Exact.{IsExact}
use Rattle.recycled_runs.proofs.ViewedFacts.Steps.{IsAway, definite_variable, variables_after, told_released, told_fewer, IsOthers, of_others}
use Rattle.recycled_runs.proofs.ViewedFacts.Memories.{told_seen, exact_from}
use Rattle.recycled_runs.proofs.ViewedFacts.Checks.{place_holds}
use Rattle.recycled_runs.proofs.ViewedFacts.Instructions.{ExactOn}
use Rattle.soundness.proofs.ViewedSoundness.Walks.{slot_at, one_slot, type_is, held_there, cell_spot}
use Rattle.viewed_steps.proofs.Views.{AreAccess}
use Rattle.soundness.proofs.OwnedLoans.Meeting.{no_part}

same_access : (d e : ℕ) (b c m n : Bool) → shape.Access d b m ≡ shape.Access e c n → n ≡ m
same_access d e b c m n is = cc

module _ (t : Turn) (sees : ℕ → Bool) (seeing : Seeing (typing t) sees) (settled : IsSettled (typing t).table) (own_law : OwnsByShape (typing t).table) (other : Around (home (typing t) (length t.outer)))
    (alone : (w : Way) → IsNear (length t.outer) w → other.gone w → ⊥) (in_formals : AreAccess (typing t))
    (v : Views) (parts_named : PartsAreNamed (typing t).table) (may : ℕ → ℕ → Type 0)
    (frames : t.state.frames ≡ t.frame ∷ t.outer) (none : taken t.point.instr ≡ 0)
    (elsewhere : Way → Type 0) (away : (w : Way) → elsewhere w → IsAway (typing t) (length t.outer) other w) (Excused : LeakSpot → Type 0) where
  abbrev s : Typing
  s = typing t

  abbrev depth : ℕ
  depth = length t.outer

  abbrev hands : List Waiting
  hands = waiting_in t.state

  abbrev m : Memory
  m = t.state.memory

  abbrev now : Now
  now = record { memory = t.state.memory; waits = [] }

  abbrev Good : List Fact → Type 0
  Good facts = IsGood t sees seeing settled own_law other alone v parts_named may frames none v facts t.state

  abbrev Exact : Memory → List Fact → Type 0
  Exact n facts = IsExact s (home s depth) v elsewhere n facts

  abbrev ExactHere : List Fact → List LeakSpot → Outcome → Type 0
  ExactHere facts spots outcome = ExactOn t sees seeing settled own_law other alone in_formals v parts_named may frames none elsewhere away Excused facts spots outcome

  abbrev Does : (Place → Memory → Outcome) → Pos → Type 0
  Does f pos = Releases t sees seeing settled own_law other alone in_formals v parts_named may frames none f pos

  away_from : (w : Way) → elsewhere w → IsOthers (home s depth) other w
  away_from w e = of_others s depth other w (away w e)

  abbrev spots_of : PlaceName → Pos → ℕ → ℕ → List LeakSpot
  spots_of name pos count u = map (spot pos (extend name (sel.Deref ∷ [])) count) (parts s.table (designated s.table u))

  named_type : (table : Table) (u d : ℕ) → shape_of table u ≡ shape.Access d false true → IsNamed table u
  named_type table u d is e c n e' = same_access d e false c true n (sym is ∙ e')

  module _ (f : Place → Memory → Outcome) (pos : Pos) (does : Does f pos) (facts : List Fact) (good : Good facts) (exact : Exact m facts) (pos' : Pos) (count : ℕ)
      (u d : ℕ) (access : shape_of s.table u ≡ shape.Access d false true) where
    abbrev seen_here : View
    seen_here = seen s m hands t.state.leaks

    alive_trunk : (w : Way) (l : Loc) → IsOwners s w → Reaches seen_here w l → (content s m hands (trunk l)).owns ≡ true
    alive_trunk = live t sees seeing settled own_law other alone v parts_named may frames none facts good

    abbrev excused : Way → Type 0
    excused = ExcusedBy (home s depth) v other facts

    -- the cell of the argument is no place on the way to it
    apart : (w : Way) (l : Loc) (n : ℕ) → Reaches seen_here w l → seen_here.word l ≡ Held n → trunk l ≡ OfCell n → ⊥
    apart w l n reaches held e =
        let b = below_cell n l e in
        let up = strip seen_here n b.0 w (subst (Reaches seen_here w) b.1 reaches) in
        let same = one_way seen_here good.viewed.owned up.0 (All w) (OfCell n) up.1 (l, n, reaches, held, refl) in
        let low = up.2 in
        let deep : depth_of up.0 ≡ suc (depth_of w) = ap depth_of same in
        absurd (omega (arith, low, deep))

    abbrev slot_here : Place → Slot
    slot_here k = slot_at s settled hands t.state.leaks m [] excused good.kept good.viewed.owned good.viewed.known alive_trunk k

    -- the place is found
    module _ (w : Way) (named : Named (home s depth) w) (plain : sees (number_of w) ≡ false) (place : IsPlace v w) (allowed : Allows facts (act.Free (ways.name_of w)))
        (owners : (l : Loc) → Reaches seen_here (expand v w) l → IsOwners s (expand v w)) where
      abbrev behind : List Fact
      behind = effect (act.Free (ways.name_of w)) facts

      clean : excused (expand v w) → ⊥
      clean (inl moved) = free_clean (home s depth) sees other v seen_here facts good.viewed w named plain allowed moved
      clean (inr o) = gone_off s sees depth other v seen_here facts good.viewed alone w (expand v w) named plain (inl (under_itself (expand v w))) o

      nothing : (k : ℕ) → ExactHere behind (spots_of (ways.name_of w) pos' count k) (steps.goes t m 0)
      nothing k = (
        told_fewer (home s depth) sees other v elsewhere away_from (seen s m [] []) facts behind fewer exact,
        none_made Excused (spots_of (ways.name_of w) pos' count k),
      )
        where
          fewer : (n : PlaceName) → Has behind (Moved n) → Has facts (Moved n)
          fewer n has = elim (fact_before (act.Free (ways.name_of w)) facts (Moved n) has) [ inl old ↦ old.0 | inr new ↦ absurd new ]

      by_word : (k : Place) (l : Loc) → Spot s m hands k l → Reaches seen_here (expand v w) l → shape_of s.table k.of ≡ shape.Access d false true
          → Knows Excused pos' (extend (ways.name_of w) (sel.Deref ∷ [])) count facts (parts s.table (designated s.table k.of))
          → words_of s m k ≡ (slot_here k).word ∷ [] → (x : machine.Word) → (slot_here k).word ≡ x
          → ExactHere behind (spots_of (ways.name_of w) pos' count k.of) (f k m)
      by_word k l spot reaches is known word machine.Null e =
          subst (ExactHere behind (spots_of (ways.name_of w) pos' count k.of)) (sym (does.at_null k m (word ∙ ap (λ z. z ∷ []) e))) (nothing k.of)
      by_word k l spot reaches is known word (machine.Int i) e =
          subst (ExactHere behind (spots_of (ways.name_of w) pos' count k.of)) (sym (does.at_whole k m i (word ∙ ap (λ z. z ∷ []) e))) (nothing k.of)
      by_word k l spot reaches is known word (machine.Enumerated i) e =
          subst (ExactHere behind (spots_of (ways.name_of w) pos' count k.of)) (sym (does.at_listed k m i (word ∙ ap (λ z. z ∷ []) e))) (nothing k.of)
      by_word k l spot reaches is known word (machine.Cell n) e =
          let held = held_there s settled hands t.state.leaks m [] excused good.kept good.viewed.owned good.viewed.known alive_trunk k l (expand v w) d false n spot (owners l reaches) reaches is e clean in
          let alive : (cell m n).freed ≡ false = good.viewed.owned.live l n held in
          let there = cell_spot s settled hands t.state.leaks m [] excused good.kept good.viewed.owned good.viewed.known alive_trunk k l d false n spot is e in
          let leaf : is_leaf s.table (content s m hands (trunk l)).of (steps_in l) ≡ true =
          both_true _ _ spot.there (ap owns_one (type_is s settled hands t.state.leaks m [] excused good.kept good.viewed.owned good.viewed.known alive_trunk k l d false spot is)) in
          let off = apart (expand v w) l n reaches held in
          let type : designated s.table k.of ≡ d = ap (λ z. designated_of k.of (view_of_shape z)) is in
          let t' : ℕ = designated s.table k.of in
          let leaks : List Leak = leaks_at s pos m (cell_place t' n) in
          let like : AlikeTypes s.table t' (cell m n).of = subst (λ z. AlikeTypes s.table z (cell m n).of) (sym type) (alike s.table settled d (cell m n).of there.of) in
          let checks : Checks s.table (content s m hands (OfCell n)) [] t.state.leaks (t.state.leaks ++ leaks) =
          checks_made s.table settled (content s m hands (OfCell n)) [] t' pos t.state.leaks refl (ap not alive) like in
          let in_cell : Spot s m hands (cell_place t' n) (OfCell n) = subst (λ z. Spot s m hands (cell_place z n) (OfCell n)) (sym type) there in
          let freed_there = releases s settled m hands t.state.leaks (t.state.leaks ++ leaks) n k l good.kept spot there.made.0 there.made.1 leaf (alive_trunk (expand v w) l (owners l reaches) reaches) off checks in
          let next : Memory = stored s k (machine.Null ∷ []) (freed n m) in
          let designates : Reaches seen_here (expand v (All w)) (OfCell n) =
          subst (λ z. Reaches seen_here z (OfCell n)) (sym (expand_down v w place (inr (no_part (home s depth) sees v seen_here facts good.viewed.views w plain)))) (l, n, reaches, held, refl) in
          subst (ExactHere behind (spots_of (ways.name_of w) pos' count k.of)) (sym (does.at_cell k m n (word ∙ ap (λ z. z ∷ []) e) alive)) (
            exact_from s settled (home s depth) sees other v elsewhere away_from (seen s next hands (t.state.leaks ++ leaks)) next hands behind
                (variables_after (home s depth) sees other v elsewhere away_from seen_here facts good.viewed (act.Free (ways.name_of w)) (λ n none. absurd none)) (λ z. refl)
                (told_released (home s depth) sees other v elsewhere away_from seen_here (seen s next hands (t.state.leaks ++ leaks)) w l n facts good.viewed named plain
                freed_there reaches held allowed
                (told_seen s settled (home s depth) sees other v elsewhere away_from m hands t.state.leaks facts good.viewed exact)),
            place_holds s settled (home s depth) v elsewhere m hands t.state.leaks facts
                (definite_variable (home s depth) sees other v elsewhere away_from seen_here facts good.viewed) exact (cell_place t' n) (OfCell n) (All w) in_cell named designates
                Excused pos pos' count known,
          )

      released_at : Knows Excused pos' (extend (ways.name_of w) (sel.Deref ∷ [])) count facts (parts s.table (designated s.table u)) → (y : Evaluated Place)
          → Walked s settled hands t.state.leaks m [] (expand v w) u y → ExactHere behind (spots_of (ways.name_of w) pos' count u) (steps.evaluated t y f)
      released_at known (Done k n) (l, same, spot, reaches, of) =
          let is : shape_of s.table k.of ≡ shape.Access d false true = ap (shape_of s.table) of ∙ access in
          let word : words_of s m k ≡ (slot_here k).word ∷ [] =
          ap (map (λ (x : Slot). x.word)) (one_slot s settled hands t.state.leaks m [] excused good.kept good.viewed.owned good.viewed.known alive_trunk k l d false spot is) in
          subst (λ (z : Now). ExactHere behind (spots_of (ways.name_of w) pos' count u) (f k z.memory)) (sym same)
          (subst (λ z. ExactHere behind (spots_of (ways.name_of w) pos' count z) (f k m)) of
          (by_word k l spot reaches is (subst (λ z. Knows Excused pos' (extend (ways.name_of w) (sel.Deref ∷ [])) count facts (parts s.table (designated s.table z))) (sym of) known)
          word (slot_here k).word refl))
      released_at known (Raises e n) is = none_made Excused (spots_of (ways.name_of w) pos' count u)
      released_at known (Traps e n) never = none_made Excused (spots_of (ways.name_of w) pos' count u)

    -- what is freed isn't a formal itself
    whole : (x : ℕ) (path : TypedTree) (way : List run.Step) → is_fixed s sees (name_of x path) ≡ false → Goes s.table (object_at s x).of u path way
        → is_view_formal s x ≡ true → way ≡ [] → ⊥
    whole x path way free goes formal none = free_formal s sees (name_of x path) free formal (no_selectors s.table (object_at s x).of u path way goes none)

    -- the steps of the name are evaluated
    then_released : (x : ℕ) (path : TypedTree) → is_fixed s sees (name_of x path) ≡ false → Allows facts (act.Free (name_of x path))
        → Knows Excused pos' (extend (name_of x path) (sel.Deref ∷ [])) count facts (parts s.table (designated s.table u)) → (y : Evaluated (List run.Step))
        → Quiet now (λ way. Goes s.table (object_at s x).of u path way) y
        → ExactHere (effect (act.Free (name_of x path)) facts) (spots_of (name_of x path) pos' count u)
        (steps.evaluated t (followed_by y (λ way now. walked s way (variable_place (here t) x) now)) f)
    then_released x path free allowed known (Done way n) (same, goes) =
        let w : Way = way_along way (Object (OfVariable (home s depth x) x)) in
        let named : Named (home s depth) w = named_along (home s depth) way (Object (OfVariable (home s depth x) x)) refl in
        let called : ways.name_of w ≡ name_of x path = (λ j. record {
          root = number_along way (Object (OfVariable (home s depth x) x)) j;
          sels = goes.sels (Object (OfVariable (home s depth x) x)) j;
        }) in
        let frees : Allows facts (act.Free (ways.name_of w)) = subst (λ z. Allows facts (act.Free z)) (sym called) allowed in
        subst (λ (z : Now). ExactHere (effect (act.Free (name_of x path)) facts) (spots_of (name_of x path) pos' count u) (steps.evaluated t (walked s way (variable_place (here t) x) z) f)) (sym same)
        (subst (λ z. ExactHere (effect (act.Free z) facts) (spots_of z pos' count u) (steps.evaluated t (walked s way (variable_place (here t) x) now) f)) called
        (released_at w named (ap sees (number_along way (Object (OfVariable (home s depth x) x))) ∙ free_sees s sees (name_of x path) free)
        (is_place s v (home s depth x) x u way goes.lead (named_type s.table u d access) (whole x path way free goes) good.holds.only) frees
        (λ l reaches. changed_owners (here t) sees seeing settled hands t.state.leaks m [] other facts v good.kept good.viewed good.holds alone alive_trunk x u way (free_sees s sees (name_of x path) free) (whole x path way free goes) goes.lead l reaches)
        (subst (λ z. Knows Excused pos' (extend z (sel.Deref ∷ [])) count facts (parts s.table (designated s.table u))) (sym called) known)
        (walked s way (variable_place (here t) x) now)
        (name_quiet (here t) sees seeing settled hands t.state.leaks m [] other facts v good.kept good.viewed good.holds alone alive_trunk index_law own_law parts_named x path u way goes
        (λ q q_named q_called. free_open facts q (subst (λ z. Allows facts (act.Free z)) (sym q_called) allowed)))))
    then_released x path free allowed known (Raises e n) is = none_made Excused (spots_of (name_of x path) pos' count u)
    then_released x path free allowed known (Traps e n) never = none_made Excused (spots_of (name_of x path) pos' count u)

  -- a release, whose name takes these values
  pub released_on : (ws : List (List machine.Word)) (f : Place → Memory → Outcome) (pos p : Pos) (x u d : ℕ) (path : TypedTree) → Does f pos
      → shape_of s.table u ≡ shape.Access d false true → Leads s (object_at s x).of path u → Takes (waits_in path) ws [] → is_fixed s sees (name_of x path) ≡ false
      → (facts : List Fact) → Good facts → AllowsAll facts (acts (source_acts s (Name p x path u) act.Free)) → Exact m facts
      → (pos' : Pos) (count : ℕ) → Knows Excused pos' (extend (name_of x path) (sel.Deref ∷ [])) count (after (acts (acts_in s path)) facts) (parts s.table (designated s.table u))
      → ExactHere (after (acts (source_acts s (Name p x path u) act.Free)) facts) (spots_of (name_of x path) pos' count u)
      (steps.evaluated t (place_of (here t) (Name p x path u) (record { memory = m; waits = ws })) f)
  released_on ws f pos p x u d path does access lead takes free facts good allowed exact pos' count known =
      let b : List Act = acts (acts_in s path) in
      let before : Now = record { memory = m; waits = ws } in
      let whole_acts : acts (source_acts s (Name p x path u) act.Free) ≡ b ++ (act.Free (name_of x path) ∷ []) =
      acts_append (acts_in s path) (record { pos = p; act = act.Free (name_of x path) } ∷ []) in
      let each = allows_both facts b (act.Free (name_of x path) ∷ []) (subst (AllowsAll facts) whole_acts allowed) in
      let inner = steps_taking (here t) sees seeing settled hands t.state.leaks m [] other facts v good.kept good.viewed good.holds alone
      (live t sees seeing settled own_law other alone v parts_named may frames none facts good) index_law own_law parts_named (object_at s x).of u path lead ws [] takes each.0 in
      let frees : Allows facts (act.Free (name_of x path)) = subst (λ z. Allows z (act.Free (name_of x path))) inner.1 each.1.0 in
      let behind_acts : after (acts (source_acts s (Name p x path u) act.Free)) facts ≡ effect (act.Free (name_of x path)) facts =
      ap (λ z. after z facts) whole_acts ∙ after_append b (act.Free (name_of x path) ∷ []) facts ∙ ap (effect (act.Free (name_of x path))) inner.1 in
      let knows = subst (λ z. Knows Excused pos' (extend (name_of x path) (sel.Deref ∷ [])) count z (parts s.table (designated s.table u))) inner.1 known in
      subst (λ z. ExactHere z (spots_of (name_of x path) pos' count u) (steps.evaluated t (place_of (here t) (Name p x path u) before) f)) (sym behind_acts)
      (then_released f pos does facts good exact pos' count u d access x path free frees knows (steps_of (here t) path before) inner.0)
