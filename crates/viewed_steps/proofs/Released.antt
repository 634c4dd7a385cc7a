-- Releases: a cell is freed, or null is.
use Rattle.std.proofs.Common.{None, ◌≡◌, refl, sym, ap, ◌∙◌, subst, inl, inr, ℕ, suc, Bool, true, false, not, List, [], ◌∷◌, ◌++◌, map, length, arith, ℤ}
use Rattle.std.proofs.lemmas.Bool.{false≢true, true≢false}
use Rattle.machine.specs.spark_base.Lists.{Has}
use Rattle.machine.specs.spark_base.declared.position.Pos.{Pos}
use Rattle.machine.specs.place_names.declared.act.Act.{Act}
use Rattle.machine.specs.place_names.declared.act.Act.TheVariants as act
use Rattle.machine.specs.place_names.declared.fact.Fact.{Fact}
use Rattle.machine.specs.place_names.declared.fact.Fact.TheVariants.{Moved}
use Rattle.machine.specs.place_names.Names.{covers}
use Rattle.machine.specs.place_names.Facts.{effect}
use Rattle.machine.specs.type_definitions.declared.table.Shape.TheVariants as shape
use Rattle.machine.specs.type_definitions.Types.{Table, shape_of, words, words_of as words_of_shape, view_of as view_of_shape}
use Rattle.machine.specs.typed_tree.Trees.{TypedTree, Name}
use Rattle.machine.specs.flow_paths.Objects.{Typing, object_at, designated, designated_of}
use Rattle.machine.specs.flow_paths.Names.{waiting as waits_in, name_of}
use Rattle.machine.specs.flow_paths.Scopes.{taken}
use Rattle.machine.specs.flow_paths.Acts.{acts_in, source_acts}
use Rattle.machine.specs.Words as machine
use Rattle.machine.specs.Memory.{Memory, Place, Slot, cell, freed, words_of, stored}
use Rattle.machine.specs.Evaluate.{Now, Evaluated, Done, Raises, Traps, followed_by, place_of, cell_place, variable_place, walked, steps_of}
use Rattle.machine.specs.Evaluate as run
use Rattle.machine.specs.Calls.{checks_at}
use Rattle.machine.specs.States.{Waiting, Leak, Outcome}
use Rattle.machine.specs.Step.{Turn, typing, here, goes, leaking_goes}
use Rattle.machine.specs.Step as steps
use Rattle.machine.specs.Owners.{waiting_in}
use Rattle.soundness.specs.OwnedWays.Ways.{OfVariable, Loc, OfCell, Inside, Way, Object, Lost, Into, All, Empty, Gone, Held, View, Reaches, Below, Under, Named, Allows, part, after, AllowsAll, number_of}
use Rattle.soundness.specs.OwnedWays.Ways as ways
use Rattle.soundness.proofs.OwnedWays.Locations.{under_itself, depth as depth_of}
use Rattle.soundness.proofs.OwnedWays.Named.{covered_under}
use Rattle.soundness.proofs.OwnedWays.Assigned.{kept_fact, is_false}
use Rattle.soundness.specs.PartOffsets.Parts.{type_in, offset_in, has_part, owns_one, is_leaf, IsSettled}
use Rattle.soundness.proofs.PartOffsets.Ranges.{leaf_end, leaf_part}
use Rattle.soundness.specs.Seen.{IsNear, is_view_formal, Content, content, trunk, steps_in, owner_at, owner_word, seen, home}
use Rattle.soundness.specs.Changes.{Alike as AlikeTypes, Checks, leaks_at}
use Rattle.soundness.specs.Typed.{Matches, OwnsByShape, Spot}
use Rattle.soundness.specs.TypedLaws.Needed.{Leads}
use Rattle.soundness.proofs.Contents.{bool_cases, word_yes, word_no, word_part, checks_made, all_checks}
use Rattle.soundness.proofs.Joined.{trunk_trunk, below_cell}
use Rattle.soundness.proofs.Walks.{both_true, way_along, Walked}
use Rattle.soundness.proofs.ViewedSoundness.Walks.{one_slot, type_is, slot_is, held_there, cell_spot, slot_at, owners_rooted}
use Rattle.soundness.proofs.Frees.{freed_there, made_still, releases}
use Rattle.soundness.proofs.Owners.{strip}
use Rattle.soundness.proofs.Keeping.{cell_has}
use Rattle.soundness.proofs.Steps.{alike}
use Rattle.soundness.proofs.Scalars.{acts, acts_append, after_append, allows_both, number_along, named_along}
use Rattle.soundness.proofs.Stays.{Quiet}
use Rattle.soundness.proofs.Taking.{Takes}
use Rattle.soundness.proofs.Numbers.{index_law}
use Rattle.soundness.proofs.Lasting.{keeps, stored_kept, freed_kept}
use Rattle.soundness.proofs.OwnedWays.Unique.{one_way, one_location}
use Rattle.soundness.specs.OwnedLoans.Views.{Around, Views, expand, ExcusedBy, IsAway, Viewed}
use Rattle.soundness.proofs.OwnedLoans.Clear.{clear_same}
use Rattle.soundness.proofs.OwnedLoans.Allowed.{loan_kept, free_open, free_whole}
use Rattle.soundness.proofs.OwnedLoans.Others.{itself_away}
use Rattle.soundness.proofs.OwnedLoans.Moves.{IsPlace, view_on, own_loan, lends_on, expand_under, reached, moved_parts}
use Rattle.soundness.proofs.OwnedLoans.Freed as view
use Rattle.soundness.specs.ViewedSoundness.Holds.{IsNamed, PartsAreNamed, Holds, is_fixed, IsOwners, Seeing}
use Rattle.soundness.proofs.ViewedSoundness.Names.{is_place, changed_owners}
use Rattle.soundness.proofs.ViewedSoundness.ViewKinds.{free_sees, free_formal}
use Rattle.soundness.proofs.ViewedSoundness.Spared.{gone_off}
use Rattle.soundness.proofs.ViewedSoundness.Stays.{Goes, no_selectors, steps_taking, name_quiet}
use Rattle.soundness.proofs.ViewedSoundness.Stored.{holds_stored, no_view_place}
use Rattle.soundness.proofs.ViewedSoundness.Outcomes.{IsGood, Leads_on, raises, unturned, goes_to, goes_on, live}
use Rattle.viewed_steps.proofs.Views.{AreAccess}
use Rattle.viewed_steps.proofs.Constructors.{is_cell_word, is_empty_word}
use Rattle.soundness.proofs.Parted.{not_empty, by_either}

-- ---- facts at a release

-- a way through a place without a number ends there
module _ (view : View) (k : Way) (at : Loc) (target : Reaches view k at) (empty : (p : List ways.Step) → view.word (part at p) ≡ Empty) where
  pub ends_there : (w : Way) (l : Loc) → Reaches view w l → Under k w → Below at l
  ends_there (Object x) l r u = ([], one_location view (Object x) l at r (subst (λ z. Reaches view z at) u target))
  ends_there (Lost x) l r u = ([], one_location view (Lost x) l at r (subst (λ z. Reaches view z at) u target))
  ends_there (Into w i) l (m, r, e) u = elim u [
    | inl same ↦ ([], one_location view (Into w i) l at (m, r, e) (subst (λ z. Reaches view z at) same target))
    | inr u ↦ (let b = ends_there w m r u in (i ∷ b.0, e ∙ ap (λ y. Inside y i) b.1))
  ]
  ends_there (All w) l (m, c, r, h, e) u = elim u [
    | inl same ↦ ([], one_location view (All w) l at (m, c, r, h, e) (subst (λ z. Reaches view z at) same target))
    | inr u ↦ (
        let b = ends_there w m r u in
        let no_number : Held c ≡ Empty = sym h ∙ ap view.word b.1 ∙ empty b.0 in absurd (false≢true (ap is_empty_word no_number)))
  ]

module _ (home : ℕ → ℕ) (observer : ℕ → Bool) (other : Around home) (v : Views) (s : View) (facts : List Fact)
    (viewed : Viewed home observer other v s facts) where
  -- what is freed wasn't moved
  pub free_clean : (k : Way) → Named home k → observer (number_of k) ≡ false → Allows facts (act.Free (ways.name_of k)) → IsAway home v other facts (expand v k) → ⊥
  free_clean k named plain allowed away = itself_away home observer other v s facts viewed k (named, plain) (free_whole facts k allowed) away

  -- a release of null frees nothing
  moved_bare : (u : Way) → Has facts (Moved (ways.name_of u)) → (p : List ways.Step) → v.part_way (ways.number_of u) p ≡ None
  moved_bare u moved = moved_parts home observer other v s facts viewed u moved

  pub nothing_freed : (k : Way) (at : Loc) → Named home k → IsPlace v k → Reaches s (expand v k) at → ((p : List ways.Step) → s.word (part at p) ≡ Empty)
      → Viewed home observer other v s (effect (act.Free (ways.name_of k)) facts)
  nothing_freed k at named place target empty =
      let a : Act = act.Free (ways.name_of k) in
      record {
        owned = viewed.owned;
        covered = viewed.covered;
        known = λ w l rooted r h. elim (viewed.known w l rooted r h) [
          | inr o ↦ inr o
          | inl (inr away) ↦ inl (inr away)
          | inl (inl (u, moved, leads)) ↦ inl (inl (
            u,
            (
              moved.0,
              kept_fact a facts (Moved (ways.name_of u)) moved.1
                  (is_false (covers (ways.name_of k) (ways.name_of u)) (λ e. (
                  let under = subst (Under (expand v k)) leads (expand_under v k u place (moved_bare u moved.1) (covered_under home k u named moved.0 e)) in
                  let b = ends_there s (expand v k) at target empty w l r under in
                  let gone : Gone ≡ Empty = sym h ∙ ap s.word b.1 ∙ empty b.0 in absurd (false≢true (ap is_empty_word gone))))),
            ),
            leads,
          ))
        ];
        clear = clear_same observer facts viewed.clear a refl;
        views = (
          λ x w has. (let own = viewed.views.0 x w has in
              view_on home observer other v s s facts (effect a facts) x w own (λ seen n. own_loan observer facts (effect a facts) (loan_kept a facts (λ l h z. refl)) seen x n) (reached home observer other v s facts x w own)),
          viewed.views.1,
        );
        whole = viewed.whole;
        whole_away = viewed.whole_away;
        shown = viewed.shown;
        whole_parts = viewed.whole_parts;
        parts_away = viewed.parts_away;
        past = viewed.past;
        lends = λ l n lent. lends_on observer v facts (effect a facts) (loan_kept a facts (λ l h z. refl)) l n (viewed.lends l n lent);
        far = viewed.far;
        bare = viewed.bare;
      }

-- ---- the outcome

same_access : (d e : ℕ) (b c m n : Bool) → shape.Access d b m ≡ shape.Access e c n → n ≡ m
same_access d e b c m n is = cc

plain_word : (x : machine.Word) (g : Bool) → ((n : ℕ) → x ≡ machine.Cell n → ⊥) → g ≡ false → owner_at x g ≡ Empty
plain_word (machine.Int v) false no_cell e = refl
plain_word (machine.Enumerated v) false no_cell e = refl
plain_word machine.Null false no_cell e = refl
plain_word (machine.Cell n) false no_cell e = absurd (no_cell n refl)
plain_word x true no_cell e = absurd (true≢false e)

no_null : (k : ℕ) → Has (machine.Null ∷ []) (machine.Cell k) → ⊥
no_null k (inl e) = cc
no_null k (inr e) = e

module _ (t : Turn) (sees : ℕ → Bool) (seeing : Seeing (typing t) sees) (settled : IsSettled (typing t).table) (own_law : OwnsByShape (typing t).table) (other : Around (home (typing t) (length t.outer)))
    (alone : (w : Way) → IsNear (length t.outer) w → other.gone w → ⊥) (in_formals : AreAccess (typing t))
    (v : Views) (parts_named : PartsAreNamed (typing t).table) (may : ℕ → ℕ → Type 0)
    (frames : t.state.frames ≡ t.frame ∷ t.outer) (none : taken t.point.instr ≡ 0) where
  abbrev s : Typing
  s = typing t

  abbrev depth : ℕ
  depth = length t.outer

  abbrev hands : List Waiting
  hands = waiting_in t.state

  abbrev m : Memory
  m = t.state.memory

  abbrev now : Now
  now = record { memory = t.state.memory; waits = [] }

  -- with these values, which the instruction takes
  abbrev at : List (List machine.Word) → Now
  at ws = record { memory = m; waits = ws }

  abbrev Good : List Fact → Type 0
  Good facts = IsGood t sees seeing settled own_law other alone v parts_named may frames none v facts t.state

  abbrev LeadsHere : List Fact → Outcome → Type 0
  LeadsHere facts outcome = Leads_on t sees seeing settled own_law other alone v parts_named may frames none facts outcome

  -- what a release does at the place, by the word there
  pub record Releases (f : Place → Memory → Outcome) (pos : Pos) : Type 0 where
    pub at_null : (k : Place) (m : Memory) → words_of s m k ≡ machine.Null ∷ [] → f k m ≡ goes t m 0
    pub at_whole : (k : Place) (m : Memory) (v : ℤ) → words_of s m k ≡ machine.Int v ∷ [] → f k m ≡ goes t m 0
    pub at_listed : (k : Place) (m : Memory) (v : ℕ) → words_of s m k ≡ machine.Enumerated v ∷ [] → f k m ≡ goes t m 0
    pub at_cell : (k : Place) (m : Memory) (n : ℕ) → words_of s m k ≡ machine.Cell n ∷ [] → (cell m n).freed ≡ false
        → f k m ≡ leaking_goes (checks_at s pos m (cell_place (designated s.table k.of) n)) (goes t (stored s k (machine.Null ∷ []) (freed n m)) 0)

  named_type : (table : Table) (u d : ℕ) → shape_of table u ≡ shape.Access d false true → IsNamed table u
  named_type table u d is e c n e' = same_access d e false c true n (sym is ∙ e')

  module _ (f : Place → Memory → Outcome) (pos : Pos) (does : Releases f pos) (facts : List Fact) (good : Good facts)
      (u d : ℕ) (access : shape_of s.table u ≡ shape.Access d false true) where
    abbrev seen_here : View
    seen_here = seen s m hands t.state.leaks

    alive_trunk : (w : Way) (l : Loc) → IsOwners s w → Reaches seen_here w l → (content s m hands (trunk l)).owns ≡ true
    alive_trunk = live t sees seeing settled own_law other alone v parts_named may frames none facts good

    abbrev excused : Way → Type 0
    excused = ExcusedBy (home s depth) v other facts

    -- the cell of the argument is no place on the way to it
    apart : (w : Way) (l : Loc) (n : ℕ) → Reaches seen_here w l → seen_here.word l ≡ Held n → trunk l ≡ OfCell n → ⊥
    apart w l n reaches held e =
        let b = below_cell n l e in
        let up = strip seen_here n b.0 w (subst (Reaches seen_here w) b.1 reaches) in
        let same = one_way seen_here good.viewed.owned up.0 (All w) (OfCell n) up.1 (l, n, reaches, held, refl) in
        let low = up.2 in
        let deep : depth_of up.0 ≡ suc (depth_of w) = ap depth_of same in
        absurd (omega (arith, low, deep))

    leaf_at : (k : Place) (l : Loc) → Spot s m hands k l → k.of ≡ u → is_leaf s.table (content s m hands (trunk l)).of (steps_in l) ≡ true
    leaf_at k l spot of =
        both_true _ _ spot.there (ap owns_one (type_is s settled hands t.state.leaks m [] excused good.kept good.viewed.owned good.viewed.known alive_trunk k l d false spot (ap (shape_of s.table) of ∙ access)))

    -- nothing is in the argument but itself
    inside : (k : Place) (l : Loc) (p : List ways.Step) → Spot s m hands k l → k.of ≡ u → (p ≡ [] → ⊥) → seen_here.word (part l p) ≡ Empty
    inside k l p spot of more =
        word_part s.table (content s m hands) l p
        ∙ word_no s.table (content s m hands (trunk l)) (p ++ steps_in l) (elim (bool_cases (is_leaf s.table (content s m hands (trunk l)).of (p ++ steps_in l))) [
          | inr isnt ↦ isnt
          | inl is ↦ absurd (more (leaf_end s.table settled (content s m hands (trunk l)).of p (steps_in l) (leaf_at k l spot of)
              (leaf_part s.table settled (content s m hands (trunk l)).of (p ++ steps_in l) is)))
        ])

    -- where no cell is named, nothing is done

    abbrev slot_here : Place → Slot
    slot_here k = slot_at s settled hands t.state.leaks m [] excused good.kept good.viewed.owned good.viewed.known alive_trunk k

    empties : (k : Place) (l : Loc) (w : Way) → Spot s m hands k l → k.of ≡ u → IsOwners s w → Reaches seen_here w l → (excused w → ⊥)
        → ((n : ℕ) → (slot_here k).word ≡ machine.Cell n → ⊥) → (p : List ways.Step) → seen_here.word (part l p) ≡ Empty
    empties k l w spot of rooted reaches clean no_cell (i ∷ p) = inside k l (i ∷ p) spot of (λ e. not_empty e)
    empties k l w spot of rooted reaches clean no_cell [] =
        let slot : Slot = slot_here k in
        let word : seen_here.word l ≡ owner_word slot =
        word_yes s.table (content s m hands (trunk l)) (steps_in l) (alive_trunk w l rooted reaches) (leaf_at k l spot of)
        ∙ ap owner_word (slot_is s settled hands t.state.leaks m [] excused good.kept good.viewed.owned good.viewed.known alive_trunk k l spot) in
        word ∙ by_either (bool_cases slot.gone)
        (λ gone. (absurd (clean (good.viewed.known w l (owners_rooted s w rooted) reaches (word ∙ ap (owner_at slot.word) gone)))))
        (λ whole. (plain_word slot.word slot.gone no_cell whole))

    spot_freed : (n : ℕ) (k : Place) (l : Loc) → Spot s m hands k l → (trunk l ≡ OfCell n → ⊥) → Spot s (freed n m) hands k l
    spot_freed n k l spot off =
        let same = freed_there s m n hands (trunk l) (trunk_trunk l) off in
        record {
          base = spot.base;
          made = made_still s m n k.base spot.made;
          at = spot.at ∙ ap (λ (c : Content). offset_in s.table c.of (steps_in l)) (sym same);
          there = ap (λ (c : Content). has_part s.table c.of (steps_in l)) same ∙ spot.there;
          of = subst (λ (c : Content). Matches s.table k.of (type_in s.table c.of (steps_in l))) (sym same) spot.of;
        }

    -- the variables of views stay
    holds_freed : (n : ℕ) (k : Place) (l : Loc) → Spot s m hands k l → (content s m hands (trunk l)).owns ≡ true → k.of ≡ u → Holds s sees depth v (stored s k (machine.Null ∷ []) (freed n m))
    holds_freed n k l spot owned of =
        holds_stored (here t) sees seeing settled t.state.leaks [] other alone (keeps s settled own_law) index_law own_law v parts_named (freed n m) k (machine.Null ∷ [])
        (no_view_place (here t) sees seeing settled t.state.leaks [] other alone (keeps s settled own_law) index_law own_law v parts_named m hands u k l
        (named_type s.table u d access) of spot owned) (record { held = good.holds.held; only = good.holds.only; owners = good.holds.owners; access = good.holds.access; own = good.holds.own; taken = good.holds.taken; parts = record { held = good.holds.parts.held; only = good.holds.parts.only; owners = good.holds.parts.owners; looks = good.holds.parts.looks } })

    -- the place is found
    module _ (w : Way) (named : Named (home s depth) w) (plain : sees (number_of w) ≡ false) (place : IsPlace v w) (allowed : Allows facts (act.Free (ways.name_of w)))
        (owners : (l : Loc) → Reaches seen_here (expand v w) l → IsOwners s (expand v w)) where
      abbrev fs : List Fact
      fs = effect (act.Free (ways.name_of w)) facts

      clean : excused (expand v w) → ⊥
      clean (inl moved) = free_clean (home s depth) sees other v seen_here facts good.viewed w named plain allowed moved
      clean (inr o) = gone_off s sees depth other v seen_here facts good.viewed alone w (expand v w) named plain (inl (under_itself (expand v w))) o

      nothing : (k : Place) (l : Loc) → Spot s m hands k l → Reaches seen_here (expand v w) l → k.of ≡ u
          → ((n : ℕ) → (slot_here k).word ≡ machine.Cell n → ⊥) → LeadsHere fs (goes t m 0)
      nothing k l spot reaches of no_cell =
          goes_to t sees seeing settled own_law other alone v parts_named may frames none m 0 v fs
          (unturned t sees seeing settled own_law other alone v parts_named may frames none fs)
          (nothing_freed (home s depth) sees other v seen_here facts good.viewed w l named place reaches
          (empties k l (expand v w) spot of (owners l reaches) reaches clean no_cell)) good.kept good.holds

      by_word : (k : Place) (l : Loc) → Spot s m hands k l → Reaches seen_here (expand v w) l → k.of ≡ u → shape_of s.table k.of ≡ shape.Access d false true
          → words_of s m k ≡ (slot_here k).word ∷ [] → (x : machine.Word) → (slot_here k).word ≡ x → LeadsHere fs (f k m)
      by_word k l spot reaches of is word machine.Null e =
          subst (LeadsHere fs) (sym (does.at_null k m (word ∙ ap (λ z. z ∷ []) e)))
          (nothing k l spot reaches of (λ n a. (let b : machine.Null ≡ machine.Cell n = sym e ∙ a in absurd (false≢true (ap is_cell_word b)))))
      by_word k l spot reaches of is word (machine.Int i) e =
          subst (LeadsHere fs) (sym (does.at_whole k m i (word ∙ ap (λ z. z ∷ []) e)))
          (nothing k l spot reaches of (λ n a. (let b : machine.Int i ≡ machine.Cell n = sym e ∙ a in absurd (false≢true (ap is_cell_word b)))))
      by_word k l spot reaches of is word (machine.Enumerated i) e =
          subst (LeadsHere fs) (sym (does.at_listed k m i (word ∙ ap (λ z. z ∷ []) e)))
          (nothing k l spot reaches of (λ n a. (let b : machine.Enumerated i ≡ machine.Cell n = sym e ∙ a in absurd (false≢true (ap is_cell_word b)))))
      by_word k l spot reaches of is word (machine.Cell n) e =
          let held = held_there s settled hands t.state.leaks m [] excused good.kept good.viewed.owned good.viewed.known alive_trunk k l (expand v w) d false n spot (owners l reaches) reaches is e clean in
          let alive : (cell m n).freed ≡ false = good.viewed.owned.live l n held in
          let there = cell_spot s settled hands t.state.leaks m [] excused good.kept good.viewed.owned good.viewed.known alive_trunk k l d false n spot is e in
          let off = apart (expand v w) l n reaches held in
          let type : designated s.table k.of ≡ d = ap (λ z. designated_of k.of (view_of_shape z)) is in
          let t' : ℕ = designated s.table k.of in
          let leaks : List Leak = leaks_at s pos m (cell_place t' n) in
          let like : AlikeTypes s.table t' (cell m n).of = subst (λ z. AlikeTypes s.table z (cell m n).of) (sym type) (alike s.table settled d (cell m n).of there.of) in
          let checks : Checks s.table (content s m hands (OfCell n)) [] t.state.leaks (t.state.leaks ++ leaks) =
          checks_made s.table settled (content s m hands (OfCell n)) [] t' pos t.state.leaks refl (ap not alive) like in
          let one : 1 ≡ words s.table k.of = sym (settled.word_law k.of ∙ ap (words_of_shape (words s.table)) is) in
          let next : Memory = stored s k (machine.Null ∷ []) (freed n m) in
          subst (LeadsHere fs) (sym (does.at_cell k m n (word ∙ ap (λ z. z ∷ []) e) alive))
          (goes_on t sees seeing settled own_law other alone v parts_named may frames none next (checks_at s pos m (cell_place t' n)) leaks (all_checks s pos m (cell_place t' n)) v fs
          (unturned t sees seeing settled own_law other alone v parts_named may frames none fs)
          (view.freed (home s depth) sees other v seen_here (seen s next hands (t.state.leaks ++ leaks)) w l n facts good.viewed
          (releases s settled m hands t.state.leaks (t.state.leaks ++ leaks) n k l good.kept spot there.made.0 there.made.1 (leaf_at k l spot of)
          (alive_trunk (expand v w) l (owners l reaches) reaches) off checks)
          named plain place reaches held allowed)
          (stored_kept s settled (freed n m) hands k l k.of (machine.Null ∷ []) (freed_kept s settled m n hands good.kept) (spot_freed n k l spot off) one (inl refl)
          (λ p d' c' n' i has is' at. absurd (no_null i (cell_has (machine.Null ∷ []) (offset_in s.table k.of p) i at))))
          (holds_freed n k l spot (alive_trunk (expand v w) l (owners l reaches) reaches) of))

      released_at : (y : Evaluated Place) → Walked s settled hands t.state.leaks m [] (expand v w) u y → LeadsHere fs (steps.evaluated t y f)
      released_at (Done k n) (l, same, spot, reaches, of) =
          let is : shape_of s.table k.of ≡ shape.Access d false true = ap (shape_of s.table) of ∙ access in
          let word : words_of s m k ≡ (slot_here k).word ∷ [] =
          ap (map (λ (x : Slot). x.word)) (one_slot s settled hands t.state.leaks m [] excused good.kept good.viewed.owned good.viewed.known alive_trunk k l d false spot is) in
          subst (λ (z : Now). LeadsHere fs (f k z.memory)) (sym same) (by_word k l spot reaches of is word (slot_here k).word refl)
      released_at (Raises e n) is = (λ trap. trap, raises t sees seeing settled own_law other alone v parts_named may frames none facts good n.memory)
      released_at (Traps e n) never = absurd never

    -- what is freed isn't a formal itself
    whole : (x : ℕ) (path : TypedTree) (way : List run.Step) → is_fixed s sees (name_of x path) ≡ false → Goes s.table (object_at s x).of u path way
        → is_view_formal s x ≡ true → way ≡ [] → ⊥
    whole x path way free goes formal none = free_formal s sees (name_of x path) free formal (no_selectors s.table (object_at s x).of u path way goes none)

    -- the steps of the name are evaluated
    then_released : (x : ℕ) (path : TypedTree) → is_fixed s sees (name_of x path) ≡ false → Allows facts (act.Free (name_of x path)) → (y : Evaluated (List run.Step))
        → Quiet now (λ way. Goes s.table (object_at s x).of u path way) y
        → LeadsHere (effect (act.Free (name_of x path)) facts) (steps.evaluated t (followed_by y (λ way now. walked s way (variable_place (here t) x) now)) f)
    then_released x path free allowed (Done way n) (same, goes) =
        let w : Way = way_along way (Object (OfVariable (home s depth x) x)) in
        let named : Named (home s depth) w = named_along (home s depth) way (Object (OfVariable (home s depth x) x)) refl in
        let called : ways.name_of w ≡ name_of x path = (λ j. record {
          root = number_along way (Object (OfVariable (home s depth x) x)) j;
          sels = goes.sels (Object (OfVariable (home s depth x) x)) j;
        }) in
        let frees : Allows facts (act.Free (ways.name_of w)) = subst (λ z. Allows facts (act.Free z)) (sym called) allowed in
        subst (λ (z : Now). LeadsHere (effect (act.Free (name_of x path)) facts) (steps.evaluated t (walked s way (variable_place (here t) x) z) f)) (sym same)
        (subst (λ z. LeadsHere (effect (act.Free z) facts) (steps.evaluated t (walked s way (variable_place (here t) x) now) f)) called
        (released_at w named (ap sees (number_along way (Object (OfVariable (home s depth x) x))) ∙ free_sees s sees (name_of x path) free)
        (is_place s v (home s depth x) x u way goes.lead (named_type s.table u d access) (whole x path way free goes) good.holds.only) frees
        (λ l reaches. changed_owners (here t) sees seeing settled hands t.state.leaks m [] other facts v good.kept good.viewed good.holds alone alive_trunk x u way (free_sees s sees (name_of x path) free) (whole x path way free goes) goes.lead l reaches)
        (walked s way (variable_place (here t) x) now)
        (name_quiet (here t) sees seeing settled hands t.state.leaks m [] other facts v good.kept good.viewed good.holds alone alive_trunk index_law own_law parts_named x path u way goes
        (λ q q_named q_called. free_open facts q (subst (λ z. Allows facts (act.Free z)) (sym q_called) allowed)))))
    then_released x path free allowed (Raises e n) is = (λ trap. trap, raises t sees seeing settled own_law other alone v parts_named may frames none facts good n.memory)
    then_released x path free allowed (Traps e n) never = absurd never

  pub released_on : (ws : List (List machine.Word)) (f : Place → Memory → Outcome) (pos p : Pos) (x u d : ℕ) (path : TypedTree) → Releases f pos
      → shape_of s.table u ≡ shape.Access d false true → Leads s (object_at s x).of path u → Takes (waits_in path) ws [] → is_fixed s sees (name_of x path) ≡ false
      → (facts : List Fact) (good : Good facts)
      → AllowsAll facts (acts (source_acts s (Name p x path u) act.Free))
      → LeadsHere (after (acts (source_acts s (Name p x path u) act.Free)) facts) (steps.evaluated t (place_of (here t) (Name p x path u) (at ws)) f)
  released_on ws f pos p x u d path does access lead takes free facts good allowed =
      let b : List Act = acts (acts_in s path) in
      let whole_acts : acts (source_acts s (Name p x path u) act.Free) ≡ b ++ (act.Free (name_of x path) ∷ []) =
      acts_append (acts_in s path) (record { pos = p; act = act.Free (name_of x path) } ∷ []) in
      let each = allows_both facts b (act.Free (name_of x path) ∷ []) (subst (AllowsAll facts) whole_acts allowed) in
      let inner = steps_taking (here t) sees seeing settled hands t.state.leaks m [] other facts v good.kept good.viewed good.holds alone
      (live t sees seeing settled own_law other alone v parts_named may frames none facts good) index_law own_law parts_named (object_at s x).of u path lead ws [] takes each.0 in
      let frees : Allows facts (act.Free (name_of x path)) = subst (λ z. Allows z (act.Free (name_of x path))) inner.1 each.1.0 in
      let behind_acts : after (acts (source_acts s (Name p x path u) act.Free)) facts ≡ effect (act.Free (name_of x path)) facts =
      ap (λ z. after z facts) whole_acts ∙ after_append b (act.Free (name_of x path) ∷ []) facts ∙ ap (effect (act.Free (name_of x path))) inner.1 in
      subst (λ z. LeadsHere z (steps.evaluated t (place_of (here t) (Name p x path u) (at ws)) f)) (sym behind_acts)
      (then_released f pos does facts good u d access x path free frees (steps_of (here t) path (at ws)) inner.0)
