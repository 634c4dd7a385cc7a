-- A name that may be rooted in a borrower or observer leads to the same place in memories that agree.
use Rattle.std.proofs.Common.{◌≡◌, refl, sym, ap, ◌∙◌, subst, map, inl, inr, ℕ, Bool, true, false, List, [], ◌∷◌, get_or, arith, if◌then◌else◌, ◌||◌, ◌++◌, not}
use Rattle.std.proofs.lemmas.Bool.{false≢true}
use Rattle.machine.specs.place_names.declared.fact.Fact.{Fact}
use Rattle.machine.specs.type_definitions.declared.table.Shape.TheVariants as shape
use Rattle.machine.specs.type_definitions.Types.{shape_of, view_of as view_of_shape, is_nil}
use Rattle.machine.specs.flow_paths.Objects.{Typing, object_at, designated, designated_of, is_anonymous, view_of}
use Rattle.machine.specs.Words as machine
use Rattle.machine.specs.Memory as memory
use Rattle.machine.specs.Memory.{Slot, Memory, Place, cell, no_slot, slots_at, slots_of, variable_slots, words_of}
use Rattle.machine.specs.Evaluate.{Here, Now, Evaluated, Done, Raises, Traps, followed_by, cell_place, component_place, element_place, designated_place, walked, variable_place, Touched}
use Rattle.machine.specs.Evaluate as run
use Rattle.machine.specs.States.{Waiting, Leak}
use Rattle.soundness.specs.OwnedWays.Ways.{Step, Component, Element, part, Under, Past, OfVariable, Loc, OfRoot, OfCell, Way, Object, All, View, Reaches, IsRooted, Named, along, number_of}
use Rattle.soundness.proofs.OwnedWays.Locations.{under_along, under_itself}
use Rattle.soundness.specs.PartOffsets.Parts.{IsSettled, offset_in, is_leaf}
use Rattle.soundness.specs.Seen.{IsNear, content, trunk, steps_in, seen, home, is_view_formal}
use Rattle.soundness.specs.Typed.{Kept, Spot, loc_of}
use Rattle.soundness.proofs.Walks.{way_along, past_along, Lead, Walked}
use Rattle.soundness.proofs.Scalars.{number_along, named_along}
use Rattle.soundness.proofs.Stays.{Quiet}
use Rattle.soundness.specs.OwnedLoans.Views.{Around, Views, expand, ExcusedBy, Viewed, Lifted, InPart}
use Rattle.soundness.proofs.OwnedLoans.Ways.{on_under, IsDeep, lifted_root, lifted_way, next_of, in_part_way}
use Rattle.soundness.proofs.OwnedLoans.Meeting.{next}
use Rattle.soundness.proofs.OwnedLoans.Safe.{OpenWhole, Unborrowed, Unmoved}
use Rattle.soundness.proofs.OwnedLoans.Others.{itself_away, seen_away_below, clean_away, part_above_away, part_away_below}
use Rattle.soundness.proofs.OwnedLoans.Moves.{reached}
use Rattle.soundness.proofs.ViewedSoundness.Spared.{gone_off}
use Rattle.soundness.specs.ViewedSoundness.Holds.{IsNamed, PartsAreNamed, Holds, is_view, is_bundle, IsOwners, Seeing}
use Rattle.soundness.proofs.ViewedSoundness.Names.{Starts, starts_leads, way_live, Opens, IsRaised, one_slot, owner_clean, view_clean, name_walked, name_lifted, changed_owners, stands_owners, bundle_cases, part_found_there, part_clean, part_owners, in_part_along, expand_steps, lifted_deep}
use Rattle.soundness.proofs.ViewedSoundness.ViewKinds.{plain_named, true_false, neither, plain_sees, bundle_formal, bundle_named, no_parts_in}
use Rattle.soundness.proofs.ViewedSoundness.Sources.{not_gone}
use Rattle.soundness.proofs.ViewedSoundness.Viewing.{view_leaf}
use Rattle.soundness.specs.TypedLaws.Needed.{IndexLaw}
use Rattle.soundness.specs.Typed.{OwnsByShape}
use Rattle.recycled_runs.proofs.ViewedFacts.NullPlaces.Memories.{NoneGone, words_agree, cell_agree}
use Rattle.recycled_runs.proofs.ViewedFacts.NullPlaces.Only.{OnlyOwners}
use Rattle.recycled_runs.proofs.ViewedFacts.NullPlaces.Places.{IsWhole, spot_whole, plain_whole, access_whole, unmoved_whole}
use Rattle.recycled_runs.proofs.ViewedFacts.NullPlaces.Walks.{SameNow, SameTo}
use Rattle.recycled_runs.proofs.ViewedFacts.ViewedNulls.Led.{owners_same}
use Rattle.soundness.proofs.Joined.{trunk_part}
use Rattle.soundness.proofs.ViewedSoundness.Walks.{owners_rooted, component_spot, element_spot, one_slot as one_there}
use Rattle.viewed_steps.proofs.Views.{AreAccess, view_cases}

named_is : (d e : ℕ) (c b q : Bool) → shape.Access d c true ≡ shape.Access e b q → q ≡ true
named_is d e c b q z = cc

module _ (h : Here) (sees : ℕ → Bool) (seeing : Seeing h.typing sees) (settled : IsSettled h.typing.table) (hands : List Waiting) (leaks : List Leak) (m : Memory) (waits : List (List machine.Word))
    (other : Around (home h.typing h.frame)) (facts : List Fact) (v : Views) (kept : Kept h.typing m hands)
    (viewed : Viewed (home h.typing h.frame) sees other v (seen h.typing m hands leaks) facts) (holds : Holds h.typing sees h.frame v m)
    (alone : (w : Way) → IsNear h.frame w → other.gone w → ⊥)
    (live : (w : Way) (l : Loc) → IsOwners h.typing w → Reaches (seen h.typing m hands leaks) w l → (content h.typing m hands (trunk l)).owns ≡ true)
    (only : OnlyOwners h.typing m) (in_formals : AreAccess h.typing) where
  abbrev s : Typing
  s = h.typing

  abbrev view_here : View
  view_here = seen h.typing m hands leaks

  abbrev variable : ℕ → Way
  variable x = Object (OfVariable (home h.typing h.frame x) x)

  abbrev here_now : Now
  here_now = record { memory = m; waits = waits }

  abbrev excused : Way → Type 0
  excused = ExcusedBy (home h.typing h.frame) v other facts

  abbrev IsOpen : ℕ → Way → Type 0
  IsOpen x u = Opens h sees seeing settled hands leaks m waits other facts v kept viewed holds alone live x u

  abbrev SameWalk : List run.Step → Place → Now → Type 0
  SameWalk way k n' = SameTo h.typing (walked h.typing way k here_now) (walked h.typing way k n')

  owner_same : (x t : ℕ) (way : List run.Step) → is_view s x ≡ false → Starts s.table (object_at s x).of way t → IsOpen x (way_along way (variable x))
      → (n' : Now) → SameNow s here_now n' → SameWalk way (variable_place h x) n'
  owner_same x t way plain starts opens n' same =
      let none = neither (is_anonymous (view_of s x)) (is_view_formal s x) plain in
      owners_same s settled hands leaks m waits excused kept viewed.owned viewed.known live only way (variable_place h x)
      (OfRoot (OfVariable (home s h.frame x) x)) (variable x) t
      (record { base = refl; made = tt; at = refl; there = refl; of = inl refl }) none.1 refl
      (starts_leads s.table (object_at s x).of t way (plain_named s.table (object_at s x).of none.0) starts)
      (owner_clean h sees seeing settled hands leaks m waits other facts v kept viewed holds alone live x way plain opens) n' same

  abbrev slot_of : ℕ → Slot
  slot_of x = get_or (variable_slots s (home s h.frame x) x m.variables) 0 no_slot

  -- the word in the variable of a view isn't gone
  view_none : (x : ℕ) → is_view s x ≡ true → NoneGone (slots_of s m (variable_place h x))
  view_none x view = elim (view_cases s x view) [
    | inl anonymous ↦ spot_whole s settled m hands only kept k (OfRoot (OfVariable (home s h.frame x) x)) spot
        (plain_whole s settled m hands k (OfRoot (OfVariable (home s h.frame x) x)) spot (view_leaf s.table settled (object_at s x).of anonymous))
    | inr formal ↦ spot_whole s settled m hands only kept k (OfRoot (OfVariable (home s h.frame x) x)) spot
        (λ p leaf. never (get_or (variable_slots s (home s h.frame x) x m.variables) (offset_in s.table (object_at s x).of (p ++ [])) no_slot).gone
        (λ gone. true_false (is_view_formal s x) formal (only.1 (home s h.frame x) x (offset_in s.table (object_at s x).of (p ++ [])) gone)))
  ]
    where
      k : Place
      k = variable_place h x

      spot : Spot s m hands k (OfRoot (OfVariable (home s h.frame x) x))
      spot = record { base = refl; made = tt; at = refl; there = refl; of = inl refl }

      never : (b : Bool) → (b ≡ true → ⊥) → b ≡ false
      never true none = absurd (none refl)
      never false none = refl

  -- from the cell that it designates
  met : (x t : ℕ) (rest : List run.Step) (d : ℕ) (c n : Bool) → is_view s x ≡ true → is_bundle s x ≡ false → shape_of s.table (object_at s x).of ≡ shape.Access d c n
      → Lead s.table d rest t → IsOpen x (way_along rest (All (variable x))) → (n' : Now) → SameNow s here_now n' → (z : machine.Word) → (slot_of x).word ≡ z
      → SameTo s (followed_by (designated_place d (z ∷ []) here_now) (walked s rest)) (followed_by (designated_place d (z ∷ []) n') (walked s rest))
  met x t rest d c n view bare is lead opens n' same (machine.Int k) e = (refl, same)
  met x t rest d c n view bare is lead opens n' same (machine.Enumerated k) e = (refl, same)
  met x t rest d c n view bare is lead opens n' same machine.Null e = (refl, same)
  met x t rest d c n view bare is lead opens n' same (machine.Cell k) e =
      let own = holds.held x k view bare e in
      let w : Way = own.0 in
      let known_view = viewed.views.0 x w own.1 in
      let rooted : IsRooted w = owners_rooted s w (holds.owners x w own.1) in
      let reaches : Reaches view_here w (OfCell k) = subst (λ z. Reaches view_here w (OfCell z)) own.2 (reached (home s h.frame) sees other v view_here facts x w known_view) in
      let alive : (cell m k).freed ≡ false = way_live view_here w k viewed.owned rooted reaches in
      let points = kept.points (OfRoot (OfVariable (home s h.frame x) x)) [] d c n k refl is e in
      let spot : Spot s m hands (cell_place d k) (OfCell k) = record { base = refl; made = (points.0, points.1); at = refl; there = refl; of = points.2 } in
      subst (λ b. SameTo s (followed_by (if b then Traps Touched here_now else Done (cell_place d k) here_now) (walked s rest))
      (followed_by (designated_place d (machine.Cell k ∷ []) n') (walked s rest))) (sym alive)
      (subst (λ b. SameTo s (walked s rest (cell_place d k) here_now) (followed_by (if b then Traps Touched n' else Done (cell_place d k) n') (walked s rest)))
      (sym alive ∙ (cell_agree m n'.memory same.0 k).1)
      (owners_same s settled hands leaks m waits excused kept viewed.owned viewed.known live only rest (cell_place d k) (OfCell k) w t spot (holds.owners x w own.1) reaches lead
      (view_clean h sees seeing settled hands leaks m waits other facts v kept viewed holds alone live x rest w own.1 opens) n' same))

  view_same : (x t : ℕ) (rest : List run.Step) (d : ℕ) (c n : Bool) → is_view s x ≡ true → is_bundle s x ≡ false → shape_of s.table (object_at s x).of ≡ shape.Access d c n
      → Lead s.table d rest t → IsOpen x (way_along rest (All (variable x))) → (n' : Now) → SameNow s here_now n'
      → SameWalk (run.ToDesignated ∷ rest) (variable_place h x) n'
  view_same x t rest d c n view bare is lead opens n' same =
      let k : Place = variable_place h x in
      let type : designated s.table (object_at s x).of ≡ d = ap (λ z. designated_of (object_at s x).of (view_of_shape z)) is in
      subst (λ z. SameTo s (followed_by (designated_place (designated s.table k.of) (words_of s m k) here_now) (walked s rest))
      (followed_by (designated_place (designated s.table k.of) z n') (walked s rest))) (words_agree s m n'.memory same.0 k (view_none x view))
      (subst (λ z. SameTo s (followed_by (designated_place (designated s.table k.of) z here_now) (walked s rest))
      (followed_by (designated_place (designated s.table k.of) z n') (walked s rest)))
      (sym (one_slot h sees seeing settled hands leaks m waits other facts v kept viewed holds alone live x d c n is))
      (subst (λ z. SameTo s (followed_by (designated_place z ((slot_of x).word ∷ []) here_now) (walked s rest))
      (followed_by (designated_place z ((slot_of x).word ∷ []) n') (walked s rest))) (sym type)
      (met x t rest d c n view bare is lead opens n' same (slot_of x).word refl)))

  -- ---- the parts of a formal

  abbrev InFormal : ℕ → List Step → Loc
  InFormal x p = part (OfRoot (OfVariable (home s h.frame x) x)) p

  -- no word of one is gone
  part_none : (x : ℕ) (p : List Step) (k : Place) → is_view_formal s x ≡ true → Spot s m hands k (InFormal x p) → NoneGone (slots_of s m k)
  part_none x p k formal spot =
      spot_whole s settled m hands only kept k (InFormal x p) spot
      (subst (λ l. (q : List Step) → is_leaf s.table (content s m hands l).of (q ++ steps_in (InFormal x p)) ≡ true
      → (get_or (content s m hands l).slots (offset_in s.table (content s m hands l).of (q ++ steps_in (InFormal x p))) no_slot).gone ≡ false)
      (sym (trunk_part (OfRoot (OfVariable (home s h.frame x) x)) p))
      (λ q leaf. never (get_or (variable_slots s (home s h.frame x) x m.variables) (offset_in s.table (object_at s x).of (q ++ steps_in (InFormal x p))) no_slot).gone
      (λ gone. true_false (is_view_formal s x) formal (only.1 (home s h.frame x) x (offset_in s.table (object_at s x).of (q ++ steps_in (InFormal x p))) gone))))
    where
      never : (b : Bool) → (b ≡ true → ⊥) → b ≡ false
      never true none = absurd (none refl)
      never false none = refl

  -- from the cell that a part designates
  part_same : (x t : ℕ) (rest : List run.Step) (p : List Step) (k : Place) (d : ℕ) (c : Bool) → is_bundle s x ≡ true → Spot s m hands k (InFormal x p)
      → shape_of s.table k.of ≡ shape.Access d c true → Lead s.table d rest t → (n' : Now) → SameNow s here_now n' → (z : machine.Word) → (get_or (slots_at s m k.base) k.at no_slot).word ≡ z
      → SameTo s (followed_by (designated_place d (z ∷ []) here_now) (walked s rest)) (followed_by (designated_place d (z ∷ []) n') (walked s rest))
  part_same x t rest p k d c bundle spot is lead n' same (machine.Int a) e = (refl, same)
  part_same x t rest p k d c bundle spot is lead n' same (machine.Enumerated a) e = (refl, same)
  part_same x t rest p k d c bundle spot is lead n' same machine.Null e = (refl, same)
  part_same x t rest p k d c bundle spot is lead n' same (machine.Cell a) e =
      let found = part_found_there h sees seeing settled hands leaks m waits other facts v kept viewed holds alone live x p k d c true a bundle spot is e in
      let w : Way = found.0 in
      let alive : (cell m a).freed ≡ false = way_live view_here w a viewed.owned (owners_rooted s w found.5) found.3 in
      let along_way : expand v (way_along rest (All (along (variable x) p))) ≡ way_along rest w =
      expand_steps v rest (All (along (variable x) p)) tt ∙ ap (way_along rest) found.2 in
      let inner : InPart v (way_along rest (All (along (variable x) p))) = in_part_along v rest (All (along (variable x) p))
      (record { frame = home s h.frame x; object = x; steps = p; rest = []; way = w; is = refl; has = found.1; deep = found.4 }) in
      subst (λ b. SameTo s (followed_by (if b then Traps Touched here_now else Done (cell_place d a) here_now) (walked s rest))
      (followed_by (designated_place d (machine.Cell a ∷ []) n') (walked s rest))) (sym alive)
      (subst (λ b. SameTo s (walked s rest (cell_place d a) here_now) (followed_by (if b then Traps Touched n' else Done (cell_place d a) n') (walked s rest)))
      (sym alive ∙ (cell_agree m n'.memory same.0 a).1)
      (owners_same s settled hands leaks m waits excused kept viewed.owned viewed.known live only rest (cell_place d a) (OfCell a) w t found.6 found.5 found.3 lead
      (part_clean h sees seeing settled hands leaks m waits other facts v kept viewed holds alone live rest x p w (way_along rest (All (along (variable x) p))) found.1 inner along_way) n' same))

  -- a name goes on in a formal's own words up to the first access value
  bundle_same : (x t : ℕ) (way : List run.Step) (p : List Step) (k : Place) → is_bundle s x ≡ true → Spot s m hands k (InFormal x p) → Lead s.table k.of way t
      → (n' : Now) → SameNow s here_now n' → SameWalk way k n'
  bundle_same x t [] p k bundle spot lead n' same = (refl, same)
  bundle_same x t (run.ToComponent i ∷ rest) p k bundle spot lead n' same =
      bundle_same x t rest (Component i ∷ p) (component_place s.table i k) bundle (component_spot s settled hands leaks m k (InFormal x p) i spot lead.0) lead.1 n' same
  bundle_same x t (run.ToElement i ∷ rest) p k bundle spot lead n' same =
      bundle_same x t rest (Element i ∷ p) (element_place s.table i k) bundle (element_spot s settled hands leaks m k (InFormal x p) i spot lead.0) lead.1 n' same
  bundle_same x t (run.ToDesignated ∷ rest) p k bundle spot (d, c, is, lead) n' same =
      let word = one_there s settled hands leaks m waits excused kept viewed.owned viewed.known live k (InFormal x p) d c spot is in
      let type : designated s.table k.of ≡ d = ap (λ z. designated_of k.of (view_of_shape z)) is in
      subst (λ z. SameTo s (followed_by (designated_place (designated s.table k.of) (words_of s m k) here_now) (walked s rest))
      (followed_by (designated_place (designated s.table k.of) z n') (walked s rest))) (words_agree s m n'.memory same.0 k (part_none x p k (bundle_formal s x bundle) spot))
      (subst (λ z. SameTo s (followed_by (designated_place (designated s.table k.of) z here_now) (walked s rest))
      (followed_by (designated_place (designated s.table k.of) z n') (walked s rest)))
      (sym (ap (map (λ (z : Slot). z.word)) word))
      (subst (λ z. SameTo s (followed_by (designated_place z ((get_or (slots_at s m k.base) k.at no_slot).word ∷ []) here_now) (walked s rest))
      (followed_by (designated_place z ((get_or (slots_at s m k.base) k.at no_slot).word ∷ []) n') (walked s rest))) (sym type)
      (part_same x t rest p k d c bundle spot is lead n' same (get_or (slots_at s m k.base) k.at no_slot).word refl)))

  pub name_same : (x t : ℕ) (way : List run.Step) → Starts s.table (object_at s x).of way t → IsOpen x (way_along way (variable x))
      → (n' : Now) → SameNow h.typing (record { memory = m; waits = waits }) n'
      → SameTo h.typing (walked h.typing way (variable_place h x) (record { memory = m; waits = waits })) (walked h.typing way (variable_place h x) n')
  name_same x t way starts opens n' same = by_type (is_view s x) refl (is_bundle s x) refl way starts opens
    where
      by_type : (b : Bool) → is_view s x ≡ b → (c : Bool) → is_bundle s x ≡ c → (way : List run.Step) → Starts s.table (object_at s x).of way t
          → IsOpen x (way_along way (variable x)) → SameWalk way (variable_place h x) n'
      by_type false plain c bundle way starts opens = owner_same x t way plain starts opens n' same
      by_type true view true bundle way starts opens =
          bundle_same x t way [] (variable_place h x) bundle (record { base = refl; made = tt; at = refl; there = refl; of = inl refl })
          (starts_leads s.table (object_at s x).of t way (bundle_named s x bundle) starts) n' same
      by_type true view false bare [] starts opens = (refl, same)
      by_type true view false bare (run.ToComponent i ∷ rest) (less, lead) opens =
          let none = no_parts_in (shape_of s.table (object_at s x).of) (holds.access x view bare) in absurd (omega (arith, none.0, less))
      by_type true view false bare (run.ToElement n ∷ rest) (less, lead) opens =
          let none = no_parts_in (shape_of s.table (object_at s x).of) (holds.access x view bare) in absurd (omega (arith, none.1, less))
      by_type true view false bare (run.ToDesignated ∷ rest) (d, c, n, is, lead) opens = view_same x t rest d c n view bare is lead opens n' same

  -- ---- what isn't gone

  abbrev WalkedTo : Way → ℕ → Evaluated Place → Type 0
  WalkedTo w t y = Walked s settled hands leaks m waits w t y

  -- What is known where a name leads.
  abbrev pub AtPlace : ℕ → Place → Type 0
  AtPlace t k = (l : Loc) × Spot h.typing m hands k l × (k.of ≡ t)

  abbrev pub WholePlace : ℕ → Place → Type 0
  WholePlace t k = (l : Loc) × Spot h.typing m hands k l × (k.of ≡ t) × NoneGone (slots_of h.typing m k)

  pub found_at : (w : Way) (t : ℕ) (y : Evaluated Place) → Walked h.typing settled hands leaks m waits w t y → Quiet (record { memory = m; waits = waits }) (λ k. AtPlace t k) y
  found_at w t (Done k n) (l, is, spot, reaches, of) = (is, (l, spot, of))
  found_at w t (Raises e n) is = is
  found_at w t (Traps e n) is = is

  -- a place in a variable's own words
  pub own_at : (x t : ℕ) (way : List run.Step) (p : List Step) (k : Place) → Spot h.typing m hands k (part (OfRoot (OfVariable (home h.typing h.frame x) x)) p) → Lead h.typing.table k.of way t
      → ((z : Way) → Past z (way_along way (along (Object (OfVariable (home h.typing h.frame x) x)) p)) → ⊥)
      → Quiet (record { memory = m; waits = waits }) (λ k. AtPlace t k) (walked h.typing way k (record { memory = m; waits = waits }))
      × ((n' : Now) → SameNow h.typing (record { memory = m; waits = waits }) n' → SameTo h.typing (walked h.typing way k (record { memory = m; waits = waits })) (walked h.typing way k n'))
  own_at x t [] p k spot lead nothing = ((refl, (InFormal x p, spot, lead)), λ n' same. (refl, same))
  own_at x t (run.ToComponent i ∷ rest) p k spot lead nothing =
      own_at x t rest (Component i ∷ p) (component_place s.table i k) (component_spot s settled hands leaks m k (InFormal x p) i spot lead.0) lead.1 nothing
  own_at x t (run.ToElement i ∷ rest) p k spot lead nothing =
      own_at x t rest (Element i ∷ p) (element_place s.table i k) (element_spot s settled hands leaks m k (InFormal x p) i spot lead.0) lead.1 nothing
  own_at x t (run.ToDesignated ∷ rest) p k spot lead nothing =
      absurd (nothing (along (variable x) p) (past_along (along (variable x) p) (All (along (variable x) p)) rest (under_itself (along (variable x) p))))

  found_whole : (w : Way) (t : ℕ) → ((k : Place) (l : Loc) → Spot s m hands k l → Reaches view_here w l → k.of ≡ t → IsWhole s settled m hands l)
      → (y : Evaluated Place) → WalkedTo w t y → Quiet here_now (λ k. WholePlace t k) y
  found_whole w t whole (Done k n) (l, is, spot, reaches, of) = (is, (l, spot, of, spot_whole s settled m hands only kept k l spot (whole k l spot reaches of)))
  found_whole w t whole (Raises e n) is = is
  found_whole w t whole (Traps e n) is = is

  raised : (t : ℕ) (y : Evaluated Place) → IsRaised h sees seeing settled hands leaks m waits other facts v kept viewed holds alone live m y → Quiet here_now (λ k. WholePlace t k) y
  raised t (Raises e n) is = is
  raised t (Done k n) none = absurd none
  raised t (Traps e n) none = absurd none

  -- the word of a view
  pub view_whole : (x t : ℕ) (way : List run.Step) → Starts s.table (object_at s x).of way t → is_anonymous (view_of_shape (shape_of s.table t)) ≡ true
      → IsOpen x (way_along way (variable x)) → Quiet (record { memory = m; waits = waits }) (λ k. WholePlace t k) (walked h.typing way (variable_place h x) (record { memory = m; waits = waits }))
  view_whole x t way starts view opens =
      found_whole (expand v (way_along way (variable x))) t
      (λ k l spot reaches of. plain_whole s settled m hands k l spot (view_leaf s.table settled k.of (ap (λ z. is_anonymous (view_of_shape (shape_of s.table z))) of ∙ view)))
      (walked s way (variable_place h x) here_now) (name_walked h sees seeing settled hands leaks m waits other facts v kept viewed holds alone live x t way starts opens)

  -- No name leads to it that was moved, unless it is looked at through an observer.
  abbrev pub OpensWhole : ℕ → Way → Type 0
  OpensWhole x u = sees x ≡ false → OpenWhole facts u

  module _ (index_law : IndexLaw) (own_law : OwnsByShape h.typing.table) (parts_named : PartsAreNamed h.typing.table) where
    -- what a name stands for isn't moved
    unmoved : (x : ℕ) (u : Way) → Named (home s h.frame) u → number_of u ≡ x → (sees x ≡ true → Lifted v u) → OpensWhole x u → excused (expand v u) → ⊥
    unmoved x u named root lifted opens (inr o) =
        not_gone h sees seeing settled hands leaks m waits other facts v kept viewed holds alone live index_law own_law parts_named x u named root lifted o
    unmoved x u named root lifted opens (inl moved) = by_kind (sees x) refl
      where
        by_kind : (b : Bool) → sees x ≡ b → ⊥
        by_kind false e =
            itself_away (home s h.frame) sees other v view_here facts viewed u (named, ap sees root ∙ e) (opens e) moved
        by_kind true e =
            let l = lifted e in
            seen_away_below (home s h.frame) sees other v view_here facts viewed u (expand v u) l named
            (ap sees (sym (lifted_root v u l) ∙ root) ∙ e) (under_itself (expand v u)) moved

    -- an access value that an owner has
    access_there : (x t d : ℕ) (c : Bool) (way : List run.Step) → shape_of s.table t ≡ shape.Access d c true
        → (sees x ≡ true → Lifted v (way_along way (variable x))) → IsOwners s (expand v (way_along way (variable x))) → OpensWhole x (way_along way (variable x))
        → (y : Evaluated Place) → WalkedTo (expand v (way_along way (variable x))) t y → Quiet here_now (λ k. WholePlace t k) y
    access_there x t d c way is lifted owners opens y there =
        let u : Way = way_along way (variable x) in
        let named : Named (home s h.frame) u = named_along (home s h.frame) way (variable x) refl in
        found_whole (expand v u) t
        (λ k l spot reaches of. access_whole s settled m hands leaks excused viewed.known (expand v u) l (owners_rooted s (expand v u) owners) reaches (live (expand v u) l owners reaches) k d c spot
        (ap (shape_of s.table) of ∙ is) (unmoved x u named (number_along way (variable x)) lifted opens)) y there

    -- a formal itself
    formal_itself : (x t : ℕ) (way : List run.Step) → is_view_formal s x ≡ true → way ≡ [] → Starts s.table (object_at s x).of way t
        → Quiet here_now (λ k. WholePlace t k) (walked s way (variable_place h x) here_now)
    formal_itself x t [] formal is starts = (
      refl,
      (
        OfRoot (OfVariable (home s h.frame x) x),
        record { base = refl; made = tt; at = refl; there = refl; of = inl refl },
        starts,
        view_slots x (ap (λ b. is_anonymous (view_of s x) || b) formal ∙ or_true (is_anonymous (view_of s x))),
      ),
    )
      where
        or_true : (b : Bool) → b || true ≡ true
        or_true true = refl
        or_true false = refl

        view_slots : (x : ℕ) → is_view s x ≡ true → NoneGone (slots_of s m (variable_place h x))
        view_slots = view_none
    formal_itself x t (step ∷ way) formal is starts = absurd (false≢true (ap is_nil is))

    pub access_found : (x t d : ℕ) (c : Bool) (way : List run.Step) → Starts s.table (object_at s x).of way t → shape_of s.table t ≡ shape.Access d c true
        → IsOpen x (way_along way (variable x)) → OpensWhole x (way_along way (variable x))
        → Quiet (record { memory = m; waits = waits }) (λ k. WholePlace t k) (walked h.typing way (variable_place h x) (record { memory = m; waits = waits }))
    access_found x t d c way starts is opens whole =
        let there = name_walked h sees seeing settled hands leaks m waits other facts v kept viewed holds alone live x t way starts opens in
        by_bundle (is_bundle s x) refl there
      where
        u : Way
        u = way_along way (variable x)

        named : Named (home s h.frame) (way_along way (variable x))
        named = named_along (home s h.frame) way (variable x) refl

        -- a name in a formal with parts
        bundled : is_bundle s x ≡ true → WalkedTo (expand v (way_along way (variable x))) t (walked s way (variable_place h x) here_now)
            → Quiet here_now (λ k. WholePlace t k) (walked s way (variable_place h x) here_now)
        bundled bundle there = elim (bundle_cases h sees seeing settled hands leaks m waits other facts v kept viewed holds alone live x t way bundle starts) [
          | inl (q, k, same, is_done, spot, of) ↦ subst (λ y. Quiet here_now (λ k. WholePlace t k) y) (sym is_done)
              (refl, (InFormal x q, spot, of, part_none x q k (bundle_formal s x bundle) spot))
          | inr (inl inner) ↦ found_whole (expand v u) t
              (λ k l spot reaches of. access_whole s settled m hands leaks excused viewed.known (expand v u) l (owners_rooted s (expand v u) (part_owners s sees h.frame v m u holds inner)) reaches
              (live (expand v u) l (part_owners s sees h.frame v m u holds inner) reaches) k d c spot
              (ap (shape_of s.table) of ∙ is) (λ gone. inside_whole inner gone)) (walked s way (variable_place h x) here_now) there
          | inr (inr raises) ↦ raised t (walked s way (variable_place h x) here_now) raises
        ]
          where
            inside_whole : InPart v (way_along way (variable x)) → excused (expand v (way_along way (variable x))) → ⊥
            inside_whole l (inr gone) =
                viewed.whole_parts l.object l.steps l.way (expand v u) l.has gone
                (inr (subst (Under l.way) (sym (in_part_way v u l)) (on_under l.way l.rest)))
            inside_whole l (inl away) =
                part_above_away (home s h.frame) sees other v view_here facts viewed u (expand v u) l (under_itself (expand v u)) away

        by_bundle : (b : Bool) → is_bundle s x ≡ b → WalkedTo (expand v (way_along way (variable x))) t (walked s way (variable_place h x) here_now)
            → Quiet here_now (λ k. WholePlace t k) (walked s way (variable_place h x) here_now)
        by_bundle true bundle there = bundled bundle there
        by_bundle false bare there =
            elim (name_lifted h sees seeing settled hands leaks m waits other facts v kept viewed holds alone live x t way bare (λ e b q shape_is. named_is d e c b q (sym is ∙ shape_is)) starts) [
              | inl plain ↦ access_there x t d c way is
                  (λ e. absurd (true_false (sees x) e (plain_sees s sees seeing x plain)))
                  (stands_owners s sees h.frame v m u holds named
                  (inl (ap (is_view_formal s) (number_along way (variable x)) ∙ (neither (is_anonymous (view_of s x)) (is_view_formal s x) plain).1))) whole
                  (walked s way (variable_place h x) here_now) there
              | inr more ↦ elim more [
                | inl lifted ↦ access_there x t d c way is (λ e. lifted.0) lifted.2 whole (walked s way (variable_place h x) here_now) there
                | inr last ↦ elim last [
                  | inl raises ↦ raised t (walked s way (variable_place h x) here_now) raises
                  | inr itself ↦ formal_itself x t way itself.0 itself.1 starts
                ]
              ]
            ]

    -- What is known of a place that is taken: nothing that it has is gone, and it isn't in a formal that owns nothing.
    abbrev pub MovablePlace : ℕ → Place → Type 0
    MovablePlace t k = WholePlace t k × ((f y : ℕ) → k.base ≡ memory.OfVariable f y → is_view_formal h.typing y ≡ false)

    found_movable : (w : Way) (t : ℕ) → ((l : Loc) → Reaches view_here w l → IsOwners s w)
        → ((k : Place) (l : Loc) → Spot s m hands k l → Reaches view_here w l → k.of ≡ t → IsWhole s settled m hands l)
        → (y : Evaluated Place) → WalkedTo w t y → Quiet here_now (λ k. MovablePlace t k) y
    found_movable w t owners whole (Done k n) (l, is, spot, reaches, of) =
        (is, ((l, spot, of, spot_whole s settled m hands only kept k l spot (whole k l spot reaches of)), in_owner k l spot (live w l (owners l reaches) reaches)))
      where
        by_owner : (b : Bool) → not b ≡ true → b ≡ false
        by_owner true e = absurd (false≢true e)
        by_owner false e = refl

        in_owner : (k : Place) (l : Loc) → Spot s m hands k l → (content s m hands (trunk l)).owns ≡ true
            → (f y : ℕ) → k.base ≡ memory.OfVariable f y → is_view_formal s y ≡ false
        in_owner k l spot owns f y at =
            by_owner (is_view_formal s y) (sym (ap (λ z. (content s m hands z).owns) (spot.base ∙ ap loc_of at)) ∙ owns)
    found_movable w t owners whole (Raises e n) is = is
    found_movable w t owners whole (Traps e n) is = is

    -- a place of which no part is moved or borrowed
    pub owner_found : (x t : ℕ) (way : List run.Step) → Starts s.table (object_at s x).of way t → sees x ≡ false
        → (is_view_formal s x ≡ true → way ≡ [] → ⊥)
        → IsOpen x (way_along way (variable x)) → Unborrowed facts (way_along way (variable x)) → Unmoved facts (way_along way (variable x))
        → Quiet (record { memory = m; waits = waits }) (λ k. MovablePlace t k) (walked h.typing way (variable_place h x) (record { memory = m; waits = waits }))
    owner_found x t way starts plain whole opens unborrowed clean =
        let u : Way = way_along way (variable x) in
        let named : Named (home s h.frame) u = named_along (home s h.frame) way (variable x) refl in
        let seen_not : sees (number_of u) ≡ false = ap sees (number_along way (variable x)) ∙ plain in
        let owners : (l : Loc) → Reaches view_here (expand v u) l → IsOwners s (expand v u) =
        changed_owners h sees seeing settled hands leaks m waits other facts v kept viewed holds alone live x t way plain whole starts in
        found_movable (expand v u) t owners
        (λ k l spot reaches of. unmoved_whole s settled m hands leaks excused viewed.known (expand v u) l (owners_rooted s (expand v u) (owners l reaches)) reaches
        (live (expand v u) l (owners l reaches) reaches)
        (λ p moved. elim moved [
          | inl said ↦ clean_away (home s h.frame) sees other v view_here facts viewed u (along (expand v u) p) (named, seen_not) unborrowed clean
              (under_along (expand v u) (expand v u) p (under_itself (expand v u))) said
          | inr o ↦ gone_off s sees h.frame other v view_here facts viewed alone u (along (expand v u) p) named seen_not
              (inr (under_along (expand v u) (expand v u) p (under_itself (expand v u)))) o
        ]))
        (walked s way (variable_place h x) here_now) (name_walked h sees seeing settled hands leaks m waits other facts v kept viewed holds alone live x t way starts opens)

    -- what is seen through an observer or a formal is whole, as is each part
    seen_whole : (u : Way) (l : Lifted v u) → Named (home s h.frame) u → sees l.object ≡ true → (p : List Step) → excused (along (expand v u) p) → ⊥
    seen_whole u l named sight p (inl away) =
        seen_away_below (home s h.frame) sees other v view_here facts viewed u (along (expand v u) p) l named sight
        (under_along (expand v u) (expand v u) p (under_itself (expand v u))) away
    seen_whole u l named sight p (inr gone) = elim (viewed.views.0 l.object l.way l.has) [
      | inl own ↦ (let on = next (home s h.frame) sees v view_here facts viewed.views u l own named in
          gone_off s sees h.frame other v view_here facts viewed alone (next_of v u l) (along (expand v u) p) on.plain.0 on.plain.1
          (inr (subst (λ z. Under z (along (expand v u) p)) (sym on.same) (under_along (expand v u) (expand v u) p (under_itself (expand v u))))) gone)
      | inr passed ↦ viewed.whole l.object l.way (along (expand v u) p) l.has (inr passed.given) gone
          (inr (under_along l.way (expand v u) p (subst (Under l.way) (sym (lifted_way v u l)) (on_under l.way l.rest))))
    ]

    part_whole : (u : Way) → InPart v u → (p : List Step) → excused (along (expand v u) p) → ⊥
    part_whole u l p (inl away) =
        part_away_below (home s h.frame) sees other v view_here facts viewed u (along (expand v u) p) l
        (under_along (expand v u) (expand v u) p (under_itself (expand v u))) away
    part_whole u l p (inr gone) =
        viewed.whole_parts l.object l.steps l.way (along (expand v u) p) l.has gone
        (inr (under_along l.way (expand v u) p (subst (Under l.way) (sym (in_part_way v u l)) (on_under l.way l.rest))))

    -- a place of a named type, of which no part is moved or borrowed, unless it is looked at through an observer or a formal
    pub place_whole : (x t : ℕ) (way : List run.Step) → Starts s.table (object_at s x).of way t → IsNamed s.table t → IsOpen x (way_along way (variable x))
        → (sees x ≡ false → Unborrowed facts (way_along way (variable x)) × Unmoved facts (way_along way (variable x)))
        → Quiet (record { memory = m; waits = waits }) (λ k. WholePlace t k) (walked h.typing way (variable_place h x) (record { memory = m; waits = waits }))
    place_whole x t way starts of_name opens clears =
        by_bundle (is_bundle s x) refl (name_walked h sees seeing settled hands leaks m waits other facts v kept viewed holds alone live x t way starts opens)
      where
        u : Way
        u = way_along way (variable x)

        named : Named (home s h.frame) (way_along way (variable x))
        named = named_along (home s h.frame) way (variable x) refl

        found_on : IsOwners s (expand v (way_along way (variable x))) → ((p : List Step) → excused (along (expand v (way_along way (variable x))) p) → ⊥)
            → (y : Evaluated Place) → WalkedTo (expand v (way_along way (variable x))) t y → Quiet here_now (λ k. WholePlace t k) y
        found_on owners whole y there =
            found_whole (expand v u) t
            (λ k l spot reaches of. unmoved_whole s settled m hands leaks excused viewed.known (expand v u) l (owners_rooted s (expand v u) owners) reaches
            (live (expand v u) l owners reaches) whole) y there

        place_of : (y : Evaluated Place) → Quiet here_now (λ k. MovablePlace t k) y → Quiet here_now (λ k. WholePlace t k) y
        place_of (Done k n) found = (found.0, found.1.0)
        place_of (Raises e n) is = is
        place_of (Traps e n) never = never

        -- through an owner or a borrower
        changed : sees x ≡ false → (is_view_formal s x ≡ true → way ≡ [] → ⊥) → Quiet here_now (λ k. WholePlace t k) (walked s way (variable_place h x) here_now)
        changed plain on_way = place_of (walked s way (variable_place h x) here_now) (owner_found x t way starts plain on_way opens (clears plain).0 (clears plain).1)

        not_itself : Lifted v (way_along way (variable x)) → way ≡ [] → ⊥
        not_itself l none = subst IsDeep (ap (λ z. way_along z (variable x)) none) (lifted_deep v u l)

        lifted_there : (l : Lifted v (way_along way (variable x))) → IsOwners s (expand v (way_along way (variable x))) → (b : Bool) → sees x ≡ b
            → WalkedTo (expand v (way_along way (variable x))) t (walked s way (variable_place h x) here_now)
            → Quiet here_now (λ k. WholePlace t k) (walked s way (variable_place h x) here_now)
        lifted_there l owners false plain there = changed plain (λ formal none. not_itself l none)
        lifted_there l owners true sight there =
            found_on owners (seen_whole u l named (ap sees (sym (lifted_root v u l) ∙ number_along way (variable x)) ∙ sight)) (walked s way (variable_place h x) here_now) there

        by_bundle : (b : Bool) → is_bundle s x ≡ b → WalkedTo (expand v (way_along way (variable x))) t (walked s way (variable_place h x) here_now)
            → Quiet here_now (λ k. WholePlace t k) (walked s way (variable_place h x) here_now)
        by_bundle true bundle there = elim (bundle_cases h sees seeing settled hands leaks m waits other facts v kept viewed holds alone live x t way bundle starts) [
          | inl (q, k, same, is_done, spot, of) ↦ subst (λ y. Quiet here_now (λ k. WholePlace t k) y) (sym is_done)
              (refl, (InFormal x q, spot, of, part_none x q k (bundle_formal s x bundle) spot))
          | inr (inl inner) ↦ found_on (part_owners s sees h.frame v m u holds inner) (part_whole u inner) (walked s way (variable_place h x) here_now) there
          | inr (inr raises) ↦ raised t (walked s way (variable_place h x) here_now) raises
        ]
        by_bundle false bare there = elim (name_lifted h sees seeing settled hands leaks m waits other facts v kept viewed holds alone live x t way bare of_name starts) [
          | inl plain ↦ changed (plain_sees s sees seeing x plain)
              (λ formal none. true_false (is_view_formal s x) formal (neither (is_anonymous (view_of s x)) (is_view_formal s x) plain).1)
          | inr more ↦ elim more [
            | inl lifted ↦ lifted_there lifted.0 lifted.2 (sees x) refl there
            | inr last ↦ elim last [
              | inl raises ↦ raised t (walked s way (variable_place h x) here_now) raises
              | inr itself ↦ formal_itself x t way itself.0 itself.1 starts
            ]
          ]
        ]
