-- Where a call ends, what its formals have is given back to the places that it was taken from.
--
-- All of it is seen from the frame of the caller: what is gone in the variables of the frame that ends is
-- known as such.
use Rattle.soundness.specs.ViewedSoundness.Holds.{is_view}
use Rattle.std.proofs.Common.{◌≡◌, refl, sym, ap, ◌∙◌, subst, ◌⊎◌, inl, inr, ℕ, suc, ◌+◌, Bool, true, false, not, List, [], ◌∷◌, ◌++◌, take, drop, length, get_or, arith, append-nil, if◌then◌else◌, Some}
use Rattle.std.proofs.lemmas.List.{length-map}
use Rattle.std.proofs.lemmas.Bool.{false≢true}
use Rattle.machine.specs.spark_base.Lists.{Has}
use Rattle.machine.specs.place_names.declared.fact.Fact.{Fact}
use Rattle.machine.specs.type_definitions.Types.{words, full, is_scalar, is_owning}
use Rattle.machine.specs.flow_paths.Objects.{Typing, object_at, is_package_object}
use Rattle.machine.specs.flow_paths.Scopes.{is_within}
use Rattle.machine.specs.Words.{access_offsets, fits_type}
use Rattle.machine.specs.Words as machine
use Rattle.machine.specs.Memory.{Slot, Memory, Place, cell, fresh, no_slot, variable_slots, slots_at, slots_of, words_of, gone_at, moved_out, stored}
use Rattle.machine.specs.Memory as memory
use Rattle.machine.specs.Evaluate.{Now, Evaluated, followed_by, variable_place, checked}
use Rattle.machine.specs.States.{Waiting, Leak, Return}
use Rattle.machine.specs.Step.{Turn, typing, here, copied_back}
use Rattle.soundness.specs.OwnedWays.Ways.{Step, OfVariable, OfHand, Loc, OfRoot, OfCell, Inside, Way, Object, Empty, Held, Under, Past, Owned, Reaches, part, along, base_of, View}
use Rattle.soundness.proofs.OwnedWays.Moving.{parts_apart}
use Rattle.soundness.proofs.OwnedWays.Unique.{one_way}
use Rattle.soundness.proofs.OwnedWays.Locations.{reaches_along}
use Rattle.soundness.specs.PartOffsets.Parts.{IsSettled}
use Rattle.soundness.specs.Seen.{content, trunk, steps_in, word_in, seen, home}
use Rattle.soundness.specs.Typed.{Matches, OwnsByShape, Kept, Spot}
use Rattle.soundness.proofs.Joined.{trunk_part}
use Rattle.soundness.proofs.Contents.{word_no}
use Rattle.soundness.proofs.Steps.{matches_words, no_leaf, taken_slots, room}
use Rattle.soundness.proofs.Lasting.{keeps, put_away}
use Rattle.soundness.proofs.Returning.{Backs, formal_fixed}
use Rattle.soundness.specs.OwnedLoans.Views.{Views, IsMovedBy}
use Rattle.soundness.proofs.ViewedSoundness.Evaluated.{matches_named}
use Rattle.viewed_steps.proofs.Left.{cells_same}
use Rattle.viewed_steps.specs.Taken.{Lodge, IsPlainPlace, IsCopiedTo, AreCarried, TakenBy, IsInside, IsAmong, IsTakenIn, IsPassedOn, IsBare, IsTaken, IsApartFrom, IsAnother, AreTaken, IsOwnAt}
use Rattle.viewed_steps.proofs.Between.{carried_same, carried_then, taken_more, same_reaches, more_gone, base_along, base_under, same_variable, taken_less, OwnersStand, same_stand, Begins, begun_low, home_low}
use Rattle.viewed_steps.proofs.Carried.{inside_begins, inside_low, trunk_is, start_reached, carried_gone, carried_gone_cell, carried_held_cell, carried_gone_to, carried_gone_cell_to, carried_holds_cell, inside_at, inside_spot, inside_reached, inside_base, inside_owns, inside_word, carried_bare, carried_held, carried_off, carried_off_stays, carried_holds, carried_to, carried_to_stays, past_other}
use Rattle.viewed_steps.proofs.Beside.{put_beside}
use Rattle.viewed_steps.proofs.Alike.{Enters, moved_there, stored_there, one_then, if_back, backs_on, IsPlainSpot, variable_plain, plain_place, one_there}
use Rattle.viewed_steps.proofs.Entered.{matches_back, inside_no_view}
use Rattle.viewed_steps.proofs.Lodged.{cell_live}
use Rattle.viewed_steps.proofs.Views.{AreAccess, AreFar}
use Rattle.viewed_steps.proofs.Constructors.{is_held_word, is_of_cell_loc}
use Rattle.soundness.proofs.Parted.{by_either}

-- A place in a variable is there, and one in a cell that isn't freed.
abbrev pub IsThere : Memory → memory.Base → Type 0
IsThere m (memory.OfVariable f x) = Unit {0}
IsThere m (memory.OfCell n) = (cell m n).freed ≡ false

pub place_is : (t : Turn) (r : Return) (rest : List Return) (begun : Now) (b : memory.Base) → r.to.base ≡ b → IsThere begun.memory b → copied_back t (r ∷ rest) begun
    ≡ followed_by (checked (here t) r.to.of (words_of (typing t) begun.memory (variable_place (here t) r.formal)) begun)
    (λ ws n. copied_back t rest (record n { memory = stored (typing t) r.to ws (moved_out (typing t) (variable_place (here t) r.formal) n.memory) }))
place_is t r rest begun (memory.OfVariable f x) base there = rw base refl
place_is t r rest begun (memory.OfCell n) base there = rw (base, there) refl

hand_apart : {h f x : ℕ} → OfRoot (OfHand h) ≡ OfRoot (OfVariable f x) → ⊥
hand_apart e = cc

module _ (t : Turn) (sees : ℕ → Bool) (settled : IsSettled (typing t).table) (own_law : OwnsByShape (typing t).table) (in_formals : AreAccess (typing t))
    (hands : List Waiting) (leaks : List Leak) (depth : ℕ) (deep : length t.outer ≡ suc depth) (v : Views)
    (far : AreFar (home (typing t) depth) v depth) (only : (x : ℕ) (w : Way) → v.way x ≡ Some w → is_view (typing t) x ≡ true) (facts : List Fact) (scope : List ℕ)
    (other : Way → Type 0)
    (free : (h : ℕ) (w : Way) → Under (Object (OfHand h)) w → IsMovedBy (home (typing t) depth) v facts w ⊎ other w → ⊥)
    (whole : (x : ℕ) (w : Way) → base_of w ≡ OfRoot (OfVariable (suc depth) x) → IsMovedBy (home (typing t) depth) v facts w ⊎ other w → ⊥)
    (cells : List Lodge) (begins : (c : Lodge) → Has cells c → (g : ℕ) × (y : ℕ) × (base_of c.way ≡ OfRoot (OfVariable g y)) × (g ≡ suc depth → ⊥)) where
  abbrev s : Typing
  s = typing t

  -- The cells of places are there, and no way that is to be given back goes before one.
  abbrev pub AreThere : List Way → Memory → Type 0
  AreThere ways m = (c : Lodge) → Has cells c → Reaches (seen (typing t) m hands leaks) c.way (OfCell c.cell) × ((to : Way) → Has ways to → Past to c.way → ⊥)

  -- It begins at a variable of the frame that ends, but at none of these formals.
  abbrev pub IsLeft : List Return → Way → Type 0
  IsLeft returns w = (x : ℕ) × (base_of w ≡ OfRoot (OfVariable (suc depth) x)) × ((r : Return) → Has returns r → r.formal ≡ x → ⊥)

  -- What is gone for the caller, while these are still to be given back.
  abbrev pub AwayBy : List Return → List Way → Way → Type 0
  AwayBy returns ways w = other w ⊎ (TakenBy ways w ⊎ IsLeft returns w)

  abbrev pub StandsAway : List Return → List Way → Memory → Type 0
  StandsAway returns ways m = OwnersStand (home (typing t) depth) v facts (AwayBy returns ways) (seen (typing t) m hands leaks)

  -- All is given back: words are typed; a variable that has a number had it before, or is one of the caller in
  -- scope; the formals have none; views keep their words; and what was gone stays so, but in the places.
  pub record IsBack (returns : List Return) (ways : List Way) (m n : Memory) : Type 0 where
    pub typed : Kept (typing t) n hands
    pub stand : StandsAway [] [] n
    pub held : (g y : ℕ) (p : List Step) (c : ℕ) → word_in (typing t).table (content (typing t) n [] (OfRoot (OfVariable g y))) p ≡ Held c
        → (word_in (typing t).table (content (typing t) m [] (OfRoot (OfVariable g y))) p ≡ Held c) ⊎ ((g ≡ home (typing t) depth y) × (is_package_object (typing t) y ≡ false → is_within y scope ≡ true))
    pub empty : (r : Return) → Has returns r → (p : List Step) (c : ℕ)
        → word_in (typing t).table (content (typing t) n [] (OfRoot (OfVariable (suc depth) r.formal))) p ≡ Held c → ⊥
    pub views : (g y i : ℕ) → is_view (typing t) y ≡ true
        → (get_or (variable_slots (typing t) g y n.variables) i no_slot).word ≡ (get_or (variable_slots (typing t) g y m.variables) i no_slot).word
    pub carried : AreCarried (typing t) (λ g. g ≡ suc depth → ⊥) cells ways m n
    -- ways from the variables of other frames that don't go on after a place reach what they reached
    pub stays : (w : Way) (g y : ℕ) → base_of w ≡ OfRoot (OfVariable g y) → (g ≡ suc depth → ⊥) → ((to : Way) → Has ways to → Past to w → ⊥) → (c : ℕ)
        → Reaches (seen (typing t) m hands leaks) w (OfCell c) → Reaches (seen (typing t) n hands leaks) w (OfCell c)

  pub left_more : (r : Return) (rest : List Return) (w : Way) → IsLeft (r ∷ rest) w → IsLeft rest w
  left_more r rest w these = let (x, base, none) = these in (x, base, λ q has. none q (inr has))

  -- ---- one that is given back

  module _ (r : Return) (rest : List Return) (to : Way) (ways : List Way) (m : Memory) (taken : IsTaken (typing t) sees cells m depth v facts scope r to)
      (apart : IsApartFrom to ways) (another : IsAnother r.formal rest) (begin : (k : Way) → Has ways k → Begins s depth k)
      (typed : Kept (typing t) m hands) (stand : StandsAway (r ∷ rest) (to ∷ ways) m)
      (cells_at : (c : Lodge) → Has cells c → Reaches (seen (typing t) m hands leaks) c.way (OfCell c.cell)) where
    abbrev passed : IsPassedOn (typing t) sees cells depth v facts scope r.formal r.to to
    passed = taken.0

    abbrev inside : IsInside (typing t) depth r.to to
    inside = (taken.0).inside

    abbrev formal : Place
    formal = variable_place (here t) r.formal

    abbrev root : Way
    root = Object (OfVariable (suc depth) r.formal)

    abbrev got : Waiting
    got = record { of = (object_at s r.formal).of; words = words_of s m formal }

    abbrev mid : Memory
    mid = moved_out s formal m

    abbrev next : Memory
    next = stored s r.to (words_of s m formal) (moved_out s formal m)

    formal_base : (variable_place (here t) r.formal).base ≡ memory.OfVariable (suc depth) r.formal
    formal_base = ap (λ z. memory.OfVariable z r.formal) (ap (λ b. if b then 0 else length t.outer) passed.formal ∙ deep)

    formal_home : suc depth ≡ home s (suc depth) r.formal
    formal_home = sym (ap (λ b. if b then 0 else suc depth) passed.formal)

    pub formal_inside : IsInside s (suc depth) formal root
    formal_inside = record {
      object = r.formal;
      steps = [];
      frame = suc depth;
      begins = inl formal_home;
      trunk = root;
      start = OfRoot (OfVariable (suc depth) r.formal);
      stands = inl (refl, refl, formal_base, formal_home, passed.owner);
      root = refl;
      way = refl;
      there = refl;
      at = refl;
      of = inl refl;
      named = matches_named s.table r.to.of (object_at s r.formal).of passed.fits inside.named;
    }

    pub formal_there : (view : View) → Reaches view formal_inside.trunk formal_inside.start
    unfolding formal_inside
    formal_there view = refl

    spot : Spot s m hands formal (OfRoot (OfVariable (suc depth) r.formal))
    unfolding formal_inside
    spot = inside_spot s (suc depth) formal root formal_inside settled m hands leaks typed refl

    owns : (content s m hands (OfRoot (OfVariable (suc depth) r.formal))).owns ≡ true
    owns = ap not passed.owner

    abbrev first : Way → Type 0
    first = AwayBy (r ∷ rest) (to ∷ ways)

    abbrev second : Way → Type 0
    second = AwayBy rest (to ∷ ways)

    pub clean : (w : Way) → Under root w → IsMovedBy (home s depth) v facts w ⊎ first w → ⊥
    clean w under (inl moved) = whole r.formal w (base_under root w under) (inl moved)
    clean w under (inr (inl o)) = whole r.formal w (base_under root w under) (inr o)
    clean w under (inr (inr (inl (k, has, p, is)))) =
        let base = from_depth k has in
        let frames = (same_variable (suc depth) r.formal base.0 base.1
        (sym (base_under root w under) ∙ ap base_of is ∙ base_along k p ∙ base.2)).0 in
        let low = begun_low s depth base.0 base.1 base.3 in omega (arith, frames, low)
      where
        from_depth : (k : Way) → Has (to ∷ ways) k → Begins s depth k
        from_depth k (inl same) = subst (Begins s depth) same (inside_begins s depth r.to to inside)
        from_depth k (inr has) = begin k has
    clean w under (inr (inr (inr (x, base, none)))) =
        none r (inl refl) (same_variable (suc depth) r.formal (suc depth) x (sym (base_under root w under) ∙ base)).1

    stand_mid : OwnersStand (home s depth) v facts second (seen s mid (got ∷ hands) leaks)
    stand_mid =
        carried_off s settled (home s depth) v first second m hands leaks facts formal
        (OfRoot (OfVariable (suc depth) r.formal)) root stand typed spot tt refl owns clean (suc depth) r.formal refl
        (λ w o. elim o [
          | inl away_there ↦ inl away_there
          | inr more ↦ elim more [ inl taken_there ↦ inr (inl taken_there) | inr left ↦ inr (inr (left_more r rest w left)) ]
        ])
        (λ p. inr (inr (r.formal, base_along root p, another)))

    kept_mid : Kept s mid (got ∷ hands)
    kept_mid = (keeps s settled own_law).moved m hands formal (OfRoot (OfVariable (suc depth) r.formal)) spot typed

    held_mid : (g y : ℕ) (p : List Step) (c : ℕ) → word_in s.table (content s mid [] (OfRoot (OfVariable g y))) p ≡ Held c
        → word_in s.table (content s m [] (OfRoot (OfVariable g y))) p ≡ Held c
    held_mid g y p c held =
        carried_held s settled (home s depth) v first second m hands leaks facts formal
        (OfRoot (OfVariable (suc depth) r.formal)) root stand typed spot tt refl owns clean g y p c held

    empty_mid : (p : List Step) (c : ℕ) → word_in s.table (content s mid [] (OfRoot (OfVariable (suc depth) r.formal))) p ≡ Held c → ⊥
    empty_mid p c held =
        carried_bare s settled (home s depth) v first second m hands leaks facts formal
        (OfRoot (OfVariable (suc depth) r.formal)) root stand typed spot tt refl owns clean p c
        (ap (λ z. word_in s.table (content s mid (got ∷ hands) (OfRoot (OfVariable (suc depth) r.formal))) z) (append-nil p) ∙ held)

    held_mid_cell : (n : ℕ) (p : List Step) (c : ℕ) → word_in s.table (content s mid [] (OfCell n)) p ≡ Held c → word_in s.table (content s m [] (OfCell n)) p ≡ Held c
    held_mid_cell n p c held =
        carried_held_cell s settled (home s depth) v first second m hands leaks facts formal
        (OfRoot (OfVariable (suc depth) r.formal)) root stand typed spot tt refl owns clean n p c held

    -- where a place stands
    held_mid_start : (k : Place) (w : Way) (there : IsInside s depth k w) (p : List Step) (c : ℕ) → word_in s.table (content s mid [] there.start) p ≡ Held c
        → word_in s.table (content s m [] there.start) p ≡ Held c
    held_mid_start k w there p c held = elim there.stands [
      | inl variable ↦
          subst (λ z. word_in s.table (content s m [] z) p ≡ Held c) (sym variable.1)
          (held_mid there.frame there.object p c (subst (λ z. word_in s.table (content s mid [] z) p ≡ Held c) variable.1 held))
      | inr cell ↦
          subst (λ z. word_in s.table (content s m [] z) p ≡ Held c) (sym cell.1)
          (held_mid_cell cell.0 p c (subst (λ z. word_in s.table (content s mid [] z) p ≡ Held c) cell.1 held))
    ]

    -- a way from another frame reaches what it reached
    mid_stays : (w : Way) (g y : ℕ) → base_of w ≡ OfRoot (OfVariable g y) → (g ≡ suc depth → ⊥) → (c : ℕ)
        → Reaches (seen s m hands leaks) w (OfCell c) → Reaches (seen s mid (got ∷ hands) leaks) w (OfCell c)
    mid_stays w g y base off c reach =
        carried_off_stays s settled (home s depth) v first second m hands leaks facts formal
        (OfRoot (OfVariable (suc depth) r.formal)) root stand typed spot tt refl owns clean (suc depth) r.formal refl w g y base
        (past_other root w (suc depth) r.formal g y refl base off) c reach

    start_mid : (k : Place) (w : Way) (there : IsInside s depth k w) → IsAmong cells there.start there.trunk → Reaches (seen s mid (got ∷ hands) leaks) there.trunk there.start
    start_mid k w there among =
        start_reached s depth k w there (seen s mid (got ∷ hands) leaks) (λ n is. (
        let found = among n is in
        mid_stays there.trunk there.frame there.object there.root (λ same. (let low = inside_low s depth k w there in omega (arith, same, low))) n
        (subst (λ z. Reaches (seen s m hands leaks) z (OfCell n)) found.2 (subst (λ z. Reaches (seen s m hands leaks) found.0.way (OfCell z)) found.3 (cells_at found.0 found.1)))))

    -- ---- into the place

    there_mid : Reaches (seen s mid (got ∷ hands) leaks) inside.trunk inside.start
    there_mid = start_mid r.to to inside passed.among

    abbrev at : Loc
    at = inside_at s depth r.to to (taken.0).inside

    spot_to : Spot s mid (got ∷ hands) r.to at
    spot_to = inside_spot s depth r.to to inside settled mid (got ∷ hands) leaks kept_mid there_mid

    reached : Reaches (seen s mid (got ∷ hands) leaks) to at
    reached = inside_reached s depth r.to to inside (seen s mid (got ∷ hands) leaks) there_mid

    owns_to : (content s mid (got ∷ hands) (trunk at)).owns ≡ true
    owns_to = inside_owns s depth r.to to inside settled mid (got ∷ hands) leaks kept_mid stand_mid.owned there_mid

    long : length got.words ≡ words s.table r.to.of
    long =
        length-map (slots_of s m formal) (λ (z : Slot). z.word)
        ∙ (taken_slots s settled m formal (room s settled m hands typed formal (OfRoot (OfVariable (suc depth) r.formal)) spot)).0
        ∙ sym (matches_words s.table settled r.to.of (object_at s r.formal).of passed.fits)

    fits : Matches s.table got.of r.to.of
    fits = matches_back s r.to.of (object_at s r.formal).of passed.fits

    bare : (p : List Step) (c : ℕ) → word_in s.table (content s mid (got ∷ hands) (trunk at)) (p ++ steps_in at) ≡ Held c → ⊥
    bare p c held = taken.1 p c (held_mid_start r.to to inside (p ++ inside.steps) c (sym (inside_word s depth r.to to inside mid (got ∷ hands) p) ∙ held))

    free_hands : (w : Way) → Under (Object (OfHand (length hands))) w → IsMovedBy (home s depth) v facts w ⊎ second w → ⊥
    free_hands w under (inl moved) = free (length hands) w under (inl moved)
    free_hands w under (inr (inl o)) = free (length hands) w under (inr o)
    free_hands w under (inr (inr (inl (k, has, p, is)))) =
        let base = from_depth k has in
        hand_apart (sym (base_under (Object (OfHand (length hands))) w under) ∙ ap base_of is ∙ base_along k p ∙ base.2)
      where
        from_depth : (k : Way) → Has (to ∷ ways) k → Begins s depth k
        from_depth k (inl same) = subst (Begins s depth) same (inside_begins s depth r.to to inside)
        from_depth k (inr has) = begin k has
    free_hands w under (inr (inr (inr (x, base, none)))) = hand_apart (sym (base_under (Object (OfHand (length hands))) w under) ∙ base)

    pub one_stand : StandsAway rest ways next
    one_stand =
        carried_to s settled (home s depth) v second (AwayBy rest ways) mid got hands leaks facts r.to at to stand_mid kept_mid spot_to reached owns_to
        long fits bare inside.frame inside.object (inside_base s depth r.to to inside) free_hands
        (λ w o off. elim o [
          | inl away_there ↦ inl away_there
          | inr more ↦ elim more [ inl taken_there ↦ inr (inl (taken_less to ways w taken_there off)) | inr left ↦ inr (inr left) ]
        ])

    pub one_kept : Kept s next hands
    one_kept = put_away s settled mid got hands r.to at kept_mid spot_to long fits

    holds_next : (g y : ℕ) (p : List Step) (c : ℕ) → word_in s.table (content s next [] (OfRoot (OfVariable g y))) p ≡ Held c
        → (word_in s.table (content s mid [] (OfRoot (OfVariable g y))) p ≡ Held c) ⊎ ((q : List Step) × (part (OfRoot (OfVariable g y)) p ≡ part at q))
    holds_next g y p c held =
        carried_holds s settled (home s depth) v second (AwayBy rest ways) mid got hands leaks facts r.to at to stand_mid kept_mid spot_to reached owns_to
        long fits bare g y p c held

    in_place : (g y : ℕ) (p q : List Step) → part (OfRoot (OfVariable g y)) p ≡ part at q
        → IsOwnAt s depth inside.frame inside.object r.to inside.trunk inside.start × (g ≡ inside.frame) × (y ≡ inside.object)
    in_place g y p q is =
        let start_is : OfRoot (OfVariable g y) ≡ inside.start =
        sym (trunk_part (OfRoot (OfVariable g y)) p) ∙ ap trunk is ∙ trunk_part at q ∙ trunk_is s depth r.to to inside in
        by_either inside.stands
        (λ variable. (let same = same_variable g y inside.frame inside.object (start_is ∙ variable.1) in (variable, same.0, same.1)))
        (λ cell. (let never : OfRoot (OfVariable g y) ≡ OfCell cell.0 = start_is ∙ cell.1 in absurd (false≢true (ap is_of_cell_loc never))))

    -- the way of what is in the place
    in_place_way : (g y : ℕ) (p q : List Step) → part (OfRoot (OfVariable g y)) p ≡ part at q → along (Object (OfVariable g y)) p ≡ along to q
    in_place_way g y p q is =
        let now = seen s mid (got ∷ hands) leaks in
        one_way now stand_mid.owned (along (Object (OfVariable g y)) p) (along to q) (part at q)
        (subst (Reaches now (along (Object (OfVariable g y)) p)) is (reaches_along now (Object (OfVariable g y)) (OfRoot (OfVariable g y)) p refl))
        (reaches_along now to at q reached)

    holds_cell : (n : ℕ) (p : List Step) (c : ℕ) → word_in s.table (content s next [] (OfCell n)) p ≡ Held c
        → (word_in s.table (content s mid [] (OfCell n)) p ≡ Held c) ⊎ ((q : List Step) × (part (OfCell n) p ≡ part at q))
    holds_cell n p c held =
        carried_holds_cell s settled (home s depth) v second (AwayBy rest ways) mid got hands leaks facts r.to at to stand_mid kept_mid spot_to reached owns_to
        long fits bare n p c held

    -- the cell that it is in
    in_place_cell : (n : ℕ) (p q : List Step) → part (OfCell n) p ≡ part at q → IsTakenIn cells (to ∷ []) n p
    in_place_cell n p q is =
        let start_is : OfCell n ≡ inside.start = sym (trunk_part (OfCell n) p) ∙ ap trunk is ∙ trunk_part at q ∙ trunk_is s depth r.to to inside in
        let found = passed.among n (sym start_is) in
        let now = seen s mid (got ∷ hands) leaks in
        let there : Reaches now inside.trunk (OfCell n) = subst (Reaches now inside.trunk) (sym start_is) there_mid in (
          found.0,
          found.1,
          found.3,
          (
            to,
            inl refl,
            q,
            ap (λ z. along z p) found.2
                ∙ one_way now stand_mid.owned (along inside.trunk p) (along to q) (part at q)
                (subst (Reaches now (along inside.trunk p)) is (reaches_along now inside.trunk (OfCell n) p there)) (reaches_along now to at q reached),
          ),
        )

    -- what was gone stays so, but in the place
    pub one_carried : AreCarried s (λ g. g ≡ suc depth → ⊥) cells (to ∷ []) m next
    one_carried = record {
      held = λ g y p c other_frame off held. by_either (holds_next g y p c held)
          (λ before. (held_mid g y p c before))
          (λ (q, is). (absurd (off (to, inl refl, q, in_place_way g y p q is))));
      gone = λ g y p other_frame off gone.
          carried_gone_to s settled (home s depth) v second (AwayBy rest ways) mid got hands leaks facts r.to at to stand_mid kept_mid spot_to reached owns_to
          long fits bare g y p (λ there. off (to, inl refl, there.0, in_place_way g y p there.0 there.1))
          (carried_gone s settled (home s depth) v first second m hands leaks facts formal
          (OfRoot (OfVariable (suc depth) r.formal)) root stand typed spot tt refl owns clean g y p gone);
      in_cells = λ n p c off held. by_either (holds_cell n p c held) (λ before. (held_mid_cell n p c before)) (λ (q, is). (absurd (off (in_place_cell n p q is))));
      gone_cells = λ n p off gone.
          carried_gone_cell_to s settled (home s depth) v second (AwayBy rest ways) mid got hands leaks facts r.to at to stand_mid kept_mid spot_to reached owns_to
          long fits bare n p (λ there. off (in_place_cell n p there.0 there.1))
          (carried_gone_cell s settled (home s depth) v first second m hands leaks facts formal
          (OfRoot (OfVariable (suc depth) r.formal)) root stand typed spot tt refl owns clean n p gone);
    }

    -- an object with a number owns
    owning_there : (y g : ℕ) (p : List Step) (c : ℕ) → word_in s.table (content s next [] (OfRoot (OfVariable g y))) p ≡ Held c → is_owning s.table (object_at s y).of ≡ true
    owning_there y g p c held = by_type (is_owning s.table (object_at s y).of) refl
      where
        by_type : (b : Bool) → is_owning s.table (object_at s y).of ≡ b → b ≡ true
        by_type true e = refl
        by_type false e =
            let none = word_no s.table (content s next [] (OfRoot (OfVariable g y))) p ((keeps s settled own_law).ownerless (object_at s y).of e p) in
            absurd (no_number (sym none ∙ held))
          where
            no_number : Empty ≡ Held c → ⊥
            no_number e = absurd (false≢true (ap is_held_word e))

    pub one_held : (g y : ℕ) (p : List Step) (c : ℕ) → word_in s.table (content s next [] (OfRoot (OfVariable g y))) p ≡ Held c
        → (word_in s.table (content s m [] (OfRoot (OfVariable g y))) p ≡ Held c) ⊎ ((g ≡ home s depth y) × (is_package_object s y ≡ false → is_within y scope ≡ true))
    one_held g y p c held = by_either (holds_next g y p c held)
        (λ before. (inl (held_mid g y p c before)))
        (λ (q, is). (let there = in_place g y p q is in
        inr (
          there.1 ∙ (there.0).3 ∙ ap (home s depth) (sym there.2),
          (λ local. ap (λ z. is_within z scope) there.2
              ∙ passed.within there.0 (ap (is_package_object s) (sym there.2) ∙ local) (ap (λ z. is_owning s.table (object_at s z).of) (sym there.2) ∙ owning_there y g p c held)),
        )))

    pub one_empty : (p : List Step) (c : ℕ) → word_in s.table (content s next [] (OfRoot (OfVariable (suc depth) r.formal))) p ≡ Held c → ⊥
    one_empty p c held = by_either (holds_next (suc depth) r.formal p c held)
        (λ before. (empty_mid p c before))
        (λ (q, is). (let frames = (in_place (suc depth) r.formal p q is).1 in let low = inside_low s depth r.to to inside in omega (arith, frames, low)))

    -- the other places have none still
    pub one_bare : (k : Place) (w : Way) → Has ways w → (there : IsInside s depth k w) → IsAmong cells there.start there.trunk → IsBare s depth k w m there → IsBare s depth k w next there
    one_bare k w has there among none p c held = by_either (holds_start (p ++ there.steps) c held)
        (λ before. (none p c (held_mid_start k w there (p ++ there.steps) c before)))
        (λ (q, is). (parts_apart (seen s mid (got ∷ hands) leaks) to w at (inside_at s depth k w there) stand_mid.owned reached
        (inside_reached s depth k w there (seen s mid (got ∷ hands) leaks) (start_mid k w there among)) (apart w has).0 (apart w has).1 q p
        (sym is ∙ part_append there.start p there.steps)))
      where
        part_append : (l : Loc) (p q : List Step) → part l (p ++ q) ≡ part (part l q) p
        part_append l [] q = refl
        part_append l (i ∷ p) q = ap (λ z. Inside z i) (part_append l p q)

        holds_start : (q : List Step) (c : ℕ) → word_in s.table (content s next [] there.start) q ≡ Held c
            → (word_in s.table (content s mid [] there.start) q ≡ Held c) ⊎ ((p : List Step) × (part there.start q ≡ part at p))
        holds_start q c held = by_either there.stands
            (λ variable. (subst (λ z. (word_in s.table (content s mid [] z) q ≡ Held c) ⊎ ((p : List Step) × (part z q ≡ part at p))) (sym variable.1)
            (holds_next there.frame there.object q c (subst (λ z. word_in s.table (content s next [] z) q ≡ Held c) variable.1 held))))
            (λ cell. (subst (λ z. (word_in s.table (content s mid [] z) q ≡ Held c) ⊎ ((p : List Step) × (part z q ≡ part at p))) (sym cell.1)
            (holds_cell cell.0 q c (subst (λ z. word_in s.table (content s next [] z) q ≡ Held c) cell.1 held))))

    pub one_stays : (w : Way) (g y : ℕ) → base_of w ≡ OfRoot (OfVariable g y) → (g ≡ suc depth → ⊥) → (Past to w → ⊥) → (c : ℕ)
        → Reaches (seen s m hands leaks) w (OfCell c) → Reaches (seen s next hands leaks) w (OfCell c)
    one_stays w g y base off aside c reach =
        carried_to_stays s settled (home s depth) v second (AwayBy rest ways) mid got hands leaks facts r.to at to stand_mid kept_mid spot_to reached owns_to
        long fits bare inside.frame inside.object (inside_base s depth r.to to inside) w g y base aside c
        (mid_stays w g y base off c reach)

    pub one_views : (g y i : ℕ) → is_view s y ≡ true
        → (get_or (variable_slots s g y next.variables) i no_slot).word ≡ (get_or (variable_slots s g y m.variables) i no_slot).word
    unfolding formal_inside
    one_views g y i view =
        ap (λ z. (get_or z i no_slot).word)
        (put_beside s 0 r.to.base (take r.to.at (slots_at s mid r.to.base) ++ fresh (words_of s m formal) ++ drop (r.to.at + length (fresh (words_of s m formal))) (slots_at s mid r.to.base)) mid g y
        (inside_no_view s settled depth r.to to inside g y view)
        ∙ put_beside s 0 formal.base (take 0 (slots_at s m formal.base) ++ marks ++ drop (0 + length marks) (slots_at s m formal.base)) m g y
        (inside_no_view s settled (suc depth) formal root formal_inside g y view))
      where
        marks : List Slot
        marks = gone_at (access_offsets s.table (object_at s r.formal).of) (slots_of s m formal)

  -- ---- all of them

  pub taken_base : (m : Memory) (returns : List Return) (ways : List Way) → AreTaken s sees cells m depth v facts scope returns ways → (k : Way) → Has ways k
      → Begins s depth k
  taken_base m [] ways none k has = absurd (subst (λ z. Has z k) none has)
  taken_base m (r ∷ rest) [] taken k has = absurd has
  taken_base m (r ∷ rest) (to ∷ ways) (inl copied) k has = taken_base m rest (to ∷ ways) copied.1 k has
  taken_base m (r ∷ rest) (to ∷ ways) (inr (one, apart, another, more)) k (inl same) =
      subst (Begins s depth) same (inside_begins s depth r.to to (one.0).inside)
  taken_base m (r ∷ rest) (to ∷ ways) (inr (one, apart, another, more)) k (inr has) = taken_base m rest ways more k has

  pub taken_on : (m n : Memory) (returns : List Return) (ways : List Way)
      → ((k : Place) (w : Way) → Has ways w → (there : IsInside s depth k w) → IsAmong cells there.start there.trunk → IsBare s depth k w m there → IsBare s depth k w n there)
      → AreTaken s sees cells m depth v facts scope returns ways → AreTaken s sees cells n depth v facts scope returns ways
  taken_on m n [] ways bare none = none
  taken_on m n (r ∷ rest) [] bare taken = (taken.0, taken_on m n rest [] bare taken.1)
  taken_on m n (r ∷ rest) (to ∷ ways) bare (inl copied) = inl (copied.0, taken_on m n rest (to ∷ ways) bare copied.1)
  taken_on m n (r ∷ rest) (to ∷ ways) bare (inr (one, apart, another, more)) =
      inr ((one.0, bare r.to to (inl refl) (one.0).inside (one.0).among one.1), apart, another, taken_on m n rest ways (λ k w has. bare k w (inr has)) more)

  abbrev GivenBack : List Return → List Way → Memory → Evaluated Memory → Type 0
  GivenBack returns ways m y = Backs (λ n. IsBack returns ways m n) y

  scalar_empty : (m : Memory) (x : ℕ) → is_scalar (full s.table (object_at s x).of) ≡ true → (p : List Step) (c : ℕ)
      → word_in s.table (content s m [] (OfRoot (OfVariable (suc depth) x))) p ≡ Held c → ⊥
  scalar_empty m x plain p c held =
      let none = word_no s.table (content s m [] (OfRoot (OfVariable (suc depth) x))) p (no_leaf s.table settled (object_at s x).of plain p) in
      no_number (sym none ∙ held)
    where
      no_number : {c : ℕ} → Empty ≡ Held c → ⊥
      no_number e = absurd (false≢true (ap is_held_word e))

  copied_then : (r : Return) (rest : List Return) (ways : List Way) (m later : Memory) → IsCopiedTo s cells r → Enters s sees settled own_law in_formals hands leaks m later → (n : Memory)
      → IsBack rest ways later n → IsBack (r ∷ rest) ways m n
  copied_then r rest ways m later copied on n back = record {
    typed = back.typed;
    stand = back.stand;
    held = λ g y p c held. by_either (back.held g y p c held) (λ h. (inl (sym (on.hold g y p) ∙ h))) (λ h. (inr h));
    empty = λ q has. by_either has
        (λ same. (λ p c held. scalar_empty n r.formal copied.0 p c (subst (λ (z : Return). word_in s.table (content s n [] (OfRoot (OfVariable (suc depth) z.formal))) p ≡ Held c) (sym same) held)))
        (λ later. (back.empty q later));
    views = λ g y i view. back.views g y i view ∙ on.views g y i view;
    carried = carried_then s (λ g. g ≡ suc depth → ⊥) cells ways ways ways m later n (λ w taken. taken) (λ w taken. taken)
        (carried_same s (λ g. g ≡ suc depth → ⊥) cells ways m later on.hold (λ c p. cells_same s m later hands leaks on.same c p)) back.carried;
    stays = λ w g y base off aside c reach. back.stays w g y base off aside c (same_reaches (seen s m hands leaks) (seen s later hands leaks) on.same w (OfCell c) reach);
  }

  -- a scalar place that is copied back to
  place_there : (m : Memory) (k : Place) → IsPlainPlace s cells k → Kept s m hands → Owned (seen s m hands leaks)
      → ((c : Lodge) → Has cells c → Reaches (seen s m hands leaks) c.way (OfCell c.cell)) → IsThere m k.base
  place_there m k (inl (fixed, bare)) typed owned there = subst (IsThere m) (sym fixed.base) tt
  place_there m k (inr (c, has, lodged, plain)) typed owned there =
      let begin = begins c has in subst (IsThere m) (sym lodged.base) (cell_live s settled m hands leaks typed c.way begin.0 begin.1 c.cell begin.2 owned (there c has))

  -- another place that is given back to
  taken_there : (m : Memory) (r : Return) (to : Way) → IsTaken s sees cells m depth v facts scope r to → Kept s m hands → Owned (seen s m hands leaks)
      → ((c : Lodge) → Has cells c → Reaches (seen s m hands leaks) c.way (OfCell c.cell)) → IsThere m r.to.base
  taken_there m r to taken typed owned there = elim (taken.0).inside.stands [
    | inl variable ↦ subst (IsThere m) (sym variable.2) tt
    | inr cell ↦ (
        let found = (taken.0).among cell.0 cell.1 in
        let begin = begins found.0 found.1 in
        subst (IsThere m) (ap memory.OfCell found.3 ∙ sym cell.2)
        (cell_live s settled m hands leaks typed found.0.way begin.0 begin.1 found.0.cell begin.2 owned (there found.0 found.1)))
  ]

  -- where a place stands
  pub start_same : (m n : Memory) (k : Place) (w : Way) (there : IsInside s depth k w)
      → ((f x : ℕ) (p : List Step) → word_in s.table (content s n [] (OfRoot (OfVariable f x))) p ≡ word_in s.table (content s m [] (OfRoot (OfVariable f x))) p)
      → ((c : ℕ) (p : List Step) → word_in s.table (content s n [] (OfCell c)) p ≡ word_in s.table (content s m [] (OfCell c)) p)
      → (q : List Step) → word_in s.table (content s n [] there.start) q ≡ word_in s.table (content s m [] there.start) q
  start_same m n k w there same same_cells q = elim there.stands [
    | inl variable ↦ subst (λ z. word_in s.table (content s n [] z) q ≡ word_in s.table (content s m [] z) q) (sym variable.1) (same there.frame there.object q)
    | inr cell ↦ subst (λ z. word_in s.table (content s n [] z) q ≡ word_in s.table (content s m [] z) q) (sym cell.1) (same_cells cell.0 q)
  ]

  copied_first : (r : Return) (rest : List Return) (ways : List Way) (begun : Now) → IsCopiedTo s cells r → AreThere ways begun.memory → Kept s begun.memory hands
      → StandsAway (r ∷ rest) ways begun.memory → AreTaken s sees cells begun.memory depth v facts scope rest ways
      → ((next : Memory) → AreThere ways next → Kept s next hands → StandsAway rest ways next → AreTaken s sees cells next depth v facts scope rest ways
      → GivenBack rest ways next (copied_back t rest (record begun { memory = next })))
      → GivenBack (r ∷ rest) ways begun.memory (copied_back t (r ∷ rest) begun)
  copied_first r rest ways begun copied cells_there typed stand taken more =
      let formal : Place = variable_place (here t) r.formal in
      let ws : List machine.Word = words_of s begun.memory formal in
      let fixed : IsPlainSpot s sees settled own_law in_formals hands leaks begun.memory formal = variable_plain s sees settled own_law in_formals hands leaks formal (home s (here t).frame r.formal) r.formal (formal_fixed t r.formal copied.0) refl copied.0 begun.memory in
      let mid : Memory = moved_out s formal begun.memory in
      let next : Memory = stored s r.to ws mid in
      let first = moved_there s sees settled own_law in_formals hands leaks formal begun.memory fixed typed in
      let second = stored_there s sees settled own_law in_formals hands leaks r.to mid
      (plain_place s sees settled own_law in_formals hands leaks (suc depth) cells begins mid r.to copied.1 first.typed (λ c has. same_reaches (seen s begun.memory hands leaks) (seen s mid hands leaks) first.same c.way (OfCell c.cell) (cells_there c has).0))
      ws (one_there s sees settled own_law in_formals hands leaks begun.memory formal fixed typed) first.typed in
      let on : Enters s sees settled own_law in_formals hands leaks begun.memory next = one_then s sees settled own_law in_formals hands leaks begun.memory mid next first second in
      subst (GivenBack (r ∷ rest) ways begun.memory) (sym (place_is t r rest begun r.to.base refl (place_there begun.memory r.to copied.1 typed stand.owned (λ c has. (cells_there c has).0))))
      (if_back (λ n. IsBack (r ∷ rest) ways begun.memory n) (fits_type s.table r.to.of ws) ws begun
      (λ us n. copied_back t rest (record n { memory = stored s r.to us (moved_out s formal n.memory) }))
      (backs_on (λ n. IsBack rest ways next n) (λ n. IsBack (r ∷ rest) ways begun.memory n) (λ n back. copied_then r rest ways begun.memory next copied on n back)
      (copied_back t rest (record begun { memory = next }))
      (more next (λ c has. (same_reaches (seen s begun.memory hands leaks) (seen s next hands leaks) on.same c.way (OfCell c.cell) (cells_there c has).0, (cells_there c has).1)) on.typed
      (more_gone (home s depth) v facts (AwayBy (r ∷ rest) ways) (AwayBy rest ways) (seen s next hands leaks)
      (λ w o. elim o [
        | inl away_there ↦ inl away_there
        | inr later ↦ elim later [ inl taken_there ↦ inr (inl taken_there) | inr left ↦ inr (inr (left_more r rest w left)) ]
      ])
      (same_stand (home s depth) v facts (AwayBy (r ∷ rest) ways) (seen s begun.memory hands leaks) (seen s next hands leaks) on.same stand))
      (taken_on begun.memory next rest ways (λ k w has there among none p c held. none p c (sym (start_same begun.memory next k w there on.hold (λ n q. cells_same s begun.memory next hands leaks on.same n q) (p ++ there.steps)) ∙ held)) taken))))

  taken_first : (r : Return) (rest : List Return) (to : Way) (ways : List Way) (begun : Now) → (taken : IsTaken s sees cells begun.memory depth v facts scope r to)
      → IsApartFrom to ways → IsAnother r.formal rest → AreTaken s sees cells begun.memory depth v facts scope rest ways → AreThere (to ∷ ways) begun.memory → Kept s begun.memory hands
      → StandsAway (r ∷ rest) (to ∷ ways) begun.memory
      → ((next : Memory) → AreThere ways next → Kept s next hands → StandsAway rest ways next → AreTaken s sees cells next depth v facts scope rest ways
      → GivenBack rest ways next (copied_back t rest (record begun { memory = next })))
      → GivenBack (r ∷ rest) (to ∷ ways) begun.memory (copied_back t (r ∷ rest) begun)
  taken_first r rest to ways begun taken apart another later cells_there typed stand more =
      let m : Memory = begun.memory in
      let formal : Place = variable_place (here t) r.formal in
      let ws : List machine.Word = words_of s begun.memory formal in
      let begin_ways = taken_base m rest ways later in
      let cells_now : (c : Lodge) → Has cells c → Reaches (seen s m hands leaks) c.way (OfCell c.cell) = λ c has. (cells_there c has).0 in
      let next : Memory = stored s r.to ws (moved_out s formal begun.memory) in
      subst (GivenBack (r ∷ rest) (to ∷ ways) begun.memory) (sym (place_is t r rest begun r.to.base refl (taken_there begun.memory r to taken typed stand.owned (λ c has. (cells_there c has).0))))
      (if_back (λ n. IsBack (r ∷ rest) (to ∷ ways) begun.memory n) (fits_type s.table r.to.of ws) ws begun
      (λ us n. copied_back t rest (record n { memory = stored s r.to us (moved_out s formal n.memory) }))
      (backs_on (λ n. IsBack rest ways next n) (λ n. IsBack (r ∷ rest) (to ∷ ways) begun.memory n)
      (λ n back. record {
        typed = back.typed;
        stand = back.stand;
        held = λ g y p c held. by_either (back.held g y p c held) (λ h. (one_held r rest to ways m taken apart another begin_ways typed stand cells_now g y p c h)) (λ h. (inr h));
        empty = λ q has. by_either has
            (λ same. (λ p c held. by_either (back.held (suc depth) r.formal p c (subst (λ (z : Return). word_in s.table (content s n [] (OfRoot (OfVariable (suc depth) z.formal))) p ≡ Held c) (sym same) held))
            (λ h. (one_empty r rest to ways m taken apart another begin_ways typed stand cells_now p c h))
            (λ h. (let frames = h.0 in let low = home_low s depth r.formal in omega (arith, frames, low)))))
            (λ there. (back.empty q there));
        views = λ g y i view. back.views g y i view ∙ one_views r rest to ways m taken apart another begin_ways typed stand cells_now g y i view;
        carried = carried_then s (λ g. g ≡ suc depth → ⊥) cells (to ∷ []) ways (to ∷ ways) m next n
            (λ w there. by_either there.1 (λ same. (there.0, inl same, there.2, there.3)) (λ never. (absurd never))) (λ w there. taken_more to ways w there)
            (one_carried r rest to ways m taken apart another begin_ways typed stand cells_now) back.carried;
        stays = λ w g y base off aside c reach. back.stays w g y base off (λ k has. aside k (inr has)) c
            (one_stays r rest to ways m taken apart another begin_ways typed stand cells_now w g y base off (aside to (inl refl)) c reach);
      })
      (copied_back t rest (record begun { memory = next }))
      (more next (λ c has. (
        (let begin = begins c has in one_stays r rest to ways m taken apart another begin_ways typed stand cells_now c.way begin.0 begin.1 begin.2 begin.3
            ((cells_there c has).1 to (inl refl)) c.cell (cells_there c has).0),
        (λ k there. (cells_there c has).1 k (inr there)),
      )) (one_kept r rest to ways m taken apart another begin_ways typed stand cells_now) (one_stand r rest to ways m taken apart another begin_ways typed stand cells_now)
      (taken_on m next rest ways (λ k w has there among none. one_bare r rest to ways m taken apart another begin_ways typed stand cells_now k w has there among none) later))))

  pub all_given_back : (returns : List Return) (ways : List Way) (begun : Now) → AreTaken s sees cells begun.memory depth v facts scope returns ways
      → AreThere ways begun.memory → Kept s begun.memory hands → StandsAway returns ways begun.memory → GivenBack returns ways begun.memory (copied_back t returns begun)
  all_given_back [] ways begun taken there typed stand = record {
    typed = typed;
    stand = subst (λ z. StandsAway [] z begun.memory) taken stand;
    held = λ g y p c held. inl held;
    empty = λ r has. absurd has;
    views = λ g y i view. refl;
    carried = carried_same s (λ g. g ≡ suc depth → ⊥) cells ways begun.memory begun.memory (λ g y p. refl) (λ c p. refl);
    stays = λ w g y base off aside c reach. reach;
  }
  all_given_back (r ∷ rest) [] begun taken there typed stand =
      copied_first r rest [] begun taken.0 there typed stand taken.1
      (λ next there kept seen_next later. all_given_back rest [] (record begun { memory = next }) later there kept seen_next)
  all_given_back (r ∷ rest) (to ∷ ways) begun (inl copied) there typed stand =
      copied_first r rest (to ∷ ways) begun copied.0 there typed stand copied.1
      (λ next there kept seen_next later. all_given_back rest (to ∷ ways) (record begun { memory = next }) later there kept seen_next)
  all_given_back (r ∷ rest) (to ∷ ways) begun (inr (taken, apart, another, more)) there typed stand =
      taken_first r rest to ways begun taken apart another more there typed stand
      (λ next there kept seen_next later. all_given_back rest ways (record begun { memory = next }) later there kept seen_next)
