-- A formal of mode `out` that isn't scalar: what the place of its actual has is leaked, and is gone; the formal
-- has what an object has without a value.
use Rattle.std.proofs.Common.{◌≡◌, refl, sym, ap, ◌∙◌, subst, inl, inr, ℕ, suc, ◌+◌, true, not, List, [], ◌++◌, take, drop, length, get_or, arith, append-nil, Bool}
use Rattle.machine.specs.spark_base.Lists.{Has}
use Rattle.machine.specs.place_names.declared.fact.Fact.{Fact}
use Rattle.machine.specs.flow_paths.Objects.{Typing, object_at}
use Rattle.machine.specs.Words.{access_offsets, default}
use Rattle.machine.specs.Memory.{Slot, Memory, Place, fresh, no_slot, variable_slots, slots_at, slots_of, words_of, gone_at, moved_out, declared}
use Rattle.machine.specs.States.{Waiting, Leak}
use Rattle.soundness.specs.OwnedWays.Ways.{Step, OfVariable, Loc, OfRoot, OfCell, IsSame, Reaches, Way, Empty, Gone, Held, Under, Past, part, along}
use Rattle.soundness.proofs.OwnedWays.Locations.{below}
use Rattle.soundness.specs.PartOffsets.Parts.{IsSettled}
use Rattle.soundness.specs.Seen.{content, trunk, steps_in, word_in, seen, home, is_view_formal}
use Rattle.soundness.specs.Changes.{Checks}
use Rattle.soundness.specs.Typed.{OwnsByShape, Kept, Spot}
use Rattle.soundness.proofs.Contents.{word_part, word_root}
use Rattle.soundness.proofs.Defaults.{none_default}
use Rattle.soundness.proofs.Memories.{put_other}
use Rattle.soundness.proofs.Lasting.{keeps, lengths, less_kept, declared_kept}
use Rattle.soundness.specs.OwnedLoans.Views.{Views}
use Rattle.soundness.specs.ViewedSoundness.Holds.{is_view}
use Rattle.soundness.proofs.ViewedSoundness.ViewKinds.{true_false, not_view}
use Rattle.soundness.proofs.ViewedSoundness.Evaluated.{matches_named}
use Rattle.viewed_steps.specs.Taken.{Lodge, AreCarried, IsPassedOn, IsBare}
use Rattle.viewed_steps.proofs.Between.{same_reaches, same_variable, OwnersStand, same_stand}
use Rattle.viewed_steps.proofs.Carried.{inside_low, inside_other, inside_at, inside_spot, inside_reached, inside_rooted, inside_owns, inside_word}
use Rattle.viewed_steps.proofs.Beside.{put_beside}
use Rattle.viewed_steps.proofs.Emptied.{IsEmptied, none_left, owner_before, keeps_off, emptied}
use Rattle.viewed_steps.proofs.Vacated.{vacated, vacated_gone, default_same}
use Rattle.viewed_steps.proofs.Outs.{HasStill, places_apart, ways_apart}
use Rattle.viewed_steps.proofs.Views.{AreAccess, view_cases, AreOnly}
use Rattle.viewed_steps.proofs.Entered.{inside_no_view}
use Rattle.soundness.proofs.Parted.{by_either}

frames_differ : (f y g z : ℕ) → (f ≡ g → ⊥) → OfVariable f y ≡ OfVariable g z → ⊥
frames_differ f y g z ne e = (let same : f ≡ g = cc in ne same)

module _ (s : Typing) (sees : ℕ → Bool) (settled : IsSettled s.table) (own_law : OwnsByShape s.table) (in_formals : AreAccess s)
    (hands : List Waiting) (leaks : List Leak) (depth : ℕ) (v : Views) (only : AreOnly s v) (facts : List Fact)
    (scope : List ℕ) (cells : List Lodge)
    (other gone : Way → Type 0)
    (x : ℕ) (k : Place) (to : Way) (passed : IsPassedOn s sees cells depth v facts scope x k to)
    (m : Memory) (typed : Kept s m hands) (stand : OwnersStand (home s depth) v facts other (seen s m hands leaks))
    (blank : (p : List Step) → word_in s.table (content s m [] (OfRoot (OfVariable (suc depth) x))) p ≡ Empty)
    (there : Reaches (seen s m hands leaks) (passed.inside).trunk (passed.inside).start) (found : List Leak) where
  abbrev at : Loc
  at = inside_at s depth k to passed.inside

  abbrev mid : Memory
  mid = moved_out s k m

  abbrev next : Memory
  next = declared (suc depth) x (default s.table (object_at s x).of) mid

  spot : Spot s m hands k at
  spot = inside_spot s depth k to passed.inside settled m hands leaks typed there

  reached : Reaches (seen s m hands leaks) to at
  reached = inside_reached s depth k to passed.inside (seen s m hands leaks) there

  -- the variable of the place alone is changed, and then the formal
  other_base : (g y : ℕ) → (OfVariable (passed.inside).frame (passed.inside).object ≡ OfVariable g y → ⊥) → variable_slots s g y mid.variables ≡ variable_slots s g y m.variables
  other_base g y ne =
      put_beside s 0 k.base (take k.at (slots_at s m k.base) ++ marks ++ drop (k.at + length marks) (slots_at s m k.base)) m g y
      (inside_other s depth k to passed.inside g y ne)
    where
      marks : List Slot
      marks = gone_at (access_offsets s.table k.of) (slots_of s m k)

  new_other : (g y : ℕ) → (OfVariable (suc depth) x ≡ OfVariable g y → ⊥) → variable_slots s g y next.variables ≡ variable_slots s g y mid.variables
  new_other g y ne = put_other s (suc depth) x g y ne (fresh (default s.table (object_at s x).of)) mid.variables

  blank_mid : (p : List Step) → word_in s.table (content s mid [] (OfRoot (OfVariable (suc depth) x))) p ≡ Empty
  blank_mid p =
      ap (λ z. word_in s.table (record { of = (object_at s x).of; slots = z; owns = not (is_view_formal s x) }) p)
      (other_base (suc depth) x (frames_differ (passed.inside).frame (passed.inside).object (suc depth) x (λ e. (let low = inside_low s depth k to passed.inside in omega (arith, e, low))))) ∙ blank p

  -- owners see no change where the formal is declared
  declared_same : IsSame (seen s mid hands found) (seen s next hands found)
  declared_same = default_same s mid hands found (suc depth) x blank_mid

  kept_mid : Kept s mid hands
  kept_mid = less_kept s settled mid (record { of = k.of; words = words_of s m k }) hands ((keeps s settled own_law).moved m hands k at spot typed)

  pub out_kept : Kept s next hands
  out_kept =
      declared_kept s settled mid (suc depth) x (record { of = (object_at s x).of; words = default s.table (object_at s x).of }) hands
      ((keeps s settled own_law).plain mid (record { of = (object_at s x).of; words = default s.table (object_at s x).of }) hands
      (none_default s.table (object_at s x).of) kept_mid)
      (lengths s.table (object_at s x).of) (inl refl)

  formal_plain : is_view s x ≡ true → ⊥
  formal_plain view = elim (view_cases s x view) [
    | inl anonymous ↦ not_view s.table (object_at s x).of anonymous (matches_named s.table k.of (object_at s x).of passed.fits (passed.inside).named)
    | inr formal ↦ true_false (is_view_formal s x) formal passed.owner
  ]

  pub out_views : (g y i : ℕ) → is_view s y ≡ true
      → (get_or (variable_slots s g y next.variables) i no_slot).word ≡ (get_or (variable_slots s g y m.variables) i no_slot).word
  out_views g y i view =
      ap (λ z. (get_or z i no_slot).word)
      (new_other g y (λ e. formal_plain (subst (λ z. is_view s z ≡ true) (sym (same_variable (suc depth) x g y (ap OfRoot e)).1) view))
      ∙ put_beside s 0 k.base (take k.at (slots_at s m k.base) ++ marks ++ drop (k.at + length marks) (slots_at s m k.base)) m g y
      (inside_no_view s settled depth k to passed.inside g y view))
    where
      marks : List Slot
      marks = gone_at (access_offsets s.table k.of) (slots_of s m k)

  -- what is left to be declared has nothing still
  pub out_blank : (y : ℕ) → (y ≡ x → ⊥) → (p : List Step) → word_in s.table (content s m [] (OfRoot (OfVariable (suc depth) y))) p ≡ Empty
      → word_in s.table (content s next [] (OfRoot (OfVariable (suc depth) y))) p ≡ Empty
  out_blank y off p none =
      ap (λ z. word_in s.table (record { of = (object_at s y).of; slots = z; owns = not (is_view_formal s y) }) p)
      (new_other (suc depth) y (λ e. off (sym (same_variable (suc depth) x (suc depth) y (ap OfRoot e)).1))
      ∙ other_base (suc depth) y (frames_differ (passed.inside).frame (passed.inside).object (suc depth) y (λ e. (let low = inside_low s depth k to passed.inside in omega (arith, e, low))))) ∙ none

  module _ (checks : Checks s.table (content s m hands (trunk at)) (steps_in at) leaks found) where
    change : IsEmptied (seen s m hands leaks) (seen s mid hands found) at
    change =
        vacated s settled m hands leaks k at typed spot (inside_owns s depth k to passed.inside settled m hands leaks typed stand.owned there) found checks

    pub out_stand : ((w : Way) → other w → (Under to w → ⊥) → gone w) → ((p : List Step) → gone (along to p))
        → OwnersStand (home s depth) v facts gone (seen s next hands found)
    out_stand more adds =
        same_stand (home s depth) v facts gone (seen s mid hands found) (seen s next hands found) declared_same
        (emptied (home s depth) v other gone (seen s m hands leaks) (seen s mid hands found) to at facts facts change stand
        (inside_rooted s depth k to passed.inside) reached (none_left (home s depth) v facts to) more adds)

    -- the word of a part of a variable, as owners see it
    seen_next : (g y : ℕ) (p : List Step)
        → word_in s.table (content s next [] (OfRoot (OfVariable g y))) p ≡ (seen s mid hands found).word (part (OfRoot (OfVariable g y)) p)
    seen_next g y p =
        sym (word_root s.table (content s next hands) (OfVariable g y) p) ∙ declared_same.word (part (OfRoot (OfVariable g y)) p)

    seen_before : (g y : ℕ) (p : List Step)
        → (seen s m hands leaks).word (part (OfRoot (OfVariable g y)) p) ≡ word_in s.table (content s m [] (OfRoot (OfVariable g y))) p
    seen_before g y p = word_root s.table (content s m hands) (OfVariable g y) p

    -- and of a part of a cell
    cell_next : (n : ℕ) (p : List Step) → word_in s.table (content s next [] (OfCell n)) p ≡ (seen s mid hands found).word (part (OfCell n) p)
    cell_next n p =
        ap (word_in s.table (content s next [] (OfCell n))) (sym (append-nil p))
        ∙ sym (word_part s.table (content s next hands) (OfCell n) p) ∙ declared_same.word (part (OfCell n) p)

    cell_before : (n : ℕ) (p : List Step) → (seen s m hands leaks).word (part (OfCell n) p) ≡ word_in s.table (content s m [] (OfCell n)) p
    cell_before n p = word_part s.table (content s m hands) (OfCell n) p ∙ ap (word_in s.table (content s m [] (OfCell n))) (append-nil p)

    pub out_held : (g y : ℕ) (p : List Step) (c : ℕ) → word_in s.table (content s next [] (OfRoot (OfVariable g y))) p ≡ Held c
        → word_in s.table (content s m [] (OfRoot (OfVariable g y))) p ≡ Held c
    out_held g y p c held =
        sym (seen_before g y p)
        ∙ (owner_before (seen s m hands leaks) (seen s mid hands found) at change (part (OfRoot (OfVariable g y)) p) c (sym (seen_next g y p) ∙ held)).0

    gone_then : (g y : ℕ) (p : List Step) → word_in s.table (content s m [] (OfRoot (OfVariable g y))) p ≡ Gone
        → word_in s.table (content s next [] (OfRoot (OfVariable g y))) p ≡ Gone
    gone_then g y p gone_there = by_either (below at (part (OfRoot (OfVariable g y)) p))
        (λ (q, is). (seen_next g y p ∙ ap (seen s mid hands found).word is
        ∙ vacated_gone s settled m hands leaks k at typed spot (inside_owns s depth k to passed.inside settled m hands leaks typed stand.owned there) found q
        (ap (seen s m hands leaks).word (sym is) ∙ seen_before g y p ∙ gone_there)))
        (λ off. (seen_next g y p ∙ change.off (part (OfRoot (OfVariable g y)) p) off ∙ seen_before g y p ∙ gone_there))

    pub out_carried : AreCarried s (λ g. g ≡ suc depth → ⊥) cells [] m next
    out_carried = record {
      held = λ g y p c other_frame off held. out_held g y p c held;
      gone = λ g y p other_frame off gone_there. gone_then g y p gone_there;
      in_cells = λ n p c off held.
          sym (cell_before n p)
          ∙ (owner_before (seen s m hands leaks) (seen s mid hands found) at change (part (OfCell n) p) c (sym (cell_next n p) ∙ held)).0;
      gone_cells = λ n p off gone_there. by_either (below at (part (OfCell n) p))
          (λ (q, is). (cell_next n p ∙ ap (seen s mid hands found).word is
          ∙ vacated_gone s settled m hands leaks k at typed spot (inside_owns s depth k to passed.inside settled m hands leaks typed stand.owned there) found q
          (ap (seen s m hands leaks).word (sym is) ∙ cell_before n p ∙ gone_there)))
          (λ off. (cell_next n p ∙ change.off (part (OfCell n) p) off ∙ cell_before n p ∙ gone_there));
    }

    pub out_bare : IsBare s depth k to next passed.inside
    out_bare p c held =
        change.goes p c
        (word_part s.table (content s mid hands) at p
        ∙ inside_word s depth k to passed.inside mid hands p
        ∙ sym (start_word (p ++ (passed.inside).steps)) ∙ held)
      where
        start_word : (q : List Step) → word_in s.table (content s next [] (passed.inside).start) q ≡ word_in s.table (content s mid [] (passed.inside).start) q
        start_word q = by_either (passed.inside).stands
            (λ variable. (subst (λ z. word_in s.table (content s next [] z) q ≡ word_in s.table (content s mid [] z) q) (sym variable.1)
            (seen_next (passed.inside).frame (passed.inside).object q
            ∙ word_root s.table (content s mid hands) (OfVariable (passed.inside).frame (passed.inside).object) q)))
            (λ cell. (subst (λ z. word_in s.table (content s next [] z) q ≡ word_in s.table (content s mid [] z) q) (sym cell.1) refl))

    pub out_stays : (w : Way) → (Past to w → ⊥) → (c : ℕ) → Reaches (seen s m hands leaks) w (OfCell c) → Reaches (seen s next hands found) w (OfCell c)
    out_stays w aside c reach =
        same_reaches (seen s mid hands found) (seen s next hands found) declared_same w (OfCell c)
        (keeps_off (seen s m hands leaks) (seen s mid hands found) at change stand.owned to (inside_rooted s depth k to passed.inside) reached w (OfCell c) reach aside)

    -- a place that is apart from it has what it had
    pub out_still : ((c : Lodge) → Has cells c → Reaches (seen s m hands leaks) c.way (OfCell c.cell)) → (z : Way) → (Under to z → ⊥) × (Under z to → ⊥)
        → HasStill s cells depth m next z
    out_still reached_cells z apart = (
      (λ g y q p low is.
          seen_next g y (p ++ q)
          ∙ change.off (part (OfRoot (OfVariable g y)) (p ++ q))
          (places_apart (seen s m hands leaks) stand.owned to at reached g y q p (subst (λ w. (Under to w → ⊥) × (Under w to → ⊥)) is apart))
          ∙ seen_before g y (p ++ q)),
      (λ c q p has is.
          cell_next c.cell (p ++ q)
          ∙ change.off (part (OfCell c.cell) (p ++ q))
          (ways_apart (seen s m hands leaks) stand.owned to at reached c.way (OfCell c.cell) (reached_cells c has) q p (subst (λ w. (Under to w → ⊥) × (Under w to → ⊥)) is apart))
          ∙ cell_before c.cell (p ++ q)),
    )
