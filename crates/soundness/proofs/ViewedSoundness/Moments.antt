-- Steps of a memory keep the state sound with views: what names have is taken, values are stored,
-- and variables are declared and end.
use Rattle.std.proofs.Common.{◌≡◌, refl, sym, ap, ◌∙◌, subst, inl, inr, ℕ, ◌+◌, ◌<◌, Bool, true, false, not, List, [], ◌∷◌, ◌++◌, take, drop, length, get_or, append-nil, arith}
use Rattle.std.proofs.lemmas.Bool.{false≢true}
use Rattle.machine.specs.spark_base.declared.position.Pos.{Pos}
use Rattle.machine.specs.place_names.declared.selector.Sel.{Sel}
use Rattle.machine.specs.place_names.declared.act.Act.TheVariants.{Move, Write, EndScope}
use Rattle.machine.specs.place_names.declared.rule.Loan.TheVariants.{Borrowed}
use Rattle.machine.specs.place_names.declared.fact.Fact.{Fact}
use Rattle.machine.specs.place_names.Names.{extend}
use Rattle.machine.specs.place_names.Facts.{effect}
use Rattle.machine.specs.type_definitions.Types.{words, parts}
use Rattle.machine.specs.flow_paths.Objects.{Typing}
use Rattle.machine.specs.Words.{access_offsets}
use Rattle.machine.specs.Words as machine
use Rattle.machine.specs.Memory.{Slot, Memory, HeapCell, Place, fresh, cell, no_slot, slots_at, slots_of, words_of, gone_at, stored, moved_out, undeclared, with_new_cell}
use Rattle.machine.specs.Calls.{checked_at}
use Rattle.machine.specs.States.{Waiting, Leak}
use Rattle.soundness.specs.OwnedWays.Ways.{Step, OfVariable, OfHand, Loc, OfRoot, OfCell, Inside, Way, Object, Lost, Into, All, Gone, View, IsRooted, Reaches, Owned, part, along, Under, Named, Spares, Allows, Sound, sels_of, name_of, sel_of, base_of, number_of}
use Rattle.soundness.proofs.OwnedWays.Locations.{under_along, under_itself, named_along, reaches_along}
use Rattle.soundness.specs.PartOffsets.Parts.{type_in, offset_in, is_leaf, sels_along, IsSettled}
use Rattle.soundness.proofs.PartOffsets.Leaves.{leaf_has}
use Rattle.soundness.specs.Seen.{Content, content, trunk, steps_in, word_in, owner_at, seen_of, seen}
use Rattle.soundness.specs.Changes.{hand, Checks, leaks_at}
use Rattle.soundness.specs.Typed.{Matches, Kept, Spot}
use Rattle.soundness.proofs.Contents.{bool_cases, word_yes, word_part, stored_step, stored_whole, taken_step, taken_marks, checks_made}
use Rattle.soundness.proofs.Steps.{content_slots, put_count, put_freed, alike, stores, takes}
use Rattle.soundness.proofs.Ends.{drops, new_other}
use Rattle.soundness.proofs.Moments.{number_part}
use Rattle.soundness.specs.OwnedLoans.Views.{Around, Views, expand, ExcusedBy, Viewed}
use Rattle.soundness.proofs.OwnedLoans.Meeting.{IsPlain}
use Rattle.soundness.proofs.OwnedLoans.Others.{clean_away}
use Rattle.soundness.proofs.OwnedLoans.Allowed.{move_unlent, move_unmoved}
use Rattle.soundness.proofs.OwnedLoans.Moves.{IsPlace, rests_there, rooted_way, view_rooted, reached, view_on, parts_on, all_known, no_hand, taken, put}
use Rattle.soundness.proofs.OwnedLoans.Ended.{Leaves, ended}
use Rattle.soundness.proofs.Parted.{by_either}

-- ---- ways through words that stay

-- What a way of a name reaches is in a variable, or in a cell that was made.
abbrev pub IsOld : View → Loc → Type 0
IsOld s (OfRoot (OfVariable f x)) = Unit {0}
IsOld s (OfRoot (OfHand h)) = ⊥
IsOld s (OfCell c) = c < s.made
IsOld s (Inside l i) = IsOld s l

far_old : (s : View) → Owned s → (w : Way) (l : Loc) (f x : ℕ) → base_of w ≡ OfRoot (OfVariable f x) → Reaches s w l → IsOld s l
far_old s owned (Object (OfVariable g y)) l f x base r = subst (IsOld s) (sym r) tt
far_old s owned (Object (OfHand h)) l f x base r = cc
far_old s owned (Lost c) l f x base r = cc
far_old s owned (Into w i) l f x base (m, r, e) = subst (IsOld s) (sym e) (far_old s owned w m f x base r)
far_old s owned (All w) l f x base (m, c, r, held, e) = subst (IsOld s) (sym e) (owned.within m c held)

old_part : (s : View) (l : Loc) (p : List Step) → IsOld s l → IsOld s (part l p)
old_part s l [] old = old
old_part s l (i ∷ p) old = old_part s l p old

far_reaches : (s t : View) → Owned s → ((l : Loc) → IsOld s l → t.word l ≡ s.word l) → (w : Way) (l : Loc) (f x : ℕ) → base_of w ≡ OfRoot (OfVariable f x)
    → Reaches s w l → Reaches t w l
far_reaches s t owned same (Object r) l f x base reach = reach
far_reaches s t owned same (Lost c) l f x base reach = cc
far_reaches s t owned same (Into w i) l f x base (m, reach, e) = (m, far_reaches s t owned same w m f x base reach, e)
far_reaches s t owned same (All w) l f x base (m, c, reach, held, e) =
    (m, c, far_reaches s t owned same w m f x base reach, same m (far_old s owned w m f x base reach) ∙ held, e)

module _ (home : ℕ → ℕ) (observer : ℕ → Bool) (other : Around home) (v : Views) where
  -- nothing changes for views where the words of variables and cells stay
  pub from_sound : (s t : View) (facts : List Fact) → Viewed home observer other v s facts → Sound home (ExcusedBy home v other facts) t []
      → ((l : Loc) → IsOld s l → t.word l ≡ s.word l) → Viewed home observer other v t facts
  from_sound s t facts viewed sound same = record {
    owned = sound.owned;
    covered = sound.covered;
    known = all_known home observer other v t facts sound.known;
    clear = viewed.clear;
    lends = viewed.lends;
    views = (
      λ x w has. (let view = viewed.views.0 x w has in
          let root = view_rooted home observer other v s facts viewed.views x w has in
          view_on home observer other v s t facts facts x w view (λ seen n loan. loan)
          (far_reaches s t viewed.owned same w (OfCell (v.cell x)) root.0 root.1 root.2 (reached home observer other v s facts x w view))),
      parts_on home observer other v s t viewed.views.1
          (λ x p w has reach. (let root = (viewed.views.1 x p w has).begins in
          far_reaches s t viewed.owned same w (OfCell (v.part_cell x p)) root.0 root.1 root.2 reach)),
    );
    whole = viewed.whole;
    whole_away = viewed.whole_away;
    shown = viewed.shown;
    whole_parts = viewed.whole_parts;
    parts_away = viewed.parts_away;
    past = viewed.past;
    far = λ w n keeps. (let root = other.begins w n keeps in far_reaches s t viewed.owned same w (OfCell n) root.0 root.1 root.2 (viewed.far w n keeps));
    bare = λ w l p bare q c held. (let root = other.bares w l p bare in
        viewed.bare w l p bare q c (sym (same (part l (q ++ p))
        (old_part s l (q ++ p) (far_old s viewed.owned w l root.0 root.1 root.2 (rests_there home observer other v s facts viewed w l p bare)))) ∙ held));
  }

  -- nothing that is known of a name is of a hand
  pub hands_spared : (s : View) (facts : List Fact) → Viewed home observer other v s facts → ((h : ℕ) (w : Way) → Under (Object (OfHand h)) w → other.gone w → ⊥)
      → (h : ℕ) → Spares (ExcusedBy home v other facts) (Object (OfHand h))
  hands_spared s facts viewed alone h w under (inl moved) = no_hand home observer other v s facts viewed (Object (OfHand h)) w tt under moved
  hands_spared s facts viewed alone h w under (inr o) = alone h w under o

-- the words of variables and cells, with other hands
pub other_hands : (s : Typing) (m : Memory) (a b : List Waiting) (leaks : List Leak) (l : Loc) → IsOld (seen s m a leaks) l
    → (seen s m b leaks).word l ≡ (seen s m a leaks).word l
other_hands s m a b leaks l old = by_trunk l (steps_in l) old
  where
    by_trunk : (l : Loc) (p : List Step) → IsOld (seen s m a leaks) l
        → word_in s.table (content s m b (trunk l)) p ≡ word_in s.table (content s m a (trunk l)) p
    by_trunk (OfRoot (OfVariable f x)) p old = refl
    by_trunk (OfRoot (OfHand h)) p old = absurd old
    by_trunk (OfCell c) p old = refl
    by_trunk (Inside l i) p old = by_trunk l p old

-- and with a new cell
pub with_cell : (s : Typing) (m : Memory) (t : ℕ) (ws : List machine.Word) (a b : List Waiting) (leaks : List Leak) (l : Loc)
    → IsOld (seen s m a leaks) l → (seen s (with_new_cell t ws m) b leaks).word l ≡ (seen s m a leaks).word l
with_cell s m t ws a b leaks l old = by_trunk l (steps_in l) old
  where
    by_trunk : (l : Loc) (p : List Step) → IsOld (seen s m a leaks) l
        → word_in s.table (content s (with_new_cell t ws m) b (trunk l)) p ≡ word_in s.table (content s m a (trunk l)) p
    by_trunk (OfRoot (OfVariable f x)) p old = refl
    by_trunk (OfRoot (OfHand h)) p old = absurd old
    by_trunk (OfCell c) p old =
        ap (λ (z : HeapCell). word_in s.table (record { of = z.of; slots = z.slots; owns = not z.freed }) p) (new_other s m t ws c (λ e. absurd (omega (arith, old, e))))
    by_trunk (Inside l i) p old = by_trunk l p old

-- ---- names of parts

sels_part : (w : Way) (p : List Step) → sels_of (along w p) ≡ sels_of w ++ sels_along p
sels_part w [] = sym (append-nil (sels_of w))
sels_part w (i ∷ p) = ap (λ z. z ++ (sel_of i ∷ [])) (sels_part w p) ∙ joined (sels_of w) (sels_along p) (sel_of i ∷ [])
  where
    joined : (a b c : List Sel) → (a ++ b) ++ c ≡ a ++ (b ++ c)
    joined [] b c = refl
    joined (x ∷ a) b c = ap (λ z. x ∷ z) (joined a b c)

name_part : (w : Way) (p : List Step) → name_of (along w p) ≡ extend (name_of w) (sels_along p)
name_part w p = (λ j. record { root = number_part w p j; sels = sels_part w p j })

abbrev whole_slots : Typing → Memory → Place → List Slot → List Slot
whole_slots s m k slots = take k.at (slots_at s m k.base) ++ slots ++ drop (k.at + length slots) (slots_at s m k.base)

abbrev gone_slots : Typing → Memory → Place → List Slot
gone_slots s m k = whole_slots s m k (gone_at (access_offsets s.table k.of) (slots_of s m k))

module _ (s : Typing) (settled : IsSettled s.table) (home : ℕ → ℕ) (observer : ℕ → Bool) (other : Around home) (v : Views) where
  -- nothing else concerns a hand
  abbrev pub Hands : Type 0
  Hands = (h : ℕ) → Spares other.gone (Object (OfHand h))

  same_leaks : (m : Memory) (hands : List Waiting) (k : Place) (l : Loc) (pos : Pos) → Spot s m hands k l
      → checked_at pos (offset_in s.table (content s m hands (trunk l)).of (steps_in l)) (content s m hands (trunk l)).slots (access_offsets s.table k.of)
      ≡ leaks_at s pos m k
  same_leaks m hands k l pos spot =
      ap (λ o. checked_at pos o (content s m hands (trunk l)).slots (access_offsets s.table k.of)) (sym spot.at)
      ∙ ap (λ z. checked_at pos k.at (content s m hands z).slots (access_offsets s.table k.of)) spot.base
      ∙ ap (λ z. checked_at pos k.at z (access_offsets s.table k.of)) (content_slots s m hands k.base spot.made)

  -- ---- a value is stored, after its leak checks

  pub stored_viewed : (m : Memory) (x : Waiting) (rest : List Waiting) (leaks : List Leak) (facts : List Fact) (k : Place) (l : Loc) (u : Way) (pos : Pos)
      → Viewed home observer other v (seen s m (x ∷ rest) leaks) facts → Hands → Kept s m (x ∷ rest) → Spot s m (x ∷ rest) k l
      → Named home u → observer (number_of u) ≡ false → IsPlace v u → Reaches (seen s m (x ∷ rest) leaks) (expand v u) l
      → (content s m (x ∷ rest) (trunk l)).owns ≡ true
      → Allows facts (Write (name_of u)) → length x.words ≡ words s.table k.of → Matches s.table x.of k.of
      → Viewed home observer other v (seen s (stored s k x.words m) rest (leaks ++ leaks_at s pos m k)) (effect (Write (name_of u)) facts)
  stored_viewed m x rest leaks facts k l u pos viewed hands kept spot named plain place reaches owns allowed long fits =
      let a : Loc → Content = content s m (x ∷ rest) in
      let b : Loc → Content = content s (stored s k x.words m) rest in
      let change = stores s settled m x rest kept k l spot long fits owns in
      let checks0 = checks_made s.table settled (a (trunk l)) (steps_in l) k.of pos leaks spot.there owns
      (alike s.table settled k.of (type_in s.table (a (trunk l)).of (steps_in l)) spot.of) in
      let checks : Checks s.table (a (trunk l)) (steps_in l) leaks (leaks ++ leaks_at s pos m k) =
      subst (λ z. Checks s.table (a (trunk l)) (steps_in l) leaks (leaks ++ z)) (same_leaks m (x ∷ rest) k l pos spot) checks0 in
      let move = stored_step s.table settled a b (length rest) x l (length m.cells) (λ n. (cell m n).freed) leaks (leaks ++ leaks_at s pos m k) change checks in
      let name : IsPlain home observer v (seen s m (x ∷ rest) leaks) facts viewed.views u = (named, plain) in
      let done = put home observer other v (seen s m (x ∷ rest) leaks) (seen_of s.table b (length m.cells) (λ n. (cell m n).freed) (leaks ++ leaks_at s pos m k))
      (Object (OfHand (length rest))) u (hand (length rest)) l facts viewed move tt (hands (length rest)) refl named plain place reaches allowed
      (stored_whole s.table settled a b (length rest) x l (length m.cells) (λ n. (cell m n).freed) (leaks ++ leaks_at s pos m k) change) in
      subst (λ z. Viewed home observer other v z (effect (Write (name_of u)) facts))
      (λ j. seen_of s.table b (sym (put_count s m k.base (whole_slots s m k (fresh x.words))) j) (λ n. sym (put_freed s m k.base (whole_slots s m k (fresh x.words)) n) j) (leaks ++ leaks_at s pos m k)) done

  -- ---- what a name has is taken, by the act Move

  pub taken_viewed : (m : Memory) (rest : List Waiting) (leaks : List Leak) (facts : List Fact) (k : Place) (l : Loc) (u : Way)
      → Viewed home observer other v (seen s m rest leaks) facts → Spares other.gone (expand v u) → Kept s m rest → Spot s m rest k l
      → Named home u → observer (number_of u) ≡ false → Reaches (seen s m rest leaks) (expand v u) l → (content s m rest (trunk l)).owns ≡ true
      → Allows facts (Move (name_of u) (parts s.table k.of))
      → Viewed home observer other v (seen s (moved_out s k m) (record { of = k.of; words = words_of s m k } ∷ rest) leaks)
      (effect (Move (name_of u) (parts s.table k.of)) facts)
  taken_viewed m rest leaks facts k l u viewed spares kept spot named plain reaches owns allowed =
      let x : Waiting = record { of = k.of; words = words_of s m k } in
      let a : Loc → Content = content s m rest in
      let b : Loc → Content = content s (moved_out s k m) (x ∷ rest) in
      let change = takes s settled m rest kept k l spot owns (λ p leaf. whole p leaf) in
      let move = taken_step s.table settled a b (length rest) x l (length m.cells) (λ n. (cell m n).freed) leaks change in
      let like = alike s.table settled k.of (type_in s.table (a (trunk l)).of (steps_in l)) spot.of in
      let done = taken home observer other v (seen s m rest leaks) (seen_of s.table b (length m.cells) (λ n. (cell m n).freed) leaks) u (Object (OfHand (length rest)))
      l (hand (length rest)) (parts s.table k.of) facts viewed move named plain spares reaches tt refl allowed
      (λ p gone. (
      let leaf = taken_marks s.table settled a b (length rest) x l (length m.cells) (λ n. (cell m n).freed) leaks change p gone in
      (sels_along p, leaf_has s.table settled k.of p (like.leaf p ∙ leaf), name_part u p))) in
      subst (λ z. Viewed home observer other v z (effect (Move (name_of u) (parts s.table k.of)) facts))
      (λ j. seen_of s.table b (sym (put_count s m k.base (gone_slots s m k)) j) (λ n. sym (put_freed s m k.base (gone_slots s m k) n) j) leaks) done
    where
      name : IsPlain home observer v (seen s m rest leaks) facts viewed.views u
      name = (named, plain)

      rooted : IsRooted (expand v u)
      rooted = rooted_way home observer other v (seen s m rest leaks) facts viewed.views u name

      -- nothing at or below the name is gone
      whole : (p : List Step) → is_leaf s.table (content s m rest (trunk l)).of (p ++ steps_in l) ≡ true
          → (get_or (content s m rest (trunk l)).slots (offset_in s.table (content s m rest (trunk l)).of (p ++ steps_in l)) no_slot).gone ≡ false
      whole p leaf = by_either (bool_cases (get_or (content s m rest (trunk l)).slots (offset_in s.table (content s m rest (trunk l)).of (p ++ steps_in l)) no_slot).gone)
          (λ e. (absurd (clean (viewed.known (along (expand v u) p) (part l p) (named_along (expand v u) p rooted)
          (reaches_along (seen s m rest leaks) (expand v u) l p reaches)
          (word_part s.table (content s m rest) l p ∙ word_yes s.table (content s m rest (trunk l)) (p ++ steps_in l) owns leaf ∙ marked _ _ e)))))
          (λ e. (e))
        where
          marked : (z : machine.Word) (g : Bool) → g ≡ true → owner_at z g ≡ Gone
          marked z true e = refl
          marked z false e = absurd (false≢true e)

          clean : ExcusedBy home v other facts (along (expand v u) p) → ⊥
          clean (inl moved) =
              clean_away home observer other v (seen s m rest leaks) facts viewed u (along (expand v u) p) name
              (λ h n. move_unlent facts u (parts s.table k.of) allowed Borrowed h n) (move_unmoved facts u (parts s.table k.of) allowed)
              (under_along (expand v u) (expand v u) p (under_itself (expand v u))) moved
          clean (inr o) = spares (along (expand v u) p) (under_along (expand v u) (expand v u) p (under_itself (expand v u))) o

  -- ---- the scope of an object ends, after its leak checks

  pub ended_viewed : (m : Memory) (rest : List Waiting) (leaks leaks' : List Leak) (facts : List Fact) (x : ℕ) (borrower : Bool)
      → Viewed home observer other v (seen s m rest leaks) facts → Checks s.table (content s m rest (OfRoot (OfVariable (home x) x))) [] leaks leaks'
      → Leaves home observer other v x (effect (EndScope x borrower) facts)
      → Viewed home observer other v (seen s (undeclared (home x) x m) rest leaks') (effect (EndScope x borrower) facts)
  ended_viewed m rest leaks leaks' facts x borrower viewed checks leaves =
      ended home observer other v (seen s m rest leaks) (seen s (undeclared (home x) x m) rest leaks') x borrower facts viewed
      (drops s m (home x) x rest leaks leaks' checks) leaves
