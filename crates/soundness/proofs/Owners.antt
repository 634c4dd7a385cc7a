-- A sound state is well owned.
use Rattle.std.proofs.Common.{◌≡◌, refl, sym, ap, ◌∙◌, subst, ◌⊎◌, inl, inr, ℕ, zero, suc, ◌<◌, ◌≤◌, Bool, true, false, not, ◌&&◌, ◌==◌, eqb-true, List, [], ◌∷◌, ◌++◌, get_or, arith, append-nil}
use Rattle.std.proofs.lemmas.Bool.{false≢true, true≢false}
use Rattle.machine.specs.type_definitions.Types.{is_owning}
use Rattle.machine.specs.flow_paths.Objects.{Typing, object_at}
use Rattle.machine.specs.Memory.{Slot, cell, no_slot}
use Rattle.machine.specs.States.{Leak, State}
use Rattle.machine.specs.Owners.{Holder, InVariable, InWaiting, InCell, waiting_in, holder_type, holder_slots, may_own, is_in_formal, owned, Owns, IsLeaked, HasOneOwner, IsHeld, leaked, by_variable, by_waiting, by_cell, WellOwned}
use Rattle.soundness.specs.OwnedWays.Ways.{Step, OfVariable, OfHand, Loc, OfRoot, OfCell, Inside, Way, Object, Lost, Into, All, Held, View, Reaches, part, Owned, Covered}
use Rattle.soundness.proofs.OwnedWays.Locations.{one_part, depth}
use Rattle.soundness.specs.PartOffsets.Parts.{offset_in, is_leaf, IsSettled}
use Rattle.soundness.proofs.PartOffsets.Leaves.{leaf_at, leaf_from}
use Rattle.soundness.specs.Seen.{Content, content, trunk, steps_in, word_in, owner_word}
use Rattle.soundness.specs.Changes.{hand}
use Rattle.soundness.specs.Typed.{OwnsByShape}
use Rattle.soundness.specs.Sound.{view_of}
use Rattle.soundness.proofs.Joined.{trunk_part, whole, not_inside}
use Rattle.soundness.proofs.Lasting.{ownerless}
use Rattle.soundness.proofs.Contents.{bool_cases, owner_held, word_yes, word_part, Shown, shown, any_from}
use Rattle.soundness.proofs.Parted.{loc_cells, empty_held, cell_root, cell_inside}

slot_of : (x : Slot) (n : ℕ) → owner_word x ≡ Held n → x ≡ owned n
slot_of x n e = let is = owner_held x.word x.gone n e in (λ j. record { word = is.0 j; gone = is.1 j })

not_both : (a b : Bool) → not a ≡ true → not (a && b) ≡ true
not_both true b e = absurd (false≢true e)
not_both false b e = refl

not_first : (a b : Bool) → b ≡ true → not (a && b) ≡ true → not a ≡ true
not_first true true owns e = e
not_first true false owns e = owns
not_first false b owns e = refl

-- a part of a cell is reached through the cell
pub strip : (view : View) (c : ℕ) (p : List Step) (w : Way) → Reaches view w (part (OfCell c) p) → (v : Way) × Reaches view v (OfCell c) × (depth v ≤ depth w)
strip view c [] w r = (w, r, omega arith)
strip view c (i ∷ p) (Object r0) r = cc
strip view c (i ∷ p) (Lost k) r = let e = r.1 in cc
strip view c (i ∷ p) (Into w j) (l, r, e) =
    let same : l ≡ part (OfCell c) p = cc in
    let found = strip view c p w (subst (Reaches view w) same r) in
    let less = found.2 in
    (found.0, found.1, omega (arith, less))
strip view c (i ∷ p) (All w) (l, k, r, h, e) = cc

-- ---- holders are trunks of locations

abbrev at_holder : Holder → Loc
at_holder (InVariable f x) = OfRoot (OfVariable f x)
at_holder (InWaiting k) = hand k
at_holder (InCell c) = OfCell c

own_trunk : (h : Holder) → trunk (at_holder h) ≡ at_holder h
own_trunk (InVariable f x) = refl
own_trunk (InWaiting k) = refl
own_trunk (InCell c) = refl

no_steps : (h : Holder) → steps_in (at_holder h) ≡ []
no_steps (InVariable f x) = refl
no_steps (InWaiting k) = refl
no_steps (InCell c) = refl

same_holder : (h k : Holder) → at_holder h ≡ at_holder k → h ≡ k
same_holder (InVariable f x) (InVariable g y) e = let frames : f ≡ g = cc in let objects : x ≡ y = cc in (λ j. InVariable (frames j) (objects j))
same_holder (InWaiting a) (InWaiting b) e = let same : a ≡ b = cc in ap InWaiting same
same_holder (InCell a) (InCell b) e = let same : a ≡ b = cc in ap InCell same
same_holder (InVariable f x) (InWaiting b) e = cc
same_holder (InVariable f x) (InCell b) e = cc
same_holder (InWaiting a) (InVariable g y) e = cc
same_holder (InWaiting a) (InCell b) e = cc
same_holder (InCell a) (InVariable g y) e = cc
same_holder (InCell a) (InWaiting b) e = cc

module _ (s : Typing) (settled : IsSettled s.table) (own_law : OwnsByShape s.table) (state : State) (owners : Owned (view_of s state)) (covered : Covered (view_of s state)) where
  abbrev seen_at : Loc → Content
  seen_at l = content s state.memory (waiting_in state) l

  -- what stands there is what the holder has
  same_content : (h : Holder) → seen_at (at_holder h) ≡ record { of = holder_type s state h; slots = holder_slots s state h; owns = (seen_at (at_holder h)).owns }
  same_content (InVariable f x) = refl
  same_content (InWaiting k) = refl
  same_content (InCell c) = refl

  -- what may own does, and what has something that owns may
  owns_there : (h : Holder) → may_own s state h ≡ true → (seen_at (at_holder h)).owns ≡ true
  owns_there (InVariable f x) may = not_both (is_in_formal s x) (is_owning s.table (object_at s x).of) may
  owns_there (InWaiting k) may = refl
  owns_there (InCell c) may = may

  may_there : (h : Holder) (p : List Step) → (seen_at (at_holder h)).owns ≡ true → is_leaf s.table (holder_type s state h) p ≡ true → may_own s state h ≡ true
  may_there (InVariable f x) p owns leaf = elim (bool_cases (is_owning s.table (object_at s x).of)) [
    | inl owning ↦ not_first (is_in_formal s x) (is_owning s.table (object_at s x).of) owning owns
    | inr none ↦ (let no : true ≡ false = sym leaf ∙ ownerless s.table own_law (object_at s x).of none p in absurd (true≢false no))
  ]
  may_there (InWaiting k) p owns leaf = refl
  may_there (InCell c) p owns leaf = owns

  -- where an owner stands
  abbrev Stands : Holder → ℕ → Loc → Type 0
  Stands h o l = (p : List Step) × (l ≡ part (at_holder h) p) × (o ≡ offset_in s.table (holder_type s state h) p)

  -- each owner stands at a location
  stands : (h : Holder) (o n : ℕ) → Owns s state h o n → (l : Loc) × ((view_of s state).word l ≡ Held n) × Stands h o l
  stands h o n owns =
      let leaf = leaf_from s.table settled (holder_type s state h) o owns.access in
      let there = same_content h in (
        part (at_holder h) leaf.0,
        word_part s.table seen_at (at_holder h) leaf.0
            ∙ (λ j. word_in s.table (seen_at (own_trunk h j)) (leaf.0 ++ no_steps h j))
            ∙ ap (word_in s.table (seen_at (at_holder h))) (append-nil leaf.0)
            ∙ ap (λ c. word_in s.table c leaf.0) there
            ∙ word_yes s.table (record { of = holder_type s state h; slots = holder_slots s state h; owns = (seen_at (at_holder h)).owns }) leaf.0
            (owns_there h owns.may) leaf.1
            ∙ ap (λ k. owner_word (get_or (holder_slots s state h) k no_slot)) leaf.2
            ∙ ap owner_word owns.holds,
        (leaf.0, refl, sym leaf.2),
      )

  -- owners at one location are one
  same_owner : (h k : Holder) (o i : ℕ) (l : Loc) → Stands h o l → Stands k i l → (h ≡ k) × (o ≡ i)
  same_owner h k o i l (p, e, at_o) (q, f, at_i) =
      let base : at_holder h ≡ at_holder k =
      sym (own_trunk h) ∙ sym (trunk_part (at_holder h) p) ∙ ap trunk (sym e ∙ f) ∙ trunk_part (at_holder k) q ∙ own_trunk k in
      let same : h ≡ k = same_holder h k base in
      let steps = one_part (at_holder k) p q (ap (λ z. part z p) (sym base) ∙ sym e ∙ f) in
      (same, at_o ∙ (λ j. offset_in s.table (holder_type s state (same j)) (steps j)) ∙ sym at_i)

  -- a number that is held has an owner there
  abbrev OwnedAt : Loc → ℕ → Type 0
  OwnedAt l n = (h : Holder) × (o : ℕ) × Owns s state h o n × Stands h o l

  by_holder : (l : Loc) (n : ℕ) (h : Holder) → trunk l ≡ at_holder h → Shown s.table (seen_at (at_holder h)) (steps_in l) (Held n) → OwnedAt l n
  by_holder l n h e shows =
      let there = same_content h in
      let shows_there = subst (λ c. Shown s.table c (steps_in l) (Held n)) there shows in (
        h,
        offset_in s.table (holder_type s state h) (steps_in l),
        record {
          may = may_there h (steps_in l) shows_there.owns shows_there.leaf;
          access = leaf_at s.table settled (holder_type s state h) (steps_in l) shows_there.leaf;
          holds = slot_of _ n shows_there.slot;
        },
        (steps_in l, sym (whole l) ∙ ap (λ z. part z (steps_in l)) e, refl),
      )

  by_trunk : (l : Loc) (n : ℕ) (a : Loc) → trunk l ≡ a → Shown s.table (seen_at a) (steps_in l) (Held n) → OwnedAt l n
  by_trunk l n (OfRoot (OfVariable f x)) e shows = by_holder l n (InVariable f x) e shows
  by_trunk l n (OfRoot (OfHand h)) e shows = by_holder l n (InWaiting h) e shows
  by_trunk l n (OfCell c) e shows = by_holder l n (InCell c) e shows
  by_trunk l n (Inside a i) e shows = absurd (not_inside l a i e)

  owned_at : (l : Loc) (n : ℕ) → (view_of s state).word l ≡ Held n → OwnedAt l n
  owned_at l n e = by_trunk l n (trunk l) refl (shown s.table (seen_at (trunk l)) (steps_in l) (Held n) empty_held e)

  leaked_is : (n : ℕ) → (view_of s state).leaked n ≡ true → IsLeaked state n
  leaked_is n e = let found = any_from (λ (leak : Leak). leak.number == n) state.leaks e in (found.0, found.1, eqb-true found.0.number n found.2)

  one_owner : (l : Loc) (n : ℕ) → (view_of s state).word l ≡ Held n → HasOneOwner s state n
  one_owner l n e =
      let found = owned_at l n e in
      record {
        holder = found.0;
        at = found.1;
        owns = found.2;
        only = λ h o owns. (
            let other = stands h o n owns in
            let same = owners.unique other.0 l n other.1 e in
            same_owner h found.0 o found.1 l (subst (Stands h o) same other.2) found.3);
      }

  reached : (n : ℕ) (w : Way) → Reaches (view_of s state) w (OfCell n) → IsLeaked state n ⊎ HasOneOwner s state n
  reached n (Object r) e = absurd (cell_root e)
  reached n (Lost c) (lost, e) = let same : n ≡ c = loc_cells e in inl (subst (IsLeaked state) (sym same) (leaked_is c lost))
  reached n (Into w i) (l, r, e) = absurd (cell_inside e)
  reached n (All w) (l, c, r, held, e) = let same : n ≡ c = loc_cells e in inr (subst (HasOneOwner s state) (sym same) (one_owner l c held))

  by_owner : (l : Loc) (c : ℕ) (h : Holder) (o : ℕ) → Owns s state h o c → Stands h o l
      → ((d : ℕ) (p : List Step) → l ≡ part (OfCell d) p → IsHeld s state d) → IsHeld s state c
  by_owner l c (InVariable f x) o owns stand next = by_variable c o f x owns
  by_owner l c (InWaiting k) o owns stand next = by_waiting c o k owns
  by_owner l c (InCell d) o owns stand next = by_cell c o d owns (next d stand.0 stand.1)

  is_held : (k : ℕ) (w : Way) (n : ℕ) → depth w < k → Reaches (view_of s state) w (OfCell n) → IsHeld s state n
  is_held zero w n less r = absurd (omega (arith, less))
  is_held (suc k) (Object r0) n less e = absurd (cell_root e)
  is_held (suc k) (Lost c) n less (lost, e) = let same : n ≡ c = loc_cells e in subst (IsHeld s state) (sym same) (leaked c (leaked_is c lost))
  is_held (suc k) (Into w i) n less (l, r, e) = absurd (cell_inside e)
  is_held (suc k) (All w) n less (l, c, r, h, e) =
      let same : n ≡ c = loc_cells e in
      let found = owned_at l c h in
      subst (IsHeld s state) (sym same) (by_owner l c found.0 found.1 found.2 found.3 (λ d p is. (
      let up = strip (view_of s state) d p w (subst (Reaches (view_of s state) w) is r) in
      let low = up.2 in
      is_held k up.0 d (omega (arith, less, low)) up.1)))

  pub well_owned : WellOwned s state
  well_owned = record {
    each = λ n lo hi. elim (bool_cases (cell state.memory n).freed) [
      | inl dead ↦ inl dead
      | inr alive ↦ (let way = covered n (omega (arith, hi)) alive in inr (reached n way.0 way.1))
    ];
    held = λ n lo hi alive. (let way = covered n (omega (arith, hi)) alive in is_held (suc (depth way.0)) way.0 n (omega arith) way.1);
  }
