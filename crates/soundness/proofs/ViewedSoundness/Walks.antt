-- Where a name of owners leads, beside formals that own nothing: as names lead where all variables
-- own.
use Rattle.std.proofs.Common.{◌≡◌, refl, sym, ap, ◌∙◌, subst, inl, inr, ℕ, ◌+◌, ◌*◌, ◌<◌, Bool, true, false, List, [], ◌∷◌, map, sum, take, drop, length, get_or, lt-ltb, drop-cons, arith, if◌then◌else◌}
use Rattle.machine.specs.type_definitions.declared.table.Component.{Component as Part}
use Rattle.machine.specs.type_definitions.declared.table.Shape.{Shape}
use Rattle.machine.specs.type_definitions.declared.table.Shape.TheVariants as shape
use Rattle.machine.specs.type_definitions.Types.{shape_of, components_of, fields, words, words_of, view_of, is_scalar}
use Rattle.machine.specs.flow_paths.Objects.{Typing, designated, designated_of}
use Rattle.machine.specs.Words.{no_component, component_type, words_before, element_of, count_of, element_type, element_count}
use Rattle.machine.specs.Words as machine
use Rattle.machine.specs.Memory.{Slot, Memory, Place, cell, no_slot, slots_at, slots_of}
use Rattle.machine.specs.Evaluate.{Now, Done, Traps, followed_by, component_place, element_place, cell_place, designated_place, walked, Touched}
use Rattle.machine.specs.Evaluate as run
use Rattle.machine.specs.States.{Waiting, Leak}
use Rattle.soundness.specs.OwnedWays.Ways.{Component, Element, Loc, OfCell, Inside, Way, Object, Lost, Into, All, Gone, Held, Reaches, IsRooted, Past, Owned, Known}
use Rattle.soundness.proofs.OwnedWays.Locations.{under_itself}
use Rattle.soundness.specs.PartOffsets.Parts.{type_in, offset_in, owns_one, is_leaf, IsSettled}
use Rattle.soundness.specs.Seen.{content, trunk, steps_in, owner_at, owner_word, seen}
use Rattle.soundness.specs.Typed.{Matches, Kept, Spot}
use Rattle.soundness.proofs.Contents.{bool_cases, word_yes}
use Rattle.soundness.proofs.Steps.{plain_shape, room, content_slots}
use Rattle.soundness.proofs.Walks.{both_true, way_along, Lead, past_along, Walked}
use Rattle.soundness.specs.ViewedSoundness.Holds.{IsOwners}

no_fields : (s : Shape) → is_scalar (view_of s) ≡ true → components_of s ≡ []
no_fields s e = (plain_shape s e).0

access_is : (d : ℕ) (c n : Bool) (s : Shape) → s ≡ shape.Access d c n → is_scalar (view_of s) ≡ true → ⊥
access_is d c n s e f = let is : is_scalar (view_of (shape.Access d c n)) ≡ true = ap (λ z. is_scalar (view_of z)) (sym e) ∙ f in cc

pub owners_rooted : (s : Typing) (w : Way) → IsOwners s w → IsRooted w
owners_rooted s (Object r) o = tt
owners_rooted s (Lost n) o = absurd o
owners_rooted s (Into w i) o = owners_rooted s w o
owners_rooted s (All w) o = owners_rooted s w o

module _ (s : Typing) (settled : IsSettled s.table) (hands : List Waiting) (leaks : List Leak) where
  pub component_spot : (m : Memory) (k : Place) (l : Loc) (i : ℕ) → Spot s m hands k l → i < length (fields s.table k.of)
      → Spot s m hands (component_place s.table i k) (Inside l (Component i))
  component_spot m k l i spot lt = by_type spot.of
    where
      u : ℕ
      u = type_in s.table (content s m hands (trunk l)).of (steps_in l)

      by_type : Matches s.table k.of (type_in s.table (content s m hands (trunk l)).of (steps_in l)) → Spot s m hands (component_place s.table i k) (Inside l (Component i))
      by_type (inl e) =
          let at : words_before s.table k.of i ≡ words_before s.table (type_in s.table (content s m hands (trunk l)).of (steps_in l)) i =
          ap (λ z. sum (map (λ (c : Part). words s.table c.of) (take i (components_of z)))) e in
          let type : component_type s.table k.of i ≡ component_type s.table (type_in s.table (content s m hands (trunk l)).of (steps_in l)) i =
          ap (λ z. (get_or (components_of z) i no_component).of) e in
          let many : length (fields s.table k.of) ≡ length (fields s.table (type_in s.table (content s m hands (trunk l)).of (steps_in l))) =
          ap (λ z. length (components_of z)) e in
          let old = spot.at in
          record {
            base = spot.base;
            made = spot.made;
            at = (λ j. old j + at j);
            there = both_true _ _ spot.there (lt-ltb i _ (omega (arith, lt, many)));
            of = inl (ap (shape_of s.table) type);
          }
      by_type (inr (a, b)) =
          let none = ap length (no_fields (shape_of s.table k.of) a) in absurd (omega (arith, lt, none))

  pub element_spot : (m : Memory) (k : Place) (l : Loc) (n : ℕ) → Spot s m hands k l → n < element_count s.table k.of
      → Spot s m hands (element_place s.table n k) (Inside l (Element n))
  element_spot m k l n spot lt = by_type spot.of
    where
      by_type : Matches s.table k.of (type_in s.table (content s m hands (trunk l)).of (steps_in l)) → Spot s m hands (element_place s.table n k) (Inside l (Element n))
      by_type (inl e) =
          let type : element_type s.table k.of ≡ element_type s.table (type_in s.table (content s m hands (trunk l)).of (steps_in l)) = ap element_of e in
          let many : element_count s.table k.of ≡ element_count s.table (type_in s.table (content s m hands (trunk l)).of (steps_in l)) = ap count_of e in
          let old = spot.at in
          record {
            base = spot.base;
            made = spot.made;
            at = (λ j. old j + n * words s.table (type j));
            there = both_true _ _ spot.there (lt-ltb n _ (omega (arith, lt, many)));
            of = inl (ap (shape_of s.table) type);
          }
      by_type (inr (a, b)) =
          let none = (plain_shape (shape_of s.table k.of) a).1 in absurd (omega (arith, lt, none))

  -- a place of one word
  one_word : (m : Memory) (k : Place) → words s.table k.of ≡ 1 → k.at < length (slots_at s m k.base)
      → slots_of s m k ≡ get_or (slots_at s m k.base) k.at no_slot ∷ []
  one_word m k one lt =
      ap (λ n. take n (drop k.at (slots_at s m k.base))) one
      ∙ ap (λ z. take 1 z) (drop-cons (slots_at s m k.base) k.at no_slot lt)

  module _ (m : Memory) (waits : List (List machine.Word)) (moved : Way → Type 0) (kept : Kept s m hands)
      (owned : Owned (seen s m hands leaks)) (known : Known (seen s m hands leaks) moved)
      (live : (w : Way) (l : Loc) → IsOwners s w → Reaches (seen s m hands leaks) w l → (content s m hands (trunk l)).owns ≡ true) where
    abbrev now_here : Now
    now_here = record { memory = m; waits = waits }

    abbrev pub slot_at : Place → Slot
    slot_at k = get_or (slots_at s m k.base) k.at no_slot

    pub one_slot : (k : Place) (l : Loc) (d : ℕ) (c : Bool) → Spot s m hands k l → shape_of s.table k.of ≡ shape.Access d c true
        → slots_of s m k ≡ slot_at k ∷ []
    one_slot k l d c spot is =
        let one : words s.table k.of ≡ 1 = settled.word_law k.of ∙ ap (words_of (words s.table)) is in
        let space = room s settled m hands kept k l spot in
        one_word m k one (omega (arith, space, one))

    pub type_is : (k : Place) (l : Loc) (d : ℕ) (c : Bool) → Spot s m hands k l → shape_of s.table k.of ≡ shape.Access d c true
        → shape_of s.table (type_in s.table (content s m hands (trunk l)).of (steps_in l)) ≡ shape.Access d c true
    type_is k l d c spot is = elim spot.of [
      | inl same ↦ sym same ∙ is
      | inr both ↦ absurd (access_is d c true (shape_of s.table k.of) is both.0)
    ]

    pub slot_is : (k : Place) (l : Loc) → Spot s m hands k l
        → get_or (content s m hands (trunk l)).slots (offset_in s.table (content s m hands (trunk l)).of (steps_in l)) no_slot ≡ slot_at k
    slot_is k l spot =
        ap (λ o. get_or (content s m hands (trunk l)).slots o no_slot) (sym spot.at)
        ∙ ap (λ z. get_or (content s m hands z).slots k.at no_slot) spot.base
        ∙ ap (λ z. get_or z k.at no_slot) (content_slots s m hands k.base spot.made)

    -- an access value that isn't moved is owned where it stands
    pub held_there : (k : Place) (l : Loc) (w : Way) (d : ℕ) (c : Bool) (n : ℕ) → Spot s m hands k l → IsOwners s w
        → Reaches (seen s m hands leaks) w l → shape_of s.table k.of ≡ shape.Access d c true → (slot_at k).word ≡ machine.Cell n
        → (moved w → ⊥) → (seen s m hands leaks).word l ≡ Held n
    held_there k l w d c n spot rooted reaches is e clean =
        let leaf : is_leaf s.table (content s m hands (trunk l)).of (steps_in l) ≡ true = both_true _ _ spot.there (ap owns_one (type_is k l d c spot is)) in
        let word : (seen s m hands leaks).word l ≡ owner_word (slot_at k) =
        word_yes s.table (content s m hands (trunk l)) (steps_in l) (live w l rooted reaches) leaf ∙ ap owner_word (slot_is k l spot) in
        word ∙ elim (bool_cases (slot_at k).gone) [
          | inl gone ↦ absurd (clean (known w l (owners_rooted s w rooted) reaches (word ∙ (λ j. owner_at (slot_at k).word (gone j)) ∙ any_gone (slot_at k).word)))
          | inr whole ↦ (λ j. owner_at (e j) (whole j))
        ]
      where
        any_gone : (x : machine.Word) → owner_at x true ≡ Gone
        any_gone x = refl

    pub cell_spot : (k : Place) (l : Loc) (d : ℕ) (c : Bool) (n : ℕ) → Spot s m hands k l → shape_of s.table k.of ≡ shape.Access d c true
        → (slot_at k).word ≡ machine.Cell n → Spot s m hands (cell_place d n) (OfCell n)
    cell_spot k l d c n spot is e =
        let points = kept.points (trunk l) (steps_in l) d c true n spot.there (type_is k l d c spot is) (ap (λ (x : Slot). x.word) (slot_is k l spot) ∙ e) in
        record { base = refl; made = (points.0, points.1); at = refl; there = refl; of = points.2 }

    -- a dereference
    met : (rest : List run.Step) (k : Place) (l : Loc) (w : Way) (u d : ℕ) (c : Bool) → Spot s m hands k l → IsOwners s w
        → Reaches (seen s m hands leaks) w l → shape_of s.table k.of ≡ shape.Access d c true → (moved w → ⊥)
        → ((n : ℕ) → Spot s m hands (cell_place d n) (OfCell n) → Reaches (seen s m hands leaks) (All w) (OfCell n)
        → Walked s settled hands leaks m waits (way_along rest (All w)) u (walked s rest (cell_place d n) now_here))
        → (x : machine.Word) → (slot_at k).word ≡ x
        → Walked s settled hands leaks m waits (way_along rest (All w)) u (followed_by (designated_place d (x ∷ []) now_here) (walked s rest))
    met rest k l w u d c spot rooted reaches is clean next (machine.Int v) e = refl
    met rest k l w u d c spot rooted reaches is clean next (machine.Enumerated v) e = refl
    met rest k l w u d c spot rooted reaches is clean next machine.Null e = refl
    met rest k l w u d c spot rooted reaches is clean next (machine.Cell n) e =
        let held = held_there k l w d c n spot rooted reaches is e clean in
        let alive : (cell m n).freed ≡ false = owned.live l n held in
        subst (λ b. Walked s settled hands leaks m waits (way_along rest (All w)) u (followed_by (if b then Traps Touched now_here else Done (cell_place d n) now_here) (walked s rest)))
        (sym alive) (next n (cell_spot k l d c n spot is e) (l, n, reaches, held, refl))

    pub walk : (steps : List run.Step) (k : Place) (l : Loc) (w : Way) (u : ℕ) → Spot s m hands k l → IsOwners s w → Reaches (seen s m hands leaks) w l
        → Lead s.table k.of steps u → ((v : Way) → Past v (way_along steps w) → moved v → ⊥)
        → Walked s settled hands leaks m waits (way_along steps w) u (walked s steps k now_here)
    walk [] k l w u spot rooted reaches lead clean = (l, refl, spot, reaches, lead)
    walk (run.ToComponent i ∷ rest) k l w u spot rooted reaches lead clean =
        walk rest (component_place s.table i k) (Inside l (Component i)) (Into w (Component i)) u (component_spot m k l i spot lead.0) rooted (l, reaches, refl) lead.1 clean
    walk (run.ToElement n ∷ rest) k l w u spot rooted reaches lead clean =
        walk rest (element_place s.table n k) (Inside l (Element n)) (Into w (Element n)) u (element_spot m k l n spot lead.0) rooted (l, reaches, refl) lead.1 clean
    walk (run.ToDesignated ∷ rest) k l w u spot rooted reaches (d, c, is, lead) clean =
        let word : slots_of s m k ≡ slot_at k ∷ [] = one_slot k l d c spot is in
        let type : designated s.table k.of ≡ d = ap (λ z. designated_of k.of (view_of z)) is in
        subst (λ z. Walked s settled hands leaks m waits (way_along rest (All w)) u (followed_by (designated_place (designated s.table k.of) z now_here) (walked s rest)))
        (sym (ap (map (λ (x : Slot). x.word)) word))
        (subst (λ z. Walked s settled hands leaks m waits (way_along rest (All w)) u (followed_by (designated_place z ((slot_at k).word ∷ []) now_here) (walked s rest)))
        (sym type)
        (met rest k l w u d c spot rooted reaches is (λ moved. clean w (past_along w (All w) rest (under_itself w)) moved)
        (λ n there reach. walk rest (cell_place d n) (OfCell n) (All w) u there rooted reach lead clean)
        (slot_at k).word refl))
