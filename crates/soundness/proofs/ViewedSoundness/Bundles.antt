-- What a name has that is passed for a formal with parts: its words, and for each of its access values
-- the way of what that designates.
use Rattle.std.proofs.Common.{◌≡◌, refl, sym, ap, ◌∙◌, subst, ◌⊎◌, inl, inr, ℕ, suc, zero, ◌+◌, ◌*◌, ◌<◌, Bool, true, false, ◌&&◌, List, [], ◌∷◌, ◌++◌, map, length, get_or, append-nil, arith, ltb-true}
use Rattle.std.proofs.lemmas.List.{length-map}
use Rattle.std.proofs.lemmas.Bool.{false≢true}
use Rattle.machine.specs.spark_base.declared.position.Pos.{Pos}
use Rattle.machine.specs.place_names.declared.fact.Fact.{Fact}
use Rattle.machine.specs.place_names.Names.{Name as PlaceName, overlaps}
use Rattle.place_names.proofs.Names.{overlaps-sym}
use Rattle.machine.specs.type_definitions.declared.table.Shape.TheVariants as shape
use Rattle.machine.specs.type_definitions.Types.{Table, shape_of, fields, words, words_of as shape_words}
use Rattle.machine.specs.typed_tree.Trees.{TypedTree, Name}
use Rattle.machine.specs.flow_paths.Objects.{Typing, object_at, is_anonymous, view_of}
use Rattle.machine.specs.flow_paths.Names.{waiting, name_of}
use Rattle.machine.specs.flow_paths.Acts.{acts_in}
use Rattle.machine.specs.Words.{element_count}
use Rattle.machine.specs.Words as machine
use Rattle.machine.specs.Memory.{Slot, Memory, Place, fresh, no_slot, slots_at, slots_of, words_of}
use Rattle.machine.specs.Evaluate.{Here, Now, AsView, Evaluated, Done, Raises, Traps, followed_by, evaluate, steps_of, walked, variable_place, held_or_taken, component_place, element_place}
use Rattle.machine.specs.Evaluate as run
use Rattle.machine.specs.States.{Waiting, Leak}
use Rattle.soundness.specs.OwnedWays.Ways.{Step, Component, Element, OfVariable, Loc, OfRoot, OfCell, Inside, Way, Object, Into, All, View, Reaches, Under, Named, AllowsAll, along, part, number_of, sel_of}
use Rattle.soundness.specs.OwnedWays.Ways as ways
use Rattle.soundness.proofs.OwnedWays.Locations.{under_itself, reaches_along}
use Rattle.soundness.specs.PartOffsets.Parts.{IsSettled, has_part, type_in, offset_in}
use Rattle.soundness.proofs.PartOffsets.Ranges.{all_within}
use Rattle.soundness.specs.Seen.{IsNear, content, trunk, seen, home, in_hand, is_view_formal}
use Rattle.soundness.specs.Typed.{OwnsByShape, Kept, Spot, Points}
use Rattle.soundness.specs.TypedLaws.Needed.{Leads, IndexLaw}
use Rattle.soundness.proofs.Walks.{way_along, Walked}
use Rattle.soundness.proofs.Scalars.{acts, number_along, named_along}
use Rattle.soundness.proofs.Moments.{number_part}
use Rattle.soundness.proofs.Keeping.{copied_points}
use Rattle.soundness.proofs.Steps.{room, taken_slots}
use Rattle.soundness.proofs.Contents.{bool_cases}
use Rattle.soundness.proofs.Stays.{Quiet, quiet_then}
use Rattle.soundness.proofs.Taking.{Takes}
use Rattle.soundness.specs.OwnedLoans.Views.{Around, Part, Down, Views, expand, ExcusedBy, Viewed, Lifted, InPart}
use Rattle.soundness.proofs.OwnedLoans.Ways.{IsDeep, HasNoPart, further, further_in, lifted_root}
use Rattle.soundness.proofs.OwnedLoans.Allowed.{Cleared, cleared_open}
use Rattle.soundness.proofs.OwnedLoans.Clear.{overlaps_whole}
use Rattle.soundness.proofs.OwnedLoans.Moves.{IsPlace, expand_along}
use Rattle.soundness.specs.ViewedSoundness.Holds.{PartsAreNamed, is_view, is_bundle, IsOwners, Holds, GoesBy, Seeing}
use Rattle.soundness.proofs.ViewedSoundness.Walks.{component_spot, element_spot, held_there}
use Rattle.soundness.proofs.ViewedSoundness.Names.{Starts, lifted_deep, in_part_deep, part_owners, stands_owners, IsRaised, name_lifted}
use Rattle.soundness.proofs.ViewedSoundness.ViewKinds.{true_false, neither, either_true, sees_view}
use Rattle.soundness.proofs.ViewedSoundness.Given.{lent_whole, seen_whole, part_whole}
use Rattle.soundness.proofs.ViewedSoundness.Names as names
use Rattle.soundness.proofs.ViewedSoundness.Stays.{Goes, steps_taking}
use Rattle.soundness.proofs.ViewedSoundness.Viewing.{expand_down}
use Rattle.soundness.proofs.Parted.{not_empty}

-- ---- parts of places

-- The place of a part of a place.
abbrev pub place_in : Table → Place → List Step → Place
place_in table k [] = k
place_in table k (Component i ∷ p) = component_place table i (place_in table k p)
place_in table k (Element n ∷ p) = element_place table n (place_in table k p)

pub place_of : (table : Table) (k : Place) (p : List Step)
    → ((place_in table k p).of ≡ type_in table k.of p) × ((place_in table k p).base ≡ k.base) × ((place_in table k p).at ≡ k.at + offset_in table k.of p)
place_of table k [] = (refl, refl, omega (arith))
place_of table k (Component i ∷ p) =
    let (type, base, at) = place_of table k p in (
      ap (λ t. machine.component_type table t i) type,
      base,
      (let before : machine.words_before table (place_in table k p).of i ≡ machine.words_before table (type_in table k.of p) i = ap (λ t. machine.words_before table t i) type in
          omega (arith, at, before)),
    )
place_of table k (Element n ∷ p) =
    let (type, base, at) = place_of table k p in (
      ap (machine.element_type table) type,
      base,
      (let before : n * words table (machine.element_type table (place_in table k p).of) ≡ n * words table (machine.element_type table (type_in table k.of p)) =
          ap (λ t. n * words table (machine.element_type table t)) type in
          omega (arith, at, before)),
    )

both_parts : (a b : Bool) → a && b ≡ true → (a ≡ true) × (b ≡ true)
both_parts true b e = (refl, e)
both_parts false b e = absurd (false≢true e)

word_map : (xs : List Slot) (i : ℕ) → (get_or (fresh (map (λ (x : Slot). x.word) xs)) i no_slot).word ≡ (get_or xs i no_slot).word
word_map [] zero = refl
word_map [] (suc i) = refl
word_map (x ∷ xs) zero = refl
word_map (x ∷ xs) (suc i) = word_map xs i

-- ---- names of parts

along_more : (w : Way) (p q : List Step) → along (along w p) q ≡ along w (q ++ p)
along_more w p [] = refl
along_more w p (i ∷ q) = ap (λ z. Into z i) (along_more w p q)

named_in : (at_home : ℕ → ℕ) (w : Way) (p : List Step) → Named at_home w → Named at_home (along w p)
named_in at_home w [] named = named
named_in at_home w (i ∷ p) named = named_in at_home w p named

deep_in : (w : Way) (p : List Step) → IsDeep w → IsDeep (along w p)
deep_in w [] deep = deep
deep_in w (i ∷ p) deep = deep_in w p deep

owners_in : (s : Typing) (w : Way) (p : List Step) → IsOwners s w → IsOwners s (along w p)
owners_in s w [] o = o
owners_in s w (i ∷ p) o = owners_in s w p o

lifted_in : (v : Views) (w : Way) (p : List Step) → Lifted v w → Lifted v (along w p)
lifted_in v w [] l = l
lifted_in v w (i ∷ p) l = further v (Part i) (along w p) (lifted_in v w p l)

lifted_same : (v : Views) (w : Way) (p : List Step) (l : Lifted v w) → (lifted_in v w p l).object ≡ l.object
unfolding lifted_in
lifted_same v w [] l = refl
lifted_same v w (i ∷ p) l = lifted_same v w p l

in_part_in : (v : Views) (w : Way) (p : List Step) → InPart v w → InPart v (along w p)
in_part_in v w [] l = l
in_part_in v w (i ∷ p) l = further_in v (Part i) (along w p) (in_part_in v w p l)

-- a part of a name that overlaps nothing moved or borrowed doesn't either
over_in : (n : PlaceName) (w : Way) (p : List Step) → overlaps n (ways.name_of (along w p)) ≡ true → overlaps n (ways.name_of w) ≡ true
over_in n w [] over = over
over_in n w (i ∷ p) over =
    over_in n w p (overlaps_whole (ways.name_of (along w p)) n (sel_of i ∷ []) (overlaps-sym (ways.name_of (along w (i ∷ p))) n ∙ over))

cleared_in : (facts : List Fact) (w : Way) (p : List Step) → Cleared facts w → Cleared facts (along w p)
cleared_in facts w p (unborrowed, unmoved) = (
  λ h n has over. unborrowed h n has (over_in n w p over),
  λ n has over. unmoved n has (over_in n w p over),
)

module _ (h : Here) (sees : ℕ → Bool) (seeing : Seeing h.typing sees) (settled : IsSettled h.typing.table) (hands : List Waiting) (leaks : List Leak) (m : Memory) (waits : List (List machine.Word))
    (other : Around (home h.typing h.frame)) (facts : List Fact) (v : Views)
    (kept : Kept h.typing m hands)
    (viewed : Viewed (home h.typing h.frame) sees other v (seen h.typing m hands leaks) facts)
    (holds : Holds h.typing sees h.frame v m)
    (alone : (w : Way) → IsNear h.frame w → other.gone w → ⊥)
    (live : (w : Way) (l : Loc) → IsOwners h.typing w → Reaches (seen h.typing m hands leaks) w l → (content h.typing m hands (trunk l)).owns ≡ true)
    (index_law : IndexLaw)
    (own_law : OwnsByShape h.typing.table)
    (parts_named : PartsAreNamed h.typing.table) where
  abbrev s : Typing
  s = h.typing

  abbrev Home : ℕ → ℕ
  Home = home h.typing h.frame

  abbrev view_here : View
  view_here = seen h.typing m hands leaks

  abbrev at : List (List machine.Word) → Now
  at ws = record { memory = m; waits = ws }

  abbrev variable : ℕ → Way
  variable x = Object (OfVariable (home h.typing h.frame x) x)

  abbrev excused : Way → Type 0
  excused = ExcusedBy (home h.typing h.frame) v other facts

  abbrev Meets : Way → Way → Type 0
  Meets z w = Under z w ⊎ Under w z

  -- The way of what an access value in a part of a name's place designates: no way meets it that is gone.
  pub record ShowsPart (y : ℕ) (u : Way) (p : List Step) (n : ℕ) : Type 0 where
    pub goes : GoesBy h.typing v y (All (along u p))
    pub owners : IsOwners h.typing (expand v (All (along u p)))
    pub reaches : Reaches (seen h.typing m hands leaks) (expand v (All (along u p))) (OfCell n)
    pub whole : (z : Way) → ExcusedBy (home h.typing h.frame) v other facts z → Under z (expand v (All (along u p))) ⊎ Under (expand v (All (along u p))) z → ⊥

  -- What a name of a type has, and shows of its parts.
  pub record ShowsParts (y t : ℕ) (u : Way) (ws : List machine.Word) : Type 0 where
    pub long : length ws ≡ words h.typing.table t
    pub points : Points h.typing m (in_hand (record { of = t; words = ws }))
    pub parts : (p : List Step) (d : ℕ) (c n : Bool) (k : ℕ) → has_part h.typing.table t p ≡ true → shape_of h.typing.table (type_in h.typing.table t p) ≡ shape.Access d c n
        → (get_or (fresh ws) (offset_in h.typing.table t p) no_slot).word ≡ machine.Cell k → ShowsPart y u p k

  -- No access type.
  abbrev pub IsNoAccess : ℕ → Type 0
  IsNoAccess t = (d : ℕ) (c n : Bool) → shape_of h.typing.table t ≡ shape.Access d c n → ⊥

  -- ---- one part

  spot_in : (k : Place) (l : Loc) (p : List Step) → Spot h.typing m hands k l → has_part h.typing.table k.of p ≡ true → Spot h.typing m hands (place_in h.typing.table k p) (part l p)
  spot_in k l [] spot there = spot
  spot_in k l (Component i ∷ p) spot there =
      let both = both_parts (has_part s.table k.of p) _ there in
      component_spot s settled hands leaks m (place_in s.table k p) (part l p) i (spot_in k l p spot both.0)
      (subst (λ t. i < length (fields s.table t)) (sym (place_of s.table k p).0) (ltb-true _ _ both.1))
  spot_in k l (Element n ∷ p) spot there =
      let both = both_parts (has_part s.table k.of p) _ there in
      element_spot s settled hands leaks m (place_in s.table k p) (part l p) n (spot_in k l p spot both.0)
      (subst (λ t. n < element_count s.table t) (sym (place_of s.table k p).0) (ltb-true _ _ both.1))

  -- its word is among those of the place
  word_in_place : (k : Place) (l : Loc) → Spot h.typing m hands k l → (p : List Step) (d : ℕ) (c n : Bool) → has_part h.typing.table k.of p ≡ true
      → shape_of h.typing.table (type_in h.typing.table k.of p) ≡ shape.Access d c n
      → (get_or (slots_at h.typing m (place_in h.typing.table k p).base) (place_in h.typing.table k p).at no_slot).word
      ≡ (get_or (fresh (words_of h.typing m k)) (offset_in h.typing.table k.of p) no_slot).word
  word_in_place k l spot p d c n there is =
      (λ j. (get_or (slots_at s m ((place_of s.table k p).1 j)) ((place_of s.table k p).2 j) no_slot).word)
      ∙ ap (λ (x : Slot). x.word) (sym ((taken_slots s settled m k (room s settled m hands kept k l spot)).1 (offset_in s.table k.of p) inside))
      ∙ sym (word_map (slots_of s m k) (offset_in s.table k.of p))
    where
      inside : offset_in s.table k.of p < words s.table k.of
      inside =
          let in_ = (all_within s.table settled k.of p [] (ap (has_part s.table k.of) (append-nil p) ∙ there)).stop in
          let flat : offset_in s.table k.of (p ++ []) ≡ offset_in s.table k.of p = ap (offset_in s.table k.of) (append-nil p) in
          let type : words s.table (type_in s.table k.of (p ++ [])) ≡ words s.table (type_in s.table k.of p) = ap (λ z. words s.table (type_in s.table k.of z)) (append-nil p) in
          let one : words s.table (type_in s.table k.of p) ≡ 1 = settled.word_law (type_in s.table k.of p) ∙ ap (shape_words (words s.table)) is in
          omega (arith, in_, flat, type, one)

  -- the types of parts are named
  part_type : (t : ℕ) (p : List Step) (d : ℕ) (c n : Bool) → IsNoAccess t → shape_of h.typing.table (type_in h.typing.table t p) ≡ shape.Access d c n → (p ≡ [] → ⊥) × (n ≡ true)
  part_type t [] d c n bare is = absurd (bare d c n is)
  part_type t (Component i ∷ p) d c n bare is = ((λ none. absurd (not_empty none)), parts_named.component (type_in s.table t p) i d c n is)
  part_type t (Element k ∷ p) d c n bare is = ((λ none. absurd (not_empty none)), parts_named.element (type_in s.table t p) d c n is)

  -- ---- where the name stands for a place of an owner

  module _ (y : ℕ) (u : Way) (named : Named (home h.typing h.frame) u) (root : number_of u ≡ y) (owners : IsOwners h.typing (expand v u))
      (clears : sees y ≡ false → Cleared facts u) (goes : GoesBy h.typing v y u) where
    through : sees y ≡ true → Lifted v u ⊎ InPart v u
    through sight = elim (bool_cases (is_bundle s y)) [
      | inl bundle ↦ inr (goes.1 bundle)
      | inr bare ↦ inl (goes.0 bare (sees_view s sees seeing y sight)).0
    ]

    plain_in : sees y ≡ false → (p : List Step) → sees (number_of (along u p)) ≡ false
    plain_in plain p = ap sees (number_part u p ∙ root) ∙ plain

    whole_in : (p : List Step) (z : Way) → excused z → Meets z (expand v (All (along u p))) → ⊥
    whole_in p z gone meets = by_kind (sees y) refl
      where
        by_through : sees y ≡ true → Lifted v u ⊎ InPart v u → ⊥
        by_through sight (inl l) =
            let on = further v Down (along u p) (lifted_in v u p l) in
            seen_whole s sees h.frame other v view_here facts viewed alone (along u p) (named_in Home u p named) on
            (ap sees (lifted_same v u p l ∙ sym (lifted_root v u l) ∙ root) ∙ sight) z gone meets
        by_through sight (inr l) =
            part_whole s sees h.frame other v view_here facts viewed alone (All (along u p)) (further_in v Down (along u p) (in_part_in v u p l)) z gone meets

        by_kind : (b : Bool) → sees y ≡ b → ⊥
        by_kind false plain =
            lent_whole s sees h.frame other v view_here facts viewed alone (along u p) (named_in Home u p named) (plain_in plain p)
            (cleared_in facts u p (clears plain)) z gone meets
        by_kind true sight = by_through sight (through sight)

    none_in : (p : List Step) → HasNoPart v (along u p)
    none_in p = by_kind (sees y) refl
      where
        by_through : Lifted v u ⊎ InPart v u → HasNoPart v (along u p)
        by_through (inl l) = inl (deep_in u p (lifted_deep v u l))
        by_through (inr l) = inl (deep_in u p (in_part_deep v u l))

        by_kind : (b : Bool) → sees y ≡ b → HasNoPart v (along u p)
        by_kind false plain = inr (λ q. names.seen_parts h sees seeing settled hands leaks m waits other facts v kept viewed holds alone live (number_of (along u p)) (plain_in plain p) q)
        by_kind true sight = by_through (through sight)

    place_in_part : (p : List Step) → (p ≡ [] → ⊥) → IsPlace v (along u p)
    place_in_part [] some r is = absurd (some refl)
    place_in_part (i ∷ p) some r is = cc

    expand_in : (p : List Step) → (p ≡ [] → ⊥) → expand v (All (along u p)) ≡ All (along (expand v u) p)
    expand_in p some = expand_down v (along u p) (place_in_part p some) (none_in p) ∙ ap All (expand_along v u p)

    pub owner_part : (t : ℕ) → IsNoAccess t → (k : Place) (l : Loc) → Spot h.typing m hands k l → Reaches (seen h.typing m hands leaks) (expand v u) l → k.of ≡ t
        → (p : List Step) (d : ℕ) (c n : Bool) (q : ℕ) → has_part h.typing.table k.of p ≡ true → shape_of h.typing.table (type_in h.typing.table k.of p) ≡ shape.Access d c n
        → (get_or (fresh (words_of h.typing m k)) (offset_in h.typing.table k.of p) no_slot).word ≡ machine.Cell q → ShowsPart y u p q
    owner_part t bare k l spot reaches of p d c n q there is word =
        let type = part_type k.of p d c n (subst IsNoAccess (sym of) bare) is in
        let stands = expand_in p type.0 in
        let owned : IsOwners s (along (expand v u) p) = owners_in s (expand v u) p owners in
        let access : shape_of s.table (place_in s.table k p).of ≡ shape.Access d c true =
        ap (shape_of s.table) (place_of s.table k p).0 ∙ is ∙ ap (λ b. shape.Access d c b) type.1 in
        let reach = reaches_along view_here (expand v u) l p reaches in
        let held = held_there s settled hands leaks m waits excused kept viewed.owned viewed.known live (place_in s.table k p) (part l p) (along (expand v u) p) d c q
        (spot_in k l p spot there) owned reach access (word_in_place k l spot p d c n there is ∙ word)
        (λ gone. whole_in p (along (expand v u) p) gone (inl (subst (Under (along (expand v u) p)) (sym stands) (inr (under_itself (along (expand v u) p)))))) in
        record {
          goes = (
            (λ single view. (let l = goes.0 single view in (further v Down (along u p) (lifted_in v u p l.0), lifted_same v u p l.0 ∙ l.1))),
            (λ bundle. further_in v Down (along u p) (in_part_in v u p (goes.1 bundle))),
          );
          owners = subst (IsOwners s) (sym stands) owned;
          reaches = subst (λ z. Reaches view_here z (OfCell q)) (sym stands) (part l p, q, reach, held, refl);
          whole = whole_in p;
        }

    pub owner_parts : (on : List (List machine.Word)) (t : ℕ) → IsNoAccess t → (x : Evaluated Place)
        → Walked h.typing settled hands leaks m on (expand v u) t x → Quiet (at on) (ShowsParts y t u) (followed_by x (held_or_taken h AsView))
    owner_parts on t bare (Done k n) (l, same, spot, reaches, of) = (
      same,
      subst (λ z. ShowsParts y t u (words_of s z k)) (sym (ap (λ (z : Now). z.memory) same)) (subst (λ z. ShowsParts y z u (words_of s m k)) of (record {
        long = length-map (slots_of s m k) (λ (x : Slot). x.word) ∙ (taken_slots s settled m k (room s settled m hands kept k l spot)).0;
        points = copied_points s settled m hands k l spot kept;
        parts = λ p d c n q there is word. owner_part t bare k l spot reaches of p d c n q there is word;
      })),
    )
    owner_parts on t bare (Raises e n) same = same
    owner_parts on t bare (Traps e n) none = none

  -- ---- where it names words of a formal with parts

  module _ (y : ℕ) (bundle : is_bundle h.typing y ≡ true) where
    abbrev in_bundle : List Step → Loc
    in_bundle q = names.InBundle h sees seeing settled hands leaks m waits other facts v kept viewed holds alone live y q

    part_joins : (l : Loc) (q p : List Step) → part (part l q) p ≡ part l (p ++ q)
    part_joins l q [] = refl
    part_joins l q (i ∷ p) = ap (λ z. Inside z i) (part_joins l q p)

    pub bundle_part : (t : ℕ) → IsNoAccess t → (q : List Step) (k : Place) → Spot h.typing m hands k (in_bundle q) → k.of ≡ t
        → (p : List Step) (d : ℕ) (c n : Bool) (a : ℕ) → has_part h.typing.table k.of p ≡ true → shape_of h.typing.table (type_in h.typing.table k.of p) ≡ shape.Access d c n
        → (get_or (fresh (words_of h.typing m k)) (offset_in h.typing.table k.of p) no_slot).word ≡ machine.Cell a → ShowsPart y (along (variable y) q) p a
    bundle_part t bare q k spot of p d c n a there is word =
        let joins : in_bundle (p ++ q) ≡ part (in_bundle q) p = sym (part_joins (OfRoot (OfVariable (home s h.frame y) y)) q p) in
        let found = names.part_found_there h sees seeing settled hands leaks m waits other facts v kept viewed holds alone live y (p ++ q) (place_in s.table k p) d c n a bundle
        (subst (Spot s m hands (place_in s.table k p)) (sym joins) (spot_in k (in_bundle q) p spot there))
        (ap (shape_of s.table) (place_of s.table k p).0 ∙ is) (word_in_place k (in_bundle q) spot p d c n there is ∙ word) in
        let name : along (along (variable y) q) p ≡ along (variable y) (p ++ q) = along_more (variable y) q p in
        let stands : expand v (All (along (along (variable y) q) p)) ≡ found.0 = ap (λ z. expand v (All z)) name ∙ found.2 in
        let inner : InPart v (All (along (along (variable y) q) p)) = record {
          frame = home s h.frame y;
          object = y;
          steps = p ++ q;
          rest = [];
          way = found.0;
          is = ap All name;
          has = found.1;
          deep = found.4;
        } in record {
          goes = ((λ single view. absurd (true_false (is_bundle s y) bundle single)), (λ any. inner));
          owners = subst (IsOwners s) (sym stands) found.5;
          reaches = subst (λ z. Reaches view_here z (OfCell a)) (sym stands) found.3;
          whole = part_whole s sees h.frame other v view_here facts viewed alone (All (along (along (variable y) q) p)) inner;
        }

  -- ---- what the name shows

  named_shows : (on : List (List machine.Word)) (y t : ℕ) (way : List run.Step) → Starts h.typing.table (object_at h.typing y).of way t → IsNoAccess t
      → (sees y ≡ false → Cleared facts (way_along way (variable y)))
      → Walked h.typing settled hands leaks m on (expand v (way_along way (variable y))) t (walked h.typing way (variable_place h y) (at on)) → (b : Bool) → is_bundle h.typing y ≡ b
      → Quiet (at on) (ShowsParts y t (way_along way (variable y))) (followed_by (walked h.typing way (variable_place h y) (at on)) (held_or_taken h AsView))
  named_shows on y t way starts bare clears there false single =
      let u : Way = way_along way (variable y) in
      let named : Named Home u = named_along Home way (variable y) refl in
      let root : number_of u ≡ y = number_along way (variable y) in
      elim (name_lifted h sees seeing settled hands leaks m on other facts v kept viewed holds alone live y t way single (λ d c n is. absurd (bare d c n is)) starts) [
        | inl plain ↦ owner_parts y u named root
            (stands_owners s sees h.frame v m u holds named (inl (ap (is_view_formal s) root ∙ (neither (is_anonymous (view_of s y)) (is_view_formal s y) plain).1)))
            clears ((λ any view. absurd (true_false (is_view s y) view plain)), (λ bundle. absurd (true_false (is_bundle s y) bundle single))) on t bare (walked s way (variable_place h y) (at on)) there
        | inr (inl lifted) ↦ owner_parts y u named root lifted.2 clears ((λ any view. (lifted.0, lifted.1)), (λ bundle. absurd (true_false (is_bundle s y) bundle single))) on t bare (walked s way (variable_place h y) (at on)) there
        | inr (inr (inl raises)) ↦ raised (walked s way (variable_place h y) (at on)) raises
        | inr (inr (inr itself)) ↦ absurd (no_formal itself.0 (subst (λ z. Starts s.table (object_at s y).of z t) itself.1 starts))
      ]
    where
      raised : (x : Evaluated Place) → IsRaised h sees seeing settled hands leaks m on other facts v kept viewed holds alone live m x
          → Quiet (at on) (ShowsParts y t (way_along way (variable y))) (followed_by x (held_or_taken h AsView))
      raised (Raises e n) same = same
      raised (Done k n) none = absurd none
      raised (Traps e n) none = absurd none

      -- such a formal would be of an access type
      no_formal : is_view_formal h.typing y ≡ true → (object_at h.typing y).of ≡ t → ⊥
      no_formal formal same =
          let access = holds.access y (either_true (is_anonymous (view_of s y)) (is_view_formal s y) formal) single in
          bare access.0 access.1 access.2 (ap (shape_of s.table) (sym same) ∙ access.3)
  named_shows on y t way starts bare clears there true bundle =
      elim (names.bundle_cases h sees seeing settled hands leaks m on other facts v kept viewed holds alone live y t way bundle starts) [
        | inr (inl inner) ↦ owner_parts y (way_along way (variable y)) (named_along Home way (variable y) refl) (number_along way (variable y))
            (part_owners s sees h.frame v m (way_along way (variable y)) holds inner) clears ((λ single view. absurd (true_false (is_bundle s y) bundle single)), (λ any. inner)) on t bare (walked s way (variable_place h y) (at on)) there
        | inr (inr raises) ↦ raised (walked s way (variable_place h y) (at on)) raises
        | inl own ↦ subst (λ z. Quiet (at on) (ShowsParts y t (way_along way (variable y))) (followed_by z (held_or_taken h AsView))) (sym own.3) (
          refl,
          subst (λ z. ShowsParts y z (way_along way (variable y)) (words_of s m own.1)) own.5 (record {
            long = length-map (slots_of s m own.1) (λ (x : Slot). x.word) ∙ (taken_slots s settled m own.1 (room s settled m hands kept own.1 (in_bundle y bundle own.0) own.4)).0;
            points = copied_points s settled m hands own.1 (in_bundle y bundle own.0) own.4 kept;
            parts = λ p d c n q there_is is word.
                subst (λ z. ShowsPart y z p q) (sym own.2) (bundle_part y bundle t bare own.0 own.1 own.4 own.5 p d c n q there_is is word);
          }),
        )
      ]
    where
      raised : (x : Evaluated Place) → IsRaised h sees seeing settled hands leaks m on other facts v kept viewed holds alone live m x
          → Quiet (at on) (ShowsParts y t (way_along way (variable y))) (followed_by x (held_or_taken h AsView))
      raised (Raises e n) same = same
      raised (Done k n) none = absurd none
      raised (Traps e n) none = absurd none

  -- nothing changes but what waits
  pub parts_on : (before on : List (List machine.Word)) (p : Pos) (y t : ℕ) (steps : TypedTree) → Leads h.typing (object_at h.typing y).of steps t → IsNoAccess t
      → Takes (waiting steps) before on → AllowsAll facts (acts (acts_in h.typing steps))
      → ((u : Way) → ways.name_of u ≡ name_of y steps → sees y ≡ false → Cleared facts u)
      → Quiet (at on) (λ ws. (u : Way) × Named (home h.typing h.frame) u × (ways.name_of u ≡ name_of y steps) × ShowsParts y t u ws) (evaluate h AsView (Name p y steps t) (at before))
  unfolding evaluate
  parts_on before on p y t steps lead bare takes allowed clears =
      quiet_then (at on) (λ way. Goes s.table (object_at s y).of t steps way)
      (λ ws. (u : Way) × Named Home u × (ways.name_of u ≡ name_of y steps) × ShowsParts y t u ws) (steps_of h steps (at before))
      (λ way now. followed_by (walked s way (variable_place h y) now) (held_or_taken h AsView))
      (steps_taking h sees seeing settled hands leaks m waits other facts v kept viewed holds alone live index_law own_law parts_named (object_at s y).of t steps lead before on takes allowed).0
      (λ way goes. (
      let u : Way = way_along way (variable y) in
      let called : ways.name_of u ≡ name_of y steps = (λ j. record { root = number_along way (variable y) j; sels = goes.sels (variable y) j }) in
      let named : Named Home u = named_along Home way (variable y) refl in
      with_name y t u (name_of y steps) named called (followed_by (walked s way (variable_place h y) (at on)) (held_or_taken h AsView))
      (named_shows on y t way goes.lead bare (clears u called)
      (names.name_walked h sees seeing settled hands leaks m on other facts v kept viewed holds alone live y t way goes.lead
      (λ e. cleared_open facts u (clears u called e))) (is_bundle s y) refl)))
    where
      with_name : (y t : ℕ) (u : Way) (name : PlaceName) → Named (home h.typing h.frame) u → ways.name_of u ≡ name → (x : Evaluated (List machine.Word)) → Quiet (at on) (ShowsParts y t u) x
          → Quiet (at on) (λ ws. (u : Way) × Named (home h.typing h.frame) u × (ways.name_of u ≡ name) × ShowsParts y t u ws) x
      with_name y t u name named called (Done ws n) (same, shows) = (same, (u, named, called, shows))
      with_name y t u name named called (Raises e n) same = same
      with_name y t u name named called (Traps e n) none = none
