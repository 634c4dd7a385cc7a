-- Changes of a memory keep words typed.
use Rattle.std.proofs.Common.{◌≡◌, refl, sym, ap, ◌∙◌, subst, ◌⊎◌, inl, inr, ℕ, zero, suc, ◌+◌, ◌-◌, ◌*◌, ◌<◌, ◌≤◌, Bool, true, false, not, ◌||◌, List, [], ◌∷◌, ◌++◌, map, flat_map, sum, take, drop, length, get_or, slice_get, nat_lt, ltb-true, arith, append-nil, length-append, length-drop}
use Rattle.std.proofs.lemmas.List.{length-map, length-take-le}
use Rattle.std.proofs.lemmas.Bool.{cases_lt, false≢true, true≢false}
use Rattle.machine.specs.type_definitions.declared.table.Component.{Component as Part}
use Rattle.machine.specs.type_definitions.declared.table.Shape.{Shape}
use Rattle.machine.specs.type_definitions.declared.table.Shape.TheVariants as shape
use Rattle.machine.specs.type_definitions.Types.{Table, shape_of, shape_found, components_of, fields, span, words, words_within, words_of as shape_words, is_owning, any_owns, owns_of, is_scalar, full, view_of}
use Rattle.machine.specs.flow_paths.Objects.{Typing, object_at}
use Rattle.machine.specs.Words.{default, default_within, default_of, access_offsets, no_component, element_count, element_of, count_of}
use Rattle.machine.specs.Words as machine
use Rattle.machine.specs.Memory.{Slot, Memory, HeapCell, Base, Place, fresh, variable_slots, cell, no_cell, no_slot, slots_at, slots_of, words_of, put, with_slots, stored, moved_out, gone_at, declared, undeclared, with_new_cell, freed, as_freed}
use Rattle.machine.specs.Memory as memory
use Rattle.machine.specs.States.{Waiting}
use Rattle.soundness.specs.OwnedWays.Ways.{Step, Component, Element, OfVariable, OfHand, Loc, OfRoot, OfCell, Inside}
use Rattle.soundness.proofs.OwnedWays.Locations.{same_loc}
use Rattle.soundness.specs.PartOffsets.Parts.{type_in, offset_in, has_part, owns_one, is_leaf, IsSettled}
use Rattle.soundness.proofs.PartOffsets.Ranges.{both_parts, all_within, lie, first_in, second_in, aside}
use Rattle.soundness.proofs.PartOffsets.Sums.{sum_cons}
use Rattle.soundness.specs.Seen.{Content, in_hand, content, trunk, steps_in}
use Rattle.soundness.specs.Changes.{Put}
use Rattle.soundness.specs.Typed.{Matches, IsCell, Points, Kept, Spot, OwnsByShape, IsMade, loc_of}
use Rattle.soundness.proofs.Joined.{type_join, offset_join, part_join, not_inside}
use Rattle.soundness.proofs.Contents.{bool_cases}
use Rattle.soundness.proofs.Memories.{put_same, put_other, removed_same, removed_other, marked_word, marked_length}
use Rattle.soundness.proofs.Steps.{matches_words, same_there, put_at, put_off, put_count, room, taken_slots, content_slots}
use Rattle.soundness.proofs.Keeping.{plain, scalar, retyped, copied, retyped_points, one_word, kept_with, access_end, less, top_points, copied_points, cell_has, length_repeated}
use Rattle.soundness.proofs.Frees.{freed_count}
use Rattle.soundness.proofs.Evaluated.{Keeps}
use Rattle.soundness.proofs.Defaults.{none_default}
use Rattle.soundness.proofs.Ends.{declared_there, removed_there, new_there, new_other, new_count}
use Rattle.soundness.proofs.Parted.{loc_frames, loc_objects, word_cells, by_either}

-- ---- types

-- an object without a value has the words of its type
flat_long : (f : ℕ → List machine.Word) (w : ℕ → ℕ) → ((t : ℕ) → length (f t) ≡ w t) → (cs : List Part)
    → length (flat_map (λ (c : Part). f c.of) cs) ≡ sum (map (λ (c : Part). w c.of) cs)
flat_long f w each [] = refl
flat_long f w each (c ∷ cs) =
    let one = each c.of in
    let rest = flat_long f w each cs in
    let both : length (f c.of ++ flat_map (λ (c : Part). f c.of) cs) ≡ length (f c.of) + length (flat_map (λ (c : Part). f c.of) cs) =
    length-append (f c.of) (flat_map (λ (c : Part). f c.of) cs) in
    let all = sum_cons (w c.of) (map (λ (c : Part). w c.of) cs) in
    omega (arith, one, rest, both, all)

default_long : (f : ℕ → List machine.Word) (w : ℕ → ℕ) → ((t : ℕ) → length (f t) ≡ w t) → (t : ℕ) (sh : Shape)
    → length (default_of f t sh) ≡ shape_words w sh
default_long f w each t (shape.Whole low high) = refl
default_long f w each t (shape.Listed l low high) = refl
default_long f w each t (shape.Access d c n) = refl
default_long f w each t (shape.Fields cs) = flat_long f w each cs
default_long f w each t (shape.Elements low high e) = length_repeated (span low high) (f e) ∙ ap (λ z. span low high * z) (each e)
default_long f w each t (shape.Same of) = each of

within_long : (n : ℕ) (table : Table) (t : ℕ) → length (default_within n table t) ≡ words_within n table t
unfolding default_within words_within
within_long zero table t = refl
within_long (suc n) table t = default_long (default_within n table) (words_within n table) (within_long n table) t (shape_found (slice_get table t))

pub lengths : (table : Table) (t : ℕ) → length (default table t) ≡ words table t
unfolding default words
lengths table t = within_long (length table) table t

-- a type with a word that owns is owning
any_has : (owns : ℕ → Bool) (cs : List Part) (i : ℕ) → i < length cs → owns (get_or cs i no_component).of ≡ true → any_owns owns cs ≡ true
any_has owns [] i lt e = absurd (omega (arith, lt))
any_has owns (c ∷ cs) zero lt e = ap (λ b. b || any_owns owns cs) e
any_has owns (c ∷ cs) (suc i) lt e = later (owns c.of) (any_owns owns cs) (any_has owns cs i (omega (arith, lt)) e)
  where
    later : (a b : Bool) → b ≡ true → a || b ≡ true
    later true b e = refl
    later false b e = e

component_owns : (owns : ℕ → Bool) (sh : Shape) (i : ℕ) → i < length (components_of sh) → owns (get_or (components_of sh) i no_component).of ≡ true → owns_of owns sh ≡ true
component_owns owns (shape.Fields cs) i lt e = any_has owns cs i lt e
component_owns owns (shape.Whole a b) i lt e = absurd (omega (arith, lt))
component_owns owns (shape.Listed l a b) i lt e = absurd (omega (arith, lt))
component_owns owns (shape.Access d c n) i lt e = absurd (omega (arith, lt))
component_owns owns (shape.Elements a b el) i lt e = absurd (omega (arith, lt))
component_owns owns (shape.Same of) i lt e = absurd (omega (arith, lt))

element_owns : (owns : ℕ → Bool) (sh : Shape) (n : ℕ) → n < count_of sh → owns (element_of sh) ≡ true → owns_of owns sh ≡ true
element_owns owns (shape.Elements a b el) n lt e = e
element_owns owns (shape.Fields cs) n lt e = absurd (omega (arith, lt))
element_owns owns (shape.Whole a b) n lt e = absurd (omega (arith, lt))
element_owns owns (shape.Listed l a b) n lt e = absurd (omega (arith, lt))
element_owns owns (shape.Access d c k) n lt e = absurd (omega (arith, lt))
element_owns owns (shape.Same of) n lt e = absurd (omega (arith, lt))

one_owns : (owns : ℕ → Bool) (sh : Shape) → owns_one sh ≡ true → owns_of owns sh ≡ true
one_owns owns (shape.Access d c n) e = e
one_owns owns (shape.Fields cs) e = absurd (false≢true e)
one_owns owns (shape.Whole a b) e = absurd (false≢true e)
one_owns owns (shape.Listed l a b) e = absurd (false≢true e)
one_owns owns (shape.Elements a b el) e = absurd (false≢true e)
one_owns owns (shape.Same of) e = absurd (false≢true e)

module _ (table : Table) (own_law : OwnsByShape table) where
  part_owns : (t : ℕ) (p : List Step) → has_part table t p ≡ true → is_owning table (type_in table t p) ≡ true → is_owning table t ≡ true
  part_owns t [] has e = e
  part_owns t (Component i ∷ p) has e =
      let both = both_parts (has_part table t p) (nat_lt i (length (fields table (type_in table t p)))) has in
      part_owns t p both.0 (own_law (type_in table t p) ∙ component_owns (is_owning table) (shape_of table (type_in table t p)) i (ltb-true _ _ both.1) e)
  part_owns t (Element n ∷ p) has e =
      let both = both_parts (has_part table t p) (nat_lt n (element_count table (type_in table t p))) has in
      part_owns t p both.0 (own_law (type_in table t p) ∙ element_owns (is_owning table) (shape_of table (type_in table t p)) n (ltb-true _ _ both.1) e)

  pub ownerless : (t : ℕ) → is_owning table t ≡ false → (p : List Step) → is_leaf table t p ≡ false
  ownerless t none p = elim (bool_cases (is_leaf table t p)) [
    | inr isnt ↦ isnt
    | inl leaf ↦ (
        let both = both_parts (has_part table t p) (owns_one (shape_of table (type_in table t p))) leaf in
        let owns = part_owns t p both.0 (own_law (type_in table t p) ∙ one_owns (is_owning table) (shape_of table (type_in table t p)) both.1) in
        let no : true ≡ false = sym owns ∙ none in absurd (true≢false no))
  ]

-- ---- memories

-- A memory has the cells of another one, with their types.
pub record Extends (m n : Memory) : Type 0 where
  pub more : length m.cells ≤ length n.cells
  pub same : (k : ℕ) → 1 ≤ k → k ≤ length m.cells → (cell n k).of ≡ (cell m k).of

module _ (s : Typing) (m n : Memory) (more : Extends m n) where
  still_cell : (d k : ℕ) → IsCell s m d k → IsCell s n d k
  still_cell d k (lo, hi, fits) =
      let up = more.more in (lo, omega (arith, hi, up), subst (Matches s.table d) (sym (more.same k lo hi)) fits)

  pub still_points : (c : Content) → Points s m c → Points s n c
  still_points c mine p d x y k has is at = still_cell d k (mine p d x y k has is at)

  -- what has the same words
  pub same_points : (c e : Content) → e.of ≡ c.of → ((o : ℕ) → (get_or e.slots o no_slot).word ≡ (get_or c.slots o no_slot).word)
      → Points s m c → Points s n e
  same_points c e of words_same mine p d x y k has is at =
      still_cell d k (mine p d x y k (ap (λ t. has_part s.table t p) (sym of) ∙ has) (ap (λ t. shape_of s.table (type_in s.table t p)) (sym of) ∙ is)
      (sym (words_same (offset_in s.table c.of p)) ∙ ap (λ t. (get_or e.slots (offset_in s.table t p) no_slot).word) (sym of) ∙ at))

module _ (s : Typing) (settled : IsSettled s.table) (m : Memory) where
  -- points of trunks are those of all locations
  pub by_trunk : (n : Memory) (hands : List Waiting) → ((l : Loc) → trunk l ≡ l → Points s n (content s n hands l)) → (l : Loc) → Points s n (content s n hands l)
  by_trunk n hands each (OfRoot r) = each (OfRoot r) refl
  by_trunk n hands each (OfCell c) = each (OfCell c) refl
  by_trunk n hands each (Inside l i) = by_trunk n hands each l

  -- ---- other slots at a place

  put_extends : (b : Base) (slots : List Slot) → Extends m (put b slots m)
  put_extends b slots = record {
    more = (let e = put_count s m b slots in omega (arith, e));
    same = λ k lo hi. put_of b k;
  }
    where
      one : (k : ℕ) (cs : List HeapCell) (n : ℕ) → (get_or (memory.at_number k (λ c. record c { slots = slots }) cs) n no_cell).of ≡ (get_or cs n no_cell).of
      one k [] n = refl
      one zero (c ∷ cs) zero = refl
      one zero (c ∷ cs) (suc n) = refl
      one (suc k) (c ∷ cs) zero = refl
      one (suc k) (c ∷ cs) (suc n) = one k cs n

      put_of : (b : Base) (k : ℕ) → (cell (put b slots m) k).of ≡ (cell m k).of
      put_of (memory.OfVariable f x) k = refl
      put_of (memory.OfCell zero) k = refl
      put_of (memory.OfCell (suc n)) zero = refl
      put_of (memory.OfCell (suc n)) (suc k) = one n m.cells k

  -- the count of slots stays
  whole_long : (k : Place) (slots : List Slot) → k.at + length slots ≤ length (slots_at s m k.base)
      → length (take k.at (slots_at s m k.base) ++ slots ++ drop (k.at + length slots) (slots_at s m k.base)) ≡ length (slots_at s m k.base)
  whole_long k slots fit =
      let all : List Slot = slots_at s m k.base in
      let a : length (take k.at all ++ slots ++ drop (k.at + length slots) all) ≡ length (take k.at all ++ slots) + length (drop (k.at + length slots) all) =
      length-append (take k.at all ++ slots) (drop (k.at + length slots) all) in
      let b : length (take k.at all ++ slots) ≡ length (take k.at all) + length slots = length-append (take k.at all) slots in
      let c = length-take-le k.at all (omega (arith, fit)) in
      let d = length-drop (k.at + length slots) all in
      omega (arith, a, b, c, d, fit)

  put_variables : (b : Base) (slots : List Slot) → length slots ≡ length (slots_at s m b) → (f x : ℕ)
      → length (variable_slots s f x (put b slots m).variables) ≡ length (variable_slots s f x m.variables)
  put_variables (memory.OfCell n) slots long f x = refl
  put_variables (memory.OfVariable g y) slots long f x = elim (same_loc (OfRoot (OfVariable f x)) (OfRoot (OfVariable g y))) [
    | inl e ↦ (
        let a : f ≡ g = loc_frames e in let b : x ≡ y = loc_objects e in
        ap (λ z. length (variable_slots s z x (memory.with_variable g y slots m.variables))) a
        ∙ ap (λ z. length (variable_slots s g z (memory.with_variable g y slots m.variables))) b
        ∙ ap length (put_same s g y slots m.variables) ∙ long
        ∙ ap (λ z. length (variable_slots s g z m.variables)) (sym b) ∙ ap (λ z. length (variable_slots s z x m.variables)) (sym a))
    | inr ne ↦ ap length (put_other s g y f x (λ e. ne (ap OfRoot (sym e))) slots m.variables)
  ]

  put_cells : (b : Base) (slots : List Slot) → length slots ≡ length (slots_at s m b) → (k : ℕ)
      → length (cell (put b slots m) k).slots ≡ length (cell m k).slots
  put_cells (memory.OfVariable g y) slots long k = refl
  put_cells (memory.OfCell zero) slots long k = refl
  put_cells (memory.OfCell (suc n)) slots long zero = refl
  put_cells (memory.OfCell (suc n)) slots long (suc k) = one n m.cells k long
    where
      one : (n : ℕ) (cs : List HeapCell) (k : ℕ) → length slots ≡ length (get_or cs n no_cell).slots
          → length (get_or (memory.at_number n (λ c. record c { slots = slots }) cs) k no_cell).slots ≡ length (get_or cs k no_cell).slots
      one n [] k long = refl
      one zero (c ∷ cs) zero long = long
      one zero (c ∷ cs) (suc k) long = refl
      one (suc n) (c ∷ cs) zero long = refl
      one (suc n) (c ∷ cs) (suc k) long = one n cs k long

  -- other slots that point where they should
  pub put_kept : (hands : List Waiting) (k : Place) (slots : List Slot) → Kept s m hands → IsMade m k.base → k.at + length slots ≤ length (slots_at s m k.base)
      → Points s (with_slots s k slots m) (content s (with_slots s k slots m) hands (loc_of k.base)) → Kept s (with_slots s k slots m) hands
  put_kept hands k slots kept made fit here =
      let all : List Slot = take k.at (slots_at s m k.base) ++ slots ++ drop (k.at + length slots) (slots_at s m k.base) in
      let long = whole_long k slots fit in
      let more = put_extends k.base all in
      record {
        variables = λ f x. put_variables k.base all long f x ∙ kept.variables f x;
        cells = λ c lo hi. (
            let count = put_count s m k.base all in
            let old : c ≤ length m.cells = omega (arith, hi, count) in
            put_cells k.base all long c ∙ kept.cells c lo old ∙ ap (words s.table) (sym (more.same c lo old)));
        points = by_trunk (with_slots s k slots m) hands (λ l t. elim (same_loc l (loc_of k.base)) [
          | inl e ↦ subst (λ z. Points s (with_slots s k slots m) (content s (with_slots s k slots m) hands z)) (sym e) here
          | inr ne ↦ subst (Points s (with_slots s k slots m)) (sym (put_off s m hands k slots l t ne))
              (still_points s m (with_slots s k slots m) more (content s m hands l) (kept.points l))
        ]);
      }

  -- ---- what a place has is taken

  pub moved : (rest : List Waiting) (k : Place) (l : Loc) → Spot s m rest k l → Kept s m rest
      → Kept s (moved_out s k m) (record { of = k.of; words = words_of s m k } ∷ rest)
  moved rest k l spot kept =
      let marks : List Slot = gone_at (access_offsets s.table k.of) (slots_of s m k) in
      let space = room s settled m rest kept k l spot in
      let some = taken_slots s settled m k space in
      let many : length marks ≡ words s.table k.of = marked_length (access_offsets s.table k.of) (slots_of s m k) ∙ some.0 in
      let fit : k.at + length marks ≤ length (slots_at s m k.base) = omega (arith, space, many) in
      let change = put_at s m rest k marks spot.made fit in
      let all : List Slot = take k.at (slots_at s m k.base) ++ marks ++ drop (k.at + length marks) (slots_at s m k.base) in
      let more : Extends m (moved_out s k m) = put_extends k.base all in
      let same : (o : ℕ) → (get_or (content s (moved_out s k m) rest (loc_of k.base)).slots o no_slot).word ≡ (get_or (content s m rest (loc_of k.base)).slots o no_slot).word =
      (λ o. by_either (where_ k.at (length marks) o)
      (λ out. (ap (λ (x : Slot). x.word) (change.outside o out)))
      (λ (i, lt, is). (ap (λ z. (get_or (content s (moved_out s k m) rest (loc_of k.base)).slots z no_slot).word) is
      ∙ ap (λ (x : Slot). x.word) (change.inside i lt) ∙ marked_word (access_offsets s.table k.of) (slots_of s m k) i
      ∙ ap (λ (x : Slot). x.word) (some.1 i (omega (arith, lt, many)))
      ∙ ap (λ z. (get_or z (k.at + i) no_slot).word) (sym (content_slots s m rest k.base spot.made))
      ∙ ap (λ z. (get_or (content s m rest (loc_of k.base)).slots z no_slot).word) (sym is)))) in
      kept_with s settled (moved_out s k m) (record { of = k.of; words = words_of s m k }) rest
      (still_points s m (moved_out s k m) more (in_hand (record { of = k.of; words = words_of s m k })) (copied_points s settled m rest k l spot kept))
      (put_kept rest k marks kept spot.made fit
      (same_points s m (moved_out s k m) more (content s m rest (loc_of k.base)) (content s (moved_out s k m) rest (loc_of k.base)) change.of same (kept.points (loc_of k.base))))
    where
      where_ : (at n o : ℕ) → ((o < at) ⊎ (at + n ≤ o)) ⊎ ((i : ℕ) × (i < n) × (o ≡ at + i))
      where_ at n o = by_either (cases_lt o at)
          (λ lt. (inl (inl lt)))
          (λ le. (by_either (cases_lt o (at + n)) (λ lt. (inr (o - at, omega (arith, lt, le), omega (arith, le)))) (λ more. (inl (inr more)))))

  -- ---- a cell is made

  new_extends : (t : ℕ) (ws : List machine.Word) → Extends m (with_new_cell t ws m)
  new_extends t ws = record {
    more = (let e = new_count s m t ws in omega (arith, e));
    same = λ k lo hi. ap (λ (c : HeapCell). c.of) (new_other s m t ws k (λ e. absurd (omega (arith, e, hi))));
  }

  pub made : (t want d : ℕ) (c n : Bool) (ws : List machine.Word) (rest : List Waiting) → length ws ≡ words s.table t
      → shape_of s.table want ≡ shape.Access d c n → Matches s.table d t
      → Kept s m (record { of = t; words = ws } ∷ record { of = want; words = [] } ∷ rest)
      → Kept s (with_new_cell t ws m) (record { of = want; words = machine.Cell (suc (length m.cells)) ∷ [] } ∷ rest)
  made t want d c n ws rest long is fits kept =
      let value : Waiting = record { of = t; words = ws } in
      let blank : Waiting = record { of = want; words = [] } in
      let got : Waiting = record { of = want; words = machine.Cell (suc (length m.cells)) ∷ [] } in
      let next : Memory = with_new_cell t ws m in
      let more = new_extends t ws in
      let count = new_count s m t ws in
      let under = less s settled m blank rest (less s settled m value (blank ∷ rest) kept.points) in
      let value_points = still_points s m next more (in_hand value) (top_points s settled m value (blank ∷ rest) kept.points) in
      let points : (l : Loc) → Points s next (content s next rest l) = by_trunk next rest (λ l t'. by_loc l t' under value_points) in
      kept_with s settled next got rest (mine count) (record {
        variables = kept.variables;
        cells = λ k lo hi. by_either (cases_lt k (suc (length m.cells)))
            (λ lt. (ap (λ (z : HeapCell). length z.slots) (new_other s m t ws k (λ e. absurd (omega (arith, e, lt))))
            ∙ kept.cells k lo (omega (arith, lt)) ∙ ap (λ (z : HeapCell). words s.table z.of) (sym (new_other s m t ws k (λ e. absurd (omega (arith, e, lt)))))))
            (λ ge. (
            let same : k ≡ suc (length m.cells) = omega (arith, ge, hi, count) in
            let here : cell next k ≡ record { of = t; slots = fresh ws; freed = false } = ap (cell next) same ∙ new_there s m t ws in
            ap (λ (z : HeapCell). length z.slots) here ∙ length-map ws (λ w. record { word = w; gone = false }) ∙ long
            ∙ ap (λ (z : HeapCell). words s.table z.of) (sym here)));
        points = points;
      })
    where
      by_loc : (l : Loc) → trunk l ≡ l → ((l : Loc) → Points s m (content s m rest l)) → Points s (with_new_cell t ws m) (in_hand (record { of = t; words = ws }))
          → Points s (with_new_cell t ws m) (content s (with_new_cell t ws m) rest l)
      by_loc (OfRoot (OfVariable f x)) t' under top =
          still_points s m (with_new_cell t ws m) (new_extends t ws) (content s m rest (OfRoot (OfVariable f x))) (under (OfRoot (OfVariable f x)))
      by_loc (OfRoot (OfHand h)) t' under top =
          still_points s m (with_new_cell t ws m) (new_extends t ws) (content s m rest (OfRoot (OfHand h))) (under (OfRoot (OfHand h)))
      by_loc (OfCell k) t' under top = by_either (same_loc (OfCell k) (OfCell (suc (length m.cells))))
          (λ e. (subst (Points s (with_new_cell t ws m))
          (sym (ap (content s (with_new_cell t ws m) rest) e ∙ ap (λ (z : HeapCell). record { of = z.of; slots = z.slots; owns = not z.freed }) (new_there s m t ws))) top))
          (λ ne. (subst (Points s (with_new_cell t ws m))
          (sym (ap (λ (z : HeapCell). record { of = z.of; slots = z.slots; owns = not z.freed }) (new_other s m t ws k (λ e. ne (ap OfCell e)))))
          (still_points s m (with_new_cell t ws m) (new_extends t ws) (content s m rest (OfCell k)) (under (OfCell k)))))
      by_loc (Inside l i) t' under top = absurd (not_inside l l i t')

      mine : length (with_new_cell t ws m).cells ≡ suc (length m.cells)
          → Points s (with_new_cell t ws m) (in_hand (record { of = want; words = machine.Cell (suc (length m.cells)) ∷ [] }))
      mine count p d' c' n' k has is' at =
          let none : p ≡ [] = access_end s settled m want d c n is p has in
          let same : shape.Access d c n ≡ shape.Access d' c' n' = sym is ∙ ap (λ z. shape_of s.table (type_in s.table want z)) (sym none) ∙ is' in
          let one : d ≡ d' = cc in
          let at' : machine.Cell (suc (length m.cells)) ≡ machine.Cell k =
          ap (λ z. (get_or (fresh (machine.Cell (suc (length m.cells)) ∷ [])) (offset_in s.table want z) no_slot).word) (sym none) ∙ at in
          let number : suc (length m.cells) ≡ k = word_cells at' in (
            omega (arith, number),
            omega (arith, number, count),
            subst (λ z. Matches s.table z (cell (with_new_cell t ws m) k).of) one
                (subst (Matches s.table d) (sym (ap (λ z. (cell (with_new_cell t ws m) z).of) (sym number) ∙ ap (λ (z : HeapCell). z.of) (new_there s m t ws))) fits),
          )

  -- ---- a value is stored

  scalar_same : (t u : ℕ) → shape_of s.table t ≡ shape_of s.table u → is_scalar (full s.table t) ≡ is_scalar (full s.table u)
  scalar_same t u e = ap (λ z. is_scalar (view_of z)) e

  pub matches_both : (t u w : ℕ) → Matches s.table t u → Matches s.table u w → Matches s.table t w
  matches_both t u w (inl a) (inl b) = inl (a ∙ b)
  matches_both t u w (inl a) (inr (b, c)) = inr (scalar_same t u a ∙ b, c)
  matches_both t u w (inr (a, b)) (inl c) = inr (a, sym (scalar_same u w c) ∙ b)
  matches_both t u w (inr (a, b)) (inr (c, d)) = inr (a, d)

  -- the offset of an access part is within the words of its whole
  access_inside : (t : ℕ) (p : List Step) (d : ℕ) (c n : Bool) → has_part s.table t p ≡ true → shape_of s.table (type_in s.table t p) ≡ shape.Access d c n
      → offset_in s.table t p < words s.table t
  access_inside t p d c n has is =
      let in_ = (all_within s.table settled t p [] (ap (has_part s.table t) (append-nil p) ∙ has)).stop in
      let flat : offset_in s.table t (p ++ []) ≡ offset_in s.table t p = ap (offset_in s.table t) (append-nil p) in
      let type : words s.table (type_in s.table t (p ++ [])) ≡ words s.table (type_in s.table t p) = ap (λ z. words s.table (type_in s.table t z)) (append-nil p) in
      let one = one_word s settled m (type_in s.table t p) d c n is in
      omega (arith, in_, flat, type, one)

  pub put_points : (next : Memory) (c e : Content) (q : List Step) (u : ℕ) (ws : List machine.Word)
      → Put c e (offset_in s.table c.of q) (fresh ws) → has_part s.table c.of q ≡ true → length ws ≡ words s.table (type_in s.table c.of q)
      → Matches s.table u (type_in s.table c.of q) → Points s next c → Points s next (in_hand (record { of = u; words = ws })) → Points s next e
  put_points next c e q u ws change there long fits old value p d x y k has is at =
      let has' : has_part s.table c.of p ≡ true = ap (λ t. has_part s.table t p) (sym change.of) ∙ has in
      let is' : shape_of s.table (type_in s.table c.of p) ≡ shape.Access d x y = ap (λ t. shape_of s.table (type_in s.table t p)) (sym change.of) ∙ is in
      let at' : (get_or e.slots (offset_in s.table c.of p) no_slot).word ≡ machine.Cell k =
      ap (λ t. (get_or e.slots (offset_in s.table t p) no_slot).word) (sym change.of) ∙ at in
      let one = one_word s settled m (type_in s.table c.of p) d x y is' in
      let size : length (fresh ws) ≡ length ws = length-map ws (λ w. record { word = w; gone = false }) in
      elim (lie s.table settled c.of p q has' there) [
        | first_in r same ↦ in_new r same has' is' at'
        | second_in r same ↦ (
            let none : r ≡ [] = access_end s settled m (type_in s.table c.of p) d x y is' r
            (sym (part_join s.table c.of p r has') ∙ ap (has_part s.table c.of) (sym same) ∙ there) in
            let equal : q ≡ p = same ∙ ap (λ z. z ++ p) none in
            in_new [] (sym equal) has' is' at')
        | aside apart ↦ elim apart [
          | inl before ↦ old p d x y k has' is' (ap (λ (z : Slot). z.word) (sym (change.outside (offset_in s.table c.of p) (inl (omega (arith, before, one))))) ∙ at')
          | inr behind ↦ old p d x y k has' is'
              (ap (λ (z : Slot). z.word) (sym (change.outside (offset_in s.table c.of p) (inr (omega (arith, behind, size, long))))) ∙ at')
        ]
      ]
    where
      in_new : (r : List Step) → p ≡ r ++ q → has_part s.table c.of p ≡ true → shape_of s.table (type_in s.table c.of p) ≡ shape.Access d x y
          → (get_or e.slots (offset_in s.table c.of p) no_slot).word ≡ machine.Cell k → IsCell s next d k
      in_new r same has' is' at' =
          let v : ℕ = type_in s.table c.of q in
          let has_r : has_part s.table v r ≡ true = sym (part_join s.table c.of q r there) ∙ ap (has_part s.table c.of) (sym same) ∙ has' in
          let is_r : shape_of s.table (type_in s.table v r) ≡ shape.Access d x y =
          ap (shape_of s.table) (sym (type_join s.table c.of q r)) ∙ ap (λ z. shape_of s.table (type_in s.table c.of z)) (sym same) ∙ is' in
          let size : length (fresh ws) ≡ length ws = length-map ws (λ w. record { word = w; gone = false }) in
          let lt = access_inside v r d x y has_r is_r in
          retyped_points s settled next u v ws fits value r d x y k has_r is_r
          (ap (λ (z : Slot). z.word) (sym (change.inside (offset_in s.table v r) (omega (arith, lt, size, long))))
          ∙ ap (λ o. (get_or e.slots o no_slot).word) (sym (offset_join s.table c.of q r) ∙ ap (offset_in s.table c.of) (sym same)) ∙ at')

  -- what is stored points where it should
  pub stored_kept : (hands : List Waiting) (k : Place) (l : Loc) (u : ℕ) (ws : List machine.Word) → Kept s m hands → Spot s m hands k l
      → length ws ≡ words s.table k.of → Matches s.table u k.of → Points s m (in_hand (record { of = u; words = ws }))
      → Kept s (stored s k ws m) hands
  stored_kept hands k l u ws kept spot long fits value =
      let size : length (fresh ws) ≡ length ws = length-map ws (λ w. record { word = w; gone = false }) in
      let space = room s settled m hands kept k l spot in
      let fit : k.at + length (fresh ws) ≤ length (slots_at s m k.base) = omega (arith, space, size, long) in
      let next : Memory = stored s k ws m in
      let more : Extends m next = put_extends k.base (take k.at (slots_at s m k.base) ++ fresh ws ++ drop (k.at + length (fresh ws)) (slots_at s m k.base)) in
      let a : Content = content s m hands (loc_of k.base) in
      let type : type_in s.table (content s m hands (trunk l)).of (steps_in l) ≡ type_in s.table a.of (steps_in l) =
      ap (λ z. type_in s.table (content s m hands z).of (steps_in l)) spot.base in
      let like : Matches s.table k.of (type_in s.table a.of (steps_in l)) = subst (Matches s.table k.of) type spot.of in
      let change : Put a (content s next hands (loc_of k.base)) (offset_in s.table a.of (steps_in l)) (fresh ws) =
      subst (λ o. Put a (content s next hands (loc_of k.base)) o (fresh ws)) (spot.at ∙ ap (λ z. offset_in s.table (content s m hands z).of (steps_in l)) spot.base)
      (put_at s m hands k (fresh ws) spot.made fit) in
      put_kept hands k (fresh ws) kept spot.made fit
      (put_points next a (content s next hands (loc_of k.base)) (steps_in l) u ws change
      (ap (λ z. has_part s.table (content s m hands z).of (steps_in l)) (sym spot.base) ∙ spot.there)
      (long ∙ matches_words s.table settled k.of (type_in s.table a.of (steps_in l)) like)
      (matches_both u k.of (type_in s.table a.of (steps_in l)) fits like)
      (still_points s m next more a (kept.points (loc_of k.base)))
      (still_points s m next more (in_hand (record { of = u; words = ws })) value))

  -- ---- the latest hand ends

  pub less_kept : (v : Waiting) (rest : List Waiting) → Kept s m (v ∷ rest) → Kept s m rest
  less_kept v rest kept = record { variables = kept.variables; cells = kept.cells; points = less s settled m v rest kept.points }

  pub less_spot : (v : Waiting) (rest : List Waiting) (k : Place) (l : Loc) → Spot s m (v ∷ rest) k l → Spot s m rest k l
  less_spot v rest k l spot =
      let same : content s m (v ∷ rest) (trunk l) ≡ content s m rest (trunk l) =
      ap (content s m (v ∷ rest)) spot.base ∙ same_there s m (v ∷ rest) rest k.base ∙ ap (content s m rest) (sym spot.base) in
      record {
        base = spot.base;
        made = spot.made;
        at = spot.at ∙ ap (λ (c : Content). offset_in s.table c.of (steps_in l)) same;
        there = ap (λ (c : Content). has_part s.table c.of (steps_in l)) (sym same) ∙ spot.there;
        of = subst (λ (c : Content). Matches s.table k.of (type_in s.table c.of (steps_in l))) same spot.of;
      }

  pub put_away : (v : Waiting) (rest : List Waiting) (k : Place) (l : Loc) → Kept s m (v ∷ rest) → Spot s m (v ∷ rest) k l
      → length v.words ≡ words s.table k.of → Matches s.table v.of k.of → Kept s (stored s k v.words m) rest
  put_away v rest k l kept spot long fits =
      stored_kept rest k l v.of v.words (less_kept v rest kept) (less_spot v rest k l spot) long fits (top_points s settled m v rest kept.points)

  -- ---- variables are declared and removed

  same_cells : (variables : List memory.Variable) → Extends m (record m { variables = variables })
  same_cells variables = record { more = omega arith; same = λ k lo hi. refl }

  pub declared_kept : (f x : ℕ) (v : Waiting) (rest : List Waiting) → Kept s m (v ∷ rest) → length v.words ≡ words s.table (object_at s x).of
      → Matches s.table v.of (object_at s x).of → Kept s (declared f x v.words m) rest
  declared_kept f x v rest kept long fits =
      let next : Memory = declared f x v.words m in
      let more : Extends m next = same_cells next.variables in
      let under = less s settled m v rest kept.points in
      let mine = still_points s m next more (in_hand (record { of = (object_at s x).of; words = v.words }))
      (retyped_points s settled m v.of (object_at s x).of v.words fits (top_points s settled m v rest kept.points)) in
      record {
        variables = λ g y. elim (same_loc (OfRoot (OfVariable g y)) (OfRoot (OfVariable f x))) [
          | inl e ↦ (
              let a : g ≡ f = loc_frames e in let b : y ≡ x = loc_objects e in
              ap (λ z. length (variable_slots s z y next.variables)) a ∙ ap (λ z. length (variable_slots s f z next.variables)) b
              ∙ ap length (put_same s f x (fresh v.words) m.variables) ∙ length-map v.words (λ w. record { word = w; gone = false }) ∙ long
              ∙ ap (λ z. words s.table (object_at s z).of) (sym b))
          | inr ne ↦ ap length (put_other s f x g y (λ e. ne (ap OfRoot (sym e))) (fresh v.words) m.variables) ∙ kept.variables g y
        ];
        cells = kept.cells;
        points = by_trunk next rest (λ l t. elim (same_loc l (OfRoot (OfVariable f x))) [
          | inl e ↦ subst (λ z. Points s next (content s next rest z)) (sym e)
              (same_points s next next (record { more = omega arith; same = λ k lo hi. refl }) (in_hand (record { of = (object_at s x).of; words = v.words }))
              (content s next rest (OfRoot (OfVariable f x))) refl
              (λ o. ap (λ z. (get_or z o no_slot).word) (put_same s f x (fresh v.words) m.variables)) mine)
          | inr ne ↦ subst (Points s next) (sym (declared_there s m f x v.words rest l t ne)) (still_points s m next more (content s m rest l) (under l))
        ]);
      }

  pub removed_kept : (f x : ℕ) (hands : List Waiting) → Kept s m hands → Kept s (undeclared f x m) hands
  removed_kept f x hands kept =
      let next : Memory = undeclared f x m in
      let more : Extends m next = same_cells next.variables in
      let t : ℕ = (object_at s x).of in
      record {
        variables = λ g y. elim (same_loc (OfRoot (OfVariable g y)) (OfRoot (OfVariable f x))) [
          | inl e ↦ (
              let a : g ≡ f = loc_frames e in let b : y ≡ x = loc_objects e in
              ap (λ z. length (variable_slots s z y next.variables)) a ∙ ap (λ z. length (variable_slots s f z next.variables)) b
              ∙ ap length (removed_same s f x m.variables) ∙ length-map (default s.table t) (λ w. record { word = w; gone = false }) ∙ lengths s.table t
              ∙ ap (λ z. words s.table (object_at s z).of) (sym b))
          | inr ne ↦ ap length (removed_other s f x g y (λ e. ne (ap OfRoot (sym e))) m.variables) ∙ kept.variables g y
        ];
        cells = kept.cells;
        points = by_trunk next hands (λ l t'. elim (same_loc l (OfRoot (OfVariable f x))) [
          | inl e ↦ subst (λ z. Points s next (content s next hands z)) (sym e)
              (λ p d c n k has is at. absurd (none_default s.table t k (cell_has (default s.table t) (offset_in s.table t p) k
              (ap (λ z. (get_or z (offset_in s.table t p) no_slot).word) (sym (removed_same s f x m.variables)) ∙ at))))
          | inr ne ↦ subst (Points s next) (sym (removed_there s m f x hands l t' ne)) (still_points s m next more (content s m hands l) (kept.points l))
        ]);
      }

  -- ---- a cell is freed

  freed_cell : (n c : ℕ) → ((cell (freed n m) c).of ≡ (cell m c).of) × ((cell (freed n m) c).slots ≡ (cell m c).slots)
  freed_cell zero c = (refl, refl)
  freed_cell (suc n) zero = (refl, refl)
  freed_cell (suc n) (suc c) = one n m.cells c
    where
      one : (n : ℕ) (cs : List HeapCell) (c : ℕ) → ((get_or (memory.at_number n as_freed cs) c no_cell).of ≡ (get_or cs c no_cell).of)
          × ((get_or (memory.at_number n as_freed cs) c no_cell).slots ≡ (get_or cs c no_cell).slots)
      one n [] c = (refl, refl)
      one zero (x ∷ cs) zero = (refl, refl)
      one zero (x ∷ cs) (suc c) = (refl, refl)
      one (suc n) (x ∷ cs) zero = (refl, refl)
      one (suc n) (x ∷ cs) (suc c) = one n cs c

  pub freed_kept : (n : ℕ) (hands : List Waiting) → Kept s m hands → Kept s (freed n m) hands
  freed_kept n hands kept =
      let next : Memory = freed n m in
      let count = freed_count s m n in
      let more : Extends m next = record { more = omega (arith, count); same = λ k lo hi. (freed_cell n k).0 } in
      record {
        variables = kept.variables;
        cells = λ k lo hi. ap length (freed_cell n k).1 ∙ kept.cells k lo (omega (arith, hi, count)) ∙ ap (words s.table) (sym (freed_cell n k).0);
        points = by_trunk next hands (λ l t. by_loc l t more);
      }
    where
      by_loc : (l : Loc) → trunk l ≡ l → Extends m (freed n m) → Points s (freed n m) (content s (freed n m) hands l)
      by_loc (OfRoot (OfVariable f x)) t more = still_points s m (freed n m) more (content s m hands (OfRoot (OfVariable f x))) (kept.points (OfRoot (OfVariable f x)))
      by_loc (OfRoot (OfHand h)) t more = still_points s m (freed n m) more (content s m hands (OfRoot (OfHand h))) (kept.points (OfRoot (OfHand h)))
      by_loc (OfCell k) t more =
          same_points s m (freed n m) more (content s m hands (OfCell k)) (content s (freed n m) hands (OfCell k)) (freed_cell n k).0
          (λ o. ap (λ z. (get_or z o no_slot).word) (freed_cell n k).1) (kept.points (OfCell k))
      by_loc (Inside l i) t more = absurd (not_inside l l i t)

-- ---- all that evaluations need

pub keeps : (s : Typing) → IsSettled s.table → OwnsByShape s.table → Keeps s
keeps s settled own_law = record {
  plain = λ m. plain s settled m;
  scalar = λ m. scalar s settled m;
  retyped = λ m. retyped s settled m;
  copied = λ m. copied s settled m;
  moved = λ m. moved s settled m;
  made = λ m. made s settled m;
  lengths = lengths s.table;
  ownerless = ownerless s.table own_law;
}
