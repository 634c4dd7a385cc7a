-- The steps of a memory as changes of contents.
use Rattle.std.proofs.Common.{◌≡◌, refl, sym, ap, ◌∙◌, subst, inl, inr, ℕ, zero, suc, ◌+◌, ◌-◌, ◌*◌, ◌<◌, ◌≤◌, Bool, true, false, not, ◌&&◌, ◌==◌, eqb-true, eq-eqb, List, [], ◌∷◌, ◌++◌, map, sum, take, drop, length, get_or, nat_lt, ltb-true, arith, length-drop, append-nil, if◌then◌else◌}
use Rattle.std.proofs.lemmas.List.{length-map, get_or-take, get_or-drop, length-take-le}
use Rattle.std.proofs.lemmas.Bool.{false≢true, true≢false}
use Rattle.machine.specs.type_definitions.declared.table.Shape.{Shape}
use Rattle.machine.specs.type_definitions.declared.table.Shape.TheVariants as shape
use Rattle.machine.specs.type_definitions.declared.table.Component.{Component as Part}
use Rattle.machine.specs.type_definitions.Types.{Table, shape_of, components_of, fields, words, words_of as shape_words, full, view_of, is_scalar}
use Rattle.machine.specs.flow_paths.Objects.{Typing, object_at}
use Rattle.machine.specs.Words.{no_component, access_offsets, element_of, count_of, component_type, element_type, element_count}
use Rattle.machine.specs.Words as machine
use Rattle.machine.specs.Memory.{Slot, Memory, Base, Place, HeapCell, fresh, cell, no_slot, slots_at, slots_of, words_of, put, with_slots, stored, moved_out, gone_at, at_number}
use Rattle.machine.specs.Memory as memory
use Rattle.machine.specs.States.{Waiting}
use Rattle.machine.specs.Owners.{no_value, waiting_at}
use Rattle.soundness.specs.OwnedWays.Ways.{Step, Component, Element, OfVariable, OfHand, Loc, OfRoot, OfCell, Inside}
use Rattle.soundness.specs.PartOffsets.Parts.{type_in, offset_in, has_part, owns_one, is_leaf, IsSettled}
use Rattle.soundness.proofs.PartOffsets.Ranges.{both_parts, all_within, leaf_outside}
use Rattle.soundness.proofs.PartOffsets.Leaves.{leaf_at}
use Rattle.soundness.specs.Seen.{Content, in_hand, content, trunk, steps_in, is_view_formal}
use Rattle.soundness.specs.Changes.{Alike, Put, hand, Stores, Takes}
use Rattle.soundness.specs.Typed.{Matches, Kept, loc_of, IsMade, Spot}
use Rattle.soundness.proofs.Joined.{not_inside, leaf_join, offset_join}
use Rattle.soundness.proofs.Contents.{leaf_below}
use Rattle.soundness.proofs.Memories.{put_same, put_other, at_same, at_other, at_length, changed_inside, changed_outside, marked_gone, marked_length}

is_false : (b : Bool) → (b ≡ true → ⊥) → b ≡ false
is_false true e = absurd (e refl)
is_false false e = refl

-- ---- hands

pub hand_top : (v : Waiting) (rest : List Waiting) → waiting_at (v ∷ rest) (length rest) ≡ v
hand_top v rest = ap (λ b. if b then v else waiting_at rest (length rest)) (eq-eqb (length rest) (length rest) refl)

pub hand_past : (rest : List Waiting) (h : ℕ) → length rest ≤ h → waiting_at rest h ≡ no_value
hand_past [] h le = refl
hand_past (v ∷ rest) h le =
    ap (λ b. if b then v else waiting_at rest h) (is_false (h == length rest) (λ e. (let same = eqb-true h (length rest) e in absurd (omega (arith, le, same)))))
    ∙ hand_past rest h (omega (arith, le))

pub hand_below : (v : Waiting) (rest : List Waiting) (h : ℕ) → (h ≡ length rest → ⊥) → waiting_at (v ∷ rest) h ≡ waiting_at rest h
hand_below v rest h ne = ap (λ b. if b then v else waiting_at rest h) (is_false (h == length rest) (λ e. ne (eqb-true h (length rest) e)))

-- ---- types that match

pub plain_shape : (s : Shape) → is_scalar (view_of s) ≡ true → (components_of s ≡ []) × (count_of s ≡ 0) × (owns_one s ≡ false) × ((w : ℕ → ℕ) → shape_words w s ≡ 1)
plain_shape (shape.Whole a b) e = (refl, refl, refl, λ w. refl)
plain_shape (shape.Listed l a b) e = (refl, refl, refl, λ w. refl)
plain_shape (shape.Access d c n) e = absurd (false≢true e)
plain_shape (shape.Fields cs) e = absurd (false≢true e)
plain_shape (shape.Elements a b el) e = absurd (false≢true e)
plain_shape (shape.Same of) e = absurd (false≢true e)

module _ (table : Table) (settled : IsSettled table) where
  pub matches_words : (t u : ℕ) → Matches table t u → words table t ≡ words table u
  matches_words t u (inl e) = settled.word_law t ∙ ap (shape_words (words table)) e ∙ sym (settled.word_law u)
  matches_words t u (inr (a, b)) =
      settled.word_law t ∙ (plain_shape (shape_of table t) a).3 (words table)
      ∙ sym (settled.word_law u ∙ (plain_shape (shape_of table u) b).3 (words table))

  -- parts of one definition are the same
  pub same_below : (t u : ℕ) → shape_of table t ≡ shape_of table u → (p : List Step)
      → (shape_of table (type_in table t p) ≡ shape_of table (type_in table u p)) × (offset_in table t p ≡ offset_in table u p)
      × (has_part table t p ≡ has_part table u p)
  same_below t u e [] = (e, refl, refl)
  same_below t u e (Component i ∷ p) =
      let rest = same_below t u e p in
      let type : component_type table (type_in table t p) i ≡ component_type table (type_in table u p) i =
      ap (λ s. (get_or (components_of s) i no_component).of) rest.0 in (
        ap (shape_of table) type,
        (λ j. rest.1 j + sum (map (λ (c : Part). words table c.of) (take i (components_of (rest.0 j))))),
        (λ j. rest.2 j && nat_lt i (length (components_of (rest.0 j)))),
      )
  same_below t u e (Element n ∷ p) =
      let rest = same_below t u e p in
      let type : element_type table (type_in table t p) ≡ element_type table (type_in table u p) = ap element_of rest.0 in (
        ap (shape_of table) type,
        (λ j. rest.1 j + n * words table (type j)),
        (λ j. rest.2 j && nat_lt n (count_of (rest.0 j))),
      )

  -- a scalar type has no parts
  pub plain_end : (t : ℕ) → components_of (shape_of table t) ≡ [] → count_of (shape_of table t) ≡ 0 → (p : List Step) → has_part table t p ≡ true → p ≡ []
  plain_end t a b [] has = refl
  plain_end t a b (Component i ∷ p) has =
      let both = both_parts (has_part table t p) (nat_lt i (length (fields table (type_in table t p)))) has in
      let none = plain_end t a b p both.0 in
      let lt : i < length (fields table (type_in table t p)) = ltb-true _ _ both.1 in
      let same : length (fields table (type_in table t p)) ≡ length (fields table t) = ap (λ z. length (fields table (type_in table t z))) none in
      let zero : length (fields table t) ≡ 0 = ap length a in
      absurd (omega (arith, lt, same, zero))
  plain_end t a b (Element n ∷ p) has =
      let both = both_parts (has_part table t p) (nat_lt n (element_count table (type_in table t p))) has in
      let none = plain_end t a b p both.0 in
      let lt : n < element_count table (type_in table t p) = ltb-true _ _ both.1 in
      let same : element_count table (type_in table t p) ≡ element_count table t = ap (λ z. element_count table (type_in table t z)) none in
      absurd (omega (arith, lt, same, b))

  pub no_leaf : (t : ℕ) → is_scalar (full table t) ≡ true → (p : List Step) → is_leaf table t p ≡ false
  no_leaf t e p = is_false (is_leaf table t p) (λ h. (
      let s = plain_shape (shape_of table t) e in
      let both = both_parts (has_part table t p) (owns_one (shape_of table (type_in table t p))) h in
      let none = plain_end t s.0 s.1 p both.0 in
      let own : owns_one (shape_of table t) ≡ true = ap (λ z. owns_one (shape_of table (type_in table t z))) (sym none) ∙ both.1 in
      let not : true ≡ false = sym own ∙ s.2 in absurd (true≢false not)))

  pub alike : (t u : ℕ) → Matches table t u → Alike table t u
  alike t u (inl e) = record {
    leaf = λ p. (let same = same_below t u e p in (λ j. same.2 j && owns_one (same.0 j)));
    at = λ p leaf. (same_below t u e p).1;
  }
  alike t u (inr (a, b)) = record {
    leaf = λ p. no_leaf t a p ∙ sym (no_leaf u b p);
    at = λ p leaf. (let isnt : true ≡ false = sym leaf ∙ no_leaf t a p in absurd (true≢false isnt));
  }

-- ---- other slots at a place

module _ (s : Typing) (m : Memory) where
  -- what a variable or a cell has
  pub content_slots : (hands : List Waiting) (b : Base) → IsMade m b → (content s m hands (loc_of b)).slots ≡ slots_at s m b
  content_slots hands (memory.OfVariable f x) made = refl
  content_slots hands (memory.OfCell n) made = refl

  put_here : (hands : List Waiting) (b : Base) (slots : List Slot) → IsMade m b
      → ((content s (put b slots m) hands (loc_of b)).slots ≡ slots) × ((content s (put b slots m) hands (loc_of b)).of ≡ (content s m hands (loc_of b)).of)
      × ((content s (put b slots m) hands (loc_of b)).owns ≡ (content s m hands (loc_of b)).owns)
  put_here hands (memory.OfVariable f x) slots made = (put_same s f x slots m.variables, refl, refl)
  put_here hands (memory.OfCell zero) slots made = (let isnt = made.0 in absurd (omega (arith, isnt)))
  put_here hands (memory.OfCell (suc n)) slots made =
      let less : n < length m.cells = (let le = made.1 in omega (arith, le)) in
      let is = at_same n (λ c. record c { slots = slots }) m.cells memory.no_cell less in
      (ap (λ (c : HeapCell). c.slots) is, ap (λ (c : HeapCell). c.of) is, ap (λ (c : HeapCell). not c.freed) is)

  put_there : (hands : List Waiting) (b : Base) (slots : List Slot) (k : Loc) → trunk k ≡ k → (k ≡ loc_of b → ⊥)
      → content s (put b slots m) hands k ≡ content s m hands k
  put_there hands (memory.OfVariable f x) slots (OfRoot (OfVariable g y)) t ne =
      ap (λ z. record { of = (object_at s y).of; slots = z; owns = not (is_view_formal s y) })
      (put_other s f x g y (λ e. ne (ap OfRoot (sym e))) slots m.variables)
  put_there hands (memory.OfVariable f x) slots (OfRoot (OfHand h)) t ne = refl
  put_there hands (memory.OfVariable f x) slots (OfCell n) t ne = refl
  put_there hands (memory.OfCell n) slots (OfRoot (OfVariable g y)) t ne = refl
  put_there hands (memory.OfCell n) slots (OfRoot (OfHand h)) t ne = refl
  put_there hands (memory.OfCell zero) slots (OfCell k) t ne = refl
  put_there hands (memory.OfCell (suc n)) slots (OfCell zero) t ne = refl
  put_there hands (memory.OfCell (suc n)) slots (OfCell (suc k)) t ne =
      ap (λ (c : HeapCell). record { of = c.of; slots = c.slots; owns = not c.freed })
      (at_other n k (λ c. record c { slots = slots }) m.cells memory.no_cell (λ e. ne (ap (λ z. OfCell (suc z)) (sym e))))
  put_there hands b slots (Inside l i) t ne = absurd (not_inside l l i t)

  pub put_count : (b : Base) (slots : List Slot) → length (put b slots m).cells ≡ length m.cells
  put_count (memory.OfVariable f x) slots = refl
  put_count (memory.OfCell zero) slots = refl
  put_count (memory.OfCell (suc n)) slots = at_length n (λ c. record c { slots = slots }) m.cells

  pub put_freed : (b : Base) (slots : List Slot) (n : ℕ) → (cell (put b slots m) n).freed ≡ (cell m n).freed
  put_freed (memory.OfVariable f x) slots n = refl
  put_freed (memory.OfCell zero) slots n = refl
  put_freed (memory.OfCell (suc k)) slots zero = refl
  put_freed (memory.OfCell (suc k)) slots (suc n) = one k m.cells n
    where
      one : (k : ℕ) (cs : List HeapCell) (n : ℕ) → (get_or (at_number k (λ c. record c { slots = slots }) cs) n memory.no_cell).freed ≡ (get_or cs n memory.no_cell).freed
      one k [] n = refl
      one zero (c ∷ cs) zero = refl
      one zero (c ∷ cs) (suc n) = refl
      one (suc k) (c ∷ cs) zero = refl
      one (suc k) (c ∷ cs) (suc n) = one k cs n

  -- the content of a place changes from its offset on
  pub put_at : (hands : List Waiting) (k : Place) (slots : List Slot) → IsMade m k.base → k.at + length slots ≤ length (slots_at s m k.base)
      → Put (content s m hands (loc_of k.base)) (content s (with_slots s k slots m) hands (loc_of k.base)) k.at slots
  put_at hands k slots made room =
      let all : List Slot = slots_at s m k.base in
      let here = put_here hands k.base (take k.at all ++ slots ++ drop (k.at + length slots) all) made in
      let old = content_slots hands k.base made in
      record {
        of = here.1;
        owns = here.2;
        outside = λ o out. ap (λ z. get_or z o no_slot) here.0 ∙ changed_outside all slots k.at room o out ∙ ap (λ z. get_or z o no_slot) (sym old);
        inside = λ i lt. ap (λ z. get_or z (k.at + i) no_slot) here.0 ∙ changed_inside all slots k.at room i lt;
      }

  pub put_off : (hands : List Waiting) (k : Place) (slots : List Slot) (l : Loc) → trunk l ≡ l → (l ≡ loc_of k.base → ⊥)
      → content s (with_slots s k slots m) hands l ≡ content s m hands l
  put_off hands k slots l t ne =
      put_there hands k.base (take k.at (slots_at s m k.base) ++ slots ++ drop (k.at + length slots) (slots_at s m k.base)) l t ne

-- other hands stand aside
pub other_hand : (s : Typing) (m : Memory) (v : Waiting) (rest : List Waiting) (k : Loc) → trunk k ≡ k → (k ≡ hand (length rest) → ⊥)
    → content s m (v ∷ rest) k ≡ content s m rest k
other_hand s m v rest (OfRoot (OfVariable f x)) t ne = refl
other_hand s m v rest (OfRoot (OfHand h)) t ne = ap in_hand (hand_below v rest h (λ e. ne (ap hand e)))
other_hand s m v rest (OfCell n) t ne = refl
other_hand s m v rest (Inside l i) t ne = absurd (not_inside l l i t)

pub no_hand_there : (b : Base) (h : ℕ) → loc_of b ≡ hand h → ⊥
no_hand_there (memory.OfVariable f x) h e = cc
no_hand_there (memory.OfCell n) h e = cc

-- variables and cells have what they have, whatever is in hand
pub same_there : (s : Typing) (m : Memory) (a b : List Waiting) (k : Base) → content s m a (loc_of k) ≡ content s m b (loc_of k)
same_there s m a b (memory.OfVariable f x) = refl
same_there s m a b (memory.OfCell n) = refl

module _ (s : Typing) (settled : IsSettled s.table) (m : Memory) where
  pub slots_long : (hands : List Waiting) → Kept s m hands → (b : Base) → IsMade m b
      → length (slots_at s m b) ≡ words s.table (content s m hands (loc_of b)).of
  slots_long hands kept (memory.OfVariable f x) made = kept.variables f x
  slots_long hands kept (memory.OfCell n) made = kept.cells n made.0 made.1

  -- a place has room for its words
  pub room : (hands : List Waiting) → Kept s m hands → (k : Place) (l : Loc) → Spot s m hands k l
      → k.at + words s.table k.of ≤ length (slots_at s m k.base)
  room hands kept k l spot =
      let c : Content = content s m hands (trunk l) in
      let in_ = (all_within s.table settled c.of (steps_in l) [] (ap (has_part s.table c.of) (append-nil (steps_in l)) ∙ spot.there)).stop in
      let flat : offset_in s.table c.of (steps_in l ++ []) ≡ offset_in s.table c.of (steps_in l) = ap (offset_in s.table c.of) (append-nil (steps_in l)) in
      let type : words s.table (type_in s.table c.of (steps_in l ++ [])) ≡ words s.table (type_in s.table c.of (steps_in l)) =
      ap (λ z. words s.table (type_in s.table c.of z)) (append-nil (steps_in l)) in
      let own = matches_words s.table settled k.of (type_in s.table c.of (steps_in l)) spot.of in
      let at = spot.at in
      let long = slots_long hands kept k.base spot.made in
      let same : words s.table c.of ≡ words s.table (content s m hands (loc_of k.base)).of = ap (λ z. words s.table (content s m hands z).of) spot.base in
      omega (arith, in_, flat, type, own, at, long, same)

  -- ---- a value is stored

  pub stores : (v : Waiting) (rest : List Waiting) → Kept s m (v ∷ rest) → (k : Place) (l : Loc) → Spot s m (v ∷ rest) k l
      → length v.words ≡ words s.table k.of → Matches s.table v.of k.of → (content s m (v ∷ rest) (trunk l)).owns ≡ true
      → Stores s.table (content s m (v ∷ rest)) (content s (stored s k v.words m) rest) (length rest) v l
  stores v rest kept k l spot long fits owns =
      let a : Loc → Content = content s m (v ∷ rest) in
      let b : Loc → Content = content s (stored s k v.words m) rest in
      let fresh_long : length (fresh v.words) ≡ length v.words = length-map v.words (λ w. record { word = w; gone = false }) in
      let space = room (v ∷ rest) kept k l spot in
      let fit : k.at + length (fresh v.words) ≤ length (slots_at s m k.base) = omega (arith, space, fresh_long, long) in
      let change : Put (a (loc_of k.base)) (b (loc_of k.base)) k.at (fresh v.words) =
      subst (λ z. Put z (b (loc_of k.base)) k.at (fresh v.words)) (same_there s m rest (v ∷ rest) k.base)
      (put_at s m rest k (fresh v.words) spot.made fit) in
      record {
        before = ap in_hand (hand_top v rest);
        behind = ap in_hand (hand_past rest (length rest) (omega arith));
        other = λ z t ne off. put_off s m rest k (fresh v.words) z t (λ e. ne (e ∙ sym spot.base)) ∙ sym (other_hand s m v rest z t off);
        put = subst (λ z. Put (a z) (b z) (offset_in s.table (a z).of (steps_in l)) (fresh v.words)) (sym spot.base)
            (subst (λ o. Put (a (loc_of k.base)) (b (loc_of k.base)) o (fresh v.words))
            (spot.at ∙ ap (λ z. offset_in s.table (a z).of (steps_in l)) spot.base) change);
        there = spot.there;
        owns = owns;
        fits = long ∙ matches_words s.table settled k.of (type_in s.table (a (trunk l)).of (steps_in l)) spot.of;
        alike = both (alike s.table settled v.of k.of fits) (alike s.table settled k.of (type_in s.table (a (trunk l)).of (steps_in l)) spot.of);
        apart = λ e. no_hand_there k.base (length rest) (sym spot.base ∙ e);
      }
    where
      both : {t u w : ℕ} → Alike s.table t u → Alike s.table u w → Alike s.table t w
      both x y = record {
        leaf = λ p. x.leaf p ∙ y.leaf p;
        at = λ p e. x.at p e ∙ y.at p (sym (x.leaf p) ∙ e);
      }

  -- ---- what a place has is taken

  pub taken_slots : (k : Place) → k.at + words s.table k.of ≤ length (slots_at s m k.base) → (length (slots_of s m k) ≡ words s.table k.of)
      × ((i : ℕ) → i < words s.table k.of → get_or (slots_of s m k) i no_slot ≡ get_or (slots_at s m k.base) (k.at + i) no_slot)
  taken_slots k space =
      let left : length (drop k.at (slots_at s m k.base)) ≡ length (slots_at s m k.base) - k.at = length-drop k.at (slots_at s m k.base) in (
        length-take-le (words s.table k.of) (drop k.at (slots_at s m k.base)) (omega (arith, space, left)),
        λ i lt. get_or-take (words s.table k.of) (drop k.at (slots_at s m k.base)) i no_slot lt ∙ get_or-drop k.at (slots_at s m k.base) i no_slot,
      )

  pub takes : (rest : List Waiting) → Kept s m rest → (k : Place) (l : Loc) → Spot s m rest k l → (content s m rest (trunk l)).owns ≡ true
      → ((p : List Step) → is_leaf s.table (content s m rest (trunk l)).of (p ++ steps_in l) ≡ true
      → (get_or (content s m rest (trunk l)).slots (offset_in s.table (content s m rest (trunk l)).of (p ++ steps_in l)) no_slot).gone ≡ false)
      → Takes s.table (content s m rest) (content s (moved_out s k m) (record { of = k.of; words = words_of s m k } ∷ rest)) (length rest)
      (record { of = k.of; words = words_of s m k }) l
  takes rest kept k l spot owns whole =
      let table : Table = s.table in
      let v : Waiting = record { of = k.of; words = words_of s m k } in
      let a : Loc → Content = content s m rest in
      let b : Loc → Content = content s (moved_out s k m) (v ∷ rest) in
      let space = room rest kept k l spot in
      let some = taken_slots k space in
      let marks : List Slot = gone_at (access_offsets table k.of) (slots_of s m k) in
      let many : length marks ≡ words table k.of = marked_length (access_offsets table k.of) (slots_of s m k) ∙ some.0 in
      let change : Put (a (loc_of k.base)) (b (loc_of k.base)) k.at marks =
      subst (λ z. Put (a (loc_of k.base)) z k.at marks) (same_there s (moved_out s k m) rest (v ∷ rest) k.base)
      (put_at s m rest k marks spot.made (omega (arith, space, many))) in
      let here : Put (a (trunk l)) (b (trunk l)) (offset_in table (a (trunk l)).of (steps_in l)) marks =
      subst (λ z. Put (a z) (b z) (offset_in table (a z).of (steps_in l)) marks) (sym spot.base)
      (subst (λ o. Put (a (loc_of k.base)) (b (loc_of k.base)) o marks) (spot.at ∙ ap (λ z. offset_in table (a z).of (steps_in l)) spot.base) change) in
      let u : ℕ = type_in table (a (trunk l)).of (steps_in l) in
      let like = alike table settled k.of u spot.of in
      let long = matches_words table settled k.of u spot.of in
      record {
        before = ap in_hand (hand_past rest (length rest) (omega arith));
        behind = ap in_hand (hand_top v rest);
        other = λ z t ne off. other_hand s (moved_out s k m) v rest z t off ∙ put_off s m rest k marks z t (λ e. ne (e ∙ sym spot.base));
        of = here.of;
        owns = here.owns;
        there = spot.there;
        live = owns;
        outside = λ p leaf off. (
            let out = leaf_outside table settled (a (trunk l)).of p (steps_in l) leaf spot.there off in
            here.outside (offset_in table (a (trunk l)).of p) (elim out [ inl lt ↦ inl lt | inr le ↦ inr (omega (arith, le, many, long)) ]));
        goes = λ p leaf. (
            let mine = inner p leaf like in
            ap (λ (x : Slot). x.gone) (ap (λ o. get_or (b (trunk l)).slots o no_slot) (offset_join table (a (trunk l)).of (steps_in l) p) ∙ here.inside (offset_in table u p) (let lt = mine.2 in omega (arith, lt, many)))
            ∙ ap (λ o. (get_or marks o no_slot).gone) (sym mine.1)
            ∙ marked_gone (access_offsets table k.of) (slots_of s m k) (offset_in table k.of p) (leaf_at table settled k.of p mine.0)
            (let lt = mine.2 in let e = mine.1 in let n = some.0 in omega (arith, lt, e, n)));
        was = whole;
        comes = λ p leaf. (
            let mine = inner p leaf like in
            let lt = mine.2 in
            let n = some.0 in
            get_or_fresh (words_of s m k) (offset_in table u p) (let e : length (words_of s m k) ≡ length (slots_of s m k) = length-map (slots_of s m k) (λ (x : Slot). x.word) in omega (arith, lt, e, n))
            ∙ ap (λ w. record { word = w; gone = false }) (
            word_map (slots_of s m k) (offset_in table u p) (omega (arith, lt, n))
            ∙ ap (λ (x : Slot). x.word) (some.1 (offset_in table u p) lt)
            ∙ ap (λ z. (get_or z (k.at + offset_in table u p) no_slot).word) (sym (content_slots s m rest k.base spot.made))
            ∙ ap (λ z. (get_or (a z).slots (k.at + offset_in table u p) no_slot).word) (sym spot.base)
            ∙ ap (λ o. (get_or (a (trunk l)).slots o no_slot).word)
            (ap (λ o. o + offset_in table u p) spot.at ∙ sym (offset_join table (a (trunk l)).of (steps_in l) p))));
        alike = like;
        apart = λ e. no_hand_there k.base (length rest) (sym spot.base ∙ e);
      }
    where
      -- a word in the place that owns, by the type of the place
      inner : (p : List Step) → is_leaf s.table (content s m rest (trunk l)).of (p ++ steps_in l) ≡ true
          → Alike s.table k.of (type_in s.table (content s m rest (trunk l)).of (steps_in l))
          → (is_leaf s.table k.of p ≡ true)
          × (offset_in s.table k.of p ≡ offset_in s.table (type_in s.table (content s m rest (trunk l)).of (steps_in l)) p)
          × (offset_in s.table (type_in s.table (content s m rest (trunk l)).of (steps_in l)) p < words s.table k.of)
      inner p leaf like =
          let u : ℕ = type_in s.table (content s m rest (trunk l)).of (steps_in l) in
          let there : is_leaf s.table u p ≡ true = sym (leaf_join s.table (content s m rest (trunk l)).of (steps_in l) p spot.there) ∙ leaf in
          let mine : is_leaf s.table k.of p ≡ true = like.leaf p ∙ there in
          let below = leaf_below s.table settled u p there in
          let long = matches_words s.table settled k.of u spot.of in
          (mine, like.at p mine, omega (arith, below, long))

      get_or_fresh : (ws : List machine.Word) (i : ℕ) → i < length ws → get_or (fresh ws) i no_slot ≡ record { word = get_or ws i machine.Null; gone = false }
      get_or_fresh [] i lt = absurd (omega (arith, lt))
      get_or_fresh (w ∷ ws) zero lt = refl
      get_or_fresh (w ∷ ws) (suc i) lt = get_or_fresh ws i (omega (arith, lt))

      word_map : (xs : List Slot) (i : ℕ) → i < length xs → get_or (map (λ (x : Slot). x.word) xs) i machine.Null ≡ (get_or xs i no_slot).word
      word_map [] i lt = absurd (omega (arith, lt))
      word_map (x ∷ xs) zero lt = refl
      word_map (x ∷ xs) (suc i) lt = word_map xs i (omega (arith, lt))
