-- What changes of contents are for owners.
use Rattle.std.proofs.Common.{◌≡◌, refl, sym, ap, ◌∙◌, subst, ◌⊎◌, inl, inr, ℕ, suc, ◌+◌, ◌<◌, Bool, true, false, ◌&&◌, ◌||◌, ◌==◌, eqb-true, eq-eqb, List, [], ◌∷◌, ◌++◌, map, flat_map, length, get_or, arith, append-nil, if◌then◌else◌}
use Rattle.std.specs.List.{list_any}
use Rattle.std.proofs.lemmas.List.{get_or_past}
use Rattle.std.proofs.lemmas.Grind.{flat_map-append}
use Rattle.std.proofs.lemmas.Bool.{false≢true}
use Rattle.machine.specs.spark_base.Lists.{Has}
use Rattle.machine.specs.spark_base.declared.position.Pos.{Pos}
use Rattle.machine.specs.place_names.declared.selector.Sel.{Sel}
use Rattle.machine.specs.type_definitions.Types.{Table, words, parts}
use Rattle.machine.specs.flow_paths.Objects.{Typing}
use Rattle.machine.specs.Words.{access_offsets, offsets}
use Rattle.machine.specs.Words as machine
use Rattle.machine.specs.Memory.{Slot, Memory, Place, fresh, no_slot, slots_at}
use Rattle.machine.specs.Calls.{failed, failed_at, checked_at, checks_at}
use Rattle.machine.specs.States.{Waiting, Leak}
use Rattle.machine.specs.Owners.{no_value}
use Rattle.soundness.specs.OwnedWays.Ways.{Step, Root, OfHand, Loc, OfRoot, Word, Empty, Gone, Held, part, Below, IsMove}
use Rattle.soundness.proofs.OwnedWays.Locations.{same_loc}
use Rattle.soundness.specs.PartOffsets.Parts.{type_in, offset_in, has_part, is_leaf, IsSettled}
use Rattle.soundness.proofs.PartOffsets.Ranges.{leaf_outside, leaf_words, leaf_part, all_within}
use Rattle.soundness.proofs.PartOffsets.Leaves.{Has-flat, Has-flat_from, leaf_at, leaf_from}
use Rattle.soundness.specs.Seen.{Content, in_hand, word_in, owner_at, owner_word, trunk, steps_in, seen_of}
use Rattle.soundness.specs.Changes.{Alike, Put, leaks_at, is_leaked, Checks, hand, Stores, Takes}
use Rattle.soundness.proofs.Joined.{offset_join, leaf_join, trunk_part, steps_part, trunk_trunk, below_from, below_root}
use Rattle.soundness.proofs.Constructors.{is_gone_word, is_held_word}
use Rattle.soundness.proofs.Parted.{held_cells, empty_held, empty_gone, by_either}

pub bool_cases : (b : Bool) → (b ≡ true) ⊎ (b ≡ false)
bool_cases true = inl refl
bool_cases false = inr refl

and_no : (b : Bool) → b && false ≡ false
and_no true = refl
and_no false = refl

-- ---- words

pub owner_held : (w : machine.Word) (g : Bool) (n : ℕ) → owner_at w g ≡ Held n → (w ≡ machine.Cell n) × (g ≡ false)
owner_held (machine.Int v) true n e = cc
owner_held (machine.Enumerated k) true n e = cc
owner_held machine.Null true n e = cc
owner_held (machine.Cell k) true n e = cc
owner_held (machine.Int v) false n e = cc
owner_held (machine.Enumerated k) false n e = cc
owner_held machine.Null false n e = cc
owner_held (machine.Cell k) false n e = let same : k ≡ n = held_cells {a = k} {b = n} e in (ap machine.Cell same, refl)

owner_gone : (w : machine.Word) (g : Bool) → g ≡ true → owner_at w g ≡ Gone
owner_gone w true e = refl
owner_gone w false e = absurd (false≢true e)

module _ (table : Table) where
  pub word_yes : (c : Content) (p : List Step) → c.owns ≡ true → is_leaf table c.of p ≡ true
      → word_in table c p ≡ owner_word (get_or c.slots (offset_in table c.of p) no_slot)
  word_yes c p o l =
      (λ j. if o j && is_leaf table c.of p then owner_word (get_or c.slots (offset_in table c.of p) no_slot) else Empty)
      ∙ (λ j. if l j then owner_word (get_or c.slots (offset_in table c.of p) no_slot) else Empty)

  pub word_no : (c : Content) (p : List Step) → is_leaf table c.of p ≡ false → word_in table c p ≡ Empty
  word_no c p l =
      (λ j. if c.owns && l j then owner_word (get_or c.slots (offset_in table c.of p) no_slot) else Empty)
      ∙ (λ j. if and_no c.owns j then owner_word (get_or c.slots (offset_in table c.of p) no_slot) else Empty)

  pub word_dead : (c : Content) (p : List Step) → c.owns ≡ false → word_in table c p ≡ Empty
  word_dead c p o = (λ j. if o j && is_leaf table c.of p then owner_word (get_or c.slots (offset_in table c.of p) no_slot) else Empty)

  pub record Shown (c : Content) (p : List Step) (w : Word) : Type 0 where
    pub owns : c.owns ≡ true
    pub leaf : is_leaf table c.of p ≡ true
    pub slot : owner_word (get_or c.slots (offset_in table c.of p) no_slot) ≡ w

  -- what isn't empty is shown by a word that owns
  pub shown : (c : Content) (p : List Step) (w : Word) → (Empty ≡ w → ⊥) → word_in table c p ≡ w → Shown c p w
  shown c p w other e = elim (bool_cases (is_leaf table c.of p)) [
    | inr isnt ↦ absurd (other (sym (word_no c p isnt) ∙ e))
    | inl holds ↦ elim (bool_cases c.owns) [
      | inr isnt ↦ absurd (other (sym (word_dead c p isnt) ∙ e))
      | inl own ↦ record { owns = own; leaf = holds; slot = sym (word_yes c p own holds) ∙ e }
    ]
  ]

  pub empty_hand : (p : List Step) → word_in table (in_hand no_value) p ≡ Empty
  empty_hand p = elim (bool_cases (is_leaf table (in_hand no_value).of p)) [
    | inr isnt ↦ word_no (in_hand no_value) p isnt
    | inl holds ↦ word_yes (in_hand no_value) p refl holds
        ∙ ap owner_word (get_or_past [] (offset_in table (in_hand no_value).of p) no_slot (omega arith))
  ]

  -- the word of a part of a location
  pub word_part : (at : Loc → Content) (l : Loc) (p : List Step)
      → word_in table (at (trunk (part l p))) (steps_in (part l p)) ≡ word_in table (at (trunk l)) (p ++ steps_in l)
  word_part at l p = (λ j. word_in table (at (trunk_part l p j)) (steps_part l p j))

  pub word_root : (at : Loc → Content) (r : Root) (p : List Step)
      → word_in table (at (trunk (part (OfRoot r) p))) (steps_in (part (OfRoot r) p)) ≡ word_in table (at (OfRoot r)) p
  word_root at r p = word_part at (OfRoot r) p ∙ ap (word_in table (at (OfRoot r))) (append-nil p)

-- ---- other slots at a place

module _ (table : Table) (settled : IsSettled table) where
  put_word : (c d : Content) (at : ℕ) (slots : List Slot) → Put c d at slots → (p : List Step)
      → word_in table d p ≡ (if c.owns && is_leaf table c.of p then owner_word (get_or d.slots (offset_in table c.of p) no_slot) else Empty)
  put_word c d at slots put p =
      (λ j. if put.owns j && is_leaf table (put.of j) p then owner_word (get_or d.slots (offset_in table (put.of j) p) no_slot) else Empty)

  pub put_outside : (c d : Content) (q : List Step) (slots : List Slot) → Put c d (offset_in table c.of q) slots → has_part table c.of q ≡ true
      → length slots ≡ words table (type_in table c.of q) → (p : List Step) → ((r : List Step) → p ≡ r ++ q → ⊥)
      → word_in table d p ≡ word_in table c p
  put_outside c d q slots put there long p off = put_word c d (offset_in table c.of q) slots put p ∙ by_leaf (bool_cases (is_leaf table c.of p))
    where
      by_leaf : (is_leaf table c.of p ≡ true) ⊎ (is_leaf table c.of p ≡ false)
          → (if c.owns && is_leaf table c.of p then owner_word (get_or d.slots (offset_in table c.of p) no_slot) else Empty) ≡ word_in table c p
      by_leaf (inl holds) =
          let out = leaf_outside table settled c.of p q holds there off in
          let same : get_or d.slots (offset_in table c.of p) no_slot ≡ get_or c.slots (offset_in table c.of p) no_slot =
          put.outside (offset_in table c.of p) (by_either out (λ lt. (inl lt)) (λ le. (inr (omega (arith, le, long))))) in
          ap (λ s. if c.owns && is_leaf table c.of p then owner_word s else Empty) same
      by_leaf (inr isnt) =
          word_no table (record { of = c.of; slots = d.slots; owns = c.owns }) p isnt ∙ sym (word_no table c p isnt)

  -- a word that owns stands within its type
  pub leaf_below : (u : ℕ) (p : List Step) → is_leaf table u p ≡ true → offset_in table u p < words table u
  leaf_below u p holds =
      let one = leaf_words table settled u p holds in
      let has : has_part table u (p ++ []) ≡ true = ap (has_part table u) (append-nil p) ∙ leaf_part table settled u p holds in
      let in_ = (all_within table settled u p [] has).stop in
      let same : offset_in table u (p ++ []) ≡ offset_in table u p = ap (offset_in table u) (append-nil p) in
      let type : words table (type_in table u (p ++ [])) ≡ words table (type_in table u p) = ap (λ z. words table (type_in table u z)) (append-nil p) in
      omega (arith, one, in_, same, type)

  pub put_inside : (c d : Content) (q : List Step) (slots : List Slot) → Put c d (offset_in table c.of q) slots → has_part table c.of q ≡ true
      → length slots ≡ words table (type_in table c.of q) → c.owns ≡ true → (p : List Step)
      → is_leaf table (type_in table c.of q) p ≡ true
      → word_in table d (p ++ q) ≡ owner_word (get_or slots (offset_in table (type_in table c.of q) p) no_slot)
  put_inside c d q slots put there long own p holds =
      let leaf : is_leaf table d.of (p ++ q) ≡ true = ap (λ t. is_leaf table t (p ++ q)) put.of ∙ leaf_join table c.of q p there ∙ holds in
      let below = leaf_below (type_in table c.of q) p holds in
      word_yes table d (p ++ q) (put.owns ∙ own) leaf
      ∙ ap (λ t. owner_word (get_or d.slots (offset_in table t (p ++ q)) no_slot)) put.of
      ∙ ap (λ o. owner_word (get_or d.slots o no_slot)) (offset_join table c.of q p)
      ∙ ap owner_word (put.inside (offset_in table (type_in table c.of q) p) (omega (arith, below, long)))

  pub put_nothing : (c d : Content) (q : List Step) (slots : List Slot) → Put c d (offset_in table c.of q) slots → has_part table c.of q ≡ true
      → (p : List Step) → is_leaf table (type_in table c.of q) p ≡ false → word_in table d (p ++ q) ≡ Empty
  put_nothing c d q slots put there p isnt =
      word_no table d (p ++ q) (ap (λ t. is_leaf table t (p ++ q)) put.of ∙ leaf_join table c.of q p there ∙ isnt)

  -- ---- a value goes from a hand to a place

  length_fresh : (ws : List machine.Word) → length (fresh ws) ≡ length ws
  length_fresh [] = refl
  length_fresh (w ∷ ws) = ap suc (length_fresh ws)

  pub stored_step : (a b : Loc → Content) (h : ℕ) (v : Waiting) (to : Loc) (count : ℕ) (dead : ℕ → Bool) (leaks leaks' : List Leak)
      → Stores table a b h v to → Checks table (a (trunk to)) (steps_in to) leaks leaks'
      → IsMove (seen_of table a count dead leaks) (seen_of table b count dead leaks') (hand h) to
  stored_step a b h v to count dead leaks leaks' g k = record {
    made = refl;
    freed = λ n. refl;
    off = off;
    comes = λ p. comes p (bool_cases (is_leaf table (type_in table (a (trunk to)).of (steps_in to)) p));
    goes = λ p n e. (let none : Empty ≡ Held n = sym (empty_hand table p) ∙ ap (λ c. word_in table c p) (sym g.behind) ∙ sym (word_root table b (OfHand h) p) ∙ e in absurd (false≢true (ap is_held_word none)));
    keeps = k.keeps;
    checks = λ p n e. k.checks p n (sym (word_part table a to p) ∙ e);
    only = λ n e. elim (k.only n e) [ inl old ↦ inl old | inr x ↦ inr (x.0, word_part table a to x.0 ∙ x.1) ];
  }
    where
      long : length (fresh v.words) ≡ words table (type_in table (a (trunk to)).of (steps_in to))
      long = length_fresh v.words ∙ g.fits

      off : (l : Loc) → (Below to l → ⊥) → (Below (hand h) l → ⊥)
          → word_in table (b (trunk l)) (steps_in l) ≡ word_in table (a (trunk l)) (steps_in l)
      off l nto nfrom = elim (same_loc (trunk l) (trunk to)) [
        | inl e ↦ ap (λ z. word_in table (b z) (steps_in l)) e
            ∙ put_outside (a (trunk to)) (b (trunk to)) (steps_in to) (fresh v.words) g.put g.there long (steps_in l)
            (λ r is. nto (r, below_from to l r e is))
            ∙ sym (ap (λ z. word_in table (a z) (steps_in l)) e)
        | inr ne ↦ elim (same_loc (trunk l) (hand h)) [
          | inl e ↦ absurd (nfrom (below_root (OfHand h) l e))
          | inr other ↦ ap (λ c. word_in table c (steps_in l)) (g.other (trunk l) (trunk_trunk l) ne other)
        ]
      ]

      comes : (p : List Step) → (is_leaf table (type_in table (a (trunk to)).of (steps_in to)) p ≡ true)
          ⊎ (is_leaf table (type_in table (a (trunk to)).of (steps_in to)) p ≡ false)
          → word_in table (b (trunk (part to p))) (steps_in (part to p)) ≡ word_in table (a (trunk (part (hand h) p))) (steps_in (part (hand h) p))
      comes p (inl holds) =
          let mine : is_leaf table v.of p ≡ true = g.alike.leaf p ∙ holds in
          word_part table b to p
          ∙ put_inside (a (trunk to)) (b (trunk to)) (steps_in to) (fresh v.words) g.put g.there long g.owns p holds
          ∙ ap (λ o. owner_word (get_or (fresh v.words) o no_slot)) (sym (g.alike.at p mine))
          ∙ sym (word_yes table (in_hand v) p refl mine)
          ∙ ap (λ c. word_in table c p) (sym g.before)
          ∙ sym (word_root table a (OfHand h) p)
      comes p (inr isnt) =
          let mine : is_leaf table v.of p ≡ false = g.alike.leaf p ∙ isnt in
          word_part table b to p
          ∙ put_nothing (a (trunk to)) (b (trunk to)) (steps_in to) (fresh v.words) g.put g.there p isnt
          ∙ sym (word_no table (in_hand v) p mine)
          ∙ ap (λ c. word_in table c p) (sym g.before)
          ∙ sym (word_root table a (OfHand h) p)

  -- a hand that is left empty shows nothing gone
  pub stored_whole : (a b : Loc → Content) (h : ℕ) (v : Waiting) (to : Loc) (count : ℕ) (dead : ℕ → Bool) (leaks : List Leak) → Stores table a b h v to
      → (p : List Step) → (seen_of table b count dead leaks).word (part (hand h) p) ≡ Gone → ⊥
  stored_whole a b h v to count dead leaks g p e =
      let none : Empty ≡ Gone = sym (empty_hand table p) ∙ ap (λ c. word_in table c p) (sym g.behind) ∙ sym (word_root table b (OfHand h) p) ∙ e in absurd (false≢true (ap is_gone_word none))

  -- ---- what a place has goes to a hand

  pub taken_step : (a b : Loc → Content) (h : ℕ) (v : Waiting) (from : Loc) (count : ℕ) (dead : ℕ → Bool) (leaks : List Leak)
      → Takes table a b h v from → IsMove (seen_of table a count dead leaks) (seen_of table b count dead leaks) from (hand h)
  taken_step a b h v from count dead leaks g = record {
    made = refl;
    freed = λ n. refl;
    off = off;
    comes = λ p. comes p (bool_cases (is_leaf table (type_in table (a (trunk from)).of (steps_in from)) p));
    goes = λ p n e. goes p n (sym (word_part table b from p) ∙ e);
    keeps = λ n e. e;
    checks = λ p n e. (let none : Empty ≡ Held n = sym (empty_hand table p) ∙ ap (λ c. word_in table c p) (sym g.before) ∙ sym (word_root table a (OfHand h) p) ∙ e in absurd (false≢true (ap is_held_word none)));
    only = λ n e. inl e;
  }
    where
      off : (l : Loc) → (Below (hand h) l → ⊥) → (Below from l → ⊥)
          → word_in table (b (trunk l)) (steps_in l) ≡ word_in table (a (trunk l)) (steps_in l)
      off l nto nfrom = elim (same_loc (trunk l) (trunk from)) [
        | inl e ↦ ap (λ z. word_in table (b z) (steps_in l)) e
            ∙ left (steps_in l) (λ r is. nfrom (r, below_from from l r e is)) (bool_cases (is_leaf table (a (trunk from)).of (steps_in l)))
            ∙ sym (ap (λ z. word_in table (a z) (steps_in l)) e)
        | inr ne ↦ elim (same_loc (trunk l) (hand h)) [
          | inl e ↦ absurd (nto (below_root (OfHand h) l e))
          | inr other ↦ ap (λ c. word_in table c (steps_in l)) (g.other (trunk l) (trunk_trunk l) ne other)
        ]
      ]
        where
          left : (p : List Step) → ((r : List Step) → p ≡ r ++ steps_in from → ⊥)
              → (is_leaf table (a (trunk from)).of p ≡ true) ⊎ (is_leaf table (a (trunk from)).of p ≡ false)
              → word_in table (b (trunk from)) p ≡ word_in table (a (trunk from)) p
          left p outside (inl holds) =
              word_yes table (b (trunk from)) p (g.owns ∙ g.live) (ap (λ t. is_leaf table t p) g.of ∙ holds)
              ∙ ap (λ t. owner_word (get_or (b (trunk from)).slots (offset_in table t p) no_slot)) g.of
              ∙ ap owner_word (g.outside p holds outside)
              ∙ sym (word_yes table (a (trunk from)) p g.live holds)
          left p outside (inr isnt) =
              word_no table (b (trunk from)) p (ap (λ t. is_leaf table t p) g.of ∙ isnt) ∙ sym (word_no table (a (trunk from)) p isnt)

      goes : (p : List Step) (n : ℕ) → word_in table (b (trunk from)) (p ++ steps_in from) ≡ Held n → ⊥
      goes p n e =
          let s = shown table (b (trunk from)) (p ++ steps_in from) (Held n) empty_held e in
          let leaf : is_leaf table (a (trunk from)).of (p ++ steps_in from) ≡ true = ap (λ t. is_leaf table t (p ++ steps_in from)) (sym g.of) ∙ s.leaf in
          let gone = owner_gone _ _ (g.goes p leaf) in
          let at = ap (λ t. owner_word (get_or (b (trunk from)).slots (offset_in table t (p ++ steps_in from)) no_slot)) g.of in
          let is : Held n ≡ Gone = sym s.slot ∙ at ∙ gone in absurd (false≢true (ap is_gone_word is))

      owner_kept : (w : machine.Word) (g : Bool) → g ≡ false → owner_at w false ≡ owner_at w g
      owner_kept w g e = ap (owner_at w) (sym e)

      comes : (p : List Step) → (is_leaf table (type_in table (a (trunk from)).of (steps_in from)) p ≡ true)
          ⊎ (is_leaf table (type_in table (a (trunk from)).of (steps_in from)) p ≡ false)
          → word_in table (b (trunk (part (hand h) p))) (steps_in (part (hand h) p)) ≡ word_in table (a (trunk (part from p))) (steps_in (part from p))
      comes p (inl holds) =
          let mine : is_leaf table v.of p ≡ true = g.alike.leaf p ∙ holds in
          let there : is_leaf table (a (trunk from)).of (p ++ steps_in from) ≡ true = leaf_join table (a (trunk from)).of (steps_in from) p g.there ∙ holds in
          word_root table b (OfHand h) p
          ∙ ap (λ c. word_in table c p) g.behind
          ∙ word_yes table (in_hand v) p refl mine
          ∙ ap (λ o. owner_word (get_or (fresh v.words) o no_slot)) (g.alike.at p mine)
          ∙ ap owner_word (g.comes p there)
          ∙ owner_kept _ _ (g.was p there)
          ∙ sym (word_yes table (a (trunk from)) (p ++ steps_in from) g.live there)
          ∙ sym (word_part table a from p)
      comes p (inr isnt) =
          let mine : is_leaf table v.of p ≡ false = g.alike.leaf p ∙ isnt in
          let there : is_leaf table (a (trunk from)).of (p ++ steps_in from) ≡ false = leaf_join table (a (trunk from)).of (steps_in from) p g.there ∙ isnt in
          word_root table b (OfHand h) p
          ∙ ap (λ c. word_in table c p) g.behind
          ∙ word_no table (in_hand v) p mine
          ∙ sym (word_no table (a (trunk from)) (p ++ steps_in from) there)
          ∙ sym (word_part table a from p)

  -- what is gone then is an access part of the type
  pub taken_marks : (a b : Loc → Content) (h : ℕ) (v : Waiting) (from : Loc) (count : ℕ) (dead : ℕ → Bool) (leaks : List Leak)
      → Takes table a b h v from → (p : List Step) → (seen_of table b count dead leaks).word (part from p) ≡ Gone
      → is_leaf table (type_in table (a (trunk from)).of (steps_in from)) p ≡ true
  taken_marks a b h v from count dead leaks g p e =
      let s = shown table (b (trunk from)) (p ++ steps_in from) Gone empty_gone (sym (word_part table b from p) ∙ e) in
      sym (leaf_join table (a (trunk from)).of (steps_in from) p g.there) ∙ ap (λ t. is_leaf table t (p ++ steps_in from)) (sym g.of) ∙ s.leaf

-- ---- leak checks

any_append : {A : Type 0} (f : A → Bool) (xs ys : List A) → list_any f (xs ++ ys) ≡ list_any f xs || list_any f ys
any_append f [] ys = refl
any_append f (x ∷ xs) ys = ap (λ b. f x || b) (any_append f xs ys) ∙ or_again (f x) (list_any f xs) (list_any f ys)
  where
    or_again : (a b c : Bool) → a || (b || c) ≡ (a || b) || c
    or_again true b c = refl
    or_again false b c = refl

any_has : {A : Type 0} (f : A → Bool) (xs : List A) (x : A) → Has xs x → f x ≡ true → list_any f xs ≡ true
any_has f [] x h e = absurd h
any_has f (y ∷ xs) x (inl is) e = ap (λ b. b || list_any f xs) (ap f is ∙ e)
any_has f (y ∷ xs) x (inr h) e = ap (λ b. f y || b) (any_has f xs x h e) ∙ or_true (f y)
  where
    or_true : (b : Bool) → b || true ≡ true
    or_true true = refl
    or_true false = refl

pub any_from : {A : Type 0} (f : A → Bool) (xs : List A) → list_any f xs ≡ true → (x : A) × Has xs x × (f x ≡ true)
any_from f [] e = absurd (false≢true e)
any_from f (y ∷ xs) e = elim (bool_cases (f y)) [
  | inl holds ↦ (y, inl refl, holds)
  | inr isnt ↦ (let found = any_from f xs (sym (ap (λ b. b || list_any f xs) isnt) ∙ e) in (found.0, inr found.1, found.2))
]

or_left : (a b : Bool) → a ≡ true → a || b ≡ true
or_left true b e = refl
or_left false b e = absurd (false≢true e)

or_right : (a b : Bool) → b ≡ true → a || b ≡ true
or_right true b e = refl
or_right false b e = e

or_either : (a b : Bool) → a || b ≡ true → (a ≡ true) ⊎ (b ≡ true)
or_either true b e = inl refl
or_either false b e = inr e

failed_has : (pos : Pos) (w : machine.Word) (g : Bool) (n : ℕ) → w ≡ machine.Cell n → g ≡ false → Has (failed_at pos w g) (record { number = n; pos = pos })
failed_has pos w g n is whole = subst (λ x. Has (failed_at pos x g) (record { number = n; pos = pos })) (sym is)
    (subst (λ x. Has (failed_at pos (machine.Cell n) x) (record { number = n; pos = pos })) (sym whole) (inl refl))

failed_from : (pos : Pos) (w : machine.Word) (g : Bool) (leak : Leak) → Has (failed_at pos w g) leak → (w ≡ machine.Cell leak.number) × (g ≡ false)
failed_from pos (machine.Cell k) false leak (inl e) = (ap machine.Cell (ap (λ (l : Leak). l.number) e), refl)
failed_from pos (machine.Cell k) false leak (inr none) = absurd none
failed_from pos (machine.Cell k) true leak h = absurd h
failed_from pos (machine.Int v) true leak h = absurd h
failed_from pos (machine.Int v) false leak h = absurd h
failed_from pos (machine.Enumerated v) true leak h = absurd h
failed_from pos (machine.Enumerated v) false leak h = absurd h
failed_from pos machine.Null true leak h = absurd h
failed_from pos machine.Null false leak h = absurd h

-- the leak checks of a place that fail
abbrev failing : Table → Content → List Step → ℕ → Pos → List Leak
failing table c q t pos = checked_at pos (offset_in table c.of q) c.slots (access_offsets table t)

-- all checks of a place together
pub all_checks : (s : Typing) (p : Pos) (m : Memory) (k : Place) → flat_map (λ (leaks : List Leak). leaks) (checks_at s p m k) ≡ leaks_at s p m k
all_checks s p m k = by_part (parts s.table k.of)
  where
    by_part : (qs : List (List Sel)) → flat_map (λ (leaks : List Leak). leaks) (map (λ q. checked_at p k.at (slots_at s m k.base) (offsets s.table k.of q)) qs)
        ≡ checked_at p k.at (slots_at s m k.base) (flat_map (offsets s.table k.of) qs)
    by_part [] = refl
    by_part (q ∷ qs) =
        ap (λ z. checked_at p k.at (slots_at s m k.base) (offsets s.table k.of q) ++ z) (by_part qs)
        ∙ sym (flat_map-append (λ o. failed p (get_or (slots_at s m k.base) (k.at + o) no_slot)) (offsets s.table k.of q) (flat_map (offsets s.table k.of) qs))

module _ (table : Table) (settled : IsSettled table) where
  -- the leak checks of a place, by a type that is alike
  pub checks_made : (c : Content) (q : List Step) (t : ℕ) (pos : Pos) (leaks : List Leak) → has_part table c.of q ≡ true → c.owns ≡ true
      → Alike table t (type_in table c.of q)
      → Checks table c q leaks (leaks ++ checked_at pos (offset_in table c.of q) c.slots (access_offsets table t))
  checks_made c q t pos leaks there own alike = record {
    keeps = λ n e. any_append (λ (leak : Leak). leak.number == n) leaks (failing table c q t pos) ∙ or_left _ (is_leaked (failing table c q t pos) n) e;
    checks = λ p n e. any_append (λ (leak : Leak). leak.number == n) leaks (failing table c q t pos) ∙ or_right (is_leaked leaks n) _ (found p n e);
    only = λ n e. elim (or_either (is_leaked leaks n) (is_leaked (failing table c q t pos) n) (sym (any_append (λ (leak : Leak). leak.number == n) leaks (failing table c q t pos)) ∙ e)) [
      | inl old ↦ inl old
      | inr new ↦ inr (from n (any_from (λ (leak : Leak). leak.number == n) (failing table c q t pos) new))
    ];
  }
    where
      found : (p : List Step) (n : ℕ) → word_in table c (p ++ q) ≡ Held n → is_leaked (failing table c q t pos) n ≡ true
      found p n e =
          let s = shown table c (p ++ q) (Held n) empty_held e in
          let here : is_leaf table (type_in table c.of q) p ≡ true = sym (leaf_join table c.of q p there) ∙ s.leaf in
          let mine : is_leaf table t p ≡ true = alike.leaf p ∙ here in
          let at : offset_in table c.of (p ++ q) ≡ offset_in table c.of q + offset_in table t p =
          offset_join table c.of q p ∙ ap (λ o. offset_in table c.of q + o) (sym (alike.at p mine)) in
          let is = owner_held _ _ n (sym (ap (λ o. owner_word (get_or c.slots o no_slot)) at) ∙ s.slot) in
          any_has (λ (leak : Leak). leak.number == n) (failing table c q t pos) (record { number = n; pos = pos })
          (Has-flat (λ o. failed pos (get_or c.slots (offset_in table c.of q + o) no_slot)) (access_offsets table t) (offset_in table t p)
          (record { number = n; pos = pos }) (leaf_at table settled t p mine) (failed_has pos _ _ n is.0 is.1))
          (eq-eqb n n refl)

      from : (n : ℕ) → (leak : Leak) × Has (failing table c q t pos) leak × ((leak.number == n) ≡ true) → (p : List Step) × (word_in table c (p ++ q) ≡ Held n)
      from n (leak, has, is) =
          let x = Has-flat_from (λ o. failed pos (get_or c.slots (offset_in table c.of q + o) no_slot)) (access_offsets table t) leak has in
          let slot = failed_from pos _ _ leak x.2 in
          let leaf = leaf_from table settled t x.0 x.1 in
          let here : is_leaf table (type_in table c.of q) leaf.0 ≡ true = sym (alike.leaf leaf.0) ∙ leaf.1 in
          let there : is_leaf table c.of (leaf.0 ++ q) ≡ true = leaf_join table c.of q leaf.0 there ∙ here in
          let at : offset_in table c.of (leaf.0 ++ q) ≡ offset_in table c.of q + x.0 =
          offset_join table c.of q leaf.0 ∙ ap (λ o. offset_in table c.of q + o) (sym (alike.at leaf.0 leaf.1) ∙ leaf.2) in
          let number : leak.number ≡ n = eqb-true leak.number n is in (
            leaf.0,
            word_yes table c (leaf.0 ++ q) own there
                ∙ ap (λ o. owner_word (get_or c.slots o no_slot)) at
                ∙ (λ j. owner_at (slot.0 j) (slot.1 j))
                ∙ ap Held number,
          )
