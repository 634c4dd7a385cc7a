-- Which variables own cells after a change of memory: those that did before, and those that are
-- stored at.
use Rattle.std.proofs.Common.{◌≡◌, refl, sym, ap, ◌∙◌, subst, ◌⊎◌, inl, inr, ℕ, ◌+◌, Bool, true, false, not, ◌||◌, ◌==◌, eqb-true, List, [], ◌∷◌, ◌++◌, take, drop, length, get_or, if◌then◌else◌}
use Rattle.std.proofs.lemmas.Bool.{true≢false, false≢true}
use Rattle.machine.specs.flow_paths.Objects.{Typing, object_at, designated}
use Rattle.machine.specs.flow_paths.Scopes.{is_within, is_last}
use Rattle.machine.specs.Words as machine
use Rattle.machine.specs.Memory.{Slot, Memory, Base, OfVariable, OfCell, Place, fresh, no_slot, variable_slots, slots_at, cell, words_of, put, stored, declared, undeclared, freed}
use Rattle.machine.specs.Evaluate.{Now, Evaluated, Done, Raises, Traps, followed_by, walked, designated_place, cell_place, component_place, element_place, Touched}
use Rattle.machine.specs.Evaluate as run
use Rattle.machine.specs.Owners.{owned}
use Rattle.soundness.specs.OwnedWays.Ways.{Step, OfRoot, Word, Empty, Held}
use Rattle.soundness.specs.OwnedWays.Ways as ways
use Rattle.soundness.proofs.OwnedWays.Locations.{same_loc}
use Rattle.soundness.specs.PartOffsets.Parts.{offset_in, is_leaf}
use Rattle.soundness.specs.Seen.{Content, content, word_in, owner_word, is_view_formal}
use Rattle.soundness.specs.Sound.{HoldOnly}
use Rattle.soundness.proofs.Contents.{bool_cases, owner_held, word_yes, shown}
use Rattle.soundness.proofs.Memories.{put_other, removed_other}
use Rattle.soundness.proofs.Fading.{Fainter, Fades}
use Rattle.soundness.proofs.Parted.{loc_frames, loc_objects, empty_held, by_either}

abbrev pub NoVariable : ℕ → ℕ → Type 0
NoVariable f x = ⊥

module _ (s : Typing) where
  -- What owns a cell in a variable now did so before, or the variable is one of these.
  abbrev pub OnlyAt : (ℕ → ℕ → Type 0) → Memory → Memory → Type 0
  OnlyAt these m n =
      (f x o c : ℕ) → get_or (variable_slots s f x n.variables) o no_slot ≡ owned c
      → (get_or (variable_slots s f x m.variables) o no_slot ≡ owned c) ⊎ these f x

  pub only_same : (these : ℕ → ℕ → Type 0) (m : Memory) → OnlyAt these m m
  only_same these m f x o c e = inl e

  -- one change after another
  pub only_then : (these : ℕ → ℕ → Type 0) (a b c : Memory) → OnlyAt NoVariable a b → OnlyAt these b c → OnlyAt these a c
  only_then these a b c first then_on f x o k e = elim (then_on f x o k e) [
    | inr one ↦ inr one
    | inl before ↦ elim (first f x o k before) [ inl old ↦ inl old | inr none ↦ absurd none ]
  ]

  -- evaluations store nothing in variables
  pub only_fades : (m n : Memory) → Fades s m n → OnlyAt NoVariable m n
  only_fades m n fades f x o c e = inl (before (fades f x o))
    where
      old : Slot
      old = get_or (variable_slots s f x m.variables) o no_slot

      was_there : (x : Slot) → x.word ≡ machine.Cell c → x.gone ≡ false → x ≡ owned c
      was_there x a b = (λ j. record { word = a j; gone = b j })

      before : Fainter old (get_or (variable_slots s f x n.variables) o no_slot) → old ≡ owned c
      before faint = by_either (bool_cases old.gone)
          (λ gone. (let yes : true ≡ false = sym (faint.gone gone) ∙ ap (λ (z : Slot). z.gone) e in absurd (true≢false yes)))
          (λ whole. (was_there old (sym faint.word ∙ ap (λ (z : Slot). z.word) e) whole))

  -- a store at a place changes the variable of the place alone
  pub only_put : (b : Base) (slots : List Slot) (m : Memory) → OnlyAt (λ f x. b ≡ OfVariable f x) m (put b slots m)
  only_put (OfCell k) slots m f x o c e = inl e
  only_put (OfVariable g y) slots m f x o c e = by_either (same_loc (OfRoot (ways.OfVariable g y)) (OfRoot (ways.OfVariable f x)))
      (λ same. (let frames : g ≡ f = loc_frames same in let objects : y ≡ x = loc_objects same in inr (λ j. OfVariable (frames j) (objects j))))
      (λ ne. (inl (ap (λ z. get_or z o no_slot) (sym (put_other s g y f x (λ a. ne (ap OfRoot a)) slots m.variables)) ∙ e)))

  pub only_stored : (k : Place) (ws : List machine.Word) (m : Memory) → OnlyAt (λ f x. k.base ≡ OfVariable f x) m (stored s k ws m)
  only_stored k ws m =
      only_put k.base (take k.at (slots_at s m k.base) ++ fresh ws ++ drop (k.at + length (fresh ws)) (slots_at s m k.base)) m

  -- and so does a declaration
  pub only_declared : (g y : ℕ) (ws : List machine.Word) (m : Memory) → OnlyAt (λ f x. OfVariable g y ≡ OfVariable f x) m (declared g y ws m)
  only_declared g y ws m = only_put (OfVariable g y) (fresh ws) m

  -- a cell that is freed is in no variable
  pub only_freed : (n : ℕ) (m : Memory) → OnlyAt NoVariable m (freed n m)
  only_freed n m f x o c e = inl e

  -- ---- what this says of scopes

  owned_held : (c : Content) (p : List Step) (n : ℕ) → c.owns ≡ true → is_leaf s.table c.of p ≡ true
      → get_or c.slots (offset_in s.table c.of p) no_slot ≡ owned n → word_in s.table c p ≡ Held n
  owned_held c p n owns leaf slot = word_yes s.table c p owns leaf ∙ ap owner_word slot

  held_slot : (x : Slot) (n : ℕ) → owner_word x ≡ Held n → x ≡ owned n
  held_slot x n e = let is = owner_held x.word x.gone n e in (λ j. record { word = is.0 j; gone = is.1 j })

  -- a number in a variable after a change was there before, or the variable is one of these
  pub held_before : (these : ℕ → ℕ → Type 0) (m n : Memory) → OnlyAt these m n → (f x : ℕ) (p : List Step) (c : ℕ)
      → word_in s.table (content s n [] (OfRoot (ways.OfVariable f x))) p ≡ Held c
      → (word_in s.table (content s m [] (OfRoot (ways.OfVariable f x))) p ≡ Held c) ⊎ these f x
  held_before these m n only f x p c held =
      let shows = shown s.table (content s n [] (OfRoot (ways.OfVariable f x))) p (Held c) empty_held held in
      elim (only f x (offset_in s.table (object_at s x).of p) c (held_slot _ c shows.slot)) [
        | inl before ↦ inl (owned_held (content s m [] (OfRoot (ways.OfVariable f x))) p c shows.owns shows.leaf before)
        | inr one ↦ inr one
      ]

  -- A variable of an older frame, or one that is in scope.
  abbrev pub MayHold : (ℕ → ℕ → Type 0) → ℕ → List ℕ → ℕ → ℕ → Type 0
  MayHold older depth scope f x = older f x ⊎ ((f ≡ depth) × (is_within x scope ≡ true))

  abbrev pub Inside : (ℕ → ℕ → Type 0) → Memory → ℕ → List ℕ → Type 0
  Inside older m depth scope = HoldOnly s m (MayHold older depth scope)

  pub scope_kept : (older these : ℕ → ℕ → Type 0) (m n : Memory) (depth : ℕ) (scope scope' : List ℕ) → OnlyAt these m n → Inside older m depth scope
      → ((x : ℕ) → is_within x scope ≡ true → is_within x scope' ≡ true) → ((f x : ℕ) → these f x → MayHold older depth scope' f x)
      → Inside older n depth scope'
  scope_kept older these m n depth scope scope' only within more stored f x p c held = elim (held_before these m n only f x p c held) [
    | inr one ↦ stored f x one
    | inl before ↦ elim (within f x p c before) [ inl earlier ↦ inl earlier | inr mine ↦ inr (mine.0, more x mine.1) ]
  ]

  -- the object whose scope ends owns nothing then
  ended_blank : (depth x : ℕ) (m : Memory) → (p : List Step) (n : ℕ)
      → (word_in s.table (content s (undeclared depth x m) [] (OfRoot (ways.OfVariable depth x))) p ≡ Empty)
      → word_in s.table (content s (undeclared depth x m) [] (OfRoot (ways.OfVariable depth x))) p ≡ Held n → ⊥
  ended_blank depth x m p n blank held = empty_held (sym blank ∙ held)

  last_out : (x y : ℕ) (scope : List ℕ) → is_last x scope ≡ true → is_within y scope ≡ true → (y ≡ x → ⊥) → is_within y (drop 1 scope) ≡ true
  last_out x y [] last within ne = absurd (false≢true last)
  last_out x y (z ∷ rest) last within ne = elim (bool_cases (y == z)) [
    | inl e ↦ absurd (ne (eqb-true y z e ∙ sym (eqb-true x z last)))
    | inr e ↦ drop_one rest (sym (ap (λ b. b || is_within y rest) e) ∙ within)
  ]
    where
      drop_one : (rest : List ℕ) → is_within y rest ≡ true → is_within y (drop 0 rest) ≡ true
      drop_one [] w = w
      drop_one (a ∷ rest) w = w

  pub scope_ends : (older : ℕ → ℕ → Type 0) (m : Memory) (depth x : ℕ) (scope : List ℕ) → Inside older m depth scope → is_last x scope ≡ true
      → ((p : List Step) → word_in s.table (content s (undeclared depth x m) [] (OfRoot (ways.OfVariable depth x))) p ≡ Empty)
      → Inside older (undeclared depth x m) depth (drop 1 scope)
  scope_ends older m depth x scope within last blank f y p n held = elim (same_loc (OfRoot (ways.OfVariable depth x)) (OfRoot (ways.OfVariable f y))) [
    | inl same ↦ (
        let frames : depth ≡ f = loc_frames same in let objects : x ≡ y = loc_objects same in
        absurd (ended_blank depth x m p n (blank p)
        (subst (λ z. word_in s.table (content s (undeclared depth x m) [] (OfRoot (ways.OfVariable z x))) p ≡ Held n) (sym frames)
        (subst (λ z. word_in s.table (content s (undeclared depth x m) [] (OfRoot (ways.OfVariable f z))) p ≡ Held n) (sym objects) held))))
    | inr ne ↦ elim (within f y p n
        (ap (λ z. word_in s.table (record { of = (object_at s y).of; slots = z; owns = not (is_view_formal s y) }) p)
        (sym (removed_other s depth x f y (λ e. ne (ap OfRoot e)) m.variables)) ∙ held)) [
          | inl earlier ↦ inl earlier
          | inr mine ↦ inr (mine.0, last_out x y scope last mine.1 (λ e. ne (let frame = mine.0 in (λ j. OfRoot (ways.OfVariable (sym frame j) (sym e j))))))
        ]
  ]

-- ---- where names lead

-- A place is in this variable, or in a cell.
abbrev pub IsFrom : Base → Place → Type 0
IsFrom b k = (k.base ≡ b) ⊎ ((c : ℕ) × (k.base ≡ OfCell c))

abbrev pub LeadsFrom : Base → Memory → Evaluated Place → Type 0
LeadsFrom b m (Done k n) = IsFrom b k × (n.memory ≡ m)
LeadsFrom b m (Raises e n) = Unit {0}
LeadsFrom b m (Traps e n) = Unit {0}

module _ (s : Typing) (b : Base) where
  then_walked : (t : ℕ) (ws : List machine.Word) (n : Now) (next : Place → Now → Evaluated Place)
      → ((c : ℕ) → LeadsFrom b n.memory (next (cell_place t c) n)) → LeadsFrom b n.memory (followed_by (designated_place t ws n) next)
  then_walked t (machine.Cell c ∷ []) n next on = by_test (cell n.memory c).freed
    where
      by_test : (d : Bool) → LeadsFrom b n.memory (followed_by (if d then Traps Touched n else Done (cell_place t c) n) next)
      by_test true = tt
      by_test false = on c
  then_walked t [] n next on = tt
  then_walked t (machine.Cell c ∷ (w ∷ ws)) n next on = tt
  then_walked t (machine.Int c ∷ ws) n next on = tt
  then_walked t (machine.Enumerated c ∷ ws) n next on = tt
  then_walked t (machine.Null ∷ ws) n next on = tt

  pub walked_from : (way : List run.Step) (k : Place) (n : Now) → IsFrom b k → LeadsFrom b n.memory (walked s way k n)
  walked_from [] k n from = (from, refl)
  walked_from (run.ToComponent i ∷ way) k n from = walked_from way (component_place s.table i k) n from
  walked_from (run.ToElement i ∷ way) k n from = walked_from way (element_place s.table i k) n from
  walked_from (run.ToDesignated ∷ way) k n from =
      then_walked (designated s.table k.of) (words_of s n.memory k) n (walked s way)
      (λ c. walked_from way (cell_place (designated s.table k.of) c) n (inr (c, refl)))
