-- Only words that own are ever gone.
use Rattle.std.proofs.Common.{◌≡◌, refl, sym, ap, ◌∙◌, subst, ◌⊎◌, inl, inr, ℕ, zero, suc, ◌+◌, Bool, true, false, not, cond, ◌&&◌, ◌==◌, eqb-true, List, [], ◌∷◌, ◌++◌, filter, take, drop, length, get_or, arith, if◌then◌else◌}
use Rattle.std.proofs.lemmas.Bool.{false≢true, true≢false}
use Rattle.machine.specs.type_definitions.Types.{Table}
use Rattle.machine.specs.flow_paths.Objects.{Typing, object_at}
use Rattle.machine.specs.Words.{Word, default}
use Rattle.machine.specs.Memory.{Slot, Variable, HeapCell, Memory, Base, Place, OfVariable, OfCell, fresh, is_variable, variable_slots, no_cell, slots_at, no_slot, with_variable, at_number, put, stored, declared, undeclared, without_frame, with_new_cell, as_freed, freed}
use Rattle.soundness.specs.OwnedWays.Ways.{Step, Loc, OfRoot}
use Rattle.soundness.specs.OwnedWays.Ways as ways
use Rattle.soundness.proofs.OwnedWays.Locations.{same_loc}
use Rattle.soundness.specs.PartOffsets.Parts.{offset_in, is_leaf}
use Rattle.soundness.specs.Seen.{Content, content, is_view_formal}
use Rattle.soundness.specs.Typed.{loc_of}
use Rattle.soundness.proofs.Memories.{put_same, put_other, removed_same, removed_other}
use Rattle.recycled_runs.proofs.ViewedFacts.NullPlaces.Memories.{NoneGone}
use Rattle.soundness.proofs.Parted.{by_either}

abbrev pub IsGone : List Slot → ℕ → Type 0
IsGone xs o = (get_or xs o no_slot).gone ≡ true

-- Each word of a content that is gone is one that owns.
abbrev pub OwnersGone : Table → Content → Type 0
OwnersGone table c = (o : ℕ) → IsGone c.slots o → (p : List Step) × (is_leaf table c.of p ≡ true) × (offset_in table c.of p ≡ o)

-- So it is of all that there is, and nothing is gone of a formal that owns nothing.
abbrev pub OnlyOwners : Typing → Memory → Type 0
OnlyOwners s m =
    ((b : Base) → OwnersGone s.table (content s m [] (loc_of b)))
    × ((f x o : ℕ) → IsGone (variable_slots s f x m.variables) o → is_view_formal s x ≡ false)

-- Nothing more is gone.
abbrev pub LessGone : Typing → Memory → Memory → Type 0
LessGone s m n =
    (b : Base) (o : ℕ) → IsGone (content s n [] (loc_of b)).slots o
    → IsGone (content s m [] (loc_of b)).slots o × ((content s m [] (loc_of b)).of ≡ (content s n [] (loc_of b)).of)

pub only_less : (s : Typing) (m n : Memory) → OnlyOwners s m → LessGone s m n → OnlyOwners s n
only_less s m n only less = (
  λ b o gone. (
      let was = less b o gone in
      subst (λ t. (p : List Step) × (is_leaf s.table t p ≡ true) × (offset_in s.table t p ≡ o)) was.1 (only.0 b o was.0)),
  λ f x o gone. only.1 f x o (less (OfVariable f x) o gone).0,
)

-- ---- lists

pub fresh_whole : (ws : List Word) → NoneGone (fresh ws)
fresh_whole [] i = refl
fresh_whole (w ∷ ws) zero = refl
fresh_whole (w ∷ ws) (suc i) = fresh_whole ws i

never : (ys : List Slot) (o : ℕ) → NoneGone ys → IsGone (ys ++ []) o → ⊥
never [] o none gone = cc
never (y ∷ ys) zero none gone = (let no : true ≡ false = sym gone ∙ none 0 in absurd (true≢false no))
never (y ∷ ys) (suc o) none gone = never ys o (λ i. none (suc i)) gone

-- whole slots at the front of a list
front_whole : (ys all : List Slot) (o : ℕ) → NoneGone ys → IsGone (ys ++ drop (length ys) all) o → IsGone all o
front_whole [] [] o none gone = gone
front_whole [] (x ∷ all) o none gone = gone
front_whole (y ∷ ys) all zero none gone = (let no : true ≡ false = sym gone ∙ none 0 in absurd (true≢false no))
front_whole (y ∷ ys) [] (suc o) none gone = absurd (never ys o (λ i. none (suc i)) gone)
front_whole (y ∷ ys) (x ∷ all) (suc o) none gone = front_whole ys all o (λ i. none (suc i)) gone

spliced : (at n : ℕ) (ys all : List Slot) (o : ℕ) → n ≡ at + length ys → NoneGone ys → IsGone (take at all ++ ys ++ drop n all) o → IsGone all o
spliced zero n ys [] o long none gone =
    front_whole ys [] o none (subst (λ k. IsGone (ys ++ drop k []) o) (let e : n ≡ length ys = omega (arith, long) in e) gone)
spliced zero n ys (x ∷ all) o long none gone =
    front_whole ys (x ∷ all) o none (subst (λ k. IsGone (ys ++ drop k (x ∷ all)) o) (let e : n ≡ length ys = omega (arith, long) in e) gone)
spliced (suc at) n ys [] o long none gone = front_whole ys [] o none (subst (λ z. IsGone (ys ++ z) o) (same_rest n (length ys)) gone)
  where
    no_rest : (n : ℕ) → drop {A = Slot} n [] ≡ []
    no_rest zero = refl
    no_rest (suc n) = refl

    same_rest : (n k : ℕ) → drop {A = Slot} n [] ≡ drop k []
    same_rest n k = no_rest n ∙ sym (no_rest k)
spliced (suc at) zero ys (x ∷ all) o long none gone = absurd (omega (arith, long))
spliced (suc at) (suc n) ys (x ∷ all) zero long none gone = gone
spliced (suc at) (suc n) ys (x ∷ all) (suc o) long none gone = spliced at n ys all o (omega (arith, long)) none gone

-- other slots in one cell
cell_less : (n k : ℕ) (xs : List Slot) (cs : List HeapCell) → ((o : ℕ) → IsGone xs o → IsGone (get_or cs n no_cell).slots o) → (o : ℕ)
    → IsGone (get_or (at_number n (λ (c : HeapCell). record c { slots = xs }) cs) k no_cell).slots o
    → IsGone (get_or cs k no_cell).slots o × ((get_or cs k no_cell).of ≡ (get_or (at_number n (λ (c : HeapCell). record c { slots = xs }) cs) k no_cell).of)
cell_less n k xs [] less o gone = (gone, refl)
cell_less zero zero xs (c ∷ cs) less o gone = (less o gone, refl)
cell_less zero (suc k) xs (c ∷ cs) less o gone = (gone, refl)
cell_less (suc n) zero xs (c ∷ cs) less o gone = (gone, refl)
cell_less (suc n) (suc k) xs (c ∷ cs) less o gone = cell_less n k xs cs less o gone

freed_less_at : (n k : ℕ) (cs : List HeapCell) (o : ℕ) → IsGone (get_or (at_number n as_freed cs) k no_cell).slots o
    → IsGone (get_or cs k no_cell).slots o × ((get_or cs k no_cell).of ≡ (get_or (at_number n as_freed cs) k no_cell).of)
freed_less_at n k [] o gone = (gone, refl)
freed_less_at zero zero (c ∷ cs) o gone = (gone, refl)
freed_less_at zero (suc k) (c ∷ cs) o gone = (gone, refl)
freed_less_at (suc n) zero (c ∷ cs) o gone = (gone, refl)
freed_less_at (suc n) (suc k) (c ∷ cs) o gone = freed_less_at n k cs o gone

made_less_at : (k : ℕ) (new : HeapCell) (cs : List HeapCell) → NoneGone new.slots → (o : ℕ) → IsGone (get_or (cs ++ new ∷ []) k no_cell).slots o
    → IsGone (get_or cs k no_cell).slots o × ((get_or cs k no_cell).of ≡ (get_or (cs ++ new ∷ []) k no_cell).of)
made_less_at zero new [] none o gone = (let no : true ≡ false = sym gone ∙ none o in absurd (true≢false no))
made_less_at (suc k) new [] none o gone = (gone, refl)
made_less_at zero new (c ∷ cs) none o gone = (gone, refl)
made_less_at (suc k) new (c ∷ cs) none o gone = made_less_at k new cs none o gone

-- ---- changes

module _ (s : Typing) (m : Memory) where
  abbrev there : ℕ → ℕ → Loc
  there f x = OfRoot (ways.OfVariable f x)

  parts_same : (f x g y : ℕ) → there f x ≡ there g y → (f ≡ g) × (x ≡ y)
  parts_same f x g y e = (cc, cc)

  -- slots of a variable or cell that has them gone already
  put_less : (b : Base) (xs : List Slot) → ((o : ℕ) → IsGone xs o → IsGone (slots_at s m b) o) → LessGone s m (put b xs m)
  put_less (OfVariable f x) xs less (OfCell k) o gone = (gone, refl)
  put_less (OfVariable f x) xs less (OfVariable g y) o gone = by_either (same_loc (there f x) (there g y))
      (λ e. (
      let same = parts_same f x g y e in
      let mine : variable_slots s g y (with_variable f x xs m.variables) ≡ xs =
      (λ j. variable_slots s (sym same.0 j) (sym same.1 j) (with_variable f x xs m.variables)) ∙ put_same s f x xs m.variables in
      let was : IsGone (variable_slots s f x m.variables) o = less o (subst (λ z. IsGone z o) mine gone) in
      (subst (λ z. IsGone z o) (λ j. variable_slots s (same.0 j) (same.1 j) m.variables) was, refl)))
      (λ ne. (subst (λ z. IsGone z o) (put_other s f x g y (λ e. ne (ap OfRoot e)) xs m.variables) gone, refl))
  put_less (OfCell n) xs less (OfVariable g y) o gone = (gone, refl)
  put_less (OfCell zero) xs less (OfCell k) o gone = (gone, refl)
  put_less (OfCell (suc n)) xs less (OfCell zero) o gone = (gone, refl)
  put_less (OfCell (suc n)) xs less (OfCell (suc k)) o gone = cell_less n k xs m.cells less o gone

  pub stored_only : OnlyOwners s m → (k : Place) (ws : List Word) → OnlyOwners s (stored s k ws m)
  stored_only only k ws =
      let all : List Slot = slots_at s m k.base in
      only_less s m (stored s k ws m) only
      (put_less k.base (take k.at all ++ fresh ws ++ drop (k.at + length (fresh ws)) all) (λ o gone. spliced k.at (k.at + length (fresh ws)) (fresh ws) all o refl (fresh_whole ws) gone))

  pub declared_only : OnlyOwners s m → (f x : ℕ) (ws : List Word) → OnlyOwners s (declared f x ws m)
  declared_only only f x ws =
      only_less s m (declared f x ws m) only
      (put_less (OfVariable f x) (fresh ws) (λ o gone. (let no : true ≡ false = sym gone ∙ fresh_whole ws o in absurd (true≢false no))))

  pub undeclared_only : OnlyOwners s m → (f x : ℕ) → OnlyOwners s (undeclared f x m)
  undeclared_only only f x = only_less s m (undeclared f x m) only less
    where
      less : LessGone s m (undeclared f x m)
      less (OfCell k) o gone = (gone, refl)
      less (OfVariable g y) o gone = by_either (same_loc (there f x) (there g y))
          (λ e. (
          let same = parts_same f x g y e in
          let mine : variable_slots s g y (filter (λ v. not (is_variable f x v)) m.variables) ≡ fresh (default s.table (object_at s x).of) =
          (λ j. variable_slots s (sym same.0 j) (sym same.1 j) (filter (λ v. not (is_variable f x v)) m.variables)) ∙ removed_same s f x m.variables in
          let no : true ≡ false = sym (subst (λ z. IsGone z o) mine gone) ∙ fresh_whole (default s.table (object_at s x).of) o in absurd (true≢false no)))
          (λ ne. (subst (λ z. IsGone z o) (removed_other s f x g y (λ e. ne (ap OfRoot e)) m.variables) gone, refl))

  pub freed_only : OnlyOwners s m → (n : ℕ) → OnlyOwners s (freed n m)
  freed_only only n = only_less s m (freed n m) only (less n)
    where
      less : (n : ℕ) → LessGone s m (freed n m)
      less n (OfVariable g y) o gone = (gone, refl)
      less zero (OfCell k) o gone = (gone, refl)
      less (suc n) (OfCell zero) o gone = (gone, refl)
      less (suc n) (OfCell (suc k)) o gone = freed_less_at n k m.cells o gone

  pub made_only : OnlyOwners s m → (t : ℕ) (ws : List Word) → OnlyOwners s (with_new_cell t ws m)
  made_only only t ws = only_less s m (with_new_cell t ws m) only less
    where
      less : LessGone s m (with_new_cell t ws m)
      less (OfVariable g y) o gone = (gone, refl)
      less (OfCell zero) o gone = (gone, refl)
      less (OfCell (suc k)) o gone = made_less_at k (record { of = t; slots = fresh ws; freed = false }) m.cells (fresh_whole ws) o gone

  -- ---- the variables of a frame are removed

  abbrev others : ℕ → List Variable → List Variable
  others f vs = filter (λ (v : Variable). not (v.frame == f)) vs

  -- those of other frames stay
  still : (f g y : ℕ) (vs : List Variable) (o : ℕ) → IsGone (variable_slots s g y (others f vs)) o → IsGone (variable_slots s g y vs) o ⊎ (f ≡ g)
  still f g y [] o gone = inl gone
  still f g y (v ∷ vs) o gone = by_frame (v.frame == f) refl (is_variable g y v) refl gone (λ rest. still f g y vs o rest)
    where
      by_frame : (b : Bool) → (v.frame == f) ≡ b → (c : Bool) → is_variable g y v ≡ c
          → IsGone (variable_slots s g y (cond (not b) (v ∷ others f vs) (others f vs))) o
          → (IsGone (variable_slots s g y (others f vs)) o → IsGone (variable_slots s g y vs) o ⊎ (f ≡ g))
          → IsGone (if c then v.slots else variable_slots s g y vs) o ⊎ (f ≡ g)
      by_frame true e true mine gone on = inr (sym (eqb-true v.frame f e) ∙ eqb-true v.frame g (first (v.frame == g) (v.object == y) mine))
        where
          first : (a b : Bool) → a && b ≡ true → a ≡ true
          first true b e = refl
          first false b e = absurd (false≢true e)
      by_frame true e false other gone on = on gone
      by_frame false e true mine gone on = inl (subst (λ c. IsGone (if c then v.slots else variable_slots s g y (others f vs)) o) mine gone)
      by_frame false e false other gone on = on (subst (λ c. IsGone (if c then v.slots else variable_slots s g y (others f vs)) o) other gone)

  -- and the frame has none
  none_left : (f y : ℕ) (vs : List Variable) → variable_slots s f y (others f vs) ≡ fresh (default s.table (object_at s y).of)
  none_left f y [] = refl
  none_left f y (v ∷ vs) = by_frame (v.frame == f) refl (none_left f y vs)
    where
      by_frame : (b : Bool) → (v.frame == f) ≡ b → variable_slots s f y (others f vs) ≡ fresh (default s.table (object_at s y).of)
          → variable_slots s f y (cond (not b) (v ∷ others f vs) (others f vs)) ≡ fresh (default s.table (object_at s y).of)
      by_frame true e rest = rest
      by_frame false e rest = ap (λ b. if b && (v.object == y) then v.slots else variable_slots s f y (others f vs)) e ∙ rest

  pub frame_only : OnlyOwners s m → (f : ℕ) → OnlyOwners s (without_frame f m)
  frame_only only f = only_less s m (without_frame f m) only less
    where
      less : LessGone s m (without_frame f m)
      less (OfCell k) o gone = (gone, refl)
      less (OfVariable g y) o gone = by_either (still f g y m.variables o gone)
          (λ was. (was, refl))
          (λ same. (
          let mine : variable_slots s g y (others f m.variables) ≡ fresh (default s.table (object_at s y).of) =
          ap (λ k. variable_slots s k y (others f m.variables)) (sym same) ∙ none_left f y m.variables in
          let no : true ≡ false = sym (subst (λ z. IsGone z o) mine gone) ∙ fresh_whole (default s.table (object_at s y).of) o in absurd (true≢false no)))
