-- Where the memories stand beside each other, the heap has the machine's cells.
use Rattle.std.proofs.Common.{◌≡◌, refl, sym, ap, ◌∙◌, subst, inl, inr, ℕ, zero, suc, ◌<◌, ◌-◌, arith, Bool, true, false, true≢false, nat_lt, List, [], ◌∷◌, ◌++◌, map, length, get_or, slice_get, Some, None, pos, negsuc, if◌then◌else◌}
use Rattle.std.proofs.lemmas.Bool.{false≢true}
use Rattle.std.specs.Prelude.{is_some}
use Rattle.machine.specs.type_definitions.Types.{Table}
use Rattle.kept_cells.specs.run_values.declared.value.Value.{Value}
use Rattle.kept_cells.specs.run_values.declared.value.Value.TheVariants as value
use Rattle.kept_cells.specs.run_values.declared.value.Kind.TheVariants as sort
use Rattle.kept_cells.specs.run_values.Values.{kind}
use Rattle.machine.specs.Typed.{Sort, Whole, Position, Pointer, sorts}
use Rattle.machine.specs.Memory.{Slot, HeapCell, Memory, no_slot, no_cell, cell, as_freed}
use Rattle.numbered_cells.specs.slot_heap.Heaps.{Heap, words_at}
use Rattle.numbered_cells.specs.slot_heap.Heaps as heaps
use Rattle.kept_cells.specs.Cells.{Cell}
use Rattle.numbered_cells.specs.Follows as numbered
use Rattle.numbered_cells.specs.Follows.{handled, Follows}
use Rattle.run_codes.specs.Flat.{Flat, kind_of, word_of, words_in, gone_from}
use Rattle.run_codes.specs.Related.{types, SlotStands, AllStand, AllKinds, CellStands, HaveCells}
use Rattle.recycled_runs.proofs.ViewedFacts.NullPlaces.Lists.{pair_same}
use Rattle.recycled_runs.specs.ViewedFacts.NullPlaces.Agrees.{Pairwise, AgreeSlot, AgreeSlots, AgreeCell}
use Rattle.recycled_runs.specs.RecycledCells.Cells.{handled_word, handled_slot, IsThere, IsBack, HasCells}

-- ---- lists

get_there : {A : Type 0} (xs : List A) (n : ℕ) (d : A) → n < length xs → slice_get xs n ≡ Some (get_or xs n d)
get_there [] n d less = absurd (omega (arith, less))
get_there (x ∷ xs) zero d less = refl
get_there (x ∷ xs) (suc n) d less = get_there xs n d (omega (arith, less))

there_within : {A : Type 0} (xs : List A) (n : ℕ) (a : A) → slice_get xs n ≡ Some a → n < length xs
there_within [] n a is = absurd (false≢true (ap is_some is))
there_within (x ∷ xs) zero a is = omega arith
there_within (x ∷ xs) (suc n) a is = let less = there_within xs n a is in omega (arith, less)

same_some : {A : Type 0} (a b : A) → Some a ≡ Some b → a ≡ b
same_some a b is = cc

none_some : {A : Type 0} (a : A) → None ≡ Some a → ⊥
none_some a is = false≢true (ap is_some is)

-- ---- kinds

enum_int : sort.Enum ≡ sort.Int → ⊥
enum_int is = cc

access_int : sort.Access ≡ sort.Int → ⊥
access_int is = cc

access_enum : sort.Access ≡ sort.Enum → ⊥
access_enum is = cc

-- ---- words of which none is gone

-- The handle of each cell.
abbrev pub handle_in : List ℕ → ℕ → ℕ
handle_in handles n = get_or handles n 0

module _ (table : Table) (made : List ℕ) (handles : List ℕ) where
  word_same : (s : Sort) (x : Slot) (v : Value) → SlotStands table made s x (word_of v) → kind v ≡ kind_of s → x.gone ≡ false → handled handles v ≡ handled_word (handle_in handles) x.word
  word_same Whole x (value.Int i) is same whole = ap (handled_word (handle_in handles)) (sym is.0.0)
  word_same Whole x (value.Enum n) is same whole = absurd (enum_int same)
  word_same Whole x value.Null is same whole = absurd (access_int same)
  word_same Whole x (value.Cell n) is same whole = absurd (access_int same)
  word_same Position x (value.Int i) is same whole = absurd (enum_int (sym same))
  word_same Position x (value.Enum n) is same whole = ap (handled_word (handle_in handles)) (sym is.0.0)
  word_same Position x value.Null is same whole = absurd (access_enum same)
  word_same Position x (value.Cell n) is same whole = absurd (access_enum same)
  word_same (Pointer d) x (value.Int i) is same whole = absurd (access_int (sym same))
  word_same (Pointer d) x (value.Enum n) is same whole = absurd (access_enum (sym same))
  word_same (Pointer d) x value.Null is same whole = ap (handled_word (handle_in handles)) (sym is.0)
  word_same (Pointer d) x (value.Cell n) is same whole = by (nat_lt n gone_from) is
    where
      by : (b : Bool) → SlotStands table made (Pointer d) x (if b then pos (suc n) else negsuc (n - gone_from))
          → (if b then value.Cell (get_or handles n 0) else value.Null) ≡ handled_word (handle_in handles) x.word
      by true is = ap (handled_word (handle_in handles)) (sym is.0.0)
      by false is = absurd (true≢false (sym is.1 ∙ whole))

  slot_same : (s : Sort) (x : Slot) (v : Value) → SlotStands table made s x (word_of v) → kind v ≡ kind_of s → x.gone ≡ false → handled handles v ≡ handled_slot (handle_in handles) x
  slot_same s x v is same whole = word_same s x v is same whole ∙ ap (λ b. if b then value.Null else handled_word (handle_in handles) x.word) (sym whole)

  words_same : (all : List Sort) (xs : List Slot) (vs : List Value) → AllStand table made all xs (words_in vs) → AllKinds all vs → length xs ≡ length vs → length vs ≡ length all
      → ((o : ℕ) → (get_or xs o no_slot).gone ≡ false) → map (handled handles) vs ≡ map (handled_slot (handle_in handles)) xs
  words_same [] [] [] is same long room none = refl
  words_same [] (x ∷ xs) [] is same long room none = absurd (omega (arith, long))
  words_same [] xs (v ∷ vs) is same long room none = absurd (omega (arith, room))
  words_same (s ∷ all) [] vs is same long room none = absurd is
  words_same (s ∷ all) (x ∷ xs) [] is same long room none = absurd same
  words_same (s ∷ all) (x ∷ xs) (v ∷ vs) is same long room none =
      ap (λ w. w ∷ map (handled handles) vs) (slot_same s x v is.0 same.0 (none 0))
      ∙ ap (λ rest. handled_slot (handle_in handles) x ∷ rest)
      (words_same all xs vs is.1 same.1 (omega (arith, long)) (omega (arith, room)) (λ o. none (suc o)))

-- ---- cells of which nothing is gone

abbrev stored_cell : List Value → Bool → Cell
stored_cell ws freed = record { words = ws; freed = freed }

module _ (table : Table) (handles : List ℕ) (m : Memory) (f : Flat) (heap : Heap) (have : HaveCells table m f) (made : length f.cells ≡ length m.cells)
    (none : (n o : ℕ) → (get_or (cell m (suc n)).slots o no_slot).gone ≡ false) (follows : Follows handles f.cells heap) where
  -- the cell with this number, over numbers
  record Known (n : ℕ) (c : HeapCell) : Type 0 where
    pub words : List Value
    pub there : numbered.IsThere f.cells n words
    pub same : map (handled handles) words ≡ map (handled_slot (handle_in handles)) c.slots

  is_cell : (n : ℕ) (c : HeapCell) → slice_get m.cells n ≡ Some c → cell m (suc n) ≡ c
  is_cell n c is = same_some (cell m (suc n)) c (sym (get_there m.cells n no_cell (there_within m.cells n c is)) ∙ is)

  known : (n : ℕ) (c : HeapCell) → IsThere m.cells n c → Known n c
  known n c there = by (have n (there_within m.cells n c there.0)) (is_cell n c there.0)
    where
      by : (k : Cell) × (slice_get f.cells n ≡ Some k) × CellStands table (types m) (cell m (suc n)) k → cell m (suc n) ≡ c → Known n c
      by (k, at, stands) same = record {
        words = k.words;
        there = at ∙ ap (λ b. Some (stored_cell k.words b)) (sym stands.freed ∙ (ap (λ (d : HeapCell). d.freed) same ∙ there.1));
        same = words_same table (types m) handles (sorts table (cell m (suc n)).of) (cell m (suc n)).slots k.words stands.words stands.kinds stands.size stands.room (none n)
            ∙ ap (λ (d : HeapCell). map (handled_slot (handle_in handles)) d.slots) same;
      }

  back_to : (h : ℕ) (vs : List Value) → words_at heap.cells h ≡ Some vs → IsBack (handle_in handles) m.cells h
  back_to h vs is = by (follows.back h vs is)
    where
      found : (n : ℕ) (ws : List Value) → numbered.IsThere f.cells n ws → n < length m.cells → (get_or m.cells n no_cell).freed ≡ false
      found n ws there less =
          let at = have n less in
          at.2.freed ∙ ap (λ (k : Cell). k.freed) (same_some at.0 (stored_cell ws false) (sym at.1 ∙ there))

      by : numbered.Back handles f.cells h → IsBack (handle_in handles) m.cells h
      by back =
          let less : back.number < length m.cells = subst (λ k. back.number < k) made (there_within f.cells back.number (stored_cell back.words false) back.there) in
          record {
            index = back.number;
            cell = get_or m.cells back.number no_cell;
            there = (get_there m.cells back.number no_cell less, found back.number back.words back.there less);
            same = back.same;
          }

  -- The law.
  pub has_cells : HasCells m.cells heap
  has_cells = record {
    handle = handle_in handles;
    live = λ n c there. follows.live n (known n c there).words (known n c there).there ∙ ap (λ ws. Some ws) (known n c there).same;
    once = λ n k c d one two. follows.once n k (known n c one).words (known k d two).words (known n c one).there (known k d two).there;
    back = back_to;
  }

-- ---- memories that agree up to places that are gone

module _ (handle : ℕ → ℕ) where
  one_agrees : (x y : Slot) → AgreeSlot x y → handled_slot handle x ≡ handled_slot handle y
  one_agrees x y (inl same) = ap (handled_slot handle) same
  one_agrees x y (inr (gone, null)) = ap (λ b. if b then value.Null else handled_word handle x.word) gone ∙ by y.gone null
    where
      by : (b : Bool) → (if b then no_slot else y) ≡ no_slot → value.Null ≡ (if b then value.Null else handled_word handle y.word)
      by true null = refl
      by false null = ap (λ (z : Slot). handled_word handle z.word) (sym null)

  slots_agree : (xs ys : List Slot) → AgreeSlots xs ys → map (handled_slot handle) xs ≡ map (handled_slot handle) ys
  slots_agree xs ys agree = pair_same AgreeSlot (handled_slot handle) one_agrees xs ys agree

abbrev Other : (HeapCell → HeapCell → Type 0) → List HeapCell → ℕ → HeapCell → Type 0
Other R others n c = (d : HeapCell) × (slice_get others n ≡ Some d) × R c d

right_there : (cells others : List HeapCell) → Pairwise AgreeCell cells others → (n : ℕ) (c : HeapCell) → slice_get cells n ≡ Some c → Other AgreeCell others n c
right_there [] [] agree n c is = absurd (false≢true (ap is_some is))
right_there (a ∷ cells) (b ∷ others) agree zero c is = (b, refl, subst (λ (x : HeapCell). AgreeCell x b) (same_some a c is) agree.0)
right_there (a ∷ cells) (b ∷ others) agree (suc n) c is = right_there cells others agree.1 n c is
right_there [] (b ∷ others) agree n c is = absurd agree
right_there (a ∷ cells) [] agree n c is = absurd agree

left_there : (cells others : List HeapCell) → Pairwise AgreeCell cells others → (n : ℕ) (c : HeapCell) → slice_get others n ≡ Some c → Other (λ c d. AgreeCell d c) cells n c
left_there [] [] agree n c is = absurd (false≢true (ap is_some is))
left_there (a ∷ cells) (b ∷ others) agree zero c is = (a, refl, subst (λ (x : HeapCell). AgreeCell a x) (same_some b c is) agree.0)
left_there (a ∷ cells) (b ∷ others) agree (suc n) c is = left_there cells others agree.1 n c is
left_there [] (b ∷ others) agree n c is = absurd agree
left_there (a ∷ cells) [] agree n c is = absurd agree

pub agree_cells : (cells others : List HeapCell) (m : Heap) → Pairwise AgreeCell cells others → HasCells others m → HasCells cells m
agree_cells cells others m agree has = record {
  handle = has.handle;
  live = λ n c there. (
      let other = right_there cells others agree n c there.0 in
      has.live n other.0 (other.1, sym other.2.1 ∙ there.1) ∙ ap (λ ws. Some ws) (sym (slots_agree has.handle c.slots other.0.slots other.2.2)));
  once = λ n k c d one two. (
      let first = right_there cells others agree n c one.0 in
      let second = right_there cells others agree k d two.0 in
      has.once n k first.0 second.0 (first.1, sym first.2.1 ∙ one.1) (second.1, sym second.2.1 ∙ two.1));
  back = λ h vs is. back h (has.back h vs is);
}
  where
    back : (h : ℕ) → IsBack has.handle others h → IsBack has.handle cells h
    back h is =
        let other = left_there cells others agree is.index is.cell is.there.0 in
        record { index = is.index; cell = other.0; there = (other.1, other.2.1 ∙ is.there.1); same = is.same }

-- ---- cells that were made since, and are freed

none_there : (gone : List HeapCell) (n : ℕ) (c : HeapCell) → IsThere (map as_freed gone) n c → ⊥
none_there [] n c there = none_some c there.0
none_there (a ∷ gone) zero c there = true≢false (ap (λ (d : HeapCell). d.freed) (same_some (as_freed a) c there.0) ∙ there.1)
none_there (a ∷ gone) (suc n) c there = none_there gone n c there

were_there : (cells gone : List HeapCell) (n : ℕ) (c : HeapCell) → IsThere (cells ++ map as_freed gone) n c → IsThere cells n c
were_there [] gone n c there = absurd (none_there gone n c there)
were_there (a ∷ cells) gone zero c there = there
were_there (a ∷ cells) gone (suc n) c there = were_there cells gone n c there

still_there : (cells gone : List HeapCell) (n : ℕ) (c : HeapCell) → IsThere cells n c → IsThere (cells ++ gone) n c
still_there [] gone n c there = absurd (none_some c there.0)
still_there (a ∷ cells) gone zero c there = there
still_there (a ∷ cells) gone (suc n) c there = still_there cells gone n c there

pub left_cells : (cells gone : List HeapCell) (m k : Heap) → k.cells ≡ m.cells → HasCells cells m → HasCells (cells ++ map as_freed gone) k
left_cells cells gone m k same has = record {
  handle = has.handle;
  live = λ n c there. ap (λ (all : List heaps.Cell). words_at all (has.handle n)) same ∙ has.live n c (were_there cells gone n c there);
  once = λ n k c d one two. has.once n k c d (were_there cells gone n c one) (were_there cells gone k d two);
  back = λ h vs is. back h (has.back h vs (ap (λ (all : List heaps.Cell). words_at all h) (sym same) ∙ is));
}
  where
    back : (h : ℕ) → IsBack has.handle cells h → IsBack has.handle (cells ++ map as_freed gone) h
    back h is = record { index = is.index; cell = is.cell; there = still_there cells (map as_freed gone) is.index is.cell is.there; same = is.same }
