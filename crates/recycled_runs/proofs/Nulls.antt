-- The law: states stand for each other also with null in both for what was moved.
use Rattle.std.proofs.Common.{◌≡◌, refl, sym, ap, ◌∙◌, subst, inl, inr, ℕ, zero, suc, ◌-◌, ◌<◌, ◌≤◌, Bool, true, false, List, [], ◌∷◌, map, take, drop, length, get_or, nat_lt, slice_get, Some, ℤ, pos, negsuc, arith, if◌then◌else◌}
use Rattle.std.proofs.lemmas.List.{length-map}
use Rattle.std.proofs.lemmas.Bool.{false≢true}
use Rattle.std.specs.Prelude.{is_some}
use Rattle.machine.specs.spark_base.Lists.{Has}
use Rattle.machine.specs.type_definitions.Types.{Table}
use Rattle.kept_cells.specs.run_values.declared.value.Value.{Value}
use Rattle.kept_cells.specs.run_values.declared.value.Value.TheVariants as value
use Rattle.kept_cells.specs.run_values.declared.value.Kind.{Kind}
use Rattle.kept_cells.specs.run_values.declared.value.Kind.TheVariants as sort
use Rattle.kept_cells.specs.run_values.Values.{kind}
use Rattle.machine.specs.flow_paths.Objects.{Typing, object_at}
use Rattle.machine.specs.flow_paths.Laid.{FlowProgram, flow_typing}
use Rattle.soundness.specs.PartOffsets.Parts.{IsSettled}
use Rattle.soundness.proofs.PartOffsets.Leaves.{leaf_at}
use Rattle.machine.specs.Words.{Word, Null, default, access_offsets}
use Rattle.machine.specs.Typed.{Sort, Whole, Position, Pointer, sorts}
use Rattle.machine.specs.Memory.{Slot, Variable, HeapCell, Memory, OfVariable, OfCell, fresh, is_variable, variable_slots, slots_at, no_slot, no_cell, cell}
use Rattle.machine.specs.Evaluate.{heap_words}
use Rattle.machine.specs.States as machine
use Rattle.recycled_runs.specs.ViewedFacts.NullPlaces.Cleared.{cleared_slot, cleared_state}
use Rattle.recycled_runs.specs.ViewedFacts.NullPlaces.Cleared as null_places
use Rattle.recycled_runs.specs.ViewedFacts.NullPlaces.Agrees.{AgreeSlot, AgreeSlots, Agrees, SameState}
use Rattle.recycled_runs.proofs.ViewedFacts.NullPlaces.Memories.{clear_agrees, cell_agree, slots_agree, count_agree, room_agree, freed_count}
use Rattle.recycled_runs.proofs.ViewedFacts.NullPlaces.Only.{IsGone, OnlyOwners}
use Rattle.kept_cells.specs.Cells.{Cell}
use Rattle.run_codes.specs.Flat.{Flat, most_cells, gone_from, kind_of, kinds, word_of, words_in}
use Rattle.run_codes.specs.Points.{State}
use Rattle.run_codes.specs.Programs.{Program}
use Rattle.run_codes.specs.Related.{types, SlotStands, AllStand, AllKinds, CellStands, HaveCells, IsTable, Lying, lying_sorts, AreApart}
use Rattle.run_points.specs.States.{StateStands, MemoryStands, FramesStand, LoopsApart, LoopAt}
use Rattle.run_points.proofs.Goes.{frames_kept}
use Rattle.handled_runs.specs.Looks.{IsFront}
use Rattle.handled_steps.specs.Clear.{cleared, cleared_word, cleared_words, cleared_value, cleared_cell, cleared_flat}
use Rattle.handled_steps.proofs.Cleared.{words_long}
use Rattle.handled_kinds.specs.Stacks.{HasRows, subs_of, IsStacked}
use Rattle.handled_kinds.proofs.Stacks.{counter, lying_front, looping_front}
use Rattle.soundness.proofs.Parted.{some_same}

-- ---- one value

module _ (table : Table) (made : List ℕ) where
  abbrev OneStands : Sort → Slot → ℤ → Type 0
  OneStands s x z = SlotStands table made s x z

  -- what isn't gone stays
  stays : (s : Sort) (x : Slot) (z : ℤ) → x.gone ≡ false → OneStands s x z → OneStands s (cleared_slot x) z
  stays s x z whole is = subst (λ b. OneStands s (if b then no_slot else x) z) (sym whole) is

  not_gone : (s : Sort) (x : Slot) → ((d : ℕ) → Some s ≡ Some (Pointer d) → ⊥) → (x.gone ≡ true → (d : ℕ) × (Some s ≡ Some (Pointer d))) → x.gone ≡ false
  not_gone s x never gone = by x.gone refl
    where
      by : (b : Bool) → x.gone ≡ b → b ≡ false
      by false is = refl
      by true is = (let sure = gone is in absurd (never sure.0 sure.1))

  whole_never : (d : ℕ) → Some Whole ≡ Some (Pointer d) → ⊥
  whole_never d e = cc

  position_never : (d : ℕ) → Some Position ≡ Some (Pointer d) → ⊥
  position_never d e = cc

  one_stands : (s : Sort) (x : Slot) (z : ℤ) → (x.gone ≡ true → (d : ℕ) × (Some s ≡ Some (Pointer d))) → OneStands s x z → OneStands s (cleared_slot x) (cleared_word (kind_of s) z)
  one_stands Whole x z gone is = stays Whole x z (not_gone Whole x whole_never gone) is
  one_stands Position x z gone is = stays Position x z (not_gone Position x position_never gone) is
  one_stands (Pointer d) x (pos zero) gone is = (by x.gone, tt)
    where
      by : (b : Bool) → (if b then no_slot else x).word ≡ Null
      by true = refl
      by false = is.0
  one_stands (Pointer d) x (pos (suc n)) gone is = stays (Pointer d) x (pos (suc n)) is.1 is
  one_stands (Pointer d) x (negsuc n) gone is = subst (λ b. OneStands (Pointer d) (if b then no_slot else x) (pos 0)) (sym is.1) (refl, tt)

  all_stand : (all : List Sort) (xs : List Slot) (zs : List ℤ) (ks : List Kind) → IsFront (map kind_of all) ks → ((o : ℕ) → IsGone xs o → (d : ℕ) × (slice_get all o ≡ Some (Pointer d)))
      → AllStand table made all xs zs → AllStand table made all (map cleared_slot xs) (cleared_words ks zs)
  all_stand [] xs zs ks front gone is = tt
  all_stand (s ∷ all) [] zs ks front gone is = absurd is
  all_stand (s ∷ all) (x ∷ xs) [] ks front gone is = absurd is
  all_stand (s ∷ all) (x ∷ xs) (z ∷ zs) [] front gone is = absurd front
  all_stand (s ∷ all) (x ∷ xs) (z ∷ zs) (k ∷ ks) front gone is = (
    subst (λ k. OneStands s (cleared_slot x) (cleared_word k z)) front.0 (one_stands s x z (λ is. gone 0 is) is.0),
    all_stand all xs zs ks front.1 (λ o is. gone (suc o) is) is.1,
  )

-- ---- the machine's memory

types_clear : (m : Memory) → types (null_places.cleared m) ≡ types m
types_clear m = by m.cells
  where
    by : (cells : List HeapCell) → map (λ (c : HeapCell). c.of) (map (λ (c : HeapCell). record c { slots = map cleared_slot c.slots }) cells) ≡ map (λ (c : HeapCell). c.of) cells
    by [] = refl
    by (c ∷ cells) = ap (λ rest. c.of ∷ rest) (by cells)

fresh_clear : (ws : List Word) → map cleared_slot (fresh ws) ≡ fresh ws
fresh_clear [] = refl
fresh_clear (w ∷ ws) = ap (λ rest. record { word = w; gone = false } ∷ rest) (fresh_clear ws)

pub variable_clear : (s : Typing) (m : Memory) (f x : ℕ) → slots_at s (null_places.cleared m) (OfVariable f x) ≡ map cleared_slot (slots_at s m (OfVariable f x))
variable_clear s m f x = by m.variables
  where
    by : (vs : List Variable) → variable_slots s f x (map (λ (v : Variable). record v { slots = map cleared_slot v.slots }) vs) ≡ map cleared_slot (variable_slots s f x vs)
    by [] = sym (fresh_clear (default s.table (object_at s x).of))
    by (v ∷ vs) = on (is_variable f x v) (by vs)
      where
        on : (b : Bool) → variable_slots s f x (map (λ (v : Variable). record v { slots = map cleared_slot v.slots }) vs) ≡ map cleared_slot (variable_slots s f x vs)
            → (if b then map cleared_slot v.slots else variable_slots s f x (map (λ (v : Variable). record v { slots = map cleared_slot v.slots }) vs))
            ≡ map cleared_slot (if b then v.slots else variable_slots s f x vs)
        on true rest = refl
        on false rest = rest

abbrev clear_cell : HeapCell → HeapCell
clear_cell c = record c { slots = map cleared_slot c.slots }

pub cell_clear : (m : Memory) (n : ℕ) → cell (null_places.cleared m) (suc n) ≡ clear_cell (cell m (suc n))
cell_clear m n = by m.cells n
  where
    by : (cells : List HeapCell) (n : ℕ) → get_or (map clear_cell cells) n no_cell ≡ clear_cell (get_or cells n no_cell)
    by [] n = refl
    by (c ∷ cells) zero = refl
    by (c ∷ cells) (suc n) = by cells n

-- ---- what is gone

gone_back : (xs ys : List Slot) → AgreeSlots xs ys → (o : ℕ) → IsGone ys o → IsGone xs o
gone_back [] [] agree o gone = gone
gone_back [] (y ∷ ys) agree o gone = absurd agree
gone_back (x ∷ xs) [] agree o gone = absurd agree
gone_back (x ∷ xs) (y ∷ ys) agree zero gone = by agree.0
  where
    by : AgreeSlot x y → x.gone ≡ true
    by (inl same) = ap (λ (z : Slot). z.gone) same ∙ gone
    by (inr both) = both.0
gone_back (x ∷ xs) (y ∷ ys) agree (suc o) gone = gone_back xs ys agree.1 o gone

-- ---- cells over numbers

value_word : (v : Value) → word_of (cleared_value v) ≡ cleared_word (kind v) (word_of v)
value_word (value.Int i) = refl
value_word (value.Enum n) = refl
value_word value.Null = refl
value_word (value.Cell n) = by (nat_lt n gone_from) refl
  where
    by : (b : Bool) → nat_lt n gone_from ≡ b → word_of (if b then value.Cell n else value.Null) ≡ cleared_word sort.Access (if b then pos (suc n) else negsuc (n - gone_from))
    by true low = ap (λ c. if c then pos (suc n) else negsuc (n - gone_from)) low
    by false low = refl

value_words : (vs : List Value) → words_in (map cleared_value vs) ≡ cleared_words (map kind vs) (words_in vs)
value_words [] = refl
value_words (v ∷ vs) = ap (λ z. z ∷ words_in (map cleared_value vs)) (value_word v) ∙ ap (λ zs. cleared_word (kind v) (word_of v) ∷ zs) (value_words vs)

value_kind : (v : Value) → kind (cleared_value v) ≡ kind v
value_kind (value.Int i) = refl
value_kind (value.Enum n) = refl
value_kind value.Null = refl
value_kind (value.Cell n) = by (nat_lt n gone_from)
  where
    by : (b : Bool) → kind (if b then value.Cell n else value.Null) ≡ sort.Access
    by true = refl
    by false = refl

kinds_clear : (all : List Sort) (vs : List Value) → AllKinds all vs → AllKinds all (map cleared_value vs)
kinds_clear [] vs are = tt
kinds_clear (s ∷ all) [] are = absurd are
kinds_clear (s ∷ all) (v ∷ vs) are = (value_kind v ∙ are.0, kinds_clear all vs are.1)

kinds_front : (all : List Sort) (vs : List Value) → AllKinds all vs → IsFront (map kind_of all) (map kind vs)
kinds_front [] vs are = tt
kinds_front (s ∷ all) [] are = absurd are
kinds_front (s ∷ all) (v ∷ vs) are = (sym are.0, kinds_front all vs are.1)

got_clear : (cells : List Cell) (n : ℕ) (k : Cell) → slice_get cells n ≡ Some k → slice_get (map cleared_cell cells) n ≡ Some (cleared_cell k)
got_clear [] n k is = absurd (false≢true (ap is_some is))
got_clear (c ∷ cells) zero k is = ap Some (ap cleared_cell (some_same is))
got_clear (c ∷ cells) (suc n) k is = got_clear cells n k is

cell_stands : (table : Table) (made : List ℕ) (c : HeapCell) (k : Cell) → ((o : ℕ) → IsGone c.slots o → (d : ℕ) × (slice_get (sorts table c.of) o ≡ Some (Pointer d)))
    → CellStands table made c k → CellStands table made (clear_cell c) (cleared_cell k)
cell_stands table made c k gone is = record {
  words = subst (AllStand table made (sorts table c.of) (map cleared_slot c.slots)) (sym (value_words k.words))
      (all_stand table made (sorts table c.of) c.slots (words_in k.words) (map kind k.words) (kinds_front (sorts table c.of) k.words is.kinds) gone is.words);
  kinds = kinds_clear (sorts table c.of) k.words is.kinds;
  size = length-map c.slots cleared_slot ∙ (is.size ∙ sym (length-map k.words cleared_value));
  room = length-map k.words cleared_value ∙ is.room;
  small = subst (λ n. n ≤ heap_words) (sym (length-map k.words cleared_value)) is.small;
  freed = is.freed;
}

-- ---- words of the stack

drop_clear : (n : ℕ) (ks : List Kind) (zs : List ℤ) → length ks ≡ length zs → drop n (cleared_words ks zs) ≡ cleared_words (drop n ks) (drop n zs)
drop_clear zero [] zs long = refl
drop_clear zero (k ∷ ks) [] long = refl
drop_clear zero (k ∷ ks) (z ∷ zs) long = refl
drop_clear (suc n) [] [] long = refl
drop_clear (suc n) [] (z ∷ zs) long = absurd (omega (arith, long))
drop_clear (suc n) (k ∷ ks) [] long = absurd (omega (arith, long))
drop_clear (suc n) (k ∷ ks) (z ∷ zs) long = drop_clear n ks zs (omega (arith, long))

int_word : (k : Kind) (z : ℤ) → sort.Int ≡ k → cleared_word k z ≡ z
int_word k z is = subst (λ k. cleared_word k z ≡ z) is refl

three_clear : (ks : List Kind) (zs : List ℤ) → IsFront counter ks → take 3 (cleared_words ks zs) ≡ take 3 zs
three_clear [] zs front = absurd front
three_clear (a ∷ []) zs front = absurd front.1
three_clear (a ∷ b ∷ []) zs front = absurd front.1.1
three_clear (a ∷ b ∷ c ∷ ks) [] front = refl
three_clear (a ∷ b ∷ c ∷ ks) (x ∷ []) front = ap (λ z. z ∷ []) (int_word a x front.0)
three_clear (a ∷ b ∷ c ∷ ks) (x ∷ y ∷ []) front = ap (λ w. w ∷ cleared_word b y ∷ []) (int_word a x front.0) ∙ ap (λ w. x ∷ w ∷ []) (int_word b y front.1.0)
three_clear (a ∷ b ∷ c ∷ ks) (x ∷ y ∷ z ∷ zs) front =
    ap (λ w. w ∷ cleared_word b y ∷ cleared_word c z ∷ []) (int_word a x front.0) ∙ (ap (λ w. x ∷ w ∷ cleared_word c z ∷ []) (int_word b y front.1.0) ∙ ap (λ w. x ∷ y ∷ w ∷ []) (int_word c z front.1.1.0))

-- ---- states

module _ (program : FlowProgram) (p : Program) (rows : HasRows program p) (laws : IsTable (flow_typing program).table) (settled : IsSettled (flow_typing program).table) where
  abbrev typed : Typing
  typed = flow_typing program

  abbrev table : Table
  table = typed.table

  -- What is gone is an access value.
  variable_gone : (m n : Memory) → OnlyOwners typed m → Agrees m n → (f x o : ℕ) → IsGone (slots_at typed n (OfVariable f x)) o → (d : ℕ) × (slice_get (sorts table (object_at typed x).of) o ≡ Some (Pointer d))
  variable_gone m n only agrees f x o gone =
      let back = gone_back (slots_at typed m (OfVariable f x)) (slots_at typed n (OfVariable f x)) (slots_agree typed m n agrees (OfVariable f x)) o gone in
      let owner = only.0 (OfVariable f x) o back in
      laws.accesses (object_at typed x).of o (subst (Has (access_offsets table (object_at typed x).of)) owner.2 (leaf_at table settled (object_at typed x).of owner.0 owner.1))

  cell_gone : (m n : Memory) → OnlyOwners typed m → Agrees m n → (k o : ℕ) → IsGone (cell n (suc k)).slots o → (d : ℕ) × (slice_get (sorts table (cell n (suc k)).of) o ≡ Some (Pointer d))
  cell_gone m n only agrees k o gone =
      let agree = cell_agree m n agrees (suc k) in
      let owner = only.0 (OfCell (suc k)) o (gone_back (cell m (suc k)).slots (cell n (suc k)).slots agree.2 o gone) in
      subst (λ t. (d : ℕ) × (slice_get (sorts table t) o ≡ Some (Pointer d))) agree.0
      (laws.accesses (cell m (suc k)).of o (subst (Has (access_offsets table (cell m (suc k)).of)) owner.2 (leaf_at table settled (cell m (suc k)).of owner.0 owner.1)))

  module _ (s t : machine.State) (g : State) (here : List Kind) (only : OnlyOwners typed s.memory) (same : SameState s t) (stands : StateStands program t g)
      (stacked : IsStacked table p (subs_of t) g.frames here) (long : length here ≡ length g.memory.stack) where
    abbrev m : Memory
    m = t.memory

    abbrev f : Flat
    f = g.memory

    abbrev now : List ℤ
    now = cleared_words here f.stack

    made_same : types (null_places.cleared m) ≡ types m
    made_same = types_clear m

    object_stands : (l : Lying) → Has stands.laid.objects l → AllStand table (types (null_places.cleared m)) (lying_sorts typed l) (slots_at typed (null_places.cleared m) (OfVariable l.frame l.object)) (drop l.at now)
    object_stands l has =
        let slots : List Slot = slots_at typed m (OfVariable l.frame l.object) in
        let front = subst (λ ks. IsFront (kinds table (object_at typed l.object).of) (drop l.at ks)) (sym stacked.kinds)
        (lying_front program p rows stands.laid (types m) f.stack t.frames g.frames stands.frames stacked.based l has (stands.memory.low l has)) in
        subst (λ made. AllStand table made (lying_sorts typed l) (slots_at typed (null_places.cleared m) (OfVariable l.frame l.object)) (drop l.at now)) (sym made_same)
        (subst (λ xs. AllStand table (types m) (lying_sorts typed l) xs (drop l.at now)) (sym (variable_clear typed m l.frame l.object))
        (subst (AllStand table (types m) (lying_sorts typed l) (map cleared_slot slots)) (sym (drop_clear l.at here f.stack long))
        (all_stand table (types m) (lying_sorts typed l) slots (drop l.at f.stack) (drop l.at here) front (variable_gone s.memory m only same.1 l.frame l.object) (stands.memory.related.objects l has))))

    cells_same : length m.cells ≡ length (null_places.cleared m).cells
    cells_same = count_agree m (null_places.cleared m) (clear_agrees m)

    cells_stand : HaveCells table (null_places.cleared m) (cleared_flat here f)
    cells_stand n less =
        let old = stands.memory.related.cells n (subst (λ k. n < k) (sym cells_same) less) in (
          cleared_cell old.0,
          got_clear f.cells n old.0 old.1,
          subst (λ made. CellStands table made (cell (null_places.cleared m) (suc n)) (cleared_cell old.0)) (sym made_same)
              (subst (λ c. CellStands table (types m) c (cleared_cell old.0)) (sym (cell_clear m n))
              (cell_stands table (types m) (cell m (suc n)) old.0 (cell_gone s.memory m only same.1 n) old.2)),
        )

    stack_same : length f.stack ≡ length now
    stack_same = sym long ∙ words_long here f.stack long

    loops_same : (c : LoopAt) → Has stands.laid.loops c → take 3 (drop c.at now) ≡ take 3 (drop c.at f.stack)
    loops_same c has =
        let front = subst (λ ks. IsFront counter (drop c.at ks)) (sym stacked.kinds)
        (looping_front program p rows stands.laid (types m) f.stack t.frames g.frames stands.frames stacked.based c has (stands.memory.loops_low c has)) in
        ap (take 3) (drop_clear c.at here f.stack long) ∙ three_clear (drop c.at here) (drop c.at f.stack) front

    frames_same : FramesStand program stands.laid (types (null_places.cleared m)) now t.frames g.frames
    frames_same =
        subst (λ made. FramesStand program stands.laid made now t.frames g.frames) (sym made_same)
        (frames_kept program stands.laid (types m) f.stack now (length t.frames) t.frames g.frames (all_low (length t.frames)) (λ c has other. loops_same c has) stands.frames)
      where
        all_low : (n : ℕ) → n ≤ n
        all_low n = omega arith

    memory_stands : MemoryStands program stands.laid (length t.frames) (null_places.cleared m) (cleared_flat here f)
    memory_stands = record {
      related = record {
        objects = object_stands;
        cells = cells_stand;
        counted = record {
          made = length-map f.cells cleared_cell ∙ (stands.memory.related.counted.made ∙ cells_same);
          few = subst (λ n. n ≤ most_cells) cells_same stands.memory.related.counted.few;
          live = stands.memory.related.counted.live ∙ room_agree m (null_places.cleared m) (clear_agrees m);
          freed = stands.memory.related.counted.freed ∙ freed_count m (null_places.cleared m) (clear_agrees m);
        };
      };
      apart = subst (λ n. AreApart typed stands.laid.objects n) stack_same stands.memory.apart;
      loops_apart = subst (λ n. LoopsApart typed stands.laid.objects stands.laid.loops n) stack_same stands.memory.loops_apart;
      undeclared = λ frame x high. variable_clear typed m frame x ∙ (ap (map cleared_slot) (stands.memory.undeclared frame x high) ∙ fresh_clear (default table (object_at typed x).of));
      low = stands.memory.low;
      loops_low = stands.memory.loops_low;
    }

    pub clears : StateStands program (cleared_state t) (cleared here g)
    clears = record {
      laid = stands.laid;
      memory = memory_stands;
      frames = frames_same;
      runs = stands.runs;
      at = stands.at;
      output = stands.output;
      leaks = stands.leaks;
      steps = stands.steps;
    }
