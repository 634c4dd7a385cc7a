-- What is moved is emptied by spots with some kinds, or one access value after the other.
use Rattle.std.proofs.Common.{◌≡◌, ℕ, zero, suc, ◌+◌, ◌-◌, ◌≤◌, Bool, true, false, ◌&&◌, Option, None, Some, List, [], ◌∷◌, ◌++◌, map, length, take, drop, slice_get, slice_set, refl, sym, ap, subst, ◌∙◌, arith, ℤ, pos, length-set, if◌then◌else◌}
use Rattle.std.proofs.lemmas.List.{length-drop, drop-set-add}
use Rattle.run_values.specs.declared.value.Value.{Value}
use Rattle.run_values.specs.declared.value.Value.TheVariants as value
use Rattle.run_values.specs.declared.value.Kind.{Kind}
use Rattle.run_values.specs.declared.value.Kind.TheVariants as sort
use Rattle.run_values.specs.Values.{kind}
use Rattle.run_codes.specs.Flat.{Got, Given, Stops, Broken, and_then, is_broken, same_kind, have_kinds, is_pointer, are_pointers, spliced, Spot, InStack, InCell}
use Rattle.slot_heap.specs.Heaps.{Heap, words_at, written, Holds}
use Rattle.handled_runs.specs.Slots.{Slots, Move, front}
use Rattle.handled_runs.specs.Changes.{with_stack, with_heap, all_null, nulled, cell_emptied, emptied, all_emptied, settled}
use Rattle.slot_memory.specs.Cells.{Have}
use Rattle.slot_memory.specs.Memory.{beyond, spots_of, single}
use Rattle.slot_memory.specs.Moves.{AreThere, cleared, all_cleared}
use Rattle.slot_memory.proofs.OfKinds.{never, and_first, and_second, pointer_at, access_at, stands_at, front_given, front_within}
use Rattle.slot_memory.proofs.Heaps.{have_words, words_have, words_written, holds_in}
use Rattle.slot_memory.proofs.Lists.{AreBelow, each_at, from, each_spliced, to_null, all_null_is, null_set}

-- ---- what is given

given_is : {A : Type 0} (a b : A) → Given a ≡ Given b → a ≡ b
given_is a b is = cc

given_then : {A B : Type 0} (g : Got A) (f : A → Got B) (b : B) → and_then g f ≡ Given b → (a : A) × (g ≡ Given a) × (f a ≡ Given b)
given_then (Given a) f b is = (a, refl, is)
given_then (Stops s) f b is = cc
given_then Broken f b is = cc

given_test : {A : Type 0} (c : Bool) (g : Got A) (a : A) → (if c then g else Broken) ≡ Given a → (c ≡ true) × (g ≡ Given a)
given_test true g a is = (refl, is)
given_test false g a is = cc

-- ---- several

cleared_both : (a b : List Spot) (s : Slots) → all_cleared (a ++ b) s ≡ all_cleared b (all_cleared a s)
cleared_both [] b s = refl
cleared_both (q ∷ a) b s = cleared_both a b (cleared s q)

there_both : (a b : List Spot) (s : Slots) → AreThere s a → AreThere (all_cleared a s) b → AreThere s (a ++ b)
there_both [] b s first second = second
there_both (q ∷ a) b s first second = (first.0, there_both a b (cleared s q) first.1 second)

-- ---- in the stack

stack_cleared : (n : ℕ) (gone : List ℕ) (s : Slots) → all_cleared (map (beyond (InStack n)) gone) s ≡ with_stack s (each_at to_null (from n gone) s.stack)
stack_cleared n [] s = refl
stack_cleared n (o ∷ gone) s =
    stack_cleared n gone (cleared s (InStack (n + o)))
    ∙ ap (λ l. with_stack s (each_at to_null (from n gone) l)) (sym (null_set (n + o) s.stack))

stack_there : (n long : ℕ) (gone : List ℕ) (s : Slots) → AreBelow long gone → long ≤ length s.stack - n → AreThere s (map (beyond (InStack n)) gone)
stack_there n long [] s below room = tt
stack_there n long (o ∷ gone) s below room = (
  omega (arith, below.0, room),
  stack_there n long gone (cleared s (InStack (n + o))) below.1 (omega (arith, room, length-set s.stack (n + o) (pos 0))),
)

pointers_below : (ks : List Kind) (gone : List ℕ) → are_pointers ks gone ≡ true → AreBelow (length ks) gone
pointers_below ks [] is = tt
pointers_below ks (o ∷ gone) is =
    ((pointer_at ks o (and_first (is_pointer (slice_get ks o)) (are_pointers ks gone) is)).1, pointers_below ks gone (and_second (is_pointer (slice_get ks o)) (are_pointers ks gone) is))

-- A step: what is emptied is cleared, and access values stand there.
abbrev pub IsCleared : Slots → List Spot → Slots → Type 0
IsCleared s spots t = (all_cleared spots s ≡ t) × AreThere s spots

stack_step : (s t : Slots) (n : ℕ) (ks : List Kind) (gone : List ℕ) → emptied s (InStack n) ks gone ≡ Given t → IsCleared s (map (beyond (InStack n)) gone) t
stack_step s t n ks gone is =
    let g = given_test (are_pointers ks gone) (and_then (front ks (drop n s.stack)) (λ zs. Given (with_stack s (spliced n (all_null gone zs) s.stack)))) t is in
    let f = given_then (front ks (drop n s.stack)) (λ zs. Given (with_stack s (spliced n (all_null gone zs) s.stack))) t g.1 in
    let there : is_broken (front ks (drop n s.stack)) ≡ false = ap is_broken f.1 in
    let within : length ks ≤ length (drop n s.stack) = front_within ks (drop n s.stack) there in
    let below : AreBelow (length ks) gone = pointers_below ks gone g.0 in
    let zs : f.0 ≡ take (length ks) (drop n s.stack) = given_is f.0 (take (length ks) (drop n s.stack)) (sym f.1 ∙ front_given ks (drop n s.stack) there) in
    let same : each_at to_null (from n gone) s.stack ≡ spliced n (all_null gone f.0) s.stack =
    each_spliced to_null n (length ks) gone s.stack below within
    ∙ ap (λ l. spliced n l s.stack) (sym (all_null_is gone (take (length ks) (drop n s.stack))) ∙ ap (all_null gone) (sym zs)) in (
      stack_cleared n gone s ∙ ap (with_stack s) same ∙ given_is (with_stack s (spliced n (all_null gone f.0) s.stack)) t f.2,
      stack_there n (length ks) gone s below (omega (arith, within, length-drop n s.stack)),
    )

-- ---- in a cell

kinds_null : (ks : List Kind) (vs : List Value) (o : ℕ) → have_kinds ks vs ≡ true → is_pointer (slice_get ks o) ≡ true → have_kinds ks (slice_set vs o value.Null) ≡ true
kinds_null [] vs o is pointer = cc
kinds_null (k ∷ ks) [] o is pointer = cc
kinds_null (sort.Access ∷ ks) (v ∷ vs) zero is pointer = and_second (same_kind (kind v) sort.Access) (have_kinds ks vs) is
kinds_null (sort.Int ∷ ks) (v ∷ vs) zero is pointer = cc
kinds_null (sort.Enum ∷ ks) (v ∷ vs) zero is pointer = cc
kinds_null (k ∷ ks) (v ∷ vs) (suc o) is pointer =
    ap (λ b. b && have_kinds ks (slice_set vs o value.Null)) (and_first (same_kind (kind v) k) (have_kinds ks vs) is)
    ∙ kinds_null ks vs o (and_second (same_kind (kind v) k) (have_kinds ks vs) is) pointer

have_null : (m : Heap) (h o g : ℕ) (ks : List Kind) → is_pointer (slice_get ks g) ≡ true → Have m h o ks → Have (written m h (o + g) value.Null) h o ks
have_null m h o g ks pointer have =
    let w = have_words m h o ks have in
    let kinds : have_kinds ks (drop o (slice_set w.0 (o + g) value.Null)) ≡ true =
    ap (have_kinds ks) (drop-set-add o w.0 g value.Null) ∙ kinds_null ks (drop o w.0) g w.2 pointer in
    words_have (written m h (o + g) value.Null) h o ks (slice_set w.0 (o + g) value.Null) (words_written m h (o + g) value.Null w.0 w.1) kinds

holds_null : (m : Heap) (h o g : ℕ) (ks : List Kind) → is_pointer (slice_get ks g) ≡ true → Have m h o ks → Holds m h (o + g) sort.Access
holds_null m h o g ks pointer have =
    let w = have_words m h o ks have in
    let P : Kind → Type 0 = λ k. Holds m h (o + g) k in
    subst P (access_at ks g sort.Int pointer) (holds_in m h (o + g) _ w.0 w.1 (stands_at ks w.0 o g sort.Int w.2 (pointer_at ks g pointer).1))

cell_cleared : (h o : ℕ) (gone : List ℕ) (s : Slots) → all_cleared (map (beyond (InCell h o)) gone) s ≡ with_heap s (nulled s.heap h o gone)
cell_cleared h o [] s = refl
cell_cleared h o (g ∷ gone) s = cell_cleared h o gone (cleared s (InCell h (o + g)))

cell_there : (h o : ℕ) (ks : List Kind) (gone : List ℕ) (s : Slots) → are_pointers ks gone ≡ true → Have s.heap h o ks → AreThere s (map (beyond (InCell h o)) gone)
cell_there h o ks [] s is have = tt
cell_there h o ks (g ∷ gone) s is have =
    let pointer = and_first (is_pointer (slice_get ks g)) (are_pointers ks gone) is in (
      holds_null s.heap h o g ks pointer have,
      cell_there h o ks gone (cleared s (InCell h (o + g))) (and_second (is_pointer (slice_get ks g)) (are_pointers ks gone) is) (have_null s.heap h o g ks pointer have),
    )

cell_step : (s t : Slots) (h o : ℕ) (ks : List Kind) (gone : List ℕ) → emptied s (InCell h o) ks gone ≡ Given t → IsCleared s (map (beyond (InCell h o)) gone) t
cell_step s t h o ks gone is = by (words_at s.heap.cells h) refl is
  where
    by : (x : Option (List Value)) → words_at s.heap.cells h ≡ x → cell_emptied s h o ks gone x ≡ Given t → IsCleared s (map (beyond (InCell h o)) gone) t
    by None e is = cc
    by (Some ws) e is =
        let g = given_test (are_pointers ks gone && have_kinds ks (drop o ws)) (Given (with_heap s (nulled s.heap h o gone))) t is in (
          cell_cleared h o gone s ∙ given_is (with_heap s (nulled s.heap h o gone)) t g.1,
          cell_there h o ks gone s (and_first (are_pointers ks gone) (have_kinds ks (drop o ws)) g.0)
              (words_have s.heap h o ks ws e (and_second (are_pointers ks gone) (have_kinds ks (drop o ws)) g.0)),
        )

-- ---- all of them

step : (s t : Slots) (q : Spot) (ks : List Kind) (gone : List ℕ) → emptied s q ks gone ≡ Given t → IsCleared s (map (beyond q) gone) t
step s t (InStack n) ks gone is = stack_step s t n ks gone is
step s t (InCell h o) ks gone is = cell_step s t h o ks gone is

pub emptied_cleared : (moves : List Move) (s t : Slots) → all_emptied moves s ≡ Given t → IsCleared s (single moves) t
emptied_cleared [] s t is = (given_is s t is, tt)
emptied_cleared (m ∷ moves) s t is =
    let u = given_then (emptied s m.at m.kinds m.offsets) (all_emptied moves) t is in
    let first = step s u.0 m.at m.kinds m.offsets u.1 in
    let rest = emptied_cleared moves u.0 t u.2 in
    let P : Slots → Type 0 = λ v. AreThere v (single moves) in (
      cleared_both (spots_of m) (single moves) s ∙ ap (all_cleared (single moves)) first.0 ∙ rest.0,
      there_both (spots_of m) (single moves) s first.1 (subst P (sym first.0) rest.1),
    )

-- ---- it never stops

abbrev GoesOn : {A : Type 0} → Got A → Type 0
GoesOn (Given a) = Unit {0}
GoesOn (Stops x) = ⊥
GoesOn Broken = Unit {0}

goes_then : {A B : Type 0} (g : Got A) (f : A → Got B) → GoesOn g → ((a : A) → GoesOn (f a)) → GoesOn (and_then g f)
goes_then (Given a) f first second = second a
goes_then (Stops x) f first second = first
goes_then Broken f first second = tt

goes_test : {A : Type 0} (c : Bool) (g : Got A) → GoesOn g → GoesOn (if c then g else Broken)
goes_test true g is = is
goes_test false g is = tt

front_goes : (ks : List Kind) (zs : List ℤ) → GoesOn (front ks zs)
front_goes [] zs = tt
front_goes (k ∷ ks) [] = tt
front_goes (k ∷ ks) (z ∷ zs) = goes_then (front ks zs) (λ more. Given (z ∷ more)) (front_goes ks zs) (λ more. tt)

cell_goes : (s : Slots) (h o : ℕ) (ks : List Kind) (gone : List ℕ) (x : Option (List Value)) → GoesOn (cell_emptied s h o ks gone x)
cell_goes s h o ks gone None = tt
cell_goes s h o ks gone (Some ws) = goes_test (are_pointers ks gone && have_kinds ks (drop o ws)) (Given (with_heap s (nulled s.heap h o gone))) tt

emptied_goes : (s : Slots) (q : Spot) (ks : List Kind) (gone : List ℕ) → GoesOn (emptied s q ks gone)
emptied_goes s (InStack n) ks gone =
    goes_test (are_pointers ks gone) _
    (goes_then (front ks (drop n s.stack)) (λ zs. Given (with_stack s (spliced n (all_null gone zs) s.stack))) (front_goes ks (drop n s.stack)) (λ zs. tt))
emptied_goes s (InCell h o) ks gone = cell_goes s h o ks gone (words_at s.heap.cells h)

all_go : (moves : List Move) (s : Slots) → GoesOn (all_emptied moves s)
all_go [] s = tt
all_go (m ∷ moves) s = goes_then (emptied s m.at m.kinds m.offsets) (all_emptied moves) (emptied_goes s m.at m.kinds m.offsets) (all_go moves)

given_of : {A : Type 0} (g : Got A) → GoesOn g → is_broken g ≡ false → (a : A) × (g ≡ Given a)
given_of (Given a) goes is = (a, refl)
given_of (Stops x) goes is = absurd goes
given_of Broken goes is = absurd (never is)

pub settled_given : (s : Slots) → is_broken (settled s) ≡ false → (t : Slots) × (settled s ≡ Given t)
settled_given s is = given_of (settled s) (all_go s.moves (record s { moves = [] })) is
