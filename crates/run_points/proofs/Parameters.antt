-- The parameter of a loop: its word on both sides, its next value, and the words of its loop.
use Rattle.std.proofs.Common.{◌≡◌, ℕ, zero, suc, ◌+◌, ◌<◌, ◌≤◌, true, false, Bool, not, List, [], ◌∷◌, length, map, take, drop, refl, sym, ap, subst, ◌∙◌, arith, Some, None, slice_get, ℤ, pos, negsuc, int_le, if◌then◌else◌, append-nil}
use Rattle.std.specs.Prelude.{◌==◌, ◌+ℤ◌, int_lt, unsigned_abs}
use Rattle.std.proofs.lemmas.Int.{ints}
use Rattle.run_values.specs.Arithmetic.{is_integer}
use Rattle.run_values.specs.declared.value.Kind.{Kind}
use Rattle.type_definitions.specs.declared.table.Shape.{Shape}
use Rattle.type_definitions.specs.declared.table.Shape.TheVariants as shape
use Rattle.type_definitions.specs.Types.{shape_of, words}
use Rattle.flow_paths.specs.Objects.{Typing, object_at, is_package_object}
use Rattle.flow_paths.specs.Laid.{flow_typing}
use Rattle.machine.specs.Words.{Word, Int, Enumerated}
use Rattle.machine.specs.Typed.{Sort, Whole, Position, Pointer, sorts}
use Rattle.machine.specs.Memory.{Slot, Place, OfVariable, slots_at, words_of, stored}
use Rattle.machine.specs.Evaluate.{variable_place, value_of}
use Rattle.machine.specs.States.{Loop}
use Rattle.machine.specs.Step as machine_step
use Rattle.machine.specs.Step.{parameter_words, no_loop, loop_of}
use Rattle.run_codes.specs.Flat.{kind_of, kinds, is_word, are_words, spliced, with_stack}
use Rattle.run_codes.specs.Lowered.{offset_of, Scalar, scalar_of}
use Rattle.run_codes.specs.Programs.{own_offset}
use Rattle.run_codes.specs.Related.{Stands, AllStand, IsValue, types, Lying, lying_sorts}
use Rattle.run_codes.proofs.Parts.{many, whole_split, first_word}
use Rattle.run_codes.proofs.Places.{impossible, some_same, if_some, both_true, head_stands}
use Rattle.run_codes.proofs.Stores.{stored_in_stack}
use Rattle.run_fills.specs.Filled.{Later}
use Rattle.run_fills.proofs.Single.{one_value}
use Rattle.run_fills.proofs.Wholes.{unchanged}
use Rattle.run_points.specs.States.{IsLow, LoopsStand, Laid}
use Rattle.run_points.specs.Turns.{Turns, turn, around, seen, TurnStands, IsKept}
use Rattle.run_points.proofs.Waits.{at_start}
use Rattle.run_points.proofs.Stacks.{spliced_long, own_object, own_there}
use Rattle.run_points.proofs.Halts.{is_whole}
use Rattle.run_points.proofs.Storing.{loops_stored, stored_low, stored_types}
use Rattle.run_points.proofs.LoopLists.{bounds_of}

-- ---- scalar sorts

-- A value of Integer, or a position.
abbrev pub IsScalarSort : Sort → Type 0
IsScalarSort Whole = Unit {0}
IsScalarSort Position = Unit {0}
IsScalarSort (Pointer d) = ⊥

pub record IsOneWord (b : Turns) (t : ℕ) : Type 0 where
  pub sort : Sort
  pub scalar : IsScalarSort sort
  pub one : sorts (flow_typing b.program).table t ≡ sort ∷ []

pub scalar_word : (b : Turns) (laid : Laid) → TurnStands b laid → (t : ℕ) (s : Scalar) → scalar_of (shape_of (flow_typing b.program).table t) ≡ Some s → IsOneWord b t
scalar_word b laid is t s found = by (shape_of (flow_typing b.program).table t) refl found
  where
    by : (sh : Shape) → shape_of (flow_typing b.program).table t ≡ sh → scalar_of sh ≡ Some s → IsOneWord b t
    by (shape.Whole low high) sh found = record { sort = Whole; scalar = tt; one = is.laws.whole t low high sh }
    by (shape.Listed literals low high) sh found = record { sort = Position; scalar = tt; one = is.laws.listed t low high literals sh }
    by (shape.Access designated constant named) sh found = impossible s found
    by (shape.Fields components) sh found = impossible s found
    by (shape.Elements low high element) sh found = impossible s found
    by (shape.Same of) sh found = impossible s found

-- ---- the next value is one of the parameter's

integer_down : (low z : ℤ) → is_integer low ≡ true → is_integer z ≡ true → int_lt low z ≡ true → is_integer (z +ℤ negsuc 0) ≡ true
integer_down low z first second less = grind (arith, ints)

integer_up : (high z : ℤ) → is_integer high ≡ true → is_integer z ≡ true → int_lt z high ≡ true → is_integer (z +ℤ pos 1) ≡ true
integer_up high z first second less = grind (arith, ints)

above_down : (low z : ℤ) → int_le (pos 0) low ≡ true → int_lt low z ≡ true → int_le (pos 0) (z +ℤ negsuc 0) ≡ true
above_down low z first less = grind (arith, ints)

above_up : (z : ℤ) → int_le (pos 0) z ≡ true → int_le (pos 0) (z +ℤ pos 1) ≡ true
above_up z first = grind (arith, ints)

-- It is a bound, or the value after or before the last one.
next_of : (P : ℤ → Type 0) (reversed : Bool) (l : Loop) (z u : ℤ) → P l.low → P l.high → (int_lt l.low z ≡ true → P (z +ℤ negsuc 0)) → (int_lt z l.high ≡ true → P (z +ℤ pos 1))
    → machine_step.next_value reversed l z ≡ Some u → P u
next_of P reversed l z u low high down up is = by l.first reversed is
  where
    first : (r turns : Bool) → (if turns then Some (if r then l.high else l.low) else None) ≡ Some u → P u
    first true true is = subst P (some_same l.high u is) high
    first false true is = subst P (some_same l.low u is) low
    first r false is = impossible u is

    later : (c : Bool) (v : ℤ) → (c ≡ true → P v) → (if c then Some v else None) ≡ Some u → P u
    later true v on is = subst P (some_same v u is) (on refl)
    later false v on is = impossible u is

    by : (f r : Bool) → machine_step.next_value r (record l { first = f }) z ≡ Some u → P u
    by true r is = first r (int_le l.low l.high) is
    by false true is = later (int_lt l.low z) (z +ℤ negsuc 0) down is
    by false false is = later (int_lt z l.high) (z +ℤ pos 1) up is

next_integer : (reversed : Bool) (l : Loop) (z u : ℤ) → is_integer l.low ≡ true → is_integer l.high ≡ true → is_integer z ≡ true → machine_step.next_value reversed l z ≡ Some u → is_integer u ≡ true
next_integer reversed l z u low high here is =
    next_of (λ v. is_integer v ≡ true) reversed l z u low high (λ less. integer_down l.low z low here less) (λ less. integer_up l.high z high here less) is

next_above : (reversed : Bool) (l : Loop) (z u : ℤ) → int_le (pos 0) l.low ≡ true → int_le (pos 0) l.high ≡ true → int_le (pos 0) z ≡ true → machine_step.next_value reversed l z ≡ Some u
    → int_le (pos 0) u ≡ true
next_above reversed l z u low high here is =
    next_of (λ v. int_le (pos 0) v ≡ true) reversed l z u low high (λ less. above_down l.low z low less) (λ less. above_up z here) is

-- A number that isn't below zero.
natural : (v : ℤ) → int_le (pos 0) v ≡ true → v ≡ pos (unsigned_abs v)
natural (pos n) is = refl
natural (negsuc n) is = absurd (below n is)
  where
    below : (n : ℕ) → int_le (pos 0) (negsuc n) ≡ true → ⊥
    below n is = grind (arith, ints)

above : (n : ℕ) → int_le (pos 0) (pos n) ≡ true
above n = grind (arith, ints)

-- The words of the next value stand for it.
pub next_stands : (b : Turns) (st : Sort) → IsScalarSort st → (reversed : Bool) (l : Loop) (w : Word) (z u : ℤ) → is_word (kind_of st) l.low ≡ true → is_word (kind_of st) l.high ≡ true
    → Stands (flow_typing b.program).table (types b.memory) st w z → machine_step.next_value reversed l z ≡ Some u
    → IsValue (flow_typing b.program).table (types b.memory) (st ∷ []) (parameter_words (w ∷ []) u) (u ∷ [])
next_stands b Whole scalar reversed l w z u low high stands is =
    subst (λ v. IsValue (flow_typing b.program).table (types b.memory) (Whole ∷ []) (parameter_words (v ∷ []) u) (u ∷ [])) (sym stands.0)
    (one_value (flow_typing b.program).table (types b.memory) Whole (Int u) u (refl, next_integer reversed l z u low high stands.1 is) tt)
next_stands b Position scalar reversed l w z u low high stands is =
    let first = both_true (is_integer l.low) (int_le (pos 0) l.low) low in
    let last = both_true (is_integer l.high) (int_le (pos 0) l.high) high in
    let here : int_le (pos 0) z ≡ true = ap (λ v. int_le (pos 0) v) stands.1 ∙ above (unsigned_abs z) in
    subst (λ v. IsValue (flow_typing b.program).table (types b.memory) (Position ∷ []) (parameter_words (v ∷ []) u) (u ∷ [])) (sym stands.0)
    (one_value (flow_typing b.program).table (types b.memory) Position (Enumerated (unsigned_abs u)) u
    (refl, natural u (next_above reversed l z u first.1 last.1 here is), next_integer reversed l z u first.0 last.0 stands.2 is) tt)
next_stands b (Pointer d) scalar reversed l w z u low high stands is = absurd scalar

-- The bounds are words of the parameter's kind; so are those of no loop.
pub record HasWords (k : Kind) (l : Loop) : Type 0 where
  pub low : is_word k l.low ≡ true
  pub high : is_word k l.high ≡ true

none_words : (st : Sort) → IsScalarSort st → HasWords (kind_of st) no_loop
none_words Whole scalar = record { low = refl; high = refl }
none_words Position scalar = record { low = refl; high = refl }
none_words (Pointer d) scalar = absurd scalar

pub loop_has : (b : Turns) (laid : Laid) → TurnStands b laid → (x : ℕ) → (single : IsOneWord b (object_at (flow_typing b.program) x).of) → HasWords (kind_of single.sort) (loop_of x b.frame.loops)
loop_has b laid is x single =
    bounds_of s x b.frame.loops (HasWords (kind_of single.sort)) (none_words single.sort single.scalar)
    (λ l same bounded. record { low = word l l.low same bounded.low; high = word l l.high same bounded.high }) is.frame.bounds
  where
    s : Typing
    s = flow_typing b.program

    word : (l : Loop) (z : ℤ) → l.parameter ≡ x → are_words (kinds s.table (object_at s l.parameter).of) (z ∷ []) ≡ true → is_word (kind_of single.sort) z ≡ true
    word l z same is =
        (both_true (is_word (kind_of single.sort) z) true
        (sym (ap (λ y. are_words (kinds s.table (object_at s y).of) (z ∷ [])) same ∙ ap (λ l. are_words (map kind_of l) (z ∷ [])) single.one) ∙ is)).0

-- A scalar word is its number.
pub word_number : (b : Turns) (st : Sort) → IsScalarSort st → (w : Word) (z : ℤ) → Stands (flow_typing b.program).table (types b.memory) st w z → value_of w ≡ z
word_number b Whole scalar w z stands = ap value_of stands.0
word_number b Position scalar w z stands = ap value_of stands.0 ∙ sym stands.1
word_number b (Pointer d) scalar w z stands = absurd scalar

-- ---- the parameter

-- Its word, on both sides.
pub record IsParameter (b : Turns) (x offset : ℕ) (st : Sort) : Type 0 where
  pub word : Word
  pub value : ℤ
  pub machine_word : words_of (flow_typing b.program) b.memory (variable_place (machine_step.here (turn b)) x) ≡ word ∷ []
  pub flat_word : slice_get b.flat.stack (b.flat_frame.base + offset) ≡ Some value
  pub stands : Stands (flow_typing b.program).table (types b.memory) st word value
  pub base : (variable_place (machine_step.here (turn b)) x).base ≡ OfVariable (length b.outer) x

-- Package objects are declared in the first frame.
own_base : (b : Turns) (laid : Laid) → TurnStands b laid → (x offset : ℕ) → own_offset (around b) x ≡ Some offset
    → (if is_package_object (flow_typing b.program) x then 0 else length b.outer) ≡ length b.outer
own_base b laid is x offset there = by (is_package_object (flow_typing b.program) x) there
  where
    same_number : (a c : ℕ) → (a == c) ≡ true → a ≡ c
    same_number a c is = grind arith

    by : (k : Bool) → (if (if k then b.frame.sub == 0 else not (b.frame.sub == 0)) then offset_of (around b).site x else None) ≡ Some offset → (if k then 0 else length b.outer) ≡ length b.outer
    by false there = refl
    by true there =
        let sure = if_some (b.frame.sub == 0) (offset_of (around b).site x) offset there in
        sym (is.frame.first (same_number b.frame.sub 0 sure.0)).0

pub is_parameter : (b : Turns) (laid : Laid) → TurnStands b laid → (x offset : ℕ) → own_offset (around b) x ≡ Some offset → (single : IsOneWord b (object_at (flow_typing b.program) x).of)
    → IsParameter b x offset single.sort
is_parameter b laid is x offset there single =
    let s : Typing = flow_typing b.program in
    let l : Lying = own_object b x offset in
    let has = own_there b laid is x offset there in
    let slots : List Slot = slots_at s b.memory (OfVariable (length b.outer) x) in
    let head = head_stands s.table (types b.memory) single.sort slots (drop l.at b.flat.stack)
    (subst (λ all. AllStand s.table (types b.memory) all slots (drop l.at b.flat.stack)) single.one (is.memory.related.objects l has)) in
    let frame = own_base b laid is x offset there in
    let size : words s.table (object_at s x).of ≡ 1 = sym (many s.table (object_at s x).of) ∙ ap (λ (all : List Sort). length all) single.one in
    record {
      word = head.x.word;
      value = head.z;
      machine_word =
          ap (λ n. map (λ (slot : Slot). slot.word) (take (words s.table (object_at s x).of) (drop 0 (slots_at s b.memory (OfVariable n x))))) frame
          ∙ ap (λ n. map (λ (slot : Slot). slot.word) (take n slots)) size ∙ ap (λ xs. map (λ (slot : Slot). slot.word) (take 1 xs)) head.slots;
      flat_word = first_word l.at b.flat.stack head.others head.z head.words;
      stands = head.stands.0;
      base = ap (λ n. OfVariable n x) frame;
    }

-- It has another value, where it stands.
pub record IsStepped (b : Turns) (laid : Laid) (x offset : ℕ) (ws : List Word) (v : ℤ) : Type 0 where
  pub kept : IsKept b laid (stored (flow_typing b.program) (variable_place (machine_step.here (turn b)) x) ws b.memory) (with_stack (seen b).flat (spliced (b.flat_frame.base + offset) (v ∷ []) b.flat.stack))
  pub turning : LoopsStand laid.loops (length b.outer) (spliced (b.flat_frame.base + offset) (v ∷ []) b.flat.stack) b.frame.loops
  pub fits : b.flat_frame.base + offset + 1 ≤ length b.flat.stack

pub is_stepped : (b : Turns) (laid : Laid) → TurnStands b laid → (x offset : ℕ) → own_offset (around b) x ≡ Some offset → (ws : List Word) (v : ℤ)
    → (variable_place (machine_step.here (turn b)) x).base ≡ OfVariable (length b.outer) x
    → IsValue (flow_typing b.program).table (types b.memory) (sorts (flow_typing b.program).table (object_at (flow_typing b.program) x).of) ws (v ∷ [])
    → IsStepped b laid x offset ws v
is_stepped b laid is x offset there ws v base value =
    let s : Typing = flow_typing b.program in
    let p : Place = variable_place (machine_step.here (turn b)) x in
    let l : Lying = own_object b x offset in
    let has = own_there b laid is x offset there in
    let later : Later (seen b) laid.objects b.memory (seen b).flat = unchanged (seen b) laid.objects (is_whole b laid is) in
    let within = is.memory.apart.within l has in
    let inside : 0 + 1 ≤ length (lying_sorts s l) = omega (arith, value.numbers) in
    let fits : l.at + 1 ≤ length b.flat.stack = omega (arith, within, value.numbers) in
    record {
      kept = record {
        related = stored_in_stack s laid.objects b.memory (seen b).flat l p l.at (lying_sorts s l) ws (v ∷ []) (at_start b laid is) is.memory.apart has base (none l.at)
            (whole_split (lying_sorts s l)) (same (length (lying_sorts s l))) value;
        more = [];
        made = stored_types s p ws b.memory ∙ sym (append-nil (types b.memory));
        long = spliced_long l.at (v ∷ []) b.flat.stack fits;
        undeclared = stored_low s (suc (length b.outer)) p ws b.memory (subst (λ k. IsLow (suc (length b.outer)) k) (sym base) (last (length b.outer))) is.memory.undeclared;
        loops = λ c counts other. loops_stored b laid is b.memory (seen b).flat later l l.at 0 (v ∷ []) has (none l.at) inside c counts;
      };
      turning = λ c counts of. loops_stored b laid is b.memory (seen b).flat later l l.at 0 (v ∷ []) has (none l.at) inside c counts ∙ is.frame.loops c counts of;
      fits = fits;
    }
  where
    none : (n : ℕ) → n ≡ n + 0
    none n = omega arith

    same : (n : ℕ) → 0 + n ≤ n
    same n = omega arith

    last : (n : ℕ) → n < suc n
    last n = omega arith

-- ---- the words of the loop

pub record Three (n : ℕ) (x y z : ℤ) (all : List ℤ) : Type 0 where
  pub first : slice_get all n ≡ Some x
  pub second : slice_get all (n + 1) ≡ Some y
  pub third : slice_get all (n + 2) ≡ Some z

pub three_words : (n : ℕ) (x y z : ℤ) (all : List ℤ) → take 3 (drop n all) ≡ x ∷ y ∷ z ∷ [] → Three n x y z all
three_words zero x y z [] is = absurd (no_words x y z is)
  where
    no_words : (x y z : ℤ) → [] ≡ x ∷ y ∷ z ∷ [] → ⊥
    no_words x y z is = cc
three_words zero x y z (a ∷ []) is = absurd (no_words a x y z is)
  where
    no_words : (a x y z : ℤ) → a ∷ [] ≡ x ∷ y ∷ z ∷ [] → ⊥
    no_words a x y z is = cc
three_words zero x y z (a ∷ c ∷ []) is = absurd (no_words a c x y z is)
  where
    no_words : (a c x y z : ℤ) → a ∷ c ∷ [] ≡ x ∷ y ∷ z ∷ [] → ⊥
    no_words a c x y z is = cc
three_words zero x y z (a ∷ c ∷ e ∷ all) is = record {
  first = ap (λ k. Some k) (same_first a c e x y z is);
  second = ap (λ k. Some k) (same_second a c e x y z is);
  third = ap (λ k. Some k) (same_third a c e x y z is);
}
  where
    same_first : (a c e x y z : ℤ) → a ∷ c ∷ e ∷ [] ≡ x ∷ y ∷ z ∷ [] → a ≡ x
    same_first a c e x y z is = cc

    same_second : (a c e x y z : ℤ) → a ∷ c ∷ e ∷ [] ≡ x ∷ y ∷ z ∷ [] → c ≡ y
    same_second a c e x y z is = cc

    same_third : (a c e x y z : ℤ) → a ∷ c ∷ e ∷ [] ≡ x ∷ y ∷ z ∷ [] → e ≡ z
    same_third a c e x y z is = cc
three_words (suc n) x y z [] is = absurd (no_words x y z is)
  where
    no_words : (x y z : ℤ) → [] ≡ x ∷ y ∷ z ∷ [] → ⊥
    no_words x y z is = cc
three_words (suc n) x y z (a ∷ all) is =
    let rest = three_words n x y z all is in
    record { first = rest.first; second = ap (slice_get (a ∷ all)) (on n 1) ∙ rest.second; third = ap (slice_get (a ∷ all)) (on n 2) ∙ rest.third }
  where
    on : (n k : ℕ) → suc n + k ≡ suc (n + k)
    on n k = omega arith
