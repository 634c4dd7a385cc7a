-- Words without tags in one stack and in cells, and what codes give over them.
--
-- A word is a value of Integer, a position, or an access value: 0 for null, and else the number of a cell
-- from 1. Where an access value was moved away, the number stands with a minus.
use Rattle.std.specs.Prelude.{ℕ, zero, suc, ◌+◌, ◌-◌, ◌*◌, Bool, true, false, not, ◌&&◌, ◌||◌, ◌==◌, List, [], ◌∷◌, ◌++◌, map, length, take, drop, slice_get, nat_lt, nat_le, Option, Some, None, ℤ, pos, negsuc, ◌-ℤ◌, unsigned_abs, neg_ℤ, int_lt, int_le, if◌then◌else◌}
use Rattle.std.specs.List.{list_all}
use Rattle.machine.specs.resolved_tree.declared.operator.Operator.{Operator}
use Rattle.machine.specs.resolved_tree.declared.operator.Operator.TheVariants as operator
use Rattle.machine.specs.resolved_tree.declared.operator.UnaryOperator.{UnaryOperator}
use Rattle.machine.specs.resolved_tree.declared.operator.UnaryOperator.TheVariants as unary
use Rattle.machine.specs.typed_tree.declared.node.ShortCircuit.{ShortCircuit}
use Rattle.machine.specs.typed_tree.declared.node.ShortCircuit.TheVariants as short
use Rattle.machine.specs.type_definitions.Types.{Table}
use Rattle.kept_cells.specs.run_values.declared.value.Value.{Value}
use Rattle.kept_cells.specs.run_values.declared.value.Value.TheVariants as value
use Rattle.kept_cells.specs.run_values.declared.value.Kind.{Kind}
use Rattle.kept_cells.specs.run_values.declared.value.Kind.TheVariants as sort
use Rattle.kept_cells.specs.run_values.Values.{kind}
use Rattle.kept_cells.specs.run_values.Arithmetic.{is_integer, sum, difference, product, quotient, modulus, remainder, negation, absolute}
use Rattle.kept_cells.specs.run_values.Items.{at_end}
use Rattle.kept_cells.specs.Cells.{Cell, allocated, changed, released}
use Rattle.machine.specs.Words as machine
use Rattle.machine.specs.Words.{default, access_offsets}
use Rattle.machine.specs.Memory.{at_number}
use Rattle.machine.specs.Evaluate.{Exception, ConstraintError, StorageError, Trap, Touched, heap_words}
use Rattle.machine.specs.Typed.{Sort, Whole, Position, Pointer, sorts}
use Rattle.run_codes.specs.Codes.{Code, Number, Local, Global, Via, Scaled, Plus, Unary, Binary, Short, IsNull, Waiting, EndOfFile, Nothing, Place, InFrame, InPackages, Behind, Fill, Checked, Pointer as LookedAt, MovedPointer, Copied, Moved, Waited, New, Default, Repeated, Both, Empty}

-- While a point is evaluated: the words of all frames, and where the one that runs begins; the cells, how
-- many of them are freed, and how many words the others have; the words of the values that the point
-- takes; and the rest of the input.
pub record Flat : Type 0 where
  pub stack : List ℤ
  pub base : ℕ
  pub cells : List Cell
  pub freed : ℕ
  pub live : ℕ
  pub waits : List ℤ
  pub rest : List ℕ

-- Why a step isn't done. Memory may always be out.
pub data Stop : Type 0 where
  Raises : Exception → Stop
  Traps : Trap → Stop
  Memory : Stop

-- What is read: it is given, or the step stops, or what is asked for isn't there.
pub data Got (A : Type 0) : Type 0 where
  Given : A → Got A
  Stops : Stop → Got A
  Broken : Got A

abbrev pub and_then : {A B : Type 0} → Got A → (A → Got B) → Got B
and_then (Given a) f = f a
and_then (Stops s) f = Stops s
and_then Broken f = Broken

abbrev pub is_broken : {A : Type 0} → Got A → Bool
is_broken Broken = true
is_broken _ = false

abbrev pub found : {A : Type 0} → Option A → Got A
found None = Broken
found (Some a) = Given a

-- Numbers of cells stay far below those of handles.
abbrev pub most_cells : ℕ
most_cells = 144115188075855872

-- Offsets in cells, too.
abbrev pub most_offsets : ℕ
most_offsets = 4294967296

-- ---- words and values

-- The words at the front have some kinds.
abbrev pub same_kind : Kind → Kind → Bool
same_kind sort.Int sort.Int = true
same_kind sort.Enum sort.Enum = true
same_kind sort.Access sort.Access = true
same_kind _ _ = false

abbrev pub kind_of : Sort → Kind
kind_of Whole = sort.Int
kind_of Position = sort.Enum
kind_of (Pointer d) = sort.Access

abbrev pub kinds : Table → ℕ → List Kind
kinds table t = map kind_of (sorts table t)

-- In a cell of the store, the number of a cell is a handle from 0, and further on where it is gone.
abbrev pub gone_from : ℕ
gone_from = 2305843009213693952

abbrev pub word_of : Value → ℤ
word_of (value.Int v) = v
word_of (value.Enum n) = pos n
word_of value.Null = pos 0
word_of (value.Cell h) = if nat_lt h gone_from then pos (suc h) else negsuc (h - gone_from)

abbrev pub access_value : ℤ → Value
access_value (pos zero) = value.Null
access_value (pos (suc n)) = value.Cell n
access_value (negsuc n) = value.Cell (n + gone_from)

abbrev pub value_of : Kind → ℤ → Value
value_of sort.Int z = value.Int z
value_of sort.Enum z = value.Enum (unsigned_abs z)
value_of sort.Access z = access_value z

abbrev pub values : List Kind → List ℤ → List Value
values [] zs = []
values (k ∷ ks) [] = []
values (k ∷ ks) (z ∷ zs) = value_of k z ∷ values ks zs

abbrev pub words_in : List Value → List ℤ
words_in vs = map word_of vs

abbrev pub have_kinds : List Kind → List Value → Bool
have_kinds [] vs = true
have_kinds (k ∷ ks) [] = false
have_kinds (k ∷ ks) (v ∷ vs) = same_kind (kind v) k && have_kinds ks vs

-- The word of a value: of an access value that is gone, the number alone.
abbrev pub as_fresh : Kind → ℤ → ℤ
as_fresh sort.Access z = pos (unsigned_abs z)
as_fresh _ z = z

-- A word is one of a kind.
abbrev pub is_word : Kind → ℤ → Bool
is_word sort.Int z = is_integer z
is_word sort.Enum z = is_integer z && int_le (pos 0) z
is_word sort.Access z = nat_le (unsigned_abs z) most_cells

abbrev pub are_words : List Kind → List ℤ → Bool
are_words [] [] = true
are_words (k ∷ ks) (z ∷ zs) = is_word k z && are_words ks zs
are_words _ _ = false

-- The number of an access value, gone or not.
abbrev pub access : ℤ → Got ℤ
access z = if is_word sort.Access z then Given (pos (unsigned_abs z)) else Broken

abbrev pub as_gone : ℤ → ℤ
as_gone z = neg_ℤ (pos (unsigned_abs z))

abbrev pub value_gone : Value → Value
value_gone (value.Cell h) = if nat_lt h gone_from then value.Cell (h + gone_from) else value.Cell h
value_gone v = v

-- ---- cells that are looked at

abbrev pub constraint : Stop
constraint = Raises ConstraintError

abbrev pub touched : {A : Type 0} → Option Cell → (Cell → Got A) → Got A
touched None f = Broken
touched (Some c) f = if c.freed then Stops (Traps Touched) else f c

abbrev pub value_word : Kind → Option Value → Got ℤ
value_word k None = Broken
value_word k (Some v) = if same_kind (kind v) k then Given (word_of v) else Broken

-- The word of a kind at an offset in the cell that an access value designates.
abbrev pub behind_at : Flat → ℕ → Kind → ℕ → Got ℤ
behind_at m o k zero = Stops constraint
behind_at m o k (suc n) =
    if nat_lt n most_cells && nat_lt o most_offsets then touched (slice_get m.cells n) (λ c. value_word k (slice_get c.words o)) else Broken

abbrev pub behind : Flat → ℕ → Kind → ℤ → Got ℤ
behind m o k w = behind_at m o k (unsigned_abs w)

-- ---- operators

abbrev pub given : Option ℤ → Got ℤ
given None = Stops constraint
given (Some v) = Given v

abbrev pub truth : Bool → ℤ
truth b = if b then pos 1 else pos 0

abbrev pub is_zero : ℤ → Bool
is_zero w = unsigned_abs w == 0

abbrev pub is_above : ℤ → Bool
is_above w = int_lt (pos 0) w

abbrev pub applied : Operator → ℤ → ℤ → Got ℤ
applied operator.Add a b = given (sum a b)
applied operator.Subtract a b = given (difference a b)
applied operator.Multiply a b = given (product a b)
applied operator.Divide a b = given (quotient a b)
applied operator.Modulo a b = given (modulus a b)
applied operator.Remainder a b = given (remainder a b)
applied operator.Equal a b = Given (truth (int_le a b && int_le b a))
applied operator.NotEqual a b = Given (truth (not (int_le a b && int_le b a)))
applied operator.Less a b = Given (truth (int_lt a b))
applied operator.LessEqual a b = Given (truth (int_le a b))
applied operator.Greater a b = Given (truth (int_lt b a))
applied operator.GreaterEqual a b = Given (truth (int_le b a))
applied operator.And a b = Given (truth (is_above a && is_above b))
applied operator.Or a b = Given (truth (is_above a || is_above b))
applied operator.Xor a b = Given (truth (is_above a && not (is_above b) || not (is_above a) && is_above b))
applied _ a b = Broken

-- Operands are values of Integer, or positions.
abbrev pub operated : Operator → ℤ → ℤ → Got ℤ
operated op a b = if is_integer a && is_integer b then applied op a b else Broken

abbrev pub applied_alone : UnaryOperator → ℤ → Got ℤ
applied_alone unary.Not a = Given (truth (not (is_above a)))
applied_alone unary.Plus a = Given a
applied_alone unary.Minus a = given (negation a)
applied_alone unary.Abs a = given (absolute a)

abbrev pub operated_alone : UnaryOperator → ℤ → Got ℤ
operated_alone op a = if is_integer a then applied_alone op a else Broken

abbrev pub decides : ShortCircuit → ℤ → Bool
decides short.AndThen a = is_zero a
decides short.OrElse a = not (is_zero a)

abbrev pub is_between : ℤ → ℤ → ℤ → Bool
is_between low high w = int_le low w && int_le w high

abbrev pub checked : ℤ → ℤ → ℤ → Got ℤ
checked low high w = if is_between low high w then Given w else Stops constraint

abbrev pub offset : ℕ → Got ℤ
offset n = if nat_lt n most_offsets then Given (pos n) else Broken

abbrev pub scaled : ℤ → ℤ → ℕ → ℤ → Got ℤ
scaled low high size w = if is_between low high w then offset (unsigned_abs (w -ℤ low) * size) else Stops constraint

-- ---- expressions

-- The indexes of a name are all evaluated before it is followed.
unfoldable mutual
  pub word : Flat → Code → Got ℤ
  word m (Number v) = Given v
  word m (Local at i) = and_then (word m i) (λ o. found (slice_get m.stack (m.base + at + unsigned_abs o)))
  word m (Global at i) = and_then (word m i) (λ o. found (slice_get m.stack (at + unsigned_abs o)))
  word m (Via p at i k) =
      and_then (indexes m p) (λ x. and_then (word m i) (λ o. and_then (word m p) (behind m (at + unsigned_abs o) k)))
  word m (Scaled i low high size) = and_then (word m i) (scaled low high size)
  word m (Plus a b) = and_then (word m a) (λ x. and_then (word m b) (λ y. offset (unsigned_abs x + unsigned_abs y)))
  word m (Unary op a) = and_then (word m a) (operated_alone op)
  word m (Binary op a b) = and_then (word m a) (λ x. and_then (word m b) (operated op x))
  word m (Short op a b) = and_then (word m a) (λ x. if decides op x then Given x else word m b)
  word m (IsNull equal p) = and_then (word m p) (λ w. Given (truth (if is_zero w then equal else not equal)))
  word m (Waiting at) = found (slice_get m.waits at)
  word m EndOfFile = Given (truth (at_end m.rest))
  word m Nothing = Broken

  -- Those of a name alone: its last one.
  pub indexes : Flat → Code → Got ℤ
  indexes m (Local at i) = word m i
  indexes m (Global at i) = word m i
  indexes m (Via p at i k) = and_then (indexes m p) (λ x. word m i)
  indexes m _ = Given (pos 0)

-- ---- places

-- Where words stand: from an index of the stack on, or from an offset in the cell with a number from 0.
pub data Spot : Type 0 where
  InStack : ℕ → Spot
  InCell : ℕ → ℕ → Spot

abbrev pub cell_spot : Flat → ℕ → ℕ → Got Spot
cell_spot m o zero = Stops constraint
cell_spot m o (suc n) =
    if nat_lt n most_cells && nat_lt o most_offsets then touched (slice_get m.cells n) (λ c. Given (InCell n o)) else Broken

-- Within the stack.
abbrev pub stack_spot : Flat → ℕ → Got Spot
stack_spot m n = if nat_le n (length m.stack) then Given (InStack n) else Broken

abbrev pub spot : Flat → Place → Got Spot
spot m (InFrame at i) = and_then (word m i) (λ o. stack_spot m (m.base + at + unsigned_abs o))
spot m (InPackages at i) = and_then (word m i) (λ o. stack_spot m (at + unsigned_abs o))
spot m (Behind p at i) =
    and_then (indexes m p) (λ x. and_then (word m i) (λ o. and_then (word m p) (λ w. cell_spot m (at + unsigned_abs o) (unsigned_abs w))))

-- ---- what stands at a place

-- As many words as there are kinds, each one of its kind.
abbrev pub front : List Kind → List ℤ → Got (List ℤ)
front [] zs = Given []
front (k ∷ ks) [] = Broken
front (k ∷ ks) (z ∷ zs) = if is_word k z then and_then (front ks zs) (λ more. Given (z ∷ more)) else Broken

-- Words of these kinds stand in a cell from an offset on.
abbrev pub are_in : ℕ → List Kind → Cell → Bool
are_in o ks c = nat_lt (o + length ks) most_offsets && have_kinds ks (drop o c.words)

abbrev pub front_of_cell : ℕ → List Kind → Cell → Got (List ℤ)
front_of_cell o ks c = if are_in o ks c then front ks (drop o (words_in c.words)) else Broken

-- The words of these kinds at a spot, the marks of what is gone among them.
abbrev pub words_at : Flat → Spot → List Kind → Got (List ℤ)
words_at m (InStack n) ks = front ks (drop n m.stack)
words_at m (InCell n o) ks = touched (slice_get m.cells n) (front_of_cell o ks)

abbrev pub all_fresh : List Kind → List ℤ → List ℤ
all_fresh (k ∷ ks) (z ∷ zs) = as_fresh k z ∷ all_fresh ks zs
all_fresh _ _ = []

abbrev pub held : Flat → Spot → List Kind → Got (List ℤ)
held m s ks = and_then (words_at m s ks) (λ zs. Given (all_fresh ks zs))

-- ---- changes

-- Others stand in place of some.
abbrev pub spliced : {A : Type 0} → ℕ → List A → List A → List A
spliced n new all = take n all ++ new ++ drop (n + length new) all

abbrev pub with_stack : Flat → List ℤ → Flat
with_stack m stack = record m { stack = stack }

abbrev pub with_words : Flat → ℕ → ℕ → List Value → Flat
with_words m n o vs = record m { cells = changed (λ c. record c { words = spliced o vs c.words }) m.cells n }

-- Words of these kinds are stored.
abbrev pub stored : Flat → Spot → List Kind → List ℤ → Got Flat
stored m (InStack n) ks zs =
    if nat_le (n + length zs) (length m.stack) then Given (with_stack m (spliced n zs m.stack)) else Broken
stored m (InCell n o) ks zs =
    touched (slice_get m.cells n)
    (λ c. if are_words ks zs && are_in o ks c then Given (with_words m n o (values ks zs)) else Broken)

-- Words at some offsets are gone.
abbrev pub all_gone : List ℕ → List ℤ → List ℤ
all_gone [] zs = zs
all_gone (o ∷ rest) zs = all_gone rest (at_number o as_gone zs)

abbrev pub values_gone : List ℕ → List Value → List Value
values_gone [] vs = vs
values_gone (o ∷ rest) vs = values_gone rest (at_number o value_gone vs)

-- Access values stand at these offsets.
abbrev pub is_pointer : Option Kind → Bool
is_pointer (Some sort.Access) = true
is_pointer _ = false

abbrev pub are_pointers : List Kind → List ℕ → Bool
are_pointers ks gone = list_all (λ o. is_pointer (slice_get ks o)) gone

abbrev pub moved_out : Flat → Spot → List Kind → List ℕ → Got Flat
moved_out m (InStack n) ks gone =
    if are_pointers ks gone
    then and_then (front ks (drop n m.stack)) (λ zs. Given (with_stack m (spliced n (all_gone gone zs) m.stack))) else Broken
moved_out m (InCell n o) ks gone =
    touched (slice_get m.cells n)
    (λ c. if are_pointers ks gone && are_in o ks c then Given (with_words m n o (values_gone gone (take (length ks) (drop o c.words)))) else Broken)

-- ---- evaluation that moves and makes

-- It ends with a value and a memory, or stops with a memory.
pub data Made (A : Type 0) : Type 0 where
  Done : A → Flat → Made A
  Halted : Stop → Flat → Made A
  Failed : Made A

abbrev pub made_then : {A B : Type 0} → Made A → (A → Flat → Made B) → Made B
made_then (Done a m) f = f a m
made_then (Halted s m) f = Halted s m
made_then Failed f = Failed

-- What is only read.
abbrev pub reads : {A B : Type 0} → Flat → Got A → (A → Made B) → Made B
reads m (Given a) f = f a
reads m (Stops s) f = Halted s m
reads m Broken f = Failed

-- ---- cells that are made and freed

abbrev pub with_cell : Flat → List Value → Flat
with_cell m vs = record m {
  cells = allocated m.cells vs;
  live = m.live + length vs;
}

-- A new cell, and its number.
abbrev pub made : Flat → List Kind → List ℤ → Made (List ℤ)
made m ks zs =
    if not (are_words ks zs) then Failed
    else (if nat_le (m.live + length zs) heap_words
    then (if nat_lt (length m.cells) most_cells then Done (pos (suc (length m.cells)) ∷ []) (with_cell m (values ks zs)) else Halted Memory m)
    else Halted (Raises StorageError) m)

abbrev pub without_cell : Flat → ℕ → ℕ → Flat
without_cell m n size = record m {
  cells = released m.cells n;
  freed = suc m.freed;
  live = m.live - size;
}

-- ---- values

-- The words of an object without a value.
abbrev pub untagged : machine.Word → ℤ
untagged (machine.Int v) = v
untagged (machine.Enumerated n) = pos n
untagged machine.Null = pos 0
untagged (machine.Cell n) = pos n

abbrev pub default_words : Table → ℕ → List ℤ
default_words table t = map untagged (default table t)

abbrev pub repeated : ℕ → List ℤ → List ℤ
repeated zero zs = []
repeated (suc n) zs = zs ++ repeated n zs

-- So many words from an offset on.
abbrev pub some_words : ℕ → List ℤ → Got (List ℤ)
some_words n zs = if nat_le n (length zs) then Given (take n zs) else Broken

unfoldable pub filled : Table → Fill → Flat → Made (List ℤ)
filled table (Checked c low high) m = reads m (and_then (word m c) (checked low high)) (λ w. Done (w ∷ []) m)
filled table (LookedAt c) m = reads m (and_then (word m c) access) (λ w. Done (w ∷ []) m)
filled table (MovedPointer p) m =
    reads m (spot m p) (λ s. reads m (held m s (sort.Access ∷ [])) (λ zs. reads m (moved_out m s (sort.Access ∷ []) (0 ∷ [])) (Done zs)))
filled table (Copied p of) m = reads m (spot m p) (λ s. reads m (held m s (kinds table of)) (λ zs. Done zs m))
filled table (Moved p of) m =
    reads m (spot m p) (λ s. reads m (held m s (kinds table of)) (λ zs. reads m (moved_out m s (kinds table of) (access_offsets table of)) (Done zs)))
filled table (Waited at n) m = reads m (some_words n (drop at m.waits)) (λ zs. Done zs m)
filled table (New v of) m = made_then (filled table v m) (λ zs n. made n (kinds table of) zs)
filled table (Default of) m = Done (default_words table of) m
filled table (Repeated v n) m = made_then (filled table v m) (λ zs. Done (repeated n zs))
filled table (Both a b) m = made_then (filled table a m) (λ zs n. made_then (filled table b n) (λ us. Done (zs ++ us)))
filled table Empty m = Done [] m
