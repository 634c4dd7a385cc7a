-- The values of static expressions are values of Integer.
use Rattle.std.proofs.Common.{◌≡◌, ℕ, Bool, true, false, ◌&&◌, not, refl, nat_eq, ℤ, pos, negsuc, int_lt, int_le, Option, Some, None, if◌then◌else◌}
use Rattle.std.specs.Prelude.{option_and_then, neg_ℤ, unsigned_abs, ◌||◌, ◌+ℤ◌, ◌-ℤ◌, ◌*ℤ◌, int_div, int_rem}
use Rattle.machine.specs.resolved_tree.declared.operator.Operator.{Operator}
use Rattle.machine.specs.resolved_tree.declared.operator.Operator.TheVariants as operator
use Rattle.machine.specs.resolved_tree.declared.operator.UnaryOperator.{UnaryOperator}
use Rattle.machine.specs.resolved_tree.declared.operator.UnaryOperator.TheVariants as unary
use Rattle.machine.specs.resolved_tree.Trees.{Tree, Number, Named, Parens, Unary, Binary}
use Rattle.kept_cells.specs.run_values.Arithmetic.{is_integer}
use Rattle.machine.specs.type_definitions.declared.table.Static.{Static}
use Rattle.machine.specs.type_definitions.declared.table.Entry.{Entry}
use Rattle.machine.specs.type_definitions.declared.table.Entry.TheVariants as entry
use Rattle.machine.specs.type_definitions.declared.judgement.Reading.{Reading}
use Rattle.machine.specs.type_definitions.declared.judgement.Reading.TheVariants as reading
use Rattle.machine.specs.type_definitions.Entries.{entry_of, integer, boolean}
use Rattle.machine.specs.type_definitions.Names.{Context, reading_of}
use Rattle.machine.specs.type_definitions.Statics.{as_integer, static, ill_typed, truth, is_truth, int_mod, nonzero, operate, both, left_decides, two, one_sound, one, is_alone, name_value, value, value_as}
use Rattle.machine.specs.type_definitions.Statements.{known_value}

-- A value that there is, is one of Integer.
abbrev pub IsWhole : Option Static → Type 0
IsWhole None = Unit {0}
IsWhole (Some v) = is_integer v.value ≡ true

-- That of an object.
abbrev pub IsWholeEntry : Entry → Type 0
IsWholeEntry (entry.Object o) = IsWhole o.value
IsWholeEntry e = Unit {0}

clamped : (t : ℕ) (v : ℤ) → IsWhole (static t (as_integer v))
clamped t v = by (is_integer v) refl
  where
    by : (b : Bool) → is_integer v ≡ b → IsWhole (static t (if b then Some v else None))
    by true is = is
    by false is = tt

clamped_nonzero : (t : ℕ) (b v : ℤ) → IsWhole (static t (nonzero b (as_integer v)))
clamped_nonzero t b v = by (int_lt b (pos 0) || int_lt (pos 0) b)
  where
    by : (k : Bool) → IsWhole (static t (if k then as_integer v else None))
    by true = clamped t v
    by false = tt

truths : (t : ℕ) (b : Bool) → IsWhole (static t (Some (truth b)))
truths t true = refl
truths t false = refl

operated : (whole logical : Bool) (op : Operator) (t : ℕ) (a b : ℤ) → IsWhole (operate whole logical op t a b)
operated whole logical operator.Equal t a b = truths boolean (int_le a b && int_le b a)
operated whole logical operator.NotEqual t a b = truths boolean (not (int_le a b && int_le b a))
operated whole logical operator.Less t a b = truths boolean (int_lt a b)
operated whole logical operator.LessEqual t a b = truths boolean (int_le a b)
operated whole logical operator.Greater t a b = truths boolean (int_lt b a)
operated whole logical operator.GreaterEqual t a b = truths boolean (int_le b a)
operated true logical operator.Add t a b = clamped integer (a +ℤ b)
operated true logical operator.Subtract t a b = clamped integer (a -ℤ b)
operated true logical operator.Multiply t a b = clamped integer (a *ℤ b)
operated true logical operator.Divide t a b = clamped_nonzero integer b (int_div a b)
operated true logical operator.Modulo t a b = clamped_nonzero integer b (int_mod a b)
operated true logical operator.Remainder t a b = clamped_nonzero integer b (int_rem a b)
operated false logical operator.Add t a b = refl
operated false logical operator.Subtract t a b = refl
operated false logical operator.Multiply t a b = refl
operated false logical operator.Divide t a b = refl
operated false logical operator.Modulo t a b = refl
operated false logical operator.Remainder t a b = refl
operated whole true operator.And t a b = truths boolean (is_truth a && is_truth b)
operated whole true operator.Or t a b = truths boolean (is_truth a || is_truth b)
operated whole true operator.Xor t a b = truths boolean (is_truth a && not (is_truth b) || not (is_truth a) && is_truth b)
operated whole true operator.AndThen t a b = truths boolean (is_truth a && is_truth b)
operated whole true operator.OrElse t a b = truths boolean (is_truth a || is_truth b)
operated whole false operator.And t a b = refl
operated whole false operator.Or t a b = refl
operated whole false operator.Xor t a b = refl
operated whole false operator.AndThen t a b = refl
operated whole false operator.OrElse t a b = refl
operated whole logical operator.Concatenate t a b = refl

both_whole : (op : Operator) (a b : Static) → IsWhole (both op a b)
both_whole op a b = by (nat_eq a.base b.base)
  where
    by : (k : Bool) → IsWhole (if k then operate (nat_eq a.base integer) (nat_eq a.base boolean) op a.base a.value b.value else ill_typed)
    by true = operated (nat_eq a.base integer) (nat_eq a.base boolean) op a.base a.value b.value
    by false = refl

two_whole : (op : Operator) (a b : Option Static) → IsWhole a → IsWhole b → IsWhole (two op a b)
two_whole op None b first second = tt
two_whole op (Some a) None first second = by (left_decides op a)
  where
    by : (k : Bool) → IsWhole (if k then Some a else None)
    by true = first
    by false = tt
two_whole op (Some a) (Some b) first second = by (a.sound && b.sound) (left_decides op a)
  where
    by : (k d : Bool) → IsWhole (if not k then ill_typed else if d then Some a else both op a b)
    by false d = refl
    by true true = first
    by true false = both_whole op a b

one_whole : (op : UnaryOperator) (a : Static) → is_integer a.value ≡ true → IsWhole (one op a)
one_whole op a is = by a.sound op
  where
    sound : (op : UnaryOperator) → IsWhole (one_sound op a)
    sound unary.Not = logical (nat_eq a.base boolean)
      where
        logical : (k : Bool) → IsWhole (if k then static boolean (Some (truth (not (is_truth a.value)))) else ill_typed)
        logical true = truths boolean (not (is_truth a.value))
        logical false = refl
    sound unary.Plus = whole (nat_eq a.base integer)
      where
        whole : (k : Bool) → IsWhole (if k then Some a else ill_typed)
        whole true = is
        whole false = refl
    sound unary.Minus = whole (nat_eq a.base integer)
      where
        whole : (k : Bool) → IsWhole (if k then static integer (as_integer (neg_ℤ a.value)) else ill_typed)
        whole true = clamped integer (neg_ℤ a.value)
        whole false = refl
    sound unary.Abs = whole (nat_eq a.base integer)
      where
        whole : (k : Bool) → IsWhole (if k then static integer (as_integer (pos (unsigned_abs a.value))) else ill_typed)
        whole true = clamped integer (pos (unsigned_abs a.value))
        whole false = refl

    by : (k : Bool) (op : UnaryOperator) → IsWhole (if k then one_sound op a else ill_typed)
    by true op = sound op
    by false op = refl

then_one : (op : UnaryOperator) (a : Option Static) → IsWhole a → IsWhole (option_and_then (one op) a)
then_one op None is = tt
then_one op (Some a) is = one_whole op a is

named_whole : (e : Entry) (r : Reading) → IsWholeEntry e → IsWhole (name_value e r)
named_whole (entry.Object o) r is = is
named_whole e (reading.Value t v) is = clamped t v
named_whole e r is = refl

alone_whole : (b : Bool) (v : Option Static) → IsWhole v → IsWhole (if b then static integer (Some (negsuc 2147483647)) else v)
alone_whole true v is = refl
alone_whole false v is = is

pub value_whole : (c : Context) → ((d : ℕ) → IsWholeEntry (entry_of c.known d)) → (e : Tree) → IsWhole (value c e)
unfolding value
value_whole c entries (Number p n) = clamped integer (pos n)
value_whole c entries (Named p d rest) = named_whole (entry_of c.known d) (reading_of c d rest) (entries d)
value_whole c entries (Parens p e) = value_whole c entries e
value_whole c entries (Unary p op e) = alone_whole (is_alone op e) (option_and_then (one op) (value c e)) (then_one op (value c e) (value_whole c entries e))
value_whole c entries (Binary p op a b) = two_whole op (value c a) (value c b) (value_whole c entries a) (value_whole c entries b)
value_whole c entries _ = refl

pub known_whole : (v : Option Static) → IsWhole v → is_integer (known_value v) ≡ true
known_whole None is = refl
known_whole (Some v) is = is

pub as_whole : (b : ℕ) (v : Option Static) → IsWhole v → IsWhole (value_as b v)
as_whole b None is = tt
as_whole b (Some v) is = by (v.sound && nat_eq v.base b)
  where
    by : (k : Bool) → IsWhole (if k then Some v else ill_typed)
    by true = is
    by false = refl
