-- Static expressions and their values (docs/LANGUAGE.md, "Types"; Ada 2012, 4.9).
use Rattle.std.specs.Prelude.{ℕ, Bool, true, false, not, ◌&&◌, ◌||◌, nat_eq, Option, Some, None, option_and_then, ℤ, pos, negsuc, ◌+ℤ◌, ◌-ℤ◌, ◌*ℤ◌, neg_ℤ, unsigned_abs, int_lt, int_le, int_div, int_rem, if◌then◌else◌}
use Rattle.resolved_tree.specs.declared.operator.Operator.{Operator}
use Rattle.resolved_tree.specs.declared.operator.Operator.TheVariants as operator
use Rattle.resolved_tree.specs.declared.operator.UnaryOperator.{UnaryOperator}
use Rattle.resolved_tree.specs.declared.operator.UnaryOperator.TheVariants as unary
use Rattle.resolved_tree.specs.Trees.{Tree, Number, Named, Parens, Unary, Binary, Attr, NoMore, More}
use Rattle.type_definitions.specs.declared.table.Static.{Static}
use Rattle.type_definitions.specs.declared.table.Entry.{Entry}
use Rattle.type_definitions.specs.declared.table.Entry.TheVariants as entry
use Rattle.type_definitions.specs.declared.judgement.Reading.{Reading}
use Rattle.type_definitions.specs.declared.judgement.Reading.TheVariants as reading
use Rattle.type_definitions.specs.Types.{full, is_scalar}
use Rattle.type_definitions.specs.Entries.{entry_of, integer, boolean}
use Rattle.type_definitions.specs.Names.{Context, reading_of}

-- The values of Integer.
abbrev pub as_integer : ℤ → Option ℤ
as_integer v = if int_le (negsuc 2147483647) v && int_le v (pos 2147483647) then Some v else None

abbrev pub static : ℕ → Option ℤ → Option Static
static t None = None
static t (Some v) = Some (record { base = t; value = v; sound = true })

-- An operation on other types breaks K1 at an operand. It has a value all the same, so that K7 isn't
-- broken by it as well, but nothing is concluded from that.
abbrev pub ill_typed : Option Static
ill_typed = Some (record { base = integer; value = pos 0; sound = false })

abbrev pub truth : Bool → ℤ
truth true = pos 1
truth false = pos 0

abbrev pub is_truth : ℤ → Bool
is_truth v = int_lt (pos 0) v

-- The remainder with the sign of the divisor.
abbrev pub int_mod : ℤ → ℤ → ℤ
int_mod a b =
    let r = int_rem a b in
    if int_lt r (pos 0) && int_lt (pos 0) b || int_lt (pos 0) r && int_lt b (pos 0) then r +ℤ b else r

abbrev pub nonzero : ℤ → Option ℤ → Option ℤ
nonzero b v = if int_lt b (pos 0) || int_lt (pos 0) b then v else None

-- The value of an operation on two numbers of one type, where it doesn't raise. The first argument
-- says whether the type is Integer, the second whether it is Boolean.
abbrev pub operate : Bool → Bool → Operator → ℕ → ℤ → ℤ → Option Static
operate whole logical operator.Equal t a b = static boolean (Some (truth (int_le a b && int_le b a)))
operate whole logical operator.NotEqual t a b = static boolean (Some (truth (not (int_le a b && int_le b a))))
operate whole logical operator.Less t a b = static boolean (Some (truth (int_lt a b)))
operate whole logical operator.LessEqual t a b = static boolean (Some (truth (int_le a b)))
operate whole logical operator.Greater t a b = static boolean (Some (truth (int_lt b a)))
operate whole logical operator.GreaterEqual t a b = static boolean (Some (truth (int_le b a)))
operate true logical operator.Add t a b = static integer (as_integer (a +ℤ b))
operate true logical operator.Subtract t a b = static integer (as_integer (a -ℤ b))
operate true logical operator.Multiply t a b = static integer (as_integer (a *ℤ b))
operate true logical operator.Divide t a b = static integer (nonzero b (as_integer (int_div a b)))
operate true logical operator.Modulo t a b = static integer (nonzero b (as_integer (int_mod a b)))
operate true logical operator.Remainder t a b = static integer (nonzero b (as_integer (int_rem a b)))
operate whole true operator.And t a b = static boolean (Some (truth (is_truth a && is_truth b)))
operate whole true operator.Or t a b = static boolean (Some (truth (is_truth a || is_truth b)))
operate whole true operator.Xor t a b = static boolean (Some (truth (is_truth a && not (is_truth b) || not (is_truth a) && is_truth b)))
operate whole true operator.AndThen t a b = static boolean (Some (truth (is_truth a && is_truth b)))
operate whole true operator.OrElse t a b = static boolean (Some (truth (is_truth a || is_truth b)))
operate _ _ _ t a b = ill_typed

abbrev pub both : Operator → Static → Static → Option Static
both op a b =
    if nat_eq a.base b.base
    then operate (nat_eq a.base integer) (nat_eq a.base boolean) op a.base a.value b.value
    else ill_typed

-- A short circuit that its left operand decides has no value of its right operand.
abbrev pub left_decides : Operator → Static → Bool
left_decides operator.AndThen a = nat_eq a.base boolean && not (is_truth a.value)
left_decides operator.OrElse a = nat_eq a.base boolean && is_truth a.value
left_decides _ a = false

-- A short circuit may have a value though its right operand has none.
abbrev pub two : Operator → Option Static → Option Static → Option Static
two op None b = None
two op (Some a) None = if left_decides op a then Some a else None
two op (Some a) (Some b) =
    if not (a.sound && b.sound) then ill_typed else if left_decides op a then Some a else both op a b

abbrev pub one_sound : UnaryOperator → Static → Option Static
one_sound unary.Not a = if nat_eq a.base boolean then static boolean (Some (truth (not (is_truth a.value)))) else ill_typed
one_sound unary.Plus a = if nat_eq a.base integer then Some a else ill_typed
one_sound unary.Minus a = if nat_eq a.base integer then static integer (as_integer (neg_ℤ a.value)) else ill_typed
one_sound unary.Abs a = if nat_eq a.base integer then static integer (as_integer (pos (unsigned_abs a.value))) else ill_typed

abbrev pub one : UnaryOperator → Static → Option Static
one op a = if a.sound then one_sound op a else ill_typed

-- The number 2147483648 has a value only as the operand of a unary minus.
abbrev pub is_alone : UnaryOperator → Tree → Bool
is_alone unary.Minus (Number p n) = nat_eq n 2147483648
is_alone _ _ = false

-- A name is static where it is a literal, a static constant, or First or Last of a scalar subtype.
abbrev pub name_is_static : Bool → Entry → Tree → Reading → Bool
name_is_static true entry.Type (More (Attr a) NoMore) (reading.Value t v) = true
name_is_static scalar (entry.Literal t n) NoMore r = true
name_is_static scalar (entry.Object o) NoMore r = o.is_static
name_is_static _ _ _ _ = false

abbrev pub name_value : Entry → Reading → Option Static
name_value (entry.Object o) r = o.value
name_value e (reading.Value t v) = static t (as_integer v)
name_value e _ = ill_typed

-- Built of literals, static constants, First and Last of scalar subtypes, and operators.
unfoldable pub is_static : Context → Tree → Bool
is_static c (Number p n) = true
is_static c (Named p d rest) = name_is_static (is_scalar (full c.known.table d)) (entry_of c.known d) rest (reading_of c d rest)
is_static c (Parens p e) = is_static c e
is_static c (Unary p op e) = is_static c e
is_static c (Binary p operator.Concatenate a b) = false
is_static c (Binary p op a b) = is_static c a && is_static c b
is_static c _ = false

-- The value of a static expression: none where it raises or leaves Integer on the way.
unfoldable pub value : Context → Tree → Option Static
value c (Number p n) = static integer (as_integer (pos n))
value c (Named p d rest) = name_value (entry_of c.known d) (reading_of c d rest)
value c (Parens p e) = value c e
value c (Unary p op e) = if is_alone op e then static integer (Some (negsuc 2147483647)) else option_and_then (one op) (value c e)
value c (Binary p op a b) = two op (value c a) (value c b)
value c _ = ill_typed

-- A value of a type from which something is concluded.
abbrev pub is_sound : ℕ → Option Static → Bool
is_sound b None = false
is_sound b (Some v) = v.sound && nat_eq v.base b

-- The value of what is declared of a type: none other is sound.
abbrev pub value_as : ℕ → Option Static → Option Static
value_as b None = None
value_as b (Some v) = if v.sound && nat_eq v.base b then Some v else ill_typed
