-- What operators give over words without tags is what they give on the machine.
use Rattle.std.proofs.Common.{◌≡◌, ℕ, zero, suc, true, false, Bool, not, ◌&&◌, ◌||◌, IsTrue, List, [], ◌∷◌, refl, sym, ap, subst, ◌∙◌, arith, Option, Some, None, ℤ, pos, if◌then◌else◌}
use Rattle.std.specs.Prelude.{unsigned_abs, int_le, int_lt, int_div, int_rem, ◌+ℤ◌, ◌-ℤ◌, ◌*ℤ◌, neg_ℤ, ◌==◌}
use Rattle.machine.specs.resolved_tree.declared.operator.Operator.{Operator}
use Rattle.machine.specs.resolved_tree.declared.operator.Operator.TheVariants as operator
use Rattle.machine.specs.resolved_tree.declared.operator.UnaryOperator.{UnaryOperator}
use Rattle.machine.specs.resolved_tree.declared.operator.UnaryOperator.TheVariants as unary
use Rattle.machine.specs.typed_tree.declared.node.ShortCircuit.{ShortCircuit}
use Rattle.machine.specs.typed_tree.declared.node.ShortCircuit.TheVariants as short
use Rattle.kept_cells.specs.run_values.Arithmetic.{is_integer, fits, int_mod, sum, difference, product, quotient, modulus, remainder, negation, absolute}
use Rattle.machine.specs.type_definitions.Entries.{integer, boolean}
use Rattle.machine.specs.type_definitions.Statics as statics
use Rattle.machine.specs.Words.{Word, Int, Enumerated}
use Rattle.machine.specs.Typed.{Sort, Whole, Position, Pointer, takes_whole, takes_truth, compares_words, is_not}
use Rattle.machine.specs.Evaluate.{Now, Evaluated, Done, followed_by, operated, operated_alone, given, truth, is_null, decides, is_true}
use Rattle.run_codes.specs.Flat.{Got, Given, Stops, Broken, Stop, and_then, applied, applied_alone, constraint, is_zero, is_above}
use Rattle.run_codes.specs.Flat as flat
use Rattle.run_codes.specs.Related.{Stands, PointsTo, Seen, table, now, types, Same}
use Rattle.run_codes.proofs.Places.{if_some, some_same, same_by, stopped_on}

-- ---- values of Integer, and truths

fits_in : (v u : ℤ) → fits v ≡ Some u → IsTrue (is_integer u)
fits_in v u is =
    let sure = if_some (is_integer v) (Some v) u is in
    let same : v ≡ u = some_same v u sure.1 in
    subst (λ k. is_integer k ≡ true) same sure.0

nonzero_in : (b v u : ℤ) → (if int_lt b (pos 0) || int_lt (pos 0) b then fits v else None) ≡ Some u → IsTrue (is_integer u)
nonzero_in b v u is = fits_in v u (if_some (int_lt b (pos 0) || int_lt (pos 0) b) (fits v) u is).1

-- A value of Integer, or Constraint_Error.
whole_same : (e : Seen) (k : ℕ) (o : Option ℤ) → ((u : ℤ) → o ≡ Some u → IsTrue (is_integer u))
    → Same e Whole k (given (statics.static integer o) (now e k)) (flat.given o)
whole_same e k None within = (now e k, refl, refl)
whole_same e k (Some v) within = (Int v, refl, (refl, within v refl))

pub truth_same : (e : Seen) (k : ℕ) (b : Bool) → Same e Position k (Done (truth b) (now e k)) (Given (flat.truth b))
truth_same e k true = (Enumerated 1, refl, (refl, refl, refl))
truth_same e k false = (Enumerated 0, refl, (refl, refl, refl))

static_same : (e : Seen) (k : ℕ) (b : Bool) → Same e Position k (given (statics.static boolean (Some (statics.truth b))) (now e k)) (Given (flat.truth b))
static_same e k true = (Enumerated 1, refl, (refl, refl, refl))
static_same e k false = (Enumerated 0, refl, (refl, refl, refl))

never : {A : Type 0} → false ≡ true → A
never is = absurd (no_way is)
  where
    no_way : false ≡ true → ⊥
    no_way x = cc

-- ---- two operands

whole_applied : (e : Seen) (k : ℕ) (op : Operator) (a b : ℤ) → takes_whole op ≡ true
    → Same e Whole k (operated op (Int a ∷ []) (Int b ∷ []) (now e k)) (applied op a b)
whole_applied e k operator.Add a b sure = whole_same e k (sum a b) (λ u is. fits_in (a +ℤ b) u is)
whole_applied e k operator.Subtract a b sure = whole_same e k (difference a b) (λ u is. fits_in (a -ℤ b) u is)
whole_applied e k operator.Multiply a b sure = whole_same e k (product a b) (λ u is. fits_in (a *ℤ b) u is)
whole_applied e k operator.Divide a b sure = whole_same e k (quotient a b) (λ u is. nonzero_in b (int_div a b) u is)
whole_applied e k operator.Modulo a b sure = whole_same e k (modulus a b) (λ u is. nonzero_in b (int_mod a b) u is)
whole_applied e k operator.Remainder a b sure = whole_same e k (remainder a b) (λ u is. nonzero_in b (int_rem a b) u is)
whole_applied e k _ a b sure = never sure

whole_compared : (e : Seen) (k : ℕ) (op : Operator) (a b : ℤ) → compares_words op ≡ true
    → Same e Position k (operated op (Int a ∷ []) (Int b ∷ []) (now e k)) (applied op a b)
whole_compared e k operator.Equal a b sure = static_same e k (int_le a b && int_le b a)
whole_compared e k operator.NotEqual a b sure = static_same e k (not (int_le a b && int_le b a))
whole_compared e k operator.Less a b sure = static_same e k (int_lt a b)
whole_compared e k operator.LessEqual a b sure = static_same e k (int_le a b)
whole_compared e k operator.Greater a b sure = static_same e k (int_lt b a)
whole_compared e k operator.GreaterEqual a b sure = static_same e k (int_le b a)
whole_compared e k _ a b sure = never sure

position_compared : (e : Seen) (k : ℕ) (op : Operator) (a b : ℕ) → compares_words op ≡ true
    → Same e Position k (operated op (Enumerated a ∷ []) (Enumerated b ∷ []) (now e k)) (applied op (pos a) (pos b))
position_compared e k operator.Equal a b sure = static_same e k (int_le (pos a) (pos b) && int_le (pos b) (pos a))
position_compared e k operator.NotEqual a b sure = static_same e k (not (int_le (pos a) (pos b) && int_le (pos b) (pos a)))
position_compared e k operator.Less a b sure = static_same e k (int_lt (pos a) (pos b))
position_compared e k operator.LessEqual a b sure = static_same e k (int_le (pos a) (pos b))
position_compared e k operator.Greater a b sure = static_same e k (int_lt (pos b) (pos a))
position_compared e k operator.GreaterEqual a b sure = static_same e k (int_le (pos b) (pos a))
position_compared e k _ a b sure = never sure

position_joined : (e : Seen) (k : ℕ) (op : Operator) (a b : ℕ) → takes_truth op ≡ true
    → Same e Position k (operated op (Enumerated a ∷ []) (Enumerated b ∷ []) (now e k)) (applied op (pos a) (pos b))
position_joined e k operator.And a b sure = static_same e k (is_above (pos a) && is_above (pos b))
position_joined e k operator.Or a b sure = static_same e k (is_above (pos a) || is_above (pos b))
position_joined e k operator.Xor a b sure = static_same e k (is_above (pos a) && not (is_above (pos b)) || not (is_above (pos a)) && is_above (pos b))
position_joined e k _ a b sure = never sure

-- Operands are values of Integer.
operated_whole : (e : Seen) (k : ℕ) (st : Sort) (op : Operator) → ((a b : ℤ) → Same e st k (operated op (Int a ∷ []) (Int b ∷ []) (now e k)) (applied op a b))
    → (w v : Word) (x y : ℤ) → Stands (table e) (types e.memory) Whole w x → Stands (table e) (types e.memory) Whole v y
    → Same e st k (operated op (w ∷ []) (v ∷ []) (now e k)) (flat.operated op x y)
operated_whole e k st op on w v x y a b =
    let got_is : flat.operated op x y ≡ applied op x y =
    ap (λ j. if j && is_integer y then applied op x y else Broken) a.1 ∙ ap (λ j. if true && j then applied op x y else Broken) b.1 in
    subst (λ g. Same e st k (operated op (w ∷ []) (v ∷ []) (now e k)) g) (sym got_is)
    (subst (λ j. Same e st k (operated op (j ∷ []) (v ∷ []) (now e k)) (applied op x y)) (sym a.0)
    (subst (λ j. Same e st k (operated op (Int x ∷ []) (j ∷ []) (now e k)) (applied op x y)) (sym b.0) (on x y)))

operated_position : (e : Seen) (k : ℕ) (st : Sort) (op : Operator)
    → ((a b : ℕ) → Same e st k (operated op (Enumerated a ∷ []) (Enumerated b ∷ []) (now e k)) (applied op (pos a) (pos b)))
    → (w v : Word) (x y : ℤ) → Stands (table e) (types e.memory) Position w x → Stands (table e) (types e.memory) Position v y
    → Same e st k (operated op (w ∷ []) (v ∷ []) (now e k)) (flat.operated op x y)
operated_position e k st op on w v x y a b =
    let m : ℕ = unsigned_abs x in
    let n : ℕ = unsigned_abs y in
    let got_is : flat.operated op x y ≡ applied op x y =
    ap (λ j. if j && is_integer y then applied op x y else Broken) a.2 ∙ ap (λ j. if true && j then applied op x y else Broken) b.2 in
    let all : Same e st k (operated op (Enumerated m ∷ []) (Enumerated n ∷ []) (now e k)) (applied op x y) =
    subst (λ j. Same e st k (operated op (Enumerated m ∷ []) (Enumerated n ∷ []) (now e k)) (applied op j y)) (sym a.1)
    (subst (λ j. Same e st k (operated op (Enumerated m ∷ []) (Enumerated n ∷ []) (now e k)) (applied op (pos m) j)) (sym b.1) (on m n)) in
    subst (λ g. Same e st k (operated op (w ∷ []) (v ∷ []) (now e k)) g) (sym got_is)
    (subst (λ j. Same e st k (operated op (j ∷ []) (v ∷ []) (now e k)) (applied op x y)) (sym a.0)
    (subst (λ j. Same e st k (operated op (Enumerated m ∷ []) (j ∷ []) (now e k)) (applied op x y)) (sym b.0) all))

pub wholes : (e : Seen) (k : ℕ) (op : Operator) → takes_whole op ≡ true → (w v : Word) (x y : ℤ)
    → Stands (table e) (types e.memory) Whole w x → Stands (table e) (types e.memory) Whole v y
    → Same e Whole k (operated op (w ∷ []) (v ∷ []) (now e k)) (flat.operated op x y)
wholes e k op sure = operated_whole e k Whole op (λ a b. whole_applied e k op a b sure)

pub wholes_compared : (e : Seen) (k : ℕ) (op : Operator) → compares_words op ≡ true → (w v : Word) (x y : ℤ)
    → Stands (table e) (types e.memory) Whole w x → Stands (table e) (types e.memory) Whole v y
    → Same e Position k (operated op (w ∷ []) (v ∷ []) (now e k)) (flat.operated op x y)
wholes_compared e k op sure = operated_whole e k Position op (λ a b. whole_compared e k op a b sure)

pub positions_joined : (e : Seen) (k : ℕ) (op : Operator) → takes_truth op ≡ true → (w v : Word) (x y : ℤ)
    → Stands (table e) (types e.memory) Position w x → Stands (table e) (types e.memory) Position v y
    → Same e Position k (operated op (w ∷ []) (v ∷ []) (now e k)) (flat.operated op x y)
positions_joined e k op sure = operated_position e k Position op (λ a b. position_joined e k op a b sure)

pub positions_compared : (e : Seen) (k : ℕ) (op : Operator) → compares_words op ≡ true → (w v : Word) (x y : ℤ)
    → Stands (table e) (types e.memory) Position w x → Stands (table e) (types e.memory) Position v y
    → Same e Position k (operated op (w ∷ []) (v ∷ []) (now e k)) (flat.operated op x y)
positions_compared e k op sure = operated_position e k Position op (λ a b. position_compared e k op a b sure)

-- ---- one operand

whole_alone : (e : Seen) (k : ℕ) (op : UnaryOperator) (a : ℤ) → is_not op ≡ false → IsTrue (is_integer a)
    → Same e Whole k (operated_alone op (Int a ∷ []) (now e k)) (applied_alone op a)
whole_alone e k unary.Plus a sure is = (Int a, refl, (refl, is))
whole_alone e k unary.Minus a sure is = whole_same e k (negation a) (λ u j. fits_in (neg_ℤ a) u j)
whole_alone e k unary.Abs a sure is = whole_same e k (absolute a) (λ u j. fits_in (pos (unsigned_abs a)) u j)
whole_alone e k unary.Not a sure is = never (sym sure)

position_alone : (e : Seen) (k : ℕ) (op : UnaryOperator) (a : ℕ) → is_not op ≡ true
    → Same e Position k (operated_alone op (Enumerated a ∷ []) (now e k)) (applied_alone op (pos a))
position_alone e k unary.Not a sure = static_same e k (not (is_above (pos a)))
position_alone e k unary.Plus a sure = never sure
position_alone e k unary.Minus a sure = never sure
position_alone e k unary.Abs a sure = never sure

pub whole_one : (e : Seen) (k : ℕ) (op : UnaryOperator) → is_not op ≡ false → (w : Word) (x : ℤ) → Stands (table e) (types e.memory) Whole w x
    → Same e Whole k (operated_alone op (w ∷ []) (now e k)) (flat.operated_alone op x)
whole_one e k op sure w x a =
    subst (λ g. Same e Whole k (operated_alone op (w ∷ []) (now e k)) g) (sym (ap (λ j. if j then applied_alone op x else Broken) a.1))
    (subst (λ j. Same e Whole k (operated_alone op (j ∷ []) (now e k)) (applied_alone op x)) (sym a.0) (whole_alone e k op x sure a.1))

pub position_one : (e : Seen) (k : ℕ) (op : UnaryOperator) → is_not op ≡ true → (w : Word) (x : ℤ) → Stands (table e) (types e.memory) Position w x
    → Same e Position k (operated_alone op (w ∷ []) (now e k)) (flat.operated_alone op x)
position_one e k op sure w x a =
    subst (λ g. Same e Position k (operated_alone op (w ∷ []) (now e k)) g) (sym (ap (λ j. if j then applied_alone op x else Broken) a.2))
    (subst (λ j. Same e Position k (operated_alone op (j ∷ []) (now e k)) (applied_alone op x)) (sym a.0)
    (subst (λ j. Same e Position k (operated_alone op (Enumerated (unsigned_abs x) ∷ []) (now e k)) (applied_alone op j)) (sym a.1) (position_alone e k op (unsigned_abs x) sure)))

-- ---- truths, and tests for null

pub truth_is : (e : Seen) (w : Word) (z : ℤ) → Stands (table e) (types e.memory) Position w z → is_true (w ∷ []) ≡ not (is_zero z)
truth_is e w z stands = ap (λ k. is_true (k ∷ [])) stands.0

twice_not : (b : Bool) → not (not b) ≡ b
twice_not true = refl
twice_not false = refl

pub decides_same : (e : Seen) (op : ShortCircuit) (w : Word) (z : ℤ) → Stands (table e) (types e.memory) Position w z → decides op (w ∷ []) ≡ flat.decides op z
decides_same e short.AndThen w z stands = ap not (truth_is e w z stands) ∙ twice_not (is_zero z)
decides_same e short.OrElse w z stands = truth_is e w z stands

null_same : (e : Seen) (d : ℕ) (n : ℕ) (w : Word) → PointsTo (table e) (types e.memory) d w n → is_null (w ∷ []) ≡ (n == 0)
null_same e d zero w points = ap (λ k. is_null (k ∷ [])) points
null_same e d (suc n) w points = ap (λ k. is_null (k ∷ [])) points.0 ∙ apart n
  where
    apart : (n : ℕ) → false ≡ (suc n == 0)
    apart n = grind arith

pub null_tested : (e : Seen) (k d : ℕ) (equal : Bool) (w : Word) (z : ℤ) → Stands (table e) (types e.memory) (Pointer d) w z
    → Same e Position k (Done (truth (if is_null (w ∷ []) then equal else not equal)) (now e k)) (Given (flat.truth (if is_zero z then equal else not equal)))
null_tested e k d equal w z points =
    subst (λ b. Same e Position k (Done (truth (if b then equal else not equal)) (now e k)) (Given (flat.truth (if is_zero z then equal else not equal))))
    (sym (null_same e d (unsigned_abs z) w points)) (truth_same e k (if is_zero z then equal else not equal))

-- ---- evaluation of one operand, and of two

pub one_same : (e : Seen) (sa st : Sort) (j k : ℕ) (ev : Evaluated (List Word)) (got : Got ℤ) (g : List Word → Now → Evaluated (List Word)) (q : ℤ → Got ℤ)
    → Same e sa j ev got
    → ((w : Word) (x : ℤ) → Stands (table e) (types e.memory) sa w x → Same e st k (g (w ∷ []) (now e j)) (q x))
    → Same e st k (followed_by ev g) (and_then got q)
one_same e sa st j k ev (Given x) g q a on =
    same_by e st k (followed_by ev g) (g (a.0 ∷ []) (now e j)) (q x) (ap (λ y. followed_by y g) a.1) (on a.0 x a.2)
one_same e sa st j k ev (Stops stop) g q a on = stopped_on e.memory stop ev g a
one_same e sa st j k ev Broken g q a on = absurd a

pub two_same : (e : Seen) (sa sb st : Sort) (i j : ℕ) (ev : Evaluated (List Word)) (got : Got ℤ) (ev' : Now → Evaluated (List Word)) (got' : Got ℤ)
    → (g : List Word → List Word → Now → Evaluated (List Word)) (q : ℤ → ℤ → Got ℤ)
    → Same e sa i ev got → Same e sb j (ev' (now e i)) got'
    → ((w v : Word) (x y : ℤ) → Stands (table e) (types e.memory) sa w x → Stands (table e) (types e.memory) sb v y → Same e st j (g (w ∷ []) (v ∷ []) (now e j)) (q x y))
    → Same e st j (followed_by ev (λ left now. followed_by (ev' now) (g left))) (and_then got (λ x. and_then got' (q x)))
two_same e sa sb st i j ev got ev' got' g q a b on =
    one_same e sa st i j ev got (λ left now. followed_by (ev' now) (g left)) (λ x. and_then got' (q x)) a
    (λ w x stands. one_same e sb st j j (ev' (now e i)) got' (g (w ∷ [])) (q x) b (λ v y stands'. on w v x y stands stands'))
