-- Typed expressions (docs/LANGUAGE.md, "Typed programs"; Ada 2012, 4 and 6.4): what is meant by an
-- expression that breaks no sentence. `want` is the type that its position demands, where it has
-- none of its own. What breaks a sentence becomes something, which means nothing.
use Rattle.std.specs.Prelude.{ℕ, ◌+◌, Bool, true, false, List, [], ◌∷◌, drop, map, nat_eq, Option, Some, None, ℤ, pos, negsuc, if◌then◌else◌}
use Rattle.std.specs.List.{position_or_len}
use Rattle.type_definitions.specs.spark_base.declared.position.Pos.{Pos}
use Rattle.type_definitions.specs.resolved_tree.declared.operator.Operator.{Operator}
use Rattle.type_definitions.specs.resolved_tree.declared.operator.Operator.TheVariants as operator
use Rattle.type_definitions.specs.resolved_tree.Trees.{Tree, Number, Text, Named, Parens, Unary, Binary, Aggregate, Others, New, Selected, All, Applied, Argument, More, position}
use Rattle.type_definitions.specs.declared.table.Component.{Component}
use Rattle.type_definitions.specs.declared.table.Entry.{Entry}
use Rattle.type_definitions.specs.declared.table.Entry.TheVariants as entry
use Rattle.type_definitions.specs.declared.judgement.View.{View}
use Rattle.type_definitions.specs.declared.judgement.View.TheVariants as view
use Rattle.type_definitions.specs.declared.judgement.Reading.{Reading}
use Rattle.type_definitions.specs.declared.judgement.Reading.TheVariants as reading
use Rattle.type_definitions.specs.declared.judgement.Role.{Role}
use Rattle.type_definitions.specs.declared.judgement.Role.TheVariants as role
use Rattle.type_definitions.specs.Types.{fields}
use Rattle.type_definitions.specs.Entries.{entry_of, integer, marked, same_word}
use Rattle.type_definitions.specs.Names.{Context, seen, step, through, reading_of}
use Rattle.type_definitions.specs.Statics.{is_alone, as_integer}
use Rattle.type_definitions.specs.Expressions.{Given, given_names, all_by_position, role_type, operand_type, unary_type, element_type, profile_of, formal_names, is_null, next_type}
use Rattle.type_definitions.specs.Gathered.{natural_of}
use Rattle.typed_tree.specs.declared.node.ShortCircuit.TheVariants as short
use Rattle.typed_tree.specs.Trees.{TypedTree, typed_list}
use Rattle.typed_tree.specs.Trees as typed

-- Where code stands, and the declarations of objects and those of bodies of subprograms, in the
-- order of their numbers.
pub record Site : Type 0 where
  pub context : Context
  pub objects : List ℕ
  pub bodies : List ℕ

-- Object 0 is Ada.Text_IO.
abbrev pub object_number : Site → ℕ → ℕ
object_number s d = position_or_len (nat_eq d) s.objects + 1

-- Subprogram 0 declares the package objects.
abbrev pub sub_number : Site → ℕ → ℕ
sub_number s d = position_or_len (nat_eq d) s.bodies + 1

-- ---- values

-- A number of Integer: no other is meant.
abbrev pub within_integer : Option ℤ → ℤ
within_integer (Some v) = v
within_integer None = pos 0

abbrev pub number : ℤ → TypedTree
number v = typed.Number (within_integer (as_integer v))

-- A value of a type without bounds of its own: that of Integer or an enumeration.
abbrev pub value_of_type : ℕ → ℤ → TypedTree
value_of_type t v = if nat_eq t integer then number v else typed.Literal (natural_of v)

-- Two quotes within a string are one character (Ada 2012, 2.6). The first argument says whether the
-- one before was a quote that has stood for none yet.
abbrev pub characters_behind : Bool → List ℕ → List ℕ
characters_behind quoted [] = []
characters_behind quoted (b ∷ rest) =
    if nat_eq b 34 then (if quoted then b ∷ characters_behind false rest else characters_behind true rest)
    else b ∷ characters_behind false rest

-- The characters of a string, without the quotes around it.
unfoldable pub characters : List ℕ → List ℕ
characters text = characters_behind false (drop 1 text)

-- ---- names

-- A selector or an index of an access value goes through what it designates (Ada 2012, 4.1(8)).
abbrev pub designating : View → TypedTree → TypedTree
designating (view.Access designated constant named) steps = typed.Designated steps
designating _ steps = steps

abbrev pub component_number : List ℕ → List Component → ℕ
component_number w components = position_or_len (λ k. same_word w k.name) components

abbrev pub element : View → TypedTree → TypedTree → TypedTree
element (view.Elements low high of) index behind = typed.Element index low high behind
element _ index behind = behind

abbrev pub object_type : Entry → ℕ
object_type (entry.Object o) = o.of
object_type _ = integer

-- What a name is, from the steps, the actuals or the argument of Image that follow it.
abbrev pub typed_name : Site → Pos → ℕ → Reading → TypedTree → TypedTree → TypedTree → TypedTree
typed_name s p d reading.Off steps actuals imaged = typed.Null
typed_name s p d (reading.Place t) steps actuals imaged = typed.Name p (object_number s d) steps t
typed_name s p d (reading.Value t v) steps actuals imaged = value_of_type t v
typed_name s p d (reading.Call f) steps actuals imaged = typed.Call p (sub_number s f) actuals
typed_name s p d (reading.Image t) steps actuals imaged = typed.Image t imaged
typed_name s p d reading.EndOfFile steps actuals imaged = typed.EndOfFile

-- ---- operators

-- A comparison of a name with `null` on either side.
abbrev pub compared : Operator → Bool → Bool → Bool → TypedTree → TypedTree → TypedTree
compared op equal true null_right a b = typed.IsNull equal b
compared op equal false true a b = typed.IsNull equal a
compared op equal false false a b = typed.Binary op a b

abbrev pub operands : Operator → Pos → Pos → Bool → Bool → TypedTree → TypedTree → TypedTree
operands operator.AndThen p q null_left null_right a b = typed.Short short.AndThen p a q b
operands operator.OrElse p q null_left null_right a b = typed.Short short.OrElse p a q b
operands operator.Equal p q null_left null_right a b = compared operator.Equal true null_left null_right a b
operands operator.NotEqual p q null_left null_right a b = compared operator.NotEqual false null_left null_right a b
operands op p q null_left null_right a b = typed.Binary op a b

-- ---- arguments

abbrev pub has_name : List ℕ → Given → Bool
has_name w None = false
has_name w (Some v) = same_word w v

-- The value of the argument with a name.
abbrev pub named_value : List ℕ → List Given → List TypedTree → TypedTree
named_value w (g ∷ given) (v ∷ values) = if has_name w g then v else named_value w given values
named_value w _ _ = typed.Null

-- The values of arguments in the order in which the names are declared that they are given to: as
-- they stand where they stand by position.
abbrev pub arranged : List (List ℕ) → List Given → List TypedTree → TypedTree
arranged names given values =
    typed_list (if all_by_position given then values else map (λ w. named_value w given values) names)

-- What the arguments for a role are given to: components or formals.
abbrev pub role_names : Context → Role → List (List ℕ)
role_names c (role.Parts t) = map (λ k. k.name) (fields c.known.table t)
role_names c (role.Actuals f) = formal_names (profile_of (entry_of c.known f))
role_names c _ = []

-- A list of arguments, from their values in the order of the text.
abbrev pub arguments_given : Context → Role → Tree → List TypedTree → TypedTree
arguments_given c for args values = arranged (role_names c for) (given_names args) values

-- The function that a name calls.
abbrev pub called_function : Reading → ℕ
called_function (reading.Call f) = f
called_function _ = 0

-- ---- all of an expression

unfoldable mutual
  pub typed_expression : Site → ℕ → Tree → TypedTree
  typed_expression s want (Number p n) = number (pos n)
  typed_expression s want (Text p t) = typed.Text (characters t)
  typed_expression s want (Named p d rest) =
      let r = reading_of s.context d rest in
      typed_name s p d r (typed_steps s (object_type (entry_of s.context.known d)) rest)
      (typed_actuals s (called_function r) rest) (typed_imaged s rest)
  typed_expression s want (Parens p e) = typed.Parens (typed_expression s want e)
  typed_expression s want (Unary p op e) =
      if is_alone op e then typed.Number (negsuc 2147483647) else typed.Unary op (typed_expression s (unary_type op) e)
  typed_expression s want (Binary p op a b) =
      operands op (position a) (position b) (is_null a) (is_null b)
      (typed_expression s (operand_type op) a) (typed_expression s (operand_type op) b)
  typed_expression s want (Aggregate p args) =
      typed.Aggregate want (arguments_given s.context (role.Parts want) args (typed_values s (role.Parts want) 0 args))
  typed_expression s want (Others p e) = typed.Alike want (typed_expression s (element_type (seen s.context want)) e)
  typed_expression s want (New p m v) =
      typed.New (marked s.context.known m) (typed_list (typed_values s (role.Allocated (marked s.context.known m)) 0 v))
  typed_expression s want _ = typed.Null

  -- the steps of a name from a type on
  pub typed_steps : Site → ℕ → Tree → TypedTree
  typed_steps s t (More a rest) = typed_step s t a (typed_steps s (next_type (step s.context a t)) rest)
  typed_steps s t _ = typed.NoMore

  -- one step, and those after it
  pub typed_step : Site → ℕ → Tree → TypedTree → TypedTree
  typed_step s t (Selected w) behind =
      designating (seen s.context t)
      (typed.Component (component_number w (fields s.context.known.table (through (seen s.context t) t))) behind)
  typed_step s t All behind = typed.Designated behind
  typed_step s t (Applied args) behind =
      designating (seen s.context t)
      (element (seen s.context (through (seen s.context t) t)) (typed_first s integer args) behind)
  typed_step s t _ behind = behind

  -- the actuals of a function, where such follow its name
  pub typed_actuals : Site → ℕ → Tree → TypedTree
  typed_actuals s f (More (Applied args) rest) =
      arguments_given s.context (role.Actuals f) args (typed_values s (role.Actuals f) 0 args)
  typed_actuals s f _ = typed.NoMore

  -- the argument of Image
  pub typed_imaged : Site → Tree → TypedTree
  typed_imaged s (More a (More (Applied args) rest)) = typed_first s integer args
  typed_imaged s _ = typed.Null

  -- the expression of an argument that stands alone
  pub typed_first : Site → ℕ → Tree → TypedTree
  typed_first s want (Argument w e rest) = typed_expression s want e
  typed_first s want _ = typed.Null

  -- the expressions of arguments, from the i-th on
  pub typed_values : Site → Role → ℕ → Tree → List TypedTree
  typed_values s for i (Argument w e rest) =
      typed_expression s (role_type s.context for i w) e ∷ typed_values s for (i + 1) rest
  typed_values s for i _ = []

-- A list of no expression or one, of a type.
abbrev pub typed_optional : Site → ℕ → Tree → TypedTree
typed_optional s want (More e rest) = typed.More (typed_expression s want e) typed.NoMore
typed_optional s want _ = typed.NoMore
