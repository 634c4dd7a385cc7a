-- What the names in a typed expression are rooted in is in scope, or as asked, if so is what its names denote.
use Rattle.std.proofs.Common.{◌≡◌, ℕ, ◌+◌, Bool, true, false, ◌||◌, List, [], ◌∷◌, ◌++◌, map, refl, sym, ◌∙◌, nat_eq, Option, Some, None, true≢false, ℤ, pos, negsuc, if◌then◌else◌}
use Rattle.machine.specs.spark_base.declared.position.Pos.{Pos}
use Rattle.machine.specs.resolved_tree.declared.operator.Operator.{Operator}
use Rattle.machine.specs.resolved_tree.declared.operator.Operator.TheVariants as operator
use Rattle.machine.specs.resolved_tree.declared.operator.Attribute.{Attribute}
use Rattle.machine.specs.resolved_tree.declared.operator.Attribute.TheVariants as attribute
use Rattle.machine.specs.resolved_tree.Trees.{Tree, Number, Text, Named, Parens, Unary, Binary, Aggregate, Others, New, Selected, All, Applied, Attr, Argument, More, position}
use Rattle.machine.specs.type_definitions.declared.table.Predefined.{Predefined}
use Rattle.machine.specs.type_definitions.declared.table.Predefined.TheVariants as predefined
use Rattle.machine.specs.type_definitions.declared.table.Entry.{Entry}
use Rattle.machine.specs.type_definitions.declared.table.Entry.TheVariants as entry
use Rattle.machine.specs.type_definitions.declared.judgement.View.{View}
use Rattle.machine.specs.type_definitions.declared.judgement.View.TheVariants as view
use Rattle.machine.specs.type_definitions.declared.judgement.Next.{Next}
use Rattle.machine.specs.type_definitions.declared.judgement.Next.TheVariants.{Gives}
use Rattle.machine.specs.type_definitions.declared.judgement.Reading.{Reading}
use Rattle.machine.specs.type_definitions.declared.judgement.Reading.TheVariants as reading
use Rattle.machine.specs.type_definitions.declared.judgement.Role.{Role}
use Rattle.machine.specs.type_definitions.declared.judgement.Role.TheVariants as role
use Rattle.machine.specs.type_definitions.Types.{base, fields}
use Rattle.machine.specs.type_definitions.Entries.{entry_of, integer, marked}
use Rattle.machine.specs.type_definitions.Names.{Context, seen, step, through, is_end, ended, array_attribute, reading_if, is_call, is_imaged, scalar_attribute, ended_at, type_attribute, of_type, of_function, of_predefined, of_entry, reading_of}
use Rattle.machine.specs.type_definitions.Statics.{is_alone}
use Rattle.machine.specs.type_definitions.Expressions.{Given, given_names, all_by_position, role_type, operand_type, unary_type, element_type, is_null, next_type}
use Rattle.machine.specs.type_definitions.Gathered.{natural_of}
use Rattle.machine.specs.typed_tree.Trees.{TypedTree, typed_list}
use Rattle.machine.specs.typed_tree.Trees as typed
use Rattle.machine.specs.typed_tree.Expressions.{Site, object_number, number, value_of_type, designating, component_number, element, object_type, typed_name, compared, operands, has_name, named_value, arranged, role_names, arguments_given, called_function, typed_expression, typed_steps, typed_step, typed_actuals, typed_imaged, typed_first, typed_values, typed_optional}
use Rattle.machine.specs.flow_paths.Scopes.{is_within}
use Rattle.settled_types.specs.OrderLaws.ScopeLaws.Code.{roots, are_seen}
use Rattle.settled_types.proofs.OrderLaws.ScopeLaws.Lists.{both_true}
use Rattle.settled_types.proofs.OrderLaws.ScopeLaws.Seen.{seen_both}
use Rattle.sound_files.specs.SeenFiles.Uses.{Uses}
use Rattle.sound_files.proofs.SeenFiles.Entries.{is_object_entry}

-- ---- a place is an object

abbrev is_place : Reading → Bool
is_place (reading.Place t) = true
is_place _ = false

abbrev NoPlace : Reading → Type 0
NoPlace r = is_place r ≡ false

if_none : (b : Bool) (r : Reading) → NoPlace r → NoPlace (reading_if b r)
if_none true r none = none
if_none false r none = refl

value_none : (b : Bool) (t : ℕ) (v : ℤ) → NoPlace (if b then reading.Value t v else reading.Off)
value_none true t v = refl
value_none false t v = refl

ended_none : (b : Bool) (v : ℤ) → NoPlace (ended b v)
ended_none true v = refl
ended_none false v = refl

scalar_none : (b : ℕ) (a : Attribute) (low high : ℤ) (rest : Tree) → NoPlace (scalar_attribute b a low high rest)
scalar_none b attribute.First low high rest = value_none (is_end rest) b low
scalar_none b attribute.Last low high rest = value_none (is_end rest) b high
scalar_none b attribute.Image low high rest = if_none (is_imaged rest) (reading.Image b) refl
scalar_none b _ low high rest = refl

at_none : (n : Next) (rest : Tree) → NoPlace (ended_at n rest)
at_none (Gives v) rest = ended_none (is_end rest) v
at_none _ rest = refl

attribute_none : (b : ℕ) (a : Attribute) (v : View) (rest : Tree) → NoPlace (type_attribute b a v rest)
attribute_none b a (view.Whole low high) rest = scalar_none b a low high rest
attribute_none b a (view.Listed low high) rest = scalar_none b a (pos low) (pos high) rest
attribute_none b a v rest = at_none (array_attribute a v) rest

type_none : (c : Context) (t : ℕ) (rest : Tree) → NoPlace (of_type c t rest)
type_none c t (More (Attr a) rest) = attribute_none (base c.known.table t) a (seen c t) rest
type_none c t _ = refl

function_none : (f : ℕ) (o : Option ℕ) (rest : Tree) → NoPlace (of_function f o rest)
function_none f None rest = refl
function_none f (Some result) rest = if_none (is_call rest) (reading.Call f) refl

predefined_none : (p : Predefined) (rest : Tree) → NoPlace (of_predefined p rest)
predefined_none predefined.EndOfFile rest = if_none (is_call rest) reading.EndOfFile refl
predefined_none _ rest = refl

entry_place : (c : Context) (d : ℕ) (e : Entry) (rest : Tree) → is_place (of_entry c d e rest) ≡ true → is_object_entry e ≡ true
entry_place c d (entry.Object o) rest is = refl
entry_place c d (entry.Subprogram p) rest is = absurd (true≢false (sym is ∙ function_none d p.result rest))
entry_place c d (entry.Literal t n) rest is = absurd (true≢false (sym is ∙ value_none (is_end rest) t (pos n)))
entry_place c d entry.Type rest is = absurd (true≢false (sym is ∙ type_none c d rest))
entry_place c d (entry.Predefined p) rest is = absurd (true≢false (sym is ∙ predefined_none p rest))
entry_place c d entry.Nothing rest is = absurd (true≢false (sym is))
entry_place c d entry.Package rest is = absurd (true≢false (sym is))
entry_place c d (entry.Instance t) rest is = absurd (true≢false (sym is))

reading_place : (c : Context) (d : ℕ) (rest : Tree) → is_place (reading_of c d rest) ≡ true → is_object_entry (entry_of c.known d) ≡ true
unfolding reading_of
reading_place c d rest is = entry_place c d (entry_of c.known d) rest is

module _ (s : Site) (outer : ℕ → Bool) (scope : List ℕ) (asked : ℕ → Type 0)
    (known : (d : ℕ) → is_object_entry (entry_of s.context.known d) ≡ true → asked d → (is_within (object_number s d) scope || outer (object_number s d)) ≡ true) where
  abbrev Seen : TypedTree → Type 0
  Seen e = are_seen outer scope (roots e) ≡ true

  two : (xs ys : List ℕ) → are_seen outer scope xs ≡ true → are_seen outer scope ys ≡ true → are_seen outer scope (xs ++ ys) ≡ true
  two xs ys h g = seen_both outer scope xs ys h g

  abbrev AllSeen : List TypedTree → Type 0
  AllSeen [] = Unit {0}
  AllSeen (e ∷ rest) = Seen e × AllSeen rest

  list_seen : (es : List TypedTree) → AllSeen es → Seen (typed_list es)
  unfolding roots
  list_seen [] all = refl
  list_seen (e ∷ rest) all = two (roots e) (roots (typed_list rest)) all.0 (list_seen rest all.1)

  value_seen : (w : List ℕ) (given : List Given) (values : List TypedTree) → AllSeen values → Seen (named_value w given values)
  unfolding roots
  value_seen w [] values all = refl
  value_seen w (g ∷ given) [] all = refl
  value_seen w (g ∷ given) (v ∷ values) all = by (has_name w g) (value_seen w given values all.1)
    where
      by : (b : Bool) → Seen (named_value w given values) → Seen (if b then v else named_value w given values)
      by true later = all.0
      by false later = later

  values_seen : (given : List Given) (values : List TypedTree) (names : List (List ℕ)) → AllSeen values → AllSeen (map (λ w. named_value w given values) names)
  values_seen given values [] all = tt
  values_seen given values (w ∷ names) all = (value_seen w given values all, values_seen given values names all)

  arranged_seen : (names : List (List ℕ)) (given : List Given) (values : List TypedTree) → AllSeen values → Seen (arranged names given values)
  arranged_seen names given values all = list_seen (if all_by_position given then values else map (λ w. named_value w given values) names) (by (all_by_position given))
    where
      by : (b : Bool) → AllSeen (if b then values else map (λ w. named_value w given values) names)
      by true = all
      by false = values_seen given values names all

  given_seen : (for : Role) (args : Tree) (values : List TypedTree) → AllSeen values → Seen (arguments_given s.context for args values)
  given_seen for args values all = arranged_seen (role_names s.context for) (given_names args) values all

  of_type_seen : (t : ℕ) (v : ℤ) → Seen (value_of_type t v)
  unfolding roots
  of_type_seen t v = by (nat_eq t integer)
    where
      by : (b : Bool) → Seen (if b then number v else typed.Literal (natural_of v))
      by true = refl
      by false = refl

  name_seen : (p : Pos) (d : ℕ) (r : Reading) (steps actuals imaged : TypedTree)
      → (is_place r ≡ true → (is_within (object_number s d) scope || outer (object_number s d)) ≡ true) → Seen steps → Seen actuals → Seen imaged
      → Seen (typed_name s p d r steps actuals imaged)
  unfolding roots
  name_seen p d reading.Off steps actuals imaged place a b c = refl
  name_seen p d (reading.Place t) steps actuals imaged place a b c =
      both_true (is_within (object_number s d) scope || outer (object_number s d)) (are_seen outer scope (roots steps)) (place refl) a
  name_seen p d (reading.Value t v) steps actuals imaged place a b c = of_type_seen t v
  name_seen p d (reading.Call f) steps actuals imaged place a b c = b
  name_seen p d (reading.Image t) steps actuals imaged place a b c = c
  name_seen p d reading.EndOfFile steps actuals imaged place a b c = refl

  compared_seen : (op : Operator) (equal null_left null_right : Bool) (a b : TypedTree) → Seen a → Seen b → Seen (compared op equal null_left null_right a b)
  unfolding roots
  compared_seen op equal true null_right a b h g = g
  compared_seen op equal false true a b h g = h
  compared_seen op equal false false a b h g = two (roots a) (roots b) h g

  operands_seen : (op : Operator) (p q : Pos) (null_left null_right : Bool) (a b : TypedTree) → Seen a → Seen b → Seen (operands op p q null_left null_right a b)
  unfolding roots
  operands_seen operator.AndThen p q null_left null_right a b h g = two (roots a) (roots b) h g
  operands_seen operator.OrElse p q null_left null_right a b h g = two (roots a) (roots b) h g
  operands_seen operator.Equal p q null_left null_right a b h g = compared_seen operator.Equal true null_left null_right a b h g
  operands_seen operator.NotEqual p q null_left null_right a b h g = compared_seen operator.NotEqual false null_left null_right a b h g
  operands_seen op p q null_left null_right a b h g = two (roots a) (roots b) h g

  designating_seen : (v : View) (steps : TypedTree) → Seen steps → Seen (designating v steps)
  unfolding roots
  designating_seen (view.Access designated constant is_named) steps h = h
  designating_seen _ steps h = h

  element_seen : (v : View) (index behind : TypedTree) → Seen index → Seen behind → Seen (element v index behind)
  unfolding roots
  element_seen (view.Elements low high of) index behind h g = two (roots index) (roots behind) h g
  element_seen _ index behind h g = g

  mutual
    unfolding typed_expression typed_steps typed_step typed_actuals typed_imaged typed_first typed_values roots Uses

    pub expression_seen : (e : Tree) (want : ℕ) → Uses asked e → Seen (typed_expression s want e)
    expression_seen (Number p n) want uses = refl
    expression_seen (Text p t) want uses = refl
    expression_seen (Named p d rest) want uses =
        let r : Reading = reading_of s.context d rest in
        name_seen p d r (typed_steps s (object_type (entry_of s.context.known d)) rest) (typed_actuals s (called_function r) rest) (typed_imaged s rest)
        (λ is. known d (reading_place s.context d rest is) uses.0) (steps_seen (object_type (entry_of s.context.known d)) rest uses.1)
        (actuals_seen (called_function r) rest uses.1) (imaged_seen rest uses.1)
    expression_seen (Parens p e) want uses = expression_seen e want uses
    expression_seen (Unary p op e) want uses = by (is_alone op e) (expression_seen e (unary_type op) uses)
      where
        by : (b : Bool) → Seen (typed_expression s (unary_type op) e)
            → Seen (if b then typed.Number (negsuc 2147483647) else typed.Unary op (typed_expression s (unary_type op) e))
        by true h = refl
        by false h = h
    expression_seen (Binary p op a b) want uses =
        operands_seen op (position a) (position b) (is_null a) (is_null b) (typed_expression s (operand_type op) a) (typed_expression s (operand_type op) b)
        (expression_seen a (operand_type op) uses.0) (expression_seen b (operand_type op) uses.1)
    expression_seen (Aggregate p args) want uses =
        given_seen (role.Parts want) args (typed_values s (role.Parts want) 0 args) (arguments_seen args (role.Parts want) 0 uses)
    expression_seen (Others p e) want uses = expression_seen e (element_type (seen s.context want)) uses
    expression_seen (New p m v) want uses =
        list_seen (typed_values s (role.Allocated (marked s.context.known m)) 0 v) (arguments_seen v (role.Allocated (marked s.context.known m)) 0 uses)
    expression_seen _ want uses = refl

    steps_seen : (t : ℕ) (e : Tree) → Uses asked e → Seen (typed_steps s t e)
    steps_seen t (More a rest) uses =
        step_seen t a (typed_steps s (next_type (step s.context a t)) rest) uses.0 (steps_seen (next_type (step s.context a t)) rest uses.1)
    steps_seen t _ uses = refl

    step_seen : (t : ℕ) (a : Tree) (behind : TypedTree) → Uses asked a → Seen behind → Seen (typed_step s t a behind)
    step_seen t (Selected w) behind uses h =
        designating_seen (seen s.context t)
        (typed.Component (component_number w (fields s.context.known.table (through (seen s.context t) t))) behind) h
    step_seen t All behind uses h = h
    step_seen t (Applied args) behind uses h =
        let v : View = seen s.context (through (seen s.context t) t) in
        designating_seen (seen s.context t) (element v (typed_first s integer args) behind)
        (element_seen v (typed_first s integer args) behind (first_seen args integer uses) h)
    step_seen t _ behind uses h = h

    actuals_seen : (f : ℕ) (e : Tree) → Uses asked e → Seen (typed_actuals s f e)
    actuals_seen f (More (Applied args) rest) uses =
        given_seen (role.Actuals f) args (typed_values s (role.Actuals f) 0 args) (arguments_seen args (role.Actuals f) 0 uses.0)
    actuals_seen f _ uses = refl

    imaged_seen : (e : Tree) → Uses asked e → Seen (typed_imaged s e)
    imaged_seen (More a (More (Applied args) rest)) uses = first_seen args integer uses.1.0
    imaged_seen _ uses = refl

    pub first_seen : (e : Tree) (want : ℕ) → Uses asked e → Seen (typed_first s want e)
    first_seen (Argument w e rest) want uses = expression_seen e want uses.0
    first_seen _ want uses = refl

    arguments_seen : (e : Tree) (for : Role) (i : ℕ) → Uses asked e → AllSeen (typed_values s for i e)
    arguments_seen (Argument w e rest) for i uses = (expression_seen e (role_type s.context for i w) uses.0, arguments_seen rest for (i + 1) uses.1)
    arguments_seen _ for i uses = tt

  pub actuals_in : (f : ℕ) (e : Tree) → Uses asked e → Seen (typed_actuals s f e)
  actuals_in f e uses = actuals_seen f e uses

  pub optional_seen : (want : ℕ) (e : Tree) → Uses asked e → Seen (typed_optional s want e)
  unfolding roots Uses
  optional_seen want (More e rest) uses = two (roots (typed_expression s want e)) [] (expression_seen e want uses.0) refl
  optional_seen want _ uses = refl
