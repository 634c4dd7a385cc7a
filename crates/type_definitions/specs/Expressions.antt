-- The sentences on expressions and names, and where they are broken (docs/LANGUAGE.md, "Types"; Ada
-- 2012, 4 and 6.4).
--
-- Each fault stands at the first token of the expression or name that it is about. What follows from
-- a broken sentence may be listed too, where it stands later. A mark in a full type may stand after
-- the use of that type: where it denotes no type, and it is asked which fault is told, nothing that
-- follows from it is listed.
use Rattle.std.specs.Prelude.{ℕ, ◌+◌, Bool, true, false, not, ◌&&◌, ◌||◌, List, [], ◌∷◌, ◌++◌, map, length, get_or, nat_eq, nat_le, Option, Some, None, is_some, if◌then◌else◌}
use Rattle.resolved_tree.specs.spark_base.declared.position.Pos.{Pos}
use Rattle.resolved_tree.specs.place_names.declared.act.Mode.{Mode}
use Rattle.resolved_tree.specs.place_names.declared.act.Mode.TheVariants as mode
use Rattle.resolved_tree.specs.declared.node.Mark.{Mark}
use Rattle.resolved_tree.specs.declared.operator.Operator.{Operator}
use Rattle.resolved_tree.specs.declared.operator.Operator.TheVariants as operator
use Rattle.resolved_tree.specs.declared.operator.UnaryOperator.{UnaryOperator}
use Rattle.resolved_tree.specs.declared.operator.UnaryOperator.TheVariants as unary
use Rattle.resolved_tree.specs.Trees.{Tree, Number, Text, Null, Named, Parens, Unary, Binary, Aggregate, Others, New, Applied, Argument, NoMore, More, position}
use Rattle.type_definitions.specs.declared.table.Component.{Component}
use Rattle.type_definitions.specs.declared.table.Entry.{Entry}
use Rattle.type_definitions.specs.declared.table.Entry.TheVariants as entry
use Rattle.type_definitions.specs.declared.table.FormalInfo.{FormalInfo}
use Rattle.type_definitions.specs.declared.table.Profile.{Profile}
use Rattle.type_definitions.specs.declared.table.Kind.{Kind}
use Rattle.type_definitions.specs.declared.table.Kind.TheVariants as kind
use Rattle.type_definitions.specs.declared.table.Known.{Known}
use Rattle.type_definitions.specs.declared.judgement.Fault.{Fault}
use Rattle.type_definitions.specs.declared.judgement.View.{View}
use Rattle.type_definitions.specs.declared.judgement.View.TheVariants as view
use Rattle.type_definitions.specs.declared.judgement.Next.{Next}
use Rattle.type_definitions.specs.declared.judgement.Next.TheVariants.{Goes}
use Rattle.type_definitions.specs.declared.judgement.Reading.{Reading}
use Rattle.type_definitions.specs.declared.judgement.Reading.TheVariants as reading
use Rattle.type_definitions.specs.declared.judgement.Own.{Own}
use Rattle.type_definitions.specs.declared.judgement.Own.TheVariants as own
use Rattle.type_definitions.specs.declared.judgement.Where.{Where}
use Rattle.type_definitions.specs.declared.judgement.Where.TheVariants as stands
use Rattle.type_definitions.specs.declared.judgement.Role.{Role}
use Rattle.type_definitions.specs.declared.judgement.Role.TheVariants as role
use Rattle.type_definitions.specs.declared.judgement.Way.{Way}
use Rattle.type_definitions.specs.declared.judgement.Way.TheVariants as way
use Rattle.type_definitions.specs.Types.{full, fields, base, span, is_owning, is_same, is_scalar, is_untyped, is_bounded, has_value, is_nil}
use Rattle.type_definitions.specs.Faults.{demand, K1, K2, K6}
use Rattle.type_definitions.specs.Entries.{entry_of, integer, boolean, denotes_type, marked, is_complete, same_word}
use Rattle.type_definitions.specs.Statics.{is_alone}
use Rattle.type_definitions.specs.Names.{Context, seen, step, reading_of}

-- ---- the type of an expression by itself

abbrev pub profile_of : Entry → Profile
profile_of (entry.Subprogram p) = p
profile_of _ = record { formals = []; result = None }

abbrev pub result_type : Option ℕ → ℕ
result_type (Some t) = t
result_type None = integer

abbrev pub own_of : Known → Reading → Own
own_of known reading.Off = own.Unknown
own_of known (reading.Place t) = own.Of t
own_of known (reading.Value t v) = own.Of t
own_of known (reading.Call f) = own.Of (result_type (profile_of (entry_of known f)).result)
own_of known (reading.Image t) = own.Text
own_of known reading.EndOfFile = own.Of boolean

abbrev pub is_arithmetic : Operator → Bool
is_arithmetic operator.Add = true
is_arithmetic operator.Subtract = true
is_arithmetic operator.Multiply = true
is_arithmetic operator.Divide = true
is_arithmetic operator.Modulo = true
is_arithmetic operator.Remainder = true
is_arithmetic _ = false

abbrev pub is_logical : Operator → Bool
is_logical operator.And = true
is_logical operator.Or = true
is_logical operator.Xor = true
is_logical operator.AndThen = true
is_logical operator.OrElse = true
is_logical _ = false

abbrev pub is_equality : Operator → Bool
is_equality operator.Equal = true
is_equality operator.NotEqual = true
is_equality _ = false

abbrev pub is_join : Operator → Bool
is_join operator.Concatenate = true
is_join _ = false

abbrev pub operator_gives : Operator → Own
operator_gives op = if is_join op then own.Text else if is_arithmetic op then own.Of integer else own.Of boolean

-- What an operand of these has to be.
abbrev pub operand_type : Operator → ℕ
operand_type op = if is_arithmetic op then integer else boolean

abbrev pub unary_type : UnaryOperator → ℕ
unary_type unary.Not = boolean
unary_type _ = integer

unfoldable pub own_type : Context → Tree → Own
own_type c (Number p n) = own.Of integer
own_type c (Text p t) = own.Text
own_type c (Named p d rest) = own_of c.known (reading_of c d rest)
own_type c (Parens p e) = own_type c e
own_type c (Unary p op e) = own.Of (unary_type op)
own_type c (Binary p op a b) = operator_gives op
own_type c _ = own.Demanding

-- ---- what a place demands

-- Where an expression stands: as the source of an assignment, an initial value, an allocator's value, a component or a
-- function's return; as an `in` actual; after `others =>`; in parentheses; or elsewhere.
abbrev pub takes_owning : Where → Bool
takes_owning stands.Stored = true
takes_owning stands.InParens = true
takes_owning _ = false

abbrev pub takes_null : Where → Bool
takes_null stands.Elsewhere = false
takes_null _ = true

abbrev pub takes_name : Where → Bool
takes_name stands.Stored = true
takes_name stands.Actual = true
takes_name _ = false

abbrev pub is_access : View → Bool
is_access (view.Access designated constant named) = true
is_access _ = false

abbrev pub is_composite : View → Bool
is_composite view.Fields = true
is_composite (view.Elements low high element) = true
is_composite _ = false

-- An expression of a type of its own has the type that is demanded, or its type isn't known.
abbrev pub is_of : Known → ℕ → Own → Bool
is_of known want own.Unknown = true
is_of known want own.Demanding = true
is_of known want own.Text = false
is_of known want (own.Of t) = is_untyped known.table t || nat_eq (base known.table t) (base known.table want)

abbrev pub is_number : Tree → Bool
is_number (Number p n) = true
is_number _ = false

abbrev pub is_object : Reading → Bool
is_object (reading.Place t) = true
is_object _ = false

abbrev pub is_unknown : Known → Own → Bool
is_unknown known own.Unknown = true
is_unknown known (own.Of t) = is_untyped known.table t
is_unknown known _ = false

abbrev pub is_demanding : Own → Bool
is_demanding own.Demanding = true
is_demanding _ = false

abbrev pub is_string : Own → Bool
is_string own.Text = true
is_string _ = false

abbrev pub is_parens : Tree → Bool
is_parens (Parens p e) = true
is_parens _ = false

abbrev pub own_owning : Known → Own → Bool
own_owning known (own.Of t) = is_owning known.table t
own_owning known _ = false

-- ---- relations

-- Two operands of `=` or `/=`, one of them `null`: the other is a name of an object of an access type.
abbrev pub is_access_place : Context → Reading → Bool
is_access_place c (reading.Place t) = is_untyped c.known.table t || is_access (seen c t)
is_access_place c reading.Off = true
is_access_place c _ = false

abbrev pub is_access_name : Context → Tree → Bool
is_access_name c (Named p d rest) = is_access_place c (reading_of c d rest)
is_access_name c _ = false

abbrev pub is_null : Tree → Bool
is_null (Null p) = true
is_null _ = false

abbrev pub scalar_own : Context → Own → Bool
scalar_own c own.Unknown = true
scalar_own c own.Demanding = false
scalar_own c own.Text = false
scalar_own c (own.Of t) = is_untyped c.known.table t || is_scalar (seen c t)

abbrev pub one_type : Known → Own → Own → Bool
one_type known (own.Of s) (own.Of t) =
    is_untyped known.table s || (is_untyped known.table t || nat_eq (base known.table s) (base known.table t))
one_type known _ _ = true

unfoldable pub compares : Context → Operator → Tree → Tree → Bool
compares c op a b =
    if is_equality op && is_null a then is_access_name c b
    else if is_equality op && is_null b then is_access_name c a
    else scalar_own c (own_type c a) && scalar_own c (own_type c b) && one_type c.known (own_type c a) (own_type c b)

-- ---- actuals, components and elements as a whole

-- The identifier before `=>` of an argument, where there is one.
abbrev pub Given : Type 0
Given = Option (List ℕ)

-- Those of a list of arguments.
abbrev pub given_names : Tree → List Given
given_names (Argument w e rest) = w ∷ given_names rest
given_names _ = []

abbrev pub all_by_position : List Given → Bool
all_by_position [] = true
all_by_position (None ∷ rest) = all_by_position rest
all_by_position (Some w ∷ rest) = false

abbrev pub count_of : List ℕ → List Given → ℕ
count_of w [] = 0
count_of w (None ∷ rest) = count_of w rest
count_of w (Some v ∷ rest) = if same_word w v then count_of w rest + 1 else count_of w rest

abbrev pub each_once : List (List ℕ) → List Given → Bool
each_once [] given = true
each_once (w ∷ rest) given = nat_eq (count_of w given) 1 && each_once rest given

-- Each of the names is given once, all by position or all by name.
abbrev pub associates : List (List ℕ) → List Given → Bool
associates names given = nat_eq (length given) (length names) && (all_by_position given || each_once names given)

-- What an argument is for: by its position, or by its name.
abbrev pub by_name : {A : Type 0} → (A → List ℕ) → A → List ℕ → List A → A
by_name word d w [] = d
by_name word d w (a ∷ rest) = if same_word w (word a) then a else by_name word d w rest

abbrev pub meant : {A : Type 0} → (A → List ℕ) → A → List A → ℕ → Given → A
meant word d list i None = get_or list i d
meant word d list i (Some w) = by_name word d w list

-- ---- variables

abbrev pub is_variable_kind : Kind → Bool
is_variable_kind kind.Variable = true
is_variable_kind kind.Formal = true
is_variable_kind _ = false

abbrev pub is_variable_entry : Entry → Bool
is_variable_entry (entry.Object o) = is_variable_kind o.kind
is_variable_entry _ = false

-- The name of an object whose root is no constant and no `for` parameter.
abbrev pub is_variable : Entry → Reading → Bool
is_variable e reading.Off = true
is_variable e (reading.Place t) = is_variable_entry e
is_variable e _ = false

-- ---- traversal

abbrev pub is_anonymous : View → Bool
is_anonymous (view.Access designated constant named) = not named
is_anonymous _ = false

-- A function with an anonymous access result.
abbrev pub is_traversal : Known → Profile → Bool
is_traversal known p = is_some p.result && is_anonymous (full known.table (result_type p.result))

abbrev pub is_traversal_call : Known → Reading → Bool
is_traversal_call known (reading.Call f) = is_traversal known (profile_of (entry_of known f))
is_traversal_call known _ = false

abbrev pub designated : View → ℕ
designated (view.Access t constant named) = t
designated _ = integer

abbrev pub to_constant : View → Bool
to_constant (view.Access t constant named) = constant
to_constant _ = false

abbrev pub no_formal : FormalInfo
no_formal = record { name = []; mode = mode.In; of = integer; typed = true; traversed = false }

abbrev pub formal_type : FormalInfo → ℕ
formal_type f = f.of

-- The sentences on a name by itself, at its first token. `loose` says that a traversal call may stand here.
abbrev pub traversal_faults : Bool → Bool → Pos → List Fault
traversal_faults true is p = []
traversal_faults false is p = demand 6 p (not is)

abbrev pub root_owning : Known → Entry → Bool
root_owning known (entry.Object o) = is_owning known.table o.of
root_owning known _ = false

-- The actuals of a call.
abbrev pub call_arguments : Tree → Tree
call_arguments (More (Applied args) rest) = args
call_arguments _ = NoMore

abbrev pub formal_names : Profile → List (List ℕ)
formal_names p = map (λ f. f.name) p.formals

abbrev pub reading_faults : Context → Pos → ℕ → Bool → List Given → Reading → List Fault
reading_faults c p d loose given reading.Off = K1 p
reading_faults c p d loose given (reading.Place t) = demand 8 p (not (c.starts && root_owning c.known (entry_of c.known d)))
reading_faults c p d loose given (reading.Value t v) = demand 1 p (is_complete c.known d p)
    ++ demand 8 p (not (c.starts && root_owning c.known (entry_of c.known d)))
reading_faults c p d loose given (reading.Call f) = demand 8 p (not c.starts)
    ++ (traversal_faults loose (is_traversal c.known (profile_of (entry_of c.known f))) p
    ++ demand 3 p (associates (formal_names (profile_of (entry_of c.known f))) given))
reading_faults c p d loose given (reading.Image t) = demand 1 p (is_complete c.known d p)
reading_faults c p d loose given reading.EndOfFile = demand 3 p (is_nil given)

-- The sentences on an aggregate as a whole. An array whose bounds aren't known has no count of
-- elements.
abbrev pub fits_aggregate : Bool → View → List Component → List Given → Bool
fits_aggregate bounded view.Fields cs given = associates (map (λ c. c.name) cs) given
fits_aggregate bounded (view.Elements low high e) cs given =
    all_by_position given && (not bounded || nat_eq (length given) (span low high))
fits_aggregate bounded _ cs given = true

abbrev pub fits_others : View → Bool
fits_others view.Fields = false
fits_others _ = true

-- That of a type that isn't known may have any parts.
abbrev pub aggregates : Context → ℕ → List Given → Bool
aggregates c want given =
    is_untyped c.known.table want
    || fits_aggregate (is_bounded c.known.table want) (seen c want) (fields c.known.table want) given

abbrev pub repeats : Context → ℕ → Bool
repeats c want = is_untyped c.known.table want || fits_others (seen c want)

abbrev pub no_component : Component
no_component = record { name = []; of = integer }

-- The type that an aggregate demands of one of its arguments.
abbrev pub part_type : View → List Component → ℕ → Given → ℕ
part_type view.Fields cs i w = (meant (λ c. c.name) no_component cs i w).of
part_type (view.Elements low high e) cs i w = e
part_type _ cs i w = integer

abbrev pub element_type : View → ℕ
element_type (view.Elements low high e) = e
element_type _ = integer

-- What stands for the parts of a type that isn't known has no known type either.
abbrev pub repeated_type : Context → ℕ → ℕ
repeated_type c want = if is_untyped c.known.table want then want else element_type (seen c want)

abbrev pub parts_role : Context → ℕ → Role
parts_role c want = if is_untyped c.known.table want then role.Every want else role.Parts want

abbrev pub is_in : Mode → Bool
is_in mode.In = true
is_in _ = false

-- ---- the sentences on an expression at its place

-- A mark denotes a type that is complete and has a value.
abbrev pub mark_faults : Known → Mark → List Fault
mark_faults known m =
    demand 1 m.pos (denotes_type known m.decl && is_complete known (marked known m) m.pos)
    ++ demand 7 m.pos (not (denotes_type known m.decl) || has_value (full known.table (marked known m)))

-- The mark of an allocator is the designated type that is demanded.
abbrev pub allocates : Context → ℕ → Mark → Bool
allocates c want m =
    is_access (seen c want)
    && (not (denotes_type c.known m.decl) || is_same c.known.table (marked c.known m) (designated (full c.known.table want)))

-- An expression has the type that its place demands.
abbrev pub fits : Context → ℕ → Tree → Bool
fits c want (Null p) = is_access (seen c want)
fits c want (Aggregate p args) = is_composite (seen c want)
fits c want (Others p e) = is_composite (seen c want)
fits c want (New p m v) = allocates c want m
fits c want (Parens p e) = fits c want e
fits c want e = is_of c.known want (own_type c e)

-- An owning expression may stand at its place.
abbrev pub allowed : Context → Where → Tree → Bool
allowed c at (Null p) = takes_null at
allowed c at (Aggregate p args) = takes_owning at
allowed c at (Others p e) = takes_owning at
allowed c at (New p m v) = takes_owning at
allowed c at (Named p d rest) = if is_object (reading_of c d rest) then takes_name at else takes_owning at
allowed c at (Parens p e) = false
allowed c at e = true

-- A type that isn't known demands nothing.
abbrev pub suits : Context → ℕ → Tree → Bool
suits c want e = is_untyped c.known.table want || fits c want e

-- The sentences on an expression where a type is demanded, at its first token.
abbrev pub around : Context → Where → ℕ → Tree → List Fault
around c at want e =
    demand 1 (position e) (suits c want e)
    ++ demand 5 (position e) (not (is_owning c.known.table want) || allowed c at e)

-- A variable is demanded: an `out` or `in out` actual, that of Get or of a deallocation.
abbrev pub around_variable : Context → ℕ → Tree → List Fault
around_variable c want (Named p d rest) =
    demand 1 p (is_of c.known want (own_of c.known (reading_of c d rest))) ++ demand 2 p (is_variable (entry_of c.known d) (reading_of c d rest))
around_variable c want e = around c stands.Actual want e ++ K2 (position e)

-- The actual of the first formal of a traversal function is a name of an object of the formal's type, or where that is
-- anonymous, of an access type with the formal's designated type.
abbrev pub traverses : Context → ℕ → ℕ → Bool
traverses c want t =
    is_same c.known.table (designated (full c.known.table t)) (designated (full c.known.table want))
    && (to_constant (full c.known.table want) || not (to_constant (full c.known.table t)))

-- Not known, or of an access type.
abbrev pub reading_access : Context → Own → Bool
reading_access c (own.Of t) = is_access (seen c t)
reading_access c own.Text = false
reading_access c _ = true

-- `null` and an allocator have the type that their place demands, an anonymous access type.
abbrev pub traversed_fits : Context → ℕ → Tree → Bool
traversed_fits c want (Null p) = true
traversed_fits c want (New p m v) = allocates c want m
traversed_fits c want (Aggregate p args) = false
traversed_fits c want (Others p e) = false
traversed_fits c want (Parens p e) = traversed_fits c want e
traversed_fits c want e = reading_access c (own_type c e)

-- A call of an owning type breaks K5, and so do parentheses within the actual. Whatever is no name breaks K6.
abbrev pub traversed_value : Context → Pos → Own → List Fault
traversed_value c p own = demand 1 p (reading_access c own) ++ (demand 5 p (not (own_owning c.known own)) ++ K6 p)

abbrev pub traversed_name : Context → ℕ → Pos → Reading → List Fault
traversed_name c want p reading.Off = []
traversed_name c want p (reading.Place t) =
    if is_untyped c.known.table t then [] else demand 1 p (is_access (seen c t)) ++ demand 6 p (traverses c want t)
traversed_name c want p r = traversed_value c p (own_of c.known r)

abbrev pub traversed_other : Context → ℕ → Tree → List Fault
traversed_other c want e = demand 1 (position e) (traversed_fits c want e) ++ K6 (position e)

abbrev pub traversed_anonymous : Context → ℕ → Tree → List Fault
traversed_anonymous c want (Named p d rest) = traversed_name c want p (reading_of c d rest)
traversed_anonymous c want e = traversed_other c want e

abbrev pub is_object_name : Context → Tree → Bool
is_object_name c (Named p d rest) = is_object (reading_of c d rest)
is_object_name c _ = false

abbrev pub around_traversed : Context → ℕ → Tree → List Fault
around_traversed c want e =
    if is_anonymous (full c.known.table want) then traversed_anonymous c want e
    else around c stands.Actual want e ++ demand 6 (position e) (is_object_name c e)

abbrev pub around_formal : Context → FormalInfo → Tree → List Fault
around_formal c f e =
    if not (is_in f.mode) then around_variable c f.of e
    else if f.traversed then around_traversed c f.of e
    else around c stands.Actual f.of e

abbrev pub formal_for : Profile → ℕ → Given → FormalInfo
formal_for p i w = meant (λ f. f.name) no_formal p.formals i w

-- The formal that an actual of a subprogram is for.
abbrev pub formal : Context → ℕ → ℕ → Given → FormalInfo
formal c f i w = formal_for (profile_of (entry_of c.known f)) i w

-- The type of the component or element that an argument of an aggregate is for.
abbrev pub part : Context → ℕ → ℕ → Given → ℕ
part c t i w = part_type (seen c t) (fields c.known.table t) i w

abbrev pub role_type : Context → Role → ℕ → Given → ℕ
role_type c (role.Parts t) i w = part c t i w
role_type c (role.Actuals f) i w = (formal c f i w).of
role_type c (role.Allocated t) i w = t
role_type c (role.Every t) i w = t

abbrev pub around_role : Context → Role → ℕ → Given → Tree → List Fault
around_role c (role.Parts t) i w e = around c stands.Stored (part c t i w) e
around_role c (role.Actuals f) i w e = around_formal c (formal c f i w) e
around_role c (role.Allocated t) i w e = around c stands.Stored t e
around_role c (role.Every t) i w e = around c stands.Elsewhere t e

-- The traversed actual may be a traversal call.
abbrev pub is_loose : Context → Role → ℕ → Given → Bool
is_loose c (role.Actuals f) i w = (formal c f i w).traversed
is_loose c _ i w = false

-- An operand of `&`.
abbrev pub around_string : Context → Tree → List Fault
around_string c e = demand 1 (position e) (is_string (own_type c e) || is_unknown c.known (own_type c e))

abbrev pub way_of : Known → ℕ → Entry → Way
way_of known d (entry.Object o) = way.Along o.of
way_of known d (entry.Subprogram p) = way.Giving (role.Actuals d)
way_of known d entry.Type = way.Giving (role.Every (base known.table d))
way_of known d _ = way.Giving (role.Every integer)

abbrev pub role_of : Way → Role
role_of (way.Along t) = role.Every integer
role_of (way.Giving r) = r

abbrev pub next_type : Next → ℕ
next_type (Goes t) = t
next_type _ = integer

abbrev pub onward : Context → Tree → Way → Way
onward c s (way.Along t) = way.Along (next_type (step c s t))
onward c s (way.Giving r) = way.Giving r

-- Around what stands in parentheses, and around the operands of an operator.
abbrev pub around_parens : Context → Pos → ℕ → Tree → List Fault
around_parens c p want e =
    demand 5 p (not (own_owning c.known (own_type c e)))
    ++ (if is_demanding (own_type c e) then around c stands.InParens want e else [])

abbrev pub around_operands : Context → Pos → Operator → Tree → Tree → List Fault
around_operands c p op a b =
    if is_join op then around_string c a ++ around_string c b
    else if is_arithmetic op || is_logical op then around c stands.Elsewhere (operand_type op) a ++ around c stands.Elsewhere (operand_type op) b
    else demand 1 p (compares c op a b)

-- ---- the sentences within an expression

unfoldable mutual
  -- within an expression for which `want` is demanded, or nothing where it has a type of its own
  pub inside : Context → Bool → ℕ → Tree → List Fault
  inside c loose want (Number p n) = demand 7 p (nat_le n 2147483647)
  inside c loose want (Named p d rest) =
      reading_faults c p d loose (given_names (call_arguments rest)) (reading_of c d rest) ++ behind c (way_of c.known d (entry_of c.known d)) rest
  inside c loose want (Parens p e) = around_parens c p want e ++ inside c false want e
  inside c loose want (Unary p op e) =
      if is_alone op e then [] else around c stands.Elsewhere (unary_type op) e ++ inside c false (unary_type op) e
  inside c loose want (Binary p op a b) =
      around_operands c p op a b ++ (inside c false (operand_type op) a ++ inside c false (operand_type op) b)
  inside c loose want (Aggregate p args) =
      demand 4 p (aggregates c want (given_names args)) ++ arguments c (parts_role c want) 0 args
  inside c loose want (Others p e) =
      demand 4 p (repeats c want)
      ++ (around c stands.AfterOthers (repeated_type c want) e ++ inside c false (repeated_type c want) e)
  inside c loose want (New p m v) = mark_faults c.known m ++ arguments c (role.Allocated (marked c.known m)) 0 v
  inside c loose want _ = []

  -- within the arguments of a list, from the i-th on
  pub arguments : Context → Role → ℕ → Tree → List Fault
  arguments c role i (Argument w e rest) =
      around_role c role i w e
      ++ (inside c (is_loose c role i w) (role_type c role i w) e ++ arguments c role (i + 1) rest)
  arguments c role i _ = []

  -- within one suffix
  pub within_suffix : Context → Way → Tree → List Fault
  within_suffix c way (Applied args) = arguments c (role_of way) 0 args
  within_suffix c way _ = []

  -- within what follows a name
  pub behind : Context → Way → Tree → List Fault
  behind c way (More s rest) = within_suffix c way s ++ behind c (onward c s way) rest
  behind c way _ = []

-- The sentences that an expression breaks where a type is demanded.
abbrev pub faults : Context → Where → ℕ → Tree → List Fault
faults c at want e = around c at want e ++ inside c false want e

-- A name by itself, and one that may be a traversal call.
abbrev pub name_faults : Context → Tree → List Fault
name_faults c e = inside c false integer e

abbrev pub loose_faults : Context → Tree → List Fault
loose_faults c e = inside c true integer e
