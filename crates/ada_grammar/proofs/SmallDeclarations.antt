-- Items and ranges: small sources, and the trees that are spelled by their tokens.
use Rattle.std.proofs.Common.{refl, [], ◌∷◌}
use Rattle.std.specs.Prelude.{Some, None}
use Rattle.ada_tree.specs.declared.unit.SourceUnit.TheVariants as unit
use Rattle.ada_tree.specs.declared.subprogram.Subspec.TheVariants as subspec
use Rattle.ada_tree.specs.declared.declaration.Item.TheVariants as item
use Rattle.ada_tree.specs.declared.declaration.Component.TheVariants as component
use Rattle.ada_tree.specs.declared.declaration.Indication.TheVariants as indication
use Rattle.ada_tree.specs.declared.range.Range.TheVariants as range
use Rattle.ada_tree.specs.declared.expression.Primary.TheVariants as primary
use Rattle.ada_tree.specs.declared.expression.Arg.TheVariants as arg
use Rattle.ada_tree.specs.declared.expression.NextArg.TheVariants as next_arg
use Rattle.ada_tree.specs.declared.expression.Name.TheVariants as name
use Rattle.ada_tree.specs.declared.expression.Suffix.TheVariants as suffix
use Rattle.ada_tree.specs.declared.identifier.NextIdentifier.TheVariants as next_id
use Rattle.ada_tree.specs.declared.identifier.NextPart.TheVariants as next_part
use Rattle.ada_tree.specs.declared.identifier.NextDotted.TheVariants as next_dotted
use Rattle.ada_grammar.proofs.SmallSources.{computes, IsTextOf, source_of, at, id, mark, selected, dotted_of, use_of, pragma_of, pragma_on, subprogram_of, expr_of, object, name_of, null_at, with_item}

-- type = "type" id ";"
incomplete_type : IsTextOf "procedure P is type T; begin null; end;"
    (with_item (item.IncompleteType (at 16) (id 21 "T") (at 22)) 24)
unfolding computes
incomplete_type = source_of (search) (search) refl

-- type = "type" id "is" "private" ";"
private_type : IsTextOf "procedure P is type T is private; begin null; end;"
    (with_item (item.PrivateType (at 16) (id 21 "T") (at 23) (at 26) (at 33)) 35)
unfolding computes
private_type = source_of (search) (search) refl

-- type = "type" id "is" "(" id ")" ";"
enumeration_of_one : IsTextOf "procedure P is type T is (A); begin null; end;"
    (with_item (item.EnumerationType (at 16) (id 21 "T") (at 23) (at 26) (id 27 "A") [] (at 28) (at 29)) 31)
unfolding computes
enumeration_of_one = source_of (search) (search) refl

-- type = "type" id "is" "(" id {"," id} ")" ";"
enumeration_of_several : IsTextOf "procedure P is type T is (A, B, C); begin null; end;"
    (with_item (item.EnumerationType (at 16) (id 21 "T") (at 23) (at 26) (id 27 "A") (next_id.FurtherIdentifier (at 28) (id 30 "B") ∷
    next_id.FurtherIdentifier (at 31) (id 33 "C") ∷ []) (at 34) (at 35)) 37)
unfolding computes
enumeration_of_several = source_of (search) (search) refl

-- type = "type" id "is" "record" comp "end" "record" ";"
record_of_one : IsTextOf "procedure P is type T is record A : B; end record; begin null; end;"
    (with_item (item.RecordType (at 16) (id 21 "T") (at 23) (at 26) (component.Fields (at 33) (id 33 "A") [] (at 35)
    (mark 37 "B") (at 38)) [] (at 40) (at 44) (at 50)) 52)
unfolding computes
record_of_one = source_of (search) (search) refl

-- type = "type" id "is" "record" comp {comp} "end" "record" ";", comp = id {"," id} ":" mark ";"
record_of_several : IsTextOf "procedure P is type T is record A, B : C; D : E.F; end record; begin null; end;"
    (with_item (item.RecordType (at 16) (id 21 "T") (at 23) (at 26) (component.Fields (at 33) (id 33 "A") (next_id.FurtherIdentifier (at 34)
    (id 36 "B") ∷ []) (at 38) (mark 40 "C") (at 41)) (component.Fields (at 43) (id 43 "D") [] (at 45) (selected 47 "E" 48 49
    "F") (at 50) ∷ []) (at 52) (at 56) (at 62)) 64)
unfolding computes
record_of_several = source_of (search) (search) refl

-- type = "type" id "is" "array" "(" range ")" "of" mark ";", range = expr ".." expr
array_over_bounds : IsTextOf "procedure P is type T is array (1 .. 9) of B; begin null; end;"
    (with_item (item.ArrayType (at 16) (id 21 "T") (at 23) (at 26) (at 32) (range.Bounds (at 33) (expr_of 33 (primary.Number
    (at 33) 1)) (at 35) (expr_of 38 (primary.Number (at 38) 9))) (at 39) (at 41) (mark 44 "B") (at 45)) 47)
unfolding computes
array_over_bounds = source_of (search) (search) refl

-- range = mark
array_over_mark : IsTextOf "procedure P is type T is array (A.B) of C; begin null; end;"
    (with_item (item.ArrayType (at 16) (id 21 "T") (at 23) (at 26) (at 32) (range.Marked (at 33) (selected 33 "A" 34 35 "B"))
    (at 36) (at 38) (mark 41 "C") (at 42)) 44)
unfolding computes
array_over_mark = source_of (search) (search) refl

-- range = mark "range" expr ".." expr
array_over_constrained_mark : IsTextOf "procedure P is type T is array (A range 1 .. X) of B; begin null; end;"
    (with_item (item.ArrayType (at 16) (id 21 "T") (at 23) (at 26) (at 32) (range.Constrained (at 33) (mark 33 "A") (at 35)
    (expr_of 41 (primary.Number (at 41) 1)) (at 43) (expr_of 46 (object 46 "X"))) (at 47) (at 49) (mark 52 "B") (at 53)) 55)
unfolding computes
array_over_constrained_mark = source_of (search) (search) refl

-- range = name "'" "range"
array_over_range_of_name : IsTextOf "procedure P is type T is array (A'Range) of B; begin null; end;"
    (with_item (item.ArrayType (at 16) (id 21 "T") (at 23) (at 26) (at 32) (range.RangeOf (at 33) (name_of 33 "A") (at 34)
    (at 35)) (at 40) (at 42) (mark 45 "B") (at 46)) 48)
unfolding computes
array_over_range_of_name = source_of (search) (search) refl

-- range = name "'" "range", with a name that has suffixes
array_over_range_of_call : IsTextOf "procedure P is type T is array (A.B (1)'range) of C; begin null; end;"
    (with_item (item.ArrayType (at 16) (id 21 "T") (at 23) (at 26) (at 32) (range.RangeOf (at 33) (name.Prefixed (at 33)
    (id 33 "A") (suffix.Selected (at 34) (id 35 "B") ∷ suffix.Applied (at 37) (arg.Positional (at 38) (expr_of 38
    (primary.Number (at 38) 1))) [] (at 39) ∷ [])) (at 40) (at 41)) (at 46) (at 48) (mark 51 "C") (at 52)) 54)
unfolding computes
array_over_range_of_call = source_of (search) (search) refl

-- type = "type" id "is" "access" mark ";"
access_type : IsTextOf "procedure P is type T is access A.B; begin null; end;"
    (with_item (item.AccessType (at 16) (id 21 "T") (at 23) (at 26) (selected 33 "A" 34 35 "B") (at 36)) 38)
unfolding computes
access_type = source_of (search) (search) refl

-- subtype = "subtype" id "is" mark ";"
subtype_of_mark : IsTextOf "procedure P is subtype T is A; begin null; end;"
    (with_item (item.Subtype (at 16) (id 24 "T") (at 26) (mark 29 "A") (at 30)) 32)
unfolding computes
subtype_of_mark = source_of (search) (search) refl

-- subtype = "subtype" id "is" mark "range" expr ".." expr ";"
subtype_with_range : IsTextOf "procedure P is subtype T is A range 1 .. 9; begin null; end;"
    (with_item (item.ConstrainedSubtype (at 16) (id 24 "T") (at 26) (mark 29 "A") (at 31) (expr_of 37 (primary.Number (at 37)
    1)) (at 39) (expr_of 42 (primary.Number (at 42) 9)) (at 43)) 45)
unfolding computes
subtype_with_range = source_of (search) (search) refl

-- object = id ":" mark ";"
one_object : IsTextOf "procedure P is X : T; begin null; end;"
    (with_item (item.Objects (at 16) (id 16 "X") [] (at 18) None (indication.Mark (at 20) (mark 20 "T")) (at 21)) 23)
unfolding computes
one_object = source_of (search) (search) refl

-- object = id {"," id} ":" mark ";"
several_objects : IsTextOf "procedure P is X, Y, Z : A.B.C; begin null; end;"
    (with_item (item.Objects (at 16) (id 16 "X") (next_id.FurtherIdentifier (at 17) (id 19 "Y") ∷ next_id.FurtherIdentifier (at 20) (id 22 "Z") ∷ [])
    (at 24) None (indication.Mark (at 26) (dotted_of (id 26 "A") (next_part.FurtherPart (at 27) (id 28 "B") ∷ next_part.FurtherPart (at 29)
    (id 30 "C") ∷ []))) (at 31)) 33)
unfolding computes
several_objects = source_of (search) (search) refl

-- object = id ":" "constant" mark ";"
constant_object : IsTextOf "procedure P is X : constant T; begin null; end;"
    (with_item (item.Objects (at 16) (id 16 "X") [] (at 18) (Some (at 20)) (indication.Mark (at 29) (mark 29 "T")) (at 30)) 32)
unfolding computes
constant_object = source_of (search) (search) refl

-- object = id ":" anon ";", anon = "access" mark
anonymous_object : IsTextOf "procedure P is X : access T; begin null; end;"
    (with_item (item.Objects (at 16) (id 16 "X") [] (at 18) None (indication.Anonymous (at 20) None (mark 27 "T")) (at 28)) 30)
unfolding computes
anonymous_object = source_of (search) (search) refl

-- object = id ":" anon ";", anon = "access" "constant" mark
anonymous_constant_object : IsTextOf "procedure P is X : constant access constant T; begin null; end;"
    (with_item (item.Objects (at 16) (id 16 "X") [] (at 18) (Some (at 20)) (indication.Anonymous (at 29) (Some (at 36))
    (mark 45 "T")) (at 46)) 48)
unfolding computes
anonymous_constant_object = source_of (search) (search) refl

-- object = id ":" mark ":=" expr ";"
initialized_object : IsTextOf "procedure P is X : T := 1; begin null; end;"
    (with_item (item.InitializedObjects (at 16) (id 16 "X") [] (at 18) None (indication.Mark (at 20) (mark 20 "T")) (at 22)
    (expr_of 25 (primary.Number (at 25) 1)) (at 26)) 28)
unfolding computes
initialized_object = source_of (search) (search) refl

-- object = id {"," id} ":" "constant" mark ":=" expr ";"
initialized_constant : IsTextOf "procedure P is X, Y : constant T := 1; begin null; end;"
    (with_item (item.InitializedObjects (at 16) (id 16 "X") (next_id.FurtherIdentifier (at 17) (id 19 "Y") ∷ []) (at 21) (Some (at 23))
    (indication.Mark (at 32) (mark 32 "T")) (at 34) (expr_of 37 (primary.Number (at 37) 1)) (at 38)) 40)
unfolding computes
initialized_constant = source_of (search) (search) refl

-- object = id ":" anon ":=" expr ";"
initialized_anonymous_object : IsTextOf "procedure P is X : access T := null; begin null; end;"
    (with_item (item.InitializedObjects (at 16) (id 16 "X") [] (at 18) None (indication.Anonymous (at 20) None (mark 27 "T"))
    (at 29) (expr_of 32 (primary.Null (at 32))) (at 36)) 38)
unfolding computes
initialized_anonymous_object = source_of (search) (search) refl

-- object = id ":" "constant" ":=" expr ";"
named_number : IsTextOf "procedure P is X : constant := 1_000; begin null; end;"
    (with_item (item.Numbers (at 16) (id 16 "X") [] (at 18) (at 20) (at 29) (expr_of 32 (primary.Number (at 32) 1000)) (at 37))
    39)
unfolding computes
named_number = source_of (search) (search) refl

-- object = id {"," id} ":" "constant" ":=" expr ";"
several_named_numbers : IsTextOf "procedure P is X, Y : constant := 2147483648; begin null; end;"
    (with_item (item.Numbers (at 16) (id 16 "X") (next_id.FurtherIdentifier (at 17) (id 19 "Y") ∷ []) (at 21) (at 23) (at 32) (expr_of 35
    (primary.Number (at 35) 2147483648)) (at 45)) 47)
unfolding computes
several_named_numbers = source_of (search) (search) refl

-- instance = "procedure" id "is" "new" dotted "(" arg ")" ";"
instance_of_one : IsTextOf "procedure P is procedure Q is new R (A); begin null; end;"
    (with_item (item.Instance (at 16) (id 26 "Q") (at 28) (at 31) (mark 35 "R") (at 37) (arg.Positional (at 38)
    (expr_of 38 (object 38 "A"))) [] (at 39) (at 40)) 42)
unfolding computes
instance_of_one = source_of (search) (search) refl

-- instance = "procedure" id "is" "new" dotted "(" arg {"," arg} ")" ";"
instance_of_several : IsTextOf "procedure P is procedure Q is new A.R (T, U, N => V); begin null; end;"
    (with_item (item.Instance (at 16) (id 26 "Q") (at 28) (at 31) (selected 35 "A" 36 37 "R") (at 39) (arg.Positional (at 40)
    (expr_of 40 (object 40 "T"))) (next_arg.FurtherArg (at 41) (arg.Positional (at 43) (expr_of 43 (object 43 "U"))) ∷
    next_arg.FurtherArg (at 44) (arg.Association (at 46) (id 46 "N") (at 48) (expr_of 51 (object 51 "V"))) ∷ []) (at 52)
    (at 53)) 55)
unfolding computes
instance_of_several = source_of (search) (search) refl

-- item = usecl, usecl = "use" dotted ";"
use_among_items : IsTextOf "procedure P is use A; begin null; end;"
    (with_item (item.Use (at 16) (use_of 16 None (mark 20 "A") [] 21)) 23)
unfolding computes
use_among_items = source_of (search) (search) refl

-- usecl = "use" "type" dotted {"," dotted} ";"
use_type_among_items : IsTextOf "procedure P is use type A.T, U; begin null; end;"
    (with_item (item.Use (at 16) (use_of 16 (Some (at 20)) (selected 25 "A" 26 27 "T") (next_dotted.FurtherDotted (at 28) (mark 30 "U")
    ∷ []) 31)) 33)
unfolding computes
use_type_among_items = source_of (search) (search) refl

-- item = pragma
pragma_among_items : IsTextOf "procedure P is pragma SPARK_Mode; begin null; end;"
    (with_item (item.Pragma (at 16) (pragma_of 16 (id 23 "SPARK_Mode") None 33)) 35)
unfolding computes
pragma_among_items = source_of (search) (search) refl

-- pragma = "pragma" SPARK_Mode "(" On ")" ";"
pragma_on_among_items : IsTextOf "procedure P is pragma SPARK_Mode (On); begin null; end;"
    (with_item (item.Pragma (at 16) (pragma_of 16 (id 23 "SPARK_Mode") (Some (pragma_on 34 (id 35 "On") 37)) 38)) 40)
unfolding computes
pragma_on_among_items = source_of (search) (search) refl

-- subbody = subspec "is" {item} "begin" ..
two_items : IsTextOf "procedure P is type T; X : T; begin null; end;"
    (unit.OfSubprogram (at 1) [] (subprogram_of 1 (subspec.Procedure (at 1) (id 11 "P") None) None 13 (item.IncompleteType
    (at 16) (id 21 "T") (at 22) ∷ item.Objects (at 24) (id 24 "X") [] (at 26) None (indication.Mark (at 28) (mark 28 "T"))
    (at 29) ∷ []) 31 (null_at 37) 43 None 46) ∷ [])
unfolding computes
two_items = source_of (search) (search) refl
