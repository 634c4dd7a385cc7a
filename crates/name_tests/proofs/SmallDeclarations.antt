-- Declarations: small sources, and N2, N5 and N6.
use Rattle.std.proofs.Common.{refl, [], ◌∷◌}
use Rattle.std.specs.Prelude.{Some, None}
use Rattle.ada_tree.specs.declared.expression.Arg.TheVariants as arg
use Rattle.ada_tree.specs.declared.declaration.Component.TheVariants as component
use Rattle.ada_tree.specs.declared.subprogram.Decl.TheVariants as decl
use Rattle.ada_tree.specs.declared.subprogram.Formal.TheVariants as formal
use Rattle.ada_tree.specs.declared.declaration.Indication.TheVariants as indication
use Rattle.ada_tree.specs.declared.declaration.Item.TheVariants as item
use Rattle.ada_tree.specs.declared.expression.Name.TheVariants as name
use Rattle.ada_tree.specs.declared.identifier.NextIdentifier.TheVariants as next_id
use Rattle.ada_tree.specs.declared.unit.BodyPart.TheVariants as part
use Rattle.ada_tree.specs.declared.expression.Primary.TheVariants as primary
use Rattle.ada_tree.specs.declared.statement.Stmt.TheVariants as stmt
use Rattle.ada_tree.specs.declared.subprogram.Subspec.TheVariants as subspec
use Rattle.ada_tree.specs.declared.expression.Suffix.TheVariants as suffix
use Rattle.ada_tree.specs.declared.unit.SourceUnit.TheVariants as unit
use Rattle.ada_grammar.proofs.SmallSources.{computes, source_of, at, expr_of, formals_of, id, mark, null_at, object, package_body_of, package_of, private_part, sole, subprogram_of}
use Rattle.name_events.specs.declared.declaration.NameRule.TheVariants.{NoBody, Twice, WrongEnd}
use Rattle.name_tests.proofs.SmallRules.{resolves, IsFirstBroken, IsResolved}

-- A second declaration of a name in one region.
second_declaration : IsFirstBroken "procedure P is X : Integer; X : Integer; begin null; end;" Twice 29
    (unit.OfSubprogram (at 1) [] (subprogram_of 1 (subspec.Procedure (at 1) (id 11 "P") None) None 13 (item.Objects (at 16)
    (id 16 "X") [] (at 18) None (indication.Mark (at 20) (mark 20 "Integer")) (at 27) ∷ item.Objects (at 29) (id 29 "X") []
    (at 31) None (indication.Mark (at 33) (mark 33 "Integer")) (at 40) ∷ []) 42 (null_at 48) 54 None 57) ∷ [])
unfolding computes resolves
second_declaration = (source_of (search) (search) refl, refl)

-- The same in one declaration.
second_in_one_list : IsFirstBroken "procedure P is X, Y, x : Integer; begin null; end;" Twice 22
    (unit.OfSubprogram (at 1) [] (subprogram_of 1 (subspec.Procedure (at 1) (id 11 "P") None) None 13 (item.Objects (at 16)
    (id 16 "X") (next_id.FurtherIdentifier (at 17) (id 19 "Y") ∷ next_id.FurtherIdentifier (at 20) (id 22 "x") ∷ []) (at 24)
    None (indication.Mark (at 26) (mark 26 "Integer")) (at 33) ∷ []) 35 (null_at 41) 47 None 50) ∷ [])
unfolding computes resolves
second_in_one_list = (source_of (search) (search) refl, refl)

-- A literal and an object.
second_is_literal : IsFirstBroken "procedure P is Red : Integer; type T is (Red); begin null; end;" Twice 42
    (unit.OfSubprogram (at 1) [] (subprogram_of 1 (subspec.Procedure (at 1) (id 11 "P") None) None 13 (item.Objects (at 16)
    (id 16 "Red") [] (at 20) None (indication.Mark (at 22) (mark 22 "Integer")) (at 29) ∷ item.EnumerationType (at 31) (id 36
    "T") (at 38) (at 41) (id 42 "Red") [] (at 45) (at 46) ∷ []) 48 (null_at 54) 60 None 63) ∷ [])
unfolding computes resolves
second_is_literal = (source_of (search) (search) refl, refl)

-- The parts of a package are one region.
second_in_private_part : IsFirstBroken "package A is X : Integer; private X : Integer; end;" Twice 35
    (unit.OfPackage (at 1) [] (package_of 1 (id 9 "A") None 11 (decl.OfItem (at 14) (item.Objects (at 14) (id 14 "X") [] (at
    16) None (indication.Mark (at 18) (mark 18 "Integer")) (at 25)) ∷ []) (Some (private_part 27 (decl.OfItem (at 35)
    (item.Objects (at 35) (id 35 "X") [] (at 37) None (indication.Mark (at 39) (mark 39 "Integer")) (at 46)) ∷ []))) 48 None
    51) ∷ [])
unfolding computes resolves
second_in_private_part = (source_of (search) (search) refl, refl)

-- An inner region is another.
inner_region_is_another : IsResolved "procedure P is X : Integer; begin declare X : Integer; begin null; end; end;" (0 ∷ 0 ∷ [])
    (unit.OfSubprogram (at 1) [] (subprogram_of 1 (subspec.Procedure (at 1) (id 11 "P") None) None 13 (item.Objects (at 16)
    (id 16 "X") [] (at 18) None (indication.Mark (at 20) (mark 20 "Integer")) (at 27) ∷ []) 29 (sole 35 (stmt.DeclareBlock
    (at 35) (item.Objects (at 43) (id 43 "X") [] (at 45) None (indication.Mark (at 47) (mark 47 "Integer")) (at 54) ∷ []) (at
    56) (null_at 62) (at 68) (at 71))) 73 None 76) ∷ [])
unfolding computes resolves
inner_region_is_another = (source_of (search) (search) refl, refl, refl)

-- There is one library procedure.
second_library_procedure : IsFirstBroken "procedure P is begin null; end; procedure Q is begin null; end;" Twice 43
    (unit.OfSubprogram (at 1) [] (subprogram_of 1 (subspec.Procedure (at 1) (id 11 "P") None) None 13 [] 16 (null_at 22) 28
    None 31) ∷ unit.OfSubprogram (at 33) [] (subprogram_of 33 (subspec.Procedure (at 33) (id 43 "Q") None) None 45 [] 48
    (null_at 54) 60 None 63) ∷ [])
unfolding computes resolves
second_library_procedure = (source_of (search) (search) refl, refl)

-- A second unit of a name.
second_unit_of_name : IsFirstBroken "package A is end; procedure A is begin null; end;" Twice 29
    (unit.OfPackage (at 1) [] (package_of 1 (id 9 "A") None 11 [] None 14 None 17) ∷ unit.OfSubprogram (at 19) []
    (subprogram_of 19 (subspec.Procedure (at 19) (id 29 "A") None) None 31 [] 34 (null_at 40) 46 None 49) ∷ [])
unfolding computes resolves
second_unit_of_name = (source_of (search) (search) refl, refl)

-- A second body of a package.
second_body : IsFirstBroken "package A is end; package body A is end; package body A is end;" Twice 55
    (unit.OfPackage (at 1) [] (package_of 1 (id 9 "A") None 11 [] None 14 None 17) ∷ unit.OfBody (at 19) [] (package_body_of
    19 27 (id 32 "A") None 34 [] 37 None 40) ∷ unit.OfBody (at 42) [] (package_body_of 42 50 (id 55 "A") None 57 [] 60 None
    63) ∷ [])
unfolding computes resolves
second_body = (source_of (search) (search) refl, refl)

-- There is no library function.
library_function : IsFirstBroken "function F return Integer is begin return 1; end;" Twice 10
    (unit.OfSubprogram (at 1) [] (subprogram_of 1 (subspec.Function (at 1) (id 10 "F") None (at 12) (indication.Mark (at 19)
    (mark 19 "Integer"))) None 27 [] 30 (sole 36 (stmt.ReturnValue (at 36) (expr_of 43 (primary.Number (at 43) 1)) (at 44)))
    46 None 49) ∷ [])
unfolding computes resolves
library_function = (source_of (search) (search) refl, refl)

-- A second component in one record.
second_component : IsFirstBroken "procedure P is type T is record X, Y : Integer; y : Integer; end record; begin null; end;" Twice 49
    (unit.OfSubprogram (at 1) [] (subprogram_of 1 (subspec.Procedure (at 1) (id 11 "P") None) None 13 (item.RecordType (at
    16) (id 21 "T") (at 23) (at 26) (component.Fields (at 33) (id 33 "X") (next_id.FurtherIdentifier (at 34) (id 36 "Y") ∷
    []) (at 38) (mark 40 "Integer") (at 47)) (component.Fields (at 49) (id 49 "y") [] (at 51) (mark 53 "Integer") (at 60) ∷
    []) (at 62) (at 66) (at 72) ∷ []) 74 (null_at 80) 86 None 89) ∷ [])
unfolding computes resolves
second_component = (source_of (search) (search) refl, refl)

-- Each record has a space of its own.
component_of_other_record : IsResolved "procedure P is type T is record X : Integer; end record; type U is record X : Integer; end record; X : T; begin null; end;" (0 ∷ 0 ∷ 16 ∷ [])
    (unit.OfSubprogram (at 1) [] (subprogram_of 1 (subspec.Procedure (at 1) (id 11 "P") None) None 13 (item.RecordType (at
    16) (id 21 "T") (at 23) (at 26) (component.Fields (at 33) (id 33 "X") [] (at 35) (mark 37 "Integer") (at 44)) [] (at 46)
    (at 50) (at 56) ∷ item.RecordType (at 58) (id 63 "U") (at 65) (at 68) (component.Fields (at 75) (id 75 "X") [] (at 77)
    (mark 79 "Integer") (at 86)) [] (at 88) (at 92) (at 98) ∷ item.Objects (at 100) (id 100 "X") [] (at 102) None
    (indication.Mark (at 104) (mark 104 "T")) (at 105) ∷ []) 107 (null_at 113) 119 None 122) ∷ [])
unfolding computes resolves
component_of_other_record = (source_of (search) (search) refl, refl, refl)

-- The full type is no second declaration.
completed_incomplete_type : IsResolved "procedure P is type T; type T is (R); begin null; end;" []
    (unit.OfSubprogram (at 1) [] (subprogram_of 1 (subspec.Procedure (at 1) (id 11 "P") None) None 13 (item.IncompleteType
    (at 16) (id 21 "T") (at 22) ∷ item.EnumerationType (at 24) (id 29 "T") (at 31) (at 34) (id 35 "R") [] (at 36) (at 37) ∷
    []) 39 (null_at 45) 51 None 54) ∷ [])
unfolding computes resolves
completed_incomplete_type = (source_of (search) (search) refl, refl, refl)

-- So is that of a private type.
completed_private_type : IsResolved "package A is type T is private; private type T is (R); end;" []
    (unit.OfPackage (at 1) [] (package_of 1 (id 9 "A") None 11 (decl.OfItem (at 14) (item.PrivateType (at 14) (id 19 "T") (at
    21) (at 24) (at 31)) ∷ []) (Some (private_part 33 (decl.OfItem (at 41) (item.EnumerationType (at 41) (id 46 "T") (at 48)
    (at 51) (id 52 "R") [] (at 53) (at 54)) ∷ []))) 56 None 59) ∷ [])
unfolding computes resolves
completed_private_type = (source_of (search) (search) refl, refl, refl)

-- So is the body of a subprogram, and the name of its formals are those of the body.
completed_subprogram : IsResolved "package A is procedure Q (X : Integer); end; package body A is procedure Q (X : Integer) is begin Q (X); end; end;" (0 ∷ 0 ∷ 16 ∷ 18 ∷ [])
    (unit.OfPackage (at 1) [] (package_of 1 (id 9 "A") None 11 (decl.Subprogram (at 14) (subspec.Procedure (at 14) (id 24
    "Q") (Some (formals_of 26 (formal.Moded (at 27) (id 27 "X") [] (at 29) None None (mark 31 "Integer")) [] 38))) None (at
    39) ∷ []) None 41 None 44) ∷ unit.OfBody (at 46) [] (package_body_of 46 54 (id 59 "A") None 61 (part.Completed (at 64)
    (subprogram_of 64 (subspec.Procedure (at 64) (id 74 "Q") (Some (formals_of 76 (formal.Moded (at 77) (id 77 "X") [] (at
    79) None None (mark 81 "Integer")) [] 88))) None 90 [] 93 (sole 99 (stmt.Call (at 99) (name.Prefixed (at 99) (id 99 "Q")
    (suffix.Applied (at 101) (arg.Positional (at 102) (expr_of 102 (object 102 "X"))) [] (at 103) ∷ [])) (at 104))) 106 None
    109) ∷ []) 111 None 114) ∷ [])
unfolding computes resolves
completed_subprogram = (source_of (search) (search) refl, refl, refl)

-- A second completion is a second declaration.
completed_twice : IsFirstBroken "procedure P is type T; type T is (R); type T is (S); begin null; end;" Twice 44
    (unit.OfSubprogram (at 1) [] (subprogram_of 1 (subspec.Procedure (at 1) (id 11 "P") None) None 13 (item.IncompleteType
    (at 16) (id 21 "T") (at 22) ∷ item.EnumerationType (at 24) (id 29 "T") (at 31) (at 34) (id 35 "R") [] (at 36) (at 37) ∷
    item.EnumerationType (at 39) (id 44 "T") (at 46) (at 49) (id 50 "S") [] (at 51) (at 52) ∷ []) 54 (null_at 60) 66 None 69)
    ∷ [])
unfolding computes resolves
completed_twice = (source_of (search) (search) refl, refl)

-- A subprogram declaration without a body.
subprogram_without_body : IsFirstBroken "package A is procedure Q; end;" NoBody 24
    (unit.OfPackage (at 1) [] (package_of 1 (id 9 "A") None 11 (decl.Subprogram (at 14) (subspec.Procedure (at 14) (id 24
    "Q") None) None (at 25) ∷ []) None 27 None 30) ∷ [])
unfolding computes resolves
subprogram_without_body = (source_of (search) (search) refl, refl)

-- The same in a package body.
subprogram_without_body_in_body : IsFirstBroken "package A is end; package body A is procedure Q; end;" NoBody 47
    (unit.OfPackage (at 1) [] (package_of 1 (id 9 "A") None 11 [] None 14 None 17) ∷ unit.OfBody (at 19) [] (package_body_of
    19 27 (id 32 "A") None 34 (part.Declared (at 37) (decl.Subprogram (at 37) (subspec.Procedure (at 37) (id 47 "Q") None)
    None (at 48)) ∷ []) 50 None 53) ∷ [])
unfolding computes resolves
subprogram_without_body_in_body = (source_of (search) (search) refl, refl)

-- An incomplete type without its full type.
incomplete_type_alone : IsFirstBroken "procedure P is type T; begin null; end;" NoBody 21
    (unit.OfSubprogram (at 1) [] (subprogram_of 1 (subspec.Procedure (at 1) (id 11 "P") None) None 13 (item.IncompleteType
    (at 16) (id 21 "T") (at 22) ∷ []) 24 (null_at 30) 36 None 39) ∷ [])
unfolding computes resolves
incomplete_type_alone = (source_of (search) (search) refl, refl)

-- An incomplete type is completed in the same declarative part.
incomplete_type_in_other_part : IsFirstBroken "package A is type T; private type T is (R); end;" NoBody 19
    (unit.OfPackage (at 1) [] (package_of 1 (id 9 "A") None 11 (decl.OfItem (at 14) (item.IncompleteType (at 14) (id 19 "T")
    (at 20)) ∷ []) (Some (private_part 22 (decl.OfItem (at 30) (item.EnumerationType (at 30) (id 35 "T") (at 37) (at 40) (id
    41 "R") [] (at 42) (at 43)) ∷ []))) 45 None 48) ∷ [])
unfolding computes resolves
incomplete_type_in_other_part = (source_of (search) (search) refl, refl)

-- A private type without its full type.
private_type_alone : IsFirstBroken "package A is type T is private; end;" NoBody 19
    (unit.OfPackage (at 1) [] (package_of 1 (id 9 "A") None 11 (decl.OfItem (at 14) (item.PrivateType (at 14) (id 19 "T") (at
    21) (at 24) (at 31)) ∷ []) None 33 None 36) ∷ [])
unfolding computes resolves
private_type_alone = (source_of (search) (search) refl, refl)

-- A package body without its specification.
body_without_specification : IsFirstBroken "package body A is end;" NoBody 14
    (unit.OfBody (at 1) [] (package_body_of 1 9 (id 14 "A") None 16 [] 19 None 22) ∷ [])
unfolding computes resolves
body_without_specification = (source_of (search) (search) refl, refl)

-- The name after end is that of the unit.
other_name_behind_end : IsFirstBroken "procedure P is begin null; end Q;" WrongEnd 32
    (unit.OfSubprogram (at 1) [] (subprogram_of 1 (subspec.Procedure (at 1) (id 11 "P") None) None 13 [] 16 (null_at 22) 28
    (Some (id 32 "Q")) 33) ∷ [])
unfolding computes resolves
other_name_behind_end = (source_of (search) (search) refl, refl)

-- The same of a package, and of a subprogram within.
other_name_behind_end_of_package : IsFirstBroken "package A is procedure Q; end A; package body A is procedure Q is begin null; end A; end A;" WrongEnd 83
    (unit.OfPackage (at 1) [] (package_of 1 (id 9 "A") None 11 (decl.Subprogram (at 14) (subspec.Procedure (at 14) (id 24
    "Q") None) None (at 25) ∷ []) None 27 (Some (id 31 "A")) 32) ∷ unit.OfBody (at 34) [] (package_body_of 34 42 (id 47 "A")
    None 49 (part.Completed (at 52) (subprogram_of 52 (subspec.Procedure (at 52) (id 62 "Q") None) None 64 [] 67 (null_at 73)
    79 (Some (id 83 "A")) 84) ∷ []) 86 (Some (id 90 "A")) 91) ∷ [])
unfolding computes resolves
other_name_behind_end_of_package = (source_of (search) (search) refl, refl)

-- The first position decides, and at one position the lower code.
first_of_two : IsFirstBroken "package A is type T; X : Missing; type T; end;" NoBody 19
    (unit.OfPackage (at 1) [] (package_of 1 (id 9 "A") None 11 (decl.OfItem (at 14) (item.IncompleteType (at 14) (id 19 "T")
    (at 20)) ∷ decl.OfItem (at 22) (item.Objects (at 22) (id 22 "X") [] (at 24) None (indication.Mark (at 26) (mark 26
    "Missing")) (at 33)) ∷ decl.OfItem (at 35) (item.IncompleteType (at 35) (id 40 "T") (at 41)) ∷ []) None 43 None 46) ∷ [])
unfolding computes resolves
first_of_two = (source_of (search) (search) refl, refl)
