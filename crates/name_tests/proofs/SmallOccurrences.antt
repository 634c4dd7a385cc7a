-- Occurrences: small sources, what each occurrence denotes, and N1, N3 and N4. Each denoted
-- declaration has its number: 0 is Integer, 3 Boolean, 5 True, 6 Ada, 7 Ada.Text_IO, 10 New_Line,
-- 14 Ada.Unchecked_Deallocation, and 15 the first of the source.
use Rattle.std.proofs.Common.{refl, [], ◌∷◌}
use Rattle.std.specs.Prelude.{Some, None}
use Rattle.ada_tree.specs.declared.expression.Arg.TheVariants as arg
use Rattle.ada_tree.specs.declared.declaration.Component.TheVariants as component
use Rattle.ada_tree.specs.declared.unit.Context.TheVariants as context
use Rattle.ada_tree.specs.declared.subprogram.Decl.TheVariants as decl
use Rattle.ada_tree.specs.declared.subprogram.Formal.TheVariants as formal
use Rattle.ada_tree.specs.declared.declaration.Indication.TheVariants as indication
use Rattle.ada_tree.specs.declared.declaration.Item.TheVariants as item
use Rattle.ada_tree.specs.declared.expression.Name.TheVariants as name
use Rattle.ada_tree.specs.declared.expression.NextArg.TheVariants as next_arg
use Rattle.ada_tree.specs.declared.identifier.NextDotted.TheVariants as next_dotted
use Rattle.ada_tree.specs.declared.subprogram.NextFormal.TheVariants as next_formal
use Rattle.ada_tree.specs.declared.identifier.NextIdentifier.TheVariants as next_id
use Rattle.ada_tree.specs.declared.unit.BodyPart.TheVariants as part
use Rattle.ada_tree.specs.declared.expression.Primary.TheVariants as primary
use Rattle.ada_tree.specs.declared.range.Range.TheVariants as range
use Rattle.ada_tree.specs.declared.statement.Stmt.TheVariants as stmt
use Rattle.ada_tree.specs.declared.statement.Stmts.TheVariants as stmts
use Rattle.ada_tree.specs.declared.subprogram.Subspec.TheVariants as subspec
use Rattle.ada_tree.specs.declared.expression.Suffix.TheVariants as suffix
use Rattle.ada_tree.specs.declared.unit.SourceUnit.TheVariants as unit
use Rattle.ada_grammar.proofs.SmallSources.{computes, source_of, at, expr_of, formals_of, id, mark, name_of, null_at, object, package_body_of, package_of, private_part, selected, sole, subprogram_of, use_of}
use Rattle.name_events.specs.declared.declaration.NameRule.TheVariants.{NotVisible, TooEarly, Unknown}
use Rattle.name_tests.proofs.SmallRules.{resolves, IsFirstBroken, IsResolved}

-- The innermost region that has one counts: the inner X, and not the outer.
innermost_region : IsResolved "procedure P is X : Integer; begin declare X : Boolean; begin X := True; end; end;" (0 ∷ 3 ∷ 17 ∷ 5 ∷ [])
    (unit.OfSubprogram (at 1) [] (subprogram_of 1 (subspec.Procedure (at 1) (id 11 "P") None) None 13 (item.Objects (at 16)
    (id 16 "X") [] (at 18) None (indication.Mark (at 20) (mark 20 "Integer")) (at 27) ∷ []) 29 (sole 35 (stmt.DeclareBlock
    (at 35) (item.Objects (at 43) (id 43 "X") [] (at 45) None (indication.Mark (at 47) (mark 47 "Boolean")) (at 54) ∷ []) (at
    56) (sole 62 (stmt.Assign (at 62) (name_of 62 "X") (at 64) (expr_of 67 (object 67 "True")) (at 71))) (at 73) (at 76))) 78
    None 81) ∷ [])
unfolding computes resolves
innermost_region = (source_of (search) (search) refl, refl, refl)

-- Where it has none, the region around it counts.
outer_region : IsResolved "procedure P is X : Integer; begin declare Y : Integer; begin X := Y; end; end;" (0 ∷ 0 ∷ 16 ∷ 17 ∷ [])
    (unit.OfSubprogram (at 1) [] (subprogram_of 1 (subspec.Procedure (at 1) (id 11 "P") None) None 13 (item.Objects (at 16)
    (id 16 "X") [] (at 18) None (indication.Mark (at 20) (mark 20 "Integer")) (at 27) ∷ []) 29 (sole 35 (stmt.DeclareBlock
    (at 35) (item.Objects (at 43) (id 43 "Y") [] (at 45) None (indication.Mark (at 47) (mark 47 "Integer")) (at 54) ∷ []) (at
    56) (sole 62 (stmt.Assign (at 62) (name_of 62 "X") (at 64) (expr_of 67 (object 67 "Y")) (at 68))) (at 70) (at 73))) 75
    None 78) ∷ [])
unfolding computes resolves
outer_region = (source_of (search) (search) refl, refl, refl)

-- Letter case makes no difference.
letter_case : IsResolved "procedure P is Total : INTEGER; begin TOTAL := 1; end p;" (0 ∷ 16 ∷ [])
    (unit.OfSubprogram (at 1) [] (subprogram_of 1 (subspec.Procedure (at 1) (id 11 "P") None) None 13 (item.Objects (at 16)
    (id 16 "Total") [] (at 22) None (indication.Mark (at 24) (mark 24 "INTEGER")) (at 31) ∷ []) 33 (sole 39 (stmt.Assign (at
    39) (name_of 39 "TOTAL") (at 45) (expr_of 48 (primary.Number (at 48) 1)) (at 49))) 51 (Some (id 55 "p")) 56) ∷ [])
unfolding computes resolves
letter_case = (source_of (search) (search) refl, refl, refl)

-- An object ends with its ";", so its initial value names the outer one.
object_ends_with_semicolon : IsResolved "procedure P is X : Integer; begin declare X : Integer := X; begin null; end; end;" (0 ∷ 0 ∷ 16 ∷ [])
    (unit.OfSubprogram (at 1) [] (subprogram_of 1 (subspec.Procedure (at 1) (id 11 "P") None) None 13 (item.Objects (at 16)
    (id 16 "X") [] (at 18) None (indication.Mark (at 20) (mark 20 "Integer")) (at 27) ∷ []) 29 (sole 35 (stmt.DeclareBlock
    (at 35) (item.InitializedObjects (at 43) (id 43 "X") [] (at 45) None (indication.Mark (at 47) (mark 47 "Integer")) (at
    55) (expr_of 58 (object 58 "X")) (at 59) ∷ []) (at 61) (null_at 67) (at 73) (at 76))) 78 None 81) ∷ [])
unfolding computes resolves
object_ends_with_semicolon = (source_of (search) (search) refl, refl, refl)

-- Without an outer one, it stands later.
object_not_ended : IsFirstBroken "procedure P is X : Integer := X; begin null; end;" TooEarly 31
    (unit.OfSubprogram (at 1) [] (subprogram_of 1 (subspec.Procedure (at 1) (id 11 "P") None) None 13
    (item.InitializedObjects (at 16) (id 16 "X") [] (at 18) None (indication.Mark (at 20) (mark 20 "Integer")) (at 28)
    (expr_of 31 (object 31 "X")) (at 32) ∷ []) 34 (null_at 40) 46 None 49) ∷ [])
unfolding computes resolves
object_not_ended = (source_of (search) (search) refl, refl)

-- A subprogram ends with its subspec: its body names it.
subprogram_ends_with_subspec : IsResolved "procedure P is begin P; end;" (15 ∷ [])
    (unit.OfSubprogram (at 1) [] (subprogram_of 1 (subspec.Procedure (at 1) (id 11 "P") None) None 13 [] 16 (sole 22
    (stmt.Call (at 22) (name_of 22 "P") (at 23))) 25 None 28) ∷ [])
unfolding computes resolves
subprogram_ends_with_subspec = (source_of (search) (search) refl, refl, refl)

-- Within its subspec it stands later.
subprogram_not_ended : IsFirstBroken "package A is function F (X : F) return Integer; end; package body A is function F (X : F) return Integer is begin return X; end; end;" TooEarly 30
    (unit.OfPackage (at 1) [] (package_of 1 (id 9 "A") None 11 (decl.Subprogram (at 14) (subspec.Function (at 14) (id 23 "F")
    (Some (formals_of 25 (formal.Moded (at 26) (id 26 "X") [] (at 28) None None (mark 30 "F")) [] 31)) (at 33)
    (indication.Mark (at 40) (mark 40 "Integer"))) None (at 47) ∷ []) None 49 None 52) ∷ unit.OfBody (at 54) []
    (package_body_of 54 62 (id 67 "A") None 69 (part.Completed (at 72) (subprogram_of 72 (subspec.Function (at 72) (id 81
    "F") (Some (formals_of 83 (formal.Moded (at 84) (id 84 "X") [] (at 86) None None (mark 88 "F")) [] 89)) (at 91)
    (indication.Mark (at 98) (mark 98 "Integer"))) None 106 [] 109 (sole 115 (stmt.ReturnValue (at 115) (expr_of 122 (object
    122 "X")) (at 123))) 125 None 128) ∷ []) 130 None 133) ∷ [])
unfolding computes resolves
subprogram_not_ended = (source_of (search) (search) refl, refl)

-- A package ends with its identifier: it names itself.
package_ends_with_identifier : IsResolved "package A is X : Integer; Y : Integer := A.X; end;" (0 ∷ 0 ∷ 15 ∷ 16 ∷ [])
    (unit.OfPackage (at 1) [] (package_of 1 (id 9 "A") None 11 (decl.OfItem (at 14) (item.Objects (at 14) (id 14 "X") [] (at
    16) None (indication.Mark (at 18) (mark 18 "Integer")) (at 25)) ∷ decl.OfItem (at 27) (item.InitializedObjects (at 27)
    (id 27 "Y") [] (at 29) None (indication.Mark (at 31) (mark 31 "Integer")) (at 39) (expr_of 42 (primary.Named (at 42)
    (name.Prefixed (at 42) (id 42 "A") (suffix.Selected (at 43) (id 44 "X") ∷ [])))) (at 45)) ∷ []) None 47 None 50) ∷ [])
unfolding computes resolves
package_ends_with_identifier = (source_of (search) (search) refl, refl, refl)

-- A formal ends with its formal: the next one names it.
formal_ends_with_formal : IsResolved "package A is procedure Q (X : Integer; Y : X); end; package body A is procedure Q (X : Integer; Y : X) is begin null; end; end;" (0 ∷ 17 ∷ 0 ∷ 19 ∷ [])
    (unit.OfPackage (at 1) [] (package_of 1 (id 9 "A") None 11 (decl.Subprogram (at 14) (subspec.Procedure (at 14) (id 24
    "Q") (Some (formals_of 26 (formal.Moded (at 27) (id 27 "X") [] (at 29) None None (mark 31 "Integer"))
    (next_formal.Semicolon (at 38) (formal.Moded (at 40) (id 40 "Y") [] (at 42) None None (mark 44 "X")) ∷ []) 45))) None (at
    46) ∷ []) None 48 None 51) ∷ unit.OfBody (at 53) [] (package_body_of 53 61 (id 66 "A") None 68 (part.Completed (at 71)
    (subprogram_of 71 (subspec.Procedure (at 71) (id 81 "Q") (Some (formals_of 83 (formal.Moded (at 84) (id 84 "X") [] (at
    86) None None (mark 88 "Integer")) (next_formal.Semicolon (at 95) (formal.Moded (at 97) (id 97 "Y") [] (at 99) None None
    (mark 101 "X")) ∷ []) 102))) None 104 [] 107 (null_at 113) 119 None 122) ∷ []) 124 None 127) ∷ [])
unfolding computes resolves
formal_ends_with_formal = (source_of (search) (search) refl, refl, refl)

-- Within its own it stands later.
formal_not_ended : IsFirstBroken "package A is procedure Q (X : Q; Y : Y); end; package body A is procedure Q (X : Integer; Y : Integer) is begin null; end; end;" TooEarly 31
    (unit.OfPackage (at 1) [] (package_of 1 (id 9 "A") None 11 (decl.Subprogram (at 14) (subspec.Procedure (at 14) (id 24
    "Q") (Some (formals_of 26 (formal.Moded (at 27) (id 27 "X") [] (at 29) None None (mark 31 "Q")) (next_formal.Semicolon
    (at 32) (formal.Moded (at 34) (id 34 "Y") [] (at 36) None None (mark 38 "Y")) ∷ []) 39))) None (at 40) ∷ []) None 42 None
    45) ∷ unit.OfBody (at 47) [] (package_body_of 47 55 (id 60 "A") None 62 (part.Completed (at 65) (subprogram_of 65
    (subspec.Procedure (at 65) (id 75 "Q") (Some (formals_of 77 (formal.Moded (at 78) (id 78 "X") [] (at 80) None None (mark
    82 "Integer")) (next_formal.Semicolon (at 89) (formal.Moded (at 91) (id 91 "Y") [] (at 93) None None (mark 95 "Integer"))
    ∷ []) 102))) None 104 [] 107 (null_at 113) 119 None 122) ∷ []) 124 None 127) ∷ [])
unfolding computes resolves
formal_not_ended = (source_of (search) (search) refl, refl)

-- A type ends with its ";".
type_not_ended : IsFirstBroken "procedure P is type T is access T; begin null; end;" TooEarly 33
    (unit.OfSubprogram (at 1) [] (subprogram_of 1 (subspec.Procedure (at 1) (id 11 "P") None) None 13 (item.AccessType (at
    16) (id 21 "T") (at 23) (at 26) (mark 33 "T") (at 34) ∷ []) 36 (null_at 42) 48 None 51) ∷ [])
unfolding computes resolves
type_not_ended = (source_of (search) (search) refl, refl)

-- An incomplete type has ended, and its full type is the same declaration.
incomplete_type_ended : IsResolved "procedure P is type T; type A is access T; type T is record X : A; end record; B : T; begin null; end;" (16 ∷ 17 ∷ 16 ∷ [])
    (unit.OfSubprogram (at 1) [] (subprogram_of 1 (subspec.Procedure (at 1) (id 11 "P") None) None 13 (item.IncompleteType
    (at 16) (id 21 "T") (at 22) ∷ item.AccessType (at 24) (id 29 "A") (at 31) (at 34) (mark 41 "T") (at 42) ∷ item.RecordType
    (at 44) (id 49 "T") (at 51) (at 54) (component.Fields (at 61) (id 61 "X") [] (at 63) (mark 65 "A") (at 66)) [] (at 68)
    (at 72) (at 78) ∷ item.Objects (at 80) (id 80 "B") [] (at 82) None (indication.Mark (at 84) (mark 84 "T")) (at 85) ∷ [])
    87 (null_at 93) 99 None 102) ∷ [])
unfolding computes resolves
incomplete_type_ended = (source_of (search) (search) refl, refl, refl)

-- A literal is declared where its type is.
literal_of_its_type : IsResolved "procedure P is type T is (Red, Green); X : T := Green; begin null; end;" (16 ∷ 18 ∷ [])
    (unit.OfSubprogram (at 1) [] (subprogram_of 1 (subspec.Procedure (at 1) (id 11 "P") None) None 13 (item.EnumerationType
    (at 16) (id 21 "T") (at 23) (at 26) (id 27 "Red") (next_id.FurtherIdentifier (at 30) (id 32 "Green") ∷ []) (at 37) (at
    38) ∷ item.InitializedObjects (at 40) (id 40 "X") [] (at 42) None (indication.Mark (at 44) (mark 44 "T")) (at 46)
    (expr_of 49 (object 49 "Green")) (at 54) ∷ []) 56 (null_at 62) 68 None 71) ∷ [])
unfolding computes resolves
literal_of_its_type = (source_of (search) (search) refl, refl, refl)

-- The parameter of a loop ends with its range.
parameter_ends_with_range : IsResolved "procedure P is I : Integer; begin for I in 1 .. I loop I := 2; end loop; end;" (0 ∷ 16 ∷ 17 ∷ [])
    (unit.OfSubprogram (at 1) [] (subprogram_of 1 (subspec.Procedure (at 1) (id 11 "P") None) None 13 (item.Objects (at 16)
    (id 16 "I") [] (at 18) None (indication.Mark (at 20) (mark 20 "Integer")) (at 27) ∷ []) 29 (sole 35 (stmt.For (at 35) (id
    39 "I") (at 41) None (range.Bounds (at 44) (expr_of 44 (primary.Number (at 44) 1)) (at 46) (expr_of 49 (object 49 "I")))
    (at 51) (sole 56 (stmt.Assign (at 56) (name_of 56 "I") (at 58) (expr_of 61 (primary.Number (at 61) 2)) (at 62))) (at 64)
    (at 68) (at 72))) 74 None 77) ∷ [])
unfolding computes resolves
parameter_ends_with_range = (source_of (search) (search) refl, refl, refl)

-- Where no region has one, the visible part of a package in use counts.
use_clause : IsResolved "with Ada.Text_IO; use Ada.Text_IO; procedure P is begin New_Line; end;" (6 ∷ 7 ∷ 6 ∷ 7 ∷ 10 ∷ [])
    (unit.OfSubprogram (at 1) (context.With (at 1) (selected 6 "Ada" 9 10 "Text_IO") [] (at 17) ∷ context.Use (at 19) (use_of
    19 None (selected 23 "Ada" 26 27 "Text_IO") [] 34) ∷ []) (subprogram_of 36 (subspec.Procedure (at 36) (id 46 "P") None)
    None 48 [] 51 (sole 57 (stmt.Call (at 57) (name_of 57 "New_Line") (at 65))) 67 None 70) ∷ [])
unfolding computes resolves
use_clause = (source_of (search) (search) refl, refl, refl)

-- A region that has one goes before a package in use.
region_before_use : IsResolved "package A is X : Integer; end; with A; use A; procedure P is X : Boolean; begin X := True; end;" (0 ∷ 15 ∷ 15 ∷ 3 ∷ 18 ∷ 5 ∷ [])
    (unit.OfPackage (at 1) [] (package_of 1 (id 9 "A") None 11 (decl.OfItem (at 14) (item.Objects (at 14) (id 14 "X") [] (at
    16) None (indication.Mark (at 18) (mark 18 "Integer")) (at 25)) ∷ []) None 27 None 30) ∷ unit.OfSubprogram (at 32)
    (context.With (at 32) (mark 37 "A") [] (at 38) ∷ context.Use (at 40) (use_of 40 None (mark 44 "A") [] 45) ∷ [])
    (subprogram_of 47 (subspec.Procedure (at 47) (id 57 "P") None) None 59 (item.Objects (at 62) (id 62 "X") [] (at 64) None
    (indication.Mark (at 66) (mark 66 "Boolean")) (at 73) ∷ []) 75 (sole 81 (stmt.Assign (at 81) (name_of 81 "X") (at 83)
    (expr_of 86 (object 86 "True")) (at 90))) 92 None 95) ∷ [])
unfolding computes resolves
region_before_use = (source_of (search) (search) refl, refl, refl)

-- Two packages in use have it.
two_packages_in_use : IsFirstBroken "package A is X : Integer; end; package B is X : Integer; end; with A, B; use A, B; procedure P is begin X := 1; end;" NotVisible 105
    (unit.OfPackage (at 1) [] (package_of 1 (id 9 "A") None 11 (decl.OfItem (at 14) (item.Objects (at 14) (id 14 "X") [] (at
    16) None (indication.Mark (at 18) (mark 18 "Integer")) (at 25)) ∷ []) None 27 None 30) ∷ unit.OfPackage (at 32) []
    (package_of 32 (id 40 "B") None 42 (decl.OfItem (at 45) (item.Objects (at 45) (id 45 "X") [] (at 47) None
    (indication.Mark (at 49) (mark 49 "Integer")) (at 56)) ∷ []) None 58 None 61) ∷ unit.OfSubprogram (at 63) (context.With
    (at 63) (mark 68 "A") (next_dotted.FurtherDotted (at 69) (mark 71 "B") ∷ []) (at 72) ∷ context.Use (at 74) (use_of 74
    None (mark 78 "A") (next_dotted.FurtherDotted (at 79) (mark 81 "B") ∷ []) 82) ∷ []) (subprogram_of 84 (subspec.Procedure
    (at 84) (id 94 "P") None) None 96 [] 99 (sole 105 (stmt.Assign (at 105) (name_of 105 "X") (at 107) (expr_of 110
    (primary.Number (at 110) 1)) (at 111))) 113 None 116) ∷ [])
unfolding computes resolves
two_packages_in_use = (source_of (search) (search) refl, refl)

-- One package in use twice is no other one.
one_package_twice_in_use : IsResolved "package A is X : Integer; end; with A; use A, A; procedure P is begin X := 1; end;" (0 ∷ 15 ∷ 15 ∷ 15 ∷ 16 ∷ [])
    (unit.OfPackage (at 1) [] (package_of 1 (id 9 "A") None 11 (decl.OfItem (at 14) (item.Objects (at 14) (id 14 "X") [] (at
    16) None (indication.Mark (at 18) (mark 18 "Integer")) (at 25)) ∷ []) None 27 None 30) ∷ unit.OfSubprogram (at 32)
    (context.With (at 32) (mark 37 "A") [] (at 38) ∷ context.Use (at 40) (use_of 40 None (mark 44 "A")
    (next_dotted.FurtherDotted (at 45) (mark 47 "A") ∷ []) 48) ∷ []) (subprogram_of 50 (subspec.Procedure (at 50) (id 60 "P")
    None) None 62 [] 65 (sole 71 (stmt.Assign (at 71) (name_of 71 "X") (at 73) (expr_of 76 (primary.Number (at 76) 1)) (at
    77))) 79 None 82) ∷ [])
unfolding computes resolves
one_package_twice_in_use = (source_of (search) (search) refl, refl, refl)

-- A use clause counts in its region.
use_ends_with_region : IsFirstBroken "package A is X : Integer; end; with A; procedure P is begin declare use A; begin X := 1; end; X := 2; end;" Unknown 95
    (unit.OfPackage (at 1) [] (package_of 1 (id 9 "A") None 11 (decl.OfItem (at 14) (item.Objects (at 14) (id 14 "X") [] (at
    16) None (indication.Mark (at 18) (mark 18 "Integer")) (at 25)) ∷ []) None 27 None 30) ∷ unit.OfSubprogram (at 32)
    (context.With (at 32) (mark 37 "A") [] (at 38) ∷ []) (subprogram_of 40 (subspec.Procedure (at 40) (id 50 "P") None) None
    52 [] 55 (stmts.Sequence (at 61) (stmt.DeclareBlock (at 61) (item.Use (at 69) (use_of 69 None (mark 73 "A") [] 74) ∷ [])
    (at 76) (sole 82 (stmt.Assign (at 82) (name_of 82 "X") (at 84) (expr_of 87 (primary.Number (at 87) 1)) (at 88))) (at 90)
    (at 93)) (stmt.Assign (at 95) (name_of 95 "X") (at 97) (expr_of 100 (primary.Number (at 100) 2)) (at 101) ∷ [])) 103 None
    106) ∷ [])
unfolding computes resolves
use_ends_with_region = (source_of (search) (search) refl, refl)

-- A use clause shows the visible part alone.
use_shows_visible_part : IsFirstBroken "package A is private X : Integer; end; with A; use A; procedure P is begin X := 1; end;" Unknown 76
    (unit.OfPackage (at 1) [] (package_of 1 (id 9 "A") None 11 [] (Some (private_part 14 (decl.OfItem (at 22) (item.Objects
    (at 22) (id 22 "X") [] (at 24) None (indication.Mark (at 26) (mark 26 "Integer")) (at 33)) ∷ []))) 35 None 38) ∷
    unit.OfSubprogram (at 40) (context.With (at 40) (mark 45 "A") [] (at 46) ∷ context.Use (at 48) (use_of 48 None (mark 52
    "A") [] 53) ∷ []) (subprogram_of 55 (subspec.Procedure (at 55) (id 65 "P") None) None 67 [] 70 (sole 76 (stmt.Assign (at
    76) (name_of 76 "X") (at 78) (expr_of 81 (primary.Number (at 81) 1)) (at 82))) 84 None 87) ∷ [])
unfolding computes resolves
use_shows_visible_part = (source_of (search) (search) refl, refl)

-- P.X is the declaration of X in the visible part of P.
visible_part : IsResolved "package A is X : Integer; end; with A; procedure P is X : Boolean; begin A.X := 1; end;" (0 ∷ 15 ∷ 3 ∷ 15 ∷ 16 ∷ [])
    (unit.OfPackage (at 1) [] (package_of 1 (id 9 "A") None 11 (decl.OfItem (at 14) (item.Objects (at 14) (id 14 "X") [] (at
    16) None (indication.Mark (at 18) (mark 18 "Integer")) (at 25)) ∷ []) None 27 None 30) ∷ unit.OfSubprogram (at 32)
    (context.With (at 32) (mark 37 "A") [] (at 38) ∷ []) (subprogram_of 40 (subspec.Procedure (at 40) (id 50 "P") None) None
    52 (item.Objects (at 55) (id 55 "X") [] (at 57) None (indication.Mark (at 59) (mark 59 "Boolean")) (at 66) ∷ []) 68 (sole
    74 (stmt.Assign (at 74) (name.Prefixed (at 74) (id 74 "A") (suffix.Selected (at 75) (id 76 "X") ∷ [])) (at 78) (expr_of
    81 (primary.Number (at 81) 1)) (at 82))) 84 None 87) ∷ [])
unfolding computes resolves
visible_part = (source_of (search) (search) refl, refl, refl)

-- What is declared in the private part is not named from outside.
private_part_from_outside : IsFirstBroken "package A is private X : Integer; end; with A; procedure P is begin A.X := 1; end;" NotVisible 71
    (unit.OfPackage (at 1) [] (package_of 1 (id 9 "A") None 11 [] (Some (private_part 14 (decl.OfItem (at 22) (item.Objects
    (at 22) (id 22 "X") [] (at 24) None (indication.Mark (at 26) (mark 26 "Integer")) (at 33)) ∷ []))) 35 None 38) ∷
    unit.OfSubprogram (at 40) (context.With (at 40) (mark 45 "A") [] (at 46) ∷ []) (subprogram_of 48 (subspec.Procedure (at
    48) (id 58 "P") None) None 60 [] 63 (sole 69 (stmt.Assign (at 69) (name.Prefixed (at 69) (id 69 "A") (suffix.Selected (at
    70) (id 71 "X") ∷ [])) (at 73) (expr_of 76 (primary.Number (at 76) 1)) (at 77))) 79 None 82) ∷ [])
unfolding computes resolves
private_part_from_outside = (source_of (search) (search) refl, refl)

-- Nor what is declared in the body.
body_from_outside : IsFirstBroken "package A is end; package body A is X : Integer; end; with A; procedure P is begin A.X := 1; end;" NotVisible 86
    (unit.OfPackage (at 1) [] (package_of 1 (id 9 "A") None 11 [] None 14 None 17) ∷ unit.OfBody (at 19) [] (package_body_of
    19 27 (id 32 "A") None 34 (part.Declared (at 37) (decl.OfItem (at 37) (item.Objects (at 37) (id 37 "X") [] (at 39) None
    (indication.Mark (at 41) (mark 41 "Integer")) (at 48))) ∷ []) 50 None 53) ∷ unit.OfSubprogram (at 55) (context.With (at
    55) (mark 60 "A") [] (at 61) ∷ []) (subprogram_of 63 (subspec.Procedure (at 63) (id 73 "P") None) None 75 [] 78 (sole 84
    (stmt.Assign (at 84) (name.Prefixed (at 84) (id 84 "A") (suffix.Selected (at 85) (id 86 "X") ∷ [])) (at 88) (expr_of 91
    (primary.Number (at 91) 1)) (at 92))) 94 None 97) ∷ [])
unfolding computes resolves
body_from_outside = (source_of (search) (search) refl, refl)

-- Within the body of the package it is.
private_part_from_body : IsResolved "package A is procedure Q; private X : Integer; end; package body A is procedure Q is begin A.X := 1; end; end;" (0 ∷ 15 ∷ 17 ∷ [])
    (unit.OfPackage (at 1) [] (package_of 1 (id 9 "A") None 11 (decl.Subprogram (at 14) (subspec.Procedure (at 14) (id 24
    "Q") None) None (at 25) ∷ []) (Some (private_part 27 (decl.OfItem (at 35) (item.Objects (at 35) (id 35 "X") [] (at 37)
    None (indication.Mark (at 39) (mark 39 "Integer")) (at 46)) ∷ []))) 48 None 51) ∷ unit.OfBody (at 53) [] (package_body_of
    53 61 (id 66 "A") None 68 (part.Completed (at 71) (subprogram_of 71 (subspec.Procedure (at 71) (id 81 "Q") None) None 83
    [] 86 (sole 92 (stmt.Assign (at 92) (name.Prefixed (at 92) (id 92 "A") (suffix.Selected (at 93) (id 94 "X") ∷ [])) (at
    96) (expr_of 99 (primary.Number (at 99) 1)) (at 100))) 102 None 105) ∷ []) 107 None 110) ∷ [])
unfolding computes resolves
private_part_from_body = (source_of (search) (search) refl, refl, refl)

-- What stands later in the package itself is N4.
later_in_package : IsFirstBroken "package A is Y : Integer := A.X; X : Integer; end;" TooEarly 31
    (unit.OfPackage (at 1) [] (package_of 1 (id 9 "A") None 11 (decl.OfItem (at 14) (item.InitializedObjects (at 14) (id 14
    "Y") [] (at 16) None (indication.Mark (at 18) (mark 18 "Integer")) (at 26) (expr_of 29 (primary.Named (at 29)
    (name.Prefixed (at 29) (id 29 "A") (suffix.Selected (at 30) (id 31 "X") ∷ [])))) (at 32)) ∷ decl.OfItem (at 34)
    (item.Objects (at 34) (id 34 "X") [] (at 36) None (indication.Mark (at 38) (mark 38 "Integer")) (at 45)) ∷ []) None 47
    None 50) ∷ [])
unfolding computes resolves
later_in_package = (source_of (search) (search) refl, refl)

-- What a package has nowhere is N1.
not_in_package : IsFirstBroken "package A is end; with A; procedure P is begin A.X := 1; end;" Unknown 50
    (unit.OfPackage (at 1) [] (package_of 1 (id 9 "A") None 11 [] None 14 None 17) ∷ unit.OfSubprogram (at 19) (context.With
    (at 19) (mark 24 "A") [] (at 25) ∷ []) (subprogram_of 27 (subspec.Procedure (at 27) (id 37 "P") None) None 39 [] 42 (sole
    48 (stmt.Assign (at 48) (name.Prefixed (at 48) (id 48 "A") (suffix.Selected (at 49) (id 50 "X") ∷ [])) (at 52) (expr_of
    55 (primary.Number (at 55) 1)) (at 56))) 58 None 61) ∷ [])
unfolding computes resolves
not_in_package = (source_of (search) (search) refl, refl)

-- An identifier after a dot is no occurrence where no package stands before the dot, nor is one
-- before "=>" or after an apostrophe.
component_no_occurrence : IsResolved "procedure P is X : Integer; begin X.Missing := P (Absent => X'First); end;" (0 ∷ 16 ∷ 15 ∷ 16 ∷ [])
    (unit.OfSubprogram (at 1) [] (subprogram_of 1 (subspec.Procedure (at 1) (id 11 "P") None) None 13 (item.Objects (at 16)
    (id 16 "X") [] (at 18) None (indication.Mark (at 20) (mark 20 "Integer")) (at 27) ∷ []) 29 (sole 35 (stmt.Assign (at 35)
    (name.Prefixed (at 35) (id 35 "X") (suffix.Selected (at 36) (id 37 "Missing") ∷ [])) (at 45) (expr_of 48 (primary.Named
    (at 48) (name.Prefixed (at 48) (id 48 "P") (suffix.Applied (at 50) (arg.Association (at 51) (id 51 "Absent") (at 58)
    (expr_of 61 (primary.Named (at 61) (name.Prefixed (at 61) (id 61 "X") (suffix.Attribute (at 62) (id 63 "First") ∷ [])))))
    [] (at 68) ∷ [])))) (at 69))) 71 None 74) ∷ [])
unfolding computes resolves
component_no_occurrence = (source_of (search) (search) refl, refl, refl)

-- A package is named only where the context has a with of it.
no_with : IsFirstBroken "package A is X : Integer; end; procedure P is begin A.X := 1; end;" NotVisible 53
    (unit.OfPackage (at 1) [] (package_of 1 (id 9 "A") None 11 (decl.OfItem (at 14) (item.Objects (at 14) (id 14 "X") [] (at
    16) None (indication.Mark (at 18) (mark 18 "Integer")) (at 25)) ∷ []) None 27 None 30) ∷ unit.OfSubprogram (at 32) []
    (subprogram_of 32 (subspec.Procedure (at 32) (id 42 "P") None) None 44 [] 47 (sole 53 (stmt.Assign (at 53) (name.Prefixed
    (at 53) (id 53 "A") (suffix.Selected (at 54) (id 55 "X") ∷ [])) (at 57) (expr_of 60 (primary.Number (at 60) 1)) (at 61)))
    63 None 66) ∷ [])
unfolding computes resolves
no_with = (source_of (search) (search) refl, refl)

-- The same holds of Ada.Unchecked_Deallocation. A with of Ada.Text_IO is also one of Ada.
no_with_of_generic : IsFirstBroken "with Ada.Text_IO; procedure P is type T is access Integer; procedure F is new Ada.Unchecked_Deallocation (Integer, T); begin null; end;" NotVisible 83
    (unit.OfSubprogram (at 1) (context.With (at 1) (selected 6 "Ada" 9 10 "Text_IO") [] (at 17) ∷ []) (subprogram_of 19
    (subspec.Procedure (at 19) (id 29 "P") None) None 31 (item.AccessType (at 34) (id 39 "T") (at 41) (at 44) (mark 51
    "Integer") (at 58) ∷ item.Instance (at 60) (id 70 "F") (at 72) (at 75) (selected 79 "Ada" 82 83 "Unchecked_Deallocation")
    (at 106) (arg.Positional (at 107) (expr_of 107 (object 107 "Integer"))) (next_arg.FurtherArg (at 114) (arg.Positional (at
    116) (expr_of 116 (object 116 "T"))) ∷ []) (at 117) (at 118) ∷ []) 120 (null_at 126) 132 None 135) ∷ [])
unfolding computes resolves
no_with_of_generic = (source_of (search) (search) refl, refl)

-- With its with it is named.
with_of_generic : IsResolved "with Ada.Unchecked_Deallocation; procedure P is type T is access Integer; procedure F is new Ada.Unchecked_Deallocation (Integer, T); begin null; end;" (6 ∷ 14 ∷ 0 ∷ 6 ∷ 14 ∷ 0 ∷ 16 ∷ [])
    (unit.OfSubprogram (at 1) (context.With (at 1) (selected 6 "Ada" 9 10 "Unchecked_Deallocation") [] (at 32) ∷ [])
    (subprogram_of 34 (subspec.Procedure (at 34) (id 44 "P") None) None 46 (item.AccessType (at 49) (id 54 "T") (at 56) (at
    59) (mark 66 "Integer") (at 73) ∷ item.Instance (at 75) (id 85 "F") (at 87) (at 90) (selected 94 "Ada" 97 98
    "Unchecked_Deallocation") (at 121) (arg.Positional (at 122) (expr_of 122 (object 122 "Integer"))) (next_arg.FurtherArg
    (at 129) (arg.Positional (at 131) (expr_of 131 (object 131 "T"))) ∷ []) (at 132) (at 133) ∷ []) 135 (null_at 141) 147
    None 150) ∷ [])
unfolding computes resolves
with_of_generic = (source_of (search) (search) refl, refl, refl)

-- The context of a specification counts in its body too, with its use clauses.
context_of_specification : IsResolved "with Ada.Text_IO; use Ada.Text_IO; package A is procedure Q; end; package body A is procedure Q is begin New_Line; Ada.Text_IO.New_Line; end; end;" (6 ∷ 7 ∷ 6 ∷ 7 ∷ 10 ∷ 6 ∷ 7 ∷ 10 ∷ [])
    (unit.OfPackage (at 1) (context.With (at 1) (selected 6 "Ada" 9 10 "Text_IO") [] (at 17) ∷ context.Use (at 19) (use_of 19
    None (selected 23 "Ada" 26 27 "Text_IO") [] 34) ∷ []) (package_of 36 (id 44 "A") None 46 (decl.Subprogram (at 49)
    (subspec.Procedure (at 49) (id 59 "Q") None) None (at 60) ∷ []) None 62 None 65) ∷ unit.OfBody (at 67) []
    (package_body_of 67 75 (id 80 "A") None 82 (part.Completed (at 85) (subprogram_of 85 (subspec.Procedure (at 85) (id 95
    "Q") None) None 97 [] 100 (stmts.Sequence (at 106) (stmt.Call (at 106) (name_of 106 "New_Line") (at 114)) (stmt.Call (at
    116) (name.Prefixed (at 116) (id 116 "Ada") (suffix.Selected (at 119) (id 120 "Text_IO") ∷ suffix.Selected (at 127) (id
    128 "New_Line") ∷ [])) (at 136) ∷ [])) 138 None 141) ∷ []) 143 None 146) ∷ [])
unfolding computes resolves
context_of_specification = (source_of (search) (search) refl, refl, refl)

-- The context of another unit does not.
context_of_other_unit : IsFirstBroken "with Ada.Text_IO; package A is end; procedure P is begin Ada.Text_IO.New_Line; end;" NotVisible 58
    (unit.OfPackage (at 1) (context.With (at 1) (selected 6 "Ada" 9 10 "Text_IO") [] (at 17) ∷ []) (package_of 19 (id 27 "A")
    None 29 [] None 32 None 35) ∷ unit.OfSubprogram (at 37) [] (subprogram_of 37 (subspec.Procedure (at 37) (id 47 "P") None)
    None 49 [] 52 (sole 58 (stmt.Call (at 58) (name.Prefixed (at 58) (id 58 "Ada") (suffix.Selected (at 61) (id 62 "Text_IO")
    ∷ suffix.Selected (at 69) (id 70 "New_Line") ∷ [])) (at 78))) 80 None 83) ∷ [])
unfolding computes resolves
context_of_other_unit = (source_of (search) (search) refl, refl)

-- The specification of a package stands earlier in the text.
with_of_later_package : IsFirstBroken "with A; procedure P is begin null; end; package A is end;" TooEarly 6
    (unit.OfSubprogram (at 1) (context.With (at 1) (mark 6 "A") [] (at 7) ∷ []) (subprogram_of 9 (subspec.Procedure (at 9)
    (id 19 "P") None) None 21 [] 24 (null_at 30) 36 None 39) ∷ unit.OfPackage (at 41) [] (package_of 41 (id 49 "A") None 51
    [] None 54 None 57) ∷ [])
unfolding computes resolves
with_of_later_package = (source_of (search) (search) refl, refl)

-- A package stands in a with.
with_of_nothing : IsFirstBroken "with Missing; procedure P is begin null; end;" Unknown 6
    (unit.OfSubprogram (at 1) (context.With (at 1) (mark 6 "Missing") [] (at 13) ∷ []) (subprogram_of 15 (subspec.Procedure
    (at 15) (id 25 "P") None) None 27 [] 30 (null_at 36) 42 None 45) ∷ [])
unfolding computes resolves
with_of_nothing = (source_of (search) (search) refl, refl)

-- A library procedure stands in none.
with_of_procedure : IsFirstBroken "procedure P is begin null; end; with P; package A is end;" Unknown 38
    (unit.OfSubprogram (at 1) [] (subprogram_of 1 (subspec.Procedure (at 1) (id 11 "P") None) None 13 [] 16 (null_at 22) 28
    None 31) ∷ unit.OfPackage (at 33) (context.With (at 33) (mark 38 "P") [] (at 39) ∷ []) (package_of 41 (id 49 "A") None 51
    [] None 54 None 57) ∷ [])
unfolding computes resolves
with_of_procedure = (source_of (search) (search) refl, refl)

-- A package stands in a use.
use_of_type : IsFirstBroken "procedure P is use Integer; begin null; end;" Unknown 20
    (unit.OfSubprogram (at 1) [] (subprogram_of 1 (subspec.Procedure (at 1) (id 11 "P") None) None 13 (item.Use (at 16)
    (use_of 16 None (mark 20 "Integer") [] 27) ∷ []) 29 (null_at 35) 41 None 44) ∷ [])
unfolding computes resolves
use_of_type = (source_of (search) (search) refl, refl)

-- A type stands in a use type.
use_type_of_package : IsFirstBroken "package A is end; with A; use type A; procedure P is begin null; end;" Unknown 36
    (unit.OfPackage (at 1) [] (package_of 1 (id 9 "A") None 11 [] None 14 None 17) ∷ unit.OfSubprogram (at 19) (context.With
    (at 19) (mark 24 "A") [] (at 25) ∷ context.Use (at 27) (use_of 27 (Some (at 31)) (mark 36 "A") [] 37) ∷ [])
    (subprogram_of 39 (subspec.Procedure (at 39) (id 49 "P") None) None 51 [] 54 (null_at 60) 66 None 69) ∷ [])
unfolding computes resolves
use_type_of_package = (source_of (search) (search) refl, refl)

-- So is a use type of a type.
use_type_of_type : IsResolved "package A is type T is (R, S); end; with A; use type A.T; procedure P is begin null; end;" (15 ∷ 15 ∷ 16 ∷ [])
    (unit.OfPackage (at 1) [] (package_of 1 (id 9 "A") None 11 (decl.OfItem (at 14) (item.EnumerationType (at 14) (id 19 "T")
    (at 21) (at 24) (id 25 "R") (next_id.FurtherIdentifier (at 26) (id 28 "S") ∷ []) (at 29) (at 30)) ∷ []) None 32 None 35)
    ∷ unit.OfSubprogram (at 37) (context.With (at 37) (mark 42 "A") [] (at 43) ∷ context.Use (at 45) (use_of 45 (Some (at
    49)) (selected 54 "A" 55 56 "T") [] 57) ∷ []) (subprogram_of 59 (subspec.Procedure (at 59) (id 69 "P") None) None 71 []
    74 (null_at 80) 86 None 89) ∷ [])
unfolding computes resolves
use_type_of_type = (source_of (search) (search) refl, refl, refl)

-- No declaration is found, and none stands later.
unknown_name : IsFirstBroken "procedure P is begin X := 1; end;" Unknown 22
    (unit.OfSubprogram (at 1) [] (subprogram_of 1 (subspec.Procedure (at 1) (id 11 "P") None) None 13 [] 16 (sole 22
    (stmt.Assign (at 22) (name_of 22 "X") (at 24) (expr_of 27 (primary.Number (at 27) 1)) (at 28))) 30 None 33) ∷ [])
unfolding computes resolves
unknown_name = (source_of (search) (search) refl, refl)

-- The same of a mark.
unknown_mark : IsFirstBroken "procedure P is X : Missing; begin null; end;" Unknown 20
    (unit.OfSubprogram (at 1) [] (subprogram_of 1 (subspec.Procedure (at 1) (id 11 "P") None) None 13 (item.Objects (at 16)
    (id 16 "X") [] (at 18) None (indication.Mark (at 20) (mark 20 "Missing")) (at 27) ∷ []) 29 (null_at 35) 41 None 44) ∷ [])
unfolding computes resolves
unknown_mark = (source_of (search) (search) refl, refl)

-- One stands later in the region.
later_name : IsFirstBroken "procedure P is X : Integer := Y; Y : Integer; begin null; end;" TooEarly 31
    (unit.OfSubprogram (at 1) [] (subprogram_of 1 (subspec.Procedure (at 1) (id 11 "P") None) None 13
    (item.InitializedObjects (at 16) (id 16 "X") [] (at 18) None (indication.Mark (at 20) (mark 20 "Integer")) (at 28)
    (expr_of 31 (object 31 "Y")) (at 32) ∷ item.Objects (at 34) (id 34 "Y") [] (at 36) None (indication.Mark (at 38) (mark 38
    "Integer")) (at 45) ∷ []) 47 (null_at 53) 59 None 62) ∷ [])
unfolding computes resolves
later_name = (source_of (search) (search) refl, refl)

-- The body belongs to the region of its package.
later_in_body : IsFirstBroken "package A is X : Integer := Y; end; package body A is Y : Integer; end;" TooEarly 29
    (unit.OfPackage (at 1) [] (package_of 1 (id 9 "A") None 11 (decl.OfItem (at 14) (item.InitializedObjects (at 14) (id 14
    "X") [] (at 16) None (indication.Mark (at 18) (mark 18 "Integer")) (at 26) (expr_of 29 (object 29 "Y")) (at 30)) ∷ [])
    None 32 None 35) ∷ unit.OfBody (at 37) [] (package_body_of 37 45 (id 50 "A") None 52 (part.Declared (at 55) (decl.OfItem
    (at 55) (item.Objects (at 55) (id 55 "Y") [] (at 57) None (indication.Mark (at 59) (mark 59 "Integer")) (at 66))) ∷ [])
    68 None 71) ∷ [])
unfolding computes resolves
later_in_body = (source_of (search) (search) refl, refl)
