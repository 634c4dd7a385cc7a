-- Where the words of the rules leave a choice (docs/DECISIONS.md, "Names"): small sources.
use Rattle.std.proofs.Common.{refl, [], ◌∷◌}
use Rattle.std.specs.Prelude.{Some, None}
use Rattle.ada_tree.specs.declared.declaration.Component.TheVariants as component
use Rattle.ada_tree.specs.declared.unit.Context.TheVariants as context
use Rattle.ada_tree.specs.declared.subprogram.Decl.TheVariants as decl
use Rattle.ada_tree.specs.declared.declaration.Indication.TheVariants as indication
use Rattle.ada_tree.specs.declared.declaration.Item.TheVariants as item
use Rattle.ada_tree.specs.declared.expression.Name.TheVariants as name
use Rattle.ada_tree.specs.declared.identifier.NextIdentifier.TheVariants as next_id
use Rattle.ada_tree.specs.declared.unit.BodyPart.TheVariants as part
use Rattle.ada_tree.specs.declared.expression.Primary.TheVariants as primary
use Rattle.ada_tree.specs.declared.range.Range.TheVariants as range
use Rattle.ada_tree.specs.declared.statement.Stmt.TheVariants as stmt
use Rattle.ada_tree.specs.declared.subprogram.Subspec.TheVariants as subspec
use Rattle.ada_tree.specs.declared.expression.Suffix.TheVariants as suffix
use Rattle.ada_tree.specs.declared.unit.SourceUnit.TheVariants as unit
use Rattle.ada_grammar.proofs.SmallSources.{computes, source_of, at, expr_of, id, mark, name_of, null_at, object, package_body_of, package_of, private_part, selected, sole, subprogram_of, use_of}
use Rattle.name_events.specs.declared.declaration.NameRule.TheVariants.{NoBody, NotVisible, TooEarly, Twice, Unknown}
use Rattle.name_tests.proofs.SmallRules.{resolves, IsFirstBroken, IsResolved}

-- A package that stands later is N4 without a with, too.
later_package_without_with : IsFirstBroken "procedure P is begin A.X := 1; end; package A is X : Integer; end;" TooEarly 22
    (unit.OfSubprogram (at 1) [] (subprogram_of 1 (subspec.Procedure (at 1) (id 11 "P") None) None 13 [] 16 (sole 22
    (stmt.Assign (at 22) (name.Prefixed (at 22) (id 22 "A") (suffix.Selected (at 23) (id 24 "X") ∷ [])) (at 26) (expr_of 29
    (primary.Number (at 29) 1)) (at 30))) 32 None 35) ∷ unit.OfPackage (at 37) [] (package_of 37 (id 45 "A") None 47
    (decl.OfItem (at 50) (item.Objects (at 50) (id 50 "X") [] (at 52) None (indication.Mark (at 54) (mark 54 "Integer")) (at
    61)) ∷ []) None 63 None 66) ∷ [])
unfolding computes resolves
later_package_without_with = (source_of (search) (search) refl, refl)

-- A use clause counts after its ";" only.
use_counts_behind_it : IsFirstBroken "package A is X : Integer; end; with A; procedure P is Y : Integer := X; use A; begin null; end;" Unknown 70
    (unit.OfPackage (at 1) [] (package_of 1 (id 9 "A") None 11 (decl.OfItem (at 14) (item.Objects (at 14) (id 14 "X") [] (at
    16) None (indication.Mark (at 18) (mark 18 "Integer")) (at 25)) ∷ []) None 27 None 30) ∷ unit.OfSubprogram (at 32)
    (context.With (at 32) (mark 37 "A") [] (at 38) ∷ []) (subprogram_of 40 (subspec.Procedure (at 40) (id 50 "P") None) None
    52 (item.InitializedObjects (at 55) (id 55 "Y") [] (at 57) None (indication.Mark (at 59) (mark 59 "Integer")) (at 67)
    (expr_of 70 (object 70 "X")) (at 71) ∷ item.Use (at 73) (use_of 73 None (mark 77 "A") [] 78) ∷ []) 80 (null_at 86) 92
    None 95) ∷ [])
unfolding computes resolves
use_counts_behind_it = (source_of (search) (search) refl, refl)

-- P.X in the private part of P itself, with X declared there: N3 where X has ended.
private_part_from_itself : IsFirstBroken "package A is private X : Integer; Y : Integer := A.X; end;" NotVisible 52
    (unit.OfPackage (at 1) [] (package_of 1 (id 9 "A") None 11 [] (Some (private_part 14 (decl.OfItem (at 22) (item.Objects
    (at 22) (id 22 "X") [] (at 24) None (indication.Mark (at 26) (mark 26 "Integer")) (at 33)) ∷ decl.OfItem (at 35)
    (item.InitializedObjects (at 35) (id 35 "Y") [] (at 37) None (indication.Mark (at 39) (mark 39 "Integer")) (at 47)
    (expr_of 50 (primary.Named (at 50) (name.Prefixed (at 50) (id 50 "A") (suffix.Selected (at 51) (id 52 "X") ∷ [])))) (at
    53)) ∷ []))) 55 None 58) ∷ [])
unfolding computes resolves
private_part_from_itself = (source_of (search) (search) refl, refl)

-- And N4 where it has not.
private_part_from_itself_later : IsFirstBroken "package A is private Y : Integer := A.X; X : Integer; end;" TooEarly 39
    (unit.OfPackage (at 1) [] (package_of 1 (id 9 "A") None 11 [] (Some (private_part 14 (decl.OfItem (at 22)
    (item.InitializedObjects (at 22) (id 22 "Y") [] (at 24) None (indication.Mark (at 26) (mark 26 "Integer")) (at 34)
    (expr_of 37 (primary.Named (at 37) (name.Prefixed (at 37) (id 37 "A") (suffix.Selected (at 38) (id 39 "X") ∷ [])))) (at
    40)) ∷ decl.OfItem (at 42) (item.Objects (at 42) (id 42 "X") [] (at 44) None (indication.Mark (at 46) (mark 46
    "Integer")) (at 53)) ∷ []))) 55 None 58) ∷ [])
unfolding computes resolves
private_part_from_itself_later = (source_of (search) (search) refl, refl)

-- A private type is completed only in the private part of the package whose visible part has it.
private_type_elsewhere : IsFirstBroken "procedure P is type T is private; type T is (R); begin null; end;" NoBody 21
    (unit.OfSubprogram (at 1) [] (subprogram_of 1 (subspec.Procedure (at 1) (id 11 "P") None) None 13 (item.PrivateType (at
    16) (id 21 "T") (at 23) (at 26) (at 33) ∷ item.EnumerationType (at 35) (id 40 "T") (at 42) (at 45) (id 46 "R") [] (at 47)
    (at 48) ∷ []) 50 (null_at 56) 62 None 65) ∷ [])
unfolding computes resolves
private_type_elsewhere = (source_of (search) (search) refl, refl)

-- A full type in the same part completes none.
private_type_in_same_part : IsFirstBroken "package A is type T is private; type T is (R); end;" NoBody 19
    (unit.OfPackage (at 1) [] (package_of 1 (id 9 "A") None 11 (decl.OfItem (at 14) (item.PrivateType (at 14) (id 19 "T") (at
    21) (at 24) (at 31)) ∷ decl.OfItem (at 33) (item.EnumerationType (at 33) (id 38 "T") (at 40) (at 43) (id 44 "R") [] (at
    45) (at 46)) ∷ []) None 48 None 51) ∷ [])
unfolding computes resolves
private_type_in_same_part = (source_of (search) (search) refl, refl)

-- A private type completes no incomplete one.
incomplete_then_private : IsFirstBroken "package A is type T; type T is private; private type T is (R); end;" NoBody 19
    (unit.OfPackage (at 1) [] (package_of 1 (id 9 "A") None 11 (decl.OfItem (at 14) (item.IncompleteType (at 14) (id 19 "T")
    (at 20)) ∷ decl.OfItem (at 22) (item.PrivateType (at 22) (id 27 "T") (at 29) (at 32) (at 39)) ∷ []) (Some (private_part
    41 (decl.OfItem (at 49) (item.EnumerationType (at 49) (id 54 "T") (at 56) (at 59) (id 60 "R") [] (at 61) (at 62)) ∷ [])))
    64 None 67) ∷ [])
unfolding computes resolves
incomplete_then_private = (source_of (search) (search) refl, refl)

-- A procedure body completes the declaration of a function: typing finds the other profile.
body_of_other_kind : IsResolved "package A is function Q return Integer; end; package body A is procedure Q is begin null; end; end;" (0 ∷ [])
    (unit.OfPackage (at 1) [] (package_of 1 (id 9 "A") None 11 (decl.Subprogram (at 14) (subspec.Function (at 14) (id 23 "Q")
    None (at 25) (indication.Mark (at 32) (mark 32 "Integer"))) None (at 39) ∷ []) None 41 None 44) ∷ unit.OfBody (at 46) []
    (package_body_of 46 54 (id 59 "A") None 61 (part.Completed (at 64) (subprogram_of 64 (subspec.Procedure (at 64) (id 74
    "Q") None) None 76 [] 79 (null_at 85) 91 None 94) ∷ []) 96 None 99) ∷ [])
unfolding computes resolves
body_of_other_kind = (source_of (search) (search) refl, refl, refl)

-- Doubled components.
components_doubled : IsFirstBroken "procedure P is type T is record X, X : Integer; end record; begin null; end;" Twice 36
    (unit.OfSubprogram (at 1) [] (subprogram_of 1 (subspec.Procedure (at 1) (id 11 "P") None) None 13 (item.RecordType (at
    16) (id 21 "T") (at 23) (at 26) (component.Fields (at 33) (id 33 "X") (next_id.FurtherIdentifier (at 34) (id 36 "X") ∷
    []) (at 38) (mark 40 "Integer") (at 47)) [] (at 49) (at 53) (at 59) ∷ []) 61 (null_at 67) 73 None 76) ∷ [])
unfolding computes resolves
components_doubled = (source_of (search) (search) refl, refl)

-- A library unit has the region of the predefined declarations.
unit_of_predefined_name : IsFirstBroken "package Integer is end;" Twice 9
    (unit.OfPackage (at 1) [] (package_of 1 (id 9 "Integer") None 17 [] None 20 None 23) ∷ [])
unfolding computes resolves
unit_of_predefined_name = (source_of (search) (search) refl, refl)

-- What is declared within Ada is not there.
unit_of_name_within_ada : IsResolved "package Text_IO is end;" []
    (unit.OfPackage (at 1) [] (package_of 1 (id 9 "Text_IO") None 17 [] None 20 None 23) ∷ [])
unfolding computes resolves
unit_of_name_within_ada = (source_of (search) (search) refl, refl, refl)

-- The library procedure is seen without a with.
library_procedure_without_with : IsResolved "procedure P is begin null; end; package A is procedure Q; end; package body A is procedure Q is begin P; end; end;" (15 ∷ [])
    (unit.OfSubprogram (at 1) [] (subprogram_of 1 (subspec.Procedure (at 1) (id 11 "P") None) None 13 [] 16 (null_at 22) 28
    None 31) ∷ unit.OfPackage (at 33) [] (package_of 33 (id 41 "A") None 43 (decl.Subprogram (at 46) (subspec.Procedure (at
    46) (id 56 "Q") None) None (at 57) ∷ []) None 59 None 62) ∷ unit.OfBody (at 64) [] (package_body_of 64 72 (id 77 "A")
    None 79 (part.Completed (at 82) (subprogram_of 82 (subspec.Procedure (at 82) (id 92 "Q") None) None 94 [] 97 (sole 103
    (stmt.Call (at 103) (name_of 103 "P") (at 104))) 106 None 109) ∷ []) 111 None 114) ∷ [])
unfolding computes resolves
library_procedure_without_with = (source_of (search) (search) refl, refl, refl)

-- The range of a loop stands in its region, where the parameter has not ended.
range_in_region_of_loop : IsFirstBroken "procedure P is begin for I in 1 .. I loop null; end loop; end;" TooEarly 36
    (unit.OfSubprogram (at 1) [] (subprogram_of 1 (subspec.Procedure (at 1) (id 11 "P") None) None 13 [] 16 (sole 22
    (stmt.For (at 22) (id 26 "I") (at 28) None (range.Bounds (at 31) (expr_of 31 (primary.Number (at 31) 1)) (at 33) (expr_of
    36 (object 36 "I"))) (at 38) (null_at 43) (at 49) (at 53) (at 57))) 59 None 62) ∷ [])
unfolding computes resolves
range_in_region_of_loop = (source_of (search) (search) refl, refl)

-- A package body before its specification.
body_before_specification : IsFirstBroken "package body A is end; package A is end;" TooEarly 14
    (unit.OfBody (at 1) [] (package_body_of 1 9 (id 14 "A") None 16 [] 19 None 22) ∷ unit.OfPackage (at 24) [] (package_of 24
    (id 32 "A") None 34 [] None 37 None 40) ∷ [])
unfolding computes resolves
body_before_specification = (source_of (search) (search) refl, refl)

-- A package body with the name of the library procedure.
body_of_library_procedure : IsFirstBroken "procedure P is begin null; end; package body P is end;" Twice 46
    (unit.OfSubprogram (at 1) [] (subprogram_of 1 (subspec.Procedure (at 1) (id 11 "P") None) None 13 [] 16 (null_at 22) 28
    None 31) ∷ unit.OfBody (at 33) [] (package_body_of 33 41 (id 46 "P") None 48 [] 51 None 54) ∷ [])
unfolding computes resolves
body_of_library_procedure = (source_of (search) (search) refl, refl)

-- A selector after a subprogram is no occurrence.
selector_through_subprogram : IsResolved "procedure P is X : Integer; begin P.Missing := 1; end;" (0 ∷ 15 ∷ [])
    (unit.OfSubprogram (at 1) [] (subprogram_of 1 (subspec.Procedure (at 1) (id 11 "P") None) None 13 (item.Objects (at 16)
    (id 16 "X") [] (at 18) None (indication.Mark (at 20) (mark 20 "Integer")) (at 27) ∷ []) 29 (sole 35 (stmt.Assign (at 35)
    (name.Prefixed (at 35) (id 35 "P") (suffix.Selected (at 36) (id 37 "Missing") ∷ [])) (at 45) (expr_of 48 (primary.Number
    (at 48) 1)) (at 49))) 51 None 54) ∷ [])
unfolding computes resolves
selector_through_subprogram = (source_of (search) (search) refl, refl, refl)

-- The order of clauses in a context is free.
use_before_with : IsResolved "package A is X : Integer; end; use A; with A; procedure P is begin X := 1; end;" (0 ∷ 15 ∷ 15 ∷ 16 ∷ [])
    (unit.OfPackage (at 1) [] (package_of 1 (id 9 "A") None 11 (decl.OfItem (at 14) (item.Objects (at 14) (id 14 "X") [] (at
    16) None (indication.Mark (at 18) (mark 18 "Integer")) (at 25)) ∷ []) None 27 None 30) ∷ unit.OfSubprogram (at 32)
    (context.Use (at 32) (use_of 32 None (mark 36 "A") [] 37) ∷ context.With (at 39) (mark 44 "A") [] (at 45) ∷ [])
    (subprogram_of 47 (subspec.Procedure (at 47) (id 57 "P") None) None 59 [] 62 (sole 68 (stmt.Assign (at 68) (name_of 68
    "X") (at 70) (expr_of 73 (primary.Number (at 73) 1)) (at 74))) 76 None 79) ∷ [])
unfolding computes resolves
use_before_with = (source_of (search) (search) refl, refl, refl)

-- What the first body left open stays open: N5 there, before the N2.
second_body_completes_nothing : IsFirstBroken "package A is procedure Q; end; package body A is end; package body A is procedure Q is begin null; end; end;" NoBody 24
    (unit.OfPackage (at 1) [] (package_of 1 (id 9 "A") None 11 (decl.Subprogram (at 14) (subspec.Procedure (at 14) (id 24
    "Q") None) None (at 25) ∷ []) None 27 None 30) ∷ unit.OfBody (at 32) [] (package_body_of 32 40 (id 45 "A") None 47 [] 50
    None 53) ∷ unit.OfBody (at 55) [] (package_body_of 55 63 (id 68 "A") None 70 (part.Completed (at 73) (subprogram_of 73
    (subspec.Procedure (at 73) (id 83 "Q") None) None 85 [] 88 (null_at 94) 100 None 103) ∷ []) 105 None 108) ∷ [])
unfolding computes resolves
second_body_completes_nothing = (source_of (search) (search) refl, refl)

-- Two declarations of one procedure without a body: N5 at the first.
two_declarations_of_procedure : IsFirstBroken "package A is procedure Q; procedure Q; end;" NoBody 24
    (unit.OfPackage (at 1) [] (package_of 1 (id 9 "A") None 11 (decl.Subprogram (at 14) (subspec.Procedure (at 14) (id 24
    "Q") None) None (at 25) ∷ decl.Subprogram (at 27) (subspec.Procedure (at 27) (id 37 "Q") None) None (at 38) ∷ []) None 40
    None 43) ∷ [])
unfolding computes resolves
two_declarations_of_procedure = (source_of (search) (search) refl, refl)

-- A name with an unknown selector in a with is N1 at its first token.
unknown_selector_in_with : IsFirstBroken "with Ada.Foo; procedure P is begin null; end;" Unknown 6
    (unit.OfSubprogram (at 1) (context.With (at 1) (selected 6 "Ada" 9 10 "Foo") [] (at 13) ∷ []) (subprogram_of 15
    (subspec.Procedure (at 15) (id 25 "P") None) None 27 [] 30 (null_at 36) 42 None 45) ∷ [])
unfolding computes resolves
unknown_selector_in_with = (source_of (search) (search) refl, refl)

-- The same in a use.
unknown_selector_in_use : IsFirstBroken "package A is end; with A; use A.Missing; procedure P is begin null; end;" Unknown 31
    (unit.OfPackage (at 1) [] (package_of 1 (id 9 "A") None 11 [] None 14 None 17) ∷ unit.OfSubprogram (at 19) (context.With
    (at 19) (mark 24 "A") [] (at 25) ∷ context.Use (at 27) (use_of 27 None (selected 31 "A" 32 33 "Missing") [] 40) ∷ [])
    (subprogram_of 42 (subspec.Procedure (at 42) (id 52 "P") None) None 54 [] 57 (null_at 63) 69 None 72) ∷ [])
unfolding computes resolves
unknown_selector_in_use = (source_of (search) (search) refl, refl)

-- A selector that is hidden or stands later has its own fault there.
hidden_selector_in_use_type : IsFirstBroken "package A is private type T is (R); end; with A; use type A.T; procedure P is begin null; end;" NotVisible 61
    (unit.OfPackage (at 1) [] (package_of 1 (id 9 "A") None 11 [] (Some (private_part 14 (decl.OfItem (at 22)
    (item.EnumerationType (at 22) (id 27 "T") (at 29) (at 32) (id 33 "R") [] (at 34) (at 35)) ∷ []))) 37 None 40) ∷
    unit.OfSubprogram (at 42) (context.With (at 42) (mark 47 "A") [] (at 48) ∷ context.Use (at 50) (use_of 50 (Some (at 54))
    (selected 59 "A" 60 61 "T") [] 62) ∷ []) (subprogram_of 64 (subspec.Procedure (at 64) (id 74 "P") None) None 76 [] 79
    (null_at 85) 91 None 94) ∷ [])
unfolding computes resolves
hidden_selector_in_use_type = (source_of (search) (search) refl, refl)
