-- Identifiers: small sources, and the declaration of each identifier by its column.
use Rattle.std.proofs.Common.{◌≡◌, refl, [], ◌∷◌}
use Rattle.std.specs.Prelude.{Some, None}
use Rattle.ada_tree.specs.declared.expression.Arg.TheVariants as arg
use Rattle.ada_tree.specs.declared.subprogram.Decl.TheVariants as decl
use Rattle.ada_tree.specs.declared.subprogram.Formal.TheVariants as formal
use Rattle.ada_tree.specs.declared.declaration.Indication.TheVariants as indication
use Rattle.ada_tree.specs.declared.declaration.Item.TheVariants as item
use Rattle.ada_tree.specs.declared.expression.Name.TheVariants as name
use Rattle.ada_tree.specs.declared.unit.BodyPart.TheVariants as part
use Rattle.ada_tree.specs.declared.expression.Primary.TheVariants as primary
use Rattle.ada_tree.specs.declared.range.Range.TheVariants as range
use Rattle.ada_tree.specs.declared.statement.Stmt.TheVariants as stmt
use Rattle.ada_tree.specs.declared.subprogram.Subspec.TheVariants as subspec
use Rattle.ada_tree.specs.declared.expression.Suffix.TheVariants as suffix
use Rattle.ada_tree.specs.declared.unit.SourceUnit.TheVariants as unit
use Rattle.ada_grammar.proofs.SmallSources.{computes, source_of, at, expr_of, formals_of, id, mark, name_of, object, package_body_of, package_of, private_part, sole, subprogram_of}
use Rattle.name_events.specs.Identified.{number_at}
use Rattle.name_tests.proofs.SmallRules.{resolves, IsIdentified}

-- A package body has the number of its package, and the body of a subprogram that of the
-- declaration which it completes. Its formals are others.
bodies : IsIdentified "package A is procedure Q (X : Integer); end; package body A is procedure Q (X : Integer) is begin Q (X); end; end;"
    ((9, 15) ∷ (24, 16) ∷ (27, 17) ∷ (31, 0) ∷ (59, 15) ∷ (74, 16) ∷ (77, 18) ∷ (81, 0) ∷ (99, 16) ∷ (102, 18) ∷ [])
    (unit.OfPackage (at 1) [] (package_of 1 (id 9 "A") None 11 (decl.Subprogram (at 14) (subspec.Procedure (at 14) (id 24
    "Q") (Some (formals_of 26 (formal.Moded (at 27) (id 27 "X") [] (at 29) None None (mark 31 "Integer")) [] 38))) None (at
    39) ∷ []) None 41 None 44) ∷ unit.OfBody (at 46) [] (package_body_of 46 54 (id 59 "A") None 61 (part.Completed (at 64)
    (subprogram_of 64 (subspec.Procedure (at 64) (id 74 "Q") (Some (formals_of 76 (formal.Moded (at 77) (id 77 "X") [] (at
    79) None None (mark 81 "Integer")) [] 88))) None 90 [] 93 (sole 99 (stmt.Call (at 99) (name.Prefixed (at 99) (id 99 "Q")
    (suffix.Applied (at 101) (arg.Positional (at 102) (expr_of 102 (object 102 "X"))) [] (at 103) ∷ [])) (at 104))) 106 None
    109) ∷ []) 111 None 114) ∷ [])
unfolding computes resolves
bodies = (source_of (search) (search) refl, refl)

-- The full type has the number of the private type.
full_type : IsIdentified "package A is type T is private; private type T is (R); end;" ((9, 15) ∷ (19, 16) ∷ (46, 16) ∷ (52, 17) ∷ [])
    (unit.OfPackage (at 1) [] (package_of 1 (id 9 "A") None 11 (decl.OfItem (at 14) (item.PrivateType (at 14) (id 19 "T") (at
    21) (at 24) (at 31)) ∷ []) (Some (private_part 33 (decl.OfItem (at 41) (item.EnumerationType (at 41) (id 46 "T") (at 48)
    (at 51) (id 52 "R") [] (at 53) (at 54)) ∷ []))) 56 None 59) ∷ [])
unfolding computes resolves
full_type = (source_of (search) (search) refl, refl)

-- The parameter of a loop is another one than the object around it.
parameter : IsIdentified "procedure P is I : Integer; begin for I in 1 .. I loop I := 2; end loop; end;"
    ((11, 15) ∷ (16, 16) ∷ (20, 0) ∷ (39, 17) ∷ (49, 16) ∷ (56, 17) ∷ [])
    (unit.OfSubprogram (at 1) [] (subprogram_of 1 (subspec.Procedure (at 1) (id 11 "P") None) None 13 (item.Objects (at 16)
    (id 16 "I") [] (at 18) None (indication.Mark (at 20) (mark 20 "Integer")) (at 27) ∷ []) 29 (sole 35 (stmt.For (at 35) (id
    39 "I") (at 41) None (range.Bounds (at 44) (expr_of 44 (primary.Number (at 44) 1)) (at 46) (expr_of 49 (object 49 "I")))
    (at 51) (sole 56 (stmt.Assign (at 56) (name_of 56 "I") (at 58) (expr_of 61 (primary.Number (at 61) 2)) (at 62))) (at 64)
    (at 68) (at 72))) 74 None 77) ∷ [])
unfolding computes resolves
parameter = (source_of (search) (search) refl, refl)

-- The first one at a position counts.
by_position : number_at ((record { pos = at 9; number = 15 }) ∷ (record { pos = at 24; number = 16 }) ∷ (record { pos = at 9; number = 3 }) ∷ []) (at 9) ≡ Some 15
by_position = refl

not_by_position : number_at ((record { pos = at 9; number = 15 }) ∷ []) (at 10) ≡ None
not_by_position = refl
