-- A second declaration of a name in a region that has several parts: N2.
--
-- tools/tree_terms.py makes this of the sources that data/cases.txt has under its name.
use Rattle.std.proofs.Common.{refl, [], ◌∷◌}
use Rattle.std.specs.Prelude.{None, Some}
use Rattle.ada_tree.specs.declared.operator.AddingOperator.TheVariants as adding
use Rattle.ada_tree.specs.declared.expression.Aggregate.TheVariants as aggregate
use Rattle.ada_tree.specs.declared.statement.When.TheVariants as alternative
use Rattle.ada_tree.specs.declared.expression.Arg.TheVariants as arg
use Rattle.ada_tree.specs.declared.range.Choice.TheVariants as choice
use Rattle.ada_tree.specs.declared.unit.Context.TheVariants as context
use Rattle.ada_tree.specs.declared.subprogram.Decl.TheVariants as decl
use Rattle.ada_tree.specs.declared.expression.Expr.TheVariants as expr
use Rattle.ada_tree.specs.declared.expression.Factor.TheVariants as factor
use Rattle.ada_tree.specs.declared.declaration.Indication.TheVariants as indication
use Rattle.ada_tree.specs.declared.declaration.Item.TheVariants as item
use Rattle.ada_tree.specs.declared.operator.MultiplyingOperator.TheVariants as multiplying
use Rattle.ada_tree.specs.declared.expression.NextArg.TheVariants as next_arg
use Rattle.ada_tree.specs.declared.expression.NextFactor.TheVariants as next_factor
use Rattle.ada_tree.specs.declared.subprogram.NextFormal.TheVariants as next_formal
use Rattle.ada_tree.specs.declared.expression.NextTerm.TheVariants as next_term
use Rattle.ada_tree.specs.declared.unit.BodyPart.TheVariants as part
use Rattle.ada_tree.specs.declared.expression.Primary.TheVariants as primary
use Rattle.ada_tree.specs.declared.range.Range.TheVariants as range
use Rattle.ada_tree.specs.declared.expression.Rel.TheVariants as rel
use Rattle.ada_tree.specs.declared.operator.RelationalOperator.TheVariants as relational
use Rattle.ada_tree.specs.declared.statement.Stmt.TheVariants as stmt
use Rattle.ada_tree.specs.declared.statement.Stmts.TheVariants as stmts
use Rattle.ada_tree.specs.declared.subprogram.Subspec.TheVariants as subspec
use Rattle.ada_tree.specs.declared.expression.Suffix.TheVariants as suffix
use Rattle.ada_tree.specs.declared.expression.Sum.TheVariants as sum
use Rattle.ada_tree.specs.declared.expression.Term.TheVariants as term
use Rattle.ada_tree.specs.declared.unit.SourceUnit.TheVariants as unit
use Rattle.ada_grammar.proofs.SmallSources.{computes}
use Rattle.name_events.specs.declared.declaration.NameRule.TheVariants.{Twice}
use Rattle.name_tests.proofs.SmallRules.{resolves}
use Rattle.name_tests.proofs.SourceTrees.{IsFirstBrokenOf, actual_of, assign_of, at, at1, at2, at3, at4, call_of, expr_of, factor_of, fields_of, formals_of, id, indication_of, initialized_of, mark, moded_of, named, next_id_of, object, objects_of, package_body_of, package_of, private_part, selected, sole, subprogram_of, sum_of, term_of, use_context, use_of}

-- The formals and the declarative part of a subprogram are one region.
second_formal_1 : IsFirstBrokenOf Twice (at 2 54) ((unit.OfPackage (at 1 1) (context.With (at 1 1) (selected (at 1 6)
    "Ada" (at 1 9) (at 1 10) "Text_IO") [] (at 1 17) ∷ use_context (use_of (at 1 19) None (selected (at 1 23) "Ada" (at
    1 26) (at 1 27) "Text_IO") [] (at 1 34)) ∷ context.With (at 1 36) (selected (at 1 41) "Ada" (at 1 44) (at 1 45)
    "Integer_Text_IO") [] (at 1 60) ∷ use_context (use_of (at 1 62) None (selected (at 1 66) "Ada" (at 1 69) (at 1 70)
    "Integer_Text_IO") [] (at 1 85)) ∷ context.With (at 1 87) (selected (at 1 92) "Ada" (at 1 95) (at 1 96)
    "Unchecked_Deallocation") [] (at 1 118) ∷ []) (package_of (at 1 120) (id (at 1 128) "Former_P") None (at 1 137)
    (decl.Subprogram (at 2 4) (subspec.Procedure (at 2 4) (id (at 2 14) "Former_Q") (Some (formals_of (at 2 23)
    (moded_of (id (at 2 24) "Former_X") [] (at 2 33) None None (mark (at 2 35) "Integer")) (next_formal.Semicolon (at 2
    42) (moded_of (id (at 2 44) "Former_Y") (next_id_of (at 2 52) (at 2 54) "Former_X" ∷ []) (at 2 63) None None (mark
    (at 2 65) "Boolean")) ∷ []) (at 2 72)))) None (at 2 73) ∷ []) None (at 3 1) (Some (id (at 3 5) "Former_P")) (at 3
    13)) ∷ unit.OfBody (at 4 4) [] (package_body_of (at 4 4) (at 4 12) (id (at 4 17) "Former_P") None (at 4 26)
    (part.Completed (at 5 4) (subprogram_of (at 5 4) (subspec.Procedure (at 5 4) (id (at 5 14) "Former_Q") (Some
    (formals_of (at 5 23) (moded_of (id (at 5 24) "Former_X") [] (at 5 33) None None (mark (at 5 35) "Integer"))
    (next_formal.Semicolon (at 5 42) (moded_of (id (at 5 44) "Former_Y") (next_id_of (at 5 52) (at 5 54) "Former_Z" ∷
    []) (at 5 63) None None (mark (at 5 65) "Boolean")) ∷ []) (at 5 72)))) None (at 5 74) [] (at 5 77) (sole (at 5 83)
    (stmt.Null (at 5 83) (at 5 87))) (at 5 89) (Some (id (at 5 93) "Former_Q")) (at 5 101)) ∷ []) (at 6 4) (Some (id (at
    6 8) "Former_P")) (at 6 16)) ∷ unit.OfSubprogram (at 7 4) (context.With (at 7 4) (selected (at 7 9) "Ada" (at 7 12)
    (at 7 13) "Text_IO") [] (at 7 20) ∷ use_context (use_of (at 7 22) None (selected (at 7 26) "Ada" (at 7 29) (at 7 30)
    "Text_IO") [] (at 7 37)) ∷ context.With (at 7 39) (selected (at 7 44) "Ada" (at 7 47) (at 7 48) "Integer_Text_IO")
    [] (at 7 63) ∷ use_context (use_of (at 7 65) None (selected (at 7 69) "Ada" (at 7 72) (at 7 73) "Integer_Text_IO")
    [] (at 7 88)) ∷ context.With (at 7 90) (selected (at 7 95) "Ada" (at 7 98) (at 7 99) "Unchecked_Deallocation") []
    (at 7 121) ∷ []) (subprogram_of (at 8 4) (subspec.Procedure (at 8 4) (id (at 8 14) "Main") None) None (at 8 19)
    (item.IncompleteType (at 9 1) (id (at 9 6) "Cell") (at 9 10) ∷ item.AccessType (at 10 7) (id (at 10 12) "List") (at
    10 17) (at 10 20) (mark (at 10 27) "Cell") (at 10 31) ∷ item.RecordType (at 11 4) (id (at 11 9) "Cell") (at 11 14)
    (at 11 17) (fields_of (id (at 11 24) "Value") [] (at 11 30) (mark (at 11 32) "Integer") (at 11 39)) (fields_of (id
    (at 11 41) "Next") [] (at 11 46) (mark (at 11 48) "List") (at 11 52) ∷ []) (at 11 54) (at 11 58) (at 11 64) ∷
    objects_of (id (at 12 1) "X") (next_id_of (at 12 2) (at 12 4) "Y" ∷ []) (at 12 6) None (indication_of (mark (at 12
    8) "List")) (at 12 12) ∷ initialized_of (id (at 13 4) "N") [] (at 13 6) None (indication_of (mark (at 13 8)
    "Integer")) (at 13 16) (expr_of (at 13 19) (primary.Number (at 13 19) 9)) (at 13 20) ∷ []) (at 14 1) (stmts.Sequence
    (at 15 1) (assign_of (at 15 1) "X" [] (at 15 3) (expr_of (at 15 6) (primary.AllocatedAggregate (at 15 6) (mark (at
    15 10) "Cell") (at 15 14) (aggregate.Several (at 15 15) (actual_of (at 15 16) (object (at 15 16) "N")) (at 15 17)
    (actual_of (at 15 19) (primary.Null (at 15 19))) [] (at 15 23)))) (at 15 24)) (stmt.IfElse (at 16 1)
    (expr.LoneRelation (at 16 4) (rel.Compared (at 16 4) (sum_of (at 16 4) (object (at 16 4) "N")) relational.Greater
    (at 16 6) (sum_of (at 16 8) (primary.Number (at 16 8) 3)))) (at 16 10) (sole (at 16 15) (assign_of (at 16 15) "N" []
    (at 16 17) (expr.LoneRelation (at 16 20) (rel.LoneSum (at 16 20) (sum.Unsigned (at 16 20) (term_of (at 16 20)
    (object (at 16 20) "N")) (next_term.FurtherTerm (at 16 22) adding.Subtract (term_of (at 16 24) (primary.Number (at
    16 24) 1)) ∷ [])))) (at 16 25))) [] (at 16 27) (sole (at 16 32) (stmt.Null (at 16 32) (at 16 36))) (at 16 38) (at 16
    42) (at 16 44) ∷ stmt.DeclareBlock (at 17 7) (initialized_of (id (at 17 15) "B") [] (at 17 17) None
    (indication.Anonymous (at 17 19) None (mark (at 17 26) "Cell")) (at 17 31) (expr_of (at 17 34) (object (at 17 34)
    "X")) (at 17 35) ∷ []) (at 17 37) (sole (at 17 43) (stmt.If (at 17 43) (expr.LoneRelation (at 17 46) (rel.Compared
    (at 17 46) (sum_of (at 17 46) (object (at 17 46) "B")) relational.NotEqual (at 17 48) (sum_of (at 17 51)
    (primary.Null (at 17 51))))) (at 17 56) (sole (at 17 61) (assign_of (at 17 61) "B" (suffix.Selected (at 17 62) (id
    (at 17 63) "Value") ∷ []) (at 17 69) (expr_of (at 17 72) (object (at 17 72) "N")) (at 17 73))) [] (at 17 75) (at 17
    79) (at 17 81))) (at 17 83) (at 17 86) ∷ stmt.While (at 18 7) (expr.LoneRelation (at 18 13) (rel.Compared (at 18 13)
    (sum_of (at 18 13) (object (at 18 13) "N")) relational.Greater (at 18 15) (sum_of (at 18 17) (primary.Number (at 18
    17) 5)))) (at 18 19) (sole (at 18 24) (assign_of (at 18 24) "N" [] (at 18 26) (expr.LoneRelation (at 18 29)
    (rel.LoneSum (at 18 29) (sum.Unsigned (at 18 29) (term.Product (at 18 29) (factor_of (at 18 29) (object (at 18 29)
    "N")) (next_factor.FurtherFactor (at 18 31) multiplying.Divide (factor_of (at 18 33) (primary.Number (at 18 33) 2))
    ∷ [])) []))) (at 18 34))) (at 18 36) (at 18 40) (at 18 44) ∷ [])) (at 19 7) (Some (id (at 19 11) "Main")) (at 19
    15)) ∷ []) ∷ [])
unfolding computes resolves
second_formal_1 = refl

second_formal_2 : IsFirstBrokenOf Twice (at 5 61) ((unit.OfPackage (at 1 1) (context.With (at 1 1) (selected (at 1 6)
    "Ada" (at 1 9) (at 1 10) "Text_IO") [] (at 1 17) ∷ use_context (use_of (at 1 19) None (selected (at 1 23) "Ada" (at
    1 26) (at 1 27) "Text_IO") [] (at 1 34)) ∷ context.With (at 1 36) (selected (at 1 41) "Ada" (at 1 44) (at 1 45)
    "Integer_Text_IO") [] (at 1 60) ∷ use_context (use_of (at 1 62) None (selected (at 1 66) "Ada" (at 1 69) (at 1 70)
    "Integer_Text_IO") [] (at 1 85)) ∷ context.With (at 1 87) (selected (at 1 92) "Ada" (at 1 95) (at 1 96)
    "Unchecked_Deallocation") [] (at 1 118) ∷ []) (package_of (at 1 120) (id (at 1 128) "Spare_P") None (at 1 136)
    (decl.Subprogram (at 2 1) (subspec.Function (at 2 1) (id (at 2 10) "Spare_F") (Some (formals_of (at 2 18) (moded_of
    (id (at 2 19) "Spare_X") [] (at 2 27) None None (mark (at 2 29) "Integer")) [] (at 2 36))) (at 2 38) (indication_of
    (mark (at 2 45) "Integer"))) None (at 2 52) ∷ []) None (at 3 1) (Some (id (at 3 5) "Spare_P")) (at 3 12)) ∷
    unit.OfBody (at 4 1) [] (package_body_of (at 4 1) (at 4 9) (id (at 4 14) "Spare_P") None (at 4 22) (part.Completed
    (at 5 1) (subprogram_of (at 5 1) (subspec.Function (at 5 1) (id (at 5 10) "Spare_F") (Some (formals_of (at 5 18)
    (moded_of (id (at 5 19) "Spare_X") [] (at 5 27) None None (mark (at 5 29) "Integer")) [] (at 5 36))) (at 5 38)
    (indication_of (mark (at 5 45) "Integer"))) None (at 5 53) (item.EnumerationType (at 5 56) (id (at 5 61) "Spare_X")
    (at 5 69) (at 5 72) (id (at 5 73) "Spare_A") (next_id_of (at 5 80) (at 5 82) "Spare_B" ∷ []) (at 5 89) (at 5 90) ∷
    []) (at 5 92) (sole (at 5 98) (stmt.ReturnValue (at 5 98) (expr_of (at 5 105) (primary.Number (at 5 105) 1)) (at 5
    106))) (at 5 108) (Some (id (at 5 112) "Spare_F")) (at 5 119)) ∷ []) (at 6 1) (Some (id (at 6 5) "Spare_P")) (at 6
    12)) ∷ unit.OfPackage (at 7 1) (context.With (at 7 1) (selected (at 7 6) "Ada" (at 7 9) (at 7 10) "Text_IO") [] (at
    7 17) ∷ use_context (use_of (at 7 19) None (selected (at 7 23) "Ada" (at 7 26) (at 7 27) "Text_IO") [] (at 7 34)) ∷
    context.With (at 7 36) (selected (at 7 41) "Ada" (at 7 44) (at 7 45) "Integer_Text_IO") [] (at 7 60) ∷ use_context
    (use_of (at 7 62) None (selected (at 7 66) "Ada" (at 7 69) (at 7 70) "Integer_Text_IO") [] (at 7 85)) ∷ context.With
    (at 7 87) (selected (at 7 92) "Ada" (at 7 95) (at 7 96) "Unchecked_Deallocation") [] (at 7 118) ∷ []) (package_of
    (at 8 1) (id (at 8 9) "Store") None (at 8 15) (decl.OfItem (at 9 1) (item.IncompleteType (at 9 1) (id (at 9 6)
    "Cell") (at 9 10)) ∷ decl.OfItem (at 10 1) (item.AccessType (at 10 1) (id (at 10 6) "List") (at 10 11) (at 10 14)
    (mark (at 10 21) "Cell") (at 10 25)) ∷ decl.OfItem (at 11 1) (item.RecordType (at 11 1) (id (at 11 6) "Cell") (at 11
    11) (at 11 14) (fields_of (id (at 11 21) "Value") [] (at 11 27) (mark (at 11 29) "Integer") (at 11 36)) (fields_of
    (id (at 11 38) "Next") [] (at 11 43) (mark (at 11 45) "List") (at 11 49) ∷ []) (at 11 51) (at 11 55) (at 11 61)) ∷
    decl.Subprogram (at 12 1) (subspec.Procedure (at 12 1) (id (at 12 11) "Push") (Some (formals_of (at 12 16) (moded_of
    (id (at 12 17) "L") [] (at 12 19) (Some (at 12 21)) (Some (at 12 24)) (mark (at 12 28) "List"))
    (next_formal.Semicolon (at 12 32) (moded_of (id (at 12 34) "V") [] (at 12 36) None None (mark (at 12 38) "Integer"))
    ∷ []) (at 12 45)))) None (at 12 46) ∷ decl.Subprogram (at 13 1) (subspec.Function (at 13 1) (id (at 13 10) "Sum")
    (Some (formals_of (at 13 14) (moded_of (id (at 13 15) "L") [] (at 13 17) None None (mark (at 13 19) "List")) [] (at
    13 23))) (at 13 25) (indication_of (mark (at 13 32) "Integer"))) None (at 13 39) ∷ decl.OfItem (at 14 1) (objects_of
    (id (at 14 1) "Total") [] (at 14 7) None (indication_of (mark (at 14 9) "Integer")) (at 14 16)) ∷ []) None (at 15 1)
    (Some (id (at 15 5) "Store")) (at 15 10)) ∷ unit.OfBody (at 16 1) [] (package_body_of (at 16 1) (at 16 9) (id (at 16
    14) "Store") None (at 16 20) (part.Completed (at 17 1) (subprogram_of (at 17 1) (subspec.Procedure (at 17 1) (id (at
    17 11) "Push") (Some (formals_of (at 17 16) (moded_of (id (at 17 17) "L") [] (at 17 19) (Some (at 17 21)) (Some (at
    17 24)) (mark (at 17 28) "List")) (next_formal.Semicolon (at 17 32) (moded_of (id (at 17 34) "V") [] (at 17 36) None
    None (mark (at 17 38) "Integer")) ∷ []) (at 17 45)))) None (at 17 47) [] (at 18 1) (sole (at 19 1) (assign_of (at 19
    1) "L" [] (at 19 3) (expr_of (at 19 6) (primary.AllocatedAggregate (at 19 6) (mark (at 19 10) "Cell") (at 19 14)
    (aggregate.Several (at 19 15) (actual_of (at 19 16) (object (at 19 16) "V")) (at 19 17) (actual_of (at 19 19)
    (object (at 19 19) "L")) [] (at 19 20)))) (at 19 21))) (at 20 1) (Some (id (at 20 5) "Push")) (at 20 9)) ∷
    part.Completed (at 21 1) (subprogram_of (at 21 1) (subspec.Function (at 21 1) (id (at 21 10) "Sum") (Some
    (formals_of (at 21 14) (moded_of (id (at 21 15) "L") [] (at 21 17) None None (mark (at 21 19) "List")) [] (at 21
    23))) (at 21 25) (indication_of (mark (at 21 32) "Integer"))) None (at 21 40) (initialized_of (id (at 22 1) "C") []
    (at 22 3) None (indication.Anonymous (at 22 5) (Some (at 22 12)) (mark (at 22 21) "Cell")) (at 22 26) (expr_of (at
    22 29) (object (at 22 29) "L")) (at 22 30) ∷ initialized_of (id (at 23 1) "N") [] (at 23 3) None (indication_of
    (mark (at 23 5) "Integer")) (at 23 13) (expr_of (at 23 16) (primary.Number (at 23 16) 0)) (at 23 17) ∷ []) (at 24 1)
    (stmts.Sequence (at 25 1) (stmt.While (at 25 1) (expr.LoneRelation (at 25 7) (rel.Compared (at 25 7) (sum_of (at 25
    7) (object (at 25 7) "C")) relational.NotEqual (at 25 9) (sum_of (at 25 12) (primary.Null (at 25 12))))) (at 25 17)
    (stmts.Sequence (at 25 22) (assign_of (at 25 22) "N" [] (at 25 24) (expr.LoneRelation (at 25 27) (rel.LoneSum (at 25
    27) (sum.Unsigned (at 25 27) (term_of (at 25 27) (object (at 25 27) "N")) (next_term.FurtherTerm (at 25 29)
    adding.Add (term_of (at 25 31) (named (at 25 31) "C" (suffix.Selected (at 25 32) (id (at 25 33) "Value") ∷ []))) ∷
    [])))) (at 25 38)) (assign_of (at 25 40) "C" [] (at 25 42) (expr_of (at 25 45) (named (at 25 45) "C"
    (suffix.Selected (at 25 46) (id (at 25 47) "Next") ∷ []))) (at 25 51) ∷ [])) (at 25 53) (at 25 57) (at 25 61))
    (stmt.ReturnValue (at 26 1) (expr_of (at 26 8) (object (at 26 8) "N")) (at 26 9) ∷ [])) (at 27 1) (Some (id (at 27
    5) "Sum")) (at 27 8)) ∷ []) (at 28 1) (Some (id (at 28 5) "Store")) (at 28 10)) ∷ unit.OfSubprogram (at 29 1)
    (context.With (at 29 1) (selected (at 29 6) "Ada" (at 29 9) (at 29 10) "Text_IO") [] (at 29 17) ∷ use_context
    (use_of (at 29 19) None (selected (at 29 23) "Ada" (at 29 26) (at 29 27) "Text_IO") [] (at 29 34)) ∷ context.With
    (at 29 36) (selected (at 29 41) "Ada" (at 29 44) (at 29 45) "Integer_Text_IO") [] (at 29 60) ∷ use_context (use_of
    (at 29 62) None (selected (at 29 66) "Ada" (at 29 69) (at 29 70) "Integer_Text_IO") [] (at 29 85)) ∷ context.With
    (at 29 87) (selected (at 29 92) "Ada" (at 29 95) (at 29 96) "Unchecked_Deallocation") [] (at 29 118) ∷ context.With
    (at 29 120) (mark (at 29 125) "Store") [] (at 29 130) ∷ use_context (use_of (at 29 132) None (mark (at 29 136)
    "Store") [] (at 29 141)) ∷ []) (subprogram_of (at 30 1) (subspec.Procedure (at 30 1) (id (at 30 11) "Main") None)
    None (at 30 16) (objects_of (id (at 31 1) "X") (next_id_of (at 31 2) (at 31 4) "Y" ∷ []) (at 31 6) None
    (indication_of (mark (at 31 8) "List")) (at 31 12) ∷ initialized_of (id (at 32 1) "N") [] (at 32 3) None
    (indication_of (mark (at 32 5) "Integer")) (at 32 13) (expr_of (at 32 16) (primary.Number (at 32 16) 2)) (at 32 17)
    ∷ []) (at 33 1) (stmts.Sequence (at 34 1) (assign_of (at 34 1) "Total" [] (at 34 7) (expr_of (at 34 10) (object (at
    34 10) "N")) (at 34 11)) (stmt.If (at 35 1) (expr.LoneRelation (at 35 4) (rel.LoneSum (at 35 4) (sum.Unsigned (at 35
    4) (term.Product (at 35 4) (factor.Not (at 35 4) (object (at 35 8) "End_Of_File")) []) []))) (at 35 20) (sole (at 35
    25) (call_of (at 35 25) "Get" (suffix.Applied (at 35 29) (actual_of (at 35 30) (object (at 35 30) "N")) [] (at 35
    31) ∷ []) (at 35 32))) [] (at 35 34) (at 35 38) (at 35 40) ∷ call_of (at 36 1) "Put_Line" (suffix.Applied (at 36 10)
    (actual_of (at 36 11) (named (at 36 11) "Integer" (suffix.Attribute (at 36 18) (id (at 36 19) "Image") ∷
    suffix.Applied (at 36 25) (actual_of (at 36 26) (object (at 36 26) "N")) [] (at 36 27) ∷ []))) [] (at 36 28) ∷ [])
    (at 36 29) ∷ [])) (at 37 1) (Some (id (at 37 5) "Main")) (at 37 9)) ∷ []) ∷ [])
unfolding computes resolves
second_formal_2 = refl

second_formal_3 : IsFirstBrokenOf Twice (at1 2 44) ((unit.OfPackage (at 1 1) (context.With (at 1 1) (selected (at 1 6)
    "Ada" (at 1 9) (at 1 10) "Text_IO") [] (at 1 17) ∷ use_context (use_of (at 1 19) None (selected (at 1 23) "Ada" (at
    1 26) (at 1 27) "Text_IO") [] (at 1 34)) ∷ context.With (at 1 36) (selected (at 1 41) "Ada" (at 1 44) (at 1 45)
    "Integer_Text_IO") [] (at 1 60) ∷ use_context (use_of (at 1 62) None (selected (at 1 66) "Ada" (at 1 69) (at 1 70)
    "Integer_Text_IO") [] (at 1 85)) ∷ context.With (at 1 87) (selected (at 1 92) "Ada" (at 1 95) (at 1 96)
    "Unchecked_Deallocation") [] (at 1 118) ∷ []) (package_of (at 1 120) (id (at 1 128) "Second_P") None (at 1 137)
    (decl.Subprogram (at 2 1) (subspec.Procedure (at 2 1) (id (at 2 11) "Second_Q") (Some (formals_of (at 2 20)
    (moded_of (id (at 2 21) "Second_X") [] (at 2 30) None None (mark (at 2 32) "Integer")) [] (at 2 39)))) None (at 2
    40) ∷ []) None (at 3 1) (Some (id (at 3 5) "Second_P")) (at 3 13)) ∷ []) ∷ (unit.OfBody (at1 1 4) []
    (package_body_of (at1 1 4) (at1 1 12) (id (at1 1 17) "Second_P") None (at1 1 26) (part.Completed (at1 2 1)
    (subprogram_of (at1 2 1) (subspec.Procedure (at1 2 1) (id (at1 2 11) "Second_Q") (Some (formals_of (at1 2 20)
    (moded_of (id (at1 2 21) "Second_X") [] (at1 2 30) None None (mark (at1 2 32) "Integer")) [] (at1 2 39)))) None (at1
    2 41) (objects_of (id (at1 2 44) "Second_X") [] (at1 2 53) None (indication_of (mark (at1 2 55) "Integer")) (at1 2
    62) ∷ []) (at1 2 64) (sole (at1 2 70) (stmt.Null (at1 2 70) (at1 2 74))) (at1 2 76) (Some (id (at1 2 80)
    "Second_Q")) (at1 2 88)) ∷ []) (at1 3 7) (Some (id (at1 3 11) "Second_P")) (at1 3 19)) ∷ []) ∷ (unit.OfPackage (at2
    1 1) (context.With (at2 1 1) (selected (at2 1 6) "Ada" (at2 1 9) (at2 1 10) "Text_IO") [] (at2 1 17) ∷ use_context
    (use_of (at2 1 19) None (selected (at2 1 23) "Ada" (at2 1 26) (at2 1 27) "Text_IO") [] (at2 1 34)) ∷ context.With
    (at2 1 36) (selected (at2 1 41) "Ada" (at2 1 44) (at2 1 45) "Integer_Text_IO") [] (at2 1 60) ∷ use_context (use_of
    (at2 1 62) None (selected (at2 1 66) "Ada" (at2 1 69) (at2 1 70) "Integer_Text_IO") [] (at2 1 85)) ∷ context.With
    (at2 1 87) (selected (at2 1 92) "Ada" (at2 1 95) (at2 1 96) "Unchecked_Deallocation") [] (at2 1 118) ∷ [])
    (package_of (at2 2 1) (id (at2 2 9) "Store") None (at2 2 15) (decl.OfItem (at2 3 4) (item.IncompleteType (at2 3 4)
    (id (at2 3 9) "Cell") (at2 3 13)) ∷ decl.OfItem (at2 4 1) (item.AccessType (at2 4 1) (id (at2 4 6) "List") (at2 4
    11) (at2 4 14) (mark (at2 4 21) "Cell") (at2 4 25)) ∷ decl.OfItem (at2 5 7) (item.RecordType (at2 5 7) (id (at2 5
    12) "Cell") (at2 5 17) (at2 5 20) (fields_of (id (at2 5 27) "Value") [] (at2 5 33) (mark (at2 5 35) "Integer") (at2
    5 42)) (fields_of (id (at2 5 44) "Next") [] (at2 5 49) (mark (at2 5 51) "List") (at2 5 55) ∷ []) (at2 5 57) (at2 5
    61) (at2 5 67)) ∷ decl.Subprogram (at2 6 7) (subspec.Procedure (at2 6 7) (id (at2 6 17) "Push") (Some (formals_of
    (at2 6 22) (moded_of (id (at2 6 23) "L") [] (at2 6 25) (Some (at2 6 27)) (Some (at2 6 30)) (mark (at2 6 34) "List"))
    (next_formal.Semicolon (at2 6 38) (moded_of (id (at2 6 40) "V") [] (at2 6 42) None None (mark (at2 6 44) "Integer"))
    ∷ []) (at2 6 51)))) None (at2 6 52) ∷ decl.Subprogram (at2 7 4) (subspec.Function (at2 7 4) (id (at2 7 13) "Sum")
    (Some (formals_of (at2 7 17) (moded_of (id (at2 7 18) "L") [] (at2 7 20) None None (mark (at2 7 22) "List")) [] (at2
    7 26))) (at2 7 28) (indication_of (mark (at2 7 35) "Integer"))) None (at2 7 42) ∷ decl.OfItem (at2 8 1) (objects_of
    (id (at2 8 1) "Total") [] (at2 8 7) None (indication_of (mark (at2 8 9) "Integer")) (at2 8 16)) ∷ []) None (at2 9 4)
    (Some (id (at2 9 8) "Store")) (at2 9 13)) ∷ []) ∷ (unit.OfBody (at3 1 1) [] (package_body_of (at3 1 1) (at3 1 9) (id
    (at3 1 14) "Store") None (at3 1 20) (part.Completed (at3 2 7) (subprogram_of (at3 2 7) (subspec.Procedure (at3 2 7)
    (id (at3 2 17) "Push") (Some (formals_of (at3 2 22) (moded_of (id (at3 2 23) "L") [] (at3 2 25) (Some (at3 2 27))
    (Some (at3 2 30)) (mark (at3 2 34) "List")) (next_formal.Semicolon (at3 2 38) (moded_of (id (at3 2 40) "V") [] (at3
    2 42) None None (mark (at3 2 44) "Integer")) ∷ []) (at3 2 51)))) None (at3 2 53) [] (at3 3 1) (sole (at3 4 4)
    (assign_of (at3 4 4) "L" [] (at3 4 6) (expr_of (at3 4 9) (primary.AllocatedAggregate (at3 4 9) (mark (at3 4 13)
    "Cell") (at3 4 17) (aggregate.Several (at3 4 18) (actual_of (at3 4 19) (object (at3 4 19) "V")) (at3 4 20)
    (actual_of (at3 4 22) (object (at3 4 22) "L")) [] (at3 4 23)))) (at3 4 24))) (at3 5 4) (Some (id (at3 5 8) "Push"))
    (at3 5 12)) ∷ part.Completed (at3 6 1) (subprogram_of (at3 6 1) (subspec.Function (at3 6 1) (id (at3 6 10) "Sum")
    (Some (formals_of (at3 6 14) (moded_of (id (at3 6 15) "L") [] (at3 6 17) None None (mark (at3 6 19) "List")) [] (at3
    6 23))) (at3 6 25) (indication_of (mark (at3 6 32) "Integer"))) None (at3 6 40) (initialized_of (id (at3 7 1) "C")
    [] (at3 7 3) None (indication.Anonymous (at3 7 5) (Some (at3 7 12)) (mark (at3 7 21) "Cell")) (at3 7 26) (expr_of
    (at3 7 29) (object (at3 7 29) "L")) (at3 7 30) ∷ initialized_of (id (at3 8 1) "N") [] (at3 8 3) None (indication_of
    (mark (at3 8 5) "Integer")) (at3 8 13) (expr_of (at3 8 16) (primary.Number (at3 8 16) 0)) (at3 8 17) ∷ []) (at3 9 1)
    (stmts.Sequence (at3 10 1) (stmt.While (at3 10 1) (expr.LoneRelation (at3 10 7) (rel.Compared (at3 10 7) (sum_of
    (at3 10 7) (object (at3 10 7) "C")) relational.NotEqual (at3 10 9) (sum_of (at3 10 12) (primary.Null (at3 10 12)))))
    (at3 10 17) (stmts.Sequence (at3 10 22) (assign_of (at3 10 22) "N" [] (at3 10 24) (expr.LoneRelation (at3 10 27)
    (rel.LoneSum (at3 10 27) (sum.Unsigned (at3 10 27) (term_of (at3 10 27) (object (at3 10 27) "N"))
    (next_term.FurtherTerm (at3 10 29) adding.Add (term_of (at3 10 31) (named (at3 10 31) "C" (suffix.Selected (at3 10
    32) (id (at3 10 33) "Value") ∷ []))) ∷ [])))) (at3 10 38)) (assign_of (at3 10 40) "C" [] (at3 10 42) (expr_of (at3
    10 45) (named (at3 10 45) "C" (suffix.Selected (at3 10 46) (id (at3 10 47) "Next") ∷ []))) (at3 10 51) ∷ [])) (at3
    10 53) (at3 10 57) (at3 10 61)) (stmt.ReturnValue (at3 11 4) (expr_of (at3 11 11) (object (at3 11 11) "N")) (at3 11
    12) ∷ [])) (at3 12 7) (Some (id (at3 12 11) "Sum")) (at3 12 14)) ∷ []) (at3 13 4) (Some (id (at3 13 8) "Store"))
    (at3 13 13)) ∷ []) ∷ (unit.OfSubprogram (at4 1 4) (context.With (at4 1 4) (selected (at4 1 9) "Ada" (at4 1 12) (at4
    1 13) "Text_IO") [] (at4 1 20) ∷ use_context (use_of (at4 1 22) None (selected (at4 1 26) "Ada" (at4 1 29) (at4 1
    30) "Text_IO") [] (at4 1 37)) ∷ context.With (at4 1 39) (selected (at4 1 44) "Ada" (at4 1 47) (at4 1 48)
    "Integer_Text_IO") [] (at4 1 63) ∷ use_context (use_of (at4 1 65) None (selected (at4 1 69) "Ada" (at4 1 72) (at4 1
    73) "Integer_Text_IO") [] (at4 1 88)) ∷ context.With (at4 1 90) (selected (at4 1 95) "Ada" (at4 1 98) (at4 1 99)
    "Unchecked_Deallocation") [] (at4 1 121) ∷ context.With (at4 1 123) (mark (at4 1 128) "Store") [] (at4 1 133) ∷
    use_context (use_of (at4 1 135) None (mark (at4 1 139) "Store") [] (at4 1 144)) ∷ []) (subprogram_of (at4 2 1)
    (subspec.Procedure (at4 2 1) (id (at4 2 11) "Main") None) None (at4 2 16) (objects_of (id (at4 3 4) "X") (next_id_of
    (at4 3 5) (at4 3 7) "Y" ∷ []) (at4 3 9) None (indication_of (mark (at4 3 11) "List")) (at4 3 15) ∷ initialized_of
    (id (at4 4 4) "N") [] (at4 4 6) None (indication_of (mark (at4 4 8) "Integer")) (at4 4 16) (expr_of (at4 4 19)
    (primary.Number (at4 4 19) 9)) (at4 4 20) ∷ item.Instance (at4 5 1) (id (at4 5 11) "Free") (at4 5 16) (at4 5 19)
    (selected (at4 5 23) "Ada" (at4 5 26) (at4 5 27) "Unchecked_Deallocation") (at4 5 50) (actual_of (at4 5 51) (object
    (at4 5 51) "Cell")) (next_arg.FurtherArg (at4 5 55) (actual_of (at4 5 57) (object (at4 5 57) "List")) ∷ []) (at4 5
    61) (at4 5 62) ∷ []) (at4 6 1) (stmts.Sequence (at4 7 7) (call_of (at4 7 7) "Push" (suffix.Applied (at4 7 12)
    (actual_of (at4 7 13) (object (at4 7 13) "X")) (next_arg.FurtherArg (at4 7 14) (actual_of (at4 7 16) (object (at4 7
    16) "N")) ∷ []) (at4 7 17) ∷ []) (at4 7 18)) (assign_of (at4 8 4) "N" [] (at4 8 6) (expr.LoneRelation (at4 8 9)
    (rel.LoneSum (at4 8 9) (sum.Unsigned (at4 8 9) (term.Product (at4 8 9) (factor_of (at4 8 9) (object (at4 8 9) "N"))
    (next_factor.FurtherFactor (at4 8 11) multiplying.Multiply (factor_of (at4 8 13) (primary.Number (at4 8 13) 2)) ∷
    [])) (next_term.FurtherTerm (at4 8 15) adding.Add (term_of (at4 8 17) (primary.Number (at4 8 17) 1)) ∷ [])))) (at4 8
    18) ∷ [])) (at4 9 1) (Some (id (at4 9 5) "Main")) (at4 9 9)) ∷ []) ∷ [])
unfolding computes resolves
second_formal_3 = refl

-- Literals are declared where their type is.
second_literal_1 : IsFirstBrokenOf Twice (at 5 95) ((unit.OfSubprogram (at 1 1) (context.With (at 1 1) (selected (at 1
    6) "Ada" (at 1 9) (at 1 10) "Text_IO") [] (at 1 17) ∷ use_context (use_of (at 1 19) None (selected (at 1 23) "Ada"
    (at 1 26) (at 1 27) "Text_IO") [] (at 1 34)) ∷ context.With (at 1 36) (selected (at 1 41) "Ada" (at 1 44) (at 1 45)
    "Integer_Text_IO") [] (at 1 60) ∷ use_context (use_of (at 1 62) None (selected (at 1 66) "Ada" (at 1 69) (at 1 70)
    "Integer_Text_IO") [] (at 1 85)) ∷ context.With (at 1 87) (selected (at 1 92) "Ada" (at 1 95) (at 1 96)
    "Unchecked_Deallocation") [] (at 1 118) ∷ []) (subprogram_of (at 2 1) (subspec.Procedure (at 2 1) (id (at 2 11)
    "Main") None) None (at 2 16) (item.IncompleteType (at 3 7) (id (at 3 12) "Cell") (at 3 16) ∷ item.AccessType (at 4
    1) (id (at 4 6) "List") (at 4 11) (at 4 14) (mark (at 4 21) "Cell") (at 4 25) ∷ item.RecordType (at 5 7) (id (at 5
    12) "Cell") (at 5 17) (at 5 20) (fields_of (id (at 5 27) "Value") [] (at 5 33) (mark (at 5 35) "Integer") (at 5 42))
    (fields_of (id (at 5 44) "Next") [] (at 5 49) (mark (at 5 51) "List") (at 5 55) ∷ []) (at 5 57) (at 5 61) (at 5 67)
    ∷ item.EnumerationType (at 5 69) (id (at 5 74) "Inner_T") (at 5 82) (at 5 85) (id (at 5 86) "Inner_A") (next_id_of
    (at 5 93) (at 5 95) "Inner_T" ∷ []) (at 5 102) (at 5 103) ∷ objects_of (id (at 6 1) "X") (next_id_of (at 6 2) (at 6
    4) "Y" ∷ []) (at 6 6) None (indication_of (mark (at 6 8) "List")) (at 6 12) ∷ initialized_of (id (at 7 1) "N") []
    (at 7 3) None (indication_of (mark (at 7 5) "Integer")) (at 7 13) (expr_of (at 7 16) (primary.Number (at 7 16) 4))
    (at 7 17) ∷ []) (at 8 1) (stmts.Sequence (at 9 1) (call_of (at 9 1) "Put_Line" (suffix.Applied (at 9 10) (actual_of
    (at 9 11) (named (at 9 11) "Integer" (suffix.Attribute (at 9 18) (id (at 9 19) "Image") ∷ suffix.Applied (at 9 25)
    (actual_of (at 9 26) (object (at 9 26) "N")) [] (at 9 27) ∷ []))) [] (at 9 28) ∷ []) (at 9 29)) (stmt.If (at 10 4)
    (expr.LoneRelation (at 10 7) (rel.LoneSum (at 10 7) (sum.Unsigned (at 10 7) (term.Product (at 10 7) (factor.Not (at
    10 7) (object (at 10 11) "End_Of_File")) []) []))) (at 10 23) (sole (at 10 28) (call_of (at 10 28) "Get"
    (suffix.Applied (at 10 32) (actual_of (at 10 33) (object (at 10 33) "N")) [] (at 10 34) ∷ []) (at 10 35))) [] (at 10
    37) (at 10 41) (at 10 43) ∷ stmt.IfElse (at 11 7) (expr.LoneRelation (at 11 10) (rel.Compared (at 11 10) (sum_of (at
    11 10) (object (at 11 10) "N")) relational.Greater (at 11 12) (sum_of (at 11 14) (primary.Number (at 11 14) 3))))
    (at 11 16) (sole (at 11 21) (assign_of (at 11 21) "N" [] (at 11 23) (expr.LoneRelation (at 11 26) (rel.LoneSum (at
    11 26) (sum.Unsigned (at 11 26) (term_of (at 11 26) (object (at 11 26) "N")) (next_term.FurtherTerm (at 11 28)
    adding.Subtract (term_of (at 11 30) (primary.Number (at 11 30) 1)) ∷ [])))) (at 11 31))) [] (at 11 33) (sole (at 11
    38) (stmt.Null (at 11 38) (at 11 42))) (at 11 44) (at 11 48) (at 11 50) ∷ assign_of (at 12 4) "N" [] (at 12 6)
    (expr.LoneRelation (at 12 9) (rel.LoneSum (at 12 9) (sum.Unsigned (at 12 9) (term.Product (at 12 9) (factor_of (at
    12 9) (object (at 12 9) "N")) (next_factor.FurtherFactor (at 12 11) multiplying.Multiply (factor_of (at 12 13)
    (primary.Number (at 12 13) 2)) ∷ [])) (next_term.FurtherTerm (at 12 15) adding.Add (term_of (at 12 17)
    (primary.Number (at 12 17) 1)) ∷ [])))) (at 12 18) ∷ [])) (at 13 1) (Some (id (at 13 5) "Main")) (at 13 9)) ∷ []) ∷
    [])
unfolding computes resolves
second_literal_1 = refl

second_literal_2 : IsFirstBrokenOf Twice (at 8 105) ((unit.OfSubprogram (at 1 1) (context.With (at 1 1) (selected (at 1
    6) "Ada" (at 1 9) (at 1 10) "Text_IO") [] (at 1 17) ∷ use_context (use_of (at 1 19) None (selected (at 1 23) "Ada"
    (at 1 26) (at 1 27) "Text_IO") [] (at 1 34)) ∷ context.With (at 1 36) (selected (at 1 41) "Ada" (at 1 44) (at 1 45)
    "Integer_Text_IO") [] (at 1 60) ∷ use_context (use_of (at 1 62) None (selected (at 1 66) "Ada" (at 1 69) (at 1 70)
    "Integer_Text_IO") [] (at 1 85)) ∷ context.With (at 1 87) (selected (at 1 92) "Ada" (at 1 95) (at 1 96)
    "Unchecked_Deallocation") [] (at 1 118) ∷ []) (subprogram_of (at 2 7) (subspec.Procedure (at 2 7) (id (at 2 17)
    "Main") None) None (at 2 22) (item.IncompleteType (at 3 1) (id (at 3 6) "Cell") (at 3 10) ∷ item.AccessType (at 4 4)
    (id (at 4 9) "List") (at 4 14) (at 4 17) (mark (at 4 24) "Cell") (at 4 28) ∷ item.RecordType (at 5 1) (id (at 5 6)
    "Cell") (at 5 11) (at 5 14) (fields_of (id (at 5 21) "Value") [] (at 5 27) (mark (at 5 29) "Integer") (at 5 36))
    (fields_of (id (at 5 38) "Next") [] (at 5 43) (mark (at 5 45) "List") (at 5 49) ∷ []) (at 5 51) (at 5 55) (at 5 61)
    ∷ objects_of (id (at 6 1) "X") (next_id_of (at 6 2) (at 6 4) "Y" ∷ []) (at 6 6) None (indication_of (mark (at 6 8)
    "List")) (at 6 12) ∷ initialized_of (id (at 7 4) "N") [] (at 7 6) None (indication_of (mark (at 7 8) "Integer")) (at
    7 16) (expr_of (at 7 19) (primary.Number (at 7 19) 6)) (at 7 20) ∷ item.Instance (at 8 7) (id (at 8 17) "Free") (at
    8 22) (at 8 25) (selected (at 8 29) "Ada" (at 8 32) (at 8 33) "Unchecked_Deallocation") (at 8 56) (actual_of (at 8
    57) (object (at 8 57) "Cell")) (next_arg.FurtherArg (at 8 61) (actual_of (at 8 63) (object (at 8 63) "List")) ∷ [])
    (at 8 67) (at 8 68) ∷ item.EnumerationType (at 8 70) (id (at 8 75) "Spare_T") (at 8 83) (at 8 86) (id (at 8 87)
    "Spare_A") (next_id_of (at 8 94) (at 8 96) "Spare_B" ∷ next_id_of (at 8 103) (at 8 105) "Spare_A" ∷ []) (at 8 112)
    (at 8 113) ∷ []) (at 9 1) (stmts.Sequence (at 10 4) (assign_of (at 10 4) "X" [] (at 10 6) (expr_of (at 10 9)
    (primary.AllocatedAggregate (at 10 9) (mark (at 10 13) "Cell") (at 10 17) (aggregate.Several (at 10 18) (actual_of
    (at 10 19) (object (at 10 19) "N")) (at 10 20) (actual_of (at 10 22) (primary.Null (at 10 22))) [] (at 10 26)))) (at
    10 27)) (assign_of (at 11 4) "N" [] (at 11 6) (expr.LoneRelation (at 11 9) (rel.LoneSum (at 11 9) (sum.Unsigned (at
    11 9) (term.Product (at 11 9) (factor_of (at 11 9) (object (at 11 9) "N")) (next_factor.FurtherFactor (at 11 11)
    multiplying.Multiply (factor_of (at 11 13) (primary.Number (at 11 13) 2)) ∷ [])) (next_term.FurtherTerm (at 11 15)
    adding.Add (term_of (at 11 17) (primary.Number (at 11 17) 1)) ∷ [])))) (at 11 18) ∷ stmt.While (at 12 1)
    (expr.LoneRelation (at 12 7) (rel.Compared (at 12 7) (sum_of (at 12 7) (object (at 12 7) "N")) relational.Greater
    (at 12 9) (sum_of (at 12 11) (primary.Number (at 12 11) 5)))) (at 12 13) (sole (at 12 18) (assign_of (at 12 18) "N"
    [] (at 12 20) (expr.LoneRelation (at 12 23) (rel.LoneSum (at 12 23) (sum.Unsigned (at 12 23) (term.Product (at 12
    23) (factor_of (at 12 23) (object (at 12 23) "N")) (next_factor.FurtherFactor (at 12 25) multiplying.Divide
    (factor_of (at 12 27) (primary.Number (at 12 27) 2)) ∷ [])) []))) (at 12 28))) (at 12 30) (at 12 34) (at 12 38) ∷
    call_of (at 13 1) "Put_Line" (suffix.Applied (at 13 10) (actual_of (at 13 11) (named (at 13 11) "Integer"
    (suffix.Attribute (at 13 18) (id (at 13 19) "Image") ∷ suffix.Applied (at 13 25) (actual_of (at 13 26) (object (at
    13 26) "N")) [] (at 13 27) ∷ []))) [] (at 13 28) ∷ []) (at 13 29) ∷ stmt.If (at 14 1) (expr.LoneRelation (at 14 4)
    (rel.LoneSum (at 14 4) (sum.Unsigned (at 14 4) (term.Product (at 14 4) (factor.Not (at 14 4) (object (at 14 8)
    "End_Of_File")) []) []))) (at 14 20) (sole (at 14 25) (call_of (at 14 25) "Get" (suffix.Applied (at 14 29)
    (actual_of (at 14 30) (object (at 14 30) "N")) [] (at 14 31) ∷ []) (at 14 32))) [] (at 14 34) (at 14 38) (at 14 40)
    ∷ [])) (at 15 4) (Some (id (at 15 8) "Main")) (at 15 12)) ∷ []) ∷ [])
unfolding computes resolves
second_literal_2 = refl

second_literal_3 : IsFirstBrokenOf Twice (at 5 105) ((unit.OfPackage (at 1 1) (context.With (at 1 1) (selected (at 1 6)
    "Ada" (at 1 9) (at 1 10) "Text_IO") [] (at 1 17) ∷ use_context (use_of (at 1 19) None (selected (at 1 23) "Ada" (at
    1 26) (at 1 27) "Text_IO") [] (at 1 34)) ∷ context.With (at 1 36) (selected (at 1 41) "Ada" (at 1 44) (at 1 45)
    "Integer_Text_IO") [] (at 1 60) ∷ use_context (use_of (at 1 62) None (selected (at 1 66) "Ada" (at 1 69) (at 1 70)
    "Integer_Text_IO") [] (at 1 85)) ∷ context.With (at 1 87) (selected (at 1 92) "Ada" (at 1 95) (at 1 96)
    "Unchecked_Deallocation") [] (at 1 118) ∷ []) (package_of (at 2 1) (id (at 2 9) "Store") None (at 2 15) (decl.OfItem
    (at 3 1) (item.IncompleteType (at 3 1) (id (at 3 6) "Cell") (at 3 10)) ∷ decl.OfItem (at 4 1) (item.AccessType (at 4
    1) (id (at 4 6) "List") (at 4 11) (at 4 14) (mark (at 4 21) "Cell") (at 4 25)) ∷ decl.OfItem (at 5 7)
    (item.RecordType (at 5 7) (id (at 5 12) "Cell") (at 5 17) (at 5 20) (fields_of (id (at 5 27) "Value") [] (at 5 33)
    (mark (at 5 35) "Integer") (at 5 42)) (fields_of (id (at 5 44) "Next") [] (at 5 49) (mark (at 5 51) "List") (at 5
    55) ∷ []) (at 5 57) (at 5 61) (at 5 67)) ∷ decl.OfItem (at 5 69) (item.EnumerationType (at 5 69) (id (at 5 74)
    "Spare_T") (at 5 82) (at 5 85) (id (at 5 86) "Spare_A") (next_id_of (at 5 93) (at 5 95) "Spare_B" ∷ []) (at 5 102)
    (at 5 103)) ∷ decl.OfItem (at 5 105) (objects_of (id (at 5 105) "Spare_A") [] (at 5 113) None (indication_of (mark
    (at 5 115) "Integer")) (at 5 122)) ∷ decl.Subprogram (at 6 7) (subspec.Procedure (at 6 7) (id (at 6 17) "Push")
    (Some (formals_of (at 6 22) (moded_of (id (at 6 23) "L") [] (at 6 25) (Some (at 6 27)) (Some (at 6 30)) (mark (at 6
    34) "List")) (next_formal.Semicolon (at 6 38) (moded_of (id (at 6 40) "V") [] (at 6 42) None None (mark (at 6 44)
    "Integer")) ∷ []) (at 6 51)))) None (at 6 52) ∷ decl.Subprogram (at 7 7) (subspec.Function (at 7 7) (id (at 7 16)
    "Sum") (Some (formals_of (at 7 20) (moded_of (id (at 7 21) "L") [] (at 7 23) None None (mark (at 7 25) "List")) []
    (at 7 29))) (at 7 31) (indication_of (mark (at 7 38) "Integer"))) None (at 7 45) ∷ decl.OfItem (at 8 4) (objects_of
    (id (at 8 4) "Total") [] (at 8 10) None (indication_of (mark (at 8 12) "Integer")) (at 8 19)) ∷ []) None (at 9 7)
    (Some (id (at 9 11) "Store")) (at 9 16)) ∷ unit.OfBody (at 10 1) [] (package_body_of (at 10 1) (at 10 9) (id (at 10
    14) "Store") None (at 10 20) (part.Completed (at 11 1) (subprogram_of (at 11 1) (subspec.Procedure (at 11 1) (id (at
    11 11) "Push") (Some (formals_of (at 11 16) (moded_of (id (at 11 17) "L") [] (at 11 19) (Some (at 11 21)) (Some (at
    11 24)) (mark (at 11 28) "List")) (next_formal.Semicolon (at 11 32) (moded_of (id (at 11 34) "V") [] (at 11 36) None
    None (mark (at 11 38) "Integer")) ∷ []) (at 11 45)))) None (at 11 47) [] (at 12 1) (sole (at 13 4) (assign_of (at 13
    4) "L" [] (at 13 6) (expr_of (at 13 9) (primary.AllocatedAggregate (at 13 9) (mark (at 13 13) "Cell") (at 13 17)
    (aggregate.Several (at 13 18) (actual_of (at 13 19) (object (at 13 19) "V")) (at 13 20) (actual_of (at 13 22)
    (object (at 13 22) "L")) [] (at 13 23)))) (at 13 24))) (at 14 1) (Some (id (at 14 5) "Push")) (at 14 9)) ∷
    part.Completed (at 15 1) (subprogram_of (at 15 1) (subspec.Function (at 15 1) (id (at 15 10) "Sum") (Some
    (formals_of (at 15 14) (moded_of (id (at 15 15) "L") [] (at 15 17) None None (mark (at 15 19) "List")) [] (at 15
    23))) (at 15 25) (indication_of (mark (at 15 32) "Integer"))) None (at 15 40) (initialized_of (id (at 16 7) "C") []
    (at 16 9) None (indication.Anonymous (at 16 11) (Some (at 16 18)) (mark (at 16 27) "Cell")) (at 16 32) (expr_of (at
    16 35) (object (at 16 35) "L")) (at 16 36) ∷ initialized_of (id (at 17 1) "N") [] (at 17 3) None (indication_of
    (mark (at 17 5) "Integer")) (at 17 13) (expr_of (at 17 16) (primary.Number (at 17 16) 0)) (at 17 17) ∷ []) (at 18 1)
    (stmts.Sequence (at 19 1) (stmt.While (at 19 1) (expr.LoneRelation (at 19 7) (rel.Compared (at 19 7) (sum_of (at 19
    7) (object (at 19 7) "C")) relational.NotEqual (at 19 9) (sum_of (at 19 12) (primary.Null (at 19 12))))) (at 19 17)
    (stmts.Sequence (at 19 22) (assign_of (at 19 22) "N" [] (at 19 24) (expr.LoneRelation (at 19 27) (rel.LoneSum (at 19
    27) (sum.Unsigned (at 19 27) (term_of (at 19 27) (object (at 19 27) "N")) (next_term.FurtherTerm (at 19 29)
    adding.Add (term_of (at 19 31) (named (at 19 31) "C" (suffix.Selected (at 19 32) (id (at 19 33) "Value") ∷ []))) ∷
    [])))) (at 19 38)) (assign_of (at 19 40) "C" [] (at 19 42) (expr_of (at 19 45) (named (at 19 45) "C"
    (suffix.Selected (at 19 46) (id (at 19 47) "Next") ∷ []))) (at 19 51) ∷ [])) (at 19 53) (at 19 57) (at 19 61))
    (stmt.ReturnValue (at 20 7) (expr_of (at 20 14) (object (at 20 14) "N")) (at 20 15) ∷ [])) (at 21 7) (Some (id (at
    21 11) "Sum")) (at 21 14)) ∷ []) (at 22 4) (Some (id (at 22 8) "Store")) (at 22 13)) ∷ unit.OfSubprogram (at 23 1)
    (context.With (at 23 1) (selected (at 23 6) "Ada" (at 23 9) (at 23 10) "Text_IO") [] (at 23 17) ∷ use_context
    (use_of (at 23 19) None (selected (at 23 23) "Ada" (at 23 26) (at 23 27) "Text_IO") [] (at 23 34)) ∷ context.With
    (at 23 36) (selected (at 23 41) "Ada" (at 23 44) (at 23 45) "Integer_Text_IO") [] (at 23 60) ∷ use_context (use_of
    (at 23 62) None (selected (at 23 66) "Ada" (at 23 69) (at 23 70) "Integer_Text_IO") [] (at 23 85)) ∷ context.With
    (at 23 87) (selected (at 23 92) "Ada" (at 23 95) (at 23 96) "Unchecked_Deallocation") [] (at 23 118) ∷ context.With
    (at 23 120) (mark (at 23 125) "Store") [] (at 23 130) ∷ use_context (use_of (at 23 132) None (mark (at 23 136)
    "Store") [] (at 23 141)) ∷ []) (subprogram_of (at 24 1) (subspec.Procedure (at 24 1) (id (at 24 11) "Main") None)
    None (at 24 16) (objects_of (id (at 25 7) "X") (next_id_of (at 25 8) (at 25 10) "Y" ∷ []) (at 25 12) None
    (indication_of (mark (at 25 14) "List")) (at 25 18) ∷ initialized_of (id (at 26 4) "N") [] (at 26 6) None
    (indication_of (mark (at 26 8) "Integer")) (at 26 16) (expr_of (at 26 19) (primary.Number (at 26 19) 7)) (at 26 20)
    ∷ item.Instance (at 27 7) (id (at 27 17) "Free") (at 27 22) (at 27 25) (selected (at 27 29) "Ada" (at 27 32) (at 27
    33) "Unchecked_Deallocation") (at 27 56) (actual_of (at 27 57) (object (at 27 57) "Cell")) (next_arg.FurtherArg (at
    27 61) (actual_of (at 27 63) (object (at 27 63) "List")) ∷ []) (at 27 67) (at 27 68) ∷ []) (at 28 1) (stmts.Sequence
    (at 29 4) (assign_of (at 29 4) "N" [] (at 29 6) (expr.LoneRelation (at 29 9) (rel.LoneSum (at 29 9) (sum.Unsigned
    (at 29 9) (term.Product (at 29 9) (factor_of (at 29 9) (object (at 29 9) "N")) (next_factor.FurtherFactor (at 29 11)
    multiplying.Multiply (factor_of (at 29 13) (primary.Number (at 29 13) 2)) ∷ [])) (next_term.FurtherTerm (at 29 15)
    adding.Add (term_of (at 29 17) (primary.Number (at 29 17) 1)) ∷ [])))) (at 29 18)) (assign_of (at 30 1) "Total" []
    (at 30 7) (expr_of (at 30 10) (object (at 30 10) "N")) (at 30 11) ∷ [])) (at 31 4) (Some (id (at 31 8) "Main")) (at
    31 12)) ∷ []) ∷ [])
unfolding computes resolves
second_literal_3 = refl

second_literal_4 : IsFirstBrokenOf Twice (at 25 82) ((unit.OfPackage (at 1 1) (context.With (at 1 1) (selected (at 1 6)
    "Ada" (at 1 9) (at 1 10) "Text_IO") [] (at 1 17) ∷ use_context (use_of (at 1 19) None (selected (at 1 23) "Ada" (at
    1 26) (at 1 27) "Text_IO") [] (at 1 34)) ∷ context.With (at 1 36) (selected (at 1 41) "Ada" (at 1 44) (at 1 45)
    "Integer_Text_IO") [] (at 1 60) ∷ use_context (use_of (at 1 62) None (selected (at 1 66) "Ada" (at 1 69) (at 1 70)
    "Integer_Text_IO") [] (at 1 85)) ∷ context.With (at 1 87) (selected (at 1 92) "Ada" (at 1 95) (at 1 96)
    "Unchecked_Deallocation") [] (at 1 118) ∷ []) (package_of (at 2 1) (id (at 2 9) "Store") None (at 2 15) (decl.OfItem
    (at 3 4) (item.IncompleteType (at 3 4) (id (at 3 9) "Cell") (at 3 13)) ∷ decl.OfItem (at 4 1) (item.AccessType (at 4
    1) (id (at 4 6) "List") (at 4 11) (at 4 14) (mark (at 4 21) "Cell") (at 4 25)) ∷ decl.OfItem (at 5 7)
    (item.RecordType (at 5 7) (id (at 5 12) "Cell") (at 5 17) (at 5 20) (fields_of (id (at 5 27) "Value") [] (at 5 33)
    (mark (at 5 35) "Integer") (at 5 42)) (fields_of (id (at 5 44) "Next") [] (at 5 49) (mark (at 5 51) "List") (at 5
    55) ∷ []) (at 5 57) (at 5 61) (at 5 67)) ∷ decl.Subprogram (at 6 7) (subspec.Procedure (at 6 7) (id (at 6 17)
    "Push") (Some (formals_of (at 6 22) (moded_of (id (at 6 23) "L") [] (at 6 25) (Some (at 6 27)) (Some (at 6 30))
    (mark (at 6 34) "List")) (next_formal.Semicolon (at 6 38) (moded_of (id (at 6 40) "V") [] (at 6 42) None None (mark
    (at 6 44) "Integer")) ∷ []) (at 6 51)))) None (at 6 52) ∷ decl.Subprogram (at 7 1) (subspec.Function (at 7 1) (id
    (at 7 10) "Sum") (Some (formals_of (at 7 14) (moded_of (id (at 7 15) "L") [] (at 7 17) None None (mark (at 7 19)
    "List")) [] (at 7 23))) (at 7 25) (indication_of (mark (at 7 32) "Integer"))) None (at 7 39) ∷ decl.OfItem (at 8 1)
    (objects_of (id (at 8 1) "Total") [] (at 8 7) None (indication_of (mark (at 8 9) "Integer")) (at 8 16)) ∷ []) None
    (at 9 7) (Some (id (at 9 11) "Store")) (at 9 16)) ∷ unit.OfBody (at 10 1) [] (package_body_of (at 10 1) (at 10 9)
    (id (at 10 14) "Store") None (at 10 20) (part.Completed (at 11 1) (subprogram_of (at 11 1) (subspec.Procedure (at 11
    1) (id (at 11 11) "Push") (Some (formals_of (at 11 16) (moded_of (id (at 11 17) "L") [] (at 11 19) (Some (at 11 21))
    (Some (at 11 24)) (mark (at 11 28) "List")) (next_formal.Semicolon (at 11 32) (moded_of (id (at 11 34) "V") [] (at
    11 36) None None (mark (at 11 38) "Integer")) ∷ []) (at 11 45)))) None (at 11 47) [] (at 12 4) (sole (at 13 1)
    (assign_of (at 13 1) "L" [] (at 13 3) (expr_of (at 13 6) (primary.AllocatedAggregate (at 13 6) (mark (at 13 10)
    "Cell") (at 13 14) (aggregate.Several (at 13 15) (actual_of (at 13 16) (object (at 13 16) "V")) (at 13 17)
    (actual_of (at 13 19) (object (at 13 19) "L")) [] (at 13 20)))) (at 13 21))) (at 14 1) (Some (id (at 14 5) "Push"))
    (at 14 9)) ∷ part.Completed (at 15 4) (subprogram_of (at 15 4) (subspec.Function (at 15 4) (id (at 15 13) "Sum")
    (Some (formals_of (at 15 17) (moded_of (id (at 15 18) "L") [] (at 15 20) None None (mark (at 15 22) "List")) [] (at
    15 26))) (at 15 28) (indication_of (mark (at 15 35) "Integer"))) None (at 15 43) (initialized_of (id (at 16 1) "C")
    [] (at 16 3) None (indication.Anonymous (at 16 5) (Some (at 16 12)) (mark (at 16 21) "Cell")) (at 16 26) (expr_of
    (at 16 29) (object (at 16 29) "L")) (at 16 30) ∷ initialized_of (id (at 17 7) "N") [] (at 17 9) None (indication_of
    (mark (at 17 11) "Integer")) (at 17 19) (expr_of (at 17 22) (primary.Number (at 17 22) 0)) (at 17 23) ∷ []) (at 18
    7) (stmts.Sequence (at 19 1) (stmt.While (at 19 1) (expr.LoneRelation (at 19 7) (rel.Compared (at 19 7) (sum_of (at
    19 7) (object (at 19 7) "C")) relational.NotEqual (at 19 9) (sum_of (at 19 12) (primary.Null (at 19 12))))) (at 19
    17) (stmts.Sequence (at 19 22) (assign_of (at 19 22) "N" [] (at 19 24) (expr.LoneRelation (at 19 27) (rel.LoneSum
    (at 19 27) (sum.Unsigned (at 19 27) (term_of (at 19 27) (object (at 19 27) "N")) (next_term.FurtherTerm (at 19 29)
    adding.Add (term_of (at 19 31) (named (at 19 31) "C" (suffix.Selected (at 19 32) (id (at 19 33) "Value") ∷ []))) ∷
    [])))) (at 19 38)) (assign_of (at 19 40) "C" [] (at 19 42) (expr_of (at 19 45) (named (at 19 45) "C"
    (suffix.Selected (at 19 46) (id (at 19 47) "Next") ∷ []))) (at 19 51) ∷ [])) (at 19 53) (at 19 57) (at 19 61))
    (stmt.ReturnValue (at 20 4) (expr_of (at 20 11) (object (at 20 11) "N")) (at 20 12) ∷ [])) (at 21 7) (Some (id (at
    21 11) "Sum")) (at 21 14)) ∷ []) (at 22 1) (Some (id (at 22 5) "Store")) (at 22 10)) ∷ unit.OfSubprogram (at 23 1)
    (context.With (at 23 1) (selected (at 23 6) "Ada" (at 23 9) (at 23 10) "Text_IO") [] (at 23 17) ∷ use_context
    (use_of (at 23 19) None (selected (at 23 23) "Ada" (at 23 26) (at 23 27) "Text_IO") [] (at 23 34)) ∷ context.With
    (at 23 36) (selected (at 23 41) "Ada" (at 23 44) (at 23 45) "Integer_Text_IO") [] (at 23 60) ∷ use_context (use_of
    (at 23 62) None (selected (at 23 66) "Ada" (at 23 69) (at 23 70) "Integer_Text_IO") [] (at 23 85)) ∷ context.With
    (at 23 87) (selected (at 23 92) "Ada" (at 23 95) (at 23 96) "Unchecked_Deallocation") [] (at 23 118) ∷ context.With
    (at 23 120) (mark (at 23 125) "Store") [] (at 23 130) ∷ use_context (use_of (at 23 132) None (mark (at 23 136)
    "Store") [] (at 23 141)) ∷ []) (subprogram_of (at 24 4) (subspec.Procedure (at 24 4) (id (at 24 14) "Main") None)
    None (at 24 19) (objects_of (id (at 25 7) "X") (next_id_of (at 25 8) (at 25 10) "Y" ∷ []) (at 25 12) None
    (indication_of (mark (at 25 14) "List")) (at 25 18) ∷ item.EnumerationType (at 25 20) (id (at 25 25) "Quick_T") (at
    25 33) (at 25 36) (id (at 25 37) "Quick_A") (next_id_of (at 25 44) (at 25 46) "Quick_B" ∷ []) (at 25 53) (at 25 54)
    ∷ item.EnumerationType (at 25 56) (id (at 25 61) "Quick_U") (at 25 69) (at 25 72) (id (at 25 73) "Quick_C")
    (next_id_of (at 25 80) (at 25 82) "quick_b" ∷ []) (at 25 89) (at 25 90) ∷ initialized_of (id (at 26 4) "N") [] (at
    26 6) None (indication_of (mark (at 26 8) "Integer")) (at 26 16) (expr_of (at 26 19) (primary.Number (at 26 19) 3))
    (at 26 20) ∷ item.Instance (at 27 4) (id (at 27 14) "Free") (at 27 19) (at 27 22) (selected (at 27 26) "Ada" (at 27
    29) (at 27 30) "Unchecked_Deallocation") (at 27 53) (actual_of (at 27 54) (object (at 27 54) "Cell"))
    (next_arg.FurtherArg (at 27 58) (actual_of (at 27 60) (object (at 27 60) "List")) ∷ []) (at 27 64) (at 27 65) ∷ [])
    (at 28 1) (stmts.Sequence (at 29 1) (call_of (at 29 1) "Push" (suffix.Applied (at 29 6) (actual_of (at 29 7) (object
    (at 29 7) "X")) (next_arg.FurtherArg (at 29 8) (actual_of (at 29 10) (object (at 29 10) "N")) ∷ []) (at 29 11) ∷ [])
    (at 29 12)) (stmt.If (at 30 1) (expr.LoneRelation (at 30 4) (rel.LoneSum (at 30 4) (sum.Unsigned (at 30 4)
    (term.Product (at 30 4) (factor.Not (at 30 4) (object (at 30 8) "End_Of_File")) []) []))) (at 30 20) (sole (at 30
    25) (call_of (at 30 25) "Get" (suffix.Applied (at 30 29) (actual_of (at 30 30) (object (at 30 30) "N")) [] (at 30
    31) ∷ []) (at 30 32))) [] (at 30 34) (at 30 38) (at 30 40) ∷ assign_of (at 31 4) "X" [] (at 31 6) (expr_of (at 31 9)
    (primary.AllocatedAggregate (at 31 9) (mark (at 31 13) "Cell") (at 31 17) (aggregate.Several (at 31 18) (actual_of
    (at 31 19) (object (at 31 19) "N")) (at 31 20) (actual_of (at 31 22) (primary.Null (at 31 22))) [] (at 31 26)))) (at
    31 27) ∷ stmt.Case (at 32 4) (expr_of (at 32 9) (object (at 32 9) "N")) (at 32 11) (alternative.Alternative (at 32
    14) (choice.Value (at 32 19) (expr_of (at 32 19) (primary.Number (at 32 19) 1))) [] (at 32 21) (sole (at 32 24)
    (stmt.Null (at 32 24) (at 32 28)))) (alternative.Alternative (at 32 30) (choice.Others (at 32 35)) [] (at 32 42)
    (sole (at 32 45) (assign_of (at 32 45) "N" [] (at 32 47) (expr_of (at 32 50) (primary.Number (at 32 50) 2)) (at 32
    51))) ∷ []) (at 32 53) (at 32 57) (at 32 61) ∷ assign_of (at 33 1) "N" [] (at 33 3) (expr_of (at 33 6) (named (at 33
    6) "Sum" (suffix.Applied (at 33 10) (actual_of (at 33 11) (object (at 33 11) "Y")) [] (at 33 12) ∷ []))) (at 33 13)
    ∷ [])) (at 34 1) (Some (id (at 34 5) "Main")) (at 34 9)) ∷ []) ∷ [])
unfolding computes resolves
second_literal_4 = refl

second_literal_5 : IsFirstBrokenOf Twice (at 35 62) ((unit.OfSubprogram (at 1 1) (context.With (at 1 1) (selected (at 1
    6) "Ada" (at 1 9) (at 1 10) "Text_IO") [] (at 1 17) ∷ use_context (use_of (at 1 19) None (selected (at 1 23) "Ada"
    (at 1 26) (at 1 27) "Text_IO") [] (at 1 34)) ∷ context.With (at 2 1) (selected (at 2 6) "Ada" (at 2 9) (at 2 10)
    "Integer_Text_IO") [] (at 2 25) ∷ use_context (use_of (at 2 27) None (selected (at 2 31) "Ada" (at 2 34) (at 2 35)
    "Integer_Text_IO") [] (at 2 50)) ∷ context.With (at 3 1) (selected (at 3 6) "Ada" (at 3 9) (at 3 10)
    "Unchecked_Deallocation") [] (at 3 32) ∷ []) (subprogram_of (at 4 1) (subspec.Procedure (at 4 1) (id (at 4 11)
    "Main") None) None (at 4 16) (item.ArrayType (at 5 1) (id (at 5 6) "A1") (at 5 9) (at 5 12) (at 5 18) (range.Bounds
    (at 5 19) (expr_of (at 5 19) (primary.Number (at 5 19) 2)) (at 5 21) (expr_of (at 5 24) (primary.Number (at 5 24)
    3))) (at 5 25) (at 5 27) (mark (at 5 30) "Integer") (at 5 37) ∷ item.IncompleteType (at 6 1) (id (at 6 6) "Node1")
    (at 6 11) ∷ item.AccessType (at 7 1) (id (at 7 6) "Tree1") (at 7 12) (at 7 15) (mark (at 7 22) "Node1") (at 7 27) ∷
    item.RecordType (at 8 1) (id (at 8 6) "Node1") (at 8 12) (at 8 15) (fields_of (id (at 8 22) "Key1") [] (at 8 27)
    (mark (at 8 29) "Integer") (at 8 36)) (fields_of (id (at 8 38) "Left1") [] (at 8 44) (mark (at 8 46) "Tree1") (at 8
    51) ∷ fields_of (id (at 8 53) "Right1") [] (at 8 60) (mark (at 8 62) "Tree1") (at 8 67) ∷ []) (at 8 69) (at 8 73)
    (at 8 79) ∷ item.IncompleteType (at 9 1) (id (at 9 6) "Cell1") (at 9 11) ∷ item.AccessType (at 10 1) (id (at 10 6)
    "List1") (at 10 12) (at 10 15) (mark (at 10 22) "Cell1") (at 10 27) ∷ item.RecordType (at 11 1) (id (at 11 6)
    "Cell1") (at 11 12) (at 11 15) (fields_of (id (at 11 22) "Val1") [] (at 11 27) (mark (at 11 29) "Boolean") (at 11
    36)) (fields_of (id (at 11 38) "Next1") [] (at 11 44) (mark (at 11 46) "List1") (at 11 51) ∷ []) (at 11 53) (at 11
    57) (at 11 63) ∷ item.Instance (at 12 1) (id (at 12 11) "Free1") (at 12 17) (at 12 20) (selected (at 12 24) "Ada"
    (at 12 27) (at 12 28) "Unchecked_Deallocation") (at 12 51) (actual_of (at 12 52) (object (at 12 52) "Cell1"))
    (next_arg.FurtherArg (at 12 57) (actual_of (at 12 59) (object (at 12 59) "List1")) ∷ []) (at 12 64) (at 12 65) ∷
    item.RecordType (at 13 1) (id (at 13 6) "R1") (at 13 9) (at 13 12) (fields_of (id (at 13 19) "O1") [] (at 13 22)
    (mark (at 13 24) "Tree1") (at 13 29)) (fields_of (id (at 13 31) "F1") [] (at 13 34) (mark (at 13 36) "Node1") (at 13
    41) ∷ fields_of (id (at 13 43) "F2") [] (at 13 46) (mark (at 13 48) "Integer") (at 13 55) ∷ []) (at 13 57) (at 13
    61) (at 13 67) ∷ initialized_of (id (at 14 1) "V1") [] (at 14 4) None (indication_of (mark (at 14 6) "List1")) (at
    14 12) (expr_of (at 14 15) (primary.AllocatedAggregate (at 14 15) (mark (at 14 19) "Cell1") (at 14 24)
    (aggregate.Several (at 14 25) (actual_of (at 14 26) (object (at 14 26) "False")) (at 14 31) (actual_of (at 14 33)
    (primary.Null (at 14 33))) [] (at 14 37)))) (at 14 38) ∷ initialized_of (id (at 15 1) "V2") [] (at 15 4) None
    (indication_of (mark (at 15 6) "Tree1")) (at 15 12) (expr_of (at 15 15) (primary.AllocatedAggregate (at 15 15) (mark
    (at 15 19) "Node1") (at 15 24) (aggregate.Several (at 15 25) (actual_of (at 15 26) (primary.Number (at 15 26) 23))
    (at 15 28) (actual_of (at 15 30) (primary.Null (at 15 30))) (next_arg.FurtherArg (at 15 34) (actual_of (at 15 36)
    (primary.AllocatedAggregate (at 15 36) (mark (at 15 40) "Node1") (at 15 45) (aggregate.Several (at 15 46) (actual_of
    (at 15 47) (primary.Number (at 15 47) 24)) (at 15 49) (actual_of (at 15 51) (primary.Null (at 15 51)))
    (next_arg.FurtherArg (at 15 55) (actual_of (at 15 57) (primary.Null (at 15 57))) ∷ []) (at 15 61)))) ∷ []) (at 15
    62)))) (at 15 63) ∷ initialized_of (id (at 16 1) "V3") [] (at 16 4) None (indication_of (mark (at 16 6) "Cell1"))
    (at 16 12) (expr_of (at 16 15) (primary.Aggregated (at 16 15) (aggregate.Several (at 16 15) (arg.Positional (at 16
    16) (expr.LoneRelation (at 16 16) (rel.Compared (at 16 16) (sum_of (at 16 16) (object (at 16 16) "V2"))
    relational.NotEqual (at 16 19) (sum_of (at 16 22) (primary.Null (at 16 22)))))) (at 16 26) (actual_of (at 16 28)
    (named (at 16 28) "V1" (suffix.Selected (at 16 30) (id (at 16 31) "Next1") ∷ []))) [] (at 16 36)))) (at 16 37) ∷
    initialized_of (id (at 17 1) "V4") [] (at 17 4) None (indication_of (mark (at 17 6) "List1")) (at 17 12) (expr_of
    (at 17 15) (primary.Allocated (at 17 15) (mark (at 17 19) "Cell1"))) (at 17 24) ∷ objects_of (id (at 18 1) "V5")
    (next_id_of (at 18 3) (at 18 5) "V6" ∷ []) (at 18 8) None (indication_of (mark (at 18 10) "List1")) (at 18 15) ∷
    objects_of (id (at 19 1) "T1") [] (at 19 4) None (indication_of (mark (at 19 6) "Integer")) (at 19 13) ∷ []) (at 20
    1) (stmts.Sequence (at 21 1) (stmt.If (at 21 1) (expr.AndThen (at 21 4) (rel.Compared (at 21 4) (sum_of (at 21 4)
    (named (at 21 4) "V4" (suffix.Selected (at 21 6) (id (at 21 7) "Next1") ∷ []))) relational.NotEqual (at 21 13)
    (sum_of (at 21 16) (primary.Null (at 21 16)))) (at 21 21) (at 21 25) (rel.Compared (at 21 30) (sum_of (at 21 30)
    (named (at 21 30) "V2" (suffix.Selected (at 21 32) (id (at 21 33) "Right1") ∷ []))) relational.NotEqual (at 21 40)
    (sum_of (at 21 43) (primary.Null (at 21 43)))) []) (at 21 48) (sole (at 22 1) (assign_of (at 22 1) "V4"
    (suffix.Selected (at 22 3) (id (at 22 4) "Next1") ∷ suffix.Selected (at 22 9) (id (at 22 10) "Val1") ∷ []) (at 22
    15) (expr.LoneRelation (at 22 18) (rel.Compared (at 22 18) (sum_of (at 22 18) (primary.Number (at 22 18) 23))
    relational.Equal (at 22 21) (sum_of (at 22 23) (named (at 22 23) "V2" (suffix.Selected (at 22 25) (id (at 22 26)
    "Right1") ∷ suffix.Selected (at 22 32) (id (at 22 33) "Key1") ∷ []))))) (at 22 37))) [] (at 23 1) (at 23 5) (at 23
    7)) (call_of (at 24 1) "Free1" (suffix.Applied (at 24 7) (actual_of (at 24 8) (object (at 24 8) "V4")) [] (at 24 10)
    ∷ []) (at 24 11) ∷ assign_of (at 25 1) "T1" [] (at 25 4) (expr_of (at 25 7) (primary.Number (at 25 7) 0)) (at 25 8)
    ∷ stmt.While (at 26 1) (expr.LoneRelation (at 26 7) (rel.Compared (at 26 7) (sum_of (at 26 7) (object (at 26 7)
    "T1")) relational.Less (at 26 10) (sum_of (at 26 12) (primary.Number (at 26 12) 6)))) (at 26 14) (stmts.Sequence (at
    27 1) (stmt.For (at 27 1) (id (at 27 5) "I1") (at 27 8) None (range.Bounds (at 27 11) (expr_of (at 27 11)
    (primary.Number (at 27 11) 1)) (at 27 13) (expr.LoneRelation (at 27 16) (rel.LoneSum (at 27 16) (sum.Unsigned (at 27
    16) (term.Product (at 27 16) (factor_of (at 27 16) (primary.Number (at 27 16) 1)) (next_factor.FurtherFactor (at 27
    18) multiplying.Modulo (factor_of (at 27 22) (primary.Number (at 27 22) 4)) ∷ [])) [])))) (at 27 24) (stmts.Sequence
    (at 28 1) (assign_of (at 28 1) "V5" [] (at 28 4) (expr_of (at 28 7) (primary.AllocatedAggregate (at 28 7) (mark (at
    28 11) "Cell1") (at 28 16) (aggregate.Several (at 28 17) (actual_of (at 28 18) (named (at 28 18) "V3"
    (suffix.Selected (at 28 20) (id (at 28 21) "Val1") ∷ []))) (at 28 25) (actual_of (at 28 27) (object (at 28 27)
    "V5")) [] (at 28 29)))) (at 28 30)) (assign_of (at 29 1) "V4" [] (at 29 4) (expr_of (at 29 7)
    (primary.AllocatedAggregate (at 29 7) (mark (at 29 11) "Cell1") (at 29 16) (aggregate.Several (at 29 17)
    (arg.Positional (at 29 18) (expr.LoneRelation (at 29 18) (rel.Compared (at 29 18) (sum_of (at 29 18) (primary.Number
    (at 29 18) 27)) relational.Less (at 29 21) (sum_of (at 29 23) (object (at 29 23) "I1"))))) (at 29 25) (actual_of (at
    29 27) (object (at 29 27) "V4")) [] (at 29 29)))) (at 29 30) ∷ [])) (at 30 1) (at 30 5) (at 30 9)) (call_of (at 31
    1) "Free1" (suffix.Applied (at 31 7) (actual_of (at 31 8) (object (at 31 8) "V5")) [] (at 31 10) ∷ []) (at 31 11) ∷
    assign_of (at 32 1) "T1" [] (at 32 4) (expr.LoneRelation (at 32 7) (rel.LoneSum (at 32 7) (sum.Unsigned (at 32 7)
    (term_of (at 32 7) (object (at 32 7) "T1")) (next_term.FurtherTerm (at 32 10) adding.Add (term_of (at 32 12)
    (primary.Number (at 32 12) 1)) ∷ [])))) (at 32 13) ∷ [])) (at 33 1) (at 33 5) (at 33 9) ∷ stmt.DeclareBlock (at 34
    1) (initialized_of (id (at 35 1) "B1") [] (at 35 4) None (indication.Anonymous (at 35 6) None (mark (at 35 13)
    "Cell1")) (at 35 19) (expr_of (at 35 22) (object (at 35 22) "V5")) (at 35 24) ∷ objects_of (id (at 35 26) "Minor_A")
    [] (at 35 34) None (indication_of (mark (at 35 36) "Integer")) (at 35 43) ∷ item.EnumerationType (at 35 45) (id (at
    35 50) "Minor_T") (at 35 58) (at 35 61) (id (at 35 62) "Minor_A") (next_id_of (at 35 69) (at 35 71) "Minor_B" ∷ [])
    (at 35 78) (at 35 79) ∷ []) (at 36 1) (sole (at 37 1) (stmt.If (at 37 1) (expr.LoneRelation (at 37 4) (rel.Compared
    (at 37 4) (sum_of (at 37 4) (object (at 37 4) "V1")) relational.NotEqual (at 37 7) (sum_of (at 37 10) (primary.Null
    (at 37 10))))) (at 37 15) (sole (at 38 1) (stmt.If (at 38 1) (expr.AndThen (at 38 4) (rel.Compared (at 38 4) (sum_of
    (at 38 4) (object (at 38 4) "V4")) relational.NotEqual (at 38 7) (sum_of (at 38 10) (primary.Null (at 38 10)))) (at
    38 15) (at 38 19) (rel.Compared (at 38 24) (sum_of (at 38 24) (named (at 38 24) "V4" (suffix.Selected (at 38 26) (id
    (at 38 27) "Next1") ∷ []))) relational.NotEqual (at 38 33) (sum_of (at 38 36) (primary.Null (at 38 36)))) []) (at 38
    41) (sole (at 39 1) (assign_of (at 39 1) "V4" (suffix.Selected (at 39 3) (id (at 39 4) "Next1") ∷ suffix.Selected
    (at 39 9) (id (at 39 10) "Next1") ∷ []) (at 39 16) (expr_of (at 39 19) (primary.AllocatedAggregate (at 39 19) (mark
    (at 39 23) "Cell1") (at 39 28) (aggregate.Several (at 39 29) (actual_of (at 39 30) (object (at 39 30)
    "End_Of_File")) (at 39 41) (actual_of (at 39 43) (named (at 39 43) "V4" (suffix.Selected (at 39 45) (id (at 39 46)
    "Next1") ∷ suffix.Selected (at 39 51) (id (at 39 52) "Next1") ∷ []))) [] (at 39 57)))) (at 39 58))) [] (at 40 1) (at
    40 5) (at 40 7))) [] (at 41 1) (at 41 5) (at 41 7))) (at 42 1) (at 42 4) ∷ [])) (at 43 1) (Some (id (at 43 5)
    "Main")) (at 43 9)) ∷ []) ∷ [])
unfolding computes resolves
second_literal_5 = refl

-- The visible part, the private part and the body of a package are one region.
second_in_package_1 : IsFirstBrokenOf Twice (at 1 52) ((unit.OfPackage (at 1 4) [] (package_of (at 1 4) (id (at 1 12)
    "Second_P") None (at 1 21) (decl.OfItem (at 1 24) (objects_of (id (at 1 24) "Second_X") [] (at 1 33) None
    (indication_of (mark (at 1 35) "Integer")) (at 1 42)) ∷ []) (Some (private_part (at 1 44) (decl.OfItem (at 1 52)
    (objects_of (id (at 1 52) "Second_X") [] (at 1 61) None (indication_of (mark (at 1 63) "Integer")) (at 1 70)) ∷
    []))) (at 1 72) (Some (id (at 1 76) "Second_P")) (at 1 84)) ∷ unit.OfSubprogram (at 2 1) (context.With (at 2 1)
    (selected (at 2 6) "Ada" (at 2 9) (at 2 10) "Text_IO") [] (at 2 17) ∷ use_context (use_of (at 2 19) None (selected
    (at 2 23) "Ada" (at 2 26) (at 2 27) "Text_IO") [] (at 2 34)) ∷ context.With (at 2 36) (selected (at 2 41) "Ada" (at
    2 44) (at 2 45) "Integer_Text_IO") [] (at 2 60) ∷ use_context (use_of (at 2 62) None (selected (at 2 66) "Ada" (at 2
    69) (at 2 70) "Integer_Text_IO") [] (at 2 85)) ∷ context.With (at 2 87) (selected (at 2 92) "Ada" (at 2 95) (at 2
    96) "Unchecked_Deallocation") [] (at 2 118) ∷ []) (subprogram_of (at 3 4) (subspec.Procedure (at 3 4) (id (at 3 14)
    "Main") None) None (at 3 19) (item.IncompleteType (at 4 1) (id (at 4 6) "Cell") (at 4 10) ∷ item.AccessType (at 5 1)
    (id (at 5 6) "List") (at 5 11) (at 5 14) (mark (at 5 21) "Cell") (at 5 25) ∷ item.RecordType (at 6 4) (id (at 6 9)
    "Cell") (at 6 14) (at 6 17) (fields_of (id (at 6 24) "Value") [] (at 6 30) (mark (at 6 32) "Integer") (at 6 39))
    (fields_of (id (at 6 41) "Next") [] (at 6 46) (mark (at 6 48) "List") (at 6 52) ∷ []) (at 6 54) (at 6 58) (at 6 64)
    ∷ objects_of (id (at 7 1) "X") (next_id_of (at 7 2) (at 7 4) "Y" ∷ []) (at 7 6) None (indication_of (mark (at 7 8)
    "List")) (at 7 12) ∷ initialized_of (id (at 8 7) "N") [] (at 8 9) None (indication_of (mark (at 8 11) "Integer"))
    (at 8 19) (expr_of (at 8 22) (primary.Number (at 8 22) 3)) (at 8 23) ∷ []) (at 9 4) (stmts.Sequence (at 10 1)
    (stmt.Case (at 10 1) (expr_of (at 10 6) (object (at 10 6) "N")) (at 10 8) (alternative.Alternative (at 10 11)
    (choice.Value (at 10 16) (expr_of (at 10 16) (primary.Number (at 10 16) 1))) [] (at 10 18) (sole (at 10 21)
    (stmt.Null (at 10 21) (at 10 25)))) (alternative.Alternative (at 10 27) (choice.Others (at 10 32)) [] (at 10 39)
    (sole (at 10 42) (assign_of (at 10 42) "N" [] (at 10 44) (expr_of (at 10 47) (primary.Number (at 10 47) 2)) (at 10
    48))) ∷ []) (at 10 50) (at 10 54) (at 10 58)) (stmt.If (at 11 1) (expr.LoneRelation (at 11 4) (rel.LoneSum (at 11 4)
    (sum.Unsigned (at 11 4) (term.Product (at 11 4) (factor.Not (at 11 4) (object (at 11 8) "End_Of_File")) []) [])))
    (at 11 20) (sole (at 11 25) (call_of (at 11 25) "Get" (suffix.Applied (at 11 29) (actual_of (at 11 30) (object (at
    11 30) "N")) [] (at 11 31) ∷ []) (at 11 32))) [] (at 11 34) (at 11 38) (at 11 40) ∷ assign_of (at 12 1) "X" [] (at
    12 3) (expr_of (at 12 6) (primary.AllocatedAggregate (at 12 6) (mark (at 12 10) "Cell") (at 12 14)
    (aggregate.Several (at 12 15) (actual_of (at 12 16) (object (at 12 16) "N")) (at 12 17) (actual_of (at 12 19)
    (primary.Null (at 12 19))) [] (at 12 23)))) (at 12 24) ∷ stmt.While (at 13 4) (expr.LoneRelation (at 13 10)
    (rel.Compared (at 13 10) (sum_of (at 13 10) (object (at 13 10) "N")) relational.Greater (at 13 12) (sum_of (at 13
    14) (primary.Number (at 13 14) 5)))) (at 13 16) (sole (at 13 21) (assign_of (at 13 21) "N" [] (at 13 23)
    (expr.LoneRelation (at 13 26) (rel.LoneSum (at 13 26) (sum.Unsigned (at 13 26) (term.Product (at 13 26) (factor_of
    (at 13 26) (object (at 13 26) "N")) (next_factor.FurtherFactor (at 13 28) multiplying.Divide (factor_of (at 13 30)
    (primary.Number (at 13 30) 2)) ∷ [])) []))) (at 13 31))) (at 13 33) (at 13 37) (at 13 41) ∷ [])) (at 14 7) (Some (id
    (at 14 11) "Main")) (at 14 15)) ∷ []) ∷ [])
unfolding computes resolves
second_in_package_1 = refl

second_in_package_2 : IsFirstBrokenOf Twice (at 5 1) ((unit.OfPackage (at 1 4) (context.With (at 1 4) (selected (at 1 9)
    "Ada" (at 1 12) (at 1 13) "Text_IO") [] (at 1 20) ∷ use_context (use_of (at 1 22) None (selected (at 1 26) "Ada" (at
    1 29) (at 1 30) "Text_IO") [] (at 1 37)) ∷ context.With (at 1 39) (selected (at 1 44) "Ada" (at 1 47) (at 1 48)
    "Integer_Text_IO") [] (at 1 63) ∷ use_context (use_of (at 1 65) None (selected (at 1 69) "Ada" (at 1 72) (at 1 73)
    "Integer_Text_IO") [] (at 1 88)) ∷ context.With (at 1 90) (selected (at 1 95) "Ada" (at 1 98) (at 1 99)
    "Unchecked_Deallocation") [] (at 1 121) ∷ []) (package_of (at 1 123) (id (at 1 131) "Spare_P") None (at 1 139)
    (decl.OfItem (at 2 1) (objects_of (id (at 2 1) "Spare_X") [] (at 2 9) None (indication_of (mark (at 2 11)
    "Integer")) (at 2 18)) ∷ decl.Subprogram (at 2 20) (subspec.Procedure (at 2 20) (id (at 2 30) "Spare_Q") None) None
    (at 2 37) ∷ []) None (at 3 4) (Some (id (at 3 8) "Spare_P")) (at 3 15)) ∷ unit.OfBody (at 4 4) [] (package_body_of
    (at 4 4) (at 4 12) (id (at 4 17) "Spare_P") None (at 4 25) (part.Declared (at 5 1) (decl.OfItem (at 5 1) (objects_of
    (id (at 5 1) "Spare_X") [] (at 5 9) None (indication_of (mark (at 5 11) "Boolean")) (at 5 18))) ∷ part.Completed (at
    5 20) (subprogram_of (at 5 20) (subspec.Procedure (at 5 20) (id (at 5 30) "Spare_Q") None) None (at 5 38) [] (at 5
    41) (sole (at 5 47) (stmt.Null (at 5 47) (at 5 51))) (at 5 53) (Some (id (at 5 57) "Spare_Q")) (at 5 64)) ∷ []) (at
    6 1) (Some (id (at 6 5) "Spare_P")) (at 6 12)) ∷ unit.OfSubprogram (at 7 1) (context.With (at 7 1) (selected (at 7
    6) "Ada" (at 7 9) (at 7 10) "Text_IO") [] (at 7 17) ∷ use_context (use_of (at 7 19) None (selected (at 7 23) "Ada"
    (at 7 26) (at 7 27) "Text_IO") [] (at 7 34)) ∷ context.With (at 7 36) (selected (at 7 41) "Ada" (at 7 44) (at 7 45)
    "Integer_Text_IO") [] (at 7 60) ∷ use_context (use_of (at 7 62) None (selected (at 7 66) "Ada" (at 7 69) (at 7 70)
    "Integer_Text_IO") [] (at 7 85)) ∷ context.With (at 7 87) (selected (at 7 92) "Ada" (at 7 95) (at 7 96)
    "Unchecked_Deallocation") [] (at 7 118) ∷ []) (subprogram_of (at 8 4) (subspec.Procedure (at 8 4) (id (at 8 14)
    "Main") None) None (at 8 19) (item.IncompleteType (at 9 1) (id (at 9 6) "Cell") (at 9 10) ∷ item.AccessType (at 10
    1) (id (at 10 6) "List") (at 10 11) (at 10 14) (mark (at 10 21) "Cell") (at 10 25) ∷ item.RecordType (at 11 1) (id
    (at 11 6) "Cell") (at 11 11) (at 11 14) (fields_of (id (at 11 21) "Value") [] (at 11 27) (mark (at 11 29) "Integer")
    (at 11 36)) (fields_of (id (at 11 38) "Next") [] (at 11 43) (mark (at 11 45) "List") (at 11 49) ∷ []) (at 11 51) (at
    11 55) (at 11 61) ∷ objects_of (id (at 12 1) "X") (next_id_of (at 12 2) (at 12 4) "Y" ∷ []) (at 12 6) None
    (indication_of (mark (at 12 8) "List")) (at 12 12) ∷ initialized_of (id (at 13 1) "N") [] (at 13 3) None
    (indication_of (mark (at 13 5) "Integer")) (at 13 13) (expr_of (at 13 16) (primary.Number (at 13 16) 1)) (at 13 17)
    ∷ item.Instance (at 14 7) (id (at 14 17) "Free") (at 14 22) (at 14 25) (selected (at 14 29) "Ada" (at 14 32) (at 14
    33) "Unchecked_Deallocation") (at 14 56) (actual_of (at 14 57) (object (at 14 57) "Cell")) (next_arg.FurtherArg (at
    14 61) (actual_of (at 14 63) (object (at 14 63) "List")) ∷ []) (at 14 67) (at 14 68) ∷ []) (at 15 4) (stmts.Sequence
    (at 16 1) (assign_of (at 16 1) "N" [] (at 16 3) (expr.LoneRelation (at 16 6) (rel.LoneSum (at 16 6) (sum.Unsigned
    (at 16 6) (term.Product (at 16 6) (factor_of (at 16 6) (object (at 16 6) "N")) (next_factor.FurtherFactor (at 16 8)
    multiplying.Multiply (factor_of (at 16 10) (primary.Number (at 16 10) 2)) ∷ [])) (next_term.FurtherTerm (at 16 12)
    adding.Add (term_of (at 16 14) (primary.Number (at 16 14) 1)) ∷ [])))) (at 16 15)) (stmt.IfElse (at 17 1)
    (expr.LoneRelation (at 17 4) (rel.Compared (at 17 4) (sum_of (at 17 4) (object (at 17 4) "N")) relational.Greater
    (at 17 6) (sum_of (at 17 8) (primary.Number (at 17 8) 3)))) (at 17 10) (sole (at 17 15) (assign_of (at 17 15) "N" []
    (at 17 17) (expr.LoneRelation (at 17 20) (rel.LoneSum (at 17 20) (sum.Unsigned (at 17 20) (term_of (at 17 20)
    (object (at 17 20) "N")) (next_term.FurtherTerm (at 17 22) adding.Subtract (term_of (at 17 24) (primary.Number (at
    17 24) 1)) ∷ [])))) (at 17 25))) [] (at 17 27) (sole (at 17 32) (stmt.Null (at 17 32) (at 17 36))) (at 17 38) (at 17
    42) (at 17 44) ∷ [])) (at 18 4) (Some (id (at 18 8) "Main")) (at 18 12)) ∷ []) ∷ [])
unfolding computes resolves
second_in_package_2 = refl

second_in_package_3 : IsFirstBrokenOf Twice (at1 2 49) ((unit.OfPackage (at 1 1) (context.With (at 1 1) (selected (at 1
    6) "Ada" (at 1 9) (at 1 10) "Text_IO") [] (at 1 17) ∷ use_context (use_of (at 1 19) None (selected (at 1 23) "Ada"
    (at 1 26) (at 1 27) "Text_IO") [] (at 1 34)) ∷ context.With (at 1 36) (selected (at 1 41) "Ada" (at 1 44) (at 1 45)
    "Integer_Text_IO") [] (at 1 60) ∷ use_context (use_of (at 1 62) None (selected (at 1 66) "Ada" (at 1 69) (at 1 70)
    "Integer_Text_IO") [] (at 1 85)) ∷ context.With (at 1 87) (selected (at 1 92) "Ada" (at 1 95) (at 1 96)
    "Unchecked_Deallocation") [] (at 1 118) ∷ []) (package_of (at 1 120) (id (at 1 128) "Former_P") None (at 1 137)
    (decl.Subprogram (at 2 1) (subspec.Procedure (at 2 1) (id (at 2 11) "Former_Q") None) None (at 2 19) ∷ []) None (at
    3 1) (Some (id (at 3 5) "Former_P")) (at 3 13)) ∷ []) ∷ (unit.OfBody (at1 1 1) [] (package_body_of (at1 1 1) (at1 1
    9) (id (at1 1 14) "Former_P") None (at1 1 23) (part.Completed (at1 2 1) (subprogram_of (at1 2 1) (subspec.Procedure
    (at1 2 1) (id (at1 2 11) "Former_X") None) None (at1 2 20) [] (at1 2 23) (sole (at1 2 29) (stmt.Null (at1 2 29) (at1
    2 33))) (at1 2 35) (Some (id (at1 2 39) "Former_X")) (at1 2 47)) ∷ part.Declared (at1 2 49) (decl.OfItem (at1 2 49)
    (objects_of (id (at1 2 49) "Former_X") [] (at1 2 58) None (indication_of (mark (at1 2 60) "Integer")) (at1 2 67))) ∷
    part.Completed (at1 2 69) (subprogram_of (at1 2 69) (subspec.Procedure (at1 2 69) (id (at1 2 79) "Former_Q") None)
    None (at1 2 88) [] (at1 2 91) (sole (at1 2 97) (call_of (at1 2 97) "Former_X" [] (at1 2 105))) (at1 2 107) (Some (id
    (at1 2 111) "Former_Q")) (at1 2 119)) ∷ []) (at1 3 1) (Some (id (at1 3 5) "Former_P")) (at1 3 13)) ∷ []) ∷
    (unit.OfSubprogram (at2 1 1) (context.With (at2 1 1) (selected (at2 1 6) "Ada" (at2 1 9) (at2 1 10) "Text_IO") []
    (at2 1 17) ∷ use_context (use_of (at2 1 19) None (selected (at2 1 23) "Ada" (at2 1 26) (at2 1 27) "Text_IO") [] (at2
    1 34)) ∷ context.With (at2 1 36) (selected (at2 1 41) "Ada" (at2 1 44) (at2 1 45) "Integer_Text_IO") [] (at2 1 60) ∷
    use_context (use_of (at2 1 62) None (selected (at2 1 66) "Ada" (at2 1 69) (at2 1 70) "Integer_Text_IO") [] (at2 1
    85)) ∷ context.With (at2 1 87) (selected (at2 1 92) "Ada" (at2 1 95) (at2 1 96) "Unchecked_Deallocation") [] (at2 1
    118) ∷ []) (subprogram_of (at2 2 1) (subspec.Procedure (at2 2 1) (id (at2 2 11) "Main") None) None (at2 2 16)
    (item.IncompleteType (at2 3 1) (id (at2 3 6) "Cell") (at2 3 10) ∷ item.AccessType (at2 4 1) (id (at2 4 6) "List")
    (at2 4 11) (at2 4 14) (mark (at2 4 21) "Cell") (at2 4 25) ∷ item.RecordType (at2 5 1) (id (at2 5 6) "Cell") (at2 5
    11) (at2 5 14) (fields_of (id (at2 5 21) "Value") [] (at2 5 27) (mark (at2 5 29) "Integer") (at2 5 36)) (fields_of
    (id (at2 5 38) "Next") [] (at2 5 43) (mark (at2 5 45) "List") (at2 5 49) ∷ []) (at2 5 51) (at2 5 55) (at2 5 61) ∷
    objects_of (id (at2 6 1) "X") (next_id_of (at2 6 2) (at2 6 4) "Y" ∷ []) (at2 6 6) None (indication_of (mark (at2 6
    8) "List")) (at2 6 12) ∷ initialized_of (id (at2 7 1) "N") [] (at2 7 3) None (indication_of (mark (at2 7 5)
    "Integer")) (at2 7 13) (expr_of (at2 7 16) (primary.Number (at2 7 16) 1)) (at2 7 17) ∷ item.Instance (at2 8 1) (id
    (at2 8 11) "Free") (at2 8 16) (at2 8 19) (selected (at2 8 23) "Ada" (at2 8 26) (at2 8 27) "Unchecked_Deallocation")
    (at2 8 50) (actual_of (at2 8 51) (object (at2 8 51) "Cell")) (next_arg.FurtherArg (at2 8 55) (actual_of (at2 8 57)
    (object (at2 8 57) "List")) ∷ []) (at2 8 61) (at2 8 62) ∷ []) (at2 9 1) (stmts.Sequence (at2 10 1) (assign_of (at2
    10 1) "Y" [] (at2 10 3) (expr_of (at2 10 6) (object (at2 10 6) "X")) (at2 10 7)) (assign_of (at2 10 9) "X" [] (at2
    10 11) (expr_of (at2 10 14) (primary.Null (at2 10 14))) (at2 10 18) ∷ stmt.For (at2 11 1) (id (at2 11 5) "I") (at2
    11 7) None (range.Bounds (at2 11 10) (expr_of (at2 11 10) (primary.Number (at2 11 10) 1)) (at2 11 12) (expr_of (at2
    11 15) (primary.Number (at2 11 15) 3))) (at2 11 17) (sole (at2 11 22) (assign_of (at2 11 22) "N" [] (at2 11 24)
    (expr.LoneRelation (at2 11 27) (rel.LoneSum (at2 11 27) (sum.Unsigned (at2 11 27) (term_of (at2 11 27) (object (at2
    11 27) "N")) (next_term.FurtherTerm (at2 11 29) adding.Add (term_of (at2 11 31) (object (at2 11 31) "I")) ∷ []))))
    (at2 11 32))) (at2 11 34) (at2 11 38) (at2 11 42) ∷ stmt.Case (at2 12 1) (expr_of (at2 12 6) (object (at2 12 6)
    "N")) (at2 12 8) (alternative.Alternative (at2 12 11) (choice.Value (at2 12 16) (expr_of (at2 12 16) (primary.Number
    (at2 12 16) 1))) [] (at2 12 18) (sole (at2 12 21) (stmt.Null (at2 12 21) (at2 12 25)))) (alternative.Alternative
    (at2 12 27) (choice.Others (at2 12 32)) [] (at2 12 39) (sole (at2 12 42) (assign_of (at2 12 42) "N" [] (at2 12 44)
    (expr_of (at2 12 47) (primary.Number (at2 12 47) 2)) (at2 12 48))) ∷ []) (at2 12 50) (at2 12 54) (at2 12 58) ∷
    assign_of (at2 13 1) "N" [] (at2 13 3) (expr.LoneRelation (at2 13 6) (rel.LoneSum (at2 13 6) (sum.Unsigned (at2 13
    6) (term.Product (at2 13 6) (factor_of (at2 13 6) (object (at2 13 6) "N")) (next_factor.FurtherFactor (at2 13 8)
    multiplying.Multiply (factor_of (at2 13 10) (primary.Number (at2 13 10) 2)) ∷ [])) (next_term.FurtherTerm (at2 13
    12) adding.Add (term_of (at2 13 14) (primary.Number (at2 13 14) 1)) ∷ [])))) (at2 13 15) ∷ [])) (at2 14 1) (Some (id
    (at2 14 5) "Main")) (at2 14 9)) ∷ []) ∷ [])
unfolding computes resolves
second_in_package_3 = refl
