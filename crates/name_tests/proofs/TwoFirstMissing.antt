-- Two rules are broken, and N5 or N6 is first: by its position, or there by its code.
--
-- tools/tree_terms.py makes this of the sources that data/cases.txt has under its name.
use Rattle.std.proofs.Common.{refl, [], ◌∷◌}
use Rattle.std.specs.Prelude.{None, Some}
use Rattle.ada_tree.specs.declared.operator.AddingOperator.TheVariants as adding
use Rattle.ada_tree.specs.declared.expression.Aggregate.TheVariants as aggregate
use Rattle.ada_tree.specs.declared.statement.When.TheVariants as alternative
use Rattle.ada_tree.specs.declared.range.Choice.TheVariants as choice
use Rattle.ada_tree.specs.declared.unit.Context.TheVariants as context
use Rattle.ada_tree.specs.declared.subprogram.Decl.TheVariants as decl
use Rattle.ada_tree.specs.declared.expression.Expr.TheVariants as expr
use Rattle.ada_tree.specs.declared.expression.Factor.TheVariants as factor
use Rattle.ada_tree.specs.declared.declaration.Item.TheVariants as item
use Rattle.ada_tree.specs.declared.operator.MultiplyingOperator.TheVariants as multiplying
use Rattle.ada_tree.specs.declared.expression.NextArg.TheVariants as next_arg
use Rattle.ada_tree.specs.declared.identifier.NextDotted.TheVariants as next_dotted
use Rattle.ada_tree.specs.declared.expression.NextFactor.TheVariants as next_factor
use Rattle.ada_tree.specs.declared.expression.NextTerm.TheVariants as next_term
use Rattle.ada_tree.specs.declared.unit.BodyPart.TheVariants as part
use Rattle.ada_tree.specs.declared.expression.Primary.TheVariants as primary
use Rattle.ada_tree.specs.declared.range.Range.TheVariants as range
use Rattle.ada_tree.specs.declared.expression.Rel.TheVariants as rel
use Rattle.ada_tree.specs.declared.operator.RelationalOperator.TheVariants as relational
use Rattle.ada_tree.specs.declared.statement.Stmt.TheVariants as stmt
use Rattle.ada_tree.specs.declared.statement.Stmts.TheVariants as stmts
use Rattle.ada_tree.specs.declared.subprogram.Subspec.TheVariants as subspec
use Rattle.ada_tree.specs.declared.expression.Suffix.TheVariants as suffix
use Rattle.ada_tree.specs.declared.expression.Sum.TheVariants as sum
use Rattle.ada_tree.specs.declared.expression.Term.TheVariants as term
use Rattle.ada_tree.specs.declared.unit.SourceUnit.TheVariants as unit
use Rattle.ada_grammar.proofs.SmallSources.{computes}
use Rattle.name_events.specs.declared.declaration.NameRule.TheVariants.{NoBody, WrongEnd}
use Rattle.name_tests.proofs.SmallRules.{resolves}
use Rattle.name_tests.proofs.SourceTrees.{IsFirstBrokenOf, actual_of, assign_of, at, at1, call_of, expr_of, factor_of, fields_of, formals_of, id, indication_of, initialized_of, mark, moded_of, named, next_id_of, numbers_of, object, objects_of, package_body_of, package_of, private_part, selected, sole, subprogram_of, sum_of, term_of, use_context, use_item, use_of}

two_n5_1 : IsFirstBrokenOf NoBody (at 4 32) ((unit.OfSubprogram (at 1 1) (context.With (at 1 1) (selected (at 1 6) "Ada"
    (at 1 9) (at 1 10) "Text_IO") [] (at 1 17) ∷ use_context (use_of (at 1 19) None (selected (at 1 23) "Ada" (at 1 26)
    (at 1 27) "Text_IO") [] (at 1 34)) ∷ context.With (at 1 36) (selected (at 1 41) "Ada" (at 1 44) (at 1 45)
    "Integer_Text_IO") [] (at 1 60) ∷ use_context (use_of (at 1 62) None (selected (at 1 66) "Ada" (at 1 69) (at 1 70)
    "Integer_Text_IO") [] (at 1 85)) ∷ context.With (at 1 87) (selected (at 1 92) "Ada" (at 1 95) (at 1 96)
    "Unchecked_Deallocation") [] (at 1 118) ∷ []) (subprogram_of (at 2 1) (subspec.Procedure (at 2 1) (id (at 2 11)
    "Main") None) None (at 2 16) (item.IncompleteType (at 3 1) (id (at 3 6) "Cell") (at 3 10) ∷ item.AccessType (at 4 1)
    (id (at 4 6) "List") (at 4 11) (at 4 14) (mark (at 4 21) "Cell") (at 4 25) ∷ item.PrivateType (at 4 27) (id (at 4
    32) "Quick_T") (at 4 40) (at 4 43) (at 4 50) ∷ item.EnumerationType (at 4 52) (id (at 4 57) "Minor_T") (at 4 65) (at
    4 68) (id (at 4 69) "Minor_A") (next_id_of (at 4 76) (at 4 78) "Minor_B" ∷ []) (at 4 85) (at 4 86) ∷ objects_of (id
    (at 4 88) "Minor_A") [] (at 4 96) None (indication_of (mark (at 4 98) "Integer")) (at 4 105) ∷ item.RecordType (at 5
    1) (id (at 5 6) "Cell") (at 5 11) (at 5 14) (fields_of (id (at 5 21) "Value") [] (at 5 27) (mark (at 5 29)
    "Integer") (at 5 36)) (fields_of (id (at 5 38) "Next") [] (at 5 43) (mark (at 5 45) "List") (at 5 49) ∷ []) (at 5
    51) (at 5 55) (at 5 61) ∷ objects_of (id (at 6 1) "X") (next_id_of (at 6 2) (at 6 4) "Y" ∷ []) (at 6 6) None
    (indication_of (mark (at 6 8) "List")) (at 6 12) ∷ initialized_of (id (at 7 1) "N") [] (at 7 3) None (indication_of
    (mark (at 7 5) "Integer")) (at 7 13) (expr_of (at 7 16) (primary.Number (at 7 16) 6)) (at 7 17) ∷ []) (at 8 1)
    (stmts.Sequence (at 9 1) (stmt.IfElse (at 9 1) (expr.LoneRelation (at 9 4) (rel.Compared (at 9 4) (sum_of (at 9 4)
    (object (at 9 4) "N")) relational.Greater (at 9 6) (sum_of (at 9 8) (primary.Number (at 9 8) 3)))) (at 9 10) (sole
    (at 9 15) (assign_of (at 9 15) "N" [] (at 9 17) (expr.LoneRelation (at 9 20) (rel.LoneSum (at 9 20) (sum.Unsigned
    (at 9 20) (term_of (at 9 20) (object (at 9 20) "N")) (next_term.FurtherTerm (at 9 22) adding.Subtract (term_of (at 9
    24) (primary.Number (at 9 24) 1)) ∷ [])))) (at 9 25))) [] (at 9 27) (sole (at 9 32) (stmt.Null (at 9 32) (at 9 36)))
    (at 9 38) (at 9 42) (at 9 44)) (assign_of (at 10 1) "N" [] (at 10 3) (expr.LoneRelation (at 10 6) (rel.LoneSum (at
    10 6) (sum.Unsigned (at 10 6) (term.Product (at 10 6) (factor_of (at 10 6) (object (at 10 6) "N"))
    (next_factor.FurtherFactor (at 10 8) multiplying.Multiply (factor_of (at 10 10) (primary.Number (at 10 10) 2)) ∷
    [])) (next_term.FurtherTerm (at 10 12) adding.Add (term_of (at 10 14) (primary.Number (at 10 14) 1)) ∷ [])))) (at 10
    15) ∷ assign_of (at 11 1) "Y" [] (at 11 3) (expr_of (at 11 6) (object (at 11 6) "X")) (at 11 7) ∷ assign_of (at 11
    9) "X" [] (at 11 11) (expr_of (at 11 14) (primary.Null (at 11 14))) (at 11 18) ∷ stmt.Case (at 12 1) (expr_of (at 12
    6) (object (at 12 6) "N")) (at 12 8) (alternative.Alternative (at 12 11) (choice.Value (at 12 16) (expr_of (at 12
    16) (primary.Number (at 12 16) 1))) [] (at 12 18) (sole (at 12 21) (stmt.Null (at 12 21) (at 12 25))))
    (alternative.Alternative (at 12 27) (choice.Others (at 12 32)) [] (at 12 39) (sole (at 12 42) (assign_of (at 12 42)
    "N" [] (at 12 44) (expr_of (at 12 47) (primary.Number (at 12 47) 2)) (at 12 48))) ∷ []) (at 12 50) (at 12 54) (at 12
    58) ∷ [])) (at 13 1) (Some (id (at 13 5) "Main")) (at 13 9)) ∷ []) ∷ [])
unfolding computes resolves
two_n5_1 = refl

two_n5_2 : IsFirstBrokenOf NoBody (at 1 31) ((unit.OfPackage (at 1 1) [] (package_of (at 1 1) (id (at 1 9) "Latest_P")
    None (at 1 18) (decl.Subprogram (at 1 21) (subspec.Procedure (at 1 21) (id (at 1 31) "Latest_Q") None) None (at 1
    39) ∷ []) None (at 1 41) (Some (id (at 1 45) "Latest_P")) (at 1 53)) ∷ unit.OfPackage (at 2 1) [] (package_of (at 2
    1) (id (at 2 9) "Extra_P") None (at 2 17) (decl.OfItem (at 2 20) (objects_of (id (at 2 20) "Extra_X") [] (at 2 28)
    None (indication_of (mark (at 2 30) "Integer")) (at 2 37)) ∷ []) None (at 2 39) (Some (id (at 2 43) "Extra_P")) (at
    2 50)) ∷ unit.OfPackage (at 3 1) (use_context (use_of (at 3 1) None (mark (at 3 5) "Extra_P") [] (at 3 12)) ∷ [])
    (package_of (at 3 14) (id (at 3 22) "Extra_R") None (at 3 30) (decl.OfItem (at 3 33) (objects_of (id (at 3 33)
    "Extra_Z") [] (at 3 41) None (indication_of (mark (at 3 43) "Integer")) (at 3 50)) ∷ []) None (at 3 52) (Some (id
    (at 3 56) "Extra_R")) (at 3 63)) ∷ unit.OfSubprogram (at 4 1) (context.With (at 4 1) (selected (at 4 6) "Ada" (at 4
    9) (at 4 10) "Text_IO") [] (at 4 17) ∷ use_context (use_of (at 4 19) None (selected (at 4 23) "Ada" (at 4 26) (at 4
    27) "Text_IO") [] (at 4 34)) ∷ context.With (at 4 36) (selected (at 4 41) "Ada" (at 4 44) (at 4 45)
    "Integer_Text_IO") [] (at 4 60) ∷ use_context (use_of (at 4 62) None (selected (at 4 66) "Ada" (at 4 69) (at 4 70)
    "Integer_Text_IO") [] (at 4 85)) ∷ context.With (at 4 87) (selected (at 4 92) "Ada" (at 4 95) (at 4 96)
    "Unchecked_Deallocation") [] (at 4 118) ∷ []) (subprogram_of (at 5 1) (subspec.Procedure (at 5 1) (id (at 5 11)
    "Main") None) None (at 5 16) (item.IncompleteType (at 6 1) (id (at 6 6) "Cell") (at 6 10) ∷ item.AccessType (at 7 1)
    (id (at 7 6) "List") (at 7 11) (at 7 14) (mark (at 7 21) "Cell") (at 7 25) ∷ item.RecordType (at 8 1) (id (at 8 6)
    "Cell") (at 8 11) (at 8 14) (fields_of (id (at 8 21) "Value") [] (at 8 27) (mark (at 8 29) "Integer") (at 8 36))
    (fields_of (id (at 8 38) "Next") [] (at 8 43) (mark (at 8 45) "List") (at 8 49) ∷ []) (at 8 51) (at 8 55) (at 8 61)
    ∷ objects_of (id (at 9 1) "X") (next_id_of (at 9 2) (at 9 4) "Y" ∷ []) (at 9 6) None (indication_of (mark (at 9 8)
    "List")) (at 9 12) ∷ initialized_of (id (at 10 1) "N") [] (at 10 3) None (indication_of (mark (at 10 5) "Integer"))
    (at 10 13) (expr_of (at 10 16) (primary.Number (at 10 16) 4)) (at 10 17) ∷ []) (at 11 1) (stmts.Sequence (at 12 1)
    (stmt.For (at 12 1) (id (at 12 5) "I") (at 12 7) None (range.Bounds (at 12 10) (expr_of (at 12 10) (primary.Number
    (at 12 10) 1)) (at 12 12) (expr_of (at 12 15) (primary.Number (at 12 15) 3))) (at 12 17) (sole (at 12 22) (assign_of
    (at 12 22) "N" [] (at 12 24) (expr.LoneRelation (at 12 27) (rel.LoneSum (at 12 27) (sum.Unsigned (at 12 27) (term_of
    (at 12 27) (object (at 12 27) "N")) (next_term.FurtherTerm (at 12 29) adding.Add (term_of (at 12 31) (object (at 12
    31) "I")) ∷ [])))) (at 12 32))) (at 12 34) (at 12 38) (at 12 42)) (call_of (at 13 1) "Put_Line" (suffix.Applied (at
    13 10) (actual_of (at 13 11) (named (at 13 11) "Integer" (suffix.Attribute (at 13 18) (id (at 13 19) "Image") ∷
    suffix.Applied (at 13 25) (actual_of (at 13 26) (object (at 13 26) "N")) [] (at 13 27) ∷ []))) [] (at 13 28) ∷ [])
    (at 13 29) ∷ assign_of (at 14 1) "X" [] (at 14 3) (expr_of (at 14 6) (primary.AllocatedAggregate (at 14 6) (mark (at
    14 10) "Cell") (at 14 14) (aggregate.Several (at 14 15) (actual_of (at 14 16) (object (at 14 16) "N")) (at 14 17)
    (actual_of (at 14 19) (primary.Null (at 14 19))) [] (at 14 23)))) (at 14 24) ∷ assign_of (at 15 1) "Y" [] (at 15 3)
    (expr_of (at 15 6) (object (at 15 6) "X")) (at 15 7) ∷ assign_of (at 15 9) "X" [] (at 15 11) (expr_of (at 15 14)
    (primary.Null (at 15 14))) (at 15 18) ∷ [])) (at 16 1) (Some (id (at 16 5) "Main")) (at 16 9)) ∷ []) ∷ [])
unfolding computes resolves
two_n5_2 = refl

two_n5_3 : IsFirstBrokenOf NoBody (at 1 14) ((unit.OfBody (at 1 1) [] (package_body_of (at 1 1) (at 1 9) (id (at 1 14)
    "Extra_P") None (at 1 22) (part.Completed (at 1 25) (subprogram_of (at 1 25) (subspec.Procedure (at 1 25) (id (at 1
    35) "Extra_Q") None) None (at 1 43) [] (at 1 46) (sole (at 1 52) (stmt.Null (at 1 52) (at 1 56))) (at 1 58) (Some
    (id (at 1 62) "Extra_Q")) (at 1 69)) ∷ []) (at 1 71) (Some (id (at 1 75) "Extra_P")) (at 1 82)) ∷ unit.OfSubprogram
    (at 1 84) (context.With (at 1 84) (selected (at 1 89) "Ada" (at 1 92) (at 1 93) "Text_IO") [] (at 1 100) ∷
    use_context (use_of (at 1 102) None (selected (at 1 106) "Ada" (at 1 109) (at 1 110) "Text_IO") [] (at 1 117)) ∷
    context.With (at 1 119) (selected (at 1 124) "Ada" (at 1 127) (at 1 128) "Integer_Text_IO") [] (at 1 143) ∷
    use_context (use_of (at 1 145) None (selected (at 1 149) "Ada" (at 1 152) (at 1 153) "Integer_Text_IO") [] (at 1
    168)) ∷ context.With (at 1 170) (selected (at 1 175) "Ada" (at 1 178) (at 1 179) "Unchecked_Deallocation") [] (at 1
    201) ∷ []) (subprogram_of (at 2 1) (subspec.Procedure (at 2 1) (id (at 2 11) "Main") None) None (at 2 16)
    (item.IncompleteType (at 2 19) (id (at 2 24) "Cell") (at 2 28) ∷ item.AccessType (at 3 1) (id (at 3 6) "List") (at 3
    11) (at 3 14) (mark (at 3 21) "Cell") (at 3 25) ∷ item.RecordType (at 3 27) (id (at 3 32) "Cell") (at 3 37) (at 3
    40) (fields_of (id (at 3 47) "Value") [] (at 3 53) (mark (at 3 55) "Integer") (at 3 62)) (fields_of (id (at 3 64)
    "Next") [] (at 3 69) (mark (at 3 71) "List") (at 3 75) ∷ []) (at 3 77) (at 3 81) (at 3 87) ∷ objects_of (id (at 4 1)
    "X") (next_id_of (at 4 2) (at 4 4) "Y" ∷ []) (at 4 6) None (indication_of (mark (at 4 8) "List")) (at 4 12) ∷
    initialized_of (id (at 4 14) "N") [] (at 4 16) None (indication_of (mark (at 4 18) "Integer")) (at 4 26) (expr_of
    (at 4 29) (primary.Number (at 4 29) 1)) (at 4 30) ∷ []) (at 5 1) (stmts.Sequence (at 5 7) (assign_of (at 5 7) "N" []
    (at 5 9) (expr.LoneRelation (at 5 12) (rel.LoneSum (at 5 12) (sum.Unsigned (at 5 12) (term.Product (at 5 12)
    (factor_of (at 5 12) (object (at 5 12) "N")) (next_factor.FurtherFactor (at 5 14) multiplying.Multiply (factor_of
    (at 5 16) (primary.Number (at 5 16) 2)) ∷ [])) (next_term.FurtherTerm (at 5 18) adding.Add (term_of (at 5 20)
    (primary.Number (at 5 20) 1)) ∷ [])))) (at 5 21)) (assign_of (at 6 1) "X" [] (at 6 3) (expr_of (at 6 6)
    (primary.AllocatedAggregate (at 6 6) (mark (at 6 10) "Cell") (at 6 14) (aggregate.Several (at 6 15) (actual_of (at 6
    16) (object (at 6 16) "N")) (at 6 17) (actual_of (at 6 19) (primary.Null (at 6 19))) [] (at 6 23)))) (at 6 24) ∷
    stmt.Case (at 7 1) (expr_of (at 7 6) (object (at 7 6) "N")) (at 7 8) (alternative.Alternative (at 7 11)
    (choice.Value (at 7 16) (expr_of (at 7 16) (primary.Number (at 7 16) 1))) [] (at 7 18) (sole (at 7 21) (stmt.Null
    (at 7 21) (at 7 25)))) (alternative.Alternative (at 7 27) (choice.Others (at 7 32)) [] (at 7 39) (sole (at 7 42)
    (assign_of (at 7 42) "N" [] (at 7 44) (expr_of (at 7 47) (primary.Number (at 7 47) 2)) (at 7 48))) ∷ []) (at 7 50)
    (at 7 54) (at 7 58) ∷ call_of (at 8 1) "Put_Line" (suffix.Applied (at 8 10) (actual_of (at 8 11) (named (at 8 11)
    "Integer" (suffix.Attribute (at 8 18) (id (at 8 19) "Image") ∷ suffix.Applied (at 8 25) (actual_of (at 8 26) (object
    (at 8 26) "N")) [] (at 8 27) ∷ []))) [] (at 8 28) ∷ []) (at 8 29) ∷ [])) (at 8 31) (Some (id (at 8 35) "Main")) (at
    8 39)) ∷ unit.OfPackage (at 8 41) (context.With (at 8 41) (selected (at 8 46) "Ada" (at 8 49) (at 8 50) "Text_IO")
    [] (at 8 57) ∷ use_context (use_of (at 8 59) None (selected (at 8 63) "Ada" (at 8 66) (at 8 67) "Text_IO") [] (at 8
    74)) ∷ context.With (at 8 76) (selected (at 8 81) "Ada" (at 8 84) (at 8 85) "Integer_Text_IO") [] (at 8 100) ∷
    use_context (use_of (at 8 102) None (selected (at 8 106) "Ada" (at 8 109) (at 8 110) "Integer_Text_IO") [] (at 8
    125)) ∷ context.With (at 8 127) (selected (at 8 132) "Ada" (at 8 135) (at 8 136) "Unchecked_Deallocation") [] (at 8
    158) ∷ []) (package_of (at 8 160) (id (at 8 168) "Plain_P") None (at 8 176) (decl.OfItem (at 8 179) (objects_of (id
    (at 8 179) "Plain_B") [] (at 8 187) None (indication_of (mark (at 8 189) "Boolean")) (at 8 196)) ∷ decl.OfItem (at 8
    198) (item.ConstrainedSubtype (at 8 198) (id (at 8 206) "Plain_S") (at 8 214) (mark (at 8 217) "Boolean") (at 8 225)
    (expr_of (at 8 231) (object (at 8 231) "False")) (at 8 237) (expr_of (at 8 240) (object (at 8 240) "Plain_B")) (at 8
    247)) ∷ []) None (at 8 249) (Some (id (at 8 253) "Plain_P")) (at 8 260)) ∷ []) ∷ [])
unfolding computes resolves
two_n5_3 = refl

two_n5_4 : IsFirstBrokenOf NoBody (at 1 26) ((unit.OfPackage (at 1 1) [] (package_of (at 1 1) (id (at 1 9) "Former_P")
    None (at 1 18) (decl.OfItem (at 1 21) (item.IncompleteType (at 1 21) (id (at 1 26) "Former_T") (at 1 34)) ∷
    decl.OfItem (at 1 36) (item.AccessType (at 1 36) (id (at 1 41) "Former_A") (at 1 50) (at 1 53) (mark (at 1 60)
    "Former_T") (at 1 68)) ∷ decl.Subprogram (at 1 70) (subspec.Procedure (at 1 70) (id (at 1 80) "Former_Q") None) None
    (at 1 88) ∷ []) None (at 1 90) (Some (id (at 1 94) "Former_P")) (at 1 102)) ∷ unit.OfBody (at 2 1) []
    (package_body_of (at 2 1) (at 2 9) (id (at 2 14) "Former_P") None (at 2 23) (part.Declared (at 2 26) (decl.OfItem
    (at 2 26) (item.EnumerationType (at 2 26) (id (at 2 31) "Former_T") (at 2 40) (at 2 43) (id (at 2 44) "Former_U")
    (next_id_of (at 2 52) (at 2 54) "Former_V" ∷ []) (at 2 62) (at 2 63))) ∷ part.Completed (at 2 65) (subprogram_of (at
    2 65) (subspec.Procedure (at 2 65) (id (at 2 75) "Former_Q") None) None (at 2 84) [] (at 2 87) (sole (at 2 93)
    (stmt.Null (at 2 93) (at 2 97))) (at 2 99) (Some (id (at 2 103) "Former_Q")) (at 2 111)) ∷ []) (at 2 113) (Some (id
    (at 2 117) "Former_P")) (at 2 125)) ∷ unit.OfSubprogram (at 3 1) (context.With (at 3 1) (selected (at 3 6) "Ada" (at
    3 9) (at 3 10) "Text_IO") [] (at 3 17) ∷ use_context (use_of (at 3 19) None (selected (at 3 23) "Ada" (at 3 26) (at
    3 27) "Text_IO") [] (at 3 34)) ∷ context.With (at 3 36) (selected (at 3 41) "Ada" (at 3 44) (at 3 45)
    "Integer_Text_IO") [] (at 3 60) ∷ use_context (use_of (at 3 62) None (selected (at 3 66) "Ada" (at 3 69) (at 3 70)
    "Integer_Text_IO") [] (at 3 85)) ∷ context.With (at 3 87) (selected (at 3 92) "Ada" (at 3 95) (at 3 96)
    "Unchecked_Deallocation") [] (at 3 118) ∷ []) (subprogram_of (at 4 1) (subspec.Procedure (at 4 1) (id (at 4 11)
    "Main") None) None (at 4 16) (item.IncompleteType (at 5 1) (id (at 5 6) "Cell") (at 5 10) ∷ item.AccessType (at 6 1)
    (id (at 6 6) "List") (at 6 11) (at 6 14) (mark (at 6 21) "Cell") (at 6 25) ∷ item.RecordType (at 7 1) (id (at 7 6)
    "Cell") (at 7 11) (at 7 14) (fields_of (id (at 7 21) "Value") [] (at 7 27) (mark (at 7 29) "Integer") (at 7 36))
    (fields_of (id (at 7 38) "Next") [] (at 7 43) (mark (at 7 45) "List") (at 7 49) ∷ []) (at 7 51) (at 7 55) (at 7 61)
    ∷ objects_of (id (at 8 1) "X") (next_id_of (at 8 2) (at 8 4) "Y" ∷ []) (at 8 6) None (indication_of (mark (at 8 8)
    "List")) (at 8 12) ∷ initialized_of (id (at 9 1) "N") [] (at 9 3) None (indication_of (mark (at 9 5) "Integer")) (at
    9 13) (expr_of (at 9 16) (primary.Number (at 9 16) 4)) (at 9 17) ∷ []) (at 10 1) (stmts.Sequence (at 11 1)
    (assign_of (at 11 1) "Y" [] (at 11 3) (expr_of (at 11 6) (object (at 11 6) "X")) (at 11 7)) (assign_of (at 11 9) "X"
    [] (at 11 11) (expr_of (at 11 14) (primary.Null (at 11 14))) (at 11 18) ∷ stmt.If (at 12 1) (expr.LoneRelation (at
    12 4) (rel.LoneSum (at 12 4) (sum.Unsigned (at 12 4) (term.Product (at 12 4) (factor.Not (at 12 4) (object (at 12 8)
    "End_Of_File")) []) []))) (at 12 20) (sole (at 12 25) (call_of (at 12 25) "Get" (suffix.Applied (at 12 29)
    (actual_of (at 12 30) (object (at 12 30) "N")) [] (at 12 31) ∷ []) (at 12 32))) [] (at 12 34) (at 12 38) (at 12 40)
    ∷ stmt.IfElse (at 13 1) (expr.LoneRelation (at 13 4) (rel.Compared (at 13 4) (sum_of (at 13 4) (object (at 13 4)
    "N")) relational.Greater (at 13 6) (sum_of (at 13 8) (primary.Number (at 13 8) 3)))) (at 13 10) (sole (at 13 15)
    (assign_of (at 13 15) "N" [] (at 13 17) (expr.LoneRelation (at 13 20) (rel.LoneSum (at 13 20) (sum.Unsigned (at 13
    20) (term_of (at 13 20) (object (at 13 20) "N")) (next_term.FurtherTerm (at 13 22) adding.Subtract (term_of (at 13
    24) (primary.Number (at 13 24) 1)) ∷ [])))) (at 13 25))) [] (at 13 27) (sole (at 13 32) (stmt.Null (at 13 32) (at 13
    36))) (at 13 38) (at 13 42) (at 13 44) ∷ [])) (at 14 1) (Some (id (at 14 5) "Main")) (at 14 9)) ∷ unit.OfPackage (at
    15 1) [] (package_of (at 15 1) (id (at 15 9) "Minor_P") None (at 15 17) (decl.OfItem (at 15 20)
    (item.EnumerationType (at 15 20) (id (at 15 25) "Minor_T") (at 15 33) (at 15 36) (id (at 15 37) "Minor_A")
    (next_id_of (at 15 44) (at 15 46) "Minor_B" ∷ []) (at 15 53) (at 15 54)) ∷ []) None (at 15 56) (Some (id (at 15 60)
    "Minor_P")) (at 15 67)) ∷ unit.OfPackage (at 16 1) [] (package_of (at 16 1) (id (at 16 9) "Minor_Q") None (at 16 17)
    (decl.OfItem (at 16 20) (item.EnumerationType (at 16 20) (id (at 16 25) "Minor_T") (at 16 33) (at 16 36) (id (at 16
    37) "Minor_C") (next_id_of (at 16 44) (at 16 46) "Minor_D" ∷ []) (at 16 53) (at 16 54)) ∷ []) None (at 16 56) (Some
    (id (at 16 60) "Minor_Q")) (at 16 67)) ∷ unit.OfPackage (at 17 1) (context.With (at 17 1) (mark (at 17 6) "Minor_P")
    [] (at 17 13) ∷ context.With (at 17 15) (mark (at 17 20) "Minor_Q") [] (at 17 27) ∷ []) (package_of (at 17 29) (id
    (at 17 37) "Minor_R") None (at 17 45) (decl.OfItem (at 17 48) (use_item (use_of (at 17 48) None (mark (at 17 52)
    "Minor_Q") [] (at 17 59))) ∷ decl.OfItem (at 17 61) (use_item (use_of (at 17 61) None (mark (at 17 65) "Minor_P") []
    (at 17 72))) ∷ decl.OfItem (at 17 74) (objects_of (id (at 17 74) "Minor_Y") [] (at 17 82) None (indication_of (mark
    (at 17 84) "Minor_T")) (at 17 91)) ∷ []) None (at 17 93) (Some (id (at 17 97) "Minor_R")) (at 17 104)) ∷ []) ∷ [])
unfolding computes resolves
two_n5_4 = refl

two_n5_5 : IsFirstBrokenOf NoBody (at 1 14) ((unit.OfBody (at 1 1) [] (package_body_of (at 1 1) (at 1 9) (id (at 1 14)
    "Second_P") None (at 1 23) (part.Completed (at 1 26) (subprogram_of (at 1 26) (subspec.Procedure (at 1 26) (id (at 1
    36) "Second_Q") None) None (at 1 45) [] (at 1 48) (sole (at 1 54) (stmt.Null (at 1 54) (at 1 58))) (at 1 60) (Some
    (id (at 1 64) "Second_Q")) (at 1 72)) ∷ []) (at 1 74) (Some (id (at 1 78) "Second_P")) (at 1 86)) ∷ unit.OfPackage
    (at 2 1) (context.With (at 2 1) (selected (at 2 6) "Ada" (at 2 9) (at 2 10) "Text_IO") [] (at 2 17) ∷ use_context
    (use_of (at 2 19) None (selected (at 2 23) "Ada" (at 2 26) (at 2 27) "Text_IO") [] (at 2 34)) ∷ context.With (at 2
    36) (selected (at 2 41) "Ada" (at 2 44) (at 2 45) "Integer_Text_IO") [] (at 2 60) ∷ use_context (use_of (at 2 62)
    None (selected (at 2 66) "Ada" (at 2 69) (at 2 70) "Integer_Text_IO") [] (at 2 85)) ∷ context.With (at 2 87)
    (selected (at 2 92) "Ada" (at 2 95) (at 2 96) "Unchecked_Deallocation") [] (at 2 118) ∷ []) (package_of (at 2 120)
    (id (at 2 128) "Spare_P") None (at 2 136) (decl.OfItem (at 2 139) (item.AccessType (at 2 139) (id (at 2 144)
    "Spare_P") (at 2 152) (at 2 155) (mark (at 2 162) "Spare_C") (at 2 169)) ∷ decl.OfItem (at 2 171) (item.RecordType
    (at 2 171) (id (at 2 176) "Spare_C") (at 2 184) (at 2 187) (fields_of (id (at 2 194) "Spare_F") [] (at 2 202) (mark
    (at 2 204) "Integer") (at 2 211)) [] (at 2 213) (at 2 217) (at 2 223)) ∷ []) None (at 2 225) (Some (id (at 2 229)
    "Spare_P")) (at 2 236)) ∷ []) ∷ (unit.OfSubprogram (at1 1 1) (context.With (at1 1 1) (selected (at1 1 6) "Ada" (at1
    1 9) (at1 1 10) "Text_IO") [] (at1 1 17) ∷ use_context (use_of (at1 1 19) None (selected (at1 1 23) "Ada" (at1 1 26)
    (at1 1 27) "Text_IO") [] (at1 1 34)) ∷ context.With (at1 1 36) (selected (at1 1 41) "Ada" (at1 1 44) (at1 1 45)
    "Integer_Text_IO") [] (at1 1 60) ∷ use_context (use_of (at1 1 62) None (selected (at1 1 66) "Ada" (at1 1 69) (at1 1
    70) "Integer_Text_IO") [] (at1 1 85)) ∷ context.With (at1 1 87) (selected (at1 1 92) "Ada" (at1 1 95) (at1 1 96)
    "Unchecked_Deallocation") [] (at1 1 118) ∷ []) (subprogram_of (at1 2 7) (subspec.Procedure (at1 2 7) (id (at1 2 17)
    "Main") None) None (at1 2 22) (item.IncompleteType (at1 3 4) (id (at1 3 9) "Cell") (at1 3 13) ∷ item.AccessType (at1
    4 7) (id (at1 4 12) "List") (at1 4 17) (at1 4 20) (mark (at1 4 27) "Cell") (at1 4 31) ∷ item.RecordType (at1 5 7)
    (id (at1 5 12) "Cell") (at1 5 17) (at1 5 20) (fields_of (id (at1 5 27) "Value") [] (at1 5 33) (mark (at1 5 35)
    "Integer") (at1 5 42)) (fields_of (id (at1 5 44) "Next") [] (at1 5 49) (mark (at1 5 51) "List") (at1 5 55) ∷ [])
    (at1 5 57) (at1 5 61) (at1 5 67) ∷ objects_of (id (at1 6 4) "X") (next_id_of (at1 6 5) (at1 6 7) "Y" ∷ []) (at1 6 9)
    None (indication_of (mark (at1 6 11) "List")) (at1 6 15) ∷ initialized_of (id (at1 7 1) "N") [] (at1 7 3) None
    (indication_of (mark (at1 7 5) "Integer")) (at1 7 13) (expr_of (at1 7 16) (primary.Number (at1 7 16) 3)) (at1 7 17)
    ∷ []) (at1 8 1) (stmts.Sequence (at1 9 4) (call_of (at1 9 4) "Put_Line" (suffix.Applied (at1 9 13) (actual_of (at1 9
    14) (named (at1 9 14) "Integer" (suffix.Attribute (at1 9 21) (id (at1 9 22) "Image") ∷ suffix.Applied (at1 9 28)
    (actual_of (at1 9 29) (object (at1 9 29) "N")) [] (at1 9 30) ∷ []))) [] (at1 9 31) ∷ []) (at1 9 32)) (stmt.Case (at1
    10 1) (expr_of (at1 10 6) (object (at1 10 6) "N")) (at1 10 8) (alternative.Alternative (at1 10 11) (choice.Value
    (at1 10 16) (expr_of (at1 10 16) (primary.Number (at1 10 16) 1))) [] (at1 10 18) (sole (at1 10 21) (stmt.Null (at1
    10 21) (at1 10 25)))) (alternative.Alternative (at1 10 27) (choice.Others (at1 10 32)) [] (at1 10 39) (sole (at1 10
    42) (assign_of (at1 10 42) "N" [] (at1 10 44) (expr_of (at1 10 47) (primary.Number (at1 10 47) 2)) (at1 10 48))) ∷
    []) (at1 10 50) (at1 10 54) (at1 10 58) ∷ stmt.For (at1 11 1) (id (at1 11 5) "I") (at1 11 7) None (range.Bounds (at1
    11 10) (expr_of (at1 11 10) (primary.Number (at1 11 10) 1)) (at1 11 12) (expr_of (at1 11 15) (primary.Number (at1 11
    15) 3))) (at1 11 17) (sole (at1 11 22) (assign_of (at1 11 22) "N" [] (at1 11 24) (expr.LoneRelation (at1 11 27)
    (rel.LoneSum (at1 11 27) (sum.Unsigned (at1 11 27) (term_of (at1 11 27) (object (at1 11 27) "N"))
    (next_term.FurtherTerm (at1 11 29) adding.Add (term_of (at1 11 31) (object (at1 11 31) "I")) ∷ [])))) (at1 11 32)))
    (at1 11 34) (at1 11 38) (at1 11 42) ∷ [])) (at1 12 7) (Some (id (at1 12 11) "Main")) (at1 12 15)) ∷ []) ∷ [])
unfolding computes resolves
two_n5_5 = refl

two_n5_6 : IsFirstBrokenOf NoBody (at 1 26) ((unit.OfPackage (at 1 1) [] (package_of (at 1 1) (id (at 1 9) "Second_P")
    None (at 1 18) (decl.OfItem (at 1 21) (item.PrivateType (at 1 21) (id (at 1 26) "Second_T") (at 1 35) (at 1 38) (at
    1 45)) ∷ []) None (at 1 47) (Some (id (at 1 51) "Second_P")) (at 1 59)) ∷ unit.OfPackage (at 2 1) (context.With (at
    2 1) (selected (at 2 6) "Ada" (at 2 9) (at 2 10) "Text_IO") [] (at 2 17) ∷ use_context (use_of (at 2 19) None
    (selected (at 2 23) "Ada" (at 2 26) (at 2 27) "Text_IO") [] (at 2 34)) ∷ context.With (at 2 36) (selected (at 2 41)
    "Ada" (at 2 44) (at 2 45) "Integer_Text_IO") [] (at 2 60) ∷ use_context (use_of (at 2 62) None (selected (at 2 66)
    "Ada" (at 2 69) (at 2 70) "Integer_Text_IO") [] (at 2 85)) ∷ context.With (at 2 87) (selected (at 2 92) "Ada" (at 2
    95) (at 2 96) "Unchecked_Deallocation") [] (at 2 118) ∷ []) (package_of (at 2 120) (id (at 2 128) "Usual_P") None
    (at 2 136) (decl.Subprogram (at 3 1) (subspec.Procedure (at 3 1) (id (at 3 11) "Usual_Q") None) None (at 3 18) ∷ [])
    None (at 4 4) (Some (id (at 4 8) "Usual_P")) (at 4 15)) ∷ unit.OfBody (at 5 4) [] (package_body_of (at 5 4) (at 5
    12) (id (at 5 17) "Usual_P") None (at 5 25) (part.Completed (at 6 7) (subprogram_of (at 6 7) (subspec.Procedure (at
    6 7) (id (at 6 17) "Usual_Q") None) None (at 6 25) [] (at 6 28) (sole (at 6 34) (assign_of (at 6 34) "Usual_P"
    (suffix.Selected (at 6 41) (id (at 6 42) "Usual_X") ∷ []) (at 6 50) (expr_of (at 6 53) (primary.Number (at 6 53) 1))
    (at 6 54))) (at 6 56) (Some (id (at 6 60) "Usual_Q")) (at 6 67)) ∷ part.Declared (at 6 69) (decl.OfItem (at 6 69)
    (objects_of (id (at 6 69) "Usual_X") [] (at 6 77) None (indication_of (mark (at 6 79) "Integer")) (at 6 86))) ∷ [])
    (at 7 1) (Some (id (at 7 5) "Usual_P")) (at 7 12)) ∷ unit.OfSubprogram (at 8 4) (context.With (at 8 4) (selected (at
    8 9) "Ada" (at 8 12) (at 8 13) "Text_IO") [] (at 8 20) ∷ use_context (use_of (at 8 22) None (selected (at 8 26)
    "Ada" (at 8 29) (at 8 30) "Text_IO") [] (at 8 37)) ∷ context.With (at 8 39) (selected (at 8 44) "Ada" (at 8 47) (at
    8 48) "Integer_Text_IO") [] (at 8 63) ∷ use_context (use_of (at 8 65) None (selected (at 8 69) "Ada" (at 8 72) (at 8
    73) "Integer_Text_IO") [] (at 8 88)) ∷ context.With (at 8 90) (selected (at 8 95) "Ada" (at 8 98) (at 8 99)
    "Unchecked_Deallocation") [] (at 8 121) ∷ []) (subprogram_of (at 9 1) (subspec.Procedure (at 9 1) (id (at 9 11)
    "Main") None) None (at 9 16) (item.IncompleteType (at 10 1) (id (at 10 6) "Cell") (at 10 10) ∷ item.AccessType (at
    11 1) (id (at 11 6) "List") (at 11 11) (at 11 14) (mark (at 11 21) "Cell") (at 11 25) ∷ item.RecordType (at 12 7)
    (id (at 12 12) "Cell") (at 12 17) (at 12 20) (fields_of (id (at 12 27) "Value") [] (at 12 33) (mark (at 12 35)
    "Integer") (at 12 42)) (fields_of (id (at 12 44) "Next") [] (at 12 49) (mark (at 12 51) "List") (at 12 55) ∷ []) (at
    12 57) (at 12 61) (at 12 67) ∷ objects_of (id (at 13 7) "X") (next_id_of (at 13 8) (at 13 10) "Y" ∷ []) (at 13 12)
    None (indication_of (mark (at 13 14) "List")) (at 13 18) ∷ initialized_of (id (at 14 1) "N") [] (at 14 3) None
    (indication_of (mark (at 14 5) "Integer")) (at 14 13) (expr_of (at 14 16) (primary.Number (at 14 16) 1)) (at 14 17)
    ∷ []) (at 15 1) (stmts.Sequence (at 16 7) (assign_of (at 16 7) "N" [] (at 16 9) (expr.LoneRelation (at 16 12)
    (rel.LoneSum (at 16 12) (sum.Unsigned (at 16 12) (term.Product (at 16 12) (factor_of (at 16 12) (object (at 16 12)
    "N")) (next_factor.FurtherFactor (at 16 14) multiplying.Multiply (factor_of (at 16 16) (primary.Number (at 16 16)
    2)) ∷ [])) (next_term.FurtherTerm (at 16 18) adding.Add (term_of (at 16 20) (primary.Number (at 16 20) 1)) ∷ []))))
    (at 16 21)) (stmt.IfElse (at 17 7) (expr.LoneRelation (at 17 10) (rel.Compared (at 17 10) (sum_of (at 17 10) (object
    (at 17 10) "N")) relational.Greater (at 17 12) (sum_of (at 17 14) (primary.Number (at 17 14) 3)))) (at 17 16) (sole
    (at 17 21) (assign_of (at 17 21) "N" [] (at 17 23) (expr.LoneRelation (at 17 26) (rel.LoneSum (at 17 26)
    (sum.Unsigned (at 17 26) (term_of (at 17 26) (object (at 17 26) "N")) (next_term.FurtherTerm (at 17 28)
    adding.Subtract (term_of (at 17 30) (primary.Number (at 17 30) 1)) ∷ [])))) (at 17 31))) [] (at 17 33) (sole (at 17
    38) (stmt.Null (at 17 38) (at 17 42))) (at 17 44) (at 17 48) (at 17 50) ∷ stmt.For (at 18 7) (id (at 18 11) "I") (at
    18 13) None (range.Bounds (at 18 16) (expr_of (at 18 16) (primary.Number (at 18 16) 1)) (at 18 18) (expr_of (at 18
    21) (primary.Number (at 18 21) 3))) (at 18 23) (sole (at 18 28) (assign_of (at 18 28) "N" [] (at 18 30)
    (expr.LoneRelation (at 18 33) (rel.LoneSum (at 18 33) (sum.Unsigned (at 18 33) (term_of (at 18 33) (object (at 18
    33) "N")) (next_term.FurtherTerm (at 18 35) adding.Add (term_of (at 18 37) (object (at 18 37) "I")) ∷ [])))) (at 18
    38))) (at 18 40) (at 18 44) (at 18 48) ∷ [])) (at 19 1) (Some (id (at 19 5) "Main")) (at 19 9)) ∷ []) ∷ [])
unfolding computes resolves
two_n5_6 = refl

two_n5_7 : IsFirstBrokenOf NoBody (at 1 29) ((unit.OfPackage (at 1 1) [] (package_of (at 1 1) (id (at 1 9) "Spare_P")
    None (at 1 17) (decl.Subprogram (at 1 20) (subspec.Function (at 1 20) (id (at 1 29) "Spare_F") (Some (formals_of (at
    1 37) (moded_of (id (at 1 38) "Spare_X") [] (at 1 46) None None (mark (at 1 48) "Integer")) [] (at 1 55))) (at 1 57)
    (indication_of (mark (at 1 64) "Integer"))) None (at 1 71) ∷ []) None (at 1 73) (Some (id (at 1 77) "Spare_P")) (at
    1 84)) ∷ unit.OfPackage (at 1 86) (context.With (at 1 86) (selected (at 1 91) "Ada" (at 1 94) (at 1 95) "Text_IO")
    [] (at 1 102) ∷ use_context (use_of (at 1 104) None (selected (at 1 108) "Ada" (at 1 111) (at 1 112) "Text_IO") []
    (at 1 119)) ∷ context.With (at 1 121) (selected (at 1 126) "Ada" (at 1 129) (at 1 130) "Integer_Text_IO") [] (at 1
    145) ∷ use_context (use_of (at 1 147) None (selected (at 1 151) "Ada" (at 1 154) (at 1 155) "Integer_Text_IO") []
    (at 1 170)) ∷ context.With (at 1 172) (selected (at 1 177) "Ada" (at 1 180) (at 1 181) "Unchecked_Deallocation") []
    (at 1 203) ∷ []) (package_of (at 1 205) (id (at 1 213) "Usual_P") None (at 1 221) (decl.OfItem (at 1 224) (use_item
    (use_of (at 1 224) None (mark (at 1 228) "Ada") (next_dotted.FurtherDotted (at 1 231) (mark (at 1 233) "Standard") ∷
    []) (at 1 241))) ∷ []) None (at 1 243) (Some (id (at 1 247) "Usual_P")) (at 1 254)) ∷ unit.OfSubprogram (at 2 1)
    (context.With (at 2 1) (selected (at 2 6) "Ada" (at 2 9) (at 2 10) "Text_IO") [] (at 2 17) ∷ use_context (use_of (at
    2 19) None (selected (at 2 23) "Ada" (at 2 26) (at 2 27) "Text_IO") [] (at 2 34)) ∷ context.With (at 2 36) (selected
    (at 2 41) "Ada" (at 2 44) (at 2 45) "Integer_Text_IO") [] (at 2 60) ∷ use_context (use_of (at 2 62) None (selected
    (at 2 66) "Ada" (at 2 69) (at 2 70) "Integer_Text_IO") [] (at 2 85)) ∷ context.With (at 2 87) (selected (at 2 92)
    "Ada" (at 2 95) (at 2 96) "Unchecked_Deallocation") [] (at 2 118) ∷ []) (subprogram_of (at 3 1) (subspec.Procedure
    (at 3 1) (id (at 3 11) "Main") None) None (at 3 16) (item.IncompleteType (at 4 1) (id (at 4 6) "Cell") (at 4 10) ∷
    item.AccessType (at 5 1) (id (at 5 6) "List") (at 5 11) (at 5 14) (mark (at 5 21) "Cell") (at 5 25) ∷
    item.RecordType (at 6 1) (id (at 6 6) "Cell") (at 6 11) (at 6 14) (fields_of (id (at 6 21) "Value") [] (at 6 27)
    (mark (at 6 29) "Integer") (at 6 36)) (fields_of (id (at 6 38) "Next") [] (at 6 43) (mark (at 6 45) "List") (at 6
    49) ∷ []) (at 6 51) (at 6 55) (at 6 61) ∷ objects_of (id (at 7 1) "X") (next_id_of (at 7 2) (at 7 4) "Y" ∷ []) (at 7
    6) None (indication_of (mark (at 7 8) "List")) (at 7 12) ∷ initialized_of (id (at 7 14) "N") [] (at 7 16) None
    (indication_of (mark (at 7 18) "Integer")) (at 7 26) (expr_of (at 7 29) (primary.Number (at 7 29) 5)) (at 7 30) ∷
    item.Instance (at 8 1) (id (at 8 11) "Free") (at 8 16) (at 8 19) (selected (at 8 23) "Ada" (at 8 26) (at 8 27)
    "Unchecked_Deallocation") (at 8 50) (actual_of (at 8 51) (object (at 8 51) "Cell")) (next_arg.FurtherArg (at 8 55)
    (actual_of (at 8 57) (object (at 8 57) "List")) ∷ []) (at 8 61) (at 8 62) ∷ []) (at 9 1) (stmts.Sequence (at 10 1)
    (stmt.Case (at 10 1) (expr_of (at 10 6) (object (at 10 6) "N")) (at 10 8) (alternative.Alternative (at 10 11)
    (choice.Value (at 10 16) (expr_of (at 10 16) (primary.Number (at 10 16) 1))) [] (at 10 18) (sole (at 10 21)
    (stmt.Null (at 10 21) (at 10 25)))) (alternative.Alternative (at 10 27) (choice.Others (at 10 32)) [] (at 10 39)
    (sole (at 10 42) (assign_of (at 10 42) "N" [] (at 10 44) (expr_of (at 10 47) (primary.Number (at 10 47) 2)) (at 10
    48))) ∷ []) (at 10 50) (at 10 54) (at 10 58)) (assign_of (at 10 60) "Y" [] (at 10 62) (expr_of (at 10 65) (object
    (at 10 65) "X")) (at 10 66) ∷ assign_of (at 10 68) "X" [] (at 10 70) (expr_of (at 10 73) (primary.Null (at 10 73)))
    (at 10 77) ∷ stmt.IfElse (at 10 79) (expr.LoneRelation (at 10 82) (rel.Compared (at 10 82) (sum_of (at 10 82)
    (object (at 10 82) "N")) relational.Greater (at 10 84) (sum_of (at 10 86) (primary.Number (at 10 86) 3)))) (at 10
    88) (sole (at 10 93) (assign_of (at 10 93) "N" [] (at 10 95) (expr.LoneRelation (at 10 98) (rel.LoneSum (at 10 98)
    (sum.Unsigned (at 10 98) (term_of (at 10 98) (object (at 10 98) "N")) (next_term.FurtherTerm (at 10 100)
    adding.Subtract (term_of (at 10 102) (primary.Number (at 10 102) 1)) ∷ [])))) (at 10 103))) [] (at 10 105) (sole (at
    10 110) (stmt.Null (at 10 110) (at 10 114))) (at 10 116) (at 10 120) (at 10 122) ∷ [])) (at 11 1) (Some (id (at 11
    5) "Main")) (at 11 9)) ∷ []) ∷ [])
unfolding computes resolves
two_n5_7 = refl

two_n5_8 : IsFirstBrokenOf NoBody (at 8 72) ((unit.OfSubprogram (at 1 1) (context.With (at 1 1) (selected (at 1 6) "Ada"
    (at 1 9) (at 1 10) "Text_IO") [] (at 1 17) ∷ use_context (use_of (at 1 19) None (selected (at 1 23) "Ada" (at 1 26)
    (at 1 27) "Text_IO") [] (at 1 34)) ∷ context.With (at 1 36) (selected (at 1 41) "Ada" (at 1 44) (at 1 45)
    "Integer_Text_IO") [] (at 1 60) ∷ use_context (use_of (at 1 62) None (selected (at 1 66) "Ada" (at 1 69) (at 1 70)
    "Integer_Text_IO") [] (at 1 85)) ∷ context.With (at 1 87) (selected (at 1 92) "Ada" (at 1 95) (at 1 96)
    "Unchecked_Deallocation") [] (at 1 118) ∷ []) (subprogram_of (at 2 7) (subspec.Procedure (at 2 7) (id (at 2 17)
    "Main") None) None (at 2 22) (item.IncompleteType (at 3 7) (id (at 3 12) "Cell") (at 3 16) ∷ item.AccessType (at 4
    1) (id (at 4 6) "List") (at 4 11) (at 4 14) (mark (at 4 21) "Cell") (at 4 25) ∷ item.RecordType (at 5 7) (id (at 5
    12) "Cell") (at 5 17) (at 5 20) (fields_of (id (at 5 27) "Value") [] (at 5 33) (mark (at 5 35) "Integer") (at 5 42))
    (fields_of (id (at 5 44) "Next") [] (at 5 49) (mark (at 5 51) "List") (at 5 55) ∷ []) (at 5 57) (at 5 61) (at 5 67)
    ∷ objects_of (id (at 6 4) "X") (next_id_of (at 6 5) (at 6 7) "Y" ∷ []) (at 6 9) None (indication_of (mark (at 6 11)
    "List")) (at 6 15) ∷ initialized_of (id (at 7 1) "N") [] (at 7 3) None (indication_of (mark (at 7 5) "Integer")) (at
    7 13) (expr_of (at 7 16) (primary.Number (at 7 16) 3)) (at 7 17) ∷ item.Instance (at 8 4) (id (at 8 14) "Free") (at
    8 19) (at 8 22) (selected (at 8 26) "Ada" (at 8 29) (at 8 30) "Unchecked_Deallocation") (at 8 53) (actual_of (at 8
    54) (object (at 8 54) "Cell")) (next_arg.FurtherArg (at 8 58) (actual_of (at 8 60) (object (at 8 60) "List")) ∷ [])
    (at 8 64) (at 8 65) ∷ item.IncompleteType (at 8 67) (id (at 8 72) "Plain_T") (at 8 79) ∷ item.AccessType (at 8 81)
    (id (at 8 86) "Plain_A") (at 8 94) (at 8 97) (mark (at 8 104) "Plain_T") (at 8 111) ∷ objects_of (id (at 8 113)
    "Plain_X") [] (at 8 121) None (indication_of (mark (at 8 123) "Integer")) (at 8 130) ∷ []) (at 9 4) (stmts.Sequence
    (at 9 10) (stmt.DeclareBlock (at 9 10) (item.EnumerationType (at 9 18) (id (at 9 23) "Plain_T") (at 9 31) (at 9 34)
    (id (at 9 35) "Plain_U") (next_id_of (at 9 42) (at 9 44) "Plain_V" ∷ []) (at 9 51) (at 9 52) ∷ item.EnumerationType
    (at 9 54) (id (at 9 59) "Usual_T") (at 9 67) (at 9 70) (id (at 9 71) "Usual_A") (next_id_of (at 9 78) (at 9 80)
    "Usual_B" ∷ []) (at 9 87) (at 9 88) ∷ []) (at 9 90) (stmts.Sequence (at 9 96) (stmt.DeclareBlock (at 9 96)
    (objects_of (id (at 9 104) "Usual_X") [] (at 9 112) None (indication_of (mark (at 9 114) "Usual_A")) (at 9 121) ∷
    []) (at 9 123) (sole (at 9 129) (stmt.Null (at 9 129) (at 9 133))) (at 9 135) (at 9 138)) (assign_of (at 9 140)
    "Plain_X" [] (at 9 148) (expr_of (at 9 151) (primary.Number (at 9 151) 1)) (at 9 152) ∷ [])) (at 9 154) (at 9 157))
    (stmt.IfElse (at 10 7) (expr.LoneRelation (at 10 10) (rel.Compared (at 10 10) (sum_of (at 10 10) (object (at 10 10)
    "N")) relational.Greater (at 10 12) (sum_of (at 10 14) (primary.Number (at 10 14) 3)))) (at 10 16) (sole (at 10 21)
    (assign_of (at 10 21) "N" [] (at 10 23) (expr.LoneRelation (at 10 26) (rel.LoneSum (at 10 26) (sum.Unsigned (at 10
    26) (term_of (at 10 26) (object (at 10 26) "N")) (next_term.FurtherTerm (at 10 28) adding.Subtract (term_of (at 10
    30) (primary.Number (at 10 30) 1)) ∷ [])))) (at 10 31))) [] (at 10 33) (sole (at 10 38) (stmt.Null (at 10 38) (at 10
    42))) (at 10 44) (at 10 48) (at 10 50) ∷ assign_of (at 11 4) "X" [] (at 11 6) (expr_of (at 11 9)
    (primary.AllocatedAggregate (at 11 9) (mark (at 11 13) "Cell") (at 11 17) (aggregate.Several (at 11 18) (actual_of
    (at 11 19) (object (at 11 19) "N")) (at 11 20) (actual_of (at 11 22) (primary.Null (at 11 22))) [] (at 11 26)))) (at
    11 27) ∷ call_of (at 12 4) "Put_Line" (suffix.Applied (at 12 13) (actual_of (at 12 14) (named (at 12 14) "Integer"
    (suffix.Attribute (at 12 21) (id (at 12 22) "Image") ∷ suffix.Applied (at 12 28) (actual_of (at 12 29) (object (at
    12 29) "N")) [] (at 12 30) ∷ []))) [] (at 12 31) ∷ []) (at 12 32) ∷ stmt.For (at 13 7) (id (at 13 11) "I") (at 13
    13) None (range.Bounds (at 13 16) (expr_of (at 13 16) (primary.Number (at 13 16) 1)) (at 13 18) (expr_of (at 13 21)
    (primary.Number (at 13 21) 3))) (at 13 23) (sole (at 13 28) (assign_of (at 13 28) "N" [] (at 13 30)
    (expr.LoneRelation (at 13 33) (rel.LoneSum (at 13 33) (sum.Unsigned (at 13 33) (term_of (at 13 33) (object (at 13
    33) "N")) (next_term.FurtherTerm (at 13 35) adding.Add (term_of (at 13 37) (object (at 13 37) "I")) ∷ [])))) (at 13
    38))) (at 13 40) (at 13 44) (at 13 48) ∷ stmt.If (at 14 1) (expr.LoneRelation (at 14 4) (rel.LoneSum (at 14 4)
    (sum.Unsigned (at 14 4) (term.Product (at 14 4) (factor.Not (at 14 4) (object (at 14 8) "End_Of_File")) []) [])))
    (at 14 20) (sole (at 14 25) (call_of (at 14 25) "Get" (suffix.Applied (at 14 29) (actual_of (at 14 30) (object (at
    14 30) "N")) [] (at 14 31) ∷ []) (at 14 32))) [] (at 14 34) (at 14 38) (at 14 40) ∷ [])) (at 15 4) (Some (id (at 15
    8) "Main")) (at 15 12)) ∷ []) ∷ [])
unfolding computes resolves
two_n5_8 = refl

two_n6_1 : IsFirstBrokenOf WrongEnd (at 1 49) ((unit.OfPackage (at 1 7) [] (package_of (at 1 7) (id (at 1 15) "Inner_P")
    None (at 1 23) (decl.OfItem (at 1 26) (objects_of (id (at 1 26) "Inner_X") [] (at 1 34) None (indication_of (mark
    (at 1 36) "Integer")) (at 1 43)) ∷ []) None (at 1 45) (Some (id (at 1 49) "Inner_Q")) (at 1 56)) ∷ unit.OfSubprogram
    (at 2 7) (context.With (at 2 7) (selected (at 2 12) "Ada" (at 2 15) (at 2 16) "Text_IO") [] (at 2 23) ∷ use_context
    (use_of (at 2 25) None (selected (at 2 29) "Ada" (at 2 32) (at 2 33) "Text_IO") [] (at 2 40)) ∷ context.With (at 2
    42) (selected (at 2 47) "Ada" (at 2 50) (at 2 51) "Integer_Text_IO") [] (at 2 66) ∷ use_context (use_of (at 2 68)
    None (selected (at 2 72) "Ada" (at 2 75) (at 2 76) "Integer_Text_IO") [] (at 2 91)) ∷ context.With (at 2 93)
    (selected (at 2 98) "Ada" (at 2 101) (at 2 102) "Unchecked_Deallocation") [] (at 2 124) ∷ []) (subprogram_of (at 3
    4) (subspec.Procedure (at 3 4) (id (at 3 14) "Main") None) None (at 3 19) (item.IncompleteType (at 4 1) (id (at 4 6)
    "Cell") (at 4 10) ∷ item.AccessType (at 5 1) (id (at 5 6) "List") (at 5 11) (at 5 14) (mark (at 5 21) "Cell") (at 5
    25) ∷ item.RecordType (at 6 1) (id (at 6 6) "Cell") (at 6 11) (at 6 14) (fields_of (id (at 6 21) "Value") [] (at 6
    27) (mark (at 6 29) "Integer") (at 6 36)) (fields_of (id (at 6 38) "Next") [] (at 6 43) (mark (at 6 45) "List") (at
    6 49) ∷ []) (at 6 51) (at 6 55) (at 6 61) ∷ objects_of (id (at 7 4) "X") (next_id_of (at 7 5) (at 7 7) "Y" ∷ []) (at
    7 9) None (indication_of (mark (at 7 11) "List")) (at 7 15) ∷ initialized_of (id (at 8 1) "N") [] (at 8 3) None
    (indication_of (mark (at 8 5) "Integer")) (at 8 13) (expr_of (at 8 16) (primary.Number (at 8 16) 4)) (at 8 17) ∷ [])
    (at 9 7) (stmts.Sequence (at 10 4) (stmt.IfElse (at 10 4) (expr.LoneRelation (at 10 7) (rel.Compared (at 10 7)
    (sum_of (at 10 7) (object (at 10 7) "N")) relational.Greater (at 10 9) (sum_of (at 10 11) (primary.Number (at 10 11)
    3)))) (at 10 13) (sole (at 10 18) (assign_of (at 10 18) "N" [] (at 10 20) (expr.LoneRelation (at 10 23) (rel.LoneSum
    (at 10 23) (sum.Unsigned (at 10 23) (term_of (at 10 23) (object (at 10 23) "N")) (next_term.FurtherTerm (at 10 25)
    adding.Subtract (term_of (at 10 27) (primary.Number (at 10 27) 1)) ∷ [])))) (at 10 28))) [] (at 10 30) (sole (at 10
    35) (stmt.Null (at 10 35) (at 10 39))) (at 10 41) (at 10 45) (at 10 47)) (assign_of (at 11 1) "Y" [] (at 11 3)
    (expr_of (at 11 6) (object (at 11 6) "X")) (at 11 7) ∷ assign_of (at 11 9) "X" [] (at 11 11) (expr_of (at 11 14)
    (primary.Null (at 11 14))) (at 11 18) ∷ stmt.If (at 12 4) (expr.LoneRelation (at 12 7) (rel.LoneSum (at 12 7)
    (sum.Unsigned (at 12 7) (term.Product (at 12 7) (factor.Not (at 12 7) (object (at 12 11) "End_Of_File")) []) [])))
    (at 12 23) (sole (at 12 28) (call_of (at 12 28) "Get" (suffix.Applied (at 12 32) (actual_of (at 12 33) (object (at
    12 33) "N")) [] (at 12 34) ∷ []) (at 12 35))) [] (at 12 37) (at 12 41) (at 12 43) ∷ assign_of (at 13 7) "X" [] (at
    13 9) (expr_of (at 13 12) (primary.AllocatedAggregate (at 13 12) (mark (at 13 16) "Cell") (at 13 20)
    (aggregate.Several (at 13 21) (actual_of (at 13 22) (object (at 13 22) "N")) (at 13 23) (actual_of (at 13 25)
    (primary.Null (at 13 25))) [] (at 13 29)))) (at 13 30) ∷ stmt.While (at 14 4) (expr.LoneRelation (at 14 10)
    (rel.Compared (at 14 10) (sum_of (at 14 10) (object (at 14 10) "N")) relational.Greater (at 14 12) (sum_of (at 14
    14) (primary.Number (at 14 14) 5)))) (at 14 16) (sole (at 14 21) (assign_of (at 14 21) "N" [] (at 14 23)
    (expr.LoneRelation (at 14 26) (rel.LoneSum (at 14 26) (sum.Unsigned (at 14 26) (term.Product (at 14 26) (factor_of
    (at 14 26) (object (at 14 26) "N")) (next_factor.FurtherFactor (at 14 28) multiplying.Divide (factor_of (at 14 30)
    (primary.Number (at 14 30) 2)) ∷ [])) []))) (at 14 31))) (at 14 33) (at 14 37) (at 14 41) ∷ [])) (at 15 7) (Some (id
    (at 15 11) "Main")) (at 15 15)) ∷ unit.OfPackage (at 16 1) [] (package_of (at 16 1) (id (at 16 9) "Minor_P") None
    (at 16 17) (decl.OfItem (at 16 20) (objects_of (id (at 16 20) "Minor_Y") [] (at 16 28) None (indication_of (mark (at
    16 30) "Integer")) (at 16 37)) ∷ []) (Some (private_part (at 16 39) (decl.OfItem (at 16 47) (objects_of (id (at 16
    47) "Minor_X") [] (at 16 55) None (indication_of (mark (at 16 57) "Integer")) (at 16 64)) ∷ []))) (at 16 66) (Some
    (id (at 16 70) "Minor_P")) (at 16 77)) ∷ unit.OfPackage (at 17 4) (context.With (at 17 4) (mark (at 17 9) "Minor_P")
    [] (at 17 16) ∷ use_context (use_of (at 17 18) None (mark (at 17 22) "Minor_P") [] (at 17 29)) ∷ []) (package_of (at
    17 31) (id (at 17 39) "Minor_R") None (at 17 47) (decl.OfItem (at 17 50) (initialized_of (id (at 17 50) "Minor_Z")
    [] (at 17 58) None (indication_of (mark (at 17 60) "Integer")) (at 17 68) (expr_of (at 17 71) (object (at 17 71)
    "Minor_X")) (at 17 78)) ∷ []) None (at 17 80) (Some (id (at 17 84) "Minor_R")) (at 17 91)) ∷ []) ∷ [])
unfolding computes resolves
two_n6_1 = refl

two_n6_2 : IsFirstBrokenOf WrongEnd (at 19 38) ((unit.OfSubprogram (at 1 4) (context.With (at 1 4) (selected (at 1 9)
    "Ada" (at 1 12) (at 1 13) "Text_IO") [] (at 1 20) ∷ use_context (use_of (at 1 22) None (selected (at 1 26) "Ada" (at
    1 29) (at 1 30) "Text_IO") [] (at 1 37)) ∷ context.With (at 1 39) (selected (at 1 44) "Ada" (at 1 47) (at 1 48)
    "Integer_Text_IO") [] (at 1 63) ∷ use_context (use_of (at 1 65) None (selected (at 1 69) "Ada" (at 1 72) (at 1 73)
    "Integer_Text_IO") [] (at 1 88)) ∷ context.With (at 1 90) (selected (at 1 95) "Ada" (at 1 98) (at 1 99)
    "Unchecked_Deallocation") [] (at 1 121) ∷ []) (subprogram_of (at 2 1) (subspec.Procedure (at 2 1) (id (at 2 11)
    "Main") None) None (at 2 16) (item.IncompleteType (at 3 1) (id (at 3 6) "Cell") (at 3 10) ∷ item.AccessType (at 4 4)
    (id (at 4 9) "List") (at 4 14) (at 4 17) (mark (at 4 24) "Cell") (at 4 28) ∷ item.RecordType (at 5 7) (id (at 5 12)
    "Cell") (at 5 17) (at 5 20) (fields_of (id (at 5 27) "Value") [] (at 5 33) (mark (at 5 35) "Integer") (at 5 42))
    (fields_of (id (at 5 44) "Next") [] (at 5 49) (mark (at 5 51) "List") (at 5 55) ∷ []) (at 5 57) (at 5 61) (at 5 67)
    ∷ objects_of (id (at 6 1) "X") (next_id_of (at 6 2) (at 6 4) "Y" ∷ []) (at 6 6) None (indication_of (mark (at 6 8)
    "List")) (at 6 12) ∷ initialized_of (id (at 7 7) "N") [] (at 7 9) None (indication_of (mark (at 7 11) "Integer"))
    (at 7 19) (expr_of (at 7 22) (primary.Number (at 7 22) 3)) (at 7 23) ∷ item.ArrayType (at 7 25) (id (at 7 30)
    "Usual_A") (at 7 38) (at 7 41) (at 7 47) (range.Bounds (at 7 48) (expr_of (at 7 48) (primary.Number (at 7 48) 1))
    (at 7 50) (expr_of (at 7 53) (primary.Number (at 7 53) 2))) (at 7 54) (at 7 56) (mark (at 7 59) "Integer") (at 7 66)
    ∷ numbers_of (id (at 7 68) "Usual_N") [] (at 7 76) (at 7 78) (at 7 87) (expr_of (at 7 90) (named (at 7 90) "Usual_A"
    (suffix.Attribute (at 7 97) (id (at 7 98) "Length") ∷ []))) (at 7 104) ∷ []) (at 8 7) (stmts.Sequence (at 9 1)
    (stmt.For (at 9 1) (id (at 9 5) "I") (at 9 7) None (range.Bounds (at 9 10) (expr_of (at 9 10) (primary.Number (at 9
    10) 1)) (at 9 12) (expr_of (at 9 15) (primary.Number (at 9 15) 3))) (at 9 17) (sole (at 9 22) (assign_of (at 9 22)
    "N" [] (at 9 24) (expr.LoneRelation (at 9 27) (rel.LoneSum (at 9 27) (sum.Unsigned (at 9 27) (term_of (at 9 27)
    (object (at 9 27) "N")) (next_term.FurtherTerm (at 9 29) adding.Add (term_of (at 9 31) (object (at 9 31) "I")) ∷
    [])))) (at 9 32))) (at 9 34) (at 9 38) (at 9 42)) (stmt.While (at 10 1) (expr.LoneRelation (at 10 7) (rel.Compared
    (at 10 7) (sum_of (at 10 7) (object (at 10 7) "N")) relational.Greater (at 10 9) (sum_of (at 10 11) (primary.Number
    (at 10 11) 5)))) (at 10 13) (sole (at 10 18) (assign_of (at 10 18) "N" [] (at 10 20) (expr.LoneRelation (at 10 23)
    (rel.LoneSum (at 10 23) (sum.Unsigned (at 10 23) (term.Product (at 10 23) (factor_of (at 10 23) (object (at 10 23)
    "N")) (next_factor.FurtherFactor (at 10 25) multiplying.Divide (factor_of (at 10 27) (primary.Number (at 10 27) 2))
    ∷ [])) []))) (at 10 28))) (at 10 30) (at 10 34) (at 10 38) ∷ call_of (at 11 1) "Put_Line" (suffix.Applied (at 11 10)
    (actual_of (at 11 11) (named (at 11 11) "Integer" (suffix.Attribute (at 11 18) (id (at 11 19) "Image") ∷
    suffix.Applied (at 11 25) (actual_of (at 11 26) (object (at 11 26) "N")) [] (at 11 27) ∷ []))) [] (at 11 28) ∷ [])
    (at 11 29) ∷ assign_of (at 12 7) "X" [] (at 12 9) (expr_of (at 12 12) (primary.AllocatedAggregate (at 12 12) (mark
    (at 12 16) "Cell") (at 12 20) (aggregate.Several (at 12 21) (actual_of (at 12 22) (object (at 12 22) "N")) (at 12
    23) (actual_of (at 12 25) (primary.Null (at 12 25))) [] (at 12 29)))) (at 12 30) ∷ assign_of (at 13 4) "Y" [] (at 13
    6) (expr_of (at 13 9) (object (at 13 9) "X")) (at 13 10) ∷ assign_of (at 13 12) "X" [] (at 13 14) (expr_of (at 13
    17) (primary.Null (at 13 17))) (at 13 21) ∷ [])) (at 14 7) (Some (id (at 14 11) "Main")) (at 14 15)) ∷
    unit.OfPackage (at 15 4) (context.With (at 15 4) (selected (at 15 9) "Ada" (at 15 12) (at 15 13) "Text_IO") [] (at
    15 20) ∷ use_context (use_of (at 15 22) None (selected (at 15 26) "Ada" (at 15 29) (at 15 30) "Text_IO") [] (at 15
    37)) ∷ context.With (at 15 39) (selected (at 15 44) "Ada" (at 15 47) (at 15 48) "Integer_Text_IO") [] (at 15 63) ∷
    use_context (use_of (at 15 65) None (selected (at 15 69) "Ada" (at 15 72) (at 15 73) "Integer_Text_IO") [] (at 15
    88)) ∷ context.With (at 15 90) (selected (at 15 95) "Ada" (at 15 98) (at 15 99) "Unchecked_Deallocation") [] (at 15
    121) ∷ []) (package_of (at 15 123) (id (at 15 131) "Quick_P") None (at 15 139) (decl.Subprogram (at 16 1)
    (subspec.Procedure (at 16 1) (id (at 16 11) "Quick_Q") None) None (at 16 18) ∷ []) None (at 17 7) (Some (id (at 17
    11) "Quick_P")) (at 17 18)) ∷ unit.OfBody (at 18 7) [] (package_body_of (at 18 7) (at 18 15) (id (at 18 20)
    "Quick_P") None (at 18 28) (part.Completed (at 19 1) (subprogram_of (at 19 1) (subspec.Procedure (at 19 1) (id (at
    19 11) "Quick_Q") None) None (at 19 19) [] (at 19 22) (sole (at 19 28) (stmt.Null (at 19 28) (at 19 32))) (at 19 34)
    (Some (id (at 19 38) "Quick_R")) (at 19 45)) ∷ []) (at 20 1) (Some (id (at 20 5) "Quick_P")) (at 20 12)) ∷ []) ∷ [])
unfolding computes resolves
two_n6_2 = refl
