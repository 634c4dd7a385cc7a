-- Two rules are broken, and N1 is first: by its position, or there by its code.
--
-- tools/tree_terms.py makes this of the sources that data/cases.txt has under its name.
use Rattle.std.proofs.Common.{refl, [], ◌∷◌}
use Rattle.std.specs.Prelude.{None, Some}
use Rattle.ada_tree.specs.declared.operator.AddingOperator.TheVariants as adding
use Rattle.ada_tree.specs.declared.expression.Aggregate.TheVariants as aggregate
use Rattle.ada_tree.specs.declared.statement.When.TheVariants as alternative
use Rattle.ada_tree.specs.declared.range.Choice.TheVariants as choice
use Rattle.ada_tree.specs.declared.unit.Context.TheVariants as context
use Rattle.ada_tree.specs.declared.subprogram.Decl.TheVariants as decl
use Rattle.ada_tree.specs.declared.expression.Expr.TheVariants as expr
use Rattle.ada_tree.specs.declared.expression.Factor.TheVariants as factor
use Rattle.ada_tree.specs.declared.declaration.Indication.TheVariants as indication
use Rattle.ada_tree.specs.declared.declaration.Item.TheVariants as item
use Rattle.ada_tree.specs.declared.operator.MultiplyingOperator.TheVariants as multiplying
use Rattle.ada_tree.specs.declared.expression.NextArg.TheVariants as next_arg
use Rattle.ada_tree.specs.declared.range.NextChoice.TheVariants as next_choice
use Rattle.ada_tree.specs.declared.identifier.NextDotted.TheVariants as next_dotted
use Rattle.ada_tree.specs.declared.expression.NextFactor.TheVariants as next_factor
use Rattle.ada_tree.specs.declared.identifier.NextPart.TheVariants as next_part
use Rattle.ada_tree.specs.declared.expression.NextTerm.TheVariants as next_term
use Rattle.ada_tree.specs.declared.unit.BodyPart.TheVariants as part
use Rattle.ada_tree.specs.declared.expression.Primary.TheVariants as primary
use Rattle.ada_tree.specs.declared.range.Range.TheVariants as range
use Rattle.ada_tree.specs.declared.expression.Rel.TheVariants as rel
use Rattle.ada_tree.specs.declared.operator.RelationalOperator.TheVariants as relational
use Rattle.ada_tree.specs.declared.statement.Stmt.TheVariants as stmt
use Rattle.ada_tree.specs.declared.statement.Stmts.TheVariants as stmts
use Rattle.ada_tree.specs.declared.subprogram.Subspec.TheVariants as subspec
use Rattle.ada_tree.specs.declared.expression.Suffix.TheVariants as suffix
use Rattle.ada_tree.specs.declared.expression.Sum.TheVariants as sum
use Rattle.ada_tree.specs.declared.expression.Term.TheVariants as term
use Rattle.ada_tree.specs.declared.unit.SourceUnit.TheVariants as unit
use Rattle.ada_grammar.proofs.SmallSources.{computes}
use Rattle.name_events.specs.declared.declaration.NameRule.TheVariants.{Unknown}
use Rattle.name_tests.proofs.SmallRules.{resolves}
use Rattle.name_tests.proofs.SourceTrees.{IsFirstBrokenOf, actual_of, assign_of, association_of, at, at1, at2, at3, call_of, dotted_of, expr_of, factor_of, fields_of, formals_of, id, indication_of, initialized_of, mark, marked_of, moded_of, named, next_id_of, object, objects_of, package_body_of, package_of, selected, sole, subprogram_of, sum_of, term_of, use_context, use_item, use_of}

two_n1_1 : IsFirstBrokenOf Unknown (at 5 73) ((unit.OfSubprogram (at 1 4) (context.With (at 1 4) (selected (at 1 9)
    "Ada" (at 1 12) (at 1 13) "Text_IO") [] (at 1 20) ∷ use_context (use_of (at 1 22) None (selected (at 1 26) "Ada" (at
    1 29) (at 1 30) "Text_IO") [] (at 1 37)) ∷ context.With (at 1 39) (selected (at 1 44) "Ada" (at 1 47) (at 1 48)
    "Integer_Text_IO") [] (at 1 63) ∷ use_context (use_of (at 1 65) None (selected (at 1 69) "Ada" (at 1 72) (at 1 73)
    "Integer_Text_IO") [] (at 1 88)) ∷ context.With (at 1 90) (selected (at 1 95) "Ada" (at 1 98) (at 1 99)
    "Unchecked_Deallocation") [] (at 1 121) ∷ []) (subprogram_of (at 2 1) (subspec.Procedure (at 2 1) (id (at 2 11)
    "Main") None) None (at 2 16) (item.IncompleteType (at 3 1) (id (at 3 6) "Cell") (at 3 10) ∷ item.AccessType (at 4 1)
    (id (at 4 6) "List") (at 4 11) (at 4 14) (mark (at 4 21) "Cell") (at 4 25) ∷ item.RecordType (at 5 7) (id (at 5 12)
    "Cell") (at 5 17) (at 5 20) (fields_of (id (at 5 27) "Value") [] (at 5 33) (mark (at 5 35) "Integer") (at 5 42))
    (fields_of (id (at 5 44) "Next") [] (at 5 49) (mark (at 5 51) "List") (at 5 55) ∷ []) (at 5 57) (at 5 61) (at 5 67)
    ∷ use_item (use_of (at 5 69) None (mark (at 5 73) "Integer") [] (at 5 80)) ∷ objects_of (id (at 6 1) "X")
    (next_id_of (at 6 2) (at 6 4) "Y" ∷ []) (at 6 6) None (indication_of (mark (at 6 8) "List")) (at 6 12) ∷ use_item
    (use_of (at 6 14) (Some (at 6 18)) (dotted_of (id (at 6 23) "Ada") (next_part.FurtherPart (at 6 26) (id (at 6 27)
    "Text_IO") ∷ next_part.FurtherPart (at 6 34) (id (at 6 35) "Spare_What") ∷ [])) [] (at 6 45)) ∷ initialized_of (id
    (at 7 1) "N") [] (at 7 3) None (indication_of (mark (at 7 5) "Integer")) (at 7 13) (expr_of (at 7 16)
    (primary.Number (at 7 16) 3)) (at 7 17) ∷ []) (at 8 1) (stmts.Sequence (at 9 4) (stmt.IfElse (at 9 4)
    (expr.LoneRelation (at 9 7) (rel.Compared (at 9 7) (sum_of (at 9 7) (object (at 9 7) "N")) relational.Greater (at 9
    9) (sum_of (at 9 11) (primary.Number (at 9 11) 3)))) (at 9 13) (sole (at 9 18) (assign_of (at 9 18) "N" [] (at 9 20)
    (expr.LoneRelation (at 9 23) (rel.LoneSum (at 9 23) (sum.Unsigned (at 9 23) (term_of (at 9 23) (object (at 9 23)
    "N")) (next_term.FurtherTerm (at 9 25) adding.Subtract (term_of (at 9 27) (primary.Number (at 9 27) 1)) ∷ [])))) (at
    9 28))) [] (at 9 30) (sole (at 9 35) (stmt.Null (at 9 35) (at 9 39))) (at 9 41) (at 9 45) (at 9 47)) (stmt.While (at
    10 1) (expr.LoneRelation (at 10 7) (rel.Compared (at 10 7) (sum_of (at 10 7) (object (at 10 7) "N"))
    relational.Greater (at 10 9) (sum_of (at 10 11) (primary.Number (at 10 11) 5)))) (at 10 13) (sole (at 10 18)
    (assign_of (at 10 18) "N" [] (at 10 20) (expr.LoneRelation (at 10 23) (rel.LoneSum (at 10 23) (sum.Unsigned (at 10
    23) (term.Product (at 10 23) (factor_of (at 10 23) (object (at 10 23) "N")) (next_factor.FurtherFactor (at 10 25)
    multiplying.Divide (factor_of (at 10 27) (primary.Number (at 10 27) 2)) ∷ [])) []))) (at 10 28))) (at 10 30) (at 10
    34) (at 10 38) ∷ [])) (at 11 4) (Some (id (at 11 8) "Main")) (at 11 12)) ∷ []) ∷ [])
unfolding computes resolves
two_n1_1 = refl

two_n1_2 : IsFirstBrokenOf Unknown (at 5 92) ((unit.OfSubprogram (at 1 1) (context.With (at 1 1) (selected (at 1 6)
    "Ada" (at 1 9) (at 1 10) "Text_IO") [] (at 1 17) ∷ use_context (use_of (at 1 19) None (selected (at 1 23) "Ada" (at
    1 26) (at 1 27) "Text_IO") [] (at 1 34)) ∷ context.With (at 1 36) (selected (at 1 41) "Ada" (at 1 44) (at 1 45)
    "Integer_Text_IO") [] (at 1 60) ∷ use_context (use_of (at 1 62) None (selected (at 1 66) "Ada" (at 1 69) (at 1 70)
    "Integer_Text_IO") [] (at 1 85)) ∷ context.With (at 1 87) (selected (at 1 92) "Ada" (at 1 95) (at 1 96)
    "Unchecked_Deallocation") [] (at 1 118) ∷ []) (subprogram_of (at 2 7) (subspec.Procedure (at 2 7) (id (at 2 17)
    "Main") None) None (at 2 22) (item.IncompleteType (at 3 1) (id (at 3 6) "Cell") (at 3 10) ∷ item.AccessType (at 4 1)
    (id (at 4 6) "List") (at 4 11) (at 4 14) (mark (at 4 21) "Cell") (at 4 25) ∷ item.RecordType (at 5 1) (id (at 5 6)
    "Cell") (at 5 11) (at 5 14) (fields_of (id (at 5 21) "Value") [] (at 5 27) (mark (at 5 29) "Integer") (at 5 36))
    (fields_of (id (at 5 38) "Next") [] (at 5 43) (mark (at 5 45) "List") (at 5 49) ∷ []) (at 5 51) (at 5 55) (at 5 61)
    ∷ objects_of (id (at 5 63) "Latest_X") [] (at 5 72) None (indication_of (mark (at 5 74) "Integer")) (at 5 81) ∷
    use_item (use_of (at 5 83) (Some (at 5 87)) (mark (at 5 92) "Latest_X") [] (at 5 100)) ∷ objects_of (id (at 6 1)
    "X") (next_id_of (at 6 2) (at 6 4) "Y" ∷ []) (at 6 6) None (indication_of (mark (at 6 8) "List")) (at 6 12) ∷
    initialized_of (id (at 7 7) "N") [] (at 7 9) None (indication_of (mark (at 7 11) "Integer")) (at 7 19) (expr_of (at
    7 22) (primary.Number (at 7 22) 6)) (at 7 23) ∷ []) (at 8 4) (stmts.Sequence (at 8 10) (stmt.For (at 8 10) (id (at 8
    14) "Minor_I") (at 8 22) None (marked_of (mark (at 8 25) "Minor_I")) (at 8 33) (sole (at 8 38) (stmt.Null (at 8 38)
    (at 8 42))) (at 8 44) (at 8 48) (at 8 52)) (stmt.For (at 9 1) (id (at 9 5) "I") (at 9 7) None (range.Bounds (at 9
    10) (expr_of (at 9 10) (primary.Number (at 9 10) 1)) (at 9 12) (expr_of (at 9 15) (primary.Number (at 9 15) 3))) (at
    9 17) (sole (at 9 22) (assign_of (at 9 22) "N" [] (at 9 24) (expr.LoneRelation (at 9 27) (rel.LoneSum (at 9 27)
    (sum.Unsigned (at 9 27) (term_of (at 9 27) (object (at 9 27) "N")) (next_term.FurtherTerm (at 9 29) adding.Add
    (term_of (at 9 31) (object (at 9 31) "I")) ∷ [])))) (at 9 32))) (at 9 34) (at 9 38) (at 9 42) ∷ call_of (at 10 1)
    "Put_Line" (suffix.Applied (at 10 10) (actual_of (at 10 11) (named (at 10 11) "Integer" (suffix.Attribute (at 10 18)
    (id (at 10 19) "Image") ∷ suffix.Applied (at 10 25) (actual_of (at 10 26) (object (at 10 26) "N")) [] (at 10 27) ∷
    []))) [] (at 10 28) ∷ []) (at 10 29) ∷ [])) (at 11 1) (Some (id (at 11 5) "Main")) (at 11 9)) ∷ []) ∷ [])
unfolding computes resolves
two_n1_2 = refl

two_n1_3 : IsFirstBrokenOf Unknown (at 4 31) ((unit.OfSubprogram (at 1 1) (context.With (at 1 1) (selected (at 1 6)
    "Ada" (at 1 9) (at 1 10) "Text_IO") [] (at 1 17) ∷ use_context (use_of (at 1 19) None (selected (at 1 23) "Ada" (at
    1 26) (at 1 27) "Text_IO") [] (at 1 34)) ∷ context.With (at 1 36) (selected (at 1 41) "Ada" (at 1 44) (at 1 45)
    "Integer_Text_IO") [] (at 1 60) ∷ use_context (use_of (at 1 62) None (selected (at 1 66) "Ada" (at 1 69) (at 1 70)
    "Integer_Text_IO") [] (at 1 85)) ∷ context.With (at 1 87) (selected (at 1 92) "Ada" (at 1 95) (at 1 96)
    "Unchecked_Deallocation") [] (at 1 118) ∷ []) (subprogram_of (at 2 1) (subspec.Procedure (at 2 1) (id (at 2 11)
    "Main") None) None (at 2 16) (item.IncompleteType (at 3 1) (id (at 3 6) "Cell") (at 3 10) ∷ item.AccessType (at 4 1)
    (id (at 4 6) "List") (at 4 11) (at 4 14) (mark (at 4 21) "Cell") (at 4 25) ∷ use_item (use_of (at 4 27) None
    (dotted_of (id (at 4 31) "Ada") (next_part.FurtherPart (at 4 34) (id (at 4 35) "Text_IO") ∷ next_part.FurtherPart
    (at 4 42) (id (at 4 43) "Put") ∷ [])) [] (at 4 46)) ∷ item.AccessType (at 4 48) (id (at 4 53) "Minor_P") (at 4 61)
    (at 4 64) (mark (at 4 71) "Minor_T") (at 4 78) ∷ item.RecordType (at 5 1) (id (at 5 6) "Cell") (at 5 11) (at 5 14)
    (fields_of (id (at 5 21) "Value") [] (at 5 27) (mark (at 5 29) "Integer") (at 5 36)) (fields_of (id (at 5 38)
    "Next") [] (at 5 43) (mark (at 5 45) "List") (at 5 49) ∷ []) (at 5 51) (at 5 55) (at 5 61) ∷ objects_of (id (at 6 1)
    "X") (next_id_of (at 6 2) (at 6 4) "Y" ∷ []) (at 6 6) None (indication_of (mark (at 6 8) "List")) (at 6 12) ∷
    initialized_of (id (at 7 1) "N") [] (at 7 3) None (indication_of (mark (at 7 5) "Integer")) (at 7 13) (expr_of (at 7
    16) (primary.Number (at 7 16) 5)) (at 7 17) ∷ []) (at 8 1) (stmts.Sequence (at 9 1) (stmt.While (at 9 1)
    (expr.LoneRelation (at 9 7) (rel.Compared (at 9 7) (sum_of (at 9 7) (object (at 9 7) "N")) relational.Greater (at 9
    9) (sum_of (at 9 11) (primary.Number (at 9 11) 5)))) (at 9 13) (sole (at 9 18) (assign_of (at 9 18) "N" [] (at 9 20)
    (expr.LoneRelation (at 9 23) (rel.LoneSum (at 9 23) (sum.Unsigned (at 9 23) (term.Product (at 9 23) (factor_of (at 9
    23) (object (at 9 23) "N")) (next_factor.FurtherFactor (at 9 25) multiplying.Divide (factor_of (at 9 27)
    (primary.Number (at 9 27) 2)) ∷ [])) []))) (at 9 28))) (at 9 30) (at 9 34) (at 9 38)) (stmt.Case (at 10 1) (expr_of
    (at 10 6) (object (at 10 6) "N")) (at 10 8) (alternative.Alternative (at 10 11) (choice.Value (at 10 16) (expr_of
    (at 10 16) (primary.Number (at 10 16) 1))) [] (at 10 18) (sole (at 10 21) (stmt.Null (at 10 21) (at 10 25))))
    (alternative.Alternative (at 10 27) (choice.Others (at 10 32)) [] (at 10 39) (sole (at 10 42) (assign_of (at 10 42)
    "N" [] (at 10 44) (expr_of (at 10 47) (primary.Number (at 10 47) 2)) (at 10 48))) ∷ []) (at 10 50) (at 10 54) (at 10
    58) ∷ assign_of (at 11 1) "X" [] (at 11 3) (expr_of (at 11 6) (primary.AllocatedAggregate (at 11 6) (mark (at 11 10)
    "Cell") (at 11 14) (aggregate.Several (at 11 15) (actual_of (at 11 16) (object (at 11 16) "N")) (at 11 17)
    (actual_of (at 11 19) (primary.Null (at 11 19))) [] (at 11 23)))) (at 11 24) ∷ [])) (at 12 1) (Some (id (at 12 5)
    "Main")) (at 12 9)) ∷ []) ∷ [])
unfolding computes resolves
two_n1_3 = refl

two_n1_4 : IsFirstBrokenOf Unknown (at 1 6) ((unit.OfPackage (at 1 1) (context.With (at 1 1) (dotted_of (id (at 1 6)
    "Ada") (next_part.FurtherPart (at 1 9) (id (at 1 10) "Text_IO") ∷ next_part.FurtherPart (at 1 17) (id (at 1 18)
    "Put") ∷ [])) [] (at 1 21) ∷ []) (package_of (at 1 23) (id (at 1 31) "Minor_R") None (at 1 39) (decl.OfItem (at 1
    42) (objects_of (id (at 1 42) "Minor_Z") [] (at 1 50) None (indication_of (mark (at 1 52) "Integer")) (at 1 59)) ∷
    []) None (at 1 61) (Some (id (at 1 65) "Minor_R")) (at 1 72)) ∷ []) ∷ (unit.OfSubprogram (at1 1 1) (context.With
    (at1 1 1) (selected (at1 1 6) "Ada" (at1 1 9) (at1 1 10) "Text_IO") [] (at1 1 17) ∷ use_context (use_of (at1 1 19)
    None (selected (at1 1 23) "Ada" (at1 1 26) (at1 1 27) "Text_IO") [] (at1 1 34)) ∷ context.With (at1 1 36) (selected
    (at1 1 41) "Ada" (at1 1 44) (at1 1 45) "Integer_Text_IO") [] (at1 1 60) ∷ use_context (use_of (at1 1 62) None
    (selected (at1 1 66) "Ada" (at1 1 69) (at1 1 70) "Integer_Text_IO") [] (at1 1 85)) ∷ context.With (at1 1 87)
    (selected (at1 1 92) "Ada" (at1 1 95) (at1 1 96) "Unchecked_Deallocation") [] (at1 1 118) ∷ []) (subprogram_of (at1
    2 1) (subspec.Procedure (at1 2 1) (id (at1 2 11) "Main") None) None (at1 2 16) (item.IncompleteType (at1 2 19) (id
    (at1 2 24) "Cell") (at1 2 28) ∷ item.AccessType (at1 3 1) (id (at1 3 6) "List") (at1 3 11) (at1 3 14) (mark (at1 3
    21) "Cell") (at1 3 25) ∷ item.RecordType (at1 3 27) (id (at1 3 32) "Cell") (at1 3 37) (at1 3 40) (fields_of (id (at1
    3 47) "Value") [] (at1 3 53) (mark (at1 3 55) "Integer") (at1 3 62)) (fields_of (id (at1 3 64) "Next") [] (at1 3 69)
    (mark (at1 3 71) "List") (at1 3 75) ∷ []) (at1 3 77) (at1 3 81) (at1 3 87) ∷ objects_of (id (at1 3 89) "X")
    (next_id_of (at1 3 90) (at1 3 92) "Y" ∷ []) (at1 3 94) None (indication_of (mark (at1 3 96) "List")) (at1 3 100) ∷
    initialized_of (id (at1 4 1) "N") [] (at1 4 3) None (indication_of (mark (at1 4 5) "Integer")) (at1 4 13) (expr_of
    (at1 4 16) (primary.Number (at1 4 16) 6)) (at1 4 17) ∷ []) (at1 4 19) (stmts.Sequence (at1 4 25) (stmt.Case (at1 4
    25) (expr_of (at1 4 30) (object (at1 4 30) "N")) (at1 4 32) (alternative.Alternative (at1 4 35) (choice.Value (at1 4
    40) (expr_of (at1 4 40) (primary.Number (at1 4 40) 1))) [] (at1 4 42) (sole (at1 4 45) (stmt.Null (at1 4 45) (at1 4
    49)))) (alternative.Alternative (at1 4 51) (choice.Others (at1 4 56)) [] (at1 4 63) (sole (at1 4 66) (assign_of (at1
    4 66) "N" [] (at1 4 68) (expr_of (at1 4 71) (primary.Number (at1 4 71) 2)) (at1 4 72))) ∷ []) (at1 4 74) (at1 4 78)
    (at1 4 82)) (call_of (at1 5 1) "Put_Line" (suffix.Applied (at1 5 10) (actual_of (at1 5 11) (named (at1 5 11)
    "Integer" (suffix.Attribute (at1 5 18) (id (at1 5 19) "Image") ∷ suffix.Applied (at1 5 25) (actual_of (at1 5 26)
    (object (at1 5 26) "N")) [] (at1 5 27) ∷ []))) [] (at1 5 28) ∷ []) (at1 5 29) ∷ assign_of (at1 5 31) "X" [] (at1 5
    33) (expr_of (at1 5 36) (primary.AllocatedAggregate (at1 5 36) (mark (at1 5 40) "Cell") (at1 5 44)
    (aggregate.Several (at1 5 45) (actual_of (at1 5 46) (object (at1 5 46) "N")) (at1 5 47) (actual_of (at1 5 49)
    (primary.Null (at1 5 49))) [] (at1 5 53)))) (at1 5 54) ∷ stmt.If (at1 6 1) (expr.LoneRelation (at1 6 4) (rel.LoneSum
    (at1 6 4) (sum.Unsigned (at1 6 4) (term.Product (at1 6 4) (factor.Not (at1 6 4) (object (at1 6 8) "End_Of_File"))
    []) []))) (at1 6 20) (sole (at1 6 25) (call_of (at1 6 25) "Get" (suffix.Applied (at1 6 29) (actual_of (at1 6 30)
    (object (at1 6 30) "N")) [] (at1 6 31) ∷ []) (at1 6 32))) [] (at1 6 34) (at1 6 38) (at1 6 40) ∷ stmt.For (at1 6 42)
    (id (at1 6 46) "I") (at1 6 48) None (range.Bounds (at1 6 51) (expr_of (at1 6 51) (primary.Number (at1 6 51) 1)) (at1
    6 53) (expr_of (at1 6 56) (primary.Number (at1 6 56) 3))) (at1 6 58) (sole (at1 6 63) (assign_of (at1 6 63) "N" []
    (at1 6 65) (expr.LoneRelation (at1 6 68) (rel.LoneSum (at1 6 68) (sum.Unsigned (at1 6 68) (term_of (at1 6 68)
    (object (at1 6 68) "N")) (next_term.FurtherTerm (at1 6 70) adding.Add (term_of (at1 6 72) (object (at1 6 72) "I")) ∷
    [])))) (at1 6 73))) (at1 6 75) (at1 6 79) (at1 6 83) ∷ [])) (at1 7 1) (Some (id (at1 7 5) "Main")) (at1 7 9)) ∷ [])
    ∷ (unit.OfSubprogram (at2 1 1) [] (subprogram_of (at2 1 1) (subspec.Procedure (at2 1 1) (id (at2 1 11) "Inner_Q")
    None) None (at2 1 19) [] (at2 1 22) (sole (at2 1 28) (stmt.Null (at2 1 28) (at2 1 32))) (at2 1 34) (Some (id (at2 1
    38) "Inner_Q")) (at2 1 45)) ∷ []) ∷ [])
unfolding computes resolves
two_n1_4 = refl

two_n1_5 : IsFirstBrokenOf Unknown (at 9 139) ((unit.OfSubprogram (at 1 1) (context.With (at 1 1) (selected (at 1 6)
    "Ada" (at 1 9) (at 1 10) "Text_IO") [] (at 1 17) ∷ use_context (use_of (at 1 19) None (selected (at 1 23) "Ada" (at
    1 26) (at 1 27) "Text_IO") [] (at 1 34)) ∷ context.With (at 1 36) (selected (at 1 41) "Ada" (at 1 44) (at 1 45)
    "Integer_Text_IO") [] (at 1 60) ∷ use_context (use_of (at 1 62) None (selected (at 1 66) "Ada" (at 1 69) (at 1 70)
    "Integer_Text_IO") [] (at 1 85)) ∷ context.With (at 1 87) (selected (at 1 92) "Ada" (at 1 95) (at 1 96)
    "Unchecked_Deallocation") [] (at 1 118) ∷ []) (subprogram_of (at 2 1) (subspec.Procedure (at 2 1) (id (at 2 11)
    "Main") None) None (at 2 16) (item.IncompleteType (at 3 1) (id (at 3 6) "Cell") (at 3 10) ∷ item.AccessType (at 4 1)
    (id (at 4 6) "List") (at 4 11) (at 4 14) (mark (at 4 21) "Cell") (at 4 25) ∷ item.RecordType (at 5 1) (id (at 5 6)
    "Cell") (at 5 11) (at 5 14) (fields_of (id (at 5 21) "Value") [] (at 5 27) (mark (at 5 29) "Integer") (at 5 36))
    (fields_of (id (at 5 38) "Next") [] (at 5 43) (mark (at 5 45) "List") (at 5 49) ∷ []) (at 5 51) (at 5 55) (at 5 61)
    ∷ objects_of (id (at 6 1) "X") (next_id_of (at 6 2) (at 6 4) "Y" ∷ []) (at 6 6) None (indication_of (mark (at 6 8)
    "List")) (at 6 12) ∷ initialized_of (id (at 7 1) "N") [] (at 7 3) None (indication_of (mark (at 7 5) "Integer")) (at
    7 13) (expr_of (at 7 16) (primary.Number (at 7 16) 5)) (at 7 17) ∷ item.Instance (at 8 1) (id (at 8 11) "Free") (at
    8 16) (at 8 19) (selected (at 8 23) "Ada" (at 8 26) (at 8 27) "Unchecked_Deallocation") (at 8 50) (actual_of (at 8
    51) (object (at 8 51) "Cell")) (next_arg.FurtherArg (at 8 55) (actual_of (at 8 57) (object (at 8 57) "List")) ∷ [])
    (at 8 61) (at 8 62) ∷ item.ConstrainedSubtype (at 8 64) (id (at 8 72) "Latest_S") (at 8 81) (mark (at 8 84)
    "Integer") (at 8 92) (expr_of (at 8 98) (primary.Number (at 8 98) 1)) (at 8 100) (expr_of (at 8 103) (primary.Number
    (at 8 103) 5)) (at 8 104) ∷ item.AccessType (at 8 106) (id (at 8 111) "Latest_Q") (at 8 120) (at 8 123) (mark (at 8
    130) "Latest_S") (at 8 138) ∷ objects_of (id (at 8 140) "Latest_P") [] (at 8 149) None (indication_of (mark (at 8
    151) "Latest_Q")) (at 8 159) ∷ []) (at 9 1) (stmts.Sequence (at 9 7) (stmt.DeclareBlock (at 9 7) (initialized_of (id
    (at 9 15) "Latest_B") [] (at 9 24) None (indication.Anonymous (at 9 26) (Some (at 9 33)) (mark (at 9 42)
    "Positive")) (at 9 51) (expr_of (at 9 54) (object (at 9 54) "Latest_P")) (at 9 62) ∷ []) (at 9 64) (sole (at 9 70)
    (stmt.Null (at 9 70) (at 9 74))) (at 9 76) (at 9 79)) (stmt.Block (at 9 81) (stmts.Sequence (at 9 87)
    (stmt.DeclareBlock (at 9 87) (objects_of (id (at 9 95) "Quick_X") [] (at 9 103) None (indication_of (mark (at 9 105)
    "Integer")) (at 9 112) ∷ []) (at 9 114) (sole (at 9 120) (assign_of (at 9 120) "Quick_X" [] (at 9 128) (expr_of (at
    9 131) (primary.Number (at 9 131) 1)) (at 9 132))) (at 9 134) (at 9 137)) (assign_of (at 9 139) "Quick_X" [] (at 9
    147) (expr_of (at 9 150) (primary.Number (at 9 150) 2)) (at 9 151) ∷ [])) (at 9 153) (at 9 156) ∷ assign_of (at 10
    1) "Y" [] (at 10 3) (expr_of (at 10 6) (object (at 10 6) "X")) (at 10 7) ∷ assign_of (at 10 9) "X" [] (at 10 11)
    (expr_of (at 10 14) (primary.Null (at 10 14))) (at 10 18) ∷ assign_of (at 11 1) "N" [] (at 11 3) (expr.LoneRelation
    (at 11 6) (rel.LoneSum (at 11 6) (sum.Unsigned (at 11 6) (term.Product (at 11 6) (factor_of (at 11 6) (object (at 11
    6) "N")) (next_factor.FurtherFactor (at 11 8) multiplying.Multiply (factor_of (at 11 10) (primary.Number (at 11 10)
    2)) ∷ [])) (next_term.FurtherTerm (at 11 12) adding.Add (term_of (at 11 14) (primary.Number (at 11 14) 1)) ∷ []))))
    (at 11 15) ∷ [])) (at 12 1) (Some (id (at 12 5) "Main")) (at 12 9)) ∷ []) ∷ [])
unfolding computes resolves
two_n1_5 = refl

two_n1_6 : IsFirstBrokenOf Unknown (at 1 160) ((unit.OfPackage (at 1 1) (context.With (at 1 1) (selected (at 1 6) "Ada"
    (at 1 9) (at 1 10) "Text_IO") [] (at 1 17) ∷ use_context (use_of (at 1 19) None (selected (at 1 23) "Ada" (at 1 26)
    (at 1 27) "Text_IO") [] (at 1 34)) ∷ context.With (at 1 36) (selected (at 1 41) "Ada" (at 1 44) (at 1 45)
    "Integer_Text_IO") [] (at 1 60) ∷ use_context (use_of (at 1 62) None (selected (at 1 66) "Ada" (at 1 69) (at 1 70)
    "Integer_Text_IO") [] (at 1 85)) ∷ context.With (at 1 87) (selected (at 1 92) "Ada" (at 1 95) (at 1 96)
    "Unchecked_Deallocation") [] (at 1 118) ∷ []) (package_of (at 1 120) (id (at 1 128) "Latest_P") None (at 1 137)
    (decl.OfItem (at 1 140) (item.ConstrainedSubtype (at 1 140) (id (at 1 148) "Latest_S") (at 1 157) (mark (at 1 160)
    "Latest_T") (at 1 169) (expr_of (at 1 175) (primary.Number (at 1 175) 1)) (at 1 177) (expr_of (at 1 180)
    (primary.Number (at 1 180) 2)) (at 1 181)) ∷ []) None (at 1 183) (Some (id (at 1 187) "Latest_P")) (at 1 195)) ∷
    unit.OfSubprogram (at 2 1) (context.With (at 2 1) (selected (at 2 6) "Ada" (at 2 9) (at 2 10) "Text_IO") [] (at 2
    17) ∷ use_context (use_of (at 2 19) None (selected (at 2 23) "Ada" (at 2 26) (at 2 27) "Text_IO") [] (at 2 34)) ∷
    context.With (at 2 36) (selected (at 2 41) "Ada" (at 2 44) (at 2 45) "Integer_Text_IO") [] (at 2 60) ∷ use_context
    (use_of (at 2 62) None (selected (at 2 66) "Ada" (at 2 69) (at 2 70) "Integer_Text_IO") [] (at 2 85)) ∷ context.With
    (at 2 87) (selected (at 2 92) "Ada" (at 2 95) (at 2 96) "Unchecked_Deallocation") [] (at 2 118) ∷ []) (subprogram_of
    (at 3 1) (subspec.Procedure (at 3 1) (id (at 3 11) "Main") None) None (at 3 16) (item.IncompleteType (at 4 1) (id
    (at 4 6) "Cell") (at 4 10) ∷ item.AccessType (at 5 1) (id (at 5 6) "List") (at 5 11) (at 5 14) (mark (at 5 21)
    "Cell") (at 5 25) ∷ item.RecordType (at 6 1) (id (at 6 6) "Cell") (at 6 11) (at 6 14) (fields_of (id (at 6 21)
    "Value") [] (at 6 27) (mark (at 6 29) "Integer") (at 6 36)) (fields_of (id (at 6 38) "Next") [] (at 6 43) (mark (at
    6 45) "List") (at 6 49) ∷ []) (at 6 51) (at 6 55) (at 6 61) ∷ objects_of (id (at 7 1) "X") (next_id_of (at 7 2) (at
    7 4) "Y" ∷ []) (at 7 6) None (indication_of (mark (at 7 8) "List")) (at 7 12) ∷ initialized_of (id (at 8 1) "N") []
    (at 8 3) None (indication_of (mark (at 8 5) "Integer")) (at 8 13) (expr_of (at 8 16) (primary.Number (at 8 16) 4))
    (at 8 17) ∷ item.Instance (at 9 1) (id (at 9 11) "Free") (at 9 16) (at 9 19) (selected (at 9 23) "Ada" (at 9 26) (at
    9 27) "Unchecked_Deallocation") (at 9 50) (actual_of (at 9 51) (object (at 9 51) "Cell")) (next_arg.FurtherArg (at 9
    55) (actual_of (at 9 57) (object (at 9 57) "List")) ∷ []) (at 9 61) (at 9 62) ∷ []) (at 10 1) (stmts.Sequence (at 11
    1) (call_of (at 11 1) "Put_Line" (suffix.Applied (at 11 10) (actual_of (at 11 11) (named (at 11 11) "Integer"
    (suffix.Attribute (at 11 18) (id (at 11 19) "Image") ∷ suffix.Applied (at 11 25) (actual_of (at 11 26) (object (at
    11 26) "N")) [] (at 11 27) ∷ []))) [] (at 11 28) ∷ []) (at 11 29)) (assign_of (at 12 1) "X" [] (at 12 3) (expr_of
    (at 12 6) (primary.AllocatedAggregate (at 12 6) (mark (at 12 10) "Cell") (at 12 14) (aggregate.Several (at 12 15)
    (actual_of (at 12 16) (object (at 12 16) "N")) (at 12 17) (actual_of (at 12 19) (primary.Null (at 12 19))) [] (at 12
    23)))) (at 12 24) ∷ [])) (at 13 1) (Some (id (at 13 5) "Main")) (at 13 9)) ∷ unit.OfSubprogram (at 14 1) []
    (subprogram_of (at 14 1) (subspec.Function (at 14 1) (id (at 14 10) "Usual_F") None (at 14 18) (indication_of (mark
    (at 14 25) "Integer"))) None (at 14 33) [] (at 14 36) (sole (at 14 42) (stmt.ReturnValue (at 14 42) (expr_of (at 14
    49) (primary.Number (at 14 49) 1)) (at 14 50))) (at 14 52) (Some (id (at 14 56) "Usual_F")) (at 14 63)) ∷ []) ∷ [])
unfolding computes resolves
two_n1_6 = refl

two_n1_7 : IsFirstBrokenOf Unknown (at 2 55) ((unit.OfPackage (at 1 7) [] (package_of (at 1 7) (id (at 1 15) "Minor_P")
    None (at 1 23) (decl.OfItem (at 1 26) (objects_of (id (at 1 26) "Minor_X") [] (at 1 34) None (indication_of (mark
    (at 1 36) "Integer")) (at 1 43)) ∷ []) None (at 1 45) (Some (id (at 1 49) "Minor_P")) (at 1 56)) ∷ unit.OfPackage
    (at 2 1) (context.With (at 2 1) (mark (at 2 6) "Minor_P") [] (at 2 13) ∷ []) (package_of (at 2 15) (id (at 2 23)
    "Minor_R") None (at 2 31) (decl.OfItem (at 2 34) (initialized_of (id (at 2 34) "Minor_Z") [] (at 2 42) None
    (indication_of (mark (at 2 44) "Integer")) (at 2 52) (expr_of (at 2 55) (object (at 2 55) "Minor_X")) (at 2 62)) ∷
    decl.OfItem (at 2 64) (use_item (use_of (at 2 64) None (mark (at 2 68) "Minor_P") [] (at 2 75))) ∷ []) None (at 2
    77) (Some (id (at 2 81) "Minor_R")) (at 2 88)) ∷ unit.OfBody (at 3 1) [] (package_body_of (at 3 1) (at 3 9) (id (at
    3 14) "Latest_P") None (at 3 23) (part.Declared (at 3 26) (decl.OfItem (at 3 26) (objects_of (id (at 3 26)
    "Latest_Y") [] (at 3 35) None (indication_of (mark (at 3 37) "Integer")) (at 3 44))) ∷ []) (at 3 46) (Some (id (at 3
    50) "Latest_P")) (at 3 58)) ∷ unit.OfPackage (at 4 4) [] (package_of (at 4 4) (id (at 4 12) "Latest_P") None (at 4
    21) (decl.OfItem (at 4 24) (objects_of (id (at 4 24) "Latest_X") [] (at 4 33) None (indication_of (mark (at 4 35)
    "Integer")) (at 4 42)) ∷ []) None (at 4 44) (Some (id (at 4 48) "Latest_P")) (at 4 56)) ∷ unit.OfSubprogram (at 5 4)
    (context.With (at 5 4) (selected (at 5 9) "Ada" (at 5 12) (at 5 13) "Text_IO") [] (at 5 20) ∷ use_context (use_of
    (at 5 22) None (selected (at 5 26) "Ada" (at 5 29) (at 5 30) "Text_IO") [] (at 5 37)) ∷ context.With (at 5 39)
    (selected (at 5 44) "Ada" (at 5 47) (at 5 48) "Integer_Text_IO") [] (at 5 63) ∷ use_context (use_of (at 5 65) None
    (selected (at 5 69) "Ada" (at 5 72) (at 5 73) "Integer_Text_IO") [] (at 5 88)) ∷ context.With (at 5 90) (selected
    (at 5 95) "Ada" (at 5 98) (at 5 99) "Unchecked_Deallocation") [] (at 5 121) ∷ []) (subprogram_of (at 6 1)
    (subspec.Procedure (at 6 1) (id (at 6 11) "Main") None) None (at 6 16) (item.IncompleteType (at 7 7) (id (at 7 12)
    "Cell") (at 7 16) ∷ item.AccessType (at 8 4) (id (at 8 9) "List") (at 8 14) (at 8 17) (mark (at 8 24) "Cell") (at 8
    28) ∷ item.RecordType (at 9 1) (id (at 9 6) "Cell") (at 9 11) (at 9 14) (fields_of (id (at 9 21) "Value") [] (at 9
    27) (mark (at 9 29) "Integer") (at 9 36)) (fields_of (id (at 9 38) "Next") [] (at 9 43) (mark (at 9 45) "List") (at
    9 49) ∷ []) (at 9 51) (at 9 55) (at 9 61) ∷ objects_of (id (at 10 7) "X") (next_id_of (at 10 8) (at 10 10) "Y" ∷ [])
    (at 10 12) None (indication_of (mark (at 10 14) "List")) (at 10 18) ∷ initialized_of (id (at 11 4) "N") [] (at 11 6)
    None (indication_of (mark (at 11 8) "Integer")) (at 11 16) (expr_of (at 11 19) (primary.Number (at 11 19) 0)) (at 11
    20) ∷ []) (at 12 4) (stmts.Sequence (at 13 4) (assign_of (at 13 4) "Y" [] (at 13 6) (expr_of (at 13 9) (object (at
    13 9) "X")) (at 13 10)) (assign_of (at 13 12) "X" [] (at 13 14) (expr_of (at 13 17) (primary.Null (at 13 17))) (at
    13 21) ∷ stmt.While (at 14 1) (expr.LoneRelation (at 14 7) (rel.Compared (at 14 7) (sum_of (at 14 7) (object (at 14
    7) "N")) relational.Greater (at 14 9) (sum_of (at 14 11) (primary.Number (at 14 11) 5)))) (at 14 13) (sole (at 14
    18) (assign_of (at 14 18) "N" [] (at 14 20) (expr.LoneRelation (at 14 23) (rel.LoneSum (at 14 23) (sum.Unsigned (at
    14 23) (term.Product (at 14 23) (factor_of (at 14 23) (object (at 14 23) "N")) (next_factor.FurtherFactor (at 14 25)
    multiplying.Divide (factor_of (at 14 27) (primary.Number (at 14 27) 2)) ∷ [])) []))) (at 14 28))) (at 14 30) (at 14
    34) (at 14 38) ∷ stmt.If (at 15 4) (expr.LoneRelation (at 15 7) (rel.LoneSum (at 15 7) (sum.Unsigned (at 15 7)
    (term.Product (at 15 7) (factor.Not (at 15 7) (object (at 15 11) "End_Of_File")) []) []))) (at 15 23) (sole (at 15
    28) (call_of (at 15 28) "Get" (suffix.Applied (at 15 32) (actual_of (at 15 33) (object (at 15 33) "N")) [] (at 15
    34) ∷ []) (at 15 35))) [] (at 15 37) (at 15 41) (at 15 43) ∷ stmt.Case (at 16 4) (expr_of (at 16 9) (object (at 16
    9) "N")) (at 16 11) (alternative.Alternative (at 16 14) (choice.Value (at 16 19) (expr_of (at 16 19) (primary.Number
    (at 16 19) 1))) [] (at 16 21) (sole (at 16 24) (stmt.Null (at 16 24) (at 16 28)))) (alternative.Alternative (at 16
    30) (choice.Others (at 16 35)) [] (at 16 42) (sole (at 16 45) (assign_of (at 16 45) "N" [] (at 16 47) (expr_of (at
    16 50) (primary.Number (at 16 50) 2)) (at 16 51))) ∷ []) (at 16 53) (at 16 57) (at 16 61) ∷ [])) (at 17 1) (Some (id
    (at 17 5) "Main")) (at 17 9)) ∷ []) ∷ [])
unfolding computes resolves
two_n1_7 = refl

two_n1_8 : IsFirstBrokenOf Unknown (at 1 6) ((unit.OfPackage (at 1 1) (context.With (at 1 1) (mark (at 1 6) "System") []
    (at 1 12) ∷ []) (package_of (at 1 14) (id (at 1 22) "Minor_R") None (at 1 30) (decl.OfItem (at 1 33) (objects_of (id
    (at 1 33) "Minor_X") [] (at 1 41) None (indication_of (mark (at 1 43) "Integer")) (at 1 50)) ∷ []) None (at 1 52)
    (Some (id (at 1 56) "Minor_R")) (at 1 63)) ∷ unit.OfPackage (at 2 1) (context.With (at 2 1) (selected (at 2 6) "Ada"
    (at 2 9) (at 2 10) "Text_IO") [] (at 2 17) ∷ use_context (use_of (at 2 19) None (selected (at 2 23) "Ada" (at 2 26)
    (at 2 27) "Text_IO") [] (at 2 34)) ∷ context.With (at 2 36) (selected (at 2 41) "Ada" (at 2 44) (at 2 45)
    "Integer_Text_IO") [] (at 2 60) ∷ use_context (use_of (at 2 62) None (selected (at 2 66) "Ada" (at 2 69) (at 2 70)
    "Integer_Text_IO") [] (at 2 85)) ∷ context.With (at 2 87) (selected (at 2 92) "Ada" (at 2 95) (at 2 96)
    "Unchecked_Deallocation") [] (at 2 118) ∷ []) (package_of (at 2 120) (id (at 2 128) "Quick_P") None (at 2 136)
    (decl.OfItem (at 3 1) (objects_of (id (at 3 1) "Quick_Y") [] (at 3 9) None (indication_of (mark (at 3 11)
    "Integer")) (at 3 18)) ∷ decl.Subprogram (at 3 20) (subspec.Procedure (at 3 20) (id (at 3 30) "Quick_Q") None) None
    (at 3 37) ∷ []) None (at 4 1) (Some (id (at 4 5) "Quick_P")) (at 4 12)) ∷ unit.OfBody (at 5 1) [] (package_body_of
    (at 5 1) (at 5 9) (id (at 5 14) "Quick_P") None (at 5 22) (part.Completed (at 6 1) (subprogram_of (at 6 1)
    (subspec.Procedure (at 6 1) (id (at 6 11) "Quick_Q") None) None (at 6 19) [] (at 6 22) (sole (at 6 28) (assign_of
    (at 6 28) "Quick_P" (suffix.Selected (at 6 35) (id (at 6 36) "Quick_X") ∷ []) (at 6 44) (expr_of (at 6 47)
    (primary.Number (at 6 47) 1)) (at 6 48))) (at 6 50) (Some (id (at 6 54) "Quick_Q")) (at 6 61)) ∷ []) (at 7 1) (Some
    (id (at 7 5) "Quick_P")) (at 7 12)) ∷ unit.OfSubprogram (at 8 1) (context.With (at 8 1) (selected (at 8 6) "Ada" (at
    8 9) (at 8 10) "Text_IO") [] (at 8 17) ∷ use_context (use_of (at 8 19) None (selected (at 8 23) "Ada" (at 8 26) (at
    8 27) "Text_IO") [] (at 8 34)) ∷ context.With (at 8 36) (selected (at 8 41) "Ada" (at 8 44) (at 8 45)
    "Integer_Text_IO") [] (at 8 60) ∷ use_context (use_of (at 8 62) None (selected (at 8 66) "Ada" (at 8 69) (at 8 70)
    "Integer_Text_IO") [] (at 8 85)) ∷ context.With (at 8 87) (selected (at 8 92) "Ada" (at 8 95) (at 8 96)
    "Unchecked_Deallocation") [] (at 8 118) ∷ []) (subprogram_of (at 9 1) (subspec.Procedure (at 9 1) (id (at 9 11)
    "Main") None) None (at 9 16) (item.IncompleteType (at 10 1) (id (at 10 6) "Cell") (at 10 10) ∷ item.AccessType (at
    11 1) (id (at 11 6) "List") (at 11 11) (at 11 14) (mark (at 11 21) "Cell") (at 11 25) ∷ item.RecordType (at 12 1)
    (id (at 12 6) "Cell") (at 12 11) (at 12 14) (fields_of (id (at 12 21) "Value") [] (at 12 27) (mark (at 12 29)
    "Integer") (at 12 36)) (fields_of (id (at 12 38) "Next") [] (at 12 43) (mark (at 12 45) "List") (at 12 49) ∷ []) (at
    12 51) (at 12 55) (at 12 61) ∷ objects_of (id (at 13 1) "X") (next_id_of (at 13 2) (at 13 4) "Y" ∷ []) (at 13 6)
    None (indication_of (mark (at 13 8) "List")) (at 13 12) ∷ initialized_of (id (at 14 1) "N") [] (at 14 3) None
    (indication_of (mark (at 14 5) "Integer")) (at 14 13) (expr_of (at 14 16) (primary.Number (at 14 16) 2)) (at 14 17)
    ∷ []) (at 15 1) (stmts.Sequence (at 16 1) (assign_of (at 16 1) "X" [] (at 16 3) (expr_of (at 16 6)
    (primary.AllocatedAggregate (at 16 6) (mark (at 16 10) "Cell") (at 16 14) (aggregate.Several (at 16 15) (actual_of
    (at 16 16) (object (at 16 16) "N")) (at 16 17) (actual_of (at 16 19) (primary.Null (at 16 19))) [] (at 16 23)))) (at
    16 24)) (assign_of (at 17 1) "N" [] (at 17 3) (expr.LoneRelation (at 17 6) (rel.LoneSum (at 17 6) (sum.Unsigned (at
    17 6) (term.Product (at 17 6) (factor_of (at 17 6) (object (at 17 6) "N")) (next_factor.FurtherFactor (at 17 8)
    multiplying.Multiply (factor_of (at 17 10) (primary.Number (at 17 10) 2)) ∷ [])) (next_term.FurtherTerm (at 17 12)
    adding.Add (term_of (at 17 14) (primary.Number (at 17 14) 1)) ∷ [])))) (at 17 15) ∷ stmt.DeclareBlock (at 18 1)
    (initialized_of (id (at 18 9) "B") [] (at 18 11) None (indication.Anonymous (at 18 13) None (mark (at 18 20)
    "Cell")) (at 18 25) (expr_of (at 18 28) (object (at 18 28) "X")) (at 18 29) ∷ []) (at 18 31) (sole (at 18 37)
    (stmt.If (at 18 37) (expr.LoneRelation (at 18 40) (rel.Compared (at 18 40) (sum_of (at 18 40) (object (at 18 40)
    "B")) relational.NotEqual (at 18 42) (sum_of (at 18 45) (primary.Null (at 18 45))))) (at 18 50) (sole (at 18 55)
    (assign_of (at 18 55) "B" (suffix.Selected (at 18 56) (id (at 18 57) "Value") ∷ []) (at 18 63) (expr_of (at 18 66)
    (object (at 18 66) "N")) (at 18 67))) [] (at 18 69) (at 18 73) (at 18 75))) (at 18 77) (at 18 80) ∷ [])) (at 19 1)
    (Some (id (at 19 5) "Main")) (at 19 9)) ∷ []) ∷ [])
unfolding computes resolves
two_n1_8 = refl

two_n1_9 : IsFirstBrokenOf Unknown (at 3 68) ((unit.OfPackage (at 1 1) [] (package_of (at 1 1) (id (at 1 9) "Inner_P")
    None (at 1 17) (decl.Subprogram (at 1 20) (subspec.Procedure (at 1 20) (id (at 1 30) "Inner_Q") None) None (at 1 37)
    ∷ []) None (at 1 39) (Some (id (at 1 43) "Inner_P")) (at 1 50)) ∷ unit.OfBody (at 2 7) [] (package_body_of (at 2 7)
    (at 2 15) (id (at 2 20) "Inner_P") None (at 2 28) (part.Declared (at 2 31) (decl.OfItem (at 2 31) (objects_of (id
    (at 2 31) "Inner_X") [] (at 2 39) None (indication_of (mark (at 2 41) "Integer")) (at 2 48))) ∷ part.Completed (at 2
    50) (subprogram_of (at 2 50) (subspec.Procedure (at 2 50) (id (at 2 60) "Inner_Q") None) None (at 2 68) [] (at 2 71)
    (sole (at 2 77) (assign_of (at 2 77) "Inner_X" [] (at 2 85) (expr_of (at 2 88) (primary.Number (at 2 88) 1)) (at 2
    89))) (at 2 91) (Some (id (at 2 95) "Inner_Q")) (at 2 102)) ∷ []) (at 2 104) (Some (id (at 2 108) "Inner_P")) (at 2
    115)) ∷ unit.OfPackage (at 3 1) (context.With (at 3 1) (mark (at 3 6) "Inner_P") [] (at 3 13) ∷ use_context (use_of
    (at 3 15) None (mark (at 3 19) "Inner_P") [] (at 3 26)) ∷ []) (package_of (at 3 28) (id (at 3 36) "Inner_R") None
    (at 3 44) (decl.OfItem (at 3 47) (initialized_of (id (at 3 47) "Inner_Z") [] (at 3 55) None (indication_of (mark (at
    3 57) "Integer")) (at 3 65) (expr_of (at 3 68) (object (at 3 68) "Inner_X")) (at 3 75)) ∷ []) None (at 3 77) (Some
    (id (at 3 81) "Inner_R")) (at 3 88)) ∷ unit.OfPackage (at 4 1) [] (package_of (at 4 1) (id (at 4 9) "Second_P") None
    (at 4 18) (decl.OfItem (at 4 21) (initialized_of (id (at 4 21) "Second_X") [] (at 4 30) None (indication_of (mark
    (at 4 32) "Integer")) (at 4 40) (expr_of (at 4 43) (named (at 4 43) "Second_P" (suffix.Selected (at 4 51) (id (at 4
    52) "Second_X") ∷ []))) (at 4 60)) ∷ []) None (at 4 62) (Some (id (at 4 66) "Second_P")) (at 4 74)) ∷
    unit.OfSubprogram (at 5 1) (context.With (at 5 1) (selected (at 5 6) "Ada" (at 5 9) (at 5 10) "Text_IO") [] (at 5
    17) ∷ use_context (use_of (at 5 19) None (selected (at 5 23) "Ada" (at 5 26) (at 5 27) "Text_IO") [] (at 5 34)) ∷
    context.With (at 5 36) (selected (at 5 41) "Ada" (at 5 44) (at 5 45) "Integer_Text_IO") [] (at 5 60) ∷ use_context
    (use_of (at 5 62) None (selected (at 5 66) "Ada" (at 5 69) (at 5 70) "Integer_Text_IO") [] (at 5 85)) ∷ context.With
    (at 5 87) (selected (at 5 92) "Ada" (at 5 95) (at 5 96) "Unchecked_Deallocation") [] (at 5 118) ∷ []) (subprogram_of
    (at 6 4) (subspec.Procedure (at 6 4) (id (at 6 14) "Main") None) None (at 6 19) (item.IncompleteType (at 7 4) (id
    (at 7 9) "Cell") (at 7 13) ∷ item.AccessType (at 8 1) (id (at 8 6) "List") (at 8 11) (at 8 14) (mark (at 8 21)
    "Cell") (at 8 25) ∷ item.RecordType (at 9 1) (id (at 9 6) "Cell") (at 9 11) (at 9 14) (fields_of (id (at 9 21)
    "Value") [] (at 9 27) (mark (at 9 29) "Integer") (at 9 36)) (fields_of (id (at 9 38) "Next") [] (at 9 43) (mark (at
    9 45) "List") (at 9 49) ∷ []) (at 9 51) (at 9 55) (at 9 61) ∷ objects_of (id (at 10 7) "X") (next_id_of (at 10 8)
    (at 10 10) "Y" ∷ []) (at 10 12) None (indication_of (mark (at 10 14) "List")) (at 10 18) ∷ initialized_of (id (at 11
    7) "N") [] (at 11 9) None (indication_of (mark (at 11 11) "Integer")) (at 11 19) (expr_of (at 11 22) (primary.Number
    (at 11 22) 9)) (at 11 23) ∷ []) (at 12 4) (stmts.Sequence (at 13 1) (stmt.IfElse (at 13 1) (expr.LoneRelation (at 13
    4) (rel.Compared (at 13 4) (sum_of (at 13 4) (object (at 13 4) "N")) relational.Greater (at 13 6) (sum_of (at 13 8)
    (primary.Number (at 13 8) 3)))) (at 13 10) (sole (at 13 15) (assign_of (at 13 15) "N" [] (at 13 17)
    (expr.LoneRelation (at 13 20) (rel.LoneSum (at 13 20) (sum.Unsigned (at 13 20) (term_of (at 13 20) (object (at 13
    20) "N")) (next_term.FurtherTerm (at 13 22) adding.Subtract (term_of (at 13 24) (primary.Number (at 13 24) 1)) ∷
    [])))) (at 13 25))) [] (at 13 27) (sole (at 13 32) (stmt.Null (at 13 32) (at 13 36))) (at 13 38) (at 13 42) (at 13
    44)) (stmt.Case (at 14 1) (expr_of (at 14 6) (object (at 14 6) "N")) (at 14 8) (alternative.Alternative (at 14 11)
    (choice.Value (at 14 16) (expr_of (at 14 16) (primary.Number (at 14 16) 1))) [] (at 14 18) (sole (at 14 21)
    (stmt.Null (at 14 21) (at 14 25)))) (alternative.Alternative (at 14 27) (choice.Others (at 14 32)) [] (at 14 39)
    (sole (at 14 42) (assign_of (at 14 42) "N" [] (at 14 44) (expr_of (at 14 47) (primary.Number (at 14 47) 2)) (at 14
    48))) ∷ []) (at 14 50) (at 14 54) (at 14 58) ∷ [])) (at 15 1) (Some (id (at 15 5) "Main")) (at 15 9)) ∷ []) ∷ [])
unfolding computes resolves
two_n1_9 = refl

two_n1_10 : IsFirstBrokenOf Unknown (at2 1 88) ((unit.OfSubprogram (at 1 7) (context.With (at 1 7) (selected (at 1 12)
    "Ada" (at 1 15) (at 1 16) "Text_IO") [] (at 1 23) ∷ use_context (use_of (at 1 25) None (selected (at 1 29) "Ada" (at
    1 32) (at 1 33) "Text_IO") [] (at 1 40)) ∷ context.With (at 1 42) (selected (at 1 47) "Ada" (at 1 50) (at 1 51)
    "Integer_Text_IO") [] (at 1 66) ∷ use_context (use_of (at 1 68) None (selected (at 1 72) "Ada" (at 1 75) (at 1 76)
    "Integer_Text_IO") [] (at 1 91)) ∷ context.With (at 1 93) (selected (at 1 98) "Ada" (at 1 101) (at 1 102)
    "Unchecked_Deallocation") [] (at 1 124) ∷ []) (subprogram_of (at 2 1) (subspec.Procedure (at 2 1) (id (at 2 11)
    "Main") None) None (at 2 16) (item.IncompleteType (at 3 7) (id (at 3 12) "Cell") (at 3 16) ∷ item.AccessType (at 4
    7) (id (at 4 12) "List") (at 4 17) (at 4 20) (mark (at 4 27) "Cell") (at 4 31) ∷ item.RecordType (at 5 1) (id (at 5
    6) "Cell") (at 5 11) (at 5 14) (fields_of (id (at 5 21) "Value") [] (at 5 27) (mark (at 5 29) "Integer") (at 5 36))
    (fields_of (id (at 5 38) "Next") [] (at 5 43) (mark (at 5 45) "List") (at 5 49) ∷ []) (at 5 51) (at 5 55) (at 5 61)
    ∷ objects_of (id (at 6 7) "X") (next_id_of (at 6 8) (at 6 10) "Y" ∷ []) (at 6 12) None (indication_of (mark (at 6
    14) "List")) (at 6 18) ∷ initialized_of (id (at 7 1) "N") [] (at 7 3) None (indication_of (mark (at 7 5) "Integer"))
    (at 7 13) (expr_of (at 7 16) (primary.Number (at 7 16) 6)) (at 7 17) ∷ []) (at 8 7) (stmts.Sequence (at 9 1)
    (call_of (at 9 1) "Put_Line" (suffix.Applied (at 9 10) (actual_of (at 9 11) (named (at 9 11) "Integer"
    (suffix.Attribute (at 9 18) (id (at 9 19) "Image") ∷ suffix.Applied (at 9 25) (actual_of (at 9 26) (object (at 9 26)
    "N")) [] (at 9 27) ∷ []))) [] (at 9 28) ∷ []) (at 9 29)) (stmt.IfElse (at 10 1) (expr.LoneRelation (at 10 4)
    (rel.Compared (at 10 4) (sum_of (at 10 4) (object (at 10 4) "N")) relational.Greater (at 10 6) (sum_of (at 10 8)
    (primary.Number (at 10 8) 3)))) (at 10 10) (sole (at 10 15) (assign_of (at 10 15) "N" [] (at 10 17)
    (expr.LoneRelation (at 10 20) (rel.LoneSum (at 10 20) (sum.Unsigned (at 10 20) (term_of (at 10 20) (object (at 10
    20) "N")) (next_term.FurtherTerm (at 10 22) adding.Subtract (term_of (at 10 24) (primary.Number (at 10 24) 1)) ∷
    [])))) (at 10 25))) [] (at 10 27) (sole (at 10 32) (stmt.Null (at 10 32) (at 10 36))) (at 10 38) (at 10 42) (at 10
    44) ∷ [])) (at 11 1) (Some (id (at 11 5) "Main")) (at 11 9)) ∷ []) ∷ (unit.OfPackage (at1 1 1) [] (package_of (at1 1
    1) (id (at1 1 9) "Plain_P") None (at1 1 17) (decl.OfItem (at1 1 20) (objects_of (id (at1 1 20) "Plain_Y") [] (at1 1
    28) None (indication_of (mark (at1 1 30) "Integer")) (at1 1 37)) ∷ []) None (at1 1 39) (Some (id (at1 1 43)
    "Plain_P")) (at1 1 50)) ∷ unit.OfPackage (at1 2 4) [] (package_of (at1 2 4) (id (at1 2 12) "Plain_Q") None (at1 2
    20) (decl.OfItem (at1 2 23) (objects_of (id (at1 2 23) "Plain_X") [] (at1 2 31) None (indication_of (mark (at1 2 33)
    "Integer")) (at1 2 40)) ∷ []) None (at1 2 42) (Some (id (at1 2 46) "Plain_Q")) (at1 2 53)) ∷ []) ∷ (unit.OfPackage
    (at2 1 4) (context.With (at2 1 4) (mark (at2 1 9) "Plain_P") (next_dotted.FurtherDotted (at2 1 16) (mark (at2 1 18)
    "Plain_Q") ∷ []) (at2 1 25) ∷ use_context (use_of (at2 1 27) None (mark (at2 1 31) "Plain_Q") [] (at2 1 38)) ∷ [])
    (package_of (at2 1 40) (id (at2 1 48) "Plain_R") None (at2 1 56) (decl.OfItem (at2 1 59) (initialized_of (id (at2 1
    59) "Plain_Z") [] (at2 1 67) None (indication_of (mark (at2 1 69) "Integer")) (at2 1 77) (expr_of (at2 1 80) (named
    (at2 1 80) "Plain_P" (suffix.Selected (at2 1 87) (id (at2 1 88) "Plain_X") ∷ []))) (at2 1 95)) ∷ []) None (at2 1 97)
    (Some (id (at2 1 101) "Plain_R")) (at2 1 108)) ∷ []) ∷ (unit.OfPackage (at3 1 1) (context.With (at3 1 1) (selected
    (at3 1 6) "Ada" (at3 1 9) (at3 1 10) "Text_IO") [] (at3 1 17) ∷ use_context (use_of (at3 1 19) None (selected (at3 1
    23) "Ada" (at3 1 26) (at3 1 27) "Text_IO") [] (at3 1 34)) ∷ context.With (at3 1 36) (selected (at3 1 41) "Ada" (at3
    1 44) (at3 1 45) "Integer_Text_IO") [] (at3 1 60) ∷ use_context (use_of (at3 1 62) None (selected (at3 1 66) "Ada"
    (at3 1 69) (at3 1 70) "Integer_Text_IO") [] (at3 1 85)) ∷ context.With (at3 1 87) (selected (at3 1 92) "Ada" (at3 1
    95) (at3 1 96) "Unchecked_Deallocation") [] (at3 1 118) ∷ []) (package_of (at3 1 120) (id (at3 1 128) "Quick_P")
    None (at3 1 136) (decl.OfItem (at3 1 139) (item.RecordType (at3 1 139) (id (at3 1 144) "Quick_R") (at3 1 152) (at3 1
    155) (fields_of (id (at3 1 162) "Quick_X") [] (at3 1 170) (mark (at3 1 172) "Integer") (at3 1 179)) (fields_of (id
    (at3 1 181) "Quick_Y") [] (at3 1 189) (mark (at3 1 191) "Boolean") (at3 1 198) ∷ fields_of (id (at3 1 200)
    "Quick_Y") [] (at3 1 208) (mark (at3 1 210) "Integer") (at3 1 217) ∷ []) (at3 1 219) (at3 1 223) (at3 1 229)) ∷ [])
    None (at3 1 231) (Some (id (at3 1 235) "Quick_P")) (at3 1 242)) ∷ []) ∷ [])
unfolding computes resolves
two_n1_10 = refl

two_n1_11 : IsFirstBrokenOf Unknown (at 1 173) ((unit.OfPackage (at 1 7) (context.With (at 1 7) (selected (at 1 12)
    "Ada" (at 1 15) (at 1 16) "Text_IO") [] (at 1 23) ∷ use_context (use_of (at 1 25) None (selected (at 1 29) "Ada" (at
    1 32) (at 1 33) "Text_IO") [] (at 1 40)) ∷ context.With (at 1 42) (selected (at 1 47) "Ada" (at 1 50) (at 1 51)
    "Integer_Text_IO") [] (at 1 66) ∷ use_context (use_of (at 1 68) None (selected (at 1 72) "Ada" (at 1 75) (at 1 76)
    "Integer_Text_IO") [] (at 1 91)) ∷ context.With (at 1 93) (selected (at 1 98) "Ada" (at 1 101) (at 1 102)
    "Unchecked_Deallocation") [] (at 1 124) ∷ []) (package_of (at 1 126) (id (at 1 134) "Minor_P") None (at 1 142)
    (decl.OfItem (at 1 145) (objects_of (id (at 1 145) "Minor_X") [] (at 1 153) None (indication_of (mark (at 1 155)
    "Integer")) (at 1 162)) ∷ decl.OfItem (at 1 164) (use_item (use_of (at 1 164) (Some (at 1 168)) (mark (at 1 173)
    "Minor_X") [] (at 1 180))) ∷ []) None (at 1 182) (Some (id (at 1 186) "Minor_P")) (at 1 193)) ∷ unit.OfSubprogram
    (at 2 1) (context.With (at 2 1) (selected (at 2 6) "Ada" (at 2 9) (at 2 10) "Text_IO") [] (at 2 17) ∷ use_context
    (use_of (at 2 19) None (selected (at 2 23) "Ada" (at 2 26) (at 2 27) "Text_IO") [] (at 2 34)) ∷ context.With (at 2
    36) (selected (at 2 41) "Ada" (at 2 44) (at 2 45) "Integer_Text_IO") [] (at 2 60) ∷ use_context (use_of (at 2 62)
    None (selected (at 2 66) "Ada" (at 2 69) (at 2 70) "Integer_Text_IO") [] (at 2 85)) ∷ context.With (at 2 87)
    (selected (at 2 92) "Ada" (at 2 95) (at 2 96) "Unchecked_Deallocation") [] (at 2 118) ∷ []) (subprogram_of (at 3 7)
    (subspec.Procedure (at 3 7) (id (at 3 17) "Main") None) None (at 3 22) (item.IncompleteType (at 4 7) (id (at 4 12)
    "Cell") (at 4 16) ∷ item.AccessType (at 5 4) (id (at 5 9) "List") (at 5 14) (at 5 17) (mark (at 5 24) "Cell") (at 5
    28) ∷ item.RecordType (at 6 4) (id (at 6 9) "Cell") (at 6 14) (at 6 17) (fields_of (id (at 6 24) "Value") [] (at 6
    30) (mark (at 6 32) "Integer") (at 6 39)) (fields_of (id (at 6 41) "Next") [] (at 6 46) (mark (at 6 48) "List") (at
    6 52) ∷ []) (at 6 54) (at 6 58) (at 6 64) ∷ objects_of (id (at 7 7) "X") (next_id_of (at 7 8) (at 7 10) "Y" ∷ [])
    (at 7 12) None (indication_of (mark (at 7 14) "List")) (at 7 18) ∷ initialized_of (id (at 8 7) "N") [] (at 8 9) None
    (indication_of (mark (at 8 11) "Integer")) (at 8 19) (expr_of (at 8 22) (primary.Number (at 8 22) 7)) (at 8 23) ∷
    []) (at 9 4) (stmts.Sequence (at 10 1) (stmt.IfElse (at 10 1) (expr.LoneRelation (at 10 4) (rel.Compared (at 10 4)
    (sum_of (at 10 4) (object (at 10 4) "N")) relational.Greater (at 10 6) (sum_of (at 10 8) (primary.Number (at 10 8)
    3)))) (at 10 10) (sole (at 10 15) (assign_of (at 10 15) "N" [] (at 10 17) (expr.LoneRelation (at 10 20) (rel.LoneSum
    (at 10 20) (sum.Unsigned (at 10 20) (term_of (at 10 20) (object (at 10 20) "N")) (next_term.FurtherTerm (at 10 22)
    adding.Subtract (term_of (at 10 24) (primary.Number (at 10 24) 1)) ∷ [])))) (at 10 25))) [] (at 10 27) (sole (at 10
    32) (stmt.Null (at 10 32) (at 10 36))) (at 10 38) (at 10 42) (at 10 44)) (assign_of (at 11 1) "Y" [] (at 11 3)
    (expr_of (at 11 6) (object (at 11 6) "X")) (at 11 7) ∷ assign_of (at 11 9) "X" [] (at 11 11) (expr_of (at 11 14)
    (primary.Null (at 11 14))) (at 11 18) ∷ [])) (at 12 7) (Some (id (at 12 11) "Main")) (at 12 15)) ∷ unit.OfPackage
    (at 13 1) [] (package_of (at 13 1) (id (at 13 9) "Main") None (at 13 14) (decl.OfItem (at 13 17) (objects_of (id (at
    13 17) "Extra_X") [] (at 13 25) None (indication_of (mark (at 13 27) "Integer")) (at 13 34)) ∷ []) None (at 13 36)
    (Some (id (at 13 40) "Main")) (at 13 44)) ∷ []) ∷ [])
unfolding computes resolves
two_n1_11 = refl

two_n1_12 : IsFirstBrokenOf Unknown (at 1 6) ((unit.OfPackage (at 1 1) (context.With (at 1 1) (dotted_of (id (at 1 6)
    "Ada") (next_part.FurtherPart (at 1 9) (id (at 1 10) "Text_IO") ∷ next_part.FurtherPart (at 1 17) (id (at 1 18)
    "Put") ∷ [])) [] (at 1 21) ∷ []) (package_of (at 1 23) (id (at 1 31) "Extra_R") None (at 1 39) (decl.OfItem (at 1
    42) (objects_of (id (at 1 42) "Extra_Z") [] (at 1 50) None (indication_of (mark (at 1 52) "Integer")) (at 1 59)) ∷
    []) None (at 1 61) (Some (id (at 1 65) "Extra_R")) (at 1 72)) ∷ []) ∷ (unit.OfSubprogram (at1 1 1) (context.With
    (at1 1 1) (selected (at1 1 6) "Ada" (at1 1 9) (at1 1 10) "Text_IO") [] (at1 1 17) ∷ use_context (use_of (at1 1 19)
    None (selected (at1 1 23) "Ada" (at1 1 26) (at1 1 27) "Text_IO") [] (at1 1 34)) ∷ context.With (at1 1 36) (selected
    (at1 1 41) "Ada" (at1 1 44) (at1 1 45) "Integer_Text_IO") [] (at1 1 60) ∷ use_context (use_of (at1 1 62) None
    (selected (at1 1 66) "Ada" (at1 1 69) (at1 1 70) "Integer_Text_IO") [] (at1 1 85)) ∷ context.With (at1 1 87)
    (selected (at1 1 92) "Ada" (at1 1 95) (at1 1 96) "Unchecked_Deallocation") [] (at1 1 118) ∷ []) (subprogram_of (at1
    2 1) (subspec.Procedure (at1 2 1) (id (at1 2 11) "Main") None) None (at1 2 16) (item.IncompleteType (at1 3 1) (id
    (at1 3 6) "Cell") (at1 3 10) ∷ item.AccessType (at1 4 1) (id (at1 4 6) "List") (at1 4 11) (at1 4 14) (mark (at1 4
    21) "Cell") (at1 4 25) ∷ item.RecordType (at1 4 27) (id (at1 4 32) "Cell") (at1 4 37) (at1 4 40) (fields_of (id (at1
    4 47) "Value") [] (at1 4 53) (mark (at1 4 55) "Integer") (at1 4 62)) (fields_of (id (at1 4 64) "Next") [] (at1 4 69)
    (mark (at1 4 71) "List") (at1 4 75) ∷ []) (at1 4 77) (at1 4 81) (at1 4 87) ∷ objects_of (id (at1 4 89) "X")
    (next_id_of (at1 4 90) (at1 4 92) "Y" ∷ []) (at1 4 94) None (indication_of (mark (at1 4 96) "List")) (at1 4 100) ∷
    initialized_of (id (at1 5 1) "N") [] (at1 5 3) None (indication_of (mark (at1 5 5) "Integer")) (at1 5 13) (expr_of
    (at1 5 16) (primary.Number (at1 5 16) 3)) (at1 5 17) ∷ []) (at1 5 19) (stmts.Sequence (at1 6 1) (stmt.Case (at1 6 1)
    (expr_of (at1 6 6) (object (at1 6 6) "N")) (at1 6 8) (alternative.Alternative (at1 6 11) (choice.Value (at1 6 16)
    (expr_of (at1 6 16) (primary.Number (at1 6 16) 1))) [] (at1 6 18) (sole (at1 6 21) (stmt.Null (at1 6 21) (at1 6
    25)))) (alternative.Alternative (at1 6 27) (choice.Others (at1 6 32)) [] (at1 6 39) (sole (at1 6 42) (assign_of (at1
    6 42) "N" [] (at1 6 44) (expr_of (at1 6 47) (primary.Number (at1 6 47) 2)) (at1 6 48))) ∷ []) (at1 6 50) (at1 6 54)
    (at1 6 58)) (assign_of (at1 6 60) "X" [] (at1 6 62) (expr_of (at1 6 65) (primary.AllocatedAggregate (at1 6 65) (mark
    (at1 6 69) "Cell") (at1 6 73) (aggregate.Several (at1 6 74) (actual_of (at1 6 75) (object (at1 6 75) "N")) (at1 6
    76) (actual_of (at1 6 78) (primary.Null (at1 6 78))) [] (at1 6 82)))) (at1 6 83) ∷ stmt.IfElse (at1 7 1)
    (expr.LoneRelation (at1 7 4) (rel.Compared (at1 7 4) (sum_of (at1 7 4) (object (at1 7 4) "N")) relational.Greater
    (at1 7 6) (sum_of (at1 7 8) (primary.Number (at1 7 8) 3)))) (at1 7 10) (sole (at1 7 15) (assign_of (at1 7 15) "N" []
    (at1 7 17) (expr.LoneRelation (at1 7 20) (rel.LoneSum (at1 7 20) (sum.Unsigned (at1 7 20) (term_of (at1 7 20)
    (object (at1 7 20) "N")) (next_term.FurtherTerm (at1 7 22) adding.Subtract (term_of (at1 7 24) (primary.Number (at1
    7 24) 1)) ∷ [])))) (at1 7 25))) [] (at1 7 27) (sole (at1 7 32) (stmt.Null (at1 7 32) (at1 7 36))) (at1 7 38) (at1 7
    42) (at1 7 44) ∷ call_of (at1 8 1) "Put_Line" (suffix.Applied (at1 8 10) (actual_of (at1 8 11) (named (at1 8 11)
    "Integer" (suffix.Attribute (at1 8 18) (id (at1 8 19) "Image") ∷ suffix.Applied (at1 8 25) (actual_of (at1 8 26)
    (object (at1 8 26) "N")) [] (at1 8 27) ∷ []))) [] (at1 8 28) ∷ []) (at1 8 29) ∷ assign_of (at1 8 31) "N" [] (at1 8
    33) (expr.LoneRelation (at1 8 36) (rel.LoneSum (at1 8 36) (sum.Unsigned (at1 8 36) (term.Product (at1 8 36)
    (factor_of (at1 8 36) (object (at1 8 36) "N")) (next_factor.FurtherFactor (at1 8 38) multiplying.Multiply (factor_of
    (at1 8 40) (primary.Number (at1 8 40) 2)) ∷ [])) (next_term.FurtherTerm (at1 8 42) adding.Add (term_of (at1 8 44)
    (primary.Number (at1 8 44) 1)) ∷ [])))) (at1 8 45) ∷ [])) (at1 9 1) (Some (id (at1 9 5) "Main")) (at1 9 9)) ∷
    unit.OfPackage (at1 10 1) (context.With (at1 10 1) (selected (at1 10 6) "Ada" (at1 10 9) (at1 10 10) "Text_IO") []
    (at1 10 17) ∷ use_context (use_of (at1 10 19) None (selected (at1 10 23) "Ada" (at1 10 26) (at1 10 27) "Text_IO") []
    (at1 10 34)) ∷ context.With (at1 10 36) (selected (at1 10 41) "Ada" (at1 10 44) (at1 10 45) "Integer_Text_IO") []
    (at1 10 60) ∷ use_context (use_of (at1 10 62) None (selected (at1 10 66) "Ada" (at1 10 69) (at1 10 70)
    "Integer_Text_IO") [] (at1 10 85)) ∷ context.With (at1 10 87) (selected (at1 10 92) "Ada" (at1 10 95) (at1 10 96)
    "Unchecked_Deallocation") [] (at1 10 118) ∷ []) (package_of (at1 10 120) (id (at1 10 128) "Latest_P") None (at1 10
    137) (decl.Subprogram (at1 11 1) (subspec.Procedure (at1 11 1) (id (at1 11 11) "Latest_Q") None) None (at1 11 19) ∷
    []) None (at1 11 21) (Some (id (at1 11 25) "Latest_P")) (at1 11 33)) ∷ unit.OfBody (at1 11 35) [] (package_body_of
    (at1 11 35) (at1 11 43) (id (at1 11 48) "Latest_P") None (at1 11 57) (part.Completed (at1 11 60) (subprogram_of (at1
    11 60) (subspec.Procedure (at1 11 60) (id (at1 11 70) "Latest_Q") None) None (at1 11 79) [] (at1 11 82) (sole (at1
    11 88) (stmt.Null (at1 11 88) (at1 11 92))) (at1 11 94) (Some (id (at1 11 98) "Latest_P")) (at1 11 106)) ∷ []) (at1
    12 1) (Some (id (at1 12 5) "Latest_P")) (at1 12 13)) ∷ []) ∷ [])
unfolding computes resolves
two_n1_12 = refl

two_n1_13 : IsFirstBrokenOf Unknown (at 5 70) ((unit.OfSubprogram (at 1 1) (context.With (at 1 1) (selected (at 1 6)
    "Ada" (at 1 9) (at 1 10) "Text_IO") [] (at 1 17) ∷ use_context (use_of (at 1 19) None (selected (at 1 23) "Ada" (at
    1 26) (at 1 27) "Text_IO") [] (at 1 34)) ∷ context.With (at 1 36) (selected (at 1 41) "Ada" (at 1 44) (at 1 45)
    "Integer_Text_IO") [] (at 1 60) ∷ use_context (use_of (at 1 62) None (selected (at 1 66) "Ada" (at 1 69) (at 1 70)
    "Integer_Text_IO") [] (at 1 85)) ∷ context.With (at 1 87) (selected (at 1 92) "Ada" (at 1 95) (at 1 96)
    "Unchecked_Deallocation") [] (at 1 118) ∷ []) (subprogram_of (at 2 1) (subspec.Procedure (at 2 1) (id (at 2 11)
    "Main") None) None (at 2 16) (item.IncompleteType (at 3 1) (id (at 3 6) "Cell") (at 3 10) ∷ item.AccessType (at 4 1)
    (id (at 4 6) "List") (at 4 11) (at 4 14) (mark (at 4 21) "Cell") (at 4 25) ∷ item.RecordType (at 5 4) (id (at 5 9)
    "Cell") (at 5 14) (at 5 17) (fields_of (id (at 5 24) "Value") [] (at 5 30) (mark (at 5 32) "Integer") (at 5 39))
    (fields_of (id (at 5 41) "Next") [] (at 5 46) (mark (at 5 48) "List") (at 5 52) ∷ []) (at 5 54) (at 5 58) (at 5 64)
    ∷ use_item (use_of (at 5 66) None (mark (at 5 70) "Integer") [] (at 5 77)) ∷ objects_of (id (at 6 1) "X")
    (next_id_of (at 6 2) (at 6 4) "Y" ∷ []) (at 6 6) None (indication_of (mark (at 6 8) "List")) (at 6 12) ∷
    initialized_of (id (at 7 1) "N") [] (at 7 3) None (indication_of (mark (at 7 5) "Integer")) (at 7 13) (expr_of (at 7
    16) (primary.Number (at 7 16) 9)) (at 7 17) ∷ []) (at 8 4) (stmts.Sequence (at 9 1) (stmt.DeclareBlock (at 9 1)
    (initialized_of (id (at 9 9) "B") [] (at 9 11) None (indication.Anonymous (at 9 13) None (mark (at 9 20) "Cell"))
    (at 9 25) (expr_of (at 9 28) (object (at 9 28) "X")) (at 9 29) ∷ []) (at 9 31) (stmts.Sequence (at 9 37) (call_of
    (at 9 37) "Spare_Proc" (suffix.Applied (at 9 48) (actual_of (at 9 49) (primary.Number (at 9 49) 1)) [] (at 9 50) ∷
    []) (at 9 51)) (stmt.If (at 9 53) (expr.LoneRelation (at 9 56) (rel.Compared (at 9 56) (sum_of (at 9 56) (object (at
    9 56) "B")) relational.NotEqual (at 9 58) (sum_of (at 9 61) (primary.Null (at 9 61))))) (at 9 66) (sole (at 9 71)
    (assign_of (at 9 71) "B" (suffix.Selected (at 9 72) (id (at 9 73) "Value") ∷ []) (at 9 79) (expr_of (at 9 82)
    (object (at 9 82) "N")) (at 9 83))) [] (at 9 85) (at 9 89) (at 9 91) ∷ [])) (at 9 93) (at 9 96)) (stmt.IfElse (at 10
    1) (expr.LoneRelation (at 10 4) (rel.Compared (at 10 4) (sum_of (at 10 4) (object (at 10 4) "N")) relational.Greater
    (at 10 6) (sum_of (at 10 8) (primary.Number (at 10 8) 3)))) (at 10 10) (sole (at 10 15) (assign_of (at 10 15) "N" []
    (at 10 17) (expr.LoneRelation (at 10 20) (rel.LoneSum (at 10 20) (sum.Unsigned (at 10 20) (term_of (at 10 20)
    (object (at 10 20) "N")) (next_term.FurtherTerm (at 10 22) adding.Subtract (term_of (at 10 24) (primary.Number (at
    10 24) 1)) ∷ [])))) (at 10 25))) [] (at 10 27) (sole (at 10 32) (stmt.Null (at 10 32) (at 10 36))) (at 10 38) (at 10
    42) (at 10 44) ∷ [])) (at 11 1) (Some (id (at 11 5) "Main")) (at 11 9)) ∷ []) ∷ [])
unfolding computes resolves
two_n1_13 = refl

two_n1_14 : IsFirstBrokenOf Unknown (at 3 52) ((unit.OfPackage (at 1 1) [] (package_of (at 1 1) (id (at 1 9) "Plain_P")
    None (at 1 17) (decl.OfItem (at 1 20) (objects_of (id (at 1 20) "Plain_X") [] (at 1 28) None (indication_of (mark
    (at 1 30) "Integer")) (at 1 37)) ∷ []) None (at 1 39) (Some (id (at 1 43) "Plain_P")) (at 1 50)) ∷ unit.OfPackage
    (at 2 1) (context.With (at 2 1) (mark (at 2 6) "Plain_P") [] (at 2 13) ∷ []) (package_of (at 2 15) (id (at 2 23)
    "Plain_R") None (at 2 31) (decl.Subprogram (at 2 34) (subspec.Procedure (at 2 34) (id (at 2 44) "Plain_Q") None)
    None (at 2 51) ∷ []) None (at 2 53) (Some (id (at 2 57) "Plain_R")) (at 2 64)) ∷ unit.OfBody (at 3 1) []
    (package_body_of (at 3 1) (at 3 9) (id (at 3 14) "Plain_R") None (at 3 22) (part.Completed (at 3 25) (subprogram_of
    (at 3 25) (subspec.Procedure (at 3 25) (id (at 3 35) "Plain_Q") None) None (at 3 43) [] (at 3 46) (stmts.Sequence
    (at 3 52) (assign_of (at 3 52) "Plain_X" [] (at 3 60) (expr_of (at 3 63) (primary.Number (at 3 63) 1)) (at 3 64))
    (stmt.DeclareBlock (at 3 66) (use_item (use_of (at 3 74) None (mark (at 3 78) "Plain_P") [] (at 3 85)) ∷ []) (at 3
    87) (sole (at 3 93) (assign_of (at 3 93) "Plain_X" [] (at 3 101) (expr_of (at 3 104) (primary.Number (at 3 104) 2))
    (at 3 105))) (at 3 107) (at 3 110) ∷ [])) (at 3 112) (Some (id (at 3 116) "Plain_Q")) (at 3 123)) ∷ []) (at 3 125)
    (Some (id (at 3 129) "Plain_R")) (at 3 136)) ∷ unit.OfSubprogram (at 4 1) (context.With (at 4 1) (selected (at 4 6)
    "Ada" (at 4 9) (at 4 10) "Text_IO") [] (at 4 17) ∷ use_context (use_of (at 4 19) None (selected (at 4 23) "Ada" (at
    4 26) (at 4 27) "Text_IO") [] (at 4 34)) ∷ context.With (at 4 36) (selected (at 4 41) "Ada" (at 4 44) (at 4 45)
    "Integer_Text_IO") [] (at 4 60) ∷ use_context (use_of (at 4 62) None (selected (at 4 66) "Ada" (at 4 69) (at 4 70)
    "Integer_Text_IO") [] (at 4 85)) ∷ context.With (at 4 87) (selected (at 4 92) "Ada" (at 4 95) (at 4 96)
    "Unchecked_Deallocation") [] (at 4 118) ∷ []) (subprogram_of (at 5 1) (subspec.Procedure (at 5 1) (id (at 5 11)
    "Main") None) None (at 5 16) (item.IncompleteType (at 6 1) (id (at 6 6) "Cell") (at 6 10) ∷ item.AccessType (at 7 1)
    (id (at 7 6) "List") (at 7 11) (at 7 14) (mark (at 7 21) "Cell") (at 7 25) ∷ item.RecordType (at 8 1) (id (at 8 6)
    "Cell") (at 8 11) (at 8 14) (fields_of (id (at 8 21) "Value") [] (at 8 27) (mark (at 8 29) "Integer") (at 8 36))
    (fields_of (id (at 8 38) "Next") [] (at 8 43) (mark (at 8 45) "List") (at 8 49) ∷ []) (at 8 51) (at 8 55) (at 8 61)
    ∷ objects_of (id (at 9 1) "X") (next_id_of (at 9 2) (at 9 4) "Y" ∷ []) (at 9 6) None (indication_of (mark (at 9 8)
    "List")) (at 9 12) ∷ initialized_of (id (at 10 1) "N") [] (at 10 3) None (indication_of (mark (at 10 5) "Integer"))
    (at 10 13) (expr_of (at 10 16) (primary.Number (at 10 16) 5)) (at 10 17) ∷ item.Instance (at 11 1) (id (at 11 11)
    "Free") (at 11 16) (at 11 19) (selected (at 11 23) "Ada" (at 11 26) (at 11 27) "Unchecked_Deallocation") (at 11 50)
    (actual_of (at 11 51) (object (at 11 51) "Cell")) (next_arg.FurtherArg (at 11 55) (actual_of (at 11 57) (object (at
    11 57) "List")) ∷ []) (at 11 61) (at 11 62) ∷ []) (at 12 1) (stmts.Sequence (at 13 1) (stmt.Case (at 13 1) (expr_of
    (at 13 6) (object (at 13 6) "N")) (at 13 8) (alternative.Alternative (at 13 11) (choice.Value (at 13 16) (expr_of
    (at 13 16) (primary.Number (at 13 16) 1))) [] (at 13 18) (sole (at 13 21) (stmt.Null (at 13 21) (at 13 25))))
    (alternative.Alternative (at 13 27) (choice.Others (at 13 32)) [] (at 13 39) (sole (at 13 42) (assign_of (at 13 42)
    "N" [] (at 13 44) (expr_of (at 13 47) (primary.Number (at 13 47) 2)) (at 13 48))) ∷ []) (at 13 50) (at 13 54) (at 13
    58)) (stmt.DeclareBlock (at 14 1) (initialized_of (id (at 14 9) "B") [] (at 14 11) None (indication.Anonymous (at 14
    13) None (mark (at 14 20) "Cell")) (at 14 25) (expr_of (at 14 28) (object (at 14 28) "X")) (at 14 29) ∷ []) (at 14
    31) (sole (at 14 37) (stmt.If (at 14 37) (expr.LoneRelation (at 14 40) (rel.Compared (at 14 40) (sum_of (at 14 40)
    (object (at 14 40) "B")) relational.NotEqual (at 14 42) (sum_of (at 14 45) (primary.Null (at 14 45))))) (at 14 50)
    (sole (at 14 55) (assign_of (at 14 55) "B" (suffix.Selected (at 14 56) (id (at 14 57) "Value") ∷ []) (at 14 63)
    (expr_of (at 14 66) (object (at 14 66) "N")) (at 14 67))) [] (at 14 69) (at 14 73) (at 14 75))) (at 14 77) (at 14
    80) ∷ [])) (at 15 1) (Some (id (at 15 5) "Main")) (at 15 9)) ∷ unit.OfPackage (at 16 1) [] (package_of (at 16 1) (id
    (at 16 9) "Main") None (at 16 14) (decl.OfItem (at 16 17) (objects_of (id (at 16 17) "Former_X") [] (at 16 26) None
    (indication_of (mark (at 16 28) "Integer")) (at 16 35)) ∷ []) None (at 16 37) (Some (id (at 16 41) "Main")) (at 16
    45)) ∷ []) ∷ [])
unfolding computes resolves
two_n1_14 = refl

two_n1_15 : IsFirstBrokenOf Unknown (at 5 190) ((unit.OfPackage (at 1 1) (context.With (at 1 1) (selected (at 1 6) "ADA"
    (at 1 9) (at 1 10) "Text_IO") [] (at 1 17) ∷ use_context (use_of (at 1 19) None (selected (at 1 23) "Ada" (at 1 26)
    (at 1 27) "Text_IO") [] (at 1 34)) ∷ context.With (at 1 36) (selected (at 1 41) "aDA" (at 1 44) (at 1 45)
    "Integer_Text_IO") [] (at 1 60) ∷ use_context (use_of (at 1 62) None (selected (at 1 66) "Ada" (at 1 69) (at 1 70)
    "Integer_Text_IO") [] (at 1 85)) ∷ context.With (at 1 87) (selected (at 1 92) "Ada" (at 1 95) (at 1 96)
    "Unchecked_Deallocation") [] (at 1 118) ∷ []) (package_of (at 1 120) (id (at 1 128) "quick_p") None (at 1 136)
    (decl.Subprogram (at 2 1) (subspec.Function (at 2 1) (id (at 2 10) "Quick_F") (Some (formals_of (at 2 18) (moded_of
    (id (at 2 19) "Quick_N") [] (at 2 27) None None (mark (at 2 29) "Integer")) [] (at 2 36))) (at 2 38) (indication_of
    (mark (at 2 45) "Integer"))) None (at 2 52) ∷ []) None (at 3 7) (Some (id (at 3 11) "Quick_P")) (at 3 18)) ∷
    unit.OfBody (at 4 1) [] (package_body_of (at 4 1) (at 4 9) (id (at 4 14) "Quick_P") None (at 4 22) (part.Completed
    (at 5 7) (subprogram_of (at 5 7) (subspec.Function (at 5 7) (id (at 5 16) "quick_f") (Some (formals_of (at 5 24)
    (moded_of (id (at 5 25) "Quick_N") [] (at 5 33) None None (mark (at 5 35) "Integer")) [] (at 5 42))) (at 5 44)
    (indication_of (mark (at 5 51) "Integer"))) None (at 5 59) [] (at 5 63) (sole (at 5 69) (stmt.ReturnValue (at 5 69)
    (expr_of (at 5 76) (object (at 5 76) "quick_n")) (at 5 83))) (at 5 85) None (at 5 88)) ∷ part.Completed (at 5 90)
    (subprogram_of (at 5 90) (subspec.Procedure (at 5 90) (id (at 5 100) "Quick_Run") None) None (at 5 110) (objects_of
    (id (at 5 113) "Quick_X") [] (at 5 121) None (indication_of (mark (at 5 123) "INTEGER")) (at 5 130) ∷ []) (at 5 132)
    (stmts.Sequence (at 5 138) (stmt.DeclareBlock (at 5 138) (objects_of (id (at 5 146) "Usual_X") [] (at 5 154) None
    (indication_of (mark (at 5 156) "Integer")) (at 5 163) ∷ []) (at 5 165) (sole (at 5 171) (assign_of (at 5 171)
    "Usual_X" [] (at 5 179) (expr_of (at 5 182) (primary.Number (at 5 182) 1)) (at 5 183))) (at 5 185) (at 5 188))
    (assign_of (at 5 190) "Usual_X" [] (at 5 198) (expr_of (at 5 201) (primary.Number (at 5 201) 2)) (at 5 202) ∷
    assign_of (at 5 204) "Quick_X" [] (at 5 212) (expr_of (at 5 215) (named (at 5 215) "Quick_F" (suffix.Applied (at 5
    223) (association_of (id (at 5 224) "Quick_M") (at 5 232) (expr_of (at 5 235) (primary.Number (at 5 235) 1))) [] (at
    5 236) ∷ []))) (at 5 237) ∷ [])) (at 5 239) (Some (id (at 5 243) "Quick_Run")) (at 5 252)) ∷ []) (at 6 4) (Some (id
    (at 6 8) "QUICK_P")) (at 6 15)) ∷ unit.OfSubprogram (at 7 1) (context.With (at 7 1) (selected (at 7 6) "Ada" (at 7
    9) (at 7 10) "Text_IO") [] (at 7 17) ∷ use_context (use_of (at 7 19) None (selected (at 7 23) "Ada" (at 7 26) (at 7
    27) "Text_IO") [] (at 7 34)) ∷ context.With (at 7 36) (selected (at 7 41) "Ada" (at 7 44) (at 7 45)
    "Integer_Text_IO") [] (at 7 60) ∷ use_context (use_of (at 7 62) None (selected (at 7 66) "Ada" (at 7 69) (at 7 70)
    "iNTEGER_tEXT_io") [] (at 7 85)) ∷ context.With (at 7 87) (selected (at 7 92) "Ada" (at 7 95) (at 7 96)
    "Unchecked_Deallocation") [] (at 7 118) ∷ []) (subprogram_of (at 8 7) (subspec.Procedure (at 8 7) (id (at 8 17)
    "MAIN") None) None (at 8 22) (item.IncompleteType (at 9 1) (id (at 9 6) "Cell") (at 9 10) ∷ item.AccessType (at 10
    1) (id (at 10 6) "List") (at 10 11) (at 10 14) (mark (at 10 21) "Cell") (at 10 25) ∷ item.RecordType (at 11 1) (id
    (at 11 6) "Cell") (at 11 11) (at 11 14) (fields_of (id (at 11 21) "Value") [] (at 11 27) (mark (at 11 29) "Integer")
    (at 11 36)) (fields_of (id (at 11 38) "Next") [] (at 11 43) (mark (at 11 45) "List") (at 11 49) ∷ []) (at 11 51) (at
    11 55) (at 11 61) ∷ objects_of (id (at 12 1) "x") (next_id_of (at 12 2) (at 12 4) "Y" ∷ []) (at 12 6) None
    (indication_of (mark (at 12 8) "List")) (at 12 12) ∷ initialized_of (id (at 13 1) "N") [] (at 13 3) None
    (indication_of (mark (at 13 5) "Integer")) (at 13 13) (expr_of (at 13 16) (primary.Number (at 13 16) 6)) (at 13 17)
    ∷ []) (at 14 1) (stmts.Sequence (at 15 4) (stmt.For (at 15 4) (id (at 15 8) "I") (at 15 10) None (range.Bounds (at
    15 13) (expr_of (at 15 13) (primary.Number (at 15 13) 1)) (at 15 15) (expr_of (at 15 18) (primary.Number (at 15 18)
    3))) (at 15 20) (sole (at 15 25) (assign_of (at 15 25) "n" [] (at 15 27) (expr.LoneRelation (at 15 30) (rel.LoneSum
    (at 15 30) (sum.Unsigned (at 15 30) (term_of (at 15 30) (object (at 15 30) "N")) (next_term.FurtherTerm (at 15 32)
    adding.Add (term_of (at 15 34) (object (at 15 34) "I")) ∷ [])))) (at 15 35))) (at 15 37) (at 15 41) (at 15 45))
    (assign_of (at 16 7) "X" [] (at 16 9) (expr_of (at 16 12) (primary.AllocatedAggregate (at 16 12) (mark (at 16 16)
    "Cell") (at 16 20) (aggregate.Several (at 16 21) (actual_of (at 16 22) (object (at 16 22) "N")) (at 16 23)
    (actual_of (at 16 25) (primary.Null (at 16 25))) [] (at 16 29)))) (at 16 30) ∷ [])) (at 17 1) (Some (id (at 17 5)
    "Main")) (at 17 9)) ∷ []) ∷ [])
unfolding computes resolves
two_n1_15 = refl

two_n1_16 : IsFirstBrokenOf Unknown (at 2 84) ((unit.OfPackage (at 1 4) [] (package_of (at 1 4) (id (at 1 12)
    "Former_P") None (at 1 21) (decl.OfItem (at 1 24) (objects_of (id (at 1 24) "Former_Y") [] (at 1 33) None
    (indication_of (mark (at 1 35) "Integer")) (at 1 42)) ∷ []) None (at 1 44) (Some (id (at 1 48) "Former_P")) (at 1
    56)) ∷ unit.OfPackage (at 2 4) (context.With (at 2 4) (mark (at 2 9) "Former_P") [] (at 2 17) ∷ use_context (use_of
    (at 2 19) None (mark (at 2 23) "Former_P") [] (at 2 31)) ∷ []) (package_of (at 2 33) (id (at 2 41) "Former_R") None
    (at 2 50) (decl.OfItem (at 2 53) (initialized_of (id (at 2 53) "Former_Z") [] (at 2 62) None (indication_of (mark
    (at 2 64) "Integer")) (at 2 72) (expr_of (at 2 75) (named (at 2 75) "Former_P" (suffix.Selected (at 2 83) (id (at 2
    84) "Former_X") ∷ []))) (at 2 92)) ∷ []) None (at 2 94) (Some (id (at 2 98) "Former_R")) (at 2 106)) ∷
    unit.OfPackage (at 3 4) (context.With (at 3 4) (selected (at 3 9) "Ada" (at 3 12) (at 3 13) "Text_IO") [] (at 3 20)
    ∷ use_context (use_of (at 3 22) None (selected (at 3 26) "Ada" (at 3 29) (at 3 30) "Text_IO") [] (at 3 37)) ∷
    context.With (at 3 39) (selected (at 3 44) "Ada" (at 3 47) (at 3 48) "Integer_Text_IO") [] (at 3 63) ∷ use_context
    (use_of (at 3 65) None (selected (at 3 69) "Ada" (at 3 72) (at 3 73) "Integer_Text_IO") [] (at 3 88)) ∷ context.With
    (at 3 90) (selected (at 3 95) "Ada" (at 3 98) (at 3 99) "Unchecked_Deallocation") [] (at 3 121) ∷ []) (package_of
    (at 3 123) (id (at 3 131) "Second_P") None (at 3 140) (decl.Subprogram (at 4 4) (subspec.Procedure (at 4 4) (id (at
    4 14) "Second_Do") None) None (at 4 23) ∷ []) None (at 5 7) (Some (id (at 5 11) "Second_P")) (at 5 19)) ∷
    unit.OfBody (at 6 4) [] (package_body_of (at 6 4) (at 6 12) (id (at 6 17) "Second_P") None (at 6 26) (part.Completed
    (at 7 1) (subprogram_of (at 7 1) (subspec.Procedure (at 7 1) (id (at 7 11) "Second_Do") None) None (at 7 21)
    (objects_of (id (at 7 24) "Second_X") [] (at 7 33) None (indication_of (mark (at 7 35) "Integer")) (at 7 42) ∷ [])
    (at 7 44) (sole (at 7 50) (stmt.Case (at 7 50) (expr_of (at 7 55) (object (at 7 55) "Second_X")) (at 7 64)
    (alternative.Alternative (at 7 67) (choice.Others (at 7 72)) (next_choice.Bar (at 7 79) (choice.Value (at 7 81)
    (expr_of (at 7 81) (primary.Number (at 7 81) 1))) ∷ []) (at 7 83) (sole (at 7 86) (stmt.Null (at 7 86) (at 7 90))))
    [] (at 7 92) (at 7 96) (at 7 100))) (at 7 102) (Some (id (at 7 106) "Second_Do")) (at 7 115)) ∷ []) (at 8 1) (Some
    (id (at 8 5) "Second_P")) (at 8 13)) ∷ unit.OfSubprogram (at 9 4) (context.With (at 9 4) (selected (at 9 9) "Ada"
    (at 9 12) (at 9 13) "Text_IO") [] (at 9 20) ∷ use_context (use_of (at 9 22) None (selected (at 9 26) "Ada" (at 9 29)
    (at 9 30) "Text_IO") [] (at 9 37)) ∷ context.With (at 9 39) (selected (at 9 44) "Ada" (at 9 47) (at 9 48)
    "Integer_Text_IO") [] (at 9 63) ∷ use_context (use_of (at 9 65) None (selected (at 9 69) "Ada" (at 9 72) (at 9 73)
    "Integer_Text_IO") [] (at 9 88)) ∷ context.With (at 9 90) (selected (at 9 95) "Ada" (at 9 98) (at 9 99)
    "Unchecked_Deallocation") [] (at 9 121) ∷ []) (subprogram_of (at 10 4) (subspec.Procedure (at 10 4) (id (at 10 14)
    "Main") None) None (at 10 19) (item.IncompleteType (at 11 1) (id (at 11 6) "Cell") (at 11 10) ∷ item.AccessType (at
    12 7) (id (at 12 12) "List") (at 12 17) (at 12 20) (mark (at 12 27) "Cell") (at 12 31) ∷ item.RecordType (at 13 1)
    (id (at 13 6) "Cell") (at 13 11) (at 13 14) (fields_of (id (at 13 21) "Value") [] (at 13 27) (mark (at 13 29)
    "Integer") (at 13 36)) (fields_of (id (at 13 38) "Next") [] (at 13 43) (mark (at 13 45) "List") (at 13 49) ∷ []) (at
    13 51) (at 13 55) (at 13 61) ∷ objects_of (id (at 14 4) "X") (next_id_of (at 14 5) (at 14 7) "Y" ∷ []) (at 14 9)
    None (indication_of (mark (at 14 11) "List")) (at 14 15) ∷ initialized_of (id (at 15 1) "N") [] (at 15 3) None
    (indication_of (mark (at 15 5) "Integer")) (at 15 13) (expr_of (at 15 16) (primary.Number (at 15 16) 1)) (at 15 17)
    ∷ item.Instance (at 16 4) (id (at 16 14) "Free") (at 16 19) (at 16 22) (selected (at 16 26) "Ada" (at 16 29) (at 16
    30) "Unchecked_Deallocation") (at 16 53) (actual_of (at 16 54) (object (at 16 54) "Cell")) (next_arg.FurtherArg (at
    16 58) (actual_of (at 16 60) (object (at 16 60) "List")) ∷ []) (at 16 64) (at 16 65) ∷ []) (at 17 7) (stmts.Sequence
    (at 18 1) (assign_of (at 18 1) "Y" [] (at 18 3) (expr_of (at 18 6) (object (at 18 6) "X")) (at 18 7)) (assign_of (at
    18 9) "X" [] (at 18 11) (expr_of (at 18 14) (primary.Null (at 18 14))) (at 18 18) ∷ stmt.If (at 19 1)
    (expr.LoneRelation (at 19 4) (rel.LoneSum (at 19 4) (sum.Unsigned (at 19 4) (term.Product (at 19 4) (factor.Not (at
    19 4) (object (at 19 8) "End_Of_File")) []) []))) (at 19 20) (sole (at 19 25) (call_of (at 19 25) "Get"
    (suffix.Applied (at 19 29) (actual_of (at 19 30) (object (at 19 30) "N")) [] (at 19 31) ∷ []) (at 19 32))) [] (at 19
    34) (at 19 38) (at 19 40) ∷ stmt.For (at 20 4) (id (at 20 8) "I") (at 20 10) None (range.Bounds (at 20 13) (expr_of
    (at 20 13) (primary.Number (at 20 13) 1)) (at 20 15) (expr_of (at 20 18) (primary.Number (at 20 18) 3))) (at 20 20)
    (sole (at 20 25) (assign_of (at 20 25) "N" [] (at 20 27) (expr.LoneRelation (at 20 30) (rel.LoneSum (at 20 30)
    (sum.Unsigned (at 20 30) (term_of (at 20 30) (object (at 20 30) "N")) (next_term.FurtherTerm (at 20 32) adding.Add
    (term_of (at 20 34) (object (at 20 34) "I")) ∷ [])))) (at 20 35))) (at 20 37) (at 20 41) (at 20 45) ∷ call_of (at 21
    7) "Put_Line" (suffix.Applied (at 21 16) (actual_of (at 21 17) (named (at 21 17) "Integer" (suffix.Attribute (at 21
    24) (id (at 21 25) "Image") ∷ suffix.Applied (at 21 31) (actual_of (at 21 32) (object (at 21 32) "N")) [] (at 21 33)
    ∷ []))) [] (at 21 34) ∷ []) (at 21 35) ∷ [])) (at 22 1) (Some (id (at 22 5) "Main")) (at 22 9)) ∷ []) ∷ [])
unfolding computes resolves
two_n1_16 = refl
