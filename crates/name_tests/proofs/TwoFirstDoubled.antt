-- Two rules are broken in one file, and N2 is first: by its position, or there by its code.
--
-- tools/tree_terms.py makes this of the sources that data/cases.txt has under its name.
use Rattle.std.proofs.Common.{refl, [], ◌∷◌}
use Rattle.std.specs.Prelude.{None, Some}
use Rattle.ada_tree.specs.declared.operator.AddingOperator.TheVariants as adding
use Rattle.ada_tree.specs.declared.expression.Aggregate.TheVariants as aggregate
use Rattle.ada_tree.specs.declared.statement.When.TheVariants as alternative
use Rattle.ada_tree.specs.declared.range.Choice.TheVariants as choice
use Rattle.ada_tree.specs.declared.unit.Context.TheVariants as context
use Rattle.ada_tree.specs.declared.subprogram.Decl.TheVariants as decl
use Rattle.ada_tree.specs.declared.expression.Expr.TheVariants as expr
use Rattle.ada_tree.specs.declared.expression.Factor.TheVariants as factor
use Rattle.ada_tree.specs.declared.declaration.Indication.TheVariants as indication
use Rattle.ada_tree.specs.declared.declaration.Item.TheVariants as item
use Rattle.ada_tree.specs.declared.operator.MultiplyingOperator.TheVariants as multiplying
use Rattle.ada_tree.specs.declared.expression.NextArg.TheVariants as next_arg
use Rattle.ada_tree.specs.declared.expression.NextFactor.TheVariants as next_factor
use Rattle.ada_tree.specs.declared.expression.NextTerm.TheVariants as next_term
use Rattle.ada_tree.specs.declared.unit.BodyPart.TheVariants as part
use Rattle.ada_tree.specs.declared.expression.Primary.TheVariants as primary
use Rattle.ada_tree.specs.declared.range.Range.TheVariants as range
use Rattle.ada_tree.specs.declared.expression.Rel.TheVariants as rel
use Rattle.ada_tree.specs.declared.operator.RelationalOperator.TheVariants as relational
use Rattle.ada_tree.specs.declared.statement.Stmt.TheVariants as stmt
use Rattle.ada_tree.specs.declared.statement.Stmts.TheVariants as stmts
use Rattle.ada_tree.specs.declared.subprogram.Subspec.TheVariants as subspec
use Rattle.ada_tree.specs.declared.expression.Suffix.TheVariants as suffix
use Rattle.ada_tree.specs.declared.expression.Sum.TheVariants as sum
use Rattle.ada_tree.specs.declared.expression.Term.TheVariants as term
use Rattle.ada_tree.specs.declared.unit.SourceUnit.TheVariants as unit
use Rattle.ada_grammar.proofs.SmallSources.{computes}
use Rattle.name_events.specs.declared.declaration.NameRule.TheVariants.{Twice}
use Rattle.name_tests.proofs.SmallRules.{resolves}
use Rattle.name_tests.proofs.SourceTrees.{IsFirstBrokenOf, actual_of, assign_of, at, call_of, expr_of, factor_of, fields_of, formals_of, id, indication_of, initialized_of, mark, marked_of, moded_of, named, next_id_of, numbers_of, object, objects_of, package_body_of, package_of, private_part, selected, sole, subprogram_of, sum_of, term_of, use_context, use_item, use_of}

two_n2_1 : IsFirstBrokenOf Twice (at 3 54) ((unit.OfSubprogram (at 1 1) (context.With (at 1 1) (selected (at 1 6) "Ada"
    (at 1 9) (at 1 10) "Text_IO") [] (at 1 17) ∷ use_context (use_of (at 1 19) None (selected (at 1 23) "Ada" (at 1 26)
    (at 1 27) "Text_IO") [] (at 1 34)) ∷ context.With (at 1 36) (selected (at 1 41) "Ada" (at 1 44) (at 1 45)
    "Integer_Text_IO") [] (at 1 60) ∷ use_context (use_of (at 1 62) None (selected (at 1 66) "Ada" (at 1 69) (at 1 70)
    "Integer_Text_IO") [] (at 1 85)) ∷ context.With (at 1 87) (selected (at 1 92) "Ada" (at 1 95) (at 1 96)
    "Unchecked_Deallocation") [] (at 1 118) ∷ []) (subprogram_of (at 2 1) (subspec.Procedure (at 2 1) (id (at 2 11)
    "Main") None) None (at 2 16) (item.IncompleteType (at 3 1) (id (at 3 6) "Cell") (at 3 10) ∷ item.RecordType (at 3
    12) (id (at 3 17) "Extra_R") (at 3 25) (at 3 28) (fields_of (id (at 3 35) "Extra_X") [] (at 3 43) (mark (at 3 45)
    "Integer") (at 3 52)) (fields_of (id (at 3 54) "Extra_X") [] (at 3 62) (mark (at 3 64) "Boolean") (at 3 71) ∷ [])
    (at 3 73) (at 3 77) (at 3 83) ∷ item.AccessType (at 4 1) (id (at 4 6) "List") (at 4 11) (at 4 14) (mark (at 4 21)
    "Cell") (at 4 25) ∷ item.RecordType (at 5 1) (id (at 5 6) "Cell") (at 5 11) (at 5 14) (fields_of (id (at 5 21)
    "Value") [] (at 5 27) (mark (at 5 29) "Integer") (at 5 36)) (fields_of (id (at 5 38) "Next") [] (at 5 43) (mark (at
    5 45) "List") (at 5 49) ∷ []) (at 5 51) (at 5 55) (at 5 61) ∷ objects_of (id (at 6 1) "X") (next_id_of (at 6 2) (at
    6 4) "Y" ∷ []) (at 6 6) None (indication_of (mark (at 6 8) "List")) (at 6 12) ∷ initialized_of (id (at 7 1) "N") []
    (at 7 3) None (indication_of (mark (at 7 5) "Integer")) (at 7 13) (expr_of (at 7 16) (primary.Number (at 7 16) 1))
    (at 7 17) ∷ use_item (use_of (at 7 19) (Some (at 7 23)) (selected (at 7 28) "Ada" (at 7 31) (at 7 32) "Text_IO") []
    (at 7 39)) ∷ []) (at 8 1) (stmts.Sequence (at 9 1) (assign_of (at 9 1) "X" [] (at 9 3) (expr_of (at 9 6)
    (primary.AllocatedAggregate (at 9 6) (mark (at 9 10) "Cell") (at 9 14) (aggregate.Several (at 9 15) (actual_of (at 9
    16) (object (at 9 16) "N")) (at 9 17) (actual_of (at 9 19) (primary.Null (at 9 19))) [] (at 9 23)))) (at 9 24))
    (assign_of (at 10 1) "N" [] (at 10 3) (expr.LoneRelation (at 10 6) (rel.LoneSum (at 10 6) (sum.Unsigned (at 10 6)
    (term.Product (at 10 6) (factor_of (at 10 6) (object (at 10 6) "N")) (next_factor.FurtherFactor (at 10 8)
    multiplying.Multiply (factor_of (at 10 10) (primary.Number (at 10 10) 2)) ∷ [])) (next_term.FurtherTerm (at 10 12)
    adding.Add (term_of (at 10 14) (primary.Number (at 10 14) 1)) ∷ [])))) (at 10 15) ∷ assign_of (at 11 1) "Y" [] (at
    11 3) (expr_of (at 11 6) (object (at 11 6) "X")) (at 11 7) ∷ assign_of (at 11 9) "X" [] (at 11 11) (expr_of (at 11
    14) (primary.Null (at 11 14))) (at 11 18) ∷ [])) (at 12 1) (Some (id (at 12 5) "Main")) (at 12 9)) ∷ []) ∷ [])
unfolding computes resolves
two_n2_1 = refl

two_n2_2 : IsFirstBrokenOf Twice (at 3 38) ((unit.OfSubprogram (at 1 1) (context.With (at 1 1) (selected (at 1 6) "ada"
    (at 1 9) (at 1 10) "TEXT_IO") [] (at 1 17) ∷ use_context (use_of (at 1 19) None (selected (at 1 23) "Ada" (at 1 26)
    (at 1 27) "Text_IO") [] (at 1 34)) ∷ context.With (at 1 36) (selected (at 1 41) "Ada" (at 1 44) (at 1 45)
    "Integer_Text_IO") [] (at 1 60) ∷ use_context (use_of (at 1 62) None (selected (at 1 66) "Ada" (at 1 69) (at 1 70)
    "Integer_Text_IO") [] (at 1 85)) ∷ context.With (at 1 87) (selected (at 1 92) "Ada" (at 1 95) (at 1 96)
    "Unchecked_Deallocation") [] (at 1 118) ∷ []) (subprogram_of (at 2 1) (subspec.Procedure (at 2 1) (id (at 2 11)
    "Main") None) None (at 2 16) (item.IncompleteType (at 3 1) (id (at 3 6) "Cell") (at 3 10) ∷ item.EnumerationType (at
    3 12) (id (at 3 17) "Inner_T") (at 3 25) (at 3 28) (id (at 3 29) "Inner_A") (next_id_of (at 3 36) (at 3 38)
    "Inner_T" ∷ []) (at 3 45) (at 3 46) ∷ item.AccessType (at 4 1) (id (at 4 6) "LIST") (at 4 11) (at 4 14) (mark (at 4
    21) "Cell") (at 4 25) ∷ item.RecordType (at 5 1) (id (at 5 6) "Cell") (at 5 11) (at 5 14) (fields_of (id (at 5 21)
    "Value") [] (at 5 27) (mark (at 5 29) "Integer") (at 5 36)) (fields_of (id (at 5 38) "Next") [] (at 5 43) (mark (at
    5 45) "List") (at 5 49) ∷ []) (at 5 51) (at 5 55) (at 5 61) ∷ objects_of (id (at 6 1) "X") (next_id_of (at 6 2) (at
    6 4) "Y" ∷ []) (at 6 6) None (indication_of (mark (at 6 8) "List")) (at 6 12) ∷ initialized_of (id (at 7 1) "N") []
    (at 7 3) None (indication_of (mark (at 7 5) "iNTEGER")) (at 7 13) (expr_of (at 7 16) (primary.Number (at 7 16) 9))
    (at 7 17) ∷ []) (at 8 1) (stmts.Sequence (at 8 7) (stmt.DeclareBlock (at 8 7) (objects_of (id (at 8 15) "Spare_X")
    [] (at 8 23) None (indication_of (mark (at 8 25) "Integer")) (at 8 32) ∷ []) (at 8 34) (sole (at 8 40) (assign_of
    (at 8 40) "Spare_X" [] (at 8 48) (expr_of (at 8 51) (primary.Number (at 8 51) 1)) (at 8 52))) (at 8 54) (at 8 57))
    (assign_of (at 8 59) "Spare_X" [] (at 8 67) (expr_of (at 8 70) (primary.Number (at 8 70) 2)) (at 8 71) ∷ stmt.If (at
    9 1) (expr.LoneRelation (at 9 4) (rel.LoneSum (at 9 4) (sum.Unsigned (at 9 4) (term.Product (at 9 4) (factor.Not (at
    9 4) (object (at 9 8) "End_Of_File")) []) []))) (at 9 20) (sole (at 9 25) (call_of (at 9 25) "Get" (suffix.Applied
    (at 9 29) (actual_of (at 9 30) (object (at 9 30) "N")) [] (at 9 31) ∷ []) (at 9 32))) [] (at 9 34) (at 9 38) (at 9
    40) ∷ stmt.While (at 10 1) (expr.LoneRelation (at 10 7) (rel.Compared (at 10 7) (sum_of (at 10 7) (object (at 10 7)
    "N")) relational.Greater (at 10 9) (sum_of (at 10 11) (primary.Number (at 10 11) 5)))) (at 10 13) (sole (at 10 18)
    (assign_of (at 10 18) "n" [] (at 10 20) (expr.LoneRelation (at 10 23) (rel.LoneSum (at 10 23) (sum.Unsigned (at 10
    23) (term.Product (at 10 23) (factor_of (at 10 23) (object (at 10 23) "N")) (next_factor.FurtherFactor (at 10 25)
    multiplying.Divide (factor_of (at 10 27) (primary.Number (at 10 27) 2)) ∷ [])) []))) (at 10 28))) (at 10 30) (at 10
    34) (at 10 38) ∷ stmt.For (at 11 1) (id (at 11 5) "I") (at 11 7) None (range.Bounds (at 11 10) (expr_of (at 11 10)
    (primary.Number (at 11 10) 1)) (at 11 12) (expr_of (at 11 15) (primary.Number (at 11 15) 3))) (at 11 17) (sole (at
    11 22) (assign_of (at 11 22) "N" [] (at 11 24) (expr.LoneRelation (at 11 27) (rel.LoneSum (at 11 27) (sum.Unsigned
    (at 11 27) (term_of (at 11 27) (object (at 11 27) "N")) (next_term.FurtherTerm (at 11 29) adding.Add (term_of (at 11
    31) (object (at 11 31) "I")) ∷ [])))) (at 11 32))) (at 11 34) (at 11 38) (at 11 42) ∷ assign_of (at 12 1) "N" [] (at
    12 3) (expr.LoneRelation (at 12 6) (rel.LoneSum (at 12 6) (sum.Unsigned (at 12 6) (term.Product (at 12 6) (factor_of
    (at 12 6) (object (at 12 6) "n")) (next_factor.FurtherFactor (at 12 8) multiplying.Multiply (factor_of (at 12 10)
    (primary.Number (at 12 10) 2)) ∷ [])) (next_term.FurtherTerm (at 12 12) adding.Add (term_of (at 12 14)
    (primary.Number (at 12 14) 1)) ∷ [])))) (at 12 15) ∷ [])) (at 13 1) (Some (id (at 13 5) "Main")) (at 13 9)) ∷ []) ∷
    [])
unfolding computes resolves
two_n2_2 = refl

two_n2_3 : IsFirstBrokenOf Twice (at 12 11) ((unit.OfSubprogram (at 1 1) (context.With (at 1 1) (selected (at 1 6) "Ada"
    (at 1 9) (at 1 10) "Text_IO") [] (at 1 17) ∷ use_context (use_of (at 1 19) None (selected (at 1 23) "Ada" (at 1 26)
    (at 1 27) "Text_IO") [] (at 1 34)) ∷ context.With (at 1 36) (selected (at 1 41) "Ada" (at 1 44) (at 1 45)
    "Integer_Text_IO") [] (at 1 60) ∷ use_context (use_of (at 1 62) None (selected (at 1 66) "Ada" (at 1 69) (at 1 70)
    "Integer_Text_IO") [] (at 1 85)) ∷ context.With (at 1 87) (selected (at 1 92) "Ada" (at 1 95) (at 1 96)
    "Unchecked_Deallocation") [] (at 1 118) ∷ []) (subprogram_of (at 2 1) (subspec.Procedure (at 2 1) (id (at 2 11)
    "Main") None) None (at 2 16) (item.IncompleteType (at 3 1) (id (at 3 6) "Cell") (at 3 10) ∷ item.AccessType (at 4 1)
    (id (at 4 6) "List") (at 4 11) (at 4 14) (mark (at 4 21) "Cell") (at 4 25) ∷ item.RecordType (at 5 1) (id (at 5 6)
    "Cell") (at 5 11) (at 5 14) (fields_of (id (at 5 21) "Value") [] (at 5 27) (mark (at 5 29) "Integer") (at 5 36))
    (fields_of (id (at 5 38) "Next") [] (at 5 43) (mark (at 5 45) "List") (at 5 49) ∷ []) (at 5 51) (at 5 55) (at 5 61)
    ∷ objects_of (id (at 6 1) "X") (next_id_of (at 6 2) (at 6 4) "Y" ∷ []) (at 6 6) None (indication_of (mark (at 6 8)
    "List")) (at 6 12) ∷ initialized_of (id (at 7 1) "N") [] (at 7 3) None (indication_of (mark (at 7 5) "Integer")) (at
    7 13) (expr_of (at 7 16) (primary.Number (at 7 16) 4)) (at 7 17) ∷ []) (at 8 1) (stmts.Sequence (at 9 1) (assign_of
    (at 9 1) "Y" [] (at 9 3) (expr_of (at 9 6) (object (at 9 6) "X")) (at 9 7)) (assign_of (at 9 9) "X" [] (at 9 11)
    (expr_of (at 9 14) (primary.Null (at 9 14))) (at 9 18) ∷ assign_of (at 10 1) "N" [] (at 10 3) (expr.LoneRelation (at
    10 6) (rel.LoneSum (at 10 6) (sum.Unsigned (at 10 6) (term.Product (at 10 6) (factor_of (at 10 6) (object (at 10 6)
    "N")) (next_factor.FurtherFactor (at 10 8) multiplying.Multiply (factor_of (at 10 10) (primary.Number (at 10 10) 2))
    ∷ [])) (next_term.FurtherTerm (at 10 12) adding.Add (term_of (at 10 14) (primary.Number (at 10 14) 1)) ∷ [])))) (at
    10 15) ∷ [])) (at 11 1) (Some (id (at 11 5) "Main")) (at 11 9)) ∷ unit.OfSubprogram (at 12 1) [] (subprogram_of (at
    12 1) (subspec.Procedure (at 12 1) (id (at 12 11) "Quick_Q") None) None (at 12 19) [] (at 12 22) (sole (at 12 28)
    (stmt.Null (at 12 28) (at 12 32))) (at 12 34) (Some (id (at 12 38) "Quick_Q")) (at 12 45)) ∷ unit.OfPackage (at 13
    1) (context.With (at 13 1) (selected (at 13 6) "Ada" (at 13 9) (at 13 10) "Text_IO") [] (at 13 17) ∷ use_context
    (use_of (at 13 19) None (selected (at 13 23) "Ada" (at 13 26) (at 13 27) "Text_IO") [] (at 13 34)) ∷ context.With
    (at 13 36) (selected (at 13 41) "Ada" (at 13 44) (at 13 45) "Integer_Text_IO") [] (at 13 60) ∷ use_context (use_of
    (at 13 62) None (selected (at 13 66) "Ada" (at 13 69) (at 13 70) "Integer_Text_IO") [] (at 13 85)) ∷ context.With
    (at 13 87) (selected (at 13 92) "Ada" (at 13 95) (at 13 96) "Unchecked_Deallocation") [] (at 13 118) ∷ [])
    (package_of (at 13 120) (id (at 13 128) "Second_P") None (at 13 137) (decl.OfItem (at 13 140) (item.IncompleteType
    (at 13 140) (id (at 13 145) "Second_T") (at 13 153)) ∷ decl.OfItem (at 13 155) (item.AccessType (at 13 155) (id (at
    13 160) "Second_P") (at 13 169) (at 13 172) (mark (at 13 179) "Second_T") (at 13 187)) ∷ decl.OfItem (at 13 189)
    (item.IncompleteType (at 13 189) (id (at 13 194) "Second_T") (at 13 202)) ∷ decl.OfItem (at 13 204)
    (item.EnumerationType (at 13 204) (id (at 13 209) "Second_T") (at 13 218) (at 13 221) (id (at 13 222) "Second_A")
    (next_id_of (at 13 230) (at 13 232) "Second_B" ∷ []) (at 13 240) (at 13 241)) ∷ []) None (at 13 243) (Some (id (at
    13 247) "Second_P")) (at 13 255)) ∷ []) ∷ [])
unfolding computes resolves
two_n2_3 = refl

two_n2_4 : IsFirstBrokenOf Twice (at 5 120) ((unit.OfSubprogram (at 1 4) (context.With (at 1 4) (selected (at 1 9) "Ada"
    (at 1 12) (at 1 13) "Text_IO") [] (at 1 20) ∷ use_context (use_of (at 1 22) None (selected (at 1 26) "Ada" (at 1 29)
    (at 1 30) "Text_IO") [] (at 1 37)) ∷ context.With (at 1 39) (selected (at 1 44) "Ada" (at 1 47) (at 1 48)
    "Integer_Text_IO") [] (at 1 63) ∷ use_context (use_of (at 1 65) None (selected (at 1 69) "Ada" (at 1 72) (at 1 73)
    "Integer_Text_IO") [] (at 1 88)) ∷ context.With (at 1 90) (selected (at 1 95) "Ada" (at 1 98) (at 1 99)
    "Unchecked_Deallocation") [] (at 1 121) ∷ []) (subprogram_of (at 2 1) (subspec.Procedure (at 2 1) (id (at 2 11)
    "Main") None) None (at 2 16) (item.IncompleteType (at 3 1) (id (at 3 6) "Cell") (at 3 10) ∷ item.AccessType (at 4 1)
    (id (at 4 6) "List") (at 4 11) (at 4 14) (mark (at 4 21) "Cell") (at 4 25) ∷ item.RecordType (at 5 7) (id (at 5 12)
    "Cell") (at 5 17) (at 5 20) (fields_of (id (at 5 27) "Value") [] (at 5 33) (mark (at 5 35) "Integer") (at 5 42))
    (fields_of (id (at 5 44) "Next") [] (at 5 49) (mark (at 5 51) "List") (at 5 55) ∷ []) (at 5 57) (at 5 61) (at 5 67)
    ∷ item.IncompleteType (at 5 69) (id (at 5 74) "Usual_T") (at 5 81) ∷ item.AccessType (at 5 83) (id (at 5 88)
    "Usual_P") (at 5 96) (at 5 99) (mark (at 5 106) "Usual_T") (at 5 113) ∷ item.PrivateType (at 5 115) (id (at 5 120)
    "Usual_T") (at 5 128) (at 5 131) (at 5 138) ∷ item.EnumerationType (at 5 140) (id (at 5 145) "Usual_T") (at 5 153)
    (at 5 156) (id (at 5 157) "Usual_A") (next_id_of (at 5 164) (at 5 166) "Usual_B" ∷ []) (at 5 173) (at 5 174) ∷
    objects_of (id (at 6 1) "X") (next_id_of (at 6 2) (at 6 4) "Y" ∷ []) (at 6 6) None (indication_of (mark (at 6 8)
    "List")) (at 6 12) ∷ initialized_of (id (at 7 1) "N") [] (at 7 3) None (indication_of (mark (at 7 5) "Integer")) (at
    7 13) (expr_of (at 7 16) (primary.Number (at 7 16) 4)) (at 7 17) ∷ item.Instance (at 8 1) (id (at 8 11) "Free") (at
    8 16) (at 8 19) (selected (at 8 23) "Ada" (at 8 26) (at 8 27) "Unchecked_Deallocation") (at 8 50) (actual_of (at 8
    51) (object (at 8 51) "Cell")) (next_arg.FurtherArg (at 8 55) (actual_of (at 8 57) (object (at 8 57) "List")) ∷ [])
    (at 8 61) (at 8 62) ∷ item.AccessType (at 8 64) (id (at 8 69) "Inner_Ptr") (at 8 79) (at 8 82) (mark (at 8 89)
    "Integer") (at 8 96) ∷ objects_of (id (at 8 98) "Inner_X") [] (at 8 106) None (indication_of (mark (at 8 108)
    "Integer")) (at 8 115) ∷ []) (at 9 7) (stmts.Sequence (at 9 13) (assign_of (at 9 13) "Inner_X" [] (at 9 21) (expr_of
    (at 9 24) (named (at 9 24) "Inner_Ptr" (suffix.Attribute (at 9 33) (id (at 9 34) "Last") ∷ []))) (at 9 38))
    (stmt.Case (at 10 1) (expr_of (at 10 6) (object (at 10 6) "N")) (at 10 8) (alternative.Alternative (at 10 11)
    (choice.Value (at 10 16) (expr_of (at 10 16) (primary.Number (at 10 16) 1))) [] (at 10 18) (sole (at 10 21)
    (stmt.Null (at 10 21) (at 10 25)))) (alternative.Alternative (at 10 27) (choice.Others (at 10 32)) [] (at 10 39)
    (sole (at 10 42) (assign_of (at 10 42) "N" [] (at 10 44) (expr_of (at 10 47) (primary.Number (at 10 47) 2)) (at 10
    48))) ∷ []) (at 10 50) (at 10 54) (at 10 58) ∷ stmt.While (at 11 7) (expr.LoneRelation (at 11 13) (rel.Compared (at
    11 13) (sum_of (at 11 13) (object (at 11 13) "N")) relational.Greater (at 11 15) (sum_of (at 11 17) (primary.Number
    (at 11 17) 5)))) (at 11 19) (sole (at 11 24) (assign_of (at 11 24) "N" [] (at 11 26) (expr.LoneRelation (at 11 29)
    (rel.LoneSum (at 11 29) (sum.Unsigned (at 11 29) (term.Product (at 11 29) (factor_of (at 11 29) (object (at 11 29)
    "N")) (next_factor.FurtherFactor (at 11 31) multiplying.Divide (factor_of (at 11 33) (primary.Number (at 11 33) 2))
    ∷ [])) []))) (at 11 34))) (at 11 36) (at 11 40) (at 11 44) ∷ [])) (at 12 1) (Some (id (at 12 5) "Main")) (at 12 9))
    ∷ []) ∷ [])
unfolding computes resolves
two_n2_4 = refl

two_n2_5 : IsFirstBrokenOf Twice (at 13 106) ((unit.OfSubprogram (at 1 4) (context.With (at 1 4) (selected (at 1 9)
    "Ada" (at 1 12) (at 1 13) "Text_IO") [] (at 1 20) ∷ use_context (use_of (at 1 22) None (selected (at 1 26) "Ada" (at
    1 29) (at 1 30) "Text_IO") [] (at 1 37)) ∷ context.With (at 1 39) (selected (at 1 44) "Ada" (at 1 47) (at 1 48)
    "Integer_Text_IO") [] (at 1 63) ∷ use_context (use_of (at 1 65) None (selected (at 1 69) "Ada" (at 1 72) (at 1 73)
    "Integer_Text_IO") [] (at 1 88)) ∷ context.With (at 1 90) (selected (at 1 95) "Ada" (at 1 98) (at 1 99)
    "Unchecked_Deallocation") [] (at 1 121) ∷ []) (subprogram_of (at 2 1) (subspec.Procedure (at 2 1) (id (at 2 11)
    "Main") None) None (at 2 16) (item.IncompleteType (at 3 1) (id (at 3 6) "Cell") (at 3 10) ∷ item.AccessType (at 4 1)
    (id (at 4 6) "List") (at 4 11) (at 4 14) (mark (at 4 21) "Cell") (at 4 25) ∷ item.RecordType (at 5 4) (id (at 5 9)
    "Cell") (at 5 14) (at 5 17) (fields_of (id (at 5 24) "Value") [] (at 5 30) (mark (at 5 32) "Integer") (at 5 39))
    (fields_of (id (at 5 41) "Next") [] (at 5 46) (mark (at 5 48) "List") (at 5 52) ∷ []) (at 5 54) (at 5 58) (at 5 64)
    ∷ objects_of (id (at 6 1) "X") (next_id_of (at 6 2) (at 6 4) "Y" ∷ []) (at 6 6) None (indication_of (mark (at 6 8)
    "List")) (at 6 12) ∷ initialized_of (id (at 7 1) "N") [] (at 7 3) None (indication_of (mark (at 7 5) "Integer")) (at
    7 13) (expr_of (at 7 16) (primary.Number (at 7 16) 5)) (at 7 17) ∷ item.Instance (at 8 4) (id (at 8 14) "Free") (at
    8 19) (at 8 22) (selected (at 8 26) "Ada" (at 8 29) (at 8 30) "Unchecked_Deallocation") (at 8 53) (actual_of (at 8
    54) (object (at 8 54) "Cell")) (next_arg.FurtherArg (at 8 58) (actual_of (at 8 60) (object (at 8 60) "List")) ∷ [])
    (at 8 64) (at 8 65) ∷ []) (at 9 4) (stmts.Sequence (at 10 7) (stmt.DeclareBlock (at 10 7) (initialized_of (id (at 10
    15) "B") [] (at 10 17) None (indication.Anonymous (at 10 19) None (mark (at 10 26) "Cell")) (at 10 31) (expr_of (at
    10 34) (object (at 10 34) "X")) (at 10 35) ∷ []) (at 10 37) (sole (at 10 43) (stmt.If (at 10 43) (expr.LoneRelation
    (at 10 46) (rel.Compared (at 10 46) (sum_of (at 10 46) (object (at 10 46) "B")) relational.NotEqual (at 10 48)
    (sum_of (at 10 51) (primary.Null (at 10 51))))) (at 10 56) (sole (at 10 61) (assign_of (at 10 61) "B"
    (suffix.Selected (at 10 62) (id (at 10 63) "Value") ∷ []) (at 10 69) (expr_of (at 10 72) (object (at 10 72) "N"))
    (at 10 73))) [] (at 10 75) (at 10 79) (at 10 81))) (at 10 83) (at 10 86)) (assign_of (at 11 1) "Y" [] (at 11 3)
    (expr_of (at 11 6) (object (at 11 6) "X")) (at 11 7) ∷ assign_of (at 11 9) "X" [] (at 11 11) (expr_of (at 11 14)
    (primary.Null (at 11 14))) (at 11 18) ∷ stmt.Case (at 12 1) (expr_of (at 12 6) (object (at 12 6) "N")) (at 12 8)
    (alternative.Alternative (at 12 11) (choice.Value (at 12 16) (expr_of (at 12 16) (primary.Number (at 12 16) 1))) []
    (at 12 18) (sole (at 12 21) (stmt.Null (at 12 21) (at 12 25)))) (alternative.Alternative (at 12 27) (choice.Others
    (at 12 32)) [] (at 12 39) (sole (at 12 42) (assign_of (at 12 42) "N" [] (at 12 44) (expr_of (at 12 47)
    (primary.Number (at 12 47) 2)) (at 12 48))) ∷ []) (at 12 50) (at 12 54) (at 12 58) ∷ stmt.While (at 13 4)
    (expr.LoneRelation (at 13 10) (rel.Compared (at 13 10) (sum_of (at 13 10) (object (at 13 10) "N"))
    relational.Greater (at 13 12) (sum_of (at 13 14) (primary.Number (at 13 14) 5)))) (at 13 16) (sole (at 13 21)
    (assign_of (at 13 21) "N" [] (at 13 23) (expr.LoneRelation (at 13 26) (rel.LoneSum (at 13 26) (sum.Unsigned (at 13
    26) (term.Product (at 13 26) (factor_of (at 13 26) (object (at 13 26) "N")) (next_factor.FurtherFactor (at 13 28)
    multiplying.Divide (factor_of (at 13 30) (primary.Number (at 13 30) 2)) ∷ [])) []))) (at 13 31))) (at 13 33) (at 13
    37) (at 13 41) ∷ stmt.DeclareBlock (at 13 43) (item.ArrayType (at 13 51) (id (at 13 56) "Latest_Arr") (at 13 67) (at
    13 70) (at 13 76) (range.Bounds (at 13 77) (expr_of (at 13 77) (primary.Number (at 13 77) 0)) (at 13 79) (expr_of
    (at 13 82) (primary.Number (at 13 82) 1))) (at 13 83) (at 13 85) (mark (at 13 88) "Boolean") (at 13 95) ∷ objects_of
    (id (at 13 97) "Usual_X") (next_id_of (at 13 104) (at 13 106) "Usual_X" ∷ []) (at 13 114) None (indication_of (mark
    (at 13 116) "Integer")) (at 13 123) ∷ objects_of (id (at 13 125) "Latest_A") [] (at 13 134) None (indication_of
    (mark (at 13 136) "Latest_Arr")) (at 13 146) ∷ []) (at 13 148) (sole (at 13 154) (assign_of (at 13 154) "Latest_A"
    [] (at 13 163) (expr_of (at 13 166) (primary.Aggregated (at 13 166) (aggregate.Several (at 13 166) (actual_of (at 13
    167) (object (at 13 167) "True")) (at 13 171) (actual_of (at 13 173) (object (at 13 173) "True"))
    (next_arg.FurtherArg (at 13 177) (actual_of (at 13 179) (object (at 13 179) "False")) ∷ []) (at 13 184)))) (at 13
    185))) (at 13 187) (at 13 190) ∷ [])) (at 14 1) (Some (id (at 14 5) "Main")) (at 14 9)) ∷ []) ∷ [])
unfolding computes resolves
two_n2_5 = refl

two_n2_7 : IsFirstBrokenOf Twice (at 1 9) ((unit.OfPackage (at 1 1) [] (package_of (at 1 1) (id (at 1 9) "Integer") None
    (at 1 17) (decl.OfItem (at 1 20) (objects_of (id (at 1 20) "Extra_X") [] (at 1 28) None (indication_of (mark (at 1
    30) "Integer")) (at 1 37)) ∷ []) None (at 1 39) None (at 1 42)) ∷ unit.OfSubprogram (at 2 1) (context.With (at 2 1)
    (selected (at 2 6) "Ada" (at 2 9) (at 2 10) "Text_IO") [] (at 2 17) ∷ use_context (use_of (at 2 19) None (selected
    (at 2 23) "Ada" (at 2 26) (at 2 27) "Text_IO") [] (at 2 34)) ∷ context.With (at 2 36) (selected (at 2 41) "Ada" (at
    2 44) (at 2 45) "Integer_Text_IO") [] (at 2 60) ∷ use_context (use_of (at 2 62) None (selected (at 2 66) "Ada" (at 2
    69) (at 2 70) "Integer_Text_IO") [] (at 2 85)) ∷ context.With (at 2 87) (selected (at 2 92) "Ada" (at 2 95) (at 2
    96) "Unchecked_Deallocation") [] (at 2 118) ∷ []) (subprogram_of (at 3 1) (subspec.Procedure (at 3 1) (id (at 3 11)
    "Main") None) None (at 3 16) (item.IncompleteType (at 4 1) (id (at 4 6) "Cell") (at 4 10) ∷ item.AccessType (at 5 1)
    (id (at 5 6) "List") (at 5 11) (at 5 14) (mark (at 5 21) "Cell") (at 5 25) ∷ item.RecordType (at 6 1) (id (at 6 6)
    "Cell") (at 6 11) (at 6 14) (fields_of (id (at 6 21) "Value") [] (at 6 27) (mark (at 6 29) "Integer") (at 6 36))
    (fields_of (id (at 6 38) "Next") [] (at 6 43) (mark (at 6 45) "List") (at 6 49) ∷ []) (at 6 51) (at 6 55) (at 6 61)
    ∷ objects_of (id (at 7 1) "X") (next_id_of (at 7 2) (at 7 4) "Y" ∷ []) (at 7 6) None (indication_of (mark (at 7 8)
    "List")) (at 7 12) ∷ initialized_of (id (at 8 1) "N") [] (at 8 3) None (indication_of (mark (at 8 5) "Integer")) (at
    8 13) (expr_of (at 8 16) (primary.Number (at 8 16) 9)) (at 8 17) ∷ item.Instance (at 9 1) (id (at 9 11) "Free") (at
    9 16) (at 9 19) (selected (at 9 23) "Ada" (at 9 26) (at 9 27) "Unchecked_Deallocation") (at 9 50) (actual_of (at 9
    51) (object (at 9 51) "Cell")) (next_arg.FurtherArg (at 9 55) (actual_of (at 9 57) (object (at 9 57) "List")) ∷ [])
    (at 9 61) (at 9 62) ∷ []) (at 10 1) (stmts.Sequence (at 11 1) (stmt.IfElse (at 11 1) (expr.LoneRelation (at 11 4)
    (rel.Compared (at 11 4) (sum_of (at 11 4) (object (at 11 4) "N")) relational.Greater (at 11 6) (sum_of (at 11 8)
    (primary.Number (at 11 8) 3)))) (at 11 10) (sole (at 11 15) (assign_of (at 11 15) "N" [] (at 11 17)
    (expr.LoneRelation (at 11 20) (rel.LoneSum (at 11 20) (sum.Unsigned (at 11 20) (term_of (at 11 20) (object (at 11
    20) "N")) (next_term.FurtherTerm (at 11 22) adding.Subtract (term_of (at 11 24) (primary.Number (at 11 24) 1)) ∷
    [])))) (at 11 25))) [] (at 11 27) (sole (at 11 32) (stmt.Null (at 11 32) (at 11 36))) (at 11 38) (at 11 42) (at 11
    44)) (stmt.For (at 12 1) (id (at 12 5) "I") (at 12 7) None (range.Bounds (at 12 10) (expr_of (at 12 10)
    (primary.Number (at 12 10) 1)) (at 12 12) (expr_of (at 12 15) (primary.Number (at 12 15) 3))) (at 12 17) (sole (at
    12 22) (assign_of (at 12 22) "N" [] (at 12 24) (expr.LoneRelation (at 12 27) (rel.LoneSum (at 12 27) (sum.Unsigned
    (at 12 27) (term_of (at 12 27) (object (at 12 27) "N")) (next_term.FurtherTerm (at 12 29) adding.Add (term_of (at 12
    31) (object (at 12 31) "I")) ∷ [])))) (at 12 32))) (at 12 34) (at 12 38) (at 12 42) ∷ stmt.While (at 13 1)
    (expr.LoneRelation (at 13 7) (rel.Compared (at 13 7) (sum_of (at 13 7) (object (at 13 7) "N")) relational.Greater
    (at 13 9) (sum_of (at 13 11) (primary.Number (at 13 11) 5)))) (at 13 13) (sole (at 13 18) (assign_of (at 13 18) "N"
    [] (at 13 20) (expr.LoneRelation (at 13 23) (rel.LoneSum (at 13 23) (sum.Unsigned (at 13 23) (term.Product (at 13
    23) (factor_of (at 13 23) (object (at 13 23) "N")) (next_factor.FurtherFactor (at 13 25) multiplying.Divide
    (factor_of (at 13 27) (primary.Number (at 13 27) 2)) ∷ [])) []))) (at 13 28))) (at 13 30) (at 13 34) (at 13 38) ∷
    assign_of (at 14 1) "Y" [] (at 14 3) (expr_of (at 14 6) (object (at 14 6) "X")) (at 14 7) ∷ assign_of (at 14 9) "X"
    [] (at 14 11) (expr_of (at 14 14) (primary.Null (at 14 14))) (at 14 18) ∷ [])) (at 15 1) (Some (id (at 15 5)
    "Main")) (at 15 9)) ∷ unit.OfPackage (at 16 1) (context.With (at 16 1) (selected (at 16 6) "Ada" (at 16 9) (at 16
    10) "Text_IO") [] (at 16 17) ∷ use_context (use_of (at 16 19) None (selected (at 16 23) "Ada" (at 16 26) (at 16 27)
    "Text_IO") [] (at 16 34)) ∷ context.With (at 16 36) (selected (at 16 41) "Ada" (at 16 44) (at 16 45)
    "Integer_Text_IO") [] (at 16 60) ∷ use_context (use_of (at 16 62) None (selected (at 16 66) "Ada" (at 16 69) (at 16
    70) "Integer_Text_IO") [] (at 16 85)) ∷ context.With (at 16 87) (selected (at 16 92) "Ada" (at 16 95) (at 16 96)
    "Unchecked_Deallocation") [] (at 16 118) ∷ []) (package_of (at 16 120) (id (at 16 128) "Inner_P") None (at 16 136)
    (decl.OfItem (at 16 139) (item.IncompleteType (at 16 139) (id (at 16 144) "Inner_T") (at 16 151)) ∷ decl.OfItem (at
    16 153) (item.AccessType (at 16 153) (id (at 16 158) "Inner_P") (at 16 166) (at 16 169) (mark (at 16 176) "Inner_T")
    (at 16 183)) ∷ decl.OfItem (at 16 185) (item.PrivateType (at 16 185) (id (at 16 190) "Inner_T") (at 16 198) (at 16
    201) (at 16 208)) ∷ decl.OfItem (at 16 210) (item.EnumerationType (at 16 210) (id (at 16 215) "Inner_T") (at 16 223)
    (at 16 226) (id (at 16 227) "Inner_A") (next_id_of (at 16 234) (at 16 236) "Inner_B" ∷ []) (at 16 243) (at 16 244))
    ∷ []) None (at 16 246) (Some (id (at 16 250) "Inner_P")) (at 16 257)) ∷ []) ∷ [])
unfolding computes resolves
two_n2_7 = refl

two_n2_8 : IsFirstBrokenOf Twice (at 2 118) ((unit.OfPackage (at 1 1) (context.With (at 1 1) (selected (at 1 6) "Ada"
    (at 1 9) (at 1 10) "Text_IO") [] (at 1 17) ∷ use_context (use_of (at 1 19) None (selected (at 1 23) "Ada" (at 1 26)
    (at 1 27) "Text_IO") [] (at 1 34)) ∷ context.With (at 1 36) (selected (at 1 41) "Ada" (at 1 44) (at 1 45)
    "Integer_Text_IO") [] (at 1 60) ∷ use_context (use_of (at 1 62) None (selected (at 1 66) "Ada" (at 1 69) (at 1 70)
    "Integer_Text_IO") [] (at 1 85)) ∷ context.With (at 1 87) (selected (at 1 92) "Ada" (at 1 95) (at 1 96)
    "Unchecked_Deallocation") [] (at 1 118) ∷ []) (package_of (at 1 120) (id (at 1 128) "Extra_P") None (at 1 136)
    (decl.Subprogram (at 2 1) (subspec.Procedure (at 2 1) (id (at 2 11) "Extra_Q") (Some (formals_of (at 2 19) (moded_of
    (id (at 2 20) "Extra_X") [] (at 2 28) None None (mark (at 2 30) "Integer")) [] (at 2 37)))) None (at 2 38) ∷ [])
    None (at 2 40) (Some (id (at 2 44) "Extra_P")) (at 2 51)) ∷ unit.OfBody (at 2 53) [] (package_body_of (at 2 53) (at
    2 61) (id (at 2 66) "Extra_P") None (at 2 74) (part.Completed (at 2 77) (subprogram_of (at 2 77) (subspec.Procedure
    (at 2 77) (id (at 2 87) "Extra_Q") (Some (formals_of (at 2 95) (moded_of (id (at 2 96) "Extra_X") [] (at 2 104) None
    None (mark (at 2 106) "Integer")) [] (at 2 113)))) None (at 2 115) (objects_of (id (at 2 118) "Extra_X") [] (at 2
    126) None (indication_of (mark (at 2 128) "Integer")) (at 2 135) ∷ []) (at 2 137) (sole (at 2 143) (stmt.Null (at 2
    143) (at 2 147))) (at 2 149) (Some (id (at 2 153) "Extra_Q")) (at 2 160)) ∷ []) (at 3 1) (Some (id (at 3 5)
    "Extra_P")) (at 3 12)) ∷ unit.OfSubprogram (at 4 1) (context.With (at 4 1) (selected (at 4 6) "Ada" (at 4 9) (at 4
    10) "Text_IO") [] (at 4 17) ∷ use_context (use_of (at 4 19) None (selected (at 4 23) "Ada" (at 4 26) (at 4 27)
    "Text_IO") [] (at 4 34)) ∷ context.With (at 4 36) (selected (at 4 41) "Ada" (at 4 44) (at 4 45) "Integer_Text_IO")
    [] (at 4 60) ∷ use_context (use_of (at 4 62) None (selected (at 4 66) "Ada" (at 4 69) (at 4 70) "Integer_Text_IO")
    [] (at 4 85)) ∷ context.With (at 4 87) (selected (at 4 92) "Ada" (at 4 95) (at 4 96) "Unchecked_Deallocation") []
    (at 4 118) ∷ []) (subprogram_of (at 5 1) (subspec.Procedure (at 5 1) (id (at 5 11) "Main") None) None (at 5 16)
    (item.IncompleteType (at 5 19) (id (at 5 24) "Cell") (at 5 28) ∷ numbers_of (id (at 5 30) "Inner_N") [] (at 5 38)
    (at 5 40) (at 5 49) (expr.LoneRelation (at 5 52) (rel.LoneSum (at 5 52) (sum.Unsigned (at 5 52) (term_of (at 5 52)
    (object (at 5 52) "Inner_N")) (next_term.FurtherTerm (at 5 60) adding.Add (term_of (at 5 62) (primary.Number (at 5
    62) 1)) ∷ [])))) (at 5 63) ∷ item.AccessType (at 5 65) (id (at 5 70) "List") (at 5 75) (at 5 78) (mark (at 5 85)
    "Cell") (at 5 89) ∷ item.RecordType (at 6 1) (id (at 6 6) "Cell") (at 6 11) (at 6 14) (fields_of (id (at 6 21)
    "Value") [] (at 6 27) (mark (at 6 29) "Integer") (at 6 36)) (fields_of (id (at 6 38) "Next") [] (at 6 43) (mark (at
    6 45) "List") (at 6 49) ∷ []) (at 6 51) (at 6 55) (at 6 61) ∷ objects_of (id (at 6 63) "X") (next_id_of (at 6 64)
    (at 6 66) "Y" ∷ []) (at 6 68) None (indication_of (mark (at 6 70) "List")) (at 6 74) ∷ initialized_of (id (at 7 1)
    "N") [] (at 7 3) None (indication_of (mark (at 7 5) "Integer")) (at 7 13) (expr_of (at 7 16) (primary.Number (at 7
    16) 9)) (at 7 17) ∷ item.Instance (at 7 19) (id (at 7 29) "Free") (at 7 34) (at 7 37) (selected (at 7 41) "Ada" (at
    7 44) (at 7 45) "Unchecked_Deallocation") (at 7 68) (actual_of (at 7 69) (object (at 7 69) "Cell"))
    (next_arg.FurtherArg (at 7 73) (actual_of (at 7 75) (object (at 7 75) "List")) ∷ []) (at 7 79) (at 7 80) ∷ []) (at 7
    82) (stmts.Sequence (at 8 1) (stmt.While (at 8 1) (expr.LoneRelation (at 8 7) (rel.Compared (at 8 7) (sum_of (at 8
    7) (object (at 8 7) "N")) relational.Greater (at 8 9) (sum_of (at 8 11) (primary.Number (at 8 11) 5)))) (at 8 13)
    (sole (at 8 18) (assign_of (at 8 18) "N" [] (at 8 20) (expr.LoneRelation (at 8 23) (rel.LoneSum (at 8 23)
    (sum.Unsigned (at 8 23) (term.Product (at 8 23) (factor_of (at 8 23) (object (at 8 23) "N"))
    (next_factor.FurtherFactor (at 8 25) multiplying.Divide (factor_of (at 8 27) (primary.Number (at 8 27) 2)) ∷ []))
    []))) (at 8 28))) (at 8 30) (at 8 34) (at 8 38)) (stmt.Case (at 8 40) (expr_of (at 8 45) (object (at 8 45) "N")) (at
    8 47) (alternative.Alternative (at 8 50) (choice.Value (at 8 55) (expr_of (at 8 55) (primary.Number (at 8 55) 1)))
    [] (at 8 57) (sole (at 8 60) (stmt.Null (at 8 60) (at 8 64)))) (alternative.Alternative (at 8 66) (choice.Others (at
    8 71)) [] (at 8 78) (sole (at 8 81) (assign_of (at 8 81) "N" [] (at 8 83) (expr_of (at 8 86) (primary.Number (at 8
    86) 2)) (at 8 87))) ∷ []) (at 8 89) (at 8 93) (at 8 97) ∷ [])) (at 9 1) (Some (id (at 9 5) "Main")) (at 9 9)) ∷ [])
    ∷ [])
unfolding computes resolves
two_n2_8 = refl

two_n2_10 : IsFirstBrokenOf Twice (at 2 115) ((unit.OfPackage (at 1 4) (context.With (at 1 4) (selected (at 1 9) "Ada"
    (at 1 12) (at 1 13) "Text_IO") [] (at 1 20) ∷ use_context (use_of (at 1 22) None (selected (at 1 26) "Ada" (at 1 29)
    (at 1 30) "Text_IO") [] (at 1 37)) ∷ context.With (at 1 39) (selected (at 1 44) "Ada" (at 1 47) (at 1 48)
    "Integer_Text_IO") [] (at 1 63) ∷ use_context (use_of (at 1 65) None (selected (at 1 69) "Ada" (at 1 72) (at 1 73)
    "Integer_Text_IO") [] (at 1 88)) ∷ context.With (at 1 90) (selected (at 1 95) "Ada" (at 1 98) (at 1 99)
    "Unchecked_Deallocation") [] (at 1 121) ∷ []) (package_of (at 1 123) (id (at 1 131) "Inner_P") None (at 1 139)
    (decl.Subprogram (at 1 142) (subspec.Procedure (at 1 142) (id (at 1 152) "Inner_Do") None) None (at 1 160) ∷ [])
    None (at 1 162) (Some (id (at 1 166) "Inner_P")) (at 1 173)) ∷ unit.OfBody (at 2 4) [] (package_body_of (at 2 4) (at
    2 12) (id (at 2 17) "Inner_P") None (at 2 25) (part.Declared (at 2 28) (decl.OfItem (at 2 28) (item.IncompleteType
    (at 2 28) (id (at 2 33) "Inner_T") (at 2 40))) ∷ part.Declared (at 2 42) (decl.OfItem (at 2 42) (item.AccessType (at
    2 42) (id (at 2 47) "Inner_P") (at 2 55) (at 2 58) (mark (at 2 65) "Inner_T") (at 2 72))) ∷ part.Declared (at 2 74)
    (decl.OfItem (at 2 74) (item.EnumerationType (at 2 74) (id (at 2 79) "Inner_T") (at 2 87) (at 2 90) (id (at 2 91)
    "Inner_A") (next_id_of (at 2 98) (at 2 100) "Inner_B" ∷ []) (at 2 107) (at 2 108))) ∷ part.Declared (at 2 110)
    (decl.OfItem (at 2 110) (item.EnumerationType (at 2 110) (id (at 2 115) "Inner_T") (at 2 123) (at 2 126) (id (at 2
    127) "Inner_C") (next_id_of (at 2 134) (at 2 136) "Inner_D" ∷ []) (at 2 143) (at 2 144))) ∷ part.Completed (at 2
    146) (subprogram_of (at 2 146) (subspec.Procedure (at 2 146) (id (at 2 156) "Inner_Do") None) None (at 2 165) [] (at
    2 168) (sole (at 2 174) (stmt.Null (at 2 174) (at 2 178))) (at 2 180) (Some (id (at 2 184) "Inner_Do")) (at 2 192))
    ∷ []) (at 2 194) (Some (id (at 2 198) "Inner_P")) (at 2 205)) ∷ unit.OfSubprogram (at 3 1) (context.With (at 3 1)
    (selected (at 3 6) "Ada" (at 3 9) (at 3 10) "Text_IO") [] (at 3 17) ∷ use_context (use_of (at 3 19) None (selected
    (at 3 23) "Ada" (at 3 26) (at 3 27) "Text_IO") [] (at 3 34)) ∷ context.With (at 3 36) (selected (at 3 41) "Ada" (at
    3 44) (at 3 45) "Integer_Text_IO") [] (at 3 60) ∷ use_context (use_of (at 3 62) None (selected (at 3 66) "Ada" (at 3
    69) (at 3 70) "Integer_Text_IO") [] (at 3 85)) ∷ context.With (at 3 87) (selected (at 3 92) "Ada" (at 3 95) (at 3
    96) "Unchecked_Deallocation") [] (at 3 118) ∷ []) (subprogram_of (at 4 1) (subspec.Procedure (at 4 1) (id (at 4 11)
    "Main") None) None (at 4 16) (item.IncompleteType (at 5 1) (id (at 5 6) "Cell") (at 5 10) ∷ item.AccessType (at 6 1)
    (id (at 6 6) "List") (at 6 11) (at 6 14) (mark (at 6 21) "Cell") (at 6 25) ∷ item.RecordType (at 7 4) (id (at 7 9)
    "Cell") (at 7 14) (at 7 17) (fields_of (id (at 7 24) "Value") [] (at 7 30) (mark (at 7 32) "Integer") (at 7 39))
    (fields_of (id (at 7 41) "Next") [] (at 7 46) (mark (at 7 48) "List") (at 7 52) ∷ []) (at 7 54) (at 7 58) (at 7 64)
    ∷ objects_of (id (at 8 4) "X") (next_id_of (at 8 5) (at 8 7) "Y" ∷ []) (at 8 9) None (indication_of (mark (at 8 11)
    "List")) (at 8 15) ∷ initialized_of (id (at 9 1) "N") [] (at 9 3) None (indication_of (mark (at 9 5) "Integer")) (at
    9 13) (expr_of (at 9 16) (primary.Number (at 9 16) 5)) (at 9 17) ∷ []) (at 10 1) (stmts.Sequence (at 11 1) (stmt.If
    (at 11 1) (expr.LoneRelation (at 11 4) (rel.LoneSum (at 11 4) (sum.Unsigned (at 11 4) (term.Product (at 11 4)
    (factor.Not (at 11 4) (object (at 11 8) "End_Of_File")) []) []))) (at 11 20) (sole (at 11 25) (call_of (at 11 25)
    "Get" (suffix.Applied (at 11 29) (actual_of (at 11 30) (object (at 11 30) "N")) [] (at 11 31) ∷ []) (at 11 32))) []
    (at 11 34) (at 11 38) (at 11 40)) (call_of (at 12 1) "Put_Line" (suffix.Applied (at 12 10) (actual_of (at 12 11)
    (named (at 12 11) "Integer" (suffix.Attribute (at 12 18) (id (at 12 19) "Image") ∷ suffix.Applied (at 12 25)
    (actual_of (at 12 26) (object (at 12 26) "N")) [] (at 12 27) ∷ []))) [] (at 12 28) ∷ []) (at 12 29) ∷ stmt.For (at
    13 1) (id (at 13 5) "I") (at 13 7) None (range.Bounds (at 13 10) (expr_of (at 13 10) (primary.Number (at 13 10) 1))
    (at 13 12) (expr_of (at 13 15) (primary.Number (at 13 15) 3))) (at 13 17) (sole (at 13 22) (assign_of (at 13 22) "N"
    [] (at 13 24) (expr.LoneRelation (at 13 27) (rel.LoneSum (at 13 27) (sum.Unsigned (at 13 27) (term_of (at 13 27)
    (object (at 13 27) "N")) (next_term.FurtherTerm (at 13 29) adding.Add (term_of (at 13 31) (object (at 13 31) "I")) ∷
    [])))) (at 13 32))) (at 13 34) (at 13 38) (at 13 42) ∷ assign_of (at 14 4) "N" [] (at 14 6) (expr.LoneRelation (at
    14 9) (rel.LoneSum (at 14 9) (sum.Unsigned (at 14 9) (term.Product (at 14 9) (factor_of (at 14 9) (object (at 14 9)
    "N")) (next_factor.FurtherFactor (at 14 11) multiplying.Multiply (factor_of (at 14 13) (primary.Number (at 14 13)
    2)) ∷ [])) (next_term.FurtherTerm (at 14 15) adding.Add (term_of (at 14 17) (primary.Number (at 14 17) 1)) ∷ []))))
    (at 14 18) ∷ [])) (at 15 1) (Some (id (at 15 5) "Main")) (at 15 9)) ∷ unit.OfPackage (at 16 7) [] (package_of (at 16
    7) (id (at 16 15) "Plain_P") None (at 16 23) (decl.Subprogram (at 16 26) (subspec.Function (at 16 26) (id (at 16 35)
    "Plain_F") None (at 16 43) (indication_of (mark (at 16 50) "Integer"))) None (at 16 57) ∷ []) None (at 16 59) (Some
    (id (at 16 63) "Plain_P")) (at 16 70)) ∷ unit.OfBody (at 17 7) [] (package_body_of (at 17 7) (at 17 15) (id (at 17
    20) "Plain_P") None (at 17 28) (part.Completed (at 17 31) (subprogram_of (at 17 31) (subspec.Function (at 17 31) (id
    (at 17 40) "Plain_F") None (at 17 48) (indication_of (mark (at 17 55) "Integer"))) None (at 17 63) [] (at 17 66)
    (sole (at 17 72) (stmt.ReturnValue (at 17 72) (expr_of (at 17 79) (primary.Number (at 17 79) 1)) (at 17 80))) (at 17
    82) (Some (id (at 17 86) "Plain_F")) (at 17 93)) ∷ []) (at 17 95) (Some (id (at 17 99) "Plain_P")) (at 17 106)) ∷
    unit.OfPackage (at 18 4) (context.With (at 18 4) (mark (at 18 9) "Plain_P") [] (at 18 16) ∷ []) (package_of (at 18
    18) (id (at 18 26) "Plain_R") None (at 18 34) (decl.OfItem (at 18 37) (initialized_of (id (at 18 37) "Plain_X") []
    (at 18 45) (Some (at 18 47)) (indication_of (mark (at 18 56) "Integer")) (at 18 64) (expr_of (at 18 67) (named (at
    18 67) "Plain_P" (suffix.Selected (at 18 74) (id (at 18 75) "Plain_F") ∷ []))) (at 18 82)) ∷ []) None (at 18 84)
    (Some (id (at 18 88) "Plain_R")) (at 18 95)) ∷ []) ∷ [])
unfolding computes resolves
two_n2_10 = refl

two_n2_11 : IsFirstBrokenOf Twice (at 3 46) ((unit.OfSubprogram (at 1 4) (context.With (at 1 4) (selected (at 1 9) "Ada"
    (at 1 12) (at 1 13) "Text_IO") [] (at 1 20) ∷ use_context (use_of (at 1 22) None (selected (at 1 26) "Ada" (at 1 29)
    (at 1 30) "Text_IO") [] (at 1 37)) ∷ context.With (at 1 39) (selected (at 1 44) "Ada" (at 1 47) (at 1 48)
    "Integer_Text_IO") [] (at 1 63) ∷ use_context (use_of (at 1 65) None (selected (at 1 69) "Ada" (at 1 72) (at 1 73)
    "Integer_Text_IO") [] (at 1 88)) ∷ context.With (at 1 90) (selected (at 1 95) "Ada" (at 1 98) (at 1 99)
    "Unchecked_Deallocation") [] (at 1 121) ∷ []) (subprogram_of (at 2 1) (subspec.Procedure (at 2 1) (id (at 2 11)
    "Main") None) None (at 2 16) (item.IncompleteType (at 3 7) (id (at 3 12) "Cell") (at 3 16) ∷ item.EnumerationType
    (at 3 18) (id (at 3 23) "Former_T") (at 3 32) (at 3 35) (id (at 3 36) "Former_A") (next_id_of (at 3 44) (at 3 46)
    "Former_T" ∷ []) (at 3 54) (at 3 55) ∷ item.AccessType (at 4 1) (id (at 4 6) "List") (at 4 11) (at 4 14) (mark (at 4
    21) "Cell") (at 4 25) ∷ item.RecordType (at 5 1) (id (at 5 6) "Cell") (at 5 11) (at 5 14) (fields_of (id (at 5 21)
    "Value") [] (at 5 27) (mark (at 5 29) "Integer") (at 5 36)) (fields_of (id (at 5 38) "Next") [] (at 5 43) (mark (at
    5 45) "List") (at 5 49) ∷ []) (at 5 51) (at 5 55) (at 5 61) ∷ objects_of (id (at 6 4) "X") (next_id_of (at 6 5) (at
    6 7) "Y" ∷ []) (at 6 9) None (indication_of (mark (at 6 11) "List")) (at 6 15) ∷ initialized_of (id (at 7 7) "N") []
    (at 7 9) None (indication_of (mark (at 7 11) "Integer")) (at 7 19) (expr_of (at 7 22) (primary.Number (at 7 22) 9))
    (at 7 23) ∷ []) (at 8 7) (stmts.Sequence (at 9 1) (stmt.While (at 9 1) (expr.LoneRelation (at 9 7) (rel.Compared (at
    9 7) (sum_of (at 9 7) (object (at 9 7) "N")) relational.Greater (at 9 9) (sum_of (at 9 11) (primary.Number (at 9 11)
    5)))) (at 9 13) (sole (at 9 18) (assign_of (at 9 18) "N" [] (at 9 20) (expr.LoneRelation (at 9 23) (rel.LoneSum (at
    9 23) (sum.Unsigned (at 9 23) (term.Product (at 9 23) (factor_of (at 9 23) (object (at 9 23) "N"))
    (next_factor.FurtherFactor (at 9 25) multiplying.Divide (factor_of (at 9 27) (primary.Number (at 9 27) 2)) ∷ []))
    []))) (at 9 28))) (at 9 30) (at 9 34) (at 9 38)) (stmt.For (at 10 1) (id (at 10 5) "I") (at 10 7) None (range.Bounds
    (at 10 10) (expr_of (at 10 10) (primary.Number (at 10 10) 1)) (at 10 12) (expr_of (at 10 15) (primary.Number (at 10
    15) 3))) (at 10 17) (sole (at 10 22) (assign_of (at 10 22) "N" [] (at 10 24) (expr.LoneRelation (at 10 27)
    (rel.LoneSum (at 10 27) (sum.Unsigned (at 10 27) (term_of (at 10 27) (object (at 10 27) "N")) (next_term.FurtherTerm
    (at 10 29) adding.Add (term_of (at 10 31) (object (at 10 31) "I")) ∷ [])))) (at 10 32))) (at 10 34) (at 10 38) (at
    10 42) ∷ stmt.If (at 11 7) (expr.LoneRelation (at 11 10) (rel.LoneSum (at 11 10) (sum.Unsigned (at 11 10)
    (term.Product (at 11 10) (factor.Not (at 11 10) (object (at 11 14) "End_Of_File")) []) []))) (at 11 26) (sole (at 11
    31) (call_of (at 11 31) "Get" (suffix.Applied (at 11 35) (actual_of (at 11 36) (object (at 11 36) "N")) [] (at 11
    37) ∷ []) (at 11 38))) [] (at 11 40) (at 11 44) (at 11 46) ∷ assign_of (at 12 1) "N" [] (at 12 3) (expr.LoneRelation
    (at 12 6) (rel.LoneSum (at 12 6) (sum.Unsigned (at 12 6) (term.Product (at 12 6) (factor_of (at 12 6) (object (at 12
    6) "N")) (next_factor.FurtherFactor (at 12 8) multiplying.Multiply (factor_of (at 12 10) (primary.Number (at 12 10)
    2)) ∷ [])) (next_term.FurtherTerm (at 12 12) adding.Add (term_of (at 12 14) (primary.Number (at 12 14) 1)) ∷ []))))
    (at 12 15) ∷ stmt.IfElse (at 13 1) (expr.LoneRelation (at 13 4) (rel.Compared (at 13 4) (sum_of (at 13 4) (object
    (at 13 4) "N")) relational.Greater (at 13 6) (sum_of (at 13 8) (primary.Number (at 13 8) 3)))) (at 13 10) (sole (at
    13 15) (assign_of (at 13 15) "N" [] (at 13 17) (expr.LoneRelation (at 13 20) (rel.LoneSum (at 13 20) (sum.Unsigned
    (at 13 20) (term_of (at 13 20) (object (at 13 20) "N")) (next_term.FurtherTerm (at 13 22) adding.Subtract (term_of
    (at 13 24) (primary.Number (at 13 24) 1)) ∷ [])))) (at 13 25))) [] (at 13 27) (sole (at 13 32) (stmt.Null (at 13 32)
    (at 13 36))) (at 13 38) (at 13 42) (at 13 44) ∷ [])) (at 14 1) (Some (id (at 14 5) "Main")) (at 14 9)) ∷
    unit.OfPackage (at 15 4) (context.With (at 15 4) (selected (at 15 9) "Ada" (at 15 12) (at 15 13) "Text_IO") [] (at
    15 20) ∷ use_context (use_of (at 15 22) None (selected (at 15 26) "Ada" (at 15 29) (at 15 30) "Text_IO") [] (at 15
    37)) ∷ context.With (at 15 39) (selected (at 15 44) "Ada" (at 15 47) (at 15 48) "Integer_Text_IO") [] (at 15 63) ∷
    use_context (use_of (at 15 65) None (selected (at 15 69) "Ada" (at 15 72) (at 15 73) "Integer_Text_IO") [] (at 15
    88)) ∷ context.With (at 15 90) (selected (at 15 95) "Ada" (at 15 98) (at 15 99) "Unchecked_Deallocation") [] (at 15
    121) ∷ []) (package_of (at 15 123) (id (at 15 131) "Plain_P") None (at 15 139) (decl.Subprogram (at 16 1)
    (subspec.Procedure (at 16 1) (id (at 16 11) "Plain_Q") (Some (formals_of (at 16 19) (moded_of (id (at 16 20)
    "Plain_A") [] (at 16 28) None None (mark (at 16 30) "Plain_A")) [] (at 16 37)))) None (at 16 38) ∷ []) None (at 17
    1) (Some (id (at 17 5) "Plain_P")) (at 17 12)) ∷ unit.OfBody (at 18 1) [] (package_body_of (at 18 1) (at 18 9) (id
    (at 18 14) "Plain_P") None (at 18 22) (part.Completed (at 19 1) (subprogram_of (at 19 1) (subspec.Procedure (at 19
    1) (id (at 19 11) "Plain_Q") (Some (formals_of (at 19 19) (moded_of (id (at 19 20) "Plain_A") [] (at 19 28) None
    None (mark (at 19 30) "Integer")) [] (at 19 37)))) None (at 19 39) [] (at 19 42) (sole (at 19 48) (stmt.Null (at 19
    48) (at 19 52))) (at 19 54) (Some (id (at 19 58) "Plain_Q")) (at 19 65)) ∷ []) (at 20 1) (Some (id (at 20 5)
    "Plain_P")) (at 20 12)) ∷ []) ∷ [])
unfolding computes resolves
two_n2_11 = refl

two_n2_12 : IsFirstBrokenOf Twice (at 3 125) ((unit.OfSubprogram (at 1 1) (context.With (at 1 1) (selected (at 1 6)
    "Ada" (at 1 9) (at 1 10) "tEXT_io") [] (at 1 17) ∷ use_context (use_of (at 1 19) None (selected (at 1 23) "Ada" (at
    1 26) (at 1 27) "text_io") [] (at 1 34)) ∷ context.With (at 1 36) (selected (at 1 41) "Ada" (at 1 44) (at 1 45)
    "Integer_Text_IO") [] (at 1 60) ∷ use_context (use_of (at 1 62) None (selected (at 1 66) "aDA" (at 1 69) (at 1 70)
    "Integer_Text_IO") [] (at 1 85)) ∷ context.With (at 1 87) (selected (at 1 92) "Ada" (at 1 95) (at 1 96)
    "Unchecked_Deallocation") [] (at 1 118) ∷ []) (subprogram_of (at 2 1) (subspec.Procedure (at 2 1) (id (at 2 11)
    "Main") None) None (at 2 16) (item.IncompleteType (at 3 1) (id (at 3 6) "Cell") (at 3 10) ∷ item.AccessType (at 3
    12) (id (at 3 17) "List") (at 3 22) (at 3 25) (mark (at 3 32) "Cell") (at 3 36) ∷ item.IncompleteType (at 3 38) (id
    (at 3 43) "Plain_T") (at 3 50) ∷ item.AccessType (at 3 52) (id (at 3 57) "Plain_P") (at 3 65) (at 3 68) (mark (at 3
    75) "Plain_T") (at 3 82) ∷ item.EnumerationType (at 3 84) (id (at 3 89) "Plain_T") (at 3 97) (at 3 100) (id (at 3
    101) "Plain_A") (next_id_of (at 3 108) (at 3 110) "Plain_B" ∷ []) (at 3 117) (at 3 118) ∷ item.EnumerationType (at 3
    120) (id (at 3 125) "Plain_T") (at 3 133) (at 3 136) (id (at 3 137) "Plain_C") (next_id_of (at 3 144) (at 3 146)
    "Plain_D" ∷ []) (at 3 153) (at 3 154) ∷ item.RecordType (at 3 156) (id (at 3 161) "Cell") (at 3 166) (at 3 169)
    (fields_of (id (at 3 176) "vALUE") [] (at 3 182) (mark (at 3 184) "Integer") (at 3 191)) (fields_of (id (at 3 193)
    "Next") [] (at 3 198) (mark (at 3 200) "List") (at 3 204) ∷ []) (at 3 206) (at 3 210) (at 3 216) ∷ objects_of (id
    (at 4 1) "x") (next_id_of (at 4 2) (at 4 4) "Y" ∷ []) (at 4 6) None (indication_of (mark (at 4 8) "List")) (at 4 12)
    ∷ initialized_of (id (at 5 1) "N") [] (at 5 3) None (indication_of (mark (at 5 5) "Integer")) (at 5 13) (expr_of (at
    5 16) (primary.Number (at 5 16) 8)) (at 5 17) ∷ item.Instance (at 5 19) (id (at 5 29) "Free") (at 5 34) (at 5 37)
    (selected (at 5 41) "Ada" (at 5 44) (at 5 45) "Unchecked_Deallocation") (at 5 68) (actual_of (at 5 69) (object (at 5
    69) "Cell")) (next_arg.FurtherArg (at 5 73) (actual_of (at 5 75) (object (at 5 75) "List")) ∷ []) (at 5 79) (at 5
    80) ∷ []) (at 6 1) (stmts.Sequence (at 6 7) (stmt.Case (at 6 7) (expr_of (at 6 12) (object (at 6 12) "n")) (at 6 14)
    (alternative.Alternative (at 6 17) (choice.Value (at 6 22) (expr_of (at 6 22) (primary.Number (at 6 22) 1))) [] (at
    6 24) (sole (at 6 27) (stmt.Null (at 6 27) (at 6 31)))) (alternative.Alternative (at 6 33) (choice.Others (at 6 38))
    [] (at 6 45) (sole (at 6 48) (assign_of (at 6 48) "N" [] (at 6 50) (expr_of (at 6 53) (primary.Number (at 6 53) 2))
    (at 6 54))) ∷ []) (at 6 56) (at 6 60) (at 6 64)) (stmt.Block (at 6 66) (sole (at 6 72) (stmt.For (at 6 72) (id (at 6
    76) "Minor_I") (at 6 84) None (marked_of (mark (at 6 87) "Minor_I")) (at 6 95) (sole (at 6 100) (stmt.Null (at 6
    100) (at 6 104))) (at 6 106) (at 6 110) (at 6 114))) (at 6 116) (at 6 119) ∷ stmt.For (at 6 121) (id (at 6 125) "I")
    (at 6 127) None (range.Bounds (at 6 130) (expr_of (at 6 130) (primary.Number (at 6 130) 1)) (at 6 132) (expr_of (at
    6 135) (primary.Number (at 6 135) 3))) (at 6 137) (sole (at 6 142) (assign_of (at 6 142) "N" [] (at 6 144)
    (expr.LoneRelation (at 6 147) (rel.LoneSum (at 6 147) (sum.Unsigned (at 6 147) (term_of (at 6 147) (object (at 6
    147) "N")) (next_term.FurtherTerm (at 6 149) adding.Add (term_of (at 6 151) (object (at 6 151) "I")) ∷ [])))) (at 6
    152))) (at 6 154) (at 6 158) (at 6 162) ∷ [])) (at 7 1) (Some (id (at 7 5) "Main")) (at 7 9)) ∷ []) ∷ [])
unfolding computes resolves
two_n2_12 = refl

two_n2_13 : IsFirstBrokenOf Twice (at 1 10) ((unit.OfSubprogram (at 1 1) [] (subprogram_of (at 1 1) (subspec.Function
    (at 1 1) (id (at 1 10) "Second_F") (Some (formals_of (at 1 19) (moded_of (id (at 1 20) "Second_X") [] (at 1 29) None
    None (mark (at 1 31) "Integer")) [] (at 1 38))) (at 1 40) (indication_of (mark (at 1 47) "Boolean"))) None (at 1 55)
    [] (at 1 58) (sole (at 1 64) (stmt.ReturnValue (at 1 64) (expr.LoneRelation (at 1 71) (rel.Compared (at 1 71)
    (sum_of (at 1 71) (object (at 1 71) "Second_X")) relational.Greater (at 1 80) (sum_of (at 1 82) (primary.Number (at
    1 82) 0)))) (at 1 83))) (at 1 85) (Some (id (at 1 89) "Second_F")) (at 1 97)) ∷ unit.OfSubprogram (at 2 1)
    (context.With (at 2 1) (selected (at 2 6) "Ada" (at 2 9) (at 2 10) "Text_IO") [] (at 2 17) ∷ use_context (use_of (at
    2 19) None (selected (at 2 23) "Ada" (at 2 26) (at 2 27) "Text_IO") [] (at 2 34)) ∷ context.With (at 2 36) (selected
    (at 2 41) "Ada" (at 2 44) (at 2 45) "Integer_Text_IO") [] (at 2 60) ∷ use_context (use_of (at 2 62) None (selected
    (at 2 66) "Ada" (at 2 69) (at 2 70) "Integer_Text_IO") [] (at 2 85)) ∷ context.With (at 2 87) (selected (at 2 92)
    "Ada" (at 2 95) (at 2 96) "Unchecked_Deallocation") [] (at 2 118) ∷ []) (subprogram_of (at 3 1) (subspec.Procedure
    (at 3 1) (id (at 3 11) "Main") None) None (at 3 16) (item.IncompleteType (at 4 1) (id (at 4 6) "Cell") (at 4 10) ∷
    item.AccessType (at 5 1) (id (at 5 6) "List") (at 5 11) (at 5 14) (mark (at 5 21) "Cell") (at 5 25) ∷
    item.RecordType (at 6 1) (id (at 6 6) "Cell") (at 6 11) (at 6 14) (fields_of (id (at 6 21) "Value") [] (at 6 27)
    (mark (at 6 29) "Integer") (at 6 36)) (fields_of (id (at 6 38) "Next") [] (at 6 43) (mark (at 6 45) "List") (at 6
    49) ∷ []) (at 6 51) (at 6 55) (at 6 61) ∷ objects_of (id (at 7 1) "X") (next_id_of (at 7 2) (at 7 4) "Y" ∷ []) (at 7
    6) None (indication_of (mark (at 7 8) "List")) (at 7 12) ∷ initialized_of (id (at 8 1) "N") [] (at 8 3) None
    (indication_of (mark (at 8 5) "Integer")) (at 8 13) (expr_of (at 8 16) (primary.Number (at 8 16) 1)) (at 8 17) ∷
    item.Instance (at 9 1) (id (at 9 11) "Free") (at 9 16) (at 9 19) (selected (at 9 23) "Ada" (at 9 26) (at 9 27)
    "Unchecked_Deallocation") (at 9 50) (actual_of (at 9 51) (object (at 9 51) "Cell")) (next_arg.FurtherArg (at 9 55)
    (actual_of (at 9 57) (object (at 9 57) "List")) ∷ []) (at 9 61) (at 9 62) ∷ []) (at 10 1) (stmts.Sequence (at 11 1)
    (stmt.Case (at 11 1) (expr_of (at 11 6) (object (at 11 6) "N")) (at 11 8) (alternative.Alternative (at 11 11)
    (choice.Value (at 11 16) (expr_of (at 11 16) (primary.Number (at 11 16) 1))) [] (at 11 18) (sole (at 11 21)
    (stmt.Null (at 11 21) (at 11 25)))) (alternative.Alternative (at 11 27) (choice.Others (at 11 32)) [] (at 11 39)
    (sole (at 11 42) (assign_of (at 11 42) "N" [] (at 11 44) (expr_of (at 11 47) (primary.Number (at 11 47) 2)) (at 11
    48))) ∷ []) (at 11 50) (at 11 54) (at 11 58)) (assign_of (at 12 1) "Y" [] (at 12 3) (expr_of (at 12 6) (object (at
    12 6) "X")) (at 12 7) ∷ assign_of (at 12 9) "X" [] (at 12 11) (expr_of (at 12 14) (primary.Null (at 12 14))) (at 12
    18) ∷ [])) (at 13 1) (Some (id (at 13 5) "Main")) (at 13 9)) ∷ unit.OfPackage (at 14 1) [] (package_of (at 14 1) (id
    (at 14 9) "Inner_P") None (at 14 17) (decl.OfItem (at 14 20) (objects_of (id (at 14 20) "Inner_X") [] (at 14 28)
    None (indication_of (mark (at 14 30) "Integer")) (at 14 37)) ∷ []) None (at 14 39) (Some (id (at 14 43) "Inner_P"))
    (at 14 50)) ∷ unit.OfPackage (at 15 1) (use_context (use_of (at 15 1) None (mark (at 15 5) "Inner_P") [] (at 15 12))
    ∷ []) (package_of (at 15 14) (id (at 15 22) "Inner_R") None (at 15 30) (decl.OfItem (at 15 33) (objects_of (id (at
    15 33) "Inner_Z") [] (at 15 41) None (indication_of (mark (at 15 43) "Integer")) (at 15 50)) ∷ []) None (at 15 52)
    (Some (id (at 15 56) "Inner_R")) (at 15 63)) ∷ []) ∷ [])
unfolding computes resolves
two_n2_13 = refl

two_n2_14 : IsFirstBrokenOf Twice (at 1 49) ((unit.OfPackage (at 1 1) [] (package_of (at 1 1) (id (at 1 9) "Quick_P")
    None (at 1 17) (decl.Subprogram (at 1 20) (subspec.Procedure (at 1 20) (id (at 1 30) "Quick_Q") None) None (at 1 37)
    ∷ decl.Subprogram (at 1 39) (subspec.Procedure (at 1 39) (id (at 1 49) "Quick_Q") (Some (formals_of (at 1 57)
    (moded_of (id (at 1 58) "Quick_N") [] (at 1 66) None None (mark (at 1 68) "Integer")) [] (at 1 75)))) None (at 1 76)
    ∷ []) None (at 1 78) (Some (id (at 1 82) "Quick_P")) (at 1 89)) ∷ unit.OfBody (at 2 1) [] (package_body_of (at 2 1)
    (at 2 9) (id (at 2 14) "Quick_P") None (at 2 22) (part.Completed (at 2 25) (subprogram_of (at 2 25)
    (subspec.Procedure (at 2 25) (id (at 2 35) "Quick_Q") None) None (at 2 43) [] (at 2 46) (sole (at 2 52) (stmt.Null
    (at 2 52) (at 2 56))) (at 2 58) (Some (id (at 2 62) "Quick_Q")) (at 2 69)) ∷ []) (at 2 71) (Some (id (at 2 75)
    "Quick_P")) (at 2 82)) ∷ unit.OfSubprogram (at 3 1) (context.With (at 3 1) (selected (at 3 6) "Ada" (at 3 9) (at 3
    10) "Text_IO") [] (at 3 17) ∷ use_context (use_of (at 3 19) None (selected (at 3 23) "Ada" (at 3 26) (at 3 27)
    "Text_IO") [] (at 3 34)) ∷ context.With (at 3 36) (selected (at 3 41) "Ada" (at 3 44) (at 3 45) "Integer_Text_IO")
    [] (at 3 60) ∷ use_context (use_of (at 3 62) None (selected (at 3 66) "Ada" (at 3 69) (at 3 70) "Integer_Text_IO")
    [] (at 3 85)) ∷ context.With (at 3 87) (selected (at 3 92) "Ada" (at 3 95) (at 3 96) "Unchecked_Deallocation") []
    (at 3 118) ∷ []) (subprogram_of (at 4 1) (subspec.Procedure (at 4 1) (id (at 4 11) "Main") None) None (at 4 16)
    (item.IncompleteType (at 5 1) (id (at 5 6) "Cell") (at 5 10) ∷ item.AccessType (at 5 12) (id (at 5 17) "List") (at 5
    22) (at 5 25) (mark (at 5 32) "Cell") (at 5 36) ∷ item.RecordType (at 5 38) (id (at 5 43) "Cell") (at 5 48) (at 5
    51) (fields_of (id (at 5 58) "Value") [] (at 5 64) (mark (at 5 66) "Integer") (at 5 73)) (fields_of (id (at 5 75)
    "Next") [] (at 5 80) (mark (at 5 82) "List") (at 5 86) ∷ []) (at 5 88) (at 5 92) (at 5 98) ∷ objects_of (id (at 6 1)
    "X") (next_id_of (at 6 2) (at 6 4) "Y" ∷ []) (at 6 6) None (indication_of (mark (at 6 8) "List")) (at 6 12) ∷
    initialized_of (id (at 6 14) "N") [] (at 6 16) None (indication_of (mark (at 6 18) "Integer")) (at 6 26) (expr_of
    (at 6 29) (primary.Number (at 6 29) 8)) (at 6 30) ∷ []) (at 7 1) (stmts.Sequence (at 7 7) (call_of (at 7 7)
    "Put_Line" (suffix.Applied (at 7 16) (actual_of (at 7 17) (named (at 7 17) "Integer" (suffix.Attribute (at 7 24) (id
    (at 7 25) "Image") ∷ suffix.Applied (at 7 31) (actual_of (at 7 32) (object (at 7 32) "N")) [] (at 7 33) ∷ []))) []
    (at 7 34) ∷ []) (at 7 35)) (stmt.For (at 7 37) (id (at 7 41) "I") (at 7 43) None (range.Bounds (at 7 46) (expr_of
    (at 7 46) (primary.Number (at 7 46) 1)) (at 7 48) (expr_of (at 7 51) (primary.Number (at 7 51) 3))) (at 7 53) (sole
    (at 7 58) (assign_of (at 7 58) "N" [] (at 7 60) (expr.LoneRelation (at 7 63) (rel.LoneSum (at 7 63) (sum.Unsigned
    (at 7 63) (term_of (at 7 63) (object (at 7 63) "N")) (next_term.FurtherTerm (at 7 65) adding.Add (term_of (at 7 67)
    (object (at 7 67) "I")) ∷ [])))) (at 7 68))) (at 7 70) (at 7 74) (at 7 78) ∷ stmt.While (at 7 80) (expr.LoneRelation
    (at 7 86) (rel.Compared (at 7 86) (sum_of (at 7 86) (object (at 7 86) "N")) relational.Greater (at 7 88) (sum_of (at
    7 90) (primary.Number (at 7 90) 5)))) (at 7 92) (sole (at 7 97) (assign_of (at 7 97) "N" [] (at 7 99)
    (expr.LoneRelation (at 7 102) (rel.LoneSum (at 7 102) (sum.Unsigned (at 7 102) (term.Product (at 7 102) (factor_of
    (at 7 102) (object (at 7 102) "N")) (next_factor.FurtherFactor (at 7 104) multiplying.Divide (factor_of (at 7 106)
    (primary.Number (at 7 106) 2)) ∷ [])) []))) (at 7 107))) (at 7 109) (at 7 113) (at 7 117) ∷ [])) (at 8 1) (Some (id
    (at 8 5) "Main")) (at 8 9)) ∷ unit.OfPackage (at 9 1) (context.With (at 9 1) (selected (at 9 6) "Ada" (at 9 9) (at 9
    10) "Text_IO") [] (at 9 17) ∷ use_context (use_of (at 9 19) None (selected (at 9 23) "Ada" (at 9 26) (at 9 27)
    "Text_IO") [] (at 9 34)) ∷ context.With (at 9 36) (selected (at 9 41) "Ada" (at 9 44) (at 9 45) "Integer_Text_IO")
    [] (at 9 60) ∷ use_context (use_of (at 9 62) None (selected (at 9 66) "Ada" (at 9 69) (at 9 70) "Integer_Text_IO")
    [] (at 9 85)) ∷ context.With (at 9 87) (selected (at 9 92) "Ada" (at 9 95) (at 9 96) "Unchecked_Deallocation") []
    (at 9 118) ∷ []) (package_of (at 9 120) (id (at 9 128) "Inner_P") None (at 9 136) (decl.OfItem (at 9 139)
    (item.ConstrainedSubtype (at 9 139) (id (at 9 147) "Inner_S") (at 9 155) (mark (at 9 158) "Inner_S") (at 9 166)
    (expr_of (at 9 172) (primary.Number (at 9 172) 1)) (at 9 174) (expr_of (at 9 177) (primary.Number (at 9 177) 2)) (at
    9 178)) ∷ []) None (at 9 180) (Some (id (at 9 184) "Inner_P")) (at 9 191)) ∷ []) ∷ [])
unfolding computes resolves
two_n2_14 = refl

two_n2_15 : IsFirstBrokenOf Twice (at 1 212) ((unit.OfPackage (at 1 1) (context.With (at 1 1) (selected (at 1 6) "Ada"
    (at 1 9) (at 1 10) "Text_IO") [] (at 1 17) ∷ use_context (use_of (at 1 19) None (selected (at 1 23) "Ada" (at 1 26)
    (at 1 27) "Text_IO") [] (at 1 34)) ∷ context.With (at 1 36) (selected (at 1 41) "Ada" (at 1 44) (at 1 45)
    "Integer_Text_IO") [] (at 1 60) ∷ use_context (use_of (at 1 62) None (selected (at 1 66) "Ada" (at 1 69) (at 1 70)
    "Integer_Text_IO") [] (at 1 85)) ∷ context.With (at 1 87) (selected (at 1 92) "Ada" (at 1 95) (at 1 96)
    "Unchecked_Deallocation") [] (at 1 118) ∷ []) (package_of (at 1 120) (id (at 1 128) "Latest_P") None (at 1 137)
    (decl.OfItem (at 1 140) (objects_of (id (at 1 140) "Latest_V") [] (at 1 149) None (indication_of (mark (at 1 151)
    "Integer")) (at 1 158)) ∷ []) (Some (private_part (at 1 160) (decl.OfItem (at 1 168) (item.RecordType (at 1 168) (id
    (at 1 173) "Latest_R") (at 1 182) (at 1 185) (fields_of (id (at 1 192) "Latest_X") [] (at 1 201) (mark (at 1 203)
    "Integer") (at 1 210)) (fields_of (id (at 1 212) "Latest_X") [] (at 1 221) (mark (at 1 223) "Boolean") (at 1 230) ∷
    []) (at 1 232) (at 1 236) (at 1 242)) ∷ []))) (at 1 244) (Some (id (at 1 248) "Latest_P")) (at 1 256)) ∷
    unit.OfPackage (at 2 1) [] (package_of (at 2 1) (id (at 2 9) "Second_P") None (at 2 18) (decl.OfItem (at 2 21)
    (objects_of (id (at 2 21) "Second_X") [] (at 2 30) None (indication_of (mark (at 2 32) "Integer")) (at 2 39)) ∷ [])
    None (at 2 41) (Some (id (at 2 45) "Second_P")) (at 2 53)) ∷ unit.OfPackage (at 3 1) (context.With (at 3 1) (mark
    (at 3 6) "Second_P") [] (at 3 14) ∷ []) (package_of (at 3 16) (id (at 3 24) "Second_R") None (at 3 33) (decl.OfItem
    (at 3 36) (initialized_of (id (at 3 36) "Second_Z") [] (at 3 45) None (indication_of (mark (at 3 47) "Integer")) (at
    3 55) (expr_of (at 3 58) (object (at 3 58) "Second_X")) (at 3 66)) ∷ []) None (at 3 68) (Some (id (at 3 72)
    "Second_R")) (at 3 80)) ∷ unit.OfSubprogram (at 4 1) (context.With (at 4 1) (selected (at 4 6) "Ada" (at 4 9) (at 4
    10) "Text_IO") [] (at 4 17) ∷ use_context (use_of (at 4 19) None (selected (at 4 23) "Ada" (at 4 26) (at 4 27)
    "Text_IO") [] (at 4 34)) ∷ context.With (at 4 36) (selected (at 4 41) "Ada" (at 4 44) (at 4 45) "Integer_Text_IO")
    [] (at 4 60) ∷ use_context (use_of (at 4 62) None (selected (at 4 66) "Ada" (at 4 69) (at 4 70) "Integer_Text_IO")
    [] (at 4 85)) ∷ context.With (at 4 87) (selected (at 4 92) "Ada" (at 4 95) (at 4 96) "Unchecked_Deallocation") []
    (at 4 118) ∷ []) (subprogram_of (at 5 1) (subspec.Procedure (at 5 1) (id (at 5 11) "Main") None) None (at 5 16)
    (item.IncompleteType (at 6 1) (id (at 6 6) "Cell") (at 6 10) ∷ item.AccessType (at 6 12) (id (at 6 17) "List") (at 6
    22) (at 6 25) (mark (at 6 32) "Cell") (at 6 36) ∷ item.RecordType (at 7 1) (id (at 7 6) "Cell") (at 7 11) (at 7 14)
    (fields_of (id (at 7 21) "Value") [] (at 7 27) (mark (at 7 29) "Integer") (at 7 36)) (fields_of (id (at 7 38)
    "Next") [] (at 7 43) (mark (at 7 45) "List") (at 7 49) ∷ []) (at 7 51) (at 7 55) (at 7 61) ∷ objects_of (id (at 7
    63) "X") (next_id_of (at 7 64) (at 7 66) "Y" ∷ []) (at 7 68) None (indication_of (mark (at 7 70) "List")) (at 7 74)
    ∷ initialized_of (id (at 8 1) "N") [] (at 8 3) None (indication_of (mark (at 8 5) "Integer")) (at 8 13) (expr_of (at
    8 16) (primary.Number (at 8 16) 8)) (at 8 17) ∷ []) (at 9 1) (stmts.Sequence (at 9 7) (stmt.While (at 9 7)
    (expr.LoneRelation (at 9 13) (rel.Compared (at 9 13) (sum_of (at 9 13) (object (at 9 13) "N")) relational.Greater
    (at 9 15) (sum_of (at 9 17) (primary.Number (at 9 17) 5)))) (at 9 19) (sole (at 9 24) (assign_of (at 9 24) "N" []
    (at 9 26) (expr.LoneRelation (at 9 29) (rel.LoneSum (at 9 29) (sum.Unsigned (at 9 29) (term.Product (at 9 29)
    (factor_of (at 9 29) (object (at 9 29) "N")) (next_factor.FurtherFactor (at 9 31) multiplying.Divide (factor_of (at
    9 33) (primary.Number (at 9 33) 2)) ∷ [])) []))) (at 9 34))) (at 9 36) (at 9 40) (at 9 44)) (stmt.IfElse (at 9 46)
    (expr.LoneRelation (at 9 49) (rel.Compared (at 9 49) (sum_of (at 9 49) (object (at 9 49) "N")) relational.Greater
    (at 9 51) (sum_of (at 9 53) (primary.Number (at 9 53) 3)))) (at 9 55) (sole (at 9 60) (assign_of (at 9 60) "N" []
    (at 9 62) (expr.LoneRelation (at 9 65) (rel.LoneSum (at 9 65) (sum.Unsigned (at 9 65) (term_of (at 9 65) (object (at
    9 65) "N")) (next_term.FurtherTerm (at 9 67) adding.Subtract (term_of (at 9 69) (primary.Number (at 9 69) 1)) ∷
    [])))) (at 9 70))) [] (at 9 72) (sole (at 9 77) (stmt.Null (at 9 77) (at 9 81))) (at 9 83) (at 9 87) (at 9 89) ∷
    stmt.DeclareBlock (at 10 1) (initialized_of (id (at 10 9) "B") [] (at 10 11) None (indication.Anonymous (at 10 13)
    None (mark (at 10 20) "Cell")) (at 10 25) (expr_of (at 10 28) (object (at 10 28) "X")) (at 10 29) ∷ []) (at 10 31)
    (sole (at 10 37) (stmt.If (at 10 37) (expr.LoneRelation (at 10 40) (rel.Compared (at 10 40) (sum_of (at 10 40)
    (object (at 10 40) "B")) relational.NotEqual (at 10 42) (sum_of (at 10 45) (primary.Null (at 10 45))))) (at 10 50)
    (sole (at 10 55) (assign_of (at 10 55) "B" (suffix.Selected (at 10 56) (id (at 10 57) "Value") ∷ []) (at 10 63)
    (expr_of (at 10 66) (object (at 10 66) "N")) (at 10 67))) [] (at 10 69) (at 10 73) (at 10 75))) (at 10 77) (at 10
    80) ∷ [])) (at 11 1) (Some (id (at 11 5) "Main")) (at 11 9)) ∷ []) ∷ [])
unfolding computes resolves
two_n2_15 = refl

two_n2_16 : IsFirstBrokenOf Twice (at 5 49) ((unit.OfPackage (at 1 1) (context.With (at 1 1) (selected (at 1 6) "Ada"
    (at 1 9) (at 1 10) "Text_IO") [] (at 1 17) ∷ use_context (use_of (at 1 19) None (selected (at 1 23) "Ada" (at 1 26)
    (at 1 27) "Text_IO") [] (at 1 34)) ∷ context.With (at 1 36) (selected (at 1 41) "Ada" (at 1 44) (at 1 45)
    "Integer_Text_IO") [] (at 1 60) ∷ use_context (use_of (at 1 62) None (selected (at 1 66) "Ada" (at 1 69) (at 1 70)
    "Integer_Text_IO") [] (at 1 85)) ∷ context.With (at 1 87) (selected (at 1 92) "Ada" (at 1 95) (at 1 96)
    "Unchecked_Deallocation") [] (at 1 118) ∷ []) (package_of (at 1 120) (id (at 1 128) "Second_P") None (at 1 137)
    (decl.Subprogram (at 2 1) (subspec.Procedure (at 2 1) (id (at 2 11) "Second_Q") None) None (at 2 19) ∷ []) None (at
    3 1) (Some (id (at 3 5) "Second_P")) (at 3 13)) ∷ unit.OfBody (at 4 1) [] (package_body_of (at 4 1) (at 4 9) (id (at
    4 14) "Second_P") None (at 4 23) (part.Completed (at 5 1) (subprogram_of (at 5 1) (subspec.Procedure (at 5 1) (id
    (at 5 11) "Second_X") None) None (at 5 20) [] (at 5 23) (sole (at 5 29) (stmt.Null (at 5 29) (at 5 33))) (at 5 35)
    (Some (id (at 5 39) "Second_X")) (at 5 47)) ∷ part.Declared (at 5 49) (decl.OfItem (at 5 49) (objects_of (id (at 5
    49) "Second_X") [] (at 5 58) None (indication_of (mark (at 5 60) "Integer")) (at 5 67))) ∷ part.Completed (at 5 69)
    (subprogram_of (at 5 69) (subspec.Procedure (at 5 69) (id (at 5 79) "Second_Q") None) None (at 5 88) [] (at 5 91)
    (sole (at 5 97) (call_of (at 5 97) "Second_X" [] (at 5 105))) (at 5 107) (Some (id (at 5 111) "Second_Q")) (at 5
    119)) ∷ []) (at 6 1) (Some (id (at 6 5) "Second_P")) (at 6 13)) ∷ unit.OfSubprogram (at 7 1) (context.With (at 7 1)
    (selected (at 7 6) "Ada" (at 7 9) (at 7 10) "Text_IO") [] (at 7 17) ∷ use_context (use_of (at 7 19) None (selected
    (at 7 23) "Ada" (at 7 26) (at 7 27) "Text_IO") [] (at 7 34)) ∷ context.With (at 7 36) (selected (at 7 41) "Ada" (at
    7 44) (at 7 45) "Integer_Text_IO") [] (at 7 60) ∷ use_context (use_of (at 7 62) None (selected (at 7 66) "Ada" (at 7
    69) (at 7 70) "Integer_Text_IO") [] (at 7 85)) ∷ context.With (at 7 87) (selected (at 7 92) "Ada" (at 7 95) (at 7
    96) "Unchecked_Deallocation") [] (at 7 118) ∷ []) (subprogram_of (at 8 1) (subspec.Procedure (at 8 1) (id (at 8 11)
    "Main") None) None (at 8 16) (item.IncompleteType (at 9 1) (id (at 9 6) "Cell") (at 9 10) ∷ item.AccessType (at 10
    1) (id (at 10 6) "List") (at 10 11) (at 10 14) (mark (at 10 21) "Cell") (at 10 25) ∷ item.RecordType (at 11 1) (id
    (at 11 6) "Cell") (at 11 11) (at 11 14) (fields_of (id (at 11 21) "Value") [] (at 11 27) (mark (at 11 29) "Integer")
    (at 11 36)) (fields_of (id (at 11 38) "Next") [] (at 11 43) (mark (at 11 45) "List") (at 11 49) ∷ []) (at 11 51) (at
    11 55) (at 11 61) ∷ objects_of (id (at 12 1) "X") (next_id_of (at 12 2) (at 12 4) "Y" ∷ []) (at 12 6) None
    (indication_of (mark (at 12 8) "List")) (at 12 12) ∷ initialized_of (id (at 13 1) "N") [] (at 13 3) None
    (indication_of (mark (at 13 5) "Integer")) (at 13 13) (expr_of (at 13 16) (primary.Number (at 13 16) 6)) (at 13 17)
    ∷ []) (at 14 1) (stmts.Sequence (at 15 1) (stmt.If (at 15 1) (expr.LoneRelation (at 15 4) (rel.LoneSum (at 15 4)
    (sum.Unsigned (at 15 4) (term.Product (at 15 4) (factor.Not (at 15 4) (object (at 15 8) "End_Of_File")) []) [])))
    (at 15 20) (sole (at 15 25) (call_of (at 15 25) "Get" (suffix.Applied (at 15 29) (actual_of (at 15 30) (object (at
    15 30) "N")) [] (at 15 31) ∷ []) (at 15 32))) [] (at 15 34) (at 15 38) (at 15 40)) (stmt.IfElse (at 16 1)
    (expr.LoneRelation (at 16 4) (rel.Compared (at 16 4) (sum_of (at 16 4) (object (at 16 4) "N")) relational.Greater
    (at 16 6) (sum_of (at 16 8) (primary.Number (at 16 8) 3)))) (at 16 10) (sole (at 16 15) (assign_of (at 16 15) "N" []
    (at 16 17) (expr.LoneRelation (at 16 20) (rel.LoneSum (at 16 20) (sum.Unsigned (at 16 20) (term_of (at 16 20)
    (object (at 16 20) "N")) (next_term.FurtherTerm (at 16 22) adding.Subtract (term_of (at 16 24) (primary.Number (at
    16 24) 1)) ∷ [])))) (at 16 25))) [] (at 16 27) (sole (at 16 32) (stmt.Null (at 16 32) (at 16 36))) (at 16 38) (at 16
    42) (at 16 44) ∷ [])) (at 17 1) (Some (id (at 17 5) "Main")) (at 17 9)) ∷ unit.OfPackage (at 18 1) [] (package_of
    (at 18 1) (id (at 18 9) "Usual_P") None (at 18 17) (decl.OfItem (at 18 20) (item.EnumerationType (at 18 20) (id (at
    18 25) "Usual_T") (at 18 33) (at 18 36) (id (at 18 37) "Usual_A") (next_id_of (at 18 44) (at 18 46) "Usual_B" ∷ [])
    (at 18 53) (at 18 54)) ∷ []) None (at 18 56) (Some (id (at 18 60) "Usual_P")) (at 18 67)) ∷ unit.OfPackage (at 19 1)
    [] (package_of (at 19 1) (id (at 19 9) "Usual_Q") None (at 19 17) (decl.OfItem (at 19 20) (item.EnumerationType (at
    19 20) (id (at 19 25) "Usual_T") (at 19 33) (at 19 36) (id (at 19 37) "Usual_C") (next_id_of (at 19 44) (at 19 46)
    "Usual_D" ∷ []) (at 19 53) (at 19 54)) ∷ []) None (at 19 56) (Some (id (at 19 60) "Usual_Q")) (at 19 67)) ∷
    unit.OfPackage (at 20 1) (context.With (at 20 1) (mark (at 20 6) "Usual_P") [] (at 20 13) ∷ context.With (at 20 15)
    (mark (at 20 20) "Usual_Q") [] (at 20 27) ∷ []) (package_of (at 20 29) (id (at 20 37) "Usual_R") None (at 20 45)
    (decl.OfItem (at 20 48) (use_item (use_of (at 20 48) None (mark (at 20 52) "Usual_Q") [] (at 20 59))) ∷ decl.OfItem
    (at 20 61) (use_item (use_of (at 20 61) None (mark (at 20 65) "Usual_P") [] (at 20 72))) ∷ decl.OfItem (at 20 74)
    (objects_of (id (at 20 74) "Usual_Y") [] (at 20 82) None (indication_of (mark (at 20 84) "Usual_T")) (at 20 91)) ∷
    []) None (at 20 93) (Some (id (at 20 97) "Usual_R")) (at 20 104)) ∷ []) ∷ [])
unfolding computes resolves
two_n2_16 = refl
