-- Two rules are broken, and N4 is first: by its position, or there by its code.
--
-- tools/tree_terms.py makes this of the sources that data/cases.txt has under its name.
use Rattle.std.proofs.Common.{refl, [], ◌∷◌}
use Rattle.std.specs.Prelude.{None, Some}
use Rattle.ada_tree.specs.declared.operator.AddingOperator.TheVariants as adding
use Rattle.ada_tree.specs.declared.expression.Aggregate.TheVariants as aggregate
use Rattle.ada_tree.specs.declared.statement.When.TheVariants as alternative
use Rattle.ada_tree.specs.declared.range.Choice.TheVariants as choice
use Rattle.ada_tree.specs.declared.unit.Context.TheVariants as context
use Rattle.ada_tree.specs.declared.subprogram.Decl.TheVariants as decl
use Rattle.ada_tree.specs.declared.expression.Expr.TheVariants as expr
use Rattle.ada_tree.specs.declared.expression.Factor.TheVariants as factor
use Rattle.ada_tree.specs.declared.declaration.Indication.TheVariants as indication
use Rattle.ada_tree.specs.declared.declaration.Item.TheVariants as item
use Rattle.ada_tree.specs.declared.operator.MultiplyingOperator.TheVariants as multiplying
use Rattle.ada_tree.specs.declared.expression.NextArg.TheVariants as next_arg
use Rattle.ada_tree.specs.declared.expression.NextFactor.TheVariants as next_factor
use Rattle.ada_tree.specs.declared.subprogram.NextFormal.TheVariants as next_formal
use Rattle.ada_tree.specs.declared.identifier.NextPart.TheVariants as next_part
use Rattle.ada_tree.specs.declared.expression.NextTerm.TheVariants as next_term
use Rattle.ada_tree.specs.declared.unit.BodyPart.TheVariants as part
use Rattle.ada_tree.specs.declared.expression.Primary.TheVariants as primary
use Rattle.ada_tree.specs.declared.range.Range.TheVariants as range
use Rattle.ada_tree.specs.declared.expression.Rel.TheVariants as rel
use Rattle.ada_tree.specs.declared.operator.RelationalOperator.TheVariants as relational
use Rattle.ada_tree.specs.declared.statement.Stmt.TheVariants as stmt
use Rattle.ada_tree.specs.declared.statement.Stmts.TheVariants as stmts
use Rattle.ada_tree.specs.declared.subprogram.Subspec.TheVariants as subspec
use Rattle.ada_tree.specs.declared.expression.Suffix.TheVariants as suffix
use Rattle.ada_tree.specs.declared.expression.Sum.TheVariants as sum
use Rattle.ada_tree.specs.declared.expression.Term.TheVariants as term
use Rattle.ada_tree.specs.declared.unit.SourceUnit.TheVariants as unit
use Rattle.ada_grammar.proofs.SmallSources.{computes}
use Rattle.name_events.specs.declared.declaration.NameRule.TheVariants.{TooEarly}
use Rattle.name_tests.proofs.SmallRules.{resolves}
use Rattle.name_tests.proofs.SourceTrees.{IsFirstBrokenOf, actual_of, assign_of, at, at1, at2, call_of, dotted_of, expr_of, factor_of, fields_of, formals_of, id, indication_of, initialized_of, mark, moded_of, named, next_id_of, numbers_of, object, objects_of, package_body_of, package_of, private_part, selected, sole, subprogram_of, sum_of, term_of, use_context, use_item, use_of}

two_n4_1 : IsFirstBrokenOf TooEarly (at 1 6) ((unit.OfPackage (at 1 1) (context.With (at 1 1) (mark (at 1 6) "Latest_R")
    [] (at 1 14) ∷ []) (package_of (at 1 16) (id (at 1 24) "Latest_R") None (at 1 33) (decl.OfItem (at 1 36) (objects_of
    (id (at 1 36) "Latest_Z") [] (at 1 45) None (indication_of (mark (at 1 47) "Integer")) (at 1 54)) ∷ []) None (at 1
    56) (Some (id (at 1 60) "Latest_R")) (at 1 68)) ∷ unit.OfPackage (at 2 1) (context.With (at 2 1) (dotted_of (id (at
    2 6) "Ada") (next_part.FurtherPart (at 2 9) (id (at 2 10) "Text_IO") ∷ next_part.FurtherPart (at 2 17) (id (at 2 18)
    "Put") ∷ [])) [] (at 2 21) ∷ []) (package_of (at 2 23) (id (at 2 31) "Inner_R") None (at 2 39) (decl.OfItem (at 2
    42) (objects_of (id (at 2 42) "Inner_Z") [] (at 2 50) None (indication_of (mark (at 2 52) "Integer")) (at 2 59)) ∷
    []) None (at 2 61) (Some (id (at 2 65) "Inner_R")) (at 2 72)) ∷ unit.OfSubprogram (at 3 1) (context.With (at 3 1)
    (selected (at 3 6) "Ada" (at 3 9) (at 3 10) "Text_IO") [] (at 3 17) ∷ use_context (use_of (at 3 19) None (selected
    (at 3 23) "Ada" (at 3 26) (at 3 27) "Text_IO") [] (at 3 34)) ∷ context.With (at 3 36) (selected (at 3 41) "Ada" (at
    3 44) (at 3 45) "Integer_Text_IO") [] (at 3 60) ∷ use_context (use_of (at 3 62) None (selected (at 3 66) "Ada" (at 3
    69) (at 3 70) "Integer_Text_IO") [] (at 3 85)) ∷ context.With (at 3 87) (selected (at 3 92) "Ada" (at 3 95) (at 3
    96) "Unchecked_Deallocation") [] (at 3 118) ∷ []) (subprogram_of (at 4 1) (subspec.Procedure (at 4 1) (id (at 4 11)
    "Main") None) None (at 4 16) (item.IncompleteType (at 5 1) (id (at 5 6) "Cell") (at 5 10) ∷ item.AccessType (at 6 1)
    (id (at 6 6) "List") (at 6 11) (at 6 14) (mark (at 6 21) "Cell") (at 6 25) ∷ item.RecordType (at 7 1) (id (at 7 6)
    "Cell") (at 7 11) (at 7 14) (fields_of (id (at 7 21) "Value") [] (at 7 27) (mark (at 7 29) "Integer") (at 7 36))
    (fields_of (id (at 7 38) "Next") [] (at 7 43) (mark (at 7 45) "List") (at 7 49) ∷ []) (at 7 51) (at 7 55) (at 7 61)
    ∷ objects_of (id (at 8 1) "X") (next_id_of (at 8 2) (at 8 4) "Y" ∷ []) (at 8 6) None (indication_of (mark (at 8 8)
    "List")) (at 8 12) ∷ initialized_of (id (at 9 1) "N") [] (at 9 3) None (indication_of (mark (at 9 5) "Integer")) (at
    9 13) (expr_of (at 9 16) (primary.Number (at 9 16) 2)) (at 9 17) ∷ []) (at 10 1) (stmts.Sequence (at 11 1) (stmt.If
    (at 11 1) (expr.LoneRelation (at 11 4) (rel.LoneSum (at 11 4) (sum.Unsigned (at 11 4) (term.Product (at 11 4)
    (factor.Not (at 11 4) (object (at 11 8) "End_Of_File")) []) []))) (at 11 20) (sole (at 11 25) (call_of (at 11 25)
    "Get" (suffix.Applied (at 11 29) (actual_of (at 11 30) (object (at 11 30) "N")) [] (at 11 31) ∷ []) (at 11 32))) []
    (at 11 34) (at 11 38) (at 11 40)) (assign_of (at 12 1) "N" [] (at 12 3) (expr.LoneRelation (at 12 6) (rel.LoneSum
    (at 12 6) (sum.Unsigned (at 12 6) (term.Product (at 12 6) (factor_of (at 12 6) (object (at 12 6) "N"))
    (next_factor.FurtherFactor (at 12 8) multiplying.Multiply (factor_of (at 12 10) (primary.Number (at 12 10) 2)) ∷
    [])) (next_term.FurtherTerm (at 12 12) adding.Add (term_of (at 12 14) (primary.Number (at 12 14) 1)) ∷ [])))) (at 12
    15) ∷ [])) (at 13 1) (Some (id (at 13 5) "Main")) (at 13 9)) ∷ []) ∷ [])
unfolding computes resolves
two_n4_1 = refl

two_n4_2 : IsFirstBrokenOf TooEarly (at 9 27) ((unit.OfSubprogram (at 1 1) (context.With (at 1 1) (selected (at 1 6)
    "Ada" (at 1 9) (at 1 10) "Text_IO") [] (at 1 17) ∷ use_context (use_of (at 1 19) None (selected (at 1 23) "Ada" (at
    1 26) (at 1 27) "Text_IO") [] (at 1 34)) ∷ context.With (at 1 36) (selected (at 1 41) "Ada" (at 1 44) (at 1 45)
    "Integer_Text_IO") [] (at 1 60) ∷ use_context (use_of (at 1 62) None (selected (at 1 66) "Ada" (at 1 69) (at 1 70)
    "Integer_Text_IO") [] (at 1 85)) ∷ context.With (at 1 87) (selected (at 1 92) "Ada" (at 1 95) (at 1 96)
    "Unchecked_Deallocation") [] (at 1 118) ∷ []) (subprogram_of (at 2 1) (subspec.Procedure (at 2 1) (id (at 2 11)
    "Main") None) None (at 2 16) (item.IncompleteType (at 3 1) (id (at 3 6) "Cell") (at 3 10) ∷ item.AccessType (at 4 1)
    (id (at 4 6) "List") (at 4 11) (at 4 14) (mark (at 4 21) "Cell") (at 4 25) ∷ item.RecordType (at 5 1) (id (at 5 6)
    "Cell") (at 5 11) (at 5 14) (fields_of (id (at 5 21) "Value") [] (at 5 27) (mark (at 5 29) "Integer") (at 5 36))
    (fields_of (id (at 5 38) "Next") [] (at 5 43) (mark (at 5 45) "List") (at 5 49) ∷ []) (at 5 51) (at 5 55) (at 5 61)
    ∷ objects_of (id (at 6 1) "X") (next_id_of (at 6 2) (at 6 4) "Y" ∷ []) (at 6 6) None (indication_of (mark (at 6 8)
    "List")) (at 6 12) ∷ initialized_of (id (at 7 1) "N") [] (at 7 3) None (indication_of (mark (at 7 5) "Integer")) (at
    7 13) (expr_of (at 7 16) (primary.Number (at 7 16) 6)) (at 7 17) ∷ item.AccessType (at 7 19) (id (at 7 24)
    "Plain_Ptr") (at 7 34) (at 7 37) (mark (at 7 44) "Integer") (at 7 51) ∷ item.Instance (at 7 53) (id (at 7 63)
    "Plain_Free") (at 7 74) (at 7 77) (selected (at 7 81) "Ada" (at 7 84) (at 7 85) "Text_IO") (at 7 93) (actual_of (at
    7 94) (object (at 7 94) "Integer")) (next_arg.FurtherArg (at 7 101) (actual_of (at 7 103) (object (at 7 103)
    "Plain_Ptr")) ∷ []) (at 7 112) (at 7 113) ∷ item.Instance (at 8 1) (id (at 8 11) "Free") (at 8 16) (at 8 19)
    (selected (at 8 23) "Ada" (at 8 26) (at 8 27) "Unchecked_Deallocation") (at 8 50) (actual_of (at 8 51) (object (at 8
    51) "Cell")) (next_arg.FurtherArg (at 8 55) (actual_of (at 8 57) (object (at 8 57) "List")) ∷ []) (at 8 61) (at 8
    62) ∷ []) (at 9 1) (stmts.Sequence (at 9 7) (stmt.For (at 9 7) (id (at 9 11) "Inner_I") (at 9 19) None (range.Bounds
    (at 9 22) (expr_of (at 9 22) (primary.Number (at 9 22) 1)) (at 9 24) (expr_of (at 9 27) (object (at 9 27)
    "Inner_I"))) (at 9 35) (sole (at 9 40) (stmt.Null (at 9 40) (at 9 44))) (at 9 46) (at 9 50) (at 9 54)) (assign_of
    (at 10 1) "Y" [] (at 10 3) (expr_of (at 10 6) (object (at 10 6) "X")) (at 10 7) ∷ assign_of (at 10 9) "X" [] (at 10
    11) (expr_of (at 10 14) (primary.Null (at 10 14))) (at 10 18) ∷ stmt.For (at 11 1) (id (at 11 5) "I") (at 11 7) None
    (range.Bounds (at 11 10) (expr_of (at 11 10) (primary.Number (at 11 10) 1)) (at 11 12) (expr_of (at 11 15)
    (primary.Number (at 11 15) 3))) (at 11 17) (sole (at 11 22) (assign_of (at 11 22) "N" [] (at 11 24)
    (expr.LoneRelation (at 11 27) (rel.LoneSum (at 11 27) (sum.Unsigned (at 11 27) (term_of (at 11 27) (object (at 11
    27) "N")) (next_term.FurtherTerm (at 11 29) adding.Add (term_of (at 11 31) (object (at 11 31) "I")) ∷ [])))) (at 11
    32))) (at 11 34) (at 11 38) (at 11 42) ∷ [])) (at 12 1) (Some (id (at 12 5) "Main")) (at 12 9)) ∷ []) ∷ [])
unfolding computes resolves
two_n4_2 = refl

two_n4_3 : IsFirstBrokenOf TooEarly (at 5 91) ((unit.OfSubprogram (at 1 1) (context.With (at 1 1) (selected (at 1 6)
    "Ada" (at 1 9) (at 1 10) "Text_IO") [] (at 1 17) ∷ use_context (use_of (at 1 19) None (selected (at 1 23) "Ada" (at
    1 26) (at 1 27) "Text_IO") [] (at 1 34)) ∷ context.With (at 1 36) (selected (at 1 41) "Ada" (at 1 44) (at 1 45)
    "Integer_Text_IO") [] (at 1 60) ∷ use_context (use_of (at 1 62) None (selected (at 1 66) "Ada" (at 1 69) (at 1 70)
    "Integer_Text_IO") [] (at 1 85)) ∷ context.With (at 1 87) (selected (at 1 92) "Ada" (at 1 95) (at 1 96)
    "Unchecked_Deallocation") [] (at 1 118) ∷ []) (subprogram_of (at 2 7) (subspec.Procedure (at 2 7) (id (at 2 17)
    "Main") None) None (at 2 22) (item.IncompleteType (at 3 1) (id (at 3 6) "Cell") (at 3 10) ∷ item.AccessType (at 4 4)
    (id (at 4 9) "List") (at 4 14) (at 4 17) (mark (at 4 24) "Cell") (at 4 28) ∷ item.RecordType (at 5 7) (id (at 5 12)
    "Cell") (at 5 17) (at 5 20) (fields_of (id (at 5 27) "Value") [] (at 5 33) (mark (at 5 35) "Integer") (at 5 42))
    (fields_of (id (at 5 44) "Next") [] (at 5 49) (mark (at 5 51) "List") (at 5 55) ∷ []) (at 5 57) (at 5 61) (at 5 67)
    ∷ numbers_of (id (at 5 69) "Spare_X") [] (at 5 77) (at 5 79) (at 5 88) (expr.LoneRelation (at 5 91) (rel.LoneSum (at
    5 91) (sum.Unsigned (at 5 91) (term_of (at 5 91) (object (at 5 91) "Spare_Y")) (next_term.FurtherTerm (at 5 99)
    adding.Add (term_of (at 5 101) (primary.Number (at 5 101) 1)) ∷ [])))) (at 5 102) ∷ numbers_of (id (at 5 104)
    "Spare_Y") [] (at 5 112) (at 5 114) (at 5 123) (expr_of (at 5 126) (primary.Number (at 5 126) 2)) (at 5 127) ∷
    objects_of (id (at 5 129) "Former_X") [] (at 5 138) None (indication_of (mark (at 5 140) "Integer")) (at 5 147) ∷
    item.EnumerationType (at 5 149) (id (at 5 154) "Former_X") (at 5 163) (at 5 166) (id (at 5 167) "Former_A")
    (next_id_of (at 5 175) (at 5 177) "Former_B" ∷ []) (at 5 185) (at 5 186) ∷ objects_of (id (at 6 4) "X") (next_id_of
    (at 6 5) (at 6 7) "Y" ∷ []) (at 6 9) None (indication_of (mark (at 6 11) "List")) (at 6 15) ∷ initialized_of (id (at
    7 1) "N") [] (at 7 3) None (indication_of (mark (at 7 5) "Integer")) (at 7 13) (expr_of (at 7 16) (primary.Number
    (at 7 16) 5)) (at 7 17) ∷ []) (at 8 7) (stmts.Sequence (at 9 4) (stmt.While (at 9 4) (expr.LoneRelation (at 9 10)
    (rel.Compared (at 9 10) (sum_of (at 9 10) (object (at 9 10) "N")) relational.Greater (at 9 12) (sum_of (at 9 14)
    (primary.Number (at 9 14) 5)))) (at 9 16) (sole (at 9 21) (assign_of (at 9 21) "N" [] (at 9 23) (expr.LoneRelation
    (at 9 26) (rel.LoneSum (at 9 26) (sum.Unsigned (at 9 26) (term.Product (at 9 26) (factor_of (at 9 26) (object (at 9
    26) "N")) (next_factor.FurtherFactor (at 9 28) multiplying.Divide (factor_of (at 9 30) (primary.Number (at 9 30) 2))
    ∷ [])) []))) (at 9 31))) (at 9 33) (at 9 37) (at 9 41)) (stmt.IfElse (at 10 1) (expr.LoneRelation (at 10 4)
    (rel.Compared (at 10 4) (sum_of (at 10 4) (object (at 10 4) "N")) relational.Greater (at 10 6) (sum_of (at 10 8)
    (primary.Number (at 10 8) 3)))) (at 10 10) (sole (at 10 15) (assign_of (at 10 15) "N" [] (at 10 17)
    (expr.LoneRelation (at 10 20) (rel.LoneSum (at 10 20) (sum.Unsigned (at 10 20) (term_of (at 10 20) (object (at 10
    20) "N")) (next_term.FurtherTerm (at 10 22) adding.Subtract (term_of (at 10 24) (primary.Number (at 10 24) 1)) ∷
    [])))) (at 10 25))) [] (at 10 27) (sole (at 10 32) (stmt.Null (at 10 32) (at 10 36))) (at 10 38) (at 10 42) (at 10
    44) ∷ assign_of (at 11 1) "N" [] (at 11 3) (expr.LoneRelation (at 11 6) (rel.LoneSum (at 11 6) (sum.Unsigned (at 11
    6) (term.Product (at 11 6) (factor_of (at 11 6) (object (at 11 6) "N")) (next_factor.FurtherFactor (at 11 8)
    multiplying.Multiply (factor_of (at 11 10) (primary.Number (at 11 10) 2)) ∷ [])) (next_term.FurtherTerm (at 11 12)
    adding.Add (term_of (at 11 14) (primary.Number (at 11 14) 1)) ∷ [])))) (at 11 15) ∷ assign_of (at 12 1) "X" [] (at
    12 3) (expr_of (at 12 6) (primary.AllocatedAggregate (at 12 6) (mark (at 12 10) "Cell") (at 12 14)
    (aggregate.Several (at 12 15) (actual_of (at 12 16) (object (at 12 16) "N")) (at 12 17) (actual_of (at 12 19)
    (primary.Null (at 12 19))) [] (at 12 23)))) (at 12 24) ∷ stmt.For (at 13 1) (id (at 13 5) "I") (at 13 7) None
    (range.Bounds (at 13 10) (expr_of (at 13 10) (primary.Number (at 13 10) 1)) (at 13 12) (expr_of (at 13 15)
    (primary.Number (at 13 15) 3))) (at 13 17) (sole (at 13 22) (assign_of (at 13 22) "N" [] (at 13 24)
    (expr.LoneRelation (at 13 27) (rel.LoneSum (at 13 27) (sum.Unsigned (at 13 27) (term_of (at 13 27) (object (at 13
    27) "N")) (next_term.FurtherTerm (at 13 29) adding.Add (term_of (at 13 31) (object (at 13 31) "I")) ∷ [])))) (at 13
    32))) (at 13 34) (at 13 38) (at 13 42) ∷ [])) (at 14 1) (Some (id (at 14 5) "Main")) (at 14 9)) ∷ []) ∷ [])
unfolding computes resolves
two_n4_3 = refl

two_n4_4 : IsFirstBrokenOf TooEarly (at 5 39) ((unit.OfPackage (at 1 7) (context.With (at 1 7) (selected (at 1 12) "Ada"
    (at 1 15) (at 1 16) "Text_IO") [] (at 1 23) ∷ use_context (use_of (at 1 25) None (selected (at 1 29) "Ada" (at 1 32)
    (at 1 33) "Text_IO") [] (at 1 40)) ∷ context.With (at 1 42) (selected (at 1 47) "Ada" (at 1 50) (at 1 51)
    "Integer_Text_IO") [] (at 1 66) ∷ use_context (use_of (at 1 68) None (selected (at 1 72) "Ada" (at 1 75) (at 1 76)
    "Integer_Text_IO") [] (at 1 91)) ∷ context.With (at 1 93) (selected (at 1 98) "Ada" (at 1 101) (at 1 102)
    "Unchecked_Deallocation") [] (at 1 124) ∷ []) (package_of (at 1 126) (id (at 1 134) "Extra_P") None (at 1 142)
    (decl.Subprogram (at 2 7) (subspec.Procedure (at 2 7) (id (at 2 17) "Extra_Q") None) None (at 2 24) ∷ []) None (at 3
    1) (Some (id (at 3 5) "Extra_P")) (at 3 12)) ∷ unit.OfBody (at 4 1) [] (package_body_of (at 4 1) (at 4 9) (id (at 4
    14) "Extra_P") None (at 4 22) (part.Completed (at 5 4) (subprogram_of (at 5 4) (subspec.Procedure (at 5 4) (id (at 5
    14) "Extra_Q") None) None (at 5 22) [] (at 5 25) (sole (at 5 31) (assign_of (at 5 31) "Extra_P" (suffix.Selected (at
    5 38) (id (at 5 39) "Extra_X") ∷ []) (at 5 47) (expr_of (at 5 50) (primary.Number (at 5 50) 1)) (at 5 51))) (at 5
    53) (Some (id (at 5 57) "Extra_Q")) (at 5 64)) ∷ part.Declared (at 5 66) (decl.OfItem (at 5 66) (objects_of (id (at
    5 66) "Extra_X") [] (at 5 74) None (indication_of (mark (at 5 76) "Integer")) (at 5 83))) ∷ []) (at 6 1) (Some (id
    (at 6 5) "Extra_P")) (at 6 12)) ∷ []) ∷ (unit.OfSubprogram (at1 1 1) (context.With (at1 1 1) (selected (at1 1 6)
    "Ada" (at1 1 9) (at1 1 10) "Text_IO") [] (at1 1 17) ∷ use_context (use_of (at1 1 19) None (selected (at1 1 23) "Ada"
    (at1 1 26) (at1 1 27) "Text_IO") [] (at1 1 34)) ∷ context.With (at1 1 36) (selected (at1 1 41) "Ada" (at1 1 44) (at1
    1 45) "Integer_Text_IO") [] (at1 1 60) ∷ use_context (use_of (at1 1 62) None (selected (at1 1 66) "Ada" (at1 1 69)
    (at1 1 70) "Integer_Text_IO") [] (at1 1 85)) ∷ context.With (at1 1 87) (selected (at1 1 92) "Ada" (at1 1 95) (at1 1
    96) "Unchecked_Deallocation") [] (at1 1 118) ∷ []) (subprogram_of (at1 2 7) (subspec.Procedure (at1 2 7) (id (at1 2
    17) "Main") None) None (at1 2 22) (item.IncompleteType (at1 3 7) (id (at1 3 12) "Cell") (at1 3 16) ∷ item.AccessType
    (at1 4 1) (id (at1 4 6) "List") (at1 4 11) (at1 4 14) (mark (at1 4 21) "Cell") (at1 4 25) ∷ item.RecordType (at1 5
    7) (id (at1 5 12) "Cell") (at1 5 17) (at1 5 20) (fields_of (id (at1 5 27) "Value") [] (at1 5 33) (mark (at1 5 35)
    "Integer") (at1 5 42)) (fields_of (id (at1 5 44) "Next") [] (at1 5 49) (mark (at1 5 51) "List") (at1 5 55) ∷ [])
    (at1 5 57) (at1 5 61) (at1 5 67) ∷ objects_of (id (at1 6 1) "X") (next_id_of (at1 6 2) (at1 6 4) "Y" ∷ []) (at1 6 6)
    None (indication_of (mark (at1 6 8) "List")) (at1 6 12) ∷ initialized_of (id (at1 7 1) "N") [] (at1 7 3) None
    (indication_of (mark (at1 7 5) "Integer")) (at1 7 13) (expr_of (at1 7 16) (primary.Number (at1 7 16) 0)) (at1 7 17)
    ∷ []) (at1 8 7) (stmts.Sequence (at1 9 1) (stmt.IfElse (at1 9 1) (expr.LoneRelation (at1 9 4) (rel.Compared (at1 9
    4) (sum_of (at1 9 4) (object (at1 9 4) "N")) relational.Greater (at1 9 6) (sum_of (at1 9 8) (primary.Number (at1 9
    8) 3)))) (at1 9 10) (sole (at1 9 15) (assign_of (at1 9 15) "N" [] (at1 9 17) (expr.LoneRelation (at1 9 20)
    (rel.LoneSum (at1 9 20) (sum.Unsigned (at1 9 20) (term_of (at1 9 20) (object (at1 9 20) "N")) (next_term.FurtherTerm
    (at1 9 22) adding.Subtract (term_of (at1 9 24) (primary.Number (at1 9 24) 1)) ∷ [])))) (at1 9 25))) [] (at1 9 27)
    (sole (at1 9 32) (stmt.Null (at1 9 32) (at1 9 36))) (at1 9 38) (at1 9 42) (at1 9 44)) (stmt.While (at1 10 4)
    (expr.LoneRelation (at1 10 10) (rel.Compared (at1 10 10) (sum_of (at1 10 10) (object (at1 10 10) "N"))
    relational.Greater (at1 10 12) (sum_of (at1 10 14) (primary.Number (at1 10 14) 5)))) (at1 10 16) (sole (at1 10 21)
    (assign_of (at1 10 21) "N" [] (at1 10 23) (expr.LoneRelation (at1 10 26) (rel.LoneSum (at1 10 26) (sum.Unsigned (at1
    10 26) (term.Product (at1 10 26) (factor_of (at1 10 26) (object (at1 10 26) "N")) (next_factor.FurtherFactor (at1 10
    28) multiplying.Divide (factor_of (at1 10 30) (primary.Number (at1 10 30) 2)) ∷ [])) []))) (at1 10 31))) (at1 10 33)
    (at1 10 37) (at1 10 41) ∷ assign_of (at1 11 4) "N" [] (at1 11 6) (expr.LoneRelation (at1 11 9) (rel.LoneSum (at1 11
    9) (sum.Unsigned (at1 11 9) (term.Product (at1 11 9) (factor_of (at1 11 9) (object (at1 11 9) "N"))
    (next_factor.FurtherFactor (at1 11 11) multiplying.Multiply (factor_of (at1 11 13) (primary.Number (at1 11 13) 2)) ∷
    [])) (next_term.FurtherTerm (at1 11 15) adding.Add (term_of (at1 11 17) (primary.Number (at1 11 17) 1)) ∷ []))))
    (at1 11 18) ∷ [])) (at1 12 1) (Some (id (at1 12 5) "Main")) (at1 12 9)) ∷ unit.OfBody (at1 13 1) [] (package_body_of
    (at1 13 1) (at1 13 9) (id (at1 13 14) "Inner_P") None (at1 13 22) (part.Declared (at1 13 25) (decl.OfItem (at1 13
    25) (objects_of (id (at1 13 25) "Inner_X") [] (at1 13 33) None (indication_of (mark (at1 13 35) "Integer")) (at1 13
    42))) ∷ []) (at1 13 44) (Some (id (at1 13 48) "Inner_P")) (at1 13 55)) ∷ []) ∷ [])
unfolding computes resolves
two_n4_4 = refl

two_n4_5 : IsFirstBrokenOf TooEarly (at 1 52) ((unit.OfPackage (at 1 1) [] (package_of (at 1 1) (id (at 1 9) "Second_P")
    None (at 1 18) (decl.OfItem (at 1 21) (initialized_of (id (at 1 21) "Second_X") [] (at 1 30) None (indication_of
    (mark (at 1 32) "Integer")) (at 1 40) (expr_of (at 1 43) (named (at 1 43) "Second_P" (suffix.Selected (at 1 51) (id
    (at 1 52) "Second_X") ∷ []))) (at 1 60)) ∷ []) None (at 1 62) (Some (id (at 1 66) "Second_P")) (at 1 74)) ∷
    unit.OfPackage (at 2 1) [] (package_of (at 2 1) (id (at 2 9) "Inner_P") None (at 2 17) (decl.OfItem (at 2 20)
    (item.IncompleteType (at 2 20) (id (at 2 25) "Inner_T") (at 2 32)) ∷ decl.OfItem (at 2 34) (item.AccessType (at 2
    34) (id (at 2 39) "Inner_A") (at 2 47) (at 2 50) (mark (at 2 57) "Inner_T") (at 2 64)) ∷ []) (Some (private_part (at
    2 66) (decl.OfItem (at 2 74) (item.EnumerationType (at 2 74) (id (at 2 79) "Inner_T") (at 2 87) (at 2 90) (id (at 2
    91) "Inner_U") (next_id_of (at 2 98) (at 2 100) "Inner_V" ∷ []) (at 2 107) (at 2 108)) ∷ []))) (at 2 110) (Some (id
    (at 2 114) "Inner_P")) (at 2 121)) ∷ unit.OfSubprogram (at 3 1) (context.With (at 3 1) (selected (at 3 6) "Ada" (at
    3 9) (at 3 10) "Text_IO") [] (at 3 17) ∷ use_context (use_of (at 3 19) None (selected (at 3 23) "Ada" (at 3 26) (at
    3 27) "Text_IO") [] (at 3 34)) ∷ context.With (at 3 36) (selected (at 3 41) "Ada" (at 3 44) (at 3 45)
    "Integer_Text_IO") [] (at 3 60) ∷ use_context (use_of (at 3 62) None (selected (at 3 66) "Ada" (at 3 69) (at 3 70)
    "Integer_Text_IO") [] (at 3 85)) ∷ context.With (at 3 87) (selected (at 3 92) "Ada" (at 3 95) (at 3 96)
    "Unchecked_Deallocation") [] (at 3 118) ∷ []) (subprogram_of (at 4 4) (subspec.Procedure (at 4 4) (id (at 4 14)
    "Main") None) None (at 4 19) (item.IncompleteType (at 5 4) (id (at 5 9) "Cell") (at 5 13) ∷ item.AccessType (at 6 7)
    (id (at 6 12) "List") (at 6 17) (at 6 20) (mark (at 6 27) "Cell") (at 6 31) ∷ item.RecordType (at 7 7) (id (at 7 12)
    "Cell") (at 7 17) (at 7 20) (fields_of (id (at 7 27) "Value") [] (at 7 33) (mark (at 7 35) "Integer") (at 7 42))
    (fields_of (id (at 7 44) "Next") [] (at 7 49) (mark (at 7 51) "List") (at 7 55) ∷ []) (at 7 57) (at 7 61) (at 7 67)
    ∷ objects_of (id (at 8 1) "X") (next_id_of (at 8 2) (at 8 4) "Y" ∷ []) (at 8 6) None (indication_of (mark (at 8 8)
    "List")) (at 8 12) ∷ initialized_of (id (at 9 7) "N") [] (at 9 9) None (indication_of (mark (at 9 11) "Integer"))
    (at 9 19) (expr_of (at 9 22) (primary.Number (at 9 22) 3)) (at 9 23) ∷ item.Instance (at 10 4) (id (at 10 14)
    "Free") (at 10 19) (at 10 22) (selected (at 10 26) "Ada" (at 10 29) (at 10 30) "Unchecked_Deallocation") (at 10 53)
    (actual_of (at 10 54) (object (at 10 54) "Cell")) (next_arg.FurtherArg (at 10 58) (actual_of (at 10 60) (object (at
    10 60) "List")) ∷ []) (at 10 64) (at 10 65) ∷ []) (at 11 4) (stmts.Sequence (at 12 1) (assign_of (at 12 1) "Y" []
    (at 12 3) (expr_of (at 12 6) (object (at 12 6) "X")) (at 12 7)) (assign_of (at 12 9) "X" [] (at 12 11) (expr_of (at
    12 14) (primary.Null (at 12 14))) (at 12 18) ∷ stmt.While (at 13 1) (expr.LoneRelation (at 13 7) (rel.Compared (at
    13 7) (sum_of (at 13 7) (object (at 13 7) "N")) relational.Greater (at 13 9) (sum_of (at 13 11) (primary.Number (at
    13 11) 5)))) (at 13 13) (sole (at 13 18) (assign_of (at 13 18) "N" [] (at 13 20) (expr.LoneRelation (at 13 23)
    (rel.LoneSum (at 13 23) (sum.Unsigned (at 13 23) (term.Product (at 13 23) (factor_of (at 13 23) (object (at 13 23)
    "N")) (next_factor.FurtherFactor (at 13 25) multiplying.Divide (factor_of (at 13 27) (primary.Number (at 13 27) 2))
    ∷ [])) []))) (at 13 28))) (at 13 30) (at 13 34) (at 13 38) ∷ stmt.Case (at 14 1) (expr_of (at 14 6) (object (at 14
    6) "N")) (at 14 8) (alternative.Alternative (at 14 11) (choice.Value (at 14 16) (expr_of (at 14 16) (primary.Number
    (at 14 16) 1))) [] (at 14 18) (sole (at 14 21) (stmt.Null (at 14 21) (at 14 25)))) (alternative.Alternative (at 14
    27) (choice.Others (at 14 32)) [] (at 14 39) (sole (at 14 42) (assign_of (at 14 42) "N" [] (at 14 44) (expr_of (at
    14 47) (primary.Number (at 14 47) 2)) (at 14 48))) ∷ []) (at 14 50) (at 14 54) (at 14 58) ∷ stmt.If (at 15 4)
    (expr.LoneRelation (at 15 7) (rel.LoneSum (at 15 7) (sum.Unsigned (at 15 7) (term.Product (at 15 7) (factor.Not (at
    15 7) (object (at 15 11) "End_Of_File")) []) []))) (at 15 23) (sole (at 15 28) (call_of (at 15 28) "Get"
    (suffix.Applied (at 15 32) (actual_of (at 15 33) (object (at 15 33) "N")) [] (at 15 34) ∷ []) (at 15 35))) [] (at 15
    37) (at 15 41) (at 15 43) ∷ stmt.IfElse (at 16 7) (expr.LoneRelation (at 16 10) (rel.Compared (at 16 10) (sum_of (at
    16 10) (object (at 16 10) "N")) relational.Greater (at 16 12) (sum_of (at 16 14) (primary.Number (at 16 14) 3))))
    (at 16 16) (sole (at 16 21) (assign_of (at 16 21) "N" [] (at 16 23) (expr.LoneRelation (at 16 26) (rel.LoneSum (at
    16 26) (sum.Unsigned (at 16 26) (term_of (at 16 26) (object (at 16 26) "N")) (next_term.FurtherTerm (at 16 28)
    adding.Subtract (term_of (at 16 30) (primary.Number (at 16 30) 1)) ∷ [])))) (at 16 31))) [] (at 16 33) (sole (at 16
    38) (stmt.Null (at 16 38) (at 16 42))) (at 16 44) (at 16 48) (at 16 50) ∷ [])) (at 17 1) (Some (id (at 17 5)
    "Main")) (at 17 9)) ∷ []) ∷ [])
unfolding computes resolves
two_n4_5 = refl

two_n4_6 : IsFirstBrokenOf TooEarly (at1 2 59) ((unit.OfSubprogram (at 1 1) (context.With (at 1 1) (selected (at 1 6)
    "Ada" (at 1 9) (at 1 10) "Text_IO") [] (at 1 17) ∷ use_context (use_of (at 1 19) None (selected (at 1 23) "Ada" (at
    1 26) (at 1 27) "Text_IO") [] (at 1 34)) ∷ context.With (at 1 36) (selected (at 1 41) "Ada" (at 1 44) (at 1 45)
    "INTEGER_TEXT_IO") [] (at 1 60) ∷ use_context (use_of (at 1 62) None (selected (at 1 66) "Ada" (at 1 69) (at 1 70)
    "Integer_Text_IO") [] (at 1 85)) ∷ context.With (at 1 87) (selected (at 1 92) "Ada" (at 1 95) (at 1 96)
    "Unchecked_Deallocation") [] (at 1 118) ∷ []) (subprogram_of (at 2 1) (subspec.Procedure (at 2 1) (id (at 2 11)
    "Main") None) None (at 2 16) (item.IncompleteType (at 3 1) (id (at 3 6) "Cell") (at 3 10) ∷ item.AccessType (at 4 1)
    (id (at 4 6) "List") (at 4 11) (at 4 14) (mark (at 4 21) "Cell") (at 4 25) ∷ item.RecordType (at 5 1) (id (at 5 6)
    "Cell") (at 5 11) (at 5 14) (fields_of (id (at 5 21) "Value") [] (at 5 27) (mark (at 5 29) "Integer") (at 5 36))
    (fields_of (id (at 5 38) "Next") [] (at 5 43) (mark (at 5 45) "lIST") (at 5 49) ∷ []) (at 5 51) (at 5 55) (at 5 61)
    ∷ objects_of (id (at 6 1) "X") (next_id_of (at 6 2) (at 6 4) "Y" ∷ []) (at 6 6) None (indication_of (mark (at 6 8)
    "List")) (at 6 12) ∷ initialized_of (id (at 7 1) "N") [] (at 7 3) None (indication_of (mark (at 7 5) "Integer")) (at
    7 13) (expr_of (at 7 16) (primary.Number (at 7 16) 1)) (at 7 17) ∷ item.Instance (at 8 1) (id (at 8 11) "Free") (at
    8 16) (at 8 19) (selected (at 8 23) "Ada" (at 8 26) (at 8 27) "Unchecked_Deallocation") (at 8 50) (actual_of (at 8
    51) (object (at 8 51) "Cell")) (next_arg.FurtherArg (at 8 55) (actual_of (at 8 57) (object (at 8 57) "List")) ∷ [])
    (at 8 61) (at 8 62) ∷ []) (at 9 1) (stmts.Sequence (at 10 1) (call_of (at 10 1) "put_line" (suffix.Applied (at 10
    10) (actual_of (at 10 11) (named (at 10 11) "Integer" (suffix.Attribute (at 10 18) (id (at 10 19) "Image") ∷
    suffix.Applied (at 10 25) (actual_of (at 10 26) (object (at 10 26) "N")) [] (at 10 27) ∷ []))) [] (at 10 28) ∷ [])
    (at 10 29)) (assign_of (at 11 1) "X" [] (at 11 3) (expr_of (at 11 6) (primary.AllocatedAggregate (at 11 6) (mark (at
    11 10) "Cell") (at 11 14) (aggregate.Several (at 11 15) (actual_of (at 11 16) (object (at 11 16) "N")) (at 11 17)
    (actual_of (at 11 19) (primary.Null (at 11 19))) [] (at 11 23)))) (at 11 24) ∷ stmt.If (at 12 1) (expr.LoneRelation
    (at 12 4) (rel.LoneSum (at 12 4) (sum.Unsigned (at 12 4) (term.Product (at 12 4) (factor.Not (at 12 4) (object (at
    12 8) "End_Of_File")) []) []))) (at 12 20) (sole (at 12 25) (call_of (at 12 25) "Get" (suffix.Applied (at 12 29)
    (actual_of (at 12 30) (object (at 12 30) "N")) [] (at 12 31) ∷ []) (at 12 32))) [] (at 12 34) (at 12 38) (at 12 40)
    ∷ [])) (at 13 1) (Some (id (at 13 5) "Main")) (at 13 9)) ∷ []) ∷ (unit.OfPackage (at1 1 1) (context.With (at1 1 1)
    (selected (at1 1 6) "Ada" (at1 1 9) (at1 1 10) "Text_IO") [] (at1 1 17) ∷ use_context (use_of (at1 1 19) None
    (selected (at1 1 23) "ada" (at1 1 26) (at1 1 27) "Text_IO") [] (at1 1 34)) ∷ context.With (at1 1 36) (selected (at1
    1 41) "ada" (at1 1 44) (at1 1 45) "Integer_Text_IO") [] (at1 1 60) ∷ use_context (use_of (at1 1 62) None (selected
    (at1 1 66) "Ada" (at1 1 69) (at1 1 70) "Integer_Text_IO") [] (at1 1 85)) ∷ context.With (at1 1 87) (selected (at1 1
    92) "Ada" (at1 1 95) (at1 1 96) "Unchecked_Deallocation") [] (at1 1 118) ∷ []) (package_of (at1 1 120) (id (at1 1
    128) "Latest_P") None (at1 1 137) (decl.Subprogram (at1 2 1) (subspec.Procedure (at1 2 1) (id (at1 2 11) "Latest_Q")
    (Some (formals_of (at1 2 20) (moded_of (id (at1 2 21) "lATEST_a") [] (at1 2 30) None None (mark (at1 2 32)
    "INTEGER")) (next_formal.Semicolon (at1 2 39) (moded_of (id (at1 2 41) "Latest_B") [] (at1 2 50) (Some (at1 2 52))
    (Some (at1 2 55)) (mark (at1 2 59) "Latest_B")) ∷ []) (at1 2 67)))) None (at1 2 68) ∷ []) None (at1 3 1) (Some (id
    (at1 3 5) "LATEST_P")) (at1 3 13)) ∷ []) ∷ (unit.OfBody (at2 1 1) [] (package_body_of (at2 1 1) (at2 1 9) (id (at2 1
    14) "Latest_P") None (at2 1 23) (part.Completed (at2 2 1) (subprogram_of (at2 2 1) (subspec.Procedure (at2 2 1) (id
    (at2 2 11) "Latest_Q") (Some (formals_of (at2 2 20) (moded_of (id (at2 2 21) "Latest_A") [] (at2 2 30) None None
    (mark (at2 2 32) "Integer")) (next_formal.Semicolon (at2 2 39) (moded_of (id (at2 2 41) "Latest_B") [] (at2 2 50)
    (Some (at2 2 52)) (Some (at2 2 55)) (mark (at2 2 59) "integer")) ∷ []) (at2 2 66)))) None (at2 2 68) [] (at2 2 71)
    (sole (at2 2 77) (stmt.Null (at2 2 77) (at2 2 81))) (at2 2 83) (Some (id (at2 2 87) "Latest_Q")) (at2 2 95)) ∷
    part.Declared (at2 2 97) (decl.OfItem (at2 2 97) (objects_of (id (at2 2 97) "Minor_X") [] (at2 2 105) None
    (indication_of (mark (at2 2 107) "Integer")) (at2 2 114))) ∷ part.Declared (at2 2 116) (decl.OfItem (at2 2 116)
    (item.ArrayType (at2 2 116) (id (at2 2 121) "Minor_B") (at2 2 129) (at2 2 132) (at2 2 138) (range.Bounds (at2 2 139)
    (expr_of (at2 2 139) (primary.Number (at2 2 139) 1)) (at2 2 141) (expr_of (at2 2 144) (primary.Number (at2 2 144)
    300))) (at2 2 147) (at2 2 149) (mark (at2 2 152) "Minor_X") (at2 2 159))) ∷ part.Declared (at2 2 161) (decl.OfItem
    (at2 2 161) (item.ArrayType (at2 2 161) (id (at2 2 166) "Minor_A") (at2 2 174) (at2 2 177) (at2 2 183) (range.Bounds
    (at2 2 184) (expr_of (at2 2 184) (primary.Number (at2 2 184) 1)) (at2 2 186) (expr_of (at2 2 189) (primary.Number
    (at2 2 189) 300))) (at2 2 192) (at2 2 194) (mark (at2 2 197) "Minor_B") (at2 2 204))) ∷ []) (at2 3 1) (Some (id (at2
    3 5) "Latest_P")) (at2 3 13)) ∷ []) ∷ [])
unfolding computes resolves
two_n4_6 = refl

two_n4_7 : IsFirstBrokenOf TooEarly (at 1 193) ((unit.OfPackage (at 1 4) (context.With (at 1 4) (selected (at 1 9) "Ada"
    (at 1 12) (at 1 13) "Text_IO") [] (at 1 20) ∷ use_context (use_of (at 1 22) None (selected (at 1 26) "Ada" (at 1 29)
    (at 1 30) "Text_IO") [] (at 1 37)) ∷ context.With (at 1 39) (selected (at 1 44) "Ada" (at 1 47) (at 1 48)
    "Integer_Text_IO") [] (at 1 63) ∷ use_context (use_of (at 1 65) None (selected (at 1 69) "Ada" (at 1 72) (at 1 73)
    "Integer_Text_IO") [] (at 1 88)) ∷ context.With (at 1 90) (selected (at 1 95) "Ada" (at 1 98) (at 1 99)
    "Unchecked_Deallocation") [] (at 1 121) ∷ []) (package_of (at 1 123) (id (at 1 131) "Second_P") None (at 1 140)
    (decl.OfItem (at 1 143) (objects_of (id (at 1 143) "Second_V") [] (at 1 152) None (indication_of (mark (at 1 154)
    "Integer")) (at 1 161)) ∷ []) (Some (private_part (at 1 163) (decl.OfItem (at 1 171) (initialized_of (id (at 1 171)
    "Second_X") [] (at 1 180) None (indication_of (mark (at 1 182) "Integer")) (at 1 190) (expr_of (at 1 193) (named (at
    1 193) "Second_X" (suffix.Attribute (at 1 201) (id (at 1 202) "First") ∷ []))) (at 1 207)) ∷ []))) (at 1 209) (Some
    (id (at 1 213) "Second_P")) (at 1 221)) ∷ unit.OfPackage (at 2 1) (context.With (at 2 1) (selected (at 2 6) "Ada"
    (at 2 9) (at 2 10) "Integer_Text_IO") [] (at 2 25) ∷ use_context (use_of (at 2 27) None (mark (at 2 31) "Ada") []
    (at 2 34)) ∷ []) (package_of (at 2 36) (id (at 2 44) "Latest_R") None (at 2 53) (decl.OfItem (at 2 56)
    (item.AccessType (at 2 56) (id (at 2 61) "Latest_Ptr") (at 2 72) (at 2 75) (mark (at 2 82) "Integer") (at 2 89)) ∷
    decl.OfItem (at 2 91) (item.Instance (at 2 91) (id (at 2 101) "Latest_Free") (at 2 113) (at 2 116) (mark (at 2 120)
    "Unchecked_Deallocation") (at 2 143) (actual_of (at 2 144) (object (at 2 144) "Integer")) (next_arg.FurtherArg (at 2
    151) (actual_of (at 2 153) (object (at 2 153) "Latest_Ptr")) ∷ []) (at 2 163) (at 2 164)) ∷ []) None (at 2 166)
    (Some (id (at 2 170) "Latest_R")) (at 2 178)) ∷ unit.OfSubprogram (at 3 1) (context.With (at 3 1) (selected (at 3 6)
    "Ada" (at 3 9) (at 3 10) "Text_IO") [] (at 3 17) ∷ use_context (use_of (at 3 19) None (selected (at 3 23) "Ada" (at
    3 26) (at 3 27) "Text_IO") [] (at 3 34)) ∷ context.With (at 3 36) (selected (at 3 41) "Ada" (at 3 44) (at 3 45)
    "Integer_Text_IO") [] (at 3 60) ∷ use_context (use_of (at 3 62) None (selected (at 3 66) "Ada" (at 3 69) (at 3 70)
    "Integer_Text_IO") [] (at 3 85)) ∷ context.With (at 3 87) (selected (at 3 92) "Ada" (at 3 95) (at 3 96)
    "Unchecked_Deallocation") [] (at 3 118) ∷ []) (subprogram_of (at 4 7) (subspec.Procedure (at 4 7) (id (at 4 17)
    "Main") None) None (at 4 22) (item.IncompleteType (at 5 7) (id (at 5 12) "Cell") (at 5 16) ∷ item.AccessType (at 6
    4) (id (at 6 9) "List") (at 6 14) (at 6 17) (mark (at 6 24) "Cell") (at 6 28) ∷ item.RecordType (at 7 4) (id (at 7
    9) "Cell") (at 7 14) (at 7 17) (fields_of (id (at 7 24) "Value") [] (at 7 30) (mark (at 7 32) "Integer") (at 7 39))
    (fields_of (id (at 7 41) "Next") [] (at 7 46) (mark (at 7 48) "List") (at 7 52) ∷ []) (at 7 54) (at 7 58) (at 7 64)
    ∷ objects_of (id (at 8 1) "X") (next_id_of (at 8 2) (at 8 4) "Y" ∷ []) (at 8 6) None (indication_of (mark (at 8 8)
    "List")) (at 8 12) ∷ initialized_of (id (at 9 4) "N") [] (at 9 6) None (indication_of (mark (at 9 8) "Integer")) (at
    9 16) (expr_of (at 9 19) (primary.Number (at 9 19) 3)) (at 9 20) ∷ item.Instance (at 10 4) (id (at 10 14) "Free")
    (at 10 19) (at 10 22) (selected (at 10 26) "Ada" (at 10 29) (at 10 30) "Unchecked_Deallocation") (at 10 53)
    (actual_of (at 10 54) (object (at 10 54) "Cell")) (next_arg.FurtherArg (at 10 58) (actual_of (at 10 60) (object (at
    10 60) "List")) ∷ []) (at 10 64) (at 10 65) ∷ []) (at 11 1) (stmts.Sequence (at 12 4) (stmt.For (at 12 4) (id (at 12
    8) "I") (at 12 10) None (range.Bounds (at 12 13) (expr_of (at 12 13) (primary.Number (at 12 13) 1)) (at 12 15)
    (expr_of (at 12 18) (primary.Number (at 12 18) 3))) (at 12 20) (sole (at 12 25) (assign_of (at 12 25) "N" [] (at 12
    27) (expr.LoneRelation (at 12 30) (rel.LoneSum (at 12 30) (sum.Unsigned (at 12 30) (term_of (at 12 30) (object (at
    12 30) "N")) (next_term.FurtherTerm (at 12 32) adding.Add (term_of (at 12 34) (object (at 12 34) "I")) ∷ [])))) (at
    12 35))) (at 12 37) (at 12 41) (at 12 45)) (stmt.While (at 13 1) (expr.LoneRelation (at 13 7) (rel.Compared (at 13
    7) (sum_of (at 13 7) (object (at 13 7) "N")) relational.Greater (at 13 9) (sum_of (at 13 11) (primary.Number (at 13
    11) 5)))) (at 13 13) (sole (at 13 18) (assign_of (at 13 18) "N" [] (at 13 20) (expr.LoneRelation (at 13 23)
    (rel.LoneSum (at 13 23) (sum.Unsigned (at 13 23) (term.Product (at 13 23) (factor_of (at 13 23) (object (at 13 23)
    "N")) (next_factor.FurtherFactor (at 13 25) multiplying.Divide (factor_of (at 13 27) (primary.Number (at 13 27) 2))
    ∷ [])) []))) (at 13 28))) (at 13 30) (at 13 34) (at 13 38) ∷ stmt.Case (at 14 7) (expr_of (at 14 12) (object (at 14
    12) "N")) (at 14 14) (alternative.Alternative (at 14 17) (choice.Value (at 14 22) (expr_of (at 14 22)
    (primary.Number (at 14 22) 1))) [] (at 14 24) (sole (at 14 27) (stmt.Null (at 14 27) (at 14 31))))
    (alternative.Alternative (at 14 33) (choice.Others (at 14 38)) [] (at 14 45) (sole (at 14 48) (assign_of (at 14 48)
    "N" [] (at 14 50) (expr_of (at 14 53) (primary.Number (at 14 53) 2)) (at 14 54))) ∷ []) (at 14 56) (at 14 60) (at 14
    64) ∷ [])) (at 15 1) (Some (id (at 15 5) "Main")) (at 15 9)) ∷ []) ∷ [])
unfolding computes resolves
two_n4_7 = refl

two_n4_8 : IsFirstBrokenOf TooEarly (at 5 36) ((unit.OfPackage (at 1 1) (context.With (at 1 1) (selected (at 1 6) "Ada"
    (at 1 9) (at 1 10) "Text_IO") [] (at 1 17) ∷ use_context (use_of (at 1 19) None (selected (at 1 23) "Ada" (at 1 26)
    (at 1 27) "Text_IO") [] (at 1 34)) ∷ context.With (at 1 36) (selected (at 1 41) "Ada" (at 1 44) (at 1 45)
    "Integer_Text_IO") [] (at 1 60) ∷ use_context (use_of (at 1 62) None (selected (at 1 66) "Ada" (at 1 69) (at 1 70)
    "Integer_Text_IO") [] (at 1 85)) ∷ context.With (at 1 87) (selected (at 1 92) "Ada" (at 1 95) (at 1 96)
    "Unchecked_Deallocation") [] (at 1 118) ∷ []) (package_of (at 1 120) (id (at 1 128) "Usual_P") None (at 1 136)
    (decl.Subprogram (at 2 1) (subspec.Procedure (at 2 1) (id (at 2 11) "Usual_Q") None) None (at 2 18) ∷ []) None (at 3
    1) (Some (id (at 3 5) "Usual_P")) (at 3 12)) ∷ unit.OfBody (at 4 1) [] (package_body_of (at 4 1) (at 4 9) (id (at 4
    14) "Usual_P") None (at 4 22) (part.Completed (at 5 1) (subprogram_of (at 5 1) (subspec.Procedure (at 5 1) (id (at 5
    11) "Usual_Q") None) None (at 5 19) [] (at 5 22) (sole (at 5 28) (assign_of (at 5 28) "Usual_P" (suffix.Selected (at
    5 35) (id (at 5 36) "Usual_X") ∷ []) (at 5 44) (expr_of (at 5 47) (primary.Number (at 5 47) 1)) (at 5 48))) (at 5
    50) (Some (id (at 5 54) "Usual_Q")) (at 5 61)) ∷ part.Declared (at 5 63) (decl.OfItem (at 5 63) (objects_of (id (at
    5 63) "Usual_X") [] (at 5 71) None (indication_of (mark (at 5 73) "Integer")) (at 5 80))) ∷ []) (at 6 1) (Some (id
    (at 6 5) "Usual_P")) (at 6 12)) ∷ unit.OfSubprogram (at 7 1) (context.With (at 7 1) (selected (at 7 6) "Ada" (at 7
    9) (at 7 10) "Text_IO") [] (at 7 17) ∷ use_context (use_of (at 7 19) None (selected (at 7 23) "Ada" (at 7 26) (at 7
    27) "Text_IO") [] (at 7 34)) ∷ context.With (at 7 36) (selected (at 7 41) "Ada" (at 7 44) (at 7 45)
    "Integer_Text_IO") [] (at 7 60) ∷ use_context (use_of (at 7 62) None (selected (at 7 66) "Ada" (at 7 69) (at 7 70)
    "Integer_Text_IO") [] (at 7 85)) ∷ context.With (at 7 87) (selected (at 7 92) "Ada" (at 7 95) (at 7 96)
    "Unchecked_Deallocation") [] (at 7 118) ∷ []) (subprogram_of (at 8 1) (subspec.Procedure (at 8 1) (id (at 8 11)
    "Main") None) None (at 8 16) (item.IncompleteType (at 9 1) (id (at 9 6) "Cell") (at 9 10) ∷ item.AccessType (at 10
    1) (id (at 10 6) "List") (at 10 11) (at 10 14) (mark (at 10 21) "Cell") (at 10 25) ∷ item.RecordType (at 11 1) (id
    (at 11 6) "Cell") (at 11 11) (at 11 14) (fields_of (id (at 11 21) "Value") [] (at 11 27) (mark (at 11 29) "Integer")
    (at 11 36)) (fields_of (id (at 11 38) "Next") [] (at 11 43) (mark (at 11 45) "List") (at 11 49) ∷ []) (at 11 51) (at
    11 55) (at 11 61) ∷ objects_of (id (at 12 1) "X") (next_id_of (at 12 2) (at 12 4) "Y" ∷ []) (at 12 6) None
    (indication_of (mark (at 12 8) "List")) (at 12 12) ∷ initialized_of (id (at 13 1) "N") [] (at 13 3) None
    (indication_of (mark (at 13 5) "Integer")) (at 13 13) (expr_of (at 13 16) (primary.Number (at 13 16) 2)) (at 13 17)
    ∷ item.Instance (at 14 1) (id (at 14 11) "Free") (at 14 16) (at 14 19) (selected (at 14 23) "Ada" (at 14 26) (at 14
    27) "Unchecked_Deallocation") (at 14 50) (actual_of (at 14 51) (object (at 14 51) "Cell")) (next_arg.FurtherArg (at
    14 55) (actual_of (at 14 57) (object (at 14 57) "List")) ∷ []) (at 14 61) (at 14 62) ∷ []) (at 15 1) (stmts.Sequence
    (at 16 1) (stmt.If (at 16 1) (expr.LoneRelation (at 16 4) (rel.LoneSum (at 16 4) (sum.Unsigned (at 16 4)
    (term.Product (at 16 4) (factor.Not (at 16 4) (object (at 16 8) "End_Of_File")) []) []))) (at 16 20) (sole (at 16
    25) (call_of (at 16 25) "Get" (suffix.Applied (at 16 29) (actual_of (at 16 30) (object (at 16 30) "N")) [] (at 16
    31) ∷ []) (at 16 32))) [] (at 16 34) (at 16 38) (at 16 40)) (stmt.While (at 17 1) (expr.LoneRelation (at 17 7)
    (rel.Compared (at 17 7) (sum_of (at 17 7) (object (at 17 7) "N")) relational.Greater (at 17 9) (sum_of (at 17 11)
    (primary.Number (at 17 11) 5)))) (at 17 13) (sole (at 17 18) (assign_of (at 17 18) "N" [] (at 17 20)
    (expr.LoneRelation (at 17 23) (rel.LoneSum (at 17 23) (sum.Unsigned (at 17 23) (term.Product (at 17 23) (factor_of
    (at 17 23) (object (at 17 23) "N")) (next_factor.FurtherFactor (at 17 25) multiplying.Divide (factor_of (at 17 27)
    (primary.Number (at 17 27) 2)) ∷ [])) []))) (at 17 28))) (at 17 30) (at 17 34) (at 17 38) ∷ [])) (at 18 1) (Some (id
    (at 18 5) "Main")) (at 18 9)) ∷ unit.OfPackage (at 19 1) [] (package_of (at 19 1) (id (at 19 9) "Latest_P") None (at
    19 18) (decl.OfItem (at 19 21) (objects_of (id (at 19 21) "Latest_X") [] (at 19 30) None (indication_of (mark (at 19
    32) "Integer")) (at 19 39)) ∷ []) (Some (private_part (at 19 41) (decl.OfItem (at 19 49) (objects_of (id (at 19 49)
    "Latest_X") [] (at 19 58) None (indication_of (mark (at 19 60) "Integer")) (at 19 67)) ∷ []))) (at 19 69) (Some (id
    (at 19 73) "Latest_P")) (at 19 81)) ∷ []) ∷ [])
unfolding computes resolves
two_n4_8 = refl

two_n4_9 : IsFirstBrokenOf TooEarly (at 1 62) ((unit.OfPackage (at 1 1) [] (package_of (at 1 1) (id (at 1 9) "Quick_P")
    None (at 1 17) (decl.OfItem (at 1 20) (item.ArrayType (at 1 20) (id (at 1 25) "Quick_A") (at 1 33) (at 1 36) (at 1
    42) (range.Bounds (at 1 43) (expr_of (at 1 43) (primary.Number (at 1 43) 1)) (at 1 45) (expr_of (at 1 48)
    (primary.Number (at 1 48) 3))) (at 1 49) (at 1 51) (selected (at 1 54) "Quick_P" (at 1 61) (at 1 62) "Quick_T") (at
    1 69)) ∷ decl.OfItem (at 1 71) (item.EnumerationType (at 1 71) (id (at 1 76) "Quick_T") (at 1 84) (at 1 87) (id (at
    1 88) "Quick_U") (next_id_of (at 1 95) (at 1 97) "Quick_V" ∷ []) (at 1 104) (at 1 105)) ∷ []) None (at 1 107) (Some
    (id (at 1 111) "Quick_P")) (at 1 118)) ∷ unit.OfPackage (at 2 4) (context.With (at 2 4) (selected (at 2 9) "Ada" (at
    2 12) (at 2 13) "Text_IO") [] (at 2 20) ∷ use_context (use_of (at 2 22) None (selected (at 2 26) "Ada" (at 2 29) (at
    2 30) "Text_IO") [] (at 2 37)) ∷ context.With (at 2 39) (selected (at 2 44) "Ada" (at 2 47) (at 2 48)
    "Integer_Text_IO") [] (at 2 63) ∷ use_context (use_of (at 2 65) None (selected (at 2 69) "Ada" (at 2 72) (at 2 73)
    "Integer_Text_IO") [] (at 2 88)) ∷ context.With (at 2 90) (selected (at 2 95) "Ada" (at 2 98) (at 2 99)
    "Unchecked_Deallocation") [] (at 2 121) ∷ []) (package_of (at 2 123) (id (at 2 131) "Usual_P") None (at 2 139)
    (decl.OfItem (at 2 142) (item.IncompleteType (at 2 142) (id (at 2 147) "Usual_T") (at 2 154)) ∷ []) None (at 2 156)
    (Some (id (at 2 160) "Usual_P")) (at 2 167)) ∷ unit.OfPackage (at 3 7) (context.With (at 3 7) (selected (at 3 12)
    "Ada" (at 3 15) (at 3 16) "Text_IO") [] (at 3 23) ∷ use_context (use_of (at 3 25) None (selected (at 3 29) "Ada" (at
    3 32) (at 3 33) "Text_IO") [] (at 3 40)) ∷ context.With (at 3 42) (selected (at 3 47) "Ada" (at 3 50) (at 3 51)
    "Integer_Text_IO") [] (at 3 66) ∷ use_context (use_of (at 3 68) None (selected (at 3 72) "Ada" (at 3 75) (at 3 76)
    "Integer_Text_IO") [] (at 3 91)) ∷ context.With (at 3 93) (selected (at 3 98) "Ada" (at 3 101) (at 3 102)
    "Unchecked_Deallocation") [] (at 3 124) ∷ []) (package_of (at 4 1) (id (at 4 9) "Store") None (at 4 15) (decl.OfItem
    (at 5 7) (item.IncompleteType (at 5 7) (id (at 5 12) "Cell") (at 5 16)) ∷ decl.OfItem (at 6 4) (item.AccessType (at
    6 4) (id (at 6 9) "List") (at 6 14) (at 6 17) (mark (at 6 24) "Cell") (at 6 28)) ∷ decl.OfItem (at 7 1)
    (item.RecordType (at 7 1) (id (at 7 6) "Cell") (at 7 11) (at 7 14) (fields_of (id (at 7 21) "Value") [] (at 7 27)
    (mark (at 7 29) "Integer") (at 7 36)) (fields_of (id (at 7 38) "Next") [] (at 7 43) (mark (at 7 45) "List") (at 7
    49) ∷ []) (at 7 51) (at 7 55) (at 7 61)) ∷ decl.Subprogram (at 8 4) (subspec.Procedure (at 8 4) (id (at 8 14)
    "Push") (Some (formals_of (at 8 19) (moded_of (id (at 8 20) "L") [] (at 8 22) (Some (at 8 24)) (Some (at 8 27))
    (mark (at 8 31) "List")) (next_formal.Semicolon (at 8 35) (moded_of (id (at 8 37) "V") [] (at 8 39) None None (mark
    (at 8 41) "Integer")) ∷ []) (at 8 48)))) None (at 8 49) ∷ decl.Subprogram (at 9 1) (subspec.Function (at 9 1) (id
    (at 9 10) "Sum") (Some (formals_of (at 9 14) (moded_of (id (at 9 15) "L") [] (at 9 17) None None (mark (at 9 19)
    "List")) [] (at 9 23))) (at 9 25) (indication_of (mark (at 9 32) "Integer"))) None (at 9 39) ∷ decl.OfItem (at 10 1)
    (objects_of (id (at 10 1) "Total") [] (at 10 7) None (indication_of (mark (at 10 9) "Integer")) (at 10 16)) ∷ [])
    None (at 11 7) (Some (id (at 11 11) "Store")) (at 11 16)) ∷ unit.OfBody (at 12 7) [] (package_body_of (at 12 7) (at
    12 15) (id (at 12 20) "Store") None (at 12 26) (part.Completed (at 13 1) (subprogram_of (at 13 1) (subspec.Procedure
    (at 13 1) (id (at 13 11) "Push") (Some (formals_of (at 13 16) (moded_of (id (at 13 17) "L") [] (at 13 19) (Some (at
    13 21)) (Some (at 13 24)) (mark (at 13 28) "List")) (next_formal.Semicolon (at 13 32) (moded_of (id (at 13 34) "V")
    [] (at 13 36) None None (mark (at 13 38) "Integer")) ∷ []) (at 13 45)))) None (at 13 47) [] (at 14 7) (sole (at 15
    7) (assign_of (at 15 7) "L" [] (at 15 9) (expr_of (at 15 12) (primary.AllocatedAggregate (at 15 12) (mark (at 15 16)
    "Cell") (at 15 20) (aggregate.Several (at 15 21) (actual_of (at 15 22) (object (at 15 22) "V")) (at 15 23)
    (actual_of (at 15 25) (object (at 15 25) "L")) [] (at 15 26)))) (at 15 27))) (at 16 1) (Some (id (at 16 5) "Push"))
    (at 16 9)) ∷ part.Completed (at 17 7) (subprogram_of (at 17 7) (subspec.Function (at 17 7) (id (at 17 16) "Sum")
    (Some (formals_of (at 17 20) (moded_of (id (at 17 21) "L") [] (at 17 23) None None (mark (at 17 25) "List")) [] (at
    17 29))) (at 17 31) (indication_of (mark (at 17 38) "Integer"))) None (at 17 46) (initialized_of (id (at 18 1) "C")
    [] (at 18 3) None (indication.Anonymous (at 18 5) (Some (at 18 12)) (mark (at 18 21) "Cell")) (at 18 26) (expr_of
    (at 18 29) (object (at 18 29) "L")) (at 18 30) ∷ initialized_of (id (at 19 7) "N") [] (at 19 9) None (indication_of
    (mark (at 19 11) "Integer")) (at 19 19) (expr_of (at 19 22) (primary.Number (at 19 22) 0)) (at 19 23) ∷ []) (at 20
    1) (stmts.Sequence (at 21 4) (stmt.While (at 21 4) (expr.LoneRelation (at 21 10) (rel.Compared (at 21 10) (sum_of
    (at 21 10) (object (at 21 10) "C")) relational.NotEqual (at 21 12) (sum_of (at 21 15) (primary.Null (at 21 15)))))
    (at 21 20) (stmts.Sequence (at 21 25) (assign_of (at 21 25) "N" [] (at 21 27) (expr.LoneRelation (at 21 30)
    (rel.LoneSum (at 21 30) (sum.Unsigned (at 21 30) (term_of (at 21 30) (object (at 21 30) "N")) (next_term.FurtherTerm
    (at 21 32) adding.Add (term_of (at 21 34) (named (at 21 34) "C" (suffix.Selected (at 21 35) (id (at 21 36) "Value")
    ∷ []))) ∷ [])))) (at 21 41)) (assign_of (at 21 43) "C" [] (at 21 45) (expr_of (at 21 48) (named (at 21 48) "C"
    (suffix.Selected (at 21 49) (id (at 21 50) "Next") ∷ []))) (at 21 54) ∷ [])) (at 21 56) (at 21 60) (at 21 64))
    (stmt.ReturnValue (at 22 1) (expr_of (at 22 8) (object (at 22 8) "N")) (at 22 9) ∷ [])) (at 23 7) (Some (id (at 23
    11) "Sum")) (at 23 14)) ∷ []) (at 24 7) (Some (id (at 24 11) "Store")) (at 24 16)) ∷ unit.OfSubprogram (at 25 1)
    (context.With (at 25 1) (selected (at 25 6) "Ada" (at 25 9) (at 25 10) "Text_IO") [] (at 25 17) ∷ use_context
    (use_of (at 25 19) None (selected (at 25 23) "Ada" (at 25 26) (at 25 27) "Text_IO") [] (at 25 34)) ∷ context.With
    (at 25 36) (selected (at 25 41) "Ada" (at 25 44) (at 25 45) "Integer_Text_IO") [] (at 25 60) ∷ use_context (use_of
    (at 25 62) None (selected (at 25 66) "Ada" (at 25 69) (at 25 70) "Integer_Text_IO") [] (at 25 85)) ∷ context.With
    (at 25 87) (selected (at 25 92) "Ada" (at 25 95) (at 25 96) "Unchecked_Deallocation") [] (at 25 118) ∷ context.With
    (at 25 120) (mark (at 25 125) "Store") [] (at 25 130) ∷ use_context (use_of (at 25 132) None (mark (at 25 136)
    "Store") [] (at 25 141)) ∷ []) (subprogram_of (at 26 1) (subspec.Procedure (at 26 1) (id (at 26 11) "Main") None)
    None (at 26 16) (objects_of (id (at 27 1) "X") (next_id_of (at 27 2) (at 27 4) "Y" ∷ []) (at 27 6) None
    (indication_of (mark (at 27 8) "List")) (at 27 12) ∷ initialized_of (id (at 28 1) "N") [] (at 28 3) None
    (indication_of (mark (at 28 5) "Integer")) (at 28 13) (expr_of (at 28 16) (primary.Number (at 28 16) 2)) (at 28 17)
    ∷ []) (at 29 1) (stmts.Sequence (at 30 4) (assign_of (at 30 4) "Total" [] (at 30 10) (expr_of (at 30 13) (object (at
    30 13) "N")) (at 30 14)) (stmt.Case (at 31 1) (expr_of (at 31 6) (object (at 31 6) "N")) (at 31 8)
    (alternative.Alternative (at 31 11) (choice.Value (at 31 16) (expr_of (at 31 16) (primary.Number (at 31 16) 1))) []
    (at 31 18) (sole (at 31 21) (stmt.Null (at 31 21) (at 31 25)))) (alternative.Alternative (at 31 27) (choice.Others
    (at 31 32)) [] (at 31 39) (sole (at 31 42) (assign_of (at 31 42) "N" [] (at 31 44) (expr_of (at 31 47)
    (primary.Number (at 31 47) 2)) (at 31 48))) ∷ []) (at 31 50) (at 31 54) (at 31 58) ∷ [])) (at 32 7) (Some (id (at 32
    11) "Main")) (at 32 15)) ∷ []) ∷ [])
unfolding computes resolves
two_n4_9 = refl

two_n4_10 : IsFirstBrokenOf TooEarly (at 1 6) ((unit.OfPackage (at 1 1) (context.With (at 1 1) (mark (at 1 6) "Inner_R")
    [] (at 1 13) ∷ []) (package_of (at 1 15) (id (at 1 23) "Inner_R") None (at 1 31) (decl.OfItem (at 1 34) (objects_of
    (id (at 1 34) "Inner_Z") [] (at 1 42) None (indication_of (mark (at 1 44) "Integer")) (at 1 51)) ∷ []) None (at 1
    53) (Some (id (at 1 57) "Inner_R")) (at 1 64)) ∷ unit.OfSubprogram (at 2 1) (context.With (at 2 1) (selected (at 2
    6) "Ada" (at 2 9) (at 2 10) "Text_IO") [] (at 2 17) ∷ use_context (use_of (at 2 19) None (selected (at 2 23) "Ada"
    (at 2 26) (at 2 27) "Text_IO") [] (at 2 34)) ∷ context.With (at 2 36) (selected (at 2 41) "Ada" (at 2 44) (at 2 45)
    "Integer_Text_IO") [] (at 2 60) ∷ use_context (use_of (at 2 62) None (selected (at 2 66) "Ada" (at 2 69) (at 2 70)
    "Integer_Text_IO") [] (at 2 85)) ∷ context.With (at 2 87) (selected (at 2 92) "Ada" (at 2 95) (at 2 96)
    "Unchecked_Deallocation") [] (at 2 118) ∷ []) (subprogram_of (at 3 1) (subspec.Procedure (at 3 1) (id (at 3 11)
    "Main") None) None (at 3 16) (item.IncompleteType (at 4 1) (id (at 4 6) "Cell") (at 4 10) ∷ item.AccessType (at 5 1)
    (id (at 5 6) "List") (at 5 11) (at 5 14) (mark (at 5 21) "Cell") (at 5 25) ∷ item.RecordType (at 6 1) (id (at 6 6)
    "Cell") (at 6 11) (at 6 14) (fields_of (id (at 6 21) "Value") [] (at 6 27) (mark (at 6 29) "Integer") (at 6 36))
    (fields_of (id (at 6 38) "Next") [] (at 6 43) (mark (at 6 45) "List") (at 6 49) ∷ []) (at 6 51) (at 6 55) (at 6 61)
    ∷ objects_of (id (at 7 1) "X") (next_id_of (at 7 2) (at 7 4) "Y" ∷ []) (at 7 6) None (indication_of (mark (at 7 8)
    "List")) (at 7 12) ∷ initialized_of (id (at 8 1) "N") [] (at 8 3) None (indication_of (mark (at 8 5) "Integer")) (at
    8 13) (expr_of (at 8 16) (primary.Number (at 8 16) 4)) (at 8 17) ∷ item.Instance (at 9 1) (id (at 9 11) "Free") (at
    9 16) (at 9 19) (selected (at 9 23) "Ada" (at 9 26) (at 9 27) "Unchecked_Deallocation") (at 9 50) (actual_of (at 9
    51) (object (at 9 51) "Cell")) (next_arg.FurtherArg (at 9 55) (actual_of (at 9 57) (object (at 9 57) "List")) ∷ [])
    (at 9 61) (at 9 62) ∷ []) (at 10 1) (stmts.Sequence (at 11 1) (stmt.DeclareBlock (at 11 1) (initialized_of (id (at
    11 9) "B") [] (at 11 11) None (indication.Anonymous (at 11 13) None (mark (at 11 20) "Cell")) (at 11 25) (expr_of
    (at 11 28) (object (at 11 28) "X")) (at 11 29) ∷ []) (at 11 31) (sole (at 11 37) (stmt.If (at 11 37)
    (expr.LoneRelation (at 11 40) (rel.Compared (at 11 40) (sum_of (at 11 40) (object (at 11 40) "B"))
    relational.NotEqual (at 11 42) (sum_of (at 11 45) (primary.Null (at 11 45))))) (at 11 50) (sole (at 11 55)
    (assign_of (at 11 55) "B" (suffix.Selected (at 11 56) (id (at 11 57) "Value") ∷ []) (at 11 63) (expr_of (at 11 66)
    (object (at 11 66) "N")) (at 11 67))) [] (at 11 69) (at 11 73) (at 11 75))) (at 11 77) (at 11 80)) (stmt.While (at
    12 1) (expr.LoneRelation (at 12 7) (rel.Compared (at 12 7) (sum_of (at 12 7) (object (at 12 7) "N"))
    relational.Greater (at 12 9) (sum_of (at 12 11) (primary.Number (at 12 11) 5)))) (at 12 13) (sole (at 12 18)
    (assign_of (at 12 18) "N" [] (at 12 20) (expr.LoneRelation (at 12 23) (rel.LoneSum (at 12 23) (sum.Unsigned (at 12
    23) (term.Product (at 12 23) (factor_of (at 12 23) (object (at 12 23) "N")) (next_factor.FurtherFactor (at 12 25)
    multiplying.Divide (factor_of (at 12 27) (primary.Number (at 12 27) 2)) ∷ [])) []))) (at 12 28))) (at 12 30) (at 12
    34) (at 12 38) ∷ call_of (at 13 1) "Put_Line" (suffix.Applied (at 13 10) (actual_of (at 13 11) (named (at 13 11)
    "Integer" (suffix.Attribute (at 13 18) (id (at 13 19) "Image") ∷ suffix.Applied (at 13 25) (actual_of (at 13 26)
    (object (at 13 26) "N")) [] (at 13 27) ∷ []))) [] (at 13 28) ∷ []) (at 13 29) ∷ assign_of (at 14 1) "X" [] (at 14 3)
    (expr_of (at 14 6) (primary.AllocatedAggregate (at 14 6) (mark (at 14 10) "Cell") (at 14 14) (aggregate.Several (at
    14 15) (actual_of (at 14 16) (object (at 14 16) "N")) (at 14 17) (actual_of (at 14 19) (primary.Null (at 14 19))) []
    (at 14 23)))) (at 14 24) ∷ [])) (at 15 1) (Some (id (at 15 5) "Main")) (at 15 9)) ∷ unit.OfPackage (at 16 1)
    (context.With (at 16 1) (selected (at 16 6) "Ada" (at 16 9) (at 16 10) "Text_IO") [] (at 16 17) ∷ use_context
    (use_of (at 16 19) None (selected (at 16 23) "Ada" (at 16 26) (at 16 27) "Text_IO") [] (at 16 34)) ∷ context.With
    (at 16 36) (selected (at 16 41) "Ada" (at 16 44) (at 16 45) "Integer_Text_IO") [] (at 16 60) ∷ use_context (use_of
    (at 16 62) None (selected (at 16 66) "Ada" (at 16 69) (at 16 70) "Integer_Text_IO") [] (at 16 85)) ∷ context.With
    (at 16 87) (selected (at 16 92) "Ada" (at 16 95) (at 16 96) "Unchecked_Deallocation") [] (at 16 118) ∷ [])
    (package_of (at 16 120) (id (at 16 128) "Latest_P") None (at 16 137) (decl.OfItem (at 16 140) (use_item (use_of (at
    16 140) None (dotted_of (id (at 16 144) "Ada") (next_part.FurtherPart (at 16 147) (id (at 16 148) "Text_IO") ∷
    next_part.FurtherPart (at 16 155) (id (at 16 156) "Put") ∷ [])) [] (at 16 159))) ∷ []) None (at 16 161) (Some (id
    (at 16 165) "Latest_P")) (at 16 173)) ∷ []) ∷ [])
unfolding computes resolves
two_n4_10 = refl

two_n4_11 : IsFirstBrokenOf TooEarly (at 2 30) ((unit.OfPackage (at 1 1) (context.With (at 1 1) (selected (at 1 6) "Ada"
    (at 1 9) (at 1 10) "Text_IO") [] (at 1 17) ∷ use_context (use_of (at 1 19) None (selected (at 1 23) "Ada" (at 1 26)
    (at 1 27) "TEXT_IO") [] (at 1 34)) ∷ context.With (at 1 36) (selected (at 1 41) "Ada" (at 1 44) (at 1 45)
    "Integer_Text_IO") [] (at 1 60) ∷ use_context (use_of (at 1 62) None (selected (at 1 66) "Ada" (at 1 69) (at 1 70)
    "INTEGER_TEXT_IO") [] (at 1 85)) ∷ context.With (at 1 87) (selected (at 1 92) "Ada" (at 1 95) (at 1 96)
    "Unchecked_Deallocation") [] (at 1 118) ∷ []) (package_of (at 1 120) (id (at 1 128) "Minor_P") None (at 1 136)
    (decl.Subprogram (at 2 1) (subspec.Procedure (at 2 1) (id (at 2 11) "Minor_Q") (Some (formals_of (at 2 19) (moded_of
    (id (at 2 20) "mINOR_a") [] (at 2 28) None None (mark (at 2 30) "Minor_A")) [] (at 2 37)))) None (at 2 38) ∷
    decl.OfItem (at 2 40) (objects_of (id (at 2 40) "Inner_X") (next_id_of (at 2 47) (at 2 49) "Inner_X" ∷ []) (at 2 57)
    None (indication_of (mark (at 2 59) "Integer")) (at 2 66)) ∷ []) None (at 3 1) (Some (id (at 3 5) "Minor_P")) (at 3
    12)) ∷ unit.OfBody (at 4 1) [] (package_body_of (at 4 1) (at 4 9) (id (at 4 14) "Minor_P") None (at 4 22)
    (part.Completed (at 5 1) (subprogram_of (at 5 1) (subspec.Procedure (at 5 1) (id (at 5 11) "Minor_Q") (Some
    (formals_of (at 5 19) (moded_of (id (at 5 20) "Minor_A") [] (at 5 28) None None (mark (at 5 30) "integer")) [] (at 5
    37)))) None (at 5 39) [] (at 5 42) (sole (at 5 48) (stmt.Null (at 5 48) (at 5 52))) (at 5 54) (Some (id (at 5 58)
    "Minor_Q")) (at 5 65)) ∷ []) (at 6 1) (Some (id (at 6 5) "Minor_P")) (at 6 12)) ∷ []) ∷ (unit.OfSubprogram (at1 1 1)
    (context.With (at1 1 1) (selected (at1 1 6) "Ada" (at1 1 9) (at1 1 10) "Text_IO") [] (at1 1 17) ∷ use_context
    (use_of (at1 1 19) None (selected (at1 1 23) "Ada" (at1 1 26) (at1 1 27) "TEXT_IO") [] (at1 1 34)) ∷ context.With
    (at1 1 36) (selected (at1 1 41) "Ada" (at1 1 44) (at1 1 45) "Integer_Text_IO") [] (at1 1 60) ∷ use_context (use_of
    (at1 1 62) None (selected (at1 1 66) "Ada" (at1 1 69) (at1 1 70) "integer_text_io") [] (at1 1 85)) ∷ context.With
    (at1 1 87) (selected (at1 1 92) "Ada" (at1 1 95) (at1 1 96) "uNCHECKED_dEALLOCATION") [] (at1 1 118) ∷ [])
    (subprogram_of (at1 2 1) (subspec.Procedure (at1 2 1) (id (at1 2 11) "mAIN") None) None (at1 2 16)
    (item.IncompleteType (at1 3 1) (id (at1 3 6) "cell") (at1 3 10) ∷ item.AccessType (at1 4 1) (id (at1 4 6) "List")
    (at1 4 11) (at1 4 14) (mark (at1 4 21) "Cell") (at1 4 25) ∷ item.RecordType (at1 5 1) (id (at1 5 6) "Cell") (at1 5
    11) (at1 5 14) (fields_of (id (at1 5 21) "Value") [] (at1 5 27) (mark (at1 5 29) "Integer") (at1 5 36)) (fields_of
    (id (at1 5 38) "Next") [] (at1 5 43) (mark (at1 5 45) "List") (at1 5 49) ∷ []) (at1 5 51) (at1 5 55) (at1 5 61) ∷
    objects_of (id (at1 6 1) "X") (next_id_of (at1 6 2) (at1 6 4) "Y" ∷ []) (at1 6 6) None (indication_of (mark (at1 6
    8) "lIST")) (at1 6 12) ∷ initialized_of (id (at1 7 1) "N") [] (at1 7 3) None (indication_of (mark (at1 7 5)
    "Integer")) (at1 7 13) (expr_of (at1 7 16) (primary.Number (at1 7 16) 2)) (at1 7 17) ∷ item.Instance (at1 8 1) (id
    (at1 8 11) "Free") (at1 8 16) (at1 8 19) (selected (at1 8 23) "Ada" (at1 8 26) (at1 8 27) "Unchecked_Deallocation")
    (at1 8 50) (actual_of (at1 8 51) (object (at1 8 51) "Cell")) (next_arg.FurtherArg (at1 8 55) (actual_of (at1 8 57)
    (object (at1 8 57) "List")) ∷ []) (at1 8 61) (at1 8 62) ∷ []) (at1 9 1) (stmts.Sequence (at1 10 1) (stmt.While (at1
    10 1) (expr.LoneRelation (at1 10 7) (rel.Compared (at1 10 7) (sum_of (at1 10 7) (object (at1 10 7) "N"))
    relational.Greater (at1 10 9) (sum_of (at1 10 11) (primary.Number (at1 10 11) 5)))) (at1 10 13) (sole (at1 10 18)
    (assign_of (at1 10 18) "N" [] (at1 10 20) (expr.LoneRelation (at1 10 23) (rel.LoneSum (at1 10 23) (sum.Unsigned (at1
    10 23) (term.Product (at1 10 23) (factor_of (at1 10 23) (object (at1 10 23) "N")) (next_factor.FurtherFactor (at1 10
    25) multiplying.Divide (factor_of (at1 10 27) (primary.Number (at1 10 27) 2)) ∷ [])) []))) (at1 10 28))) (at1 10 30)
    (at1 10 34) (at1 10 38)) (call_of (at1 11 1) "Put_Line" (suffix.Applied (at1 11 10) (actual_of (at1 11 11) (named
    (at1 11 11) "Integer" (suffix.Attribute (at1 11 18) (id (at1 11 19) "Image") ∷ suffix.Applied (at1 11 25) (actual_of
    (at1 11 26) (object (at1 11 26) "N")) [] (at1 11 27) ∷ []))) [] (at1 11 28) ∷ []) (at1 11 29) ∷ stmt.Case (at1 12 1)
    (expr_of (at1 12 6) (object (at1 12 6) "N")) (at1 12 8) (alternative.Alternative (at1 12 11) (choice.Value (at1 12
    16) (expr_of (at1 12 16) (primary.Number (at1 12 16) 1))) [] (at1 12 18) (sole (at1 12 21) (stmt.Null (at1 12 21)
    (at1 12 25)))) (alternative.Alternative (at1 12 27) (choice.Others (at1 12 32)) [] (at1 12 39) (sole (at1 12 42)
    (assign_of (at1 12 42) "N" [] (at1 12 44) (expr_of (at1 12 47) (primary.Number (at1 12 47) 2)) (at1 12 48))) ∷ [])
    (at1 12 50) (at1 12 54) (at1 12 58) ∷ stmt.DeclareBlock (at1 13 1) (initialized_of (id (at1 13 9) "B") [] (at1 13
    11) None (indication.Anonymous (at1 13 13) None (mark (at1 13 20) "CELL")) (at1 13 25) (expr_of (at1 13 28) (object
    (at1 13 28) "X")) (at1 13 29) ∷ []) (at1 13 31) (sole (at1 13 37) (stmt.If (at1 13 37) (expr.LoneRelation (at1 13
    40) (rel.Compared (at1 13 40) (sum_of (at1 13 40) (object (at1 13 40) "B")) relational.NotEqual (at1 13 42) (sum_of
    (at1 13 45) (primary.Null (at1 13 45))))) (at1 13 50) (sole (at1 13 55) (assign_of (at1 13 55) "b" (suffix.Selected
    (at1 13 56) (id (at1 13 57) "Value") ∷ []) (at1 13 63) (expr_of (at1 13 66) (object (at1 13 66) "N")) (at1 13 67)))
    [] (at1 13 69) (at1 13 73) (at1 13 75))) (at1 13 77) (at1 13 80) ∷ stmt.For (at1 14 1) (id (at1 14 5) "I") (at1 14
    7) None (range.Bounds (at1 14 10) (expr_of (at1 14 10) (primary.Number (at1 14 10) 1)) (at1 14 12) (expr_of (at1 14
    15) (primary.Number (at1 14 15) 3))) (at1 14 17) (sole (at1 14 22) (assign_of (at1 14 22) "N" [] (at1 14 24)
    (expr.LoneRelation (at1 14 27) (rel.LoneSum (at1 14 27) (sum.Unsigned (at1 14 27) (term_of (at1 14 27) (object (at1
    14 27) "N")) (next_term.FurtherTerm (at1 14 29) adding.Add (term_of (at1 14 31) (object (at1 14 31) "I")) ∷ []))))
    (at1 14 32))) (at1 14 34) (at1 14 38) (at1 14 42) ∷ [])) (at1 15 1) (Some (id (at1 15 5) "MAIN")) (at1 15 9)) ∷ [])
    ∷ [])
unfolding computes resolves
two_n4_11 = refl
