-- A name is used before its declaration: N4.
--
-- tools/tree_terms.py makes this of the sources that data/cases.txt has under its name.
use Rattle.std.proofs.Common.{refl, [], ◌∷◌}
use Rattle.std.specs.Prelude.{None, Some, codes}
use Rattle.ada_tree.specs.declared.operator.AddingOperator.TheVariants as adding
use Rattle.ada_tree.specs.declared.expression.Aggregate.TheVariants as aggregate
use Rattle.ada_tree.specs.declared.statement.When.TheVariants as alternative
use Rattle.ada_tree.specs.declared.range.Choice.TheVariants as choice
use Rattle.ada_tree.specs.declared.unit.Context.TheVariants as context
use Rattle.ada_tree.specs.declared.subprogram.Decl.TheVariants as decl
use Rattle.ada_tree.specs.declared.expression.Expr.TheVariants as expr
use Rattle.ada_tree.specs.declared.expression.Factor.TheVariants as factor
use Rattle.ada_tree.specs.declared.declaration.Indication.TheVariants as indication
use Rattle.ada_tree.specs.declared.declaration.Item.TheVariants as item
use Rattle.ada_tree.specs.declared.operator.MultiplyingOperator.TheVariants as multiplying
use Rattle.ada_tree.specs.declared.expression.NextArg.TheVariants as next_arg
use Rattle.ada_tree.specs.declared.range.NextChoice.TheVariants as next_choice
use Rattle.ada_tree.specs.declared.expression.NextFactor.TheVariants as next_factor
use Rattle.ada_tree.specs.declared.subprogram.NextFormal.TheVariants as next_formal
use Rattle.ada_tree.specs.declared.expression.NextTerm.TheVariants as next_term
use Rattle.ada_tree.specs.declared.unit.BodyPart.TheVariants as part
use Rattle.ada_tree.specs.declared.expression.Primary.TheVariants as primary
use Rattle.ada_tree.specs.declared.range.Range.TheVariants as range
use Rattle.ada_tree.specs.declared.expression.Rel.TheVariants as rel
use Rattle.ada_tree.specs.declared.operator.RelationalOperator.TheVariants as relational
use Rattle.ada_tree.specs.declared.operator.Sign.TheVariants as sign
use Rattle.ada_tree.specs.declared.statement.Stmt.TheVariants as stmt
use Rattle.ada_tree.specs.declared.statement.Stmts.TheVariants as stmts
use Rattle.ada_tree.specs.declared.subprogram.Subspec.TheVariants as subspec
use Rattle.ada_tree.specs.declared.expression.Suffix.TheVariants as suffix
use Rattle.ada_tree.specs.declared.expression.Sum.TheVariants as sum
use Rattle.ada_tree.specs.declared.expression.Term.TheVariants as term
use Rattle.ada_tree.specs.declared.unit.SourceUnit.TheVariants as unit
use Rattle.ada_grammar.proofs.SmallSources.{computes}
use Rattle.name_events.specs.declared.declaration.NameRule.TheVariants.{TooEarly}
use Rattle.name_tests.proofs.SmallRules.{resolves}
use Rattle.name_tests.proofs.SourceTrees.{IsFirstBrokenOf, actual_of, assign_of, association_of, at, at1, at2, call_of, constrained_of, expr_of, factor_of, fields_of, formals_of, id, indication_of, initialized_of, mark, marked_of, mode_of, moded_of, named, next_id_of, numbers_of, object, objects_of, package_body_of, package_of, private_part, rel_of, selected, sole, subprogram_of, sum_of, term_of, use_context, use_of}

-- Small sources: of names and of units.
small_n4_3 : IsFirstBrokenOf TooEarly (at 1 40) ((unit.OfSubprogram (at 1 1) [] (subprogram_of (at 1 1)
    (subspec.Procedure (at 1 1) (id (at 1 11) "Main") None) None (at 1 16) [] (at 1 20) (sole (at 1 26) (stmt.For (at 1
    26) (id (at 1 30) "I") (at 1 32) None (range.Bounds (at 1 35) (expr_of (at 1 35) (primary.Number (at 1 35) 1)) (at 1
    37) (expr_of (at 1 40) (object (at 1 40) "I"))) (at 1 42) (sole (at 1 47) (stmt.Null (at 1 47) (at 1 51))) (at 1 53)
    (at 1 57) (at 1 61))) (at 1 63) (Some (id (at 1 67) "Main")) (at 1 71)) ∷ []) ∷ [])
unfolding computes resolves
small_n4_3 = refl

small_n4_4 : IsFirstBrokenOf TooEarly (at 1 6) ((unit.OfSubprogram (at 1 1) (context.With (at 1 1) (mark (at 1 6) "P")
    [] (at 1 7) ∷ []) (subprogram_of (at 1 9) (subspec.Procedure (at 1 9) (id (at 1 19) "Main") None) None (at 1 24) []
    (at 1 27) (sole (at 1 33) (stmt.Null (at 1 33) (at 1 37))) (at 1 39) (Some (id (at 1 43) "Main")) (at 1 47)) ∷
    unit.OfPackage (at 1 49) [] (package_of (at 1 49) (id (at 1 57) "P") None (at 1 59) [] None (at 1 62) (Some (id (at
    1 66) "P")) (at 1 67)) ∷ []) ∷ [])
unfolding computes resolves
small_n4_4 = refl

small_n4_5 : IsFirstBrokenOf TooEarly (at 1 73) ((unit.OfPackage (at 1 1) [] (package_of (at 1 1) (id (at 1 9) "P") None
    (at 1 11) (decl.Subprogram (at 1 14) (subspec.Procedure (at 1 14) (id (at 1 24) "A") None) None (at 1 25) ∷ []) None
    (at 1 27) (Some (id (at 1 31) "P")) (at 1 32)) ∷ unit.OfBody (at 1 34) [] (package_body_of (at 1 34) (at 1 42) (id
    (at 1 47) "P") None (at 1 49) (part.Completed (at 1 52) (subprogram_of (at 1 52) (subspec.Procedure (at 1 52) (id
    (at 1 62) "A") None) None (at 1 64) [] (at 1 67) (sole (at 1 73) (call_of (at 1 73) "B" [] (at 1 74))) (at 1 76)
    (Some (id (at 1 80) "A")) (at 1 81)) ∷ part.Completed (at 1 83) (subprogram_of (at 1 83) (subspec.Procedure (at 1
    83) (id (at 1 93) "B") None) None (at 1 95) [] (at 1 98) (sole (at 1 104) (stmt.Null (at 1 104) (at 1 108))) (at 1
    110) (Some (id (at 1 114) "B")) (at 1 115)) ∷ []) (at 1 117) (Some (id (at 1 121) "P")) (at 1 122)) ∷ []) ∷ [])
unfolding computes resolves
small_n4_5 = refl

small_n4_6 : IsFirstBrokenOf TooEarly (at 1 23) ((unit.OfSubprogram (at 1 1) [] (subprogram_of (at 1 1)
    (subspec.Procedure (at 1 1) (id (at 1 11) "Main") None) None (at 1 16) (objects_of (id (at 1 19) "X") [] (at 1 21)
    None (indication_of (mark (at 1 23) "X2")) (at 1 25) ∷ objects_of (id (at 1 27) "X2") [] (at 1 30) None
    (indication_of (mark (at 1 32) "Integer")) (at 1 39) ∷ []) (at 1 41) (sole (at 1 47) (stmt.Null (at 1 47) (at 1
    51))) (at 1 53) (Some (id (at 1 57) "Main")) (at 1 61)) ∷ []) ∷ [])
unfolding computes resolves
small_n4_6 = refl

-- Its declaration stands later.
later_1 : IsFirstBrokenOf TooEarly (at 3 35) ((unit.OfSubprogram (at 1 1) (context.With (at 1 1) (selected (at 1 6)
    "Ada" (at 1 9) (at 1 10) "Text_IO") [] (at 1 17) ∷ use_context (use_of (at 1 19) None (selected (at 1 23) "Ada" (at
    1 26) (at 1 27) "Text_IO") [] (at 1 34)) ∷ context.With (at 1 36) (selected (at 1 41) "Ada" (at 1 44) (at 1 45)
    "Integer_Text_IO") [] (at 1 60) ∷ use_context (use_of (at 1 62) None (selected (at 1 66) "Ada" (at 1 69) (at 1 70)
    "Integer_Text_IO") [] (at 1 85)) ∷ context.With (at 1 87) (selected (at 1 92) "Ada" (at 1 95) (at 1 96)
    "Unchecked_Deallocation") [] (at 1 118) ∷ []) (subprogram_of (at 2 1) (subspec.Procedure (at 2 1) (id (at 2 11)
    "Main") None) None (at 2 16) (item.IncompleteType (at 3 1) (id (at 3 6) "Cell") (at 3 10) ∷ item.AccessType (at 3
    12) (id (at 3 17) "Plain_P") (at 3 25) (at 3 28) (mark (at 3 35) "Plain_C") (at 3 42) ∷ item.RecordType (at 3 44)
    (id (at 3 49) "Plain_C") (at 3 57) (at 3 60) (fields_of (id (at 3 67) "Plain_F") [] (at 3 75) (mark (at 3 77)
    "Integer") (at 3 84)) [] (at 3 86) (at 3 90) (at 3 96) ∷ item.AccessType (at 4 1) (id (at 4 6) "List") (at 4 11) (at
    4 14) (mark (at 4 21) "Cell") (at 4 25) ∷ item.RecordType (at 5 1) (id (at 5 6) "Cell") (at 5 11) (at 5 14)
    (fields_of (id (at 5 21) "Value") [] (at 5 27) (mark (at 5 29) "Integer") (at 5 36)) (fields_of (id (at 5 38)
    "Next") [] (at 5 43) (mark (at 5 45) "List") (at 5 49) ∷ []) (at 5 51) (at 5 55) (at 5 61) ∷ objects_of (id (at 6 1)
    "X") (next_id_of (at 6 2) (at 6 4) "Y" ∷ []) (at 6 6) None (indication_of (mark (at 6 8) "List")) (at 6 12) ∷
    initialized_of (id (at 7 1) "N") [] (at 7 3) None (indication_of (mark (at 7 5) "Integer")) (at 7 13) (expr_of (at 7
    16) (primary.Number (at 7 16) 3)) (at 7 17) ∷ []) (at 8 1) (stmts.Sequence (at 9 1) (call_of (at 9 1) "Put_Line"
    (suffix.Applied (at 9 10) (actual_of (at 9 11) (named (at 9 11) "Integer" (suffix.Attribute (at 9 18) (id (at 9 19)
    "Image") ∷ suffix.Applied (at 9 25) (actual_of (at 9 26) (object (at 9 26) "N")) [] (at 9 27) ∷ []))) [] (at 9 28) ∷
    []) (at 9 29)) (stmt.While (at 10 1) (expr.LoneRelation (at 10 7) (rel.Compared (at 10 7) (sum_of (at 10 7) (object
    (at 10 7) "N")) relational.Greater (at 10 9) (sum_of (at 10 11) (primary.Number (at 10 11) 5)))) (at 10 13) (sole
    (at 10 18) (assign_of (at 10 18) "N" [] (at 10 20) (expr.LoneRelation (at 10 23) (rel.LoneSum (at 10 23)
    (sum.Unsigned (at 10 23) (term.Product (at 10 23) (factor_of (at 10 23) (object (at 10 23) "N"))
    (next_factor.FurtherFactor (at 10 25) multiplying.Divide (factor_of (at 10 27) (primary.Number (at 10 27) 2)) ∷ []))
    []))) (at 10 28))) (at 10 30) (at 10 34) (at 10 38) ∷ stmt.IfElse (at 11 1) (expr.LoneRelation (at 11 4)
    (rel.Compared (at 11 4) (sum_of (at 11 4) (object (at 11 4) "N")) relational.Greater (at 11 6) (sum_of (at 11 8)
    (primary.Number (at 11 8) 3)))) (at 11 10) (sole (at 11 15) (assign_of (at 11 15) "N" [] (at 11 17)
    (expr.LoneRelation (at 11 20) (rel.LoneSum (at 11 20) (sum.Unsigned (at 11 20) (term_of (at 11 20) (object (at 11
    20) "N")) (next_term.FurtherTerm (at 11 22) adding.Subtract (term_of (at 11 24) (primary.Number (at 11 24) 1)) ∷
    [])))) (at 11 25))) [] (at 11 27) (sole (at 11 32) (stmt.Null (at 11 32) (at 11 36))) (at 11 38) (at 11 42) (at 11
    44) ∷ [])) (at 12 1) (Some (id (at 12 5) "Main")) (at 12 9)) ∷ []) ∷ [])
unfolding computes resolves
later_1 = refl

later_2 : IsFirstBrokenOf TooEarly (at 8 36) ((unit.OfSubprogram (at 1 1) (context.With (at 1 1) (selected (at 1 6)
    "Ada" (at 1 9) (at 1 10) "Text_IO") [] (at 1 17) ∷ use_context (use_of (at 1 19) None (selected (at 1 23) "Ada" (at
    1 26) (at 1 27) "Text_IO") [] (at 1 34)) ∷ context.With (at 1 36) (selected (at 1 41) "Ada" (at 1 44) (at 1 45)
    "Integer_Text_IO") [] (at 1 60) ∷ use_context (use_of (at 1 62) None (selected (at 1 66) "Ada" (at 1 69) (at 1 70)
    "Integer_Text_IO") [] (at 1 85)) ∷ context.With (at 1 87) (selected (at 1 92) "Ada" (at 1 95) (at 1 96)
    "Unchecked_Deallocation") [] (at 1 118) ∷ []) (subprogram_of (at 2 1) (subspec.Procedure (at 2 1) (id (at 2 11)
    "Main") None) None (at 2 16) (item.IncompleteType (at 3 1) (id (at 3 6) "Cell") (at 3 10) ∷ item.AccessType (at 4 1)
    (id (at 4 6) "List") (at 4 11) (at 4 14) (mark (at 4 21) "Cell") (at 4 25) ∷ item.RecordType (at 5 1) (id (at 5 6)
    "Cell") (at 5 11) (at 5 14) (fields_of (id (at 5 21) "Value") [] (at 5 27) (mark (at 5 29) "Integer") (at 5 36))
    (fields_of (id (at 5 38) "Next") [] (at 5 43) (mark (at 5 45) "List") (at 5 49) ∷ []) (at 5 51) (at 5 55) (at 5 61)
    ∷ objects_of (id (at 6 1) "X") (next_id_of (at 6 2) (at 6 4) "Y" ∷ []) (at 6 6) None (indication_of (mark (at 6 8)
    "List")) (at 6 12) ∷ initialized_of (id (at 7 1) "N") [] (at 7 3) None (indication_of (mark (at 7 5) "Integer")) (at
    7 13) (expr_of (at 7 16) (primary.Number (at 7 16) 8)) (at 7 17) ∷ []) (at 8 1) (stmts.Sequence (at 8 7)
    (stmt.DeclareBlock (at 8 7) (initialized_of (id (at 8 15) "Inner_X") [] (at 8 23) None (indication_of (mark (at 8
    25) "Integer")) (at 8 33) (expr_of (at 8 36) (object (at 8 36) "Inner_Y")) (at 8 43) ∷ initialized_of (id (at 8 45)
    "Inner_Y") [] (at 8 53) None (indication_of (mark (at 8 55) "Integer")) (at 8 63) (expr_of (at 8 66) (primary.Number
    (at 8 66) 2)) (at 8 67) ∷ []) (at 8 69) (sole (at 8 75) (assign_of (at 8 75) "Inner_X" [] (at 8 83) (expr_of (at 8
    86) (object (at 8 86) "Inner_Y")) (at 8 93))) (at 8 95) (at 8 98)) (assign_of (at 9 1) "X" [] (at 9 3) (expr_of (at
    9 6) (primary.AllocatedAggregate (at 9 6) (mark (at 9 10) "Cell") (at 9 14) (aggregate.Several (at 9 15) (actual_of
    (at 9 16) (object (at 9 16) "N")) (at 9 17) (actual_of (at 9 19) (primary.Null (at 9 19))) [] (at 9 23)))) (at 9 24)
    ∷ call_of (at 10 1) "Put_Line" (suffix.Applied (at 10 10) (actual_of (at 10 11) (named (at 10 11) "Integer"
    (suffix.Attribute (at 10 18) (id (at 10 19) "Image") ∷ suffix.Applied (at 10 25) (actual_of (at 10 26) (object (at
    10 26) "N")) [] (at 10 27) ∷ []))) [] (at 10 28) ∷ []) (at 10 29) ∷ assign_of (at 11 1) "N" [] (at 11 3)
    (expr.LoneRelation (at 11 6) (rel.LoneSum (at 11 6) (sum.Unsigned (at 11 6) (term.Product (at 11 6) (factor_of (at
    11 6) (object (at 11 6) "N")) (next_factor.FurtherFactor (at 11 8) multiplying.Multiply (factor_of (at 11 10)
    (primary.Number (at 11 10) 2)) ∷ [])) (next_term.FurtherTerm (at 11 12) adding.Add (term_of (at 11 14)
    (primary.Number (at 11 14) 1)) ∷ [])))) (at 11 15) ∷ stmt.If (at 12 1) (expr.LoneRelation (at 12 4) (rel.LoneSum (at
    12 4) (sum.Unsigned (at 12 4) (term.Product (at 12 4) (factor.Not (at 12 4) (object (at 12 8) "End_Of_File")) [])
    []))) (at 12 20) (sole (at 12 25) (call_of (at 12 25) "Get" (suffix.Applied (at 12 29) (actual_of (at 12 30) (object
    (at 12 30) "N")) [] (at 12 31) ∷ []) (at 12 32))) [] (at 12 34) (at 12 38) (at 12 40) ∷ assign_of (at 13 1) "Y" []
    (at 13 3) (expr_of (at 13 6) (object (at 13 6) "X")) (at 13 7) ∷ assign_of (at 13 9) "X" [] (at 13 11) (expr_of (at
    13 14) (primary.Null (at 13 14))) (at 13 18) ∷ [])) (at 14 1) (Some (id (at 14 5) "Main")) (at 14 9)) ∷ []) ∷ [])
unfolding computes resolves
later_2 = refl

later_3 : IsFirstBrokenOf TooEarly (at 4 61) ((unit.OfSubprogram (at 1 1) (context.With (at 1 1) (selected (at 1 6)
    "Ada" (at 1 9) (at 1 10) "Text_IO") [] (at 1 17) ∷ use_context (use_of (at 1 19) None (selected (at 1 23) "Ada" (at
    1 26) (at 1 27) "Text_IO") [] (at 1 34)) ∷ context.With (at 1 36) (selected (at 1 41) "Ada" (at 1 44) (at 1 45)
    "Integer_Text_IO") [] (at 1 60) ∷ use_context (use_of (at 1 62) None (selected (at 1 66) "ADA" (at 1 69) (at 1 70)
    "Integer_Text_IO") [] (at 1 85)) ∷ context.With (at 1 87) (selected (at 1 92) "Ada" (at 1 95) (at 1 96)
    "Unchecked_Deallocation") [] (at 1 118) ∷ []) (subprogram_of (at 2 1) (subspec.Procedure (at 2 1) (id (at 2 11)
    "Main") None) None (at 2 16) (item.IncompleteType (at 3 1) (id (at 3 6) "Cell") (at 3 10) ∷ item.AccessType (at 4 1)
    (id (at 4 6) "List") (at 4 11) (at 4 14) (mark (at 4 21) "Cell") (at 4 25) ∷ item.ArrayType (at 4 27) (id (at 4 32)
    "Minor_A") (at 4 40) (at 4 43) (at 4 49) (range.Bounds (at 4 50) (expr_of (at 4 50) (primary.Number (at 4 50) 1))
    (at 4 52) (expr_of (at 4 55) (primary.Number (at 4 55) 2))) (at 4 56) (at 4 58) (mark (at 4 61) "Minor_B") (at 4 68)
    ∷ item.EnumerationType (at 4 70) (id (at 4 75) "Minor_B") (at 4 83) (at 4 86) (id (at 4 87) "Minor_Q") (next_id_of
    (at 4 94) (at 4 96) "Minor_R" ∷ []) (at 4 103) (at 4 104) ∷ item.RecordType (at 5 1) (id (at 5 6) "Cell") (at 5 11)
    (at 5 14) (fields_of (id (at 5 21) "Value") [] (at 5 27) (mark (at 5 29) "Integer") (at 5 36)) (fields_of (id (at 5
    38) "Next") [] (at 5 43) (mark (at 5 45) "List") (at 5 49) ∷ []) (at 5 51) (at 5 55) (at 5 61) ∷ objects_of (id (at
    6 1) "X") (next_id_of (at 6 2) (at 6 4) "Y" ∷ []) (at 6 6) None (indication_of (mark (at 6 8) "List")) (at 6 12) ∷
    initialized_of (id (at 7 1) "N") [] (at 7 3) None (indication_of (mark (at 7 5) "Integer")) (at 7 13) (expr_of (at 7
    16) (primary.Number (at 7 16) 7)) (at 7 17) ∷ []) (at 8 1) (stmts.Sequence (at 9 1) (assign_of (at 9 1) "N" [] (at 9
    3) (expr.LoneRelation (at 9 6) (rel.LoneSum (at 9 6) (sum.Unsigned (at 9 6) (term.Product (at 9 6) (factor_of (at 9
    6) (object (at 9 6) "N")) (next_factor.FurtherFactor (at 9 8) multiplying.Multiply (factor_of (at 9 10)
    (primary.Number (at 9 10) 2)) ∷ [])) (next_term.FurtherTerm (at 9 12) adding.Add (term_of (at 9 14) (primary.Number
    (at 9 14) 1)) ∷ [])))) (at 9 15)) (call_of (at 10 1) "Put_Line" (suffix.Applied (at 10 10) (actual_of (at 10 11)
    (named (at 10 11) "Integer" (suffix.Attribute (at 10 18) (id (at 10 19) "Image") ∷ suffix.Applied (at 10 25)
    (actual_of (at 10 26) (object (at 10 26) "n")) [] (at 10 27) ∷ []))) [] (at 10 28) ∷ []) (at 10 29) ∷ stmt.IfElse
    (at 11 1) (expr.LoneRelation (at 11 4) (rel.Compared (at 11 4) (sum_of (at 11 4) (object (at 11 4) "N"))
    relational.Greater (at 11 6) (sum_of (at 11 8) (primary.Number (at 11 8) 3)))) (at 11 10) (sole (at 11 15)
    (assign_of (at 11 15) "N" [] (at 11 17) (expr.LoneRelation (at 11 20) (rel.LoneSum (at 11 20) (sum.Unsigned (at 11
    20) (term_of (at 11 20) (object (at 11 20) "n")) (next_term.FurtherTerm (at 11 22) adding.Subtract (term_of (at 11
    24) (primary.Number (at 11 24) 1)) ∷ [])))) (at 11 25))) [] (at 11 27) (sole (at 11 32) (stmt.Null (at 11 32) (at 11
    36))) (at 11 38) (at 11 42) (at 11 44) ∷ stmt.DeclareBlock (at 12 1) (initialized_of (id (at 12 9) "B") [] (at 12
    11) None (indication.Anonymous (at 12 13) None (mark (at 12 20) "Cell")) (at 12 25) (expr_of (at 12 28) (object (at
    12 28) "X")) (at 12 29) ∷ []) (at 12 31) (sole (at 12 37) (stmt.If (at 12 37) (expr.LoneRelation (at 12 40)
    (rel.Compared (at 12 40) (sum_of (at 12 40) (object (at 12 40) "B")) relational.NotEqual (at 12 42) (sum_of (at 12
    45) (primary.Null (at 12 45))))) (at 12 50) (sole (at 12 55) (assign_of (at 12 55) "B" (suffix.Selected (at 12 56)
    (id (at 12 57) "Value") ∷ []) (at 12 63) (expr_of (at 12 66) (object (at 12 66) "N")) (at 12 67))) [] (at 12 69) (at
    12 73) (at 12 75))) (at 12 77) (at 12 80) ∷ [])) (at 13 1) (Some (id (at 13 5) "Main")) (at 13 9)) ∷ []) ∷ [])
unfolding computes resolves
later_3 = refl

later_4 : IsFirstBrokenOf TooEarly (at 4 49) ((unit.OfPackage (at 1 1) (context.With (at 1 1) (selected (at 1 6) "Ada"
    (at 1 9) (at 1 10) "Text_IO") [] (at 1 17) ∷ use_context (use_of (at 1 19) None (selected (at 1 23) "Ada" (at 1 26)
    (at 1 27) "Text_IO") [] (at 1 34)) ∷ context.With (at 1 36) (selected (at 1 41) "Ada" (at 1 44) (at 1 45)
    "Integer_Text_IO") [] (at 1 60) ∷ use_context (use_of (at 1 62) None (selected (at 1 66) "Ada" (at 1 69) (at 1 70)
    "Integer_Text_IO") [] (at 1 85)) ∷ context.With (at 1 87) (selected (at 1 92) "Ada" (at 1 95) (at 1 96)
    "Unchecked_Deallocation") [] (at 1 118) ∷ []) (package_of (at 2 1) (id (at 2 9) "Store") None (at 2 15) (decl.OfItem
    (at 3 1) (item.IncompleteType (at 3 1) (id (at 3 6) "Cell") (at 3 10)) ∷ decl.OfItem (at 4 1) (item.AccessType (at 4
    1) (id (at 4 6) "List") (at 4 11) (at 4 14) (mark (at 4 21) "Cell") (at 4 25)) ∷ decl.OfItem (at 4 27) (numbers_of
    (id (at 4 27) "Inner_X") [] (at 4 35) (at 4 37) (at 4 46) (expr.LoneRelation (at 4 49) (rel.LoneSum (at 4 49)
    (sum.Unsigned (at 4 49) (term_of (at 4 49) (object (at 4 49) "Inner_Y")) (next_term.FurtherTerm (at 4 57) adding.Add
    (term_of (at 4 59) (primary.Number (at 4 59) 1)) ∷ [])))) (at 4 60)) ∷ decl.OfItem (at 4 62) (numbers_of (id (at 4
    62) "Inner_Y") [] (at 4 70) (at 4 72) (at 4 81) (expr_of (at 4 84) (primary.Number (at 4 84) 2)) (at 4 85)) ∷
    decl.OfItem (at 5 1) (item.RecordType (at 5 1) (id (at 5 6) "Cell") (at 5 11) (at 5 14) (fields_of (id (at 5 21)
    "Value") [] (at 5 27) (mark (at 5 29) "Integer") (at 5 36)) (fields_of (id (at 5 38) "Next") [] (at 5 43) (mark (at
    5 45) "List") (at 5 49) ∷ []) (at 5 51) (at 5 55) (at 5 61)) ∷ decl.Subprogram (at 6 1) (subspec.Procedure (at 6 1)
    (id (at 6 11) "Push") (Some (formals_of (at 6 16) (moded_of (id (at 6 17) "L") [] (at 6 19) (Some (at 6 21)) (Some
    (at 6 24)) (mark (at 6 28) "List")) (next_formal.Semicolon (at 6 32) (moded_of (id (at 6 34) "V") [] (at 6 36) None
    None (mark (at 6 38) "Integer")) ∷ []) (at 6 45)))) None (at 6 46) ∷ decl.Subprogram (at 7 1) (subspec.Function (at
    7 1) (id (at 7 10) "Sum") (Some (formals_of (at 7 14) (moded_of (id (at 7 15) "L") [] (at 7 17) None None (mark (at
    7 19) "List")) [] (at 7 23))) (at 7 25) (indication_of (mark (at 7 32) "Integer"))) None (at 7 39) ∷ decl.OfItem (at
    8 1) (objects_of (id (at 8 1) "Total") [] (at 8 7) None (indication_of (mark (at 8 9) "Integer")) (at 8 16)) ∷ [])
    None (at 9 1) (Some (id (at 9 5) "Store")) (at 9 10)) ∷ []) ∷ (unit.OfBody (at1 1 1) [] (package_body_of (at1 1 1)
    (at1 1 9) (id (at1 1 14) "Store") None (at1 1 20) (part.Completed (at1 2 1) (subprogram_of (at1 2 1)
    (subspec.Procedure (at1 2 1) (id (at1 2 11) "Push") (Some (formals_of (at1 2 16) (moded_of (id (at1 2 17) "L") []
    (at1 2 19) (Some (at1 2 21)) (Some (at1 2 24)) (mark (at1 2 28) "List")) (next_formal.Semicolon (at1 2 32) (moded_of
    (id (at1 2 34) "V") [] (at1 2 36) None None (mark (at1 2 38) "Integer")) ∷ []) (at1 2 45)))) None (at1 2 47) [] (at1
    3 1) (sole (at1 4 1) (assign_of (at1 4 1) "L" [] (at1 4 3) (expr_of (at1 4 6) (primary.AllocatedAggregate (at1 4 6)
    (mark (at1 4 10) "Cell") (at1 4 14) (aggregate.Several (at1 4 15) (actual_of (at1 4 16) (object (at1 4 16) "V"))
    (at1 4 17) (actual_of (at1 4 19) (object (at1 4 19) "L")) [] (at1 4 20)))) (at1 4 21))) (at1 5 1) (Some (id (at1 5
    5) "Push")) (at1 5 9)) ∷ part.Completed (at1 6 1) (subprogram_of (at1 6 1) (subspec.Function (at1 6 1) (id (at1 6
    10) "Sum") (Some (formals_of (at1 6 14) (moded_of (id (at1 6 15) "L") [] (at1 6 17) None None (mark (at1 6 19)
    "List")) [] (at1 6 23))) (at1 6 25) (indication_of (mark (at1 6 32) "Integer"))) None (at1 6 40) (initialized_of (id
    (at1 7 1) "C") [] (at1 7 3) None (indication.Anonymous (at1 7 5) (Some (at1 7 12)) (mark (at1 7 21) "Cell")) (at1 7
    26) (expr_of (at1 7 29) (object (at1 7 29) "L")) (at1 7 30) ∷ initialized_of (id (at1 8 1) "N") [] (at1 8 3) None
    (indication_of (mark (at1 8 5) "Integer")) (at1 8 13) (expr_of (at1 8 16) (primary.Number (at1 8 16) 0)) (at1 8 17)
    ∷ []) (at1 9 1) (stmts.Sequence (at1 10 1) (stmt.While (at1 10 1) (expr.LoneRelation (at1 10 7) (rel.Compared (at1
    10 7) (sum_of (at1 10 7) (object (at1 10 7) "C")) relational.NotEqual (at1 10 9) (sum_of (at1 10 12) (primary.Null
    (at1 10 12))))) (at1 10 17) (stmts.Sequence (at1 10 22) (assign_of (at1 10 22) "N" [] (at1 10 24) (expr.LoneRelation
    (at1 10 27) (rel.LoneSum (at1 10 27) (sum.Unsigned (at1 10 27) (term_of (at1 10 27) (object (at1 10 27) "N"))
    (next_term.FurtherTerm (at1 10 29) adding.Add (term_of (at1 10 31) (named (at1 10 31) "C" (suffix.Selected (at1 10
    32) (id (at1 10 33) "Value") ∷ []))) ∷ [])))) (at1 10 38)) (assign_of (at1 10 40) "C" [] (at1 10 42) (expr_of (at1
    10 45) (named (at1 10 45) "C" (suffix.Selected (at1 10 46) (id (at1 10 47) "Next") ∷ []))) (at1 10 51) ∷ [])) (at1
    10 53) (at1 10 57) (at1 10 61)) (stmt.ReturnValue (at1 11 1) (expr_of (at1 11 8) (object (at1 11 8) "N")) (at1 11 9)
    ∷ [])) (at1 12 1) (Some (id (at1 12 5) "Sum")) (at1 12 8)) ∷ []) (at1 13 1) (Some (id (at1 13 5) "Store")) (at1 13
    10)) ∷ unit.OfSubprogram (at1 14 1) (context.With (at1 14 1) (selected (at1 14 6) "Ada" (at1 14 9) (at1 14 10)
    "Text_IO") [] (at1 14 17) ∷ use_context (use_of (at1 14 19) None (selected (at1 14 23) "Ada" (at1 14 26) (at1 14 27)
    "Text_IO") [] (at1 14 34)) ∷ context.With (at1 14 36) (selected (at1 14 41) "Ada" (at1 14 44) (at1 14 45)
    "Integer_Text_IO") [] (at1 14 60) ∷ use_context (use_of (at1 14 62) None (selected (at1 14 66) "Ada" (at1 14 69)
    (at1 14 70) "Integer_Text_IO") [] (at1 14 85)) ∷ context.With (at1 14 87) (selected (at1 14 92) "Ada" (at1 14 95)
    (at1 14 96) "Unchecked_Deallocation") [] (at1 14 118) ∷ context.With (at1 14 120) (mark (at1 14 125) "Store") []
    (at1 14 130) ∷ use_context (use_of (at1 14 132) None (mark (at1 14 136) "Store") [] (at1 14 141)) ∷ [])
    (subprogram_of (at1 15 1) (subspec.Procedure (at1 15 1) (id (at1 15 11) "Main") None) None (at1 15 16) (objects_of
    (id (at1 16 1) "X") (next_id_of (at1 16 2) (at1 16 4) "Y" ∷ []) (at1 16 6) None (indication_of (mark (at1 16 8)
    "List")) (at1 16 12) ∷ initialized_of (id (at1 17 1) "N") [] (at1 17 3) None (indication_of (mark (at1 17 5)
    "Integer")) (at1 17 13) (expr_of (at1 17 16) (primary.Number (at1 17 16) 6)) (at1 17 17) ∷ []) (at1 18 1)
    (stmts.Sequence (at1 19 1) (stmt.While (at1 19 1) (expr.LoneRelation (at1 19 7) (rel.Compared (at1 19 7) (sum_of
    (at1 19 7) (object (at1 19 7) "N")) relational.Greater (at1 19 9) (sum_of (at1 19 11) (primary.Number (at1 19 11)
    5)))) (at1 19 13) (sole (at1 19 18) (assign_of (at1 19 18) "N" [] (at1 19 20) (expr.LoneRelation (at1 19 23)
    (rel.LoneSum (at1 19 23) (sum.Unsigned (at1 19 23) (term.Product (at1 19 23) (factor_of (at1 19 23) (object (at1 19
    23) "N")) (next_factor.FurtherFactor (at1 19 25) multiplying.Divide (factor_of (at1 19 27) (primary.Number (at1 19
    27) 2)) ∷ [])) []))) (at1 19 28))) (at1 19 30) (at1 19 34) (at1 19 38)) (stmt.Case (at1 20 1) (expr_of (at1 20 6)
    (object (at1 20 6) "N")) (at1 20 8) (alternative.Alternative (at1 20 11) (choice.Value (at1 20 16) (expr_of (at1 20
    16) (primary.Number (at1 20 16) 1))) [] (at1 20 18) (sole (at1 20 21) (stmt.Null (at1 20 21) (at1 20 25))))
    (alternative.Alternative (at1 20 27) (choice.Others (at1 20 32)) [] (at1 20 39) (sole (at1 20 42) (assign_of (at1 20
    42) "N" [] (at1 20 44) (expr_of (at1 20 47) (primary.Number (at1 20 47) 2)) (at1 20 48))) ∷ []) (at1 20 50) (at1 20
    54) (at1 20 58) ∷ call_of (at1 21 1) "Put_Line" (suffix.Applied (at1 21 10) (actual_of (at1 21 11) (named (at1 21
    11) "Integer" (suffix.Attribute (at1 21 18) (id (at1 21 19) "Image") ∷ suffix.Applied (at1 21 25) (actual_of (at1 21
    26) (object (at1 21 26) "N")) [] (at1 21 27) ∷ []))) [] (at1 21 28) ∷ []) (at1 21 29) ∷ assign_of (at1 22 1) "Y" []
    (at1 22 3) (expr_of (at1 22 6) (object (at1 22 6) "X")) (at1 22 7) ∷ assign_of (at1 22 9) "X" [] (at1 22 11)
    (expr_of (at1 22 14) (primary.Null (at1 22 14))) (at1 22 18) ∷ [])) (at1 23 1) (Some (id (at1 23 5) "Main")) (at1 23
    9)) ∷ []) ∷ [])
unfolding computes resolves
later_4 = refl

later_5 : IsFirstBrokenOf TooEarly (at 11 94) ((unit.OfSubprogram (at 1 1) (context.With (at 1 1) (selected (at 1 6)
    "Ada" (at 1 9) (at 1 10) "Text_IO") [] (at 1 17) ∷ use_context (use_of (at 1 19) None (selected (at 1 23) "Ada" (at
    1 26) (at 1 27) "Text_IO") [] (at 1 34)) ∷ context.With (at 2 1) (selected (at 2 6) "Ada" (at 2 9) (at 2 10)
    "Integer_Text_IO") [] (at 2 25) ∷ use_context (use_of (at 2 27) None (selected (at 2 31) "Ada" (at 2 34) (at 2 35)
    "Integer_Text_IO") [] (at 2 50)) ∷ context.With (at 3 1) (selected (at 3 6) "Ada" (at 3 9) (at 3 10)
    "Unchecked_Deallocation") [] (at 3 32) ∷ []) (subprogram_of (at 4 1) (subspec.Procedure (at 4 1) (id (at 4 11)
    "Main") None) None (at 4 16) (item.AccessType (at 5 1) (id (at 5 6) "P1") (at 5 9) (at 5 12) (mark (at 5 19)
    "Integer") (at 5 26) ∷ item.Instance (at 6 1) (id (at 6 11) "Free1") (at 6 17) (at 6 20) (selected (at 6 24) "Ada"
    (at 6 27) (at 6 28) "Unchecked_Deallocation") (at 6 51) (actual_of (at 6 52) (object (at 6 52) "Integer"))
    (next_arg.FurtherArg (at 6 59) (actual_of (at 6 61) (object (at 6 61) "P1")) ∷ []) (at 6 63) (at 6 64) ∷
    item.IncompleteType (at 7 1) (id (at 7 6) "Node1") (at 7 11) ∷ item.AccessType (at 8 1) (id (at 8 6) "Tree1") (at 8
    12) (at 8 15) (mark (at 8 22) "Node1") (at 8 27) ∷ item.RecordType (at 9 1) (id (at 9 6) "Node1") (at 9 12) (at 9
    15) (fields_of (id (at 9 22) "Key1") [] (at 9 27) (mark (at 9 29) "Integer") (at 9 36)) (fields_of (id (at 9 38)
    "Left1") [] (at 9 44) (mark (at 9 46) "Tree1") (at 9 51) ∷ fields_of (id (at 9 53) "Right1") [] (at 9 60) (mark (at
    9 62) "Tree1") (at 9 67) ∷ []) (at 9 69) (at 9 73) (at 9 79) ∷ item.Instance (at 10 1) (id (at 10 11) "Free2") (at
    10 17) (at 10 20) (selected (at 10 24) "Ada" (at 10 27) (at 10 28) "Unchecked_Deallocation") (at 10 51) (actual_of
    (at 10 52) (object (at 10 52) "Node1")) (next_arg.FurtherArg (at 10 57) (actual_of (at 10 59) (object (at 10 59)
    "Tree1")) ∷ []) (at 10 64) (at 10 65) ∷ item.RecordType (at 11 1) (id (at 11 6) "R1") (at 11 9) (at 11 12)
    (fields_of (id (at 11 19) "F1") [] (at 11 22) (mark (at 11 24) "Integer") (at 11 31)) (fields_of (id (at 11 33)
    "F2") [] (at 11 36) (mark (at 11 38) "Integer") (at 11 45) ∷ fields_of (id (at 11 47) "F3") [] (at 11 50) (mark (at
    11 52) "Integer") (at 11 59) ∷ []) (at 11 61) (at 11 65) (at 11 71) ∷ initialized_of (id (at 11 73) "Plain_X") []
    (at 11 81) None (indication_of (mark (at 11 83) "Integer")) (at 11 91) (expr_of (at 11 94) (object (at 11 94)
    "Plain_Y")) (at 11 101) ∷ objects_of (id (at 11 103) "Plain_Y") [] (at 11 111) None (indication_of (mark (at 11 113)
    "Integer")) (at 11 120) ∷ initialized_of (id (at 12 1) "V1") [] (at 12 4) None (indication_of (mark (at 12 6)
    "Integer")) (at 12 14) (expr_of (at 12 17) (primary.Parenthesized (at 12 17) (expr.LoneRelation (at 12 18)
    (rel.LoneSum (at 12 18) (sum.Signed (at 12 18) sign.Minus (term_of (at 12 19) (primary.Number (at 12 19) 4)) [])))
    (at 12 20))) (at 12 21) ∷ initialized_of (id (at 13 1) "V2") [] (at 13 4) None (indication_of (mark (at 13 6) "R1"))
    (at 13 9) (expr_of (at 13 12) (primary.Aggregated (at 13 12) (aggregate.Several (at 13 12) (actual_of (at 13 13)
    (object (at 13 13) "V1")) (at 13 15) (actual_of (at 13 17) (primary.Parenthesized (at 13 17) (expr.LoneRelation (at
    13 18) (rel.LoneSum (at 13 18) (sum.Unsigned (at 13 18) (term.Product (at 13 18) (factor_of (at 13 18)
    (primary.Number (at 13 18) 4)) (next_factor.FurtherFactor (at 13 20) multiplying.Multiply (factor_of (at 13 22)
    (primary.Number (at 13 22) 5)) ∷ [])) []))) (at 13 23))) (next_arg.FurtherArg (at 13 24) (actual_of (at 13 26)
    (object (at 13 26) "V1")) ∷ []) (at 13 28)))) (at 13 29) ∷ initialized_of (id (at 14 1) "V3") [] (at 14 4) None
    (indication_of (mark (at 14 6) "Tree1")) (at 14 12) (expr_of (at 14 15) (primary.Null (at 14 15))) (at 14 19) ∷
    objects_of (id (at 15 1) "V4") (next_id_of (at 15 3) (at 15 5) "V5" ∷ []) (at 15 8) None (indication_of (mark (at 15
    10) "Node1")) (at 15 15) ∷ initialized_of (id (at 16 1) "V6") [] (at 16 4) None (indication_of (mark (at 16 6)
    "P1")) (at 16 9) (expr_of (at 16 12) (primary.AllocatedValue (at 16 12) (mark (at 16 16) "Integer") (at 16 23) (at
    16 24) (expr_of (at 16 25) (primary.Parenthesized (at 16 25) (expr.LoneRelation (at 16 26) (rel.LoneSum (at 16 26)
    (sum.Unsigned (at 16 26) (term.Product (at 16 26) (factor_of (at 16 26) (primary.Number (at 16 26) 6))
    (next_factor.FurtherFactor (at 16 28) multiplying.Modulo (factor_of (at 16 32) (primary.Number (at 16 32) 3)) ∷ []))
    []))) (at 16 33))) (at 16 34))) (at 16 35) ∷ objects_of (id (at 17 1) "T1") [] (at 17 4) None (indication_of (mark
    (at 17 6) "Integer")) (at 17 13) ∷ []) (at 18 1) (stmts.Sequence (at 19 1) (stmt.For (at 19 1) (id (at 19 5) "I1")
    (at 19 8) None (range.Bounds (at 19 11) (expr_of (at 19 11) (primary.Number (at 19 11) 1)) (at 19 13) (expr_of (at
    19 16) (primary.Number (at 19 16) 10))) (at 19 19) (sole (at 20 1) (assign_of (at 20 1) "V5" (suffix.Selected (at 20
    3) (id (at 20 4) "Right1") ∷ []) (at 20 11) (expr_of (at 20 14) (primary.AllocatedAggregate (at 20 14) (mark (at 20
    18) "Node1") (at 20 23) (aggregate.Several (at 20 24) (actual_of (at 20 25) (object (at 20 25) "I1")) (at 20 27)
    (actual_of (at 20 29) (primary.Null (at 20 29))) (next_arg.FurtherArg (at 20 33) (actual_of (at 20 35) (named (at 20
    35) "V5" (suffix.Selected (at 20 37) (id (at 20 38) "Right1") ∷ []))) ∷ []) (at 20 44)))) (at 20 45))) (at 21 1) (at
    21 5) (at 21 9)) (stmt.DeclareBlock (at 22 1) (initialized_of (id (at 23 1) "B1") [] (at 23 4) None
    (indication.Anonymous (at 23 6) None (mark (at 23 13) "Integer")) (at 23 21) (expr_of (at 23 24) (object (at 23 24)
    "V6")) (at 23 26) ∷ []) (at 24 1) (stmts.Sequence (at 25 1) (assign_of (at 25 1) "T1" [] (at 25 4) (expr_of (at 25
    7) (primary.Number (at 25 7) 0)) (at 25 8)) (stmt.While (at 26 1) (expr.LoneRelation (at 26 7) (rel.Compared (at 26
    7) (sum_of (at 26 7) (object (at 26 7) "T1")) relational.Less (at 26 10) (sum_of (at 26 12) (primary.Number (at 26
    12) 1)))) (at 26 14) (stmts.Sequence (at 27 1) (assign_of (at 27 1) "V2" [] (at 27 4) (expr_of (at 27 7)
    (primary.Aggregated (at 27 7) (aggregate.Several (at 27 7) (actual_of (at 27 8) (named (at 27 8) "V2"
    (suffix.Selected (at 27 10) (id (at 27 11) "F2") ∷ []))) (at 27 13) (actual_of (at 27 15) (named (at 27 15) "V2"
    (suffix.Selected (at 27 17) (id (at 27 18) "F3") ∷ []))) (next_arg.FurtherArg (at 27 20) (actual_of (at 27 22)
    (object (at 27 22) "T1")) ∷ []) (at 27 24)))) (at 27 25)) (stmt.If (at 28 1) (expr.AndThen (at 28 4) (rel.Compared
    (at 28 4) (sum_of (at 28 4) (object (at 28 4) "V3")) relational.NotEqual (at 28 7) (sum_of (at 28 10) (primary.Null
    (at 28 10)))) (at 28 15) (at 28 19) (rel.Compared (at 28 24) (sum_of (at 28 24) (named (at 28 24) "V3"
    (suffix.Selected (at 28 26) (id (at 28 27) "Right1") ∷ []))) relational.NotEqual (at 28 34) (sum_of (at 28 37)
    (primary.Null (at 28 37)))) []) (at 28 42) (sole (at 29 1) (assign_of (at 29 1) "V5" (suffix.Selected (at 29 3) (id
    (at 29 4) "Left1") ∷ []) (at 29 10) (expr_of (at 29 13) (named (at 29 13) "V3" (suffix.Selected (at 29 15) (id (at
    29 16) "Right1") ∷ suffix.Selected (at 29 22) (id (at 29 23) "Left1") ∷ []))) (at 29 28))) [] (at 30 1) (at 30 5)
    (at 30 7) ∷ stmt.If (at 31 1) (expr.AndThen (at 31 4) (rel.Compared (at 31 4) (sum_of (at 31 4) (named (at 31 4)
    "V5" (suffix.Selected (at 31 6) (id (at 31 7) "Right1") ∷ []))) relational.NotEqual (at 31 14) (sum_of (at 31 17)
    (primary.Null (at 31 17)))) (at 31 22) (at 31 26) (rel.Compared (at 31 31) (sum_of (at 31 31) (named (at 31 31) "V5"
    (suffix.Selected (at 31 33) (id (at 31 34) "Right1") ∷ suffix.Selected (at 31 40) (id (at 31 41) "Right1") ∷ [])))
    relational.NotEqual (at 31 48) (sum_of (at 31 51) (primary.Null (at 31 51)))) []) (at 31 56) (sole (at 32 1)
    (assign_of (at 32 1) "V5" (suffix.Selected (at 32 3) (id (at 32 4) "Right1") ∷ suffix.Selected (at 32 10) (id (at 32
    11) "Right1") ∷ suffix.Selected (at 32 17) (id (at 32 18) "Right1") ∷ []) (at 32 25) (expr_of (at 32 28)
    (primary.AllocatedAggregate (at 32 28) (mark (at 32 32) "Node1") (at 32 37) (aggregate.Several (at 32 38)
    (association_of (id (at 32 39) "Key1") (at 32 44) (expr_of (at 32 47) (primary.Number (at 32 47) 29))) (at 32 49)
    (association_of (id (at 32 51) "Left1") (at 32 57) (expr_of (at 32 60) (named (at 32 60) "V4" (suffix.Selected (at
    32 62) (id (at 32 63) "Left1") ∷ [])))) (next_arg.FurtherArg (at 32 68) (association_of (id (at 32 70) "Right1") (at
    32 77) (expr_of (at 32 80) (primary.Null (at 32 80)))) ∷ []) (at 32 84)))) (at 32 85))) [] (at 33 1) (at 33 5) (at
    33 7) ∷ assign_of (at 34 1) "V4" (suffix.Selected (at 34 3) (id (at 34 4) "Left1") ∷ []) (at 34 10) (expr_of (at 34
    13) (primary.Null (at 34 13))) (at 34 17) ∷ assign_of (at 35 1) "V3" (suffix.Selected (at 35 3) (id (at 35 4)
    "Right1") ∷ suffix.Selected (at 35 10) (id (at 35 11) "Left1") ∷ []) (at 35 17) (expr_of (at 35 20)
    (primary.Allocated (at 35 20) (mark (at 35 24) "Node1"))) (at 35 29) ∷ assign_of (at 36 1) "T1" [] (at 36 4)
    (expr.LoneRelation (at 36 7) (rel.LoneSum (at 36 7) (sum.Unsigned (at 36 7) (term_of (at 36 7) (object (at 36 7)
    "T1")) (next_term.FurtherTerm (at 36 10) adding.Add (term_of (at 36 12) (primary.Number (at 36 12) 1)) ∷ [])))) (at
    36 13) ∷ [])) (at 37 1) (at 37 5) (at 37 9) ∷ stmt.If (at 38 1) (expr.LoneRelation (at 38 4) (rel.Compared (at 38 4)
    (sum_of (at 38 4) (named (at 38 4) "V4" (suffix.Selected (at 38 6) (id (at 38 7) "Right1") ∷ [])))
    relational.NotEqual (at 38 14) (sum_of (at 38 17) (primary.Null (at 38 17))))) (at 38 22) (sole (at 39 1)
    (stmt.DeclareBlock (at 39 1) (initialized_of (id (at 40 1) "B2") [] (at 40 4) None (indication.Anonymous (at 40 6)
    None (mark (at 40 13) "Node1")) (at 40 19) (expr_of (at 40 22) (named (at 40 22) "V4" (suffix.Selected (at 40 24)
    (id (at 40 25) "Right1") ∷ suffix.Dereferenced (at 40 31) (at 40 32) ∷ suffix.Selected (at 40 35) (id (at 40 36)
    "Left1") ∷ []))) (at 40 41) ∷ []) (at 41 1) (stmts.Sequence (at 42 1) (assign_of (at 42 1) "V5" [] (at 42 4)
    (expr_of (at 42 7) (object (at 42 7) "V5")) (at 42 9)) (call_of (at 43 1) "Free2" (suffix.Applied (at 43 7)
    (actual_of (at 43 8) (object (at 43 8) "V3")) [] (at 43 10) ∷ []) (at 43 11) ∷ stmt.If (at 44 1) (expr.AndThen (at
    44 4) (rel.Compared (at 44 4) (sum_of (at 44 4) (object (at 44 4) "B2")) relational.NotEqual (at 44 7) (sum_of (at
    44 10) (primary.Null (at 44 10)))) (at 44 15) (at 44 19) (rel.Compared (at 44 24) (sum_of (at 44 24) (named (at 44
    24) "B2" (suffix.Selected (at 44 26) (id (at 44 27) "Left1") ∷ []))) relational.NotEqual (at 44 33) (sum_of (at 44
    36) (primary.Null (at 44 36)))) []) (at 44 41) (sole (at 45 1) (assign_of (at 45 1) "B2" (suffix.Selected (at 45 3)
    (id (at 45 4) "Left1") ∷ suffix.Selected (at 45 9) (id (at 45 10) "Key1") ∷ []) (at 45 15) (expr_of (at 45 18)
    (primary.Number (at 45 18) 5)) (at 45 19))) [] (at 46 1) (at 46 5) (at 46 7) ∷ [])) (at 47 1) (at 47 4))) [] (at 48
    1) (at 48 5) (at 48 7) ∷ [])) (at 49 1) (at 49 4) ∷ [])) (at 50 1) (Some (id (at 50 5) "Main")) (at 50 9)) ∷ []) ∷
    [])
unfolding computes resolves
later_5 = refl

later_6 : IsFirstBrokenOf TooEarly (at1 2 28) ((unit.OfPackage (at 1 1) (context.With (at 1 1) (selected (at 1 6) "Ada"
    (at 1 9) (at 1 10) "Text_IO") [] (at 1 17) ∷ use_context (use_of (at 1 19) None (selected (at 1 23) "Ada" (at 1 26)
    (at 1 27) "Text_IO") [] (at 1 34)) ∷ context.With (at 1 36) (selected (at 1 41) "Ada" (at 1 44) (at 1 45)
    "Integer_Text_IO") [] (at 1 60) ∷ use_context (use_of (at 1 62) None (selected (at 1 66) "Ada" (at 1 69) (at 1 70)
    "Integer_Text_IO") [] (at 1 85)) ∷ context.With (at 1 87) (selected (at 1 92) "Ada" (at 1 95) (at 1 96)
    "Unchecked_Deallocation") [] (at 1 118) ∷ []) (package_of (at 1 120) (id (at 1 128) "Minor_P") None (at 1 136)
    (decl.Subprogram (at 2 1) (subspec.Procedure (at 2 1) (id (at 2 11) "Minor_Q") None) None (at 2 18) ∷ []) None (at 3
    1) (Some (id (at 3 5) "Minor_P")) (at 3 12)) ∷ []) ∷ (unit.OfBody (at1 1 1) [] (package_body_of (at1 1 1) (at1 1 9)
    (id (at1 1 14) "Minor_P") None (at1 1 22) (part.Completed (at1 2 1) (subprogram_of (at1 2 1) (subspec.Procedure (at1
    2 1) (id (at1 2 11) "Minor_Q") None) None (at1 2 19) [] (at1 2 22) (sole (at1 2 28) (call_of (at1 2 28) "Minor_R" []
    (at1 2 35))) (at1 2 37) (Some (id (at1 2 41) "Minor_Q")) (at1 2 48)) ∷ part.Completed (at1 2 50) (subprogram_of (at1
    2 50) (subspec.Procedure (at1 2 50) (id (at1 2 60) "Minor_R") None) None (at1 2 68) [] (at1 2 71) (sole (at1 2 77)
    (stmt.Null (at1 2 77) (at1 2 81))) (at1 2 83) (Some (id (at1 2 87) "Minor_R")) (at1 2 94)) ∷ []) (at1 3 1) (Some (id
    (at1 3 5) "Minor_P")) (at1 3 12)) ∷ []) ∷ (unit.OfPackage (at2 1 1) (context.With (at2 1 1) (selected (at2 1 6)
    "Ada" (at2 1 9) (at2 1 10) "Text_IO") [] (at2 1 17) ∷ use_context (use_of (at2 1 19) None (selected (at2 1 23) "Ada"
    (at2 1 26) (at2 1 27) "Text_IO") [] (at2 1 34)) ∷ context.With (at2 2 1) (selected (at2 2 6) "Ada" (at2 2 9) (at2 2
    10) "Integer_Text_IO") [] (at2 2 25) ∷ use_context (use_of (at2 2 27) None (selected (at2 2 31) "Ada" (at2 2 34)
    (at2 2 35) "Integer_Text_IO") [] (at2 2 50)) ∷ context.With (at2 2 52) (selected (at2 2 57) "Ada" (at2 2 60) (at2 2
    61) "Unchecked_Deallocation") [] (at2 2 83) ∷ []) (package_of (at2 2 85) (id (at2 2 93) "Pack1") None (at2 2 99)
    (decl.OfItem (at2 3 1) (initialized_of (id (at2 3 1) "G1") [] (at2 3 4) None (indication_of (mark (at2 3 6)
    "Integer")) (at2 3 14) (expr_of (at2 3 17) (primary.Number (at2 3 17) 9)) (at2 3 18)) ∷ decl.OfItem (at2 3 20)
    (objects_of (id (at2 3 20) "G2") [] (at2 3 23) None (indication_of (mark (at2 3 25) "Integer")) (at2 3 32)) ∷
    decl.Subprogram (at2 3 34) (subspec.Procedure (at2 3 34) (id (at2 3 44) "Do1") (Some (formals_of (at2 3 48)
    (moded_of (id (at2 3 49) "N1") [] (at2 3 52) None None (mark (at2 3 54) "Integer")) (next_formal.Semicolon (at2 3
    61) (moded_of (id (at2 3 63) "N2") [] (at2 3 66) (Some (at2 3 68)) (Some (at2 3 71)) (mark (at2 3 75) "Boolean")) ∷
    []) (at2 3 82)))) None (at2 3 83) ∷ []) (Some (private_part (at2 4 1) (decl.OfItem (at2 4 9) (objects_of (id (at2 4
    9) "G3") [] (at2 4 12) None (indication_of (mark (at2 4 14) "Integer")) (at2 4 21)) ∷ []))) (at2 4 23) (Some (id
    (at2 4 27) "Pack1")) (at2 4 32)) ∷ unit.OfBody (at2 4 34) [] (package_body_of (at2 4 34) (at2 4 42) (id (at2 4 47)
    "Pack1") None (at2 4 53) (part.Completed (at2 4 56) (subprogram_of (at2 4 56) (subspec.Procedure (at2 4 56) (id (at2
    4 66) "Do1") (Some (formals_of (at2 4 70) (moded_of (id (at2 4 71) "N1") [] (at2 4 74) None None (mark (at2 4 76)
    "Integer")) (next_formal.Semicolon (at2 4 83) (moded_of (id (at2 4 85) "N2") [] (at2 4 88) (Some (at2 4 90)) (Some
    (at2 4 93)) (mark (at2 4 97) "Boolean")) ∷ []) (at2 4 104)))) None (at2 4 106) (initialized_of (id (at2 5 1) "V1")
    [] (at2 5 4) None (indication_of (mark (at2 5 6) "Boolean")) (at2 5 14) (expr_of (at2 5 17) (object (at2 5 17)
    "False")) (at2 5 22) ∷ initialized_of (id (at2 5 24) "V2") [] (at2 5 27) None (indication_of (mark (at2 5 29)
    "Boolean")) (at2 5 37) (expr_of (at2 5 40) (object (at2 5 40) "End_Of_File")) (at2 5 51) ∷ initialized_of (id (at2 6
    1) "V3") [] (at2 6 4) None (indication_of (mark (at2 6 6) "Integer")) (at2 6 14) (expr_of (at2 6 17) (object (at2 6
    17) "G3")) (at2 6 19) ∷ []) (at2 6 21) (stmts.Sequence (at2 6 27) (assign_of (at2 6 27) "N2" [] (at2 6 30)
    (expr.LoneRelation (at2 6 33) (rel.Compared (at2 6 33) (sum_of (at2 6 33) (primary.Number (at2 6 33) 33))
    relational.LessEqual (at2 6 36) (sum_of (at2 6 39) (object (at2 6 39) "G3")))) (at2 6 41)) (stmt.IfElse (at2 6 43)
    (expr.LoneRelation (at2 6 46) (rel.LoneSum (at2 6 46) (sum.Unsigned (at2 6 46) (term.Product (at2 6 46) (factor.Not
    (at2 6 46) (primary.Parenthesized (at2 6 50) (expr_of (at2 6 51) (object (at2 6 51) "False")) (at2 6 56))) []) [])))
    (at2 6 58) (sole (at2 7 1) (stmt.For (at2 7 1) (id (at2 7 5) "I1") (at2 7 8) None (marked_of (mark (at2 7 11)
    "Boolean")) (at2 7 19) (sole (at2 8 1) (assign_of (at2 8 1) "V3" [] (at2 8 4) (expr_of (at2 8 7) (object (at2 8 7)
    "N1")) (at2 8 9))) (at2 8 11) (at2 8 15) (at2 8 19))) [] (at2 8 21) (sole (at2 8 26) (assign_of (at2 8 26) "V2" []
    (at2 8 29) (expr.Or (at2 8 32) (rel_of (at2 8 32) (primary.Parenthesized (at2 8 32) (expr.LoneRelation (at2 8 33)
    (rel.Compared (at2 8 33) (sum_of (at2 8 33) (primary.Number (at2 8 33) 20)) relational.NotEqual (at2 8 36) (sum_of
    (at2 8 39) (primary.Number (at2 8 39) 9)))) (at2 8 40))) (at2 8 42) (rel_of (at2 8 45) (primary.Parenthesized (at2 8
    45) (expr.LoneRelation (at2 8 46) (rel.Compared (at2 8 46) (sum_of (at2 8 46) (primary.Parenthesized (at2 8 46)
    (expr.LoneRelation (at2 8 47) (rel.LoneSum (at2 8 47) (sum.Unsigned (at2 8 47) (term.Product (at2 8 47) (factor_of
    (at2 8 47) (primary.Number (at2 8 47) 2)) (next_factor.FurtherFactor (at2 8 49) multiplying.Multiply (factor_of (at2
    8 51) (primary.Number (at2 8 51) 7)) ∷ [])) []))) (at2 8 52))) relational.Equal (at2 8 54) (sum_of (at2 8 56)
    (object (at2 8 56) "G2")))) (at2 8 58))) []) (at2 8 59))) (at2 8 61) (at2 8 65) (at2 8 67) ∷ [])) (at2 8 69) (Some
    (id (at2 8 73) "Do1")) (at2 8 76)) ∷ []) (at2 9 1) (Some (id (at2 9 5) "Pack1")) (at2 9 10)) ∷ unit.OfSubprogram
    (at2 9 12) (context.With (at2 9 12) (selected (at2 9 17) "Ada" (at2 9 20) (at2 9 21) "Text_IO") [] (at2 9 28) ∷
    use_context (use_of (at2 9 30) None (selected (at2 9 34) "Ada" (at2 9 37) (at2 9 38) "Text_IO") [] (at2 9 45)) ∷
    context.With (at2 10 1) (selected (at2 10 6) "Ada" (at2 10 9) (at2 10 10) "Integer_Text_IO") [] (at2 10 25) ∷
    use_context (use_of (at2 10 27) None (selected (at2 10 31) "Ada" (at2 10 34) (at2 10 35) "Integer_Text_IO") [] (at2
    10 50)) ∷ context.With (at2 11 1) (selected (at2 11 6) "Ada" (at2 11 9) (at2 11 10) "Unchecked_Deallocation") []
    (at2 11 32) ∷ context.With (at2 11 34) (mark (at2 11 39) "Pack1") [] (at2 11 44) ∷ use_context (use_of (at2 11 46)
    None (mark (at2 11 50) "Pack1") [] (at2 11 55)) ∷ []) (subprogram_of (at2 11 57) (subspec.Procedure (at2 11 57) (id
    (at2 11 67) "Main") None) (Some (mode_of (at2 11 72) (id (at2 11 77) "SPARK_Mode") None)) (at2 11 88)
    (item.RecordType (at2 11 91) (id (at2 11 96) "R1") (at2 11 99) (at2 11 102) (fields_of (id (at2 11 109) "F1") []
    (at2 11 112) (mark (at2 11 114) "Integer") (at2 11 121)) (fields_of (id (at2 11 123) "F2") [] (at2 11 126) (mark
    (at2 11 128) "Integer") (at2 11 135) ∷ []) (at2 11 137) (at2 11 141) (at2 11 147) ∷ initialized_of (id (at2 12 1)
    "V4") [] (at2 12 4) None (indication_of (mark (at2 12 6) "Integer")) (at2 12 14) (expr_of (at2 12 17) (object (at2
    12 17) "G2")) (at2 12 19) ∷ objects_of (id (at2 13 1) "V5") (next_id_of (at2 13 3) (at2 13 5) "V6" ∷ []) (at2 13 8)
    None (indication_of (mark (at2 13 10) "Natural")) (at2 13 17) ∷ objects_of (id (at2 13 19) "T1") [] (at2 13 22) None
    (indication_of (mark (at2 13 24) "Integer")) (at2 13 31) ∷ []) (at2 13 33) (stmts.Sequence (at2 13 39) (call_of (at2
    13 39) "Put" (suffix.Applied (at2 13 43) (actual_of (at2 13 44) (primary.Text (at2 13 44) (codes "\"x y\""))) []
    (at2 13 49) ∷ []) (at2 13 50)) (stmt.Case (at2 13 52) (expr_of (at2 13 57) (primary.Number (at2 13 57) 12)) (at2 13
    60) (alternative.Alternative (at2 14 1) (choice.Value (at2 14 6) (expr_of (at2 14 6) (primary.Number (at2 14 6)
    10))) [] (at2 14 9) (sole (at2 14 12) (stmt.If (at2 14 12) (expr_of (at2 14 15) (object (at2 14 15) "End_Of_File"))
    (at2 14 27) (stmts.Sequence (at2 14 32) (call_of (at2 14 32) "Put" (suffix.Applied (at2 14 36) (actual_of (at2 14
    37) (named (at2 14 37) "Integer" (suffix.Attribute (at2 14 44) (id (at2 14 45) "Image") ∷ suffix.Applied (at2 14 51)
    (actual_of (at2 14 52) (primary.Number (at2 14 52) 9)) [] (at2 14 53) ∷ []))) [] (at2 14 54) ∷ []) (at2 14 55))
    (call_of (at2 15 1) "Get" (suffix.Applied (at2 15 5) (actual_of (at2 15 6) (object (at2 15 6) "G1")) [] (at2 15 8) ∷
    []) (at2 15 9) ∷ stmt.For (at2 16 1) (id (at2 16 5) "I2") (at2 16 8) None (constrained_of (mark (at2 16 11)
    "Integer") (at2 16 19) (expr_of (at2 16 25) (primary.Number (at2 16 25) 2)) (at2 16 27) (expr_of (at2 16 30)
    (primary.Number (at2 16 30) 1))) (at2 16 32) (sole (at2 16 37) (stmt.If (at2 16 37) (expr.LoneRelation (at2 16 40)
    (rel.Compared (at2 16 40) (sum_of (at2 16 40) (object (at2 16 40) "G2")) relational.LessEqual (at2 16 43) (sum_of
    (at2 16 46) (object (at2 16 46) "V6")))) (at2 16 49) (stmts.Sequence (at2 16 54) (assign_of (at2 16 54) "G2" [] (at2
    16 57) (expr_of (at2 16 60) (named (at2 16 60) "Positive" (suffix.Attribute (at2 16 68) (id (at2 16 69) "First") ∷
    []))) (at2 16 74)) (assign_of (at2 17 1) "V4" [] (at2 17 4) (expr_of (at2 17 7) (primary.Number (at2 17 7) 30)) (at2
    17 9) ∷ [])) [] (at2 18 1) (at2 18 5) (at2 18 7))) (at2 18 9) (at2 18 13) (at2 18 17) ∷ [])) [] (at2 19 1) (at2 19
    5) (at2 19 7)))) (alternative.Alternative (at2 19 9) (choice.Value (at2 19 14) (expr_of (at2 19 14) (primary.Number
    (at2 19 14) 7))) (next_choice.Bar (at2 19 16) (choice.Value (at2 19 18) (expr_of (at2 19 18) (primary.Number (at2 19
    18) 11))) ∷ []) (at2 19 21) (sole (at2 19 24) (assign_of (at2 19 24) "V6" [] (at2 19 27) (expr_of (at2 19 30)
    (primary.Number (at2 19 30) 35)) (at2 19 32))) ∷ alternative.Alternative (at2 19 34) (choice.Others (at2 19 39)) []
    (at2 19 46) (sole (at2 20 1) (assign_of (at2 20 1) "V5" [] (at2 20 4) (expr.LoneRelation (at2 20 7) (rel.LoneSum
    (at2 20 7) (sum.Unsigned (at2 20 7) (term.Product (at2 20 7) (factor_of (at2 20 7) (object (at2 20 7) "V4"))
    (next_factor.FurtherFactor (at2 20 10) multiplying.Modulo (factor_of (at2 20 14) (primary.Number (at2 20 14) 5)) ∷
    [])) (next_term.FurtherTerm (at2 20 16) adding.Add (term_of (at2 20 18) (primary.Number (at2 20 18) 0)) ∷ []))))
    (at2 20 19))) ∷ []) (at2 20 21) (at2 20 25) (at2 20 29) ∷ [])) (at2 21 1) (Some (id (at2 21 5) "Main")) (at2 21 9))
    ∷ []) ∷ [])
unfolding computes resolves
later_6 = refl

-- The same in a package body, after the name of the package.
own_member_later_1 : IsFirstBrokenOf TooEarly (at 5 51) ((unit.OfPackage (at 1 1) (context.With (at 1 1) (selected (at 1
    6) "Ada" (at 1 9) (at 1 10) "Text_IO") [] (at 1 17) ∷ use_context (use_of (at 1 19) None (selected (at 1 23) "Ada"
    (at 1 26) (at 1 27) "Text_IO") [] (at 1 34)) ∷ context.With (at 1 36) (selected (at 1 41) "Ada" (at 1 44) (at 1 45)
    "Integer_Text_IO") [] (at 1 60) ∷ use_context (use_of (at 1 62) None (selected (at 1 66) "Ada" (at 1 69) (at 1 70)
    "Integer_Text_IO") [] (at 1 85)) ∷ context.With (at 1 87) (selected (at 1 92) "Ada" (at 1 95) (at 1 96)
    "Unchecked_Deallocation") [] (at 1 118) ∷ []) (package_of (at 1 120) (id (at 1 128) "Plain_P") None (at 1 136)
    (decl.Subprogram (at 2 1) (subspec.Procedure (at 2 1) (id (at 2 11) "Plain_Q") None) None (at 2 18) ∷ []) None (at 3
    1) (Some (id (at 3 5) "Plain_P")) (at 3 12)) ∷ unit.OfBody (at 4 1) [] (package_body_of (at 4 1) (at 4 9) (id (at 4
    14) "Plain_P") None (at 4 22) (part.Completed (at 5 1) (subprogram_of (at 5 1) (subspec.Procedure (at 5 1) (id (at 5
    11) "Plain_Q") None) None (at 5 19) (initialized_of (id (at 5 22) "Plain_Y") [] (at 5 30) None (indication_of (mark
    (at 5 32) "Integer")) (at 5 40) (expr.LoneRelation (at 5 43) (rel.LoneSum (at 5 43) (sum.Unsigned (at 5 43) (term_of
    (at 5 43) (named (at 5 43) "Plain_P" (suffix.Selected (at 5 50) (id (at 5 51) "Plain_X") ∷ [])))
    (next_term.FurtherTerm (at 5 59) adding.Add (term_of (at 5 61) (primary.Number (at 5 61) 1)) ∷ [])))) (at 5 62) ∷
    []) (at 5 64) (sole (at 5 70) (assign_of (at 5 70) "Plain_Y" [] (at 5 78) (expr_of (at 5 81) (primary.Number (at 5
    81) 1)) (at 5 82))) (at 5 84) (Some (id (at 5 88) "Plain_Q")) (at 5 95)) ∷ part.Declared (at 5 97) (decl.OfItem (at
    5 97) (initialized_of (id (at 5 97) "Plain_X") [] (at 5 105) (Some (at 5 107)) (indication_of (mark (at 5 116)
    "Integer")) (at 5 124) (expr_of (at 5 127) (primary.Number (at 5 127) 3)) (at 5 128))) ∷ []) (at 6 1) (Some (id (at
    6 5) "Plain_P")) (at 6 12)) ∷ unit.OfSubprogram (at 7 1) (context.With (at 7 1) (selected (at 7 6) "Ada" (at 7 9)
    (at 7 10) "Text_IO") [] (at 7 17) ∷ use_context (use_of (at 7 19) None (selected (at 7 23) "Ada" (at 7 26) (at 7 27)
    "Text_IO") [] (at 7 34)) ∷ context.With (at 7 36) (selected (at 7 41) "Ada" (at 7 44) (at 7 45) "Integer_Text_IO")
    [] (at 7 60) ∷ use_context (use_of (at 7 62) None (selected (at 7 66) "Ada" (at 7 69) (at 7 70) "Integer_Text_IO")
    [] (at 7 85)) ∷ context.With (at 7 87) (selected (at 7 92) "Ada" (at 7 95) (at 7 96) "Unchecked_Deallocation") []
    (at 7 118) ∷ []) (subprogram_of (at 8 1) (subspec.Procedure (at 8 1) (id (at 8 11) "Main") None) None (at 8 16)
    (item.IncompleteType (at 9 1) (id (at 9 6) "Cell") (at 9 10) ∷ item.AccessType (at 10 1) (id (at 10 6) "List") (at
    10 11) (at 10 14) (mark (at 10 21) "Cell") (at 10 25) ∷ item.RecordType (at 11 1) (id (at 11 6) "Cell") (at 11 11)
    (at 11 14) (fields_of (id (at 11 21) "Value") [] (at 11 27) (mark (at 11 29) "Integer") (at 11 36)) (fields_of (id
    (at 11 38) "Next") [] (at 11 43) (mark (at 11 45) "List") (at 11 49) ∷ []) (at 11 51) (at 11 55) (at 11 61) ∷
    objects_of (id (at 12 1) "X") (next_id_of (at 12 2) (at 12 4) "Y" ∷ []) (at 12 6) None (indication_of (mark (at 12
    8) "List")) (at 12 12) ∷ initialized_of (id (at 13 1) "N") [] (at 13 3) None (indication_of (mark (at 13 5)
    "Integer")) (at 13 13) (expr_of (at 13 16) (primary.Number (at 13 16) 4)) (at 13 17) ∷ []) (at 14 1) (stmts.Sequence
    (at 15 1) (stmt.IfElse (at 15 1) (expr.LoneRelation (at 15 4) (rel.Compared (at 15 4) (sum_of (at 15 4) (object (at
    15 4) "N")) relational.Greater (at 15 6) (sum_of (at 15 8) (primary.Number (at 15 8) 3)))) (at 15 10) (sole (at 15
    15) (assign_of (at 15 15) "N" [] (at 15 17) (expr.LoneRelation (at 15 20) (rel.LoneSum (at 15 20) (sum.Unsigned (at
    15 20) (term_of (at 15 20) (object (at 15 20) "N")) (next_term.FurtherTerm (at 15 22) adding.Subtract (term_of (at
    15 24) (primary.Number (at 15 24) 1)) ∷ [])))) (at 15 25))) [] (at 15 27) (sole (at 15 32) (stmt.Null (at 15 32) (at
    15 36))) (at 15 38) (at 15 42) (at 15 44)) (assign_of (at 16 1) "Y" [] (at 16 3) (expr_of (at 16 6) (object (at 16
    6) "X")) (at 16 7) ∷ assign_of (at 16 9) "X" [] (at 16 11) (expr_of (at 16 14) (primary.Null (at 16 14))) (at 16 18)
    ∷ assign_of (at 17 1) "N" [] (at 17 3) (expr.LoneRelation (at 17 6) (rel.LoneSum (at 17 6) (sum.Unsigned (at 17 6)
    (term.Product (at 17 6) (factor_of (at 17 6) (object (at 17 6) "N")) (next_factor.FurtherFactor (at 17 8)
    multiplying.Multiply (factor_of (at 17 10) (primary.Number (at 17 10) 2)) ∷ [])) (next_term.FurtherTerm (at 17 12)
    adding.Add (term_of (at 17 14) (primary.Number (at 17 14) 1)) ∷ [])))) (at 17 15) ∷ [])) (at 18 1) (Some (id (at 18
    5) "Main")) (at 18 9)) ∷ []) ∷ [])
unfolding computes resolves
own_member_later_1 = refl

own_member_later_2 : IsFirstBrokenOf TooEarly (at1 2 39) ((unit.OfPackage (at 1 4) (context.With (at 1 4) (selected (at
    1 9) "Ada" (at 1 12) (at 1 13) "Text_IO") [] (at 1 20) ∷ use_context (use_of (at 1 22) None (selected (at 1 26)
    "Ada" (at 1 29) (at 1 30) "Text_IO") [] (at 1 37)) ∷ context.With (at 1 39) (selected (at 1 44) "Ada" (at 1 47) (at
    1 48) "Integer_Text_IO") [] (at 1 63) ∷ use_context (use_of (at 1 65) None (selected (at 1 69) "Ada" (at 1 72) (at 1
    73) "Integer_Text_IO") [] (at 1 88)) ∷ context.With (at 1 90) (selected (at 1 95) "Ada" (at 1 98) (at 1 99)
    "Unchecked_Deallocation") [] (at 1 121) ∷ []) (package_of (at 1 123) (id (at 1 131) "Quick_P") None (at 1 139)
    (decl.Subprogram (at 2 1) (subspec.Procedure (at 2 1) (id (at 2 11) "Quick_Q") None) None (at 2 18) ∷ []) None (at 3
    1) (Some (id (at 3 5) "Quick_P")) (at 3 12)) ∷ []) ∷ (unit.OfBody (at1 1 1) [] (package_body_of (at1 1 1) (at1 1 9)
    (id (at1 1 14) "Quick_P") None (at1 1 22) (part.Completed (at1 2 4) (subprogram_of (at1 2 4) (subspec.Procedure (at1
    2 4) (id (at1 2 14) "Quick_Q") None) None (at1 2 22) [] (at1 2 25) (sole (at1 2 31) (call_of (at1 2 31) "Quick_P"
    (suffix.Selected (at1 2 38) (id (at1 2 39) "Quick_R") ∷ []) (at1 2 46))) (at1 2 48) (Some (id (at1 2 52) "Quick_Q"))
    (at1 2 59)) ∷ part.Completed (at1 2 61) (subprogram_of (at1 2 61) (subspec.Procedure (at1 2 61) (id (at1 2 71)
    "Quick_R") None) None (at1 2 79) [] (at1 2 82) (sole (at1 2 88) (stmt.Null (at1 2 88) (at1 2 92))) (at1 2 94) (Some
    (id (at1 2 98) "Quick_R")) (at1 2 105)) ∷ []) (at1 3 4) (Some (id (at1 3 8) "Quick_P")) (at1 3 15)) ∷ []) ∷
    (unit.OfSubprogram (at2 1 1) (context.With (at2 1 1) (selected (at2 1 6) "Ada" (at2 1 9) (at2 1 10) "Text_IO") []
    (at2 1 17) ∷ use_context (use_of (at2 1 19) None (selected (at2 1 23) "Ada" (at2 1 26) (at2 1 27) "Text_IO") [] (at2
    1 34)) ∷ context.With (at2 1 36) (selected (at2 1 41) "Ada" (at2 1 44) (at2 1 45) "Integer_Text_IO") [] (at2 1 60) ∷
    use_context (use_of (at2 1 62) None (selected (at2 1 66) "Ada" (at2 1 69) (at2 1 70) "Integer_Text_IO") [] (at2 1
    85)) ∷ context.With (at2 1 87) (selected (at2 1 92) "Ada" (at2 1 95) (at2 1 96) "Unchecked_Deallocation") [] (at2 1
    118) ∷ []) (subprogram_of (at2 2 7) (subspec.Procedure (at2 2 7) (id (at2 2 17) "Main") None) None (at2 2 22)
    (item.IncompleteType (at2 3 1) (id (at2 3 6) "Cell") (at2 3 10) ∷ item.AccessType (at2 4 1) (id (at2 4 6) "List")
    (at2 4 11) (at2 4 14) (mark (at2 4 21) "Cell") (at2 4 25) ∷ item.RecordType (at2 5 1) (id (at2 5 6) "Cell") (at2 5
    11) (at2 5 14) (fields_of (id (at2 5 21) "Value") [] (at2 5 27) (mark (at2 5 29) "Integer") (at2 5 36)) (fields_of
    (id (at2 5 38) "Next") [] (at2 5 43) (mark (at2 5 45) "List") (at2 5 49) ∷ []) (at2 5 51) (at2 5 55) (at2 5 61) ∷
    objects_of (id (at2 6 7) "X") (next_id_of (at2 6 8) (at2 6 10) "Y" ∷ []) (at2 6 12) None (indication_of (mark (at2 6
    14) "List")) (at2 6 18) ∷ initialized_of (id (at2 7 1) "N") [] (at2 7 3) None (indication_of (mark (at2 7 5)
    "Integer")) (at2 7 13) (expr_of (at2 7 16) (primary.Number (at2 7 16) 0)) (at2 7 17) ∷ []) (at2 8 1) (stmts.Sequence
    (at2 9 4) (assign_of (at2 9 4) "Y" [] (at2 9 6) (expr_of (at2 9 9) (object (at2 9 9) "X")) (at2 9 10)) (assign_of
    (at2 9 12) "X" [] (at2 9 14) (expr_of (at2 9 17) (primary.Null (at2 9 17))) (at2 9 21) ∷ stmt.If (at2 10 4)
    (expr.LoneRelation (at2 10 7) (rel.LoneSum (at2 10 7) (sum.Unsigned (at2 10 7) (term.Product (at2 10 7) (factor.Not
    (at2 10 7) (object (at2 10 11) "End_Of_File")) []) []))) (at2 10 23) (sole (at2 10 28) (call_of (at2 10 28) "Get"
    (suffix.Applied (at2 10 32) (actual_of (at2 10 33) (object (at2 10 33) "N")) [] (at2 10 34) ∷ []) (at2 10 35))) []
    (at2 10 37) (at2 10 41) (at2 10 43) ∷ assign_of (at2 11 1) "N" [] (at2 11 3) (expr.LoneRelation (at2 11 6)
    (rel.LoneSum (at2 11 6) (sum.Unsigned (at2 11 6) (term.Product (at2 11 6) (factor_of (at2 11 6) (object (at2 11 6)
    "N")) (next_factor.FurtherFactor (at2 11 8) multiplying.Multiply (factor_of (at2 11 10) (primary.Number (at2 11 10)
    2)) ∷ [])) (next_term.FurtherTerm (at2 11 12) adding.Add (term_of (at2 11 14) (primary.Number (at2 11 14) 1)) ∷
    [])))) (at2 11 15) ∷ call_of (at2 12 1) "Put_Line" (suffix.Applied (at2 12 10) (actual_of (at2 12 11) (named (at2 12
    11) "Integer" (suffix.Attribute (at2 12 18) (id (at2 12 19) "Image") ∷ suffix.Applied (at2 12 25) (actual_of (at2 12
    26) (object (at2 12 26) "N")) [] (at2 12 27) ∷ []))) [] (at2 12 28) ∷ []) (at2 12 29) ∷ stmt.Case (at2 13 7)
    (expr_of (at2 13 12) (object (at2 13 12) "N")) (at2 13 14) (alternative.Alternative (at2 13 17) (choice.Value (at2
    13 22) (expr_of (at2 13 22) (primary.Number (at2 13 22) 1))) [] (at2 13 24) (sole (at2 13 27) (stmt.Null (at2 13 27)
    (at2 13 31)))) (alternative.Alternative (at2 13 33) (choice.Others (at2 13 38)) [] (at2 13 45) (sole (at2 13 48)
    (assign_of (at2 13 48) "N" [] (at2 13 50) (expr_of (at2 13 53) (primary.Number (at2 13 53) 2)) (at2 13 54))) ∷ [])
    (at2 13 56) (at2 13 60) (at2 13 64) ∷ [])) (at2 14 4) (Some (id (at2 14 8) "Main")) (at2 14 12)) ∷ []) ∷ [])
unfolding computes resolves
own_member_later_2 = refl

own_member_later_3 : IsFirstBrokenOf TooEarly (at 5 36) ((unit.OfPackage (at 1 4) (context.With (at 1 4) (selected (at 1
    9) "Ada" (at 1 12) (at 1 13) "Text_IO") [] (at 1 20) ∷ use_context (use_of (at 1 22) None (selected (at 1 26) "Ada"
    (at 1 29) (at 1 30) "Text_IO") [] (at 1 37)) ∷ context.With (at 1 39) (selected (at 1 44) "Ada" (at 1 47) (at 1 48)
    "Integer_Text_IO") [] (at 1 63) ∷ use_context (use_of (at 1 65) None (selected (at 1 69) "Ada" (at 1 72) (at 1 73)
    "Integer_Text_IO") [] (at 1 88)) ∷ context.With (at 1 90) (selected (at 1 95) "Ada" (at 1 98) (at 1 99)
    "Unchecked_Deallocation") [] (at 1 121) ∷ []) (package_of (at 1 123) (id (at 1 131) "Extra_P") None (at 1 139)
    (decl.Subprogram (at 2 4) (subspec.Procedure (at 2 4) (id (at 2 14) "Extra_Q") None) None (at 2 21) ∷ []) None (at 3
    4) (Some (id (at 3 8) "Extra_P")) (at 3 15)) ∷ unit.OfBody (at 4 7) [] (package_body_of (at 4 7) (at 4 15) (id (at 4
    20) "Extra_P") None (at 4 28) (part.Completed (at 5 1) (subprogram_of (at 5 1) (subspec.Procedure (at 5 1) (id (at 5
    11) "Extra_Q") None) None (at 5 19) [] (at 5 22) (sole (at 5 28) (assign_of (at 5 28) "Extra_P" (suffix.Selected (at
    5 35) (id (at 5 36) "Extra_X") ∷ []) (at 5 44) (expr_of (at 5 47) (primary.Number (at 5 47) 1)) (at 5 48))) (at 5
    50) (Some (id (at 5 54) "Extra_Q")) (at 5 61)) ∷ part.Declared (at 5 63) (decl.OfItem (at 5 63) (objects_of (id (at
    5 63) "Extra_X") [] (at 5 71) None (indication_of (mark (at 5 73) "Integer")) (at 5 80))) ∷ []) (at 6 1) (Some (id
    (at 6 5) "Extra_P")) (at 6 12)) ∷ unit.OfSubprogram (at 7 4) (context.With (at 7 4) (selected (at 7 9) "Ada" (at 7
    12) (at 7 13) "Text_IO") [] (at 7 20) ∷ use_context (use_of (at 7 22) None (selected (at 7 26) "Ada" (at 7 29) (at 7
    30) "Text_IO") [] (at 7 37)) ∷ context.With (at 7 39) (selected (at 7 44) "Ada" (at 7 47) (at 7 48)
    "Integer_Text_IO") [] (at 7 63) ∷ use_context (use_of (at 7 65) None (selected (at 7 69) "Ada" (at 7 72) (at 7 73)
    "Integer_Text_IO") [] (at 7 88)) ∷ context.With (at 7 90) (selected (at 7 95) "Ada" (at 7 98) (at 7 99)
    "Unchecked_Deallocation") [] (at 7 121) ∷ []) (subprogram_of (at 8 1) (subspec.Procedure (at 8 1) (id (at 8 11)
    "Main") None) None (at 8 16) (item.IncompleteType (at 9 4) (id (at 9 9) "Cell") (at 9 13) ∷ item.AccessType (at 10
    1) (id (at 10 6) "List") (at 10 11) (at 10 14) (mark (at 10 21) "Cell") (at 10 25) ∷ item.RecordType (at 11 7) (id
    (at 11 12) "Cell") (at 11 17) (at 11 20) (fields_of (id (at 11 27) "Value") [] (at 11 33) (mark (at 11 35)
    "Integer") (at 11 42)) (fields_of (id (at 11 44) "Next") [] (at 11 49) (mark (at 11 51) "List") (at 11 55) ∷ []) (at
    11 57) (at 11 61) (at 11 67) ∷ objects_of (id (at 12 4) "X") (next_id_of (at 12 5) (at 12 7) "Y" ∷ []) (at 12 9)
    None (indication_of (mark (at 12 11) "List")) (at 12 15) ∷ initialized_of (id (at 13 7) "N") [] (at 13 9) None
    (indication_of (mark (at 13 11) "Integer")) (at 13 19) (expr_of (at 13 22) (primary.Number (at 13 22) 5)) (at 13 23)
    ∷ item.Instance (at 14 1) (id (at 14 11) "Free") (at 14 16) (at 14 19) (selected (at 14 23) "Ada" (at 14 26) (at 14
    27) "Unchecked_Deallocation") (at 14 50) (actual_of (at 14 51) (object (at 14 51) "Cell")) (next_arg.FurtherArg (at
    14 55) (actual_of (at 14 57) (object (at 14 57) "List")) ∷ []) (at 14 61) (at 14 62) ∷ []) (at 15 1) (stmts.Sequence
    (at 16 1) (stmt.IfElse (at 16 1) (expr.LoneRelation (at 16 4) (rel.Compared (at 16 4) (sum_of (at 16 4) (object (at
    16 4) "N")) relational.Greater (at 16 6) (sum_of (at 16 8) (primary.Number (at 16 8) 3)))) (at 16 10) (sole (at 16
    15) (assign_of (at 16 15) "N" [] (at 16 17) (expr.LoneRelation (at 16 20) (rel.LoneSum (at 16 20) (sum.Unsigned (at
    16 20) (term_of (at 16 20) (object (at 16 20) "N")) (next_term.FurtherTerm (at 16 22) adding.Subtract (term_of (at
    16 24) (primary.Number (at 16 24) 1)) ∷ [])))) (at 16 25))) [] (at 16 27) (sole (at 16 32) (stmt.Null (at 16 32) (at
    16 36))) (at 16 38) (at 16 42) (at 16 44)) (stmt.DeclareBlock (at 17 7) (initialized_of (id (at 17 15) "B") [] (at
    17 17) None (indication.Anonymous (at 17 19) None (mark (at 17 26) "Cell")) (at 17 31) (expr_of (at 17 34) (object
    (at 17 34) "X")) (at 17 35) ∷ []) (at 17 37) (sole (at 17 43) (stmt.If (at 17 43) (expr.LoneRelation (at 17 46)
    (rel.Compared (at 17 46) (sum_of (at 17 46) (object (at 17 46) "B")) relational.NotEqual (at 17 48) (sum_of (at 17
    51) (primary.Null (at 17 51))))) (at 17 56) (sole (at 17 61) (assign_of (at 17 61) "B" (suffix.Selected (at 17 62)
    (id (at 17 63) "Value") ∷ []) (at 17 69) (expr_of (at 17 72) (object (at 17 72) "N")) (at 17 73))) [] (at 17 75) (at
    17 79) (at 17 81))) (at 17 83) (at 17 86) ∷ stmt.If (at 18 7) (expr.LoneRelation (at 18 10) (rel.LoneSum (at 18 10)
    (sum.Unsigned (at 18 10) (term.Product (at 18 10) (factor.Not (at 18 10) (object (at 18 14) "End_Of_File")) [])
    []))) (at 18 26) (sole (at 18 31) (call_of (at 18 31) "Get" (suffix.Applied (at 18 35) (actual_of (at 18 36) (object
    (at 18 36) "N")) [] (at 18 37) ∷ []) (at 18 38))) [] (at 18 40) (at 18 44) (at 18 46) ∷ [])) (at 19 4) (Some (id (at
    19 8) "Main")) (at 19 12)) ∷ []) ∷ [])
unfolding computes resolves
own_member_later_3 = refl
