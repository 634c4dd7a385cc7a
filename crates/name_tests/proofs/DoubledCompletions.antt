-- A second body or full type completes nothing: N2.
--
-- tools/tree_terms.py makes this of the sources that data/cases.txt has under its name.
use Rattle.std.proofs.Common.{refl, [], ◌∷◌}
use Rattle.std.specs.Prelude.{None, Some}
use Rattle.ada_tree.specs.declared.operator.AddingOperator.TheVariants as adding
use Rattle.ada_tree.specs.declared.expression.Aggregate.TheVariants as aggregate
use Rattle.ada_tree.specs.declared.statement.When.TheVariants as alternative
use Rattle.ada_tree.specs.declared.range.Choice.TheVariants as choice
use Rattle.ada_tree.specs.declared.unit.Context.TheVariants as context
use Rattle.ada_tree.specs.declared.subprogram.Decl.TheVariants as decl
use Rattle.ada_tree.specs.declared.expression.Expr.TheVariants as expr
use Rattle.ada_tree.specs.declared.expression.Factor.TheVariants as factor
use Rattle.ada_tree.specs.declared.declaration.Indication.TheVariants as indication
use Rattle.ada_tree.specs.declared.declaration.Item.TheVariants as item
use Rattle.ada_tree.specs.declared.operator.MultiplyingOperator.TheVariants as multiplying
use Rattle.ada_tree.specs.declared.expression.NextArg.TheVariants as next_arg
use Rattle.ada_tree.specs.declared.expression.NextFactor.TheVariants as next_factor
use Rattle.ada_tree.specs.declared.subprogram.NextFormal.TheVariants as next_formal
use Rattle.ada_tree.specs.declared.expression.NextTerm.TheVariants as next_term
use Rattle.ada_tree.specs.declared.unit.BodyPart.TheVariants as part
use Rattle.ada_tree.specs.declared.expression.Primary.TheVariants as primary
use Rattle.ada_tree.specs.declared.range.Range.TheVariants as range
use Rattle.ada_tree.specs.declared.expression.Rel.TheVariants as rel
use Rattle.ada_tree.specs.declared.operator.RelationalOperator.TheVariants as relational
use Rattle.ada_tree.specs.declared.expression.ShortOperand.TheVariants as short_operand
use Rattle.ada_tree.specs.declared.operator.Sign.TheVariants as sign
use Rattle.ada_tree.specs.declared.statement.Stmt.TheVariants as stmt
use Rattle.ada_tree.specs.declared.statement.Stmts.TheVariants as stmts
use Rattle.ada_tree.specs.declared.subprogram.Subspec.TheVariants as subspec
use Rattle.ada_tree.specs.declared.expression.Suffix.TheVariants as suffix
use Rattle.ada_tree.specs.declared.expression.Sum.TheVariants as sum
use Rattle.ada_tree.specs.declared.expression.Term.TheVariants as term
use Rattle.ada_tree.specs.declared.unit.SourceUnit.TheVariants as unit
use Rattle.ada_grammar.proofs.SmallSources.{computes}
use Rattle.name_events.specs.declared.declaration.NameRule.TheVariants.{Twice}
use Rattle.name_tests.proofs.SmallRules.{resolves}
use Rattle.name_tests.proofs.SourceTrees.{IsFirstBrokenOf, actual_of, assign_of, at, at1, at2, call_of, expr_of, factor_of, fields_of, formals_of, id, indication_of, initialized_of, mark, moded_of, named, next_id_of, numbers_of, object, objects_of, package_body_of, package_of, private_part, selected, sole, subprogram_of, sum_of, term_of, use_context, use_of}

second_completion_1 : IsFirstBrokenOf Twice (at 1 94) ((unit.OfPackage (at 1 1) [] (package_of (at 1 1) (id (at 1 9)
    "Extra_P") None (at 1 17) (decl.OfItem (at 1 20) (item.PrivateType (at 1 20) (id (at 1 25) "Extra_T") (at 1 33) (at
    1 36) (at 1 43)) ∷ []) (Some (private_part (at 1 45) (decl.OfItem (at 1 53) (item.EnumerationType (at 1 53) (id (at
    1 58) "Extra_T") (at 1 66) (at 1 69) (id (at 1 70) "Extra_A") (next_id_of (at 1 77) (at 1 79) "Extra_B" ∷ []) (at 1
    86) (at 1 87)) ∷ decl.OfItem (at 1 89) (item.EnumerationType (at 1 89) (id (at 1 94) "Extra_T") (at 1 102) (at 1
    105) (id (at 1 106) "Extra_C") (next_id_of (at 1 113) (at 1 115) "Extra_D" ∷ []) (at 1 122) (at 1 123)) ∷ []))) (at
    1 125) (Some (id (at 1 129) "Extra_P")) (at 1 136)) ∷ unit.OfSubprogram (at 2 1) (context.With (at 2 1) (selected
    (at 2 6) "Ada" (at 2 9) (at 2 10) "Text_IO") [] (at 2 17) ∷ use_context (use_of (at 2 19) None (selected (at 2 23)
    "Ada" (at 2 26) (at 2 27) "Text_IO") [] (at 2 34)) ∷ context.With (at 2 36) (selected (at 2 41) "Ada" (at 2 44) (at
    2 45) "Integer_Text_IO") [] (at 2 60) ∷ use_context (use_of (at 2 62) None (selected (at 2 66) "Ada" (at 2 69) (at 2
    70) "Integer_Text_IO") [] (at 2 85)) ∷ context.With (at 2 87) (selected (at 2 92) "Ada" (at 2 95) (at 2 96)
    "Unchecked_Deallocation") [] (at 2 118) ∷ []) (subprogram_of (at 3 1) (subspec.Procedure (at 3 1) (id (at 3 11)
    "Main") None) None (at 3 16) (item.IncompleteType (at 4 1) (id (at 4 6) "Cell") (at 4 10) ∷ item.AccessType (at 5 1)
    (id (at 5 6) "List") (at 5 11) (at 5 14) (mark (at 5 21) "Cell") (at 5 25) ∷ item.RecordType (at 6 1) (id (at 6 6)
    "Cell") (at 6 11) (at 6 14) (fields_of (id (at 6 21) "Value") [] (at 6 27) (mark (at 6 29) "Integer") (at 6 36))
    (fields_of (id (at 6 38) "Next") [] (at 6 43) (mark (at 6 45) "List") (at 6 49) ∷ []) (at 6 51) (at 6 55) (at 6 61)
    ∷ objects_of (id (at 7 1) "X") (next_id_of (at 7 2) (at 7 4) "Y" ∷ []) (at 7 6) None (indication_of (mark (at 7 8)
    "List")) (at 7 12) ∷ initialized_of (id (at 8 1) "N") [] (at 8 3) None (indication_of (mark (at 8 5) "Integer")) (at
    8 13) (expr_of (at 8 16) (primary.Number (at 8 16) 6)) (at 8 17) ∷ []) (at 9 1) (stmts.Sequence (at 10 1) (assign_of
    (at 10 1) "X" [] (at 10 3) (expr_of (at 10 6) (primary.AllocatedAggregate (at 10 6) (mark (at 10 10) "Cell") (at 10
    14) (aggregate.Several (at 10 15) (actual_of (at 10 16) (object (at 10 16) "N")) (at 10 17) (actual_of (at 10 19)
    (primary.Null (at 10 19))) [] (at 10 23)))) (at 10 24)) (assign_of (at 11 1) "N" [] (at 11 3) (expr.LoneRelation (at
    11 6) (rel.LoneSum (at 11 6) (sum.Unsigned (at 11 6) (term.Product (at 11 6) (factor_of (at 11 6) (object (at 11 6)
    "N")) (next_factor.FurtherFactor (at 11 8) multiplying.Multiply (factor_of (at 11 10) (primary.Number (at 11 10) 2))
    ∷ [])) (next_term.FurtherTerm (at 11 12) adding.Add (term_of (at 11 14) (primary.Number (at 11 14) 1)) ∷ [])))) (at
    11 15) ∷ stmt.For (at 12 1) (id (at 12 5) "I") (at 12 7) None (range.Bounds (at 12 10) (expr_of (at 12 10)
    (primary.Number (at 12 10) 1)) (at 12 12) (expr_of (at 12 15) (primary.Number (at 12 15) 3))) (at 12 17) (sole (at
    12 22) (assign_of (at 12 22) "N" [] (at 12 24) (expr.LoneRelation (at 12 27) (rel.LoneSum (at 12 27) (sum.Unsigned
    (at 12 27) (term_of (at 12 27) (object (at 12 27) "N")) (next_term.FurtherTerm (at 12 29) adding.Add (term_of (at 12
    31) (object (at 12 31) "I")) ∷ [])))) (at 12 32))) (at 12 34) (at 12 38) (at 12 42) ∷ [])) (at 13 1) (Some (id (at
    13 5) "Main")) (at 13 9)) ∷ []) ∷ [])
unfolding computes resolves
second_completion_1 = refl

second_completion_2 : IsFirstBrokenOf Twice (at2 2 57) ((unit.OfSubprogram (at 1 1) (context.With (at 1 1) (selected (at
    1 6) "Ada" (at 1 9) (at 1 10) "Text_IO") [] (at 1 17) ∷ use_context (use_of (at 1 19) None (selected (at 1 23) "Ada"
    (at 1 26) (at 1 27) "Text_IO") [] (at 1 34)) ∷ context.With (at 1 36) (selected (at 1 41) "Ada" (at 1 44) (at 1 45)
    "Integer_Text_IO") [] (at 1 60) ∷ use_context (use_of (at 1 62) None (selected (at 1 66) "Ada" (at 1 69) (at 1 70)
    "Integer_Text_IO") [] (at 1 85)) ∷ context.With (at 1 87) (selected (at 1 92) "Ada" (at 1 95) (at 1 96)
    "Unchecked_Deallocation") [] (at 1 118) ∷ []) (subprogram_of (at 2 1) (subspec.Procedure (at 2 1) (id (at 2 11)
    "Main") None) None (at 2 16) (item.IncompleteType (at 3 1) (id (at 3 6) "Cell") (at 3 10) ∷ item.AccessType (at 4 1)
    (id (at 4 6) "List") (at 4 11) (at 4 14) (mark (at 4 21) "Cell") (at 4 25) ∷ item.RecordType (at 5 1) (id (at 5 6)
    "Cell") (at 5 11) (at 5 14) (fields_of (id (at 5 21) "Value") [] (at 5 27) (mark (at 5 29) "Integer") (at 5 36))
    (fields_of (id (at 5 38) "Next") [] (at 5 43) (mark (at 5 45) "List") (at 5 49) ∷ []) (at 5 51) (at 5 55) (at 5 61)
    ∷ objects_of (id (at 6 1) "X") (next_id_of (at 6 2) (at 6 4) "Y" ∷ []) (at 6 6) None (indication_of (mark (at 6 8)
    "List")) (at 6 12) ∷ initialized_of (id (at 7 1) "N") [] (at 7 3) None (indication_of (mark (at 7 5) "Integer")) (at
    7 13) (expr_of (at 7 16) (primary.Number (at 7 16) 4)) (at 7 17) ∷ item.Instance (at 8 1) (id (at 8 11) "Free") (at
    8 16) (at 8 19) (selected (at 8 23) "Ada" (at 8 26) (at 8 27) "Unchecked_Deallocation") (at 8 50) (actual_of (at 8
    51) (object (at 8 51) "Cell")) (next_arg.FurtherArg (at 8 55) (actual_of (at 8 57) (object (at 8 57) "List")) ∷ [])
    (at 8 61) (at 8 62) ∷ []) (at 9 1) (stmts.Sequence (at 10 1) (call_of (at 10 1) "Put_Line" (suffix.Applied (at 10
    10) (actual_of (at 10 11) (named (at 10 11) "Integer" (suffix.Attribute (at 10 18) (id (at 10 19) "Image") ∷
    suffix.Applied (at 10 25) (actual_of (at 10 26) (object (at 10 26) "N")) [] (at 10 27) ∷ []))) [] (at 10 28) ∷ [])
    (at 10 29)) (stmt.If (at 11 1) (expr.LoneRelation (at 11 4) (rel.LoneSum (at 11 4) (sum.Unsigned (at 11 4)
    (term.Product (at 11 4) (factor.Not (at 11 4) (object (at 11 8) "End_Of_File")) []) []))) (at 11 20) (sole (at 11
    25) (call_of (at 11 25) "Get" (suffix.Applied (at 11 29) (actual_of (at 11 30) (object (at 11 30) "N")) [] (at 11
    31) ∷ []) (at 11 32))) [] (at 11 34) (at 11 38) (at 11 40) ∷ [])) (at 12 1) (Some (id (at 12 5) "Main")) (at 12 9))
    ∷ []) ∷ (unit.OfPackage (at1 1 1) (context.With (at1 1 1) (selected (at1 1 6) "Ada" (at1 1 9) (at1 1 10) "Text_IO")
    [] (at1 1 17) ∷ use_context (use_of (at1 1 19) None (selected (at1 1 23) "Ada" (at1 1 26) (at1 1 27) "Text_IO") []
    (at1 1 34)) ∷ context.With (at1 1 36) (selected (at1 1 41) "Ada" (at1 1 44) (at1 1 45) "Integer_Text_IO") [] (at1 1
    60) ∷ use_context (use_of (at1 1 62) None (selected (at1 1 66) "Ada" (at1 1 69) (at1 1 70) "Integer_Text_IO") []
    (at1 1 85)) ∷ context.With (at1 1 87) (selected (at1 1 92) "Ada" (at1 1 95) (at1 1 96) "Unchecked_Deallocation") []
    (at1 1 118) ∷ []) (package_of (at1 1 120) (id (at1 1 128) "Spare_P") None (at1 1 136) (decl.Subprogram (at1 2 1)
    (subspec.Procedure (at1 2 1) (id (at1 2 11) "Spare_Q") None) None (at1 2 18) ∷ []) None (at1 3 1) (Some (id (at1 3
    5) "Spare_P")) (at1 3 12)) ∷ []) ∷ (unit.OfBody (at2 1 1) [] (package_body_of (at2 1 1) (at2 1 9) (id (at2 1 14)
    "Spare_P") None (at2 1 22) (part.Completed (at2 2 1) (subprogram_of (at2 2 1) (subspec.Procedure (at2 2 1) (id (at2
    2 11) "Spare_Q") None) None (at2 2 19) [] (at2 2 22) (sole (at2 2 28) (stmt.Null (at2 2 28) (at2 2 32))) (at2 2 34)
    (Some (id (at2 2 38) "Spare_Q")) (at2 2 45)) ∷ part.Completed (at2 2 47) (subprogram_of (at2 2 47)
    (subspec.Procedure (at2 2 47) (id (at2 2 57) "Spare_Q") None) None (at2 2 65) [] (at2 2 68) (sole (at2 2 74)
    (stmt.Null (at2 2 74) (at2 2 78))) (at2 2 80) (Some (id (at2 2 84) "Spare_Q")) (at2 2 91)) ∷ []) (at2 3 1) (Some (id
    (at2 3 5) "Spare_P")) (at2 3 12)) ∷ []) ∷ [])
unfolding computes resolves
second_completion_2 = refl

second_completion_3 : IsFirstBrokenOf Twice (at 5 65) ((unit.OfPackage (at 1 7) (context.With (at 1 7) (selected (at 1
    12) "Ada" (at 1 15) (at 1 16) "Text_IO") [] (at 1 23) ∷ use_context (use_of (at 1 25) None (selected (at 1 29) "Ada"
    (at 1 32) (at 1 33) "Text_IO") [] (at 1 40)) ∷ context.With (at 1 42) (selected (at 1 47) "ada" (at 1 50) (at 1 51)
    "Integer_Text_IO") [] (at 1 66) ∷ use_context (use_of (at 1 68) None (selected (at 1 72) "Ada" (at 1 75) (at 1 76)
    "Integer_Text_IO") [] (at 1 91)) ∷ context.With (at 1 93) (selected (at 1 98) "Ada" (at 1 101) (at 1 102)
    "UNCHECKED_DEALLOCATION") [] (at 1 124) ∷ []) (package_of (at 1 126) (id (at 1 134) "Former_P") None (at 1 143)
    (decl.Subprogram (at 2 1) (subspec.Procedure (at 2 1) (id (at 2 11) "Former_Q") None) None (at 2 19) ∷ decl.OfItem
    (at 2 21) (objects_of (id (at 2 21) "Former_X") [] (at 2 30) None (indication_of (mark (at 2 32) "Integer")) (at 2
    39)) ∷ []) None (at 3 4) (Some (id (at 3 8) "Former_P")) (at 3 16)) ∷ unit.OfBody (at 4 7) [] (package_body_of (at 4
    7) (at 4 15) (id (at 4 20) "Former_P") None (at 4 29) (part.Completed (at 5 7) (subprogram_of (at 5 7)
    (subspec.Procedure (at 5 7) (id (at 5 17) "Former_Q") None) None (at 5 26) [] (at 5 29) (sole (at 5 35) (stmt.Null
    (at 5 35) (at 5 39))) (at 5 41) (Some (id (at 5 45) "FORMER_Q")) (at 5 53)) ∷ part.Completed (at 5 55)
    (subprogram_of (at 5 55) (subspec.Procedure (at 5 55) (id (at 5 65) "Former_X") None) None (at 5 74) [] (at 5 77)
    (sole (at 5 83) (stmt.Null (at 5 83) (at 5 87))) (at 5 89) (Some (id (at 5 93) "Former_X")) (at 5 101)) ∷ []) (at 6
    1) (Some (id (at 6 5) "Former_P")) (at 6 13)) ∷ unit.OfPackage (at 7 1) (context.With (at 7 1) (selected (at 7 6)
    "Ada" (at 7 9) (at 7 10) "Text_IO") [] (at 7 17) ∷ use_context (use_of (at 7 19) None (selected (at 7 23) "Ada" (at
    7 26) (at 7 27) "Text_IO") [] (at 7 34)) ∷ context.With (at 7 36) (selected (at 7 41) "Ada" (at 7 44) (at 7 45)
    "Integer_Text_IO") [] (at 7 60) ∷ use_context (use_of (at 7 62) None (selected (at 7 66) "Ada" (at 7 69) (at 7 70)
    "Integer_Text_IO") [] (at 7 85)) ∷ context.With (at 7 87) (selected (at 7 92) "Ada" (at 7 95) (at 7 96)
    "unchecked_deallocation") [] (at 7 118) ∷ []) (package_of (at 8 4) (id (at 8 12) "Store") None (at 8 18)
    (decl.OfItem (at 9 7) (item.IncompleteType (at 9 7) (id (at 9 12) "Cell") (at 9 16)) ∷ decl.OfItem (at 10 7)
    (item.AccessType (at 10 7) (id (at 10 12) "List") (at 10 17) (at 10 20) (mark (at 10 27) "Cell") (at 10 31)) ∷
    decl.OfItem (at 11 1) (item.RecordType (at 11 1) (id (at 11 6) "cell") (at 11 11) (at 11 14) (fields_of (id (at 11
    21) "vALUE") [] (at 11 27) (mark (at 11 29) "Integer") (at 11 36)) (fields_of (id (at 11 38) "nEXT") [] (at 11 43)
    (mark (at 11 45) "List") (at 11 49) ∷ []) (at 11 51) (at 11 55) (at 11 61)) ∷ decl.Subprogram (at 12 7)
    (subspec.Procedure (at 12 7) (id (at 12 17) "Push") (Some (formals_of (at 12 22) (moded_of (id (at 12 23) "L") []
    (at 12 25) (Some (at 12 27)) (Some (at 12 30)) (mark (at 12 34) "List")) (next_formal.Semicolon (at 12 38) (moded_of
    (id (at 12 40) "V") [] (at 12 42) None None (mark (at 12 44) "Integer")) ∷ []) (at 12 51)))) None (at 12 52) ∷
    decl.Subprogram (at 13 7) (subspec.Function (at 13 7) (id (at 13 16) "Sum") (Some (formals_of (at 13 20) (moded_of
    (id (at 13 21) "L") [] (at 13 23) None None (mark (at 13 25) "List")) [] (at 13 29))) (at 13 31) (indication_of
    (mark (at 13 38) "Integer"))) None (at 13 45) ∷ decl.OfItem (at 14 1) (objects_of (id (at 14 1) "Total") [] (at 14
    7) None (indication_of (mark (at 14 9) "Integer")) (at 14 16)) ∷ []) None (at 15 7) (Some (id (at 15 11) "STORE"))
    (at 15 16)) ∷ unit.OfBody (at 16 7) [] (package_body_of (at 16 7) (at 16 15) (id (at 16 20) "Store") None (at 16 26)
    (part.Completed (at 17 7) (subprogram_of (at 17 7) (subspec.Procedure (at 17 7) (id (at 17 17) "Push") (Some
    (formals_of (at 17 22) (moded_of (id (at 17 23) "L") [] (at 17 25) (Some (at 17 27)) (Some (at 17 30)) (mark (at 17
    34) "LIST")) (next_formal.Semicolon (at 17 38) (moded_of (id (at 17 40) "V") [] (at 17 42) None None (mark (at 17
    44) "Integer")) ∷ []) (at 17 51)))) None (at 17 53) [] (at 18 1) (sole (at 19 1) (assign_of (at 19 1) "L" [] (at 19
    3) (expr_of (at 19 6) (primary.AllocatedAggregate (at 19 6) (mark (at 19 10) "Cell") (at 19 14) (aggregate.Several
    (at 19 15) (actual_of (at 19 16) (object (at 19 16) "V")) (at 19 17) (actual_of (at 19 19) (object (at 19 19) "l"))
    [] (at 19 20)))) (at 19 21))) (at 20 1) (Some (id (at 20 5) "push")) (at 20 9)) ∷ part.Completed (at 21 1)
    (subprogram_of (at 21 1) (subspec.Function (at 21 1) (id (at 21 10) "Sum") (Some (formals_of (at 21 14) (moded_of
    (id (at 21 15) "L") [] (at 21 17) None None (mark (at 21 19) "List")) [] (at 21 23))) (at 21 25) (indication_of
    (mark (at 21 32) "Integer"))) None (at 21 40) (initialized_of (id (at 22 7) "C") [] (at 22 9) None
    (indication.Anonymous (at 22 11) (Some (at 22 18)) (mark (at 22 27) "Cell")) (at 22 32) (expr_of (at 22 35) (object
    (at 22 35) "L")) (at 22 36) ∷ initialized_of (id (at 23 1) "N") [] (at 23 3) None (indication_of (mark (at 23 5)
    "iNTEGER")) (at 23 13) (expr_of (at 23 16) (primary.Number (at 23 16) 0)) (at 23 17) ∷ []) (at 24 4) (stmts.Sequence
    (at 25 1) (stmt.While (at 25 1) (expr.LoneRelation (at 25 7) (rel.Compared (at 25 7) (sum_of (at 25 7) (object (at
    25 7) "C")) relational.NotEqual (at 25 9) (sum_of (at 25 12) (primary.Null (at 25 12))))) (at 25 17) (stmts.Sequence
    (at 25 22) (assign_of (at 25 22) "N" [] (at 25 24) (expr.LoneRelation (at 25 27) (rel.LoneSum (at 25 27)
    (sum.Unsigned (at 25 27) (term_of (at 25 27) (object (at 25 27) "N")) (next_term.FurtherTerm (at 25 29) adding.Add
    (term_of (at 25 31) (named (at 25 31) "c" (suffix.Selected (at 25 32) (id (at 25 33) "Value") ∷ []))) ∷ [])))) (at
    25 38)) (assign_of (at 25 40) "C" [] (at 25 42) (expr_of (at 25 45) (named (at 25 45) "c" (suffix.Selected (at 25
    46) (id (at 25 47) "nEXT") ∷ []))) (at 25 51) ∷ [])) (at 25 53) (at 25 57) (at 25 61)) (stmt.ReturnValue (at 26 4)
    (expr_of (at 26 11) (object (at 26 11) "n")) (at 26 12) ∷ [])) (at 27 1) (Some (id (at 27 5) "sUM")) (at 27 8)) ∷
    []) (at 28 7) (Some (id (at 28 11) "Store")) (at 28 16)) ∷ unit.OfSubprogram (at 29 7) (context.With (at 29 7)
    (selected (at 29 12) "Ada" (at 29 15) (at 29 16) "Text_IO") [] (at 29 23) ∷ use_context (use_of (at 29 25) None
    (selected (at 29 29) "Ada" (at 29 32) (at 29 33) "Text_IO") [] (at 29 40)) ∷ context.With (at 29 42) (selected (at
    29 47) "Ada" (at 29 50) (at 29 51) "INTEGER_TEXT_IO") [] (at 29 66) ∷ use_context (use_of (at 29 68) None (selected
    (at 29 72) "Ada" (at 29 75) (at 29 76) "Integer_Text_IO") [] (at 29 91)) ∷ context.With (at 29 93) (selected (at 29
    98) "Ada" (at 29 101) (at 29 102) "Unchecked_Deallocation") [] (at 29 124) ∷ context.With (at 29 126) (mark (at 29
    131) "Store") [] (at 29 136) ∷ use_context (use_of (at 29 138) None (mark (at 29 142) "Store") [] (at 29 147)) ∷ [])
    (subprogram_of (at 30 4) (subspec.Procedure (at 30 4) (id (at 30 14) "Main") None) None (at 30 19) (objects_of (id
    (at 31 1) "x") (next_id_of (at 31 2) (at 31 4) "Y" ∷ []) (at 31 6) None (indication_of (mark (at 31 8) "LIST")) (at
    31 12) ∷ initialized_of (id (at 32 1) "N") [] (at 32 3) None (indication_of (mark (at 32 5) "Integer")) (at 32 13)
    (expr_of (at 32 16) (primary.Number (at 32 16) 6)) (at 32 17) ∷ []) (at 33 1) (stmts.Sequence (at 34 1) (call_of (at
    34 1) "Push" (suffix.Applied (at 34 6) (actual_of (at 34 7) (object (at 34 7) "X")) (next_arg.FurtherArg (at 34 8)
    (actual_of (at 34 10) (object (at 34 10) "N")) ∷ []) (at 34 11) ∷ []) (at 34 12)) (assign_of (at 35 4) "X" [] (at 35
    6) (expr_of (at 35 9) (primary.AllocatedAggregate (at 35 9) (mark (at 35 13) "cell") (at 35 17) (aggregate.Several
    (at 35 18) (actual_of (at 35 19) (object (at 35 19) "N")) (at 35 20) (actual_of (at 35 22) (primary.Null (at 35
    22))) [] (at 35 26)))) (at 35 27) ∷ stmt.While (at 36 4) (expr.LoneRelation (at 36 10) (rel.Compared (at 36 10)
    (sum_of (at 36 10) (object (at 36 10) "N")) relational.Greater (at 36 12) (sum_of (at 36 14) (primary.Number (at 36
    14) 5)))) (at 36 16) (sole (at 36 21) (assign_of (at 36 21) "N" [] (at 36 23) (expr.LoneRelation (at 36 26)
    (rel.LoneSum (at 36 26) (sum.Unsigned (at 36 26) (term.Product (at 36 26) (factor_of (at 36 26) (object (at 36 26)
    "N")) (next_factor.FurtherFactor (at 36 28) multiplying.Divide (factor_of (at 36 30) (primary.Number (at 36 30) 2))
    ∷ [])) []))) (at 36 31))) (at 36 33) (at 36 37) (at 36 41) ∷ [])) (at 37 7) (Some (id (at 37 11) "mAIN")) (at 37
    15)) ∷ []) ∷ [])
unfolding computes resolves
second_completion_3 = refl

second_completion_4 : IsFirstBrokenOf Twice (at 1 233) ((unit.OfPackage (at 1 1) (context.With (at 1 1) (selected (at 1
    6) "Ada" (at 1 9) (at 1 10) "Text_IO") [] (at 1 17) ∷ use_context (use_of (at 1 19) None (selected (at 1 23) "Ada"
    (at 1 26) (at 1 27) "Text_IO") [] (at 1 34)) ∷ context.With (at 1 36) (selected (at 1 41) "Ada" (at 1 44) (at 1 45)
    "Integer_Text_IO") [] (at 1 60) ∷ use_context (use_of (at 1 62) None (selected (at 1 66) "Ada" (at 1 69) (at 1 70)
    "Integer_Text_IO") [] (at 1 85)) ∷ context.With (at 1 87) (selected (at 1 92) "ADA" (at 1 95) (at 1 96)
    "Unchecked_Deallocation") [] (at 1 118) ∷ []) (package_of (at 1 120) (id (at 1 128) "Second_P") None (at 1 137)
    (decl.OfItem (at 1 140) (item.IncompleteType (at 1 140) (id (at 1 145) "Second_T") (at 1 153)) ∷ decl.OfItem (at 1
    155) (item.AccessType (at 1 155) (id (at 1 160) "Second_P") (at 1 169) (at 1 172) (mark (at 1 179) "Second_T") (at 1
    187)) ∷ decl.OfItem (at 1 189) (item.EnumerationType (at 1 189) (id (at 1 194) "Second_T") (at 1 203) (at 1 206) (id
    (at 1 207) "sECOND_a") (next_id_of (at 1 215) (at 1 217) "second_b" ∷ []) (at 1 225) (at 1 226)) ∷ decl.OfItem (at 1
    228) (item.EnumerationType (at 1 228) (id (at 1 233) "sECOND_t") (at 1 242) (at 1 245) (id (at 1 246) "SECOND_C")
    (next_id_of (at 1 254) (at 1 256) "Second_D" ∷ []) (at 1 264) (at 1 265)) ∷ []) None (at 1 267) (Some (id (at 1 271)
    "Second_P")) (at 1 279)) ∷ unit.OfPackage (at 2 1) (context.With (at 2 1) (selected (at 2 6) "Ada" (at 2 9) (at 2
    10) "Text_IO") [] (at 2 17) ∷ use_context (use_of (at 2 19) None (selected (at 2 23) "ada" (at 2 26) (at 2 27)
    "text_io") [] (at 2 34)) ∷ context.With (at 3 1) (selected (at 3 6) "Ada" (at 3 9) (at 3 10) "Integer_Text_IO") []
    (at 3 25) ∷ use_context (use_of (at 3 27) None (selected (at 3 31) "aDA" (at 3 34) (at 3 35) "Integer_Text_IO") []
    (at 3 50)) ∷ context.With (at 4 1) (selected (at 4 6) "Ada" (at 4 9) (at 4 10) "Unchecked_Deallocation") [] (at 4
    32) ∷ []) (package_of (at 5 1) (id (at 5 9) "Pack1") None (at 5 15) (decl.OfItem (at 6 1) (item.AccessType (at 6 1)
    (id (at 6 6) "p1") (at 6 9) (at 6 12) (mark (at 6 19) "Integer") (at 6 26)) ∷ decl.OfItem (at 7 1) (item.Instance
    (at 7 1) (id (at 7 11) "Free1") (at 7 17) (at 7 20) (selected (at 7 24) "Ada" (at 7 27) (at 7 28)
    "Unchecked_Deallocation") (at 7 51) (actual_of (at 7 52) (object (at 7 52) "integer")) (next_arg.FurtherArg (at 7
    59) (actual_of (at 7 61) (object (at 7 61) "P1")) ∷ []) (at 7 63) (at 7 64)) ∷ decl.OfItem (at 8 1)
    (item.PrivateType (at 8 1) (id (at 8 6) "sTACK1") (at 8 13) (at 8 16) (at 8 23)) ∷ decl.OfItem (at 9 1)
    (initialized_of (id (at 9 1) "G1") [] (at 9 4) None (indication_of (mark (at 9 6) "Integer")) (at 9 14) (expr_of (at
    9 17) (primary.Number (at 9 17) 24)) (at 9 19)) ∷ decl.Subprogram (at 10 1) (subspec.Function (at 10 1) (id (at 10
    10) "Way1") (Some (formals_of (at 10 15) (moded_of (id (at 10 16) "N2") [] (at 10 19) None None (mark (at 10 21)
    "P1")) (next_formal.Semicolon (at 10 23) (moded_of (id (at 10 25) "N3") [] (at 10 28) None None (mark (at 10 30)
    "Integer")) ∷ []) (at 10 37))) (at 10 39) (indication.Anonymous (at 10 46) None (mark (at 10 53) "Integer"))) None
    (at 10 60) ∷ []) (Some (private_part (at 11 1) (decl.OfItem (at 12 1) (item.ArrayType (at 12 1) (id (at 12 6) "A1")
    (at 12 9) (at 12 12) (at 12 18) (range.Bounds (at 12 19) (expr.LoneRelation (at 12 19) (rel.LoneSum (at 12 19)
    (sum.Signed (at 12 19) sign.Minus (term_of (at 12 20) (primary.Number (at 12 20) 1)) []))) (at 12 22) (expr_of (at
    12 25) (primary.Number (at 12 25) 0))) (at 12 26) (at 12 28) (mark (at 12 31) "Integer") (at 12 38)) ∷ decl.OfItem
    (at 13 1) (item.IncompleteType (at 13 1) (id (at 13 6) "ma1") (at 13 9)) ∷ decl.OfItem (at 13 11)
    (item.IncompleteType (at 13 11) (id (at 13 16) "MB1") (at 13 19)) ∷ decl.OfItem (at 14 1) (item.AccessType (at 14 1)
    (id (at 14 6) "PA1") (at 14 10) (at 14 13) (mark (at 14 20) "ma1") (at 14 23)) ∷ decl.OfItem (at 15 1)
    (item.AccessType (at 15 1) (id (at 15 6) "PB1") (at 15 10) (at 15 13) (mark (at 15 20) "MB1") (at 15 23)) ∷
    decl.OfItem (at 16 1) (item.RecordType (at 16 1) (id (at 16 6) "ma1") (at 16 10) (at 16 13) (fields_of (id (at 16
    20) "To1") [] (at 16 24) (mark (at 16 26) "PB1") (at 16 29)) (fields_of (id (at 16 31) "N1") [] (at 16 34) (mark (at
    16 36) "Integer") (at 16 43) ∷ []) (at 16 45) (at 16 49) (at 16 55)) ∷ decl.OfItem (at 17 1) (item.RecordType (at 17
    1) (id (at 17 6) "MB1") (at 17 10) (at 17 13) (fields_of (id (at 17 20) "fRO1") [] (at 17 25) (mark (at 17 27)
    "PA1") (at 17 30)) [] (at 17 32) (at 17 36) (at 17 42)) ∷ decl.OfItem (at 18 1) (item.Instance (at 18 1) (id (at 18
    11) "free2") (at 18 17) (at 18 20) (selected (at 18 24) "Ada" (at 18 27) (at 18 28) "Unchecked_Deallocation") (at 18
    51) (actual_of (at 18 52) (object (at 18 52) "MA1")) (next_arg.FurtherArg (at 18 55) (actual_of (at 18 57) (object
    (at 18 57) "PA1")) ∷ []) (at 18 60) (at 18 61)) ∷ decl.OfItem (at 19 1) (item.RecordType (at 19 1) (id (at 19 6)
    "sTACK1") (at 19 13) (at 19 16) (fields_of (id (at 19 23) "F1") [] (at 19 26) (mark (at 19 28) "P1") (at 19 30))
    (fields_of (id (at 19 32) "F2") [] (at 19 35) (mark (at 19 37) "Integer") (at 19 44) ∷ []) (at 19 46) (at 19 50) (at
    19 56)) ∷ []))) (at 20 1) (Some (id (at 20 5) "pack1")) (at 20 10)) ∷ unit.OfBody (at 21 1) [] (package_body_of (at
    21 1) (at 21 9) (id (at 21 14) "Pack1") None (at 21 20) (part.Completed (at 22 1) (subprogram_of (at 22 1)
    (subspec.Function (at 22 1) (id (at 22 10) "Way1") (Some (formals_of (at 22 15) (moded_of (id (at 22 16) "N2") []
    (at 22 19) None None (mark (at 22 21) "P1")) (next_formal.Semicolon (at 22 23) (moded_of (id (at 22 25) "N3") [] (at
    22 28) None None (mark (at 22 30) "INTEGER")) ∷ []) (at 22 37))) (at 22 39) (indication.Anonymous (at 22 46) None
    (mark (at 22 53) "Integer"))) None (at 22 61) [] (at 23 1) (stmts.Sequence (at 24 1) (stmt.IfElse (at 24 1)
    (expr.LoneRelation (at 24 4) (rel.Compared (at 24 4) (sum_of (at 24 4) (primary.Number (at 24 4) 17))
    relational.NotEqual (at 24 7) (sum_of (at 24 10) (primary.Number (at 24 10) 23)))) (at 24 13) (sole (at 25 1)
    (stmt.If (at 25 1) (expr.LoneRelation (at 25 4) (rel.Compared (at 25 4) (sum_of (at 25 4) (object (at 25 4) "N2"))
    relational.NotEqual (at 25 7) (sum_of (at 25 10) (primary.Null (at 25 10))))) (at 25 15) (sole (at 26 1) (stmt.If
    (at 26 1) (expr.LoneRelation (at 26 4) (rel.Compared (at 26 4) (sum_of (at 26 4) (object (at 26 4) "N2"))
    relational.NotEqual (at 26 7) (sum_of (at 26 10) (primary.Null (at 26 10))))) (at 26 15) (sole (at 27 1)
    (stmt.DeclareBlock (at 27 1) (initialized_of (id (at 28 1) "B1") [] (at 28 4) None (indication.Anonymous (at 28 6)
    None (mark (at 28 13) "Integer")) (at 28 21) (expr_of (at 28 24) (object (at 28 24) "N2")) (at 28 26) ∷ []) (at 29
    1) (sole (at 30 1) (stmt.Null (at 30 1) (at 30 5))) (at 31 1) (at 31 4))) [] (at 32 1) (at 32 5) (at 32 7))) [] (at
    33 1) (at 33 5) (at 33 7))) [] (at 34 1) (sole (at 35 1) (stmt.DeclareBlock (at 35 1) (initialized_of (id (at 36 1)
    "C1") [] (at 36 4) None (indication.Anonymous (at 36 6) (Some (at 36 13)) (mark (at 36 22) "Integer")) (at 36 30)
    (expr_of (at 36 33) (object (at 36 33) "N2")) (at 36 35) ∷ []) (at 37 1) (sole (at 38 1) (assign_of (at 38 1) "C1"
    [] (at 38 4) (expr_of (at 38 7) (object (at 38 7) "C1")) (at 38 9))) (at 39 1) (at 39 4))) (at 40 1) (at 40 5) (at
    40 7)) (stmt.ReturnValue (at 41 1) (expr_of (at 41 8) (object (at 41 8) "N2")) (at 41 10) ∷ [])) (at 42 1) (Some (id
    (at 42 5) "Way1")) (at 42 9)) ∷ []) (at 43 1) (Some (id (at 43 5) "Pack1")) (at 43 10)) ∷ unit.OfSubprogram (at 44
    1) (context.With (at 44 1) (selected (at 44 6) "Ada" (at 44 9) (at 44 10) "Text_IO") [] (at 44 17) ∷ use_context
    (use_of (at 44 19) None (selected (at 44 23) "Ada" (at 44 26) (at 44 27) "Text_IO") [] (at 44 34)) ∷ context.With
    (at 45 1) (selected (at 45 6) "Ada" (at 45 9) (at 45 10) "Integer_Text_IO") [] (at 45 25) ∷ use_context (use_of (at
    45 27) None (selected (at 45 31) "Ada" (at 45 34) (at 45 35) "Integer_Text_IO") [] (at 45 50)) ∷ context.With (at 46
    1) (selected (at 46 6) "Ada" (at 46 9) (at 46 10) "Unchecked_Deallocation") [] (at 46 32) ∷ context.With (at 47 1)
    (mark (at 47 6) "Pack1") [] (at 47 11) ∷ use_context (use_of (at 47 13) None (mark (at 47 17) "Pack1") [] (at 47
    22)) ∷ []) (subprogram_of (at 48 1) (subspec.Procedure (at 48 1) (id (at 48 11) "Main") None) None (at 48 16)
    (item.IncompleteType (at 49 1) (id (at 49 6) "nODE1") (at 49 11) ∷ item.AccessType (at 50 1) (id (at 50 6) "Tree1")
    (at 50 12) (at 50 15) (mark (at 50 22) "Node1") (at 50 27) ∷ item.RecordType (at 51 1) (id (at 51 6) "Node1") (at 51
    12) (at 51 15) (fields_of (id (at 51 22) "Key1") [] (at 51 27) (mark (at 51 29) "Integer") (at 51 36)) (fields_of
    (id (at 51 38) "Left1") [] (at 51 44) (mark (at 51 46) "Tree1") (at 51 51) ∷ fields_of (id (at 51 53) "Right1") []
    (at 51 60) (mark (at 51 62) "Tree1") (at 51 67) ∷ []) (at 51 69) (at 51 73) (at 51 79) ∷ item.Instance (at 52 1) (id
    (at 52 11) "Free3") (at 52 17) (at 52 20) (selected (at 52 24) "Ada" (at 52 27) (at 52 28) "Unchecked_Deallocation")
    (at 52 51) (actual_of (at 52 52) (object (at 52 52) "Node1")) (next_arg.FurtherArg (at 52 57) (actual_of (at 52 59)
    (object (at 52 59) "Tree1")) ∷ []) (at 52 64) (at 52 65) ∷ objects_of (id (at 53 1) "V1") [] (at 53 4) None
    (indication_of (mark (at 53 6) "Stack1")) (at 53 12) ∷ objects_of (id (at 54 1) "V2") (next_id_of (at 54 3) (at 54
    5) "V3" ∷ []) (at 54 8) None (indication_of (mark (at 54 10) "Node1")) (at 54 15) ∷ []) (at 55 1) (stmts.Sequence
    (at 56 1) (stmt.IfElse (at 56 1) (expr.LoneRelation (at 56 4) (rel.LoneSum (at 56 4) (sum.Unsigned (at 56 4)
    (term.Product (at 56 4) (factor.Not (at 56 4) (primary.Parenthesized (at 56 8) (expr.LoneRelation (at 56 9)
    (rel.Compared (at 56 9) (sum_of (at 56 9) (named (at 56 9) "V2" (suffix.Selected (at 56 11) (id (at 56 12) "Key1") ∷
    []))) relational.GreaterEqual (at 56 17) (sum_of (at 56 20) (named (at 56 20) "V2" (suffix.Selected (at 56 22) (id
    (at 56 23) "Key1") ∷ []))))) (at 56 27))) []) []))) (at 56 29) (sole (at 57 1) (assign_of (at 57 1) "G1" [] (at 57
    4) (expr_of (at 57 7) (primary.Parenthesized (at 57 7) (expr.LoneRelation (at 57 8) (rel.LoneSum (at 57 8)
    (sum.Signed (at 57 8) sign.Minus (term_of (at 57 9) (named (at 57 9) "V3" (suffix.Selected (at 57 11) (id (at 57 12)
    "Key1") ∷ []))) []))) (at 57 16))) (at 57 17))) [] (at 58 1) (stmts.Sequence (at 59 1) (stmt.If (at 59 1)
    (expr.AndThen (at 59 4) (rel.Compared (at 59 4) (sum_of (at 59 4) (named (at 59 4) "V2" (suffix.Selected (at 59 6)
    (id (at 59 7) "Left1") ∷ []))) relational.NotEqual (at 59 13) (sum_of (at 59 16) (primary.Null (at 59 16)))) (at 59
    21) (at 59 25) (rel.Compared (at 59 30) (sum_of (at 59 30) (named (at 59 30) "v2" (suffix.Selected (at 59 32) (id
    (at 59 33) "Left1") ∷ suffix.Selected (at 59 38) (id (at 59 39) "Left1") ∷ []))) relational.NotEqual (at 59 45)
    (sum_of (at 59 48) (primary.Null (at 59 48)))) []) (at 59 53) (sole (at 60 1) (assign_of (at 60 1) "V2"
    (suffix.Selected (at 60 3) (id (at 60 4) "Right1") ∷ []) (at 60 11) (expr_of (at 60 14) (primary.AllocatedAggregate
    (at 60 14) (mark (at 60 18) "nODE1") (at 60 23) (aggregate.Several (at 60 24) (actual_of (at 60 25) (primary.Number
    (at 60 25) 39)) (at 60 27) (actual_of (at 60 29) (named (at 60 29) "V2" (suffix.Selected (at 60 31) (id (at 60 32)
    "Left1") ∷ suffix.Selected (at 60 37) (id (at 60 38) "Left1") ∷ suffix.Selected (at 60 43) (id (at 60 44) "Right1")
    ∷ []))) (next_arg.FurtherArg (at 60 50) (actual_of (at 60 52) (primary.AllocatedAggregate (at 60 52) (mark (at 60
    56) "Node1") (at 60 61) (aggregate.Several (at 60 62) (actual_of (at 60 63) (primary.Number (at 60 63) 40)) (at 60
    65) (actual_of (at 60 67) (named (at 60 67) "V3" (suffix.Selected (at 60 69) (id (at 60 70) "left1") ∷ [])))
    (next_arg.FurtherArg (at 60 75) (actual_of (at 60 77) (primary.Null (at 60 77))) ∷ []) (at 60 81)))) ∷ []) (at 60
    82)))) (at 60 83))) [] (at 61 1) (at 61 5) (at 61 7)) (stmt.If (at 62 1) (expr.AndThen (at 62 4) (rel.Compared (at
    62 4) (sum_of (at 62 4) (named (at 62 4) "V2" (suffix.Selected (at 62 6) (id (at 62 7) "Left1") ∷ [])))
    relational.NotEqual (at 62 13) (sum_of (at 62 16) (primary.Null (at 62 16)))) (at 62 21) (at 62 25) (rel.Compared
    (at 62 30) (sum_of (at 62 30) (named (at 62 30) "V2" (suffix.Selected (at 62 32) (id (at 62 33) "Left1") ∷
    suffix.Selected (at 62 38) (id (at 62 39) "Right1") ∷ []))) relational.NotEqual (at 62 46) (sum_of (at 62 49)
    (primary.Null (at 62 49)))) []) (at 62 54) (sole (at 63 1) (assign_of (at 63 1) "V2" (suffix.Selected (at 63 3) (id
    (at 63 4) "KEY1") ∷ []) (at 63 9) (expr_of (at 63 12) (named (at 63 12) "V2" (suffix.Selected (at 63 14) (id (at 63
    15) "Left1") ∷ suffix.Selected (at 63 20) (id (at 63 21) "rIGHT1") ∷ suffix.Selected (at 63 27) (id (at 63 28)
    "Key1") ∷ []))) (at 63 32))) [] (at 64 1) (at 64 5) (at 64 7) ∷ [])) (at 65 1) (at 65 5) (at 65 7)) (stmt.If (at 66
    1) (expr.AndThen (at 66 4) (rel.Compared (at 66 4) (sum_of (at 66 4) (named (at 66 4) "V3" (suffix.Selected (at 66
    6) (id (at 66 7) "Right1") ∷ []))) relational.NotEqual (at 66 14) (sum_of (at 66 17) (primary.Null (at 66 17)))) (at
    66 22) (at 66 26) (rel.Compared (at 66 31) (sum_of (at 66 31) (named (at 66 31) "v3" (suffix.Selected (at 66 33) (id
    (at 66 34) "RIGHT1") ∷ suffix.Dereferenced (at 66 40) (at 66 41) ∷ suffix.Selected (at 66 44) (id (at 66 45)
    "Left1") ∷ []))) relational.NotEqual (at 66 51) (sum_of (at 66 54) (primary.Null (at 66 54))))
    (short_operand.FurtherShortOperand (at 66 59) (at 66 63) (rel.Compared (at 66 68) (sum_of (at 66 68) (named (at 66
    68) "V2" (suffix.Selected (at 66 70) (id (at 66 71) "rIGHT1") ∷ []))) relational.NotEqual (at 66 78) (sum_of (at 66
    81) (primary.Null (at 66 81)))) ∷ short_operand.FurtherShortOperand (at 66 86) (at 66 90) (rel.Compared (at 66 95)
    (sum_of (at 66 95) (named (at 66 95) "V2" (suffix.Selected (at 66 97) (id (at 66 98) "right1") ∷ suffix.Selected (at
    66 104) (id (at 66 105) "Right1") ∷ []))) relational.NotEqual (at 66 112) (sum_of (at 66 115) (primary.Null (at 66
    115)))) ∷ [])) (at 66 120) (sole (at 67 1) (assign_of (at 67 1) "V3" (suffix.Selected (at 67 3) (id (at 67 4)
    "rIGHT1") ∷ suffix.Dereferenced (at 67 10) (at 67 11) ∷ suffix.Selected (at 67 14) (id (at 67 15) "left1") ∷
    suffix.Selected (at 67 20) (id (at 67 21) "Key1") ∷ []) (at 67 26) (expr_of (at 67 29) (named (at 67 29) "V2"
    (suffix.Selected (at 67 31) (id (at 67 32) "Right1") ∷ suffix.Selected (at 67 38) (id (at 67 39) "Right1") ∷
    suffix.Selected (at 67 45) (id (at 67 46) "Key1") ∷ []))) (at 67 50))) [] (at 68 1) (at 68 5) (at 68 7) ∷
    stmt.DeclareBlock (at 69 1) (initialized_of (id (at 70 1) "B3") [] (at 70 4) None (indication.Anonymous (at 70 6)
    None (mark (at 70 13) "NODE1")) (at 70 19) (expr_of (at 70 22) (named (at 70 22) "V2" (suffix.Selected (at 70 24)
    (id (at 70 25) "Right1") ∷ []))) (at 70 31) ∷ numbers_of (id (at 71 1) "K1") [] (at 71 4) (at 71 6) (at 71 15)
    (expr_of (at 71 18) (primary.Number (at 71 18) 4)) (at 71 19) ∷ []) (at 72 1) (sole (at 73 1) (stmt.While (at 73 1)
    (expr.LoneRelation (at 73 7) (rel.Compared (at 73 7) (sum_of (at 73 7) (object (at 73 7) "B3")) relational.NotEqual
    (at 73 10) (sum_of (at 73 13) (primary.Null (at 73 13))))) (at 73 18) (stmts.Sequence (at 74 1) (stmt.If (at 74 1)
    (expr.AndThen (at 74 4) (rel.Compared (at 74 4) (sum_of (at 74 4) (named (at 74 4) "V2" (suffix.Selected (at 74 6)
    (id (at 74 7) "Left1") ∷ []))) relational.NotEqual (at 74 13) (sum_of (at 74 16) (primary.Null (at 74 16)))) (at 74
    21) (at 74 25) (rel.Compared (at 74 30) (sum_of (at 74 30) (named (at 74 30) "V2" (suffix.Selected (at 74 32) (id
    (at 74 33) "LEFT1") ∷ suffix.Selected (at 74 38) (id (at 74 39) "rIGHT1") ∷ []))) relational.NotEqual (at 74 46)
    (sum_of (at 74 49) (primary.Null (at 74 49)))) []) (at 74 54) (sole (at 75 1) (assign_of (at 75 1) "B3"
    (suffix.Selected (at 75 3) (id (at 75 4) "Left1") ∷ []) (at 75 10) (expr_of (at 75 13) (named (at 75 13) "v2"
    (suffix.Selected (at 75 15) (id (at 75 16) "Left1") ∷ suffix.Selected (at 75 21) (id (at 75 22) "Right1") ∷
    suffix.Selected (at 75 28) (id (at 75 29) "Right1") ∷ []))) (at 75 35))) [] (at 76 1) (at 76 5) (at 76 7))
    (assign_of (at 77 1) "V2" (suffix.Selected (at 77 3) (id (at 77 4) "lEFT1") ∷ suffix.Selected (at 77 9) (id (at 77
    10) "Right1") ∷ suffix.Selected (at 77 16) (id (at 77 17) "Right1") ∷ []) (at 77 24) (expr_of (at 77 27)
    (primary.Null (at 77 27))) (at 77 31) ∷ assign_of (at 78 1) "B3" [] (at 78 4) (expr_of (at 78 7) (named (at 78 7)
    "b3" (suffix.Selected (at 78 9) (id (at 78 10) "Right1") ∷ []))) (at 78 16) ∷ [])) (at 79 1) (at 79 5) (at 79 9)))
    (at 80 1) (at 80 4) ∷ [])) (at 81 1) (Some (id (at 81 5) "Main")) (at 81 9)) ∷ []) ∷ [])
unfolding computes resolves
second_completion_4 = refl

second_completion_5 : IsFirstBrokenOf Twice (at 7 70) ((unit.OfSubprogram (at 1 1) (context.With (at 1 1) (selected (at
    1 6) "Ada" (at 1 9) (at 1 10) "Text_IO") [] (at 1 17) ∷ use_context (use_of (at 1 19) None (selected (at 1 23) "Ada"
    (at 1 26) (at 1 27) "text_io") [] (at 1 34)) ∷ context.With (at 1 36) (selected (at 1 41) "Ada" (at 1 44) (at 1 45)
    "Integer_Text_IO") [] (at 1 60) ∷ use_context (use_of (at 1 62) None (selected (at 1 66) "Ada" (at 1 69) (at 1 70)
    "Integer_Text_IO") [] (at 1 85)) ∷ context.With (at 1 87) (selected (at 1 92) "ADA" (at 1 95) (at 1 96)
    "Unchecked_Deallocation") [] (at 1 118) ∷ []) (subprogram_of (at 2 1) (subspec.Procedure (at 2 1) (id (at 2 11)
    "Main") None) None (at 2 16) (item.IncompleteType (at 3 1) (id (at 3 6) "cell") (at 3 10) ∷ item.AccessType (at 4 1)
    (id (at 4 6) "List") (at 4 11) (at 4 14) (mark (at 4 21) "cELL") (at 4 25) ∷ item.RecordType (at 5 1) (id (at 5 6)
    "Cell") (at 5 11) (at 5 14) (fields_of (id (at 5 21) "Value") [] (at 5 27) (mark (at 5 29) "Integer") (at 5 36))
    (fields_of (id (at 5 38) "Next") [] (at 5 43) (mark (at 5 45) "List") (at 5 49) ∷ []) (at 5 51) (at 5 55) (at 5 61)
    ∷ objects_of (id (at 6 1) "X") (next_id_of (at 6 2) (at 6 4) "Y" ∷ []) (at 6 6) None (indication_of (mark (at 6 8)
    "List")) (at 6 12) ∷ initialized_of (id (at 7 1) "N") [] (at 7 3) None (indication_of (mark (at 7 5) "Integer")) (at
    7 13) (expr_of (at 7 16) (primary.Number (at 7 16) 1)) (at 7 17) ∷ item.IncompleteType (at 7 19) (id (at 7 24)
    "Plain_T") (at 7 31) ∷ item.AccessType (at 7 33) (id (at 7 38) "Plain_P") (at 7 46) (at 7 49) (mark (at 7 56)
    "Plain_T") (at 7 63) ∷ item.IncompleteType (at 7 65) (id (at 7 70) "Plain_T") (at 7 77) ∷ item.EnumerationType (at 7
    79) (id (at 7 84) "Plain_T") (at 7 92) (at 7 95) (id (at 7 96) "Plain_A") (next_id_of (at 7 103) (at 7 105)
    "Plain_B" ∷ []) (at 7 112) (at 7 113) ∷ item.Instance (at 8 1) (id (at 8 11) "Free") (at 8 16) (at 8 19) (selected
    (at 8 23) "Ada" (at 8 26) (at 8 27) "Unchecked_Deallocation") (at 8 50) (actual_of (at 8 51) (object (at 8 51)
    "Cell")) (next_arg.FurtherArg (at 8 55) (actual_of (at 8 57) (object (at 8 57) "List")) ∷ []) (at 8 61) (at 8 62) ∷
    []) (at 9 1) (stmts.Sequence (at 10 1) (assign_of (at 10 1) "Y" [] (at 10 3) (expr_of (at 10 6) (object (at 10 6)
    "X")) (at 10 7)) (assign_of (at 10 9) "X" [] (at 10 11) (expr_of (at 10 14) (primary.Null (at 10 14))) (at 10 18) ∷
    assign_of (at 11 1) "X" [] (at 11 3) (expr_of (at 11 6) (primary.AllocatedAggregate (at 11 6) (mark (at 11 10)
    "Cell") (at 11 14) (aggregate.Several (at 11 15) (actual_of (at 11 16) (object (at 11 16) "N")) (at 11 17)
    (actual_of (at 11 19) (primary.Null (at 11 19))) [] (at 11 23)))) (at 11 24) ∷ stmt.For (at 12 1) (id (at 12 5) "I")
    (at 12 7) None (range.Bounds (at 12 10) (expr_of (at 12 10) (primary.Number (at 12 10) 1)) (at 12 12) (expr_of (at
    12 15) (primary.Number (at 12 15) 3))) (at 12 17) (sole (at 12 22) (assign_of (at 12 22) "N" [] (at 12 24)
    (expr.LoneRelation (at 12 27) (rel.LoneSum (at 12 27) (sum.Unsigned (at 12 27) (term_of (at 12 27) (object (at 12
    27) "N")) (next_term.FurtherTerm (at 12 29) adding.Add (term_of (at 12 31) (object (at 12 31) "I")) ∷ [])))) (at 12
    32))) (at 12 34) (at 12 38) (at 12 42) ∷ stmt.Case (at 13 1) (expr_of (at 13 6) (object (at 13 6) "N")) (at 13 8)
    (alternative.Alternative (at 13 11) (choice.Value (at 13 16) (expr_of (at 13 16) (primary.Number (at 13 16) 1))) []
    (at 13 18) (sole (at 13 21) (stmt.Null (at 13 21) (at 13 25)))) (alternative.Alternative (at 13 27) (choice.Others
    (at 13 32)) [] (at 13 39) (sole (at 13 42) (assign_of (at 13 42) "N" [] (at 13 44) (expr_of (at 13 47)
    (primary.Number (at 13 47) 2)) (at 13 48))) ∷ []) (at 13 50) (at 13 54) (at 13 58) ∷ [])) (at 14 1) (Some (id (at 14
    5) "MAIN")) (at 14 9)) ∷ []) ∷ [])
unfolding computes resolves
second_completion_5 = refl
