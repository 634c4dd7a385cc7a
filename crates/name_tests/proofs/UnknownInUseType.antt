-- What stands in a use type is no type: N1.
--
-- tools/tree_terms.py makes this of the sources that data/cases.txt has under its name.
use Rattle.std.proofs.Common.{refl, [], ◌∷◌}
use Rattle.std.specs.Prelude.{None, Some, codes}
use Rattle.ada_tree.specs.declared.operator.AddingOperator.TheVariants as adding
use Rattle.ada_tree.specs.declared.expression.Aggregate.TheVariants as aggregate
use Rattle.ada_tree.specs.declared.statement.When.TheVariants as alternative
use Rattle.ada_tree.specs.declared.range.Choice.TheVariants as choice
use Rattle.ada_tree.specs.declared.unit.Context.TheVariants as context
use Rattle.ada_tree.specs.declared.subprogram.Decl.TheVariants as decl
use Rattle.ada_tree.specs.declared.expression.Expr.TheVariants as expr
use Rattle.ada_tree.specs.declared.expression.Factor.TheVariants as factor
use Rattle.ada_tree.specs.declared.declaration.Indication.TheVariants as indication
use Rattle.ada_tree.specs.declared.declaration.Item.TheVariants as item
use Rattle.ada_tree.specs.declared.operator.MultiplyingOperator.TheVariants as multiplying
use Rattle.ada_tree.specs.declared.expression.NextArg.TheVariants as next_arg
use Rattle.ada_tree.specs.declared.identifier.NextDotted.TheVariants as next_dotted
use Rattle.ada_tree.specs.declared.expression.NextFactor.TheVariants as next_factor
use Rattle.ada_tree.specs.declared.subprogram.NextFormal.TheVariants as next_formal
use Rattle.ada_tree.specs.declared.expression.NextTerm.TheVariants as next_term
use Rattle.ada_tree.specs.declared.expression.Operand.TheVariants as operand
use Rattle.ada_tree.specs.declared.unit.BodyPart.TheVariants as part
use Rattle.ada_tree.specs.declared.expression.Primary.TheVariants as primary
use Rattle.ada_tree.specs.declared.expression.Rel.TheVariants as rel
use Rattle.ada_tree.specs.declared.operator.RelationalOperator.TheVariants as relational
use Rattle.ada_tree.specs.declared.operator.Sign.TheVariants as sign
use Rattle.ada_tree.specs.declared.statement.Stmt.TheVariants as stmt
use Rattle.ada_tree.specs.declared.statement.Stmts.TheVariants as stmts
use Rattle.ada_tree.specs.declared.subprogram.Subspec.TheVariants as subspec
use Rattle.ada_tree.specs.declared.expression.Suffix.TheVariants as suffix
use Rattle.ada_tree.specs.declared.expression.Sum.TheVariants as sum
use Rattle.ada_tree.specs.declared.expression.Term.TheVariants as term
use Rattle.ada_tree.specs.declared.unit.SourceUnit.TheVariants as unit
use Rattle.ada_grammar.proofs.SmallSources.{computes}
use Rattle.name_events.specs.declared.declaration.NameRule.TheVariants.{Unknown}
use Rattle.name_tests.proofs.SmallRules.{resolves}
use Rattle.name_tests.proofs.SourceTrees.{IsFirstBrokenOf, actual_of, assign_of, at, at1, call_of, expr_of, factor_of, fields_of, formals_of, id, indication_of, initialized_of, mark, mode_of, mode_on, moded_of, named, next_id_of, numbers_of, object, objects_of, package_body_of, package_of, private_part, rel_of, selected, sole, subprogram_of, sum_of, term_of, use_context, use_item, use_of}

wrong_in_use_type_1 : IsFirstBrokenOf Unknown (at 3 40) ((unit.OfSubprogram (at 1 1) (context.With (at 1 1) (selected
    (at 1 6) "Ada" (at 1 9) (at 1 10) "Text_IO") [] (at 1 17) ∷ use_context (use_of (at 1 19) None (selected (at 1 23)
    "Ada" (at 1 26) (at 1 27) "Text_IO") [] (at 1 34)) ∷ context.With (at 1 36) (selected (at 1 41) "Ada" (at 1 44) (at
    1 45) "Integer_Text_IO") [] (at 1 60) ∷ use_context (use_of (at 1 62) None (selected (at 1 66) "Ada" (at 1 69) (at 1
    70) "Integer_Text_IO") [] (at 1 85)) ∷ context.With (at 1 87) (selected (at 1 92) "Ada" (at 1 95) (at 1 96)
    "Unchecked_Deallocation") [] (at 1 118) ∷ []) (subprogram_of (at 2 1) (subspec.Procedure (at 2 1) (id (at 2 11)
    "Main") None) None (at 2 16) (item.IncompleteType (at 3 1) (id (at 3 6) "Cell") (at 3 10) ∷ objects_of (id (at 3 12)
    "Usual_X") [] (at 3 20) None (indication_of (mark (at 3 22) "Integer")) (at 3 29) ∷ use_item (use_of (at 3 31) (Some
    (at 3 35)) (mark (at 3 40) "Usual_X") [] (at 3 47)) ∷ item.AccessType (at 4 1) (id (at 4 6) "List") (at 4 11) (at 4
    14) (mark (at 4 21) "Cell") (at 4 25) ∷ item.RecordType (at 5 7) (id (at 5 12) "Cell") (at 5 17) (at 5 20)
    (fields_of (id (at 5 27) "Value") [] (at 5 33) (mark (at 5 35) "Integer") (at 5 42)) (fields_of (id (at 5 44)
    "Next") [] (at 5 49) (mark (at 5 51) "List") (at 5 55) ∷ []) (at 5 57) (at 5 61) (at 5 67) ∷ objects_of (id (at 6 7)
    "X") (next_id_of (at 6 8) (at 6 10) "Y" ∷ []) (at 6 12) None (indication_of (mark (at 6 14) "List")) (at 6 18) ∷
    initialized_of (id (at 7 7) "N") [] (at 7 9) None (indication_of (mark (at 7 11) "Integer")) (at 7 19) (expr_of (at
    7 22) (primary.Number (at 7 22) 4)) (at 7 23) ∷ []) (at 8 4) (stmts.Sequence (at 9 4) (assign_of (at 9 4) "N" [] (at
    9 6) (expr.LoneRelation (at 9 9) (rel.LoneSum (at 9 9) (sum.Unsigned (at 9 9) (term.Product (at 9 9) (factor_of (at
    9 9) (object (at 9 9) "N")) (next_factor.FurtherFactor (at 9 11) multiplying.Multiply (factor_of (at 9 13)
    (primary.Number (at 9 13) 2)) ∷ [])) (next_term.FurtherTerm (at 9 15) adding.Add (term_of (at 9 17) (primary.Number
    (at 9 17) 1)) ∷ [])))) (at 9 18)) (stmt.DeclareBlock (at 10 4) (initialized_of (id (at 10 12) "B") [] (at 10 14)
    None (indication.Anonymous (at 10 16) None (mark (at 10 23) "Cell")) (at 10 28) (expr_of (at 10 31) (object (at 10
    31) "X")) (at 10 32) ∷ []) (at 10 34) (sole (at 10 40) (stmt.If (at 10 40) (expr.LoneRelation (at 10 43)
    (rel.Compared (at 10 43) (sum_of (at 10 43) (object (at 10 43) "B")) relational.NotEqual (at 10 45) (sum_of (at 10
    48) (primary.Null (at 10 48))))) (at 10 53) (sole (at 10 58) (assign_of (at 10 58) "B" (suffix.Selected (at 10 59)
    (id (at 10 60) "Value") ∷ []) (at 10 66) (expr_of (at 10 69) (object (at 10 69) "N")) (at 10 70))) [] (at 10 72) (at
    10 76) (at 10 78))) (at 10 80) (at 10 83) ∷ stmt.IfElse (at 11 4) (expr.LoneRelation (at 11 7) (rel.Compared (at 11
    7) (sum_of (at 11 7) (object (at 11 7) "N")) relational.Greater (at 11 9) (sum_of (at 11 11) (primary.Number (at 11
    11) 3)))) (at 11 13) (sole (at 11 18) (assign_of (at 11 18) "N" [] (at 11 20) (expr.LoneRelation (at 11 23)
    (rel.LoneSum (at 11 23) (sum.Unsigned (at 11 23) (term_of (at 11 23) (object (at 11 23) "N")) (next_term.FurtherTerm
    (at 11 25) adding.Subtract (term_of (at 11 27) (primary.Number (at 11 27) 1)) ∷ [])))) (at 11 28))) [] (at 11 30)
    (sole (at 11 35) (stmt.Null (at 11 35) (at 11 39))) (at 11 41) (at 11 45) (at 11 47) ∷ stmt.Case (at 12 1) (expr_of
    (at 12 6) (object (at 12 6) "N")) (at 12 8) (alternative.Alternative (at 12 11) (choice.Value (at 12 16) (expr_of
    (at 12 16) (primary.Number (at 12 16) 1))) [] (at 12 18) (sole (at 12 21) (stmt.Null (at 12 21) (at 12 25))))
    (alternative.Alternative (at 12 27) (choice.Others (at 12 32)) [] (at 12 39) (sole (at 12 42) (assign_of (at 12 42)
    "N" [] (at 12 44) (expr_of (at 12 47) (primary.Number (at 12 47) 2)) (at 12 48))) ∷ []) (at 12 50) (at 12 54) (at 12
    58) ∷ [])) (at 13 4) (Some (id (at 13 8) "Main")) (at 13 12)) ∷ []) ∷ [])
unfolding computes resolves
wrong_in_use_type_1 = refl

wrong_in_use_type_2 : IsFirstBrokenOf Unknown (at 5 13) ((unit.OfPackage (at 1 7) (context.With (at 1 7) (selected (at 1
    12) "Ada" (at 1 15) (at 1 16) "Text_IO") [] (at 1 23) ∷ use_context (use_of (at 1 25) None (selected (at 1 29) "Ada"
    (at 1 32) (at 1 33) "Text_IO") [] (at 1 40)) ∷ context.With (at 1 42) (selected (at 1 47) "Ada" (at 1 50) (at 1 51)
    "Integer_Text_IO") [] (at 1 66) ∷ use_context (use_of (at 1 68) None (selected (at 1 72) "Ada" (at 1 75) (at 1 76)
    "Integer_Text_IO") [] (at 1 91)) ∷ context.With (at 1 93) (selected (at 1 98) "Ada" (at 1 101) (at 1 102)
    "Unchecked_Deallocation") [] (at 1 124) ∷ []) (package_of (at 1 126) (id (at 1 134) "Inner_P") None (at 1 142)
    (decl.Subprogram (at 2 1) (subspec.Procedure (at 2 1) (id (at 2 11) "Inner_Q") None) None (at 2 18) ∷ []) None (at 3
    4) (Some (id (at 3 8) "Inner_P")) (at 3 15)) ∷ unit.OfBody (at 4 4) [] (package_body_of (at 4 4) (at 4 12) (id (at 4
    17) "Inner_P") None (at 4 25) (part.Declared (at 5 4) (decl.OfItem (at 5 4) (use_item (use_of (at 5 4) (Some (at 5
    8)) (mark (at 5 13) "Inner_Q") [] (at 5 20)))) ∷ part.Completed (at 5 22) (subprogram_of (at 5 22)
    (subspec.Procedure (at 5 22) (id (at 5 32) "Inner_Q") None) None (at 5 40) [] (at 5 43) (sole (at 5 49) (stmt.Null
    (at 5 49) (at 5 53))) (at 5 55) (Some (id (at 5 59) "Inner_Q")) (at 5 66)) ∷ []) (at 6 7) (Some (id (at 6 11)
    "Inner_P")) (at 6 18)) ∷ unit.OfSubprogram (at 7 7) (context.With (at 7 7) (selected (at 7 12) "Ada" (at 7 15) (at 7
    16) "Text_IO") [] (at 7 23) ∷ use_context (use_of (at 7 25) None (selected (at 7 29) "Ada" (at 7 32) (at 7 33)
    "Text_IO") [] (at 7 40)) ∷ context.With (at 8 1) (selected (at 8 6) "Ada" (at 8 9) (at 8 10) "Integer_Text_IO") []
    (at 8 25) ∷ use_context (use_of (at 8 27) None (selected (at 8 31) "Ada" (at 8 34) (at 8 35) "Integer_Text_IO") []
    (at 8 50)) ∷ context.With (at 9 7) (selected (at 9 12) "Ada" (at 9 15) (at 9 16) "Unchecked_Deallocation") [] (at 9
    38) ∷ []) (subprogram_of (at 10 1) (subspec.Procedure (at 10 1) (id (at 10 11) "Main") None) (Some (mode_of (at 10
    16) (id (at 10 21) "SPARK_Mode") (Some (mode_on (at 10 32) (id (at 10 35) "On"))))) (at 10 38) (item.RecordType (at
    11 4) (id (at 11 9) "R1") (at 11 12) (at 11 15) (fields_of (id (at 11 22) "F1") [] (at 11 25) (mark (at 11 27)
    "Integer") (at 11 34)) (fields_of (id (at 11 36) "F2") [] (at 11 39) (mark (at 11 41) "Integer") (at 11 48) ∷
    fields_of (id (at 11 50) "F3") [] (at 11 53) (mark (at 11 55) "Integer") (at 11 62) ∷ []) (at 11 64) (at 11 68) (at
    11 74) ∷ initialized_of (id (at 12 7) "V1") [] (at 12 10) None (indication_of (mark (at 12 12) "Natural")) (at 12
    20) (expr.LoneRelation (at 12 23) (rel.LoneSum (at 12 23) (sum.Unsigned (at 12 23) (term.Product (at 12 23)
    (factor_of (at 12 23) (primary.Number (at 12 23) 7)) (next_factor.FurtherFactor (at 12 25) multiplying.Modulo
    (factor_of (at 12 29) (primary.Number (at 12 29) 5)) ∷ [])) (next_term.FurtherTerm (at 12 31) adding.Add (term_of
    (at 12 33) (primary.Number (at 12 33) 0)) ∷ [])))) (at 12 34) ∷ initialized_of (id (at 13 1) "K1") [] (at 13 4)
    (Some (at 13 6)) (indication_of (mark (at 13 15) "Integer")) (at 13 23) (expr_of (at 13 26) (primary.Number (at 13
    26) 23)) (at 13 28) ∷ initialized_of (id (at 14 4) "K2") [] (at 14 7) (Some (at 14 9)) (indication_of (mark (at 14
    18) "Boolean")) (at 14 26) (expr_of (at 14 29) (object (at 14 29) "True")) (at 14 33) ∷ numbers_of (id (at 15 1)
    "K3") [] (at 15 4) (at 15 6) (at 15 15) (expr_of (at 15 18) (primary.Number (at 15 18) 7)) (at 15 19) ∷
    initialized_of (id (at 16 1) "K4") [] (at 16 4) (Some (at 16 6)) (indication_of (mark (at 16 15) "Boolean")) (at 16
    23) (expr.LoneRelation (at 16 26) (rel.Compared (at 16 26) (sum_of (at 16 26) (named (at 16 26) "Positive"
    (suffix.Attribute (at 16 34) (id (at 16 35) "First") ∷ []))) relational.Less (at 16 41) (sum_of (at 16 43) (object
    (at 16 43) "V1")))) (at 16 45) ∷ initialized_of (id (at 17 7) "V2") [] (at 17 10) None (indication_of (mark (at 17
    12) "Boolean")) (at 17 20) (expr.LoneRelation (at 17 23) (rel.Compared (at 17 23) (sum_of (at 17 23) (object (at 17
    23) "V1")) relational.NotEqual (at 17 26) (sum_of (at 17 29) (primary.Number (at 17 29) 1000)))) (at 17 34) ∷
    objects_of (id (at 18 4) "T1") [] (at 18 7) None (indication_of (mark (at 18 9) "Integer")) (at 18 16) ∷ []) (at 19
    1) (stmts.Sequence (at 20 4) (call_of (at 20 4) "New_Line" [] (at 20 12)) (call_of (at 21 7) "New_Line" [] (at 21
    15) ∷ assign_of (at 22 4) "V2" [] (at 22 7) (expr.Xor (at 22 10) (rel_of (at 22 10) (primary.Parenthesized (at 22
    10) (expr.LoneRelation (at 22 11) (rel.Compared (at 22 11) (sum_of (at 22 11) (primary.Parenthesized (at 22 11)
    (expr.LoneRelation (at 22 12) (rel.LoneSum (at 22 12) (sum.Unsigned (at 22 12) (term.Product (at 22 12) (factor_of
    (at 22 12) (primary.Number (at 22 12) 5)) (next_factor.FurtherFactor (at 22 14) multiplying.Modulo (factor_of (at 22
    18) (primary.Number (at 22 18) 8)) ∷ [])) []))) (at 22 19))) relational.GreaterEqual (at 22 21) (sum_of (at 22 24)
    (object (at 22 24) "K1")))) (at 22 26))) (at 22 28) (rel_of (at 22 32) (primary.Parenthesized (at 22 32)
    (expr.LoneRelation (at 22 33) (rel.Compared (at 22 33) (sum_of (at 22 33) (primary.Parenthesized (at 22 33)
    (expr.LoneRelation (at 22 34) (rel.LoneSum (at 22 34) (sum.Unsigned (at 22 34) (term.Product (at 22 34) (factor_of
    (at 22 34) (primary.Number (at 22 34) 5)) (next_factor.FurtherFactor (at 22 36) multiplying.Modulo (factor_of (at 22
    40) (primary.Number (at 22 40) 8)) ∷ [])) []))) (at 22 41))) relational.LessEqual (at 22 43) (sum_of (at 22 46)
    (primary.Parenthesized (at 22 46) (expr.LoneRelation (at 22 47) (rel.LoneSum (at 22 47) (sum.Signed (at 22 47)
    sign.Minus (term_of (at 22 48) (primary.Number (at 22 48) 4)) []))) (at 22 49))))) (at 22 50)))
    (operand.FurtherOperand (at 22 52) (rel_of (at 22 56) (primary.Parenthesized (at 22 56) (expr.LoneRelation (at 22
    57) (rel.Compared (at 22 57) (sum.Unsigned (at 22 57) (term.Product (at 22 57) (factor.Abs (at 22 57)
    (primary.Number (at 22 61) 0)) []) []) relational.LessEqual (at 22 63) (sum_of (at 22 66) (primary.Parenthesized (at
    22 66) (expr.LoneRelation (at 22 67) (rel.LoneSum (at 22 67) (sum.Signed (at 22 67) sign.Minus (term_of (at 22 68)
    (primary.Number (at 22 68) 12)) []))) (at 22 70))))) (at 22 71))) ∷ [])) (at 22 72) ∷ stmt.If (at 23 1)
    (expr.LoneRelation (at 23 4) (rel.Compared (at 23 4) (sum_of (at 23 4) (object (at 23 4) "K1")) relational.Less (at
    23 7) (sum_of (at 23 9) (primary.Parenthesized (at 23 9) (expr.LoneRelation (at 23 10) (rel.LoneSum (at 23 10)
    (sum.Unsigned (at 23 10) (term.Product (at 23 10) (factor_of (at 23 10) (object (at 23 10) "K3"))
    (next_factor.FurtherFactor (at 23 13) multiplying.Divide (factor_of (at 23 15) (primary.Number (at 23 15) 9)) ∷ []))
    []))) (at 23 16))))) (at 23 18) (sole (at 24 4) (call_of (at 24 4) "Put_Line" (suffix.Applied (at 24 13) (actual_of
    (at 24 14) (named (at 24 14) "Integer" (suffix.Attribute (at 24 21) (id (at 24 22) "Image") ∷ suffix.Applied (at 24
    28) (actual_of (at 24 29) (primary.Parenthesized (at 24 29) (expr.LoneRelation (at 24 30) (rel.LoneSum (at 24 30)
    (sum.Signed (at 24 30) sign.Minus (term_of (at 24 31) (primary.Number (at 24 31) 5)) []))) (at 24 32))) [] (at 24
    33) ∷ []))) [] (at 24 34) ∷ []) (at 24 35))) [] (at 25 7) (at 25 11) (at 25 13) ∷ call_of (at 26 4) "Put"
    (suffix.Applied (at 26 8) (actual_of (at 26 9) (primary.Text (at 26 9) (codes "\"ok\""))) [] (at 26 13) ∷ []) (at 26
    14) ∷ [])) (at 27 4) (Some (id (at 27 8) "Main")) (at 27 12)) ∷ []) ∷ [])
unfolding computes resolves
wrong_in_use_type_2 = refl

wrong_in_use_type_3 : IsFirstBrokenOf Unknown (at 7 59) ((unit.OfPackage (at 1 1) (context.With (at 1 1) (selected (at 1
    6) "Ada" (at 1 9) (at 1 10) "Text_IO") [] (at 1 17) ∷ use_context (use_of (at 1 19) None (selected (at 1 23) "Ada"
    (at 1 26) (at 1 27) "Text_IO") [] (at 1 34)) ∷ context.With (at 1 36) (selected (at 1 41) "Ada" (at 1 44) (at 1 45)
    "Integer_Text_IO") [] (at 1 60) ∷ use_context (use_of (at 1 62) None (selected (at 1 66) "Ada" (at 1 69) (at 1 70)
    "Integer_Text_IO") [] (at 1 85)) ∷ context.With (at 1 87) (selected (at 1 92) "Ada" (at 1 95) (at 1 96)
    "Unchecked_Deallocation") [] (at 1 118) ∷ []) (package_of (at 2 4) (id (at 2 12) "Store") None (at 2 18)
    (decl.OfItem (at 3 7) (item.IncompleteType (at 3 7) (id (at 3 12) "Cell") (at 3 16)) ∷ decl.OfItem (at 4 1)
    (item.AccessType (at 4 1) (id (at 4 6) "List") (at 4 11) (at 4 14) (mark (at 4 21) "Cell") (at 4 25)) ∷ decl.OfItem
    (at 5 1) (item.RecordType (at 5 1) (id (at 5 6) "Cell") (at 5 11) (at 5 14) (fields_of (id (at 5 21) "Value") [] (at
    5 27) (mark (at 5 29) "Integer") (at 5 36)) (fields_of (id (at 5 38) "Next") [] (at 5 43) (mark (at 5 45) "List")
    (at 5 49) ∷ []) (at 5 51) (at 5 55) (at 5 61)) ∷ decl.Subprogram (at 6 4) (subspec.Procedure (at 6 4) (id (at 6 14)
    "Push") (Some (formals_of (at 6 19) (moded_of (id (at 6 20) "L") [] (at 6 22) (Some (at 6 24)) (Some (at 6 27))
    (mark (at 6 31) "List")) (next_formal.Semicolon (at 6 35) (moded_of (id (at 6 37) "V") [] (at 6 39) None None (mark
    (at 6 41) "Integer")) ∷ []) (at 6 48)))) None (at 6 49) ∷ decl.Subprogram (at 7 1) (subspec.Function (at 7 1) (id
    (at 7 10) "Sum") (Some (formals_of (at 7 14) (moded_of (id (at 7 15) "L") [] (at 7 17) None None (mark (at 7 19)
    "List")) [] (at 7 23))) (at 7 25) (indication_of (mark (at 7 32) "Integer"))) None (at 7 39) ∷ decl.OfItem (at 7 41)
    (use_item (use_of (at 7 41) (Some (at 7 45)) (mark (at 7 50) "Integer") (next_dotted.FurtherDotted (at 7 57) (mark
    (at 7 59) "Ada") ∷ []) (at 7 62))) ∷ decl.OfItem (at 8 7) (objects_of (id (at 8 7) "Total") [] (at 8 13) None
    (indication_of (mark (at 8 15) "Integer")) (at 8 22)) ∷ []) None (at 9 7) (Some (id (at 9 11) "Store")) (at 9 16)) ∷
    unit.OfBody (at 10 7) [] (package_body_of (at 10 7) (at 10 15) (id (at 10 20) "Store") None (at 10 26)
    (part.Completed (at 11 1) (subprogram_of (at 11 1) (subspec.Procedure (at 11 1) (id (at 11 11) "Push") (Some
    (formals_of (at 11 16) (moded_of (id (at 11 17) "L") [] (at 11 19) (Some (at 11 21)) (Some (at 11 24)) (mark (at 11
    28) "List")) (next_formal.Semicolon (at 11 32) (moded_of (id (at 11 34) "V") [] (at 11 36) None None (mark (at 11
    38) "Integer")) ∷ []) (at 11 45)))) None (at 11 47) [] (at 12 4) (sole (at 13 7) (assign_of (at 13 7) "L" [] (at 13
    9) (expr_of (at 13 12) (primary.AllocatedAggregate (at 13 12) (mark (at 13 16) "Cell") (at 13 20) (aggregate.Several
    (at 13 21) (actual_of (at 13 22) (object (at 13 22) "V")) (at 13 23) (actual_of (at 13 25) (object (at 13 25) "L"))
    [] (at 13 26)))) (at 13 27))) (at 14 4) (Some (id (at 14 8) "Push")) (at 14 12)) ∷ part.Completed (at 15 1)
    (subprogram_of (at 15 1) (subspec.Function (at 15 1) (id (at 15 10) "Sum") (Some (formals_of (at 15 14) (moded_of
    (id (at 15 15) "L") [] (at 15 17) None None (mark (at 15 19) "List")) [] (at 15 23))) (at 15 25) (indication_of
    (mark (at 15 32) "Integer"))) None (at 15 40) (initialized_of (id (at 16 1) "C") [] (at 16 3) None
    (indication.Anonymous (at 16 5) (Some (at 16 12)) (mark (at 16 21) "Cell")) (at 16 26) (expr_of (at 16 29) (object
    (at 16 29) "L")) (at 16 30) ∷ initialized_of (id (at 17 1) "N") [] (at 17 3) None (indication_of (mark (at 17 5)
    "Integer")) (at 17 13) (expr_of (at 17 16) (primary.Number (at 17 16) 0)) (at 17 17) ∷ []) (at 18 7) (stmts.Sequence
    (at 19 1) (stmt.While (at 19 1) (expr.LoneRelation (at 19 7) (rel.Compared (at 19 7) (sum_of (at 19 7) (object (at
    19 7) "C")) relational.NotEqual (at 19 9) (sum_of (at 19 12) (primary.Null (at 19 12))))) (at 19 17) (stmts.Sequence
    (at 19 22) (assign_of (at 19 22) "N" [] (at 19 24) (expr.LoneRelation (at 19 27) (rel.LoneSum (at 19 27)
    (sum.Unsigned (at 19 27) (term_of (at 19 27) (object (at 19 27) "N")) (next_term.FurtherTerm (at 19 29) adding.Add
    (term_of (at 19 31) (named (at 19 31) "C" (suffix.Selected (at 19 32) (id (at 19 33) "Value") ∷ []))) ∷ [])))) (at
    19 38)) (assign_of (at 19 40) "C" [] (at 19 42) (expr_of (at 19 45) (named (at 19 45) "C" (suffix.Selected (at 19
    46) (id (at 19 47) "Next") ∷ []))) (at 19 51) ∷ [])) (at 19 53) (at 19 57) (at 19 61)) (stmt.ReturnValue (at 20 1)
    (expr_of (at 20 8) (object (at 20 8) "N")) (at 20 9) ∷ [])) (at 21 1) (Some (id (at 21 5) "Sum")) (at 21 8)) ∷ [])
    (at 22 4) (Some (id (at 22 8) "Store")) (at 22 13)) ∷ unit.OfSubprogram (at 23 1) (context.With (at 23 1) (selected
    (at 23 6) "Ada" (at 23 9) (at 23 10) "Text_IO") [] (at 23 17) ∷ use_context (use_of (at 23 19) None (selected (at 23
    23) "Ada" (at 23 26) (at 23 27) "Text_IO") [] (at 23 34)) ∷ context.With (at 23 36) (selected (at 23 41) "Ada" (at
    23 44) (at 23 45) "Integer_Text_IO") [] (at 23 60) ∷ use_context (use_of (at 23 62) None (selected (at 23 66) "Ada"
    (at 23 69) (at 23 70) "Integer_Text_IO") [] (at 23 85)) ∷ context.With (at 23 87) (selected (at 23 92) "Ada" (at 23
    95) (at 23 96) "Unchecked_Deallocation") [] (at 23 118) ∷ context.With (at 23 120) (mark (at 23 125) "Store") [] (at
    23 130) ∷ use_context (use_of (at 23 132) None (mark (at 23 136) "Store") [] (at 23 141)) ∷ []) (subprogram_of (at
    24 1) (subspec.Procedure (at 24 1) (id (at 24 11) "Main") None) None (at 24 16) (objects_of (id (at 25 1) "X")
    (next_id_of (at 25 2) (at 25 4) "Y" ∷ []) (at 25 6) None (indication_of (mark (at 25 8) "List")) (at 25 12) ∷
    initialized_of (id (at 26 1) "N") [] (at 26 3) None (indication_of (mark (at 26 5) "Integer")) (at 26 13) (expr_of
    (at 26 16) (primary.Number (at 26 16) 2)) (at 26 17) ∷ []) (at 27 1) (stmts.Sequence (at 28 4) (assign_of (at 28 4)
    "X" [] (at 28 6) (expr_of (at 28 9) (primary.AllocatedAggregate (at 28 9) (mark (at 28 13) "Cell") (at 28 17)
    (aggregate.Several (at 28 18) (actual_of (at 28 19) (object (at 28 19) "N")) (at 28 20) (actual_of (at 28 22)
    (primary.Null (at 28 22))) [] (at 28 26)))) (at 28 27)) (call_of (at 29 1) "Push" (suffix.Applied (at 29 6)
    (actual_of (at 29 7) (object (at 29 7) "X")) (next_arg.FurtherArg (at 29 8) (actual_of (at 29 10) (object (at 29 10)
    "N")) ∷ []) (at 29 11) ∷ []) (at 29 12) ∷ assign_of (at 30 1) "Total" [] (at 30 7) (expr_of (at 30 10) (object (at
    30 10) "N")) (at 30 11) ∷ stmt.While (at 31 1) (expr.LoneRelation (at 31 7) (rel.Compared (at 31 7) (sum_of (at 31
    7) (object (at 31 7) "N")) relational.Greater (at 31 9) (sum_of (at 31 11) (primary.Number (at 31 11) 5)))) (at 31
    13) (sole (at 31 18) (assign_of (at 31 18) "N" [] (at 31 20) (expr.LoneRelation (at 31 23) (rel.LoneSum (at 31 23)
    (sum.Unsigned (at 31 23) (term.Product (at 31 23) (factor_of (at 31 23) (object (at 31 23) "N"))
    (next_factor.FurtherFactor (at 31 25) multiplying.Divide (factor_of (at 31 27) (primary.Number (at 31 27) 2)) ∷ []))
    []))) (at 31 28))) (at 31 30) (at 31 34) (at 31 38) ∷ assign_of (at 32 1) "N" [] (at 32 3) (expr_of (at 32 6) (named
    (at 32 6) "Sum" (suffix.Applied (at 32 10) (actual_of (at 32 11) (object (at 32 11) "Y")) [] (at 32 12) ∷ []))) (at
    32 13) ∷ [])) (at 33 4) (Some (id (at 33 8) "Main")) (at 33 12)) ∷ []) ∷ [])
unfolding computes resolves
wrong_in_use_type_3 = refl

wrong_in_use_type_4 : IsFirstBrokenOf Unknown (at1 5 79) ((unit.OfPackage (at 1 1) (context.With (at 1 1) (selected (at
    1 6) "Ada" (at 1 9) (at 1 10) "Text_IO") [] (at 1 17) ∷ use_context (use_of (at 1 19) None (selected (at 1 23) "Ada"
    (at 1 26) (at 1 27) "Text_IO") [] (at 1 34)) ∷ context.With (at 1 36) (selected (at 1 41) "Ada" (at 1 44) (at 1 45)
    "Integer_Text_IO") [] (at 1 60) ∷ use_context (use_of (at 1 62) None (selected (at 1 66) "Ada" (at 1 69) (at 1 70)
    "Integer_Text_IO") [] (at 1 85)) ∷ context.With (at 1 87) (selected (at 1 92) "Ada" (at 1 95) (at 1 96)
    "Unchecked_Deallocation") [] (at 1 118) ∷ []) (package_of (at 2 7) (id (at 2 15) "Store") None (at 2 21)
    (decl.OfItem (at 3 4) (item.IncompleteType (at 3 4) (id (at 3 9) "Cell") (at 3 13)) ∷ decl.OfItem (at 4 7)
    (item.AccessType (at 4 7) (id (at 4 12) "List") (at 4 17) (at 4 20) (mark (at 4 27) "Cell") (at 4 31)) ∷ decl.OfItem
    (at 5 7) (item.RecordType (at 5 7) (id (at 5 12) "Cell") (at 5 17) (at 5 20) (fields_of (id (at 5 27) "Value") []
    (at 5 33) (mark (at 5 35) "Integer") (at 5 42)) (fields_of (id (at 5 44) "Next") [] (at 5 49) (mark (at 5 51)
    "List") (at 5 55) ∷ []) (at 5 57) (at 5 61) (at 5 67)) ∷ decl.Subprogram (at 6 7) (subspec.Procedure (at 6 7) (id
    (at 6 17) "Push") (Some (formals_of (at 6 22) (moded_of (id (at 6 23) "L") [] (at 6 25) (Some (at 6 27)) (Some (at 6
    30)) (mark (at 6 34) "List")) (next_formal.Semicolon (at 6 38) (moded_of (id (at 6 40) "V") [] (at 6 42) None None
    (mark (at 6 44) "Integer")) ∷ []) (at 6 51)))) None (at 6 52) ∷ decl.Subprogram (at 7 7) (subspec.Function (at 7 7)
    (id (at 7 16) "Sum") (Some (formals_of (at 7 20) (moded_of (id (at 7 21) "L") [] (at 7 23) None None (mark (at 7 25)
    "List")) [] (at 7 29))) (at 7 31) (indication_of (mark (at 7 38) "Integer"))) None (at 7 45) ∷ decl.OfItem (at 8 7)
    (objects_of (id (at 8 7) "Total") [] (at 8 13) None (indication_of (mark (at 8 15) "Integer")) (at 8 22)) ∷ []) None
    (at 9 1) (Some (id (at 9 5) "Store")) (at 9 10)) ∷ unit.OfBody (at 10 1) [] (package_body_of (at 10 1) (at 10 9) (id
    (at 10 14) "Store") None (at 10 20) (part.Completed (at 11 4) (subprogram_of (at 11 4) (subspec.Procedure (at 11 4)
    (id (at 11 14) "Push") (Some (formals_of (at 11 19) (moded_of (id (at 11 20) "L") [] (at 11 22) (Some (at 11 24))
    (Some (at 11 27)) (mark (at 11 31) "List")) (next_formal.Semicolon (at 11 35) (moded_of (id (at 11 37) "V") [] (at
    11 39) None None (mark (at 11 41) "Integer")) ∷ []) (at 11 48)))) None (at 11 50) [] (at 12 7) (sole (at 13 1)
    (assign_of (at 13 1) "L" [] (at 13 3) (expr_of (at 13 6) (primary.AllocatedAggregate (at 13 6) (mark (at 13 10)
    "Cell") (at 13 14) (aggregate.Several (at 13 15) (actual_of (at 13 16) (object (at 13 16) "V")) (at 13 17)
    (actual_of (at 13 19) (object (at 13 19) "L")) [] (at 13 20)))) (at 13 21))) (at 14 4) (Some (id (at 14 8) "Push"))
    (at 14 12)) ∷ part.Completed (at 15 7) (subprogram_of (at 15 7) (subspec.Function (at 15 7) (id (at 15 16) "Sum")
    (Some (formals_of (at 15 20) (moded_of (id (at 15 21) "L") [] (at 15 23) None None (mark (at 15 25) "List")) [] (at
    15 29))) (at 15 31) (indication_of (mark (at 15 38) "Integer"))) None (at 15 46) (initialized_of (id (at 16 1) "C")
    [] (at 16 3) None (indication.Anonymous (at 16 5) (Some (at 16 12)) (mark (at 16 21) "Cell")) (at 16 26) (expr_of
    (at 16 29) (object (at 16 29) "L")) (at 16 30) ∷ initialized_of (id (at 17 1) "N") [] (at 17 3) None (indication_of
    (mark (at 17 5) "Integer")) (at 17 13) (expr_of (at 17 16) (primary.Number (at 17 16) 0)) (at 17 17) ∷ []) (at 18 1)
    (stmts.Sequence (at 19 7) (stmt.While (at 19 7) (expr.LoneRelation (at 19 13) (rel.Compared (at 19 13) (sum_of (at
    19 13) (object (at 19 13) "C")) relational.NotEqual (at 19 15) (sum_of (at 19 18) (primary.Null (at 19 18))))) (at
    19 23) (stmts.Sequence (at 19 28) (assign_of (at 19 28) "N" [] (at 19 30) (expr.LoneRelation (at 19 33) (rel.LoneSum
    (at 19 33) (sum.Unsigned (at 19 33) (term_of (at 19 33) (object (at 19 33) "N")) (next_term.FurtherTerm (at 19 35)
    adding.Add (term_of (at 19 37) (named (at 19 37) "C" (suffix.Selected (at 19 38) (id (at 19 39) "Value") ∷ []))) ∷
    [])))) (at 19 44)) (assign_of (at 19 46) "C" [] (at 19 48) (expr_of (at 19 51) (named (at 19 51) "C"
    (suffix.Selected (at 19 52) (id (at 19 53) "Next") ∷ []))) (at 19 57) ∷ [])) (at 19 59) (at 19 63) (at 19 67))
    (stmt.ReturnValue (at 20 1) (expr_of (at 20 8) (object (at 20 8) "N")) (at 20 9) ∷ [])) (at 21 1) (Some (id (at 21
    5) "Sum")) (at 21 8)) ∷ []) (at 22 7) (Some (id (at 22 11) "Store")) (at 22 16)) ∷ []) ∷ (unit.OfSubprogram (at1 1
    1) (context.With (at1 1 1) (selected (at1 1 6) "Ada" (at1 1 9) (at1 1 10) "Text_IO") [] (at1 1 17) ∷ use_context
    (use_of (at1 1 19) None (selected (at1 1 23) "Ada" (at1 1 26) (at1 1 27) "Text_IO") [] (at1 1 34)) ∷ context.With
    (at1 1 36) (selected (at1 1 41) "Ada" (at1 1 44) (at1 1 45) "Integer_Text_IO") [] (at1 1 60) ∷ use_context (use_of
    (at1 1 62) None (selected (at1 1 66) "Ada" (at1 1 69) (at1 1 70) "Integer_Text_IO") [] (at1 1 85)) ∷ context.With
    (at1 1 87) (selected (at1 1 92) "Ada" (at1 1 95) (at1 1 96) "Unchecked_Deallocation") [] (at1 1 118) ∷ context.With
    (at1 1 120) (mark (at1 1 125) "Store") [] (at1 1 130) ∷ use_context (use_of (at1 1 132) None (mark (at1 1 136)
    "Store") [] (at1 1 141)) ∷ []) (subprogram_of (at1 2 1) (subspec.Procedure (at1 2 1) (id (at1 2 11) "Main") None)
    None (at1 2 16) (objects_of (id (at1 3 1) "X") (next_id_of (at1 3 2) (at1 3 4) "Y" ∷ []) (at1 3 6) None
    (indication_of (mark (at1 3 8) "List")) (at1 3 12) ∷ initialized_of (id (at1 4 7) "N") [] (at1 4 9) None
    (indication_of (mark (at1 4 11) "Integer")) (at1 4 19) (expr_of (at1 4 22) (primary.Number (at1 4 22) 3)) (at1 4 23)
    ∷ item.Instance (at1 5 7) (id (at1 5 17) "Free") (at1 5 22) (at1 5 25) (selected (at1 5 29) "Ada" (at1 5 32) (at1 5
    33) "Unchecked_Deallocation") (at1 5 56) (actual_of (at1 5 57) (object (at1 5 57) "Cell")) (next_arg.FurtherArg (at1
    5 61) (actual_of (at1 5 63) (object (at1 5 63) "List")) ∷ []) (at1 5 67) (at1 5 68) ∷ use_item (use_of (at1 5 70)
    (Some (at1 5 74)) (mark (at1 5 79) "True") [] (at1 5 83)) ∷ []) (at1 6 1) (stmts.Sequence (at1 7 4) (call_of (at1 7
    4) "Put_Line" (suffix.Applied (at1 7 13) (actual_of (at1 7 14) (named (at1 7 14) "Integer" (suffix.Attribute (at1 7
    21) (id (at1 7 22) "Image") ∷ suffix.Applied (at1 7 28) (actual_of (at1 7 29) (object (at1 7 29) "N")) [] (at1 7 30)
    ∷ []))) [] (at1 7 31) ∷ []) (at1 7 32)) (assign_of (at1 8 4) "X" [] (at1 8 6) (expr_of (at1 8 9)
    (primary.AllocatedAggregate (at1 8 9) (mark (at1 8 13) "Cell") (at1 8 17) (aggregate.Several (at1 8 18) (actual_of
    (at1 8 19) (object (at1 8 19) "N")) (at1 8 20) (actual_of (at1 8 22) (primary.Null (at1 8 22))) [] (at1 8 26))))
    (at1 8 27) ∷ call_of (at1 9 4) "Push" (suffix.Applied (at1 9 9) (actual_of (at1 9 10) (object (at1 9 10) "X"))
    (next_arg.FurtherArg (at1 9 11) (actual_of (at1 9 13) (object (at1 9 13) "N")) ∷ []) (at1 9 14) ∷ []) (at1 9 15) ∷
    assign_of (at1 10 1) "Total" [] (at1 10 7) (expr_of (at1 10 10) (object (at1 10 10) "N")) (at1 10 11) ∷ [])) (at1 11
    1) (Some (id (at1 11 5) "Main")) (at1 11 9)) ∷ []) ∷ [])
unfolding computes resolves
wrong_in_use_type_4 = refl

wrong_in_use_type_5 : IsFirstBrokenOf Unknown (at 34 178) ((unit.OfPackage (at 1 7) (context.With (at 1 7) (selected (at
    1 12) "Ada" (at 1 15) (at 1 16) "Text_IO") [] (at 1 23) ∷ use_context (use_of (at 1 25) None (selected (at 1 29)
    "Ada" (at 1 32) (at 1 33) "Text_IO") [] (at 1 40)) ∷ context.With (at 1 42) (selected (at 1 47) "Ada" (at 1 50) (at
    1 51) "Integer_Text_IO") [] (at 1 66) ∷ use_context (use_of (at 1 68) None (selected (at 1 72) "Ada" (at 1 75) (at 1
    76) "Integer_Text_IO") [] (at 1 91)) ∷ context.With (at 1 93) (selected (at 1 98) "Ada" (at 1 101) (at 1 102)
    "Unchecked_Deallocation") [] (at 1 124) ∷ []) (package_of (at 2 1) (id (at 2 9) "Store") None (at 2 15) (decl.OfItem
    (at 3 4) (item.IncompleteType (at 3 4) (id (at 3 9) "Cell") (at 3 13)) ∷ decl.OfItem (at 4 4) (item.AccessType (at 4
    4) (id (at 4 9) "List") (at 4 14) (at 4 17) (mark (at 4 24) "Cell") (at 4 28)) ∷ decl.OfItem (at 5 4)
    (item.RecordType (at 5 4) (id (at 5 9) "Cell") (at 5 14) (at 5 17) (fields_of (id (at 5 24) "Value") [] (at 5 30)
    (mark (at 5 32) "Integer") (at 5 39)) (fields_of (id (at 5 41) "Next") [] (at 5 46) (mark (at 5 48) "List") (at 5
    52) ∷ []) (at 5 54) (at 5 58) (at 5 64)) ∷ decl.Subprogram (at 6 7) (subspec.Procedure (at 6 7) (id (at 6 17)
    "Push") (Some (formals_of (at 6 22) (moded_of (id (at 6 23) "L") [] (at 6 25) (Some (at 6 27)) (Some (at 6 30))
    (mark (at 6 34) "List")) (next_formal.Semicolon (at 6 38) (moded_of (id (at 6 40) "V") [] (at 6 42) None None (mark
    (at 6 44) "Integer")) ∷ []) (at 6 51)))) None (at 6 52) ∷ decl.Subprogram (at 7 1) (subspec.Function (at 7 1) (id
    (at 7 10) "Sum") (Some (formals_of (at 7 14) (moded_of (id (at 7 15) "L") [] (at 7 17) None None (mark (at 7 19)
    "List")) [] (at 7 23))) (at 7 25) (indication_of (mark (at 7 32) "Integer"))) None (at 7 39) ∷ decl.OfItem (at 8 4)
    (objects_of (id (at 8 4) "Total") [] (at 8 10) None (indication_of (mark (at 8 12) "Integer")) (at 8 19)) ∷ []) None
    (at 9 4) (Some (id (at 9 8) "Store")) (at 9 13)) ∷ unit.OfBody (at 10 7) [] (package_body_of (at 10 7) (at 10 15)
    (id (at 10 20) "Store") None (at 10 26) (part.Completed (at 11 1) (subprogram_of (at 11 1) (subspec.Procedure (at 11
    1) (id (at 11 11) "Push") (Some (formals_of (at 11 16) (moded_of (id (at 11 17) "L") [] (at 11 19) (Some (at 11 21))
    (Some (at 11 24)) (mark (at 11 28) "List")) (next_formal.Semicolon (at 11 32) (moded_of (id (at 11 34) "V") [] (at
    11 36) None None (mark (at 11 38) "Integer")) ∷ []) (at 11 45)))) None (at 11 47) [] (at 12 4) (sole (at 13 1)
    (assign_of (at 13 1) "L" [] (at 13 3) (expr_of (at 13 6) (primary.AllocatedAggregate (at 13 6) (mark (at 13 10)
    "Cell") (at 13 14) (aggregate.Several (at 13 15) (actual_of (at 13 16) (object (at 13 16) "V")) (at 13 17)
    (actual_of (at 13 19) (object (at 13 19) "L")) [] (at 13 20)))) (at 13 21))) (at 14 1) (Some (id (at 14 5) "Push"))
    (at 14 9)) ∷ part.Completed (at 15 7) (subprogram_of (at 15 7) (subspec.Function (at 15 7) (id (at 15 16) "Sum")
    (Some (formals_of (at 15 20) (moded_of (id (at 15 21) "L") [] (at 15 23) None None (mark (at 15 25) "List")) [] (at
    15 29))) (at 15 31) (indication_of (mark (at 15 38) "Integer"))) None (at 15 46) (initialized_of (id (at 16 1) "C")
    [] (at 16 3) None (indication.Anonymous (at 16 5) (Some (at 16 12)) (mark (at 16 21) "Cell")) (at 16 26) (expr_of
    (at 16 29) (object (at 16 29) "L")) (at 16 30) ∷ initialized_of (id (at 17 1) "N") [] (at 17 3) None (indication_of
    (mark (at 17 5) "Integer")) (at 17 13) (expr_of (at 17 16) (primary.Number (at 17 16) 0)) (at 17 17) ∷ []) (at 18 1)
    (stmts.Sequence (at 19 7) (stmt.While (at 19 7) (expr.LoneRelation (at 19 13) (rel.Compared (at 19 13) (sum_of (at
    19 13) (object (at 19 13) "C")) relational.NotEqual (at 19 15) (sum_of (at 19 18) (primary.Null (at 19 18))))) (at
    19 23) (stmts.Sequence (at 19 28) (assign_of (at 19 28) "N" [] (at 19 30) (expr.LoneRelation (at 19 33) (rel.LoneSum
    (at 19 33) (sum.Unsigned (at 19 33) (term_of (at 19 33) (object (at 19 33) "N")) (next_term.FurtherTerm (at 19 35)
    adding.Add (term_of (at 19 37) (named (at 19 37) "C" (suffix.Selected (at 19 38) (id (at 19 39) "Value") ∷ []))) ∷
    [])))) (at 19 44)) (assign_of (at 19 46) "C" [] (at 19 48) (expr_of (at 19 51) (named (at 19 51) "C"
    (suffix.Selected (at 19 52) (id (at 19 53) "Next") ∷ []))) (at 19 57) ∷ [])) (at 19 59) (at 19 63) (at 19 67))
    (stmt.ReturnValue (at 20 1) (expr_of (at 20 8) (object (at 20 8) "N")) (at 20 9) ∷ [])) (at 21 4) (Some (id (at 21
    8) "Sum")) (at 21 11)) ∷ []) (at 22 1) (Some (id (at 22 5) "Store")) (at 22 10)) ∷ unit.OfSubprogram (at 23 7)
    (context.With (at 23 7) (selected (at 23 12) "Ada" (at 23 15) (at 23 16) "Text_IO") [] (at 23 23) ∷ use_context
    (use_of (at 23 25) None (selected (at 23 29) "Ada" (at 23 32) (at 23 33) "Text_IO") [] (at 23 40)) ∷ context.With
    (at 23 42) (selected (at 23 47) "Ada" (at 23 50) (at 23 51) "Integer_Text_IO") [] (at 23 66) ∷ use_context (use_of
    (at 23 68) None (selected (at 23 72) "Ada" (at 23 75) (at 23 76) "Integer_Text_IO") [] (at 23 91)) ∷ context.With
    (at 23 93) (selected (at 23 98) "Ada" (at 23 101) (at 23 102) "Unchecked_Deallocation") [] (at 23 124) ∷
    context.With (at 23 126) (mark (at 23 131) "Store") [] (at 23 136) ∷ use_context (use_of (at 23 138) None (mark (at
    23 142) "Store") [] (at 23 147)) ∷ []) (subprogram_of (at 24 7) (subspec.Procedure (at 24 7) (id (at 24 17) "Main")
    None) None (at 24 22) (objects_of (id (at 25 1) "X") (next_id_of (at 25 2) (at 25 4) "Y" ∷ []) (at 25 6) None
    (indication_of (mark (at 25 8) "List")) (at 25 12) ∷ initialized_of (id (at 26 1) "N") [] (at 26 3) None
    (indication_of (mark (at 26 5) "Integer")) (at 26 13) (expr_of (at 26 16) (primary.Number (at 26 16) 9)) (at 26 17)
    ∷ item.Instance (at 27 1) (id (at 27 11) "Free") (at 27 16) (at 27 19) (selected (at 27 23) "Ada" (at 27 26) (at 27
    27) "Unchecked_Deallocation") (at 27 50) (actual_of (at 27 51) (object (at 27 51) "Cell")) (next_arg.FurtherArg (at
    27 55) (actual_of (at 27 57) (object (at 27 57) "List")) ∷ []) (at 27 61) (at 27 62) ∷ []) (at 28 7) (stmts.Sequence
    (at 29 4) (stmt.If (at 29 4) (expr.LoneRelation (at 29 7) (rel.LoneSum (at 29 7) (sum.Unsigned (at 29 7)
    (term.Product (at 29 7) (factor.Not (at 29 7) (object (at 29 11) "End_Of_File")) []) []))) (at 29 23) (sole (at 29
    28) (call_of (at 29 28) "Get" (suffix.Applied (at 29 32) (actual_of (at 29 33) (object (at 29 33) "N")) [] (at 29
    34) ∷ []) (at 29 35))) [] (at 29 37) (at 29 41) (at 29 43)) (stmt.IfElse (at 30 4) (expr.LoneRelation (at 30 7)
    (rel.Compared (at 30 7) (sum_of (at 30 7) (object (at 30 7) "N")) relational.Greater (at 30 9) (sum_of (at 30 11)
    (primary.Number (at 30 11) 3)))) (at 30 13) (sole (at 30 18) (assign_of (at 30 18) "N" [] (at 30 20)
    (expr.LoneRelation (at 30 23) (rel.LoneSum (at 30 23) (sum.Unsigned (at 30 23) (term_of (at 30 23) (object (at 30
    23) "N")) (next_term.FurtherTerm (at 30 25) adding.Subtract (term_of (at 30 27) (primary.Number (at 30 27) 1)) ∷
    [])))) (at 30 28))) [] (at 30 30) (sole (at 30 35) (stmt.Null (at 30 35) (at 30 39))) (at 30 41) (at 30 45) (at 30
    47) ∷ stmt.DeclareBlock (at 31 1) (initialized_of (id (at 31 9) "B") [] (at 31 11) None (indication.Anonymous (at 31
    13) None (mark (at 31 20) "Cell")) (at 31 25) (expr_of (at 31 28) (object (at 31 28) "X")) (at 31 29) ∷ []) (at 31
    31) (sole (at 31 37) (stmt.If (at 31 37) (expr.LoneRelation (at 31 40) (rel.Compared (at 31 40) (sum_of (at 31 40)
    (object (at 31 40) "B")) relational.NotEqual (at 31 42) (sum_of (at 31 45) (primary.Null (at 31 45))))) (at 31 50)
    (sole (at 31 55) (assign_of (at 31 55) "B" (suffix.Selected (at 31 56) (id (at 31 57) "Value") ∷ []) (at 31 63)
    (expr_of (at 31 66) (object (at 31 66) "N")) (at 31 67))) [] (at 31 69) (at 31 73) (at 31 75))) (at 31 77) (at 31
    80) ∷ stmt.Case (at 32 1) (expr_of (at 32 6) (object (at 32 6) "N")) (at 32 8) (alternative.Alternative (at 32 11)
    (choice.Value (at 32 16) (expr_of (at 32 16) (primary.Number (at 32 16) 1))) [] (at 32 18) (sole (at 32 21)
    (stmt.Null (at 32 21) (at 32 25)))) (alternative.Alternative (at 32 27) (choice.Others (at 32 32)) [] (at 32 39)
    (sole (at 32 42) (assign_of (at 32 42) "N" [] (at 32 44) (expr_of (at 32 47) (primary.Number (at 32 47) 2)) (at 32
    48))) ∷ []) (at 32 50) (at 32 54) (at 32 58) ∷ [])) (at 33 1) (Some (id (at 33 5) "Main")) (at 33 9)) ∷
    unit.OfPackage (at 34 4) (context.With (at 34 4) (selected (at 34 9) "Ada" (at 34 12) (at 34 13) "Text_IO") [] (at
    34 20) ∷ use_context (use_of (at 34 22) None (selected (at 34 26) "Ada" (at 34 29) (at 34 30) "Text_IO") [] (at 34
    37)) ∷ context.With (at 34 39) (selected (at 34 44) "Ada" (at 34 47) (at 34 48) "Integer_Text_IO") [] (at 34 63) ∷
    use_context (use_of (at 34 65) None (selected (at 34 69) "Ada" (at 34 72) (at 34 73) "Integer_Text_IO") [] (at 34
    88)) ∷ context.With (at 34 90) (selected (at 34 95) "Ada" (at 34 98) (at 34 99) "Unchecked_Deallocation") [] (at 34
    121) ∷ []) (package_of (at 34 123) (id (at 34 131) "Inner_P") None (at 34 139) (decl.OfItem (at 34 142) (objects_of
    (id (at 34 142) "Inner_V") [] (at 34 150) None (indication_of (mark (at 34 152) "Integer")) (at 34 159)) ∷ []) (Some
    (private_part (at 34 161) (decl.OfItem (at 34 169) (use_item (use_of (at 34 169) (Some (at 34 173)) (mark (at 34
    178) "Inner_What") [] (at 34 188))) ∷ []))) (at 34 190) (Some (id (at 34 194) "Inner_P")) (at 34 201)) ∷ []) ∷ [])
unfolding computes resolves
wrong_in_use_type_5 = refl

wrong_in_use_type_6 : IsFirstBrokenOf Unknown (at 2 34) ((unit.OfPackage (at 1 1) (context.With (at 1 1) (selected (at 1
    6) "Ada" (at 1 9) (at 1 10) "Text_IO") [] (at 1 17) ∷ use_context (use_of (at 1 19) None (selected (at 1 23) "Ada"
    (at 1 26) (at 1 27) "Text_IO") [] (at 1 34)) ∷ context.With (at 1 36) (selected (at 1 41) "Ada" (at 1 44) (at 1 45)
    "Integer_Text_IO") [] (at 1 60) ∷ use_context (use_of (at 1 62) None (selected (at 1 66) "Ada" (at 1 69) (at 1 70)
    "Integer_Text_IO") [] (at 1 85)) ∷ context.With (at 1 87) (selected (at 1 92) "Ada" (at 1 95) (at 1 96)
    "Unchecked_Deallocation") [] (at 1 118) ∷ []) (package_of (at 1 120) (id (at 1 128) "Usual_P") None (at 1 136)
    (decl.Subprogram (at 1 139) (subspec.Procedure (at 1 139) (id (at 1 149) "Usual_Do") None) None (at 1 157) ∷ [])
    None (at 1 159) (Some (id (at 1 163) "Usual_P")) (at 1 170)) ∷ unit.OfBody (at 2 1) [] (package_body_of (at 2 1) (at
    2 9) (id (at 2 14) "Usual_P") None (at 2 22) (part.Declared (at 2 25) (decl.OfItem (at 2 25) (use_item (use_of (at 2
    25) (Some (at 2 29)) (selected (at 2 34) "Ada" (at 2 37) (at 2 38) "Text_IO") [] (at 2 45)))) ∷ part.Completed (at 2
    47) (subprogram_of (at 2 47) (subspec.Procedure (at 2 47) (id (at 2 57) "Usual_Do") None) None (at 2 66) [] (at 2
    69) (sole (at 2 75) (stmt.Null (at 2 75) (at 2 79))) (at 2 81) (Some (id (at 2 85) "Usual_Do")) (at 2 93)) ∷ []) (at
    2 95) (Some (id (at 2 99) "Usual_P")) (at 2 106)) ∷ unit.OfPackage (at 3 7) (context.With (at 3 7) (selected (at 3
    12) "Ada" (at 3 15) (at 3 16) "Text_IO") [] (at 3 23) ∷ use_context (use_of (at 3 25) None (selected (at 3 29) "Ada"
    (at 3 32) (at 3 33) "Text_IO") [] (at 3 40)) ∷ context.With (at 3 42) (selected (at 3 47) "Ada" (at 3 50) (at 3 51)
    "Integer_Text_IO") [] (at 3 66) ∷ use_context (use_of (at 3 68) None (selected (at 3 72) "Ada" (at 3 75) (at 3 76)
    "Integer_Text_IO") [] (at 3 91)) ∷ context.With (at 3 93) (selected (at 3 98) "Ada" (at 3 101) (at 3 102)
    "Unchecked_Deallocation") [] (at 3 124) ∷ []) (package_of (at 4 4) (id (at 4 12) "Store") None (at 4 18)
    (decl.OfItem (at 5 4) (item.IncompleteType (at 5 4) (id (at 5 9) "Cell") (at 5 13)) ∷ decl.OfItem (at 6 1)
    (item.AccessType (at 6 1) (id (at 6 6) "List") (at 6 11) (at 6 14) (mark (at 6 21) "Cell") (at 6 25)) ∷ decl.OfItem
    (at 7 7) (item.RecordType (at 7 7) (id (at 7 12) "Cell") (at 7 17) (at 7 20) (fields_of (id (at 7 27) "Value") []
    (at 7 33) (mark (at 7 35) "Integer") (at 7 42)) (fields_of (id (at 7 44) "Next") [] (at 7 49) (mark (at 7 51)
    "List") (at 7 55) ∷ []) (at 7 57) (at 7 61) (at 7 67)) ∷ decl.Subprogram (at 8 7) (subspec.Procedure (at 8 7) (id
    (at 8 17) "Push") (Some (formals_of (at 8 22) (moded_of (id (at 8 23) "L") [] (at 8 25) (Some (at 8 27)) (Some (at 8
    30)) (mark (at 8 34) "List")) (next_formal.Semicolon (at 8 38) (moded_of (id (at 8 40) "V") [] (at 8 42) None None
    (mark (at 8 44) "Integer")) ∷ []) (at 8 51)))) None (at 8 52) ∷ decl.Subprogram (at 9 1) (subspec.Function (at 9 1)
    (id (at 9 10) "Sum") (Some (formals_of (at 9 14) (moded_of (id (at 9 15) "L") [] (at 9 17) None None (mark (at 9 19)
    "List")) [] (at 9 23))) (at 9 25) (indication_of (mark (at 9 32) "Integer"))) None (at 9 39) ∷ decl.OfItem (at 10 1)
    (objects_of (id (at 10 1) "Total") [] (at 10 7) None (indication_of (mark (at 10 9) "Integer")) (at 10 16)) ∷ [])
    None (at 11 1) (Some (id (at 11 5) "Store")) (at 11 10)) ∷ unit.OfBody (at 12 1) [] (package_body_of (at 12 1) (at
    12 9) (id (at 12 14) "Store") None (at 12 20) (part.Completed (at 13 1) (subprogram_of (at 13 1) (subspec.Procedure
    (at 13 1) (id (at 13 11) "Push") (Some (formals_of (at 13 16) (moded_of (id (at 13 17) "L") [] (at 13 19) (Some (at
    13 21)) (Some (at 13 24)) (mark (at 13 28) "List")) (next_formal.Semicolon (at 13 32) (moded_of (id (at 13 34) "V")
    [] (at 13 36) None None (mark (at 13 38) "Integer")) ∷ []) (at 13 45)))) None (at 13 47) [] (at 14 4) (sole (at 15
    1) (assign_of (at 15 1) "L" [] (at 15 3) (expr_of (at 15 6) (primary.AllocatedAggregate (at 15 6) (mark (at 15 10)
    "Cell") (at 15 14) (aggregate.Several (at 15 15) (actual_of (at 15 16) (object (at 15 16) "V")) (at 15 17)
    (actual_of (at 15 19) (object (at 15 19) "L")) [] (at 15 20)))) (at 15 21))) (at 16 1) (Some (id (at 16 5) "Push"))
    (at 16 9)) ∷ part.Completed (at 17 1) (subprogram_of (at 17 1) (subspec.Function (at 17 1) (id (at 17 10) "Sum")
    (Some (formals_of (at 17 14) (moded_of (id (at 17 15) "L") [] (at 17 17) None None (mark (at 17 19) "List")) [] (at
    17 23))) (at 17 25) (indication_of (mark (at 17 32) "Integer"))) None (at 17 40) (initialized_of (id (at 18 1) "C")
    [] (at 18 3) None (indication.Anonymous (at 18 5) (Some (at 18 12)) (mark (at 18 21) "Cell")) (at 18 26) (expr_of
    (at 18 29) (object (at 18 29) "L")) (at 18 30) ∷ initialized_of (id (at 19 1) "N") [] (at 19 3) None (indication_of
    (mark (at 19 5) "Integer")) (at 19 13) (expr_of (at 19 16) (primary.Number (at 19 16) 0)) (at 19 17) ∷ []) (at 20 4)
    (stmts.Sequence (at 21 4) (stmt.While (at 21 4) (expr.LoneRelation (at 21 10) (rel.Compared (at 21 10) (sum_of (at
    21 10) (object (at 21 10) "C")) relational.NotEqual (at 21 12) (sum_of (at 21 15) (primary.Null (at 21 15))))) (at
    21 20) (stmts.Sequence (at 21 25) (assign_of (at 21 25) "N" [] (at 21 27) (expr.LoneRelation (at 21 30) (rel.LoneSum
    (at 21 30) (sum.Unsigned (at 21 30) (term_of (at 21 30) (object (at 21 30) "N")) (next_term.FurtherTerm (at 21 32)
    adding.Add (term_of (at 21 34) (named (at 21 34) "C" (suffix.Selected (at 21 35) (id (at 21 36) "Value") ∷ []))) ∷
    [])))) (at 21 41)) (assign_of (at 21 43) "C" [] (at 21 45) (expr_of (at 21 48) (named (at 21 48) "C"
    (suffix.Selected (at 21 49) (id (at 21 50) "Next") ∷ []))) (at 21 54) ∷ [])) (at 21 56) (at 21 60) (at 21 64))
    (stmt.ReturnValue (at 22 4) (expr_of (at 22 11) (object (at 22 11) "N")) (at 22 12) ∷ [])) (at 23 7) (Some (id (at
    23 11) "Sum")) (at 23 14)) ∷ []) (at 24 1) (Some (id (at 24 5) "Store")) (at 24 10)) ∷ unit.OfSubprogram (at 25 4)
    (context.With (at 25 4) (selected (at 25 9) "Ada" (at 25 12) (at 25 13) "Text_IO") [] (at 25 20) ∷ use_context
    (use_of (at 25 22) None (selected (at 25 26) "Ada" (at 25 29) (at 25 30) "Text_IO") [] (at 25 37)) ∷ context.With
    (at 25 39) (selected (at 25 44) "Ada" (at 25 47) (at 25 48) "Integer_Text_IO") [] (at 25 63) ∷ use_context (use_of
    (at 25 65) None (selected (at 25 69) "Ada" (at 25 72) (at 25 73) "Integer_Text_IO") [] (at 25 88)) ∷ context.With
    (at 25 90) (selected (at 25 95) "Ada" (at 25 98) (at 25 99) "Unchecked_Deallocation") [] (at 25 121) ∷ context.With
    (at 25 123) (mark (at 25 128) "Store") [] (at 25 133) ∷ use_context (use_of (at 25 135) None (mark (at 25 139)
    "Store") [] (at 25 144)) ∷ []) (subprogram_of (at 26 1) (subspec.Procedure (at 26 1) (id (at 26 11) "Main") None)
    None (at 26 16) (objects_of (id (at 27 4) "X") (next_id_of (at 27 5) (at 27 7) "Y" ∷ []) (at 27 9) None
    (indication_of (mark (at 27 11) "List")) (at 27 15) ∷ initialized_of (id (at 28 7) "N") [] (at 28 9) None
    (indication_of (mark (at 28 11) "Integer")) (at 28 19) (expr_of (at 28 22) (primary.Number (at 28 22) 4)) (at 28 23)
    ∷ item.Instance (at 29 7) (id (at 29 17) "Free") (at 29 22) (at 29 25) (selected (at 29 29) "Ada" (at 29 32) (at 29
    33) "Unchecked_Deallocation") (at 29 56) (actual_of (at 29 57) (object (at 29 57) "Cell")) (next_arg.FurtherArg (at
    29 61) (actual_of (at 29 63) (object (at 29 63) "List")) ∷ []) (at 29 67) (at 29 68) ∷ []) (at 30 1) (stmts.Sequence
    (at 31 1) (stmt.IfElse (at 31 1) (expr.LoneRelation (at 31 4) (rel.Compared (at 31 4) (sum_of (at 31 4) (object (at
    31 4) "N")) relational.Greater (at 31 6) (sum_of (at 31 8) (primary.Number (at 31 8) 3)))) (at 31 10) (sole (at 31
    15) (assign_of (at 31 15) "N" [] (at 31 17) (expr.LoneRelation (at 31 20) (rel.LoneSum (at 31 20) (sum.Unsigned (at
    31 20) (term_of (at 31 20) (object (at 31 20) "N")) (next_term.FurtherTerm (at 31 22) adding.Subtract (term_of (at
    31 24) (primary.Number (at 31 24) 1)) ∷ [])))) (at 31 25))) [] (at 31 27) (sole (at 31 32) (stmt.Null (at 31 32) (at
    31 36))) (at 31 38) (at 31 42) (at 31 44)) (assign_of (at 32 1) "N" [] (at 32 3) (expr.LoneRelation (at 32 6)
    (rel.LoneSum (at 32 6) (sum.Unsigned (at 32 6) (term.Product (at 32 6) (factor_of (at 32 6) (object (at 32 6) "N"))
    (next_factor.FurtherFactor (at 32 8) multiplying.Multiply (factor_of (at 32 10) (primary.Number (at 32 10) 2)) ∷
    [])) (next_term.FurtherTerm (at 32 12) adding.Add (term_of (at 32 14) (primary.Number (at 32 14) 1)) ∷ [])))) (at 32
    15) ∷ stmt.DeclareBlock (at 33 4) (initialized_of (id (at 33 12) "B") [] (at 33 14) None (indication.Anonymous (at
    33 16) None (mark (at 33 23) "Cell")) (at 33 28) (expr_of (at 33 31) (object (at 33 31) "X")) (at 33 32) ∷ []) (at
    33 34) (sole (at 33 40) (stmt.If (at 33 40) (expr.LoneRelation (at 33 43) (rel.Compared (at 33 43) (sum_of (at 33
    43) (object (at 33 43) "B")) relational.NotEqual (at 33 45) (sum_of (at 33 48) (primary.Null (at 33 48))))) (at 33
    53) (sole (at 33 58) (assign_of (at 33 58) "B" (suffix.Selected (at 33 59) (id (at 33 60) "Value") ∷ []) (at 33 66)
    (expr_of (at 33 69) (object (at 33 69) "N")) (at 33 70))) [] (at 33 72) (at 33 76) (at 33 78))) (at 33 80) (at 33
    83) ∷ stmt.While (at 34 4) (expr.LoneRelation (at 34 10) (rel.Compared (at 34 10) (sum_of (at 34 10) (object (at 34
    10) "N")) relational.Greater (at 34 12) (sum_of (at 34 14) (primary.Number (at 34 14) 5)))) (at 34 16) (sole (at 34
    21) (assign_of (at 34 21) "N" [] (at 34 23) (expr.LoneRelation (at 34 26) (rel.LoneSum (at 34 26) (sum.Unsigned (at
    34 26) (term.Product (at 34 26) (factor_of (at 34 26) (object (at 34 26) "N")) (next_factor.FurtherFactor (at 34 28)
    multiplying.Divide (factor_of (at 34 30) (primary.Number (at 34 30) 2)) ∷ [])) []))) (at 34 31))) (at 34 33) (at 34
    37) (at 34 41) ∷ [])) (at 35 4) (Some (id (at 35 8) "Main")) (at 35 12)) ∷ []) ∷ [])
unfolding computes resolves
wrong_in_use_type_6 = refl
