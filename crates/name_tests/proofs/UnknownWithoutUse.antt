-- No use clause makes the name visible where it stands: N1.
--
-- tools/tree_terms.py makes this of the sources that data/cases.txt has under its name.
use Rattle.std.proofs.Common.{refl, [], ◌∷◌}
use Rattle.std.specs.Prelude.{None, Some}
use Rattle.ada_tree.specs.declared.operator.AddingOperator.TheVariants as adding
use Rattle.ada_tree.specs.declared.expression.Aggregate.TheVariants as aggregate
use Rattle.ada_tree.specs.declared.statement.When.TheVariants as alternative
use Rattle.ada_tree.specs.declared.expression.Arg.TheVariants as arg
use Rattle.ada_tree.specs.declared.statement.Elsif.TheVariants as branch
use Rattle.ada_tree.specs.declared.range.Choice.TheVariants as choice
use Rattle.ada_tree.specs.declared.unit.Context.TheVariants as context
use Rattle.ada_tree.specs.declared.subprogram.Decl.TheVariants as decl
use Rattle.ada_tree.specs.declared.expression.Expr.TheVariants as expr
use Rattle.ada_tree.specs.declared.expression.Factor.TheVariants as factor
use Rattle.ada_tree.specs.declared.declaration.Indication.TheVariants as indication
use Rattle.ada_tree.specs.declared.declaration.Item.TheVariants as item
use Rattle.ada_tree.specs.declared.operator.MultiplyingOperator.TheVariants as multiplying
use Rattle.ada_tree.specs.declared.expression.NextArg.TheVariants as next_arg
use Rattle.ada_tree.specs.declared.expression.NextFactor.TheVariants as next_factor
use Rattle.ada_tree.specs.declared.expression.NextTerm.TheVariants as next_term
use Rattle.ada_tree.specs.declared.unit.BodyPart.TheVariants as part
use Rattle.ada_tree.specs.declared.expression.Primary.TheVariants as primary
use Rattle.ada_tree.specs.declared.range.Range.TheVariants as range
use Rattle.ada_tree.specs.declared.expression.Rel.TheVariants as rel
use Rattle.ada_tree.specs.declared.operator.RelationalOperator.TheVariants as relational
use Rattle.ada_tree.specs.declared.operator.Sign.TheVariants as sign
use Rattle.ada_tree.specs.declared.statement.Stmt.TheVariants as stmt
use Rattle.ada_tree.specs.declared.statement.Stmts.TheVariants as stmts
use Rattle.ada_tree.specs.declared.subprogram.Subspec.TheVariants as subspec
use Rattle.ada_tree.specs.declared.expression.Suffix.TheVariants as suffix
use Rattle.ada_tree.specs.declared.expression.Sum.TheVariants as sum
use Rattle.ada_tree.specs.declared.expression.Term.TheVariants as term
use Rattle.ada_tree.specs.declared.unit.SourceUnit.TheVariants as unit
use Rattle.ada_grammar.proofs.SmallSources.{computes}
use Rattle.name_events.specs.declared.declaration.NameRule.TheVariants.{Unknown}
use Rattle.name_tests.proofs.SmallRules.{resolves}
use Rattle.name_tests.proofs.SourceTrees.{IsFirstBrokenOf, actual_of, assign_of, at, at1, at2, call_of, expr_of, factor_of, fields_of, id, indication_of, initialized_of, mark, named, next_id_of, object, objects_of, package_body_of, package_of, private_part, rel_of, selected, sole, subprogram_of, sum_of, term_of, use_context, use_item, use_of}

-- The use clause follows the use of the name.
before_use_clause_1 : IsFirstBrokenOf Unknown (at 14 44) ((unit.OfSubprogram (at 1 1) (context.With (at 1 1) (selected
    (at 1 6) "Ada" (at 1 9) (at 1 10) "Text_IO") [] (at 1 17) ∷ use_context (use_of (at 1 19) None (selected (at 1 23)
    "Ada" (at 1 26) (at 1 27) "Text_IO") [] (at 1 34)) ∷ context.With (at 1 36) (selected (at 1 41) "Ada" (at 1 44) (at
    1 45) "Integer_Text_IO") [] (at 1 60) ∷ use_context (use_of (at 1 62) None (selected (at 1 66) "Ada" (at 1 69) (at 1
    70) "Integer_Text_IO") [] (at 1 85)) ∷ context.With (at 1 87) (selected (at 1 92) "Ada" (at 1 95) (at 1 96)
    "Unchecked_Deallocation") [] (at 1 118) ∷ []) (subprogram_of (at 2 1) (subspec.Procedure (at 2 1) (id (at 2 11)
    "Main") None) None (at 2 16) (item.IncompleteType (at 3 1) (id (at 3 6) "Cell") (at 3 10) ∷ item.AccessType (at 4 1)
    (id (at 4 6) "List") (at 4 11) (at 4 14) (mark (at 4 21) "Cell") (at 4 25) ∷ item.RecordType (at 5 1) (id (at 5 6)
    "Cell") (at 5 11) (at 5 14) (fields_of (id (at 5 21) "Value") [] (at 5 27) (mark (at 5 29) "Integer") (at 5 36))
    (fields_of (id (at 5 38) "Next") [] (at 5 43) (mark (at 5 45) "List") (at 5 49) ∷ []) (at 5 51) (at 5 55) (at 5 61)
    ∷ objects_of (id (at 6 1) "X") (next_id_of (at 6 2) (at 6 4) "Y" ∷ []) (at 6 6) None (indication_of (mark (at 6 8)
    "List")) (at 6 12) ∷ initialized_of (id (at 7 1) "N") [] (at 7 3) None (indication_of (mark (at 7 5) "Integer")) (at
    7 13) (expr_of (at 7 16) (primary.Number (at 7 16) 2)) (at 7 17) ∷ []) (at 8 1) (stmts.Sequence (at 9 1) (call_of
    (at 9 1) "Put_Line" (suffix.Applied (at 9 10) (actual_of (at 9 11) (named (at 9 11) "Integer" (suffix.Attribute (at
    9 18) (id (at 9 19) "Image") ∷ suffix.Applied (at 9 25) (actual_of (at 9 26) (object (at 9 26) "N")) [] (at 9 27) ∷
    []))) [] (at 9 28) ∷ []) (at 9 29)) (assign_of (at 10 1) "Y" [] (at 10 3) (expr_of (at 10 6) (object (at 10 6) "X"))
    (at 10 7) ∷ assign_of (at 10 9) "X" [] (at 10 11) (expr_of (at 10 14) (primary.Null (at 10 14))) (at 10 18) ∷
    stmt.Case (at 11 1) (expr_of (at 11 6) (object (at 11 6) "N")) (at 11 8) (alternative.Alternative (at 11 11)
    (choice.Value (at 11 16) (expr_of (at 11 16) (primary.Number (at 11 16) 1))) [] (at 11 18) (sole (at 11 21)
    (stmt.Null (at 11 21) (at 11 25)))) (alternative.Alternative (at 11 27) (choice.Others (at 11 32)) [] (at 11 39)
    (sole (at 11 42) (assign_of (at 11 42) "N" [] (at 11 44) (expr_of (at 11 47) (primary.Number (at 11 47) 2)) (at 11
    48))) ∷ []) (at 11 50) (at 11 54) (at 11 58) ∷ [])) (at 12 1) (Some (id (at 12 5) "Main")) (at 12 9)) ∷
    unit.OfPackage (at 13 1) [] (package_of (at 13 1) (id (at 13 9) "Quick_P") None (at 13 17) (decl.OfItem (at 13 20)
    (item.EnumerationType (at 13 20) (id (at 13 25) "Quick_T") (at 13 33) (at 13 36) (id (at 13 37) "Quick_U")
    (next_id_of (at 13 44) (at 13 46) "Quick_V" ∷ []) (at 13 53) (at 13 54)) ∷ []) None (at 13 56) (Some (id (at 13 60)
    "Quick_P")) (at 13 67)) ∷ unit.OfPackage (at 14 1) (context.With (at 14 1) (mark (at 14 6) "Quick_P") [] (at 14 13)
    ∷ []) (package_of (at 14 15) (id (at 14 23) "Quick_R") None (at 14 31) (decl.OfItem (at 14 34) (objects_of (id (at
    14 34) "Quick_Z") [] (at 14 42) None (indication_of (mark (at 14 44) "Quick_T")) (at 14 51)) ∷ decl.OfItem (at 14
    53) (use_item (use_of (at 14 53) None (mark (at 14 57) "Quick_P") [] (at 14 64))) ∷ []) None (at 14 66) (Some (id
    (at 14 70) "Quick_R")) (at 14 77)) ∷ []) ∷ [])
unfolding computes resolves
before_use_clause_1 = refl

before_use_clause_2 : IsFirstBrokenOf Unknown (at 3 52) ((unit.OfPackage (at 1 7) [] (package_of (at 1 7) (id (at 1 15)
    "Quick_P") None (at 1 23) (decl.OfItem (at 1 26) (objects_of (id (at 1 26) "Quick_X") [] (at 1 34) None
    (indication_of (mark (at 1 36) "Integer")) (at 1 43)) ∷ []) None (at 1 45) (Some (id (at 1 49) "Quick_P")) (at 1
    56)) ∷ unit.OfPackage (at 2 1) (context.With (at 2 1) (mark (at 2 6) "Quick_P") [] (at 2 13) ∷ []) (package_of (at 2
    15) (id (at 2 23) "Quick_R") None (at 2 31) (decl.Subprogram (at 2 34) (subspec.Procedure (at 2 34) (id (at 2 44)
    "Quick_Q") None) None (at 2 51) ∷ []) None (at 2 53) (Some (id (at 2 57) "Quick_R")) (at 2 64)) ∷ unit.OfBody (at 3
    1) [] (package_body_of (at 3 1) (at 3 9) (id (at 3 14) "Quick_R") None (at 3 22) (part.Completed (at 3 25)
    (subprogram_of (at 3 25) (subspec.Procedure (at 3 25) (id (at 3 35) "Quick_Q") None) None (at 3 43) [] (at 3 46)
    (stmts.Sequence (at 3 52) (assign_of (at 3 52) "Quick_X" [] (at 3 60) (expr_of (at 3 63) (primary.Number (at 3 63)
    1)) (at 3 64)) (stmt.DeclareBlock (at 3 66) (use_item (use_of (at 3 74) None (mark (at 3 78) "Quick_P") [] (at 3
    85)) ∷ []) (at 3 87) (sole (at 3 93) (assign_of (at 3 93) "Quick_X" [] (at 3 101) (expr_of (at 3 104)
    (primary.Number (at 3 104) 2)) (at 3 105))) (at 3 107) (at 3 110) ∷ [])) (at 3 112) (Some (id (at 3 116) "Quick_Q"))
    (at 3 123)) ∷ []) (at 3 125) (Some (id (at 3 129) "Quick_R")) (at 3 136)) ∷ unit.OfSubprogram (at 4 7) (context.With
    (at 4 7) (selected (at 4 12) "Ada" (at 4 15) (at 4 16) "Text_IO") [] (at 4 23) ∷ use_context (use_of (at 4 25) None
    (selected (at 4 29) "Ada" (at 4 32) (at 4 33) "Text_IO") [] (at 4 40)) ∷ context.With (at 5 1) (selected (at 5 6)
    "Ada" (at 5 9) (at 5 10) "Integer_Text_IO") [] (at 5 25) ∷ use_context (use_of (at 5 27) None (selected (at 5 31)
    "Ada" (at 5 34) (at 5 35) "Integer_Text_IO") [] (at 5 50)) ∷ context.With (at 6 1) (selected (at 6 6) "Ada" (at 6 9)
    (at 6 10) "Unchecked_Deallocation") [] (at 6 32) ∷ []) (subprogram_of (at 7 4) (subspec.Procedure (at 7 4) (id (at 7
    14) "Main") None) None (at 7 19) (item.AccessType (at 8 7) (id (at 8 12) "P1") (at 8 15) (at 8 18) (mark (at 8 25)
    "Integer") (at 8 32) ∷ item.Instance (at 9 1) (id (at 9 11) "Free1") (at 9 17) (at 9 20) (selected (at 9 24) "Ada"
    (at 9 27) (at 9 28) "Unchecked_Deallocation") (at 9 51) (actual_of (at 9 52) (object (at 9 52) "Integer"))
    (next_arg.FurtherArg (at 9 59) (actual_of (at 9 61) (object (at 9 61) "P1")) ∷ []) (at 9 63) (at 9 64) ∷
    item.AccessType (at 10 1) (id (at 10 6) "P2") (at 10 9) (at 10 12) (mark (at 10 19) "P1") (at 10 21) ∷ item.Subtype
    (at 11 4) (id (at 11 12) "Q1") (at 11 15) (mark (at 11 18) "P1") (at 11 20) ∷ item.RecordType (at 12 1) (id (at 12
    6) "R1") (at 12 9) (at 12 12) (fields_of (id (at 12 19) "F1") [] (at 12 22) (mark (at 12 24) "Integer") (at 12 31))
    [] (at 12 33) (at 12 37) (at 12 43) ∷ objects_of (id (at 13 1) "V1") (next_id_of (at 13 3) (at 13 5) "V2" ∷ []) (at
    13 8) None (indication_of (mark (at 13 10) "P1")) (at 13 12) ∷ initialized_of (id (at 14 7) "K1") [] (at 14 10)
    (Some (at 14 12)) (indication_of (mark (at 14 21) "R1")) (at 14 24) (expr_of (at 14 27) (primary.Aggregated (at 14
    27) (aggregate.Single (at 14 27) (id (at 14 28) "F1") (at 14 31) (expr_of (at 14 34) (primary.Parenthesized (at 14
    34) (expr.LoneRelation (at 14 35) (rel.LoneSum (at 14 35) (sum.Signed (at 14 35) sign.Minus (term_of (at 14 36)
    (primary.Number (at 14 36) 10)) []))) (at 14 38))) (at 14 39)))) (at 14 40) ∷ initialized_of (id (at 15 7) "V3") []
    (at 15 10) None (indication_of (mark (at 15 12) "Integer")) (at 15 20) (expr_of (at 15 23) (primary.Parenthesized
    (at 15 23) (expr.LoneRelation (at 15 24) (rel.LoneSum (at 15 24) (sum.Unsigned (at 15 24) (term.Product (at 15 24)
    (factor_of (at 15 24) (named (at 15 24) "K1" (suffix.Selected (at 15 26) (id (at 15 27) "F1") ∷ [])))
    (next_factor.FurtherFactor (at 15 30) multiplying.Remainder (factor_of (at 15 34) (primary.Number (at 15 34) 4)) ∷
    [])) []))) (at 15 35))) (at 15 36) ∷ objects_of (id (at 16 1) "V4") [] (at 16 4) None (indication_of (mark (at 16 6)
    "Q1")) (at 16 8) ∷ objects_of (id (at 17 7) "T1") [] (at 17 10) None (indication_of (mark (at 17 12) "Integer")) (at
    17 19) ∷ []) (at 18 1) (stmts.Sequence (at 19 7) (stmt.IfElse (at 19 7) (expr.LoneRelation (at 19 10) (rel.Compared
    (at 19 10) (sum_of (at 19 10) (object (at 19 10) "V2")) relational.NotEqual (at 19 13) (sum_of (at 19 16)
    (primary.Null (at 19 16))))) (at 19 21) (sole (at 20 1) (assign_of (at 20 1) "V2" [] (at 20 4) (expr_of (at 20 7)
    (primary.AllocatedValue (at 20 7) (mark (at 20 11) "Integer") (at 20 18) (at 20 19) (expr_of (at 20 20)
    (primary.Parenthesized (at 20 20) (expr.LoneRelation (at 20 21) (rel.LoneSum (at 20 21) (sum.Unsigned (at 20 21)
    (term.Product (at 20 21) (factor_of (at 20 21) (primary.Number (at 20 21) 4)) (next_factor.FurtherFactor (at 20 23)
    multiplying.Modulo (factor_of (at 20 27) (primary.Number (at 20 27) 4)) ∷ [])) []))) (at 20 28))) (at 20 29))) (at
    20 30))) [] (at 21 7) (sole (at 22 4) (assign_of (at 22 4) "T1" [] (at 22 7) (expr_of (at 22 10) (object (at 22 10)
    "T1")) (at 22 12))) (at 23 1) (at 23 5) (at 23 7)) (stmt.DeclareBlock (at 24 1) (initialized_of (id (at 25 1) "C1")
    [] (at 25 4) None (indication.Anonymous (at 25 6) (Some (at 25 13)) (mark (at 25 22) "Integer")) (at 25 30) (expr_of
    (at 25 33) (object (at 25 33) "V4")) (at 25 35) ∷ []) (at 26 1) (stmts.Sequence (at 27 1) (assign_of (at 27 1) "V2"
    [] (at 27 4) (expr_of (at 27 7) (object (at 27 7) "V2")) (at 27 9)) (assign_of (at 28 4) "V2" [] (at 28 7) (expr_of
    (at 28 10) (object (at 28 10) "V2")) (at 28 12) ∷ stmt.DeclareBlock (at 29 1) (initialized_of (id (at 30 7) "C2") []
    (at 30 10) None (indication.Anonymous (at 30 12) (Some (at 30 19)) (mark (at 30 28) "Integer")) (at 30 36) (expr_of
    (at 30 39) (object (at 30 39) "V4")) (at 30 41) ∷ initialized_of (id (at 31 1) "V5") [] (at 31 4) None
    (indication_of (mark (at 31 6) "Integer")) (at 31 14) (expr_of (at 31 17) (primary.Parenthesized (at 31 17)
    (expr.LoneRelation (at 31 18) (rel.LoneSum (at 31 18) (sum.Unsigned (at 31 18) (term.Product (at 31 18) (factor_of
    (at 31 18) (primary.Number (at 31 18) 0)) (next_factor.FurtherFactor (at 31 20) multiplying.Multiply (factor_of (at
    31 22) (object (at 31 22) "T1")) ∷ [])) []))) (at 31 24))) (at 31 25) ∷ []) (at 32 4) (sole (at 33 7) (assign_of (at
    33 7) "V1" [] (at 33 10) (expr_of (at 33 13) (object (at 33 13) "V1")) (at 33 15))) (at 34 1) (at 34 4) ∷ [])) (at
    35 7) (at 35 10) ∷ [])) (at 36 7) (Some (id (at 36 11) "Main")) (at 36 15)) ∷ []) ∷ [])
unfolding computes resolves
before_use_clause_2 = refl

before_use_clause_3 : IsFirstBrokenOf Unknown (at1 1 64) ((unit.OfPackage (at 1 1) [] (package_of (at 1 1) (id (at 1 9)
    "Former_P") None (at 1 18) (decl.OfItem (at 1 21) (objects_of (id (at 1 21) "Former_X") [] (at 1 30) None
    (indication_of (mark (at 1 32) "Integer")) (at 1 39)) ∷ []) None (at 1 41) (Some (id (at 1 45) "Former_P")) (at 1
    53)) ∷ []) ∷ (unit.OfPackage (at1 1 7) (context.With (at1 1 7) (mark (at1 1 12) "Former_P") [] (at1 1 20) ∷ [])
    (package_of (at1 1 22) (id (at1 1 30) "Former_R") None (at1 1 39) (decl.OfItem (at1 1 42) (initialized_of (id (at1 1
    42) "Former_Z") [] (at1 1 51) None (indication_of (mark (at1 1 53) "Integer")) (at1 1 61) (expr_of (at1 1 64)
    (object (at1 1 64) "Former_X")) (at1 1 72)) ∷ decl.OfItem (at1 1 74) (use_item (use_of (at1 1 74) None (mark (at1 1
    78) "Former_P") [] (at1 1 86))) ∷ []) None (at1 1 88) (Some (id (at1 1 92) "Former_R")) (at1 1 100)) ∷ []) ∷
    (unit.OfSubprogram (at2 1 1) (context.With (at2 1 1) (selected (at2 1 6) "Ada" (at2 1 9) (at2 1 10) "Text_IO") []
    (at2 1 17) ∷ use_context (use_of (at2 1 19) None (selected (at2 1 23) "Ada" (at2 1 26) (at2 1 27) "Text_IO") [] (at2
    1 34)) ∷ context.With (at2 2 7) (selected (at2 2 12) "Ada" (at2 2 15) (at2 2 16) "Integer_Text_IO") [] (at2 2 31) ∷
    use_context (use_of (at2 2 33) None (selected (at2 2 37) "Ada" (at2 2 40) (at2 2 41) "Integer_Text_IO") [] (at2 2
    56)) ∷ context.With (at2 3 4) (selected (at2 3 9) "Ada" (at2 3 12) (at2 3 13) "Unchecked_Deallocation") [] (at2 3
    35) ∷ []) (subprogram_of (at2 4 1) (subspec.Procedure (at2 4 1) (id (at2 4 11) "Main") None) None (at2 4 16)
    (item.ArrayType (at2 5 1) (id (at2 5 6) "A1") (at2 5 9) (at2 5 12) (at2 5 18) (range.Bounds (at2 5 19)
    (expr.LoneRelation (at2 5 19) (rel.LoneSum (at2 5 19) (sum.Signed (at2 5 19) sign.Minus (term_of (at2 5 20)
    (primary.Number (at2 5 20) 1)) []))) (at2 5 22) (expr_of (at2 5 25) (primary.Number (at2 5 25) 5))) (at2 5 26) (at2
    5 28) (mark (at2 5 31) "Integer") (at2 5 38) ∷ item.ArrayType (at2 6 1) (id (at2 6 6) "A2") (at2 6 9) (at2 6 12)
    (at2 6 18) (range.Bounds (at2 6 19) (expr_of (at2 6 19) (primary.Number (at2 6 19) 0)) (at2 6 21) (expr_of (at2 6
    24) (primary.Number (at2 6 24) 3))) (at2 6 25) (at2 6 27) (mark (at2 6 30) "A1") (at2 6 32) ∷
    item.ConstrainedSubtype (at2 7 7) (id (at2 7 15) "S1") (at2 7 18) (mark (at2 7 21) "Natural") (at2 7 29) (expr_of
    (at2 7 35) (primary.Number (at2 7 35) 0)) (at2 7 37) (expr_of (at2 7 40) (primary.Number (at2 7 40) 2)) (at2 7 41) ∷
    item.RecordType (at2 8 1) (id (at2 8 6) "R1") (at2 8 9) (at2 8 12) (fields_of (id (at2 8 19) "F1") [] (at2 8 22)
    (mark (at2 8 24) "A1") (at2 8 26)) (fields_of (id (at2 8 28) "F2") [] (at2 8 31) (mark (at2 8 33) "A1") (at2 8 35) ∷
    []) (at2 8 37) (at2 8 41) (at2 8 47) ∷ item.ConstrainedSubtype (at2 9 4) (id (at2 9 12) "S2") (at2 9 15) (mark (at2
    9 18) "Natural") (at2 9 26) (expr_of (at2 9 32) (primary.Number (at2 9 32) 3)) (at2 9 34) (expr_of (at2 9 37)
    (primary.Number (at2 9 37) 10)) (at2 9 39) ∷ initialized_of (id (at2 10 1) "V1") [] (at2 10 4) None (indication_of
    (mark (at2 10 6) "R1")) (at2 10 9) (expr_of (at2 10 12) (primary.Aggregated (at2 10 12) (aggregate.Several (at2 10
    12) (actual_of (at2 10 13) (primary.Aggregated (at2 10 13) (aggregate.Others (at2 10 13) (at2 10 14) (at2 10 21)
    (expr_of (at2 10 24) (primary.Parenthesized (at2 10 24) (expr.LoneRelation (at2 10 25) (rel.LoneSum (at2 10 25)
    (sum.Signed (at2 10 25) sign.Minus (term_of (at2 10 26) (primary.Number (at2 10 26) 19)) []))) (at2 10 28))) (at2 10
    29)))) (at2 10 30) (actual_of (at2 10 32) (primary.Aggregated (at2 10 32) (aggregate.Others (at2 10 32) (at2 10 33)
    (at2 10 40) (expr_of (at2 10 43) (primary.Parenthesized (at2 10 43) (expr.LoneRelation (at2 10 44) (rel.LoneSum (at2
    10 44) (sum.Signed (at2 10 44) sign.Minus (term_of (at2 10 45) (primary.Number (at2 10 45) 14)) []))) (at2 10 47)))
    (at2 10 48)))) [] (at2 10 49)))) (at2 10 50) ∷ initialized_of (id (at2 11 7) "V2") [] (at2 11 10) None
    (indication_of (mark (at2 11 12) "S1")) (at2 11 15) (expr_of (at2 11 18) (named (at2 11 18) "V1" (suffix.Selected
    (at2 11 20) (id (at2 11 21) "F2") ∷ suffix.Applied (at2 11 24) (actual_of (at2 11 25) (primary.Number (at2 11 25)
    2)) [] (at2 11 26) ∷ []))) (at2 11 27) ∷ objects_of (id (at2 12 7) "V3") (next_id_of (at2 12 9) (at2 12 11) "V4" ∷
    []) (at2 12 14) None (indication_of (mark (at2 12 16) "S2")) (at2 12 18) ∷ objects_of (id (at2 13 7) "V5")
    (next_id_of (at2 13 9) (at2 13 11) "V6" ∷ []) (at2 13 14) None (indication_of (mark (at2 13 16) "Boolean")) (at2 13
    23) ∷ initialized_of (id (at2 14 1) "V7") [] (at2 14 4) None (indication_of (mark (at2 14 6) "A2")) (at2 14 9)
    (expr_of (at2 14 12) (primary.Aggregated (at2 14 12) (aggregate.Several (at2 14 12) (actual_of (at2 14 13)
    (primary.Aggregated (at2 14 13) (aggregate.Others (at2 14 13) (at2 14 14) (at2 14 21) (expr_of (at2 14 24)
    (primary.Parenthesized (at2 14 24) (expr.LoneRelation (at2 14 25) (rel.LoneSum (at2 14 25) (sum.Signed (at2 14 25)
    sign.Minus (term_of (at2 14 26) (primary.Number (at2 14 26) 17)) []))) (at2 14 28))) (at2 14 29)))) (at2 14 30)
    (actual_of (at2 14 32) (primary.Aggregated (at2 14 32) (aggregate.Others (at2 14 32) (at2 14 33) (at2 14 40)
    (expr_of (at2 14 43) (primary.Number (at2 14 43) 2)) (at2 14 44)))) (next_arg.FurtherArg (at2 14 45) (actual_of (at2
    14 47) (primary.Aggregated (at2 14 47) (aggregate.Others (at2 14 47) (at2 14 48) (at2 14 55) (expr_of (at2 14 58)
    (primary.Number (at2 14 58) 21)) (at2 14 60)))) ∷ next_arg.FurtherArg (at2 14 61) (actual_of (at2 14 63)
    (primary.Aggregated (at2 14 63) (aggregate.Others (at2 14 63) (at2 14 64) (at2 14 71) (expr_of (at2 14 74)
    (primary.Parenthesized (at2 14 74) (expr.LoneRelation (at2 14 75) (rel.LoneSum (at2 14 75) (sum.Signed (at2 14 75)
    sign.Minus (term_of (at2 14 76) (primary.Number (at2 14 76) 18)) []))) (at2 14 78))) (at2 14 79)))) ∷ []) (at2 14
    80)))) (at2 14 81) ∷ initialized_of (id (at2 15 4) "V8") [] (at2 15 7) None (indication_of (mark (at2 15 9) "S2"))
    (at2 15 12) (expr_of (at2 15 15) (primary.Number (at2 15 15) 7)) (at2 15 16) ∷ objects_of (id (at2 16 1) "T1") []
    (at2 16 4) None (indication_of (mark (at2 16 6) "Integer")) (at2 16 13) ∷ []) (at2 17 1) (stmts.Sequence (at2 18 4)
    (assign_of (at2 18 4) "V8" [] (at2 18 7) (expr_of (at2 18 10) (primary.Number (at2 18 10) 10)) (at2 18 12))
    (assign_of (at2 19 1) "T1" [] (at2 19 4) (expr_of (at2 19 7) (primary.Number (at2 19 7) 0)) (at2 19 8) ∷ stmt.Loop
    (at2 20 7) (stmts.Sequence (at2 21 1) (stmt.ExitWhen (at2 21 1) (at2 21 6) (expr.LoneRelation (at2 21 11)
    (rel.Compared (at2 21 11) (sum_of (at2 21 11) (object (at2 21 11) "T1")) relational.GreaterEqual (at2 21 14) (sum_of
    (at2 21 17) (primary.Number (at2 21 17) 5)))) (at2 21 18)) (assign_of (at2 22 1) "T1" [] (at2 22 4)
    (expr.LoneRelation (at2 22 7) (rel.LoneSum (at2 22 7) (sum.Unsigned (at2 22 7) (term_of (at2 22 7) (object (at2 22
    7) "T1")) (next_term.FurtherTerm (at2 22 10) adding.Add (term_of (at2 22 12) (primary.Number (at2 22 12) 1)) ∷
    [])))) (at2 22 13) ∷ stmt.Block (at2 23 1) (stmts.Sequence (at2 24 1) (assign_of (at2 24 1) "V7" [] (at2 24 4)
    (expr_of (at2 24 7) (primary.Aggregated (at2 24 7) (aggregate.Others (at2 24 7) (at2 24 8) (at2 24 15) (expr_of (at2
    24 18) (named (at2 24 18) "V7" (suffix.Applied (at2 24 21) (actual_of (at2 24 22) (primary.Number (at2 24 22) 3)) []
    (at2 24 23) ∷ []))) (at2 24 24)))) (at2 24 25)) (stmt.If (at2 25 7) (expr.LoneRelation (at2 25 10) (rel.Compared
    (at2 25 10) (sum_of (at2 25 10) (named (at2 25 10) "V7" (suffix.Applied (at2 25 13) (arg.Positional (at2 25 14)
    (expr.LoneRelation (at2 25 14) (rel.LoneSum (at2 25 14) (sum.Unsigned (at2 25 14) (term.Product (at2 25 14)
    (factor_of (at2 25 14) (object (at2 25 14) "V4")) (next_factor.FurtherFactor (at2 25 17) multiplying.Modulo
    (factor_of (at2 25 21) (primary.Number (at2 25 21) 4)) ∷ [])) [])))) [] (at2 25 22) ∷ suffix.Applied (at2 25 24)
    (arg.Positional (at2 25 25) (expr.LoneRelation (at2 25 25) (rel.LoneSum (at2 25 25) (sum.Unsigned (at2 25 25)
    (term.Product (at2 25 25) (factor_of (at2 25 25) (object (at2 25 25) "V8")) (next_factor.FurtherFactor (at2 25 28)
    multiplying.Modulo (factor_of (at2 25 32) (primary.Number (at2 25 32) 7)) ∷ [])) (next_term.FurtherTerm (at2 25 34)
    adding.Subtract (term_of (at2 25 36) (primary.Number (at2 25 36) 1)) ∷ []))))) [] (at2 25 37) ∷ [])))
    relational.LessEqual (at2 25 39) (sum_of (at2 25 42) (primary.Number (at2 25 42) 2147483647)))) (at2 25 53)
    (stmts.Sequence (at2 26 4) (stmt.If (at2 26 4) (expr.LoneRelation (at2 26 7) (rel.Compared (at2 26 7) (sum_of (at2
    26 7) (object (at2 26 7) "V2")) relational.LessEqual (at2 26 10) (sum_of (at2 26 13) (object (at2 26 13) "V4"))))
    (at2 26 16) (stmts.Sequence (at2 27 1) (stmt.If (at2 27 1) (expr.LoneRelation (at2 27 4) (rel.LoneSum (at2 27 4)
    (sum.Unsigned (at2 27 4) (term.Product (at2 27 4) (factor.Not (at2 27 4) (object (at2 27 8) "End_Of_File")) [])
    []))) (at2 27 20) (sole (at2 28 4) (call_of (at2 28 4) "Get" (suffix.Applied (at2 28 8) (actual_of (at2 28 9) (named
    (at2 28 9) "V1" (suffix.Selected (at2 28 11) (id (at2 28 12) "F1") ∷ suffix.Applied (at2 28 15) (actual_of (at2 28
    16) (primary.Number (at2 28 16) 2)) [] (at2 28 17) ∷ []))) [] (at2 28 18) ∷ []) (at2 28 19))) [] (at2 29 4) (at2 29
    8) (at2 29 10)) (assign_of (at2 30 7) "V6" [] (at2 30 10) (expr_of (at2 30 13) (object (at2 30 13) "End_Of_File"))
    (at2 30 24) ∷ [])) (branch.Branch (at2 31 4) (expr.And (at2 31 10) (rel_of (at2 31 10) (primary.Parenthesized (at2
    31 10) (expr.AndThen (at2 31 11) (rel_of (at2 31 11) (primary.Parenthesized (at2 31 11) (expr.LoneRelation (at2 31
    12) (rel.Compared (at2 31 12) (sum_of (at2 31 12) (primary.Number (at2 31 12) 34)) relational.LessEqual (at2 31 15)
    (sum_of (at2 31 18) (primary.Parenthesized (at2 31 18) (expr.LoneRelation (at2 31 19) (rel.LoneSum (at2 31 19)
    (sum.Signed (at2 31 19) sign.Minus (term_of (at2 31 20) (primary.Number (at2 31 20) 11)) []))) (at2 31 22))))) (at2
    31 23))) (at2 31 25) (at2 31 29) (rel_of (at2 31 34) (primary.Parenthesized (at2 31 34) (expr.Or (at2 31 35) (rel_of
    (at2 31 35) (primary.Parenthesized (at2 31 35) (expr_of (at2 31 36) (object (at2 31 36) "False")) (at2 31 41))) (at2
    31 43) (rel_of (at2 31 46) (object (at2 31 46) "True")) []) (at2 31 50))) []) (at2 31 51))) (at2 31 53) (rel_of (at2
    31 57) (primary.Parenthesized (at2 31 57) (expr.LoneRelation (at2 31 58) (rel.Compared (at2 31 58) (sum_of (at2 31
    58) (named (at2 31 58) "V7" (suffix.Applied (at2 31 61) (actual_of (at2 31 62) (primary.Number (at2 31 62) 0)) []
    (at2 31 63) ∷ suffix.Applied (at2 31 65) (actual_of (at2 31 66) (primary.Number (at2 31 66) 4)) [] (at2 31 67) ∷
    []))) relational.LessEqual (at2 31 69) (sum_of (at2 31 72) (primary.Number (at2 31 72) 2)))) (at2 31 73))) []) (at2
    31 75) (stmts.Sequence (at2 32 1) (assign_of (at2 32 1) "V1" (suffix.Selected (at2 32 3) (id (at2 32 4) "F2") ∷
    suffix.Applied (at2 32 7) (actual_of (at2 32 8) (primary.Number (at2 32 8) 4)) [] (at2 32 9) ∷ []) (at2 32 11)
    (expr_of (at2 32 14) (object (at2 32 14) "V3")) (at2 32 16)) (stmt.ExitWhen (at2 33 4) (at2 33 9) (expr.LoneRelation
    (at2 33 14) (rel.Compared (at2 33 14) (sum_of (at2 33 14) (object (at2 33 14) "V3")) relational.Less (at2 33 17)
    (sum_of (at2 33 19) (primary.Number (at2 33 19) 17)))) (at2 33 21) ∷ [])) ∷ []) (at2 34 4) (at2 34 8) (at2 34 10))
    (stmt.Null (at2 35 4) (at2 35 8) ∷ [])) (branch.Branch (at2 36 1) (expr.LoneRelation (at2 36 7) (rel.Compared (at2
    36 7) (sum_of (at2 36 7) (primary.Parenthesized (at2 36 7) (expr.LoneRelation (at2 36 8) (rel.LoneSum (at2 36 8)
    (sum.Signed (at2 36 8) sign.Minus (term_of (at2 36 9) (primary.Number (at2 36 9) 20)) []))) (at2 36 11)))
    relational.NotEqual (at2 36 13) (sum_of (at2 36 16) (named (at2 36 16) "V1" (suffix.Selected (at2 36 18) (id (at2 36
    19) "F2") ∷ suffix.Applied (at2 36 22) (arg.Positional (at2 36 23) (expr.LoneRelation (at2 36 23) (rel.LoneSum (at2
    36 23) (sum.Unsigned (at2 36 23) (term.Product (at2 36 23) (factor_of (at2 36 23) (object (at2 36 23) "V8"))
    (next_factor.FurtherFactor (at2 36 26) multiplying.Modulo (factor_of (at2 36 30) (primary.Number (at2 36 30) 7)) ∷
    [])) (next_term.FurtherTerm (at2 36 32) adding.Subtract (term_of (at2 36 34) (primary.Number (at2 36 34) 1)) ∷
    []))))) [] (at2 36 35) ∷ []))))) (at2 36 37) (sole (at2 37 4) (assign_of (at2 37 4) "V1" [] (at2 37 7) (expr_of (at2
    37 10) (object (at2 37 10) "V1")) (at2 37 12))) ∷ []) (at2 38 4) (at2 38 8) (at2 38 10) ∷ [])) (at2 39 4) (at2 39 7)
    ∷ [])) (at2 40 7) (at2 40 11) (at2 40 15) ∷ [])) (at2 41 4) (Some (id (at2 41 8) "Main")) (at2 41 12)) ∷ []) ∷ [])
unfolding computes resolves
before_use_clause_3 = refl

-- A use clause makes the visible part alone visible, and in its region alone.
not_made_visible_1 : IsFirstBrokenOf Unknown (at 1 146) ((unit.OfPackage (at 1 1) [] (package_of (at 1 1) (id (at 1 9)
    "Spare_P") None (at 1 17) (decl.OfItem (at 1 20) (objects_of (id (at 1 20) "Spare_Y") [] (at 1 28) None
    (indication_of (mark (at 1 30) "Integer")) (at 1 37)) ∷ []) (Some (private_part (at 1 39) (decl.OfItem (at 1 47)
    (objects_of (id (at 1 47) "Spare_X") [] (at 1 55) None (indication_of (mark (at 1 57) "Integer")) (at 1 64)) ∷ [])))
    (at 1 66) (Some (id (at 1 70) "Spare_P")) (at 1 77)) ∷ unit.OfPackage (at 1 79) (context.With (at 1 79) (mark (at 1
    84) "Spare_P") [] (at 1 91) ∷ use_context (use_of (at 1 93) None (mark (at 1 97) "Spare_P") [] (at 1 104)) ∷ [])
    (package_of (at 1 106) (id (at 1 114) "Spare_R") None (at 1 122) (decl.OfItem (at 1 125) (initialized_of (id (at 1
    125) "Spare_Z") [] (at 1 133) None (indication_of (mark (at 1 135) "Integer")) (at 1 143) (expr_of (at 1 146)
    (object (at 1 146) "Spare_X")) (at 1 153)) ∷ []) None (at 1 155) (Some (id (at 1 159) "Spare_R")) (at 1 166)) ∷
    unit.OfSubprogram (at 2 1) (context.With (at 2 1) (selected (at 2 6) "Ada" (at 2 9) (at 2 10) "Text_IO") [] (at 2
    17) ∷ use_context (use_of (at 2 19) None (selected (at 2 23) "Ada" (at 2 26) (at 2 27) "Text_IO") [] (at 2 34)) ∷
    context.With (at 2 36) (selected (at 2 41) "Ada" (at 2 44) (at 2 45) "Integer_Text_IO") [] (at 2 60) ∷ use_context
    (use_of (at 2 62) None (selected (at 2 66) "Ada" (at 2 69) (at 2 70) "Integer_Text_IO") [] (at 2 85)) ∷ context.With
    (at 2 87) (selected (at 2 92) "Ada" (at 2 95) (at 2 96) "Unchecked_Deallocation") [] (at 2 118) ∷ []) (subprogram_of
    (at 3 1) (subspec.Procedure (at 3 1) (id (at 3 11) "Main") None) None (at 3 16) (item.IncompleteType (at 4 1) (id
    (at 4 6) "Cell") (at 4 10) ∷ item.AccessType (at 5 1) (id (at 5 6) "List") (at 5 11) (at 5 14) (mark (at 5 21)
    "Cell") (at 5 25) ∷ item.RecordType (at 5 27) (id (at 5 32) "Cell") (at 5 37) (at 5 40) (fields_of (id (at 5 47)
    "Value") [] (at 5 53) (mark (at 5 55) "Integer") (at 5 62)) (fields_of (id (at 5 64) "Next") [] (at 5 69) (mark (at
    5 71) "List") (at 5 75) ∷ []) (at 5 77) (at 5 81) (at 5 87) ∷ objects_of (id (at 6 1) "X") (next_id_of (at 6 2) (at
    6 4) "Y" ∷ []) (at 6 6) None (indication_of (mark (at 6 8) "List")) (at 6 12) ∷ initialized_of (id (at 6 14) "N") []
    (at 6 16) None (indication_of (mark (at 6 18) "Integer")) (at 6 26) (expr_of (at 6 29) (primary.Number (at 6 29) 0))
    (at 6 30) ∷ item.Instance (at 6 32) (id (at 6 42) "Free") (at 6 47) (at 6 50) (selected (at 6 54) "Ada" (at 6 57)
    (at 6 58) "Unchecked_Deallocation") (at 6 81) (actual_of (at 6 82) (object (at 6 82) "Cell")) (next_arg.FurtherArg
    (at 6 86) (actual_of (at 6 88) (object (at 6 88) "List")) ∷ []) (at 6 92) (at 6 93) ∷ []) (at 7 1) (stmts.Sequence
    (at 8 1) (stmt.For (at 8 1) (id (at 8 5) "I") (at 8 7) None (range.Bounds (at 8 10) (expr_of (at 8 10)
    (primary.Number (at 8 10) 1)) (at 8 12) (expr_of (at 8 15) (primary.Number (at 8 15) 3))) (at 8 17) (sole (at 8 22)
    (assign_of (at 8 22) "N" [] (at 8 24) (expr.LoneRelation (at 8 27) (rel.LoneSum (at 8 27) (sum.Unsigned (at 8 27)
    (term_of (at 8 27) (object (at 8 27) "N")) (next_term.FurtherTerm (at 8 29) adding.Add (term_of (at 8 31) (object
    (at 8 31) "I")) ∷ [])))) (at 8 32))) (at 8 34) (at 8 38) (at 8 42)) (stmt.While (at 8 44) (expr.LoneRelation (at 8
    50) (rel.Compared (at 8 50) (sum_of (at 8 50) (object (at 8 50) "N")) relational.Greater (at 8 52) (sum_of (at 8 54)
    (primary.Number (at 8 54) 5)))) (at 8 56) (sole (at 8 61) (assign_of (at 8 61) "N" [] (at 8 63) (expr.LoneRelation
    (at 8 66) (rel.LoneSum (at 8 66) (sum.Unsigned (at 8 66) (term.Product (at 8 66) (factor_of (at 8 66) (object (at 8
    66) "N")) (next_factor.FurtherFactor (at 8 68) multiplying.Divide (factor_of (at 8 70) (primary.Number (at 8 70) 2))
    ∷ [])) []))) (at 8 71))) (at 8 73) (at 8 77) (at 8 81) ∷ [])) (at 8 83) (Some (id (at 8 87) "Main")) (at 8 91)) ∷
    []) ∷ [])
unfolding computes resolves
not_made_visible_1 = refl

not_made_visible_2 : IsFirstBrokenOf Unknown (at1 1 98) ((unit.OfPackage (at 1 1) [] (package_of (at 1 1) (id (at 1 9)
    "Plain_P") None (at 1 17) (decl.OfItem (at 1 20) (objects_of (id (at 1 20) "Plain_X") [] (at 1 28) None
    (indication_of (mark (at 1 30) "Integer")) (at 1 37)) ∷ []) None (at 1 39) (Some (id (at 1 43) "Plain_P")) (at 1
    50)) ∷ unit.OfPackage (at 2 1) (context.With (at 2 1) (mark (at 2 6) "Plain_P") [] (at 2 13) ∷ []) (package_of (at 2
    15) (id (at 2 23) "Plain_R") None (at 2 31) (decl.Subprogram (at 2 34) (subspec.Procedure (at 2 34) (id (at 2 44)
    "Plain_Q") None) None (at 2 51) ∷ []) None (at 2 53) (Some (id (at 2 57) "Plain_R")) (at 2 64)) ∷ []) ∷ (unit.OfBody
    (at1 1 1) [] (package_body_of (at1 1 1) (at1 1 9) (id (at1 1 14) "Plain_R") None (at1 1 22) (part.Completed (at1 1
    25) (subprogram_of (at1 1 25) (subspec.Procedure (at1 1 25) (id (at1 1 35) "Plain_Q") None) None (at1 1 43) [] (at1
    1 46) (stmts.Sequence (at1 1 52) (stmt.DeclareBlock (at1 1 52) (use_item (use_of (at1 1 60) None (mark (at1 1 64)
    "Plain_P") [] (at1 1 71)) ∷ []) (at1 1 73) (sole (at1 1 79) (assign_of (at1 1 79) "Plain_X" [] (at1 1 87) (expr_of
    (at1 1 90) (primary.Number (at1 1 90) 1)) (at1 1 91))) (at1 1 93) (at1 1 96)) (assign_of (at1 1 98) "Plain_X" []
    (at1 1 106) (expr_of (at1 1 109) (primary.Number (at1 1 109) 2)) (at1 1 110) ∷ [])) (at1 1 112) (Some (id (at1 1
    116) "Plain_Q")) (at1 1 123)) ∷ []) (at1 1 125) (Some (id (at1 1 129) "Plain_R")) (at1 1 136)) ∷ unit.OfSubprogram
    (at1 2 1) (context.With (at1 2 1) (selected (at1 2 6) "Ada" (at1 2 9) (at1 2 10) "Text_IO") [] (at1 2 17) ∷
    use_context (use_of (at1 2 19) None (selected (at1 2 23) "Ada" (at1 2 26) (at1 2 27) "Text_IO") [] (at1 2 34)) ∷
    context.With (at1 2 36) (selected (at1 2 41) "Ada" (at1 2 44) (at1 2 45) "Integer_Text_IO") [] (at1 2 60) ∷
    use_context (use_of (at1 2 62) None (selected (at1 2 66) "Ada" (at1 2 69) (at1 2 70) "Integer_Text_IO") [] (at1 2
    85)) ∷ context.With (at1 2 87) (selected (at1 2 92) "Ada" (at1 2 95) (at1 2 96) "Unchecked_Deallocation") [] (at1 2
    118) ∷ []) (subprogram_of (at1 3 1) (subspec.Procedure (at1 3 1) (id (at1 3 11) "Main") None) None (at1 3 16)
    (item.IncompleteType (at1 4 1) (id (at1 4 6) "Cell") (at1 4 10) ∷ item.AccessType (at1 5 1) (id (at1 5 6) "List")
    (at1 5 11) (at1 5 14) (mark (at1 5 21) "Cell") (at1 5 25) ∷ item.RecordType (at1 6 1) (id (at1 6 6) "Cell") (at1 6
    11) (at1 6 14) (fields_of (id (at1 6 21) "Value") [] (at1 6 27) (mark (at1 6 29) "Integer") (at1 6 36)) (fields_of
    (id (at1 6 38) "Next") [] (at1 6 43) (mark (at1 6 45) "List") (at1 6 49) ∷ []) (at1 6 51) (at1 6 55) (at1 6 61) ∷
    objects_of (id (at1 7 1) "X") (next_id_of (at1 7 2) (at1 7 4) "Y" ∷ []) (at1 7 6) None (indication_of (mark (at1 7
    8) "List")) (at1 7 12) ∷ initialized_of (id (at1 8 1) "N") [] (at1 8 3) None (indication_of (mark (at1 8 5)
    "Integer")) (at1 8 13) (expr_of (at1 8 16) (primary.Number (at1 8 16) 4)) (at1 8 17) ∷ item.Instance (at1 9 1) (id
    (at1 9 11) "Free") (at1 9 16) (at1 9 19) (selected (at1 9 23) "Ada" (at1 9 26) (at1 9 27) "Unchecked_Deallocation")
    (at1 9 50) (actual_of (at1 9 51) (object (at1 9 51) "Cell")) (next_arg.FurtherArg (at1 9 55) (actual_of (at1 9 57)
    (object (at1 9 57) "List")) ∷ []) (at1 9 61) (at1 9 62) ∷ []) (at1 10 1) (stmts.Sequence (at1 11 1) (assign_of (at1
    11 1) "N" [] (at1 11 3) (expr.LoneRelation (at1 11 6) (rel.LoneSum (at1 11 6) (sum.Unsigned (at1 11 6) (term.Product
    (at1 11 6) (factor_of (at1 11 6) (object (at1 11 6) "N")) (next_factor.FurtherFactor (at1 11 8) multiplying.Multiply
    (factor_of (at1 11 10) (primary.Number (at1 11 10) 2)) ∷ [])) (next_term.FurtherTerm (at1 11 12) adding.Add (term_of
    (at1 11 14) (primary.Number (at1 11 14) 1)) ∷ [])))) (at1 11 15)) (call_of (at1 12 1) "Put_Line" (suffix.Applied
    (at1 12 10) (actual_of (at1 12 11) (named (at1 12 11) "Integer" (suffix.Attribute (at1 12 18) (id (at1 12 19)
    "Image") ∷ suffix.Applied (at1 12 25) (actual_of (at1 12 26) (object (at1 12 26) "N")) [] (at1 12 27) ∷ []))) []
    (at1 12 28) ∷ []) (at1 12 29) ∷ [])) (at1 13 1) (Some (id (at1 13 5) "Main")) (at1 13 9)) ∷ []) ∷ [])
unfolding computes resolves
not_made_visible_2 = refl

not_made_visible_3 : IsFirstBrokenOf Unknown (at 3 74) ((unit.OfPackage (at 1 7) [] (package_of (at 1 7) (id (at 1 15)
    "Minor_P") None (at 1 23) (decl.Subprogram (at 1 26) (subspec.Procedure (at 1 26) (id (at 1 36) "Minor_Q") None)
    None (at 1 43) ∷ []) None (at 1 45) (Some (id (at 1 49) "Minor_P")) (at 1 56)) ∷ unit.OfBody (at 2 7) []
    (package_body_of (at 2 7) (at 2 15) (id (at 2 20) "Minor_P") None (at 2 28) (part.Declared (at 2 31) (decl.OfItem
    (at 2 31) (objects_of (id (at 2 31) "Minor_X") [] (at 2 39) None (indication_of (mark (at 2 41) "Integer")) (at 2
    48))) ∷ part.Completed (at 2 50) (subprogram_of (at 2 50) (subspec.Procedure (at 2 50) (id (at 2 60) "Minor_Q")
    None) None (at 2 68) [] (at 2 71) (sole (at 2 77) (assign_of (at 2 77) "Minor_X" [] (at 2 85) (expr_of (at 2 88)
    (primary.Number (at 2 88) 1)) (at 2 89))) (at 2 91) (Some (id (at 2 95) "Minor_Q")) (at 2 102)) ∷ []) (at 2 104)
    (Some (id (at 2 108) "Minor_P")) (at 2 115)) ∷ unit.OfPackage (at 3 7) (context.With (at 3 7) (mark (at 3 12)
    "Minor_P") [] (at 3 19) ∷ use_context (use_of (at 3 21) None (mark (at 3 25) "Minor_P") [] (at 3 32)) ∷ [])
    (package_of (at 3 34) (id (at 3 42) "Minor_R") None (at 3 50) (decl.OfItem (at 3 53) (initialized_of (id (at 3 53)
    "Minor_Z") [] (at 3 61) None (indication_of (mark (at 3 63) "Integer")) (at 3 71) (expr_of (at 3 74) (object (at 3
    74) "Minor_X")) (at 3 81)) ∷ []) None (at 3 83) (Some (id (at 3 87) "Minor_R")) (at 3 94)) ∷ unit.OfSubprogram (at 4
    1) (context.With (at 4 1) (selected (at 4 6) "Ada" (at 4 9) (at 4 10) "Text_IO") [] (at 4 17) ∷ use_context (use_of
    (at 4 19) None (selected (at 4 23) "Ada" (at 4 26) (at 4 27) "Text_IO") [] (at 4 34)) ∷ context.With (at 4 36)
    (selected (at 4 41) "Ada" (at 4 44) (at 4 45) "Integer_Text_IO") [] (at 4 60) ∷ use_context (use_of (at 4 62) None
    (selected (at 4 66) "Ada" (at 4 69) (at 4 70) "Integer_Text_IO") [] (at 4 85)) ∷ context.With (at 4 87) (selected
    (at 4 92) "Ada" (at 4 95) (at 4 96) "Unchecked_Deallocation") [] (at 4 118) ∷ []) (subprogram_of (at 5 7)
    (subspec.Procedure (at 5 7) (id (at 5 17) "Main") None) None (at 5 22) (item.IncompleteType (at 6 1) (id (at 6 6)
    "Cell") (at 6 10) ∷ item.AccessType (at 7 4) (id (at 7 9) "List") (at 7 14) (at 7 17) (mark (at 7 24) "Cell") (at 7
    28) ∷ item.RecordType (at 8 1) (id (at 8 6) "Cell") (at 8 11) (at 8 14) (fields_of (id (at 8 21) "Value") [] (at 8
    27) (mark (at 8 29) "Integer") (at 8 36)) (fields_of (id (at 8 38) "Next") [] (at 8 43) (mark (at 8 45) "List") (at
    8 49) ∷ []) (at 8 51) (at 8 55) (at 8 61) ∷ objects_of (id (at 9 1) "X") (next_id_of (at 9 2) (at 9 4) "Y" ∷ []) (at
    9 6) None (indication_of (mark (at 9 8) "List")) (at 9 12) ∷ initialized_of (id (at 10 1) "N") [] (at 10 3) None
    (indication_of (mark (at 10 5) "Integer")) (at 10 13) (expr_of (at 10 16) (primary.Number (at 10 16) 2)) (at 10 17)
    ∷ item.Instance (at 11 1) (id (at 11 11) "Free") (at 11 16) (at 11 19) (selected (at 11 23) "Ada" (at 11 26) (at 11
    27) "Unchecked_Deallocation") (at 11 50) (actual_of (at 11 51) (object (at 11 51) "Cell")) (next_arg.FurtherArg (at
    11 55) (actual_of (at 11 57) (object (at 11 57) "List")) ∷ []) (at 11 61) (at 11 62) ∷ []) (at 12 7) (stmts.Sequence
    (at 13 7) (stmt.If (at 13 7) (expr.LoneRelation (at 13 10) (rel.LoneSum (at 13 10) (sum.Unsigned (at 13 10)
    (term.Product (at 13 10) (factor.Not (at 13 10) (object (at 13 14) "End_Of_File")) []) []))) (at 13 26) (sole (at 13
    31) (call_of (at 13 31) "Get" (suffix.Applied (at 13 35) (actual_of (at 13 36) (object (at 13 36) "N")) [] (at 13
    37) ∷ []) (at 13 38))) [] (at 13 40) (at 13 44) (at 13 46)) (call_of (at 14 7) "Put_Line" (suffix.Applied (at 14 16)
    (actual_of (at 14 17) (named (at 14 17) "Integer" (suffix.Attribute (at 14 24) (id (at 14 25) "Image") ∷
    suffix.Applied (at 14 31) (actual_of (at 14 32) (object (at 14 32) "N")) [] (at 14 33) ∷ []))) [] (at 14 34) ∷ [])
    (at 14 35) ∷ stmt.Case (at 15 4) (expr_of (at 15 9) (object (at 15 9) "N")) (at 15 11) (alternative.Alternative (at
    15 14) (choice.Value (at 15 19) (expr_of (at 15 19) (primary.Number (at 15 19) 1))) [] (at 15 21) (sole (at 15 24)
    (stmt.Null (at 15 24) (at 15 28)))) (alternative.Alternative (at 15 30) (choice.Others (at 15 35)) [] (at 15 42)
    (sole (at 15 45) (assign_of (at 15 45) "N" [] (at 15 47) (expr_of (at 15 50) (primary.Number (at 15 50) 2)) (at 15
    51))) ∷ []) (at 15 53) (at 15 57) (at 15 61) ∷ assign_of (at 16 4) "N" [] (at 16 6) (expr.LoneRelation (at 16 9)
    (rel.LoneSum (at 16 9) (sum.Unsigned (at 16 9) (term.Product (at 16 9) (factor_of (at 16 9) (object (at 16 9) "N"))
    (next_factor.FurtherFactor (at 16 11) multiplying.Multiply (factor_of (at 16 13) (primary.Number (at 16 13) 2)) ∷
    [])) (next_term.FurtherTerm (at 16 15) adding.Add (term_of (at 16 17) (primary.Number (at 16 17) 1)) ∷ [])))) (at 16
    18) ∷ stmt.IfElse (at 17 7) (expr.LoneRelation (at 17 10) (rel.Compared (at 17 10) (sum_of (at 17 10) (object (at 17
    10) "N")) relational.Greater (at 17 12) (sum_of (at 17 14) (primary.Number (at 17 14) 3)))) (at 17 16) (sole (at 17
    21) (assign_of (at 17 21) "N" [] (at 17 23) (expr.LoneRelation (at 17 26) (rel.LoneSum (at 17 26) (sum.Unsigned (at
    17 26) (term_of (at 17 26) (object (at 17 26) "N")) (next_term.FurtherTerm (at 17 28) adding.Subtract (term_of (at
    17 30) (primary.Number (at 17 30) 1)) ∷ [])))) (at 17 31))) [] (at 17 33) (sole (at 17 38) (stmt.Null (at 17 38) (at
    17 42))) (at 17 44) (at 17 48) (at 17 50) ∷ [])) (at 18 1) (Some (id (at 18 5) "Main")) (at 18 9)) ∷ []) ∷ [])
unfolding computes resolves
not_made_visible_3 = refl
