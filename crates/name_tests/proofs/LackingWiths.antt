-- A package is named in a unit that has no with of it: N3.
--
-- tools/tree_terms.py makes this of the sources that data/cases.txt has under its name.
use Rattle.std.proofs.Common.{refl, [], ◌∷◌}
use Rattle.std.specs.Prelude.{None, Some, codes}
use Rattle.ada_tree.specs.declared.operator.AddingOperator.TheVariants as adding
use Rattle.ada_tree.specs.declared.expression.Aggregate.TheVariants as aggregate
use Rattle.ada_tree.specs.declared.statement.When.TheVariants as alternative
use Rattle.ada_tree.specs.declared.expression.Arg.TheVariants as arg
use Rattle.ada_tree.specs.declared.statement.Elsif.TheVariants as branch
use Rattle.ada_tree.specs.declared.range.Choice.TheVariants as choice
use Rattle.ada_tree.specs.declared.unit.Context.TheVariants as context
use Rattle.ada_tree.specs.declared.subprogram.Decl.TheVariants as decl
use Rattle.ada_tree.specs.declared.expression.Expr.TheVariants as expr
use Rattle.ada_tree.specs.declared.expression.Factor.TheVariants as factor
use Rattle.ada_tree.specs.declared.declaration.Indication.TheVariants as indication
use Rattle.ada_tree.specs.declared.declaration.Item.TheVariants as item
use Rattle.ada_tree.specs.declared.operator.MultiplyingOperator.TheVariants as multiplying
use Rattle.ada_tree.specs.declared.expression.NextArg.TheVariants as next_arg
use Rattle.ada_tree.specs.declared.identifier.NextDotted.TheVariants as next_dotted
use Rattle.ada_tree.specs.declared.expression.NextFactor.TheVariants as next_factor
use Rattle.ada_tree.specs.declared.subprogram.NextFormal.TheVariants as next_formal
use Rattle.ada_tree.specs.declared.expression.NextTerm.TheVariants as next_term
use Rattle.ada_tree.specs.declared.unit.BodyPart.TheVariants as part
use Rattle.ada_tree.specs.declared.expression.Primary.TheVariants as primary
use Rattle.ada_tree.specs.declared.range.Range.TheVariants as range
use Rattle.ada_tree.specs.declared.expression.Rel.TheVariants as rel
use Rattle.ada_tree.specs.declared.operator.RelationalOperator.TheVariants as relational
use Rattle.ada_tree.specs.declared.operator.Sign.TheVariants as sign
use Rattle.ada_tree.specs.declared.statement.Stmt.TheVariants as stmt
use Rattle.ada_tree.specs.declared.statement.Stmts.TheVariants as stmts
use Rattle.ada_tree.specs.declared.subprogram.Subspec.TheVariants as subspec
use Rattle.ada_tree.specs.declared.expression.Suffix.TheVariants as suffix
use Rattle.ada_tree.specs.declared.expression.Sum.TheVariants as sum
use Rattle.ada_tree.specs.declared.expression.Term.TheVariants as term
use Rattle.ada_tree.specs.declared.unit.SourceUnit.TheVariants as unit
use Rattle.ada_grammar.proofs.SmallSources.{computes}
use Rattle.name_events.specs.declared.declaration.NameRule.TheVariants.{NotVisible}
use Rattle.name_tests.proofs.SmallRules.{resolves}
use Rattle.name_tests.proofs.SourceTrees.{IsFirstBrokenOf, actual_of, assign_of, association_of, at, at1, call_of, expr_of, factor_of, fields_of, formals_of, id, indication_of, initialized_of, mark, mode_of, mode_on, moded_of, named, next_id_of, object, objects_of, package_body_of, package_of, rel_of, selected, sole, subprogram_of, sum_of, term_of, use_context, use_item, use_of}

-- A package of the program, or Ada.
no_with_1 : IsFirstBrokenOf NotVisible (at 2 8) ((unit.OfPackage (at 1 1) [] (package_of (at 1 1) (id (at 1 9)
    "Spare_P") None (at 1 17) (decl.OfItem (at 1 20) (objects_of (id (at 1 20) "Spare_X") [] (at 1 28) None
    (indication_of (mark (at 1 30) "Integer")) (at 1 37)) ∷ []) None (at 1 39) (Some (id (at 1 43) "Spare_P")) (at 1
    50)) ∷ unit.OfPackage (at 2 4) (use_context (use_of (at 2 4) None (mark (at 2 8) "Spare_P") [] (at 2 15)) ∷ [])
    (package_of (at 2 17) (id (at 2 25) "Spare_R") None (at 2 33) (decl.OfItem (at 2 36) (objects_of (id (at 2 36)
    "Spare_Z") [] (at 2 44) None (indication_of (mark (at 2 46) "Integer")) (at 2 53)) ∷ []) None (at 2 55) (Some (id
    (at 2 59) "Spare_R")) (at 2 66)) ∷ unit.OfSubprogram (at 3 4) (context.With (at 3 4) (selected (at 3 9) "Ada" (at 3
    12) (at 3 13) "Text_IO") [] (at 3 20) ∷ use_context (use_of (at 3 22) None (selected (at 3 26) "Ada" (at 3 29) (at 3
    30) "Text_IO") [] (at 3 37)) ∷ context.With (at 4 1) (selected (at 4 6) "Ada" (at 4 9) (at 4 10) "Integer_Text_IO")
    [] (at 4 25) ∷ use_context (use_of (at 4 27) None (selected (at 4 31) "Ada" (at 4 34) (at 4 35) "Integer_Text_IO")
    [] (at 4 50)) ∷ context.With (at 5 1) (selected (at 5 6) "Ada" (at 5 9) (at 5 10) "Unchecked_Deallocation") [] (at 5
    32) ∷ []) (subprogram_of (at 6 1) (subspec.Procedure (at 6 1) (id (at 6 11) "Main") None) None (at 6 16)
    (item.ArrayType (at 7 1) (id (at 7 6) "A1") (at 7 9) (at 7 12) (at 7 18) (range.Bounds (at 7 19) (expr_of (at 7 19)
    (primary.Number (at 7 19) 1)) (at 7 21) (expr_of (at 7 24) (primary.Number (at 7 24) 4))) (at 7 25) (at 7 27) (mark
    (at 7 30) "Integer") (at 7 37) ∷ item.EnumerationType (at 8 1) (id (at 8 6) "E1") (at 8 9) (at 8 12) (id (at 8 13)
    "Lit_1") (next_id_of (at 8 18) (at 8 20) "Lit_2" ∷ next_id_of (at 8 25) (at 8 27) "Lit_3" ∷ next_id_of (at 8 32) (at
    8 34) "Lit_4" ∷ next_id_of (at 8 39) (at 8 41) "Lit_5" ∷ []) (at 8 46) (at 8 47) ∷ initialized_of (id (at 9 1) "V1")
    [] (at 9 4) None (indication_of (mark (at 9 6) "Boolean")) (at 9 14) (expr.LoneRelation (at 9 17) (rel.Compared (at
    9 17) (sum_of (at 9 17) (primary.Parenthesized (at 9 17) (expr.LoneRelation (at 9 18) (rel.LoneSum (at 9 18)
    (sum.Unsigned (at 9 18) (term_of (at 9 18) (primary.Number (at 9 18) 7)) (next_term.FurtherTerm (at 9 20) adding.Add
    (term_of (at 9 22) (primary.Number (at 9 22) 9)) ∷ [])))) (at 9 23))) relational.GreaterEqual (at 9 25) (sum_of (at
    9 28) (named (at 9 28) "Positive" (suffix.Attribute (at 9 36) (id (at 9 37) "First") ∷ []))))) (at 9 42) ∷
    objects_of (id (at 10 4) "V2") (next_id_of (at 10 6) (at 10 8) "V3" ∷ []) (at 10 11) None (indication_of (mark (at
    10 13) "Boolean")) (at 10 20) ∷ initialized_of (id (at 11 1) "V4") [] (at 11 4) None (indication_of (mark (at 11 6)
    "Positive")) (at 11 15) (expr_of (at 11 18) (primary.Number (at 11 18) 39)) (at 11 20) ∷ initialized_of (id (at 12
    1) "V5") [] (at 12 4) None (indication_of (mark (at 12 6) "Integer")) (at 12 14) (expr.LoneRelation (at 12 17)
    (rel.LoneSum (at 12 17) (sum.Unsigned (at 12 17) (term.Product (at 12 17) (factor.Abs (at 12 17) (primary.Number (at
    12 21) 0)) []) []))) (at 12 22) ∷ objects_of (id (at 13 1) "V6") (next_id_of (at 13 3) (at 13 5) "V7" ∷ []) (at 13
    8) None (indication_of (mark (at 13 10) "Integer")) (at 13 17) ∷ []) (at 14 1) (stmts.Sequence (at 15 1) (call_of
    (at 15 1) "Put_Line" (suffix.Applied (at 15 10) (actual_of (at 15 11) (primary.Text (at 15 11) (codes "\"--\""))) []
    (at 15 15) ∷ []) (at 15 16)) (assign_of (at 16 1) "V2" [] (at 16 4) (expr.LoneRelation (at 16 7) (rel.Compared (at
    16 7) (sum_of (at 16 7) (object (at 16 7) "V5")) relational.GreaterEqual (at 16 10) (sum_of (at 16 13) (named (at 16
    13) "Positive" (suffix.Attribute (at 16 21) (id (at 16 22) "First") ∷ []))))) (at 16 27) ∷ assign_of (at 17 4) "V3"
    [] (at 17 7) (expr.LoneRelation (at 17 10) (rel.Compared (at 17 10) (sum_of (at 17 10) (object (at 17 10) "V4"))
    relational.LessEqual (at 17 13) (sum.Unsigned (at 17 16) (term.Product (at 17 16) (factor.Abs (at 17 16) (object (at
    17 20) "V6")) []) []))) (at 17 22) ∷ [])) (at 18 1) (Some (id (at 18 5) "Main")) (at 18 9)) ∷ []) ∷ [])
unfolding computes resolves
no_with_1 = refl

no_with_2 : IsFirstBrokenOf NotVisible (at 14 55) ((unit.OfSubprogram (at 1 1) (context.With (at 1 1) (selected (at 1 6)
    "Ada" (at 1 9) (at 1 10) "Text_IO") [] (at 1 17) ∷ use_context (use_of (at 1 19) None (selected (at 1 23) "Ada" (at
    1 26) (at 1 27) "Text_IO") [] (at 1 34)) ∷ context.With (at 1 36) (selected (at 1 41) "Ada" (at 1 44) (at 1 45)
    "Integer_Text_IO") [] (at 1 60) ∷ use_context (use_of (at 1 62) None (selected (at 1 66) "Ada" (at 1 69) (at 1 70)
    "Integer_Text_IO") [] (at 1 85)) ∷ context.With (at 1 87) (selected (at 1 92) "Ada" (at 1 95) (at 1 96)
    "Unchecked_Deallocation") [] (at 1 118) ∷ []) (subprogram_of (at 2 1) (subspec.Procedure (at 2 1) (id (at 2 11)
    "Main") None) None (at 2 16) (item.IncompleteType (at 3 4) (id (at 3 9) "Cell") (at 3 13) ∷ item.AccessType (at 4 1)
    (id (at 4 6) "List") (at 4 11) (at 4 14) (mark (at 4 21) "Cell") (at 4 25) ∷ item.RecordType (at 5 1) (id (at 5 6)
    "Cell") (at 5 11) (at 5 14) (fields_of (id (at 5 21) "Value") [] (at 5 27) (mark (at 5 29) "Integer") (at 5 36))
    (fields_of (id (at 5 38) "Next") [] (at 5 43) (mark (at 5 45) "List") (at 5 49) ∷ []) (at 5 51) (at 5 55) (at 5 61)
    ∷ objects_of (id (at 6 4) "X") (next_id_of (at 6 5) (at 6 7) "Y" ∷ []) (at 6 9) None (indication_of (mark (at 6 11)
    "List")) (at 6 15) ∷ initialized_of (id (at 7 1) "N") [] (at 7 3) None (indication_of (mark (at 7 5) "Integer")) (at
    7 13) (expr_of (at 7 16) (primary.Number (at 7 16) 7)) (at 7 17) ∷ []) (at 8 4) (stmts.Sequence (at 9 1) (assign_of
    (at 9 1) "X" [] (at 9 3) (expr_of (at 9 6) (primary.AllocatedAggregate (at 9 6) (mark (at 9 10) "Cell") (at 9 14)
    (aggregate.Several (at 9 15) (actual_of (at 9 16) (object (at 9 16) "N")) (at 9 17) (actual_of (at 9 19)
    (primary.Null (at 9 19))) [] (at 9 23)))) (at 9 24)) (stmt.For (at 10 7) (id (at 10 11) "I") (at 10 13) None
    (range.Bounds (at 10 16) (expr_of (at 10 16) (primary.Number (at 10 16) 1)) (at 10 18) (expr_of (at 10 21)
    (primary.Number (at 10 21) 3))) (at 10 23) (sole (at 10 28) (assign_of (at 10 28) "N" [] (at 10 30)
    (expr.LoneRelation (at 10 33) (rel.LoneSum (at 10 33) (sum.Unsigned (at 10 33) (term_of (at 10 33) (object (at 10
    33) "N")) (next_term.FurtherTerm (at 10 35) adding.Add (term_of (at 10 37) (object (at 10 37) "I")) ∷ [])))) (at 10
    38))) (at 10 40) (at 10 44) (at 10 48) ∷ [])) (at 11 7) (Some (id (at 11 11) "Main")) (at 11 15)) ∷ unit.OfPackage
    (at 12 1) [] (package_of (at 12 1) (id (at 12 9) "Usual_P") None (at 12 17) (decl.OfItem (at 12 20) (objects_of (id
    (at 12 20) "Usual_X") [] (at 12 28) None (indication_of (mark (at 12 30) "Integer")) (at 12 37)) ∷ []) None (at 12
    39) (Some (id (at 12 43) "Usual_P")) (at 12 50)) ∷ unit.OfPackage (at 13 4) (context.With (at 13 4) (mark (at 13 9)
    "Usual_P") [] (at 13 16) ∷ []) (package_of (at 13 18) (id (at 13 26) "Usual_Q") None (at 13 34) (decl.OfItem (at 13
    37) (initialized_of (id (at 13 37) "Usual_Y") [] (at 13 45) None (indication_of (mark (at 13 47) "Integer")) (at 13
    55) (expr_of (at 13 58) (named (at 13 58) "Usual_P" (suffix.Selected (at 13 65) (id (at 13 66) "Usual_X") ∷ [])))
    (at 13 73)) ∷ []) None (at 13 75) (Some (id (at 13 79) "Usual_Q")) (at 13 86)) ∷ unit.OfPackage (at 14 1)
    (context.With (at 14 1) (mark (at 14 6) "Usual_Q") [] (at 14 13) ∷ []) (package_of (at 14 15) (id (at 14 23)
    "Usual_R") None (at 14 31) (decl.OfItem (at 14 34) (initialized_of (id (at 14 34) "Usual_Z") [] (at 14 42) None
    (indication_of (mark (at 14 44) "Integer")) (at 14 52) (expr_of (at 14 55) (named (at 14 55) "Usual_P"
    (suffix.Selected (at 14 62) (id (at 14 63) "Usual_X") ∷ []))) (at 14 70)) ∷ []) None (at 14 72) (Some (id (at 14 76)
    "Usual_R")) (at 14 83)) ∷ []) ∷ [])
unfolding computes resolves
no_with_2 = refl

no_with_3 : IsFirstBrokenOf NotVisible (at 2 41) ((unit.OfPackage (at 1 1) [] (package_of (at 1 1) (id (at 1 9)
    "Plain_P") None (at 1 17) (decl.OfItem (at 1 20) (objects_of (id (at 1 20) "Plain_X") [] (at 1 28) None
    (indication_of (mark (at 1 30) "Integer")) (at 1 37)) ∷ []) None (at 1 39) (Some (id (at 1 43) "Plain_P")) (at 1
    50)) ∷ unit.OfPackage (at 2 1) [] (package_of (at 2 1) (id (at 2 9) "Plain_R") None (at 2 17) (decl.OfItem (at 2 20)
    (initialized_of (id (at 2 20) "Plain_Z") [] (at 2 28) None (indication_of (mark (at 2 30) "Integer")) (at 2 38)
    (expr_of (at 2 41) (named (at 2 41) "Plain_P" (suffix.Selected (at 2 48) (id (at 2 49) "Plain_X") ∷ []))) (at 2 56))
    ∷ []) None (at 2 58) (Some (id (at 2 62) "Plain_R")) (at 2 69)) ∷ unit.OfSubprogram (at 3 1) (context.With (at 3 1)
    (selected (at 3 6) "Ada" (at 3 9) (at 3 10) "Text_IO") [] (at 3 17) ∷ use_context (use_of (at 3 19) None (selected
    (at 3 23) "Ada" (at 3 26) (at 3 27) "Text_IO") [] (at 3 34)) ∷ context.With (at 3 36) (selected (at 3 41) "Ada" (at
    3 44) (at 3 45) "Integer_Text_IO") [] (at 3 60) ∷ use_context (use_of (at 3 62) None (selected (at 3 66) "Ada" (at 3
    69) (at 3 70) "Integer_Text_IO") [] (at 3 85)) ∷ context.With (at 3 87) (selected (at 3 92) "Ada" (at 3 95) (at 3
    96) "Unchecked_Deallocation") [] (at 3 118) ∷ []) (subprogram_of (at 4 7) (subspec.Procedure (at 4 7) (id (at 4 17)
    "Main") None) None (at 4 22) (item.IncompleteType (at 5 7) (id (at 5 12) "Cell") (at 5 16) ∷ item.AccessType (at 6
    1) (id (at 6 6) "List") (at 6 11) (at 6 14) (mark (at 6 21) "Cell") (at 6 25) ∷ item.RecordType (at 7 7) (id (at 7
    12) "Cell") (at 7 17) (at 7 20) (fields_of (id (at 7 27) "Value") [] (at 7 33) (mark (at 7 35) "Integer") (at 7 42))
    (fields_of (id (at 7 44) "Next") [] (at 7 49) (mark (at 7 51) "List") (at 7 55) ∷ []) (at 7 57) (at 7 61) (at 7 67)
    ∷ objects_of (id (at 8 1) "X") (next_id_of (at 8 2) (at 8 4) "Y" ∷ []) (at 8 6) None (indication_of (mark (at 8 8)
    "List")) (at 8 12) ∷ initialized_of (id (at 9 4) "N") [] (at 9 6) None (indication_of (mark (at 9 8) "Integer")) (at
    9 16) (expr_of (at 9 19) (primary.Number (at 9 19) 1)) (at 9 20) ∷ []) (at 10 7) (stmts.Sequence (at 11 7) (stmt.If
    (at 11 7) (expr.LoneRelation (at 11 10) (rel.LoneSum (at 11 10) (sum.Unsigned (at 11 10) (term.Product (at 11 10)
    (factor.Not (at 11 10) (object (at 11 14) "End_Of_File")) []) []))) (at 11 26) (sole (at 11 31) (call_of (at 11 31)
    "Get" (suffix.Applied (at 11 35) (actual_of (at 11 36) (object (at 11 36) "N")) [] (at 11 37) ∷ []) (at 11 38))) []
    (at 11 40) (at 11 44) (at 11 46)) (stmt.IfElse (at 12 7) (expr.LoneRelation (at 12 10) (rel.Compared (at 12 10)
    (sum_of (at 12 10) (object (at 12 10) "N")) relational.Greater (at 12 12) (sum_of (at 12 14) (primary.Number (at 12
    14) 3)))) (at 12 16) (sole (at 12 21) (assign_of (at 12 21) "N" [] (at 12 23) (expr.LoneRelation (at 12 26)
    (rel.LoneSum (at 12 26) (sum.Unsigned (at 12 26) (term_of (at 12 26) (object (at 12 26) "N")) (next_term.FurtherTerm
    (at 12 28) adding.Subtract (term_of (at 12 30) (primary.Number (at 12 30) 1)) ∷ [])))) (at 12 31))) [] (at 12 33)
    (sole (at 12 38) (stmt.Null (at 12 38) (at 12 42))) (at 12 44) (at 12 48) (at 12 50) ∷ assign_of (at 13 1) "X" []
    (at 13 3) (expr_of (at 13 6) (primary.AllocatedAggregate (at 13 6) (mark (at 13 10) "Cell") (at 13 14)
    (aggregate.Several (at 13 15) (actual_of (at 13 16) (object (at 13 16) "N")) (at 13 17) (actual_of (at 13 19)
    (primary.Null (at 13 19))) [] (at 13 23)))) (at 13 24) ∷ assign_of (at 14 7) "N" [] (at 14 9) (expr.LoneRelation (at
    14 12) (rel.LoneSum (at 14 12) (sum.Unsigned (at 14 12) (term.Product (at 14 12) (factor_of (at 14 12) (object (at
    14 12) "N")) (next_factor.FurtherFactor (at 14 14) multiplying.Multiply (factor_of (at 14 16) (primary.Number (at 14
    16) 2)) ∷ [])) (next_term.FurtherTerm (at 14 18) adding.Add (term_of (at 14 20) (primary.Number (at 14 20) 1)) ∷
    [])))) (at 14 21) ∷ assign_of (at 15 1) "Y" [] (at 15 3) (expr_of (at 15 6) (object (at 15 6) "X")) (at 15 7) ∷
    assign_of (at 15 9) "X" [] (at 15 11) (expr_of (at 15 14) (primary.Null (at 15 14))) (at 15 18) ∷ [])) (at 16 4)
    (Some (id (at 16 8) "Main")) (at 16 12)) ∷ []) ∷ [])
unfolding computes resolves
no_with_3 = refl

no_with_4 : IsFirstBrokenOf NotVisible (at 2 24) ((unit.OfPackage (at 1 1) [] (package_of (at 1 1) (id (at 1 9)
    "Spare_P") None (at 1 17) (decl.OfItem (at 1 20) (objects_of (id (at 1 20) "Spare_X") [] (at 1 28) None
    (indication_of (mark (at 1 30) "Integer")) (at 1 37)) ∷ []) None (at 1 39) (Some (id (at 1 43) "Spare_P")) (at 1
    50)) ∷ unit.OfPackage (at 2 1) [] (package_of (at 2 1) (id (at 2 9) "Spare_R") None (at 2 17) (decl.OfItem (at 2 20)
    (use_item (use_of (at 2 20) None (mark (at 2 24) "Spare_P") [] (at 2 31))) ∷ decl.OfItem (at 2 33) (objects_of (id
    (at 2 33) "Spare_Z") [] (at 2 41) None (indication_of (mark (at 2 43) "Integer")) (at 2 50)) ∷ []) None (at 2 52)
    (Some (id (at 2 56) "Spare_R")) (at 2 63)) ∷ unit.OfPackage (at 3 1) (context.With (at 3 1) (selected (at 3 6) "Ada"
    (at 3 9) (at 3 10) "Text_IO") [] (at 3 17) ∷ use_context (use_of (at 3 19) None (selected (at 3 23) "Ada" (at 3 26)
    (at 3 27) "Text_IO") [] (at 3 34)) ∷ context.With (at 4 1) (selected (at 4 6) "Ada" (at 4 9) (at 4 10)
    "Integer_Text_IO") [] (at 4 25) ∷ use_context (use_of (at 4 27) None (selected (at 4 31) "Ada" (at 4 34) (at 4 35)
    "Integer_Text_IO") [] (at 4 50)) ∷ context.With (at 5 1) (selected (at 5 6) "Ada" (at 5 9) (at 5 10)
    "Unchecked_Deallocation") [] (at 5 32) ∷ []) (package_of (at 6 1) (id (at 6 9) "Pack1") None (at 6 15) (decl.OfItem
    (at 7 1) (item.IncompleteType (at 7 1) (id (at 7 6) "Cell1") (at 7 11)) ∷ decl.OfItem (at 8 1) (item.AccessType (at
    8 1) (id (at 8 6) "List1") (at 8 12) (at 8 15) (mark (at 8 22) "Cell1") (at 8 27)) ∷ decl.OfItem (at 9 1)
    (item.RecordType (at 9 1) (id (at 9 6) "Cell1") (at 9 12) (at 9 15) (fields_of (id (at 9 22) "Val1") [] (at 9 27)
    (mark (at 9 29) "Boolean") (at 9 36)) (fields_of (id (at 9 38) "Next1") [] (at 9 44) (mark (at 9 46) "List1") (at 9
    51) ∷ []) (at 9 53) (at 9 57) (at 9 63)) ∷ decl.OfItem (at 10 1) (item.ArrayType (at 10 1) (id (at 10 6) "A1") (at
    10 9) (at 10 12) (at 10 18) (range.Bounds (at 10 19) (expr_of (at 10 19) (primary.Number (at 10 19) 1)) (at 10 21)
    (expr_of (at 10 24) (primary.Number (at 10 24) 2))) (at 10 25) (at 10 27) (mark (at 10 30) "Integer") (at 10 37)) ∷
    decl.OfItem (at 11 1) (item.IncompleteType (at 11 1) (id (at 11 6) "Cell2") (at 11 11)) ∷ decl.OfItem (at 12 1)
    (item.AccessType (at 12 1) (id (at 12 6) "List2") (at 12 12) (at 12 15) (mark (at 12 22) "Cell2") (at 12 27)) ∷
    decl.OfItem (at 13 1) (item.RecordType (at 13 1) (id (at 13 6) "Cell2") (at 13 12) (at 13 15) (fields_of (id (at 13
    22) "Val2") [] (at 13 27) (mark (at 13 29) "Boolean") (at 13 36)) (fields_of (id (at 13 38) "Next2") [] (at 13 44)
    (mark (at 13 46) "List2") (at 13 51) ∷ []) (at 13 53) (at 13 57) (at 13 63)) ∷ decl.OfItem (at 14 1) (item.Instance
    (at 14 1) (id (at 14 11) "Free1") (at 14 17) (at 14 20) (selected (at 14 24) "Ada" (at 14 27) (at 14 28)
    "Unchecked_Deallocation") (at 14 51) (actual_of (at 14 52) (object (at 14 52) "Cell2")) (next_arg.FurtherArg (at 14
    57) (actual_of (at 14 59) (object (at 14 59) "List2")) ∷ []) (at 14 64) (at 14 65)) ∷ decl.OfItem (at 15 1)
    (initialized_of (id (at 15 1) "G1") [] (at 15 4) None (indication_of (mark (at 15 6) "List2")) (at 15 12) (expr_of
    (at 15 15) (primary.Null (at 15 15))) (at 15 19)) ∷ decl.OfItem (at 16 1) (initialized_of (id (at 16 1) "G2") [] (at
    16 4) None (indication_of (mark (at 16 6) "Cell1")) (at 16 12) (expr_of (at 16 15) (primary.Aggregated (at 16 15)
    (aggregate.Several (at 16 15) (actual_of (at 16 16) (object (at 16 16) "True")) (at 16 20) (actual_of (at 16 22)
    (primary.AllocatedAggregate (at 16 22) (selected (at 16 26) "Pack1" (at 16 31) (at 16 32) "Cell1") (at 16 37)
    (aggregate.Several (at 16 38) (actual_of (at 16 39) (object (at 16 39) "False")) (at 16 44) (actual_of (at 16 46)
    (primary.Null (at 16 46))) [] (at 16 50)))) [] (at 16 51)))) (at 16 52)) ∷ decl.Subprogram (at 17 1)
    (subspec.Procedure (at 17 1) (id (at 17 11) "Do1") None) None (at 17 14) ∷ decl.Subprogram (at 18 1)
    (subspec.Procedure (at 18 1) (id (at 18 11) "Do2") (Some (formals_of (at 18 15) (moded_of (id (at 18 16) "N1")
    (next_id_of (at 18 18) (at 18 20) "N2" ∷ []) (at 18 23) (Some (at 18 25)) (Some (at 18 28)) (mark (at 18 32)
    "List1")) [] (at 18 37)))) (Some (mode_of (at 18 39) (id (at 18 44) "SPARK_Mode") (Some (mode_on (at 18 55) (id (at
    18 58) "On"))))) (at 18 60) ∷ []) None (at 19 1) (Some (id (at 19 5) "Pack1")) (at 19 10)) ∷ unit.OfBody (at 20 1)
    [] (package_body_of (at 20 1) (at 20 9) (id (at 20 14) "Pack1") None (at 20 20) (part.Completed (at 21 1)
    (subprogram_of (at 21 1) (subspec.Procedure (at 21 1) (id (at 21 11) "Do1") None) None (at 21 15) (initialized_of
    (id (at 22 1) "V1") [] (at 22 4) None (indication_of (mark (at 22 6) "List1")) (at 22 12) (expr_of (at 22 15)
    (primary.AllocatedAggregate (at 22 15) (selected (at 22 19) "Pack1" (at 22 24) (at 22 25) "Cell1") (at 22 30)
    (aggregate.Several (at 22 31) (actual_of (at 22 32) (object (at 22 32) "True")) (at 22 36) (actual_of (at 22 38)
    (primary.Null (at 22 38))) [] (at 22 42)))) (at 22 43) ∷ initialized_of (id (at 23 1) "V2") [] (at 23 4) None
    (indication_of (mark (at 23 6) "List1")) (at 23 12) (expr_of (at 23 15) (primary.AllocatedAggregate (at 23 15) (mark
    (at 23 19) "Cell1") (at 23 24) (aggregate.Several (at 23 25) (actual_of (at 23 26) (object (at 23 26) "False")) (at
    23 31) (actual_of (at 23 33) (primary.AllocatedAggregate (at 23 33) (mark (at 23 37) "Cell1") (at 23 42)
    (aggregate.Several (at 23 43) (actual_of (at 23 44) (object (at 23 44) "True")) (at 23 48) (actual_of (at 23 50)
    (named (at 23 50) "G2" (suffix.Selected (at 23 52) (id (at 23 53) "Next1") ∷ []))) [] (at 23 58)))) [] (at 23 59))))
    (at 23 60) ∷ objects_of (id (at 24 1) "T1") [] (at 24 4) None (indication_of (mark (at 24 6) "Integer")) (at 24 13)
    ∷ []) (at 25 1) (stmts.Sequence (at 26 1) (stmt.For (at 26 1) (id (at 26 5) "I1") (at 26 8) None (range.Bounds (at
    26 11) (expr_of (at 26 11) (primary.Number (at 26 11) 1)) (at 26 13) (expr_of (at 26 16) (primary.Number (at 26 16)
    4))) (at 26 18) (sole (at 27 1) (assign_of (at 27 1) "G1" [] (at 27 4) (expr_of (at 27 7)
    (primary.AllocatedAggregate (at 27 7) (mark (at 27 11) "Cell2") (at 27 16) (aggregate.Several (at 27 17) (actual_of
    (at 27 18) (object (at 27 18) "False")) (at 27 23) (actual_of (at 27 25) (object (at 27 25) "G1")) [] (at 27 27))))
    (at 27 28))) (at 28 1) (at 28 5) (at 28 9)) (stmt.IfElse (at 29 1) (expr.LoneRelation (at 29 4) (rel.Compared (at 29
    4) (sum_of (at 29 4) (object (at 29 4) "G1")) relational.NotEqual (at 29 7) (sum_of (at 29 10) (primary.Null (at 29
    10))))) (at 29 15) (stmts.Sequence (at 30 1) (assign_of (at 30 1) "T1" [] (at 30 4) (expr_of (at 30 7)
    (primary.Number (at 30 7) 0)) (at 30 8)) (stmt.While (at 31 1) (expr.LoneRelation (at 31 7) (rel.Compared (at 31 7)
    (sum_of (at 31 7) (object (at 31 7) "T1")) relational.Less (at 31 10) (sum_of (at 31 12) (primary.Number (at 31 12)
    6)))) (at 31 14) (stmts.Sequence (at 32 1) (stmt.IfElse (at 32 1) (expr_of (at 32 4) (named (at 32 4) "V1"
    (suffix.Selected (at 32 6) (id (at 32 7) "Val1") ∷ []))) (at 32 12) (sole (at 33 1) (assign_of (at 33 1) "V1"
    (suffix.Selected (at 33 3) (id (at 33 4) "Next1") ∷ []) (at 33 10) (expr_of (at 33 13) (primary.AllocatedAggregate
    (at 33 13) (mark (at 33 17) "Cell1") (at 33 22) (aggregate.Several (at 33 23) (actual_of (at 33 24) (object (at 33
    24) "False")) (at 33 29) (actual_of (at 33 31) (primary.Null (at 33 31))) [] (at 33 35)))) (at 33 36)))
    (branch.Branch (at 34 1) (expr.LoneRelation (at 34 7) (rel.LoneSum (at 34 7) (sum.Unsigned (at 34 7) (term.Product
    (at 34 7) (factor.Not (at 34 7) (primary.Parenthesized (at 34 11) (expr.LoneRelation (at 34 12) (rel.Compared (at 34
    12) (sum_of (at 34 12) (primary.Number (at 34 12) 7)) relational.LessEqual (at 34 14) (sum_of (at 34 17)
    (primary.Parenthesized (at 34 17) (expr.LoneRelation (at 34 18) (rel.LoneSum (at 34 18) (sum.Unsigned (at 34 18)
    (term.Product (at 34 18) (factor_of (at 34 18) (primary.Number (at 34 18) 2)) (next_factor.FurtherFactor (at 34 20)
    multiplying.Divide (factor_of (at 34 22) (primary.Number (at 34 22) 8)) ∷ [])) []))) (at 34 23))))) (at 34 24))) [])
    []))) (at 34 26) (sole (at 35 1) (stmt.DeclareBlock (at 35 1) (initialized_of (id (at 36 1) "V3") [] (at 36 4) None
    (indication_of (mark (at 36 6) "Cell2")) (at 36 12) (expr_of (at 36 15) (primary.Aggregated (at 36 15)
    (aggregate.Several (at 36 15) (arg.Positional (at 36 16) (expr.Xor (at 36 16) (rel_of (at 36 16) (object (at 36 16)
    "True")) (at 36 21) (rel_of (at 36 25) (primary.Parenthesized (at 36 25) (expr_of (at 36 26) (object (at 36 26)
    "False")) (at 36 31))) [])) (at 36 32) (actual_of (at 36 34) (primary.Null (at 36 34))) [] (at 36 38)))) (at 36 39)
    ∷ initialized_of (id (at 37 1) "V4") [] (at 37 4) None (indication_of (mark (at 37 6) "Cell2")) (at 37 12) (expr_of
    (at 37 15) (primary.Aggregated (at 37 15) (aggregate.Several (at 37 15) (arg.Positional (at 37 16)
    (expr.LoneRelation (at 37 16) (rel.Compared (at 37 16) (sum_of (at 37 16) (primary.Number (at 37 16) 35))
    relational.Greater (at 37 19) (sum_of (at 37 21) (primary.Parenthesized (at 37 21) (expr.LoneRelation (at 37 22)
    (rel.LoneSum (at 37 22) (sum.Signed (at 37 22) sign.Minus (term_of (at 37 23) (primary.Number (at 37 23) 3)) [])))
    (at 37 24)))))) (at 37 25) (actual_of (at 37 27) (primary.AllocatedAggregate (at 37 27) (mark (at 37 31) "Cell2")
    (at 37 36) (aggregate.Several (at 37 37) (actual_of (at 37 38) (object (at 37 38) "False")) (at 37 43) (actual_of
    (at 37 45) (object (at 37 45) "G1")) [] (at 37 47)))) [] (at 37 48)))) (at 37 49) ∷ objects_of (id (at 38 1) "V5")
    [] (at 38 4) None (indication_of (mark (at 38 6) "List1")) (at 38 11) ∷ []) (at 39 1) (sole (at 40 1) (call_of (at
    40 1) "Put" (suffix.Applied (at 40 5) (actual_of (at 40 6) (named (at 40 6) "Integer" (suffix.Attribute (at 40 13)
    (id (at 40 14) "Image") ∷ suffix.Applied (at 40 20) (actual_of (at 40 21) (object (at 40 21) "T1")) [] (at 40 23) ∷
    []))) [] (at 40 24) ∷ []) (at 40 25))) (at 41 1) (at 41 4))) ∷ []) (at 42 1) (sole (at 43 1) (call_of (at 43 1)
    "Free1" (suffix.Applied (at 43 7) (actual_of (at 43 8) (object (at 43 8) "G1")) [] (at 43 10) ∷ []) (at 43 11))) (at
    44 1) (at 44 5) (at 44 7)) (assign_of (at 45 1) "G1" [] (at 45 4) (expr_of (at 45 7) (primary.Null (at 45 7))) (at
    45 11) ∷ assign_of (at 46 1) "T1" [] (at 46 4) (expr.LoneRelation (at 46 7) (rel.LoneSum (at 46 7) (sum.Unsigned (at
    46 7) (term_of (at 46 7) (object (at 46 7) "T1")) (next_term.FurtherTerm (at 46 10) adding.Add (term_of (at 46 12)
    (primary.Number (at 46 12) 1)) ∷ [])))) (at 46 13) ∷ [])) (at 47 1) (at 47 5) (at 47 9) ∷ [])) [] (at 48 1) (sole
    (at 49 1) (assign_of (at 49 1) "V1" [] (at 49 4) (expr_of (at 49 7) (object (at 49 7) "V2")) (at 49 9))) (at 50 1)
    (at 50 5) (at 50 7) ∷ assign_of (at 51 1) "G2" (suffix.Selected (at 51 3) (id (at 51 4) "Next1") ∷ []) (at 51 10)
    (expr_of (at 51 13) (primary.Null (at 51 13))) (at 51 17) ∷ [])) (at 52 1) (Some (id (at 52 5) "Do1")) (at 52 8)) ∷
    part.Completed (at 53 1) (subprogram_of (at 53 1) (subspec.Procedure (at 53 1) (id (at 53 11) "Do2") (Some
    (formals_of (at 53 15) (moded_of (id (at 53 16) "N1") [] (at 53 19) (Some (at 53 21)) (Some (at 53 24)) (mark (at 53
    28) "List1")) (next_formal.Semicolon (at 53 33) (moded_of (id (at 53 35) "N2") [] (at 53 38) (Some (at 53 40)) (Some
    (at 53 43)) (mark (at 53 47) "List1")) ∷ []) (at 53 52)))) None (at 53 54) (objects_of (id (at 54 1) "T2") [] (at 54
    4) None (indication_of (mark (at 54 6) "Integer")) (at 54 13) ∷ []) (at 55 1) (stmts.Sequence (at 56 1) (stmt.If (at
    56 1) (expr.AndThen (at 56 4) (rel.Compared (at 56 4) (sum_of (at 56 4) (object (at 56 4) "N1")) relational.NotEqual
    (at 56 7) (sum_of (at 56 10) (primary.Null (at 56 10)))) (at 56 15) (at 56 19) (rel.Compared (at 56 24) (sum_of (at
    56 24) (object (at 56 24) "N2")) relational.NotEqual (at 56 27) (sum_of (at 56 30) (primary.Null (at 56 30)))) [])
    (at 56 35) (sole (at 57 1) (assign_of (at 57 1) "N1" (suffix.Selected (at 57 3) (id (at 57 4) "Val1") ∷ []) (at 57
    9) (expr_of (at 57 12) (named (at 57 12) "N2" (suffix.Selected (at 57 14) (id (at 57 15) "Val1") ∷ []))) (at 57
    19))) [] (at 58 1) (at 58 5) (at 58 7)) (stmt.If (at 59 1) (expr.LoneRelation (at 59 4) (rel.LoneSum (at 59 4)
    (sum.Unsigned (at 59 4) (term.Product (at 59 4) (factor.Not (at 59 4) (object (at 59 8) "End_Of_File")) []) [])))
    (at 59 20) (sole (at 60 1) (call_of (at 60 1) "Get" (suffix.Applied (at 60 5) (actual_of (at 60 6) (object (at 60 6)
    "T2")) [] (at 60 8) ∷ []) (at 60 9))) [] (at 61 1) (at 61 5) (at 61 7) ∷ [])) (at 62 1) None (at 62 4)) ∷ []) (at 63
    1) (Some (id (at 63 5) "Pack1")) (at 63 10)) ∷ []) ∷ (unit.OfSubprogram (at1 1 1) (context.With (at1 1 1) (selected
    (at1 1 6) "Ada" (at1 1 9) (at1 1 10) "Text_IO") [] (at1 1 17) ∷ use_context (use_of (at1 1 19) None (selected (at1 1
    23) "Ada" (at1 1 26) (at1 1 27) "Text_IO") [] (at1 1 34)) ∷ context.With (at1 2 1) (selected (at1 2 6) "Ada" (at1 2
    9) (at1 2 10) "Integer_Text_IO") [] (at1 2 25) ∷ use_context (use_of (at1 2 27) None (selected (at1 2 31) "Ada" (at1
    2 34) (at1 2 35) "Integer_Text_IO") [] (at1 2 50)) ∷ context.With (at1 3 1) (selected (at1 3 6) "Ada" (at1 3 9) (at1
    3 10) "Unchecked_Deallocation") [] (at1 3 32) ∷ context.With (at1 4 1) (mark (at1 4 6) "Pack1") [] (at1 4 11) ∷
    use_context (use_of (at1 4 13) None (mark (at1 4 17) "Pack1") [] (at1 4 22)) ∷ []) (subprogram_of (at1 5 1)
    (subspec.Procedure (at1 5 1) (id (at1 5 11) "Main") None) None (at1 5 16) (item.AccessType (at1 6 1) (id (at1 6 6)
    "P1") (at1 6 9) (at1 6 12) (mark (at1 6 19) "Integer") (at1 6 26) ∷ item.Instance (at1 7 1) (id (at1 7 11) "Free2")
    (at1 7 17) (at1 7 20) (selected (at1 7 24) "Ada" (at1 7 27) (at1 7 28) "Unchecked_Deallocation") (at1 7 51)
    (actual_of (at1 7 52) (object (at1 7 52) "Integer")) (next_arg.FurtherArg (at1 7 59) (actual_of (at1 7 61) (object
    (at1 7 61) "P1")) ∷ []) (at1 7 63) (at1 7 64) ∷ item.ArrayType (at1 8 1) (id (at1 8 6) "A2") (at1 8 9) (at1 8 12)
    (at1 8 18) (range.Bounds (at1 8 19) (expr_of (at1 8 19) (primary.Number (at1 8 19) 0)) (at1 8 21) (expr_of (at1 8
    24) (primary.Number (at1 8 24) 1))) (at1 8 25) (at1 8 27) (mark (at1 8 30) "A1") (at1 8 32) ∷ initialized_of (id
    (at1 9 1) "V6") [] (at1 9 4) None (indication_of (mark (at1 9 6) "P1")) (at1 9 9) (expr_of (at1 9 12)
    (primary.AllocatedValue (at1 9 12) (mark (at1 9 16) "Integer") (at1 9 23) (at1 9 24) (expr_of (at1 9 25)
    (primary.Number (at1 9 25) 14)) (at1 9 27))) (at1 9 28) ∷ initialized_of (id (at1 10 1) "V7") [] (at1 10 4) None
    (indication_of (mark (at1 10 6) "Cell2")) (at1 10 12) (expr_of (at1 10 15) (primary.Aggregated (at1 10 15)
    (aggregate.Several (at1 10 15) (arg.Positional (at1 10 16) (expr.LoneRelation (at1 10 16) (rel.Compared (at1 10 16)
    (sum_of (at1 10 16) (primary.Number (at1 10 16) 39)) relational.LessEqual (at1 10 19) (sum_of (at1 10 22)
    (primary.Number (at1 10 22) 37))))) (at1 10 24) (actual_of (at1 10 26) (primary.Allocated (at1 10 26) (mark (at1 10
    30) "Cell2"))) [] (at1 10 35)))) (at1 10 36) ∷ initialized_of (id (at1 11 1) "V8") [] (at1 11 4) None (indication_of
    (selected (at1 11 6) "Pack1" (at1 11 11) (at1 11 12) "Cell2")) (at1 11 18) (expr_of (at1 11 21) (primary.Aggregated
    (at1 11 21) (aggregate.Several (at1 11 21) (association_of (id (at1 11 22) "Val2") (at1 11 27) (expr_of (at1 11 30)
    (named (at1 11 30) "G2" (suffix.Selected (at1 11 32) (id (at1 11 33) "Val1") ∷ [])))) (at1 11 37) (association_of
    (id (at1 11 39) "Next2") (at1 11 45) (expr_of (at1 11 48) (primary.AllocatedAggregate (at1 11 48) (mark (at1 11 52)
    "Cell2") (at1 11 57) (aggregate.Several (at1 11 58) (actual_of (at1 11 59) (object (at1 11 59) "False")) (at1 11 64)
    (actual_of (at1 11 66) (primary.Null (at1 11 66))) [] (at1 11 70))))) [] (at1 11 71)))) (at1 11 72) ∷ initialized_of
    (id (at1 12 1) "V9") [] (at1 12 4) None (indication_of (mark (at1 12 6) "List1")) (at1 12 12) (expr_of (at1 12 15)
    (primary.AllocatedAggregate (at1 12 15) (mark (at1 12 19) "Cell1") (at1 12 24) (aggregate.Several (at1 12 25)
    (actual_of (at1 12 26) (object (at1 12 26) "False")) (at1 12 31) (actual_of (at1 12 33) (named (at1 12 33) "G2"
    (suffix.Selected (at1 12 35) (id (at1 12 36) "Next1") ∷ []))) [] (at1 12 41)))) (at1 12 42) ∷ initialized_of (id
    (at1 13 1) "V10") [] (at1 13 5) None (indication_of (mark (at1 13 7) "Cell2")) (at1 13 13) (expr_of (at1 13 16)
    (object (at1 13 16) "V8")) (at1 13 18) ∷ []) (at1 14 1) (stmts.Sequence (at1 15 1) (stmt.For (at1 15 1) (id (at1 15
    5) "I2") (at1 15 8) None (range.Bounds (at1 15 11) (expr_of (at1 15 11) (primary.Number (at1 15 11) 1)) (at1 15 13)
    (expr_of (at1 15 16) (primary.Number (at1 15 16) 4))) (at1 15 18) (sole (at1 16 1) (assign_of (at1 16 1) "G1" []
    (at1 16 4) (expr_of (at1 16 7) (primary.AllocatedAggregate (at1 16 7) (mark (at1 16 11) "Cell2") (at1 16 16)
    (aggregate.Several (at1 16 17) (actual_of (at1 16 18) (object (at1 16 18) "False")) (at1 16 23) (actual_of (at1 16
    25) (object (at1 16 25) "G1")) [] (at1 16 27)))) (at1 16 28))) (at1 17 1) (at1 17 5) (at1 17 9)) (stmt.If (at1 18 1)
    (expr.AndThen (at1 18 4) (rel.Compared (at1 18 4) (sum_of (at1 18 4) (named (at1 18 4) "V10" (suffix.Selected (at1
    18 7) (id (at1 18 8) "Next2") ∷ []))) relational.NotEqual (at1 18 14) (sum_of (at1 18 17) (primary.Null (at1 18
    17)))) (at1 18 22) (at1 18 26) (rel.Compared (at1 18 31) (sum_of (at1 18 31) (named (at1 18 31) "V10"
    (suffix.Selected (at1 18 34) (id (at1 18 35) "Next2") ∷ suffix.Dereferenced (at1 18 40) (at1 18 41) ∷
    suffix.Selected (at1 18 44) (id (at1 18 45) "Next2") ∷ []))) relational.NotEqual (at1 18 51) (sum_of (at1 18 54)
    (primary.Null (at1 18 54)))) []) (at1 18 59) (sole (at1 19 1) (stmt.DeclareBlock (at1 19 1) (initialized_of (id (at1
    20 1) "B1") [] (at1 20 4) None (indication.Anonymous (at1 20 6) None (mark (at1 20 13) "Cell2")) (at1 20 19)
    (expr_of (at1 20 22) (named (at1 20 22) "V10" (suffix.Selected (at1 20 25) (id (at1 20 26) "Next2") ∷
    suffix.Dereferenced (at1 20 31) (at1 20 32) ∷ suffix.Selected (at1 20 35) (id (at1 20 36) "Next2") ∷ suffix.Selected
    (at1 20 41) (id (at1 20 42) "Next2") ∷ []))) (at1 20 47) ∷ []) (at1 21 1) (stmts.Sequence (at1 22 1) (assign_of (at1
    22 1) "Pack1" (suffix.Selected (at1 22 6) (id (at1 22 7) "G1") ∷ suffix.Selected (at1 22 9) (id (at1 22 10) "Next2")
    ∷ []) (at1 22 16) (expr_of (at1 22 19) (primary.AllocatedAggregate (at1 22 19) (mark (at1 22 23) "Cell2") (at1 22
    28) (aggregate.Several (at1 22 29) (arg.Positional (at1 22 30) (expr.LoneRelation (at1 22 30) (rel.Compared (at1 22
    30) (sum_of (at1 22 30) (named (at1 22 30) "V9" (suffix.Dereferenced (at1 22 32) (at1 22 33) ∷ suffix.Selected (at1
    22 36) (id (at1 22 37) "Next1") ∷ []))) relational.Equal (at1 22 43) (sum_of (at1 22 45) (primary.Null (at1 22
    45)))))) (at1 22 49) (actual_of (at1 22 51) (named (at1 22 51) "Pack1" (suffix.Selected (at1 22 56) (id (at1 22 57)
    "G1") ∷ suffix.Selected (at1 22 59) (id (at1 22 60) "Next2") ∷ []))) [] (at1 22 65)))) (at1 22 66)) (stmt.IfElse
    (at1 23 1) (expr.LoneRelation (at1 23 4) (rel.LoneSum (at1 23 4) (sum.Unsigned (at1 23 4) (term.Product (at1 23 4)
    (factor.Not (at1 23 4) (primary.Parenthesized (at1 23 8) (expr.LoneRelation (at1 23 9) (rel.Compared (at1 23 9)
    (sum_of (at1 23 9) (named (at1 23 9) "V6" (suffix.Dereferenced (at1 23 11) (at1 23 12) ∷ []))) relational.Less (at1
    23 16) (sum_of (at1 23 18) (primary.Parenthesized (at1 23 18) (expr.LoneRelation (at1 23 19) (rel.LoneSum (at1 23
    19) (sum.Signed (at1 23 19) sign.Minus (term_of (at1 23 20) (primary.Number (at1 23 20) 0)) []))) (at1 23 21)))))
    (at1 23 22))) []) []))) (at1 23 24) (sole (at1 24 1) (call_of (at1 24 1) "Put" (suffix.Applied (at1 24 5) (actual_of
    (at1 24 6) (primary.Text (at1 24 6) (codes "\"q\"\"q\""))) [] (at1 24 12) ∷ []) (at1 24 13))) [] (at1 25 1) (sole
    (at1 26 1) (call_of (at1 26 1) "Free2" (suffix.Applied (at1 26 7) (actual_of (at1 26 8) (object (at1 26 8) "V6")) []
    (at1 26 10) ∷ []) (at1 26 11))) (at1 27 1) (at1 27 5) (at1 27 7) ∷ assign_of (at1 28 1) "V6" [] (at1 28 4) (expr_of
    (at1 28 7) (object (at1 28 7) "V6")) (at1 28 9) ∷ [])) (at1 29 1) (at1 29 4))) [] (at1 30 1) (at1 30 5) (at1 30 7) ∷
    assign_of (at1 31 1) "G2" (suffix.Selected (at1 31 3) (id (at1 31 4) "Next1") ∷ []) (at1 31 10) (expr_of (at1 31 13)
    (primary.Null (at1 31 13))) (at1 31 17) ∷ [])) (at1 32 1) (Some (id (at1 32 5) "Main")) (at1 32 9)) ∷ []) ∷ [])
unfolding computes resolves
no_with_4 = refl

no_with_5 : IsFirstBrokenOf NotVisible (at 55 52) ((unit.OfPackage (at 1 1) (context.With (at 1 1) (selected (at 1 6)
    "Ada" (at 1 9) (at 1 10) "Text_IO") [] (at 1 17) ∷ use_context (use_of (at 1 19) None (selected (at 1 23) "Ada" (at
    1 26) (at 1 27) "Text_IO") [] (at 1 34)) ∷ context.With (at 2 1) (selected (at 2 6) "Ada" (at 2 9) (at 2 10)
    "Integer_Text_IO") [] (at 2 25) ∷ use_context (use_of (at 2 27) None (selected (at 2 31) "Ada" (at 2 34) (at 2 35)
    "Integer_Text_IO") [] (at 2 50)) ∷ context.With (at 3 1) (selected (at 3 6) "Ada" (at 3 9) (at 3 10)
    "Unchecked_Deallocation") [] (at 3 32) ∷ []) (package_of (at 4 1) (id (at 4 9) "Pack1") None (at 4 15) (decl.OfItem
    (at 5 1) (item.IncompleteType (at 5 1) (id (at 5 6) "Cell1") (at 5 11)) ∷ decl.OfItem (at 6 1) (item.AccessType (at
    6 1) (id (at 6 6) "List1") (at 6 12) (at 6 15) (mark (at 6 22) "Cell1") (at 6 27)) ∷ decl.OfItem (at 7 1)
    (item.RecordType (at 7 1) (id (at 7 6) "Cell1") (at 7 12) (at 7 15) (fields_of (id (at 7 22) "Val1") [] (at 7 27)
    (mark (at 7 29) "Boolean") (at 7 36)) (fields_of (id (at 7 38) "Next1") [] (at 7 44) (mark (at 7 46) "List1") (at 7
    51) ∷ []) (at 7 53) (at 7 57) (at 7 63)) ∷ decl.OfItem (at 8 1) (item.Instance (at 8 1) (id (at 8 11) "Free1") (at 8
    17) (at 8 20) (selected (at 8 24) "Ada" (at 8 27) (at 8 28) "Unchecked_Deallocation") (at 8 51) (actual_of (at 8 52)
    (object (at 8 52) "Cell1")) (next_arg.FurtherArg (at 8 57) (actual_of (at 8 59) (object (at 8 59) "List1")) ∷ [])
    (at 8 64) (at 8 65)) ∷ decl.OfItem (at 9 1) (item.AccessType (at 9 1) (id (at 9 6) "P1") (at 9 9) (at 9 12) (mark
    (at 9 19) "Integer") (at 9 26)) ∷ decl.Subprogram (at 10 1) (subspec.Procedure (at 10 1) (id (at 10 11) "Do1") (Some
    (formals_of (at 10 15) (moded_of (id (at 10 16) "N1") [] (at 10 19) (Some (at 10 21)) (Some (at 10 24)) (mark (at 10
    28) "List1")) (next_formal.Semicolon (at 10 33) (moded_of (id (at 10 35) "N2") [] (at 10 38) None None (mark (at 10
    40) "Cell1")) ∷ next_formal.Semicolon (at 10 45) (moded_of (id (at 10 47) "N3") [] (at 10 50) None None (mark (at 10
    52) "Integer")) ∷ []) (at 10 59)))) None (at 10 60) ∷ []) None (at 11 1) None (at 11 4)) ∷ unit.OfBody (at 12 1) []
    (package_body_of (at 12 1) (at 12 9) (id (at 12 14) "Pack1") None (at 12 20) (part.Completed (at 13 1)
    (subprogram_of (at 13 1) (subspec.Procedure (at 13 1) (id (at 13 11) "Do1") (Some (formals_of (at 13 15) (moded_of
    (id (at 13 16) "N1") [] (at 13 19) (Some (at 13 21)) (Some (at 13 24)) (selected (at 13 28) "Pack1" (at 13 33) (at
    13 34) "List1")) (next_formal.Semicolon (at 13 39) (moded_of (id (at 13 41) "N2") [] (at 13 44) None None (mark (at
    13 46) "Cell1")) ∷ next_formal.Semicolon (at 13 51) (moded_of (id (at 13 53) "N3") [] (at 13 56) None None (mark (at
    13 58) "Integer")) ∷ []) (at 13 65)))) None (at 13 67) (objects_of (id (at 14 1) "T1") [] (at 14 4) None
    (indication_of (mark (at 14 6) "Integer")) (at 14 13) ∷ []) (at 15 1) (stmts.Sequence (at 16 1) (stmt.If (at 16 1)
    (expr.LoneRelation (at 16 4) (rel.LoneSum (at 16 4) (sum.Unsigned (at 16 4) (term.Product (at 16 4) (factor.Not (at
    16 4) (object (at 16 8) "End_Of_File")) []) []))) (at 16 20) (sole (at 17 1) (call_of (at 17 1) "Get"
    (suffix.Applied (at 17 5) (actual_of (at 17 6) (object (at 17 6) "T1")) [] (at 17 8) ∷ []) (at 17 9))) [] (at 18 1)
    (at 18 5) (at 18 7)) (stmt.For (at 19 1) (id (at 19 5) "I1") (at 19 8) None (range.Bounds (at 19 11) (expr_of (at 19
    11) (primary.Number (at 19 11) 1)) (at 19 13) (expr_of (at 19 16) (primary.Number (at 19 16) 1))) (at 19 18) (sole
    (at 20 1) (assign_of (at 20 1) "N1" [] (at 20 4) (expr_of (at 20 7) (primary.AllocatedAggregate (at 20 7) (mark (at
    20 11) "Cell1") (at 20 16) (aggregate.Several (at 20 17) (actual_of (at 20 18) (object (at 20 18) "False")) (at 20
    23) (actual_of (at 20 25) (object (at 20 25) "N1")) [] (at 20 27)))) (at 20 28))) (at 21 1) (at 21 5) (at 21 9) ∷
    [])) (at 22 1) (Some (id (at 22 5) "Do1")) (at 22 8)) ∷ []) (at 23 1) None (at 23 4)) ∷ unit.OfSubprogram (at 24 1)
    (context.With (at 24 1) (selected (at 24 6) "Ada" (at 24 9) (at 24 10) "Text_IO") (next_dotted.FurtherDotted (at 24
    17) (selected (at 24 19) "Ada" (at 24 22) (at 24 23) "Integer_Text_IO") ∷ next_dotted.FurtherDotted (at 24 38)
    (selected (at 24 40) "Ada" (at 24 43) (at 24 44) "Unchecked_Deallocation") ∷ []) (at 24 66) ∷ use_context (use_of
    (at 25 1) None (selected (at 25 5) "Ada" (at 25 8) (at 25 9) "Text_IO") (next_dotted.FurtherDotted (at 25 16)
    (selected (at 25 18) "Ada" (at 25 21) (at 25 22) "Integer_Text_IO") ∷ []) (at 25 37)) ∷ context.With (at 26 1) (mark
    (at 26 6) "Pack1") [] (at 26 11) ∷ []) (subprogram_of (at 27 1) (subspec.Procedure (at 27 1) (id (at 27 11) "Main")
    None) None (at 27 16) (objects_of (id (at 28 1) "V1") (next_id_of (at 28 3) (at 28 5) "V2" ∷ []) (at 28 8) None
    (indication_of (mark (at 28 10) "Boolean")) (at 28 17) ∷ objects_of (id (at 29 1) "V3") (next_id_of (at 29 3) (at 29
    5) "V4" ∷ []) (at 29 8) None (indication_of (selected (at 29 10) "Pack1" (at 29 15) (at 29 16) "List1")) (at 29 21)
    ∷ objects_of (id (at 30 1) "V5") (next_id_of (at 30 3) (at 30 5) "V6" ∷ []) (at 30 8) None (indication_of (selected
    (at 30 10) "Pack1" (at 30 15) (at 30 16) "List1")) (at 30 21) ∷ objects_of (id (at 31 1) "T2") [] (at 31 4) None
    (indication_of (mark (at 31 6) "Integer")) (at 31 13) ∷ []) (at 32 1) (stmts.Sequence (at 33 1) (stmt.If (at 33 1)
    (expr.LoneRelation (at 33 4) (rel.Compared (at 33 4) (sum_of (at 33 4) (object (at 33 4) "V5")) relational.NotEqual
    (at 33 7) (sum_of (at 33 10) (primary.Null (at 33 10))))) (at 33 15) (sole (at 34 1) (assign_of (at 34 1) "V5" []
    (at 34 4) (expr_of (at 34 7) (primary.AllocatedValue (at 34 7) (selected (at 34 11) "Pack1" (at 34 16) (at 34 17)
    "Cell1") (at 34 22) (at 34 23) (expr_of (at 34 24) (named (at 34 24) "V5" (suffix.Dereferenced (at 34 26) (at 34 27)
    ∷ []))) (at 34 30))) (at 34 31))) [] (at 35 1) (at 35 5) (at 35 7)) (stmt.For (at 36 1) (id (at 36 5) "I2") (at 36
    8) None (range.Bounds (at 36 11) (expr_of (at 36 11) (primary.Number (at 36 11) 2)) (at 36 13) (expr_of (at 36 16)
    (primary.Number (at 36 16) 11))) (at 36 19) (stmts.Sequence (at 37 1) (assign_of (at 37 1) "V4" [] (at 37 4)
    (expr_of (at 37 7) (primary.Null (at 37 7))) (at 37 11)) (stmt.If (at 38 1) (expr.LoneRelation (at 38 4)
    (rel.Compared (at 38 4) (sum_of (at 38 4) (object (at 38 4) "V4")) relational.NotEqual (at 38 7) (sum_of (at 38 10)
    (primary.Null (at 38 10))))) (at 38 15) (sole (at 39 1) (stmt.DeclareBlock (at 39 1) (initialized_of (id (at 40 1)
    "C1") [] (at 40 4) None (indication.Anonymous (at 40 6) (Some (at 40 13)) (selected (at 40 22) "Pack1" (at 40 27)
    (at 40 28) "Cell1")) (at 40 34) (expr_of (at 40 37) (named (at 40 37) "V4" (suffix.Selected (at 40 39) (id (at 40
    40) "Next1") ∷ []))) (at 40 45) ∷ objects_of (id (at 41 1) "V7") (next_id_of (at 41 3) (at 41 5) "V8" ∷ []) (at 41
    8) None (indication_of (selected (at 41 10) "Pack1" (at 41 15) (at 41 16) "List1")) (at 41 21) ∷ []) (at 42 1) (sole
    (at 43 1) (stmt.If (at 43 1) (expr.LoneRelation (at 43 4) (rel.Compared (at 43 4) (sum_of (at 43 4) (object (at 43
    4) "V8")) relational.NotEqual (at 43 7) (sum_of (at 43 10) (primary.Null (at 43 10))))) (at 43 15) (sole (at 44 1)
    (call_of (at 44 1) "Pack1" (suffix.Selected (at 44 6) (id (at 44 7) "Do1") ∷ suffix.Applied (at 44 11) (actual_of
    (at 44 12) (object (at 44 12) "V7")) (next_arg.FurtherArg (at 44 14) (actual_of (at 44 16) (named (at 44 16) "V8"
    (suffix.Dereferenced (at 44 18) (at 44 19) ∷ []))) ∷ next_arg.FurtherArg (at 44 22) (actual_of (at 44 24)
    (primary.Number (at 44 24) 1)) ∷ []) (at 44 25) ∷ []) (at 44 26))) [] (at 45 1) (at 45 5) (at 45 7))) (at 46 1) (at
    46 4))) [] (at 47 1) (at 47 5) (at 47 7) ∷ stmt.Exit (at 48 1) (at 48 5) ∷ [])) (at 49 1) (at 49 5) (at 49 9) ∷
    stmt.If (at 50 1) (expr.AndThen (at 50 4) (rel.Compared (at 50 4) (sum_of (at 50 4) (object (at 50 4) "V3"))
    relational.NotEqual (at 50 7) (sum_of (at 50 10) (primary.Null (at 50 10)))) (at 50 15) (at 50 19) (rel.Compared (at
    50 24) (sum_of (at 50 24) (object (at 50 24) "V5")) relational.NotEqual (at 50 27) (sum_of (at 50 30) (primary.Null
    (at 50 30)))) []) (at 50 35) (sole (at 51 1) (assign_of (at 51 1) "V3" (suffix.Dereferenced (at 51 3) (at 51 4) ∷
    []) (at 51 8) (expr_of (at 51 11) (named (at 51 11) "V5" (suffix.Dereferenced (at 51 13) (at 51 14) ∷ []))) (at 51
    17))) [] (at 52 1) (at 52 5) (at 52 7) ∷ [])) (at 53 1) (Some (id (at 53 5) "Main")) (at 53 9)) ∷ unit.OfPackage (at
    54 1) [] (package_of (at 54 1) (id (at 54 9) "Extra_R") None (at 54 17) (decl.Subprogram (at 54 20)
    (subspec.Procedure (at 54 20) (id (at 54 30) "Extra_Q") None) None (at 54 37) ∷ []) None (at 54 39) (Some (id (at 54
    43) "Extra_R")) (at 54 50)) ∷ unit.OfBody (at 55 1) [] (package_body_of (at 55 1) (at 55 9) (id (at 55 14)
    "Extra_R") None (at 55 22) (part.Completed (at 55 25) (subprogram_of (at 55 25) (subspec.Procedure (at 55 25) (id
    (at 55 35) "Extra_Q") None) None (at 55 43) [] (at 55 46) (sole (at 55 52) (call_of (at 55 52) "Ada"
    (suffix.Selected (at 55 55) (id (at 55 56) "Text_IO") ∷ suffix.Selected (at 55 63) (id (at 55 64) "New_Line") ∷ [])
    (at 55 72))) (at 55 74) (Some (id (at 55 78) "Extra_Q")) (at 55 85)) ∷ []) (at 55 87) (Some (id (at 55 91)
    "Extra_R")) (at 55 98)) ∷ []) ∷ [])
unfolding computes resolves
no_with_5 = refl

-- What stands within Ada.
no_with_within_ada_1 : IsFirstBrokenOf NotVisible (at 12 120) ((unit.OfSubprogram (at 1 1) (context.With (at 1 1)
    (selected (at 1 6) "Ada" (at 1 9) (at 1 10) "Text_IO") [] (at 1 17) ∷ use_context (use_of (at 1 19) None (selected
    (at 1 23) "Ada" (at 1 26) (at 1 27) "Text_IO") [] (at 1 34)) ∷ context.With (at 1 36) (selected (at 1 41) "Ada" (at
    1 44) (at 1 45) "Integer_Text_IO") [] (at 1 60) ∷ use_context (use_of (at 1 62) None (selected (at 1 66) "Ada" (at 1
    69) (at 1 70) "Integer_Text_IO") [] (at 1 85)) ∷ context.With (at 1 87) (selected (at 1 92) "Ada" (at 1 95) (at 1
    96) "Unchecked_Deallocation") [] (at 1 118) ∷ []) (subprogram_of (at 2 1) (subspec.Procedure (at 2 1) (id (at 2 11)
    "Main") None) None (at 2 16) (item.IncompleteType (at 3 1) (id (at 3 6) "Cell") (at 3 10) ∷ item.AccessType (at 4 1)
    (id (at 4 6) "List") (at 4 11) (at 4 14) (mark (at 4 21) "Cell") (at 4 25) ∷ item.RecordType (at 5 1) (id (at 5 6)
    "Cell") (at 5 11) (at 5 14) (fields_of (id (at 5 21) "Value") [] (at 5 27) (mark (at 5 29) "Integer") (at 5 36))
    (fields_of (id (at 5 38) "Next") [] (at 5 43) (mark (at 5 45) "List") (at 5 49) ∷ []) (at 5 51) (at 5 55) (at 5 61)
    ∷ objects_of (id (at 6 1) "X") (next_id_of (at 6 2) (at 6 4) "Y" ∷ []) (at 6 6) None (indication_of (mark (at 6 8)
    "List")) (at 6 12) ∷ initialized_of (id (at 7 1) "N") [] (at 7 3) None (indication_of (mark (at 7 5) "Integer")) (at
    7 13) (expr_of (at 7 16) (primary.Number (at 7 16) 9)) (at 7 17) ∷ []) (at 8 1) (stmts.Sequence (at 9 1) (call_of
    (at 9 1) "Put_Line" (suffix.Applied (at 9 10) (actual_of (at 9 11) (named (at 9 11) "Integer" (suffix.Attribute (at
    9 18) (id (at 9 19) "Image") ∷ suffix.Applied (at 9 25) (actual_of (at 9 26) (object (at 9 26) "N")) [] (at 9 27) ∷
    []))) [] (at 9 28) ∷ []) (at 9 29)) (stmt.For (at 10 1) (id (at 10 5) "I") (at 10 7) None (range.Bounds (at 10 10)
    (expr_of (at 10 10) (primary.Number (at 10 10) 1)) (at 10 12) (expr_of (at 10 15) (primary.Number (at 10 15) 3)))
    (at 10 17) (sole (at 10 22) (assign_of (at 10 22) "N" [] (at 10 24) (expr.LoneRelation (at 10 27) (rel.LoneSum (at
    10 27) (sum.Unsigned (at 10 27) (term_of (at 10 27) (object (at 10 27) "N")) (next_term.FurtherTerm (at 10 29)
    adding.Add (term_of (at 10 31) (object (at 10 31) "I")) ∷ [])))) (at 10 32))) (at 10 34) (at 10 38) (at 10 42) ∷
    [])) (at 11 1) (Some (id (at 11 5) "Main")) (at 11 9)) ∷ unit.OfPackage (at 12 1) (context.With (at 12 1) (selected
    (at 12 6) "Ada" (at 12 9) (at 12 10) "Integer_Text_IO") [] (at 12 25) ∷ use_context (use_of (at 12 27) None (mark
    (at 12 31) "Ada") [] (at 12 34)) ∷ []) (package_of (at 12 36) (id (at 12 44) "Second_R") None (at 12 53)
    (decl.OfItem (at 12 56) (item.AccessType (at 12 56) (id (at 12 61) "Second_Ptr") (at 12 72) (at 12 75) (mark (at 12
    82) "Integer") (at 12 89)) ∷ decl.OfItem (at 12 91) (item.Instance (at 12 91) (id (at 12 101) "Second_Free") (at 12
    113) (at 12 116) (mark (at 12 120) "Unchecked_Deallocation") (at 12 143) (actual_of (at 12 144) (object (at 12 144)
    "Integer")) (next_arg.FurtherArg (at 12 151) (actual_of (at 12 153) (object (at 12 153) "Second_Ptr")) ∷ []) (at 12
    163) (at 12 164)) ∷ []) None (at 12 166) (Some (id (at 12 170) "Second_R")) (at 12 178)) ∷ []) ∷ [])
unfolding computes resolves
no_with_within_ada_1 = refl

no_with_within_ada_2 : IsFirstBrokenOf NotVisible (at 1 104) ((unit.OfPackage (at 1 1) (context.With (at 1 1) (selected
    (at 1 6) "Ada" (at 1 9) (at 1 10) "Text_IO") [] (at 1 17) ∷ []) (package_of (at 1 19) (id (at 1 27) "Quick_R") None
    (at 1 35) (decl.OfItem (at 1 38) (item.AccessType (at 1 38) (id (at 1 43) "Quick_Ptr") (at 1 53) (at 1 56) (mark (at
    1 63) "Integer") (at 1 70)) ∷ decl.OfItem (at 1 72) (item.Instance (at 1 72) (id (at 1 82) "Quick_Free") (at 1 93)
    (at 1 96) (selected (at 1 100) "Ada" (at 1 103) (at 1 104) "Unchecked_Deallocation") (at 1 127) (actual_of (at 1
    128) (object (at 1 128) "Integer")) (next_arg.FurtherArg (at 1 135) (actual_of (at 1 137) (object (at 1 137)
    "Quick_Ptr")) ∷ []) (at 1 146) (at 1 147)) ∷ []) None (at 1 149) (Some (id (at 1 153) "Quick_R")) (at 1 160)) ∷
    unit.OfSubprogram (at 2 4) (context.With (at 2 4) (selected (at 2 9) "Ada" (at 2 12) (at 2 13) "Text_IO") [] (at 2
    20) ∷ use_context (use_of (at 2 22) None (selected (at 2 26) "Ada" (at 2 29) (at 2 30) "Text_IO") [] (at 2 37)) ∷
    context.With (at 2 39) (selected (at 2 44) "Ada" (at 2 47) (at 2 48) "Integer_Text_IO") [] (at 2 63) ∷ use_context
    (use_of (at 2 65) None (selected (at 2 69) "Ada" (at 2 72) (at 2 73) "Integer_Text_IO") [] (at 2 88)) ∷ context.With
    (at 2 90) (selected (at 2 95) "Ada" (at 2 98) (at 2 99) "Unchecked_Deallocation") [] (at 2 121) ∷ []) (subprogram_of
    (at 3 7) (subspec.Procedure (at 3 7) (id (at 3 17) "Main") None) None (at 3 22) (item.IncompleteType (at 4 4) (id
    (at 4 9) "Cell") (at 4 13) ∷ item.AccessType (at 5 4) (id (at 5 9) "List") (at 5 14) (at 5 17) (mark (at 5 24)
    "Cell") (at 5 28) ∷ item.RecordType (at 6 7) (id (at 6 12) "Cell") (at 6 17) (at 6 20) (fields_of (id (at 6 27)
    "Value") [] (at 6 33) (mark (at 6 35) "Integer") (at 6 42)) (fields_of (id (at 6 44) "Next") [] (at 6 49) (mark (at
    6 51) "List") (at 6 55) ∷ []) (at 6 57) (at 6 61) (at 6 67) ∷ objects_of (id (at 7 1) "X") (next_id_of (at 7 2) (at
    7 4) "Y" ∷ []) (at 7 6) None (indication_of (mark (at 7 8) "List")) (at 7 12) ∷ initialized_of (id (at 8 1) "N") []
    (at 8 3) None (indication_of (mark (at 8 5) "Integer")) (at 8 13) (expr_of (at 8 16) (primary.Number (at 8 16) 4))
    (at 8 17) ∷ []) (at 9 4) (stmts.Sequence (at 10 7) (stmt.IfElse (at 10 7) (expr.LoneRelation (at 10 10)
    (rel.Compared (at 10 10) (sum_of (at 10 10) (object (at 10 10) "N")) relational.Greater (at 10 12) (sum_of (at 10
    14) (primary.Number (at 10 14) 3)))) (at 10 16) (sole (at 10 21) (assign_of (at 10 21) "N" [] (at 10 23)
    (expr.LoneRelation (at 10 26) (rel.LoneSum (at 10 26) (sum.Unsigned (at 10 26) (term_of (at 10 26) (object (at 10
    26) "N")) (next_term.FurtherTerm (at 10 28) adding.Subtract (term_of (at 10 30) (primary.Number (at 10 30) 1)) ∷
    [])))) (at 10 31))) [] (at 10 33) (sole (at 10 38) (stmt.Null (at 10 38) (at 10 42))) (at 10 44) (at 10 48) (at 10
    50)) (stmt.Case (at 11 1) (expr_of (at 11 6) (object (at 11 6) "N")) (at 11 8) (alternative.Alternative (at 11 11)
    (choice.Value (at 11 16) (expr_of (at 11 16) (primary.Number (at 11 16) 1))) [] (at 11 18) (sole (at 11 21)
    (stmt.Null (at 11 21) (at 11 25)))) (alternative.Alternative (at 11 27) (choice.Others (at 11 32)) [] (at 11 39)
    (sole (at 11 42) (assign_of (at 11 42) "N" [] (at 11 44) (expr_of (at 11 47) (primary.Number (at 11 47) 2)) (at 11
    48))) ∷ []) (at 11 50) (at 11 54) (at 11 58) ∷ stmt.If (at 12 4) (expr.LoneRelation (at 12 7) (rel.LoneSum (at 12 7)
    (sum.Unsigned (at 12 7) (term.Product (at 12 7) (factor.Not (at 12 7) (object (at 12 11) "End_Of_File")) []) [])))
    (at 12 23) (sole (at 12 28) (call_of (at 12 28) "Get" (suffix.Applied (at 12 32) (actual_of (at 12 33) (object (at
    12 33) "N")) [] (at 12 34) ∷ []) (at 12 35))) [] (at 12 37) (at 12 41) (at 12 43) ∷ call_of (at 13 7) "Put_Line"
    (suffix.Applied (at 13 16) (actual_of (at 13 17) (named (at 13 17) "Integer" (suffix.Attribute (at 13 24) (id (at 13
    25) "Image") ∷ suffix.Applied (at 13 31) (actual_of (at 13 32) (object (at 13 32) "N")) [] (at 13 33) ∷ []))) [] (at
    13 34) ∷ []) (at 13 35) ∷ [])) (at 14 1) (Some (id (at 14 5) "Main")) (at 14 9)) ∷ []) ∷ [])
unfolding computes resolves
no_with_within_ada_2 = refl

no_with_within_ada_3 : IsFirstBrokenOf NotVisible (at 2 62) ((unit.OfPackage (at 1 7) (context.With (at 1 7) (selected
    (at 1 12) "Ada" (at 1 15) (at 1 16) "Integer_Text_IO") [] (at 1 31) ∷ []) (package_of (at 1 33) (id (at 1 41)
    "Plain_R") None (at 1 49) (decl.Subprogram (at 1 52) (subspec.Procedure (at 1 52) (id (at 1 62) "Plain_Q") None)
    None (at 1 69) ∷ []) None (at 1 71) (Some (id (at 1 75) "Plain_R")) (at 1 82)) ∷ unit.OfBody (at 2 7) []
    (package_body_of (at 2 7) (at 2 15) (id (at 2 20) "Plain_R") None (at 2 28) (part.Completed (at 2 31) (subprogram_of
    (at 2 31) (subspec.Procedure (at 2 31) (id (at 2 41) "Plain_Q") None) None (at 2 49) [] (at 2 52) (sole (at 2 58)
    (call_of (at 2 58) "Ada" (suffix.Selected (at 2 61) (id (at 2 62) "Text_IO") ∷ suffix.Selected (at 2 69) (id (at 2
    70) "New_Line") ∷ []) (at 2 78))) (at 2 80) (Some (id (at 2 84) "Plain_Q")) (at 2 91)) ∷ []) (at 2 93) (Some (id (at
    2 97) "Plain_R")) (at 2 104)) ∷ unit.OfSubprogram (at 3 4) (context.With (at 3 4) (selected (at 3 9) "Ada" (at 3 12)
    (at 3 13) "Text_IO") [] (at 3 20) ∷ use_context (use_of (at 3 22) None (selected (at 3 26) "Ada" (at 3 29) (at 3 30)
    "Text_IO") [] (at 3 37)) ∷ context.With (at 3 39) (selected (at 3 44) "Ada" (at 3 47) (at 3 48) "Integer_Text_IO")
    [] (at 3 63) ∷ use_context (use_of (at 3 65) None (selected (at 3 69) "Ada" (at 3 72) (at 3 73) "Integer_Text_IO")
    [] (at 3 88)) ∷ context.With (at 3 90) (selected (at 3 95) "Ada" (at 3 98) (at 3 99) "Unchecked_Deallocation") []
    (at 3 121) ∷ []) (subprogram_of (at 4 4) (subspec.Procedure (at 4 4) (id (at 4 14) "Main") None) None (at 4 19)
    (item.IncompleteType (at 5 4) (id (at 5 9) "Cell") (at 5 13) ∷ item.AccessType (at 6 1) (id (at 6 6) "List") (at 6
    11) (at 6 14) (mark (at 6 21) "Cell") (at 6 25) ∷ item.RecordType (at 7 1) (id (at 7 6) "Cell") (at 7 11) (at 7 14)
    (fields_of (id (at 7 21) "Value") [] (at 7 27) (mark (at 7 29) "Integer") (at 7 36)) (fields_of (id (at 7 38)
    "Next") [] (at 7 43) (mark (at 7 45) "List") (at 7 49) ∷ []) (at 7 51) (at 7 55) (at 7 61) ∷ objects_of (id (at 8 4)
    "X") (next_id_of (at 8 5) (at 8 7) "Y" ∷ []) (at 8 9) None (indication_of (mark (at 8 11) "List")) (at 8 15) ∷
    initialized_of (id (at 9 4) "N") [] (at 9 6) None (indication_of (mark (at 9 8) "Integer")) (at 9 16) (expr_of (at 9
    19) (primary.Number (at 9 19) 4)) (at 9 20) ∷ []) (at 10 4) (stmts.Sequence (at 11 4) (stmt.For (at 11 4) (id (at 11
    8) "I") (at 11 10) None (range.Bounds (at 11 13) (expr_of (at 11 13) (primary.Number (at 11 13) 1)) (at 11 15)
    (expr_of (at 11 18) (primary.Number (at 11 18) 3))) (at 11 20) (sole (at 11 25) (assign_of (at 11 25) "N" [] (at 11
    27) (expr.LoneRelation (at 11 30) (rel.LoneSum (at 11 30) (sum.Unsigned (at 11 30) (term_of (at 11 30) (object (at
    11 30) "N")) (next_term.FurtherTerm (at 11 32) adding.Add (term_of (at 11 34) (object (at 11 34) "I")) ∷ [])))) (at
    11 35))) (at 11 37) (at 11 41) (at 11 45)) (assign_of (at 12 1) "X" [] (at 12 3) (expr_of (at 12 6)
    (primary.AllocatedAggregate (at 12 6) (mark (at 12 10) "Cell") (at 12 14) (aggregate.Several (at 12 15) (actual_of
    (at 12 16) (object (at 12 16) "N")) (at 12 17) (actual_of (at 12 19) (primary.Null (at 12 19))) [] (at 12 23)))) (at
    12 24) ∷ stmt.If (at 13 4) (expr.LoneRelation (at 13 7) (rel.LoneSum (at 13 7) (sum.Unsigned (at 13 7) (term.Product
    (at 13 7) (factor.Not (at 13 7) (object (at 13 11) "End_Of_File")) []) []))) (at 13 23) (sole (at 13 28) (call_of
    (at 13 28) "Get" (suffix.Applied (at 13 32) (actual_of (at 13 33) (object (at 13 33) "N")) [] (at 13 34) ∷ []) (at
    13 35))) [] (at 13 37) (at 13 41) (at 13 43) ∷ stmt.While (at 14 1) (expr.LoneRelation (at 14 7) (rel.Compared (at
    14 7) (sum_of (at 14 7) (object (at 14 7) "N")) relational.Greater (at 14 9) (sum_of (at 14 11) (primary.Number (at
    14 11) 5)))) (at 14 13) (sole (at 14 18) (assign_of (at 14 18) "N" [] (at 14 20) (expr.LoneRelation (at 14 23)
    (rel.LoneSum (at 14 23) (sum.Unsigned (at 14 23) (term.Product (at 14 23) (factor_of (at 14 23) (object (at 14 23)
    "N")) (next_factor.FurtherFactor (at 14 25) multiplying.Divide (factor_of (at 14 27) (primary.Number (at 14 27) 2))
    ∷ [])) []))) (at 14 28))) (at 14 30) (at 14 34) (at 14 38) ∷ assign_of (at 15 1) "N" [] (at 15 3) (expr.LoneRelation
    (at 15 6) (rel.LoneSum (at 15 6) (sum.Unsigned (at 15 6) (term.Product (at 15 6) (factor_of (at 15 6) (object (at 15
    6) "N")) (next_factor.FurtherFactor (at 15 8) multiplying.Multiply (factor_of (at 15 10) (primary.Number (at 15 10)
    2)) ∷ [])) (next_term.FurtherTerm (at 15 12) adding.Add (term_of (at 15 14) (primary.Number (at 15 14) 1)) ∷ []))))
    (at 15 15) ∷ [])) (at 16 1) (Some (id (at 16 5) "Main")) (at 16 9)) ∷ []) ∷ [])
unfolding computes resolves
no_with_within_ada_3 = refl
