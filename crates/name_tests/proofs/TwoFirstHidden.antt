-- Two rules are broken, and N3 is first: by its position, or there by its code.
--
-- tools/tree_terms.py makes this of the sources that data/cases.txt has under its name.
use Rattle.std.proofs.Common.{refl, [], ◌∷◌}
use Rattle.std.specs.Prelude.{None, Some}
use Rattle.ada_tree.specs.declared.operator.AddingOperator.TheVariants as adding
use Rattle.ada_tree.specs.declared.expression.Aggregate.TheVariants as aggregate
use Rattle.ada_tree.specs.declared.statement.When.TheVariants as alternative
use Rattle.ada_tree.specs.declared.expression.Arg.TheVariants as arg
use Rattle.ada_tree.specs.declared.range.Choice.TheVariants as choice
use Rattle.ada_tree.specs.declared.unit.Context.TheVariants as context
use Rattle.ada_tree.specs.declared.subprogram.Decl.TheVariants as decl
use Rattle.ada_tree.specs.declared.expression.Expr.TheVariants as expr
use Rattle.ada_tree.specs.declared.declaration.Indication.TheVariants as indication
use Rattle.ada_tree.specs.declared.declaration.Item.TheVariants as item
use Rattle.ada_tree.specs.declared.operator.MultiplyingOperator.TheVariants as multiplying
use Rattle.ada_tree.specs.declared.expression.NextArg.TheVariants as next_arg
use Rattle.ada_tree.specs.declared.identifier.NextDotted.TheVariants as next_dotted
use Rattle.ada_tree.specs.declared.expression.NextFactor.TheVariants as next_factor
use Rattle.ada_tree.specs.declared.expression.NextTerm.TheVariants as next_term
use Rattle.ada_tree.specs.declared.unit.BodyPart.TheVariants as part
use Rattle.ada_tree.specs.declared.expression.Primary.TheVariants as primary
use Rattle.ada_tree.specs.declared.range.Range.TheVariants as range
use Rattle.ada_tree.specs.declared.expression.Rel.TheVariants as rel
use Rattle.ada_tree.specs.declared.operator.RelationalOperator.TheVariants as relational
use Rattle.ada_tree.specs.declared.statement.Stmt.TheVariants as stmt
use Rattle.ada_tree.specs.declared.statement.Stmts.TheVariants as stmts
use Rattle.ada_tree.specs.declared.subprogram.Subspec.TheVariants as subspec
use Rattle.ada_tree.specs.declared.expression.Suffix.TheVariants as suffix
use Rattle.ada_tree.specs.declared.expression.Sum.TheVariants as sum
use Rattle.ada_tree.specs.declared.expression.Term.TheVariants as term
use Rattle.ada_tree.specs.declared.unit.SourceUnit.TheVariants as unit
use Rattle.ada_grammar.proofs.SmallSources.{computes}
use Rattle.name_events.specs.declared.declaration.NameRule.TheVariants.{NotVisible}
use Rattle.name_tests.proofs.SmallRules.{resolves}
use Rattle.name_tests.proofs.SourceTrees.{IsFirstBrokenOf, actual_of, assign_of, at, call_of, expr_of, factor_of, fields_of, id, indication_of, initialized_of, mark, marked_of, named, next_id_of, object, objects_of, package_body_of, package_of, selected, sole, subprogram_of, sum_of, term_of, use_context, use_item, use_of}

two_n3_1 : IsFirstBrokenOf NotVisible (at 2 43) ((unit.OfPackage (at 1 1) [] (package_of (at 1 1) (id (at 1 9)
    "Second_P") None (at 1 18) (decl.OfItem (at 1 21) (objects_of (id (at 1 21) "Second_X") [] (at 1 30) None
    (indication_of (mark (at 1 32) "Integer")) (at 1 39)) ∷ []) None (at 1 41) (Some (id (at 1 45) "Second_P")) (at 1
    53)) ∷ unit.OfPackage (at 2 1) [] (package_of (at 2 1) (id (at 2 9) "Second_R") None (at 2 18) (decl.OfItem (at 2
    21) (initialized_of (id (at 2 21) "Second_Z") [] (at 2 30) None (indication_of (mark (at 2 32) "Integer")) (at 2 40)
    (expr_of (at 2 43) (named (at 2 43) "Second_P" (suffix.Selected (at 2 51) (id (at 2 52) "Second_X") ∷ []))) (at 2
    60)) ∷ []) None (at 2 62) (Some (id (at 2 66) "Second_R")) (at 2 74)) ∷ unit.OfPackage (at 3 1) [] (package_of (at 3
    1) (id (at 3 9) "Latest_P") None (at 3 18) (decl.OfItem (at 3 21) (item.EnumerationType (at 3 21) (id (at 3 26)
    "Latest_T") (at 3 35) (at 3 38) (id (at 3 39) "Latest_U") (next_id_of (at 3 47) (at 3 49) "Latest_V" ∷ []) (at 3 57)
    (at 3 58)) ∷ []) None (at 3 60) (Some (id (at 3 64) "Latest_P")) (at 3 72)) ∷ unit.OfPackage (at 4 1) (context.With
    (at 4 1) (mark (at 4 6) "Latest_P") [] (at 4 14) ∷ []) (package_of (at 4 16) (id (at 4 24) "Latest_R") None (at 4
    33) (decl.OfItem (at 4 36) (objects_of (id (at 4 36) "Latest_Z") [] (at 4 45) None (indication_of (mark (at 4 47)
    "Latest_T")) (at 4 55)) ∷ decl.OfItem (at 4 57) (use_item (use_of (at 4 57) None (mark (at 4 61) "Latest_P") [] (at
    4 69))) ∷ []) None (at 4 71) (Some (id (at 4 75) "Latest_R")) (at 4 83)) ∷ unit.OfSubprogram (at 5 1) (context.With
    (at 5 1) (selected (at 5 6) "Ada" (at 5 9) (at 5 10) "Text_IO") [] (at 5 17) ∷ use_context (use_of (at 5 19) None
    (selected (at 5 23) "Ada" (at 5 26) (at 5 27) "Text_IO") [] (at 5 34)) ∷ context.With (at 5 36) (selected (at 5 41)
    "Ada" (at 5 44) (at 5 45) "Integer_Text_IO") [] (at 5 60) ∷ use_context (use_of (at 5 62) None (selected (at 5 66)
    "Ada" (at 5 69) (at 5 70) "Integer_Text_IO") [] (at 5 85)) ∷ context.With (at 5 87) (selected (at 5 92) "Ada" (at 5
    95) (at 5 96) "Unchecked_Deallocation") [] (at 5 118) ∷ []) (subprogram_of (at 6 1) (subspec.Procedure (at 6 1) (id
    (at 6 11) "Main") None) None (at 6 16) (item.IncompleteType (at 7 1) (id (at 7 6) "Cell") (at 7 10) ∷
    item.AccessType (at 8 1) (id (at 8 6) "List") (at 8 11) (at 8 14) (mark (at 8 21) "Cell") (at 8 25) ∷
    item.RecordType (at 9 1) (id (at 9 6) "Cell") (at 9 11) (at 9 14) (fields_of (id (at 9 21) "Value") [] (at 9 27)
    (mark (at 9 29) "Integer") (at 9 36)) (fields_of (id (at 9 38) "Next") [] (at 9 43) (mark (at 9 45) "List") (at 9
    49) ∷ []) (at 9 51) (at 9 55) (at 9 61) ∷ objects_of (id (at 10 1) "X") (next_id_of (at 10 2) (at 10 4) "Y" ∷ [])
    (at 10 6) None (indication_of (mark (at 10 8) "List")) (at 10 12) ∷ initialized_of (id (at 11 1) "N") [] (at 11 3)
    None (indication_of (mark (at 11 5) "Integer")) (at 11 13) (expr_of (at 11 16) (primary.Number (at 11 16) 6)) (at 11
    17) ∷ []) (at 12 1) (stmts.Sequence (at 13 1) (stmt.IfElse (at 13 1) (expr.LoneRelation (at 13 4) (rel.Compared (at
    13 4) (sum_of (at 13 4) (object (at 13 4) "N")) relational.Greater (at 13 6) (sum_of (at 13 8) (primary.Number (at
    13 8) 3)))) (at 13 10) (sole (at 13 15) (assign_of (at 13 15) "N" [] (at 13 17) (expr.LoneRelation (at 13 20)
    (rel.LoneSum (at 13 20) (sum.Unsigned (at 13 20) (term_of (at 13 20) (object (at 13 20) "N")) (next_term.FurtherTerm
    (at 13 22) adding.Subtract (term_of (at 13 24) (primary.Number (at 13 24) 1)) ∷ [])))) (at 13 25))) [] (at 13 27)
    (sole (at 13 32) (stmt.Null (at 13 32) (at 13 36))) (at 13 38) (at 13 42) (at 13 44)) (stmt.While (at 14 1)
    (expr.LoneRelation (at 14 7) (rel.Compared (at 14 7) (sum_of (at 14 7) (object (at 14 7) "N")) relational.Greater
    (at 14 9) (sum_of (at 14 11) (primary.Number (at 14 11) 5)))) (at 14 13) (sole (at 14 18) (assign_of (at 14 18) "N"
    [] (at 14 20) (expr.LoneRelation (at 14 23) (rel.LoneSum (at 14 23) (sum.Unsigned (at 14 23) (term.Product (at 14
    23) (factor_of (at 14 23) (object (at 14 23) "N")) (next_factor.FurtherFactor (at 14 25) multiplying.Divide
    (factor_of (at 14 27) (primary.Number (at 14 27) 2)) ∷ [])) []))) (at 14 28))) (at 14 30) (at 14 34) (at 14 38) ∷
    [])) (at 15 1) (Some (id (at 15 5) "Main")) (at 15 9)) ∷ []) ∷ [])
unfolding computes resolves
two_n3_1 = refl

two_n3_2 : IsFirstBrokenOf NotVisible (at 2 62) ((unit.OfPackage (at 1 1) (context.With (at 1 1) (selected (at 1 6)
    "Ada" (at 1 9) (at 1 10) "Integer_Text_IO") [] (at 1 25) ∷ []) (package_of (at 1 27) (id (at 1 35) "Quick_R") None
    (at 1 43) (decl.Subprogram (at 1 46) (subspec.Procedure (at 1 46) (id (at 1 56) "Quick_Q") None) None (at 1 63) ∷
    []) None (at 1 65) (Some (id (at 1 69) "Quick_R")) (at 1 76)) ∷ unit.OfBody (at 2 7) [] (package_body_of (at 2 7)
    (at 2 15) (id (at 2 20) "Quick_R") None (at 2 28) (part.Completed (at 2 31) (subprogram_of (at 2 31)
    (subspec.Procedure (at 2 31) (id (at 2 41) "Quick_Q") None) None (at 2 49) [] (at 2 52) (sole (at 2 58) (call_of (at
    2 58) "Ada" (suffix.Selected (at 2 61) (id (at 2 62) "Text_IO") ∷ suffix.Selected (at 2 69) (id (at 2 70)
    "New_Line") ∷ []) (at 2 78))) (at 2 80) (Some (id (at 2 84) "Quick_Q")) (at 2 91)) ∷ []) (at 2 93) (Some (id (at 2
    97) "Quick_R")) (at 2 104)) ∷ unit.OfPackage (at 3 4) [] (package_of (at 3 4) (id (at 3 12) "Extra_P") None (at 3
    20) (decl.Subprogram (at 3 23) (subspec.Procedure (at 3 23) (id (at 3 33) "Extra_Q") None) None (at 3 40) ∷ []) None
    (at 3 42) (Some (id (at 3 46) "Extra_P")) (at 3 53)) ∷ unit.OfSubprogram (at 4 1) (context.With (at 4 1) (selected
    (at 4 6) "Ada" (at 4 9) (at 4 10) "Text_IO") [] (at 4 17) ∷ use_context (use_of (at 4 19) None (selected (at 4 23)
    "Ada" (at 4 26) (at 4 27) "Text_IO") [] (at 4 34)) ∷ context.With (at 4 36) (selected (at 4 41) "Ada" (at 4 44) (at
    4 45) "Integer_Text_IO") [] (at 4 60) ∷ use_context (use_of (at 4 62) None (selected (at 4 66) "Ada" (at 4 69) (at 4
    70) "Integer_Text_IO") [] (at 4 85)) ∷ context.With (at 4 87) (selected (at 4 92) "Ada" (at 4 95) (at 4 96)
    "Unchecked_Deallocation") [] (at 4 118) ∷ []) (subprogram_of (at 5 7) (subspec.Procedure (at 5 7) (id (at 5 17)
    "Main") None) None (at 5 22) (item.IncompleteType (at 6 7) (id (at 6 12) "Cell") (at 6 16) ∷ item.AccessType (at 7
    1) (id (at 7 6) "List") (at 7 11) (at 7 14) (mark (at 7 21) "Cell") (at 7 25) ∷ item.RecordType (at 8 7) (id (at 8
    12) "Cell") (at 8 17) (at 8 20) (fields_of (id (at 8 27) "Value") [] (at 8 33) (mark (at 8 35) "Integer") (at 8 42))
    (fields_of (id (at 8 44) "Next") [] (at 8 49) (mark (at 8 51) "List") (at 8 55) ∷ []) (at 8 57) (at 8 61) (at 8 67)
    ∷ objects_of (id (at 9 1) "X") (next_id_of (at 9 2) (at 9 4) "Y" ∷ []) (at 9 6) None (indication_of (mark (at 9 8)
    "List")) (at 9 12) ∷ initialized_of (id (at 10 7) "N") [] (at 10 9) None (indication_of (mark (at 10 11) "Integer"))
    (at 10 19) (expr_of (at 10 22) (primary.Number (at 10 22) 0)) (at 10 23) ∷ item.Instance (at 11 4) (id (at 11 14)
    "Free") (at 11 19) (at 11 22) (selected (at 11 26) "Ada" (at 11 29) (at 11 30) "Unchecked_Deallocation") (at 11 53)
    (actual_of (at 11 54) (object (at 11 54) "Cell")) (next_arg.FurtherArg (at 11 58) (actual_of (at 11 60) (object (at
    11 60) "List")) ∷ []) (at 11 64) (at 11 65) ∷ []) (at 12 7) (stmts.Sequence (at 13 1) (assign_of (at 13 1) "X" []
    (at 13 3) (expr_of (at 13 6) (primary.AllocatedAggregate (at 13 6) (mark (at 13 10) "Cell") (at 13 14)
    (aggregate.Several (at 13 15) (actual_of (at 13 16) (object (at 13 16) "N")) (at 13 17) (actual_of (at 13 19)
    (primary.Null (at 13 19))) [] (at 13 23)))) (at 13 24)) (stmt.Case (at 14 4) (expr_of (at 14 9) (object (at 14 9)
    "N")) (at 14 11) (alternative.Alternative (at 14 14) (choice.Value (at 14 19) (expr_of (at 14 19) (primary.Number
    (at 14 19) 1))) [] (at 14 21) (sole (at 14 24) (stmt.Null (at 14 24) (at 14 28)))) (alternative.Alternative (at 14
    30) (choice.Others (at 14 35)) [] (at 14 42) (sole (at 14 45) (assign_of (at 14 45) "N" [] (at 14 47) (expr_of (at
    14 50) (primary.Number (at 14 50) 2)) (at 14 51))) ∷ []) (at 14 53) (at 14 57) (at 14 61) ∷ stmt.IfElse (at 15 1)
    (expr.LoneRelation (at 15 4) (rel.Compared (at 15 4) (sum_of (at 15 4) (object (at 15 4) "N")) relational.Greater
    (at 15 6) (sum_of (at 15 8) (primary.Number (at 15 8) 3)))) (at 15 10) (sole (at 15 15) (assign_of (at 15 15) "N" []
    (at 15 17) (expr.LoneRelation (at 15 20) (rel.LoneSum (at 15 20) (sum.Unsigned (at 15 20) (term_of (at 15 20)
    (object (at 15 20) "N")) (next_term.FurtherTerm (at 15 22) adding.Subtract (term_of (at 15 24) (primary.Number (at
    15 24) 1)) ∷ [])))) (at 15 25))) [] (at 15 27) (sole (at 15 32) (stmt.Null (at 15 32) (at 15 36))) (at 15 38) (at 15
    42) (at 15 44) ∷ stmt.DeclareBlock (at 16 1) (initialized_of (id (at 16 9) "B") [] (at 16 11) None
    (indication.Anonymous (at 16 13) None (mark (at 16 20) "Cell")) (at 16 25) (expr_of (at 16 28) (object (at 16 28)
    "X")) (at 16 29) ∷ []) (at 16 31) (sole (at 16 37) (stmt.If (at 16 37) (expr.LoneRelation (at 16 40) (rel.Compared
    (at 16 40) (sum_of (at 16 40) (object (at 16 40) "B")) relational.NotEqual (at 16 42) (sum_of (at 16 45)
    (primary.Null (at 16 45))))) (at 16 50) (sole (at 16 55) (assign_of (at 16 55) "B" (suffix.Selected (at 16 56) (id
    (at 16 57) "Value") ∷ []) (at 16 63) (expr_of (at 16 66) (object (at 16 66) "N")) (at 16 67))) [] (at 16 69) (at 16
    73) (at 16 75))) (at 16 77) (at 16 80) ∷ call_of (at 17 4) "Put_Line" (suffix.Applied (at 17 13) (actual_of (at 17
    14) (named (at 17 14) "Integer" (suffix.Attribute (at 17 21) (id (at 17 22) "Image") ∷ suffix.Applied (at 17 28)
    (actual_of (at 17 29) (object (at 17 29) "N")) [] (at 17 30) ∷ []))) [] (at 17 31) ∷ []) (at 17 32) ∷ [])) (at 18 7)
    (Some (id (at 18 11) "Main")) (at 18 15)) ∷ []) ∷ [])
unfolding computes resolves
two_n3_2 = refl

two_n3_3 : IsFirstBrokenOf NotVisible (at 17 63) ((unit.OfSubprogram (at 1 1) (context.With (at 1 1) (selected (at 1 6)
    "ADA" (at 1 9) (at 1 10) "Text_IO") [] (at 1 17) ∷ use_context (use_of (at 1 19) None (selected (at 1 23) "ADA" (at
    1 26) (at 1 27) "Text_IO") [] (at 1 34)) ∷ context.With (at 1 36) (selected (at 1 41) "Ada" (at 1 44) (at 1 45)
    "Integer_Text_IO") [] (at 1 60) ∷ use_context (use_of (at 1 62) None (selected (at 1 66) "Ada" (at 1 69) (at 1 70)
    "Integer_Text_IO") [] (at 1 85)) ∷ context.With (at 1 87) (selected (at 1 92) "Ada" (at 1 95) (at 1 96)
    "Unchecked_Deallocation") [] (at 1 118) ∷ []) (subprogram_of (at 2 1) (subspec.Procedure (at 2 1) (id (at 2 11)
    "Main") None) None (at 2 16) (item.IncompleteType (at 3 1) (id (at 3 6) "Cell") (at 3 10) ∷ item.AccessType (at 4 1)
    (id (at 4 6) "List") (at 4 11) (at 4 14) (mark (at 4 21) "Cell") (at 4 25) ∷ item.RecordType (at 5 1) (id (at 5 6)
    "Cell") (at 5 11) (at 5 14) (fields_of (id (at 5 21) "Value") [] (at 5 27) (mark (at 5 29) "Integer") (at 5 36))
    (fields_of (id (at 5 38) "Next") [] (at 5 43) (mark (at 5 45) "List") (at 5 49) ∷ []) (at 5 51) (at 5 55) (at 5 61)
    ∷ objects_of (id (at 6 1) "X") (next_id_of (at 6 2) (at 6 4) "Y" ∷ []) (at 6 6) None (indication_of (mark (at 6 8)
    "List")) (at 6 12) ∷ initialized_of (id (at 7 1) "N") [] (at 7 3) None (indication_of (mark (at 7 5) "Integer")) (at
    7 13) (expr_of (at 7 16) (primary.Number (at 7 16) 6)) (at 7 17) ∷ []) (at 8 1) (stmts.Sequence (at 9 1)
    (stmt.DeclareBlock (at 9 1) (initialized_of (id (at 9 9) "B") [] (at 9 11) None (indication.Anonymous (at 9 13) None
    (mark (at 9 20) "Cell")) (at 9 25) (expr_of (at 9 28) (object (at 9 28) "X")) (at 9 29) ∷ []) (at 9 31) (sole (at 9
    37) (stmt.If (at 9 37) (expr.LoneRelation (at 9 40) (rel.Compared (at 9 40) (sum_of (at 9 40) (object (at 9 40)
    "B")) relational.NotEqual (at 9 42) (sum_of (at 9 45) (primary.Null (at 9 45))))) (at 9 50) (sole (at 9 55)
    (assign_of (at 9 55) "B" (suffix.Selected (at 9 56) (id (at 9 57) "Value") ∷ []) (at 9 63) (expr_of (at 9 66)
    (object (at 9 66) "N")) (at 9 67))) [] (at 9 69) (at 9 73) (at 9 75))) (at 9 77) (at 9 80)) (assign_of (at 10 1) "N"
    [] (at 10 3) (expr.LoneRelation (at 10 6) (rel.LoneSum (at 10 6) (sum.Unsigned (at 10 6) (term.Product (at 10 6)
    (factor_of (at 10 6) (object (at 10 6) "N")) (next_factor.FurtherFactor (at 10 8) multiplying.Multiply (factor_of
    (at 10 10) (primary.Number (at 10 10) 2)) ∷ [])) (next_term.FurtherTerm (at 10 12) adding.Add (term_of (at 10 14)
    (primary.Number (at 10 14) 1)) ∷ [])))) (at 10 15) ∷ assign_of (at 11 1) "X" [] (at 11 3) (expr_of (at 11 6)
    (primary.AllocatedAggregate (at 11 6) (mark (at 11 10) "Cell") (at 11 14) (aggregate.Several (at 11 15) (actual_of
    (at 11 16) (object (at 11 16) "N")) (at 11 17) (actual_of (at 11 19) (primary.Null (at 11 19))) [] (at 11 23)))) (at
    11 24) ∷ stmt.For (at 12 1) (id (at 12 5) "I") (at 12 7) None (range.Bounds (at 12 10) (expr_of (at 12 10)
    (primary.Number (at 12 10) 1)) (at 12 12) (expr_of (at 12 15) (primary.Number (at 12 15) 3))) (at 12 17) (sole (at
    12 22) (assign_of (at 12 22) "N" [] (at 12 24) (expr.LoneRelation (at 12 27) (rel.LoneSum (at 12 27) (sum.Unsigned
    (at 12 27) (term_of (at 12 27) (object (at 12 27) "N")) (next_term.FurtherTerm (at 12 29) adding.Add (term_of (at 12
    31) (object (at 12 31) "I")) ∷ [])))) (at 12 32))) (at 12 34) (at 12 38) (at 12 42) ∷ stmt.While (at 13 1)
    (expr.LoneRelation (at 13 7) (rel.Compared (at 13 7) (sum_of (at 13 7) (object (at 13 7) "n")) relational.Greater
    (at 13 9) (sum_of (at 13 11) (primary.Number (at 13 11) 5)))) (at 13 13) (sole (at 13 18) (assign_of (at 13 18) "N"
    [] (at 13 20) (expr.LoneRelation (at 13 23) (rel.LoneSum (at 13 23) (sum.Unsigned (at 13 23) (term.Product (at 13
    23) (factor_of (at 13 23) (object (at 13 23) "N")) (next_factor.FurtherFactor (at 13 25) multiplying.Divide
    (factor_of (at 13 27) (primary.Number (at 13 27) 2)) ∷ [])) []))) (at 13 28))) (at 13 30) (at 13 34) (at 13 38) ∷
    [])) (at 14 1) (Some (id (at 14 5) "Main")) (at 14 9)) ∷ unit.OfPackage (at 15 1) [] (package_of (at 15 1) (id (at
    15 9) "sPARE_p") None (at 15 17) (decl.Subprogram (at 15 20) (subspec.Procedure (at 15 20) (id (at 15 30) "Spare_Q")
    None) None (at 15 37) ∷ []) None (at 15 39) (Some (id (at 15 43) "Spare_P")) (at 15 50)) ∷ unit.OfBody (at 16 1) []
    (package_body_of (at 16 1) (at 16 9) (id (at 16 14) "Spare_P") None (at 16 22) (part.Declared (at 16 25)
    (decl.OfItem (at 16 25) (objects_of (id (at 16 25) "Spare_X") [] (at 16 33) None (indication_of (mark (at 16 35)
    "Integer")) (at 16 42))) ∷ part.Completed (at 16 44) (subprogram_of (at 16 44) (subspec.Procedure (at 16 44) (id (at
    16 54) "Spare_Q") None) None (at 16 62) [] (at 16 65) (sole (at 16 71) (assign_of (at 16 71) "Spare_X" [] (at 16 79)
    (expr_of (at 16 82) (primary.Number (at 16 82) 1)) (at 16 83))) (at 16 85) (Some (id (at 16 89) "Spare_Q")) (at 16
    96)) ∷ []) (at 16 98) (Some (id (at 16 102) "Spare_P")) (at 16 109)) ∷ unit.OfPackage (at 17 1) (context.With (at 17
    1) (mark (at 17 6) "Spare_P") [] (at 17 13) ∷ []) (package_of (at 17 15) (id (at 17 23) "Spare_R") None (at 17 31)
    (decl.OfItem (at 17 34) (initialized_of (id (at 17 34) "Spare_Z") [] (at 17 42) None (indication_of (mark (at 17 44)
    "Integer")) (at 17 52) (expr_of (at 17 55) (named (at 17 55) "Spare_P" (suffix.Selected (at 17 62) (id (at 17 63)
    "Spare_X") ∷ []))) (at 17 70)) ∷ []) None (at 17 72) (Some (id (at 17 76) "Spare_R")) (at 17 83)) ∷ unit.OfPackage
    (at 18 1) (context.With (at 18 1) (selected (at 18 6) "Ada" (at 18 9) (at 18 10) "Text_IO") [] (at 18 17) ∷
    use_context (use_of (at 18 19) None (selected (at 18 23) "ADA" (at 18 26) (at 18 27) "Text_IO") [] (at 18 34)) ∷
    context.With (at 18 36) (selected (at 18 41) "ADA" (at 18 44) (at 18 45) "Integer_Text_IO") [] (at 18 60) ∷
    use_context (use_of (at 18 62) None (selected (at 18 66) "Ada" (at 18 69) (at 18 70) "Integer_Text_IO") [] (at 18
    85)) ∷ context.With (at 18 87) (selected (at 18 92) "ada" (at 18 95) (at 18 96) "Unchecked_Deallocation") [] (at 18
    118) ∷ []) (package_of (at 18 120) (id (at 18 128) "Usual_P") None (at 18 136) (decl.OfItem (at 18 139) (objects_of
    (id (at 18 139) "Usual_X") [] (at 18 147) None (indication_of (mark (at 18 149) "Character")) (at 18 158)) ∷ [])
    None (at 18 160) (Some (id (at 18 164) "uSUAL_p")) (at 18 171)) ∷ []) ∷ [])
unfolding computes resolves
two_n3_3 = refl

two_n3_4 : IsFirstBrokenOf NotVisible (at 6 85) ((unit.OfPackage (at 1 7) [] (package_of (at 1 7) (id (at 1 15)
    "Plain_P") None (at 1 23) (decl.Subprogram (at 1 26) (subspec.Procedure (at 1 26) (id (at 1 36) "Plain_X") None)
    None (at 1 43) ∷ []) None (at 1 45) (Some (id (at 1 49) "Plain_P")) (at 1 56)) ∷ unit.OfBody (at 2 7) []
    (package_body_of (at 2 7) (at 2 15) (id (at 2 20) "Plain_P") None (at 2 28) (part.Completed (at 2 31) (subprogram_of
    (at 2 31) (subspec.Procedure (at 2 31) (id (at 2 41) "Plain_X") None) None (at 2 49) [] (at 2 52) (sole (at 2 58)
    (stmt.Null (at 2 58) (at 2 62))) (at 2 64) (Some (id (at 2 68) "Plain_X")) (at 2 75)) ∷ []) (at 2 77) (Some (id (at
    2 81) "Plain_P")) (at 2 88)) ∷ unit.OfPackage (at 3 1) [] (package_of (at 3 1) (id (at 3 9) "Plain_Q") None (at 3
    17) (decl.Subprogram (at 3 20) (subspec.Procedure (at 3 20) (id (at 3 30) "Plain_X") None) None (at 3 37) ∷ []) None
    (at 3 39) (Some (id (at 3 43) "Plain_Q")) (at 3 50)) ∷ unit.OfBody (at 4 1) [] (package_body_of (at 4 1) (at 4 9)
    (id (at 4 14) "Plain_Q") None (at 4 22) (part.Completed (at 4 25) (subprogram_of (at 4 25) (subspec.Procedure (at 4
    25) (id (at 4 35) "Plain_X") None) None (at 4 43) [] (at 4 46) (sole (at 4 52) (stmt.Null (at 4 52) (at 4 56))) (at
    4 58) (Some (id (at 4 62) "Plain_X")) (at 4 69)) ∷ []) (at 4 71) (Some (id (at 4 75) "Plain_Q")) (at 4 82)) ∷
    unit.OfPackage (at 5 4) (context.With (at 5 4) (mark (at 5 9) "Plain_P") (next_dotted.FurtherDotted (at 5 16) (mark
    (at 5 18) "Plain_Q") ∷ []) (at 5 25) ∷ use_context (use_of (at 5 27) None (mark (at 5 31) "Plain_P") [] (at 5 38)) ∷
    []) (package_of (at 5 40) (id (at 5 48) "Plain_R") None (at 5 56) (decl.Subprogram (at 5 59) (subspec.Procedure (at
    5 59) (id (at 5 69) "Plain_Y") None) None (at 5 76) ∷ []) None (at 5 78) (Some (id (at 5 82) "Plain_R")) (at 5 89))
    ∷ unit.OfBody (at 6 7) [] (package_body_of (at 6 7) (at 6 15) (id (at 6 20) "Plain_R") None (at 6 28)
    (part.Completed (at 6 31) (subprogram_of (at 6 31) (subspec.Procedure (at 6 31) (id (at 6 41) "Plain_Y") None) None
    (at 6 49) [] (at 6 52) (sole (at 6 58) (stmt.DeclareBlock (at 6 58) (use_item (use_of (at 6 66) None (mark (at 6 70)
    "Plain_Q") [] (at 6 77)) ∷ []) (at 6 79) (sole (at 6 85) (call_of (at 6 85) "Plain_X" [] (at 6 92))) (at 6 94) (at 6
    97))) (at 6 99) (Some (id (at 6 103) "Plain_Y")) (at 6 110)) ∷ []) (at 6 112) (Some (id (at 6 116) "Plain_R")) (at 6
    123)) ∷ unit.OfPackage (at 7 4) [] (package_of (at 7 4) (id (at 7 12) "Minor_P") None (at 7 20) (decl.Subprogram (at
    7 23) (subspec.Procedure (at 7 23) (id (at 7 33) "Minor_Q") None) None (at 7 40) ∷ []) None (at 7 42) (Some (id (at
    7 46) "Minor_P")) (at 7 53)) ∷ unit.OfBody (at 8 1) [] (package_body_of (at 8 1) (at 8 9) (id (at 8 14) "Minor_P")
    None (at 8 22) (part.Declared (at 8 25) (decl.OfItem (at 8 25) (objects_of (id (at 8 25) "Minor_X") [] (at 8 33)
    None (indication_of (mark (at 8 35) "Integer")) (at 8 42))) ∷ part.Completed (at 8 44) (subprogram_of (at 8 44)
    (subspec.Procedure (at 8 44) (id (at 8 54) "Minor_Q") None) None (at 8 62) [] (at 8 65) (sole (at 8 71) (assign_of
    (at 8 71) "Minor_X" [] (at 8 79) (expr_of (at 8 82) (primary.Number (at 8 82) 1)) (at 8 83))) (at 8 85) (Some (id
    (at 8 89) "Minor_Q")) (at 8 96)) ∷ []) (at 8 98) (Some (id (at 8 102) "Minor_P")) (at 8 109)) ∷ unit.OfPackage (at 9
    1) (context.With (at 9 1) (mark (at 9 6) "Minor_P") [] (at 9 13) ∷ []) (package_of (at 9 15) (id (at 9 23)
    "Minor_R") None (at 9 31) (decl.OfItem (at 9 34) (initialized_of (id (at 9 34) "Minor_Z") [] (at 9 42) None
    (indication_of (mark (at 9 44) "Integer")) (at 9 52) (expr_of (at 9 55) (named (at 9 55) "Minor_P" (suffix.Selected
    (at 9 62) (id (at 9 63) "Minor_X") ∷ []))) (at 9 70)) ∷ []) None (at 9 72) (Some (id (at 9 76) "Minor_R")) (at 9
    83)) ∷ unit.OfSubprogram (at 10 1) (context.With (at 10 1) (selected (at 10 6) "Ada" (at 10 9) (at 10 10) "Text_IO")
    [] (at 10 17) ∷ use_context (use_of (at 10 19) None (selected (at 10 23) "Ada" (at 10 26) (at 10 27) "Text_IO") []
    (at 10 34)) ∷ context.With (at 11 1) (selected (at 11 6) "Ada" (at 11 9) (at 11 10) "Integer_Text_IO") [] (at 11 25)
    ∷ use_context (use_of (at 11 27) None (selected (at 11 31) "Ada" (at 11 34) (at 11 35) "Integer_Text_IO") [] (at 11
    50)) ∷ context.With (at 12 1) (selected (at 12 6) "Ada" (at 12 9) (at 12 10) "Unchecked_Deallocation") [] (at 12 32)
    ∷ []) (subprogram_of (at 13 7) (subspec.Procedure (at 13 7) (id (at 13 17) "Main") None) None (at 13 22)
    (item.AccessType (at 14 7) (id (at 14 12) "P1") (at 14 15) (at 14 18) (mark (at 14 25) "Integer") (at 14 32) ∷
    item.IncompleteType (at 15 1) (id (at 15 6) "Cell1") (at 15 11) ∷ item.AccessType (at 16 1) (id (at 16 6) "List1")
    (at 16 12) (at 16 15) (mark (at 16 22) "Cell1") (at 16 27) ∷ item.RecordType (at 17 4) (id (at 17 9) "Cell1") (at 17
    15) (at 17 18) (fields_of (id (at 17 25) "Val1") [] (at 17 30) (mark (at 17 32) "Integer") (at 17 39)) (fields_of
    (id (at 17 41) "Next1") [] (at 17 47) (mark (at 17 49) "List1") (at 17 54) ∷ []) (at 17 56) (at 17 60) (at 17 66) ∷
    item.Instance (at 18 1) (id (at 18 11) "Free1") (at 18 17) (at 18 20) (selected (at 18 24) "Ada" (at 18 27) (at 18
    28) "Unchecked_Deallocation") (at 18 51) (actual_of (at 18 52) (object (at 18 52) "Cell1")) (next_arg.FurtherArg (at
    18 57) (actual_of (at 18 59) (object (at 18 59) "List1")) ∷ []) (at 18 64) (at 18 65) ∷ item.AccessType (at 19 7)
    (id (at 19 12) "P2") (at 19 15) (at 19 18) (mark (at 19 25) "Integer") (at 19 32) ∷ item.AccessType (at 20 4) (id
    (at 20 9) "P3") (at 20 12) (at 20 15) (mark (at 20 22) "P2") (at 20 24) ∷ item.Instance (at 21 4) (id (at 21 14)
    "Free2") (at 21 20) (at 21 23) (selected (at 21 27) "Ada" (at 21 30) (at 21 31) "Unchecked_Deallocation") (at 21 54)
    (actual_of (at 21 55) (object (at 21 55) "P2")) (next_arg.FurtherArg (at 21 57) (actual_of (at 21 59) (object (at 21
    59) "P3")) ∷ []) (at 21 61) (at 21 62) ∷ item.AccessType (at 22 1) (id (at 22 6) "P4") (at 22 9) (at 22 12) (mark
    (at 22 19) "P1") (at 22 21) ∷ item.Instance (at 23 7) (id (at 23 17) "Free3") (at 23 23) (at 23 26) (selected (at 23
    30) "Ada" (at 23 33) (at 23 34) "Unchecked_Deallocation") (at 23 57) (actual_of (at 23 58) (object (at 23 58) "P1"))
    (next_arg.FurtherArg (at 23 60) (actual_of (at 23 62) (object (at 23 62) "P4")) ∷ []) (at 23 64) (at 23 65) ∷
    initialized_of (id (at 24 1) "V1") [] (at 24 4) None (indication_of (mark (at 24 6) "Integer")) (at 24 14) (expr_of
    (at 24 17) (primary.Number (at 24 17) 15)) (at 24 19) ∷ initialized_of (id (at 25 7) "V2") [] (at 25 10) None
    (indication_of (mark (at 25 12) "P4")) (at 25 15) (expr_of (at 25 18) (primary.Allocated (at 25 18) (mark (at 25 22)
    "P1"))) (at 25 24) ∷ initialized_of (id (at 26 1) "V3") [] (at 26 4) None (indication_of (mark (at 26 6) "Boolean"))
    (at 26 14) (expr.LoneRelation (at 26 17) (rel.Compared (at 26 17) (sum_of (at 26 17) (object (at 26 17) "V1"))
    relational.LessEqual (at 26 20) (sum_of (at 26 23) (named (at 26 23) "Positive" (suffix.Attribute (at 26 31) (id (at
    26 32) "First") ∷ []))))) (at 26 37) ∷ []) (at 27 4) (stmts.Sequence (at 28 1) (stmt.For (at 28 1) (id (at 28 5)
    "I1") (at 28 8) None (marked_of (mark (at 28 11) "Boolean")) (at 28 19) (stmts.Sequence (at 29 4) (stmt.If (at 29 4)
    (expr.LoneRelation (at 29 7) (rel.Compared (at 29 7) (sum_of (at 29 7) (object (at 29 7) "V2")) relational.NotEqual
    (at 29 10) (sum_of (at 29 13) (primary.Null (at 29 13))))) (at 29 18) (sole (at 30 1) (assign_of (at 30 1) "V2"
    (suffix.Dereferenced (at 30 3) (at 30 4) ∷ []) (at 30 8) (expr_of (at 30 11) (named (at 30 11) "V2"
    (suffix.Dereferenced (at 30 13) (at 30 14) ∷ []))) (at 30 17))) [] (at 31 1) (at 31 5) (at 31 7)) (assign_of (at 32
    7) "V1" [] (at 32 10) (expr_of (at 32 13) (object (at 32 13) "V1")) (at 32 15) ∷ [])) (at 33 1) (at 33 5) (at 33 9))
    (assign_of (at 34 4) "V3" [] (at 34 7) (expr_of (at 34 10) (object (at 34 10) "End_Of_File")) (at 34 21) ∷ stmt.For
    (at 35 1) (id (at 35 5) "I2") (at 35 8) None (range.Bounds (at 35 11) (expr_of (at 35 11) (primary.Number (at 35 11)
    0)) (at 35 13) (expr_of (at 35 16) (primary.Number (at 35 16) 0))) (at 35 18) (stmts.Sequence (at 36 1) (assign_of
    (at 36 1) "V2" [] (at 36 4) (expr_of (at 36 7) (primary.Null (at 36 7))) (at 36 11)) (call_of (at 37 4) "Put_Line"
    (suffix.Applied (at 37 13) (arg.Positional (at 37 14) (expr.LoneRelation (at 37 14) (rel.LoneSum (at 37 14)
    (sum.Unsigned (at 37 14) (term_of (at 37 14) (named (at 37 14) "Integer" (suffix.Attribute (at 37 21) (id (at 37 22)
    "Image") ∷ suffix.Applied (at 37 28) (actual_of (at 37 29) (primary.Parenthesized (at 37 29) (expr.LoneRelation (at
    37 30) (rel.LoneSum (at 37 30) (sum.Unsigned (at 37 30) (term.Product (at 37 30) (factor_of (at 37 30)
    (primary.Number (at 37 30) 8)) (next_factor.FurtherFactor (at 37 32) multiplying.Remainder (factor_of (at 37 36)
    (primary.Number (at 37 36) 5)) ∷ [])) []))) (at 37 37))) [] (at 37 38) ∷ []))) (next_term.FurtherTerm (at 37 40)
    adding.Concatenate (term_of (at 37 42) (named (at 37 42) "Integer" (suffix.Attribute (at 37 49) (id (at 37 50)
    "Image") ∷ suffix.Applied (at 37 56) (actual_of (at 37 57) (primary.Parenthesized (at 37 57) (expr.LoneRelation (at
    37 58) (rel.LoneSum (at 37 58) (sum.Unsigned (at 37 58) (term_of (at 37 58) (primary.Number (at 37 58) 8))
    (next_term.FurtherTerm (at 37 60) adding.Subtract (term_of (at 37 62) (object (at 37 62) "V1")) ∷ [])))) (at 37
    64))) [] (at 37 65) ∷ []))) ∷ []))))) [] (at 37 66) ∷ []) (at 37 67) ∷ [])) (at 38 1) (at 38 5) (at 38 9) ∷ [])) (at
    39 1) (Some (id (at 39 5) "Main")) (at 39 9)) ∷ []) ∷ [])
unfolding computes resolves
two_n3_4 = refl

two_n3_5 : IsFirstBrokenOf NotVisible (at 14 104) ((unit.OfSubprogram (at 1 1) (context.With (at 1 1) (selected (at 1 6)
    "Ada" (at 1 9) (at 1 10) "Text_IO") [] (at 1 17) ∷ use_context (use_of (at 1 19) None (selected (at 1 23) "Ada" (at
    1 26) (at 1 27) "Text_IO") [] (at 1 34)) ∷ context.With (at 1 36) (selected (at 1 41) "Ada" (at 1 44) (at 1 45)
    "Integer_Text_IO") [] (at 1 60) ∷ use_context (use_of (at 1 62) None (selected (at 1 66) "Ada" (at 1 69) (at 1 70)
    "Integer_Text_IO") [] (at 1 85)) ∷ context.With (at 1 87) (selected (at 1 92) "Ada" (at 1 95) (at 1 96)
    "Unchecked_Deallocation") [] (at 1 118) ∷ []) (subprogram_of (at 2 1) (subspec.Procedure (at 2 1) (id (at 2 11)
    "Main") None) None (at 2 16) (item.IncompleteType (at 3 1) (id (at 3 6) "Cell") (at 3 10) ∷ item.AccessType (at 4 1)
    (id (at 4 6) "List") (at 4 11) (at 4 14) (mark (at 4 21) "Cell") (at 4 25) ∷ item.RecordType (at 5 1) (id (at 5 6)
    "Cell") (at 5 11) (at 5 14) (fields_of (id (at 5 21) "Value") [] (at 5 27) (mark (at 5 29) "Integer") (at 5 36))
    (fields_of (id (at 5 38) "Next") [] (at 5 43) (mark (at 5 45) "List") (at 5 49) ∷ []) (at 5 51) (at 5 55) (at 5 61)
    ∷ objects_of (id (at 6 1) "X") (next_id_of (at 6 2) (at 6 4) "Y" ∷ []) (at 6 6) None (indication_of (mark (at 6 8)
    "List")) (at 6 12) ∷ initialized_of (id (at 7 1) "N") [] (at 7 3) None (indication_of (mark (at 7 5) "Integer")) (at
    7 13) (expr_of (at 7 16) (primary.Number (at 7 16) 3)) (at 7 17) ∷ []) (at 8 1) (stmts.Sequence (at 9 1)
    (stmt.IfElse (at 9 1) (expr.LoneRelation (at 9 4) (rel.Compared (at 9 4) (sum_of (at 9 4) (object (at 9 4) "N"))
    relational.Greater (at 9 6) (sum_of (at 9 8) (primary.Number (at 9 8) 3)))) (at 9 10) (sole (at 9 15) (assign_of (at
    9 15) "N" [] (at 9 17) (expr.LoneRelation (at 9 20) (rel.LoneSum (at 9 20) (sum.Unsigned (at 9 20) (term_of (at 9
    20) (object (at 9 20) "N")) (next_term.FurtherTerm (at 9 22) adding.Subtract (term_of (at 9 24) (primary.Number (at
    9 24) 1)) ∷ [])))) (at 9 25))) [] (at 9 27) (sole (at 9 32) (stmt.Null (at 9 32) (at 9 36))) (at 9 38) (at 9 42) (at
    9 44)) (call_of (at 10 1) "Put_Line" (suffix.Applied (at 10 10) (actual_of (at 10 11) (named (at 10 11) "Integer"
    (suffix.Attribute (at 10 18) (id (at 10 19) "Image") ∷ suffix.Applied (at 10 25) (actual_of (at 10 26) (object (at
    10 26) "N")) [] (at 10 27) ∷ []))) [] (at 10 28) ∷ []) (at 10 29) ∷ assign_of (at 11 1) "X" [] (at 11 3) (expr_of
    (at 11 6) (primary.AllocatedAggregate (at 11 6) (mark (at 11 10) "Cell") (at 11 14) (aggregate.Several (at 11 15)
    (actual_of (at 11 16) (object (at 11 16) "N")) (at 11 17) (actual_of (at 11 19) (primary.Null (at 11 19))) [] (at 11
    23)))) (at 11 24) ∷ assign_of (at 12 1) "N" [] (at 12 3) (expr.LoneRelation (at 12 6) (rel.LoneSum (at 12 6)
    (sum.Unsigned (at 12 6) (term.Product (at 12 6) (factor_of (at 12 6) (object (at 12 6) "N"))
    (next_factor.FurtherFactor (at 12 8) multiplying.Multiply (factor_of (at 12 10) (primary.Number (at 12 10) 2)) ∷
    [])) (next_term.FurtherTerm (at 12 12) adding.Add (term_of (at 12 14) (primary.Number (at 12 14) 1)) ∷ [])))) (at 12
    15) ∷ [])) (at 13 1) (Some (id (at 13 5) "Main")) (at 13 9)) ∷ unit.OfPackage (at 14 1) (context.With (at 14 1)
    (selected (at 14 6) "Ada" (at 14 9) (at 14 10) "Text_IO") [] (at 14 17) ∷ []) (package_of (at 14 19) (id (at 14 27)
    "Spare_R") None (at 14 35) (decl.OfItem (at 14 38) (item.AccessType (at 14 38) (id (at 14 43) "Spare_Ptr") (at 14
    53) (at 14 56) (mark (at 14 63) "Integer") (at 14 70)) ∷ decl.OfItem (at 14 72) (item.Instance (at 14 72) (id (at 14
    82) "Spare_Free") (at 14 93) (at 14 96) (selected (at 14 100) "Ada" (at 14 103) (at 14 104)
    "Unchecked_Deallocation") (at 14 127) (actual_of (at 14 128) (object (at 14 128) "Integer")) (next_arg.FurtherArg
    (at 14 135) (actual_of (at 14 137) (object (at 14 137) "Spare_Ptr")) ∷ []) (at 14 146) (at 14 147)) ∷ []) None (at
    14 149) (Some (id (at 14 153) "Spare_R")) (at 14 160)) ∷ unit.OfPackage (at 15 1) [] (package_of (at 15 1) (id (at
    15 9) "Former_P") None (at 15 18) (decl.OfItem (at 15 21) (objects_of (id (at 15 21) "Former_X") [] (at 15 30) None
    (indication_of (mark (at 15 32) "Integer")) (at 15 39)) ∷ []) None (at 15 41) (Some (id (at 15 45) "Former_P")) (at
    15 53)) ∷ unit.OfSubprogram (at 16 1) (context.With (at 16 1) (mark (at 16 6) "Former_P") [] (at 16 14) ∷ [])
    (subprogram_of (at 16 16) (subspec.Procedure (at 16 16) (id (at 16 26) "Former_Q") None) None (at 16 35) [] (at 16
    38) (sole (at 16 44) (assign_of (at 16 44) "Former_P" (suffix.Selected (at 16 52) (id (at 16 53) "Former_X") ∷ [])
    (at 16 62) (expr_of (at 16 65) (primary.Number (at 16 65) 1)) (at 16 66))) (at 16 68) (Some (id (at 16 72)
    "Former_Q")) (at 16 80)) ∷ []) ∷ [])
unfolding computes resolves
two_n3_5 = refl

two_n3_6 : IsFirstBrokenOf NotVisible (at 3 63) ((unit.OfPackage (at 1 1) [] (package_of (at 1 1) (id (at 1 9)
    "Minor_P") None (at 1 17) (decl.Subprogram (at 1 20) (subspec.Procedure (at 1 20) (id (at 1 30) "Minor_Q") None)
    None (at 1 37) ∷ []) None (at 1 39) (Some (id (at 1 43) "Minor_P")) (at 1 50)) ∷ unit.OfBody (at 2 1) []
    (package_body_of (at 2 1) (at 2 9) (id (at 2 14) "Minor_P") None (at 2 22) (part.Declared (at 2 25) (decl.OfItem (at
    2 25) (objects_of (id (at 2 25) "Minor_X") [] (at 2 33) None (indication_of (mark (at 2 35) "Integer")) (at 2 42)))
    ∷ part.Completed (at 2 44) (subprogram_of (at 2 44) (subspec.Procedure (at 2 44) (id (at 2 54) "Minor_Q") None) None
    (at 2 62) [] (at 2 65) (sole (at 2 71) (assign_of (at 2 71) "Minor_X" [] (at 2 79) (expr_of (at 2 82)
    (primary.Number (at 2 82) 1)) (at 2 83))) (at 2 85) (Some (id (at 2 89) "Minor_Q")) (at 2 96)) ∷ []) (at 2 98) (Some
    (id (at 2 102) "Minor_P")) (at 2 109)) ∷ unit.OfPackage (at 3 1) (context.With (at 3 1) (mark (at 3 6) "Minor_P") []
    (at 3 13) ∷ []) (package_of (at 3 15) (id (at 3 23) "Minor_R") None (at 3 31) (decl.OfItem (at 3 34) (initialized_of
    (id (at 3 34) "Minor_Z") [] (at 3 42) None (indication_of (mark (at 3 44) "Integer")) (at 3 52) (expr_of (at 3 55)
    (named (at 3 55) "Minor_P" (suffix.Selected (at 3 62) (id (at 3 63) "Minor_X") ∷ []))) (at 3 70)) ∷ []) None (at 3
    72) (Some (id (at 3 76) "Minor_R")) (at 3 83)) ∷ unit.OfSubprogram (at 4 1) (context.With (at 4 1) (selected (at 4
    6) "Ada" (at 4 9) (at 4 10) "Text_IO") [] (at 4 17) ∷ use_context (use_of (at 4 19) None (selected (at 4 23) "Ada"
    (at 4 26) (at 4 27) "Text_IO") [] (at 4 34)) ∷ context.With (at 4 36) (selected (at 4 41) "Ada" (at 4 44) (at 4 45)
    "Integer_Text_IO") [] (at 4 60) ∷ use_context (use_of (at 4 62) None (selected (at 4 66) "Ada" (at 4 69) (at 4 70)
    "Integer_Text_IO") [] (at 4 85)) ∷ context.With (at 4 87) (selected (at 4 92) "Ada" (at 4 95) (at 4 96)
    "Unchecked_Deallocation") [] (at 4 118) ∷ []) (subprogram_of (at 5 1) (subspec.Procedure (at 5 1) (id (at 5 11)
    "Main") None) None (at 5 16) (item.IncompleteType (at 6 1) (id (at 6 6) "Cell") (at 6 10) ∷ item.AccessType (at 7 1)
    (id (at 7 6) "List") (at 7 11) (at 7 14) (mark (at 7 21) "Cell") (at 7 25) ∷ item.RecordType (at 8 1) (id (at 8 6)
    "Cell") (at 8 11) (at 8 14) (fields_of (id (at 8 21) "Value") [] (at 8 27) (mark (at 8 29) "Integer") (at 8 36))
    (fields_of (id (at 8 38) "Next") [] (at 8 43) (mark (at 8 45) "List") (at 8 49) ∷ []) (at 8 51) (at 8 55) (at 8 61)
    ∷ objects_of (id (at 9 1) "X") (next_id_of (at 9 2) (at 9 4) "Y" ∷ []) (at 9 6) None (indication_of (mark (at 9 8)
    "List")) (at 9 12) ∷ initialized_of (id (at 10 1) "N") [] (at 10 3) None (indication_of (mark (at 10 5) "Integer"))
    (at 10 13) (expr_of (at 10 16) (primary.Number (at 10 16) 1)) (at 10 17) ∷ item.Instance (at 11 1) (id (at 11 11)
    "Free") (at 11 16) (at 11 19) (selected (at 11 23) "Ada" (at 11 26) (at 11 27) "Unchecked_Deallocation") (at 11 50)
    (actual_of (at 11 51) (object (at 11 51) "Cell")) (next_arg.FurtherArg (at 11 55) (actual_of (at 11 57) (object (at
    11 57) "List")) ∷ []) (at 11 61) (at 11 62) ∷ []) (at 12 1) (stmts.Sequence (at 13 1) (call_of (at 13 1) "Put_Line"
    (suffix.Applied (at 13 10) (actual_of (at 13 11) (named (at 13 11) "Integer" (suffix.Attribute (at 13 18) (id (at 13
    19) "Image") ∷ suffix.Applied (at 13 25) (actual_of (at 13 26) (object (at 13 26) "N")) [] (at 13 27) ∷ []))) [] (at
    13 28) ∷ []) (at 13 29)) (stmt.While (at 14 1) (expr.LoneRelation (at 14 7) (rel.Compared (at 14 7) (sum_of (at 14
    7) (object (at 14 7) "N")) relational.Greater (at 14 9) (sum_of (at 14 11) (primary.Number (at 14 11) 5)))) (at 14
    13) (sole (at 14 18) (assign_of (at 14 18) "N" [] (at 14 20) (expr.LoneRelation (at 14 23) (rel.LoneSum (at 14 23)
    (sum.Unsigned (at 14 23) (term.Product (at 14 23) (factor_of (at 14 23) (object (at 14 23) "N"))
    (next_factor.FurtherFactor (at 14 25) multiplying.Divide (factor_of (at 14 27) (primary.Number (at 14 27) 2)) ∷ []))
    []))) (at 14 28))) (at 14 30) (at 14 34) (at 14 38) ∷ [])) (at 15 1) (Some (id (at 15 5) "Main")) (at 15 9)) ∷
    unit.OfPackage (at 16 1) (context.With (at 16 1) (selected (at 16 6) "Ada" (at 16 9) (at 16 10) "Text_IO") [] (at 16
    17) ∷ use_context (use_of (at 16 19) None (selected (at 16 23) "Ada" (at 16 26) (at 16 27) "Text_IO") [] (at 16 34))
    ∷ context.With (at 16 36) (selected (at 16 41) "Ada" (at 16 44) (at 16 45) "Integer_Text_IO") [] (at 16 60) ∷
    use_context (use_of (at 16 62) None (selected (at 16 66) "Ada" (at 16 69) (at 16 70) "Integer_Text_IO") [] (at 16
    85)) ∷ context.With (at 16 87) (selected (at 16 92) "Ada" (at 16 95) (at 16 96) "Unchecked_Deallocation") [] (at 16
    118) ∷ []) (package_of (at 16 120) (id (at 16 128) "Plain_P") None (at 16 136) (decl.OfItem (at 16 139) (use_item
    (use_of (at 16 139) (Some (at 16 143)) (mark (at 16 148) "Plain_What") [] (at 16 158))) ∷ []) None (at 16 160) (Some
    (id (at 16 164) "Plain_P")) (at 16 171)) ∷ []) ∷ [])
unfolding computes resolves
two_n3_6 = refl
