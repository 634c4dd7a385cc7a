-- A package lacks what is named, or the language does: N1.
--
-- tools/tree_terms.py makes this of the sources that data/cases.txt has under its name.
use Rattle.std.proofs.Common.{refl, [], ◌∷◌}
use Rattle.std.specs.Prelude.{None, Some}
use Rattle.ada_tree.specs.declared.operator.AddingOperator.TheVariants as adding
use Rattle.ada_tree.specs.declared.expression.Aggregate.TheVariants as aggregate
use Rattle.ada_tree.specs.declared.statement.When.TheVariants as alternative
use Rattle.ada_tree.specs.declared.expression.Arg.TheVariants as arg
use Rattle.ada_tree.specs.declared.range.Choice.TheVariants as choice
use Rattle.ada_tree.specs.declared.unit.Context.TheVariants as context
use Rattle.ada_tree.specs.declared.subprogram.Decl.TheVariants as decl
use Rattle.ada_tree.specs.declared.expression.Expr.TheVariants as expr
use Rattle.ada_tree.specs.declared.expression.Factor.TheVariants as factor
use Rattle.ada_tree.specs.declared.declaration.Indication.TheVariants as indication
use Rattle.ada_tree.specs.declared.declaration.Item.TheVariants as item
use Rattle.ada_tree.specs.declared.operator.MultiplyingOperator.TheVariants as multiplying
use Rattle.ada_tree.specs.declared.expression.NextArg.TheVariants as next_arg
use Rattle.ada_tree.specs.declared.identifier.NextDotted.TheVariants as next_dotted
use Rattle.ada_tree.specs.declared.expression.NextFactor.TheVariants as next_factor
use Rattle.ada_tree.specs.declared.subprogram.NextFormal.TheVariants as next_formal
use Rattle.ada_tree.specs.declared.expression.NextTerm.TheVariants as next_term
use Rattle.ada_tree.specs.declared.unit.BodyPart.TheVariants as part
use Rattle.ada_tree.specs.declared.expression.Primary.TheVariants as primary
use Rattle.ada_tree.specs.declared.range.Range.TheVariants as range
use Rattle.ada_tree.specs.declared.expression.Rel.TheVariants as rel
use Rattle.ada_tree.specs.declared.operator.RelationalOperator.TheVariants as relational
use Rattle.ada_tree.specs.declared.operator.Sign.TheVariants as sign
use Rattle.ada_tree.specs.declared.statement.Stmt.TheVariants as stmt
use Rattle.ada_tree.specs.declared.statement.Stmts.TheVariants as stmts
use Rattle.ada_tree.specs.declared.subprogram.Subspec.TheVariants as subspec
use Rattle.ada_tree.specs.declared.expression.Suffix.TheVariants as suffix
use Rattle.ada_tree.specs.declared.expression.Sum.TheVariants as sum
use Rattle.ada_tree.specs.declared.expression.Term.TheVariants as term
use Rattle.ada_tree.specs.declared.unit.SourceUnit.TheVariants as unit
use Rattle.ada_grammar.proofs.SmallSources.{computes}
use Rattle.name_events.specs.declared.declaration.NameRule.TheVariants.{Unknown}
use Rattle.name_tests.proofs.SmallRules.{resolves}
use Rattle.name_tests.proofs.SourceTrees.{IsFirstBrokenOf, actual_of, assign_of, association_of, at, at1, at2, call_of, constrained_of, expr_of, factor_of, fields_of, formals_of, id, indication_of, initialized_of, mark, moded_of, named, next_id_of, object, objects_of, package_body_of, package_of, rel_of, selected, sole, subprogram_of, sum_of, term_of, use_context, use_item, use_of}

-- The package before the dot has no declaration of the name.
no_member_1 : IsFirstBrokenOf Unknown (at 10 59) ((unit.OfSubprogram (at 1 7) (context.With (at 1 7) (selected (at 1 12)
    "Ada" (at 1 15) (at 1 16) "Text_IO") [] (at 1 23) ∷ use_context (use_of (at 1 25) None (selected (at 1 29) "Ada" (at
    1 32) (at 1 33) "Text_IO") [] (at 1 40)) ∷ context.With (at 1 42) (selected (at 1 47) "Ada" (at 1 50) (at 1 51)
    "Integer_Text_IO") [] (at 1 66) ∷ use_context (use_of (at 1 68) None (selected (at 1 72) "Ada" (at 1 75) (at 1 76)
    "Integer_Text_IO") [] (at 1 91)) ∷ context.With (at 1 93) (selected (at 1 98) "Ada" (at 1 101) (at 1 102)
    "Unchecked_Deallocation") [] (at 1 124) ∷ []) (subprogram_of (at 2 1) (subspec.Procedure (at 2 1) (id (at 2 11)
    "Main") None) None (at 2 16) (item.IncompleteType (at 3 4) (id (at 3 9) "Cell") (at 3 13) ∷ item.AccessType (at 4 4)
    (id (at 4 9) "List") (at 4 14) (at 4 17) (mark (at 4 24) "Cell") (at 4 28) ∷ item.RecordType (at 5 1) (id (at 5 6)
    "Cell") (at 5 11) (at 5 14) (fields_of (id (at 5 21) "Value") [] (at 5 27) (mark (at 5 29) "Integer") (at 5 36))
    (fields_of (id (at 5 38) "Next") [] (at 5 43) (mark (at 5 45) "List") (at 5 49) ∷ []) (at 5 51) (at 5 55) (at 5 61)
    ∷ objects_of (id (at 6 4) "X") (next_id_of (at 6 5) (at 6 7) "Y" ∷ []) (at 6 9) None (indication_of (mark (at 6 11)
    "List")) (at 6 15) ∷ initialized_of (id (at 7 4) "N") [] (at 7 6) None (indication_of (mark (at 7 8) "Integer")) (at
    7 16) (expr_of (at 7 19) (primary.Number (at 7 19) 9)) (at 7 20) ∷ []) (at 8 4) (stmts.Sequence (at 9 1) (call_of
    (at 9 1) "Put_Line" (suffix.Applied (at 9 10) (actual_of (at 9 11) (named (at 9 11) "Integer" (suffix.Attribute (at
    9 18) (id (at 9 19) "Image") ∷ suffix.Applied (at 9 25) (actual_of (at 9 26) (object (at 9 26) "N")) [] (at 9 27) ∷
    []))) [] (at 9 28) ∷ []) (at 9 29)) (stmt.While (at 10 4) (expr.LoneRelation (at 10 10) (rel.Compared (at 10 10)
    (sum_of (at 10 10) (object (at 10 10) "N")) relational.Greater (at 10 12) (sum_of (at 10 14) (primary.Number (at 10
    14) 5)))) (at 10 16) (stmts.Sequence (at 10 21) (assign_of (at 10 21) "N" [] (at 10 23) (expr.LoneRelation (at 10
    26) (rel.LoneSum (at 10 26) (sum.Unsigned (at 10 26) (term.Product (at 10 26) (factor_of (at 10 26) (object (at 10
    26) "N")) (next_factor.FurtherFactor (at 10 28) multiplying.Divide (factor_of (at 10 30) (primary.Number (at 10 30)
    2)) ∷ [])) []))) (at 10 31)) (stmt.Block (at 10 33) (sole (at 10 39) (call_of (at 10 39) "Ada" (suffix.Selected (at
    10 42) (id (at 10 43) "Integer_Text_IO") ∷ suffix.Selected (at 10 58) (id (at 10 59) "Put") ∷ suffix.Applied (at 10
    63) (actual_of (at 10 64) (primary.Number (at 10 64) 1)) [] (at 10 65) ∷ []) (at 10 66))) (at 10 68) (at 10 71) ∷
    [])) (at 10 73) (at 10 77) (at 10 81) ∷ assign_of (at 11 1) "Y" [] (at 11 3) (expr_of (at 11 6) (object (at 11 6)
    "X")) (at 11 7) ∷ assign_of (at 11 9) "X" [] (at 11 11) (expr_of (at 11 14) (primary.Null (at 11 14))) (at 11 18) ∷
    stmt.For (at 12 7) (id (at 12 11) "I") (at 12 13) None (range.Bounds (at 12 16) (expr_of (at 12 16) (primary.Number
    (at 12 16) 1)) (at 12 18) (expr_of (at 12 21) (primary.Number (at 12 21) 3))) (at 12 23) (sole (at 12 28) (assign_of
    (at 12 28) "N" [] (at 12 30) (expr.LoneRelation (at 12 33) (rel.LoneSum (at 12 33) (sum.Unsigned (at 12 33) (term_of
    (at 12 33) (object (at 12 33) "N")) (next_term.FurtherTerm (at 12 35) adding.Add (term_of (at 12 37) (object (at 12
    37) "I")) ∷ [])))) (at 12 38))) (at 12 40) (at 12 44) (at 12 48) ∷ [])) (at 13 1) (Some (id (at 13 5) "Main")) (at
    13 9)) ∷ []) ∷ [])
unfolding computes resolves
no_member_1 = refl

no_member_2 : IsFirstBrokenOf Unknown (at 12 100) ((unit.OfSubprogram (at 1 4) (context.With (at 1 4) (selected (at 1 9)
    "Ada" (at 1 12) (at 1 13) "Text_IO") [] (at 1 20) ∷ use_context (use_of (at 1 22) None (selected (at 1 26) "Ada" (at
    1 29) (at 1 30) "Text_IO") [] (at 1 37)) ∷ context.With (at 1 39) (selected (at 1 44) "Ada" (at 1 47) (at 1 48)
    "Integer_Text_IO") [] (at 1 63) ∷ use_context (use_of (at 1 65) None (selected (at 1 69) "Ada" (at 1 72) (at 1 73)
    "Integer_Text_IO") [] (at 1 88)) ∷ context.With (at 1 90) (selected (at 1 95) "Ada" (at 1 98) (at 1 99)
    "Unchecked_Deallocation") [] (at 1 121) ∷ []) (subprogram_of (at 2 1) (subspec.Procedure (at 2 1) (id (at 2 11)
    "Main") None) None (at 2 16) (item.IncompleteType (at 3 1) (id (at 3 6) "Cell") (at 3 10) ∷ item.AccessType (at 4 7)
    (id (at 4 12) "List") (at 4 17) (at 4 20) (mark (at 4 27) "Cell") (at 4 31) ∷ item.RecordType (at 5 1) (id (at 5 6)
    "Cell") (at 5 11) (at 5 14) (fields_of (id (at 5 21) "Value") [] (at 5 27) (mark (at 5 29) "Integer") (at 5 36))
    (fields_of (id (at 5 38) "Next") [] (at 5 43) (mark (at 5 45) "List") (at 5 49) ∷ []) (at 5 51) (at 5 55) (at 5 61)
    ∷ objects_of (id (at 6 7) "X") (next_id_of (at 6 8) (at 6 10) "Y" ∷ []) (at 6 12) None (indication_of (mark (at 6
    14) "List")) (at 6 18) ∷ initialized_of (id (at 7 4) "N") [] (at 7 6) None (indication_of (mark (at 7 8) "Integer"))
    (at 7 16) (expr_of (at 7 19) (primary.Number (at 7 19) 9)) (at 7 20) ∷ item.Instance (at 8 7) (id (at 8 17) "Free")
    (at 8 22) (at 8 25) (selected (at 8 29) "Ada" (at 8 32) (at 8 33) "Unchecked_Deallocation") (at 8 56) (actual_of (at
    8 57) (object (at 8 57) "Cell")) (next_arg.FurtherArg (at 8 61) (actual_of (at 8 63) (object (at 8 63) "List")) ∷
    []) (at 8 67) (at 8 68) ∷ []) (at 9 7) (stmts.Sequence (at 10 1) (stmt.If (at 10 1) (expr.LoneRelation (at 10 4)
    (rel.LoneSum (at 10 4) (sum.Unsigned (at 10 4) (term.Product (at 10 4) (factor.Not (at 10 4) (object (at 10 8)
    "End_Of_File")) []) []))) (at 10 20) (sole (at 10 25) (call_of (at 10 25) "Get" (suffix.Applied (at 10 29)
    (actual_of (at 10 30) (object (at 10 30) "N")) [] (at 10 31) ∷ []) (at 10 32))) [] (at 10 34) (at 10 38) (at 10 40))
    (stmt.Case (at 11 4) (expr_of (at 11 9) (object (at 11 9) "N")) (at 11 11) (alternative.Alternative (at 11 14)
    (choice.Value (at 11 19) (expr_of (at 11 19) (primary.Number (at 11 19) 1))) [] (at 11 21) (sole (at 11 24)
    (stmt.Null (at 11 24) (at 11 28)))) (alternative.Alternative (at 11 30) (choice.Others (at 11 35)) [] (at 11 42)
    (sole (at 11 45) (assign_of (at 11 45) "N" [] (at 11 47) (expr_of (at 11 50) (primary.Number (at 11 50) 2)) (at 11
    51))) ∷ []) (at 11 53) (at 11 57) (at 11 61) ∷ stmt.DeclareBlock (at 12 1) (initialized_of (id (at 12 9) "B") [] (at
    12 11) None (indication.Anonymous (at 12 13) None (mark (at 12 20) "Cell")) (at 12 25) (expr_of (at 12 28) (object
    (at 12 28) "X")) (at 12 29) ∷ []) (at 12 31) (sole (at 12 37) (stmt.If (at 12 37) (expr.LoneRelation (at 12 40)
    (rel.Compared (at 12 40) (sum_of (at 12 40) (object (at 12 40) "B")) relational.NotEqual (at 12 42) (sum_of (at 12
    45) (primary.Null (at 12 45))))) (at 12 50) (sole (at 12 55) (assign_of (at 12 55) "B" (suffix.Selected (at 12 56)
    (id (at 12 57) "Value") ∷ []) (at 12 63) (expr_of (at 12 66) (object (at 12 66) "N")) (at 12 67))) [] (at 12 69) (at
    12 73) (at 12 75))) (at 12 77) (at 12 80) ∷ stmt.Block (at 12 82) (sole (at 12 88) (call_of (at 12 88) "Ada"
    (suffix.Selected (at 12 91) (id (at 12 92) "Text_IO") ∷ suffix.Selected (at 12 99) (id (at 12 100) "Set_Col") ∷
    suffix.Applied (at 12 108) (actual_of (at 12 109) (primary.Number (at 12 109) 1)) [] (at 12 110) ∷ []) (at 12 111)))
    (at 12 113) (at 12 116) ∷ [])) (at 13 4) (Some (id (at 13 8) "Main")) (at 13 12)) ∷ []) ∷ [])
unfolding computes resolves
no_member_2 = refl

no_member_3 : IsFirstBrokenOf Unknown (at 15 79) ((unit.OfSubprogram (at 1 1) (context.With (at 1 1) (selected (at 1 6)
    "Ada" (at 1 9) (at 1 10) "Text_IO") [] (at 1 17) ∷ use_context (use_of (at 1 19) None (selected (at 1 23) "Ada" (at
    1 26) (at 1 27) "Text_IO") [] (at 1 34)) ∷ context.With (at 1 36) (selected (at 1 41) "Ada" (at 1 44) (at 1 45)
    "Integer_Text_IO") [] (at 1 60) ∷ use_context (use_of (at 1 62) None (selected (at 1 66) "Ada" (at 1 69) (at 1 70)
    "Integer_Text_IO") [] (at 1 85)) ∷ context.With (at 1 87) (selected (at 1 92) "Ada" (at 1 95) (at 1 96)
    "Unchecked_Deallocation") [] (at 1 118) ∷ []) (subprogram_of (at 2 1) (subspec.Procedure (at 2 1) (id (at 2 11)
    "Main") None) None (at 2 16) (item.IncompleteType (at 3 7) (id (at 3 12) "Cell") (at 3 16) ∷ item.AccessType (at 4
    1) (id (at 4 6) "List") (at 4 11) (at 4 14) (mark (at 4 21) "Cell") (at 4 25) ∷ item.RecordType (at 5 7) (id (at 5
    12) "Cell") (at 5 17) (at 5 20) (fields_of (id (at 5 27) "Value") [] (at 5 33) (mark (at 5 35) "Integer") (at 5 42))
    (fields_of (id (at 5 44) "Next") [] (at 5 49) (mark (at 5 51) "List") (at 5 55) ∷ []) (at 5 57) (at 5 61) (at 5 67)
    ∷ objects_of (id (at 6 7) "X") (next_id_of (at 6 8) (at 6 10) "Y" ∷ []) (at 6 12) None (indication_of (mark (at 6
    14) "List")) (at 6 18) ∷ initialized_of (id (at 7 1) "N") [] (at 7 3) None (indication_of (mark (at 7 5) "Integer"))
    (at 7 13) (expr_of (at 7 16) (primary.Number (at 7 16) 6)) (at 7 17) ∷ item.Instance (at 8 7) (id (at 8 17) "Free")
    (at 8 22) (at 8 25) (selected (at 8 29) "Ada" (at 8 32) (at 8 33) "Unchecked_Deallocation") (at 8 56) (actual_of (at
    8 57) (object (at 8 57) "Cell")) (next_arg.FurtherArg (at 8 61) (actual_of (at 8 63) (object (at 8 63) "List")) ∷
    []) (at 8 67) (at 8 68) ∷ []) (at 9 7) (stmts.Sequence (at 10 7) (assign_of (at 10 7) "N" [] (at 10 9)
    (expr.LoneRelation (at 10 12) (rel.LoneSum (at 10 12) (sum.Unsigned (at 10 12) (term.Product (at 10 12) (factor_of
    (at 10 12) (object (at 10 12) "N")) (next_factor.FurtherFactor (at 10 14) multiplying.Multiply (factor_of (at 10 16)
    (primary.Number (at 10 16) 2)) ∷ [])) (next_term.FurtherTerm (at 10 18) adding.Add (term_of (at 10 20)
    (primary.Number (at 10 20) 1)) ∷ [])))) (at 10 21)) (stmt.While (at 11 4) (expr.LoneRelation (at 11 10)
    (rel.Compared (at 11 10) (sum_of (at 11 10) (object (at 11 10) "N")) relational.Greater (at 11 12) (sum_of (at 11
    14) (primary.Number (at 11 14) 5)))) (at 11 16) (sole (at 11 21) (assign_of (at 11 21) "N" [] (at 11 23)
    (expr.LoneRelation (at 11 26) (rel.LoneSum (at 11 26) (sum.Unsigned (at 11 26) (term.Product (at 11 26) (factor_of
    (at 11 26) (object (at 11 26) "N")) (next_factor.FurtherFactor (at 11 28) multiplying.Divide (factor_of (at 11 30)
    (primary.Number (at 11 30) 2)) ∷ [])) []))) (at 11 31))) (at 11 33) (at 11 37) (at 11 41) ∷ call_of (at 12 7)
    "Put_Line" (suffix.Applied (at 12 16) (actual_of (at 12 17) (named (at 12 17) "Integer" (suffix.Attribute (at 12 24)
    (id (at 12 25) "Image") ∷ suffix.Applied (at 12 31) (actual_of (at 12 32) (object (at 12 32) "N")) [] (at 12 33) ∷
    []))) [] (at 12 34) ∷ []) (at 12 35) ∷ [])) (at 13 4) (Some (id (at 13 8) "Main")) (at 13 12)) ∷ unit.OfPackage (at
    14 4) [] (package_of (at 14 4) (id (at 14 12) "Extra_P") None (at 14 20) (decl.OfItem (at 14 23) (objects_of (id (at
    14 23) "Extra_Y") [] (at 14 31) None (indication_of (mark (at 14 33) "Integer")) (at 14 40)) ∷ []) None (at 14 42)
    (Some (id (at 14 46) "Extra_P")) (at 14 53)) ∷ unit.OfPackage (at 15 4) (context.With (at 15 4) (mark (at 15 9)
    "Extra_P") [] (at 15 16) ∷ use_context (use_of (at 15 18) None (mark (at 15 22) "Extra_P") [] (at 15 29)) ∷ [])
    (package_of (at 15 31) (id (at 15 39) "Extra_R") None (at 15 47) (decl.OfItem (at 15 50) (initialized_of (id (at 15
    50) "Extra_Z") [] (at 15 58) None (indication_of (mark (at 15 60) "Integer")) (at 15 68) (expr_of (at 15 71) (named
    (at 15 71) "Extra_P" (suffix.Selected (at 15 78) (id (at 15 79) "Extra_X") ∷ []))) (at 15 86)) ∷ []) None (at 15 88)
    (Some (id (at 15 92) "Extra_R")) (at 15 99)) ∷ []) ∷ [])
unfolding computes resolves
no_member_3 = refl

no_member_4 : IsFirstBrokenOf Unknown (at2 2 89) ((unit.OfSubprogram (at 1 4) (context.With (at 1 4) (selected (at 1 9)
    "Ada" (at 1 12) (at 1 13) "Text_IO") [] (at 1 20) ∷ use_context (use_of (at 1 22) None (selected (at 1 26) "Ada" (at
    1 29) (at 1 30) "Text_IO") [] (at 1 37)) ∷ context.With (at 1 39) (selected (at 1 44) "Ada" (at 1 47) (at 1 48)
    "Integer_Text_IO") [] (at 1 63) ∷ use_context (use_of (at 1 65) None (selected (at 1 69) "Ada" (at 1 72) (at 1 73)
    "Integer_Text_IO") [] (at 1 88)) ∷ context.With (at 1 90) (selected (at 1 95) "Ada" (at 1 98) (at 1 99)
    "Unchecked_Deallocation") [] (at 1 121) ∷ []) (subprogram_of (at 2 1) (subspec.Procedure (at 2 1) (id (at 2 11)
    "Main") None) None (at 2 16) (item.IncompleteType (at 3 4) (id (at 3 9) "Cell") (at 3 13) ∷ item.AccessType (at 4 1)
    (id (at 4 6) "List") (at 4 11) (at 4 14) (mark (at 4 21) "Cell") (at 4 25) ∷ item.RecordType (at 5 4) (id (at 5 9)
    "Cell") (at 5 14) (at 5 17) (fields_of (id (at 5 24) "Value") [] (at 5 30) (mark (at 5 32) "Integer") (at 5 39))
    (fields_of (id (at 5 41) "Next") [] (at 5 46) (mark (at 5 48) "List") (at 5 52) ∷ []) (at 5 54) (at 5 58) (at 5 64)
    ∷ objects_of (id (at 6 1) "X") (next_id_of (at 6 2) (at 6 4) "Y" ∷ []) (at 6 6) None (indication_of (mark (at 6 8)
    "List")) (at 6 12) ∷ initialized_of (id (at 7 1) "N") [] (at 7 3) None (indication_of (mark (at 7 5) "Integer")) (at
    7 13) (expr_of (at 7 16) (primary.Number (at 7 16) 8)) (at 7 17) ∷ []) (at 8 4) (stmts.Sequence (at 9 1) (stmt.While
    (at 9 1) (expr.LoneRelation (at 9 7) (rel.Compared (at 9 7) (sum_of (at 9 7) (object (at 9 7) "N"))
    relational.Greater (at 9 9) (sum_of (at 9 11) (primary.Number (at 9 11) 5)))) (at 9 13) (sole (at 9 18) (assign_of
    (at 9 18) "N" [] (at 9 20) (expr.LoneRelation (at 9 23) (rel.LoneSum (at 9 23) (sum.Unsigned (at 9 23) (term.Product
    (at 9 23) (factor_of (at 9 23) (object (at 9 23) "N")) (next_factor.FurtherFactor (at 9 25) multiplying.Divide
    (factor_of (at 9 27) (primary.Number (at 9 27) 2)) ∷ [])) []))) (at 9 28))) (at 9 30) (at 9 34) (at 9 38))
    (assign_of (at 10 4) "N" [] (at 10 6) (expr.LoneRelation (at 10 9) (rel.LoneSum (at 10 9) (sum.Unsigned (at 10 9)
    (term.Product (at 10 9) (factor_of (at 10 9) (object (at 10 9) "N")) (next_factor.FurtherFactor (at 10 11)
    multiplying.Multiply (factor_of (at 10 13) (primary.Number (at 10 13) 2)) ∷ [])) (next_term.FurtherTerm (at 10 15)
    adding.Add (term_of (at 10 17) (primary.Number (at 10 17) 1)) ∷ [])))) (at 10 18) ∷ [])) (at 11 7) (Some (id (at 11
    11) "Main")) (at 11 15)) ∷ []) ∷ (unit.OfPackage (at1 1 4) (context.With (at1 1 4) (selected (at1 1 9) "Ada" (at1 1
    12) (at1 1 13) "Text_IO") [] (at1 1 20) ∷ use_context (use_of (at1 1 22) None (selected (at1 1 26) "Ada" (at1 1 29)
    (at1 1 30) "Text_IO") [] (at1 1 37)) ∷ context.With (at1 1 39) (selected (at1 1 44) "Ada" (at1 1 47) (at1 1 48)
    "Integer_Text_IO") [] (at1 1 63) ∷ use_context (use_of (at1 1 65) None (selected (at1 1 69) "Ada" (at1 1 72) (at1 1
    73) "Integer_Text_IO") [] (at1 1 88)) ∷ context.With (at1 1 90) (selected (at1 1 95) "Ada" (at1 1 98) (at1 1 99)
    "Unchecked_Deallocation") [] (at1 1 121) ∷ []) (package_of (at1 1 123) (id (at1 1 131) "Inner_P") None (at1 1 139)
    (decl.Subprogram (at1 2 1) (subspec.Procedure (at1 2 1) (id (at1 2 11) "Inner_Q") (Some (formals_of (at1 2 19)
    (moded_of (id (at1 2 20) "Inner_X") [] (at1 2 28) None None (mark (at1 2 30) "Integer")) [] (at1 2 37)))) None (at1
    2 38) ∷ []) None (at1 3 4) (Some (id (at1 3 8) "Inner_P")) (at1 3 15)) ∷ []) ∷ (unit.OfBody (at2 1 4) []
    (package_body_of (at2 1 4) (at2 1 12) (id (at2 1 17) "Inner_P") None (at2 1 25) (part.Completed (at2 2 4)
    (subprogram_of (at2 2 4) (subspec.Procedure (at2 2 4) (id (at2 2 14) "Inner_Q") (Some (formals_of (at2 2 22)
    (moded_of (id (at2 2 23) "Inner_X") [] (at2 2 31) None None (mark (at2 2 33) "Integer")) [] (at2 2 40)))) None (at2
    2 42) (objects_of (id (at2 2 45) "Inner_Y") [] (at2 2 53) None (indication_of (mark (at2 2 55) "Integer")) (at2 2
    62) ∷ []) (at2 2 64) (sole (at2 2 70) (assign_of (at2 2 70) "Inner_Y" [] (at2 2 78) (expr_of (at2 2 81) (named (at2
    2 81) "Inner_P" (suffix.Selected (at2 2 88) (id (at2 2 89) "Inner_X") ∷ []))) (at2 2 96))) (at2 2 98) (Some (id (at2
    2 102) "Inner_Q")) (at2 2 109)) ∷ []) (at2 3 7) (Some (id (at2 3 11) "Inner_P")) (at2 3 18)) ∷ []) ∷ [])
unfolding computes resolves
no_member_4 = refl

no_member_5 : IsFirstBrokenOf Unknown (at1 5 36) ((unit.OfSubprogram (at 1 1) (context.With (at 1 1) (selected (at 1 6)
    "Ada" (at 1 9) (at 1 10) "Text_IO") (next_dotted.FurtherDotted (at 1 17) (selected (at 1 19) "Ada" (at 1 22) (at 1
    23) "Integer_Text_IO") ∷ next_dotted.FurtherDotted (at 1 38) (selected (at 1 40) "Ada" (at 1 43) (at 1 44)
    "Unchecked_Deallocation") ∷ []) (at 1 66) ∷ use_context (use_of (at 2 1) None (selected (at 2 5) "Ada" (at 2 8) (at
    2 9) "Text_IO") (next_dotted.FurtherDotted (at 2 16) (selected (at 2 18) "Ada" (at 2 21) (at 2 22)
    "Integer_Text_IO") ∷ []) (at 2 37)) ∷ []) (subprogram_of (at 3 1) (subspec.Procedure (at 3 1) (id (at 3 11) "Main")
    None) None (at 3 16) (item.IncompleteType (at 4 1) (id (at 4 6) "MA1") (at 4 9) ∷ item.IncompleteType (at 4 11) (id
    (at 4 16) "MB1") (at 4 19) ∷ item.AccessType (at 5 1) (id (at 5 6) "PA1") (at 5 10) (at 5 13) (mark (at 5 20) "MA1")
    (at 5 23) ∷ item.AccessType (at 6 1) (id (at 6 6) "PB1") (at 6 10) (at 6 13) (mark (at 6 20) "MB1") (at 6 23) ∷
    item.RecordType (at 7 1) (id (at 7 6) "MA1") (at 7 10) (at 7 13) (fields_of (id (at 7 20) "To1") [] (at 7 24) (mark
    (at 7 26) "PB1") (at 7 29)) (fields_of (id (at 7 31) "N1") [] (at 7 34) (mark (at 7 36) "Integer") (at 7 43) ∷ [])
    (at 7 45) (at 7 49) (at 7 55) ∷ item.RecordType (at 8 1) (id (at 8 6) "MB1") (at 8 10) (at 8 13) (fields_of (id (at
    8 20) "Fro1") [] (at 8 25) (mark (at 8 27) "PA1") (at 8 30)) [] (at 8 32) (at 8 36) (at 8 42) ∷
    item.ConstrainedSubtype (at 9 1) (id (at 9 9) "S1") (at 9 12) (mark (at 9 15) "Positive") (at 9 24) (expr_of (at 9
    30) (primary.Number (at 9 30) 2)) (at 9 32) (expr_of (at 9 35) (primary.Number (at 9 35) 4)) (at 9 36) ∷
    item.ArrayType (at 10 1) (id (at 10 6) "A1") (at 10 9) (at 10 12) (at 10 18) (range.Bounds (at 10 19) (expr_of (at
    10 19) (primary.Number (at 10 19) 2)) (at 10 21) (expr_of (at 10 24) (primary.Number (at 10 24) 8))) (at 10 25) (at
    10 27) (mark (at 10 30) "Integer") (at 10 37) ∷ objects_of (id (at 11 1) "V1") [] (at 11 4) None (indication_of
    (mark (at 11 6) "MB1")) (at 11 9) ∷ objects_of (id (at 12 1) "V2") (next_id_of (at 12 3) (at 12 5) "V3" ∷ []) (at 12
    8) None (indication_of (mark (at 12 10) "Integer")) (at 12 17) ∷ objects_of (id (at 13 1) "V4") (next_id_of (at 13
    3) (at 13 5) "V5" ∷ []) (at 13 8) None (indication_of (mark (at 13 10) "S1")) (at 13 12) ∷ initialized_of (id (at 14
    1) "V6") [] (at 14 4) None (indication_of (mark (at 14 6) "PA1")) (at 14 10) (expr_of (at 14 13) (named (at 14 13)
    "V1" (suffix.Selected (at 14 15) (id (at 14 16) "Fro1") ∷ []))) (at 14 20) ∷ initialized_of (id (at 15 1) "V7") []
    (at 15 4) None (indication_of (mark (at 15 6) "MA1")) (at 15 10) (expr_of (at 15 13) (primary.Aggregated (at 15 13)
    (aggregate.Several (at 15 13) (actual_of (at 15 14) (primary.AllocatedAggregate (at 15 14) (mark (at 15 18) "MB1")
    (at 15 21) (aggregate.Single (at 15 22) (id (at 15 23) "Fro1") (at 15 28) (expr_of (at 15 31) (primary.Null (at 15
    31))) (at 15 35)))) (at 15 36) (actual_of (at 15 38) (object (at 15 38) "V4")) [] (at 15 40)))) (at 15 41) ∷
    objects_of (id (at 16 1) "V8") [] (at 16 4) None (indication_of (mark (at 16 6) "Boolean")) (at 16 13) ∷ objects_of
    (id (at 17 1) "T1") [] (at 17 4) None (indication_of (mark (at 17 6) "Integer")) (at 17 13) ∷ []) (at 18 1)
    (stmts.Sequence (at 19 1) (assign_of (at 19 1) "T1" [] (at 19 4) (expr_of (at 19 7) (primary.Number (at 19 7) 0))
    (at 19 8)) (stmt.While (at 20 1) (expr.LoneRelation (at 20 7) (rel.Compared (at 20 7) (sum_of (at 20 7) (object (at
    20 7) "T1")) relational.Less (at 20 10) (sum_of (at 20 12) (primary.Number (at 20 12) 5)))) (at 20 14)
    (stmts.Sequence (at 21 1) (stmt.Block (at 21 1) (sole (at 22 1) (stmt.Return (at 22 1) (at 22 7))) (at 23 1) (at 23
    4)) (assign_of (at 24 1) "T1" [] (at 24 4) (expr.LoneRelation (at 24 7) (rel.LoneSum (at 24 7) (sum.Unsigned (at 24
    7) (term_of (at 24 7) (object (at 24 7) "T1")) (next_term.FurtherTerm (at 24 10) adding.Add (term_of (at 24 12)
    (primary.Number (at 24 12) 1)) ∷ [])))) (at 24 13) ∷ [])) (at 25 1) (at 25 5) (at 25 9) ∷ stmt.If (at 26 1)
    (expr.AndThen (at 26 4) (rel.Compared (at 26 4) (sum_of (at 26 4) (named (at 26 4) "V7" (suffix.Selected (at 26 6)
    (id (at 26 7) "To1") ∷ []))) relational.NotEqual (at 26 11) (sum_of (at 26 14) (primary.Null (at 26 14)))) (at 26
    19) (at 26 23) (rel.Compared (at 26 28) (sum_of (at 26 28) (named (at 26 28) "V7" (suffix.Selected (at 26 30) (id
    (at 26 31) "To1") ∷ suffix.Selected (at 26 34) (id (at 26 35) "Fro1") ∷ []))) relational.NotEqual (at 26 40) (sum_of
    (at 26 43) (primary.Null (at 26 43)))) []) (at 26 48) (sole (at 27 1) (stmt.DeclareBlock (at 27 1) (initialized_of
    (id (at 28 1) "B1") [] (at 28 4) None (indication.Anonymous (at 28 6) None (mark (at 28 13) "MB1")) (at 28 17)
    (expr_of (at 28 20) (named (at 28 20) "V7" (suffix.Selected (at 28 22) (id (at 28 23) "To1") ∷ suffix.Selected (at
    28 26) (id (at 28 27) "Fro1") ∷ suffix.Selected (at 28 31) (id (at 28 32) "To1") ∷ []))) (at 28 35) ∷ []) (at 29 1)
    (stmts.Sequence (at 30 1) (stmt.If (at 30 1) (expr.LoneRelation (at 30 4) (rel.Compared (at 30 4) (sum_of (at 30 4)
    (object (at 30 4) "B1")) relational.NotEqual (at 30 7) (sum_of (at 30 10) (primary.Null (at 30 10))))) (at 30 15)
    (sole (at 31 1) (assign_of (at 31 1) "V1" [] (at 31 4) (expr_of (at 31 7) (named (at 31 7) "B1" (suffix.Dereferenced
    (at 31 9) (at 31 10) ∷ []))) (at 31 13))) [] (at 32 1) (at 32 5) (at 32 7)) (stmt.IfElse (at 33 1)
    (expr.LoneRelation (at 33 4) (rel.Compared (at 33 4) (sum_of (at 33 4) (primary.Parenthesized (at 33 4)
    (expr.LoneRelation (at 33 5) (rel.LoneSum (at 33 5) (sum.Unsigned (at 33 5) (term_of (at 33 5) (named (at 33 5) "V7"
    (suffix.Selected (at 33 7) (id (at 33 8) "N1") ∷ []))) (next_term.FurtherTerm (at 33 11) adding.Add (term_of (at 33
    13) (object (at 33 13) "V4")) ∷ [])))) (at 33 15))) relational.Equal (at 33 17) (sum.Unsigned (at 33 19)
    (term.Product (at 33 19) (factor.Abs (at 33 19) (named (at 33 23) "V7" (suffix.Selected (at 33 25) (id (at 33 26)
    "N1") ∷ []))) []) []))) (at 33 29) (sole (at 34 1) (assign_of (at 34 1) "V3" [] (at 34 4) (expr_of (at 34 7)
    (primary.Parenthesized (at 34 7) (expr.LoneRelation (at 34 8) (rel.LoneSum (at 34 8) (sum.Unsigned (at 34 8)
    (term.Product (at 34 8) (factor_of (at 34 8) (object (at 34 8) "V5")) (next_factor.FurtherFactor (at 34 11)
    multiplying.Modulo (factor_of (at 34 15) (primary.Number (at 34 15) 2)) ∷ [])) []))) (at 34 16))) (at 34 17))) []
    (at 35 1) (sole (at 36 1) (stmt.DeclareBlock (at 36 1) (initialized_of (id (at 37 1) "B2") [] (at 37 4) None
    (indication.Anonymous (at 37 6) None (mark (at 37 13) "MA1")) (at 37 17) (expr_of (at 37 20) (object (at 37 20)
    "V6")) (at 37 22) ∷ []) (at 38 1) (stmts.Sequence (at 39 1) (stmt.DeclareBlock (at 39 1) (initialized_of (id (at 40
    1) "C1") [] (at 40 4) None (indication.Anonymous (at 40 6) (Some (at 40 13)) (mark (at 40 22) "MA1")) (at 40 26)
    (expr_of (at 40 29) (object (at 40 29) "B2")) (at 40 31) ∷ objects_of (id (at 41 1) "V9") [] (at 41 4) None
    (indication_of (mark (at 41 6) "Integer")) (at 41 13) ∷ []) (at 42 1) (sole (at 43 1) (assign_of (at 43 1) "V5" []
    (at 43 4) (expr_of (at 43 7) (primary.Number (at 43 7) 2)) (at 43 8))) (at 44 1) (at 44 4)) (call_of (at 45 1) "Put"
    (suffix.Applied (at 45 5) (actual_of (at 45 6) (named (at 45 6) "Integer" (suffix.Attribute (at 45 13) (id (at 45
    14) "Image") ∷ suffix.Applied (at 45 20) (actual_of (at 45 21) (named (at 45 21) "S1" (suffix.Attribute (at 45 23)
    (id (at 45 24) "Last") ∷ []))) [] (at 45 28) ∷ []))) [] (at 45 29) ∷ []) (at 45 30) ∷ [])) (at 46 1) (at 46 4))) (at
    47 1) (at 47 5) (at 47 7) ∷ assign_of (at 48 1) "B1" (suffix.Selected (at 48 3) (id (at 48 4) "Fro1") ∷ []) (at 48
    9) (expr_of (at 48 12) (primary.Null (at 48 12))) (at 48 16) ∷ [])) (at 49 1) (at 49 4))) [] (at 50 1) (at 50 5) (at
    50 7) ∷ [])) (at 51 1) (Some (id (at 51 5) "Main")) (at 51 9)) ∷ []) ∷ (unit.OfPackage (at1 1 1) (context.With (at1
    1 1) (selected (at1 1 6) "Ada" (at1 1 9) (at1 1 10) "Text_IO") [] (at1 1 17) ∷ use_context (use_of (at1 1 19) None
    (selected (at1 1 23) "Ada" (at1 1 26) (at1 1 27) "Text_IO") [] (at1 1 34)) ∷ context.With (at1 1 36) (selected (at1
    1 41) "Ada" (at1 1 44) (at1 1 45) "Integer_Text_IO") [] (at1 1 60) ∷ use_context (use_of (at1 1 62) None (selected
    (at1 1 66) "Ada" (at1 1 69) (at1 1 70) "Integer_Text_IO") [] (at1 1 85)) ∷ context.With (at1 1 87) (selected (at1 1
    92) "Ada" (at1 1 95) (at1 1 96) "Unchecked_Deallocation") [] (at1 1 118) ∷ []) (package_of (at1 1 120) (id (at1 1
    128) "Spare_P") None (at1 1 136) (decl.OfItem (at1 2 1) (objects_of (id (at1 2 1) "Spare_Y") [] (at1 2 9) None
    (indication_of (mark (at1 2 11) "Integer")) (at1 2 18)) ∷ decl.Subprogram (at1 2 20) (subspec.Procedure (at1 2 20)
    (id (at1 2 30) "Spare_Q") None) None (at1 2 37) ∷ []) None (at1 3 1) (Some (id (at1 3 5) "Spare_P")) (at1 3 12)) ∷
    unit.OfBody (at1 4 1) [] (package_body_of (at1 4 1) (at1 4 9) (id (at1 4 14) "Spare_P") None (at1 4 22)
    (part.Completed (at1 5 1) (subprogram_of (at1 5 1) (subspec.Procedure (at1 5 1) (id (at1 5 11) "Spare_Q") None) None
    (at1 5 19) [] (at1 5 22) (sole (at1 5 28) (assign_of (at1 5 28) "Spare_P" (suffix.Selected (at1 5 35) (id (at1 5 36)
    "Spare_X") ∷ []) (at1 5 44) (expr_of (at1 5 47) (primary.Number (at1 5 47) 1)) (at1 5 48))) (at1 5 50) (Some (id
    (at1 5 54) "Spare_Q")) (at1 5 61)) ∷ []) (at1 6 1) (Some (id (at1 6 5) "Spare_P")) (at1 6 12)) ∷ []) ∷ [])
unfolding computes resolves
no_member_5 = refl

no_member_6 : IsFirstBrokenOf Unknown (at 35 88) ((unit.OfPackage (at 1 1) (context.With (at 1 1) (selected (at 1 6)
    "Ada" (at 1 9) (at 1 10) "Text_IO") [] (at 1 17) ∷ use_context (use_of (at 1 19) None (selected (at 1 23) "Ada" (at
    1 26) (at 1 27) "Text_IO") [] (at 1 34)) ∷ context.With (at 1 36) (selected (at 1 41) "Ada" (at 1 44) (at 1 45)
    "Integer_Text_IO") [] (at 1 60) ∷ use_context (use_of (at 1 62) None (selected (at 1 66) "Ada" (at 1 69) (at 1 70)
    "Integer_Text_IO") [] (at 1 85)) ∷ context.With (at 1 87) (selected (at 1 92) "Ada" (at 1 95) (at 1 96)
    "Unchecked_Deallocation") [] (at 1 118) ∷ []) (package_of (at 2 7) (id (at 2 15) "Store") None (at 2 21)
    (decl.OfItem (at 3 4) (item.IncompleteType (at 3 4) (id (at 3 9) "Cell") (at 3 13)) ∷ decl.OfItem (at 4 7)
    (item.AccessType (at 4 7) (id (at 4 12) "List") (at 4 17) (at 4 20) (mark (at 4 27) "Cell") (at 4 31)) ∷ decl.OfItem
    (at 5 7) (item.RecordType (at 5 7) (id (at 5 12) "Cell") (at 5 17) (at 5 20) (fields_of (id (at 5 27) "Value") []
    (at 5 33) (mark (at 5 35) "Integer") (at 5 42)) (fields_of (id (at 5 44) "Next") [] (at 5 49) (mark (at 5 51)
    "List") (at 5 55) ∷ []) (at 5 57) (at 5 61) (at 5 67)) ∷ decl.Subprogram (at 6 7) (subspec.Procedure (at 6 7) (id
    (at 6 17) "Push") (Some (formals_of (at 6 22) (moded_of (id (at 6 23) "L") [] (at 6 25) (Some (at 6 27)) (Some (at 6
    30)) (mark (at 6 34) "List")) (next_formal.Semicolon (at 6 38) (moded_of (id (at 6 40) "V") [] (at 6 42) None None
    (mark (at 6 44) "Integer")) ∷ []) (at 6 51)))) None (at 6 52) ∷ decl.Subprogram (at 7 7) (subspec.Function (at 7 7)
    (id (at 7 16) "Sum") (Some (formals_of (at 7 20) (moded_of (id (at 7 21) "L") [] (at 7 23) None None (mark (at 7 25)
    "List")) [] (at 7 29))) (at 7 31) (indication_of (mark (at 7 38) "Integer"))) None (at 7 45) ∷ decl.OfItem (at 8 7)
    (objects_of (id (at 8 7) "Total") [] (at 8 13) None (indication_of (mark (at 8 15) "Integer")) (at 8 22)) ∷ []) None
    (at 9 1) (Some (id (at 9 5) "Store")) (at 9 10)) ∷ unit.OfBody (at 10 1) [] (package_body_of (at 10 1) (at 10 9) (id
    (at 10 14) "Store") None (at 10 20) (part.Completed (at 11 1) (subprogram_of (at 11 1) (subspec.Procedure (at 11 1)
    (id (at 11 11) "Push") (Some (formals_of (at 11 16) (moded_of (id (at 11 17) "L") [] (at 11 19) (Some (at 11 21))
    (Some (at 11 24)) (mark (at 11 28) "List")) (next_formal.Semicolon (at 11 32) (moded_of (id (at 11 34) "V") [] (at
    11 36) None None (mark (at 11 38) "Integer")) ∷ []) (at 11 45)))) None (at 11 47) [] (at 12 1) (sole (at 13 4)
    (assign_of (at 13 4) "L" [] (at 13 6) (expr_of (at 13 9) (primary.AllocatedAggregate (at 13 9) (mark (at 13 13)
    "Cell") (at 13 17) (aggregate.Several (at 13 18) (actual_of (at 13 19) (object (at 13 19) "V")) (at 13 20)
    (actual_of (at 13 22) (object (at 13 22) "L")) [] (at 13 23)))) (at 13 24))) (at 14 7) (Some (id (at 14 11) "Push"))
    (at 14 15)) ∷ part.Completed (at 15 7) (subprogram_of (at 15 7) (subspec.Function (at 15 7) (id (at 15 16) "Sum")
    (Some (formals_of (at 15 20) (moded_of (id (at 15 21) "L") [] (at 15 23) None None (mark (at 15 25) "List")) [] (at
    15 29))) (at 15 31) (indication_of (mark (at 15 38) "Integer"))) None (at 15 46) (initialized_of (id (at 16 7) "C")
    [] (at 16 9) None (indication.Anonymous (at 16 11) (Some (at 16 18)) (mark (at 16 27) "Cell")) (at 16 32) (expr_of
    (at 16 35) (object (at 16 35) "L")) (at 16 36) ∷ initialized_of (id (at 17 1) "N") [] (at 17 3) None (indication_of
    (mark (at 17 5) "Integer")) (at 17 13) (expr_of (at 17 16) (primary.Number (at 17 16) 0)) (at 17 17) ∷ []) (at 18 1)
    (stmts.Sequence (at 19 1) (stmt.While (at 19 1) (expr.LoneRelation (at 19 7) (rel.Compared (at 19 7) (sum_of (at 19
    7) (object (at 19 7) "C")) relational.NotEqual (at 19 9) (sum_of (at 19 12) (primary.Null (at 19 12))))) (at 19 17)
    (stmts.Sequence (at 19 22) (assign_of (at 19 22) "N" [] (at 19 24) (expr.LoneRelation (at 19 27) (rel.LoneSum (at 19
    27) (sum.Unsigned (at 19 27) (term_of (at 19 27) (object (at 19 27) "N")) (next_term.FurtherTerm (at 19 29)
    adding.Add (term_of (at 19 31) (named (at 19 31) "C" (suffix.Selected (at 19 32) (id (at 19 33) "Value") ∷ []))) ∷
    [])))) (at 19 38)) (assign_of (at 19 40) "C" [] (at 19 42) (expr_of (at 19 45) (named (at 19 45) "C"
    (suffix.Selected (at 19 46) (id (at 19 47) "Next") ∷ []))) (at 19 51) ∷ [])) (at 19 53) (at 19 57) (at 19 61))
    (stmt.ReturnValue (at 20 7) (expr_of (at 20 14) (object (at 20 14) "N")) (at 20 15) ∷ [])) (at 21 1) (Some (id (at
    21 5) "Sum")) (at 21 8)) ∷ []) (at 22 7) (Some (id (at 22 11) "Store")) (at 22 16)) ∷ unit.OfSubprogram (at 23 1)
    (context.With (at 23 1) (selected (at 23 6) "Ada" (at 23 9) (at 23 10) "Text_IO") [] (at 23 17) ∷ use_context
    (use_of (at 23 19) None (selected (at 23 23) "Ada" (at 23 26) (at 23 27) "Text_IO") [] (at 23 34)) ∷ context.With
    (at 23 36) (selected (at 23 41) "Ada" (at 23 44) (at 23 45) "Integer_Text_IO") [] (at 23 60) ∷ use_context (use_of
    (at 23 62) None (selected (at 23 66) "Ada" (at 23 69) (at 23 70) "Integer_Text_IO") [] (at 23 85)) ∷ context.With
    (at 23 87) (selected (at 23 92) "Ada" (at 23 95) (at 23 96) "Unchecked_Deallocation") [] (at 23 118) ∷ context.With
    (at 23 120) (mark (at 23 125) "Store") [] (at 23 130) ∷ use_context (use_of (at 23 132) None (mark (at 23 136)
    "Store") [] (at 23 141)) ∷ []) (subprogram_of (at 24 1) (subspec.Procedure (at 24 1) (id (at 24 11) "Main") None)
    None (at 24 16) (objects_of (id (at 25 1) "X") (next_id_of (at 25 2) (at 25 4) "Y" ∷ []) (at 25 6) None
    (indication_of (mark (at 25 8) "List")) (at 25 12) ∷ initialized_of (id (at 26 1) "N") [] (at 26 3) None
    (indication_of (mark (at 26 5) "Integer")) (at 26 13) (expr_of (at 26 16) (primary.Number (at 26 16) 4)) (at 26 17)
    ∷ []) (at 27 1) (stmts.Sequence (at 28 7) (call_of (at 28 7) "Put_Line" (suffix.Applied (at 28 16) (actual_of (at 28
    17) (named (at 28 17) "Integer" (suffix.Attribute (at 28 24) (id (at 28 25) "Image") ∷ suffix.Applied (at 28 31)
    (actual_of (at 28 32) (object (at 28 32) "N")) [] (at 28 33) ∷ []))) [] (at 28 34) ∷ []) (at 28 35)) (assign_of (at
    29 1) "N" [] (at 29 3) (expr.LoneRelation (at 29 6) (rel.LoneSum (at 29 6) (sum.Unsigned (at 29 6) (term.Product (at
    29 6) (factor_of (at 29 6) (object (at 29 6) "N")) (next_factor.FurtherFactor (at 29 8) multiplying.Multiply
    (factor_of (at 29 10) (primary.Number (at 29 10) 2)) ∷ [])) (next_term.FurtherTerm (at 29 12) adding.Add (term_of
    (at 29 14) (primary.Number (at 29 14) 1)) ∷ [])))) (at 29 15) ∷ stmt.For (at 30 7) (id (at 30 11) "I") (at 30 13)
    None (range.Bounds (at 30 16) (expr_of (at 30 16) (primary.Number (at 30 16) 1)) (at 30 18) (expr_of (at 30 21)
    (primary.Number (at 30 21) 3))) (at 30 23) (sole (at 30 28) (assign_of (at 30 28) "N" [] (at 30 30)
    (expr.LoneRelation (at 30 33) (rel.LoneSum (at 30 33) (sum.Unsigned (at 30 33) (term_of (at 30 33) (object (at 30
    33) "N")) (next_term.FurtherTerm (at 30 35) adding.Add (term_of (at 30 37) (object (at 30 37) "I")) ∷ [])))) (at 30
    38))) (at 30 40) (at 30 44) (at 30 48) ∷ assign_of (at 31 1) "Y" [] (at 31 3) (expr_of (at 31 6) (object (at 31 6)
    "X")) (at 31 7) ∷ assign_of (at 31 9) "X" [] (at 31 11) (expr_of (at 31 14) (primary.Null (at 31 14))) (at 31 18) ∷
    [])) (at 32 1) (Some (id (at 32 5) "Main")) (at 32 9)) ∷ unit.OfPackage (at 33 4) [] (package_of (at 33 4) (id (at
    33 12) "Quick_P") None (at 33 20) (decl.OfItem (at 33 23) (objects_of (id (at 33 23) "Quick_Y") [] (at 33 31) None
    (indication_of (mark (at 33 33) "Integer")) (at 33 40)) ∷ []) None (at 33 42) (Some (id (at 33 46) "Quick_P")) (at
    33 53)) ∷ unit.OfPackage (at 34 7) [] (package_of (at 34 7) (id (at 34 15) "Quick_Q") None (at 34 23) (decl.OfItem
    (at 34 26) (objects_of (id (at 34 26) "Quick_X") [] (at 34 34) None (indication_of (mark (at 34 36) "Integer")) (at
    34 43)) ∷ []) None (at 34 45) (Some (id (at 34 49) "Quick_Q")) (at 34 56)) ∷ unit.OfPackage (at 35 4) (context.With
    (at 35 4) (mark (at 35 9) "Quick_P") (next_dotted.FurtherDotted (at 35 16) (mark (at 35 18) "Quick_Q") ∷ []) (at 35
    25) ∷ use_context (use_of (at 35 27) None (mark (at 35 31) "Quick_Q") [] (at 35 38)) ∷ []) (package_of (at 35 40)
    (id (at 35 48) "Quick_R") None (at 35 56) (decl.OfItem (at 35 59) (initialized_of (id (at 35 59) "Quick_Z") [] (at
    35 67) None (indication_of (mark (at 35 69) "Integer")) (at 35 77) (expr_of (at 35 80) (named (at 35 80) "Quick_P"
    (suffix.Selected (at 35 87) (id (at 35 88) "Quick_X") ∷ []))) (at 35 95)) ∷ []) None (at 35 97) (Some (id (at 35
    101) "Quick_R")) (at 35 108)) ∷ []) ∷ [])
unfolding computes resolves
no_member_6 = refl

-- Of what Ada predefines, the language has a few names only.
not_predefined_1 : IsFirstBrokenOf Unknown (at 8 19) ((unit.OfSubprogram (at 1 1) (context.With (at 1 1) (selected (at 1
    6) "Ada" (at 1 9) (at 1 10) "Text_IO") [] (at 1 17) ∷ use_context (use_of (at 1 19) None (selected (at 1 23) "Ada"
    (at 1 26) (at 1 27) "Text_IO") [] (at 1 34)) ∷ context.With (at 1 36) (selected (at 1 41) "Ada" (at 1 44) (at 1 45)
    "Integer_Text_IO") [] (at 1 60) ∷ use_context (use_of (at 1 62) None (selected (at 1 66) "Ada" (at 1 69) (at 1 70)
    "Integer_Text_IO") [] (at 1 85)) ∷ context.With (at 1 87) (selected (at 1 92) "Ada" (at 1 95) (at 1 96)
    "Unchecked_Deallocation") [] (at 1 118) ∷ []) (subprogram_of (at 2 1) (subspec.Procedure (at 2 1) (id (at 2 11)
    "Main") None) None (at 2 16) (item.IncompleteType (at 3 1) (id (at 3 6) "Cell") (at 3 10) ∷ item.AccessType (at 4 1)
    (id (at 4 6) "List") (at 4 11) (at 4 14) (mark (at 4 21) "Cell") (at 4 25) ∷ item.RecordType (at 5 1) (id (at 5 6)
    "Cell") (at 5 11) (at 5 14) (fields_of (id (at 5 21) "Value") [] (at 5 27) (mark (at 5 29) "Integer") (at 5 36))
    (fields_of (id (at 5 38) "Next") [] (at 5 43) (mark (at 5 45) "List") (at 5 49) ∷ []) (at 5 51) (at 5 55) (at 5 61)
    ∷ objects_of (id (at 6 1) "X") (next_id_of (at 6 2) (at 6 4) "Y" ∷ []) (at 6 6) None (indication_of (mark (at 6 8)
    "List")) (at 6 12) ∷ initialized_of (id (at 7 1) "N") [] (at 7 3) None (indication_of (mark (at 7 5) "Integer")) (at
    7 13) (expr_of (at 7 16) (primary.Number (at 7 16) 8)) (at 7 17) ∷ objects_of (id (at 7 19) "Second_X") [] (at 7 28)
    None (indication_of (mark (at 7 30) "Integer")) (at 7 37) ∷ []) (at 8 1) (stmts.Sequence (at 8 7) (assign_of (at 8
    7) "Second_X" [] (at 8 16) (expr_of (at 8 19) (named (at 8 19) "Max" (suffix.Applied (at 8 23) (actual_of (at 8 24)
    (object (at 8 24) "Second_X")) [] (at 8 32) ∷ []))) (at 8 33)) (call_of (at 9 1) "Put_Line" (suffix.Applied (at 9
    10) (actual_of (at 9 11) (named (at 9 11) "Integer" (suffix.Attribute (at 9 18) (id (at 9 19) "Image") ∷
    suffix.Applied (at 9 25) (actual_of (at 9 26) (object (at 9 26) "N")) [] (at 9 27) ∷ []))) [] (at 9 28) ∷ []) (at 9
    29) ∷ stmt.Case (at 10 1) (expr_of (at 10 6) (object (at 10 6) "N")) (at 10 8) (alternative.Alternative (at 10 11)
    (choice.Value (at 10 16) (expr_of (at 10 16) (primary.Number (at 10 16) 1))) [] (at 10 18) (sole (at 10 21)
    (stmt.Null (at 10 21) (at 10 25)))) (alternative.Alternative (at 10 27) (choice.Others (at 10 32)) [] (at 10 39)
    (sole (at 10 42) (assign_of (at 10 42) "N" [] (at 10 44) (expr_of (at 10 47) (primary.Number (at 10 47) 2)) (at 10
    48))) ∷ []) (at 10 50) (at 10 54) (at 10 58) ∷ [])) (at 11 1) (Some (id (at 11 5) "Main")) (at 11 9)) ∷ []) ∷ [])
unfolding computes resolves
not_predefined_1 = refl

not_predefined_2 : IsFirstBrokenOf Unknown (at 1 6) ((unit.OfPackage (at 1 1) (context.With (at 1 1) (mark (at 1 6)
    "System") [] (at 1 12) ∷ []) (package_of (at 1 14) (id (at 1 22) "Minor_R") None (at 1 30) (decl.OfItem (at 1 33)
    (objects_of (id (at 1 33) "Minor_X") [] (at 1 41) None (indication_of (mark (at 1 43) "Integer")) (at 1 50)) ∷ [])
    None (at 1 52) (Some (id (at 1 56) "Minor_R")) (at 1 63)) ∷ unit.OfSubprogram (at 2 1) (context.With (at 2 1)
    (selected (at 2 6) "Ada" (at 2 9) (at 2 10) "Text_IO") [] (at 2 17) ∷ use_context (use_of (at 2 19) None (selected
    (at 2 23) "Ada" (at 2 26) (at 2 27) "Text_IO") [] (at 2 34)) ∷ context.With (at 2 36) (selected (at 2 41) "Ada" (at
    2 44) (at 2 45) "Integer_Text_IO") [] (at 2 60) ∷ use_context (use_of (at 2 62) None (selected (at 2 66) "Ada" (at 2
    69) (at 2 70) "Integer_Text_IO") [] (at 2 85)) ∷ context.With (at 2 87) (selected (at 2 92) "Ada" (at 2 95) (at 2
    96) "Unchecked_Deallocation") [] (at 2 118) ∷ []) (subprogram_of (at 3 1) (subspec.Procedure (at 3 1) (id (at 3 11)
    "Main") None) None (at 3 16) (item.IncompleteType (at 4 1) (id (at 4 6) "Cell") (at 4 10) ∷ item.AccessType (at 5 1)
    (id (at 5 6) "List") (at 5 11) (at 5 14) (mark (at 5 21) "Cell") (at 5 25) ∷ item.RecordType (at 6 1) (id (at 6 6)
    "Cell") (at 6 11) (at 6 14) (fields_of (id (at 6 21) "Value") [] (at 6 27) (mark (at 6 29) "Integer") (at 6 36))
    (fields_of (id (at 6 38) "Next") [] (at 6 43) (mark (at 6 45) "List") (at 6 49) ∷ []) (at 6 51) (at 6 55) (at 6 61)
    ∷ objects_of (id (at 7 1) "X") (next_id_of (at 7 2) (at 7 4) "Y" ∷ []) (at 7 6) None (indication_of (mark (at 7 8)
    "List")) (at 7 12) ∷ initialized_of (id (at 8 1) "N") [] (at 8 3) None (indication_of (mark (at 8 5) "Integer")) (at
    8 13) (expr_of (at 8 16) (primary.Number (at 8 16) 2)) (at 8 17) ∷ []) (at 9 1) (stmts.Sequence (at 10 1) (stmt.Case
    (at 10 1) (expr_of (at 10 6) (object (at 10 6) "N")) (at 10 8) (alternative.Alternative (at 10 11) (choice.Value (at
    10 16) (expr_of (at 10 16) (primary.Number (at 10 16) 1))) [] (at 10 18) (sole (at 10 21) (stmt.Null (at 10 21) (at
    10 25)))) (alternative.Alternative (at 10 27) (choice.Others (at 10 32)) [] (at 10 39) (sole (at 10 42) (assign_of
    (at 10 42) "N" [] (at 10 44) (expr_of (at 10 47) (primary.Number (at 10 47) 2)) (at 10 48))) ∷ []) (at 10 50) (at 10
    54) (at 10 58)) (stmt.IfElse (at 11 1) (expr.LoneRelation (at 11 4) (rel.Compared (at 11 4) (sum_of (at 11 4)
    (object (at 11 4) "N")) relational.Greater (at 11 6) (sum_of (at 11 8) (primary.Number (at 11 8) 3)))) (at 11 10)
    (sole (at 11 15) (assign_of (at 11 15) "N" [] (at 11 17) (expr.LoneRelation (at 11 20) (rel.LoneSum (at 11 20)
    (sum.Unsigned (at 11 20) (term_of (at 11 20) (object (at 11 20) "N")) (next_term.FurtherTerm (at 11 22)
    adding.Subtract (term_of (at 11 24) (primary.Number (at 11 24) 1)) ∷ [])))) (at 11 25))) [] (at 11 27) (sole (at 11
    32) (stmt.Null (at 11 32) (at 11 36))) (at 11 38) (at 11 42) (at 11 44) ∷ stmt.DeclareBlock (at 12 1)
    (initialized_of (id (at 12 9) "B") [] (at 12 11) None (indication.Anonymous (at 12 13) None (mark (at 12 20)
    "Cell")) (at 12 25) (expr_of (at 12 28) (object (at 12 28) "X")) (at 12 29) ∷ []) (at 12 31) (sole (at 12 37)
    (stmt.If (at 12 37) (expr.LoneRelation (at 12 40) (rel.Compared (at 12 40) (sum_of (at 12 40) (object (at 12 40)
    "B")) relational.NotEqual (at 12 42) (sum_of (at 12 45) (primary.Null (at 12 45))))) (at 12 50) (sole (at 12 55)
    (assign_of (at 12 55) "B" (suffix.Selected (at 12 56) (id (at 12 57) "Value") ∷ []) (at 12 63) (expr_of (at 12 66)
    (object (at 12 66) "N")) (at 12 67))) [] (at 12 69) (at 12 73) (at 12 75))) (at 12 77) (at 12 80) ∷ [])) (at 13 1)
    (Some (id (at 13 5) "Main")) (at 13 9)) ∷ []) ∷ [])
unfolding computes resolves
not_predefined_2 = refl

not_predefined_3 : IsFirstBrokenOf Unknown (at 8 73) ((unit.OfSubprogram (at 1 1) (context.With (at 1 1) (selected (at 1
    6) "Ada" (at 1 9) (at 1 10) "Text_IO") [] (at 1 17) ∷ use_context (use_of (at 1 19) None (selected (at 1 23) "Ada"
    (at 1 26) (at 1 27) "Text_IO") [] (at 1 34)) ∷ context.With (at 1 36) (selected (at 1 41) "Ada" (at 1 44) (at 1 45)
    "Integer_Text_IO") [] (at 1 60) ∷ use_context (use_of (at 1 62) None (selected (at 1 66) "Ada" (at 1 69) (at 1 70)
    "Integer_Text_IO") [] (at 1 85)) ∷ context.With (at 1 87) (selected (at 1 92) "Ada" (at 1 95) (at 1 96)
    "Unchecked_Deallocation") [] (at 1 118) ∷ []) (subprogram_of (at 2 1) (subspec.Procedure (at 2 1) (id (at 2 11)
    "Main") None) None (at 2 16) (item.IncompleteType (at 3 1) (id (at 3 6) "Cell") (at 3 10) ∷ item.AccessType (at 4 1)
    (id (at 4 6) "List") (at 4 11) (at 4 14) (mark (at 4 21) "Cell") (at 4 25) ∷ item.RecordType (at 5 1) (id (at 5 6)
    "Cell") (at 5 11) (at 5 14) (fields_of (id (at 5 21) "Value") [] (at 5 27) (mark (at 5 29) "Integer") (at 5 36))
    (fields_of (id (at 5 38) "Next") [] (at 5 43) (mark (at 5 45) "List") (at 5 49) ∷ []) (at 5 51) (at 5 55) (at 5 61)
    ∷ objects_of (id (at 6 1) "X") (next_id_of (at 6 2) (at 6 4) "Y" ∷ []) (at 6 6) None (indication_of (mark (at 6 8)
    "List")) (at 6 12) ∷ initialized_of (id (at 7 1) "N") [] (at 7 3) None (indication_of (mark (at 7 5) "Integer")) (at
    7 13) (expr_of (at 7 16) (primary.Number (at 7 16) 1)) (at 7 17) ∷ item.Instance (at 8 1) (id (at 8 11) "Free") (at
    8 16) (at 8 19) (selected (at 8 23) "Ada" (at 8 26) (at 8 27) "Unchecked_Deallocation") (at 8 50) (actual_of (at 8
    51) (object (at 8 51) "Cell")) (next_arg.FurtherArg (at 8 55) (actual_of (at 8 57) (object (at 8 57) "List")) ∷ [])
    (at 8 61) (at 8 62) ∷ use_item (use_of (at 8 64) None (mark (at 8 68) "Ada") (next_dotted.FurtherDotted (at 8 71)
    (mark (at 8 73) "Standard") ∷ []) (at 8 81)) ∷ []) (at 9 1) (stmts.Sequence (at 10 1) (stmt.If (at 10 1)
    (expr.LoneRelation (at 10 4) (rel.LoneSum (at 10 4) (sum.Unsigned (at 10 4) (term.Product (at 10 4) (factor.Not (at
    10 4) (object (at 10 8) "End_Of_File")) []) []))) (at 10 20) (sole (at 10 25) (call_of (at 10 25) "Get"
    (suffix.Applied (at 10 29) (actual_of (at 10 30) (object (at 10 30) "N")) [] (at 10 31) ∷ []) (at 10 32))) [] (at 10
    34) (at 10 38) (at 10 40)) (assign_of (at 11 1) "N" [] (at 11 3) (expr.LoneRelation (at 11 6) (rel.LoneSum (at 11 6)
    (sum.Unsigned (at 11 6) (term.Product (at 11 6) (factor_of (at 11 6) (object (at 11 6) "N"))
    (next_factor.FurtherFactor (at 11 8) multiplying.Multiply (factor_of (at 11 10) (primary.Number (at 11 10) 2)) ∷
    [])) (next_term.FurtherTerm (at 11 12) adding.Add (term_of (at 11 14) (primary.Number (at 11 14) 1)) ∷ [])))) (at 11
    15) ∷ stmt.DeclareBlock (at 12 1) (initialized_of (id (at 12 9) "B") [] (at 12 11) None (indication.Anonymous (at 12
    13) None (mark (at 12 20) "Cell")) (at 12 25) (expr_of (at 12 28) (object (at 12 28) "X")) (at 12 29) ∷ []) (at 12
    31) (sole (at 12 37) (stmt.If (at 12 37) (expr.LoneRelation (at 12 40) (rel.Compared (at 12 40) (sum_of (at 12 40)
    (object (at 12 40) "B")) relational.NotEqual (at 12 42) (sum_of (at 12 45) (primary.Null (at 12 45))))) (at 12 50)
    (sole (at 12 55) (assign_of (at 12 55) "B" (suffix.Selected (at 12 56) (id (at 12 57) "Value") ∷ []) (at 12 63)
    (expr_of (at 12 66) (object (at 12 66) "N")) (at 12 67))) [] (at 12 69) (at 12 73) (at 12 75))) (at 12 77) (at 12
    80) ∷ call_of (at 13 1) "Put_Line" (suffix.Applied (at 13 10) (actual_of (at 13 11) (named (at 13 11) "Integer"
    (suffix.Attribute (at 13 18) (id (at 13 19) "Image") ∷ suffix.Applied (at 13 25) (actual_of (at 13 26) (object (at
    13 26) "N")) [] (at 13 27) ∷ []))) [] (at 13 28) ∷ []) (at 13 29) ∷ [])) (at 14 1) (Some (id (at 14 5) "Main")) (at
    14 9)) ∷ []) ∷ [])
unfolding computes resolves
not_predefined_3 = refl

not_predefined_4 : IsFirstBrokenOf Unknown (at 21 52) ((unit.OfSubprogram (at 1 1) (context.With (at 1 1) (selected (at
    1 6) "Ada" (at 1 9) (at 1 10) "Text_IO") (next_dotted.FurtherDotted (at 1 17) (selected (at 1 19) "Ada" (at 1 22)
    (at 1 23) "Integer_Text_IO") ∷ next_dotted.FurtherDotted (at 1 38) (selected (at 1 40) "Ada" (at 1 43) (at 1 44)
    "Unchecked_Deallocation") ∷ []) (at 1 66) ∷ use_context (use_of (at 2 1) None (selected (at 2 5) "Ada" (at 2 8) (at
    2 9) "Text_IO") (next_dotted.FurtherDotted (at 2 16) (selected (at 2 18) "Ada" (at 2 21) (at 2 22)
    "Integer_Text_IO") ∷ []) (at 2 37)) ∷ []) (subprogram_of (at 3 7) (subspec.Procedure (at 3 7) (id (at 3 17) "Main")
    None) None (at 3 22) (item.IncompleteType (at 4 7) (id (at 4 12) "Cell1") (at 4 17) ∷ item.AccessType (at 5 1) (id
    (at 5 6) "List1") (at 5 12) (at 5 15) (mark (at 5 22) "Cell1") (at 5 27) ∷ item.RecordType (at 6 1) (id (at 6 6)
    "Cell1") (at 6 12) (at 6 15) (fields_of (id (at 6 22) "Val1") [] (at 6 27) (mark (at 6 29) "Boolean") (at 6 36))
    (fields_of (id (at 6 38) "Next1") [] (at 6 44) (mark (at 6 46) "List1") (at 6 51) ∷ []) (at 6 53) (at 6 57) (at 6
    63) ∷ objects_of (id (at 7 1) "V1") (next_id_of (at 7 3) (at 7 5) "V2" ∷ []) (at 7 8) None (indication_of (mark (at
    7 10) "Cell1")) (at 7 15) ∷ initialized_of (id (at 8 1) "V3") [] (at 8 4) None (indication_of (mark (at 8 6)
    "Cell1")) (at 8 12) (expr_of (at 8 15) (object (at 8 15) "V1")) (at 8 17) ∷ initialized_of (id (at 9 7) "V4") [] (at
    9 10) None (indication_of (mark (at 9 12) "List1")) (at 9 18) (expr_of (at 9 21) (primary.Null (at 9 21))) (at 9 25)
    ∷ initialized_of (id (at 10 1) "V5") [] (at 10 4) None (indication_of (mark (at 10 6) "Cell1")) (at 10 12) (expr_of
    (at 10 15) (primary.Aggregated (at 10 15) (aggregate.Several (at 10 15) (arg.Positional (at 10 16)
    (expr.LoneRelation (at 10 16) (rel.LoneSum (at 10 16) (sum.Unsigned (at 10 16) (term.Product (at 10 16) (factor.Not
    (at 10 16) (primary.Parenthesized (at 10 20) (expr_of (at 10 21) (object (at 10 21) "True")) (at 10 25))) []) []))))
    (at 10 26) (actual_of (at 10 28) (named (at 10 28) "V3" (suffix.Selected (at 10 30) (id (at 10 31) "Next1") ∷ [])))
    [] (at 10 36)))) (at 10 37) ∷ initialized_of (id (at 11 4) "V6") [] (at 11 7) None (indication_of (mark (at 11 9)
    "List1")) (at 11 15) (expr_of (at 11 18) (primary.AllocatedValue (at 11 18) (mark (at 11 22) "Cell1") (at 11 27) (at
    11 28) (expr_of (at 11 29) (object (at 11 29) "V5")) (at 11 31))) (at 11 32) ∷ []) (at 12 1) (stmts.Sequence (at 13
    1) (stmt.If (at 13 1) (expr.LoneRelation (at 13 4) (rel.Compared (at 13 4) (sum_of (at 13 4) (object (at 13 4)
    "V4")) relational.NotEqual (at 13 7) (sum_of (at 13 10) (primary.Null (at 13 10))))) (at 13 15) (sole (at 14 1)
    (assign_of (at 14 1) "V4" (suffix.Dereferenced (at 14 3) (at 14 4) ∷ []) (at 14 8) (expr_of (at 14 11)
    (primary.Aggregated (at 14 11) (aggregate.Several (at 14 11) (arg.Positional (at 14 12) (expr.LoneRelation (at 14
    12) (rel.Compared (at 14 12) (sum_of (at 14 12) (object (at 14 12) "V4")) relational.Equal (at 14 15) (sum_of (at 14
    17) (primary.Null (at 14 17)))))) (at 14 21) (actual_of (at 14 23) (primary.AllocatedAggregate (at 14 23) (mark (at
    14 27) "Cell1") (at 14 32) (aggregate.Several (at 14 33) (actual_of (at 14 34) (object (at 14 34) "True")) (at 14
    38) (actual_of (at 14 40) (named (at 14 40) "V2" (suffix.Selected (at 14 42) (id (at 14 43) "Next1") ∷ []))) [] (at
    14 48)))) [] (at 14 49)))) (at 14 50))) [] (at 15 1) (at 15 5) (at 15 7)) (assign_of (at 16 7) "V1" (suffix.Selected
    (at 16 9) (id (at 16 10) "Val1") ∷ []) (at 16 15) (expr.LoneRelation (at 16 18) (rel.LoneSum (at 16 18)
    (sum.Unsigned (at 16 18) (term.Product (at 16 18) (factor.Not (at 16 18) (primary.Parenthesized (at 16 22)
    (expr.LoneRelation (at 16 23) (rel.LoneSum (at 16 23) (sum.Unsigned (at 16 23) (term.Product (at 16 23) (factor.Not
    (at 16 23) (primary.Parenthesized (at 16 27) (expr.LoneRelation (at 16 28) (rel.Compared (at 16 28) (sum_of (at 16
    28) (primary.Number (at 16 28) 1)) relational.NotEqual (at 16 30) (sum_of (at 16 33) (primary.Number (at 16 33)
    17)))) (at 16 35))) []) []))) (at 16 36))) []) []))) (at 16 37) ∷ assign_of (at 17 4) "V5" [] (at 17 7) (expr_of (at
    17 10) (object (at 17 10) "V1")) (at 17 12) ∷ call_of (at 18 1) "Put" (suffix.Applied (at 18 5) (actual_of (at 18 6)
    (named (at 18 6) "Integer" (suffix.Attribute (at 18 13) (id (at 18 14) "Image") ∷ suffix.Applied (at 18 20)
    (actual_of (at 18 21) (primary.Parenthesized (at 18 21) (expr.LoneRelation (at 18 22) (rel.LoneSum (at 18 22)
    (sum.Signed (at 18 22) sign.Minus (term_of (at 18 23) (primary.Number (at 18 23) 2147483647)) []))) (at 18 33))) []
    (at 18 34) ∷ []))) [] (at 18 35) ∷ []) (at 18 36) ∷ assign_of (at 19 4) "V1" (suffix.Selected (at 19 6) (id (at 19
    7) "Next1") ∷ []) (at 19 13) (expr_of (at 19 16) (named (at 19 16) "V6" (suffix.Selected (at 19 18) (id (at 19 19)
    "Next1") ∷ []))) (at 19 24) ∷ stmt.DeclareBlock (at 20 1) (initialized_of (id (at 21 1) "C1") [] (at 21 4) None
    (indication.Anonymous (at 21 6) (Some (at 21 13)) (mark (at 21 22) "Cell1")) (at 21 28) (expr_of (at 21 31) (named
    (at 21 31) "V1" (suffix.Selected (at 21 33) (id (at 21 34) "Next1") ∷ []))) (at 21 39) ∷ objects_of (id (at 21 41)
    "Second_X") [] (at 21 50) None (indication_of (mark (at 21 52) "Duration")) (at 21 60) ∷ []) (at 22 4) (sole (at 23
    4) (assign_of (at 23 4) "V2" (suffix.Selected (at 23 6) (id (at 23 7) "Val1") ∷ []) (at 23 12) (expr.LoneRelation
    (at 23 15) (rel.Compared (at 23 15) (sum_of (at 23 15) (named (at 23 15) "V1" (suffix.Selected (at 23 17) (id (at 23
    18) "Next1") ∷ []))) relational.Equal (at 23 24) (sum_of (at 23 26) (primary.Null (at 23 26))))) (at 23 30))) (at 24
    4) (at 24 7) ∷ [])) (at 25 4) (Some (id (at 25 8) "Main")) (at 25 12)) ∷ []) ∷ [])
unfolding computes resolves
not_predefined_4 = refl

not_predefined_5 : IsFirstBrokenOf Unknown (at 18 17) ((unit.OfPackage (at 1 1) (context.With (at 1 1) (selected (at 1
    6) "Ada" (at 1 9) (at 1 10) "Text_IO") [] (at 1 17) ∷ use_context (use_of (at 1 19) None (selected (at 1 23) "Ada"
    (at 1 26) (at 1 27) "Text_IO") [] (at 1 34)) ∷ context.With (at 2 1) (selected (at 2 6) "Ada" (at 2 9) (at 2 10)
    "Integer_Text_IO") [] (at 2 25) ∷ use_context (use_of (at 2 27) None (selected (at 2 31) "Ada" (at 2 34) (at 2 35)
    "Integer_Text_IO") [] (at 2 50)) ∷ context.With (at 3 1) (selected (at 3 6) "Ada" (at 3 9) (at 3 10)
    "Unchecked_Deallocation") [] (at 3 32) ∷ []) (package_of (at 4 1) (id (at 4 9) "Pack1") None (at 4 15) (decl.OfItem
    (at 5 1) (item.AccessType (at 5 1) (id (at 5 6) "P1") (at 5 9) (at 5 12) (mark (at 5 19) "Integer") (at 5 26)) ∷
    decl.OfItem (at 6 1) (item.Instance (at 6 1) (id (at 6 11) "Free1") (at 6 17) (at 6 20) (selected (at 6 24) "Ada"
    (at 6 27) (at 6 28) "Unchecked_Deallocation") (at 6 51) (association_of (id (at 6 52) "Object") (at 6 59) (expr_of
    (at 6 62) (object (at 6 62) "Integer"))) (next_arg.FurtherArg (at 6 69) (association_of (id (at 6 71) "Name") (at 6
    76) (expr_of (at 6 79) (object (at 6 79) "P1"))) ∷ []) (at 6 81) (at 6 82)) ∷ decl.OfItem (at 7 1) (item.ArrayType
    (at 7 1) (id (at 7 6) "A1") (at 7 9) (at 7 12) (at 7 18) (constrained_of (mark (at 7 19) "Integer") (at 7 27)
    (expr_of (at 7 33) (primary.Number (at 7 33) 1)) (at 7 35) (expr_of (at 7 38) (primary.Number (at 7 38) 5))) (at 7
    39) (at 7 41) (mark (at 7 44) "Integer") (at 7 51)) ∷ decl.Subprogram (at 8 1) (subspec.Procedure (at 8 1) (id (at 8
    11) "Do1") None) None (at 8 14) ∷ []) None (at 9 1) (Some (id (at 9 5) "Pack1")) (at 9 10)) ∷ unit.OfBody (at 10 1)
    [] (package_body_of (at 10 1) (at 10 9) (id (at 10 14) "Pack1") None (at 10 20) (part.Completed (at 11 1)
    (subprogram_of (at 11 1) (subspec.Procedure (at 11 1) (id (at 11 11) "Do1") None) None (at 11 15) (initialized_of
    (id (at 12 1) "V1") [] (at 12 4) None (indication_of (mark (at 12 6) "P1")) (at 12 9) (expr_of (at 12 12)
    (primary.AllocatedValue (at 12 12) (mark (at 12 16) "Integer") (at 12 23) (at 12 24) (expr_of (at 12 25)
    (primary.Parenthesized (at 12 25) (expr.LoneRelation (at 12 26) (rel.LoneSum (at 12 26) (sum.Unsigned (at 12 26)
    (term.Product (at 12 26) (factor_of (at 12 26) (primary.Number (at 12 26) 4)) (next_factor.FurtherFactor (at 12 28)
    multiplying.Modulo (factor_of (at 12 32) (primary.Number (at 12 32) 6)) ∷ [])) []))) (at 12 33))) (at 12 34))) (at
    12 35) ∷ initialized_of (id (at 13 1) "V2") [] (at 13 4) None (indication_of (mark (at 13 6) "P1")) (at 13 9)
    (expr_of (at 13 12) (primary.AllocatedValue (at 13 12) (mark (at 13 16) "Integer") (at 13 23) (at 13 24) (expr_of
    (at 13 25) (primary.Parenthesized (at 13 25) (expr.LoneRelation (at 13 26) (rel.LoneSum (at 13 26) (sum.Signed (at
    13 26) sign.Minus (term_of (at 13 27) (primary.Number (at 13 27) 17)) []))) (at 13 29))) (at 13 30))) (at 13 31) ∷
    initialized_of (id (at 14 1) "V3") [] (at 14 4) None (indication_of (mark (at 14 6) "Boolean")) (at 14 14) (expr.Or
    (at 14 17) (rel_of (at 14 17) (primary.Parenthesized (at 14 17) (expr_of (at 14 18) (object (at 14 18)
    "End_Of_File")) (at 14 29))) (at 14 31) (rel_of (at 14 34) (primary.Parenthesized (at 14 34) (expr.AndThen (at 14
    35) (rel_of (at 14 35) (object (at 14 35) "True")) (at 14 40) (at 14 44) (rel_of (at 14 49) (primary.Parenthesized
    (at 14 49) (expr.LoneRelation (at 14 50) (rel.LoneSum (at 14 50) (sum.Unsigned (at 14 50) (term.Product (at 14 50)
    (factor.Not (at 14 50) (primary.Parenthesized (at 14 54) (expr_of (at 14 55) (object (at 14 55) "True")) (at 14
    59))) []) []))) (at 14 60))) []) (at 14 61))) []) (at 14 62) ∷ objects_of (id (at 15 1) "T1") [] (at 15 4) None
    (indication_of (mark (at 15 6) "Integer")) (at 15 13) ∷ []) (at 16 1) (sole (at 17 1) (stmt.IfElse (at 17 1)
    (expr.LoneRelation (at 17 4) (rel.Compared (at 17 4) (sum_of (at 17 4) (object (at 17 4) "V2")) relational.NotEqual
    (at 17 7) (sum_of (at 17 10) (primary.Null (at 17 10))))) (at 17 15) (stmts.Sequence (at 18 1) (assign_of (at 18 1)
    "T1" [] (at 18 4) (expr_of (at 18 7) (primary.Number (at 18 7) 17)) (at 18 9)) (stmt.Block (at 18 11) (sole (at 18
    17) (assign_of (at 18 17) "Standard" (suffix.Selected (at 18 25) (id (at 18 26) "Latest_X") ∷ []) (at 18 35)
    (expr_of (at 18 38) (primary.Number (at 18 38) 1)) (at 18 39))) (at 18 41) (at 18 44) ∷ assign_of (at 19 1) "T1" []
    (at 19 4) (expr_of (at 19 7) (primary.Number (at 19 7) 0)) (at 19 8) ∷ stmt.Loop (at 20 1) (stmts.Sequence (at 21 1)
    (stmt.ExitWhen (at 21 1) (at 21 6) (expr.LoneRelation (at 21 11) (rel.Compared (at 21 11) (sum_of (at 21 11) (object
    (at 21 11) "T1")) relational.GreaterEqual (at 21 14) (sum_of (at 21 17) (primary.Number (at 21 17) 7)))) (at 21 18))
    (assign_of (at 22 1) "T1" [] (at 22 4) (expr.LoneRelation (at 22 7) (rel.LoneSum (at 22 7) (sum.Unsigned (at 22 7)
    (term_of (at 22 7) (object (at 22 7) "T1")) (next_term.FurtherTerm (at 22 10) adding.Add (term_of (at 22 12)
    (primary.Number (at 22 12) 1)) ∷ [])))) (at 22 13) ∷ stmt.If (at 23 1) (expr.LoneRelation (at 23 4) (rel.Compared
    (at 23 4) (sum_of (at 23 4) (object (at 23 4) "V2")) relational.NotEqual (at 23 7) (sum_of (at 23 10) (primary.Null
    (at 23 10))))) (at 23 15) (sole (at 24 1) (assign_of (at 24 1) "V2" [] (at 24 4) (expr_of (at 24 7)
    (primary.AllocatedValue (at 24 7) (mark (at 24 11) "Integer") (at 24 18) (at 24 19) (expr_of (at 24 20) (named (at
    24 20) "V2" (suffix.Dereferenced (at 24 22) (at 24 23) ∷ []))) (at 24 26))) (at 24 27))) [] (at 25 1) (at 25 5) (at
    25 7) ∷ [])) (at 26 1) (at 26 5) (at 26 9) ∷ [])) [] (at 27 1) (sole (at 28 1) (stmt.DeclareBlock (at 28 1)
    (initialized_of (id (at 29 1) "B1") [] (at 29 4) None (indication.Anonymous (at 29 6) None (mark (at 29 13)
    "Integer")) (at 29 21) (expr_of (at 29 24) (object (at 29 24) "V2")) (at 29 26) ∷ []) (at 30 1) (sole (at 31 1)
    (call_of (at 31 1) "Free1" (suffix.Applied (at 31 7) (actual_of (at 31 8) (object (at 31 8) "V1")) [] (at 31 10) ∷
    []) (at 31 11))) (at 32 1) (at 32 4))) (at 33 1) (at 33 5) (at 33 7))) (at 34 1) (Some (id (at 34 5) "Do1")) (at 34
    8)) ∷ []) (at 35 1) (Some (id (at 35 5) "Pack1")) (at 35 10)) ∷ unit.OfSubprogram (at 36 1) (context.With (at 36 1)
    (selected (at 36 6) "Ada" (at 36 9) (at 36 10) "Text_IO") [] (at 36 17) ∷ use_context (use_of (at 36 19) None
    (selected (at 36 23) "Ada" (at 36 26) (at 36 27) "Text_IO") [] (at 36 34)) ∷ context.With (at 37 1) (selected (at 37
    6) "Ada" (at 37 9) (at 37 10) "Integer_Text_IO") [] (at 37 25) ∷ use_context (use_of (at 37 27) None (selected (at
    37 31) "Ada" (at 37 34) (at 37 35) "Integer_Text_IO") [] (at 37 50)) ∷ context.With (at 38 1) (selected (at 38 6)
    "Ada" (at 38 9) (at 38 10) "Unchecked_Deallocation") [] (at 38 32) ∷ context.With (at 39 1) (mark (at 39 6) "Pack1")
    [] (at 39 11) ∷ use_context (use_of (at 39 13) None (mark (at 39 17) "Pack1") [] (at 39 22)) ∷ []) (subprogram_of
    (at 40 1) (subspec.Procedure (at 40 1) (id (at 40 11) "Main") None) None (at 40 16) (item.ArrayType (at 41 1) (id
    (at 41 6) "A2") (at 41 9) (at 41 12) (at 41 18) (range.Bounds (at 41 19) (expr_of (at 41 19) (primary.Number (at 41
    19) 1)) (at 41 21) (expr_of (at 41 24) (primary.Number (at 41 24) 3))) (at 41 25) (at 41 27) (mark (at 41 30) "P1")
    (at 41 32) ∷ item.IncompleteType (at 42 1) (id (at 42 6) "Node1") (at 42 11) ∷ item.AccessType (at 43 1) (id (at 43
    6) "Tree1") (at 43 12) (at 43 15) (mark (at 43 22) "Node1") (at 43 27) ∷ item.RecordType (at 44 1) (id (at 44 6)
    "Node1") (at 44 12) (at 44 15) (fields_of (id (at 44 22) "Key1") [] (at 44 27) (mark (at 44 29) "Integer") (at 44
    36)) (fields_of (id (at 44 38) "Left1") [] (at 44 44) (mark (at 44 46) "Tree1") (at 44 51) ∷ fields_of (id (at 44
    53) "Right1") [] (at 44 60) (mark (at 44 62) "Tree1") (at 44 67) ∷ fields_of (id (at 44 69) "X1") [] (at 44 72)
    (mark (at 44 74) "P1") (at 44 76) ∷ []) (at 44 78) (at 44 82) (at 44 88) ∷ item.Instance (at 45 1) (id (at 45 11)
    "Free2") (at 45 17) (at 45 20) (selected (at 45 24) "Ada" (at 45 27) (at 45 28) "Unchecked_Deallocation") (at 45 51)
    (actual_of (at 45 52) (object (at 45 52) "Node1")) (next_arg.FurtherArg (at 45 57) (actual_of (at 45 59) (object (at
    45 59) "Tree1")) ∷ []) (at 45 64) (at 45 65) ∷ item.AccessType (at 46 1) (id (at 46 6) "P2") (at 46 9) (at 46 12)
    (mark (at 46 19) "Tree1") (at 46 24) ∷ item.Instance (at 47 1) (id (at 47 11) "Free3") (at 47 17) (at 47 20)
    (selected (at 47 24) "Ada" (at 47 27) (at 47 28) "Unchecked_Deallocation") (at 47 51) (association_of (id (at 47 52)
    "Object") (at 47 59) (expr_of (at 47 62) (object (at 47 62) "Tree1"))) (next_arg.FurtherArg (at 47 67)
    (association_of (id (at 47 69) "Name") (at 47 74) (expr_of (at 47 77) (object (at 47 77) "P2"))) ∷ []) (at 47 79)
    (at 47 80) ∷ initialized_of (id (at 48 1) "V4") [] (at 48 4) None (indication_of (mark (at 48 6) "A2")) (at 48 9)
    (expr_of (at 48 12) (primary.Aggregated (at 48 12) (aggregate.Several (at 48 12) (actual_of (at 48 13)
    (primary.AllocatedValue (at 48 13) (mark (at 48 17) "Integer") (at 48 24) (at 48 25) (expr_of (at 48 26)
    (primary.Number (at 48 26) 17)) (at 48 28))) (at 48 29) (actual_of (at 48 31) (primary.AllocatedValue (at 48 31)
    (mark (at 48 35) "Integer") (at 48 42) (at 48 43) (expr_of (at 48 44) (primary.Number (at 48 44) 26)) (at 48 46)))
    (next_arg.FurtherArg (at 48 47) (actual_of (at 48 49) (primary.AllocatedValue (at 48 49) (mark (at 48 53) "Integer")
    (at 48 60) (at 48 61) (expr_of (at 48 62) (primary.Number (at 48 62) 39)) (at 48 64))) ∷ []) (at 48 65)))) (at 48
    66) ∷ initialized_of (id (at 49 1) "V5") [] (at 49 4) None (indication_of (mark (at 49 6) "P1")) (at 49 9) (expr_of
    (at 49 12) (named (at 49 12) "V4" (suffix.Applied (at 49 15) (actual_of (at 49 16) (primary.Number (at 49 16) 3)) []
    (at 49 17) ∷ []))) (at 49 18) ∷ []) (at 50 1) (stmts.Sequence (at 51 1) (call_of (at 51 1) "Put" (suffix.Applied (at
    51 5) (actual_of (at 51 6) (named (at 51 6) "Integer" (suffix.Attribute (at 51 13) (id (at 51 14) "Image") ∷
    suffix.Applied (at 51 20) (actual_of (at 51 21) (primary.Parenthesized (at 51 21) (expr.LoneRelation (at 51 22)
    (rel.LoneSum (at 51 22) (sum.Signed (at 51 22) sign.Minus (term_of (at 51 23) (primary.Number (at 51 23) 16)) [])))
    (at 51 25))) [] (at 51 26) ∷ []))) [] (at 51 27) ∷ []) (at 51 28)) (stmt.DeclareBlock (at 52 1) (initialized_of (id
    (at 53 1) "B2") [] (at 53 4) None (indication.Anonymous (at 53 6) None (mark (at 53 13) "Integer")) (at 53 21)
    (expr_of (at 53 24) (object (at 53 24) "V5")) (at 53 26) ∷ []) (at 54 1) (sole (at 55 1) (stmt.DeclareBlock (at 55
    1) (initialized_of (id (at 56 1) "C1") [] (at 56 4) None (indication.Anonymous (at 56 6) (Some (at 56 13)) (mark (at
    56 22) "Integer")) (at 56 30) (expr_of (at 56 33) (object (at 56 33) "B2")) (at 56 35) ∷ []) (at 57 1)
    (stmts.Sequence (at 58 1) (call_of (at 58 1) "Pack1" (suffix.Selected (at 58 6) (id (at 58 7) "Do1") ∷ []) (at 58
    10)) (stmt.For (at 59 1) (id (at 59 5) "I1") (at 59 8) (Some (at 59 11)) (range.Bounds (at 59 19) (expr_of (at 59
    19) (named (at 59 19) "V4" (suffix.Attribute (at 59 21) (id (at 59 22) "First") ∷ []))) (at 59 28) (expr_of (at 59
    31) (named (at 59 31) "V4" (suffix.Attribute (at 59 33) (id (at 59 34) "Last") ∷ [])))) (at 59 39) (sole (at 60 1)
    (stmt.DeclareBlock (at 60 1) (initialized_of (id (at 61 1) "C2") [] (at 61 4) None (indication.Anonymous (at 61 6)
    (Some (at 61 13)) (mark (at 61 22) "Integer")) (at 61 30) (expr_of (at 61 33) (object (at 61 33) "C1")) (at 61 35) ∷
    []) (at 62 1) (stmts.Sequence (at 63 1) (call_of (at 63 1) "Do1" [] (at 63 4)) (assign_of (at 64 1) "C2" [] (at 64
    4) (expr_of (at 64 7) (object (at 64 7) "C1")) (at 64 9) ∷ assign_of (at 65 1) "C1" [] (at 65 4) (expr_of (at 65 7)
    (object (at 65 7) "C1")) (at 65 9) ∷ call_of (at 66 1) "Do1" [] (at 66 4) ∷ [])) (at 67 1) (at 67 4))) (at 68 1) (at
    68 5) (at 68 9) ∷ [])) (at 69 1) (at 69 4))) (at 70 1) (at 70 4) ∷ [])) (at 71 1) (Some (id (at 71 5) "Main")) (at
    71 9)) ∷ []) ∷ [])
unfolding computes resolves
not_predefined_5 = refl
