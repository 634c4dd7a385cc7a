-- A with or a use has what may not stand there: N1.
--
-- tools/tree_terms.py makes this of the sources that data/cases.txt has under its name.
use Rattle.std.proofs.Common.{refl, [], ◌∷◌}
use Rattle.std.specs.Prelude.{None, Some}
use Rattle.ada_tree.specs.declared.operator.AddingOperator.TheVariants as adding
use Rattle.ada_tree.specs.declared.expression.Aggregate.TheVariants as aggregate
use Rattle.ada_tree.specs.declared.statement.When.TheVariants as alternative
use Rattle.ada_tree.specs.declared.range.Choice.TheVariants as choice
use Rattle.ada_tree.specs.declared.unit.Context.TheVariants as context
use Rattle.ada_tree.specs.declared.subprogram.Decl.TheVariants as decl
use Rattle.ada_tree.specs.declared.expression.Expr.TheVariants as expr
use Rattle.ada_tree.specs.declared.expression.Factor.TheVariants as factor
use Rattle.ada_tree.specs.declared.declaration.Indication.TheVariants as indication
use Rattle.ada_tree.specs.declared.declaration.Item.TheVariants as item
use Rattle.ada_tree.specs.declared.operator.MultiplyingOperator.TheVariants as multiplying
use Rattle.ada_tree.specs.declared.expression.NextArg.TheVariants as next_arg
use Rattle.ada_tree.specs.declared.range.NextChoice.TheVariants as next_choice
use Rattle.ada_tree.specs.declared.identifier.NextDotted.TheVariants as next_dotted
use Rattle.ada_tree.specs.declared.expression.NextFactor.TheVariants as next_factor
use Rattle.ada_tree.specs.declared.subprogram.NextFormal.TheVariants as next_formal
use Rattle.ada_tree.specs.declared.identifier.NextPart.TheVariants as next_part
use Rattle.ada_tree.specs.declared.expression.NextTerm.TheVariants as next_term
use Rattle.ada_tree.specs.declared.unit.BodyPart.TheVariants as part
use Rattle.ada_tree.specs.declared.expression.Primary.TheVariants as primary
use Rattle.ada_tree.specs.declared.range.Range.TheVariants as range
use Rattle.ada_tree.specs.declared.expression.Rel.TheVariants as rel
use Rattle.ada_tree.specs.declared.operator.RelationalOperator.TheVariants as relational
use Rattle.ada_tree.specs.declared.operator.Sign.TheVariants as sign
use Rattle.ada_tree.specs.declared.statement.Stmt.TheVariants as stmt
use Rattle.ada_tree.specs.declared.statement.Stmts.TheVariants as stmts
use Rattle.ada_tree.specs.declared.subprogram.Subspec.TheVariants as subspec
use Rattle.ada_tree.specs.declared.expression.Suffix.TheVariants as suffix
use Rattle.ada_tree.specs.declared.expression.Sum.TheVariants as sum
use Rattle.ada_tree.specs.declared.expression.Term.TheVariants as term
use Rattle.ada_tree.specs.declared.unit.SourceUnit.TheVariants as unit
use Rattle.ada_grammar.proofs.SmallSources.{computes}
use Rattle.name_events.specs.declared.declaration.NameRule.TheVariants.{Unknown}
use Rattle.name_tests.proofs.SmallRules.{resolves}
use Rattle.name_tests.proofs.SourceTrees.{IsFirstBrokenOf, actual_of, assign_of, association_of, at, call_of, constrained_of, dotted_of, expr_of, factor_of, fields_of, formals_of, id, indication_of, initialized_of, mark, moded_of, named, next_id_of, numbers_of, object, objects_of, package_body_of, package_of, selected, sole, subprogram_of, sum_of, term_of, use_context, use_item, use_of}

-- What stands in a with is no package.
wrong_in_with_1 : IsFirstBrokenOf Unknown (at 8 32) ((unit.OfSubprogram (at 1 1) (context.With (at 1 1) (selected (at 1
    6) "Ada" (at 1 9) (at 1 10) "Text_IO") [] (at 1 17) ∷ use_context (use_of (at 1 19) None (selected (at 1 23) "Ada"
    (at 1 26) (at 1 27) "Text_IO") [] (at 1 34)) ∷ context.With (at 1 36) (selected (at 1 41) "Ada" (at 1 44) (at 1 45)
    "Integer_Text_IO") [] (at 1 60) ∷ use_context (use_of (at 1 62) None (selected (at 1 66) "Ada" (at 1 69) (at 1 70)
    "Integer_Text_IO") [] (at 1 85)) ∷ context.With (at 1 87) (selected (at 1 92) "Ada" (at 1 95) (at 1 96)
    "Unchecked_Deallocation") [] (at 1 118) ∷ []) (subprogram_of (at 2 1) (subspec.Procedure (at 2 1) (id (at 2 11)
    "Main") None) None (at 2 16) (item.IncompleteType (at 3 1) (id (at 3 6) "Cell") (at 3 10) ∷ item.AccessType (at 4 1)
    (id (at 4 6) "List") (at 4 11) (at 4 14) (mark (at 4 21) "Cell") (at 4 25) ∷ item.RecordType (at 4 27) (id (at 4 32)
    "Cell") (at 4 37) (at 4 40) (fields_of (id (at 4 47) "Value") [] (at 4 53) (mark (at 4 55) "Integer") (at 4 62))
    (fields_of (id (at 4 64) "Next") [] (at 4 69) (mark (at 4 71) "List") (at 4 75) ∷ []) (at 4 77) (at 4 81) (at 4 87)
    ∷ objects_of (id (at 4 89) "X") (next_id_of (at 4 90) (at 4 92) "Y" ∷ []) (at 4 94) None (indication_of (mark (at 4
    96) "List")) (at 4 100) ∷ initialized_of (id (at 5 1) "N") [] (at 5 3) None (indication_of (mark (at 5 5)
    "Integer")) (at 5 13) (expr_of (at 5 16) (primary.Number (at 5 16) 7)) (at 5 17) ∷ item.Instance (at 6 1) (id (at 6
    11) "Free") (at 6 16) (at 6 19) (selected (at 6 23) "Ada" (at 6 26) (at 6 27) "Unchecked_Deallocation") (at 6 50)
    (actual_of (at 6 51) (object (at 6 51) "Cell")) (next_arg.FurtherArg (at 6 55) (actual_of (at 6 57) (object (at 6
    57) "List")) ∷ []) (at 6 61) (at 6 62) ∷ []) (at 6 64) (stmts.Sequence (at 6 70) (stmt.While (at 6 70)
    (expr.LoneRelation (at 6 76) (rel.Compared (at 6 76) (sum_of (at 6 76) (object (at 6 76) "N")) relational.Greater
    (at 6 78) (sum_of (at 6 80) (primary.Number (at 6 80) 5)))) (at 6 82) (sole (at 6 87) (assign_of (at 6 87) "N" []
    (at 6 89) (expr.LoneRelation (at 6 92) (rel.LoneSum (at 6 92) (sum.Unsigned (at 6 92) (term.Product (at 6 92)
    (factor_of (at 6 92) (object (at 6 92) "N")) (next_factor.FurtherFactor (at 6 94) multiplying.Divide (factor_of (at
    6 96) (primary.Number (at 6 96) 2)) ∷ [])) []))) (at 6 97))) (at 6 99) (at 6 103) (at 6 107)) (stmt.For (at 7 1) (id
    (at 7 5) "I") (at 7 7) None (range.Bounds (at 7 10) (expr_of (at 7 10) (primary.Number (at 7 10) 1)) (at 7 12)
    (expr_of (at 7 15) (primary.Number (at 7 15) 3))) (at 7 17) (sole (at 7 22) (assign_of (at 7 22) "N" [] (at 7 24)
    (expr.LoneRelation (at 7 27) (rel.LoneSum (at 7 27) (sum.Unsigned (at 7 27) (term_of (at 7 27) (object (at 7 27)
    "N")) (next_term.FurtherTerm (at 7 29) adding.Add (term_of (at 7 31) (object (at 7 31) "I")) ∷ [])))) (at 7 32)))
    (at 7 34) (at 7 38) (at 7 42) ∷ assign_of (at 8 1) "N" [] (at 8 3) (expr.LoneRelation (at 8 6) (rel.LoneSum (at 8 6)
    (sum.Unsigned (at 8 6) (term.Product (at 8 6) (factor_of (at 8 6) (object (at 8 6) "N")) (next_factor.FurtherFactor
    (at 8 8) multiplying.Multiply (factor_of (at 8 10) (primary.Number (at 8 10) 2)) ∷ [])) (next_term.FurtherTerm (at 8
    12) adding.Add (term_of (at 8 14) (primary.Number (at 8 14) 1)) ∷ [])))) (at 8 15) ∷ [])) (at 8 17) (Some (id (at 8
    21) "Main")) (at 8 25)) ∷ unit.OfPackage (at 8 27) (context.With (at 8 27) (mark (at 8 32) "Extra_What") [] (at 8
    42) ∷ []) (package_of (at 8 44) (id (at 8 52) "Extra_R") None (at 8 60) (decl.OfItem (at 8 63) (objects_of (id (at 8
    63) "Extra_Z") [] (at 8 71) None (indication_of (mark (at 8 73) "Integer")) (at 8 80)) ∷ []) None (at 8 82) (Some
    (id (at 8 86) "Extra_R")) (at 8 93)) ∷ []) ∷ [])
unfolding computes resolves
wrong_in_with_1 = refl

wrong_in_with_2 : IsFirstBrokenOf Unknown (at 1 6) ((unit.OfPackage (at 1 1) (context.With (at 1 1) (mark (at 1 6)
    "Integer") [] (at 1 13) ∷ []) (package_of (at 1 15) (id (at 1 23) "Extra_R") None (at 1 31) (decl.OfItem (at 1 34)
    (objects_of (id (at 1 34) "Extra_Z") [] (at 1 42) None (indication_of (mark (at 1 44) "Integer")) (at 1 51)) ∷ [])
    None (at 1 53) (Some (id (at 1 57) "Extra_R")) (at 1 64)) ∷ unit.OfSubprogram (at 2 1) (context.With (at 2 1)
    (selected (at 2 6) "Ada" (at 2 9) (at 2 10) "Text_IO") [] (at 2 17) ∷ use_context (use_of (at 2 19) None (selected
    (at 2 23) "Ada" (at 2 26) (at 2 27) "Text_IO") [] (at 2 34)) ∷ context.With (at 2 36) (selected (at 2 41) "Ada" (at
    2 44) (at 2 45) "Integer_Text_IO") [] (at 2 60) ∷ use_context (use_of (at 2 62) None (selected (at 2 66) "Ada" (at 2
    69) (at 2 70) "Integer_Text_IO") [] (at 2 85)) ∷ context.With (at 2 87) (selected (at 2 92) "Ada" (at 2 95) (at 2
    96) "Unchecked_Deallocation") [] (at 2 118) ∷ []) (subprogram_of (at 3 1) (subspec.Procedure (at 3 1) (id (at 3 11)
    "Main") None) None (at 3 16) (item.IncompleteType (at 4 1) (id (at 4 6) "Cell") (at 4 10) ∷ item.AccessType (at 5 1)
    (id (at 5 6) "List") (at 5 11) (at 5 14) (mark (at 5 21) "Cell") (at 5 25) ∷ item.RecordType (at 6 1) (id (at 6 6)
    "Cell") (at 6 11) (at 6 14) (fields_of (id (at 6 21) "Value") [] (at 6 27) (mark (at 6 29) "Integer") (at 6 36))
    (fields_of (id (at 6 38) "Next") [] (at 6 43) (mark (at 6 45) "List") (at 6 49) ∷ []) (at 6 51) (at 6 55) (at 6 61)
    ∷ objects_of (id (at 7 1) "X") (next_id_of (at 7 2) (at 7 4) "Y" ∷ []) (at 7 6) None (indication_of (mark (at 7 8)
    "List")) (at 7 12) ∷ initialized_of (id (at 8 1) "N") [] (at 8 3) None (indication_of (mark (at 8 5) "Integer")) (at
    8 13) (expr_of (at 8 16) (primary.Number (at 8 16) 7)) (at 8 17) ∷ item.Instance (at 9 1) (id (at 9 11) "Free") (at
    9 16) (at 9 19) (selected (at 9 23) "Ada" (at 9 26) (at 9 27) "Unchecked_Deallocation") (at 9 50) (actual_of (at 9
    51) (object (at 9 51) "Cell")) (next_arg.FurtherArg (at 9 55) (actual_of (at 9 57) (object (at 9 57) "List")) ∷ [])
    (at 9 61) (at 9 62) ∷ []) (at 10 1) (stmts.Sequence (at 11 1) (stmt.DeclareBlock (at 11 1) (initialized_of (id (at
    11 9) "B") [] (at 11 11) None (indication.Anonymous (at 11 13) None (mark (at 11 20) "Cell")) (at 11 25) (expr_of
    (at 11 28) (object (at 11 28) "X")) (at 11 29) ∷ []) (at 11 31) (sole (at 11 37) (stmt.If (at 11 37)
    (expr.LoneRelation (at 11 40) (rel.Compared (at 11 40) (sum_of (at 11 40) (object (at 11 40) "B"))
    relational.NotEqual (at 11 42) (sum_of (at 11 45) (primary.Null (at 11 45))))) (at 11 50) (sole (at 11 55)
    (assign_of (at 11 55) "B" (suffix.Selected (at 11 56) (id (at 11 57) "Value") ∷ []) (at 11 63) (expr_of (at 11 66)
    (object (at 11 66) "N")) (at 11 67))) [] (at 11 69) (at 11 73) (at 11 75))) (at 11 77) (at 11 80)) (stmt.Case (at 12
    1) (expr_of (at 12 6) (object (at 12 6) "N")) (at 12 8) (alternative.Alternative (at 12 11) (choice.Value (at 12 16)
    (expr_of (at 12 16) (primary.Number (at 12 16) 1))) [] (at 12 18) (sole (at 12 21) (stmt.Null (at 12 21) (at 12
    25)))) (alternative.Alternative (at 12 27) (choice.Others (at 12 32)) [] (at 12 39) (sole (at 12 42) (assign_of (at
    12 42) "N" [] (at 12 44) (expr_of (at 12 47) (primary.Number (at 12 47) 2)) (at 12 48))) ∷ []) (at 12 50) (at 12 54)
    (at 12 58) ∷ assign_of (at 13 1) "N" [] (at 13 3) (expr.LoneRelation (at 13 6) (rel.LoneSum (at 13 6) (sum.Unsigned
    (at 13 6) (term.Product (at 13 6) (factor_of (at 13 6) (object (at 13 6) "N")) (next_factor.FurtherFactor (at 13 8)
    multiplying.Multiply (factor_of (at 13 10) (primary.Number (at 13 10) 2)) ∷ [])) (next_term.FurtherTerm (at 13 12)
    adding.Add (term_of (at 13 14) (primary.Number (at 13 14) 1)) ∷ [])))) (at 13 15) ∷ assign_of (at 14 1) "X" [] (at
    14 3) (expr_of (at 14 6) (primary.AllocatedAggregate (at 14 6) (mark (at 14 10) "Cell") (at 14 14)
    (aggregate.Several (at 14 15) (actual_of (at 14 16) (object (at 14 16) "N")) (at 14 17) (actual_of (at 14 19)
    (primary.Null (at 14 19))) [] (at 14 23)))) (at 14 24) ∷ assign_of (at 15 1) "Y" [] (at 15 3) (expr_of (at 15 6)
    (object (at 15 6) "X")) (at 15 7) ∷ assign_of (at 15 9) "X" [] (at 15 11) (expr_of (at 15 14) (primary.Null (at 15
    14))) (at 15 18) ∷ [])) (at 16 1) (Some (id (at 16 5) "Main")) (at 16 9)) ∷ []) ∷ [])
unfolding computes resolves
wrong_in_with_2 = refl

wrong_in_with_3 : IsFirstBrokenOf Unknown (at 2 20) ((unit.OfPackage (at 1 1) [] (package_of (at 1 1) (id (at 1 9)
    "Plain_P") None (at 1 17) (decl.OfItem (at 1 20) (objects_of (id (at 1 20) "Plain_X") [] (at 1 28) None
    (indication_of (mark (at 1 30) "Integer")) (at 1 37)) ∷ []) None (at 1 39) (Some (id (at 1 43) "Plain_P")) (at 1
    50)) ∷ unit.OfPackage (at 2 1) (context.With (at 2 1) (mark (at 2 6) "Plain_P") [] (at 2 13) ∷ context.With (at 2
    15) (selected (at 2 20) "Plain_P" (at 2 27) (at 2 28) "Plain_X") [] (at 2 35) ∷ []) (package_of (at 2 37) (id (at 2
    45) "Plain_R") None (at 2 53) (decl.OfItem (at 2 56) (objects_of (id (at 2 56) "Plain_Z") [] (at 2 64) None
    (indication_of (mark (at 2 66) "Integer")) (at 2 73)) ∷ []) None (at 2 75) (Some (id (at 2 79) "Plain_R")) (at 2
    86)) ∷ unit.OfPackage (at 3 1) (context.With (at 3 1) (selected (at 3 6) "Ada" (at 3 9) (at 3 10) "Text_IO") [] (at
    3 17) ∷ use_context (use_of (at 3 19) None (selected (at 3 23) "Ada" (at 3 26) (at 3 27) "Text_IO") [] (at 3 34)) ∷
    context.With (at 3 36) (selected (at 3 41) "Ada" (at 3 44) (at 3 45) "Integer_Text_IO") [] (at 3 60) ∷ use_context
    (use_of (at 3 62) None (selected (at 3 66) "Ada" (at 3 69) (at 3 70) "Integer_Text_IO") [] (at 3 85)) ∷ context.With
    (at 3 87) (selected (at 3 92) "Ada" (at 3 95) (at 3 96) "Unchecked_Deallocation") [] (at 3 118) ∷ []) (package_of
    (at 4 1) (id (at 4 9) "Store") None (at 4 15) (decl.OfItem (at 5 1) (item.IncompleteType (at 5 1) (id (at 5 6)
    "Cell") (at 5 10)) ∷ decl.OfItem (at 6 1) (item.AccessType (at 6 1) (id (at 6 6) "List") (at 6 11) (at 6 14) (mark
    (at 6 21) "Cell") (at 6 25)) ∷ decl.OfItem (at 7 1) (item.RecordType (at 7 1) (id (at 7 6) "Cell") (at 7 11) (at 7
    14) (fields_of (id (at 7 21) "Value") [] (at 7 27) (mark (at 7 29) "Integer") (at 7 36)) (fields_of (id (at 7 38)
    "Next") [] (at 7 43) (mark (at 7 45) "List") (at 7 49) ∷ []) (at 7 51) (at 7 55) (at 7 61)) ∷ decl.Subprogram (at 8
    1) (subspec.Procedure (at 8 1) (id (at 8 11) "Push") (Some (formals_of (at 8 16) (moded_of (id (at 8 17) "L") [] (at
    8 19) (Some (at 8 21)) (Some (at 8 24)) (mark (at 8 28) "List")) (next_formal.Semicolon (at 8 32) (moded_of (id (at
    8 34) "V") [] (at 8 36) None None (mark (at 8 38) "Integer")) ∷ []) (at 8 45)))) None (at 8 46) ∷ decl.Subprogram
    (at 9 1) (subspec.Function (at 9 1) (id (at 9 10) "Sum") (Some (formals_of (at 9 14) (moded_of (id (at 9 15) "L") []
    (at 9 17) None None (mark (at 9 19) "List")) [] (at 9 23))) (at 9 25) (indication_of (mark (at 9 32) "Integer")))
    None (at 9 39) ∷ decl.OfItem (at 10 1) (objects_of (id (at 10 1) "Total") [] (at 10 7) None (indication_of (mark (at
    10 9) "Integer")) (at 10 16)) ∷ []) None (at 11 1) (Some (id (at 11 5) "Store")) (at 11 10)) ∷ unit.OfBody (at 12 1)
    [] (package_body_of (at 12 1) (at 12 9) (id (at 12 14) "Store") None (at 12 20) (part.Completed (at 13 1)
    (subprogram_of (at 13 1) (subspec.Procedure (at 13 1) (id (at 13 11) "Push") (Some (formals_of (at 13 16) (moded_of
    (id (at 13 17) "L") [] (at 13 19) (Some (at 13 21)) (Some (at 13 24)) (mark (at 13 28) "List"))
    (next_formal.Semicolon (at 13 32) (moded_of (id (at 13 34) "V") [] (at 13 36) None None (mark (at 13 38) "Integer"))
    ∷ []) (at 13 45)))) None (at 13 47) [] (at 14 1) (sole (at 15 1) (assign_of (at 15 1) "L" [] (at 15 3) (expr_of (at
    15 6) (primary.AllocatedAggregate (at 15 6) (mark (at 15 10) "Cell") (at 15 14) (aggregate.Several (at 15 15)
    (actual_of (at 15 16) (object (at 15 16) "V")) (at 15 17) (actual_of (at 15 19) (object (at 15 19) "L")) [] (at 15
    20)))) (at 15 21))) (at 16 1) (Some (id (at 16 5) "Push")) (at 16 9)) ∷ part.Completed (at 17 1) (subprogram_of (at
    17 1) (subspec.Function (at 17 1) (id (at 17 10) "Sum") (Some (formals_of (at 17 14) (moded_of (id (at 17 15) "L")
    [] (at 17 17) None None (mark (at 17 19) "List")) [] (at 17 23))) (at 17 25) (indication_of (mark (at 17 32)
    "Integer"))) None (at 17 40) (initialized_of (id (at 18 1) "C") [] (at 18 3) None (indication.Anonymous (at 18 5)
    (Some (at 18 12)) (mark (at 18 21) "Cell")) (at 18 26) (expr_of (at 18 29) (object (at 18 29) "L")) (at 18 30) ∷
    initialized_of (id (at 19 1) "N") [] (at 19 3) None (indication_of (mark (at 19 5) "Integer")) (at 19 13) (expr_of
    (at 19 16) (primary.Number (at 19 16) 0)) (at 19 17) ∷ []) (at 20 1) (stmts.Sequence (at 21 1) (stmt.While (at 21 1)
    (expr.LoneRelation (at 21 7) (rel.Compared (at 21 7) (sum_of (at 21 7) (object (at 21 7) "C")) relational.NotEqual
    (at 21 9) (sum_of (at 21 12) (primary.Null (at 21 12))))) (at 21 17) (stmts.Sequence (at 21 22) (assign_of (at 21
    22) "N" [] (at 21 24) (expr.LoneRelation (at 21 27) (rel.LoneSum (at 21 27) (sum.Unsigned (at 21 27) (term_of (at 21
    27) (object (at 21 27) "N")) (next_term.FurtherTerm (at 21 29) adding.Add (term_of (at 21 31) (named (at 21 31) "C"
    (suffix.Selected (at 21 32) (id (at 21 33) "Value") ∷ []))) ∷ [])))) (at 21 38)) (assign_of (at 21 40) "C" [] (at 21
    42) (expr_of (at 21 45) (named (at 21 45) "C" (suffix.Selected (at 21 46) (id (at 21 47) "Next") ∷ []))) (at 21 51)
    ∷ [])) (at 21 53) (at 21 57) (at 21 61)) (stmt.ReturnValue (at 22 1) (expr_of (at 22 8) (object (at 22 8) "N")) (at
    22 9) ∷ [])) (at 23 1) (Some (id (at 23 5) "Sum")) (at 23 8)) ∷ []) (at 24 1) (Some (id (at 24 5) "Store")) (at 24
    10)) ∷ unit.OfSubprogram (at 25 1) (context.With (at 25 1) (selected (at 25 6) "Ada" (at 25 9) (at 25 10) "Text_IO")
    [] (at 25 17) ∷ use_context (use_of (at 25 19) None (selected (at 25 23) "Ada" (at 25 26) (at 25 27) "Text_IO") []
    (at 25 34)) ∷ context.With (at 25 36) (selected (at 25 41) "Ada" (at 25 44) (at 25 45) "Integer_Text_IO") [] (at 25
    60) ∷ use_context (use_of (at 25 62) None (selected (at 25 66) "Ada" (at 25 69) (at 25 70) "Integer_Text_IO") [] (at
    25 85)) ∷ context.With (at 25 87) (selected (at 25 92) "Ada" (at 25 95) (at 25 96) "Unchecked_Deallocation") [] (at
    25 118) ∷ context.With (at 25 120) (mark (at 25 125) "Store") [] (at 25 130) ∷ use_context (use_of (at 25 132) None
    (mark (at 25 136) "Store") [] (at 25 141)) ∷ []) (subprogram_of (at 26 1) (subspec.Procedure (at 26 1) (id (at 26
    11) "Main") None) None (at 26 16) (objects_of (id (at 27 1) "X") (next_id_of (at 27 2) (at 27 4) "Y" ∷ []) (at 27 6)
    None (indication_of (mark (at 27 8) "List")) (at 27 12) ∷ initialized_of (id (at 28 1) "N") [] (at 28 3) None
    (indication_of (mark (at 28 5) "Integer")) (at 28 13) (expr_of (at 28 16) (primary.Number (at 28 16) 7)) (at 28 17)
    ∷ item.Instance (at 29 1) (id (at 29 11) "Free") (at 29 16) (at 29 19) (selected (at 29 23) "Ada" (at 29 26) (at 29
    27) "Unchecked_Deallocation") (at 29 50) (actual_of (at 29 51) (object (at 29 51) "Cell")) (next_arg.FurtherArg (at
    29 55) (actual_of (at 29 57) (object (at 29 57) "List")) ∷ []) (at 29 61) (at 29 62) ∷ []) (at 30 1) (stmts.Sequence
    (at 31 1) (stmt.If (at 31 1) (expr.LoneRelation (at 31 4) (rel.LoneSum (at 31 4) (sum.Unsigned (at 31 4)
    (term.Product (at 31 4) (factor.Not (at 31 4) (object (at 31 8) "End_Of_File")) []) []))) (at 31 20) (sole (at 31
    25) (call_of (at 31 25) "Get" (suffix.Applied (at 31 29) (actual_of (at 31 30) (object (at 31 30) "N")) [] (at 31
    31) ∷ []) (at 31 32))) [] (at 31 34) (at 31 38) (at 31 40)) (assign_of (at 32 1) "Total" [] (at 32 7) (expr_of (at
    32 10) (object (at 32 10) "N")) (at 32 11) ∷ [])) (at 33 1) (Some (id (at 33 5) "Main")) (at 33 9)) ∷ []) ∷ [])
unfolding computes resolves
wrong_in_with_3 = refl

wrong_in_with_4 : IsFirstBrokenOf Unknown (at 1 17) ((unit.OfPackage (at 1 7) (context.With (at 1 7) (mark (at 1 12)
    "Ada") (next_dotted.FurtherDotted (at 1 15) (mark (at 1 17) "Boolean") ∷ []) (at 1 24) ∷ []) (package_of (at 1 26)
    (id (at 1 34) "Minor_R") None (at 1 42) (decl.OfItem (at 1 45) (objects_of (id (at 1 45) "Minor_Z") [] (at 1 53)
    None (indication_of (mark (at 1 55) "Integer")) (at 1 62)) ∷ []) None (at 1 64) (Some (id (at 1 68) "Minor_R")) (at
    1 75)) ∷ unit.OfPackage (at 2 1) (context.With (at 2 1) (selected (at 2 6) "Ada" (at 2 9) (at 2 10) "Text_IO") []
    (at 2 17) ∷ use_context (use_of (at 2 19) None (selected (at 2 23) "Ada" (at 2 26) (at 2 27) "Text_IO") [] (at 2
    34)) ∷ context.With (at 2 36) (selected (at 2 41) "Ada" (at 2 44) (at 2 45) "Integer_Text_IO") [] (at 2 60) ∷
    use_context (use_of (at 2 62) None (selected (at 2 66) "Ada" (at 2 69) (at 2 70) "Integer_Text_IO") [] (at 2 85)) ∷
    context.With (at 2 87) (selected (at 2 92) "Ada" (at 2 95) (at 2 96) "Unchecked_Deallocation") [] (at 2 118) ∷ [])
    (package_of (at 3 1) (id (at 3 9) "Store") None (at 3 15) (decl.OfItem (at 4 4) (item.IncompleteType (at 4 4) (id
    (at 4 9) "Cell") (at 4 13)) ∷ decl.OfItem (at 5 7) (item.AccessType (at 5 7) (id (at 5 12) "List") (at 5 17) (at 5
    20) (mark (at 5 27) "Cell") (at 5 31)) ∷ decl.OfItem (at 6 4) (item.RecordType (at 6 4) (id (at 6 9) "Cell") (at 6
    14) (at 6 17) (fields_of (id (at 6 24) "Value") [] (at 6 30) (mark (at 6 32) "Integer") (at 6 39)) (fields_of (id
    (at 6 41) "Next") [] (at 6 46) (mark (at 6 48) "List") (at 6 52) ∷ []) (at 6 54) (at 6 58) (at 6 64)) ∷
    decl.Subprogram (at 7 1) (subspec.Procedure (at 7 1) (id (at 7 11) "Push") (Some (formals_of (at 7 16) (moded_of (id
    (at 7 17) "L") [] (at 7 19) (Some (at 7 21)) (Some (at 7 24)) (mark (at 7 28) "List")) (next_formal.Semicolon (at 7
    32) (moded_of (id (at 7 34) "V") [] (at 7 36) None None (mark (at 7 38) "Integer")) ∷ []) (at 7 45)))) None (at 7
    46) ∷ decl.Subprogram (at 8 7) (subspec.Function (at 8 7) (id (at 8 16) "Sum") (Some (formals_of (at 8 20) (moded_of
    (id (at 8 21) "L") [] (at 8 23) None None (mark (at 8 25) "List")) [] (at 8 29))) (at 8 31) (indication_of (mark (at
    8 38) "Integer"))) None (at 8 45) ∷ decl.OfItem (at 9 4) (objects_of (id (at 9 4) "Total") [] (at 9 10) None
    (indication_of (mark (at 9 12) "Integer")) (at 9 19)) ∷ []) None (at 10 1) (Some (id (at 10 5) "Store")) (at 10 10))
    ∷ unit.OfBody (at 11 7) [] (package_body_of (at 11 7) (at 11 15) (id (at 11 20) "Store") None (at 11 26)
    (part.Completed (at 12 4) (subprogram_of (at 12 4) (subspec.Procedure (at 12 4) (id (at 12 14) "Push") (Some
    (formals_of (at 12 19) (moded_of (id (at 12 20) "L") [] (at 12 22) (Some (at 12 24)) (Some (at 12 27)) (mark (at 12
    31) "List")) (next_formal.Semicolon (at 12 35) (moded_of (id (at 12 37) "V") [] (at 12 39) None None (mark (at 12
    41) "Integer")) ∷ []) (at 12 48)))) None (at 12 50) [] (at 13 1) (sole (at 14 7) (assign_of (at 14 7) "L" [] (at 14
    9) (expr_of (at 14 12) (primary.AllocatedAggregate (at 14 12) (mark (at 14 16) "Cell") (at 14 20) (aggregate.Several
    (at 14 21) (actual_of (at 14 22) (object (at 14 22) "V")) (at 14 23) (actual_of (at 14 25) (object (at 14 25) "L"))
    [] (at 14 26)))) (at 14 27))) (at 15 1) (Some (id (at 15 5) "Push")) (at 15 9)) ∷ part.Completed (at 16 7)
    (subprogram_of (at 16 7) (subspec.Function (at 16 7) (id (at 16 16) "Sum") (Some (formals_of (at 16 20) (moded_of
    (id (at 16 21) "L") [] (at 16 23) None None (mark (at 16 25) "List")) [] (at 16 29))) (at 16 31) (indication_of
    (mark (at 16 38) "Integer"))) None (at 16 46) (initialized_of (id (at 17 7) "C") [] (at 17 9) None
    (indication.Anonymous (at 17 11) (Some (at 17 18)) (mark (at 17 27) "Cell")) (at 17 32) (expr_of (at 17 35) (object
    (at 17 35) "L")) (at 17 36) ∷ initialized_of (id (at 18 7) "N") [] (at 18 9) None (indication_of (mark (at 18 11)
    "Integer")) (at 18 19) (expr_of (at 18 22) (primary.Number (at 18 22) 0)) (at 18 23) ∷ []) (at 19 4) (stmts.Sequence
    (at 20 1) (stmt.While (at 20 1) (expr.LoneRelation (at 20 7) (rel.Compared (at 20 7) (sum_of (at 20 7) (object (at
    20 7) "C")) relational.NotEqual (at 20 9) (sum_of (at 20 12) (primary.Null (at 20 12))))) (at 20 17) (stmts.Sequence
    (at 20 22) (assign_of (at 20 22) "N" [] (at 20 24) (expr.LoneRelation (at 20 27) (rel.LoneSum (at 20 27)
    (sum.Unsigned (at 20 27) (term_of (at 20 27) (object (at 20 27) "N")) (next_term.FurtherTerm (at 20 29) adding.Add
    (term_of (at 20 31) (named (at 20 31) "C" (suffix.Selected (at 20 32) (id (at 20 33) "Value") ∷ []))) ∷ [])))) (at
    20 38)) (assign_of (at 20 40) "C" [] (at 20 42) (expr_of (at 20 45) (named (at 20 45) "C" (suffix.Selected (at 20
    46) (id (at 20 47) "Next") ∷ []))) (at 20 51) ∷ [])) (at 20 53) (at 20 57) (at 20 61)) (stmt.ReturnValue (at 21 1)
    (expr_of (at 21 8) (object (at 21 8) "N")) (at 21 9) ∷ [])) (at 22 1) (Some (id (at 22 5) "Sum")) (at 22 8)) ∷ [])
    (at 23 1) (Some (id (at 23 5) "Store")) (at 23 10)) ∷ unit.OfSubprogram (at 24 1) (context.With (at 24 1) (selected
    (at 24 6) "Ada" (at 24 9) (at 24 10) "Text_IO") [] (at 24 17) ∷ use_context (use_of (at 24 19) None (selected (at 24
    23) "Ada" (at 24 26) (at 24 27) "Text_IO") [] (at 24 34)) ∷ context.With (at 24 36) (selected (at 24 41) "Ada" (at
    24 44) (at 24 45) "Integer_Text_IO") [] (at 24 60) ∷ use_context (use_of (at 24 62) None (selected (at 24 66) "Ada"
    (at 24 69) (at 24 70) "Integer_Text_IO") [] (at 24 85)) ∷ context.With (at 24 87) (selected (at 24 92) "Ada" (at 24
    95) (at 24 96) "Unchecked_Deallocation") [] (at 24 118) ∷ context.With (at 24 120) (mark (at 24 125) "Store") [] (at
    24 130) ∷ use_context (use_of (at 24 132) None (mark (at 24 136) "Store") [] (at 24 141)) ∷ []) (subprogram_of (at
    25 7) (subspec.Procedure (at 25 7) (id (at 25 17) "Main") None) None (at 25 22) (objects_of (id (at 26 1) "X")
    (next_id_of (at 26 2) (at 26 4) "Y" ∷ []) (at 26 6) None (indication_of (mark (at 26 8) "List")) (at 26 12) ∷
    initialized_of (id (at 27 7) "N") [] (at 27 9) None (indication_of (mark (at 27 11) "Integer")) (at 27 19) (expr_of
    (at 27 22) (primary.Number (at 27 22) 5)) (at 27 23) ∷ []) (at 28 7) (stmts.Sequence (at 29 7) (stmt.IfElse (at 29
    7) (expr.LoneRelation (at 29 10) (rel.Compared (at 29 10) (sum_of (at 29 10) (object (at 29 10) "N"))
    relational.Greater (at 29 12) (sum_of (at 29 14) (primary.Number (at 29 14) 3)))) (at 29 16) (sole (at 29 21)
    (assign_of (at 29 21) "N" [] (at 29 23) (expr.LoneRelation (at 29 26) (rel.LoneSum (at 29 26) (sum.Unsigned (at 29
    26) (term_of (at 29 26) (object (at 29 26) "N")) (next_term.FurtherTerm (at 29 28) adding.Subtract (term_of (at 29
    30) (primary.Number (at 29 30) 1)) ∷ [])))) (at 29 31))) [] (at 29 33) (sole (at 29 38) (stmt.Null (at 29 38) (at 29
    42))) (at 29 44) (at 29 48) (at 29 50)) (stmt.For (at 30 4) (id (at 30 8) "I") (at 30 10) None (range.Bounds (at 30
    13) (expr_of (at 30 13) (primary.Number (at 30 13) 1)) (at 30 15) (expr_of (at 30 18) (primary.Number (at 30 18)
    3))) (at 30 20) (sole (at 30 25) (assign_of (at 30 25) "N" [] (at 30 27) (expr.LoneRelation (at 30 30) (rel.LoneSum
    (at 30 30) (sum.Unsigned (at 30 30) (term_of (at 30 30) (object (at 30 30) "N")) (next_term.FurtherTerm (at 30 32)
    adding.Add (term_of (at 30 34) (object (at 30 34) "I")) ∷ [])))) (at 30 35))) (at 30 37) (at 30 41) (at 30 45) ∷
    call_of (at 31 4) "Put_Line" (suffix.Applied (at 31 13) (actual_of (at 31 14) (named (at 31 14) "Integer"
    (suffix.Attribute (at 31 21) (id (at 31 22) "Image") ∷ suffix.Applied (at 31 28) (actual_of (at 31 29) (object (at
    31 29) "N")) [] (at 31 30) ∷ []))) [] (at 31 31) ∷ []) (at 31 32) ∷ assign_of (at 32 1) "N" [] (at 32 3)
    (expr.LoneRelation (at 32 6) (rel.LoneSum (at 32 6) (sum.Unsigned (at 32 6) (term.Product (at 32 6) (factor_of (at
    32 6) (object (at 32 6) "N")) (next_factor.FurtherFactor (at 32 8) multiplying.Multiply (factor_of (at 32 10)
    (primary.Number (at 32 10) 2)) ∷ [])) (next_term.FurtherTerm (at 32 12) adding.Add (term_of (at 32 14)
    (primary.Number (at 32 14) 1)) ∷ [])))) (at 32 15) ∷ [])) (at 33 1) (Some (id (at 33 5) "Main")) (at 33 9)) ∷ []) ∷
    [])
unfolding computes resolves
wrong_in_with_4 = refl

wrong_in_with_5 : IsFirstBrokenOf Unknown (at 6 16) ((unit.OfSubprogram (at 1 1) (context.With (at 1 1) (selected (at 1
    6) "Ada" (at 1 9) (at 1 10) "Text_IO") [] (at 1 17) ∷ use_context (use_of (at 1 19) None (selected (at 1 23) "Ada"
    (at 1 26) (at 1 27) "Text_IO") [] (at 1 34)) ∷ context.With (at 1 36) (selected (at 1 41) "Ada" (at 1 44) (at 1 45)
    "Integer_Text_IO") [] (at 1 60) ∷ use_context (use_of (at 1 62) None (selected (at 1 66) "Ada" (at 1 69) (at 1 70)
    "Integer_Text_IO") [] (at 1 85)) ∷ context.With (at 1 87) (selected (at 1 92) "Ada" (at 1 95) (at 1 96)
    "Unchecked_Deallocation") [] (at 1 118) ∷ []) (subprogram_of (at 2 1) (subspec.Procedure (at 2 1) (id (at 2 11)
    "Main") None) None (at 2 16) (item.IncompleteType (at 2 19) (id (at 2 24) "Cell") (at 2 28) ∷ item.AccessType (at 2
    30) (id (at 2 35) "List") (at 2 40) (at 2 43) (mark (at 2 50) "Cell") (at 2 54) ∷ item.RecordType (at 2 56) (id (at
    2 61) "Cell") (at 2 66) (at 2 69) (fields_of (id (at 2 76) "Value") [] (at 2 82) (mark (at 2 84) "Integer") (at 2
    91)) (fields_of (id (at 2 93) "Next") [] (at 2 98) (mark (at 2 100) "List") (at 2 104) ∷ []) (at 2 106) (at 2 110)
    (at 2 116) ∷ objects_of (id (at 3 1) "X") (next_id_of (at 3 2) (at 3 4) "Y" ∷ []) (at 3 6) None (indication_of (mark
    (at 3 8) "List")) (at 3 12) ∷ initialized_of (id (at 3 14) "N") [] (at 3 16) None (indication_of (mark (at 3 18)
    "Integer")) (at 3 26) (expr_of (at 3 29) (primary.Number (at 3 29) 2)) (at 3 30) ∷ item.Instance (at 3 32) (id (at 3
    42) "Free") (at 3 47) (at 3 50) (selected (at 3 54) "Ada" (at 3 57) (at 3 58) "Unchecked_Deallocation") (at 3 81)
    (actual_of (at 3 82) (object (at 3 82) "Cell")) (next_arg.FurtherArg (at 3 86) (actual_of (at 3 88) (object (at 3
    88) "List")) ∷ []) (at 3 92) (at 3 93) ∷ []) (at 4 1) (stmts.Sequence (at 4 7) (stmt.DeclareBlock (at 4 7)
    (initialized_of (id (at 4 15) "B") [] (at 4 17) None (indication.Anonymous (at 4 19) None (mark (at 4 26) "Cell"))
    (at 4 31) (expr_of (at 4 34) (object (at 4 34) "X")) (at 4 35) ∷ []) (at 4 37) (sole (at 4 43) (stmt.If (at 4 43)
    (expr.LoneRelation (at 4 46) (rel.Compared (at 4 46) (sum_of (at 4 46) (object (at 4 46) "B")) relational.NotEqual
    (at 4 48) (sum_of (at 4 51) (primary.Null (at 4 51))))) (at 4 56) (sole (at 4 61) (assign_of (at 4 61) "B"
    (suffix.Selected (at 4 62) (id (at 4 63) "Value") ∷ []) (at 4 69) (expr_of (at 4 72) (object (at 4 72) "N")) (at 4
    73))) [] (at 4 75) (at 4 79) (at 4 81))) (at 4 83) (at 4 86)) (assign_of (at 4 88) "X" [] (at 4 90) (expr_of (at 4
    93) (primary.AllocatedAggregate (at 4 93) (mark (at 4 97) "Cell") (at 4 101) (aggregate.Several (at 4 102)
    (actual_of (at 4 103) (object (at 4 103) "N")) (at 4 104) (actual_of (at 4 106) (primary.Null (at 4 106))) [] (at 4
    110)))) (at 4 111) ∷ stmt.For (at 5 1) (id (at 5 5) "I") (at 5 7) None (range.Bounds (at 5 10) (expr_of (at 5 10)
    (primary.Number (at 5 10) 1)) (at 5 12) (expr_of (at 5 15) (primary.Number (at 5 15) 3))) (at 5 17) (sole (at 5 22)
    (assign_of (at 5 22) "N" [] (at 5 24) (expr.LoneRelation (at 5 27) (rel.LoneSum (at 5 27) (sum.Unsigned (at 5 27)
    (term_of (at 5 27) (object (at 5 27) "N")) (next_term.FurtherTerm (at 5 29) adding.Add (term_of (at 5 31) (object
    (at 5 31) "I")) ∷ [])))) (at 5 32))) (at 5 34) (at 5 38) (at 5 42) ∷ [])) (at 6 1) (Some (id (at 6 5) "Main")) (at 6
    9)) ∷ unit.OfPackage (at 6 11) (context.With (at 6 11) (dotted_of (id (at 6 16) "Ada") (next_part.FurtherPart (at 6
    19) (id (at 6 20) "Text_IO") ∷ next_part.FurtherPart (at 6 27) (id (at 6 28) "Put") ∷ [])) [] (at 6 31) ∷ [])
    (package_of (at 6 33) (id (at 6 41) "Spare_R") None (at 6 49) (decl.OfItem (at 6 52) (objects_of (id (at 6 52)
    "Spare_Z") [] (at 6 60) None (indication_of (mark (at 6 62) "Integer")) (at 6 69)) ∷ []) None (at 6 71) (Some (id
    (at 6 75) "Spare_R")) (at 6 82)) ∷ []) ∷ [])
unfolding computes resolves
wrong_in_with_5 = refl

wrong_in_with_6 : IsFirstBrokenOf Unknown (at 43 12) ((unit.OfSubprogram (at 1 1) (context.With (at 1 1) (selected (at 1
    6) "Ada" (at 1 9) (at 1 10) "Text_IO") [] (at 1 17) ∷ use_context (use_of (at 1 19) None (selected (at 1 23) "Ada"
    (at 1 26) (at 1 27) "Text_IO") [] (at 1 34)) ∷ context.With (at 2 7) (selected (at 2 12) "Ada" (at 2 15) (at 2 16)
    "Integer_Text_IO") [] (at 2 31) ∷ use_context (use_of (at 2 33) None (selected (at 2 37) "Ada" (at 2 40) (at 2 41)
    "Integer_Text_IO") [] (at 2 56)) ∷ context.With (at 3 4) (selected (at 3 9) "Ada" (at 3 12) (at 3 13)
    "Unchecked_Deallocation") [] (at 3 35) ∷ []) (subprogram_of (at 4 1) (subspec.Procedure (at 4 1) (id (at 4 11)
    "Main") None) None (at 4 16) (item.ArrayType (at 5 4) (id (at 5 9) "A1") (at 5 12) (at 5 15) (at 5 21) (range.Bounds
    (at 5 22) (expr_of (at 5 22) (primary.Number (at 5 22) 1)) (at 5 24) (expr_of (at 5 27) (primary.Number (at 5 27)
    3))) (at 5 28) (at 5 30) (mark (at 5 33) "Integer") (at 5 40) ∷ initialized_of (id (at 6 1) "V1") [] (at 6 4) None
    (indication_of (mark (at 6 6) "Integer")) (at 6 14) (expr_of (at 6 17) (primary.Parenthesized (at 6 17)
    (expr.LoneRelation (at 6 18) (rel.LoneSum (at 6 18) (sum.Unsigned (at 6 18) (term_of (at 6 18) (primary.Number (at 6
    18) 8)) (next_term.FurtherTerm (at 6 20) adding.Add (term_of (at 6 22) (primary.Number (at 6 22) 5)) ∷ [])))) (at 6
    23))) (at 6 24) ∷ numbers_of (id (at 7 1) "K1") [] (at 7 4) (at 7 6) (at 7 15) (expr_of (at 7 18) (primary.Number
    (at 7 18) 5)) (at 7 19) ∷ objects_of (id (at 8 1) "T1") [] (at 8 4) None (indication_of (mark (at 8 6) "Integer"))
    (at 8 13) ∷ []) (at 9 1) (stmts.Sequence (at 10 7) (assign_of (at 10 7) "V1" [] (at 10 10) (expr_of (at 10 13)
    (named (at 10 13) "Positive" (suffix.Attribute (at 10 21) (id (at 10 22) "First") ∷ []))) (at 10 27)) (assign_of (at
    11 1) "T1" [] (at 11 4) (expr.LoneRelation (at 11 7) (rel.LoneSum (at 11 7) (sum.Unsigned (at 11 7) (term.Product
    (at 11 7) (factor.Abs (at 11 7) (object (at 11 11) "K1")) []) []))) (at 11 13) ∷ stmt.DeclareBlock (at 12 1)
    (initialized_of (id (at 13 7) "V2") [] (at 13 10) None (indication_of (mark (at 13 12) "Boolean")) (at 13 20)
    (expr_of (at 13 23) (object (at 13 23) "End_Of_File")) (at 13 34) ∷ initialized_of (id (at 14 7) "V3") [] (at 14 10)
    None (indication_of (mark (at 14 12) "Boolean")) (at 14 20) (expr.LoneRelation (at 14 23) (rel.Compared (at 14 23)
    (sum_of (at 14 23) (primary.Number (at 14 23) 2147483647)) relational.Less (at 14 34) (sum_of (at 14 36)
    (primary.Number (at 14 36) 9)))) (at 14 37) ∷ []) (at 15 1) (sole (at 16 7) (stmt.For (at 16 7) (id (at 16 11) "I1")
    (at 16 14) None (constrained_of (mark (at 16 17) "Boolean") (at 16 25) (expr_of (at 16 31) (object (at 16 31)
    "False")) (at 16 37) (expr_of (at 16 40) (object (at 16 40) "True"))) (at 16 45) (sole (at 17 1) (stmt.Case (at 17
    1) (expr_of (at 17 6) (primary.Number (at 17 6) 30)) (at 17 9) (alternative.Alternative (at 18 4) (choice.Value (at
    18 9) (expr_of (at 18 9) (primary.Number (at 18 9) 7))) (next_choice.Bar (at 18 11) (choice.Value (at 18 13)
    (expr_of (at 18 13) (primary.Number (at 18 13) 8))) ∷ []) (at 18 15) (sole (at 19 1) (stmt.For (at 19 1) (id (at 19
    5) "I2") (at 19 8) None (constrained_of (mark (at 19 11) "Boolean") (at 19 19) (expr_of (at 19 25) (object (at 19
    25) "False")) (at 19 31) (expr_of (at 19 34) (object (at 19 34) "True"))) (at 19 39) (sole (at 20 1) (stmt.Exit (at
    20 1) (at 20 5))) (at 21 7) (at 21 11) (at 21 15)))) (alternative.Alternative (at 22 4) (choice.Value (at 22 9)
    (expr_of (at 22 9) (primary.Number (at 22 9) 4))) [] (at 22 11) (sole (at 23 4) (stmt.Case (at 23 4)
    (expr.LoneRelation (at 23 9) (rel.LoneSum (at 23 9) (sum.Unsigned (at 23 9) (term.Product (at 23 9) (factor_of (at
    23 9) (object (at 23 9) "T1")) (next_factor.FurtherFactor (at 23 12) multiplying.Modulo (factor_of (at 23 16)
    (primary.Number (at 23 16) 5)) ∷ [])) (next_term.FurtherTerm (at 23 18) adding.Add (term_of (at 23 20)
    (primary.Number (at 23 20) 1)) ∷ [])))) (at 23 22) (alternative.Alternative (at 24 1) (choice.Value (at 24 6)
    (expr_of (at 24 6) (primary.Number (at 24 6) 7))) [] (at 24 8) (sole (at 25 1) (stmt.ExitWhen (at 25 1) (at 25 6)
    (expr.LoneRelation (at 25 11) (rel.LoneSum (at 25 11) (sum.Unsigned (at 25 11) (term.Product (at 25 11) (factor.Not
    (at 25 11) (primary.Parenthesized (at 25 15) (expr.LoneRelation (at 25 16) (rel.Compared (at 25 16) (sum_of (at 25
    16) (primary.Number (at 25 16) 7)) relational.LessEqual (at 25 18) (sum_of (at 25 21) (object (at 25 21) "T1"))))
    (at 25 23))) []) []))) (at 25 24)))) (alternative.Alternative (at 26 7) (choice.Value (at 26 12) (expr_of (at 26 12)
    (primary.Number (at 26 12) 3))) [] (at 26 14) (sole (at 27 1) (stmt.Null (at 27 1) (at 27 5))) ∷
    alternative.Alternative (at 28 1) (choice.Value (at 28 6) (expr_of (at 28 6) (primary.Number (at 28 6) 1))) [] (at
    28 8) (sole (at 29 7) (stmt.Null (at 29 7) (at 29 11))) ∷ alternative.Alternative (at 30 1) (choice.Others (at 30
    6)) [] (at 30 13) (sole (at 31 7) (assign_of (at 31 7) "V1" [] (at 31 10) (expr_of (at 31 13) (object (at 31 13)
    "K1")) (at 31 15))) ∷ []) (at 32 7) (at 32 11) (at 32 15))) ∷ alternative.Alternative (at 33 1) (choice.Others (at
    33 6)) [] (at 33 13) (stmts.Sequence (at 34 1) (assign_of (at 34 1) "T1" [] (at 34 4) (expr_of (at 34 7)
    (primary.Number (at 34 7) 0)) (at 34 8)) (stmt.While (at 35 1) (expr.LoneRelation (at 35 7) (rel.Compared (at 35 7)
    (sum_of (at 35 7) (object (at 35 7) "T1")) relational.Less (at 35 10) (sum_of (at 35 12) (primary.Number (at 35 12)
    1)))) (at 35 14) (stmts.Sequence (at 36 1) (assign_of (at 36 1) "V3" [] (at 36 4) (expr.LoneRelation (at 36 7)
    (rel.Compared (at 36 7) (sum_of (at 36 7) (primary.Number (at 36 7) 34)) relational.Equal (at 36 10) (sum_of (at 36
    12) (primary.Number (at 36 12) 2147483647)))) (at 36 22)) (assign_of (at 37 7) "T1" [] (at 37 10) (expr.LoneRelation
    (at 37 13) (rel.LoneSum (at 37 13) (sum.Unsigned (at 37 13) (term_of (at 37 13) (object (at 37 13) "T1"))
    (next_term.FurtherTerm (at 37 16) adding.Add (term_of (at 37 18) (primary.Number (at 37 18) 1)) ∷ [])))) (at 37 19)
    ∷ [])) (at 38 1) (at 38 5) (at 38 9) ∷ [])) ∷ []) (at 39 7) (at 39 11) (at 39 15))) (at 40 7) (at 40 11) (at 40
    15))) (at 41 1) (at 41 4) ∷ [])) (at 42 4) (Some (id (at 42 8) "Main")) (at 42 12)) ∷ unit.OfPackage (at 43 7)
    (context.With (at 43 7) (selected (at 43 12) "Ada" (at 43 15) (at 43 16) "Latest_What") [] (at 43 27) ∷ [])
    (package_of (at 43 29) (id (at 43 37) "Latest_R") None (at 43 46) (decl.OfItem (at 43 49) (objects_of (id (at 43 49)
    "Latest_Z") [] (at 43 58) None (indication_of (mark (at 43 60) "Integer")) (at 43 67)) ∷ []) None (at 43 69) (Some
    (id (at 43 73) "Latest_R")) (at 43 81)) ∷ []) ∷ [])
unfolding computes resolves
wrong_in_with_6 = refl

-- What stands in a use is no package.
wrong_in_use_1 : IsFirstBrokenOf Unknown (at 7 59) ((unit.OfSubprogram (at 1 1) (context.With (at 1 1) (selected (at 1
    6) "Ada" (at 1 9) (at 1 10) "Text_IO") [] (at 1 17) ∷ use_context (use_of (at 1 19) None (selected (at 1 23) "Ada"
    (at 1 26) (at 1 27) "Text_IO") [] (at 1 34)) ∷ context.With (at 1 36) (selected (at 1 41) "Ada" (at 1 44) (at 1 45)
    "Integer_Text_IO") [] (at 1 60) ∷ use_context (use_of (at 1 62) None (selected (at 1 66) "Ada" (at 1 69) (at 1 70)
    "Integer_Text_IO") [] (at 1 85)) ∷ context.With (at 1 87) (selected (at 1 92) "Ada" (at 1 95) (at 1 96)
    "Unchecked_Deallocation") [] (at 1 118) ∷ []) (subprogram_of (at 2 1) (subspec.Procedure (at 2 1) (id (at 2 11)
    "Main") None) None (at 2 16) (item.IncompleteType (at 3 1) (id (at 3 6) "Cell") (at 3 10) ∷ item.AccessType (at 4 1)
    (id (at 4 6) "List") (at 4 11) (at 4 14) (mark (at 4 21) "Cell") (at 4 25) ∷ item.RecordType (at 5 1) (id (at 5 6)
    "Cell") (at 5 11) (at 5 14) (fields_of (id (at 5 21) "Value") [] (at 5 27) (mark (at 5 29) "Integer") (at 5 36))
    (fields_of (id (at 5 38) "Next") [] (at 5 43) (mark (at 5 45) "List") (at 5 49) ∷ []) (at 5 51) (at 5 55) (at 5 61)
    ∷ objects_of (id (at 6 1) "X") (next_id_of (at 6 2) (at 6 4) "Y" ∷ []) (at 6 6) None (indication_of (mark (at 6 8)
    "List")) (at 6 12) ∷ initialized_of (id (at 7 1) "N") [] (at 7 3) None (indication_of (mark (at 7 5) "Integer")) (at
    7 13) (expr_of (at 7 16) (primary.Number (at 7 16) 7)) (at 7 17) ∷ item.EnumerationType (at 7 19) (id (at 7 24)
    "Plain_T") (at 7 32) (at 7 35) (id (at 7 36) "Plain_A") (next_id_of (at 7 43) (at 7 45) "Plain_B" ∷ []) (at 7 52)
    (at 7 53) ∷ use_item (use_of (at 7 55) None (mark (at 7 59) "Plain_T") [] (at 7 66)) ∷ []) (at 8 1) (stmts.Sequence
    (at 9 1) (assign_of (at 9 1) "N" [] (at 9 3) (expr.LoneRelation (at 9 6) (rel.LoneSum (at 9 6) (sum.Unsigned (at 9
    6) (term.Product (at 9 6) (factor_of (at 9 6) (object (at 9 6) "N")) (next_factor.FurtherFactor (at 9 8)
    multiplying.Multiply (factor_of (at 9 10) (primary.Number (at 9 10) 2)) ∷ [])) (next_term.FurtherTerm (at 9 12)
    adding.Add (term_of (at 9 14) (primary.Number (at 9 14) 1)) ∷ [])))) (at 9 15)) (stmt.IfElse (at 10 1)
    (expr.LoneRelation (at 10 4) (rel.Compared (at 10 4) (sum_of (at 10 4) (object (at 10 4) "N")) relational.Greater
    (at 10 6) (sum_of (at 10 8) (primary.Number (at 10 8) 3)))) (at 10 10) (sole (at 10 15) (assign_of (at 10 15) "N" []
    (at 10 17) (expr.LoneRelation (at 10 20) (rel.LoneSum (at 10 20) (sum.Unsigned (at 10 20) (term_of (at 10 20)
    (object (at 10 20) "N")) (next_term.FurtherTerm (at 10 22) adding.Subtract (term_of (at 10 24) (primary.Number (at
    10 24) 1)) ∷ [])))) (at 10 25))) [] (at 10 27) (sole (at 10 32) (stmt.Null (at 10 32) (at 10 36))) (at 10 38) (at 10
    42) (at 10 44) ∷ [])) (at 11 1) (Some (id (at 11 5) "Main")) (at 11 9)) ∷ []) ∷ [])
unfolding computes resolves
wrong_in_use_1 = refl

wrong_in_use_2 : IsFirstBrokenOf Unknown (at 6 18) ((unit.OfSubprogram (at 1 1) (context.With (at 1 1) (selected (at 1
    6) "Ada" (at 1 9) (at 1 10) "Text_IO") [] (at 1 17) ∷ use_context (use_of (at 1 19) None (selected (at 1 23) "Ada"
    (at 1 26) (at 1 27) "Text_IO") [] (at 1 34)) ∷ context.With (at 1 36) (selected (at 1 41) "Ada" (at 1 44) (at 1 45)
    "Integer_Text_IO") [] (at 1 60) ∷ use_context (use_of (at 1 62) None (selected (at 1 66) "Ada" (at 1 69) (at 1 70)
    "Integer_Text_IO") [] (at 1 85)) ∷ context.With (at 1 87) (selected (at 1 92) "Ada" (at 1 95) (at 1 96)
    "Unchecked_Deallocation") [] (at 1 118) ∷ []) (subprogram_of (at 2 1) (subspec.Procedure (at 2 1) (id (at 2 11)
    "Main") None) None (at 2 16) (item.IncompleteType (at 3 1) (id (at 3 6) "Cell") (at 3 10) ∷ item.AccessType (at 4 1)
    (id (at 4 6) "List") (at 4 11) (at 4 14) (mark (at 4 21) "Cell") (at 4 25) ∷ item.RecordType (at 5 1) (id (at 5 6)
    "Cell") (at 5 11) (at 5 14) (fields_of (id (at 5 21) "Value") [] (at 5 27) (mark (at 5 29) "Integer") (at 5 36))
    (fields_of (id (at 5 38) "Next") [] (at 5 43) (mark (at 5 45) "List") (at 5 49) ∷ []) (at 5 51) (at 5 55) (at 5 61)
    ∷ objects_of (id (at 6 1) "X") (next_id_of (at 6 2) (at 6 4) "Y" ∷ []) (at 6 6) None (indication_of (mark (at 6 8)
    "List")) (at 6 12) ∷ use_item (use_of (at 6 14) None (mark (at 6 18) "Integer") [] (at 6 25)) ∷ initialized_of (id
    (at 7 1) "N") [] (at 7 3) None (indication_of (mark (at 7 5) "Integer")) (at 7 13) (expr_of (at 7 16)
    (primary.Number (at 7 16) 5)) (at 7 17) ∷ item.Instance (at 7 19) (id (at 7 29) "Free") (at 7 34) (at 7 37)
    (selected (at 7 41) "Ada" (at 7 44) (at 7 45) "Unchecked_Deallocation") (at 7 68) (actual_of (at 7 69) (object (at 7
    69) "Cell")) (next_arg.FurtherArg (at 7 73) (actual_of (at 7 75) (object (at 7 75) "List")) ∷ []) (at 7 79) (at 7
    80) ∷ []) (at 7 82) (stmts.Sequence (at 7 88) (stmt.If (at 7 88) (expr.LoneRelation (at 7 91) (rel.LoneSum (at 7 91)
    (sum.Unsigned (at 7 91) (term.Product (at 7 91) (factor.Not (at 7 91) (object (at 7 95) "End_Of_File")) []) [])))
    (at 7 107) (sole (at 7 112) (call_of (at 7 112) "Get" (suffix.Applied (at 7 116) (actual_of (at 7 117) (object (at 7
    117) "N")) [] (at 7 118) ∷ []) (at 7 119))) [] (at 7 121) (at 7 125) (at 7 127)) (assign_of (at 8 1) "X" [] (at 8 3)
    (expr_of (at 8 6) (primary.AllocatedAggregate (at 8 6) (mark (at 8 10) "Cell") (at 8 14) (aggregate.Several (at 8
    15) (actual_of (at 8 16) (object (at 8 16) "N")) (at 8 17) (actual_of (at 8 19) (primary.Null (at 8 19))) [] (at 8
    23)))) (at 8 24) ∷ [])) (at 9 1) (Some (id (at 9 5) "Main")) (at 9 9)) ∷ []) ∷ [])
unfolding computes resolves
wrong_in_use_2 = refl

wrong_in_use_3 : IsFirstBrokenOf Unknown (at 4 54) ((unit.OfSubprogram (at 1 4) (context.With (at 1 4) (selected (at 1
    9) "Ada" (at 1 12) (at 1 13) "Text_IO") [] (at 1 20) ∷ use_context (use_of (at 1 22) None (selected (at 1 26) "Ada"
    (at 1 29) (at 1 30) "Text_IO") [] (at 1 37)) ∷ context.With (at 1 39) (selected (at 1 44) "Ada" (at 1 47) (at 1 48)
    "Integer_Text_IO") [] (at 1 63) ∷ use_context (use_of (at 1 65) None (selected (at 1 69) "Ada" (at 1 72) (at 1 73)
    "Integer_Text_IO") [] (at 1 88)) ∷ context.With (at 1 90) (selected (at 1 95) "Ada" (at 1 98) (at 1 99)
    "Unchecked_Deallocation") [] (at 1 121) ∷ []) (subprogram_of (at 2 1) (subspec.Procedure (at 2 1) (id (at 2 11)
    "Main") None) None (at 2 16) (item.IncompleteType (at 3 1) (id (at 3 6) "Cell") (at 3 10) ∷ item.AccessType (at 4 4)
    (id (at 4 9) "List") (at 4 14) (at 4 17) (mark (at 4 24) "Cell") (at 4 28) ∷ objects_of (id (at 4 30) "Latest_X") []
    (at 4 39) None (indication_of (mark (at 4 41) "Integer")) (at 4 48) ∷ use_item (use_of (at 4 50) None (mark (at 4
    54) "Latest_X") [] (at 4 62)) ∷ item.RecordType (at 5 1) (id (at 5 6) "Cell") (at 5 11) (at 5 14) (fields_of (id (at
    5 21) "Value") [] (at 5 27) (mark (at 5 29) "Integer") (at 5 36)) (fields_of (id (at 5 38) "Next") [] (at 5 43)
    (mark (at 5 45) "List") (at 5 49) ∷ []) (at 5 51) (at 5 55) (at 5 61) ∷ objects_of (id (at 6 1) "X") (next_id_of (at
    6 2) (at 6 4) "Y" ∷ []) (at 6 6) None (indication_of (mark (at 6 8) "List")) (at 6 12) ∷ initialized_of (id (at 7 1)
    "N") [] (at 7 3) None (indication_of (mark (at 7 5) "Integer")) (at 7 13) (expr_of (at 7 16) (primary.Number (at 7
    16) 9)) (at 7 17) ∷ item.Instance (at 8 1) (id (at 8 11) "Free") (at 8 16) (at 8 19) (selected (at 8 23) "Ada" (at 8
    26) (at 8 27) "Unchecked_Deallocation") (at 8 50) (actual_of (at 8 51) (object (at 8 51) "Cell"))
    (next_arg.FurtherArg (at 8 55) (actual_of (at 8 57) (object (at 8 57) "List")) ∷ []) (at 8 61) (at 8 62) ∷ []) (at 9
    7) (stmts.Sequence (at 10 1) (call_of (at 10 1) "Put_Line" (suffix.Applied (at 10 10) (actual_of (at 10 11) (named
    (at 10 11) "Integer" (suffix.Attribute (at 10 18) (id (at 10 19) "Image") ∷ suffix.Applied (at 10 25) (actual_of (at
    10 26) (object (at 10 26) "N")) [] (at 10 27) ∷ []))) [] (at 10 28) ∷ []) (at 10 29)) (assign_of (at 11 7) "Y" []
    (at 11 9) (expr_of (at 11 12) (object (at 11 12) "X")) (at 11 13) ∷ assign_of (at 11 15) "X" [] (at 11 17) (expr_of
    (at 11 20) (primary.Null (at 11 20))) (at 11 24) ∷ assign_of (at 12 1) "X" [] (at 12 3) (expr_of (at 12 6)
    (primary.AllocatedAggregate (at 12 6) (mark (at 12 10) "Cell") (at 12 14) (aggregate.Several (at 12 15) (actual_of
    (at 12 16) (object (at 12 16) "N")) (at 12 17) (actual_of (at 12 19) (primary.Null (at 12 19))) [] (at 12 23)))) (at
    12 24) ∷ [])) (at 13 4) (Some (id (at 13 8) "Main")) (at 13 12)) ∷ []) ∷ [])
unfolding computes resolves
wrong_in_use_3 = refl

wrong_in_use_4 : IsFirstBrokenOf Unknown (at 6 31) ((unit.OfSubprogram (at 1 7) (context.With (at 1 7) (selected (at 1
    12) "Ada" (at 1 15) (at 1 16) "Text_IO") [] (at 1 23) ∷ use_context (use_of (at 1 25) None (selected (at 1 29) "Ada"
    (at 1 32) (at 1 33) "Text_IO") [] (at 1 40)) ∷ context.With (at 1 42) (selected (at 1 47) "Ada" (at 1 50) (at 1 51)
    "Integer_Text_IO") [] (at 1 66) ∷ use_context (use_of (at 1 68) None (selected (at 1 72) "Ada" (at 1 75) (at 1 76)
    "Integer_Text_IO") [] (at 1 91)) ∷ context.With (at 1 93) (selected (at 1 98) "Ada" (at 1 101) (at 1 102)
    "Unchecked_Deallocation") [] (at 1 124) ∷ []) (subprogram_of (at 2 1) (subspec.Procedure (at 2 1) (id (at 2 11)
    "Main") None) None (at 2 16) (item.IncompleteType (at 3 7) (id (at 3 12) "Cell") (at 3 16) ∷ item.AccessType (at 4
    7) (id (at 4 12) "List") (at 4 17) (at 4 20) (mark (at 4 27) "Cell") (at 4 31) ∷ item.RecordType (at 5 4) (id (at 5
    9) "Cell") (at 5 14) (at 5 17) (fields_of (id (at 5 24) "Value") [] (at 5 30) (mark (at 5 32) "Integer") (at 5 39))
    (fields_of (id (at 5 41) "Next") [] (at 5 46) (mark (at 5 48) "List") (at 5 52) ∷ []) (at 5 54) (at 5 58) (at 5 64)
    ∷ objects_of (id (at 6 1) "X") (next_id_of (at 6 2) (at 6 4) "Y" ∷ []) (at 6 6) None (indication_of (mark (at 6 8)
    "List")) (at 6 12) ∷ use_item (use_of (at 6 14) None (selected (at 6 18) "Ada" (at 6 21) (at 6 22) "Text_IO")
    (next_dotted.FurtherDotted (at 6 29) (mark (at 6 31) "Minor_What") ∷ []) (at 6 41)) ∷ initialized_of (id (at 7 7)
    "N") [] (at 7 9) None (indication_of (mark (at 7 11) "Integer")) (at 7 19) (expr_of (at 7 22) (primary.Number (at 7
    22) 8)) (at 7 23) ∷ []) (at 8 1) (stmts.Sequence (at 9 4) (stmt.If (at 9 4) (expr.LoneRelation (at 9 7) (rel.LoneSum
    (at 9 7) (sum.Unsigned (at 9 7) (term.Product (at 9 7) (factor.Not (at 9 7) (object (at 9 11) "End_Of_File")) [])
    []))) (at 9 23) (sole (at 9 28) (call_of (at 9 28) "Get" (suffix.Applied (at 9 32) (actual_of (at 9 33) (object (at
    9 33) "N")) [] (at 9 34) ∷ []) (at 9 35))) [] (at 9 37) (at 9 41) (at 9 43)) (stmt.DeclareBlock (at 10 1)
    (initialized_of (id (at 10 9) "B") [] (at 10 11) None (indication.Anonymous (at 10 13) None (mark (at 10 20)
    "Cell")) (at 10 25) (expr_of (at 10 28) (object (at 10 28) "X")) (at 10 29) ∷ []) (at 10 31) (sole (at 10 37)
    (stmt.If (at 10 37) (expr.LoneRelation (at 10 40) (rel.Compared (at 10 40) (sum_of (at 10 40) (object (at 10 40)
    "B")) relational.NotEqual (at 10 42) (sum_of (at 10 45) (primary.Null (at 10 45))))) (at 10 50) (sole (at 10 55)
    (assign_of (at 10 55) "B" (suffix.Selected (at 10 56) (id (at 10 57) "Value") ∷ []) (at 10 63) (expr_of (at 10 66)
    (object (at 10 66) "N")) (at 10 67))) [] (at 10 69) (at 10 73) (at 10 75))) (at 10 77) (at 10 80) ∷ stmt.IfElse (at
    11 4) (expr.LoneRelation (at 11 7) (rel.Compared (at 11 7) (sum_of (at 11 7) (object (at 11 7) "N"))
    relational.Greater (at 11 9) (sum_of (at 11 11) (primary.Number (at 11 11) 3)))) (at 11 13) (sole (at 11 18)
    (assign_of (at 11 18) "N" [] (at 11 20) (expr.LoneRelation (at 11 23) (rel.LoneSum (at 11 23) (sum.Unsigned (at 11
    23) (term_of (at 11 23) (object (at 11 23) "N")) (next_term.FurtherTerm (at 11 25) adding.Subtract (term_of (at 11
    27) (primary.Number (at 11 27) 1)) ∷ [])))) (at 11 28))) [] (at 11 30) (sole (at 11 35) (stmt.Null (at 11 35) (at 11
    39))) (at 11 41) (at 11 45) (at 11 47) ∷ [])) (at 12 7) (Some (id (at 12 11) "Main")) (at 12 15)) ∷ []) ∷ [])
unfolding computes resolves
wrong_in_use_4 = refl

wrong_in_use_5 : IsFirstBrokenOf Unknown (at 5 42) ((unit.OfSubprogram (at 1 1) (context.With (at 1 1) (selected (at 1
    6) "Ada" (at 1 9) (at 1 10) "Text_IO") [] (at 1 17) ∷ use_context (use_of (at 1 19) None (selected (at 1 23) "Ada"
    (at 1 26) (at 1 27) "Text_IO") [] (at 1 34)) ∷ context.With (at 2 1) (selected (at 2 6) "Ada" (at 2 9) (at 2 10)
    "Integer_Text_IO") [] (at 2 25) ∷ use_context (use_of (at 2 27) None (selected (at 2 31) "Ada" (at 2 34) (at 2 35)
    "Integer_Text_IO") [] (at 2 50)) ∷ context.With (at 3 7) (selected (at 3 12) "Ada" (at 3 15) (at 3 16)
    "Unchecked_Deallocation") [] (at 3 38) ∷ []) (subprogram_of (at 4 4) (subspec.Procedure (at 4 4) (id (at 4 14)
    "Main") None) None (at 4 19) (item.ConstrainedSubtype (at 5 1) (id (at 5 9) "S1") (at 5 12) (mark (at 5 15)
    "Positive") (at 5 24) (expr_of (at 5 30) (primary.Number (at 5 30) 4)) (at 5 32) (expr_of (at 5 35) (primary.Number
    (at 5 35) 6)) (at 5 36) ∷ use_item (use_of (at 5 38) None (selected (at 5 42) "Ada" (at 5 45) (at 5 46)
    "Unchecked_Deallocation") [] (at 5 68)) ∷ item.IncompleteType (at 6 4) (id (at 6 9) "Node1") (at 6 14) ∷
    item.AccessType (at 7 4) (id (at 7 9) "Tree1") (at 7 15) (at 7 18) (mark (at 7 25) "Node1") (at 7 30) ∷
    item.RecordType (at 8 7) (id (at 8 12) "Node1") (at 8 18) (at 8 21) (fields_of (id (at 8 28) "Key1") [] (at 8 33)
    (mark (at 8 35) "Integer") (at 8 42)) (fields_of (id (at 8 44) "Left1") [] (at 8 50) (mark (at 8 52) "Tree1") (at 8
    57) ∷ fields_of (id (at 8 59) "Right1") [] (at 8 66) (mark (at 8 68) "Tree1") (at 8 73) ∷ []) (at 8 75) (at 8 79)
    (at 8 85) ∷ item.Instance (at 9 4) (id (at 9 14) "Free1") (at 9 20) (at 9 23) (selected (at 9 27) "Ada" (at 9 30)
    (at 9 31) "Unchecked_Deallocation") (at 9 54) (actual_of (at 9 55) (object (at 9 55) "Node1")) (next_arg.FurtherArg
    (at 9 60) (actual_of (at 9 62) (object (at 9 62) "Tree1")) ∷ []) (at 9 67) (at 9 68) ∷ initialized_of (id (at 10 4)
    "V1") [] (at 10 7) None (indication_of (mark (at 10 9) "S1")) (at 10 12) (expr.LoneRelation (at 10 15) (rel.LoneSum
    (at 10 15) (sum.Unsigned (at 10 15) (term.Product (at 10 15) (factor_of (at 10 15) (primary.Number (at 10 15) 9))
    (next_factor.FurtherFactor (at 10 17) multiplying.Modulo (factor_of (at 10 21) (primary.Number (at 10 21) 3)) ∷ []))
    (next_term.FurtherTerm (at 10 23) adding.Add (term_of (at 10 25) (primary.Number (at 10 25) 4)) ∷ [])))) (at 10 26)
    ∷ objects_of (id (at 11 4) "V2") (next_id_of (at 11 6) (at 11 8) "V3" ∷ []) (at 11 11) None (indication_of (mark (at
    11 13) "Tree1")) (at 11 18) ∷ initialized_of (id (at 12 1) "V4") [] (at 12 4) None (indication_of (mark (at 12 6)
    "Integer")) (at 12 14) (expr_of (at 12 17) (primary.Number (at 12 17) 0)) (at 12 18) ∷ []) (at 13 4) (stmts.Sequence
    (at 14 4) (stmt.If (at 14 4) (expr.AndThen (at 14 7) (rel.Compared (at 14 7) (sum_of (at 14 7) (object (at 14 7)
    "V3")) relational.NotEqual (at 14 10) (sum_of (at 14 13) (primary.Null (at 14 13)))) (at 14 18) (at 14 22)
    (rel.Compared (at 14 27) (sum_of (at 14 27) (named (at 14 27) "V3" (suffix.Selected (at 14 29) (id (at 14 30)
    "Left1") ∷ []))) relational.NotEqual (at 14 36) (sum_of (at 14 39) (primary.Null (at 14 39)))) []) (at 14 44) (sole
    (at 15 7) (assign_of (at 15 7) "V3" (suffix.Dereferenced (at 15 9) (at 15 10) ∷ []) (at 15 14) (expr_of (at 15 17)
    (named (at 15 17) "V3" (suffix.Selected (at 15 19) (id (at 15 20) "Left1") ∷ suffix.Dereferenced (at 15 25) (at 15
    26) ∷ []))) (at 15 29))) [] (at 16 4) (at 16 8) (at 16 10)) (stmt.If (at 17 1) (expr.LoneRelation (at 17 4)
    (rel.Compared (at 17 4) (sum_of (at 17 4) (object (at 17 4) "V2")) relational.NotEqual (at 17 7) (sum_of (at 17 10)
    (primary.Null (at 17 10))))) (at 17 15) (sole (at 18 1) (call_of (at 18 1) "Free1" (suffix.Applied (at 18 7)
    (actual_of (at 18 8) (named (at 18 8) "V2" (suffix.Selected (at 18 10) (id (at 18 11) "Left1") ∷ []))) [] (at 18 16)
    ∷ []) (at 18 17))) [] (at 19 1) (at 19 5) (at 19 7) ∷ stmt.If (at 20 4) (expr.LoneRelation (at 20 7) (rel.Compared
    (at 20 7) (sum_of (at 20 7) (object (at 20 7) "V2")) relational.NotEqual (at 20 10) (sum_of (at 20 13) (primary.Null
    (at 20 13))))) (at 20 18) (sole (at 21 1) (assign_of (at 21 1) "V2" (suffix.Selected (at 21 3) (id (at 21 4) "Key1")
    ∷ []) (at 21 9) (expr_of (at 21 12) (object (at 21 12) "V1")) (at 21 14))) [] (at 22 1) (at 22 5) (at 22 7) ∷
    stmt.DeclareBlock (at 23 4) (initialized_of (id (at 24 4) "V5") [] (at 24 7) None (indication_of (mark (at 24 9)
    "Node1")) (at 24 15) (expr_of (at 24 18) (primary.Aggregated (at 24 18) (aggregate.Several (at 24 18) (actual_of (at
    24 19) (named (at 24 19) "S1" (suffix.Attribute (at 24 21) (id (at 24 22) "First") ∷ []))) (at 24 27) (actual_of (at
    24 29) (primary.AllocatedAggregate (at 24 29) (mark (at 24 33) "Node1") (at 24 38) (aggregate.Several (at 24 39)
    (actual_of (at 24 40) (primary.Number (at 24 40) 26)) (at 24 42) (actual_of (at 24 44) (object (at 24 44) "V2"))
    (next_arg.FurtherArg (at 24 46) (actual_of (at 24 48) (object (at 24 48) "V3")) ∷ []) (at 24 50))))
    (next_arg.FurtherArg (at 24 51) (actual_of (at 24 53) (primary.AllocatedAggregate (at 24 53) (mark (at 24 57)
    "Node1") (at 24 62) (aggregate.Several (at 24 63) (association_of (id (at 24 64) "Left1") (at 24 70) (expr_of (at 24
    73) (primary.Null (at 24 73)))) (at 24 77) (association_of (id (at 24 79) "Key1") (at 24 84) (expr_of (at 24 87)
    (primary.Parenthesized (at 24 87) (expr.LoneRelation (at 24 88) (rel.LoneSum (at 24 88) (sum.Signed (at 24 88)
    sign.Minus (term_of (at 24 89) (primary.Number (at 24 89) 12)) []))) (at 24 91)))) (next_arg.FurtherArg (at 24 92)
    (association_of (id (at 24 94) "Right1") (at 24 101) (expr_of (at 24 104) (primary.Null (at 24 104)))) ∷ []) (at 24
    108)))) ∷ []) (at 24 109)))) (at 24 110) ∷ initialized_of (id (at 25 1) "V6") [] (at 25 4) None (indication_of (mark
    (at 25 6) "Tree1")) (at 25 12) (expr_of (at 25 15) (primary.Null (at 25 15))) (at 25 19) ∷ []) (at 26 1) (sole (at
    27 4) (stmt.If (at 27 4) (expr.LoneRelation (at 27 7) (rel.Compared (at 27 7) (sum_of (at 27 7) (named (at 27 7)
    "V5" (suffix.Selected (at 27 9) (id (at 27 10) "Left1") ∷ []))) relational.NotEqual (at 27 16) (sum_of (at 27 19)
    (primary.Null (at 27 19))))) (at 27 24) (sole (at 28 7) (assign_of (at 28 7) "V4" [] (at 28 10) (expr_of (at 28 13)
    (named (at 28 13) "V5" (suffix.Selected (at 28 15) (id (at 28 16) "Left1") ∷ suffix.Selected (at 28 21) (id (at 28
    22) "Key1") ∷ []))) (at 28 26))) [] (at 29 1) (at 29 5) (at 29 7))) (at 30 1) (at 30 4) ∷ assign_of (at 31 1) "V1"
    [] (at 31 4) (expr_of (at 31 7) (primary.Number (at 31 7) 5)) (at 31 8) ∷ assign_of (at 32 1) "V2" [] (at 32 4)
    (expr_of (at 32 7) (primary.AllocatedAggregate (at 32 7) (mark (at 32 11) "Node1") (at 32 16) (aggregate.Several (at
    32 17) (actual_of (at 32 18) (primary.Parenthesized (at 32 18) (expr.LoneRelation (at 32 19) (rel.LoneSum (at 32 19)
    (sum.Signed (at 32 19) sign.Minus (term_of (at 32 20) (primary.Number (at 32 20) 7)) []))) (at 32 21))) (at 32 22)
    (actual_of (at 32 24) (primary.Null (at 32 24))) (next_arg.FurtherArg (at 32 28) (actual_of (at 32 30)
    (primary.AllocatedAggregate (at 32 30) (mark (at 32 34) "Node1") (at 32 39) (aggregate.Several (at 32 40) (actual_of
    (at 32 41) (primary.Number (at 32 41) 4)) (at 32 42) (actual_of (at 32 44) (primary.Null (at 32 44)))
    (next_arg.FurtherArg (at 32 48) (actual_of (at 32 50) (primary.Null (at 32 50))) ∷ []) (at 32 54)))) ∷ []) (at 32
    55)))) (at 32 56) ∷ [])) (at 33 1) (Some (id (at 33 5) "Main")) (at 33 9)) ∷ []) ∷ [])
unfolding computes resolves
wrong_in_use_5 = refl

wrong_in_use_6 : IsFirstBrokenOf Unknown (at 3 16) ((unit.OfPackage (at 1 1) (context.With (at 1 1) (selected (at 1 6)
    "Ada" (at 1 9) (at 1 10) "Text_IO") [] (at 1 17) ∷ use_context (use_of (at 1 19) None (selected (at 1 23) "Ada" (at
    1 26) (at 1 27) "Text_IO") [] (at 1 34)) ∷ context.With (at 1 36) (selected (at 1 41) "Ada" (at 1 44) (at 1 45)
    "Integer_Text_IO") [] (at 1 60) ∷ use_context (use_of (at 1 62) None (selected (at 1 66) "Ada" (at 1 69) (at 1 70)
    "Integer_Text_IO") [] (at 1 85)) ∷ context.With (at 1 87) (selected (at 1 92) "Ada" (at 1 95) (at 1 96)
    "Unchecked_Deallocation") [] (at 1 118) ∷ []) (package_of (at 2 1) (id (at 2 9) "Store") None (at 2 15) (decl.OfItem
    (at 3 1) (item.IncompleteType (at 3 1) (id (at 3 6) "Cell") (at 3 10)) ∷ decl.OfItem (at 3 12) (use_item (use_of (at
    3 12) None (dotted_of (id (at 3 16) "Ada") (next_part.FurtherPart (at 3 19) (id (at 3 20) "Text_IO") ∷
    next_part.FurtherPart (at 3 27) (id (at 3 28) "Put_Line") ∷ [])) [] (at 3 36))) ∷ decl.OfItem (at 4 1)
    (item.AccessType (at 4 1) (id (at 4 6) "List") (at 4 11) (at 4 14) (mark (at 4 21) "Cell") (at 4 25)) ∷ decl.OfItem
    (at 5 1) (item.RecordType (at 5 1) (id (at 5 6) "Cell") (at 5 11) (at 5 14) (fields_of (id (at 5 21) "Value") [] (at
    5 27) (mark (at 5 29) "Integer") (at 5 36)) (fields_of (id (at 5 38) "Next") [] (at 5 43) (mark (at 5 45) "List")
    (at 5 49) ∷ []) (at 5 51) (at 5 55) (at 5 61)) ∷ decl.Subprogram (at 6 1) (subspec.Procedure (at 6 1) (id (at 6 11)
    "Push") (Some (formals_of (at 6 16) (moded_of (id (at 6 17) "L") [] (at 6 19) (Some (at 6 21)) (Some (at 6 24))
    (mark (at 6 28) "List")) (next_formal.Semicolon (at 6 32) (moded_of (id (at 6 34) "V") [] (at 6 36) None None (mark
    (at 6 38) "Integer")) ∷ []) (at 6 45)))) None (at 6 46) ∷ decl.Subprogram (at 7 1) (subspec.Function (at 7 1) (id
    (at 7 10) "Sum") (Some (formals_of (at 7 14) (moded_of (id (at 7 15) "L") [] (at 7 17) None None (mark (at 7 19)
    "List")) [] (at 7 23))) (at 7 25) (indication_of (mark (at 7 32) "Integer"))) None (at 7 39) ∷ decl.OfItem (at 8 1)
    (objects_of (id (at 8 1) "Total") [] (at 8 7) None (indication_of (mark (at 8 9) "Integer")) (at 8 16)) ∷ []) None
    (at 9 1) (Some (id (at 9 5) "Store")) (at 9 10)) ∷ unit.OfBody (at 10 1) [] (package_body_of (at 10 1) (at 10 9) (id
    (at 10 14) "Store") None (at 10 20) (part.Completed (at 11 1) (subprogram_of (at 11 1) (subspec.Procedure (at 11 1)
    (id (at 11 11) "Push") (Some (formals_of (at 11 16) (moded_of (id (at 11 17) "L") [] (at 11 19) (Some (at 11 21))
    (Some (at 11 24)) (mark (at 11 28) "List")) (next_formal.Semicolon (at 11 32) (moded_of (id (at 11 34) "V") [] (at
    11 36) None None (mark (at 11 38) "Integer")) ∷ []) (at 11 45)))) None (at 11 47) [] (at 12 1) (sole (at 13 1)
    (assign_of (at 13 1) "L" [] (at 13 3) (expr_of (at 13 6) (primary.AllocatedAggregate (at 13 6) (mark (at 13 10)
    "Cell") (at 13 14) (aggregate.Several (at 13 15) (actual_of (at 13 16) (object (at 13 16) "V")) (at 13 17)
    (actual_of (at 13 19) (object (at 13 19) "L")) [] (at 13 20)))) (at 13 21))) (at 14 1) (Some (id (at 14 5) "Push"))
    (at 14 9)) ∷ part.Completed (at 15 1) (subprogram_of (at 15 1) (subspec.Function (at 15 1) (id (at 15 10) "Sum")
    (Some (formals_of (at 15 14) (moded_of (id (at 15 15) "L") [] (at 15 17) None None (mark (at 15 19) "List")) [] (at
    15 23))) (at 15 25) (indication_of (mark (at 15 32) "Integer"))) None (at 15 40) (initialized_of (id (at 16 1) "C")
    [] (at 16 3) None (indication.Anonymous (at 16 5) (Some (at 16 12)) (mark (at 16 21) "Cell")) (at 16 26) (expr_of
    (at 16 29) (object (at 16 29) "L")) (at 16 30) ∷ initialized_of (id (at 17 1) "N") [] (at 17 3) None (indication_of
    (mark (at 17 5) "Integer")) (at 17 13) (expr_of (at 17 16) (primary.Number (at 17 16) 0)) (at 17 17) ∷ []) (at 18 1)
    (stmts.Sequence (at 19 1) (stmt.While (at 19 1) (expr.LoneRelation (at 19 7) (rel.Compared (at 19 7) (sum_of (at 19
    7) (object (at 19 7) "C")) relational.NotEqual (at 19 9) (sum_of (at 19 12) (primary.Null (at 19 12))))) (at 19 17)
    (stmts.Sequence (at 19 22) (assign_of (at 19 22) "N" [] (at 19 24) (expr.LoneRelation (at 19 27) (rel.LoneSum (at 19
    27) (sum.Unsigned (at 19 27) (term_of (at 19 27) (object (at 19 27) "N")) (next_term.FurtherTerm (at 19 29)
    adding.Add (term_of (at 19 31) (named (at 19 31) "C" (suffix.Selected (at 19 32) (id (at 19 33) "Value") ∷ []))) ∷
    [])))) (at 19 38)) (assign_of (at 19 40) "C" [] (at 19 42) (expr_of (at 19 45) (named (at 19 45) "C"
    (suffix.Selected (at 19 46) (id (at 19 47) "Next") ∷ []))) (at 19 51) ∷ [])) (at 19 53) (at 19 57) (at 19 61))
    (stmt.ReturnValue (at 20 1) (expr_of (at 20 8) (object (at 20 8) "N")) (at 20 9) ∷ [])) (at 21 1) (Some (id (at 21
    5) "Sum")) (at 21 8)) ∷ []) (at 22 1) (Some (id (at 22 5) "Store")) (at 22 10)) ∷ unit.OfSubprogram (at 23 1)
    (context.With (at 23 1) (selected (at 23 6) "Ada" (at 23 9) (at 23 10) "Text_IO") [] (at 23 17) ∷ use_context
    (use_of (at 23 19) None (selected (at 23 23) "Ada" (at 23 26) (at 23 27) "Text_IO") [] (at 23 34)) ∷ context.With
    (at 23 36) (selected (at 23 41) "Ada" (at 23 44) (at 23 45) "Integer_Text_IO") [] (at 23 60) ∷ use_context (use_of
    (at 23 62) None (selected (at 23 66) "Ada" (at 23 69) (at 23 70) "Integer_Text_IO") [] (at 23 85)) ∷ context.With
    (at 23 87) (selected (at 23 92) "Ada" (at 23 95) (at 23 96) "Unchecked_Deallocation") [] (at 23 118) ∷ context.With
    (at 23 120) (mark (at 23 125) "Store") [] (at 23 130) ∷ use_context (use_of (at 23 132) None (mark (at 23 136)
    "Store") [] (at 23 141)) ∷ []) (subprogram_of (at 24 1) (subspec.Procedure (at 24 1) (id (at 24 11) "Main") None)
    None (at 24 16) (objects_of (id (at 25 1) "X") (next_id_of (at 25 2) (at 25 4) "Y" ∷ []) (at 25 6) None
    (indication_of (mark (at 25 8) "List")) (at 25 12) ∷ initialized_of (id (at 26 1) "N") [] (at 26 3) None
    (indication_of (mark (at 26 5) "Integer")) (at 26 13) (expr_of (at 26 16) (primary.Number (at 26 16) 0)) (at 26 17)
    ∷ []) (at 27 1) (stmts.Sequence (at 28 1) (call_of (at 28 1) "Put_Line" (suffix.Applied (at 28 10) (actual_of (at 28
    11) (named (at 28 11) "Integer" (suffix.Attribute (at 28 18) (id (at 28 19) "Image") ∷ suffix.Applied (at 28 25)
    (actual_of (at 28 26) (object (at 28 26) "N")) [] (at 28 27) ∷ []))) [] (at 28 28) ∷ []) (at 28 29)) (stmt.If (at 29
    1) (expr.LoneRelation (at 29 4) (rel.LoneSum (at 29 4) (sum.Unsigned (at 29 4) (term.Product (at 29 4) (factor.Not
    (at 29 4) (object (at 29 8) "End_Of_File")) []) []))) (at 29 20) (sole (at 29 25) (call_of (at 29 25) "Get"
    (suffix.Applied (at 29 29) (actual_of (at 29 30) (object (at 29 30) "N")) [] (at 29 31) ∷ []) (at 29 32))) [] (at 29
    34) (at 29 38) (at 29 40) ∷ assign_of (at 30 1) "Total" [] (at 30 7) (expr_of (at 30 10) (object (at 30 10) "N"))
    (at 30 11) ∷ [])) (at 31 1) (Some (id (at 31 5) "Main")) (at 31 9)) ∷ []) ∷ [])
unfolding computes resolves
wrong_in_use_6 = refl

-- At one position N1 goes before N3.
unknown_before_hidden_1 : IsFirstBrokenOf Unknown (at 14 147) ((unit.OfSubprogram (at 1 4) (context.With (at 1 4)
    (selected (at 1 9) "Ada" (at 1 12) (at 1 13) "Text_IO") [] (at 1 20) ∷ use_context (use_of (at 1 22) None (selected
    (at 1 26) "Ada" (at 1 29) (at 1 30) "Text_IO") [] (at 1 37)) ∷ context.With (at 1 39) (selected (at 1 44) "Ada" (at
    1 47) (at 1 48) "Integer_Text_IO") [] (at 1 63) ∷ use_context (use_of (at 1 65) None (selected (at 1 69) "Ada" (at 1
    72) (at 1 73) "Integer_Text_IO") [] (at 1 88)) ∷ context.With (at 1 90) (selected (at 1 95) "Ada" (at 1 98) (at 1
    99) "Unchecked_Deallocation") [] (at 1 121) ∷ []) (subprogram_of (at 2 4) (subspec.Procedure (at 2 4) (id (at 2 14)
    "Main") None) None (at 2 19) (item.IncompleteType (at 3 4) (id (at 3 9) "Cell") (at 3 13) ∷ item.AccessType (at 4 1)
    (id (at 4 6) "List") (at 4 11) (at 4 14) (mark (at 4 21) "Cell") (at 4 25) ∷ item.RecordType (at 5 1) (id (at 5 6)
    "Cell") (at 5 11) (at 5 14) (fields_of (id (at 5 21) "Value") [] (at 5 27) (mark (at 5 29) "Integer") (at 5 36))
    (fields_of (id (at 5 38) "Next") [] (at 5 43) (mark (at 5 45) "List") (at 5 49) ∷ []) (at 5 51) (at 5 55) (at 5 61)
    ∷ objects_of (id (at 6 1) "X") (next_id_of (at 6 2) (at 6 4) "Y" ∷ []) (at 6 6) None (indication_of (mark (at 6 8)
    "List")) (at 6 12) ∷ initialized_of (id (at 7 1) "N") [] (at 7 3) None (indication_of (mark (at 7 5) "Integer")) (at
    7 13) (expr_of (at 7 16) (primary.Number (at 7 16) 4)) (at 7 17) ∷ []) (at 8 7) (stmts.Sequence (at 9 1)
    (stmt.DeclareBlock (at 9 1) (initialized_of (id (at 9 9) "B") [] (at 9 11) None (indication.Anonymous (at 9 13) None
    (mark (at 9 20) "Cell")) (at 9 25) (expr_of (at 9 28) (object (at 9 28) "X")) (at 9 29) ∷ []) (at 9 31) (sole (at 9
    37) (stmt.If (at 9 37) (expr.LoneRelation (at 9 40) (rel.Compared (at 9 40) (sum_of (at 9 40) (object (at 9 40)
    "B")) relational.NotEqual (at 9 42) (sum_of (at 9 45) (primary.Null (at 9 45))))) (at 9 50) (sole (at 9 55)
    (assign_of (at 9 55) "B" (suffix.Selected (at 9 56) (id (at 9 57) "Value") ∷ []) (at 9 63) (expr_of (at 9 66)
    (object (at 9 66) "N")) (at 9 67))) [] (at 9 69) (at 9 73) (at 9 75))) (at 9 77) (at 9 80)) (assign_of (at 10 1) "Y"
    [] (at 10 3) (expr_of (at 10 6) (object (at 10 6) "X")) (at 10 7) ∷ assign_of (at 10 9) "X" [] (at 10 11) (expr_of
    (at 10 14) (primary.Null (at 10 14))) (at 10 18) ∷ call_of (at 11 1) "Put_Line" (suffix.Applied (at 11 10)
    (actual_of (at 11 11) (named (at 11 11) "Integer" (suffix.Attribute (at 11 18) (id (at 11 19) "Image") ∷
    suffix.Applied (at 11 25) (actual_of (at 11 26) (object (at 11 26) "N")) [] (at 11 27) ∷ []))) [] (at 11 28) ∷ [])
    (at 11 29) ∷ stmt.IfElse (at 12 1) (expr.LoneRelation (at 12 4) (rel.Compared (at 12 4) (sum_of (at 12 4) (object
    (at 12 4) "N")) relational.Greater (at 12 6) (sum_of (at 12 8) (primary.Number (at 12 8) 3)))) (at 12 10) (sole (at
    12 15) (assign_of (at 12 15) "N" [] (at 12 17) (expr.LoneRelation (at 12 20) (rel.LoneSum (at 12 20) (sum.Unsigned
    (at 12 20) (term_of (at 12 20) (object (at 12 20) "N")) (next_term.FurtherTerm (at 12 22) adding.Subtract (term_of
    (at 12 24) (primary.Number (at 12 24) 1)) ∷ [])))) (at 12 25))) [] (at 12 27) (sole (at 12 32) (stmt.Null (at 12 32)
    (at 12 36))) (at 12 38) (at 12 42) (at 12 44) ∷ [])) (at 13 7) (Some (id (at 13 11) "Main")) (at 13 15)) ∷
    unit.OfPackage (at 14 4) (context.With (at 14 4) (selected (at 14 9) "Ada" (at 14 12) (at 14 13) "Text_IO") [] (at
    14 20) ∷ use_context (use_of (at 14 22) None (selected (at 14 26) "Ada" (at 14 29) (at 14 30) "Text_IO") [] (at 14
    37)) ∷ context.With (at 14 39) (selected (at 14 44) "Ada" (at 14 47) (at 14 48) "Integer_Text_IO") [] (at 14 63) ∷
    use_context (use_of (at 14 65) None (selected (at 14 69) "Ada" (at 14 72) (at 14 73) "Integer_Text_IO") [] (at 14
    88)) ∷ context.With (at 14 90) (selected (at 14 95) "Ada" (at 14 98) (at 14 99) "Unchecked_Deallocation") [] (at 14
    121) ∷ []) (package_of (at 14 123) (id (at 14 131) "Latest_P") None (at 14 140) (decl.OfItem (at 14 143) (use_item
    (use_of (at 14 143) None (dotted_of (id (at 14 147) "Ada") (next_part.FurtherPart (at 14 150) (id (at 14 151)
    "Text_IO") ∷ next_part.FurtherPart (at 14 158) (id (at 14 159) "Put") ∷ [])) [] (at 14 162))) ∷ []) None (at 14 164)
    (Some (id (at 14 168) "Latest_P")) (at 14 176)) ∷ []) ∷ [])
unfolding computes resolves
unknown_before_hidden_1 = refl

unknown_before_hidden_2 : IsFirstBrokenOf Unknown (at 4 36) ((unit.OfSubprogram (at 1 1) (context.With (at 1 1)
    (selected (at 1 6) "Ada" (at 1 9) (at 1 10) "Text_IO") [] (at 1 17) ∷ use_context (use_of (at 1 19) None (selected
    (at 1 23) "Ada" (at 1 26) (at 1 27) "Text_IO") [] (at 1 34)) ∷ context.With (at 1 36) (selected (at 1 41) "Ada" (at
    1 44) (at 1 45) "Integer_Text_IO") [] (at 1 60) ∷ use_context (use_of (at 1 62) None (selected (at 1 66) "Ada" (at 1
    69) (at 1 70) "Integer_Text_IO") [] (at 1 85)) ∷ context.With (at 1 87) (selected (at 1 92) "Ada" (at 1 95) (at 1
    96) "Unchecked_Deallocation") [] (at 1 118) ∷ []) (subprogram_of (at 2 1) (subspec.Procedure (at 2 1) (id (at 2 11)
    "Main") None) None (at 2 16) (item.IncompleteType (at 3 1) (id (at 3 6) "Cell") (at 3 10) ∷ item.AccessType (at 4 1)
    (id (at 4 6) "List") (at 4 11) (at 4 14) (mark (at 4 21) "Cell") (at 4 25) ∷ use_item (use_of (at 4 27) (Some (at 4
    31)) (dotted_of (id (at 4 36) "Ada") (next_part.FurtherPart (at 4 39) (id (at 4 40) "Text_IO") ∷
    next_part.FurtherPart (at 4 47) (id (at 4 48) "Minor_What") ∷ [])) [] (at 4 58)) ∷ item.RecordType (at 5 1) (id (at
    5 6) "Cell") (at 5 11) (at 5 14) (fields_of (id (at 5 21) "Value") [] (at 5 27) (mark (at 5 29) "Integer") (at 5
    36)) (fields_of (id (at 5 38) "Next") [] (at 5 43) (mark (at 5 45) "List") (at 5 49) ∷ []) (at 5 51) (at 5 55) (at 5
    61) ∷ objects_of (id (at 6 1) "X") (next_id_of (at 6 2) (at 6 4) "Y" ∷ []) (at 6 6) None (indication_of (mark (at 6
    8) "List")) (at 6 12) ∷ initialized_of (id (at 7 1) "N") [] (at 7 3) None (indication_of (mark (at 7 5) "Integer"))
    (at 7 13) (expr_of (at 7 16) (primary.Number (at 7 16) 6)) (at 7 17) ∷ item.Instance (at 8 1) (id (at 8 11) "Free")
    (at 8 16) (at 8 19) (selected (at 8 23) "Ada" (at 8 26) (at 8 27) "Unchecked_Deallocation") (at 8 50) (actual_of (at
    8 51) (object (at 8 51) "Cell")) (next_arg.FurtherArg (at 8 55) (actual_of (at 8 57) (object (at 8 57) "List")) ∷
    []) (at 8 61) (at 8 62) ∷ []) (at 9 1) (stmts.Sequence (at 10 1) (call_of (at 10 1) "Put_Line" (suffix.Applied (at
    10 10) (actual_of (at 10 11) (named (at 10 11) "Integer" (suffix.Attribute (at 10 18) (id (at 10 19) "Image") ∷
    suffix.Applied (at 10 25) (actual_of (at 10 26) (object (at 10 26) "N")) [] (at 10 27) ∷ []))) [] (at 10 28) ∷ [])
    (at 10 29)) (stmt.While (at 11 1) (expr.LoneRelation (at 11 7) (rel.Compared (at 11 7) (sum_of (at 11 7) (object (at
    11 7) "N")) relational.Greater (at 11 9) (sum_of (at 11 11) (primary.Number (at 11 11) 5)))) (at 11 13) (sole (at 11
    18) (assign_of (at 11 18) "N" [] (at 11 20) (expr.LoneRelation (at 11 23) (rel.LoneSum (at 11 23) (sum.Unsigned (at
    11 23) (term.Product (at 11 23) (factor_of (at 11 23) (object (at 11 23) "N")) (next_factor.FurtherFactor (at 11 25)
    multiplying.Divide (factor_of (at 11 27) (primary.Number (at 11 27) 2)) ∷ [])) []))) (at 11 28))) (at 11 30) (at 11
    34) (at 11 38) ∷ stmt.IfElse (at 12 1) (expr.LoneRelation (at 12 4) (rel.Compared (at 12 4) (sum_of (at 12 4)
    (object (at 12 4) "N")) relational.Greater (at 12 6) (sum_of (at 12 8) (primary.Number (at 12 8) 3)))) (at 12 10)
    (sole (at 12 15) (assign_of (at 12 15) "N" [] (at 12 17) (expr.LoneRelation (at 12 20) (rel.LoneSum (at 12 20)
    (sum.Unsigned (at 12 20) (term_of (at 12 20) (object (at 12 20) "N")) (next_term.FurtherTerm (at 12 22)
    adding.Subtract (term_of (at 12 24) (primary.Number (at 12 24) 1)) ∷ [])))) (at 12 25))) [] (at 12 27) (sole (at 12
    32) (stmt.Null (at 12 32) (at 12 36))) (at 12 38) (at 12 42) (at 12 44) ∷ [])) (at 13 1) (Some (id (at 13 5)
    "Main")) (at 13 9)) ∷ []) ∷ [])
unfolding computes resolves
unknown_before_hidden_2 = refl

unknown_before_hidden_3 : IsFirstBrokenOf Unknown (at 1 6) ((unit.OfPackage (at 1 1) (context.With (at 1 1) (selected
    (at 1 6) "Ada" (at 1 9) (at 1 10) "Minor_What") [] (at 1 20) ∷ []) (package_of (at 1 22) (id (at 1 30) "Minor_R")
    None (at 1 38) (decl.OfItem (at 1 41) (objects_of (id (at 1 41) "Minor_Z") [] (at 1 49) None (indication_of (mark
    (at 1 51) "Integer")) (at 1 58)) ∷ []) None (at 1 60) (Some (id (at 1 64) "Minor_R")) (at 1 71)) ∷ unit.OfSubprogram
    (at 2 7) (context.With (at 2 7) (selected (at 2 12) "Ada" (at 2 15) (at 2 16) "Text_IO") [] (at 2 23) ∷ use_context
    (use_of (at 2 25) None (selected (at 2 29) "Ada" (at 2 32) (at 2 33) "Text_IO") [] (at 2 40)) ∷ context.With (at 2
    42) (selected (at 2 47) "Ada" (at 2 50) (at 2 51) "Integer_Text_IO") [] (at 2 66) ∷ use_context (use_of (at 2 68)
    None (selected (at 2 72) "Ada" (at 2 75) (at 2 76) "Integer_Text_IO") [] (at 2 91)) ∷ context.With (at 2 93)
    (selected (at 2 98) "Ada" (at 2 101) (at 2 102) "Unchecked_Deallocation") [] (at 2 124) ∷ []) (subprogram_of (at 3
    1) (subspec.Procedure (at 3 1) (id (at 3 11) "Main") None) None (at 3 16) (item.IncompleteType (at 4 1) (id (at 4 6)
    "Cell") (at 4 10) ∷ item.AccessType (at 5 1) (id (at 5 6) "List") (at 5 11) (at 5 14) (mark (at 5 21) "Cell") (at 5
    25) ∷ item.RecordType (at 6 1) (id (at 6 6) "Cell") (at 6 11) (at 6 14) (fields_of (id (at 6 21) "Value") [] (at 6
    27) (mark (at 6 29) "Integer") (at 6 36)) (fields_of (id (at 6 38) "Next") [] (at 6 43) (mark (at 6 45) "List") (at
    6 49) ∷ []) (at 6 51) (at 6 55) (at 6 61) ∷ objects_of (id (at 7 7) "X") (next_id_of (at 7 8) (at 7 10) "Y" ∷ [])
    (at 7 12) None (indication_of (mark (at 7 14) "List")) (at 7 18) ∷ initialized_of (id (at 8 4) "N") [] (at 8 6) None
    (indication_of (mark (at 8 8) "Integer")) (at 8 16) (expr_of (at 8 19) (primary.Number (at 8 19) 1)) (at 8 20) ∷
    item.Instance (at 9 7) (id (at 9 17) "Free") (at 9 22) (at 9 25) (selected (at 9 29) "Ada" (at 9 32) (at 9 33)
    "Unchecked_Deallocation") (at 9 56) (actual_of (at 9 57) (object (at 9 57) "Cell")) (next_arg.FurtherArg (at 9 61)
    (actual_of (at 9 63) (object (at 9 63) "List")) ∷ []) (at 9 67) (at 9 68) ∷ []) (at 10 7) (stmts.Sequence (at 11 1)
    (stmt.IfElse (at 11 1) (expr.LoneRelation (at 11 4) (rel.Compared (at 11 4) (sum_of (at 11 4) (object (at 11 4)
    "N")) relational.Greater (at 11 6) (sum_of (at 11 8) (primary.Number (at 11 8) 3)))) (at 11 10) (sole (at 11 15)
    (assign_of (at 11 15) "N" [] (at 11 17) (expr.LoneRelation (at 11 20) (rel.LoneSum (at 11 20) (sum.Unsigned (at 11
    20) (term_of (at 11 20) (object (at 11 20) "N")) (next_term.FurtherTerm (at 11 22) adding.Subtract (term_of (at 11
    24) (primary.Number (at 11 24) 1)) ∷ [])))) (at 11 25))) [] (at 11 27) (sole (at 11 32) (stmt.Null (at 11 32) (at 11
    36))) (at 11 38) (at 11 42) (at 11 44)) (stmt.For (at 12 1) (id (at 12 5) "I") (at 12 7) None (range.Bounds (at 12
    10) (expr_of (at 12 10) (primary.Number (at 12 10) 1)) (at 12 12) (expr_of (at 12 15) (primary.Number (at 12 15)
    3))) (at 12 17) (sole (at 12 22) (assign_of (at 12 22) "N" [] (at 12 24) (expr.LoneRelation (at 12 27) (rel.LoneSum
    (at 12 27) (sum.Unsigned (at 12 27) (term_of (at 12 27) (object (at 12 27) "N")) (next_term.FurtherTerm (at 12 29)
    adding.Add (term_of (at 12 31) (object (at 12 31) "I")) ∷ [])))) (at 12 32))) (at 12 34) (at 12 38) (at 12 42) ∷
    [])) (at 13 4) (Some (id (at 13 8) "Main")) (at 13 12)) ∷ []) ∷ [])
unfolding computes resolves
unknown_before_hidden_3 = refl
