-- Random programs with declarations of many kinds, which break N5 and N6.
--
-- tools/tree_terms.py makes this of the sources that data/cases.txt has under its name.
use Rattle.std.proofs.Common.{refl, [], ◌∷◌}
use Rattle.std.specs.Prelude.{None, Some, codes}
use Rattle.ada_tree.specs.declared.operator.AddingOperator.TheVariants as adding
use Rattle.ada_tree.specs.declared.expression.Aggregate.TheVariants as aggregate
use Rattle.ada_tree.specs.declared.statement.When.TheVariants as alternative
use Rattle.ada_tree.specs.declared.range.Choice.TheVariants as choice
use Rattle.ada_tree.specs.declared.unit.Context.TheVariants as context
use Rattle.ada_tree.specs.declared.expression.Expr.TheVariants as expr
use Rattle.ada_tree.specs.declared.expression.Factor.TheVariants as factor
use Rattle.ada_tree.specs.declared.declaration.Indication.TheVariants as indication
use Rattle.ada_tree.specs.declared.declaration.Item.TheVariants as item
use Rattle.ada_tree.specs.declared.operator.MultiplyingOperator.TheVariants as multiplying
use Rattle.ada_tree.specs.declared.expression.NextArg.TheVariants as next_arg
use Rattle.ada_tree.specs.declared.range.NextChoice.TheVariants as next_choice
use Rattle.ada_tree.specs.declared.expression.NextFactor.TheVariants as next_factor
use Rattle.ada_tree.specs.declared.expression.NextTerm.TheVariants as next_term
use Rattle.ada_tree.specs.declared.expression.Primary.TheVariants as primary
use Rattle.ada_tree.specs.declared.range.Range.TheVariants as range
use Rattle.ada_tree.specs.declared.expression.Rel.TheVariants as rel
use Rattle.ada_tree.specs.declared.operator.RelationalOperator.TheVariants as relational
use Rattle.ada_tree.specs.declared.expression.ShortOperand.TheVariants as short_operand
use Rattle.ada_tree.specs.declared.operator.Sign.TheVariants as sign
use Rattle.ada_tree.specs.declared.statement.Stmt.TheVariants as stmt
use Rattle.ada_tree.specs.declared.statement.Stmts.TheVariants as stmts
use Rattle.ada_tree.specs.declared.subprogram.Subspec.TheVariants as subspec
use Rattle.ada_tree.specs.declared.expression.Suffix.TheVariants as suffix
use Rattle.ada_tree.specs.declared.expression.Sum.TheVariants as sum
use Rattle.ada_tree.specs.declared.expression.Term.TheVariants as term
use Rattle.ada_tree.specs.declared.unit.SourceUnit.TheVariants as unit
use Rattle.ada_grammar.proofs.SmallSources.{computes}
use Rattle.name_events.specs.declared.declaration.NameRule.TheVariants.{NoBody, WrongEnd}
use Rattle.name_tests.proofs.SmallRules.{resolves}
use Rattle.name_tests.proofs.SourceTrees.{IsFirstBrokenOf, actual_of, assign_of, association_of, at, call_of, constrained_of, expr_of, factor_of, fields_of, id, indication_of, initialized_of, mark, marked_of, mode_of, named, next_id_of, object, objects_of, selected, sole, subprogram_of, sum_of, term_of, use_context, use_of}

random_n5_2 : IsFirstBrokenOf NoBody (at 7 18) ((unit.OfSubprogram (at 1 1) (context.With (at 1 1) (selected (at 1 6)
    "Ada" (at 1 9) (at 1 10) "Text_IO") [] (at 1 17) ∷ use_context (use_of (at 1 19) None (selected (at 1 23) "Ada" (at
    1 26) (at 1 27) "Text_IO") [] (at 1 34)) ∷ context.With (at 2 1) (selected (at 2 6) "Ada" (at 2 9) (at 2 10)
    "Integer_Text_IO") [] (at 2 25) ∷ context.With (at 3 1) (selected (at 3 6) "Ada" (at 3 9) (at 3 10)
    "Unchecked_Deallocation") [] (at 3 32) ∷ []) (subprogram_of (at 4 1) (subspec.Procedure (at 4 1) (id (at 4 11)
    "Main") None) None (at 4 16) (item.AccessType (at 5 1) (id (at 5 6) "P1") (at 5 9) (at 5 12) (mark (at 5 19)
    "Integer") (at 5 26) ∷ item.Instance (at 6 1) (id (at 6 11) "Free1") (at 6 17) (at 6 20) (selected (at 6 24) "Ada"
    (at 6 27) (at 6 28) "Unchecked_Deallocation") (at 6 51) (actual_of (at 6 52) (object (at 6 52) "Integer"))
    (next_arg.FurtherArg (at 6 59) (actual_of (at 6 61) (object (at 6 61) "P1")) ∷ []) (at 6 63) (at 6 64) ∷
    item.IncompleteType (at 7 1) (id (at 7 6) "Cell1") (at 7 11) ∷ item.IncompleteType (at 7 13) (id (at 7 18) "Zi") (at
    7 21) ∷ item.AccessType (at 7 23) (id (at 7 28) "Zj") (at 7 31) (at 7 34) (mark (at 7 41) "Zi") (at 7 44) ∷
    objects_of (id (at 7 46) "Zk") [] (at 7 49) None (indication_of (mark (at 7 51) "Zi")) (at 7 54) ∷ item.AccessType
    (at 8 1) (id (at 8 6) "List1") (at 8 12) (at 8 15) (mark (at 8 22) "Cell1") (at 8 27) ∷ item.RecordType (at 9 1) (id
    (at 9 6) "Cell1") (at 9 12) (at 9 15) (fields_of (id (at 9 22) "Val1") [] (at 9 27) (mark (at 9 29) "Integer") (at 9
    36)) (fields_of (id (at 9 38) "Next1") [] (at 9 44) (mark (at 9 46) "List1") (at 9 51) ∷ []) (at 9 53) (at 9 57) (at
    9 63) ∷ item.RecordType (at 10 1) (id (at 10 6) "R1") (at 10 9) (at 10 12) (fields_of (id (at 10 19) "F1") [] (at 10
    22) (mark (at 10 24) "Integer") (at 10 31)) (fields_of (id (at 10 33) "F2") [] (at 10 36) (mark (at 10 38)
    "Integer") (at 10 45) ∷ fields_of (id (at 10 47) "F3") [] (at 10 50) (mark (at 10 52) "Integer") (at 10 59) ∷ [])
    (at 10 61) (at 10 65) (at 10 71) ∷ item.AccessType (at 11 1) (id (at 11 6) "P2") (at 11 9) (at 11 12) (mark (at 11
    19) "Integer") (at 11 26) ∷ initialized_of (id (at 12 1) "V1") [] (at 12 4) None (indication_of (mark (at 12 6)
    "List1")) (at 12 12) (expr_of (at 12 15) (primary.AllocatedAggregate (at 12 15) (mark (at 12 19) "Cell1") (at 12 24)
    (aggregate.Several (at 12 25) (actual_of (at 12 26) (primary.Number (at 12 26) 21)) (at 12 28) (actual_of (at 12 30)
    (primary.AllocatedAggregate (at 12 30) (mark (at 12 34) "Cell1") (at 12 39) (aggregate.Several (at 12 40) (actual_of
    (at 12 41) (primary.Parenthesized (at 12 41) (expr.LoneRelation (at 12 42) (rel.LoneSum (at 12 42) (sum.Signed (at
    12 42) sign.Minus (term_of (at 12 43) (primary.Number (at 12 43) 4)) []))) (at 12 44))) (at 12 45) (actual_of (at 12
    47) (primary.Null (at 12 47))) [] (at 12 51)))) [] (at 12 52)))) (at 12 53) ∷ initialized_of (id (at 13 1) "V2") []
    (at 13 4) None (indication_of (mark (at 13 6) "P2")) (at 13 9) (expr_of (at 13 12) (primary.AllocatedValue (at 13
    12) (mark (at 13 16) "Integer") (at 13 23) (at 13 24) (expr_of (at 13 25) (primary.Number (at 13 25) 18)) (at 13
    27))) (at 13 28) ∷ []) (at 14 1) (stmts.Sequence (at 15 1) (stmt.For (at 15 1) (id (at 15 5) "I1") (at 15 8) None
    (marked_of (mark (at 15 11) "Boolean")) (at 15 19) (sole (at 16 1) (stmt.For (at 16 1) (id (at 16 5) "I2") (at 16 8)
    None (range.Bounds (at 16 11) (expr_of (at 16 11) (primary.Number (at 16 11) 1)) (at 16 13) (expr_of (at 16 16)
    (primary.Number (at 16 16) 3))) (at 16 18) (sole (at 17 1) (assign_of (at 17 1) "V1" [] (at 17 4) (expr_of (at 17 7)
    (primary.AllocatedAggregate (at 17 7) (mark (at 17 11) "Cell1") (at 17 16) (aggregate.Several (at 17 17) (actual_of
    (at 17 18) (object (at 17 18) "I2")) (at 17 20) (actual_of (at 17 22) (object (at 17 22) "V1")) [] (at 17 24)))) (at
    17 25))) (at 18 1) (at 18 5) (at 18 9))) (at 19 1) (at 19 5) (at 19 9)) (call_of (at 20 1) "Put_Line"
    (suffix.Applied (at 20 10) (actual_of (at 20 11) (primary.Text (at 20 11) (codes "\"a\""))) [] (at 20 14) ∷ []) (at
    20 15) ∷ stmt.Case (at 21 1) (expr.LoneRelation (at 21 6) (rel.LoneSum (at 21 6) (sum.Unsigned (at 21 6)
    (term.Product (at 21 6) (factor.Abs (at 21 6) (primary.Number (at 21 10) 2)) []) []))) (at 21 12)
    (alternative.Alternative (at 22 1) (choice.Interval (at 22 6) (expr_of (at 22 6) (primary.Number (at 22 6) 20)) (at
    22 9) (expr_of (at 22 12) (primary.Number (at 22 12) 19))) (next_choice.Bar (at 22 15) (choice.Value (at 22 17)
    (expr_of (at 22 17) (primary.Number (at 22 17) 7))) ∷ []) (at 22 19) (stmts.Sequence (at 23 1) (stmt.If (at 23 1)
    (expr.AndThen (at 23 4) (rel.Compared (at 23 4) (sum_of (at 23 4) (object (at 23 4) "V1")) relational.NotEqual (at
    23 7) (sum_of (at 23 10) (primary.Null (at 23 10)))) (at 23 15) (at 23 19) (rel.Compared (at 23 24) (sum_of (at 23
    24) (object (at 23 24) "V2")) relational.NotEqual (at 23 27) (sum_of (at 23 30) (primary.Null (at 23 30)))) []) (at
    23 35) (sole (at 24 1) (assign_of (at 24 1) "V1" (suffix.Dereferenced (at 24 3) (at 24 4) ∷ []) (at 24 8) (expr_of
    (at 24 11) (primary.Aggregated (at 24 11) (aggregate.Several (at 24 11) (association_of (id (at 24 12) "Val1") (at
    24 17) (expr_of (at 24 20) (named (at 24 20) "V2" (suffix.Dereferenced (at 24 22) (at 24 23) ∷ [])))) (at 24 26)
    (association_of (id (at 24 28) "Next1") (at 24 34) (expr_of (at 24 37) (primary.AllocatedAggregate (at 24 37) (mark
    (at 24 41) "Cell1") (at 24 46) (aggregate.Several (at 24 47) (association_of (id (at 24 48) "Val1") (at 24 53)
    (expr_of (at 24 56) (primary.Number (at 24 56) 24))) (at 24 58) (association_of (id (at 24 60) "Next1") (at 24 66)
    (expr_of (at 24 69) (primary.Null (at 24 69)))) [] (at 24 73))))) [] (at 24 74)))) (at 24 75))) [] (at 25 1) (at 25
    5) (at 25 7)) (call_of (at 26 1) "Put" (suffix.Applied (at 26 5) (actual_of (at 26 6) (primary.Text (at 26 6) (codes
    "\"~\""))) [] (at 26 9) ∷ []) (at 26 10) ∷ []))) (alternative.Alternative (at 27 1) (choice.Value (at 27 6) (expr_of
    (at 27 6) (primary.Number (at 27 6) 9))) [] (at 27 8) (stmts.Sequence (at 28 1) (stmt.If (at 28 1) (expr.AndThen (at
    28 4) (rel.Compared (at 28 4) (sum_of (at 28 4) (object (at 28 4) "V1")) relational.NotEqual (at 28 7) (sum_of (at
    28 10) (primary.Null (at 28 10)))) (at 28 15) (at 28 19) (rel.Compared (at 28 24) (sum_of (at 28 24) (named (at 28
    24) "V1" (suffix.Selected (at 28 26) (id (at 28 27) "Next1") ∷ []))) relational.NotEqual (at 28 33) (sum_of (at 28
    36) (primary.Null (at 28 36)))) (short_operand.FurtherShortOperand (at 28 41) (at 28 45) (rel.Compared (at 28 50)
    (sum_of (at 28 50) (object (at 28 50) "V2")) relational.NotEqual (at 28 53) (sum_of (at 28 56) (primary.Null (at 28
    56)))) ∷ [])) (at 28 61) (sole (at 29 1) (assign_of (at 29 1) "V1" (suffix.Selected (at 29 3) (id (at 29 4) "Next1")
    ∷ suffix.Dereferenced (at 29 9) (at 29 10) ∷ suffix.Selected (at 29 13) (id (at 29 14) "Val1") ∷ []) (at 29 19)
    (expr_of (at 29 22) (primary.Parenthesized (at 29 22) (expr.LoneRelation (at 29 23) (rel.LoneSum (at 29 23)
    (sum.Signed (at 29 23) sign.Minus (term_of (at 29 24) (named (at 29 24) "V2" (suffix.Dereferenced (at 29 26) (at 29
    27) ∷ []))) []))) (at 29 30))) (at 29 31))) [] (at 30 1) (at 30 5) (at 30 7)) (stmt.If (at 31 1) (expr_of (at 31 4)
    (object (at 31 4) "End_Of_File")) (at 31 16) (stmts.Sequence (at 32 1) (stmt.For (at 32 1) (id (at 32 5) "I3") (at
    32 8) None (constrained_of (mark (at 32 11) "Boolean") (at 32 19) (expr_of (at 32 25) (object (at 32 25) "False"))
    (at 32 31) (expr_of (at 32 34) (object (at 32 34) "True"))) (at 32 39) (stmts.Sequence (at 33 1) (stmt.If (at 33 1)
    (expr.AndThen (at 33 4) (rel.Compared (at 33 4) (sum_of (at 33 4) (object (at 33 4) "V2")) relational.NotEqual (at
    33 7) (sum_of (at 33 10) (primary.Null (at 33 10)))) (at 33 15) (at 33 19) (rel.Compared (at 33 24) (sum_of (at 33
    24) (object (at 33 24) "V1")) relational.NotEqual (at 33 27) (sum_of (at 33 30) (primary.Null (at 33 30))))
    (short_operand.FurtherShortOperand (at 33 35) (at 33 39) (rel.Compared (at 33 44) (sum_of (at 33 44) (named (at 33
    44) "V1" (suffix.Selected (at 33 46) (id (at 33 47) "Next1") ∷ []))) relational.NotEqual (at 33 53) (sum_of (at 33
    56) (primary.Null (at 33 56)))) ∷ [])) (at 33 61) (sole (at 34 1) (assign_of (at 34 1) "V2" (suffix.Dereferenced (at
    34 3) (at 34 4) ∷ []) (at 34 8) (expr_of (at 34 11) (named (at 34 11) "V1" (suffix.Selected (at 34 13) (id (at 34
    14) "Next1") ∷ suffix.Selected (at 34 19) (id (at 34 20) "Val1") ∷ []))) (at 34 24))) [] (at 35 1) (at 35 5) (at 35
    7)) (stmt.Exit (at 36 1) (at 36 5) ∷ [])) (at 37 1) (at 37 5) (at 37 9)) (assign_of (at 38 1) "V1" [] (at 38 4)
    (expr_of (at 38 7) (primary.AllocatedAggregate (at 38 7) (mark (at 38 11) "Cell1") (at 38 16) (aggregate.Several (at
    38 17) (actual_of (at 38 18) (primary.Parenthesized (at 38 18) (expr.LoneRelation (at 38 19) (rel.LoneSum (at 38 19)
    (sum.Signed (at 38 19) sign.Minus (term_of (at 38 20) (primary.Number (at 38 20) 10)) []))) (at 38 22))) (at 38 23)
    (actual_of (at 38 25) (object (at 38 25) "V1")) [] (at 38 27)))) (at 38 28) ∷ stmt.If (at 39 1) (expr.LoneRelation
    (at 39 4) (rel.Compared (at 39 4) (sum_of (at 39 4) (named (at 39 4) "V1" (suffix.Selected (at 39 6) (id (at 39 7)
    "Val1") ∷ []))) relational.LessEqual (at 39 12) (sum_of (at 39 15) (primary.Parenthesized (at 39 15)
    (expr.LoneRelation (at 39 16) (rel.LoneSum (at 39 16) (sum.Unsigned (at 39 16) (term.Product (at 39 16) (factor_of
    (at 39 16) (named (at 39 16) "V1" (suffix.Selected (at 39 18) (id (at 39 19) "Val1") ∷ [])))
    (next_factor.FurtherFactor (at 39 24) multiplying.Multiply (factor_of (at 39 26) (named (at 39 26) "V1"
    (suffix.Selected (at 39 28) (id (at 39 29) "Val1") ∷ []))) ∷ [])) []))) (at 39 33))))) (at 39 35) (stmts.Sequence
    (at 40 1) (assign_of (at 40 1) "V2" [] (at 40 4) (expr_of (at 40 7) (object (at 40 7) "V2")) (at 40 9))
    (stmt.DeclareBlock (at 41 1) (initialized_of (id (at 42 1) "V3") [] (at 42 4) None (indication_of (mark (at 42 6)
    "List1")) (at 42 12) (expr_of (at 42 15) (primary.AllocatedAggregate (at 42 15) (mark (at 42 19) "Cell1") (at 42 24)
    (aggregate.Several (at 42 25) (actual_of (at 42 26) (primary.Number (at 42 26) 20)) (at 42 28) (actual_of (at 42 30)
    (primary.AllocatedAggregate (at 42 30) (mark (at 42 34) "Cell1") (at 42 39) (aggregate.Several (at 42 40)
    (association_of (id (at 42 41) "Val1") (at 42 46) (expr_of (at 42 49) (primary.Number (at 42 49) 4))) (at 42 50)
    (association_of (id (at 42 52) "Next1") (at 42 58) (expr_of (at 42 61) (primary.Null (at 42 61)))) [] (at 42 65))))
    [] (at 42 66)))) (at 42 67) ∷ initialized_of (id (at 43 1) "V4") [] (at 43 4) None (indication_of (mark (at 43 6)
    "R1")) (at 43 9) (expr_of (at 43 12) (primary.Aggregated (at 43 12) (aggregate.Several (at 43 12) (actual_of (at 43
    13) (primary.Number (at 43 13) 39)) (at 43 15) (actual_of (at 43 17) (named (at 43 17) "V1" (suffix.Selected (at 43
    19) (id (at 43 20) "Val1") ∷ []))) (next_arg.FurtherArg (at 43 24) (actual_of (at 43 26) (primary.Parenthesized (at
    43 26) (expr.LoneRelation (at 43 27) (rel.LoneSum (at 43 27) (sum.Signed (at 43 27) sign.Minus (term_of (at 43 28)
    (primary.Number (at 43 28) 4)) []))) (at 43 29))) ∷ []) (at 43 30)))) (at 43 31) ∷ objects_of (id (at 44 1) "V5")
    (next_id_of (at 44 3) (at 44 5) "V6" ∷ []) (at 44 8) None (indication_of (mark (at 44 10) "Integer")) (at 44 17) ∷
    []) (at 45 1) (stmts.Sequence (at 46 1) (stmt.If (at 46 1) (expr.AndThen (at 46 4) (rel.Compared (at 46 4) (sum_of
    (at 46 4) (named (at 46 4) "V1" (suffix.Selected (at 46 6) (id (at 46 7) "Next1") ∷ []))) relational.NotEqual (at 46
    13) (sum_of (at 46 16) (primary.Null (at 46 16)))) (at 46 21) (at 46 25) (rel.Compared (at 46 30) (sum_of (at 46 30)
    (named (at 46 30) "V1" (suffix.Selected (at 46 32) (id (at 46 33) "Next1") ∷ suffix.Selected (at 46 38) (id (at 46
    39) "Next1") ∷ []))) relational.NotEqual (at 46 45) (sum_of (at 46 48) (primary.Null (at 46 48))))
    (short_operand.FurtherShortOperand (at 46 53) (at 46 57) (rel.Compared (at 46 62) (sum_of (at 46 62) (named (at 46
    62) "V3" (suffix.Selected (at 46 64) (id (at 46 65) "Next1") ∷ []))) relational.NotEqual (at 46 71) (sum_of (at 46
    74) (primary.Null (at 46 74)))) ∷ short_operand.FurtherShortOperand (at 46 79) (at 46 83) (rel.Compared (at 46 88)
    (sum_of (at 46 88) (named (at 46 88) "V3" (suffix.Selected (at 46 90) (id (at 46 91) "Next1") ∷ suffix.Selected (at
    46 96) (id (at 46 97) "Next1") ∷ []))) relational.NotEqual (at 46 103) (sum_of (at 46 106) (primary.Null (at 46
    106)))) ∷ [])) (at 46 111) (sole (at 47 1) (assign_of (at 47 1) "V1" (suffix.Selected (at 47 3) (id (at 47 4)
    "Next1") ∷ suffix.Selected (at 47 9) (id (at 47 10) "Next1") ∷ suffix.Selected (at 47 15) (id (at 47 16) "Next1") ∷
    []) (at 47 22) (expr_of (at 47 25) (primary.AllocatedAggregate (at 47 25) (mark (at 47 29) "Cell1") (at 47 34)
    (aggregate.Several (at 47 35) (actual_of (at 47 36) (primary.Parenthesized (at 47 36) (expr.LoneRelation (at 47 37)
    (rel.LoneSum (at 47 37) (sum.Unsigned (at 47 37) (term.Product (at 47 37) (factor_of (at 47 37) (named (at 47 37)
    "V3" (suffix.Selected (at 47 39) (id (at 47 40) "Next1") ∷ suffix.Selected (at 47 45) (id (at 47 46) "Next1") ∷
    suffix.Selected (at 47 51) (id (at 47 52) "Val1") ∷ []))) (next_factor.FurtherFactor (at 47 57)
    multiplying.Remainder (factor_of (at 47 61) (primary.Number (at 47 61) 7)) ∷ [])) []))) (at 47 62))) (at 47 63)
    (actual_of (at 47 65) (named (at 47 65) "V1" (suffix.Selected (at 47 67) (id (at 47 68) "Next1") ∷ suffix.Selected
    (at 47 73) (id (at 47 74) "Next1") ∷ suffix.Selected (at 47 79) (id (at 47 80) "Next1") ∷ []))) [] (at 47 85)))) (at
    47 86))) [] (at 48 1) (at 48 5) (at 48 7)) (assign_of (at 49 1) "V3" (suffix.Dereferenced (at 49 3) (at 49 4) ∷ [])
    (at 49 8) (expr_of (at 49 11) (named (at 49 11) "V3" (suffix.Dereferenced (at 49 13) (at 49 14) ∷ []))) (at 49 17) ∷
    [])) (at 50 1) (at 50 4) ∷ [])) [] (at 51 1) (at 51 5) (at 51 7) ∷ [])) [] (at 52 1) (at 52 5) (at 52 7) ∷ [])) ∷
    alternative.Alternative (at 53 1) (choice.Others (at 53 6)) [] (at 53 13) (sole (at 54 1) (stmt.DeclareBlock (at 54
    1) (initialized_of (id (at 55 1) "C1") [] (at 55 4) None (indication.Anonymous (at 55 6) (Some (at 55 13)) (mark (at
    55 22) "Integer")) (at 55 30) (expr_of (at 55 33) (object (at 55 33) "V2")) (at 55 35) ∷ []) (at 56 1) (sole (at 57
    1) (stmt.If (at 57 1) (expr.LoneRelation (at 57 4) (rel.Compared (at 57 4) (sum_of (at 57 4) (object (at 57 4)
    "V1")) relational.NotEqual (at 57 7) (sum_of (at 57 10) (primary.Null (at 57 10))))) (at 57 15) (sole (at 58 1)
    (assign_of (at 58 1) "V1" (suffix.Selected (at 58 3) (id (at 58 4) "Next1") ∷ []) (at 58 10) (expr_of (at 58 13)
    (primary.AllocatedAggregate (at 58 13) (mark (at 58 17) "Cell1") (at 58 22) (aggregate.Several (at 58 23) (actual_of
    (at 58 24) (named (at 58 24) "Positive" (suffix.Attribute (at 58 32) (id (at 58 33) "First") ∷ []))) (at 58 38)
    (actual_of (at 58 40) (named (at 58 40) "V1" (suffix.Selected (at 58 42) (id (at 58 43) "Next1") ∷ []))) [] (at 58
    48)))) (at 58 49))) [] (at 59 1) (at 59 5) (at 59 7))) (at 60 1) (at 60 4))) ∷ []) (at 61 1) (at 61 5) (at 61 9) ∷
    [])) (at 62 1) None (at 62 4)) ∷ []) ∷ [])
unfolding computes resolves
random_n5_2 = refl

random_n5_3 : IsFirstBrokenOf NoBody (at 9 74) ((unit.OfSubprogram (at 1 7) (context.With (at 1 7) (selected (at 1 12)
    "Ada" (at 1 15) (at 1 16) "Text_IO") [] (at 1 23) ∷ use_context (use_of (at 1 25) None (selected (at 1 29) "Ada" (at
    1 32) (at 1 33) "Text_IO") [] (at 1 40)) ∷ context.With (at 2 4) (selected (at 2 9) "Ada" (at 2 12) (at 2 13)
    "Integer_Text_IO") [] (at 2 28) ∷ use_context (use_of (at 2 30) None (selected (at 2 34) "Ada" (at 2 37) (at 2 38)
    "Integer_Text_IO") [] (at 2 53)) ∷ context.With (at 3 1) (selected (at 3 6) "Ada" (at 3 9) (at 3 10)
    "Unchecked_Deallocation") [] (at 3 32) ∷ []) (subprogram_of (at 4 7) (subspec.Procedure (at 4 7) (id (at 4 17)
    "Main") None) None (at 4 22) (item.IncompleteType (at 5 7) (id (at 5 12) "Node1") (at 5 17) ∷ item.AccessType (at 6
    1) (id (at 6 6) "Tree1") (at 6 12) (at 6 15) (mark (at 6 22) "Node1") (at 6 27) ∷ item.RecordType (at 7 4) (id (at 7
    9) "Node1") (at 7 15) (at 7 18) (fields_of (id (at 7 25) "Key1") [] (at 7 30) (mark (at 7 32) "Integer") (at 7 39))
    (fields_of (id (at 7 41) "Left1") [] (at 7 47) (mark (at 7 49) "Tree1") (at 7 54) ∷ fields_of (id (at 7 56)
    "Right1") [] (at 7 63) (mark (at 7 65) "Tree1") (at 7 70) ∷ []) (at 7 72) (at 7 76) (at 7 82) ∷ item.AccessType (at
    8 1) (id (at 8 6) "P1") (at 8 9) (at 8 12) (mark (at 8 19) "Integer") (at 8 26) ∷ item.Instance (at 9 4) (id (at 9
    14) "Free1") (at 9 20) (at 9 23) (selected (at 9 27) "Ada" (at 9 30) (at 9 31) "Unchecked_Deallocation") (at 9 54)
    (actual_of (at 9 55) (object (at 9 55) "Integer")) (next_arg.FurtherArg (at 9 62) (actual_of (at 9 64) (object (at 9
    64) "P1")) ∷ []) (at 9 66) (at 9 67) ∷ item.IncompleteType (at 9 69) (id (at 9 74) "Zi") (at 9 77) ∷ item.AccessType
    (at 9 79) (id (at 9 84) "Zj") (at 9 87) (at 9 90) (mark (at 9 97) "Zi") (at 9 100) ∷ objects_of (id (at 9 102) "Zk")
    [] (at 9 105) None (indication_of (mark (at 9 107) "Zi")) (at 9 110) ∷ item.AccessType (at 10 1) (id (at 10 6) "P2")
    (at 10 9) (at 10 12) (mark (at 10 19) "Integer") (at 10 26) ∷ item.Instance (at 11 1) (id (at 11 11) "Free2") (at 11
    17) (at 11 20) (selected (at 11 24) "Ada" (at 11 27) (at 11 28) "Unchecked_Deallocation") (at 11 51) (actual_of (at
    11 52) (object (at 11 52) "Integer")) (next_arg.FurtherArg (at 11 59) (actual_of (at 11 61) (object (at 11 61)
    "P2")) ∷ []) (at 11 63) (at 11 64) ∷ objects_of (id (at 12 1) "V1") (next_id_of (at 12 3) (at 12 5) "V2" ∷ []) (at
    12 8) None (indication_of (mark (at 12 10) "Integer")) (at 12 17) ∷ initialized_of (id (at 13 4) "V3") [] (at 13 7)
    None (indication_of (mark (at 13 9) "Tree1")) (at 13 15) (expr_of (at 13 18) (primary.AllocatedAggregate (at 13 18)
    (mark (at 13 22) "Node1") (at 13 27) (aggregate.Several (at 13 28) (actual_of (at 13 29) (primary.Parenthesized (at
    13 29) (expr.LoneRelation (at 13 30) (rel.LoneSum (at 13 30) (sum.Signed (at 13 30) sign.Minus (term_of (at 13 31)
    (primary.Number (at 13 31) 20)) []))) (at 13 33))) (at 13 34) (actual_of (at 13 36) (primary.Null (at 13 36)))
    (next_arg.FurtherArg (at 13 40) (actual_of (at 13 42) (primary.Null (at 13 42))) ∷ []) (at 13 46)))) (at 13 47) ∷
    objects_of (id (at 14 1) "V4") [] (at 14 4) None (indication_of (mark (at 14 6) "Tree1")) (at 14 11) ∷ objects_of
    (id (at 15 4) "T1") [] (at 15 7) None (indication_of (mark (at 15 9) "Integer")) (at 15 16) ∷ []) (at 16 1)
    (stmts.Sequence (at 17 7) (stmt.DeclareBlock (at 17 7) (initialized_of (id (at 18 1) "C1") [] (at 18 4) None
    (indication.Anonymous (at 18 6) (Some (at 18 13)) (mark (at 18 22) "Node1")) (at 18 28) (expr_of (at 18 31) (object
    (at 18 31) "V4")) (at 18 33) ∷ []) (at 19 1) (sole (at 20 1) (stmt.DeclareBlock (at 20 1) (initialized_of (id (at 21
    1) "C2") [] (at 21 4) None (indication.Anonymous (at 21 6) (Some (at 21 13)) (mark (at 21 22) "Node1")) (at 21 28)
    (expr_of (at 21 31) (named (at 21 31) "V3" (suffix.Selected (at 21 33) (id (at 21 34) "Left1") ∷ []))) (at 21 39) ∷
    []) (at 22 7) (stmts.Sequence (at 23 1) (stmt.If (at 23 1) (expr.AndThen (at 23 4) (rel.Compared (at 23 4) (sum_of
    (at 23 4) (named (at 23 4) "V3" (suffix.Selected (at 23 6) (id (at 23 7) "Right1") ∷ []))) relational.NotEqual (at
    23 14) (sum_of (at 23 17) (primary.Null (at 23 17)))) (at 23 22) (at 23 26) (rel.Compared (at 23 31) (sum_of (at 23
    31) (object (at 23 31) "C2")) relational.NotEqual (at 23 34) (sum_of (at 23 37) (primary.Null (at 23 37))))
    (short_operand.FurtherShortOperand (at 23 42) (at 23 46) (rel.Compared (at 23 51) (sum_of (at 23 51) (named (at 23
    51) "C2" (suffix.Selected (at 23 53) (id (at 23 54) "Left1") ∷ []))) relational.NotEqual (at 23 60) (sum_of (at 23
    63) (primary.Null (at 23 63)))) ∷ [])) (at 23 68) (sole (at 24 1) (assign_of (at 24 1) "V3" (suffix.Selected (at 24
    3) (id (at 24 4) "Right1") ∷ suffix.Selected (at 24 10) (id (at 24 11) "Left1") ∷ []) (at 24 17) (expr_of (at 24 20)
    (named (at 24 20) "C2" (suffix.Selected (at 24 22) (id (at 24 23) "Left1") ∷ suffix.Selected (at 24 28) (id (at 24
    29) "Left1") ∷ []))) (at 24 34))) [] (at 25 1) (at 25 5) (at 25 7)) (stmt.If (at 26 4) (expr.AndThen (at 26 7)
    (rel.Compared (at 26 7) (sum_of (at 26 7) (object (at 26 7) "V3")) relational.NotEqual (at 26 10) (sum_of (at 26 13)
    (primary.Null (at 26 13)))) (at 26 18) (at 26 22) (rel.Compared (at 26 27) (sum_of (at 26 27) (named (at 26 27) "V3"
    (suffix.Dereferenced (at 26 29) (at 26 30) ∷ suffix.Selected (at 26 33) (id (at 26 34) "Right1") ∷ [])))
    relational.NotEqual (at 26 41) (sum_of (at 26 44) (primary.Null (at 26 44)))) (short_operand.FurtherShortOperand (at
    26 49) (at 26 53) (rel.Compared (at 26 58) (sum_of (at 26 58) (object (at 26 58) "C1")) relational.NotEqual (at 26
    61) (sum_of (at 26 64) (primary.Null (at 26 64)))) ∷ short_operand.FurtherShortOperand (at 26 69) (at 26 73)
    (rel.Compared (at 26 78) (sum_of (at 26 78) (named (at 26 78) "C1" (suffix.Selected (at 26 80) (id (at 26 81)
    "Right1") ∷ []))) relational.NotEqual (at 26 88) (sum_of (at 26 91) (primary.Null (at 26 91)))) ∷ [])) (at 26 96)
    (sole (at 27 4) (assign_of (at 27 4) "V3" (suffix.Dereferenced (at 27 6) (at 27 7) ∷ suffix.Selected (at 27 10) (id
    (at 27 11) "Right1") ∷ suffix.Selected (at 27 17) (id (at 27 18) "Right1") ∷ []) (at 27 25) (expr_of (at 27 28)
    (primary.AllocatedAggregate (at 27 28) (mark (at 27 32) "Node1") (at 27 37) (aggregate.Several (at 27 38) (actual_of
    (at 27 39) (primary.Parenthesized (at 27 39) (expr.LoneRelation (at 27 40) (rel.LoneSum (at 27 40) (sum.Unsigned (at
    27 40) (term.Product (at 27 40) (factor_of (at 27 40) (primary.Number (at 27 40) 7)) (next_factor.FurtherFactor (at
    27 42) multiplying.Modulo (factor_of (at 27 46) (primary.Number (at 27 46) 8)) ∷ [])) []))) (at 27 47))) (at 27 48)
    (actual_of (at 27 50) (named (at 27 50) "V3" (suffix.Dereferenced (at 27 52) (at 27 53) ∷ suffix.Selected (at 27 56)
    (id (at 27 57) "Right1") ∷ suffix.Selected (at 27 63) (id (at 27 64) "Right1") ∷ []))) (next_arg.FurtherArg (at 27
    70) (actual_of (at 27 72) (primary.Null (at 27 72))) ∷ []) (at 27 76)))) (at 27 77))) [] (at 28 4) (at 28 8) (at 28
    10) ∷ stmt.If (at 29 1) (expr.LoneRelation (at 29 4) (rel.Compared (at 29 4) (sum_of (at 29 4) (object (at 29 4)
    "V3")) relational.NotEqual (at 29 7) (sum_of (at 29 10) (primary.Null (at 29 10))))) (at 29 15) (sole (at 30 7)
    (assign_of (at 30 7) "V3" (suffix.Selected (at 30 9) (id (at 30 10) "Right1") ∷ []) (at 30 17) (expr_of (at 30 20)
    (primary.AllocatedAggregate (at 30 20) (mark (at 30 24) "Node1") (at 30 29) (aggregate.Several (at 30 30) (actual_of
    (at 30 31) (object (at 30 31) "V2")) (at 30 33) (actual_of (at 30 35) (named (at 30 35) "V3" (suffix.Selected (at 30
    37) (id (at 30 38) "Right1") ∷ []))) (next_arg.FurtherArg (at 30 44) (actual_of (at 30 46) (primary.Null (at 30
    46))) ∷ []) (at 30 50)))) (at 30 51))) [] (at 31 1) (at 31 5) (at 31 7) ∷ assign_of (at 32 1) "V1" [] (at 32 4)
    (expr_of (at 32 7) (primary.Parenthesized (at 32 7) (expr.LoneRelation (at 32 8) (rel.LoneSum (at 32 8)
    (sum.Unsigned (at 32 8) (term.Product (at 32 8) (factor_of (at 32 8) (object (at 32 8) "V2"))
    (next_factor.FurtherFactor (at 32 11) multiplying.Modulo (factor_of (at 32 15) (primary.Number (at 32 15) 5)) ∷ []))
    []))) (at 32 16))) (at 32 17) ∷ stmt.If (at 33 1) (expr.AndThen (at 33 4) (rel.Compared (at 33 4) (sum_of (at 33 4)
    (object (at 33 4) "V4")) relational.NotEqual (at 33 7) (sum_of (at 33 10) (primary.Null (at 33 10)))) (at 33 15) (at
    33 19) (rel.Compared (at 33 24) (sum_of (at 33 24) (named (at 33 24) "V4" (suffix.Selected (at 33 26) (id (at 33 27)
    "Right1") ∷ []))) relational.NotEqual (at 33 34) (sum_of (at 33 37) (primary.Null (at 33 37)))) []) (at 33 42) (sole
    (at 34 7) (assign_of (at 34 7) "V1" [] (at 34 10) (expr_of (at 34 13) (named (at 34 13) "V4" (suffix.Selected (at 34
    15) (id (at 34 16) "Right1") ∷ suffix.Selected (at 34 22) (id (at 34 23) "Key1") ∷ []))) (at 34 27))) [] (at 35 7)
    (at 35 11) (at 35 13) ∷ [])) (at 36 1) (at 36 4))) (at 37 1) (at 37 4)) (stmt.If (at 38 4) (expr.AndThen (at 38 7)
    (rel.Compared (at 38 7) (sum_of (at 38 7) (object (at 38 7) "V4")) relational.NotEqual (at 38 10) (sum_of (at 38 13)
    (primary.Null (at 38 13)))) (at 38 18) (at 38 22) (rel.Compared (at 38 27) (sum_of (at 38 27) (named (at 38 27) "V4"
    (suffix.Dereferenced (at 38 29) (at 38 30) ∷ suffix.Selected (at 38 33) (id (at 38 34) "Right1") ∷ [])))
    relational.NotEqual (at 38 41) (sum_of (at 38 44) (primary.Null (at 38 44)))) []) (at 38 49) (sole (at 39 4)
    (assign_of (at 39 4) "V4" (suffix.Dereferenced (at 39 6) (at 39 7) ∷ suffix.Selected (at 39 10) (id (at 39 11)
    "Right1") ∷ suffix.Selected (at 39 17) (id (at 39 18) "Left1") ∷ []) (at 39 24) (expr_of (at 39 27)
    (primary.AllocatedAggregate (at 39 27) (mark (at 39 31) "Node1") (at 39 36) (aggregate.Several (at 39 37) (actual_of
    (at 39 38) (primary.Parenthesized (at 39 38) (expr.LoneRelation (at 39 39) (rel.LoneSum (at 39 39) (sum.Unsigned (at
    39 39) (term_of (at 39 39) (object (at 39 39) "V1")) (next_term.FurtherTerm (at 39 42) adding.Subtract (term_of (at
    39 44) (object (at 39 44) "V1")) ∷ [])))) (at 39 46))) (at 39 47) (actual_of (at 39 49) (named (at 39 49) "V4"
    (suffix.Dereferenced (at 39 51) (at 39 52) ∷ suffix.Selected (at 39 55) (id (at 39 56) "Right1") ∷ suffix.Selected
    (at 39 62) (id (at 39 63) "Left1") ∷ []))) (next_arg.FurtherArg (at 39 68) (actual_of (at 39 70) (primary.Null (at
    39 70))) ∷ []) (at 39 74)))) (at 39 75))) [] (at 40 4) (at 40 8) (at 40 10) ∷ stmt.If (at 41 1) (expr.AndThen (at 41
    4) (rel.Compared (at 41 4) (sum_of (at 41 4) (object (at 41 4) "V4")) relational.NotEqual (at 41 7) (sum_of (at 41
    10) (primary.Null (at 41 10)))) (at 41 15) (at 41 19) (rel.Compared (at 41 24) (sum_of (at 41 24) (named (at 41 24)
    "V4" (suffix.Dereferenced (at 41 26) (at 41 27) ∷ suffix.Selected (at 41 30) (id (at 41 31) "Right1") ∷ [])))
    relational.NotEqual (at 41 38) (sum_of (at 41 41) (primary.Null (at 41 41)))) []) (at 41 46) (sole (at 42 4)
    (assign_of (at 42 4) "V4" (suffix.Dereferenced (at 42 6) (at 42 7) ∷ suffix.Selected (at 42 10) (id (at 42 11)
    "Right1") ∷ suffix.Selected (at 42 17) (id (at 42 18) "Right1") ∷ []) (at 42 25) (expr_of (at 42 28) (object (at 42
    28) "V3")) (at 42 30))) [] (at 43 4) (at 43 8) (at 43 10) ∷ stmt.DeclareBlock (at 44 1) (initialized_of (id (at 45
    7) "V5") [] (at 45 10) None (indication_of (mark (at 45 12) "Tree1")) (at 45 18) (expr_of (at 45 21)
    (primary.AllocatedAggregate (at 45 21) (mark (at 45 25) "Node1") (at 45 30) (aggregate.Several (at 45 31)
    (association_of (id (at 45 32) "Key1") (at 45 37) (expr_of (at 45 40) (primary.Number (at 45 40) 38))) (at 45 42)
    (association_of (id (at 45 44) "Left1") (at 45 50) (expr_of (at 45 53) (primary.Null (at 45 53))))
    (next_arg.FurtherArg (at 45 57) (association_of (id (at 45 59) "Right1") (at 45 66) (expr_of (at 45 69)
    (primary.Null (at 45 69)))) ∷ []) (at 45 73)))) (at 45 74) ∷ initialized_of (id (at 46 1) "V6") [] (at 46 4) None
    (indication_of (mark (at 46 6) "Tree1")) (at 46 12) (expr_of (at 46 15) (object (at 46 15) "V4")) (at 46 17) ∷ [])
    (at 47 7) (stmts.Sequence (at 48 4) (stmt.If (at 48 4) (expr.AndThen (at 48 7) (rel.Compared (at 48 7) (sum_of (at
    48 7) (object (at 48 7) "V6")) relational.NotEqual (at 48 10) (sum_of (at 48 13) (primary.Null (at 48 13)))) (at 48
    18) (at 48 22) (rel.Compared (at 48 27) (sum_of (at 48 27) (named (at 48 27) "V6" (suffix.Selected (at 48 29) (id
    (at 48 30) "Left1") ∷ []))) relational.NotEqual (at 48 36) (sum_of (at 48 39) (primary.Null (at 48 39)))) []) (at 48
    44) (sole (at 49 1) (assign_of (at 49 1) "V6" (suffix.Selected (at 49 3) (id (at 49 4) "Left1") ∷ suffix.Selected
    (at 49 9) (id (at 49 10) "Left1") ∷ []) (at 49 16) (expr_of (at 49 19) (primary.AllocatedAggregate (at 49 19) (mark
    (at 49 23) "Zj") (at 49 25) (aggregate.Several (at 49 26) (actual_of (at 49 27) (primary.Number (at 49 27) 39)) (at
    49 29) (actual_of (at 49 31) (named (at 49 31) "V6" (suffix.Selected (at 49 33) (id (at 49 34) "Left1") ∷
    suffix.Selected (at 49 39) (id (at 49 40) "Left1") ∷ []))) (next_arg.FurtherArg (at 49 45) (actual_of (at 49 47)
    (primary.Null (at 49 47))) ∷ []) (at 49 51)))) (at 49 52))) [] (at 50 1) (at 50 5) (at 50 7)) (stmt.If (at 51 4)
    (expr.AndThen (at 51 7) (rel.Compared (at 51 7) (sum_of (at 51 7) (named (at 51 7) "V5" (suffix.Selected (at 51 9)
    (id (at 51 10) "Right1") ∷ []))) relational.NotEqual (at 51 17) (sum_of (at 51 20) (primary.Null (at 51 20)))) (at
    51 25) (at 51 29) (rel.Compared (at 51 34) (sum_of (at 51 34) (named (at 51 34) "V5" (suffix.Selected (at 51 36) (id
    (at 51 37) "Right1") ∷ suffix.Selected (at 51 43) (id (at 51 44) "Left1") ∷ []))) relational.NotEqual (at 51 50)
    (sum_of (at 51 53) (primary.Null (at 51 53)))) []) (at 51 58) (sole (at 52 1) (assign_of (at 52 1) "V5"
    (suffix.Selected (at 52 3) (id (at 52 4) "Right1") ∷ suffix.Selected (at 52 10) (id (at 52 11) "Left1") ∷
    suffix.Selected (at 52 16) (id (at 52 17) "Right1") ∷ []) (at 52 24) (expr_of (at 52 27) (primary.AllocatedAggregate
    (at 52 27) (mark (at 52 31) "Node1") (at 52 36) (aggregate.Several (at 52 37) (actual_of (at 52 38) (named (at 52
    38) "Positive" (suffix.Attribute (at 52 46) (id (at 52 47) "First") ∷ []))) (at 52 52) (actual_of (at 52 54) (named
    (at 52 54) "V5" (suffix.Selected (at 52 56) (id (at 52 57) "Right1") ∷ suffix.Selected (at 52 63) (id (at 52 64)
    "Left1") ∷ suffix.Selected (at 52 69) (id (at 52 70) "Right1") ∷ []))) (next_arg.FurtherArg (at 52 76) (actual_of
    (at 52 78) (primary.Null (at 52 78))) ∷ []) (at 52 82)))) (at 52 83))) [] (at 53 1) (at 53 5) (at 53 7) ∷ [])) (at
    54 4) (at 54 7) ∷ [])) (at 55 1) None (at 55 4)) ∷ []) ∷ [])
unfolding computes resolves
random_n5_3 = refl

random_n6_1 : IsFirstBrokenOf WrongEnd (at 47 8) ((unit.OfSubprogram (at 1 4) (context.With (at 1 4) (selected (at 1 9)
    "Ada" (at 1 12) (at 1 13) "Text_IO") [] (at 1 20) ∷ use_context (use_of (at 1 22) None (selected (at 1 26) "Ada" (at
    1 29) (at 1 30) "Text_IO") [] (at 1 37)) ∷ context.With (at 2 1) (selected (at 2 6) "Ada" (at 2 9) (at 2 10)
    "Integer_Text_IO") [] (at 2 25) ∷ use_context (use_of (at 2 27) None (selected (at 2 31) "Ada" (at 2 34) (at 2 35)
    "Integer_Text_IO") [] (at 2 50)) ∷ context.With (at 3 7) (selected (at 3 12) "Ada" (at 3 15) (at 3 16)
    "Unchecked_Deallocation") [] (at 3 38) ∷ []) (subprogram_of (at 4 4) (subspec.Procedure (at 4 4) (id (at 4 14)
    "Main") None) (Some (mode_of (at 4 19) (id (at 4 24) "SPARK_Mode") None)) (at 4 35) (item.IncompleteType (at 5 7)
    (id (at 5 12) "Cell1") (at 5 17) ∷ item.AccessType (at 6 1) (id (at 6 6) "List1") (at 6 12) (at 6 15) (mark (at 6
    22) "Cell1") (at 6 27) ∷ item.RecordType (at 7 4) (id (at 7 9) "Cell1") (at 7 15) (at 7 18) (fields_of (id (at 7 25)
    "Next1") [] (at 7 31) (mark (at 7 33) "List1") (at 7 38)) (fields_of (id (at 7 40) "Val1") [] (at 7 45) (mark (at 7
    47) "Integer") (at 7 54) ∷ []) (at 7 56) (at 7 60) (at 7 66) ∷ item.IncompleteType (at 8 1) (id (at 8 6) "Cell2")
    (at 8 11) ∷ item.AccessType (at 9 1) (id (at 9 6) "List2") (at 9 12) (at 9 15) (mark (at 9 22) "Cell2") (at 9 27) ∷
    item.RecordType (at 10 1) (id (at 10 6) "Cell2") (at 10 12) (at 10 15) (fields_of (id (at 10 22) "Next2") [] (at 10
    28) (mark (at 10 30) "List2") (at 10 35)) (fields_of (id (at 10 37) "Val2") [] (at 10 42) (mark (at 10 44)
    "Integer") (at 10 51) ∷ []) (at 10 53) (at 10 57) (at 10 63) ∷ item.Instance (at 11 1) (id (at 11 11) "Free1") (at
    11 17) (at 11 20) (selected (at 11 24) "Ada" (at 11 27) (at 11 28) "Unchecked_Deallocation") (at 11 51) (actual_of
    (at 11 52) (object (at 11 52) "Cell2")) (next_arg.FurtherArg (at 11 57) (actual_of (at 11 59) (object (at 11 59)
    "List2")) ∷ []) (at 11 64) (at 11 65) ∷ objects_of (id (at 12 1) "V1") [] (at 12 4) None (indication_of (mark (at 12
    6) "List2")) (at 12 11) ∷ initialized_of (id (at 13 1) "V2") [] (at 13 4) None (indication_of (mark (at 13 6)
    "List1")) (at 13 12) (expr_of (at 13 15) (primary.AllocatedAggregate (at 13 15) (mark (at 13 19) "Cell1") (at 13 24)
    (aggregate.Several (at 13 25) (actual_of (at 13 26) (primary.Null (at 13 26))) (at 13 30) (actual_of (at 13 32)
    (primary.Parenthesized (at 13 32) (expr.LoneRelation (at 13 33) (rel.LoneSum (at 13 33) (sum.Signed (at 13 33)
    sign.Minus (term_of (at 13 34) (primary.Number (at 13 34) 7)) []))) (at 13 35))) [] (at 13 36)))) (at 13 37) ∷
    initialized_of (id (at 14 1) "V3") [] (at 14 4) None (indication_of (mark (at 14 6) "Cell1")) (at 14 12) (expr_of
    (at 14 15) (primary.Aggregated (at 14 15) (aggregate.Several (at 14 15) (actual_of (at 14 16) (primary.Null (at 14
    16))) (at 14 20) (actual_of (at 14 22) (named (at 14 22) "V2" (suffix.Dereferenced (at 14 24) (at 14 25) ∷
    suffix.Selected (at 14 28) (id (at 14 29) "Val1") ∷ []))) [] (at 14 33)))) (at 14 34) ∷ objects_of (id (at 15 1)
    "V4") [] (at 15 4) None (indication_of (mark (at 15 6) "Cell1")) (at 15 11) ∷ []) (at 16 1) (stmts.Sequence (at 17
    4) (stmt.If (at 17 4) (expr.LoneRelation (at 17 7) (rel.Compared (at 17 7) (sum_of (at 17 7) (object (at 17 7)
    "V1")) relational.NotEqual (at 17 10) (sum_of (at 17 13) (primary.Null (at 17 13))))) (at 17 18) (sole (at 18 7)
    (call_of (at 18 7) "Free1" (suffix.Applied (at 18 13) (actual_of (at 18 14) (named (at 18 14) "V1"
    (suffix.Dereferenced (at 18 16) (at 18 17) ∷ suffix.Selected (at 18 20) (id (at 18 21) "Next2") ∷ []))) [] (at 18
    26) ∷ []) (at 18 27))) [] (at 19 4) (at 19 8) (at 19 10)) (assign_of (at 20 1) "V4" (suffix.Selected (at 20 3) (id
    (at 20 4) "Next1") ∷ []) (at 20 10) (expr_of (at 20 13) (primary.AllocatedAggregate (at 20 13) (mark (at 20 17)
    "Cell1") (at 20 22) (aggregate.Several (at 20 23) (actual_of (at 20 24) (named (at 20 24) "V4" (suffix.Selected (at
    20 26) (id (at 20 27) "Next1") ∷ []))) (at 20 32) (actual_of (at 20 34) (named (at 20 34) "V3" (suffix.Selected (at
    20 36) (id (at 20 37) "Val1") ∷ []))) [] (at 20 41)))) (at 20 42) ∷ assign_of (at 21 7) "V1" [] (at 21 10) (expr_of
    (at 21 13) (primary.AllocatedAggregate (at 21 13) (mark (at 21 17) "Cell2") (at 21 22) (aggregate.Several (at 21 23)
    (actual_of (at 21 24) (object (at 21 24) "V1")) (at 21 26) (actual_of (at 21 28) (primary.Number (at 21 28) 9)) []
    (at 21 29)))) (at 21 30) ∷ stmt.If (at 22 4) (expr.AndThen (at 22 7) (rel.Compared (at 22 7) (sum_of (at 22 7)
    (named (at 22 7) "V1" (suffix.Selected (at 22 9) (id (at 22 10) "Next2") ∷ []))) relational.NotEqual (at 22 16)
    (sum_of (at 22 19) (primary.Null (at 22 19)))) (at 22 24) (at 22 28) (rel.Compared (at 22 33) (sum_of (at 22 33)
    (named (at 22 33) "V1" (suffix.Selected (at 22 35) (id (at 22 36) "Next2") ∷ suffix.Dereferenced (at 22 41) (at 22
    42) ∷ suffix.Selected (at 22 45) (id (at 22 46) "Next2") ∷ []))) relational.NotEqual (at 22 52) (sum_of (at 22 55)
    (primary.Null (at 22 55)))) []) (at 22 60) (sole (at 23 1) (assign_of (at 23 1) "V1" (suffix.Selected (at 23 3) (id
    (at 23 4) "Next2") ∷ suffix.Dereferenced (at 23 9) (at 23 10) ∷ []) (at 23 14) (expr_of (at 23 17) (named (at 23 17)
    "V1" (suffix.Selected (at 23 19) (id (at 23 20) "Next2") ∷ suffix.Dereferenced (at 23 25) (at 23 26) ∷
    suffix.Selected (at 23 29) (id (at 23 30) "Next2") ∷ suffix.Dereferenced (at 23 35) (at 23 36) ∷ []))) (at 23 39)))
    [] (at 24 4) (at 24 8) (at 24 10) ∷ stmt.DeclareBlock (at 25 1) (initialized_of (id (at 26 1) "B1") [] (at 26 4)
    None (indication.Anonymous (at 26 6) None (mark (at 26 13) "Cell1")) (at 26 19) (expr_of (at 26 22) (named (at 26
    22) "V4" (suffix.Selected (at 26 24) (id (at 26 25) "Next1") ∷ []))) (at 26 30) ∷ objects_of (id (at 27 7) "V5")
    (next_id_of (at 27 9) (at 27 11) "V6" ∷ []) (at 27 14) None (indication_of (mark (at 27 16) "Cell2")) (at 27 21) ∷
    []) (at 28 1) (stmts.Sequence (at 29 7) (call_of (at 29 7) "Put" (suffix.Applied (at 29 11) (actual_of (at 29 12)
    (primary.Text (at 29 12) (codes "\"--\""))) [] (at 29 16) ∷ []) (at 29 17)) (stmt.While (at 30 1) (expr.LoneRelation
    (at 30 7) (rel.Compared (at 30 7) (sum_of (at 30 7) (object (at 30 7) "B1")) relational.NotEqual (at 30 10) (sum_of
    (at 30 13) (primary.Null (at 30 13))))) (at 30 18) (stmts.Sequence (at 31 7) (stmt.For (at 31 7) (id (at 31 11)
    "I1") (at 31 14) None (range.Bounds (at 31 17) (expr_of (at 31 17) (primary.Number (at 31 17) 1)) (at 31 19)
    (expr_of (at 31 22) (primary.Number (at 31 22) 4))) (at 31 24) (sole (at 32 1) (assign_of (at 32 1) "V1" [] (at 32
    4) (expr_of (at 32 7) (primary.AllocatedAggregate (at 32 7) (mark (at 32 11) "Cell2") (at 32 16) (aggregate.Several
    (at 32 17) (actual_of (at 32 18) (object (at 32 18) "V1")) (at 32 20) (actual_of (at 32 22) (object (at 32 22)
    "I1")) [] (at 32 24)))) (at 32 25))) (at 33 7) (at 33 11) (at 33 15)) (stmt.DeclareBlock (at 34 1) (initialized_of
    (id (at 35 1) "C1") [] (at 35 4) None (indication.Anonymous (at 35 6) (Some (at 35 13)) (mark (at 35 22) "Cell1"))
    (at 35 28) (expr_of (at 35 31) (object (at 35 31) "B1")) (at 35 33) ∷ []) (at 36 1) (sole (at 37 4) (stmt.While (at
    37 4) (expr.LoneRelation (at 37 10) (rel.Compared (at 37 10) (sum_of (at 37 10) (object (at 37 10) "C1"))
    relational.NotEqual (at 37 13) (sum_of (at 37 16) (primary.Null (at 37 16))))) (at 37 21) (stmts.Sequence (at 38 4)
    (call_of (at 38 4) "Put" (suffix.Applied (at 38 8) (actual_of (at 38 9) (named (at 38 9) "Integer" (suffix.Attribute
    (at 38 16) (id (at 38 17) "Image") ∷ suffix.Applied (at 38 23) (actual_of (at 38 24) (primary.Number (at 38 24) 34))
    [] (at 38 26) ∷ []))) [] (at 38 27) ∷ []) (at 38 28)) (stmt.Exit (at 39 1) (at 39 5) ∷ assign_of (at 40 1) "C1" []
    (at 40 4) (expr_of (at 40 7) (named (at 40 7) "C1" (suffix.Selected (at 40 9) (id (at 40 10) "Next1") ∷ []))) (at 40
    15) ∷ [])) (at 41 7) (at 41 11) (at 41 15))) (at 42 7) (at 42 10) ∷ assign_of (at 43 1) "B1" [] (at 43 4) (expr_of
    (at 43 7) (named (at 43 7) "B1" (suffix.Selected (at 43 9) (id (at 43 10) "Next1") ∷ []))) (at 43 15) ∷ [])) (at 44
    4) (at 44 8) (at 44 12) ∷ call_of (at 45 7) "Put_Line" (suffix.Applied (at 45 16) (actual_of (at 45 17) (named (at
    45 17) "Natural" (suffix.Attribute (at 45 24) (id (at 45 25) "Image") ∷ suffix.Applied (at 45 31) (actual_of (at 45
    32) (primary.Number (at 45 32) 21)) [] (at 45 34) ∷ []))) [] (at 45 35) ∷ []) (at 45 36) ∷ [])) (at 46 7) (at 46 10)
    ∷ [])) (at 47 4) (Some (id (at 47 8) "Cell2")) (at 47 13)) ∷ []) ∷ [])
unfolding computes resolves
random_n6_1 = refl
