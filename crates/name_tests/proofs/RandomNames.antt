-- Random programs with declarations of many kinds, which break N1 to N4.
--
-- tools/tree_terms.py makes this of the sources that data/cases.txt has under its name.
use Rattle.std.proofs.Common.{refl, [], ◌∷◌}
use Rattle.std.specs.Prelude.{None, Some, codes}
use Rattle.ada_tree.specs.declared.operator.AddingOperator.TheVariants as adding
use Rattle.ada_tree.specs.declared.expression.Aggregate.TheVariants as aggregate
use Rattle.ada_tree.specs.declared.statement.When.TheVariants as alternative
use Rattle.ada_tree.specs.declared.expression.Arg.TheVariants as arg
use Rattle.ada_tree.specs.declared.statement.Elsif.TheVariants as branch
use Rattle.ada_tree.specs.declared.range.Choice.TheVariants as choice
use Rattle.ada_tree.specs.declared.unit.Context.TheVariants as context
use Rattle.ada_tree.specs.declared.expression.Expr.TheVariants as expr
use Rattle.ada_tree.specs.declared.expression.Factor.TheVariants as factor
use Rattle.ada_tree.specs.declared.declaration.Indication.TheVariants as indication
use Rattle.ada_tree.specs.declared.declaration.Item.TheVariants as item
use Rattle.ada_tree.specs.declared.operator.MultiplyingOperator.TheVariants as multiplying
use Rattle.ada_tree.specs.declared.expression.NextArg.TheVariants as next_arg
use Rattle.ada_tree.specs.declared.range.NextChoice.TheVariants as next_choice
use Rattle.ada_tree.specs.declared.identifier.NextDotted.TheVariants as next_dotted
use Rattle.ada_tree.specs.declared.expression.NextFactor.TheVariants as next_factor
use Rattle.ada_tree.specs.declared.expression.NextTerm.TheVariants as next_term
use Rattle.ada_tree.specs.declared.expression.Operand.TheVariants as operand
use Rattle.ada_tree.specs.declared.expression.Primary.TheVariants as primary
use Rattle.ada_tree.specs.declared.range.Range.TheVariants as range
use Rattle.ada_tree.specs.declared.expression.Rel.TheVariants as rel
use Rattle.ada_tree.specs.declared.operator.RelationalOperator.TheVariants as relational
use Rattle.ada_tree.specs.declared.operator.Sign.TheVariants as sign
use Rattle.ada_tree.specs.declared.statement.Stmt.TheVariants as stmt
use Rattle.ada_tree.specs.declared.statement.Stmts.TheVariants as stmts
use Rattle.ada_tree.specs.declared.subprogram.Subspec.TheVariants as subspec
use Rattle.ada_tree.specs.declared.expression.Suffix.TheVariants as suffix
use Rattle.ada_tree.specs.declared.expression.Sum.TheVariants as sum
use Rattle.ada_tree.specs.declared.expression.Term.TheVariants as term
use Rattle.ada_tree.specs.declared.unit.SourceUnit.TheVariants as unit
use Rattle.ada_grammar.proofs.SmallSources.{computes}
use Rattle.name_events.specs.declared.declaration.NameRule.TheVariants.{NotVisible, TooEarly, Twice, Unknown}
use Rattle.name_tests.proofs.SmallRules.{resolves}
use Rattle.name_tests.proofs.SourceTrees.{IsFirstBrokenOf, actual_of, assign_of, association_of, at, call_of, constrained_of, expr_of, factor_of, fields_of, id, indication_of, initialized_of, mark, marked_of, named, next_id_of, numbers_of, object, objects_of, pragma_context, pragma_of, pragma_on, rel_of, selected, sole, subprogram_of, sum_of, term_of, use_context, use_of}

random_n1_1 : IsFirstBrokenOf Unknown (at 16 10) ((unit.OfSubprogram (at 1 1) (pragma_context (pragma_of (at 1 1) (id
    (at 1 8) "SPARK_Mode") (Some (pragma_on (at 1 19) (id (at 1 20) "On") (at 1 22))) (at 1 23)) ∷ context.With (at 2 1)
    (selected (at 2 6) "Ada" (at 2 9) (at 2 10) "Text_IO") (next_dotted.FurtherDotted (at 2 17) (selected (at 2 19)
    "Ada" (at 2 22) (at 2 23) "Integer_Text_IO") ∷ next_dotted.FurtherDotted (at 2 38) (selected (at 2 40) "Ada" (at 2
    43) (at 2 44) "Unchecked_Deallocation") ∷ []) (at 2 66) ∷ use_context (use_of (at 3 1) None (selected (at 3 5) "Ada"
    (at 3 8) (at 3 9) "Text_IO") (next_dotted.FurtherDotted (at 3 16) (selected (at 3 18) "Ada" (at 3 21) (at 3 22)
    "Integer_Text_IO") ∷ []) (at 3 37)) ∷ []) (subprogram_of (at 4 1) (subspec.Procedure (at 4 1) (id (at 4 11) "Main")
    None) None (at 4 16) (item.AccessType (at 5 1) (id (at 5 6) "P1") (at 5 9) (at 5 12) (mark (at 5 19) "Integer") (at
    5 26) ∷ item.RecordType (at 6 1) (id (at 6 6) "R1") (at 6 9) (at 6 12) (fields_of (id (at 6 19) "F1") [] (at 6 22)
    (mark (at 6 24) "Integer") (at 6 31)) [] (at 6 33) (at 6 37) (at 6 43) ∷ item.ConstrainedSubtype (at 7 1) (id (at 7
    9) "S1") (at 7 12) (mark (at 7 15) "Positive") (at 7 24) (expr_of (at 7 30) (primary.Number (at 7 30) 1)) (at 7 32)
    (expr_of (at 7 35) (primary.Number (at 7 35) 9)) (at 7 36) ∷ initialized_of (id (at 8 1) "V1") [] (at 8 4) None
    (indication_of (mark (at 8 6) "P1")) (at 8 9) (expr_of (at 8 12) (primary.AllocatedValue (at 8 12) (mark (at 8 16)
    "Integer") (at 8 23) (at 8 24) (expr_of (at 8 25) (primary.Number (at 8 25) 18)) (at 8 27))) (at 8 28) ∷
    initialized_of (id (at 9 1) "V2") [] (at 9 4) None (indication_of (mark (at 9 6) "S1")) (at 9 9) (expr_of (at 9 12)
    (primary.Number (at 9 12) 1)) (at 9 13) ∷ objects_of (id (at 10 1) "V3") (next_id_of (at 10 3) (at 10 5) "V4" ∷ [])
    (at 10 8) None (indication_of (mark (at 10 10) "Boolean")) (at 10 17) ∷ objects_of (id (at 11 1) "V5") (next_id_of
    (at 11 3) (at 11 5) "V6" ∷ []) (at 11 8) None (indication_of (mark (at 11 10) "Boolean")) (at 11 17) ∷ []) (at 12 1)
    (stmts.Sequence (at 13 1) (assign_of (at 13 1) "V1" [] (at 13 4) (expr_of (at 13 7) (object (at 13 7) "V1")) (at 13
    9)) (assign_of (at 14 1) "V3" [] (at 14 4) (expr.LoneRelation (at 14 7) (rel.Compared (at 14 7) (sum_of (at 14 7)
    (primary.Parenthesized (at 14 7) (expr.LoneRelation (at 14 8) (rel.LoneSum (at 14 8) (sum.Signed (at 14 8)
    sign.Minus (term_of (at 14 9) (primary.Number (at 14 9) 19)) []))) (at 14 11))) relational.NotEqual (at 14 13)
    (sum_of (at 14 16) (object (at 14 16) "V2")))) (at 14 18) ∷ stmt.If (at 15 1) (expr_of (at 15 4) (object (at 15 4)
    "V3")) (at 15 7) (stmts.Sequence (at 16 1) (assign_of (at 16 1) "V6" (suffix.Selected (at 16 3) (id (at 16 4) "F1")
    ∷ []) (at 16 7) (expr_of (at 16 10) (named (at 16 10) "F1" (suffix.Attribute (at 16 12) (id (at 16 13) "Last") ∷
    []))) (at 16 17)) (assign_of (at 17 1) "V1" [] (at 17 4) (expr_of (at 17 7) (object (at 17 7) "V1")) (at 17 9) ∷
    [])) (branch.Branch (at 18 1) (expr.LoneRelation (at 18 7) (rel.Compared (at 18 7) (sum_of (at 18 7) (object (at 18
    7) "V3")) relational.NotEqual (at 18 10) (sum_of (at 18 13) (primary.Null (at 18 13))))) (at 18 18) (stmts.Sequence
    (at 19 1) (assign_of (at 19 1) "V1" [] (at 19 4) (expr_of (at 19 7) (primary.AllocatedValue (at 19 7) (mark (at 19
    11) "Integer") (at 19 18) (at 19 19) (expr_of (at 19 20) (primary.Number (at 19 20) 39)) (at 19 22))) (at 19 23))
    (assign_of (at 20 1) "V1" [] (at 20 4) (expr_of (at 20 7) (object (at 20 7) "V1")) (at 20 9) ∷ [])) ∷ []) (at 21 1)
    (at 21 5) (at 21 7) ∷ assign_of (at 22 1) "V1" [] (at 22 4) (expr_of (at 22 7) (primary.AllocatedValue (at 22 7)
    (mark (at 22 11) "Integer") (at 22 18) (at 22 19) (expr_of (at 22 20) (primary.Number (at 22 20) 9)) (at 22 21)))
    (at 22 22) ∷ [])) (at 23 1) (Some (id (at 23 5) "Main")) (at 23 9)) ∷ []) ∷ [])
unfolding computes resolves
random_n1_1 = refl

random_n1_2 : IsFirstBrokenOf Unknown (at 20 6) ((unit.OfSubprogram (at 1 4) (context.With (at 1 4) (selected (at 1 9)
    "Ada" (at 1 12) (at 1 13) "Text_IO") [] (at 1 20) ∷ use_context (use_of (at 1 22) None (selected (at 1 26) "Ada" (at
    1 29) (at 1 30) "Text_IO") [] (at 1 37)) ∷ context.With (at 2 1) (selected (at 2 6) "Ada" (at 2 9) (at 2 10)
    "Integer_Text_IO") [] (at 2 25) ∷ use_context (use_of (at 2 27) None (selected (at 2 31) "Ada" (at 2 34) (at 2 35)
    "Integer_Text_IO") [] (at 2 50)) ∷ context.With (at 3 4) (selected (at 3 9) "Ada" (at 3 12) (at 3 13)
    "Unchecked_Deallocation") [] (at 3 35) ∷ []) (subprogram_of (at 4 1) (subspec.Procedure (at 4 1) (id (at 4 11)
    "Main") None) None (at 4 16) (item.EnumerationType (at 5 1) (id (at 5 6) "E1") (at 5 9) (at 5 12) (id (at 5 13)
    "Lit_1") (next_id_of (at 5 18) (at 5 20) "Lit_2" ∷ []) (at 5 25) (at 5 26) ∷ item.IncompleteType (at 6 1) (id (at 6
    6) "MA1") (at 6 9) ∷ item.IncompleteType (at 6 11) (id (at 6 16) "MB1") (at 6 19) ∷ item.AccessType (at 7 4) (id (at
    7 9) "PA1") (at 7 13) (at 7 16) (mark (at 7 23) "MA1") (at 7 26) ∷ item.AccessType (at 8 1) (id (at 8 6) "PB1") (at
    8 10) (at 8 13) (mark (at 8 20) "MB1") (at 8 23) ∷ item.RecordType (at 9 1) (id (at 9 6) "MA1") (at 9 10) (at 9 13)
    (fields_of (id (at 9 20) "To1") [] (at 9 24) (mark (at 9 26) "PB1") (at 9 29)) (fields_of (id (at 9 31) "N1") [] (at
    9 34) (mark (at 9 36) "Integer") (at 9 43) ∷ []) (at 9 45) (at 9 49) (at 9 55) ∷ item.RecordType (at 10 1) (id (at
    10 6) "MB1") (at 10 10) (at 10 13) (fields_of (id (at 10 20) "Fro1") [] (at 10 25) (mark (at 10 27) "PA1") (at 10
    30)) [] (at 10 32) (at 10 36) (at 10 42) ∷ item.IncompleteType (at 11 1) (id (at 11 6) "Cell1") (at 11 11) ∷
    item.AccessType (at 12 7) (id (at 12 12) "List1") (at 12 18) (at 12 21) (mark (at 12 28) "Cell1") (at 12 33) ∷
    item.RecordType (at 13 1) (id (at 13 6) "Cell1") (at 13 12) (at 13 15) (fields_of (id (at 13 22) "Val1") [] (at 13
    27) (mark (at 13 29) "Integer") (at 13 36)) (fields_of (id (at 13 38) "Next1") [] (at 13 44) (mark (at 13 46)
    "List1") (at 13 51) ∷ fields_of (id (at 13 53) "X1") [] (at 13 56) (mark (at 13 58) "PA1") (at 13 61) ∷ []) (at 13
    63) (at 13 67) (at 13 73) ∷ item.Instance (at 14 4) (id (at 14 14) "Free1") (at 14 20) (at 14 23) (selected (at 14
    27) "Ada" (at 14 30) (at 14 31) "Unchecked_Deallocation") (at 14 54) (actual_of (at 14 55) (object (at 14 55)
    "Cell1")) (next_arg.FurtherArg (at 14 60) (actual_of (at 14 62) (object (at 14 62) "List1")) ∷ []) (at 14 67) (at 14
    68) ∷ objects_of (id (at 15 4) "V1") (next_id_of (at 15 6) (at 15 8) "V2" ∷ []) (at 15 11) None (indication_of (mark
    (at 15 13) "PA1")) (at 15 16) ∷ objects_of (id (at 16 7) "V3") (next_id_of (at 16 9) (at 16 11) "V4" ∷ []) (at 16
    14) None (indication_of (mark (at 16 16) "Cell1")) (at 16 21) ∷ objects_of (id (at 17 4) "V5") (next_id_of (at 17 6)
    (at 17 8) "V6" ∷ []) (at 17 11) None (indication_of (mark (at 17 13) "MA1")) (at 17 16) ∷ []) (at 18 1) (sole (at 19
    7) (stmt.DeclareBlock (at 19 7) (initialized_of (id (at 20 1) "V7") [] (at 20 4) None (indication_of (mark (at 20 6)
    "X1")) (at 20 9) (expr_of (at 20 12) (primary.Aggregated (at 20 12) (aggregate.Several (at 20 12) (actual_of (at 20
    13) (primary.Allocated (at 20 13) (mark (at 20 17) "MB1"))) (at 20 20) (actual_of (at 20 22) (named (at 20 22) "V3"
    (suffix.Selected (at 20 24) (id (at 20 25) "Val1") ∷ []))) [] (at 20 29)))) (at 20 30) ∷ initialized_of (id (at 21
    7) "V8") [] (at 21 10) None (indication_of (mark (at 21 12) "MA1")) (at 21 16) (expr_of (at 21 19)
    (primary.Aggregated (at 21 19) (aggregate.Several (at 21 19) (actual_of (at 21 20) (primary.AllocatedAggregate (at
    21 20) (mark (at 21 24) "MB1") (at 21 27) (aggregate.Single (at 21 28) (id (at 21 29) "Fro1") (at 21 34) (expr_of
    (at 21 37) (primary.Null (at 21 37))) (at 21 41)))) (at 21 42) (actual_of (at 21 44) (named (at 21 44) "Positive"
    (suffix.Attribute (at 21 52) (id (at 21 53) "First") ∷ []))) [] (at 21 58)))) (at 21 59) ∷ initialized_of (id (at 22
    4) "V9") [] (at 22 7) None (indication_of (mark (at 22 9) "PA1")) (at 22 13) (expr_of (at 22 16) (named (at 22 16)
    "V4" (suffix.Selected (at 22 18) (id (at 22 19) "X1") ∷ []))) (at 22 21) ∷ []) (at 23 4) (sole (at 24 4)
    (stmt.Return (at 24 4) (at 24 10))) (at 25 1) (at 25 4))) (at 26 1) (Some (id (at 26 5) "Main")) (at 26 9)) ∷ []) ∷
    [])
unfolding computes resolves
random_n1_2 = refl

random_n2_2 : IsFirstBrokenOf Twice (at 12 1) ((unit.OfSubprogram (at 1 1) (context.With (at 1 1) (selected (at 1 6)
    "Ada" (at 1 9) (at 1 10) "Text_IO") [] (at 1 17) ∷ use_context (use_of (at 1 19) None (selected (at 1 23) "Ada" (at
    1 26) (at 1 27) "Text_IO") [] (at 1 34)) ∷ context.With (at 2 1) (selected (at 2 6) "Ada" (at 2 9) (at 2 10)
    "Integer_Text_IO") [] (at 2 25) ∷ use_context (use_of (at 2 27) None (selected (at 2 31) "Ada" (at 2 34) (at 2 35)
    "Integer_Text_IO") [] (at 2 50)) ∷ context.With (at 3 1) (selected (at 3 6) "Ada" (at 3 9) (at 3 10)
    "Unchecked_Deallocation") [] (at 3 32) ∷ []) (subprogram_of (at 4 1) (subspec.Procedure (at 4 1) (id (at 4 11)
    "Main") None) None (at 4 16) (item.RecordType (at 5 1) (id (at 5 6) "R1") (at 5 9) (at 5 12) (fields_of (id (at 5
    19) "F1") [] (at 5 22) (mark (at 5 24) "Integer") (at 5 31)) (fields_of (id (at 5 33) "F2") [] (at 5 36) (mark (at 5
    38) "Integer") (at 5 45) ∷ []) (at 5 47) (at 5 51) (at 5 57) ∷ item.ConstrainedSubtype (at 6 1) (id (at 6 9) "S1")
    (at 6 12) (mark (at 6 15) "Natural") (at 6 23) (expr_of (at 6 29) (primary.Number (at 6 29) 3)) (at 6 31) (expr_of
    (at 6 34) (primary.Number (at 6 34) 10)) (at 6 36) ∷ item.RecordType (at 7 1) (id (at 7 6) "R2") (at 7 9) (at 7 12)
    (fields_of (id (at 7 19) "F3") [] (at 7 22) (mark (at 7 24) "S1") (at 7 26)) [] (at 7 28) (at 7 32) (at 7 38) ∷
    numbers_of (id (at 8 1) "K1") [] (at 8 4) (at 8 6) (at 8 15) (expr_of (at 8 18) (primary.Number (at 8 18) 0)) (at 8
    19) ∷ objects_of (id (at 9 1) "V1") (next_id_of (at 9 3) (at 9 5) "V2" ∷ []) (at 9 8) None (indication_of (mark (at
    9 10) "R2")) (at 9 12) ∷ initialized_of (id (at 10 1) "K2") [] (at 10 4) (Some (at 10 6)) (indication_of (mark (at
    10 15) "S1")) (at 10 18) (expr_of (at 10 21) (primary.Number (at 10 21) 4)) (at 10 22) ∷ objects_of (id (at 11 1)
    "V3") (next_id_of (at 11 3) (at 11 5) "V4" ∷ []) (at 11 8) None (indication_of (mark (at 11 10) "R1")) (at 11 12) ∷
    objects_of (id (at 12 1) "V3") (next_id_of (at 12 4) (at 12 6) "V4" ∷ []) (at 12 9) None (indication_of (mark (at 12
    11) "R1")) (at 12 14) ∷ initialized_of (id (at 13 1) "V5") [] (at 13 4) None (indication_of (mark (at 13 6)
    "Integer")) (at 13 14) (expr_of (at 13 17) (primary.Parenthesized (at 13 17) (expr.LoneRelation (at 13 18)
    (rel.LoneSum (at 13 18) (sum.Unsigned (at 13 18) (term.Product (at 13 18) (factor_of (at 13 18) (object (at 13 18)
    "K1")) (next_factor.FurtherFactor (at 13 21) multiplying.Remainder (factor_of (at 13 25) (primary.Number (at 13 25)
    6)) ∷ [])) []))) (at 13 26))) (at 13 27) ∷ objects_of (id (at 14 1) "T1") [] (at 14 4) None (indication_of (mark (at
    14 6) "Integer")) (at 14 13) ∷ []) (at 15 1) (stmts.Sequence (at 16 1) (stmt.If (at 16 1) (expr.LoneRelation (at 16
    4) (rel.Compared (at 16 4) (sum_of (at 16 4) (named (at 16 4) "V2" (suffix.Selected (at 16 6) (id (at 16 7) "F3") ∷
    []))) relational.Less (at 16 10) (sum_of (at 16 12) (object (at 16 12) "V5")))) (at 16 15) (sole (at 17 1)
    (assign_of (at 17 1) "V4" [] (at 17 4) (expr_of (at 17 7) (object (at 17 7) "V4")) (at 17 9))) [] (at 18 1) (at 18
    5) (at 18 7)) (assign_of (at 19 1) "V5" [] (at 19 4) (expr_of (at 19 7) (object (at 19 7) "K2")) (at 19 9) ∷ stmt.If
    (at 20 1) (expr.LoneRelation (at 20 4) (rel.LoneSum (at 20 4) (sum.Unsigned (at 20 4) (term.Product (at 20 4)
    (factor.Not (at 20 4) (object (at 20 8) "End_Of_File")) []) []))) (at 20 20) (sole (at 21 1) (call_of (at 21 1)
    "Get" (suffix.Applied (at 21 5) (actual_of (at 21 6) (named (at 21 6) "V3" (suffix.Selected (at 21 8) (id (at 21 9)
    "F1") ∷ []))) [] (at 21 11) ∷ []) (at 21 12))) [] (at 22 1) (at 22 5) (at 22 7) ∷ assign_of (at 23 1) "T1" [] (at 23
    4) (expr_of (at 23 7) (primary.Number (at 23 7) 0)) (at 23 8) ∷ stmt.While (at 24 1) (expr.AndThen (at 24 7)
    (rel.Compared (at 24 7) (sum_of (at 24 7) (object (at 24 7) "T1")) relational.Less (at 24 10) (sum_of (at 24 12)
    (primary.Number (at 24 12) 7))) (at 24 14) (at 24 18) (rel_of (at 24 23) (primary.Parenthesized (at 24 23)
    (expr.LoneRelation (at 24 24) (rel.Compared (at 24 24) (sum_of (at 24 24) (named (at 24 24) "S1" (suffix.Attribute
    (at 24 26) (id (at 24 27) "First") ∷ []))) relational.Equal (at 24 33) (sum_of (at 24 35) (object (at 24 35)
    "V5")))) (at 24 37))) []) (at 24 39) (stmts.Sequence (at 25 1) (stmt.For (at 25 1) (id (at 25 5) "I1") (at 25 8)
    None (marked_of (mark (at 25 11) "Boolean")) (at 25 19) (stmts.Sequence (at 26 1) (assign_of (at 26 1) "T1" [] (at
    26 4) (expr_of (at 26 7) (primary.Number (at 26 7) 37)) (at 26 9)) (assign_of (at 27 1) "V3" (suffix.Selected (at 27
    3) (id (at 27 4) "F1") ∷ []) (at 27 7) (expr_of (at 27 10) (named (at 27 10) "V3" (suffix.Selected (at 27 12) (id
    (at 27 13) "F2") ∷ []))) (at 27 15) ∷ assign_of (at 28 1) "V3" (suffix.Selected (at 28 3) (id (at 28 4) "F2") ∷ [])
    (at 28 7) (expr_of (at 28 10) (object (at 28 10) "V5")) (at 28 12) ∷ assign_of (at 29 1) "V5" [] (at 29 4) (expr_of
    (at 29 7) (named (at 29 7) "V3" (suffix.Selected (at 29 9) (id (at 29 10) "F1") ∷ []))) (at 29 12) ∷ [])) (at 30 1)
    (at 30 5) (at 30 9)) (call_of (at 31 1) "Put_Line" (suffix.Applied (at 31 10) (actual_of (at 31 11) (primary.Text
    (at 31 11) (codes "\"~\""))) [] (at 31 14) ∷ []) (at 31 15) ∷ assign_of (at 32 1) "T1" [] (at 32 4)
    (expr.LoneRelation (at 32 7) (rel.LoneSum (at 32 7) (sum.Unsigned (at 32 7) (term_of (at 32 7) (object (at 32 7)
    "T1")) (next_term.FurtherTerm (at 32 10) adding.Add (term_of (at 32 12) (primary.Number (at 32 12) 1)) ∷ [])))) (at
    32 13) ∷ [])) (at 33 1) (at 33 5) (at 33 9) ∷ stmt.IfElse (at 34 1) (expr_of (at 34 4) (object (at 34 4)
    "End_Of_File")) (at 34 16) (stmts.Sequence (at 35 1) (call_of (at 35 1) "Put" (suffix.Applied (at 35 5) (actual_of
    (at 35 6) (primary.Text (at 35 6) (codes "\"a\""))) [] (at 35 9) ∷ []) (at 35 10)) (assign_of (at 36 1) "V2" [] (at
    36 4) (expr_of (at 36 7) (primary.Aggregated (at 36 7) (aggregate.Single (at 36 7) (id (at 36 8) "F3") (at 36 11)
    (expr_of (at 36 14) (primary.Number (at 36 14) 3)) (at 36 15)))) (at 36 16) ∷ assign_of (at 37 1) "T1" [] (at 37 4)
    (expr_of (at 37 7) (primary.Number (at 37 7) 0)) (at 37 8) ∷ stmt.While (at 38 1) (expr.LoneRelation (at 38 7)
    (rel.Compared (at 38 7) (sum_of (at 38 7) (object (at 38 7) "T1")) relational.Less (at 38 10) (sum_of (at 38 12)
    (primary.Number (at 38 12) 5)))) (at 38 14) (stmts.Sequence (at 39 1) (assign_of (at 39 1) "V3" [] (at 39 4)
    (expr_of (at 39 7) (primary.Aggregated (at 39 7) (aggregate.Several (at 39 7) (actual_of (at 39 8) (primary.Number
    (at 39 8) 18)) (at 39 10) (actual_of (at 39 12) (primary.Parenthesized (at 39 12) (expr.LoneRelation (at 39 13)
    (rel.LoneSum (at 39 13) (sum.Unsigned (at 39 13) (term.Product (at 39 13) (factor_of (at 39 13) (primary.Number (at
    39 13) 1)) (next_factor.FurtherFactor (at 39 15) multiplying.Multiply (factor_of (at 39 17) (primary.Number (at 39
    17) 9)) ∷ [])) []))) (at 39 18))) [] (at 39 19)))) (at 39 20)) (assign_of (at 40 1) "V4" (suffix.Selected (at 40 3)
    (id (at 40 4) "F1") ∷ []) (at 40 7) (expr_of (at 40 10) (primary.Parenthesized (at 40 10) (expr.LoneRelation (at 40
    11) (rel.LoneSum (at 40 11) (sum.Unsigned (at 40 11) (term_of (at 40 11) (primary.Number (at 40 11) 9))
    (next_term.FurtherTerm (at 40 13) adding.Subtract (term_of (at 40 15) (named (at 40 15) "V3" (suffix.Selected (at 40
    17) (id (at 40 18) "F2") ∷ []))) ∷ [])))) (at 40 20))) (at 40 21) ∷ assign_of (at 41 1) "T1" [] (at 41 4)
    (expr.LoneRelation (at 41 7) (rel.LoneSum (at 41 7) (sum.Unsigned (at 41 7) (term_of (at 41 7) (object (at 41 7)
    "T1")) (next_term.FurtherTerm (at 41 10) adding.Add (term_of (at 41 12) (primary.Number (at 41 12) 1)) ∷ [])))) (at
    41 13) ∷ [])) (at 42 1) (at 42 5) (at 42 9) ∷ [])) (branch.Branch (at 43 1) (expr.LoneRelation (at 43 7)
    (rel.Compared (at 43 7) (sum_of (at 43 7) (primary.Parenthesized (at 43 7) (expr.LoneRelation (at 43 8) (rel.LoneSum
    (at 43 8) (sum.Unsigned (at 43 8) (term_of (at 43 8) (object (at 43 8) "V5")) (next_term.FurtherTerm (at 43 11)
    adding.Subtract (term_of (at 43 13) (primary.Number (at 43 13) 0)) ∷ [])))) (at 43 14))) relational.LessEqual (at 43
    16) (sum_of (at 43 19) (primary.Parenthesized (at 43 19) (expr.LoneRelation (at 43 20) (rel.LoneSum (at 43 20)
    (sum.Signed (at 43 20) sign.Minus (term_of (at 43 21) (primary.Number (at 43 21) 4)) []))) (at 43 22))))) (at 43 24)
    (sole (at 44 1) (call_of (at 44 1) "Put_Line" (suffix.Applied (at 44 10) (actual_of (at 44 11) (named (at 44 11)
    "Integer" (suffix.Attribute (at 44 18) (id (at 44 19) "Image") ∷ suffix.Applied (at 44 25) (actual_of (at 44 26)
    (named (at 44 26) "S1" (suffix.Attribute (at 44 28) (id (at 44 29) "Last") ∷ []))) [] (at 44 33) ∷ []))) [] (at 44
    34) ∷ []) (at 44 35))) ∷ branch.Branch (at 45 1) (expr.LoneRelation (at 45 7) (rel.Compared (at 45 7) (sum_of (at 45
    7) (object (at 45 7) "K2")) relational.Equal (at 45 10) (sum_of (at 45 12) (named (at 45 12) "V3" (suffix.Selected
    (at 45 14) (id (at 45 15) "F2") ∷ []))))) (at 45 18) (sole (at 46 1) (assign_of (at 46 1) "V4" [] (at 46 4) (expr_of
    (at 46 7) (object (at 46 7) "V3")) (at 46 9))) ∷ []) (at 47 1) (sole (at 48 1) (stmt.DeclareBlock (at 48 1)
    (initialized_of (id (at 49 1) "V6") [] (at 49 4) None (indication_of (mark (at 49 6) "S1")) (at 49 9) (expr_of (at
    49 12) (primary.Number (at 49 12) 4)) (at 49 13) ∷ []) (at 50 1) (sole (at 51 1) (assign_of (at 51 1) "V4" [] (at 51
    4) (expr_of (at 51 7) (object (at 51 7) "V4")) (at 51 9))) (at 52 1) (at 52 4))) (at 53 1) (at 53 5) (at 53 7) ∷
    [])) (at 54 1) (Some (id (at 54 5) "Main")) (at 54 9)) ∷ []) ∷ [])
unfolding computes resolves
random_n2_2 = refl

random_n3_1 : IsFirstBrokenOf NotVisible (at 1 44) ((unit.OfSubprogram (at 1 1) (context.With (at 1 1) (selected (at 1
    6) "Ada" (at 1 9) (at 1 10) "Text_IO") [] (at 1 17) ∷ use_context (use_of (at 1 19) None (selected (at 1 23) "Ada"
    (at 1 26) (at 1 27) "Text_IO") [] (at 1 34)) ∷ use_context (use_of (at 1 36) None (selected (at 1 40) "Ada" (at 1
    43) (at 1 44) "Integer_Text_IO") [] (at 1 59)) ∷ context.With (at 2 1) (selected (at 2 6) "Ada" (at 2 9) (at 2 10)
    "Unchecked_Deallocation") [] (at 2 32) ∷ []) (subprogram_of (at 3 1) (subspec.Procedure (at 3 1) (id (at 3 11)
    "Main") None) None (at 3 16) (item.RecordType (at 4 1) (id (at 4 6) "R1") (at 4 9) (at 4 12) (fields_of (id (at 4
    19) "F1") [] (at 4 22) (mark (at 4 24) "Integer") (at 4 31)) [] (at 4 33) (at 4 37) (at 4 43) ∷ item.IncompleteType
    (at 5 1) (id (at 5 6) "Cell1") (at 5 11) ∷ item.AccessType (at 6 1) (id (at 6 6) "List1") (at 6 12) (at 6 15) (mark
    (at 6 22) "Cell1") (at 6 27) ∷ item.RecordType (at 7 1) (id (at 7 6) "Cell1") (at 7 12) (at 7 15) (fields_of (id (at
    7 22) "Val1") [] (at 7 27) (mark (at 7 29) "Boolean") (at 7 36)) (fields_of (id (at 7 38) "Next1") [] (at 7 44)
    (mark (at 7 46) "List1") (at 7 51) ∷ []) (at 7 53) (at 7 57) (at 7 63) ∷ item.Instance (at 8 1) (id (at 8 11)
    "Free1") (at 8 17) (at 8 20) (selected (at 8 24) "Ada" (at 8 27) (at 8 28) "Unchecked_Deallocation") (at 8 51)
    (actual_of (at 8 52) (object (at 8 52) "Cell1")) (next_arg.FurtherArg (at 8 57) (actual_of (at 8 59) (object (at 8
    59) "List1")) ∷ []) (at 8 64) (at 8 65) ∷ initialized_of (id (at 9 1) "V1") [] (at 9 4) None (indication_of (mark
    (at 9 6) "Boolean")) (at 9 14) (expr.AndThen (at 9 17) (rel_of (at 9 17) (primary.Parenthesized (at 9 17) (expr_of
    (at 9 18) (object (at 9 18) "End_Of_File")) (at 9 29))) (at 9 31) (at 9 35) (rel_of (at 9 40) (object (at 9 40)
    "True")) []) (at 9 44) ∷ objects_of (id (at 10 1) "V2") (next_id_of (at 10 3) (at 10 5) "V3" ∷ []) (at 10 8) None
    (indication_of (mark (at 10 10) "Cell1")) (at 10 15) ∷ objects_of (id (at 11 1) "V4") (next_id_of (at 11 3) (at 11
    5) "V5" ∷ []) (at 11 8) None (indication_of (mark (at 11 10) "List1")) (at 11 15) ∷ initialized_of (id (at 12 1)
    "V6") [] (at 12 4) None (indication_of (mark (at 12 6) "List1")) (at 12 12) (expr_of (at 12 15) (primary.Null (at 12
    15))) (at 12 19) ∷ initialized_of (id (at 13 1) "V7") [] (at 13 4) None (indication.Anonymous (at 13 6) None (mark
    (at 13 13) "Cell1")) (at 13 19) (expr_of (at 13 22) (primary.Aggregated (at 13 22) (aggregate.Several (at 13 22)
    (actual_of (at 13 23) (object (at 13 23) "False")) (at 13 28) (actual_of (at 13 30) (object (at 13 30) "V5")) [] (at
    13 32)))) (at 13 33) ∷ initialized_of (id (at 14 1) "V8") [] (at 14 4) None (indication_of (mark (at 14 6) "Cell1"))
    (at 14 12) (expr_of (at 14 15) (primary.Aggregated (at 14 15) (aggregate.Several (at 14 15) (arg.Positional (at 14
    16) (expr.AndThen (at 14 16) (rel_of (at 14 16) (object (at 14 16) "False")) (at 14 22) (at 14 26) (rel_of (at 14
    31) (object (at 14 31) "True")) [])) (at 14 35) (actual_of (at 14 37) (object (at 14 37) "V4")) [] (at 14 39)))) (at
    14 40) ∷ []) (at 15 1) (sole (at 16 1) (stmt.IfElse (at 16 1) (expr.LoneRelation (at 16 4) (rel.Compared (at 16 4)
    (sum_of (at 16 4) (primary.Parenthesized (at 16 4) (expr.LoneRelation (at 16 5) (rel.LoneSum (at 16 5) (sum.Signed
    (at 16 5) sign.Minus (term_of (at 16 6) (primary.Number (at 16 6) 5)) []))) (at 16 7))) relational.Greater (at 16 9)
    (sum_of (at 16 11) (primary.Number (at 16 11) 39)))) (at 16 14) (sole (at 17 1) (stmt.IfElse (at 17 1)
    (expr.LoneRelation (at 17 4) (rel.LoneSum (at 17 4) (sum.Unsigned (at 17 4) (term.Product (at 17 4) (factor.Not (at
    17 4) (primary.Parenthesized (at 17 8) (expr.LoneRelation (at 17 9) (rel.Compared (at 17 9) (sum_of (at 17 9)
    (primary.Number (at 17 9) 2)) relational.GreaterEqual (at 17 11) (sum_of (at 17 14) (primary.Number (at 17 14)
    30)))) (at 17 16))) []) []))) (at 17 18) (stmts.Sequence (at 18 1) (assign_of (at 18 1) "V8" (suffix.Selected (at 18
    3) (id (at 18 4) "Val1") ∷ []) (at 18 9) (expr.LoneRelation (at 18 12) (rel.LoneSum (at 18 12) (sum.Unsigned (at 18
    12) (term.Product (at 18 12) (factor.Not (at 18 12) (primary.Parenthesized (at 18 16) (expr_of (at 18 17) (object
    (at 18 17) "False")) (at 18 22))) []) []))) (at 18 23)) (stmt.Return (at 19 1) (at 19 7) ∷ [])) [] (at 20 1) (sole
    (at 21 1) (stmt.Case (at 21 1) (expr_of (at 21 6) (named (at 21 6) "Positive" (suffix.Attribute (at 21 14) (id (at
    21 15) "First") ∷ []))) (at 21 21) (alternative.Alternative (at 22 1) (choice.Value (at 22 6) (expr_of (at 22 6)
    (primary.Number (at 22 6) 5))) [] (at 22 8) (sole (at 23 1) (assign_of (at 23 1) "V2" [] (at 23 4) (expr_of (at 23
    7) (primary.Aggregated (at 23 7) (aggregate.Several (at 23 7) (arg.Positional (at 23 8) (expr.Xor (at 23 8) (rel_of
    (at 23 8) (primary.Parenthesized (at 23 8) (expr_of (at 23 9) (object (at 23 9) "True")) (at 23 13))) (at 23 15)
    (rel_of (at 23 19) (primary.Parenthesized (at 23 19) (expr_of (at 23 20) (object (at 23 20) "False")) (at 23 25)))
    [])) (at 23 26) (actual_of (at 23 28) (primary.AllocatedValue (at 23 28) (mark (at 23 32) "Cell1") (at 23 37) (at 23
    38) (expr_of (at 23 39) (object (at 23 39) "V8")) (at 23 41))) [] (at 23 42)))) (at 23 43))))
    (alternative.Alternative (at 24 1) (choice.Value (at 24 6) (expr_of (at 24 6) (primary.Number (at 24 6) 1))) [] (at
    24 8) (sole (at 25 1) (stmt.Null (at 25 1) (at 25 5))) ∷ alternative.Alternative (at 26 1) (choice.Value (at 26 6)
    (expr_of (at 26 6) (primary.Number (at 26 6) 7))) [] (at 26 8) (sole (at 27 1) (stmt.If (at 27 1) (expr.LoneRelation
    (at 27 4) (rel.Compared (at 27 4) (sum_of (at 27 4) (object (at 27 4) "V6")) relational.NotEqual (at 27 7) (sum_of
    (at 27 10) (primary.Null (at 27 10))))) (at 27 15) (stmts.Sequence (at 28 1) (assign_of (at 28 1) "V8"
    (suffix.Selected (at 28 3) (id (at 28 4) "Val1") ∷ []) (at 28 9) (expr.LoneRelation (at 28 12) (rel.Compared (at 28
    12) (sum_of (at 28 12) (primary.Number (at 28 12) 11)) relational.Less (at 28 15) (sum_of (at 28 17)
    (primary.Parenthesized (at 28 17) (expr.LoneRelation (at 28 18) (rel.LoneSum (at 28 18) (sum.Unsigned (at 28 18)
    (term.Product (at 28 18) (factor_of (at 28 18) (primary.Number (at 28 18) 1)) (next_factor.FurtherFactor (at 28 20)
    multiplying.Remainder (factor_of (at 28 24) (primary.Number (at 28 24) 7)) ∷ [])) []))) (at 28 25))))) (at 28 26))
    (stmt.If (at 29 1) (expr.AndThen (at 29 4) (rel.Compared (at 29 4) (sum_of (at 29 4) (named (at 29 4) "V8"
    (suffix.Selected (at 29 6) (id (at 29 7) "Next1") ∷ []))) relational.NotEqual (at 29 13) (sum_of (at 29 16)
    (primary.Null (at 29 16)))) (at 29 21) (at 29 25) (rel.Compared (at 29 30) (sum_of (at 29 30) (named (at 29 30) "V7"
    (suffix.Selected (at 29 32) (id (at 29 33) "Next1") ∷ []))) relational.NotEqual (at 29 39) (sum_of (at 29 42)
    (primary.Null (at 29 42)))) []) (at 29 47) (sole (at 30 1) (assign_of (at 30 1) "V8" (suffix.Selected (at 30 3) (id
    (at 30 4) "Next1") ∷ suffix.Dereferenced (at 30 9) (at 30 10) ∷ []) (at 30 14) (expr_of (at 30 17) (named (at 30 17)
    "V7" (suffix.Selected (at 30 19) (id (at 30 20) "Next1") ∷ suffix.Dereferenced (at 30 25) (at 30 26) ∷ []))) (at 30
    29))) [] (at 31 1) (at 31 5) (at 31 7) ∷ [])) [] (at 32 1) (at 32 5) (at 32 7))) ∷ alternative.Alternative (at 33 1)
    (choice.Others (at 33 6)) [] (at 33 13) (sole (at 34 1) (stmt.If (at 34 1) (expr.AndThen (at 34 4) (rel_of (at 34 4)
    (primary.Parenthesized (at 34 4) (expr.LoneRelation (at 34 5) (rel.LoneSum (at 34 5) (sum.Unsigned (at 34 5)
    (term.Product (at 34 5) (factor.Not (at 34 5) (primary.Parenthesized (at 34 9) (expr.LoneRelation (at 34 10)
    (rel.Compared (at 34 10) (sum_of (at 34 10) (primary.Number (at 34 10) 40)) relational.NotEqual (at 34 13) (sum_of
    (at 34 16) (primary.Number (at 34 16) 2)))) (at 34 17))) []) []))) (at 34 18))) (at 34 20) (at 34 24) (rel_of (at 34
    29) (primary.Parenthesized (at 34 29) (expr_of (at 34 30) (object (at 34 30) "End_Of_File")) (at 34 41))) []) (at 34
    43) (sole (at 35 1) (assign_of (at 35 1) "V6" [] (at 35 4) (expr_of (at 35 7) (primary.AllocatedAggregate (at 35 7)
    (mark (at 35 11) "Cell1") (at 35 16) (aggregate.Several (at 35 17) (arg.Positional (at 35 18) (expr.OrElse (at 35
    18) (rel_of (at 35 18) (primary.Parenthesized (at 35 18) (expr.LoneRelation (at 35 19) (rel.Compared (at 35 19)
    (sum_of (at 35 19) (primary.Number (at 35 19) 39)) relational.Equal (at 35 22) (sum_of (at 35 24)
    (primary.Parenthesized (at 35 24) (expr.LoneRelation (at 35 25) (rel.LoneSum (at 35 25) (sum.Signed (at 35 25)
    sign.Minus (term_of (at 35 26) (primary.Number (at 35 26) 6)) []))) (at 35 27))))) (at 35 28))) (at 35 30) (at 35
    33) (rel_of (at 35 38) (primary.Parenthesized (at 35 38) (expr_of (at 35 39) (object (at 35 39) "False")) (at 35
    44))) [])) (at 35 45) (actual_of (at 35 47) (object (at 35 47) "V6")) [] (at 35 49)))) (at 35 50))) [] (at 36 1) (at
    36 5) (at 36 7))) ∷ []) (at 37 1) (at 37 5) (at 37 9))) (at 38 1) (at 38 5) (at 38 7))) [] (at 39 1) (sole (at 40 1)
    (stmt.IfElse (at 40 1) (expr.LoneRelation (at 40 4) (rel.Compared (at 40 4) (sum_of (at 40 4) (named (at 40 4) "V2"
    (suffix.Selected (at 40 6) (id (at 40 7) "Next1") ∷ []))) relational.NotEqual (at 40 13) (sum_of (at 40 16)
    (primary.Null (at 40 16))))) (at 40 21) (sole (at 41 1) (stmt.If (at 41 1) (expr.AndThen (at 41 4) (rel.Compared (at
    41 4) (sum_of (at 41 4) (object (at 41 4) "V6")) relational.NotEqual (at 41 7) (sum_of (at 41 10) (primary.Null (at
    41 10)))) (at 41 15) (at 41 19) (rel.Compared (at 41 24) (sum_of (at 41 24) (named (at 41 24) "V8" (suffix.Selected
    (at 41 26) (id (at 41 27) "Next1") ∷ []))) relational.NotEqual (at 41 33) (sum_of (at 41 36) (primary.Null (at 41
    36)))) []) (at 41 41) (sole (at 42 1) (assign_of (at 42 1) "V6" (suffix.Dereferenced (at 42 3) (at 42 4) ∷ []) (at
    42 8) (expr_of (at 42 11) (named (at 42 11) "V8" (suffix.Selected (at 42 13) (id (at 42 14) "Next1") ∷
    suffix.Dereferenced (at 42 19) (at 42 20) ∷ []))) (at 42 23))) [] (at 43 1) (at 43 5) (at 43 7))) [] (at 44 1) (sole
    (at 45 1) (assign_of (at 45 1) "V3" [] (at 45 4) (expr_of (at 45 7) (object (at 45 7) "V7")) (at 45 9))) (at 46 1)
    (at 46 5) (at 46 7))) (at 47 1) (at 47 5) (at 47 7))) (at 48 1) None (at 48 4)) ∷ []) ∷ [])
unfolding computes resolves
random_n3_1 = refl

random_n3_3 : IsFirstBrokenOf NotVisible (at 1 35) ((unit.OfSubprogram (at 1 1) (context.With (at 1 1) (selected (at 1
    6) "Ada" (at 1 9) (at 1 10) "Integer_Text_IO") [] (at 1 25) ∷ use_context (use_of (at 1 27) None (selected (at 1 31)
    "Ada" (at 1 34) (at 1 35) "Text_IO") [] (at 1 42)) ∷ context.With (at 2 1) (selected (at 2 6) "Ada" (at 2 9) (at 2
    10) "Integer_Text_IO") [] (at 2 25) ∷ use_context (use_of (at 2 27) None (selected (at 2 31) "Ada" (at 2 34) (at 2
    35) "Integer_Text_IO") [] (at 2 50)) ∷ context.With (at 3 4) (selected (at 3 9) "Ada" (at 3 12) (at 3 13)
    "Unchecked_Deallocation") [] (at 3 35) ∷ []) (subprogram_of (at 4 4) (subspec.Procedure (at 4 4) (id (at 4 14)
    "Main") None) None (at 4 19) (item.ArrayType (at 5 1) (id (at 5 6) "A1") (at 5 9) (at 5 12) (at 5 18) (range.Bounds
    (at 5 19) (expr_of (at 5 19) (primary.Number (at 5 19) 1)) (at 5 21) (expr_of (at 5 24) (primary.Number (at 5 24)
    3))) (at 5 25) (at 5 27) (mark (at 5 30) "Integer") (at 5 37) ∷ item.AccessType (at 6 1) (id (at 6 6) "P1") (at 6 9)
    (at 6 12) (mark (at 6 19) "Integer") (at 6 26) ∷ item.ArrayType (at 7 7) (id (at 7 12) "A2") (at 7 15) (at 7 18) (at
    7 24) (range.Bounds (at 7 25) (expr_of (at 7 25) (primary.Number (at 7 25) 1)) (at 7 27) (expr_of (at 7 30)
    (primary.Number (at 7 30) 4))) (at 7 31) (at 7 33) (mark (at 7 36) "P1") (at 7 38) ∷ item.ArrayType (at 8 4) (id (at
    8 9) "A3") (at 8 12) (at 8 15) (at 8 21) (range.Bounds (at 8 22) (expr_of (at 8 22) (primary.Number (at 8 22) 0))
    (at 8 24) (expr_of (at 8 27) (primary.Number (at 8 27) 4))) (at 8 28) (at 8 30) (mark (at 8 33) "P1") (at 8 35) ∷
    initialized_of (id (at 9 7) "V1") [] (at 9 10) None (indication_of (mark (at 9 12) "A3")) (at 9 15) (expr_of (at 9
    18) (primary.Aggregated (at 9 18) (aggregate.Several (at 9 18) (actual_of (at 9 19) (primary.AllocatedValue (at 9
    19) (mark (at 9 23) "Integer") (at 9 30) (at 9 31) (expr_of (at 9 32) (primary.Number (at 9 32) 32)) (at 9 34))) (at
    9 35) (actual_of (at 9 37) (primary.AllocatedValue (at 9 37) (mark (at 9 41) "Integer") (at 9 48) (at 9 49) (expr_of
    (at 9 50) (primary.Number (at 9 50) 15)) (at 9 52))) (next_arg.FurtherArg (at 9 53) (actual_of (at 9 55)
    (primary.Null (at 9 55))) ∷ next_arg.FurtherArg (at 9 59) (actual_of (at 9 61) (primary.Null (at 9 61))) ∷
    next_arg.FurtherArg (at 9 65) (actual_of (at 9 67) (primary.AllocatedValue (at 9 67) (mark (at 9 71) "Integer") (at
    9 78) (at 9 79) (expr_of (at 9 80) (primary.Parenthesized (at 9 80) (expr.LoneRelation (at 9 81) (rel.LoneSum (at 9
    81) (sum.Signed (at 9 81) sign.Minus (term_of (at 9 82) (primary.Number (at 9 82) 4)) []))) (at 9 83))) (at 9 84)))
    ∷ []) (at 9 85)))) (at 9 86) ∷ objects_of (id (at 10 1) "V2") (next_id_of (at 10 3) (at 10 5) "V3" ∷ []) (at 10 8)
    None (indication_of (mark (at 10 10) "A1")) (at 10 12) ∷ initialized_of (id (at 11 4) "V4") [] (at 11 7) None
    (indication_of (mark (at 11 9) "A2")) (at 11 12) (expr_of (at 11 15) (primary.Aggregated (at 11 15)
    (aggregate.Others (at 11 15) (at 11 16) (at 11 23) (expr_of (at 11 26) (primary.Null (at 11 26))) (at 11 30)))) (at
    11 31) ∷ objects_of (id (at 12 7) "V5") (next_id_of (at 12 9) (at 12 11) "V6" ∷ []) (at 12 14) None (indication_of
    (mark (at 12 16) "P1")) (at 12 18) ∷ initialized_of (id (at 13 7) "V7") [] (at 13 10) None (indication_of (mark (at
    13 12) "A2")) (at 13 15) (expr_of (at 13 18) (primary.Aggregated (at 13 18) (aggregate.Others (at 13 18) (at 13 19)
    (at 13 26) (expr_of (at 13 29) (primary.Null (at 13 29))) (at 13 33)))) (at 13 34) ∷ initialized_of (id (at 14 1)
    "V8") [] (at 14 4) None (indication_of (mark (at 14 6) "Boolean")) (at 14 14) (expr_of (at 14 17) (object (at 14 17)
    "End_Of_File")) (at 14 28) ∷ objects_of (id (at 15 7) "T1") [] (at 15 10) None (indication_of (mark (at 15 12)
    "Integer")) (at 15 19) ∷ []) (at 16 1) (stmts.Sequence (at 17 7) (assign_of (at 17 7) "V1" [] (at 17 10) (expr_of
    (at 17 13) (object (at 17 13) "V1")) (at 17 15)) (assign_of (at 18 1) "V4" [] (at 18 4) (expr_of (at 18 7) (object
    (at 18 7) "V7")) (at 18 9) ∷ call_of (at 19 7) "Put_Line" (suffix.Applied (at 19 16) (actual_of (at 19 17) (named
    (at 19 17) "Integer" (suffix.Attribute (at 19 24) (id (at 19 25) "Image") ∷ suffix.Applied (at 19 31) (actual_of (at
    19 32) (primary.Number (at 19 32) 33)) [] (at 19 34) ∷ []))) [] (at 19 35) ∷ []) (at 19 36) ∷ stmt.For (at 20 1) (id
    (at 20 5) "I1") (at 20 8) None (range.Bounds (at 20 11) (expr_of (at 20 11) (primary.Number (at 20 11) 1)) (at 20
    13) (expr_of (at 20 16) (primary.Number (at 20 16) 3))) (at 20 18) (sole (at 21 4) (assign_of (at 21 4) "V4"
    (suffix.Applied (at 21 7) (actual_of (at 21 8) (primary.Number (at 21 8) 1)) [] (at 21 9) ∷ []) (at 21 11) (expr_of
    (at 21 14) (primary.AllocatedValue (at 21 14) (mark (at 21 18) "Integer") (at 21 25) (at 21 26) (expr_of (at 21 27)
    (primary.Parenthesized (at 21 27) (expr.LoneRelation (at 21 28) (rel.LoneSum (at 21 28) (sum.Unsigned (at 21 28)
    (term.Product (at 21 28) (factor_of (at 21 28) (primary.Number (at 21 28) 6)) (next_factor.FurtherFactor (at 21 30)
    multiplying.Divide (factor_of (at 21 32) (primary.Number (at 21 32) 5)) ∷ [])) []))) (at 21 33))) (at 21 34))) (at
    21 35))) (at 22 7) (at 22 11) (at 22 15) ∷ stmt.Case (at 23 1) (expr_of (at 23 6) (primary.Parenthesized (at 23 6)
    (expr.LoneRelation (at 23 7) (rel.LoneSum (at 23 7) (sum.Signed (at 23 7) sign.Minus (term_of (at 23 8)
    (primary.Number (at 23 8) 7)) []))) (at 23 9))) (at 23 11) (alternative.Alternative (at 24 1) (choice.Value (at 24
    6) (expr_of (at 24 6) (primary.Number (at 24 6) 1))) [] (at 24 8) (sole (at 25 7) (assign_of (at 25 7) "V3"
    (suffix.Applied (at 25 10) (actual_of (at 25 11) (primary.Number (at 25 11) 1)) [] (at 25 12) ∷ []) (at 25 14)
    (expr_of (at 25 17) (primary.Parenthesized (at 25 17) (expr.LoneRelation (at 25 18) (rel.LoneSum (at 25 18)
    (sum.Unsigned (at 25 18) (term.Product (at 25 18) (factor_of (at 25 18) (named (at 25 18) "V3" (suffix.Applied (at
    25 21) (arg.Positional (at 25 22) (expr.LoneRelation (at 25 22) (rel.LoneSum (at 25 22) (sum.Unsigned (at 25 22)
    (term.Product (at 25 22) (factor_of (at 25 22) (object (at 25 22) "T1")) (next_factor.FurtherFactor (at 25 25)
    multiplying.Modulo (factor_of (at 25 29) (primary.Number (at 25 29) 3)) ∷ [])) (next_term.FurtherTerm (at 25 31)
    adding.Add (term_of (at 25 33) (primary.Number (at 25 33) 1)) ∷ []))))) [] (at 25 34) ∷ [])))
    (next_factor.FurtherFactor (at 25 36) multiplying.Divide (factor_of (at 25 38) (primary.Number (at 25 38) 8)) ∷ []))
    []))) (at 25 39))) (at 25 40)))) (alternative.Alternative (at 26 1) (choice.Value (at 26 6) (expr_of (at 26 6)
    (primary.Number (at 26 6) 9))) (next_choice.Bar (at 26 8) (choice.Value (at 26 10) (expr_of (at 26 10)
    (primary.Number (at 26 10) 11))) ∷ []) (at 26 13) (sole (at 27 1) (stmt.DeclareBlock (at 27 1) (initialized_of (id
    (at 28 4) "C1") [] (at 28 7) None (indication.Anonymous (at 28 9) (Some (at 28 16)) (mark (at 28 25) "Integer")) (at
    28 33) (expr_of (at 28 36) (named (at 28 36) "V1" (suffix.Applied (at 28 39) (arg.Positional (at 28 40)
    (expr.LoneRelation (at 28 40) (rel.LoneSum (at 28 40) (sum.Unsigned (at 28 40) (term.Product (at 28 40) (factor_of
    (at 28 40) (object (at 28 40) "T1")) (next_factor.FurtherFactor (at 28 43) multiplying.Modulo (factor_of (at 28 47)
    (primary.Number (at 28 47) 5)) ∷ [])) [])))) [] (at 28 48) ∷ []))) (at 28 49) ∷ []) (at 29 1) (stmts.Sequence (at 30
    4) (stmt.For (at 30 4) (id (at 30 8) "I2") (at 30 11) None (range.Bounds (at 30 14) (expr_of (at 30 14) (named (at
    30 14) "V4" (suffix.Attribute (at 30 16) (id (at 30 17) "First") ∷ []))) (at 30 23) (expr_of (at 30 26) (named (at
    30 26) "V4" (suffix.Attribute (at 30 28) (id (at 30 29) "Last") ∷ [])))) (at 30 34) (stmts.Sequence (at 31 4)
    (assign_of (at 31 4) "V3" (suffix.Applied (at 31 7) (actual_of (at 31 8) (primary.Number (at 31 8) 1)) [] (at 31 9)
    ∷ []) (at 31 11) (expr_of (at 31 14) (object (at 31 14) "T1")) (at 31 16)) (stmt.ExitWhen (at 32 7) (at 32 12)
    (expr.AndThen (at 32 17) (rel_of (at 32 17) (primary.Parenthesized (at 32 17) (expr.LoneRelation (at 32 18)
    (rel.Compared (at 32 18) (sum_of (at 32 18) (named (at 32 18) "V4" (suffix.Applied (at 32 21) (actual_of (at 32 22)
    (object (at 32 22) "I2")) [] (at 32 24) ∷ []))) relational.NotEqual (at 32 26) (sum_of (at 32 29) (primary.Null (at
    32 29))))) (at 32 33))) (at 32 35) (at 32 39) (rel_of (at 32 44) (primary.Parenthesized (at 32 44)
    (expr.LoneRelation (at 32 45) (rel.Compared (at 32 45) (sum_of (at 32 45) (primary.Number (at 32 45) 0))
    relational.LessEqual (at 32 47) (sum_of (at 32 50) (primary.Number (at 32 50) 17)))) (at 32 52))) []) (at 32 53) ∷
    [])) (at 33 1) (at 33 5) (at 33 9)) (assign_of (at 34 1) "V3" (suffix.Applied (at 34 4) (actual_of (at 34 5)
    (primary.Number (at 34 5) 1)) [] (at 34 6) ∷ []) (at 34 8) (expr_of (at 34 11) (primary.Parenthesized (at 34 11)
    (expr.LoneRelation (at 34 12) (rel.LoneSum (at 34 12) (sum.Unsigned (at 34 12) (term.Product (at 34 12) (factor_of
    (at 34 12) (named (at 34 12) "V3" (suffix.Applied (at 34 15) (arg.Positional (at 34 16) (expr.LoneRelation (at 34
    16) (rel.LoneSum (at 34 16) (sum.Unsigned (at 34 16) (term.Product (at 34 16) (factor_of (at 34 16) (object (at 34
    16) "T1")) (next_factor.FurtherFactor (at 34 19) multiplying.Modulo (factor_of (at 34 23) (primary.Number (at 34 23)
    3)) ∷ [])) (next_term.FurtherTerm (at 34 25) adding.Add (term_of (at 34 27) (primary.Number (at 34 27) 1)) ∷ [])))))
    [] (at 34 28) ∷ []))) (next_factor.FurtherFactor (at 34 30) multiplying.Modulo (factor_of (at 34 34) (primary.Number
    (at 34 34) 4)) ∷ [])) []))) (at 34 35))) (at 34 36) ∷ [])) (at 35 4) (at 35 7))) ∷ alternative.Alternative (at 36 1)
    (choice.Others (at 36 6)) [] (at 36 13) (sole (at 37 7) (stmt.If (at 37 7) (expr.Xor (at 37 10) (rel_of (at 37 10)
    (primary.Parenthesized (at 37 10) (expr.LoneRelation (at 37 11) (rel.LoneSum (at 37 11) (sum.Unsigned (at 37 11)
    (term.Product (at 37 11) (factor.Not (at 37 11) (primary.Parenthesized (at 37 15) (expr.LoneRelation (at 37 16)
    (rel.LoneSum (at 37 16) (sum.Unsigned (at 37 16) (term.Product (at 37 16) (factor.Not (at 37 16)
    (primary.Parenthesized (at 37 20) (expr_of (at 37 21) (object (at 37 21) "True")) (at 37 25))) []) []))) (at 37
    26))) []) []))) (at 37 27))) (at 37 29) (rel_of (at 37 33) (object (at 37 33) "True")) []) (at 37 38) (sole (at 38
    1) (stmt.If (at 38 1) (expr.And (at 38 4) (rel_of (at 38 4) (primary.Parenthesized (at 38 4) (expr.LoneRelation (at
    38 5) (rel.LoneSum (at 38 5) (sum.Unsigned (at 38 5) (term.Product (at 38 5) (factor.Not (at 38 5)
    (primary.Parenthesized (at 38 9) (expr_of (at 38 10) (object (at 38 10) "True")) (at 38 14))) []) []))) (at 38 15)))
    (at 38 17) (rel_of (at 38 21) (primary.Parenthesized (at 38 21) (expr.LoneRelation (at 38 22) (rel.Compared (at 38
    22) (sum_of (at 38 22) (object (at 38 22) "V6")) relational.Equal (at 38 25) (sum_of (at 38 27) (primary.Null (at 38
    27))))) (at 38 31))) []) (at 38 33) (sole (at 39 7) (stmt.DeclareBlock (at 39 7) (initialized_of (id (at 40 4) "V9")
    [] (at 40 7) None (indication_of (mark (at 40 9) "A3")) (at 40 12) (expr_of (at 40 15) (primary.Aggregated (at 40
    15) (aggregate.Several (at 40 15) (actual_of (at 40 16) (object (at 40 16) "V5")) (at 40 18) (actual_of (at 40 20)
    (primary.Allocated (at 40 20) (mark (at 40 24) "Integer"))) (next_arg.FurtherArg (at 40 31) (actual_of (at 40 33)
    (object (at 40 33) "V6")) ∷ next_arg.FurtherArg (at 40 35) (actual_of (at 40 37) (primary.Null (at 40 37))) ∷
    next_arg.FurtherArg (at 40 41) (actual_of (at 40 43) (primary.AllocatedValue (at 40 43) (mark (at 40 47) "Integer")
    (at 40 54) (at 40 55) (expr_of (at 40 56) (primary.Number (at 40 56) 14)) (at 40 58))) ∷ []) (at 40 59)))) (at 40
    60) ∷ []) (at 41 4) (sole (at 42 4) (assign_of (at 42 4) "V1" [] (at 42 7) (expr_of (at 42 10) (object (at 42 10)
    "V1")) (at 42 12))) (at 43 7) (at 43 10))) (branch.Branch (at 44 1) (expr.LoneRelation (at 44 7) (rel.Compared (at
    44 7) (sum_of (at 44 7) (named (at 44 7) "V1" (suffix.Applied (at 44 10) (actual_of (at 44 11) (primary.Number (at
    44 11) 2)) [] (at 44 12) ∷ []))) relational.Equal (at 44 14) (sum_of (at 44 16) (primary.Null (at 44 16))))) (at 44
    21) (sole (at 45 4) (assign_of (at 45 4) "V2" [] (at 45 7) (expr_of (at 45 10) (primary.Aggregated (at 45 10)
    (aggregate.Several (at 45 10) (actual_of (at 45 11) (object (at 45 11) "T1")) (at 45 13) (actual_of (at 45 15)
    (primary.Parenthesized (at 45 15) (expr.LoneRelation (at 45 16) (rel.LoneSum (at 45 16) (sum.Signed (at 45 16)
    sign.Minus (term_of (at 45 17) (primary.Number (at 45 17) 0)) []))) (at 45 18))) (next_arg.FurtherArg (at 45 19)
    (actual_of (at 45 21) (named (at 45 21) "V3" (suffix.Attribute (at 45 23) (id (at 45 24) "First") ∷ []))) ∷ []) (at
    45 29)))) (at 45 30))) ∷ branch.Branch (at 46 4) (expr.LoneRelation (at 46 10) (rel.Compared (at 46 10) (sum_of (at
    46 10) (named (at 46 10) "V3" (suffix.Applied (at 46 13) (actual_of (at 46 14) (primary.Number (at 46 14) 3)) [] (at
    46 15) ∷ []))) relational.GreaterEqual (at 46 17) (sum_of (at 46 20) (primary.Number (at 46 20) 10)))) (at 46 23)
    (stmts.Sequence (at 47 1) (assign_of (at 47 1) "T1" [] (at 47 4) (expr_of (at 47 7) (primary.Number (at 47 7) 0))
    (at 47 8)) (stmt.Loop (at 48 4) (stmts.Sequence (at 49 1) (stmt.ExitWhen (at 49 1) (at 49 6) (expr.LoneRelation (at
    49 11) (rel.Compared (at 49 11) (sum_of (at 49 11) (object (at 49 11) "T1")) relational.GreaterEqual (at 49 14)
    (sum_of (at 49 17) (primary.Number (at 49 17) 7)))) (at 49 18)) (assign_of (at 50 7) "T1" [] (at 50 10)
    (expr.LoneRelation (at 50 13) (rel.LoneSum (at 50 13) (sum.Unsigned (at 50 13) (term_of (at 50 13) (object (at 50
    13) "T1")) (next_term.FurtherTerm (at 50 16) adding.Add (term_of (at 50 18) (primary.Number (at 50 18) 1)) ∷ []))))
    (at 50 19) ∷ assign_of (at 51 1) "V1" [] (at 51 4) (expr_of (at 51 7) (object (at 51 7) "V1")) (at 51 9) ∷ [])) (at
    52 1) (at 52 5) (at 52 9) ∷ [])) ∷ []) (at 53 4) (at 53 8) (at 53 10))) (branch.Branch (at 54 4) (expr.LoneRelation
    (at 54 10) (rel.LoneSum (at 54 10) (sum.Unsigned (at 54 10) (term.Product (at 54 10) (factor.Not (at 54 10)
    (primary.Parenthesized (at 54 14) (expr.Xor (at 54 15) (rel_of (at 54 15) (primary.Parenthesized (at 54 15)
    (expr.LoneRelation (at 54 16) (rel.Compared (at 54 16) (sum_of (at 54 16) (primary.Parenthesized (at 54 16)
    (expr.LoneRelation (at 54 17) (rel.LoneSum (at 54 17) (sum.Signed (at 54 17) sign.Minus (term_of (at 54 18)
    (primary.Number (at 54 18) 4)) []))) (at 54 19))) relational.GreaterEqual (at 54 21) (sum_of (at 54 24)
    (primary.Number (at 54 24) 27)))) (at 54 26))) (at 54 28) (rel_of (at 54 32) (primary.Parenthesized (at 54 32)
    (expr.AndThen (at 54 33) (rel_of (at 54 33) (primary.Parenthesized (at 54 33) (expr_of (at 54 34) (object (at 54 34)
    "False")) (at 54 39))) (at 54 41) (at 54 45) (rel_of (at 54 50) (primary.Parenthesized (at 54 50) (expr_of (at 54
    51) (object (at 54 51) "True")) (at 54 55))) []) (at 54 56))) (operand.FurtherOperand (at 54 58) (rel_of (at 54 62)
    (primary.Parenthesized (at 54 62) (expr.LoneRelation (at 54 63) (rel.LoneSum (at 54 63) (sum.Unsigned (at 54 63)
    (term.Product (at 54 63) (factor.Not (at 54 63) (primary.Parenthesized (at 54 67) (expr_of (at 54 68) (object (at 54
    68) "True")) (at 54 72))) []) []))) (at 54 73))) ∷ [])) (at 54 74))) []) []))) (at 54 76) (sole (at 55 4) (stmt.If
    (at 55 4) (expr.LoneRelation (at 55 7) (rel.Compared (at 55 7) (sum_of (at 55 7) (object (at 55 7) "V6"))
    relational.NotEqual (at 55 10) (sum_of (at 55 13) (primary.Null (at 55 13))))) (at 55 18) (sole (at 56 1) (assign_of
    (at 56 1) "V6" (suffix.Dereferenced (at 56 3) (at 56 4) ∷ []) (at 56 8) (expr_of (at 56 11) (primary.Number (at 56
    11) 23)) (at 56 13))) [] (at 57 4) (at 57 8) (at 57 10))) ∷ []) (at 58 1) (at 58 5) (at 58 7))) ∷ []) (at 59 7) (at
    59 11) (at 59 15) ∷ [])) (at 60 1) (Some (id (at 60 5) "Main")) (at 60 9)) ∷ []) ∷ [])
unfolding computes resolves
random_n3_3 = refl

random_n4_1 : IsFirstBrokenOf TooEarly (at 6 22) ((unit.OfSubprogram (at 1 1) (context.With (at 1 1) (selected (at 1 6)
    "Ada" (at 1 9) (at 1 10) "Text_IO") [] (at 1 17) ∷ use_context (use_of (at 1 19) None (selected (at 1 23) "Ada" (at
    1 26) (at 1 27) "Text_IO") [] (at 1 34)) ∷ context.With (at 2 1) (selected (at 2 6) "Ada" (at 2 9) (at 2 10)
    "Integer_Text_IO") [] (at 2 25) ∷ use_context (use_of (at 2 27) None (selected (at 2 31) "Ada" (at 2 34) (at 2 35)
    "Integer_Text_IO") [] (at 2 50)) ∷ context.With (at 3 1) (selected (at 3 6) "Ada" (at 3 9) (at 3 10)
    "Unchecked_Deallocation") [] (at 3 32) ∷ []) (subprogram_of (at 4 1) (subspec.Procedure (at 4 1) (id (at 4 11)
    "Main") None) None (at 4 16) (item.IncompleteType (at 5 1) (id (at 5 6) "Cell1") (at 5 11) ∷ item.AccessType (at 6
    1) (id (at 6 6) "List1") (at 6 12) (at 6 15) (mark (at 6 22) "Tree1") (at 6 27) ∷ item.RecordType (at 7 1) (id (at 7
    6) "Cell1") (at 7 12) (at 7 15) (fields_of (id (at 7 22) "Val1") [] (at 7 27) (mark (at 7 29) "Natural") (at 7 36))
    (fields_of (id (at 7 38) "Next1") [] (at 7 44) (mark (at 7 46) "List1") (at 7 51) ∷ []) (at 7 53) (at 7 57) (at 7
    63) ∷ item.Instance (at 8 1) (id (at 8 11) "Free1") (at 8 17) (at 8 20) (selected (at 8 24) "Ada" (at 8 27) (at 8
    28) "Unchecked_Deallocation") (at 8 51) (actual_of (at 8 52) (object (at 8 52) "Cell1")) (next_arg.FurtherArg (at 8
    57) (actual_of (at 8 59) (object (at 8 59) "List1")) ∷ []) (at 8 64) (at 8 65) ∷ item.IncompleteType (at 9 1) (id
    (at 9 6) "Node1") (at 9 11) ∷ item.AccessType (at 10 1) (id (at 10 6) "Tree1") (at 10 12) (at 10 15) (mark (at 10
    22) "Node1") (at 10 27) ∷ item.RecordType (at 11 1) (id (at 11 6) "Node1") (at 11 12) (at 11 15) (fields_of (id (at
    11 22) "Key1") [] (at 11 27) (mark (at 11 29) "Integer") (at 11 36)) (fields_of (id (at 11 38) "Left1") [] (at 11
    44) (mark (at 11 46) "Tree1") (at 11 51) ∷ fields_of (id (at 11 53) "Right1") [] (at 11 60) (mark (at 11 62)
    "Tree1") (at 11 67) ∷ fields_of (id (at 11 69) "X1") [] (at 11 72) (mark (at 11 74) "List1") (at 11 79) ∷ []) (at 11
    81) (at 11 85) (at 11 91) ∷ item.Instance (at 12 1) (id (at 12 11) "Free2") (at 12 17) (at 12 20) (selected (at 12
    24) "Ada" (at 12 27) (at 12 28) "Unchecked_Deallocation") (at 12 51) (actual_of (at 12 52) (object (at 12 52)
    "Node1")) (next_arg.FurtherArg (at 12 57) (actual_of (at 12 59) (object (at 12 59) "Tree1")) ∷ []) (at 12 64) (at 12
    65) ∷ item.AccessType (at 13 1) (id (at 13 6) "P1") (at 13 9) (at 13 12) (mark (at 13 19) "Node1") (at 13 24) ∷
    initialized_of (id (at 14 1) "V1") [] (at 14 4) None (indication_of (mark (at 14 6) "List1")) (at 14 12) (expr_of
    (at 14 15) (primary.Parenthesized (at 14 15) (expr_of (at 14 16) (primary.Null (at 14 16))) (at 14 20))) (at 14 21)
    ∷ objects_of (id (at 15 1) "V2") (next_id_of (at 15 3) (at 15 5) "V3" ∷ []) (at 15 8) None (indication_of (mark (at
    15 10) "Cell1")) (at 15 15) ∷ []) (at 16 1) (stmts.Sequence (at 17 1) (call_of (at 17 1) "Put_Line" (suffix.Applied
    (at 17 10) (actual_of (at 17 11) (primary.Text (at 17 11) (codes "\"~\""))) [] (at 17 14) ∷ []) (at 17 15)) (call_of
    (at 18 1) "Put_Line" (suffix.Applied (at 18 10) (arg.Positional (at 18 11) (expr.LoneRelation (at 18 11)
    (rel.LoneSum (at 18 11) (sum.Unsigned (at 18 11) (term_of (at 18 11) (primary.Text (at 18 11) (codes "\"end\"")))
    (next_term.FurtherTerm (at 18 17) adding.Concatenate (term_of (at 18 19) (named (at 18 19) "Integer"
    (suffix.Attribute (at 18 26) (id (at 18 27) "Image") ∷ suffix.Applied (at 18 33) (actual_of (at 18 34)
    (primary.Parenthesized (at 18 34) (expr.LoneRelation (at 18 35) (rel.LoneSum (at 18 35) (sum.Unsigned (at 18 35)
    (term_of (at 18 35) (named (at 18 35) "V1" (suffix.Selected (at 18 37) (id (at 18 38) "Val1") ∷ [])))
    (next_term.FurtherTerm (at 18 43) adding.Add (term_of (at 18 45) (primary.Number (at 18 45) 0)) ∷ [])))) (at 18
    46))) [] (at 18 47) ∷ []))) ∷ []))))) [] (at 18 48) ∷ []) (at 18 49) ∷ assign_of (at 19 1) "V1" (suffix.Dereferenced
    (at 19 3) (at 19 4) ∷ []) (at 19 8) (expr_of (at 19 11) (named (at 19 11) "V1" (suffix.Dereferenced (at 19 13) (at
    19 14) ∷ []))) (at 19 17) ∷ assign_of (at 20 1) "V1" [] (at 20 4) (expr_of (at 20 7) (primary.AllocatedAggregate (at
    20 7) (mark (at 20 11) "Cell1") (at 20 16) (aggregate.Several (at 20 17) (arg.Positional (at 20 18)
    (expr.LoneRelation (at 20 18) (rel.LoneSum (at 20 18) (sum.Unsigned (at 20 18) (term.Product (at 20 18) (factor_of
    (at 20 18) (named (at 20 18) "V3" (suffix.Selected (at 20 20) (id (at 20 21) "Val1") ∷ [])))
    (next_factor.FurtherFactor (at 20 26) multiplying.Modulo (factor_of (at 20 30) (primary.Number (at 20 30) 5)) ∷ []))
    (next_term.FurtherTerm (at 20 32) adding.Add (term_of (at 20 34) (primary.Number (at 20 34) 0)) ∷ []))))) (at 20 35)
    (actual_of (at 20 37) (object (at 20 37) "V1")) [] (at 20 39)))) (at 20 40) ∷ stmt.For (at 21 1) (id (at 21 5) "I1")
    (at 21 8) None (range.Bounds (at 21 11) (expr_of (at 21 11) (primary.Number (at 21 11) 1)) (at 21 13) (expr_of (at
    21 16) (primary.Number (at 21 16) 3))) (at 21 18) (sole (at 22 1) (assign_of (at 22 1) "V2" (suffix.Selected (at 22
    3) (id (at 22 4) "Next1") ∷ []) (at 22 10) (expr_of (at 22 13) (primary.AllocatedAggregate (at 22 13) (mark (at 22
    17) "Cell1") (at 22 22) (aggregate.Several (at 22 23) (actual_of (at 22 24) (object (at 22 24) "I1")) (at 22 26)
    (actual_of (at 22 28) (named (at 22 28) "V2" (suffix.Selected (at 22 30) (id (at 22 31) "Next1") ∷ []))) [] (at 22
    36)))) (at 22 37))) (at 23 1) (at 23 5) (at 23 9) ∷ assign_of (at 24 1) "V3" (suffix.Selected (at 24 3) (id (at 24
    4) "Val1") ∷ []) (at 24 9) (expr_of (at 24 12) (primary.Number (at 24 12) 37)) (at 24 14) ∷ assign_of (at 25 1) "V2"
    (suffix.Selected (at 25 3) (id (at 25 4) "Val1") ∷ []) (at 25 9) (expr_of (at 25 12) (primary.Number (at 25 12) 5))
    (at 25 13) ∷ assign_of (at 26 1) "V1" (suffix.Selected (at 26 3) (id (at 26 4) "Val1") ∷ []) (at 26 9) (expr_of (at
    26 12) (primary.Number (at 26 12) 16)) (at 26 14) ∷ stmt.DeclareBlock (at 27 1) (initialized_of (id (at 28 1) "V4")
    [] (at 28 4) None (indication_of (mark (at 28 6) "Node1")) (at 28 12) (expr_of (at 28 15) (primary.Aggregated (at 28
    15) (aggregate.Several (at 28 15) (arg.Positional (at 28 16) (expr.LoneRelation (at 28 16) (rel.LoneSum (at 28 16)
    (sum.Unsigned (at 28 16) (term.Product (at 28 16) (factor.Abs (at 28 16) (primary.Number (at 28 20) 3)) []) []))))
    (at 28 21) (actual_of (at 28 23) (primary.Null (at 28 23))) (next_arg.FurtherArg (at 28 27) (actual_of (at 28 29)
    (primary.AllocatedAggregate (at 28 29) (mark (at 28 33) "Node1") (at 28 38) (aggregate.Several (at 28 39) (actual_of
    (at 28 40) (primary.Number (at 28 40) 38)) (at 28 42) (actual_of (at 28 44) (primary.Null (at 28 44)))
    (next_arg.FurtherArg (at 28 48) (actual_of (at 28 50) (primary.Null (at 28 50))) ∷ next_arg.FurtherArg (at 28 54)
    (actual_of (at 28 56) (primary.Null (at 28 56))) ∷ []) (at 28 60)))) ∷ next_arg.FurtherArg (at 28 61) (actual_of (at
    28 63) (primary.AllocatedValue (at 28 63) (mark (at 28 67) "Cell1") (at 28 72) (at 28 73) (expr_of (at 28 74)
    (object (at 28 74) "V3")) (at 28 76))) ∷ []) (at 28 77)))) (at 28 78) ∷ initialized_of (id (at 29 1) "V5") [] (at 29
    4) None (indication_of (mark (at 29 6) "Tree1")) (at 29 12) (expr_of (at 29 15) (primary.AllocatedAggregate (at 29
    15) (mark (at 29 19) "Node1") (at 29 24) (aggregate.Several (at 29 25) (association_of (id (at 29 26) "Key1") (at 29
    31) (expr_of (at 29 34) (primary.Number (at 29 34) 28))) (at 29 36) (association_of (id (at 29 38) "Left1") (at 29
    44) (expr_of (at 29 47) (primary.Null (at 29 47)))) (next_arg.FurtherArg (at 29 51) (association_of (id (at 29 53)
    "X1") (at 29 56) (expr_of (at 29 59) (named (at 29 59) "V2" (suffix.Selected (at 29 61) (id (at 29 62) "Next1") ∷
    [])))) ∷ next_arg.FurtherArg (at 29 67) (association_of (id (at 29 69) "Right1") (at 29 76) (expr_of (at 29 79)
    (primary.Allocated (at 29 79) (mark (at 29 83) "Node1")))) ∷ []) (at 29 88)))) (at 29 89) ∷ []) (at 30 1) (sole (at
    31 1) (stmt.For (at 31 1) (id (at 31 5) "I2") (at 31 8) None (range.Bounds (at 31 11) (expr_of (at 31 11)
    (primary.Number (at 31 11) 0)) (at 31 13) (expr_of (at 31 16) (primary.Number (at 31 16) 3))) (at 31 18) (sole (at
    32 1) (stmt.ExitWhen (at 32 1) (at 32 6) (expr.Xor (at 32 11) (rel_of (at 32 11) (object (at 32 11) "True")) (at 32
    16) (rel_of (at 32 20) (primary.Parenthesized (at 32 20) (expr.AndThen (at 32 21) (rel_of (at 32 21)
    (primary.Parenthesized (at 32 21) (expr_of (at 32 22) (object (at 32 22) "False")) (at 32 27))) (at 32 29) (at 32
    33) (rel_of (at 32 38) (primary.Parenthesized (at 32 38) (expr_of (at 32 39) (object (at 32 39) "End_Of_File")) (at
    32 50))) []) (at 32 51))) []) (at 32 52))) (at 33 1) (at 33 5) (at 33 9))) (at 34 1) (at 34 4) ∷ [])) (at 35 1)
    (Some (id (at 35 5) "Main")) (at 35 9)) ∷ []) ∷ [])
unfolding computes resolves
random_n4_1 = refl

random_n4_2 : IsFirstBrokenOf TooEarly (at 11 15) ((unit.OfSubprogram (at 1 1) (pragma_context (pragma_of (at 1 1) (id
    (at 1 8) "SPARK_Mode") (Some (pragma_on (at 1 19) (id (at 1 20) "On") (at 1 22))) (at 1 23)) ∷ context.With (at 2 1)
    (selected (at 2 6) "Ada" (at 2 9) (at 2 10) "Text_IO") (next_dotted.FurtherDotted (at 2 17) (selected (at 2 19)
    "Ada" (at 2 22) (at 2 23) "Integer_Text_IO") ∷ next_dotted.FurtherDotted (at 2 38) (selected (at 2 40) "Ada" (at 2
    43) (at 2 44) "Unchecked_Deallocation") ∷ []) (at 2 66) ∷ use_context (use_of (at 3 1) None (selected (at 3 5) "Ada"
    (at 3 8) (at 3 9) "Text_IO") (next_dotted.FurtherDotted (at 3 16) (selected (at 3 18) "Ada" (at 3 21) (at 3 22)
    "Integer_Text_IO") ∷ []) (at 3 37)) ∷ []) (subprogram_of (at 4 1) (subspec.Procedure (at 4 1) (id (at 4 11) "Main")
    None) None (at 4 16) (item.IncompleteType (at 5 1) (id (at 5 6) "Cell1") (at 5 11) ∷ item.AccessType (at 6 1) (id
    (at 6 6) "List1") (at 6 12) (at 6 15) (mark (at 6 22) "Cell1") (at 6 27) ∷ item.RecordType (at 7 1) (id (at 7 6)
    "Cell1") (at 7 12) (at 7 15) (fields_of (id (at 7 22) "Val1") [] (at 7 27) (mark (at 7 29) "Integer") (at 7 36))
    (fields_of (id (at 7 38) "Next1") [] (at 7 44) (mark (at 7 46) "List1") (at 7 51) ∷ []) (at 7 53) (at 7 57) (at 7
    63) ∷ item.Instance (at 8 1) (id (at 8 11) "Free1") (at 8 17) (at 8 20) (selected (at 8 24) "Ada" (at 8 27) (at 8
    28) "Unchecked_Deallocation") (at 8 51) (actual_of (at 8 52) (object (at 8 52) "Cell1")) (next_arg.FurtherArg (at 8
    57) (actual_of (at 8 59) (object (at 8 59) "List1")) ∷ []) (at 8 64) (at 8 65) ∷ item.ArrayType (at 9 1) (id (at 9
    6) "A1") (at 9 9) (at 9 12) (at 9 18) (range.Bounds (at 9 19) (expr_of (at 9 19) (primary.Number (at 9 19) 1)) (at 9
    21) (expr_of (at 9 24) (primary.Number (at 9 24) 5))) (at 9 25) (at 9 27) (mark (at 9 30) "Cell1") (at 9 35) ∷
    item.ArrayType (at 10 1) (id (at 10 6) "A2") (at 10 9) (at 10 12) (at 10 18) (constrained_of (mark (at 10 19)
    "Integer") (at 10 27) (expr.LoneRelation (at 10 33) (rel.LoneSum (at 10 33) (sum.Signed (at 10 33) sign.Minus
    (term_of (at 10 34) (primary.Number (at 10 34) 1)) []))) (at 10 36) (expr_of (at 10 39) (primary.Number (at 10 39)
    5))) (at 10 40) (at 10 42) (mark (at 10 45) "List1") (at 10 50) ∷ initialized_of (id (at 11 1) "V2") [] (at 11 4)
    None (indication_of (mark (at 11 6) "List1")) (at 11 12) (expr_of (at 11 15) (named (at 11 15) "V1" (suffix.Selected
    (at 11 17) (id (at 11 18) "Next1") ∷ []))) (at 11 23) ∷ objects_of (id (at 12 1) "V1") [] (at 12 4) None
    (indication_of (mark (at 12 6) "Cell1")) (at 12 11) ∷ objects_of (id (at 13 1) "V3") (next_id_of (at 13 3) (at 13 5)
    "V4" ∷ []) (at 13 8) None (indication_of (mark (at 13 10) "Cell1")) (at 13 15) ∷ objects_of (id (at 14 1) "V5")
    (next_id_of (at 14 3) (at 14 5) "V6" ∷ []) (at 14 8) None (indication_of (mark (at 14 10) "A2")) (at 14 12) ∷
    objects_of (id (at 15 1) "T1") [] (at 15 4) None (indication_of (mark (at 15 6) "Integer")) (at 15 13) ∷ []) (at 16
    1) (stmts.Sequence (at 17 1) (stmt.DeclareBlock (at 17 1) (initialized_of (id (at 18 1) "B1") [] (at 18 4) None
    (indication.Anonymous (at 18 6) None (mark (at 18 13) "Cell1")) (at 18 19) (expr_of (at 18 22) (named (at 18 22)
    "V5" (suffix.Applied (at 18 25) (arg.Positional (at 18 26) (expr.LoneRelation (at 18 26) (rel.LoneSum (at 18 26)
    (sum.Signed (at 18 26) sign.Minus (term_of (at 18 27) (primary.Number (at 18 27) 1)) [])))) [] (at 18 28) ∷ [])))
    (at 18 29) ∷ initialized_of (id (at 19 1) "V7") [] (at 19 4) None (indication_of (mark (at 19 6) "List1")) (at 19
    12) (expr_of (at 19 15) (primary.AllocatedValue (at 19 15) (mark (at 19 19) "Cell1") (at 19 24) (at 19 25) (expr_of
    (at 19 26) (object (at 19 26) "V4")) (at 19 28))) (at 19 29) ∷ []) (at 20 1) (stmts.Sequence (at 21 1) (call_of (at
    21 1) "Free1" (suffix.Applied (at 21 7) (actual_of (at 21 8) (named (at 21 8) "V6" (suffix.Applied (at 21 11)
    (actual_of (at 21 12) (primary.Number (at 21 12) 1)) [] (at 21 13) ∷ []))) [] (at 21 14) ∷ []) (at 21 15))
    (assign_of (at 22 1) "V6" [] (at 22 4) (expr_of (at 22 7) (object (at 22 7) "V6")) (at 22 9) ∷ [])) (at 23 1) (at 23
    4)) (stmt.If (at 24 1) (expr.LoneRelation (at 24 4) (rel.Compared (at 24 4) (sum_of (at 24 4) (named (at 24 4) "V5"
    (suffix.Applied (at 24 7) (arg.Positional (at 24 8) (expr.LoneRelation (at 24 8) (rel.LoneSum (at 24 8)
    (sum.Unsigned (at 24 8) (term.Product (at 24 8) (factor_of (at 24 8) (object (at 24 8) "T1"))
    (next_factor.FurtherFactor (at 24 11) multiplying.Modulo (factor_of (at 24 15) (primary.Number (at 24 15) 7)) ∷ []))
    (next_term.FurtherTerm (at 24 17) adding.Subtract (term_of (at 24 19) (primary.Number (at 24 19) 1)) ∷ []))))) []
    (at 24 20) ∷ []))) relational.NotEqual (at 24 22) (sum_of (at 24 25) (primary.Null (at 24 25))))) (at 24 30) (sole
    (at 25 1) (stmt.If (at 25 1) (expr.LoneRelation (at 25 4) (rel.LoneSum (at 25 4) (sum.Unsigned (at 25 4)
    (term.Product (at 25 4) (factor.Not (at 25 4) (object (at 25 8) "End_Of_File")) []) []))) (at 25 20) (sole (at 26 1)
    (call_of (at 26 1) "Get" (suffix.Applied (at 26 5) (actual_of (at 26 6) (named (at 26 6) "V5" (suffix.Applied (at 26
    9) (arg.Positional (at 26 10) (expr.LoneRelation (at 26 10) (rel.LoneSum (at 26 10) (sum.Unsigned (at 26 10)
    (term.Product (at 26 10) (factor_of (at 26 10) (object (at 26 10) "T1")) (next_factor.FurtherFactor (at 26 13)
    multiplying.Modulo (factor_of (at 26 17) (primary.Number (at 26 17) 7)) ∷ [])) (next_term.FurtherTerm (at 26 19)
    adding.Subtract (term_of (at 26 21) (primary.Number (at 26 21) 1)) ∷ []))))) [] (at 26 22) ∷ suffix.Selected (at 26
    23) (id (at 26 24) "Val1") ∷ []))) [] (at 26 28) ∷ []) (at 26 29))) [] (at 27 1) (at 27 5) (at 27 7))) [] (at 28 1)
    (at 28 5) (at 28 7) ∷ call_of (at 29 1) "Put" (suffix.Applied (at 29 5) (actual_of (at 29 6) (named (at 29 6)
    "Integer" (suffix.Attribute (at 29 13) (id (at 29 14) "Image") ∷ suffix.Applied (at 29 20) (actual_of (at 29 21)
    (named (at 29 21) "V4" (suffix.Selected (at 29 23) (id (at 29 24) "Val1") ∷ []))) [] (at 29 28) ∷ []))) [] (at 29
    29) ∷ []) (at 29 30) ∷ stmt.If (at 30 1) (expr.LoneRelation (at 30 4) (rel.LoneSum (at 30 4) (sum.Unsigned (at 30 4)
    (term.Product (at 30 4) (factor.Not (at 30 4) (object (at 30 8) "End_Of_File")) []) []))) (at 30 20) (sole (at 31 1)
    (call_of (at 31 1) "Get" (suffix.Applied (at 31 5) (actual_of (at 31 6) (named (at 31 6) "V4" (suffix.Selected (at
    31 8) (id (at 31 9) "Val1") ∷ []))) [] (at 31 13) ∷ []) (at 31 14))) [] (at 32 1) (at 32 5) (at 32 7) ∷ stmt.While
    (at 33 1) (expr.LoneRelation (at 33 7) (rel.Compared (at 33 7) (sum_of (at 33 7) (named (at 33 7) "V6"
    (suffix.Applied (at 33 10) (actual_of (at 33 11) (primary.Number (at 33 11) 2)) [] (at 33 12) ∷ [])))
    relational.NotEqual (at 33 14) (sum_of (at 33 17) (primary.Null (at 33 17))))) (at 33 22) (stmts.Sequence (at 34 1)
    (assign_of (at 34 1) "V2" [] (at 34 4) (expr_of (at 34 7) (named (at 34 7) "V6" (suffix.Applied (at 34 10)
    (actual_of (at 34 11) (primary.Number (at 34 11) 2)) [] (at 34 12) ∷ []))) (at 34 13)) (assign_of (at 35 1) "V6"
    (suffix.Applied (at 35 4) (actual_of (at 35 5) (primary.Number (at 35 5) 2)) [] (at 35 6) ∷ []) (at 35 8) (expr_of
    (at 35 11) (named (at 35 11) "V2" (suffix.Selected (at 35 13) (id (at 35 14) "Next1") ∷ []))) (at 35 19) ∷ call_of
    (at 36 1) "Free1" (suffix.Applied (at 36 7) (actual_of (at 36 8) (object (at 36 8) "V2")) [] (at 36 10) ∷ []) (at 36
    11) ∷ [])) (at 37 1) (at 37 5) (at 37 9) ∷ stmt.If (at 38 1) (expr.LoneRelation (at 38 4) (rel.LoneSum (at 38 4)
    (sum.Unsigned (at 38 4) (term.Product (at 38 4) (factor.Not (at 38 4) (object (at 38 8) "End_Of_File")) []) [])))
    (at 38 20) (sole (at 39 1) (call_of (at 39 1) "Get" (suffix.Applied (at 39 5) (actual_of (at 39 6) (named (at 39 6)
    "V4" (suffix.Selected (at 39 8) (id (at 39 9) "Val1") ∷ []))) [] (at 39 13) ∷ []) (at 39 14))) [] (at 40 1) (at 40
    5) (at 40 7) ∷ stmt.If (at 41 1) (expr.LoneRelation (at 41 4) (rel.Compared (at 41 4) (sum_of (at 41 4) (named (at
    41 4) "V3" (suffix.Selected (at 41 6) (id (at 41 7) "Next1") ∷ []))) relational.NotEqual (at 41 13) (sum_of (at 41
    16) (primary.Null (at 41 16))))) (at 41 21) (sole (at 42 1) (stmt.DeclareBlock (at 42 1) (initialized_of (id (at 43
    1) "B2") [] (at 43 4) None (indication.Anonymous (at 43 6) None (mark (at 43 13) "Cell1")) (at 43 19) (expr_of (at
    43 22) (named (at 43 22) "V3" (suffix.Selected (at 43 24) (id (at 43 25) "Next1") ∷ suffix.Selected (at 43 30) (id
    (at 43 31) "Next1") ∷ []))) (at 43 36) ∷ []) (at 44 1) (stmts.Sequence (at 45 1) (stmt.Block (at 45 1) (sole (at 46
    1) (call_of (at 46 1) "Free1" (suffix.Applied (at 46 7) (actual_of (at 46 8) (object (at 46 8) "V2")) [] (at 46 10)
    ∷ []) (at 46 11))) (at 47 1) (at 47 4)) (stmt.Case (at 48 1) (expr_of (at 48 6) (object (at 48 6) "End_Of_File"))
    (at 48 18) (alternative.Alternative (at 49 1) (choice.Value (at 49 6) (expr_of (at 49 6) (object (at 49 6) "True")))
    (next_choice.Bar (at 49 11) (choice.Value (at 49 13) (expr_of (at 49 13) (object (at 49 13) "False"))) ∷ []) (at 49
    19) (sole (at 50 1) (assign_of (at 50 1) "V2" [] (at 50 4) (expr_of (at 50 7) (named (at 50 7) "V6" (suffix.Applied
    (at 50 10) (arg.Positional (at 50 11) (expr.LoneRelation (at 50 11) (rel.LoneSum (at 50 11) (sum.Signed (at 50 11)
    sign.Minus (term_of (at 50 12) (primary.Number (at 50 12) 1)) [])))) [] (at 50 13) ∷ []))) (at 50 14)))) [] (at 51
    1) (at 51 5) (at 51 9) ∷ [])) (at 52 1) (at 52 4))) [] (at 53 1) (at 53 5) (at 53 7) ∷ [])) (at 54 1) (Some (id (at
    54 5) "Main")) (at 54 9)) ∷ []) ∷ [])
unfolding computes resolves
random_n4_2 = refl
