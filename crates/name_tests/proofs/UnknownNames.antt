-- No declaration of a name is found, and none stands later: N1.
--
-- tools/tree_terms.py makes this of the sources that data/cases.txt has under its name.
use Rattle.std.proofs.Common.{refl, [], ◌∷◌}
use Rattle.std.specs.Prelude.{None, Some}
use Rattle.ada_tree.specs.declared.operator.AddingOperator.TheVariants as adding
use Rattle.ada_tree.specs.declared.expression.Aggregate.TheVariants as aggregate
use Rattle.ada_tree.specs.declared.statement.When.TheVariants as alternative
use Rattle.ada_tree.specs.declared.expression.Arg.TheVariants as arg
use Rattle.ada_tree.specs.declared.range.Choice.TheVariants as choice
use Rattle.ada_tree.specs.declared.unit.Context.TheVariants as context
use Rattle.ada_tree.specs.declared.subprogram.Decl.TheVariants as decl
use Rattle.ada_tree.specs.declared.expression.Expr.TheVariants as expr
use Rattle.ada_tree.specs.declared.expression.Factor.TheVariants as factor
use Rattle.ada_tree.specs.declared.declaration.Indication.TheVariants as indication
use Rattle.ada_tree.specs.declared.declaration.Item.TheVariants as item
use Rattle.ada_tree.specs.declared.operator.MultiplyingOperator.TheVariants as multiplying
use Rattle.ada_tree.specs.declared.expression.NextArg.TheVariants as next_arg
use Rattle.ada_tree.specs.declared.range.NextChoice.TheVariants as next_choice
use Rattle.ada_tree.specs.declared.expression.NextFactor.TheVariants as next_factor
use Rattle.ada_tree.specs.declared.subprogram.NextFormal.TheVariants as next_formal
use Rattle.ada_tree.specs.declared.expression.NextTerm.TheVariants as next_term
use Rattle.ada_tree.specs.declared.unit.BodyPart.TheVariants as part
use Rattle.ada_tree.specs.declared.expression.Primary.TheVariants as primary
use Rattle.ada_tree.specs.declared.range.Range.TheVariants as range
use Rattle.ada_tree.specs.declared.expression.Rel.TheVariants as rel
use Rattle.ada_tree.specs.declared.operator.RelationalOperator.TheVariants as relational
use Rattle.ada_tree.specs.declared.operator.Sign.TheVariants as sign
use Rattle.ada_tree.specs.declared.statement.Stmt.TheVariants as stmt
use Rattle.ada_tree.specs.declared.statement.Stmts.TheVariants as stmts
use Rattle.ada_tree.specs.declared.subprogram.Subspec.TheVariants as subspec
use Rattle.ada_tree.specs.declared.expression.Suffix.TheVariants as suffix
use Rattle.ada_tree.specs.declared.expression.Sum.TheVariants as sum
use Rattle.ada_tree.specs.declared.expression.Term.TheVariants as term
use Rattle.ada_tree.specs.declared.unit.SourceUnit.TheVariants as unit
use Rattle.ada_grammar.proofs.SmallSources.{computes}
use Rattle.name_events.specs.declared.declaration.NameRule.TheVariants.{Unknown}
use Rattle.name_tests.proofs.SmallRules.{resolves}
use Rattle.name_tests.proofs.SourceTrees.{IsFirstBrokenOf, actual_of, assign_of, association_of, at, call_of, constrained_of, expr_of, factor_of, fields_of, formals_of, id, indication_of, initialized_of, mark, marked_of, moded_of, named, next_id_of, object, objects_of, package_body_of, package_of, selected, sole, subprogram_of, sum_of, term_of, use_context, use_item, use_of}

-- Small sources: in expressions and in clauses.
small_n1_1 : IsFirstBrokenOf Unknown (at 1 25) ((unit.OfSubprogram (at 1 1) [] (subprogram_of (at 1 1)
    (subspec.Procedure (at 1 1) (id (at 1 11) "Main") None) None (at 1 16) [] (at 1 19) (sole (at 1 25) (assign_of (at 1
    25) "X" [] (at 1 27) (expr_of (at 1 30) (primary.Number (at 1 30) 1)) (at 1 31))) (at 1 33) (Some (id (at 1 37)
    "Main")) (at 1 41)) ∷ []) ∷ [])
unfolding computes resolves
small_n1_1 = refl

small_n1_2 : IsFirstBrokenOf Unknown (at 1 6) ((unit.OfSubprogram (at 1 1) (context.With (at 1 1) (mark (at 1 6) "Zork")
    [] (at 1 10) ∷ []) (subprogram_of (at 1 12) (subspec.Procedure (at 1 12) (id (at 1 22) "Main") None) None (at 1 27)
    [] (at 1 30) (sole (at 1 36) (stmt.Null (at 1 36) (at 1 40))) (at 1 42) (Some (id (at 1 46) "Main")) (at 1 50)) ∷
    []) ∷ [])
unfolding computes resolves
small_n1_2 = refl

small_n1_3 : IsFirstBrokenOf Unknown (at 1 5) ((unit.OfSubprogram (at 1 1) (use_context (use_of (at 1 1) None (mark (at
    1 5) "Zork") [] (at 1 9)) ∷ []) (subprogram_of (at 1 11) (subspec.Procedure (at 1 11) (id (at 1 21) "Main") None)
    None (at 1 26) [] (at 1 29) (sole (at 1 35) (stmt.Null (at 1 35) (at 1 39))) (at 1 41) (Some (id (at 1 45) "Main"))
    (at 1 49)) ∷ []) ∷ [])
unfolding computes resolves
small_n1_3 = refl

small_n1_5 : IsFirstBrokenOf Unknown (at 1 66) ((unit.OfPackage (at 1 1) [] (package_of (at 1 1) (id (at 1 9) "P") None
    (at 1 11) (decl.OfItem (at 1 14) (objects_of (id (at 1 14) "X") [] (at 1 16) None (indication_of (mark (at 1 18)
    "Integer")) (at 1 25)) ∷ []) None (at 1 27) (Some (id (at 1 31) "P")) (at 1 32)) ∷ unit.OfSubprogram (at 1 34)
    (context.With (at 1 34) (mark (at 1 39) "P") [] (at 1 40) ∷ []) (subprogram_of (at 1 42) (subspec.Procedure (at 1
    42) (id (at 1 52) "Main") None) None (at 1 57) [] (at 1 60) (sole (at 1 66) (assign_of (at 1 66) "X" [] (at 1 68)
    (expr_of (at 1 71) (primary.Number (at 1 71) 1)) (at 1 72))) (at 1 74) (Some (id (at 1 78) "Main")) (at 1 82)) ∷ [])
    ∷ [])
unfolding computes resolves
small_n1_5 = refl

small_n1_7 : IsFirstBrokenOf Unknown (at 1 28) ((unit.OfSubprogram (at 1 1) [] (subprogram_of (at 1 1)
    (subspec.Procedure (at 1 1) (id (at 1 11) "Main") None) None (at 1 16) (use_item (use_of (at 1 19) (Some (at 1 23))
    (mark (at 1 28) "Main") [] (at 1 32)) ∷ []) (at 1 34) (sole (at 1 40) (stmt.Null (at 1 40) (at 1 44))) (at 1 46)
    (Some (id (at 1 50) "Main")) (at 1 54)) ∷ []) ∷ [])
unfolding computes resolves
small_n1_7 = refl

small_n1_8 : IsFirstBrokenOf Unknown (at 1 23) ((unit.OfSubprogram (at 1 1) [] (subprogram_of (at 1 1)
    (subspec.Procedure (at 1 1) (id (at 1 11) "Main") None) None (at 1 16) (use_item (use_of (at 1 19) None (mark (at 1
    23) "Main") [] (at 1 27)) ∷ []) (at 1 29) (sole (at 1 35) (stmt.Null (at 1 35) (at 1 39))) (at 1 41) (Some (id (at 1
    45) "Main")) (at 1 49)) ∷ []) ∷ [])
unfolding computes resolves
small_n1_8 = refl

-- There is no declaration of the name.
unknown_1 : IsFirstBrokenOf Unknown (at 9 10) ((unit.OfSubprogram (at 1 7) (context.With (at 1 7) (selected (at 1 12)
    "Ada" (at 1 15) (at 1 16) "Text_IO") [] (at 1 23) ∷ use_context (use_of (at 1 25) None (selected (at 1 29) "Ada" (at
    1 32) (at 1 33) "Text_IO") [] (at 1 40)) ∷ context.With (at 1 42) (selected (at 1 47) "Ada" (at 1 50) (at 1 51)
    "Integer_Text_IO") [] (at 1 66) ∷ use_context (use_of (at 1 68) None (selected (at 1 72) "Ada" (at 1 75) (at 1 76)
    "Integer_Text_IO") [] (at 1 91)) ∷ context.With (at 1 93) (selected (at 1 98) "Ada" (at 1 101) (at 1 102)
    "Unchecked_Deallocation") [] (at 1 124) ∷ []) (subprogram_of (at 2 1) (subspec.Procedure (at 2 1) (id (at 2 11)
    "Main") None) None (at 2 16) (item.IncompleteType (at 3 7) (id (at 3 12) "Cell") (at 3 16) ∷ item.AccessType (at 4
    1) (id (at 4 6) "List") (at 4 11) (at 4 14) (mark (at 4 21) "Cell") (at 4 25) ∷ item.RecordType (at 5 1) (id (at 5
    6) "Cell") (at 5 11) (at 5 14) (fields_of (id (at 5 21) "Value") [] (at 5 27) (mark (at 5 29) "Integer") (at 5 36))
    (fields_of (id (at 5 38) "Next") [] (at 5 43) (mark (at 5 45) "List") (at 5 49) ∷ []) (at 5 51) (at 5 55) (at 5 61)
    ∷ objects_of (id (at 6 4) "X") (next_id_of (at 6 5) (at 6 7) "Y" ∷ []) (at 6 9) None (indication_of (mark (at 6 11)
    "List")) (at 6 15) ∷ initialized_of (id (at 7 1) "N") [] (at 7 3) None (indication_of (mark (at 7 5) "Integer")) (at
    7 13) (expr_of (at 7 16) (primary.Number (at 7 16) 8)) (at 7 17) ∷ item.Instance (at 8 1) (id (at 8 11) "Free") (at
    8 16) (at 8 19) (selected (at 8 23) "Ada" (at 8 26) (at 8 27) "Unchecked_Deallocation") (at 8 50) (actual_of (at 8
    51) (object (at 8 51) "Cell")) (next_arg.FurtherArg (at 8 55) (actual_of (at 8 57) (object (at 8 57) "List")) ∷ [])
    (at 8 61) (at 8 62) ∷ []) (at 9 4) (stmts.Sequence (at 9 10) (assign_of (at 9 10) "Usual_X" [] (at 9 18) (expr_of
    (at 9 21) (primary.Number (at 9 21) 1)) (at 9 22)) (stmt.IfElse (at 10 1) (expr.LoneRelation (at 10 4) (rel.Compared
    (at 10 4) (sum_of (at 10 4) (object (at 10 4) "N")) relational.Greater (at 10 6) (sum_of (at 10 8) (primary.Number
    (at 10 8) 3)))) (at 10 10) (sole (at 10 15) (assign_of (at 10 15) "N" [] (at 10 17) (expr.LoneRelation (at 10 20)
    (rel.LoneSum (at 10 20) (sum.Unsigned (at 10 20) (term_of (at 10 20) (object (at 10 20) "N")) (next_term.FurtherTerm
    (at 10 22) adding.Subtract (term_of (at 10 24) (primary.Number (at 10 24) 1)) ∷ [])))) (at 10 25))) [] (at 10 27)
    (sole (at 10 32) (stmt.Null (at 10 32) (at 10 36))) (at 10 38) (at 10 42) (at 10 44) ∷ call_of (at 11 7) "Put_Line"
    (suffix.Applied (at 11 16) (actual_of (at 11 17) (named (at 11 17) "Integer" (suffix.Attribute (at 11 24) (id (at 11
    25) "Image") ∷ suffix.Applied (at 11 31) (actual_of (at 11 32) (object (at 11 32) "N")) [] (at 11 33) ∷ []))) [] (at
    11 34) ∷ []) (at 11 35) ∷ assign_of (at 12 1) "X" [] (at 12 3) (expr_of (at 12 6) (primary.AllocatedAggregate (at 12
    6) (mark (at 12 10) "Cell") (at 12 14) (aggregate.Several (at 12 15) (actual_of (at 12 16) (object (at 12 16) "N"))
    (at 12 17) (actual_of (at 12 19) (primary.Null (at 12 19))) [] (at 12 23)))) (at 12 24) ∷ stmt.Case (at 13 4)
    (expr_of (at 13 9) (object (at 13 9) "N")) (at 13 11) (alternative.Alternative (at 13 14) (choice.Value (at 13 19)
    (expr_of (at 13 19) (primary.Number (at 13 19) 1))) [] (at 13 21) (sole (at 13 24) (stmt.Null (at 13 24) (at 13
    28)))) (alternative.Alternative (at 13 30) (choice.Others (at 13 35)) [] (at 13 42) (sole (at 13 45) (assign_of (at
    13 45) "N" [] (at 13 47) (expr_of (at 13 50) (primary.Number (at 13 50) 2)) (at 13 51))) ∷ []) (at 13 53) (at 13 57)
    (at 13 61) ∷ [])) (at 14 1) (Some (id (at 14 5) "Main")) (at 14 9)) ∷ []) ∷ [])
unfolding computes resolves
unknown_1 = refl

unknown_2 : IsFirstBrokenOf Unknown (at 4 55) ((unit.OfSubprogram (at 1 1) (context.With (at 1 1) (selected (at 1 6)
    "Ada" (at 1 9) (at 1 10) "Text_IO") [] (at 1 17) ∷ use_context (use_of (at 1 19) None (selected (at 1 23) "Ada" (at
    1 26) (at 1 27) "Text_IO") [] (at 1 34)) ∷ context.With (at 1 36) (selected (at 1 41) "Ada" (at 1 44) (at 1 45)
    "Integer_Text_IO") [] (at 1 60) ∷ use_context (use_of (at 1 62) None (selected (at 1 66) "Ada" (at 1 69) (at 1 70)
    "Integer_Text_IO") [] (at 1 85)) ∷ context.With (at 1 87) (selected (at 1 92) "Ada" (at 1 95) (at 1 96)
    "Unchecked_Deallocation") [] (at 1 118) ∷ []) (subprogram_of (at 2 1) (subspec.Procedure (at 2 1) (id (at 2 11)
    "Main") None) None (at 2 16) (item.IncompleteType (at 3 1) (id (at 3 6) "Cell") (at 3 10) ∷ item.AccessType (at 4 1)
    (id (at 4 6) "List") (at 4 11) (at 4 14) (mark (at 4 21) "Cell") (at 4 25) ∷ item.Instance (at 4 27) (id (at 4 37)
    "Extra_Free") (at 4 48) (at 4 51) (mark (at 4 55) "Extra_D") (at 4 63) (actual_of (at 4 64) (object (at 4 64)
    "Integer")) (next_arg.FurtherArg (at 4 71) (actual_of (at 4 73) (object (at 4 73) "Integer")) ∷ []) (at 4 80) (at 4
    81) ∷ item.RecordType (at 5 1) (id (at 5 6) "Cell") (at 5 11) (at 5 14) (fields_of (id (at 5 21) "Value") [] (at 5
    27) (mark (at 5 29) "Integer") (at 5 36)) (fields_of (id (at 5 38) "Next") [] (at 5 43) (mark (at 5 45) "List") (at
    5 49) ∷ []) (at 5 51) (at 5 55) (at 5 61) ∷ objects_of (id (at 6 1) "X") (next_id_of (at 6 2) (at 6 4) "Y" ∷ []) (at
    6 6) None (indication_of (mark (at 6 8) "List")) (at 6 12) ∷ initialized_of (id (at 7 1) "N") [] (at 7 3) None
    (indication_of (mark (at 7 5) "Integer")) (at 7 13) (expr_of (at 7 16) (primary.Number (at 7 16) 4)) (at 7 17) ∷
    item.Instance (at 8 1) (id (at 8 11) "Free") (at 8 16) (at 8 19) (selected (at 8 23) "Ada" (at 8 26) (at 8 27)
    "Unchecked_Deallocation") (at 8 50) (actual_of (at 8 51) (object (at 8 51) "Cell")) (next_arg.FurtherArg (at 8 55)
    (actual_of (at 8 57) (object (at 8 57) "List")) ∷ []) (at 8 61) (at 8 62) ∷ []) (at 9 1) (stmts.Sequence (at 10 1)
    (stmt.For (at 10 1) (id (at 10 5) "I") (at 10 7) None (range.Bounds (at 10 10) (expr_of (at 10 10) (primary.Number
    (at 10 10) 1)) (at 10 12) (expr_of (at 10 15) (primary.Number (at 10 15) 3))) (at 10 17) (sole (at 10 22) (assign_of
    (at 10 22) "N" [] (at 10 24) (expr.LoneRelation (at 10 27) (rel.LoneSum (at 10 27) (sum.Unsigned (at 10 27) (term_of
    (at 10 27) (object (at 10 27) "N")) (next_term.FurtherTerm (at 10 29) adding.Add (term_of (at 10 31) (object (at 10
    31) "I")) ∷ [])))) (at 10 32))) (at 10 34) (at 10 38) (at 10 42)) (call_of (at 11 1) "Put_Line" (suffix.Applied (at
    11 10) (actual_of (at 11 11) (named (at 11 11) "Integer" (suffix.Attribute (at 11 18) (id (at 11 19) "Image") ∷
    suffix.Applied (at 11 25) (actual_of (at 11 26) (object (at 11 26) "N")) [] (at 11 27) ∷ []))) [] (at 11 28) ∷ [])
    (at 11 29) ∷ stmt.Case (at 12 1) (expr_of (at 12 6) (object (at 12 6) "N")) (at 12 8) (alternative.Alternative (at
    12 11) (choice.Value (at 12 16) (expr_of (at 12 16) (primary.Number (at 12 16) 1))) [] (at 12 18) (sole (at 12 21)
    (stmt.Null (at 12 21) (at 12 25)))) (alternative.Alternative (at 12 27) (choice.Others (at 12 32)) [] (at 12 39)
    (sole (at 12 42) (assign_of (at 12 42) "N" [] (at 12 44) (expr_of (at 12 47) (primary.Number (at 12 47) 2)) (at 12
    48))) ∷ []) (at 12 50) (at 12 54) (at 12 58) ∷ assign_of (at 13 1) "N" [] (at 13 3) (expr.LoneRelation (at 13 6)
    (rel.LoneSum (at 13 6) (sum.Unsigned (at 13 6) (term.Product (at 13 6) (factor_of (at 13 6) (object (at 13 6) "N"))
    (next_factor.FurtherFactor (at 13 8) multiplying.Multiply (factor_of (at 13 10) (primary.Number (at 13 10) 2)) ∷
    [])) (next_term.FurtherTerm (at 13 12) adding.Add (term_of (at 13 14) (primary.Number (at 13 14) 1)) ∷ [])))) (at 13
    15) ∷ [])) (at 14 1) (Some (id (at 14 5) "Main")) (at 14 9)) ∷ []) ∷ [])
unfolding computes resolves
unknown_2 = refl

unknown_3 : IsFirstBrokenOf Unknown (at 17 79) ((unit.OfSubprogram (at 1 1) (context.With (at 1 1) (selected (at 1 6)
    "Ada" (at 1 9) (at 1 10) "Text_IO") [] (at 1 17) ∷ use_context (use_of (at 1 19) None (selected (at 1 23) "Ada" (at
    1 26) (at 1 27) "Text_IO") [] (at 1 34)) ∷ context.With (at 2 1) (selected (at 2 6) "Ada" (at 2 9) (at 2 10)
    "Integer_Text_IO") [] (at 2 25) ∷ use_context (use_of (at 2 27) None (selected (at 2 31) "Ada" (at 2 34) (at 2 35)
    "Integer_Text_IO") [] (at 2 50)) ∷ context.With (at 3 1) (selected (at 3 6) "Ada" (at 3 9) (at 3 10)
    "Unchecked_Deallocation") [] (at 3 32) ∷ []) (subprogram_of (at 4 1) (subspec.Procedure (at 4 1) (id (at 4 11)
    "Main") None) None (at 4 16) (item.ConstrainedSubtype (at 5 1) (id (at 5 9) "S1") (at 5 12) (mark (at 5 15)
    "Integer") (at 5 23) (expr_of (at 5 29) (primary.Number (at 5 29) 2)) (at 5 31) (expr_of (at 5 34) (primary.Number
    (at 5 34) 5)) (at 5 35) ∷ item.IncompleteType (at 6 1) (id (at 6 6) "Cell1") (at 6 11) ∷ item.AccessType (at 7 1)
    (id (at 7 6) "List1") (at 7 12) (at 7 15) (mark (at 7 22) "Cell1") (at 7 27) ∷ item.RecordType (at 8 4) (id (at 8 9)
    "Cell1") (at 8 15) (at 8 18) (fields_of (id (at 8 25) "Val1") [] (at 8 30) (mark (at 8 32) "Integer") (at 8 39))
    (fields_of (id (at 8 41) "Next1") [] (at 8 47) (mark (at 8 49) "List1") (at 8 54) ∷ []) (at 8 56) (at 8 60) (at 8
    66) ∷ item.Instance (at 9 1) (id (at 9 11) "Free1") (at 9 17) (at 9 20) (selected (at 9 24) "Ada" (at 9 27) (at 9
    28) "Unchecked_Deallocation") (at 9 51) (actual_of (at 9 52) (object (at 9 52) "Cell1")) (next_arg.FurtherArg (at 9
    57) (actual_of (at 9 59) (object (at 9 59) "List1")) ∷ []) (at 9 64) (at 9 65) ∷ item.EnumerationType (at 10 4) (id
    (at 10 9) "E1") (at 10 12) (at 10 15) (id (at 10 16) "Lit_1") (next_id_of (at 10 21) (at 10 23) "Lit_2" ∷ next_id_of
    (at 10 28) (at 10 30) "Lit_3" ∷ []) (at 10 35) (at 10 36) ∷ item.ArrayType (at 11 1) (id (at 11 6) "A1") (at 11 9)
    (at 11 12) (at 11 18) (range.Bounds (at 11 19) (expr_of (at 11 19) (primary.Number (at 11 19) 1)) (at 11 21)
    (expr_of (at 11 24) (primary.Number (at 11 24) 3))) (at 11 25) (at 11 27) (mark (at 11 30) "List1") (at 11 35) ∷
    initialized_of (id (at 12 1) "V1") [] (at 12 4) None (indication_of (mark (at 12 6) "Cell1")) (at 12 12) (expr_of
    (at 12 15) (primary.Aggregated (at 12 15) (aggregate.Several (at 12 15) (arg.Positional (at 12 16)
    (expr.LoneRelation (at 12 16) (rel.LoneSum (at 12 16) (sum.Unsigned (at 12 16) (term.Product (at 12 16) (factor.Abs
    (at 12 16) (primary.Number (at 12 20) 9)) []) [])))) (at 12 21) (actual_of (at 12 23) (primary.Null (at 12 23))) []
    (at 12 27)))) (at 12 28) ∷ objects_of (id (at 13 7) "V2") [] (at 13 10) None (indication_of (mark (at 13 12) "A1"))
    (at 13 14) ∷ initialized_of (id (at 14 7) "V3") [] (at 14 10) None (indication_of (mark (at 14 12) "Cell1")) (at 14
    18) (expr_of (at 14 21) (object (at 14 21) "V1")) (at 14 23) ∷ objects_of (id (at 15 4) "V4") [] (at 15 7) None
    (indication_of (mark (at 15 9) "A1")) (at 15 11) ∷ []) (at 16 1) (stmts.Sequence (at 17 1) (call_of (at 17 1) "Put"
    (suffix.Applied (at 17 5) (actual_of (at 17 6) (named (at 17 6) "Integer" (suffix.Attribute (at 17 13) (id (at 17
    14) "Image") ∷ suffix.Applied (at 17 20) (actual_of (at 17 21) (named (at 17 21) "S1" (suffix.Attribute (at 17 23)
    (id (at 17 24) "First") ∷ []))) [] (at 17 29) ∷ []))) [] (at 17 30) ∷ []) (at 17 31)) (stmt.DeclareBlock (at 17 33)
    (objects_of (id (at 17 41) "Latest_X") [] (at 17 50) None (indication_of (mark (at 17 52) "Integer")) (at 17 59) ∷
    []) (at 17 61) (sole (at 17 67) (assign_of (at 17 67) "Latest_X" [] (at 17 76) (expr.LoneRelation (at 17 79)
    (rel.LoneSum (at 17 79) (sum.Unsigned (at 17 79) (term_of (at 17 79) (object (at 17 79) "Latest_Y"))
    (next_term.FurtherTerm (at 17 88) adding.Add (term_of (at 17 90) (primary.Number (at 17 90) 1)) ∷ [])))) (at 17
    91))) (at 17 93) (at 17 96) ∷ stmt.DeclareBlock (at 18 1) (initialized_of (id (at 19 7) "V5") [] (at 19 10) None
    (indication_of (mark (at 19 12) "Integer")) (at 19 20) (expr_of (at 19 23) (primary.Number (at 19 23) 21)) (at 19
    25) ∷ []) (at 20 1) (sole (at 21 1) (stmt.Case (at 21 1) (expr_of (at 21 6) (object (at 21 6) "Lit_1")) (at 21 12)
    (alternative.Alternative (at 22 1) (choice.Value (at 22 6) (expr_of (at 22 6) (object (at 22 6) "Lit_2"))) [] (at 22
    12) (stmts.Sequence (at 23 7) (stmt.If (at 23 7) (expr.LoneRelation (at 23 10) (rel.Compared (at 23 10) (sum_of (at
    23 10) (named (at 23 10) "V4" (suffix.Applied (at 23 13) (actual_of (at 23 14) (primary.Number (at 23 14) 2)) [] (at
    23 15) ∷ []))) relational.NotEqual (at 23 17) (sum_of (at 23 20) (primary.Null (at 23 20))))) (at 23 25) (sole (at
    24 7) (call_of (at 24 7) "Free1" (suffix.Applied (at 24 13) (actual_of (at 24 14) (named (at 24 14) "V4"
    (suffix.Applied (at 24 17) (actual_of (at 24 18) (primary.Number (at 24 18) 2)) [] (at 24 19) ∷ suffix.Selected (at
    24 20) (id (at 24 21) "Next1") ∷ []))) [] (at 24 26) ∷ []) (at 24 27))) [] (at 25 1) (at 25 5) (at 25 7)) (assign_of
    (at 26 1) "V5" [] (at 26 4) (expr_of (at 26 7) (object (at 26 7) "V5")) (at 26 9) ∷ []))) (alternative.Alternative
    (at 27 1) (choice.Value (at 27 6) (expr_of (at 27 6) (object (at 27 6) "Lit_1"))) (next_choice.Bar (at 27 12)
    (choice.Value (at 27 14) (expr_of (at 27 14) (object (at 27 14) "Lit_3"))) ∷ []) (at 27 20) (sole (at 28 7)
    (stmt.Block (at 28 7) (stmts.Sequence (at 29 1) (assign_of (at 29 1) "V4" [] (at 29 4) (expr_of (at 29 7) (object
    (at 29 7) "V2")) (at 29 9)) (stmt.DeclareBlock (at 30 1) (objects_of (id (at 31 1) "V6") (next_id_of (at 31 3) (at
    31 5) "V7" ∷ []) (at 31 8) None (indication_of (mark (at 31 10) "A1")) (at 31 12) ∷ initialized_of (id (at 32 1)
    "V8") [] (at 32 4) None (indication_of (mark (at 32 6) "Cell1")) (at 32 12) (expr_of (at 32 15) (object (at 32 15)
    "V3")) (at 32 17) ∷ initialized_of (id (at 33 1) "V9") [] (at 33 4) None (indication_of (mark (at 33 6) "Cell1"))
    (at 33 12) (expr_of (at 33 15) (primary.Aggregated (at 33 15) (aggregate.Several (at 33 15) (association_of (id (at
    33 16) "Next1") (at 33 22) (expr_of (at 33 25) (primary.AllocatedValue (at 33 25) (mark (at 33 29) "Cell1") (at 33
    34) (at 33 35) (expr_of (at 33 36) (object (at 33 36) "V1")) (at 33 38)))) (at 33 39) (association_of (id (at 33 41)
    "Val1") (at 33 46) (expr_of (at 33 49) (primary.Parenthesized (at 33 49) (expr.LoneRelation (at 33 50) (rel.LoneSum
    (at 33 50) (sum.Signed (at 33 50) sign.Minus (term_of (at 33 51) (primary.Number (at 33 51) 9)) []))) (at 33 52))))
    [] (at 33 53)))) (at 33 54) ∷ []) (at 34 7) (sole (at 35 1) (call_of (at 35 1) "New_Line" [] (at 35 9))) (at 36 1)
    (at 36 4) ∷ [])) (at 37 1) (at 37 4))) ∷ []) (at 38 4) (at 38 8) (at 38 12))) (at 39 4) (at 39 7) ∷ [])) (at 40 1)
    (Some (id (at 40 5) "Main")) (at 40 9)) ∷ []) ∷ [])
unfolding computes resolves
unknown_3 = refl

unknown_4 : IsFirstBrokenOf Unknown (at 28 103) ((unit.OfPackage (at 1 1) (context.With (at 1 1) (selected (at 1 6)
    "Ada" (at 1 9) (at 1 10) "Text_IO") [] (at 1 17) ∷ use_context (use_of (at 1 19) None (selected (at 1 23) "Ada" (at
    1 26) (at 1 27) "Text_IO") [] (at 1 34)) ∷ context.With (at 1 36) (selected (at 1 41) "Ada" (at 1 44) (at 1 45)
    "Integer_Text_IO") [] (at 1 60) ∷ use_context (use_of (at 1 62) None (selected (at 1 66) "Ada" (at 1 69) (at 1 70)
    "Integer_Text_IO") [] (at 1 85)) ∷ context.With (at 1 87) (selected (at 1 92) "Ada" (at 1 95) (at 1 96)
    "Unchecked_Deallocation") [] (at 1 118) ∷ []) (package_of (at 2 1) (id (at 2 9) "Store") None (at 2 15) (decl.OfItem
    (at 3 1) (item.IncompleteType (at 3 1) (id (at 3 6) "Cell") (at 3 10)) ∷ decl.OfItem (at 4 1) (item.AccessType (at 4
    1) (id (at 4 6) "List") (at 4 11) (at 4 14) (mark (at 4 21) "Cell") (at 4 25)) ∷ decl.OfItem (at 5 1)
    (item.RecordType (at 5 1) (id (at 5 6) "Cell") (at 5 11) (at 5 14) (fields_of (id (at 5 21) "Value") [] (at 5 27)
    (mark (at 5 29) "Integer") (at 5 36)) (fields_of (id (at 5 38) "Next") [] (at 5 43) (mark (at 5 45) "List") (at 5
    49) ∷ []) (at 5 51) (at 5 55) (at 5 61)) ∷ decl.Subprogram (at 6 1) (subspec.Procedure (at 6 1) (id (at 6 11)
    "Push") (Some (formals_of (at 6 16) (moded_of (id (at 6 17) "L") [] (at 6 19) (Some (at 6 21)) (Some (at 6 24))
    (mark (at 6 28) "List")) (next_formal.Semicolon (at 6 32) (moded_of (id (at 6 34) "V") [] (at 6 36) None None (mark
    (at 6 38) "Integer")) ∷ []) (at 6 45)))) None (at 6 46) ∷ decl.Subprogram (at 7 1) (subspec.Function (at 7 1) (id
    (at 7 10) "Sum") (Some (formals_of (at 7 14) (moded_of (id (at 7 15) "L") [] (at 7 17) None None (mark (at 7 19)
    "List")) [] (at 7 23))) (at 7 25) (indication_of (mark (at 7 32) "Integer"))) None (at 7 39) ∷ decl.OfItem (at 8 1)
    (objects_of (id (at 8 1) "Total") [] (at 8 7) None (indication_of (mark (at 8 9) "Integer")) (at 8 16)) ∷ []) None
    (at 9 1) (Some (id (at 9 5) "Store")) (at 9 10)) ∷ unit.OfBody (at 10 1) [] (package_body_of (at 10 1) (at 10 9) (id
    (at 10 14) "Store") None (at 10 20) (part.Completed (at 11 1) (subprogram_of (at 11 1) (subspec.Procedure (at 11 1)
    (id (at 11 11) "Push") (Some (formals_of (at 11 16) (moded_of (id (at 11 17) "L") [] (at 11 19) (Some (at 11 21))
    (Some (at 11 24)) (mark (at 11 28) "List")) (next_formal.Semicolon (at 11 32) (moded_of (id (at 11 34) "V") [] (at
    11 36) None None (mark (at 11 38) "Integer")) ∷ []) (at 11 45)))) None (at 11 47) [] (at 12 1) (sole (at 13 1)
    (assign_of (at 13 1) "L" [] (at 13 3) (expr_of (at 13 6) (primary.AllocatedAggregate (at 13 6) (mark (at 13 10)
    "Cell") (at 13 14) (aggregate.Several (at 13 15) (actual_of (at 13 16) (object (at 13 16) "V")) (at 13 17)
    (actual_of (at 13 19) (object (at 13 19) "L")) [] (at 13 20)))) (at 13 21))) (at 14 1) (Some (id (at 14 5) "Push"))
    (at 14 9)) ∷ part.Completed (at 15 1) (subprogram_of (at 15 1) (subspec.Function (at 15 1) (id (at 15 10) "Sum")
    (Some (formals_of (at 15 14) (moded_of (id (at 15 15) "L") [] (at 15 17) None None (mark (at 15 19) "List")) [] (at
    15 23))) (at 15 25) (indication_of (mark (at 15 32) "Integer"))) None (at 15 40) (initialized_of (id (at 16 1) "C")
    [] (at 16 3) None (indication.Anonymous (at 16 5) (Some (at 16 12)) (mark (at 16 21) "Cell")) (at 16 26) (expr_of
    (at 16 29) (object (at 16 29) "L")) (at 16 30) ∷ initialized_of (id (at 17 1) "N") [] (at 17 3) None (indication_of
    (mark (at 17 5) "Integer")) (at 17 13) (expr_of (at 17 16) (primary.Number (at 17 16) 0)) (at 17 17) ∷ []) (at 18 1)
    (stmts.Sequence (at 19 1) (stmt.While (at 19 1) (expr.LoneRelation (at 19 7) (rel.Compared (at 19 7) (sum_of (at 19
    7) (object (at 19 7) "C")) relational.NotEqual (at 19 9) (sum_of (at 19 12) (primary.Null (at 19 12))))) (at 19 17)
    (stmts.Sequence (at 19 22) (assign_of (at 19 22) "N" [] (at 19 24) (expr.LoneRelation (at 19 27) (rel.LoneSum (at 19
    27) (sum.Unsigned (at 19 27) (term_of (at 19 27) (object (at 19 27) "N")) (next_term.FurtherTerm (at 19 29)
    adding.Add (term_of (at 19 31) (named (at 19 31) "C" (suffix.Selected (at 19 32) (id (at 19 33) "Value") ∷ []))) ∷
    [])))) (at 19 38)) (assign_of (at 19 40) "C" [] (at 19 42) (expr_of (at 19 45) (named (at 19 45) "C"
    (suffix.Selected (at 19 46) (id (at 19 47) "Next") ∷ []))) (at 19 51) ∷ [])) (at 19 53) (at 19 57) (at 19 61))
    (stmt.ReturnValue (at 20 1) (expr_of (at 20 8) (object (at 20 8) "N")) (at 20 9) ∷ [])) (at 21 1) (Some (id (at 21
    5) "Sum")) (at 21 8)) ∷ []) (at 22 1) (Some (id (at 22 5) "Store")) (at 22 10)) ∷ unit.OfSubprogram (at 23 1)
    (context.With (at 23 1) (selected (at 23 6) "Ada" (at 23 9) (at 23 10) "Text_IO") [] (at 23 17) ∷ use_context
    (use_of (at 23 19) None (selected (at 23 23) "Ada" (at 23 26) (at 23 27) "Text_IO") [] (at 23 34)) ∷ context.With
    (at 23 36) (selected (at 23 41) "Ada" (at 23 44) (at 23 45) "Integer_Text_IO") [] (at 23 60) ∷ use_context (use_of
    (at 23 62) None (selected (at 23 66) "Ada" (at 23 69) (at 23 70) "Integer_Text_IO") [] (at 23 85)) ∷ context.With
    (at 23 87) (selected (at 23 92) "Ada" (at 23 95) (at 23 96) "Unchecked_Deallocation") [] (at 23 118) ∷ context.With
    (at 23 120) (mark (at 23 125) "Store") [] (at 23 130) ∷ use_context (use_of (at 23 132) None (mark (at 23 136)
    "Store") [] (at 23 141)) ∷ []) (subprogram_of (at 24 1) (subspec.Procedure (at 24 1) (id (at 24 11) "Main") None)
    None (at 24 16) (objects_of (id (at 25 1) "X") (next_id_of (at 25 2) (at 25 4) "Y" ∷ []) (at 25 6) None
    (indication_of (mark (at 25 8) "List")) (at 25 12) ∷ initialized_of (id (at 26 1) "N") [] (at 26 3) None
    (indication_of (mark (at 26 5) "Integer")) (at 26 13) (expr_of (at 26 16) (primary.Number (at 26 16) 8)) (at 26 17)
    ∷ []) (at 27 1) (stmts.Sequence (at 28 1) (call_of (at 28 1) "Push" (suffix.Applied (at 28 6) (actual_of (at 28 7)
    (object (at 28 7) "X")) (next_arg.FurtherArg (at 28 8) (actual_of (at 28 10) (object (at 28 10) "N")) ∷ []) (at 28
    11) ∷ []) (at 28 12)) (stmt.DeclareBlock (at 28 14) (item.ArrayType (at 28 22) (id (at 28 27) "Plain_Arr") (at 28
    37) (at 28 40) (at 28 46) (range.Bounds (at 28 47) (expr_of (at 28 47) (primary.Number (at 28 47) 1)) (at 28 49)
    (expr_of (at 28 52) (primary.Number (at 28 52) 3))) (at 28 53) (at 28 55) (mark (at 28 58) "Integer") (at 28 65) ∷
    objects_of (id (at 28 67) "Plain_A") [] (at 28 75) None (indication_of (mark (at 28 77) "Plain_Arr")) (at 28 86) ∷
    []) (at 28 88) (sole (at 28 94) (assign_of (at 28 94) "Plain_A" (suffix.Applied (at 28 102) (actual_of (at 28 103)
    (object (at 28 103) "Plain_I")) [] (at 28 110) ∷ []) (at 28 112) (expr_of (at 28 115) (primary.Number (at 28 115)
    1)) (at 28 116))) (at 28 118) (at 28 121) ∷ stmt.If (at 29 1) (expr.LoneRelation (at 29 4) (rel.LoneSum (at 29 4)
    (sum.Unsigned (at 29 4) (term.Product (at 29 4) (factor.Not (at 29 4) (object (at 29 8) "End_Of_File")) []) [])))
    (at 29 20) (sole (at 29 25) (call_of (at 29 25) "Get" (suffix.Applied (at 29 29) (actual_of (at 29 30) (object (at
    29 30) "N")) [] (at 29 31) ∷ []) (at 29 32))) [] (at 29 34) (at 29 38) (at 29 40) ∷ assign_of (at 30 1) "Total" []
    (at 30 7) (expr_of (at 30 10) (object (at 30 10) "N")) (at 30 11) ∷ [])) (at 31 1) (Some (id (at 31 5) "Main")) (at
    31 9)) ∷ []) ∷ [])
unfolding computes resolves
unknown_4 = refl

unknown_5 : IsFirstBrokenOf Unknown (at 31 23) ((unit.OfSubprogram (at 1 7) (context.With (at 1 7) (selected (at 1 12)
    "Ada" (at 1 15) (at 1 16) "Text_IO") [] (at 1 23) ∷ use_context (use_of (at 1 25) None (selected (at 1 29) "Ada" (at
    1 32) (at 1 33) "Text_IO") [] (at 1 40)) ∷ context.With (at 2 7) (selected (at 2 12) "Ada" (at 2 15) (at 2 16)
    "Integer_Text_IO") [] (at 2 31) ∷ use_context (use_of (at 2 33) None (selected (at 2 37) "Ada" (at 2 40) (at 2 41)
    "Integer_Text_IO") [] (at 2 56)) ∷ context.With (at 3 1) (selected (at 3 6) "Ada" (at 3 9) (at 3 10)
    "Unchecked_Deallocation") [] (at 3 32) ∷ []) (subprogram_of (at 4 7) (subspec.Procedure (at 4 7) (id (at 4 17)
    "Main") None) None (at 4 22) (item.ConstrainedSubtype (at 5 4) (id (at 5 12) "S1") (at 5 15) (mark (at 5 18)
    "Positive") (at 5 27) (expr_of (at 5 33) (primary.Number (at 5 33) 3)) (at 5 35) (expr_of (at 5 38) (primary.Number
    (at 5 38) 13)) (at 5 40) ∷ item.AccessType (at 6 1) (id (at 6 6) "P1") (at 6 9) (at 6 12) (mark (at 6 19) "Integer")
    (at 6 26) ∷ item.Instance (at 7 4) (id (at 7 14) "Free1") (at 7 20) (at 7 23) (selected (at 7 27) "Ada" (at 7 30)
    (at 7 31) "Unchecked_Deallocation") (at 7 54) (actual_of (at 7 55) (object (at 7 55) "Integer"))
    (next_arg.FurtherArg (at 7 62) (actual_of (at 7 64) (object (at 7 64) "P1")) ∷ []) (at 7 66) (at 7 67) ∷
    item.AccessType (at 8 7) (id (at 8 12) "P2") (at 8 15) (at 8 18) (mark (at 8 25) "P1") (at 8 27) ∷ item.AccessType
    (at 9 1) (id (at 9 6) "P3") (at 9 9) (at 9 12) (mark (at 9 19) "Integer") (at 9 26) ∷ item.Instance (at 10 4) (id
    (at 10 14) "Free2") (at 10 20) (at 10 23) (selected (at 10 27) "Ada" (at 10 30) (at 10 31) "Unchecked_Deallocation")
    (at 10 54) (actual_of (at 10 55) (object (at 10 55) "Integer")) (next_arg.FurtherArg (at 10 62) (actual_of (at 10
    64) (object (at 10 64) "P3")) ∷ []) (at 10 66) (at 10 67) ∷ item.ArrayType (at 11 4) (id (at 11 9) "A1") (at 11 12)
    (at 11 15) (at 11 21) (range.Bounds (at 11 22) (expr_of (at 11 22) (primary.Number (at 11 22) 1)) (at 11 24)
    (expr_of (at 11 27) (primary.Number (at 11 27) 4))) (at 11 28) (at 11 30) (mark (at 11 33) "P3") (at 11 35) ∷
    initialized_of (id (at 12 1) "V1") [] (at 12 4) None (indication_of (mark (at 12 6) "P3")) (at 12 9) (expr_of (at 12
    12) (primary.AllocatedValue (at 12 12) (mark (at 12 16) "Integer") (at 12 23) (at 12 24) (expr_of (at 12 25)
    (primary.Parenthesized (at 12 25) (expr.LoneRelation (at 12 26) (rel.LoneSum (at 12 26) (sum.Unsigned (at 12 26)
    (term.Product (at 12 26) (factor_of (at 12 26) (primary.Number (at 12 26) 4)) (next_factor.FurtherFactor (at 12 28)
    multiplying.Remainder (factor_of (at 12 32) (primary.Number (at 12 32) 9)) ∷ [])) []))) (at 12 33))) (at 12 34)))
    (at 12 35) ∷ initialized_of (id (at 13 4) "V2") [] (at 13 7) None (indication_of (mark (at 13 9) "Integer")) (at 13
    17) (expr_of (at 13 20) (named (at 13 20) "V1" (suffix.Dereferenced (at 13 22) (at 13 23) ∷ []))) (at 13 26) ∷
    objects_of (id (at 14 1) "T1") [] (at 14 4) None (indication_of (mark (at 14 6) "Integer")) (at 14 13) ∷ []) (at 15
    1) (sole (at 16 1) (stmt.IfElse (at 16 1) (expr.LoneRelation (at 16 4) (rel.Compared (at 16 4) (sum_of (at 16 4)
    (object (at 16 4) "V1")) relational.NotEqual (at 16 7) (sum_of (at 16 10) (primary.Null (at 16 10))))) (at 16 15)
    (stmts.Sequence (at 17 7) (stmt.For (at 17 7) (id (at 17 11) "I1") (at 17 14) None (constrained_of (mark (at 17 17)
    "Boolean") (at 17 25) (expr_of (at 17 31) (object (at 17 31) "False")) (at 17 37) (expr_of (at 17 40) (object (at 17
    40) "True"))) (at 17 45) (sole (at 18 1) (assign_of (at 18 1) "T1" [] (at 18 4) (expr_of (at 18 7) (object (at 18 7)
    "T1")) (at 18 9))) (at 19 7) (at 19 11) (at 19 15)) (assign_of (at 20 1) "T1" [] (at 20 4) (expr_of (at 20 7)
    (primary.Number (at 20 7) 0)) (at 20 8) ∷ stmt.Loop (at 21 4) (stmts.Sequence (at 22 1) (stmt.ExitWhen (at 22 1) (at
    22 6) (expr.LoneRelation (at 22 11) (rel.Compared (at 22 11) (sum_of (at 22 11) (object (at 22 11) "T1"))
    relational.GreaterEqual (at 22 14) (sum_of (at 22 17) (primary.Number (at 22 17) 8)))) (at 22 18)) (assign_of (at 23
    1) "T1" [] (at 23 4) (expr.LoneRelation (at 23 7) (rel.LoneSum (at 23 7) (sum.Unsigned (at 23 7) (term_of (at 23 7)
    (object (at 23 7) "T1")) (next_term.FurtherTerm (at 23 10) adding.Add (term_of (at 23 12) (primary.Number (at 23 12)
    1)) ∷ [])))) (at 23 13) ∷ call_of (at 24 1) "Put" (suffix.Applied (at 24 5) (actual_of (at 24 6) (named (at 24 6)
    "Integer" (suffix.Attribute (at 24 13) (id (at 24 14) "Image") ∷ suffix.Applied (at 24 20) (actual_of (at 24 21)
    (primary.Number (at 24 21) 9)) [] (at 24 22) ∷ []))) [] (at 24 23) ∷ []) (at 24 24) ∷ call_of (at 25 1) "New_Line"
    [] (at 25 9) ∷ stmt.For (at 26 7) (id (at 26 11) "I2") (at 26 14) None (marked_of (mark (at 26 17) "Boolean")) (at
    26 25) (stmts.Sequence (at 27 1) (call_of (at 27 1) "Free2" (suffix.Applied (at 27 7) (actual_of (at 27 8) (object
    (at 27 8) "V1")) [] (at 27 10) ∷ []) (at 27 11)) (stmt.DeclareBlock (at 28 4) (initialized_of (id (at 29 7) "B1") []
    (at 29 10) None (indication.Anonymous (at 29 12) None (mark (at 29 19) "Integer")) (at 29 27) (expr_of (at 29 30)
    (object (at 29 30) "V1")) (at 29 32) ∷ objects_of (id (at 30 4) "V3") (next_id_of (at 30 6) (at 30 8) "V4" ∷ []) (at
    30 11) None (indication_of (mark (at 30 13) "A1")) (at 30 15) ∷ objects_of (id (at 30 17) "Latest_X") [] (at 30 26)
    None (indication_of (mark (at 30 28) "Integer")) (at 30 35) ∷ []) (at 31 1) (stmts.Sequence (at 31 7) (assign_of (at
    31 7) "Latest_X" [] (at 31 16) (expr.LoneRelation (at 31 19) (rel.LoneSum (at 31 19) (sum.Unsigned (at 31 19)
    (term_of (at 31 19) (primary.Number (at 31 19) 1)) (next_term.FurtherTerm (at 31 21) adding.Add (term_of (at 31 23)
    (named (at 31 23) "Latest_F" (suffix.Applied (at 31 32) (actual_of (at 31 33) (primary.Number (at 31 33) 2)) [] (at
    31 34) ∷ []))) ∷ [])))) (at 31 35)) (assign_of (at 32 1) "V3" (suffix.Applied (at 32 4) (actual_of (at 32 5)
    (primary.Number (at 32 5) 4)) [] (at 32 6) ∷ []) (at 32 8) (expr_of (at 32 11) (named (at 32 11) "V4"
    (suffix.Applied (at 32 14) (actual_of (at 32 15) (primary.Number (at 32 15) 3)) [] (at 32 16) ∷ []))) (at 32 17) ∷
    assign_of (at 33 1) "V3" [] (at 33 4) (expr_of (at 33 7) (primary.Aggregated (at 33 7) (aggregate.Several (at 33 7)
    (actual_of (at 33 8) (primary.Null (at 33 8))) (at 33 12) (actual_of (at 33 14) (primary.Null (at 33 14)))
    (next_arg.FurtherArg (at 33 18) (actual_of (at 33 20) (primary.AllocatedValue (at 33 20) (mark (at 33 24) "Integer")
    (at 33 31) (at 33 32) (expr_of (at 33 33) (primary.Parenthesized (at 33 33) (expr.LoneRelation (at 33 34)
    (rel.LoneSum (at 33 34) (sum.Signed (at 33 34) sign.Minus (term_of (at 33 35) (primary.Number (at 33 35) 7)) [])))
    (at 33 36))) (at 33 37))) ∷ next_arg.FurtherArg (at 33 38) (actual_of (at 33 40) (primary.AllocatedValue (at 33 40)
    (mark (at 33 44) "Integer") (at 33 51) (at 33 52) (expr_of (at 33 53) (primary.Parenthesized (at 33 53)
    (expr.LoneRelation (at 33 54) (rel.LoneSum (at 33 54) (sum.Signed (at 33 54) sign.Minus (term_of (at 33 55)
    (primary.Number (at 33 55) 20)) []))) (at 33 57))) (at 33 58))) ∷ []) (at 33 59)))) (at 33 60) ∷ [])) (at 34 1) (at
    34 4) ∷ [])) (at 35 4) (at 35 8) (at 35 12) ∷ [])) (at 36 1) (at 36 5) (at 36 9) ∷ [])) [] (at 37 4) (sole (at 38 4)
    (assign_of (at 38 4) "V1" [] (at 38 7) (expr_of (at 38 10) (primary.AllocatedValue (at 38 10) (mark (at 38 14)
    "Integer") (at 38 21) (at 38 22) (expr_of (at 38 23) (primary.Number (at 38 23) 34)) (at 38 25))) (at 38 26))) (at
    39 1) (at 39 5) (at 39 7))) (at 40 1) (Some (id (at 40 5) "Main")) (at 40 9)) ∷ []) ∷ [])
unfolding computes resolves
unknown_5 = refl

unknown_6 : IsFirstBrokenOf Unknown (at 17 42) ((unit.OfPackage (at 1 1) (context.With (at 1 1) (selected (at 1 6) "Ada"
    (at 1 9) (at 1 10) "Text_IO") [] (at 1 17) ∷ use_context (use_of (at 1 19) None (selected (at 1 23) "Ada" (at 1 26)
    (at 1 27) "Text_IO") [] (at 1 34)) ∷ context.With (at 1 36) (selected (at 1 41) "Ada" (at 1 44) (at 1 45)
    "Integer_Text_IO") [] (at 1 60) ∷ use_context (use_of (at 1 62) None (selected (at 1 66) "Ada" (at 1 69) (at 1 70)
    "Integer_Text_IO") [] (at 1 85)) ∷ context.With (at 1 87) (selected (at 1 92) "Ada" (at 1 95) (at 1 96)
    "Unchecked_Deallocation") [] (at 1 118) ∷ []) (package_of (at 2 1) (id (at 2 9) "Store") None (at 2 15) (decl.OfItem
    (at 3 1) (item.IncompleteType (at 3 1) (id (at 3 6) "Cell") (at 3 10)) ∷ decl.OfItem (at 4 1) (item.AccessType (at 4
    1) (id (at 4 6) "List") (at 4 11) (at 4 14) (mark (at 4 21) "Cell") (at 4 25)) ∷ decl.OfItem (at 5 1)
    (item.RecordType (at 5 1) (id (at 5 6) "Cell") (at 5 11) (at 5 14) (fields_of (id (at 5 21) "Value") [] (at 5 27)
    (mark (at 5 29) "Integer") (at 5 36)) (fields_of (id (at 5 38) "Next") [] (at 5 43) (mark (at 5 45) "List") (at 5
    49) ∷ []) (at 5 51) (at 5 55) (at 5 61)) ∷ decl.Subprogram (at 6 1) (subspec.Procedure (at 6 1) (id (at 6 11)
    "Push") (Some (formals_of (at 6 16) (moded_of (id (at 6 17) "L") [] (at 6 19) (Some (at 6 21)) (Some (at 6 24))
    (mark (at 6 28) "List")) (next_formal.Semicolon (at 6 32) (moded_of (id (at 6 34) "V") [] (at 6 36) None None (mark
    (at 6 38) "Integer")) ∷ []) (at 6 45)))) None (at 6 46) ∷ decl.Subprogram (at 7 1) (subspec.Function (at 7 1) (id
    (at 7 10) "Sum") (Some (formals_of (at 7 14) (moded_of (id (at 7 15) "L") [] (at 7 17) None None (mark (at 7 19)
    "List")) [] (at 7 23))) (at 7 25) (indication_of (mark (at 7 32) "Integer"))) None (at 7 39) ∷ decl.OfItem (at 8 1)
    (objects_of (id (at 8 1) "Total") [] (at 8 7) None (indication_of (mark (at 8 9) "Integer")) (at 8 16)) ∷ []) None
    (at 9 1) (Some (id (at 9 5) "Store")) (at 9 10)) ∷ unit.OfBody (at 10 1) [] (package_body_of (at 10 1) (at 10 9) (id
    (at 10 14) "Store") None (at 10 20) (part.Completed (at 11 1) (subprogram_of (at 11 1) (subspec.Procedure (at 11 1)
    (id (at 11 11) "Push") (Some (formals_of (at 11 16) (moded_of (id (at 11 17) "L") [] (at 11 19) (Some (at 11 21))
    (Some (at 11 24)) (mark (at 11 28) "List")) (next_formal.Semicolon (at 11 32) (moded_of (id (at 11 34) "V") [] (at
    11 36) None None (mark (at 11 38) "Integer")) ∷ []) (at 11 45)))) None (at 11 47) [] (at 12 1) (sole (at 13 1)
    (assign_of (at 13 1) "L" [] (at 13 3) (expr_of (at 13 6) (primary.AllocatedAggregate (at 13 6) (mark (at 13 10)
    "Cell") (at 13 14) (aggregate.Several (at 13 15) (actual_of (at 13 16) (object (at 13 16) "V")) (at 13 17)
    (actual_of (at 13 19) (object (at 13 19) "L")) [] (at 13 20)))) (at 13 21))) (at 14 1) (Some (id (at 14 5) "Push"))
    (at 14 9)) ∷ part.Completed (at 15 1) (subprogram_of (at 15 1) (subspec.Function (at 15 1) (id (at 15 10) "Sum")
    (Some (formals_of (at 15 14) (moded_of (id (at 15 15) "L") [] (at 15 17) None None (mark (at 15 19) "List")) [] (at
    15 23))) (at 15 25) (indication_of (mark (at 15 32) "Integer"))) None (at 15 40) (initialized_of (id (at 16 1) "C")
    [] (at 16 3) None (indication.Anonymous (at 16 5) (Some (at 16 12)) (mark (at 16 21) "Cell")) (at 16 26) (expr_of
    (at 16 29) (object (at 16 29) "L")) (at 16 30) ∷ initialized_of (id (at 17 1) "N") [] (at 17 3) None (indication_of
    (mark (at 17 5) "Integer")) (at 17 13) (expr_of (at 17 16) (primary.Number (at 17 16) 0)) (at 17 17) ∷
    item.AccessType (at 17 19) (id (at 17 24) "Quick_P") (at 17 32) (at 17 35) (mark (at 17 42) "Quick_T") (at 17 49) ∷
    []) (at 18 1) (stmts.Sequence (at 19 1) (stmt.While (at 19 1) (expr.LoneRelation (at 19 7) (rel.Compared (at 19 7)
    (sum_of (at 19 7) (object (at 19 7) "C")) relational.NotEqual (at 19 9) (sum_of (at 19 12) (primary.Null (at 19
    12))))) (at 19 17) (stmts.Sequence (at 19 22) (assign_of (at 19 22) "N" [] (at 19 24) (expr.LoneRelation (at 19 27)
    (rel.LoneSum (at 19 27) (sum.Unsigned (at 19 27) (term_of (at 19 27) (object (at 19 27) "N")) (next_term.FurtherTerm
    (at 19 29) adding.Add (term_of (at 19 31) (named (at 19 31) "C" (suffix.Selected (at 19 32) (id (at 19 33) "Value")
    ∷ []))) ∷ [])))) (at 19 38)) (assign_of (at 19 40) "C" [] (at 19 42) (expr_of (at 19 45) (named (at 19 45) "C"
    (suffix.Selected (at 19 46) (id (at 19 47) "Next") ∷ []))) (at 19 51) ∷ [])) (at 19 53) (at 19 57) (at 19 61))
    (stmt.ReturnValue (at 20 1) (expr_of (at 20 8) (object (at 20 8) "N")) (at 20 9) ∷ [])) (at 21 1) (Some (id (at 21
    5) "Sum")) (at 21 8)) ∷ []) (at 22 1) (Some (id (at 22 5) "Store")) (at 22 10)) ∷ unit.OfSubprogram (at 23 1)
    (context.With (at 23 1) (selected (at 23 6) "Ada" (at 23 9) (at 23 10) "Text_IO") [] (at 23 17) ∷ use_context
    (use_of (at 23 19) None (selected (at 23 23) "Ada" (at 23 26) (at 23 27) "Text_IO") [] (at 23 34)) ∷ context.With
    (at 23 36) (selected (at 23 41) "Ada" (at 23 44) (at 23 45) "Integer_Text_IO") [] (at 23 60) ∷ use_context (use_of
    (at 23 62) None (selected (at 23 66) "Ada" (at 23 69) (at 23 70) "Integer_Text_IO") [] (at 23 85)) ∷ context.With
    (at 23 87) (selected (at 23 92) "Ada" (at 23 95) (at 23 96) "Unchecked_Deallocation") [] (at 23 118) ∷ context.With
    (at 23 120) (mark (at 23 125) "Store") [] (at 23 130) ∷ use_context (use_of (at 23 132) None (mark (at 23 136)
    "Store") [] (at 23 141)) ∷ []) (subprogram_of (at 24 1) (subspec.Procedure (at 24 1) (id (at 24 11) "Main") None)
    None (at 24 16) (objects_of (id (at 25 1) "X") (next_id_of (at 25 2) (at 25 4) "Y" ∷ []) (at 25 6) None
    (indication_of (mark (at 25 8) "List")) (at 25 12) ∷ initialized_of (id (at 26 1) "N") [] (at 26 3) None
    (indication_of (mark (at 26 5) "Integer")) (at 26 13) (expr_of (at 26 16) (primary.Number (at 26 16) 7)) (at 26 17)
    ∷ item.Instance (at 27 1) (id (at 27 11) "Free") (at 27 16) (at 27 19) (selected (at 27 23) "Ada" (at 27 26) (at 27
    27) "Unchecked_Deallocation") (at 27 50) (actual_of (at 27 51) (object (at 27 51) "Cell")) (next_arg.FurtherArg (at
    27 55) (actual_of (at 27 57) (object (at 27 57) "List")) ∷ []) (at 27 61) (at 27 62) ∷ []) (at 28 1) (stmts.Sequence
    (at 29 1) (assign_of (at 29 1) "Y" [] (at 29 3) (expr_of (at 29 6) (object (at 29 6) "X")) (at 29 7)) (assign_of (at
    29 9) "X" [] (at 29 11) (expr_of (at 29 14) (primary.Null (at 29 14))) (at 29 18) ∷ call_of (at 30 1) "Put_Line"
    (suffix.Applied (at 30 10) (actual_of (at 30 11) (named (at 30 11) "Integer" (suffix.Attribute (at 30 18) (id (at 30
    19) "Image") ∷ suffix.Applied (at 30 25) (actual_of (at 30 26) (object (at 30 26) "N")) [] (at 30 27) ∷ []))) [] (at
    30 28) ∷ []) (at 30 29) ∷ stmt.For (at 31 1) (id (at 31 5) "I") (at 31 7) None (range.Bounds (at 31 10) (expr_of (at
    31 10) (primary.Number (at 31 10) 1)) (at 31 12) (expr_of (at 31 15) (primary.Number (at 31 15) 3))) (at 31 17)
    (sole (at 31 22) (assign_of (at 31 22) "N" [] (at 31 24) (expr.LoneRelation (at 31 27) (rel.LoneSum (at 31 27)
    (sum.Unsigned (at 31 27) (term_of (at 31 27) (object (at 31 27) "N")) (next_term.FurtherTerm (at 31 29) adding.Add
    (term_of (at 31 31) (object (at 31 31) "I")) ∷ [])))) (at 31 32))) (at 31 34) (at 31 38) (at 31 42) ∷ [])) (at 32 1)
    (Some (id (at 32 5) "Main")) (at 32 9)) ∷ []) ∷ [])
unfolding computes resolves
unknown_6 = refl

-- Its only declarations stand in regions that don't enclose the use.
only_elsewhere_1 : IsFirstBrokenOf Unknown (at 10 92) ((unit.OfSubprogram (at 1 1) (context.With (at 1 1) (selected (at
    1 6) "ADA" (at 1 9) (at 1 10) "Text_IO") [] (at 1 17) ∷ use_context (use_of (at 1 19) None (selected (at 1 23) "aDA"
    (at 1 26) (at 1 27) "Text_IO") [] (at 1 34)) ∷ context.With (at 1 36) (selected (at 1 41) "Ada" (at 1 44) (at 1 45)
    "Integer_Text_IO") [] (at 1 60) ∷ use_context (use_of (at 1 62) None (selected (at 1 66) "Ada" (at 1 69) (at 1 70)
    "Integer_Text_IO") [] (at 1 85)) ∷ context.With (at 1 87) (selected (at 1 92) "Ada" (at 1 95) (at 1 96)
    "Unchecked_Deallocation") [] (at 1 118) ∷ []) (subprogram_of (at 2 1) (subspec.Procedure (at 2 1) (id (at 2 11)
    "Main") None) None (at 2 16) (item.IncompleteType (at 3 1) (id (at 3 6) "Cell") (at 3 10) ∷ item.AccessType (at 4 1)
    (id (at 4 6) "List") (at 4 11) (at 4 14) (mark (at 4 21) "Cell") (at 4 25) ∷ item.RecordType (at 5 1) (id (at 5 6)
    "Cell") (at 5 11) (at 5 14) (fields_of (id (at 5 21) "Value") [] (at 5 27) (mark (at 5 29) "Integer") (at 5 36))
    (fields_of (id (at 5 38) "Next") [] (at 5 43) (mark (at 5 45) "List") (at 5 49) ∷ []) (at 5 51) (at 5 55) (at 5 61)
    ∷ objects_of (id (at 6 1) "X") (next_id_of (at 6 2) (at 6 4) "Y" ∷ []) (at 6 6) None (indication_of (mark (at 6 8)
    "List")) (at 6 12) ∷ initialized_of (id (at 7 1) "n") [] (at 7 3) None (indication_of (mark (at 7 5) "integer")) (at
    7 13) (expr_of (at 7 16) (primary.Number (at 7 16) 8)) (at 7 17) ∷ []) (at 8 1) (stmts.Sequence (at 9 1)
    (stmt.DeclareBlock (at 9 1) (initialized_of (id (at 9 9) "B") [] (at 9 11) None (indication.Anonymous (at 9 13) None
    (mark (at 9 20) "CELL")) (at 9 25) (expr_of (at 9 28) (object (at 9 28) "X")) (at 9 29) ∷ []) (at 9 31) (sole (at 9
    37) (stmt.If (at 9 37) (expr.LoneRelation (at 9 40) (rel.Compared (at 9 40) (sum_of (at 9 40) (object (at 9 40)
    "B")) relational.NotEqual (at 9 42) (sum_of (at 9 45) (primary.Null (at 9 45))))) (at 9 50) (sole (at 9 55)
    (assign_of (at 9 55) "B" (suffix.Selected (at 9 56) (id (at 9 57) "VALUE") ∷ []) (at 9 63) (expr_of (at 9 66)
    (object (at 9 66) "N")) (at 9 67))) [] (at 9 69) (at 9 73) (at 9 75))) (at 9 77) (at 9 80)) (stmt.If (at 10 1)
    (expr.LoneRelation (at 10 4) (rel.LoneSum (at 10 4) (sum.Unsigned (at 10 4) (term.Product (at 10 4) (factor.Not (at
    10 4) (object (at 10 8) "End_Of_File")) []) []))) (at 10 20) (stmts.Sequence (at 10 25) (call_of (at 10 25) "Get"
    (suffix.Applied (at 10 29) (actual_of (at 10 30) (object (at 10 30) "N")) [] (at 10 31) ∷ []) (at 10 32))
    (stmt.Block (at 10 34) (stmts.Sequence (at 10 40) (stmt.DeclareBlock (at 10 40) (objects_of (id (at 10 48)
    "Minor_X") [] (at 10 56) None (indication_of (mark (at 10 58) "Integer")) (at 10 65) ∷ []) (at 10 67) (sole (at 10
    73) (assign_of (at 10 73) "Minor_X" [] (at 10 81) (expr_of (at 10 84) (primary.Number (at 10 84) 1)) (at 10 85)))
    (at 10 87) (at 10 90)) (assign_of (at 10 92) "Minor_X" [] (at 10 100) (expr_of (at 10 103) (primary.Number (at 10
    103) 2)) (at 10 104) ∷ [])) (at 10 106) (at 10 109) ∷ [])) [] (at 10 111) (at 10 115) (at 10 117) ∷ [])) (at 11 1)
    (Some (id (at 11 5) "Main")) (at 11 9)) ∷ []) ∷ [])
unfolding computes resolves
only_elsewhere_1 = refl

only_elsewhere_2 : IsFirstBrokenOf Unknown (at 6 121) ((unit.OfSubprogram (at 1 1) (context.With (at 1 1) (selected (at
    1 6) "Ada" (at 1 9) (at 1 10) "Text_IO") [] (at 1 17) ∷ use_context (use_of (at 1 19) None (selected (at 1 23) "Ada"
    (at 1 26) (at 1 27) "Text_IO") [] (at 1 34)) ∷ context.With (at 1 36) (selected (at 1 41) "Ada" (at 1 44) (at 1 45)
    "Integer_Text_IO") [] (at 1 60) ∷ use_context (use_of (at 1 62) None (selected (at 1 66) "Ada" (at 1 69) (at 1 70)
    "Integer_Text_IO") [] (at 1 85)) ∷ context.With (at 1 87) (selected (at 1 92) "Ada" (at 1 95) (at 1 96)
    "Unchecked_Deallocation") [] (at 1 118) ∷ []) (subprogram_of (at 2 1) (subspec.Procedure (at 2 1) (id (at 2 11)
    "Main") None) None (at 2 16) (item.IncompleteType (at 3 1) (id (at 3 6) "Cell") (at 3 10) ∷ item.AccessType (at 4 1)
    (id (at 4 6) "List") (at 4 11) (at 4 14) (mark (at 4 21) "Cell") (at 4 25) ∷ item.RecordType (at 4 27) (id (at 4 32)
    "Cell") (at 4 37) (at 4 40) (fields_of (id (at 4 47) "Value") [] (at 4 53) (mark (at 4 55) "Integer") (at 4 62))
    (fields_of (id (at 4 64) "Next") [] (at 4 69) (mark (at 4 71) "List") (at 4 75) ∷ []) (at 4 77) (at 4 81) (at 4 87)
    ∷ objects_of (id (at 4 89) "X") (next_id_of (at 4 90) (at 4 92) "Y" ∷ []) (at 4 94) None (indication_of (mark (at 4
    96) "List")) (at 4 100) ∷ initialized_of (id (at 5 1) "N") [] (at 5 3) None (indication_of (mark (at 5 5)
    "Integer")) (at 5 13) (expr_of (at 5 16) (primary.Number (at 5 16) 0)) (at 5 17) ∷ item.Instance (at 5 19) (id (at 5
    29) "Free") (at 5 34) (at 5 37) (selected (at 5 41) "Ada" (at 5 44) (at 5 45) "Unchecked_Deallocation") (at 5 68)
    (actual_of (at 5 69) (object (at 5 69) "Cell")) (next_arg.FurtherArg (at 5 73) (actual_of (at 5 75) (object (at 5
    75) "List")) ∷ []) (at 5 79) (at 5 80) ∷ []) (at 5 82) (stmts.Sequence (at 5 88) (stmt.Case (at 5 88) (expr_of (at 5
    93) (object (at 5 93) "N")) (at 5 95) (alternative.Alternative (at 5 98) (choice.Value (at 5 103) (expr_of (at 5
    103) (primary.Number (at 5 103) 1))) [] (at 5 105) (sole (at 5 108) (stmt.Null (at 5 108) (at 5 112))))
    (alternative.Alternative (at 5 114) (choice.Others (at 5 119)) [] (at 5 126) (sole (at 5 129) (assign_of (at 5 129)
    "N" [] (at 5 131) (expr_of (at 5 134) (primary.Number (at 5 134) 2)) (at 5 135))) ∷ []) (at 5 137) (at 5 141) (at 5
    145)) (call_of (at 6 1) "Put_Line" (suffix.Applied (at 6 10) (actual_of (at 6 11) (named (at 6 11) "Integer"
    (suffix.Attribute (at 6 18) (id (at 6 19) "Image") ∷ suffix.Applied (at 6 25) (actual_of (at 6 26) (object (at 6 26)
    "N")) [] (at 6 27) ∷ []))) [] (at 6 28) ∷ []) (at 6 29) ∷ stmt.DeclareBlock (at 6 31) (objects_of (id (at 6 39)
    "Latest_Y") [] (at 6 48) None (indication_of (mark (at 6 50) "Integer")) (at 6 57) ∷ []) (at 6 59) (stmts.Sequence
    (at 6 65) (stmt.For (at 6 65) (id (at 6 69) "Latest_I") (at 6 78) None (range.Bounds (at 6 81) (expr_of (at 6 81)
    (primary.Number (at 6 81) 1)) (at 6 83) (expr_of (at 6 86) (primary.Number (at 6 86) 2))) (at 6 88) (sole (at 6 93)
    (stmt.Null (at 6 93) (at 6 97))) (at 6 99) (at 6 103) (at 6 107)) (assign_of (at 6 109) "Latest_Y" [] (at 6 118)
    (expr_of (at 6 121) (object (at 6 121) "Latest_I")) (at 6 129) ∷ [])) (at 6 131) (at 6 134) ∷ [])) (at 7 1) (Some
    (id (at 7 5) "Main")) (at 7 9)) ∷ []) ∷ [])
unfolding computes resolves
only_elsewhere_2 = refl

only_elsewhere_3 : IsFirstBrokenOf Unknown (at 5 30) ((unit.OfPackage (at 1 7) (context.With (at 1 7) (selected (at 1
    12) "Ada" (at 1 15) (at 1 16) "Text_IO") [] (at 1 23) ∷ use_context (use_of (at 1 25) None (selected (at 1 29) "Ada"
    (at 1 32) (at 1 33) "Text_IO") [] (at 1 40)) ∷ context.With (at 1 42) (selected (at 1 47) "Ada" (at 1 50) (at 1 51)
    "Integer_Text_IO") [] (at 1 66) ∷ use_context (use_of (at 1 68) None (selected (at 1 72) "Ada" (at 1 75) (at 1 76)
    "Integer_Text_IO") [] (at 1 91)) ∷ context.With (at 1 93) (selected (at 1 98) "Ada" (at 1 101) (at 1 102)
    "Unchecked_Deallocation") [] (at 1 124) ∷ []) (package_of (at 1 126) (id (at 1 134) "Plain_P") None (at 1 142)
    (decl.Subprogram (at 2 4) (subspec.Procedure (at 2 4) (id (at 2 14) "Plain_Do") None) None (at 2 22) ∷ []) None (at
    3 4) (Some (id (at 3 8) "Plain_P")) (at 3 15)) ∷ unit.OfBody (at 4 1) [] (package_body_of (at 4 1) (at 4 9) (id (at
    4 14) "Plain_P") None (at 4 22) (part.Completed (at 5 1) (subprogram_of (at 5 1) (subspec.Procedure (at 5 1) (id (at
    5 11) "Plain_Do") None) None (at 5 20) [] (at 5 24) (stmts.Sequence (at 5 30) (assign_of (at 5 30) "Plain_X" [] (at
    5 38) (expr_of (at 5 41) (primary.Number (at 5 41) 2)) (at 5 42)) (stmt.DeclareBlock (at 5 44) (objects_of (id (at 5
    52) "Plain_X") [] (at 5 60) None (indication_of (mark (at 5 62) "Integer")) (at 5 69) ∷ []) (at 5 71) (sole (at 5
    77) (assign_of (at 5 77) "Plain_X" [] (at 5 85) (expr_of (at 5 88) (primary.Number (at 5 88) 1)) (at 5 89))) (at 5
    91) (at 5 94) ∷ [])) (at 5 96) (Some (id (at 5 100) "Plain_Do")) (at 5 108)) ∷ []) (at 6 7) (Some (id (at 6 11)
    "Plain_P")) (at 6 18)) ∷ unit.OfSubprogram (at 7 1) (context.With (at 7 1) (selected (at 7 6) "Ada" (at 7 9) (at 7
    10) "Text_IO") [] (at 7 17) ∷ use_context (use_of (at 7 19) None (selected (at 7 23) "Ada" (at 7 26) (at 7 27)
    "Text_IO") [] (at 7 34)) ∷ context.With (at 7 36) (selected (at 7 41) "Ada" (at 7 44) (at 7 45) "Integer_Text_IO")
    [] (at 7 60) ∷ use_context (use_of (at 7 62) None (selected (at 7 66) "Ada" (at 7 69) (at 7 70) "Integer_Text_IO")
    [] (at 7 85)) ∷ context.With (at 7 87) (selected (at 7 92) "Ada" (at 7 95) (at 7 96) "Unchecked_Deallocation") []
    (at 7 118) ∷ []) (subprogram_of (at 8 7) (subspec.Procedure (at 8 7) (id (at 8 17) "Main") None) None (at 8 22)
    (item.IncompleteType (at 9 4) (id (at 9 9) "Cell") (at 9 13) ∷ item.AccessType (at 10 1) (id (at 10 6) "List") (at
    10 11) (at 10 14) (mark (at 10 21) "Cell") (at 10 25) ∷ item.RecordType (at 11 1) (id (at 11 6) "Cell") (at 11 11)
    (at 11 14) (fields_of (id (at 11 21) "Value") [] (at 11 27) (mark (at 11 29) "Integer") (at 11 36)) (fields_of (id
    (at 11 38) "Next") [] (at 11 43) (mark (at 11 45) "List") (at 11 49) ∷ []) (at 11 51) (at 11 55) (at 11 61) ∷
    objects_of (id (at 12 7) "X") (next_id_of (at 12 8) (at 12 10) "Y" ∷ []) (at 12 12) None (indication_of (mark (at 12
    14) "List")) (at 12 18) ∷ initialized_of (id (at 13 1) "N") [] (at 13 3) None (indication_of (mark (at 13 5)
    "Integer")) (at 13 13) (expr_of (at 13 16) (primary.Number (at 13 16) 3)) (at 13 17) ∷ []) (at 14 4) (stmts.Sequence
    (at 15 1) (assign_of (at 15 1) "N" [] (at 15 3) (expr.LoneRelation (at 15 6) (rel.LoneSum (at 15 6) (sum.Unsigned
    (at 15 6) (term.Product (at 15 6) (factor_of (at 15 6) (object (at 15 6) "N")) (next_factor.FurtherFactor (at 15 8)
    multiplying.Multiply (factor_of (at 15 10) (primary.Number (at 15 10) 2)) ∷ [])) (next_term.FurtherTerm (at 15 12)
    adding.Add (term_of (at 15 14) (primary.Number (at 15 14) 1)) ∷ [])))) (at 15 15)) (call_of (at 16 1) "Put_Line"
    (suffix.Applied (at 16 10) (actual_of (at 16 11) (named (at 16 11) "Integer" (suffix.Attribute (at 16 18) (id (at 16
    19) "Image") ∷ suffix.Applied (at 16 25) (actual_of (at 16 26) (object (at 16 26) "N")) [] (at 16 27) ∷ []))) [] (at
    16 28) ∷ []) (at 16 29) ∷ [])) (at 17 1) (Some (id (at 17 5) "Main")) (at 17 9)) ∷ []) ∷ [])
unfolding computes resolves
only_elsewhere_3 = refl

only_elsewhere_4 : IsFirstBrokenOf Unknown (at 5 106) ((unit.OfPackage (at 1 1) (context.With (at 1 1) (selected (at 1
    6) "Ada" (at 1 9) (at 1 10) "Text_IO") [] (at 1 17) ∷ use_context (use_of (at 1 19) None (selected (at 1 23) "Ada"
    (at 1 26) (at 1 27) "Text_IO") [] (at 1 34)) ∷ context.With (at 1 36) (selected (at 1 41) "Ada" (at 1 44) (at 1 45)
    "iNTEGER_tEXT_io") [] (at 1 60) ∷ use_context (use_of (at 1 62) None (selected (at 1 66) "ada" (at 1 69) (at 1 70)
    "Integer_Text_IO") [] (at 1 85)) ∷ context.With (at 1 87) (selected (at 1 92) "Ada" (at 1 95) (at 1 96)
    "Unchecked_Deallocation") [] (at 1 118) ∷ []) (package_of (at 1 120) (id (at 1 128) "Second_P") None (at 1 137)
    (decl.Subprogram (at 2 1) (subspec.Procedure (at 2 1) (id (at 2 11) "Second_Q") None) None (at 2 19) ∷
    decl.Subprogram (at 2 21) (subspec.Procedure (at 2 21) (id (at 2 31) "Second_R") None) None (at 2 39) ∷ []) None (at
    3 1) (Some (id (at 3 5) "SECOND_P")) (at 3 13)) ∷ unit.OfBody (at 4 1) [] (package_body_of (at 4 1) (at 4 9) (id (at
    4 14) "Second_P") None (at 4 23) (part.Completed (at 5 1) (subprogram_of (at 5 1) (subspec.Procedure (at 5 1) (id
    (at 5 11) "Second_Q") None) None (at 5 20) (objects_of (id (at 5 23) "Second_X") [] (at 5 32) None (indication_of
    (mark (at 5 34) "iNTEGER")) (at 5 41) ∷ []) (at 5 43) (sole (at 5 49) (assign_of (at 5 49) "Second_X" [] (at 5 58)
    (expr_of (at 5 61) (primary.Number (at 5 61) 1)) (at 5 62))) (at 5 64) (Some (id (at 5 68) "Second_Q")) (at 5 76)) ∷
    part.Completed (at 5 78) (subprogram_of (at 5 78) (subspec.Procedure (at 5 78) (id (at 5 88) "Second_R") None) None
    (at 5 97) [] (at 5 100) (sole (at 5 106) (assign_of (at 5 106) "Second_X" [] (at 5 115) (expr_of (at 5 118)
    (primary.Number (at 5 118) 1)) (at 5 119))) (at 5 121) (Some (id (at 5 125) "sECOND_r")) (at 5 133)) ∷ []) (at 6 1)
    (Some (id (at 6 5) "second_p")) (at 6 13)) ∷ unit.OfPackage (at 7 1) (context.With (at 7 1) (selected (at 7 6) "Ada"
    (at 7 9) (at 7 10) "tEXT_io") [] (at 7 17) ∷ use_context (use_of (at 7 19) None (selected (at 7 23) "Ada" (at 7 26)
    (at 7 27) "Text_IO") [] (at 7 34)) ∷ context.With (at 7 36) (selected (at 7 41) "Ada" (at 7 44) (at 7 45)
    "Integer_Text_IO") [] (at 7 60) ∷ use_context (use_of (at 7 62) None (selected (at 7 66) "ada" (at 7 69) (at 7 70)
    "INTEGER_TEXT_IO") [] (at 7 85)) ∷ context.With (at 7 87) (selected (at 7 92) "Ada" (at 7 95) (at 7 96)
    "Unchecked_Deallocation") [] (at 7 118) ∷ []) (package_of (at 8 1) (id (at 8 9) "Store") None (at 8 15) (decl.OfItem
    (at 9 1) (item.IncompleteType (at 9 1) (id (at 9 6) "Cell") (at 9 10)) ∷ decl.OfItem (at 10 1) (item.AccessType (at
    10 1) (id (at 10 6) "List") (at 10 11) (at 10 14) (mark (at 10 21) "Cell") (at 10 25)) ∷ decl.OfItem (at 11 1)
    (item.RecordType (at 11 1) (id (at 11 6) "Cell") (at 11 11) (at 11 14) (fields_of (id (at 11 21) "Value") [] (at 11
    27) (mark (at 11 29) "Integer") (at 11 36)) (fields_of (id (at 11 38) "NEXT") [] (at 11 43) (mark (at 11 45) "List")
    (at 11 49) ∷ []) (at 11 51) (at 11 55) (at 11 61)) ∷ decl.Subprogram (at 12 1) (subspec.Procedure (at 12 1) (id (at
    12 11) "Push") (Some (formals_of (at 12 16) (moded_of (id (at 12 17) "L") [] (at 12 19) (Some (at 12 21)) (Some (at
    12 24)) (mark (at 12 28) "List")) (next_formal.Semicolon (at 12 32) (moded_of (id (at 12 34) "V") [] (at 12 36) None
    None (mark (at 12 38) "Integer")) ∷ []) (at 12 45)))) None (at 12 46) ∷ decl.Subprogram (at 13 1) (subspec.Function
    (at 13 1) (id (at 13 10) "Sum") (Some (formals_of (at 13 14) (moded_of (id (at 13 15) "L") [] (at 13 17) None None
    (mark (at 13 19) "List")) [] (at 13 23))) (at 13 25) (indication_of (mark (at 13 32) "Integer"))) None (at 13 39) ∷
    decl.OfItem (at 14 1) (objects_of (id (at 14 1) "Total") [] (at 14 7) None (indication_of (mark (at 14 9)
    "Integer")) (at 14 16)) ∷ []) None (at 15 1) (Some (id (at 15 5) "STORE")) (at 15 10)) ∷ unit.OfBody (at 16 1) []
    (package_body_of (at 16 1) (at 16 9) (id (at 16 14) "Store") None (at 16 20) (part.Completed (at 17 1)
    (subprogram_of (at 17 1) (subspec.Procedure (at 17 1) (id (at 17 11) "Push") (Some (formals_of (at 17 16) (moded_of
    (id (at 17 17) "L") [] (at 17 19) (Some (at 17 21)) (Some (at 17 24)) (mark (at 17 28) "List"))
    (next_formal.Semicolon (at 17 32) (moded_of (id (at 17 34) "V") [] (at 17 36) None None (mark (at 17 38) "Integer"))
    ∷ []) (at 17 45)))) None (at 17 47) [] (at 18 1) (sole (at 19 1) (assign_of (at 19 1) "L" [] (at 19 3) (expr_of (at
    19 6) (primary.AllocatedAggregate (at 19 6) (mark (at 19 10) "Cell") (at 19 14) (aggregate.Several (at 19 15)
    (actual_of (at 19 16) (object (at 19 16) "V")) (at 19 17) (actual_of (at 19 19) (object (at 19 19) "L")) [] (at 19
    20)))) (at 19 21))) (at 20 1) (Some (id (at 20 5) "Push")) (at 20 9)) ∷ part.Completed (at 21 1) (subprogram_of (at
    21 1) (subspec.Function (at 21 1) (id (at 21 10) "Sum") (Some (formals_of (at 21 14) (moded_of (id (at 21 15) "L")
    [] (at 21 17) None None (mark (at 21 19) "List")) [] (at 21 23))) (at 21 25) (indication_of (mark (at 21 32)
    "Integer"))) None (at 21 40) (initialized_of (id (at 22 1) "C") [] (at 22 3) None (indication.Anonymous (at 22 5)
    (Some (at 22 12)) (mark (at 22 21) "Cell")) (at 22 26) (expr_of (at 22 29) (object (at 22 29) "l")) (at 22 30) ∷
    initialized_of (id (at 23 1) "N") [] (at 23 3) None (indication_of (mark (at 23 5) "Integer")) (at 23 13) (expr_of
    (at 23 16) (primary.Number (at 23 16) 0)) (at 23 17) ∷ []) (at 24 1) (stmts.Sequence (at 25 1) (stmt.While (at 25 1)
    (expr.LoneRelation (at 25 7) (rel.Compared (at 25 7) (sum_of (at 25 7) (object (at 25 7) "C")) relational.NotEqual
    (at 25 9) (sum_of (at 25 12) (primary.Null (at 25 12))))) (at 25 17) (stmts.Sequence (at 25 22) (assign_of (at 25
    22) "N" [] (at 25 24) (expr.LoneRelation (at 25 27) (rel.LoneSum (at 25 27) (sum.Unsigned (at 25 27) (term_of (at 25
    27) (object (at 25 27) "N")) (next_term.FurtherTerm (at 25 29) adding.Add (term_of (at 25 31) (named (at 25 31) "C"
    (suffix.Selected (at 25 32) (id (at 25 33) "vALUE") ∷ []))) ∷ [])))) (at 25 38)) (assign_of (at 25 40) "c" [] (at 25
    42) (expr_of (at 25 45) (named (at 25 45) "c" (suffix.Selected (at 25 46) (id (at 25 47) "Next") ∷ []))) (at 25 51)
    ∷ [])) (at 25 53) (at 25 57) (at 25 61)) (stmt.ReturnValue (at 26 1) (expr_of (at 26 8) (object (at 26 8) "N")) (at
    26 9) ∷ [])) (at 27 1) (Some (id (at 27 5) "SUM")) (at 27 8)) ∷ []) (at 28 1) (Some (id (at 28 5) "store")) (at 28
    10)) ∷ unit.OfSubprogram (at 29 1) (context.With (at 29 1) (selected (at 29 6) "Ada" (at 29 9) (at 29 10) "Text_IO")
    [] (at 29 17) ∷ use_context (use_of (at 29 19) None (selected (at 29 23) "Ada" (at 29 26) (at 29 27) "Text_IO") []
    (at 29 34)) ∷ context.With (at 29 36) (selected (at 29 41) "Ada" (at 29 44) (at 29 45) "Integer_Text_IO") [] (at 29
    60) ∷ use_context (use_of (at 29 62) None (selected (at 29 66) "Ada" (at 29 69) (at 29 70) "Integer_Text_IO") [] (at
    29 85)) ∷ context.With (at 29 87) (selected (at 29 92) "ADA" (at 29 95) (at 29 96) "Unchecked_Deallocation") [] (at
    29 118) ∷ context.With (at 29 120) (mark (at 29 125) "Store") [] (at 29 130) ∷ use_context (use_of (at 29 132) None
    (mark (at 29 136) "Store") [] (at 29 141)) ∷ []) (subprogram_of (at 30 1) (subspec.Procedure (at 30 1) (id (at 30
    11) "Main") None) None (at 30 16) (objects_of (id (at 31 1) "X") (next_id_of (at 31 2) (at 31 4) "Y" ∷ []) (at 31 6)
    None (indication_of (mark (at 31 8) "List")) (at 31 12) ∷ initialized_of (id (at 32 1) "N") [] (at 32 3) None
    (indication_of (mark (at 32 5) "Integer")) (at 32 13) (expr_of (at 32 16) (primary.Number (at 32 16) 1)) (at 32 17)
    ∷ item.Instance (at 33 1) (id (at 33 11) "Free") (at 33 16) (at 33 19) (selected (at 33 23) "Ada" (at 33 26) (at 33
    27) "Unchecked_Deallocation") (at 33 50) (actual_of (at 33 51) (object (at 33 51) "Cell")) (next_arg.FurtherArg (at
    33 55) (actual_of (at 33 57) (object (at 33 57) "List")) ∷ []) (at 33 61) (at 33 62) ∷ []) (at 34 1) (stmts.Sequence
    (at 35 1) (assign_of (at 35 1) "X" [] (at 35 3) (expr_of (at 35 6) (primary.AllocatedAggregate (at 35 6) (mark (at
    35 10) "Cell") (at 35 14) (aggregate.Several (at 35 15) (actual_of (at 35 16) (object (at 35 16) "n")) (at 35 17)
    (actual_of (at 35 19) (primary.Null (at 35 19))) [] (at 35 23)))) (at 35 24)) (stmt.For (at 36 1) (id (at 36 5) "I")
    (at 36 7) None (range.Bounds (at 36 10) (expr_of (at 36 10) (primary.Number (at 36 10) 1)) (at 36 12) (expr_of (at
    36 15) (primary.Number (at 36 15) 3))) (at 36 17) (sole (at 36 22) (assign_of (at 36 22) "N" [] (at 36 24)
    (expr.LoneRelation (at 36 27) (rel.LoneSum (at 36 27) (sum.Unsigned (at 36 27) (term_of (at 36 27) (object (at 36
    27) "N")) (next_term.FurtherTerm (at 36 29) adding.Add (term_of (at 36 31) (object (at 36 31) "I")) ∷ [])))) (at 36
    32))) (at 36 34) (at 36 38) (at 36 42) ∷ stmt.While (at 37 1) (expr.LoneRelation (at 37 7) (rel.Compared (at 37 7)
    (sum_of (at 37 7) (object (at 37 7) "N")) relational.Greater (at 37 9) (sum_of (at 37 11) (primary.Number (at 37 11)
    5)))) (at 37 13) (sole (at 37 18) (assign_of (at 37 18) "N" [] (at 37 20) (expr.LoneRelation (at 37 23) (rel.LoneSum
    (at 37 23) (sum.Unsigned (at 37 23) (term.Product (at 37 23) (factor_of (at 37 23) (object (at 37 23) "N"))
    (next_factor.FurtherFactor (at 37 25) multiplying.Divide (factor_of (at 37 27) (primary.Number (at 37 27) 2)) ∷ []))
    []))) (at 37 28))) (at 37 30) (at 37 34) (at 37 38) ∷ assign_of (at 38 1) "N" [] (at 38 3) (expr_of (at 38 6) (named
    (at 38 6) "Sum" (suffix.Applied (at 38 10) (actual_of (at 38 11) (object (at 38 11) "y")) [] (at 38 12) ∷ []))) (at
    38 13) ∷ [])) (at 39 1) (Some (id (at 39 5) "MAIN")) (at 39 9)) ∷ []) ∷ [])
unfolding computes resolves
only_elsewhere_4 = refl
