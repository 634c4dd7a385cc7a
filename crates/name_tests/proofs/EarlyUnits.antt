-- The specification of a package stands later: N4.
--
-- tools/tree_terms.py makes this of the sources that data/cases.txt has under its name.
use Rattle.std.proofs.Common.{refl, [], ◌∷◌}
use Rattle.std.specs.Prelude.{None, Some}
use Rattle.ada_tree.specs.declared.operator.AddingOperator.TheVariants as adding
use Rattle.ada_tree.specs.declared.expression.Aggregate.TheVariants as aggregate
use Rattle.ada_tree.specs.declared.statement.When.TheVariants as alternative
use Rattle.ada_tree.specs.declared.expression.Arg.TheVariants as arg
use Rattle.ada_tree.specs.declared.range.Choice.TheVariants as choice
use Rattle.ada_tree.specs.declared.unit.Context.TheVariants as context
use Rattle.ada_tree.specs.declared.subprogram.Decl.TheVariants as decl
use Rattle.ada_tree.specs.declared.expression.Expr.TheVariants as expr
use Rattle.ada_tree.specs.declared.expression.Factor.TheVariants as factor
use Rattle.ada_tree.specs.declared.declaration.Indication.TheVariants as indication
use Rattle.ada_tree.specs.declared.declaration.Item.TheVariants as item
use Rattle.ada_tree.specs.declared.operator.MultiplyingOperator.TheVariants as multiplying
use Rattle.ada_tree.specs.declared.expression.NextArg.TheVariants as next_arg
use Rattle.ada_tree.specs.declared.range.NextChoice.TheVariants as next_choice
use Rattle.ada_tree.specs.declared.expression.NextFactor.TheVariants as next_factor
use Rattle.ada_tree.specs.declared.subprogram.NextFormal.TheVariants as next_formal
use Rattle.ada_tree.specs.declared.expression.NextTerm.TheVariants as next_term
use Rattle.ada_tree.specs.declared.unit.BodyPart.TheVariants as part
use Rattle.ada_tree.specs.declared.expression.Primary.TheVariants as primary
use Rattle.ada_tree.specs.declared.range.Range.TheVariants as range
use Rattle.ada_tree.specs.declared.expression.Rel.TheVariants as rel
use Rattle.ada_tree.specs.declared.operator.RelationalOperator.TheVariants as relational
use Rattle.ada_tree.specs.declared.operator.Sign.TheVariants as sign
use Rattle.ada_tree.specs.declared.statement.Stmt.TheVariants as stmt
use Rattle.ada_tree.specs.declared.statement.Stmts.TheVariants as stmts
use Rattle.ada_tree.specs.declared.subprogram.Subspec.TheVariants as subspec
use Rattle.ada_tree.specs.declared.expression.Suffix.TheVariants as suffix
use Rattle.ada_tree.specs.declared.expression.Sum.TheVariants as sum
use Rattle.ada_tree.specs.declared.expression.Term.TheVariants as term
use Rattle.ada_tree.specs.declared.unit.SourceUnit.TheVariants as unit
use Rattle.ada_grammar.proofs.SmallSources.{computes}
use Rattle.name_events.specs.declared.declaration.NameRule.TheVariants.{TooEarly}
use Rattle.name_tests.proofs.SmallRules.{resolves}
use Rattle.name_tests.proofs.SourceTrees.{IsFirstBrokenOf, actual_of, assign_of, at, call_of, expr_of, factor_of, fields_of, formals_of, id, indication_of, initialized_of, mark, moded_of, named, next_id_of, object, objects_of, package_body_of, package_of, rel_of, selected, sole, subprogram_of, sum_of, term_of, use_context, use_of}

later_unit_1 : IsFirstBrokenOf TooEarly (at 12 17) ((unit.OfSubprogram (at 1 7) (context.With (at 1 7) (selected (at 1
    12) "Ada" (at 1 15) (at 1 16) "Text_IO") [] (at 1 23) ∷ use_context (use_of (at 1 25) None (selected (at 1 29) "Ada"
    (at 1 32) (at 1 33) "Text_IO") [] (at 1 40)) ∷ context.With (at 1 42) (selected (at 1 47) "Ada" (at 1 50) (at 1 51)
    "Integer_Text_IO") [] (at 1 66) ∷ use_context (use_of (at 1 68) None (selected (at 1 72) "Ada" (at 1 75) (at 1 76)
    "Integer_Text_IO") [] (at 1 91)) ∷ context.With (at 1 93) (selected (at 1 98) "Ada" (at 1 101) (at 1 102)
    "Unchecked_Deallocation") [] (at 1 124) ∷ []) (subprogram_of (at 2 4) (subspec.Procedure (at 2 4) (id (at 2 14)
    "Main") None) None (at 2 19) (item.IncompleteType (at 3 1) (id (at 3 6) "Cell") (at 3 10) ∷ item.AccessType (at 4 1)
    (id (at 4 6) "List") (at 4 11) (at 4 14) (mark (at 4 21) "Cell") (at 4 25) ∷ item.RecordType (at 5 1) (id (at 5 6)
    "Cell") (at 5 11) (at 5 14) (fields_of (id (at 5 21) "Value") [] (at 5 27) (mark (at 5 29) "Integer") (at 5 36))
    (fields_of (id (at 5 38) "Next") [] (at 5 43) (mark (at 5 45) "List") (at 5 49) ∷ []) (at 5 51) (at 5 55) (at 5 61)
    ∷ objects_of (id (at 6 1) "X") (next_id_of (at 6 2) (at 6 4) "Y" ∷ []) (at 6 6) None (indication_of (mark (at 6 8)
    "List")) (at 6 12) ∷ initialized_of (id (at 7 1) "N") [] (at 7 3) None (indication_of (mark (at 7 5) "Integer")) (at
    7 13) (expr_of (at 7 16) (primary.Number (at 7 16) 3)) (at 7 17) ∷ []) (at 8 1) (stmts.Sequence (at 9 7) (stmt.While
    (at 9 7) (expr.LoneRelation (at 9 13) (rel.Compared (at 9 13) (sum_of (at 9 13) (object (at 9 13) "N"))
    relational.Greater (at 9 15) (sum_of (at 9 17) (primary.Number (at 9 17) 5)))) (at 9 19) (sole (at 9 24) (assign_of
    (at 9 24) "N" [] (at 9 26) (expr.LoneRelation (at 9 29) (rel.LoneSum (at 9 29) (sum.Unsigned (at 9 29) (term.Product
    (at 9 29) (factor_of (at 9 29) (object (at 9 29) "N")) (next_factor.FurtherFactor (at 9 31) multiplying.Divide
    (factor_of (at 9 33) (primary.Number (at 9 33) 2)) ∷ [])) []))) (at 9 34))) (at 9 36) (at 9 40) (at 9 44))
    (assign_of (at 10 1) "N" [] (at 10 3) (expr.LoneRelation (at 10 6) (rel.LoneSum (at 10 6) (sum.Unsigned (at 10 6)
    (term.Product (at 10 6) (factor_of (at 10 6) (object (at 10 6) "N")) (next_factor.FurtherFactor (at 10 8)
    multiplying.Multiply (factor_of (at 10 10) (primary.Number (at 10 10) 2)) ∷ [])) (next_term.FurtherTerm (at 10 12)
    adding.Add (term_of (at 10 14) (primary.Number (at 10 14) 1)) ∷ [])))) (at 10 15) ∷ [])) (at 11 1) (Some (id (at 11
    5) "Main")) (at 11 9)) ∷ unit.OfBody (at 12 4) [] (package_body_of (at 12 4) (at 12 12) (id (at 12 17) "Plain_P")
    None (at 12 25) (part.Declared (at 12 28) (decl.OfItem (at 12 28) (objects_of (id (at 12 28) "Plain_Y") [] (at 12
    36) None (indication_of (mark (at 12 38) "Integer")) (at 12 45))) ∷ []) (at 12 47) (Some (id (at 12 51) "Plain_P"))
    (at 12 58)) ∷ unit.OfPackage (at 13 1) [] (package_of (at 13 1) (id (at 13 9) "Plain_P") None (at 13 17)
    (decl.OfItem (at 13 20) (objects_of (id (at 13 20) "Plain_X") [] (at 13 28) None (indication_of (mark (at 13 30)
    "Integer")) (at 13 37)) ∷ []) None (at 13 39) (Some (id (at 13 43) "Plain_P")) (at 13 50)) ∷ []) ∷ [])
unfolding computes resolves
later_unit_1 = refl

later_unit_2 : IsFirstBrokenOf TooEarly (at 1 6) ((unit.OfPackage (at 1 1) (context.With (at 1 1) (mark (at 1 6)
    "Extra_P") [] (at 1 13) ∷ []) (package_of (at 1 15) (id (at 1 23) "Extra_R") None (at 1 31) (decl.OfItem (at 1 34)
    (objects_of (id (at 1 34) "Extra_Z") [] (at 1 42) None (indication_of (mark (at 1 44) "Integer")) (at 1 51)) ∷ [])
    None (at 1 53) (Some (id (at 1 57) "Extra_R")) (at 1 64)) ∷ unit.OfPackage (at 1 66) [] (package_of (at 1 66) (id
    (at 1 74) "Extra_P") None (at 1 82) (decl.OfItem (at 1 85) (objects_of (id (at 1 85) "Extra_X") [] (at 1 93) None
    (indication_of (mark (at 1 95) "Integer")) (at 1 102)) ∷ []) None (at 1 104) (Some (id (at 1 108) "Extra_P")) (at 1
    115)) ∷ unit.OfSubprogram (at 2 1) (context.With (at 2 1) (selected (at 2 6) "Ada" (at 2 9) (at 2 10) "Text_IO") []
    (at 2 17) ∷ use_context (use_of (at 2 19) None (selected (at 2 23) "Ada" (at 2 26) (at 2 27) "Text_IO") [] (at 2
    34)) ∷ context.With (at 2 36) (selected (at 2 41) "Ada" (at 2 44) (at 2 45) "Integer_Text_IO") [] (at 2 60) ∷
    use_context (use_of (at 2 62) None (selected (at 2 66) "Ada" (at 2 69) (at 2 70) "Integer_Text_IO") [] (at 2 85)) ∷
    context.With (at 2 87) (selected (at 2 92) "Ada" (at 2 95) (at 2 96) "Unchecked_Deallocation") [] (at 2 118) ∷ [])
    (subprogram_of (at 3 1) (subspec.Procedure (at 3 1) (id (at 3 11) "Main") None) None (at 3 16) (item.IncompleteType
    (at 3 19) (id (at 3 24) "Cell") (at 3 28) ∷ item.AccessType (at 4 1) (id (at 4 6) "List") (at 4 11) (at 4 14) (mark
    (at 4 21) "Cell") (at 4 25) ∷ item.RecordType (at 5 1) (id (at 5 6) "Cell") (at 5 11) (at 5 14) (fields_of (id (at 5
    21) "Value") [] (at 5 27) (mark (at 5 29) "Integer") (at 5 36)) (fields_of (id (at 5 38) "Next") [] (at 5 43) (mark
    (at 5 45) "List") (at 5 49) ∷ []) (at 5 51) (at 5 55) (at 5 61) ∷ objects_of (id (at 5 63) "X") (next_id_of (at 5
    64) (at 5 66) "Y" ∷ []) (at 5 68) None (indication_of (mark (at 5 70) "List")) (at 5 74) ∷ initialized_of (id (at 6
    1) "N") [] (at 6 3) None (indication_of (mark (at 6 5) "Integer")) (at 6 13) (expr_of (at 6 16) (primary.Number (at
    6 16) 4)) (at 6 17) ∷ []) (at 6 19) (stmts.Sequence (at 6 25) (stmt.IfElse (at 6 25) (expr.LoneRelation (at 6 28)
    (rel.Compared (at 6 28) (sum_of (at 6 28) (object (at 6 28) "N")) relational.Greater (at 6 30) (sum_of (at 6 32)
    (primary.Number (at 6 32) 3)))) (at 6 34) (sole (at 6 39) (assign_of (at 6 39) "N" [] (at 6 41) (expr.LoneRelation
    (at 6 44) (rel.LoneSum (at 6 44) (sum.Unsigned (at 6 44) (term_of (at 6 44) (object (at 6 44) "N"))
    (next_term.FurtherTerm (at 6 46) adding.Subtract (term_of (at 6 48) (primary.Number (at 6 48) 1)) ∷ [])))) (at 6
    49))) [] (at 6 51) (sole (at 6 56) (stmt.Null (at 6 56) (at 6 60))) (at 6 62) (at 6 66) (at 6 68)) (stmt.If (at 6
    70) (expr.LoneRelation (at 6 73) (rel.LoneSum (at 6 73) (sum.Unsigned (at 6 73) (term.Product (at 6 73) (factor.Not
    (at 6 73) (object (at 6 77) "End_Of_File")) []) []))) (at 6 89) (sole (at 6 94) (call_of (at 6 94) "Get"
    (suffix.Applied (at 6 98) (actual_of (at 6 99) (object (at 6 99) "N")) [] (at 6 100) ∷ []) (at 6 101))) [] (at 6
    103) (at 6 107) (at 6 109) ∷ assign_of (at 7 1) "Y" [] (at 7 3) (expr_of (at 7 6) (object (at 7 6) "X")) (at 7 7) ∷
    assign_of (at 7 9) "X" [] (at 7 11) (expr_of (at 7 14) (primary.Null (at 7 14))) (at 7 18) ∷ assign_of (at 7 20) "N"
    [] (at 7 22) (expr.LoneRelation (at 7 25) (rel.LoneSum (at 7 25) (sum.Unsigned (at 7 25) (term.Product (at 7 25)
    (factor_of (at 7 25) (object (at 7 25) "N")) (next_factor.FurtherFactor (at 7 27) multiplying.Multiply (factor_of
    (at 7 29) (primary.Number (at 7 29) 2)) ∷ [])) (next_term.FurtherTerm (at 7 31) adding.Add (term_of (at 7 33)
    (primary.Number (at 7 33) 1)) ∷ [])))) (at 7 34) ∷ assign_of (at 7 36) "X" [] (at 7 38) (expr_of (at 7 41)
    (primary.AllocatedAggregate (at 7 41) (mark (at 7 45) "Cell") (at 7 49) (aggregate.Several (at 7 50) (actual_of (at
    7 51) (object (at 7 51) "N")) (at 7 52) (actual_of (at 7 54) (primary.Null (at 7 54))) [] (at 7 58)))) (at 7 59) ∷
    [])) (at 7 61) (Some (id (at 7 65) "Main")) (at 7 69)) ∷ []) ∷ [])
unfolding computes resolves
later_unit_2 = refl

later_unit_3 : IsFirstBrokenOf TooEarly (at 41 6) ((unit.OfSubprogram (at 1 1) (context.With (at 1 1) (selected (at 1 6)
    "Ada" (at 1 9) (at 1 10) "Text_IO") [] (at 1 17) ∷ use_context (use_of (at 1 19) None (selected (at 1 23) "Ada" (at
    1 26) (at 1 27) "Text_IO") [] (at 1 34)) ∷ context.With (at 2 4) (selected (at 2 9) "Ada" (at 2 12) (at 2 13)
    "Integer_Text_IO") [] (at 2 28) ∷ use_context (use_of (at 2 30) None (selected (at 2 34) "Ada" (at 2 37) (at 2 38)
    "Integer_Text_IO") [] (at 2 53)) ∷ context.With (at 3 4) (selected (at 3 9) "Ada" (at 3 12) (at 3 13)
    "Unchecked_Deallocation") [] (at 3 35) ∷ []) (subprogram_of (at 4 1) (subspec.Procedure (at 4 1) (id (at 4 11)
    "Main") None) None (at 4 16) (item.ArrayType (at 5 1) (id (at 5 6) "A1") (at 5 9) (at 5 12) (at 5 18) (range.Bounds
    (at 5 19) (expr_of (at 5 19) (primary.Number (at 5 19) 1)) (at 5 21) (expr_of (at 5 24) (primary.Number (at 5 24)
    2))) (at 5 25) (at 5 27) (mark (at 5 30) "Integer") (at 5 37) ∷ item.AccessType (at 6 1) (id (at 6 6) "P1") (at 6 9)
    (at 6 12) (mark (at 6 19) "Integer") (at 6 26) ∷ item.Instance (at 7 4) (id (at 7 14) "Free1") (at 7 20) (at 7 23)
    (selected (at 7 27) "Ada" (at 7 30) (at 7 31) "Unchecked_Deallocation") (at 7 54) (actual_of (at 7 55) (object (at 7
    55) "Integer")) (next_arg.FurtherArg (at 7 62) (actual_of (at 7 64) (object (at 7 64) "P1")) ∷ []) (at 7 66) (at 7
    67) ∷ item.RecordType (at 8 7) (id (at 8 12) "R1") (at 8 15) (at 8 18) (fields_of (id (at 8 25) "F1") [] (at 8 28)
    (mark (at 8 30) "A1") (at 8 32)) (fields_of (id (at 8 34) "F2") [] (at 8 37) (mark (at 8 39) "A1") (at 8 41) ∷
    fields_of (id (at 8 43) "F3") [] (at 8 46) (mark (at 8 48) "A1") (at 8 50) ∷ []) (at 8 52) (at 8 56) (at 8 62) ∷
    objects_of (id (at 9 7) "V1") (next_id_of (at 9 9) (at 9 11) "V2" ∷ []) (at 9 14) None (indication_of (mark (at 9
    16) "P1")) (at 9 18) ∷ objects_of (id (at 10 1) "V3") [] (at 10 4) None (indication_of (mark (at 10 6) "R1")) (at 10
    8) ∷ initialized_of (id (at 11 7) "V4") [] (at 11 10) None (indication_of (mark (at 11 12) "Boolean")) (at 11 20)
    (expr.LoneRelation (at 11 23) (rel.Compared (at 11 23) (sum_of (at 11 23) (primary.Parenthesized (at 11 23)
    (expr.LoneRelation (at 11 24) (rel.LoneSum (at 11 24) (sum.Signed (at 11 24) sign.Minus (term_of (at 11 25) (named
    (at 11 25) "V3" (suffix.Selected (at 11 27) (id (at 11 28) "F2") ∷ suffix.Applied (at 11 31) (arg.Positional (at 11
    32) (expr.LoneRelation (at 11 32) (rel.LoneSum (at 11 32) (sum.Unsigned (at 11 32) (term_of (at 11 32)
    (primary.Number (at 11 32) 0)) (next_term.FurtherTerm (at 11 34) adding.Add (term_of (at 11 36) (primary.Number (at
    11 36) 1)) ∷ []))))) [] (at 11 37) ∷ []))) []))) (at 11 38))) relational.LessEqual (at 11 40) (sum_of (at 11 43)
    (named (at 11 43) "V3" (suffix.Selected (at 11 45) (id (at 11 46) "F3") ∷ suffix.Applied (at 11 49) (actual_of (at
    11 50) (primary.Number (at 11 50) 2)) [] (at 11 51) ∷ []))))) (at 11 52) ∷ objects_of (id (at 12 1) "V5")
    (next_id_of (at 12 3) (at 12 5) "V6" ∷ []) (at 12 8) None (indication_of (mark (at 12 10) "R1")) (at 12 12) ∷ [])
    (at 13 7) (stmts.Sequence (at 14 4) (assign_of (at 14 4) "V5" (suffix.Selected (at 14 6) (id (at 14 7) "F2") ∷
    suffix.Applied (at 14 10) (actual_of (at 14 11) (primary.Number (at 14 11) 1)) [] (at 14 12) ∷ []) (at 14 14)
    (expr_of (at 14 17) (primary.Parenthesized (at 14 17) (expr.LoneRelation (at 14 18) (rel.LoneSum (at 14 18)
    (sum.Unsigned (at 14 18) (term.Product (at 14 18) (factor_of (at 14 18) (primary.Number (at 14 18) 3))
    (next_factor.FurtherFactor (at 14 20) multiplying.Modulo (factor_of (at 14 24) (primary.Number (at 14 24) 6)) ∷ []))
    []))) (at 14 25))) (at 14 26)) (call_of (at 15 1) "Free1" (suffix.Applied (at 15 7) (actual_of (at 15 8) (object (at
    15 8) "V2")) [] (at 15 10) ∷ []) (at 15 11) ∷ stmt.DeclareBlock (at 16 1) (initialized_of (id (at 17 1) "B1") [] (at
    17 4) None (indication.Anonymous (at 17 6) None (mark (at 17 13) "Integer")) (at 17 21) (expr_of (at 17 24) (object
    (at 17 24) "V2")) (at 17 26) ∷ []) (at 18 7) (sole (at 19 1) (stmt.Null (at 19 1) (at 19 5))) (at 20 1) (at 20 4) ∷
    assign_of (at 21 4) "V3" (suffix.Selected (at 21 6) (id (at 21 7) "F2") ∷ suffix.Applied (at 21 10) (actual_of (at
    21 11) (primary.Number (at 21 11) 1)) [] (at 21 12) ∷ []) (at 21 14) (expr_of (at 21 17) (primary.Parenthesized (at
    21 17) (expr.LoneRelation (at 21 18) (rel.LoneSum (at 21 18) (sum.Unsigned (at 21 18) (term.Product (at 21 18)
    (factor_of (at 21 18) (named (at 21 18) "V5" (suffix.Selected (at 21 20) (id (at 21 21) "F3") ∷ suffix.Applied (at
    21 24) (actual_of (at 21 25) (primary.Number (at 21 25) 2)) [] (at 21 26) ∷ []))) (next_factor.FurtherFactor (at 21
    28) multiplying.Remainder (factor_of (at 21 32) (primary.Number (at 21 32) 7)) ∷ [])) []))) (at 21 33))) (at 21 34)
    ∷ stmt.DeclareBlock (at 22 1) (initialized_of (id (at 23 1) "C1") [] (at 23 4) None (indication.Anonymous (at 23 6)
    (Some (at 23 13)) (mark (at 23 22) "Integer")) (at 23 30) (expr_of (at 23 33) (object (at 23 33) "V2")) (at 23 35) ∷
    []) (at 24 4) (sole (at 25 1) (stmt.If (at 25 1) (expr.AndThen (at 25 4) (rel_of (at 25 4) (primary.Parenthesized
    (at 25 4) (expr.LoneRelation (at 25 5) (rel.Compared (at 25 5) (sum_of (at 25 5) (object (at 25 5) "C1"))
    relational.NotEqual (at 25 8) (sum_of (at 25 11) (primary.Null (at 25 11))))) (at 25 15))) (at 25 17) (at 25 21)
    (rel_of (at 25 26) (primary.Parenthesized (at 25 26) (expr.LoneRelation (at 25 27) (rel.Compared (at 25 27) (sum_of
    (at 25 27) (object (at 25 27) "C1")) relational.Equal (at 25 30) (sum_of (at 25 32) (primary.Null (at 25 32))))) (at
    25 36))) []) (at 25 38) (stmts.Sequence (at 26 7) (assign_of (at 26 7) "V1" [] (at 26 10) (expr_of (at 26 13)
    (primary.AllocatedValue (at 26 13) (mark (at 26 17) "Integer") (at 26 24) (at 26 25) (expr_of (at 26 26) (named (at
    26 26) "Positive" (suffix.Attribute (at 26 34) (id (at 26 35) "First") ∷ []))) (at 26 40))) (at 26 41)) (stmt.Case
    (at 27 4) (expr_of (at 27 9) (named (at 27 9) "V5" (suffix.Selected (at 27 11) (id (at 27 12) "F1") ∷ suffix.Applied
    (at 27 15) (actual_of (at 27 16) (primary.Number (at 27 16) 1)) [] (at 27 17) ∷ []))) (at 27 19)
    (alternative.Alternative (at 28 7) (choice.Value (at 28 12) (expr_of (at 28 12) (primary.Number (at 28 12) 6)))
    (next_choice.Bar (at 28 14) (choice.Value (at 28 16) (expr_of (at 28 16) (primary.Number (at 28 16) 1))) ∷ []) (at
    28 18) (stmts.Sequence (at 29 4) (stmt.If (at 29 4) (expr.LoneRelation (at 29 7) (rel.LoneSum (at 29 7)
    (sum.Unsigned (at 29 7) (term.Product (at 29 7) (factor.Not (at 29 7) (object (at 29 11) "End_Of_File")) []) [])))
    (at 29 23) (sole (at 30 7) (call_of (at 30 7) "Get" (suffix.Applied (at 30 11) (actual_of (at 30 12) (named (at 30
    12) "V3" (suffix.Selected (at 30 14) (id (at 30 15) "F1") ∷ suffix.Applied (at 30 18) (actual_of (at 30 19)
    (primary.Number (at 30 19) 1)) [] (at 30 20) ∷ []))) [] (at 30 21) ∷ []) (at 30 22))) [] (at 31 4) (at 31 8) (at 31
    10)) (assign_of (at 32 1) "V3" (suffix.Selected (at 32 3) (id (at 32 4) "F3") ∷ suffix.Applied (at 32 7) (actual_of
    (at 32 8) (primary.Number (at 32 8) 1)) [] (at 32 9) ∷ []) (at 32 11) (expr_of (at 32 14) (named (at 32 14) "V3"
    (suffix.Selected (at 32 16) (id (at 32 17) "F1") ∷ suffix.Applied (at 32 20) (actual_of (at 32 21) (primary.Number
    (at 32 21) 2)) [] (at 32 22) ∷ []))) (at 32 23) ∷ []))) (alternative.Alternative (at 33 1) (choice.Value (at 33 6)
    (expr_of (at 33 6) (primary.Number (at 33 6) 3))) [] (at 33 8) (sole (at 34 4) (assign_of (at 34 4) "V1" [] (at 34
    7) (expr_of (at 34 10) (object (at 34 10) "V1")) (at 34 12))) ∷ alternative.Alternative (at 35 1) (choice.Others (at
    35 6)) [] (at 35 13) (sole (at 36 4) (assign_of (at 36 4) "V3" (suffix.Selected (at 36 6) (id (at 36 7) "F2") ∷
    suffix.Applied (at 36 10) (actual_of (at 36 11) (primary.Number (at 36 11) 1)) [] (at 36 12) ∷ []) (at 36 14)
    (expr_of (at 36 17) (primary.Parenthesized (at 36 17) (expr.LoneRelation (at 36 18) (rel.LoneSum (at 36 18)
    (sum.Signed (at 36 18) sign.Minus (term_of (at 36 19) (primary.Number (at 36 19) 17)) []))) (at 36 21))) (at 36
    22))) ∷ []) (at 37 7) (at 37 11) (at 37 15) ∷ [])) [] (at 38 1) (at 38 5) (at 38 7))) (at 39 7) (at 39 10) ∷ []))
    (at 40 1) (Some (id (at 40 5) "Main")) (at 40 9)) ∷ unit.OfPackage (at 41 1) (context.With (at 41 1) (mark (at 41 6)
    "Second_R") [] (at 41 14) ∷ []) (package_of (at 41 16) (id (at 41 24) "Second_R") None (at 41 33) (decl.OfItem (at
    41 36) (objects_of (id (at 41 36) "Second_Z") [] (at 41 45) None (indication_of (mark (at 41 47) "Integer")) (at 41
    54)) ∷ []) None (at 41 56) (Some (id (at 41 60) "Second_R")) (at 41 68)) ∷ []) ∷ [])
unfolding computes resolves
later_unit_3 = refl

later_unit_4 : IsFirstBrokenOf TooEarly (at 31 14) ((unit.OfPackage (at 1 1) (context.With (at 1 1) (selected (at 1 6)
    "Ada" (at 1 9) (at 1 10) "Text_IO") [] (at 1 17) ∷ use_context (use_of (at 1 19) None (selected (at 1 23) "Ada" (at
    1 26) (at 1 27) "Text_IO") [] (at 1 34)) ∷ context.With (at 1 36) (selected (at 1 41) "Ada" (at 1 44) (at 1 45)
    "Integer_Text_IO") [] (at 1 60) ∷ use_context (use_of (at 1 62) None (selected (at 1 66) "Ada" (at 1 69) (at 1 70)
    "Integer_Text_IO") [] (at 1 85)) ∷ context.With (at 1 87) (selected (at 1 92) "Ada" (at 1 95) (at 1 96)
    "Unchecked_Deallocation") [] (at 1 118) ∷ []) (package_of (at 2 1) (id (at 2 9) "Store") None (at 2 15) (decl.OfItem
    (at 3 1) (item.IncompleteType (at 3 1) (id (at 3 6) "Cell") (at 3 10)) ∷ decl.OfItem (at 4 1) (item.AccessType (at 4
    1) (id (at 4 6) "List") (at 4 11) (at 4 14) (mark (at 4 21) "Cell") (at 4 25)) ∷ decl.OfItem (at 5 1)
    (item.RecordType (at 5 1) (id (at 5 6) "Cell") (at 5 11) (at 5 14) (fields_of (id (at 5 21) "Value") [] (at 5 27)
    (mark (at 5 29) "Integer") (at 5 36)) (fields_of (id (at 5 38) "Next") [] (at 5 43) (mark (at 5 45) "List") (at 5
    49) ∷ []) (at 5 51) (at 5 55) (at 5 61)) ∷ decl.Subprogram (at 6 1) (subspec.Procedure (at 6 1) (id (at 6 11)
    "Push") (Some (formals_of (at 6 16) (moded_of (id (at 6 17) "L") [] (at 6 19) (Some (at 6 21)) (Some (at 6 24))
    (mark (at 6 28) "List")) (next_formal.Semicolon (at 6 32) (moded_of (id (at 6 34) "V") [] (at 6 36) None None (mark
    (at 6 38) "Integer")) ∷ []) (at 6 45)))) None (at 6 46) ∷ decl.Subprogram (at 7 1) (subspec.Function (at 7 1) (id
    (at 7 10) "Sum") (Some (formals_of (at 7 14) (moded_of (id (at 7 15) "L") [] (at 7 17) None None (mark (at 7 19)
    "List")) [] (at 7 23))) (at 7 25) (indication_of (mark (at 7 32) "Integer"))) None (at 7 39) ∷ decl.OfItem (at 8 1)
    (objects_of (id (at 8 1) "Total") [] (at 8 7) None (indication_of (mark (at 8 9) "Integer")) (at 8 16)) ∷ []) None
    (at 9 1) (Some (id (at 9 5) "Store")) (at 9 10)) ∷ unit.OfBody (at 10 1) [] (package_body_of (at 10 1) (at 10 9) (id
    (at 10 14) "Store") None (at 10 20) (part.Completed (at 11 1) (subprogram_of (at 11 1) (subspec.Procedure (at 11 1)
    (id (at 11 11) "Push") (Some (formals_of (at 11 16) (moded_of (id (at 11 17) "L") [] (at 11 19) (Some (at 11 21))
    (Some (at 11 24)) (mark (at 11 28) "List")) (next_formal.Semicolon (at 11 32) (moded_of (id (at 11 34) "V") [] (at
    11 36) None None (mark (at 11 38) "Integer")) ∷ []) (at 11 45)))) None (at 11 47) [] (at 12 1) (sole (at 13 1)
    (assign_of (at 13 1) "L" [] (at 13 3) (expr_of (at 13 6) (primary.AllocatedAggregate (at 13 6) (mark (at 13 10)
    "Cell") (at 13 14) (aggregate.Several (at 13 15) (actual_of (at 13 16) (object (at 13 16) "V")) (at 13 17)
    (actual_of (at 13 19) (object (at 13 19) "L")) [] (at 13 20)))) (at 13 21))) (at 14 1) (Some (id (at 14 5) "Push"))
    (at 14 9)) ∷ part.Completed (at 15 1) (subprogram_of (at 15 1) (subspec.Function (at 15 1) (id (at 15 10) "Sum")
    (Some (formals_of (at 15 14) (moded_of (id (at 15 15) "L") [] (at 15 17) None None (mark (at 15 19) "List")) [] (at
    15 23))) (at 15 25) (indication_of (mark (at 15 32) "Integer"))) None (at 15 40) (initialized_of (id (at 16 1) "C")
    [] (at 16 3) None (indication.Anonymous (at 16 5) (Some (at 16 12)) (mark (at 16 21) "Cell")) (at 16 26) (expr_of
    (at 16 29) (object (at 16 29) "L")) (at 16 30) ∷ initialized_of (id (at 17 1) "N") [] (at 17 3) None (indication_of
    (mark (at 17 5) "Integer")) (at 17 13) (expr_of (at 17 16) (primary.Number (at 17 16) 0)) (at 17 17) ∷ []) (at 18 1)
    (stmts.Sequence (at 19 1) (stmt.While (at 19 1) (expr.LoneRelation (at 19 7) (rel.Compared (at 19 7) (sum_of (at 19
    7) (object (at 19 7) "C")) relational.NotEqual (at 19 9) (sum_of (at 19 12) (primary.Null (at 19 12))))) (at 19 17)
    (stmts.Sequence (at 19 22) (assign_of (at 19 22) "N" [] (at 19 24) (expr.LoneRelation (at 19 27) (rel.LoneSum (at 19
    27) (sum.Unsigned (at 19 27) (term_of (at 19 27) (object (at 19 27) "N")) (next_term.FurtherTerm (at 19 29)
    adding.Add (term_of (at 19 31) (named (at 19 31) "C" (suffix.Selected (at 19 32) (id (at 19 33) "Value") ∷ []))) ∷
    [])))) (at 19 38)) (assign_of (at 19 40) "C" [] (at 19 42) (expr_of (at 19 45) (named (at 19 45) "C"
    (suffix.Selected (at 19 46) (id (at 19 47) "Next") ∷ []))) (at 19 51) ∷ [])) (at 19 53) (at 19 57) (at 19 61))
    (stmt.ReturnValue (at 20 1) (expr_of (at 20 8) (object (at 20 8) "N")) (at 20 9) ∷ [])) (at 21 1) (Some (id (at 21
    5) "Sum")) (at 21 8)) ∷ []) (at 22 1) (Some (id (at 22 5) "Store")) (at 22 10)) ∷ unit.OfSubprogram (at 23 1)
    (context.With (at 23 1) (selected (at 23 6) "Ada" (at 23 9) (at 23 10) "Text_IO") [] (at 23 17) ∷ use_context
    (use_of (at 23 19) None (selected (at 23 23) "Ada" (at 23 26) (at 23 27) "Text_IO") [] (at 23 34)) ∷ context.With
    (at 23 36) (selected (at 23 41) "Ada" (at 23 44) (at 23 45) "Integer_Text_IO") [] (at 23 60) ∷ use_context (use_of
    (at 23 62) None (selected (at 23 66) "Ada" (at 23 69) (at 23 70) "Integer_Text_IO") [] (at 23 85)) ∷ context.With
    (at 23 87) (selected (at 23 92) "Ada" (at 23 95) (at 23 96) "Unchecked_Deallocation") [] (at 23 118) ∷ context.With
    (at 23 120) (mark (at 23 125) "Store") [] (at 23 130) ∷ use_context (use_of (at 23 132) None (mark (at 23 136)
    "Store") [] (at 23 141)) ∷ []) (subprogram_of (at 24 1) (subspec.Procedure (at 24 1) (id (at 24 11) "Main") None)
    None (at 24 16) (objects_of (id (at 25 1) "X") (next_id_of (at 25 2) (at 25 4) "Y" ∷ []) (at 25 6) None
    (indication_of (mark (at 25 8) "List")) (at 25 12) ∷ initialized_of (id (at 26 1) "N") [] (at 26 3) None
    (indication_of (mark (at 26 5) "Integer")) (at 26 13) (expr_of (at 26 16) (primary.Number (at 26 16) 3)) (at 26 17)
    ∷ []) (at 27 1) (stmts.Sequence (at 28 1) (call_of (at 28 1) "Push" (suffix.Applied (at 28 6) (actual_of (at 28 7)
    (object (at 28 7) "X")) (next_arg.FurtherArg (at 28 8) (actual_of (at 28 10) (object (at 28 10) "N")) ∷ []) (at 28
    11) ∷ []) (at 28 12)) (call_of (at 29 1) "Put_Line" (suffix.Applied (at 29 10) (actual_of (at 29 11) (named (at 29
    11) "Integer" (suffix.Attribute (at 29 18) (id (at 29 19) "Image") ∷ suffix.Applied (at 29 25) (actual_of (at 29 26)
    (object (at 29 26) "N")) [] (at 29 27) ∷ []))) [] (at 29 28) ∷ []) (at 29 29) ∷ [])) (at 30 1) (Some (id (at 30 5)
    "Main")) (at 30 9)) ∷ unit.OfBody (at 31 1) [] (package_body_of (at 31 1) (at 31 9) (id (at 31 14) "Usual_P") None
    (at 31 22) (part.Declared (at 31 25) (decl.OfItem (at 31 25) (objects_of (id (at 31 25) "Usual_Y") [] (at 31 33)
    None (indication_of (mark (at 31 35) "Integer")) (at 31 42))) ∷ []) (at 31 44) (Some (id (at 31 48) "Usual_P")) (at
    31 55)) ∷ unit.OfPackage (at 32 1) [] (package_of (at 32 1) (id (at 32 9) "Usual_P") None (at 32 17) (decl.OfItem
    (at 32 20) (objects_of (id (at 32 20) "Usual_X") [] (at 32 28) None (indication_of (mark (at 32 30) "Integer")) (at
    32 37)) ∷ []) None (at 32 39) (Some (id (at 32 43) "Usual_P")) (at 32 50)) ∷ []) ∷ [])
unfolding computes resolves
later_unit_4 = refl

later_unit_5 : IsFirstBrokenOf TooEarly (at 35 6) ((unit.OfPackage (at 1 1) (context.With (at 1 1) (selected (at 1 6)
    "Ada" (at 1 9) (at 1 10) "Text_IO") [] (at 1 17) ∷ use_context (use_of (at 1 19) None (selected (at 1 23) "Ada" (at
    1 26) (at 1 27) "Text_IO") [] (at 1 34)) ∷ context.With (at 1 36) (selected (at 1 41) "Ada" (at 1 44) (at 1 45)
    "Integer_Text_IO") [] (at 1 60) ∷ use_context (use_of (at 1 62) None (selected (at 1 66) "Ada" (at 1 69) (at 1 70)
    "Integer_Text_IO") [] (at 1 85)) ∷ context.With (at 1 87) (selected (at 1 92) "Ada" (at 1 95) (at 1 96)
    "Unchecked_Deallocation") [] (at 1 118) ∷ []) (package_of (at 2 1) (id (at 2 9) "Store") None (at 2 15) (decl.OfItem
    (at 3 1) (item.IncompleteType (at 3 1) (id (at 3 6) "Cell") (at 3 10)) ∷ decl.OfItem (at 4 1) (item.AccessType (at 4
    1) (id (at 4 6) "List") (at 4 11) (at 4 14) (mark (at 4 21) "Cell") (at 4 25)) ∷ decl.OfItem (at 5 1)
    (item.RecordType (at 5 1) (id (at 5 6) "Cell") (at 5 11) (at 5 14) (fields_of (id (at 5 21) "Value") [] (at 5 27)
    (mark (at 5 29) "Integer") (at 5 36)) (fields_of (id (at 5 38) "Next") [] (at 5 43) (mark (at 5 45) "List") (at 5
    49) ∷ []) (at 5 51) (at 5 55) (at 5 61)) ∷ decl.Subprogram (at 6 1) (subspec.Procedure (at 6 1) (id (at 6 11)
    "Push") (Some (formals_of (at 6 16) (moded_of (id (at 6 17) "L") [] (at 6 19) (Some (at 6 21)) (Some (at 6 24))
    (mark (at 6 28) "List")) (next_formal.Semicolon (at 6 32) (moded_of (id (at 6 34) "V") [] (at 6 36) None None (mark
    (at 6 38) "Integer")) ∷ []) (at 6 45)))) None (at 6 46) ∷ decl.Subprogram (at 7 1) (subspec.Function (at 7 1) (id
    (at 7 10) "Sum") (Some (formals_of (at 7 14) (moded_of (id (at 7 15) "L") [] (at 7 17) None None (mark (at 7 19)
    "List")) [] (at 7 23))) (at 7 25) (indication_of (mark (at 7 32) "Integer"))) None (at 7 39) ∷ decl.OfItem (at 8 1)
    (objects_of (id (at 8 1) "Total") [] (at 8 7) None (indication_of (mark (at 8 9) "Integer")) (at 8 16)) ∷ []) None
    (at 9 1) (Some (id (at 9 5) "Store")) (at 9 10)) ∷ unit.OfBody (at 10 1) [] (package_body_of (at 10 1) (at 10 9) (id
    (at 10 14) "Store") None (at 10 20) (part.Completed (at 11 1) (subprogram_of (at 11 1) (subspec.Procedure (at 11 1)
    (id (at 11 11) "Push") (Some (formals_of (at 11 16) (moded_of (id (at 11 17) "L") [] (at 11 19) (Some (at 11 21))
    (Some (at 11 24)) (mark (at 11 28) "List")) (next_formal.Semicolon (at 11 32) (moded_of (id (at 11 34) "V") [] (at
    11 36) None None (mark (at 11 38) "Integer")) ∷ []) (at 11 45)))) None (at 11 47) [] (at 12 1) (sole (at 13 1)
    (assign_of (at 13 1) "L" [] (at 13 3) (expr_of (at 13 6) (primary.AllocatedAggregate (at 13 6) (mark (at 13 10)
    "Cell") (at 13 14) (aggregate.Several (at 13 15) (actual_of (at 13 16) (object (at 13 16) "V")) (at 13 17)
    (actual_of (at 13 19) (object (at 13 19) "L")) [] (at 13 20)))) (at 13 21))) (at 14 1) (Some (id (at 14 5) "Push"))
    (at 14 9)) ∷ part.Completed (at 15 1) (subprogram_of (at 15 1) (subspec.Function (at 15 1) (id (at 15 10) "Sum")
    (Some (formals_of (at 15 14) (moded_of (id (at 15 15) "L") [] (at 15 17) None None (mark (at 15 19) "List")) [] (at
    15 23))) (at 15 25) (indication_of (mark (at 15 32) "Integer"))) None (at 15 40) (initialized_of (id (at 16 1) "C")
    [] (at 16 3) None (indication.Anonymous (at 16 5) (Some (at 16 12)) (mark (at 16 21) "Cell")) (at 16 26) (expr_of
    (at 16 29) (object (at 16 29) "L")) (at 16 30) ∷ initialized_of (id (at 17 1) "N") [] (at 17 3) None (indication_of
    (mark (at 17 5) "Integer")) (at 17 13) (expr_of (at 17 16) (primary.Number (at 17 16) 0)) (at 17 17) ∷ []) (at 18 1)
    (stmts.Sequence (at 19 1) (stmt.While (at 19 1) (expr.LoneRelation (at 19 7) (rel.Compared (at 19 7) (sum_of (at 19
    7) (object (at 19 7) "C")) relational.NotEqual (at 19 9) (sum_of (at 19 12) (primary.Null (at 19 12))))) (at 19 17)
    (stmts.Sequence (at 19 22) (assign_of (at 19 22) "N" [] (at 19 24) (expr.LoneRelation (at 19 27) (rel.LoneSum (at 19
    27) (sum.Unsigned (at 19 27) (term_of (at 19 27) (object (at 19 27) "N")) (next_term.FurtherTerm (at 19 29)
    adding.Add (term_of (at 19 31) (named (at 19 31) "C" (suffix.Selected (at 19 32) (id (at 19 33) "Value") ∷ []))) ∷
    [])))) (at 19 38)) (assign_of (at 19 40) "C" [] (at 19 42) (expr_of (at 19 45) (named (at 19 45) "C"
    (suffix.Selected (at 19 46) (id (at 19 47) "Next") ∷ []))) (at 19 51) ∷ [])) (at 19 53) (at 19 57) (at 19 61))
    (stmt.ReturnValue (at 20 1) (expr_of (at 20 8) (object (at 20 8) "N")) (at 20 9) ∷ [])) (at 21 1) (Some (id (at 21
    5) "Sum")) (at 21 8)) ∷ []) (at 22 1) (Some (id (at 22 5) "Store")) (at 22 10)) ∷ unit.OfSubprogram (at 23 1)
    (context.With (at 23 1) (selected (at 23 6) "Ada" (at 23 9) (at 23 10) "Text_IO") [] (at 23 17) ∷ use_context
    (use_of (at 23 19) None (selected (at 23 23) "Ada" (at 23 26) (at 23 27) "Text_IO") [] (at 23 34)) ∷ context.With
    (at 23 36) (selected (at 23 41) "Ada" (at 23 44) (at 23 45) "Integer_Text_IO") [] (at 23 60) ∷ use_context (use_of
    (at 23 62) None (selected (at 23 66) "Ada" (at 23 69) (at 23 70) "Integer_Text_IO") [] (at 23 85)) ∷ context.With
    (at 23 87) (selected (at 23 92) "Ada" (at 23 95) (at 23 96) "Unchecked_Deallocation") [] (at 23 118) ∷ context.With
    (at 23 120) (mark (at 23 125) "Store") [] (at 23 130) ∷ use_context (use_of (at 23 132) None (mark (at 23 136)
    "Store") [] (at 23 141)) ∷ []) (subprogram_of (at 24 1) (subspec.Procedure (at 24 1) (id (at 24 11) "Main") None)
    None (at 24 16) (objects_of (id (at 25 1) "X") (next_id_of (at 25 2) (at 25 4) "Y" ∷ []) (at 25 6) None
    (indication_of (mark (at 25 8) "List")) (at 25 12) ∷ initialized_of (id (at 26 1) "N") [] (at 26 3) None
    (indication_of (mark (at 26 5) "Integer")) (at 26 13) (expr_of (at 26 16) (primary.Number (at 26 16) 1)) (at 26 17)
    ∷ item.Instance (at 27 1) (id (at 27 11) "Free") (at 27 16) (at 27 19) (selected (at 27 23) "Ada" (at 27 26) (at 27
    27) "Unchecked_Deallocation") (at 27 50) (actual_of (at 27 51) (object (at 27 51) "Cell")) (next_arg.FurtherArg (at
    27 55) (actual_of (at 27 57) (object (at 27 57) "List")) ∷ []) (at 27 61) (at 27 62) ∷ []) (at 28 1) (stmts.Sequence
    (at 29 1) (stmt.For (at 29 1) (id (at 29 5) "I") (at 29 7) None (range.Bounds (at 29 10) (expr_of (at 29 10)
    (primary.Number (at 29 10) 1)) (at 29 12) (expr_of (at 29 15) (primary.Number (at 29 15) 3))) (at 29 17) (sole (at
    29 22) (assign_of (at 29 22) "N" [] (at 29 24) (expr.LoneRelation (at 29 27) (rel.LoneSum (at 29 27) (sum.Unsigned
    (at 29 27) (term_of (at 29 27) (object (at 29 27) "N")) (next_term.FurtherTerm (at 29 29) adding.Add (term_of (at 29
    31) (object (at 29 31) "I")) ∷ [])))) (at 29 32))) (at 29 34) (at 29 38) (at 29 42)) (stmt.IfElse (at 30 1)
    (expr.LoneRelation (at 30 4) (rel.Compared (at 30 4) (sum_of (at 30 4) (object (at 30 4) "N")) relational.Greater
    (at 30 6) (sum_of (at 30 8) (primary.Number (at 30 8) 3)))) (at 30 10) (sole (at 30 15) (assign_of (at 30 15) "N" []
    (at 30 17) (expr.LoneRelation (at 30 20) (rel.LoneSum (at 30 20) (sum.Unsigned (at 30 20) (term_of (at 30 20)
    (object (at 30 20) "N")) (next_term.FurtherTerm (at 30 22) adding.Subtract (term_of (at 30 24) (primary.Number (at
    30 24) 1)) ∷ [])))) (at 30 25))) [] (at 30 27) (sole (at 30 32) (stmt.Null (at 30 32) (at 30 36))) (at 30 38) (at 30
    42) (at 30 44) ∷ assign_of (at 31 1) "N" [] (at 31 3) (expr.LoneRelation (at 31 6) (rel.LoneSum (at 31 6)
    (sum.Unsigned (at 31 6) (term.Product (at 31 6) (factor_of (at 31 6) (object (at 31 6) "N"))
    (next_factor.FurtherFactor (at 31 8) multiplying.Multiply (factor_of (at 31 10) (primary.Number (at 31 10) 2)) ∷
    [])) (next_term.FurtherTerm (at 31 12) adding.Add (term_of (at 31 14) (primary.Number (at 31 14) 1)) ∷ [])))) (at 31
    15) ∷ stmt.If (at 32 1) (expr.LoneRelation (at 32 4) (rel.LoneSum (at 32 4) (sum.Unsigned (at 32 4) (term.Product
    (at 32 4) (factor.Not (at 32 4) (object (at 32 8) "End_Of_File")) []) []))) (at 32 20) (sole (at 32 25) (call_of (at
    32 25) "Get" (suffix.Applied (at 32 29) (actual_of (at 32 30) (object (at 32 30) "N")) [] (at 32 31) ∷ []) (at 32
    32))) [] (at 32 34) (at 32 38) (at 32 40) ∷ stmt.While (at 33 1) (expr.LoneRelation (at 33 7) (rel.Compared (at 33
    7) (sum_of (at 33 7) (object (at 33 7) "N")) relational.Greater (at 33 9) (sum_of (at 33 11) (primary.Number (at 33
    11) 5)))) (at 33 13) (sole (at 33 18) (assign_of (at 33 18) "N" [] (at 33 20) (expr.LoneRelation (at 33 23)
    (rel.LoneSum (at 33 23) (sum.Unsigned (at 33 23) (term.Product (at 33 23) (factor_of (at 33 23) (object (at 33 23)
    "N")) (next_factor.FurtherFactor (at 33 25) multiplying.Divide (factor_of (at 33 27) (primary.Number (at 33 27) 2))
    ∷ [])) []))) (at 33 28))) (at 33 30) (at 33 34) (at 33 38) ∷ [])) (at 34 1) (Some (id (at 34 5) "Main")) (at 34 9))
    ∷ unit.OfPackage (at 35 1) (context.With (at 35 1) (mark (at 35 6) "Latest_P") [] (at 35 14) ∷ use_context (use_of
    (at 35 16) (Some (at 35 20)) (mark (at 35 25) "Integer") [] (at 35 32)) ∷ []) (package_of (at 35 34) (id (at 35 42)
    "Latest_R") None (at 35 51) (decl.OfItem (at 35 54) (objects_of (id (at 35 54) "Latest_Z") [] (at 35 63) None
    (indication_of (mark (at 35 65) "Integer")) (at 35 72)) ∷ []) None (at 35 74) (Some (id (at 35 78) "Latest_R")) (at
    35 86)) ∷ unit.OfPackage (at 36 1) [] (package_of (at 36 1) (id (at 36 9) "Latest_Q") None (at 36 18) (decl.OfItem
    (at 36 21) (objects_of (id (at 36 21) "Latest_V") [] (at 36 30) None (indication_of (mark (at 36 32) "Integer")) (at
    36 39)) ∷ []) None (at 36 41) (Some (id (at 36 45) "Latest_Q")) (at 36 53)) ∷ unit.OfPackage (at 37 1) []
    (package_of (at 37 1) (id (at 37 9) "Latest_P") None (at 37 18) (decl.OfItem (at 37 21) (objects_of (id (at 37 21)
    "Latest_X") [] (at 37 30) None (indication_of (mark (at 37 32) "Integer")) (at 37 39)) ∷ []) None (at 37 41) (Some
    (id (at 37 45) "Latest_P")) (at 37 53)) ∷ []) ∷ [])
unfolding computes resolves
later_unit_5 = refl
